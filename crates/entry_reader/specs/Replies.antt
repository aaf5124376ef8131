-- The replies without a list, by what they begin with, and what reading the words that are left as one promises.
-- Nothing outside of this crate rests on it.
use Rattle.std.specs.Prelude.{◌≡◌, ◌≢◌, ℕ, List, ◌++◌, ◌⊎◌, Option, MatchOption}
use Rattle.joint_machine.specs.declared.names.MNum.{MNum}
use Rattle.joint_machine.specs.declared.names.PNum.{PNum}
use Rattle.joint_machine.specs.declared.lines.Act.TheVariants as act
use Rattle.joint_machine.specs.declared.events.Op.{Op}
use Rattle.joint_machine.specs.declared.events.Op.TheVariants as op
use Rattle.joint_machine.specs.declared.events.Reply.{Reply}
use Rattle.joint_machine.specs.declared.events.Reply.TheVariants as reply
use Rattle.history_report.specs.Report.{reply_words, cite_words}
use Rattle.entry_reader.specs.Fitting.{FitsReply, FitsCites}
use Rattle.entry_reader.specs.Meaning.{Lists}
use Rattle.entry_reader.specs.Meant.{IsMeant}
use Rattle.entry_reader.specs.Tailing.{IsTail, ReadsTail}

-- one word, always the same
abbrev pub IsPlain : Reply → Type 0
IsPlain reply.Ok = Unit {0}
IsPlain reply.Empty = Unit {0}
IsPlain reply.Range = Unit {0}
IsPlain reply.Null = Unit {0}
IsPlain reply.Taken = Unit {0}
IsPlain reply.Gone = Unit {0}
IsPlain reply.Unset = Unit {0}
IsPlain reply.Full = Unit {0}
IsPlain reply.Plain = Unit {0}
IsPlain reply.NoMark = Unit {0}
IsPlain reply.More = Unit {0}
IsPlain reply.Done = Unit {0}
IsPlain reply.Cleared = Unit {0}
IsPlain _ = ⊥

-- a managed object first
abbrev pub IsManaged : Reply → Type 0
IsManaged (reply.M m) = Unit {0}
IsManaged (reply.New m) = Unit {0}
IsManaged (reply.Twin m) = Unit {0}
IsManaged _ = ⊥

-- a peer first
abbrev pub IsPeer : Reply → Type 0
IsPeer (reply.P p) = Unit {0}
IsPeer (reply.Made p h) = Unit {0}
IsPeer (reply.Gripped p h s n) = Unit {0}
IsPeer _ = ⊥

-- a handle
abbrev pub IsHandle : Reply → Type 0
IsHandle (reply.H h) = Unit {0}
IsHandle _ = ⊥

-- a word that tells what the next one is
abbrev pub IsKeyed : Reply → Type 0
IsKeyed (reply.Pending k) = Unit {0}
IsKeyed (reply.Pinned m) = Unit {0}
IsKeyed (reply.MarkOpen j) = Unit {0}
IsKeyed (reply.CycleOpen k) = Unit {0}
IsKeyed (reply.At p) = Unit {0}
IsKeyed (reply.Renewed h) = Unit {0}
IsKeyed _ = ⊥

-- a number first, and no list
abbrev pub IsCount : Reply → Type 0
IsCount (reply.Mark j) = Unit {0}
IsCount (reply.Sccs n m) = Unit {0}
IsCount (reply.Refs n) = Unit {0}
IsCount _ = ⊥

-- a managed object that is new, or a twin
abbrev pub IsNew : MNum → Reply → Type 0
IsNew m (reply.New n) = n ≡ m
IsNew m (reply.Twin n) = n ≡ m
IsNew m _ = ⊥

-- a peer with its handle
abbrev pub IsHeld : PNum → Reply → Type 0
IsHeld p (reply.Made q h) = q ≡ p
IsHeld p (reply.Gripped q h s n) = q ≡ p
IsHeld p _ = ⊥

-- so many components
abbrev pub IsComponents : ℕ → Reply → Type 0
IsComponents n (reply.Sccs a b) = a ≡ n
IsComponents n _ = ⊥

-- so many components, or mirrored references
abbrev pub IsCounted : ℕ → Reply → Type 0
IsCounted n (reply.Refs a) = a ≡ n
IsCounted n r = IsComponents n r

-- the words are that reply's own, with what the line cites
pub record IsEnd (words : List (List ℕ)) (r : Reply) (c : Option ℕ) : Type 0 where
  pub fits : FitsReply r
  pub cites : FitsCites c
  pub same : words ≡ reply_words r ++ cite_words c

-- the words are read as a reply of a kind, with what the line cites, exactly
abbrev pub Ends : (Reply → Type 0) → List (List ℕ) → Option (Reply × Option ℕ) → Type 0
Ends kind words result = MatchOption result
    ((r : Reply) (c : Option ℕ) → kind r → IsEnd words r c → ⊥) (λ t. kind t.0 × IsEnd words t.0 t.1)

-- the words behind a reply are read as what the line cites, exactly
abbrev pub EndsAs : Reply → List (List ℕ) → Option (Reply × Option ℕ) → Type 0
EndsAs r words result = MatchOption result ((c : Option ℕ) → FitsCites c → words ≢ cite_words c)
    (λ t. (t.0 ≡ r) × FitsCites t.1 × (words ≡ cite_words t.1))

-- the replies with a list, each kind by itself, and those without one
abbrev pub IsSnapped : Reply → Type 0
IsSnapped (reply.Snapped n s) = Unit {0}
IsSnapped _ = ⊥

abbrev pub IsSwept : Reply → Type 0
IsSwept (reply.Swept j s) = Unit {0}
IsSwept _ = ⊥

abbrev pub IsFreed : Reply → Type 0
IsFreed (reply.Freed s) = Unit {0}
IsFreed _ = ⊥

abbrev pub IsTook : Reply → Type 0
IsTook (reply.Took s) = Unit {0}
IsTook _ = ⊥

abbrev pub IsUnlisted : Reply → Type 0
IsUnlisted (reply.Snapped n s) = ⊥
IsUnlisted (reply.Swept j s) = ⊥
IsUnlisted (reply.Freed s) = ⊥
IsUnlisted (reply.Took s) = ⊥
IsUnlisted _ = Unit {0}

-- a number first, and a list
abbrev pub IsNumbered : Reply → Type 0
IsNumbered r = IsSnapped r ⊎ IsSwept r

-- a list that isn't one of notices
abbrev pub IsListed : Reply → Type 0
IsListed r = IsFreed r ⊎ IsNumbered r

-- no list of notices
abbrev pub IsUnnoticed : Reply → Type 0
IsUnnoticed r = IsUnlisted r ⊎ IsListed r

-- one of them was read, which is the one that is meant by the event, where a list has none
abbrev pub IsMeantNumbered : Op → Reply → Type 0
IsMeantNumbered o r = IsNumbered r × IsMeant o r

abbrev pub IsMeantListed : Op → Reply → Type 0
IsMeantListed o r = IsListed r × IsMeant o r

abbrev pub IsMeantUnnoticed : Op → Reply → Type 0
IsMeantUnnoticed o r = IsUnlisted r ⊎ IsMeantListed o r

-- the words are read as such a reply, exactly; where they are none, the lists stay
abbrev pub TailsNumbered : Op → List (List ℕ) → Lists → Lists → Option (Reply × Option ℕ) → Type 0
TailsNumbered o words before after found = MatchOption found
    ((after ≡ before) × ((r : Reply) (ns : List ℕ) (c : Option ℕ) → IsNumbered r → IsTail words r ns c → ⊥))
    (ReadsTail (IsMeantNumbered o) words before after)

abbrev pub TailsListed : Op → List (List ℕ) → Lists → Lists → Option (Reply × Option ℕ) → Type 0
TailsListed o words before after found = MatchOption found
    ((after ≡ before) × ((r : Reply) (ns : List ℕ) (c : Option ℕ) → IsListed r → IsTail words r ns c → ⊥))
    (ReadsTail (IsMeantListed o) words before after)

abbrev pub TailsUnnoticed : Op → List (List ℕ) → Lists → Lists → Option (Reply × Option ℕ) → Type 0
TailsUnnoticed o words before after found = MatchOption found
    ((after ≡ before) × ((r : Reply) (ns : List ℕ) (c : Option ℕ) → IsUnnoticed r → IsTail words r ns c → ⊥))
    (ReadsTail (IsMeantUnnoticed o) words before after)

-- the words are read as the reply that is meant by the event, exactly; where they are none, the lists stay
abbrev pub TailsMeant : Op → List (List ℕ) → Lists → Lists → Option (Reply × Option ℕ) → Type 0
TailsMeant o words before after found = MatchOption found
    ((after ≡ before) × ((r : Reply) (ns : List ℕ) (c : Option ℕ) → IsTail words r ns c → ⊥))
    (ReadsTail (IsMeant o) words before after)

-- whether an event takes notices, and whether it is a sweep
abbrev pub IsFinalise : Op → Type 0
IsFinalise (op.Line (act.Finalise n)) = Unit {0}
IsFinalise _ = ⊥

abbrev pub IsSweep : Op → Type 0
IsSweep op.Sweep = Unit {0}
IsSweep _ = ⊥
