-- The words of the events that are no line's: the first of them, and those behind it.
use Rattle.std.specs.Prelude.{ℕ, ◌≤◌, ◌<◌, List, [], ◌∷◌, Option, Some, None, codes, decimal}
use Rattle.joint_machine.specs.declared.names.Thread.{Thread}
use Rattle.joint_machine.specs.declared.names.HNum.{HNum}
use Rattle.joint_machine.specs.declared.names.Cycle.{Cycle}
use Rattle.joint_machine.specs.declared.events.Op.{Op}
use Rattle.joint_machine.specs.declared.events.Op.TheVariants as op
use Rattle.joint_machine.specs.Lines.{IsVar, IsAdoptable, IsNamed, IsLine, IsOneEvent, IsThread}
use Rattle.bridge_script.specs.Words.{var_text, peer_static, kind_text, sort_text, phase_word_text}
use Rattle.history_report.specs.Report.{peer_text, handle_text}
use Rattle.entry_reader.specs.Fitting.{Short, FitsOp}
use Rattle.entry_reader.specs.declared.events.EventWord.{EventWord}
use Rattle.entry_reader.specs.declared.events.EventWord.TheVariants as word

-- the word itself
abbrev pub word_text : EventWord → List ℕ
word_text word.Make = codes "make"
word_text word.Adopt = codes "adopt"
word_text word.Lend = codes "lend"
word_text word.Land = codes "land"
word_text word.Grip = codes "grip"
word_text word.Meet = codes "meet"
word_text word.Give = codes "give"
word_text word.Release = codes "release"
word_text word.Snap = codes "snap"
word_text word.Contract = codes "contract"
word_text word.Mirror = codes "mirror"
word_text word.Weaken = codes "weaken"
word_text word.Begin = codes "begin"
word_text word.Sweep = codes "sweep"
word_text word.Restore = codes "restore"
word_text word.Clear = codes "clear"
word_text word.Resolve = codes "resolve"
word_text word.Abandon = codes "abandon"
word_text word.Refused = codes "refused"

-- an event has this first word, and its places are within their limits
abbrev pub IsEventOf : EventWord → Op → Type 0
IsEventOf word.Make (op.Make s n) = n ≤ 16
IsEventOf word.Adopt (op.Adopt v k n p h) = IsVar v × IsAdoptable k n × Short p.0 × Short h.0
IsEventOf word.Lend (op.Lend v x) = IsVar v × (x.0 < 16)
IsEventOf word.Land (op.Land h x) = Short h.0 × (x.0 < 16)
IsEventOf word.Grip (op.Grip x) = x.0 < 16
IsEventOf word.Meet (op.Meet v s n p h) = IsVar v × (n ≤ 16) × Short p.0 × Short h.0
IsEventOf word.Give (op.Give v) = IsVar v
IsEventOf word.Release (op.Release h) = Short h.0
IsEventOf word.Snap (op.Snap k) = Short k.0
IsEventOf word.Contract (op.Contract k) = Short k.0
IsEventOf word.Mirror (op.Mirror k) = Short k.0
IsEventOf word.Weaken (op.Weaken h) = Short h.0
IsEventOf word.Begin op.Begin = Unit {0}
IsEventOf word.Sweep op.Sweep = Unit {0}
IsEventOf word.Restore (op.Restore h) = Short h.0
IsEventOf word.Clear (op.Clear k) = Short k.0
IsEventOf word.Resolve (op.Resolve k) = Short k.0
IsEventOf word.Abandon (op.Abandon k) = Short k.0
IsEventOf word.Refused (op.Refused w) = Unit {0}
IsEventOf _ _ = ⊥

-- the words behind the first
abbrev pub others : Op → List (List ℕ)
others (op.Make s n) = sort_text s ∷ decimal n ∷ []
others (op.Adopt v k n p h) = var_text v ∷ kind_text k ∷ decimal n ∷ peer_text p ∷ handle_text h ∷ []
others (op.Lend v x) = var_text v ∷ peer_static x ∷ []
others (op.Land h x) = handle_text h ∷ peer_static x ∷ []
others (op.Grip x) = peer_static x ∷ []
others (op.Meet v s n p h) = var_text v ∷ peer_text p ∷ handle_text h ∷ sort_text s ∷ decimal n ∷ []
others (op.Give v) = var_text v ∷ []
others (op.Release h) = handle_text h ∷ []
others (op.Snap k) = decimal k.0 ∷ []
others (op.Contract k) = decimal k.0 ∷ []
others (op.Mirror k) = decimal k.0 ∷ []
others (op.Weaken h) = handle_text h ∷ []
others (op.Restore h) = handle_text h ∷ []
others (op.Clear k) = decimal k.0 ∷ []
others (op.Resolve k) = decimal k.0 ∷ []
others (op.Abandon k) = decimal k.0 ∷ []
others (op.Refused w) = phase_word_text w ∷ []
others _ = []

-- an event that the thread can name, whose numbers fit their types
abbrev pub IsReadable : Thread → Op → Type 0
IsReadable t o = IsNamed t o × FitsOp o

-- an operation of the thread that is one event
abbrev pub IsLineEvent : Thread → Op → Type 0
IsLineEvent t (op.Line a) = IsLine t a × IsOneEvent a
IsLineEvent t o = ⊥

-- the first word of an event that is no line's
abbrev pub word_of : Op → Option EventWord
word_of (op.Line a) = None
word_of (op.Make s n) = Some word.Make
word_of (op.Adopt v k n p h) = Some word.Adopt
word_of (op.Lend v x) = Some word.Lend
word_of (op.Land h x) = Some word.Land
word_of (op.Grip x) = Some word.Grip
word_of (op.Meet v s n p h) = Some word.Meet
word_of (op.Give v) = Some word.Give
word_of (op.Release h) = Some word.Release
word_of (op.Snap k) = Some word.Snap
word_of (op.Contract k) = Some word.Contract
word_of (op.Mirror k) = Some word.Mirror
word_of (op.Weaken h) = Some word.Weaken
word_of op.Begin = Some word.Begin
word_of op.Sweep = Some word.Sweep
word_of (op.Restore h) = Some word.Restore
word_of (op.Clear k) = Some word.Clear
word_of (op.Resolve k) = Some word.Resolve
word_of (op.Abandon k) = Some word.Abandon
word_of (op.Refused w) = Some word.Refused

-- an event that is no line's, with its places within their limits
abbrev pub IsStepOf : Option EventWord → Op → Type 0
IsStepOf None o = ⊥
IsStepOf (Some w) o = IsEventOf w o

abbrev pub IsStep : Op → Type 0
IsStep o = IsStepOf (word_of o) o

-- its words
abbrev pub first_words : Option EventWord → List (List ℕ) → List (List ℕ)
first_words None ws = ws
first_words (Some w) ws = word_text w ∷ ws

abbrev pub step_words : Op → List (List ℕ)
step_words o = first_words (word_of o) (others o)

-- the words of events with a handle alone, and the events
abbrev pub IsOfHandle : EventWord → Type 0
IsOfHandle word.Release = Unit {0}
IsOfHandle word.Weaken = Unit {0}
IsOfHandle word.Restore = Unit {0}
IsOfHandle _ = ⊥

abbrev pub with_handle : EventWord → HNum → Option Op
with_handle word.Release h = Some (op.Release h)
with_handle word.Weaken h = Some (op.Weaken h)
with_handle word.Restore h = Some (op.Restore h)
with_handle _ h = None

-- the words of events with a cycle alone, and the events
abbrev pub IsOfCycle : EventWord → Type 0
IsOfCycle word.Snap = Unit {0}
IsOfCycle word.Contract = Unit {0}
IsOfCycle word.Mirror = Unit {0}
IsOfCycle word.Clear = Unit {0}
IsOfCycle word.Resolve = Unit {0}
IsOfCycle word.Abandon = Unit {0}
IsOfCycle _ = ⊥

abbrev pub with_cycle : EventWord → Cycle → Option Op
with_cycle word.Snap k = Some (op.Snap k)
with_cycle word.Contract k = Some (op.Contract k)
with_cycle word.Mirror k = Some (op.Mirror k)
with_cycle word.Clear k = Some (op.Clear k)
with_cycle word.Resolve k = Some (op.Resolve k)
with_cycle word.Abandon k = Some (op.Abandon k)
with_cycle _ k = None

-- a thread, a line and an event that an entry can have
abbrev pub IsHead : Thread × ℕ × Op → Type 0
IsHead h = IsThread h.0 × Short h.1 × IsReadable h.0 h.2
