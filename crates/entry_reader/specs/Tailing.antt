-- What was read of the words behind the equals sign, and of a whole line.
use Rattle.std.specs.Prelude.{◌≡◌, ℕ, List, ◌++◌, Option, MatchOption}
use Rattle.joint_machine.specs.declared.events.Reply.{Reply}
use Rattle.joint_machine.specs.declared.events.Entry.{Entry}
use Rattle.history_report.specs.Report.{cite_words}
use Rattle.entry_reader.specs.Fitting.{FitsReply, FitsCites}
use Rattle.entry_reader.specs.Meaning.{Lists, BeginsAt, grown}
use Rattle.entry_reader.specs.Meant.{IsMeant}
use Rattle.entry_reader.specs.Saying.{IsLineOf, IsShown, said}

-- the words behind the equals sign are those of a reply that fits, whose list has these numbers, and of what the line
-- cites
pub record IsTail (words : List (List ℕ)) (r : Reply) (ns : List ℕ) (c : Option ℕ) : Type 0 where
  pub fits : FitsReply r
  pub shown : IsShown r ns
  pub cites : FitsCites c
  pub same : words ≡ said r ns ++ cite_words c

-- such words were read as a reply of a kind, and its list was put behind those before it
pub record ReadsTail (kind : Reply → Type 0) (words : List (List ℕ))
    (before after : Lists) (t : Reply × Option ℕ) : Type 0 where
  pub numbers : List ℕ
  pub of_kind : kind t.0
  pub tail : IsTail words t.0 numbers t.1
  pub begins : BeginsAt before t.0 numbers
  pub grows : after ≡ grown before t.0 numbers

-- the words are read as a reply of a kind, exactly; where they are none, the lists stay
abbrev pub Tails : (Reply → Type 0) → List (List ℕ) → Lists → Lists → Option (Reply × Option ℕ) → Type 0
Tails kind words before after found = MatchOption found
    ((after ≡ before) × ((r : Reply) (ns : List ℕ) (c : Option ℕ) → kind r → IsTail words r ns c → ⊥))
    (ReadsTail kind words before after)

-- a text was read as the line of an entry with that number, with the reply that is meant, and its list was put behind
-- those before it
pub record ReadsEntry (text : List ℕ) (number : ℕ) (before after : Lists) (e : Entry) : Type 0 where
  pub numbers : List ℕ
  pub line : IsLineOf text e numbers
  pub same : e.number ≡ number
  pub meant : IsMeant e.made.op e.made.reply
  pub begins : BeginsAt before e.made.reply numbers
  pub grows : after ≡ grown before e.made.reply numbers
