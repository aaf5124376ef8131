-- What the words of a line say: which numbers a list may have, the words of a reply with the numbers of its list, and
-- when a line is an entry's.
-- Believed: the clauses of the program's top call rest on all that stands here.
use Rattle.std.specs.Prelude.{◌≡◌, ℕ, Bool, true, false, List, [], ◌∷◌, ◌++◌, Option, Some, None, All, codes, decimal}
use Rattle.joint_machine.specs.declared.names.Span.{Span}
use Rattle.joint_machine.specs.declared.events.Reply.{Reply}
use Rattle.joint_machine.specs.declared.events.Reply.TheVariants as reply
use Rattle.joint_machine.specs.declared.events.Entry.{Entry}
use Rattle.joint_machine.specs.Components.{Rises}
use Rattle.joint_machine.specs.Lines.{IsNamed}
use Rattle.text_words.specs.Words.{spaced}
use Rattle.history_report.specs.declared.lists.Numbers.{Numbers}
use Rattle.history_report.specs.Lists.{listed, letter_of}
use Rattle.history_report.specs.Report.{event_words, reply_words, list_of, cite_words, place_text}
use Rattle.entry_reader.specs.Fitting.{Short, FitsTypes}

-- numbers that may stand in a list: each is short, and they rise where the list does
pub record IsList (rising : Bool) (ns : List ℕ) : Type 0 where
  pub short : All Short ns
  pub rises : rising ≡ true → Rises ns

-- numbers that may stand in a reply's list
abbrev pub IsShown : Reply → List ℕ → Type 0
IsShown (reply.Snapped n s) ns = IsList true ns
IsShown (reply.Freed s) ns = IsList true ns
IsShown (reply.Swept j s) ns = IsList true ns
IsShown (reply.Took s) ns = IsList false ns
IsShown r ns = Unit {0}

-- the words of a list, where a reply shows one, that has these numbers
abbrev pub list_said : Option (Numbers × Span) → List ℕ → List (List ℕ)
list_said None ns = []
list_said (Some l) ns = listed (letter_of l.0) ns

-- the words of a reply whose list has these numbers
abbrev pub said : Reply → List ℕ → List (List ℕ)
said r ns = reply_words r ++ list_said (list_of r) ns

-- the words of an entry's line, where its list has these numbers
abbrev pub line_words : Entry → List ℕ → List (List ℕ)
line_words e ns = decimal e.number ∷ place_text e.made.caller
    e.made.index ∷ (event_words e.made.caller
    e.made.op ++ (codes "=" ∷ (said e.made.reply ns ++ cite_words e.made.cites)))

-- the text is the line of an entry, where its list has these numbers
pub record IsLineOf (text : List ℕ) (e : Entry) (ns : List ℕ) : Type 0 where
  pub fits : FitsTypes e
  pub event : IsNamed e.made.caller e.made.op
  pub shown : IsShown e.made.reply ns
  pub same : text ≡ spaced (line_words e ns)
