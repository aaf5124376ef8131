-- Which history a text is read as: of all those that have this report the one whose replies are those that their events
-- have, and whose lists are what the text names, in the order of the entries.
-- Believed: the clauses of the program's top call rest on all that stands here.
use Rattle.std.specs.Prelude.{◌≡◌, ℕ, ◌+◌, ◌≤◌, List, [], ◌∷◌, length, All}
use Rattle.joint_machine.specs.declared.events.Reply.{Reply}
use Rattle.joint_machine.specs.declared.events.Reply.TheVariants as reply
use Rattle.joint_machine.specs.declared.events.Entry.{Entry}
use Rattle.joint_machine.specs.Histories.{Finished, IsHistory}
use Rattle.history_report.specs.Report.{report}
use Rattle.entry_reader.specs.Fitting.{Short, FitsTypes}
use Rattle.entry_reader.specs.Meant.{IsMeant}
use Rattle.joint_machine.specs.Numbers.{u32_max}

-- a history as a value of the program, lawful or not: what every history keeps, and each number fits its type
pub record IsValue (h : Finished) : Type 0 where
  pub history : IsHistory h
  pub fits : All FitsTypes h.entries
  pub managed : All (λ m. Short m.0) h.freed_managed
  pub peers : All (λ p. Short p.0) h.freed_peers
  pub notices : All (λ m. Short m.0) h.notices

-- how far the three lists of a history were named
pub record Ends : Type 0 where
  pub managed : ℕ
  pub peers : ℕ
  pub notices : ℕ

abbrev pub no_ends : Ends
no_ends = record { managed = 0; peers = 0; notices = 0 }

-- a reply names as many further numbers as its span is of
abbrev pub ends_after : Ends → Reply → Ends
ends_after e (reply.Snapped n s) = record e { managed = e.managed + s.count }
ends_after e (reply.Freed s) = record e { managed = e.managed + s.count }
ends_after e (reply.Swept j s) = record e { peers = e.peers + s.count }
ends_after e (reply.Took s) = record e { notices = e.notices + s.count }
ends_after e r = e

-- a reply's span begins where its list was named to
abbrev pub StartsAt : Ends → Reply → Type 0
StartsAt e (reply.Snapped n s) = s.first ≡ e.managed
StartsAt e (reply.Freed s) = s.first ≡ e.managed
StartsAt e (reply.Swept j s) = s.first ≡ e.peers
StartsAt e (reply.Took s) = s.first ≡ e.notices
StartsAt e r = Unit {0}

-- how far the lists were named by these entries
abbrev pub ends_of : Ends → List Entry → Ends
ends_of e [] = e
ends_of e (x ∷ xs) = ends_of (ends_after e x.made.reply) xs

-- the spans of entries stand one behind another
abbrev pub SpansRun : Ends → List Entry → Type 0
SpansRun e [] = Unit {0}
SpansRun e (x ∷ xs) = StartsAt e x.made.reply × SpansRun (ends_after e x.made.reply) xs

-- the lists have so many numbers, which a span can name
pub record HasJust (h : Finished) (e : Ends) : Type 0 where
  pub managed : length h.freed_managed ≡ e.managed
  pub peers : length h.freed_peers ≡ e.peers
  pub notices : length h.notices ≡ e.notices
  pub few_managed : e.managed ≤ u32_max
  pub few_peers : e.peers ≤ u32_max
  pub few_notices : e.notices ≤ u32_max

-- the history is the one that is meant by its text: each reply is the one that its event has, and the lists are what
-- the spans name, one behind another
pub record IsCanonical (h : Finished) : Type 0 where
  pub value : IsValue h
  pub meant : All (λ e. IsMeant e.made.op e.made.reply) h.entries
  pub spans : SpansRun no_ends h.entries
  pub just : HasJust h (ends_of no_ends h.entries)

-- the bytes are read as the history
pub record IsReadAs (bytes : List ℕ) (h : Finished) : Type 0 where
  pub canonical : IsCanonical h
  pub text : bytes ≡ report h
