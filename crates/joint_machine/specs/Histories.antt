-- A finished history: its entries by number, and the lists that the spans of its replies name.
-- Believed: the clauses of the program's top call rest on all that stands here.
use Rattle.std.specs.Prelude.{◌≡◌, ℕ, ◌+◌, ◌≤◌, List, length, take, drop, map, All, [], ◌∷◌}
use Rattle.joint_machine.specs.declared.names.MNum.{MNum}
use Rattle.joint_machine.specs.declared.names.PNum.{PNum}
use Rattle.joint_machine.specs.declared.names.Span.{Span}
use Rattle.joint_machine.specs.declared.events.Entry.{Entry}
use Rattle.joint_machine.specs.declared.events.Reply.{Reply}
use Rattle.joint_machine.specs.Components.{Rises}
use Rattle.joint_machine.specs.Lines.{IsNamed}
use Rattle.joint_machine.specs.declared.events.Reply.TheVariants as reply

-- the entries have the numbers from n on, one after another
abbrev pub NumberedFrom : ℕ → List Entry → Type 0
NumberedFrom n [] = Unit {0}
NumberedFrom n (e ∷ es) = (e.number ≡ n) × NumberedFrom (n + 1) es

-- any history as a value, lawful or not, once nothing is added to it: entry i has number i
pub record Finished : Type 0 where
  pub entries : List Entry
  pub freed_managed : List MNum
  pub freed_peers : List PNum
  pub notices : List MNum

-- the numbers of managed objects, as numbers
abbrev pub managed_numbers : List MNum → List ℕ
managed_numbers ms = map (λ m. m.0) ms

-- the numbers of peers, as numbers
abbrev pub peer_numbers : List PNum → List ℕ
peer_numbers ps = map (λ p. p.0) ps

-- two histories are alike in all that a text shows where so many notices were taken: the entries, what was freed, and
-- the notices that were taken
pub record AreShownAlike (taken : ℕ) (g h : Finished) : Type 0 where
  pub entries : g.entries ≡ h.entries
  pub freed_managed : g.freed_managed ≡ h.freed_managed
  pub freed_peers : g.freed_peers ≡ h.freed_peers
  pub notices : take taken g.notices ≡ take taken h.notices

-- the stretch of a list that a span names
abbrev pub stretch : {A : Type 0} → List A → Span → List A
stretch xs s = take s.count (drop s.first xs)

-- the span ends within a list of that many
abbrev pub IsWithin : Span → ℕ → Type 0
IsWithin s n = s.first + s.count ≤ n

-- a span in the reply lies in its list and, but for notices, rises there
abbrev pub HasSpans : List MNum → List PNum → List MNum → Reply → Type 0
HasSpans ms ps ns (reply.Snapped n s) = IsWithin s (length ms) × Rises (managed_numbers (stretch ms s))
HasSpans ms ps ns (reply.Swept j s) = IsWithin s (length ps) × Rises (peer_numbers (stretch ps s))
HasSpans ms ps ns (reply.Freed s) = IsWithin s (length ms) × Rises (managed_numbers (stretch ms s))
HasSpans ms ps ns (reply.Took s) = IsWithin s (length ns)
HasSpans ms ps ns _ = Unit {0}

-- the entry's caller and event are ones that an entry can name, and the spans of its reply lie in the lists
pub record FitsLists (ms : List MNum) (ps : List PNum) (ns : List MNum) (e : Entry) : Type 0 where
  pub event : IsNamed e.made.caller e.made.op
  pub spans : HasSpans ms ps ns e.made.reply

-- what every history keeps: the numbers are those from 0 on, each event can be named, each span lies in its list
pub record IsHistory (h : Finished) : Type 0 where
  pub numbers : NumberedFrom 0 h.entries
  pub fits : All (FitsLists h.freed_managed h.freed_peers h.notices) h.entries
