-- When an entry is in order behind those before it, and when all entries of a past are. Entries stand latest first. A
-- reader's entry has the same turn and cites as little as any first event; its reply is judged by what stands before
-- it, and by the snap that a `pending` waits for.
-- Believed: the clauses of the program's top call rest on all that stands here.
use Rattle.std.specs.Prelude.{◌≡◌, ℕ, ◌+◌, ◌⊎◌, Bool, true, false, List, [], ◌∷◌, None}
use Rattle.joint_machine.specs.declared.names.Span.{Span}
use Rattle.joint_machine.specs.declared.names.Thread.{Thread}
use Rattle.joint_machine.specs.declared.events.Op.TheVariants as op
use Rattle.joint_machine.specs.declared.events.Reply.{Reply}
use Rattle.joint_machine.specs.declared.events.Reply.TheVariants as says
use Rattle.joint_machine.specs.Heaps.{slot}
use Rattle.joint_machine.specs.Histories.{Finished, managed_numbers, peer_numbers}
use Rattle.joint_machine.specs.Lines.{is_read}
use Rattle.joint_machine.specs.Linked.{Linkage, opening_linkage}
use Rattle.joint_machine.specs.Managed.{Managed, read_cell}
use Rattle.joint_machine.specs.Readers.{ReadsCell, MayBePending, MayBeUnset, entry_after, is_managed_entry}
use Rattle.joint_machine.specs.Run.{thread_number}
use Rattle.joint_machine.specs.Told.{Noted, nothing}
use Rattle.joint_laws.specs.Spans.{TakesNamed, TellsNamed}
use Rattle.known_laws.specs.PastEntries.{TellsPlainly, InPast, turned}
use Rattle.check_laws.specs.Order.{IsTurn, CitesSo, RepliesSo}

-- the entries of a past, earliest first, and the state after them
abbrev pub in_turn : List Noted → List Noted
in_turn past = turned [] past

abbrev pub state_of : List Noted → Linkage
state_of [] = opening_linkage
state_of (n ∷ past) = entry_after (state_of past) n

-- a read that answered `pending k` stands in the past, and the snap of cycle k doesn't
pub record WaitsForSnap (past : List Noted) (k : ℕ) : Type 0 where
  pub entry : Noted
  pub there : InPast past entry
  pub read : is_read entry.entry.made.op ≡ true
  pub reply : entry.entry.made.reply ≡ says.Pending record { 0 = k }
  pub unsnapped : (n : Noted) → InPast past n → n.entry.made.op ≡ op.Snap record { 0 = k } → ⊥

-- a managed entry behind such a read is the snap
abbrev pub GivesSnap : List Noted → Noted → Type 0
GivesSnap past n = is_managed_entry n ≡ true → (k : ℕ)
    → WaitsForSnap past k → n.entry.made.op ≡ op.Snap record { 0 = k }

-- an entry with that number may answer `pending k` behind a past: the snap of cycle k stands there, as the rule asks,
-- or it is the next one, while no cycle is open
abbrev pub MayBePendingBehind : List Noted → Managed → ℕ → Thread → ℕ → Type 0
MayBePendingBehind past s i t k = MayBePending (in_turn past) i t k ⊎ ((s.cycle ≡ None) × (k ≡ s.cycles + 1))

-- a read's reply, by what stands before it
abbrev pub IsReplyBehind : List Noted → Managed → ℕ → Thread → ℕ → Reply → Type 0
IsReplyBehind past s i t k (says.Pending c) = (slot s.pins (thread_number t) ≡ None) × MayBePendingBehind past s i t c.0
IsReplyBehind past s i t k says.Unset = (slot s.pins (thread_number t) ≡ None) × MayBeUnset (in_turn past) s.cells i t k
IsReplyBehind past s i t k reply = reply ≡ (read_cell s (thread_number t) k).reply

abbrev pub ReadsBehind : List Noted → Noted → Type 0
ReadsBehind past n = (k : ℕ) → ReadsCell n.entry.made.op k
    → IsReplyBehind past (state_of past).managed.managed n.entry.number n.entry.made.caller k n.entry.made.reply

-- the stretches of the history's lists that the reply names are what the entry freed, and what it took of the waiting
-- notices
pub record NamesSo (h : Finished) (s : Managed) (n : Noted) : Type 0 where
  pub freed : TellsNamed (managed_numbers h.freed_managed) (peer_numbers h.freed_peers) n.entry.made.reply n.told
  pub taken : (span : Span) → n.entry.made.reply ≡ says.Took span → TakesNamed (managed_numbers h.notices) s span

-- the third test, of a reader's entry and of each other one
pub record ReaderReplies (past : List Noted) (n : Noted) : Type 0 where
  pub bare : n.told ≡ nothing
  pub reply : ReadsBehind past n

pub record SideReplies (h : Finished) (past : List Noted) (n : Noted) : Type 0 where
  pub replies : RepliesSo (state_of past) n
  pub plain : TellsPlainly (state_of past).control.stand n.entry.made.op n.told
  pub names : NamesSo h (state_of past).managed.managed n
  pub snap : GivesSnap past n

abbrev pub RepliesBehind : Bool → Finished → List Noted → Noted → Type 0
RepliesBehind true h past n = ReaderReplies past n
RepliesBehind false h past n = SideReplies h past n

-- an entry of a history is in order behind a past: the three tests
pub record IsInOrderBehind (h : Finished) (past : List Noted) (n : Noted) : Type 0 where
  pub turn : IsTurn (state_of past) n.entry.made
  pub cites : CitesSo (state_of past) n.entry.made
  pub replies : RepliesBehind (is_read n.entry.made.op) h past n

-- each entry of a past is, behind those before it
abbrev pub AllInOrder : Finished → List Noted → Type 0
AllInOrder h [] = Unit {0}
AllInOrder h (n ∷ past) = IsInOrderBehind h past n × AllInOrder h past
