-- The lists of both sides in a worked history: each side's entries are a lawful list of their own, by that side's rules
-- alone, and the state after it is as the history has it.
use Rattle.std.specs.Prelude.{◌≡◌, ℕ, if◌then◌else◌, List, [], ◌∷◌, map, Some, None}
use Rattle.joint_machine.specs.declared.names.Thread.TheVariants.{M}
use Rattle.joint_machine.specs.declared.names.Kind.TheVariants as kind
use Rattle.joint_machine.specs.declared.events.Op.TheVariants as op
use Rattle.joint_machine.specs.declared.events.Reply.TheVariants as says
use Rattle.joint_machine.specs.Lines.{is_peer_event}
use Rattle.joint_machine.specs.PinsTold.{is_pinned, no_pins}
use Rattle.joint_machine.specs.ManagedReplay.{ManagedReplay, opening_replay}
use Rattle.joint_machine.specs.PeerReplay.{PeerReplay, opening_peer_replay}
use Rattle.joint_machine.specs.Sides.{SideRules, managed_rules, peer_rules, AreTaken, LeadsTo, IsReplayed}
use Rattle.joint_machine.specs.Told.{Noted, nothing, kept_pins}
use Rattle.worked_histories.specs.Notes.{note, var, object_no, peer_no, handle_no}
use Rattle.worked_histories.specs.OneObject.{one_object}

-- the entries of the peer side, and those of the managed side
abbrev pub peer_notes : List Noted → List Noted
peer_notes [] = []
peer_notes (n ∷ ns) = if is_peer_event n.entry.made.caller n.entry.made.op then n ∷ peer_notes ns else peer_notes ns

-- a snap and a take are told with the pins that they were given: none was filled
abbrev pub with_no_pins : Noted → Noted
with_no_pins n = record n { told = if is_pinned n.entry.made.op then kept_pins no_pins n.told else n.told }

abbrev pub managed_notes : List Noted → List Noted
managed_notes [] = []
managed_notes (n ∷ ns) = if is_peer_event n.entry.made.caller
    n.entry.made.op then managed_notes ns else with_no_pins n ∷ managed_notes ns

-- the state after a list of entries
abbrev pub state_after : {S : Type 0} → SideRules S → S → List Noted → S
state_after r s [] = s
state_after r s (n ∷ ns) = state_after r (r.next s n.entry.made n.told) ns

-- the state after a list is the replay of its entries
abbrev pub IsReplayedBy : {S : Type 0} → SideRules S → List Noted → Type 0
IsReplayedBy r ns = IsReplayed r (map (λ n. n.entry) ns) (state_after r r.opening ns)

-- a side that was made for so many threads takes each entry of a list
abbrev pub AreTakenFor : {S : Type 0} → SideRules S → ℕ → List Noted → Type 0
AreTakenFor r threads ns = AreTaken r threads (map (λ n. n.entry) ns)

abbrev pub managed_end : ManagedReplay
managed_end = state_after managed_rules opening_replay (managed_notes one_object)

abbrev pub peer_end : PeerReplay
peer_end = state_after peer_rules opening_peer_replay (peer_notes one_object)

-- an adopt of one object with the handle, and with the same handle once more
abbrev pub adopted_twice : List Noted
adopted_twice =
    note 1 (M 1) 1 (op.Adopt (var 0) kind.Bridge 0 (peer_no 1) (handle_no 1)) (says.M (object_no 1)) (Some 0) nothing
    ∷ note 2 (M 1) 2 (op.Adopt (var 1) kind.Bridge 0 (peer_no 1) (handle_no 1)) (says.M (object_no 2)) (Some 0) nothing
    ∷ []

-- each side of the history is the replay of its entries. At the end each has freed its one object and the managed side
-- has queued its notice; no cycle is open, the registry is empty, and the handle is gone. The one managed thread is all
-- that a managed side needs, and one that was made for no thread doesn't take it; a peer side without threads takes
-- all. And no lawful managed list adopts a handle twice.
pub record OneObjectSidesHold : Type 0 where
  pub managed : IsReplayedBy managed_rules (managed_notes one_object)
  pub peer : IsReplayedBy peer_rules (peer_notes one_object)
  pub managed_taken : AreTakenFor managed_rules 1 (managed_notes one_object)
  pub none_taken : AreTakenFor managed_rules 0 (managed_notes one_object) → ⊥
  pub peer_taken : AreTakenFor peer_rules 0 (peer_notes one_object)
  pub freed : managed_end.managed.heap.freed ≡ 1 ∷ []
  pub queued : managed_end.managed.notices ≡ 1 ∷ []
  pub closed : managed_end.managed.cycle ≡ None
  pub pairs : managed_end.registry ≡ []
  pub freed_peer : peer_end.peers.heap.freed ≡ 1 ∷ []
  pub table : peer_end.table ≡ None ∷ []
  pub ended : peer_end.marking ≡ None
  pub cleared : peer_end.mirror ≡ None
  pub adopted_once : (s : ManagedReplay) → LeadsTo managed_rules opening_replay adopted_twice s → ⊥
