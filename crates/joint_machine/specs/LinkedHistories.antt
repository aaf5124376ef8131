-- Linked histories: the one list of entries in which both sides' own lists are lawful, each read answers what it may,
-- the citations agree, and each caller's events come in their order. And the joint projection: the entries that are
-- steps of the joint machine.
-- Believed: the clauses of the program's top call rest on all that stands here.
use Rattle.std.specs.Prelude.{◌≡◌, false, if◌then◌else◌, List, map, take, filter}
use Rattle.joint_machine.specs.Histories.{Finished, managed_numbers, peer_numbers, NumberedFrom}
use Rattle.joint_machine.specs.Linked.{Linkage, opening_linkage, IsWhole}
use Rattle.joint_machine.specs.Managed.{Managed}
use Rattle.joint_machine.specs.Readers.{AllMayComeReading, replayed_reading, is_aside}
use Rattle.joint_machine.specs.Run.{is_joint}
use Rattle.joint_machine.specs.Told.{Noted}

-- the state at the end of a history's notes, and its managed objects
abbrev pub linked_end : List Noted → Linkage
linked_end ns = replayed_reading opening_linkage ns

abbrev pub managed_end : List Noted → Managed
managed_end ns = (linked_end ns).managed.managed

-- a history is linked by these notes, which are its entries with what is told beside them: the numbers are those from 0
-- on, each entry may come when it comes, the last state is whole, the freed lists are what was freed, and the notices
-- that were taken are the first of its list
pub record IsLinkedBy (h : Finished) (noted : List Noted) : Type 0 where
  pub same : map (λ n. n.entry) noted ≡ h.entries
  pub numbers : NumberedFrom 0 h.entries
  pub lawful : AllMayComeReading noted (managed_end noted).cells opening_linkage noted
  pub whole : IsWhole (linked_end noted)
  pub freed_managed : managed_numbers h.freed_managed ≡ (managed_end noted).heap.freed
  pub freed_peers : peer_numbers h.freed_peers ≡ (linked_end noted).peer.peers.heap.freed
  pub notices : take (managed_end noted).taken (managed_numbers h.notices) ≡ take
      (managed_end noted).taken (managed_end noted).notices

-- a history is linked
pub record IsLinked (h : Finished) : Type 0 where
  pub noted : List Noted
  pub linked : IsLinkedBy h noted

-- every notice that was ever queued is in the history's list
abbrev pub HasQueued : Finished → List Noted → Type 0
HasQueued h noted = managed_numbers h.notices ≡ (managed_end noted).notices

-- the joint projection: the entries that are steps of the joint machine; their numbers stay. A read that is set aside
-- is none
abbrev pub joint_projection : List Noted → List Noted
joint_projection ns = filter (λ n. if is_aside n then false else is_joint n.entry.made.op) ns
