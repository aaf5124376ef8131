-- That a tally has the numbers of the state after its entries, and that what is left and what was freed are what was
-- made.
use Rattle.std.specs.Prelude.{◌≡◌, ◌+◌, List, length, map}
use Rattle.joint_machine.specs.Heaps.{Heap}
use Rattle.joint_machine.specs.Histories.{Finished}
use Rattle.joint_machine.specs.Linked.{opening_linkage}
use Rattle.joint_machine.specs.Replaying.{AllMayCome, replayed}
use Rattle.joint_machine.specs.LinkedHistories.{linked_end, IsLinkedBy}
use Rattle.joint_machine.specs.Told.{Noted}
use Rattle.run_summary.specs.Tallies.{tally_of}
use Rattle.summary_laws.specs.States.{tally_in, unfreed}

-- what is left and what was freed are what was made
abbrev pub AddsUp : Heap → Type 0
AddsUp h = unfreed h + length h.freed ≡ length h.fields

-- the tally of the entries of a lawful list is that of the state after it
abbrev pub TalliesAreOfStates : Type 0
TalliesAreOfStates = (noted : List Noted) → AllMayCome opening_linkage noted
    → tally_of (map (λ n. n.entry) noted) ≡ tally_in (replayed opening_linkage noted)

-- after a lawful list both heaps add up
abbrev pub HeapsAddUp : Type 0
HeapsAddUp = (noted : List Noted) → AllMayCome opening_linkage noted
    → AddsUp (replayed opening_linkage noted).managed.managed.heap
    × AddsUp (replayed opening_linkage noted).peer.peers.heap

-- so the tally of a linked history's entries is that of its last state
abbrev pub TalliesOfLinked : Type 0
TalliesOfLinked = (h : Finished) (noted : List Noted)
    → IsLinkedBy h noted → tally_of h.entries ≡ tally_in (linked_end noted)

-- and in that state both heaps add up
abbrev pub HeapsOfLinked : Type 0
HeapsOfLinked = (h : Finished) (noted : List Noted) → IsLinkedBy h noted
    → AddsUp (linked_end noted).managed.managed.heap × AddsUp (linked_end noted).peer.peers.heap
