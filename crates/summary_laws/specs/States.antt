-- The numbers of a state, and that a tally has them.
-- Believed: the clauses of the program's top call rest on all that stands here.
use Rattle.std.specs.Prelude.{ℕ, zero, suc, ◌+◌, Bool, not, nat_eq, List, length, count_by, is_some}
use Rattle.std.specs.List.{list_any}
use Rattle.joint_machine.specs.Heaps.{Heap}
use Rattle.joint_machine.specs.Linked.{Linkage}
use Rattle.run_summary.specs.declared.tallies.Objects.{Objects}
use Rattle.run_summary.specs.declared.tallies.Tally.{Tally}
use Rattle.run_summary.specs.Lines.{one}

-- whether a number stands in a list
abbrev pub stands_in : List ℕ → ℕ → Bool
stands_in xs x = list_any (nat_eq x) xs

-- how many of the numbers from 1 to n don't stand in a list
abbrev pub others_up_to : List ℕ → ℕ → ℕ
others_up_to xs zero = 0
others_up_to xs (suc i) = others_up_to xs i + one (not (stands_in xs (suc i)))

-- how many objects of a heap aren't freed
abbrev pub unfreed : Heap → ℕ
unfreed h = others_up_to h.freed (length h.fields)

-- what was made up to a state: the objects of both heaps, and the handles, without those that restores gave
abbrev pub made_in : Linkage → Objects
made_in s = record {
  managed = length s.managed.managed.heap.fields;
  peers = length s.peer.peers.heap.fields;
  handles = s.peer.peers.made;
}

-- what is left: the objects that aren't freed, and the handles in the table
abbrev pub left_in : Linkage → Objects
left_in s = record {
  managed = unfreed s.managed.managed.heap;
  peers = unfreed s.peer.peers.heap;
  handles = count_by is_some s.peer.table;
}

-- the numbers of a state
abbrev pub tally_in : Linkage → Tally
tally_in s = record { cycles = s.managed.managed.cycles; made = made_in s; left = left_in s }
