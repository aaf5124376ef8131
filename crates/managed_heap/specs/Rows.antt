-- How the parts of a managed side make up the state of its replay.
use Rattle.std.specs.Prelude.{◌≡◌, ℕ, ◌↔◌, Bool, List, [], map, Contains, Option, Some, None}
use Rattle.joint_machine.specs.declared.names.MNum.{MNum}
use Rattle.joint_machine.specs.declared.names.PNum.{PNum}
use Rattle.joint_machine.specs.Heaps.{Heap, numbered_at}
use Rattle.joint_machine.specs.Histories.{managed_numbers}
use Rattle.joint_machine.specs.Managed.{OpenCycle}
use Rattle.joint_machine.specs.ManagedReplay.{ManagedReplay}
use Rattle.joint_laws.specs.ManagedInvariants.{ReplayInvariant}
use Rattle.finaliser_queue.specs.Queue.{Queue}
use Rattle.managed_heap.specs.declared.rows.Header.{Header}

-- the pairs of the registry, as numbers
abbrev pub pairs_of : List (PNum × MNum) → List (ℕ × ℕ)
pairs_of pairs = map (λ q. (q.0.0, q.1.0)) pairs

-- an object as an option of a number
abbrev pub number_or_none : Option MNum → Option ℕ
number_or_none None = None
number_or_none (Some m) = Some m.0

-- the state of the rows, without the handles that they ever took
abbrev pub rows_of : Heap → List Header → List (PNum × MNum) → List (Option ℕ)
    → List (Option ℕ) → Queue → Option OpenCycle → ℕ → Bool → ManagedReplay
rows_of heap headers pairs cells pins queue cycle cycles contracted = record {
  managed = record {
    heap = heap;
    kinds = map (λ i. i.kind) headers;
    held = map (λ i. i.handle) headers;
    pins = pins;
    cells = cells;
    notices = managed_numbers queue.queued;
    taken = queue.taken;
    cycle = cycle;
    cycles = cycles;
  };
  registry = pairs_of pairs;
  adopted = [];
  contracted = contracted;
}

-- the state with the handles that rows ever took
abbrev pub with_adopted : ManagedReplay → List ℕ → ManagedReplay
with_adopted s hs = record s { adopted = hs }

-- beside each row stands the peer with which the registry has it
abbrev pub ArePeers : List (PNum × MNum) → List Header → Type 0
ArePeers pairs headers = (p m : ℕ) → Contains (pairs_of pairs) (p, m)
    ↔ (numbered_at (map (λ i. i.peer) headers) m ≡ Some (Some p))

-- the rows are those of a lawful list of entries
abbrev pub RowsInvariant : ManagedReplay → Type 0
RowsInvariant s = (hs : List ℕ) × ReplayInvariant (with_adopted s hs)
