-- The small graph of the tests. A variable names object 1, and objects 1, 2 and 3 hold handles 1, 2 and 3 on the
-- peers 1, 2 and 3. Peer 1 has peer 2 in a field, and object 2 has object 3. So a walk leads from object 1 to
-- peer 1, peer 2, object 2, object 3 and peer 3. Nothing leads to peer 4, and peer 5 was freed.
use Rattle.std.specs.Prelude.{ℕ, false, [], ◌∷◌, Some, None}
use Rattle.joint_machine.specs.Heaps.{Heap}
use Rattle.joint_machine.specs.Joint.{Graph}
use Rattle.joint_machine.specs.Peers.{Issued, held, strong}

-- the three objects
abbrev pub chain_objects : Heap
chain_objects = record {
  fields = (None ∷ []) ∷ (Some 3 ∷ []) ∷ (None ∷ []) ∷ [];
  freed = [];
  vars = Some 1 ∷ [];
  statics = [];
}

-- the five peers
abbrev pub chain_peers : Heap
chain_peers = record {
  fields = (Some 2 ∷ []) ∷ (None ∷ []) ∷ (None ∷ []) ∷ (None ∷ []) ∷ (None ∷ []) ∷ [];
  freed = 5 ∷ [];
  vars = [];
  statics = [];
}

-- a held strong handle on a peer
abbrev pub chain_handle : ℕ → Issued
chain_handle p = record { peer = p; hold = held; strength = strong }

-- the graph
abbrev pub chain : Graph
chain = record {
  managed = record {
    heap = chain_objects;
    kinds = [];
    held = Some 1 ∷ Some 2 ∷ Some 3 ∷ [];
    pins = [];
    cells = [];
    notices = [];
    taken = 0;
    cycle = None;
    cycles = 0;
  };
  peers = record {
    heap = chain_peers;
    sorts = [];
    names = [];
    issued = chain_handle 1 ∷ chain_handle 2 ∷ chain_handle 3 ∷ [];
    made = 3;
  };
  removed = false ∷ false ∷ false ∷ [];
}
