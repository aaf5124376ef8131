-- The references that a mirror adds, and the graph that they are computed from: it has a node for each number, and
-- inside the dead part the handles and fields of the rows. (The mirror edges are those of the joint machine.)
use Rattle.std.specs.Prelude.{◌≡◌, ℕ, ◌+◌, Bool, true, false, nat_eq, if◌then◌else◌, List, length, map, Contains}
use Rattle.std.specs.Prelude.{Option, Some, None}
use Rattle.std.specs.List.{list_any, range_with_len}
use Rattle.std.specs.Option.{option_map}
use Rattle.joint_machine.specs.Components.{End, mirror_edges, node, temporary}
use Rattle.joint_machine.specs.Control.{carried_edges}
use Rattle.joint_machine.specs.Cycles.{IsDeadContraction}
use Rattle.joint_machine.specs.Joint.{Graph}
use Rattle.joint_machine.specs.Managed.{Managed, handle_of}
use Rattle.joint_replay.specs.Plain.{dead_of, kept_target}
use Rattle.bridge_graph.specs.declared.graph.Node.{Node}
use Rattle.heap_views.specs.declared.mirrored.MirrorEnd.{MirrorEnd}
use Rattle.heap_views.specs.declared.mirrored.MirrorEnd.TheVariants as ends

-- an end, and a pair of ends, in the model's words
abbrev pub end_as : MirrorEnd → End
end_as (ends.Peer p) = node p
end_as (ends.Temporary i) = temporary i

abbrev pub ends_as : MirrorEnd × MirrorEnd → End × End
ends_as e = (end_as e.0, end_as e.1)

-- the references that a mirror adds: the mirror edges of the dead part, carried to the peers of its rows' handles
pub record AreMirrored (g : Graph) (refs : List (End × End)) : Type 0 where
  pub comps : List (List ℕ)
  pub heavy : List ℕ
  pub xrefs : List (ℕ × ℕ)
  pub contraction : IsDeadContraction g.managed (dead_of g.managed) comps heavy xrefs
  pub carried : refs ≡ carried_edges g.managed g.peers.issued (mirror_edges comps xrefs)

-- whether a number is that of a row of the dead part
abbrev pub is_dead : Managed → ℕ → Bool
is_dead s m = list_any (nat_eq m) (dead_of s)

-- the handle of a row of the dead part; no other number has one
abbrev pub dead_handle : Managed → ℕ → Option ℕ
dead_handle s m = if is_dead s m then handle_of s m else None

-- the node of a number
abbrev pub number_node : Managed → ℕ → Node
number_node s m = record {
  number = record { 0 = m };
  handle = option_map (λ h. record { 0 = h }) (dead_handle s m);
  opaque = false;
}

-- the nodes of the numbers from 0 to the last object's
abbrev pub number_nodes : Managed → List Node
number_nodes s = map (number_node s) (range_with_len 0 (length s.heap.fields + 1))

-- one of these fields leads to a row of the dead part
abbrev pub HasDead : Managed → List (Option ℕ) → ℕ → Type 0
HasDead s fields k = (o : Option ℕ) × Contains fields o × (kept_target s.heap o ≡ Some k) × (is_dead s k ≡ true)
