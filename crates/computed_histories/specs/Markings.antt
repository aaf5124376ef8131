-- What a marking of the peer heap reaches, and what its sweep frees, by computing.
use Rattle.std.specs.Prelude.{ℕ, Bool, true, false, not, ◌&&◌, nat_eq, List, [], ◌∷◌, ◌++◌, length, map, filter}
use Rattle.std.specs.Prelude.{flat_map}
use Rattle.joint_machine.specs.Components.{End, node, temporary}
use Rattle.joint_machine.specs.Heaps.{Heap}
use Rattle.joint_machine.specs.PeerReplay.{PeerReplay, Marking}
use Rattle.computed_histories.specs.Lists.{has, reach, rises_exactly, where_true}
use Rattle.computed_histories.specs.Rows.{is_live, all_rows, heap_next, slot_rows}

-- whether two ends of references are the same, and two references
abbrev pub end_eq : End → End → Bool
end_eq (node x) (node y) = nat_eq x y
end_eq (node x) (temporary y) = false
end_eq (temporary x) (node y) = false
end_eq (temporary x) (temporary y) = nat_eq x y

abbrev pub ends_eq : End × End → End × End → Bool
ends_eq p q = end_eq p.0 q.0 && end_eq p.1 q.1

-- where a list of references leads from an end, and to which temporaries
abbrev pub ends_from : List (End × End) → End → List End
ends_from refs e = map (λ (p : End × End). p.1) (filter (λ (p : End × End). end_eq e p.0) refs)

abbrev pub is_temporary : End → Bool
is_temporary (node x) = false
is_temporary (temporary t) = true

abbrev pub temporaries_from : List (End × End) → End → List End
temporaries_from refs e = filter is_temporary (ends_from refs e)

-- a number, and the temporaries that it leads to, directly or through others
abbrev pub passed_from : List (End × End) → ℕ → List End
passed_from refs x = reach end_eq (temporaries_from refs) (length (map (λ (p : End × End). p.1) refs)) (node x ∷ [])

-- the numbers among ends
abbrev pub nodes_of : List End → List ℕ
nodes_of [] = []
nodes_of (node x ∷ es) = x ∷ nodes_of es
nodes_of (temporary t ∷ es) = nodes_of es

-- where a list of references leads from a number, directly or through temporaries
abbrev pub listed_next : List (End × End) → ℕ → List ℕ
listed_next refs x = nodes_of (flat_map (ends_from refs) (passed_from refs x))

-- the roots of a marking
abbrev pub marking_roots : Marking → List ℕ
marking_roots mk = slot_rows mk.heap ++ (mk.strong_peers ++ mk.brought)

-- where the mirrored references lead, and where those and the fields do
abbrev pub reference_next : Heap → List (End × End) → ℕ → List ℕ
reference_next h refs x = where_true (is_live h x) (filter (is_live h) (listed_next refs x))

abbrev pub marking_next : Marking → ℕ → List ℕ
marking_next mk x = heap_next mk.heap x ++ reference_next mk.heap mk.refs x

-- what the marking reaches
abbrev pub marking_reach : Marking → List ℕ
marking_reach mk = reach nat_eq (marking_next mk) (length (all_rows mk.heap)) (marking_roots mk)

-- whether the list is a slice's closure, and whether it is what a sweep frees, given what the marking reaches
abbrev pub is_closure_of : Marking → List ℕ → List ℕ → Bool
is_closure_of mk reached closure = rises_exactly (all_rows mk.heap) (λ p. is_live mk.heap p && has reached p) closure

abbrev pub is_swept_of : PeerReplay → Marking → List ℕ → List ℕ → Bool
is_swept_of s mk reached freed = rises_exactly (all_rows s.peers.heap)
    (λ p. is_live s.peers.heap p && is_live mk.heap p && not (is_live mk.heap p && has reached p)) freed

abbrev pub is_closure : Marking → List ℕ → Bool
is_closure mk closure = is_closure_of mk (marking_reach mk) closure

abbrev pub is_sweep : PeerReplay → Marking → List ℕ → Bool
is_sweep s mk freed = is_swept_of s mk (marking_reach mk) freed
