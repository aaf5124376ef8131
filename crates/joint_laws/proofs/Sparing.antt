-- Which peers an open marking spares: its roots, those that its edges lead to from spared ones, those that were made
-- since its begin, and ever more as peers are brought back. Exactly the unfreed peers that it doesn't spare are swept.
use Rattle.std.proofs.Common.{ℕ, ◌⊎◌, inl, inr, List}
use Rattle.std.specs.Prelude.{Contains}
use Rattle.joint_machine.specs.Heaps.{IsLive}
use Rattle.joint_machine.specs.PeerReplay.{PeerReplay, Marking, IsMarkingRoot, MarkingEdge, IsSweep}
use Rattle.joint_machine.proofs.WalkLemmas.{Reached-start, Reached-then, Reached-mono}
use Rattle.joint_laws.specs.PeerInvariants.{IsSpared}

pub spared-root : (mk : Marking) (p : ℕ) → IsMarkingRoot mk p → IsSpared mk p
spared-root mk p r l n = n (record { existed = l; reached = Reached-start (IsMarkingRoot mk) (MarkingEdge mk) p r })

edge-live : (mk : Marking) (p q : ℕ) → MarkingEdge mk p q → IsLive mk.heap p
edge-live mk p q e = elim e [ inl f ↦ f.live | inr f ↦ f.live ]

pub spared-edge : (mk : Marking) (p q : ℕ) → MarkingEdge mk p q → IsSpared mk p → IsSpared mk q
spared-edge mk p q e s l n = s (edge-live mk p q e) (λ m. n (record { existed = l; reached = Reached-then (IsMarkingRoot mk) (MarkingEdge mk) p q m.reached e }))

-- what an edge leads to, or is spared anyhow
pub spared-next : (mk : Marking) (p q : ℕ) → (MarkingEdge mk p q ⊎ IsSpared mk q) → IsSpared mk p → IsSpared mk q
spared-next mk p q e s = elim e [ inl f ↦ spared-edge mk p q f s | inr t ↦ t ]

pub spared-new : (mk : Marking) (p : ℕ) → (IsLive mk.heap p → ⊥) → IsSpared mk p
spared-new mk p n l m = n l

-- the same marking later: more peers were brought back, and more objects blackened
abbrev pub later : Marking → List ℕ → ℕ → Marking
later mk brought black = record mk { brought = brought; blackened = black }

pub spared-later : (mk : Marking) (brought : List ℕ) (black p : ℕ) → ((x : ℕ) → Contains mk.brought x → Contains brought x) → IsSpared mk p → IsSpared (later mk brought black) p
spared-later mk brought black p more s l n = s l (λ m. n (record {
  existed = l;
  reached = Reached-mono (IsMarkingRoot mk) (IsMarkingRoot (later mk brought black)) (MarkingEdge mk) (MarkingEdge (later mk brought black)) root (λ x y e. e) p m.reached;
}))
  where
    root : (x : ℕ) → IsMarkingRoot mk x → IsMarkingRoot (later mk brought black) x
    root x r = elim r [ inl a ↦ inl a | inr t ↦ elim t [ inl b ↦ inr (inl b) | inr c ↦ inr (inr (more x c)) ] ]

pub spared-brought : (mk : Marking) (p : ℕ) → Contains mk.brought p → IsSpared mk p
spared-brought mk p c = spared-root mk p (inr (inr c))

-- a sweep frees none that is spared, and what it leaves is spared
pub spared-stays : (s : PeerReplay) (mk : Marking) (freed : List ℕ) (p : ℕ) → IsSweep s mk freed → IsSpared mk p → Contains freed p → ⊥
spared-stays s mk freed p w k c = let q = (w.exact p).0 c in k q.1 q.2

pub stays-spared : (s : PeerReplay) (mk : Marking) (freed : List ℕ) (p : ℕ) → IsSweep s mk freed → IsLive s.peers.heap p → (Contains freed p → ⊥) → IsSpared mk p
stays-spared s mk freed p w l n e m = n ((w.exact p).1 (l, e, m))
