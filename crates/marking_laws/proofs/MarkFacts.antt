-- What exact marks say of a single peer. A peer that the definition spares is one for which it is impossible that it
-- was unfreed at the begin and isn't marked. A mark is there or not, so this double negation costs nothing: a spared
-- peer that is unfreed has a mark, and what has a mark is spared. What is unfreed now was unfreed at the begin or was
-- made since, as numbers rise and freed peers stay freed.
use Rattle.std.proofs.Common.{ℕ, ◌⊎◌, inl, inr, Bool, List, length, arith}
use Rattle.std.proofs.lemmas.Bool.{cases_lt}
use Rattle.joint_machine.specs.Heaps.{IsLive}
use Rattle.joint_machine.specs.PeerReplay.{PeerReplay, Marking, MarkingEdge}
use Rattle.joint_laws.specs.PeerInvariants.{IsSpared}
use Rattle.reachability.specs.Marks.{HasMark}
use Rattle.reachability.proofs.Marking.{marked-or}
use Rattle.marking_laws.specs.Marks.{AreMarksExact}

-- an edge of a marking joins peers that were unfreed at its begin
pub edge-existed : (mk : Marking) (p q : ℕ) → MarkingEdge mk p q → IsLive mk.heap p × IsLive mk.heap q
edge-existed mk p q e = elim e [ inl f ↦ (f.live, f.there) | inr r ↦ (r.live, r.there) ]

-- a mark is there or not
-- an unfreed peer was unfreed at the begin, or was made since
pub existed-or : (s : PeerReplay) (mk : Marking) (follows : Bool) (marks : List Bool) → AreMarksExact s mk follows marks → (p : ℕ) → IsLive s.peers.heap p → IsLive mk.heap p ⊎ (IsLive mk.heap p → ⊥)
existed-or s mk follows marks m p l = elim (cases_lt (length mk.heap.fields) p) [
  | inl w ↦ inr (λ e. omega (arith, e.made.1, w))
  | inr w ↦ inl record { made = (l.made.0, w); kept = λ c. l.kept (m.older p c) }
]

-- a spared peer of the begin has a mark
pub spared-existed : (s : PeerReplay) (mk : Marking) (follows : Bool) (marks : List Bool) → AreMarksExact s mk follows marks → (p : ℕ) → IsLive mk.heap p → IsSpared mk p → HasMark marks p
spared-existed s mk follows marks m p e k = elim (marked-or marks p) [ inl u ↦ u | inr n ↦ absurd (k e (λ w. n ((m.exact p e).1 w))) ]

-- a spared peer that is unfreed has a mark
pub spared-marked : (s : PeerReplay) (mk : Marking) (follows : Bool) (marks : List Bool) → AreMarksExact s mk follows marks → (p : ℕ) → IsLive s.peers.heap p → IsSpared mk p → HasMark marks p
spared-marked s mk follows marks m p l k = elim (existed-or s mk follows marks m p l) [ inl e ↦ spared-existed s mk follows marks m p e k | inr n ↦ m.fresh p l n ]

-- what has a mark is spared
pub marked-spared : (s : PeerReplay) (mk : Marking) (follows : Bool) (marks : List Bool) → AreMarksExact s mk follows marks → (p : ℕ) → HasMark marks p → IsSpared mk p
marked-spared s mk follows marks m p u e n = n ((m.exact p e).0 u)
