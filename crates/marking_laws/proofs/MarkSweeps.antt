-- What exact marks give at any moment. What a marked peer leads to is an edge of the begin, whose target the marking
-- reaches too, or leads to a spared peer: so it has a mark. Hence the unfreed peers without a mark are those that the
-- definition's sweep frees, no slot names one since what slots name is spared, and no field of a peer that stays does.
use Rattle.std.proofs.Common.{ℕ, ◌↔◌, inl, inr, Bool, List}
use Rattle.std.specs.Prelude.{Contains}
use Rattle.joint_machine.proofs.Members.{All-members}
use Rattle.joint_machine.specs.Components.{Rises}
use Rattle.joint_machine.specs.Heaps.{IsLive}
use Rattle.joint_machine.specs.PeerReplay.{PeerReplay, Marking, IsSweep}
use Rattle.joint_laws.proofs.Sparing.{spared-next}
use Rattle.heap_rules.specs.Tidy.{CanFree}
use Rattle.reachability.specs.Marks.{IsClosed}
use Rattle.reachability.proofs.Marking.{marked-or}
use Rattle.marking_laws.specs.Marks.{AreMarksExact, EdgeNow, IsMarkedSide, IsWithoutMark}
use Rattle.marking_laws.proofs.MarkFacts.{existed-or, marked-spared, spared-marked}

pub marks-shut : (s : PeerReplay) (mk : Marking) (follows : Bool) (marks : List Bool) → IsMarkedSide s mk follows marks → IsClosed (EdgeNow s follows) marks
marks-shut s mk follows marks side p q e u =
    let k = side.kept.marking mk side.opened in
    elim e [
      | inl f ↦ spared-marked s mk follows marks side.right q f.there (spared-next mk p q (k.fields p q f.live f.field) (marked-spared s mk follows marks side.right p u))
      | inr r ↦ spared-marked s mk follows marks side.right q r.1.there (spared-next mk p q (k.references p q r.1.live r.1.reference) (marked-spared s mk follows marks side.right p u))
    ]

pub marks-sweep : (s : PeerReplay) (mk : Marking) (follows : Bool) (marks : List Bool) (freed : List ℕ) → AreMarksExact s mk follows marks → Rises freed
    → ((p : ℕ) → Contains freed p ↔ IsWithoutMark s marks p) → IsSweep s mk freed
marks-sweep s mk follows marks freed m rise exact = record {
  rise = rise;
  exact = λ p. (
    (λ c. let w = (exact p).0 c in elim (existed-or s mk follows marks m p w.0) [
      | inl e ↦ (w.0, e, λ k. w.1 ((m.exact p e).1 k))
      | inr n ↦ absurd (w.1 (m.fresh p w.0 n))
    ]),
    (λ w. (exact p).1 (w.0, λ u. w.2 ((m.exact p w.1).0 u))),
  );
}

pub marks-can_free : (s : PeerReplay) (mk : Marking) (follows : Bool) (marks : List Bool) (freed : List ℕ) → IsMarkedSide s mk follows marks → Rises freed
    → ((p : ℕ) → Contains freed p ↔ IsWithoutMark s marks p) → CanFree s.peers.heap freed
marks-can_free s mk follows marks freed side rise exact =
    let k = side.kept.marking mk side.opened in
    record {
      live = All-members (IsLive s.peers.heap) freed (λ x c. ((exact x).0 c).0);
      rises = rise;
      unnamed = λ x c n. ((exact x).0 c).1 (spared-marked s mk follows marks side.right x ((exact x).0 c).0 (k.slots x n));
      unheld = λ x y lx stays c held. elim (marked-or marks x) [
        | inl u ↦ ((exact y).0 c).1 (marks-shut s mk follows marks side x y (inl record { live = lx; field = held; there = ((exact y).0 c).0 }) u)
        | inr n ↦ stays ((exact x).1 (lx, n))
      ];
    }
