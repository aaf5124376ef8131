-- From a live object the loop's edges are those of the heap.
use Rattle.std.proofs.Common.{ℕ, ◌∷◌, [], inl, inr, sym, subst, ◌∙◌}
use Rattle.std.specs.Prelude.{Contains}
use Rattle.joint_machine.specs.Heaps.{IsLive}
use Rattle.joint_machine.proofs.Members.{Contains-cons_cases, Contains-nil}
use Rattle.joint_machine.proofs.WalkLemmas.{Reached-keeps}
use Rattle.reachability.specs.Marks.{HasMark, IsClosed}
use Rattle.row_heap.specs.Rows.{HeapRows}
use Rattle.row_heap.specs.Marks.{EdgeOf, LeadsTo}
use Rattle.row_heap.proofs.Edges.{shut-leads, shut-edges, reached-edge, reached-leads}
use Rattle.row_heap.proofs.Indexed.{stands-within}
use Rattle.row_heap.proofs.Walked.{row-marked, stands-seen}
use Rattle.row_heap.proofs.heap.RowHeap.bring_back.Goals as goal

pub is_marked-requires : goal.is_marked-requires
is_marked-requires g c = stands-within c.self.inside.rows c.args.x (stands-seen _ _ _ _ c.self.inside.references _ _ c.args.self.now c.args.x c.self.view_is c.self.invariant.0.sound c.requires.live)

-- what a marked object reaches is marked already
pub returns-then-is_marked-clause-marks : goal.returns-then-is_marked-clause-marks
returns-then-is_marked-clause-marks g c =
    let v = c.args.self.now in
    let here : HasMark v.marks c.args.x = subst (λ (w : HeapRows). HasMark w.marks c.args.x) c.self.view_is (row-marked c.self.inside.rows c.args.x (sym c.is_marked.ensures ∙ c.if-is_marked.true)) in
    let root : (z : ℕ) → Contains (c.args.x ∷ []) z → HasMark v.marks z = λ z h. elim (Contains-cons_cases c.args.x [] z h)
    [ inl e ↦ subst (HasMark v.marks) e here | inr n ↦ absurd (Contains-nil z n) ] in
    λ k. (
      λ m. inl m,
      λ u. elim u [ inl m ↦ m | inr r ↦ Reached-keeps (Contains (c.args.x ∷ [])) (EdgeOf v) (HasMark v.marks) root (λ a b e h. c.requires.shut a b e h) k r ],
    )

pub mark_from-requires-clause-shut : goal.mark_from-requires-clause-shut
mark_from-requires-clause-shut g c = shut-leads c.args.self.now c.args.self.now.marks c.recall_tidy.ensures c.recall_ends_live.ensures c.recall_marked_live.ensures c.requires.shut

pub returns-clause-marks : goal.returns-clause-marks
returns-clause-marks g c = λ k.
    let root : (z : ℕ) → Contains (c.args.x ∷ []) z → IsLive c.args.self.now.heap z = λ z h. elim (Contains-cons_cases c.args.x [] z h)
    [ inl e ↦ subst (IsLive c.args.self.now.heap) e c.requires.live | inr n ↦ absurd (Contains-nil z n) ] in
    let m = c.mark_from.ensures.marks k in (
      (λ u. elim (m.0 u) [ inl w ↦ inl w | inr w ↦ inr (reached-edge c.args.self.now (c.args.x ∷ []) k c.recall_tidy.ensures c.recall_ends_live.ensures root w) ]),
      (λ u. m.1 (elim u [ inl w ↦ inl w | inr w ↦ inr (reached-leads c.args.self.now (c.args.x ∷ []) k w) ])),
    )

pub returns-clause-shut : goal.returns-clause-shut
returns-clause-shut g c = shut-edges c.args.self.now c.mark_from.new.g.marks
    (subst (λ (v : HeapRows). IsClosed (LeadsTo v) c.mark_from.new.g.marks) c.mark_from.ensures.kept c.mark_from.ensures.closed)
