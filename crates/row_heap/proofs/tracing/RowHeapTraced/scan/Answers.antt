-- What the fields hold is marked, and then what the references lead to, where the marking follows them.
use Rattle.std.proofs.Common.{◌≡◌, ◌∙◌, inl, inr, true, Some, refl, sym, ap, subst}
use Rattle.std.specs.Prelude.{Contains}
use Rattle.std.proofs.lemmas.Bool.{true≢false}
use Rattle.joint_machine.specs.Heaps.{fields_of}
use Rattle.joint_machine.specs.PeerReplay.{Refers}
use Rattle.row_marking.proofs.Greys.{Greyed-as, Greyed-then}
use Rattle.row_heap.specs.Ends.{Linked}
use Rattle.row_heap.specs.Marks.{LeadsTo}
use Rattle.row_heap.specs.Places.{Seen}
use Rattle.row_heap.specs.Rows.{HeapRows}
use Rattle.row_heap.proofs.FieldCounts.{count-kept, width}
use Rattle.row_heap.proofs.Walked.{IsRowHeap-bare, greyed-seen, held-seen, kept-bare, map-bare, row_at-bare, sights-raised, stands-seen}
use Rattle.row_heap.proofs.tracing.RowHeapTraced.scan.Goals as goal

pub mark_fields-requires-clause-stands : goal.mark_fields-requires-clause-stands
mark_fields-requires-clause-stands g c = stands-seen _ _ _ _ c.self.inside.references _ _ c.args.self.now c.args.x c.self.view_is c.self.invariant.0.sound c.requires

pub mark_fields-requires-clause-held : goal.mark_fields-requires-clause-held
mark_fields-requires-clause-held g c = λ y h. held-seen _ _ _ _ c.self.inside.references _ _ c.args.self.now c.args.x y c.self.view_is c.self.invariant.0.sound c.requires h

pub mark_led-requires-clause-ends : goal.mark_led-requires-clause-ends
mark_led-requires-clause-ends g c = λ y r.
    let s = c.self.inside in
    let up = stands-seen _ _ _ _ s.references _ _ c.args.self.now c.args.x c.self.view_is c.self.invariant.0.sound c.requires in
    row_at-bare (λ (r : Seen). r.stands) (λ r. refl) s.rows c.mark_fields.new.self c.mark_fields.ensures.kept y ∙ c.self.invariant.0.references.ends c.if-self.true c.args.x y r up

pub mark_led-requires-clause-sights : goal.mark_led-requires-clause-sights
mark_led-requires-clause-sights g c = sights-raised c.self.inside.rows c.mark_fields.new.self c.self.inside.references
    c.mark_fields.ensures.kept c.mark_fields.ensures.raised (c.self.invariant.0.references.sights c.if-self.true)

pub invariant_of-self : goal.invariant_of-self
invariant_of-self g c = (
  IsRowHeap-bare _ _ _ _ _ _ _ _ _ c.self.invariant.0 (c.mark_led.ensures.kept ∙ c.mark_fields.ensures.kept) (ap (λ (l : Linked). l.refs) c.mark_led.ensures.rest) (λ f. c.mark_led.ensures.sights),
  c.self.invariant.1,
  count-kept _ _ _ (map-bare width (λ r. refl) _ _ (c.mark_led.ensures.kept ∙ c.mark_fields.ensures.kept)) c.self.invariant.2,
)

pub invariant_of-self-else-self : goal.invariant_of-self-else-self
invariant_of-self-else-self g c =
    let s = c.self.inside in (
      IsRowHeap-bare _ _ _ _ _ _ _ _ _ c.self.invariant.0 c.mark_fields.ensures.kept refl
          (λ f. sights-raised s.rows c.mark_fields.new.self s.references c.mark_fields.ensures.kept c.mark_fields.ensures.raised (c.self.invariant.0.references.sights f)),
      c.self.invariant.1,
      count-kept _ _ _ (map-bare width (λ r. refl) _ _ c.mark_fields.ensures.kept) c.self.invariant.2,
    )

pub returns-then-self-clause-kept : goal.returns-then-self-clause-kept
returns-then-self-clause-kept g c = kept-bare _ _ _ _ _ c.self.inside.references _ _ _ c.self.view_is (c.mark_led.ensures.kept ∙ c.mark_fields.ensures.kept) c.mark_led.ensures.rest

pub returns-then-self-clause-greyed : goal.returns-then-self-clause-greyed
returns-then-self-clause-greyed g c =
    let v = c.args.self.now in
    let x = c.args.x in
    let refs = ap (λ (w : HeapRows). w.refs) c.self.view_is in
    let follows : v.follows ≡ true = sym (ap (λ (w : HeapRows). w.follows) c.self.view_is) ∙ c.if-self.true in
    Greyed-then (λ y. Contains (fields_of v.heap x) (Some y)) (λ y. (v.follows ≡ true) × Refers v.refs x y) (LeadsTo v x) _ _ _ _ _ _ _ _ _ (λ y w. w) (λ y w. inl w) (λ y w. inr w)
    (greyed-seen _ _ _ _ _ c.self.inside.references _ x _ _ v c.self.view_is c.mark_fields.ensures.greyed)
    (Greyed-as (Refers c.self.inside.references.refs x) (λ y. (v.follows ≡ true) × Refers v.refs x y) _ _ _ _ _ _
    (λ y w. subst (λ l. Refers l x y) (sym refs) w.1) (λ y w. (follows, subst (λ l. Refers l x y) refs w)) c.mark_led.ensures.greyed)

pub returns-else-self-clause-kept : goal.returns-else-self-clause-kept
returns-else-self-clause-kept g c = kept-bare _ _ _ _ _ c.self.inside.references c.self.inside.references _ _ c.self.view_is c.mark_fields.ensures.kept refl

pub returns-else-self-clause-greyed : goal.returns-else-self-clause-greyed
returns-else-self-clause-greyed g c =
    let v = c.args.self.now in
    let x = c.args.x in
    Greyed-as (λ y. Contains (fields_of v.heap x) (Some y)) (LeadsTo v x) _ _ _ _ _ _
    (λ y w. elim w [ inl u ↦ u | inr u ↦ absurd (true≢false (sym u.0 ∙ (sym (ap (λ (w : HeapRows). w.follows) c.self.view_is) ∙ c.if-self.false))) ]) (λ y w. inl w)
    (greyed-seen _ _ _ _ _ c.self.inside.references _ x _ _ v c.self.view_is c.mark_fields.ensures.greyed)
