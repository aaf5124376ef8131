-- No temporary counts as seen, so what live objects' references lead to is gone through anew; only marks change.
use Rattle.std.proofs.Common.{◌∙◌, suc, refl, sym, ap, subst}
use Rattle.joint_machine.specs.PeerReplay.{Refers}
use Rattle.row_marking.specs.Traces.{Greyed}
use Rattle.row_marking.proofs.Greys.{Greyed-as}
use Rattle.row_heap.specs.Ends.{Linked}
use Rattle.row_heap.specs.Marks.{IsReferred}
use Rattle.row_heap.specs.Places.{links_in, marks_in}
use Rattle.row_heap.specs.Rows.{HeapRows, IsLedTo}
use Rattle.row_heap.proofs.Edges.{rest-kept}
use Rattle.row_heap.proofs.FieldCounts.{count-kept, width}
use Rattle.row_heap.proofs.Walked.{IsRowHeap-bare, kept-bare, live-seen, map-bare, stands-seen}
use Rattle.row_heap.proofs.heap.RowHeap.shade_references.Goals as goal

pub mark_sources-requires-clause-ends : goal.mark_sources-requires-clause-ends
mark_sources-requires-clause-ends g c = λ x y r up.
    let s = c.self.inside in
    let v = c.args.self.now in
    let refs = sym (ap (λ (l : Linked). l.refs) c.forget.ensures.rest) in
    let there = subst (λ (w : HeapRows). Refers w.refs x y) c.self.view_is (subst (λ l. Refers l x y) (sym refs) r) in
    stands-seen _ _ _ _ s.references _ _ v y c.self.view_is c.self.invariant.0.sound (c.requires x y there (live-seen _ _ _ _ s.references _ _ v x c.self.view_is c.self.invariant.0.sound up))

pub mark_sources-requires-clause-sights : goal.mark_sources-requires-clause-sights
mark_sources-requires-clause-sights g c = λ t through y h w e. absurd (c.forget.ensures.none (suc t) h)

pub invariant_of-self : goal.invariant_of-self
invariant_of-self g c = (
  IsRowHeap-bare _ _ _ _ _ _ _ _ _ c.self.invariant.0 c.mark_sources.ensures.kept
      (ap (λ (l : Linked). l.refs) c.mark_sources.ensures.rest ∙ ap (λ (l : Linked). l.refs) c.forget.ensures.rest) (λ f. c.mark_sources.ensures.sights),
  c.self.invariant.1,
  count-kept _ _ _ (map-bare width (λ r. refl) _ _ c.mark_sources.ensures.kept) c.self.invariant.2,
)

pub returns-clause-greyed : goal.returns-clause-greyed
returns-clause-greyed g c =
    let s = c.self.inside in
    let v = c.args.self.now in
    let list = c.forget.new.self.refs in
    let refs = ap (λ (l : Linked). l.refs) c.forget.ensures.rest ∙ ap (λ (w : HeapRows). w.refs) c.self.view_is in
    let y = Greyed-as (IsLedTo list s.rows) (IsReferred v) _ _ _ _ _ _
    (λ q w. (w.0, stands-seen _ _ _ _ s.references _ _ v w.0 c.self.view_is c.self.invariant.0.sound w.1.live, subst (λ l. Refers l w.0 q) (sym refs) w.1.reference))
    (λ q w.
    let live = live-seen _ _ _ _ s.references _ _ v w.0 c.self.view_is c.self.invariant.0.sound w.1 in
    let there = subst (λ l. Refers l w.0 q) refs w.2 in
    (w.0, record { live = live; reference = there; there = c.requires w.0 q there live }))
    c.mark_sources.ensures.greyed in
    subst (λ (w : HeapRows). Greyed (IsReferred v) w.marks w.links c.args.grey.now (marks_in c.mark_sources.new.rows) (links_in c.mark_sources.new.rows) c.mark_sources.new.grey) c.self.view_is y

pub returns-clause-rest : goal.returns-clause-rest
returns-clause-rest g c =
    let new = c.mark_sources.new.references in
    let same = c.mark_sources.ensures.rest ∙ ap (λ (l : Linked). record l { seen = new.seen; links = new.links }) c.forget.ensures.rest in
    rest-kept c.args.self.now _ (kept-bare _ _ _ _ _ c.self.inside.references _ _ _ c.self.view_is c.mark_sources.ensures.kept same)
