-- One more place has its turn; which rows stand, and the references, stay.
use Rattle.std.proofs.Common.{◌≡◌, ◌∙◌, ◌+◌, ◌-◌, length, Some, refl, sym, ap, subst, arith}
use Rattle.std.specs.Prelude.{slice_get}
use Rattle.joint_machine.specs.Components.{node}
use Rattle.joint_machine.specs.PeerReplay.{Refers}
use Rattle.row_marking.proofs.Greys.{Greyed-as}
use Rattle.row_heap.specs.Ends.{Linked, end_of}
use Rattle.row_heap.specs.Places.{Seen}
use Rattle.row_heap.specs.Rows.{IsLedFrom}
use Rattle.row_heap.proofs.Sources.{sources-begin, sources-end, sources-go}
use Rattle.row_heap.proofs.Walked.{row_at-bare}
use Rattle.row_heap.proofs.tracing.mark_sources.Goals as goal

pub loop-i-init : goal.loop-i-init
loop-i-init c = record { kept = refl; rest = refl; sights = c.requires.sights; greyed = sources-begin _ _ _ _ _ }

pub at-reference-requires : goal.at-reference-requires
at-reference-requires c = (let refs = ap (λ (v : Linked). length v.refs) c.loop-i.invariant.rest in (omega arith, omega (arith, c.loop-i-test.true, c.len-i-end.ensures.len, refs)))

pub mark_source-requires-clause-ends : goal.mark_source-requires-clause-ends
mark_source-requires-clause-ends c = λ x y w up.
    let i = c.loop-i.invariant in
    let same = row_at-bare (λ (r : Seen). r.stands) (λ r. refl) c.args.rows.now c.loop-i.rows i.kept in
    same y ∙ c.requires.ends x y (subst (λ l. Refers l x y) (ap (λ (v : Linked). v.refs) i.rest) w) (sym (same x) ∙ up)

pub mark_source-requires-clause-sights : goal.mark_source-requires-clause-sights
mark_source-requires-clause-sights c = c.loop-i.invariant.sights

pub loop-i-preserved : goal.loop-i-preserved
loop-i-preserved c =
    let i = c.loop-i.invariant in
    let refs = ap (λ (v : Linked). v.refs) i.rest in
    let list = c.args.references.now.refs in
    let e = end_of c.at-reference.result.from in
    let k = c.loop-i.i in
    let same = row_at-bare (λ (r : Seen). r.stands) (λ r. refl) c.args.rows.now c.loop-i.rows i.kept in
    let at = rw refs at c.at-reference.ensures.ends in
    let step = rw refs at c.mark_source.ensures.greyed in
    let own = Greyed-as (IsLedFrom list c.loop-i.rows e (k + 1)) (IsLedFrom list c.args.rows.now e (k + 1)) _ _ _ _ _ _
    (λ q w. (w.0, w.1, w.2, same w.0 ∙ w.3, w.4)) (λ q w. (w.0, w.1, w.2, sym (same w.0) ∙ w.3, w.4)) step in
    record {
      kept = c.mark_source.ensures.kept ∙ i.kept;
      rest = c.mark_source.ensures.rest ∙ ap (λ (v : Linked). record v { seen = c.mark_source.new.references.seen; links = c.mark_source.new.references.links }) i.rest;
      sights = c.mark_source.ensures.sights;
      greyed = sources-go list c.args.rows.now k e (end_of c.at-reference.result.to) _ _ _ _ _ _ _ _ _
          (subst (λ z. slice_get list z ≡ Some (e, end_of c.at-reference.result.to)) (let q : k + 1 - 1 ≡ k = omega arith in q) at) i.greyed own;
    }

pub returns-clause-kept : goal.returns-clause-kept
returns-clause-kept c = c.loop-i.invariant.kept

pub returns-clause-rest : goal.returns-clause-rest
returns-clause-rest c = c.loop-i.invariant.rest

pub returns-clause-sights : goal.returns-clause-sights
returns-clause-sights c = c.loop-i.invariant.sights

pub returns-clause-greyed : goal.returns-clause-greyed
returns-clause-greyed c = sources-end c.args.references.now.refs c.args.rows.now c.loop-i.i (λ p. c.recall_lasts.ensures (node p)) _ _ _ _ _ _
    (omega (arith, c.loop-i-test.false, c.len-i-end.ensures.len, c.loop-i.auto)) c.loop-i.invariant.greyed
