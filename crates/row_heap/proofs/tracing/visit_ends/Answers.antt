-- One more reference of the end is done in each turn, and none of the end's stands between it and the next.
use Rattle.std.proofs.Common.{◌≡◌, ◌∙◌, refl, ap, subst, arith}
use Rattle.std.specs.Prelude.{Contains}
use Rattle.row_heap.specs.Ends.{Linked, end_of}
use Rattle.row_heap.specs.Places.{Seen}
use Rattle.row_heap.proofs.Followed.{following-begins, following-contains, following-goes, following-greyed, following-raised, following-sees}
use Rattle.row_heap.proofs.Walked.{row_at-bare}
use Rattle.row_heap.proofs.tracing.visit_ends.Goals as goal

pub loop-r-init : goal.loop-r-init
loop-r-init c = record { kept = refl; rest = refl; following = following-begins _ _ _ _ _ _ _ _ _ c.first-r.ensures }

pub at-reference-requires : goal.at-reference-requires
at-reference-requires c = (let refs = ap (λ (v : Linked). v.refs) c.loop-r.invariant.rest in (omega (arith, c.loop-r-test.true), rw refs c.loop-r.invariant.following.below))

pub visit_end-requires-clause-stands : goal.visit_end-requires-clause-stands
visit_end-requires-clause-stands c = λ y e.
    let i = c.loop-r.invariant in
    let at = rw (ap (λ (v : Linked). v.refs) i.rest) at c.at-reference.ensures.ends in
    row_at-bare (λ (r : Seen). r.stands) (λ r. refl) c.args.rows.now c.loop-r.rows i.kept y
    ∙ c.requires y (subst (λ f. Contains c.args.references.now.refs (end_of c.args.from, f)) e
    (following-contains _ _ _ _ _ _ _ _ _ _ _ _ _ _ _ i.following _ _ (omega (arith, c.loop-r-test.true)) at))

pub loop-r-preserved : goal.loop-r-preserved
loop-r-preserved c =
    let i = c.loop-r.invariant in
    let refs = ap (λ (v : Linked). v.refs) i.rest in
    let at = rw refs at c.at-reference.ensures.ends in
    let next = rw refs at c.at-reference.ensures.next in
    record {
      kept = c.visit_end.ensures.kept ∙ i.kept;
      rest = c.visit_end.ensures.rest ∙ ap (λ (v : Linked). record v { seen = c.visit_end.new.references.seen; links = c.visit_end.new.references.links }) i.rest;
      following = following-goes _ _ _ _ _ _ _ _ _ _ _ _ _ _ _ i.following _ _
          (omega (arith, c.loop-r-test.true)) at _ _ _ _ _ _ _ next c.visit_end.ensures.raised c.visit_end.ensures.greyed c.visit_end.ensures.sees;
    }

pub loop-r-smaller : goal.loop-r-smaller
loop-r-smaller c = omega (arith, c.loop-r-test.true, c.at-reference.ensures.next.below)

pub returns-clause-raised : goal.returns-clause-raised
returns-clause-raised c = (let e : c.loop-r.r ≡ 0 = omega (arith, c.loop-r-test.false) in following-raised _ _ _ _ _ _ _ _ _ _ _ _ _ _ (rw e at c.loop-r.invariant.following))

pub returns-clause-greyed : goal.returns-clause-greyed
returns-clause-greyed c = (let e : c.loop-r.r ≡ 0 = omega (arith, c.loop-r-test.false) in following-greyed _ _ _ _ _ _ _ _ _ _ _ _ _ _ (rw e at c.loop-r.invariant.following))

pub returns-clause-sees : goal.returns-clause-sees
returns-clause-sees c = (let e : c.loop-r.r ≡ 0 = omega (arith, c.loop-r-test.false) in following-sees _ _ _ _ _ _ _ _ _ _ _ _ _ _ (rw e at c.loop-r.invariant.following))

pub returns-clause-kept : goal.returns-clause-kept
returns-clause-kept c = c.loop-r.invariant.kept

pub returns-clause-rest : goal.returns-clause-rest
returns-clause-rest c = c.loop-r.invariant.rest
