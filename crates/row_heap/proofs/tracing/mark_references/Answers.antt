-- One more temporary is gone through in each turn. At the end none waits.
use Rattle.std.proofs.Common.{◌≡◌, ◌-◌, ◌∙◌, [], suc, true, refl, sym, ap, arith}
use Rattle.row_heap.specs.Ends.{Linked}
use Rattle.row_heap.specs.Places.{Seen, row_at}
use Rattle.row_heap.proofs.Crossing.{crossing-begins, crossing-ends, crossing-goes, crossing-over, crossing-seen, crossing-sights, crossing-smaller}
use Rattle.row_heap.proofs.Walked.{marked-row, row-marked, row_at-bare}
use Rattle.row_heap.proofs.tracing.mark_references.Goals as goal

pub visit_ends-requires : goal.visit_ends-requires
visit_ends-requires c = λ y w. c.requires.ends y record { through = []; walk = w }

pub loop-through-init : goal.loop-through-init
loop-through-init c = record {
  kept = c.visit_ends.ensures.kept;
  rest = c.visit_ends.ensures.rest;
  crossing = crossing-begins _ _ _ _ _ _ _ _ _ _ _ _ _ c.visit_ends.ensures.raised c.visit_ends.ensures.greyed c.visit_ends.ensures.sees;
}

pub link-through-requires : goal.link-through-requires
link-through-requires c =
    let e : suc (c.loop-through.through - 1) ≡ c.loop-through.through = omega (arith, c.loop-through-test.true) in
    rw e at (crossing-seen _ _ _ _ _ _ _ _ (c.loop-through.through - 1) _ _ _ (rw (← e) at c.loop-through.invariant.crossing))

pub loop-through-preserved : goal.loop-through-preserved
loop-through-preserved c =
    let i = c.loop-through.invariant in
    let e : suc (c.loop-through.through - 1) ≡ c.loop-through.through = omega (arith, c.loop-through-test.true) in
    let refs = ap (λ (v : Linked). v.refs) i.rest in
    record {
      kept = c.visit_ends-in-loop-through.ensures.kept ∙ i.kept;
      rest = c.visit_ends-in-loop-through.ensures.rest ∙ ap (λ (v : Linked).
          record v { seen = c.visit_ends-in-loop-through.new.references.seen; links = c.visit_ends-in-loop-through.new.references.links }) i.rest;
      crossing = crossing-goes _ _ _ _ _ _ _ _ (c.loop-through.through - 1) _ _ _ _ _ _ _ _ _ _ (rw (← e) at i.crossing) (rw (← e) at c.link-through.ensures)
          (rw refs at c.visit_ends-in-loop-through.ensures.raised) (rw refs at c.visit_ends-in-loop-through.ensures.greyed) (rw refs at c.visit_ends-in-loop-through.ensures.sees);
    }

pub loop-through-smaller : goal.loop-through-smaller
loop-through-smaller c =
    let i = c.loop-through.invariant in
    let e : suc (c.loop-through.through - 1) ≡ c.loop-through.through = omega (arith, c.loop-through-test.true) in
    let refs = ap (λ (v : Linked). v.refs) i.rest in
    rw e at (crossing-smaller _ _ _ _ _ _ _ _ (c.loop-through.through - 1) _ _ _ _ _ _ _ (rw (← e) at i.crossing)
    (rw (← e) at c.link-through.ensures) (rw refs at c.visit_ends-in-loop-through.ensures.sees))

pub visit_ends-requires-in-loop-through : goal.visit_ends-requires-in-loop-through
visit_ends-requires-in-loop-through c = λ y w.
    let i = c.loop-through.invariant in
    let e : suc (c.loop-through.through - 1) ≡ c.loop-through.through = omega (arith, c.loop-through-test.true) in
    row_at-bare (λ (r : Seen). r.stands) (λ r. refl) c.args.rows.now c.loop-through.rows i.kept y
    ∙ c.requires.ends y (crossing-over _ _ _ _ _ _ _ _ (c.loop-through.through - 1) _ _ _ (rw (← e) at i.crossing) y (rw (ap (λ (v : Linked). v.refs) i.rest) at w))

pub returns-clause-sights : goal.returns-clause-sights
returns-clause-sights c = λ t ts y s w u.
    let i = c.loop-through.invariant in
    let e : c.loop-through.through ≡ 0 = omega (arith, c.loop-through-test.false) in
    marked-row c.loop-through.rows y
    (crossing-sights _ _ _ _ _ _ _ _ _ _ _ (λ z. (row_at c.args.rows.now z).stands ≡ true) (rw e at i.crossing) (λ t ts z s w u. row-marked c.args.rows.now z (c.requires.sights t ts z s w u)) t ts y s
    (rw (ap (λ (v : Linked). v.refs) i.rest) at w) (sym (row_at-bare (λ (r : Seen). r.stands) (λ r. refl) c.args.rows.now c.loop-through.rows i.kept y) ∙ u))

pub returns-clause-greyed : goal.returns-clause-greyed
returns-clause-greyed c =
    let e : c.loop-through.through ≡ 0 = omega (arith, c.loop-through-test.false) in
    crossing-ends _ _ _ _ _ _ _ _ _ _ _ (λ z. (row_at c.args.rows.now z).stands ≡ true) (rw e at c.loop-through.invariant.crossing)
    (λ t ts z s w u. row-marked c.args.rows.now z (c.requires.sights t ts z s w u)) c.requires.ends
