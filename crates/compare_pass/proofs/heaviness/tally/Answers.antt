-- Each node that was found is counted where its mark is taken away.
use Rattle.std.proofs.Common.{◌≡◌, ◌<◌, ℕ, false, length, get_or, set, sym, refl, ◌∙◌, ap, subst, arith, inl, inr}
use Rattle.std.proofs.lemmas.Bool.{cases_lt, cases_eq, true≢false}
use Rattle.std.proofs.lemmas.List.{get_or-set_same, get_or-set_other}
use Rattle.compare_pass.proofs.Finding.{marked_below, set-taken}
use Rattle.compare_pass.proofs.Tallying.{tallied, tally-over}
use Rattle.compare_pass.proofs.heaviness.tally.Goals as goal
use Rattle.compare_pass.proofs.heaviness.tally.Goals.{then-marks-y, else-marks-y}

pub loop-y-init : goal.loop-y-init
loop-y-init c = record { done = λ k lt. absurd (omega (arith, lt)); only = λ z e. e; exact = λ z l. refl }

pub bounds-marks-y : goal.bounds-marks-y
bounds-marks-y c = omega (arith, marked_below c.args.marks.now c.args.found.now c.requires.marking c.loop-y.y-index 0 c.loop-y-test.true)

pub loop-y-preserved : goal.loop-y-preserved
loop-y-preserved c =
    let i = c.loop-y.invariant in
    let found = c.args.found.now in
    let at = c.loop-y.y-index in
    let y : ℕ = get_or found at 0 in
    let lt : y < length c.loop-y.marks = omega (arith, marked_below c.args.marks.now found c.requires.marking at 0 c.loop-y-test.true) in
    elim c.if-marks-y.branch [
      | then-marks-y w ↦ rw (w.marks-is, w.counts-is) record {
        done = λ k l. set-taken false found c.loop-y.marks at false k lt l (λ before. i.done k before);
        only = λ z e. elim (cases_eq z y) [
          | inl is ↦ absurd (true≢false (sym e ∙ ap (λ (x : ℕ). get_or (set c.loop-y.marks y false) x false) is ∙ get_or-set_same c.loop-y.marks y false false lt))
          | inr ne ↦ i.only z (sym (get_or-set_other c.loop-y.marks y z false false ne) ∙ e)
        ];
        exact = λ z l. tallied c.loop-y.counts c.loop-y.marks y z (omega (arith, lt, c.requires.size)) lt w.if-marks-y.true ∙ i.exact z l;
      }
      | else-marks-y w ↦ rw (w.marks-is, w.counts-is) record {
        done = λ k l. elim (cases_lt k at) [
          | inl kl ↦ i.done k kl
          | inr ge ↦ let is : at ≡ k = omega (arith, l, ge) in subst (λ j. get_or c.loop-y.marks (get_or found j 0) false ≡ false) is w.if-marks-y.false
        ];
        only = i.only;
        exact = i.exact;
      }
    ]

pub returns-clause-clear : goal.returns-clause-clear
returns-clause-clear c =
    let i = c.loop-y.invariant in
    (tally-over c.args.marks.now c.loop-y.marks c.args.found.now c.args.counts.now c.loop-y.counts c.requires.marking (λ k l. i.done k (omega (arith, l))) i.only (omega arith) i.exact).0

pub returns-clause-tallies : goal.returns-clause-tallies
returns-clause-tallies c =
    let i = c.loop-y.invariant in
    (tally-over c.args.marks.now c.loop-y.marks c.args.found.now c.args.counts.now c.loop-y.counts c.requires.marking (λ k l. i.done k (omega (arith, l))) i.only (omega arith) i.exact).1
