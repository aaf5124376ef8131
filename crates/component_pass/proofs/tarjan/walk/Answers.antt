use Rattle.std.proofs.Common.{◌≡◌, ◌+◌, List, ℕ, length, get_or, sym, ◌∙◌, ap, arith, inl, inr}
use Rattle.std.proofs.lemmas.List.{get_or-set_same, get_or-set_other}
use Rattle.std.proofs.lemmas.Bool.{cases_eq}
use Rattle.component_pass.proofs.Strong.{started}
use Rattle.component_pass.proofs.tarjan.walk.Goals as goal

pub loop-current-init : goal.loop-current-init
loop-current-init c =
    let part = c.requires.part in
    let marks = c.args.marks.now in
    let stack = c.args.stack.now.items in
    let root = c.args.root in
    let here : get_or c.enter.new.marks root 0 ≡ length stack + 1 =
    ap (λ (xs : List ℕ). get_or xs root 0) c.in_ok-enter.ensures.marks ∙ get_or-set_same marks root (length stack + 1) 0 (omega (arith, c.requires.going.sorted.marks_whole)) in
    record {
      going = rw (c.requires.frames, c.in_ok-enter.ensures.frame, c.in_ok-enter.ensures.stack, c.in_ok-enter.ensures.marks)
          (started c.args.graph.now.edges (length c.args.graph.now.nodes) part.in_range part.few stack marks c.args.labels.now c.args.rows.now root c.requires.root c.requires.fresh c.requires.going);
      none = tt;
      root = λ z. absurd (omega (arith, z, here));
      kept = λ x n z. elim (cases_eq x root) [
        | inl e ↦ absurd (omega (arith, here, z, ap (λ (y : ℕ). get_or c.enter.new.marks y 0) e))
        | inr ne ↦ n (sym (ap (λ (xs : List ℕ). get_or xs x 0) c.in_ok-enter.ensures.marks ∙ get_or-set_other marks root x (length stack + 1) 0 ne) ∙ z)
      ];
    }

pub loop-current-preserved : goal.loop-current-preserved
loop-current-preserved c =
    let i = c.loop-current.invariant in
    let e = c.in_ok-current.ensures in
    record { going = e.going; none = e.none; root = e.kept c.args.root i.root; kept = λ x n. e.kept x (i.kept x n) }

pub loop-current-smaller : goal.loop-current-smaller
loop-current-smaller c = rw c.in-Some.is (omega (arith, c.in_ok-current.ensures.less))

pub advance-requires : goal.advance-requires
advance-requires c = record { going = rw c.in-Some.is at c.loop-current.invariant.going }

pub returns-clause-going : goal.returns-clause-going
returns-clause-going c =
    let none = rw c.in_default.is at c.loop-current.invariant in
    rw none.none at none.going

pub returns-clause-frames : goal.returns-clause-frames
returns-clause-frames c = rw c.in_default.is at c.loop-current.invariant.none

pub returns-clause-root : goal.returns-clause-root
returns-clause-root c = c.loop-current.invariant.root

pub returns-clause-kept : goal.returns-clause-kept
returns-clause-kept c = c.loop-current.invariant.kept
