use Rattle.std.proofs.Common.{[], ◌∷◌, arith, sym, subst, ◌∙◌}
use Rattle.std.specs.Prelude.{flat_map}
use Rattle.std.proofs.lemmas.Bool.{eqb-true}
use Rattle.picture_sheets.specs.Near.{Grows, joined_to}
use Rattle.picture_sheets.proofs.Nearing.{near-all, near-more, near-none}
use Rattle.picture_sheets.proofs.near.within.Goals as goal

pub loop-i-init : goal.loop-i-init
loop-i-init c = near-none c.args.arrows.now c.args.start c.new-near.result c.put.new.near c.put.new.fresh.items c.new-near.ensures.empty
    (subst (λ f. Grows (c.args.start ∷ []) c.new-near.result c.put.new.near f c.put.new.fresh.items) c.new-newest.ensures.items c.in_ok-put.ensures)

pub returns-then-is_empty : goal.returns-then-is_empty
returns-then-is_empty c =
    let e = eqb-true _ 0 (sym c.is_empty.ensures ∙ c.if-is_empty.true) in
    near-all c.args.arrows.now c.args.start c.loop-i.i c.args.k c.loop-i.near c.loop-i.newest.items c.loop-i.invariant (omega (arith, e)) (omega (arith, c.loop-i-test.true))

pub loop-i-preserved : goal.loop-i-preserved
loop-i-preserved c =
    near-more c.args.arrows.now c.in_ok-lists.lists c.args.start c.loop-i.i c.loop-i.near c.grown.new.near c.loop-i.newest.items c.in_ok-newest.newest.items
    c.in_ok-lists.ensures c.loop-i.invariant
    (subst (λ b. Grows (flat_map (joined_to c.in_ok-lists.lists) b) c.loop-i.near c.grown.new.near [] c.in_ok-newest.newest.items) c.as_slice.ensures.value c.in_ok-newest.ensures)
