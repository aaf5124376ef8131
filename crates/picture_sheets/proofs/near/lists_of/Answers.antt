use Rattle.std.proofs.Common.{subst}
use Rattle.std.proofs.lemmas.List.{take_all}
use Rattle.picture_sheets.specs.Near.{AreLists}
use Rattle.picture_sheets.proofs.Nearing.{lists-more}
use Rattle.picture_sheets.proofs.near.lists_of.Goals as goal

pub loop-arrow-preserved : goal.loop-arrow-preserved
loop-arrow-preserved c = lists-more c.args.arrows.now c.loop-arrow.arrow-index _ c.loop-arrow.lists c.add_arrow.new.lists c.loop-arrow-test.true
    c.loop-arrow.invariant c.in_ok-add_arrow.ensures

pub returns : goal.returns
returns c = subst (λ xs. AreLists xs c.loop-arrow.lists) (take_all c.loop-arrow.arrow-index c.args.arrows.now c.loop-arrow-test.false) c.loop-arrow.invariant
