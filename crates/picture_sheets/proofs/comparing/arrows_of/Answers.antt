use Rattle.std.proofs.Common.{ap, ◌∙◌}
use Rattle.heap_pictures.specs.declared.pictures.Arrow.{Arrow}
use Rattle.picture_sheets.specs.Keys.{has_key, is_wanted}
use Rattle.picture_sheets.proofs.Keeping.{kept-more}
use Rattle.picture_sheets.proofs.comparing.arrows_of.Goals as goal

pub loop-arrow-preserved : goal.loop-arrow-preserved
loop-arrow-preserved c = kept-more (λ (a : Arrow). is_wanted c.args.wanted (has_key c.args.set.now a)) c.args.arrows.now c.loop-arrow.arrow-index _
    c.loop-arrow.found.items c.keep.new.list.items c.is_wanted.result c.loop-arrow-test.true c.loop-arrow.invariant
    (c.is_wanted.ensures ∙ ap (is_wanted c.args.wanted) c.has_arrow.ensures) c.in_ok-keep.ensures
