use Rattle.std.proofs.Common.{◌++◌, codes}
use Rattle.heap_pictures.specs.declared.pictures.Spot.TheVariants.{Handle}
use Rattle.picture_text.specs.Texts.{change_text, spot_text}
use Rattle.picture_text.proofs.Chains.{shaped}
use Rattle.picture_text.proofs.arrows.put_lone.Goals as goal

pub returns : goal.returns
returns c =
    shaped c.args.text.now.items (codes "  ") (spot_text (Handle c.args.h)) (codes " [shape=box,color=gray,fontcolor=gray") (change_text c.args.change ++ codes "];\n") _ _
    c.in_ok-put_shape.ensures c.in_ok-put_end.ensures
