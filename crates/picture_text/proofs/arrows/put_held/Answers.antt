use Rattle.std.proofs.Common.{codes}
use Rattle.heap_pictures.specs.declared.pictures.Spot.TheVariants.{Object, Peer}
use Rattle.picture_text.specs.Texts.{change_text, held_looks, way_text}
use Rattle.picture_text.proofs.Chains.{drawn}
use Rattle.picture_text.proofs.arrows.put_held.Goals as goal

pub returns : goal.returns
returns c =
    drawn c.args.text.now.items (way_text (Object c.args.m) (Peer c.args.p)) (codes " [") (held_looks c.args.h c.args.style) (change_text c.args.change) (codes "];\n") _ _ _
    c.in_ok-put_begin.ensures c.in_ok-put_held_looks.ensures c.in_ok-put_end.ensures
