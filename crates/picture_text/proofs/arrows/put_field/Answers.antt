use Rattle.std.proofs.Common.{codes}
use Rattle.picture_text.specs.Texts.{change_text, field_looks, way_text}
use Rattle.picture_text.proofs.Chains.{drawn}
use Rattle.picture_text.proofs.arrows.put_field.Goals as goal

pub returns : goal.returns
returns c =
    drawn c.args.text.now.items (way_text c.args.from c.args.to) (codes " [") (field_looks c.args.i) (change_text c.args.change) (codes "];\n") _ _ _
    c.in_ok-put_begin.ensures c.in_ok-put_field_looks.ensures c.in_ok-put_end.ensures
