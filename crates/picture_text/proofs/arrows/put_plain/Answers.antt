use Rattle.std.proofs.Common.{codes}
use Rattle.picture_text.specs.Texts.{change_text, way_text}
use Rattle.picture_text.proofs.Chains.{drawn}
use Rattle.picture_text.proofs.arrows.put_plain.Goals as goal

pub returns : goal.returns
returns c =
    drawn c.args.text.now.items (way_text c.args.from c.args.to) (codes " [") c.args.looks.now (change_text c.args.change) (codes "];\n") _ _ _
    c.in_ok-put_begin.ensures c.in_ok-put.ensures c.in_ok-put_end.ensures
