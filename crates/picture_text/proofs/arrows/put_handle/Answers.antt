use Rattle.std.proofs.Common.{codes}
use Rattle.picture_text.specs.Texts.{change_text, handle_looks, way_text}
use Rattle.picture_text.proofs.Chains.{drawn}
use Rattle.picture_text.proofs.arrows.put_handle.Goals as goal

pub returns : goal.returns
returns c =
    drawn c.args.text.now.items (way_text c.args.from c.args.to) (codes " [") (handle_looks c.args.style) (change_text c.args.change) (codes "];\n") _ _ _
    c.in_ok-put_begin.ensures c.in_ok-put_handle_looks.ensures c.in_ok-put_end.ensures
