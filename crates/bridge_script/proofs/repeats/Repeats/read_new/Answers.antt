use Rattle.std.proofs.Common.{sym, ◌∙◌, arith}
use Rattle.std.proofs.lemmas.List.Elements.{All-set}
use Rattle.bridge_script.specs.Repeats.{HasItsText}
use Rattle.bridge_script.proofs.Pieces.{copied}
use Rattle.bridge_script.proofs.repeats.Repeats.read_new.Goals as goal

pub invariant_of-self : goal.invariant_of-self
invariant_of-self c =
    let read = c.in-Ok.ensures in
    let same = copied c.len-len.result c.copy_from_slice.new.self _ c.args.text (c.copy_from_slice.ensures.after ∙ c.front.ensures) c.len-len.ensures in
    All-set HasItsText c.self.inside.kept c.args.mark _ (omega arith, (read.0, read.1 ∙ sym same)) c.self.invariant
