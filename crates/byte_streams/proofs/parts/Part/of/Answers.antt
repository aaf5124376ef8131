use Rattle.std.proofs.Common.{◌<◌, length, refl, ap, arith}
use Rattle.byte_streams.proofs.PutParts.{word_set}
use Rattle.byte_streams.proofs.parts.Part.of.Goals as goal

pub invariant_of-result : goal.invariant_of-result
invariant_of-result c =
    let short : length c.args.word.now < 32 = omega (arith, c.requires) in
    (c.requires, (omega (arith, c.requires), (omega arith, (refl, word_set (length c.args.word.now) c.copy_from_slice.new.self _ (ap length c.copy_from_slice.ensures.after) short))))
