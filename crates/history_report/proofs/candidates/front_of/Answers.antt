use Rattle.std.proofs.Common.{◌≡◌, ◌≤◌, length, take, decimal, ap, ◌∙◌, arith, length-take}
use Rattle.std.proofs.lemmas.Fmt.{length-decimal-le}
use Rattle.history_report.proofs.candidates.front_of.Goals as goal

pub of-requires : goal.of-requires
of-requires c =
    let digits = length-decimal-le 10 c.args.index (omega arith) (omega (arith, c.ranges.index.fits)) (omega (arith, c.ranges.index.fits)) in
    let text = ap length (c.digits-len.ensures.text ∙ ap decimal c.of-count.ensures) in
    omega (arith, digits, text, c.requires, c.put-at.ensures.end, c.put-at-2.ensures.end, c.put-at-3.ensures.end, length-take c.put-at-3.result c.put-at-3.new.bytes)
