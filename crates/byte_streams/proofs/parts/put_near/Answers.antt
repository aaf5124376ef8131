use Rattle.std.proofs.Common.{◌≡◌, ◌+◌, ◌/◌, ◌%◌, ◌∷◌, [], decimal, take, ◌∙◌, arith}
use Rattle.byte_streams.proofs.Digits.{decimal_pair}
use Rattle.byte_streams.proofs.PutParts.{near-joined}
use Rattle.byte_streams.proofs.parts.put_near.Goals as goal

pub returns-clause-text : goal.returns-clause-text
returns-clause-text c =
    let i = c.part.inside in
    let v = c.part.invariant in
    let n = i.base + c.args.low in
    let fits = rw (← c.part.view_is) at c.requires.fits in
    let high : n / 100 ≡ i.base / 100 = omega (arith, v.1.1.1.0, c.requires.digits) in
    let low : n % 100 ≡ c.args.low = omega (arith, v.1.1.1.0, c.requires.digits) in
    rw (← c.part.view_is) (c.put_pair.ensures.text ∙ rw (c.put_bytes-at.ensures.text, v.1.1.1.1, decimal_pair n (omega (arith, v.1.1.0)) fits, high, low)
    (near-joined (take c.args.at c.args.bytes.now) (take i.word i.bytes) (decimal (i.base / 100)) ((48 + c.args.low / 10) ∷ (48 + c.args.low % 10) ∷ [])))
