use Rattle.std.proofs.Common.{◌≡◌, ◌∷◌, drop, decimal, ap, arith, sym, ◌∙◌}
use Rattle.std.proofs.lemmas.Fmt.{decimal_injective}
use Rattle.byte_streams.proofs.Bytes.{rest_of}
use Rattle.text_words.proofs.numbers.lettered.Goals as goal

pub returns-else-n-below : goal.returns-else-n-below
returns-else-n-below c = λ n l e.
    let r = rw (rest_of 1 c.args.word.now) at c.in_ok-n.ensures.1 in
    let t : drop 1 (c.args.letter ∷ decimal n) ≡ drop 1 c.args.word.now = ap (drop 1) e in
    let same = decimal_injective n c.in_ok-n.n (omega arith) c.in_ok-n.ensures.0 (t ∙ sym r) in
    omega arith
