use Rattle.std.proofs.Common.{◌≡◌, ◌+◌, ◌-◌, ◌*◌, ◌/◌, ◌%◌, [], ◌∷◌, decimal, arith, append_assoc}
use Rattle.byte_streams.proofs.Digits.{decimal_pair}
use Rattle.byte_streams.proofs.drafts.Line.six_digits.Goals as goal

pub returns : goal.returns
returns c =
    let low : c.args.n - c.args.n / 100 * 100 ≡ c.args.n % 100 = omega arith in
    record {
      added = rw (decimal_pair c.args.n (omega arith) (omega arith), c.pair.ensures.added, low, c.four_digits.ensures.added)
          (append_assoc c.args.self.now.text (decimal (c.args.n / 100)) ((48 + c.args.n % 100 / 10) ∷ (48 + c.args.n % 100 % 10) ∷ []));
      left = omega arith;
    }
