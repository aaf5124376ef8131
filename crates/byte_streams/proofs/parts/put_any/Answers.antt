use Rattle.std.proofs.Common.{◌+◌, arith}
use Rattle.std.proofs.lemmas.Fmt.{decimal_digit}
use Rattle.std.proofs.lemmas.List.{take_more_set}
use Rattle.byte_streams.proofs.Digits.{decimal_two}
use Rattle.byte_streams.proofs.parts.put_any.Goals as goal

pub returns-then-n-lt10-clause-text : goal.returns-then-n-lt10-clause-text
returns-then-n-lt10-clause-text c = rw (decimal_digit c.args.n c.if-n-lt10.true) (take_more_set c.args.bytes.now c.args.at (48 + c.args.n) (omega arith))

pub returns-then-n-lt100-clause-text : goal.returns-then-n-lt100-clause-text
returns-then-n-lt100-clause-text c = rw (decimal_two c.args.n (omega arith) c.if-n-lt100.true) c.put_pair.ensures.text
