use Rattle.std.proofs.Common.{◌-◌, arith}
use Rattle.byte_streams.proofs.Bytes.{rest_of}
use Rattle.text_words.proofs.Alike.{ends_same}
use Rattle.text_words.proofs.stretches.same_ends.Goals as goal

pub returns : goal.returns
returns c t =
    let n = c.args.len in
    let front = c.same_run.ensures.same 32 c.if-same_run-lt-SHORT.false (omega arith) in
    let back = rw (rest_of (n - 32) c.args.a.now, rest_of (n - 32) c.args.b.now) at (c.same_run-2.ensures.same 32 c.if-same_run-lt-SHORT-2.false (omega arith)) in
    ends_same c.args.a.now c.args.b.now n c.requires.many c.requires.few front back
