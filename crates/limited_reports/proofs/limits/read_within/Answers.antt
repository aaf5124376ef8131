use Rattle.std.proofs.Common.{[], ◌<◌, length, arith}
use Rattle.report_reader.proofs.Reaching.{nothing_read}
use Rattle.limited_reports.proofs.Fronts.{long_alone}
use Rattle.limited_reports.proofs.limits.read_within.Goals as goal

pub returns-then-bytes-most-clause-err : goal.returns-then-bytes-most-clause-err
returns-then-bytes-most-clause-err c =
    let few : length c.args.bytes.now < 4294967295 = c.requires in
    long_alone c.args.most c.args.bytes.now c.refuse_long.result c.if-bytes-most.true
    (c.refuse_long.ensures [] (nothing_read c.new.result c.new.ensures) (omega (arith, few)))
