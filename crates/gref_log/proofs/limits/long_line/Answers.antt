use Rattle.gref_log.proofs.Newlines.{answered, refused, whole-before}
use Rattle.gref_log.proofs.limits.long_line.Goals as goal

pub returns-in-Ok-clause-ok : goal.returns-in-Ok-clause-ok
returns-in-Ok-clause-ok c = whole-before c.args.most c.args.bytes.now c.front_of-front.result.now
    c.front_of-front.ensures c.newlines-count.result c.in-Ok.field-0 c.newlines-count.ensures c.in-Ok.ensures.ok

pub returns-in-Err-clause-ok : goal.returns-in-Err-clause-ok
returns-in-Err-clause-ok c = answered c.args.most c.args.bytes.now c.front_of-front.result.now c.front_of-front.ensures
    c.newlines-count.result c.in-Err.error c.newlines-count.ensures c.in-Err.ensures.err c.within.result c.within.ensures

pub returns-in-Err-clause-err : goal.returns-in-Err-clause-err
returns-in-Err-clause-err c = refused c.args.most c.args.bytes.now c.front_of-front.result.now c.front_of-front.ensures
    c.newlines-count.result c.in-Err.error c.newlines-count.ensures c.in-Err.ensures.err c.within.result c.within.ensures
