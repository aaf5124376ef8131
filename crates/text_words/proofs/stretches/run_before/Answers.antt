use Rattle.std.proofs.Common.{arith}
use Rattle.text_words.proofs.Search.{run_none, run_some}
use Rattle.text_words.proofs.stretches.run_before.Goals as goal

pub returns-then-found-eq0-clause-before : goal.returns-then-found-eq0-clause-before
returns-then-found-eq0-clause-before c = (run_none 16 c.args.bytes.now c.args.byte (omega arith) c.requires c.if-found-eq0.true).before

pub returns-else-found-eq0-clause-within : goal.returns-else-found-eq0-clause-within
returns-else-found-eq0-clause-within c = (run_some 16 c.args.bytes.now c.args.byte (omega arith) c.requires c.if-found-eq0.false).within

pub returns-else-found-eq0-clause-before : goal.returns-else-found-eq0-clause-before
returns-else-found-eq0-clause-before c = (run_some 16 c.args.bytes.now c.args.byte (omega arith) c.requires c.if-found-eq0.false).before

pub returns-else-found-eq0-clause-found : goal.returns-else-found-eq0-clause-found
returns-else-found-eq0-clause-found c = (run_some 16 c.args.bytes.now c.args.byte (omega arith) c.requires c.if-found-eq0.false).found
