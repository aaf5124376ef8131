use Rattle.std.proofs.Common.{refl}
use Rattle.entry_reader.proofs.lists.take_none.Goals as goal

pub returns-in_default : goal.returns-in_default
returns-in_default c = (refl, λ rest e. (let a = c.fork-ahead.ensures in let b = c.in_default.ensures.0 in cc))

pub returns-then-not-is_same : goal.returns-then-not-is_same
returns-then-not-is_same c = (refl, λ rest e. c.if-not-is_same.ensures (let a = c.fork-ahead.ensures in let b = c.in-Some.ensures in cc))
