use Rattle.std.proofs.Common.{refl}
use Rattle.byte_streams.proofs.Digits.{pair_at}
use Rattle.byte_streams.proofs.drafts.pair_of.Goals as goal

pub returns : goal.returns
returns c = let p = pair_at c.args.n c.requires in rw (p.0, p.1) refl
