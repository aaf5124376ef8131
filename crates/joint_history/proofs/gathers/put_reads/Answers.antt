use Rattle.std.proofs.Common.{◌+◌}
use Rattle.std.proofs.lemmas.List.{map-set}
use Rattle.joint_model.specs.Listed.{Stock}
use Rattle.joint_history.proofs.gathers.put_reads.Goals as goal

pub returns-in-M : goal.returns-in-M
returns-in-M c = rw c.in-M.is (map-set (λ (s : Stock). s.entries) c.args.lists.now (1 + c.in-M.n) c.args.reads)
