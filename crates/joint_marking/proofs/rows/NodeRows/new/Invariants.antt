-- The nodes so far lead nowhere.
use Rattle.std.proofs.Common.{map}
use Rattle.joint_marking.specs.Nodes.{HasNone}
use Rattle.joint_marking.proofs.rows.NodeRows.new.Given as goal

abbrev pub invariant-loop : goal.invariant-loop
invariant-loop l = HasNone l.counter (map (λ r. r.items) l.rows.items)
