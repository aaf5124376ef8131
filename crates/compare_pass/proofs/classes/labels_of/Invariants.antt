use Rattle.std.proofs.Common.{◌≡◌, take}
use Rattle.compare_pass.proofs.classes.labels_of.Given as goal

abbrev pub invariant-loop-x : goal.invariant-loop-x
invariant-loop-x l = record { labels : l.labels.items ≡ take l.x l.table.labels }
