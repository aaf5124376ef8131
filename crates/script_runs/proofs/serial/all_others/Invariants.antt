use Rattle.std.proofs.Common.{◌≡◌, ◌+◌, vec_len}
use Rattle.script_runs.proofs.Seated.{AreFirstOthers, AreThereFrom}
use Rattle.script_runs.proofs.serial.all_others.Given as goal

abbrev pub invariant-loop-place : goal.invariant-loop-place
invariant-loop-place g l = (l.desk.managed ≡ 8) × (l.desk.peers ≡ 8) × (vec_len l.others + 1 ≡ l.place) × AreThereFrom l.place l.desk × AreFirstOthers l.others.items
