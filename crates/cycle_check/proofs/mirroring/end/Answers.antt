use Rattle.std.proofs.Common.{ℕ, List, get_or, sym, ap, ◌∙◌}
use Rattle.cycle_check.proofs.Mirrored.{end-none, end-some}
use Rattle.cycle_check.proofs.mirroring.end.Goals as goal

pub returns-then-c-some : goal.returns-then-c-some
returns-then-c-some c = ap (λ (r : List ℕ). get_or r 0 0) c.packed_row.ensures ∙ sym (end-some c.args.objects c.args.starts.now c.args.members.now c.args.some c.args.c c.if-c-some.true)

pub returns-else-c-some : goal.returns-else-c-some
returns-else-c-some c = sym (end-none c.args.objects c.args.starts.now c.args.members.now c.args.some c.args.c c.if-c-some.false)
