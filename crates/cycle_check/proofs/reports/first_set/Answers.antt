use Rattle.std.proofs.Common.{ℕ, List, subst, sym, get_or}
use Rattle.std.specs.List.{Contains}
use Rattle.std.proofs.lemmas.List.{take_all}
use Rattle.array_graphs.specs.Graphs.{IsSet}
use Rattle.cycle_check.proofs.Flags.{unset-at}
use Rattle.cycle_check.proofs.Lists.{seen-more}
use Rattle.cycle_check.proofs.reports.first_set.Goals as goal

pub loop-x-preserved : goal.loop-x-preserved
loop-x-preserved c =
    let flags = c.args.flags.now in
    let objects = c.args.objects.now in
    seen-more (λ z. IsSet flags z → ⊥) objects c.loop-x.x-index c.loop-x-test.true c.loop-x.invariant (unset-at flags (get_or objects c.loop-x.x-index 0) c.if-flags-x-ne0.false)

pub returns : goal.returns
returns c = λ x m. c.loop-x.invariant x (subst (λ (ys : List ℕ). Contains ys x) (sym (take_all c.loop-x.x-index c.args.objects.now c.loop-x-test.false)) m)
