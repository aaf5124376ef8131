-- The union covers both.
use Rattle.std.proofs.Common.{◌↔◌, ◌⊎◌, ℕ, List, Result, Ok, Err, IfOk, get_or, inl, inr}
use Rattle.std.specs.List.{Contains}
use Rattle.component_pass.specs.Counting.{Joins, cap}
use Rattle.component_pass.specs.Gathering.{set_at}
use Rattle.component_pass.proofs.leading.join.Goals as goal

joined : {E : Type 0} (r : Result ℕ E) (one other : List ℕ) (both : ℕ → List ℕ)
    → IfOk r (λ s. (j : ℕ) → Contains (both s) j ↔ (Contains one j ⊎ Contains other j)) → IfOk r (λ s. Joins cap one other (both s))
joined (Ok s) one other both e = record { first = inr (λ j c. (e j).1 (inl c)); second = inr (λ j c. (e j).1 (inr c)); sound = λ j c. (e j).0 c }
joined (Err x) one other both e = tt

pub returns-clause-joins : goal.returns-clause-joins
returns-clause-joins c =
    joined c.join_both.result (set_at c.args.count c.args.lists.now (get_or c.args.ins.now c.args.at 0))
    (set_at c.args.count c.args.lists.now c.args.number) (λ s. set_at c.args.count c.join_both.new.lists s) c.join_both.ensures.exact
