-- A row none of whose first nodes has a set of so many, and one node more.
use Rattle.component_pass.specs.Counting.{cap}
use Rattle.std.proofs.Common.{◌≡◌, ◌<◌, ℕ, List, [], ◌∷◌, ◌++◌, length, get_or, sym, subst, arith, inl, inr}
use Rattle.std.proofs.lemmas.List.{take_more, take_all}
use Rattle.std.proofs.lemmas.List.Elements.{Contains-push_cases}
use Rattle.component_pass.specs.Gathering.{AimsFrom, set_at}
use Rattle.component_pass.proofs.counting.full_in.Goals as goal

none_more : (row sets : List ℕ) (y count : ℕ) (lists : List (List ℕ)) → length (set_at count lists (get_or sets y 0)) < cap
    → ((s : ℕ) → AimsFrom row sets s → length (set_at count lists s) < cap) → (s : ℕ) → AimsFrom (row ++ y ∷ []) sets s → length (set_at count lists s) < cap
none_more row sets y count lists few h s a = elim (Contains-push_cases row y a.0 a.1) [
  | inl c ↦ h s (a.0, c, a.2)
  | inr e ↦ subst (λ (k : ℕ). length (set_at count lists k) < cap) (subst (λ (z : ℕ). get_or sets z 0 ≡ s) (sym e) a.2) few
]

pub loop-y-preserved : goal.loop-y-preserved
loop-y-preserved c =
    let y : ℕ = get_or c.args.row.now c.loop-y.y-index 0 in
    rw (take_more c.args.row.now c.loop-y.y-index 0 c.loop-y-test.true) record {
      none = none_more _ c.args.sets.now y c.args.count c.args.lists.now (omega arith) c.loop-y.invariant.none;
    }

pub returns-clause-none : goal.returns-clause-none
returns-clause-none c = rw (take_all c.loop-y.y-index c.args.row.now (omega arith)) at c.loop-y.invariant.none
