-- The rows of the first members, and one more.
use Rattle.component_pass.specs.Counting.{cap}
use Rattle.std.proofs.Common.{◌<◌, ℕ, List, [], ◌∷◌, ◌++◌, length, get_or, sym, subst, arith, inl, inr}
use Rattle.std.proofs.lemmas.List.{take_more, take_all}
use Rattle.std.proofs.lemmas.List.Elements.{Contains-push_cases}
use Rattle.bridge_graph.specs.Parts.{row_at}
use Rattle.component_pass.specs.Gathering.{Aims, AimsFrom, set_at}
use Rattle.component_pass.proofs.counting.full_among.Goals as goal

none_more : (edges : List (List ℕ)) (members sets : List ℕ) (x count : ℕ) (lists : List (List ℕ)) → ((s : ℕ) → AimsFrom (row_at edges x) sets s → length (set_at count lists s) < cap)
    → ((s : ℕ) → Aims edges sets members s → length (set_at count lists s) < cap) → (s : ℕ) → Aims edges sets (members ++ x ∷ []) s → length (set_at count lists s) < cap
none_more edges members sets x count lists few h s a = elim (Contains-push_cases members x a.0 a.1) [
  | inl c ↦ h s (a.0, c, a.2)
  | inr e ↦ few s (subst (λ (z : ℕ). AimsFrom (row_at edges z) sets s) (sym e) a.2)
]

pub loop-x-preserved : goal.loop-x-preserved
loop-x-preserved c =
    let x : ℕ = get_or c.args.members.now c.loop-x.x-index 0 in
    let e = rw c.row.ensures.row at c.full_in.ensures.none in
    let f = rw c.in_default.is at e in
    rw (take_more c.args.members.now c.loop-x.x-index 0 c.loop-x-test.true) record {
      none = none_more c.args.graph.now.edges _ c.args.sets.now x c.args.count c.args.lists.now f c.loop-x.invariant.none;
    }

pub returns-clause-none : goal.returns-clause-none
returns-clause-none c = rw (take_all c.loop-x.x-index c.args.members.now (omega arith)) at c.loop-x.invariant.none
