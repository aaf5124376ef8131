use Rattle.std.proofs.Common.{◌≡◌, ◌++◌, ◌∷◌, [], ◌+◌, ◌-◌, ◌≤◌, ◌∙◌, arith, rules, sum_by, length, ap, refl}
use Rattle.std.proofs.lemmas.List.{length_push}
use Rattle.std.proofs.lemmas.List.Sums.{sum_by_push}
use Rattle.joint_model.specs.declared.marks.Leader.{Leader}
use Rattle.std.specs.Prelude.{vec_len}
use Rattle.joint_machine.specs.Numbers.{u32_max}
use Rattle.joint_model.specs.Listed.{Shelf}
use Rattle.joint_model.specs.Leaders.{AreFollowed}
use Rattle.joint_model.proofs.Spelling.{leader-last}
use Rattle.joint_model.proofs.Searching.{starts-last}
use Rattle.joint_model.proofs.kept.Kept.push.Goals as goal

pub invariant_of-self : goal.invariant_of-self
invariant_of-self c =
    let ls = c.self.inside.leaders.all in
    let l : Leader = record { entry = c.args.entry; from = c.len.result; followers = 0 } in
    let sum : sum_by (λ (x : Leader). x.followers) (ls ++ l ∷ []) ≡ sum_by (λ (x : Leader). x.followers) ls + 0 = sum_by_push (λ (x : Leader). x.followers) ls l in
    let followed : AreFollowed (ls ++ l ∷ []) c.self.inside.followers.items = omega (arith, sum, c.self.invariant.0) in
    let size : length (ls ++ l ∷ []) ≡ length ls + 1 = length_push ls l in
    let spare : 1 ≤ c.self.inside.spare = search rules in
    let limit : length (ls ++ l ∷ []) + vec_len c.self.inside.followers + (c.self.inside.spare - 1) ≤ u32_max = omega (arith, size, c.self.invariant.2, spare) in
    rw c.push.ensures.all
    (followed, starts-last 0 ls l c.self.invariant.1 (search rules), limit, search rules, search rules, search rules)

pub returns-clause-entries : goal.returns-clause-entries
returns-clause-entries c =
    rw c.push.ensures.all
    (leader-last c.self.inside.leaders.all _ c.self.inside.followers.items c.self.invariant.0 refl
    ∙ ap (λ (s : Shelf). s.entries ++ c.args.entry ∷ []) c.self.view_is)
