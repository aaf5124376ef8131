use Rattle.std.proofs.Common.{rules, ◌≡◌, suc, ◌+◌, [], ◌∷◌, ◌++◌, length, arith, ap, subst, sym}
use Rattle.std.proofs.lemmas.List.{nil_from_length}
use Rattle.joint_model.specs.Following.{followers_of}
use Rattle.joint_model.specs.Merged.{merged, IsNumbered}
use Rattle.joint_model.proofs.Walking.{numbered-rest}
use Rattle.joint_model.proofs.finished.Walk.next.Goals as goal

pub invariant_of-self : goal.invariant_of-self
invariant_of-self c =
    let is : c.self.inside.own.now ≡ c.in-Some.h.now ∷ c.in-Some.own.now = search rules in
    let size : length c.self.inside.own.now ≡ suc (length c.in-Some.own.now) = ap length is in (
      numbered-rest c.self.inside.leader c.self.inside.next c.self.inside.own.now c.in-Some.own.now c.in-Some.h.now (merged c.self.inside.one c.self.inside.other) is c.self.invariant.0,
      omega (arith, size, c.self.invariant.1),
    )

pub invariant_of-self-in-Some-next_plain : goal.invariant_of-self-in-Some-next_plain
invariant_of-self-in-Some-next_plain c =
    let w = c.self.inside in
    let none : w.own.now ≡ [] = nil_from_length w.own.now c.in_default.ensures.cases in
    let whole : IsNumbered (merged w.one w.other) = subst (λ gs. IsNumbered (followers_of w.leader w.next gs ++ merged w.one w.other)) none c.self.invariant.0 in
    let first = subst IsNumbered c.in-Some-next_plain.ensures whole in
    (subst (λ gs. IsNumbered (followers_of w.leader w.next gs ++ merged c.next_plain.new.one c.next_plain.new.other)) (sym none) (first.0 + 1, first.1.1), c.self.invariant.1)
