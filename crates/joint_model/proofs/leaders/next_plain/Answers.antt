use Rattle.std.proofs.Common.{refl, sym, [], ◌∙◌}
use Rattle.std.proofs.lemmas.Bool.{true≢false}
use Rattle.joint_model.specs.Merged.{GoesOnInOther}
use Rattle.joint_model.specs.Packed.{entry_in}
use Rattle.joint_model.proofs.Walking.{leads-one, leads-other, said}
use Rattle.joint_model.proofs.leaders.next_plain.Goals as goal

pub returns-then-is_next_in_other : goal.returns-then-is_next_in_other
returns-then-is_next_in_other c =
    let xs = c.args.one.now in
    let ys = c.args.other.now in
    let zs = c.plain.new.self in
    let goes : GoesOnInOther xs ys = rw (c.number.ensures, c.number-2.ensures) at (c.is_next_in_other.ensures.0 c.if-is_next_in_other.true) in
    said c.plain.result _ _ _ _ (λ same. (refl, same)) (λ p is. leads-other xs ys zs (entry_in p.now) [] c.requires is goes) c.plain.ensures

pub returns-else-is_next_in_other : goal.returns-else-is_next_in_other
returns-else-is_next_in_other c =
    let xs = c.args.one.now in
    let ys = c.args.other.now in
    let zs = c.plain-else-is_next_in_other.new.self in
    let stays : GoesOnInOther xs ys → ⊥ = λ g. true≢false (sym (c.is_next_in_other.ensures.1 (rw (c.number.ensures, c.number-2.ensures) g)) ∙ c.if-is_next_in_other.false) in
    said c.plain-else-is_next_in_other.result _ _ _ _ (λ same. (same, refl)) (λ p is. leads-one xs ys zs (entry_in p.now) [] c.requires is stays) c.plain-else-is_next_in_other.ensures
