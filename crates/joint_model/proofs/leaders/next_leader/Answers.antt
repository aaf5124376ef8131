use Rattle.std.proofs.Common.{sym, ◌∙◌}
use Rattle.std.proofs.lemmas.Bool.{true≢false}
use Rattle.joint_model.specs.Leaders.{entry_of}
use Rattle.joint_model.specs.Merged.{GoesOnInOther}
use Rattle.joint_model.proofs.Walking.{leads-one, leads-other, none-one, none-other, said}
use Rattle.joint_model.proofs.leaders.next_leader.Goals as goal

pub returns-then-is_next_in_other : goal.returns-then-is_next_in_other
returns-then-is_next_in_other c =
    let xs = c.args.one.now in
    let ys = c.args.other.now in
    let zs = c.next.new.self in
    let goes : GoesOnInOther xs ys = rw (c.number.ensures, c.number-2.ensures) at (c.is_next_in_other.ensures.0 c.if-is_next_in_other.true) in
    said c.next.result _ _ _ _ (none-other xs ys zs goes) (λ next h. (leads-other xs ys zs (entry_of next.0) next.1.now c.requires h.0 goes, h.1)) c.next.ensures

pub returns-else-is_next_in_other : goal.returns-else-is_next_in_other
returns-else-is_next_in_other c =
    let xs = c.args.one.now in
    let ys = c.args.other.now in
    let zs = c.next-else-is_next_in_other.new.self in
    let stays : GoesOnInOther xs ys → ⊥ = λ g. true≢false (sym (c.is_next_in_other.ensures.1 (rw (c.number.ensures, c.number-2.ensures) g)) ∙ c.if-is_next_in_other.false) in
    said c.next-else-is_next_in_other.result _ _ _ _ (none-one xs ys zs stays)
    (λ next h. (leads-one xs ys zs (entry_of next.0) next.1.now c.requires h.0 stays, h.1)) c.next-else-is_next_in_other.ensures
