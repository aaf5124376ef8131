-- The class is the part of the stack from its place up; every other node with a place lies below it.
use Rattle.std.proofs.Common.{◌≡◌, ◌+◌, ◌<◌, ℕ, length, drop, get_or, refl, sym, ◌∙◌, ap, arith, inl, inr}
use Rattle.std.proofs.lemmas.List.Elements.{All-contains, All-drop}
use Rattle.std.proofs.lemmas.Slice.{between_to_end}
use Rattle.component_pass.specs.Tarjan.{done_mark}
use Rattle.component_pass.proofs.Strong.{to_drop, from_drop}
use Rattle.component_pass.proofs.tarjan.close.Goals as goal

pub returns-clause-taken : goal.returns-clause-taken
returns-clause-taken c = λ k a b.
    let stack = c.args.stack.now.items in
    let taken = rw (between_to_end c.deref.result.now c.args.at (length c.deref.result.now) (omega arith), c.deref.ensures.value) at c.settle.ensures.taken in
    All-contains (λ (x : ℕ). (get_or c.settle.new.marks x 0 ≡ done_mark) × (get_or c.settle.new.labels x 0 ≡ length c.args.rows.now)) (drop c.args.at stack) (get_or stack k 0)
    (λ i d lt. let t = taken i d lt in (t.0, omega (arith, t.1))) (to_drop stack c.args.at k (get_or stack k 0) a b refl)

pub returns-clause-others : goal.returns-clause-others
returns-clause-others c = λ x out.
    let stack = c.args.stack.now.items in
    let others = rw (between_to_end c.deref.result.now c.args.at (length c.deref.result.now) (omega arith), c.deref.ensures.value) at c.settle.ensures.others in
    others x (λ t.
    let k = from_drop stack c.args.at x t in
    let p = c.requires.placed k.0 k.2 in
    let m : get_or c.args.marks.now x 0 ≡ k.0 + 1 = ap (λ (y : ℕ). get_or c.args.marks.now y 0) (sym k.3) ∙ p in
    elim out [ inl l ↦ absurd (omega (arith, l, m, k.1)) | inr l ↦ absurd (omega (arith, l, m, k.2)) ])

pub settle-requires-clause-marks : goal.settle-requires-clause-marks
settle-requires-clause-marks c = rw (between_to_end c.deref.result.now c.args.at (length c.deref.result.now) (omega arith), c.deref.ensures.value)
    (All-drop (λ x. x < length c.args.marks.now) c.args.at c.args.stack.now.items c.requires.marks)

pub settle-requires-clause-labels : goal.settle-requires-clause-labels
settle-requires-clause-labels c = rw (between_to_end c.deref.result.now c.args.at (length c.deref.result.now) (omega arith), c.deref.ensures.value)
    (All-drop (λ x. x < length c.args.labels.now) c.args.at c.args.stack.now.items c.requires.labels)

pub returns-clause-stack : goal.returns-clause-stack
returns-clause-stack c = c.truncate.ensures.items

pub returns-clause-rows : goal.returns-clause-rows
returns-clause-rows c = rw (between_to_end c.deref.result.now c.args.at (length c.deref.result.now) (omega arith), c.deref.ensures.value) at c.in_ok-push.ensures.lists
