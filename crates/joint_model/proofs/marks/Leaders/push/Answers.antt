use Rattle.std.proofs.Common.{rules, ◌≡◌, length, arith, ap, sym, ◌∙◌, refl, true, false}
use Rattle.joint_model.specs.Marks.{leaders_of, Row}
use Rattle.joint_model.proofs.Places.{followers_in, length_leaders, pushed-plain, pushed-marked, Fits-plain_last, Fits-marked_last}
use Rattle.joint_model.proofs.marks.Leaders.push.Goals as goal

pub invariant_of-self : goal.invariant_of-self
invariant_of-self c =
    let e : c.pack-number_high.result.0.marked ≡ false = search rules in
    rw c.push_reserved.ensures.items (Fits-plain_last c.self.inside.entries.items c.pack-number_high.result.0 c.self.inside.marks.items c.self.invariant e)

pub returns-then-not-packed-clause-all : goal.returns-then-not-packed-clause-all
returns-then-not-packed-clause-all c =
    let es = c.self.inside.entries.items in
    let ms = c.self.inside.marks.items in
    let all : leaders_of 0 es ms ≡ c.args.self.now.all = ap (λ (s : Row). s.all) c.self.view_is in
    let e : c.pack-number_high.result.0.marked ≡ false = search rules in
    let pack = c.pack-number_high.ensures in
    rw (c.push_reserved.ensures.items, ← all)
    (pushed-plain es c.pack-number_high.result.0 ms c.args.entry c.args.from c.pack-number_high.result.1 c.pack-number_high.result.2 c.self.invariant e
    (ap followers_in all ∙ c.requires.from) pack.entry (pack.marked e))

pub overflow_cast-at : goal.overflow_cast-at
overflow_cast-at c =
    let es = c.self.inside.entries.items in
    let all : length (leaders_of 0 es c.self.inside.marks.items) ≡ length c.args.self.now.all = ap (λ (s : Row). length s.all) c.self.view_is in
    let size : c.len-at.result ≡ length es = search rules in
    omega (arith, all, size, length_leaders 0 es c.self.inside.marks.items, c.requires.limit)

pub invariant_of-self-2 : goal.invariant_of-self-2
invariant_of-self-2 c =
    let es = c.self.inside.entries.items in
    let ms = c.self.inside.marks.items in
    let all : leaders_of 0 es ms ≡ c.args.self.now.all = ap (λ (s : Row). s.all) c.self.view_is in
    let e : c.pack-number_high.result.0.marked ≡ true = search rules in
    let size : c.len-at.result ≡ length es = search rules in
    rw (c.push_reserved-2.ensures.items, c.push_reserved-3.ensures.items)
    (Fits-marked_last es c.pack-number_high.result.0 ms _ c.self.invariant e size (sym (ap followers_in all ∙ c.requires.from)))

pub returns-clause-all : goal.returns-clause-all
returns-clause-all c =
    let es = c.self.inside.entries.items in
    let ms = c.self.inside.marks.items in
    let all : leaders_of 0 es ms ≡ c.args.self.now.all = ap (λ (s : Row). s.all) c.self.view_is in
    let e : c.pack-number_high.result.0.marked ≡ true = search rules in
    rw (c.push_reserved-2.ensures.items, c.push_reserved-3.ensures.items, ← all)
    (pushed-marked es c.pack-number_high.result.0 ms _ c.args.entry c.args.from c.self.invariant e (ap followers_in all ∙ c.requires.from) c.pack-number_high.ensures.entry refl)
