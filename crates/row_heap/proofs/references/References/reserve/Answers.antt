-- More room changes no reference, and the further temporaries weren't seen.
use Rattle.std.proofs.Common.{◌≡◌, length, max, refl, ap, arith}
use Rattle.std.specs.Prelude.{slice_index_or}
use Rattle.row_heap.proofs.Linked.{AreLinked-roomy}
use Rattle.row_heap.proofs.references.References.reserve.Goals as goal

pub invariant_of-self-in_err-reach : goal.invariant_of-self-in_err-reach
invariant_of-self-in_err-reach c =
    let a = c.self.invariant in
    let same = c.reach.ensures.items in
    AreLinked-roomy _ _ _ _ _ _ _ _ _ _ _ _ _ _ _ _ a c.reserve.ensures.items (λ x. ap (λ l. slice_index_or l x 0) same) (omega (arith, ap length same)) (λ t. refl) (omega arith)
    a.flags a.chains a.few (λ w. omega (arith, a.reach w, c.reach.ensures.room)) (omega (arith, ap length c.reserve.ensures.items, a.space, c.reserve.ensures.capacity)) a.most

pub invariant_of-self-in_err-make_temporaries : goal.invariant_of-self-in_err-make_temporaries
invariant_of-self-in_err-make_temporaries c =
    let a = c.self.invariant in
    let same = c.reach.ensures.items in
    let kept : length c.make_temporaries.new.temporaries.items ≡ length c.self.inside.temporaries.items = ap length c.in_err-make_temporaries.ensures.err.0 in
    AreLinked-roomy _ _ _ _ _ _ _ _ _ _ _ _ _ _ _ _ a c.reserve.ensures.items (λ x. ap (λ l. slice_index_or l x 0) same) (omega (arith, ap length same)) c.make_temporaries.ensures.firsts
    (omega (arith, kept)) c.make_temporaries.ensures.flags c.make_temporaries.ensures.chains
    (omega (arith, a.few, kept)) (λ w. omega (arith, a.reach w, c.reach.ensures.room)) (omega (arith, ap length c.reserve.ensures.items, a.space, c.reserve.ensures.capacity)) a.most

pub invariant_of-self-2 : goal.invariant_of-self-2
invariant_of-self-2 c =
    let a = c.self.invariant in
    let list = c.self.inside.list in
    let same = c.reach.ensures.items in
    let count : length c.make_temporaries.new.temporaries.items ≡ max (length c.self.inside.temporaries.items) c.args.temps = c.in_ok-make_temporaries.ensures.count in
    AreLinked-roomy _ _ _ _ _ _ _ _ _ _ _ _ _ _ _ _ a c.reserve.ensures.items (λ x. ap (λ l. slice_index_or l x 0) same) (omega (arith, ap length same)) c.make_temporaries.ensures.firsts
    (omega (arith, count)) c.make_temporaries.ensures.flags c.make_temporaries.ensures.chains
    (c.make_temporaries.ensures.few a.few) (λ w. c.in_ok-reach.ensures.reach) (omega (arith, c.in_ok-reserve.ensures.ok, c.reserve.ensures.len, list.ok))
    (omega (arith, c.if-additional-len.false, c.len-len.ensures, list.ok, a.most))
