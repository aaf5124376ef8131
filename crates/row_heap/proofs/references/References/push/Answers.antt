-- The reference stands last, and its end says so.
use Rattle.std.proofs.Common.{◌≤◌, ◌∙◌, refl, sym, ap, subst, arith}
use Rattle.row_heap.specs.declared.references.Reference.{Reference}
use Rattle.row_heap.specs.Ends.{IsEnd, Linked, end_of}
use Rattle.row_heap.proofs.Linked.{AreLinked-pushed, AreLinked-roomy, last-from, seen-pushed}
use Rattle.row_heap.proofs.Packs.{small-end}
use Rattle.row_heap.proofs.references.References.push.Goals as goal

pub overflow_cast-first : goal.overflow_cast-first
overflow_cast-first c = omega (arith, c.len-first.ensures, c.push_reserved.ensures.len, c.requires.room, ap (λ (v : Linked). v.room) c.self.view_is, c.self.invariant.most, c.self.inside.list.ok)

pub pack-packed-requires-clause-from : goal.pack-packed-requires-clause-from
pack-packed-requires-clause-from c = small-end _ c.args.from c.requires.from (omega (arith, c.self.invariant.few, ap (λ (v : Linked). v.temps) c.self.view_is))

pub pack-packed-requires-clause-to : goal.pack-packed-requires-clause-to
pack-packed-requires-clause-to c = small-end _ c.args.to c.requires.to (omega (arith, c.self.invariant.few, ap (λ (v : Linked). v.temps) c.self.view_is))

pub push_reserved-requires : goal.push_reserved-requires
push_reserved-requires c = omega (arith, c.requires.room, ap (λ (v : Linked). v.room) c.self.view_is, c.self.invariant.space, c.self.inside.list.ok)

pub overflow_sub-self : goal.overflow_sub-self
overflow_sub-self c = omega (arith, c.requires.room, ap (λ (v : Linked). v.room) c.self.view_is)

pub make_place-requires-clause-room : goal.make_place-requires-clause-room
make_place-requires-clause-room c = (let one : 1 ≤ c.self.inside.ready = omega (arith, c.requires.room, ap (λ (v : Linked). v.room) c.self.view_is) in c.self.invariant.reach one)

pub make_place-requires-clause-small : goal.make_place-requires-clause-small
make_place-requires-clause-small c = small-end _ c.args.from c.requires.from (omega (arith, c.self.invariant.few, ap (λ (v : Linked). v.temps) c.self.view_is))

pub set_first-requires : goal.set_first-requires
set_first-requires c = c.make_place.ensures.place _ (subst (λ n. IsEnd n (end_of c.args.from)) (sym (ap (λ (v : Linked). v.temps) c.self.view_is)) c.requires.from)

pub invariant_of-self : goal.invariant_of-self
invariant_of-self c =
    let r : Reference = record { from = c.args.from; to = c.args.to; next = c.first-next.result } in
    let a = c.self.invariant in
    let m = c.make_place.ensures in
    let one : 1 ≤ c.self.inside.ready = omega (arith, c.requires.room, ap (λ (v : Linked). v.room) c.self.view_is) in
    let temps = sym (ap (λ (v : Linked). v.temps) c.self.view_is) in
    let placed = AreLinked-roomy _ _ _ _ _ _ _ _ _ _ _ _ _ _ _ _ a refl m.firsts m.longer (λ t. refl) (omega arith) a.flags a.chains a.few (λ w. omega (arith, a.reach w, m.room)) a.space a.most in
    AreLinked-pushed _ _ _ _ _ _ _ _ _ _ _ _ _ r placed one (m.place _ (subst (λ n. IsEnd n (end_of c.args.from)) temps c.requires.from)) (subst (λ n. IsEnd n (end_of c.args.to)) temps c.requires.to)
    (last-from _ _ _ _ _ _ _ _ c.self.view_is c.first-next.ensures) (rw c.pack-packed.ensures at c.push_reserved.ensures.items)
    c.set_first.ensures.len (c.set_first.ensures.here ∙ omega (arith, c.len-first.ensures, c.push_reserved.ensures.len, c.self.inside.list.ok))
    c.set_first.ensures.others c.push_reserved.ensures.capacity c.set_first.ensures.room

pub returns : goal.returns
returns c = (let r : Reference = record { from = c.args.from; to = c.args.to; next = c.first-next.result } in
    seen-pushed _ _ _ _ _ _ _ r _ c.self.view_is (rw c.pack-packed.ensures at c.push_reserved.ensures.items) c.set_first.ensures.len.1)
