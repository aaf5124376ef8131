-- The new component lies behind the others.
use Rattle.std.proofs.Common.{◌≡◌, ◌≤◌, ◌+◌, length, refl, arith, ap}
use Rattle.std.proofs.lemmas.List.{length_push}
use Rattle.bridge_graph.proofs.Packs.{packed_rows-more}
use Rattle.xref_list.proofs.Comps.{building_more, length-packed}
use Rattle.xref_list.specs.Listing.{Listing}
use Rattle.xref_list.proofs.components.ComponentsBuilder.component.Goals as goal

pub invariant_of-self-2 : goal.invariant_of-self-2
invariant_of-self-2 c =
    let i = c.self.invariant in
    let r = rw (← c.self.view_is) at c.requires in
    let start : c.len-start.result ≡ length c.self.inside.members.items = omega arith in
    let most : length c.self.inside.members.items + length c.args.objs.now + length c.self.inside.pairs ≤ 4294967295 = omega arith in
    rw (c.append.ensures, c.take_room.ensures.kept.2, c.push_reserved.ensures.items, c.take_room.ensures.kept.0, start, c.push_circle.ensures, c.take_room.ensures.kept.1)
    (building_more c.self.inside.members.items c.self.inside.starts.items c.self.inside.circles.items c.self.inside.pairs c.self.inside.heavy c.self.inside.sorted c.args.objs.now
    r.none i most r.some r.rises r.below r.apart r.after)

pub returns-clause-index : goal.returns-clause-index
returns-clause-index c = rw (← c.self.view_is) (omega (arith, length-packed c.self.inside.starts.items c.self.inside.members.items (length c.self.inside.starts.items)))

pub returns-clause-comps : goal.returns-clause-comps
returns-clause-comps c =
    let start : c.len-start.result ≡ length c.self.inside.members.items = omega arith in
    rw (← c.self.view_is, c.append.ensures, c.take_room.ensures.kept.2, c.push_reserved.ensures.items, c.take_room.ensures.kept.0, start, length_push)
    (packed_rows-more c.self.inside.starts.items c.self.inside.members.items c.args.objs.now (length c.self.inside.starts.items) refl c.self.invariant.flat.cut)

pub overflow_sub-len : goal.overflow_sub-len
overflow_sub-len c = omega (arith, c.len.ensures, c.self.invariant.flat.most)

pub overflow_cast-index : goal.overflow_cast-index
overflow_cast-index c = omega (arith, c.len-index.ensures, c.self.invariant.flat.few)

pub overflow_cast-start : goal.overflow_cast-start
overflow_cast-start c = omega (arith, c.len-start.ensures, c.self.invariant.flat.most)

pub invariant_of-self : goal.invariant_of-self
invariant_of-self c = rw (c.take_room.ensures.kept.2, c.take_room.ensures.kept.0, c.take_room.ensures.kept.1) c.self.invariant

pub append-requires : goal.append-requires
append-requires c = c.in_ok-take_room.ensures.room.2

pub push_reserved-requires : goal.push_reserved-requires
push_reserved-requires c = omega (arith, c.in_ok-take_room.ensures.room.0)

pub push_circle-requires-clause-some : goal.push_circle-requires-clause-some
push_circle-requires-clause-some c = c.requires.some

pub push_circle-requires-clause-room : goal.push_circle-requires-clause-room
push_circle-requires-clause-room c = c.in_ok-take_room.ensures.room.1

pub returns-clause-pairs : goal.returns-clause-pairs
returns-clause-pairs c = ap (λ (v : Listing). v.pairs) c.self.view_is
