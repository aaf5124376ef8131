use Rattle.std.proofs.Common.{◌≡◌, length, refl, ap, arith}
use Rattle.std.proofs.lemmas.List.{length_push}
use Rattle.bridge_graph.proofs.Packs.{packed_rows-more, cut-more}
use Rattle.component_pass.proofs.lists.Lists.push.Goals as goal

pub invariant_of-self-2 : goal.invariant_of-self-2
invariant_of-self-2 c =
    let start : c.len-start.result ≡ length c.self.inside.items.items = omega (arith, ap length c.make_room.ensures.items) in
    rw (c.append.ensures, c.push_reserved.ensures.items, c.reserve.ensures.items, c.make_room.ensures.items, start)
    (cut-more c.self.inside.starts.items c.self.inside.items.items c.args.row.now c.self.invariant)

pub returns-clause-lists : goal.returns-clause-lists
returns-clause-lists c =
    let start : c.len-start.result ≡ length c.self.inside.items.items = omega (arith, ap length c.make_room.ensures.items) in
    rw (← c.self.view_is, c.append.ensures, c.push_reserved.ensures.items, c.reserve.ensures.items, c.make_room.ensures.items, start, length_push)
    (packed_rows-more c.self.inside.starts.items c.self.inside.items.items c.args.row.now (length c.self.inside.starts.items) refl c.self.invariant)

pub invariant_of-self : goal.invariant_of-self
invariant_of-self c = rw c.in_err-reserve.ensures.items c.self.invariant

pub invariant_of-self-in_err-make_room : goal.invariant_of-self-in_err-make_room
invariant_of-self-in_err-make_room c = rw (c.in_ok-reserve.ensures.items, c.make_room.ensures.items) c.self.invariant

pub invariant_of-self-then-start-gt-MOST_ELEMENTS : goal.invariant_of-self-then-start-gt-MOST_ELEMENTS
invariant_of-self-then-start-gt-MOST_ELEMENTS c = rw (c.in_ok-reserve.ensures.items, c.make_room.ensures.items) c.self.invariant

pub returns-clause-err : goal.returns-clause-err
returns-clause-err c = tt
