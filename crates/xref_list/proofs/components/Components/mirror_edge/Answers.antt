-- An edge of a circle stands in the list of circles, and one of a pair behind it.
use Rattle.std.proofs.Common.{◌+◌, ◌≡◌, ◌≤◌, ◌<◌, ◌-◌, length, arith}
use Rattle.bridge_graph.specs.Packing.{packed_rows}
use Rattle.xref_list.proofs.Comps.{between-at, mirror-circle, mirror-count, mirror-pair}
use Rattle.xref_list.proofs.components.Components.mirror_edge.Goals as goal

pub index-requires : goal.index-requires
index-requires c = omega (arith, c.if-at-len.true, c.len.ensures)

pub returns-then-at-len : goal.returns-then-at-len
returns-then-at-len c =
    let s = c.self.inside in
    let comps = packed_rows s.starts.items s.members.items (length s.starts.items) in
    let within : c.args.i < length s.circles.items = omega (arith, c.if-at-len.true, c.len.ensures, s.circles.ok) in
    rw (← c.self.view_is) (mirror-circle comps s.pairs.items s.circles.items c.args.i c.index.result.now c.self.invariant.flat.circle within c.index.ensures)

pub overflow_sub-at : goal.overflow_sub-at
overflow_sub-at c = omega (arith, c.if-at-len.false, c.len.ensures, c.len-2.ensures)

pub index-requires-2 : goal.index-requires-2
index-requires-2 c =
    let s = c.self.inside in
    let comps = packed_rows s.starts.items s.members.items (length s.starts.items) in
    let r = rw (← c.self.view_is) at c.requires in
    omega (arith, r, mirror-count comps s.pairs.items s.circles.items c.self.invariant.flat.circle, c.len.ensures, c.len-2.ensures, c.if-at-len.false, s.circles.ok, s.pairs.ok)

pub end-requires : goal.end-requires
end-requires c =
    let s = c.self.inside in
    let comps = packed_rows s.starts.items s.members.items (length s.starts.items) in
    let r = rw (← c.self.view_is) at c.requires in
    let within : c.args.i - c.len-2.result < length s.pairs.items = omega
    (arith, r, mirror-count comps s.pairs.items s.circles.items c.self.invariant.flat.circle, c.len.ensures, c.len-2.ensures, c.if-at-len.false, s.circles.ok) in
    rw (← c.self.view_is) (between-at (length comps + s.heavy) s.pairs.items _ c.index-2.result.now c.self.invariant.listing.ends within c.index-2.ensures).source

pub end-requires-2 : goal.end-requires-2
end-requires-2 c =
    let s = c.self.inside in
    let comps = packed_rows s.starts.items s.members.items (length s.starts.items) in
    let r = rw (← c.self.view_is) at c.requires in
    let within : c.args.i - c.len-2.result < length s.pairs.items = omega
    (arith, r, mirror-count comps s.pairs.items s.circles.items c.self.invariant.flat.circle, c.len.ensures, c.len-2.ensures, c.if-at-len.false, s.circles.ok) in
    rw (← c.self.view_is) (between-at (length comps + s.heavy) s.pairs.items _ c.index-2.result.now c.self.invariant.listing.ends within c.index-2.ensures).destination

pub returns : goal.returns
returns c =
    let s = c.self.inside in
    let comps = packed_rows s.starts.items s.members.items (length s.starts.items) in
    let r = rw (← c.self.view_is) at c.requires in
    let n : c.len-2.result ≡ length s.circles.items = omega (arith, c.len-2.ensures, s.circles.ok) in
    let past : length s.circles.items ≤ c.args.i = omega (arith, n, c.len.ensures, c.len-2.ensures, c.if-at-len.false) in
    let within : c.args.i - length s.circles.items < length s.pairs.items = omega (arith, r, past, mirror-count comps s.pairs.items s.circles.items c.self.invariant.flat.circle) in
    rw (c.end.ensures, c.end-2.ensures, ← c.self.view_is) (mirror-pair comps s.pairs.items s.circles.items c.args.i c.index-2.result.now c.self.invariant.flat.circle past within
    (rw n at c.index-2.ensures))
