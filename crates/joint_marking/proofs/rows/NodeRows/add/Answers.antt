-- The push changes the row at index k alone: it has one node more, or is as before where there is no memory.
use Rattle.std.proofs.Common.{ap, length, map, set, subst, arith}
use Rattle.std.proofs.lemmas.List.{length-map}
use Rattle.joint_marking.specs.Nodes.{AddsEdges, IsPair}
use Rattle.joint_marking.proofs.Edges.{AreWithin-one, write-one, write-same}
use Rattle.joint_marking.proofs.rows.NodeRows.add.Goals as goal

pub invariant_of-self : goal.invariant_of-self
invariant_of-self c =
    let rows = c.self.inside.rows.items in
    write-same (λ r. r.items) rows c.args.k c.index_mut.result.now c.push.new.self
    (omega (arith, c.requires.from, ap length c.self.view_is, length-map rows (λ r. r.items))) c.index_mut.ensures.value c.in_err-push.ensures.items c.self.invariant

pub invariant_of-self-2 : goal.invariant_of-self-2
invariant_of-self-2 c =
    let rows = c.self.inside.rows.items in
    AreWithin-one c.args.k c.args.j _ _ (omega (arith, c.requires.to, ap length c.self.view_is)) c.self.invariant
    (write-one (λ r. r.items) rows c.args.k c.args.j c.index_mut.result.now c.push.new.self
    (omega (arith, c.requires.from, ap length c.self.view_is, length-map rows (λ r. r.items))) c.index_mut.ensures.value c.in_ok-push.ensures.items)

pub returns-clause-adds : goal.returns-clause-adds
returns-clause-adds c =
    let rows = c.self.inside.rows.items in
    subst (λ a. AddsEdges (IsPair c.args.k c.args.j) a (map (λ r. r.items) (set rows c.args.k c.push.new.self))) c.self.view_is
    (write-one (λ r. r.items) rows c.args.k c.args.j c.index_mut.result.now c.push.new.self
    (omega (arith, c.requires.from, ap length c.self.view_is, length-map rows (λ r. r.items))) c.index_mut.ensures.value c.in_ok-push.ensures.items)
