-- What a row has is a node.
use Rattle.std.proofs.Common.{◌≡◌, ◌<◌, ap, length, map, sym, subst, arith, Some}
use Rattle.std.specs.Prelude.{Contains}
use Rattle.std.proofs.lemmas.List.{length-map}
use Rattle.joint_marking.specs.Nodes.{targets_at}
use Rattle.joint_marking.proofs.Edges.{row-read}
use Rattle.joint_marking.proofs.rows.NodeRowsWalked.target.Goals as goal

pub returns-clause-within : goal.returns-clause-within
returns-clause-within c =
    let rows = c.self.inside.rows.items in
    let r = c.index.result.now in
    let j = c.index-2.result.now in
    let same : targets_at (map (λ r. r.items) rows) c.args.x ≡ r.items = row-read (λ r. r.items) rows c.args.x r
    (omega (arith, c.requires.node, ap length c.self.view_is, length-map rows (λ r. r.items))) c.index.ensures in
    let place : c.args.i < length r.items = omega (
      arith,
      c.requires.place,
      length-map (targets_at c.args.self.now c.args.x) Some,
      ap length same,
      ap (λ z. length (targets_at z c.args.x)) c.self.view_is,
    ) in
    let there : Contains r.items j = (c.args.i, place, sym c.index-2.ensures) in
    omega (arith, ap length c.self.view_is, c.self.invariant c.args.x j (subst (λ z. Contains z j) (sym same) there))
