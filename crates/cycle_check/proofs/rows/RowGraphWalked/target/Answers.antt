use Rattle.std.proofs.Common.{ℕ, ◌<◌, List, length, get_or, Some, sym, subst, arith}
use Rattle.std.proofs.lemmas.List.{length-map}
use Rattle.std.proofs.lemmas.List.Elements.{Contains-get_or}
use Rattle.bridge_graph.specs.Packing.{packed_row}
use Rattle.cycle_check.proofs.rows.RowGraphWalked.target.Goals as goal

pub returns-clause-within : goal.returns-clause-within
returns-clause-within c =
    let g = c.args.self.now in
    let row : List ℕ = packed_row g.starts.now g.targets.now c.args.x in
    let count = length-map row (λ (y : ℕ). Some y) in
    let within : c.args.i < length row = omega (arith, c.requires.place, count) in
    let Below : List ℕ → Type 0 = λ r. get_or r c.args.i 0 < length g.starts.now in
    subst Below (sym c.packed_row.ensures) (g.ends c.args.x (get_or row c.args.i 0) (c.requires.node, Contains-get_or row c.args.i 0 within))
