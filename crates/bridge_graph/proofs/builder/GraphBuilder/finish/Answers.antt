-- The packed rows are those of the links, so what they keep is what the part keeps.
use Rattle.std.proofs.Common.{◌≡◌, ◌<◌, ℕ, List, length, refl, ◌∙◌, ap, arith}
use Rattle.std.proofs.lemmas.List.{take_at}
use Rattle.bridge_graph.specs.declared.graph.Node.{Node}
use Rattle.bridge_graph.specs.declared.packing.Link.{Link}
use Rattle.bridge_graph.specs.Packing.{rest_of, rows_of, packed_row, packed_rows, IsPacked}
use Rattle.bridge_graph.specs.Built.{IsBuilding}
use Rattle.bridge_graph.specs.Packed.{IsPackedPart}
use Rattle.bridge_graph.proofs.Rows.{same_rows}
use Rattle.bridge_graph.proofs.Building.{part_of}
use Rattle.bridge_graph.proofs.builder.GraphBuilder.finish.Goals as goal

packed-rows : (links : List Link) (starts targets : List ℕ) (n : ℕ) → length starts ≡ n → IsPacked starts targets links → packed_rows starts targets n ≡ rows_of links n
packed-rows links starts targets n e p = same_rows (packed_row starts targets) (λ i. rest_of links i 0) n (λ i lt. p.row i (omega arith))

packed_part : (nodes : List Node) (heads : List ℕ) (links : List Link) (follows targets starts made : List ℕ) (space : ℕ)
    → IsBuilding nodes heads links follows targets space → length starts ≡ length nodes → length made < 4294967296 → IsPacked starts made links → IsPackedPart nodes starts made
packed_part nodes heads links follows targets starts made space b e m p = record {
  count = e;
  cut = p.cut;
  most = m;
  part = rw (packed-rows links starts made (length nodes) e p) (part_of nodes heads links follows targets space b);
}

pub invariant_of-result : goal.invariant_of-result
invariant_of-result c =
    let packed = rw c.deref-2.ensures.value at c.pack.ensures.packed in
    let len : length c.pack.new.firsts ≡ c.self.inside.firsts.len = omega arith in
    rw (take_at c.pack.new.firsts _ c.self.inside.firsts.len len)
    (packed_part c.self.inside.nodes.items c.self.inside.firsts.items c.self.inside.links.items c.self.inside.nexts.items c.self.inside.targets.items
    c.pack.new.firsts c.pack.new.targets.items _ c.self.invariant (omega arith) (omega arith) packed)

pub returns-clause-edges : goal.returns-clause-edges
returns-clause-edges c =
    let packed = rw c.deref-2.ensures.value at c.pack.ensures.packed in
    let len : length c.pack.new.firsts ≡ c.self.inside.firsts.len = omega arith in
    rw (← c.self.view_is, take_at c.pack.new.firsts _ c.self.inside.firsts.len len)
    (packed-rows c.self.inside.links.items c.pack.new.firsts c.pack.new.targets.items (length c.self.inside.nodes.items) (omega arith) packed)

pub returns-clause-part : goal.returns-clause-part
returns-clause-part c =
    let packed = rw c.deref-2.ensures.value at c.pack.ensures.packed in
    let len : length c.pack.new.firsts ≡ c.self.inside.firsts.len = omega arith in
    rw (
      take_at c.pack.new.firsts _ c.self.inside.firsts.len len,
      packed-rows c.self.inside.links.items c.pack.new.firsts c.pack.new.targets.items (length c.self.inside.nodes.items) (omega arith) packed,
    )
    (part_of _ _ _ _ _ _ c.self.invariant)

pub link_up-requires-clause-most : goal.link_up-requires-clause-most
link_up-requires-clause-most c = omega (arith, c.deref.ensures.len, c.self.invariant.most)

pub link_up-requires-clause-nexts : goal.link_up-requires-clause-nexts
link_up-requires-clause-nexts c = omega (arith, c.deref_mut.ensures.len, c.deref.ensures.len, c.self.invariant.nexts)

pub link_up-requires-clause-none : goal.link_up-requires-clause-none
link_up-requires-clause-none c = rw c.deref_mut-2.ensures.value c.self.invariant.none

pub link_up-requires-clause-from : goal.link_up-requires-clause-from
link_up-requires-clause-from c = rw c.deref.ensures.value (λ k d lt. omega (arith, (c.self.invariant.joins k d lt).from, c.self.invariant.firsts, c.deref_mut-2.ensures.len))

pub pack-requires-clause-most : goal.pack-requires-clause-most
pack-requires-clause-most c = omega (arith, c.deref-2.ensures.len, c.self.invariant.most)

pub pack-requires-clause-nexts : goal.pack-requires-clause-nexts
pack-requires-clause-nexts c = omega (
  arith,
  ap length (c.deref-3.ensures.value ∙ take_at c.link_up.new.nexts _ c.self.inside.nexts.len (omega arith)),
  c.deref_mut.ensures.len,
  c.deref-2.ensures.len,
  c.self.invariant.nexts,
)

pub pack-requires-clause-linked : goal.pack-requires-clause-linked
pack-requires-clause-linked c =
    let linked = rw c.deref.ensures.value at c.link_up.ensures.nexts in
    rw (c.deref-2.ensures.value, c.deref-3.ensures.value, take_at c.link_up.new.nexts _ c.self.inside.nexts.len (omega arith)) linked

pub pack-requires-clause-firsts : goal.pack-requires-clause-firsts
pack-requires-clause-firsts c =
    let firsts = rw c.deref.ensures.value at c.link_up.ensures.firsts in
    rw (c.deref-2.ensures.value, c.deref_mut-3.ensures.value, take_at c.link_up.new.firsts _ c.self.inside.firsts.len (omega arith)) firsts

pub pack-requires-clause-few : goal.pack-requires-clause-few
pack-requires-clause-few c = omega (
  arith,
  ap length (c.deref_mut-3.ensures.value ∙ take_at c.link_up.new.firsts _ c.self.inside.firsts.len (omega arith)),
  c.deref_mut-2.ensures.len,
  c.self.invariant.few,
  c.self.invariant.firsts,
)

pub pack-requires-clause-empty : goal.pack-requires-clause-empty
pack-requires-clause-empty c = c.self.invariant.empty

pub pack-requires-clause-room : goal.pack-requires-clause-room
pack-requires-clause-room c = rw c.deref-2.ensures.value c.self.invariant.room

pub returns-clause-nodes : goal.returns-clause-nodes
returns-clause-nodes c = rw (← c.self.view_is) refl
