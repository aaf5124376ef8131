-- The edges of the arrays are those of the rows that are made of them.
use Rattle.std.proofs.Common.{◌≡◌, ℕ, ◌+◌, ◌<◌, ◌≤◌, ◌↔◌, inl, inr, List, [], length, refl, sym, subst, ◌∙◌, arith}
use Rattle.std.specs.List.{All, Contains}
use Rattle.std.specs.Prelude.{filter, ◌==◌, slice_index, slice_index_or, slice_range}
use Rattle.std.proofs.lemmas.Bool.{cases_lt, eq-eqb, eqb-true}
use Rattle.std.proofs.lemmas.List.{get_or_past}
use Rattle.std.proofs.lemmas.List.FromFn.{length-map-range_with_len}
use Rattle.std.proofs.lemmas.List.Elements.{All-contains, All-take, All-drop}
use Rattle.joint_machine.proofs.Members.{Contains-nil, Contains-map, Contains-map_cases, Contains-filter_from, Contains-filter_to}
use Rattle.bridge_graph.specs.declared.graph.Node.{Node}
use Rattle.bridge_graph.specs.declared.packing.Link.{Link}
use Rattle.bridge_graph.specs.Packed.{IsPackedPart}
use Rattle.bridge_graph.specs.Packing.{IsCut, IsPacked, packed_row, packed_rows, rest_of}
use Rattle.bridge_graph.specs.Parts.{NodeLeads, row_at}
use Rattle.bridge_graph.proofs.Rows.{row-of_map}
use Rattle.array_graphs.specs.Made.{HasNodes}
use Rattle.array_graphs.specs.Graphs.{AreEdges, HasEdge, LeadsInRow}
use Rattle.array_graphs.proofs.Nodes.{nodes-open}

row-within : (starts targets : List ℕ) (n x : ℕ) → x < n → row_at (packed_rows starts targets n) x ≡ packed_row starts targets x
row-within starts targets n x l = row-of_map (packed_row starts targets) n x l

row-past : (starts targets : List ℕ) (n x : ℕ) → n ≤ x → row_at (packed_rows starts targets n) x ≡ []
row-past starts targets n x l = get_or_past (packed_rows starts targets n) x [] (let e = length-map-range_with_len (packed_row starts targets) 0 n in omega (arith, e, l))

-- in rows
pub rows-lead : (starts targets : List ℕ) (n : ℕ) → length starts ≡ n → (x y : ℕ) → NodeLeads (packed_rows starts targets n) x y ↔ LeadsInRow starts targets x y
rows-lead starts targets n s x y = elim (cases_lt x n) [
  | inl l ↦ (
    λ c. (omega (arith, l, s), subst (λ (r : List ℕ). Contains r y) (row-within starts targets n x l) c),
    λ w. subst (λ (r : List ℕ). Contains r y) (sym (row-within starts targets n x l)) w.1,
  )
  | inr ge ↦ (
    λ c. absurd (Contains-nil y (subst (λ (r : List ℕ). Contains r y) (row-past starts targets n x ge) c)),
    λ w. absurd (let l = w.0 in omega (arith, ge, l, s)),
  )
]

-- what is packed of nodes is a part, where each edge leads to a node
pub packed-part : (kinds : List ℕ) (nodes : List Node) (starts targets : List ℕ) → HasNodes kinds (length kinds) nodes → length kinds ≤ 4294967294 → length starts ≡ length kinds → IsCut starts targets
    → length targets < 4294967296 → ((x y : ℕ) → NodeLeads (packed_rows starts targets (length nodes)) x y → y < length kinds) → IsPackedPart nodes starts targets
packed-part kinds nodes starts targets h few s cut most ends = record {
  count = s ∙ sym h.count;
  cut = cut;
  most = most;
  part = record {
    rows = length-map-range_with_len (packed_row starts targets) 0 (length nodes);
    in_range = λ x y l. (let e = ends x y l in omega (arith, e, h.count));
    rising = h.rising;
    opaque_rows = λ x o. row-past starts targets (length nodes) x (let w = nodes-open kinds (length kinds) nodes h x o in omega (arith, w, h.count));
    few = omega (arith, few, h.count);
  };
}

-- a row has elements of the targets alone
pub row-ends : (n : ℕ) (starts targets : List ℕ) → All (λ y. y < n) targets → (x y : ℕ) → LeadsInRow starts targets x y → y < n
row-ends n starts targets a x y w =
    let from = slice_index starts x in
    let to = slice_index_or starts (x + 1) (length targets) in
    All-contains (λ y. y < n) (slice_range targets from to) y (All-take (λ y. y < n) _ _ (All-drop (λ y. y < n) from targets a)) w.1

-- in pairs: the links from a node
links-from : (links : List Link) (x y : ℕ) → Contains (rest_of links x 0) y ↔ HasEdge links x y
links-from links x y = (forth, back)
  where
    forth : Contains (rest_of links x 0) y → HasEdge links x y
    forth c =
        let m = Contains-map_cases (λ (l : Link). l.to) (filter (λ (l : Link). l.from == x) links) y c in
        let f = Contains-filter_from (λ (l : Link). l.from == x) links m.0 m.1 in
        let from : m.0.from ≡ x = eqb-true m.0.from x f.1 in
        subst (λ l. Contains links l) (λ j. record { from = from j; to = m.2 j }) f.0

    back : HasEdge links x y → Contains (rest_of links x 0) y
    back c =
        let l : Link = record { from = x; to = y } in
        Contains-map (λ (k : Link). k.to) (filter (λ (k : Link). k.from == x) links) l (Contains-filter_to (λ (k : Link). k.from == x) links l c (eq-eqb x x refl))

pub pairs-lead : (links : List Link) (n : ℕ) (starts targets : List ℕ) → AreEdges n links → IsPacked starts targets links → length starts ≡ n
    → (x y : ℕ) → NodeLeads (packed_rows starts targets n) x y ↔ HasEdge links x y
pairs-lead links n starts targets a p s x y = elim (cases_lt x n) [
  | inl l ↦ (
      let row : row_at (packed_rows starts targets n) x ≡ rest_of links x 0 = row-within starts targets n x l ∙ p.row x (omega (arith, l, s)) in (
        λ c. (links-from links x y).0 (subst (λ (r : List ℕ). Contains r y) row c),
        λ c. subst (λ (r : List ℕ). Contains r y) (sym row) ((links-from links x y).1 c),
      ))
  | inr ge ↦ (
    λ c. absurd (Contains-nil y (subst (λ (r : List ℕ). Contains r y) (row-past starts targets n x ge) c)),
    λ c. absurd (let l = (edge-ends x y c).0 in omega (arith, ge, l)),
  )
]
  where
    edge-ends : (x y : ℕ) → HasEdge links x y → (x < n) × (y < n)
    edge-ends x y c = All-contains (λ (e : Link). (e.from < n) × (e.to < n)) links record { from = x; to = y } a c

pub edge-end : (links : List Link) (n : ℕ) → AreEdges n links → (x y : ℕ) → HasEdge links x y → y < n
edge-end links n a x y c = (All-contains (λ (e : Link). (e.from < n) × (e.to < n)) links record { from = x; to = y } a c).1

-- in rows that were made of links: both ways
pub packed-lead : (links : List Link) (n : ℕ) (starts targets : List ℕ) → AreEdges n links → IsPacked starts targets links → length starts ≡ n
    → (x y : ℕ) → LeadsInRow starts targets x y ↔ HasEdge links x y
packed-lead links n starts targets a p s x y =
    let r = rows-lead starts targets n s x y in
    let l = pairs-lead links n starts targets a p s x y in (λ h. l.0 (r.1 h), λ h. r.0 (l.1 h))
