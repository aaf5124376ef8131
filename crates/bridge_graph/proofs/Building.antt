-- A part that is being built is a part: its rows lead to nodes, and an opaque node's row is empty, because
-- each link joins two nodes of which the first is not opaque. A further link, and a further node whose
-- number is greater than the others, keep what the flat lists keep.
use Rattle.std.proofs.Common.{◌≡◌, ◌≢◌, ℕ, suc, ◌-◌, ◌<◌, true, List, [], ◌∷◌, ◌++◌, length, map, filter, eqb, get_or, refl, ◌∙◌, ap, subst, arith, inl, inr}
use Rattle.std.proofs.lemmas.List.{get_or_past, map_push, length_push, get_or_append_left, length-map}
use Rattle.std.proofs.lemmas.List.FromFn.{length-map-range_with_len}
use Rattle.std.proofs.lemmas.List.Elements.{All-push, All-weaker, All-filter, All-map, All-contains, All-nil, All-cons}
use Rattle.std.proofs.lemmas.Bool.{cases_lt}
use Rattle.std.specs.List.{All, Contains}
use Rattle.joint_machine.specs.Components.{Rises}
use Rattle.joint_machine.proofs.Members.{Rises-push}
use Rattle.bridge_graph.specs.declared.graph.Node.{Node}
use Rattle.bridge_graph.specs.declared.packing.Link.{Link}
use Rattle.bridge_graph.specs.Packing.{rest_of, rows_of}
use Rattle.bridge_graph.specs.Parts.{IsPart, row_at, opaque_at, numbers_of, NodeLeads}
use Rattle.bridge_graph.specs.Built.{Joins, IsBuilding}
use Rattle.bridge_graph.proofs.Rows.{row-of_map, none_from}

rest_in_range : (nodes : List Node) (links : List Link) (x : ℕ) → All (Joins nodes) links → All (λ y. y < length nodes) (rest_of links x 0)
rest_in_range nodes links x h =
    All-map (λ y. y < length nodes) (λ (l : Link). l.to) (filter (λ l. eqb l.from x) links)
    (All-filter (λ l. eqb l.from x) (λ l. l.to < length nodes) links (All-weaker (Joins nodes) (λ l. l.to < length nodes) (λ l j. j.to) links h))

rows_in_range : (nodes : List Node) (links : List Link) (x y : ℕ) → All (Joins nodes) links → NodeLeads (rows_of links (length nodes)) x y → y < length nodes
rows_in_range nodes links x y h t =
    elim (cases_lt x (length nodes)) [
      | inl lt ↦ All-contains (λ z. z < length nodes) (rest_of links x 0) y (rest_in_range nodes links x h)
          (subst (λ (r : List ℕ). Contains r y) (row-of_map (λ i. rest_of links i 0) (length nodes) x lt) t)
      | inr ge ↦
          let past : row_at (rows_of links (length nodes)) x ≡ [] =
          get_or_past (rows_of links (length nodes)) x [] (omega (arith, length-map-range_with_len (λ i. rest_of links i 0) 0 (length nodes))) in
          let u = subst (λ (r : List ℕ). Contains r y) past t in absurd (omega (arith, u.1))
    ]

opaque_row : (nodes : List Node) (links : List Link) (x : ℕ) → All (Joins nodes) links → opaque_at nodes x ≡ true → row_at (rows_of links (length nodes)) x ≡ []
opaque_row nodes links x h o =
    elim (cases_lt x (length nodes)) [
      | inl lt ↦ row-of_map (λ i. rest_of links i 0) (length nodes) x lt
          ∙ none_from links x (All-weaker (Joins nodes) (λ l. l.from ≢ x) (λ l j e. let t = j.transparent in let s : opaque_at nodes l.from ≡ opaque_at nodes x = ap (opaque_at nodes) e in cc) links h)
      | inr ge ↦ get_or_past (rows_of links (length nodes)) x [] (omega (arith, length-map-range_with_len (λ i. rest_of links i 0) 0 (length nodes)))
    ]

pub part_of : (nodes : List Node) (heads : List ℕ) (links : List Link) (follows targets : List ℕ) (space : ℕ)
    → IsBuilding nodes heads links follows targets space → IsPart nodes (rows_of links (length nodes))
part_of nodes heads links follows targets space b = record {
  rows = length-map-range_with_len (λ i. rest_of links i 0) 0 (length nodes);
  in_range = λ x y t. rows_in_range nodes links x y b.joins t;
  rising = b.rising;
  opaque_rows = λ x o. opaque_row nodes links x b.joins o;
  few = b.few;
}

joins_more : (nodes : List Node) (node : Node) (l : Link) → Joins nodes l → Joins (nodes ++ node ∷ []) l
joins_more nodes node l j = record {
  from = omega (arith, j.from, length_push nodes node);
  to = omega (arith, j.to, length_push nodes node);
  transparent =
      rw (map_push (λ (n : Node). n.opaque) nodes node)
      (get_or_append_left (map (λ (n : Node). n.opaque) nodes) (node.opaque ∷ []) true l.from (omega (arith, j.from, length-map nodes (λ (n : Node). n.opaque))) ∙ j.transparent);
}

pub building-node : (nodes : List Node) (heads : List ℕ) (links : List Link) (follows targets : List ℕ) (space : ℕ) (node : Node)
    → IsBuilding nodes heads links follows targets space → All (λ n. n.number.0 < node.number.0) nodes → length nodes < 4294967294
    → IsBuilding (nodes ++ node ∷ []) (heads ++ 4294967295 ∷ []) links follows targets space
building-node nodes heads links follows targets space node b r f = record {
  rising = rw (map_push (λ (n : Node). n.number.0) nodes node)
      (Rises-push (numbers_of nodes) node.number.0 b.rising (All-map (λ x. x < node.number.0) (λ (n : Node). n.number.0) nodes r));
  few = omega (arith, length_push nodes node);
  firsts = omega (arith, length_push nodes node, length_push heads 4294967295, b.firsts);
  none = All-push (λ h. h ≡ 4294967295) heads 4294967295 b.none refl;
  joins = All-weaker (Joins nodes) (Joins (nodes ++ node ∷ [])) (joins_more nodes node) links b.joins;
  most = b.most;
  nexts = b.nexts;
  empty = b.empty;
  room = b.room;
}

pub building-link : (nodes : List Node) (heads : List ℕ) (links : List Link) (follows targets : List ℕ) (space more : ℕ) (l : Link) (next : ℕ)
    → IsBuilding nodes heads links follows targets space → Joins nodes l → length links < 4294967295 → length links < more
    → IsBuilding nodes heads (links ++ l ∷ []) (follows ++ next ∷ []) targets more
building-link nodes heads links follows targets space more l next b j f r = record {
  rising = b.rising;
  few = b.few;
  firsts = b.firsts;
  none = b.none;
  joins = All-push (Joins nodes) links l b.joins j;
  most = omega (arith, length_push links l);
  nexts = omega (arith, length_push links l, length_push follows next, b.nexts);
  empty = b.empty;
  room = omega (arith, length_push links l);
}

-- no link leads from a node that is not there yet
pub none_new : (nodes : List Node) (links : List Link) → All (Joins nodes) links → All (λ l. l.from ≢ length nodes) links
none_new nodes links h = All-weaker (Joins nodes) (λ l. l.from ≢ length nodes) (λ l j. λ e. absurd (omega (arith, j.from))) links h

-- what is greater than the last of rising numbers is greater than each
pub below-last : (xs : List ℕ) (y : ℕ) → Rises xs → (0 < length xs → get_or xs (length xs - 1) 0 < y) → All (λ x. x < y) xs
below-last [] y r h = All-nil (λ x. x < y)
below-last (x ∷ []) y r h = All-cons (λ z. z < y) x [] (h (omega arith)) (All-nil (λ z. z < y))
below-last (x ∷ z ∷ xs) y r h =
    let last : get_or (z ∷ xs) (length (z ∷ xs) - 1) 0 < y = subst (λ (k : ℕ). get_or (x ∷ z ∷ xs) k 0 < y) (last_at (length xs)) (h (omega arith)) in
    All-cons (λ v. v < y) x (z ∷ xs) (omega (arith, last, r.0 (length (z ∷ xs) - 1) 0 (omega arith))) (below-last (z ∷ xs) y r.1 (λ _. last))
  where
    last_at : (n : ℕ) → suc (suc n) - 1 ≡ suc (suc n - 1)
    last_at n = omega arith
