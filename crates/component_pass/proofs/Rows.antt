-- The bridge nodes of a class's row, in order, are the group of its label. So going through the nodes in order,
-- the first bridge node of a class, which finds no index at its label, stands first in its group.
use Rattle.std.proofs.Common.{◌≡◌, ◌↔◌, ℕ, suc, zero, ◌+◌, ◌<◌, ◌≤◌, Option, None, Some, IsSome, List, [], ◌∷◌, ◌++◌, length, map, get_or, set, slice_get, refl, sym, ◌∙◌, ap, subst, arith, add-one}
use Rattle.std.proofs.Common.{append-nil, length-set, inl, inr}
use Rattle.std.proofs.lemmas.List.{length-map, get_or-set_other, get_or_default}
use Rattle.std.proofs.lemmas.List.Elements.{All-nil, All-map, All-contains, Contains-get_or, Contains-append_left, Contains-push, Contains-push_cases}
use Rattle.std.proofs.lemmas.Option.{slice_get_within}
use Rattle.std.proofs.lemmas.Bool.{cases_lt, cases_eq, true≢false}
use Rattle.std.specs.List.{All, Contains}
use Rattle.joint_machine.specs.declared.names.HNum.{HNum}
use Rattle.joint_machine.specs.Components.{Rises, first_of}
use Rattle.joint_machine.proofs.Members.{Rises-one, Contains-cons_cases}
use Rattle.bridge_graph.specs.declared.graph.Node.{Node}
use Rattle.bridge_graph.specs.declared.packing.Link.{Link}
use Rattle.bridge_graph.specs.Parts.{IsBridgeNode, row_at}
use Rattle.xref_list.specs.Listing.{AreDisjoint}
use Rattle.xref_list.proofs.Comps.{few_rising}
use Rattle.component_pass.specs.Classes.{AreInOrder}
use Rattle.component_pass.specs.Grouping.{AreGrouped, AreListed, AddsOne, IsHead, group, link_by, link_of, links_below, links_of}
use Rattle.component_pass.proofs.Grouped.{grouped_other, grouped_more, group-rises, group-members, group-has, bridge-below}
use Rattle.component_pass.proofs.Listed.{head_is, listed-skip, listed-more, apart-groups}

abbrev Held : Option Node → Type 0
Held None = ⊥
Held (Some node) = IsSome node.handle

link-grouped : (nodes : List Node) (labels : List ℕ) (n : ℕ) (links : List Link) (node : Node) (h : Option HNum) → slice_get nodes n ≡ Some node → node.handle ≡ h
    → AreGrouped nodes labels n links → AreGrouped nodes labels (n + 1) (links ++ link_by h (get_or labels n 0) n)
link-grouped nodes labels n links node None at is g =
    rw (append-nil links) (grouped_other nodes labels n links (λ b. let held = subst (λ (h : Option HNum). IsSome h) is (subst Held (sym b.there ∙ at) b.held) in true≢false (sym held)) g)
link-grouped nodes labels n links node (Some h) at is g =
    let l : Link = record { from = get_or labels n 0; to = n } in
    grouped_more nodes labels n links l (record { node = node; there = at; held = subst (λ (o : Option HNum). IsSome o) (sym is) refl }) refl refl g

node-grouped : (nodes : List Node) (labels : List ℕ) (n : ℕ) (links : List Link) (o : Option Node) → slice_get nodes n ≡ o
    → AreGrouped nodes labels n links → AreGrouped nodes labels (n + 1) (links ++ link_of o (get_or labels n 0) n)
node-grouped nodes labels n links None at g =
    rw (append-nil links) (grouped_other nodes labels n links (λ b. subst Held (sym b.there ∙ at) b.held) g)
node-grouped nodes labels n links (Some node) at g = link-grouped nodes labels n links node node.handle at refl g

below-grouped : (nodes : List Node) (labels : List ℕ) (n : ℕ) → AreGrouped nodes labels n (links_below nodes labels n)
unfolding links_below
below-grouped nodes labels zero = record {
  made = All-nil (λ (l : Link). (l.to < 0) × (l.from ≡ get_or labels l.to 0) × IsBridgeNode nodes l.to);
  rising = tt;
  every = λ x lt b. absurd (omega (arith, lt));
}
below-grouped nodes labels (suc n) =
    subst (λ (k : ℕ). AreGrouped nodes labels k (links_below nodes labels n ++ link_of (slice_get nodes n) (get_or labels n 0) n)) (add-one n)
    (node-grouped nodes labels n (links_below nodes labels n) (slice_get nodes n) refl (below-grouped nodes labels n))

pub links-grouped : (nodes : List Node) (labels : List ℕ) → AreGrouped nodes labels (length nodes) (links_of nodes labels)
links-grouped nodes labels = below-grouped nodes labels (length nodes)

pub first-least : (xs : List ℕ) (y : ℕ) → Rises xs → Contains xs y → first_of xs ≤ y
first-least [] y r c = absurd (omega (arith, c.1))
first-least (x ∷ xs) y r c = elim (Contains-cons_cases x xs y c) [
  | inl e ↦ omega (arith, e)
  | inr d ↦ let lt = All-contains (λ z. x < z) xs y r.0 d in omega (arith, lt)
]

-- at labels of classes whose group doesn't begin below x there is no index
abbrev pub AreUnset : List Link → ℕ → List ℕ → Type 0
AreUnset links x indexes = (l : ℕ) → l < length indexes → (0 < length (group links l) → x ≤ first_of (group links l)) → get_or indexes l 0 ≡ 4294967295

module _ (nodes : List Node) (edges : List (List ℕ)) (labels : List ℕ) (rows : List (List ℕ)) (few : length nodes < 4294967295)
    (o : AreInOrder edges (length nodes) labels rows) where
  abbrev links : List Link
  links = links_of nodes labels

  abbrev gr : ℕ → List ℕ
  gr l = group links l

  in-group : (x : ℕ) → IsBridgeNode nodes x → Contains (gr (get_or labels x 0)) x
  in-group x b = group-has nodes labels (length nodes) links x (links-grouped nodes labels) (bridge-below nodes x b) b

  -- the bridge nodes of a row are those of the group
  row-group : (l y : ℕ) → (Contains (row_at rows l) y × IsBridgeNode nodes y) ↔ Contains (gr l) y
  row-group l y = (
    (λ t. let m = (o.members l y).0 t.0 in subst (λ (k : ℕ). Contains (gr k) y) m.1 (in-group y t.1)),
    (λ c.
        let m = All-contains (λ z. (z < length nodes) × (get_or labels z 0 ≡ l) × IsBridgeNode nodes z) (gr l) y (group-members nodes labels (length nodes) links l (links-grouped nodes labels)) c in
        ((o.members l y).1 (m.0, m.1), m.2)),
  )

  pub begins-head : (x : ℕ) (comps : List (List ℕ)) (indexes : List ℕ) → x ≤ length nodes
      → AreListed nodes labels links x comps indexes → IsBridgeNode nodes x → get_or indexes (get_or labels x 0) 0 ≡ 4294967295
      → IsHead (gr (get_or labels x 0)) x
  begins-head x comps indexes le a b unset =
      let l : ℕ = get_or labels x 0 in
      let has = in-group x b in
      let least = first-least (gr l) x (group-rises nodes labels (length nodes) links l (links-grouped nodes labels)) has in
      elim (cases_lt (first_of (gr l)) x) [
        | inl before ↦
            let at = slice_get_within comps (get_or indexes l 0) (gr l) (a.found x b before) in
            absurd (omega (arith, at, unset, few, le, length-map comps first_of, few_rising (map first_of comps) 0 x a.order (λ k d lt. omega arith) (All-map (λ y. y < x) first_of comps a.before)))
        | inr ge ↦ (omega (arith, has.1), omega (arith, head_is (gr l), least, ge))
      ]

  -- a node that doesn't begin a component is passed by
  pub unset-skip : (x : ℕ) (comps : List (List ℕ)) (indexes : List ℕ) → ¬ (IsBridgeNode nodes x × (get_or indexes (get_or labels x 0) 0 ≡ 4294967295)) → get_or labels x 0 < length indexes
      → AreUnset links x indexes → AreListed nodes labels links x comps indexes → AreListed nodes labels links (x + 1) comps indexes × AreUnset links (x + 1) indexes
  unset-skip x comps indexes other lt u a =
      let l : ℕ = get_or labels x 0 in (
        listed-skip nodes labels links x comps indexes (links-grouped nodes labels) (λ f.
            let m = group-members nodes labels (length nodes) links l (links-grouped nodes labels) 0 0 f.0 in
            other (subst (λ (z : ℕ). IsBridgeNode nodes z) f.1 m.2, u l lt (λ some. omega (arith, head_is (gr l), f.1)))) a,
        (λ k kl h. u k kl (λ some. omega (arith, h some))),
      )

  -- one that does makes a component of its group
  pub unset-more : (x : ℕ) (comps more : List (List ℕ)) (indexes members : List ℕ) → x ≤ length nodes
      → get_or labels x 0 < length indexes → IsBridgeNode nodes x → get_or indexes (get_or labels x 0) 0 ≡ 4294967295
      → ((y : ℕ) → Contains members y ↔ (Contains (row_at rows (get_or labels x 0)) y × IsBridgeNode nodes y)) → AddsOne comps more members
      → AreUnset links x indexes → AreListed nodes labels links x comps indexes
      → AreListed nodes labels links (x + 1) more (set indexes (get_or labels x 0) (length comps)) × AreUnset links (x + 1) (set indexes (get_or labels x 0) (length comps))
  unset-more x comps more indexes members le lt b unset h t u a =
      let l : ℕ = get_or labels x 0 in
      let f = begins-head x comps indexes le a b unset in
      let is : t.objs ≡ gr l = Rises-one t.objs (gr l) t.rises (group-rises nodes labels (length nodes) links l (links-grouped nodes labels))
      (λ m c. (row-group l m).0 ((h m).0 ((t.same m).0 c))) (λ m c. (t.same m).1 ((h m).1 ((row-group l m).1 c))) in (
        subst (λ (cs : List (List ℕ)). AreListed nodes labels links (x + 1) cs (set indexes l (length comps))) (sym (t.added ∙ ap (λ (m : List ℕ). comps ++ m ∷ []) is))
            (listed-more nodes labels links x comps indexes (links-grouped nodes labels) lt f a),
        (λ k kl q. elim (cases_eq k l) [
          | inl e ↦ absurd (omega (arith, q (omega (arith, f.0, ap (λ (z : ℕ). length (gr z)) e)), ap (λ (z : ℕ). first_of (gr z)) e, head_is (gr l), f.1))
          | inr ne ↦ get_or-set_other indexes l k (length comps) 0 ne ∙ u k (omega (arith, kl, length-set indexes l (length comps))) (λ some. omega (arith, q some))
        ]),
      )

  -- its members are apart from those before, and greater than their first ones
  pub members-apart : (x : ℕ) (comps : List (List ℕ)) (indexes members : List ℕ) → x ≤ length nodes → IsBridgeNode nodes x → get_or indexes (get_or labels x 0) 0 ≡ 4294967295
      → ((y : ℕ) → Contains members y ↔ (Contains (row_at rows (get_or labels x 0)) y × IsBridgeNode nodes y)) → AreListed nodes labels links x comps indexes
      → All (λ m. AreDisjoint m members) comps × All (λ m. All (λ y. first_of m < y) members) comps × (0 < length members)
  members-apart x comps indexes members le b unset h a =
      let l : ℕ = get_or labels x 0 in
      let f = begins-head x comps indexes le a b unset in
      let apart = apart-groups nodes labels links x comps indexes (links-grouped nodes labels) f a in (
        (λ k d lt z p q. apart k d lt z p ((row-group l z).0 ((h z).0 q))),
        (λ k d lt i e il.
            let y : ℕ = get_or members i e in
            let c = (row-group l y).0 ((h y).0 (Contains-get_or members i e il)) in
            omega (arith, a.before k d lt, first-least (gr l) y (group-rises nodes labels (length nodes) links l (links-grouped nodes labels)) c, head_is (gr l), f.1)),
        (let c = (h x).1 ((row-group l x).1 (in-group x b)) in omega (arith, c.1)),
      )

-- what stands in the rows are nodes
pub rows-below : (nodes : List Node) (labels : List ℕ) (rows : List (List ℕ))
    → ((c x : ℕ) → Contains (row_at rows c) x ↔ ((x < length nodes) × (get_or labels x 0 ≡ c))) → All (All (λ j. j < length nodes)) rows
rows-below nodes labels rows members = λ c d lt k e kl.
    let row = get_or rows c d in
    let same : row ≡ row_at rows c = get_or_default rows c d [] lt in
    ((members c (get_or row k e)).0 (subst (λ (xs : List ℕ). Contains xs (get_or row k e)) same (Contains-get_or row k e kl))).0

-- one node of the row more
pub collected-more : (nodes : List Node) (front members : List ℕ) (y : ℕ) → IsBridgeNode nodes y → ((z : ℕ) → Contains members z ↔ (Contains front z × IsBridgeNode nodes z))
    → (z : ℕ) → Contains (members ++ y ∷ []) z ↔ (Contains (front ++ y ∷ []) z × IsBridgeNode nodes z)
collected-more nodes front members y b h z = (
  (λ c. elim (Contains-push_cases members y z c) [
    | inl m ↦ let t = (h z).0 m in (Contains-append_left front (y ∷ []) z t.0, t.1)
    | inr is ↦ (subst (λ (w : ℕ). Contains (front ++ y ∷ []) w) is (Contains-push front y), subst (λ (w : ℕ). IsBridgeNode nodes w) is b)
  ]),
  (λ t. elim (Contains-push_cases front y z t.0) [
    | inl c ↦ Contains-append_left members (y ∷ []) z ((h z).1 (c, t.1))
    | inr is ↦ subst (λ (w : ℕ). Contains (members ++ y ∷ []) w) is (Contains-push members y)
  ]),
)

pub collected-other : (nodes : List Node) (front members : List ℕ) (y : ℕ) → ¬ IsBridgeNode nodes y → ((z : ℕ) → Contains members z ↔ (Contains front z × IsBridgeNode nodes z))
    → (z : ℕ) → Contains members z ↔ (Contains (front ++ y ∷ []) z × IsBridgeNode nodes z)
collected-other nodes front members y none h z = (
  (λ c. let t = (h z).0 c in (Contains-append_left front (y ∷ []) z t.0, t.1)),
  (λ t. elim (Contains-push_cases front y z t.0) [
    | inl c ↦ (h z).1 (c, t.1)
    | inr is ↦ absurd (none (subst (λ (w : ℕ). IsBridgeNode nodes w) (sym is) t.1))
  ]),
)

-- a list with the same members is apart from what they are apart from
pub same-apart : (comps : List (List ℕ)) (members objs : List ℕ) → ((j : ℕ) → Contains objs j ↔ Contains members j) → All (λ m. AreDisjoint m members) comps → All (λ m. AreDisjoint m objs) comps
same-apart comps members objs s a = λ k d lt z p q. a k d lt z p ((s z).0 q)

pub same-some : (members objs : List ℕ) → ((j : ℕ) → Contains objs j ↔ Contains members j) → 0 < length members → 0 < length objs
same-some members objs s some = let c = (s (get_or members 0 0)).1 (Contains-get_or members 0 0 some) in omega (arith, c.1)

pub same-after : (comps : List (List ℕ)) (members objs : List ℕ) → ((j : ℕ) → Contains objs j ↔ Contains members j) → 0 < length members
    → All (λ m. All (λ y. first_of m < y) members) comps → All (λ m. first_of m < first_of objs) comps
same-after comps members objs s some a = λ k d lt.
    let first : ℕ = get_or objs 0 0 in
    let c = (s first).0 (Contains-get_or objs 0 0 (same-some members objs s some)) in
    let below = All-contains (λ y. first_of (get_or comps k d) < y) members first (a k d lt) c in
    omega (arith, below, head_is objs)
