-- Going through the nodes in order, a bridge node whose class has no index is the first of its class: it makes a
-- component of the whole group. In the end the components are exactly the classes of bridge nodes.
use Rattle.std.proofs.Common.{◌≡◌, ◌↔◌, ℕ, ◌+◌, ◌<◌, ◌≤◌, List, [], ◌∷◌, ◌++◌, length, get_or, set, slice_get, refl, sym, ◌∙◌, ap, subst, arith, inl, inr}
use Rattle.std.specs.Prelude.{All, Contains}
use Rattle.std.proofs.lemmas.Bool.{cases_lt}
use Rattle.std.proofs.lemmas.List.{map_push, length-map, length_push, get_or-map, get_or_append_left, get_or_push}
use Rattle.std.proofs.lemmas.List.Elements.{All-nil, All-push, All-weaker}
use Rattle.std.proofs.lemmas.Option.{slice_get_within, same_Some, get_or_from_slice_get}
use Rattle.joint_machine.specs.Walks.{Mutual}
use Rattle.joint_machine.specs.Components.{IsMember, first_of}
use Rattle.joint_machine.proofs.Members.{Rises-push, All-members}
use Rattle.joint_machine.proofs.Numbered.{push-at_old, push-at_new}
use Rattle.bridge_graph.specs.declared.graph.Node.{Node}
use Rattle.bridge_graph.specs.Parts.{IsBridgeNode, NodeLeads}
use Rattle.xref_list.specs.Listing.{AreDisjoint}
use Rattle.compare_pass.specs.Classes.{AreClasses}
use Rattle.compare_pass.specs.Listing.{AreListed, IsGroup}
use Rattle.compare_pass.specs.Searching.{index_at}
use Rattle.compare_pass.proofs.Numbering.{numbered-none, numbered-more, put-kept, put-here}
use Rattle.compare_pass.proofs.Rising.{first-least, first-in, rising-few}

pub bridge-below : (nodes : List Node) (x : ℕ) → IsBridgeNode nodes x → x < length nodes
bridge-below nodes x b = slice_get_within nodes x b.node b.there

pub listed-none : (nodes : List Node) (labels indexes : List ℕ) → length indexes ≡ length nodes
    → ((x : ℕ) → x < length nodes → index_at labels indexes x ≡ 4294967295) → AreListed nodes labels 0 [] indexes []
listed-none nodes labels indexes size none = record {
  numbered = numbered-none (length nodes) labels indexes size none;
  firsts = refl;
  each = λ i l. absurd (omega (arith, l));
  bridges = All-nil (IsBridgeNode nodes);
  rise = tt;
  below = All-nil (λ s. s < 0);
  every = λ y l. absurd (omega (arith, l));
}

-- a node that doesn't begin a component is passed by
pub listed-skip : (nodes : List Node) (labels : List ℕ) (x : ℕ) (comps : List (List ℕ)) (indexes stands : List ℕ) → ¬ (IsBridgeNode nodes x × (index_at labels indexes x ≡ 4294967295))
    → AreListed nodes labels x comps indexes stands → AreListed nodes labels (x + 1) comps indexes stands
listed-skip nodes labels x comps indexes stands none a = record {
  numbered = a.numbered;
  firsts = a.firsts;
  each = a.each;
  bridges = a.bridges;
  rise = a.rise;
  below = All-weaker (λ s. s < x) (λ s. s < x + 1) (λ s l. omega (arith, l)) stands a.below;
  every = λ y l b. elim (cases_lt y x) [
    | inl yl ↦ a.every y yl b
    | inr ge ↦ (let is : y ≡ x = omega (arith, l, ge) in λ e. none (subst (λ z. IsBridgeNode nodes z) is b, subst (λ z. index_at labels indexes z ≡ 4294967295) is e))
  ];
}

module _ (nodes : List Node) (labels : List ℕ) (x : ℕ) (comps : List (List ℕ)) (indexes stands members : List ℕ) (few : length nodes < 4294967295) (within : x < length nodes)
    (small : get_or labels x 0 < length nodes) (g : IsGroup nodes labels (get_or labels x 0) members) (bridge : IsBridgeNode nodes x) (none : index_at labels indexes x ≡ 4294967295)
    (a : AreListed nodes labels x comps indexes stands) where
  counts : length comps ≡ length stands
  counts = sym (length-map comps first_of) ∙ ap length a.firsts

  has-x : Contains members x
  has-x = (g.exact x).1 (bridge, refl)

  pub group-some : 0 < length members
  group-some = omega (arith, has-x.1)

  -- the class of x has no bridge node before it
  pub first-is : first_of members ≡ x
  first-is =
      let f : ℕ = first_of members in
      let t = (g.exact f).0 (first-in members group-some) in
      elim (cases_lt f x) [
        | inl l ↦ absurd (a.every f l t.0 (ap (λ k. get_or indexes k 0) t.1 ∙ none))
        | inr ge ↦ omega (arith, ge, first-least members x g.rises has-x)
      ]

  pub group-below : All (λ y. y < 4294967294) members
  group-below = All-members (λ y. y < 4294967294) members (λ y c. let l = bridge-below nodes y ((g.exact y).0 c).0 in omega (arith, l, few))

  pub stands-few : length stands < 4294967295
  stands-few = omega (arith, rising-few stands 0 x a.rise (λ k d l. omega arith) a.below (omega arith), within, few)

  pub group-apart : All (λ m. AreDisjoint m members) comps
  group-apart k d l z p q =
      let il : k < length stands = omega (arith, l, counts) in
      let e = a.each k il in
      let same : get_or comps k d ≡ e.0 = get_or_from_slice_get comps k e.0 d e.1 in
      let one = (e.2.exact z).0 (subst (λ m. Contains m z) same p) in
      let two = (g.exact z).0 q in
      let at = (a.numbered.stand k il).1 in
      absurd (omega (arith, at, ap (λ j. get_or indexes j 0) (sym one.1 ∙ two.1), none, il, stands-few))

  pub group-after : All (λ m. first_of m < first_of members) comps
  group-after k d l =
      let il : k < length stands = omega (arith, l, counts) in
      let at : get_or stands k 0 ≡ first_of (get_or comps k d) = sym (ap (λ xs. get_or xs k 0) a.firsts) ∙ get_or-map first_of comps k d 0 l in
      omega (arith, at, first-is, a.below k 0 il)

  -- its group makes a component
  pub listed-more : AreListed nodes labels (x + 1) (comps ++ members ∷ []) (set indexes (get_or labels x 0) (length comps)) (stands ++ x ∷ [])
  listed-more =
      let n = length stands in
      let ll : get_or labels x 0 < length indexes = omega (arith, small, a.numbered.size) in
      let few_n : n < 4294967295 = omega (arith, stands-few) in
      rw counts record {
        numbered = numbered-more (length nodes) labels indexes stands x within small none few_n a.numbered;
        firsts = map_push first_of comps members ∙ ap (λ xs. xs ++ first_of members ∷ []) a.firsts ∙ ap (λ y. stands ++ y ∷ []) first-is;
        each = λ i l. elim (cases_lt i n) [
          | inl il ↦
              let e = a.each i il in
              let at : get_or (stands ++ x ∷ []) i 0 ≡ get_or stands i 0 = get_or_append_left stands (x ∷ []) 0 i il in
              (e.0, push-at_old comps members i (omega (arith, il, counts)) ∙ e.1, subst (λ s. IsGroup nodes labels (get_or labels s 0) e.0) (sym at) e.2)
          | inr ge ↦
              let is : i ≡ n = omega (arith, l, ge, length_push stands x) in
              let at : get_or (stands ++ x ∷ []) i 0 ≡ x = get_or_push stands x 0 i (sym is) in
              (members, ap (λ k. slice_get (comps ++ members ∷ []) k) (is ∙ sym counts) ∙ push-at_new comps members, subst (λ s. IsGroup nodes labels (get_or labels s 0) members) (sym at) g)
        ];
        bridges = All-push (IsBridgeNode nodes) stands x a.bridges bridge;
        rise = Rises-push stands x a.rise a.below;
        below = All-push (λ s. s < x + 1) stands x (All-weaker (λ s. s < x) (λ s. s < x + 1) (λ s l. omega (arith, l)) stands a.below) (omega arith);
        every = λ y l b. elim (cases_lt y x) [
          | inl yl ↦ put-kept labels indexes x n y ll (λ e. omega (arith, e, few_n)) (a.every y yl b)
          | inr ge ↦ (let is : y ≡ x = omega (arith, l, ge) in λ e. omega (arith, put-here labels indexes x n y ll (ap (λ k. get_or labels k 0) is), e, few_n))
        ];
      }

-- fewer stand than there are nodes
pub listed-few : (nodes : List Node) (labels : List ℕ) (comps : List (List ℕ)) (indexes stands : List ℕ)
    → length nodes < 4294967295 → AreListed nodes labels (length nodes) comps indexes stands → length stands ≤ 4294967294
listed-few nodes labels comps indexes stands few a = omega (arith, rising-few stands 0 (length nodes) a.rise (λ k d l. omega arith) a.below (omega arith), few)

-- once all nodes are gone through
module _ (nodes : List Node) (edges : List (List ℕ)) (labels : List ℕ) (comps : List (List ℕ)) (indexes stands : List ℕ) (few : length stands ≤ 4294967294)
    (classes : AreClasses edges (length nodes) labels) (a : AreListed nodes labels (length nodes) comps indexes stands) where
  sizes : length comps ≡ length stands
  sizes = sym (length-map comps first_of) ∙ ap length a.firsts

  at-index : (x : ℕ) → IsBridgeNode nodes x → (index_at labels indexes x < length stands) × (get_or labels (get_or stands (index_at labels indexes x) 0) 0 ≡ get_or labels x 0)
  at-index x b = a.numbered.index x (bridge-below nodes x b) (a.every x (bridge-below nodes x b) b)

  of-member : (i x : ℕ) → IsMember comps i x → (i < length stands) × IsBridgeNode nodes x × (get_or labels x 0 ≡ get_or labels (get_or stands i 0) 0)
  of-member i x m =
      let il : i < length stands = omega (arith, slice_get_within comps i m.0 m.1, sizes) in
      let e = a.each i il in
      let same : m.0 ≡ e.0 = same_Some m.0 e.0 (sym m.1 ∙ e.1) in
      let t = (e.2.exact x).0 (subst (λ xs. Contains xs x) same m.2) in
      (il, t.0, t.1)

  has-member : (x : ℕ) → IsBridgeNode nodes x → IsMember comps (index_at labels indexes x) x
  has-member x b = let t = at-index x b in let e = a.each (index_at labels indexes x) t.0 in (e.0, e.1, (e.2.exact x).1 (b, sym t.1))

  pub listed-members : (x : ℕ) → ((i : ℕ) × IsMember comps i x) ↔ IsBridgeNode nodes x
  listed-members x = ((λ m. (of-member m.0 x m.1).1), (λ b. (index_at labels indexes x, has-member x b)))

  pub listed-together : (i j x y : ℕ) → IsMember comps i x → IsMember comps j y → (i ≡ j) ↔ Mutual (NodeLeads edges) x y
  listed-together i j x y m n =
      let p = of-member i x m in
      let q = of-member j y n in
      let c = classes.exact x y (bridge-below nodes x p.1) (bridge-below nodes y q.1) in (
        (λ e. c.0 (p.2 ∙ ap (λ k. get_or labels (get_or stands k 0) 0) e ∙ sym q.2)),
        (λ r. sym (a.numbered.stand i p.0).1 ∙ ap (λ k. get_or indexes k 0) (sym p.2 ∙ c.1 r ∙ q.2) ∙ (a.numbered.stand j q.0).1),
      )
