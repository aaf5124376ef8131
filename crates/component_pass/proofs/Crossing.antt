-- The listed components and heavy classes, with pairs that lead from each to exactly what its class refers to, are the
-- contraction: what leaves a class is what walks lead to whose rows between lie in classes that aren't reported.
use Rattle.std.proofs.Common.{◌≡◌, ℕ, ◌+◌, ◌<◌, ◌≤◌, List, [], ◌∷◌, ◌++◌, Some, length, map, get_or, sym, ◌∙◌, ap, subst, arith, inl, inr}
use Rattle.std.proofs.lemmas.List.{length-map, get_or-map}
use Rattle.std.proofs.lemmas.List.Elements.{All-nil, All-cons, All-head, All-tail, All-contains}
use Rattle.std.proofs.lemmas.Option.{slice_get-get_or, slice_get_within, get_or_from_slice_get}
use Rattle.std.proofs.lemmas.List.Sorted.{Contains-permutation, IsPermutation-sym}
use Rattle.std.specs.List.Sorted.{IsPermutation}
use Rattle.std.proofs.lemmas.Bool.{cases_order, cases_eq}
use Rattle.std.specs.List.{All, Contains}
use Rattle.joint_machine.specs.Walks.{Walks, Mutual}
use Rattle.joint_machine.specs.Components.{first_of, first_at, stand_at, IsFirst, IsUnreported, IsMember, IsCanonical, IsContraction}
use Rattle.joint_machine.proofs.WalkLemmas.{Mutual-trans}
use Rattle.bridge_graph.specs.declared.graph.Node.{Node}
use Rattle.bridge_graph.specs.declared.packing.Link.{Link}
use Rattle.bridge_graph.specs.Parts.{IsBridgeNode, IsPart, NodeLeads}
use Rattle.component_pass.specs.Classes.{AreClasses}
use Rattle.component_pass.specs.Grouping.{AreGrouped, AreListed, group}
use Rattle.component_pass.specs.Reporting.{AreReported}
use Rattle.component_pass.specs.Sharing.{index_at, IsOpen, AreReferences}
use Rattle.component_pass.proofs.Converse.{AreFirsts}
use Rattle.component_pass.proofs.Grouped.{group-members, group-has, group-rises, bridge-below}
use Rattle.component_pass.proofs.Leaving.{leads_from_leaves, leaves_from_leads}
use Rattle.component_pass.proofs.Listed.{head_is, rises_at}
use Rattle.component_pass.proofs.Rows.{first-least}

-- all that is known once the components are listed
pub record Setting (nodes : List Node) (edges : List (List ℕ)) (labels : List ℕ) (links : List Link) (comps : List (List ℕ)) (indexes : List ℕ) : Type 0 where
  pub part : IsPart nodes edges
  pub classes : AreClasses edges (length nodes) labels
  pub grouped : AreGrouped nodes labels (length nodes) links
  pub listed : AreListed nodes labels links (length nodes) comps indexes

module _ (nodes : List Node) (edges : List (List ℕ)) (labels : List ℕ) (links : List Link) (comps : List (List ℕ)) (indexes : List ℕ)
    (s : Setting nodes edges labels links comps indexes) where
  abbrev E : ℕ → ℕ → Type 0
  E = NodeLeads edges

  -- a fact of all rows between is carried over, since they are nodes
  between_as : (P Q : ℕ → Type 0) → ((x : ℕ) → x < length nodes → P x → Q x) → (u to : ℕ) (zs : List ℕ) → Walks E u (zs ++ to ∷ []) to → All P zs → All Q zs
  between_as P Q f u to [] w a = All-nil Q
  between_as P Q f u to (z ∷ zs) w a =
      All-cons Q z zs (f z (s.part.in_range u z w.0) (All-head P z zs a)) (between_as P Q f z to zs w.1 (All-tail P z zs a))

  first_is : (i : ℕ) → i < length comps → first_at comps i ≡ first_of (get_or comps i [])
  first_is i lt = get_or-map first_of comps i [] 0 lt

  -- the component with index i is the group of its first member, a bridge node
  pub comp_at : (i : ℕ) → i < length comps → IsBridgeNode nodes (first_at comps i) × (get_or comps i [] ≡ group links (get_or labels (first_at comps i) 0))
  comp_at i lt =
      let e = s.listed.each i [] lt in
      let gr = group links (get_or labels e.0 0) in
      let has = group-has nodes labels (length nodes) links e.0 s.grouped (bridge-below nodes e.0 e.1) e.1 in
      let m = group-members nodes labels (length nodes) links (get_or labels e.0 0) s.grouped 0 0 (omega (arith, has.1)) in
      let f : get_or gr 0 0 ≡ first_at comps i = head_is gr ∙ sym (ap first_of e.2) ∙ sym (first_is i lt) in
      (subst (λ (z : ℕ). IsBridgeNode nodes z) f m.2, e.2 ∙ ap (λ (l : ℕ). group links l) (sym m.1 ∙ ap (λ (z : ℕ). get_or labels z 0) f))

  -- first members tell components apart, and are in their order
  same_index : (i j : ℕ) → i < length comps → j < length comps → first_at comps i ≡ first_at comps j → i ≡ j
  same_index i j il jl e =
      let n = length-map comps first_of in
      elim (cases_order i j) [
        | inl t ↦ t
        | inr o ↦ elim o [
          | inl lt ↦ absurd (omega (arith, rises_at (map first_of comps) i j s.listed.order lt (omega (arith, n)), e))
          | inr gt ↦ absurd (omega (arith, rises_at (map first_of comps) j i s.listed.order gt (omega (arith, n)), e))
        ]
      ]

  -- the index at the label of a bridge node is that of the component which is its group
  pub index_of : (b : ℕ) → IsBridgeNode nodes b → (get_or indexes (get_or labels b 0) 0 < length comps) × (get_or comps (get_or indexes (get_or labels b 0) 0) [] ≡ group links (get_or labels b 0))
  index_of b bb =
      let gr = group links (get_or labels b 0) in
      let has = group-has nodes labels (length nodes) links b s.grouped (bridge-below nodes b bb) bb in
      let m = group-members nodes labels (length nodes) links (get_or labels b 0) s.grouped 0 0 (omega (arith, has.1)) in
      let f = s.listed.found b bb (omega (arith, m.0, head_is gr)) in
      (slice_get_within comps (get_or indexes (get_or labels b 0) 0) gr f, get_or_from_slice_get comps (get_or indexes (get_or labels b 0) 0) gr [] f)

  pub at_label : (i : ℕ) → i < length comps → get_or indexes (get_or labels (first_at comps i) 0) 0 ≡ i
  at_label i lt =
      let c = comp_at i lt in
      let k = index_of (first_at comps i) c.0 in
      let t : ℕ = get_or indexes (get_or labels (first_at comps i) 0) 0 in
      same_index t i k.0 lt (first_is t k.0 ∙ ap first_of (k.1 ∙ sym c.1) ∙ sym (first_is i lt))

  member_at : (i x : ℕ) → IsMember comps i x → (i < length comps) × (x < length nodes) × IsBridgeNode nodes x × (get_or labels x 0 ≡ get_or labels (first_at comps i) 0)
  member_at i x m =
      let lt = slice_get_within comps i m.0 m.1 in
      let c = comp_at i lt in
      let l : ℕ = get_or labels (first_at comps i) 0 in
      let inside : Contains (group links l) x = subst (λ (xs : List ℕ). Contains xs x) (sym (get_or_from_slice_get comps i m.0 [] m.1) ∙ c.1) m.2 in
      let g = All-contains (λ z. (z < length nodes) × (get_or labels z 0 ≡ l) × IsBridgeNode nodes z) (group links l) x
      (group-members nodes labels (length nodes) links l s.grouped) inside in
      (lt, g.0, g.2, g.1)

  member_of : (x : ℕ) → IsBridgeNode nodes x → IsMember comps (get_or indexes (get_or labels x 0) 0) x
  member_of x b =
      let k = index_of x b in (
        group links (get_or labels x 0),
        slice_get-get_or comps (get_or indexes (get_or labels x 0) 0) [] k.0 ∙ ap (λ (m : List ℕ). Some m) k.1,
        group-has nodes labels (length nodes) links x s.grouped (bridge-below nodes x b) b,
      )

  -- the first member of the component at the label of a bridge node is the first of its group
  first_of_group : (b : ℕ) → IsBridgeNode nodes b → first_at comps (get_or indexes (get_or labels b 0) 0) ≡ first_of (group links (get_or labels b 0))
  first_of_group b bb = let k = index_of b bb in first_is (get_or indexes (get_or labels b 0) 0) k.0 ∙ ap first_of k.1

  -- while only components have an index
  pub firsts_are : (rows : ℕ) → ((x : ℕ) → x < length nodes → get_or labels x 0 < rows) → length comps ≤ 4294967294
      → ((l : ℕ) → l < rows → length (group links l) ≡ 0 → get_or indexes l 0 ≡ 4294967295) → AreFirsts nodes edges labels indexes (length comps) (first_at comps)
  firsts_are rows labelled few none = record {
    rise = λ i j il jl lt. rises_at (map first_of comps) i j s.listed.order lt (omega (arith, jl, length-map comps first_of));
    plain = λ x xl. (
      (λ o b bb m.
          let same = (s.classes.exact x b xl (bridge-below nodes b bb)).1 m in
          omega (arith, (index_of b bb).0, few, o, ap (λ (l : ℕ). get_or indexes l 0) same)),
      (λ p. elim (cases_eq (length (group links (get_or labels x 0))) 0) [
        | inl z ↦ none (get_or labels x 0) (labelled x xl) z
        | inr ne ↦
            let m = group-members nodes labels (length nodes) links (get_or labels x 0) s.grouped 0 0 (omega (arith, ne)) in
            absurd (p (get_or (group links (get_or labels x 0)) 0 0) m.2 ((s.classes.exact x (get_or (group links (get_or labels x 0)) 0 0) xl m.0).0 (sym m.1)))
      ]),
    );
    closed = λ y yl c.
        let l : ℕ = get_or labels y 0 in
        let gr = group links l in
        let some : 0 < length gr = elim (cases_eq (length gr) 0) [ inl z ↦ absurd (c (none l (labelled y yl) z)) | inr ne ↦ omega (arith, ne) ] in
        let m = group-members nodes labels (length nodes) links l s.grouped 0 0 some in
        let b : ℕ = get_or gr 0 0 in
        let f : first_at comps (get_or indexes l 0) ≡ b = subst (λ (k : ℕ). first_at comps (get_or indexes k 0) ≡ first_of (group links k)) m.1 (first_of_group b m.2) ∙ sym (head_is gr) in
        let k = index_of b m.2 in (
          subst (λ (k : ℕ). get_or indexes k 0 < length comps) m.1 k.0,
          subst (λ (z : ℕ). IsFirst (IsBridgeNode nodes) E z) (sym f) (record {
            member = m.2;
            least = λ z zb t.
                let same = (s.classes.exact b z m.0 (bridge-below nodes z zb)).1 t in
                let inside : Contains gr z = subst (λ (k : ℕ). Contains (group links k) z) (sym same ∙ m.1) (group-has nodes labels (length nodes) links z s.grouped (bridge-below nodes z zb) zb) in
                omega (arith, first-least gr z (group-rises nodes labels (length nodes) links l s.grouped) inside, head_is gr);
          }),
          subst (λ (z : ℕ). Mutual E z y) (sym f) ((s.classes.exact b y m.0 yl).0 m.1),
        );
    first = λ b h.
        let bl = bridge-below nodes b h.member in
        let l : ℕ = get_or labels b 0 in
        let gr = group links l in
        let has = group-has nodes labels (length nodes) links b s.grouped bl h.member in
        let m = group-members nodes labels (length nodes) links l s.grouped 0 0 (omega (arith, has.1)) in
        let at : ℕ = get_or gr 0 0 in
        let below = first-least gr b (group-rises nodes labels (length nodes) links l s.grouped) has in
        let above = h.least at m.2 ((s.classes.exact b at bl m.0).0 (sym m.1)) in
        let k = index_of b h.member in (
          bl,
          (λ o. omega (arith, o, k.0, few)),
          first_of_group b h.member ∙ (let e : first_of gr ≡ b = omega (arith, below, above, head_is gr) in e),
        );
  }

  -- the listed components and heavy classes with all their cross-references are the contraction
  pub contraction_of : (rows : ℕ) (heavy : List ℕ) (pairs ordered : List (ℕ × ℕ)) → AreReported nodes edges labels rows indexes comps heavy
      → AreReferences edges (length nodes) labels indexes (length comps + length heavy) pairs → length comps + length heavy ≤ 4294967294
      → ((x : ℕ) → x < length nodes → get_or labels x 0 < rows) → IsPermutation pairs ordered
      → IsCanonical comps ordered → IsContraction (IsBridgeNode nodes) E comps heavy ordered
  contraction_of rows heavy pairs ordered rp rf few labelled perm canon =
      let K : ℕ = length comps + length heavy in
      let closed : (x i : ℕ) → i < K → index_at labels indexes x ≡ i → IsOpen labels indexes x → ⊥ = λ x i lt e z. omega (arith, lt, few, e, z) in
      record {
        canonical = canon;
        members = λ x. ((λ t. (member_at t.0 x t.1).2), (λ b. (get_or indexes (get_or labels x 0) 0, member_of x b)));
        together = λ i j x y p q.
            let m = member_at i x p in
            let n = member_at j y q in (
              (λ e. (s.classes.exact x y m.1 n.1).0 (m.3 ∙ ap (λ (k : ℕ). get_or labels (first_at comps k) 0) e ∙ sym n.3)),
              (λ t.
                  let e = (s.classes.exact x y m.1 n.1).1 t in
                  sym (at_label i m.0) ∙ ap (λ (l : ℕ). get_or indexes l 0) (sym m.3 ∙ e ∙ n.3) ∙ at_label j n.0),
            );
        heavy_rise = rp.rise;
        heavies = rp.heavies;
        references = λ i j.
            let r : ℕ × ℕ = (i, j) in (
              (λ c.
                  let d = Contains-permutation ordered pairs r (IsPermutation-sym pairs ordered perm) c in
                  let il = rf.sources i j d in
                  let x : ℕ = stand_at comps heavy i in
                  let at = rp.stand i il in
                  let l = leads_from_leaves nodes edges labels indexes s.part s.classes x j at.0
                  ((rf.exact x j at.0 (closed x i il at.1)).0 (subst (λ (k : ℕ). let q : ℕ × ℕ = (k, j) in Contains pairs q) (sym at.1) d)) in
                  let y : ℕ = l.0 in
                  let jl : j < K = subst (λ (k : ℕ). k < K) l.2 (rp.numbered.below (get_or labels y 0) (labelled y l.1) l.3) in
                  let z : ℕ = stand_at comps heavy j in
                  let zt = rp.stand j jl in
                  let same : get_or labels z 0 ≡ get_or labels y 0 = rp.numbered.apart (get_or labels z 0)
                  (get_or labels y 0) (labelled z zt.0) (labelled y l.1) (closed z j jl zt.1) (zt.1 ∙ sym l.2) in
                  let meets : Mutual E z y = (s.classes.exact z y zt.0 l.1).0 same in
                  let d' = l.5 in (
                    il,
                    jl,
                    record {
                      apart = λ t. l.4 (Mutual-trans E x z y t meets);
                      leads = record {
                        from = d'.from;
                        between = d'.between;
                        to = d'.to;
                        leaves = d'.leaves;
                        arrives = Mutual-trans E z y d'.to meets d'.arrives;
                        walk = d'.walk;
                        plain = between_as (IsOpen labels indexes) (IsUnreported (IsBridgeNode nodes) E) (λ v lt o. (rp.bare v lt).0 o) d'.from d'.to d'.between d'.walk d'.plain;
                      };
                    },
                  )),
              (λ t.
                  let x : ℕ = stand_at comps heavy i in
                  let z : ℕ = stand_at comps heavy j in
                  let at = rp.stand i t.0 in
                  let zt = rp.stand j t.1 in
                  let d = t.2.leads in
                  let l = leaves_from_leads nodes edges labels indexes s.part s.classes x z at.0 zt.0 (closed z j t.1 zt.1) t.2.apart record {
                    from = d.from;
                    between = d.between;
                    to = d.to;
                    leaves = d.leaves;
                    arrives = d.arrives;
                    walk = d.walk;
                    plain = between_as (IsUnreported (IsBridgeNode nodes) E) (IsOpen labels indexes) (λ v lt o. (rp.bare v lt).1 o) d.from d.to d.between d.walk d.plain;
                  } in
                  let c = (rf.exact x (index_at labels indexes z) at.0 (closed x i t.0 at.1)).1 l in
                  let c1 = subst (λ (k : ℕ). let q : ℕ × ℕ = (k, index_at labels indexes z) in Contains pairs q) at.1 c in
                  let c2 = subst (λ (k : ℕ). let q : ℕ × ℕ = (i, k) in Contains pairs q) zt.1 c1 in
                  Contains-permutation pairs ordered r perm c2),
            );
      }
