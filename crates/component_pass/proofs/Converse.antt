-- A count by indexes is one by first members.
use Rattle.std.proofs.Common.{◌≡◌, ◌↔◌, ℕ, ◌<◌, List, [], ◌∷◌, ◌++◌, length, map, get_or, sym, ap, subst, arith}
use Rattle.std.proofs.lemmas.List.{length-map}
use Rattle.std.proofs.lemmas.List.Elements.{All-nil, All-cons, All-head, All-tail, All-map, All-contains, Contains-get_or}
use Rattle.std.specs.List.{All, Contains}
use Rattle.joint_machine.specs.Walks.{Walks, Reaches, Mutual}
use Rattle.joint_machine.specs.Components.{Rises, LeadsIn, LeadsOut, IsFirst, IsPlainClass}
use Rattle.joint_machine.proofs.WalkLemmas.{Mutual-self, Mutual-trans, Reaches-edge, Reaches-keeps, Reaches-trans}
use Rattle.joint_machine.proofs.Members.{Contains-map, Contains-here, Contains-there}
use Rattle.bridge_graph.specs.declared.graph.Node.{Node}
use Rattle.bridge_graph.specs.Parts.{IsBridgeNode, IsPart, NodeLeads}
use Rattle.component_pass.specs.Classes.{AreClasses}
use Rattle.component_pass.specs.Counting.{ComesIn, IsCount}
use Rattle.component_pass.specs.Sharing.{index_at, IsOpen, ComesOut, Passes}
use Rattle.component_pass.proofs.Finding.{leads_from}
use Rattle.component_pass.proofs.Leaving.{inside, open_leaves, open_of, leads_from_leaves, leaves_from_leads, walk_between}

rises_map : (f : ℕ → ℕ) (xs : List ℕ) → ((i j : ℕ) → Contains xs i → Contains xs j → i < j → f i < f j) → Rises xs → Rises (map f xs)
rises_map f [] m r = tt
rises_map f (x ∷ xs) m r = (
  All-map (λ y. f x < y) f xs (λ k d lt. m x (get_or xs k d) (Contains-here x xs) (Contains-there (get_or xs k d) x xs (Contains-get_or xs k d lt)) (r.0 k d lt)),
  rises_map f xs (λ i j a b. m i j (Contains-there i x xs a) (Contains-there j x xs b)) r.1,
)

-- what is known while only components have an index
pub record AreFirsts (nodes : List Node) (edges : List (List ℕ)) (labels indexes : List ℕ) (count : ℕ) (firsts : ℕ → ℕ) : Type 0 where
  pub rise : (i j : ℕ) → i < count → j < count → i < j → firsts i < firsts j
  pub plain : (x : ℕ) → x < length nodes → IsOpen labels indexes x ↔ IsPlainClass (IsBridgeNode nodes) (NodeLeads edges) x
  pub closed : (y : ℕ) → y < length nodes → (IsOpen labels indexes y → ⊥)
      → (index_at labels indexes y < count) × IsFirst (IsBridgeNode nodes) (NodeLeads edges) (firsts (index_at labels indexes y)) × Mutual (NodeLeads edges) (firsts (index_at labels indexes y)) y
  pub first : (b : ℕ) → IsFirst (IsBridgeNode nodes) (NodeLeads edges) b → (b < length nodes) × (IsOpen labels indexes b → ⊥) × (firsts (index_at labels indexes b) ≡ b)

module _ (nodes : List Node) (edges : List (List ℕ)) (labels indexes : List ℕ) (count : ℕ) (firsts : ℕ → ℕ)
    (part : IsPart nodes edges) (cl : AreClasses edges (length nodes) labels) (fs : AreFirsts nodes edges labels indexes count firsts) where
  abbrev B : ℕ → Type 0
  B = IsBridgeNode nodes

  abbrev E : ℕ → ℕ → Type 0
  E = NodeLeads edges

  between_as : (P Q : ℕ → Type 0) → ((x : ℕ) → x < length nodes → P x → Q x) → (u to : ℕ) (zs : List ℕ) → Walks E u (zs ++ to ∷ []) to → All P zs → All Q zs
  between_as P Q f u to [] w a = All-nil Q
  between_as P Q f u to (z ∷ zs) w a = All-cons Q z zs (f z (part.in_range u z w.0) (All-head P z zs a)) (between_as P Q f z to zs w.1 (All-tail P z zs a))

  out_of : (x j : ℕ) → x < length nodes → IsOpen labels indexes x → ComesOut edges labels indexes x j → (j < count) × LeadsOut B E x (firsts j)
  out_of x j lt o t =
      let l = leads_from_leaves nodes edges labels indexes part cl x j lt ((open_leaves nodes edges labels indexes part cl x j lt o).0 t) in
      let c = fs.closed l.0 l.1 l.3 in
      let d = l.5 in (
        subst (λ (k : ℕ). k < count) l.2 c.0,
        subst (λ (k : ℕ). LeadsOut B E x (firsts k)) l.2 (
          c.1,
          record {
            from = d.from;
            between = d.between;
            to = d.to;
            leaves = d.leaves;
            arrives = Mutual-trans E (firsts (index_at labels indexes l.0)) l.0 d.to c.2 d.arrives;
            walk = d.walk;
            plain = between_as (IsOpen labels indexes) (IsPlainClass B E) (λ v vl h. (fs.plain v vl).0 h) d.from d.to d.between d.walk d.plain;
          },
        ),
      )

  in_named : (x b : ℕ) → x < length nodes → IsOpen labels indexes x → LeadsOut B E x b → ComesOut edges labels indexes x (index_at labels indexes b)
  in_named x b lt o t =
      let f = fs.first b t.0 in
      let d = t.1 in
      (open_leaves nodes edges labels indexes part cl x (index_at labels indexes b) lt o).1
      (leaves_from_leads nodes edges labels indexes part cl x b lt f.0 f.1 (λ m. (fs.plain x lt).0 o b t.0.member m) record {
        from = d.from;
        between = d.between;
        to = d.to;
        leaves = d.leaves;
        arrives = d.arrives;
        walk = d.walk;
        plain = between_as (IsPlainClass B E) (IsOpen labels indexes) (λ v vl h. (fs.plain v vl).1 h) d.from d.to d.between d.walk d.plain;
      })

  pub count_out : (many n x : ℕ) → x < length nodes → IsOpen labels indexes x → IsCount (ComesOut edges labels indexes x) many n → IsCount (LeadsOut B E x) many n
  count_out many n x lt o c = record {
    named = map firsts c.named;
    rise = rises_map firsts c.named (λ i j a b. fs.rise i j (out_of x i lt o (All-contains (ComesOut edges labels indexes x) c.named i c.hold a)).0
        (out_of x j lt o (All-contains (ComesOut edges labels indexes x) c.named j c.hold b)).0) c.rise;
    hold = All-map (LeadsOut B E x) firsts c.named (λ k d h. (out_of x (get_or c.named k d) lt o (c.hold k d h)).1);
    least = omega (arith, c.least, length-map c.named firsts);
    most = λ few. omega (arith, c.most few, length-map c.named firsts);
    whole = λ few b t. subst (λ (k : ℕ). Contains (map firsts c.named) k) (fs.first b t.0).2
        (Contains-map firsts c.named (index_at labels indexes b) (c.whole few (index_at labels indexes b) (in_named x b lt o t)));
  }

  -- what comes in is what components lead in
  from_in : (x j : ℕ) → x < length nodes → IsOpen labels indexes x → ComesIn edges labels indexes x j → (j < count) × LeadsIn B E x (firsts j)
  from_in x j lt o t =
      let u : ℕ = t.0 in
      let ul : u < length nodes = omega (arith, leads_from edges u t.1 t.4, part.rows) in
      let c = fs.closed u ul t.2 in
      let w = walk_between nodes edges labels indexes part cl u t.1 x t.5.rows t.4 t.5.walk in (
        subst (λ (k : ℕ). k < count) t.3 c.0,
        subst (λ (k : ℕ). LeadsIn B E x (firsts k)) t.3 (
          c.1,
          record {
            from = u;
            between = w.0;
            to = x;
            leaves = c.2;
            arrives = Mutual-self E x;
            walk = w.1;
            plain = between_as (IsOpen labels indexes) (IsPlainClass B E) (λ v vl h. (fs.plain v vl).0 h) u x w.0 w.1 w.2;
          },
        ),
      )

  passes_on : (from to x : ℕ) (zs : List ℕ) → Walks E from (zs ++ to ∷ []) to → All (IsOpen labels indexes) zs → Reaches (Passes edges labels indexes) to x
      → (v : ℕ) × E from v × Reaches (Passes edges labels indexes) v x
  passes_on from to x [] w a r = (to, w.0, r)
  passes_on from to x (z ∷ zs) w a r =
      let rest = passes_on z to x zs w.1 (All-tail (IsOpen labels indexes) z zs a) r in
      (z, w.0, Reaches-trans (Passes edges labels indexes) z rest.0 x (Reaches-edge (Passes edges labels indexes) z rest.0 (All-head (IsOpen labels indexes) z zs a, rest.1)) rest.2)

  to_in : (x b : ℕ) → x < length nodes → IsOpen labels indexes x → LeadsIn B E x b → ComesIn edges labels indexes x (index_at labels indexes b)
  to_in x b lt o t =
      let f = fs.first b t.0 in
      let d = t.1 in
      let fl : d.from < length nodes = Reaches-keeps E (λ v. v < length nodes) (λ u v e q. part.in_range u v e) b d.from d.leaves.there f.0 in
      let tl : d.to < length nodes = Reaches-keeps E (λ v. v < length nodes) (λ u v e q. part.in_range u v e) x d.to d.arrives.there lt in
      let same : get_or labels b 0 ≡ get_or labels d.from 0 = (cl.exact b d.from f.0 fl).1 d.leaves in
      let end : get_or labels x 0 ≡ get_or labels d.to 0 = (cl.exact x d.to lt tl).1 d.arrives in
      let on = inside nodes edges labels indexes part cl d.to x tl lt (open_of nodes edges labels indexes part cl x d.to end o) (sym end) in
      let opens = between_as (IsPlainClass B E) (IsOpen labels indexes) (λ v vl h. (fs.plain v vl).1 h) d.from d.to d.between d.walk d.plain in
      let r = passes_on d.from d.to x d.between d.walk opens on in
      (d.from, r.0, (λ z. f.1 (open_of nodes edges labels indexes part cl d.from b (sym same) z)), ap (λ (l : ℕ). get_or indexes l 0) (sym same), r.1, r.2)

  pub count_in : (many n x : ℕ) → x < length nodes → IsOpen labels indexes x → IsCount (ComesIn edges labels indexes x) many n → IsCount (LeadsIn B E x) many n
  count_in many n x lt o c = record {
    named = map firsts c.named;
    rise = rises_map firsts c.named (λ i j a b. fs.rise i j (from_in x i lt o (All-contains (ComesIn edges labels indexes x) c.named i c.hold a)).0
        (from_in x j lt o (All-contains (ComesIn edges labels indexes x) c.named j c.hold b)).0) c.rise;
    hold = All-map (LeadsIn B E x) firsts c.named (λ k d h. (from_in x (get_or c.named k d) lt o (c.hold k d h)).1);
    least = omega (arith, c.least, length-map c.named firsts);
    most = λ few. omega (arith, c.most few, length-map c.named firsts);
    whole = λ few b t. subst (λ (k : ℕ). Contains (map firsts c.named) k) (fs.first b t.0).2
        (Contains-map firsts c.named (index_at labels indexes b) (c.whole few (index_at labels indexes b) (to_in x b lt o t)));
  }
