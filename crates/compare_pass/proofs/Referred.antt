-- What the search of a reported class comes to, and doesn't go on from, is what it refers to.
use Rattle.std.proofs.Common.{◌≡◌, ◌↔◌, ℕ, ◌+◌, ◌<◌, List, [], ◌++◌, length, map, get_or, sym, ◌∙◌, ap, subst, arith, inl, inr}
use Rattle.std.specs.Prelude.{Contains}
use Rattle.std.proofs.lemmas.Bool.{cases_lt}
use Rattle.std.proofs.lemmas.List.Elements.{Contains-append_left, Contains-append_right, Contains-append_cases}
use Rattle.joint_machine.specs.Walks.{Mutual}
use Rattle.joint_machine.specs.Components.{IsCrossReference, IsUnreported}
use Rattle.joint_machine.proofs.Members.{Contains-nil, Contains-map, Contains-map_cases}
use Rattle.joint_machine.proofs.WalkLemmas.{Mutual-trans, Reaches-keeps}
use Rattle.bridge_graph.specs.Parts.{NodeLeads}
use Rattle.compare_pass.specs.Classes.{AreClasses}
use Rattle.compare_pass.specs.Listing.{AreNumbered}
use Rattle.compare_pass.specs.Referring.{AreDestinations, AreReferencesBelow, ComesTo}
use Rattle.compare_pass.specs.Searching.{Goes, index_at, no_index}
use Rattle.compare_pass.proofs.Crossing.{leads-comes, comes-leads, comes-below, in_range}

module _ (B : ℕ → Type 0) (edges : List (List ℕ)) (count : ℕ) (labels indexes stands : List ℕ) (few : length stands < 4294967295) (within : (u v : ℕ) → NodeLeads edges u v → v < count)
    (classes : AreClasses edges count labels) (a : AreNumbered count labels indexes stands)
    (bare : (x : ℕ) → x < count → (index_at labels indexes x ≡ no_index) ↔ IsUnreported B (NodeLeads edges) x) where
  abbrev E : ℕ → ℕ → Type 0
  E = NodeLeads edges

  pub comes-crosses : (i j : ℕ) → i < length stands → ComesTo edges labels indexes (get_or stands i 0) j ↔ ((j < length stands) × IsCrossReference B E (get_or stands i 0) (get_or stands j 0))
  comes-crosses i j il =
      let x : ℕ = get_or stands i 0 in
      let xl = (a.stand i il).0 in (
        (λ c.
            let yl = comes-below edges count labels indexes (IsUnreported B E) within classes bare x c.0 xl c.1 in
            let t = a.index c.0 yl (λ e. c.2 (inr e)) in
            let jl : j < length stands = omega (arith, t.0, c.3) in
            let s : ℕ = get_or stands j 0 in
            let is : get_or labels s 0 ≡ get_or labels c.0 0 = ap (λ k. get_or labels (get_or stands k 0) 0) (sym c.3) ∙ t.1 in
            let m : Mutual E s c.0 = (classes.exact s c.0 (a.stand j jl).0 yl).0 is in
            let far : Mutual E x c.0 → ⊥ = (λ r. c.2 (inl (sym ((classes.exact x c.0 xl yl).1 r)))) in
            (jl, record { apart = λ r. far (Mutual-trans E x s c.0 r m); leads = comes-leads edges count labels indexes (IsUnreported B E) within classes bare x c.0 s xl c.1 far m })),
        (λ t.
            let jl = t.0 in
            let s : ℕ = get_or stands j 0 in
            let st = a.stand j jl in
            let to = t.1.leads.to in
            let tl = in_range edges count labels indexes (IsUnreported B E) within classes bare s to st.0 t.1.leads.arrives.there in
            let same : get_or labels s 0 ≡ get_or labels to 0 = (classes.exact s to st.0 tl).1 t.1.leads.arrives in
            let at : index_at labels indexes to ≡ j = ap (λ k. get_or indexes k 0) (sym same) ∙ st.1 in (
              to,
              leads-comes edges count labels indexes (IsUnreported B E) within classes bare x s xl t.1.leads,
              (λ o. elim o [
                | inl e ↦ t.1.apart ((classes.exact x s xl st.0).0 (sym e ∙ sym same))
                | inr e ↦ omega (arith, e, at, jl, few)
              ]),
              at,
            )),
      )

-- the pairs of one class more
pub refers-none : (edges : List (List ℕ)) (labels indexes stands : List ℕ) → AreReferencesBelow edges labels indexes stands 0 []
refers-none edges labels indexes stands = record { exact = λ i j. ((λ c. absurd (Contains-nil (i, j) c)), (λ t. absurd (omega (arith, t.0)))) }

pub refers-more : (edges : List (List ℕ)) (labels indexes stands : List ℕ) (n : ℕ) (pairs : List (ℕ × ℕ)) (outs : List ℕ) → AreDestinations edges labels indexes (get_or stands n 0) outs
    → AreReferencesBelow edges labels indexes stands n pairs → AreReferencesBelow edges labels indexes stands (n + 1) (pairs ++ map (λ d. (n, d)) outs)
refers-more edges labels indexes stands n pairs outs d a = record {
  exact = λ i j. (
    (λ c. elim (Contains-append_cases pairs (map (λ d. (n, d)) outs) (i, j) c) [
      | inl o ↦ let t = (a.exact i j).0 o in (omega (arith, t.0), t.1)
      | inr m ↦
          let r = Contains-map_cases (λ (d : ℕ). (n, d)) outs (i, j) m in
          let is : n ≡ i = ap (λ (p : ℕ × ℕ). p.0) r.2 in
          let at : r.0 ≡ j = ap (λ (p : ℕ × ℕ). p.1) r.2 in
          (omega (arith, is), subst (λ k. ComesTo edges labels indexes (get_or stands k 0) j) is (subst (λ k. ComesTo edges labels indexes (get_or stands n 0) k) at ((d.exact r.0).0 r.1)))
    ]),
    (λ t. elim (cases_lt i n) [
      | inl l ↦ Contains-append_left pairs (map (λ d. (n, d)) outs) (i, j) ((a.exact i j).1 (l, t.1))
      | inr ge ↦
          let is : i ≡ n = omega (arith, t.0, ge) in
          let has : Contains outs j = (d.exact j).1 (subst (λ k. ComesTo edges labels indexes (get_or stands k 0) j) is t.1) in
          Contains-append_right pairs (map (λ d. (n, d)) outs) (i, j) (subst (λ k. Contains {X = ℕ × ℕ} (map (λ (d : ℕ). (n, d)) outs) (k, j)) (sym is) (Contains-map (λ (d : ℕ). (n, d)) outs j has))
    ]),
  );
}

pub refers-fresh : (edges : List (List ℕ)) (labels indexes stands : List ℕ) (n : ℕ) (pairs : List (ℕ × ℕ))
    → AreReferencesBelow edges labels indexes stands n pairs → (p : ℕ × ℕ) → Contains pairs p → p.0 < n
refers-fresh edges labels indexes stands n pairs a p c = ((a.exact p.0 p.1).0 c).0

-- what a class refers to is reported, and another one
pub refers-below : (edges : List (List ℕ)) (count : ℕ) (labels indexes stands : List ℕ) (x j : ℕ) → ((u v : ℕ) → NodeLeads edges u v → v < count) → x < count → AreNumbered count labels indexes stands
    → ComesTo edges labels indexes x j → j < length stands
refers-below edges count labels indexes stands x j within lt a c =
    let yl : c.0 < count = Reaches-keeps (Goes edges labels indexes (get_or labels x 0)) (λ v. v < count) (λ u v e q. within u v e.1) x c.0 c.1 lt in
    let t = a.index c.0 yl (λ e. c.2 (inr e)) in
    omega (arith, t.0, c.3)

pub refers-apart : (edges : List (List ℕ)) (count : ℕ) (labels indexes stands : List ℕ) (i j : ℕ)
    → ((u v : ℕ) → NodeLeads edges u v → v < count) → i < length stands → AreNumbered count labels indexes stands
    → ComesTo edges labels indexes (get_or stands i 0) j → i ≡ j → ⊥
refers-apart edges count labels indexes stands i j within il a c e =
    let s = a.stand i il in
    let yl : c.0 < count = Reaches-keeps (Goes edges labels indexes (get_or labels (get_or stands i 0) 0)) (λ v. v < count) (λ u v h q. within u v h.1) (get_or stands i 0) c.0 c.1 s.0 in
    let t = a.index c.0 yl (λ n. c.2 (inr n)) in
    c.2 (inl (sym t.1 ∙ ap (λ k. get_or labels (get_or stands k 0) 0) (c.3 ∙ sym e)))
