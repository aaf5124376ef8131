-- A graph whose edges are a list of pairs has finitely many nodes, so its components are computed.
use Rattle.std.proofs.Common.{◌≡◌, ℕ, Bool, true, ◌&&◌, List, map, filter, refl, sym, subst, nat_eq}
use Rattle.std.specs.List.{Contains, list_all}
use Rattle.joint_machine.specs.Components.{IsContraction}
use Rattle.joint_machine.proofs.Members.{Contains-map, Contains-map_cases}
use Rattle.computed_histories.specs.Contractions.{Listed, is_contraction}
use Rattle.computed_histories.specs.Lists.{mem, has, pair_eq}
use Rattle.computed_histories.proofs.ContractionTests.{IsListed, contraction}
use Rattle.computed_histories.proofs.Reaching.{all_in, member, member_filter}
use Rattle.computed_histories.proofs.Telling.{Tells, like, and2, same, same_pair}
use Rattle.worked_histories.specs.Graphs.{HasEdge}

-- where a list of pairs leads from a number
abbrev pub pairs_next : List (ℕ × ℕ) → ℕ → List ℕ
pairs_next pairs x = map (λ (p : ℕ × ℕ). p.1) (filter (λ (p : ℕ × ℕ). nat_eq x p.0) pairs)

listed_pair : (pairs : List (ℕ × ℕ)) (x y : ℕ) → Tells (mem nat_eq (pairs_next pairs x) y) (Contains pairs (x, y))
listed_pair pairs x y = like {P = Contains (pairs_next pairs x) y}
    (λ c. let r = Contains-map_cases (λ (p : ℕ × ℕ). p.1) (filter (λ (p : ℕ × ℕ). nat_eq x p.0) pairs) y c in from r.0 r.1 r.2)
    (λ c. Contains-map (λ (p : ℕ × ℕ). p.1) (filter (λ (p : ℕ × ℕ). nat_eq x p.0) pairs) (x, y)
    ((member pair_eq same_pair (filter (λ (p : ℕ × ℕ). nat_eq x p.0) pairs) (x, y)).holds
    ((member_filter pair_eq same_pair (λ (p : ℕ × ℕ). nat_eq x p.0) pairs (x, y)).passes ((member pair_eq same_pair pairs (x, y)).passes c, (same x x).passes refl))))
    (member nat_eq same (pairs_next pairs x) y)
  where
    from : (p : ℕ × ℕ) → Contains (filter (λ (p : ℕ × ℕ). nat_eq x p.0) pairs) p → p.1 ≡ y → Contains pairs (x, y)
    from p c e =
        let f = (member_filter pair_eq same_pair (λ (p : ℕ × ℕ). nat_eq x p.0) pairs p).holds ((member pair_eq same_pair (filter (λ (p : ℕ × ℕ). nat_eq x p.0) pairs) p).passes c) in
        let q : p ≡ (x, y) = (λ i. (sym ((same x p.0).holds f.1) i, e i)) in
        subst (Contains pairs) q ((member pair_eq same_pair pairs p).holds f.0)

abbrev pub pair_graph : List (ℕ × ℕ) → List ℕ → List ℕ → Listed
pair_graph edges nodes bridges = record { next = pairs_next edges; nodes = nodes; bridges = bridges }

-- whether each edge's ends, and each bridge node, are nodes
abbrev pub has_ends : List (ℕ × ℕ) → List ℕ → List ℕ → Bool
has_ends edges nodes bridges = list_all (λ (p : ℕ × ℕ). has nodes p.0 && has nodes p.1) edges && list_all (has nodes) bridges

ends : (edges : List (ℕ × ℕ)) (nodes bridges : List ℕ) → Tells (has_ends edges nodes bridges)
    (((p : ℕ × ℕ) → Contains edges p → Contains nodes p.0 × Contains nodes p.1) × ((x : ℕ) → Contains bridges x → has nodes x ≡ true))
ends edges nodes bridges = and2
    (all_in edges (λ (p : ℕ × ℕ). has nodes p.0 && has nodes p.1) (λ p. Contains nodes p.0 × Contains nodes p.1) (λ p. and2 (member nat_eq same nodes p.0) (member nat_eq same nodes p.1)))
    (all_in bridges (has nodes) (λ x. has nodes x ≡ true) (λ x. record { holds = λ e. e; passes = λ e. e }))

pub pair_listed : (edges : List (ℕ × ℕ)) (nodes bridges : List ℕ) → has_ends edges nodes bridges ≡ true → IsListed (Contains bridges) (HasEdge edges) (pair_graph edges nodes bridges)
pair_listed edges nodes bridges e = record {
  edges = listed_pair edges;
  sources = λ x y c. (((ends edges nodes bridges).holds e).0 (x, y) c).0;
  targets = λ x y c. (((ends edges nodes bridges).holds e).0 (x, y) c).1;
  picks = member nat_eq same bridges;
  inside = ((ends edges nodes bridges).holds e).1;
}

pub pair_contraction : (edges : List (ℕ × ℕ)) (nodes bridges : List ℕ) → has_ends edges nodes bridges ≡ true → (comps : List (List ℕ)) (heavy : List ℕ) (xrefs : List (ℕ × ℕ))
    → Tells (is_contraction (pair_graph edges nodes bridges) comps heavy xrefs) (IsContraction (Contains bridges) (HasEdge edges) comps heavy xrefs)
pair_contraction edges nodes bridges e comps heavy xrefs = contraction (Contains bridges) (HasEdge edges) (pair_graph edges nodes bridges) (pair_listed edges nodes bridges e) comps heavy xrefs
