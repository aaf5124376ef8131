-- Components, heavy classes and references, each listed exactly, are the contraction.
use Rattle.std.proofs.Common.{◌≡◌, ◌↔◌, ℕ, ◌+◌, ◌<◌, ◌≤◌, List, [], ◌∷◌, ◌++◌, length, get_or, sym, ◌∙◌, ap, arith}
use Rattle.std.specs.Prelude.{Contains}
use Rattle.std.specs.List.Sorted.{IsPermutation}
use Rattle.std.proofs.lemmas.List.{length-append, length-map}
use Rattle.std.proofs.lemmas.List.Elements.{All-contains}
use Rattle.std.proofs.lemmas.List.Sorted.{Contains-permutation, IsPermutation-sym}
use Rattle.joint_machine.specs.Walks.{Walks}
use Rattle.joint_machine.specs.Components.{IsHeavy, IsPlainClass, IsUnreported, IsCanonical, IsContraction, first_of, stand_at}
use Rattle.joint_machine.proofs.WalkLemmas.{Reaches-keeps}
use Rattle.bridge_graph.specs.declared.graph.Node.{Node}
use Rattle.bridge_graph.specs.Parts.{IsBridgeNode, IsPart, NodeLeads}
use Rattle.compare_pass.specs.Classes.{AreClasses}
use Rattle.compare_pass.specs.Listing.{AreHeavyBelow, AreListed}
use Rattle.compare_pass.specs.Referring.{AreReferencesBelow}
use Rattle.compare_pass.specs.Searching.{index_at, no_index}
use Rattle.compare_pass.proofs.Components.{bridge-below, listed-members, listed-together}
use Rattle.compare_pass.proofs.Heavies.{plain-index}
use Rattle.compare_pass.proofs.HeavyList.{heavy-exact, unreported}
use Rattle.compare_pass.proofs.Referred.{comes-crosses}

last-below : (E : ℕ → ℕ → Type 0) (count : ℕ) → ((u v : ℕ) → E u v → v < count) → (from : ℕ) (zs : List ℕ) (to : ℕ) → Walks E from (zs ++ to ∷ []) to → to < count
last-below E count within from [] to w = within from to w.0
last-below E count within from (z ∷ zs) to w = last-below E count within z zs to w.1

-- a heavy class is one of nodes
pub heavy-below : (B : ℕ → Type 0) (E : ℕ → ℕ → Type 0) (count : ℕ) → ((u v : ℕ) → E u v → v < count) → (x : ℕ) → IsHeavy B E x → x < count
heavy-below B E count within x h =
    let l = (h.lead_in 0 0 (omega (arith, h.some_in))).1 in
    Reaches-keeps E (λ v. v < count) (λ u v e q. within u v e) l.to x l.arrives.back (last-below E count within l.from l.between l.to l.walk)

module _ (nodes : List Node) (edges : List (List ℕ)) (labels : List ℕ) (comps : List (List ℕ)) (before firsts after heavy : List ℕ) (pairs ordered : List (ℕ × ℕ))
    (few : length comps + length heavy ≤ 4294967294) (part : IsPart nodes edges) (classes : AreClasses edges (length nodes) labels)
    (listed : AreListed nodes labels (length nodes) comps before firsts) (h : AreHeavyBelow (IsBridgeNode nodes) (NodeLeads edges) (length nodes) labels before firsts (length nodes) after heavy)
    (refs : AreReferencesBelow edges labels after (firsts ++ heavy) (length (firsts ++ heavy)) pairs) where
  abbrev B : ℕ → Type 0
  B = IsBridgeNode nodes

  abbrev E : ℕ → ℕ → Type 0
  E = NodeLeads edges

  sizes : length firsts ≡ length comps
  sizes = sym (ap length listed.firsts) ∙ length-map comps first_of

  all : length (firsts ++ heavy) ≡ length comps + length heavy
  all = length-append firsts heavy ∙ ap (λ n. n + length heavy) sizes

  bare-plain : (x : ℕ) → x < length nodes → (index_at labels before x ≡ no_index) ↔ IsPlainClass B E x
  bare-plain = plain-index nodes edges labels comps before firsts (omega (arith, few, sizes)) part classes listed

  first : (b : ℕ) → Contains firsts b → (b < length nodes) × B b
  first b c = let t = All-contains B firsts b listed.bridges c in (bridge-below nodes b t, t)

  bare-unreported : (x : ℕ) → x < length nodes → (index_at labels after x ≡ no_index) ↔ IsUnreported B E x
  bare-unreported = unreported B edges E (length nodes) labels before firsts after heavy classes.exact first bare-plain (heavy-below B E (length nodes) part.in_range) h

  stand-is : (i : ℕ) → stand_at comps heavy i ≡ get_or (firsts ++ heavy) i 0
  stand-is i = ap (λ xs. get_or (xs ++ heavy) i 0) listed.firsts

  pub contracted : IsPermutation pairs ordered → IsCanonical comps ordered → IsContraction B E comps heavy ordered
  contracted perm canonical = record {
    canonical = canonical;
    members = listed-members nodes edges labels comps before firsts (omega (arith, few, sizes)) classes listed;
    together = listed-together nodes edges labels comps before firsts (omega (arith, few, sizes)) classes listed;
    heavy_rise = h.rise;
    heavies = heavy-exact B edges E (length nodes) labels before firsts after heavy classes.exact first bare-plain (heavy-below B E (length nodes) part.in_range) h;
    references = λ i j. (
      (λ c.
          let t = (refs.exact i j).0 (Contains-permutation ordered pairs (i, j) (IsPermutation-sym pairs ordered perm) c) in
          let r = (comes-crosses B edges (length nodes) labels after (firsts ++ heavy) (omega (arith, all, few)) part.in_range classes h.numbered bare-unreported i j t.0).0 t.1 in
          (omega (arith, t.0, all), omega (arith, r.0, all), rw (stand-is i, stand-is j) r.1)),
      (λ t.
          let il : i < length (firsts ++ heavy) = omega (arith, t.0, all) in
          let jl : j < length (firsts ++ heavy) = omega (arith, t.1, all) in
          let r = (comes-crosses B edges (length nodes) labels after (firsts ++ heavy) (omega (arith, all, few)) part.in_range classes h.numbered bare-unreported i j il).1
          (jl, rw (stand-is i, stand-is j) at t.2) in
          Contains-permutation pairs ordered (i, j) perm ((refs.exact i j).1 (il, r))),
    );
  }
