-- The sets kept for what is reported, listed as pairs source by source.
use Rattle.std.proofs.Common.{◌≡◌, ◌≢◌, ◌↔◌, ℕ, ◌+◌, ◌<◌, ◌≤◌, List, [], ◌++◌, length, map, get_or, refl, sym, ◌∙◌, ap, subst, arith, inl, inr}
use Rattle.std.proofs.lemmas.List.{length-map, get_or-map}
use Rattle.std.proofs.lemmas.List.Elements.{Contains-get_or, Contains-append_left, Contains-append_right, Contains-append_cases}
use Rattle.std.proofs.lemmas.Bool.{cases_lt}
use Rattle.std.specs.List.{All, Contains}
use Rattle.joint_machine.specs.Components.{Rises}
use Rattle.bridge_graph.specs.declared.graph.Node.{Node}
use Rattle.bridge_graph.specs.Parts.{IsPart}
use Rattle.component_pass.specs.Classes.{AreClasses, AreInOrder}
use Rattle.component_pass.specs.Gathering.{set_at}
use Rattle.component_pass.specs.Sharing.{index_at, IsOpen, Leaves, AreListedBelow, AreNumbered, AreReferences, AreReferred}
use Rattle.component_pass.proofs.Leaving.{leads_from_leaves}
use Rattle.component_pass.proofs.Sets.{set-rises}

pub listed-begin : (set : ℕ → List ℕ) → AreListedBelow set 0 []
listed-begin set = record { exact = λ i j. ((λ c. absurd (omega (arith, c.1))), (λ t. absurd (omega (arith, t.0)))) }

from_source : (s i j : ℕ) (outs : List ℕ) → Contains (map (λ (d : ℕ). let r : ℕ × ℕ = (s, d) in r) outs) (i, j) → (i ≡ s) × Contains outs j
from_source s i j outs c =
    let d : ℕ × ℕ = (i, j) in
    let lt : c.0 < length outs = omega (arith, c.1, length-map outs (λ (d : ℕ). let r : ℕ × ℕ = (s, d) in r)) in
    let e : (s, get_or outs c.0 j) ≡ d = sym (get_or-map (λ (d : ℕ). let r : ℕ × ℕ = (s, d) in r) outs c.0 j d lt) ∙ c.2 in
    (sym (ap (λ (r : ℕ × ℕ). r.0) e), (c.0, lt, ap (λ (r : ℕ × ℕ). r.1) e))

to_pair : (s j : ℕ) (outs : List ℕ) → Contains outs j → Contains (map (λ (d : ℕ). let r : ℕ × ℕ = (s, d) in r) outs) (s, j)
to_pair s j outs c =
    let d : ℕ × ℕ = (s, j) in (
      c.0,
      omega (arith, c.1, length-map outs (λ (d : ℕ). let r : ℕ × ℕ = (s, d) in r)),
      get_or-map (λ (d : ℕ). let r : ℕ × ℕ = (s, d) in r) outs c.0 j d c.1 ∙ ap (λ (z : ℕ). let r : ℕ × ℕ = (s, z) in r) c.2,
    )

pub listed-next : (set : ℕ → List ℕ) (n : ℕ) (pairs : List (ℕ × ℕ)) → AreListedBelow set n pairs → AreListedBelow set (n + 1) (pairs ++ map (λ (d : ℕ). let r : ℕ × ℕ = (n, d) in r) (set n))
listed-next set n pairs h =
    let more = map (λ (d : ℕ). let r : ℕ × ℕ = (n, d) in r) (set n) in
    record {
      exact = λ i j.
          let p : ℕ × ℕ = (i, j) in (
            (λ c. elim (Contains-append_cases pairs more p c) [
              | inl l ↦ let t = (h.exact i j).0 l in (omega (arith, t.0), t.1)
              | inr r ↦ let q = from_source n i j (set n) r in (omega (arith, q.0), subst (λ (k : ℕ). Contains (set k) j) (sym q.0) q.1)
            ]),
            (λ t. elim (cases_lt i n) [
              | inl l ↦ Contains-append_left pairs more p ((h.exact i j).1 (l, t.1))
              | inr ge ↦
                  let is : i ≡ n = omega (arith, ge, t.0) in
                  subst (λ (k : ℕ). let r : ℕ × ℕ = (k, j) in Contains (pairs ++ more) r) (sym is)
                  (Contains-append_right pairs more (n, j) (to_pair n j (set n) (subst (λ (k : ℕ). Contains (set k) j) is t.1)))
            ]),
          );
    }

pub listed-fresh : (set : ℕ → List ℕ) (n : ℕ) (pairs : List (ℕ × ℕ)) → AreListedBelow set n pairs → All (λ p. p.0 < n) pairs
listed-fresh set n pairs h = λ k d lt. let p : ℕ × ℕ = get_or pairs k d in ((h.exact p.0 p.1).0 (Contains-get_or pairs k d lt)).0

module _ (nodes : List Node) (edges : List (List ℕ)) (labels indexes : List ℕ) (rows : List (List ℕ)) (count : ℕ) (refs : List ℕ) (lists : List (List ℕ))
    (part : IsPart nodes edges) (cl : AreClasses edges (length nodes) labels) (o : AreInOrder edges (length nodes) labels rows)
    (few : count ≤ 4294967294) (num : AreNumbered (length nodes) labels (length rows) indexes count)
    (r : AreReferred (length nodes) edges labels indexes count (length rows) (count + length lists) refs lists) where
  abbrev set_for : ℕ → List ℕ
  set_for i = set_at count lists (get_or refs i 0)

  closed_at : (x i : ℕ) → i < count → index_at labels indexes x ≡ i → IsOpen labels indexes x → ⊥
  closed_at x i lt e z = omega (arith, lt, few, e, z)

  pub set-known : (i : ℕ) → i < count → get_or refs i 0 < count + length lists
  set-known i lt =
      let x = num.onto i lt in
      subst (λ (k : ℕ). get_or refs k 0 < count + length lists) x.2 (r.known x.0 x.1 (closed_at x.0 i lt x.2) (o.labelled x.0 x.1))

  pub set-leaves : (x i j : ℕ) → x < length nodes → i < count → index_at labels indexes x ≡ i → Contains (set_for i) j ↔ Leaves edges (length nodes) labels indexes (get_or labels x 0) j
  set-leaves x i j lt il e =
      subst (λ (k : ℕ). Contains (set_for k) j ↔ Leaves edges (length nodes) labels indexes (get_or labels x 0) j) e (r.exact x j lt (closed_at x i il e) (o.labelled x lt))

  set-ends : (i j : ℕ) → i < count → Contains (set_for i) j → (j < count) × (i ≡ j → ⊥)
  set-ends i j lt c =
      let x = num.onto i lt in
      let l = leads_from_leaves nodes edges labels indexes part cl x.0 j x.1 ((set-leaves x.0 i j x.1 lt x.2).0 c) in
      let y : ℕ = l.0 in
      let yc : get_or indexes (get_or labels y 0) 0 ≢ 4294967295 = l.3 in (
        omega (arith, num.below (get_or labels y 0) (o.labelled y l.1) yc, l.2),
        λ e. l.4 ((cl.exact x.0 y x.1 l.1).0 (num.apart (get_or labels x.0 0) (get_or labels y 0) (o.labelled x.0 x.1) (o.labelled y l.1) (closed_at x.0 i lt x.2) (x.2 ∙ e ∙ sym l.2))),
      )

  pub set-below : (i : ℕ) → i < count → All (λ d. d < count) (set_for i)
  set-below i lt = λ k d h. (set-ends i (get_or (set_for i) k d) lt (Contains-get_or (set_for i) k d h)).0

  pub set-apart : (i : ℕ) → i < count → All (λ d. i ≢ d) (set_for i)
  set-apart i lt = λ k d h. (set-ends i (get_or (set_for i) k d) lt (Contains-get_or (set_for i) k d h)).1

  pub set-rising : (i : ℕ) → i < count → All Rises lists → Rises (set_for i)
  set-rising i lt a = set-rises lists count (get_or refs i 0) a (set-known i lt)

  pub references-of : (pairs : List (ℕ × ℕ)) (n : ℕ) → count ≤ n → n ≤ count → AreListedBelow set_for n pairs → AreReferences edges (length nodes) labels indexes count pairs
  references-of pairs n le ge h = record {
    sources = λ i j c. omega (arith, ((h.exact i j).0 c).0, ge);
    exact = λ x j lt closed.
        let i : ℕ = index_at labels indexes x in
        let il : i < count = num.below (get_or labels x 0) (o.labelled x lt) closed in
        let e = h.exact i j in
        let l = set-leaves x i j lt il refl in (
          (λ c. l.0 (e.0 c).1),
          (λ t. e.1 (omega (arith, il, le), l.1 t)),
        );
  }
