-- Going through the nodes in order, the first node of a heavy class is its least. In the end what has no index isn't
-- reported.
use Rattle.std.proofs.Common.{◌≡◌, ◌≢◌, ◌↔◌, ◌⊎◌, ℕ, ◌+◌, ◌<◌, List, [], ◌∷◌, ◌++◌, length, get_or, set, sym, ◌∙◌, ap, subst, arith, inl, inr, append-nil, append_assoc}
use Rattle.std.specs.Prelude.{Contains}
use Rattle.std.proofs.lemmas.Bool.{cases_lt, cases_eq}
use Rattle.std.proofs.lemmas.List.{length-append}
use Rattle.std.proofs.lemmas.List.Elements.{All-nil, All-push, All-weaker, All-contains, Contains-get_or, Contains-append_cases}
use Rattle.joint_machine.specs.Walks.{Mutual}
use Rattle.joint_machine.specs.Components.{IsHeavy, IsLeast, IsUnreported, IsPlainClass}
use Rattle.joint_machine.proofs.Members.{Rises-push}
use Rattle.joint_machine.proofs.WalkLemmas.{Mutual-sym}
use Rattle.compare_pass.specs.Listing.{AreHeavyBelow, AreNumbered}
use Rattle.compare_pass.specs.Searching.{index_at, no_index}
use Rattle.compare_pass.proofs.Heavies.{heavy-class}
use Rattle.compare_pass.proofs.Numbering.{numbered-more, put-kept, put-here, put-index}

module _ (B : ℕ → Type 0) (E : ℕ → ℕ → Type 0) (count : ℕ) (labels before firsts : List ℕ) where
  pub heavy-none : AreNumbered count labels before firsts → AreHeavyBelow B E count labels before firsts 0 before []
  heavy-none a = record {
    numbered = rw (append-nil firsts) a;
    still = λ y e. e;
    rise = tt;
    below = All-nil (λ h. h < 0);
    each = All-nil (λ h. IsHeavy B E h × IsLeast E h);
    every = λ y l. absurd (omega (arith, l));
  }

  -- a node of no heavy class, or of one that is listed
  pub heavy-skip : (x : ℕ) (indexes heavy : List ℕ) → (index_at labels indexes x ≡ 4294967295 → IsHeavy B E x → ⊥)
      → AreHeavyBelow B E count labels before firsts x indexes heavy → AreHeavyBelow B E count labels before firsts (x + 1) indexes heavy
  heavy-skip x indexes heavy n a = record {
    numbered = a.numbered;
    still = a.still;
    rise = a.rise;
    below = All-weaker (λ h. h < x) (λ h. h < x + 1) (λ h l. omega (arith, l)) heavy a.below;
    each = a.each;
    every = λ y l h. elim (cases_lt y x) [
      | inl yl ↦ a.every y yl h
      | inr ge ↦ (let is : y ≡ x = omega (arith, l, ge) in λ e. n (subst (λ z. index_at labels indexes z ≡ 4294967295) is e) (subst (λ z. IsHeavy B E z) is h))
    ];
  }

  -- one of a heavy class that isn't listed is its least
  pub heavy-more : (x : ℕ) (indexes heavy : List ℕ) → x < count → get_or labels x 0 < count → index_at labels indexes x ≡ 4294967295 → IsHeavy B E x → length firsts + length heavy < 4294967295
      → ((y : ℕ) → y < count → Mutual E x y → get_or labels y 0 ≡ get_or labels x 0)
      → AreHeavyBelow B E count labels before firsts x indexes heavy
      → AreHeavyBelow B E count labels before firsts (x + 1) (set indexes (get_or labels x 0) (length firsts + length heavy)) (heavy ++ x ∷ [])
  heavy-more x indexes heavy lt small none h few same a =
      let n = length firsts + length heavy in
      let len : length (firsts ++ heavy) ≡ n = length-append firsts heavy in
      let ll : get_or labels x 0 < length indexes = omega (arith, small, a.numbered.size) in
      let no : n ≢ 4294967295 = (λ e. omega (arith, e, few)) in
      let more = numbered-more count labels indexes (firsts ++ heavy) x lt small none (omega (arith, len, few)) a.numbered in
      record {
        numbered = subst (λ xs. AreNumbered count labels (set indexes (get_or labels x 0) n) xs) (append_assoc firsts heavy (x ∷ []))
            (subst (λ k. AreNumbered count labels (set indexes (get_or labels x 0) k) ((firsts ++ heavy) ++ x ∷ [])) len more);
        still = λ y e. elim (cases_eq (get_or labels y 0) (get_or labels x 0)) [
          | inl s ↦ absurd (no (sym (put-here labels indexes x n y ll s) ∙ e))
          | inr d ↦ a.still y (sym (put-index labels indexes x n y d) ∙ e)
        ];
        rise = Rises-push heavy x a.rise a.below;
        below = All-push (λ k. k < x + 1) heavy x (All-weaker (λ k. k < x) (λ k. k < x + 1) (λ k l. omega (arith, l)) heavy a.below) (omega arith);
        each = All-push (λ k. IsHeavy B E k × IsLeast E k) heavy x a.each (
          h,
          λ y m. elim (cases_lt y x) [
            | inl yl ↦ absurd (a.every y yl (heavy-class B E x y m h) (ap (λ k. get_or indexes k 0) (same y (omega (arith, yl, lt)) m) ∙ none))
            | inr ge ↦ ge
          ],
        );
        every = λ y l hy. elim (cases_lt y x) [
          | inl yl ↦ put-kept labels indexes x n y ll no (a.every y yl hy)
          | inr ge ↦ (let is : y ≡ x = omega (arith, l, ge) in λ e. no (sym (put-here labels indexes x n y ll (ap (λ k. get_or labels k 0) is)) ∙ e))
        ];
      }

-- once all nodes are gone through
module _ (B : ℕ → Type 0) (edges : List (List ℕ)) (E : ℕ → ℕ → Type 0) (count : ℕ) (labels before firsts indexes heavy : List ℕ)
    (same : (x y : ℕ) → x < count → y < count → (get_or labels x 0 ≡ get_or labels y 0) ↔ Mutual E x y) (first : (b : ℕ) → Contains firsts b → (b < count) × B b)
    (plain : (x : ℕ) → x < count → (index_at labels before x ≡ no_index) ↔ IsPlainClass B E x) (nodes : (x : ℕ) → IsHeavy B E x → x < count)
    (a : AreHeavyBelow B E count labels before firsts count indexes heavy) where
  -- what stands for a class with an index is a component's first member or the least of a heavy class
  stands : (x : ℕ) → x < count → index_at labels indexes x ≢ 4294967295 → (s : ℕ) × (s < count) × Mutual E x s × (B s ⊎ Contains heavy s)
  stands x l n =
      let t = a.numbered.index x l n in
      let i : ℕ = index_at labels indexes x in
      let s : ℕ = get_or (firsts ++ heavy) i 0 in
      let sl = (a.numbered.stand i t.0).0 in
      (s, sl, (same x s l sl).0 (sym t.1), elim (Contains-append_cases firsts heavy s (Contains-get_or (firsts ++ heavy) i 0 t.0)) [ inl c ↦ inl (first s c).1 | inr c ↦ inr c ])

  pub heavy-exact : (x : ℕ) → Contains heavy x ↔ (IsHeavy B E x × IsLeast E x)
  heavy-exact x = (
    (λ c. All-contains (λ h. IsHeavy B E h × IsLeast E h) heavy x a.each c),
    (λ h.
        let s = stands x (nodes x h.0) (a.every x (nodes x h.0) h.0) in
        elim s.3 [
          | inl b ↦ absurd (h.0.plain s.0 b s.2)
          | inr c ↦ (
              let t = All-contains (λ k. IsHeavy B E k × IsLeast E k) heavy s.0 a.each c in
              let up = t.1 x (Mutual-sym E x s.0 s.2) in
              let down = h.1 s.0 s.2 in
              let is : s.0 ≡ x = omega (arith, up, down) in
              subst (λ z. Contains heavy z) is c)
        ]),
  )

  pub unreported : (x : ℕ) → x < count → (index_at labels indexes x ≡ no_index) ↔ IsUnreported B E x
  unreported x l = (
    (λ e. record { plain = (plain x l).0 (a.still x e); light = λ h. a.every x l h e }),
    (λ u. elim (cases_eq (index_at labels indexes x) 4294967295) [
      | inl e ↦ e
      | inr n ↦ (
          let s = stands x l n in
          elim s.3 [
            | inl b ↦ absurd (u.plain s.0 b s.2)
            | inr c ↦ absurd (
                let t = All-contains (λ k. IsHeavy B E k × IsLeast E k) heavy s.0 a.each c in
                u.light (heavy-class B E s.0 x (Mutual-sym E x s.0 s.2) t.0))
          ])
    ]),
  )
