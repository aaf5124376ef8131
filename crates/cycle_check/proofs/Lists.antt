-- What is listed, or seen, of the first so many.
use Rattle.std.proofs.Common.{ℕ, ◌+◌, ◌<◌, ◌≤◌, ◌↔◌, inl, inr, List, [], ◌∷◌, ◌++◌, length, get_or, take, subst, sym, arith}
use Rattle.std.specs.List.{All, Contains}
use Rattle.std.proofs.lemmas.List.{take_more}
use Rattle.std.proofs.lemmas.List.Elements.{Contains-append_cases, Contains-append_left, Contains-push, All-take, All-drop}
use Rattle.bridge_graph.specs.Packing.{packed_row}
use Rattle.joint_machine.proofs.Members.{All-members, Contains-cons_cases, Contains-nil, last-or}

pub seen-more : (P : ℕ → Type 0) (xs : List ℕ) (i : ℕ) → i < length xs → ((x : ℕ) → Contains (take i xs) x → P x) → P (get_or xs i 0) → (x : ℕ) → Contains (take (i + 1) xs) x → P x
seen-more P xs i lt before here x c = elim (Contains-append_cases (take i xs) (get_or xs i 0 ∷ []) x (subst (λ ys. Contains ys x) (take_more xs i 0 lt) c)) [
  | inl b ↦ before x b
  | inr n ↦ elim (Contains-cons_cases (get_or xs i 0) [] x n) [ inl e ↦ subst P e here | inr z ↦ absurd (Contains-nil x z) ]
]

module _ (P : ℕ → Type 0) (xs : List ℕ) (n : ℕ) (below : (d : ℕ) → Contains xs d ↔ ((d < n) × P d)) where
  pub listed-more : P n → (d : ℕ) → Contains (xs ++ n ∷ []) d ↔ ((d < n + 1) × P d)
  listed-more p d = (forth, back)
    where
      forth : Contains (xs ++ n ∷ []) d → (d < n + 1) × P d
      forth c = elim (Contains-append_cases xs (n ∷ []) d c) [
        | inl b ↦ (let k = (below d).0 b in (omega (arith, k.0), k.1))
        | inr s ↦ elim (Contains-cons_cases n [] d s) [ inl e ↦ (omega (arith, e), subst P e p) | inr z ↦ absurd (Contains-nil d z) ]
      ]

      back : (d < n + 1) × P d → Contains (xs ++ n ∷ []) d
      back k = elim (last-or d n k.0) [
        | inl l ↦ Contains-append_left xs (n ∷ []) d ((below d).1 (l, k.1))
        | inr e ↦ subst (λ z. Contains (xs ++ n ∷ []) z) (sym e) (Contains-push xs n)
      ]

  pub listed-same : (P n → ⊥) → (d : ℕ) → Contains xs d ↔ ((d < n + 1) × P d)
  listed-same denied d = (
    (λ c. (let k = (below d).0 c in (omega (arith, k.0), k.1))),
    (λ k. elim (last-or d n k.0) [ inl l ↦ (below d).1 (l, k.1) | inr e ↦ absurd (denied (subst P e k.1)) ]),
  )

-- what is listed is below the end
pub listed-below : (P : ℕ → Type 0) (xs : List ℕ) (n m : ℕ) → n ≤ m → ((d : ℕ) → Contains xs d ↔ ((d < n) × P d)) → All (λ r. r < m) xs
listed-below P xs n m l below = All-members (λ r. r < m) xs (λ d c. (let k = (below d).0 c in omega (arith, l, k.0)))

-- a row has what the whole list has
pub row-All : (P : ℕ → Type 0) (starts targets : List ℕ) (x : ℕ) → All P targets → All P (packed_row starts targets x)
row-All P starts targets x a = All-take P _ _ (All-drop P _ targets a)
