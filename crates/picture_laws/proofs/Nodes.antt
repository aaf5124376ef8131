-- A node for each unfreed row: the numbers from 1 on are asked one by one, and a number has a node exactly where it is
-- a live row's.
use Rattle.std.proofs.Common.{◌≡◌, ℕ, zero, suc, ◌+◌, ◌<◌, ◌≤◌, ◌⊎◌, inl, inr, Bool, true, false, if◌then◌else◌, List, [], ◌∷◌, ◌++◌, map, cond, refl, sym, subst, arith}
use Rattle.std.specs.Prelude.{Contains, All, flat_map, filter}
use Rattle.std.specs.List.{range_with_len}
use Rattle.std.proofs.lemmas.List.Elements.{All-nil, All-cons, Contains-append_cases, Contains-append_left, Contains-append_right}
use Rattle.joint_machine.specs.Components.{Rises}
use Rattle.joint_machine.specs.Walks.{Walks}
use Rattle.joint_machine.proofs.Members.{Contains-nil, Contains-here, Contains-there, Contains-cons_cases}

-- a list that has one element where a test passes, and else none
pub one_in : {A : Type 0} (b : Bool) (x : A) → b ≡ true → Contains (if b then x ∷ [] else []) x
one_in true x e = Contains-here x []
one_in false x e = cc

pub in_one : {A : Type 0} (b : Bool) (x y : A) → Contains (if b then x ∷ [] else []) y → (b ≡ true) × (x ≡ y)
in_one true x y c = elim (Contains-cons_cases x [] y c) [ inl e ↦ (refl, e) | inr d ↦ absurd (Contains-nil y d) ]
in_one false x y c = absurd (Contains-nil y c)

pub in_range : (a n k : ℕ) → a ≤ k → k < a + n → Contains (range_with_len a n) k
in_range a zero k l h = absurd (omega (arith, l, h))
in_range a (suc n) k l h = elim (cases k a l) [
  | inl e ↦ subst (λ z. Contains (a ∷ range_with_len (a + 1) n) z) e (Contains-here a (range_with_len (a + 1) n))
  | inr g ↦ Contains-there k a (range_with_len (a + 1) n) (in_range (a + 1) n k g (omega (arith, h)))
]
  where
    cases : (k a : ℕ) → a ≤ k → (a ≡ k) ⊎ (a + 1 ≤ k)
    cases k a l = grind arith

-- the numbers that pass a test, asked in order
pub keys : {A : Type 0} (p : ℕ → Bool) (g : ℕ → A) (key : A → ℕ) → ((x : ℕ) → key (g x) ≡ x) → (xs : List ℕ) → map key (flat_map (λ x. if p x then g x ∷ [] else []) xs) ≡ filter p xs
keys p g key k [] = refl
keys {A} p g key k (x ∷ xs) = by (p x) (keys p g key k xs)
  where
    by : (b : Bool) → map key (flat_map (λ x. if p x then g x ∷ [] else []) xs) ≡ filter p xs
        → map key ((if b then g x ∷ [] else []) ++ flat_map (λ x. if p x then g x ∷ [] else []) xs) ≡ cond b (x ∷ filter p xs) (filter p xs)
    by true e = rw (k x, e) refl
    by false e = e

above : (b a n : ℕ) → b < a → All (λ y. b < y) (range_with_len a n)
above b a zero l = All-nil (λ y. b < y)
above b a (suc n) l = All-cons (λ y. b < y) a (range_with_len (a + 1) n) l (above b (a + 1) n (omega (arith, l)))

pub rises_range : (a n : ℕ) → Rises (range_with_len a n)
rises_range a zero = tt
rises_range a (suc n) = (above a (a + 1) n (omega arith), rises_range (a + 1) n)

-- a walk goes on by an edge
pub end_walk : {A : Type 0} (edge : A → A → Type 0) (x y z : A) (rows : List A) → Walks edge x rows y → edge y z → Walks edge x (rows ++ z ∷ []) z
end_walk edge x y z [] w e = (subst (λ u. edge u z) (sym w) e, refl)
end_walk edge x y z (r ∷ rows) w e = (w.0, end_walk edge r y z rows w.1 e)

-- six lists one behind another: what one of them has, and which of them has it
module _ {A : Type 0} (a b c d e f : List A) (x : A) where
  pub in1 : Contains a x → Contains (a ++ (b ++ (c ++ (d ++ (e ++ f))))) x
  in1 h = Contains-append_left a (b ++ (c ++ (d ++ (e ++ f)))) x h

  pub in2 : Contains b x → Contains (a ++ (b ++ (c ++ (d ++ (e ++ f))))) x
  in2 h = Contains-append_right a (b ++ (c ++ (d ++ (e ++ f)))) x (Contains-append_left b (c ++ (d ++ (e ++ f))) x h)

  pub in3 : Contains c x → Contains (a ++ (b ++ (c ++ (d ++ (e ++ f))))) x
  in3 h = Contains-append_right a (b ++ (c ++ (d ++ (e ++ f)))) x (Contains-append_right b (c ++ (d ++ (e ++ f))) x (Contains-append_left c (d ++ (e ++ f)) x h))

  pub in4 : Contains d x → Contains (a ++ (b ++ (c ++ (d ++ (e ++ f))))) x
  in4 h = Contains-append_right a (b ++ (c ++ (d ++ (e ++ f)))) x (Contains-append_right b (c ++ (d ++ (e ++ f))) x (Contains-append_right c (d ++ (e ++ f)) x (Contains-append_left d (e ++ f) x h)))

  pub in5 : Contains e x → Contains (a ++ (b ++ (c ++ (d ++ (e ++ f))))) x
  in5 h = Contains-append_right a (b ++ (c ++ (d ++ (e ++ f)))) x
      (Contains-append_right b (c ++ (d ++ (e ++ f))) x (Contains-append_right c (d ++ (e ++ f)) x (Contains-append_right d (e ++ f) x (Contains-append_left e (f) x h))))

  pub six_cases : {P : Type 0} → (Contains a x → P) → (Contains b x → P) → (Contains c x → P) → (Contains d x → P)
      → (Contains e x → P) → (Contains f x → P) → Contains (a ++ (b ++ (c ++ (d ++ (e ++ f))))) x → P
  six_cases p1 p2 p3 p4 p5 p6 h0 = elim (Contains-append_cases a (b ++ (c ++ (d ++ (e ++ f)))) x h0) [
    | inl k ↦ p1 k
    | inr h1 ↦ elim (Contains-append_cases b (c ++ (d ++ (e ++ f))) x h1) [
      | inl k ↦ p2 k
      | inr h2 ↦ elim (Contains-append_cases c (d ++ (e ++ f)) x h2)
          [ inl k ↦ p3 k | inr h3 ↦ elim (Contains-append_cases d (e ++ f) x h3) [ inl k ↦ p4 k | inr h4 ↦ elim (Contains-append_cases e f x h4) [ inl k ↦ p5 k | inr k ↦ p6 k ] ] ]
    ]
  ]
