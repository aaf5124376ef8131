-- A list is cut in one way at the first place of an element. So words without a space are read back from the text that
-- has a space before each.
use Rattle.std.proofs.Common.{◌≡◌, ◌≢◌, ℕ, List, [], ◌∷◌, ◌++◌, refl, sym, ◌∙◌, ap, append_assoc}
use Rattle.std.specs.List.{AllByRecursion}
use Rattle.byte_streams.specs.Spaced.{after_spaces}

-- the element isn't in the list
abbrev pub Lacks : {X : Type 0} → X → List X → Type 0
Lacks c xs = AllByRecursion (λ x. x ≢ c) xs

-- a fact of each element of two lists
pub every-append : {X : Type 0} (Q : X → Type 0) (a b : List X) → AllByRecursion Q a → AllByRecursion Q b → AllByRecursion Q (a ++ b)
every-append Q [] b p q = q
every-append Q (x ∷ a) b p q = (p.0, every-append Q a b p.1 q)

-- what stands before the first c, and what stands behind it
pub cut-first : {X : Type 0} (c : X) (a b x y : List X) → Lacks c a → Lacks c b → a ++ (c ∷ x) ≡ b ++ (c ∷ y) → (a ≡ b) × (x ≡ y)
cut-first c [] [] x y p q e = (refl, cc)
cut-first c [] (k ∷ b) x y p q e = absurd (q.0 (sym cc))
cut-first c (k ∷ a) [] x y p q e = absurd (p.0 cc)
cut-first c (k ∷ a) (j ∷ b) x y p q e =
    let h : k ≡ j = cc in
    let t : a ++ (c ∷ x) ≡ b ++ (c ∷ y) = cc in
    let r = cut-first c a b x y p.1 q.1 t in
    let u = r.0 in
    (cc, r.1)

-- words with a space behind each
abbrev before_spaces : List (List ℕ) → List ℕ
before_spaces [] = []
before_spaces (w ∷ ws) = w ++ (32 ∷ before_spaces ws)

shifted : (ws : List (List ℕ)) → after_spaces ws ++ 32 ∷ [] ≡ 32 ∷ before_spaces ws
shifted [] = refl
shifted (w ∷ ws) = ap (λ t. 32 ∷ t) (append_assoc w (after_spaces ws) (32 ∷ []) ∙ ap (λ t. w ++ t) (shifted ws))

none-before : (w ws : List ℕ) → w ++ (32 ∷ ws) ≡ [] → ⊥
none-before [] ws e = cc
none-before (b ∷ w) ws e = cc

before-one : (ws vs : List (List ℕ)) → AllByRecursion (Lacks 32) ws → AllByRecursion (Lacks 32) vs → before_spaces ws ≡ before_spaces vs → ws ≡ vs
before-one [] [] p q e = refl
before-one [] (v ∷ vs) p q e = absurd (none-before v (before_spaces vs) (sym e))
before-one (w ∷ ws) [] p q e = absurd (none-before w (before_spaces ws) e)
before-one (w ∷ ws) (v ∷ vs) p q e =
    let r = cut-first 32 w v (before_spaces ws) (before_spaces vs) p.0 q.0 e in
    let first : w ≡ v = r.0 in
    let rest : ws ≡ vs = before-one ws vs p.1 q.1 r.1 in
    cc

-- words without a space
pub words-one : (ws vs : List (List ℕ)) → AllByRecursion (Lacks 32) ws → AllByRecursion (Lacks 32) vs → after_spaces ws ≡ after_spaces vs → ws ≡ vs
words-one ws vs p q e =
    let f : 32 ∷ before_spaces ws ≡ 32 ∷ before_spaces vs = sym (shifted ws) ∙ (ap (λ t. t ++ 32 ∷ []) e ∙ shifted vs) in
    before-one ws vs p q (cc)
