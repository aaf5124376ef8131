-- What the state after a past has of one side or of one caller is what that line gives. One recursion over two pasts
-- serves all parts: an entry outside of the line leaves the part alone, and where the latest entries of both stand in
-- the line they are one entry, which does the same to both.
use Rattle.std.proofs.Common.{◌≡◌, ◌⊎◌, inl, inr, ⊎_elim, ℕ, zero, suc, ◌+◌, ◌≤◌, Bool, true, false, List, [], ◌∷◌, length, refl, sym, ◌∙◌, subst, arith}
use Rattle.std.proofs.lemmas.Bool.{cases_Bool}
use Rattle.joint_machine.specs.Linked.{Linkage, opening_linkage}
use Rattle.known_laws.specs.Known.{past_after}
use Rattle.joint_machine.specs.Told.{Noted}
use Rattle.known_laws.specs.Pasts.{is_in, line, end_of}
use Rattle.known_laws.proofs.PastLines.{line_in, line_out, snoc_same, snoc_some}

pub record Follows (i : ℕ) (R : Linkage → Linkage → Type 0) : Type 0 where
  pub first : R opening_linkage opening_linkage
  pub left : (s t : Linkage) (x : Noted) → is_in i x ≡ false → R s t → R (past_after s x) t
  pub right : (s t : Linkage) (x : Noted) → is_in i x ≡ false → R s t → R s (past_after t x)
  pub both : (s t : Linkage) (x : Noted) → is_in i x ≡ true → R s t → R (past_after s x) (past_after t x)

pub line_gives : (i : ℕ) (R : Linkage → Linkage → Type 0) → Follows i R → (k : ℕ) (a b : List Noted) → length a + length b ≤ k → line i a ≡ line i b → R (end_of a) (end_of b)
line_gives i R f k [] [] l e = f.first
line_gives i R f zero (x ∷ a) b l e = absurd (omega arith)
line_gives i R f zero [] (y ∷ b) l e = absurd (omega arith)
line_gives i R f (suc k) [] (y ∷ b) l e = ⊎_elim
    (λ (t : is_in i y ≡ true). absurd (snoc_some (line i b) y (sym (line_in i y b t) ∙ sym e)))
    (λ (n : is_in i y ≡ false). f.right opening_linkage (end_of b) y n (line_gives i R f k [] b (omega arith) (e ∙ line_out i y b n)))
    (cases_Bool (is_in i y))
line_gives i R f (suc k) (x ∷ a) [] l e = ⊎_elim
    (λ (t : is_in i x ≡ true). absurd (snoc_some (line i a) x (sym (line_in i x a t) ∙ e)))
    (λ (n : is_in i x ≡ false). f.left (end_of a) opening_linkage x n (line_gives i R f k a [] (omega arith) (sym (line_out i x a n) ∙ e)))
    (cases_Bool (is_in i x))
line_gives i R f (suc k) (x ∷ a) (y ∷ b) l e = ⊎_elim
    (λ (n : is_in i x ≡ false). f.left (end_of a) (end_of (y ∷ b)) x n (line_gives i R f k a (y ∷ b) (omega arith) (sym (line_out i x a n) ∙ e)))
    (λ (t : is_in i x ≡ true). ⊎_elim
    (λ (m : is_in i y ≡ false). f.right (end_of (x ∷ a)) (end_of b) y m (line_gives i R f k (x ∷ a) b (omega arith) (e ∙ line_out i y b m)))
    (λ (u : is_in i y ≡ true).
    let s = snoc_same (line i a) (line i b) x y (sym (line_in i x a t) ∙ (e ∙ line_in i y b u)) in
    subst (λ z. R (past_after (end_of a) x) (past_after (end_of b) z)) s.1 (f.both (end_of a) (end_of b) x t (line_gives i R f k a b (omega arith) s.0)))
    (swap (is_in i y)))
    (swap (is_in i x))
  where
    swap : (b : Bool) → (b ≡ false) ⊎ (b ≡ true)
    swap true = inr refl
    swap false = inl refl
