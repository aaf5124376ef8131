-- What a loop gathers in rising order rises, and has exactly what was wanted. Each number is larger than all
-- that came before it, so a push keeps the list rising.
use Rattle.std.proofs.Common.{ℕ, ◌+◌, ◌<◌, inl, inr, List, [], ◌∷◌, ◌++◌, sym, subst, arith, ◌↔◌, ◌≤◌, length}
use Rattle.std.specs.Prelude.{Contains}
use Rattle.std.proofs.lemmas.List.Elements.{Contains-push, Contains-push_cases, Contains-append_left}
use Rattle.joint_machine.proofs.Members.{All-members, last-or, Rises-push}
use Rattle.joint_machine.specs.Gathered.{Gathered}
use Rattle.joint_machine.specs.Heaps.{Heap, IsLive}

-- the next number is wanted
pub Gathered-push : (wanted : ℕ → Type 0) (n : ℕ) (xs : List ℕ) → Gathered wanted n xs → wanted n → Gathered wanted (n + 1) (xs ++ n ∷ [])
Gathered-push wanted n xs g w = record {
  rises = Rises-push xs n g.rises (All-members (λ y. y < n) xs (λ y c. ((g.exact y).0 c).0));
  exact = λ k. (
    λ c. elim (Contains-push_cases xs n k c) [
      | inl h ↦ (let r = (g.exact k).0 h in (omega (arith, r.0), r.1))
      | inr e ↦ (omega arith, subst wanted e w)
    ],
    λ h. elim (last-or k n h.0) [
      | inl l ↦ Contains-append_left xs (n ∷ []) k ((g.exact k).1 (l, h.1))
      | inr e ↦ subst (λ z. Contains (xs ++ n ∷ []) z) (sym e) (Contains-push xs n)
    ],
  );
}

-- the next number isn't wanted
pub Gathered-skip : (wanted : ℕ → Type 0) (n : ℕ) (xs : List ℕ) → Gathered wanted n xs → (wanted n → ⊥) → Gathered wanted (n + 1) xs
Gathered-skip wanted n xs g not-wanted = record {
  rises = g.rises;
  exact = λ k. (
    λ c. (let r = (g.exact k).0 c in (omega (arith, r.0), r.1)),
    λ h. elim (last-or k n h.0) [ inl l ↦ (g.exact k).1 (l, h.1) | inr e ↦ absurd (not-wanted (subst wanted e h.1)) ],
  );
}

-- every number was asked
pub Gathered-all : (wanted : ℕ → Type 0) (n : ℕ) (xs : List ℕ) → Gathered wanted n xs → ((k : ℕ) → wanted k → k < n) → (k : ℕ) → Contains xs k ↔ wanted k
Gathered-all wanted n xs g h k = (λ c. ((g.exact k).0 c).1, λ w. (g.exact k).1 (h k w, w))

pub made-below : (h : Heap) (k n : ℕ) → IsLive h k → length h.fields + 1 ≤ n → k < n
made-below h k n l e = omega (arith, l.made.1)
