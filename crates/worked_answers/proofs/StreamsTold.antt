-- By computing: the bytes at a sink are what a beginning makes of them, or aren't.
use Rattle.std.proofs.Common.{◌≡◌, ℕ, ◌++◌, List, [], ◌∷◌, inl, inr, refl, ap, arith}
use Rattle.worked_answers.specs.Streams.{CountsAreTold, PartsAreTold, TakingIsTold}

pub counts_are_told : CountsAreTold
counts_are_told = record {
  rises = omega arith;
  at_end = omega arith;
  stands = λ n l r. omega (arith, l, r);
  falls = λ c. let e = c.later in omega (arith, e);
  uncaused = λ c. let e = c.failed in omega (arith, e);
}

-- the first byte; 0 where there is none
abbrev first : List ℕ → ℕ
first [] = 0
first (x ∷ xs) = x

-- behind a text stands the same, or nothing
no_other : (part rest : List ℕ) → 1 ∷ 2 ∷ [] ≡ part ++ rest → 5 ∷ 2 ∷ [] ≡ (5 ∷ []) ++ part → ⊥
no_other [] rest e a = cc
no_other (x ∷ part) rest e a = let f : 1 ≡ x = ap first e in let g : 2 ≡ x = ap (λ t. second t) a in omega (arith, f, g)
  where
    second : List ℕ → ℕ
    second [] = 0
    second (y ∷ ys) = first ys

pub parts_are_told : PartsAreTold
parts_are_told = record {
  part = record { part = 1 ∷ []; rest = 2 ∷ []; whole = refl; appends = refl };
  other = λ p. no_other p.part p.rest p.whole p.appends;
  lost = λ p. let f : 1 ≡ 5 = ap first p.appends in omega (arith, f);
}

pub taking_is_told : TakingIsTold
taking_is_told = record {
  to_end = record { taken = refl; stopped = inl refl; size = omega arith };
  past_limit = record { taken = refl; stopped = inr refl; size = omega arith };
  other = λ t. let e = t.taken in cc;
  early = λ t. elim t.stopped [ inl e ↦ cc | inr e ↦ omega (arith, e) ];
  late = λ t. let e = t.size in omega (arith, e);
}
