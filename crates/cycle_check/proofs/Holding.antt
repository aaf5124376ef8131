-- What the kept nodes hold: marks are exact, and what is found of them is what is found of the graph.
use Rattle.std.proofs.Common.{◌≡◌, ℕ, ◌<◌, ◌↔◌, ◌⊎◌, inl, inr, Bool, true, false, List, length, get_or, refl, arith}
use Rattle.std.specs.List.{All, Contains}
use Rattle.joint_machine.proofs.Members.{All-members}
use Rattle.std.proofs.lemmas.Bool.{cases_eq}
use Rattle.joint_machine.specs.Walks.{Reached, Reaches}
use Rattle.joint_machine.proofs.WalkLemmas.{Reached-mono}
use Rattle.array_graphs.specs.Graphs.{IsSet, LeadsInRow}
use Rattle.reachability.specs.Marks.{HasMark}
use Rattle.cycle_check.specs.Judging.{IsHeld, IsJudged, IsKept, IsLeft, IsLost, IsObeyed, IsWhole, Loses}
use Rattle.cycle_check.specs.Walking.{IsEarlyAt, IsHolding, IsLeftAt, IsTornAt}
use Rattle.cycle_check.proofs.Flags.{mark-at, set-at, set-within, unmarked-at, unset-at}

set-or : (flags : List ℕ) (x : ℕ) → x < length flags → IsSet flags x ⊎ (IsSet flags x → ⊥)
set-or flags x l = elim (cases_eq (get_or flags x 0) 0) [ inl e ↦ inr (unset-at flags x e) | inr n ↦ inl (set-at flags x l n) ]

judged-within : (kinds : List ℕ) (bridges : Bool) (y : ℕ) → IsJudged kinds bridges y → y < length kinds
judged-within kinds true y j = set-within kinds y j
judged-within kinds false y j = j

module _ (kinds starts targets kept : List ℕ) (marks : List Bool) (roots : List ℕ) where
  pub holding : length marks ≡ length kinds → ((x : ℕ) → Contains roots x ↔ ((x < length kinds) × IsKept kinds kept x))
      → ((k : ℕ) → HasMark marks k ↔ Reached (Contains roots) (LeadsInRow starts targets) k)
      → IsHolding kinds starts targets kept marks roots
  holding count listed exact = record {
    count = count;
    kept_ones = λ x. ((λ c. ((listed x).0 c).1), (λ k. (listed x).1 (set-within kinds x k.0, k)));
    exact = λ y. (
      (λ m. Reached-mono (Contains roots) (IsKept kinds kept) (LeadsInRow starts targets) (LeadsInRow starts targets) (λ x c. ((listed x).0 c).1) (λ x z l. l) y ((exact y).0 m)),
      (λ r. (exact y).1 (Reached-mono (IsKept kinds kept) (Contains roots) (LeadsInRow starts targets) (LeadsInRow starts targets) (λ x k. (listed x).1 (set-within kinds x k.0, k)) (λ x z l. l) y r)),
    );
  }

  pub held-pair : (lost : ℕ → Type 0) (x y : ℕ) → IsHolding kinds starts targets kept marks roots → Contains roots x → Reaches (LeadsInRow starts targets) x y → lost y
      → Loses (Reaches (LeadsInRow starts targets)) (IsKept kinds kept) lost x y
  held-pair lost x y h c reach l = record { holds = (h.kept_ones x).0 c; walk = reach; gone = l }

  -- a marked node is reached from the roots, as they are walked from
  pub held-reached : (y : ℕ) → IsHolding kinds starts targets kept marks roots → HasMark marks y → Reached (Contains roots) (LeadsInRow starts targets) y
  held-reached y h m = Reached-mono (IsKept kinds kept) (Contains roots) (LeadsInRow starts targets) (LeadsInRow starts targets) (λ x k. (h.kept_ones x).1 k) (λ x z l. l) y ((h.exact y).0 m)

  pub roots-within : IsHolding kinds starts targets kept marks roots → length starts ≡ length kinds → All (λ r. r < length starts) roots
  roots-within h count = All-members (λ r. r < length starts) roots (λ x c. (let l = set-within kinds x ((h.kept_ones x).0 c).0 in omega (arith, l, count)))

  marked : (lost : ℕ → Type 0) (x y : ℕ) → IsHolding kinds starts targets kept marks roots → Loses (Reaches (LeadsInRow starts targets)) (IsKept kinds kept) lost x y → HasMark marks y
  marked lost x y h w = (h.exact y).1 (record { root = x; starts = w.holds; reaches = w.walk })

  pub held-whole : IsHolding kinds starts targets kept marks roots → ((y : ℕ) → y < length kinds → IsTornAt kinds kept marks y → ⊥)
      → IsWhole (Reaches (LeadsInRow starts targets)) (IsKept kinds kept) (IsLost kinds kept)
  held-whole h none x y w = none y (set-within kinds y w.gone.0) (marked (IsLost kinds kept) x y h w, w.gone)

  module _ (dead : List ℕ) (bridges : Bool) (h : IsHolding kinds starts targets kept marks roots) where
    pub none-early : ((y : ℕ) → y < length kinds → IsEarlyAt kinds dead marks bridges y → ⊥)
        → IsWhole (Reaches (LeadsInRow starts targets)) (IsKept kinds kept) (λ z. IsJudged kinds bridges z × IsSet dead z)
    none-early none x y w = none y (judged-within kinds bridges y w.gone.0) (marked (λ z. IsJudged kinds bridges z × IsSet dead z) x y h w, w.gone.0, w.gone.1)

    pub left : (y : ℕ) → IsWhole (Reaches (LeadsInRow starts targets)) (IsKept kinds kept) (IsLost kinds kept) → ((z : ℕ) → z < length kinds → IsEarlyAt kinds dead marks bridges z → ⊥)
        → IsLeftAt kinds dead marks bridges y → IsLeft (LeadsInRow starts targets) (IsKept kinds kept) (IsLost kinds kept) (IsJudged kinds bridges) (IsSet dead) y
    left y whole none l = record {
      whole = whole;
      none_early = none-early none;
      judged_one = l.1;
      spared = l.2;
      free = λ r. l.0 ((h.exact y).1 r);
    }

    pub obeyed : length dead ≡ length kinds → IsWhole (Reaches (LeadsInRow starts targets)) (IsKept kinds kept) (IsLost kinds kept)
        → ((z : ℕ) → z < length kinds → IsEarlyAt kinds dead marks bridges z → ⊥) → ((z : ℕ) → z < length kinds → IsLeftAt kinds dead marks bridges z → ⊥)
        → IsObeyed (LeadsInRow starts targets) (IsKept kinds kept) (IsLost kinds kept) (IsJudged kinds bridges) (IsSet dead)
    obeyed count whole early spared = record {
      whole = whole;
      exact = λ y j. (
        (λ d r. early y (judged-within kinds bridges y j) ((h.exact y).1 r, j, d)),
        (λ free. elim (set-or dead y (let l = judged-within kinds bridges y j in omega (arith, l, count))) [
          | inl s ↦ s
          | inr n ↦ absurd (spared y (judged-within kinds bridges y j) ((λ m. free ((h.exact y).0 m)), j, n))
        ]),
      );
    }

    -- flags that were written by the marks
    pub written : length dead ≡ length kinds → ((y : ℕ) → y < length marks → get_or marks y false ≡ true → get_or dead y 0 ≡ 0)
        → ((y : ℕ) → y < length marks → get_or marks y false ≡ false → get_or dead y 0 ≡ 1)
        → (y : ℕ) → y < length kinds → IsSet dead y ↔ (IsHeld (LeadsInRow starts targets) (IsKept kinds kept) y → ⊥)
    written count held free y l = by_mark (get_or marks y false) refl
      where
        within : y < length marks
        within = omega (arith, l, h.count)

        by_mark : (b : Bool) → get_or marks y false ≡ b → IsSet dead y ↔ (IsHeld (LeadsInRow starts targets) (IsKept kinds kept) y → ⊥)
        by_mark true e = (
          (λ s. absurd (unset-at dead y (held y within e) s)),
          (λ n. absurd (n ((h.exact y).0 (mark-at marks y within e)))),
        )
        by_mark false e = (
          (λ s r. unmarked-at marks y e ((h.exact y).1 r)),
          (λ n. set-at dead y (omega (arith, l, count)) (λ z. (let one = free y within e in omega (arith, one, z)))),
        )
