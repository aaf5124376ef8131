-- The first objects that are freed: none of them comes back, so a pass may begin behind them.
use Rattle.std.proofs.Common.{◌≡◌, ℕ, zero, suc, ◌+◌, ◌≤◌, ◌<◌, inl, inr, Bool, true, false, List, [], ◌∷◌, ◌++◌, length, take, set, add-one, replicate, Option, arith, ap, refl, subst, sym}
use Rattle.std.specs.Prelude.{All, Contains}
use Rattle.std.proofs.lemmas.Bool.{cases_lt}
use Rattle.std.proofs.lemmas.List.{length-replicate}
use Rattle.std.proofs.Math.Seq.{take-suc-set}
use Rattle.std.proofs.lemmas.List.Elements.{All-head, All-push, All-tail, Contains-append_left}
use Rattle.joint_machine.specs.Heaps.{Heap, IsLive}
use Rattle.joint_machine.proofs.Members.{Contains-decided}
use Rattle.heap_rules.specs.Flags.{IsSound}
use Rattle.heap_rules.specs.Tidy.{IsTidy}
use Rattle.row_heap.specs.Places.{Seen, row_at}
use Rattle.row_heap.specs.Rows.{AreGone, heap_of, stands_in}
use Rattle.row_heap.proofs.Indexed.{stands-within}
use Rattle.row_heap.proofs.Sound.{stands-live}

pub gone-none : (freed : List ℕ) → AreGone 0 freed
gone-none freed x one le = absurd (omega (arith, one, le))

pub gone-more : (n : ℕ) (freed xs after : List ℕ) → AreGone n freed → after ≡ freed ++ xs → AreGone n after
gone-more n freed xs after g is x one le = subst (λ l. Contains l x) (sym is) (Contains-append_left freed xs x (g x one le))

pub gone-same : (n : ℕ) (freed after : List ℕ) → AreGone n freed → after ≡ freed → AreGone n after
gone-same n freed after g is = subst (AreGone n) (sym is) g

-- a made object that isn't live is freed
pub gone-next : (h : Heap) (n : ℕ) → AreGone n h.freed → n < length h.fields → (IsLive h (n + 1) → ⊥) → AreGone (n + 1) h.freed
gone-next h n g made dead x one le = elim (Contains-decided h.freed x) [
  | inl c ↦ c
  | inr out ↦ absurd (last x one le out (g x one))
]
  where
    not-before : (x : ℕ) → x ≤ n + 1 → (x ≤ n → ⊥) → x ≡ n + 1
    not-before x le out = elim (cases_lt n x) [
      | inl l ↦ omega (arith, l, le)
      | inr m ↦ absurd (out m)
    ]

    last : (x : ℕ) → 1 ≤ x → x ≤ n + 1 → (Contains h.freed x → ⊥) → (x ≤ n → Contains h.freed x) → ⊥
    last x one le out before =
        let at : x ≡ n + 1 = not-before x le (λ l. out (before l)) in
        dead (subst (IsLive h) at record { made = (one, omega (arith, made, at)); kept = out })

-- none of the first ones stands
pub fallen : (rows : List Seen) (freed : List ℕ) (vars statics : List (Option ℕ)) (cap n : ℕ)
    → IsSound (heap_of rows freed vars statics) (stands_in rows) cap → AreGone n freed → (x : ℕ) → x ≤ n → (row_at rows x).stands ≡ true → ⊥
fallen rows freed vars statics cap n s g x le up = (stands-live rows freed vars statics cap x s up).kept (g x (stands-within rows x up).0 le)

-- they were made
pub gone-made : (h : Heap) (n : ℕ) → IsTidy h → AreGone n h.freed → n ≤ length h.fields
gone-made h zero t g = omega arith
gone-made h (suc n) t g = (t.freed (suc n) (g (suc n) (omega arith) (omega arith))).1

-- and none of them is live
pub gone-dead : (h : Heap) (n x : ℕ) → AreGone n h.freed → x < n + 1 → IsLive h x → ⊥
gone-dead h n x g l live = live.kept (g x live.made.0 (omega (arith, l)))

-- marks of which each is down
pub all-down : (ms : List Bool) → All (λ m. m ≡ false) ms → ms ≡ replicate (length ms) false
all-down [] a = refl
all-down (m ∷ ms) a = rw (All-head (λ m. m ≡ false) m ms a, all-down ms (All-tail (λ m. m ≡ false) m ms a)) (ap (λ n. false ∷ replicate n false) (sym (length-replicate (length ms) false)))

-- one more mark is taken down
pub down-next : (ms ns : List Bool) (i : ℕ) → i < length ms → ns ≡ set ms i false → All (λ m. m ≡ false) (take i ms) → All (λ m. m ≡ false) (take (i + 1) ns)
down-next ms ns i within e a = rw (e, add-one, take-suc-set ms i false within) (All-push (λ m. m ≡ false) (take i ms) false a refl)
