-- A number past the last row's is none's, and neither is 0.
use Rattle.std.proofs.Common.{◌≡◌, ℕ, zero, suc, ◌≤◌, inl, inr, false, List, length, refl, ap, sym, arith}
use Rattle.std.proofs.lemmas.Bool.{cases_lt}
use Rattle.row_heap.specs.Places.{Seen, row_at}
use Rattle.row_heap.proofs.Sound.{row_at-past}
use Rattle.row_heap.proofs.places.Rows.is_standing.Goals as goal

row_at-none : (rows : List Seen) (x : ℕ) → ((1 ≤ x) × (x ≤ length rows) → ⊥) → (row_at rows x).stands ≡ false
row_at-none rows zero out = refl
row_at-none rows (suc i) out = elim (cases_lt (length rows) (suc i)) [
  | inl past ↦ ap (λ (r : Seen). r.stands) (row_at-past rows (suc i) past)
  | inr le ↦ absurd (out (omega arith, le))
]

pub stands-requires : goal.stands-requires
stands-requires c = c.if-has.ensures

pub returns-then-has : goal.returns-then-has
returns-then-has c = c.stands.ensures

pub returns-else-has : goal.returns-else-has
returns-else-has c = sym (row_at-none c.args.self.now c.args.x c.if-has.ensures)
