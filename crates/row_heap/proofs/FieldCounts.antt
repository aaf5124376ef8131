-- How many fields the rows have together. A further row adds its own; a write to a field, a mark and a removal leave
-- each row as many as it had.
use Rattle.std.proofs.Common.{◌≡◌, ℕ, ◌+◌, ◌≤◌, List, [], ◌∷◌, ◌++◌, map, length, refl, sym, ap, subst, ◌∙◌, arith, length-append}
use Rattle.std.specs.Prelude.{sum}
use Rattle.std.proofs.lemmas.List.{length-map, map-append}
use Rattle.std.proofs.lemmas.List.Sums.{sum_by_push}
use Rattle.joint_machine.specs.Heaps.{numbered_set}
use Rattle.row_heap.specs.Places.{Seen, row_at}
use Rattle.row_heap.specs.Rows.{IsFieldCount}
use Rattle.row_heap.proofs.Sound.{map-kept}

-- how many fields a row has
abbrev pub width : Seen → ℕ
width r = length r.fields

pub count-none : (rows : List Seen) → rows ≡ [] → IsFieldCount 0 rows
count-none rows none = subst (IsFieldCount 0) (sym none) record { exact = refl; most = omega arith }

pub count-kept : (n : ℕ) (rows others : List Seen) → map width others ≡ map width rows → IsFieldCount n rows → IsFieldCount n others
count-kept n rows others same c = record {
  exact = c.exact ∙ ap sum (sym same);
  most = omega (arith, c.most, ap length same, length-map rows width, length-map others width);
}

-- one row is written, and has as many fields as before
pub count-set : (n : ℕ) (rows others : List Seen) (x : ℕ) (y : Seen) → others ≡ numbered_set rows x y → width y ≡ width (row_at rows x) → IsFieldCount n rows → IsFieldCount n others
count-set n rows others x y is same c = count-kept n rows others (ap (map width) is ∙ map-kept width rows x y same) c

-- the lengths of the fields are how many each row has
pub widths : (rows : List Seen) → map length (map (λ (r : Seen). r.fields) rows) ≡ map width rows
widths [] = refl
widths (r ∷ rows) = ap (λ l. length r.fields ∷ l) (widths rows)

pub count-fields : (n : ℕ) (rows others : List Seen) → map (λ (r : Seen). r.fields) others ≡ map (λ (r : Seen). r.fields) rows → IsFieldCount n rows → IsFieldCount n others
count-fields n rows others same c = count-kept n rows others (sym (widths others) ∙ (ap (map length) same ∙ widths rows)) c

pub count-added : (n k m : ℕ) (rows others : List Seen) (r : Seen) → m ≡ n + k → others ≡ rows ++ r ∷ [] → length r.fields ≡ k → k ≤ 255 → IsFieldCount n rows → IsFieldCount m others
count-added n k m rows others r counted is len few c = subst (IsFieldCount m) (sym is) record {
  exact = counted ∙ (ap (λ l. n + l) (sym len) ∙ (ap (λ a. a + width r) c.exact ∙ (sym (sum_by_push (λ x. x) (map width rows) (width r)) ∙ ap sum (sym (map-append width rows (r ∷ []))))));
  most = omega (arith, counted, c.most, few, length-append rows (r ∷ []));
}

-- a count is that of the heap's fields
pub count-seen : (n : ℕ) (rows : List Seen) → IsFieldCount n rows → n ≡ sum (map length (map (λ (r : Seen). r.fields) rows))
count-seen n rows c = c.exact ∙ ap sum (sym (widths rows))
