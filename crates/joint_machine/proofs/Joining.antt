-- What a list has after a write at a place, lists that have the same at each place, and histories by the numbers of
-- their entries: each entry stands at its number.
use Rattle.std.proofs.Common.{◌≡◌, ℕ, zero, suc, ◌+◌, ◌<◌, ◌⊎◌, inl, inr, List, [], ◌∷◌, length, Some, slice_get, slice_set, slice_index_or, arith, refl, subst, sym, ◌∙◌, ap}
use Rattle.std.specs.Prelude.{unwrap_or, Contains}
use Rattle.std.proofs.lemmas.List.{get_or-set_same, get_or-set_other, length-set, ext_get_or, nil_from_length}
use Rattle.std.proofs.lemmas.Option.{slice_get_past, slice_get-get_or}
use Rattle.std.proofs.lemmas.Bool.{cases_lt}
use Rattle.std.proofs.lemmas.List.Elements.{All-nil}
use Rattle.joint_machine.specs.declared.names.MNum.{MNum}
use Rattle.joint_machine.specs.declared.names.PNum.{PNum}
use Rattle.joint_machine.specs.declared.events.Entry.{Entry}
use Rattle.joint_machine.specs.Histories.{NumberedFrom}
use Rattle.joint_machine.specs.Shuffles.{IsJoinable, IsPlaced}
use Rattle.joint_machine.proofs.Deciding.{none_some}
use Rattle.joint_machine.proofs.Members.{at-Contains}

-- two numbers are the same, or they aren't
pub same_or_not : (m n : ℕ) → (m ≡ n) ⊎ (m ≡ n → ⊥)
same_or_not m n = elim (cases_lt m n) [ inl l ↦ inr (λ e. omega arith) | inr g ↦ elim (cases_lt n m) [ inl l ↦ inr (λ e. omega arith) | inr h ↦ inl (omega arith) ] ]

pub slice_get-set_same : {A : Type 0} → (xs : List A) (i : ℕ) (x : A) → i < length xs → slice_get (slice_set xs i x) i ≡ Some x
slice_get-set_same xs i x h = slice_get-get_or (slice_set xs i x) i x (rw length-set h) ∙ ap Some (get_or-set_same xs i x x h)

pub slice_get-set_other : {A : Type 0} → (xs : List A) (i j : ℕ) (x : A) → (j ≡ i → ⊥) → slice_get (slice_set xs i x) j ≡ slice_get xs j
slice_get-set_other xs i j x ne =
    elim (cases_lt j (length xs)) [
      | inl l ↦ slice_get-get_or (slice_set xs i x) j x (rw length-set l) ∙ ap Some (get_or-set_other xs i j x x ne) ∙ sym (slice_get-get_or xs j x l)
      | inr g ↦ slice_get_past (slice_set xs i x) j (rw length-set g) ∙ sym (slice_get_past xs j g)
    ]

-- lists that have the same at each place are the same
pub same_by_places : {A : Type 0} → (xs ys : List A) → length xs ≡ length ys → ((k : ℕ) → k < length xs → slice_get xs k ≡ slice_get ys k) → xs ≡ ys
same_by_places [] ys len same = sym (nil_from_length ys (sym len))
same_by_places (x ∷ xs) ys len same =
    ext_get_or x (x ∷ xs) ys len (λ i h.
    let lower : i < length ys = omega arith in
    let some : Some (slice_index_or (x ∷ xs) i x) ≡ Some (slice_index_or ys i x) = sym (slice_get-get_or (x ∷ xs) i x h) ∙ same i h ∙ slice_get-get_or ys i x lower in cc)

-- the entry at a place of a list that is numbered from n on has number n and the place
pub number_at : (n : ℕ) (es : List Entry) → NumberedFrom n es → (i : ℕ) (e : Entry) → slice_get es i ≡ Some e → e.number ≡ n + i
number_at n [] r i e s = absurd (none_some e s)
number_at n (x ∷ es) r zero e s = let q : x ≡ e = ap (λ o. unwrap_or o x) s in ap (λ (z : Entry). z.number) (sym q) ∙ (r.0 ∙ omega arith)
number_at n (x ∷ es) r (suc i) e s = number_at (n + 1) es r.1 i e s ∙ omega arith

-- so each entry stands at its number
pub placed_all : (whole : List Entry) → NumberedFrom 0 whole → (e : Entry) → Contains whole e → IsPlaced whole e
placed_all whole r e c = let w = at-Contains whole e c in subst (λ k. slice_get whole k ≡ Some e) (sym (number_at 0 whole r w.0 e w.1 ∙ omega arith)) w.1

-- no lists of entries join to the history of no entries, whatever was freed
pub joins_none : (ms : List MNum) (ps : List PNum) (ns : List MNum) → IsJoinable [] ms ps ns
joins_none ms ps ns = record {
  whole = [];
  shuffle = record { numbers = tt; rise = All-nil _; placed = All-nil _; covered = All-nil _; count = refl };
  fits = All-nil _;
}
