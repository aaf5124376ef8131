-- The least number above all that a seat knows.
use Rattle.std.proofs.Common.{◌≡◌, ℕ, zero, suc, ◌<◌, ◌≤◌, List, [], ◌∷◌, ◌++◌, sym, subst, arith, length, refl, ap, ◌∙◌, ◌+◌}
use Rattle.order_table.specs.declared.views.KeptEntry.{KeptEntry}
use Rattle.order_table.specs.declared.views.View.{View}
use Rattle.order_table.specs.Rows.{at}
use Rattle.order_table.specs.Rule.{IsBelow}
use Rattle.order_table.specs.Views.{known}
use Rattle.std.proofs.lemmas.List.Elements.{All-cons, All-nil}
use Rattle.joint_machine.specs.declared.events.Entry.{Entry}
use Rattle.joint_machine.specs.Draws.{AllBelow}
use Rattle.order_table.specs.Facts.{line_entries}
use Rattle.seat_calls.specs.Passing.{top, top_of, floor_of, left_in}

top_below : (n : ℕ) (ks : List KeptEntry) → IsBelow n ks → top ks ≤ n
top_below n [] b = omega arith
top_below n (k ∷ ks) b = let t = top_below n ks b.1 in let l = b.0 in omega arith

tops_below : (n : ℕ) (lines : List (List KeptEntry)) → ((i : ℕ) → IsBelow n (at [] lines i)) → top_of lines ≤ n
tops_below n [] b = omega arith
tops_below n (ks ∷ lines) b = let t = top_below n ks (b zero) in let r = tops_below n lines (λ i. b (suc i)) in omega arith

pub floor_low : (v : View) (n : ℕ) → ((i : ℕ) → IsBelow n (known v i)) → floor_of v ≤ n
floor_low v n b = tops_below n v.known b

top_last : (ks : List KeptEntry) (k : KeptEntry) → k.entry.number < top (ks ++ k ∷ [])
top_last [] k = omega arith
top_last (x ∷ ks) k = let t = top_last ks k in omega arith

tops_at : (lines : List (List KeptEntry)) (i : ℕ) → top (at [] lines i) ≤ top_of lines
tops_at [] i = omega arith
tops_at (ks ∷ lines) zero = omega arith
tops_at (ks ∷ lines) (suc i) = let t = tops_at lines i in omega arith

pub floor_high : (v : View) (i : ℕ) (ks : List KeptEntry) (k : KeptEntry) → known v i ≡ ks ++ k ∷ [] → k.entry.number < floor_of v
floor_high v i ks k e = let t = tops_at v.known i in let l = subst (λ xs. k.entry.number < top xs) (sym e) (top_last ks k) in omega arith

-- what a side asks of the draw
below_top : (n : ℕ) (ks : List KeptEntry) → top ks ≤ n → AllBelow (line_entries ks) n
below_top n [] l = All-nil (λ (e : Entry). e.number < n)
below_top n (k ∷ ks) l = All-cons (λ (e : Entry). e.number < n) k.entry (line_entries ks) (omega arith) (below_top n ks (omega arith))

length_entries : (ks : List KeptEntry) → length (line_entries ks) ≡ length ks
length_entries [] = refl
length_entries (k ∷ ks) = ap suc (length_entries ks)

pub below_floor : (v : View) (i : ℕ) (entries : List Entry) → line_entries (known v i) ≡ entries → AllBelow entries (floor_of v)
below_floor v i entries e = subst (λ es. AllBelow es (floor_of v)) e (below_top (floor_of v) (known v i) (tops_at v.known i))

pub room_left : (v : View) (i : ℕ) (entries : List Entry) → line_entries (known v i) ≡ entries → 4294967295 ≤ left_in v i + length entries
room_left v i entries e = let l : length (known v i) ≡ length entries = sym (length_entries (known v i)) ∙ ap length e in omega arith
