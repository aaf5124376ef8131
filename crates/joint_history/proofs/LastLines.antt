-- The line of a caller's last entry, by its own entries.
use Rattle.std.proofs.Common.{◌≡◌, ⊎_elim, ℕ, zero, suc, ◌+◌, ◌<◌, Bool, true, false, List, [], ◌∷◌, ◌++◌, refl, sym, ap, ◌∙◌, subst, arith}
use Rattle.std.specs.Prelude.{if◌then◌else◌, replicate, slice_index, slice_set}
use Rattle.std.proofs.lemmas.Bool.{cases_Bool, cases_eq}
use Rattle.joint_machine.specs.declared.names.Thread.{Thread}
use Rattle.joint_machine.specs.declared.names.Thread.TheVariants.{M, P, C}
use Rattle.joint_machine.specs.declared.events.Entry.{Entry}
use Rattle.joint_machine.specs.declared.events.Op.{Op}
use Rattle.joint_machine.specs.declared.events.Reply.{Reply}
use Rattle.joint_machine.specs.Control.{Control, caller_place, control_after, last_line}
use Rattle.joint_machine.specs.HistoryLines.{caller_line, side_line, reader_line}
use Rattle.joint_machine.specs.Lines.{IsEvent, IsThread, is_peer_event, is_read}
use Rattle.joint_machine.specs.Told.{Told, Noted}
use Rattle.joint_machine.specs.PinsTold.{bare_told}
use Rattle.known_laws.specs.PastEntries.{entries}
use Rattle.known_laws.specs.Pasts.{Lawful, end_of, line, is_in, own_of, role_of}
use Rattle.known_laws.proofs.PastLines.{in_own, in_which, line_in, line_out}
use Rattle.known_laws.proofs.Growing.{entries_append}
use Rattle.known_laws.proofs.Coming.{event_of}
use Rattle.known_laws.proofs.Lists.{event-thread}
use Rattle.order_table.specs.declared.views.View.{View}
use Rattle.view_laws.specs.Knowing.{IsDrawnView}
use Rattle.joint_history.specs.Callers.{last_index, own_in}
use Rattle.joint_history.proofs.KnownViews.{line_of_past}
use Rattle.joint_history.proofs.Standing.{index_set, widths}

-- an entry's list is that of a side or of a reader
side_small : (e : Entry) → IsEvent e.made.caller e.made.op → side_line e < 10
side_small e v = by (is_peer_event e.made.caller e.made.op) (is_read e.made.op)
  where
    reader : (t : Thread) → IsThread t → reader_line t < 10
    reader (M n) is = let few = is.1 in omega arith
    reader (P n) is = omega arith
    reader C is = omega arith

    by : (b r : Bool) → (if b then 1 else (if r then reader_line e.made.caller else 0)) < 10
    by true r = omega arith
    by false true = reader e.made.caller (event-thread e.made.caller e.made.op v)
    by false false = omega arith

last_snoc : (es : List Entry) (e : Entry) → last_index (es ++ e ∷ []) ≡ e.made.index
last_snoc [] e = refl
last_snoc (x ∷ []) e = refl
last_snoc (x ∷ y ∷ es) e = last_snoc (y ∷ es) e

index_else : (xs : List ℕ) (i k x : ℕ) → (k ≡ i → ⊥) → slice_index (slice_set xs i x) k ≡ slice_index xs k
index_else [] i k x n = refl
index_else (y ∷ xs) zero zero x n = absurd (n refl)
index_else (y ∷ xs) zero (suc k) x n = refl
index_else (y ∷ xs) (suc i) zero x n = refl
index_else (y ∷ xs) (suc i) (suc k) x n = index_else xs i k x (λ e. n (ap suc e))

index_zeros : (n i : ℕ) → slice_index (replicate n 0) i ≡ 0
index_zeros zero i = refl
index_zeros (suc n) zero = refl
index_zeros (suc n) (suc i) = index_zeros n i

lines_after : (c : Control) (u : Thread) (n line : ℕ) (o : Op) (reply : Reply) (told : Told) → (control_after c u n line o reply told).lines ≡ slice_set c.lines (caller_place u) line
lines_after c (M v) n line o reply told = refl
lines_after c (P v) n line o reply told = refl
lines_after c C n line o reply told = refl

pub place_small : (t : Thread) → IsThread t → caller_place t < 17
place_small (M n) is = let b = is.1 in omega arith
place_small (P n) is = let b = is.1 in omega arith
place_small C is = omega arith

last_of_past : (h : List Noted) → Lawful h → (t : Thread) → IsThread t → last_line (end_of h).control t ≡ last_index (entries (line (caller_line t) h))
last_of_past [] l t is = index_zeros 17 (caller_place t)
last_of_past (x ∷ h) l t is =
    let after = ap (λ ls. slice_index ls (caller_place t)) (lines_after (end_of h).control x.entry.made.caller x.entry.number x.entry.made.index x.entry.made.op x.entry.made.reply (bare_told x.told))
    in
    ⊎_elim
    (λ (e : caller_place t ≡ caller_place x.entry.made.caller).
    let there : is_in (caller_line t) x ≡ true = subst (λ p. is_in (p + 10) x ≡ true) (sym e) (in_own x) in
    after ∙ (subst (λ p. slice_index (slice_set (end_of h).control.lines p x.entry.made.index) (caller_place t) ≡ x.entry.made.index) e
    (index_set (end_of h).control.lines (caller_place t) x.entry.made.index (let w = (widths h).lines in let p = place_small t is in omega arith))
    ∙ sym (ap (λ l. last_index (entries l)) (line_in (caller_line t) x h there)
    ∙ (ap last_index (entries_append (line (caller_line t) h) (x ∷ [])) ∙ last_snoc (entries (line (caller_line t) h)) x.entry))))
    (λ (n : caller_place t ≡ caller_place x.entry.made.caller → ⊥).
    after ∙ (index_else (end_of h).control.lines (caller_place x.entry.made.caller) (caller_place t) x.entry.made.index n
    ∙ (last_of_past h l.1 t is ∙ sym (ap (λ l. last_index (entries l)) (line_out (caller_line t) x h (apart n))))))
    (cases_eq (caller_place t) (caller_place x.entry.made.caller))
  where
    apart : (caller_place t ≡ caller_place x.entry.made.caller → ⊥) → is_in (caller_line t) x ≡ false
    apart n = ⊎_elim
        (λ (e : is_in (caller_line t) x ≡ true). absurd (⊎_elim
        (λ (s : caller_line t ≡ role_of x). let b = side_small x.entry (event_of x h l) in omega (arith, s))
        (λ (s : caller_line t ≡ own_of x). n (omega (arith, s)))
        (in_which (caller_line t) x e)))
        (λ e. e)
        (cases_Bool (is_in (caller_line t) x))

-- so it is by what a seat knows of the thread's own entries
pub last_line_is : (v : View) (a : IsDrawnView v) (t : Thread) → IsThread t → last_line (end_of a.known.past).control t ≡ last_index (own_in t v)
last_line_is v a t is = last_of_past a.known.past a.known.lawful t is ∙ ap last_index (sym (line_of_past v a (caller_line t)))
