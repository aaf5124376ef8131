-- A `take` by the managed seat: what its thread's pin holds stands, and it is what is told with the entry. The entry
-- leaves the pin empty, and nothing to be done but its clearing.
use Rattle.std.proofs.Common.{◌≡◌, inl, inr, ⊎_elim, ℕ, zero, suc, ◌+◌, ◌<◌, List, [], Option, Some, None, refl, sym, ap, ◌∙◌, subst, arith}
use Rattle.std.specs.Prelude.{MatchOption, slice_set}
use Rattle.std.proofs.lemmas.Bool.{cases_eq}
use Rattle.joint_machine.specs.declared.names.MNum.{MNum}
use Rattle.joint_machine.specs.declared.names.Thread.{Thread}
use Rattle.joint_machine.specs.declared.names.Thread.TheVariants.{M, P, C}
use Rattle.joint_machine.specs.declared.names.Var.{Var}
use Rattle.joint_machine.specs.declared.events.Reply.{Reply}
use Rattle.joint_machine.specs.HistoryLines.{caller_line}
use Rattle.joint_machine.specs.Lines.{IsManagedThread}
use Rattle.joint_machine.specs.ManagedReplay.{ManagedReplay}
use Rattle.joint_machine.specs.Run.{thread_number}
use Rattle.joint_machine.specs.Sides.{Side, step_made}
use Rattle.joint_machine.specs.PinsTold.{no_pins}
use Rattle.joint_machine.proofs.Deciding.{none_some}
use Rattle.known_laws.specs.Known.{PinsStand}
use Rattle.known_laws.specs.Pasts.{end_of}
use Rattle.managed_heap.specs.Pinned.{pin_given}
use Rattle.managed_heap.specs.Rows.{number_or_none}
use Rattle.managed_heap.specs.Steps.{take_op}
use Rattle.order_table.specs.declared.views.KeptEntry.{KeptEntry}
use Rattle.order_table.specs.declared.views.View.{View}
use Rattle.order_table.specs.Allowed.{Settled}
use Rattle.order_table.specs.Owed.{pin}
use Rattle.order_table.specs.Replies.{object_of}
use Rattle.order_table.specs.Rows.{at, put}
use Rattle.order_table.specs.Rule.{IsHeld}
use Rattle.order_table.specs.Views.{OrderId, Shown, kept, known, Owns, pins_kept}
use Rattle.order_table.proofs.Pins.{pin_more}
use Rattle.order_table.proofs.Places.{at_put_here, at_put_else}
use Rattle.seat_calls.specs.Gating.{OwesClearing}
use Rattle.seat_calls.specs.Passing.{Appends, MayAppend}
use Rattle.seat_calls.proofs.After.{owes_clearing}
use Rattle.view_laws.specs.Knowing.{pins_of}
use Rattle.view_laws.proofs.HeldViews.{pins_of_views_stand}
use Rattle.view_laws.proofs.PinWords.{object-more}
use Rattle.joint_history.specs.Locked.{ManagedKnows}

-- what the owner of the managed list finds in the pin of a thread whose lines it has
abbrev pub FindsPin : View → ℕ → Option MNum → Type 0
FindsPin v reader o = MatchOption o (pin (known v (reader + 10)) ≡ 0) (λ m. (pin (known v (reader + 10)) ≡ m.0 + 1) × IsHeld (known v 0) reader m.0)

pub finds_same : (v w : View) (reader : ℕ) (o : Option MNum) → w.known ≡ v.known → FindsPin v reader o → FindsPin w reader o
finds_same v w reader o same f = subst (λ ls. MatchOption o (pin (at [] ls (reader + 10)) ≡ 0) (λ m. (pin (at [] ls (reader + 10)) ≡ m.0 + 1) × IsHeld (at [] ls 0) reader m.0)) (sym same) f

named : (v : View) (reader : ℕ) (o : Option MNum) → FindsPin v reader o → object_of (pin (known v (reader + 10))) ≡ number_or_none o
named v reader None f = ap object_of f
named v reader (Some m) f = ap object_of f.0 ∙ object-more m.0

held : (v : View) (reader : ℕ) (o : Option MNum) → FindsPin v reader o → (m : ℕ) → pin (known v (reader + 10)) ≡ m + 1 → IsHeld (known v 0) reader m
held v reader None f m e = absurd (let z : pin (known v (reader + 10)) ≡ 0 = f in omega arith)
held v reader (Some x) f m e = let z = f.0 in subst (IsHeld (known v 0) reader) (let same : x.0 ≡ m = omega arith in same) f.1

-- one word alone is one pin
one_pin : (r w : ℕ) → 0 < r → r < 9 → pins_of (put 0 [] r w) ≡ slice_set no_pins r (object_of w)
one_pin zero w a b = absurd (omega (arith, a))
one_pin (suc zero) w a b = refl
one_pin (suc (suc zero)) w a b = refl
one_pin (suc (suc (suc zero))) w a b = refl
one_pin (suc (suc (suc (suc zero)))) w a b = refl
one_pin (suc (suc (suc (suc (suc zero))))) w a b = refl
one_pin (suc (suc (suc (suc (suc (suc zero)))))) w a b = refl
one_pin (suc (suc (suc (suc (suc (suc (suc zero))))))) w a b = refl
one_pin (suc (suc (suc (suc (suc (suc (suc (suc zero)))))))) w a b = refl
one_pin (suc (suc (suc (suc (suc (suc (suc (suc (suc n))))))))) w a b = absurd (omega (arith, b))

given_is : (v : View) (reader : ℕ) (o : Option MNum) → 0 < reader → reader < 9 → FindsPin v reader o → pins_of (put 0 [] reader (pin (known v (reader + 10)))) ≡ pin_given reader o
given_is v reader o pos low f = one_pin reader (pin (known v (reader + 10))) pos low ∙ ap (slice_set no_pins reader) (named v reader o f)

pub taken_stands : (v : View) (s : Side ManagedReplay) (reader : ℕ) (o : Option MNum) → 0 < reader
    → reader < 9 → ManagedKnows v s → FindsPin v reader o → PinsStand s.state.managed (pin_given reader o)
taken_stands v s reader o pos low ks f = subst (λ (r : ManagedReplay). PinsStand r.managed (pin_given reader o)) ks.state
    (subst (PinsStand (end_of ks.known.known.past).managed.managed) (given_is v reader o pos low f) (pins_of_views_stand v ks.known (put 0 [] reader w) words))
  where
    w : ℕ
    w = pin (known v (reader + 10))

    words : (r m : ℕ) → 0 < r → r < 9 → at 0 (put 0 [] reader w) r ≡ m + 1 → IsHeld (known v 0) r m
    words r m a b e = ⊎_elim
        (λ (same : r ≡ reader). subst (λ i. IsHeld (known v 0) i m) (sym same) (held v reader o f m (sym (at_put_here 0 [] reader w) ∙ (ap (at 0 (put 0 [] reader w)) (sym same) ∙ e))))
        (λ (other : r ≡ reader → ⊥). absurd (let z : 0 ≡ m + 1 = sym (at_put_else 0 [] reader r w other) ∙ e in omega arith))
        (cases_eq r reader)

pub taken_told : (seat : Shown) (t : Thread) (x : Var) (reader : ℕ) (o : Option MNum) → IsManagedThread t → reader ≡ thread_number t
    → FindsPin seat.view reader o → pins_of (pins_kept seat.view t (take_op x)) ≡ pin_given (thread_number t) o
taken_told seat (M n) x reader o is e f = given_is seat.view n o is.0 (omega (arith, is.1)) (subst (λ i. FindsPin seat.view i o) e f)
taken_told seat (P n) x reader o is e f = absurd is
taken_told seat C x reader o is e f = absurd is

-- the line of the thread's pin is its own
pub pin_line : (t : Thread) (reader : ℕ) (v : View) → IsManagedThread t → reader ≡ thread_number t → Owns v (caller_line t) → Owns v (reader + 10)
pin_line (M n) reader v is e o = subst (λ i. Owns v (i + 10)) (sym e) o
pin_line (P n) reader v is e o = absurd is
pin_line C reader v is e o = absurd is

-- after its entry
pub record LeavesPin (w : View) (reader : ℕ) : Type 0 where
  pub empty : pin (known w (reader + 10)) ≡ 0
  pub owes : OwesClearing w reader

pub leaves_pin : (order order' : OrderId) (seat seat' : Shown) (t : Thread) (index : ℕ) (x : Var) (r : Reply) (target : Option MNum) (freed : List MNum) (n reader : ℕ)
    → IsManagedThread t → reader ≡ thread_number t → Owns seat.view 0 → Settled seat.view
    → Appends order order' seat seat' 0 (kept seat.view (step_made t index (take_op x) r None) target freed n) → LeavesPin seat'.view reader
leaves_pin order order' seat seat' (M u) index x r target freed n reader is e owns settled a =
    let k : KeptEntry = kept seat.view (step_made (M u) index (take_op x) r None) target freed n in record {
      empty = ap (λ i. pin (known seat'.view (i + 10))) e ∙ (ap pin a.grows.caller ∙ pin_more (known seat.view (u + 10)) k);
      owes = owes_clearing seat.view seat'.view k reader (sym e) a.grows a.paid refl refl refl (settled.gate owns) settled;
    }
leaves_pin order order' seat seat' (P u) index x r target freed n reader is e owns settled a = absurd is
leaves_pin order order' seat seat' C index x r target freed n reader is e owns settled a = absurd is

-- the seat may make it
pub take_may : (order : OrderId) (seat : Shown) (t : Thread) (x : Var) (aim : Option MNum) → IsManagedThread t → seat.order ≡ order
    → Owns seat.view 0 → Owns seat.view (caller_line t) → Settled seat.view → MayAppend order seat 0 t (take_op x) aim
take_may order seat (M n) x aim is same owns pass settled = record {
  same = same;
  thread = is;
  one = omega arith;
  managed = λ z. (refl, refl);
  peer = λ z. absurd (omega arith);
  role = owns;
  pass = pass;
  paid = λ z. (settled.paid, settled.stored.0, settled.stored.1);
  cycles = λ z. ⊎_elim (λ h. inl h.0) (λ h. inr h.1) (settled.gate owns);
  cells = λ z c m e. absurd (none_some (c, m) e);
}
take_may order seat (P n) x aim is same owns pass settled = absurd is
take_may order seat C x aim is same owns pass settled = absurd is
