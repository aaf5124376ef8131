-- A `take` with the pin that is given: it is answered as the replay answers it in the state with that pin, so the list
-- goes on by its entry.
use Rattle.std.proofs.Common.{◌≡◌, ℕ, ◌<◌, List, Option, Some, None, refl, sym, ap, subst, ◌∙◌, arith}
use Rattle.std.specs.Prelude.{Contains, IfSome, slice_set}
use Rattle.joint_machine.specs.declared.names.MNum.{MNum}
use Rattle.joint_machine.specs.declared.names.Thread.{Thread}
use Rattle.joint_machine.specs.declared.names.Thread.TheVariants.{M, P, C}
use Rattle.joint_machine.specs.declared.names.Var.{Var}
use Rattle.joint_machine.specs.declared.events.Entry.{Entry}
use Rattle.joint_machine.specs.declared.events.Reply.TheVariants as says
use Rattle.joint_machine.specs.Heaps.{Answered, IsLive, answer, place, slot, with_var}
use Rattle.joint_machine.specs.Lines.{IsManagedThread, IsVar}
use Rattle.joint_machine.specs.Managed.{Managed, managed_name, pin_taken}
use Rattle.joint_machine.specs.ManagedReplay.{ManagedReplay, plainly}
use Rattle.joint_machine.specs.Run.{thread_number}
use Rattle.joint_machine.specs.Sides.{GoesOn, IsReplayed, managed_rules, step_made}
use Rattle.joint_machine.specs.Told.{kept_pins, nothing}
use Rattle.joint_machine.specs.PinsTold.{no_pins, with_pins}
use Rattle.known_laws.specs.Known.{PinsStand}
use Rattle.managed_heap.specs.Pinned.{pin_given, pin_reply, with_taken}
use Rattle.managed_heap.specs.Rows.{number_or_none, with_adopted}
use Rattle.managed_heap.specs.Sides.{state_of}
use Rattle.managed_heap.specs.Steps.{take_op}
use Rattle.managed_heap.specs.Takings.{taken_in}
use Rattle.managed_heap.proofs.Goes.{goes-pinned, take-of}
use Rattle.managed_heap.proofs.GivenPins.{pin-held, pin-slot}

-- the number of a managed thread has a pin
pub number-low : (t : Thread) → IsManagedThread t → thread_number t < 9
number-low (M n) w = omega (arith, w.1)
number-low (P n) w = absurd w
number-low C w = absurd w

-- by what the pin holds
abbrev taken_by : Managed → ℕ → ℕ → Option MNum → Answered Managed
taken_by s t v None = answer says.Empty s
taken_by s t v (Some m) = answer (managed_name m.0) (record s { heap = with_var s.heap v (Some m.0); pins = slice_set s.pins t None })

taken-by : (s : Managed) (t v : ℕ) (pin : Option MNum) → slot s.pins t ≡ number_or_none pin → pin_taken s t v ≡ taken_by s t v pin
taken-by s t v None e = ap (λ o. elim o [ None ↦ answer says.Empty s | Some x ↦ answer (managed_name x) (record s { heap = with_var s.heap v (Some x); pins = slice_set s.pins t None }) ]) e
taken-by s t v (Some m) e = ap (λ o. elim o [ None ↦ answer says.Empty s | Some x ↦ answer (managed_name x) (record s { heap = with_var s.heap v (Some x); pins = slice_set s.pins t None }) ]) e

replies : (s : Managed) (t v : ℕ) (pin : Option MNum) → pin_reply pin ≡ (taken_by s t v pin).reply
replies s t v None = refl
replies s t v (Some m) = refl

same-pins : (s : ManagedReplay) (v : ℕ) (pin : Option MNum) → (with_taken s v pin).managed.pins ≡ s.managed.pins
same-pins s v None = refl
same-pins s v (Some m) = refl

after : (s : ManagedReplay) (hs : List ℕ) (pins : List (Option ℕ)) (t v : ℕ) (pin : Option MNum)
    → with_pins (with_adopted (with_taken s v pin) hs) no_pins ≡ with_pins (plainly (with_pins (with_adopted s hs) pins) (taken_by (with_pins s pins).managed t v pin)).state no_pins
after s hs pins t v None = refl
after s hs pins t v (Some m) = refl

pub take-goes : (es : List Entry) (taken : List (List ℕ)) (rows next : ManagedReplay) (t : Thread) (index : ℕ) (v : Var) (pin : Option MNum)
    → IsReplayed managed_rules es (state_of taken rows) → IsManagedThread t → IsVar v
    → next ≡ with_taken rows (place (thread_number t) v.0) pin
    → GoesOn managed_rules (state_of taken rows) (step_made t index (take_op v) (pin_reply pin) None) (kept_pins (pin_given (thread_number t) pin) nothing) (state_of taken next)
take-goes es taken rows next t index v pin r thread in_range is =
    let i = thread_number t in
    let p = place i v.0 in
    let pins = pin_given i pin in
    let is-taken : pin_taken (with_pins rows pins).managed i p ≡ taken_by (with_pins rows pins).managed i p pin = taken-by (with_pins rows pins).managed i p pin
    (pin-slot i pin (number-low t thread)) in
    goes-pinned es taken rows next (with_taken rows p pin) (step_made t index (take_op v) (pin_reply pin) None) pins nothing r (take-of t index v (pin_reply pin) thread in_range) refl refl
    (record { allowed = tt; replies = replies (with_pins rows pins).managed i p pin ∙ ap (λ (z : Answered Managed). z.reply) (sym is-taken) }) is (same-pins rows p pin)
    (after rows (taken_in taken) pins i p pin ∙ ap (λ (z : Answered Managed). with_pins (plainly (with_pins (state_of taken rows) pins) z).state no_pins) (sym is-taken))

-- what a pin holds that stands is live
pub pin-live : (s : Managed) (t : Thread) (pin : Option MNum) → IsManagedThread t → PinsStand s (pin_given (thread_number t) pin) → IfSome pin (λ m. IsLive s.heap m.0)
pin-live s t pin thread st = by pin refl
  where
    by : (o : Option MNum) → pin ≡ o → IfSome o (λ m. IsLive s.heap m.0)
    by None e = tt
    by (Some m) e = st.live m.0 (subst (λ z. Contains (pin_given (thread_number t) z) (Some m.0)) (sym e) (pin-held (thread_number t) m (number-low t thread)))
