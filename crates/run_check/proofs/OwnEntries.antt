-- An entry that a call of the managed side has made is lawful in the side's own list, which has no pins between entries
-- but those that it is told. So it is lawful in the state of the past, which has the readers' pins, and leaves the same
-- but for the pins.
use Rattle.std.proofs.Common.{◌≡◌, ℕ, Bool, true, false, List, Option, Some, None, refl, sym, ap, ◌∙◌, subst}
use Rattle.joint_machine.specs.declared.names.Thread.{Thread}
use Rattle.joint_machine.specs.declared.names.Var.{Var}
use Rattle.joint_machine.specs.declared.lines.Act.TheVariants as act
use Rattle.joint_machine.specs.declared.events.Made.{Made}
use Rattle.joint_machine.specs.declared.events.Op.{Op}
use Rattle.joint_machine.specs.declared.events.Op.TheVariants as op
use Rattle.joint_machine.specs.declared.events.Reply.{Reply}
use Rattle.joint_machine.specs.Heaps.{Answered, place, slot}
use Rattle.joint_machine.specs.Lines.{is_read}
use Rattle.joint_machine.specs.PinsTold.{is_pinned, bare_told, no_pins, pins_told, with_pins}
use Rattle.joint_machine.specs.Linked.{ManagedLawful}
use Rattle.joint_machine.specs.Managed.{Managed, pin_taken}
use Rattle.joint_machine.specs.ManagedReplay.{ManagedReplay, managed_answer}
use Rattle.joint_machine.specs.Run.{thread_number}
use Rattle.joint_machine.specs.Sides.{GoesOn, IsOwnLawful, managed_rules, step_made}
use Rattle.joint_machine.specs.Told.{Told, kept_pins, nothing}
use Rattle.joint_laws.proofs.KeptPins.{take_by}
use Rattle.known_laws.proofs.Bared.{plain_pins, plain_told}
use Rattle.known_laws.proofs.Unpinned.{allows_same, answers_same, pinned_answer}
use Rattle.managed_heap.specs.Steps.{take_op}

-- it is lawful in that state, and the side is then as the state after it, but for the pins
pub record IsMadeIn (s : ManagedReplay) (m : Made) (told : Told) (new : ManagedReplay) : Type 0 where
  pub lawful : ManagedLawful s m told
  pub after : new ≡ with_pins (managed_answer s m.caller m.op told).state no_pins

-- an entry that asks for no pins
module _ (s : ManagedReplay) (m : Made) (told : Told) (f : is_pinned m.op ≡ false) where
  abbrev bare : ManagedReplay
  bare = with_pins s no_pins

  bare-lawful : IsOwnLawful bare m told → ManagedLawful bare m told
  bare-lawful w =
      let t = w.tells ∙ f in
      subst (λ p. ManagedLawful (with_pins s p) m told) (plain_pins told t) (subst (λ z. ManagedLawful (with_pins s (pins_told told)) m z) (plain_told told t) w.lawful)

  same-but-pins : is_read m.op ≡ false → managed_answer s m.caller m.op told ≡ pinned_answer (managed_answer bare m.caller m.op told) s.managed.pins
  same-but-pins e = answers_same s.managed.pins bare m.caller m.op told e f

  pub pins-stay : is_read m.op ≡ false → (managed_answer s m.caller m.op told).state.managed.pins ≡ s.managed.pins
  pins-stay e = ap (λ (z : Answered ManagedReplay). z.state.managed.pins) (same-but-pins e)

  bare-next : IsOwnLawful bare m told → with_pins (managed_answer (with_pins s (pins_told told)) m.caller m.op (bare_told told)).state no_pins ≡ with_pins
      (managed_answer bare m.caller m.op told).state no_pins
  bare-next w = let t = w.tells ∙ f in λ i. with_pins (managed_answer (with_pins s (plain_pins told t i)) m.caller m.op (plain_told told t i)).state no_pins

  bare-made : (new : ManagedReplay) → GoesOn managed_rules bare m told new → IsMadeIn s m told new
  bare-made new g = record {
    lawful = (let l = bare-lawful g.lawful.1 in record {
      allowed = allows_same s.managed.pins bare m.op told f l.allowed;
      replies = l.replies ∙ sym (ap (λ (z : Answered ManagedReplay). z.reply) (same-but-pins g.lawful.1.own));
    });
    after = g.state ∙ (bare-next g.lawful.1 ∙ sym (ap (λ (z : Answered ManagedReplay). with_pins z.state no_pins) (same-but-pins g.lawful.1.own)));
  }

  pub plain-made : (old new : ManagedReplay) → old ≡ with_pins s no_pins → GoesOn managed_rules old m told new → IsMadeIn s m told new
  plain-made old new e g = bare-made new (subst (λ z. GoesOn managed_rules z m told new) e g)

-- a snap, to which the state's own pins were given
pub snap-made : (s : ManagedReplay) (m : Made) (told : Told) (pins : List (Option ℕ)) (old new : ManagedReplay)
    → old ≡ with_pins s no_pins → pins ≡ s.managed.pins → GoesOn managed_rules old m (kept_pins pins told) new → IsMadeIn s m told new
snap-made s m told pins old new e p g =
    let h : GoesOn managed_rules (with_pins s no_pins) m (kept_pins s.managed.pins told) new = subst
    (λ z. GoesOn managed_rules (with_pins s no_pins) m (kept_pins z told) new) p (subst (λ z. GoesOn managed_rules z m (kept_pins pins told) new) e g) in
    record { lawful = h.lawful.1.lawful; after = h.state }

-- a `take`, to which its thread's own pin was given
record TakesAlike (s : Managed) (pins : List (Option ℕ)) (a b : Answered Managed) : Type 0 where
  reply : a.reply ≡ b.reply
  state : record a.state { pins = no_pins } ≡ record b.state { pins = no_pins }

take-alike : (s : Managed) (pins : List (Option ℕ)) (t v : ℕ) (o : Option ℕ) → TakesAlike s pins (take_by (record s { pins = pins }) t v o) (take_by s t v o)
take-alike s pins t v None = record { reply = refl; state = refl }
take-alike s pins t v (Some x) = record { reply = refl; state = refl }

take-same : (s : Managed) (pins : List (Option ℕ)) (t v : ℕ) → slot pins t ≡ slot s.pins t → TakesAlike s pins (pin_taken (record s { pins = pins }) t v) (pin_taken s t v)
take-same s pins t v e = subst (λ o. TakesAlike s pins (take_by (record s { pins = pins }) t v o) (take_by s t v (slot s.pins t))) (sym e) (take-alike s pins t v (slot s.pins t))

pub take-made : (s : ManagedReplay) (c : Thread) (index : ℕ) (v : Var) (r : Reply) (pins : List (Option ℕ)) (old new : ManagedReplay)
    → old ≡ with_pins s no_pins → slot pins (thread_number c) ≡ slot s.managed.pins (thread_number c)
    → GoesOn managed_rules old (step_made c index (take_op v) r None) (kept_pins pins nothing) new → IsMadeIn s (step_made c index (take_op v) r None) nothing new
take-made s c index v r pins old new e p g =
    let h : GoesOn managed_rules (with_pins s no_pins) (step_made c index (take_op v) r None) (kept_pins pins nothing) new = subst
    (λ z. GoesOn managed_rules z (step_made c index (take_op v) r None) (kept_pins pins nothing) new) e g in
    let t = take-same s.managed pins (thread_number c) (place (thread_number c) v.0) p in
    record {
      lawful = record { allowed = tt; replies = h.lawful.1.lawful.replies ∙ t.reply };
      after = h.state ∙ ap (λ (z : Managed). record s { managed = z }) t.state;
    }
