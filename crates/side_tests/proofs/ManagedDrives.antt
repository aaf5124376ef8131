-- What the calls of a managed side keep that a plain count drives.
use Rattle.std.proofs.Common.{◌≡◌, ℕ, ◌+◌, ◌<◌, ◌⊎◌, inl, inr, [], ◌∷◌, length, Option, Some, None, refl, sym, ap, subst, ◌∙◌, arith, length-append}
use Rattle.std.specs.Prelude.{Contains}
use Rattle.std.proofs.lemmas.List.Elements.{Contains-push_cases}
use Rattle.joint_machine.specs.declared.names.Thread.{Thread}
use Rattle.joint_machine.specs.declared.names.Thread.TheVariants.{M}
use Rattle.joint_machine.specs.declared.lines.Act.{Act}
use Rattle.joint_machine.specs.declared.lines.Act.TheVariants as act
use Rattle.joint_machine.specs.declared.events.Made.{Made}
use Rattle.joint_machine.specs.declared.events.Op.{Op}
use Rattle.joint_machine.specs.declared.events.Op.TheVariants as op
use Rattle.joint_machine.specs.declared.events.Reply.{Reply}
use Rattle.joint_machine.specs.declared.events.Reply.TheVariants as says
use Rattle.joint_machine.specs.Draws.{numbered, counting}
use Rattle.joint_machine.specs.Heaps.{Answered, place, slot}
use Rattle.joint_machine.specs.Lines.{IsManagedThread}
use Rattle.joint_machine.specs.Managed.{Managed, OpenCycle, adopted, met, given_up}
use Rattle.joint_machine.specs.ManagedReplay.{ManagedReplay, managed_answer, adopt_by, meet_by, give_by, registered}
use Rattle.joint_machine.specs.Run.{thread_number}
use Rattle.joint_machine.specs.Sides.{Side, AddsLawful, TakesManaged, managed_rules}
use Rattle.joint_machine.specs.Told.{Told, nothing}
use Rattle.joint_machine.proofs.HeapLemmas.{adopt_by-managed}
use Rattle.joint_laws.specs.ManagedInvariants.{ReplayInvariant}
use Rattle.joint_laws.proofs.ManagedMoves.{managed_line-goes_on, adopted-goes_on, met-goes_on, given_up-goes_on}
use Rattle.joint_laws.proofs.ManagedSteps.{meet_by-managed, give_by-managed, twin-live}
use Rattle.managed_heap.specs.Steps.{IsFresh, IsLineBy, IsManagedStep, IsStepBy}
use Rattle.side_tests.specs.Drives.{IsDriven, NamesNext}
use Rattle.side_tests.proofs.Counting.{counted-once}

-- each handle that a row took was taken before, or has this number
abbrev pub AdoptsNext : ManagedReplay → ManagedReplay → ℕ → Type 0
AdoptsNext old new n = (h : ℕ) → Contains new.adopted h → Contains old.adopted h ⊎ (h ≡ n)

-- an open cycle has so many candidates
abbrev pub HasWaiting : Option OpenCycle → ℕ → Type 0
HasWaiting cycle waiting = (c : OpenCycle) → cycle ≡ Some c → length c.candidates ≡ waiting

-- a call after which each handle that a row took is below the next one, and which leaves so many candidates
pub driven-below : (old new : Side ManagedReplay) (before after waiting waits answered answers : ℕ) (m : Made) (told : Told) → AddsLawful managed_rules counting before after old new m told
    → ((h : ℕ) → Contains (managed_rules.next old.state m told).adopted h → h < length old.entries + 1 + answers)
    → HasWaiting (managed_rules.next old.state m told).managed.cycle waits → IsDriven old before waiting answered → IsDriven new after waits answers
driven-below old new before after waiting waits answered answers m told a below left d =
    let longer : length new.entries ≡ length old.entries + 1 = ap length a.draws.adds.added ∙ length-append old.entries (numbered a.draws.adds.number m ∷ []) in record {
      counted = counted-once managed_rules old new before after m told a d.counted;
      adopts = λ h c. (let l = below h (subst (λ (z : ManagedReplay). Contains z.adopted h) a.goes.state c) in omega (arith, l, longer));
      waits = subst (λ (z : ManagedReplay). HasWaiting z.managed.cycle waits) (sym a.goes.state) left;
    }

-- a call that adopts no handle but the next one, and leaves so many candidates
pub driven-on : (old new : Side ManagedReplay) (before after waiting waits answered : ℕ) (m : Made) (told : Told) → AddsLawful managed_rules counting before after old new m told
    → AdoptsNext old.state (managed_rules.next old.state m told) (length old.entries + answered)
    → HasWaiting (managed_rules.next old.state m told).managed.cycle waits → IsDriven old before waiting answered → IsDriven new after waits answered
driven-on old new before after waiting waits answered m told a named left d =
    driven-below old new before after waiting waits answered answered m told a
    (λ h c. elim (named h c) [ inl o ↦ (let l = d.adopts h o in omega (arith, l)) | inr e ↦ omega (arith, e) ]) left d

-- a refusal changes nothing
pub driven-same : (old new : Side ManagedReplay) (before after waiting answered : ℕ) → (new ≡ old) × (after ≡ before) → IsDriven old before waiting answered → IsDriven new after waiting answered
driven-same old new before after waiting answered e d = subst (λ n. IsDriven new n waiting answered) (sym e.1) (subst (λ z. IsDriven z before waiting answered) (sym e.0) d)

meet-named : (s : ManagedReplay) (p h : ℕ) (after : Managed) (r : Reply) → AdoptsNext s (meet_by s p h after r).state h
meet-named s p h after (says.New m) x c = elim (Contains-push_cases s.adopted h x c) [ inl o ↦ inl o | inr e ↦ inr (sym e) ]
meet-named s p h after _ x c = inl c

adopt-named : (s : ManagedReplay) (p h : ℕ) (after : Managed) (r : Reply) → AdoptsNext s (adopt_by s p h after r).state h
adopt-named s p h after (says.M m) x c = elim (Contains-push_cases s.adopted h x c) [ inl o ↦ inl o | inr e ↦ inr (sym e) ]
adopt-named s p h after _ x c = inl c

give-named : (s : ManagedReplay) (o : Option ℕ) (a : Answered Managed) (n : ℕ) → AdoptsNext s (give_by s o a).state n
give-named s None a n x c = inl c
give-named s (Some m) a n x c = inl c

-- so a step that names no other handle
pub step-named : (s : ManagedReplay) (t : Thread) (o : Op) (n : ℕ) → IsStepBy t o → NamesNext o n → AdoptsNext s (managed_answer s t o nothing).state n
step-named s t (op.Line a) n b e x c = inl c
step-named s t (op.Lend v y) n b e x c = inl c
step-named s t (op.Give v) n b e x c = give-named s _ _ n x c
step-named s t (op.Meet v sort k p h) n b e x c = elim (meet-named s p.0 h.0 _ _ x c) [ inl o ↦ inl o | inr q ↦ inr (q ∙ e) ]
step-named s t (op.Adopt v kind k p h) n b e x c = elim (adopt-named s p.0 h.0 _ _ x c) [ inl o ↦ inl o | inr q ↦ inr (q ∙ e) ]
step-named s t _ n b e x c = absurd b

-- the handle of a step that names no other was adopted by no entry
pub fresh-next : (s : ManagedReplay) (o : Op) (n : ℕ) → NamesNext o n → ((h : ℕ) → Contains s.adopted h → h < n) → IsFresh s o
fresh-next s (op.Meet v sort k p h) n e below = λ c. (let l = below h.0 c in absurd (omega (arith, l, e)))
fresh-next s (op.Adopt v kind k p h) n e below = λ c. (let l = below h.0 c in absurd (omega (arith, l, e)))
fresh-next s _ n e below = tt

-- a step leaves an open cycle as it is
pub step-cycle : (s : ManagedReplay) (t : Thread) (o : Op) → ReplayInvariant s → IsStepBy t o → (managed_answer s t o nothing).state.managed.cycle ≡ s.managed.cycle
step-cycle s t (op.Line a) k b = (managed_line-goes_on s.managed (thread_number t) a k.managed.places k.managed.cells).cycle
step-cycle s t (op.Lend v x) k b = refl
step-cycle s t (op.Give v) k b =
    let u = place (thread_number t) v.0 in
    ap (λ (z : Managed). z.cycle) (give_by-managed s (slot s.managed.heap.vars u) (given_up s.managed u)) ∙ (given_up-goes_on s.managed u).cycle
step-cycle s t (op.Meet v sort n p h) k b =
    let u = place (thread_number t) v.0 in
    let a = met s.managed u h.0 sort n (registered s.registry p.0) in
    ap (λ (z : Managed). z.cycle) (meet_by-managed s p.0 h.0 a.state a.reply) ∙ (met-goes_on s.managed u h.0 sort n (registered s.registry p.0) k.managed.places (λ m e. twin-live s p.0 m k e)).cycle
step-cycle s t (op.Adopt v kind n p h) k b =
    let u = place (thread_number t) v.0 in
    let a = adopted s.managed u kind n h.0 in
    ap (λ (z : Managed). z.cycle) (adopt_by-managed s p.0 h.0 a.state a.reply) ∙ (adopted-goes_on s.managed u kind n h.0 k.managed.places).cycle
step-cycle s t _ k b = absurd b

-- a call that leaves an open cycle as it is
pub driven-still : (old new : Side ManagedReplay) (before after waiting answered : ℕ) (m : Made) (told : Told) → AddsLawful managed_rules counting before after old new m told
    → AdoptsNext old.state (managed_rules.next old.state m told) (length old.entries + answered)
    → (managed_rules.next old.state m told).managed.cycle ≡ old.state.managed.cycle → IsDriven old before waiting answered → IsDriven new after waiting answered
driven-still old new before after waiting answered m told a named same d = driven-on old new before after waiting waiting answered m told a named (λ c o. d.waits c (sym same ∙ o)) d

-- a side for all eight threads takes each step
pub thread-taken : (t : Thread) → IsManagedThread t → TakesManaged 8 t
thread-taken (M i) s = s.1
thread-taken t s = tt

line-taken : (t : Thread) (a : Act) → IsLineBy t a → TakesManaged 8 t
line-taken (M i) (act.Finalise n) s = absurd s
line-taken t (act.Finalise n) s = tt
line-taken t _ s = thread-taken t s.0

pub managed-taken : (t : Thread) (o : Op) → IsManagedStep t o → TakesManaged 8 t
managed-taken t (op.Line a) s = line-taken t a s.1
managed-taken t (op.Lend v x) s = thread-taken t s.1
managed-taken t (op.Adopt v kind n p h) s = thread-taken t s.1
managed-taken t (op.Meet v sort n p h) s = thread-taken t s.1
managed-taken t (op.Give v) s = thread-taken t s.1
managed-taken t _ s = absurd s.1
