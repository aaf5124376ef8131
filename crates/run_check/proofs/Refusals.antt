-- A refusal: the phase that its reply names is the one in which it was refused, and if none is told no reply is right.
use Rattle.std.proofs.Common.{◌≡◌, inl, inr, ℕ, zero, suc, ◌+◌, ◌<◌, ◌≤◌, ◌↔◌, Bool, true, false, not, ◌&&◌, List, [], ◌∷◌, length, Option, Some, None, refl, sym, ap, ◌∙◌, subst, arith, true≢false}
use Rattle.std.specs.Prelude.{◌⊎◌, if◌then◌else◌, nat_eq}
use Rattle.std.proofs.lemmas.Bool.{eq-eqb, eqb-true}
use Rattle.std.proofs.lemmas.Option.{same_Some}
use Rattle.joint_machine.specs.declared.names.Phase.{Phase}
use Rattle.joint_machine.specs.declared.names.Phase.TheVariants as at
use Rattle.joint_machine.specs.declared.names.PhaseWord.{PhaseWord}
use Rattle.joint_machine.specs.declared.names.PhaseWord.TheVariants as word
use Rattle.joint_machine.specs.declared.names.Span.{Span}
use Rattle.joint_machine.specs.declared.names.Thread.TheVariants.{C}
use Rattle.joint_machine.specs.declared.events.Made.{Made}
use Rattle.joint_machine.specs.declared.events.Op.TheVariants as op
use Rattle.joint_machine.specs.declared.events.Reply.{Reply}
use Rattle.joint_machine.specs.declared.events.Reply.TheVariants as says
use Rattle.joint_machine.specs.Control as control
use Rattle.joint_machine.specs.Control.{IsPhaseOf, stand_after}
use Rattle.joint_machine.specs.Histories.{Finished, managed_numbers, peer_numbers}
use Rattle.joint_machine.specs.Linked.{Linkage}
use Rattle.joint_machine.specs.Managed.{Managed, OpenCycle, candidates_of}
use Rattle.joint_machine.specs.ManagedReplay.{ManagedReplay, MayRefuse, open_reply, refusal_to}
use Rattle.joint_machine.specs.Phases.{next_phase}
use Rattle.joint_machine.specs.Sides.{AddsLawful, managed_rules, step_made}
use Rattle.joint_machine.specs.Told.{Told, Noted, Answer, nothing, snap_of, contraction_of, references_of, slice_of, sweep_of, resolution_of, phase_of, kept_pins}
use Rattle.joint_machine.specs.PinsTold.{no_pins}
use Rattle.joint_machine.proofs.Deciding.{none_some}
use Rattle.joint_laws.specs.LinkedInvariants.{given_at}
use Rattle.joint_laws.specs.Spans.{TellsNamed}
use Rattle.known_laws.specs.Driving.{PastInvariant}
use Rattle.known_laws.specs.Known.{pinned}
use Rattle.known_laws.specs.PastEntries.{TellsPlainly}
use Rattle.known_laws.proofs.Conditions.{refused_may_be_told}
use Rattle.check_laws.specs.Behind.{SideReplies, state_of}
use Rattle.check_laws.specs.Order.{RefusalData}
use Rattle.caller_turns.specs.Shapes.{next_place, stand_of}
use Rattle.managed_heap.specs.Graphs.{IsDeadGraph}
use Rattle.managed_heap.specs.Sides.{ManagedModel, as_side}
use Rattle.run_check.specs.declared.cycles.OpenCycle.{OpenCycle as Kept}
use Rattle.run_check.specs.declared.draws.Recorder.{Recorder}
use Rattle.run_check.specs.declared.replays.Replay.{Replay}
use Rattle.run_check.specs.Cycles.{CycleFollows, HasCycle, IsAtHandle, IsOpenHere}
use Rattle.run_check.specs.Follows.{LeftFits}
use Rattle.run_check.specs.Judging.{MayNotReply, MayReply, Replied, next_noted}
use Rattle.run_check.specs.Phases.{IsRefusedAt, is_weakened, plain_phase, told_phase, weakening_phase}
use Rattle.run_check.proofs.Drawing.{counted, drawing}
use Rattle.run_check.proofs.Longer.{control-next, managed-longer, managed-next, peers-longer, stores-longer}
use Rattle.run_check.proofs.OneReply.{replies_by}
use Rattle.run_check.proofs.OwnEntries.{IsMadeIn, plain-made}
use Rattle.run_check.proofs.PastFacts.{past_kept}

apart : (n : ℕ) → nat_eq (suc n) 0 ≡ false
apart n = by (nat_eq (suc n) 0) refl
  where
    by : (b : Bool) → nat_eq (suc n) 0 ≡ b → nat_eq (suc n) 0 ≡ false
    by true q = absurd (let z = eqb-true (suc n) 0 q in omega (arith, z))
    by false q = q

-- the phase that is told is the driver's
weakening-sound : (q : control.OpenSnap) (count : ℕ) (weakened swept : Bool) (c : ℕ) (p : Phase)
    → weakening_phase count weakened swept c ≡ Some p → IsPhaseOf (control.weakening q count weakened swept) c p
weakening-sound q count weakened true c p e = absurd (none_some p e)
weakening-sound q count weakened false c p e = by (nat_eq count 0) weakened (nat_eq count c) refl refl refl e
  where
    by : (a w b : Bool) → nat_eq count 0 ≡ a → weakened ≡ w → nat_eq count c ≡ b
        → (if a && not w then Some at.Mirrored else if b then Some at.Weakened else None) ≡ Some p → IsPhaseOf (control.weakening q count weakened false) c p
    by true false b x y z e = (refl, inl (sym (same_Some at.Mirrored p e), eqb-true count 0 x, y))
    by true true true x y z e = (refl, inr (sym (same_Some at.Weakened p e), eqb-true count c z))
    by true true false x y z e = absurd (none_some p e)
    by false w true x y z e = (refl, inr (sym (same_Some at.Weakened p e), eqb-true count c z))
    by false w false x y z e = absurd (none_some p e)

plain-sound : (d : control.Stand) (c : ℕ) (p : Phase) → plain_phase (stand_of d) c ≡ Some p → IsPhaseOf d c p
plain-sound control.idle c p e = sym (same_Some at.Idle p e)
plain-sound (control.snapped o) c p e = sym (same_Some at.Snapped p e)
plain-sound (control.contracted o comps heavy xrefs) c p e = sym (same_Some at.Contracted p e)
plain-sound (control.weakening o count weakened swept) c p e = weakening-sound o count weakened swept c p e
plain-sound (control.marked o) c p e = sym (same_Some at.Marked p e)
plain-sound (control.restoring o []) c p e = (refl, sym (same_Some at.Swept p e))
plain-sound (control.restoring o (a ∷ answers)) c p e = absurd (none_some p (sym (ap (λ b. if b then Some at.Swept else None) (apart (length answers))) ∙ e))
plain-sound (control.restored o answers clear) c p e = sym (same_Some at.Restored p e)

weakened-sound : (d : control.Stand) (c : ℕ) → is_weakened (stand_of d) c ≡ true → IsPhaseOf d c at.Weakened
weakened-sound (control.weakening o count weakened false) c e = (refl, inr (refl, eqb-true count c e))
weakened-sound d c e = absurd (let f : false ≡ true = e in cc)

pub phase-sound : (d : control.Stand) (c : ℕ) (r : Reply) (p : Phase) → told_phase (stand_of d) c r ≡ Some p → IsPhaseOf d c p
phase-sound d c (says.At at.Weakened) p e = by (is_weakened (stand_of d) c) refl e
  where
    by : (b : Bool) → is_weakened (stand_of d) c ≡ b → (if b then Some at.Weakened else plain_phase (stand_of d) c) ≡ Some p → IsPhaseOf d c p
    by true q e = subst (IsPhaseOf d c) (same_Some at.Weakened p e) (weakened-sound d c q)
    by false q e = plain-sound d c p e
phase-sound d c r p e = plain-sound d c p e

-- elsewhere than between the mirror and the own marking the reply decides nothing
told-plain : (d : control.Stand) (c : ℕ) (r : Reply) → is_weakened (stand_of d) c ≡ false → told_phase (stand_of d) c r ≡ plain_phase (stand_of d) c
told-plain d c (says.At at.Weakened) e = ap (λ b. if b then Some at.Weakened else plain_phase (stand_of d) c) e
told-plain d c r e = refl

-- a reply that names no weakened phase
told-open : (d : control.Stand) (c : ℕ) (o : Option OpenCycle) → told_phase (stand_of d) c (open_reply o) ≡ plain_phase (stand_of d) c
told-open d c None = refl
told-open d c (Some x) = refl

-- where the mirror stands and no handle is left the plain phase is the weakened one, once it was seen
seen-plain : (o : control.OpenSnap) (count : ℕ) (weakened : Bool) (c : ℕ) → count ≡ c → (count ≡ 0 → weakened ≡ true) → weakening_phase count weakened false c ≡ Some at.Weakened
seen-plain o zero weakened c e w = ap (λ b. if not b then Some at.Mirrored else if nat_eq 0 c then Some at.Weakened else None) (w refl) ∙ ap (λ b. if b then Some at.Weakened else None) (eq-eqb 0 c e)
seen-plain o (suc n) weakened c e w = ap (λ b. if b && not weakened then Some at.Mirrored else if nat_eq (suc n) c then Some at.Weakened else None) (apart n)
    ∙ ap (λ b. if b then Some at.Weakened else None) (eq-eqb (suc n) c e)

mirrored-plain : (count : ℕ) (weakened : Bool) (c : ℕ) → count ≡ 0 → weakened ≡ false → weakening_phase count weakened false c ≡ Some at.Mirrored
mirrored-plain count weakened c e w = ap (λ b. if nat_eq count 0 && not b then Some at.Mirrored else if nat_eq count c then Some at.Weakened else None) w
    ∙ ap (λ n. if nat_eq n 0 && true then Some at.Mirrored else if nat_eq n c then Some at.Weakened else None) e

-- each phase in which a reply is right, told plainly, is the one that is told by it
phase-at : (m : Managed) (o : control.OpenSnap) (count : ℕ) (weakened : Bool) (c : ℕ) (w : PhaseWord)
    → count ≡ c → TellsPlainly (control.weakening o count weakened false) (op.Refused w) (phase_of at.Weakened)
    → told_phase (stand_of (control.weakening o count weakened false)) c (refusal_to m at.Weakened w) ≡ Some at.Weakened
phase-at m o count weakened c word.Cycle e t = told-open (control.weakening o count weakened false) c m.cycle ∙ seen-plain o count weakened c e t
phase-at m o count weakened c word.Snap e t = told-open (control.weakening o count weakened false) c m.cycle ∙ seen-plain o count weakened c e t
phase-at m o count weakened c w e t = ap (λ b. if b then Some at.Weakened else weakening_phase count weakened false c) (eq-eqb count c e)

mirrored-at : (m : Managed) (o : control.OpenSnap) (count : ℕ) (weakened : Bool) (c : ℕ) (w : PhaseWord) → count ≡ 0 → weakened ≡ false
    → told_phase (stand_of (control.weakening o count weakened false)) c (refusal_to m at.Mirrored w) ≡ Some at.Mirrored
mirrored-at m o count weakened c word.Cycle e t = told-open (control.weakening o count weakened false) c m.cycle ∙ mirrored-plain count weakened c e t
mirrored-at m o count weakened c word.Snap e t = told-open (control.weakening o count weakened false) c m.cycle ∙ mirrored-plain count weakened c e t
mirrored-at m o count weakened c w e t = mirrored-plain count weakened c e t

pub phase-full : (m : Managed) (d : control.Stand) (c : ℕ) (w : PhaseWord) (p : Phase) → IsPhaseOf d c p
    → TellsPlainly d (op.Refused w) (phase_of p) → told_phase (stand_of d) c (refusal_to m p w) ≡ Some p
phase-full m control.idle c w p i t = told-plain control.idle c (refusal_to m p w) refl ∙ ap Some (sym i)
phase-full m (control.snapped o) c w p i t = told-plain (control.snapped o) c (refusal_to m p w) refl ∙ ap Some (sym i)
phase-full m (control.contracted o comps heavy xrefs) c w p i t = told-plain (control.contracted o comps heavy xrefs) c (refusal_to m p w) refl ∙ ap Some (sym i)
phase-full m (control.weakening o count weakened true) c w p i t = absurd (true≢false i.0)
phase-full m (control.weakening o count weakened false) c w p i t = elim i.1 [
  | inl x ↦ subst (λ z. told_phase (stand_of (control.weakening o count weakened false)) c (refusal_to m z w) ≡ Some z) (sym x.0) (mirrored-at m o count weakened c w x.1 x.2)
  | inr x ↦ subst (λ z. told_phase (stand_of (control.weakening o count weakened false)) c (refusal_to m z w) ≡ Some z) (sym x.0)
      (phase-at m o count weakened c w x.1 (subst (λ z. TellsPlainly (control.weakening o count weakened false) (op.Refused w) (phase_of z)) x.0 t))
]
phase-full m (control.marked o) c w p i t = told-plain (control.marked o) c (refusal_to m p w) refl ∙ ap Some (sym i)
phase-full m (control.restoring o []) c w p i t = told-plain (control.restoring o []) c (refusal_to m p w) refl ∙ ap Some (sym i.1)
phase-full m (control.restoring o (a ∷ answers)) c w p i t = absurd (let f : false ≡ true = (let q = i.0 in cc) in true≢false (sym f))
phase-full m (control.restored o answers clear) c w p i t = told-plain (control.restored o answers clear) c (refusal_to m p w) refl ∙ ap Some (sym i)

-- what is told by it is told plainly
unseen : (o : control.OpenSnap) (count : ℕ) (weakened swept : Bool) (c : ℕ) → weakening_phase count weakened swept c ≡ Some at.Weakened → count ≡ 0 → weakened ≡ true
unseen o zero true swept c e z = refl
unseen o zero false true c e z = absurd (none_some at.Weakened e)
unseen o zero false false c e z = absurd (let f = same_Some at.Mirrored at.Weakened e in cc)
unseen o (suc n) weakened swept c e z = absurd (omega (arith, z))

open-plainly : (d : control.Stand) (c : ℕ) (o : Option OpenCycle) (p : Phase) → told_phase (stand_of d) c (open_reply o) ≡ Some p → TellsPlainly d (op.Refused word.Cycle) (phase_of p)
open-plainly (control.weakening q count weakened swept) c o at.Weakened e = unseen q count weakened swept c (sym (told-open (control.weakening q count weakened swept) c o) ∙ e)
open-plainly d c o at.Weakened e = tt
open-plainly d c o p e = tt

open-plainly-snap : (d : control.Stand) (c : ℕ) (o : Option OpenCycle) (p : Phase) → told_phase (stand_of d) c (open_reply o) ≡ Some p → TellsPlainly d (op.Refused word.Snap) (phase_of p)
open-plainly-snap (control.weakening q count weakened swept) c o at.Weakened e = unseen q count weakened swept c (sym (told-open (control.weakening q count weakened swept) c o) ∙ e)
open-plainly-snap d c o at.Weakened e = tt
open-plainly-snap d c o p e = tt

pub plainly-told : (m : Managed) (d : control.Stand) (c : ℕ) (w : PhaseWord) (p : Phase) → told_phase (stand_of d) c (refusal_to m p w) ≡ Some p → TellsPlainly d (op.Refused w) (phase_of p)
plainly-told m d c word.Cycle p e = open-plainly d c m.cycle p e
plainly-told m d c word.Snap p e = open-plainly-snap d c m.cycle p e
plainly-told m d c w p e = tt

-- such a reply names no list
open-named : (o : Option OpenCycle) (ms ps : List ℕ) (p : Phase) → TellsNamed ms ps (open_reply o) (phase_of p)
open-named None ms ps p = tt
open-named (Some c) ms ps p = tt

refusal-named : (m : Managed) (p : Phase) (w : PhaseWord) (ms ps : List ℕ) → TellsNamed ms ps (refusal_to m p w) (phase_of p)
refusal-named m p word.Cycle ms ps = open-named m.cycle ms ps p
refusal-named m p word.Snap ms ps = open-named m.cycle ms ps p
refusal-named m p w ms ps = tt

open-took : (o : Option OpenCycle) (span : Span) → open_reply o ≡ says.Took span → ⊥
open-took None span e = cc
open-took (Some c) span e = cc

refusal-took : (m : Managed) (p : Phase) (w : PhaseWord) (span : Span) → refusal_to m p w ≡ says.Took span → ⊥
refusal-took m p word.Cycle span e = open-took m.cycle span e
refusal-took m p word.Snap span e = open-took m.cycle span e
refusal-took m p w span e = cc

-- the driver's stand behind a refusal: nothing that is kept of the open cycle goes by whether the weakened phase was
-- seen
refused-cycle : (d : control.Stand) (n : ℕ) (w : PhaseWord) (r : Reply) (told : Told) (o : Kept) → HasCycle d o → HasCycle (stand_after d n (op.Refused w) r told) o
refused-cycle (control.weakening q count weakened swept) n w r told o h = h
refused-cycle control.idle n w r told o h = h
refused-cycle (control.snapped q) n w r told o h = h
refused-cycle (control.contracted q comps heavy xrefs) n w r told o h = h
refused-cycle (control.marked q) n w r told o h = h
refused-cycle (control.restoring q answers) n w r told o h = h
refused-cycle (control.restored q answers clear) n w r told o h = h

refused-place : (d : control.Stand) (n : ℕ) (w : PhaseWord) (r : Reply) (told : Told) → next_place (stand_after d n (op.Refused w) r told) ≡ next_place d
refused-place (control.weakening q count weakened swept) n w r told = refl
refused-place control.idle n w r told = refl
refused-place (control.snapped q) n w r told = refl
refused-place (control.contracted q comps heavy xrefs) n w r told = refl
refused-place (control.marked q) n w r told = refl
refused-place (control.restoring q answers) n w r told = refl
refused-place (control.restored q answers clear) n w r told = refl

refused-given : (d : control.Stand) (n : ℕ) (w : PhaseWord) (r : Reply) (told : Told) → given_at d ≡ given_at (stand_after d n (op.Refused w) r told)
refused-given (control.weakening q count weakened swept) n w r told = refl
refused-given control.idle n w r told = refl
refused-given (control.snapped q) n w r told = refl
refused-given (control.contracted q comps heavy xrefs) n w r told = refl
refused-given (control.marked q) n w r told = refl
refused-given (control.restoring q answers) n w r told = refl
refused-given (control.restored q answers clear) n w r told = refl

refused-left : (d : control.Stand) (n : ℕ) (w : PhaseWord) (r : Reply) (told : Told) (c left : ℕ) → LeftFits d c left → LeftFits (stand_after d n (op.Refused w) r told) c left
refused-left (control.weakening q count weakened swept) n w r told c left h = h
refused-left control.idle n w r told c left h = tt
refused-left (control.snapped q) n w r told c left h = tt
refused-left (control.contracted q comps heavy xrefs) n w r told c left h = tt
refused-left (control.marked q) n w r told c left h = tt
refused-left (control.restoring q answers) n w r told c left h = tt
refused-left (control.restored q answers clear) n w r told c left h = tt

idle-stays : (d : control.Stand) (n : ℕ) (w : PhaseWord) (r : Reply) (told : Told) → d ≡ control.idle → stand_after d n (op.Refused w) r told ≡ control.idle
idle-stays d n w r told e = ap (λ z. stand_after z n (op.Refused w) r told) e

-- the driver's refusal
abbrev pub refusing : PhaseWord → ℕ → Reply → Made
refusing w index reply = step_made C index (op.Refused w) reply None

module _ (h : Finished) (past : List Noted) (old : Replay) (w : PhaseWord) (index : ℕ) (reply : Reply) (may : MayReply h past old (refusing w index reply)) where
  abbrev s : Linkage
  s = state_of past

  abbrev phase-told : Option Phase
  phase-told = told_phase (stand_of s.control.stand) (length (candidates_of s.managed.managed)) reply

  -- what a right one tells
  record Tells : Type 0 where
    phase : Phase
    told : phase-told ≡ Some phase
    refused : next_phase phase w ≡ None
    replies : reply ≡ refusal_to s.managed.managed phase w

  only : (told : Told) → SideReplies h past (next_noted past (refusing w index reply) told) → Tells
  only (phase_of p) r = record {
    phase = p;
    told = ap (told_phase (stand_of s.control.stand) (length (candidates_of s.managed.managed))) r.replies.lawful.replies
        ∙ phase-full s.managed.managed s.control.stand (length (candidates_of s.managed.managed)) w p r.replies.driven r.plain;
    refused = r.replies.lawful.allowed.refused;
    replies = r.replies.lawful.replies;
  }
  only nothing r = absurd r.replies.driven
  only (snap_of a b c) r = absurd r.replies.driven
  only (contraction_of a b c) r = absurd r.replies.driven
  only (references_of a) r = absurd r.replies.driven
  only (slice_of a) r = absurd r.replies.driven
  only (sweep_of a) r = absurd r.replies.driven
  only (resolution_of a b) r = absurd r.replies.driven
  only (kept_pins a b) r = absurd r.replies.driven

  -- none where the word isn't refused in the phase that is told
  pub none-right : IsRefusedAt w phase-told None → MayNotReply h past (refusing w index reply)
  none-right never told r = (let t = only told r in never t.phase t.told t.refused)

  module _ (p : Phase) (at-is : phase-told ≡ Some p) (refused : next_phase p w ≡ None) where
    is-phase : IsPhaseOf s.control.stand (length (candidates_of s.managed.managed)) p
    is-phase = phase-sound s.control.stand (length (candidates_of s.managed.managed)) reply p at-is

    -- the side may refuse it
    pub may-refuse : MayRefuse old.managed.state w p
    may-refuse = subst (λ (z : ManagedReplay). MayRefuse z w p) (sym may.sides.managed.state) (refused_may_be_told (pinned s no_pins) (past_kept h past may.next.so_far) w p is-phase refused)

    module _ (r : Reply) (d : Recorder) (side : ManagedModel) (adds : AddsLawful managed_rules drawing old.draw d (as_side old.managed) (as_side side) (refusing w index r) (phase_of p)) where
      made-in : IsMadeIn s.managed (refusing w index r) (phase_of p) side.state
      made-in = plain-made s.managed (refusing w index r) (phase_of p) refl old.managed.state side.state may.sides.managed.state adds.goes

      own-is : r ≡ refusal_to s.managed.managed p w
      own-is = made-in.lawful.replies

      -- another reply is wrong
      pub other-wrong : (r ≡ reply → ⊥) → MayNotReply h past (refusing w index reply)
      other-wrong differ told x =
          let t = only told x in
          differ (own-is ∙ sym (t.replies ∙ ap (λ z. refusal_to s.managed.managed z w) (same_Some t.phase p (sym t.told ∙ at-is))))

      -- and the same one is right
      module _ (same : r ≡ reply) where
        abbrev m : Made
        m = refusing w index reply

        abbrev note : Noted
        note = next_noted past m (phase_of p)

        made-same : IsMadeIn s.managed m (phase_of p) side.state
        made-same = subst (λ z. IsMadeIn s.managed (refusing w index z) (phase_of p) side.state) same made-in

        reply-is : reply ≡ refusal_to s.managed.managed p w
        reply-is = sym same ∙ own-is

        next-stand : (state_of (note ∷ past)).control.stand ≡ stand_after s.control.stand (length past) (op.Refused w) reply (phase_of p)
        next-stand = ap (λ (z : control.Control). z.stand) (control-next past m (phase_of p) refl refl)

        managed-same : (state_of (note ∷ past)).managed ≡ s.managed
        managed-same = managed-next past m (phase_of p) refl refl

        cycle-on : (c : Option Kept) → CycleFollows s c → CycleFollows (state_of (note ∷ past)) c
        cycle-on None f = next-stand ∙ idle-stays s.control.stand (length past) w reply (phase_of p) f
        cycle-on (Some o) f = record {
          cycle = f.cycle;
          opened = ap (λ (z : ManagedReplay). z.managed.cycle) managed-same ∙ f.opened;
          graph = subst (λ (z : ManagedReplay). IsDeadGraph z.managed f.cycle.dead o.graph) (sym managed-same) f.graph;
          part = f.part;
          count = f.count;
          stands = subst (λ d. HasCycle d o) (sym next-stand) (refused-cycle s.control.stand (length past) w reply (phase_of p) o f.stands);
          next = subst (IsAtHandle o.graph.nodes o.place) (sym (ap next_place next-stand ∙ refused-place s.control.stand (length past) w reply (phase_of p))) f.next;
          given = f.given ∙ (refused-given s.control.stand (length past) w reply (phase_of p) ∙ ap given_at (sym next-stand));
          room = f.room;
        }

        pub refusal-replied : Replied h past m old (record old { managed = side; draw = d }) (phase_of p)
        refusal-replied = record {
          replies = record {
            replies = replies_by s (length past) m (phase_of p) refl made-same.lawful is-phase;
            plain = plainly-told s.managed.managed s.control.stand (length (candidates_of s.managed.managed)) w p
                (subst (λ z. told_phase (stand_of s.control.stand) (length (candidates_of s.managed.managed)) z ≡ Some p) reply-is at-is);
            names = record {
              freed = subst (λ z. TellsNamed (managed_numbers h.freed_managed) (peer_numbers h.freed_peers) z (phase_of p))
                  (sym reply-is) (refusal-named s.managed.managed p w (managed_numbers h.freed_managed) (peer_numbers h.freed_peers));
              taken = λ span e. absurd (refusal-took s.managed.managed p w span (sym reply-is ∙ e));
            };
            snap = may.snap;
          };
          sides = record {
            drawn = counted past old.draw d (as_side old.managed) (as_side side) (refusing w index r) (phase_of p) may.sides.drawn adds;
            managed = managed-longer past m (phase_of p) refl refl old.managed side d.counter may.sides.managed adds.threads adds.draws.below
                (counted past old.draw d (as_side old.managed) (as_side side) (refusing w index r) (phase_of p) may.sides.drawn adds) made-same;
            peers = peers-longer past m (phase_of p) refl refl old.peers may.sides.peers
                (subst (λ (z : ManagedReplay). LeftFits (state_of (note ∷ past)).control.stand (length (candidates_of z.managed)) old.peers.reserve.left) (sym managed-same)
                (subst (λ z. LeftFits z (length (candidates_of s.managed.managed)) old.peers.reserve.left) (sym next-stand)
                (refused-left s.control.stand (length past) w reply (phase_of p) (length (candidates_of s.managed.managed)) old.peers.reserve.left may.sides.peers.reserve.left)));
            stores = stores-longer past m (phase_of p) refl refl old.readers refl refl may.sides.stores;
            cycle = cycle-on old.cycle may.sides.cycle;
          };
          rest = record { turns = refl; counts = refl; owed = refl };
        }
