-- An abandon: before its mirror the driver's cycle is open, and the call closes it. It may come exactly where it names
-- that cycle, and answers ok.
use Rattle.std.proofs.Common.{◌≡◌, ℕ, Bool, true, false, List, ◌∷◌, length, Option, Some, None, refl, sym, ap, ◌∙◌, subst}
use Rattle.std.specs.Prelude.{IsSome}
use Rattle.joint_machine.specs.declared.names.Cycle.{Cycle}
use Rattle.joint_machine.specs.declared.names.Thread.TheVariants.{C}
use Rattle.joint_machine.specs.declared.events.Made.{Made}
use Rattle.joint_machine.specs.declared.events.Op.TheVariants as op
use Rattle.joint_machine.specs.declared.events.Reply.{Reply}
use Rattle.joint_machine.specs.declared.events.Reply.TheVariants as says
use Rattle.joint_machine.specs.Control as control
use Rattle.joint_machine.specs.Control.{Stand, stand_after}
use Rattle.joint_machine.specs.Histories.{Finished, managed_numbers, peer_numbers}
use Rattle.joint_machine.specs.Linked.{Linkage}
use Rattle.joint_machine.specs.Managed.{OpenCycle, candidates_of}
use Rattle.joint_machine.specs.Sides.{AddsLawful, managed_rules, step_made}
use Rattle.joint_machine.specs.Told.{Noted, Told, nothing}
use Rattle.joint_machine.specs.PinsTold.{no_pins}
use Rattle.joint_laws.specs.Spans.{TellsNamed}
use Rattle.known_laws.specs.Driving.{PastInvariant}
use Rattle.known_laws.specs.Known.{pinned}
use Rattle.known_laws.proofs.Conditions.{unmirrored_may_be_abandoned}
use Rattle.check_laws.specs.Behind.{state_of}
use Rattle.check_laws.specs.Order.{AbandonData, AbandonTurn}
use Rattle.managed_heap.specs.Calls.{abandon_made}
use Rattle.managed_heap.specs.Sides.{ManagedModel, as_side}
use Rattle.run_check.specs.declared.cycles.OpenCycle.{OpenCycle as Kept}
use Rattle.run_check.specs.declared.draws.Recorder.{Recorder}
use Rattle.run_check.specs.declared.replays.Replay.{Replay}
use Rattle.run_check.specs.Cycles.{CycleFollows, HasCycle, IsOpenHere}
use Rattle.run_check.specs.Follows.{LeftFits}
use Rattle.run_check.specs.Judging.{MayNotReply, MayReply, next_noted}
use Rattle.run_check.proofs.Drawing.{counted, drawing}
use Rattle.run_check.proofs.Longer.{control-next, managed-longer, peers-longer, stores-longer}
use Rattle.run_check.proofs.OneReply.{HasMade, IsSame, Judges, replies_by}
use Rattle.run_check.proofs.OwnEntries.{IsMadeIn, plain-made}
use Rattle.run_check.proofs.PastFacts.{past_kept}

-- the driver is idle afterwards
idle_after : (stand : Stand) (n : ℕ) (k : Cycle) (reply : Reply) (told : Told) → stand_after stand n (op.Abandon k) reply told ≡ control.idle
idle_after control.idle n k reply told = refl
idle_after (control.snapped o) n k reply told = refl
idle_after (control.contracted o comps heavy xrefs) n k reply told = refl
idle_after (control.weakening o count weakened swept) n k reply told = refl
idle_after (control.marked o) n k reply told = refl
idle_after (control.restoring o answers) n k reply told = refl
idle_after (control.restored o answers clear) n k reply told = refl

-- the open cycle, and that the driver's is the one that is kept
pub record Unmirrored (s : Linkage) (o : Kept) : Type 0 where
  pub cycle : OpenCycle
  pub opened : s.managed.managed.cycle ≡ Some cycle
  pub number : cycle.number ≡ o.cycle.0
  pub data_is : AbandonData s.control.stand o.cycle.0

unmirrored : (s : Linkage) (o : Kept) → PastInvariant (pinned s no_pins) → AbandonTurn s.control.stand → HasCycle s.control.stand o → Unmirrored s o
unmirrored s o k turn has = by s.control.stand refl turn has
  where
    so : (st : Stand) → s.control.stand ≡ st → (c : OpenCycle) → s.managed.managed.cycle ≡ Some c → c.number ≡ o.cycle.0 → AbandonData st o.cycle.0 → Unmirrored s o
    so st e c q n d = record { cycle = c; opened = q; number = n; data_is = subst (λ z. AbandonData z o.cycle.0) (sym e) d }

    by : (st : Stand) → s.control.stand ≡ st → AbandonTurn st → HasCycle st o → Unmirrored s o
    by (control.snapped p) e t h = let u = (unmirrored_may_be_abandoned (pinned s no_pins) k p).0 e in so (control.snapped p) e u.0 u.1.0 (u.1.1 ∙ sym h) (sym h)
    by (control.contracted p comps heavy xrefs) e t h =
        let u = (unmirrored_may_be_abandoned (pinned s no_pins) k p).1 comps heavy xrefs e in so (control.contracted p comps heavy xrefs) e u.0 u.1.0 (u.1.1 ∙ sym h.0) (sym h.0)
    by control.idle e t h = absurd t
    by (control.weakening p count weakened swept) e t h = absurd t
    by (control.marked p) e t h = absurd t
    by (control.restoring p answers) e t h = absurd t
    by (control.restored p answers clear) e t h = absurd t

data_names : (st : Stand) (o : Kept) (k : ℕ) → HasCycle st o → AbandonData st k → o.cycle.0 ≡ k
data_names (control.snapped p) o k h d = h ∙ d
data_names (control.contracted p comps heavy xrefs) o k h d = h.0 ∙ d
data_names control.idle o k h d = absurd h
data_names (control.weakening p count weakened swept) o k h d = absurd d
data_names (control.marked p) o k h d = absurd d
data_names (control.restoring p answers) o k h d = absurd d
data_names (control.restored p answers clear) o k h d = absurd d

abbrev pub abandoning : Cycle → ℕ → Reply → Made
abandoning k index reply = step_made C index (op.Abandon k) reply None

module _ (h : Finished) (past : List Noted) (old : Replay) (k : Cycle) (index : ℕ) (reply : Reply) (may : MayReply h past old (abandoning k index reply)) where
  abbrev s : Linkage
  s = state_of past

  -- a cycle is kept
  pub abandon_some : old.cycle ≡ None → ⊥
  abandon_some e = subst AbandonTurn (subst (CycleFollows s) e may.sides.cycle) may.next.turn.turn

  module _ (o : Kept) (is : old.cycle ≡ Some o) where
    here : IsOpenHere s o
    here = subst (CycleFollows s) is may.sides.cycle

    -- it is open
    pub abandon_open : Unmirrored s o
    abandon_open = unmirrored s o (past_kept h past may.next.so_far) may.next.turn.turn here.stands

    pub abandon_side : old.managed.state.managed.cycle ≡ Some abandon_open.cycle
    abandon_side = ap (λ z. z.managed.cycle) may.sides.managed.state ∙ abandon_open.opened

    pub abandon_may : IsSome old.managed.state.managed.cycle
    abandon_may = subst IsSome (sym abandon_side) refl

    -- no other cycle is abandoned
    pub abandon_other : (o.cycle.0 ≡ k.0 → ⊥) → MayNotReply h past (abandoning k index reply)
    abandon_other differ u q = differ (data_names s.control.stand o k.0 here.stands q.replies.driven)

    module _ (same : o.cycle.0 ≡ k.0) (draw : Recorder) (managed : ManagedModel)
        (adds : AddsLawful managed_rules drawing old.draw draw (as_side old.managed) (as_side managed) (abandon_made abandon_open.cycle index) nothing) where
      abbrev made : Made
      made = abandoning k index says.Ok

      named : AddsLawful managed_rules drawing old.draw draw (as_side old.managed) (as_side managed) made nothing
      named = subst (λ n. AddsLawful managed_rules drawing old.draw draw (as_side old.managed) (as_side managed) (abandoning (record { 0 = n }) index says.Ok) nothing)
          (abandon_open.number ∙ same) adds

      lawful : IsMadeIn s.managed made nothing managed.state
      lawful = plain-made s.managed made nothing refl old.managed.state managed.state may.sides.managed.state named.goes

      abbrev new : Replay
      new = record old { managed = managed; draw = draw; cycle = None }

      abbrev longer : List Noted
      longer = next_noted past made nothing ∷ past

      idle : (state_of longer).control.stand ≡ control.idle
      idle = ap (λ z. z.stand) (control-next past made nothing refl refl) ∙ idle_after s.control.stand (length past) k says.Ok nothing

      pub abandon_made_so : HasMade past (abandoning k index reply) says.Ok nothing old new
      abandon_made_so = record {
        replies = replies_by s (length past) made nothing refl lawful.lawful (subst (AbandonData s.control.stand) same abandon_open.data_is);
        sides = record {
          drawn = counted past old.draw draw (as_side old.managed) (as_side managed) made nothing may.sides.drawn named;
          managed = managed-longer past made nothing refl refl old.managed managed draw.counter may.sides.managed named.threads named.draws.below
              (counted past old.draw draw (as_side old.managed) (as_side managed) made nothing may.sides.drawn named) lawful;
          peers = peers-longer past made nothing refl refl old.peers may.sides.peers
              (subst (λ z. LeftFits z (length (candidates_of (state_of longer).managed.managed)) old.peers.reserve.left) (sym idle) tt);
          stores = stores-longer past made nothing refl refl old.readers refl refl may.sides.stores;
          cycle = idle;
        };
        rest = record { turns = refl; counts = refl; owed = refl };
      }

      -- so it is right exactly where it answers ok
      pub abandon_judges : (b : Bool) → (b ≡ true → reply ≡ says.Ok) → (reply ≡ says.Ok → b ≡ true) → Judges h past (abandoning k index reply) old new b
      abandon_judges b right back = record {
        reply = says.Ok;
        told = nothing;
        made = abandon_made_so;
        if_true = λ e. record {
          reply = sym (right e);
          names = record {
            freed = subst (λ r. TellsNamed (managed_numbers h.freed_managed) (peer_numbers h.freed_peers) r nothing) (sym (right e)) tt;
            taken = λ span q. absurd (let f = sym (right e) ∙ q in cc);
          };
        };
        if_same = λ w. back (sym w.reply);
      }
