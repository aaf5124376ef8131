-- One entry judged: which test fails, or that the replay follows the longer past.
use Rattle.std.proofs.Common.{◌≡◌, ℕ, ◌+◌, ◌<◌, ◌≤◌, ◌^◌, ◌↔◌, Bool, true, false, not, ◌&&◌, List, [], ◌∷◌, length, Option, Some, None, refl, sym, ap, ◌∙◌, subst, arith, true≢false}
use Rattle.std.specs.Prelude.{IsTrue}
use Rattle.joint_machine.specs.declared.names.Phase.{Phase}
use Rattle.joint_machine.specs.declared.events.Entry.{Entry}
use Rattle.joint_machine.specs.declared.events.Made.{Made}
use Rattle.joint_machine.specs.Control.{control_after}
use Rattle.joint_machine.specs.Draws.{numbered}
use Rattle.joint_machine.specs.Histories.{Finished}
use Rattle.joint_machine.specs.Lines.{is_read}
use Rattle.joint_machine.specs.Linked.{Linkage}
use Rattle.joint_machine.specs.Readers.{entry_after}
use Rattle.joint_machine.specs.Told.{Told, Noted, nothing}
use Rattle.check_laws.specs.declared.findings.Why.TheVariants as why
use Rattle.check_laws.specs.Behind.{AllInOrder, GivesSnap, IsInOrderBehind, RepliesBehind, state_of}
use Rattle.check_laws.specs.Findings.{FailsBy}
use Rattle.check_laws.specs.Known.{managed_count}
use Rattle.check_laws.specs.Order.{IsTurn, CitesSo}
use Rattle.check_laws.proofs.Keeping.{after-other, after-read}
use Rattle.check_laws.proofs.Naming.{all_read}
use Rattle.check_laws.proofs.Tested.{read-unmanaged}
use Rattle.check_laws.proofs.Turned.{all_come}
use Rattle.caller_turns.specs.declared.stands.Part.{Part}
use Rattle.caller_turns.specs.Shapes.{CitesAreTested, IsPartOf, TellsPhase, callers_of}
use Rattle.caller_turns.specs.Turns.{Callers, CitesIn, HasCount, IsTheirTurn, callers_after}
use Rattle.caller_turns.proofs.Turning.{callers_on, turns_tested}
use Rattle.reader_counts.specs.Counts.{Counts, EndsWithin, counts_after}
use Rattle.reader_counts.specs.Told.{AreCountsOf, GoOn}
use Rattle.reader_counts.proofs.Counted.{counts_on}
use Rattle.run_check.specs.declared.replays.Replay.{Replay}
use Rattle.run_check.specs.Follows.{CallersFollow, Follows, OwedFollows, SidesFollow}
use Rattle.run_check.specs.Noting.{noted_in}
use Rattle.run_check.specs.Judging.{GoesOn, IsJudged, IsNext, MayNotReply, MayReply, Replied, next_noted}
use Rattle.run_check.proofs.Owing.{owed-more}
use Rattle.run_check.proofs.Parting.{count-few}
use Rattle.run_check.proofs.Pasts.{managed-few, order-more}

module _ (h : Finished) (past : List Noted) (e : Entry) (old : Replay) (w : IsJudged h past old e) where
  abbrev s : Linkage
  s = state_of past

  abbrev m : Made
  m = e.made

  turns-are : old.turns ≡ callers_of s.control
  turns-are = w.follows.callers.turns

  -- the entry, with its number
  e-is : numbered (length past) m ≡ e
  e-is = λ i. record { number = sym w.number i; made = m }

  -- the first test
  pub is-turn : (part : Part) → IsPartOf s part → m.index < 2 ^ 32 → IsTheirTurn old.turns part m.caller m.index m.op ↔ IsTurn s m
  is-turn part p short = subst (λ (c : Callers). IsTheirTurn c part m.caller m.index m.op ↔ IsTurn s m) (sym turns-are) (turns_tested s part m p short)

  pub is-cited : CitesAreTested → CitesIn old.turns m.caller m.op m.cites ↔ CitesSo s m
  is-cited law = subst (λ (c : Callers). CitesIn c m.caller m.op m.cites ↔ CitesSo s m) (sym turns-are) (law s m)

  -- the third one fails
  pub reply-fails : IsTurn s m → CitesSo s m → MayNotReply h past m → FailsBy why.Reply h past e
  reply-fails t c deny = (t, c, λ told r. deny told (subst (λ (x : Entry). RepliesBehind (is_read m.op) h past (record { entry = x; told = told })) (sym e-is) r))

  -- a managed entry that isn't the snap which is waited for
  pub snap-fails : (GivesSnap past (next_noted past m nothing) → ⊥) → MayNotReply h past m
  snap-fails deny told w = by (is_read m.op) refl w
    where
      by : (b : Bool) → is_read m.op ≡ b → RepliesBehind b h past (next_noted past m told) → ⊥
      by true q w = deny (λ y. absurd (true≢false (sym y ∙ read-unmanaged (next_noted past m nothing) q)))
      by false q w = deny w.snap

  -- behind the first two, the entry's own call may be made
  pub may-reply : IsTurn s m → CitesSo s m → GivesSnap past (next_noted past m nothing) → MayReply h past old m
  may-reply t c g = record { next = record { so_far = w.so_far; turn = t; cites = c }; sides = w.follows.sides; callers = w.follows.callers; snap = g }

  -- what is noted of an entry that replies as it may
  module _ (mid : Replay) (told : Told) (phase : Phase) (t : IsTurn s m) (c : CitesSo s m) (r : Replied h past m old mid told) (x : TellsPhase m.op told phase) where
    abbrev n : Noted
    n = next_noted past m told

    next : IsNext h past m
    next = record { so_far = w.so_far; turn = t; cites = c }

    order : AllInOrder h (n ∷ past)
    order = order-more h past m told next r.replies

    counts-are : AreCountsOf past mid.readers.counts
    counts-are = subst (AreCountsOf past) (sym r.rest.counts) w.follows.callers.counts

    on : GoOn n past mid.readers.counts
    on = counts_on.next n past mid.readers.counts (all_come h (n ∷ past) order) (all_read h (n ∷ past) order) counts-are

    pub ends-within : EndsWithin mid.readers.counts m.op
    ends-within = on.ends

    pub count-low : mid.readers.counts.managed < 2 ^ 63
    count-low = (let a = counts-are.managed in let b = managed-few past in let c : length past < 4611686018427387904 = w.so_far.few in
        let goal : mid.readers.counts.managed < 9223372036854775808 = omega (arith, a, b, c) in goal)

    pub has-count : HasCount mid.turns.stand
    has-count = subst (λ (z : Callers). HasCount z.stand) (sym (r.rest.turns ∙ turns-are)) (count-few s old.cycle w.follows.sides.cycle)

    control-is : (state_of (n ∷ past)).control ≡ control_after s.control m.caller (length past) m.index m.op m.reply told
    control-is = by (is_read m.op) refl
      where
        by : (b : Bool) → is_read m.op ≡ b → (entry_after s n).control ≡ control_after s.control m.caller (length past) m.index m.op m.reply told
        by true q = ap (λ (z : Linkage). z.control) (after-read s n q)
        by false q = ap (λ (z : Linkage). z.control) (after-other s n q)

    callers : (turns : Callers) (counts : Counts) → turns ≡ callers_after mid.turns e.number m.caller m.index m.op m.reply phase → counts ≡ counts_after mid.readers.counts m
        → CallersFollow (n ∷ past) (record mid { turns = turns; readers = record mid.readers { counts = counts } })
    callers turns counts a b = record {
      turns =
          a
          ∙ (ap (λ z. callers_after mid.turns z m.caller m.index m.op m.reply phase) w.number
          ∙ (ap (λ z. callers_after z (length past) m.caller m.index m.op m.reply phase) (r.rest.turns ∙ turns-are)
          ∙ (callers_on s.control (length past) m.caller m.index m.op m.reply told phase x ∙ ap callers_of (sym control-is))));
      counts = subst (AreCountsOf (n ∷ past)) (sym b) on.counts;
      owed = subst (OwedFollows (n ∷ past)) (sym r.rest.owed) (owed-more h past n old.readers.owed order w.follows.callers.owed);
    }

    pub goes-on : GoesOn h past e (noted_in mid e phase)
    goes-on = subst (λ (y : Entry). GoesOn h past y (noted_in mid e phase)) e-is record {
      told = told;
      order = order.0;
      follows = record {
        sides = record {
          drawn = r.sides.drawn;
          managed = r.sides.managed;
          peers = r.sides.peers;
          stores = record { nine = r.sides.stores.nine; pins = r.sides.stores.pins; many = r.sides.stores.many; cells = r.sides.stores.cells };
          cycle = r.sides.cycle;
        };
        callers = callers (callers_after mid.turns e.number m.caller m.index m.op m.reply phase) (counts_after mid.readers.counts m) refl refl;
      };
    }
