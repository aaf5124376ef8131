-- An entry of a plain step behind a past: the call may be made, and the replay follows the longer past. It is right
-- exactly where it answers the same and, where it takes notices, the history has them.
use Rattle.std.proofs.Common.{◌≡◌, ◌≤◌, Bool, true, false, List, length, refl, sym, ap, ◌∙◌, subst}
use Rattle.joint_machine.specs.declared.names.Span.{Span}
use Rattle.joint_machine.specs.declared.events.Made.{Made}
use Rattle.joint_machine.specs.declared.events.Reply.{Reply}
use Rattle.joint_machine.specs.declared.events.Reply.TheVariants as says
use Rattle.joint_machine.specs.Histories.{Finished, IsWithin, managed_numbers, peer_numbers, stretch}
use Rattle.joint_machine.specs.Lines.{is_peer_event, is_read}
use Rattle.joint_machine.specs.Linked.{Linkage}
use Rattle.joint_machine.specs.ManagedReplay.{ManagedReplay, managed_answer}
use Rattle.joint_machine.specs.Sides.{AddsLawful, managed_rules}
use Rattle.joint_machine.specs.Told.{Noted, nothing}
use Rattle.joint_laws.specs.Spans.{IsStretch, TellsNamed}
use Rattle.joint_laws.proofs.ManagedMoves.{GoesOn}
use Rattle.check_laws.specs.Behind.{state_of}
use Rattle.managed_heap.specs.Sides.{ManagedModel, as_side}
use Rattle.managed_heap.specs.Steps.{IsFresh, IsManagedStep}
use Rattle.run_check.specs.declared.draws.Recorder.{Recorder}
use Rattle.run_check.specs.declared.replays.Replay.{Replay}
use Rattle.run_check.specs.Judging.{IsStepped, MayReply}
use Rattle.run_check.proofs.Drawing.{counted, drawing}
use Rattle.run_check.proofs.Longer.{stores-longer}
use Rattle.run_check.proofs.Notices.{notices_fit}
use Rattle.run_check.proofs.OneReply.{HasMade, IsSame, Judges, answered}
use Rattle.run_check.proofs.OwnEntries.{IsMadeIn, pins-stay, plain-made}
use Rattle.run_check.proofs.PastFacts.{past_kept, replay_kept}
use Rattle.run_check.proofs.StaysMade.{stays_made}
use Rattle.run_check.proofs.Untouched.{stepped-leaves}
use Rattle.run_check.proofs.Stepping.{TakesSpan, managed_step, stepped-data, stepped-fresh, stepped-goes_on, stepped-named, stepped-owed, stepped-stand, stepped-took, stepped-unpinned}

module _ (h : Finished) (past : List Noted) (m : Made) (old : Replay) (may : MayReply h past old m) (p : is_peer_event m.caller m.op ≡ false) (e : is_read m.op ≡ false) (w : IsStepped m.op) where
  abbrev s : Linkage
  s = state_of past

  -- what the call asks for
  pub step_event : IsManagedStep m.caller m.op
  step_event = managed_step m.caller m.op may.next.turn.event p e w

  pub step_fresh : IsFresh old.managed.state m.op
  step_fresh = stepped-fresh s (past_kept h past may.next.so_far) old.managed.state may.sides.managed.state m.caller m.op m.cites may.next.turn.event may.next.cites

  module _ (draw : Recorder) (managed : ManagedModel) (r : Reply) (adds : AddsLawful managed_rules drawing old.draw draw (as_side old.managed) (as_side managed) (answered m r) nothing) where
    abbrev made : Made
    made = answered m r

    lawful : IsMadeIn s.managed made nothing managed.state
    lawful = plain-made s.managed made nothing (stepped-unpinned m.op w) old.managed.state managed.state may.sides.managed.state adds.goes

    abbrev new : Replay
    new = record old { managed = managed; draw = draw }

    goes : GoesOn s.managed.managed (managed_answer s.managed m.caller m.op nothing).state.managed
    goes = stepped-goes_on s.managed m.caller m.op nothing (replay_kept h past may.next.so_far.order) may.next.turn.event p w lawful.lawful.allowed

    pub step_made_so : HasMade past m r nothing old new
    step_made_so = stays_made h past m old may p e r draw managed old.readers nothing adds.threads adds.draws.below
        (counted past old.draw draw (as_side old.managed) (as_side managed) made nothing may.sides.drawn adds)
        lawful goes (stepped-stand s.control m.caller (length past) m.index m.op r nothing may.next.turn.event p w) (stepped-data s m.caller m.op r nothing p w)
        (stores-longer past made nothing p e old.readers (pins-stay s.managed made nothing (stepped-unpinned m.op w) e) (stepped-leaves s.managed m.caller m.op nothing w e).cells may.sides.stores)
        (record { turns = refl; counts = refl; owed = sym (stepped-owed s.managed.managed.cycles m.op r old.readers.owed w e) })

    -- the notices of the side are those of the past
    pub notices_now : managed.state.managed.notices ≡ s.managed.managed.notices
    notices_now = ap (λ (z : ManagedReplay). z.managed.notices) lawful.after ∙ (stepped-leaves s.managed m.caller m.op nothing w e).notices

    freed_now : managed.state.managed.heap.freed ≡ s.managed.managed.heap.freed
    freed_now = ap (λ (z : ManagedReplay). z.managed.heap.freed) lawful.after ∙ goes.freed

    pub notices_few : length managed.state.managed.notices ≤ length managed.state.managed.heap.freed
    notices_few = subst (λ z. length z ≤ length managed.state.managed.heap.freed) (sym notices_now)
        (subst (λ z. length s.managed.managed.notices ≤ length z) (sym freed_now) (notices_fit h past may.next.so_far.order).few)

    took : (sp : Span) → r ≡ says.Took sp → TakesSpan s.managed.managed sp
    took sp q = stepped-took s made sp p w lawful.lawful q

    pub took_within : (sp : Span) → r ≡ says.Took sp → IsWithin sp (length managed.state.managed.notices)
    took_within sp q = subst (λ z. IsWithin sp (length z)) (sym notices_now) ((took sp q).within (notices_fit h past may.next.so_far.order).taken)

    -- where the reply takes notices the history has to have them
    abbrev pub HasNotices : Type 0
    HasNotices = (sp : Span) → r ≡ says.Took sp → IsStretch (managed_numbers h.notices) sp (stretch managed.state.managed.notices sp)

    names_back : IsSame h past m r nothing → HasNotices
    names_back q sp t = subst (λ z. IsStretch (managed_numbers h.notices) sp (stretch z sp)) (sym notices_now) (q.names.taken sp (sym q.reply ∙ t)).stands

    names_so : r ≡ m.reply → HasNotices → IsSame h past m r nothing
    names_so q has = record {
      reply = q;
      names = record {
        freed = subst (λ x. TellsNamed (managed_numbers h.freed_managed) (peer_numbers h.freed_peers) x nothing) q
            (stepped-named (managed_numbers h.freed_managed) (peer_numbers h.freed_peers) s made p w lawful.lawful);
        taken = λ sp t. (let k = took sp (q ∙ t) in record {
          first = k.first;
          queued = k.within (notices_fit h past may.next.so_far.order).taken;
          stands = subst (λ z. IsStretch (managed_numbers h.notices) sp (stretch z sp)) notices_now (has sp (q ∙ t));
        });
      };
    }

    pub step_judges : (b : Bool) → (b ≡ true → (r ≡ m.reply) × HasNotices) → (r ≡ m.reply → HasNotices → b ≡ true) → Judges h past m old new b
    step_judges b right back = record {
      reply = r;
      told = nothing;
      made = step_made_so;
      if_true = λ q. names_so (right q).0 (right q).1;
      if_same = λ q. back q.reply (names_back q);
    }
