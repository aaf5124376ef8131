-- An entry that leaves the open cycle and the driver's stand alone, made by a call of the managed side: the replay
-- follows the longer past.
use Rattle.std.proofs.Common.{◌≡◌, suc, false, List, ◌∷◌, length, refl, sym, ap, ◌∙◌, subst}
use Rattle.joint_machine.specs.declared.events.Made.{Made}
use Rattle.joint_machine.specs.declared.events.Reply.{Reply}
use Rattle.joint_machine.specs.Control.{control_after}
use Rattle.joint_machine.specs.Draws.{AllBelow}
use Rattle.joint_machine.specs.Histories.{Finished}
use Rattle.joint_machine.specs.Lines.{is_peer_event, is_read}
use Rattle.joint_machine.specs.Linked.{Linkage}
use Rattle.joint_machine.specs.Managed.{candidates_of}
use Rattle.joint_machine.specs.ManagedReplay.{ManagedReplay, managed_answer}
use Rattle.joint_machine.specs.Told.{Noted, Told}
use Rattle.joint_laws.proofs.ManagedMoves.{GoesOn}
use Rattle.check_laws.specs.Behind.{state_of}
use Rattle.check_laws.specs.Order.{CallersData}
use Rattle.managed_heap.specs.Sides.{ManagedModel}
use Rattle.run_check.specs.declared.draws.Recorder.{Recorder}
use Rattle.run_check.specs.declared.readers.Readers.{Readers}
use Rattle.run_check.specs.declared.replays.Replay.{Replay}
use Rattle.run_check.specs.Follows.{KeepsRest, LeftFits, StoresFollow}
use Rattle.run_check.specs.Judging.{MayReply, next_noted}
use Rattle.run_check.proofs.Longer.{control-next, managed-longer, managed-next, peers-longer}
use Rattle.run_check.proofs.OneReply.{HasMade, answered, replies_by}
use Rattle.run_check.proofs.OwnEntries.{IsMadeIn}
use Rattle.run_check.proofs.PastFacts.{replay_kept}
use Rattle.run_check.proofs.StaysOpen.{candidates_stay, cycle_stays}

module _ (h : Finished) (past : List Noted) (m : Made) (old : Replay) (may : MayReply h past old m) (p : is_peer_event m.caller m.op ≡ false)
    (e : is_read m.op ≡ false) (r : Reply) (draw : Recorder) (managed : ManagedModel) (readers : Readers) (told : Told) where
  abbrev s : Linkage
  s = state_of past

  abbrev made : Made
  made = answered m r

  abbrev new : Replay
  new = record old { managed = managed; draw = draw; readers = readers }

  abbrev longer : List Noted
  longer = next_noted past made told ∷ past

  pub stays_made : managed.threads ≡ old.managed.threads → AllBelow managed.entries draw.counter → draw.counter ≡ suc (length past) → IsMadeIn s.managed made told managed.state
      → GoesOn s.managed.managed (managed_answer s.managed m.caller m.op told).state.managed
      → (control_after s.control m.caller (length past) m.index m.op r told).stand ≡ s.control.stand → CallersData s m.caller m.op r told
      → StoresFollow longer readers → KeepsRest past made old new → HasMade past m r told old new
  stays_made threads below one lawful goes stand driven stores rest =
      let there : GoesOn s.managed.managed (state_of longer).managed.managed = subst (λ (z : ManagedReplay). GoesOn s.managed.managed z.managed) (sym (managed-next past made told p e)) goes in
      let stays : (state_of longer).control.stand ≡ s.control.stand = ap (λ z. z.stand) (control-next past made told p e) ∙ stand in
      let kept = (replay_kept h past may.next.so_far.order).managed in
      let left : LeftFits (state_of longer).control.stand (length (candidates_of (state_of longer).managed.managed)) old.peers.reserve.left =
      subst (λ z. LeftFits z (length (candidates_of (state_of longer).managed.managed)) old.peers.reserve.left) (sym stays)
      (subst (λ z. LeftFits s.control.stand (length z) old.peers.reserve.left) (sym (candidates_stay s (state_of longer) kept there stays)) may.sides.peers.reserve.left) in
      record {
        replies = replies_by s (length past) made told p lawful.lawful driven;
        sides = record {
          drawn = one;
          managed = managed-longer past made told p e old.managed managed draw.counter may.sides.managed threads below one lawful;
          peers = peers-longer past made told p e old.peers may.sides.peers left;
          stores = stores;
          cycle = cycle_stays s (state_of longer) kept there stays old.cycle may.sides.cycle;
        };
        rest = rest;
      }
