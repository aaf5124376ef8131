-- A snap: the driver is idle, so no cycle is open; the pins that are given are the state's, which stand. It may come
-- exactly where it names the next cycle, counts its candidates and names what is freed; the dead part's graph is kept
-- from then on.
use Rattle.std.proofs.Common.{◌≡◌, ℕ, suc, ◌+◌, Bool, true, List, [], ◌∷◌, ◌++◌, length, Option, Some, None, refl, sym, ap, ◌∙◌, subst, arith}
use Rattle.joint_machine.specs.declared.names.Cycle.{Cycle}
use Rattle.joint_machine.specs.declared.names.Span.{Span}
use Rattle.joint_machine.specs.declared.names.Thread.TheVariants.{C}
use Rattle.joint_machine.specs.declared.events.Made.{Made}
use Rattle.joint_machine.specs.declared.events.Op.TheVariants as op
use Rattle.joint_machine.specs.declared.events.Reply.{Reply}
use Rattle.joint_machine.specs.declared.events.Reply.TheVariants as says
use Rattle.joint_machine.specs.Control as control
use Rattle.joint_machine.specs.Control.{Stand, stand_after}
use Rattle.joint_machine.specs.Draws.{AllBelow}
use Rattle.joint_machine.specs.Histories.{Finished, managed_numbers, peer_numbers}
use Rattle.joint_machine.specs.Linked.{Linkage}
use Rattle.joint_model.specs.Listed.{answers_of}
use Rattle.joint_machine.specs.Managed.{candidates_of}
use Rattle.joint_machine.specs.ManagedReplay.{ManagedReplay}
use Rattle.joint_machine.specs.Sides.{GoesOn, managed_rules, step_made}
use Rattle.joint_machine.specs.Told.{Noted, Told, kept_pins, snap_of}
use Rattle.joint_machine.specs.PinsTold.{no_pins, with_pins}
use Rattle.joint_laws.specs.LinkedInvariants.{given_at}
use Rattle.joint_laws.specs.Spans.{TellsNamed}
use Rattle.known_laws.specs.Known.{PinsStand}
use Rattle.known_laws.proofs.Pinned.{own_stand}
use Rattle.check_laws.specs.Behind.{state_of}
use Rattle.check_laws.specs.Order.{SnapTurn}
use Rattle.bridge_graph.specs.Parts.{IsPart, Part}
use Rattle.caller_turns.specs.Shapes.{next_place}
use Rattle.managed_heap.specs.Graphs.{IsDeadGraph}
use Rattle.managed_heap.specs.Openings.{snap_made}
use Rattle.managed_heap.specs.Sides.{ManagedModel}
use Rattle.run_check.specs.declared.cycles.OpenCycle.{OpenCycle as Kept}
use Rattle.run_check.specs.declared.draws.Recorder.{Recorder}
use Rattle.run_check.specs.declared.readers.Readers.{Readers}
use Rattle.run_check.specs.declared.replays.Replay.{Replay}
use Rattle.run_check.specs.Cycles.{HasCycle, IsAtHandle, IsOpenHere}
use Rattle.run_check.specs.Follows.{LeftFits, shown_pins}
use Rattle.run_check.specs.Judging.{MayReply, next_noted}
use Rattle.run_check.specs.Lists.{StandsInList}
use Rattle.run_check.proofs.FreedNames.{put_span, put_stands, snap_named, snap_stands, stands_put}
use Rattle.run_check.proofs.Longer.{control-next, managed-longer, managed-next, peers-longer, stores-longer}
use Rattle.run_check.proofs.OneReply.{HasMade, Judges, replies_by}
use Rattle.run_check.proofs.OwnEntries.{IsMadeIn, snap-made}
use Rattle.run_check.proofs.PastFacts.{replay_kept}
use Rattle.run_check.proofs.Pins.{stand_bare}

idle_now : (st : Stand) → SnapTurn st → st ≡ control.idle
idle_now control.idle t = refl
idle_now (control.snapped o) t = absurd t
idle_now (control.contracted o comps heavy xrefs) t = absurd t
idle_now (control.weakening o count weakened swept) t = absurd t
idle_now (control.marked o) t = absurd t
idle_now (control.restoring o answers) t = absurd t
idle_now (control.restored o answers clear) t = absurd t

-- the cycle as it is kept when it was just opened
pub record IsJustOpened (o : Kept) (k : Cycle) (n : ℕ) (g : Part) : Type 0 where
  pub cycle : o.cycle ≡ k
  pub candidates : o.candidates ≡ n
  pub graph : o.graph ≡ g
  pub part : IsPart o.graph.nodes o.graph.edges
  pub alive : o.alive ≡ record { values = []; room = n }
  pub first : IsAtHandle o.graph.nodes o.place 0

abbrev pub snapping : Cycle → ℕ → Reply → Made
snapping k index reply = step_made C index (op.Snap k) reply None

module _ (h : Finished) (past : List Noted) (old : Replay) (k : Cycle) (index : ℕ) (reply : Reply) (may : MayReply h past old (snapping k index reply)) where
  abbrev s : Linkage
  s = state_of past

  idle : s.control.stand ≡ control.idle
  idle = idle_now s.control.stand may.next.turn.turn

  pub snap_stands_so : PinsStand old.managed.state.managed (shown_pins old.readers.pins)
  snap_stands_so = subst (λ (z : ManagedReplay). PinsStand z.managed (shown_pins old.readers.pins)) (sym may.sides.managed.state)
      (stand_bare s.managed.managed (shown_pins old.readers.pins) no_pins
      (subst (PinsStand s.managed.managed) (sym may.sides.stores.pins) (own_stand s.managed.managed (replay_kept h past may.next.so_far.order).managed)))

  same-cycles : old.managed.state.managed.cycles ≡ s.managed.managed.cycles
  same-cycles = ap (λ (z : ManagedReplay). z.managed.cycles) may.sides.managed.state

  module _ (is_next : k.0 ≡ old.managed.state.managed.cycles + 1) (draw : Recorder) (managed : ManagedModel)
      (pins : List (Option ℕ)) (freed candidates dead : List ℕ) (threads : managed.threads ≡ old.managed.threads)
      (below : AllBelow managed.entries draw.counter) (one : draw.counter ≡ suc (length past)) (given : pins ≡ shown_pins old.readers.pins)
      (goes : GoesOn managed_rules old.managed.state (snap_made old.managed.state.managed index freed candidates) (kept_pins pins (snap_of freed candidates dead)) managed.state)
      (g : Part) (pictured : IsDeadGraph managed.state.managed dead g) (o : Kept) (opened : IsJustOpened o k (length candidates) g) where
    abbrev told : Told
    told = snap_of freed candidates dead

    abbrev says_so : Reply
    says_so = says.Snapped (length candidates) (put_span s.managed.managed.heap.freed freed)

    abbrev made : Made
    made = snapping k index says_so

    same : snap_made old.managed.state.managed index freed candidates ≡ made
    same = λ i. snapping (record { 0 = sym is_next i }) index (says.Snapped (length candidates) (put_span (may.sides.managed.state i).managed.heap.freed freed))

    lawful : IsMadeIn s.managed made told managed.state
    lawful = snap-made s.managed made told pins old.managed.state managed.state may.sides.managed.state (given ∙ may.sides.stores.pins)
        (subst (λ m. GoesOn managed_rules old.managed.state m (kept_pins pins told) managed.state) same goes)

    abbrev kept : Readers
    kept = record old.readers { owed = None }

    abbrev new : Replay
    new = record old { managed = managed; draw = draw; readers = kept; cycle = Some o }

    abbrev longer : List Noted
    longer = next_noted past made told ∷ past

    stood : (state_of longer).control.stand ≡ control.snapped record { cycle = k.0; snap = length past }
    stood = ap (λ z. z.stand) (control-next past made told refl refl) ∙ ap (λ st. stand_after st (length past) (op.Snap k) says_so told) idle

    graph : IsDeadGraph (state_of longer).managed.managed dead o.graph
    graph =
        let d : IsDeadGraph managed.state.managed dead o.graph = subst (IsDeadGraph managed.state.managed dead) (sym opened.graph) pictured in
        let w = subst (λ (z : ManagedReplay). IsDeadGraph z.managed dead o.graph) (lawful.after ∙ sym (ap (λ (z : ManagedReplay). with_pins z no_pins) (managed-next past made told refl refl))) d in
        record { numbers = w.numbers; handles = w.handles; edges = w.edges }

    follows : IsOpenHere (state_of longer) o
    follows = record {
      cycle = record { number = s.managed.managed.cycles + 1; candidates = candidates; dead = dead };
      opened = ap (λ (z : ManagedReplay). z.managed.cycle) (managed-next past made told refl refl);
      graph = graph;
      part = opened.part;
      count = opened.candidates;
      stands = subst (λ st. HasCycle st o) (sym stood) (ap (λ (z : Cycle). z.0) opened.cycle);
      next = subst (λ st. IsAtHandle o.graph.nodes o.place (next_place st)) (sym stood) opened.first;
      given = subst (λ st. answers_of o.alive.values ≡ given_at st) (sym stood) (ap (λ z. answers_of z.values) opened.alive);
      room = (let a = ap (λ z. z.room) opened.alive in let b = ap (λ z. length z.values) opened.alive in let c = opened.candidates in omega (arith, a, b, c));
    }

    pub snap_made_so : HasMade past (snapping k index reply) says_so told old new
    snap_made_so = record {
      replies = replies_by s (length past) made told refl lawful.lawful tt;
      sides = record {
        drawn = one;
        managed = managed-longer past made told refl refl old.managed managed draw.counter may.sides.managed threads below one lawful;
        peers = peers-longer past made told refl refl old.peers may.sides.peers
            (subst (λ z. LeftFits z (length (candidates_of (state_of longer).managed.managed)) old.peers.reserve.left) (sym stood) tt);
        stores = stores-longer past made told refl refl kept refl refl
            (record { nine = may.sides.stores.nine; pins = may.sides.stores.pins; many = may.sides.stores.many; cells = may.sides.stores.cells });
        cycle = follows;
      };
      rest = record { turns = refl; counts = refl; owed = refl };
    }

    pub snap_freed : managed.state.managed.heap.freed ≡ s.managed.managed.heap.freed ++ freed
    snap_freed = ap (λ (z : ManagedReplay). z.managed.heap.freed) lawful.after

    pub snap_judges : (b : Bool) → (b ≡ true → (reply ≡ says_so) × StandsInList (managed_numbers h.freed_managed) (put_span s.managed.managed.heap.freed freed) managed.state.managed.heap.freed)
        → (reply ≡ says_so → StandsInList (managed_numbers h.freed_managed) (put_span s.managed.managed.heap.freed freed) managed.state.managed.heap.freed → b ≡ true)
        → Judges h past (snapping k index reply) old new b
    snap_judges b right back = record {
      reply = says_so;
      told = told;
      made = snap_made_so;
      if_true = λ e. record {
        reply = sym (right e).0;
        names = record {
          freed = subst (λ r. TellsNamed (managed_numbers h.freed_managed) (peer_numbers h.freed_peers) r told) (sym (right e).0)
              (snap_named (managed_numbers h.freed_managed) (peer_numbers h.freed_peers) (put_span s.managed.managed.heap.freed freed) freed candidates dead lawful.lawful.allowed.freed_rise
              (put_stands (managed_numbers h.freed_managed) s.managed.managed.heap.freed freed
              (subst (StandsInList (managed_numbers h.freed_managed) (put_span s.managed.managed.heap.freed freed)) snap_freed (right e).1)));
          taken = λ span q. absurd (let f = sym (right e).0 ∙ q in cc);
        };
      };
      if_same = λ w. back (sym w.reply) (subst (StandsInList (managed_numbers h.freed_managed) (put_span s.managed.managed.heap.freed freed)) (sym snap_freed)
          (stands_put (managed_numbers h.freed_managed) s.managed.managed.heap.freed freed
          (snap_stands (managed_numbers h.freed_managed) (peer_numbers h.freed_peers) (length candidates) (put_span s.managed.managed.heap.freed freed) freed candidates dead
          (subst (λ r. TellsNamed (managed_numbers h.freed_managed) (peer_numbers h.freed_peers) r told) (sym w.reply) w.names.freed))));
    }

    -- the same with the count and the span as the call tells them
    pub snap_answers : (n : ℕ) → n ≡ length candidates → (out : Span) → out ≡ put_span old.managed.state.managed.heap.freed freed → (b : Bool)
        → (b ≡ true → (reply ≡ says.Snapped n out) × StandsInList (managed_numbers h.freed_managed) out managed.state.managed.heap.freed)
        → (reply ≡ says.Snapped n out → StandsInList (managed_numbers h.freed_managed) out managed.state.managed.heap.freed → b ≡ true) → Judges h past (snapping k index reply) old new b
    snap_answers n q out e b = subst (λ (p : ℕ × Span). (b ≡ true → (reply ≡ says.Snapped p.0 p.1) × StandsInList (managed_numbers h.freed_managed) p.1 managed.state.managed.heap.freed)
        → (reply ≡ says.Snapped p.0 p.1 → StandsInList (managed_numbers h.freed_managed) p.1 managed.state.managed.heap.freed → b ≡ true) → Judges h past (snapping k index reply) old new b)
        (λ i. (sym q i, sym (e ∙ ap (λ (z : ManagedReplay). put_span z.managed.heap.freed freed) may.sides.managed.state) i)) (snap_judges b)
