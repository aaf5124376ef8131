-- A resolve: the driver has restored all candidates and cleared the mirror; the answers that are kept are those of the
-- restores, so the call may close the cycle. It may come exactly where it answers and names what is freed.
use Rattle.std.proofs.Common.{◌≡◌, ℕ, Bool, true, List, ◌∷◌, ◌++◌, length, Option, Some, None, refl, sym, ap, ◌∙◌, subst}
use Rattle.std.proofs.lemmas.List.{length-map}
use Rattle.std.proofs.lemmas.Option.{same_Some}
use Rattle.joint_machine.specs.declared.names.Cycle.{Cycle}
use Rattle.joint_machine.specs.declared.names.HNum.{HNum}
use Rattle.joint_machine.specs.declared.names.Span.{Span}
use Rattle.joint_machine.specs.declared.names.Thread.TheVariants.{C}
use Rattle.joint_machine.specs.declared.events.Made.{Made}
use Rattle.joint_machine.specs.declared.events.Op.TheVariants as op
use Rattle.joint_machine.specs.declared.events.Reply.{Reply}
use Rattle.joint_machine.specs.declared.events.Reply.TheVariants as says
use Rattle.joint_machine.specs.Control as control
use Rattle.joint_machine.specs.Control.{OpenSnap, Stand, stand_after}
use Rattle.joint_machine.specs.Histories.{Finished, managed_numbers, peer_numbers}
use Rattle.joint_machine.specs.Linked.{Linkage}
use Rattle.joint_model.specs.Listed.{answer_of, answers_of}
use Rattle.joint_machine.specs.Managed.{OpenCycle, candidates_of}
use Rattle.joint_machine.specs.ManagedReplay.{AreNew, ManagedReplay}
use Rattle.joint_machine.specs.Sides.{AddsLawful, managed_rules, step_made}
use Rattle.joint_machine.specs.Told.{Answer, Noted, Told, handles_given, resolution_of}
use Rattle.joint_machine.specs.PinsTold.{no_pins}
use Rattle.joint_machine.proofs.Deciding.{none_some}
use Rattle.joint_laws.specs.LinkedInvariants.{given_at}
use Rattle.joint_laws.specs.Spans.{TellsNamed}
use Rattle.known_laws.specs.Driving.{PastInvariant}
use Rattle.known_laws.specs.Known.{pinned}
use Rattle.known_laws.proofs.Conditions.{restored_are_new, restored_may_be_resolved}
use Rattle.check_laws.specs.Behind.{state_of}
use Rattle.check_laws.specs.Order.{ResolveCites, ResolveData, ResolveTurn}
use Rattle.managed_heap.specs.Calls.{resolve_made}
use Rattle.managed_heap.specs.Resolving.{MayClose}
use Rattle.managed_heap.specs.Sides.{ManagedModel, as_side}
use Rattle.run_check.specs.declared.cycles.OpenCycle.{OpenCycle as Kept}
use Rattle.run_check.specs.declared.draws.Recorder.{Recorder}
use Rattle.run_check.specs.declared.replays.Replay.{Replay}
use Rattle.run_check.specs.Cycles.{CycleFollows, HasCycle, IsOpenHere}
use Rattle.run_check.specs.Follows.{LeftFits}
use Rattle.run_check.specs.Judging.{MayReply, next_noted}
use Rattle.run_check.specs.Lists.{StandsInList}
use Rattle.run_check.proofs.Drawing.{counted, drawing}
use Rattle.run_check.proofs.FreedNames.{put_span, put_stands, resolution_named, resolution_stands, stands_put}
use Rattle.run_check.proofs.Longer.{control-next, managed-longer, peers-longer, stores-longer}
use Rattle.run_check.proofs.OneReply.{HasMade, Judges, replies_by}
use Rattle.run_check.proofs.OwnEntries.{IsMadeIn, plain-made}
use Rattle.run_check.proofs.PastFacts.{past_kept}

-- the driver is idle afterwards
idle_after : (stand : Stand) (n : ℕ) (k : Cycle) (reply : Reply) (told : Told) → stand_after stand n (op.Resolve k) reply told ≡ control.idle
idle_after control.idle n k reply told = refl
idle_after (control.snapped o) n k reply told = refl
idle_after (control.contracted o comps heavy xrefs) n k reply told = refl
idle_after (control.weakening o count weakened swept) n k reply told = refl
idle_after (control.marked o) n k reply told = refl
idle_after (control.restoring o answers) n k reply told = refl
idle_after (control.restored o answers clear) n k reply told = refl

-- the driver has restored all, with these answers
pub record AllRestored (s : Linkage) (o : Kept) (k : ℕ) (cites : Option ℕ) : Type 0 where
  pub snap : OpenSnap
  pub clear : ℕ
  pub stood : s.control.stand ≡ control.restored snap (answers_of o.alive.values) clear
  pub number : snap.cycle ≡ k
  pub names : o.cycle.0 ≡ k
  pub cited : cites ≡ Some clear

all_restored : (s : Linkage) (o : Kept) (k : ℕ) (cites : Option ℕ) → ResolveTurn s.control.stand → ResolveCites s.control.stand k cites
    → HasCycle s.control.stand o → answers_of o.alive.values ≡ given_at s.control.stand → AllRestored s o k cites
all_restored s o k cites turn c has given = by s.control.stand refl turn c has given
  where
    by : (st : Stand) → s.control.stand ≡ st → ResolveTurn st → ResolveCites st k cites → HasCycle st o → answers_of o.alive.values ≡ given_at st → AllRestored s o k cites
    by (control.restored p answers clear) e t w h g = record { snap = p; clear = clear; stood = e ∙ ap (λ a. control.restored p a clear) (sym g); number = w.0; names = h ∙ w.0; cited = w.1 }
    by control.idle e t w h g = absurd t
    by (control.snapped p) e t w h g = absurd t
    by (control.contracted p comps heavy xrefs) e t w h g = absurd t
    by (control.weakening p count weakened swept) e t w h g = absurd t
    by (control.marked p) e t w h g = absurd t
    by (control.restoring p answers) e t w h g = absurd t

-- what the call asks for
pub may_close : (s : Linkage) → PastInvariant (pinned s no_pins) → (o : OpenSnap) (alive : List (Option HNum)) (clear : ℕ)
    → s.control.stand ≡ control.restored o (answers_of alive) clear → (r : ManagedReplay) → r.managed.cycle ≡ s.managed.managed.cycle
    → r.adopted ≡ s.managed.adopted → MayClose r alive
may_close s k o alive clear stood r same taken =
    let w = restored_may_be_resolved (pinned s no_pins) k o (answers_of alive) clear stood in
    record {
      answers = record { cycle = w.cycle; opened = same ∙ w.open_cycle.0; one_each = sym (length-map alive answer_of) ∙ w.one_each };
      new = subst (λ z. AreNew z (handles_given (answers_of alive))) (sym taken) (restored_are_new (pinned s no_pins) k o (answers_of alive) clear stood);
    }

-- the driver's cycle has its number
number_is : (s : Linkage) → PastInvariant (pinned s no_pins) → (o : OpenSnap) (answers : List Answer) (clear : ℕ)
    → s.control.stand ≡ control.restored o answers clear → (c : OpenCycle) → s.managed.managed.cycle ≡ Some c → c.number ≡ o.cycle
number_is s k o answers clear stood c e =
    let w = restored_may_be_resolved (pinned s no_pins) k o answers clear stood in
    ap (λ (z : OpenCycle). z.number) (same_Some c w.cycle (sym e ∙ w.open_cycle.0)) ∙ w.open_cycle.1

abbrev pub resolving : Cycle → ℕ → Reply → Option ℕ → Made
resolving k index reply cites = step_made C index (op.Resolve k) reply cites

module _ (h : Finished) (past : List Noted) (old : Replay) (k : Cycle) (index : ℕ) (reply : Reply) (cites : Option ℕ) (may : MayReply h past old (resolving k index reply cites)) where
  abbrev s : Linkage
  s = state_of past

  module _ (o : Kept) (is : old.cycle ≡ Some o) where
    here : IsOpenHere s o
    here = subst (CycleFollows s) is may.sides.cycle

    pub resolve_all : AllRestored s o k.0 cites
    resolve_all = all_restored s o k.0 cites may.next.turn.turn may.next.cites here.stands here.given

    pub resolve_cites : cites ≡ None → ⊥
    resolve_cites e = none_some resolve_all.clear (sym e ∙ resolve_all.cited)

    pub resolve_may : MayClose old.managed.state o.alive.values
    resolve_may = may_close s (past_kept h past may.next.so_far) resolve_all.snap o.alive.values resolve_all.clear resolve_all.stood old.managed.state
        (ap (λ z. z.managed.cycle) may.sides.managed.state) (ap (λ z. z.adopted) may.sides.managed.state)

    module _ (draw : Recorder) (managed : ManagedModel) (cycle : OpenCycle) (opened : old.managed.state.managed.cycle ≡ Some cycle) (freed : List ℕ) (n : ℕ) (cited : cites ≡ Some n)
        (adds : AddsLawful managed_rules drawing old.draw draw (as_side old.managed) (as_side managed)
        (resolve_made old.managed.state.managed cycle index freed n) (resolution_of (answers_of o.alive.values) freed)) where
      abbrev told : Told
      told = resolution_of (answers_of o.alive.values) freed

      abbrev says_so : Reply
      says_so = says.Freed (put_span s.managed.managed.heap.freed freed)

      abbrev made : Made
      made = resolving k index says_so cites

      opened_here : s.managed.managed.cycle ≡ Some cycle
      opened_here = sym (ap (λ z. z.managed.cycle) may.sides.managed.state) ∙ opened

      number : cycle.number ≡ k.0
      number = number_is s (past_kept h past may.next.so_far) resolve_all.snap (answers_of o.alive.values) resolve_all.clear resolve_all.stood cycle opened_here ∙ resolve_all.number

      same : resolve_made old.managed.state.managed cycle index freed n ≡ made
      same = λ i. resolving (record { 0 = number i }) index (says.Freed (put_span (may.sides.managed.state i).managed.heap.freed freed)) (sym cited i)

      named : AddsLawful managed_rules drawing old.draw draw (as_side old.managed) (as_side managed) made told
      named = subst (λ m. AddsLawful managed_rules drawing old.draw draw (as_side old.managed) (as_side managed) m told) same adds

      lawful : IsMadeIn s.managed made told managed.state
      lawful = plain-made s.managed made told refl old.managed.state managed.state may.sides.managed.state named.goes

      abbrev new : Replay
      new = record old { managed = managed; draw = draw; cycle = None }

      abbrev longer : List Noted
      longer = next_noted past made told ∷ past

      idle : (state_of longer).control.stand ≡ control.idle
      idle = ap (λ z. z.stand) (control-next past made told refl refl) ∙ idle_after s.control.stand (length past) k says_so told

      driven : ResolveData s.control.stand told
      driven = subst (λ st. ResolveData st told) (sym resolve_all.stood) refl

      pub resolve_made_so : HasMade past (resolving k index reply cites) says_so told old new
      resolve_made_so = record {
        replies = replies_by s (length past) made told refl lawful.lawful driven;
        sides = record {
          drawn = counted past old.draw draw (as_side old.managed) (as_side managed) made told may.sides.drawn named;
          managed = managed-longer past made told refl refl old.managed managed draw.counter may.sides.managed named.threads named.draws.below
              (counted past old.draw draw (as_side old.managed) (as_side managed) made told may.sides.drawn named) lawful;
          peers = peers-longer past made told refl refl old.peers may.sides.peers
              (subst (λ z. LeftFits z (length (candidates_of (state_of longer).managed.managed)) old.peers.reserve.left) (sym idle) tt);
          stores = stores-longer past made told refl refl old.readers refl refl may.sides.stores;
          cycle = idle;
        };
        rest = record { turns = refl; counts = refl; owed = refl };
      }

      -- what the side has freed now
      pub resolve_freed : managed.state.managed.heap.freed ≡ s.managed.managed.heap.freed ++ freed
      resolve_freed = ap (λ z. z.managed.heap.freed) lawful.after

      pub resolve_judges : (b : Bool) → (b ≡ true → (reply ≡ says_so) × StandsInList (managed_numbers h.freed_managed) (put_span s.managed.managed.heap.freed freed) managed.state.managed.heap.freed)
          → (reply ≡ says_so → StandsInList (managed_numbers h.freed_managed) (put_span s.managed.managed.heap.freed freed) managed.state.managed.heap.freed → b ≡ true)
          → Judges h past (resolving k index reply cites) old new b
      resolve_judges b right back = record {
        reply = says_so;
        told = told;
        made = resolve_made_so;
        if_true = λ e. record {
          reply = sym (right e).0;
          names = record {
            freed = subst (λ r. TellsNamed (managed_numbers h.freed_managed) (peer_numbers h.freed_peers) r told) (sym (right e).0)
                (resolution_named (managed_numbers h.freed_managed) (peer_numbers h.freed_peers)
                (put_span s.managed.managed.heap.freed freed) (answers_of o.alive.values) freed lawful.lawful.allowed.resolution.rise
                (put_stands (managed_numbers h.freed_managed) s.managed.managed.heap.freed freed
                (subst (StandsInList (managed_numbers h.freed_managed) (put_span s.managed.managed.heap.freed freed)) resolve_freed (right e).1)));
            taken = λ span q. absurd (let f = sym (right e).0 ∙ q in cc);
          };
        };
        if_same = λ w. back (sym w.reply) (subst (StandsInList (managed_numbers h.freed_managed) (put_span s.managed.managed.heap.freed freed)) (sym resolve_freed)
            (stands_put (managed_numbers h.freed_managed) s.managed.managed.heap.freed freed
            (resolution_stands (managed_numbers h.freed_managed) (peer_numbers h.freed_peers) (put_span s.managed.managed.heap.freed freed) (answers_of o.alive.values) freed
            (subst (λ r. TellsNamed (managed_numbers h.freed_managed) (peer_numbers h.freed_peers) r told) (sym w.reply) w.names.freed))));
      }

      -- the same with the span as the call tells it
      pub resolve_answers : (out : Span) → out ≡ put_span old.managed.state.managed.heap.freed freed → (b : Bool)
          → (b ≡ true → (reply ≡ says.Freed out) × StandsInList (managed_numbers h.freed_managed) out managed.state.managed.heap.freed)
          → (reply ≡ says.Freed out → StandsInList (managed_numbers h.freed_managed) out managed.state.managed.heap.freed → b ≡ true) → Judges h past (resolving k index reply cites) old new b
      resolve_answers out e b = subst (λ (sp : Span). (b ≡ true → (reply ≡ says.Freed sp) × StandsInList (managed_numbers h.freed_managed) sp managed.state.managed.heap.freed)
          → (reply ≡ says.Freed sp → StandsInList (managed_numbers h.freed_managed) sp managed.state.managed.heap.freed → b ≡ true) → Judges h past (resolving k index reply cites) old new b)
          (sym (e ∙ ap (λ (z : ManagedReplay). put_span z.managed.heap.freed freed) may.sides.managed.state)) (resolve_judges b)
