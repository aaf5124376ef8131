-- A contract: the graph that is kept is the dead part's, so its contraction is the dead part's, by the nodes' numbers.
-- It may come exactly where it names the driver's cycle and answers how many components and cross-references there are.
use Rattle.std.proofs.Common.{◌≡◌, ℕ, ◌+◌, Bool, true, List, [], ◌∷◌, length, map, Some, None, refl, sym, ap, ◌∙◌, subst, arith}
use Rattle.std.proofs.lemmas.List.{length-map}
use Rattle.std.proofs.lemmas.Option.{same_Some}
use Rattle.joint_machine.specs.declared.names.Cycle.{Cycle}
use Rattle.joint_machine.specs.declared.names.Thread.TheVariants.{C}
use Rattle.joint_machine.specs.declared.events.Made.{Made}
use Rattle.joint_machine.specs.declared.events.Op.TheVariants as op
use Rattle.joint_machine.specs.declared.events.Reply.{Reply}
use Rattle.joint_machine.specs.declared.events.Reply.TheVariants as says
use Rattle.joint_machine.specs.Components.{IsContraction}
use Rattle.joint_machine.specs.Control as control
use Rattle.joint_machine.specs.Control.{OpenSnap, Stand, stand_after}
use Rattle.joint_machine.specs.Cycles.{IsDeadContraction}
use Rattle.joint_machine.specs.Histories.{Finished, managed_numbers, peer_numbers}
use Rattle.joint_machine.specs.Linked.{Linkage}
use Rattle.joint_model.specs.Listed.{answers_of}
use Rattle.joint_machine.specs.Managed.{OpenCycle, candidates_of}
use Rattle.joint_machine.specs.ManagedReplay.{ManagedReplay, MayContract}
use Rattle.joint_machine.specs.Sides.{AddsLawful, managed_rules, step_made}
use Rattle.joint_machine.specs.Told.{Noted, Told, contraction_of}
use Rattle.joint_machine.specs.PinsTold.{no_pins, with_pins}
use Rattle.joint_laws.specs.LinkedInvariants.{given_at}
use Rattle.joint_laws.specs.Spans.{TellsNamed}
use Rattle.known_laws.specs.Known.{pinned}
use Rattle.known_laws.proofs.Conditions.{snapped_may_be_contracted}
use Rattle.known_laws.proofs.Pinned.{contraction_to}
use Rattle.check_laws.specs.Behind.{state_of}
use Rattle.check_laws.specs.Order.{ContractData, ContractTurn}
use Rattle.bridge_graph.specs.Parts.{IsBridgeNode, NodeLeads}
use Rattle.xref_list.specs.Listing.{IsListing, Listing}
use Rattle.caller_turns.specs.Shapes.{next_place}
use Rattle.managed_heap.specs.Calls.{Contracts, IsContractedBy, MayContractWith}
use Rattle.managed_heap.specs.Graphs.{IsDeadGraph}
use Rattle.managed_heap.specs.Sides.{ManagedModel, as_side}
use Rattle.run_check.specs.declared.cycles.OpenCycle.{OpenCycle as Kept}
use Rattle.run_check.specs.declared.draws.Recorder.{Recorder}
use Rattle.run_check.specs.declared.replays.Replay.{Replay}
use Rattle.dead_parts.specs.Graphs.{number_at, numbered_comps}
use Rattle.run_check.specs.Cycles.{CycleFollows, HasCycle, IsAtHandle, IsOpenHere}
use Rattle.run_check.specs.Follows.{LeftFits}
use Rattle.run_check.specs.Judging.{MayReply, next_noted}
use Rattle.dead_parts.proofs.DeadContraction.{a_graphs_contraction}
use Rattle.run_check.proofs.Drawing.{counted, drawing}
use Rattle.run_check.proofs.Longer.{control-next, managed-longer, managed-next, peers-longer, stores-longer}
use Rattle.run_check.proofs.OneReply.{HasMade, Judges, replies_by}
use Rattle.run_check.proofs.OwnEntries.{IsMadeIn, plain-made}
use Rattle.run_check.proofs.PastFacts.{past_kept, replay_kept}

-- the driver has snapped its cycle, which is the one that is kept
record IsSnapped (s : Linkage) (o : Kept) : Type 0 where
  snap : OpenSnap
  stood : s.control.stand ≡ control.snapped snap
  names : o.cycle.0 ≡ snap.cycle

snapped_now : (s : Linkage) (o : Kept) → ContractTurn s.control.stand → HasCycle s.control.stand o → IsSnapped s o
snapped_now s o turn has = by s.control.stand refl turn has
  where
    by : (st : Stand) → s.control.stand ≡ st → ContractTurn st → HasCycle st o → IsSnapped s o
    by (control.snapped p) e t h = record { snap = p; stood = e; names = h }
    by control.idle e t h = absurd t
    by (control.contracted p comps heavy xrefs) e t h = absurd t
    by (control.weakening p count weakened swept) e t h = absurd t
    by (control.marked p) e t h = absurd t
    by (control.restoring p answers) e t h = absurd t
    by (control.restored p answers clear) e t h = absurd t

-- what the contraction of the graph is, in the managed objects
pub record HasContracted (o : Kept) (l : Listing) (sccs xrefs : ℕ) : Type 0 where
  pub heavy : List ℕ
  pub many : length heavy ≡ l.heavy
  pub contraction : IsContraction (IsBridgeNode o.graph.nodes) (NodeLeads o.graph.edges) l.comps heavy l.pairs
  pub listed : IsListing l.comps l.heavy l.pairs
  pub components : sccs ≡ length l.comps + l.heavy
  pub references : xrefs ≡ length l.pairs

abbrev pub contracting : Cycle → ℕ → Reply → Made
contracting k index reply = step_made C index (op.Contract k) reply None

module _ (h : Finished) (past : List Noted) (old : Replay) (k : Cycle) (index : ℕ) (reply : Reply) (may : MayReply h past old (contracting k index reply)) where
  abbrev s : Linkage
  s = state_of past

  module _ (o : Kept) (is : old.cycle ≡ Some o) where
    here : IsOpenHere s o
    here = subst (CycleFollows s) is may.sides.cycle

    now : IsSnapped s o
    now = snapped_now s o may.next.turn.turn here.stands

    module _ (l : Listing) (sccs xrefs : ℕ) (w : HasContracted o l sccs xrefs) where
      abbrev comps : List (List ℕ)
      comps = numbered_comps o.graph l.comps

      abbrev heavy : List ℕ
      heavy = map (number_at o.graph) w.heavy

      exact : IsDeadContraction s.managed.managed here.cycle.dead comps heavy l.pairs
      exact = a_graphs_contraction s.managed.managed here.cycle.dead o.graph l.comps w.heavy l.pairs (replay_kept h past may.next.so_far.order).managed here.part here.graph w.contraction

      may_contract : MayContract (with_pins s.managed no_pins) now.snap.cycle comps heavy l.pairs
      may_contract = snapped_may_be_contracted (pinned s no_pins) (past_kept h past may.next.so_far) now.snap now.stood comps heavy l.pairs
          (λ c e. subst (λ (z : OpenCycle). IsDeadContraction (with_pins s.managed no_pins).managed z.dead comps heavy l.pairs)
          (same_Some here.cycle c (sym here.opened ∙ e)) (contraction_to s.managed no_pins here.cycle.dead comps heavy l.pairs exact))

      by_cycle : IsContractedBy old.managed.state may_contract.cycle sccs xrefs comps heavy l.pairs
      by_cycle = record {
        may = subst (λ (z : ManagedReplay). MayContract z may_contract.cycle.number comps heavy l.pairs) (sym may.sides.managed.state)
            (subst (λ n. MayContract (with_pins s.managed no_pins) n comps heavy l.pairs) (sym may_contract.open_cycle.1) may_contract);
        components = (let a = length-map l.comps (map (number_at o.graph)) in let b = length-map w.heavy (number_at o.graph) in omega (arith, a, b, w.components, w.many));
        references = w.references;
      }

      open_side : old.managed.state.managed.cycle ≡ Some may_contract.cycle
      open_side = ap (λ z. z.managed.cycle) may.sides.managed.state ∙ may_contract.open_cycle.0

      -- what the call asks for
      pub contract_may : MayContractWith old.managed.state sccs xrefs
      contract_may = record { cycle = may_contract.cycle; opened = open_side; comps = comps; heavy = heavy; pairs = l.pairs; contracted = by_cycle }

      module _ (names : o.cycle.0 ≡ k.0) (draw : Recorder) (managed : ManagedModel)
          (contracts : (c : OpenCycle) → old.managed.state.managed.cycle ≡ Some c → Contracts drawing old.draw draw (as_side old.managed) (as_side managed) index sccs xrefs c) where
        abbrev told : Told
        told = contraction_of comps heavy l.pairs

        abbrev made : Made
        made = contracting k index (says.Sccs sccs xrefs)

        number : may_contract.cycle.number ≡ k.0
        number = may_contract.open_cycle.1 ∙ (sym now.names ∙ names)

        adds : AddsLawful managed_rules drawing old.draw draw (as_side old.managed) (as_side managed) made told
        adds = subst (λ n. AddsLawful managed_rules drawing old.draw draw (as_side old.managed) (as_side managed) (contracting (record { 0 = n }) index (says.Sccs sccs xrefs)) told) number
            ((contracts may_contract.cycle open_side).adds comps heavy l.pairs by_cycle)

        lawful : IsMadeIn s.managed made told managed.state
        lawful = plain-made s.managed made told refl old.managed.state managed.state may.sides.managed.state adds.goes

        abbrev kept : Kept
        kept = record o { comps = Some l }

        abbrev new : Replay
        new = record old { managed = managed; draw = draw; cycle = Some kept }

        abbrev longer : List Noted
        longer = next_noted past made told ∷ past

        stood : (state_of longer).control.stand ≡ control.contracted now.snap comps heavy l.pairs
        stood = ap (λ z. z.stand) (control-next past made told refl refl) ∙ ap (λ st. stand_after st (length past) (op.Contract k) (says.Sccs sccs xrefs) told) now.stood

        objects : (state_of longer).managed.managed ≡ s.managed.managed
        objects = ap (λ z. z.managed) (managed-next past made told refl refl)

        follows : IsOpenHere (state_of longer) kept
        follows = record {
          cycle = here.cycle;
          opened = ap (λ z. z.cycle) objects ∙ here.opened;
          graph = subst (λ z. IsDeadGraph z here.cycle.dead o.graph) (sym objects) here.graph;
          part = here.part;
          count = here.count;
          stands = subst (λ st. HasCycle st kept) (sym stood) (
            now.names,
            record { listing = l; there = refl; listed = w.listed; comps_same = refl; pairs_same = refl; heavy_count = length-map w.heavy (number_at o.graph) ∙ w.many },
          );
          next = subst (λ st. IsAtHandle o.graph.nodes o.place (next_place st)) (sym stood) (subst (λ st. IsAtHandle o.graph.nodes o.place (next_place st)) now.stood here.next);
          given = subst (λ st. answers_of o.alive.values ≡ given_at st) (sym stood) (subst (λ st. answers_of o.alive.values ≡ given_at st) now.stood here.given);
          room = here.room;
        }

        pub contract_made_so : HasMade past (contracting k index reply) (says.Sccs sccs xrefs) told old new
        contract_made_so = record {
          replies = replies_by s (length past) made told refl lawful.lawful (subst (λ st. ContractData st k.0) (sym now.stood) (sym now.names ∙ names));
          sides = record {
            drawn = counted past old.draw draw (as_side old.managed) (as_side managed) made told may.sides.drawn adds;
            managed = managed-longer past made told refl refl old.managed managed draw.counter may.sides.managed adds.threads adds.draws.below
                (counted past old.draw draw (as_side old.managed) (as_side managed) made told may.sides.drawn adds) lawful;
            peers = peers-longer past made told refl refl old.peers may.sides.peers
                (subst (λ z. LeftFits z (length (candidates_of (state_of longer).managed.managed)) old.peers.reserve.left) (sym stood) tt);
            stores = stores-longer past made told refl refl old.readers refl refl may.sides.stores;
            cycle = follows;
          };
          rest = record { turns = refl; counts = refl; owed = refl };
        }

        pub contract_judges : (b : Bool) → (b ≡ true → reply ≡ says.Sccs sccs xrefs) → (reply ≡ says.Sccs sccs xrefs → b ≡ true) → Judges h past (contracting k index reply) old new b
        contract_judges b right back = record {
          reply = says.Sccs sccs xrefs;
          told = told;
          made = contract_made_so;
          if_true = λ e. record {
            reply = sym (right e);
            names = record {
              freed = subst (λ r. TellsNamed (managed_numbers h.freed_managed) (peer_numbers h.freed_peers) r told) (sym (right e)) tt;
              taken = λ span q. absurd (let f = sym (right e) ∙ q in cc);
            };
          };
          if_same = λ q. back (sym q.reply);
        }
