-- The snapshot and the contraction: what they ask for is what the driver keeps, and what they leave it keeps again.
use Rattle.std.proofs.Common.{◌≡◌, ℕ, ◌+◌, List, [], length, map, None, refl, sym, ap, ◌∙◌, subst}
use Rattle.std.proofs.lemmas.List.{length-map}
use Rattle.std.proofs.lemmas.Option.{same_Some}
use Rattle.joint_machine.specs.declared.names.Cycle.{Cycle}
use Rattle.joint_machine.specs.declared.events.Op.TheVariants as op
use Rattle.joint_machine.specs.declared.events.Reply.TheVariants as says
use Rattle.joint_machine.specs.Components.{IsContraction}
use Rattle.joint_machine.specs.Control.{idle, snapped}
use Rattle.joint_machine.specs.Cycles.{IsDeadContraction}
use Rattle.joint_model.specs.Listed.{Answers}
use Rattle.joint_machine.specs.Managed.{OpenCycle}
use Rattle.joint_machine.proofs.HeapLemmas.{candidates_of-open}
use Rattle.bridge_graph.specs.Parts.{IsBridgeNode, IsPart, NodeLeads}
use Rattle.xref_list.specs.Listing.{Listing}
use Rattle.managed_heap.specs.declared.opening.Opened.{Opened as Snapshot}
use Rattle.order_table.specs.declared.views.View.{View}
use Rattle.joint_history.specs.Driven.{DriverRests, DriverStands, HasContraction, MakesContraction, MayContractCycle}
use Rattle.joint_history.specs.DriverSnaps.{MakesSnapshot}
use Rattle.dead_parts.specs.Graphs.{number_at, numbered_comps}
use Rattle.bridge_cycle.specs.declared.stages.Stage.TheVariants as stage
use Rattle.bridge_cycle.specs.Held.{IsOfCycle, cycle_of}
use Rattle.bridge_cycle.specs.Progress.{Progress}
use Rattle.dead_parts.proofs.Candidates.{are_candidates}
use Rattle.dead_parts.proofs.DeadContraction.{a_graphs_contraction}
use Rattle.bridge_cycle.proofs.Making.{DriverKeeps, Steps, kept, stands_on, steps_one}

module _ {q : Progress} {v : View} {k : Cycle} {n index : ℕ} (i : DriverKeeps q (kept v stage.Idle k n) index) where
  -- an idle driver rests
  pub idle_rests : DriverRests v index
  idle_rests = record { seen = i.held.seen; stands = stands_on q (kept v stage.Idle k n) index i idle i.held.at }

  pub snap_taken : (new : View) (out : Snapshot) → MakesSnapshot v new index out → IsPart out.graph.nodes out.graph.edges
      → Steps q (kept new (stage.Snapped out) out.cycle out.candidates) index (says.Snapped out.candidates out.freed)
  snap_taken new out makes part =
      let o = makes idle_rests.seen idle_rests.stands in
      let c : OpenCycle = record { number = out.cycle.0; candidates = o.candidates; dead = o.dead } in
      let cycle : IsOfCycle out.cycle out.candidates o.seen out = record {
        same = refl;
        cycle = c;
        opened = o.opened;
        kept = o.kept;
        graph = o.graph;
        part = part;
        count = ap length (candidates_of-open o.seen c o.opened) ∙ sym o.counted;
        candidates = are_candidates o.seen c out.graph o.kept o.opened part o.graph;
      } in
      steps_one _ _ (kept new (stage.Snapped out) out.cycle out.candidates) index out.number (op.Snap out.cycle) _ None _ _ _ _ _ i o.makes o.stands cycle refl
      (record { each = (tt, tt); count = refl }) refl refl refl

module _ {q : Progress} {v : View} {k : Cycle} {n index : ℕ} {o : Snapshot} (i : DriverKeeps q (kept v (stage.Snapped o) k n) index) (listing : Listing)
    (exact : (heavy : List ℕ) × (length heavy ≡ listing.heavy) × IsContraction (IsBridgeNode o.graph.nodes) (NodeLeads o.graph.edges) listing.comps heavy listing.pairs)
    (sccs xrefs : ℕ) (components : sccs ≡ length listing.comps + listing.heavy) (references : xrefs ≡ length listing.pairs) where
  abbrev heavy : List ℕ
  heavy = map (number_at o.graph) exact.0

  heavy_count : length heavy ≡ listing.heavy
  heavy_count = length-map exact.0 (number_at o.graph) ∙ exact.1

  stands : DriverStands v index (snapped (cycle_of o)) i.held.seen
  stands = stands_on q (kept v (stage.Snapped o) k n) index i (snapped (cycle_of o)) i.held.at

  contraction_is : HasContraction i.held.seen sccs xrefs (numbered_comps o.graph listing.comps) heavy listing.pairs
  contraction_is =
      let c : IsOfCycle k n i.held.seen o = i.held.cycle in
      record {
        exact = λ z e. subst (λ (y : OpenCycle). IsDeadContraction i.held.seen y.dead (numbered_comps o.graph listing.comps) heavy listing.pairs) (same_Some _ _ (sym c.opened ∙ e))
            (a_graphs_contraction i.held.seen c.cycle.dead o.graph listing.comps exact.0 listing.pairs c.kept c.part c.graph exact.2);
        components = components ∙ (ap (λ m. m + listing.heavy) (sym (length-map listing.comps _)) ∙ ap (λ m. length (numbered_comps o.graph listing.comps) + m) (sym heavy_count));
        references = references;
      }

  pub may_contract : MayContractCycle v index sccs xrefs
  may_contract = record { opened = cycle_of o; seen = i.held.seen; comps = numbered_comps o.graph listing.comps; heavy = heavy; pairs = listing.pairs; stands = stands; contraction = contraction_is }

  pub contracted_now : (new : View) (room : Answers) (m : ℕ) → (room.values ≡ []) × (room.room ≡ n) → MakesContraction v new index sccs xrefs m
      → Steps q (kept new (stage.Contracted o listing room) k n) index (says.Sccs sccs xrefs)
  contracted_now new room m has makes =
      let comps = numbered_comps o.graph listing.comps in
      let w = makes (cycle_of o) i.held.seen comps heavy listing.pairs stands contraction_is in
      steps_one _ _ (kept new (stage.Contracted o listing room) k n) index m (op.Contract record { 0 = o.cycle.0 }) _ None _ _ _ _ _ i w.0 w.1 i.held.cycle
      (record { none = has.0; room = has.1 }, (heavy, heavy_count, refl)) (record { each = (tt, tt); count = refl }) refl refl refl
