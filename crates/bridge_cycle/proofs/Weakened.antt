-- Weakening: what it asks for is what the driver keeps, and what it leaves the driver keeps again.
use Rattle.std.proofs.Common.{◌≡◌, ℕ, false, [], length, refl, sym, ◌∙◌, subst}
use Rattle.joint_machine.specs.declared.names.Cycle.{Cycle}
use Rattle.joint_machine.specs.declared.names.Phase.TheVariants as at
use Rattle.joint_machine.specs.declared.names.PhaseWord.TheVariants as word
use Rattle.joint_machine.specs.declared.events.Reply.TheVariants as says
use Rattle.joint_machine.specs.Control.{weakening}
use Rattle.joint_model.specs.Listed.{Answers}
use Rattle.joint_machine.specs.Phases.{AreTimes}
use Rattle.bridge_graph.specs.Handles.{handles_of}
use Rattle.managed_heap.specs.declared.opening.Opened.{Opened as Snapshot}
use Rattle.order_table.specs.declared.views.View.{View}
use Rattle.joint_history.specs.Driven.{DriverStands}
use Rattle.bridge_cycle.specs.declared.stages.Stage.TheVariants as stage
use Rattle.bridge_cycle.specs.Held.{IsOfCycle, cycle_of}
use Rattle.bridge_cycle.specs.Progress.{Progress}
use Rattle.bridge_cycle.specs.Turns.{MayWeakenAll, WeakensAll}
use Rattle.bridge_cycle.proofs.Making.{DriverKeeps, Steps, append_nil, kept, stands_on, steps}

module _ {q : Progress} {v : View} {k : Cycle} {n index : ℕ} {o : Snapshot} {room : Answers} (i : DriverKeeps q (kept v (stage.Mirrored o room) k n) index) where
  cycle : IsOfCycle k n i.held.seen o
  cycle = i.held.cycle

  stands : DriverStands v index (weakening (cycle_of o) 0 false false) i.held.seen
  stands = stands_on q (kept v (stage.Mirrored o room) k n) index i (weakening (cycle_of o) 0 false false) i.held.at.1

  count : length (handles_of o.graph.nodes) ≡ n
  count = cycle.candidates.count ∙ cycle.count

  pub may_weaken_all : MayWeakenAll v index o.number o.graph.nodes
  may_weaken_all = record { opened = cycle_of o; weakened = false; seen = i.held.seen; stands = stands; candidates = cycle.candidates; same = refl }

  pub weakened_now : (new : View) → WeakensAll v new index o.number o.graph.nodes (handles_of o.graph.nodes) → Steps q (kept new (stage.Weakened o room) k n) index says.Ok
  weakened_now new done =
      let w = done (cycle_of o) false i.held.seen stands cycle.candidates refl in
      steps q (kept v (stage.Mirrored o room) k n) (kept new (stage.Weakened o room) k n) index says.Ok (weakening (cycle_of o) n w.weakened false) i.held.seen i
      (subst (λ (m : ℕ). DriverStands new index (weakening (cycle_of o) m w.weakened false) i.held.seen) count w.stands) i.held.cycle (i.held.at.0, (w.weakened, refl)) (record {
        entries = w.entries;
        runs = record {
          enters = record { made = w.makes.made; places = w.makes.places; cycle = sym (w.makes.cycle k); candidates = sym (w.makes.candidates n) };
          events = (w.entries, [], sym (append_nil w.entries), subst (λ (m : ℕ). AreTimes word.Weaken m w.entries) count w.makes.times, refl);
          leads = (at.Weakened, refl, refl);
        };
        last = sym w.last;
      })
