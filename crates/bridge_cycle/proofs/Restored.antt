-- Restoring: what it asks for is what the driver keeps, and what it leaves the driver keeps again.
use Rattle.std.proofs.Common.{◌≡◌, ℕ, List, [], ◌∷◌, ◌++◌, length, Option, None, refl, sym, ap, ◌∙◌, subst}
use Rattle.joint_machine.specs.declared.names.Cycle.{Cycle}
use Rattle.joint_machine.specs.declared.names.HNum.{HNum}
use Rattle.joint_machine.specs.declared.names.Phase.TheVariants as at
use Rattle.joint_machine.specs.declared.names.PhaseWord.TheVariants as word
use Rattle.joint_machine.specs.declared.events.Entry.{Entry}
use Rattle.joint_machine.specs.declared.events.Op.TheVariants as op
use Rattle.joint_machine.specs.declared.events.Reply.TheVariants as says
use Rattle.joint_machine.specs.Control.{restoring, restored}
use Rattle.joint_machine.specs.Managed.{candidates_of}
use Rattle.joint_model.specs.Listed.{Answers, answers_of}
use Rattle.joint_machine.specs.Phases.{AreTimes}
use Rattle.joint_machine.specs.Told.{nothing}
use Rattle.bridge_graph.specs.Handles.{handles_of}
use Rattle.managed_heap.specs.declared.opening.Opened.{Opened as Snapshot}
use Rattle.order_table.specs.declared.views.View.{View}
use Rattle.joint_history.specs.Driven.{DriverStands, driver_entry}
use Rattle.joint_history.specs.DriverHandles.{MakesClear, MayClearCycle}
use Rattle.bridge_cycle.specs.declared.stages.Stage.TheVariants as stage
use Rattle.bridge_cycle.specs.Held.{IsOfCycle, cycle_of}
use Rattle.bridge_cycle.specs.Progress.{Progress}
use Rattle.bridge_cycle.specs.Turns.{MayRestoreAll, Restores, RestoresAll}
use Rattle.bridge_cycle.proofs.Making.{DriverKeeps, Steps, append_nil, candidates_more, cycle_more, kept, makes_more, makes_one, places_more, stands_on, steps}
use Rattle.bridge_cycle.proofs.Turned.{answers_count, last_snoc}

module _ {q : Progress} {v : View} {k : Cycle} {n index : ℕ} {o : Snapshot} {room : Answers} (i : DriverKeeps q (kept v (stage.Swept o room) k n) index) where
  cycle : IsOfCycle k n i.held.seen o
  cycle = i.held.cycle

  stands : DriverStands v index (restoring (cycle_of o) []) i.held.seen
  stands = stands_on q (kept v (stage.Swept o room) k n) index i (restoring (cycle_of o) []) i.held.at.1

  count : length (handles_of o.graph.nodes) ≡ n
  count = cycle.candidates.count ∙ cycle.count

  pub may_restore_all : MayRestoreAll v index o.graph.nodes
  may_restore_all = record { opened = cycle_of o; seen = i.held.seen; stands = stands; candidates = cycle.candidates }

  pub no_answer : room.values ≡ []
  no_answer = i.held.at.0.none

  pub room_for_all : room.room ≡ length (handles_of o.graph.nodes)
  room_for_all = i.held.at.0.room ∙ sym count

  module _ (mid : View) (values : List (Option HNum)) (done : RestoresAll v mid index o.graph.nodes (handles_of o.graph.nodes) values) where
    w : Restores v mid index (length (handles_of o.graph.nodes)) values (cycle_of o) i.held.seen
    w = done (cycle_of o) i.held.seen stands cycle.candidates

    all : length (answers_of values) ≡ length (candidates_of i.held.seen)
    all = answers_count values ∙ (w.count ∙ cycle.candidates.count)

    pub may_clear : MayClearCycle mid index k.0
    may_clear = record { opened = cycle_of o; answers = answers_of values; seen = i.held.seen; stands = w.stands; all = all; same = ap (λ (z : Cycle). z.0) cycle.same }

    pub restored_now : (new : View) (answers : Answers) (m : ℕ) → answers.values ≡ values → MakesClear mid new index k m → Steps q (kept new (stage.Restored o answers m) k n) index says.Ok
    restored_now new answers m is makes =
        let c = makes (cycle_of o) (answers_of values) i.held.seen w.stands all (ap (λ (z : Cycle). z.0) cycle.same) in
        let clear : Entry = driver_entry m index (op.Clear k) says.Ok None in
        steps q (kept v (stage.Swept o room) k n) (kept new (stage.Restored o answers m) k n) index says.Ok (restored (cycle_of o) (answers_of answers.values) m) i.held.seen i
        (subst (λ (bs : List (Option HNum)). DriverStands new index (restored (cycle_of o) (answers_of bs) m) i.held.seen) (sym is) c.1) i.held.cycle refl (record {
          entries = w.entries ++ clear ∷ [];
          runs = record {
            enters = record {
              made = makes_more v mid new w.entries (clear ∷ []) w.makes.made (makes_one mid new (restoring (cycle_of o) (answers_of values)) i.held.seen clear nothing c.0);
              places = places_more index w.entries (clear ∷ []) w.makes.places (refl, refl, tt);
              cycle = sym (cycle_more k w.entries (clear ∷ []) ∙ w.makes.cycle k);
              candidates = sym (candidates_more n w.entries (clear ∷ []) ∙ w.makes.candidates n);
            };
            events = (
              w.entries ++ clear ∷ [],
              [],
              sym (append_nil (w.entries ++ clear ∷ [])),
              (w.entries, clear, refl, subst (λ (j : ℕ). AreTimes word.Restore j w.entries) count w.makes.times, tt),
              refl,
            );
            leads = (at.Restored, refl, refl);
          };
          last = sym (last_snoc w.entries clear);
        })
