-- A driver that isn't idle has a snapshot, whose graph is that of the open cycle's dead part; and where the driver
-- stands names the cycle.
use Rattle.std.proofs.Common.{◌≡◌, ℕ, Option, Some, IfSome, ap, ◌∙◌, subst}
use Rattle.joint_machine.specs.declared.names.Cycle.{Cycle}
use Rattle.joint_machine.specs.Control.{Stand}
use Rattle.known_laws.specs.Facts as facts
use Rattle.managed_heap.specs.declared.opening.Opened.{Opened as Snapshot}
use Rattle.bridge_cycle.specs.declared.stages.Stage.{Stage}
use Rattle.bridge_cycle.specs.declared.stages.Stage.TheVariants as stage
use Rattle.bridge_cycle.specs.Held.{Fields, IsAt, IsOfCycle, KnowsItsStand, cycle_of, shown, snapshot_in}
use Rattle.bridge_cycle.specs.OpenParts.{IsOpenPart}
use Rattle.bridge_cycle.specs.Progress.{Progress}

-- the stand names the cycle of the stage's snapshot
names_cycle : (s : Stage) (n : ℕ) (stand : Stand) → IsAt s n stand → IfSome (snapshot_in s) (λ o. facts.opened_of stand ≡ Some (cycle_of o))
names_cycle stage.Idle n stand a = tt
names_cycle (stage.Snapped o) n stand a = ap facts.opened_of a
names_cycle (stage.Contracted o l r) n stand a = ap facts.opened_of a.1.2
names_cycle (stage.Mirrored o r) n stand a = ap facts.opened_of a.1
names_cycle (stage.Weakened o r) n stand a = ap facts.opened_of a.1.1
names_cycle (stage.Marked o r) n stand a = ap facts.opened_of a.1
names_cycle (stage.Swept o r) n stand a = ap facts.opened_of a.1
names_cycle (stage.Restored o r clear) n stand a = ap facts.opened_of a

-- so it is of what contracts see of the driver
pub graph_seen : {f : Fields} {q : Progress} {o : Snapshot} → shown f ≡ q → KnowsItsStand f → snapshot_in f.stage ≡ Some o → IsOpenPart q.view q.cycle o.graph
graph_seen {f} {q} {o} e h there =
    let c : IsOfCycle f.cycle f.candidates h.seen o = subst (λ (z : Option Snapshot). IfSome z (λ y. IsOfCycle f.cycle f.candidates h.seen y)) there h.cycle in
    let named : facts.opened_of h.stand ≡ Some (cycle_of o) = subst
    (λ (z : Option Snapshot). IfSome z (λ y. facts.opened_of h.stand ≡ Some (cycle_of y))) there (names_cycle f.stage f.candidates h.stand h.at) in
    subst (λ (d : Progress). IsOpenPart d.view d.cycle o.graph) e (record {
      known = h.stands.known;
      opened = cycle_of o;
      driven = ap facts.opened_of h.stands.stands.come ∙ named;
      number = ap (λ (k : Cycle). k.0) c.same;
      seen = h.seen;
      kept = c.kept;
      same = h.stands.stands.dead;
      cycle = c.cycle;
      open_cycle = c.opened;
      graph = c.graph;
      part = c.part;
    })
