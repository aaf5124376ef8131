-- A cycle that isn't mirrored yet may be abandoned: the driver makes one entry, keeps nothing of the cycle, and is
-- idle. So a phase that takes memory and finds none leaves the driver idle, after the snapshot by that entry.
use Rattle.std.proofs.Common.{◌≡◌, ℕ, ◌≤◌, List, [], ◌∷◌, ◌++◌, None, refl, sym, ap, ◌∙◌, subst}
use Rattle.joint_machine.specs.declared.names.Cycle.{Cycle}
use Rattle.joint_machine.specs.declared.events.Entry.{Entry}
use Rattle.joint_machine.specs.declared.events.Op.TheVariants as op
use Rattle.joint_machine.specs.declared.events.Reply.TheVariants as says
use Rattle.joint_machine.specs.Control.{Stand, idle, snapped, contracted}
use Rattle.joint_model.specs.Listed.{Answers}
use Rattle.joint_machine.specs.Managed.{Managed}
use Rattle.joint_machine.specs.Told.{nothing}
use Rattle.xref_list.specs.Listing.{Listing}
use Rattle.managed_heap.specs.declared.opening.Opened.{Opened as Snapshot}
use Rattle.order_table.specs.declared.views.View.{View}
use Rattle.joint_history.specs.Driven.{DriverMakesNone, DriverStands, IsUnmirrored, MakesAbandon, MayAbandonCycle, driver_entry}
use Rattle.dead_parts.specs.Graphs.{numbered_comps}
use Rattle.bridge_cycle.specs.declared.stages.Stage.{Stage}
use Rattle.bridge_cycle.specs.declared.stages.Stage.TheVariants as stage
use Rattle.bridge_cycle.specs.Held.{Fields, IsOfCycle, KnowsItsStand, cycle_of, shown}
use Rattle.bridge_cycle.specs.Progress.{AbandonsCycle, Enters, Progress, RunsWords, cycle_after, line_of}
use Rattle.bridge_cycle.proofs.Making.{Fails, DriverKeeps, enters_more, held_there, kept, line_below, makes_one, stands_on}
use Rattle.bridge_cycle.proofs.Refusals.{stayed_now, still_keeps}

-- where the driver stands before the mirror
pub record IsBefore (f : Fields) (index : ℕ) : Type 0 where
  pub snapshot : Snapshot
  pub stand : Stand
  pub seen : Managed
  pub stands : DriverStands f.view index stand seen
  pub unmirrored : IsUnmirrored stand (cycle_of snapshot)
  pub same : snapshot.cycle ≡ f.cycle

pub may_abandon : {f : Fields} {index : ℕ} → IsBefore f index → MayAbandonCycle f.view index
may_abandon b = record { opened = cycle_of b.snapshot; stand = b.stand; seen = b.seen; stands = b.stands; unmirrored = b.unmirrored }

-- what the driver keeps of an abandoned cycle
record Abandons (f next : Fields) (index : ℕ) : Type 0 where
  held : KnowsItsStand next
  line : line_of (shown next) ≤ index
  abandons : AbandonsCycle (shown f) (shown next) index

abandoned_now : (f : Fields) (index : ℕ) → IsBefore f index → (new : View) (m : ℕ) → MakesAbandon f.view new index m → Abandons f (kept new stage.Idle f.cycle f.candidates) index
abandoned_now f index b new m makes =
    let w = makes (cycle_of b.snapshot) b.stand b.seen b.stands b.unmirrored in
    let e = driver_entry m index (op.Abandon record { 0 = b.snapshot.cycle.0 }) says.Ok None in
    record {
      held = held_there (kept new stage.Idle f.cycle f.candidates) index idle w.1.seen w.1.stands tt refl;
      line = line_below new index idle w.1.seen w.1.stands;
      abandons = record {
        entry = e;
        enters = record { made = makes_one f.view new b.stand b.seen e nothing w.0; places = (refl, refl, tt); cycle = refl; candidates = refl };
        abandons = ap (λ (k : Cycle). op.Abandon record { 0 = k.0 }) b.same;
        replies = refl;
        idle = refl;
      };
    }

-- nothing was made before the cycle was abandoned
abandons_after : (old mid new : Progress) (index : ℕ) → RunsWords old mid index [] → AbandonsCycle mid new index → AbandonsCycle old new index
abandons_after old mid new index r a =
    let none = r.1.events in
    record {
      entry = a.entry;
      enters = subst (λ (es : List Entry). Enters old new index (es ++ a.entry ∷ [])) none (enters_more old mid new index r.0 (a.entry ∷ []) r.1.enters a.enters);
      abandons = a.abandons ∙ ap (λ (k : Cycle). op.Abandon record { 0 = k.0 }) (r.1.enters.cycle ∙ ap (cycle_after old.cycle) none);
      replies = a.replies;
      idle = a.idle;
    }

-- it is idle then
fails : (q : Progress) (f : Fields) (new : View) (s : Stage) (index : ℕ) → s ≡ stage.Idle → DriverKeeps q f index → Fails (shown f) (kept new stage.Idle f.cycle f.candidates) index
    → Fails q (kept new s f.cycle f.candidates) index
fails q f new s index is i w = subst (λ (z : Stage). Fails q (kept new z f.cycle f.candidates) index)
    (sym is) (subst (λ (d : Progress). Fails d (kept new stage.Idle f.cycle f.candidates) index) i.seen w)

-- the snapshot found no memory
module _ {q : Progress} {v : View} {k : Cycle} {n index : ℕ} (i : DriverKeeps q (kept v stage.Idle k n) index) where
  pub snap_fails : (new : View) (s : Stage) → s ≡ stage.Idle → DriverMakesNone v new → Fails q (kept new s k n) index
  snap_fails new s is none =
      let w = stayed_now (shown (kept v stage.Idle k n)) (kept v stage.Idle k n) index (record { held = i.held; line = i.line; seen = refl }) new none in
      fails q (kept v stage.Idle k n) new s index is i (record { held = w.held; line = w.line; lacks = record { takes = tt; gives_up = w.runs; idle = refl } })

-- the contraction did
module _ {q : Progress} {v : View} {k : Cycle} {n index : ℕ} {o : Snapshot} (i : DriverKeeps q (kept v (stage.Snapped o) k n) index) where
  pub before_contract : IsBefore (kept v (stage.Snapped o) k n) index
  before_contract =
      let c : IsOfCycle k n i.held.seen o = i.held.cycle in
      record {
        snapshot = o;
        stand = snapped (cycle_of o);
        seen = i.held.seen;
        stands = stands_on q (kept v (stage.Snapped o) k n) index i (snapped (cycle_of o)) i.held.at;
        unmirrored = refl;
        same = c.same;
      }

  pub contract_fails : (new : View) (s : Stage) (m : ℕ) → s ≡ stage.Idle → MakesAbandon v new index m → Fails q (kept new s k n) index
  contract_fails new s m is makes =
      let a = abandoned_now (kept v (stage.Snapped o) k n) index before_contract new m makes in
      fails q (kept v (stage.Snapped o) k n) new s index is i (record { held = a.held; line = a.line; lacks = record { takes = tt; gives_up = a.abandons; idle = refl } })

-- the mirror did, and had made nothing
module _ {q : Progress} {v : View} {k : Cycle} {n index : ℕ} {o : Snapshot} {listing : Listing} {room : Answers}
    (i : DriverKeeps q (kept v (stage.Contracted o listing room) k n) index) (mid : View) (none : DriverMakesNone v mid) where
  pub before_mirror : IsBefore (kept mid (stage.Contracted o listing room) k n) index
  before_mirror =
      let j = still_keeps q (kept v (stage.Contracted o listing room) k n) index i mid none in
      let c : IsOfCycle k n j.held.seen o = j.held.cycle in
      let stand = contracted (cycle_of o) (numbered_comps o.graph listing.comps) j.held.at.1.0 listing.pairs in
      record {
        snapshot = o;
        stand = stand;
        seen = j.held.seen;
        stands = stands_on (shown (kept mid (stage.Contracted o listing room) k n)) (kept mid (stage.Contracted o listing room) k n) index j stand j.held.at.1.2;
        unmirrored = refl;
        same = c.same;
      }

  pub mirror_fails : (new : View) (s : Stage) (m : ℕ) → s ≡ stage.Idle → MakesAbandon mid new index m → Fails q (kept new s k n) index
  mirror_fails new s m is makes =
      let w = stayed_now (shown (kept v (stage.Contracted o listing room) k n)) (kept v (stage.Contracted o listing room) k n) index (record { held = i.held; line = i.line; seen = refl }) mid none in
      let a = abandoned_now (kept mid (stage.Contracted o listing room) k n) index before_mirror new m makes in
      let all = abandons_after (shown (kept v (stage.Contracted o listing room) k n))
      (shown (kept mid (stage.Contracted o listing room) k n)) (shown (kept new stage.Idle k n)) index w.runs a.abandons in
      fails q (kept v (stage.Contracted o listing room) k n) new s index is i (record { held = a.held; line = a.line; lacks = record { takes = tt; gives_up = all; idle = refl } })
