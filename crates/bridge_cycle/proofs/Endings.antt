-- The cycle's own marking, and the end of the cycle.
use Rattle.std.proofs.Common.{◌≡◌, inl, inr, ℕ, Bool, true, false, List, [], ◌∷◌, length, Option, Some, None, refl, sym}
use Rattle.joint_machine.specs.declared.names.Cycle.{Cycle}
use Rattle.joint_machine.specs.declared.names.Marking.{Marking}
use Rattle.joint_machine.specs.declared.names.Span.{Span}
use Rattle.joint_machine.specs.declared.names.Thread.TheVariants.{C}
use Rattle.joint_machine.specs.declared.names.Phase.TheVariants as at
use Rattle.joint_machine.specs.declared.names.PhaseWord.TheVariants as word
use Rattle.joint_machine.specs.declared.events.Entry.{Entry}
use Rattle.joint_machine.specs.declared.events.Op.TheVariants as op
use Rattle.joint_machine.specs.declared.events.Reply.TheVariants as says
use Rattle.joint_machine.specs.Control.{OpenSnap, weakening, marked, restored}
use Rattle.joint_model.specs.Listed.{Answers, answers_of}
use Rattle.joint_machine.specs.Managed.{Managed, candidates_of}
use Rattle.joint_machine.specs.Phases.{ArePhase, candidates_after}
use Rattle.joint_machine.specs.Told.{nothing, sweep_of}
use Rattle.managed_heap.specs.declared.opening.Opened.{Opened as Snapshot}
use Rattle.peer_heap.specs.declared.side.Swept.{Swept}
use Rattle.order_table.specs.declared.views.View.{View}
use Rattle.joint_history.specs.declared.marks.Begun.{Begun}
use Rattle.joint_history.specs.Driven.{DriverStands, MakesResolution, MayResolveCycle, driver_entry}
use Rattle.joint_history.specs.DriverMarks.{EndsFirst, HasBegunMarking, MakesBegin, MakesMark, MakesSweep, MayMarkCycle}
use Rattle.joint_history.specs.Operations.{MakesAll}
use Rattle.bridge_cycle.specs.declared.stages.Stage.TheVariants as stage
use Rattle.bridge_cycle.specs.Held.{IsOfCycle, cycle_of}
use Rattle.bridge_cycle.specs.Progress.{AreDriversOnLine, Progress, cycle_after, last_reply}
use Rattle.bridge_cycle.proofs.Making.{DriverKeeps, Steps, append_nil, kept, makes_more, makes_nothing, makes_one, stands_on, steps, steps_one}

-- the cycle's own marking was begun, after one that was open was ended, or there was none
module _ (old between new : View) (index : ℕ) (o : OpenSnap) (count : ℕ) (weakened : Bool) (m : Managed) (stands : DriverStands old index (weakening o count weakened false) m)
    (all : count ≡ length (candidates_of m)) (n : ℕ) (j : Marking) (begins : MakesBegin between new index n j) where
  abbrev begin : Entry
  begin = driver_entry n index op.Begin (says.Mark j) None

  -- the entries, and where they lead
  pub record Began : Type 0 where
    pub entries : List Entry
    pub made : MakesAll C old new entries
    pub places : AreDriversOnLine index entries
    pub phase : ArePhase count word.Mark entries
    pub cycle : (k : Cycle) → cycle_after k entries ≡ k
    pub candidates : candidates_after count entries ≡ count
    pub last : last_reply entries ≡ says.Mark j
    pub now : DriverStands new index (marked o) m

  pub began : (ended : Option (ℕ × Swept)) → EndsFirst old between index ended → Began
  began None none =
      let w = begins o count weakened false m (none.stands index (weakening o count weakened false) m stands) all in
      record {
        entries = begin ∷ [];
        made = makes_more old between new [] (begin ∷ []) (makes_nothing old between none) (makes_one between new (weakening o count weakened false) m begin nothing w.makes);
        places = (refl, refl, tt);
        phase = inl (record { each = (tt, tt); count = refl });
        cycle = λ k. refl;
        candidates = refl;
        last = refl;
        now = w.stands;
      }
  began (Some r) sweeps =
      let v = sweeps (weakening o count weakened false) m stands (all, refl, refl) in
      let w = begins o count true true m v.stands all in
      let sweep : Entry = driver_entry r.0 index op.Sweep (says.Swept r.1.marking r.1.freed) None in
      record {
        entries = sweep ∷ begin ∷ [];
        made = makes_more old between new (sweep ∷ []) (begin ∷ []) (makes_one old between (weakening o count weakened false) m sweep (sweep_of v.freed) v.makes)
            (makes_one between new (weakening o count true true) m begin nothing w.makes);
        places = (refl, refl, (refl, refl, tt));
        phase = inr (sweep, begin, r.1.marking.0, r.1.freed, refl, refl, refl, tt);
        cycle = λ k. refl;
        candidates = refl;
        last = refl;
        now = w.stands;
      }

module _ {q : Progress} {v : View} {k : Cycle} {n index : ℕ} {o : Snapshot} {room : Answers} (i : DriverKeeps q (kept v (stage.Weakened o room) k n) index) where
  cycle : IsOfCycle k n i.held.seen o
  cycle = i.held.cycle

  abbrev weakened : Bool
  weakened = i.held.at.1.0

  stands : DriverStands v index (weakening (cycle_of o) n weakened false) i.held.seen
  stands = stands_on q (kept v (stage.Weakened o room) k n) index i (weakening (cycle_of o) n weakened false) i.held.at.1.1

  pub may_mark : MayMarkCycle v index
  may_mark = record { opened = cycle_of o; count = n; weakened = weakened; seen = i.held.seen; stands = stands; all = sym cycle.count }

  pub marked_now : (new : View) (out : Begun) → MakesMark v new index out → Steps q (kept new (stage.Marked o room) k n) index (says.Mark out.marking)
  marked_now new out makes =
      let w = began v makes.between new index (cycle_of o) n weakened i.held.seen stands (sym cycle.count) out.number out.marking makes.begins out.ended makes.ends in
      steps q (kept v (stage.Weakened o room) k n) (kept new (stage.Marked o room) k n) index
      (says.Mark out.marking) (marked (cycle_of o)) i.held.seen i w.now i.held.cycle (i.held.at.0, refl) (record {
        entries = w.entries;
        runs = record {
          enters = record { made = w.made; places = w.places; cycle = sym (w.cycle k); candidates = sym w.candidates };
          events = (w.entries, [], sym (append_nil w.entries), w.phase, refl);
          leads = (at.Marked, refl, refl);
        };
        last = sym w.last;
      })

module _ {q : Progress} {v : View} {k : Cycle} {n index : ℕ} {o : Snapshot} {room : Answers} (i : DriverKeeps q (kept v (stage.Marked o room) k n) index) where
  stands_marked : DriverStands v index (marked (cycle_of o)) i.held.seen
  stands_marked = stands_on q (kept v (stage.Marked o room) k n) index i (marked (cycle_of o)) i.held.at.1

  pub has_begun : HasBegunMarking v index
  has_begun = record { opened = cycle_of o; seen = i.held.seen; stands = stands_marked }

  pub swept_now : (new : View) (m : ℕ) (out : Swept) → MakesSweep v new index m out → Steps q (kept new (stage.Swept o room) k n) index (says.Swept out.marking out.freed)
  swept_now new m out makes =
      let w = makes (marked (cycle_of o)) i.held.seen stands_marked refl in
      steps_one _ _ (kept new (stage.Swept o room) k n) index m op.Sweep _ None _ _ _ _ _ i w.makes w.stands i.held.cycle (i.held.at.0, refl)
      (record { each = (tt, tt); count = refl }) refl refl refl

module _ {q : Progress} {v : View} {k : Cycle} {n index : ℕ} {o : Snapshot} {answers : Answers} {clear : ℕ} (i : DriverKeeps q (kept v (stage.Restored o answers clear) k n) index) where
  stands_restored : DriverStands v index (restored (cycle_of o) (answers_of answers.values) clear) i.held.seen
  stands_restored = stands_on q (kept v (stage.Restored o answers clear) k n) index i (restored (cycle_of o) (answers_of answers.values) clear) i.held.at

  pub may_resolve : MayResolveCycle v index clear (answers_of answers.values)
  may_resolve = record { opened = cycle_of o; seen = i.held.seen; stands = stands_restored }

  pub resolved_now : (new : View) (m : ℕ) (span : Span) → MakesResolution v new index clear m (answers_of answers.values) span → Steps q (kept new stage.Idle k n) index (says.Freed span)
  resolved_now new m span makes =
      let w = makes (cycle_of o) i.held.seen stands_restored in
      steps_one _ _ (kept new stage.Idle k n) index m (op.Resolve record { 0 = o.cycle.0 }) _ (Some clear) _ _ _ _ _ i w.makes w.rests.stands tt refl
      (record { each = (tt, tt); count = refl }) refl refl refl
