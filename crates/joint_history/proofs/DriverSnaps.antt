-- The driver's snapshot under the managed lock: no cycle is open while the driver is idle, and after the entry the
-- driver has seen the side's objects as they are then.
use Rattle.std.proofs.Common.{◌≡◌, ℕ, ◌+◌, ◌<◌, ◌^◌, List, [], ◌∷◌, ◌++◌, Option, Some, None, refl, sym, ap, ◌∙◌, subst}
use Rattle.std.specs.Prelude.{Result, IfOk, OnErr}
use base.Growing.{prefix_trans}
use Rattle.joint_machine.specs.declared.names.Thread.TheVariants.{C}
use Rattle.joint_machine.specs.declared.names.Span.{Span}
use Rattle.joint_machine.specs.declared.events.Entry.{Entry}
use Rattle.joint_machine.specs.declared.events.Op.TheVariants as op
use Rattle.joint_machine.specs.declared.events.Reply.{Reply}
use Rattle.joint_machine.specs.declared.events.Reply.TheVariants as says
use Rattle.joint_machine.specs.Control.{Stand, idle, snapped}
use Rattle.joint_machine.specs.Cycles.{snap_reply}
use Rattle.joint_machine.specs.Managed.{Managed, OpenCycle}
use Rattle.joint_machine.specs.ManagedReplay.{ManagedReplay}
use Rattle.joint_machine.specs.Sides.{Side, managed_rules}
use Rattle.joint_machine.specs.Told.{Told, kept_pins, snap_of}
use Rattle.joint_laws.specs.ManagedInvariants.{ManagedInvariant}
use Rattle.known_laws.proofs.Conditions.{idle_is_closed}
use Rattle.known_laws.proofs.KnownPasts.{past_invariant_holds}
use Rattle.managed_heap.specs.declared.opening.Opened.{Opened}
use Rattle.order_table.specs.declared.views.View.{View}
use Rattle.order_table.specs.Views.{OrderId, Shown, known, Owns}
use Rattle.order_table.proofs.Lines.{below_begins}
use Rattle.joint_history.specs.Callers.{HoldsPass}
use Rattle.joint_history.specs.Driven.{DriverMakes, DriverMakesNone, DriverRests, DriverStands, driver_entry}
use Rattle.joint_history.specs.DriverSnaps.{DrawsSnapshot, MakesSnapshot}
use Rattle.joint_history.specs.Locked.{Drew, ManagedKnows, StaysSeated}
use Rattle.seat_calls.specs.Passing.{Lends, Returns}
use Rattle.joint_history.proofs.DriverCalls.{Called, IsUnderLock, called, stands_anew}
use Rattle.joint_history.proofs.DriverSteps.{DrivenUnder, driven}

-- no cycle is open
pub may_snap : (side : ManagedReplay) (seen : Managed) → IsUnderLock side idle seen → side.managed.cycle ≡ None
may_snap side seen u = subst (λ (r : ManagedReplay). r.managed.cycle ≡ None) u.managed (idle_is_closed u.state u.kept u.stood)

-- an open cycle
abbrev cycle_of : ℕ → List ℕ → List ℕ → Option OpenCycle
cycle_of k candidates dead = Some record { number = k; candidates = candidates; dead = dead }

module _ (locked mine mine1 locked2 mine2 : View) (order : OrderId) (seat seat' : Shown) (old new : Side ManagedReplay) (index : ℕ) (pass : HoldsPass C mine)
    (owns : Owns locked 0) (short : index < 2 ^ 32) (ks : ManagedKnows locked old) (l : Lends C locked mine seat.view mine1) (b : Returns C seat'.view mine1 locked2 mine2) where
  with_snapshot_of : (out : Opened) (d : DrawsSnapshot order seat seat' old new index out) (m : Managed) → DriverStands mine index idle m
      → DrivenUnder mine locked2 mine2 old new index idle m (driver_entry out.number index (op.Snap out.cycle) (snap_reply old.state.managed d.freed d.candidates) None)
      (kept_pins d.pins (snap_of d.freed d.candidates d.dead))
  with_snapshot_of out d m s =
      let drew = subst (λ (k : ℕ). Drew managed_rules 0 order seat seat' old new
      (driver_entry out.number index (op.Snap record { 0 = k }) (snap_reply old.state.managed d.freed d.candidates) None) (kept_pins d.pins (snap_of d.freed d.candidates d.dead))) (sym d.cycle)
      (subst (λ (k : ℕ). Drew managed_rules 0 order seat seat' old new
      (driver_entry k index (op.Snap record { 0 = old.state.managed.cycles + 1 }) (snap_reply old.state.managed d.freed d.candidates) None)
      (kept_pins d.pins (snap_of d.freed d.candidates d.dead))) d.same_number d.drew) in
      driven locked mine mine1 locked2 mine2 order seat seat' old new index idle m (driver_entry out.number index (op.Snap out.cycle) (snap_reply old.state.managed d.freed d.candidates) None)
      (kept_pins d.pins (snap_of d.freed d.candidates d.dead)) pass owns refl refl short ks s (λ issued. refl) d.stand l drew b

  pub snapshot_made : (out : Opened) → DrawsSnapshot order seat seat' old new index out → MakesSnapshot mine mine2 index out
  snapshot_made out d m s =
      let w = (with_snapshot_of out d m s).driven in
      let reply : says.Snapped out.candidates out.freed ≡ snap_reply old.state.managed d.freed d.candidates = rw (d.counted, d.span) refl in
      record {
        freed = d.freed;
        candidates = d.candidates;
        dead = d.dead;
        pins = d.pins;
        counted = d.counted;
        count = ap (λ (s : Span). s.count) d.span;
        makes = subst (λ (r : Reply). DriverMakes mine mine2 idle m (driver_entry out.number index (op.Snap out.cycle) r None) (kept_pins d.pins (snap_of d.freed d.candidates d.dead)))
            (sym reply) w.makes;
        seen = new.state.managed;
        kept = subst (λ (r : ManagedReplay). ManagedInvariant r.managed) w.after (past_invariant_holds w.known.known.past w.known.known.lawful).kept.managed.managed;
        opened = ap (λ (r : ManagedReplay). r.managed.cycle) d.drew.goes.state ∙ ap (λ (k : ℕ). cycle_of k d.candidates d.dead) (sym d.cycle);
        graph = d.graph;
        stands = stands_anew mine mine2 old new index idle (snapped record { cycle = out.cycle.0; snap = out.number }) m
            (driver_entry out.number index (op.Snap out.cycle) (snap_reply old.state.managed d.freed d.candidates) None) (kept_pins d.pins (snap_of d.freed d.candidates d.dead)) w refl;
      }

  pub snapshot_called : {E : Type 0} (result : Result Opened E) (w : DriverRests mine index) → IfOk result (λ o. DrawsSnapshot order seat seat' old new index o)
      → OnErr result (StaysSeated seat seat' × (new ≡ old)) → Called mine locked2 mine2 new result (λ o. MakesSnapshot mine mine2 index o)
  snapshot_called result w d e = called locked mine mine1 locked2 mine2 order seat seat' old new index pass owns short ks l b
      (λ o. DrawsSnapshot order seat seat' old new index o) (λ o. MakesSnapshot mine mine2 index o) result w.stands.known
      (λ o y. ((with_snapshot_of o y w.seen w.stands).knows, snapshot_made o y)) d e

-- where no entry was made it may be tried again
pub none_then_none : (u v w : View) → DriverMakesNone u v → DriverMakesNone v w → DriverMakesNone u w
none_then_none u v w a b = record {
  own = b.own ∙ a.own;
  more = λ i. prefix_trans (known u i) (known v i) (known w i) (a.more i) (b.more i);
  stands = λ index stand seen s. b.stands index stand seen (a.stands index stand seen s);
}

pub none_then_makes : (u v w : View) (stand : Stand) (seen : Managed) (e : Entry) (told : Told) → DriverMakesNone u v → DriverMakes v w stand seen e told → DriverMakes u w stand seen e told
none_then_makes u v w stand seen e told a m = record {
  own = m.own ∙ ap (λ es. es ++ e ∷ []) a.own;
  more = λ i. prefix_trans (known u i) (known v i) (known w i) (a.more i) (m.more i);
  above = λ i. below_begins e.number (known u i) (known v i) (a.more i) (m.above i);
  state = m.state;
  comes = m.comes;
  kept = m.kept;
  stood = m.stood;
  dead = m.dead;
}

pub none_rests : (u v : View) (index : ℕ) → DriverMakesNone u v → DriverRests u index → DriverRests v index
none_rests u v index a r = record { seen = r.seen; stands = a.stands index idle r.seen r.stands }

pub none_then_snap : (u v w : View) (index : ℕ) (out : Opened) → DriverMakesNone u v → MakesSnapshot v w index out → MakesSnapshot u w index out
none_then_snap u v w index out a t m s =
    let o = t m (a.stands index idle m s) in
    record {
      freed = o.freed;
      candidates = o.candidates;
      dead = o.dead;
      counted = o.counted;
      count = o.count;
      pins = o.pins;
      makes = none_then_makes u v w idle m (driver_entry out.number index (op.Snap out.cycle) (says.Snapped out.candidates out.freed) None)
          (kept_pins o.pins (snap_of o.freed o.candidates o.dead)) a o.makes;
      seen = o.seen;
      kept = o.kept;
      opened = o.opened;
      graph = o.graph;
      stands = o.stands;
    }
