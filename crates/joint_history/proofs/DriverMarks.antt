-- The driver's marking under the peer lock: after its sweep no marking is open, so its begin gives a number; and in its
-- marked phase its own is open, whatever slices it has made.
use Rattle.std.proofs.Common.{◌≡◌, inl, ℕ, ◌<◌, ◌^◌, Bool, true, false, List, [], length, Option, Some, None, refl, sym, ap, ◌∙◌, subst}
use base.Growing.{prefix_refl}
use Rattle.std.specs.Prelude.{IsSome}
use Rattle.joint_machine.specs.declared.names.Marking.{Marking as Number}
use Rattle.joint_machine.specs.declared.names.Span.{Span}
use Rattle.joint_machine.specs.declared.names.Thread.{Thread}
use Rattle.joint_machine.specs.declared.names.Thread.TheVariants.{C}
use Rattle.joint_machine.specs.declared.events.Entry.{Entry}
use Rattle.joint_machine.specs.declared.events.Op.TheVariants as op
use Rattle.joint_machine.specs.declared.events.Reply.{Reply}
use Rattle.joint_machine.specs.declared.events.Reply.TheVariants as says
use Rattle.joint_machine.specs.Control.{OpenSnap, Stand, idle, snapped, contracted, weakening, marked, restoring, restored, DriverAllows, stand_after}
use Rattle.joint_machine.specs.Managed.{Managed, candidates_of}
use Rattle.joint_machine.specs.PeerReplay.{PeerReplay, Marking, swept}
use Rattle.joint_machine.specs.Peers.{Issued}
use Rattle.joint_machine.specs.Sides.{Side, peer_rules}
use Rattle.joint_machine.specs.Told.{Told, nothing, sweep_of}
use Rattle.known_laws.proofs.Conditions.{marked_is_the_drivers, sweep_leaves_none}
use Rattle.peer_heap.specs.declared.side.Swept.{Swept}
use Rattle.peer_heap.specs.Sides.{IsDrivers, IsMarkingOf, MayEnd, PeerModel, Reserve, is_own, reserve_begun, seen}
use Rattle.order_table.specs.declared.views.View.{View}
use Rattle.order_table.specs.Views.{OrderId, Shown, Owns, known}
use Rattle.joint_history.specs.Callers.{HoldsPass}
use Rattle.joint_history.specs.Driven.{DriverMakesNone, DriverStands, driver_entry}
use Rattle.joint_history.specs.DriverMarks.{DrawsEnd, DrawsSweep, EndsFirst, HasBegunMarking, MakesBegin, MakesSweep, MayMarkCycle, after_sweep}
use Rattle.joint_history.specs.Knowing.{line_known}
use Rattle.joint_history.specs.Locked.{Drew, PeerKnows, PeerReserves}
use Rattle.joint_history.specs.Steps.{GoesFurther}
use Rattle.seat_calls.specs.Passing.{Lends, Returns}
use Rattle.joint_history.proofs.DeadParts.{count_same}
use Rattle.joint_history.proofs.DriverPeerSteps.{DrivenUnderPeers, IsUnderPeers, driven_peers, under_peers}
use Rattle.joint_history.proofs.DriverSnaps.{none_then_makes}
use Rattle.joint_history.proofs.Fitting.{goes_further, same_further}
use Rattle.joint_history.proofs.Lent.{bare, goes_on, lends_bare, pauses, returns_bare}
use Rattle.joint_history.proofs.LockedSteps.{list_more}
use Rattle.joint_history.proofs.Reserving.{begin_kept, drew_reserves, quiet_kept}

-- the driver may end any marking
pub driver_ends : (o : Option Marking) → MayEnd o C
driver_ends None = tt
driver_ends (Some mk) = inl refl

some_marking : (o : Option Marking) (mk : Marking) → o ≡ Some mk → IsSome o
some_marking o mk e = subst IsSome (sym e) refl

-- in the marked phase the own marking is open
marked_open : (side : PeerReplay) (o : OpenSnap) (seen : Managed) → IsUnderPeers side (marked o) seen → IsSome side.marking
marked_open side o seen u =
    let w = marked_is_the_drivers u.state u.kept o u.stood in
    subst (λ (s : PeerReplay). IsSome s.marking) u.peer (some_marking u.state.peer.marking w.0 w.1)

pub is_open : (locked mine lent mine1 : View) (side : Side PeerReplay) (index : ℕ) → HoldsPass C mine → Owns locked 1
    → PeerKnows locked side → Lends C locked mine lent mine1 → HasBegunMarking mine index → IsSome side.state.marking
is_open locked mine lent mine1 side index pass owns ks l m = marked_open side.state m.opened m.seen
    (under_peers locked mine lent mine1 side index (marked m.opened) m.seen pass owns ks m.stands l)

-- and the driver began it
marked_own : (side : PeerReplay) (o : OpenSnap) (seen : Managed) → IsUnderPeers side (marked o) seen → IsDrivers side.marking
marked_own side o seen u =
    let w = marked_is_the_drivers u.state u.kept o u.stood in
    subst IsDrivers (sym (sym (ap (λ (s : PeerReplay). s.marking) u.peer) ∙ w.1)) w.2

pub is_own_marking : (locked mine lent mine1 : View) (side : Side PeerReplay) (index : ℕ) → HoldsPass C mine → Owns locked 1
    → PeerKnows locked side → Lends C locked mine lent mine1 → HasBegunMarking mine index → IsDrivers side.state.marking
is_own_marking locked mine lent mine1 side index pass owns ks l m = marked_own side.state m.opened m.seen
    (under_peers locked mine lent mine1 side index (marked m.opened) m.seen pass owns ks m.stands l)

-- where the driver stands after it has ended a marking
sweep_next : (stand : Stand) (n : ℕ) (reply : Reply) (told : Told) → stand_after stand n op.Sweep reply told ≡ after_sweep stand
sweep_next idle n reply told = refl
sweep_next (snapped o) n reply told = refl
sweep_next (contracted o comps heavy pairs) n reply told = refl
sweep_next (weakening o count weakened swept) n reply told = refl
sweep_next (marked o) n reply told = refl
sweep_next (restoring o answers) n reply told = refl
sweep_next (restored o answers clear) n reply told = refl

-- a sweep that was done says how many it freed
abbrev count_in : Reply → ℕ
count_in (says.Swept j span) = span.count
count_in r = 0

sweep_counts : (s : PeerReplay) (o : Option Marking) (freed : List ℕ) (j : Number) (span : Span) → says.Swept j span ≡ (swept s o C freed).reply → span.count ≡ length freed
sweep_counts s None freed j span e = (let f : says.Swept j span ≡ says.NoMark = e in cc)
sweep_counts s (Some mk) freed j span e = ap count_in e

-- after a sweep no marking is open
pub sweep_closes : (order : OrderId) (seat seat' : Shown) (old new : Side PeerReplay) (index n : ℕ) (out : Swept) → DrawsSweep order seat seat' old new index n out → new.state.marking ≡ None
sweep_closes order seat seat' old new index n out d = ap (λ (s : PeerReplay). s.marking) d.drew.goes.state ∙ sweep_leaves_none old.state None (sweep_of d.freed)

-- whether one is open, by what the side answers
pub none_open : (o : Option Marking) → IsMarkingOf None o → o ≡ None
none_open None w = refl
none_open (Some mk) w = absurd w

pub one_open : (m : Number × Thread) (o : Option Marking) → IsMarkingOf (Some m) o → IsSome o
one_open m None w = absurd w
one_open m (Some mk) w = refl

-- what the end of whatever was open leaves
pub record LeavesNone (seat seat' : Shown) (old new : PeerModel) : Type 0 where
  pub further : GoesFurther seat seat'
  pub reserve : new.reserve ≡ old.reserve
  pub threads : new.threads ≡ old.threads
  pub line : line_known seat.view 1 ≡ old.entries → line_known seat'.view 1 ≡ new.entries

pub leaves_none : (order : OrderId) (seat seat' : Shown) (old new : PeerModel) (index : ℕ) (o : Option (ℕ × Swept)) → DrawsEnd order seat seat' old new index o → LeavesNone seat seat' old new
leaves_none order seat seat' old new index None d = record {
  further = subst (GoesFurther seat) (sym d.0) (same_further seat);
  reserve = ap (λ (x : PeerModel). x.reserve) d.1;
  threads = ap (λ (x : PeerModel). x.threads) d.1;
  line = λ e. ap (λ (z : Shown). line_known z.view 1) d.0 ∙ (e ∙ ap (λ (x : PeerModel). x.entries) (sym d.1));
}
leaves_none order seat seat' old new index (Some r) d =
    let w = d.2.drew in
    let e : Entry = driver_entry r.0 index op.Sweep (says.Swept r.1.marking r.1.freed) None in
    record {
      further = goes_further order seat seat' 1 w.kept w.appends;
      reserve = d.1;
      threads = d.0;
      line = λ same. list_more seat.view seat'.view 1 w.kept e old.entries new.entries w.entry w.appends.grows same w.added;
    }

-- what a sweep and a begin leave under the lock, with what is reserved
pub record LeavesUnder (locked2 : View) (new : PeerModel) (Made : Type 0) : Type 0 where
  pub knows : PeerKnows locked2 (seen new)
  pub reserves : PeerReserves locked2 new
  pub makes : Made

-- the driver may begin its cycle's own marking: all handles of the cycle are weakened
pub record MayBeginMarking (v : View) (index : ℕ) : Type 0 where
  pub opened : OpenSnap
  pub count : ℕ
  pub weakened : Bool
  pub swept : Bool
  pub seen : Managed
  pub stands : DriverStands v index (weakening opened count weakened swept) seen
  pub all : count ≡ length (candidates_of seen)

-- a sweep comes by where the driver stands and the count of its candidates alone
sweep_on : (stand : Stand) (m n : Managed) (i j : List Issued) (r : Reply) (x y : Told) → length (candidates_of m) ≡ length (candidates_of n)
    → DriverAllows stand m i op.Sweep r None x → DriverAllows stand n j op.Sweep r None y
sweep_on (weakening o count weakened swept) m n i j r x y e w = (w.0 ∙ e, w.1, w.2)
sweep_on (marked o) m n i j r x y e w = w
sweep_on stand m n i j r x y e w = absurd w

module _ (locked mine mine1 locked2 mine2 : View) (order : OrderId) (seat seat' : Shown) (old new : PeerModel) (index : ℕ) (pass : HoldsPass C mine) (owns : Owns locked 1)
    (short : index < 2 ^ 32) (ks : PeerKnows locked (seen old)) (rs : PeerReserves locked old) (l : Lends C locked mine seat.view mine1) (b : Returns C seat'.view mine1 locked2 mine2) where
  with_sweep : (n : ℕ) (out : Swept) (d : DrawsSweep order seat seat' (seen old) (seen new) index n out) (stand : Stand) (m : Managed)
      → DriverStands mine index stand m → DriverAllows stand m [] op.Sweep (says.Swept out.marking out.freed) None nothing
      → DrivenUnderPeers mine locked2 mine2 (seen old) (seen new) index stand m (driver_entry n index op.Sweep (says.Swept out.marking out.freed) None) (sweep_of d.freed)
  with_sweep n out d stand m s now =
      driven_peers locked mine mine1 locked2 mine2 order seat seat' (seen old) (seen new) index stand m
      (driver_entry n index op.Sweep (says.Swept out.marking out.freed) None) (sweep_of d.freed) pass owns refl refl short ks s
      (λ u. sweep_on stand m u.state.managed.managed [] u.state.peer.peers.issued (says.Swept out.marking out.freed) nothing (sweep_of d.freed)
      (count_same m u.state.managed.managed u.dead) now) l d.drew b

  sweep_made : (n : ℕ) (out : Swept) → DrawsSweep order seat seat' (seen old) (seen new) index n out → MakesSweep mine mine2 index n out
  sweep_made n out d stand m s now =
      let w = (with_sweep n out d stand m s now).driven in
      record {
        freed = d.freed;
        count = sweep_counts old.state old.state.marking d.freed out.marking out.freed d.drew.goes.lawful.1.replies;
        makes = w.makes;
        stands = subst (λ (z : Stand). DriverStands mine2 index z m) (sweep_next stand n (says.Swept out.marking out.freed) w.told_now) w.stands;
      }

  -- the sweep, from wherever the driver may make it
  pub swept_under : (n : ℕ) (out : Swept) (stand : Stand) (m : Managed) → DriverStands mine index stand m
      → DriverAllows stand m [] op.Sweep (says.Swept out.marking out.freed) None nothing
      → DrawsSweep order seat seat' (seen old) (seen new) index n out → new.reserve ≡ old.reserve → LeavesUnder locked2 new (MakesSweep mine mine2 index n out)
  swept_under n out stand m s now d same =
      let e : Entry = driver_entry n index op.Sweep (says.Swept out.marking out.freed) None in
      record {
        knows = (with_sweep n out d stand m s now).knows;
        reserves = drew_reserves C locked mine mine1 locked2 mine2 order seat seat' old new e (sweep_of d.freed) ks rs l d.drew b
            (quiet_kept order seat seat' old new e (sweep_of d.freed) d.drew same tt (λ due. refl));
        makes = sweep_made n out d;
      }

  with_begin : (n : ℕ) (j : Number) → Drew peer_rules 1 order seat seat' (seen old) (seen new) (driver_entry n index op.Begin (says.Mark j) None) nothing
      → (o : OpenSnap) (count : ℕ) (weakened swept : Bool) (m : Managed) → DriverStands mine index (weakening o count weakened swept) m
      → count ≡ length (candidates_of m) → DrivenUnderPeers mine locked2 mine2 (seen old) (seen new) index (weakening o count weakened swept) m
      (driver_entry n index op.Begin (says.Mark j) None) nothing
  with_begin n j d o count weakened swept m s all =
      driven_peers locked mine mine1 locked2 mine2 order seat seat' (seen old) (seen new) index (weakening o count weakened swept) m
      (driver_entry n index op.Begin (says.Mark j) None) nothing pass owns refl refl short ks s
      (λ u. (all ∙ count_same m u.state.managed.managed u.dead, refl)) l d b

  begin_made : (n : ℕ) (j : Number) → Drew peer_rules 1 order seat seat' (seen old) (seen new) (driver_entry n index op.Begin (says.Mark j) None) nothing → MakesBegin mine mine2 index n j
  begin_made n j d o count weakened swept m s all = let w = (with_begin n j d o count weakened swept m s all).driven in record { makes = w.makes; stands = w.stands }

  -- the begin
  begun_under : (n : ℕ) (j : Number) → MayBeginMarking mine index → Drew peer_rules 1 order seat seat' (seen old) (seen new) (driver_entry n index op.Begin (says.Mark j) None) nothing
      → old.reserve.marking ≡ true → new.reserve ≡ reserve_begun (is_own C old.reserve.marking) old.reserve → LeavesUnder locked2 new (MakesBegin mine mine2 index n j)
  begun_under n j may d due same = record {
    knows = (with_begin n j d may.opened may.count may.weakened may.swept may.seen may.stands may.all).knows;
    reserves = drew_reserves C locked mine mine1 locked2 mine2 order seat seat' old new (driver_entry n index op.Begin (says.Mark j) None) nothing ks rs l d b
        (begin_kept order seat seat' old new n index (says.Mark j) d due same);
    makes = begin_made n j d;
  }

-- the own one may begin after whatever was open is ended
pub may_begin : (old between : View) (index : ℕ) (ended : Option (ℕ × Swept)) → EndsFirst old between index ended → MayMarkCycle old index → MayBeginMarking between index
may_begin old between index None e w = record {
  opened = w.opened;
  count = w.count;
  weakened = w.weakened;
  swept = false;
  seen = w.seen;
  stands = e.stands index (weakening w.opened w.count w.weakened false) w.seen w.stands;
  all = w.all;
}
may_begin old between index (Some r) e w =
    let d = e (weakening w.opened w.count w.weakened false) w.seen w.stands (w.all, refl, refl) in
    record { opened = w.opened; count = w.count; weakened = true; swept = true; seen = w.seen; stands = d.stands; all = w.all }

-- where no entry was made it is still begun, and may be ended
pub none_begun : (u v : View) (index : ℕ) → DriverMakesNone u v → HasBegunMarking u index → HasBegunMarking v index
none_begun u v index a w = record { opened = w.opened; seen = w.seen; stands = a.stands index (marked w.opened) w.seen w.stands }

pub none_then_sweep : (u v w : View) (index n : ℕ) (out : Swept) → DriverMakesNone u v → MakesSweep v w index n out → MakesSweep u w index n out
none_then_sweep u v w index n out a t stand m s now =
    let d = t stand m (a.stands index stand m s) now in
    record {
      freed = d.freed;
      count = d.count;
      makes = none_then_makes u v w stand m (driver_entry n index op.Sweep (says.Swept out.marking out.freed) None) (sweep_of d.freed) a d.makes;
      stands = d.stands;
    }

none_made : (v : View) → DriverMakesNone v v
none_made v = record { own = refl; more = λ i. prefix_refl (known v i); stands = λ index stand seen s. s }

-- both in one hold of the lock: where a marking was open the seat stands between them as one that gave the driver's
-- lines back and was lent them again
pub record MarksFrom (mine mine2 : View) (index n : ℕ) (j : Number) (o : Option (ℕ × Swept)) : Type 0 where
  pub between : View
  pub ends : EndsFirst mine between index o
  pub begins : MakesBegin between mine2 index n j

pub marked_under : (locked mine mine1 locked2 mine2 : View) (order : OrderId) (seat mid seat' : Shown) (old cleared new : PeerModel) (index n : ℕ) (j : Number) (o : Option (ℕ × Swept))
    → HoldsPass C mine → Owns locked 1 → index < 2 ^ 32 → PeerKnows locked (seen old) → PeerReserves locked old → MayMarkCycle mine index → Lends C locked mine seat.view mine1
    → DrawsEnd order seat mid old cleared index o → Drew peer_rules 1 order mid seat' (seen cleared) (seen new) (driver_entry n index op.Begin (says.Mark j) None) nothing
    → new.reserve ≡ reserve_begun (is_own C cleared.reserve.marking) cleared.reserve → old.reserve.marking ≡ true
    → Returns C seat'.view mine1 locked2 mine2 → LeavesUnder locked2 new (MarksFrom mine mine2 index n j o)
marked_under locked mine mine1 locked2 mine2 order seat mid seat' old cleared new index n j None pass owns short ks rs may l e d r due b =
    let at = subst (λ (z : Shown × PeerModel). Drew peer_rules 1 order z.0 seat' (seen z.1) (seen new) (driver_entry n index op.Begin (says.Mark j) None) nothing) (λ i. (e.0 i, e.1 i)) d in
    let same = subst (λ (z : PeerModel). new.reserve ≡ reserve_begun (is_own C z.reserve.marking) z.reserve) e.1 r in
    let q = begun_under locked mine mine1 locked2 mine2 order seat seat' old new index pass owns short ks rs l b n j (may_begin mine mine index None (none_made mine) may) at due same in
    record { knows = q.knows; reserves = q.reserves; makes = record { between = mine; ends = none_made mine; begins = q.makes } }
marked_under locked mine mine1 locked2 mine2 order seat mid seat' old cleared new index n j (Some w) pass owns short ks rs may l e d r due b =
    let f = goes_further order seat mid 1 e.2.drew.kept e.2.drew.appends in
    let s = swept_under locked mine (bare mine) mid.view mid.view order seat mid old cleared index pass owns short ks rs (lends_bare C locked mine seat.view mine1 l)
    (pauses C mid.view mine) w.0 w.1 (weakening may.opened may.count may.weakened false) may.seen may.stands (may.all, refl, refl) e.2 e.1 in
    let q = begun_under mid.view mid.view (bare mid.view) locked2 mine2 order mid seat' cleared new index (λ i g. f.owns i (l.lines i g (pass i g))) (f.owns 1 (l.kept 1 owns)) short
    s.knows s.reserves (goes_on C mid.view e.2.drew.appends.one_history) (returns_bare C seat'.view mine1 locked2 mine2 mid.view b)
    n j (may_begin mine mid.view index (Some w) s.makes may) d (ap (λ (x : Reserve). x.marking) e.1 ∙ due) r in
    record { knows = q.knows; reserves = q.reserves; makes = record { between = mid.view; ends = s.makes; begins = q.makes } }
