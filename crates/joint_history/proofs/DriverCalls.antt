-- The driver's calls under the managed lock: what each asks of the side holds by where the driver stands, since what
-- every known past keeps holds at the end of what is known together; and what each leaves the driver with.
use Rattle.std.proofs.Common.{◌≡◌, ◌⊎◌, inl, inr, ⊎_elim, ℕ, ◌<◌, ◌^◌, Bool, List, length, Option, Some, None, refl, sym, ap, ◌∙◌, subst}
use Rattle.std.specs.Prelude.{IsSome, Result, Ok, Err, IfOk, OnErr}
use Rattle.std.proofs.lemmas.List.{length-map}
use Rattle.std.proofs.lemmas.Option.{same_Some}
use Rattle.joint_machine.specs.declared.names.Cycle.{Cycle}
use Rattle.joint_machine.specs.declared.names.HNum.{HNum}
use Rattle.joint_machine.specs.declared.names.Phase.{Phase}
use Rattle.joint_machine.specs.declared.names.Phase.TheVariants as at
use Rattle.joint_machine.specs.declared.names.PhaseWord.{PhaseWord}
use Rattle.joint_machine.specs.declared.names.PhaseWord.TheVariants as word
use Rattle.joint_machine.specs.declared.names.Span.{Span}
use Rattle.joint_machine.specs.declared.names.Thread.TheVariants.{C}
use Rattle.joint_machine.specs.declared.lines.Act.TheVariants as act
use Rattle.joint_machine.specs.declared.events.Entry.{Entry}
use Rattle.joint_machine.specs.declared.events.Op.TheVariants as op
use Rattle.joint_machine.specs.declared.events.Reply.{Reply}
use Rattle.joint_machine.specs.declared.events.Reply.TheVariants as says
use Rattle.joint_machine.specs.Control.{OpenSnap, Stand, idle, snapped, contracted, weakening, marked, restoring, restored, IsPhaseOf, IsAtRest, DriverAllows, seen_weakened, stand_after}
use Rattle.joint_machine.specs.Cycles.{IsOpen}
use Rattle.joint_machine.specs.Linked.{Linkage}
use Rattle.joint_model.specs.Listed.{answer_of, answers_of}
use Rattle.joint_machine.specs.Managed.{Managed, OpenCycle, candidates_of}
use Rattle.joint_machine.specs.ManagedReplay.{AreNew, ManagedReplay, MayContract, MayRefuse, managed_answer, open_reply, refusal_to}
use Rattle.joint_machine.specs.Peers.{Issued}
use Rattle.joint_machine.specs.Run.{thread_number}
use Rattle.joint_machine.specs.Sides.{Side, managed_rules}
use Rattle.joint_machine.specs.Told.{Told, nothing, contraction_of, handles_given, resolution_of, phase_of}
use Rattle.joint_machine.specs.PinsTold.{bare_told, no_pins, with_pins}
use Rattle.joint_laws.specs.ManagedInvariants.{ReplayInvariant}
use Rattle.joint_laws.proofs.ManagedMoves.{managed_line-goes_on}
use Rattle.known_laws.specs.Conditions.{IsOpenHere}
use Rattle.known_laws.specs.Driving.{PastInvariant}
use Rattle.known_laws.specs.PastEntries.{TellsPlainly}
use Rattle.known_laws.specs.Pasts.{HasSameDeadPart, end_of}
use Rattle.known_laws.proofs.Conditions.{snapped_may_be_contracted, unmirrored_may_be_abandoned, restored_are_new, restored_may_be_resolved, refused_may_be_told}
use Rattle.known_laws.proofs.FrozenPasts.{Alike, alike_meet, alike_on, alike_pinned, alike_self, dead_part-alike}
use Rattle.known_laws.proofs.KnownPasts.{past_invariant_holds}
use Rattle.known_laws.proofs.Pinned.{managed_to, none_stand}
use Rattle.managed_heap.specs.declared.cycles.ResolveOut.{ResolveOut}
use Rattle.managed_heap.specs.Calls.{IsContractedBy, MayContractWith}
use Rattle.managed_heap.specs.Resolving.{MayClose}
use Rattle.order_table.specs.declared.views.View.{View}
use Rattle.order_table.specs.Views.{OrderId, Shown, known, Owns}
use Rattle.joint_history.specs.Callers.{HoldsPass}
use Rattle.joint_history.specs.Driven.{DriverMakesNone, DriverRests, DriverStands, HasContraction, IsStillAt, IsUnmirrored, MakesAbandon, MakesContraction, MakesFinalise, MakesRefusal}
use Rattle.joint_history.specs.Driven.{MakesResolution, MayAbandonCycle, MayContractCycle, MayFinalise, MayRefuseWord, MayResolveCycle, driver_entry}
use Rattle.joint_history.specs.DriverDraws.{DrawsAbandon, DrawsContraction, DrawsResolution}
use Rattle.view_laws.specs.Knowing.{IsDrawnView}
use Rattle.joint_history.specs.Locked.{Drew, ManagedKnows, StaysSeated}
use Rattle.seat_calls.specs.Passing.{Lends, Returns}
use Rattle.joint_history.proofs.DeadParts.{count_same, dead_part_pinned, dead_part_self}
use Rattle.joint_history.proofs.DriverSteps.{Driven, DrivenUnder, driven, driven_none, driver_joined, driver_still}
use Rattle.joint_history.proofs.LockedSteps.{lent_joined, managed_side, returns_seated}

-- what holds under the lock: the driver stands so in a state that has all that every known past keeps, and whose
-- managed side is this one
pub record IsUnderLock (side : ManagedReplay) (stand : Stand) (seen : Managed) : Type 0 where
  pub state : Linkage
  pub kept : PastInvariant state
  pub managed : state.managed ≡ side
  pub stood : state.control.stand ≡ stand
  pub dead : HasSameDeadPart seen state.managed.managed

pub under_lock : (locked mine lent mine1 : View) (side : Side ManagedReplay) (index : ℕ) (stand : Stand) (seen : Managed) → HoldsPass C mine
    → Owns locked 0 → ManagedKnows locked side → DriverStands mine index stand seen → Lends C locked mine lent mine1 → IsUnderLock side.state stand seen
under_lock locked mine lent mine1 side index stand seen pass owns ks s l =
    let j = lent_joined C locked mine lent mine1 l ks.known s.known in
    let at = driver_joined locked mine lent mine1 l ks.known pass index stand seen s in
    record {
      state = end_of j.joined.known.past;
      kept = past_invariant_holds j.joined.known.past j.joined.known.lawful;
      managed = j.managed_first (l.whole 0 owns) ∙ ks.state;
      stood = at.come;
      dead = at.dead;
    }

-- the dead part in the side's own objects
dead_here : (side : ManagedReplay) (stand : Stand) (seen : Managed) (u : IsUnderLock side stand seen) → HasSameDeadPart seen side.managed
dead_here side stand seen u = subst (λ (r : ManagedReplay). HasSameDeadPart seen r.managed) u.managed u.dead

-- the contraction of the dead part that the driver has seen is that of the open cycle
contraction_may : (side : ManagedReplay) (o : OpenSnap) (seen : Managed) (sccs xrefs : ℕ) (comps : List (List ℕ)) (heavy : List ℕ) (pairs : List (ℕ × ℕ))
    → IsUnderLock side (snapped o) seen → HasContraction seen sccs xrefs comps heavy pairs → MayContract side o.cycle comps heavy pairs
contraction_may side o seen sccs xrefs comps heavy pairs u h =
    subst (λ (r : ManagedReplay). MayContract r o.cycle comps heavy pairs) u.managed
    (snapped_may_be_contracted u.state u.kept o u.stood comps heavy pairs (λ c e. u.dead.contraction c (u.dead.cycle ∙ e) comps heavy pairs (h.exact c (u.dead.cycle ∙ e))))

contracted_by : (side : ManagedReplay) (k : ℕ) (c : OpenCycle) (seen : Managed) (sccs xrefs : ℕ) (comps : List (List ℕ)) (heavy : List ℕ) (pairs : List (ℕ × ℕ))
    → c.number ≡ k → MayContract side k comps heavy pairs → HasContraction seen sccs xrefs comps heavy pairs → IsContractedBy side c sccs xrefs comps heavy pairs
contracted_by side k c seen sccs xrefs comps heavy pairs e may
    h = record { may = subst (λ (n : ℕ). MayContract side n comps heavy pairs) (sym e) may; components = h.components; references = h.references }

-- `contracted`
pub may_contract_with : (side : ManagedReplay) (v : View) (index sccs xrefs : ℕ) (w : MayContractCycle v index sccs xrefs)
    → IsUnderLock side (snapped w.opened) w.seen → MayContractWith side sccs xrefs
may_contract_with side v index sccs xrefs w u =
    let may = contraction_may side w.opened w.seen sccs xrefs w.comps w.heavy w.pairs u w.contraction in
    record {
      cycle = may.cycle;
      opened = may.open_cycle.0;
      comps = w.comps;
      heavy = w.heavy;
      pairs = w.pairs;
      contracted = contracted_by side w.opened.cycle may.cycle w.seen sccs xrefs w.comps w.heavy w.pairs may.open_cycle.1 may w.contraction;
    }

-- the open cycle is one
one_cycle : (s : Managed) (k : ℕ) (c d : OpenCycle) → s.cycle ≡ Some c → IsOpen s k d → c.number ≡ k
one_cycle s k c d e w = ap (λ (x : OpenCycle). x.number) (same_Some c d (sym e ∙ w.0)) ∙ w.1

-- after a call the driver has seen the managed objects as they are
pub stands_anew : (mine mine2 : View) (old new : Side ManagedReplay) (index : ℕ) (stand next : Stand) (seen : Managed) (e : Entry) (told : Told) (d : Driven mine mine2 old new index stand seen e told)
    → stand_after stand e.number e.made.op e.made.reply (bare_told d.told_now) ≡ next → DriverStands mine2 index next new.state.managed
stands_anew mine mine2 old new index stand next seen e told d is = record {
  known = d.known;
  stands = record { last = d.last; come = d.come ∙ is; dead = subst (λ (r : ManagedReplay). HasSameDeadPart new.state.managed r.managed) (sym d.after) (dead_part_self new.state.managed) };
}

-- the driver is idle after a call that closes the cycle
rests_after : (mine mine2 : View) (old new : Side ManagedReplay) (index : ℕ) (stand : Stand) (seen : Managed) (e : Entry) (told : Told) (d : Driven mine mine2 old new index stand seen e told)
    → stand_after stand e.number e.made.op e.made.reply (bare_told d.told_now) ≡ idle → DriverRests mine2 index
rests_after mine mine2 old new index stand seen e told d is = record { seen = new.state.managed; stands = stands_anew mine mine2 old new index stand idle seen e told d is }

-- where the managed objects stay but for the pins, so does the dead part
same_objects : (s t : ManagedReplay) → t.managed ≡ (with_pins s no_pins).managed → HasSameDeadPart s.managed t.managed
same_objects s t e = subst (λ (m : Managed). HasSameDeadPart s.managed m) (sym e) (dead_part_pinned s no_pins)

-- an unmirrored cycle is open
abandon_open : (u : Linkage) → PastInvariant u → (stand : Stand) (o : OpenSnap) → u.control.stand ≡ stand → IsUnmirrored stand o → IsOpenHere u o
abandon_open u k (snapped p) o e i = (unmirrored_may_be_abandoned u k o).0 (e ∙ ap snapped i)
abandon_open u k (contracted p comps heavy pairs) o e i = (unmirrored_may_be_abandoned u k o).1 comps heavy pairs (e ∙ ap (λ (z : OpenSnap). contracted z comps heavy pairs) i)
abandon_open u k idle o e i = absurd i
abandon_open u k (weakening p count weakened swept) o e i = absurd i
abandon_open u k (marked p) o e i = absurd i
abandon_open u k (restoring p answers) o e i = absurd i
abandon_open u k (restored p answers clear) o e i = absurd i

abandon_allowed : (stand : Stand) (m : Managed) (issued : List Issued) (o : OpenSnap) → IsUnmirrored stand o
    → DriverAllows stand m issued (op.Abandon record { 0 = o.cycle }) says.Ok None nothing
abandon_allowed (snapped p) m issued o i = (ap (λ (z : OpenSnap). z.cycle) i, refl)
abandon_allowed (contracted p comps heavy pairs) m issued o i = (ap (λ (z : OpenSnap). z.cycle) i, refl)
abandon_allowed idle m issued o i = absurd i
abandon_allowed (weakening p count weakened swept) m issued o i = absurd i
abandon_allowed (marked p) m issued o i = absurd i
abandon_allowed (restoring p answers) m issued o i = absurd i
abandon_allowed (restored p answers clear) m issued o i = absurd i

abandon_idle : (stand : Stand) (o : OpenSnap) (n : ℕ) (k : Cycle) (reply : Reply) (told : Told) → IsUnmirrored stand o → stand_after stand n (op.Abandon k) reply told ≡ idle
abandon_idle (snapped p) o n k reply told i = refl
abandon_idle (contracted p comps heavy pairs) o n k reply told i = refl
abandon_idle idle o n k reply told i = absurd i
abandon_idle (weakening p count weakened swept) o n k reply told i = absurd i
abandon_idle (marked p) o n k reply told i = absurd i
abandon_idle (restoring p answers) o n k reply told i = absurd i
abandon_idle (restored p answers clear) o n k reply told i = absurd i

pub some_cycle : (o : Option OpenCycle) (c : OpenCycle) → o ≡ Some c → IsSome o
some_cycle o c e = subst IsSome (sym e) refl

-- `abandon`
pub may_abandon : (side : ManagedReplay) (v : View) (index : ℕ) (w : MayAbandonCycle v index) → IsUnderLock side w.stand w.seen → IsSome side.managed.cycle
may_abandon side v index w u =
    let o = abandon_open u.state u.kept w.stand w.opened u.stood w.unmirrored in
    subst (λ (r : ManagedReplay). IsSome r.managed.cycle) u.managed (some_cycle u.state.managed.managed.cycle o.0 o.1.0)

-- `resolve`
pub may_close : (side : ManagedReplay) (v : View) (index clear : ℕ) (alive : List (Option HNum)) (w : MayResolveCycle v index clear (answers_of alive))
    → IsUnderLock side (restored w.opened (answers_of alive) clear) w.seen → MayClose side alive
may_close side v index clear alive w u =
    let r = restored_may_be_resolved u.state u.kept w.opened (answers_of alive) clear u.stood in
    record {
      answers = record {
        cycle = r.cycle;
        opened = subst (λ (z : ManagedReplay). z.managed.cycle ≡ Some r.cycle) u.managed r.open_cycle.0;
        one_each = sym (length-map alive answer_of) ∙ r.one_each;
      };
      new = subst (λ (z : ManagedReplay). AreNew z.adopted (handles_given (answers_of alive))) u.managed (restored_are_new u.state u.kept w.opened (answers_of alive) clear u.stood);
    }

-- `refused`
pub may_refuse : (side : ManagedReplay) (v : View) (index : ℕ) (asked : PhaseWord) (phase : Phase) (w : MayRefuseWord v index asked phase)
    → IsUnderLock side w.stand w.seen → MayRefuse side asked phase
may_refuse side v index asked phase w u =
    subst (λ (r : ManagedReplay). MayRefuse r asked phase) u.managed
    (refused_may_be_told u.state u.kept asked phase
    (subst (λ (s : Stand). IsPhaseOf s (length (candidates_of u.state.managed.managed)) phase) (sym u.stood)
    (subst (λ (n : ℕ). IsPhaseOf w.stand n phase) (count_same w.seen u.state.managed.managed u.dead) w.in_phase)) w.refused)

-- a phase other than the weakened one is told plainly, and shows nothing of it
abbrev IsOther : Phase → Type 0
IsOther at.Weakened = ⊥
IsOther _ = Unit {0}

other_or : (phase : Phase) → (phase ≡ at.Weakened) ⊎ IsOther phase
other_or at.Weakened = inl refl
other_or phase = inr tt

plainly : (stand : Stand) (asked : PhaseWord) (phase : Phase) → IsOther phase → TellsPlainly stand (op.Refused asked) (phase_of phase)
plainly stand word.Cycle at.Weakened o = absurd o
plainly stand word.Snap at.Weakened o = absurd o
plainly stand asked phase o = tt

unseen : (seen : Bool) (phase : Phase) → IsOther phase → seen_weakened seen (phase_of phase) ≡ seen
unseen seen at.Weakened o = absurd o
unseen seen phase o = refl

still_other : (o : OpenSnap) (count : ℕ) (weakened swept : Bool) (phase : Phase) (next : Stand) → IsOther phase
    → next ≡ weakening o count weakened swept → IsStillAt (weakening o count weakened swept) phase next
still_other o count weakened swept at.Weakened next other e = absurd other
still_other o count weakened swept phase next other e = e

refusal_next : (stand : Stand) (n : ℕ) (asked : PhaseWord) (phase : Phase) (reply : Reply) (now : Told)
    → (TellsPlainly stand (op.Refused asked) (phase_of phase) → now ≡ phase_of phase) → IsStillAt stand phase (stand_after stand n (op.Refused asked) reply now)
refusal_next (weakening o count weakened swept) n asked phase reply now plain = ⊎_elim
    (λ (e : phase ≡ at.Weakened). subst (λ (p : Phase). IsStillAt (weakening o count weakened swept) p (weakening o count (seen_weakened weakened now) swept))
    (sym e) (seen_weakened weakened now, refl))
    (λ (other : IsOther phase). still_other o count weakened swept phase (weakening o count (seen_weakened weakened now) swept) other
    (ap (λ (b : Bool). weakening o count b swept) (ap (seen_weakened weakened) (plain (plainly (weakening o count weakened swept) asked phase other)) ∙ unseen weakened phase other)))
    (other_or phase)
refusal_next idle n asked phase reply now plain = refl
refusal_next (snapped o) n asked phase reply now plain = refl
refusal_next (contracted o comps heavy pairs) n asked phase reply now plain = refl
refusal_next (marked o) n asked phase reply now plain = refl
refusal_next (restoring o answers) n asked phase reply now plain = refl
refusal_next (restored o answers clear) n asked phase reply now plain = refl

refusal_same : (s t : Managed) (phase : Phase) (asked : PhaseWord) → s.cycle ≡ t.cycle → refusal_to s phase asked ≡ refusal_to t phase asked
refusal_same s t phase word.Cycle e = ap open_reply e
refusal_same s t phase word.Snap e = ap open_reply e
refusal_same s t phase asked e = refl

-- taking notices leaves the dead part as it was
notices_leave : (mine mine2 : View) (old new : Side ManagedReplay) (index : ℕ) (stand : Stand) (seen : Managed) (n count : ℕ)
    (reply : Reply) (d : Driven mine mine2 old new index stand seen (driver_entry n index (op.Line (act.Finalise count)) reply None) nothing)
    → new.state ≡ managed_rules.next old.state (driver_entry n index (op.Line (act.Finalise count)) reply None).made nothing → HasSameDeadPart old.state.managed new.state.managed
notices_leave mine mine2 old new index stand seen n count reply d goes =
    let kept = subst (λ (r : ManagedReplay). ReplayInvariant r) d.before d.makes.kept.kept.managed in
    let after = subst (λ (r : ManagedReplay). ReplayInvariant r) d.after (past_invariant_holds d.known.known.past d.known.known.lawful).kept.managed in
    let bare = with_pins old.state no_pins in
    let line = managed_answer bare C (op.Line (act.Finalise count)) nothing in
    let moved = alike_on bare.managed line.state.managed old.state.managed (managed_to old.state no_pins (none_stand old.state.managed) kept.managed)
    (managed_line-goes_on bare.managed (thread_number C) (act.Finalise count) kept.managed.places kept.managed.cells)
    (alike_pinned old.state old.state.managed no_pins (alike_self old.state.managed)) in
    dead_part-alike old.state.managed new.state.managed kept.managed after.managed
    (alike_meet old.state.managed old.state.managed new.state.managed (alike_self old.state.managed)
    (subst (λ (r : ManagedReplay). Alike r.managed old.state.managed) (sym goes) (alike_pinned line.state old.state.managed no_pins moved)))

-- a call under the lock that may find no memory
pub record Called {X E : Type 0} (mine locked2 mine2 : View) (side : Side ManagedReplay) (result : Result X E) (Q : X → Type 0) : Type 0 where
  pub knows : ManagedKnows locked2 side
  pub ok : IfOk result Q
  pub err : OnErr result (DriverMakesNone mine mine2)

-- after a draw under the lock
module _ (locked mine mine1 locked2 mine2 : View) (order : OrderId) (seat seat' : Shown) (old new : Side ManagedReplay) (index : ℕ) (pass : HoldsPass C mine)
    (owns : Owns locked 0) (short : index < 2 ^ 32) (ks : ManagedKnows locked old) (l : Lends C locked mine seat.view mine1) (b : Returns C seat'.view mine1 locked2 mine2) where
  under : (stand : Stand) (seen : Managed) → DriverStands mine index stand seen → IsUnderLock old.state stand seen
  under stand seen s = under_lock locked mine seat.view mine1 old index stand seen pass owns ks s l

  -- the contraction
  with_contraction : (sccs xrefs n : ℕ) → DrawsContraction order seat seat' old new index sccs xrefs n
      → (o : OpenSnap) (seen : Managed) (comps : List (List ℕ)) (heavy : List ℕ) (pairs : List (ℕ × ℕ)) → DriverStands mine index (snapped o) seen → HasContraction seen sccs xrefs comps heavy pairs
      → DrivenUnder mine locked2 mine2 old new index (snapped o) seen (driver_entry n index (op.Contract record { 0 = o.cycle }) (says.Sccs sccs xrefs) None) (contraction_of comps heavy pairs)
  with_contraction sccs xrefs n d o seen comps heavy pairs s h =
      let may = contraction_may old.state o seen sccs xrefs comps heavy pairs (under (snapped o) seen s) h in
      let same = one_cycle old.state.managed o.cycle d.cycle may.cycle d.opened may.open_cycle in
      let drew = subst (λ (k : ℕ). Drew managed_rules 0 order seat seat' old new (driver_entry n index (op.Contract record { 0 = k }) (says.Sccs sccs xrefs) None) (contraction_of comps heavy pairs))
      same
      (d.drew comps heavy pairs (contracted_by old.state o.cycle d.cycle seen sccs xrefs comps heavy pairs same may h)) in
      driven locked mine mine1 locked2 mine2 order seat seat' old new index (snapped o) seen (driver_entry n index (op.Contract record { 0 = o.cycle }) (says.Sccs sccs xrefs) None)
      (contraction_of comps heavy pairs) pass owns refl refl short ks s (λ issued. (refl, refl)) (none_stand old.state.managed) l drew b

  pub contraction_made : (sccs xrefs n : ℕ) → DrawsContraction order seat seat' old new index sccs xrefs n → MakesContraction mine mine2 index sccs xrefs n
  contraction_made sccs xrefs n d o seen comps heavy pairs s h =
      let e = driver_entry n index (op.Contract record { 0 = o.cycle }) (says.Sccs sccs xrefs) None in
      let w = (with_contraction sccs xrefs n d o seen comps heavy pairs s h).driven in (
        w.makes,
        driver_still mine mine2 old new index (snapped o) (contracted o comps heavy pairs) seen e (contraction_of comps heavy pairs) w
            (same_objects old.state new.state (ap (λ (r : ManagedReplay). r.managed) (d.drew d.comps d.heavy d.pairs d.contracted).goes.state))
            (ap (λ (t : Told). stand_after (snapped o) n (op.Contract record { 0 = o.cycle }) (says.Sccs sccs xrefs) (bare_told t)) (w.plain tt)),
      )

  pub contraction_knows : (sccs xrefs n : ℕ) → DrawsContraction order seat seat' old new index sccs xrefs n → MayContractCycle mine index sccs xrefs → ManagedKnows locked2 new
  contraction_knows sccs xrefs n d w = (with_contraction sccs xrefs n d w.opened w.seen w.comps w.heavy w.pairs w.stands w.contraction).knows

  -- the abandoning
  with_abandon : (n : ℕ) → DrawsAbandon order seat seat' old new index n → (o : OpenSnap) (stand : Stand) (seen : Managed) → DriverStands mine index stand seen → IsUnmirrored stand o
      → DrivenUnder mine locked2 mine2 old new index stand seen (driver_entry n index (op.Abandon record { 0 = o.cycle }) says.Ok None) nothing
  with_abandon n d o stand seen s i =
      let u = under stand seen s in
      let open_here = subst (λ (r : ManagedReplay). (c : OpenCycle) × IsOpen r.managed o.cycle c) u.managed (abandon_open u.state u.kept stand o u.stood i) in
      let same = one_cycle old.state.managed o.cycle d.cycle open_here.0 d.opened open_here.1 in
      let drew = subst (λ (k : ℕ). Drew managed_rules 0 order seat seat' old new (driver_entry n index (op.Abandon record { 0 = k }) says.Ok None) nothing) same d.drew in
      driven locked mine mine1 locked2 mine2 order seat seat' old new index stand seen
      (driver_entry n index (op.Abandon record { 0 = o.cycle }) says.Ok None) nothing pass owns refl refl short ks s
      (λ issued. abandon_allowed stand old.state.managed issued o i) (none_stand old.state.managed) l drew b

  pub abandoning_made : (n : ℕ) → DrawsAbandon order seat seat' old new index n → MakesAbandon mine mine2 index n
  abandoning_made n d o stand seen s i =
      let w = (with_abandon n d o stand seen s i).driven in (
        w.makes,
        rests_after mine mine2 old new index stand seen (driver_entry n index (op.Abandon record { 0 = o.cycle }) says.Ok None) nothing w
            (abandon_idle stand o n (record { 0 = o.cycle }) says.Ok (bare_told w.told_now) i),
      )

  pub abandon_knows : (n : ℕ) → DrawsAbandon order seat seat' old new index n → MayAbandonCycle mine index → ManagedKnows locked2 new
  abandon_knows n d w = (with_abandon n d w.opened w.stand w.seen w.stands w.unmirrored).knows

  -- the resolution
  with_resolution : (clear n : ℕ) (alive : List (Option HNum)) (out : ResolveOut) (d : DrawsResolution order seat seat' old new index clear n alive out) (o : OpenSnap) (seen : Managed)
      → DriverStands mine index (restored o (answers_of alive) clear) seen
      → DrivenUnder mine locked2 mine2 old new index (restored o (answers_of alive) clear) seen
      (driver_entry n index (op.Resolve record { 0 = o.cycle }) (says.Freed out.freed) (Some clear)) (resolution_of (answers_of alive) d.freed)
  with_resolution clear n alive out d o seen s =
      let u = under (restored o (answers_of alive) clear) seen s in
      let r = restored_may_be_resolved u.state u.kept o (answers_of alive) clear u.stood in
      let same = one_cycle old.state.managed o.cycle d.cycle r.cycle d.opened (subst (λ (z : ManagedReplay). IsOpen z.managed o.cycle r.cycle) u.managed r.open_cycle) in
      let drew = subst (λ (k : ℕ). Drew managed_rules 0 order seat seat' old new
      (driver_entry n index (op.Resolve record { 0 = k }) (says.Freed out.freed) (Some clear)) (resolution_of (answers_of alive) d.freed)) same
      (subst (λ (z : Span). Drew managed_rules 0 order seat seat' old new (driver_entry n index (op.Resolve record { 0 = d.cycle.number }) (says.Freed z) (Some clear))
      (resolution_of (answers_of alive) d.freed)) (sym d.span) d.drew) in
      driven locked mine mine1 locked2 mine2 order seat seat' old new index (restored o (answers_of alive) clear) seen
      (driver_entry n index (op.Resolve record { 0 = o.cycle }) (says.Freed out.freed) (Some clear)) (resolution_of (answers_of alive) d.freed)
      pass owns refl refl short ks s (λ issued. (refl, refl, refl)) (none_stand old.state.managed) l drew b

  pub resolution_made : (clear n : ℕ) (alive : List (Option HNum)) (out : ResolveOut)
      → DrawsResolution order seat seat' old new index clear n alive out → MakesResolution mine mine2 index clear n (answers_of alive) out.freed
  resolution_made clear n alive out d o seen s =
      let w = (with_resolution clear n alive out d o seen s).driven in
      record {
        freed = d.freed;
        count = ap (λ (z : Span). z.count) d.span;
        makes = w.makes;
        rests = rests_after mine mine2 old new index (restored o (answers_of alive) clear) seen
            (driver_entry n index (op.Resolve record { 0 = o.cycle }) (says.Freed out.freed) (Some clear)) (resolution_of (answers_of alive) d.freed) w refl;
      }

  pub resolution_knows : (clear n : ℕ) (alive : List (Option HNum)) (out : ResolveOut)
      → DrawsResolution order seat seat' old new index clear n alive out → MayResolveCycle mine index clear (answers_of alive) → ManagedKnows locked2 new
  resolution_knows clear n alive out d w = (with_resolution clear n alive out d w.opened w.seen w.stands).knows

  -- a refusal
  with_refusal : (n : ℕ) (asked : PhaseWord) (phase : Phase) (reply : Reply)
      → Drew managed_rules 0 order seat seat' old new (driver_entry n index (op.Refused asked) reply None) (phase_of phase) → (stand : Stand) (seen : Managed) → DriverStands mine index stand seen
      → IsPhaseOf stand (length (candidates_of seen)) phase → DrivenUnder mine locked2 mine2 old new index stand seen (driver_entry n index (op.Refused asked) reply None) (phase_of phase)
  with_refusal n asked phase reply d stand seen s in_phase =
      driven locked mine mine1 locked2 mine2 order seat seat' old new index stand seen (driver_entry n index (op.Refused asked) reply None) (phase_of phase) pass owns refl refl short ks s
      (λ issued. (subst (λ (c : ℕ). IsPhaseOf stand c phase) (count_same seen old.state.managed (dead_here old.state stand seen (under stand seen s))) in_phase, refl))
      (none_stand old.state.managed) l d b

  pub refusal_made : (n : ℕ) (asked : PhaseWord) (phase : Phase) (reply : Reply)
      → Drew managed_rules 0 order seat seat' old new (driver_entry n index (op.Refused asked) reply None) (phase_of phase) → MakesRefusal mine mine2 index n asked phase reply
  refusal_made n asked phase reply d stand seen s in_phase =
      let e = driver_entry n index (op.Refused asked) reply None in
      let w = (with_refusal n asked phase reply d stand seen s in_phase).driven in
      record {
        makes = w.makes;
        answers = d.goes.lawful.1.lawful.replies ∙ refusal_same (with_pins old.state no_pins).managed seen phase asked (sym (dead_here old.state stand seen (under stand seen s)).cycle);
        next = stand_after stand n (op.Refused asked) reply (bare_told w.told_now);
        still = refusal_next stand n asked phase reply (bare_told w.told_now) (λ p. ap bare_told (w.plain p));
        stands = driver_still mine mine2 old new index stand (stand_after stand n (op.Refused asked) reply (bare_told w.told_now)) seen e
            (phase_of phase) w (same_objects old.state new.state (ap (λ (r : ManagedReplay). r.managed) d.goes.state)) refl;
      }

  pub refusal_knows : (n : ℕ) (asked : PhaseWord) (phase : Phase) (reply : Reply)
      → Drew managed_rules 0 order seat seat' old new (driver_entry n index (op.Refused asked) reply None) (phase_of phase) → MayRefuseWord mine index asked phase → ManagedKnows locked2 new
  refusal_knows n asked phase reply d w = (with_refusal n asked phase reply d w.stand w.seen w.stands w.in_phase).knows

  -- notices taken
  with_finalise : (n count : ℕ) (reply : Reply) → Drew managed_rules 0 order seat seat' old new (driver_entry n index (op.Line (act.Finalise count)) reply None) nothing
      → (stand : Stand) (seen : Managed) → DriverStands mine index stand seen
      → IsAtRest stand (length (candidates_of seen)) → DrivenUnder mine locked2 mine2 old new index stand seen (driver_entry n index (op.Line (act.Finalise count)) reply None) nothing
  with_finalise n count reply d stand seen s rests =
      driven locked mine mine1 locked2 mine2 order seat seat' old new index stand seen (driver_entry n index (op.Line (act.Finalise count)) reply None) nothing pass owns refl refl short ks s
      (λ issued. (subst (λ (c : ℕ). IsAtRest stand c) (count_same seen old.state.managed (dead_here old.state stand seen (under stand seen s))) rests, refl)) (none_stand old.state.managed) l d b

  pub finalise_made : (n count : ℕ) (reply : Reply) → Drew managed_rules 0 order seat seat' old new (driver_entry n index (op.Line (act.Finalise count)) reply None) nothing
      → MakesFinalise mine mine2 index n count reply
  finalise_made n count reply d stand seen s rests =
      let w = (with_finalise n count reply d stand seen s rests).driven in (
        w.makes,
        driver_still mine mine2 old new index stand stand seen (driver_entry n index (op.Line (act.Finalise count)) reply None) nothing w
            (notices_leave mine mine2 old new index stand seen n count reply w d.goes.state) refl,
      )

  pub finalise_knows : (n count : ℕ) (reply : Reply) → Drew managed_rules 0 order seat seat' old new (driver_entry n index (op.Line (act.Finalise count)) reply None) nothing
      → MayFinalise mine index → ManagedKnows locked2 new
  finalise_knows n count reply d w = (with_finalise n count reply d w.stand w.seen w.stands w.rests).knows

  -- a call that may find no memory: it made its entry, or nothing
  pub called : {X E : Type 0} (P Q : X → Type 0) (result : Result X E) → IsDrawnView mine → ((x : X) → P x → ManagedKnows locked2 new × Q x)
      → IfOk result P → OnErr result (StaysSeated seat seat' × (new ≡ old)) → Called mine locked2 mine2 new result Q
  called P Q (Ok x) known made d e = record { knows = (made x d).0; ok = (made x d).1; err = tt }
  called P Q (Err x) known made d e =
      let back = returns_seated C seat seat' mine1 locked2 mine2 e.0 b in
      let w = driven_none managed_side locked mine seat.view mine1 locked2 mine2 old pass owns ks known l back in
      record { knows = subst (ManagedKnows locked2) (sym e.1) w.knows; ok = tt; err = w.makes }

  pub refusal_called : {E : Type 0} (asked : PhaseWord) (phase : Phase) (result : Result (ℕ × Reply) E) → (w : MayRefuseWord mine index asked phase)
      → IfOk result (λ x. Drew managed_rules 0 order seat seat' old new (driver_entry x.0 index (op.Refused asked) x.1 None) (phase_of phase))
      → OnErr result (StaysSeated seat seat' × (new ≡ old)) → Called mine locked2 mine2 new result (λ x. MakesRefusal mine mine2 index x.0 asked phase x.1)
  refusal_called asked phase result w d e = called (λ x. Drew managed_rules 0 order seat seat' old new (driver_entry x.0 index (op.Refused asked) x.1 None) (phase_of phase))
      (λ x. MakesRefusal mine mine2 index x.0 asked phase x.1) result w.stands.known
      (λ x y. (refusal_knows x.0 asked phase x.1 y w, refusal_made x.0 asked phase x.1 y)) d e

  pub finalise_called : {E : Type 0} (count : ℕ) (result : Result (ℕ × Reply) E) → (w : MayFinalise mine index)
      → IfOk result (λ x. Drew managed_rules 0 order seat seat' old new (driver_entry x.0 index (op.Line (act.Finalise count)) x.1 None) nothing)
      → OnErr result (StaysSeated seat seat' × (new ≡ old)) → Called mine locked2 mine2 new result (λ x. MakesFinalise mine mine2 index x.0 count x.1)
  finalise_called count result w d e = called (λ x. Drew managed_rules 0 order seat seat' old new (driver_entry x.0 index (op.Line (act.Finalise count)) x.1 None) nothing)
      (λ x. MakesFinalise mine mine2 index x.0 count x.1) result w.stands.known
      (λ x y. (finalise_knows x.0 count x.1 y w, finalise_made x.0 count x.1 y)) d e
