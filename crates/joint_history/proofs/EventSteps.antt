-- The events of threads fit their sides: what each asks holds in its thread's turn once the thread's lines were lent,
-- and after the giving back the thread has made its event.
use Rattle.std.proofs.Common.{◌≡◌, ℕ, ◌<◌, ◌^◌, true, false, Option, None, refl, sym, ◌∙◌, subst, arith}
use Rattle.std.specs.Prelude.{IsOk, IsSome, Result, IfOk, OnErr}
use Rattle.std.proofs.lemmas.Result.{IfOk-weaker}
use Rattle.joint_machine.specs.declared.names.HNum.{HNum}
use Rattle.joint_machine.specs.declared.names.Kind.{Kind}
use Rattle.joint_machine.specs.declared.names.PNum.{PNum}
use Rattle.joint_machine.specs.declared.names.Sort.{Sort}
use Rattle.joint_machine.specs.declared.names.Thread.{Thread}
use Rattle.joint_machine.specs.declared.names.Thread.TheVariants.{M, P, C}
use Rattle.joint_machine.specs.declared.names.Var.{Var}
use Rattle.joint_machine.specs.declared.lines.Act.{Act}
use Rattle.joint_machine.specs.declared.lines.Act.TheVariants as act
use Rattle.joint_machine.specs.declared.events.Entry.{Entry}
use Rattle.joint_machine.specs.declared.events.Op.{Op}
use Rattle.joint_machine.specs.declared.events.Op.TheVariants as op
use Rattle.joint_machine.specs.declared.events.Reply.{Reply}
use Rattle.joint_machine.specs.declared.events.Reply.TheVariants as says
use Rattle.joint_machine.specs.Control.{Doing, ThreadAllows, made, gripped}
use Rattle.joint_machine.specs.Draws.{numbered}
use Rattle.joint_machine.specs.Lines.{IsDriver, IsManagedThread, IsPeerThread, is_peer_event, is_peer_thread, is_read}
use Rattle.joint_machine.specs.Sides.{TakesManaged, TakesPeer, managed_rules}
use Rattle.known_laws.proofs.Citing.{thread-none}
use Rattle.managed_heap.specs.Sides.{ManagedModel, as_side}
use Rattle.managed_heap.specs.Steps.{CitesRightly, IsFresh, IsManagedStep, IsStepBy}
use Rattle.order_table.specs.declared.views.View.{View}
use Rattle.order_table.specs.Views.{OrderId, Shown}
use Rattle.peer_heap.specs.Sides.{PeerModel, seen}
use Rattle.peer_heap.specs.Steps.{IsRelease}
use Rattle.seat_calls.specs.Passing.{MayAppend}
use Rattle.joint_history.specs.Knowing.{line_known}
use Rattle.joint_history.specs.Locked.{IsTurn, MayMake, StaysSeated, made_by}
use Rattle.joint_history.specs.PeerCalls.{AllowsCall, DrawsEvent, IsPeerCall}
use Rattle.joint_history.specs.Steps.{Fits, HasManagedSeat, IsLent, KnowsManaged, KnowsPeers, MakesEvent}
use Rattle.joint_history.proofs.Allowed.{turn_is_allowed}
use Rattle.joint_history.proofs.Fitting.{either_further, goes_further, lent_managed, managed_line, managed_may, peer_line, peer_may}
use Rattle.joint_history.proofs.Fresh.{turn_is_fresh_for}
use Rattle.joint_history.proofs.LockedSteps.{DrawsTold, StandsTold, called, managed_side, peer_side}
use Rattle.joint_history.proofs.Reserving.{step_reserves}
use Rattle.joint_history.proofs.Running.{line_bare}
use Rattle.joint_history.proofs.SeatDraws.{step_is_plain}

-- on which side a thread's lines are
of_managed : (t : Thread) → IsManagedThread t → is_peer_thread t ≡ false
of_managed (M n) is = refl
of_managed (P n) is = absurd is
of_managed C is = absurd is

of_driver : (t : Thread) → IsDriver t → is_peer_thread t ≡ false
of_driver (M n) is = absurd is
of_driver (P n) is = absurd is
of_driver C is = refl

of_peers : (t : Thread) → IsPeerThread t → is_peer_thread t ≡ true
of_peers (M n) is = absurd is
of_peers (P n) is = refl
of_peers C is = absurd is

-- no event that a side's step makes is a read
step_side : (t : Thread) (o : Op) → IsManagedStep t o → (is_read o ≡ false) × (is_peer_event t o ≡ false)
step_side t (op.Line (act.Read k)) e = absurd e.1.1
step_side t (op.Line (act.Await k)) e = absurd e.1.1
step_side t (op.Line (act.Finalise n)) e = (refl, of_driver t e.1)
step_side t (op.Line a) e = (refl, of_managed t e.1.0)
step_side t (op.Lend v x) e = (refl, refl)
step_side t (op.Adopt v kind n p h) e = (refl, refl)
step_side t (op.Meet v sort n p h) e = (refl, refl)
step_side t (op.Give v) e = (refl, refl)
step_side t o e = absurd e.1

call_side : (t : Thread) (o : Op) → IsPeerCall t o → (is_read o ≡ false) × (is_peer_event t o ≡ true)
call_side t op.Begin is = (refl, refl)
call_side t op.Sweep is = (refl, refl)
call_side t (op.Line (act.Slice n)) is = (refl, of_peers t is.0)
call_side t (op.Line (act.Read k)) is = absurd is.2
call_side t (op.Line (act.Await k)) is = absurd is.2
call_side t (op.Line a) is = (refl, of_peers t is.0)
call_side t (op.Make sort n) is = (refl, refl)
call_side t (op.Land h x) is = (refl, refl)
call_side t (op.Grip x) is = (refl, refl)
call_side t (op.Release h) is = (refl, refl)
call_side t o is = absurd is

-- an `adopt` and a `meet` cite an entry in their thread's turn, and no other step does
adopt_cites : (d : Doing) (t : Thread) (l : ℕ) (v : Var) (kind : Kind) (k : ℕ) (p : PNum) (h : HNum) (cites : Option ℕ) → ThreadAllows d t l (op.Adopt v kind k p h) cites → IsSome cites
adopt_cites (made n line p' h' sort f) t l v kind k p h cites w = subst IsSome (sym w.0) refl
adopt_cites d t l v kind k p h cites w = absurd w

meet_cites : (d : Doing) (t : Thread) (l : ℕ) (v : Var) (sort : Sort) (f : ℕ) (p : PNum) (h : HNum) (cites : Option ℕ) → ThreadAllows d t l (op.Meet v sort f p h) cites → IsSome cites
meet_cites (gripped n line p' h' sort' f') t l v sort f p h cites w = subst IsSome (sym w.0) refl
meet_cites d t l v sort f p h cites w = absurd w

thread_cites : (d : Doing) (t : Thread) (l : ℕ) (o : Op) (cites : Option ℕ) → IsStepBy t o → ThreadAllows d t l o cites → CitesRightly o cites
thread_cites d t l (op.Adopt v kind k p h) cites b w = adopt_cites d t l v kind k p h cites w
thread_cites d t l (op.Meet v sort f p h) cites b w = meet_cites d t l v sort f p h cites w
thread_cites d t l (op.Line a) cites b w = thread-none d t l (op.Line a) cites tt w
thread_cites d t l (op.Lend v x) cites b w = thread-none d t l (op.Lend v x) cites tt w
thread_cites d t l (op.Give v) cites b w = thread-none d t l (op.Give v) cites tt w
thread_cites d t l o cites b w = absurd b

cites_rightly : (t : Thread) (d : Doing) (l : ℕ) (o : Op) (cites : Option ℕ) → IsManagedStep t o → IsTurn t d l o cites → CitesRightly o cites
cites_rightly (M n) d l o cites e w = thread_cites d (M n) l o cites e.1 w
cites_rightly (P n) d l (op.Adopt v kind k p h) cites e w = absurd e.1
cites_rightly (P n) d l (op.Meet v sort f p h) cites e w = absurd e.1
cites_rightly (P n) d l o cites e w = w
cites_rightly C d l o cites e w = absurd w

-- a line of a managed thread cites nothing
pub bare_may : (t : Thread) (mine : View) (index : ℕ) (a : Act) (o : Op) (cites : Option ℕ) → IsManagedThread t → o ≡ op.Line a
    → MayMake t mine index o cites → (cites ≡ None) × MayMake t mine index (op.Line a) None
bare_may t mine index a o cites is e may =
    let m = subst (λ q. MayMake t mine index q cites) e may in
    let n = line_bare t mine index a cites is m in
    (n, subst (MayMake t mine index (op.Line a)) n m)

pub event_is : {E : Type 0} (t : Thread) (index : ℕ) (o q : Op) (cites : Option ℕ) (mine mine2 : View) (result : Result (ℕ × Reply) E)
    → o ≡ q → cites ≡ None → MakesEvent t index q None mine mine2 result → MakesEvent t index o cites mine mine2 result
event_is t index o q cites mine mine2 result e n m = subst (λ (z : Op × Option ℕ). MakesEvent t index z.0 z.1 mine mine2 result) (λ i. (sym e i, sym n i)) m

module _ (n : ℕ) (t : Thread) (mine : View) (index : ℕ) (o : Op) (cites : Option ℕ) (may : MayMake t mine index o cites) (short : index < 2 ^ 32) where
  -- what the managed list's events ask, those of a step, and of a `weak` and a `take`
  pub step_asked : IsManagedStep t o → TakesManaged n t → (order : OrderId) (lent : Shown) (mine1 : View) (s : ManagedModel) → IsLent 0 (KnowsManaged n) t order mine lent mine1 s
      → IsManagedStep t o × IsFresh s.state o × CitesRightly o cites × TakesManaged s.threads t × MayAppend order lent 0 t o None × (line_known lent.view 0 ≡ s.entries)
  step_asked event takes order lent mine1 s w = (
    event,
    turn_is_fresh_for t w.locked mine lent.view mine1 (as_side s) index o cites event w.pass w.owns w.known_side.0 may w.lends,
    cites_rightly t may.doing index o cites event may.turn,
    subst (λ k. TakesManaged k t) (sym w.known_side.1) takes,
    (let q = step_side t o event in managed_may n t order mine lent mine1 s o q.0 q.1 (step_is_plain t o says.Ok event).cycles w),
    managed_line n t order mine lent mine1 s w,
  )

  pub seat_asked : TakesManaged n t → (order : OrderId) (lent : Shown) (mine1 : View) (s : ManagedModel) → IsLent 0 (KnowsManaged n) t order mine lent mine1 s
      → TakesManaged s.threads t × HasManagedSeat t order lent (as_side s)
  seat_asked takes order lent mine1 s w = (subst (λ k. TakesManaged k t) (sym w.known_side.1) takes, lent_managed n t order mine lent mine1 s may.stands.known w)

  -- an event of the managed list, whatever draws it
  pub managed_fits : {E : Type 0} (asks : OrderId → Shown → ManagedModel → Type 0) (drew : OrderId → Shown → Shown → ManagedModel → ManagedModel → Result (ℕ × Reply) E → Type 0)
      → ((order : OrderId) (lent : Shown) (mine1 : View) (s : ManagedModel) → IsLent 0 (KnowsManaged n) t order mine lent mine1 s → asks order lent s)
      → ((order : OrderId) (lent lent2 : Shown) (s s' : ManagedModel) (r : Result (ℕ × Reply) E) → drew order lent lent2 s s' r → (s'.threads ≡ s.threads)
      × IfOk r (λ x. DrawsTold managed_rules 0 StandsTold order lent lent2 (as_side s) (as_side s') (numbered x.0 (made_by t index o x.1 cites)))
      × OnErr r (StaysSeated lent lent2 × (as_side s' ≡ as_side s)))
      → Fits 0 (KnowsManaged n) t mine asks drew (MakesEvent t index o cites)
  managed_fits asks drew asked told =
      let make : ℕ × Reply → Entry = λ x. numbered x.0 (made_by t index o x.1 cites) in
      record {
        side = omega arith;
        asked = asked;
        further = λ order lent lent2 s s2 r d.
            (let p = told order lent lent2 s s2 r d in either_further (λ (x : ℕ × Reply). DrawsTold managed_rules 0 StandsTold order lent lent2 (as_side s) (as_side s2) (make x))
            (as_side s2 ≡ as_side s) lent lent2 r (λ x q. goes_further order lent lent2 0 q.drew.kept q.drew.appends) p.1 p.2);
        left = λ order lent lent2 mine1 locked2 mine2 s s2 r w d b.
            (
            let p = told order lent lent2 s s2 r d in
            let q = called managed_side t index o cites order w.locked mine mine1 locked2 mine2 lent lent2 (as_side s) (as_side s2) r
            w.thread w.pass w.owns short w.known_side.0 may w.lends p.1 p.2 b in
            ((q.knows, p.0 ∙ w.known_side.1), q.makes)
            );
      }

  -- an event of the peer list
  pub peer_fits : {E : Type 0} → IsPeerCall t o → TakesPeer n t → Fits {S = PeerModel} {R = Result (ℕ × Reply) E} 1 (KnowsPeers n) t mine
      (λ order seat s. IsPeerCall t o × AllowsCall s.state t o cites × TakesPeer s.threads t × MayAppend order seat 1 t o None × (line_known seat.view 1 ≡ s.entries))
      (λ order seat seat' s s' result. (s'.threads ≡ s.threads) × (s'.reserve ≡ s.reserve)
      × IfOk result (λ r. DrawsEvent order seat seat' (seen s) (seen s') (numbered r.0 (made_by t index o r.1 cites)))
      × OnErr result (StaysSeated seat seat' × (seen s' ≡ seen s)) × (IsRelease o → IsOk result))
      (λ old new result. MakesEvent t index o cites old new result × (IsRelease o → IsOk result))
  peer_fits call takes =
      let make : ℕ × Reply → Entry = λ x. numbered x.0 (made_by t index o x.1 cites) in
      record {
        side = omega arith;
        asked = λ order lent mine1 s w. (
          call,
          turn_is_allowed t w.locked mine lent.view mine1 (seen s) index o cites call w.pass w.owns w.known_side.0 may w.lends,
          subst (λ k. TakesPeer k t) (sym w.known_side.2) takes,
          (let q = call_side t o call in peer_may n t order mine lent mine1 s o q.0 q.1 w),
          peer_line n t order mine lent mine1 s w,
        );
        further = λ order lent lent2 s s2 r d. either_further (λ (x : ℕ × Reply). DrawsEvent order lent lent2 (seen s) (seen s2) (make x)) (seen s2 ≡ seen s) lent lent2 r
            (λ x q. goes_further order lent lent2 1 q.drew.kept q.drew.appends) d.2 d.3;
        left = λ order lent lent2 mine1 locked2 mine2 s s2 r w d b.
            (
            let q = called peer_side t index o cites order w.locked mine mine1 locked2 mine2 lent lent2 (seen s) (seen s2) r w.thread w.pass w.owns short w.known_side.0 may w.lends
            (IfOk-weaker r (λ (x : ℕ × Reply). DrawsEvent order lent lent2 (seen s) (seen s2) (make x)) _ (λ x e. record { told = e.told; asked = tt; drew = e.drew }) d.2) d.3 b in
            let k = step_reserves t index o cites order w.locked mine mine1 locked2 mine2 lent lent2 s s2 r call w.known_side.0 w.known_side.1 w.lends d.2 d.3 d.1 b in
            ((q.knows, k, d.0 ∙ w.known_side.2), (q.makes, d.4))
            );
      }
