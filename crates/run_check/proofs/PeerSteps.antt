-- An event of a peer thread, or what a managed thread does with a handle: the peer side makes it as one step.
use Rattle.std.proofs.Common.{◌≡◌, ℕ, ◌≤◌, Bool, true, List, ◌∷◌, length, Option, None, refl, sym, ap, ◌∙◌, subst, true≢false}
use Rattle.std.specs.Prelude.{◌↔◌, IsTrue}
use Rattle.joint_machine.specs.declared.names.Thread.{Thread}
use Rattle.joint_machine.specs.declared.names.Thread.TheVariants.{M, P, C}
use Rattle.joint_machine.specs.declared.lines.Act.{Act}
use Rattle.joint_machine.specs.declared.lines.Act.TheVariants as act
use Rattle.joint_machine.specs.declared.events.Made.{Made}
use Rattle.joint_machine.specs.declared.events.Op.{Op}
use Rattle.joint_machine.specs.declared.events.Op.TheVariants as op
use Rattle.joint_machine.specs.declared.events.Reply.{Reply}
use Rattle.joint_machine.specs.Control.{Control, Doing, given, met, control_after, doing_at}
use Rattle.joint_machine.specs.Histories.{Finished}
use Rattle.joint_machine.specs.Lines.{IsEvent, IsOneEvent, IsPeerAct, IsPeerThread, is_peer_event}
use Rattle.joint_machine.specs.Linked.{Linkage}
use Rattle.joint_machine.specs.PeerReplay.{PeerReplay, MayRelease, PeerAllows}
use Rattle.joint_machine.specs.Sides.{AddsLawful, peer_rules}
use Rattle.joint_machine.specs.Told.{Noted, Told, nothing}
use Rattle.joint_machine.specs.PinsTold.{no_pins}
use Rattle.joint_laws.proofs.SpansTold.{HasSpan}
use Rattle.known_laws.specs.Driving.{PastInvariant}
use Rattle.known_laws.specs.Known.{pinned}
use Rattle.known_laws.proofs.Conditions.{given_may_be_released, met_may_be_released}
use Rattle.check_laws.specs.Behind.{NamesSo, state_of}
use Rattle.check_laws.specs.Laws.{IsNoRefusal}
use Rattle.check_laws.specs.Order.{CallersData, CitesBy, ReleaseCites}
use Rattle.peer_heap.specs.Sides.{seen}
use Rattle.peer_heap.specs.Steps.{IsPeerStep, IsStepLine}
use Rattle.run_check.specs.declared.replays.Replay.{Replay}
use Rattle.run_check.specs.Cycles.{CycleFollows}
use Rattle.run_check.specs.Follows.{ReserveFollows}
use Rattle.run_check.specs.Judging.{AnswersRightly, IsPeerStepped, MayReply, Replied, next_noted}
use Rattle.run_check.proofs.Opened.{reserved, stays}
use Rattle.run_check.proofs.Drawing.{drawing}
use Rattle.run_check.proofs.PeerEntries.{Keeps, compared, control_is, known, managed_is, names_none, right, wrong}

line-is : (a : Act) → IsPeerAct a → IsOneEvent a → IsPeerStepped (op.Line a) → IsStepLine a
line-is (act.NewPeer v n) p e s = tt
line-is (act.Copy v w) p e s = tt
line-is (act.Set v i w) p e s = tt
line-is (act.Get v w i) p e s = tt
line-is (act.Drop v) p e s = tt
line-is (act.Load v x) p e s = tt
line-is (act.Store x v) p e s = tt
line-is (act.Global g v) p e s = tt
line-is (act.WGlobal g v) p e s = tt
line-is (act.UnGlobal g) p e s = tt
line-is (act.WRead v g) p e s = tt
line-is (act.Slice n) p e s = absurd s
line-is act.Collect p e s = absurd e
line-is act.BeginMark p e s = absurd e
line-is act.SweepMark p e s = absurd e
line-is (act.New v k n) p e s = absurd p
line-is (act.Bridge v k n x f) p e s = absurd p
line-is (act.Weak k v) p e s = absurd p
line-is (act.Read k) p e s = absurd p
line-is (act.Await k) p e s = absurd p
line-is (act.Take v) p e s = absurd p
line-is (act.Pass v x) p e s = absurd p
line-is (act.Surface v x) p e s = absurd p
line-is (act.Dispose v) p e s = absurd p
line-is (act.Handle v) p e s = absurd p
line-is (act.PhaseLine w) p e s = absurd p
line-is (act.Finalise n) p e s = absurd p

pub step-is : (t : Thread) (o : Op) → IsEvent t o → is_peer_event t o ≡ true → IsPeerStepped o → IsPeerStep t o
step-is (P u) (op.Line a) e p s = (e.0.0, e.0.1, line-is a e.0.1 e.1 s)
step-is (M u) (op.Line a) e p s = absurd (true≢false (sym p))
step-is C (op.Line a) e p s = absurd (true≢false (sym p))
step-is t (op.Make sort n) e p s = e
step-is t (op.Land h x) e p s = e
step-is t (op.Grip x) e p s = e
step-is t (op.Release h) e p s = e
step-is t (op.Mirror k) e p s = absurd s
step-is t (op.Weaken h) e p s = absurd s
step-is t op.Begin e p s = absurd s
step-is t op.Sweep e p s = absurd s
step-is t (op.Restore h) e p s = absurd s
step-is t (op.Clear k) e p s = absurd s
step-is t _ e p s = absurd (true≢false (sym p))

-- what a step is not, and what is asked of its caller
step-spans-none : (t : Thread) (o : Op) → IsPeerStep t o → HasSpan o → ⊥
step-spans-none t (op.Line (act.Finalise n)) p s = p.2
step-spans-none t (op.Snap k) p s = p
step-spans-none t op.Sweep p s = p
step-spans-none t (op.Resolve k) p s = p
step-spans-none t _ p s = s

step-refuses-none : (t : Thread) (o : Op) → IsPeerStep t o → IsNoRefusal o
step-refuses-none t (op.Refused w) p = p
step-refuses-none t _ p = tt

no-driver-step : (o : Op) → IsPeerStep C o → ⊥
no-driver-step (op.Line a) p = p.0
no-driver-step (op.Make sort n) p = p.0
no-driver-step (op.Land h x) p = p.0
no-driver-step (op.Grip x) p = p.0
no-driver-step (op.Release h) p = p
no-driver-step _ p = p

step-driven : (s : Linkage) (t : Thread) (o : Op) (r : Reply) → IsPeerStep t o → CallersData s t o r nothing
step-driven s (M u) o r p = tt
step-driven s (P u) o r p = tt
step-driven s C o r p = absurd (no-driver-step o p)

-- a thread's event leaves the driver where it stands
thread-stands : (k : Control) (t : Thread) (n l : ℕ) (o : Op) (r : Reply) (told : Told) → (t ≡ C → ⊥) → (control_after k t n l o r told).stand ≡ k.stand
thread-stands k (M u) n l o r told c = refl
thread-stands k (P u) n l o r told c = refl
thread-stands k C n l o r told c = absurd (c refl)

-- a release is of a handle that the thread has given up, or met and not taken
released : (s : Linkage) → PastInvariant (pinned s no_pins) → (u h : ℕ) (cites : Option ℕ) → ReleaseCites (doing_at s.control u) h cites → MayRelease s.peer h
released s k u h cites c = by (doing_at s.control u) refl c
  where
    by : (d : Doing) → doing_at s.control u ≡ d → ReleaseCites d h cites → MayRelease s.peer h
    by (given n line g) e c = subst (MayRelease s.peer) (sym c.1) (given_may_be_released (pinned s no_pins) k u n line g e)
    by (met n line g) e c = subst (MayRelease s.peer) (sym c.1) (met_may_be_released (pinned s no_pins) k u n line g e)
    by _ e c = absurd c

step-allowed : (s : Linkage) → PastInvariant (pinned s no_pins) → (t : Thread) (o : Op) (cites : Option ℕ) → IsPeerStep t o → CitesBy s t o cites → PeerAllows s.peer t o cites nothing
step-allowed s k t (op.Line (act.Slice n)) cites p c = absurd p.2
step-allowed s k t (op.Line a) cites p c = tt
step-allowed s k t (op.Make sort n) cites p c = tt
step-allowed s k t (op.Land h x) cites p c = tt
step-allowed s k t (op.Grip x) cites p c = tt
step-allowed s k (M u) (op.Release h) cites p c = released s k u h.0 cites c
step-allowed s k (P u) (op.Release h) cites p c = absurd p
step-allowed s k C (op.Release h) cites p c = absurd p
step-allowed s k t _ cites p c = absurd p

module _ (h : Finished) (past : List Noted) (m : Made) (old : Replay) (ready : MayReply h past old m) (peer : is_peer_event m.caller m.op ≡ true) where
  -- what the driver has stays
  pub thread-named : (reply : Reply) (told : Told) (new : Replay) (own : Made) (alike : own ≡ record m { reply = reply })
      (adds : AddsLawful peer_rules drawing old.draw new.draw (seen old.peers) (seen new.peers) own told)
      → (none : IsNoRefusal m.op) → (m.caller ≡ C → ⊥) → CallersData (state_of past) m.caller m.op reply told → Keeps old new → new.cycle ≡ old.cycle → new.peers.reserve ≡ old.peers.reserve
      → reply ≡ m.reply
      → NamesSo h (state_of past).managed.managed (next_noted past m told) → Replied h past m old new told
  thread-named reply told new own alike adds none thread driven keeps cycle reserve same names =
      let s = state_of past in
      let mine : own.reply ≡ reply = ap (λ (x : Made). x.reply) alike in
      let like : own ≡ record m { reply = own.reply } = alike ∙ ap (λ r. record m { reply = r }) (sym mine) in
      let stated : CallersData s m.caller m.op own.reply told = subst (λ r. CallersData s m.caller m.op r told) (sym mine) driven in
      let managed = managed_is h past m old ready peer own told new like adds none stated (mine ∙ same) in
      let stands = ap (λ (k : Control). k.stand) (control_is h past m old ready peer own told new like adds none stated (mine ∙ same))
      ∙ thread-stands s.control m.caller (length past) m.index m.op m.reply told thread in
      let next = state_of (next_noted past m told ∷ past) in
      right h past m old ready peer own told new like adds none stated (mine ∙ same) keeps names
      (subst (ReserveFollows next) (sym reserve) (reserved s next managed stands old.peers.reserve ready.sides.peers.reserve))
      (subst (CycleFollows next) (sym cycle) (stays s next managed stands old.cycle ready.sides.cycle))

  -- and an event whose reply has no span names nothing
  pub thread-right : (reply : Reply) (told : Told) (new : Replay) (own : Made) (alike : own ≡ record m { reply = reply })
      (adds : AddsLawful peer_rules drawing old.draw new.draw (seen old.peers) (seen new.peers) own told)
      → (none : IsNoRefusal m.op) → (m.caller ≡ C → ⊥) → CallersData (state_of past) m.caller m.op reply told → (HasSpan m.op → ⊥) → Keeps old new → new.cycle ≡ old.cycle
      → new.peers.reserve ≡ old.peers.reserve → reply ≡ m.reply → Replied h past m old new told
  thread-right reply told new own alike adds none thread driven out keeps cycle reserve same =
      let s = state_of past in
      let mine : own.reply ≡ reply = ap (λ (x : Made). x.reply) alike in
      let like : own ≡ record m { reply = own.reply } = alike ∙ ap (λ r. record m { reply = r }) (sym mine) in
      let stated : CallersData s m.caller m.op own.reply told = subst (λ r. CallersData s m.caller m.op r told) (sym mine) driven in
      thread-named reply told new own alike adds none thread driven keeps cycle reserve same (names_none h past m old ready peer own told new like adds none stated (mine ∙ same) out)

-- the event may be made
module _ (h : Finished) (m : Made) (old : Replay) (w : (past : List Noted) × MayReply h past old m) (peer : is_peer_event m.caller m.op ≡ true) (stepped : IsPeerStepped m.op) where
  pub peer-step : IsPeerStep m.caller m.op
  peer-step = step-is m.caller m.op w.1.next.turn.event peer stepped

  pub peer-step-allowed : PeerAllows old.peers.state m.caller m.op m.cites nothing
  peer-step-allowed = subst (λ (p : PeerReplay). PeerAllows p m.caller m.op m.cites nothing) (sym w.1.sides.peers.state)
      (step-allowed (state_of w.0) (known h w.0 m old w.1 peer).kept m.caller m.op m.cites peer-step w.1.next.cites)

-- and its answer is compared
pub peer-step-answers : (h : Finished) (m : Made) (old new : Replay) (reply : Reply) (b : Bool) → is_peer_event m.caller m.op ≡ true → IsPeerStepped m.op
    → AddsLawful peer_rules drawing old.draw new.draw (seen old.peers) (seen new.peers) (record { caller = m.caller; index = m.index; op = m.op; reply = reply; cites = m.cites }) nothing
    → Keeps old new → new.cycle ≡ old.cycle → new.peers.reserve ≡ old.peers.reserve → (IsTrue b ↔ (m.reply ≡ reply)) → AnswersRightly h m old new b
peer-step-answers h m old new reply b peer stepped adds keeps cycle reserve same =
    compared h m old new reply b same
    (λ past ready e. (let p = step-is m.caller m.op ready.next.turn.event peer stepped in (
      nothing,
      thread-right h past m old ready peer reply nothing new _ refl adds (step-refuses-none m.caller m.op p) (λ c. no-driver-step m.op (subst (λ t. IsPeerStep t m.op) c p))
          (step-driven (state_of past) m.caller m.op reply p)
          (step-spans-none m.caller m.op p) keeps cycle reserve e,
    )))
    (λ past ready n. (let p = step-is m.caller m.op ready.next.turn.event peer stepped in
    wrong h past m old ready peer _ nothing new refl adds (step-refuses-none m.caller m.op p) (step-driven (state_of past) m.caller m.op reply p) n))

-- a slice of a peer thread's marking
slices-peer : (t : Thread) (n : ℕ) → IsEvent t (op.Line (act.Slice n)) → is_peer_event t (op.Line (act.Slice n)) ≡ true → IsPeerThread t × (1 ≤ n) × (n ≤ 65535)
slices-peer (P u) n e p = (e.0.0, e.0.1.0, e.0.1.1)
slices-peer (M u) n e p = absurd (true≢false (sym p))
slices-peer C n e p = absurd (true≢false (sym p))

pub peer-cites : (s : Linkage) (t : Thread) (o : Op) (cites : Option ℕ) → IsPeerThread t → CitesBy s t o cites → cites ≡ None
peer-cites s (P u) o cites p c = c
peer-cites s (M u) o cites p c = absurd p
peer-cites s C o cites p c = absurd p

pub peer-data : (s : Linkage) (t : Thread) (o : Op) (r : Reply) (told : Told) → IsPeerThread t → CallersData s t o r told
peer-data s (P u) o r told p = tt
peer-data s (M u) o r told p = absurd p
peer-data s C o r told p = absurd p

pub no-driver : (t : Thread) → IsPeerThread t → t ≡ C → ⊥
no-driver t p e = subst IsPeerThread e p

-- the side's entry but for its reply
pub alike-made : (m : Made) (o : Op) (cites : Option ℕ) (reply : Reply) → m.op ≡ o → m.cites ≡ cites
    → record { caller = m.caller; index = m.index; op = o; reply = reply; cites = cites } ≡ record m { reply = reply }
alike-made m o cites reply e f = λ i. record { caller = m.caller; index = m.index; op = sym e i; reply = reply; cites = sym f i }

module _ (h : Finished) (m : Made) (old : Replay) (n : ℕ) (is : m.op ≡ op.Line (act.Slice n)) (peer : is_peer_event m.caller m.op ≡ true) where
  thread-of : (past : List Noted) → MayReply h past old m → IsPeerThread m.caller × (1 ≤ n) × (n ≤ 65535)
  thread-of past ready = slices-peer m.caller n (subst (IsEvent m.caller) is ready.next.turn.event) (ap (λ o. is_peer_event m.caller o) (sym is) ∙ peer)

  cites-none : (past : List Noted) (ready : MayReply h past old m) → m.cites ≡ None
  cites-none past ready = peer-cites (state_of past) m.caller m.op m.cites (thread-of past ready).0 ready.next.cites

  pub slice-answers : (new : Replay) (reply : Reply) (b : Bool)
      → ((told : Told) × AddsLawful peer_rules drawing old.draw new.draw (seen old.peers) (seen new.peers)
      (record { caller = m.caller; index = m.index; op = op.Line (act.Slice n); reply = reply; cites = None }) told)
      → Keeps old new → new.cycle ≡ old.cycle → new.peers.reserve ≡ old.peers.reserve → (IsTrue b ↔ (m.reply ≡ reply)) → AnswersRightly h m old new b
  slice-answers new reply b adds keeps cycle reserve same =
      compared h m old new reply b same
      (λ past ready e. (let t = thread-of past ready in (
        adds.0,
        thread-right h past m old ready peer reply adds.0 new _ (alike-made m _ None reply is (cites-none past ready)) adds.1 (subst IsNoRefusal (sym is) tt) (no-driver m.caller t.0)
            (peer-data (state_of past) m.caller m.op reply adds.0 t.0)
            (λ s. subst HasSpan is s) keeps cycle reserve e,
      )))
      (λ past ready d. (let t = thread-of past ready in
      wrong h past m old ready peer _ adds.0 new (alike-made m _ None reply is (cites-none past ready)) adds.1 (subst IsNoRefusal (sym is) tt)
      (peer-data (state_of past) m.caller m.op reply adds.0 t.0) d))
