-- A plain step of the managed side: what its call asks for holds behind the past, by what the thread has in hand; it
-- leaves the open cycle, the pins and the cells alone; and where it takes notices, they are the oldest that wait.
use Rattle.std.proofs.Common.{◌≡◌, ℕ, ◌+◌, ◌-◌, ◌≤◌, true, false, List, length, Option, refl, sym, ap, ◌∙◌, subst, arith, true≢false}
use Rattle.std.specs.Prelude.{Contains, min}
use Rattle.joint_machine.specs.declared.names.Cycle.{Cycle}
use Rattle.joint_machine.specs.declared.names.HNum.{HNum}
use Rattle.joint_machine.specs.declared.names.PNum.{PNum}
use Rattle.joint_machine.specs.declared.names.Sort.{Sort}
use Rattle.joint_machine.specs.declared.names.Span.{Span}
use Rattle.joint_machine.specs.declared.names.Var.{Var}
use Rattle.joint_machine.specs.declared.names.Thread.{Thread}
use Rattle.joint_machine.specs.declared.names.Thread.TheVariants.{M, P, C}
use Rattle.joint_machine.specs.declared.lines.Act.{Act}
use Rattle.joint_machine.specs.declared.lines.Act.TheVariants as act
use Rattle.joint_machine.specs.declared.events.Made.{Made}
use Rattle.joint_machine.specs.declared.events.Op.{Op}
use Rattle.joint_machine.specs.declared.events.Op.TheVariants as op
use Rattle.joint_machine.specs.declared.events.Reply.{Reply}
use Rattle.joint_machine.specs.declared.events.Reply.TheVariants as says
use Rattle.joint_machine.specs.Control as control
use Rattle.joint_machine.specs.Control.{Control, Doing, Stand, control_after, doing_at, stand_after}
use Rattle.joint_machine.specs.Lines.{IsDriver, IsEvent, IsLine, IsOneEvent, is_peer_event, is_read}
use Rattle.joint_machine.specs.PinsTold.{is_pinned, no_pins, with_pins}
use Rattle.joint_machine.specs.Linked.{Linkage, ManagedLawful, SideLawful}
use Rattle.joint_machine.specs.Managed.{Managed}
use Rattle.joint_machine.specs.ManagedReplay.{ManagedAllows, ManagedReplay, managed_answer}
use Rattle.joint_machine.specs.Run.{thread_number}
use Rattle.joint_machine.specs.Told.{Told, nothing}
use Rattle.joint_laws.specs.ManagedInvariants.{ReplayInvariant}
use Rattle.joint_laws.specs.Spans.{TellsNamed}
use Rattle.joint_laws.proofs.ManagedMoves.{GoesOn, managed_line-goes_on}
use Rattle.joint_laws.proofs.PlainReplies.{IsPlain}
use Rattle.joint_laws.proofs.SpansTold.{HasSpan, IsPlainEntry, plain-entry}
use Rattle.known_laws.specs.Driving.{PastInvariant}
use Rattle.known_laws.specs.Known.{pinned}
use Rattle.known_laws.proofs.Conditions.{gripped_is_new, made_is_new}
use Rattle.known_laws.proofs.FrozenPasts.{goes_on}
use Rattle.check_laws.specs.Laws.{IsNoRefusal}
use Rattle.check_laws.specs.Order.{AdoptCites, CallersData, CitesBy, MeetCites}
use Rattle.managed_heap.specs.Steps.{IsFresh, IsManagedStep, IsStepAct}
use Rattle.run_check.specs.Follows.{owed_after}
use Rattle.run_check.specs.Judging.{IsStepped}

-- the driver takes no thread's event
no_driver : (t : Thread) → (IsDriver t → ⊥) → t ≡ C → ⊥
no_driver t w e = w (subst IsDriver (sym e) tt)

-- it goes on
pub stepped-goes_on : (s : ManagedReplay) (c : Thread) (o : Op) (told : Told) → ReplayInvariant s → IsEvent c o
    → is_peer_event c o ≡ false → IsStepped o → ManagedAllows s o told → GoesOn s.managed (managed_answer s c o told).state.managed
stepped-goes_on s (M i) o told k e p w a = goes_on s (M i) o told (no_driver (M i) (λ x. x)) e k a
stepped-goes_on s (P i) o told k e p w a = goes_on s (P i) o told (no_driver (P i) (λ x. x)) e k a
stepped-goes_on s C (op.Line x) told k e p w a = managed_line-goes_on s.managed (thread_number C) x k.managed.places k.managed.cells
stepped-goes_on s C (op.Make sort n) told k e p w a = absurd (true≢false p)
stepped-goes_on s C (op.Adopt v kind n q h) told k e p w a = absurd e.0
stepped-goes_on s C (op.Lend v x) told k e p w a = absurd e.0
stepped-goes_on s C (op.Land h x) told k e p w a = absurd (true≢false p)
stepped-goes_on s C (op.Grip x) told k e p w a = absurd (true≢false p)
stepped-goes_on s C (op.Meet v sort n q h) told k e p w a = absurd e.0
stepped-goes_on s C (op.Give v) told k e p w a = absurd e.0
stepped-goes_on s C (op.Release h) told k e p w a = absurd (true≢false p)
stepped-goes_on s C (op.Snap z) told k e p w a = absurd w
stepped-goes_on s C (op.Contract z) told k e p w a = absurd w
stepped-goes_on s C (op.Resolve z) told k e p w a = absurd w
stepped-goes_on s C (op.Abandon z) told k e p w a = absurd w
stepped-goes_on s C (op.Refused z) told k e p w a = absurd w
stepped-goes_on s C _ told k e p w a = absurd (true≢false p)

-- the driver stands where it stood
line_stand : (stand : Stand) (n : ℕ) (a : Act) (reply : Reply) (told : Told) → stand_after stand n (op.Line a) reply told ≡ stand
line_stand control.idle n a reply told = refl
line_stand (control.snapped o) n a reply told = refl
line_stand (control.contracted o comps heavy xrefs) n a reply told = refl
line_stand (control.weakening o count weakened swept) n a reply told = refl
line_stand (control.marked o) n a reply told = refl
line_stand (control.restoring o answers) n a reply told = refl
line_stand (control.restored o answers clear) n a reply told = refl

pub stepped-stand : (k : Control) (c : Thread) (n l : ℕ) (o : Op) (reply : Reply) (told : Told) → IsEvent c o
    → is_peer_event c o ≡ false → IsStepped o → (control_after k c n l o reply told).stand ≡ k.stand
stepped-stand k (M i) n l o reply told e p w = refl
stepped-stand k (P i) n l o reply told e p w = refl
stepped-stand k C n l (op.Line a) reply told e p w = line_stand k.stand n a reply told
stepped-stand k C n l (op.Adopt v kind f q h) reply told e p w = absurd e.0
stepped-stand k C n l (op.Lend v x) reply told e p w = absurd e.0
stepped-stand k C n l (op.Meet v sort f q h) reply told e p w = absurd e.0
stepped-stand k C n l (op.Give v) reply told e p w = absurd e.0
stepped-stand k C n l (op.Snap z) reply told e p w = absurd w
stepped-stand k C n l (op.Contract z) reply told e p w = absurd w
stepped-stand k C n l (op.Resolve z) reply told e p w = absurd w
stepped-stand k C n l (op.Abandon z) reply told e p w = absurd w
stepped-stand k C n l (op.Refused z) reply told e p w = absurd w
stepped-stand k C n l _ reply told e p w = absurd (true≢false p)

-- it says nothing of the driver's data
pub stepped-data : (s : Linkage) (c : Thread) (o : Op) (reply : Reply) (told : Told) → is_peer_event c o ≡ false → IsStepped o → CallersData s c o reply told
stepped-data s (M i) o reply told p w = tt
stepped-data s (P i) o reply told p w = tt
stepped-data s C (op.Mirror z) reply told p w = absurd (true≢false p)
stepped-data s C op.Begin reply told p w = absurd (true≢false p)
stepped-data s C (op.Clear z) reply told p w = absurd (true≢false p)
stepped-data s C (op.Contract z) reply told p w = absurd w
stepped-data s C (op.Resolve z) reply told p w = absurd w
stepped-data s C (op.Abandon z) reply told p w = absurd w
stepped-data s C (op.Refused z) reply told p w = absurd w
stepped-data s C _ reply told p w = tt

-- the call takes it
step_line : (i : ℕ) (a : Act) → IsLine (M i) a → IsOneEvent a → is_read (op.Line a) ≡ false → IsStepped (op.Line a) → IsStepAct a
step_line i (act.Weak k v) l o e w = absurd w
step_line i (act.Take v) l o e w = absurd w
step_line i (act.Read k) l o e w = absurd (true≢false e)
step_line i (act.Await k) l o e w = absurd (true≢false e)
step_line i (act.Bridge v k n s f) l o e w = absurd o
step_line i (act.Pass v x) l o e w = absurd o
step_line i (act.Surface v x) l o e w = absurd o
step_line i (act.Dispose v) l o e w = absurd o
step_line i (act.PhaseLine z) l o e w = absurd o
step_line i act.Collect l o e w = absurd o
step_line i act.BeginMark l o e w = absurd o
step_line i act.SweepMark l o e w = absurd o
step_line i (act.NewPeer v n) l o e w = absurd l.1
step_line i (act.Global g v) l o e w = absurd l.1
step_line i (act.WGlobal g v) l o e w = absurd l.1
step_line i (act.UnGlobal g) l o e w = absurd l.1
step_line i (act.WRead v g) l o e w = absurd l.1
step_line i (act.Slice n) l o e w = absurd l.1
step_line i (act.Finalise n) l o e w = absurd l.1
step_line i _ l o e w = tt

thread_line : (i : ℕ) (a : Act) → IsEvent (M i) (op.Line a) → is_read (op.Line a) ≡ false → IsStepped (op.Line a) → IsManagedStep (M i) (op.Line a)
thread_line i (act.Finalise n) v e w = absurd v.0.1
thread_line i a v e w = (v, (v.0.0, step_line i a v.0 v.1 e w))

driver_line : (a : Act) → IsEvent C (op.Line a) → IsManagedStep C (op.Line a)
driver_line (act.Finalise n) v = (v, tt)
driver_line (act.PhaseLine z) v = absurd v.1
driver_line _ v = absurd v.0

pub managed_step : (c : Thread) (o : Op) → IsEvent c o → is_peer_event c o ≡ false → is_read o ≡ false → IsStepped o → IsManagedStep c o
managed_step (M i) (op.Line a) v p e w = thread_line i a v e w
managed_step (P i) (op.Line a) v p e w = absurd (true≢false p)
managed_step C (op.Line a) v p e w = driver_line a v
managed_step c (op.Adopt x kind n q h) v p e w = (v, v.0)
managed_step c (op.Lend x y) v p e w = (v, v.0)
managed_step c (op.Meet x sort n q h) v p e w = (v, v.0)
managed_step c (op.Give x) v p e w = (v, v.0)
managed_step c (op.Snap z) v p e w = absurd w
managed_step c (op.Contract z) v p e w = absurd w
managed_step c (op.Resolve z) v p e w = absurd w
managed_step c (op.Abandon z) v p e w = absurd w
managed_step c (op.Refused z) v p e w = absurd w
managed_step c _ v p e w = absurd (true≢false p)

-- it asks for no pins, and no read waits otherwise behind it
pub stepped-unpinned : (o : Op) → IsStepped o → is_pinned o ≡ false
stepped-unpinned (op.Line (act.Take v)) w = absurd w
stepped-unpinned (op.Snap k) w = absurd w
stepped-unpinned _ w = refl

pub stepped-no_refusal : (o : Op) → IsStepped o → IsNoRefusal o
stepped-no_refusal (op.Refused x) w = absurd w
stepped-no_refusal _ w = tt

pub stepped-owed : (cycles : ℕ) (o : Op) (reply : Reply) (owed : Option Cycle) → IsStepped o → is_read o ≡ false → owed_after cycles o reply owed ≡ owed
stepped-owed cycles (op.Snap k) reply owed w e = absurd w
stepped-owed cycles (op.Line (act.Read k)) reply owed w e = absurd (true≢false e)
stepped-owed cycles (op.Line (act.Await k)) reply owed w e = absurd (true≢false e)
stepped-owed cycles _ reply owed w e = refl

-- an `adopt` and a `meet` take a handle that no row ever took, and cite an entry
adopts_new : (s : Linkage) → PastInvariant (pinned s no_pins) → (t : ℕ) (d : Doing) (p h : ℕ) (cites : Option ℕ) → doing_at s.control t ≡ d → AdoptCites d p h cites → Contains s.managed.adopted h → ⊥
adopts_new s k t (control.made n line p h sort f) q g cites e w c = made_is_new (pinned s no_pins) k t n line p h sort f e (subst (λ z. Contains s.managed.adopted z) w.2 c)
adopts_new s k t control.free q g cites e w c = w
adopts_new s k t (control.lent n line h x) q g cites e w c = w
adopts_new s k t (control.gripped n line p h sort f) q g cites e w c = w
adopts_new s k t (control.given n line h) q g cites e w c = w
adopts_new s k t (control.met n line h) q g cites e w c = w

meets_new : (s : Linkage) → PastInvariant (pinned s no_pins) → (t : ℕ) (d : Doing) (v : Var) (kind : Sort) (fields : ℕ) (q : PNum) (r : HNum) (cites : Option ℕ)
    → doing_at s.control t ≡ d → MeetCites d (op.Meet v kind fields q r) cites
    → Contains s.managed.adopted r.0 → ⊥
meets_new s k t (control.gripped n line p g sort f) v kind fields q r cites e w c = gripped_is_new (pinned s no_pins) k t n line p g sort f e (subst (λ z. Contains s.managed.adopted z) w.2 c)
meets_new s k t control.free v kind fields q r cites e w c = w
meets_new s k t (control.made n line p g sort f) v kind fields q r cites e w c = w
meets_new s k t (control.lent n line g x) v kind fields q r cites e w c = w
meets_new s k t (control.given n line g) v kind fields q r cites e w c = w
meets_new s k t (control.met n line g) v kind fields q r cites e w c = w

pub stepped-fresh : (s : Linkage) → PastInvariant (pinned s no_pins) → (r : ManagedReplay) → r ≡ with_pins s.managed no_pins
    → (c : Thread) (o : Op) (cites : Option ℕ) → IsEvent c o → CitesBy s c o cites → IsFresh r o
stepped-fresh s k r e c o cites v w = subst (λ z. IsFresh z o) (sym e) (by c o v w)
  where
    by : (c : Thread) (o : Op) → IsEvent c o → CitesBy s c o cites → IsFresh (with_pins s.managed no_pins) o
    by (M i) (op.Adopt x kind n q h) v w = adopts_new s k i (doing_at s.control i) q.0 h.0 cites refl w
    by (P i) (op.Adopt x kind n q h) v w = absurd v.0
    by C (op.Adopt x kind n q h) v w = absurd v.0
    by (M i) (op.Meet x sort n q h) v w = meets_new s k i (doing_at s.control i) x sort n q h cites refl w
    by (P i) (op.Meet x sort n q h) v w = absurd v.0
    by C (op.Meet x sort n q h) v w = absurd v.0
    by c _ v w = tt

-- it frees nothing, and only the taking of notices answers a span
pub plainly_named : (ms ps : List ℕ) (r : Reply) (told : Told) → IsPlainEntry r told → TellsNamed ms ps r told
plainly_named ms ps (says.Snapped n x) told e = absurd e.plain
plainly_named ms ps (says.Swept j x) told e = absurd e.plain
plainly_named ms ps (says.Freed x) told e = absurd e.plain
plainly_named ms ps _ told e = e.none

pub stepped-named : (ms ps : List ℕ) (s : Linkage) (m : Made) → is_peer_event m.caller m.op ≡ false → IsStepped m.op → ManagedLawful s.managed m nothing → TellsNamed ms ps m.reply nothing
stepped-named ms ps s m p w l = by m.op refl w
  where
    side : SideLawful (is_peer_event m.caller m.op) s m nothing
    side = subst (λ b. SideLawful b s m nothing) (sym p) l

    plain : (o : Op) → m.op ≡ o → (HasSpan o → ⊥) → TellsNamed ms ps m.reply nothing
    plain o e out = plainly_named ms ps m.reply nothing (plain-entry s m.index m.reply m.cites m.caller m.op nothing (λ x. out (subst HasSpan e x)) side)

    by : (o : Op) → m.op ≡ o → IsStepped o → TellsNamed ms ps m.reply nothing
    by (op.Line (act.Finalise n)) e w = subst (λ r. TellsNamed ms ps r nothing) (sym (l.replies ∙ ap (λ o. (managed_answer s.managed m.caller o nothing).reply) e)) tt
    by (op.Snap k) e w = absurd w
    by (op.Resolve k) e w = absurd w
    by op.Sweep e w = absurd (true≢false (ap (is_peer_event m.caller) (sym e) ∙ p))
    by o e w = plain o e (λ x. x)

-- the notices that are taken
pub record TakesSpan (s : Managed) (sp : Span) : Type 0 where
  pub first : sp.first ≡ s.taken
  pub within : s.taken ≤ length s.notices → sp.first + sp.count ≤ length s.notices

span_in : Reply → Span → Span
span_in (says.Took x) d = x
span_in _ d = d

pub took_one : (r : Reply) (a b : Span) → r ≡ says.Took a → r ≡ says.Took b → a ≡ b
unfolding span_in
took_one r a b e f = ap (λ z. span_in z a) (sym e ∙ f)

taken_span : (s : Managed) (n : ℕ) (sp : Span) → says.Took sp ≡ says.Took record { first = s.taken; count = min n (length s.notices - s.taken) } → TakesSpan s sp
unfolding span_in
taken_span s n sp e =
    let same : sp ≡ record { first = s.taken; count = min n (length s.notices - s.taken) } = ap (λ r. span_in r sp) e in
    let f = ap (λ (z : Span). z.first) same in
    let g = ap (λ (z : Span). z.count) same in
    record { first = f; within = λ l. omega (arith, f, g, l) }

pub stepped-took : (s : Linkage) (m : Made) (sp : Span) → is_peer_event m.caller m.op ≡ false → IsStepped m.op
    → ManagedLawful s.managed m nothing → m.reply ≡ says.Took sp → TakesSpan s.managed.managed sp
stepped-took s m sp p w l took = by m.op refl w
  where
    side : SideLawful (is_peer_event m.caller m.op) s m nothing
    side = subst (λ b. SideLawful b s m nothing) (sym p) l

    plain : (o : Op) → m.op ≡ o → (HasSpan o → ⊥) → TakesSpan s.managed.managed sp
    plain o e out = absurd (subst IsPlain took (plain-entry s m.index m.reply m.cites m.caller m.op nothing (λ x. out (subst HasSpan e x)) side).plain)

    by : (o : Op) → m.op ≡ o → IsStepped o → TakesSpan s.managed.managed sp
    by (op.Line (act.Finalise n)) e w = taken_span s.managed.managed n sp (sym took ∙ (l.replies ∙ ap (λ o. (managed_answer s.managed m.caller o nothing).reply) e))
    by (op.Snap k) e w = absurd w
    by (op.Resolve k) e w = absurd w
    by op.Sweep e w = absurd (true≢false (ap (is_peer_event m.caller) (sym e) ∙ p))
    by o e w = plain o e (λ x. x)
