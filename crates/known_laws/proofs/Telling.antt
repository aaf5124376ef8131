-- What is told of an entry is one. Rising lists with one meaning are one, so what a snap, a sweep, a slice and a
-- resolve tell is one; a contraction is one; and a mirror's references are those of the driver's contraction. A
-- refusal's reply has its phase, but that of `cycle` and `snap`; there the phase is the driver's, and where that may be
-- the mirrored or the weakened one it is told plainly. And it can be: where the weakened phase wasn't seen the mirrored
-- one may be told in its place.
use Rattle.std.proofs.Common.{◌≡◌, ◌⊎◌, inl, inr, ⊎_elim, ℕ, zero, suc, Bool, true, false, List, length, Option, Some, None, refl, sym, ap, ◌∙◌, subst}
use Rattle.std.specs.Prelude.{Contains, ◌↔◌}
use Rattle.std.proofs.lemmas.Option.{same_Some}
use Rattle.joint_machine.specs.declared.names.Thread.{Thread}
use Rattle.joint_machine.specs.declared.names.Thread.TheVariants.{M, P, C}
use Rattle.joint_machine.specs.declared.lines.Act.{Act}
use Rattle.joint_machine.specs.declared.lines.Act.TheVariants as act
use Rattle.joint_machine.specs.declared.names.Cycle.{Cycle}
use Rattle.joint_machine.specs.declared.events.Op.{Op}
use Rattle.joint_machine.specs.declared.events.Op.TheVariants as op
use Rattle.joint_machine.specs.declared.events.Reply.{Reply}
use Rattle.joint_machine.specs.declared.events.Reply.TheVariants as says
use Rattle.joint_machine.specs.declared.names.Phase.{Phase}
use Rattle.joint_machine.specs.declared.names.Phase.TheVariants as at
use Rattle.joint_machine.specs.declared.names.PhaseWord.{PhaseWord}
use Rattle.joint_machine.specs.declared.names.PhaseWord.TheVariants as word
use Rattle.joint_machine.specs.declared.events.Entry.{Entry}
use Rattle.joint_machine.specs.Components.{Rises, End}
use Rattle.joint_machine.specs.Control.{Stand, idle, snapped, contracted, weakening, marked, restoring, restored, CallerAllows, IsPhaseOf, DriverAllows}
use Rattle.joint_machine.specs.Lines.{IsEvent, is_peer_event}
use Rattle.joint_machine.specs.Linked.{Linkage, MayCome, SideLawful}
use Rattle.joint_machine.specs.Cycles.{IsDeadContraction, IsAnsweredAlive}
use Rattle.joint_machine.specs.Walks.{Reaches}
use Rattle.joint_machine.specs.Managed.{Managed, OpenCycle, ManagedEdge, candidates_of}
use Rattle.joint_machine.specs.ManagedReplay.{ManagedReplay, ManagedAllows, MayResolve, MayRefuse, refusal_to}
use Rattle.joint_machine.specs.Peers.{Issued}
use Rattle.joint_machine.specs.PeerReplay.{PeerReplay, Marking, PeerAllows, SliceAllows, SweepAllows}
use Rattle.joint_machine.specs.Told.{Told, nothing, snap_of, contraction_of, references_of, slice_of, sweep_of, resolution_of, phase_of, Answer}
use Rattle.joint_machine.proofs.Deciding.{true-false}
use Rattle.joint_machine.proofs.Members.{Rises-one}
use Rattle.known_laws.specs.PastEntries.{IsSeen, TellsPlainly}
use Rattle.known_laws.specs.Telling.{IsOneContraction, MayBeTold, ToldIsOne, PlainMayBeTold}
use Rattle.known_laws.proofs.OneContraction.{is_one_contraction}

-- two rising lists with one meaning are one
one : (xs ys : List ℕ) (Q : ℕ → Type 0) → Rises xs → Rises ys → ((m : ℕ) → Contains xs m ↔ Q m) → ((m : ℕ) → Contains ys m ↔ Q m) → xs ≡ ys
one xs ys Q r s f g = Rises-one xs ys r s (λ m c. (g m).1 ((f m).0 c)) (λ m c. (f m).1 ((g m).0 c))

-- the event is no refusal
abbrev pub IsTelling : Op → Type 0
IsTelling (op.Refused w) = ⊥
IsTelling _ = Unit {0}

pub managed_told : IsOneContraction → (m : ManagedReplay) (o : Op) (t u : Told) → IsTelling o → ManagedAllows m o t → ManagedAllows m o u
    → ((k : Cycle) (alive alive' : List Answer) (freed freed' : List ℕ) → o ≡ op.Resolve k → t ≡ resolution_of alive freed → u ≡ resolution_of alive' freed' → alive ≡ alive') → t ≡ u
managed_told cu m (op.Line a) nothing nothing n w v r = refl
managed_told cu m (op.Line a) nothing _ n w v r = absurd v
managed_told cu m (op.Line a) _ u n w v r = absurd w
managed_told cu m (op.Adopt x kind f p h) nothing nothing n w v r = refl
managed_told cu m (op.Adopt x kind f p h) nothing _ n w v r = absurd v
managed_told cu m (op.Adopt x kind f p h) _ u n w v r = absurd w
managed_told cu m (op.Lend x y) nothing nothing n w v r = refl
managed_told cu m (op.Lend x y) nothing _ n w v r = absurd v
managed_told cu m (op.Lend x y) _ u n w v r = absurd w
managed_told cu m (op.Meet x sort f p h) nothing nothing n w v r = refl
managed_told cu m (op.Meet x sort f p h) nothing _ n w v r = absurd v
managed_told cu m (op.Meet x sort f p h) _ u n w v r = absurd w
managed_told cu m (op.Give x) nothing nothing n w v r = refl
managed_told cu m (op.Give x) nothing _ n w v r = absurd v
managed_told cu m (op.Give x) _ u n w v r = absurd w
managed_told cu m (op.Abandon k) nothing nothing n w v r = refl
managed_told cu m (op.Abandon k) nothing _ n w v r = absurd v
managed_told cu m (op.Abandon k) _ u n w v r = absurd w
managed_told cu m (op.Snap k) (snap_of f c d) (snap_of f' c' d') n w v r =
    let a = one f f' _ w.freed_rise v.freed_rise w.frees v.frees in
    let b = one c c' _ w.candidates_rise v.candidates_rise w.picks v.picks in
    let e = Rises-one d d' w.dead_rise v.dead_rise
    (λ m x. let y = (w.leaves m).0 x in (v.leaves m).1 (y.0, y.1, λ z. y.2 (subst (λ l. Contains l m) (sym a) z)))
    (λ m x. let y = (v.leaves m).0 x in (w.leaves m).1 (y.0, y.1, λ z. y.2 (subst (λ l. Contains l m) a z))) in
    λ i. snap_of (a i) (b i) (e i)
managed_told cu m (op.Snap k) (snap_of f c d) _ n w v r = absurd v
managed_told cu m (op.Snap k) _ u n w v r = absurd w
managed_told cu m (op.Contract k) (contraction_of cs hs xs) (contraction_of ds is ys) n w v r =
    let c : w.cycle ≡ v.cycle = same_Some _ _ (sym w.open_cycle.0 ∙ v.open_cycle.0) in
    let e = cu m.managed w.cycle.dead cs ds hs is xs ys w.exact (subst (λ (z : OpenCycle). IsDeadContraction m.managed z.dead ds is ys) (sym c) v.exact) in
    λ i. contraction_of (e.0 i) (e.1 i) (e.2 i)
managed_told cu m (op.Contract k) (contraction_of cs hs xs) _ n w v r = absurd v
managed_told cu m (op.Contract k) _ u n w v r = absurd w
managed_told cu m (op.Resolve k) (resolution_of alive freed) (resolution_of alive' freed') n w v r = resolves (r k alive alive' freed freed' refl refl refl) v
  where
    resolves : alive ≡ alive' → ManagedAllows m (op.Resolve k) (resolution_of alive' freed') → resolution_of alive freed ≡ resolution_of alive' freed'
    resolves e v =
        let v' : MayResolve m k.0 alive freed' = subst (λ z. MayResolve m k.0 z freed') (sym e) v in
        let c : w.cycle ≡ v'.cycle = same_Some _ _ (sym w.open_cycle.0 ∙ v'.open_cycle.0) in
        let f = one freed freed' _ w.resolution.rise v'.resolution.rise w.resolution.frees
        (subst (λ (z : OpenCycle). (x : ℕ) → Contains freed' x ↔ (Contains z.dead x × (((y : ℕ) × IsAnsweredAlive z.candidates alive y × Reaches (ManagedEdge m.managed) y x) → ⊥)))
        (sym c) v'.resolution.frees) in
        λ i. resolution_of (e i) (f i)
managed_told cu m (op.Resolve k) (resolution_of alive freed) _ n w v r = absurd v
managed_told cu m (op.Resolve k) _ u n w v r = absurd w
managed_told cu m (op.Refused x) t u n w v r = absurd n
managed_told cu m _ t u n w v r = absurd w

slice_told : (mk : Option Marking) (t : Thread) (a b : Told) → SliceAllows mk t a → SliceAllows mk t b → a ≡ b
slice_told None t nothing nothing w v = refl
slice_told None t nothing _ w v = absurd v
slice_told None t _ b w v = absurd w
slice_told (Some mk) t (slice_of c) (slice_of d) w v = ap slice_of (one c d _ w.1.rise v.1.rise w.1.exact v.1.exact)
slice_told (Some mk) t (slice_of c) nothing w v = absurd (v w.0)
slice_told (Some mk) t (slice_of c) _ w v = absurd v
slice_told (Some mk) t nothing (slice_of c) w v = absurd (w v.0)
slice_told (Some mk) t nothing nothing w v = refl
slice_told (Some mk) t nothing _ w v = absurd v
slice_told (Some mk) t _ b w v = absurd w

sweep_told : (s : PeerReplay) (mk : Option Marking) (t : Thread) (a b : Told) → SweepAllows s mk t a → SweepAllows s mk t b → a ≡ b
sweep_told s None (P n) nothing nothing w v = refl
sweep_told s None (P n) nothing _ w v = absurd v
sweep_told s None (P n) _ b w v = absurd w
sweep_told s None (M n) a b w v = absurd w
sweep_told s None C a b w v = absurd w
sweep_told s (Some mk) t (sweep_of c) (sweep_of d) w v = ap sweep_of (one c d _ w.1.rise v.1.rise w.1.exact v.1.exact)
sweep_told s (Some mk) (P n) (sweep_of c) nothing w v = ⊎_elim (λ e. absurd (cc)) (λ e. absurd (v e)) w.0
sweep_told s (Some mk) (P n) (sweep_of c) _ w v = absurd v
sweep_told s (Some mk) (P n) nothing (sweep_of c) w v = ⊎_elim (λ e. absurd (cc)) (λ e. absurd (w e)) v.0
sweep_told s (Some mk) (P n) nothing nothing w v = refl
sweep_told s (Some mk) (P n) nothing _ w v = absurd v
sweep_told s (Some mk) (P n) _ b w v = absurd w
sweep_told s (Some mk) (M n) (sweep_of c) _ w v = absurd v
sweep_told s (Some mk) (M n) _ b w v = absurd w
sweep_told s (Some mk) C (sweep_of c) _ w v = absurd v
sweep_told s (Some mk) C _ b w v = absurd w

line_told : (s : PeerReplay) (t : Thread) (x : Act) (cites : Option ℕ) (a b : Told) → PeerAllows s t (op.Line x) cites a → PeerAllows s t (op.Line x) cites b → a ≡ b
line_told s t (act.Slice n) cites a b w v = slice_told s.marking t a b w v
line_told s t x cites nothing nothing w v = refl
line_told s t x cites nothing _ w v = absurd v
line_told s t x cites _ b w v = absurd w

pub peer_told : (s : PeerReplay) (t : Thread) (o : Op) (cites : Option ℕ) (a b : Told) → PeerAllows s t o cites a → PeerAllows s t o cites b
    → ((k : Cycle) (xs ys : List (End × End)) → o ≡ op.Mirror k → a ≡ references_of xs → b ≡ references_of ys → xs ≡ ys) → a ≡ b
peer_told s t (op.Line x) cites a b w v r = line_told s t x cites a b w v
peer_told s t op.Sweep cites a b w v r = sweep_told s s.marking t a b w v
peer_told s t (op.Mirror k) cites (references_of xs) (references_of ys) w v r = ap references_of (r k xs ys refl refl refl)
peer_told s t (op.Mirror k) cites (references_of xs) _ w v r = absurd v
peer_told s t (op.Mirror k) cites _ b w v r = absurd w
peer_told s t o cites nothing nothing w v r = refl
peer_told s t o cites nothing _ w v r = absurd v
peer_told s t o cites _ b w v r = absurd w

pub mirrors : (st : Stand) (m : Managed) (i : List Issued) (k : Cycle) (r r' : Reply) (cites : Option ℕ) (xs ys : List (End × End))
    → DriverAllows st m i (op.Mirror k) r cites (references_of xs) → DriverAllows st m i (op.Mirror k) r' cites (references_of ys) → xs ≡ ys
mirrors (contracted o comps heavy xrefs) m i k r r' cites xs ys w v = w.2 ∙ sym v.2
mirrors _ m i k r r' cites xs ys w v = absurd w

pub resolves_alike : (st : Stand) (m : Managed) (i : List Issued) (k : Cycle) (r r' : Reply) (cites : Option ℕ) (x y : List Answer) (f g : List ℕ)
    → DriverAllows st m i (op.Resolve k) r cites (resolution_of x f) → DriverAllows st m i (op.Resolve k) r' cites (resolution_of y g) → x ≡ y
resolves_alike (restored o answers clear) m i k r r' cites x y f g w v = w.2 ∙ sym v.2
resolves_alike _ m i k r r' cites x y f g w v = absurd w

telling_is_one : IsOneContraction → (s : Linkage) (e : Entry) (t u : Told) → IsTelling e.made.op → MayCome s (record { entry = e; told = t }) → MayCome s (record { entry = e; told = u }) → t ≡ u
telling_is_one cu s e t u n a b = by (is_peer_event e.made.caller e.made.op) a.lawful b.lawful
  where
    Allowed : Thread → Op → Told → Type 0
    Allowed c o z = CallerAllows s.control s.managed.managed s.peer.peers.issued c e.made.index o e.made.reply e.made.cites z

    refs : (c : Thread) (k : Cycle) (xs ys : List (End × End)) → IsEvent c (op.Mirror k) → Allowed c (op.Mirror k) (references_of xs) → Allowed c (op.Mirror k) (references_of ys) → xs ≡ ys
    refs C k xs ys v w x = mirrors s.control.stand s.managed.managed s.peer.peers.issued k e.made.reply e.made.reply e.made.cites xs ys w x
    refs (M z) k xs ys v w x = absurd v
    refs (P z) k xs ys v w x = absurd v

    answers : (c : Thread) (k : Cycle) (x y : List Answer) (f g : List ℕ) → IsEvent c (op.Resolve k)
        → Allowed c (op.Resolve k) (resolution_of x f) → Allowed c (op.Resolve k) (resolution_of y g) → x ≡ y
    answers C k x y f g v w z = resolves_alike s.control.stand s.managed.managed s.peer.peers.issued k e.made.reply e.made.reply e.made.cites x y f g w z
    answers (M j) k x y f g v w z = absurd v
    answers (P j) k x y f g v w z = absurd v

    by : (c : Bool) → SideLawful c s e.made t → SideLawful c s e.made u → t ≡ u
    by true w v = peer_told s.peer e.made.caller e.made.op e.made.cites t u w.allowed v.allowed
        (λ k xs ys o p q. refs e.made.caller k xs ys (subst (IsEvent e.made.caller) o a.event)
        (subst (λ (z : Op × Told). Allowed e.made.caller z.0 z.1) (λ i. (o i, p i)) a.order) (subst (λ (z : Op × Told). Allowed e.made.caller z.0 z.1) (λ i. (o i, q i)) b.order))
    by false w v = managed_told cu s.managed e.made.op t u n w.allowed v.allowed
        (λ k x y f g o p q. answers e.made.caller k x y f g (subst (IsEvent e.made.caller) o a.event)
        (subst (λ (z : Op × Told). Allowed e.made.caller z.0 z.1) (λ i. (o i, p i)) a.order) (subst (λ (z : Op × Told). Allowed e.made.caller z.0 z.1) (λ i. (o i, q i)) b.order))

-- a refusal tells the driver's phase: the reply has it, but for `cycle` and `snap`, which are told plainly
pub phases : (stand : Stand) (c : ℕ) (p q : Phase) → IsPhaseOf stand c p → IsPhaseOf stand c q → (p ≡ at.Weakened → IsSeen stand) → (q ≡ at.Weakened → IsSeen stand) → p ≡ q
phases (weakening o count weakened swept) c p q a b x y = ⊎_elim
    (λ u. ⊎_elim
    (λ v. u.0 ∙ sym v.0)
    (λ v. absurd (true-false weakened (y v.0 u.1) u.2))
    b.1)
    (λ u. ⊎_elim
    (λ v. absurd (true-false weakened (x u.0 v.1) v.2))
    (λ v. u.0 ∙ sym v.0)
    b.1)
    a.1
phases idle c p q a b x y = a ∙ sym b
phases (snapped o) c p q a b x y = a ∙ sym b
phases (contracted o comps heavy xrefs) c p q a b x y = a ∙ sym b
phases (marked o) c p q a b x y = a ∙ sym b
phases (restoring o answers) c p q a b x y = a.1 ∙ sym b.1
phases (restored o answers clear) c p q a b x y = a ∙ sym b

at-same : (p q : Phase) (r : Reply) → r ≡ says.At p → r ≡ says.At q → p ≡ q
at-same p q r e f = let w : says.At p ≡ says.At q = sym e ∙ f in cc

pub seen-cycle : (stand : Stand) (p : Phase) → TellsPlainly stand (op.Refused word.Cycle) (phase_of p) → p ≡ at.Weakened → IsSeen stand
seen-cycle stand p w e = subst (λ z. TellsPlainly stand (op.Refused word.Cycle) (phase_of z)) e w

pub seen-snap : (stand : Stand) (p : Phase) → TellsPlainly stand (op.Refused word.Snap) (phase_of p) → p ≡ at.Weakened → IsSeen stand
seen-snap stand p w e = subst (λ z. TellsPlainly stand (op.Refused word.Snap) (phase_of z)) e w

refusals : (s : ManagedReplay) (stand : Stand) (c : ℕ) (w : PhaseWord) (r : Reply) (p q : Phase)
    → IsPhaseOf stand c p → IsPhaseOf stand c q → r ≡ refusal_to s.managed p w → r ≡ refusal_to s.managed q w
    → TellsPlainly stand (op.Refused w) (phase_of p) → TellsPlainly stand (op.Refused w) (phase_of q) → p ≡ q
refusals s stand c word.Cycle r p q a b e f x y = phases stand c p q a b (seen-cycle stand p x) (seen-cycle stand q y)
refusals s stand c word.Snap r p q a b e f x y = phases stand c p q a b (seen-snap stand p x) (seen-snap stand q y)
refusals s stand c word.Contract r p q a b e f x y = at-same p q r e f
refusals s stand c word.Mirror r p q a b e f x y = at-same p q r e f
refusals s stand c word.Weaken r p q a b e f x y = at-same p q r e f
refusals s stand c word.Mark r p q a b e f x y = at-same p q r e f
refusals s stand c word.Sweep r p q a b e f x y = at-same p q r e f
refusals s stand c word.Restore r p q a b e f x y = at-same p q r e f
refusals s stand c word.Resolve r p q a b e f x y = at-same p q r e f

pub told_is_one : ToldIsOne
told_is_one s e t u a b = by e.made.caller e.made.op a b
  where
    entry : Thread → Op → Entry
    entry c o = record { number = e.number; made = record { caller = c; index = e.made.index; op = o; reply = e.made.reply; cites = e.made.cites } }

    refused : (w : PhaseWord) (t u : Told) → MayBeTold s (entry C (op.Refused w)) t → MayBeTold s (entry C (op.Refused w)) u → t ≡ u
    refused w (phase_of p) (phase_of q) a b = ap phase_of (refusals s.managed s.control.stand
        (length (candidates_of s.managed.managed)) w e.made.reply p q a.0.order.0 b.0.order.0 a.0.lawful.replies b.0.lawful.replies a.1 b.1)
    refused w (phase_of p) _ a b = absurd b.0.lawful.allowed
    refused w _ u a b = absurd a.0.lawful.allowed

    by : (c : Thread) (o : Op) → MayBeTold s (entry c o) t → MayBeTold s (entry c o) u → t ≡ u
    by C (op.Refused w) a b = refused w t u a b
    by (M n) (op.Refused w) a b = absurd a.0.event
    by (P n) (op.Refused w) a b = absurd a.0.event
    by c o a b = telling_is_one is_one_contraction s (entry c o) t u tt a.0 b.0

pub plainly_by : (stand : Stand) (w : PhaseWord) (p : Phase) → (p ≡ at.Weakened → IsSeen stand) → TellsPlainly stand (op.Refused w) (phase_of p)
plainly_by stand word.Cycle at.Weakened f = f refl
plainly_by stand word.Snap at.Weakened f = f refl
plainly_by stand word.Cycle _ f = tt
plainly_by stand word.Snap _ f = tt
plainly_by stand _ p f = tt

-- where it isn't seen that the phase is the weakened one, the mirrored one may be told
pub retold : (s : ManagedReplay) (stand : Stand) (c : ℕ) (w : PhaseWord) (p : Phase) → IsPhaseOf stand c p → MayRefuse s w p → TellsPlainly stand (op.Refused w) (phase_of p)
    ⊎ (IsPhaseOf stand c at.Mirrored × MayRefuse s w at.Mirrored × (refusal_to s.managed p w ≡ refusal_to s.managed at.Mirrored w))
retold s (weakening o zero false swept) c w at.Weakened a m = by w m
  where
    mirrored : IsPhaseOf (weakening o zero false swept) c at.Mirrored
    mirrored = (a.0, inl (refl, refl, refl))

    idle_still : ((at.Weakened ≡ at.Idle) ↔ (s.managed.cycle ≡ None)) → (at.Mirrored ≡ at.Idle) ↔ (s.managed.cycle ≡ None)
    idle_still e = ((λ z. absurd (cc)), λ z. absurd (let f = e.1 z in cc))

    by : (w : PhaseWord) → MayRefuse s w at.Weakened → TellsPlainly (weakening o zero false swept) (op.Refused w) (phase_of at.Weakened)
        ⊎ (IsPhaseOf (weakening o zero false swept) c at.Mirrored × MayRefuse s w at.Mirrored × (refusal_to s.managed at.Weakened w ≡ refusal_to s.managed at.Mirrored w))
    by word.Cycle m = inr (mirrored, record { refused = refl; idle = idle_still m.idle }, refl)
    by word.Snap m = inr (mirrored, record { refused = refl; idle = idle_still m.idle }, refl)
    by _ m = inl tt
retold s (weakening o zero true swept) c w p a m = inl (plainly_by (weakening o zero true swept) w p (λ e x. refl))
retold s (weakening o (suc n) seen swept) c w p a m = inl (plainly_by (weakening o (suc n) seen swept) w p (λ e x. absurd (cc)))
retold s idle c w p a m = inl (plainly_by idle w p (λ e. tt))
retold s (snapped o) c w p a m = inl (plainly_by (snapped o) w p (λ e. tt))
retold s (contracted o comps heavy xrefs) c w p a m = inl (plainly_by (contracted o comps heavy xrefs) w p (λ e. tt))
retold s (marked o) c w p a m = inl (plainly_by (marked o) w p (λ e. tt))
retold s (restoring o answers) c w p a m = inl (plainly_by (restoring o answers) w p (λ e. tt))
retold s (restored o answers clear) c w p a m = inl (plainly_by (restored o answers clear) w p (λ e. tt))
retold s stand c w p a m = inl (plainly_by stand w p (λ e. absurd (cc)))

pub plain_may_be_told : PlainMayBeTold
plain_may_be_told s n a = by n.entry.made.caller n.entry.made.op n.told a
  where
    entry : Thread → Op → Entry
    entry c o = record { number = n.entry.number; made = record { caller = c; index = n.entry.made.index; op = o; reply = n.entry.made.reply; cites = n.entry.made.cites } }

    by : (c : Thread) (o : Op) (t : Told) → MayCome s (record { entry = entry c o; told = t }) → (t : Told) × MayBeTold s (entry c o) t
    by C (op.Refused w) (phase_of p) a = ⊎_elim
        (λ plain. (phase_of p, (a, plain)))
        (λ z. (
          phase_of at.Mirrored,
          (
            record { event = a.event; line = a.line; short = a.short; lawful = record { allowed = z.1; replies = a.lawful.replies ∙ z.2 }; order = (z.0, a.order.1) },
            plainly_by s.control.stand w at.Mirrored (λ e. absurd (cc)),
          ),
        ))
        (retold s.managed s.control.stand (length (candidates_of s.managed.managed)) w p a.order.0 a.lawful.allowed)
    by (M u) (op.Refused w) t a = absurd a.event
    by (P u) (op.Refused w) t a = absurd a.event
    by C (op.Refused w) t a = absurd a.lawful.allowed
    by c o t a = (t, (a, tt))
