-- The tests of what an event asks of its own side tell what the definitions say, case by case.
use Rattle.std.proofs.Common.{◌≡◌, ℕ, Bool, true, false, not, ◌&&◌, nat_eq, List, [], ◌∷◌, ◌++◌, length, Option, Some, None, refl}
use Rattle.std.specs.List.{All, Contains, list_all}
use Rattle.joint_machine.specs.declared.names.Thread.{Thread}
use Rattle.joint_machine.specs.declared.names.Thread.TheVariants.{P, C}
use Rattle.joint_machine.specs.declared.names.Phase.{Phase}
use Rattle.joint_machine.specs.declared.names.Phase.TheVariants as at
use Rattle.joint_machine.specs.declared.names.PhaseWord.{PhaseWord}
use Rattle.joint_machine.specs.declared.lines.Act.TheVariants as act
use Rattle.joint_machine.specs.declared.events.Op.{Op}
use Rattle.joint_machine.specs.declared.events.Op.TheVariants as op
use Rattle.joint_machine.specs.Cycles.{IsOpen, IsDeadContraction, IsResolution, IsAnsweredAlive}
use Rattle.joint_machine.specs.Heaps.{numbered_at}
use Rattle.joint_machine.specs.Managed.{Managed, OpenCycle}
use Rattle.joint_machine.specs.ManagedReplay.{ManagedReplay, MayContract, AreNew, MayResolve, MayRefuse, ManagedAllows}
use Rattle.joint_machine.specs.PeerReplay.{PeerReplay, Marking, TableRow, row_of, is_thread, IsHeld, MayMirror, MayWeaken, MayRestore, MayClear, MayRelease, SliceAllows, SweepAllows, PeerAllows}
use Rattle.joint_machine.specs.Peers.{Hold, Strength, held, raw, strong, weak, is_held, is_strong}
use Rattle.joint_machine.specs.Phases.{next_phase}
use Rattle.joint_machine.specs.Told.{Told, nothing, snap_of, contraction_of, references_of, slice_of, sweep_of, resolution_of, phase_of, Answer, handles_given}
use Rattle.computed_histories.specs.Contractions.{is_contraction, dead_graph}
use Rattle.computed_histories.specs.Lists.{has, same_number, is_empty}
use Rattle.computed_histories.specs.Replies.{same_phase}
use Rattle.computed_histories.specs.Rows.{is_resolution, answered_alive}
use Rattle.computed_histories.specs.Sides.{is_open, may_contract, are_new, may_resolve, may_refuse, managed_allows, is_held_handle, may_mirror, may_weaken, may_restore, may_clear, may_release_held}
use Rattle.computed_histories.specs.Sides.{slice_allows, sweep_allows, peer_allows}
use Rattle.computed_histories.proofs.Telling.{Tells, always, never, like, isn't, and2, and3, or2, same, same_numbers, empty, that, is_false, all}
use Rattle.computed_histories.proofs.Reaching.{member}
use Rattle.computed_histories.proofs.ReplyTests.{phases}
use Rattle.computed_histories.proofs.RowTests.{snapshot, resolution, answered}
use Rattle.computed_histories.proofs.ContractionTests.{agree, dead_contraction}
use Rattle.computed_histories.proofs.MarkingTests.{closure, sweep}
use Rattle.joint_machine.proofs.HeapLemmas.{same_thread, thread_itself}

pub opened : (s : Managed) (k : ℕ) (test : OpenCycle → Bool) (Q : OpenCycle → Type 0) → ((c : OpenCycle) → Tells (test c) (Q c)) → Tells (is_open s k test) ((c : OpenCycle) × IsOpen s k c × Q c)
opened s k test Q t = like (λ p. (p.0, (p.1, p.2.0), p.2.1)) (λ p. (p.0, p.1.0, (p.1.1, p.2)))
    (that s.cycle (λ c. nat_eq c.number k && test c) (λ c. (c.number ≡ k) × Q c) (λ c. and2 (same c.number k) (t c)))

contracts : (s : ManagedReplay) (k : ℕ) (comps : List (List ℕ)) (heavy : List ℕ) (xrefs : List (ℕ × ℕ)) → Tells (may_contract s k comps heavy xrefs) (MayContract s k comps heavy xrefs)
contracts s k comps heavy xrefs = like (λ p. record { cycle = p.0.0; open_cycle = p.0.1; once = p.1; exact = p.0.2 }) (λ r. ((r.cycle, r.open_cycle, r.exact), r.once))
    (and2 (opened s.managed k (λ c. is_contraction (dead_graph s.managed c.dead) comps heavy xrefs)
    (λ c. IsDeadContraction s.managed c.dead comps heavy xrefs) (λ c. dead_contraction s.managed c.dead comps heavy xrefs)) (is_false s.contracted))

news : (taken hs : List ℕ) → Tells (are_new taken hs) (AreNew taken hs)
news taken [] = always tt
news taken (h ∷ hs) = and2 (isn't (member nat_eq same taken h)) (news (taken ++ h ∷ []) hs)

resolves : (s : ManagedReplay) (k : ℕ) (given : List Answer) (freed : List ℕ) → Tells (may_resolve s k given freed) (MayResolve s k given freed)
resolves s k given freed = like (λ p. record { cycle = p.0; open_cycle = p.1; answers = p.2.0; new = p.2.1; resolution = p.2.2 }) (λ r. (r.cycle, r.open_cycle, (r.answers, r.new, r.resolution)))
    (opened s.managed k (λ c. nat_eq (length given) (length c.candidates) && are_new s.adopted (handles_given given) && is_resolution s.managed c.dead (answered_alive c.candidates given) freed)
    (λ c. (length given ≡ length c.candidates) × AreNew s.adopted (handles_given given) × IsResolution s.managed c.dead (IsAnsweredAlive c.candidates given) freed)
    (λ c. and3 (same (length given) (length c.candidates)) (news s.adopted (handles_given given))
    (resolution s.managed c.dead (IsAnsweredAlive c.candidates given) (answered_alive c.candidates given) freed (answered c.candidates given))))

refuses : (s : ManagedReplay) (w : PhaseWord) (phase : Phase) → Tells (may_refuse s w phase) (MayRefuse s w phase)
refuses s w phase = like (λ p. record { refused = p.0; idle = p.1 }) (λ r. (r.refused, r.idle))
    (and2 (empty (next_phase phase w)) (agree (same_phase phase at.Idle) (is_empty s.managed.cycle) (phase ≡ at.Idle) (s.managed.cycle ≡ None) (phases phase at.Idle) (empty s.managed.cycle)))

pub managed : (s : ManagedReplay) (o : Op) (told : Told) → Tells (managed_allows s o told) (ManagedAllows s o told)
managed s (op.Line a) nothing = always tt
managed s (op.Adopt v kind n p h) nothing = isn't (member nat_eq same s.adopted h.0)
managed s (op.Lend v x) nothing = always tt
managed s (op.Meet v sort n p h) nothing = isn't (member nat_eq same s.adopted h.0)
managed s (op.Give v) nothing = always tt
managed s (op.Snap k) (snap_of freed candidates dead) = snapshot s.managed k.0 freed candidates dead
managed s (op.Contract k) (contraction_of comps heavy xrefs) = contracts s k.0 comps heavy xrefs
managed s (op.Resolve k) (resolution_of given freed) = resolves s k.0 given freed
managed s (op.Abandon k) nothing = like {P = (c : OpenCycle) × IsOpen s.managed k.0 c × Unit {0}}
    (λ p. (p.0, p.1)) (λ p. (p.0, p.1, tt)) (opened s.managed k.0 (λ c. true) (λ c. Unit {0}) (λ c. always tt))
managed s (op.Refused w) (phase_of phase) = refuses s w phase
managed s _ _ = never (λ z. z)

-- holds, strengths and threads
pub holds_held : (x : Hold) → Tells (is_held x) (x ≡ held)
holds_held held = always refl
holds_held raw = never (λ e. cc)

pub is_strong_now : (x : Strength) → Tells (is_strong x) (x ≡ strong)
is_strong_now strong = always refl
is_strong_now weak = never (λ e. cc)

pub threads : (a b : Thread) → Tells (is_thread a b) (a ≡ b)
threads a b = equal_thread
  where
    equal_thread : Tells (is_thread a b) (a ≡ b)
    equal_thread = record { holds = same_thread a b; passes = λ e. rw (← e) (thread_itself a) }

held_handle : (s : PeerReplay) (h : ℕ) → Tells (is_held_handle s h) (IsHeld s h)
held_handle s h = that (numbered_at s.peers.issued h) (λ i. is_held i.hold) (λ i. i.hold ≡ held) (λ i. holds_held i.hold)

mirrors : (s : PeerReplay) (k : ℕ) (cites : Option ℕ) → Tells (may_mirror s k cites) (MayMirror s k cites)
mirrors s k cites = like (λ p. record { none_stands = p.0; once = p.1; snap = p.2.0; cited = p.2.1 }) (λ r. (r.none_stands, r.once, (r.snap, r.cited, tt)))
    (and3 (empty s.mirror) (isn't (member nat_eq same s.mirrors k)) (that cites (λ n. true) (λ n. Unit {0}) (λ n. always tt)))

weakens : (s : PeerReplay) (h : ℕ) (cites : Option ℕ) → Tells (may_weaken s h cites) (MayWeaken s h cites)
weakens s h cites = like
    (λ p. record { mirror = p.0.0; stands = p.0.1; cited = p.0.2; is_held = p.1; strong_now = is_the_row p.2.0 p.2.1 p.2.2.0 p.2.2.1 })
    (λ r. ((r.mirror, r.stands, r.cited), r.is_held, (record { strength = strong; cleared = false }, r.strong_now, (refl, refl))))
    (and3 (that s.mirror (λ m. same_number cites (Some m.snap)) (λ m. cites ≡ Some m.snap) (λ m. same_numbers cites (Some m.snap))) (held_handle s h)
    (that (row_of s h) (λ r. is_strong r.strength && not r.cleared) (λ r. (r.strength ≡ strong) × (r.cleared ≡ false)) (λ r. and2 (is_strong_now r.strength) (is_false r.cleared))))
  where
    is_the_row : (r : TableRow) → row_of s h ≡ Some r → r.strength ≡ strong → r.cleared ≡ false → row_of s h ≡ Some record { strength = strong; cleared = false }
    is_the_row r e a b = rw e (λ i. Some record { strength = a i; cleared = b i })

restores : (s : PeerReplay) (h : ℕ) → Tells (may_restore s h) (MayRestore s h)
restores s h = like
    (λ p. record { mirror = p.0.0; stands = p.0.1; weakened = p.0.2.0; waiting = p.0.2.1; row = p.1.0; tabled = p.1.1 })
    (λ r. ((r.mirror, r.stands, (r.weakened, r.waiting)), (r.row, r.tabled, tt)))
    (and2 (that s.mirror (λ m. has m.weakened h && not (has m.restored h)) (λ m. Contains m.weakened h × (Contains m.restored h → ⊥))
    (λ m. and2 (member nat_eq same m.weakened h) (isn't (member nat_eq same m.restored h))))
    (that (row_of s h) (λ r. true) (λ r. Unit {0}) (λ r. always tt)))

pub clears : (s : PeerReplay) (k : ℕ) → Tells (may_clear s k) (MayClear s k)
clears s k = like (λ p. record { mirror = p.0; stands = p.1; same = p.2.0; all = p.2.1 }) (λ r. (r.mirror, r.stands, (r.same, r.all)))
    (that s.mirror (λ m. nat_eq m.cycle k && list_all (has m.restored) m.weakened) (λ m. (m.cycle ≡ k) × All (Contains m.restored) m.weakened)
    (λ m. and2 (same m.cycle k) (all m.weakened (has m.restored) (Contains m.restored) (member nat_eq same m.restored))))

releases : (s : PeerReplay) (h : ℕ) → Tells (may_release_held s h) (MayRelease s h)
releases s h = like (λ p. record { is_held = p.0; row = p.1.0; tabled = p.1.1 }) (λ r. (r.is_held, (r.row, r.tabled, tt)))
    (and2 (held_handle s h) (that (row_of s h) (λ r. true) (λ r. Unit {0}) (λ r. always tt)))

slices : (o : Option Marking) (t : Thread) (told : Told) → Tells (slice_allows o t told) (SliceAllows o t told)
slices None t nothing = always tt
slices (Some mk) t (slice_of rows) = and2 (threads t mk.by) (closure mk rows)
slices (Some mk) t nothing = isn't (threads t mk.by)
slices _ t _ = never (λ z. z)

sweeps : (s : PeerReplay) (o : Option Marking) (t : Thread) (told : Told) → Tells (sweep_allows s o t told) (SweepAllows s o t told)
sweeps s None (P n) nothing = always tt
sweeps s (Some mk) t (sweep_of freed) = and2 (or2 (threads t C) (threads t mk.by)) (sweep s mk freed)
sweeps s (Some mk) (P n) nothing = isn't (threads (P n) mk.by)
sweeps s _ _ _ = never (λ z. z)

pub peer : (s : PeerReplay) (t : Thread) (o : Op) (cites : Option ℕ) (told : Told) → Tells (peer_allows s t o cites told) (PeerAllows s t o cites told)
peer s t (op.Line (act.Slice n)) cites told = slices s.marking t told
peer s t (op.Line a) cites nothing = always tt
peer s t (op.Make sort n) cites nothing = always tt
peer s t (op.Land h x) cites nothing = always tt
peer s t (op.Grip x) cites nothing = always tt
peer s t (op.Release h) cites nothing = releases s h.0
peer s t (op.Mirror k) cites (references_of refs) = mirrors s k.0 cites
peer s t (op.Weaken h) cites nothing = weakens s h.0 cites
peer s t op.Begin cites nothing = always tt
peer s t op.Sweep cites told = sweeps s s.marking t told
peer s t (op.Restore h) cites nothing = restores s h.0
peer s t (op.Clear k) cites nothing = clears s k.0
peer s _ _ _ _ = never (λ z. z)
