-- The snap of the driver's open cycle stands in the past, and tells that cycle's candidates and dead part. The snapshot
-- opens the cycle with what is told of it, no entry but a resolve and an abandon changes the open cycle, and with these
-- the driver comes to be idle. While a cycle is mirrored it is the driver's, and the mirror cites its snap. So two
-- pasts of one run that have the mirror have the same candidates, as they are told the same of that snap.
use Rattle.known_laws.proofs.Later.{side_after, reads_leave, kept_end}
use Rattle.known_laws.proofs.Pinned.{kept_pinned}
use Rattle.known_laws.proofs.Moving.{driver_reads}
use Rattle.known_laws.specs.Known.{Comes, SideMayCome, given}
use Rattle.joint_machine.specs.Lines.{is_read, IsEvent, is_peer_event}
use Rattle.joint_machine.specs.PinsTold.{bare_told}
use Rattle.std.proofs.Common.{Bool, true, false, ◌≡◌, inl, inr, ⊎_elim, ℕ, ◌+◌, List, [], ◌∷◌, length, map, Option, Some, refl, sym, ap, ◌∙◌, subst, arith}
use Rattle.std.proofs.lemmas.Option.{same_Some}
use Rattle.joint_machine.specs.declared.names.Thread.{Thread}
use Rattle.joint_machine.specs.declared.names.Thread.TheVariants.{M, P, C}
use Rattle.joint_machine.specs.declared.events.Op.{Op}
use Rattle.joint_machine.specs.declared.events.Op.TheVariants as op
use Rattle.joint_machine.specs.declared.events.Made.{Made}
use Rattle.joint_machine.specs.declared.events.Reply.{Reply}
use Rattle.joint_machine.specs.Control.{OpenSnap, Stand, idle, snapped, contracted, weakening, marked, restoring, restored, stand_after, control_after}
use Rattle.joint_machine.specs.Linked.{Linkage, SideLawful, managed_after}
use Rattle.joint_machine.specs.ManagedReplay.{ManagedReplay}
use Rattle.joint_machine.specs.PeerReplay.{PeerReplay, Mirror}
use Rattle.joint_machine.specs.Run.{thread_number}
use Rattle.joint_machine.specs.Told.{Told, Noted, snap_of, contraction_of, phase_of, Answer}
use Rattle.joint_machine.proofs.Deciding.{none_some}
use Rattle.joint_laws.specs.LinkedInvariants.{DriverInvariant}
use Rattle.joint_laws.specs.ManagedInvariants.{ReplayInvariant}
use Rattle.joint_laws.proofs.ManagedMoves.{managed_line-goes_on}
use Rattle.known_laws.specs.Pasts.{Lawful, end_of}
use Rattle.known_laws.specs.Driving.{IsMirrorOf, MirrorFits}
use Rattle.known_laws.specs.Facts.{opened_of, HasSnap, SnapTellsCycle, NumbersAreOnce, MirrorCitesASnap}
use Rattle.known_laws.specs.Growing.{MirroredCandidatesStay, untold}
use Rattle.known_laws.proofs.Agreeing.{pasts_agree}
use Rattle.known_laws.proofs.Growing.{runs_untold, within_by}
use Rattle.joint_machine.proofs.HeapLemmas.{candidates_of-open}
use Rattle.known_laws.proofs.FrozenPasts.{goes_by}
use Rattle.known_laws.proofs.KnownPasts.{past_invariant_holds}
use Rattle.known_laws.proofs.PastsJoin.{below}

-- events that open and close no cycle
abbrev pub IsKeeping : Op → Type 0
IsKeeping (op.Snap k) = ⊥
IsKeeping (op.Resolve k) = ⊥
IsKeeping (op.Abandon k) = ⊥
IsKeeping _ = Unit {0}

pub opened_on : (st : Stand) (num : ℕ) (o : Op) (reply : Reply) (told : Told) → IsKeeping o → opened_of (stand_after st num o reply told) ≡ opened_of st
opened_on st num (op.Snap k) reply told x = absurd x
opened_on st num (op.Resolve k) reply told x = absurd x
opened_on st num (op.Abandon k) reply told x = absurd x
opened_on (snapped o) num (op.Contract k) reply (contraction_of comps heavy xrefs) x = refl
opened_on (contracted o comps heavy xrefs) num (op.Mirror k) reply told x = refl
opened_on (weakening o count a b) num (op.Weaken h) reply told x = refl
opened_on (weakening o count a b) num op.Sweep reply told x = refl
opened_on (weakening o count a b) num op.Begin reply told x = refl
opened_on (weakening o count a b) num (op.Refused r) reply told x = refl
opened_on (marked o) num op.Sweep reply told x = refl
opened_on (restoring o answers) num (op.Restore h) reply told x = refl
opened_on (restoring o answers) num (op.Clear k) reply told x = refl
opened_on st num _ reply told x = refl

-- the driver's events that keep the cycle
cycle_on : (r : ManagedReplay) (index : ℕ) (reply : Reply) (cites : Option ℕ) (o : Op) (told : Told) → ReplayInvariant r → IsKeeping o → IsEvent C o
    → (managed_after r (record { caller = C; index = index; op = o; reply = reply; cites = cites }) told (is_peer_event C o)).managed.cycle ≡ r.managed.cycle
cycle_on r index reply cites (op.Line a) told k x e = (managed_line-goes_on r.managed (thread_number C) a k.managed.places k.managed.cells).cycle
cycle_on r index reply cites (op.Snap c) told k x e = absurd x
cycle_on r index reply cites (op.Resolve c) told k x e = absurd x
cycle_on r index reply cites (op.Abandon c) told k x e = absurd x
cycle_on r index reply cites (op.Contract c) (contraction_of comps heavy xrefs) k x e = refl
cycle_on r index reply cites (op.Contract c) _ k x e = refl
cycle_on r index reply cites (op.Refused w) (phase_of p) k x e = refl
cycle_on r index reply cites (op.Refused w) _ k x e = refl
cycle_on r index reply cites (op.Adopt v kind f p h) told k x e = absurd e.0
cycle_on r index reply cites (op.Lend v y) told k x e = absurd e.0
cycle_on r index reply cites (op.Meet v sort f p h) told k x e = absurd e.0
cycle_on r index reply cites (op.Give v) told k x e = absurd e.0
cycle_on r index reply cites _ told k x e = refl

-- the same open cycle with one entry more
later : (x : Noted) (h : List Noted) (o : OpenSnap) → (end_of (x ∷ h)).managed.managed.cycle ≡ (end_of h).managed.managed.cycle → HasSnap h o → HasSnap (x ∷ h) o
later x h o e s = record { cycle = s.cycle; open_cycle = e ∙ s.open_cycle; freed = s.freed; entry = s.entry; there = inr s.there; number = s.number; event = s.event; tells = s.tells }

-- where the driver stands, it stays by another's entry
stood_else : (s : Linkage) (x : Noted) (t : Thread) (o : Op) (told : Told) → x.entry.made.caller ≡ t → (t ≡ C → ⊥)
    → (control_after s.control x.entry.made.caller x.entry.number x.entry.made.index x.entry.made.op x.entry.made.reply told).stand ≡ s.control.stand
stood_else s x t o told e n = subst (λ z. (control_after s.control z x.entry.number x.entry.made.index x.entry.made.op x.entry.made.reply told).stand ≡ s.control.stand) (sym e) (by t n)
  where
    by : (t : Thread) → (t ≡ C → ⊥) → (control_after s.control t x.entry.number x.entry.made.index x.entry.made.op x.entry.made.reply told).stand ≡ s.control.stand
    by (M u) n = refl
    by (P u) n = refl
    by C n = absurd (n refl)

step : (x : Noted) (h : List Noted) → Lawful (x ∷ h) → ((o : OpenSnap) → opened_of (end_of h).control.stand ≡ Some o → HasSnap h o)
    → (o : OpenSnap) → opened_of (end_of (x ∷ h)).control.stand ≡ Some o → HasSnap (x ∷ h) o
step x h l b = either (is_read x.entry.made.op) refl l.0.comes
  where
    s0 : Linkage
    s0 = given (end_of h) x.told

    made : Thread → Op → Made
    made t o = record { caller = t; index = x.entry.made.index; op = o; reply = x.entry.made.reply; cites = x.entry.made.cites }

    R : Thread → Op → Told → ManagedReplay
    R t o told = managed_after s0.managed (made t o) told (is_peer_event t o)

    Stood : Thread → Op → Told → OpenSnap → Type 0
    Stood t o told w = opened_of (control_after (end_of h).control t x.entry.number x.entry.made.index o x.entry.made.reply told).stand ≡ Some w

    stood_is : (t : Thread) (o : Op) (told : Told) (w : OpenSnap) → x.entry.made.caller ≡ t → x.entry.made.op ≡ o
        → bare_told x.told ≡ told → opened_of (end_of (x ∷ h)).control.stand ≡ Some w → Stood t o told w
    stood_is t o told w e f g q = subst (λ z. z ≡ Some w) (λ i. opened_of (control_after (end_of h).control (e i) x.entry.number x.entry.made.index (f i) x.entry.made.reply (g i)).stand) q

    -- an entry of a side's list
    module_side : is_read x.entry.made.op ≡ false → SideMayCome (end_of h) x → (w : OpenSnap) → opened_of (end_of (x ∷ h)).control.stand ≡ Some w → HasSnap (x ∷ h) w
    module_side r c = by x.entry.made.caller x.entry.made.op (bare_told x.told) refl refl refl c.comes.event c.comes.lawful
      where
        k0 : ReplayInvariant s0.managed
        k0 = (kept_pinned (end_of h) _ c.stand (kept_end h l.1)).managed

        -- the end of the past, by what the entry is
        cycle_is : (t : Thread) (o : Op) (told : Told) → x.entry.made.caller ≡ t → x.entry.made.op ≡ o → bare_told x.told ≡ told → (end_of (x ∷ h)).managed.managed.cycle ≡ (R t o told).managed.cycle
        cycle_is t o told e f g = ap (λ (z : Linkage). z.managed.managed.cycle) (side_after (end_of h) x r).same ∙ (λ i. (R (e i) (f i) (g i)).managed.cycle)

        others : (t : Thread) (o : Op) (told : Told) → x.entry.made.caller ≡ t → x.entry.made.op ≡ o → bare_told x.told ≡ told → (t ≡ C → ⊥) → IsEvent t o
            → SideLawful (is_peer_event t o) s0 (made t o) told → (w : OpenSnap) → opened_of (end_of h).control.stand ≡ Some w → HasSnap (x ∷ h) w
        others t o told e f g n v s w q = later x h w (cycle_is t o told e f g ∙ (goes_by s0.managed (made t o) told (is_peer_event t o) s0 refl n v k0 s).cycle) (b w q)

        by : (t : Thread) (o : Op) (told : Told) → x.entry.made.caller ≡ t → x.entry.made.op ≡ o → bare_told x.told ≡ told → IsEvent t o
            → SideLawful (is_peer_event t o) s0 (made t o) told → (w : OpenSnap) → opened_of (end_of (x ∷ h)).control.stand ≡ Some w → HasSnap (x ∷ h) w
        by (M u) o told e f g v s w q = others (M u) o told e f g (λ z. cc) v s w (stood_is (M u) o told w e f g q)
        by (P u) o told e f g v s w q = others (P u) o told e f g (λ z. cc) v s w (stood_is (P u) o told w e f g q)
        by C (op.Snap k) (snap_of freed candidates dead) e f g v s w q =
            let same : record { cycle = k.0; snap = x.entry.number } ≡ w = same_Some _ _ (stood_is C (op.Snap k) (snap_of freed candidates dead) w e f g q) in
            record {
              cycle = record { number = (end_of h).managed.managed.cycles + 1; candidates = candidates; dead = dead };
              open_cycle = cycle_is C (op.Snap k) (snap_of freed candidates dead) e f g;
              freed = freed;
              entry = x;
              there = inl refl;
              number = ap (λ (z : OpenSnap). z.snap) same;
              event = f ∙ ap (λ (z : OpenSnap). op.Snap record { 0 = z.cycle }) same;
              tells = g;
            }
        by C (op.Snap k) told e f g v s w q = absurd s.allowed
        by C (op.Resolve k) told e f g v s w q = absurd (none_some w (stood_is C (op.Resolve k) told w e f g q))
        by C (op.Abandon k) told e f g v s w q = absurd (none_some w (stood_is C (op.Abandon k) told w e f g q))
        by C o told e f g v s w q = later x h w (cycle_is C o told e f g ∙ cycle_on s0.managed x.entry.made.index x.entry.made.reply x.entry.made.cites o told k0 tt v)
            (b w (sym (opened_on (end_of h).control.stand x.entry.number o x.entry.made.reply told tt) ∙ stood_is C o told w e f g q))

    either : (r : Bool) → is_read x.entry.made.op ≡ r → Comes r (end_of h) x → (w : OpenSnap) → opened_of (end_of (x ∷ h)).control.stand ≡ Some w → HasSnap (x ∷ h) w
    either true e c w q = later x h w (ap (λ (z : ManagedReplay). z.managed.cycle) (reads_leave (end_of h).managed x e)) (b w (sym (ap opened_of (reader_stands x.entry.made.caller refl)) ∙ q))
      where
        reader_stands : (t : Thread) → x.entry.made.caller ≡ t → (end_of (x ∷ h)).control.stand ≡ (end_of h).control.stand
        reader_stands C f = absurd (driver_reads x.entry.made.op (subst (λ z. IsEvent z x.entry.made.op) f c.event) e)
        reader_stands (M u) f = stood_else (end_of h) x (M u) x.entry.made.op (bare_told x.told) f (λ z. cc)
        reader_stands (P u) f = stood_else (end_of h) x (P u) x.entry.made.op (bare_told x.told) f (λ z. cc)
    either false e c w q = module_side e c w q

pub snap_tells_cycle : SnapTellsCycle
snap_tells_cycle [] l o q = absurd (none_some o q)
snap_tells_cycle (x ∷ h) l o q = step x h l (snap_tells_cycle h l.1) o q

pub numbers_are_once : NumbersAreOnce
numbers_are_once [] l x y p q e = absurd p
numbers_are_once (z ∷ h) l x y p q e = ⊎_elim
    (λ (a : z ≡ x). ⊎_elim
    (λ (b : z ≡ y). sym a ∙ b)
    (λ b. let n = below z h y l.0 l.1 b in let m = ap (λ (w : Noted). w.entry.number) a in absurd (omega (arith, n, m, e))) q)
    (λ a. ⊎_elim
    (λ (b : z ≡ y). let n = below z h x l.0 l.1 a in let m = ap (λ (w : Noted). w.entry.number) b in absurd (omega (arith, n, m, e)))
    (λ b. numbers_are_once h l.1 x y a b e) q)
    p

opened_by : (r : ManagedReplay) (s : PeerReplay) (o : OpenSnap) (a : ℕ) (b : List Answer) (m : Mirror)
    → IsMirrorOf r s o a b → s.mirror ≡ Some m → Some o ≡ Some record { cycle = m.cycle; snap = m.snap }
opened_by r s o a b m f e =
    let same : f.mirror ≡ m = same_Some _ _ (sym f.stands ∙ e) in
    let c : o.cycle ≡ m.cycle = sym f.cycle ∙ ap (λ (z : Mirror). z.cycle) same in
    let n : o.snap ≡ m.snap = sym f.snap ∙ ap (λ (z : Mirror). z.snap) same in
    λ i. Some record { cycle = c i; snap = n i }

-- while a mirror stands it is that of the driver's cycle
mirror-opened : (r : ManagedReplay) (s : PeerReplay) (st : Stand) (m : Mirror) → DriverInvariant r s st
    → MirrorFits r s st → s.mirror ≡ Some m → opened_of st ≡ Some record { cycle = m.cycle; snap = m.snap }
mirror-opened r s idle m d f e = absurd (none_some m (sym d.none ∙ e))
mirror-opened r s (snapped o) m d f e = absurd (none_some m (sym d.none ∙ e))
mirror-opened r s (contracted o comps heavy xrefs) m d f e = absurd (none_some m (sym d.before.none ∙ e))
mirror-opened r s (weakening o count x y) m d f e = opened_by r s o count [] m f e
mirror-opened r s (marked o) m d f e = opened_by r s o _ [] m f e
mirror-opened r s (restoring o answers) m d f e = opened_by r s o _ answers m f e
mirror-opened r s (restored o answers clear) m d f e = absurd (none_some m (sym d.none ∙ e))

pub mirror_cites_a_snap : MirrorCitesASnap
mirror_cites_a_snap h l m e = let k = past_invariant_holds h l in snap_tells_cycle h l _ (mirror-opened (end_of h).managed (end_of h).peer (end_of h).control.stand m k.kept.driver k.mirror e)

told-candidates : (f c d g e k : List ℕ) → snap_of f c d ≡ snap_of g e k → c ≡ e
told-candidates f c d g e k q = cc

pub mirrored_candidates_stay : MirroredCandidatesStay
mirrored_candidates_stay whole ls ms a b numbered wa wb m n e f same =
    let x = mirror_cites_a_snap a.past a.lawful m e in
    let y = mirror_cites_a_snap b.past b.lawful n f in
    let one : x.entry ≡ y.entry = pasts_agree (map untold whole) a.past b.past (runs_untold 0 whole numbered) a.lawful b.lawful
    (within_by whole ls a wa) (within_by whole ms b wb) x.entry y.entry x.there y.there (x.number ∙ (same ∙ sym y.number)) in
    let c = told-candidates x.freed x.cycle.candidates x.cycle.dead y.freed y.cycle.candidates y.cycle.dead (sym x.tells ∙ (ap (λ (z : Noted). bare_told z.told) one ∙ y.tells)) in
    candidates_of-open (end_of a.past).managed.managed x.cycle x.open_cycle ∙ (c ∙ sym (candidates_of-open (end_of b.past).managed.managed y.cycle y.open_cycle))
