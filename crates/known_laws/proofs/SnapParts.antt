-- The dead part of the driver's open cycle is that of the state just after its snap, since no entry behind the snap
-- that leaves the cycle open changes it: the others' events go on, and the driver's own leave the managed objects
-- alone. The state just after the snap is given by the managed line up to it, which all pasts have that have the snap.
use Rattle.known_laws.proofs.Later.{reads_leave, kept_end}
use Rattle.known_laws.proofs.Pinned.{kept_pinned}
use Rattle.known_laws.proofs.Moving.{driver_reads}
use Rattle.known_laws.specs.Known.{Comes, SideMayCome, given, managed_past}
use Rattle.joint_machine.specs.Lines.{is_read, IsEvent, is_peer_event}
use Rattle.joint_machine.specs.PinsTold.{bare_told}
use Rattle.std.proofs.Common.{Bool, ◌≡◌, inl, ℕ, true, false, List, [], ◌∷◌, ◌++◌, Option, Some, refl, sym, ap, ◌∙◌, subst, arith}
use Rattle.std.proofs.lemmas.Option.{same_Some}
use Rattle.joint_machine.specs.declared.names.Thread.{Thread}
use Rattle.joint_machine.specs.declared.names.Thread.TheVariants.{M, P, C}
use Rattle.joint_machine.specs.declared.events.Op.{Op}
use Rattle.joint_machine.specs.declared.events.Op.TheVariants as op
use Rattle.joint_machine.specs.declared.events.Reply.{Reply}
use Rattle.joint_machine.specs.declared.events.Made.{Made}
use Rattle.joint_machine.specs.Control.{OpenSnap, control_after}
use Rattle.joint_machine.specs.Linked.{Linkage, SideLawful, managed_after}
use Rattle.joint_machine.specs.Managed.{Managed}
use Rattle.joint_machine.specs.ManagedReplay.{ManagedReplay}
use Rattle.joint_machine.specs.Run.{thread_number}
use Rattle.joint_machine.specs.Told.{Told, Noted, contraction_of, phase_of}
use Rattle.joint_machine.proofs.Deciding.{none_some}
use Rattle.joint_laws.specs.ManagedInvariants.{ReplayInvariant}
use Rattle.joint_laws.proofs.ManagedMoves.{GoesOn, GoesOn-stay, managed_line-goes_on}
use Rattle.known_laws.specs.Pasts.{Lawful, Within, end_of, is_in, role_of}
use Rattle.known_laws.specs.PastEntries.{InPast}
use Rattle.known_laws.specs.Facts.{opened_of, DeadPartIsOfSnap, SnapTellsDeadPart}
use Rattle.known_laws.proofs.CitedOnce.{each_stands_behind}
use Rattle.known_laws.proofs.FrozenPasts.{Alike, alike_goes, alike_self, alike_meet, goes_by, one_behind, dead_part-alike}
use Rattle.known_laws.proofs.Growing.{one_run}
use Rattle.known_laws.proofs.Parts.{role_by, same_managed}
use Rattle.known_laws.proofs.PastLines.{in_role, in_right}
use Rattle.known_laws.proofs.PastsJoin.{below, within_past}
use Rattle.known_laws.proofs.SnapTold.{IsKeeping, opened_on, snap_tells_cycle}

-- the driver's events that keep the cycle go on
pub driver_goes : (r : ManagedReplay) (index : ℕ) (reply : Reply) (cites : Option ℕ) (o : Op) (told : Told) → ReplayInvariant r → IsKeeping o → IsEvent C o
    → GoesOn r.managed (managed_after r (record { caller = C; index = index; op = o; reply = reply; cites = cites }) told (is_peer_event C o)).managed
driver_goes r index reply cites (op.Line a) told k x e = managed_line-goes_on r.managed (thread_number C) a k.managed.places k.managed.cells
driver_goes r index reply cites (op.Snap c) told k x e = absurd x
driver_goes r index reply cites (op.Resolve c) told k x e = absurd x
driver_goes r index reply cites (op.Abandon c) told k x e = absurd x
driver_goes r index reply cites (op.Contract c) (contraction_of comps heavy xrefs) k x e = GoesOn-stay r.managed
driver_goes r index reply cites (op.Contract c) _ k x e = GoesOn-stay r.managed
driver_goes r index reply cites (op.Refused w) (phase_of p) k x e = GoesOn-stay r.managed
driver_goes r index reply cites (op.Refused w) _ k x e = GoesOn-stay r.managed
driver_goes r index reply cites (op.Adopt v kind f p h) told k x e = absurd e.0
driver_goes r index reply cites (op.Lend v y) told k x e = absurd e.0
driver_goes r index reply cites (op.Meet v sort f p h) told k x e = absurd e.0
driver_goes r index reply cites (op.Give v) told k x e = absurd e.0
driver_goes r index reply cites _ told k x e = GoesOn-stay r.managed

-- an entry behind which the driver has the same cycle open leaves its dead part
record Keeps (y : Noted) (h : List Noted) (o : OpenSnap) : Type 0 where
  opened : opened_of (end_of h).control.stand ≡ Some o
  goes : (t : Managed) → Alike (end_of h).managed.managed t → Alike (end_of (y ∷ h)).managed.managed t

keeps : (y : Noted) (h : List Noted) → Lawful (y ∷ h) → (o : OpenSnap) → opened_of (end_of (y ∷ h)).control.stand ≡ Some o → (y.entry.number ≡ o.snap → ⊥) → Keeps y h o
keeps y h l o e later = either (is_read y.entry.made.op) refl l.0.comes
  where
    s0 : Linkage
    s0 = given (end_of h) y.told

    made : Thread → Op → Made
    made t p = record { caller = t; index = y.entry.made.index; op = p; reply = y.entry.made.reply; cites = y.entry.made.cites }

    R : Thread → Op → Managed
    R t p = (managed_after s0.managed (made t p) (bare_told y.told) (is_peer_event t p)).managed

    Stood : Thread → Op → Option OpenSnap
    Stood t p = opened_of (control_after (end_of h).control t y.entry.number y.entry.made.index p y.entry.made.reply (bare_told y.told)).stand

    stood : (t : Thread) (p : Op) → y.entry.made.caller ≡ t → y.entry.made.op ≡ p → Stood t p ≡ Some o
    stood t p c f = (λ i. Stood (sym c i) (sym f i)) ∙ e

    side : is_read y.entry.made.op ≡ false → SideMayCome (end_of h) y → Keeps y h o
    side r w = by y.entry.made.caller y.entry.made.op refl refl w.comes.event w.comes.lawful
      where
        k0 : ReplayInvariant s0.managed
        k0 = (kept_pinned (end_of h) _ w.stand (kept_end h l.1)).managed

        goes : (t : Thread) (p : Op) → y.entry.made.caller ≡ t → y.entry.made.op ≡ p → GoesOn s0.managed.managed (R t p)
            → (z : Managed) → Alike (end_of h).managed.managed z → Alike (end_of (y ∷ h)).managed.managed z
        goes t p c f g z = alike_goes (end_of h) y z (kept_end h l.1) r w (subst (GoesOn s0.managed.managed) (λ i. R (sym c i) (sym f i)) g)

        others : (t : Thread) (p : Op) → y.entry.made.caller ≡ t → y.entry.made.op ≡ p → (t ≡ C → ⊥) → IsEvent t p
            → SideLawful (is_peer_event t p) s0 (made t p) (bare_told y.told) → (z : Managed) → Alike (end_of h).managed.managed z → Alike (end_of (y ∷ h)).managed.managed z
        others t p c f n v s = goes t p c f (goes_by s0.managed (made t p) (bare_told y.told) (is_peer_event t p) s0 refl n v k0 s)

        by : (t : Thread) (p : Op) → y.entry.made.caller ≡ t → y.entry.made.op ≡ p → IsEvent t p → SideLawful (is_peer_event t p) s0 (made t p) (bare_told y.told) → Keeps y h o
        by (M u) p c f v s = record { opened = stood (M u) p c f; goes = others (M u) p c f (λ z. cc) v s }
        by (P u) p c f v s = record { opened = stood (P u) p c f; goes = others (P u) p c f (λ z. cc) v s }
        by C (op.Snap k) c f v s = absurd (later (ap (λ (z : OpenSnap). z.snap) (same_Some _ _ (stood C (op.Snap k) c f))))
        by C (op.Resolve k) c f v s = absurd (none_some o (stood C (op.Resolve k) c f))
        by C (op.Abandon k) c f v s = absurd (none_some o (stood C (op.Abandon k) c f))
        by C p c f v s = record {
          opened = sym (opened_on (end_of h).control.stand y.entry.number p y.entry.made.reply (bare_told y.told) tt) ∙ stood C p c f;
          goes = goes C p c f (driver_goes s0.managed y.entry.made.index y.entry.made.reply y.entry.made.cites p (bare_told y.told) k0 tt v);
        }

    either : (r : Bool) → is_read y.entry.made.op ≡ r → Comes r (end_of h) y → Keeps y h o
    either true q w = record {
      opened = reader y.entry.made.caller refl;
      goes = λ z a. subst (λ (u : ManagedReplay). Alike u.managed z) (sym (reads_leave (end_of h).managed y q)) a;
    }
      where
        reader : (t : Thread) → y.entry.made.caller ≡ t → opened_of (end_of h).control.stand ≡ Some o
        reader C f = absurd (driver_reads y.entry.made.op (subst (λ z. IsEvent z y.entry.made.op) f w.event) q)
        reader (M u) f = stood (M u) y.entry.made.op f refl
        reader (P u) f = stood (P u) y.entry.made.op f refl
    either false q w = side q w

stays_alike : (h front back : List Noted) (x : Noted) → Lawful h → h ≡ front ++ x ∷ back → (o : OpenSnap)
    → opened_of (end_of h).control.stand ≡ Some o → x.entry.number ≡ o.snap → Alike (end_of h).managed.managed (end_of (x ∷ back)).managed.managed
stays_alike h [] back x l e o q n = subst (λ z. Alike (end_of z).managed.managed (end_of (x ∷ back)).managed.managed) (sym e) (alike_self _)
stays_alike [] (y ∷ front) back x l e o q n = absurd (cc)
stays_alike (y ∷ h) (z ∷ front) back x l e o q n =
    let rest : h ≡ front ++ x ∷ back = cc in
    let there : InPast h x = subst (λ k. InPast k x) (sym rest) (in_right front (x ∷ back) x (inl refl)) in
    let less = below y h x l.0 l.1 there in
    let k = keeps y h l o q (λ m. omega (arith, less, n, m)) in
    k.goes (end_of (x ∷ back)).managed.managed (stays_alike h front back x l.1 rest o k.opened n)

pub behind_lawful : (front : List Noted) (x : Noted) (back : List Noted) → Lawful (front ++ x ∷ back) → Lawful (x ∷ back)
behind_lawful [] x back l = l
behind_lawful (y ∷ front) x back l = behind_lawful front x back l.1

pub dead_part_is_of_snap : DeadPartIsOfSnap
dead_part_is_of_snap h front back x l e o q n =
    dead_part-alike (end_of h).managed.managed (end_of (x ∷ back)).managed.managed (kept_end h l).managed.managed
    (kept_end (x ∷ back) (behind_lawful front x back (subst Lawful e l))).managed.managed (stays_alike h front back x l e o q n)

pub within_front : (whole front : List Noted) (x : Noted) (back : List Noted) → Within whole (front ++ x ∷ back) → Within whole (x ∷ back)
within_front whole [] x back w = w
within_front whole (y ∷ front) x back w = within_front whole front x back (within_past whole y (front ++ x ∷ back) w)

-- the managed side just after one snap is one
one_snap : (whole : List Noted) (x : Noted) (a b : List Noted) (k : ℕ) → x.entry.made.op ≡ op.Snap record { 0 = k } → Lawful (x ∷ a)
    → Lawful (x ∷ b) → Within whole (x ∷ a) → Within whole (x ∷ b) → (end_of (x ∷ a)).managed ≡ (end_of (x ∷ b)).managed
one_snap whole x a b k e la lb wa wb =
    let r : role_of x ≡ 0 = role_by x false false (ap (is_peer_event x.entry.made.caller) e) (ap is_read e) in
    let same = same_managed a b (one_behind whole 0 x a b la lb wa wb (subst (λ i. is_in i x ≡ true) r (in_role x))) in
    ap (λ (z : ManagedReplay). managed_past z x.entry.made x.told (is_peer_event x.entry.made.caller x.entry.made.op) (is_read x.entry.made.op)) same

pub snap_tells_dead_part : SnapTellsDeadPart
snap_tells_dead_part whole ls ms a b numbered wa wb o p ea eb same =
    let r = one_run whole ls ms a b numbered wa wb in
    let x = snap_tells_cycle a.past a.lawful o ea in
    let y = snap_tells_cycle b.past b.lawful p eb in
    let one : x.entry ≡ y.entry = r.alike x.entry y.entry x.there y.there (x.number ∙ (same ∙ sym y.number)) in
    let sx = each_stands_behind a.past a.lawful x.entry x.there in
    let sy = each_stands_behind b.past b.lawful y.entry y.there in
    let ax = stays_alike a.past sx.front sx.back x.entry a.lawful sx.all o ea x.number in
    let ay = stays_alike b.past sy.front sy.back y.entry b.lawful sy.all p eb y.number in
    let wx : Within r.run (x.entry ∷ sx.back) = within_front r.run sx.front x.entry sx.back (subst (Within r.run) sx.all r.first) in
    let wy : Within r.run (y.entry ∷ sy.back) = within_front r.run sy.front y.entry sy.back (subst (Within r.run) sy.all r.second) in
    let at : (end_of (x.entry ∷ sx.back)).managed ≡ (end_of (y.entry ∷ sy.back)).managed =
    one_snap r.run x.entry sx.back sy.back o.cycle x.event sx.lawful (subst (λ z. Lawful (z ∷ sy.back)) (sym one) sy.lawful) wx (subst (λ z. Within r.run (z ∷ sy.back)) (sym one) wy)
    ∙ ap (λ z. (end_of (z ∷ sy.back)).managed) one in
    let by = subst (λ (z : ManagedReplay). Alike (end_of b.past).managed.managed z.managed) (sym at) ay in
    dead_part-alike (end_of a.past).managed.managed (end_of b.past).managed.managed (kept_end a.past a.lawful).managed.managed (kept_end b.past b.lawful).managed.managed
    (alike_meet (end_of a.past).managed.managed (end_of (x.entry ∷ sx.back)).managed.managed (end_of b.past).managed.managed ax by)
