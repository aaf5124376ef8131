-- All stays kept at the driver's entries, each of which the driver's order allows in one phase alone.
use Rattle.std.proofs.Common.{◌≡◌, ℕ, true, false, List, [], ◌∷◌, ◌++◌, Option, Some, refl, sym, subst, ◌∙◌}
use Rattle.std.specs.Prelude.{slice_get}
use Rattle.std.proofs.lemmas.Option.{same_Some}
use Rattle.joint_machine.specs.declared.names.Cycle.{Cycle}
use Rattle.joint_machine.specs.declared.names.HNum.{HNum}
use Rattle.joint_machine.specs.declared.names.PhaseWord.{PhaseWord}
use Rattle.joint_machine.specs.declared.events.Op.TheVariants as op
use Rattle.joint_machine.specs.declared.events.Reply.{Reply}
use Rattle.joint_machine.specs.Components.{End, mirror_edges}
use Rattle.joint_machine.specs.Control.{Doing, OpenSnap, Stand, idle, snapped, contracted, weakening, marked, restoring, restored, carried_edges, stand_after, IsCandidateHandle, DriverAllows}
use Rattle.joint_machine.specs.Cycles.{IsSnapshot, IsAnsweredAlive, IsResolution, IsDeadContraction}
use Rattle.joint_machine.specs.Heaps.{numbered_at, numbered_set}
use Rattle.joint_machine.specs.Managed.{Managed, OpenCycle, Holds, with_snapshot as snapped_state, resolved as resolved_state, abandoned as abandoned_state}
use Rattle.joint_machine.specs.ManagedReplay.{ManagedReplay, MayContract, MayResolve, without_twins}
use Rattle.joint_machine.specs.Peers.{strong, weak}
use Rattle.joint_machine.specs.PeerReplay.{PeerReplay, Mirror, mirrored, with_weakened, MayWeaken, Refers}
use Rattle.joint_machine.specs.Told.{Told, snap_of, contraction_of, references_of, resolution_of, Answer, handles_given}
use Rattle.joint_laws.specs.ManagedInvariants.{ReplayInvariant}
use Rattle.joint_laws.specs.PeerInvariants.{PeerInvariant}
use Rattle.joint_laws.specs.LinkedInvariants.{IsBeforeMirror, CallersInvariant, hands}
use Rattle.joint_machine.proofs.Numbered.{slot-named}
use Rattle.joint_machine.proofs.HeapLemmas.{candidates_of-open}
use Rattle.joint_laws.proofs.ManagedMoves.{GoesOn-stay}
use Rattle.joint_laws.proofs.HandlesAlike.{HandlesAlike, nothing_touched, OwnersInvariant-peer}
use Rattle.joint_laws.proofs.OwnersManaged.{OwnersAlike}
use Rattle.joint_laws.proofs.DriverSteps.{owners_snapped, callers_snapped, driver_snapped, owners_resolved, callers_resolved, driver_resolved, owners_abandoned, callers_abandoned, driver_abandoned}
use Rattle.joint_laws.proofs.DriverPeerSteps.{Only, HandlesAlike-only, holds-handle_of, carried-safe, driver_mirrored}
use Rattle.joint_laws.proofs.DriverHandles.{callers_same, mirrored_changed, weakened-stands, owners_touched, not_in_hand, handles_weakened, written-strength}
use Rattle.joint_laws.proofs.PeerQuiet.{HandlesAlike-same}
use Rattle.joint_laws.proofs.PeerEntries.{MirrorsSafely}
use Rattle.joint_laws.proofs.LinkedQuiet.{BothInvariants, kept-alike}

-- two names of the open cycle
pub one_cycle : (s : Managed) (c d : OpenCycle) → s.cycle ≡ Some c → s.cycle ≡ Some d → c ≡ d
one_cycle s c d e f = same_Some c d (sym e ∙ f)

-- the managed side's events
pub kept-snap : (r : ManagedReplay) (s : PeerReplay) (ds : List Doing) (d : Stand) (n number : ℕ) (freed candidates dead : List ℕ) (reply : Reply) (cites : Option ℕ)
    → BothInvariants r s ds d → DriverAllows d r.managed s.peers.issued (op.Snap record { 0 = n }) reply cites (snap_of freed candidates dead) → IsSnapshot r.managed n freed candidates dead
    → ReplayInvariant (record r { managed = snapped_state r.managed freed candidates dead; contracted = false })
    → BothInvariants (record r { managed = snapped_state r.managed freed candidates dead; contracted = false }) s ds (snapped record { cycle = n; snap = number })
kept-snap r s ds idle n number freed candidates dead reply cites k w p m = record {
  managed = m;
  peer = k.peer;
  owners = owners_snapped r s n freed candidates dead k.managed k.owners p;
  callers = callers_snapped r s n freed candidates dead k.managed k.owners p ds k.callers;
  driver = driver_snapped r s n freed candidates dead k.managed k.owners p number k.driver;
}
kept-snap r s ds (snapped o) n number freed candidates dead reply cites k w p m = absurd w
kept-snap r s ds (contracted o comps heavy xrefs) n number freed candidates dead reply cites k w p m = absurd w
kept-snap r s ds (weakening o count seen sw) n number freed candidates dead reply cites k w p m = absurd w
kept-snap r s ds (marked o) n number freed candidates dead reply cites k w p m = absurd w
kept-snap r s ds (restoring o answers) n number freed candidates dead reply cites k w p m = absurd w
kept-snap r s ds (restored o answers clear) n number freed candidates dead reply cites k w p m = absurd w

OwnersAlike-contracted : (r : ManagedReplay) → OwnersAlike r (record r { contracted = true })
OwnersAlike-contracted r = record { on = λ m h q. q; back = λ m h q. q; registry = refl; adopted = refl; cycle = refl }

pub kept-contract : (r : ManagedReplay) (s : PeerReplay) (ds : List Doing) (d : Stand) (n number : ℕ) (c : Cycle) (reply : Reply) (comps : List (List ℕ))
    (heavy : List ℕ) (xrefs : List (ℕ × ℕ)) (cites : Option ℕ) → BothInvariants r s ds d
    → DriverAllows d r.managed s.peers.issued (op.Contract record { 0 = n }) reply cites (contraction_of comps heavy xrefs) → MayContract r n comps heavy xrefs
    → ReplayInvariant (record r { contracted = true }) → BothInvariants (record r { contracted = true }) s ds (stand_after d number (op.Contract c) reply (contraction_of comps heavy xrefs))
kept-contract r s ds (snapped o) n number c reply comps heavy xrefs cites k w p m =
    let t : ManagedReplay = record r { contracted = true } in
    let now : BothInvariants t s ds (snapped o) = kept-alike r t s ds (snapped o) k (OwnersAlike-contracted r) (GoesOn-stay r.managed) m in
    let before : IsBeforeMirror t s o = now.driver in
    let same_cycle : p.cycle ≡ before.cycle = one_cycle r.managed p.cycle before.cycle p.open_cycle.0 before.opened.cycle in
    record {
      managed = m;
      peer = k.peer;
      owners = now.owners;
      callers = now.callers;
      driver = record { before = before; contraction = subst (λ (z : OpenCycle). IsDeadContraction r.managed z.dead comps heavy xrefs) same_cycle p.exact };
    }
kept-contract r s ds idle n number c reply comps heavy xrefs cites k w p m = absurd w
kept-contract r s ds (contracted o cs hs xs) n number c reply comps heavy xrefs cites k w p m = absurd w
kept-contract r s ds (weakening o count seen sw) n number c reply comps heavy xrefs cites k w p m = absurd w
kept-contract r s ds (marked o) n number c reply comps heavy xrefs cites k w p m = absurd w
kept-contract r s ds (restoring o answers) n number c reply comps heavy xrefs cites k w p m = absurd w
kept-contract r s ds (restored o answers clear) n number c reply comps heavy xrefs cites k w p m = absurd w

pub kept-resolve : (r : ManagedReplay) (s : PeerReplay) (ds : List Doing) (d : Stand) (n : ℕ) (alive : List Answer) (freed : List ℕ) (reply : Reply) (cites : Option ℕ)
    → BothInvariants r s ds d → DriverAllows d r.managed s.peers.issued (op.Resolve record { 0 = n }) reply cites (resolution_of alive freed) → MayResolve r n alive freed
    → ReplayInvariant (record r { managed = resolved_state r.managed alive freed; registry = without_twins r.registry freed; adopted = r.adopted ++ handles_given alive })
    → BothInvariants (record r { managed = resolved_state r.managed alive freed; registry = without_twins r.registry freed; adopted = r.adopted ++ handles_given alive }) s ds idle
kept-resolve r s ds (restored o answers clear) n alive freed reply cites k w p m =
    let same_cycle : p.cycle ≡ k.driver.cycle = one_cycle r.managed p.cycle k.driver.cycle p.open_cycle.0 k.driver.opened.cycle in
    let exact : IsResolution r.managed k.driver.cycle.dead (IsAnsweredAlive k.driver.cycle.candidates answers) freed =
    subst (λ (z : OpenCycle). IsResolution r.managed z.dead (IsAnsweredAlive z.candidates answers) freed) same_cycle
    (subst (λ z. IsResolution r.managed p.cycle.dead (IsAnsweredAlive p.cycle.candidates z) freed) w.2 p.resolution) in
    subst (λ z. BothInvariants (record r { managed = resolved_state r.managed z freed; registry = without_twins r.registry freed; adopted = r.adopted ++ handles_given z }) s ds idle)
    (sym w.2) (record {
      managed = subst (λ z. ReplayInvariant (record r { managed = resolved_state r.managed z freed; registry = without_twins r.registry freed; adopted = r.adopted ++ handles_given z })) w.2 m;
      peer = k.peer;
      owners = owners_resolved r s o answers k.managed k.peer k.owners k.driver freed exact;
      callers = callers_resolved r s o answers k.managed k.peer k.owners k.driver freed exact ds k.callers;
      driver = driver_resolved r s o answers k.managed k.peer k.owners k.driver freed exact;
    })
kept-resolve r s ds idle n alive freed reply cites k w p m = absurd w
kept-resolve r s ds (snapped o) n alive freed reply cites k w p m = absurd w
kept-resolve r s ds (contracted o comps heavy xrefs) n alive freed reply cites k w p m = absurd w
kept-resolve r s ds (weakening o count seen sw) n alive freed reply cites k w p m = absurd w
kept-resolve r s ds (marked o) n alive freed reply cites k w p m = absurd w
kept-resolve r s ds (restoring o answers) n alive freed reply cites k w p m = absurd w

abandon-before : (r : ManagedReplay) (s : PeerReplay) (ds : List Doing) (d : Stand) (o : OpenSnap) → hands d ds ≡ ds → BothInvariants r s ds d → IsBeforeMirror r s o
    → ReplayInvariant (record r { managed = abandoned_state r.managed }) → BothInvariants (record r { managed = abandoned_state r.managed }) s ds idle
abandon-before r s ds d o none k b m = record {
  managed = m;
  peer = k.peer;
  owners = owners_abandoned r s o k.owners b;
  callers = callers_abandoned r s o k.owners b ds (subst (CallersInvariant r s) none k.callers);
  driver = driver_abandoned r s o k.owners b;
}

pub kept-abandon : (r : ManagedReplay) (s : PeerReplay) (ds : List Doing) (d : Stand) (n : ℕ) (reply : Reply) (cites : Option ℕ) (told : Told)
    → BothInvariants r s ds d → DriverAllows d r.managed s.peers.issued (op.Abandon record { 0 = n }) reply cites told
    → ReplayInvariant (record r { managed = abandoned_state r.managed }) → BothInvariants (record r { managed = abandoned_state r.managed }) s ds idle
kept-abandon r s ds (snapped o) n reply cites told k w m = abandon-before r s ds (snapped o) o refl k k.driver m
kept-abandon r s ds (contracted o comps heavy xrefs) n reply cites told k w m = abandon-before r s ds (contracted o comps heavy xrefs) o refl k k.driver.before m
kept-abandon r s ds idle n reply cites told k w m = absurd w
kept-abandon r s ds (weakening o count seen sw) n reply cites told k w m = absurd w
kept-abandon r s ds (marked o) n reply cites told k w m = absurd w
kept-abandon r s ds (restoring o answers) n reply cites told k w m = absurd w
kept-abandon r s ds (restored o answers clear) n reply cites told k w m = absurd w

pub kept-refused : (r : ManagedReplay) (s : PeerReplay) (ds : List Doing) (d : Stand) (number : ℕ) (x : PhaseWord) (reply : Reply) (told : Told)
    → BothInvariants r s ds d → BothInvariants r s ds (stand_after d number (op.Refused x) reply told)
kept-refused r s ds idle number x reply told k = k
kept-refused r s ds (snapped o) number x reply told k = k
kept-refused r s ds (contracted o comps heavy xrefs) number x reply told k = k
kept-refused r s ds (weakening o count seen sw) number x reply told k = record { managed = k.managed; peer = k.peer; owners = k.owners; callers = k.callers; driver = k.driver }
kept-refused r s ds (marked o) number x reply told k = k
kept-refused r s ds (restoring o answers) number x reply told k = k
kept-refused r s ds (restored o answers clear) number x reply told k = k

-- a mirror's references are safe
pub safe-mirror : (r : ManagedReplay) (s : PeerReplay) (ds : List Doing) (d : Stand) (c : Cycle) (reply : Reply) (cites : Option ℕ) (told : Told)
    → BothInvariants r s ds d → DriverAllows d r.managed s.peers.issued (op.Mirror c) reply cites told → MirrorsSafely s (op.Mirror c) told
safe-mirror r s ds (contracted o comps heavy xrefs) c reply cites
    (references_of refs) k w = λ p q x. carried-safe r s o comps heavy xrefs k.managed k.peer k.owners k.driver p q (subst (λ z. Refers z p q) w.2 x)
safe-mirror r s ds (contracted o comps heavy xrefs) c reply cites _ k w = absurd w
safe-mirror r s ds idle c reply cites told k w = absurd w
safe-mirror r s ds (snapped o) c reply cites told k w = absurd w
safe-mirror r s ds (weakening o count seen sw) c reply cites told k w = absurd w
safe-mirror r s ds (marked o) c reply cites told k w = absurd w
safe-mirror r s ds (restoring o answers) c reply cites told k w = absurd w
safe-mirror r s ds (restored o answers clear) c reply cites told k w = absurd w

pub kept-mirrored : (r : ManagedReplay) (s : PeerReplay) (ds : List Doing) (d : Stand) (n number : ℕ) (c : Cycle) (reply : Reply) (cites : Option ℕ) (refs : List (End × End))
    → BothInvariants r s ds d → DriverAllows d r.managed s.peers.issued (op.Mirror record { 0 = n }) reply cites (references_of refs)
    → PeerInvariant (mirrored s n cites refs) → BothInvariants r (mirrored s n cites refs) ds (stand_after d number (op.Mirror c) reply (references_of refs))
kept-mirrored r s ds (contracted o comps heavy xrefs) n number c reply cites refs k w m =
    subst (λ z. BothInvariants r (mirrored s n cites z) ds (weakening o 0 false false)) (sym w.2) (subst (λ z. BothInvariants r (mirrored s n z edges) ds (weakening o 0 false false)) (sym w.1)
    (record {
      managed = k.managed;
      peer = subst (λ z. PeerInvariant (mirrored s n z edges)) w.1 (subst (λ z. PeerInvariant (mirrored s n cites z)) w.2 m);
      owners = OwnersInvariant-peer nothing_touched r s after alike k.owners (λ x h t q. t) (λ h q t. t);
      callers = callers_same nothing_touched r s after alike refl (λ p i. i) (λ x l. l) (λ x p y. y) ds k.callers (λ u h x t. t);
      driver = driver_mirrored r s o comps heavy xrefs k.managed k.peer k.owners k.driver mirror (s.mirrors ++ n ∷ []);
    }))
  where
    edges : List (End × End)
    edges = carried_edges r.managed s.peers.issued (mirror_edges comps xrefs)

    mirror : Mirror
    mirror = record { cycle = n; snap = o.snap; weakened = []; restored = []; renewed = [] }

    after : PeerReplay
    after = record s { refs = edges; mirror = Some mirror; mirrors = s.mirrors ++ n ∷ [] }

    alike : HandlesAlike nothing_touched s after
    alike = HandlesAlike-same s after refl refl refl
kept-mirrored r s ds idle n number c reply cites refs k w m = absurd w
kept-mirrored r s ds (snapped o) n number c reply cites refs k w m = absurd w
kept-mirrored r s ds (weakening o count seen sw) n number c reply cites refs k w m = absurd w
kept-mirrored r s ds (marked o) n number c reply cites refs k w m = absurd w
kept-mirrored r s ds (restoring o answers) n number c reply cites refs k w m = absurd w
kept-mirrored r s ds (restored o answers clear) n number c reply cites refs k w m = absurd w

-- the candidate whose turn it is
pub turn : (r : ManagedReplay) (c : OpenCycle) (i h : ℕ) → ReplayInvariant r → r.managed.cycle ≡ Some c
    → IsCandidateHandle r.managed i h → (m : ℕ) × (slice_get c.candidates i ≡ Some m) × Holds r.managed m h
turn r c i h k e w = (w.0, subst (λ z. slice_get z i ≡ Some w.0) (candidates_of-open r.managed c e) w.1, holds-handle_of r.managed w.0 h k.managed.places w.2)

pub kept-weaken : (r : ManagedReplay) (s : PeerReplay) (ds : List Doing) (d : Stand) (number : ℕ) (h : HNum) (reply : Reply) (told : Told) (cites : Option ℕ)
    → BothInvariants r s ds d → DriverAllows d r.managed s.peers.issued (op.Weaken h) reply cites told → MayWeaken s h.0 cites
    → PeerInvariant (record s { table = numbered_set s.table h.0 (Some record { strength = weak; cleared = false }); mirror = with_weakened s.mirror h.0 })
    → BothInvariants r (record s { table = numbered_set s.table h.0 (Some record { strength = weak; cleared = false }); mirror = with_weakened s.mirror h.0 }) ds
    (stand_after d number (op.Weaken h) reply told)
kept-weaken r s ds (weakening o count seen sw) number h reply told cites k w p m =
    let t : PeerReplay = record s { table = numbered_set s.table h.0 (Some record { strength = weak; cleared = false }); mirror = with_weakened s.mirror h.0 } in
    let a = HandlesAlike-only s t h.0 (Some record { strength = weak; cleared = false }) refl refl refl in
    let v = k.driver in
    let c = turn r v.cycle count h.0 k.managed v.opened.cycle w.2 in
    record {
      managed = k.managed;
      peer = m;
      owners = owners_touched r s t v.cycle count c.0 h.0 k.managed k.owners v.opened.cycle c.1 c.2 a;
      callers = callers_same (Only h.0) r s t a refl (λ p i. i) (λ x l. l) (λ x p y. y) ds k.callers (not_in_hand r s t v.cycle count c.0 h.0 k.managed k.owners v.opened.cycle c.1 c.2 a ds k.callers);
      driver = record {
        cycle = v.cycle;
        opened = v.opened;
        mirror = mirrored_changed (Only h.0) r s t v.cycle a k.owners refl (weakened-stands s.mirror h.0) v.mirror;
        handles = handles_weakened r s t v.cycle count c.0 h.0 k.managed k.owners v.opened.cycle c.1 c.2 a v.handles
            (written-strength s t h.0 (record { strength = strong; cleared = false }) (record { strength = weak; cleared = false })
            (slot-named (numbered_at s.table h.0) (record { strength = strong; cleared = false }) p.strong_now) refl);
      };
    }
kept-weaken r s ds idle number h reply told cites k w p m = absurd w
kept-weaken r s ds (snapped o) number h reply told cites k w p m = absurd w
kept-weaken r s ds (contracted o comps heavy xrefs) number h reply told cites k w p m = absurd w
kept-weaken r s ds (marked o) number h reply told cites k w p m = absurd w
kept-weaken r s ds (restoring o answers) number h reply told cites k w p m = absurd w
kept-weaken r s ds (restored o answers clear) number h reply told cites k w p m = absurd w
