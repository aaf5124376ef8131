-- Each cycle that was ever mirrored was opened, and before its mirror the driver's cycle is later than each of them: a
-- snapshot opens the next number, only the mirror adds a number, and that is the open cycle's.
use Rattle.std.proofs.Common.{◌≡◌, ◌⊎◌, inl, inr, ⊎_elim, ℕ, ◌≤◌, List, [], ◌∷◌, Option, Some, None, refl, sym, ap, subst, arith}
use Rattle.std.specs.Prelude.{Contains}
use Rattle.std.proofs.lemmas.List.Elements.{Contains-append_cases}
use Rattle.joint_machine.specs.declared.names.Thread.{Thread}
use Rattle.joint_machine.specs.declared.names.Thread.TheVariants.{M, P, C}
use Rattle.joint_machine.specs.declared.events.Op.{Op}
use Rattle.joint_machine.specs.declared.events.Op.TheVariants as op
use Rattle.joint_machine.specs.declared.events.Made.{Made}
use Rattle.joint_machine.specs.declared.events.Reply.{Reply}
use Rattle.joint_machine.specs.Control.{CallerAllows, Stand, snapped, contracted, weakening, marked, restoring, stand_after, control_after, DriverAllows}
use Rattle.joint_machine.specs.Lines.{IsEvent, is_peer_event}
use Rattle.joint_machine.specs.Linked.{Linkage, MayCome, SideLawful, managed_after, peer_after, linkage_after}
use Rattle.joint_machine.specs.Managed.{Managed}
use Rattle.joint_machine.specs.ManagedReplay.{ManagedReplay}
use Rattle.joint_machine.specs.PeerReplay.{PeerReplay, mirrored}
use Rattle.joint_machine.specs.Peers.{Issued}
use Rattle.joint_machine.specs.Told.{Told, Noted, snap_of, contraction_of, references_of}
use Rattle.joint_machine.proofs.Members.{Contains-nil, Contains-cons_cases}
use Rattle.joint_laws.specs.LinkedInvariants.{DriverInvariant}
use Rattle.joint_laws.specs.ManagedInvariants.{ReplayInvariant}
use Rattle.joint_laws.proofs.LinkedEntries.{Of}
use Rattle.joint_laws.proofs.ManagedEntries.{ManagedStep-entry}
use Rattle.joint_laws.proofs.ManagedSteps.{ManagedStep, going_on, snapping, resolving, abandoning}
use Rattle.known_laws.specs.Driving.{IsLater, AreMirrorsOpened}
use Rattle.known_laws.proofs.PeerKeeps.{IsNoMirror, same_mirrors_after}
use Rattle.joint_machine.specs.Components.{End}

-- the driver's events other than a snapshot, a contraction and a mirror
abbrev IsRest : Op → Type 0
IsRest (op.Snap k) = ⊥
IsRest (op.Contract k) = ⊥
IsRest (op.Mirror k) = ⊥
IsRest _ = Unit {0}

later_on : (st : Stand) (ms : List ℕ) (num : ℕ) (o : Op) (reply : Reply) (told : Told) → IsRest o → IsLater st ms → IsLater (stand_after st num o reply told) ms
later_on st ms num (op.Snap k) reply told x l = absurd x
later_on st ms num (op.Contract k) reply told x l = absurd x
later_on st ms num (op.Mirror k) reply told x l = absurd x
later_on (weakening o count a b) ms num (op.Weaken h) reply told x l = tt
later_on (weakening o count a b) ms num op.Sweep reply told x l = tt
later_on (weakening o count a b) ms num op.Begin reply told x l = tt
later_on (weakening o count a b) ms num (op.Refused r) reply told x l = tt
later_on (marked o) ms num op.Sweep reply told x l = tt
later_on (restoring o answers) ms num (op.Restore h) reply told x l = tt
later_on (restoring o answers) ms num (op.Clear k) reply told x l = tt
later_on st ms num (op.Resolve k) reply told x l = tt
later_on st ms num (op.Abandon k) reply told x l = tt
later_on st ms num _ reply told x l = l

-- cycles are opened only
pub cycles-grow : (s t : Managed) → ManagedStep s t → s.cycles ≤ t.cycles
cycles-grow s t (going_on g) = let e = g.cycles in omega (arith, e)
cycles-grow s t (snapping p) = let e = ap (λ (z : Managed). z.cycles) p.is in omega (arith, e)
cycles-grow s t (resolving p) = let e = ap (λ (z : Managed). z.cycles) p.is in omega (arith, e)
cycles-grow s t (abandoning p) = let e = ap (λ (z : Managed). z.cycles) p.is in omega (arith, e)

contract-later : (st : Stand) (m : Managed) (i : List Issued) (ms : List ℕ) (num k : ℕ) (reply : Reply) (cites : Option ℕ) (comps : List (List ℕ)) (heavy : List ℕ) (xrefs : List (ℕ × ℕ))
    → DriverAllows st m i (op.Contract record { 0 = k }) reply cites (contraction_of comps heavy xrefs) → IsLater st ms
    → IsLater (stand_after st num (op.Contract record { 0 = k }) reply (contraction_of comps heavy xrefs)) ms
contract-later (snapped o) m i ms num k reply cites comps heavy xrefs a l = l
contract-later _ m i ms num k reply cites comps heavy xrefs a l = absurd a

mirror-later : (st : Stand) (m : Managed) (i : List Issued) (ms : List ℕ) (num k : ℕ) (reply : Reply) (cites : Option ℕ) (told : Told)
    → DriverAllows st m i (op.Mirror record { 0 = k }) reply cites told → IsLater (stand_after st num (op.Mirror record { 0 = k }) reply told) ms
mirror-later (contracted o comps heavy xrefs) m i ms num k reply cites (references_of refs) a = tt
mirror-later (contracted o comps heavy xrefs) m i ms num k reply cites _ a = absurd a
mirror-later _ m i ms num k reply cites told a = absurd a

-- the open cycle's number is the last one opened
mirror-opened : (r : ManagedReplay) (s : PeerReplay) (st : Stand) (k : ℕ) (reply : Reply) (cites : Option ℕ) (told : Told)
    → ReplayInvariant r → DriverInvariant r s st → DriverAllows st r.managed s.peers.issued (op.Mirror record { 0 = k }) reply cites told → k ≤ r.managed.cycles
mirror-opened r s (contracted o comps heavy xrefs) k reply cites (references_of refs) kept d a =
    let c = d.before.opened in
    let l = (kept.managed.dead d.before.cycle c.cycle).latest in
    let e = a.0 in
    let f = c.number in
    omega (arith, l, e, f)
mirror-opened r s (contracted o comps heavy xrefs) k reply cites _ kept d a = absurd a
mirror-opened r s _ k reply cites told kept d a = absurd a

mirrored-list : (s : PeerReplay) (k : ℕ) (cites : Option ℕ) (refs : List (End × End)) (n : ℕ) → Contains (mirrored s k cites refs).mirrors n → Contains s.mirrors n ⊎ (k ≡ n)
mirrored-list s k None refs n c = inl c
mirrored-list s k (Some snap) refs n c = ⊎_elim (λ p. inl p) (λ p. ⊎_elim (λ (e : k ≡ n). inr e) (λ q. absurd (Contains-nil n q)) (Contains-cons_cases k [] n p))
    (Contains-append_cases s.mirrors (k ∷ []) n c)

pub numbers-step : (s : Linkage) (n : Noted) → Of s → MayCome s n → AreMirrorsOpened s → AreMirrorsOpened (linkage_after s n)
numbers-step s n k may w = by n.entry.made.caller n.entry.made.op n.told may.event may.lawful may.order
    (cycles-grow s.managed.managed (linkage_after s n).managed.managed (ManagedStep-entry s n may k.managed))
  where
    num : ℕ
    num = n.entry.number

    made : Thread → Op → Made
    made t o = record { caller = t; index = n.entry.made.index; op = o; reply = n.entry.made.reply; cites = n.entry.made.cites }

    R : Thread → Op → Told → ManagedReplay
    R t o told = managed_after s.managed (made t o) told (is_peer_event t o)

    S : Thread → Op → Told → PeerReplay
    S t o told = peer_after s.peer (made t o) told (is_peer_event t o)

    After : Thread → Op → Told → Linkage
    After t o told = record { managed = R t o told; peer = S t o told; control = control_after s.control t num n.entry.made.index o n.entry.made.reply told }

    Allows : Thread → Op → Told → Type 0
    Allows t o told = CallerAllows s.control s.managed.managed s.peer.peers.issued t n.entry.made.index o n.entry.made.reply n.entry.made.cites told

    opened : (t : Thread) (o : Op) (told : Told) → IsNoMirror o → s.managed.managed.cycles ≤ (R t o told).managed.cycles → (m : ℕ) → Contains (S t o told).mirrors m → m ≤ (R t o told).managed.cycles
    opened t o told x l m c = let z = w.opened m (subst (λ ms. Contains ms m) (same_mirrors_after s.peer (made t o) told (is_peer_event t o) x) c) in omega (arith, z, l)

    stays : (t : Thread) (o : Op) (told : Told) (st : Stand) → IsNoMirror o → IsLater st s.peer.mirrors → IsLater st (S t o told).mirrors
    stays t o told st x l = subst (IsLater st) (sym (same_mirrors_after s.peer (made t o) told (is_peer_event t o) x)) l

    others : (t : Thread) (o : Op) → (t ≡ C → ⊥) → IsEvent t o → IsNoMirror o
    others C o x e = absurd (x refl)
    others (M u) (op.Mirror c) x e = absurd e
    others (P u) (op.Mirror c) x e = absurd e
    others t _ x e = tt

    rest : (o : Op) (told : Told) → IsNoMirror o → IsRest o → s.managed.managed.cycles ≤ (R C o told).managed.cycles → AreMirrorsOpened (After C o told)
    rest o told x y l = record { opened = opened C o told x l; later = stays C o told _ x (later_on s.control.stand s.peer.mirrors num o n.entry.made.reply told y w.later) }

    by : (t : Thread) (o : Op) (told : Told) → IsEvent t o → SideLawful (is_peer_event t o) s (made t o) told
        → Allows t o told → s.managed.managed.cycles ≤ (R t o told).managed.cycles → AreMirrorsOpened (After t o told)
    by (M u) o told e l a g = let x = others (M u) o (λ z. cc) e in record { opened = opened (M u) o told x g; later = stays (M u) o told s.control.stand x w.later }
    by (P u) o told e l a g = let x = others (P u) o (λ z. cc) e in record { opened = opened (P u) o told x g; later = stays (P u) o told s.control.stand x w.later }
    by C (op.Snap c) (snap_of freed candidates dead) e l a g = record {
      opened = opened C (op.Snap c) (snap_of freed candidates dead) tt g;
      later = λ m x. let z = w.opened m x in let y = l.allowed.next in omega (arith, z, y);
    }
    by C (op.Snap c) told e l a g = absurd l.allowed
    by C (op.Contract c) (contraction_of comps heavy xrefs) e l a g = record {
      opened = opened C (op.Contract c) (contraction_of comps heavy xrefs) tt g;
      later = contract-later s.control.stand s.managed.managed s.peer.peers.issued s.peer.mirrors num c.0 n.entry.made.reply n.entry.made.cites comps heavy xrefs a w.later;
    }
    by C (op.Contract c) told e l a g = absurd l.allowed
    by C (op.Mirror c) (references_of refs) e l a g = record {
      opened = λ m x. ⊎_elim (λ p. w.opened m p)
          (λ (p : c.0 ≡ m). let z = mirror-opened s.managed s.peer s.control.stand c.0 n.entry.made.reply n.entry.made.cites (references_of refs) k.managed k.driver a in omega (arith, z, p))
          (mirrored-list s.peer c.0 n.entry.made.cites refs m x);
      later = mirror-later s.control.stand s.managed.managed s.peer.peers.issued _ num c.0 n.entry.made.reply n.entry.made.cites (references_of refs) a;
    }
    by C (op.Mirror c) told e l a g = absurd l.allowed
    by C o told e l a g = rest o told tt tt g
