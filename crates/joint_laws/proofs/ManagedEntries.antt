-- The managed side at each lawful entry: an entry of the other side leaves it alone. So it is kept at every state, and
-- while a cycle is open its dead part is frozen: of the events only a snapshot opens a cycle, where none is open, and
-- takes the next number; a resolution and an abandonment close it.
use Rattle.std.proofs.Common.{◌≡◌, ℕ, ◌+◌, ◌<◌, ◌≤◌, Bool, true, false, Some, None, refl, sym, ap, ◌∙◌, arith}
use Rattle.std.specs.Prelude.{if◌then◌else◌}
use Rattle.std.proofs.lemmas.Option.{same_Some}
use Rattle.joint_machine.specs.declared.events.Made.{Made}
use Rattle.joint_machine.specs.Heaps.{IsLive, numbered_at}
use Rattle.joint_machine.specs.Lines.{is_peer_event}
use Rattle.joint_machine.specs.Managed.{Managed, OpenCycle, handle_of}
use Rattle.joint_machine.specs.Linked.{Linkage, MayCome, SideLawful, linkage_after, managed_after}
use Rattle.joint_machine.specs.Told.{Told, Noted}
use Rattle.joint_machine.proofs.Deciding.{none_some}
use Rattle.joint_machine.proofs.HeapLemmas.{is_freed-live}
use Rattle.joint_laws.specs.ManagedInvariants.{ManagedInvariant, ReplayInvariant}
use Rattle.joint_laws.specs.ManagedLaws.{ManagedInvariantHolds, DeadPartIsFrozen, IsFrozenSince, managed_at}
use Rattle.joint_laws.specs.States.{state_at}
use Rattle.joint_laws.proofs.ManagedMoves.{GoesOn-stay}
use Rattle.joint_laws.proofs.ManagedKeeping.{dead-fields, dead-held, cut_on}
use Rattle.joint_laws.proofs.ManagedSteps.{ManagedStep, going_on, snapping, resolving, abandoning, managed_step}
use Rattle.joint_laws.proofs.Adopting.{ReplayInvariant-opening}
use Rattle.joint_laws.proofs.ReplayKeeping.{ReplayInvariant-step}
use Rattle.joint_laws.proofs.Everywhere.{everywhere, from_state}

kept-by : (s : Linkage) (m : Made) (told : Told) (b : Bool) → SideLawful b s m told → ReplayInvariant s.managed → ReplayInvariant (managed_after s.managed m told b)
kept-by s m told true w k = k
kept-by s m told false w k = ReplayInvariant-step s.managed m.caller m.op told k w.allowed

-- each lawful entry is a step of the managed objects, or leaves them alone
step-by : (s : Linkage) (m : Made) (told : Told) (b : Bool) → SideLawful b s m told → ReplayInvariant s.managed → ManagedStep s.managed.managed (managed_after s.managed m told b).managed
step-by s m told true w k = going_on (GoesOn-stay s.managed.managed)
step-by s m told false w k = managed_step s.managed m.caller m.op told k w.allowed

pub ReplayInvariant-entry : (s : Linkage) (n : Noted) → MayCome s n → ReplayInvariant s.managed → ReplayInvariant (linkage_after s n).managed
ReplayInvariant-entry s n w k = kept-by s n.entry.made n.told (is_peer_event n.entry.made.caller n.entry.made.op) w.lawful k

pub ManagedStep-entry : (s : Linkage) (n : Noted) → MayCome s n → ReplayInvariant s.managed → ManagedStep s.managed.managed (linkage_after s n).managed.managed
ManagedStep-entry s n w k = step-by s n.entry.made n.told (is_peer_event n.entry.made.caller n.entry.made.op) w.lawful k

pub managed_invariant_stands : ManagedInvariantHolds
managed_invariant_stands noted a i = everywhere (λ s. ReplayInvariant s.managed) ReplayInvariant-opening ReplayInvariant-entry noted a i

pub handle-same : (s t : Managed) (x : ℕ) → IsLive s.heap x → IsLive t.heap x → numbered_at t.held x ≡ numbered_at s.held x → handle_of t x ≡ handle_of s x
handle-same s t x l m e = λ i. (let b = (is_freed-live t.heap x m ∙ sym (is_freed-live s.heap x l)) i in if b then None else elim (e i) [ None ↦ None | Some h ↦ h ])

-- at a state: the cycle is still open with its dead part as it was, or it is over and its number was passed
data Follows (s : Managed) (c : OpenCycle) (t : Managed) : Type 0 where
  frozen : IsFrozenSince s t c → Follows s c t
  passed : c.number ≤ t.cycles → ((e : OpenCycle) → t.cycle ≡ Some e → c.number < e.number) → Follows s c t

-- the number of the cycle that was closed is that of the last one
closes : (s t u : Managed) (c : OpenCycle) → IsFrozenSince s t c → u.cycle ≡ None → u.cycles ≡ t.cycles → Follows s c u
closes s t u c f none same = passed (omega (arith, f.cut_off.latest, same)) (λ e q. absurd (none_some e (sym none ∙ q)))

follow-step : (s : Managed) (c : OpenCycle) (t u : Managed) → ManagedInvariant s → s.cycle ≡ Some c → ManagedInvariant t → ManagedStep t u → Follows s c t → Follows s c u
follow-step s c t u ks o k (going_on g) (frozen f) = frozen (record {
  same = g.cycle ∙ f.same;
  cut_off = cut_on t u k g c f.same;
  fields = λ m d. dead-fields t u k g c f.same m d ∙ f.fields m d;
  handles = λ m d. handle-same t u m (f.cut_off.live m d) ((cut_on t u k g c f.same).live m d) (dead-held t u k g c f.same m d) ∙ f.handles m d;
})
follow-step s c t u ks o k (snapping p) (frozen f) = absurd (none_some c (sym p.snapshot.closed ∙ f.same))
follow-step s c t u ks o k (resolving p) (frozen f) = closes s t u c f (ap (λ (z : Managed). z.cycle) p.is) (ap (λ (z : Managed). z.cycles) p.is)
follow-step s c t u ks o k (abandoning p) (frozen f) = closes s t u c f (ap (λ (z : Managed). z.cycle) p.is) (ap (λ (z : Managed). z.cycles) p.is)
follow-step s c t u ks o k (going_on g) (passed l n) = passed (omega (arith, l, g.cycles)) (λ e q. n e (sym g.cycle ∙ q))
follow-step s c t u ks o k (snapping p) (passed l n) = passed (omega (arith, l, ap (λ (z : Managed). z.cycles) p.is)) (λ e q. newer e (same_Some _ e (sym (ap (λ (z : Managed). z.cycle) p.is) ∙ q)))
  where
    newer : (e : OpenCycle) → record { number = t.cycles + 1; candidates = p.candidates; dead = p.dead } ≡ e → c.number < e.number
    newer e q = omega (arith, l, ap (λ (z : OpenCycle). z.number) q)
follow-step s c t u ks o k (resolving p) (passed l n) = passed (omega (arith, l, ap (λ (z : Managed). z.cycles) p.is)) (λ e q. absurd (none_some e (sym (ap (λ (z : Managed). z.cycle) p.is) ∙ q)))
follow-step s c t u ks o k (abandoning p) (passed l n) = passed (omega (arith, l, ap (λ (z : Managed). z.cycles) p.is)) (λ e q. absurd (none_some e (sym (ap (λ (z : Managed). z.cycle) p.is) ∙ q)))

-- beside what is kept
record Kept (s : Managed) (c : OpenCycle) (t : Linkage) : Type 0 where
  kept : ReplayInvariant t.managed
  follows : Follows s c t.managed.managed

pub dead_part_is_frozen : DeadPartIsFrozen
dead_part_is_frozen noted a i more c e oc oe same = out (end.follows)
  where
    s : Managed
    s = managed_at noted i

    start : Kept s c (state_at noted i)
    start = record {
      kept = managed_invariant_stands noted a i;
      follows = frozen (record { same = oc; cut_off = (managed_invariant_stands noted a i).managed.dead c oc; fields = λ m d. refl; handles = λ m d. refl });
    }

    end : Kept s c (state_at noted (i + more))
    end = from_state (Kept s c) (λ t n w k. record {
      kept = ReplayInvariant-entry t n w k.kept;
      follows = follow-step s c t.managed.managed (linkage_after t n).managed.managed (managed_invariant_stands noted a i).managed oc k.kept.managed (ManagedStep-entry t n w k.kept) k.follows;
    }) noted a i more start

    out : Follows s c (managed_at noted (i + more)) → IsFrozenSince s (managed_at noted (i + more)) c
    out (frozen f) = f
    out (passed l n) = absurd (omega (arith, n e oe, same))
