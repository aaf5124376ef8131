-- Each lawful managed entry goes on, or is a snapshot, a resolution or an abandonment, on the managed objects.
use Rattle.std.proofs.Common.{◌≡◌, ℕ, List, Option, Some, None, refl, sym, subst}
use Rattle.joint_machine.specs.declared.names.Thread.{Thread}
use Rattle.joint_machine.specs.declared.events.Op.{Op}
use Rattle.joint_machine.specs.declared.events.Op.TheVariants as op
use Rattle.joint_machine.specs.declared.events.Reply.{Reply}
use Rattle.joint_machine.specs.declared.events.Reply.TheVariants as says
use Rattle.joint_machine.specs.Heaps.{IsLive, Answered, place, slot}
use Rattle.joint_machine.specs.Managed.{Managed, OpenCycle, adopted, met, given_up, with_snapshot, resolved, abandoned}
use Rattle.joint_machine.specs.Cycles.{IsSnapshot, IsResolution, IsAnsweredAlive}
use Rattle.joint_machine.specs.ManagedReplay.{ManagedReplay, registered, meet_by, give_by, managed_answer, ManagedAllows}
use Rattle.joint_machine.specs.Run.{thread_number}
use Rattle.joint_machine.specs.Told.{Told, nothing, snap_of, contraction_of, resolution_of, phase_of, Answer}
use Rattle.joint_machine.proofs.HeapLemmas.{adopt_by-managed}
use Rattle.joint_laws.specs.ManagedInvariants.{ReplayInvariant}
use Rattle.joint_laws.proofs.Registered.{registered-some}
use Rattle.joint_laws.proofs.ManagedMoves.{GoesOn, GoesOn-stay, managed_line-goes_on, adopted-goes_on, met-goes_on, given_up-goes_on}

pub record Snaps (s t : Managed) : Type 0 where
  pub number : ℕ
  pub freed : List ℕ
  pub candidates : List ℕ
  pub dead : List ℕ
  pub snapshot : IsSnapshot s number freed candidates dead
  pub is : t ≡ with_snapshot s freed candidates dead

pub record Resolves (s t : Managed) : Type 0 where
  pub cycle : OpenCycle
  pub was_open : s.cycle ≡ Some cycle
  pub alive : List Answer
  pub freed : List ℕ
  pub resolution : IsResolution s cycle.dead (IsAnsweredAlive cycle.candidates alive) freed
  pub is : t ≡ resolved s alive freed

pub record Abandons (s t : Managed) : Type 0 where
  pub cycle : OpenCycle
  pub was_open : s.cycle ≡ Some cycle
  pub is : t ≡ abandoned s

pub data ManagedStep (s t : Managed) : Type 0 where
  going_on : GoesOn s t → ManagedStep s t
  snapping : Snaps s t → ManagedStep s t
  resolving : Resolves s t → ManagedStep s t
  abandoning : Abandons s t → ManagedStep s t

pub meet_by-managed : (s : ManagedReplay) (p h : ℕ) (after : Managed) (r : Reply) → (meet_by s p h after r).state.managed ≡ after
meet_by-managed s p h after (says.New m) = refl
meet_by-managed s p h after _ = refl

pub give_by-managed : (s : ManagedReplay) (o : Option ℕ) (a : Answered Managed) → (give_by s o a).state.managed ≡ a.state
give_by-managed s None a = refl
give_by-managed s (Some m) a = refl

pub meet_by-reply : (s : ManagedReplay) (p h : ℕ) (after : Managed) (r : Reply) → (meet_by s p h after r).reply ≡ r
meet_by-reply s p h after (says.New m) = refl
meet_by-reply s p h after _ = refl

pub give_by-reply : (s : ManagedReplay) (o : Option ℕ) (a : Answered Managed) → (give_by s o a).reply ≡ a.reply
give_by-reply s None a = refl
give_by-reply s (Some m) a = refl

stays : (s : ManagedReplay) → ManagedStep s.managed s.managed
stays s = going_on (GoesOn-stay s.managed)

goes : (s t u : Managed) → u ≡ t → GoesOn s t → ManagedStep s u
goes s t u e g = going_on (subst (λ z. GoesOn s z) (sym e) g)

pub twin-live : (s : ManagedReplay) (p m : ℕ) → ReplayInvariant s → registered s.registry p ≡ Some m → IsLive s.managed.heap m
twin-live s p m k e = (k.pairs p m (registered-some s.registry p m e)).1.live

pub managed_step : (s : ManagedReplay) (t : Thread) (o : Op) (told : Told) → ReplayInvariant s → ManagedAllows s o told → ManagedStep s.managed (managed_answer s t o told).state.managed
managed_step s t (op.Line a) told k w = going_on (managed_line-goes_on s.managed (thread_number t) a k.managed.places k.managed.cells)
managed_step s t (op.Adopt v kind n p h) told k w =
    let a = adopted s.managed (place (thread_number t) v.0) kind n h.0 in
    goes s.managed a.state _ (adopt_by-managed s p.0 h.0 a.state a.reply) (adopted-goes_on s.managed (place (thread_number t) v.0) kind n h.0 k.managed.places)
managed_step s t (op.Lend v x) told k w = stays s
managed_step s t (op.Meet v sort n p h) told k w =
    let a = met s.managed (place (thread_number t) v.0) h.0 sort n (registered s.registry p.0) in
    goes s.managed a.state _ (meet_by-managed s p.0 h.0 a.state a.reply)
    (met-goes_on s.managed (place (thread_number t) v.0) h.0 sort n (registered s.registry p.0) k.managed.places (λ m e. twin-live s p.0 m k e))
managed_step s t (op.Give v) told k w =
    let u = place (thread_number t) v.0 in
    goes s.managed (given_up s.managed u).state _ (give_by-managed s (slot s.managed.heap.vars u) (given_up s.managed u)) (given_up-goes_on s.managed u)
managed_step s t (op.Snap n) (snap_of freed candidates dead) k w = snapping (record { number = n.0; freed = freed; candidates = candidates; dead = dead; snapshot = w; is = refl })
managed_step s t (op.Contract n) (contraction_of comps heavy xrefs) k w = stays s
managed_step s t (op.Resolve n) (resolution_of alive freed) k w = resolving (record { cycle = w.cycle; was_open = w.open_cycle.0; alive = alive; freed = freed; resolution = w.resolution; is = refl })
managed_step s t (op.Abandon n) nothing k w = abandoning (record { cycle = w.0; was_open = w.1.0; is = refl })
managed_step s t (op.Refused r) (phase_of phase) k w = stays s
managed_step s t _ _ k w = absurd w
