-- An entry of a history is a step of the joint machine to one state at most: what is told beside it of freed rows is
-- what its reply names, and the rest of what is told is exact.
use Rattle.std.proofs.Common.{◌≡◌, ℕ, inl, inr, List, Option, Some, None, sym, ap, subst, ◌∙◌}
use Rattle.std.specs.Prelude.{Contains}
use Rattle.joint_machine.specs.declared.names.Cycle.{Cycle}
use Rattle.joint_machine.specs.declared.names.Thread.{Thread}
use Rattle.joint_machine.specs.declared.events.Entry.{Entry}
use Rattle.joint_machine.specs.declared.events.Op.{Op}
use Rattle.joint_machine.specs.declared.events.Op.TheVariants as op
use Rattle.joint_machine.specs.declared.events.Reply.{Reply}
use Rattle.joint_machine.specs.declared.events.Reply.TheVariants as says
use Rattle.joint_machine.specs.Heaps.{with_freed}
use Rattle.joint_machine.specs.Histories.{Finished}
use Rattle.joint_machine.specs.Joint.{Joint, JointMarking}
use Rattle.joint_machine.specs.Lines.{IsEvent}
use Rattle.joint_machine.specs.Run.{JointEvent, JointSnap, JointSweep, JointResolve, EndsMarking, RefusesSweep}
use Rattle.joint_machine.specs.Told.{Told, snap_of, sweep_of, resolution_of}
use Rattle.joint_machine.proofs.Members.{Rises-one}
use Rattle.joint_laws.proofs.OneRun.{one-step}
use Rattle.joint_replay.specs.Judging.{IsStepOf, IsTold}

-- with one witness an event leaves one state
same-told : (j : Joint) (t : Thread) (o : Op) (r : Reply) (x : Told) (a b : Joint) → IsEvent t o → JointEvent j t o r x a → JointEvent j t o r x b → a ≡ b
same-told j t o r x a b ev w v =
    one-step j (record { entry = record { number = 0; made = record { caller = t; index = 0; op = o; reply = r; cites = None } }; told = x }) a b
    (record { event = ev; step = w }) (record { event = ev; step = v })

-- a snapshot's lists are exact
snaps-one : (j : Joint) (k : ℕ) (f c d f' c' d' : List ℕ) (r : Reply) (a b : Joint) → JointSnap j k f c d r a → JointSnap j k f' c' d' r b → snap_of f c d ≡ snap_of f' c' d'
snaps-one j k f c d f' c' d' r a b w v =
    let p = w.snapshot in
    let q = v.snapshot in
    let x : f ≡ f' = Rises-one f f' p.freed_rise q.freed_rise (λ m z. (q.frees m).1 ((p.frees m).0 z)) (λ m z. (p.frees m).1 ((q.frees m).0 z)) in
    let y : c ≡ c' = Rises-one c c' p.candidates_rise q.candidates_rise (λ m z. (q.picks m).1 ((p.picks m).0 z)) (λ m z. (p.picks m).1 ((q.picks m).0 z)) in
    let z : d ≡ d' = Rises-one d d' p.dead_rise q.dead_rise
    (λ m u. let l = (p.leaves m).0 u in (q.leaves m).1 (l.0, l.1, λ n. l.2 (subst (λ s. Contains s m) (sym x) n)))
    (λ m u. let l = (q.leaves m).0 u in (p.leaves m).1 (l.0, l.1, λ n. l.2 (subst (λ s. Contains s m) x n))) in
    λ i. snap_of (x i) (y i) (z i)

-- a sweep that frees and one that is refused have two replies
not-both : (j : Joint) (m : JointMarking) (t : Thread) (f : List ℕ) (r : Reply) (a b : Joint) → EndsMarking j m t f r a → RefusesSweep j m t r b → ⊥
not-both j m t f r a b w v = (let e : says.Swept _ _ ≡ says.MarkOpen _ = sym w.replies ∙ v.replies in cc)

sweeps-one : (h : Finished) (j : Joint) (mk : Option JointMarking) (t : Thread) (r : Reply) (x y : Told) (a b : Joint) → IsTold h r x → IsTold h r y
    → JointSweep j mk t r x a → JointSweep j mk t r y b → a ≡ b
sweeps-one h j None t r x y a b p q w v = w.2 ∙ sym v.2
sweeps-one h j (Some m) t r (sweep_of f) (sweep_of g) a b p q w v = elim w [
  | inl c ↦ elim v [
    | inl d ↦ c.state ∙ (ap (λ z. record j { graph = record j.graph { peers = record j.graph.peers { heap = with_freed j.graph.peers.heap z } }; marking = None }) (p ∙ sym q) ∙ sym d.state)
    | inr d ↦ absurd (not-both j m t f r a b c d)
  ]
  | inr c ↦ elim v [ inl d ↦ absurd (not-both j m t g r b a d c) | inr d ↦ c.state ∙ sym d.state ]
]
sweeps-one h j (Some m) t r (sweep_of f) _ a b p q w v = elim w [ inl c ↦ absurd (not-both j m t f r a b c v) | inr c ↦ c.state ∙ sym v.state ]
sweeps-one h j (Some m) t r _ (sweep_of g) a b p q w v = elim v [ inl d ↦ absurd (not-both j m t g r b a d w) | inr d ↦ w.state ∙ sym d.state ]
sweeps-one h j (Some m) t r _ _ a b p q w v = w.state ∙ sym v.state

resolves-one : (h : Finished) (j : Joint) (t : Thread) (k : Cycle) (r : Reply) (x y : Told) (a b : Joint) → IsEvent t (op.Resolve k) → IsTold h r x → IsTold h r y
    → JointEvent j t (op.Resolve k) r x a → JointEvent j t (op.Resolve k) r y b → a ≡ b
resolves-one h j t k r (resolution_of l f) (resolution_of l' f') a b ev p q w v =
    same-told j t (op.Resolve k) r (resolution_of l f) a b ev w (subst (λ z. JointResolve j k.0 z r b) (q ∙ sym p) v)
resolves-one h j t k r (resolution_of l f) _ a b ev p q w v = absurd v
resolves-one h j t k r _ y a b ev p q w v = absurd w

snap-one : (j : Joint) (t : Thread) (k : Cycle) (r : Reply) (x y : Told) (a b : Joint) → IsEvent t (op.Snap k) → JointEvent j t (op.Snap k) r x a → JointEvent j t (op.Snap k) r y b → a ≡ b
snap-one j t k r (snap_of f c d) (snap_of f' c' d') a b ev w v =
    same-told j t (op.Snap k) r (snap_of f c d) a b ev w (subst (λ z. JointEvent j t (op.Snap k) r z b) (sym (snaps-one j k.0 f c d f' c' d' r a b w v)) v)
snap-one j t k r (snap_of f c d) _ a b ev w v = absurd v
snap-one j t k r _ y a b ev w v = absurd w

events-one : (h : Finished) (j : Joint) (t : Thread) (o : Op) (r : Reply) (x y : Told) (a b : Joint) → IsEvent t o → IsTold h r x → IsTold h r y
    → JointEvent j t o r x a → JointEvent j t o r y b → a ≡ b
events-one h j t (op.Snap k) r x y a b ev p q w v = snap-one j t k r x y a b ev w v
events-one h j t op.Sweep r x y a b ev p q w v = sweeps-one h j j.marking t r x y a b p q w v
events-one h j t (op.Resolve k) r x y a b ev p q w v = resolves-one h j t k r x y a b ev p q w v
events-one h j t o r x y a b ev p q w v = same-told j t o r x a b ev w v

pub step_is_one : (h : Finished) (e : Entry) (j a b : Joint) → IsStepOf h e j a → IsStepOf h e j b → a ≡ b
step_is_one h e j a b x y = events-one h j e.made.caller e.made.op e.made.reply x.told y.told a b x.step.step.event x.named y.named x.step.step.step y.step.step.step
