-- Verdicts under another name of their steps. An entry's event has one of the joint machine's steps, so a verdict on
-- that step is the verdict on the entry.
use Rattle.std.proofs.Common.{[], ◌≡◌, ℕ, ◌⊎◌, inl, inr, true, Option, Some, None, Result, Ok, Err, IfOk, refl, sym, ap, subst, ◌∙◌, false, ◌&&◌, true≢false}
use Rattle.joint_machine.specs.declared.names.Thread.{Thread}
use Rattle.joint_machine.specs.declared.names.Cycle.{Cycle}
use Rattle.joint_machine.specs.declared.names.Var.{Var}
use Rattle.joint_machine.specs.declared.names.Kind.{Kind}
use Rattle.joint_machine.specs.declared.names.Sort.{Sort}
use Rattle.joint_machine.specs.declared.names.PNum.{PNum}
use Rattle.joint_machine.specs.declared.names.HNum.{HNum}
use Rattle.joint_machine.specs.declared.names.StaticNo.{StaticNo}
use Rattle.joint_machine.specs.declared.lines.Act.{Act}
use Rattle.joint_machine.specs.declared.events.Op.{Op}
use Rattle.joint_machine.specs.declared.events.Op.TheVariants as op
use Rattle.joint_machine.specs.declared.events.Reply.{Reply}
use Rattle.joint_machine.specs.declared.events.Entry.{Entry}
use Rattle.joint_machine.specs.Heaps.{Answered}
use Rattle.joint_machine.specs.Histories.{Finished}
use Rattle.joint_machine.specs.Joint.{Joint, JointMarking}
use Rattle.joint_machine.specs.Lines.{IsEvent, is_read}
use Rattle.joint_machine.specs.Run.{JointEvent, JointComputed, JointAbandon, JointSnap, JointBegin, JointSweep, JointRestore, JointResolve, joint_answer, joint_line, is_joint}
use Rattle.joint_machine.specs.Readers.{is_set_aside}
use Rattle.joint_machine.specs.Told.{Told, nothing, snap_of, contraction_of, references_of, slice_of, sweep_of, resolution_of, phase_of, kept_pins}
use Rattle.joint_replay.specs.declared.state.Verdict.{Verdict}
use Rattle.joint_replay.specs.declared.state.Verdict.TheVariants.{Lawful, Unlawful}
use Rattle.joint_replay.specs.Judging.{Decides, Judges, JudgesStep, IsStepOf, IsJointStepOf, IsTold, Gives, named_objects, named_peers}
use Rattle.joint_replay.specs.Snaps.{SnapsJoint}

-- steps of another kind that are the same
pub Decides-as : {S : Type 0} (p q : S → Type 0) → ((n : S) → p n → q n) → ((n : S) → q n → p n) → (v : Verdict) (old new : S) → Decides p v old new → Decides q v old new
Decides-as p q to from Lawful old new d = to new d
Decides-as p q to from Unlawful old new d = (λ n s. d.0 n (from n s), d.1)

-- a step of the entry's event, with something that may be told beside it
pub record Told_step (h : Finished) (e : Entry) (j next : Joint) (o : Op) : Type 0 where
  pub told : Told
  pub named : IsTold h e.made.reply told
  pub step : JointEvent j e.made.caller o e.made.reply told next

-- a verdict on the steps of the entry's event
pub judged : (h : Finished) (e : Entry) (j : Joint) (o : Op) (step : Joint → Type 0) → e.made.op ≡ o → IsEvent e.made.caller e.made.op
    → ((next : Joint) → Told_step h e j next o → step next) → ((next : Joint) → step next → Told_step h e j next o)
    → (v : Verdict) (new : Joint) → Decides step v j new → JudgesStep h e v j new
judged h e j o step same event from to v new = Decides-as step (IsJointStepOf h e j)
    (λ n s. (let w = to n s in record { told = w.told; named = w.named; step = record { event = event; step = subst (λ x. JointEvent j e.made.caller x e.made.reply w.told n) (sym same) w.step } }))
    (λ n s. from n (record { told = s.told; named = s.named; step = subst (λ x. JointEvent j e.made.caller x e.made.reply s.told n) same s.step.step }))
    v j new

-- the same of a call's result
pub judged-ok : {E : Type 0} (h : Finished) (e : Entry) (j : Joint) (step : Joint → Type 0) (new : Joint) → ((v : Verdict) → Decides step v j new → JudgesStep h e v j new)
    → (r : Result Verdict E) → IfOk r (λ v. Decides step v j new) → IfOk r (λ v. JudgesStep h e v j new)
judged-ok h e j step new f (Ok v) d = f v d
judged-ok h e j step new f (Err x) d = d

-- a computed event
given : (j : Joint) (t : Thread) (o : Op) (reply : Reply) (a : Answered Joint) (next : Joint) → joint_answer j t o ≡ a → JointComputed j t o reply next → Gives a reply next
given j t o reply a next e s = record { replies = s.replies ∙ ap (λ (x : Answered Joint). x.reply) e; state = s.state ∙ ap (λ (x : Answered Joint). x.state) e }

computed : (j : Joint) (t : Thread) (o : Op) (reply : Reply) (a : Answered Joint) (next : Joint) → is_joint o ≡ true → joint_answer j t o ≡ a → Gives a reply next → JointComputed j t o reply next
computed j t o reply a next c e s = record { joint = c; replies = s.replies ∙ ap (λ (x : Answered Joint). x.reply) (sym e); state = s.state ∙ ap (λ (x : Answered Joint). x.state) (sym e) }

-- a verdict on the steps of a computed event
judged-computed : (h : Finished) (e : Entry) (j : Joint) (o : Op) → is_joint o ≡ true
    → ((told : Told) (n : Joint) → JointEvent j e.made.caller o e.made.reply told n → JointComputed j e.made.caller o e.made.reply n)
    → ((n : Joint) → JointComputed j e.made.caller o e.made.reply n → JointEvent j e.made.caller o e.made.reply nothing n)
    → e.made.op ≡ o → IsEvent e.made.caller e.made.op → (d : Verdict) (new : Joint) → Decides (Gives (joint_answer j e.made.caller o) e.made.reply) d j new → JudgesStep h e d j new
judged-computed h e j o c from to same event = judged h e j o _ same event
    (λ n s. given j e.made.caller o e.made.reply _ n refl (from s.told n s.step))
    (λ n s. record { told = nothing; named = tt; step = to n (computed j e.made.caller o e.made.reply _ n c refl s) })

pub judged-line : (h : Finished) (e : Entry) (j : Joint) (a : Act) → e.made.op ≡ op.Line a → IsEvent e.made.caller e.made.op → is_joint e.made.op ≡ true → (d : Verdict) (new : Joint)
    → Decides (Gives (joint_line j e.made.caller a) e.made.reply) d j new → JudgesStep h e d j new
judged-line h e j a same event joint = judged-computed h e j (op.Line a) (subst (λ o. is_joint o ≡ true) same joint) (λ told n s. s) (λ n s. s) same event

-- an operation of a managed thread on the peers and handles
abbrev pub IsOnHandles : Op → Type 0
IsOnHandles o = ((sort : Sort) × (n : ℕ) × (o ≡ op.Make sort n)) ⊎ (((h : HNum) × (x : StaticNo) × (o ≡ op.Land h x)) ⊎ (((x : StaticNo) × (o ≡ op.Grip x)) ⊎ ((h : HNum) × (o ≡ op.Release h))))

pub judged-handles : (h : Finished) (e : Entry) (j : Joint) → IsOnHandles e.made.op → IsEvent e.made.caller e.made.op → (d : Verdict) (new : Joint)
    → Decides (Gives (joint_answer j e.made.caller e.made.op) e.made.reply) d j new → JudgesStep h e d j new
judged-handles h e j (inl w) event d new x = judged-computed h e j (op.Make w.0 w.1) refl (λ told n s. s)
    (λ n s. s) w.2 event d new (subst (λ o. Decides (Gives (joint_answer j e.made.caller o) e.made.reply) d j new) w.2 x)
judged-handles h e j (inr (inl w)) event d new x = judged-computed h e j (op.Land w.0 w.1) refl (λ told n s. s)
    (λ n s. s) w.2 event d new (subst (λ o. Decides (Gives (joint_answer j e.made.caller o) e.made.reply) d j new) w.2 x)
judged-handles h e j (inr (inr (inl w))) event d new x = judged-computed h e j (op.Grip w.0) refl (λ told n s. s)
    (λ n s. s) w.1 event d new (subst (λ o. Decides (Gives (joint_answer j e.made.caller o) e.made.reply) d j new) w.1 x)
judged-handles h e j (inr (inr (inr w))) event d new x = judged-computed h e j (op.Release w.0) refl (λ told n s. s)
    (λ n s. s) w.1 event d new (subst (λ o. Decides (Gives (joint_answer j e.made.caller o) e.made.reply) d j new) w.1 x)

-- an operation of a managed thread on the objects
abbrev pub IsOnObjects : Op → Type 0
IsOnObjects o = ((v : Var) × (kind : Kind) × (n : ℕ) × (p : PNum) × (h : HNum) × (o ≡ op.Adopt v kind n p h))
    ⊎ (((v : Var) × (x : StaticNo) × (o ≡ op.Lend v x)) ⊎ (((v : Var) × (sort : Sort) × (n : ℕ) × (p : PNum) × (h : HNum) × (o ≡ op.Meet v sort n p h)) ⊎ ((v : Var) × (o ≡ op.Give v))))

pub judged-objects : (h : Finished) (e : Entry) (j : Joint) → IsOnObjects e.made.op → IsEvent e.made.caller e.made.op → (d : Verdict) (new : Joint)
    → Decides (Gives (joint_answer j e.made.caller e.made.op) e.made.reply) d j new → JudgesStep h e d j new
judged-objects h e j (inl w) event d new x = judged-computed h e j (op.Adopt w.0 w.1 w.2 w.3 w.4) refl (λ told n s. s)
    (λ n s. s) w.5 event d new (subst (λ o. Decides (Gives (joint_answer j e.made.caller o) e.made.reply) d j new) w.5 x)
judged-objects h e j (inr (inl w)) event d new x = judged-computed h e j (op.Lend w.0 w.1) refl (λ told n s. s)
    (λ n s. s) w.2 event d new (subst (λ o. Decides (Gives (joint_answer j e.made.caller o) e.made.reply) d j new) w.2 x)
judged-objects h e j (inr (inr (inl w))) event d new x = judged-computed h e j (op.Meet w.0 w.1 w.2 w.3 w.4) refl (λ told n s. s)
    (λ n s. s) w.5 event d new (subst (λ o. Decides (Gives (joint_answer j e.made.caller o) e.made.reply) d j new) w.5 x)
judged-objects h e j (inr (inr (inr w))) event d new x = judged-computed h e j (op.Give w.0) refl (λ told n s. s)
    (λ n s. s) w.1 event d new (subst (λ o. Decides (Gives (joint_answer j e.made.caller o) e.made.reply) d j new) w.1 x)

pub judged-restore : (h : Finished) (e : Entry) (j : Joint) (g : HNum) → e.made.op ≡ op.Restore g → IsEvent e.made.caller e.made.op → (d : Verdict) (new : Joint)
    → Decides (JointRestore j g.0 e.made.reply) d j new → JudgesStep h e d j new
judged-restore h e j g same event = judged h e j (op.Restore g) _ same event (λ n s. s.step) (λ n s. record { told = nothing; named = tt; step = s })

pub judged-abandon : (h : Finished) (e : Entry) (j : Joint) (k : Cycle) → e.made.op ≡ op.Abandon k → IsEvent e.made.caller e.made.op → (d : Verdict) (new : Joint)
    → Decides (JointAbandon j k.0 e.made.reply) d j new → JudgesStep h e d j new
judged-abandon h e j k same event = judged h e j (op.Abandon k) _ same event (λ n s. s.step) (λ n s. record { told = nothing; named = tt; step = s })

-- a snapshot, with what its reply names
snap-from : (h : Finished) (e : Entry) (j next : Joint) (k : Cycle) (told : Told) → IsTold h e.made.reply told
    → JointEvent j e.made.caller (op.Snap k) e.made.reply told next → SnapsJoint j k.0 (named_objects h e.made.reply) e.made.reply next
snap-from h e j next k (snap_of freed candidates dead) named s = record { candidates = candidates; dead = dead; snap = subst (λ l. JointSnap j k.0 l candidates dead e.made.reply next) named s }
snap-from h e j next k (kept_pins pins told) named s = absurd s
snap-from h e j next k nothing named s = absurd s
snap-from h e j next k (contraction_of comps heavy xrefs) named s = absurd s
snap-from h e j next k (references_of refs) named s = absurd s
snap-from h e j next k (slice_of closure) named s = absurd s
snap-from h e j next k (sweep_of freed) named s = absurd s
snap-from h e j next k (resolution_of alive freed) named s = absurd s
snap-from h e j next k (phase_of phase) named s = absurd s

pub judged-snap : (h : Finished) (e : Entry) (j : Joint) (k : Cycle) → e.made.op ≡ op.Snap k → IsEvent e.made.caller e.made.op → (d : Verdict) (new : Joint)
    → Decides (SnapsJoint j k.0 (named_objects h e.made.reply) e.made.reply) d j new → JudgesStep h e d j new
judged-snap h e j k same event = judged h e j (op.Snap k) _ same event
    (λ n s. snap-from h e j n k s.told s.named s.step)
    (λ n s. record { told = snap_of (named_objects h e.made.reply) s.candidates s.dead; named = refl; step = s.snap })

-- a resolution, with what its reply names
resolve-from : (h : Finished) (e : Entry) (j next : Joint) (k : Cycle) (told : Told) → IsTold h e.made.reply told
    → JointEvent j e.made.caller (op.Resolve k) e.made.reply told next → JointResolve j k.0 (named_objects h e.made.reply) e.made.reply next
resolve-from h e j next k (resolution_of alive freed) named s = subst (λ l. JointResolve j k.0 l e.made.reply next) named s
resolve-from h e j next k (kept_pins pins told) named s = absurd s
resolve-from h e j next k nothing named s = absurd s
resolve-from h e j next k (contraction_of comps heavy xrefs) named s = absurd s
resolve-from h e j next k (references_of refs) named s = absurd s
resolve-from h e j next k (slice_of closure) named s = absurd s
resolve-from h e j next k (sweep_of freed) named s = absurd s
resolve-from h e j next k (snap_of freed candidates dead) named s = absurd s
resolve-from h e j next k (phase_of phase) named s = absurd s

pub judged-resolve : (h : Finished) (e : Entry) (j : Joint) (k : Cycle) → e.made.op ≡ op.Resolve k → IsEvent e.made.caller e.made.op → (d : Verdict) (new : Joint)
    → Decides (JointResolve j k.0 (named_objects h e.made.reply) e.made.reply) d j new → JudgesStep h e d j new
judged-resolve h e j k same event = judged h e j (op.Resolve k) _ same event
    (λ n s. resolve-from h e j n k s.told s.named s.step)
    (λ n s. record { told = resolution_of [] (named_objects h e.made.reply); named = refl; step = s })

-- a begin
pub judged-begin : (h : Finished) (e : Entry) (j : Joint) → e.made.op ≡ op.Begin → IsEvent e.made.caller e.made.op → (d : Verdict) (new : Joint)
    → Decides (JointBegin j j.marking e.made.caller e.made.reply) d j new → JudgesStep h e d j new
judged-begin h e j same event = judged h e j op.Begin _ same event (λ n s. s.step) (λ n s. record { told = nothing; named = tt; step = s })

-- a sweep, with what its reply names
sweep-from : (h : Finished) (t : Thread) (reply : Reply) (j next : Joint) (mk : Option JointMarking) (told : Told)
    → IsTold h reply told → JointSweep j mk t reply told next → JointSweep j mk t reply (sweep_of (named_peers h reply)) next
sweep-from h t reply j next None told named s = s
sweep-from h t reply j next (Some m) (sweep_of freed) named s = subst (λ l. JointSweep j (Some m) t reply (sweep_of l) next) named s
sweep-from h t reply j next (Some m) (kept_pins pins told) named s = inr s
sweep-from h t reply j next (Some m) nothing named s = inr s
sweep-from h t reply j next (Some m) (contraction_of comps heavy xrefs) named s = inr s
sweep-from h t reply j next (Some m) (references_of refs) named s = inr s
sweep-from h t reply j next (Some m) (slice_of closure) named s = inr s
sweep-from h t reply j next (Some m) (snap_of freed candidates dead) named s = inr s
sweep-from h t reply j next (Some m) (resolution_of alive freed) named s = inr s
sweep-from h t reply j next (Some m) (phase_of phase) named s = inr s

pub judged-sweep : (h : Finished) (e : Entry) (j : Joint) → e.made.op ≡ op.Sweep → IsEvent e.made.caller e.made.op → (d : Verdict) (new : Joint)
    → Decides (JointSweep j j.marking e.made.caller e.made.reply (sweep_of (named_peers h e.made.reply))) d j new → JudgesStep h e d j new
judged-sweep h e j same event = judged h e j op.Sweep _ same event
    (λ n s. sweep-from h e.made.caller e.made.reply j n j.marking s.told s.named s.step)
    (λ n s. record { told = sweep_of (named_peers h e.made.reply); named = refl; step = s })

-- a read that is set aside is no step, and every other entry is one where it is one of the machine in which reads are
-- as all others are
pub counted : (h : Finished) (e : Entry) (j : Joint) (new : Joint) → (is_read e.made.op && is_set_aside e.made.reply) ≡ false → (v : Verdict) → JudgesStep h e v j new → Judges h e v j new
counted h e j new f Lawful s = record { told = s.told; named = s.named; step = record { step = s.step; counts = f } }
counted h e j new f Unlawful s = (λ n t. s.0 n (record { told = t.told; named = t.named; step = t.step.step }), s.1)

pub set-aside : (h : Finished) (e : Entry) (j next : Joint) → (is_read e.made.op && is_set_aside e.made.reply) ≡ true → IsStepOf h e j next → ⊥
set-aside h e j next f t = true≢false (sym f ∙ t.step.counts)
