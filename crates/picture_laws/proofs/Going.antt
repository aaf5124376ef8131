-- Beside a lawful list of entries with lock-free reads goes what is seen: each entry is gone on by, and the joint state
-- that is seen is that of both sides' states.
use Rattle.std.proofs.Common.{◌≡◌, ℕ, zero, suc, Bool, true, false, ◌&&◌, List, [], ◌∷◌, take, Option, Some, None, refl, sym, ap, subst, ◌∙◌}
use Rattle.std.specs.Prelude.{if◌then◌else◌, slice_get}
use Rattle.std.proofs.lemmas.Option.{same_Some}
use Rattle.joint_machine.specs.declared.names.Cycle.{Cycle}
use Rattle.joint_machine.specs.declared.names.Thread.{Thread}
use Rattle.joint_machine.specs.declared.names.Thread.TheVariants.{M, P, C}
use Rattle.joint_machine.specs.declared.events.Entry.{Entry}
use Rattle.joint_machine.specs.declared.events.Op.{Op}
use Rattle.joint_machine.specs.declared.events.Op.TheVariants as op
use Rattle.joint_machine.specs.Components.{End}
use Rattle.joint_machine.specs.Control.{CallerAllows, DriverAllows, Stand, contracted}
use Rattle.joint_machine.specs.Cycles.{IsDeadContraction}
use Rattle.joint_machine.specs.Histories.{Finished}
use Rattle.joint_machine.specs.Joint.{Joint}
use Rattle.joint_machine.specs.Lines.{IsEvent, is_read}
use Rattle.joint_machine.specs.Linked.{Linkage, MayCome, linkage_after}
use Rattle.joint_machine.specs.Readers.{is_aside, is_set_aside}
use Rattle.joint_machine.specs.Replaying.{AllMayCome, replayed}
use Rattle.joint_machine.specs.Run.{JointStep, is_joint}
use Rattle.joint_machine.specs.Told.{Told, Noted, references_of}
use Rattle.joint_machine.proofs.Deciding.{none_some}
use Rattle.joint_laws.specs.LinkedInvariants.{DriverInvariant}
use Rattle.joint_laws.specs.ReadingLaws.{without_aside}
use Rattle.joint_laws.proofs.JointRuns.{Stands, state_of, Enters, by_step, at_rest, enters}
use Rattle.joint_laws.proofs.ReadsAside.{without-cons}
use Rattle.known_laws.specs.PastEntries.{entries}
use Rattle.joint_replay.specs.Judging.{IsStepOf, IsTold}
use Rattle.heap_views.specs.Mirrored.{AreMirrored}
use Rattle.heap_views.specs.Views.{View, RefsAfter, Seen, StepBy, ViewStep, is_step, weakened_after}
use Rattle.picture_laws.proofs.OneStep.{step_is_one}

-- of each entry the freed rows that are told are those that its reply names
abbrev pub AllNamed : Finished → List Noted → Type 0
AllNamed h [] = Unit {0}
AllNamed h (n ∷ ns) = IsTold h n.entry.made.reply n.told × AllNamed h ns

-- the references after an event: those of a mirror are given
refs-after : (old : View) (o : Op) → ((k : Cycle) → o ≡ op.Mirror k → (next : List (End × End)) × AreMirrored old.joint.graph next) → (next : List (End × End)) × RefsAfter old o next
refs-after old (op.Mirror k) m = m k refl
refs-after old (op.Clear k) m = ([], refl)
refs-after old _ m = (old.refs, refl)

-- what a mirror adds that may come: the edges of the driver's contraction, carried to the peers
mirrors : (s : Linkage) (w : Stands s) (n : Noted) → MayCome s n → (k : Cycle) → n.entry.made.op ≡ op.Mirror k → (j : Joint) → j ≡ state_of s w → (next : List (End × End)) × AreMirrored j.graph next
mirrors s w n may k e j at = subst (λ (z : Joint). (next : List (End × End)) × AreMirrored z.graph next) (sym at)
    (by n.entry.made.caller (subst (λ o. IsEvent n.entry.made.caller o) e may.event)
    (subst (λ o. CallerAllows s.control s.managed.managed s.peer.peers.issued n.entry.made.caller n.entry.made.index o n.entry.made.reply n.entry.made.cites n.told) e may.order))
  where
    at-stand : (d : Stand) (cites : Option ℕ) (told : Told) → DriverInvariant s.managed s.peer d
        → DriverAllows d s.managed.managed s.peer.peers.issued (op.Mirror k) n.entry.made.reply cites told
        → (next : List (End × End)) × AreMirrored (state_of s w).graph next
    at-stand (contracted o comps heavy xrefs) cites (references_of refs) d m = (
      refs,
      record {
        comps = comps;
        heavy = heavy;
        xrefs = xrefs;
        contraction = subst (λ c. IsDeadContraction s.managed.managed (elim c [ None ↦ [] | Some x ↦ x.dead ]) comps heavy xrefs) (sym d.before.opened.cycle) d.contraction;
        carried = m.2;
      },
    )
    at-stand (contracted o comps heavy xrefs) cites _ d m = absurd m
    at-stand _ cites told d m = absurd m

    by : (t : Thread) → IsEvent t (op.Mirror k) → CallerAllows s.control s.managed.managed s.peer.peers.issued t n.entry.made.index (op.Mirror k) n.entry.made.reply n.entry.made.cites n.told
        → (next : List (End × End)) × AreMirrored (state_of s w).graph next
    by C v m = at-stand s.control.stand n.entry.made.cites n.told w.kept.driver m
    by (M t) v m = absurd v
    by (P t) v m = absurd v

-- a read is no mirror
read-mirrors-none : (o : Op) (k : Cycle) → is_read o ≡ true → o ≡ op.Mirror k → ⊥
read-mirrors-none o k r e = (let f : false ≡ true = sym (ap is_read e) ∙ r in cc)

aside-reads : (a b : Bool) → (a && b) ≡ true → a ≡ true
aside-reads true b e = refl
aside-reads false b e = e

-- an entry that is no step is gone on by, and leaves the joint state
module _ (h : Finished) (n : Noted) (e : is_step n.entry ≡ false) (old : View) where
  rests-goes : ((k : Cycle) → n.entry.made.op ≡ op.Mirror k → (next : List (End × End)) × AreMirrored old.joint.graph next) → (new : View) × ViewStep h n.entry old new
  rests-goes m =
      let r = refs-after old n.entry.made.op m in
      let new : View = record { joint = old.joint; weakened = weakened_after old.weakened n.entry.made.op; refs = r.0 } in
      (new, subst (λ b. StepBy b h n.entry old new) (sym e) (record { joint = refl; weakened = refl; refs = r.1 }))

  rests-one : (new : View) → ViewStep h n.entry old new → new.joint ≡ old.joint
  rests-one new s = (subst (λ b. StepBy b h n.entry old new) e s).joint

-- and so is one that is a step, from the joint state of both sides
module _ (h : Finished) (n : Noted) (told : IsTold h n.entry.made.reply n.told) (e : is_step n.entry ≡ true) (counts : is_aside n ≡ false)
    (i j : Joint) (step : JointStep i n j) (old : View) (at : old.joint ≡ i) where
  own : IsStepOf h n.entry old.joint j
  own = subst (λ z. IsStepOf h n.entry z j) (sym at) (record { told = n.told; named = told; step = record { step = step; counts = counts } })

  moves-goes : (new : View) × ViewStep h n.entry old new
  moves-goes =
      let new : View = record { joint = j; weakened = old.weakened; refs = old.refs } in
      (new, subst (λ b. StepBy b h n.entry old new) (sym e) (record { step = own; weakened = refl; refs = refl }))

  moves-one : (new : View) → ViewStep h n.entry old new → new.joint ≡ j
  moves-one new s = step_is_one h n.entry old.joint new.joint j (subst (λ b. StepBy b h n.entry old new) e s).step own

step-by : (n : Noted) (a b : Bool) → is_aside n ≡ a → is_joint n.entry.made.op ≡ b → is_step n.entry ≡ (if a then false else b)
step-by n a b e f = λ i. if e i then false else f i

-- what is so behind an entry
record Next (h : Finished) (n : Noted) (ns : List Noted) (s : Linkage) (w : Stands s) : Type 0 where
  after : Linkage
  stands : Stands after
  may : AllMayCome after (without_aside ns)
  ends : replayed s (without_aside (n ∷ ns)) ≡ replayed after (without_aside ns)
  one : (old new : View) → old.joint ≡ state_of s w → ViewStep h n.entry old new → new.joint ≡ state_of after stands
  goes : (old : View) → old.joint ≡ state_of s w → (new : View) × ViewStep h n.entry old new

next : (h : Finished) (n : Noted) (ns : List Noted) (s : Linkage) (w : Stands s) → IsTold h n.entry.made.reply n.told → AllMayCome s (without_aside (n ∷ ns)) → Next h n ns s w
next h n ns s w told may = by (is_aside n) refl
  where
    entered : is_aside n ≡ false → MayCome s n → AllMayCome (linkage_after s n) (without_aside ns) → Enters s w n → Next h n ns s w
    entered e c m (by_step t v st) = record {
      after = linkage_after s n;
      stands = v;
      may = m;
      ends = ap (replayed s) (without-cons n ns false e);
      one = λ old new q. moves-one h n told (step-by n false true e t) e (state_of s w) (state_of (linkage_after s n) v) st old q new;
      goes = λ old q. moves-goes h n told (step-by n false true e t) e (state_of s w) (state_of (linkage_after s n) v) st old q;
    }
    entered e c m (at_rest t v same) = record {
      after = linkage_after s n;
      stands = v;
      may = m;
      ends = ap (replayed s) (without-cons n ns false e);
      one = λ old new q g. rests-one h n (step-by n false false e t) old new g ∙ (q ∙ sym same);
      goes = λ old q. rests-goes h n (step-by n false false e t) old (λ k f. mirrors s w n c k f old.joint q);
    }

    by : (b : Bool) → is_aside n ≡ b → Next h n ns s w
    by true e = record {
      after = s;
      stands = w;
      may = subst (AllMayCome s) (without-cons n ns true e) may;
      ends = ap (replayed s) (without-cons n ns true e);
      one = λ old new q g. rests-one h n (step-by n true (is_joint n.entry.made.op) e refl) old new g ∙ q;
      goes = λ old q. rests-goes h n (step-by n true (is_joint n.entry.made.op) e refl) old
          (λ k f. absurd (read-mirrors-none n.entry.made.op k (aside-reads (is_read n.entry.made.op) (is_set_aside n.entry.made.reply) e) f));
    }
    by false e = (let m = subst (AllMayCome s) (without-cons n ns false e) may in entered e m.0 m.1 (enters s w n m.0))

-- a joint state is that of a linked one
pub record Shows (s : Linkage) (j : Joint) : Type 0 where
  pub stands : Stands s
  pub is : j ≡ state_of s stands

module _ (h : Finished) where
  pub seen_goes : (ns : List Noted) (s : Linkage) (w : Stands s) → AllNamed h ns → AllMayCome s (without_aside ns) → (old : View) → old.joint ≡ state_of s w
      → (new : View) × Seen h old (entries ns) new
  seen_goes [] s w m a old q = (old, refl)
  seen_goes (n ∷ ns) s w m a old q =
      let x = next h n ns s w m.0 a in
      let g = x.goes old q in
      let r = seen_goes ns x.after x.stands m.1 x.may g.0 (x.one old g.0 q g.1) in
      (r.0, (g.0, g.1, r.1))

  -- whatever is seen before an entry, it is gone on by
  pub seen_goes_on : (ns : List Noted) (s : Linkage) (w : Stands s) → AllNamed h ns → AllMayCome s (without_aside ns) → (old : View) → old.joint ≡ state_of s w
      → (place : ℕ) (before : View) → Seen h old (take place (entries ns)) before → (e : Entry) → slice_get (entries ns) place ≡ Some e → (new : View) × ViewStep h e before new
  seen_goes_on [] s w m a old q place before seen e there = absurd (none_some e there)
  seen_goes_on (n ∷ ns) s w m a old q zero before seen e there =
      let g = (next h n ns s w m.0 a).goes old q in
      (g.0, subst (λ z. ViewStep h z before g.0) (same_Some n.entry e there) (subst (λ v. ViewStep h n.entry v g.0) (sym seen) g.1))
  seen_goes_on (n ∷ ns) s w m a old q (suc place) before seen e there =
      let x = next h n ns s w m.0 a in
      seen_goes_on ns x.after x.stands m.1 x.may seen.0 (x.one old seen.0 q seen.1) place before seen.2 e there

  -- what is seen behind all entries
  pub seen_shows : (ns : List Noted) (s : Linkage) (w : Stands s) → AllNamed h ns → AllMayCome s (without_aside ns) → (old new : View) → old.joint ≡ state_of s w
      → Seen h old (entries ns) new → Shows (replayed s (without_aside ns)) new.joint
  seen_shows [] s w m a old new q seen = record { stands = w; is = ap (λ (v : View). v.joint) seen ∙ q }
  seen_shows (n ∷ ns) s w m a old new q seen =
      let x = next h n ns s w m.0 a in
      subst (λ t. Shows t new.joint) (sym x.ends) (seen_shows ns x.after x.stands m.1 x.may seen.0 new (x.one old seen.0 q seen.1) seen.2)
