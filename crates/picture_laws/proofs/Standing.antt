-- The references go on entry by entry: a mirror sets them, a clear takes them, and no other entry changes them.
use Rattle.std.proofs.Common.{◌≡◌, ℕ, zero, suc, ◌+◌, ◌<◌, inl, inr, Bool, true, false, if◌then◌else◌, List, [], ◌∷◌, ◌++◌, Some, length, take, refl, sym, ap, subst, ◌∙◌, arith}
use Rattle.std.specs.Prelude.{◌&&◌, slice_get}
use Rattle.joint_machine.specs.declared.events.Op.{Op}
use Rattle.joint_machine.specs.declared.events.Op.TheVariants as op
use Rattle.joint_machine.specs.declared.events.Reply.{Reply}
use Rattle.joint_machine.specs.declared.events.Entry.{Entry}
use Rattle.joint_machine.specs.Components.{End, mirror_edges}
use Rattle.joint_machine.specs.Control.{carried_edges}
use Rattle.joint_machine.specs.Histories.{Finished}
use Rattle.joint_machine.specs.Lines.{is_read}
use Rattle.joint_machine.specs.Readers.{is_set_aside}
use Rattle.joint_machine.specs.Run.{is_joint}
use Rattle.joint_machine.proofs.Deciding.{some-same, true-false}
use Rattle.joint_machine.proofs.Members.{last-or, take-next}
use Rattle.known_laws.proofs.OneContraction.{is_one_contraction}
use Rattle.joint_replay.specs.Plain.{dead_of}
use Rattle.heap_views.specs.Mirrored.{AreMirrored}
use Rattle.heap_views.specs.Views.{RefsAfter, Seen, StepBy, View, ViewStep, is_step, opening_view}
use Rattle.picture_laws.specs.Standing.{IsClearAt, IsMirrorAt, MirroredAreOne, ReferencesStand, SeenReferencesStand, is_clear, is_mirror}

-- a step of the joint machine is neither a mirror nor a clear
moved : (o : Op) (r : Reply) (old : View) (next : List (End × End)) → (if is_read o && is_set_aside r then false else is_joint o) ≡ true → next ≡ old.refs → RefsAfter old o next
moved (op.Mirror k) r old next s e = absurd (cc)
moved (op.Clear k) r old next s e = absurd (cc)
moved _ r old next s e = e

after : (h : Finished) (e : Entry) (old new : View) → ViewStep h e old new → RefsAfter old e.made.op new.refs
after h e old new step = by (is_step e) refl step
  where
    by : (b : Bool) → is_step e ≡ b → StepBy b h e old new → RefsAfter old e.made.op new.refs
    by true s m = moved e.made.op e.made.reply old new.refs s m.refs
    by false s m = m.refs

-- what is seen after one entry more
split : (h : Finished) (old : View) (es : List Entry) (e : Entry) (new : View) → Seen h old (es ++ e ∷ []) new → (mid : View) × Seen h old es mid × ViewStep h e mid new
split h old [] e new s = (old, refl, subst (λ v. ViewStep h e old v) (sym s.2) s.1)
split h old (x ∷ es) e new s =
    let r = split h s.0 es e new s.2 in
    (r.0, (s.0, s.1, r.1), r.2)

entry-at : (es : List Entry) (i : ℕ) → i < length es → (e : Entry) × (slice_get es i ≡ Some e)
entry-at [] i l = absurd (omega (arith, l))
entry-at (e ∷ es) zero l = (e, refl)
entry-at (e ∷ es) (suc i) l = entry-at es i (omega (arith, l))

-- the entry at a place is one
same-entry : (h : Finished) (i m : ℕ) (e f : Entry) → slice_get h.entries m ≡ Some e → slice_get h.entries i ≡ Some f → i ≡ m → f ≡ e
same-entry h i m e f at there s = some-same f e (sym there ∙ (ap (λ k. slice_get h.entries k) s ∙ at))

not-mirror : (h : Finished) (i m : ℕ) (e : Entry) → slice_get h.entries m ≡ Some e → is_mirror e.made.op ≡ false → i ≡ m → IsMirrorAt h i → ⊥
not-mirror h i m e at never s w = true-false (is_mirror e.made.op) (ap (λ (f : Entry). is_mirror f.made.op) (sym (same-entry h i m e w.0 at w.1 s)) ∙ w.2) never

not-clear : (h : Finished) (i m : ℕ) (e : Entry) → slice_get h.entries m ≡ Some e → is_clear e.made.op ≡ false → i ≡ m → IsClearAt h i → ⊥
not-clear h i m e at never s w = true-false (is_clear e.made.op) (ap (λ (f : Entry). is_clear f.made.op) (sym (same-entry h i m e w.0 at w.1 s)) ∙ w.2) never

module _ (h : Finished) (m : ℕ) (e : Entry) (at : slice_get h.entries m ≡ Some e) (mid new : View) (seen : Seen h opening_view (take m h.entries) mid) where
  -- an entry that changes nothing
  same : is_mirror e.made.op ≡ false → is_clear e.made.op ≡ false → new.refs ≡ mid.refs → ReferencesStand h m mid.refs → ReferencesStand h (m + 1) new.refs
  same never none r (inl s) = inl (record {
    place = s.place;
    within = (let w = s.within in omega (arith, w));
    mirror = s.mirror;
    last = λ i lo hi c. elim (last-or i m hi) [
      | inl l ↦ s.last i lo l c
      | inr q ↦ elim c [ inl w ↦ not-mirror h i m e at never q w | inr w ↦ not-clear h i m e at none q w ]
    ];
    before = s.before;
    seen = s.seen;
    added = subst (λ (refs : List (End × End)). AreMirrored s.before.joint.graph refs) (sym r) s.added;
  })
  same never none r (inr s) = inr (record {
    none = r ∙ s.none;
    cleared = λ i l w. elim (last-or i m l) [
      | inl k ↦ (let c = s.cleared i k w in (c.0, c.1, omega (arith, c.2), c.3))
      | inr q ↦ absurd (not-mirror h i m e at never q w)
    ];
  })

  next : (o : Op) → e.made.op ≡ o → RefsAfter mid o new.refs → ReferencesStand h m mid.refs → ReferencesStand h (m + 1) new.refs
  next (op.Mirror k) is r before = inl (record {
    place = m;
    within = omega arith;
    mirror = (e, at, ap is_mirror is);
    last = λ i lo hi c. omega (arith, lo, hi);
    before = mid;
    seen = seen;
    added = r;
  })
  next (op.Clear k) is r before = inr (record {
    none = r;
    cleared = λ i l w. elim (last-or i m l) [
      | inl b ↦ (m, b, omega arith, (e, at, ap is_clear is))
      | inr q ↦ absurd (not-mirror h i m e at (ap is_mirror is) q w)
    ];
  })
  next _ is r before = same (ap is_mirror is) (ap is_clear is) r before

pub references_stand : SeenReferencesStand
references_stand h zero v l s = inr (record { none = ap (λ (w : View). w.refs) s; cleared = λ i k w. absurd (omega (arith, k)) })
references_stand h (suc m) v l s =
    let t = entry-at h.entries m (omega (arith, l)) in
    let one : suc m ≡ m + 1 = omega arith in
    let longer : take (suc m) h.entries ≡ take m h.entries ++ t.0 ∷ [] = ap (λ k. take k h.entries) one ∙ take-next h.entries m t.0 t.1 in
    let r = split h opening_view (take m h.entries) t.0 v (subst (λ es. Seen h opening_view es v) longer s) in
    let before = references_stand h m r.0 (omega (arith, l)) r.1 in
    subst (λ k. ReferencesStand h k v.refs) (sym one) (next h m t.0 t.1 r.0 v r.1 t.0.made.op refl (after h t.0 r.0 v r.2) before)

-- the contraction of a dead part is one, and so are its mirror edges
pub mirrored_are_one : MirroredAreOne
mirrored_are_one g refs others a b =
    let s = g.managed in
    let one = is_one_contraction s (dead_of s) a.comps b.comps a.heavy b.heavy a.xrefs b.xrefs a.contraction b.contraction in
    a.carried
    ∙ (ap (λ (cs : List (List ℕ)). carried_edges s g.peers.issued (mirror_edges cs a.xrefs)) one.0
    ∙ (ap (λ (xs : List (ℕ × ℕ)). carried_edges s g.peers.issued (mirror_edges b.comps xs)) one.2 ∙ sym b.carried))
