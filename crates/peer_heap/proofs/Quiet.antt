-- An entry that mirrors no cycle, and weakens and restores no handle, leaves what the entries tell of mirrored cycles;
-- and what they brought back stays as handles are issued.
use Rattle.std.proofs.Common.{◌≡◌, ℕ, zero, suc, ◌≤◌, List, [], ◌∷◌, ◌++◌, length, drop, Option, Some, None, refl, sym, ap, subst, ◌∙◌, arith}
use Rattle.std.specs.Prelude.{All, Contains}
use Rattle.std.proofs.lemmas.List.{append-nil, length_push}
use Rattle.std.proofs.lemmas.List.Elements.{All-drop, All-head, All-push, All-tail, All-weaker}
use Rattle.joint_machine.specs.declared.lines.Act.TheVariants as act
use Rattle.joint_machine.specs.declared.events.Entry.{Entry}
use Rattle.joint_machine.specs.declared.events.Op.{Op}
use Rattle.joint_machine.specs.declared.events.Op.TheVariants as op
use Rattle.joint_machine.specs.declared.events.Reply.{Reply}
use Rattle.joint_machine.specs.declared.events.Reply.TheVariants as says
use Rattle.joint_machine.specs.declared.names.Thread.{Thread}
use Rattle.joint_machine.specs.Heaps.{numbered_at}
use Rattle.joint_machine.specs.Peers.{Issued}
use Rattle.joint_machine.specs.PeerReplay.{PeerReplay, Mirror, opening_peer_replay}
use Rattle.joint_machine.proofs.Deciding.{none_some}
use Rattle.joint_machine.proofs.Members.{Contains-here, Contains-nil}
use Rattle.peer_heap.specs.declared.mirroring.OpenMirror.{OpenMirror}
use Rattle.peer_heap.specs.Makings.{IsMarkEvent}
use Rattle.peer_heap.specs.MirrorLaws.{HasFurther}
use Rattle.peer_heap.specs.Mirrors.{Mirrors, AreMirrored, IsDue, given_at, given_since, told_since, mirror_as, mirror_in, mirrors_in, mirrored_at, weakened_at, restored_at}
use Rattle.peer_heap.specs.Sides.{IsKnown, brought_at, brought_by, brought_since, mirror_state, peers_at, revived_in}
use Rattle.peer_heap.specs.Steps.{IsPeerStep}
use Rattle.peer_heap.proofs.Dues.{given-push, told-still}
use Rattle.peer_heap.proofs.Grown.{step-gives, step-mirrors, step-restores, step-weakens}

-- the event mirrors no cycle, and weakens and restores no handle
pub record IsQuiet (o : Op) : Type 0 where
  pub mirrors : mirrored_at o ≡ []
  pub weakens : weakened_at o ≡ []
  pub restores : restored_at o ≡ []
  pub gives : (r : Reply) → given_at o r ≡ []

pub step-quiet : (t : Thread) (o : Op) → IsPeerStep t o → IsQuiet o
step-quiet t o w = record { mirrors = step-mirrors t o w; weakens = step-weakens t o w; restores = step-restores t o w; gives = step-gives t o w }

pub mark-quiet : (o : Op) → IsMarkEvent o → IsQuiet o
mark-quiet op.Begin w = record { mirrors = refl; weakens = refl; restores = refl; gives = λ r. refl }
mark-quiet op.Sweep w = record { mirrors = refl; weakens = refl; restores = refl; gives = λ r. refl }
mark-quiet _ w = absurd w

-- the mirrored cycle is as it was
mirror-still : (es : List Entry) (e : Entry) (m : OpenMirror) → m.from ≤ length es → IsQuiet e.made.op → mirror_as (es ++ e ∷ []) m ≡ mirror_as es m
mirror-still es e m le q =
    let all = es ++ e ∷ [] in
    ap (λ (l : List ℕ). (let z : Mirror = record { cycle = m.cycle.0; snap = m.snap; weakened = l; restored = told_since restored_at m.from all; renewed = given_since m.from all } in z))
    (told-still weakened_at m.from es e le q.weakens)
    ∙ (ap (λ (l : List ℕ). (let z : Mirror = record { cycle = m.cycle.0; snap = m.snap; weakened = told_since weakened_at m.from es; restored = l; renewed = given_since m.from all } in z))
    (told-still restored_at m.from es e le q.restores)
    ∙ ap (λ (l : List ℕ). (let z : Mirror = record { cycle = m.cycle.0; snap = m.snap; weakened = told_since weakened_at m.from es; restored = told_since restored_at m.from es; renewed = l } in z))
    (given-push m.from es e le ∙ (ap (λ l. given_since m.from es ++ l) (q.gives e.made.reply) ∙ append-nil (given_since m.from es))))

in-still : (es : List Entry) (e : Entry) (o : Option OpenMirror) → AreMirrored es o → IsQuiet e.made.op → mirror_in (es ++ e ∷ []) o ≡ mirror_in es o
in-still es e None w q = refl
in-still es e (Some m) w q = ap (λ z. Some z) (mirror-still es e m w.from q)

pub state-still : (es : List Entry) (e : Entry) (m : Mirrors) → AreMirrored es m.mirror → IsQuiet e.made.op → mirror_state (es ++ e ∷ []) m ≡ mirror_state es m
state-still es e m w q =
    ap (λ x. (let z : PeerReplay = record opening_peer_replay { mirror = x; mirrors = mirrors_in (es ++ e ∷ []) } in z)) (in-still es e m.mirror w q)
    ∙ ap (λ l. (let z : PeerReplay = record opening_peer_replay { mirror = mirror_in es m.mirror; mirrors = l } in z)) (told-still mirrored_at 0 es e (omega arith) q.mirrors)

pub mirrored-still : (es after : List Entry) (e : Entry) (o : Option OpenMirror) → after ≡ es ++ e ∷ [] → AreMirrored es o → IsQuiet e.made.op → AreMirrored after o
mirrored-still es after e None added w q = tt
mirrored-still es after e (Some m) added w q = rw added (record {
  from = omega (arith, w.from, length_push es e);
  due = subst (λ z. IsDue z m.due) (sym (mirror-still es e m w.from q)) w.due;
})

-- a number of a list stays in a longer one
pub numbered-more : {X : Type 0} (xs ys : List X) (h : ℕ) (x : X) → numbered_at xs h ≡ Some x → numbered_at (xs ++ ys) h ≡ Some x
numbered-more xs ys zero x e = absurd (none_some x e)
numbered-more [] ys (suc i) x e = absurd (none_some x e)
numbered-more (y ∷ xs) ys (suc zero) x e = e
numbered-more (y ∷ xs) ys (suc (suc i)) x e = numbered-more xs ys (suc i) x e

-- what was issued stays issued
known-more : (issued more : List Issued) (e : Entry) → IsKnown issued e → IsKnown (issued ++ more) e
known-more issued more e k = λ h c. (let w = k h c in (w.0, numbered-more issued more h w.0 w.1))

pub known-grown : (old new : List Issued) (es : List Entry) → HasFurther old new → All (IsKnown old) es → All (IsKnown new) es
known-grown old new es grown known = subst (λ is. All (IsKnown is) es) (sym grown.1) (All-weaker (IsKnown old) (IsKnown (old ++ grown.0)) (λ e k. known-more old grown.0 e k) es known)

pub known-push : (issued : List Issued) (es after : List Entry) (e : Entry) → after ≡ es ++ e ∷ [] → IsKnown issued e → All (IsKnown issued) es → All (IsKnown issued) after
known-push issued es after e added here known = rw added (All-push (IsKnown issued) es e known here)

pub known-next : (old new : List Issued) (es after : List Entry) (e : Entry) → after ≡ es ++ e ∷ [] → HasFurther old new → IsQuiet e.made.op → All (IsKnown old) es → All (IsKnown new) after
known-next old new es after e added grown q known =
    known-push new es after e added (λ h c. absurd (Contains-nil h (subst (λ l. Contains l h) q.restores c))) (known-grown old new es grown known)

-- so what was brought back stays
revived-more : (issued more : List Issued) (h : ℕ) (r : Reply) → ((i : Issued) × (numbered_at issued h ≡ Some i)) → revived_in (issued ++ more) h r ≡ revived_in issued h r
revived-more issued more h (says.Renewed g) w = ap (λ o. peers_at (elim o [ None ↦ None | Some i ↦ Some i.peer ])) (numbered-more issued more h w.0 w.1 ∙ sym w.1)
revived-more issued more h _ w = refl

one-more : (issued more : List Issued) (o : Op) (r : Reply) → ((h : ℕ) → Contains (restored_at o) h → (i : Issued) × (numbered_at issued h ≡ Some i))
    → brought_at (issued ++ more) o r ≡ brought_at issued o r
one-more issued more (op.Restore h) r k = revived-more issued more h.0 r (k h.0 (Contains-here h.0 []))
one-more issued more (op.Line (act.WRead v g)) r k = refl
one-more issued more (op.Land h x) r k = refl
one-more issued more _ r k = refl

all-more : (issued more : List Issued) (es : List Entry) → All (IsKnown issued) es → brought_by (issued ++ more) es ≡ brought_by issued es
all-more issued more [] k = refl
all-more issued more (e ∷ es) k =
    ap (λ l. l ++ brought_by (issued ++ more) es) (one-more issued more e.made.op e.made.reply (All-head (IsKnown issued) e es k))
    ∙ ap (λ l. brought_at issued e.made.op e.made.reply ++ l) (all-more issued more es (All-tail (IsKnown issued) e es k))

pub brought-more : (old new : List Issued) (n : ℕ) (es : List Entry) → HasFurther old new → All (IsKnown old) es → brought_since new n es ≡ brought_since old n es
brought-more old new n es grown known = ap (λ is. brought_since is n es) grown.1 ∙ all-more old grown.0 (drop n es) (All-drop (IsKnown old) n es known)

-- nothing was issued
pub not-grown : (old new : List Issued) → new ≡ old → HasFurther old new
not-grown old new same = ([], same ∙ sym (append-nil old), omega arith)
