-- Which handles may be restored: those that a candidate of the open cycle holds, and that aren't removed.
use Rattle.std.proofs.Common.{◌≡◌, ℕ, ◌⊎◌, ◌↔◌, inl, inr, ⊎_elim, IsTrue, Bool, true, false, not, List, [], ◌∷◌, Option, Some, None, refl, sym, ap, subst, ◌∙◌, eq-eqb, true≢false}
use Rattle.std.specs.Prelude.{MatchOption}
use Rattle.std.specs.List.{All, Contains}
use Rattle.std.proofs.lemmas.Bool.{false≢true, cases_Bool, eqb-true}
use Rattle.std.proofs.lemmas.List.Elements.{All-nil, All-cons, All-contains}
use Rattle.joint_machine.specs.declared.events.Reply.{Reply}
use Rattle.joint_machine.specs.Heaps.{IsMade, numbered_at}
use Rattle.joint_machine.specs.Joint.{Joint}
use Rattle.joint_machine.specs.Managed.{Managed, OpenCycle, handle_of}
use Rattle.joint_machine.specs.Peers.{peer_of}
use Rattle.joint_machine.specs.Run.{JointRestore, is_that_handle}
use Rattle.joint_machine.proofs.Deciding.{none_some, some-same}
use Rattle.joint_machine.proofs.HeapLemmas.{Holds-handle_of}
use Rattle.joint_machine.proofs.Members.{Contains-here, Contains-there}
use Rattle.joint_replay.specs.Snaps.{HasCandidate, MayRestore}
use Rattle.joint_replay.proofs.Snapping.{holds-made}

that-handle : (o : Option ℕ) (h : ℕ) → is_that_handle o h ≡ true → o ≡ Some h
that-handle None h e = absurd (false≢true e)
that-handle (Some g) h e = ap (λ z. Some z) (eqb-true g h e)

-- some element of a list passes a test, or none does
some-or-none : (test : ℕ → Bool) (xs : List ℕ) → ((m : ℕ) × Contains xs m × (test m ≡ true)) ⊎ All (λ m. test m ≡ false) xs
some-or-none test [] = inr (All-nil (λ m. test m ≡ false))
some-or-none test (x ∷ xs) = ⊎_elim
    (λ t. inl (x, Contains-here x xs, t))
    (λ f. ⊎_elim (λ w. inl (w.0, Contains-there w.0 x xs w.1, w.2)) (λ n. inr (All-cons (λ m. test m ≡ false) x xs f n)) (some-or-none test xs))
    (cases_Bool (test x))

pub candidate-found : (s : Managed) (c : OpenCycle) (h : ℕ) (b : Bool) → s.cycle ≡ Some c → All (IsMade s.heap) c.candidates
    → IsTrue b ↔ All (λ m. is_that_handle (handle_of s m) h ≡ false) c.candidates → IsTrue (not b) ↔ HasCandidate s h
candidate-found s c h b e made w = (λ t. found t (some-or-none (λ m. is_that_handle (handle_of s m) h) c.candidates), λ k. passes b refl k)
  where
    not-both : (b : Bool) → not b ≡ true → b ≡ true → ⊥
    not-both true t u = false≢true t
    not-both false t u = false≢true u

    found : IsTrue (not b) → ((m : ℕ) × Contains c.candidates m × (is_that_handle (handle_of s m) h ≡ true)) ⊎ All (λ m. is_that_handle (handle_of s m) h ≡ false) c.candidates → HasCandidate s h
    found t (inl k) = (c, e, (k.0, k.1, holds-made s k.0 h (All-contains (IsMade s.heap) c.candidates k.0 made k.1) (that-handle (handle_of s k.0) h k.2)))
    found t (inr n) = absurd (not-both b t (w.1 n))

    passes : (x : Bool) → b ≡ x → HasCandidate s h → not x ≡ true
    passes false i k = refl
    passes true i k =
        let same : k.0 ≡ c = some-same k.0 c (sym k.1 ∙ e) in
        let there : Contains c.candidates k.2.0 = subst (λ (z : OpenCycle). Contains z.candidates k.2.0) same k.2.1 in
        let off : is_that_handle (handle_of s k.2.0) h ≡ false = All-contains (λ m. is_that_handle (handle_of s m) h ≡ false) c.candidates k.2.0 (w.0 i) there in
        let on : is_that_handle (handle_of s k.2.0) h ≡ true = ap (λ o. is_that_handle o h) (Holds-handle_of s k.2.0 h k.2.2) ∙ eq-eqb h h refl in
        absurd (true≢false (sym on ∙ off))

pub may-restore : (j : Joint) (h : ℕ) (o : Option ℕ) → HasCandidate j.graph.managed h → numbered_at j.graph.removed h ≡ Some false → o ≡ peer_of j.graph.peers.issued h
    → MatchOption o ((reply : Reply) → (next : Joint) → JointRestore j h reply next → ⊥) (λ p. MayRestore j h p)
may-restore j h None w k e = λ reply next y. none_some y.peer (e ∙ y.leads)
may-restore j h (Some p) w k e = record { candidate = w; kept = k; leads = sym e }
