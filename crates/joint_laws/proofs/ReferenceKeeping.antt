-- The mirrored references stay kept: as the heap changes, as handles are issued, and as the mirror comes, has handles
-- weakened and restored, and goes.
use Rattle.std.proofs.Common.{◌≡◌, ℕ, inl, inr, List, [], ◌∷◌, ◌++◌, Option, Some, None, refl, sym, subst, ◌∙◌}
use Rattle.std.specs.Prelude.{Contains}
use Rattle.std.proofs.lemmas.Option.{same_Some}
use Rattle.std.proofs.lemmas.List.Elements.{Contains-push_cases}
use Rattle.joint_machine.specs.Heaps.{Heap, IsMade, IsLive}
use Rattle.joint_machine.specs.Peers.{Issued, held}
use Rattle.joint_machine.specs.PeerReplay.{Mirror, with_weakened, with_restored, with_given, Refers}
use Rattle.joint_laws.specs.PeerInvariants.{IsIssued, ReferencesInvariant}
use Rattle.joint_machine.proofs.Members.{Contains-nil}
use Rattle.joint_machine.proofs.Numbered.{numbered-within, numbered-push_old}
use Rattle.joint_machine.proofs.Deciding.{none_some}
use Rattle.joint_machine.specs.Components.{End}
use Rattle.joint_laws.proofs.Through.{Refers-none}

-- the handle was issued as a held one
abbrev pub WasHeld : List Issued → ℕ → Type 0
WasHeld issued n = (i : Issued) × IsIssued issued n i × (i.hold ≡ held)

pub WasHeld-push : (issued : List Issued) (new : Issued) (n : ℕ) → WasHeld issued n → WasHeld (issued ++ new ∷ []) n
WasHeld-push issued new n w = (w.0, numbered-push_old issued new n (numbered-within issued n w.0 w.1).1 ∙ w.1, w.2)

-- no reference stands
pub ReferencesInvariant-none : (h : Heap) (issued : List Issued) → ReferencesInvariant h issued [] None
ReferencesInvariant-none h issued = record {
  made = λ p q c. absurd (Refers-none p q c);
  live = λ p q c l. absurd (Refers-none p q c);
  none = λ e p q c. Refers-none p q c;
  weakened = λ m n e c. absurd (none_some m e);
}

pub ReferencesInvariant-heap : (h k : Heap) (issued : List Issued) (refs : List (End × End)) (mirror : Option Mirror) → ReferencesInvariant h issued refs mirror
    → ((x : ℕ) → IsMade h x → IsMade k x) → ((x : ℕ) → IsMade h x → IsLive k x → IsLive h x) → ((x : ℕ) → IsLive h x → IsLive k x) → ReferencesInvariant k issued refs mirror
ReferencesInvariant-heap h k issued refs mirror r made back live = record {
  made = λ p q c. made p (r.made p q c);
  live = λ p q c l. live q (r.live p q c (back p (r.made p q c) l));
  none = r.none;
  weakened = r.weakened;
}

pub ReferencesInvariant-issue : (h : Heap) (issued : List Issued) (refs : List (End × End)) (mirror : Option Mirror) (new : Issued)
    → ReferencesInvariant h issued refs mirror → ReferencesInvariant h (issued ++ new ∷ []) refs mirror
ReferencesInvariant-issue h issued refs mirror new r = record { made = r.made; live = r.live; none = r.none; weakened = λ m n e c. WasHeld-push issued new n (r.weakened m n e c) }

-- a handle is weakened, and restored, in the mirrored cycle
pub ReferencesInvariant-weakened : (h : Heap) (issued : List Issued) (refs : List (End × End)) (mirror : Option Mirror) (n : ℕ)
    → ReferencesInvariant h issued refs mirror → WasHeld issued n → ReferencesInvariant h issued refs (with_weakened mirror n)
ReferencesInvariant-weakened h issued refs None n r w = r
ReferencesInvariant-weakened h issued refs (Some m) n r w = record {
  made = r.made;
  live = r.live;
  none = λ e p q c. absurd (none_some _ (sym e));
  weakened = λ k x e c. elim (Contains-push_cases m.weakened n x (subst (λ (z : Mirror). Contains z.weakened x) (sym (same_Some _ k e)) c)) [
    | inl d ↦ r.weakened m x refl d
    | inr q ↦ subst (WasHeld issued) q w
  ];
}

pub ReferencesInvariant-restored : (h : Heap) (issued : List Issued) (refs : List (End × End)) (mirror : Option Mirror) (n : ℕ)
    → ReferencesInvariant h issued refs mirror → ReferencesInvariant h issued refs (with_restored mirror n)
ReferencesInvariant-restored h issued refs None n r = r
ReferencesInvariant-restored h issued refs (Some m) n r = record {
  made = r.made;
  live = r.live;
  none = λ e p q c. absurd (none_some _ (sym e));
  weakened = λ k x e c. r.weakened m x refl (subst (λ (z : Mirror). Contains z.weakened x) (sym (same_Some _ k e)) c);
}

pub ReferencesInvariant-given : (h : Heap) (issued : List Issued) (refs : List (End × End)) (mirror : Option Mirror) (n : ℕ)
    → ReferencesInvariant h issued refs mirror → ReferencesInvariant h issued refs (with_given mirror n)
ReferencesInvariant-given h issued refs None n r = r
ReferencesInvariant-given h issued refs (Some m) n r = record {
  made = r.made;
  live = r.live;
  none = λ e p q c. absurd (none_some _ (sym e));
  weakened = λ k x e c. r.weakened m x refl (subst (λ (z : Mirror). Contains z.weakened x) (sym (same_Some _ k e)) c);
}

-- references come to stand
pub ReferencesInvariant-mirrored : (h : Heap) (issued : List Issued) (refs : List (End × End)) (cycle snap : ℕ) → ((p q : ℕ) → Refers refs p q → IsLive h p × IsLive h q)
    → ReferencesInvariant h issued refs (Some record { cycle = cycle; snap = snap; weakened = []; restored = []; renewed = [] })
ReferencesInvariant-mirrored h issued refs cycle snap l = record {
  made = λ p q c. (l p q c).0.made;
  live = λ p q c m. (l p q c).1;
  none = λ e p q c. absurd (none_some _ (sym e));
  weakened = λ k x e c. absurd (Contains-nil x (subst (λ (z : Mirror). Contains z.weakened x) (sym (same_Some _ k e)) c));
}
