-- The dead part of an open cycle, as it is seen in managed objects: it is that of later ones, as long as the cycle is
-- open.
use Rattle.std.proofs.Common.{◌≡◌, ℕ, List, [], length, Option, Some, None, refl, sym, ap, ◌∙◌, subst}
use Rattle.std.specs.Prelude.{slice_get}
use Rattle.joint_machine.specs.Control.{IsCandidateHandle}
use Rattle.joint_machine.specs.Managed.{Managed, OpenCycle, candidates_of}
use Rattle.joint_machine.specs.ManagedReplay.{ManagedReplay}
use Rattle.joint_machine.specs.PinsTold.{with_pins}
use Rattle.joint_machine.proofs.Deciding.{none_some}
use Rattle.joint_machine.proofs.HeapLemmas.{candidates_of-open}
use Rattle.joint_machine.proofs.Members.{Contains-at}
use Rattle.joint_laws.specs.ManagedInvariants.{ManagedInvariant}
use Rattle.known_laws.specs.Pasts.{HasSameDeadPart}
use Rattle.known_laws.proofs.Pinned.{contraction_to}

pub dead_part_self : (s : Managed) → HasSameDeadPart s s
dead_part_self s = record { cycle = refl; handles = λ c e m w. refl; fields = λ c e m w. refl; contraction = λ c e comps heavy xrefs d. d }

-- pins are no part of it
pub dead_part_pinned : (r : ManagedReplay) (pins : List (Option ℕ)) → HasSameDeadPart r.managed (with_pins r pins).managed
dead_part_pinned r pins = record { cycle = refl; handles = λ c e m w. refl; fields = λ c e m w. refl; contraction = λ c e comps heavy xrefs d. contraction_to r pins c.dead comps heavy xrefs d }

pub dead_part_on : (s t u : Managed) → HasSameDeadPart s t → HasSameDeadPart t u → HasSameDeadPart s u
dead_part_on s t u p q = record {
  cycle = p.cycle ∙ q.cycle;
  handles = λ c e m w. p.handles c e m w ∙ q.handles c (sym p.cycle ∙ e) m w;
  fields = λ c e m w. p.fields c e m w ∙ q.fields c (sym p.cycle ∙ e) m w;
  contraction = λ c e comps heavy xrefs d. q.contraction c (sym p.cycle ∙ e) comps heavy xrefs (p.contraction c e comps heavy xrefs d);
}

-- the candidates are the same
pub candidates_same : (s t : Managed) → HasSameDeadPart s t → candidates_of s ≡ candidates_of t
candidates_same s t d = ap (λ (o : Option OpenCycle). elim o [ None ↦ [] | Some c ↦ c.candidates ]) d.cycle

pub count_same : (s t : Managed) → HasSameDeadPart s t → length (candidates_of s) ≡ length (candidates_of t)
count_same s t d = ap length (candidates_same s t d)

-- and so are the candidates' handles, in objects that keep what every known past keeps
pub candidate_handle_on : (s t : Managed) → HasSameDeadPart s t → ManagedInvariant t → (i h : ℕ) → IsCandidateHandle s i h → IsCandidateHandle t i h
candidate_handle_on s t d k i h w = by s.cycle refl
  where
    by : (o : Option OpenCycle) → s.cycle ≡ o → IsCandidateHandle t i h
    by None e = absurd (none_some w.0 (subst (λ (xs : List ℕ). slice_get xs i ≡ Some w.0) (ap (λ (o : Option OpenCycle). elim o [ None ↦ [] | Some c ↦ c.candidates ]) e) w.1))
    by (Some c) e =
        let there = subst (λ (xs : List ℕ). slice_get xs i ≡ Some w.0) (candidates_of-open s c e) w.1 in
        let in_dead = (((k.dead c (sym d.cycle ∙ e)).candidates w.0).0 (Contains-at c.candidates i w.0 there)).0 in
        (w.0, subst (λ (xs : List ℕ). slice_get xs i ≡ Some w.0) (candidates_same s t d) w.1, sym (d.handles c e w.0 in_dead) ∙ w.2)
