-- The references of one end, followed from the last one to the first. Those from a place on are done, and between two
-- that follow each other stands none of the end's. So at the first place all that the end's references lead to is
-- marked, or seen.
use Rattle.std.proofs.Common.{◌≡◌, ℕ, ◌-◌, ◌≤◌, ◌⊎◌, inl, inr, Bool, List, length, Some, refl, sym, ap, subst, ◌∙◌, arith}
use Rattle.std.specs.Prelude.{Contains, slice_get}
use Rattle.std.proofs.lemmas.Bool.{cases_lt}
use Rattle.std.proofs.lemmas.Option.{slice_get_within}
use Rattle.joint_machine.specs.Components.{End, node}
use Rattle.joint_machine.proofs.Members.{Contains-at, at-Contains}
use Rattle.row_marking.specs.Traces.{Greyed}
use Rattle.row_marking.proofs.Greys.{Greyed-as, Greyed-none, Greyed-then}
use Rattle.row_heap.specs.Ends.{IsLastBelow, IsTemporary, Raises, Sees}
use Rattle.row_heap.proofs.Crossing.{Raises-none, Raises-then}
use Rattle.row_heap.proofs.Linked.{pair-from, pair-to}

-- from place r on stands a reference from the end to that one
abbrev pub LeadsFrom : List (End × End) → ℕ → End → End → Type 0
LeadsFrom refs r e f = (i : ℕ) × (r ≤ i) × (slice_get refs i ≡ Some (e, f))

abbrev pub SeenFrom : List (End × End) → ℕ → End → ℕ → Type 0
SeenFrom refs r e n = (f : End) × LeadsFrom refs r e f × IsTemporary f n

-- the references from place r on are done, and the last one below it, if it is one, is the end's
pub record Following (refs : List (End × End)) (e : End) (r : ℕ) (m0 : List Bool) (k0 : List ℕ) (h0 : ℕ) (s0 : List Bool)
    (l0 : List ℕ) (t0 : ℕ) (m : List Bool) (k : List ℕ) (h : ℕ) (s : List Bool) (l : List ℕ) (t : ℕ) : Type 0 where
  pub below : r ≤ length refs
  pub there : 1 ≤ r → (f : End) × (slice_get refs (r - 1) ≡ Some (e, f))
  pub raised : Raises (λ y. LeadsFrom refs r e (node y)) m0 m
  pub greyed : Greyed (λ y. LeadsFrom refs r e (node y)) m0 k0 h0 m k h
  pub sees : Greyed (SeenFrom refs r e) s0 l0 t0 s l t

-- behind the last one stands none
pub following-begins : (refs : List (End × End)) (e : End) (r : ℕ) (m : List Bool) (k : List ℕ) (h : ℕ) (s : List Bool) (l : List ℕ) (t : ℕ)
    → IsLastBelow refs e (length refs) r → Following refs e r m k h s l t m k h s l t
following-begins refs e r m k h s l t last = record {
  below = last.below;
  there = last.there;
  raised = Raises-none (λ y. LeadsFrom refs r e (node y)) m (λ y w. none (node y) w);
  greyed = Greyed-none (λ y. LeadsFrom refs r e (node y)) m k h (λ y w. none (node y) w);
  sees = Greyed-none (SeenFrom refs r e) s l t (λ n w. none w.0 w.1);
}
  where
    none : (f : End) → LeadsFrom refs r e f → ⊥
    none f w = last.none w.0 f w.1 (slice_get_within refs w.0 (e, f) w.2) w.2

-- the reference below place r
module _ (refs : List (End × End)) (e : End) (r : ℕ) (m0 : List Bool) (k0 : List ℕ) (h0 : ℕ) (s0 : List Bool) (l0 : List ℕ) (t0 : ℕ)
    (m : List Bool) (k : List ℕ) (h : ℕ) (s : List Bool) (l : List ℕ) (t : ℕ) (i : Following refs e r m0 k0 h0 s0 l0 t0 m k h s l t) (d f : End)
    (one : 1 ≤ r) (at : slice_get refs (r - 1) ≡ Some (d, f)) where
  own : d ≡ e
  own = (let w = i.there one in pair-from d f e w.0 (sym at ∙ w.1))

  here : slice_get refs (r - 1) ≡ Some (e, f)
  here = subst (λ z. slice_get refs (r - 1) ≡ Some (z, f)) own at

  pub following-contains : Contains refs (e, f)
  following-contains = Contains-at refs (r - 1) (e, f) here

  -- it is done, with what follows it
  pub following-goes : (next : ℕ) (m' : List Bool) (k' : List ℕ) (h' : ℕ) (s' : List Bool) (l' : List ℕ) (t' : ℕ) → IsLastBelow refs d (r - 1) next
      → Raises (λ y. f ≡ node y) m m' → Greyed (λ y. f ≡ node y) m k h m' k' h' → Greyed (IsTemporary f) s l t s' l' t'
      → Following refs e next m0 k0 h0 s0 l0 t0 m' k' h' s' l' t'
  following-goes next m' k' h' s' l' t' last raised greyed sees = record {
    below = omega (arith, last.below, i.below);
    there = λ w. (let v = last.there w in (v.0, subst (λ z. slice_get refs (next - 1) ≡ Some (z, v.0)) own v.1));
    raised = Raises-then (λ y. LeadsFrom refs r e (node y)) (λ y. f ≡ node y) (λ y. LeadsFrom refs next e (node y)) m0 m m' (λ y w. split (node y) w) i.raised raised;
    greyed = Greyed-then (λ y. LeadsFrom refs r e (node y)) (λ y. f ≡ node y) (λ y. LeadsFrom refs next e (node y)) m0 k0 h0 m k h m' k' h'
        (λ y w. split (node y) w) (λ y w. more (node y) w) (λ y w. least (node y) w) i.greyed greyed;
    sees = Greyed-then (SeenFrom refs r e) (IsTemporary f) (SeenFrom refs next e) s0 l0 t0 s l t s' l' t'
        (λ n w. elim (split w.0 w.1) [ inl v ↦ inl (w.0, v, w.2) | inr v ↦ inr (subst (λ z. IsTemporary z n) (sym v) w.2) ])
        (λ n w. (w.0, more w.0 w.1, w.2)) (λ n w. (f, least f refl, w)) i.sees sees;
  }
    where
      split : (g : End) → LeadsFrom refs next e g → LeadsFrom refs r e g ⊎ (f ≡ g)
      split g w = elim (cases_lt w.0 r) [
        | inr v ↦ inl (w.0, v, w.2)
        | inl v ↦ elim (cases_lt w.0 (r - 1)) [
          | inl u ↦ absurd (last.none w.0 g w.1 u (subst (λ z. slice_get refs w.0 ≡ Some (z, g)) (sym own) w.2))
          | inr u ↦
              let same : w.0 ≡ r - 1 = omega arith in
              inr (pair-to e f e g (sym here ∙ (ap (slice_get refs) (sym same) ∙ w.2)))
        ]
      ]

      more : (g : End) → LeadsFrom refs r e g → LeadsFrom refs next e g
      more g w = (w.0, omega (arith, last.below, w.1), w.2)

      least : (g : End) → f ≡ g → LeadsFrom refs next e g
      least g q = (r - 1, last.below, subst (λ z. slice_get refs (r - 1) ≡ Some (e, z)) q here)

-- at the first place all are done
module _ (refs : List (End × End)) (e : End) (m0 : List Bool) (k0 : List ℕ) (h0 : ℕ) (s0 : List Bool) (l0 : List ℕ) (t0 : ℕ)
    (m : List Bool) (k : List ℕ) (h : ℕ) (s : List Bool) (l : List ℕ) (t : ℕ) (i : Following refs e 0 m0 k0 h0 s0 l0 t0 m k h s l t) where
  all : (f : End) → Contains refs (e, f) → LeadsFrom refs 0 e f
  all f c = (let w = at-Contains refs (e, f) c in (w.0, omega arith, w.1))

  some : (f : End) → LeadsFrom refs 0 e f → Contains refs (e, f)
  some f w = Contains-at refs w.0 (e, f) w.2

  pub following-raised : Raises (λ y. Contains refs (e, node y)) m0 m
  following-raised = record { kept = i.raised.kept; done = λ y c. i.raised.done y (all (node y) c) }

  pub following-greyed : Greyed (λ y. Contains refs (e, node y)) m0 k0 h0 m k h
  following-greyed = Greyed-as (λ y. LeadsFrom refs 0 e (node y)) (λ y. Contains refs (e, node y)) m0 k0 h0 m k h (λ y c. all (node y) c) (λ y w. some (node y) w) i.greyed

  pub following-sees : Greyed (Sees refs e) s0 l0 t0 s l t
  following-sees = Greyed-as (SeenFrom refs 0 e) (Sees refs e) s0 l0 t0 s l t (λ n w. (w.0, all w.0 w.1, w.2)) (λ n w. (w.0, some w.0 w.1, w.2)) i.sees
