-- What the lines of a generated script count, family by family.
use Rattle.std.proofs.Common.{◌≡◌, ℕ, zero, suc, ◌+◌, ◌*◌, ◌/◌, ◌%◌, ◌≤◌, ◌⊎◌, inl, inr, ◌++◌, refl, sym, ap, subst, ◌∙◌, arith}
use Rattle.joint_machine.specs.declared.names.StaticNo.{StaticNo}
use Rattle.joint_machine.specs.declared.names.Thread.{Thread}
use Rattle.joint_machine.specs.declared.names.Thread.TheVariants.{M, P}
use Rattle.joint_machine.specs.declared.names.PhaseWord.TheVariants.{Cycle}
use Rattle.joint_machine.specs.declared.lines.Act.{Act}
use Rattle.joint_machine.specs.declared.lines.Act.TheVariants as act
use Rattle.joint_machine.specs.declared.events.Op.{Op}
use Rattle.joint_machine.specs.declared.events.Op.TheVariants as op
use Rattle.joint_machine.specs.declared.events.Reply.{Reply}
use Rattle.joint_machine.specs.Lines.{IsThread}
use Rattle.run_summary.specs.Tallies.{makes_managed, makes_peer, makes_handle, opens_cycle}
use Rattle.run_summary.specs.Lines.{one}
use Rattle.script_generator.specs.Families.{family_of}
use Rattle.script_generator.specs.Generated.{shape_of, thread_of, static_of, family, cycle_after, generated}
use Rattle.script_generator.proofs.Counts.{here, none, after}
use Rattle.generated_laws.specs.Counts.{families_of}
use Rattle.generated_laws.proofs.Totals.{Each, each-join, total, total-append}
use Rattle.generated_laws.proofs.Own.{Measures, IsLater}
use Rattle.generated_laws.proofs.Held.{IsSimpleLine}

-- what each line makes, and whether it is a cycle
abbrev pub managed_of : Act → ℕ
managed_of (act.New v k n) = 1
managed_of (act.Bridge v k n sort f) = 1
managed_of _ = 0

abbrev pub peers_of : Act → ℕ
peers_of (act.NewPeer v n) = 1
peers_of (act.Bridge v k n sort f) = 1
peers_of _ = 0

abbrev pub handles_of : Act → ℕ
handles_of (act.Bridge v k n sort f) = 1
handles_of _ = 0

abbrev pub cycles_of : Act → ℕ
cycles_of (act.PhaseLine w) = 1
cycles_of _ = 0

-- the later events of a cycle make nothing, and open no cycle
record MakesNothing (o : Op) (r : Reply) : Type 0 where
  pub managed : one (makes_managed o r) ≡ 0
  pub peers : one (makes_peer o r) ≡ 0
  pub handles : one (makes_handle o r) ≡ 0
  pub cycles : one (opens_cycle o) ≡ 0

later-nothing : (o : Op) (r : Reply) → IsLater o → MakesNothing o r
later-nothing (op.Contract k) r l = record { managed = refl; peers = refl; handles = refl; cycles = refl }
later-nothing (op.Mirror k) r l = record { managed = refl; peers = refl; handles = refl; cycles = refl }
later-nothing (op.Weaken h) r l = record { managed = refl; peers = refl; handles = refl; cycles = refl }
later-nothing op.Begin r l = record { managed = refl; peers = refl; handles = refl; cycles = refl }
later-nothing op.Sweep r l = record { managed = refl; peers = refl; handles = refl; cycles = refl }
later-nothing (op.Restore h) r l = record { managed = refl; peers = refl; handles = refl; cycles = refl }
later-nothing (op.Clear k) r l = record { managed = refl; peers = refl; handles = refl; cycles = refl }
later-nothing (op.Resolve k) r l = record { managed = refl; peers = refl; handles = refl; cycles = refl }
later-nothing _ r l = absurd l

pub managed-measures : Measures (λ o r. one (makes_managed o r)) managed_of
managed-measures = record {
  new = λ v k n r e. ap one e;
  peer = λ v n r e. refl;
  pair = λ v k n sort m p h r q d e. (let a = ap one e in omega (arith, a));
  set = λ v i w r. refl;
  drop = λ v r. refl;
  store = λ x v r. refl;
  lend = λ v x r. refl;
  land = λ h x r. refl;
  pass = λ v x. refl;
  cycle = λ k r. refl;
  later = λ o r l. (later-nothing o r l).managed;
}

pub peers-measures : Measures (λ o r. one (makes_peer o r)) peers_of
peers-measures = record {
  new = λ v k n r e. refl;
  peer = λ v n r e. ap one e;
  pair = λ v k n sort m p h r q d e. (let a = ap one d in omega (arith, a));
  set = λ v i w r. refl;
  drop = λ v r. refl;
  store = λ x v r. refl;
  lend = λ v x r. refl;
  land = λ h x r. refl;
  pass = λ v x. refl;
  cycle = λ k r. refl;
  later = λ o r l. (later-nothing o r l).peers;
}

pub handles-measures : Measures (λ o r. one (makes_handle o r)) handles_of
handles-measures = record {
  new = λ v k n r e. refl;
  peer = λ v n r e. refl;
  pair = λ v k n sort m p h r q d e. (let a = ap one d in omega (arith, a));
  set = λ v i w r. refl;
  drop = λ v r. refl;
  store = λ x v r. refl;
  lend = λ v x r. refl;
  land = λ h x r. refl;
  pass = λ v x. refl;
  cycle = λ k r. refl;
  later = λ o r l. (later-nothing o r l).handles;
}

pub cycles-measures : Measures (λ o r. one (opens_cycle o)) cycles_of
cycles-measures = record {
  new = λ v k n r e. refl;
  peer = λ v n r e. refl;
  pair = λ v k n sort m p h r q d e. refl;
  set = λ v i w r. refl;
  drop = λ v r. refl;
  store = λ x v r. refl;
  lend = λ v x r. refl;
  land = λ h x r. refl;
  pass = λ v x. refl;
  cycle = λ k r. refl;
  later = λ o r l. (later-nothing o r l).cycles;
}

-- one of four numbers, by the shape
abbrev at_shape : ℕ → ℕ → ℕ → ℕ → ℕ → ℕ
at_shape a b c d zero = a
at_shape a b c d (suc zero) = b
at_shape a b c d (suc (suc zero)) = c
at_shape a b c d (suc (suc (suc n))) = d

-- how the numbers of families rise with one family more
record HasGrown (seed i k : ℕ) : Type 0 where
  pub first : families_of 0 seed (suc i) ≡ families_of 0 seed i + at_shape 1 0 0 0 k
  pub second : families_of 1 seed (suc i) ≡ families_of 1 seed i + at_shape 0 1 0 0 k
  pub third : families_of 2 seed (suc i) ≡ families_of 2 seed i + at_shape 0 0 1 0 k
  pub fourth : families_of 3 seed (suc i) ≡ families_of 3 seed i + at_shape 0 0 0 1 k

grown : (seed i k : ℕ) → shape_of seed i ≡ k → HasGrown seed i k
grown seed i zero e = record { first = omega (arith, e); second = omega (arith, e); third = omega (arith, e); fourth = omega (arith, e) }
grown seed i (suc zero) e = record { first = omega (arith, e); second = omega (arith, e); third = omega (arith, e); fourth = omega (arith, e) }
grown seed i (suc (suc zero)) e = record { first = omega (arith, e); second = omega (arith, e); third = omega (arith, e); fourth = omega (arith, e) }
grown seed i (suc (suc (suc n))) e = record { first = omega (arith, e); second = omega (arith, e); third = omega (arith, e); fourth = omega (arith, e) }

module _ (g : Act → ℕ) where
  abbrev of_line : Thread × Act → ℕ
  of_line line = g line.1

  cycle-line : (i : ℕ) → ((i % 100 ≡ 99) × (total of_line (cycle_after i) ≡ g (act.PhaseLine Cycle))) ⊎ ((i % 100 ≡ 99 → ⊥) × (total of_line (cycle_after i) ≡ 0))
  cycle-line i = elim (after i) [
    | here e is ↦ inl (e, ap (total of_line) is ∙ omega arith)
    | none e is ↦ inr (e, ap (total of_line) is)
  ]

  no-cycle : (i : ℕ) → g (act.PhaseLine Cycle) ≡ 0 → total of_line (cycle_after i) ≡ 0
  no-cycle i e = elim (cycle-line i) [ inl c ↦ c.1 ∙ e | inr c ↦ c.1 ]

  by-families : (seed : ℕ) (target : ℕ → ℕ) → target 0 ≡ 0 → ((i : ℕ) → target (suc i) ≡ target i + total of_line (family seed i) + total of_line (cycle_after i))
      → (size : ℕ) → total of_line (generated seed size) ≡ target size
  by-families seed target z step zero = sym z
  by-families seed target z step (suc i) =
      let a = total-append of_line (generated seed i ++ family seed i) (cycle_after i) in
      let b = total-append of_line (generated seed i) (family seed i) in
      let r = by-families seed target z step i in
      let s = step i in
      omega (arith, a, b, r, s)

family-managed : (k t : ℕ) (x : StaticNo) → total (of_line managed_of) (family_of k t x) ≡ at_shape 3 2 2 0 k
family-managed zero t x = refl
family-managed (suc zero) t x = refl
family-managed (suc (suc zero)) t x = refl
family-managed (suc (suc (suc n))) t x = refl

family-peers : (k t : ℕ) (x : StaticNo) → total (of_line peers_of) (family_of k t x) ≡ at_shape 2 1 1 2 k
family-peers zero t x = refl
family-peers (suc zero) t x = refl
family-peers (suc (suc zero)) t x = refl
family-peers (suc (suc (suc n))) t x = refl

family-handles : (k t : ℕ) (x : StaticNo) → total (of_line handles_of) (family_of k t x) ≡ at_shape 2 1 1 0 k
family-handles zero t x = refl
family-handles (suc zero) t x = refl
family-handles (suc (suc zero)) t x = refl
family-handles (suc (suc (suc n))) t x = refl

family-cycles : (k t : ℕ) (x : StaticNo) → total (of_line cycles_of) (family_of k t x) ≡ 0
family-cycles zero t x = refl
family-cycles (suc zero) t x = refl
family-cycles (suc (suc zero)) t x = refl
family-cycles (suc (suc (suc n))) t x = refl

abbrev managed_target : ℕ → ℕ → ℕ
managed_target seed size = 3 * families_of 0 seed size + 2 * families_of 1 seed size + 2 * families_of 2 seed size

abbrev peers_target : ℕ → ℕ → ℕ
peers_target seed size = 2 * families_of 0 seed size + families_of 1 seed size + families_of 2 seed size + 2 * families_of 3 seed size

abbrev handles_target : ℕ → ℕ → ℕ
handles_target seed size = 2 * families_of 0 seed size + families_of 1 seed size + families_of 2 seed size

-- the numbers of families at two sizes, as plain numbers
managed-step : (k f0 f1 f2 g0 g1 g2 own : ℕ) → g0 ≡ f0 + at_shape 1 0 0 0 k → g1 ≡ f1 + at_shape 0 1 0 0 k
    → g2 ≡ f2 + at_shape 0 0 1 0 k → own ≡ at_shape 3 2 2 0 k → 3 * g0 + 2 * g1 + 2 * g2 ≡ 3 * f0 + 2 * f1 + 2 * f2 + own
managed-step zero f0 f1 f2 g0 g1 g2 own a b c d = omega (arith, a, b, c, d)
managed-step (suc zero) f0 f1 f2 g0 g1 g2 own a b c d = omega (arith, a, b, c, d)
managed-step (suc (suc zero)) f0 f1 f2 g0 g1 g2 own a b c d = omega (arith, a, b, c, d)
managed-step (suc (suc (suc n))) f0 f1 f2 g0 g1 g2 own a b c d = omega (arith, a, b, c, d)

peers-step : (k f0 f1 f2 f3 g0 g1 g2 g3 own : ℕ) → g0 ≡ f0 + at_shape 1 0 0 0 k → g1 ≡ f1 + at_shape 0 1 0 0 k → g2 ≡ f2 + at_shape 0 0 1 0 k → g3 ≡ f3 + at_shape 0 0 0 1 k → own ≡ at_shape 2 1 1 2 k
    → 2 * g0 + g1 + g2 + 2 * g3 ≡ 2 * f0 + f1 + f2 + 2 * f3 + own
peers-step zero f0 f1 f2 f3 g0 g1 g2 g3 own a b c d e = omega (arith, a, b, c, d, e)
peers-step (suc zero) f0 f1 f2 f3 g0 g1 g2 g3 own a b c d e = omega (arith, a, b, c, d, e)
peers-step (suc (suc zero)) f0 f1 f2 f3 g0 g1 g2 g3 own a b c d e = omega (arith, a, b, c, d, e)
peers-step (suc (suc (suc n))) f0 f1 f2 f3 g0 g1 g2 g3 own a b c d e = omega (arith, a, b, c, d, e)

handles-step : (k f0 f1 f2 g0 g1 g2 own : ℕ) → g0 ≡ f0 + at_shape 1 0 0 0 k → g1 ≡ f1 + at_shape 0 1 0 0 k
    → g2 ≡ f2 + at_shape 0 0 1 0 k → own ≡ at_shape 2 1 1 0 k → 2 * g0 + g1 + g2 ≡ 2 * f0 + f1 + f2 + own
handles-step zero f0 f1 f2 g0 g1 g2 own a b c d = omega (arith, a, b, c, d)
handles-step (suc zero) f0 f1 f2 g0 g1 g2 own a b c d = omega (arith, a, b, c, d)
handles-step (suc (suc zero)) f0 f1 f2 g0 g1 g2 own a b c d = omega (arith, a, b, c, d)
handles-step (suc (suc (suc n))) f0 f1 f2 g0 g1 g2 own a b c d = omega (arith, a, b, c, d)

with-none : (x y z : ℕ) → x ≡ y → z ≡ 0 → x ≡ y + z
with-none x y z a b = omega (arith, a, b)

pub managed-lines : (seed size : ℕ) → total (of_line managed_of) (generated seed size) ≡ managed_target seed size
managed-lines seed = by-families managed_of seed (managed_target seed) (omega arith) (λ i.
    let w = grown seed i (shape_of seed i) refl in
    with-none _ _ _ (managed-step (shape_of seed i) _ _ _ _ _ _ _ w.first w.second w.third (family-managed (shape_of seed i) (thread_of i) (static_of i))) (no-cycle managed_of i refl))

pub peers-lines : (seed size : ℕ) → total (of_line peers_of) (generated seed size) ≡ peers_target seed size
peers-lines seed = by-families peers_of seed (peers_target seed) (omega arith) (λ i.
    let w = grown seed i (shape_of seed i) refl in
    with-none _ _ _ (peers-step (shape_of seed i) _ _ _ _ _ _ _ _ _ w.first w.second w.third w.fourth (family-peers (shape_of seed i) (thread_of i) (static_of i))) (no-cycle peers_of i refl))

pub handles-lines : (seed size : ℕ) → total (of_line handles_of) (generated seed size) ≡ handles_target seed size
handles-lines seed = by-families handles_of seed (handles_target seed) (omega arith) (λ i.
    let w = grown seed i (shape_of seed i) refl in
    with-none _ _ _ (handles-step (shape_of seed i) _ _ _ _ _ _ _ w.first w.second w.third (family-handles (shape_of seed i) (thread_of i) (static_of i))) (no-cycle handles_of i refl))

cycles-step : (i own more : ℕ) → own ≡ 0 → ((i % 100 ≡ 99) × (more ≡ 1)) ⊎ ((i % 100 ≡ 99 → ⊥) × (more ≡ 0)) → suc i / 100 ≡ i / 100 + own + more
cycles-step i own more e (inl c) = omega (arith, e)
cycles-step i own more e (inr c) = omega (arith, e)

pub cycles-lines : (seed size : ℕ) → total (of_line cycles_of) (generated seed size) ≡ size / 100
cycles-lines seed = by-families cycles_of seed (λ i. i / 100) (omega arith) (λ i. cycles-step i _ _ (family-cycles (shape_of seed i) (thread_of i) (static_of i)) (cycle-line cycles_of i))

-- all lines are of this kind
simple-family : (k t : ℕ) (x : StaticNo) → 1 ≤ t → t ≤ 8 → Each IsSimpleLine (family_of k t x)
simple-family zero t x a b = (let w : IsThread (M t) = (a, b) in ((w, tt), ((w, tt), ((w, tt), ((w, tt), ((w, tt), ((w, tt), ((w, tt), ((w, tt), ((w, tt), tt))))))))))
simple-family (suc zero) t x a b = (let w : IsThread (M t) = (a, b) in ((w, tt), ((w, tt), ((w, tt), ((w, tt), ((w, tt), ((w, tt), tt)))))))
simple-family (suc (suc zero)) t x a b = (let w : IsThread (M t) = (a, b) in ((w, tt), ((w, tt), ((w, tt), ((w, tt), ((w, tt), ((w, tt), tt)))))))
simple-family (suc (suc (suc n))) t x a b = (let w : IsThread (P t) = (a, b) in ((w, tt), ((w, tt), ((w, tt), ((w, tt), ((w, tt), ((w, tt), tt)))))))

simple-cycle : (i : ℕ) → Each IsSimpleLine (cycle_after i)
simple-cycle i = elim (after i) [
  | here e is ↦ subst (Each IsSimpleLine) (sym is) ((tt, tt), tt)
  | none e is ↦ subst (Each IsSimpleLine) (sym is) tt
]

pub simple-lines : (seed size : ℕ) → Each IsSimpleLine (generated seed size)
simple-lines seed zero = tt
simple-lines seed (suc i) = each-join IsSimpleLine (generated seed i ++ family seed i) (cycle_after i)
    (each-join IsSimpleLine (generated seed i) (family seed i) (simple-lines seed i) (simple-family (shape_of seed i) (thread_of i) (static_of i) (omega arith) (omega arith))) (simple-cycle i)
