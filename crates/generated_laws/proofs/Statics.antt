-- Which statics the lines of a generated script fill, and how many these are.
use Rattle.std.proofs.Common.{◌≡◌, ◌≢◌, ℕ, zero, suc, ◌+◌, ◌%◌, ◌<◌, ◌≤◌, ◌⊎◌, ◌↔◌, inl, inr, Bool, true, false, List, [], ◌∷◌, ◌++◌, length, Option, min, nat_eq, refl, sym, ap, ◌∙◌, arith, eq-eqb}
use Rattle.std.specs.Prelude.{is_some}
use Rattle.std.proofs.lemmas.Bool.{cases_eq, cases_lt}
use Rattle.joint_machine.specs.declared.names.StaticNo.{StaticNo}
use Rattle.joint_machine.specs.declared.names.Thread.{Thread}
use Rattle.joint_machine.specs.declared.lines.Act.{Act}
use Rattle.joint_machine.specs.Heaps.{slot}
use Rattle.joint_machine.proofs.Deciding.{neq-eqb}
use Rattle.run_summary.specs.Lines.{one}
use Rattle.script_generator.specs.Families.{family_of}
use Rattle.script_generator.specs.Generated.{shape_of, thread_of, static_of, family, cycle_after, generated}
use Rattle.script_generator.proofs.Counts.{here, none, after}
use Rattle.generated_laws.specs.Counts.{families_of, filled_statics}
use Rattle.generated_laws.proofs.Totals.{total, total-append}
use Rattle.generated_laws.proofs.Filling.{line_fills}
use Rattle.generated_laws.proofs.Showing.{Group}

abbrev filled_by : ℕ → Thread × Act → ℕ
filled_by i line = line_fills i line.1

abbrev at_shape : ℕ → ℕ → ℕ → ℕ
at_shape a b zero = 0
at_shape a b (suc zero) = a
at_shape a b (suc (suc zero)) = b
at_shape a b (suc (suc (suc n))) = 0

family-fills : (i k t : ℕ) (x : StaticNo) → total (filled_by i) (family_of k t x) ≡ at_shape (one (nat_eq i x.0)) (one (nat_eq i (16 + x.0))) k
family-fills i zero t x = refl
family-fills i (suc zero) t x = omega arith
family-fills i (suc (suc zero)) t x = omega arith
family-fills i (suc (suc (suc n))) t x = refl

cycle-fills : (i j : ℕ) → total (filled_by i) (cycle_after j) ≡ 0
cycle-fills i j = elim (after j) [
  | here e is ↦ ap (total (filled_by i)) is
  | none e is ↦ ap (total (filled_by i)) is
]

more-fills : (i seed n : ℕ) → total (filled_by i) (generated seed (suc n)) ≡ total (filled_by i)
    (generated seed n) + at_shape (one (nat_eq i (n % 16))) (one (nat_eq i (16 + n % 16))) (shape_of seed n)
more-fills i seed n =
    let a = total-append (filled_by i) (generated seed n ++ family seed n) (cycle_after n) in
    let b = total-append (filled_by i) (generated seed n) (family seed n) in
    let c = family-fills i (shape_of seed n) (thread_of n) (static_of n) in
    let d = cycle-fills i n in
    omega (arith, a, b, c, d)

-- whether a number is another one
same-or : (a b : ℕ) → ((a ≡ b) × (one (nat_eq a b) ≡ 1)) ⊎ ((a ≢ b) × (one (nat_eq a b) ≡ 0))
same-or a b = elim (cases_eq a b) [ inl e ↦ inl (e, ap one (eq-eqb a b e)) | inr n ↦ inr (n, ap one (neq-eqb a b n)) ]

-- the place is filled by the first of its families already, by a cached leaf, or by a passed bridge
record IsFilled (seed i size shape : ℕ) : Type 0 where
  pub early : i < size
  pub shapes : shape_of seed i ≡ shape

-- the statics of the managed heap
cached-to : (seed i : ℕ) → i < 16 → (size : ℕ) → 0 < total (filled_by i) (generated seed size) → IsFilled seed i size 1
cached-to seed i l zero p = absurd (omega (arith, p))
cached-to seed i l (suc n) p = by (shape_of seed n) refl (more-fills i seed n) (cases_lt 0 (total (filled_by i) (generated seed n))) (cached-to seed i l n)
  where
    further : IsFilled seed i n 1 → IsFilled seed i (suc n) 1
    further w = (let e = w.early in record { early = omega (arith, e); shapes = w.shapes })

    by : (k : ℕ) → shape_of seed n ≡ k → total (filled_by i) (generated seed (suc n)) ≡ total (filled_by i) (generated seed n) + at_shape (one (nat_eq i (n % 16))) (one (nat_eq i (16 + n % 16))) k
        → (0 < total (filled_by i) (generated seed n)) ⊎ (total (filled_by i) (generated seed n) ≤ 0) → (0 < total (filled_by i) (generated seed n) → IsFilled seed i n 1) → IsFilled seed i (suc n) 1
    by k e m (inl q) f = further (f q)
    by zero e m (inr q) f = absurd (omega (arith, p, m, q))
    by (suc zero) e m (inr q) f = elim (same-or i (n % 16)) [
      | inl s ↦ (let r = s.0 in record { early = omega (arith, r); shapes = omega (arith, r, e) })
      | inr s ↦ (let r = s.1 in absurd (omega (arith, p, m, q, r)))
    ]
    by (suc (suc zero)) e m (inr q) f = elim (same-or i (16 + n % 16)) [
      | inl s ↦ (let r = s.0 in absurd (omega (arith, r, l)))
      | inr s ↦ (let r = s.1 in absurd (omega (arith, p, m, q, r)))
    ]
    by (suc (suc (suc k))) e m (inr q) f = absurd (omega (arith, p, m, q))

cached-from : (seed i : ℕ) → i < 16 → (size : ℕ) → IsFilled seed i size 1 → 0 < total (filled_by i) (generated seed size)
cached-from seed i l zero w = absurd (let e = w.early in omega (arith, e))
cached-from seed i l (suc n) w = elim (cases_eq i n) [
  | inr q ↦ (let r = cached-from seed i l n (record { early = (let e = w.early in omega (arith, e, q)); shapes = w.shapes }) in let m = more-fills i seed n in omega (arith, r, m))
  | inl q ↦ (
      let m = more-fills i seed n in
      let k : shape_of seed n ≡ 1 = ap (shape_of seed) (sym q) ∙ w.shapes in
      let s = ap (at_shape (one (nat_eq i (n % 16))) (one (nat_eq i (16 + n % 16)))) k in
      let r : i ≡ n % 16 = omega (arith, q, l) in
      let o = ap one (eq-eqb i (n % 16) r) in
      omega (arith, m, s, o))
]

-- those of the peer heap
passed-to : (seed i : ℕ) → i < 16 → (size : ℕ) → 0 < total (filled_by (16 + i)) (generated seed size) → IsFilled seed i size 2
passed-to seed i l zero p = absurd (omega (arith, p))
passed-to seed i l (suc n) p = by (shape_of seed n) refl (more-fills (16 + i) seed n) (cases_lt 0 (total (filled_by (16 + i)) (generated seed n))) (passed-to seed i l n)
  where
    further : IsFilled seed i n 2 → IsFilled seed i (suc n) 2
    further w = (let e = w.early in record { early = omega (arith, e); shapes = w.shapes })

    by : (k : ℕ) → shape_of seed n ≡ k → total (filled_by (16 + i)) (generated seed (suc n)) ≡ total (filled_by (16 + i))
        (generated seed n) + at_shape (one (nat_eq (16 + i) (n % 16))) (one (nat_eq (16 + i) (16 + n % 16))) k
        → (0 < total (filled_by (16 + i)) (generated seed n)) ⊎ (total (filled_by (16 + i)) (generated seed n) ≤ 0)
        → (0 < total (filled_by (16 + i)) (generated seed n) → IsFilled seed i n 2) → IsFilled seed i (suc n) 2
    by k e m (inl q) f = further (f q)
    by zero e m (inr q) f = absurd (omega (arith, p, m, q))
    by (suc zero) e m (inr q) f = elim (same-or (16 + i) (n % 16)) [
      | inl s ↦ (let r = s.0 in absurd (omega (arith, r)))
      | inr s ↦ (let r = s.1 in absurd (omega (arith, p, m, q, r)))
    ]
    by (suc (suc zero)) e m (inr q) f = elim (same-or (16 + i) (16 + n % 16)) [
      | inl s ↦ (let r = s.0 in record { early = omega (arith, r); shapes = omega (arith, r, e) })
      | inr s ↦ (let r = s.1 in absurd (omega (arith, p, m, q, r)))
    ]
    by (suc (suc (suc k))) e m (inr q) f = absurd (omega (arith, p, m, q))

passed-from : (seed i : ℕ) → i < 16 → (size : ℕ) → IsFilled seed i size 2 → 0 < total (filled_by (16 + i)) (generated seed size)
passed-from seed i l zero w = absurd (let e = w.early in omega (arith, e))
passed-from seed i l (suc n) w = elim (cases_eq i n) [
  | inr q ↦ (let r = passed-from seed i l n (record { early = (let e = w.early in omega (arith, e, q)); shapes = w.shapes }) in let m = more-fills (16 + i) seed n in omega (arith, r, m))
  | inl q ↦ (
      let m = more-fills (16 + i) seed n in
      let k : shape_of seed n ≡ 2 = ap (shape_of seed) (sym q) ∙ w.shapes in
      let s = ap (at_shape (one (nat_eq (16 + i) (n % 16))) (one (nat_eq (16 + i) (16 + n % 16)))) k in
      let r : 16 + i ≡ 16 + n % 16 = omega (arith, q, l) in
      let o = ap one (eq-eqb (16 + i) (16 + n % 16) r) in
      omega (arith, m, s, o))
]

-- sums over the first numbers
abbrev pub count_up : (ℕ → ℕ) → ℕ → ℕ
count_up f zero = 0
count_up f (suc n) = count_up f n + f n

count-first : (f : ℕ → ℕ) (n : ℕ) → count_up f (suc n) ≡ f 0 + count_up (λ i. f (suc i)) n
count-first f zero = omega arith
count-first f (suc n) = (let r = count-first f n in omega (arith, r))

count-slots : (gs : List (Option Group)) → total (λ o. one (is_some o)) gs ≡ count_up (λ i. one (is_some (slot gs i))) (length gs)
count-slots [] = refl
count-slots (g ∷ gs) = (let r = count-slots gs in let c = count-first (λ i. one (is_some (slot (g ∷ gs) i))) (length gs) in omega (arith, r, c))

count-split : (f : ℕ → ℕ) (a b : ℕ) → count_up f (a + b) ≡ count_up f a + count_up (λ j. f (a + j)) b
count-split f a zero = (let e : a + 0 ≡ a = omega arith in ap (count_up f) e ∙ omega arith)
count-split f a (suc b) = (let e : a + suc b ≡ suc (a + b) = omega arith in let r = count-split f a b in ap (count_up f) e ∙ omega (arith, r))

-- as many as families of that shape among the first sixteen
count-shape : (seed size shape : ℕ) (G : ℕ → Bool) → shape ≤ 3 → ((i : ℕ) → i < 16 → (G i ≡ true) ↔ IsFilled seed i size shape)
    → ((n : ℕ) → shape_of seed n ≡ shape → families_of shape seed (suc n) ≡ families_of shape seed n + 1)
    → ((n : ℕ) → (shape_of seed n ≢ shape) → families_of shape seed (suc n) ≡ families_of shape seed n)
    → (n : ℕ) → n ≤ 16 → count_up (λ i. one (G i)) n ≡ families_of shape seed (min size n)
count-shape seed size shape G s is more same zero l = (let e : min size 0 ≡ 0 = omega arith in sym (ap (families_of shape seed) e ∙ omega arith))
count-shape seed size shape G s is more same (suc n) l =
    let rest = count-shape seed size shape G s is more same n (omega (arith, l)) in
    let here = is n (omega (arith, l)) in
    elim (cases_lt n size) [
      | inl q ↦ (
          let e : min size (suc n) ≡ suc n = omega (arith, q) in
          let d : min size n ≡ n = omega (arith, q) in
          let now = ap (families_of shape seed) e in
          let was = ap (families_of shape seed) d in
          elim (cases_eq (shape_of seed n) shape) [
            | inl k ↦ (let g = ap one (here.1 (record { early = q; shapes = k })) in let m = more n k in omega (arith, rest, g, m, now, was))
            | inr k ↦ (let g = ap one (off (G n) (λ t. k (here.0 t).shapes)) in let m = same n k in omega (arith, rest, g, m, now, was))
          ])
      | inr q ↦ (
          let e : min size (suc n) ≡ size = omega (arith, q) in
          let d : min size n ≡ size = omega (arith, q) in
          let now = ap (families_of shape seed) e in
          let was = ap (families_of shape seed) d in
          let g = ap one (off (G n) (λ t. (let early = (here.0 t).early in omega (arith, early, q)))) in
          omega (arith, rest, g, now, was))
    ]
  where
    off : (b : Bool) → (b ≡ true → ⊥) → b ≡ false
    off true f = absurd (f refl)
    off false f = refl

-- where just the statics that the lines fill have a group
pub filled-statics : (seed size : ℕ) (groups : List (Option Group)) → length groups ≡ 32
    → ((i : ℕ) → i < 32 → (is_some (slot groups i) ≡ true) ↔ (0 < total (λ (line : Thread × Act). line_fills i line.1) (generated seed size)))
    → total (λ o. one (is_some o)) groups ≡ filled_statics seed size
filled-statics seed size groups len is =
    let all = count-slots groups ∙ ap (count_up (λ i. one (is_some (slot groups i)))) len in
    let split = count-split (λ i. one (is_some (slot groups i))) 16 16 in
    let first = count-shape seed size 1 (λ i. is_some (slot groups i)) (omega arith)
    (λ i l. ((λ g. cached-to seed i l size ((is i (omega (arith, l))).0 g)), (λ w. (is i (omega (arith, l))).1 (cached-from seed i l size w))))
    (λ n e. omega (arith, e)) (λ n e. omega (arith, e)) 16 (omega arith) in
    let second = count-shape seed size 2 (λ i. is_some (slot groups (16 + i))) (omega arith)
    (λ i l. ((λ g. passed-to seed i l size ((is (16 + i) (omega (arith, l))).0 g)), (λ w. (is (16 + i) (omega (arith, l))).1 (passed-from seed i l size w))))
    (λ n e. omega (arith, e)) (λ n e. omega (arith, e)) 16 (omega arith) in
    omega (arith, all, split, first, second)
