-- How many lines and how many cycles a generated script has.
use Rattle.std.proofs.Common.{◌≡◌, ℕ, zero, suc, ◌+◌, ◌*◌, ◌/◌, ◌%◌, ◌<◌, ◌≤◌, ◌⊎◌, inl, inr, Bool, true, false, ◌==◌, List, [], ◌∷◌, ◌++◌, length, refl, sym, ap, ◌∙◌, arith, length-append}
use Rattle.std.specs.Prelude.{filter}
use Rattle.std.proofs.lemmas.Bool.{eqb-true, eqb-false}
use Rattle.std.proofs.lemmas.List.Elements.{filter-append}
use Rattle.std.proofs.lemmas.List.Sums.{length-filter}
use Rattle.joint_machine.specs.declared.names.StaticNo.{StaticNo}
use Rattle.joint_machine.specs.declared.names.Thread.{Thread}
use Rattle.joint_machine.specs.declared.names.Thread.TheVariants.{C}
use Rattle.joint_machine.specs.declared.names.PhaseWord.TheVariants.{Cycle}
use Rattle.joint_machine.specs.declared.lines.Act.{Act}
use Rattle.joint_machine.specs.declared.lines.Act.TheVariants.{PhaseLine}
use Rattle.bridge_script.specs.Scripts.{is_cycle, cycles_of}
use Rattle.script_generator.specs.Families.{family_of}
use Rattle.script_generator.specs.Generated.{shape_of, thread_of, static_of, family, cycle_after, generated}
use Rattle.script_generator.specs.Laws.{circles_of}

-- a cycle stands after a family exactly where it is a hundredth one
pub data After (i : ℕ) : Type 0 where
  here : i % 100 ≡ 99 → cycle_after i ≡ (C, PhaseLine Cycle) ∷ [] → After i
  none : (i % 100 ≡ 99 → ⊥) → cycle_after i ≡ [] → After i

after_by : (i : ℕ) (b : Bool) → (i % 100 == 99) ≡ b → After i
after_by i true e = here (eqb-true (i % 100) 99 e) (rw e refl)
after_by i false e = none (eqb-false (i % 100) 99 e) (rw e refl)

pub after : (i : ℕ) → After i
after i = after_by i (i % 100 == 99) refl

-- nine lines where the shape is the first, else six
shape_length : (k t : ℕ) (x : StaticNo) → ((k ≡ 0) × (length (family_of k t x) ≡ 9)) ⊎ ((0 < k) × (length (family_of k t x) ≡ 6))
shape_length zero t x = inl (refl, refl)
shape_length (suc zero) t x = inr (omega arith, refl)
shape_length (suc (suc zero)) t x = inr (omega arith, refl)
shape_length (suc (suc (suc n))) t x = inr (omega arith, refl)

shape_cycles : (k t : ℕ) (x : StaticNo) → cycles_of (family_of k t x) ≡ 0
shape_cycles zero t x = refl
shape_cycles (suc zero) t x = refl
shape_cycles (suc (suc zero)) t x = refl
shape_cycles (suc (suc (suc n))) t x = refl

append_cycles : (xs ys : List (Thread × Act)) → cycles_of (xs ++ ys) ≡ cycles_of xs + cycles_of ys
append_cycles xs ys =
    sym (length-filter is_cycle (xs ++ ys))
    ∙ ap length (filter-append is_cycle xs ys)
    ∙ length-append (filter is_cycle xs) (filter is_cycle ys)
    ∙ ap (λ n. n + length (filter is_cycle ys)) (length-filter is_cycle xs)
    ∙ ap (λ n. cycles_of xs + n) (length-filter is_cycle ys)

-- the numbers of one family more
line_step : (seed i before own more : ℕ) → before ≡ 6 * i + 3 * circles_of seed i + i / 100 → ((shape_of seed i ≡ 0) × (own ≡ 9)) ⊎ ((0 < shape_of seed i) × (own ≡ 6))
    → ((i % 100 ≡ 99) × (more ≡ 1)) ⊎ ((i % 100 ≡ 99 → ⊥) × (more ≡ 0)) → before + own + more ≡ 6 * suc i + 3 * circles_of seed (suc i) + suc i / 100
line_step seed i before own more b (inl o) (inl m) = omega arith
line_step seed i before own more b (inl o) (inr m) = omega arith
line_step seed i before own more b (inr o) (inl m) = omega arith
line_step seed i before own more b (inr o) (inr m) = omega arith

after_length : (i : ℕ) → ((i % 100 ≡ 99) × (length (cycle_after i) ≡ 1)) ⊎ ((i % 100 ≡ 99 → ⊥) × (length (cycle_after i) ≡ 0))
after_length i = elim (after i) [
  | here e is ↦ inl (e, ap length is)
  | none e is ↦ inr (e, ap length is)
]

after_cycles : (i : ℕ) → i / 100 + cycles_of (cycle_after i) ≡ suc i / 100
after_cycles i = elim (after i) [
  | here e is ↦ let n : cycles_of (cycle_after i) ≡ 1 = ap cycles_of is in omega arith
  | none e is ↦ let n : cycles_of (cycle_after i) ≡ 0 = ap cycles_of is in omega arith
]

parts : (xs ys zs : List (Thread × Act)) → length (xs ++ ys ++ zs) ≡ length xs + length ys + length zs
parts xs ys zs = length-append (xs ++ ys) zs ∙ ap (λ n. n + length zs) (length-append xs ys)

pub generated_length : (seed size : ℕ) → length (generated seed size) ≡ 6 * size + 3 * circles_of seed size + size / 100
generated_length seed zero = omega arith
generated_length seed (suc i) =
    parts (generated seed i) (family seed i) (cycle_after i)
    ∙ line_step seed i (length (generated seed i)) (length (family seed i)) (length (cycle_after i))
    (generated_length seed i) (shape_length (shape_of seed i) (thread_of i) (static_of i)) (after_length i)

pub generated_cycles : (seed size : ℕ) → cycles_of (generated seed size) ≡ size / 100
generated_cycles seed zero = refl
generated_cycles seed (suc i) =
    append_cycles (generated seed i ++ family seed i) (cycle_after i)
    ∙ ap (λ n. n + cycles_of (cycle_after i)) (append_cycles (generated seed i) (family seed i)
    ∙ ap (λ n. cycles_of (generated seed i) + n) (shape_cycles (shape_of seed i) (thread_of i) (static_of i)))
    ∙ (let induction = generated_cycles seed i in let last = after_cycles i in omega arith)

-- as many families as there are shapes, or a multiple of that
some_circles : (seed n : ℕ) → circles_of seed (4 * n) ≡ n
some_circles seed n = omega arith

pub of_known : (seed n : ℕ) → length (generated seed (4 * n)) ≡ 6 * (4 * n) + 3 * n + 4 * n / 100
of_known seed n = generated_length seed (4 * n) ∙ ap (λ k. 6 * (4 * n) + 3 * k + 4 * n / 100) (some_circles seed n)

-- the most lines
pub most_lines : (seed size : ℕ) → size ≤ 2800 → 6 * size + 3 * circles_of seed size + size / 100 ≤ 20000
most_lines seed size h = omega arith
