-- What holds of each line of a generated script: its thread has such a line, and writes a static only that no other
-- thread writes.
use Rattle.std.proofs.Common.{◌≡◌, ℕ, zero, suc, ◌+◌, ◌%◌, ◌<◌, ◌≤◌, [], ◌++◌, subst, sym, arith}
use Rattle.std.specs.Prelude.{All}
use Rattle.std.proofs.lemmas.List.Elements.{All-nil, All-cons, All-append, All-from_recursion}
use Rattle.joint_machine.specs.declared.names.StaticNo.{StaticNo}
use Rattle.joint_machine.specs.declared.names.Thread.{Thread}
use Rattle.joint_machine.specs.declared.names.Thread.TheVariants.{C}
use Rattle.joint_machine.specs.declared.names.PhaseWord.TheVariants.{Cycle}
use Rattle.joint_machine.specs.declared.lines.Act.{Act}
use Rattle.joint_machine.specs.declared.lines.Act.TheVariants.{PhaseLine}
use Rattle.bridge_script.specs.Scripts.{IsScriptLine, IsScript}
use Rattle.script_generator.specs.Families.{family_of}
use Rattle.script_generator.specs.Generated.{shape_of, thread_of, static_of, family, cycle_after, generated}
use Rattle.script_generator.specs.Laws.{WritesOwnStatic}
use Rattle.script_generator.proofs.Counts.{here, none, after, generated_length, generated_cycles, most_lines}

-- a fact of each line of each family, and of `c cycle`, is one of the whole script
pub whole : (P : Thread × Act → Type 0) → P (C, PhaseLine Cycle) → ((seed i : ℕ) → All P (family seed i)) → (seed size : ℕ) → All P (generated seed size)
whole P c f seed zero = All-nil P
whole P c f seed (suc i) =
    let last : All P (cycle_after i) = elim (after i) [
      | here e is ↦ subst (All P) (sym is) (All-cons P (C, PhaseLine Cycle) [] c (All-nil P))
      | none e is ↦ subst (All P) (sym is) (All-nil P)
    ] in
    All-append P (generated seed i ++ family seed i) (cycle_after i) (All-append P (generated seed i) (family seed i) (whole P c f seed i) (f seed i)) last

line_family : (k t : ℕ) (x : StaticNo) → 1 ≤ t → t ≤ 8 → x.0 < 16 → All IsScriptLine (family_of k t x)
line_family zero t x a b s = All-from_recursion IsScriptLine (family_of 0 t x) (search arith)
line_family (suc zero) t x a b s = All-from_recursion IsScriptLine (family_of 1 t x) (search arith)
line_family (suc (suc zero)) t x a b s = All-from_recursion IsScriptLine (family_of 2 t x) (search arith)
line_family (suc (suc (suc n))) t x a b s = All-from_recursion IsScriptLine (family_of 3 t x) (search arith)

pub each : (seed size : ℕ) → All IsScriptLine (generated seed size)
each = whole IsScriptLine tt (λ seed i. line_family (shape_of seed i) (thread_of i) (static_of i) (omega arith) (omega arith) (omega arith))

own_family : (k t : ℕ) (x : StaticNo) → t ≡ 1 + x.0 % 4 → All WritesOwnStatic (family_of k t x)
own_family zero t x e = All-from_recursion WritesOwnStatic (family_of 0 t x) (search arith)
own_family (suc zero) t x e = All-from_recursion WritesOwnStatic (family_of 1 t x) (search arith)
own_family (suc (suc zero)) t x e = All-from_recursion WritesOwnStatic (family_of 2 t x) (search arith)
own_family (suc (suc (suc n))) t x e = All-from_recursion WritesOwnStatic (family_of 3 t x) (search arith)

pub own : (seed size : ℕ) → All WritesOwnStatic (generated seed size)
own = whole WritesOwnStatic tt (λ seed i. own_family (shape_of seed i) (thread_of i) (static_of i) (omega arith))

pub is_script : (seed size : ℕ) → size ≤ 2800 → IsScript (generated seed size)
is_script seed size h = record {
  each = each seed size;
  lines = rw (generated_length seed size) (most_lines seed size h);
  cycles = rw (generated_cycles seed size) (omega arith);
}
