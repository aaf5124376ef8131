-- The driver's lines of a generated script are whole cycles.
use Rattle.std.proofs.Common.{◌≡◌, ℕ, zero, suc, refl}
use Rattle.std.specs.Prelude.{All}
use Rattle.std.proofs.lemmas.List.Elements.{All-contains, All-from_recursion}
use Rattle.joint_machine.specs.declared.names.StaticNo.{StaticNo}
use Rattle.joint_machine.specs.declared.names.Thread.{Thread}
use Rattle.joint_machine.specs.declared.names.Thread.TheVariants.{M, P, C}
use Rattle.joint_machine.specs.declared.lines.Act.{Act}
use Rattle.run_laws.specs.LastCycle.{DrivesCycles}
use Rattle.run_laws.specs.WithCycle.{cycle_line}
use Rattle.script_generator.specs.Families.{family_of}
use Rattle.script_generator.specs.Generated.{generated, shape_of, static_of, thread_of}
use Rattle.script_generator.proofs.EachLine.{whole}

abbrev IsCycleOrOther : Thread × Act → Type 0
IsCycleOrOther line = line.0 ≡ C → line ≡ cycle_line

of-managed : (t : ℕ) (a : Act) → IsCycleOrOther (M t, a)
of-managed t a e = absurd (cc)

of-peer : (t : ℕ) (a : Act) → IsCycleOrOther (P t, a)
of-peer t a e = absurd (cc)

family-lines : (k t : ℕ) (x : StaticNo) → All IsCycleOrOther (family_of k t x)
family-lines zero t x = All-from_recursion IsCycleOrOther (family_of 0 t x) (search of-managed)
family-lines (suc zero) t x = All-from_recursion IsCycleOrOther (family_of 1 t x) (search of-managed)
family-lines (suc (suc zero)) t x = All-from_recursion IsCycleOrOther (family_of 2 t x) (search of-managed)
family-lines (suc (suc (suc n))) t x = All-from_recursion IsCycleOrOther (family_of 3 t x) (search of-peer)

pub drives_cycles : (seed size : ℕ) → DrivesCycles (generated seed size)
drives_cycles seed size line c = All-contains IsCycleOrOther (generated seed size) line (whole IsCycleOrOther (λ e. refl) (λ s i. family-lines (shape_of s i) (thread_of i) (static_of i)) seed size) c
