-- A thread runs its own lines: each line that isn't its own passes, each of its own is held with the entries that its
-- caller made, and at the end the driver holds the phases that were left too.
use Rattle.std.proofs.Common.{◌≡◌, ℕ, ◌+◌, ◌≤◌, true, false, List, [], ◌++◌, length, Some, refl, sym, ◌∙◌, ap, subst}
use Rattle.std.specs.Prelude.{Contains, slice_get}
use Rattle.std.proofs.lemmas.List.{append-nil}
use Rattle.joint_machine.specs.declared.names.Thread.{Thread}
use Rattle.joint_machine.specs.declared.names.Thread.TheVariants.{C}
use Rattle.joint_machine.specs.declared.lines.Act.{Act}
use Rattle.joint_machine.specs.HistoryLines.{caller_line}
use Rattle.joint_machine.specs.Lines.{IsManagedThread}
use Rattle.joint_machine.specs.PeerReplay.{is_thread}
use Rattle.joint_machine.proofs.Members.{Contains-nil}
use Rattle.order_table.specs.Facts.{line_entries}
use Rattle.joint_history.specs.Callers.{KnowsNothing, Pass, last_index, own}
use Rattle.joint_history.specs.Ending.{HasIdleDriver}
use Rattle.joint_history.specs.Knowing.{line_known}
use Rattle.joint_history.specs.Operations.{IsOwnThread}
use Rattle.joint_history.proofs.KnownCallers.{own_idle}
use Rattle.bridge_cycle.specs.Progress.{Progress, pass_of}
use Rattle.script_laws.specs.Holding.{Standing, opening_standing, standing_after, AreLine}
use Rattle.script_laws.proofs.Growing.{idle_leaves_nothing}
use Rattle.run_laws.specs.Threads.{HoldsItsFirst, HoldsItsLines}
use Rattle.run_laws.specs.Waits.{WaitsEnd}
use Rattle.run_laws.proofs.ByThreads.{others_lines_pass, own_lines_add, own_lines_end}
use Rattle.run_laws.proofs.Waits.{more_waits_end}
use Rattle.script_runs.specs.Running.{DrivesLeft, DrivesLine, HasRunLines, MakesLine, StandsAs, WaitsLine}
use Rattle.joint_machine.proofs.HeapLemmas.{same_thread}

-- who knows nothing has made nothing, and is idle
pub own_nothing : (p : Pass) → KnowsNothing p.view → own p ≡ []
own_nothing p k = ap line_entries (k (caller_line p.thread))

-- a line more of a thread that isn't the driver's
pub own_holds : (script : List (Thread × Act)) (n : ℕ) (p q : Pass) (line : Thread × Act) → slice_get script n ≡ Some line
    → is_thread p.thread line.0 ≡ true → q.thread ≡ p.thread → MakesLine p.thread p.view q.view (n + 1) line.1
    → HoldsItsFirst script n p opening_standing → HoldsItsFirst script (n + 1) q opening_standing
own_holds script n p q line e is same k h =
    let its : line.0 ≡ p.thread = sym (same_thread p.thread line.0 is) in
    let more : own q ≡ own p ++ k.entries = ap (λ t. line_known q.view (caller_line t)) same ∙ k.made.own_more in
    let are : AreLine opening_standing (n + 1) line k.entries = subst (λ t. AreLine opening_standing (n + 1) (t, line.1) k.entries) (sym its) (k.line opening_standing) in
    subst (HoldsItsFirst script (n + 1) q) (k.still opening_standing) (own_lines_add script n p q opening_standing line k.entries e its same more are h)

-- and with it no wait is pending
pub own_waits : (p q : Pass) (index : ℕ) (a : Act) → q.thread ≡ p.thread → WaitsLine p.thread p.view q.view index a
    → (IsManagedThread p.thread → WaitsEnd (own p)) → IsManagedThread q.thread → WaitsEnd (own q)
own_waits p q index a same k before is =
    let is' = subst IsManagedThread same is in
    let more : own q ≡ own p ++ k.made_line.entries = ap (λ t. line_known q.view (caller_line t)) same ∙ k.made_line.made.own_more in
    subst WaitsEnd (sym more) (more_waits_end (own p) k.made_line.entries (before is') (k.waits is'))

pub none_waits : (p : Pass) → KnowsNothing p.view → IsManagedThread p.thread → WaitsEnd (own p)
none_waits p k is e c cell cycle waits pending = Contains-nil e (subst (λ es. Contains es e) (own_nothing p k) c)

pub other_holds : (script : List (Thread × Act)) (n : ℕ) (p : Pass) (line : Thread × Act) → slice_get script n ≡ Some line
    → is_thread p.thread line.0 ≡ false → HoldsItsFirst script n p opening_standing → HoldsItsFirst script (n + 1) p opening_standing
other_holds script n p line e other h = others_lines_pass script n p opening_standing line e other h

pub own_ends : (script : List (Thread × Act)) (p : Pass) → IsOwnThread p.thread → last_index (own p) ≤ length script
    → HoldsItsFirst script (length script) p opening_standing → (IsManagedThread p.thread → WaitsEnd (own p)) → HasRunLines script p.thread p
own_ends script p o up h waits = record {
  thread = refl;
  holds = own_lines_end script p p opening_standing [] refl (sym (append-nil (own p))) (idle_leaves_nothing opening_standing refl) h;
  up_to = up;
  idle = own_idle p o;
  waits = waits;
}

-- the driver's lines among the first, where it stands after them, and the number of the last one
pub record DriverHolds (script : List (Thread × Act)) (n last : ℕ) (d : Progress) : Type 0 where
  pub standing : Standing
  pub holds : HoldsItsFirst script n (pass_of d) standing
  pub stands : StandsAs standing d
  pub line : standing.line ≡ last

pub driver_holds : (script : List (Thread × Act)) (n last : ℕ) (d f : Progress) (line : Thread × Act) → slice_get script n ≡ Some line
    → is_thread C line.0 ≡ true → DrivesLine d f (n + 1) line.1 → DriverHolds script n last d → DriverHolds script (n + 1) (n + 1) f
driver_holds script n last d f line e is k h =
    let its : line.0 ≡ C = sym (same_thread C line.0 is) in
    let are : AreLine h.standing (n + 1) line k.entries = subst (λ t. AreLine h.standing (n + 1) (t, line.1) k.entries) (sym its) (k.line h.standing h.stands) in
    record {
      standing = standing_after h.standing (n + 1) line.1 k.entries;
      holds = own_lines_add script n (pass_of d) (pass_of f) h.standing line k.entries e its refl k.made.own_more are h.holds;
      stands = k.stands h.standing h.stands;
      line = k.last h.standing;
    }

pub driver_passes : (script : List (Thread × Act)) (n last : ℕ) (d : Progress) (line : Thread × Act)
    → slice_get script n ≡ Some line → is_thread C line.0 ≡ false → DriverHolds script n last d → DriverHolds script (n + 1) last d
driver_passes script n last d line e other h = record { standing = h.standing; holds = others_lines_pass script n (pass_of d) h.standing line e other h.holds; stands = h.stands; line = h.line }

pub driver_ends : (script : List (Thread × Act)) (last : ℕ) (d f : Progress) (p : Pass) → p ≡ pass_of f → HasIdleDriver p
    → last_index (own (pass_of f)) ≤ length script → DrivesLeft d f last → DriverHolds script (length script) last d → HasRunLines script C p
driver_ends script last d f p is idle up k h = record {
  thread = ap (λ (q : Pass). q.thread) is;
  holds = subst (HoldsItsLines script) (sym is) (own_lines_end script (pass_of d) (pass_of f) h.standing k.entries refl k.made.own_more (k.left h.standing h.stands h.line) h.holds);
  up_to = subst (λ (q : Pass). last_index (own q) ≤ length script) (sym is) up;
  idle = idle;
  waits = λ is. absurd is;
}
