-- What a call of the shared bridge makes is the line that it was asked for.
use Rattle.std.proofs.Common.{◌≡◌, ℕ, ap, refl, subst, sym, ◌∙◌}
use Rattle.joint_machine.specs.declared.names.Cell.{Cell}
use Rattle.joint_machine.specs.declared.names.Cycle.{Cycle}
use Rattle.joint_machine.specs.declared.names.Thread.{Thread}
use Rattle.joint_machine.specs.declared.names.Thread.TheVariants.{M, P, C}
use Rattle.joint_machine.specs.declared.lines.Act.{Act}
use Rattle.joint_machine.specs.declared.lines.Act.TheVariants as act
use Rattle.joint_machine.specs.declared.events.Reply.TheVariants as says
use Rattle.joint_machine.specs.Lines.{IsLine, IsManagedThread}
use Rattle.order_table.specs.declared.views.View.{View}
use Rattle.joint_history.specs.declared.callers.Receipt.{Receipt}
use Rattle.joint_history.specs.Operations.{IsOperationOf, IsOwnThread, ReadsExactly, Runs}
use Rattle.run_laws.proofs.Answering.{operations_are_answered}
use Rattle.run_laws.proofs.Lining.{operations_are_lines, others_keep_standing}
use Rattle.run_laws.proofs.Waits.{operations_waits_end}
use Rattle.weak_wait.specs.declared.reads.Got.{Got}
use Rattle.weak_wait.specs.declared.reads.Got.TheVariants as got
use Rattle.weak_wait.specs.Reads.{reply_of}
use Rattle.script_runs.specs.declared.lines.ReadCall.TheVariants as reads
use Rattle.script_runs.specs.Running.{AnswersLine, MakesLine, WaitsLine, read_call}

abbrev pub runs_line : (t : Thread) (old new : View) (index : ℕ) (a : Act) (r : Receipt) → IsOperationOf t a → Runs t old new index a r → MakesLine t old new index a
runs_line t old new index a r o k = record {
  entries = k.entries;
  made = k.made;
  line = λ s. operations_are_lines s t index a k.entries r o k.operation;
  still = λ s. others_keep_standing s t index a k.entries o;
}

pub answers_line : (t : Thread) (old new : View) (index : ℕ) (a : Act) (r : Receipt) → IsOperationOf t a
    → Runs t old new index a r → (IsManagedThread t → ReadsExactly t old new a r.reply) → AnswersLine t old new index a
answers_line t old new index a r o k exact = record {
  made_line = runs_line t old new index a r o k;
  answered = λ before after is. operations_are_answered t index a k.entries r old new before after o k.operation k.made (exact is) is;
}

pub waits_line : (t : Thread) (old new : View) (index : ℕ) (a : Act) (r : Receipt) → IsOperationOf t a → Runs t old new index a r
    → (IsManagedThread t → (k : Cell) (c : Cycle) → a ≡ act.Await k → r.reply ≡ says.Pending c → ⊥) → WaitsLine t old new index a
waits_line t old new index a r o k never = record { made_line = runs_line t old new index a r o k; waits = λ is. operations_waits_end t index a k.entries r k.operation (never is) }

-- who knows the same before it makes its line
pub from_same : (t u : Thread) (old mid new : View) (index : ℕ) (a : Act) → u ≡ t → mid ≡ old → WaitsLine u mid new index a → WaitsLine t old new index a
from_same t u old mid new index a e f k = subst (λ z. WaitsLine z old new index a) e (subst (λ v. WaitsLine u v new index a) f k)

pub is_not_managed : (t : Thread) (n : ℕ) → t ≡ P n → IsManagedThread t → ⊥
is_not_managed t n e is = subst IsManagedThread e is

-- a line that takes locks, or reads at once, is no wait; and an answer that isn't pending is no pending reply
pub locked_not_await : (a : Act) (k : Cell) → read_call a ≡ reads.Locked → a ≡ act.Await k → ⊥
locked_not_await a k e f = by (sym e ∙ ap read_call f)
  where
    by : reads.Locked ≡ reads.Waiting → ⊥
    by q = cc

pub now_not_await : (a : Act) (k : Cell) → read_call a ≡ reads.Now → a ≡ act.Await k → ⊥
now_not_await a k e f = by (sym e ∙ ap read_call f)
  where
    by : reads.Now ≡ reads.Waiting → ⊥
    by q = cc

pub not_pending : (g : Got) (c : Cycle) → ((k : Cycle) → g ≡ got.Pending k → ⊥) → reply_of g ≡ says.Pending c → ⊥
not_pending (got.Pending k) c n e = n k refl
not_pending (got.Got m) c n e = absurd (cc)
not_pending got.Gone c n e = absurd (cc)
not_pending got.Unset c n e = absurd (cc)
not_pending (got.PinHeld m) c n e = absurd (cc)

-- a line is an operation of its thread
pub line_operation : (t : Thread) (a : Act) → IsOwnThread t → IsLine t a → IsOperationOf t a
line_operation (M n) a o l = l
line_operation (P n) a o l = l
line_operation C a o l = absurd o
