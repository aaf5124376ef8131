-- How the gate goes with a cycle, and a pin with its thread.
use Rattle.std.specs.Prelude.{◌≡◌, ◌⊎◌, ℕ, ◌<◌}
use Rattle.joint_machine.specs.declared.lines.Act.{Act}
use Rattle.joint_machine.specs.declared.names.Thread.TheVariants.{M}
use Rattle.joint_model.specs.Listed.{Stock}
use Rattle.order_table.specs.declared.views.View.{View}
use Rattle.order_table.specs.Stages.{IsClosed}
use Rattle.order_table.specs.Allowed.{HoldsOpen, NoDebt}
use Rattle.order_table.specs.Views.{IsEnded, IsOpen, known}
use Rattle.seat_calls.specs.Passing.{Lends, Returns}
use Rattle.weak_wait.specs.declared.reads.Got.{Got}
use Rattle.weak_wait.specs.Reads.{Answers}

-- the seat is outside and owes no pin and no bit; what it owes of cells isn't said
pub record IsOutside (v : View) : Type 0 where
  pub outside : v.inside ≡ 0
  pub clear : v.owes ≡ 0
  pub stored : (v.fill ≡ 0) × (v.empty ≡ 0)

-- the gate is closed for a cycle; all else but what was scanned is as before
pub record ClosesFor (v w : View) (cycle : ℕ) : Type 0 where
  pub owns : w.owns ≡ v.owns
  pub known : w.known ≡ v.known
  pub holds : w.holds ≡ cycle
  pub debts : w.debts ≡ v.debts
  pub outside : IsOutside w

-- the cycle is open that the gate is held for
abbrev pub HasOpened : View → Type 0
HasOpened v = (0 < v.holds) × IsOpen v v.holds

-- it has ended, and no other is open
abbrev pub HasEnded : View → Type 0
HasEnded v = (0 < v.holds) × IsEnded v v.holds × IsClosed (known v 0)

-- all that a settled seat is but for the clearing of a reader's pin
pub record OwesClearing (v : View) (reader : ℕ) : Type 0 where
  pub outside : v.inside ≡ 0
  pub clear : v.owes ≡ 0
  pub paid : NoDebt v
  pub fill : v.fill ≡ 0
  pub empty : (v.empty ≡ 0) ⊎ (v.empty ≡ reader)
  pub gate : HoldsOpen v

-- a read under the managed lock: the caller's lines are lent, the read is made by the locked seat, and they are given
-- back
pub record ReadsLocked (reader index : ℕ) (a : Act) (number : ℕ) (g : Got)
    (locked mine locked' mine' : View) (old new : Stock) : Type 0 where
  pub lent : View
  pub left : View
  pub made : View
  pub lends : Lends (M reader) locked mine lent left
  pub answers : Answers reader index a number g lent made old new
  pub returns : Returns (M reader) made left locked' mine'
