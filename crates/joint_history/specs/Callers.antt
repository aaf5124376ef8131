-- What a caller is seen as, and what it knows.
use Rattle.std.specs.Prelude.{◌≡◌, ◌⊎◌, ℕ, ◌+◌, List, [], ◌∷◌}
use mathlib.Core.List.{IsPrefix}
use Rattle.joint_machine.specs.declared.names.Thread.{Thread}
use Rattle.joint_machine.specs.declared.names.Thread.TheVariants.{M}
use Rattle.joint_machine.specs.declared.events.Entry.{Entry}
use Rattle.joint_model.specs.declared.lists.Holding.TheVariants.{Every}
use Rattle.joint_machine.specs.Control.{doing_at, IsDone}
use Rattle.joint_machine.specs.HistoryLines.{caller_line}
use Rattle.joint_machine.specs.Lines.{IsThread}
use Rattle.joint_model.specs.Listed.{Stock}
use Rattle.joint_machine.specs.Linked.{Linkage}
use Rattle.joint_machine.specs.Sides.{TakesManaged, TakesPeer}
use Rattle.known_laws.specs.Pasts.{end_of}
use Rattle.order_table.specs.declared.views.View.{View}
use Rattle.order_table.specs.Tells.{IsOfCaller}
use Rattle.order_table.specs.Views.{known, Owns}
use Rattle.joint_history.specs.Knowing.{line_known}
use Rattle.view_laws.specs.Knowing.{IsDrawnView}

-- a caller: which thread it is, what it knows, and of a managed thread its entries of reads with the room for more
pub record Pass : Type 0 where
  pub thread : Thread
  pub view : View
  pub reads : Stock

-- no other thread reads cells
abbrev pub no_reads : Stock
no_reads = record { entries = []; spare = 0; holding = Every }

abbrev pub reads_of : Thread → Stock → Stock
reads_of (M n) s = s
reads_of t s = no_reads

-- the entries that the thread has made, by what its seat knows
abbrev pub own_in : Thread → View → List Entry
own_in t v = line_known v (caller_line t)

-- the entries that the caller has made
abbrev pub own : Pass → List Entry
own p = own_in p.thread p.view

-- a managed thread keeps its entries of reads itself: they are the list of its reader. No other thread reads cells
abbrev pub KeepsReads : Thread → View → List Entry → Type 0
KeepsReads (M n) v es = line_known v (1 + n) ≡ es
KeepsReads t v es = es ≡ []

-- what the thread's reader made is the same
abbrev pub ReadsStay : Thread → View → View → Type 0
ReadsStay (M n) old new = known new (1 + n) ≡ known old (1 + n)
ReadsStay t old new = Unit {0}

-- the thread has nothing in hand that it has to release
abbrev pub HasReleased : Thread → Linkage → Type 0
HasReleased (M n) s = IsDone (doing_at s.control n)
HasReleased t s = Unit {0}

-- a caller knows a past, at whose end it has nothing to release
pub record CallerKnows (t : Thread) (v : View) : Type 0 where
  pub known : IsDrawnView v
  pub released : HasReleased t (end_of known.known.past)

-- the thread is one of a run with so many managed and so many peer threads: both sides take its events
abbrev pub IsOfRun : ℕ → ℕ → Thread → Type 0
IsOfRun managed peers t = IsThread t × TakesManaged managed t × TakesPeer peers t

-- the view knows no entry
abbrev pub KnowsNothing : View → Type 0
KnowsNothing v = (i : ℕ) → known v i ≡ []

-- it holds its thread's pass, and of a managed thread the role of its reader
abbrev pub HoldsPass : Thread → View → Type 0
HoldsPass t v = (i : ℕ) → IsOfCaller t i → Owns v i

-- a caller told what it knows, and knows the same
pub record Tells (old new : Pass) : Type 0 where
  pub thread : new.thread ≡ old.thread
  pub reads : new.reads ≡ old.reads
  pub same : (i : ℕ) → known new.view i ≡ known old.view i

-- a caller was told what another knows: of each line it knows the longer list, which the other begins; its own entries
-- are the same
pub record Hears (other old new : Pass) : Type 0 where
  pub thread : new.thread ≡ old.thread
  pub reads : new.reads ≡ old.reads
  pub own_stay : own new ≡ own old
  pub either : (i : ℕ) → (known new.view i ≡ known old.view i) ⊎ (known new.view i ≡ known other.view i)
  pub knew : (i : ℕ) → IsPrefix (known old.view i) (known new.view i)
  pub heard : (i : ℕ) → IsPrefix (known other.view i) (known new.view i)

-- the line of the last of these entries; 0 where there is none
abbrev pub last_index : List Entry → ℕ
last_index [] = 0
last_index (e ∷ []) = e.made.index
last_index (e ∷ f ∷ es) = last_index (f ∷ es)
