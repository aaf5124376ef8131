-- The counts that are kept are those of the entries before, and what a read may answer by them is what it may answer.
use Rattle.std.specs.Prelude.{◌≡◌, ℕ, ◌<◌, ◌≤◌, ◌↔◌, List, [], ◌∷◌, length, Option, Some, None, is_some}
use Rattle.joint_machine.specs.declared.names.Thread.{Thread}
use Rattle.joint_machine.specs.Lines.{IsThread}
use Rattle.joint_machine.specs.Told.{Noted}
use Rattle.check_laws.specs.Behind.{state_of, MayBePendingBehind}
use Rattle.check_laws.specs.Counts.{Setting, ended, setting, IsUnknown}
use Rattle.check_laws.specs.Known.{managed_count, seen}
use Rattle.check_laws.specs.Reads.{AllComeBehind, AreInPlace, AllReadBehind}
use Rattle.reader_counts.specs.declared.counts.CellSet.{CellSet}
use Rattle.reader_counts.specs.Counts.{Counts, opening_counts, seen_by, end_in, set_in, IsPendingIn, IsUnknownIn}
use Rattle.reader_counts.specs.Counts.{counts_after, EndsWithin}

-- a setting as it is kept
abbrev pub kept_setting : Option Setting → Option CellSet
kept_setting None = None
kept_setting (Some w) = Some record { by = w.caller; count = w.count }

-- the counts are those of a past
pub record AreCountsOf (past : List Noted) (c : Counts) : Type 0 where
  pub managed : c.managed ≡ managed_count past
  pub callers : length c.seen ≡ 17
  pub seen : (t : Thread) → IsThread t → seen_by c t ≡ seen past t
  pub many : length c.cells ≡ 64
  pub cells : (k : ℕ) → k < 64 → set_in c k ≡ kept_setting (setting past k)
  pub cycles : length c.ended ≡ (state_of past).managed.managed.cycles
  pub ends : (k : ℕ) → 1 ≤ k → k ≤ (state_of past).managed.managed.cycles → end_in c k ≡ ended past k

-- what a read may answer by them is what it may answer by the entries before it
pub record AreTold (past : List Noted) (c : Counts) (t : Thread) (k : ℕ) : Type 0 where
  pub pending : IsPendingIn c t k (state_of past).managed.managed.cycles (is_some (state_of past).managed.managed.cycle)
      ↔ MayBePendingBehind past (state_of past).managed.managed (length past) t k
  pub unknown : k < 64 → IsUnknownIn c t k ↔ IsUnknown t (seen past t) (setting past k)

abbrev pub ReadsAreTold : Type 0
ReadsAreTold = (past : List Noted) (c : Counts) → AllComeBehind past → AllReadBehind past
    → AreInPlace past → AreCountsOf past c → (t : Thread) (k : ℕ) → IsThread t → AreTold past c t k

-- so they are before the first entry, and after each further one
pub record GoOn (n : Noted) (past : List Noted) (c : Counts) : Type 0 where
  pub ends : EndsWithin c n.entry.made.op
  pub counts : AreCountsOf (n ∷ past) (counts_after c n.entry.made)

pub record CountsGoOn : Type 0 where
  pub first : AreCountsOf [] opening_counts
  pub next : (n : Noted) (past : List Noted) (c : Counts) → AllComeBehind (n ∷ past)
      → AllReadBehind (n ∷ past) → AreCountsOf past c → GoOn n past c
