-- What follows from the rule, in words of their own: whole lists and passes between any two steps, and that entries by
-- themselves tell in which lines they stand.
use Rattle.std.specs.Prelude.{◌≡◌, ◌⊎◌, ℕ, ◌<◌, ◌≤◌, List, [], ◌∷◌, length, map, slice_index}
use mathlib.Core.Option.{some}
use mathlib.Core.List.{IsPrefix}
use lib.ListN.{get_elem?}
use Rattle.atomic_table.specs.Table.{State}
use Rattle.joint_machine.specs.declared.names.Thread.{Thread}
use Rattle.joint_machine.specs.declared.events.Entry.{Entry}
use Rattle.joint_machine.specs.Histories.{NumberedFrom}
use Rattle.joint_machine.specs.Lines.{IsThread}
use Rattle.order_table.specs.declared.views.Role.{Role}
use Rattle.order_table.specs.declared.views.KeptEntry.{KeptEntry}
use Rattle.order_table.specs.declared.views.View.{View}
use Rattle.joint_machine.specs.HistoryLines.{caller_line, entries_in}
use Rattle.order_table.specs.Rows.{at}
use Rattle.order_table.specs.Views.{IsRole, role_line, known, Owns}
use Rattle.order_table.specs.Rule.{Item, Ordered, RunsFrom, of_line}
use Rattle.joint_machine.specs.Numbers.{u32_max}

-- the entry stands in the list
abbrev pub In : List KeptEntry → KeptEntry → Type 0
In [] a = ⊥
In (k ∷ ks) a = (k ≡ a) ⊎ In ks a

-- some role's list has an entry with the number
pub record IsNumberIn (lists : ℕ → List KeptEntry) (n : ℕ) : Type 0 where
  pub role : ℕ
  pub one : role < 10
  pub entry : KeptEntry
  pub stands : In (lists role) entry
  pub number : entry.entry.number ≡ n

-- some seat knows the whole list
pub record IsKnownBySomeSeat (views : List View) (i : ℕ) (whole : List KeptEntry) : Type 0 where
  pub seat : ℕ
  pub view : View
  pub there : get_elem? views seat ≡ some view
  pub known : (known view i ≡ whole) ⊎ (at [] view.heard i ≡ whole)

-- Between any two steps each line has a whole list, the longest that any seat knows. Each seat that there ever was
-- knows a beginning of it; its one owner knows all of it. The numbers in the roles' lists are those below the sequencer
-- word, each once; no list is too long, and the word is far from its end. A caller's list has just that caller's
-- entries of the roles' lists.
pub record HasWholeLists (s : State (Unit {0}) View) : Type 0 where
  pub lists : ℕ → List KeptEntry
  pub begins : (j : ℕ) (v : View) → get_elem? s.views j ≡ some v → (i : ℕ) → IsPrefix (known v i) (lists i)
  pub longest : (i : ℕ) → i < 27 → IsKnownBySomeSeat s.views i (lists i)
  pub whole : (j : ℕ) (v : View) → get_elem? s.views j ≡ some v → (i : ℕ) → Owns v i → known v i ≡ lists i
  pub owner : (j k : ℕ) (v w : View) → get_elem? s.views j ≡ some v
      → get_elem? s.views k ≡ some w → (i : ℕ) → Owns v i → Owns w i → j ≡ k
  pub counted : (n : ℕ) → n < slice_index s.words 0 → IsNumberIn lists n
  pub below : (r : ℕ) (a : KeptEntry) → r < 10 → In (lists r) a → a.entry.number < slice_index s.words 0
  pub once : (q r : ℕ) (a b : KeptEntry) → q < 10 → r < 10 → In (lists q) a
      → In (lists r) b → a.entry.number ≡ b.entry.number → (q ≡ r) × (a ≡ b)
  pub limit : (r : ℕ) → r < 10 → length (lists r) ≤ u32_max
  pub unwrapped : slice_index s.words 0 ≤ 42949672950
  pub own : (t : Thread) (a : KeptEntry) → IsThread t → In (lists (caller_line t)) a
      → (a.entry.made.caller ≡ t) × ((r : ℕ) × (r < 10) × In (lists r) a)
  pub made : (r : ℕ) (a : KeptEntry) → r < 10 → In (lists r) a → In (lists (caller_line a.entry.made.caller)) a

abbrev pub RuleKeepsLists : Type 0
RuleKeepsLists = (s : State (Unit {0}) View) → Ordered s → HasWholeLists s

-- no two roles have one line, and no two callers
abbrev pub RolesDiffer : Type 0
RolesDiffer = (q r : Role) → IsRole q → IsRole r → role_line q ≡ role_line r → q ≡ r

abbrev pub CallersDiffer : Type 0
CallersDiffer = (t u : Thread) → IsThread t → IsThread u → caller_line t ≡ caller_line u → t ≡ u

-- the entries of a history, and those of a line
abbrev pub entries_of : List Item → List Entry
entries_of xs = map (λ x. x.kept.entry) xs

abbrev pub line_entries : List KeptEntry → List Entry
line_entries ks = map (λ k. k.entry) ks

-- the entries are numbered from 0 on, and each line has just those that stand in it by event and caller
pub record AreTold (whole : List Item) : Type 0 where
  pub numbered : NumberedFrom 0 (entries_of whole)
  pub lines : (i : ℕ) → line_entries (of_line i whole) ≡ entries_in i (entries_of whole)

abbrev pub EntriesTellLines : Type 0
EntriesTellLines = (whole : List Item) → RunsFrom 0 whole → AreTold whole
