-- The rule of the order, which holds between any two steps: there is one history, whose entries have the numbers from 0
-- on, and whose length is the sequencer word. Each line is what this history has of it, so of what two views know of a
-- line the one begins the other. The words of the gate, the cells and the pins are what the lines say, but for what a
-- seat still owes; and what readers answered is right by what stands before.
use Rattle.std.specs.Prelude.{◌≡◌, ℕ, ◌+◌, ◌*◌, ◌/◌, ◌^◌, ◌<◌, ◌≤◌, ◌==◌, false, ◌||◌, nat_lt, Bool, true}
use Rattle.std.specs.Prelude.{if◌then◌else◌, ◌⊎◌, List, [], ◌∷◌, ◌++◌, Some, None, length, slice_index}
use Rattle.std.specs.Int.{bit_at}
use mathlib.Core.Option.{some}
use mathlib.Core.List.{IsPrefix}
use lib.ListN.{get_elem?}
use Rattle.atomic_table.specs.Table.{State}
use Rattle.joint_machine.specs.declared.names.Cycle.{Cycle}
use Rattle.joint_machine.specs.declared.names.Var.{Var}
use Rattle.joint_machine.specs.declared.lines.Act.TheVariants as act
use Rattle.joint_machine.specs.declared.events.Op.TheVariants as op
use Rattle.joint_machine.specs.declared.events.Reply.TheVariants as says
use Rattle.joint_machine.specs.Control.{caller_place}
use Rattle.order_table.specs.declared.views.KeptEntry.{KeptEntry}
use Rattle.order_table.specs.declared.views.View.{View}
use Rattle.joint_machine.specs.HistoryLines.{caller_line}
use Rattle.order_table.specs.Rows.{at}
use Rattle.order_table.specs.Stages.{IsClosed, Deed, stage, deed, opens, ends, neither}
use Rattle.order_table.specs.Owed.{IsNumber, marked, target, has, is_freed, says_word, read_of, word_of, pin}
use Rattle.order_table.specs.Views.{IsInRole, IsNext, known, Owns}
use Rattle.order_table.specs.Allowed.{SaysPending}
use Rattle.joint_machine.specs.Lines.{IsThread}
use Rattle.joint_machine.specs.Numbers.{u32_max}

-- an entry of the history, with the line of the role in whose list it stands
pub record Item : Type 0 where
  pub role : ℕ
  pub kept : KeptEntry

-- the entry stands in the line: in that of its role, or in that of its caller
abbrev pub is_in : ℕ → Item → Bool
is_in i x = (i == x.role) || (i == caller_line x.kept.entry.made.caller)

-- the entries of a line, in their order
abbrev pub of_line : ℕ → List Item → List KeptEntry
of_line i [] = []
of_line i (x ∷ xs) = if is_in i x then x.kept ∷ of_line i xs else of_line i xs

-- the entry with this number: it is made by a thread, and stands in the list in which its event belongs
pub record IsItem (n : ℕ) (x : Item) : Type 0 where
  pub number : x.kept.entry.number ≡ n
  pub caller : IsThread x.kept.entry.made.caller
  pub stands : IsInRole x.role x.kept.entry.made

-- the entries have the numbers from n on, one after another
abbrev pub RunsFrom : ℕ → List Item → Type 0
RunsFrom n [] = Unit {0}
RunsFrom n (x ∷ xs) = IsItem n x × RunsFrom (n + 1) xs

-- each number is below n
abbrev pub IsBelow : ℕ → List KeptEntry → Type 0
IsBelow n [] = Unit {0}
IsBelow n (k ∷ ks) = (k.entry.number < n) × IsBelow n ks

-- what a view knows of each line is a beginning of it; who owns a line is its one owner, and knows it whole
pub record Knows (whole : List Item) (owner : ℕ → ℕ) (j : ℕ) (v : View) : Type 0 where
  pub begins : (i : ℕ) → IsPrefix (known v i) (of_line i whole)
  pub heard : (i : ℕ) → IsPrefix (at [] v.heard i) (of_line i whole)
  pub owned : (i : ℕ) → Owns v i → (owner i ≡ j) × (known v i ≡ of_line i whole)
  pub heard_owned : (i : ℕ) → at false v.heard_owns i ≡ true → (owner i ≡ j) × (at [] v.heard i ≡ of_line i whole)

-- a bit that the owner of these lines has in the gate word, since it owns that reader's role
pub record HasBit (word : ℕ) (owns : List Bool) (bit : ℕ) : Type 0 where
  pub reader : ℕ
  pub is : bit ≡ 2 ^ reader
  pub range : (0 < reader) × (reader < 9)
  pub role : at false owns (1 + reader) ≡ true
  pub set : bit_at word reader ≡ 1

-- what a view says of the gate: the owner of the managed list says whether it is held, nobody else knows the cycle that
-- it is held for as ended, and who is inside, or owes a bit, has its bit in the word
pub record Gates (gate word : ℕ) (v : View) : Type 0 where
  pub owner : Owns v 0 → v.holds ≡ gate
  pub other : at false v.owns 0 ≡ false → (v.holds ≡ 0) × (0 < gate → stage (known v 0) ≤ 2 * gate)
  pub heard_owner : at false v.heard_owns 0 ≡ true → v.heard_holds ≡ gate
  pub heard_other : at false v.heard_owns 0 ≡ false → (v.heard_holds ≡ 0)
      × (0 < gate → stage (at [] v.heard 0) ≤ 2 * gate)
  pub inside : 0 < v.inside → HasBit word v.owns v.inside × (gate ≡ 0)
  pub owes : 0 < v.owes → HasBit word v.owns v.owes
  pub one : 0 < v.inside → v.owes ≡ 0

-- the gate is held for the next cycle, for the open one, or for the one that has ended last; while a cycle is open it
-- is held
abbrev pub IsHeldFor : ℕ → ℕ → Type 0
IsHeldFor gate stage = (gate ≡ 0 → (q : ℕ) × (stage ≡ 2 * q + 1))
    × (0 < gate → (2 * gate ≤ stage + 1) × (stage ≤ 2 * gate + 1))

-- an entry stands in a list
abbrev pub Stands : List KeptEntry → KeptEntry → Type 0
Stands ks k = (j : ℕ) × (get_elem? ks j ≡ some k)

-- the snap of a cycle stands in a managed list
abbrev pub IsSnapped : List KeptEntry → ℕ → Type 0
IsSnapped ml k = (a : KeptEntry) × Stands ml a × (deed a.entry.made.op ≡ opens k)

-- the same, and each entry before it has a smaller number than n
abbrev pub IsSnappedBefore : List KeptEntry → ℕ → ℕ → Type 0
IsSnappedBefore ml n k = (a : KeptEntry) × Stands ml a × (deed a.entry.made.op ≡ opens k)
    × ((b : KeptEntry) → Stands ml b → b.entry.number < a.entry.number → b.entry.number < n)

-- the gate is held for the cycle, whose snap is still owed
abbrev pub IsDue : ℕ → ℕ → ℕ → Type 0
IsDue gate stage k = (gate ≡ k) × (stage + 1 ≡ 2 * k)

-- none of a caller's own entries stands at or after a managed entry later than the end of the cycle
abbrev pub Unknown : List KeptEntry → List KeptEntry → ℕ → Type 0
Unknown ml own k = (a b : KeptEntry) → Stands ml a → deed a.entry.made.op ≡ ends k
    → Stands ml b → a.entry.number < b.entry.number → IsBelow b.entry.number own

-- an entry sets the cell
abbrev pub SetsCell : KeptEntry → ℕ → Type 0
SetsCell k c = (m : ℕ) × (marked k ≡ Some (c, m))

-- a read that was let in: its reply is by a word that it loaded
abbrev pub IsLetIn : Item → Type 0
IsLetIn y = (2 ≤ y.role) × (w : ℕ) × (word_of y.kept.entry.made.reply ≡ Some w)

-- a read that found the gate held for the cycle
abbrev pub FindsHeld : Item → ℕ → Type 0
FindsHeld y k = (2 ≤ y.role) × SaysPending y.kept.entry.made.reply k

-- a read that shows that the gate isn't held for the cycle any more: it was let in behind the cycle's end, or found the
-- gate held for a later one
abbrev pub ShowsOver : List KeptEntry → Item → ℕ → Type 0
ShowsOver ml y k = (IsLetIn y × (a : KeptEntry) × Stands ml a
    × (deed a.entry.made.op ≡ ends k) × (a.entry.number < y.kept.entry.number))
    ⊎ ((l : ℕ) × (k < l) × FindsHeld y l)

-- none of a caller's own entries stands at or after such a read
abbrev pub NotOver : List Item → List KeptEntry → ℕ → Type 0
NotOver whole own k = (i : ℕ) (y : Item) → get_elem? whole i ≡ some y
    → ShowsOver (of_line 0 whole) y k → IsBelow y.kept.entry.number own

-- a cycle is opened where none is, as the next one, and ended where it is open
abbrev pub Follows : ℕ → Deed → Type 0
Follows s (opens k) = s + 1 ≡ 2 * k
Follows s (ends k) = s ≡ 2 * k
Follows s neither = Unit {0}

-- what a word of a cell says to a caller with these own entries: 0, that it is unset as far as the caller can know, and
-- that no snap came since it was set; 1, that its target is freed; another, that its target is the object, which isn't
-- freed
pub record ReadsWord (ml own : List KeptEntry) (c w : ℕ) : Type 0 where
  pub unknown : w ≡ 0 → (a b : KeptEntry) → Stands ml a → SetsCell a c
      → Stands ml b → a.entry.number < b.entry.number → IsBelow b.entry.number own
  pub unsnapped : w ≡ 0 → (a b : KeptEntry) (k : ℕ) → Stands ml a → SetsCell a c
      → Stands ml b → a.entry.number < b.entry.number → deed b.entry.made.op ≡ opens k → ⊥
  pub not_own : w ≡ 0 → (y : KeptEntry) → Stands own y → SetsCell y c → ⊥
  pub alive : w ≡ 0 → (m : ℕ) → target ml c ≡ Some m → is_freed ml m ≡ false
  pub gone : w ≡ 1 → (m : ℕ) × (target ml c ≡ Some m) × (is_freed ml m ≡ true)
  pub object : (m : ℕ) → 0 < m → w ≡ m + 1 → (target ml c ≡ Some m) × (is_freed ml m ≡ false)

-- what may be said of an entry, by what stands before it
pub record Fits (before : List Item) (x : Item) : Type 0 where
  pub sets : x.role ≡ 0 → (c m : ℕ) → marked x.kept ≡ Some (c, m) → IsNumber m
      × (target (of_line 0 before) c ≡ None) × (is_freed (of_line 0 before) m ≡ false)
  pub others : (x.role ≡ 0 → ⊥) → (marked x.kept ≡ None) × (x.kept.freed ≡ [])
  pub cycles : x.role ≡ 0 → Follows (stage (of_line 0 before)) (deed x.kept.entry.made.op)
  pub pending : 2 ≤ x.role → (k : ℕ) → SaysPending x.kept.entry.made.reply k
      → Unknown (of_line 0 before) (of_line (caller_line x.kept.entry.made.caller) before) k
  pub over : 2 ≤ x.role → (k : ℕ) → SaysPending x.kept.entry.made.reply k
      → NotOver before (of_line (caller_line x.kept.entry.made.caller) before) k
  pub due : IsLetIn x → (i k : ℕ) (y : Item) → get_elem? before i ≡ some y → FindsHeld y k → IsSnapped (of_line 0 before) k
  pub read : 2 ≤ x.role → (c w : ℕ) → read_of x.kept.entry.made.op ≡ Some c → word_of x.kept.entry.made.reply ≡ Some w
      → IsClosed (of_line 0 before) × ReadsWord (of_line 0 before)
      (of_line (caller_line x.kept.entry.made.caller) before) c w
  pub filled : 2 ≤ x.role → (m : ℕ) → x.kept.entry.made.reply ≡ says.Pinned record { 0 = m }
      → pin (of_line (caller_line x.kept.entry.made.caller) before) ≡ m + 1
  pub unfilled : 2 ≤ x.role → ((m : ℕ) → x.kept.entry.made.reply ≡ says.Pinned record { 0 = m } → ⊥)
      → pin (of_line (caller_line x.kept.entry.made.caller) before) ≡ 0
  pub snapped : x.role ≡ 0 → (k : Cycle) → x.kept.entry.made.op ≡ op.Snap k
      → (r : ℕ) → 0 < r → r < 9 → at 0 x.kept.pins r ≡ pin (of_line (r + 10) before)
  pub taken : (v : Var) → x.kept.entry.made.op ≡ op.Line (act.Take v)
      → at 0 x.kept.pins (caller_place x.kept.entry.made.caller) ≡ pin
      (of_line (caller_line x.kept.entry.made.caller) before)

abbrev pub EachFits : List Item → List Item → Type 0
EachFits before [] = Unit {0}
EachFits before (x ∷ xs) = Fits before x × EachFits (before ++ x ∷ []) xs

-- a seat that found the gate held for a cycle, and has made no entry since
pub record Waits (whole : List Item) (gate : ℕ) (v : View) : Type 0 where
  pub snap : 0 < v.found → IsSnapped (of_line 0 whole) v.found ⊎ IsDue gate (stage (of_line 0 whole)) v.found
  pub unknown : 0 < v.found → (t : ℕ) → Owns v (t + 10) → Unknown (of_line 0 whole) (known v (t + 10)) v.found
  pub over : 0 < v.found → (t : ℕ) → Owns v (t + 10) → NotOver whole (known v (t + 10)) v.found

-- what an entry that says a cycle is pending says of the managed list
abbrev pub IsPending : List KeptEntry → ℕ → ℕ → ℕ → Type 0
IsPending ml gate n k = IsSnappedBefore ml n k ⊎ (IsDue gate (stage ml) k × IsBelow n ml)

pub record Waiting (whole : List Item) (gate : ℕ) (views : List View) : Type 0 where
  pub snapped : 0 < gate → 2 * gate ≤ stage (of_line 0 whole) → IsSnapped (of_line 0 whole) gate
  pub quiet : 0 < gate → (a b : KeptEntry) → Stands (of_line 0 whole) a
      → deed a.entry.made.op ≡ ends gate → Stands (of_line 0 whole) b → b.entry.number ≤ a.entry.number
  pub shut : 0 < gate → (i : ℕ) (y : Item) → get_elem? whole i ≡ some y → IsLetIn y → (a : KeptEntry)
      → Stands (of_line 0 whole) a → deed a.entry.made.op ≡ ends gate → y.kept.entry.number < a.entry.number
  pub fits : EachFits [] whole
  pub pending : (i : ℕ) (x : Item) → get_elem? whole i ≡ some x → 2 ≤ x.role → (k : ℕ)
      → SaysPending x.kept.entry.made.reply k → IsPending (of_line 0 whole) gate x.kept.entry.number k
  pub each_wait : (j : ℕ) (v : View) → get_elem? views j ≡ some v → Waits whole gate v

-- the owner of the managed list has just set the cell, and has yet to store its word
pub record IsFresh (ml : List KeptEntry) (c w : ℕ) : Type 0 where
  pub init : List KeptEntry
  pub last : KeptEntry
  pub object : ℕ
  pub whole : ml ≡ init ++ last ∷ []
  pub sets : marked last ≡ Some (c, object)
  pub below : IsBelow last.entry.number init
  pub unset : target init c ≡ None
  pub alive : is_freed ml object ≡ false
  pub word : w ≡ 0

-- it has freed the cell's target, while the gate is held, and has yet to store the word
pub record IsStale (ml : List KeptEntry) (gate c w : ℕ) : Type 0 where
  pub object : ℕ
  pub aims : target ml c ≡ Some object
  pub freed : is_freed ml object ≡ true
  pub held : 0 < gate
  pub word : w ≡ object + 1

-- a cell's word is what the managed list says, but for those whose word is owed
abbrev pub CellIs : List KeptEntry → ℕ → Bool → ℕ → ℕ → Type 0
CellIs ml gate owed c w = (w ≡ says_word ml c) ⊎ ((owed ≡ true) × (IsFresh ml c w ⊎ IsStale ml gate c w))

-- who owns the managed list owes these words; as long as one is owed nobody else knows the last managed entry. What a
-- caller's own line has of cells, its seat knows from the managed list as well
pub record Debts (ml : List KeptEntry) (debt : ℕ → Bool) (v : View) : Type 0 where
  pub owner : Owns v 0 → (c : ℕ) → at false v.debts c ≡ debt c
  pub heard_owner : at false v.heard_owns 0 ≡ true → (c : ℕ) → at false v.debts c ≡ debt c
  pub secret : (c : ℕ) → debt c ≡ true → at false v.owns 0 ≡ false → length (known v 0) < length ml
  pub heard_secret : (c : ℕ) → debt c ≡ true → at false v.heard_owns 0 ≡ false → length (at [] v.heard 0) < length ml
  pub mine : (t : ℕ) → Owns v (t + 10) → (y : KeptEntry)
      → Stands (known v (t + 10)) y → (c : ℕ) → SetsCell y c → Stands (known v 0) y
  pub heard_mine : (t : ℕ) → at false v.heard_owns (t + 10) ≡ true → (y : KeptEntry)
      → Stands (at [] v.heard (t + 10)) y → (c : ℕ) → SetsCell y c → Stands (at [] v.heard 0) y

-- what a seat that is inside has loaded is still right
abbrev pub EachLoad : List KeptEntry → View → List (ℕ × ℕ) → Type 0
EachLoad ml v [] = Unit {0}
EachLoad ml v (l ∷ ls) = ((t : ℕ) → Owns v (t + 10) → ReadsWord ml (known v (t + 10)) l.0 l.1) × EachLoad ml v ls

pub record Celled (ml : List KeptEntry) (gate : ℕ) (words : List ℕ) (views : List View) : Type 0 where
  pub debt : ℕ → Bool
  pub nonempty : (c : ℕ) → debt c ≡ true → 0 < length ml
  pub cells : (c : ℕ) → c < 64 → CellIs ml gate (debt c) c (slice_index words (2 + c))
  pub real : (c m : ℕ) → target ml c ≡ Some m → IsNumber m
  pub each_debt : (j : ℕ) (v : View) → get_elem? views j ≡ some v → Debts ml debt v
  pub each_load : (j : ℕ) (v : View) → get_elem? views j ≡ some v → 0 < v.inside → EachLoad ml v v.loads

-- a pin's word is what the caller's own line says, but where a store or a clearing is owed
abbrev pub PinIs : ℕ → Bool → Bool → ℕ → Type 0
PinIs p stores clears w = (w ≡ p) ⊎ (((stores ≡ true) × (w ≡ 0)) ⊎ ((clears ≡ true) × (p ≡ 0)))

-- whose store is owed has its bit in the word; who owns its line owes it
pub record Pinned (whole : List Item) (owner : ℕ → ℕ)
    (gate word : ℕ) (words : List ℕ) (views : List View) : Type 0 where
  pub stores : ℕ → Bool
  pub clears : ℕ → Bool
  pub pins : (r : ℕ) → 0 < r → r < 9 → PinIs (pin (of_line (r + 10) whole))
      (stores r) (clears r) (slice_index words (65 + r))
  pub storing : (r : ℕ) → stores r ≡ true → (0 < r) × (r < 9) × (bit_at word r ≡ 1)
      × (gate ≡ 0) × (owner (1 + r) ≡ owner (r + 10)) × (owner (r + 10) < length views)
  pub clearing : (r : ℕ) → clears r ≡ true → (0 < r) × (owner 0 ≡ owner (r + 10)) × (owner (r + 10) < length views)
  pub filler : (j : ℕ) (v : View) → get_elem? views j ≡ some v
      → (r : ℕ) → stores r ≡ true → owner (r + 10) ≡ j → v.fill ≡ r
  pub clearer : (j : ℕ) (v : View) → get_elem? views j ≡ some v
      → (r : ℕ) → clears r ≡ true → owner (r + 10) ≡ j → v.empty ≡ r

-- the entries of a list with a number below n
abbrev pub those_below : ℕ → List KeptEntry → List KeptEntry
those_below n [] = []
those_below n (k ∷ ks) = if nat_lt k.entry.number n then k ∷ those_below n ks else those_below n ks

-- a reader's pin holds the object from a number on: the object is a cell's target, no managed entry below the number
-- frees it, no cycle is open at the number, and each snap from there on keeps the object among its pins
pub record IsHeld (ml : List KeptEntry) (r m : ℕ) : Type 0 where
  pub cell : ℕ
  pub aims : target ml cell ≡ Some m
  pub from : ℕ
  pub alive : (k : KeptEntry) → Stands ml k → k.entry.number < from → has k.freed m ≡ false
  pub closed : IsClosed (those_below from ml)
  pub kept : (k : KeptEntry) → Stands ml k → from ≤ k.entry.number
      → (c : Cycle) → k.entry.made.op ≡ op.Snap c → at 0 k.pins r ≡ m + 1

-- until its snap has its entry, who holds the gate has scanned what the pins' lines say
abbrev pub Scans : List Item → View → Type 0
Scans whole v = Owns v 0 → IsNext v v.holds → (r w : ℕ) → 0 < r → r < 9
    → at None v.scanned r ≡ Some w → w ≡ pin (of_line (r + 10) whole)

-- the line's owner is a seat that there is or was: it owns the line, or has taken in a seat that did, and not yet
-- compared
pub record HasOwner (views : List View) (i j : ℕ) : Type 0 where
  pub view : View
  pub there : get_elem? views j ≡ some view
  pub owns : Owns view i ⊎ (at false view.heard_owns i ≡ true)

-- the rule. The history and the owner of each line are its own data, and the cycle that the gate is held for; the views
-- are those of all seats that there ever were, so that of a seat that was dropped stays too
pub record Ordered (s : State (Unit {0}) View) : Type 0 where
  pub whole : List Item
  pub owner : ℕ → ℕ
  pub gate : ℕ
  pub words : (length s.words ≡ 74) × (slice_index s.words 0 ≡ length whole) × (slice_index s.words 1 / 512 ≡ gate)
  pub numbers : RunsFrom 0 whole
  pub limit : (i : ℕ) → i < 10 → length (of_line i whole) ≤ u32_max
  pub each_seat : (j : ℕ) (v : View) → get_elem? s.views j ≡ some v → Knows whole owner j v
  pub each_line : (i : ℕ) → i < 27 → HasOwner s.views i (owner i)
  pub small : gate < 2 ^ 32
  pub held : IsHeldFor gate (stage (of_line 0 whole))
  pub each_gate : (j : ℕ) (v : View) → get_elem? s.views j ≡ some v → Gates gate (slice_index s.words 1) v
  pub waiting : Waiting whole gate s.views
  pub celled : Celled (of_line 0 whole) gate s.words s.views
  pub pinned : Pinned whole owner gate (slice_index s.words 1) s.words s.views
  pub scanned : (j : ℕ) (v : View) → get_elem? s.views j ≡ some v → Scans whole v

-- the lines are those of one whole history, which has no more entries than the ten lists have room for
pub record AreLinesOfOneHistory (lines : List (List KeptEntry)) : Type 0 where
  pub whole : List Item
  pub few : length whole ≤ 42949672950
  pub numbers : RunsFrom 0 whole
  pub each : (i : ℕ) → i < 27 → at [] lines i ≡ of_line i whole
  pub fits : EachFits [] whole
  pub pending : (i : ℕ) (x : Item) → get_elem? whole i ≡ some x → 2 ≤ x.role → (k : ℕ)
      → SaysPending x.kept.entry.made.reply k → IsSnappedBefore (of_line 0 whole) x.kept.entry.number k
