-- What entries say of cells and pins, and what they leave to be stored in the words of these. (Cells and pins are this
-- project's own.)
use Rattle.std.specs.Prelude.{◌≡◌, ◌^◌, ◌⊎◌, ℕ, zero, suc, ◌+◌, ◌<◌, ◌==◌, ◌||◌, ◌&&◌, if◌then◌else◌, Bool, true, false}
use Rattle.std.specs.Prelude.{List, [], ◌∷◌, Option, Some, None}
use Rattle.joint_machine.specs.declared.names.MNum.{MNum}
use Rattle.joint_machine.specs.declared.names.Thread.{Thread}
use Rattle.joint_machine.specs.declared.names.Thread.TheVariants.{M}
use Rattle.joint_machine.specs.declared.lines.Act.TheVariants as act
use Rattle.joint_machine.specs.declared.events.Op.{Op}
use Rattle.joint_machine.specs.declared.events.Op.TheVariants as op
use Rattle.joint_machine.specs.declared.events.Reply.{Reply}
use Rattle.joint_machine.specs.declared.events.Reply.TheVariants as says
use Rattle.order_table.specs.declared.views.KeptEntry.{KeptEntry}
use Rattle.order_table.specs.Rows.{at}

-- a `weak` of a managed thread alone has a target, and a snapshot and a resolution alone free objects: what was told of
-- any other entry isn't kept
abbrev pub target_told : Thread → Op → Option MNum → Option MNum
target_told (M n) (op.Line (act.Weak c v)) aim = aim
target_told _ _ aim = None

abbrev pub freed_told : Op → List MNum → List MNum
freed_told (op.Snap k) freed = freed
freed_told (op.Resolve k) freed = freed
freed_told _ freed = []

-- an object's number: from 1 on, and of 32 bits, so that a word of 64 bits has room for it and 1 more
abbrev pub IsNumber : ℕ → Type 0
IsNumber m = (0 < m) × (m < 2 ^ 32)

-- the cell that an event sets, and the object
abbrev pub mark : Op → Option MNum → Option (ℕ × ℕ)
mark (op.Line (act.Weak c v)) (Some m) = Some (c.0, m.0)
mark _ _ = None

abbrev pub marked : KeptEntry → Option (ℕ × ℕ)
marked k = mark k.entry.made.op k.target

-- a cell's target after an entry, and after all entries of a managed list
abbrev pub aims_at : ℕ → Option ℕ → Option (ℕ × ℕ) → Option ℕ
aims_at c t None = t
aims_at c t (Some p) = if p.0 == c then Some p.1 else t

abbrev pub target_from : ℕ → Option ℕ → List KeptEntry → Option ℕ
target_from c t [] = t
target_from c t (k ∷ ks) = target_from c (aims_at c t (marked k)) ks

abbrev pub target : List KeptEntry → ℕ → Option ℕ
target ks c = target_from c None ks

-- the object is among these
abbrev pub has : List MNum → ℕ → Bool
has [] m = false
has (x ∷ xs) m = (x.0 == m) || has xs m

-- the object is freed by an entry of a list
abbrev pub is_freed : List KeptEntry → ℕ → Bool
is_freed [] m = false
is_freed (k ∷ ks) m = has k.freed m || is_freed ks m

-- the word that a managed list says of a cell: 0 for unset, 1 for gone, and else the object's number and 1
abbrev pub word_by : Option ℕ → (ℕ → Bool) → ℕ
word_by None freed = 0
word_by (Some m) freed = if freed m then 1 else m + 1

abbrev pub says_word : List KeptEntry → ℕ → ℕ
says_word ks c = word_by (target ks c) (is_freed ks)

-- the cell that an event reads, and the word by which a reply is given
abbrev pub read_of : Op → Option ℕ
read_of (op.Line (act.Read c)) = Some c.0
read_of (op.Line (act.Await c)) = Some c.0
read_of _ = None

abbrev pub word_of : Reply → Option ℕ
word_of says.Unset = Some 0
word_of says.Gone = Some 1
word_of (says.M m) = Some (m.0 + 1)
word_of _ = None

-- the cells whose words are owed after an entry: the one that it sets, and those whose target it frees
abbrev pub sets_cell : Option (ℕ × ℕ) → ℕ → Bool
sets_cell None c = false
sets_cell (Some p) c = p.0 == c

abbrev pub frees_target : Option ℕ → List MNum → Bool
frees_target None ms = false
frees_target (Some m) ms = has ms m

abbrev pub owes_after : List KeptEntry → KeptEntry → ℕ → Bool
owes_after ml k c = sets_cell (marked k) c || frees_target (target ml c) k.freed

-- the truth values at the places below n
abbrev pub by_place : ℕ → (ℕ → Bool) → List Bool
by_place zero f = []
by_place (suc n) f = f 0 ∷ by_place n (λ i. f (suc i))

-- what an entry does to its caller's pin: it fills it with a word, it empties it, or neither
pub data PinDeed : Type 0 where
  fills : ℕ → PinDeed
  empties : PinDeed
  stays : PinDeed

abbrev pub pin_deed : Thread → Op → Reply → PinDeed
pin_deed (M n) (op.Line (act.Read c)) (says.M m) = fills (m.0 + 1)
pin_deed (M n) (op.Line (act.Await c)) (says.M m) = fills (m.0 + 1)
pin_deed (M n) (op.Line (act.Take v)) r = empties
pin_deed _ _ _ = stays

abbrev pub pin_after : ℕ → PinDeed → ℕ
pin_after p (fills w) = w
pin_after p empties = 0
pin_after p stays = p

abbrev pub deed_of_pin : KeptEntry → PinDeed
deed_of_pin k = pin_deed k.entry.made.caller k.entry.made.op k.entry.made.reply

-- the word of a caller's pin after all of its own entries: 0 where it is empty, and else the object's number and 1
abbrev pub pin_from : ℕ → List KeptEntry → ℕ
pin_from p [] = p
pin_from p (k ∷ ks) = pin_from (pin_after p (deed_of_pin k)) ks

abbrev pub pin : List KeptEntry → ℕ
pin ks = pin_from 0 ks

-- what an entry leaves to be stored at its caller's pin, which stood at p: an empty pin isn't cleared
abbrev pub owing : ℕ → PinDeed → PinDeed
owing p (fills w) = fills w
owing p empties = if p == 0 then stays else empties
owing p stays = stays

-- the reader whose pin is then to be filled, and the one whose pin is to be cleared
abbrev pub fill_after : PinDeed → ℕ → ℕ → ℕ
fill_after (fills w) place old = place
fill_after _ place old = old

abbrev pub empty_after : PinDeed → ℕ → ℕ → ℕ
empty_after empties place old = place
empty_after _ place old = old

-- the words that were loaded, as a row with 0 for those that weren't
abbrev pub word_or_zero : Option ℕ → ℕ
word_or_zero None = 0
word_or_zero (Some w) = w

abbrev pub words_of : List (Option ℕ) → List ℕ
words_of [] = []
words_of (w ∷ ws) = word_or_zero w ∷ words_of ws

-- the same with 0 at the place of nobody
abbrev pub pin_row : List (Option ℕ) → List ℕ
pin_row [] = []
pin_row (w ∷ ws) = 0 ∷ words_of ws

-- whether the last n places have a word that was loaded
abbrev pub is_some : Option ℕ → Bool
is_some None = false
is_some (Some w) = true

abbrev pub all_scanned : ℕ → List (Option ℕ) → Bool
all_scanned zero ws = true
all_scanned (suc n) ws = is_some (at None ws (suc n)) && all_scanned n ws

-- the row of the words of all pins, as they were scanned
abbrev pub somes : List ℕ → List (Option ℕ)
somes [] = []
somes (w ∷ ws) = Some w ∷ somes ws

abbrev pub scanned_row : List ℕ → List (Option ℕ)
scanned_row ws = None ∷ somes ws

-- the word was loaded from the cell
abbrev pub IsLoaded : List (ℕ × ℕ) → ℕ → ℕ → Type 0
IsLoaded [] c w = ⊥
IsLoaded (l ∷ ls) c w = ((l.0 ≡ c) × (l.1 ≡ w)) ⊎ IsLoaded ls c w
