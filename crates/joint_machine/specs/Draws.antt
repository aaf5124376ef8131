-- How the entries of a history get their numbers.
use Rattle.std.specs.Prelude.{◌≡◌, ℕ, ◌+◌, ◌-◌, ◌^◌, ◌<◌, List, [], ◌∷◌, ◌++◌, All, Option, None, ⊤}
use Rattle.joint_machine.specs.declared.names.MNum.{MNum}
use Rattle.joint_machine.specs.declared.names.Thread.{Thread}
use Rattle.joint_machine.specs.declared.events.Entry.{Entry}
use Rattle.joint_machine.specs.declared.events.Made.{Made}
use Rattle.joint_machine.specs.declared.events.Op.{Op}

-- the entry of what was made, with its number
abbrev pub numbered : ℕ → Made → Entry
numbered n m = record { number = n; made = m }

-- what is meant by a draw: a number above all that were drawn so far; how many draws are surely possible; which caller
-- may draw for which event, with which target; and how what draws before, what was drawn, and what draws after hang
-- together
pub record Drawing (D : Type 0) : Type 1 where
  pub floor : D → ℕ
  pub left : D → ℕ
  pub may : D → Thread → Op → Option MNum → Type 0
  pub drew : D → Entry → Option MNum → List MNum → D → Type 0

-- an entry as it is drawn: beside it the object to which a cell is set, and the objects that it frees
pub record Drawn : Type 0 where
  pub entry : Entry
  pub target : Option MNum
  pub freed : List MNum

-- the entry sets no cell and frees nothing
abbrev pub bare : Entry → Drawn
bare e = record { entry = e; target = None; freed = [] }

-- the entries were drawn one after another, and nothing else was drawn
abbrev pub DrewInTurn : {D : Type 0} → (D → Entry → Option MNum → List MNum → D → Type 0) → D → List Drawn → D → Type 0
DrewInTurn drew before [] after = after ≡ before
DrewInTurn {D} drew before (n ∷ ns) after = (mid : D)
    × drew before n.entry n.target n.freed mid × DrewInTurn drew mid ns after

-- a plain count drew the entry: its number is the count, which rose by one
abbrev pub CountDrew : ℕ → Entry → Option MNum → List MNum → ℕ → Type 0
CountDrew count e target freed after = (e.number ≡ count) × (after ≡ count + 1)

-- the rules of a plain count: anybody may draw, up to 2 ^ 63 times
abbrev pub counting : Drawing ℕ
counting = record { floor = λ c. c; left = λ c. 2 ^ 63 - c; may = λ c t o m. ⊤; drew = CountDrew }

-- one entry was drawn and put last: what was made, with its number, its target and what it frees
pub record Adds {D : Type 0} (drew : D → Entry → Option MNum → List MNum → D → Type 0) (before after : D)
    (old new : List Entry) (m : Made) (target : Option MNum) (freed : List MNum) : Type 0 where
  pub number : ℕ
  pub drawn : drew before (numbered number m) target freed after
  pub added : new ≡ old ++ numbered number m ∷ []

-- each number in the list lies below the floor
abbrev pub AllBelow : List Entry → ℕ → Type 0
AllBelow entries floor = All (λ e. e.number < floor) entries
