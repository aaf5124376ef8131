-- Rows that can be marked, and the list of grey rows that runs through them. (Textbook: tri-colour marking.)
use Rattle.std.specs.Prelude.{◌≡◌, ℕ, ◌≤◌, ◌⊎◌, ◌+◌, zero, suc, Bool, List, [], ◌∷◌, Some, None, Contains, length}
use Rattle.std.specs.Prelude.{slice_get}
use Rattle.reachability.specs.Marks.{HasMark, IsClosed, unmarked}
use Rattle.reachability.specs.Scans.{Scans}
use Rattle.joint_machine.specs.Walks.{Reached}

-- the list of rows that begins at `head` and goes on by the links
abbrev pub GreyChain : List ℕ → ℕ → List ℕ → Type 0
GreyChain links head [] = head ≡ 0
GreyChain links head (x ∷ xs) = (head ≡ x) × (1 ≤ x)
    × ((next : ℕ) × (slice_get links x ≡ Some next) × GreyChain links next xs)

-- the grey rows are these, each of them marked
pub record Chained (marks : List Bool) (links : List ℕ) (head : ℕ) (waits : List ℕ) : Type 0 where
  pub chain : GreyChain links head waits
  pub marked : (k : ℕ) → Contains waits k → HasMark marks k

-- the nodes of `row` were marked, and what was marked anew is grey
pub record GreyedFrom (row : ℕ → Type 0) (m : List Bool)
    (waited : List ℕ) (m' : List Bool) (l' : List ℕ) (h' : ℕ) : Type 0 where
  pub waits : List ℕ
  pub chained : Chained m' l' h' waits
  pub scans : Scans row m waited m' waits
  pub anew : (k : ℕ) → Contains waits k → Contains waited k ⊎ ((HasMark m k → ⊥) × row k)

abbrev pub Greyed : (ℕ → Type 0) → List Bool → List ℕ → ℕ → List Bool → List ℕ → ℕ → Type 0
Greyed row m l h m' l' h' = (waited : List ℕ) → Chained m l h waited → GreyedFrom row m waited m' l' h'

-- a marking on its way from the marks before it: every marked row was marked before or is reached from the roots; each
-- root is marked; what a marked row leads to is marked, unless the row is grey
pub record Greying (roots : List ℕ) (edge : ℕ → ℕ → Type 0)
    (before marks : List Bool) (links : List ℕ) (head : ℕ) : Type 0 where
  pub waits : List ℕ
  pub chained : Chained marks links head waits
  pub shut : IsClosed edge before
  pub len : length marks ≡ length before
  pub sound : (k : ℕ) → HasMark marks k → HasMark before k ⊎ Reached (Contains roots) edge k
  pub kept : (k : ℕ) → HasMark before k → HasMark marks k
  pub roots_marked : (k : ℕ) → Contains roots k → HasMark marks k
  pub closed : (k : ℕ) → HasMark marks k → Contains waits k ⊎ ((y : ℕ) → edge k y → HasMark marks y)
  pub room : unmarked marks + length waits ≤ unmarked before

-- some marking is on its way
pub record IsGreying (edge : ℕ → ℕ → Type 0) (marks : List Bool) (links : List ℕ) (head : ℕ) : Type 0 where
  pub roots : List ℕ
  pub before : List Bool
  pub greying : Greying roots edge before marks links head

-- the grey list as a function of the links: at most n rows from the head
abbrev pub greys : List ℕ → ℕ → ℕ → List ℕ
greys links zero head = []
greys links (suc n) zero = []
greys links (suc n) (suc h) = suc h ∷ greys links n (elim (slice_get links (suc h)) [ None ↦ 0 | Some next ↦ next ])

-- grey row x was scanned: it leaves the list, in which it stood once, and of what it leads to the rows without a mark
-- came into the list
pub record Blackened (row : ℕ → Type 0) (m : List Bool) (x : ℕ)
    (rest : List ℕ) (m' : List Bool) (waits : List ℕ) : Type 0 where
  pub grey : HasMark m x
  pub once : Contains rest x → ⊥
  pub scans : Scans row m rest m' waits
  pub anew : (k : ℕ) → Contains waits k → Contains rest k ⊎ ((HasMark m k → ⊥) × row k)

-- so many grey rows were scanned, one after the other
abbrev pub Blackens : (ℕ → ℕ → Type 0) → ℕ → List Bool → List ℕ → List Bool → List ℕ → Type 0
Blackens edge zero m g m' g' = (m' ≡ m) × (g' ≡ g)
Blackens edge (suc n) m g m' g' = (mid : List Bool) × (x : ℕ) × (rest : List ℕ)
    × Blackens edge n m g mid (x ∷ rest) × Blackened (edge x) mid x rest m' g'

pub record BlackensTo (edge : ℕ → ℕ → Type 0) (n : ℕ) (m : List Bool)
    (g : List ℕ) (m' : List Bool) (l' : List ℕ) (h' : ℕ) : Type 0 where
  pub waits : List ℕ
  pub chained : Chained m' l' h' waits
  pub steps : Blackens edge n m g m' waits

-- the list of grey rows is one, whatever black rows lead to
abbrev pub IsGreyList : List Bool → List ℕ → ℕ → Type 0
IsGreyList m l h = (greys : List ℕ) × Chained m l h greys
