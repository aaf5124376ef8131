-- Rows by number: an index from each number to the key under which a slab has the row. A removed row's memory serves
-- the next row, and its fields are still seen. Marks and links are lists beside the rows. (This project's own; the
-- index is the object table of a Smalltalk heap.)
use Rattle.std.specs.Prelude.{◌≡◌, ℕ, Bool, true, false, not, ◌&&◌, List, [], ◌∷◌, Option, Some, None, drop, get_or}
use Rattle.std.specs.Prelude.{length, map, slice_get}
use Rattle.joint_machine.specs.Heaps.{numbered_at}
use Rattle.slab.specs.Slab.{Slab, get}
use Rattle.row_heap.specs.declared.places.Row.{Row}
use Rattle.row_heap.specs.declared.places.RowPlace.{RowPlace}
use Rattle.row_heap.specs.declared.places.RowPlace.TheVariants.{At, Gone, Leaf}

-- a row as it is seen: its fields, its mark, its link, and whether it stands
pub record Seen : Type 0 where
  pub fields : List (Option ℕ)
  pub marked : Bool
  pub link : ℕ
  pub stands : Bool

-- a row that stands, without its mark and its link
abbrev pub standing : Row → Seen
standing r = record { fields = r.fields; marked = false; link = 0; stands = true }

-- a row that was removed: its fields alone are seen
abbrev pub gone : List (Option ℕ) → Seen
gone fields = record { fields = fields; marked = false; link = 0; stands = false }

-- a row that stands without fields, without its mark and its link
abbrev pub leaf : Seen
leaf = record { fields = []; marked = false; link = 0; stands = true }

-- the row of a place
abbrev pub seen_at : Slab Row → RowPlace → Seen
seen_at s (At key) = elim (get s key) [ None ↦ gone [] | Some r ↦ standing r ]
seen_at s Leaf = leaf
seen_at s (Gone kept) = gone kept.value

-- the row of a number; a removed one without fields where there is none
abbrev pub row_at : List Seen → ℕ → Seen
row_at rows x = elim (numbered_at rows x) [ None ↦ gone [] | Some r ↦ r ]

-- each row with the mark and the link at its place in the lists; none, and the link 0, where they are too short
abbrev pub with_marks : List Seen → List Bool → List ℕ → List Seen
with_marks [] marks links = []
with_marks (r ∷ rows) marks links = record r
    { marked = get_or marks 0 false; link = get_or links 0 0 } ∷ with_marks rows (drop 1 marks) (drop 1 links)

-- the marks of the rows, and their links, where the number 0 is no row
abbrev pub marks_in : List Seen → List Bool
marks_in rows = false ∷ map (λ r. r.marked) rows

abbrev pub links_in : List Seen → List ℕ
links_in rows = 0 ∷ map (λ r. r.link) rows

-- the row without its mark and its link
abbrev pub bare : Seen → Seen
bare r = record r { marked = false; link = 0 }

-- the row without its mark
abbrev pub unmarked_row : Seen → Seen
unmarked_row r = record r { marked = false }

-- whether the row stands without a mark; white is the textbook's colour of what a marking hasn't come to
abbrev pub is_white : Seen → Bool
is_white r = r.stands && not r.marked

-- each key of the index has a row, and stands in the index once
pub record IsIndex (s : Slab Row) (places : List RowPlace) : Type 0 where
  pub there : (i k : ℕ) → slice_get places i ≡ Some (At k) → (r : Row) × (get s k ≡ Some r)
  pub once : (i j k : ℕ) → slice_get places i ≡ Some (At k) → slice_get places j ≡ Some (At k) → i ≡ j

-- a row with a mark stands
abbrev pub DoMarkedStand : List Seen → Type 0
DoMarkedStand rows = (x : ℕ) → (row_at rows x).marked ≡ true → (row_at rows x).stands ≡ true

-- the index is one, with a mark and a link for each of its places, and no mark for a removed row
pub record AreRows (s : Slab Row) (places : List RowPlace) (marks : List Bool) (links : List ℕ) : Type 0 where
  pub index : IsIndex s places
  pub marks_len : length marks ≡ length places
  pub links_len : length links ≡ length places
  pub up : DoMarkedStand (with_marks (map (seen_at s) places) marks links)
