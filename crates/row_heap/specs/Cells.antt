-- Where the fields of a row stand: few in the row itself, more in a vector. (This project's own; the small vectors of
-- many libraries.)
use Rattle.std.specs.Prelude.{◌≡◌, ℕ, ◌≤◌, ⊤, List, Option, None, All, take, drop}
use Rattle.row_heap.specs.declared.fields.Cells.{Cells}
use Rattle.row_heap.specs.declared.fields.Cells.TheVariants.{Few, More}

-- the fields in order
abbrev pub cells_in : Cells → List (Option ℕ)
cells_in (Few len cells) = take len cells
cells_in (More cells) = cells.items

-- at most two fields stand in the row, and the places after them are empty
abbrev pub AreCells : Cells → Type 0
AreCells (Few len cells) = (len ≤ 2) × All (λ c. c ≡ None) (drop len cells)
AreCells (More cells) = ⊤
