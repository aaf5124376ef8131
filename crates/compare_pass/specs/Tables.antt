-- A label for each node, by its managed number.
use Rattle.std.specs.Prelude.{ℕ, List, map}
use Rattle.joint_machine.specs.declared.names.MNum.{MNum}

-- the numbers of the nodes and their labels, in the order of the nodes
pub record Table : Type 0 where
  pub numbers : List ℕ
  pub labels : List ℕ

-- the table of a map's entries
abbrev pub table_of : List (MNum × ℕ) → Table
table_of entries = record { numbers = map (λ e. e.0.0) entries; labels = map (λ e. e.1) entries }
