-- What contracts see of a word of a line with the digits of a number behind it but for the last two.
use Rattle.std.specs.Prelude.{ℕ, List}

pub record Parted : Type 0 where
  pub word : List ℕ
  pub base : ℕ
