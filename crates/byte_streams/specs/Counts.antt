-- What counting up does to the decimal text of a number. Nothing outside of this crate rests on it.
use Rattle.std.specs.Prelude.{◌≡◌, ℕ, ◌+◌, ◌<◌, ◌^◌, List, decimal}

-- the decimal text of a number became that of the number after it
abbrev pub CountsUp : List ℕ → List ℕ → Type 0
CountsUp old new = (n : ℕ) → n + 1 < 2 ^ 64 → old ≡ decimal n → new ≡ decimal (n + 1)
