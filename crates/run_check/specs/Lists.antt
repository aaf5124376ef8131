-- The lists that a reply names, against those of the history.
use Rattle.std.specs.Prelude.{ℕ, ◌-◌, List, drop, length}
use Rattle.joint_machine.specs.declared.names.Span.{Span}
use Rattle.joint_laws.specs.Spans.{IsStretch}

-- from the span's first place on
abbrev pub rest_of : Span → ℕ → Span
rest_of s many = record { first = s.first; count = many - s.first }

-- what a list has from the span's first place on stands there in the history's list too
abbrev pub StandsInList : List ℕ → Span → List ℕ → Type 0
StandsInList list s freed = IsStretch list (rest_of s (length freed)) (drop s.first freed)
