-- The numbers of a summary's lines.
-- Believed: the clauses of the program's top call rest on all that stands here.
use Rattle.std.specs.Prelude.{ℕ, Bool, cond}

abbrev pub one : Bool → ℕ
one b = cond b 1 0
