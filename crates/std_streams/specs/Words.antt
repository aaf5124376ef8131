-- The words that a process was given.
-- Believed: the clauses of the program's top call rest on all that stands here.
use Rattle.std.specs.Prelude.{ℕ, List, [], Result, Ok, Err, map, drop, string_bytes}
use Rattle.std.specs.Vec.Iter.{into_iter_items}
use Rattle.std.specs.declared.string.String.{String}
use Rattle.std.specs.declared.vec.IntoIter.{IntoIter}

-- the words after the program's name, as bytes; none where the arguments couldn't be had as text
abbrev pub words_told : {A Z E : Type 0} → Result (IntoIter (String A) Z) E → List (List ℕ)
words_told (Ok given) = map string_bytes (drop 1 (into_iter_items given))
words_told (Err e) = []
