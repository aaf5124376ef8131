-- The numbers of a generated script's run, as functions of the seed and the size.
-- Believed: the clauses of the program's top call rest on all that stands here.
use Rattle.std.specs.Prelude.{ℕ, ◌+◌, ◌-◌, ◌*◌, ◌/◌, min}
use Rattle.run_summary.specs.declared.tallies.Objects.{Objects}
use Rattle.run_summary.specs.declared.tallies.Tally.{Tally}

-- how many of so many families, from that of the seed on, have a shape
abbrev pub families_of : ℕ → ℕ → ℕ → ℕ
families_of shape seed size = (seed + size + 3 - shape) / 4 - (seed + 3 - shape) / 4

-- what the families of a script make: a circle of bridges three objects, two of them with a peer and a handle; a cached
-- leaf and a passed bridge two objects, one of them with a peer and a handle; a circle of peers two peers
abbrev pub made_by_families : ℕ → ℕ → Objects
made_by_families seed size = record {
  managed = 3 * families_of 0 seed size + 2 * families_of 1 seed size + 2 * families_of 2 seed size;
  peers = 2 * families_of 0 seed size + families_of 1 seed size + families_of 2 seed size + 2 * families_of 3 seed size;
  handles = 2 * families_of 0 seed size + families_of 1 seed size + families_of 2 seed size;
}

-- what is left of it: the groups of the filled statics, each two objects, a peer and a handle. The sixteen statics come
-- in turn, so that of the first sixteen families each has one of its own, and the cached leaves fill those of the
-- managed heap, the passed bridges those of the peer heap
abbrev pub filled_statics : ℕ → ℕ → ℕ
filled_statics seed size = families_of 1 seed (min size 16) + families_of 2 seed (min size 16)

abbrev pub left_by_families : ℕ → ℕ → Objects
left_by_families seed size = record {
  managed = 2 * filled_statics seed size;
  peers = filled_statics seed size;
  handles = filled_statics seed size;
}

-- the tally of such a run: a function of the seed and the size
abbrev pub generated_tally : ℕ → ℕ → Tally
generated_tally seed size = record {
  cycles = size / 100 + 1;
  made = made_by_families seed size;
  left = left_by_families seed size;
}
