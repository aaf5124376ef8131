-- The largest number of 32 bits. Entries, script lines, objects, handles and indexes have 32 bits, so it bounds how
-- many of each there are; where an index may be missing it stands for none.
-- Believed: the clauses of the program's top call rest on all that stands here.
use Rattle.std.specs.Prelude.{ℕ}

abbrev pub u32_max : ℕ
u32_max = 4294967295
