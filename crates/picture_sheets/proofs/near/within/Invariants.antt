use Rattle.picture_sheets.specs.Near.{IsNear}
use Rattle.picture_sheets.proofs.near.within.Given as goal

abbrev pub invariant-loop-i : goal.invariant-loop-i
invariant-loop-i l = IsNear l.fn.arrows l.fn.start l.i l.near l.newest.items
