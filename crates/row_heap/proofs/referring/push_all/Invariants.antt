-- The references so far stand.
use Rattle.std.proofs.Common.{◌≡◌, ◌++◌, ◌-◌, map, take}
use Rattle.row_heap.specs.Ends.{ends_of}
use Rattle.row_heap.proofs.referring.push_all.Given as goal

abbrev pub invariant-loop-reference : goal.invariant-loop-reference
invariant-loop-reference l = l.references ≡ record l.fn.references { refs = l.fn.references.refs ++ map ends_of (take l.reference-index l.refs); room = l.fn.references.room - l.reference-index }
