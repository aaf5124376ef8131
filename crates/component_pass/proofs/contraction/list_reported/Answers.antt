-- The indexes that were written down are the whole list of them.
use Rattle.std.proofs.Common.{arith}
use Rattle.std.proofs.lemmas.List.{take_at}
use Rattle.component_pass.proofs.contraction.list_reported.Goals as goal

pub list_others-requires-clause-plain : goal.list_others-requires-clause-plain
list_others-requires-clause-plain c =
    let p = rw c.deref.ensures.value at c.in_ok-list_rows.ensures.plain in
    rw (c.deref_mut-2.ensures.value, take_at c.list_rows.new.indexes _ c.in_ok-indexes.indexes.len (omega arith)) p

pub list_others-requires-clause-listed : goal.list_others-requires-clause-listed
list_others-requires-clause-listed c =
    let l = rw c.deref.ensures.value at c.in_ok-list_rows.ensures.listed in
    rw (c.deref_mut-2.ensures.value, take_at c.list_rows.new.indexes _ c.in_ok-indexes.indexes.len (omega arith)) l

pub list_rows-requires-clause-classes : goal.list_rows-requires-clause-classes
list_rows-requires-clause-classes c = rw c.deref.ensures.value c.requires.classes

pub list_rows-requires-clause-order : goal.list_rows-requires-clause-order
list_rows-requires-clause-order c = rw c.deref.ensures.value c.requires.order
