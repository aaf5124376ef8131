-- Those at the front, or just the names that lead to a row are left, and these are as many as the rows.
use Rattle.global_handles.proofs.Slots.{ArePlaced-drop, ArePlaced-filter, NamesRise-drop, NamesRise-filter, name_in-drop, name_in-filter, length-filter_named, rows_of-drop, rows_of-filter}
use Rattle.global_handles.proofs.let_holes_go.Goals as goal

pub returns-then-len-holes-clause-rows : goal.returns-then-len-holes-clause-rows
returns-then-len-holes-clause-rows c = rw c.drop_front.ensures.items (rows_of-drop c.args.slots.now _ c.args.names.now.items (rw c.as_slice.ensures.value at c.front_holes-holes.ensures.holes))

pub returns-then-len-holes-clause-rise : goal.returns-then-len-holes-clause-rise
returns-then-len-holes-clause-rise c = rw c.drop_front.ensures.items (λ high rise. NamesRise-drop 0 high _ c.args.names.now.items rise)

pub returns-then-len-holes-clause-found : goal.returns-then-len-holes-clause-found
returns-then-len-holes-clause-found c = rw c.drop_front.ensures.items
    (λ h e found named. name_in-drop c.args.slots.now _ c.args.names.now.items h e (rw c.as_slice.ensures.value at c.front_holes-holes.ensures.holes) found named)

pub returns-then-len-holes-clause-placed : goal.returns-then-len-holes-clause-placed
returns-then-len-holes-clause-placed c = rw c.drop_front.ensures.items (λ n placed. ArePlaced-drop n _ c.args.names.now.items placed)

pub returns-else-len-holes-clause-fewer : goal.returns-else-len-holes-clause-fewer
returns-else-len-holes-clause-fewer c = rw (c.drop_holes.ensures.items, length-filter_named c.args.slots.now c.args.names.now.items) c.requires.rows

pub returns-else-len-holes-clause-rows : goal.returns-else-len-holes-clause-rows
returns-else-len-holes-clause-rows c = rw c.drop_holes.ensures.items (rows_of-filter c.args.slots.now c.args.names.now.items)

pub returns-else-len-holes-clause-rise : goal.returns-else-len-holes-clause-rise
returns-else-len-holes-clause-rise c = rw c.drop_holes.ensures.items (λ high rise. NamesRise-filter _ 0 high c.args.names.now.items rise)

pub returns-else-len-holes-clause-placed : goal.returns-else-len-holes-clause-placed
returns-else-len-holes-clause-placed c = rw c.drop_holes.ensures.items (λ n placed. ArePlaced-filter _ n c.args.names.now.items placed)

pub returns-else-len-holes-clause-found : goal.returns-else-len-holes-clause-found
returns-else-len-holes-clause-found c = rw c.drop_holes.ensures.items (λ h e found named. name_in-filter _ c.args.names.now.items h e found named)
