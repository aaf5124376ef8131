-- Numbers rise, so the first is no greater than one that is there, and a name that has the number is the only one.
use Rattle.std.proofs.Common.{◌-◌, slice_index_or, sym, ◌∙◌}
use Rattle.std.proofs.lemmas.Option.{slice_get-get_or, slice_get_within}
use Rattle.global_handles.specs.declared.Name.{Name}
use Rattle.global_handles.proofs.Slots.{first-below, found-some, name_in-here, some_name}
use Rattle.global_handles.proofs.find_there.Goals as goal

abbrev none : Name
none = record { number = 0; place = 0 }

pub bounds-names-0 : goal.bounds-names-0
bounds-names-0 c = found-some c.args.names.now c.args.h c.requires.there

pub overflow_sub-behind : goal.overflow_sub-behind
overflow_sub-behind c =
    let es = c.args.names.now in
    first-below 0 c.requires.rise.0 es c.args.h _ c.requires.rise.1 c.requires.there (slice_get-get_or es 0 none (found-some es c.args.h c.requires.there))

pub returns-then-name-h : goal.returns-then-name-h
returns-then-name-h c =
    let es = c.args.names.now in
    let behind = c.args.h.0 - (slice_index_or es 0 none).number in
    let there = slice_get-get_or es behind none c.if-behind-names.true in
    name_in-here 0 c.requires.rise.0 es behind _ c.args.h c.requires.rise.1 there c.if-name-h.true

pub bounds-names-far : goal.bounds-names-far
bounds-names-far c =
    let found = some_name c.args.names.now c.args.h c.requires.there in
    slice_get_within c.args.names.now _ found.0 (c.far.ensures ∙ found.1)

pub returns : goal.returns
returns c =
    let found = some_name c.args.names.now c.args.h c.requires.there in
    sym c.far.ensures ∙ slice_get-get_or c.args.names.now _ none (slice_get_within c.args.names.now _ found.0 (c.far.ensures ∙ found.1))
