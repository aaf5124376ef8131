-- Numbers rise, so a name that has the number is the only one.
use Rattle.std.proofs.Common.{Some, sym, ap, ◌∙◌}
use Rattle.std.proofs.lemmas.Option.{slice_get-get_or}
use Rattle.global_handles.proofs.Slots.{name_in-here}
use Rattle.global_handles.proofs.straight_back.Goals as goal

pub returns-then-name-h : goal.returns-then-name-h
returns-then-name-h c =
    let es = c.args.names.now in
    let read = c.in_ok-name.ensures.lookup in
    let there = slice_get-get_or es c.in_ok-behind.behind c.in_ok-name.name.now read.3.0 ∙ ap (λ n. Some n) (sym read.1) in
    there ∙ sym (name_in-here 0 c.requires.0 es c.in_ok-behind.behind c.in_ok-name.name.now c.args.h c.requires.1 there c.if-name-h.true)
