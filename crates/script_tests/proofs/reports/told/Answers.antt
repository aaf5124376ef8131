-- The only list has the one entry, which fits what the history's lists hold.
use Rattle.std.proofs.Common.{List, [], ◌∷◌, ◌++◌, refl, ap, ◌∙◌}
use Rattle.joint_machine.specs.declared.events.Entry.{Entry}
use Rattle.joint_model.specs.Listed.{Stock}
use Rattle.script_tests.proofs.OneEntry.{joins_one}
use Rattle.script_tests.proofs.reports.told.Goals as goal

pub join-requires : goal.join-requires
join-requires c =
    let stock : Stock = c.push.new.self in
    let one = c.in_ok-push.ensures.items ∙ ap (λ (l : List Stock). l ++ stock ∷ []) c.new-lists.ensures.items in
    let event = c.args.event in
    let entry : Entry = record { number = 0; made = record { caller = event.0; index = 7; op = event.1; reply = event.2; cites = event.3 } } in
    let alone = c.push.ensures.entries ∙ ap (λ (l : List Entry). l ++ entry ∷ []) (c.in_ok-reserve.ensures.entries ∙ c.new-entries.ensures.entries) in
    rw (c.in_ok-to_vec.ensures.items_if_clones_equal (λ x y e. e), c.in_ok-to_vec-2.ensures.items_if_clones_equal (λ x y e. e))
    (joins_one _ stock entry _ _ _ one alone refl record { event = c.requires.named; spans = c.requires.spans })
