use Rattle.std.proofs.Common.{Some, [], ◌∷◌, ◌++◌, ap, subst, ◌∙◌}
use Rattle.std.specs.BTreeMap.{Updates}
use Rattle.picture_sheets.specs.Keys.{spot_cmp}
use Rattle.picture_sheets.proofs.Nearing.{adds}
use Rattle.picture_sheets.proofs.near.add.Goals as goal

pub returns : goal.returns
returns c = adds c.args.lists.now c.take_list-list.new.lists c.insert.new.self c.args.to c.args.end c.push.new.self c.take_list-list.ensures.gone
    (subst (λ k. Updates spot_cmp c.take_list-list.new.lists c.insert.new.self k (Some c.push.new.self)) c.spot_key.ensures c.in_ok-insert.ensures.updates)
    (c.in_ok-push.ensures.items ∙ ap (λ xs. xs ++ c.args.end ∷ []) c.take_list-list.ensures.list)
