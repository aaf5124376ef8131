use Rattle.std.proofs.Common.{ap, subst, ◌∙◌}
use Rattle.std.specs.BTreeMap.{get}
use Rattle.picture_sheets.specs.Keys.{spot_cmp}
use Rattle.picture_sheets.specs.Near.{Grows, items_of}
use Rattle.picture_sheets.proofs.Nearing.{grows-none}
use Rattle.picture_sheets.proofs.near.go_from.Goals as goal

pub returns-in-None : goal.returns-in-None
returns-in-None c = subst (λ xs. Grows xs c.args.near.now c.args.near.now c.args.fresh.now.items c.args.fresh.now.items)
    (ap items_of (c.in-None.ensures.value ∙ ap (λ k. get spot_cmp c.args.lists.now k) c.spot_key.ensures)) (grows-none c.args.near.now c.args.fresh.now.items)
