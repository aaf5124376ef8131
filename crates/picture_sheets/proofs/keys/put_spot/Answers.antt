use Rattle.std.proofs.Common.{true, subst}
use Rattle.std.specs.BTreeSet.{Updates}
use Rattle.picture_sheets.specs.Keys.{spot_cmp}
use Rattle.picture_sheets.proofs.Keyed.{spot-put}
use Rattle.picture_sheets.proofs.keys.put_spot.Goals as goal

pub returns-clause-puts : goal.returns-clause-puts
returns-clause-puts c = spot-put c.args.spots.now c.insert.new.self c.args.spot
    (subst (λ k. Updates spot_cmp c.args.spots.now c.insert.new.self k true) c.spot_key.ensures c.in_ok-insert.ensures.updates)
