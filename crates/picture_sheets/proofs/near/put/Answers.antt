use Rattle.std.proofs.Common.{[], ◌∷◌, sym, subst}
use Rattle.picture_sheets.specs.Near.{Grows}
use Rattle.picture_sheets.proofs.Nearing.{put-new}
use Rattle.picture_sheets.proofs.near.put.Goals as goal

pub returns : goal.returns
returns c = subst (λ f. Grows (c.args.spot ∷ []) c.args.near.now c.put_spot.new.spots c.args.fresh.now.items f) (sym c.in_ok-push.ensures.items)
    (put-new c.args.spot c.args.near.now c.put_spot.new.spots c.args.fresh.now.items c.in_ok-is_new.ensures.puts)
