use Rattle.view_laws.proofs.HeldViews.{pins_of_views_stand}
use Rattle.view_laws.proofs.pins_of_views_stand.Goals as goal

pub returns : goal.returns
returns c = pins_of_views_stand
