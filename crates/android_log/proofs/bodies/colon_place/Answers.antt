use Rattle.android_log.proofs.Steps.{place_is}
use Rattle.android_log.proofs.bodies.colon_place.Goals as goal

pub returns-clause-is : goal.returns-clause-is
returns-clause-is c = place_is 58 c.args.text.now c.first_place.result c.first_place.ensures.within c.first_place.ensures.before c.first_place.ensures.found
