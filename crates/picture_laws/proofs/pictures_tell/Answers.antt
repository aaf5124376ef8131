use Rattle.picture_laws.proofs.Tell.{pictures_tell}
use Rattle.picture_laws.proofs.pictures_tell.Goals as goal

pub returns : goal.returns
returns c = pictures_tell
