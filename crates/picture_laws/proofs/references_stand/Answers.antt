use Rattle.picture_laws.proofs.Standing.{mirrored_are_one, references_stand}
use Rattle.picture_laws.proofs.references_stand.Goals as goal

pub returns-clause-stand : goal.returns-clause-stand
returns-clause-stand c = references_stand

pub returns-clause-one : goal.returns-clause-one
returns-clause-one c = mirrored_are_one
