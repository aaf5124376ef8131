use Rattle.worked_answers.proofs.ListingsTold.{listings_are_told}
use Rattle.worked_answers.proofs.histories.listings_are_told.Goals as goal

pub returns : goal.returns
returns c = listings_are_told
