-- What was listed so far is all of it once the run has ended, since it is told of whatever history is finished.
use Rattle.std.proofs.Common.{[], length, refl, zero-add, ◌∙◌}
use Rattle.graph_listing.specs.Listing.{listing_text}
use Rattle.listing_laws.proofs.Written.{Writes-nothing}
use Rattle.script_runs.proofs.Listing.{nothing_put, part_put}
use Rattle.script_runs.proofs.compared.compare_named.Goals as goal

pub returns-in_default-clause-memory : goal.returns-in_default-clause-memory
returns-in_default-clause-memory g c = nothing_put _

pub returns-in_default-compare_by_desk-clause-memory : goal.returns-in_default-compare_by_desk-clause-memory
returns-in_default-compare_by_desk-clause-memory g c = part_put c.compare_by_desk.result _ _ _ _ _ _ _ refl c.compare_by_desk.ensures.lists

pub returns-in_default-finish-clause-memory : goal.returns-in_default-finish-clause-memory
returns-in_default-finish-clause-memory g c = part_put c.compare_by_desk.result _ _ _ _ _ _ _ refl c.compare_by_desk.ensures.lists

pub returns-clause-history : goal.returns-clause-history
returns-clause-history g c = c.in-Ok-compare_by_desk.ensures.ran c.in-Ok-finish.history c.in-Ok-finish.ensures.linked
    c.in-Ok-finish.ensures.finished c.in-Ok-finish.ensures.few c.in-Ok-finish.ensures.own c.in-Ok-finish.ensures.begins

pub returns-clause-listing : goal.returns-clause-listing
returns-clause-listing g c =
    let l = c.in-Ok-compare_by_desk.ensures.lists in
    let f = c.in-Ok-finish.ensures in
    record {
      text = listing_text l.cycles;
      listing = record { cycles = l.cycles; listed = l.listed c.in-Ok-finish.history f.linked f.own f.known; text_is = refl };
      writes = c.write_last-written.ensures _ _ l.cycles (l.wrote.counted ∙ zero-add (length l.cycles)) (l.wrote.goes_on _ _ [] (Writes-nothing _ _ _));
    }
