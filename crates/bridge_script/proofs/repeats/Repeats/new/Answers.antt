use Rattle.std.proofs.Common.{None}
use Rattle.std.proofs.lemmas.List.Elements.{All-replicate}
use Rattle.bridge_script.specs.Repeats.{HasItsText}
use Rattle.bridge_script.proofs.repeats.Repeats.new.Goals as goal

pub invariant_of-result : goal.invariant_of-result
invariant_of-result c = All-replicate HasItsText 512 None tt
