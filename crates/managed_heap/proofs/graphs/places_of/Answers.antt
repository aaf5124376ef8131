-- One place more in each turn.
use Rattle.std.proofs.Common.{◌∙◌, ◌<◌, ◌+◌, length, get_or, arith}
use Rattle.std.proofs.lemmas.List.{length-set}
use Rattle.std.proofs.lemmas.Option.{slice_get-get_or}
use Rattle.joint_machine.specs.declared.names.MNum.{MNum}
use Rattle.joint_machine.specs.Histories.{managed_numbers}
use Rattle.managed_heap.proofs.DeadGraphs.{ArePlaces-next, number-at}
use Rattle.managed_heap.proofs.graphs.places_of.Goals as goal

pub loop-i-preserved : goal.loop-i-preserved
loop-i-preserved c =
    let d : MNum = record { 0 = 0 } in
    let x = get_or c.args.dead.now c.loop-i.i d in
    let low = c.requires.within c.loop-i.i d c.loop-i-test.true in
    let within : x.0 < length c.loop-i.places.items = omega (arith, low, c.loop-i.invariant.len) in
    record {
      places = ArePlaces-next (managed_numbers c.args.dead.now) c.loop-i.places.items c.loop-i.i x.0 c.requires.rise
          (number-at c.args.dead.now c.loop-i.i x (slice_get-get_or c.args.dead.now c.loop-i.i d c.loop-i-test.true)) within c.loop-i.invariant.places;
      len = length-set c.loop-i.places.items x.0 (c.loop-i.i + 1) ∙ c.loop-i.invariant.len;
    }
