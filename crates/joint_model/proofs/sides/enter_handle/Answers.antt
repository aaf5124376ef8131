-- The number drawn isn't below the floor, so the list still rises, and it lies below the floor after.
use Rattle.std.proofs.Common.{◌<◌, arith}
use Rattle.std.proofs.lemmas.List.{length_push}
use Rattle.std.proofs.lemmas.List.Elements.{All-push, All-weaker}
use Rattle.joint_machine.specs.declared.events.Entry.{Entry}
use Rattle.joint_machine.specs.Draws.{numbered}
use Rattle.joint_model.proofs.sides.enter_handle.Goals as goal

pub returns-clause-draws : goal.returns-clause-draws
returns-clause-draws g c =
    let drawn = c.draw-number.ensures in
    let e : Entry = numbered c.draw-number.result c.args.made in
    let floor = g.D.Draw.rules.floor c.args.draw.now in
    let next = g.D.Draw.rules.floor c.draw-number.new.self in
    record {
      adds = record { number = c.draw-number.result; drawn = drawn.drew; added = c.push_handle.ensures.entries };
      above = drawn.low;
      below = rw c.push_handle.ensures.entries (All-push (λ (x : Entry). x.number < next) c.args.entries.now.entries e
          (All-weaker (λ (x : Entry). x.number < floor) (λ (x : Entry). x.number < next) (λ x l. omega (arith, l, drawn.low, drawn.high)) c.args.entries.now.entries c.requires.below) drawn.high);
      room = rw c.push_handle.ensures.entries (omega (arith, drawn.left, c.requires.room, length_push c.args.entries.now.entries e));
      may = drawn.may;
    }
