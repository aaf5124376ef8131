use Rattle.std.proofs.Common.{◌+◌, ◌-◌, arith, refl}
use Rattle.byte_streams.proofs.Putting.{word_put}
use Rattle.byte_streams.proofs.drafts.Line.word.Goals as goal

pub returns : goal.returns
returns g c =
    let len = c.self.inside.len in
    let room = rw (← c.self.view_is) at c.requires in
    rw (← c.self.view_is, c.copy_from_slice.ensures.after) (record {
      added = word_put len (len + 1) (len + 1 + g.row.N - (len + 1)) g.row.N c.self.inside.bytes c.args.word refl (omega (arith, room, c.self.told, c.self.invariant)) (omega arith);
      left = omega (arith, room, c.self.invariant);
    })
