use Rattle.std.proofs.Common.{◌+◌, ◌-◌, ◌++◌, take, ap, ◌∙◌, arith}
use Rattle.byte_streams.proofs.Putting.{lanes_put}
use Rattle.byte_streams.proofs.drafts.Line.count.Goals as goal

pub returns : goal.returns
returns c =
    let d = c.digits-len in
    let len = c.self.inside.len in
    let room = rw (← c.self.view_is) at c.requires in
    rw (← c.self.view_is) (record {
      added = lanes_put 32 len (len + 32 - len) d.result.1 c.self.inside.bytes d.result.0.now d.ensures.size (omega (arith, room, c.self.told, c.self.invariant))
          (omega arith) (omega (arith, d.ensures.len)) ∙ ap (λ t. take len c.self.inside.bytes ++ t) d.ensures.text;
      left = omega (arith, d.ensures.len, room, c.self.invariant);
    })
