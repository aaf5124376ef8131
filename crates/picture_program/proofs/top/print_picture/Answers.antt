-- What was put of the text that was due: of a picture, or of why there is none.
use Rattle.std.proofs.Common.{inl, inr}
use Rattle.picture_program.proofs.top.print_picture.Goals as goal

pub returns-in-Ok-clause-part : goal.returns-in-Ok-clause-part
returns-in-Ok-clause-part g c = λ e.
    let put = rw c.deref.ensures.value at c.print_drawn.ensures.part in
    elim (put e) [
      | inl r ↦ inl record { request = c.args.request; asks = c.requires; input = c.in-Ok.bytes.items; took = c.in-Ok.ensures.ok; refusal = r }
      | inr p ↦ inr record { request = c.args.request; asks = c.requires; input = c.in-Ok.bytes.items; took = c.in-Ok.ensures.ok; picture = p }
    ]
