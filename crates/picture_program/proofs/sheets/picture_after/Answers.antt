use Rattle.std.proofs.Common.{◌≡◌}
use Rattle.std.proofs.lemmas.Result.{IfOk-weaker}
use Rattle.heap_pictures.specs.Drawing.{drawing_of}
use Rattle.picture_program.specs.Drawn.{IsSeenAfter}
use Rattle.picture_program.proofs.sheets.picture_after.Goals as goal

pub returns : goal.returns
returns c =
    let seen = rw c.in-Some.is at c.in_ok-view.ensures in
    IfOk-weaker c.picture_of.result (λ p. p ≡ drawing_of c.in-Some.view) (λ p. IsSeenAfter c.args.h.now c.args.n p) (λ p e. record {
      view = c.in-Some.view;
      seen = seen;
      sides = c.entries_in_order_are_seen.ensures.sides c.args.h.now c.args.n c.in-Some.view c.requires seen;
      tells = c.view_tells.ensures;
      is = e;
    })
    c.picture_of.ensures
