use Rattle.std.proofs.Common.{sym, subst, ◌∙◌}
use Rattle.picture_sheets.specs.Around.{IsAround}
use Rattle.picture_sheets.proofs.Named.{named}
use Rattle.picture_sheets.proofs.surroundings.around.Goals as goal

pub returns-then-found : goal.returns-then-found
returns-then-found c = (
  named c.args.sheet.now c.args.side c.args.x (sym c.in_ok-found.ensures ∙ c.if-found.true),
  subst (λ s. IsAround c.args.sheet.now s c.args.k c.in_ok-part_around.field-0) c.spot_of.ensures c.in_ok-part_around.ensures,
)
