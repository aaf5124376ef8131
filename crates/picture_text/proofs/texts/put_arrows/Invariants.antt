use Rattle.std.proofs.Common.{◌≡◌, ◌++◌, take}
use Rattle.std.specs.List.{flat_map}
use Rattle.picture_text.specs.Texts.{arrow_text}
use Rattle.picture_text.proofs.texts.put_arrows.Given as goal

abbrev pub invariant-loop-arrow : goal.invariant-loop-arrow
invariant-loop-arrow l = l.text.items ≡ l.fn.text.items ++ flat_map (arrow_text l.change) (take l.arrow-index l.arrows)
