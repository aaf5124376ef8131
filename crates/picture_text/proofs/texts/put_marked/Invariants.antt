use Rattle.std.proofs.Common.{◌≡◌, ◌++◌, take}
use Rattle.std.specs.List.{flat_map}
use Rattle.picture_text.specs.Texts.{mark_text}
use Rattle.picture_text.proofs.texts.put_marked.Given as goal

abbrev pub invariant-loop-m : goal.invariant-loop-m
invariant-loop-m l = l.text.items ≡ l.fn.text.items ++ flat_map (mark_text l.mark) (take l.m-index l.objects)
