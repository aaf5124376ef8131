use Rattle.std.proofs.Common.{◌≡◌, false, refl, arith}
use Rattle.std.proofs.lemmas.List.Elements.{All-replicate}
use Rattle.compare_pass.proofs.references.list_references.Goals as goal

pub refer_all-requires-clause-marks : goal.refer_all-requires-clause-marks
refer_all-requires-clause-marks c = omega (arith, c.deref_mut.ensures.len, c.in_ok-marks.ensures.len, c.nodes.ensures.count)

pub refer_all-requires-clause-clear : goal.refer_all-requires-clause-clear
refer_all-requires-clause-clear c = rw (c.deref_mut.ensures.value, c.in_ok-marks.ensures.items_if_clones_equal (λ y e. e)) (All-replicate (λ m. m ≡ false) c.nodes.result false refl)
