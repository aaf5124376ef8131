-- Once all are looked at, all are down.
use Rattle.std.proofs.Common.{rules, ◌≡◌, ◌<◌, false, length, replicate, subst, ap, refl, arith, ◌∙◌}
use Rattle.std.specs.Prelude.{All}
use Rattle.std.proofs.Math.ListN.{length-set}
use Rattle.std.proofs.lemmas.List.{take_all}
use Rattle.row_heap.proofs.Gone.{all-down, down-next}
use Rattle.row_heap.proofs.places.lower.Goals as goal

pub returns : goal.returns
returns c =
    let whole = take_all c.loop-i.i c.loop-i.marks.items (search rules) in
    all-down c.loop-i.marks.items (subst (All (λ m. m ≡ false)) whole c.loop-i.invariant.1) ∙ ap (λ n. replicate n false) c.loop-i.invariant.0

pub loop-i-init : goal.loop-i-init
loop-i-init c = (refl, c.requires)

pub loop-i-preserved : goal.loop-i-preserved
loop-i-preserved c =
    let marks = c.loop-i.marks.items in
    let within : c.loop-i.i < length marks = omega (arith, c.loop-i-test.true, c.len-i-end.ensures, c.args.marks.now.ok, c.loop-i.invariant.0) in
    (length-set marks c.loop-i.i false ∙ c.loop-i.invariant.0, down-next marks _ c.loop-i.i within refl c.loop-i.invariant.1)

pub index_mut-requires : goal.index_mut-requires
index_mut-requires c = omega (arith, c.loop-i-test.true, c.len-i-end.ensures, c.args.marks.now.ok, c.loop-i.marks.ok, c.loop-i.invariant.0)
