use Rattle.std.proofs.Common.{map, string_bytes, refl, ap}
use Rattle.std.specs.Vec.Iter.{into_iter_items, into_iter_steps}
use Rattle.std.proofs.lemmas.Iterator.{items_from_collect}
use Rattle.std.proofs.lemmas.Iterator.Adapters.{YieldsList-from_skip, YieldsList-from_vec}
use Rattle.std.proofs.lemmas.Result.{IfOk-weaker}
use Rattle.std_streams.proofs.words.words_of.Goals as goal

pub returns-in-Ok-clause-words : goal.returns-in-Ok-clause-words
returns-in-Ok-clause-words c =
    let it = c.in-Ok.args in
    let road = YieldsList-from_vec {s = it} (into_iter_items it) refl it.rest.ok.0 in
    let rest = YieldsList-from_skip {steps = into_iter_steps} {v = λ y. y} {ys = into_iter_items it} {s = c.skip.result} 1 (rw (c.skip.ensures.source) road) c.skip.ensures.count in
    let all = items_from_collect c.collect.result c.collect.ensures.ran rest in
    rw (c.in-Ok.is) (IfOk-weaker c.collect.result _ _ (λ words e. ap (λ xs. map string_bytes xs) e) all)
