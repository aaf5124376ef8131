-- The group comes from a source of its own, so none of its pairs was there.
use Rattle.std.proofs.Common.{◌++◌, ◌∙◌, arith, length, map, ap}
use Rattle.std.proofs.lemmas.List.{take-append-le, length-append}
use Rattle.xref_list.proofs.Rising.{apart-group}
use Rattle.xref_list.proofs.pairs.PairList.add_all.Goals as goal

pub invariant_of-self-2 : goal.invariant_of-self-2
invariant_of-self-2 c =
    let i = c.self.invariant in
    let r = rw (← c.self.view_is) at c.requires in
    let items = c.push_all.ensures ∙ ap (λ xs. xs ++ map (λ d. (c.args.src, d)) c.args.dsts.now) c.reserve.ensures.items in
    rw items record {
      apart = apart-group c.self.inside.pairs.items c.args.src c.args.dsts.now i.apart r.fresh r.rises;
      count = omega (arith, i.count, length-append c.self.inside.pairs.items (map (λ d. (c.args.src, d)) c.args.dsts.now));
      known = rw (take-append-le (length c.self.inside.known.keys) c.self.inside.pairs.items (map (λ d. (c.args.src, d)) c.args.dsts.now) i.count) i.known;
    }
