-- One more pair stands last in each turn.
use Rattle.std.proofs.Common.{◌≡◌, ◌+◌, ◌++◌, ◌∷◌, [], map, take, get_or, refl, sym, ap, ◌∙◌, append_assoc}
use Rattle.std.proofs.lemmas.List.{append-nil, map_push, take_all, take_more}
use Rattle.xref_list.proofs.pairs.push_all.Goals as goal

pub loop-dst-init : goal.loop-dst-init
loop-dst-init c = record { pairs = sym (append-nil c.args.pairs.now.items); capacity = refl }

pub loop-dst-preserved : goal.loop-dst-preserved
loop-dst-preserved c = record {
  pairs =
      let xs = c.args.dsts.now in
      let i = c.loop-dst.dst-index in
      let more : take (i + 1) xs ≡ take i xs ++ get_or xs i 0 ∷ [] = take_more xs i 0 c.loop-dst-test.true in
      rw (c.push_reserved.ensures.items, c.loop-dst.invariant.pairs, append_assoc, more, map_push) refl;
  capacity = c.push_reserved.ensures.capacity ∙ c.loop-dst.invariant.capacity;
}

pub returns : goal.returns
returns c = c.loop-dst.invariant.pairs ∙ ap (λ l. c.args.pairs.now.items ++ map (λ d. (c.args.src, d)) l) (take_all c.loop-dst.dst-index c.args.dsts.now c.loop-dst-test.false)
