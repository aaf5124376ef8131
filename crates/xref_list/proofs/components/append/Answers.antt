-- One more member stands last in each turn.
use Rattle.std.proofs.Common.{◌≡◌, ◌+◌, ◌++◌, ◌∷◌, [], take, get_or, refl, sym, ap, ◌∙◌, append_assoc}
use Rattle.std.proofs.lemmas.List.{append-nil, take_all, take_more}
use Rattle.xref_list.proofs.components.append.Goals as goal

pub loop-x-init : goal.loop-x-init
loop-x-init c = record { items = sym (append-nil c.args.members.now.items); capacity = refl }

pub loop-x-preserved : goal.loop-x-preserved
loop-x-preserved c = record {
  items =
      let xs = c.args.objs.now in
      let i = c.loop-x.x-index in
      let more : take (i + 1) xs ≡ take i xs ++ get_or xs i 0 ∷ [] = take_more xs i 0 c.loop-x-test.true in
      rw (c.push_reserved.ensures.items, c.loop-x.invariant.items, append_assoc, more) refl;
  capacity = c.push_reserved.ensures.capacity ∙ c.loop-x.invariant.capacity;
}

pub returns : goal.returns
returns c = c.loop-x.invariant.items ∙ ap (λ l. c.args.members.now.items ++ l) (take_all c.loop-x.x-index c.args.objs.now c.loop-x-test.false)
