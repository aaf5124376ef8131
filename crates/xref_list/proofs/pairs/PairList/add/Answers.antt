-- The set has every pair by then, so it finds the pair exactly where it stands in the list.
use Rattle.std.proofs.Common.{◌++◌, ◌∷◌, [], ◌∙◌, arith, length, refl, sym, ap}
use Rattle.std.proofs.lemmas.List.{take-append-le, length_push}
use Rattle.xref_list.proofs.Rising.{all_known, known_pair, unknown_pair, apart-push}
use Rattle.xref_list.proofs.pairs.PairList.add.Goals as goal

pub returns-then-contains-clause-added : goal.returns-then-contains-clause-added
returns-then-contains-clause-added c =
    let v = c.self.view_is in
    let d = c.deref.ensures.value in
    let k = rw d at c.catch_up.ensures.known in
    let n = rw d at c.in_ok-catch_up.ensures.all in
    rw (← v) (known_pair c.self.inside.pairs.items c.catch_up.new.known.keys c.args.pair (all_known _ _ _ n k.known) (sym c.if-contains.ensures), refl)

pub invariant_of-self-2 : goal.invariant_of-self-2
invariant_of-self-2 c =
    let d = c.deref.ensures.value in
    let k = rw d at c.catch_up.ensures.known in
    let n = rw d at c.in_ok-catch_up.ensures.all in
    let items = c.push_reserved.ensures.items ∙ ap (λ xs. xs ++ c.args.pair ∷ []) c.reserve.ensures.items in
    rw items record {
      apart = apart-push c.self.inside.pairs.items c.args.pair c.self.invariant.apart
          (unknown_pair c.self.inside.pairs.items c.catch_up.new.known.keys c.args.pair (all_known _ _ _ n k.known) (sym c.if-contains.ensures));
      count = omega (arith, n, length_push c.self.inside.pairs.items c.args.pair);
      known = rw (take-append-le (length c.catch_up.new.known.keys) c.self.inside.pairs.items (c.args.pair ∷ []) (omega (arith, n))) k.known;
    }

pub returns-clause-added : goal.returns-clause-added
returns-clause-added c =
    let d = c.deref.ensures.value in
    let k = rw d at c.catch_up.ensures.known in
    let n = rw d at c.in_ok-catch_up.ensures.all in
    rw (← c.self.view_is) (
      unknown_pair c.self.inside.pairs.items c.catch_up.new.known.keys c.args.pair (all_known _ _ _ n k.known) (sym c.if-contains.ensures),
      c.push_reserved.ensures.items ∙ ap (λ xs. xs ++ c.args.pair ∷ []) c.reserve.ensures.items,
    )
