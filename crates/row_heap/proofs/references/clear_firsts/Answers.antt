-- One more end has no references in each turn.
use Rattle.std.proofs.Common.{◌≡◌, ◌≤◌, ◌+◌, ◌++◌, ◌∷◌, ◌∙◌, [], length, map, take, refl, sym, ap, subst, arith}
use Rattle.std.proofs.lemmas.List.{map-append, take_all, take_more}
use Rattle.std.proofs.lemmas.List.Elements.{All-get_or}
use Rattle.row_heap.specs.declared.references.Reference.{Reference}
use Rattle.row_heap.specs.Ends.{HasPlace, end_of}
use Rattle.row_heap.proofs.Linked.{FirstsCleared-none, FirstsCleared-next, place-longer}
use Rattle.row_heap.proofs.references.clear_firsts.Goals as goal

pub loop-packed-init : goal.loop-packed-init
loop-packed-init c = record { len = (refl, refl); room = refl; cleared = FirstsCleared-none _ }

pub set_first-requires : goal.set_first-requires
set_first-requires c =
    let r = c.packed-item.result in
    let place : Reference → Type 0 = λ q. HasPlace (length c.args.objects.now.items) (length c.args.temporaries.now.items) (end_of q.from) in
    let own = subst place (sym c.packed-item.is) (All-get_or place c.args.list.now c.loop-packed.packed-index r c.loop-packed-test.true c.requires) in
    let len = c.loop-packed.invariant.len in
    rw c.unpack-reference.ensures (place-longer _ _ _ _ (end_of r.from) (omega (arith, len.0)) (omega (arith, len.1)) own)

pub loop-packed-preserved : goal.loop-packed-preserved
loop-packed-preserved c =
    let r = c.packed-item.result in
    let xs = c.args.list.now in
    let i = c.loop-packed.packed-index in
    let v = c.loop-packed.invariant in
    let more : take (i + 1) xs ≡ take i xs ++ r ∷ [] = take_more xs i r c.loop-packed-test.true ∙ ap (λ z. take i xs ++ z ∷ []) (sym c.packed-item.is) in
    let e = c.set_first.ensures in
    record {
      len = (e.len.0 ∙ v.len.0, e.len.1 ∙ v.len.1);
      room = e.room ∙ v.room;
      cleared = rw (more, map-append) (FirstsCleared-next (map (λ (q : Reference). end_of q.from) (take i xs))
          (end_of r.from) _ _ _ v.cleared (rw c.unpack-reference.ensures at e.here) (rw c.unpack-reference.ensures at e.others));
    }

pub returns-clause-cleared : goal.returns-clause-cleared
returns-clause-cleared c = (let all : length c.args.list.now ≤ c.loop-packed.packed-index = omega (arith, c.loop-packed-test.false) in rw take_all at c.loop-packed.invariant.cleared)
