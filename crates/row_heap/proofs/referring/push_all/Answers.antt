-- One more reference stands in each turn, and its ends have places.
use Rattle.std.proofs.Common.{◌≡◌, ◌+◌, ◌-◌, ◌++◌, ◌∙◌, [], ◌∷◌, ℕ, List, append_assoc, get_or, map, take, sym, ap, subst, arith}
use Rattle.joint_machine.specs.Components as exact
use Rattle.std.proofs.lemmas.List.{map-append, take_more}
use Rattle.std.proofs.lemmas.List.Elements.{All-contains}
use Rattle.std.proofs.lemmas.Option.{slice_get-get_or}
use Rattle.joint_machine.proofs.Members.{Contains-at, Contains-map}
use Rattle.row_heap.specs.declared.references.End.{End}
use Rattle.row_heap.specs.declared.references.End.TheVariants.{Object}
use Rattle.row_heap.specs.Ends.{AreEnds, IsEnd, Linked, end_of, ends_of}
use Rattle.row_heap.proofs.referring.push_all.Goals as goal

pub push-requires-clause-from : goal.push-requires-clause-from
push-requires-clause-from c =
    let none : End × End = (Object 0, Object 0) in
    let refs = c.args.refs.now in
    let temps = sym (ap (λ (v : Linked). v.temps) c.loop-reference.invariant) in
    subst (λ n. IsEnd n (end_of (get_or refs c.loop-reference.reference-index none).0)) temps
    (All-contains (AreEnds c.args.references.now.temps) (map ends_of refs) _ c.requires.ends
    (Contains-map ends_of refs _ (Contains-at refs c.loop-reference.reference-index _ (slice_get-get_or refs c.loop-reference.reference-index none c.loop-reference-test.true)))).0

pub push-requires-clause-to : goal.push-requires-clause-to
push-requires-clause-to c =
    let none : End × End = (Object 0, Object 0) in
    let refs = c.args.refs.now in
    let temps = sym (ap (λ (v : Linked). v.temps) c.loop-reference.invariant) in
    subst (λ n. IsEnd n (end_of (get_or refs c.loop-reference.reference-index none).1)) temps
    (All-contains (AreEnds c.args.references.now.temps) (map ends_of refs) _ c.requires.ends
    (Contains-map ends_of refs _ (Contains-at refs c.loop-reference.reference-index _ (slice_get-get_or refs c.loop-reference.reference-index none c.loop-reference-test.true)))).1

pub push-requires-clause-room : goal.push-requires-clause-room
push-requires-clause-room c = omega (arith, c.loop-reference-test.true, c.requires.room, ap (λ (v : Linked). v.room) c.loop-reference.invariant)

-- one more stands after those so far
pushed : (w v : Linked) (some more : List (exact.End × exact.End)) (e : exact.End × exact.End) (i : ℕ) → w ≡ record v { refs = v.refs ++ some; room = v.room - i } → more ≡ some ++ e ∷ []
    → record w { refs = w.refs ++ e ∷ []; room = w.room - 1 } ≡ record v { refs = v.refs ++ more; room = v.room - (i + 1) }
pushed w v some more e i is next =
    let refs : (v.refs ++ some) ++ e ∷ [] ≡ v.refs ++ more = append_assoc v.refs some (e ∷ []) ∙ ap (λ l. v.refs ++ l) (sym next) in
    let room : v.room - i - 1 ≡ v.room - (i + 1) = omega arith in
    ap (λ (z : Linked). record z { refs = z.refs ++ e ∷ []; room = z.room - 1 }) is
    ∙ (ap (λ l. record v { refs = l; room = v.room - i - 1 }) refs ∙ ap (λ n. record v { refs = v.refs ++ more; room = n }) room)

pub loop-reference-preserved : goal.loop-reference-preserved
loop-reference-preserved c =
    let none : End × End = (Object 0, Object 0) in
    let v = c.args.references.now in
    let refs = c.args.refs.now in
    let i = c.loop-reference.reference-index in
    let r = get_or refs i none in
    let more : map ends_of (take (i + 1) refs) ≡ map ends_of (take i refs) ++ ends_of r ∷ [] = ap (map ends_of) (take_more refs i none c.loop-reference-test.true)
    ∙ map-append ends_of (take i refs) (r ∷ []) in
    c.push.ensures ∙ pushed c.loop-reference.references v (map ends_of (take i refs)) (map ends_of (take (i + 1) refs)) (ends_of r) i c.loop-reference.invariant more
