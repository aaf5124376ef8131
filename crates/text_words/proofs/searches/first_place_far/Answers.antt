use Rattle.std.proofs.Common.{◌≢◌, ◌<◌, ℕ, get_or, sym, ◌∙◌, arith, length-drop}
use Rattle.std.proofs.lemmas.List.{get_or-drop}
use Rattle.byte_streams.proofs.Bytes.{rest_of}
use Rattle.text_words.proofs.Search.{further}
use Rattle.text_words.proofs.searches.first_place_far.Goals as goal

pub returns-clause-before : goal.returns-clause-before
returns-clause-before c =
    let bs = c.args.bytes.now in
    let front : (k : ℕ) → k < 32 → get_or bs k 0 ≢ c.args.byte = λ k l. c.run_before-run.ensures.before k (omega arith) in
    further 32 c.first_place-2.result c.args.byte bs front (rw (rest_of 32 bs) at c.first_place-2.ensures.before)

pub returns-clause-found : goal.returns-clause-found
returns-clause-found c = λ l.
    let bs = c.args.bytes.now in
    let f = rw (rest_of 32 bs) at c.first_place-2.ensures.found in
    sym (get_or-drop 32 bs c.first_place-2.result 0) ∙ f (omega (arith, length-drop 32 bs))
