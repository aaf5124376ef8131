use Rattle.std.proofs.Common.{◌≢◌, ◌<◌, ℕ, get_or, sym, ◌∙◌, arith, length-drop, length-take}
use Rattle.std.proofs.lemmas.List.{get_or-drop, get_or-take}
use Rattle.byte_streams.proofs.Bytes.{rest_of}
use Rattle.text_words.proofs.Search.{further}
use Rattle.report_reader.proofs.drafts.line_end.Goals as goal

pub returns-then-first-lt-LANES-clause-before : goal.returns-then-first-lt-LANES-clause-before
returns-then-first-lt-LANES-clause-before c = λ k l. rw (get_or-take 32 c.args.bytes.now k 0 (omega arith)) at (c.first_place_far-first.ensures.before k l)

pub returns-then-first-lt-LANES-clause-found : goal.returns-then-first-lt-LANES-clause-found
returns-then-first-lt-LANES-clause-found c = λ l.
    let bs = c.args.bytes.now in
    sym (get_or-take 32 bs c.first_place_far-first.result 0 (omega arith)) ∙ c.first_place_far-first.ensures.found (omega (arith, length-take 32 bs))

pub returns-clause-before : goal.returns-clause-before
returns-clause-before c =
    let bs = c.args.bytes.now in
    let front : (k : ℕ) → k < 32 → get_or bs k 0 ≢ 10 = λ k l. rw (get_or-take 32 bs k 0 l) at (c.first_place_far-first.ensures.before k (omega arith)) in
    further 32 c.first_place_far-2.result 10 bs front (rw (rest_of 32 bs) at c.first_place_far-2.ensures.before)

pub returns-clause-found : goal.returns-clause-found
returns-clause-found c = λ l.
    let bs = c.args.bytes.now in
    let f = rw (rest_of 32 bs) at c.first_place_far-2.ensures.found in
    sym (get_or-drop 32 bs c.first_place_far-2.result 0) ∙ f (omega (arith, length-drop 32 bs))
