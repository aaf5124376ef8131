use Rattle.std.proofs.Common.{◌≡◌, ◌<◌, length, arith, ◌∙◌}
use Rattle.std.proofs.lemmas.List.{take_all}
use Rattle.text_words.proofs.Cuts.{one_part, first_part, free_before}
use Rattle.text_words.proofs.words.Words.next.Goals as goal

pub returns-then-end-len : goal.returns-then-end-len
returns-then-end-len c =
    let left = c.self.inside.left in
    let at : c.place-end.result ≡ length left = c.if-end-len.true ∙ c.len.ensures in
    let whole = take_all (length left) left (omega arith) in
    let free = rw (at, whole) at (free_before 32 c.place-end.result left c.place-end.ensures.within c.place-end.ensures.before) in
    rw (← c.self.view_is, c.if-self.false, c.front-word.ensures, at, whole) (one_part 32 left free)

pub returns-else-end-len : goal.returns-else-end-len
returns-else-end-len c =
    let left = c.self.inside.left in
    let free = free_before 32 c.place-end.result left c.place-end.ensures.within c.place-end.ensures.before in
    let inner : c.place-end.result < length left = omega arith in
    rw (← c.self.view_is, c.if-self.false, c.front-word.ensures, c.behind-self-inside.ensures) (first_part 32 c.place-end.result left inner free (c.place-end.ensures.found inner))
