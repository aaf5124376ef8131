use Rattle.std.proofs.Common.{◌≡◌, ◌<◌, ◌^◌, length, map, ◌∙◌, sym, string_bytes, true, false, codes, arith, decimal}
use Rattle.std.specs.Prelude.{bytes_eq}
use Rattle.std.specs.Cmp.Lexicographic.{same_text, other_text}
use Rattle.std.proofs.lemmas.List.{length-map}
use Rattle.command_words.specs.Commands.{mode_text}
use Rattle.command_words.specs.Values.{word_at}
use Rattle.command_words.proofs.Orders.{Values, given, not_seven}
use Rattle.command_words.proofs.reading.seven_words.Goals as goal

pub returns : goal.returns
returns c =
    let words = map string_bytes c.args.words.now in
    let seven : length words ≡ 7 = length-map c.args.words.now string_bytes ∙ c.requires in
    let test : bytes_eq (word_at words 0) (codes "gen") ≡ true = sym c.is_at.ensures ∙ c.if-not-is_at.false in
    let gen : word_at words 0 ≡ codes "gen" = same_text (word_at words 0) (codes "gen") (sym test) in
    let v : Values words (decimal c.in-Some.seed) (decimal c.in-Some-number_of.size) (mode_text c.in-Some-asked_mode.mode) =
    record { seven = seven; gen = gen; seed = c.in-Some.ensures.1; size = c.in-Some-number_of.ensures.1; mode = c.in-Some-asked_mode.ensures } in
    let small : c.in-Some.seed < 2 ^ 64 = let l = c.in-Some.ensures.0 in omega (arith, l) in
    record { given = given words (decimal c.in-Some.seed) (decimal c.in-Some-number_of.size) (mode_text c.in-Some-asked_mode.mode) v; allowed = (small, c.in-Some-number_of.ensures.0) }

pub returns-then-not-is_at : goal.returns-then-not-is_at
returns-then-not-is_at c =
    let words = map string_bytes c.args.words.now in
    let test : bytes_eq (word_at words 0) (codes "gen") ≡ false = sym c.is_at.ensures ∙ c.if-not-is_at.true in
    not_seven words (length-map c.args.words.now string_bytes ∙ c.requires) (λ seed size m l k v. other_text (word_at words 0) (codes "gen") (sym test) v.gen)

pub returns-in_default : goal.returns-in_default
returns-in_default c =
    not_seven (map string_bytes c.args.words.now) (length-map c.args.words.now string_bytes ∙ c.requires) (λ seed size m l k v. c.in_default.ensures seed (omega (arith, l)) v.seed)

pub returns-in_default-number_of : goal.returns-in_default-number_of
returns-in_default-number_of c =
    not_seven (map string_bytes c.args.words.now) (length-map c.args.words.now string_bytes ∙ c.requires) (λ seed size m l k v. c.in_default-number_of.ensures size k v.size)

pub returns-in_default-asked_mode : goal.returns-in_default-asked_mode
returns-in_default-asked_mode c =
    not_seven (map string_bytes c.args.words.now) (length-map c.args.words.now string_bytes ∙ c.requires) (λ seed size m l k v. c.in_default-asked_mode.ensures m v.mode)
