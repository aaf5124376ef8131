use Rattle.std.proofs.Common.{map, ◌∙◌, sym, string_bytes}
use Rattle.std.proofs.lemmas.List.{length-map}
use Rattle.command_words.proofs.Orders.{not_one}
use Rattle.command_words.proofs.reading.one_word.Goals as goal

pub returns-in-None : goal.returns-in-None
returns-in-None c =
    not_one (map string_bytes c.args.words.now) (length-map c.args.words.now string_bytes ∙ c.requires) (λ e. c.if-is_same.ensures (c.word.ensures ∙ e))
    (λ e. c.if-is_same-2.ensures (c.word-2.ensures ∙ e)) (λ e. c.if-is_same-3.ensures (c.word-3.ensures ∙ e))
    (λ e. c.if-is_same-4.ensures (c.word-4.ensures ∙ e)) (λ m e. c.in-None.ensures m (e ∙ sym c.word-5.ensures))
