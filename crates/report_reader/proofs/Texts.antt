-- The line of an entry in a history is that entry's line with the numbers that it names there. It has no newline, and
-- begins with a digit, as the last line of a report doesn't.
use Rattle.std.proofs.Common.{◌≡◌, ℕ, ◌<◌, ◌^◌, List, [], ◌∷◌, ◌++◌, take, Option, Some, None, codes, decimal, refl, sym, ap, ◌∙◌, subst, arith, append_assoc}
use Rattle.std.proofs.lemmas.List.{append_cancel_left, append_cancel_right}
use Rattle.joint_machine.specs.declared.names.Span.{Span}
use Rattle.joint_machine.specs.declared.events.Reply.{Reply}
use Rattle.joint_machine.specs.declared.events.Entry.{Entry}
use Rattle.joint_machine.specs.Histories.{Finished, stretch}
use Rattle.byte_streams.specs.Spaced.{after_spaces}
use Rattle.text_words.specs.Words.{spaced}
use Rattle.bridge_script.proofs.Printed.{spaced_after}
use Rattle.history_report.specs.declared.lists.Numbers.{Numbers}
use Rattle.history_report.specs.Lists.{numbers_of}
use Rattle.history_report.specs.Report.{event_words, reply_words, list_of, shown, cite_words, place_text, entry_text, end_text}
use Rattle.text_words.proofs.Cutting.{Lacks, every-append}
use Rattle.text_words.proofs.Decimals.{decimal-digits, decimal-one}
use Rattle.history_report.proofs.TextLines.{whole_words, entry-line, after-lack, not-end}
use Rattle.entry_reader.specs.Saying.{said, list_said, line_words}
use Rattle.entry_reader.proofs.WholeLines.{words_lack}
use Rattle.report_reader.specs.Faults.{IsEntryText}

-- the numbers of a list that a reply shows in a history
abbrev pub named_by : Finished → Option (Numbers × Span) → List ℕ
named_by h None = []
named_by h (Some l) = stretch (take 4294967296 (numbers_of h l.0)) l.1

abbrev pub named_in : Finished → Reply → List ℕ
named_in h r = named_by h (list_of r)

shown_said : (h : Finished) (l : Option (Numbers × Span)) → shown h l ≡ list_said l (named_by h l)
shown_said h None = refl
shown_said h (Some l) = refl

-- the words behind the number
abbrev place_words : Entry → List ℕ → List (List ℕ)
place_words e ns = place_text e.made.caller e.made.index ∷ (event_words e.made.caller e.made.op ++ (codes "=" ∷ (said e.made.reply ns ++ cite_words e.made.cites)))

words_same : (h : Finished) (e : Entry) → whole_words h e ≡ place_words e (named_in h e.made.reply)
words_same h e =
    let v = event_words e.made.caller e.made.op in
    let r = reply_words e.made.reply in
    let s = shown h (list_of e.made.reply) in
    let c = cite_words e.made.cites in
    ap (λ z. place_text e.made.caller e.made.index ∷ z) (append_assoc v (codes "=" ∷ r) (s ++ c)
    ∙ ap (λ z. v ++ (codes "=" ∷ z)) (sym (append_assoc r s c) ∙ ap (λ z. (r ++ z) ++ c) (shown_said h (list_of e.made.reply))))

pub entry_spaced : (h : Finished) (e : Entry) → entry_text h e ≡ spaced (line_words e (named_in h e.made.reply)) ++ 10 ∷ []
entry_spaced h e = entry-line h e ∙ ap (λ t. t ++ 10 ∷ []) (ap (λ ws. decimal e.number ++ after_spaces ws) (words_same h e)
    ∙ sym (spaced_after (decimal e.number) (place_words e (named_in h e.made.reply))))

-- it has no newline
line_lacks : (e : Entry) (ns : List ℕ) → Lacks 10 (spaced (line_words e ns))
line_lacks e ns =
    let l = words_lack 10 (omega arith) e ns in
    subst (Lacks 10) (sym (spaced_after (decimal e.number) (place_words e ns)))
    (every-append (λ (x : ℕ). (x ≡ 10) → ⊥) (decimal e.number) (after_spaces (place_words e ns)) l.0 (after-lack 10 (omega arith) (place_words e ns) l.1))

pub text_lacks : (n : ℕ) (text : List ℕ) → IsEntryText n text → Lacks 10 text
text_lacks n text t = subst (Lacks 10) (sym t.line.same) (line_lacks t.entry t.numbers)

-- and doesn't begin as a last line
pub not_last : (n : ℕ) (text x y : List ℕ) → IsEntryText n text → text ++ x ≡ 101 ∷ y → ⊥
not_last n text x y t e =
    let d = decimal t.entry.number in
    let place = place_text t.entry.made.caller t.entry.made.index in
    let rest = place ++ after_spaces (event_words t.entry.made.caller t.entry.made.op ++ (codes "=" ∷ (said t.entry.made.reply t.numbers ++ cite_words t.entry.made.cites))) in
    let is : text ≡ d ++ (32 ∷ rest) = t.line.same ∙ spaced_after d (place_words t.entry t.numbers) in
    let q : d ++ (32 ∷ (rest ++ x)) ≡ 101 ∷ y = sym (append_assoc d (32 ∷ rest) x) ∙ (ap (λ z. z ++ x) (sym is) ∙ e) in
    not-end d (rest ++ x) y (decimal-digits t.entry.number) q

-- the last line names one number
pub one_end : (m n : ℕ) → m < 2 ^ 64 → end_text m ≡ end_text n → m ≡ n
one_end m n l e = decimal-one m n l (append_cancel_right (decimal m) (decimal n) (10 ∷ []) (append_cancel_left (codes "end ") (decimal m ++ 10 ∷ []) (decimal n ++ 10 ∷ []) e))
