-- The line of an entry, and what is read back from it. No word of a line has a space and no line a newline, so a line
-- is cut into its words by the spaces; the first word is the place, and the event's words stand before the first equals
-- sign. The last line begins with a letter, each other one with a digit.
use Rattle.std.proofs.Common.{◌≡◌, ℕ, ◌<◌, ◌≤◌, ◌^◌, List, [], ◌∷◌, ◌++◌, drop, get_or, Option, Some, None, codes, decimal, refl, sym, ◌∙◌, ap, arith, append_assoc, All}
use Rattle.std.specs.List.{AllByRecursion}
use Rattle.std.proofs.lemmas.List.Elements.{All-head, All-tail}
use Rattle.joint_machine.specs.declared.names.Span.{Span}
use Rattle.joint_machine.specs.declared.names.Thread.{Thread}
use Rattle.joint_machine.specs.declared.names.Thread.TheVariants.{M, P, C}
use Rattle.joint_machine.specs.declared.events.Entry.{Entry}
use Rattle.joint_machine.specs.Histories.{Finished}
use Rattle.joint_machine.specs.Lines.{IsThread}
use Rattle.byte_streams.proofs.Written.{after_spaces-append}
use Rattle.history_report.specs.declared.lists.Numbers.{Numbers}
use Rattle.history_report.specs.declared.lists.Numbers.TheVariants.{Freed, FreedPeers, Notices}
use Rattle.bridge_script.specs.Words.{thread_text}
use Rattle.byte_streams.specs.Spaced.{after_spaces}
use Rattle.history_report.specs.Lists.{list_words}
use Rattle.history_report.specs.Report.{event_words, reply_words, list_of, shown, cite_words, place_text, head_words, entry_text, entries_text}
use Rattle.text_words.proofs.Cutting.{Lacks, every-append, cut-first}
use Rattle.text_words.proofs.Decimals.{IsDigit, decimal-digits, decimal-one}
use Rattle.text_words.proofs.PlainWords.{AllPlain, plain-decimal, no-byte, no-bytes, no-equals}
use Rattle.history_report.proofs.Plain.{plain-listed, plain-event, plain-reply, plain-cites, plain-place}

-- the words of an entry's line, and the line without its newline
abbrev pub rest_words : Finished → Entry → List (List ℕ)
rest_words h e = shown h (list_of e.made.reply) ++ cite_words e.made.cites

abbrev pub whole_words : Finished → Entry → List (List ℕ)
whole_words h e = head_words e ++ rest_words h e

abbrev pub line_of : Finished → Entry → List ℕ
line_of h e = decimal e.number ++ after_spaces (whole_words h e)

pub entry-line : (h : Finished) (e : Entry) → entry_text h e ≡ line_of h e ++ 10 ∷ []
entry-line h e =
    let d = decimal e.number in
    let front = after_spaces (head_words e) in
    let list = after_spaces (shown h (list_of e.made.reply)) in
    let cites = after_spaces (cite_words e.made.cites) in
    let words : after_spaces (whole_words h e) ≡ front ++ (list ++ cites) =
    after_spaces-append (head_words e) (rest_words h e) ∙ ap (λ t. front ++ t) (after_spaces-append (shown h (list_of e.made.reply)) (cite_words e.made.cites)) in
    let left : (d ++ front) ++ (list ++ (cites ++ 10 ∷ [])) ≡ (d ++ (front ++ (list ++ cites))) ++ 10 ∷ [] =
    ap (λ t. (d ++ front) ++ t) (sym (append_assoc list cites (10 ∷ [])))
    ∙ (sym (append_assoc (d ++ front) (list ++ cites) (10 ∷ [])) ∙ ap (λ t. t ++ 10 ∷ []) (append_assoc d front (list ++ cites))) in
    left ∙ sym (ap (λ t. (d ++ t) ++ 10 ∷ []) words)

-- a line, its newline, and what stands behind it
pub line-first : (h : Finished) (e : Entry) (es : List Entry) (end : List ℕ) → entries_text h (e ∷ es) ++ end ≡ line_of h e ++ (10 ∷ (entries_text h es ++ end))
line-first h e es end =
    append_assoc (entry_text h e) (entries_text h es) end ∙ (ap (λ t. t ++ (entries_text h es ++ end)) (entry-line h e) ∙ append_assoc (line_of h e) (10 ∷ []) (entries_text h es ++ end))

-- no word has a space, and no line a newline
plain-numbers : (h : Finished) (n : Numbers) (s : Span) → AllPlain (list_words h n s)
plain-numbers h Freed s = plain-listed 109 _ refl
plain-numbers h FreedPeers s = plain-listed 112 _ refl
plain-numbers h Notices s = plain-listed 109 _ refl

plain-shown : (h : Finished) (l : Option (Numbers × Span)) → AllPlain (shown h l)
plain-shown h None = tt
plain-shown h (Some l) = plain-numbers h l.0 l.1

pub words-lack : (c : ℕ) → c ≤ 32 → (h : Finished) (e : Entry) → AllByRecursion (Lacks c) (whole_words h e)
words-lack c l h e =
    let Q = Lacks c in
    let event = event_words e.made.caller e.made.op in
    let reply = reply_words e.made.reply in
    let shows = no-bytes c l (shown h (list_of e.made.reply)) (plain-shown h (list_of e.made.reply)) in
    let cites = no-bytes c l (cite_words e.made.cites) (plain-cites e.made.cites) in
    let rest = every-append Q (shown h (list_of e.made.reply)) (cite_words e.made.cites) shows cites in
    let equals : Lacks c (codes "=") = (λ q. omega (arith, l, q), tt) in
    let behind = every-append Q event (codes "=" ∷ reply) (no-bytes c l event (plain-event e.made.caller e.made.op)) (equals, no-bytes c l reply (plain-reply e.made.reply)) in
    every-append Q (head_words e) (rest_words h e) (no-byte c l (place_text e.made.caller e.made.index) (plain-place e.made.caller e.made.index), behind) rest

pub after-lack : (c : ℕ) → c < 32 → (ws : List (List ℕ)) → AllByRecursion (Lacks c) ws → Lacks c (after_spaces ws)
after-lack c l [] h = tt
after-lack c l (w ∷ ws) h = (λ q. omega (arith, l, q), every-append (λ (x : ℕ). (x ≡ c) → ⊥) w (after_spaces ws) h.0 (after-lack c l ws h.1))

pub line-whole : (h : Finished) (e : Entry) → Lacks 10 (line_of h e)
line-whole h e = every-append (λ (x : ℕ). (x ≡ 10) → ⊥) (decimal e.number) (after_spaces (whole_words h e))
    (no-byte 10 (omega arith) (decimal e.number) (plain-decimal e.number)) (after-lack 10 (omega arith) (whole_words h e) (words-lack 10 (omega arith) h e))

-- an entry's line isn't the last line
abbrev first_byte : List ℕ → ℕ
first_byte t = get_or t 0 0

pub not-end : (ds x y : List ℕ) → All IsDigit ds → ds ++ (32 ∷ x) ≡ 101 ∷ y → ⊥
not-end [] x y h e = omega (arith, ap first_byte e)
not-end (d ∷ ds) x y h e = (let k = All-head IsDigit d ds h in let q : d ≡ 101 = ap first_byte e in omega (arith, k, q))

pub no-entry : (h : Finished) (e : Entry) (es : List Entry) (end y : List ℕ) → entries_text h (e ∷ es) ++ end ≡ 101 ∷ y → ⊥
no-entry h e es end y q =
    let more = 10 ∷ (entries_text h es ++ end) in
    not-end (decimal e.number) _ y (decimal-digits e.number) (sym (append_assoc (decimal e.number) (after_spaces (whole_words h e)) more) ∙ (sym (line-first h e es end) ∙ q))

-- a thread and a line are read back
no-dot : (ds : List ℕ) → All IsDigit ds → Lacks 46 ds
no-dot [] h = tt
no-dot (d ∷ ds) h = (λ q. (let k = All-head IsDigit d ds h in omega (arith, k, q)), no-dot ds (All-tail IsDigit d ds h))

pub thread-whole : (t : Thread) → Lacks 46 (thread_text t)
thread-whole (M n) = (λ q. omega (arith, q), no-dot (decimal n) (decimal-digits n))
thread-whole (P n) = (λ q. omega (arith, q), no-dot (decimal n) (decimal-digits n))
thread-whole C = (λ q. omega (arith, q), tt)

thread-one : (t t' : Thread) → IsThread t → thread_text t ≡ thread_text t' → t ≡ t'
thread-one (M n) (M m) h e = ap M (decimal-one n m (omega (arith, h.1)) cc)
thread-one (P n) (P m) h e = ap P (decimal-one n m (omega (arith, h.1)) cc)
thread-one C C h e = refl
thread-one t t' h e = absurd (omega (arith, ap first_byte e))

pub place-one : (t t' : Thread) (l l' : ℕ) → IsThread t → l < 2 ^ 64 → place_text t l ≡ place_text t' l' → (t ≡ t') × (l ≡ l')
place-one t t' l l' h s e =
    let r = cut-first 46 (thread_text t) (thread_text t') (decimal l) (decimal l') (thread-whole t) (thread-whole t') e in
    (thread-one t t' h r.0, decimal-one l l' s r.1)

-- the words of two lines: the place, and the event's words before the first equals sign
pub words-tell : (h h' : Finished) (e e' : Entry) → whole_words h e ≡ whole_words h' e' → (place_text e.made.caller e.made.index ≡ place_text e'.made.caller e'.made.index)
    × (event_words e.made.caller e.made.op ≡ event_words e'.made.caller e'.made.op) × (reply_words e.made.reply ++ rest_words h e ≡ reply_words e'.made.reply ++ rest_words h' e')
words-tell h h' e e' q =
    let first = λ (ws : List (List ℕ)). get_or ws 0 [] in
    let others = λ (ws : List (List ℕ)). drop 1 ws in
    let v = event_words e.made.caller e.made.op in
    let v' = event_words e'.made.caller e'.made.op in
    let r = reply_words e.made.reply in
    let r' = reply_words e'.made.reply in
    let rest : (v ++ (codes "=" ∷ r)) ++ rest_words h e ≡ (v' ++ (codes "=" ∷ r')) ++ rest_words h' e' = ap others q in
    let split : v ++ (codes "=" ∷ (r ++ rest_words h e)) ≡ v' ++ (codes "=" ∷ (r' ++ rest_words h' e')) =
    sym (append_assoc v (codes "=" ∷ r) (rest_words h e)) ∙ (rest ∙ append_assoc v' (codes "=" ∷ r') (rest_words h' e')) in
    let cut = cut-first (codes "=") v v' (r ++ rest_words h e) (r' ++ rest_words h' e')
    (no-equals v (plain-event e.made.caller e.made.op)) (no-equals v' (plain-event e'.made.caller e'.made.op)) split in
    (ap first q, cut.0, cut.1)
