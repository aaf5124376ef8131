-- A refusal is right: if the bytes were the report of a history, the lines before the faulty one would be those of its
-- first entries, and the faulty one would be the line of the next, or the last line.
use Rattle.std.proofs.Common.{◌≡◌, ◌≢◌, ℕ, zero, suc, ◌+◌, ◌-◌, ◌<◌, ◌≤◌, ◌^◌, ◌⊎◌, inl, inr, Bool, true, false, List, [], ◌∷◌, ◌++◌, length, take, drop, All, codes, decimal, refl, sym, ap, ◌∙◌}
use Rattle.std.proofs.Common.{subst, arith, append_assoc, append-nil, length-append, true≢false}
use Rattle.std.proofs.lemmas.List.{append_cancel_right, drop-take, take-map, drop-map}
use Rattle.std.proofs.lemmas.List.Elements.{All-head, All-tail, All-take, All-drop, All-map, recursion_from_All}
use Rattle.joint_machine.specs.declared.names.MNum.{MNum}
use Rattle.joint_machine.specs.declared.names.PNum.{PNum}
use Rattle.joint_machine.specs.declared.names.Span.{Span}
use Rattle.joint_machine.specs.declared.events.Reply.{Reply}
use Rattle.joint_machine.specs.declared.events.Reply.TheVariants as reply
use Rattle.joint_machine.specs.declared.events.Entry.{Entry}
use Rattle.joint_machine.specs.Components.{Rises}
use Rattle.joint_machine.specs.Histories.{Finished, FitsLists, HasSpans, managed_numbers, peer_numbers, stretch, NumberedFrom}
use Rattle.text_words.specs.Words.{spaced}
use Rattle.history_report.specs.Report.{entry_text, entries_text, end_text, report}
use Rattle.text_words.proofs.Cutting.{Lacks, cut-first, every-append}
use Rattle.text_words.proofs.PlainWords.{no-byte, plain-decimal}
use Rattle.history_report.proofs.TextLines.{line_of, line-first, line-whole, no-entry, entry-line}
use Rattle.entry_reader.specs.Fitting.{Short, FitsTypes, FitsReply}
use Rattle.entry_reader.specs.Saying.{IsLineOf, IsShown, line_words}
use Rattle.report_reader.specs.declared.faults.ReportCause.{ReportCause}
use Rattle.report_reader.specs.declared.faults.ReportCause.TheVariants as cause
use Rattle.report_reader.specs.declared.faults.ReportFault.{ReportFault}
use Rattle.report_reader.specs.Reading.{IsValue}
use Rattle.report_reader.specs.Faults.{IsEntryText, IsEndText, AreEntryLines, closed_lines, front, front_count, Placed, Has, StandsFirst, IsFaultHere, IsReportFault, IsNoReport}
use Rattle.report_reader.proofs.Texts.{named_in, entry_spaced, text_lacks, not_last, one_end}

-- numbers that rise still do where they are cut
rises_take : (n : ℕ) (xs : List ℕ) → Rises xs → Rises (take n xs)
rises_take zero xs h = tt
rises_take (suc n) [] h = tt
rises_take (suc n) (x ∷ xs) h = (All-take (λ y. x < y) n xs h.0, rises_take n xs h.1)

take_swap : (c m : ℕ) (xs : List ℕ) → take c (take m xs) ≡ take m (take c xs)
take_swap zero zero xs = refl
take_swap zero (suc m) xs = refl
take_swap (suc c) zero xs = refl
take_swap (suc c) (suc m) [] = refl
take_swap (suc c) (suc m) (x ∷ xs) = ap (λ z. x ∷ z) (take_swap c m xs)

-- the numbers of a list that a span shows, which are at most those that it names: places of the list are below 2^32
pub shown_part : (xs : List ℕ) (s : Span) → Short s.first → stretch (take 4294967296 xs) s ≡ take (4294967296 - s.first) (stretch xs s)
shown_part xs s l =
    let whole : 4294967296 ≡ s.first + (4294967296 - s.first) = omega (arith, l) in
    let e : drop s.first (take 4294967296 xs) ≡ take (4294967296 - s.first) (drop s.first xs) = ap (λ k. drop s.first (take k xs)) whole ∙ drop-take s.first (4294967296 - s.first) xs in
    ap (λ z. take s.count z) e ∙ take_swap s.count (4294967296 - s.first) (drop s.first xs)

shown_short : (xs : List ℕ) (s : Span) → All Short xs → All Short (stretch (take 4294967296 xs) s)
shown_short xs s h = All-take Short s.count (drop s.first (take 4294967296 xs)) (All-drop Short s.first (take 4294967296 xs) (All-take Short 4294967296 xs h))

managed_stretch : (ms : List MNum) (s : Span) → managed_numbers (stretch ms s) ≡ stretch (managed_numbers ms) s
managed_stretch ms s = sym (take-map (λ (m : MNum). m.0) s.count (drop s.first ms)) ∙ ap (λ z. take s.count z) (sym (drop-map (λ (m : MNum). m.0) s.first ms))

peer_stretch : (ps : List PNum) (s : Span) → peer_numbers (stretch ps s) ≡ stretch (peer_numbers ps) s
peer_stretch ps s = sym (take-map (λ (p : PNum). p.0) s.count (drop s.first ps)) ∙ ap (λ z. take s.count z) (sym (drop-map (λ (p : PNum). p.0) s.first ps))

shown_rises : (xs : List ℕ) (s : Span) → Short s.first → Rises (stretch xs s) → Rises (stretch (take 4294967296 xs) s)
shown_rises xs s l h = subst Rises (sym (shown_part xs s l)) (rises_take (4294967296 - s.first) (stretch xs s) h)

short_managed : (ms : List MNum) → All (λ m. Short m.0) ms → All Short (managed_numbers ms)
short_managed ms h = All-map Short (λ (m : MNum). m.0) ms h

short_peers : (ps : List PNum) → All (λ p. Short p.0) ps → All Short (peer_numbers ps)
short_peers ps h = All-map Short (λ (p : PNum). p.0) ps h

-- so the line of an entry in a history is an entry's line
pub shows : (h : Finished) (r : Reply) → IsValue h → FitsReply r → HasSpans h.freed_managed h.freed_peers h.notices r → IsShown r (named_in h r)
shows h (reply.Snapped n s) v f k = record {
  short = shown_short (managed_numbers h.freed_managed) s (short_managed h.freed_managed v.managed);
  rises = λ z. shown_rises (managed_numbers h.freed_managed) s f.1.0 (subst Rises (managed_stretch h.freed_managed s) k.1);
}
shows h (reply.Freed s) v f k = record {
  short = shown_short (managed_numbers h.freed_managed) s (short_managed h.freed_managed v.managed);
  rises = λ z. shown_rises (managed_numbers h.freed_managed) s f.0 (subst Rises (managed_stretch h.freed_managed s) k.1);
}
shows h (reply.Swept j s) v f k = record {
  short = shown_short (peer_numbers h.freed_peers) s (short_peers h.freed_peers v.peers);
  rises = λ z. shown_rises (peer_numbers h.freed_peers) s f.1.0 (subst Rises (peer_stretch h.freed_peers s) k.1);
}
shows h (reply.Took s) v f k = record { short = shown_short (managed_numbers h.notices) s (short_managed h.notices v.notices); rises = λ z. absurd (true≢false (sym z)) }
shows h r v f k = tt

-- an entry of a history that is a value
pub record IsOwn (h : Finished) (e : Entry) : Type 0 where
  pub types : FitsTypes e
  pub fits : FitsLists h.freed_managed h.freed_peers h.notices e

pub own_line : (h : Finished) (e : Entry) → IsValue h → IsOwn h e → IsLineOf (spaced (line_words e (named_in h e.made.reply))) e (named_in h e.made.reply)
own_line h e v o = record { fits = o.types; event = o.fits.event; shown = shows h e.made.reply v o.types.reply o.fits.spans; same = refl }

line_is : (h : Finished) (e : Entry) → line_of h e ≡ spaced (line_words e (named_in h e.made.reply))
line_is h e = append_cancel_right (line_of h e) (spaced (line_words e (named_in h e.made.reply))) (10 ∷ []) (sym (entry-line h e) ∙ entry_spaced h e)

own_text : (h : Finished) (n : ℕ) (e : Entry) (text : List ℕ) → IsValue h → IsOwn h e → e.number ≡ n → text ≡ line_of h e → IsEntryText n text
own_text h n e text v o q t =
    let l = own_line h e v o in
    record { entry = e; numbers = named_in h e.made.reply; same = q; line = record { fits = l.fits; event = l.event; shown = l.shown; same = t ∙ line_is h e } }

-- entries of a history, from a number on
pub record AreOwn (h : Finished) (n : ℕ) (es : List Entry) : Type 0 where
  pub numbers : NumberedFrom n es
  pub types : All FitsTypes es
  pub fits : All (FitsLists h.freed_managed h.freed_peers h.notices) es

pub own_head : (h : Finished) (n : ℕ) (e : Entry) (es : List Entry) → AreOwn h n (e ∷ es) → IsOwn h e
own_head h n e es o = record { types = All-head FitsTypes e es o.types; fits = All-head (FitsLists h.freed_managed h.freed_peers h.notices) e es o.fits }

pub own_tail : (h : Finished) (n : ℕ) (e : Entry) (es : List Entry) → AreOwn h n (e ∷ es) → AreOwn h (n + 1) es
own_tail h n e es o = record { numbers = o.numbers.1; types = All-tail FitsTypes e es o.types; fits = All-tail (FitsLists h.freed_managed h.freed_peers h.notices) e es o.fits }

-- behind lines of entries stand those of the entries that are left, and the last line
record Left (h : Finished) (n : ℕ) (count k : ℕ) (behind : List ℕ) : Type 0 where
  rest : List Entry
  own : AreOwn h n rest
  text : behind ≡ entries_text h rest ++ end_text k
  size : count ≡ n + length rest

peel : (h : Finished) (k : ℕ) (es : List Entry) (n : ℕ) (texts : List (List ℕ)) (behind : List ℕ) → AreOwn h n es → AreEntryLines n texts
    → closed_lines texts ++ behind ≡ entries_text h es ++ end_text k → Left h (n + length texts) (n + length es) k behind
peel h k es n [] behind o l e =
    let z : n ≡ n + 0 = omega arith in
    record { rest = es; own = subst (λ i. AreOwn h i es) z o; text = e; size = omega arith }
peel h k [] n (t ∷ ts) behind o l e = absurd (not_last n t ((10 ∷ closed_lines ts) ++ behind) _ l.0 (sym (append_assoc t (10 ∷ closed_lines ts) behind) ∙ e))
peel h k (x ∷ es) n (t ∷ ts) behind o l e =
    let lines : t ++ (10 ∷ (closed_lines ts ++ behind)) ≡ line_of h x ++ (10 ∷ (entries_text h es ++ end_text k)) = sym (append_assoc t (10 ∷ closed_lines ts) behind)
    ∙ (e ∙ line-first h x es (end_text k)) in
    let cut = cut-first 10 t (line_of h x) (closed_lines ts ++ behind) (entries_text h es ++ end_text k) (text_lacks n t l.0) (line-whole h x) lines in
    let w = peel h k es (n + 1) ts behind (own_tail h n x es o) l.1 cut.1 in
    let here : (n + 1) + length ts ≡ n + length (t ∷ ts) = omega arith in
    record { rest = w.rest; own = subst (λ i. AreOwn h i w.rest) here w.own; text = w.text; size = (let s = w.size in omega (arith, s)) }

-- the text of the last line, before its newline
end_split : (k : ℕ) → end_text k ≡ (codes "end " ++ decimal k) ++ (10 ∷ [])
end_split k = sym (append_assoc (codes "end ") (decimal k) (10 ∷ []))

end_lacks : (k : ℕ) → Lacks 10 (codes "end " ++ decimal k)
end_lacks k = every-append (λ (x : ℕ). (x ≡ 10) → ⊥) (codes "end ") (decimal k)
    ((λ q. omega (arith, q)), ((λ q. omega (arith, q)), ((λ q. omega (arith, q)), ((λ q. omega (arith, q)), tt)))) (no-byte 10 (omega arith) (decimal k) (plain-decimal k))

-- a first line before its newline
first_end : (k : ℕ) (text rest : List ℕ) → Lacks 10 text → text ++ (10 ∷ rest) ≡ end_text k → (text ++ 10 ∷ [] ≡ end_text k) × (rest ≡ [])
first_end k text rest l e =
    let c = cut-first 10 text (codes "end " ++ decimal k) rest [] l (end_lacks k) (e ∙ end_split k) in
    (ap (λ z. z ++ 10 ∷ []) c.0 ∙ sym (end_split k), c.1)

-- no report is without a newline
closed_once : (text x y : List ℕ) → Lacks 10 text → text ≡ x ++ (10 ∷ y) → ⊥
closed_once [] x y l e = (let a = ap length e in let b = length-append x (10 ∷ y) in omega (arith, a, b))
closed_once (t ∷ text) [] y l e = l.0 cc
closed_once (t ∷ text) (b ∷ x) y l e = closed_once text x y l.1 (ap (drop 1) e)

no_open : (h : Finished) (es : List Entry) (k : ℕ) (text : List ℕ) → Lacks 10 text → text ≡ entries_text h es ++ end_text k → ⊥
no_open h [] k text l e = closed_once text (codes "end " ++ decimal k) [] l (e ∙ end_split k)
no_open h (x ∷ es) k text l e = closed_once text (line_of h x) (entries_text h es ++ end_text k) l (e ∙ line-first h x es (end_text k))

-- the first line behind lines of entries is the next entry's or the last
record IsNext (h : Finished) (n count k : ℕ) (text : List ℕ) : Type 0 where
  is : IsEntryText n text ⊎ ((text ++ 10 ∷ [] ≡ end_text k) × (count ≡ n))

next_line : (h : Finished) (n count k : ℕ) (behind text rest : List ℕ) → IsValue h → Left h n count k behind → Lacks 10 text → behind ≡ text ++ (10 ∷ rest) → IsNext h n count k text
next_line h n count k behind text rest v w l e = by w.rest w.own w.text w.size
  where
    by : (es : List Entry) → AreOwn h n es → behind ≡ entries_text h es ++ end_text k → count ≡ n + length es → IsNext h n count k text
    by [] o t s = record { is = inr ((first_end k text rest l (sym e ∙ t)).0, omega (arith, s)) }
    by (x ∷ es) o t s =
        let c = cut-first 10 text (line_of h x) rest (entries_text h es ++ end_text k) l (line-whole h x) (sym e ∙ (t ∙ line-first h x es (end_text k))) in
        record { is = inl (own_text h n x text v (own_head h n x es o) o.numbers.0 c.0) }

-- an entry's line isn't the last one
both : (n k : ℕ) (text : List ℕ) → IsEntryText n text → text ++ 10 ∷ [] ≡ end_text k → ⊥
both n k text t e = not_last n text (10 ∷ []) _ t e

lacks_of : (text : List ℕ) → All (λ b. b ≢ 10) text → Lacks 10 text
lacks_of text h = recursion_from_All (λ b. b ≢ 10) text h

-- a line that is faulty before the last line
form_wrong : (h : Finished) (count k : ℕ) (behind : List ℕ) (l : Placed) → k < 2 ^ 64 → IsValue h → Left h l.before count k behind
    → All (λ b. b ≢ 10) l.text → StandsFirst l behind → (l.closed ≡ false) ⊎ ((IsEntryText l.before l.text → ⊥) × ((n : ℕ) → IsEndText n l.text → ⊥)) → ⊥
form_wrong h count k behind l few v w all (inr s) c = no_open h w.rest k l.text (lacks_of l.text all) (sym s.2 ∙ w.text)
form_wrong h count k behind l few v w all (inl s) (inl c) = true≢false (sym s.1 ∙ c)
form_wrong h count k behind l few v w all (inl s) (inr c) = elim (next_line h l.before count k behind l.text s.0 v w (lacks_of l.text all) s.2).is [
  | inl t ↦ c.0 t
  | inr t ↦ c.1 k (few, t.0)
]

ending_wrong : (h : Finished) (count k : ℕ) (behind : List ℕ) (l : Placed) → k ≡ count → IsValue h → Left h l.before count k behind
    → All (λ b. b ≢ 10) l.text → StandsFirst l behind → ((l.closed ≡ true) × ((n : ℕ) × IsEndText n l.text × (n ≢ l.before))) → ⊥
ending_wrong h count k behind l same v w all (inr s) c = true≢false (sym c.0 ∙ s.0)
ending_wrong h count k behind l same v w all (inl s) c = elim (next_line h l.before count k behind l.text s.0 v w (lacks_of l.text all) s.2).is [
  | inl t ↦ both l.before c.1.0 l.text t c.1.1.1
  | inr t ↦ (let q = one_end c.1.0 k c.1.1.0 (sym c.1.1.1 ∙ t.0) in c.1.2 (q ∙ (same ∙ t.1)))
]

-- lines of a history as a whole
pub own_all : (h : Finished) → IsValue h → AreOwn h 0 h.entries
own_all h v = record { numbers = v.history.numbers; types = v.fits; fits = v.history.fits }

-- a history has fewer entries than bytes
entry_counts : (h : Finished) (es : List Entry) → length es ≤ length (entries_text h es)
entry_counts h [] = omega arith
entry_counts h (x ∷ es) =
    let i = entry_counts h es in
    let a = length-append (entry_text h x) (entries_text h es) in
    let b = ap length (entry-line h x) in
    let c = length-append (line_of h x) (10 ∷ []) in
    omega (arith, i, a, b, c)

few_entries : (h : Finished) (bytes : List ℕ) → length bytes < 4294967295 → bytes ≡ report h → length h.entries < 2 ^ 64
few_entries h bytes l e =
    let a = ap length e in
    let b = length-append (entries_text h h.entries) (end_text (length h.entries)) in
    let c = entry_counts h h.entries in
    omega (arith, l, a, b, c)

-- an entry's line has at least its newline
some_text : (h : Finished) (es : List Entry) (k : ℕ) → [] ≡ entries_text h es ++ end_text k → ⊥
some_text h es k e =
    let a = ap length e in
    let b = length-append (entries_text h es) (end_text k) in
    omega (arith, a, b)

-- behind the last line nothing stands
none_behind : (h : Finished) (n count k a : ℕ) (behind more : List ℕ) → Left h n count k behind → behind ≡ end_text a ++ more → more ≡ []
none_behind h n count k a behind more w e = by w.rest w.text
  where
    by : (es : List Entry) → behind ≡ entries_text h es ++ end_text k → more ≡ []
    by (x ∷ es) t = absurd (no-entry h x es (end_text k) _ (sym t ∙ e))
    by [] t =
        let split : (codes "end " ++ decimal a) ++ (10 ∷ more) ≡ end_text k = sym (ap (λ z. z ++ more) (end_split a) ∙ append_assoc (codes "end " ++ decimal a) (10 ∷ []) more) ∙ (sym e ∙ t) in
        (first_end k (codes "end " ++ decimal a) more (end_lacks a) split).1

some_first : (l : Placed) (behind : List ℕ) → StandsFirst l behind → behind ≡ [] → ⊥
some_first l behind (inl s) e = (let a = ap length (sym e ∙ s.2) in let b = length-append l.text (10 ∷ s.0) in omega (arith, a, b))
some_first l behind (inr s) e = (let a = ap length (sym s.2 ∙ e) in let b = s.1 in omega (arith, a, b))

-- the faulty line where it stands
record Whole (h : Finished) (texts : List (List ℕ)) (behind : List ℕ) : Type 0 where
  left : Left h (length texts) (length h.entries) (length h.entries) behind

whole : (h : Finished) (bytes : List ℕ) (texts : List (List ℕ)) (behind : List ℕ) → IsValue h → bytes ≡ report h → AreEntryLines 0 texts → bytes ≡ closed_lines texts ++ behind → Whole h texts behind
whole h bytes texts behind v e l c =
    let w = peel h (length h.entries) h.entries 0 texts behind (own_all h v) l (sym c ∙ e) in
    let n : 0 + length texts ≡ length texts = omega arith in
    record { left = record { rest = w.rest; own = subst (λ i. AreOwn h i w.rest) n w.own; text = w.text; size = (let s = w.size in omega (arith, s)) } }

here_wrong : (h : Finished) (texts : List (List ℕ)) (behind : List ℕ) (fault : ReportFault) → length h.entries < 2 ^ 64 → IsValue h
    → Left h (length texts) (length h.entries) (length h.entries) behind → IsFaultHere (length texts) false behind fault → ⊥
here_wrong h texts behind fault few v w f = by fault.cause f.has
  where
    k : ℕ
    k = length h.entries

    w' : Left h f.here.before k k behind
    w' = subst (λ i. Left h i k k behind) (sym f.count) w

    by : (c : ReportCause) → Has f.here c → ⊥
    by cause.Form c = form_wrong h k k behind f.here few v w' f.whole f.stands c.1
    by cause.Ending (inl c) = true≢false (sym c ∙ f.last)
    by cause.Ending (inr c) = ending_wrong h k k behind f.here refl v w' f.whole f.stands c

pub no_report : (bytes : List ℕ) (fault : ReportFault) → length bytes < 4294967295 → IsReportFault bytes fault → IsNoReport bytes
no_report bytes fault few (inl f) h v e = by f.ended f.cut f.found
  where
    by : (b : Bool) → bytes ≡ front f.texts b ++ f.behind → IsFaultHere (front_count f.texts b) b f.behind fault → ⊥
    by false c g = here_wrong h f.texts f.behind fault (few_entries h bytes few e) v (whole h bytes f.texts f.behind v e f.lines c).left g
    by true c g =
        let cut : bytes ≡ closed_lines f.texts ++ (end_text (length f.texts) ++ f.behind) = c ∙ append_assoc (closed_lines f.texts) (end_text (length f.texts)) f.behind in
        let w = whole h bytes f.texts (end_text (length f.texts) ++ f.behind) v e f.lines cut in
        some_first g.here f.behind g.stands (none_behind h (length f.texts) (length h.entries) (length h.entries) (length f.texts) (end_text (length f.texts) ++ f.behind) f.behind w.left refl)
no_report bytes fault few (inr f) h v e =
    let w = whole h bytes f.texts [] v e f.lines (f.all ∙ sym (append-nil (closed_lines f.texts))) in
    some_text h w.left.rest (length h.entries) w.left.text
