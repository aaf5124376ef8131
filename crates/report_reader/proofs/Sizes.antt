-- A list has no more numbers than its text has bytes, and there are no more entries: each word has a space before it.
use Rattle.std.proofs.Common.{ℕ, ◌+◌, ◌≤◌, List, [], ◌∷◌, ◌++◌, length, codes, decimal, ap, arith, length-append}
use Rattle.std.proofs.lemmas.List.{length-map}
use Rattle.joint_machine.specs.declared.events.Reply.{Reply}
use Rattle.joint_machine.specs.declared.events.Reply.TheVariants as reply
use Rattle.joint_machine.specs.declared.events.Entry.{Entry}
use Rattle.joint_machine.specs.Histories.{Finished}
use Rattle.byte_streams.specs.Spaced.{after_spaces}
use Rattle.text_words.specs.Words.{spaced}
use Rattle.bridge_script.proofs.Printed.{spaced_after}
use Rattle.history_report.specs.Lists.{listed}
use Rattle.history_report.specs.Report.{event_words, reply_words, list_of, cite_words, place_text}
use Rattle.entry_reader.specs.Meaning.{Lists, grown, as_managed, as_peers}
use Rattle.entry_reader.specs.Saying.{list_said, line_words}
use Rattle.entry_reader.proofs.ListParts.{length_managed, length_peers}
use Rattle.report_reader.specs.Steps.{ReadsLines, no_lists}
use Rattle.report_reader.proofs.Texts.{named_in}
use Rattle.report_reader.proofs.Canonical.{Few}

-- the numbers of three lists
abbrev pub size : Lists → ℕ
size l = length l.managed + length l.peers + length l.notices

words_within : (ws : List (List ℕ)) → length ws ≤ length (after_spaces ws)
words_within [] = omega arith
words_within (w ∷ ws) = (let h = words_within ws in let a = length-append w (after_spaces ws) in omega (arith, h, a))

pub listed_within : (letter : ℕ) (ns : List ℕ) → length ns ≤ length (listed letter ns)
listed_within letter [] = omega arith
listed_within letter (n ∷ ns) = (let h = length-map (n ∷ ns) (λ (k : ℕ). letter ∷ decimal k) in omega (arith, h))

-- the words of a list stand in the line
pub list_within : (e : Entry) (ns : List ℕ) → length (list_said (list_of e.made.reply) ns) ≤ length (spaced (line_words e ns))
list_within e ns =
    let d = decimal e.number in
    let v = event_words e.made.caller e.made.op in
    let r = reply_words e.made.reply in
    let l = list_said (list_of e.made.reply) ns in
    let c = cite_words e.made.cites in
    let tail = place_text e.made.caller e.made.index ∷ (v ++ (codes "=" ∷ ((r ++ l) ++ c))) in
    let whole = ap length (spaced_after d tail) in
    let a = length-append d (after_spaces tail) in
    let b = words_within tail in
    let f = length-append v (codes "=" ∷ ((r ++ l) ++ c)) in
    let g = length-append (r ++ l) c in
    let k = length-append r l in
    omega (arith, whole, a, b, f, g, k)

-- so the lists grow by no more than the line has bytes
pub grown_within : (l : Lists) (r : Reply) (ns : List ℕ) → size (grown l r ns) ≤ size l + length (list_said (list_of r) ns)
grown_within l (reply.Snapped n s) ns = (let a = length-append l.managed (as_managed ns) in let b = length_managed ns in let c = listed_within 109 ns in omega (arith, a, b, c))
grown_within l (reply.Freed s) ns = (let a = length-append l.managed (as_managed ns) in let b = length_managed ns in let c = listed_within 109 ns in omega (arith, a, b, c))
grown_within l (reply.Swept j s) ns = (let a = length-append l.peers (as_peers ns) in let b = length_peers ns in let c = listed_within 112 ns in omega (arith, a, b, c))
grown_within l (reply.Took s) ns = (let a = length-append l.notices (as_managed ns) in let b = length_managed ns in let c = listed_within 109 ns in omega (arith, a, b, c))
grown_within l r ns = omega arith

pub lines_within : (n : ℕ) (l : Lists) (es : List Entry) (text : List ℕ) (m : Lists) → ReadsLines n l es text m → size m ≤ size l + length text
lines_within n l [] text m r = (let e = ap size r.1 in omega (arith, e))
lines_within n l (x ∷ es) text m r =
    let w = r.4 in
    let h = lines_within (n + 1) r.2 es r.1 m r.5 in
    let mid = ap size w.grows in
    let a = grown_within l x.made.reply w.numbers in
    let b = list_within x w.numbers in
    let line = ap length w.line.same in
    let cut = ap length r.3 in
    let c = length-append r.0 (10 ∷ r.1) in
    omega (arith, h, mid, a, b, line, cut, c)

pub few_by : (es : List Entry) (text : List ℕ) (m : Lists) → ReadsLines 0 no_lists es text m → length text ≤ 4294967295 → Few m
few_by es text m r l =
    let h = lines_within 0 no_lists es text m r in
    record { managed = omega (arith, h, l); peers = omega (arith, h, l); notices = omega (arith, h, l) }

pub entries_within : (n : ℕ) (l : Lists) (es : List Entry) (text : List ℕ) (m : Lists) → ReadsLines n l es text m → length es ≤ length text
entries_within n l [] text m r = omega arith
entries_within n l (x ∷ es) text m r =
    let h = entries_within (n + 1) r.2 es r.1 m r.5 in
    let cut = ap length r.3 in
    let c = length-append r.0 (10 ∷ r.1) in
    omega (arith, h, cut, c)

-- a list has no more numbers than words
pub numbers_within : (h : Finished) (r : Reply) → length (named_in h r) ≤ length (list_said (list_of r) (named_in h r))
numbers_within h (reply.Snapped n s) = listed_within 109 (named_in h (reply.Snapped n s))
numbers_within h (reply.Freed s) = listed_within 109 (named_in h (reply.Freed s))
numbers_within h (reply.Swept j s) = listed_within 112 (named_in h (reply.Swept j s))
numbers_within h (reply.Took s) = listed_within 109 (named_in h (reply.Took s))
numbers_within h r = omega arith
