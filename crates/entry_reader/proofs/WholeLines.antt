-- The words of a line up to its reply, part by part; and the text of a line, which is cut into its words at the spaces
-- and put together of them again, since no word has a space.
use Rattle.std.proofs.Common.{◌≡◌, ◌≢◌, ℕ, ◌<◌, ◌≤◌, ◌^◌, List, [], ◌∷◌, ◌++◌, Option, Some, None, MatchOption, All, codes, decimal, refl, sym, ap, ◌∙◌, subst, arith}
use Rattle.std.specs.List.{AllByRecursion, slice_split}
use Rattle.std.proofs.Math.Dec.{eqb}
use Rattle.std.proofs.lemmas.List.Elements.{All-from_recursion, All-nil, All-cons}
use Rattle.std.proofs.lemmas.List.Splits.{join_with_byte-slice_split}
use Rattle.joint_machine.specs.declared.names.Thread.{Thread}
use Rattle.joint_machine.specs.declared.events.Op.{Op}
use Rattle.joint_machine.specs.declared.events.Reply.{Reply}
use Rattle.joint_machine.specs.declared.events.Entry.{Entry}
use Rattle.joint_machine.specs.Lines.{IsLine, IsNamed, IsThread}
use Rattle.joint_machine.specs.declared.names.Thread.TheVariants.{M, P, C}
use Rattle.joint_machine.specs.declared.lines.Act.{Act}
use Rattle.joint_machine.specs.declared.events.Op.TheVariants as op
use Rattle.text_words.specs.Words.{spaced}
use Rattle.text_words.proofs.Cuts.{split-join}
use Rattle.history_report.specs.Report.{event_words, cite_words, place_text, reply_words, list_of}
use Rattle.history_report.specs.declared.lists.Numbers.{Numbers}
use Rattle.history_report.specs.declared.lists.Numbers.TheVariants.{Freed, FreedPeers, Notices}
use Rattle.text_words.proofs.Cutting.{Lacks, every-append}
use Rattle.text_words.proofs.PlainWords.{plain-decimal, no-byte, no-bytes}
use Rattle.history_report.proofs.Plain.{plain-event, plain-reply, plain-listed, plain-cites, plain-place}
use Rattle.history_report.proofs.TextLines.{place-one}
use Rattle.joint_machine.specs.declared.names.Span.{Span}
use Rattle.entry_reader.specs.Fitting.{Short}
use Rattle.entry_reader.specs.Taking.{Takes}
use Rattle.entry_reader.specs.Events.{IsHead, IsReadable}
use Rattle.entry_reader.specs.Meaning.{Lists}
use Rattle.entry_reader.specs.Meant.{IsMeant}
use Rattle.entry_reader.specs.Saying.{IsLineOf, said, list_said, line_words}
use Rattle.entry_reader.specs.Tailing.{IsTail, ReadsEntry, ReadsTail}
use Rattle.entry_reader.proofs.EventParts.{ends, with_equals}
use Rattle.entry_reader.proofs.Parts.{one_word}

-- the words up to the reply
abbrev pub head_words : ℕ → Thread × ℕ × Op → List (List ℕ)
head_words count h = decimal count ∷ place_text h.0 h.1 ∷ ends (event_words h.0) h.2

abbrev pub IsPlace : Thread × ℕ → Type 0
IsPlace p = IsThread p.0 × Short p.1

abbrev pub places : Thread × ℕ → List (List ℕ)
places p = place_text p.0 p.1 ∷ []

pub place_taken : (old new : List (List ℕ)) (word : List ℕ) (r : Option (Thread × ℕ)) → old ≡ word ∷ new
    → MatchOption r ((t : Thread) (n : ℕ) → IsThread t → Short n → place_text t n ≢ word) (λ p. IsThread p.0 × Short p.1 × (place_text p.0 p.1 ≡ word)) → Takes IsPlace places old new r
place_taken old new word None e n = one_word IsPlace (λ (p : Thread × ℕ). place_text p.0 p.1) old new word None e (λ p g. n p.0 p.1 g.0 g.1)
place_taken old new word (Some p) e h = one_word IsPlace (λ (q : Thread × ℕ). place_text q.0 q.1) old new word (Some p) e ((h.0, h.1), h.2)

abbrev pub TakesCount : ℕ → List (List ℕ) → List (List ℕ) → Option (Unit {0}) → Type 0
TakesCount count old new r = Takes (λ (u : Unit {0}). Unit {0}) (λ u. decimal count ∷ []) old new r

pub head_uncounted : (count : ℕ) (old new : List (List ℕ)) → TakesCount count old new None → Takes IsHead (head_words count) old new None
head_uncounted count old new k = record { sound = tt; complete = λ h rest g e. absurd (k.complete tt (place_text h.0 h.1 ∷ (ends (event_words h.0) h.2 ++ rest)) tt e).0 }

pub head_unplaced : (count : ℕ) (old mid new : List (List ℕ)) → TakesCount count old mid (Some tt) → Takes IsPlace places mid new None → Takes IsHead (head_words count) old new None
head_unplaced count old mid new k p = record {
  sound = tt;
  complete = λ h rest g e. absurd (p.complete (h.0, h.1) (ends (event_words h.0) h.2 ++ rest) (g.0, g.1) (k.complete tt (place_text h.0 h.1 ∷ (ends (event_words h.0) h.2 ++ rest)) tt e).1).0;
}

-- the thread of any head is the one that was taken
thread_taken : (count : ℕ) (old mid left : List (List ℕ)) (q : Thread × ℕ) → TakesCount count old mid (Some tt) → Takes IsPlace places mid left (Some q)
    → (h : Thread × ℕ × Op) (rest : List (List ℕ)) → IsHead h → old ≡ head_words count h ++ rest → IsReadable q.0 h.2 × (left ≡ ends (event_words q.0) h.2 ++ rest)
thread_taken count old mid left q k p h rest g e =
    let m = (k.complete tt (place_text h.0 h.1 ∷ (ends (event_words h.0) h.2 ++ rest)) tt e).1 in
    let s = p.sound.1 in
    let text : place_text q.0 q.1 ≡ place_text h.0 h.1 = cc in
    let line : q.1 < 2 ^ 64 = (let b = p.sound.0.1 in omega (arith, b)) in
    let same = (place-one q.0 h.0 q.1 h.1 p.sound.0.0 line text).0 in
    let left_is : left ≡ ends (event_words h.0) h.2 ++ rest = (p.complete (h.0, h.1) (ends (event_words h.0) h.2 ++ rest) (g.0, g.1) m).1 in
    let F : Thread → Type 0 = λ t. IsReadable t h.2 × (left ≡ ends (event_words t) h.2 ++ rest) in
    subst F (sym same) (g.2, left_is)

pub head_eventless : (count : ℕ) (old mid left new : List (List ℕ)) (q : Thread × ℕ) → TakesCount count old mid (Some tt)
    → Takes IsPlace places mid left (Some q) → Takes (IsReadable q.0) (ends (event_words q.0)) left new None → Takes IsHead (head_words count) old new None
head_eventless count old mid left new q k p v = record { sound = tt; complete = λ h rest g e. absurd (let t = thread_taken count old mid left q k p h rest g e in (v.complete h.2 rest t.0 t.1).0) }

pub head_taken : (count : ℕ) (old mid left new : List (List ℕ)) (q : Thread × ℕ) (o : Op) → TakesCount count old mid (Some tt) → Takes IsPlace places mid left (Some q)
    → Takes (IsReadable q.0) (ends (event_words q.0)) left new (Some o) → Takes IsHead (head_words count) old new (Some (q.0, q.1, o))
head_taken count old mid left new q o k p v = record {
  sound = ((p.sound.0.0, p.sound.0.1, v.sound.0), k.sound.1 ∙ ap (λ z. decimal count ∷ z) (p.sound.1 ∙ ap (λ z. place_text q.0 q.1 ∷ z) v.sound.1));
  complete = λ h rest g e. (let t = thread_taken count old mid left q k p h rest g e in (tt, (v.complete h.2 rest t.0 t.1).1));
}

-- no word of a line has a space, or a lower byte
list_lacks : (b : ℕ) → b ≤ 32 → (l : Option (Numbers × Span)) (ns : List ℕ) → AllByRecursion (Lacks b) (list_said l ns)
list_lacks b k None ns = tt
list_lacks b k (Some (Freed, s)) ns = no-bytes b k _ (plain-listed 109 ns refl)
list_lacks b k (Some (FreedPeers, s)) ns = no-bytes b k _ (plain-listed 112 ns refl)
list_lacks b k (Some (Notices, s)) ns = no-bytes b k _ (plain-listed 109 ns refl)

pub words_lack : (b : ℕ) → b ≤ 32 → (e : Entry) (ns : List ℕ) → AllByRecursion (Lacks b) (line_words e ns)
words_lack b l e ns =
    let Q = Lacks b in
    let event = event_words e.made.caller e.made.op in
    let cites = no-bytes b l (cite_words e.made.cites) (plain-cites e.made.cites) in
    let reply = no-bytes b l (reply_words e.made.reply) (plain-reply e.made.reply) in
    let tail = every-append Q (said e.made.reply ns) (cite_words e.made.cites)
    (every-append Q (reply_words e.made.reply) (list_said (list_of e.made.reply) ns) reply (list_lacks b l (list_of e.made.reply) ns)) cites in
    let equals : Lacks b (codes "=") = (λ q. omega (arith, l, q), tt) in
    let behind = every-append Q event (codes "=" ∷ (said e.made.reply ns ++ cite_words e.made.cites)) (no-bytes b l event (plain-event e.made.caller e.made.op)) (equals, tail) in
    (no-byte b l (decimal e.number) (plain-decimal e.number), (no-byte b l (place_text e.made.caller e.made.index) (plain-place e.made.caller e.made.index), behind))

-- a word without a space, as a fact of its places
pub all_lack : (ws : List (List ℕ)) → AllByRecursion (Lacks 32) ws → All (All (λ b. b ≢ 32)) ws
all_lack [] h = All-nil (All (λ b. b ≢ 32))
all_lack (w ∷ ws) h = All-cons (All (λ b. b ≢ 32)) w ws (All-from_recursion (λ b. b ≢ 32) w h.0) (all_lack ws h.1)

-- so a line is cut into its words
pub line_cut : (text : List ℕ) (e : Entry) (ns : List ℕ) → text ≡ spaced (line_words e ns) → slice_split (λ b. eqb b 32) text ≡ line_words e ns
line_cut text e ns h = ap (slice_split (λ b. eqb b 32)) h ∙ split-join 32 (line_words e ns) (omega arith) (all_lack (line_words e ns) (words_lack 32 (omega arith) e ns))

pub line_joined : (text : List ℕ) (ws : List (List ℕ)) → slice_split (λ b. eqb b 32) text ≡ ws → text ≡ spaced ws
line_joined text ws h = sym (join_with_byte-slice_split 32 text) ∙ ap spaced h

-- a line's words, cut at the spaces
abbrev pub cut : List ℕ → List (List ℕ)
cut text = slice_split (λ b. eqb b 32) text

line_thread : (t : Thread) (a : Act) → IsLine t a → IsThread t
line_thread (M n) a l = l.0
line_thread (P n) a l = l.0
line_thread C a l = tt

named_thread : (t : Thread) (o : Op) → IsNamed t o → IsThread t
named_thread t (op.Line a) l = line_thread t a l.0
named_thread t (op.Make s n) l = l.0
named_thread t (op.Adopt v k n p h) l = l.0
named_thread t (op.Lend v x) l = l.0
named_thread t (op.Land h x) l = l.0
named_thread t (op.Grip x) l = l.0
named_thread t (op.Meet v s n p h) l = l.0
named_thread t (op.Give v) l = l.0
named_thread t o l = l

-- the parts of an entry before its reply, and the words behind these
abbrev pub head_of : Entry → Thread × ℕ × Op
head_of e = (e.made.caller, e.made.index, e.made.op)

abbrev pub tail_of : Entry → List ℕ → List (List ℕ)
tail_of e ns = said e.made.reply ns ++ cite_words e.made.cites

pub line_head : (text : List ℕ) (number : ℕ) (e : Entry) (ns : List ℕ) → e.number ≡ number → IsLineOf text e ns → IsHead (head_of e) × (cut text ≡ head_words number (head_of e) ++ tail_of e ns)
line_head text number e ns q l =
    let place = place_text e.made.caller e.made.index in
    let event = event_words e.made.caller e.made.op in
    let whole : cut text ≡ decimal e.number ∷ place ∷ (event ++ (codes "=" ∷ tail_of e ns)) = line_cut text e ns l.same in
    let words : cut text ≡ decimal number ∷ place ∷ (ends (event_words e.made.caller) e.made.op ++ tail_of e ns) =
    whole ∙ (ap (λ n. decimal n ∷ place ∷ (event ++ (codes "=" ∷ tail_of e ns))) q ∙ ap (λ z. decimal number ∷ place ∷ z) (sym (with_equals event (tail_of e ns)))) in
    ((named_thread e.made.caller e.made.op l.event, l.fits.line, (l.event, l.fits.event)), words)

-- no entry has the line, where its head wasn't read, or its tail
pub none_by_head : (text : List ℕ) (number : ℕ) (new : List (List ℕ)) → Takes IsHead (head_words number) (cut text) new None → (e : Entry) (ns : List ℕ) → e.number ≡ number → IsLineOf text e ns → ⊥
none_by_head text number new k e ns q l = (let h = line_head text number e ns q l in (k.complete (head_of e) (tail_of e ns) h.0 h.1).0)

pub none_by_tail : (text : List ℕ) (number : ℕ) (new : List (List ℕ)) (x : Thread × ℕ × Op) → Takes IsHead (head_words number) (cut text) new (Some x)
    → ((r : Reply) (ns : List ℕ) (c : Option ℕ) → IsTail new r ns c → ⊥) → (e : Entry) (ns : List ℕ) → e.number ≡ number → IsLineOf text e ns → ⊥
none_by_tail text number new x k n e ns q l =
    let h = line_head text number e ns q l in
    n e.made.reply ns e.made.cites record { fits = l.fits.reply; shown = l.shown; cites = l.fits.cites; same = (k.complete (head_of e) (tail_of e ns) h.0 h.1).1 }

-- an entry has it
pub entry_by : (text : List ℕ) (number : ℕ) (new : List (List ℕ)) (t : Thread) (i : ℕ) (o : Op) (r : Reply) (c : Option ℕ) (before after : Lists)
    → number < 2 ^ 64 → Takes IsHead (head_words number) (cut text) new (Some (t, i, o)) → ReadsTail (IsMeant o) new before after (r, c)
    → ReadsEntry text number before after record { number = number; made = record { caller = t; index = i; op = o; reply = r; cites = c } }
entry_by text number new t i o r c before after few k w =
    let h = k.sound.0 in
    let tail = w.tail in
    let words : cut text ≡ decimal number ∷ place_text t i ∷ (event_words t o ++ (codes "=" ∷ (said r w.numbers ++ cite_words c))) =
    k.sound.1 ∙ ap (λ z. decimal number ∷ place_text t i ∷ z) (with_equals (event_words t o) new ∙ ap (λ z. event_words t o ++ (codes "=" ∷ z)) tail.same) in
    record {
      numbers = w.numbers;
      line = record {
        fits = record { number = few; line = h.1; event = h.2.1; reply = tail.fits; cites = tail.cites };
        event = h.2.0;
        shown = tail.shown;
        same = line_joined text (decimal number ∷ place_text t i ∷ (event_words t o ++ (codes "=" ∷ (said r w.numbers ++ cite_words c)))) words;
      };
      same = refl;
      meant = w.of_kind;
      begins = w.begins;
      grows = w.grows;
    }
