-- Two linked histories with one text are one. Line by line, the text gives the caller and the line, and the event's
-- words; these and the state give the event; of a refusal the reply's words give its phase, and of a read that is set
-- aside what it answers. Then the entry and what is told plainly of it are one.
use Rattle.std.proofs.Common.{◌≡◌, ℕ, suc, ◌<◌, ◌≤◌, ◌^◌, ◌⊎◌, inl, inr, Bool, true, false, List, [], ◌∷◌, ◌++◌, get_or, codes, decimal, length, ◌+◌, refl, sym, ◌∙◌, ap, subst, arith, lit≤}
use Rattle.std.proofs.Common.{true≢false}
use Rattle.std.proofs.lemmas.List.{append_cancel_left, length-map}
use Rattle.joint_machine.specs.declared.names.Phase.{Phase}
use Rattle.joint_machine.specs.declared.names.Phase.TheVariants as at
use Rattle.joint_machine.specs.declared.names.PhaseWord.TheVariants as word
use Rattle.joint_machine.specs.declared.names.Thread.{Thread}
use Rattle.joint_machine.specs.declared.names.Thread.TheVariants.{C}
use Rattle.joint_machine.specs.declared.lines.Act.TheVariants as act
use Rattle.joint_machine.specs.declared.events.Op.{Op}
use Rattle.joint_machine.specs.declared.events.Op.TheVariants as op
use Rattle.joint_machine.specs.declared.events.Reply.{Reply}
use Rattle.joint_machine.specs.declared.events.Reply.TheVariants as says
use Rattle.joint_machine.specs.declared.events.Entry.{Entry}
use Rattle.joint_machine.specs.Histories.{Finished, NumberedFrom}
use Rattle.joint_machine.specs.Lines.{IsEvent, is_read}
use Rattle.joint_machine.specs.Linked.{Linkage, opening_linkage}
use Rattle.joint_machine.specs.LinkedHistories.{IsLinked, managed_end}
use Rattle.joint_machine.specs.Readers.{ReadsCell, entry_after, replayed_reading}
use Rattle.joint_machine.specs.Run.{thread_number}
use Rattle.joint_machine.specs.Told.{Noted}
use Rattle.byte_streams.specs.Spaced.{after_spaces}
use Rattle.history_report.specs.Report.{event_words, reply_words, entries_text, end_text}
use Rattle.text_words.proofs.Cutting.{cut-first, words-one}
use Rattle.script_laws.proofs.Reading.{is_word}
use Rattle.script_laws.specs.Laws.{HasOneText}
use Rattle.script_laws.proofs.OneNote.{Agree, Allowed, caller-cites, one-note}
use Rattle.known_laws.specs.PastEntries.{entries}
use Rattle.known_laws.proofs.Retelling.{PlainComes, noting}
use Rattle.script_laws.proofs.Sharing.{comes-of}
use Rattle.script_laws.proofs.Finishing.{ends-tell}
use Rattle.history_report.proofs.TextLines.{rest_words, whole_words, line_of, line-first, words-lack, line-whole, no-entry, place-one, words-tell}
use Rattle.script_laws.proofs.Events.{words-same}
use Rattle.script_laws.proofs.ReadTelling.{Answered, ReadComes, PlainEntry, AllPlainEntries, ToldPlainly, told_plainly}
use Rattle.script_laws.proofs.ReadWords.{answers-one}
use Rattle.joint_laws.proofs.CycleNumbers.{snap-few}
use Rattle.std.specs.Prelude.{if◌then◌else◌}
use Rattle.known_laws.proofs.Lists.{event-thread}

-- the phase in a reply
abbrev phase_in : List (List ℕ) → Phase
phase_in ws = let w = get_or ws 1 [] in if is_word w (codes "idle") then at.Idle
    else (if is_word w (codes "snapped") then at.Snapped
    else (if is_word w (codes "contracted") then at.Contracted
    else (if is_word w (codes "mirrored") then at.Mirrored
    else (if is_word w (codes "weakened") then at.Weakened
    else (if is_word w (codes "marked") then at.Marked
    else (if is_word w (codes "swept") then at.Swept else at.Restored))))))

phase-read : (p : Phase) (ws : List (List ℕ)) → phase_in (reply_words (says.At p) ++ ws) ≡ p
phase-read at.Idle ws = refl
phase-read at.Snapped ws = refl
phase-read at.Contracted ws = refl
phase-read at.Mirrored ws = refl
phase-read at.Weakened ws = refl
phase-read at.Marked ws = refl
phase-read at.Swept ws = refl
phase-read at.Restored ws = refl

names-one : (r r' : Reply) (vs ws : List (List ℕ)) → reply_words r ++ vs ≡ reply_words r' ++ ws → (p q : Phase) → r ≡ says.At p → r' ≡ says.At q → p ≡ q
names-one r r' vs ws e p q a b = sym (phase-read p vs) ∙ (ap (λ (z : Reply). phase_in (reply_words z ++ vs)) (sym a)
    ∙ (ap phase_in e ∙ (ap (λ (z : Reply). phase_in (reply_words z ++ ws)) b ∙ phase-read q ws)))

agreeing : (o : Op) (r r' : Reply) → ((p q : Phase) → r ≡ says.At p → r' ≡ says.At q → p ≡ q) → Agree o r r'
agreeing (op.Refused word.Cycle) r r' f = tt
agreeing (op.Refused word.Snap) r r' f = tt
agreeing (op.Refused word.Contract) r r' f = f
agreeing (op.Refused word.Mirror) r r' f = f
agreeing (op.Refused word.Weaken) r r' f = f
agreeing (op.Refused word.Mark) r r' f = f
agreeing (op.Refused word.Sweep) r r' f = f
agreeing (op.Refused word.Restore) r r' f = f
agreeing (op.Refused word.Resolve) r r' f = f
agreeing o r r' f = tt

-- two entries that may come in one state, and have the same number and line of text
line-one : (h h' : Finished) (s : Linkage) (n n' : Noted) → n.entry.number ≡ n'.entry.number → PlainComes s n → PlainComes s n' → line_of h n.entry ≡ line_of h' n'.entry → n ≡ n'
line-one h h' s n n' number a b q =
    let e = n.entry in
    let e' = n'.entry in
    let texts : after_spaces (whole_words h e) ≡ after_spaces (whole_words h' e') =
    append_cancel_left (decimal e'.number) (after_spaces (whole_words h e)) (after_spaces (whole_words h' e')) (ap (λ k. decimal k ++ after_spaces (whole_words h e)) (sym number) ∙ q) in
    let words = words-one (whole_words h e) (whole_words h' e') (words-lack 32 (lit≤ tt) h e) (words-lack 32 (lit≤ tt) h' e') texts in
    let tell = words-tell h h' e e' words in
    let place = place-one e.made.caller e'.made.caller e.made.index e'.made.index (event-thread e.made.caller e.made.op a.0.event) (let l = a.0.short in omega (arith, l)) tell.0 in
    let t = e.made.caller in
    let event' = subst (λ (z : Thread). IsEvent z e'.made.op) (sym place.0) b.0.event in
    let allowed' = subst (λ (z : Thread). Allowed s z e'.made.index e'.made.op e'.made.reply e'.made.cites n'.told) (sym place.0) b.0.order in
    let events = tell.1 ∙ ap (λ (z : Thread). event_words z e'.made.op) (sym place.0) in
    let event = words-same t s e.made.index e'.made.index e.made.op e'.made.op e.made.reply e'.made.reply e.made.cites e'.made.cites n.told n'.told a.0.event event' events a.0.order allowed'
    (λ d. (comes-of s n e refl d a, comes-of s n' e' refl (sym place.0 ∙ d) b)) in
    one-note s n n' number place.0 place.1 event (agreeing e.made.op e.made.reply e'.made.reply (names-one e.made.reply e'.made.reply (rest_words h e) (rest_words h' e') tell.2)) a b

-- a read isn't the driver's
read-not-driver : (t : Thread) (o : Op) → is_read o ≡ true → IsEvent t o → t ≡ C → ⊥
read-not-driver t o r e d = by o r (subst (λ (z : Thread). IsEvent z o) d e)
  where
    by : (o : Op) → is_read o ≡ true → IsEvent C o → ⊥
    by (op.Line (act.Read k)) r e = e.0
    by (op.Line (act.Await k)) r e = e.0
    by (op.Line a) r e = absurd (let f : false ≡ true = r in cc)
    by o r e = absurd (let f : false ≡ true = r in cc)

-- a read reads a cell
cell-of : (o : Op) → is_read o ≡ true → (k : ℕ) × ReadsCell o k
cell-of (op.Line (act.Read k)) e = (k.0, refl)
cell-of (op.Line (act.Await k)) e = (k.0, refl)
cell-of (op.Line a) e = absurd (let f : false ≡ true = e in cc)
cell-of _ e = absurd (let f : false ≡ true = e in cc)

-- two entries that may come in one state, by their callers, with the same line of text: of one place, and one event
-- where one is a read
record InTurn (s : Linkage) (n : Noted) : Type 0 where
  event : IsEvent n.entry.made.caller n.entry.made.op
  short : n.entry.made.index < 2 ^ 32
  order : Allowed s n.entry.made.caller n.entry.made.index n.entry.made.op n.entry.made.reply n.entry.made.cites n.told

in-turn : (bound : ℕ) (b : Bool) (s : Linkage) (n : Noted) → PlainEntry bound b s n → InTurn s n
in-turn bound true s n w = record { event = w.may.event; short = w.may.short; order = w.may.order }
in-turn bound false s n w = record { event = w.0.event; short = w.0.short; order = w.0.order }

record IsOneEvent (h h' : Finished) (n n' : Noted) : Type 0 where
  caller : n.entry.made.caller ≡ n'.entry.made.caller
  index : n.entry.made.index ≡ n'.entry.made.index
  event : n.entry.made.op ≡ n'.entry.made.op
  words : reply_words n.entry.made.reply ++ rest_words h n.entry ≡ reply_words n'.entry.made.reply ++ rest_words h' n'.entry

one-event : (h h' : Finished) (s : Linkage) (n n' : Noted) → n.entry.number ≡ n'.entry.number → InTurn s n → InTurn s n'
    → (is_read n.entry.made.op ≡ true) ⊎ (is_read n'.entry.made.op ≡ true) → line_of h n.entry ≡ line_of h' n'.entry → IsOneEvent h h' n n'
one-event h h' s n n' number a b r q =
    let e = n.entry in
    let e' = n'.entry in
    let texts : after_spaces (whole_words h e) ≡ after_spaces (whole_words h' e') =
    append_cancel_left (decimal e'.number) (after_spaces (whole_words h e)) (after_spaces (whole_words h' e')) (ap (λ k. decimal k ++ after_spaces (whole_words h e)) (sym number) ∙ q) in
    let words = words-one (whole_words h e) (whole_words h' e') (words-lack 32 (lit≤ tt) h e) (words-lack 32 (lit≤ tt) h' e') texts in
    let tell = words-tell h h' e e' words in
    let place = place-one e.made.caller e'.made.caller e.made.index e'.made.index (event-thread e.made.caller e.made.op a.event) (let l = a.short in omega (arith, l)) tell.0 in
    let t = e.made.caller in
    let event' = subst (λ (z : Thread). IsEvent z e'.made.op) (sym place.0) b.event in
    let allowed' = subst (λ (z : Thread). Allowed s z e'.made.index e'.made.op e'.made.reply e'.made.cites n'.told) (sym place.0) b.order in
    let events = tell.1 ∙ ap (λ (z : Thread). event_words z e'.made.op) (sym place.0) in
    record {
      caller = place.0;
      index = place.1;
      event = words-same t s e.made.index e'.made.index e.made.op e'.made.op e.made.reply e'.made.reply e.made.cites e'.made.cites n.told n'.told a.event event' events a.order allowed'
          (λ d. absurd (elim r [ inl z ↦ read-not-driver t e.made.op z a.event d | inr z ↦ read-not-driver t e'.made.op z event' d ]));
      words = tell.2;
    }

-- two reads that may come in one state, of one line
read-one : (h h' : Finished) (b b' : ℕ) (s : Linkage) (n n' : Noted) → b' ≤ 2 ^ 64 → n.entry.number ≡ n'.entry.number
    → is_read n.entry.made.op ≡ true → ReadComes b s n → ReadComes b' s n' → IsOneEvent h h' n n' → n ≡ n'
read-one h h' b b' s n n' few number e x y w =
    let m = n.entry.made in
    let m' = n'.entry.made in
    let cell = cell-of m.op e in
    let order' = subst (λ (z : Thread). Allowed s z m'.index m'.op m'.reply m'.cites n'.told) (sym w.caller) y.may.order in
    let order'' = subst (λ (z : Op). Allowed s m.caller m'.index z m'.reply m'.cites n'.told) (sym w.event) order' in
    let order = subst (λ (z : ℕ). Allowed s m.caller z m.op m'.reply m'.cites n'.told) (sym w.index) order'' in
    let cites = caller-cites s m.caller m.index m.op m.reply m'.reply m.cites m'.cites n.told n'.told x.may.order order in
    let told : n.told ≡ n'.told = x.may.bare ∙ sym y.may.bare in
    let answers' = subst (λ (z : Thread). Answered b' s.managed.managed (thread_number z) cell.0 m'.reply) (sym w.caller) (y.answers cell.0 (subst (λ (z : Op). ReadsCell z cell.0) w.event cell.1)) in
    let reply = answers-one b b' s.managed.managed (thread_number m.caller) cell.0 m.reply m'.reply (rest_words h n.entry) (rest_words h' n'.entry) few (x.answers cell.0 cell.1) answers' w.words in
    λ i. noting (number i) (w.caller i) (w.index i) (w.event i) (reply i) (cites i) (told i)

-- two entries of any kind
entry-one : (h h' : Finished) (b b' : ℕ) (s : Linkage) (n n' : Noted) → b' ≤ 2 ^ 64 → n.entry.number ≡ n'.entry.number
    → PlainEntry b (is_read n.entry.made.op) s n → PlainEntry b' (is_read n'.entry.made.op) s n' → line_of h n.entry ≡ line_of h' n'.entry → n ≡ n'
entry-one h h' b b' s n n' few number x y q = by (is_read n.entry.made.op) refl (is_read n'.entry.made.op) refl x y
  where
    turn : InTurn s n
    turn = in-turn b (is_read n.entry.made.op) s n x

    turn' : InTurn s n'
    turn' = in-turn b' (is_read n'.entry.made.op) s n' y

    by : (c : Bool) → is_read n.entry.made.op ≡ c → (c' : Bool) → is_read n'.entry.made.op ≡ c' → PlainEntry b c s n → PlainEntry b' c' s n' → n ≡ n'
    by false e false e' u v = line-one h h' s n n' number u v q
    by true e true e' u v = read-one h h' b b' s n n' few number e u v (one-event h h' s n n' number turn turn' (inl e) q)
    by true e false e' u v = absurd (let w = one-event h h' s n n' number turn turn' (inl e) q in true≢false (sym e ∙ (ap is_read w.event ∙ e')))
    by false e true e' u v = absurd (let w = one-event h h' s n n' number turn turn' (inr e') q in true≢false (sym e' ∙ (sym (ap is_read w.event) ∙ e)))

texts-one : (h h' : Finished) (k k' count b b' : ℕ) (s : Linkage) (ns ns' : List Noted) → b' ≤ 2 ^ 64
    → NumberedFrom count (entries ns) → NumberedFrom count (entries ns') → AllPlainEntries b s ns → AllPlainEntries b' s ns'
    → entries_text h (entries ns) ++ end_text k ≡ entries_text h' (entries ns') ++ end_text k' → ns ≡ ns'
texts-one h h' k k' count b b' s [] [] few d d' c c' q = refl
texts-one h h' k k' count b b' s [] (n ∷ ns) few d d' c c' q = absurd (no-entry h' n.entry (entries ns) (end_text k') _ (sym q))
texts-one h h' k k' count b b' s (n ∷ ns) [] few d d' c c' q = absurd (no-entry h n.entry (entries ns) (end_text k) _ q)
texts-one h h' k k' count b b' s (n ∷ ns) (n' ∷ ns') few d d' c c' q =
    let es = entries ns in
    let es' = entries ns' in
    let lines : line_of h n.entry ++ (10 ∷ (entries_text h es ++ end_text k)) ≡ line_of h' n'.entry ++ (10 ∷ (entries_text h' es' ++ end_text k')) =
    sym (line-first h n.entry es (end_text k)) ∙ (q ∙ line-first h' n'.entry es' (end_text k')) in
    let cut = cut-first 10 (line_of h n.entry) (line_of h' n'.entry) (entries_text h es ++ end_text k) (entries_text h' es' ++ end_text k') (line-whole h n.entry) (line-whole h' n'.entry) lines in
    let one = entry-one h h' b b' s n n' few (d.0 ∙ sym d'.0) c.0 c'.0 cut.0 in
    let later = subst (λ (m : Noted). AllPlainEntries b' (entry_after s m) ns') (sym one) c'.1 in
    let rest = texts-one h h' k k' (count + 1) b b' (entry_after s n) ns ns' few d.1 d'.1 c.1 later cut.1 in
    (λ i. one i ∷ rest i)

-- a linked history told plainly
abbrev bound_of : List Noted → ℕ
bound_of ns = suc (length ns)

told-of : (h : Finished) (a : IsLinked h) → ToldPlainly (bound_of a.noted) opening_linkage opening_linkage a.noted
told-of h a = told_plainly (bound_of a.noted) a.noted (managed_end a.noted).cells
    (λ i t k p. (let l = snap-few a.noted (a.noted, (managed_end a.noted).cells, a.linked.lawful) p.snap k p.snaps in omega (arith, l)))
    opening_linkage a.noted a.linked.lawful

-- two linked histories with one text
pub one-text : HasOneText
one-text h h' a b few q =
    let k = told-of h a in
    let k' = told-of h' b in
    let e = k.same ∙ a.linked.same in
    let e' = k'.same ∙ b.linked.same in
    let count : length b.noted ≡ length h'.entries = sym (length-map b.noted (λ (n : Noted). n.entry)) ∙ ap length b.linked.same in
    let texts = ap (λ (l : List Entry). entries_text h l ++ end_text (length h.entries)) e ∙ (q ∙ ap (λ (l : List Entry). entries_text h' l ++ end_text (length h'.entries)) (sym e')) in
    let one = texts-one h h' (length h.entries) (length h'.entries) 0 (bound_of a.noted) (bound_of b.noted) opening_linkage k.notes k'.notes (omega (arith, few, count))
    (subst (NumberedFrom 0) (sym e) a.linked.numbers) (subst (NumberedFrom 0) (sym e') b.linked.numbers) k.plain k'.plain texts in
    ends-tell h h' a b
    (sym k.managed ∙ (ap (λ (l : List Noted). (replayed_reading opening_linkage l).managed) one ∙ k'.managed))
    (sym k.peer ∙ (ap (λ (l : List Noted). (replayed_reading opening_linkage l).peer) one ∙ k'.peer))
    (sym e ∙ (ap entries one ∙ e'))
