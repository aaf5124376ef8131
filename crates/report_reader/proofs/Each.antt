-- The report of each history is read: line by line as the reply that is meant by the event, whose list stands behind
-- those before it. There are fewer numbers than bytes, so each place fits a span.
use Rattle.std.proofs.Common.{◌≡◌, ◌≢◌, ℕ, ◌+◌, ◌<◌, ◌^◌, Bool, true, false, ◌⊎◌, inl, inr, List, [], ◌∷◌, ◌++◌, length, codes, decimal, refl, sym, ap, ◌∙◌, arith, append_assoc, length-append}
use Rattle.std.proofs.Common.{true≢false}
use Rattle.std.proofs.lemmas.List.Elements.{All-cons, All-nil, All-head}
use Rattle.joint_machine.specs.declared.names.MNum.{MNum}
use Rattle.joint_machine.specs.declared.names.Marking.{Marking}
use Rattle.joint_machine.specs.declared.names.Span.{Span}
use Rattle.joint_machine.specs.declared.lines.Act.TheVariants as act
use Rattle.joint_machine.specs.declared.events.Op.{Op}
use Rattle.joint_machine.specs.declared.events.Op.TheVariants as op
use Rattle.joint_machine.specs.declared.events.Reply.{Reply}
use Rattle.joint_machine.specs.declared.events.Reply.TheVariants as reply
use Rattle.joint_machine.specs.declared.events.Entry.{Entry}
use Rattle.joint_machine.specs.Histories.{Finished}
use Rattle.text_words.specs.Words.{spaced}
use Rattle.history_report.specs.Report.{entries_text, end_text, event_words, cite_words, place_text}
use Rattle.entry_reader.specs.Fitting.{Short, FitsReply}
use Rattle.entry_reader.specs.Meaning.{Lists, BeginsAt, grown}
use Rattle.entry_reader.specs.Meant.{IsMeant, IsNot}
use Rattle.entry_reader.specs.Saying.{IsShown, said, line_words}
use Rattle.report_reader.specs.Reading.{IsValue}
use Rattle.report_reader.specs.Laws.{IsReading, AreAlike, EachIsReadBack}
use Rattle.report_reader.specs.Steps.{ReadsLines, history_of, no_lists}
use Rattle.report_reader.proofs.Texts.{named_in, entry_spaced}
use Rattle.report_reader.proofs.Canonical.{canonical_of}
use Rattle.report_reader.proofs.Sizes.{size, list_within, numbers_within, grown_within, few_by}
use Rattle.report_reader.proofs.Judging.{AreOwn, own_all, own_head, own_line, own_tail}
use Rattle.report_reader.proofs.Once.{takes, sweeps}

-- which reply is meant, by the event
means_one : (o : Op) (m : MNum) → takes o ≡ false → IsMeant o (reply.M m)
means_one (op.Line (act.Finalise n)) m e = absurd (true≢false e)
means_one op.Sweep m e = tt
means_one o m e = tt

means_took : (o : Op) (s : Span) → (takes o ≡ true) ⊎ IsNot 1 s → IsMeant o (reply.Took s)
means_took (op.Line (act.Finalise n)) s h = tt
means_took op.Sweep s (inl e) = absurd (true≢false (sym e))
means_took op.Sweep s (inr h) = h
means_took o s (inl e) = absurd (true≢false (sym e))
means_took o s (inr h) = h

means_snapped : (o : Op) (n : ℕ) (s : Span) → (sweeps o ≡ false) ⊎ IsNot 0 s → IsMeant o (reply.Snapped n s)
means_snapped (op.Line (act.Finalise k)) n s h = tt
means_snapped op.Sweep n s (inl e) = absurd (true≢false e)
means_snapped op.Sweep n s (inr h) = h
means_snapped o n s h = tt

means_swept : (o : Op) (j : Marking) (s : Span) → (sweeps o ≡ true) ⊎ IsNot 0 s → IsMeant o (reply.Swept j s)
means_swept op.Sweep j s h = tt
means_swept (op.Line (act.Finalise k)) j s (inl e) = absurd (true≢false (sym e))
means_swept (op.Line (act.Finalise k)) j s (inr h) = h
means_swept o j s (inl e) = absurd (true≢false (sym e))
means_swept o j s (inr h) = h

abbrev IsOther : Reply → Type 0
IsOther (reply.M m) = ⊥
IsOther (reply.Took s) = ⊥
IsOther (reply.Snapped n s) = ⊥
IsOther (reply.Swept j s) = ⊥
IsOther r = Unit {0}

means_other : (o : Op) (r : Reply) → IsOther r → IsMeant o r
means_other o (reply.M m) h = absurd h
means_other o (reply.Took s) h = absurd h
means_other o (reply.Snapped n s) h = absurd h
means_other o (reply.Swept j s) h = absurd h
means_other (op.Line (act.Finalise k)) r h = tt
means_other op.Sweep r h = tt
means_other o r h = tt

-- the reply that is meant by these words, behind these lists
record Reread (o : Op) (l : Lists) (r : Reply) (ns : List ℕ) : Type 0 where
  reply : Reply
  numbers : List ℕ
  same : said reply numbers ≡ said r ns
  fits : FitsReply reply
  shown : IsShown reply numbers
  meant : IsMeant o reply
  begins : BeginsAt l reply numbers
  reading : IsReading r reply

-- the lists and the numbers are few enough
record IsRoom (l : Lists) (ns : List ℕ) : Type 0 where
  managed : Short (length l.managed)
  peers : Short (length l.peers)
  notices : Short (length l.notices)
  more : Short (length ns)

abbrev behind_managed : Lists → List ℕ → Span
behind_managed l ns = record { first = length l.managed; count = length ns }

abbrev behind_peers : Lists → List ℕ → Span
behind_peers l ns = record { first = length l.peers; count = length ns }

abbrev behind_notices : Lists → List ℕ → Span
behind_notices l ns = record { first = length l.notices; count = length ns }

reread_one : (o : Op) (l : Lists) (m : MNum) (ns : List ℕ) (b : Bool) → takes o ≡ b → Short m.0 → IsRoom l ns → Reread o l (reply.M m) ns
reread_one o l m ns false e f k = record { reply = reply.M m; numbers = ns; same = refl; fits = f; shown = tt; meant = means_one o m e; begins = tt; reading = refl }
reread_one o l m ns true e f k = record {
  reply = reply.Took (behind_notices l (m.0 ∷ []));
  numbers = m.0 ∷ [];
  same = refl;
  fits = (k.notices, omega arith);
  shown = record { short = All-cons Short m.0 [] f (All-nil Short); rises = λ z. absurd (true≢false (sym z)) };
  meant = means_took o (behind_notices l (m.0 ∷ [])) (inl e);
  begins = (refl, refl);
  reading = tt;
}

took_as : (o : Op) (l : Lists) (s : Span) (ns : List ℕ) → IsShown (reply.Took s) ns → IsRoom l ns → (takes o ≡ true) ⊎ (length ns ≢ 1) → Reread o l (reply.Took s) ns
took_as o l s ns w k h = record {
  reply = reply.Took (behind_notices l ns);
  numbers = ns;
  same = refl;
  fits = (k.notices, k.more);
  shown = record { short = w.short; rises = w.rises };
  meant = means_took o (behind_notices l ns) h;
  begins = (refl, refl);
  reading = tt;
}

reread_took : (o : Op) (l : Lists) (s : Span) (ns : List ℕ) (b : Bool) → takes o ≡ b → IsShown (reply.Took s) ns → IsRoom l ns → Reread o l (reply.Took s) ns
reread_took o l s ns true e w k = took_as o l s ns w k (inl e)
reread_took o l s [] false e w k = took_as o l s [] w k (inr (λ q. omega (arith, q)))
reread_took o l s (n ∷ []) false e w k = record {
  reply = reply.M record { 0 = n };
  numbers = [];
  same = refl;
  fits = All-head Short n [] w.short;
  shown = tt;
  meant = means_one o record { 0 = n } e;
  begins = tt;
  reading = tt;
}
reread_took o l s (n ∷ m ∷ ns) false e w k = took_as o l s (n ∷ m ∷ ns) w k (inr (λ q. omega (arith, q)))

snapped_as : (o : Op) (l : Lists) (n : ℕ) (s : Span) (ns : List ℕ) → Short n → IsShown (reply.Snapped n s) ns → IsRoom l ns → (sweeps o ≡ false) ⊎ (length ns ≢ 0) → Reread o l (reply.Snapped n s) ns
snapped_as o l n s ns f w k h = record {
  reply = reply.Snapped n (behind_managed l ns);
  numbers = ns;
  same = refl;
  fits = (f, (k.managed, k.more));
  shown = record { short = w.short; rises = w.rises };
  meant = means_snapped o n (behind_managed l ns) h;
  begins = (refl, refl);
  reading = refl;
}

swept_as : (o : Op) (l : Lists) (j : Marking) (s : Span) (ns : List ℕ) → Short j.0 → IsShown (reply.Swept j s) ns → IsRoom l ns → (sweeps o ≡ true) ⊎ (length ns ≢ 0) → Reread o l (reply.Swept j s) ns
swept_as o l j s ns f w k h = record {
  reply = reply.Swept j (behind_peers l ns);
  numbers = ns;
  same = refl;
  fits = (f, (k.peers, k.more));
  shown = record { short = w.short; rises = w.rises };
  meant = means_swept o j (behind_peers l ns) h;
  begins = (refl, refl);
  reading = refl;
}

reread_snapped : (o : Op) (l : Lists) (n : ℕ) (s : Span) (ns : List ℕ) (b : Bool) → sweeps o ≡ b → Short n → IsShown (reply.Snapped n s) ns → IsRoom l ns → Reread o l (reply.Snapped n s) ns
reread_snapped o l n s ns false e f w k = snapped_as o l n s ns f w k (inl e)
reread_snapped o l n s [] true e f w k = record {
  reply = reply.Swept record { 0 = n } (behind_peers l []);
  numbers = [];
  same = refl;
  fits = (f, (k.peers, omega arith));
  shown = record { short = w.short; rises = w.rises };
  meant = means_swept o record { 0 = n } (behind_peers l []) (inl e);
  begins = (refl, refl);
  reading = refl;
}
reread_snapped o l n s (m ∷ ns) true e f w k = snapped_as o l n s (m ∷ ns) f w k (inr (λ q. omega (arith, q)))

reread_swept : (o : Op) (l : Lists) (j : Marking) (s : Span) (ns : List ℕ) (b : Bool) → sweeps o ≡ b → Short j.0 → IsShown (reply.Swept j s) ns → IsRoom l ns → Reread o l (reply.Swept j s) ns
reread_swept o l j s ns true e f w k = swept_as o l j s ns f w k (inl e)
reread_swept o l j s [] false e f w k = record {
  reply = reply.Snapped j.0 (behind_managed l []);
  numbers = [];
  same = refl;
  fits = (f, (k.managed, omega arith));
  shown = record { short = w.short; rises = w.rises };
  meant = means_snapped o j.0 (behind_managed l []) (inl e);
  begins = (refl, refl);
  reading = refl;
}
reread_swept o l j s (m ∷ ns) false e f w k = swept_as o l j s (m ∷ ns) f w k (inr (λ q. omega (arith, q)))

reread_freed : (o : Op) (l : Lists) (s : Span) (ns : List ℕ) → IsShown (reply.Freed s) ns → IsRoom l ns → Reread o l (reply.Freed s) ns
reread_freed o l s ns w k = record {
  reply = reply.Freed (behind_managed l ns);
  numbers = ns;
  same = refl;
  fits = (k.managed, k.more);
  shown = record { short = w.short; rises = w.rises };
  meant = means_other o (reply.Freed (behind_managed l ns)) tt;
  begins = (refl, refl);
  reading = tt;
}

stays_other : (o : Op) (l : Lists) (r : Reply) (ns : List ℕ) → FitsReply r → IsOther r → IsShown r ns → BeginsAt l r ns → IsReading r r → Reread o l r ns
stays_other o l r ns f h w b g = record { reply = r; numbers = ns; same = refl; fits = f; shown = w; meant = means_other o r h; begins = b; reading = g }

reread : (o : Op) (l : Lists) (r : Reply) (ns : List ℕ) → FitsReply r → IsShown r ns → IsRoom l ns → Reread o l r ns
reread o l (reply.M m) ns f w k = reread_one o l m ns (takes o) refl f k
reread o l (reply.Took s) ns f w k = reread_took o l s ns (takes o) refl w k
reread o l (reply.Snapped n s) ns f w k = reread_snapped o l n s ns (sweeps o) refl f.0 w k
reread o l (reply.Swept j s) ns f w k = reread_swept o l j s ns (sweeps o) refl f.0 w k
reread o l (reply.Freed s) ns f w k = reread_freed o l s ns w k
reread o l r ns f w k = stays_other o l r ns f tt tt tt refl

-- the line of an entry with the words of a reply
abbrev with_said : Entry → List (List ℕ) → List ℕ
with_said e z = spaced (decimal e.number ∷ place_text e.made.caller e.made.index ∷ (event_words e.made.caller e.made.op ++ (codes "=" ∷ (z ++ cite_words e.made.cites))))

-- the lines of all entries
record Again (h : Finished) (n : ℕ) (l : Lists) (es : List Entry) : Type 0 where
  entries : List Entry
  lists : Lists
  lines : ReadsLines n l entries (entries_text h es) lists
  alike : AreAlike es entries

again : (h : Finished) (n : ℕ) (l : Lists) (es : List Entry) → IsValue h → AreOwn h n es → size l + length (entries_text h es) < 2 ^ 32 → Again h n l es
again h n l [] v o few = record { entries = []; lists = l; lines = (refl, refl); alike = tt }
again h n l (x ∷ es) v o few =
    let m = x.made in
    let ns = named_in h m.reply in
    let own = own_head h n x es o in
    let line = own_line h x v own in
    let text = spaced (line_words x ns) in
    let cut : entries_text h (x ∷ es) ≡ text ++ (10 ∷ entries_text h es) = ap (λ z. z ++ entries_text h es) (entry_spaced h x) ∙ append_assoc text (10 ∷ []) (entries_text h es) in
    let whole = ap length cut in
    let split = length-append text (10 ∷ entries_text h es) in
    let words = list_within x ns in
    let room : IsRoom l ns = record { managed = omega (arith, few); peers = omega (arith, few); notices = omega (arith, few); more = omega (arith, few, whole, split, words, numbers_within h m.reply) }
    in
    let k = reread m.op l m.reply ns line.fits.reply line.shown room in
    let y : Entry = record { number = x.number; made = record { caller = m.caller; index = m.index; op = m.op; reply = k.reply; cites = m.cites } } in
    let same : text ≡ spaced (line_words y k.numbers) = ap (with_said x) (sym k.same) in
    let mid = grown l k.reply k.numbers in
    let grows = grown_within l k.reply k.numbers in
    let listed = list_within y k.numbers in
    let length_same = ap length same in
    let rest = again h (n + 1) mid es v (own_tail h n x es o) (omega (arith, few, whole, split, grows, listed, length_same)) in
    record {
      entries = y ∷ rest.entries;
      lists = rest.lists;
      lines = (
        text,
        entries_text h es,
        mid,
        cut,
        record {
          numbers = k.numbers;
          line = record {
            fits = record { number = line.fits.number; line = line.fits.line; event = line.fits.event; reply = k.fits; cites = line.fits.cites };
            event = line.event;
            shown = k.shown;
            same = same;
          };
          same = o.numbers.0;
          meant = k.meant;
          begins = k.begins;
          grows = refl;
        },
        rest.lines,
      );
      alike = (record { number = refl; caller = refl; index = refl; op = refl; reply = k.reading; cites = refl }, rest.alike);
    }

alike_count : (es fs : List Entry) → AreAlike es fs → length es ≡ length fs
alike_count [] [] a = refl
alike_count [] (f ∷ fs) a = absurd a
alike_count (e ∷ es) [] a = absurd a
alike_count (e ∷ es) (f ∷ fs) a = (let c = alike_count es fs a.1 in omega (arith, c))

pub each_read : EachIsReadBack
each_read h v few =
    let end = end_text (length h.entries) in
    let parts = length-append (entries_text h h.entries) end in
    let k = again h 0 no_lists h.entries v (own_all h v) (omega (arith, few, parts)) in
    let f = few_by k.entries (entries_text h h.entries) k.lists k.lines (omega (arith, few, parts)) in
    let c = canonical_of k.entries (entries_text h h.entries) k.lists k.lines f in
    let g = history_of record { entries = k.entries; lists = k.lists } in
    let count = alike_count h.entries k.entries k.alike in
    record {
      history = g;
      reads = record { canonical = c.canonical; text = ap (λ z. z ++ end) (sym c.whole) ∙ ap (λ i. entries_text g g.entries ++ end_text i) count };
      alike = k.alike;
    }
