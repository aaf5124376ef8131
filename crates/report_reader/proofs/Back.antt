-- A history that is meant by its text is what is read of it: line by line its lists are as far as they were named.
use Rattle.std.proofs.Common.{◌≡◌, ℕ, ◌+◌, ◌-◌, ◌<◌, ◌≤◌, List, [], ◌∷◌, ◌++◌, length, take, drop, map, All, refl, sym, ap, ◌∙◌, subst, arith, append_assoc, length-append, length-drop}
use Rattle.std.proofs.lemmas.List.{take_all, length-map, length-take, length-take-le, take-map, drop-map}
use Rattle.std.proofs.lemmas.List.Elements.{All-head, All-tail}
use Rattle.std.proofs.Math.Seq.{take-add}
use Rattle.joint_machine.specs.declared.names.MNum.{MNum}
use Rattle.joint_machine.specs.declared.names.PNum.{PNum}
use Rattle.joint_machine.specs.declared.names.Span.{Span}
use Rattle.joint_machine.specs.declared.events.Reply.{Reply}
use Rattle.joint_machine.specs.declared.events.Reply.TheVariants as reply
use Rattle.joint_machine.specs.declared.events.Entry.{Entry}
use Rattle.joint_machine.specs.Histories.{Finished, FitsLists, HasSpans, managed_numbers, peer_numbers, stretch, NumberedFrom}
use Rattle.text_words.specs.Words.{spaced}
use Rattle.history_report.specs.Report.{end_text, entry_text, entries_text}
use Rattle.entry_reader.specs.Fitting.{FitsTypes}
use Rattle.entry_reader.specs.Meaning.{Lists, BeginsAt, grown, as_managed, as_peers}
use Rattle.entry_reader.specs.Meant.{IsMeant}
use Rattle.entry_reader.specs.Saying.{line_words}
use Rattle.report_reader.specs.Reading.{Ends, HasJust, IsCanonical, IsValue, SpansRun, StartsAt, ends_after, ends_of, no_ends}
use Rattle.report_reader.specs.Laws.{NamedIsRead, ReportsAreOne}
use Rattle.report_reader.specs.Steps.{ReadsLines, no_lists}
use Rattle.report_reader.proofs.Texts.{named_in, entry_spaced}
use Rattle.report_reader.proofs.Canonical.{canonical_of, lists_of}
use Rattle.report_reader.proofs.Judging.{own_line, shown_part}
use Rattle.report_reader.proofs.Sizes.{few_by, list_within, numbers_within}
use Rattle.report_reader.proofs.Once.{same_read}

-- the lists as far as they were named
abbrev cut_to : Finished → Ends → Lists
cut_to h e = record { managed = take e.managed h.freed_managed; peers = take e.peers h.freed_peers; notices = take e.notices h.notices }

-- they only go on
record Up (a b : Ends) : Type 0 where
  managed : a.managed ≤ b.managed
  peers : a.peers ≤ b.peers
  notices : a.notices ≤ b.notices

up_by : (e : Ends) (r : Reply) → Up e (ends_after e r)
up_by e (reply.Snapped n s) = record { managed = omega arith; peers = omega arith; notices = omega arith }
up_by e (reply.Freed s) = record { managed = omega arith; peers = omega arith; notices = omega arith }
up_by e (reply.Swept j s) = record { managed = omega arith; peers = omega arith; notices = omega arith }
up_by e (reply.Took s) = record { managed = omega arith; peers = omega arith; notices = omega arith }
up_by e r = record { managed = omega arith; peers = omega arith; notices = omega arith }

up_all : (e : Ends) (es : List Entry) → Up e (ends_of e es)
up_all e [] = record { managed = omega arith; peers = omega arith; notices = omega arith }
up_all e (x ∷ es) =
    let a = up_by e x.made.reply in
    let b = up_all (ends_after e x.made.reply) es in
    record {
      managed = (let p = a.managed in let q = b.managed in omega (arith, p, q));
      peers = (let p = a.peers in let q = b.peers in omega (arith, p, q));
      notices = (let p = a.notices in let q = b.notices in omega (arith, p, q));
    }

-- objects become numbers, and numbers objects again
managed_back : (ms : List MNum) → as_managed (managed_numbers ms) ≡ ms
managed_back [] = refl
managed_back (m ∷ ms) = ap (λ z. m ∷ z) (managed_back ms)

peers_back : (ps : List PNum) → as_peers (peer_numbers ps) ≡ ps
peers_back [] = refl
peers_back (p ∷ ps) = ap (λ z. p ∷ z) (peers_back ps)

-- a list is cut where a span begins, and again where it ends
record CutsAt {A : Type 0} (number : A → ℕ) (put : List ℕ → List A) (list : List A) (k : ℕ) (s : Span) : Type 0 where
  first : s.first ≡ length (take k list)
  count : s.count ≡ length (stretch (take 4294967296 (map number list)) s)
  grows : take (k + s.count) list ≡ take k list ++ put (stretch (take 4294967296 (map number list)) s)

cuts_at : {A : Type 0} (number : A → ℕ) (put : List ℕ → List A) → ((xs : List A) → put (map number xs) ≡ xs)
    → (list : List A) (k : ℕ) (s : Span) → s.first ≡ k → k + s.count ≤ length list → k + s.count ≤ 4294967295 → CutsAt number put list k s
cuts_at number put back list k s e l few =
    let whole = length-take s.count (drop s.first (map number list)) in
    let all : stretch (take 4294967296 (map number list)) s ≡ stretch (map number list) s =
    shown_part (map number list) s (omega (arith, e, few)) ∙ take_all (4294967296 - s.first) (stretch (map number list) s) (omega (arith, whole, e, few)) in
    let part : stretch (take 4294967296 (map number list)) s ≡ map number (take s.count (drop k list)) =
    all ∙ (ap (λ f. take s.count (drop f (map number list))) e ∙ (ap (λ z. take s.count z) (drop-map number k list) ∙ take-map number s.count (drop k list))) in
    let d = length-drop k list in
    record {
      first = e ∙ sym (length-take-le k list (omega (arith, l)));
      count = sym (ap length part ∙ (length-map (take s.count (drop k list)) number ∙ length-take-le s.count (drop k list) (omega (arith, d, l))));
      grows = take-add k s.count list ∙ ap (λ z. take k list ++ z) (sym (ap put part ∙ back (take s.count (drop k list))));
    }

-- the lists reach so far, and a span names each place up to there
record Inside (h : Finished) (e : Ends) : Type 0 where
  managed : e.managed ≤ length h.freed_managed
  peers : e.peers ≤ length h.freed_peers
  notices : e.notices ≤ length h.notices
  few_managed : e.managed ≤ 4294967295
  few_peers : e.peers ≤ 4294967295
  few_notices : e.notices ≤ 4294967295

-- after each entry
abbrev AllInside : Finished → Ends → List Entry → Type 0
AllInside h e [] = Unit {0}
AllInside h e (x ∷ es) = Inside h (ends_after e x.made.reply) × AllInside h (ends_after e x.made.reply) es

-- so an entry's list begins where those before it end
record Next (h : Finished) (e : Ends) (r : Reply) : Type 0 where
  begins : BeginsAt (cut_to h e) r (named_in h r)
  grows : cut_to h (ends_after e r) ≡ grown (cut_to h e) r (named_in h r)

abbrev with_managed : Lists → List MNum → Lists
with_managed l z = record l { managed = z }

abbrev with_peers : Lists → List PNum → Lists
with_peers l z = record l { peers = z }

abbrev with_notices : Lists → List MNum → Lists
with_notices l z = record l { notices = z }

next : (h : Finished) (e : Ends) (r : Reply) → StartsAt e r → Inside h (ends_after e r) → Next h e r
next h e (reply.Snapped n s) b u =
    let c = cuts_at (λ (m : MNum). m.0) as_managed managed_back h.freed_managed e.managed s b u.managed u.few_managed in
    record { begins = (c.first, c.count); grows = ap (with_managed (cut_to h e)) c.grows }
next h e (reply.Freed s) b u =
    let c = cuts_at (λ (m : MNum). m.0) as_managed managed_back h.freed_managed e.managed s b u.managed u.few_managed in
    record { begins = (c.first, c.count); grows = ap (with_managed (cut_to h e)) c.grows }
next h e (reply.Swept k s) b u =
    let c = cuts_at (λ (p : PNum). p.0) as_peers peers_back h.freed_peers e.peers s b u.peers u.few_peers in
    record { begins = (c.first, c.count); grows = ap (with_peers (cut_to h e)) c.grows }
next h e (reply.Took s) b u =
    let c = cuts_at (λ (m : MNum). m.0) as_managed managed_back h.notices e.notices s b u.notices u.few_notices in
    record { begins = (c.first, c.count); grows = ap (with_notices (cut_to h e)) c.grows }
next h e r b u = record { begins = tt; grows = refl }

back : (h : Finished) (n : ℕ) (e : Ends) (es : List Entry) → IsValue h → NumberedFrom n es → All FitsTypes es
    → All (FitsLists h.freed_managed h.freed_peers h.notices) es → All (λ x. IsMeant x.made.op x.made.reply) es → SpansRun e es → AllInside h e es
    → ReadsLines n (cut_to h e) es (entries_text h es) (cut_to h (ends_of e es))
back h n e [] v o t f m s j = (refl, refl)
back h n e (x ∷ es) v o t f m s j =
    let r = x.made.reply in
    let line = spaced (line_words x (named_in h r)) in
    let k = next h e r s.0 j.0 in
    let own = own_line h x v record { types = All-head FitsTypes x es t; fits = All-head (FitsLists h.freed_managed h.freed_peers h.notices) x es f } in
    let text : entry_text h x ++ entries_text h es ≡ line ++ (10 ∷ entries_text h es) = ap (λ z. z ++ entries_text h es) (entry_spaced h x) ∙ append_assoc line (10 ∷ []) (entries_text h es) in
    let more = back h (n + 1) (ends_after e r) es v o.1 (All-tail FitsTypes x es t)
    (All-tail (FitsLists h.freed_managed h.freed_peers h.notices) x es f) (All-tail (λ (y : Entry). IsMeant y.made.op y.made.reply) x es m) s.1 j.1 in (
      line,
      entries_text h es,
      cut_to h (ends_after e r),
      text,
      record {
        numbers = named_in h r;
        line = own;
        same = o.0;
        meant = All-head (λ (y : Entry). IsMeant y.made.op y.made.reply) x es m;
        begins = k.begins;
        grows = k.grows;
      },
      more,
    )

-- where the lists end with what is named, all of it is inside
inside_by : (h : Finished) (e last : Ends) → Up e last → HasJust h last → Inside h e
inside_by h e last u j =
    let a = u.managed in
    let b = u.peers in
    let c = u.notices in
    let m = j.managed in
    let p = j.peers in
    let n = j.notices in
    let fm = j.few_managed in
    let fp = j.few_peers in
    let fn = j.few_notices in
    record {
      managed = omega (arith, a, m);
      peers = omega (arith, b, p);
      notices = omega (arith, c, n);
      few_managed = omega (arith, a, fm);
      few_peers = omega (arith, b, fp);
      few_notices = omega (arith, c, fn);
    }

all_inside : (h : Finished) (e : Ends) (es : List Entry) → HasJust h (ends_of e es) → AllInside h e es
all_inside h e [] j = tt
all_inside h e (x ∷ es) j = (inside_by h (ends_after e x.made.reply) (ends_of (ends_after e x.made.reply) es) (up_all (ends_after e x.made.reply) es) j, all_inside h (ends_after e x.made.reply) es j)

-- all of the lists
whole_lists : (h : Finished) (e : Ends) → HasJust h e → cut_to h e ≡ lists_of h
whole_lists h e j =
    let m = take_all e.managed h.freed_managed (let q = j.managed in omega (arith, q)) in
    let p = take_all e.peers h.freed_peers (let q = j.peers in omega (arith, q)) in
    let n = take_all e.notices h.notices (let q = j.notices in omega (arith, q)) in
    λ i. record { managed = m i; peers = p i; notices = n i }

pub read_of : (h : Finished) → IsCanonical h → ReadsLines 0 no_lists h.entries (entries_text h h.entries) (lists_of h)
read_of h c =
    let v = c.value in
    let w = back h 0 no_ends h.entries v v.history.numbers v.fits v.history.fits c.meant c.spans (all_inside h no_ends h.entries c.just) in
    subst (λ (l : Lists). ReadsLines 0 no_lists h.entries (entries_text h h.entries) l) (whole_lists h (ends_of no_ends h.entries) c.just) w

-- bytes are read as one history
pub one_history : ReportsAreOne
one_history bytes g h a b =
    let s = same_read 0 no_lists g.entries h.entries (entries_text g g.entries) (entries_text h h.entries) (lists_of g)
    (lists_of h) (length g.entries) (length h.entries) (read_of g a.canonical) (read_of h b.canonical) (sym a.text ∙ b.text) in
    let es = s.entries in
    let l = s.lists in
    λ i. record { entries = es i; freed_managed = (l i).managed; freed_peers = (l i).peers; notices = (l i).notices }

-- in a report of fewer than 2^32 bytes all that is named is shown, since it is fewer than that
abbrev total : Ends → ℕ
total e = e.managed + e.peers + e.notices

record Shown (nums : List ℕ) (s : Span) : Type 0 where
  count : length (stretch (take 4294967296 nums) s) ≡ s.count
  few : s.first + s.count ≤ 4294967295

shown_all : (nums : List ℕ) (s : Span) → s.first + s.count ≤ length nums → s.first + length (stretch (take 4294967296 nums) s) < 4294967296 → Shown nums s
shown_all nums s within few =
    let a = length-take s.count (drop s.first (take 4294967296 nums)) in
    let b = length-drop s.first (take 4294967296 nums) in
    let c = length-take 4294967296 nums in
    record { count = omega (arith, a, b, c, within, few); few = omega (arith, a, b, c, within, few) }

record StaysInside (h : Finished) (e : Ends) (r : Reply) : Type 0 where
  inside : Inside h (ends_after e r)
  grows : total (ends_after e r) ≡ total e + length (named_in h r)

stays_inside : (h : Finished) (e : Ends) (r : Reply) → Inside h e → StartsAt e r → HasSpans h.freed_managed h.freed_peers h.notices r → total e + length (named_in h r) < 4294967296 → StaysInside h e r
stays_inside h e (reply.Snapped n s) i b w l =
    let size = length-map h.freed_managed (λ (m : MNum). m.0) in
    let k = shown_all (managed_numbers h.freed_managed) s (let a = w.0 in omega (arith, a, size)) (omega (arith, b, l)) in
    let a = k.count in
    let f = k.few in
    let g = w.0 in
    record {
      inside = record { managed = omega (arith, b, g); peers = i.peers; notices = i.notices; few_managed = omega (arith, b, f); few_peers = i.few_peers; few_notices = i.few_notices };
      grows = omega (arith, a);
    }
stays_inside h e (reply.Freed s) i b w l =
    let size = length-map h.freed_managed (λ (m : MNum). m.0) in
    let k = shown_all (managed_numbers h.freed_managed) s (let a = w.0 in omega (arith, a, size)) (omega (arith, b, l)) in
    let a = k.count in
    let f = k.few in
    let g = w.0 in
    record {
      inside = record { managed = omega (arith, b, g); peers = i.peers; notices = i.notices; few_managed = omega (arith, b, f); few_peers = i.few_peers; few_notices = i.few_notices };
      grows = omega (arith, a);
    }
stays_inside h e (reply.Swept j s) i b w l =
    let size = length-map h.freed_peers (λ (p : PNum). p.0) in
    let k = shown_all (peer_numbers h.freed_peers) s (let a = w.0 in omega (arith, a, size)) (omega (arith, b, l)) in
    let a = k.count in
    let f = k.few in
    let g = w.0 in
    record {
      inside = record { managed = i.managed; peers = omega (arith, b, g); notices = i.notices; few_managed = i.few_managed; few_peers = omega (arith, b, f); few_notices = i.few_notices };
      grows = omega (arith, a);
    }
stays_inside h e (reply.Took s) i b w l =
    let size = length-map h.notices (λ (m : MNum). m.0) in
    let k = shown_all (managed_numbers h.notices) s (omega (arith, w, size)) (omega (arith, b, l)) in
    let a = k.count in
    let f = k.few in
    record {
      inside = record { managed = i.managed; peers = i.peers; notices = omega (arith, b, w); few_managed = i.few_managed; few_peers = i.few_peers; few_notices = omega (arith, b, f) };
      grows = omega (arith, a);
    }
stays_inside h e r i b w l = record { inside = i; grows = omega arith }

inside_all : (h : Finished) (e : Ends) (es : List Entry) → All (FitsLists h.freed_managed h.freed_peers h.notices) es
    → SpansRun e es → Inside h e → total e + length (entries_text h es) < 4294967296 → AllInside h e es
inside_all h e [] f s i l = tt
inside_all h e (x ∷ es) f s i l =
    let r = x.made.reply in
    let line = spaced (line_words x (named_in h r)) in
    let whole = ap length (entry_spaced h x) in
    let a = length-append (entry_text h x) (entries_text h es) in
    let b = length-append line (10 ∷ []) in
    let c = list_within x (named_in h r) in
    let d = numbers_within h r in
    let fits = All-head (FitsLists h.freed_managed h.freed_peers h.notices) x es f in
    let k = stays_inside h e r i s.0 fits.spans (omega (arith, l, whole, a, b, c, d)) in
    let g = k.grows in
    (k.inside, inside_all h (ends_after e r) es (All-tail (FitsLists h.freed_managed h.freed_peers h.notices) x es f) s.1 k.inside (omega (arith, l, whole, a, b, c, d, g)))

-- so a history whose replies are meant, and whose spans stand one behind another, is read of its report as itself, but
-- for what stands in its lists behind the last number that is named
pub named_read : NamedIsRead
named_read h v meant spans few =
    let end = end_text (length h.entries) in
    let parts = length-append (entries_text h h.entries) end in
    let nothing : Inside h no_ends = record { managed = omega arith; peers = omega arith; notices = omega arith; few_managed = omega arith; few_peers = omega arith; few_notices = omega arith } in
    let inside = inside_all h no_ends h.entries v.history.fits spans nothing (omega (arith, few, parts)) in
    let lists = cut_to h (ends_of no_ends h.entries) in
    let w = back h 0 no_ends h.entries v v.history.numbers v.fits v.history.fits meant spans inside in
    let k = canonical_of h.entries (entries_text h h.entries) lists w (few_by h.entries (entries_text h h.entries) lists w (omega (arith, few, parts))) in
    record { canonical = k.canonical; text = ap (λ z. z ++ end) (sym k.whole) }
