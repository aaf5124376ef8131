-- What was read line by line is the history that is meant by the text. Each list only grows, so what a span named stays
-- where it is, and the line of an entry in the whole history is the line that was read.
use Rattle.std.proofs.Common.{◌≡◌, ℕ, ◌+◌, ◌≤◌, List, [], ◌∷◌, ◌++◌, length, All, codes, decimal, refl, sym, ap, ◌∙◌, subst, arith, append_assoc, append-nil, length-append}
use Rattle.std.proofs.lemmas.List.Elements.{All-cons, All-nil, All-append, All-map}
use Rattle.joint_machine.specs.declared.names.MNum.{MNum}
use Rattle.joint_machine.specs.declared.names.PNum.{PNum}
use Rattle.joint_machine.specs.declared.events.Reply.{Reply}
use Rattle.joint_machine.specs.declared.events.Reply.TheVariants as reply
use Rattle.joint_machine.specs.declared.events.Entry.{Entry}
use Rattle.joint_machine.specs.Components.{Rises}
use Rattle.joint_machine.specs.Histories.{Finished, FitsLists, HasSpans, NumberedFrom}
use Rattle.text_words.specs.Words.{spaced}
use Rattle.history_report.specs.Report.{event_words, reply_words, list_of, cite_words, place_text, entry_text, entries_text}
use Rattle.entry_reader.specs.Fitting.{Short, FitsTypes}
use Rattle.entry_reader.specs.Meaning.{Lists, BeginsAt, grown, as_managed, as_peers}
use Rattle.entry_reader.specs.Meant.{IsMeant}
use Rattle.entry_reader.specs.Saying.{IsShown, list_said}
use Rattle.entry_reader.proofs.ListParts.{length_managed, length_peers}
use Rattle.report_reader.specs.Reading.{Ends, IsCanonical, SpansRun, StartsAt, ends_after, ends_of, no_ends}
use Rattle.report_reader.specs.Steps.{ReadsLines, history_of, no_lists}
use Rattle.report_reader.proofs.Texts.{named_in, entry_spaced}
use Rattle.report_reader.proofs.Named.{back_managed, back_peers, in_list}

-- lists that go on
pub record Grows (a b : Lists) : Type 0 where
  pub managed : List MNum
  pub peers : List PNum
  pub notices : List MNum
  pub more_managed : b.managed ≡ a.managed ++ managed
  pub more_peers : b.peers ≡ a.peers ++ peers
  pub more_notices : b.notices ≡ a.notices ++ notices

grows_none : (a : Lists) → Grows a a
grows_none a = record { managed = []; peers = []; notices = []; more_managed = sym (append-nil a.managed); more_peers = sym (append-nil a.peers); more_notices = sym (append-nil a.notices) }

grows_on : (a b c : Lists) → Grows a b → Grows b c → Grows a c
grows_on a b c g k = record {
  managed = g.managed ++ k.managed;
  peers = g.peers ++ k.peers;
  notices = g.notices ++ k.notices;
  more_managed = k.more_managed ∙ (ap (λ z. z ++ k.managed) g.more_managed ∙ append_assoc a.managed g.managed k.managed);
  more_peers = k.more_peers ∙ (ap (λ z. z ++ k.peers) g.more_peers ∙ append_assoc a.peers g.peers k.peers);
  more_notices = k.more_notices ∙ (ap (λ z. z ++ k.notices) g.more_notices ∙ append_assoc a.notices g.notices k.notices);
}

grows_managed : (l : Lists) (ns : List ℕ) → Grows l record l { managed = l.managed ++ as_managed ns }
grows_managed l ns = record { managed = as_managed ns; peers = []; notices = []; more_managed = refl; more_peers = sym (append-nil l.peers); more_notices = sym (append-nil l.notices) }

grows_peers : (l : Lists) (ns : List ℕ) → Grows l record l { peers = l.peers ++ as_peers ns }
grows_peers l ns = record { managed = []; peers = as_peers ns; notices = []; more_managed = sym (append-nil l.managed); more_peers = refl; more_notices = sym (append-nil l.notices) }

grows_notices : (l : Lists) (ns : List ℕ) → Grows l record l { notices = l.notices ++ as_managed ns }
grows_notices l ns = record { managed = []; peers = []; notices = as_managed ns; more_managed = sym (append-nil l.managed); more_peers = sym (append-nil l.peers); more_notices = refl }

grows_by : (l : Lists) (r : Reply) (ns : List ℕ) → Grows l (grown l r ns)
grows_by l (reply.Snapped n s) ns = grows_managed l ns
grows_by l (reply.Freed s) ns = grows_managed l ns
grows_by l (reply.Swept j s) ns = grows_peers l ns
grows_by l (reply.Took s) ns = grows_notices l ns
grows_by l r ns = grows_none l

lines_grow : (n : ℕ) (l : Lists) (es : List Entry) (text : List ℕ) (m : Lists) → ReadsLines n l es text m → Grows l m
lines_grow n l [] text m r = subst (λ (z : Lists). Grows l z) (sym r.1) (grows_none l)
lines_grow n l (x ∷ es) text m r =
    let here : Grows l r.2 = subst (λ (z : Lists). Grows l z) (sym r.4.grows) (grows_by l x.made.reply r.4.numbers) in
    grows_on l r.2 m here (lines_grow (n + 1) r.2 es r.1 m r.5)

-- how far lists reach
abbrev pub ends_in : Lists → Ends
ends_in l = record { managed = length l.managed; peers = length l.peers; notices = length l.notices }

abbrev pub lists_of : Finished → Lists
lists_of h = record { managed = h.freed_managed; peers = h.freed_peers; notices = h.notices }

pub record Few (l : Lists) : Type 0 where
  pub managed : length l.managed ≤ 4294967295
  pub peers : length l.peers ≤ 4294967295
  pub notices : length l.notices ≤ 4294967295

-- the reply of a line that was read, in the whole history
record Stays (h : Finished) (r : Reply) (ns : List ℕ) : Type 0 where
  said : list_said (list_of r) ns ≡ list_said (list_of r) (named_in h r)
  spans : HasSpans h.freed_managed h.freed_peers h.notices r

stays : (h : Finished) (l : Lists) (r : Reply) (ns : List ℕ) → Grows (grown l r ns) (lists_of h) → Few (lists_of h) → BeginsAt l r ns → IsShown r ns → Stays h r ns
stays h l (reply.Snapped n s) ns g f b w =
    let k = in_list (λ (m : MNum). m.0) as_managed ns (back_managed ns) h.freed_managed l.managed g.managed s g.more_managed f.managed b in
    record { said = ap (λ z. list_said (list_of (reply.Snapped n s)) z) (sym k.named); spans = (k.within, subst Rises (sym k.same) (w.rises refl)) }
stays h l (reply.Freed s) ns g f b w =
    let k = in_list (λ (m : MNum). m.0) as_managed ns (back_managed ns) h.freed_managed l.managed g.managed s g.more_managed f.managed b in
    record { said = ap (λ z. list_said (list_of (reply.Freed s)) z) (sym k.named); spans = (k.within, subst Rises (sym k.same) (w.rises refl)) }
stays h l (reply.Swept j s) ns g f b w =
    let k = in_list (λ (p : PNum). p.0) as_peers ns (back_peers ns) h.freed_peers l.peers g.peers s g.more_peers f.peers b in
    record { said = ap (λ z. list_said (list_of (reply.Swept j s)) z) (sym k.named); spans = (k.within, subst Rises (sym k.same) (w.rises refl)) }
stays h l (reply.Took s) ns g f b w =
    let k = in_list (λ (m : MNum). m.0) as_managed ns (back_managed ns) h.notices l.notices g.notices s g.more_notices f.notices b in
    record { said = ap (λ z. list_said (list_of (reply.Took s)) z) (sym k.named); spans = k.within }
stays h l r ns g f b w = record { said = refl; spans = tt }

-- where a span begins and ends
starts : (l : Lists) (r : Reply) (ns : List ℕ) → BeginsAt l r ns → StartsAt (ends_in l) r × (ends_after (ends_in l) r ≡ ends_in (grown l r ns))
starts l (reply.Snapped n s) ns b = (b.0, ap (λ (k : ℕ). record (ends_in l) { managed = k }) (let a = length-append l.managed (as_managed ns) in let c = length_managed ns in omega (arith, a, c, b.1)))
starts l (reply.Freed s) ns b = (b.0, ap (λ (k : ℕ). record (ends_in l) { managed = k }) (let a = length-append l.managed (as_managed ns) in let c = length_managed ns in omega (arith, a, c, b.1)))
starts l (reply.Swept j s) ns b = (b.0, ap (λ (k : ℕ). record (ends_in l) { peers = k }) (let a = length-append l.peers (as_peers ns) in let c = length_peers ns in omega (arith, a, c, b.1)))
starts l (reply.Took s) ns b = (b.0, ap (λ (k : ℕ). record (ends_in l) { notices = k }) (let a = length-append l.notices (as_managed ns) in let c = length_managed ns in omega (arith, a, c, b.1)))
starts l r ns b = (tt, refl)

-- all of them
pub record Meant (h : Finished) (n : ℕ) (l m : Lists) (es : List Entry) (text : List ℕ) : Type 0 where
  pub numbers : NumberedFrom n es
  pub fits : All (FitsLists h.freed_managed h.freed_peers h.notices) es
  pub types : All FitsTypes es
  pub meant : All (λ e. IsMeant e.made.op e.made.reply) es
  pub spans : SpansRun (ends_in l) es
  pub ends : ends_of (ends_in l) es ≡ ends_in m
  pub whole : entries_text h es ≡ text

-- the line of an entry with other numbers that are shown alike
abbrev with_list : Entry → List (List ℕ) → List ℕ
with_list e z = spaced (decimal e.number ∷ place_text e.made.caller e.made.index ∷ (event_words e.made.caller e.made.op ++ (codes "=" ∷ ((reply_words e.made.reply ++ z) ++ cite_words e.made.cites))))

pub all_meant : (h : Finished) (n : ℕ) (l : Lists) (es : List Entry) (text : List ℕ) (m : Lists) → ReadsLines n l es text m → Grows m (lists_of h) → Few (lists_of h) → Meant h n l m es text
all_meant h n l [] text m r g f = record { numbers = tt; fits = All-nil _; types = All-nil FitsTypes; meant = All-nil _; spans = tt; ends = ap ends_in (sym r.1); whole = sym r.0 }
all_meant h n l (x ∷ es) text m r g f =
    let w = r.4 in
    let mid = r.2 in
    let k = all_meant h (n + 1) mid es r.1 m r.5 g f in
    let on : Grows mid (lists_of h) = grows_on mid m (lists_of h) (lines_grow (n + 1) mid es r.1 m r.5) g in
    let here : Grows (grown l x.made.reply w.numbers) (lists_of h) = subst (λ (z : Lists). Grows z (lists_of h)) w.grows on in
    let s = stays h l x.made.reply w.numbers here f w.begins w.line.shown in
    let b = starts l x.made.reply w.numbers w.begins in
    let next : ends_after (ends_in l) x.made.reply ≡ ends_in mid = b.1 ∙ ap ends_in (sym w.grows) in
    let line : entry_text h x ≡ r.0 ++ 10 ∷ [] = entry_spaced h x ∙ ap (λ z. z ++ 10 ∷ []) (sym (w.line.same ∙ ap (with_list x) s.said)) in
    let F : List MNum → Type 0 = λ z. Few (lists_of h) in
    record {
      numbers = (w.same, k.numbers);
      fits = All-cons (FitsLists h.freed_managed h.freed_peers h.notices) x es record { event = w.line.event; spans = s.spans } k.fits;
      types = All-cons FitsTypes x es w.line.fits k.types;
      meant = All-cons (λ (e : Entry). IsMeant e.made.op e.made.reply) x es w.meant k.meant;
      spans = (b.0, subst (λ (z : Ends). SpansRun z es) (sym next) k.spans);
      ends = ap (λ (z : Ends). ends_of z es) next ∙ k.ends;
      whole = ap (λ z. z ++ entries_text h es) line ∙ (ap (λ z. (r.0 ++ 10 ∷ []) ++ z) k.whole ∙ (append_assoc r.0 (10 ∷ []) r.1 ∙ sym r.3));
    }

-- the numbers in the lists are short
record AllShort (l : Lists) : Type 0 where
  managed : All (λ m. Short m.0) l.managed
  peers : All (λ p. Short p.0) l.peers
  notices : All (λ m. Short m.0) l.notices

abbrev IsShortManaged : MNum → Type 0
IsShortManaged m = Short m.0

abbrev IsShortPeer : PNum → Type 0
IsShortPeer p = Short p.0

short_managed : (ns : List ℕ) → All Short ns → All (λ (m : MNum). Short m.0) (as_managed ns)
short_managed ns h = All-map (λ (m : MNum). Short m.0) (λ (n : ℕ). record { 0 = n }) ns h

short_peers : (ns : List ℕ) → All Short ns → All (λ (p : PNum). Short p.0) (as_peers ns)
short_peers ns h = All-map (λ (p : PNum). Short p.0) (λ (n : ℕ). record { 0 = n }) ns h

shorts_by : (l : Lists) (r : Reply) (ns : List ℕ) → IsShown r ns → AllShort l → AllShort (grown l r ns)
shorts_by l (reply.Snapped n s) ns w h = record { managed = All-append IsShortManaged l.managed (as_managed ns) h.managed (short_managed ns w.short); peers = h.peers; notices = h.notices }
shorts_by l (reply.Freed s) ns w h = record { managed = All-append IsShortManaged l.managed (as_managed ns) h.managed (short_managed ns w.short); peers = h.peers; notices = h.notices }
shorts_by l (reply.Swept j s) ns w h = record { managed = h.managed; peers = All-append IsShortPeer l.peers (as_peers ns) h.peers (short_peers ns w.short); notices = h.notices }
shorts_by l (reply.Took s) ns w h = record { managed = h.managed; peers = h.peers; notices = All-append IsShortManaged l.notices (as_managed ns) h.notices (short_managed ns w.short) }
shorts_by l r ns w h = h

shorts : (n : ℕ) (l : Lists) (es : List Entry) (text : List ℕ) (m : Lists) → ReadsLines n l es text m → AllShort l → AllShort m
shorts n l [] text m r h = subst AllShort (sym r.1) h
shorts n l (x ∷ es) text m r h = shorts (n + 1) r.2 es r.1 m r.5 (subst AllShort (sym r.4.grows) (shorts_by l x.made.reply r.4.numbers r.4.line.shown h))

-- the history of what was read
pub record IsItsText (h : Finished) (text : List ℕ) : Type 0 where
  pub canonical : IsCanonical h
  pub whole : entries_text h h.entries ≡ text

pub canonical_of : (es : List Entry) (text : List ℕ) (m : Lists) → ReadsLines 0 no_lists es text m → Few m → IsItsText (history_of record { entries = es; lists = m }) text
canonical_of es text m r f =
    let h = history_of record { entries = es; lists = m } in
    let k = all_meant h 0 no_lists es text m r (grows_none m) record { managed = f.managed; peers = f.peers; notices = f.notices } in
    let s = shorts 0 no_lists es text m r record { managed = All-nil _; peers = All-nil _; notices = All-nil _ } in
    let managed : length m.managed ≡ (ends_of no_ends es).managed = ap (λ (e : Ends). e.managed) (sym k.ends) in
    let peers : length m.peers ≡ (ends_of no_ends es).peers = ap (λ (e : Ends). e.peers) (sym k.ends) in
    let notices : length m.notices ≡ (ends_of no_ends es).notices = ap (λ (e : Ends). e.notices) (sym k.ends) in
    record {
      canonical = record {
        value = record { history = record { numbers = k.numbers; fits = k.fits }; fits = k.types; managed = s.managed; peers = s.peers; notices = s.notices };
        meant = k.meant;
        spans = k.spans;
        just = record {
          managed = managed;
          peers = peers;
          notices = notices;
          few_managed = (let a = f.managed in omega (arith, managed, a));
          few_peers = (let a = f.peers in omega (arith, peers, a));
          few_notices = (let a = f.notices in omega (arith, notices, a));
        };
      };
      whole = k.whole;
    }
