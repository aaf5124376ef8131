-- A line is read as one entry, behind the same lists. So lines are read as one list of entries.
use Rattle.std.proofs.Common.{◌≡◌, ◌≢◌, ℕ, ◌+◌, Bool, true, false, List, [], ◌∷◌, ◌++◌, get_or, drop, length, Option, Some, None, codes, decimal, refl, sym, ap, ◌∙◌, subst, arith, append_assoc}
use Rattle.std.proofs.Common.{true≢false}
use Rattle.joint_machine.specs.declared.names.Thread.{Thread}
use Rattle.joint_machine.specs.declared.names.MNum.{MNum}
use Rattle.joint_machine.specs.declared.names.Marking.{Marking}
use Rattle.joint_machine.specs.declared.names.Span.{Span}
use Rattle.joint_machine.specs.declared.lines.Act.TheVariants as act
use Rattle.joint_machine.specs.declared.events.Op.{Op}
use Rattle.joint_machine.specs.declared.events.Op.TheVariants as op
use Rattle.joint_machine.specs.declared.events.Reply.{Reply}
use Rattle.joint_machine.specs.declared.events.Reply.TheVariants as reply
use Rattle.joint_machine.specs.declared.events.Entry.{Entry}
use Rattle.history_report.specs.Report.{event_words, cite_words, end_text}
use Rattle.text_words.proofs.Cutting.{cut-first}
use Rattle.text_words.proofs.Decimals.{decimal-one}
use Rattle.text_words.proofs.PlainWords.{no-equals}
use Rattle.history_report.proofs.Plain.{plain-event}
use Rattle.history_report.proofs.TextLines.{place-one}
use Rattle.entry_reader.specs.Fitting.{FitsCites}
use Rattle.entry_reader.specs.Events.{IsReadable}
use Rattle.entry_reader.specs.Meaning.{Lists, BeginsAt, grown}
use Rattle.entry_reader.specs.Meant.{IsMeant}
use Rattle.entry_reader.specs.Saying.{said, line_words}
use Rattle.entry_reader.specs.Tailing.{ReadsEntry}
use Rattle.entry_reader.proofs.WholeLines.{line_cut, line_head}
use Rattle.report_reader.specs.Faults.{IsEntryText}
use Rattle.report_reader.specs.Steps.{ReadsLines}
use Rattle.report_reader.proofs.Texts.{text_lacks, not_last}
use Rattle.report_reader.proofs.Replies.{MeantBy, Unsigned, bare, byte_of, one_reply, shown_by, unsigned}
use Rattle.report_reader.proofs.Events.{one_event}

-- what of a reply's reading the event tells
abbrev pub takes : Op → Bool
takes (op.Line (act.Finalise n)) = true
takes o = false

abbrev pub sweeps : Op → Bool
sweeps op.Sweep = true
sweeps o = false

meant_one : (o : Op) (m : MNum) → IsMeant o (reply.M m) → takes o ≡ false
meant_one (op.Line (act.Finalise n)) m h = absurd h
meant_one (op.Line a) m h = refl
meant_one o m h = refl

meant_took : (o : Op) (s : Span) (ns : List ℕ) → IsMeant o (reply.Took s) → s.count ≡ length ns → takes o ≡ false → length ns ≢ 1
meant_took (op.Line (act.Finalise n)) s ns h b e = absurd (true≢false e)
meant_took (op.Line a) s ns h b e = λ q. h (b ∙ q)
meant_took o s ns h b e = λ q. h (b ∙ q)

meant_snapped : (o : Op) (n : ℕ) (s : Span) (ns : List ℕ) → IsMeant o (reply.Snapped n s) → s.count ≡ length ns → sweeps o ≡ true → length ns ≢ 0
meant_snapped op.Sweep n s ns h b e = λ q. h (b ∙ q)
meant_snapped o n s ns h b e = absurd (true≢false (sym e))

meant_swept : (o : Op) (j : Marking) (s : Span) (ns : List ℕ) → IsMeant o (reply.Swept j s) → s.count ≡ length ns → sweeps o ≡ false → length ns ≢ 0
meant_swept op.Sweep j s ns h b e = absurd (true≢false e)
meant_swept (op.Line (act.Finalise n)) j s ns h b e = λ q. h (b ∙ q)
meant_swept o j s ns h b e = λ q. h (b ∙ q)

meant_by : (o : Op) (l : Lists) (r : Reply) (ns : List ℕ) → IsMeant o r → BeginsAt l r ns → MeantBy (takes o) (sweeps o) r ns
meant_by o l (reply.M m) ns h b = meant_one o m h
meant_by o l (reply.Took s) ns h b = meant_took o s ns h b.1
meant_by o l (reply.Snapped n s) ns h b = meant_snapped o n s ns h b.1
meant_by o l (reply.Swept j s) ns h b = meant_swept o j s ns h b.1
meant_by o l r ns h b = tt

-- where a span stands goes by the lists before it
abbrev place : Lists → List ℕ → Reply → Reply
place l ns (reply.Snapped n s) = reply.Snapped n record { first = length l.managed; count = length ns }
place l ns (reply.Freed s) = reply.Freed record { first = length l.managed; count = length ns }
place l ns (reply.Swept j s) = reply.Swept j record { first = length l.peers; count = length ns }
place l ns (reply.Took s) = reply.Took record { first = length l.notices; count = length ns }
place l ns r = r

placed : (l : Lists) (r : Reply) (ns : List ℕ) → BeginsAt l r ns → place l (shown_by r ns) (bare r) ≡ r
placed l (reply.Snapped n s) ns b = λ i. reply.Snapped n record { first = sym b.0 i; count = sym b.1 i }
placed l (reply.Freed s) ns b = λ i. reply.Freed record { first = sym b.0 i; count = sym b.1 i }
placed l (reply.Swept j s) ns b = λ i. reply.Swept j record { first = sym b.0 i; count = sym b.1 i }
placed l (reply.Took s) ns b = λ i. reply.Took record { first = sym b.0 i; count = sym b.1 i }
placed l r ns b = refl

grown_by : (l : Lists) (r : Reply) (ns : List ℕ) → grown l r (shown_by r ns) ≡ grown l r ns
grown_by l (reply.Snapped n s) ns = refl
grown_by l (reply.Freed s) ns = refl
grown_by l (reply.Swept j s) ns = refl
grown_by l (reply.Took s) ns = refl
grown_by l r ns = refl

-- a reply's words are cut from what the line cites
cut_cites : (xs ys : List (List ℕ)) (c d : Option ℕ) → Unsigned xs → Unsigned ys → xs ++ cite_words c ≡ ys ++ cite_words d → (xs ≡ ys) × (cite_words c ≡ cite_words d)
cut_cites [] [] c d p q e = (refl, e)
cut_cites [] (y ∷ ys) None d p q e = absurd (let h : [] ≡ y ∷ (ys ++ cite_words d) = e in cc)
cut_cites [] (y ∷ ys) (Some n) d p q e = absurd (q.0 (sym (ap (λ (ws : List (List ℕ)). byte_of (get_or ws 0 [])) e)))
cut_cites (x ∷ xs) [] c None p q e = absurd (let h : x ∷ (xs ++ cite_words c) ≡ [] = e in cc)
cut_cites (x ∷ xs) [] c (Some n) p q e = absurd (p.0 (ap (λ (ws : List (List ℕ)). byte_of (get_or ws 0 [])) e))
cut_cites (x ∷ xs) (y ∷ ys) c d p q e =
    let first : x ≡ y = ap (λ (ws : List (List ℕ)). get_or ws 0 []) e in
    let k = cut_cites xs ys c d p.1 q.1 (ap (drop 1) e) in
    let rest : xs ≡ ys = k.0 in
    ((λ i. first i ∷ rest i), k.1)

one_citation : (c d : Option ℕ) → FitsCites c → cite_words c ≡ cite_words d → c ≡ d
one_citation None None f e = refl
one_citation None (Some n) f e = absurd (let h : [] ≡ (64 ∷ decimal n) ∷ [] = e in cc)
one_citation (Some n) None f e = absurd (let h : (64 ∷ decimal n) ∷ [] ≡ [] = e in cc)
one_citation (Some n) (Some m) f e = ap Some (decimal-one n m f (ap (λ (ws : List (List ℕ)). drop 1 (get_or ws 0 [])) e))

-- a line's entry
record SameEntry (e f : Entry) (a b : Lists) : Type 0 where
  entry : e ≡ f
  lists : a ≡ b

same_entry : (line : List ℕ) (n : ℕ) (l a b : Lists) (e f : Entry) → ReadsEntry line n l a e → ReadsEntry line n l b f → SameEntry e f a b
same_entry line n l a b e f x y =
    let words : line_words e x.numbers ≡ line_words f y.numbers = sym (line_cut line e x.numbers x.line.same) ∙ line_cut line f y.numbers y.line.same in
    let he = (line_head line n e x.numbers x.same x.line).0 in
    let hf = (line_head line n f y.numbers y.same y.line).0 in
    let at = place-one e.made.caller f.made.caller e.made.index f.made.index he.0 (let s = he.1 in omega (arith, s)) (ap (λ (ws : List (List ℕ)). get_or ws 1 []) words) in
    let t = e.made.caller in
    let readable : IsReadable t f.made.op = subst (λ (z : Thread). IsReadable z f.made.op) (sym at.0) hf.2 in
    let ve = event_words t e.made.op in
    let vf = event_words f.made.caller f.made.op in
    let te = said e.made.reply x.numbers ++ cite_words e.made.cites in
    let tf = said f.made.reply y.numbers ++ cite_words f.made.cites in
    let cut = cut-first (codes "=") ve vf te tf (no-equals ve (plain-event t e.made.op)) (no-equals vf (plain-event f.made.caller f.made.op)) (ap (drop 2) words) in
    let event = one_event t e.made.op f.made.op he.2 readable (cut.0 ∙ ap (λ (z : Thread). event_words z f.made.op) (sym at.0)) in
    let tails = cut_cites (said e.made.reply x.numbers) (said f.made.reply y.numbers) e.made.cites f.made.cites
    (unsigned e.made.reply x.numbers x.line.fits.reply) (unsigned f.made.reply y.numbers y.line.fits.reply) cut.1 in
    let meant = subst (λ (z : Op). IsMeant z f.made.reply) (sym event) y.meant in
    let told = one_reply (takes e.made.op) (sweeps e.made.op) e.made.reply f.made.reply x.numbers y.numbers x.line.fits.reply y.line.fits.reply x.line.shown y.line.shown
    (meant_by e.made.op l e.made.reply x.numbers x.meant x.begins) (meant_by e.made.op l f.made.reply y.numbers meant y.begins) tails.0 in
    let reply : e.made.reply ≡ f.made.reply = sym (placed l e.made.reply x.numbers x.begins) ∙ ((λ i. place l (told.1 i) (told.0 i)) ∙ placed l f.made.reply y.numbers y.begins) in
    let cites = one_citation e.made.cites f.made.cites x.line.fits.cites tails.1 in
    let number : e.number ≡ f.number = x.same ∙ sym y.same in
    record {
      entry = λ i. record { number = number i; made = record { caller = at.0 i; index = at.1 i; op = event i; reply = reply i; cites = cites i } };
      lists = x.grows ∙ (sym (grown_by l e.made.reply x.numbers) ∙ ((λ i. grown l (reply i) (told.1 i)) ∙ (grown_by l f.made.reply y.numbers ∙ sym y.grows)));
    }

entry_of : (line : List ℕ) (n : ℕ) (l a : Lists) (e : Entry) → ReadsEntry line n l a e → IsEntryText n line
entry_of line n l a e x = record { entry = e; numbers = x.numbers; same = x.same; line = x.line }

-- lines, and a last line behind them
pub record SameRead (es fs : List Entry) (a b : Lists) : Type 0 where
  pub entries : es ≡ fs
  pub lists : a ≡ b

pub same_read : (n : ℕ) (l : Lists) (es fs : List Entry) (s t : List ℕ) (a b : Lists) (j k : ℕ) → ReadsLines n l es s a → ReadsLines n l fs t b → s ++ end_text j ≡ t ++ end_text k → SameRead es fs a b
same_read n l [] [] s t a b j k x y e = record { entries = refl; lists = x.1 ∙ sym y.1 }
same_read n l [] (f ∷ fs) s t a b j k x y e =
    absurd (not_last n y.0 ((10 ∷ y.1) ++ end_text k) _ (entry_of y.0 n l y.2 f y.4)
    (sym (append_assoc y.0 (10 ∷ y.1) (end_text k)) ∙ (sym (ap (λ z. z ++ end_text k) y.3) ∙ (sym e ∙ ap (λ z. z ++ end_text j) x.0))))
same_read n l (e ∷ es) [] s t a b j k x y q =
    absurd (not_last n x.0 ((10 ∷ x.1) ++ end_text j) _ (entry_of x.0 n l x.2 e x.4)
    (sym (append_assoc x.0 (10 ∷ x.1) (end_text j)) ∙ (sym (ap (λ z. z ++ end_text j) x.3) ∙ (q ∙ ap (λ z. z ++ end_text k) y.0))))
same_read n l (e ∷ es) (f ∷ fs) s t a b j k x y q =
    let split : x.0 ++ (10 ∷ (x.1 ++ end_text j)) ≡ y.0 ++ (10 ∷ (y.1 ++ end_text k)) =
    sym (append_assoc x.0 (10 ∷ x.1) (end_text j)) ∙ (sym (ap (λ z. z ++ end_text j) x.3) ∙ (q ∙ (ap (λ z. z ++ end_text k) y.3 ∙ append_assoc y.0 (10 ∷ y.1) (end_text k)))) in
    let cut = cut-first 10 x.0 y.0 (x.1 ++ end_text j) (y.1 ++ end_text k) (text_lacks n x.0 (entry_of x.0 n l x.2 e x.4)) (text_lacks n y.0 (entry_of y.0 n l y.2 f y.4)) split in
    let y4 : ReadsEntry x.0 n l y.2 f = subst (λ z. ReadsEntry z n l y.2 f) (sym cut.0) y.4 in
    let one = same_entry x.0 n l x.2 y.2 e f x.4 y4 in
    let y5 : ReadsLines (n + 1) x.2 fs y.1 b = subst (λ (z : Lists). ReadsLines (n + 1) z fs y.1 b) (sym one.lists) y.5 in
    let rest = same_read (n + 1) x.2 es fs x.1 y.1 a b j k x.5 y5 cut.1 in
    let first = one.entry in
    let more = rest.entries in
    record { entries = λ i. first i ∷ more i; lists = rest.lists }
