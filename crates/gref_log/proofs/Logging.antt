-- A log that is made entry after entry, by events and replies alone, is the log of the history.
use Rattle.std.proofs.Common.{◌≡◌, ℕ, ◌+◌, ◌-◌, ◌≤◌, ◌⊎◌, inl, inr, Bool, true, false, List, [], ◌∷◌, ◌++◌, length, map, Option, Some, None, refl, sym, ap, subst, ◌∙◌, arith, append-nil}
use Rattle.std.proofs.Common.{length-append}
use Rattle.std.specs.Prelude.{All}
use Rattle.std.proofs.Math.Nat.{min-eq_left}
use Rattle.std.proofs.lemmas.List.{append_assoc, length-map}
use Rattle.std.proofs.lemmas.List.Sums.{count_by-le-length}
use Rattle.joint_machine.specs.declared.names.Thread.{Thread}
use Rattle.joint_machine.specs.declared.names.Thread.TheVariants.{M, P, C}
use Rattle.joint_machine.specs.declared.lines.Act.{Act}
use Rattle.joint_machine.specs.declared.lines.Act.TheVariants as act
use Rattle.joint_machine.specs.declared.events.Entry.{Entry}
use Rattle.joint_machine.specs.declared.events.Made.{Made}
use Rattle.joint_machine.specs.declared.events.Op.{Op}
use Rattle.joint_machine.specs.declared.events.Op.TheVariants as op
use Rattle.joint_machine.specs.declared.events.Reply.{Reply}
use Rattle.joint_machine.specs.declared.events.Reply.TheVariants as says
use Rattle.joint_machine.specs.Heaps.{slot, numbered_at}
use Rattle.joint_machine.specs.Histories.{Finished}
use Rattle.joint_machine.specs.Lines.{is_peer_event, is_read}
use Rattle.joint_machine.specs.Linked.{Linkage, SideLawful, linkage_after, opening_linkage}
use Rattle.joint_machine.specs.Replaying.{AllMayCome}
use Rattle.joint_machine.specs.LinkedHistories.{IsLinked, IsLinkedBy}
use Rattle.joint_machine.specs.PeerReplay.{PeerReplay, peer_answer}
use Rattle.joint_machine.specs.Peers.{Issued}
use Rattle.joint_machine.specs.Readers.{is_aside, is_set_aside}
use Rattle.joint_machine.specs.Told.{Noted, Told}
use Rattle.joint_machine.proofs.Deciding.{and-true, true_false}
use Rattle.joint_laws.specs.ReadingLaws.{IsLawfulReading, without_aside}
use Rattle.joint_laws.proofs.LinkedEntries.{Of, BothInvariants-entry, BothInvariants-opening}
use Rattle.joint_laws.proofs.ReadsAside.{reading_is_lawful, without-cons}
use Rattle.summary_laws.proofs.Names.{NamesInvariant, names-opening}
use Rattle.log_text.specs.declared.lines.LogLine.{LogLine}
use Rattle.log_text.specs.declared.lines.Mark.{Mark}
use Rattle.log_text.specs.declared.lines.Mark.TheVariants.{GPlus, GMinus, WPlus, WMinus}
use Rattle.log_text.specs.Behind.{Behind, Fits, IsLog, behind_all, moved, none_live}
use Rattle.gref_log.specs.Laws.{IsWholeLog}
use Rattle.gref_log.specs.Log.{Change, behind_peers, changed, changes, entry_lines, is_strong_row, is_weak_row, lines_of, log_from, log_of_notes, made_on, minus, peer_next, unnamed}
use Rattle.gref_log.specs.Tracking.{Logged, Tracked, after_line, counted, given_of, given_on, line_after, logged_after, logged_all, nothing_logged, one_more, peer_at, tracked_after, tracked_changes}
use Rattle.gref_log.specs.Tracking.{tracked_of, tracked_on, with_line, with_lines, changed_all}
use Rattle.gref_log.proofs.Counting.{counts_are_tables, entry-goes, logs_are_logs, same-log, step}
use Rattle.gref_log.proofs.TableSteps.{Follows}
use Rattle.gref_log.proofs.Tracks.{changes-tracked, entry-tracks, peer-at}

-- the greatest count of a line
abbrev MOST : ℕ
MOST = 4294967295

-- both counts fit
abbrev AreShort : Behind → Type 0
AreShort v = (v.grefc ≤ MOST) × (v.gwrefc ≤ MOST)

-- behind each change both counts fit
abbrev AllShort : List Issued → Behind → List Change → Type 0
AllShort issued v [] = Unit {0}
AllShort issued v (d ∷ ds) = AreShort (changed issued v d) × AllShort issued (changed issued v d) ds

-- the counts are those that stand behind
record Counts (g : Logged) (v : Behind) : Type 0 where
  strong : g.grefc ≡ v.grefc
  weak : g.gwrefc ≡ v.gwrefc

up : (a b : ℕ) → a ≡ b → b + 1 ≤ MOST → one_more a ≡ b + 1
up a b e l = ap one_more e ∙ min-eq_left l

counted-so : (g : Logged) (v : Behind) (m : Mark) (h p : ℕ) → Counts g v → AreShort (moved v m h p) → Counts (counted g m) (moved v m h p)
counted-so g v GPlus h p c l = record { strong = up g.grefc v.grefc c.strong l.0; weak = c.weak }
counted-so g v GMinus h p c l = record { strong = ap (λ n. n - 1) c.strong; weak = c.weak }
counted-so g v WPlus h p c l = record { strong = c.strong; weak = up g.gwrefc v.gwrefc c.weak l.1 }
counted-so g v WMinus h p c l = record { strong = c.strong; weak = ap (λ n. n - 1) c.weak }

counted-keeps : (g : Logged) (m : Mark) → ((counted g m).lines ≡ g.lines) × ((counted g m).tracked ≡ g.tracked)
counted-keeps g GPlus = (refl, refl)
counted-keeps g GMinus = (refl, refl)
counted-keeps g WPlus = (refl, refl)
counted-keeps g WMinus = (refl, refl)

-- lines were put
record Grew (issued : List Issued) (number : ℕ) (g : Logged) (v : Behind) (ds : List Change) : Type 0 where
  lines : (with_lines g number ds).lines ≡ g.lines ++ lines_of issued number v ds
  tracked : (with_lines g number ds).tracked ≡ g.tracked
  counts : Counts (with_lines g number ds) (changed_all issued v ds)

module _ (issued : List Issued) (number : ℕ) where
  line-is : (d : Change) (p a b q x y : ℕ) → p ≡ q → a ≡ x → b ≡ y
      → (let l : LogLine = record { mark = d.mark; h = record { 0 = d.handle }; p = record { 0 = p }; grefc = a; gwrefc = b; entry = number } in l)
      ≡ (let l : LogLine = record { mark = d.mark; h = record { 0 = d.handle }; p = record { 0 = q }; grefc = x; gwrefc = y; entry = number } in l)
  line-is d p a b q x y e f g = λ i. record { mark = d.mark; h = record { 0 = d.handle }; p = record { 0 = e i }; grefc = f i; gwrefc = g i; entry = number }

  lines-grow : (ds : List Change) (g : Logged) (v : Behind) → Counts g v → ((h : ℕ) → peer_at g.tracked.given h ≡ made_on issued h) → AllShort issued v ds → Grew issued number g v ds
  lines-grow [] g v c p l = record { lines = sym (append-nil g.lines); tracked = refl; counts = c }
  lines-grow (d ∷ ds) g v c p l =
      let k = counted-keeps g d.mark in
      let w = counted-so g v d.mark d.handle (made_on issued d.handle) c l.0 in
      let peer : peer_at (counted g d.mark).tracked.given d.handle ≡ made_on issued d.handle = ap (λ t. peer_at t.given d.handle) k.1 ∙ p d.handle in
      let one = line-is d _ _ _ _ _ _ peer w.strong w.weak in
      let rest = lines-grow ds (with_line g number d) (changed issued v d) (record { strong = w.strong; weak = w.weak }) (λ h. ap (λ t. peer_at t.given h) k.1 ∙ p h) l.1 in
      record {
        lines = rest.lines ∙ (append_assoc g.lines (line_after (counted g d.mark) number d ∷ []) (lines_of issued number (changed issued v d) ds)
            ∙ ap (λ x. g.lines ++ x ∷ lines_of issued number (changed issued v d) ds) one);
        tracked = rest.tracked ∙ k.1;
        counts = rest.counts;
      }

-- the changes of an entry: none, one, or two of different strengths
abbrev AreFew : List Change → Type 0
AreFew ds = (ds ≡ []) ⊎ ((d : Change) × (ds ≡ d ∷ [])) ⊎ ((h k : ℕ) × (ds ≡ record { mark = GPlus; handle = h } ∷ record { mark = WMinus; handle = k } ∷ []))
    ⊎ ((h k : ℕ) × (ds ≡ record { mark = WPlus; handle = h } ∷ record { mark = GMinus; handle = k } ∷ []))

none : AreFew []
none = inl refl

one : (d : Change) → AreFew (d ∷ [])
one d = inr (inl (d, refl))

few : (s : PeerReplay) (o : Op) (r : Reply) → AreFew (changes s o r)
few s (op.Make sort f) (says.Made p h) = one _
few s (op.Grip x) (says.Gripped p h sort f) = one _
few s (op.Line (act.Global g v)) (says.H h) = one _
few s (op.Line (act.WGlobal g v)) (says.H h) = one _
few s (op.Weaken h) says.Ok = inr (inr (inr (h.0, h.0, refl)))
few s (op.Restore h) (says.Renewed g) = inr (inr (inl (g.0, h.0, refl)))
few s (op.Restore h) says.Cleared = one _
few s (op.Release h) says.Ok = one _
few s (op.Line (act.UnGlobal g)) says.Ok = named (slot s.peers.names g.0)
  where
    of : (h : ℕ) (o : Option Issued) → AreFew (elim o [ None ↦ [] | Some i ↦ record { mark = minus i.strength; handle = h } ∷ [] ])
    of h None = none
    of h (Some i) = one _

    named : (o : Option ℕ) → AreFew (unnamed s o)
    named None = none
    named (Some h) = of h (numbered_at s.peers.issued h)
few s o r = none

-- so behind each of them the counts are those before, or those at the end
short : (issued : List Issued) (v : Behind) (ds : List Change) → AreFew ds → AreShort v → AreShort (changed_all issued v ds) → AllShort issued v ds
short issued v ds (inl e) a b = subst (AllShort issued v) (sym e) tt
short issued v ds (inr (inl (d, e))) a b = subst (AllShort issued v) (sym e) (subst (λ x. AreShort (changed_all issued v x)) e b, tt)
short issued v ds (inr (inr (inl (h, k, e)))) a b = (let c = subst (λ x. AreShort (changed_all issued v x)) e b in subst (AllShort issued v) (sym e) ((c.0, a.1), (c, tt)))
short issued v ds (inr (inr (inr (h, k, e)))) a b = (let c = subst (λ x. AreShort (changed_all issued v x)) e b in subst (AllShort issued v) (sym e) ((a.0, c.1), (c, tt)))

-- what is logged goes with the peer side
record GoesWith (g : Logged) (s : PeerReplay) : Type 0 where
  tracked : g.tracked ≡ tracked_of s.peers
  counts : Counts g (behind_peers s)

-- no count is greater than the number of handles that were given
few-enough : (s : PeerReplay) → length s.table ≡ length s.peers.issued → length s.peers.issued ≤ MOST → AreShort (behind_peers s)
few-enough s l m = (let a = count_by-le-length is_strong_row s.table in omega (arith, a, l, m), let a = count_by-le-length is_weak_row s.table in omega (arith, a, l, m))

-- what is given stays so
abbrev given-length : Logged → ℕ
given-length g = length g.tracked.given

lines-keep : (number : ℕ) (ds : List Change) (g : Logged) → (with_lines g number ds).tracked ≡ g.tracked
lines-keep number [] g = refl
lines-keep number (d ∷ ds) g = lines-keep number ds (with_line g number d) ∙ (counted-keeps g d.mark).1

-- one entry
record EntryLogged (s : PeerReplay) (n : Noted) (g : Logged) : Type 0 where
  lines : (logged_after g n.entry).lines ≡ g.lines ++ entry_lines s (behind_peers s) n
  goes : GoesWith (logged_after g n.entry) (peer_next s n)

logged-entry : (s : PeerReplay) (n : Noted) (g : Logged) → GoesWith g s
    → tracked_after (tracked_of s.peers) n.entry.made.caller n.entry.made.op n.entry.made.reply ≡ tracked_of (peer_next s n).peers
    → Follows s.peers.issued (peer_next s n).peers.issued s.table (peer_next s n).table (changes s n.entry.made.op n.entry.made.reply)
    → AreShort (behind_peers s) → AreShort (behind_peers (peer_next s n)) → EntryLogged s n g
logged-entry s n g w t f a b =
    let m = n.entry.made in
    let issued = (peer_next s n).peers.issued in
    let ds = changes s m.op m.reply in
    let same : tracked_changes g.tracked m.op m.reply ≡ ds = ap (λ x. tracked_changes x m.op m.reply) w.tracked ∙ changes-tracked s m.op m.reply in
    let now : (tracked_on g n.entry).tracked ≡ tracked_of (peer_next s n).peers = ap (λ x. tracked_after x m.caller m.op m.reply) w.tracked ∙ t in
    let at : (h : ℕ) → peer_at (tracked_on g n.entry).tracked.given h ≡ made_on issued h = λ h. ap (λ x. peer_at x.given h) now ∙ peer-at issued h in
    let fits = short issued (behind_peers s) ds (few s m.op m.reply) a (subst AreShort (sym f.ends) b) in
    let r = lines-grow issued n.entry.number ds (tracked_on g n.entry) (behind_peers s) (record { strong = w.counts.strong; weak = w.counts.weak }) at fits in
    let is : logged_after g n.entry ≡ with_lines (tracked_on g n.entry) n.entry.number ds = ap (with_lines (tracked_on g n.entry) n.entry.number) same in
    record {
      lines = ap (λ x. x.lines) is ∙ r.lines;
      goes = record {
        tracked = ap (λ x. x.tracked) is ∙ (r.tracked ∙ now);
        counts = record {
          strong = ap (λ x. x.grefc) is ∙ (r.counts.strong ∙ ap (λ x. x.grefc) f.ends);
          weak = ap (λ x. x.gwrefc) is ∙ (r.counts.weak ∙ ap (λ x. x.gwrefc) f.ends);
        };
      };
    }

-- the handles that were given stay, whatever comes
no-less : (n : ℕ) → n ≤ n
no-less n = omega arith

grows-given : (t : Tracked) (p : ℕ) (b : Bool) → length t.given ≤ length (t.given ++ given_on p b ∷ [])
grows-given t p b = (let l = length-append t.given (given_on p b ∷ []) in omega (arith, l))

grows-line : (t : Tracked) (u : ℕ) (a : Act) (r : Reply) → length t.given ≤ length (after_line t u a r).given
grows-line t u (act.Global g v) (says.H h) = grows-given t _ _
grows-line t u (act.WGlobal g v) (says.H h) = grows-given t _ _
grows-line t u (act.NewPeer v n) (says.P p) = no-less (length t.given)
grows-line t u (act.Copy v w) (says.P p) = no-less (length t.given)
grows-line t u (act.Get v w i) (says.P p) = no-less (length t.given)
grows-line t u (act.Drop v) says.Ok = no-less (length t.given)
grows-line t u (act.Load v x) (says.P p) = no-less (length t.given)
grows-line t u (act.WRead v g) (says.P p) = no-less (length t.given)
grows-line t u (act.UnGlobal g) says.Ok = no-less (length t.given)
grows-line t u a r = no-less (length t.given)

grows : (t : Tracked) (u : Thread) (o : Op) (r : Reply) → length t.given ≤ length (tracked_after t u o r).given
grows t u (op.Make sort f) (says.Made p h) = grows-given t _ _
grows t u (op.Grip x) (says.Gripped p h sort f) = grows-given t _ _
grows t u (op.Restore h) (says.Renewed g) = grows-given t _ _
grows t (P u) (op.Line a) r = grows-line t u a r
grows t (M u) (op.Line a) r = no-less (length t.given)
grows t C (op.Line a) r = no-less (length t.given)
grows t u o r = no-less (length t.given)

all-grows : (es : List Entry) (g : Logged) → given-length g ≤ given-length (logged_all g es)
all-grows [] g = omega arith
all-grows (e ∷ es) g =
    let m = e.made in
    let a = grows g.tracked m.caller m.op m.reply in
    let b = ap (λ t. length t.given) (lines-keep e.number (tracked_changes g.tracked m.op m.reply) (tracked_on g e)) in
    let c = all-grows es (logged_after g e) in
    omega (arith, a, b, c)

-- a read is no peer event
read-still : (g : Logged) (number : ℕ) (t : Thread) (o : Op) (r : Reply) → is_read o ≡ true
    → with_lines (record g { tracked = tracked_after g.tracked t o r }) number (tracked_changes g.tracked o r) ≡ g
read-still g number (P u) (op.Line (act.Read k)) r e = refl
read-still g number (M u) (op.Line (act.Read k)) r e = refl
read-still g number C (op.Line (act.Read k)) r e = refl
read-still g number (P u) (op.Line (act.Await k)) r e = refl
read-still g number (M u) (op.Line (act.Await k)) r e = refl
read-still g number C (op.Line (act.Await k)) r e = refl
read-still g number t o r e = absurd (let f : ⊥ = cc in f)

abbrev entries : List Noted → List Entry
entries ns = map (λ (n : Noted). n.entry) ns

aside-logged : (ns : List Noted) (g : Logged) → logged_all g (entries ns) ≡ logged_all g (entries (without_aside ns))
aside-logged [] g = refl
aside-logged (n ∷ ns) g = by (is_aside n) refl (aside-logged ns g) (aside-logged ns (logged_after g n.entry))
  where
    by : (b : Bool) → is_aside n ≡ b → logged_all g (entries ns) ≡ logged_all g (entries (without_aside ns))
        → logged_all (logged_after g n.entry) (entries ns) ≡ logged_all (logged_after g n.entry) (entries (without_aside ns))
        → logged_all (logged_after g n.entry) (entries ns) ≡ logged_all g (entries (without_aside (n ∷ ns)))
    by true e dropped kept =
        let m = n.entry.made in
        let still = read-still g n.entry.number m.caller m.op m.reply (and-true (is_read m.op) (is_set_aside m.reply) e).0 in
        ap (λ x. logged_all x (entries ns)) still ∙ (dropped ∙ ap (λ z. logged_all g (entries z)) (sym (without-cons n ns true e)))
    by false e dropped kept = kept ∙ ap (λ z. logged_all g (entries z)) (sym (without-cons n ns false e))

replies-so : (s : Linkage) (m : Made) (told : Told) (b : Bool) → SideLawful b s m told → b ≡ true → m.reply ≡ (peer_answer s.peer m.caller m.op m.cites told).reply
replies-so s m told true w e = w.replies
replies-so s m told false w e = absurd (true_false (sym e))

-- all of a lawful list
whole-logged : (ns : List Noted) (s : Linkage) (g : Logged) → AllMayCome s ns → Of s
    → NamesInvariant s.peer.peers.names s.peer.table → GoesWith g s.peer → given-length (logged_all g (entries ns)) ≤ MOST
    → (logged_all g (entries ns)).lines ≡ g.lines ++ log_from s.peer (behind_peers s.peer) ns
whole-logged [] s g a k names w l = sym (append-nil g.lines)
whole-logged (n ∷ ns) s g a k names w l =
    let m = n.entry.made in
    let next = peer_next s.peer n in
    let t = step s n a.0 k names in
    let kept = BothInvariants-entry s n a.0 k in
    let ls = entry_lines s.peer (behind_peers s.peer) n in
    let ends : behind_all (behind_peers s.peer) ls ≡ behind_peers next = (entry-goes s.peer n t.follows).ends in
    let tracks = entry-tracks s.peer m n.told (is_peer_event m.caller m.op) refl (replies-so s m n.told (is_peer_event m.caller m.op) a.0.lawful) in
    let now : tracked_after g.tracked m.caller m.op m.reply ≡ tracked_of next.peers = ap (λ x. tracked_after x m.caller m.op m.reply) w.tracked ∙ tracks in
    let many : given-length (logged_after g n.entry) ≡ length next.peers.issued = ap (λ x. length x.given)
    (lines-keep n.entry.number (tracked_changes g.tracked m.op m.reply) (tracked_on g n.entry) ∙ now) ∙ length-map next.peers.issued given_of in
    let was : given-length g ≡ length s.peer.peers.issued = ap (λ x. length x.given) w.tracked ∙ length-map s.peer.peers.issued given_of in
    let more = all-grows (entries ns) (logged_after g n.entry) in
    let all = all-grows (entries (n ∷ ns)) g in
    let one = logged-entry s.peer n g w tracks t.follows (few-enough s.peer k.peer.handles.places (omega (arith, was, all, l)))
    (few-enough next kept.peer.handles.places (omega (arith, many, more, l))) in
    let rest = whole-logged ns (linkage_after s n) (logged_after g n.entry) a.1 kept t.names one.goes l in
    rest ∙ (ap (λ x. x ++ log_from next (behind_peers next) ns) one.lines
    ∙ (append_assoc g.lines ls (log_from next (behind_peers next) ns) ∙ ap (λ v. g.lines ++ (ls ++ log_from next v ns)) (sym ends)))

-- the log of a linked history
log-lines : (h : Finished) (noted : List Noted) → IsLinkedBy h noted → given-length (logged_all nothing_logged h.entries) ≤ MOST → (logged_all nothing_logged h.entries).lines ≡ log_of_notes noted
log-lines h noted w l =
    let lawful : IsLawfulReading noted = (noted, _, w.lawful) in
    let same : logged_all nothing_logged h.entries ≡ logged_all nothing_logged (entries (without_aside noted)) = ap (logged_all nothing_logged) (sym w.same) ∙ aside-logged noted nothing_logged in
    ap (λ g. g.lines) same ∙ (whole-logged (without_aside noted) opening_linkage nothing_logged (reading_is_lawful noted lawful) BothInvariants-opening names-opening
    (record { tracked = refl; counts = record { strong = refl; weak = refl } }) (subst (λ g. given-length g ≤ MOST) same l)
    ∙ sym (same-log noted lawful))

-- what is promised of the lines that were made
pub are_logged : (h : Finished) (g : Logged) → IsLinked h → g ≡ logged_all nothing_logged h.entries → All Fits g.lines → length g.tracked.given ≤ 4294967295 → IsWholeLog h g.lines
are_logged h g linked e f l =
    let is : (noted : List Noted) → IsLinkedBy h noted → g.lines ≡ log_of_notes noted = λ noted w. ap (λ x. x.lines) e ∙ log-lines h noted w (subst (λ x. given-length x ≤ MOST) e l) in
    let lawful : (noted : List Noted) → IsLinkedBy h noted → IsLawfulReading noted = λ noted w. (noted, _, w.lawful) in
    let same = is linked.noted linked.linked in
    record {
      log = subst IsLog (sym same) (logs_are_logs linked.noted (lawful linked.noted linked.linked) (subst (All Fits) same f));
      log_of_history = is;
      table = λ noted w. ap (behind_all none_live) (is noted w) ∙ counts_are_tables noted (lawful noted w);
    }
