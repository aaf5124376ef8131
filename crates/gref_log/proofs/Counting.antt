-- Entry after entry, what stands behind the log is what the handle table says.
use Rattle.std.proofs.Common.{◌≡◌, ℕ, zero, suc, Bool, true, false, List, [], ◌∷◌, ◌++◌, Option, Some, None, cond, length, refl, sym, ap, subst, ◌∙◌, arith, All}
use Rattle.std.specs.Prelude.{◌&&◌, IsSome, if◌then◌else◌, is_some, not}
use Rattle.std.proofs.lemmas.List.Elements.{All-head, All-tail}
use Rattle.joint_machine.specs.declared.names.HNum.{HNum}
use Rattle.joint_machine.specs.declared.names.Thread.{Thread}
use Rattle.joint_machine.specs.declared.names.Thread.TheVariants.{M, P, C}
use Rattle.joint_machine.specs.declared.lines.Act.{Act}
use Rattle.joint_machine.specs.declared.lines.Act.TheVariants as act
use Rattle.joint_machine.specs.declared.events.Op.{Op}
use Rattle.joint_machine.specs.declared.events.Op.TheVariants as op
use Rattle.joint_machine.specs.declared.events.Made.{Made}
use Rattle.joint_machine.specs.declared.events.Reply.{Reply}
use Rattle.joint_machine.specs.Control.{CallerAllows, doing_at}
use Rattle.joint_machine.specs.Heaps.{numbered_at}
use Rattle.joint_machine.specs.Lines.{IsEvent, is_peer_event, is_read}
use Rattle.joint_machine.specs.Linked.{Linkage, MayCome, SideLawful, opening_linkage, linkage_after, peer_after}
use Rattle.joint_machine.specs.Replaying.{AllMayCome, replayed}
use Rattle.joint_machine.specs.PeerReplay.{PeerReplay, TableRow, opening_peer_replay}
use Rattle.joint_machine.specs.Peers.{Issued, Strength, strong, weak}
use Rattle.joint_machine.specs.Readers.{AllMayComeReading, EntryMayCome, entry_after, is_aside, is_set_aside, replayed_reading, reader_after}
use Rattle.joint_machine.specs.Told.{Told, Noted}
use Rattle.joint_machine.proofs.Numbered.{numbered-made, numbered-within}
use Rattle.joint_laws.specs.LinkedInvariants.{HasStrength, LinkageInvariant}
use Rattle.joint_laws.specs.PeerInvariants.{IsTabled}
use Rattle.joint_laws.specs.ReadingLaws.{IsLawfulReading, without_aside}
use Rattle.joint_laws.proofs.LinkedEntries.{Of, BothInvariants-entry, BothInvariants-opening}
use Rattle.joint_laws.proofs.LinkedThreads.{release-hand}
use Rattle.joint_laws.proofs.ReadsAside.{reading_is_lawful, reading_leads_to_same, without-cons}
use Rattle.summary_laws.proofs.Names.{NamesInvariant, names-opening}
use Rattle.log_text.specs.declared.lines.LogLine.{LogLine}
use Rattle.log_text.specs.Behind.{AreLawful, Behind, Fits, HasCounts, MayStand, behind, behind_all, none_live}
use Rattle.gref_log.specs.Log.{Change, behind_peers, changed, changes, entry_lines, is_strong_row, is_weak_row, lines_of, log_from, log_of_notes, peer_in, peer_next}
use Rattle.gref_log.specs.Tracking.{changed_all}
use Rattle.gref_log.specs.Laws.{CountsAreTheTables, LiveAreTheRows, LogsAreLogs}
use Rattle.gref_log.proofs.Going.{in-hand, waiting}
use Rattle.gref_log.proofs.PeerLines.{Goes, peer-goes}
use Rattle.gref_log.proofs.TableSteps.{AllStand, Follows, stays}

-- an event of the managed side writes no line
own-line : (s : PeerReplay) (t : Thread) (a : Act) (r : Reply) → IsEvent t (op.Line a) → is_peer_event t (op.Line a) ≡ false → changes s (op.Line a) r ≡ []
own-line s (P u) a r e b = (let f : ⊥ = cc in absurd f)
own-line s (M u) (act.Global g v) r e b = absurd e.0.1
own-line s (M u) (act.WGlobal g v) r e b = absurd e.0.1
own-line s (M u) (act.UnGlobal g) r e b = absurd e.0.1
own-line s (M u) a r e b = refl
own-line s C (act.Global g v) r e b = absurd e.0
own-line s C (act.WGlobal g v) r e b = absurd e.0
own-line s C (act.UnGlobal g) r e b = absurd e.0
own-line s C a r e b = refl

quiet : (s : PeerReplay) (t : Thread) (o : Op) (r : Reply) → IsEvent t o → is_peer_event t o ≡ false → changes s o r ≡ []
quiet s t (op.Line a) r e b = own-line s t a r e b
quiet s t (op.Make sort f) r e b = (let f : ⊥ = cc in absurd f)
quiet s t (op.Grip x) r e b = (let f : ⊥ = cc in absurd f)
quiet s t (op.Weaken h) r e b = (let f : ⊥ = cc in absurd f)
quiet s t (op.Restore h) r e b = (let f : ⊥ = cc in absurd f)
quiet s t (op.Release h) r e b = (let f : ⊥ = cc in absurd f)
quiet s t _ r e b = refl

-- one entry
pub record Steps (s : Linkage) (m : Made) (told : Told) (b : Bool) : Type 0 where
  pub follows : Follows s.peer.peers.issued (peer_after s.peer m told b).peers.issued s.peer.table (peer_after s.peer m told b).table (changes s.peer m.op m.reply)
  pub names : NamesInvariant (peer_after s.peer m told b).peers.names (peer_after s.peer m told b).table

module _ (s : Linkage) (k : LinkageInvariant s) (names : NamesInvariant s.peer.peers.names s.peer.table) where
  released : (t : Thread) (l : ℕ) (o : Op) (m : Made) (told : Told) → IsEvent t o
      → CallerAllows s.control s.managed.managed s.peer.peers.issued t l o m.reply m.cites told → (h : HNum) → o ≡ op.Release h → HasStrength s.peer h.0 strong
  released t l (op.Release g) m told e w h q = subst (λ (z : HNum). HasStrength s.peer z.0 strong) (let p : g ≡ h = cc in p) (at t e w)
    where
      at : (t : Thread) → IsEvent t (op.Release g) → CallerAllows s.control s.managed.managed s.peer.peers.issued t l (op.Release g) m.reply m.cites told → HasStrength s.peer g.0 strong
      at (M u) e w = in-hand s k u g.0 (release-hand (doing_at s.control u) (M u) l g m.cites w)
      at (P u) e w = absurd e
      at C e w = absurd e
  released t l o m told e w h q = (let f : ⊥ = cc in absurd f)

  restored : (t : Thread) (l : ℕ) (o : Op) (m : Made) (told : Told) → IsEvent t o
      → CallerAllows s.control s.managed.managed s.peer.peers.issued t l o m.reply m.cites told → (h : HNum) → o ≡ op.Restore h → HasStrength s.peer h.0 weak
  restored t l (op.Restore g) m told e w h q = subst (λ (z : HNum). HasStrength s.peer z.0 weak) (let p : g ≡ h = cc in p) (at t e w)
    where
      at : (t : Thread) → IsEvent t (op.Restore g) → CallerAllows s.control s.managed.managed s.peer.peers.issued t l (op.Restore g) m.reply m.cites told → HasStrength s.peer g.0 weak
      at C e w = waiting s k s.control.stand g m.reply m.cites told k.driver w
      at (M u) e w = absurd e
      at (P u) e w = absurd e
  restored t l o m told e w h q = (let f : ⊥ = cc in absurd f)

  by : (m : Made) (told : Told) (b : Bool) → is_peer_event m.caller m.op ≡ b → IsEvent m.caller m.op → SideLawful b s m told
      → CallerAllows s.control s.managed.managed s.peer.peers.issued m.caller m.index m.op m.reply m.cites told → Steps s m told b
  by m told true q e w a =
      let g = peer-goes s.peer k.peer names m.caller m.op m.cites told w.allowed (released m.caller m.index m.op m told e a) (restored m.caller m.index m.op m told e a) in
      let h : Goes s.peer (peer_after s.peer m told true).peers (peer_after s.peer m told true).table m.op m.reply = subst
      (λ z. Goes s.peer (peer_after s.peer m told true).peers (peer_after s.peer m told true).table m.op z) (sym w.replies) g in
      record { follows = h.follows; names = h.names }
  by m told false q e w a = record {
    follows = subst (λ ds. Follows s.peer.peers.issued s.peer.peers.issued s.peer.table s.peer.table ds)
        (sym (quiet s.peer m.caller m.op m.reply e q)) (stays s.peer.peers.issued s.peer.peers.issued s.peer.table s.peer.table refl refl);
    names = names;
  }

pub step : (s : Linkage) (n : Noted) → MayCome s n → Of s → NamesInvariant s.peer.peers.names s.peer.table → Steps s n.entry.made n.told (is_peer_event n.entry.made.caller n.entry.made.op)
step s n a k names = by s (record { managed = k.managed; peer = k.peer; owners = k.owners; callers = k.callers; driver = k.driver }) names n.entry.made n.told
    (is_peer_event n.entry.made.caller n.entry.made.op) refl a.event a.lawful a.order

-- what stands behind the lines of changes
lines-behind : (issued : List Issued) (number : ℕ) (v : Behind) (ds : List Change) → behind_all v (lines_of issued number v ds) ≡ changed_all issued v ds
lines-behind issued number v [] = refl
lines-behind issued number v (d ∷ ds) = lines-behind issued number (changed issued v d) ds

-- each line may stand, and has the counts behind it
pub record IsRight (v : Behind) (l : LogLine) : Type 0 where
  pub stands : MayStand v l.mark l.h.0 l.p.0
  pub counts : HasCounts (behind v l) l

abbrev pub AreRight : Behind → List LogLine → Type 0
AreRight v [] = Unit {0}
AreRight v (l ∷ ls) = IsRight v l × AreRight (behind v l) ls

lines-right : (issued : List Issued) (number : ℕ) (v : Behind) (ds : List Change) → AllStand issued v ds → AreRight v (lines_of issued number v ds)
lines-right issued number v [] a = tt
lines-right issued number v (d ∷ ds) a = (record { stands = a.0; counts = record { strong = refl; weak = refl } }, lines-right issued number (changed issued v d) ds a.1)

pub right-append : (v : Behind) (a b : List LogLine) → AreRight v a → AreRight (behind_all v a) b → AreRight v (a ++ b)
right-append v [] b p q = q
right-append v (l ∷ a) b p q = (p.0, right-append (behind v l) a b p.1 q)

pub behind-append : (v : Behind) (a b : List LogLine) → behind_all v (a ++ b) ≡ behind_all (behind_all v a) b
behind-append v [] b = refl
behind-append v (l ∷ a) b = behind-append (behind v l) a b

pub right-lawful : (v : Behind) (ls : List LogLine) → All Fits ls → AreRight v ls → AreLawful v ls
right-lawful v [] f a = tt
right-lawful v (l ∷ ls) f a = (record { fits = All-head Fits l ls f; stands = a.0.stands; counts = a.0.counts }, right-lawful (behind v l) ls (All-tail Fits l ls f) a.1)

-- the lines of an entry
pub record EntryGoes (s t : PeerReplay) (ls : List LogLine) : Type 0 where
  pub right : AreRight (behind_peers s) ls
  pub ends : behind_all (behind_peers s) ls ≡ behind_peers t

pub entry-goes : (s : PeerReplay) (n : Noted) → Follows s.peers.issued (peer_next s n).peers.issued s.table (peer_next s n).table (changes s n.entry.made.op n.entry.made.reply)
    → EntryGoes s (peer_next s n) (entry_lines s (behind_peers s) n)
entry-goes s n f =
    let issued = (peer_next s n).peers.issued in
    let ds = changes s n.entry.made.op n.entry.made.reply in
    record {
      right = lines-right issued n.entry.number (behind_peers s) ds f.stands;
      ends = lines-behind issued n.entry.number (behind_peers s) ds ∙ f.ends;
    }

-- all of a lawful list
record WholeLog (s : Linkage) (ns : List Noted) : Type 0 where
  right : AreRight (behind_peers s.peer) (log_from s.peer (behind_peers s.peer) ns)
  ends : behind_all (behind_peers s.peer) (log_from s.peer (behind_peers s.peer) ns) ≡ behind_peers (replayed s ns).peer
  kept : Of (replayed s ns)

whole : (ns : List Noted) (s : Linkage) → AllMayCome s ns → Of s → NamesInvariant s.peer.peers.names s.peer.table → WholeLog s ns
whole [] s a k names = record { right = tt; ends = refl; kept = k }
whole (n ∷ ns) s a k names =
    let t = step s n a.0 k names in
    let g = entry-goes s.peer n t.follows in
    let w = whole ns (linkage_after s n) a.1 (BothInvariants-entry s n a.0 k) t.names in
    let v = behind_peers s.peer in
    let ls = entry_lines s.peer v n in
    let next = peer_next s.peer n in
    let e : behind_all v ls ≡ behind_peers next = g.ends in
    record {
      right = right-append v ls (log_from next (behind_all v ls) ns) g.right (subst (λ z. AreRight z (log_from next z ns)) (sym e) w.right);
      ends = behind-append v ls (log_from next (behind_all v ls) ns) ∙ (ap (λ z. behind_all z (log_from next z ns)) e ∙ w.ends);
      kept = w.kept;
    }

opening-behind : none_live ≡ behind_peers opening_peer_replay
opening-behind = λ i. record { strong = λ h. none is_strong_row h i; weak = λ h. none is_weak_row h i; grefc = 0; gwrefc = 0 }
  where
    none : (f : Option TableRow → Bool) (h : ℕ) → None ≡ peer_in f (numbered_at [] h) (numbered_at [] h)
    none f zero = refl
    none f (suc h) = refl

-- a read that is set aside writes no line
read-quiet : (t : Thread) (o : Op) → IsEvent t o → is_read o ≡ true → is_peer_event t o ≡ false
read-quiet (M u) (op.Line (act.Read k)) e r = refl
read-quiet (M u) (op.Line (act.Await k)) e r = refl
read-quiet (P u) (op.Line (act.Read k)) e r = absurd e.0.1
read-quiet (P u) (op.Line (act.Await k)) e r = absurd e.0.1
read-quiet C (op.Line (act.Read k)) e r = absurd e.0
read-quiet C (op.Line (act.Await k)) e r = absurd e.0
read-quiet t o e r = absurd (let f : ⊥ = cc in f)

silent : (s : PeerReplay) (n : Noted) (ns : List Noted) (v : Behind) → is_peer_event n.entry.made.caller n.entry.made.op ≡ false
    → changes s n.entry.made.op n.entry.made.reply ≡ [] → log_from s v (n ∷ ns) ≡ log_from s v ns
silent s n ns v e f =
    let m = n.entry.made in
    let at : Bool → List Change → List LogLine = λ b ds. (let next = peer_after s m n.told b in let ls = lines_of next.peers.issued n.entry.number v ds in ls ++ log_from next (behind_all v ls) ns) in
    ap (λ b. at b (changes s m.op m.reply)) e ∙ ap (at false) f

module _ (all : List Noted) (cells : List (Option ℕ)) where
  aside-log : (ns : List Noted) (s : Linkage) (v : Behind) → AllMayComeReading all cells s ns → log_from s.peer v ns ≡ log_from s.peer v (without_aside ns)
  aside-log [] s v a = refl
  aside-log (n ∷ ns) s v a = by (is_read n.entry.made.op) refl a.0 (aside-log ns (entry_after s n) v a.1) (aside-log ns (entry_after s n) (behind_all v (entry_lines s.peer v n)) a.1)
    where
      same-rest : (x y : PeerReplay) (u : Behind) → x ≡ y → log_from x u ns ≡ log_from x u (without_aside ns) → log_from y u ns ≡ log_from y u (without_aside ns)
      same-rest x y u e r = subst (λ z. log_from z u ns ≡ log_from z u (without_aside ns)) e r

      by : (b : Bool) → is_read n.entry.made.op ≡ b → EntryMayCome b all cells s n → log_from (entry_after s n).peer v ns ≡ log_from (entry_after s n).peer v (without_aside ns)
          → log_from (entry_after s n).peer (behind_all v (entry_lines s.peer v n)) ns ≡ log_from (entry_after s n).peer (behind_all v (entry_lines s.peer v n)) (without_aside ns)
          → log_from s.peer v (n ∷ ns) ≡ log_from s.peer v (without_aside (n ∷ ns))
      by true e w r _ =
          let m = n.entry.made in
          let q = read-quiet m.caller m.op w.0.event e in
          let c = quiet s.peer m.caller m.op m.reply w.0.event q in
          let peer : (entry_after s n).peer ≡ s.peer = ap (λ (b : Bool). (if b then reader_after s n else linkage_after s n).peer) e in
          silent s.peer n ns v q c ∙ (same-rest (entry_after s n).peer s.peer v peer r ∙ (dropped (is_aside n) q c ∙ ap (log_from s.peer v) (sym (without-cons n ns (is_aside n) refl))))
        where
          dropped : (b : Bool) → is_peer_event n.entry.made.caller n.entry.made.op ≡ false → changes s.peer n.entry.made.op n.entry.made.reply ≡ []
              → log_from s.peer v (without_aside ns) ≡ log_from s.peer v (cond (not b) (n ∷ without_aside ns) (without_aside ns))
          dropped true q c = refl
          dropped false q c = sym (silent s.peer n (without_aside ns) v q c)
      by false e w _ r =
          let peer : (entry_after s n).peer ≡ peer_next s.peer n = ap (λ (b : Bool). (if b then reader_after s n else linkage_after s n).peer) e in
          let keeps = without-cons n ns false (ap (λ b. b && is_set_aside n.entry.made.reply) e) in
          ap (λ t. entry_lines s.peer v n ++ t) (same-rest (entry_after s n).peer (peer_next s.peer n) (behind_all v (entry_lines s.peer v n)) peer r) ∙ ap (log_from s.peer v) (sym keeps)

module _ (noted : List Noted) (w : IsLawfulReading noted) where
  abbrev others : List Noted
  others = without_aside noted

  all-of : WholeLog opening_linkage others
  all-of = whole others opening_linkage (reading_is_lawful noted w) BothInvariants-opening names-opening

  pub same-log : log_of_notes noted ≡ log_from opening_peer_replay (behind_peers opening_peer_replay) others
  same-log = aside-log w.0 w.1 noted opening_linkage none_live w.2 ∙ ap (λ v. log_from opening_peer_replay v others) opening-behind

  same-peer : (replayed opening_linkage others).peer ≡ (replayed_reading opening_linkage noted).peer
  same-peer = sym (reading_leads_to_same noted w).peer

  behind-log : behind_all none_live (log_of_notes noted) ≡ behind_peers (replayed_reading opening_linkage noted).peer
  behind-log = ap (behind_all none_live) same-log ∙ (ap (λ v. behind_all v (log_from opening_peer_replay (behind_peers opening_peer_replay) others)) opening-behind
      ∙ (all-of.ends ∙ ap behind_peers same-peer))

  pub log-right : AreRight none_live (log_of_notes noted)
  log-right = subst (AreRight none_live) (sym same-log) (subst (λ v. AreRight v (log_from opening_peer_replay (behind_peers opening_peer_replay) others)) (sym opening-behind) all-of.right)

  places : length (replayed_reading opening_linkage noted).peer.table ≡ length (replayed_reading opening_linkage noted).peer.peers.issued
  places = subst (λ (s : PeerReplay). length s.table ≡ length s.peers.issued) same-peer all-of.kept.peer.handles.places

pub counts_are_tables : CountsAreTheTables
counts_are_tables = behind-log

pub logs_are_logs : LogsAreLogs
logs_are_logs noted w f = right-lawful none_live (log_of_notes noted) f (log-right noted w)

-- a live handle of a kind is a row of that kind
row-live : (f : Option TableRow → Bool) (o : Option (Option TableRow)) (j : Option Issued) → f None ≡ false → IsSome (peer_in f o j) → (row : TableRow) × (o ≡ Some (Some row)) × (f (Some row) ≡ true)
row-live f None j n s = (let e : ⊥ = cc in absurd e)
row-live f (Some o) None n s = (let e : ⊥ = cc in absurd e)
row-live f (Some None) (Some j) n s = (let e : ⊥ = (let q = ap (λ b. is_some (cond b (Some j.peer) None)) n in let r : is_some (cond (f None) (Some j.peer) None) ≡ true = s in cc) in absurd e)
row-live f (Some (Some row)) (Some j) n s = by (f (Some row)) refl s
  where
    by : (b : Bool) → f (Some row) ≡ b → IsSome (cond b (Some j.peer) None) → (r : TableRow) × (Some (Some row) ≡ Some (Some r)) × (f (Some r) ≡ true)
    by true e s = (row, refl, e)
    by false e s = (let q : ⊥ = cc in absurd q)

strength-strong : (row : TableRow) → is_strong_row (Some row) ≡ true → row.strength ≡ strong
strength-strong row e = by row.strength refl e
  where
    by : (x : Strength) → row.strength ≡ x → elim x [ strong ↦ true | weak ↦ false ] ≡ true → row.strength ≡ strong
    by strong q e = q
    by weak q e = (let f : ⊥ = cc in absurd f)

strength-weak : (row : TableRow) → is_weak_row (Some row) ≡ true → row.strength ≡ weak
strength-weak row e = by row.strength refl e
  where
    by : (x : Strength) → row.strength ≡ x → elim x [ strong ↦ false | weak ↦ true ] ≡ true → row.strength ≡ weak
    by strong q e = (let f : ⊥ = cc in absurd f)
    by weak q e = q

live-row : (f : Option TableRow → Bool) (issued : List Issued) (t : List (Option TableRow)) (h : ℕ) (row : TableRow)
    → length t ≡ length issued → IsTabled t h row → f (Some row) ≡ true → IsSome (peer_in f (numbered_at t h) (numbered_at issued h))
live-row f issued t h row l c e =
    let w = numbered-within t h (Some row) c in
    let i = numbered-made issued h w.0 (omega (arith, w.1, l)) in
    ap is_some (ap (λ z. peer_in f z (numbered_at issued h)) c ∙ (ap (peer_in f (Some (Some row))) i.1 ∙ ap (λ b. cond b (Some i.0.peer) None) e))

pub live_are_rows : LiveAreTheRows
live_are_rows noted w h =
    let s = (replayed_reading opening_linkage noted).peer in
    let e = behind-log noted w in
    let l = places noted w in
    let weakly = λ (q : HasStrength s h weak). subst (λ (v : Behind). IsSome (v.weak h)) (sym e)
    (live-row is_weak_row s.peers.issued s.table h q.0 l q.1 (ap (λ z. elim z [ strong ↦ false | weak ↦ true ]) q.2)) in
    let strongly = λ (q : HasStrength s h strong). subst (λ (v : Behind). IsSome (v.strong h)) (sym e)
    (live-row is_strong_row s.peers.issued s.table h q.0 l q.1 (ap (λ z. elim z [ strong ↦ true | weak ↦ false ]) q.2)) in (
      (
        λ q. (let r = row-live is_strong_row (numbered_at s.table h) (numbered_at s.peers.issued h) refl (subst (λ (v : Behind). IsSome (v.strong h)) e q) in (r.0, r.1, strength-strong r.0 r.2)),
        strongly,
      ),
      (λ q. (let r = row-live is_weak_row (numbered_at s.table h) (numbered_at s.peers.issued h) refl (subst (λ (v : Behind). IsSome (v.weak h)) e q) in (r.0, r.1, strength-weak r.0 r.2)), weakly),
    )
