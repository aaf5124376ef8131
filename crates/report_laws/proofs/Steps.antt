-- In a lawful list each span begins where its list ends so far: a snapshot and a resolution put what they free behind
-- the rows that were freed, a sweep behind the peers, and notices are taken in turn. Every other reply has no span, and
-- leaves the lists as they are.
use Rattle.std.proofs.Common.{◌≡◌, ℕ, Bool, true, false, ◌||◌, List, [], ◌∷◌, length, map, All, Option, Some, None, refl, sym, ap, subst, ◌∙◌, length-append}
use Rattle.std.specs.Prelude.{if◌then◌else◌}
use Rattle.std.proofs.lemmas.List.Elements.{All-cons, All-nil}
use Rattle.joint_machine.specs.declared.names.Thread.{Thread}
use Rattle.joint_machine.specs.declared.names.Thread.TheVariants.{M, P, C}
use Rattle.joint_machine.specs.declared.lines.Act.TheVariants as act
use Rattle.joint_machine.specs.declared.events.Op.{Op}
use Rattle.joint_machine.specs.declared.events.Op.TheVariants as op
use Rattle.joint_machine.specs.declared.events.Reply.{Reply}
use Rattle.joint_machine.specs.declared.events.Reply.TheVariants as reply
use Rattle.joint_machine.specs.declared.events.Entry.{Entry}
use Rattle.joint_machine.specs.declared.events.Made.{Made}
use Rattle.joint_machine.specs.Heaps.{answer}
use Rattle.joint_machine.specs.Lines.{IsEvent, is_peer_event}
use Rattle.joint_machine.specs.Linked.{Linkage, MayCome, SideLawful, linkage_after, managed_after, peer_after}
use Rattle.joint_machine.specs.Replaying.{AllMayCome, replayed}
use Rattle.joint_machine.specs.PeerReplay.{Marking, is_thread, swept, swept_of, SweepAllows}
use Rattle.joint_machine.specs.Told.{Told, Noted, nothing, resolution_of, snap_of, sweep_of}
use Rattle.entry_reader.specs.Meant.{IsMeant}
use Rattle.joint_laws.proofs.FreedRows.{FreesRows, answer-freed}
use Rattle.joint_laws.proofs.JointSteps.{may-end}
use Rattle.joint_laws.proofs.LinkedEntries.{BothInvariants-entry, Of, entry}
use Rattle.joint_laws.proofs.PeerEntries.{refused-by}
use Rattle.joint_laws.proofs.PeerFreed.{entry-freed}
use Rattle.joint_laws.proofs.PlainReplies.{IsPlain}
use Rattle.joint_laws.proofs.SpansTold.{plain-entry}
use Rattle.report_reader.specs.Reading.{Ends, SpansRun, StartsAt, ends_after, ends_of}
use Rattle.report_laws.proofs.Taken.{IsTaking, answer-keeps}

-- how far the lists reach at a state
abbrev pub ends_at : Linkage → Ends
ends_at s = record { managed = length s.managed.managed.heap.freed; peers = length s.peer.peers.heap.freed; notices = s.managed.managed.taken }

-- a reply without a span
pub plain-starts : (e : Ends) (r : Reply) → IsPlain r → StartsAt e r
plain-starts e (reply.Snapped n s) p = absurd p
plain-starts e (reply.Swept j s) p = absurd p
plain-starts e (reply.Freed s) p = absurd p
plain-starts e (reply.Took s) p = absurd p
plain-starts e r p = tt

pub plain-ends : (e : Ends) (r : Reply) → IsPlain r → ends_after e r ≡ e
plain-ends e (reply.Snapped n s) p = absurd p
plain-ends e (reply.Swept j s) p = absurd p
plain-ends e (reply.Freed s) p = absurd p
plain-ends e (reply.Took s) p = absurd p
plain-ends e r p = refl

pub plain-meant : (o : Op) (r : Reply) → (IsTaking o → ⊥) → IsPlain r → IsMeant o r
plain-meant o (reply.Snapped n s) out p = absurd p
plain-meant o (reply.Swept j s) out p = absurd p
plain-meant o (reply.Freed s) out p = absurd p
plain-meant o (reply.Took s) out p = absurd p
plain-meant (op.Line (act.Finalise n)) r out p = absurd (out tt)
plain-meant op.Sweep r out p = tt
plain-meant o r out p = tt

-- the entry of these parts, told so: its span begins where its list ends, and ends where the list does after it
record Goes (s : Linkage) (m : Made) (told : Told) : Type 0 where
  starts : StartsAt (ends_at s) m.reply
  managed : (ends_after (ends_at s) m.reply).managed ≡ length (managed_after s.managed m told (is_peer_event m.caller m.op)).managed.heap.freed
  peers : (ends_after (ends_at s) m.reply).peers ≡ length (peer_after s.peer m told (is_peer_event m.caller m.op)).peers.heap.freed
  notices : (ends_after (ends_at s) m.reply).notices ≡ (managed_after s.managed m told (is_peer_event m.caller m.op)).managed.taken
  meant : IsMeant m.op m.reply

module _ (s : Linkage) (k : Of s) (line : ℕ) (cites : Option ℕ) where
  abbrev With : Thread → Op → Told → Reply → Type 0
  With t o told r = Goes s (entry t line o r cites) told

  same-freed : (m : Made) (told : Told) (b : Bool) → (FreesRows m.op → ⊥) → SideLawful b s m told → (managed_after s.managed m told b).managed.heap.freed ≡ s.managed.managed.heap.freed
  same-freed m told true n l = refl
  same-freed m told false n l = answer-freed s.managed k.managed m.caller m.op told n l.allowed

  same-taken : (m : Made) (told : Told) (b : Bool) → (IsTaking m.op → ⊥) → (managed_after s.managed m told b).managed.taken ≡ s.managed.managed.taken
  same-taken m told true n = refl
  same-taken m told false n = answer-keeps s.managed m.caller m.op told n

  -- an entry whose reply has no span
  plainly : (t : Thread) (o : Op) (told : Told) (r : Reply) → (FreesRows o → ⊥) → (IsTaking o → ⊥)
      → (peer_after s.peer (entry t line o r cites) told (is_peer_event t o)).peers.heap.freed ≡ s.peer.peers.heap.freed
      → SideLawful (is_peer_event t o) s (entry t line o r cites) told → IsPlain r → With t o told r
  plainly t o told r n out same l p =
      let e = plain-ends (ends_at s) r p in
      record {
        starts = plain-starts (ends_at s) r p;
        managed = ap (λ (z : Ends). z.managed) e ∙ sym (ap length (same-freed (entry t line o r cites) told (is_peer_event t o) n l));
        peers = ap (λ (z : Ends). z.peers) e ∙ sym (ap length same);
        notices = ap (λ (z : Ends). z.notices) e ∙ sym (same-taken (entry t line o r cites) told (is_peer_event t o) out);
        meant = plain-meant o r out p;
      }

  -- a sweep
  record SweptSo (t : Thread) (x : Option Marking) (freed : List ℕ) (r : Reply) : Type 0 where
    starts : StartsAt (ends_at s) r
    managed : (ends_after (ends_at s) r).managed ≡ length s.managed.managed.heap.freed
    peers : (ends_after (ends_at s) r).peers ≡ length (swept s.peer x t freed).state.peers.heap.freed
    notices : (ends_after (ends_at s) r).notices ≡ s.managed.managed.taken
    meant : IsMeant op.Sweep r

  none-swept : (t : Thread) (freed : List ℕ) → SweepAllows s.peer None t (sweep_of freed) → ⊥
  none-swept (P u) freed a = a
  none-swept (M u) freed a = a
  none-swept C freed a = a

  swept-by : (mk : Marking) (t : Thread) (freed : List ℕ) (b : Bool) → b ≡ true → (is_thread t C || is_thread t mk.by) ≡ b
      → SweptSo t (Some mk) freed (if b then swept_of s.peer mk freed else answer (reply.MarkOpen record { 0 = mk.number }) s.peer).reply
  swept-by mk t freed true e q = record {
    starts = refl;
    managed = refl;
    peers = sym (length-append s.peer.peers.heap.freed freed) ∙ ap
        (λ c. length (if c then swept_of s.peer mk freed else answer (reply.MarkOpen record { 0 = mk.number }) s.peer).state.peers.heap.freed) (sym q);
    notices = refl;
    meant = tt;
  }
  swept-by mk t freed false e q = absurd (let f : ⊥ = cc in f)

  sweeps : (x : Option Marking) (t : Thread) (freed : List ℕ) → SweepAllows s.peer x t (sweep_of freed) → SweptSo t x freed (swept s.peer x t freed).reply
  sweeps None t freed a = absurd (none-swept t freed a)
  sweeps (Some mk) t freed a = swept-by mk t freed (is_thread t C || is_thread t mk.by) (may-end t mk.by a.0) refl

  refused-so : (mk : Marking) (t : Thread) (b : Bool) → (b ≡ true → ⊥) → (is_thread t C || is_thread t mk.by) ≡ b
      → SweptSo t (Some mk) [] (if b then swept_of s.peer mk [] else answer (reply.MarkOpen record { 0 = mk.number }) s.peer).reply
  refused-so mk t true f q = absurd (f refl)
  refused-so mk t false f q = record {
    starts = tt;
    managed = refl;
    peers = ap (λ c. length (if c then swept_of s.peer mk [] else answer (reply.MarkOpen record { 0 = mk.number }) s.peer).state.peers.heap.freed) (sym q);
    notices = refl;
    meant = tt;
  }

  unswept : (x : Option Marking) (t : Thread) → SweepAllows s.peer x t nothing → SweptSo t x [] (swept s.peer x t []).reply
  unswept None (P n) a = record { starts = tt; managed = refl; peers = refl; notices = refl; meant = tt }
  unswept None (M n) a = absurd a
  unswept None C a = absurd a
  unswept (Some mk) (P n) a = refused-so mk (P n) (is_thread (P n) C || is_thread (P n) mk.by) (λ e. refused-by n mk.by a e) refl
  unswept (Some mk) (M n) a = absurd a
  unswept (Some mk) C a = absurd a

  abbrev IsOther : Told → Type 0
  IsOther nothing = ⊥
  IsOther (sweep_of freed) = ⊥
  IsOther _ = Unit {0}

  none-other : (x : Option Marking) (t : Thread) (told : Told) → IsOther told → SweepAllows s.peer x t told → ⊥
  none-other x t nothing o a = o
  none-other x t (sweep_of freed) o a = o
  none-other None (P n) told o a = a
  none-other None (M n) told o a = a
  none-other None C told o a = a
  none-other (Some mk) (P n) told o a = a
  none-other (Some mk) (M n) told o a = a
  none-other (Some mk) C told o a = a

  -- each entry
  step-by : (t : Thread) (o : Op) (told : Told) (r : Reply) → IsEvent t o → SideLawful (is_peer_event t o) s (entry t line o r cites) told → With t o told r
  step-by C (op.Line (act.Finalise n)) nothing r e w = subst (With C (op.Line (act.Finalise n)) nothing)
      (sym w.replies) (record { starts = refl; managed = refl; peers = refl; notices = refl; meant = tt })
  step-by C (op.Line (act.Finalise n)) told r e w = absurd w.allowed
  step-by (M u) (op.Line (act.Finalise n)) told r e w = absurd e.0.1
  step-by (P u) (op.Line (act.Finalise n)) told r e w = absurd e.0.1
  step-by t (op.Snap c) (snap_of freed candidates dead) r e w = subst (With t (op.Snap c) (snap_of freed candidates dead)) (sym w.replies)
      (record { starts = refl; managed = sym (length-append s.managed.managed.heap.freed freed); peers = refl; notices = refl; meant = tt })
  step-by t (op.Snap c) told r e w = absurd w.allowed
  step-by t (op.Resolve c) (resolution_of alive freed) r e w = subst (With t (op.Resolve c) (resolution_of alive freed)) (sym w.replies)
      (record { starts = refl; managed = sym (length-append s.managed.managed.heap.freed freed); peers = refl; notices = refl; meant = tt })
  step-by t (op.Resolve c) told r e w = absurd w.allowed
  step-by t op.Sweep (sweep_of freed) r e w =
      let k = sweeps s.peer.marking t freed w.allowed in
      subst (With t op.Sweep (sweep_of freed)) (sym w.replies) (record { starts = k.starts; managed = k.managed; peers = k.peers; notices = k.notices; meant = k.meant })
  step-by t op.Sweep nothing r e w =
      let k = unswept s.peer.marking t w.allowed in
      subst (With t op.Sweep nothing) (sym w.replies) (record { starts = k.starts; managed = k.managed; peers = k.peers; notices = k.notices; meant = k.meant })
  step-by t op.Sweep told r e w = absurd (none-other s.peer.marking t told tt w.allowed)
  step-by t o told r e w =
      let n : Noted = record { entry = record { number = 0; made = entry t line o r cites }; told = told } in
      plainly t o told r (λ z. z) (λ z. z) (entry-freed s n k.peer (λ q. (let f : ⊥ = cc in f))) w (plain-entry s line r cites t o told (λ z. z) w).plain

step : (s : Linkage) (n : Noted) → MayCome s n → Of s → Goes s n.entry.made n.told
step s n w k = step-by s k n.entry.made.index n.entry.made.cites n.entry.made.caller n.entry.made.op n.told n.entry.made.reply w.event w.lawful

-- and so does a whole list
abbrev pub entries_of : List Noted → List Entry
entries_of ns = map (λ n. n.entry) ns

pub record Runs (e last : Ends) (es : List Entry) : Type 0 where
  pub spans : SpansRun e es
  pub ends : ends_of e es ≡ last
  pub meant : All (λ x. IsMeant x.made.op x.made.reply) es

pub runs : (s : Linkage) (ns : List Noted) → Of s → AllMayCome s ns → Runs (ends_at s) (ends_at (replayed s ns)) (entries_of ns)
runs s [] k w = record { spans = tt; ends = refl; meant = All-nil _ }
runs s (n ∷ ns) k w =
    let g = step s n w.0 k in
    let rest = runs (linkage_after s n) ns (BothInvariants-entry s n w.0 k) w.1 in
    let managed = g.managed in
    let peers = g.peers in
    let notices = g.notices in
    let next : ends_after (ends_at s) n.entry.made.reply ≡ ends_at (linkage_after s n) = (λ i. record { managed = managed i; peers = peers i; notices = notices i }) in
    record {
      spans = (g.starts, subst (λ (z : Ends). SpansRun z (entries_of ns)) (sym next) rest.spans);
      ends = ap (λ (z : Ends). ends_of z (entries_of ns)) next ∙ rest.ends;
      meant = All-cons (λ (x : Entry). IsMeant x.made.op x.made.reply) n.entry (entries_of ns) g.meant rest.meant;
    }
