-- What is tracked of the peers by events and replies alone goes with the peers: one lemma for each peer event.
use Rattle.std.proofs.Common.{◌≡◌, ℕ, zero, suc, Bool, true, false, ◌||◌, cond, List, [], ◌∷◌, ◌++◌, length, map, Option, Some, None, refl, sym, ap, ◌∙◌}
use Rattle.std.specs.Prelude.{nat_le, option_map, slice_set}
use Rattle.std.proofs.lemmas.List.{map-append}
use Rattle.std.proofs.lemmas.Option.{slice_get-map}
use Rattle.joint_machine.specs.declared.names.Cycle.{Cycle}
use Rattle.joint_machine.specs.declared.names.GName.{GName}
use Rattle.joint_machine.specs.declared.names.HNum.{HNum}
use Rattle.joint_machine.specs.declared.names.Sort.{Sort}
use Rattle.joint_machine.specs.declared.names.StaticNo.{StaticNo}
use Rattle.joint_machine.specs.declared.names.Thread.{Thread}
use Rattle.joint_machine.specs.declared.names.Thread.TheVariants.{M, P, C}
use Rattle.joint_machine.specs.declared.names.Var.{Var}
use Rattle.joint_machine.specs.declared.lines.Act.{Act}
use Rattle.joint_machine.specs.declared.lines.Act.TheVariants as act
use Rattle.joint_machine.specs.declared.events.Made.{Made}
use Rattle.joint_machine.specs.declared.events.Op.{Op}
use Rattle.joint_machine.specs.declared.events.Op.TheVariants as op
use Rattle.joint_machine.specs.declared.events.Reply.{Reply}
use Rattle.joint_machine.specs.declared.events.Reply.TheVariants as says
use Rattle.joint_machine.specs.Components.{End}
use Rattle.joint_machine.specs.Heaps.{Answered, Heap, answer, field_set, field_stored, fields_of, is_full, numbered_at, place, read_into, slot, stored, place_or_none}
use Rattle.joint_machine.specs.Lines.{is_peer_event}
use Rattle.joint_machine.specs.Linked.{peer_after}
use Rattle.joint_machine.specs.PeerReplay.{Marking, PeerReplay, TableRow, begun, bring_by, is_thread, mirrored, on_table, peer_answer, peer_thread_line, renewed_on, restored_by, row_of, sliced, swept}
use Rattle.joint_machine.specs.PeerReplay.{table_target}
use Rattle.joint_machine.specs.Peers.{Issued, Peers, Strength, handles_full, is_strong, landed, name_given, name_read, next_handle, on_peer_heap, pair_made, peer_gripped, peer_line, peer_name}
use Rattle.joint_machine.specs.Peers.{peer_of, peer_read, strong, weak}
use Rattle.joint_machine.specs.Told.{Told, references_of, slice_of, sweep_of}
use Rattle.joint_machine.proofs.Deciding.{option-cases, test-cases}
use Rattle.gref_log.specs.Log.{Change, changes, made_on, minus, unnamed}
use Rattle.gref_log.specs.Tracking.{Tracked, after_line, given_of, name_leaves as name_leaves_of, peer_at, peer_or_none, tracked_after, tracked_changes, tracked_of, with_given, with_name}
use Rattle.gref_log.specs.declared.tracked.Given.{Given}
use Rattle.log_text.specs.declared.lines.Mark.{Mark}
use Rattle.log_text.specs.declared.lines.Mark.TheVariants.{GMinus, WMinus}

numbered-map : {A B : Type 0} (f : A → B) (xs : List A) (n : ℕ) → numbered_at (map f xs) n ≡ option_map f (numbered_at xs n)
numbered-map f xs zero = refl
numbered-map f xs (suc i) = slice_get-map f xs i

-- the peer of a handle is tracked
pub peer-at : (issued : List Issued) (h : ℕ) → peer_at (map given_of issued) h ≡ made_on issued h
peer-at issued h = ap {B = ℕ} (λ (z : Option Given). elim z [ None ↦ 0 | Some g ↦ g.peer ]) (numbered-map given_of issued h) ∙ of (numbered_at issued h)
  where
    of : (o : Option Issued) → elim (option_map given_of o) as (λ y. ℕ)
        [ None ↦ 0 | Some g ↦ g.peer ] ≡ elim (elim o as (λ y. Option ℕ) [ None ↦ None | Some i ↦ Some i.peer ]) as (λ y. ℕ) [ None ↦ 0 | Some p ↦ p ]
    of None = refl
    of (Some i) = refl

-- what a name's end takes away is tracked
name-leaves : (s : PeerReplay) (o : Option ℕ) → name_leaves_of (map given_of s.peers.issued) o ≡ unnamed s o
name-leaves s None = refl
name-leaves s (Some h) = ap {B = List Change} (λ (z : Option Given). elim z [ None ↦ [] | Some g ↦ record { mark = cond g.strong GMinus WMinus; handle = h } ∷ [] ])
    (numbered-map given_of s.peers.issued h) ∙ of (numbered_at s.peers.issued h)
  where
    mark-of : (x : Strength) → cond (is_strong x) GMinus WMinus ≡ minus x
    mark-of strong = refl
    mark-of weak = refl

    of : (o : Option Issued) → elim (option_map given_of o) as (λ y. List Change)
        [ None ↦ [] | Some g ↦ record { mark = cond g.strong GMinus WMinus; handle = h } ∷ [] ] ≡ elim o as (λ y. List Change)
        [ None ↦ [] | Some i ↦ record { mark = minus i.strength; handle = h } ∷ [] ]
    of None = refl
    of (Some i) = ap (λ (m : Mark). let d : Change = record { mark = m; handle = h } in d ∷ []) (mark-of i.strength)

-- the handles that come or go are those that are tracked
pub changes-tracked : (s : PeerReplay) (o : Op) (r : Reply) → tracked_changes (tracked_of s.peers) o r ≡ changes s o r
changes-tracked s (op.Line (act.UnGlobal g)) says.Ok = name-leaves s (slot s.peers.names g.0)
changes-tracked s o r = refl

-- the variables of a heap after an event
abbrev SameVars : Heap → Answered Heap → Type 0
SameVars h a = a.state.vars ≡ h.vars

stored-vars : (h : Heap) (x i : ℕ) (w : Option ℕ) → SameVars h (field_stored h x i w)
stored-vars h x i None = refl
stored-vars h x i (Some w) = option-cases (SameVars h) _ _ (slot h.vars w) refl (λ y. refl)

set-vars : (h : Heap) (v i : ℕ) (w : Option ℕ) → SameVars h (field_set h v i w)
set-vars h v i w = option-cases (SameVars h) _ _ (slot h.vars v) refl (λ x. test-cases (SameVars h) (nat_le (length (fields_of h x)) i) _ _ refl (stored-vars h x i w))

store-vars : (h : Heap) (x : ℕ) (v : Option ℕ) → SameVars h (stored h x v)
store-vars h x None = refl
store-vars h x (Some v) = option-cases (SameVars h) _ _ (slot h.vars v) refl (λ y. refl)

module _ (s : Peers) where
  -- after an event with its reply, what is tracked is that of the peers then
  abbrev Tracks : Thread → Op → Answered Peers → Type 0
  Tracks t o a = tracked_after (tracked_of s) t o a.reply ≡ tracked_of a.state

  abbrev grown : Issued → List Given
  grown i = map given_of s.issued ++ given_of i ∷ []

  -- a further handle is tracked
  one-given : (i : Issued) → grown i ≡ map given_of (s.issued ++ i ∷ [])
  one-given i = sym (map-append given_of s.issued (i ∷ []))

  pair-tracks : (t : Thread) (sort : Sort) (n : ℕ) → Tracks t (op.Make sort n) (pair_made s sort n)
  pair-tracks t sort n = test-cases (Tracks t (op.Make sort n)) (is_full s.heap.fields || handles_full s) _ _ refl (ap (λ g. record (tracked_of s) { given = g }) (one-given _))

  grip-tracks : (t : Thread) (x : StaticNo) (q : Option ℕ) → Tracks t (op.Grip x) (peer_gripped s q)
  grip-tracks t x None = refl
  grip-tracks t x (Some q) = test-cases (Tracks t (op.Grip x)) (handles_full s) _ _ refl (ap (λ g. record (tracked_of s) { given = g }) (one-given _))

  land-tracks : (t : Thread) (h : HNum) (x : StaticNo) (i : ℕ) (o : Option ℕ) → Tracks t (op.Land h x) (landed s i o)
  land-tracks t h x i None = refl
  land-tracks t h x i (Some p) = refl

  -- the lines of peer thread u
  module _ (u : ℕ) where
    abbrev LineTracks : Act → Answered Peers → Type 0
    LineTracks a r = Tracks (P u) (op.Line a) r

    -- nothing that is tracked changes
    same-vars : (a : Act) (h : Answered Heap) → ((r : Reply) → after_line (tracked_of s) u a r ≡ tracked_of s) → SameVars s.heap h → LineTracks a (on_peer_heap s h)
    same-vars a h f e = f h.reply ∙ ap (λ v. record (tracked_of s) { vars = v }) (sym e)

    -- the variable names what was read
    abbrev HeapTracks : Act → Answered Heap → Type 0
    HeapTracks a h = LineTracks a (on_peer_heap s h)

    -- a name is given, on the peer of a variable
    global-tracks : (a : Act) (x : Strength) (g v : ℕ) → (o : Option ℕ) → slot s.heap.vars v ≡ o
        → after_line (tracked_of s) u a says.Empty ≡ tracked_of s → after_line (tracked_of s) u a says.Taken ≡ tracked_of s → after_line (tracked_of s) u a says.Full ≡ tracked_of s
        → ((h : HNum) → after_line (tracked_of s) u a (says.H h) ≡ with_name (with_given (tracked_of s) (peer_or_none (slot s.heap.vars v)) (is_strong x)) g (Some h.0))
        → LineTracks a (elim o [ None ↦ answer says.Empty s | Some p ↦ name_given s g p x (slot s.names g) ])
    global-tracks a x g v None e empty taken full given = empty
    global-tracks a x g v (Some p) e empty taken full given = by (slot s.names g)
      where
        by : (o : Option ℕ) → LineTracks a (name_given s g p x o)
        by (Some h) = taken
        by None = test-cases (LineTracks a) (handles_full s) _ _ full
            (given _ ∙ (ap (λ q. with_name (with_given (tracked_of s) (peer_or_none q) (is_strong x)) g (Some (next_handle s))) e
            ∙ ap (λ l. record { vars = s.heap.vars; names = slice_set s.names g (Some (next_handle s)); given = l }) (one-given _)))

    wread-tracks : (v : Var) (w : GName) (j g : ℕ) (target : ℕ → Option ℕ) → j ≡ place u v.0 → LineTracks (act.WRead v w) (name_read target s j g)
    wread-tracks v w j g target e = option-cases (LineTracks (act.WRead v w)) _ _ (slot s.names g) refl (λ h. read (target h))
      where
        read : (o : Option ℕ) → LineTracks (act.WRead v w) (peer_read s j o)
        read None = refl
        read (Some p) = ap (λ i. with_var-at i (Some p)) (sym e)
          where
            with_var-at : ℕ → Option ℕ → Tracked
            with_var-at i o = record (tracked_of s) { vars = slice_set s.heap.vars i o }

    pub line-tracks : (a : Act) (target : ℕ → Option ℕ) → LineTracks a (peer_line target s u a)
    line-tracks (act.NewPeer v n) target = test-cases (LineTracks (act.NewPeer v n)) (is_full s.heap.fields) _ _ refl refl
    line-tracks (act.Copy v w) target = option-cases (HeapTracks (act.Copy v w)) _ _ (slot s.heap.vars (place u w.0)) refl (λ x. refl)
    line-tracks (act.Set v i w) target = same-vars (act.Set v i w) (field_set s.heap (place u v.0) i (place_or_none u w)) (λ r. refl) (set-vars s.heap (place u v.0) i (place_or_none u w))
    line-tracks (act.Get v w i) target = option-cases (HeapTracks (act.Get v w i)) _ _ (slot s.heap.vars (place u w.0)) refl
        (λ x. test-cases (HeapTracks (act.Get v w i)) (nat_le (length (fields_of s.heap x)) i) _ _ refl (read (slot (fields_of s.heap x) i)))
      where
        read : (o : Option ℕ) → HeapTracks (act.Get v w i) (read_into peer_name s.heap (place u v.0) o)
        read None = refl
        read (Some y) = refl
    line-tracks (act.Drop v) target = refl
    line-tracks (act.Load v x) target = read (slot s.heap.statics x.0)
      where
        read : (o : Option ℕ) → HeapTracks (act.Load v x) (read_into peer_name s.heap (place u v.0) o)
        read None = refl
        read (Some y) = refl
    line-tracks (act.Store x v) target = same-vars (act.Store x v) (stored s.heap x.0 (place_or_none u v)) (λ r. refl) (store-vars s.heap x.0 (place_or_none u v))
    line-tracks (act.Global g v) target = global-tracks (act.Global g v) strong g.0 (place u v.0) (slot s.heap.vars (place u v.0)) refl refl refl refl (λ h. refl)
    line-tracks (act.WGlobal g v) target = global-tracks (act.WGlobal g v) weak g.0 (place u v.0) (slot s.heap.vars (place u v.0)) refl refl refl refl (λ h. refl)
    line-tracks (act.UnGlobal g) target = option-cases (LineTracks (act.UnGlobal g)) _ _ (slot s.names g.0) refl (λ h. refl)
    line-tracks (act.WRead v g) target = wread-tracks v g (place u v.0) g.0 target refl
    line-tracks a target = refl

-- the same of the peer side with its table
module _ (s : PeerReplay) where
  abbrev Goes : Thread → Op → Answered PeerReplay → Type 0
  Goes t o a = tracked_after (tracked_of s.peers) t o a.reply ≡ tracked_of a.state.peers

  brought : (t : Thread) (o : Op) (a : Answered PeerReplay) (r : Reply) → Goes t o a → Goes t o (bring_by a r)
  brought t o a (says.P p) c = c
  brought t o a _ c = c

  thread-line : (u : ℕ) (a : Act) → Goes (P u) (op.Line a) (peer_thread_line s u a)
  thread-line u (act.UnGlobal g) = line-tracks s.peers u (act.UnGlobal g) (table_target s)
  thread-line u (act.WRead v g) = brought (P u) (op.Line (act.WRead v g)) (on_table s (peer_line (table_target s) s.peers u (act.WRead v g)))
      (peer_line (table_target s) s.peers u (act.WRead v g)).reply (line-tracks s.peers u (act.WRead v g) (table_target s))
  thread-line u a = line-tracks s.peers u a (table_target s)

  slice-goes : (u m n : ℕ) (t : Thread) (x : Option Marking) (closure : List ℕ) → Goes (P u) (op.Line (act.Slice m)) (sliced s x t n closure)
  slice-goes u m n t None closure = refl
  slice-goes u m n t (Some mk) closure = test-cases (Goes (P u) (op.Line (act.Slice m))) (is_thread t mk.by) _ _ refl refl

  begin-goes : (t : Thread) (x : Option Marking) (b : Thread) → Goes t op.Begin (begun s x b)
  begin-goes t None b = refl
  begin-goes t (Some mk) b = refl

  sweep-goes : (t : Thread) (x : Option Marking) (b : Thread) (freed : List ℕ) → Goes t op.Sweep (swept s x b freed)
  sweep-goes t None b freed = refl
  sweep-goes t (Some mk) b freed = test-cases (Goes t op.Sweep) (is_thread b C || is_thread b mk.by) _ _ refl refl

  mirror-goes : (t : Thread) (k : Cycle) (n m : ℕ) (cites : Option ℕ) (refs : List (End × End)) → Goes t (op.Mirror k) (answer (says.Refs n) (mirrored s m cites refs))
  mirror-goes t k n m None refs = refl
  mirror-goes t k n m (Some snap) refs = refl

  restore-goes : (t : Thread) (h : HNum) (x : Option TableRow) → Goes t (op.Restore h) (restored_by s h.0 x)
  restore-goes t h None = refl
  restore-goes t h (Some row) = test-cases (Goes t (op.Restore h)) row.cleared _ _ refl (by (peer_of s.peers.issued h.0) refl)
    where
      by : (o : Option ℕ) → peer_of s.peers.issued h.0 ≡ o → Goes t (op.Restore h) (renewed_on s h.0 o)
      by None e = refl
      by (Some p) e =
          let at : peer_at (map given_of s.peers.issued) h.0 ≡ p = peer-at s.peers.issued h.0 ∙ ap {B = ℕ} (λ (z : Option ℕ). elim z [ None ↦ 0 | Some q ↦ q ]) e in
          ap (λ q. with_given (tracked_of s.peers) q true) at ∙ ap (λ g. record (tracked_of s.peers) { given = g }) (one-given s.peers _)

  event-goes : (t : Thread) (o : Op) (cites : Option ℕ) (told : Told) → is_peer_event t o ≡ true → Goes t o (peer_answer s t o cites told)
  event-goes (P u) (op.Line (act.Slice n)) cites (slice_of closure) e = slice-goes u n n (P u) s.marking closure
  event-goes (P u) (op.Line (act.Slice n)) cites _ e = slice-goes u n n (P u) s.marking []
  event-goes (P u) (op.Line a) cites told e = thread-line u a
  event-goes (M u) (op.Line a) cites told e = (let f : ⊥ = cc in absurd f)
  event-goes C (op.Line a) cites told e = (let f : ⊥ = cc in absurd f)
  event-goes t (op.Make sort n) cites told e = pair-tracks s.peers t sort n
  event-goes t (op.Land h x) cites told e = brought t (op.Land h x) (on_table s (landed s.peers x.0 (table_target s h.0)))
      (landed s.peers x.0 (table_target s h.0)).reply (land-tracks s.peers t h x x.0 (table_target s h.0))
  event-goes t (op.Grip x) cites told e = grip-tracks s.peers t x (slot s.peers.heap.statics x.0)
  event-goes t (op.Mirror k) cites (references_of refs) e = mirror-goes t k (length refs) k.0 cites refs
  event-goes t op.Begin cites told e = begin-goes t s.marking t
  event-goes t op.Sweep cites (sweep_of freed) e = sweep-goes t s.marking t freed
  event-goes t op.Sweep cites _ e = sweep-goes t s.marking t []
  event-goes t (op.Restore h) cites told e = restore-goes t h (row_of s h.0)
  event-goes t o cites told e = refl

  -- an event of the managed side changes nothing that is tracked
  other-line : (t : Thread) (a : Act) (r : Reply) → is_peer_event t (op.Line a) ≡ false → tracked_after (tracked_of s.peers) t (op.Line a) r ≡ tracked_of s.peers
  other-line (P u) a r e = (let f : ⊥ = cc in absurd f)
  other-line (M u) a r e = refl
  other-line C a r e = refl

  other-goes : (t : Thread) (o : Op) (r : Reply) → is_peer_event t o ≡ false → tracked_after (tracked_of s.peers) t o r ≡ tracked_of s.peers
  other-goes t (op.Line a) r e = other-line t a r e
  other-goes t (op.Make sort f) r e = (let f : ⊥ = cc in absurd f)
  other-goes t (op.Grip x) r e = (let f : ⊥ = cc in absurd f)
  other-goes t (op.Restore h) r e = (let f : ⊥ = cc in absurd f)
  other-goes t o r e = refl

-- what is tracked goes with the peer side
pub entry-tracks : (s : PeerReplay) (m : Made) (told : Told) (b : Bool) → is_peer_event m.caller m.op ≡ b → (b ≡ true → m.reply ≡ (peer_answer s m.caller m.op m.cites told).reply)
    → tracked_after (tracked_of s.peers) m.caller m.op m.reply ≡ tracked_of (peer_after s m told b).peers
entry-tracks s m told true e r = ap (λ z. tracked_after (tracked_of s.peers) m.caller m.op z) (r refl) ∙ event-goes s m.caller m.op m.cites told e
entry-tracks s m told false e r = other-goes s m.caller m.op m.reply e
