-- The peer side stays kept at each of its lawful entries. A sweep is the hard one: what it leaves unfreed is spared, so
-- what a staying peer leads to, by an edge of the begin or to a spared peer, is spared too, and so is what a slot names
-- and what a strong handle leads to. A mirror brings references between unfreed and safe peers alone, which the
-- driver's order gives.
use Rattle.std.proofs.Common.{◌≡◌, ℕ, ◌+◌, ◌-◌, inl, inr, Bool, true, false, ◌||◌, List, [], length, Option, Some, None, refl, ap, subst, ◌∙◌, ◌++◌, ◌∷◌}
use Rattle.std.specs.Prelude.{Contains, if◌then◌else◌, min, nat_lt}
use Rattle.std.proofs.lemmas.Option.{same_Some}
use Rattle.std.proofs.lemmas.List.Elements.{Contains-append_left, Contains-append_right, Contains-append_cases}
use Rattle.joint_machine.specs.declared.names.Thread.{Thread}
use Rattle.joint_machine.specs.declared.names.Thread.TheVariants.{P, C}
use Rattle.joint_machine.specs.declared.lines.Act.TheVariants as act
use Rattle.joint_machine.specs.declared.events.Op.{Op}
use Rattle.joint_machine.specs.declared.events.Op.TheVariants as op
use Rattle.joint_machine.specs.declared.events.Reply.TheVariants as says
use Rattle.joint_machine.specs.Heaps.{IsLive, answer, slot, is_full, fields_of, numbered_at, numbered_set, with_freed}
use Rattle.joint_machine.specs.Peers.{Issued, held, strong, weak, peer_of, next_handle, with_renewed, handles_full}
use Rattle.joint_machine.specs.PeerReplay.{PeerReplay, TableRow, Marking, row_of, table_target, is_thread, sliced, begun, swept_of, swept, restored_by, mirrored, peer_answer, IsSweep, SweepAllows}
use Rattle.joint_machine.specs.PeerReplay.{PeerAllows, brought_to, withdrawn, given_anew, fresh_row, with_restored, with_given, with_weakened, Refers}
use Rattle.joint_machine.specs.Run.{thread_number}
use Rattle.joint_machine.specs.Told.{Told, nothing, references_of, slice_of, sweep_of}
use Rattle.joint_laws.specs.PeerInvariants.{IsTabled, IsIssued, MarkingInvariant, PeerInvariant}
use Rattle.joint_machine.proofs.Numbered.{slot-named}
use Rattle.joint_machine.proofs.Deciding.{none_some}
use Rattle.joint_laws.proofs.HeapKeeping.{HeapInvariant-freed}
use Rattle.joint_laws.proofs.HandleKeeping.{HandlesInvariant-swept}
use Rattle.joint_laws.proofs.ReferenceKeeping.{WasHeld, ReferencesInvariant-none, ReferencesInvariant-weakened, ReferencesInvariant-restored, ReferencesInvariant-given, ReferencesInvariant-mirrored}
use Rattle.joint_laws.proofs.MarkingKeeping.{MarkingInvariant-references, MarkingInvariant-later, MarkingInvariant-begun}
use Rattle.joint_laws.proofs.Sparing.{spared-next, spared-stays, stays-spared}
use Rattle.joint_laws.proofs.PeerMoves.{IsSafe, kept-gone, kept-reset, kept-issue, kept-brought, brought-safe, kept-mirror}
use Rattle.joint_laws.proofs.Restores.{restored-cases}
use Rattle.joint_laws.proofs.PeerEvents.{pair-event, grip-event, land-event, line-event}
use Rattle.joint_machine.proofs.HeapLemmas.{same_thread}
use Rattle.joint_machine.specs.Components.{End}
use Rattle.joint_laws.proofs.Through.{Refers-none}

-- the references that a mirror brings join unfreed and safe peers; the driver's order gives this
abbrev pub MirrorsSafely : PeerReplay → Op → Told → Type 0
MirrorsSafely s (op.Mirror k) (references_of refs) = (p q : ℕ) → Refers refs p q → IsLive s.peers.heap p × IsLive s.peers.heap q × IsSafe s q
MirrorsSafely s _ _ = Unit {0}

-- a slice blackens
pub sliced-kept : (s : PeerReplay) (o : Option Marking) (t : Thread) (n : ℕ) (closure : List ℕ) → PeerInvariant s → s.marking ≡ o → PeerInvariant (sliced s o t n closure).state
sliced-kept s None t n closure k e = k
sliced-kept s (Some mk) t n closure k e = by (is_thread t mk.by)
  where
    black : (b : ℕ) → PeerInvariant (record s { marking = Some (record mk { blackened = b }) })
    black b = record {
      heap = k.heap;
      handles = k.handles;
      references = k.references;
      marking = λ m q. subst (MarkingInvariant s.peers.heap s.peers.issued s.table s.refs) (same_Some _ m q)
          (MarkingInvariant-later s.peers.heap s.peers.issued s.table s.refs mk (k.marking mk e) mk.brought b (λ x c. c));
    }

    by : (b : Bool) → PeerInvariant (if b
        then (let black = mk.blackened + min n (length closure - mk.blackened) in
        answer (if nat_lt black (length closure) then says.More else says.Done) (record s { marking = Some (record mk { blackened = black }) }))
        else answer (says.MarkOpen record { 0 = mk.number }) s).state
    by true = black _
    by false = k

-- a marking begins
pub begun-kept : (s : PeerReplay) (o : Option Marking) (t : Thread) → PeerInvariant s → s.marking ≡ o → PeerInvariant (begun s o t).state
begun-kept s (Some mk) t k e = k
begun-kept s None t k e = record {
  heap = k.heap;
  handles = k.handles;
  references = k.references;
  marking = λ m q. subst (MarkingInvariant s.peers.heap s.peers.issued s.table s.refs) (same_Some _ m q)
      (MarkingInvariant-begun s.peers.heap s.peers.issued s.table s.refs s.mirror (s.markings + 1) t k.heap k.references);
}

-- a sweep frees the peers that the marking doesn't spare
module _ (s : PeerReplay) (mk : Marking) (freed : List ℕ) (k : PeerInvariant s) (e : s.marking ≡ Some mk) (w : IsSweep s mk freed) where
  mark : MarkingInvariant s.peers.heap s.peers.issued s.table s.refs mk
  mark = k.marking mk e

  -- what a staying peer leads to is spared
  field_stays : (p q : ℕ) → IsLive s.peers.heap p → (Contains freed p → ⊥) → Contains (fields_of s.peers.heap p) (Some q) → Contains freed q → ⊥
  field_stays p q l n c = spared-stays s mk freed q w (spared-next mk p q (mark.fields p q l c) (stays-spared s mk freed p w l n))

  reference_stays : (p q : ℕ) → IsLive s.peers.heap p → (Contains freed p → ⊥) → Refers s.refs p q → Contains freed q → ⊥
  reference_stays p q l n c = spared-stays s mk freed q w (spared-next mk p q (mark.references p q l c) (stays-spared s mk freed p w l n))

  was : (p : ℕ) → IsLive (with_freed s.peers.heap freed) p → IsLive s.peers.heap p
  was p l = record { made = l.made; kept = λ c. l.kept (Contains-append_left s.peers.heap.freed freed p c) }

  wasn't : (p : ℕ) → IsLive (with_freed s.peers.heap freed) p → Contains freed p → ⊥
  wasn't p l c = l.kept (Contains-append_right s.peers.heap.freed freed p c)

  still : (p : ℕ) → IsLive s.peers.heap p → (Contains freed p → ⊥) → IsLive (with_freed s.peers.heap freed) p
  still p l n = record { made = l.made; kept = λ c. elim (Contains-append_cases s.peers.heap.freed freed p c) [ inl d ↦ l.kept d | inr d ↦ n d ] }

  pub swept_of-kept : PeerInvariant (swept_of s mk freed).state
  swept_of-kept = record {
    heap = HeapInvariant-freed s.peers.heap freed k.heap (λ p c. ((w.exact p).0 c).0) (λ p i. spared-stays s mk freed p w (mark.slots p i)) field_stays;
    handles = HandlesInvariant-swept s.peers.heap s.peers.issued s.table s.peers.names freed k.handles (λ n row i t st q. spared-stays s mk freed i.peer w (mark.strong_ones n row i t st q));
    references = record {
      made = k.references.made;
      live = λ p q c l. still q (k.references.live p q c (was p l)) (reference_stays p q (was p l) (wasn't p l) c);
      none = k.references.none;
      weakened = k.references.weakened;
    };
    marking = λ m q. absurd (none_some m q);
  }

swept-by : (s : PeerReplay) (mk : Marking) (freed : List ℕ) (b : Bool) → PeerInvariant s → s.marking ≡ Some mk
    → (b ≡ true → IsSweep s mk freed) → PeerInvariant (if b then swept_of s mk freed else answer (says.MarkOpen record { 0 = mk.number }) s).state
swept-by s mk freed true k e w = swept_of-kept s mk freed k e (w refl)
swept-by s mk freed false k e w = k

-- a peer thread doesn't end another thread's marking
pub refused-by : (n : ℕ) (u : Thread) → (P n ≡ u → ⊥) → (is_thread (P n) C || is_thread (P n) u) ≡ true → ⊥
refused-by n u w q = w (same_thread (P n) u q)

abbrev pub swept_told : Told → List ℕ
swept_told (sweep_of freed) = freed
swept_told _ = []

swept-told : (s : PeerReplay) (o : Option Marking) (t : Thread) (told : Told) → PeerInvariant s → s.marking ≡ o → SweepAllows s o t told → PeerInvariant (swept s o t (swept_told told)).state
swept-told s None t told k e w = k
swept-told s (Some mk) t (sweep_of freed) k e w = swept-by s mk freed (is_thread t C || is_thread t mk.by) k e (λ q. w.1)
swept-told s (Some mk) (P n) nothing k e w = swept-by s mk [] (is_thread (P n) C || is_thread (P n) mk.by) k e (λ q. absurd (refused-by n mk.by w q))
swept-told s (Some mk) t told k e w = absurd w

-- a restore, by the handle's row
pub peer_of-issued : (issued : List Issued) (n : ℕ) (i : Issued) → IsIssued issued n i → peer_of issued n ≡ Some i.peer
peer_of-issued issued n i e = by (numbered_at issued n) e
  where
    by : (o : Option Issued) → o ≡ Some i → elim o [ None ↦ None | Some j ↦ Some j.peer ] ≡ Some i.peer
    by None q = absurd (none_some i q)
    by (Some j) q = ap (λ (z : Issued). Some z.peer) (same_Some j i q)

-- the handle leaves the table
withdrawn-kept : (s : PeerReplay) (h : ℕ) → PeerInvariant s → PeerInvariant (withdrawn s h)
withdrawn-kept s h k = kept-mirror (record s { table = numbered_set s.table h None }) (with_restored s.mirror h)
    (kept-gone s h k) (ReferencesInvariant-restored s.peers.heap s.peers.issued s.refs s.mirror h k.references)

-- a new handle comes into it, on an unfreed peer, which is brought back
anew-kept : (s : PeerReplay) (p : ℕ) → PeerInvariant s → IsLive s.peers.heap p → PeerInvariant (given_anew s p)
anew-kept s p k l =
    let new : Issued = record { peer = p; hold = held; strength = strong } in
    let back : PeerReplay = record s { marking = brought_to s.marking p } in
    let made : PeerReplay = record back { peers = with_renewed s.peers p; table = s.table ++ fresh_row new ∷ [] } in
    let issued : PeerInvariant made = kept-issue back new (kept-brought s p k) l (brought-safe s p k) in
    kept-mirror made (with_given s.mirror (next_handle s.peers)) issued (ReferencesInvariant-given s.peers.heap (s.peers.issued ++ new ∷ []) s.refs s.mirror (next_handle s.peers) issued.references)

pub peer_of-live : (s : PeerReplay) (h p : ℕ) (row : TableRow) → PeerInvariant s → IsTabled s.table h row → row.cleared ≡ false → peer_of s.peers.issued h ≡ Some p → IsLive s.peers.heap p
peer_of-live s h p row k t e f = by (numbered_at s.peers.issued h) refl f
  where
    by : (o : Option Issued) → numbered_at s.peers.issued h ≡ o → elim o [ None ↦ None | Some j ↦ Some j.peer ] ≡ Some p → IsLive s.peers.heap p
    by None q g = absurd (none_some p g)
    by (Some j) q g = subst (IsLive s.peers.heap) (same_Some j.peer p g) (k.handles.uncleared h row j t q e)

restored-kept : (s : PeerReplay) (h : ℕ) (o : Option TableRow) → PeerInvariant s → row_of s h ≡ o → PeerInvariant (restored_by s h o).state
restored-kept s h o k e = restored-cases (λ a. PeerInvariant a.state) s h o (λ f. k) (λ row f g. withdrawn-kept s h k) (λ f. withdrawn-kept s h k)
    (λ row p f g q. anew-kept (withdrawn s h) p (withdrawn-kept s h k) (peer_of-live s h p row k (slot-named (numbered_at s.table h) row (e ∙ f)) g q))

-- a handle is weakened
weakened-kept : (s : PeerReplay) (h : ℕ) → PeerInvariant s → WasHeld s.peers.issued h → row_of s h ≡ Some record { strength = strong; cleared = false }
    → PeerInvariant (record s { table = numbered_set s.table h (Some record { strength = weak; cleared = false }); mirror = with_weakened s.mirror h })
weakened-kept s h k w e =
    let weak_row : TableRow = record { strength = weak; cleared = false } in
    kept-mirror (record s { table = numbered_set s.table h (Some weak_row) }) (with_weakened s.mirror h)
    (kept-reset s h (record { strength = strong; cleared = false }) weak_row w.0 k
    (slot-named (numbered_at s.table h) (record { strength = strong; cleared = false }) e) w.1 w.2 refl (λ q. refl) (λ q. absurd (let f : weak ≡ strong = q in cc)))
    (ReferencesInvariant-weakened s.peers.heap s.peers.issued s.refs s.mirror h k.references w)

-- references come to stand, and go
mirrored-kept : (s : PeerReplay) (k : ℕ) (cites : Option ℕ) (refs : List (End × End)) → PeerInvariant s
    → ((p q : ℕ) → Refers refs p q → IsLive s.peers.heap p × IsLive s.peers.heap q × IsSafe s q) → PeerInvariant (mirrored s k cites refs)
mirrored-kept s k None refs kept w = kept
mirrored-kept s k (Some snap) refs kept w = record {
  heap = kept.heap;
  handles = kept.handles;
  references = ReferencesInvariant-mirrored s.peers.heap s.peers.issued refs k snap (λ p q c. (let r = w p q c in (r.0, r.1)));
  marking = λ mk e. MarkingInvariant-references s.peers.heap s.peers.issued s.table s.refs mk (kept.marking mk e) refs (λ p q c. (w p q c).2 mk e);
}

pub cleared-kept : (s : PeerReplay) → PeerInvariant s → PeerInvariant (record s { refs = []; mirror = None })
cleared-kept s k = record {
  heap = k.heap;
  handles = k.handles;
  references = ReferencesInvariant-none s.peers.heap s.peers.issued;
  marking = λ mk e. MarkingInvariant-references s.peers.heap s.peers.issued s.table s.refs mk (k.marking mk e) [] (λ p q c. absurd (Refers-none p q c));
}

pub PeerInvariant-step : (s : PeerReplay) (t : Thread) (o : Op) (cites : Option ℕ) (told : Told) → PeerInvariant s
    → PeerAllows s t o cites told → MirrorsSafely s o told → PeerInvariant (peer_answer s t o cites told).state
PeerInvariant-step s t (op.Line (act.Slice n)) cites (slice_of closure) k w m = sliced-kept s s.marking t n closure k refl
PeerInvariant-step s t (op.Line (act.Slice n)) cites _ k w m = sliced-kept s s.marking t n [] k refl
PeerInvariant-step s t (op.Line a) cites told k w m = line-event s (thread_number t) a k
PeerInvariant-step s t (op.Make sort n) cites told k w m = pair-event s sort n (is_full s.peers.heap.fields || handles_full s.peers) k
PeerInvariant-step s t (op.Land h x) cites told k w m = land-event s x.0 h.0 (table_target s h.0) k refl
PeerInvariant-step s t (op.Grip x) cites told k w m = grip-event s x.0 (slot s.peers.heap.statics x.0) k refl
PeerInvariant-step s t (op.Release h) cites told k w m = kept-gone s h.0 k
PeerInvariant-step s t (op.Mirror n) cites (references_of refs) k w m = mirrored-kept s n.0 cites refs k m
PeerInvariant-step s t (op.Weaken h) cites nothing k w m = weakened-kept s h.0 k w.is_held w.strong_now
PeerInvariant-step s t (op.Weaken h) cites _ k w m = absurd w
PeerInvariant-step s t op.Begin cites told k w m = begun-kept s s.marking t k refl
PeerInvariant-step s t op.Sweep cites (sweep_of freed) k w m = swept-told s s.marking t (sweep_of freed) k refl w
PeerInvariant-step s t op.Sweep cites told k w m = swept-told s s.marking t told k refl w
PeerInvariant-step s t (op.Restore h) cites nothing k w m = restored-kept s h.0 (row_of s h.0) k refl
PeerInvariant-step s t (op.Restore h) cites _ k w m = absurd w
PeerInvariant-step s t (op.Clear n) cites told k w m = cleared-kept s k
PeerInvariant-step s t _ cites told k w m = k
