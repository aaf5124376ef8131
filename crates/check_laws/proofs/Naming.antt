-- What the replies of a past in order name is what was freed and taken: each freed list begins with what was freed
-- before, and goes on with what the reply's span names; and so it is with the notices that were taken.
use Rattle.std.proofs.Common.{◌≡◌, ◌⊎◌, inl, inr, ℕ, ◌+◌, ◌-◌, ◌≤◌, Bool, true, false, ◌||◌, List, [], ◌∷◌, ◌++◌, length, take, drop, Option, Some, None, refl, sym, ap, ◌∙◌, subst, arith}
use Rattle.std.proofs.Common.{length-append}
use Rattle.std.specs.Prelude.{if◌then◌else◌, sum_by, min}
use Rattle.std.proofs.lemmas.List.{append-nil, take-append-le, take-map}
use Rattle.std.proofs.lemmas.List.Sums.{sum_by_push}
use Rattle.std.proofs.Math.Seq.{take-add}
use Rattle.joint_machine.specs.declared.names.MNum.{MNum}
use Rattle.joint_machine.specs.declared.names.PNum.{PNum}
use Rattle.joint_machine.specs.declared.names.Kind.{Kind}
use Rattle.joint_machine.specs.declared.names.Sort.{Sort}
use Rattle.joint_machine.specs.declared.names.Span.{Span}
use Rattle.joint_machine.specs.declared.names.Thread.{Thread}
use Rattle.joint_machine.specs.declared.names.Thread.TheVariants.{M, P, C}
use Rattle.joint_machine.specs.declared.lines.Act.{Act}
use Rattle.joint_machine.specs.declared.lines.Act.TheVariants as act
use Rattle.joint_machine.specs.declared.events.Entry.{Entry}
use Rattle.joint_machine.specs.declared.events.Made.{Made}
use Rattle.joint_machine.specs.declared.events.Op.{Op}
use Rattle.joint_machine.specs.declared.events.Op.TheVariants as op
use Rattle.joint_machine.specs.declared.events.Reply.{Reply}
use Rattle.joint_machine.specs.declared.events.Reply.TheVariants as says
use Rattle.joint_machine.specs.Heaps.{answer, slot, place, is_full}
use Rattle.joint_machine.specs.Histories.{Finished, managed_numbers, peer_numbers, NumberedFrom}
use Rattle.joint_machine.specs.Lines.{IsEvent, is_peer_event, is_read}
use Rattle.joint_machine.specs.Linked.{Linkage, MayCome, SideLawful, PeerLawful, ManagedLawful, linkage_after, managed_after, peer_after}
use Rattle.joint_machine.specs.Managed.{Managed, OpenCycle, managed_line, adopted, met, given_up, with_row, cell_set, weakened_to, read_cell, pin_taken, without_handle, twin_met, twin_kind}
use Rattle.joint_machine.specs.Managed.{twin_fields}
use Rattle.joint_machine.specs.ManagedReplay.{ManagedReplay, ManagedAllows, managed_answer, registered}
use Rattle.joint_machine.specs.PeerReplay.{PeerReplay, Marking, PeerAllows, SliceAllows, SweepAllows, is_thread, swept, swept_of, peer_answer}
use Rattle.joint_machine.specs.Readers.{ReadsCell, is_set_aside, is_managed_entry}
use Rattle.joint_machine.specs.Run.{thread_number}
use Rattle.joint_machine.specs.Told.{Told, Answer, Noted, nothing, snap_of, contraction_of, sweep_of, resolution_of, phase_of}
use Rattle.joint_machine.proofs.HeapLemmas.{adopt_by-managed}
use Rattle.joint_laws.specs.ManagedInvariants.{ReplayInvariant}
use Rattle.joint_laws.specs.PeerInvariants.{PeerInvariant}
use Rattle.joint_laws.specs.Spans.{IsStretch, TakesNamed, TellsNamed}
use Rattle.joint_laws.proofs.JointSteps.{may-end}
use Rattle.joint_laws.proofs.KeptPins.{weak_by, take_by}
use Rattle.joint_laws.proofs.ManagedMoves.{met_by, managed_line-goes_on, adopted-goes_on, met-goes_on, given_up-goes_on}
use Rattle.joint_laws.proofs.ManagedSteps.{meet_by-managed, give_by-managed, twin-live}
use Rattle.joint_laws.proofs.NoticesTold.{notices-go}
use Rattle.joint_laws.proofs.PeerFreed.{entry-freed, sweep-or}
use Rattle.joint_laws.proofs.PlainReplies.{IsPlain, line-plain}
use Rattle.joint_laws.proofs.ReadsAside.{read-filled}
use Rattle.known_laws.specs.PastEntries.{entries}
use Rattle.joint_machine.proofs.Deciding.{true-false}
use Rattle.check_laws.specs.Behind.{in_turn, state_of, GivesSnap, ReadsBehind, RepliesBehind, AllInOrder}
use Rattle.check_laws.specs.Found.{objects_in, peers_in, NamesAreLists}
use Rattle.check_laws.specs.Findings.{IsAllInOrder, NothingFollows}
use Rattle.check_laws.specs.Reads.{ComesBehind, AllComeBehind, AllReadBehind, AllReadOver}
use Rattle.check_laws.proofs.Keeping.{Stands, AllStand, after-read, after-other, kept}
use Rattle.check_laws.proofs.OneFinding.{turned-onto, entries-append}
use Rattle.check_laws.proofs.Tested.{reads-some, cell-read, read-unmanaged, stand_behind, readers_tested}
use Rattle.check_laws.proofs.Turned.{all_come, in_place, peers-kept}

-- a list goes on with what a reply names in another
record Adds (s t list : List ℕ) (count : ℕ) : Type 0 where
  more : List ℕ
  after : t ≡ s ++ more
  many : count ≡ length more
  named : (more ≡ []) ⊎ IsStretch list (record { first = length s; count = length more }) more

adds-none : (s t list : List ℕ) (count : ℕ) → t ≡ s → count ≡ 0 → Adds s t list count
adds-none s t list count e c = record { more = []; after = e ∙ sym (append-nil s); many = c; named = inl refl }

-- so many of the other are what it has
pub record IsNamed (s list : List ℕ) (n : ℕ) : Type 0 where
  pub same : s ≡ take n list
  pub many : n ≡ length s
  pub within : n ≤ length list

goes-on : (s t list : List ℕ) (n count : ℕ) → IsNamed s list n → Adds s t list count → IsNamed t list (n + count)
goes-on s t list n count w a = by a.named
  where
    by : (a.more ≡ []) ⊎ IsStretch list (record { first = length s; count = length a.more }) a.more → IsNamed t list (n + count)
    by (inl e) =
        let none : count ≡ 0 = a.many ∙ ap length e in
        let still : n + count ≡ n = omega (arith, none) in
        let same : t ≡ s = a.after ∙ (ap (λ z. s ++ z) e ∙ append-nil s) in
        subst (IsNamed t list) (sym still) (subst (λ z. IsNamed z list n) (sym same) w)
    by (inr x) =
        let count-is = a.many in
        let n-is = w.many in
        let long = ap length a.after in
        let both = length-append s a.more in
        let low = x.within in
        record {
          same = a.after
              ∙ (ap (λ z. z ++ a.more) w.same
              ∙ (ap (λ z. take n list ++ z) (x.named ∙ (ap (λ k. take k (drop (length s) list)) (sym count-is) ∙ ap (λ k. take count (drop k list)) (sym n-is)))
              ∙ sym (take-add n count list)));
          many = omega (arith, count-is, n-is, long, both);
          within = omega (arith, count-is, n-is, low);
        }

-- what is told of an entry that frees no object, or no peer
abbrev pub NoObjects : Told → Type 0
NoObjects (snap_of freed candidates dead) = ⊥
NoObjects (resolution_of answers freed) = ⊥
NoObjects _ = Unit {0}

abbrev NoPeers : Told → Type 0
NoPeers (sweep_of freed) = ⊥
NoPeers _ = Unit {0}

told-objects : (ms ps : List ℕ) (r : Reply) (told : Told) → TellsNamed ms ps r told → NoObjects told → objects_in r ≡ 0
told-objects ms ps (says.Snapped count span) told w o = absurd (subst NoObjects w.is o)
told-objects ms ps (says.Freed span) told w o = absurd (subst NoObjects w.is o)
told-objects ms ps r told w o = refl

told-peers : (ms ps : List ℕ) (r : Reply) (told : Told) → TellsNamed ms ps r told → NoPeers told → peers_in r ≡ 0
told-peers ms ps (says.Swept j span) told w o = absurd (subst NoPeers w.is o)
told-peers ms ps r told w o = refl

-- the peer side's entries free no object
slice-objects : (o : Option Marking) (t : Thread) (told : Told) → SliceAllows o t told → NoObjects told
slice-objects None t (snap_of f c d) a = a
slice-objects None t (resolution_of y f) a = a
slice-objects (Some mk) t (snap_of f c d) a = a
slice-objects (Some mk) t (resolution_of y f) a = a
slice-objects o t _ a = tt

sweep-objects : (s : PeerReplay) (o : Option Marking) (t : Thread) (told : Told) → SweepAllows s o t told → NoObjects told
sweep-objects s None (P n) (snap_of f c d) a = a
sweep-objects s None (P n) (resolution_of y f) a = a
sweep-objects s None (M n) (snap_of f c d) a = a
sweep-objects s None (M n) (resolution_of y f) a = a
sweep-objects s None C (snap_of f c d) a = a
sweep-objects s None C (resolution_of y f) a = a
sweep-objects s (Some mk) t (snap_of f c d) a = a
sweep-objects s (Some mk) t (resolution_of y f) a = a
sweep-objects s o t _ a = tt

peer-objects : (s : PeerReplay) (t : Thread) (o : Op) (cites : Option ℕ) (told : Told) → PeerAllows s t o cites told → NoObjects told
peer-objects s t (op.Line (act.Slice n)) cites told a = slice-objects s.marking t told a
peer-objects s t op.Sweep cites told a = sweep-objects s s.marking t told a
peer-objects s t o cites (snap_of f c d) a = a
peer-objects s t o cites (resolution_of y f) a = a
peer-objects s t o cites _ a = tt

-- the managed side's entries free no peer, and what frees no object leaves the list
managed-peers : (s : ManagedReplay) (o : Op) (told : Told) → ManagedAllows s o told → NoPeers told
managed-peers s (op.Line x) (sweep_of f) a = a
managed-peers s o (sweep_of f) a = a
managed-peers s o _ a = tt

pub managed-none : (s : ManagedReplay) (t : Thread) (o : Op) (told : Told) → NoObjects told → ReplayInvariant s → (managed_answer s t o told).state.managed.heap.freed ≡ s.managed.heap.freed
managed-none s t (op.Line a) told w k = (managed_line-goes_on s.managed (thread_number t) a k.managed.places k.managed.cells).freed
managed-none s t (op.Adopt v kind n p h) told w k =
    let a = adopted s.managed (place (thread_number t) v.0) kind n h.0 in
    ap (λ (z : Managed). z.heap.freed) (adopt_by-managed s p.0 h.0 a.state a.reply) ∙ (adopted-goes_on s.managed (place (thread_number t) v.0) kind n h.0 k.managed.places).freed
managed-none s t (op.Meet v sort n p h) told w k =
    let a = met s.managed (place (thread_number t) v.0) h.0 sort n (registered s.registry p.0) in
    ap (λ (z : Managed). z.heap.freed) (meet_by-managed s p.0 h.0 a.state a.reply)
    ∙ (met-goes_on s.managed (place (thread_number t) v.0) h.0 sort n (registered s.registry p.0) k.managed.places (λ m e. twin-live s p.0 m k e)).freed
managed-none s t (op.Give v) told w k =
    let u = place (thread_number t) v.0 in
    ap (λ (z : Managed). z.heap.freed) (give_by-managed s (slot s.managed.heap.vars u) (given_up s.managed u)) ∙ (given_up-goes_on s.managed u).freed
managed-none s t (op.Snap n) (snap_of freed candidates dead) w k = absurd w
managed-none s t (op.Snap n) told w k = refl
managed-none s t (op.Contract n) (contraction_of comps heavy xrefs) w k = refl
managed-none s t (op.Contract n) told w k = refl
managed-none s t (op.Resolve n) (resolution_of alive freed) w k = absurd w
managed-none s t (op.Resolve n) told w k = refl
managed-none s t (op.Refused r) (phase_of phase) w k = refl
managed-none s t (op.Refused r) told w k = refl
managed-none s t o told w k = refl

-- an entry of the managed side and the freed objects
abbrev frees-of : List ℕ → Told → List ℕ
frees-of d (snap_of freed candidates dead) = freed
frees-of d (resolution_of answers freed) = freed
frees-of d (sweep_of freed) = freed
frees-of d _ = d

module _ (ms ps : List ℕ) (s : Linkage) (t : Thread) (l : ℕ) (reply : Reply) (cites : Option ℕ) where
  abbrev made : Op → Made
  made o = record { caller = t; index = l; op = o; reply = reply; cites = cites }

  abbrev before : List ℕ
  before = s.managed.managed.heap.freed

  abbrev peers_before : List ℕ
  peers_before = s.peer.peers.heap.freed

  none-adds : (o : Op) (told : Told) → NoObjects told → ReplayInvariant s.managed → TellsNamed ms ps reply told
      → Adds before (managed_answer s.managed t o told).state.managed.heap.freed ms (objects_in reply)
  none-adds o told n k w = adds-none _ _ _ _ (managed-none s.managed t o told n k) (told-objects ms ps reply told w n)

  snap-adds : (freed candidates dead : List ℕ) (after : List ℕ) → after ≡ before ++ freed → reply ≡ says.Snapped (length candidates) record { first = length before; count = length freed }
      → TellsNamed ms ps reply (snap_of freed candidates dead) → Adds before after ms (objects_in reply)
  snap-adds freed candidates dead after is r w =
      let x = subst (λ z. TellsNamed ms ps z (snap_of freed candidates dead)) r w in
      let same : freed ≡ x.freed = ap (frees-of []) x.is in
      record { more = freed; after = is; many = ap objects_in r; named = inr (subst (λ z. IsStretch ms (record { first = length before; count = length freed }) z) (sym same) x.stands) }

  resolve-adds : (alive : List Answer) (freed : List ℕ) (after : List ℕ) → after ≡ before ++ freed
      → reply ≡ says.Freed record { first = length before; count = length freed } → TellsNamed ms ps reply (resolution_of alive freed) → Adds before after ms (objects_in reply)
  resolve-adds alive freed after is r w =
      let x = subst (λ z. TellsNamed ms ps z (resolution_of alive freed)) r w in
      let same : freed ≡ x.freed = ap (frees-of []) x.is in
      record { more = freed; after = is; many = ap objects_in r; named = inr (subst (λ z. IsStretch ms (record { first = length before; count = length freed }) z) (sym same) x.stands) }

  managed-adds : (o : Op) (told : Told) → ManagedLawful s.managed (made o) told → ReplayInvariant s.managed
      → TellsNamed ms ps reply told → Adds before (managed_answer s.managed t o told).state.managed.heap.freed ms (objects_in reply)
  managed-adds (op.Snap n) (snap_of freed candidates dead) v k w = snap-adds freed candidates dead _ refl v.replies w
  managed-adds (op.Resolve n) (resolution_of alive freed) v k w = resolve-adds alive freed _ refl v.replies w
  managed-adds o (snap_of freed candidates dead) v k w = absurd v.allowed
  managed-adds o (resolution_of alive freed) v k w = absurd v.allowed
  managed-adds o told v k w = none-adds o told tt k w

  objects-add : (o : Op) (told : Told) (b : Bool) → SideLawful b s (made o) told → ReplayInvariant s.managed
      → TellsNamed ms ps reply told → Adds before (managed_after s.managed (made o) told b).managed.heap.freed ms (objects_in reply)
  objects-add o told true v k w = adds-none _ _ _ _ refl (told-objects ms ps reply told w (peer-objects s.peer t o cites told v.allowed))
  objects-add o told false v k w = managed-adds o told v k w

  -- an entry of the peer side and the freed peers
  swept-adds : (mk : Marking) (freed : List ℕ) (b : Bool) → b ≡ true
      → reply ≡ (if b then swept_of s.peer mk freed else answer (says.MarkOpen record { 0 = mk.number }) s.peer).reply → TellsNamed ms ps reply (sweep_of freed)
      → Adds peers_before (if b then swept_of s.peer mk freed else answer (says.MarkOpen record { 0 = mk.number }) s.peer).state.peers.heap.freed ps (peers_in reply)
  swept-adds mk freed false e r w = absurd (let f : ⊥ = cc in f)
  swept-adds mk freed true e r w =
      let x = subst (λ z. TellsNamed ms ps z (sweep_of freed)) r w in
      let same : freed ≡ x.freed = ap (frees-of []) x.is in
      record { more = freed; after = refl; many = ap peers_in r; named = inr (subst (λ z. IsStretch ps (record { first = length peers_before; count = length freed }) z) (sym same) x.stands) }

  none-to-end : (u : Thread) (freed : List ℕ) → SweepAllows s.peer None u (sweep_of freed) → ⊥
  none-to-end (P n) freed a = a
  none-to-end (M n) freed a = a
  none-to-end C freed a = a

  sweep-adds : (x : Option Marking) (freed : List ℕ) → SweepAllows s.peer x t (sweep_of freed) → reply ≡ (swept s.peer x t freed).reply
      → TellsNamed ms ps reply (sweep_of freed) → Adds peers_before (swept s.peer x t freed).state.peers.heap.freed ps (peers_in reply)
  sweep-adds None freed a r w = absurd (none-to-end t freed a)
  sweep-adds (Some mk) freed a r w = swept-adds mk freed (is_thread t C || is_thread t mk.by) (may-end t mk.by a.0) r w

  unswept : (x : Option Marking) → (swept s.peer x t []).state.peers.heap.freed ≡ peers_before
  unswept None = refl
  unswept (Some mk) = by (is_thread t C || is_thread t mk.by)
    where
      by : (b : Bool) → (if b then swept_of s.peer mk [] else answer (says.MarkOpen record { 0 = mk.number }) s.peer).state.peers.heap.freed ≡ peers_before
      by true = append-nil peers_before
      by false = refl

  sweep-by : (told : Told) → PeerLawful s.peer (made op.Sweep) told → TellsNamed ms ps reply told
      → Adds peers_before (peer_answer s.peer t op.Sweep cites told).state.peers.heap.freed ps (peers_in reply)
  sweep-by (sweep_of freed) v w = sweep-adds s.peer.marking freed v.allowed v.replies w
  sweep-by nothing v w = adds-none _ _ _ _ (unswept s.peer.marking) (told-peers ms ps reply nothing w tt)
  sweep-by (snap_of f c d) v w = absurd (sweep-objects s.peer s.peer.marking t (snap_of f c d) v.allowed)
  sweep-by (resolution_of y f) v w = absurd (sweep-objects s.peer s.peer.marking t (resolution_of y f) v.allowed)
  sweep-by told v w = adds-none _ _ _ _ (unswept s.peer.marking) (told-peers ms ps reply told w tt)

slice-peers : (o : Option Marking) (t : Thread) (told : Told) → SliceAllows o t told → NoPeers told
slice-peers None t (sweep_of f) a = a
slice-peers (Some mk) t (sweep_of f) a = a
slice-peers o t _ a = tt

-- of the peer side's events a sweep alone frees
peer-peers : (s : PeerReplay) (t : Thread) (o : Op) (cites : Option ℕ) (told : Told) → (o ≡ op.Sweep → ⊥) → PeerAllows s t o cites told → NoPeers told
peer-peers s t (op.Line (act.Slice n)) cites told q a = slice-peers s.marking t told a
peer-peers s t op.Sweep cites told q a = absurd (q refl)
peer-peers s t o cites (sweep_of f) q a = a
peer-peers s t o cites _ q a = tt

module _ (ms ps : List ℕ) (s : Linkage) (n : Noted) (w : TellsNamed ms ps n.entry.made.reply n.told) where
  entry-objects : MayCome s n → ReplayInvariant s.managed → Adds s.managed.managed.heap.freed (linkage_after s n).managed.managed.heap.freed ms (objects_in n.entry.made.reply)
  entry-objects m k = objects-add ms ps s n.entry.made.caller n.entry.made.index n.entry.made.reply n.entry.made.cites n.entry.made.op n.told
      (is_peer_event n.entry.made.caller n.entry.made.op) m.lawful k w

  side-peers : (b : Bool) → is_peer_event n.entry.made.caller n.entry.made.op ≡ b → (n.entry.made.op ≡ op.Sweep → ⊥) → SideLawful b s n.entry.made n.told → NoPeers n.told
  side-peers true e q v = peer-peers s.peer n.entry.made.caller n.entry.made.op n.entry.made.cites n.told q v.allowed
  side-peers false e q v = managed-peers s.managed n.entry.made.op n.told v.allowed

  entry-peers : MayCome s n → PeerInvariant s.peer → Adds s.peer.peers.heap.freed (linkage_after s n).peer.peers.heap.freed ps (peers_in n.entry.made.reply)
  entry-peers m k = elim (sweep-or n.entry.made.op) [
    | inl e ↦ swept e
    | inr q ↦ adds-none _ _ _ _ (entry-freed s n k q) (told-peers ms ps n.entry.made.reply n.told w (side-peers (is_peer_event n.entry.made.caller n.entry.made.op) refl q m.lawful))
  ]
    where
      swept : n.entry.made.op ≡ op.Sweep → Adds s.peer.peers.heap.freed (linkage_after s n).peer.peers.heap.freed ps (peers_in n.entry.made.reply)
      swept e =
          let v = subst (λ o. SideLawful (is_peer_event n.entry.made.caller o) s (record n.entry.made { op = o }) n.told) e m.lawful in
          subst (λ o. Adds s.peer.peers.heap.freed (peer_after s.peer (record n.entry.made { op = o }) n.told (is_peer_event n.entry.made.caller o)).peers.heap.freed ps (peers_in n.entry.made.reply))
          (sym e)
          (sweep-by ms ps s n.entry.made.caller n.entry.made.index n.entry.made.reply n.entry.made.cites n.told v w)

-- the notices that were taken are the first of the list, and of those that were queued
record Waits (s : Managed) (list : List ℕ) : Type 0 where
  same : take s.taken list ≡ take s.taken s.notices
  within : s.taken ≤ length s.notices
  long : s.taken ≤ length list

abbrev IsFinalise : Op → Type 0
IsFinalise (op.Line (act.Finalise n)) = Unit {0}
IsFinalise _ = ⊥

module _ (s : Managed) where
  row-taken : (b : Bool) (r : Reply) (v : ℕ) (kind : Kind) (n : ℕ) (h : Option ℕ) → (if b then answer says.Full s else answer r (with_row s v kind n h)).state.taken ≡ s.taken
  row-taken true r v kind n h = refl
  row-taken false r v kind n h = refl

  cell-taken : (k x : ℕ) (o : Option ℕ) → (cell_set s k x o).state.taken ≡ s.taken
  cell-taken k x None = refl
  cell-taken k x (Some y) = refl

  weak-taken : (k v : ℕ) → (weakened_to s k v).state.taken ≡ s.taken
  weak-taken k v = by (slot s.heap.vars v)
    where
      by : (o : Option ℕ) → (weak_by s k o).state.taken ≡ s.taken
      by None = refl
      by (Some x) = cell-taken k x (slot s.cells k)

  twin-taken : (v h : ℕ) (sort : Sort) (n : ℕ) (o : Option ℕ) → (twin_met s v h sort n o).state.taken ≡ s.taken
  twin-taken v h sort n None = row-taken (is_full s.heap.fields) _ v (twin_kind sort) (twin_fields sort n) (Some h)
  twin-taken v h sort n (Some m) = refl

  met-taken : (v h : ℕ) (sort : Sort) (n : ℕ) (o : Option ℕ) → (met s v h sort n o).state.taken ≡ s.taken
  met-taken v h sort n o = by s.cycle
    where
      by : (c : Option OpenCycle) → (met_by s v h sort n o c).state.taken ≡ s.taken
      by None = twin-taken v h sort n o
      by (Some x) = refl

  give-taken : (o : Option ℕ) → (without_handle s o).taken ≡ s.taken
  give-taken None = refl
  give-taken (Some x) = refl

  take-taken : (t v : ℕ) → (pin_taken s t v).state.taken ≡ s.taken
  take-taken t v = by (slot s.pins t)
    where
      by : (o : Option ℕ) → (take_by s t v o).state.taken ≡ s.taken
      by None = refl
      by (Some x) = refl

  line-taken : (t : ℕ) (a : Act) → (IsFinalise (op.Line a) → ⊥) → (managed_line s t a).state.taken ≡ s.taken
  line-taken t (act.New v kind n) q = row-taken (is_full s.heap.fields) _ (place t v.0) kind n None
  line-taken t (act.Weak k v) q = weak-taken k.0 (place t v.0)
  line-taken t (act.Read k) q = ap (λ (z : Managed). z.taken) (read-filled s t k.0)
  line-taken t (act.Await k) q = ap (λ (z : Managed). z.taken) (read-filled s t k.0)
  line-taken t (act.Take v) q = take-taken t (place t v.0)
  line-taken t (act.Finalise n) q = absurd (q tt)
  line-taken t _ q = refl

event-taken : (s : ManagedReplay) (t : Thread) (o : Op) (told : Told) → (IsFinalise o → ⊥) → (managed_answer s t o told).state.managed.taken ≡ s.managed.taken
event-taken s t (op.Line a) told q = line-taken s.managed (thread_number t) a q
event-taken s t (op.Adopt v kind n p h) told q =
    let a = adopted s.managed (place (thread_number t) v.0) kind n h.0 in
    ap (λ (z : Managed). z.taken) (adopt_by-managed s p.0 h.0 a.state a.reply) ∙ row-taken s.managed (is_full s.managed.heap.fields) _ (place (thread_number t) v.0) kind n (Some h.0)
event-taken s t (op.Meet v sort n p h) told q =
    let a = met s.managed (place (thread_number t) v.0) h.0 sort n (registered s.registry p.0) in
    ap (λ (z : Managed). z.taken) (meet_by-managed s p.0 h.0 a.state a.reply) ∙ met-taken s.managed (place (thread_number t) v.0) h.0 sort n (registered s.registry p.0)
event-taken s t (op.Give v) told q =
    let u = place (thread_number t) v.0 in
    ap (λ (z : Managed). z.taken) (give_by-managed s (slot s.managed.heap.vars u) (given_up s.managed u)) ∙ give-taken s.managed (slot s.managed.heap.vars u)
event-taken s t (op.Snap k) (snap_of freed candidates dead) q = refl
event-taken s t (op.Snap k) told q = refl
event-taken s t (op.Contract k) (contraction_of comps heavy xrefs) q = refl
event-taken s t (op.Contract k) told q = refl
event-taken s t (op.Resolve k) (resolution_of alive freed) q = refl
event-taken s t (op.Resolve k) told q = refl
event-taken s t (op.Refused w) (phase_of phase) q = refl
event-taken s t (op.Refused w) told q = refl
event-taken s t o told q = refl

module _ (s : Linkage) (list : List ℕ) (w : Waits s.managed.managed list) where
  still-waits : (m : Managed) (more : List ℕ) → m.taken ≡ s.managed.managed.taken → m.notices ≡ s.managed.managed.notices ++ more → Waits m list
  still-waits m more e g = record {
    same = ap (λ k. take k list) e ∙ (w.same ∙ (sym (take-append-le s.managed.managed.taken s.managed.managed.notices more w.within)
        ∙ (ap (λ z. take s.managed.managed.taken z) (sym g) ∙ ap (λ k. take k m.notices) (sym e))));
    within = (let a = w.within in let b = ap length g in let c = length-append s.managed.managed.notices more in omega (arith, a, b, c, e));
    long = (let a = w.long in omega (arith, a, e));
  }

  module _ (t : Thread) (l : ℕ) (reply : Reply) (cites : Option ℕ) (number : ℕ) (named : (span : Span) → reply ≡ says.Took span → TakesNamed list s.managed.managed span) where
    abbrev note : Op → Told → Noted
    note o told = record { entry = record { number = number; made = record { caller = t; index = l; op = o; reply = reply; cites = cites } }; told = told }

    after-taken : (o : Op) (told : Told) (b : Bool) → (IsFinalise o → ⊥) → (managed_after s.managed (note o told).entry.made told b).managed.taken ≡ s.managed.managed.taken
    after-taken o told true q = refl
    after-taken o told false q = event-taken s.managed t o told q

    other-waits : (o : Op) (told : Told) → (IsFinalise o → ⊥) → Waits (linkage_after s (note o told)).managed.managed list
    other-waits o told q = (let g = (notices-go s (note o told)).grows in still-waits (linkage_after s (note o told)).managed.managed g.0 (after-taken o told (is_peer_event t o) q) g.1)

    takes-more : (m : Managed) (count : ℕ) → reply ≡ says.Took record { first = s.managed.managed.taken; count = count }
        → m.taken ≡ s.managed.managed.taken + count → m.notices ≡ s.managed.managed.notices → Waits m list
    takes-more m count r e g =
        let x = named (record { first = s.managed.managed.taken; count = count }) r in
        let low = x.stands.within in
        let queued = x.queued in
        record {
          same = ap (λ k. take k list) e
              ∙ (take-add s.managed.managed.taken count list
              ∙ ((λ i. w.same i ++ sym x.stands.named i)
              ∙ (sym (take-add s.managed.managed.taken count s.managed.managed.notices) ∙ ((λ i. take (s.managed.managed.taken + count) (sym g i)) ∙ ap (λ k. take k m.notices) (sym e)))));
          within = (let b = ap length g in omega (arith, queued, e, b));
          long = omega (arith, low, e);
        }

waits-on : (s : Linkage) (list : List ℕ) → Waits s.managed.managed list
    → (t : Thread) (l : ℕ) (reply : Reply) (cites : Option ℕ) (number : ℕ) (named : (span : Span) → reply ≡ says.Took span → TakesNamed list s.managed.managed span) (o : Op) (told : Told)
    → IsEvent t o
    → SideLawful (is_peer_event t o) s (record { caller = t; index = l; op = o; reply = reply; cites = cites }) told
    → Waits (linkage_after s (record { entry = record { number = number; made = record { caller = t; index = l; op = o; reply = reply; cites = cites } }; told = told })).managed.managed list
waits-on s list w C l reply cites number named (op.Line (act.Finalise n)) told e v =
    takes-more s list w C l reply cites number named _ (min n (length s.managed.managed.notices - s.managed.managed.taken)) v.replies refl refl
waits-on s list w (M u) l reply cites number named (op.Line (act.Finalise n)) told e v = absurd e.0.1
waits-on s list w (P u) l reply cites number named (op.Line (act.Finalise n)) told e v = absurd e.0.1
waits-on s list w t l reply cites number named o told e v = other-waits s list w t l reply cites number named o told (λ z. z)

-- a read names nothing
plain-none : (r : Reply) → IsPlain r → (objects_in r ≡ 0) × (peers_in r ≡ 0)
plain-none (says.Snapped n x) e = absurd e
plain-none (says.Swept j x) e = absurd e
plain-none (says.Freed x) e = absurd e
plain-none r e = (refl, refl)

read-plain : (s : Managed) (t : ℕ) (o : Op) (k : ℕ) → ReadsCell o k → IsPlain (read_cell s t k).reply
read-plain s t (op.Line (act.Read c)) k e = subst (λ z. IsPlain (read_cell s t z).reply) e (line-plain s t (act.Read c) tt)
read-plain s t (op.Line (act.Await c)) k e = subst (λ z. IsPlain (read_cell s t z).reply) e (line-plain s t (act.Await c) tt)
read-plain s t o k e = absurd e

aside-none : (r : Reply) → is_set_aside r ≡ true → (objects_in r ≡ 0) × (peers_in r ≡ 0)
aside-none (says.Snapped n x) e = absurd (let f : false ≡ true = e in cc)
aside-none (says.Swept j x) e = absurd (let f : false ≡ true = e in cc)
aside-none (says.Freed x) e = absurd (let f : false ≡ true = e in cc)
aside-none r e = (refl, refl)

read-none : (s : Linkage) (n : Noted) → is_read n.entry.made.op ≡ true → Stands s n → (objects_in n.entry.made.reply ≡ 0) × (peers_in n.entry.made.reply ≡ 0)
read-none s n e r = by (is_set_aside n.entry.made.reply) refl
  where
    by : (b : Bool) → is_set_aside n.entry.made.reply ≡ b → (objects_in n.entry.made.reply ≡ 0) × (peers_in n.entry.made.reply ≡ 0)
    by true a = aside-none n.entry.made.reply a
    by false a =
        let c = reads-some n.entry.made.op e in
        subst (λ z. (objects_in z ≡ 0) × (peers_in z ≡ 0)) (sym (r a c.0 c.1)) (plain-none _ (read-plain s.managed.managed (thread_number n.entry.made.caller) n.entry.made.op c.0 c.1))

-- over a past
abbrev objects_by : List Noted → ℕ
objects_by past = sum_by (λ e. objects_in e.made.reply) (entries (in_turn past))

abbrev peers_by : List Noted → ℕ
peers_by past = sum_by (λ e. peers_in e.made.reply) (entries (in_turn past))

record AllNamed (h : Finished) (past : List Noted) : Type 0 where
  objects : IsNamed (state_of past).managed.managed.heap.freed (managed_numbers h.freed_managed) (objects_by past)
  peers : IsNamed (state_of past).peer.peers.heap.freed (peer_numbers h.freed_peers) (peers_by past)
  notices : Waits (state_of past).managed.managed (managed_numbers h.notices)

sum-on : (f : Entry → ℕ) (n : Noted) (past : List Noted) → sum_by f (entries (in_turn (n ∷ past))) ≡ sum_by f (entries (in_turn past)) + f n.entry
sum-on f n past = ap (λ z. sum_by f (entries z)) (turned-onto (n ∷ []) past) ∙ (ap (λ z. sum_by f z) (entries-append (in_turn past) (n ∷ [])) ∙ sum_by_push f (entries (in_turn past)) n.entry)

all-named : (h : Finished) (whole : List Noted) (cells : List (Option ℕ)) (past : List Noted) → AllInOrder h past → AllComeBehind past → AllStand past → AllReadOver whole cells past → AllNamed h past
all-named h whole cells [] o w r v = record {
  objects = record { same = refl; many = refl; within = omega arith };
  peers = record { same = refl; many = refl; within = omega arith };
  notices = record { same = refl; within = omega arith; long = omega arith };
}
all-named h whole cells (n ∷ past) o w r v = by (all-named h whole cells past o.1 w.1 r.1 v.1) (is_read n.entry.made.op) refl o.0.replies w.0
  where
    objects-sum : objects_by (n ∷ past) ≡ objects_by past + objects_in n.entry.made.reply
    objects-sum = sum-on (λ e. objects_in e.made.reply) n past

    peers-sum : peers_by (n ∷ past) ≡ peers_by past + peers_in n.entry.made.reply
    peers-sum = sum-on (λ e. peers_in e.made.reply) n past

    by : AllNamed h past → (b : Bool) → is_read n.entry.made.op ≡ b → RepliesBehind b h past n → ComesBehind b (state_of past) n → AllNamed h (n ∷ past)
    by rest true e q c =
        let none = read-none (state_of past) n e r.0 in
        let same = sym (after-read (state_of past) n e) in
        record {
          objects = subst (λ (z : Linkage). IsNamed z.managed.managed.heap.freed (managed_numbers h.freed_managed) (objects_by (n ∷ past))) same
              (subst (λ k. IsNamed (state_of past).managed.managed.heap.freed (managed_numbers h.freed_managed) k)
              (let a = objects-sum in let b = none.0 in let u : objects_by past ≡ objects_by (n ∷ past) = omega (arith, a, b) in u) rest.objects);
          peers = subst (λ (z : Linkage). IsNamed z.peer.peers.heap.freed (peer_numbers h.freed_peers) (peers_by (n ∷ past))) same
              (subst (λ k. IsNamed (state_of past).peer.peers.heap.freed (peer_numbers h.freed_peers) k)
              (let a = peers-sum in let b = none.1 in let u : peers_by past ≡ peers_by (n ∷ past) = omega (arith, a, b) in u) rest.peers);
          notices = subst (λ (z : Linkage). Waits z.managed.managed (managed_numbers h.notices)) same (record { same = rest.notices.same; within = rest.notices.within; long = rest.notices.long });
        }
    by rest false e q c =
        let same = sym (after-other (state_of past) n e) in
        let k = kept past w.1 r.1 in
        let p = peers-kept whole cells past w.1 v.1 in
        record {
          objects = subst (λ (z : Linkage). IsNamed z.managed.managed.heap.freed (managed_numbers h.freed_managed) (objects_by (n ∷ past))) same
              (subst (λ k. IsNamed (linkage_after (state_of past) n).managed.managed.heap.freed (managed_numbers h.freed_managed) k) (sym objects-sum)
              (goes-on _ _ _ _ _ rest.objects (entry-objects (managed_numbers h.freed_managed) (peer_numbers h.freed_peers) (state_of past) n q.names.freed c k)));
          peers = subst (λ (z : Linkage). IsNamed z.peer.peers.heap.freed (peer_numbers h.freed_peers) (peers_by (n ∷ past))) same
              (subst (λ k. IsNamed (linkage_after (state_of past) n).peer.peers.heap.freed (peer_numbers h.freed_peers) k) (sym peers-sum)
              (goes-on _ _ _ _ _ rest.peers (entry-peers (managed_numbers h.freed_managed) (peer_numbers h.freed_peers) (state_of past) n q.names.freed c p)));
          notices = subst (λ (z : Linkage). Waits z.managed.managed (managed_numbers h.notices)) same
              (waits-on (state_of past) (managed_numbers h.notices) rest.notices n.entry.made.caller n.entry.made.index
              n.entry.made.reply n.entry.made.cites n.entry.number q.names.taken n.entry.made.op n.told c.event c.lawful);
        }

-- a past in order reads behind
pub all_read : (h : Finished) (past : List Noted) → AllInOrder h past → AllReadBehind past
all_read h [] o = tt
all_read h (n ∷ past) o = (by (is_read n.entry.made.op) refl o.0.replies, all_read h past o.1)
  where
    by : (b : Bool) → is_read n.entry.made.op ≡ b → RepliesBehind b h past n → ReadsBehind past n × GivesSnap past n
    by true e r = (r.reply, λ m k w. absurd (true-false (is_managed_entry n) m (read-unmanaged n e)))
    by false e r = (λ k c. absurd (true-false (is_read n.entry.made.op) (cell-read n.entry.made.op k c) e), r.snap)

pub all_over : (h : Finished) (past : List Noted) → NumberedFrom 0 h.entries → IsAllInOrder h past → NothingFollows past → AllReadOver (in_turn past) (state_of past).managed.managed.cells past
all_over h past m o f = (readers_tested past (all_come h past o.order) (in_place past (subst (NumberedFrom 0) (sym o.same) m))).0 (all_read h past o.order, f.snapped)

pub names_lists : NamesAreLists
names_lists h past m o f =
    let a = all-named h (in_turn past) (state_of past).managed.managed.cells past o.order (all_come h past o.order) (stand_behind past (all_read h past o.order)) (all_over h past m o f) in
    record {
      objects = sym (take-map (λ (x : MNum). x.0) (sum_by (λ e. objects_in e.made.reply) h.entries) h.freed_managed)
          ∙ (ap (λ es. take (sum_by (λ e. objects_in e.made.reply) es) (managed_numbers h.freed_managed)) (sym o.same) ∙ sym a.objects.same);
      peers = sym (take-map (λ (x : PNum). x.0) (sum_by (λ e. peers_in e.made.reply) h.entries) h.freed_peers)
          ∙ (ap (λ es. take (sum_by (λ e. peers_in e.made.reply) es) (peer_numbers h.freed_peers)) (sym o.same) ∙ sym a.peers.same);
      notices = a.notices.same;
    }
