-- What was freed stays freed, so reads of it answer gone: the read of a cell after its resolution, once the caller's
-- pin is empty and no cycle is open, and one that is open has a later number; a weak read of a peer, whose handle is
-- cleared or has left the table. And only a mirror adds references.
use Rattle.std.proofs.Common.{◌≡◌, ℕ, zero, suc, ◌+◌, ◌-◌, ◌<◌, ◌≤◌, ◌⊎◌, inl, inr, Bool, true, false, List, [], length, Option, Some, None, refl, sym, ap, subst, ◌∙◌, arith}
use Rattle.std.specs.Prelude.{Contains, if◌then◌else◌, slice_get, slice_set}
use Rattle.std.proofs.lemmas.Option.{same_Some}
use Rattle.std.proofs.lemmas.List.Elements.{Contains-append_right}
use Rattle.std.proofs.lemmas.List.{take_all}
use Rattle.std.proofs.lemmas.Bool.{cases_lt}
use Rattle.joint_machine.specs.declared.names.Thread.{Thread}
use Rattle.joint_machine.specs.declared.names.Thread.TheVariants.{M, P, C}
use Rattle.joint_machine.specs.declared.names.Cycle.{Cycle}
use Rattle.joint_machine.specs.declared.lines.Act.TheVariants as act
use Rattle.joint_machine.specs.declared.events.Op.{Op}
use Rattle.joint_machine.specs.declared.events.Op.TheVariants as op
use Rattle.joint_machine.specs.declared.events.Reply.{Reply}
use Rattle.joint_machine.specs.declared.events.Reply.TheVariants as says
use Rattle.joint_machine.specs.Heaps.{Answered, answer, slot, numbered_at, place}
use Rattle.joint_machine.specs.Lines.{IsEvent, is_peer_event, is_peer_thread}
use Rattle.joint_machine.specs.Linked.{Linkage, MayCome, SideLawful, ManagedLawful, PeerLawful, opening_linkage, linkage_after, managed_after, peer_after}
use Rattle.joint_machine.specs.Replaying.{AllMayCome, replayed}
use Rattle.joint_machine.specs.Managed.{Managed, OpenCycle, target_read, cell_read, read_cell, managed_name}
use Rattle.joint_machine.specs.ManagedReplay.{ManagedReplay, MayResolve}
use Rattle.joint_machine.specs.PeerReplay.{PeerReplay, TableRow, Marking, row_of, table_target, SweepAllows, swept, swept_of, on_table}
use Rattle.joint_machine.specs.Peers.{Peers, peer_of, peer_read, name_read}
use Rattle.joint_machine.specs.Readers.{ReadsCell}
use Rattle.joint_machine.specs.Run.{thread_number}
use Rattle.joint_machine.specs.Told.{Told, Noted, Answer, sweep_of, resolution_of}
use Rattle.joint_machine.proofs.Deciding.{none_some}
use Rattle.joint_machine.proofs.HeapLemmas.{Contains-is_freed}
use Rattle.joint_machine.proofs.Numbered.{slot-named, numbered-made}
use Rattle.joint_laws.specs.AfterwardsLaws.{ReadsAreGone, WeakReadsAreGone, NoneIsMirrored}
use Rattle.joint_laws.specs.Afterwards.{IsGoneAfter, NoMirrorBetween, ReadsPeer, ResolveFrees, SweepFrees}
use Rattle.joint_laws.specs.PeerInvariants.{PeerInvariant}
use Rattle.joint_laws.specs.States.{state_at}
use Rattle.joint_laws.proofs.Everywhere.{everywhere, from_state}
use Rattle.joint_laws.proofs.FreedLists.{grows-Contains, managed-grows, peers-grown}
use Rattle.joint_laws.proofs.JointSteps.{may-end, bring-reply}
use Rattle.joint_laws.proofs.SparedWalks.{peer_of-row}
use Rattle.joint_laws.proofs.Journeys.{refs-entry}
use Rattle.joint_laws.proofs.LinkedEntries.{Of, BothInvariants-entry, BothInvariants-opening}
use Rattle.joint_laws.proofs.ManagedEntries.{ManagedStep-entry}
use Rattle.joint_laws.proofs.ManagedSteps.{ManagedStep, going_on, snapping, resolving, abandoning}
use Rattle.joint_laws.proofs.Places.{comes-at, after-at}

-- where a handle leads, by its row
abbrev target_by : PeerReplay → ℕ → Option TableRow → Option ℕ
target_by s h None = None
target_by s h (Some row) = if row.cleared then None else peer_of s.peers.issued h

-- a weak read, by what the name has
abbrev wread_by : (ℕ → Option ℕ) → Peers → ℕ → Option ℕ → Answered Peers
wread_by target s v None = answer says.Unset s
wread_by target s v (Some h) = peer_read s v (target h)

-- a read, by what the pin, the open cycle and the cell are
abbrev read_by : Managed → ℕ → ℕ → Option ℕ → Answered Managed
read_by s t c None = cell_read s t c s.cycle
read_by s t c (Some x) = answer (says.Pinned record { 0 = x }) s

module _ (s : Managed) (t : Thread) (c k m : ℕ) (freed : Contains s.heap.freed m) (later : (x : OpenCycle) → s.cycle ≡ Some x → k < x.number) (target : slot s.cells c ≡ Some m) (reply : Reply) where
  gone : (target_read s (thread_number t) (Some m)).reply ≡ says.Gone
  gone = ap (λ b. (if b then answer says.Gone s else answer (managed_name m) (record s { pins = slice_set s.pins (thread_number t) (Some m) })).reply) (Contains-is_freed s.heap m freed)

  cell-gone : (o : Option OpenCycle) → s.cycle ≡ o → reply ≡ (cell_read s (thread_number t) c o).reply → IsGoneAfter s t k reply
  cell-gone None e r = inl (r ∙ (ap (λ o. (target_read s (thread_number t) o).reply) target ∙ gone))
  cell-gone (Some x) e r = inr (inr (x, e, later x e, r))

  pub read-gone : reply ≡ (read_cell s (thread_number t) c).reply → IsGoneAfter s t k reply
  read-gone r = by (slot s.pins (thread_number t)) refl r
    where
      by : (o : Option ℕ) → slot s.pins (thread_number t) ≡ o → reply ≡ (read_by s (thread_number t) c o).reply → IsGoneAfter s t k reply
      by None e q = cell-gone s.cycle refl q
      by (Some x) e q = inr (inl (x, e, q))

-- after the resolution of cycle k, which frees the object
pub record IsAfter (k m : ℕ) (s : Linkage) : Type 0 where
  pub kept : Of s
  pub freed : Contains s.managed.managed.heap.freed m
  pub count : k ≤ s.managed.managed.cycles
  pub later : (c : OpenCycle) → s.managed.managed.cycle ≡ Some c → k < c.number

after-next : (k m : ℕ) (s : Linkage) (n : Noted) → MayCome s n → IsAfter k m s → IsAfter k m (linkage_after s n)
after-next k m s n may w = by (ManagedStep-entry s n may w.kept.managed)
  where
    t : Linkage
    t = linkage_after s n

    make : k ≤ t.managed.managed.cycles → ((c : OpenCycle) → t.managed.managed.cycle ≡ Some c → k < c.number) → IsAfter k m (linkage_after s n)
    make c l = record { kept = BothInvariants-entry s n may w.kept; freed = grows-Contains _ _ m (managed-grows s n may w.kept) w.freed; count = c; later = l }

    by : ManagedStep s.managed.managed (linkage_after s n).managed.managed → IsAfter k m (linkage_after s n)
    by (going_on g) = make (let e = g.cycles in let f = w.count in omega arith) (λ c e. w.later c (sym g.cycle ∙ e))
    by (snapping p) = make (let e = ap (λ (z : Managed). z.cycles) p.is in let f = w.count in omega arith) (λ c e. (
        let q = ap (λ (z : OpenCycle). z.number) (same_Some _ c (sym (ap (λ (z : Managed). z.cycle) p.is) ∙ e)) in
        let f = w.count in
        omega arith))
    by (resolving p) = make (let e = ap (λ (z : Managed). z.cycles) p.is in let f = w.count in omega arith) (λ c e. absurd (none_some c (sym (ap (λ (z : Managed). z.cycle) p.is) ∙ e)))
    by (abandoning p) = make (let e = ap (λ (z : Managed). z.cycles) p.is in let f = w.count in omega arith) (λ c e. absurd (none_some c (sym (ap (λ (z : Managed). z.cycle) p.is) ∙ e)))

-- just after it
resolved-after : (s : Linkage) (n : Noted) (k m : ℕ) (alive : List Answer) (freed : List ℕ) → MayCome s n → Of s
    → n.entry.made.op ≡ op.Resolve record { 0 = k } → n.told ≡ resolution_of alive freed → Contains freed m → IsAfter k m (linkage_after s n)
resolved-after s n k m alive freed may w e f c = record {
  kept = BothInvariants-entry s n may w;
  freed = subst (λ (z : ManagedReplay). Contains z.managed.heap.freed m) is (Contains-append_right s.managed.managed.heap.freed freed m c);
  count = subst (λ (z : ManagedReplay). k ≤ z.managed.cycles) is (let a = (w.managed.managed.dead r.cycle r.open_cycle.0).latest in let b = r.open_cycle.1 in omega (arith, a, b));
  later = λ x q. absurd (none_some x (ap (λ (z : ManagedReplay). z.managed.cycle) is ∙ q));
}
  where
    after_by : Op → Told → ManagedReplay
    after_by o told = managed_after s.managed (record n.entry.made { op = o }) told (is_peer_event n.entry.made.caller o)

    is : after_by (op.Resolve record { 0 = k }) (resolution_of alive freed) ≡ (linkage_after s n).managed
    is = λ i. after_by (sym e i) (sym f i)

    r : MayResolve s.managed k alive freed
    r = (subst (λ told. ManagedLawful s.managed (record n.entry.made { op = op.Resolve record { 0 = k } }) told) f
        (subst (λ o. SideLawful (is_peer_event n.entry.made.caller o) s (record n.entry.made { op = o }) n.told) e may.lawful)).allowed

-- so it is in each later place
pub after-resolve : (noted : List Noted) → AllMayCome opening_linkage noted → (i j k m : ℕ) → ResolveFrees noted i k m → i < j → IsAfter k m (state_at noted j)
after-resolve noted may i j k m r l =
    let first : IsAfter k m (state_at noted (suc i)) = subst (IsAfter k m) (sym (after-at noted i r.element r.there))
    (resolved-after (state_at noted i) r.element k m r.is.1 r.is.2 (comes-at noted i r.element may r.there)
    (everywhere Of BothInvariants-opening BothInvariants-entry noted may i) r.is.0 r.is.3 r.is.4) in
    subst (λ p. IsAfter k m (state_at noted p)) (omega (arith, l)) (from_state (IsAfter k m) (λ s n w a. after-next k m s n w a) noted may (suc i) (j - suc i) first)

-- the reply of a read that is an entry of the managed side
read-reply : (s : Linkage) (n : Noted) (c : ℕ) → MayCome s n → ReadsCell n.entry.made.op c → n.entry.made.reply ≡ (read_cell s.managed.managed (thread_number n.entry.made.caller) c).reply
read-reply s n c may r = by n.entry.made.caller n.entry.made.op may.event may.lawful r
  where
    by : (t : Thread) (o : Op) → IsEvent t o → SideLawful (is_peer_event t o) s (record n.entry.made { caller = t; op = o }) n.told
        → ReadsCell o c → n.entry.made.reply ≡ (read_cell s.managed.managed (thread_number t) c).reply
    by (M u) (op.Line (act.Read x)) e w q = w.replies ∙ ap (λ z. (read_cell s.managed.managed u z).reply) q
    by (M u) (op.Line (act.Await x)) e w q = w.replies ∙ ap (λ z. (read_cell s.managed.managed u z).reply) q
    by (P u) (op.Line (act.Read x)) e w q = absurd e.0.1
    by (P u) (op.Line (act.Await x)) e w q = absurd e.0.1
    by C (op.Line (act.Read x)) e w q = absurd e.0
    by C (op.Line (act.Await x)) e w q = absurd e.0
    by t o e w q = absurd q

pub reads_are_gone : ReadsAreGone
reads_are_gone noted may i j k m n r l there w =
    let a = after-resolve noted may i j k m r l in
    read-gone (state_at noted j).managed.managed n.entry.made.caller w.cell k m a.freed a.later w.target n.entry.made.reply
    (read-reply (state_at noted j) n w.cell (comes-at noted j n may there) w.reads)

-- a peer that a sweep freed
swept-frees : (s : Linkage) (n : Noted) (p : ℕ) (freed : List ℕ) → MayCome s n → n.entry.made.op ≡ op.Sweep
    → n.told ≡ sweep_of freed → Contains freed p → Contains (linkage_after s n).peer.peers.heap.freed p
swept-frees s n p freed may e f c = subst (λ (z : PeerReplay). Contains z.peers.heap.freed p) is (by s.peer.marking allowed)
  where
    after_by : Op → Told → PeerReplay
    after_by o told = peer_after s.peer (record n.entry.made { op = o }) told (is_peer_event n.entry.made.caller o)

    is : after_by op.Sweep (sweep_of freed) ≡ (linkage_after s n).peer
    is = λ i. after_by (sym e i) (sym f i)

    allowed : SweepAllows s.peer s.peer.marking n.entry.made.caller (sweep_of freed)
    allowed = (subst (λ told. PeerLawful s.peer (record n.entry.made { op = op.Sweep }) told) f
        (subst (λ o. SideLawful (is_peer_event n.entry.made.caller o) s (record n.entry.made { op = o }) n.told) e may.lawful)).allowed

    none_to_end : (t : Thread) → SweepAllows s.peer None t (sweep_of freed) → ⊥
    none_to_end (P u) a = a
    none_to_end (M u) a = a
    none_to_end C a = a

    by : (x : Option Marking) → SweepAllows s.peer x n.entry.made.caller (sweep_of freed) → Contains (swept s.peer x n.entry.made.caller freed).state.peers.heap.freed p
    by None a = absurd (none_to_end n.entry.made.caller a)
    by (Some mk) a = subst (λ b. Contains (if b then swept_of s.peer mk freed else answer (says.MarkOpen record { 0 = mk.number }) s.peer).state.peers.heap.freed p)
        (sym (may-end n.entry.made.caller mk.by a.0)) (Contains-append_right s.peer.peers.heap.freed freed p c)

-- a weak read of a freed peer
pub weak-read : (s : Linkage) (n : Noted) (p : ℕ) → PeerInvariant s.peer → Contains s.peer.peers.heap.freed p → MayCome s n → ReadsPeer s.peer n p → n.entry.made.reply ≡ says.Gone
weak-read s n p k freed may r = by n.entry.made.caller (subst (λ o. IsEvent n.entry.made.caller o) r.reads may.event)
    (subst (λ o. SideLawful (is_peer_event n.entry.made.caller o) s (record n.entry.made { op = o }) n.told) r.reads may.lawful)
  where
    -- the handle leads nowhere
    row_leads : (x : Option TableRow) → row_of s.peer r.handle ≡ x → target_by s.peer r.handle x ≡ None
    row_leads None e = refl
    row_leads (Some row) e = at (row.cleared) refl
      where
        at : (b : Bool) → row.cleared ≡ b → (if b then None else peer_of s.peer.peers.issued r.handle) ≡ None
        at true q = refl
        at false q = absurd (let i = peer_of-row s.peer.peers.issued r.handle p r.leads in
            (k.handles.uncleared r.handle row i.0 (slot-named (numbered_at s.peer.table r.handle) row e) i.1 q).kept (subst (λ z. Contains s.peer.peers.heap.freed z) (sym i.2) freed))

    target : table_target s.peer r.handle ≡ None
    target = row_leads (row_of s.peer r.handle) refl

    by : (t : Thread) → IsEvent t (op.Line (act.WRead r.var r.name))
        → SideLawful (is_peer_thread t) s (record n.entry.made { caller = t; op = op.Line (act.WRead r.var r.name) }) n.told → n.entry.made.reply ≡ says.Gone
    by (M u) e w = absurd e.0.1
    by C e w = absurd e.0
    by (P u) e w = w.replies ∙ (bring-reply (on_table s.peer (name_read (table_target s.peer) s.peer.peers (place u r.var.0) r.name.0))
        (name_read (table_target s.peer) s.peer.peers (place u r.var.0) r.name.0).reply
        ∙ (ap (λ o. (wread_by (table_target s.peer) s.peer.peers (place u r.var.0) o).reply) r.named ∙ ap (λ o. (peer_read s.peer.peers (place u r.var.0) o).reply) target))

pub freed-since : (noted : List Noted) → AllMayCome opening_linkage noted → (i j p : ℕ) → SweepFrees noted i p → i < j → Contains (state_at noted j).peer.peers.heap.freed p
freed-since noted may i j p w l =
    let first : Contains (state_at noted (suc i)).peer.peers.heap.freed p = subst (λ (z : Linkage). Contains z.peer.peers.heap.freed p) (sym (after-at noted i w.element w.there))
    (swept-frees (state_at noted i) w.element p w.is.1 (comes-at noted i w.element may w.there) w.is.0 w.is.2 w.is.3) in
    let same : suc i + (j - suc i) ≡ j = omega (arith, l) in
    subst (λ x. Contains (state_at noted x).peer.peers.heap.freed p) same (grows-Contains _ _ p (peers-grown noted may (suc i) (j - suc i)) first)

pub weak_reads_are_gone : WeakReadsAreGone
weak_reads_are_gone noted may i j p n w l there r =
    weak-read (state_at noted j) n p (everywhere Of BothInvariants-opening BothInvariants-entry noted may j).peer (freed-since noted may i j p w l) (comes-at noted j n may there) r

-- references
clear-or : (o : Op) → ((k : Cycle) × (o ≡ op.Clear k)) ⊎ ((k : Cycle) → o ≡ op.Clear k → ⊥)
clear-or (op.Clear k) = inl (k, refl)
clear-or _ = inr (λ k e. cc)

pub cleared-refs : (s : Linkage) (n : Noted) (k : Cycle) → n.entry.made.op ≡ op.Clear k → (linkage_after s n).peer.refs ≡ []
cleared-refs s n k e = ap (λ o. (peer_after s.peer (record n.entry.made { op = o }) n.told (is_peer_event n.entry.made.caller o)).refs) e

pub unmirrored-refs : (s : Linkage) (n : Noted) → s.peer.refs ≡ [] → ((k : Cycle) → n.entry.made.op ≡ op.Mirror k → ⊥) → (linkage_after s n).peer.refs ≡ []
unmirrored-refs s n e out = elim (clear-or n.entry.made.op) [
  | inl c ↦ cleared-refs s n c.0 c.1
  | inr c ↦ refs-entry s n out c ∙ e
]

-- place by place, for states that each entry leads from one to the next
pub none-stands : (noted : List Noted) (at : ℕ → Linkage) → ((p : ℕ) (n : Noted) → slice_get noted p ≡ Some n
    → ((k : Cycle) → n.entry.made.op ≡ op.Mirror k → ⊥) → (at p).peer.refs ≡ [] → (at (suc p)).peer.refs ≡ [])
    → ((p : ℕ) → length noted ≤ p → (at (suc p)).peer.refs ≡ (at p).peer.refs) → (i more : ℕ)
    → NoMirrorBetween noted i (suc i + more) → (at (suc i)).peer.refs ≡ [] → (at (suc i + more)).peer.refs ≡ []
none-stands noted at step past i zero out e = ap (λ p. (at p).peer.refs) (omega arith) ∙ e
none-stands noted at step past i (suc more) out e =
    let before-it = none-stands noted at step past i more (λ x k l m. out x k l (omega (arith, m))) e in
    ap (λ p. (at p).peer.refs) (omega arith) ∙ (elim (cases_lt (suc i + more) (length noted)) [
      | inl l ↦ (let n = numbered-made noted (suc (suc i + more)) (omega arith) (omega (arith, l)) in
          step (suc i + more) n.0 n.1 (λ k q. out (suc i + more) k.0 (omega arith) (omega arith) (record { element = n.0; there = n.1; is = q })) before-it)
      | inr l ↦ past (suc i + more) l ∙ before-it
    ])

pub none_is_mirrored : NoneIsMirrored
none_is_mirrored noted may i j k c l out =
    let same : suc i + (j - suc i) ≡ j = omega (arith, l) in
    ap (λ p. (state_at noted p).peer.refs) (sym same)
    ∙ none-stands noted (state_at noted) (λ p n e o f. ap (λ (z : Linkage). z.peer.refs) (after-at noted p n e) ∙ unmirrored-refs (state_at noted p) n f o)
    (λ p q. ap (λ ns. (replayed opening_linkage ns).peer.refs) (take_all (suc p) noted (omega (arith, q)) ∙ sym (take_all p noted q)))
    i (j - suc i) (subst (NoMirrorBetween noted i) (sym same) out)
    (ap (λ (z : Linkage). z.peer.refs) (after-at noted i c.element c.there) ∙ cleared-refs (state_at noted i) c.element (record { 0 = k }) c.is)
