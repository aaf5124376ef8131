-- An event of the peers is the replay's: where the heap or the handles did the definition's own, the replay's reply and
-- next state are those that the rows show. A handle that is issued comes into the table, and nothing else does.
use Rattle.std.proofs.Common.{◌≡◌, ℕ, zero, suc, ◌+◌, ◌-◌, ◌≤◌, true, false, ◌||◌, List, [], ◌∷◌, ◌++◌, length, Option, Some, None, refl, sym, ap, subst, ◌∙◌, arith}
use Rattle.std.specs.Prelude.{slice_get, slice_set}
use Rattle.joint_machine.specs.declared.names.GName.{GName}
use Rattle.joint_machine.specs.declared.names.HNum.{HNum}
use Rattle.joint_machine.specs.declared.names.StaticNo.{StaticNo}
use Rattle.joint_machine.specs.declared.names.Thread.{Thread}
use Rattle.joint_machine.specs.declared.names.Var.{Var}
use Rattle.joint_machine.specs.declared.lines.Act.TheVariants as act
use Rattle.joint_machine.specs.declared.events.Op.{Op}
use Rattle.joint_machine.specs.declared.events.Op.TheVariants as op
use Rattle.joint_machine.specs.declared.names.PNum.{PNum}
use Rattle.joint_machine.specs.declared.names.Sort.{Sort}
use Rattle.joint_machine.specs.declared.names.Sort.TheVariants.{Framework}
use Rattle.joint_machine.specs.declared.events.Reply.TheVariants as says
use Rattle.joint_machine.specs.declared.events.Reply.{Reply}
use Rattle.joint_machine.specs.Heaps.{Heap, Answered, answer, is_full, slot, place, fields_of, next_number, numbered_set, with_var, with_static, with_object}
use Rattle.joint_machine.specs.Peers.{Peers, handles_full, on_peer_heap, peer_name, sort_of, pair_made, gripped, landed, globalised, name_given, name_freed, name_read, peer_read}
use Rattle.joint_machine.specs.PeerReplay.{PeerReplay, opening_peer_replay, on_table, untabled, bring_by, brings, table_target, peer_answer}
use Rattle.joint_machine.specs.Run.{thread_number}
use Rattle.joint_machine.specs.Told.{nothing}
use Rattle.joint_laws.proofs.PeerQuiet.{table-still, table-issued}
use Rattle.heap_rules.specs.declared.done.Done.{Done}
use Rattle.heap_rules.specs.Done.{Did, say}
use Rattle.row_heap.specs.Rows.{HeapRows}
use Rattle.global_handles.specs.declared.Hold.TheVariants.{Held, Raw}
use Rattle.global_handles.specs.declared.Strength.{Strength}
use Rattle.global_handles.specs.declared.Strength.TheVariants.{Strong}
use Rattle.peer_heap.specs.declared.issues.Issue.{Issue}
use Rattle.peer_heap.specs.Rows.{Rows, PeersAnswer, peers_in, with_rows, issued_to, issued_as, strength_as, marking_by, marking_after, GoesBy}

-- an event that issues no handle
pub answers-still : (old new : Rows) (a : Answered Peers) (r : Reply) → a ≡ answer r (peers_in new) → new.issued ≡ old.issued → new.table ≡ old.table → PeersAnswer old a r new
answers-still old new a r e issued table = record { peers = e; table = table ∙ sym (table-still (with_rows opening_peer_replay old) (peers_in new) issued) }

-- the heap's own events
pub answers-heap : (old : Rows) (rows : HeapRows) (operation : (ℕ → Reply) → Answered Heap) (d : Done) (r : Reply) → Did operation d rows.heap
    → r ≡ say peer_name d → PeersAnswer old (on_peer_heap (peers_in old) (operation peer_name)) r (record old { rows = rows })
answers-heap old rows operation d r did said = answers-still old (record old { rows = rows }) _ r
    (ap (on_peer_heap (peers_in old)) (did peer_name) ∙ ap (λ z. answer z (record (peers_in old) { heap = rows.heap })) (sym said)) refl refl

-- an event of the peers, as one of the replay
pub goes-answers : (old new : Rows) (a : Answered Peers) (r : Reply) → PeersAnswer old a r new → (s : PeerReplay) → on_table (with_rows s old) a ≡ answer r (with_rows s new)
goes-answers old new a r w s = ap (on_table (with_rows s old)) w.peers ∙ ap (λ t. answer r (record s { peers = peers_in new; table = t })) (sym w.table)

-- `global` and `wglobal`: of a variable that names a peer, refused, or done
pub globalised-some : (old : Rows) (g v p : ℕ) (st : Strength) → slot old.rows.heap.vars v ≡ Some p
    → globalised (peers_in old) g v (strength_as st) ≡ name_given (peers_in old) g p (strength_as st) (slot old.names g)
globalised-some old g v p st var = ap (λ o. elim o [ None ↦ answer says.Empty (peers_in old) | Some q ↦ name_given (peers_in old) g q (strength_as st) (slot old.names g) ]) var

pub answers-taken : (old : Rows) (g p : ℕ) (st : Strength) (o : Option ℕ) (h : ℕ) → o ≡ Some h → PeersAnswer old (name_given (peers_in old) g p (strength_as st) o) says.Taken old
answers-taken old g p st o h name = answers-still old old (name_given (peers_in old) g p (strength_as st) o) says.Taken (rw name refl) refl refl

pub answers-no_handle : (old : Rows) (g p : ℕ) (st : Strength) (o : Option ℕ) → o ≡ None
    → handles_full (peers_in old) ≡ true → PeersAnswer old (name_given (peers_in old) g p (strength_as st) o) says.Full old
answers-no_handle old g p st o name full = answers-still old old (name_given (peers_in old) g p (strength_as st) o) says.Full (rw (name, full) refl) refl refl

pub answers-named : (old : Rows) (g : ℕ) (p : PNum) (st : Strength) (o : Option ℕ) (h : HNum) → o ≡ None → handles_full (peers_in old) ≡ false → h.0 ≡ length old.issued + 1
    → PeersAnswer old (name_given (peers_in old) g p.0 (strength_as st) o) (says.H h)
    (record (issued_to old record { peer = p; hold = Raw; strength = st }) { names = slice_set old.names g (Some h.0) })
answers-named old g p st o h name full number =
    let i : Issue = record { peer = p; hold = Raw; strength = st } in
    let new : Rows = record (issued_to old i) { names = slice_set old.names g (Some h.0) } in
    let handle : h ≡ record { 0 = length old.issued + 1 } = ap (λ (m : ℕ). (let q : HNum = record { 0 = m } in q)) number in
    record { peers = rw (name, full, handle) refl; table = sym (table-issued (with_rows opening_peer_replay old) (peers_in new) (issued_as i) refl) }

-- `unglobal`: refused, or done
pub goes-unset : (old : Rows) (g : ℕ) → slot old.names g ≡ None → (s : PeerReplay)
    → on_table (untabled (with_rows s old) (slot old.names g)) (name_freed (peers_in old) g) ≡ answer says.Unset (with_rows s old)
goes-unset old g none s = rw (none, name_freed) (ap (λ t. answer says.Unset (record s { peers = peers_in old; table = t })) (table-still (with_rows s old) (peers_in old) refl))

pub goes-unnamed : (old : Rows) (g h n : ℕ) → slot old.names g ≡ Some h → (s : PeerReplay)
    → on_table (untabled (with_rows s old) (slot old.names g)) (name_freed (peers_in old) g) ≡ answer says.Ok
    (with_rows s (record old { names = slice_set old.names g None; table = numbered_set old.table h None; tabled = n }))
goes-unnamed old g h n some s =
    let new : Rows = record old { names = slice_set old.names g None; table = numbered_set old.table h None; tabled = n } in
    rw (some, name_freed) (ap (λ t. answer says.Ok (record s { peers = peers_in new; table = t }))
    (table-still (with_rows s (record old { table = numbered_set old.table h None })) (peers_in new) refl))

pub answers-pair : (old : Rows) (rows : HeapRows) (sorts : List Sort) (sort : Sort) (n : ℕ) (p : PNum) (h : HNum)
    → (is_full old.rows.heap.fields || handles_full (peers_in old)) ≡ false → p.0 ≡ next_number old.rows.heap → h.0 ≡ length old.issued + 1
    → rows.heap ≡ with_object old.rows.heap n → sorts ≡ old.sorts ++ sort ∷ []
    → PeersAnswer old (pair_made (peers_in old) sort n) (says.Made p h) (record (issued_to old record { peer = p; hold = Held; strength = Strong }) { rows = rows; sorts = sorts })
answers-pair old rows sorts sort n p h room number next grown more =
    let i : Issue = record { peer = p; hold = Held; strength = Strong } in
    let new : Rows = record (issued_to old i) { rows = rows; sorts = sorts } in
    let peer : p ≡ record { 0 = next_number old.rows.heap } = ap (λ (m : ℕ). (let q : PNum = record { 0 = m } in q)) number in
    let handle : h ≡ record { 0 = length old.issued + 1 } = ap (λ (m : ℕ). (let q : HNum = record { 0 = m } in q)) next in
    record { peers = rw (room, grown, more, peer, handle) refl; table = sym (table-issued (with_rows opening_peer_replay old) (peers_in new) (issued_as i) refl) }

pub answers-gripped : (old : Rows) (x : ℕ) (p : PNum) (h : HNum) (sort : Sort) (n : ℕ) → slot old.rows.heap.statics x ≡ Some p.0
    → handles_full (peers_in old) ≡ false → h.0 ≡ length old.issued + 1 → sort ≡ sort_of (peers_in old) p.0 → n ≡ length (fields_of old.rows.heap p.0)
    → PeersAnswer old (gripped (peers_in old) x) (says.Gripped p h sort n) (issued_to old record { peer = p; hold = Held; strength = Strong })
answers-gripped old x p h sort n some full number kind len =
    let i : Issue = record { peer = p; hold = Held; strength = Strong } in
    let new : Rows = issued_to old i in
    let handle : h ≡ record { 0 = length old.issued + 1 } = ap (λ (m : ℕ). (let q : HNum = record { 0 = m } in q)) number in
    record { peers = rw (some, full, handle, kind, len, gripped) refl; table = sym (table-issued (with_rows opening_peer_replay old) (peers_in new) (issued_as i) refl) }

-- `wread`: refused, or done
pub answers-unread : (old : Rows) (target : ℕ → Option ℕ) (v g : ℕ) → slot old.names g ≡ None → PeersAnswer old (name_read target (peers_in old) v g) says.Unset old
answers-unread old target v g none = answers-still old old _ says.Unset (rw (none, name_read) refl) refl refl

pub name_read-some : (old : Rows) (target : ℕ → Option ℕ) (v g h : ℕ) → slot old.names g ≡ Some h → name_read target (peers_in old) v g ≡ peer_read (peers_in old) v (target h)
name_read-some old target v g h name = ap (λ o. elim o [ None ↦ answer says.Unset (peers_in old) | Some k ↦ peer_read (peers_in old) v (target k) ]) name

pub answers-no_read : (old : Rows) (v : ℕ) (o : Option ℕ) → o ≡ None → PeersAnswer old (peer_read (peers_in old) v o) says.Gone old
answers-no_read old v o none = answers-still old old (peer_read (peers_in old) v o) says.Gone (rw none refl) refl refl

pub answers-read : (old : Rows) (rows : HeapRows) (v : ℕ) (o : Option ℕ) (p : PNum) → o ≡ Some p.0
    → rows.heap ≡ with_var old.rows.heap v (Some p.0) → PeersAnswer old (peer_read (peers_in old) v o) (says.P p) (record old { rows = rows })
answers-read old rows v o p some named = answers-still old (record old { rows = rows }) (peer_read (peers_in old) v o) (says.P p) (rw (some, named) refl) refl refl

-- `land`: refused, or done
pub answers-no_land : (old : Rows) (x : ℕ) (o : Option ℕ) → o ≡ None → PeersAnswer old (landed (peers_in old) x o) says.Gone old
answers-no_land old x o none = answers-still old old (landed (peers_in old) x o) says.Gone (rw none refl) refl refl

pub answers-landed : (old : Rows) (rows : HeapRows) (x : ℕ) (o : Option ℕ) (p : PNum) → o ≡ Some p.0
    → rows.heap ≡ with_static old.rows.heap x (Some p.0) → PeersAnswer old (landed (peers_in old) x o) (says.P p) (record old { rows = rows })
answers-landed old rows x o p some named = answers-still old (record old { rows = rows }) (landed (peers_in old) x o) (says.P p) (rw (some, named) refl) refl refl

-- what a name or a handle gave is brought back
pub brings-answer : (s : PeerReplay) (r : Reply) → bring_by (answer r s) r ≡ answer r (record s { marking = marking_by s.marking r })
brings-answer s (says.P p) = refl
brings-answer s _ = refl

-- the events of `wread` and `land`
pub goes-read : (old new : Rows) (t : Thread) (o : Op) (v : Var) (g : GName) (r : Reply) (at : ℕ) → o ≡ op.Line (act.WRead v g) → at ≡ place (thread_number t) v.0
    → PeersAnswer old (name_read (table_target (with_rows opening_peer_replay old)) (peers_in old) at g.0) r new → GoesBy old t o r new
goes-read old new t o v g r at is place' w = λ s cites.
    let target = table_target (with_rows opening_peer_replay old) in
    let here : PeersAnswer old (name_read target (peers_in old) (place (thread_number t) v.0) g.0) r new = subst (λ z. PeersAnswer old (name_read target (peers_in old) z g.0) r new) place' w in
    let done : on_table (with_rows s old) (name_read target (peers_in old) (place (thread_number t) v.0) g.0) ≡ answer r (with_rows s new) = goes-answers old new _ r here s in
    subst (λ z. peer_answer (with_rows s old) t z cites nothing ≡ answer r (record (with_rows s new) { marking = marking_after s.marking z r }))
    (sym is) (ap brings done ∙ brings-answer (with_rows s new) r)

pub goes-landed : (old new : Rows) (t : Thread) (o : Op) (h : HNum) (x : StaticNo) (r : Reply) → o ≡ op.Land h x
    → PeersAnswer old (landed (peers_in old) x.0 (table_target (with_rows opening_peer_replay old) h.0)) r new → GoesBy old t o r new
goes-landed old new t o h x r is w = λ s cites.
    let done : on_table (with_rows s old) (landed (peers_in old) x.0 (table_target (with_rows opening_peer_replay old) h.0)) ≡ answer r (with_rows s new) = goes-answers old new _ r w s in
    subst (λ z. peer_answer (with_rows s old) t z cites nothing ≡ answer r (record (with_rows s new) { marking = marking_after s.marking z r }))
    (sym is) (ap brings done ∙ brings-answer (with_rows s new) r)

-- the sort of a peer, as it stands among those of all peers
pub sort-read : (v : Rows) (p : ℕ) (s : Sort) → 1 ≤ p → slice_get v.sorts (p - 1) ≡ Some s → s ≡ sort_of (peers_in v) p
sort-read v zero s low at = absurd (omega (arith, low))
sort-read v (suc i) s low at =
    let less : suc i - 1 ≡ i = omega arith in
    let here : slice_get v.sorts i ≡ Some s = ap (λ k. slice_get v.sorts k) (sym less) ∙ at in
    sym (ap (λ o. elim o [ None ↦ Framework | Some k ↦ k ]) here)
