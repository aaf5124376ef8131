-- What a peer event does to the peers' numbers and to the handle table, by its reply.
use Rattle.std.proofs.Common.{◌≡◌, ℕ, ◌+◌, Bool, true, false, ◌||◌, List, [], ◌∷◌, ◌++◌, map, Option, Some, None, set, refl, sym, ap, subst, ◌∙◌, arith}
use Rattle.std.specs.Prelude.{Contains}
use Rattle.joint_machine.specs.declared.names.GName.{GName}
use Rattle.joint_machine.specs.declared.names.HNum.{HNum}
use Rattle.joint_machine.specs.declared.names.Sort.{Sort}
use Rattle.joint_machine.specs.declared.names.Thread.{Thread}
use Rattle.joint_machine.specs.declared.names.Thread.TheVariants.{M, P, C}
use Rattle.joint_machine.specs.declared.lines.Act.{Act}
use Rattle.joint_machine.specs.declared.lines.Act.TheVariants as act
use Rattle.joint_machine.specs.declared.events.Op.{Op}
use Rattle.joint_machine.specs.declared.events.Op.TheVariants as op
use Rattle.joint_machine.specs.declared.events.Reply.{Reply}
use Rattle.joint_machine.specs.declared.events.Reply.TheVariants as says
use Rattle.joint_machine.specs.Components.{Rises, End}
use Rattle.joint_machine.specs.Heaps.{Heap, IsLive, Answered, answer, slot, place, is_full, numbered_set}
use Rattle.joint_machine.specs.Peers.{with_renewed, peer_of, Peers, Issued, Strength, strong, weak, held, raw, peer_name, pair_made, peer_gripped, landed, name_given, peer_read, name_read}
use Rattle.joint_machine.specs.Peers.{on_peer_heap, peer_line, issued_since, handles_full}
use Rattle.joint_machine.specs.PeerReplay.{PeerReplay, TableRow, Marking, row_of, fresh_row, table_target, on_table, bring_by, untabled, peer_thread_line, is_thread, sliced, begun, swept, restored_by}
use Rattle.joint_machine.specs.PeerReplay.{renewed_on, mirrored, peer_answer, PeerAllows, SweepAllows, IsHeld}
use Rattle.joint_machine.specs.Run.{thread_number}
use Rattle.joint_machine.specs.Told.{Told, nothing, references_of, slice_of, sweep_of}
use Rattle.joint_machine.proofs.Deciding.{none_some, option-cases, test-cases}
use Rattle.joint_machine.proofs.Members.{Contains-nil}
use Rattle.joint_machine.proofs.Numbered.{slot-named, slot-Contains}
use Rattle.joint_laws.specs.PeerInvariants.{PeerInvariant, IsTabled}
use Rattle.joint_laws.proofs.Fields.{with_object-length}
use Rattle.joint_laws.proofs.HandleKeeping.{held-raw, issued-same}
use Rattle.joint_laws.proofs.HeapMoves.{HasMoved, heap_line-moved}
use Rattle.joint_laws.proofs.PeerEvents.{freed_by}
use Rattle.joint_laws.proofs.PeerQuiet.{table-still, table-issued}
use Rattle.joint_laws.proofs.PlainReplies.{IsPlain, peer_line-plain, sliced-plain}
use Rattle.run_summary.specs.Tallies.{is_h, makes_peer, makes_handle, removes_handle, freed_peers}
use Rattle.run_summary.specs.Lines.{one}
use Rattle.summary_laws.proofs.HeapCounts.{HeapCounts, counts-alike, counts-stay, counts-moved, counts-object, counts-freed}
use Rattle.summary_laws.proofs.Names.{NamesInvariant, names-grown, names-given, names-freed, names-gone, names-reset, names-swept}
use Rattle.summary_laws.proofs.TableRows.{rows, rows-put, rows-set, rows-swept}

-- the peers' numbers between two states, by an event and its reply
pub record PeerCounts (s : PeerReplay) (p : Peers) (table : List (Option TableRow)) (o : Op) (r : Reply) : Type 0 where
  pub heap : HeapCounts s.peers.heap p.heap (one (makes_peer o r)) (freed_peers r)
  pub made : p.made ≡ s.peers.made + one (makes_handle o r)
  pub tabled : rows table + one (removes_handle o r) ≡ rows s.table + one (makes_handle o r)
  pub names : NamesInvariant p.names table

pub plain-none : (r : Reply) → IsPlain r → freed_peers r ≡ 0
plain-none (says.Swept j s) p = absurd p
plain-none _ p = refl

tabled_row : (s : PeerReplay) (h : ℕ) (row : TableRow) → row_of s h ≡ Some row → IsTabled s.table h row
tabled_row s h row e = slot-named _ row e

module _ (s : PeerReplay) (k : PeerInvariant s) (names : NamesInvariant s.peers.names s.table) where
  -- what an event may say of itself: whether it makes a peer, makes a handle, removes one
  record Says (o : Op) (r : Reply) (peer handle removed : Bool) : Type 0 where
    makes : makes_peer o r ≡ peer
    gives : makes_handle o r ≡ handle
    takes : removes_handle o r ≡ removed
    none : freed_peers r ≡ 0

  counted : (p : Peers) (table : List (Option TableRow)) (o : Op) (r : Reply) (x y z : Bool) → Says o r x y z → HeapCounts s.peers.heap p.heap (one x) 0
      → p.made ≡ s.peers.made + one y → rows table + one z ≡ rows s.table + one y → NamesInvariant p.names table → PeerCounts s p table o r
  counted p table o r x y z w heap made count kept = record {
    heap = subst (λ b. HeapCounts s.peers.heap p.heap (one b) (freed_peers r)) (sym w.makes) (subst (λ n. HeapCounts s.peers.heap p.heap (one x) n) (sym w.none) heap);
    made = subst (λ b. p.made ≡ s.peers.made + one b) (sym w.gives) made;
    tabled = subst (λ b. rows table + one (removes_handle o r) ≡ rows s.table + one b) (sym w.gives) (subst (λ b. rows table + one b ≡ rows s.table + one y) (sym w.takes) count);
    names = kept;
  }

  abbrev OnTable : Op → Answered Peers → Type 0
  OnTable o a = PeerCounts s a.state (s.table ++ map fresh_row (issued_since s.peers a.state)) o a.reply

  -- no handle is issued
  still : (o : Op) (a : Answered Peers) (x : Bool) → Says o a.reply x false false → HeapCounts s.peers.heap a.state.heap (one x) 0
      → a.state.issued ≡ s.peers.issued → a.state.made ≡ s.peers.made → a.state.names ≡ s.peers.names → OnTable o a
  still o a x w heap e l n =
      let same = table-still s a.state e in
      counted a.state _ o a.reply x false false w heap (omega (arith, l)) (let q = ap rows same in omega (arith, q))
      (subst (λ z. NamesInvariant z (s.table ++ map fresh_row (issued_since s.peers a.state))) (sym n) (subst (λ z. NamesInvariant s.peers.names z) (sym same) names))

  stays : (o : Op) (r : Reply) → Says o r false false false → OnTable o (answer r s.peers)
  stays o r w = still o (answer r s.peers) false w (counts-stay s.peers.heap) refl refl refl

  -- one is issued
  issues : (o : Op) (a : Answered Peers) (x : Bool) (new : Issued) → Says o a.reply x true false → HeapCounts s.peers.heap a.state.heap (one x) 0
      → a.state.issued ≡ s.peers.issued ++ new ∷ [] → a.state.made ≡ s.peers.made + 1 → NamesInvariant a.state.names (s.table ++ fresh_row new ∷ []) → OnTable o a
  issues o a x new w heap e l kept =
      let same = table-issued s a.state new e in
      counted a.state _ o a.reply x true false w heap (omega (arith, l))
      (let q = ap rows same in let put = rows-put s.table (record { strength = new.strength; cleared = false }) in omega (arith, q, put))
      (subst (λ z. NamesInvariant a.state.names z) (sym same) kept)

  -- the peer and its handle
  pair-counts : (sort : Sort) (n : ℕ) → OnTable (op.Make sort n) (pair_made s.peers sort n)
  pair-counts sort n = test-cases (OnTable (op.Make sort n)) (is_full s.peers.heap.fields || handles_full s.peers) _ _
      (stays (op.Make sort n) says.Full (record { makes = refl; gives = refl; takes = refl; none = refl }))
      (issues (op.Make sort n) _ true _ (record { makes = refl; gives = refl; takes = refl; none = refl })
      (counts-object s.peers.heap _ (with_object-length s.peers.heap n) refl k.heap.freed) refl refl (names-grown s.peers.names s.table names _))

  grip-counts : (x : Op) (o : Option ℕ) → ((r : Reply) → makes_peer x r ≡ false) → makes_handle x says.Null ≡ false → makes_handle x says.Full ≡ false → ((r : Reply) → removes_handle x r ≡ false)
      → ((p h : ℕ) (sort : Sort) (n : ℕ) → makes_handle x (says.Gripped record { 0 = p } record { 0 = h } sort n) ≡ true) → OnTable x (peer_gripped s.peers o)
  grip-counts x None p n f t g = stays x says.Null (record { makes = p _; gives = n; takes = t _; none = refl })
  grip-counts x (Some q) p n f t g = test-cases (OnTable x) (handles_full s.peers) _ _
      (stays x says.Full (record { makes = p _; gives = f; takes = t _; none = refl }))
      (issues x _ false _ (record { makes = p _; gives = g _ _ _ _; takes = t _; none = refl }) (counts-stay s.peers.heap) refl refl (names-grown s.peers.names s.table names _))

  -- a global name
  module _ (x : Op) (p : (r : Reply) → makes_peer x r ≡ false) (g : (r : Reply) → makes_handle x r ≡ is_h r) (t : (r : Reply) → removes_handle x r ≡ false) where
    given-counts : (name q : ℕ) (strength : Strength) (o : Option ℕ) → OnTable x (name_given s.peers name q strength o)
    given-counts name q strength (Some h) = stays x says.Taken (record { makes = p _; gives = g _; takes = t _; none = refl })
    given-counts name q strength None = test-cases (OnTable x) (handles_full s.peers) _ _
        (stays x says.Full (record { makes = p _; gives = g _; takes = t _; none = refl }))
        (issues x _ false (record { peer = q; hold = raw; strength = strength }) (record { makes = p _; gives = g _; takes = t _; none = refl })
        (counts-stay s.peers.heap) refl refl (names-given s.peers.names s.table names name _ _ (let l = k.handles.places in omega (arith, l))))

    global-counts : (name v : ℕ) (strength : Strength) → OnTable x
        (elim (slot s.peers.heap.vars v) [ None ↦ answer says.Empty s.peers | Some q ↦ name_given s.peers name q strength (slot s.peers.names name) ])
    global-counts name v strength = option-cases (OnTable x) _ _ (slot s.peers.heap.vars v)
        (stays x says.Empty (record { makes = p _; gives = g _; takes = t _; none = refl })) (λ q. given-counts name q strength (slot s.peers.names name))

  -- a name is freed, and its handle leaves the table
  unglobal-counts : (g : ℕ) (u : GName) (o : Option ℕ) → slot s.peers.names g ≡ o
      → PeerCounts s (on_table (untabled s o) (freed_by s.peers g o)).state.peers (on_table (untabled s o) (freed_by s.peers g o)).state.table (op.Line (act.UnGlobal u)) (freed_by s.peers g o).reply
  unglobal-counts g u None e = stays (op.Line (act.UnGlobal u)) says.Unset (record { makes = refl; gives = refl; takes = refl; none = refl })
  unglobal-counts g u (Some h) e =
      let gone : PeerReplay = record s { table = numbered_set s.table h None } in
      let t = names.tabled g h e in
      let same = table-still gone (record s.peers { names = set s.peers.names g None }) refl in
      let q = ap rows same in
      let count = rows-set s.table h t.0 None t.1 in
      counted (record s.peers { names = set s.peers.names g None }) _ (op.Line (act.UnGlobal u)) says.Ok false false true
      (record { makes = refl; gives = refl; takes = refl; none = refl }) (counts-stay s.peers.heap) (omega arith) (omega (arith, q, count))
      (subst (λ z. NamesInvariant (set s.peers.names g None) z) (sym same) (names-freed s.peers.names s.table names g h e))

  -- a slot comes to name where a handle leads
  brought : (a : Answered PeerReplay) (r : Reply) (o : Op) → PeerCounts s a.state.peers a.state.table o a.reply
      → PeerCounts s (bring_by a r).state.peers (bring_by a r).state.table o (bring_by a r).reply
  brought a (says.P p) o c = c
  brought a _ o c = c

  module _ (x : Op) (p : (r : Reply) → makes_peer x r ≡ false) (g : (r : Reply) → makes_handle x r ≡ false) (t : (r : Reply) → removes_handle x r ≡ false) where
    plainly : (r : Reply) → IsPlain r → Says x r false false false
    plainly r h = record { makes = p r; gives = g r; takes = t r; none = plain-none r h }

    read-counts : (v : ℕ) (o : Option ℕ) → OnTable x (peer_read s.peers v o)
    read-counts v None = stays x says.Gone (plainly says.Gone tt)
    read-counts v (Some q) = still x _ false (plainly _ tt) (counts-alike _ _ refl refl) refl refl refl

    wread-counts : (v name : ℕ) → OnTable x (name_read (table_target s) s.peers v name)
    wread-counts v name = option-cases (OnTable x) _ _ (slot s.peers.names name) (stays x says.Unset (plainly says.Unset tt)) (λ h. read-counts v (table_target s h))

    land-counts : (j : ℕ) (o : Option ℕ) → OnTable x (landed s.peers j o)
    land-counts j None = stays x says.Gone (plainly says.Gone tt)
    land-counts j (Some q) = still x _ false (plainly _ tt) (counts-alike _ _ refl refl) refl refl refl

    moved-counts : (a : Answered Heap) → HasMoved s.peers.heap a.state → IsPlain a.reply → OnTable x (on_peer_heap s.peers a)
    moved-counts a m h = still x (on_peer_heap s.peers a) false (plainly a.reply h) (counts-moved s.peers.heap a.state m) refl refl refl

  -- the lines of a peer thread
  line-counts : (t : ℕ) (a : Act) → PeerCounts s (peer_thread_line s t a).state.peers (peer_thread_line s t a).state.table (op.Line a) (peer_thread_line s t a).reply
  line-counts t (act.NewPeer v n) = test-cases (OnTable (op.Line (act.NewPeer v n))) (is_full s.peers.heap.fields) _ _
      (stays (op.Line (act.NewPeer v n)) says.Full (record { makes = refl; gives = refl; takes = refl; none = refl }))
      (still (op.Line (act.NewPeer v n)) _ true (record { makes = refl; gives = refl; takes = refl; none = refl })
      (counts-object s.peers.heap _ (with_object-length s.peers.heap n) refl k.heap.freed) refl refl refl)
  line-counts t (act.Global g v) = global-counts (op.Line (act.Global g v)) (λ r. refl) (λ r. refl) (λ r. refl) g.0 (place t v.0) strong
  line-counts t (act.WGlobal g v) = global-counts (op.Line (act.WGlobal g v)) (λ r. refl) (λ r. refl) (λ r. refl) g.0 (place t v.0) weak
  line-counts t (act.UnGlobal g) = unglobal-counts g.0 g (slot s.peers.names g.0) refl
  line-counts t (act.WRead v g) = brought (on_table s (peer_line (table_target s) s.peers t (act.WRead v g))) (peer_line (table_target s) s.peers t (act.WRead v g)).reply
      (op.Line (act.WRead v g)) (wread-counts (op.Line (act.WRead v g)) (λ r. refl) (λ r. refl) (λ r. refl) (place t v.0) g.0)
  line-counts t a = moved-counts (op.Line a) (λ r. refl) (λ r. refl) (λ r. refl) _ (heap_line-moved peer_name s.peers.heap t a)
      (peer_line-plain s.peers (table_target s) t a)

  -- neither the peers nor the table change
  here : (o : Op) (r : Reply) → Says o r false false false → PeerCounts s s.peers s.table o r
  here o r w = counted s.peers s.table o r false false false w (counts-stay s.peers.heap) (omega arith) (omega arith) names

  sliced-peers : (x : Option Marking) (t : Thread) (n : ℕ) (closure : List ℕ) → (sliced s x t n closure).state.peers ≡ s.peers
  sliced-peers None t n closure = refl
  sliced-peers (Some mk) t n closure = test-cases (λ (a : Answered PeerReplay). a.state.peers ≡ s.peers) (is_thread t mk.by) _ _ refl refl

  sliced-table : (x : Option Marking) (t : Thread) (n : ℕ) (closure : List ℕ) → (sliced s x t n closure).state.table ≡ s.table
  sliced-table None t n closure = refl
  sliced-table (Some mk) t n closure = test-cases (λ (a : Answered PeerReplay). a.state.table ≡ s.table) (is_thread t mk.by) _ _ refl refl

  sliced-counts : (x : Option Marking) (t : Thread) (n m : ℕ) (closure : List ℕ)
      → PeerCounts s (sliced s x t n closure).state.peers (sliced s x t n closure).state.table (op.Line (act.Slice m)) (sliced s x t n closure).reply
  sliced-counts x t n m closure =
      let r = (sliced s x t n closure).reply in
      let c = here (op.Line (act.Slice m)) r (record { makes = refl; gives = refl; takes = refl; none = plain-none r (sliced-plain s x t n closure) }) in
      subst (λ z. PeerCounts s z (sliced s x t n closure).state.table (op.Line (act.Slice m)) r) (sym (sliced-peers x t n closure))
      (subst (λ z. PeerCounts s s.peers z (op.Line (act.Slice m)) r) (sym (sliced-table x t n closure)) c)

  begun-counts : (x : Option Marking) (t : Thread) → PeerCounts s (begun s x t).state.peers (begun s x t).state.table op.Begin (begun s x t).reply
  begun-counts None t = here op.Begin _ (record { makes = refl; gives = refl; takes = refl; none = refl })
  begun-counts (Some mk) t = here op.Begin _ (record { makes = refl; gives = refl; takes = refl; none = refl })

  -- a sweep
  swept-counts : (x : Option Marking) (t : Thread) (freed : List ℕ) → Rises freed → ((p : ℕ) → Contains freed p → IsLive s.peers.heap p)
      → PeerCounts s (swept s x t freed).state.peers (swept s x t freed).state.table op.Sweep (swept s x t freed).reply
  swept-counts None t freed up live = here op.Sweep says.NoMark (record { makes = refl; gives = refl; takes = refl; none = refl })
  swept-counts (Some mk) t freed up live = test-cases (λ (a : Answered PeerReplay). PeerCounts s a.state.peers a.state.table op.Sweep a.reply) (is_thread t C || is_thread t mk.by) _ _
      (record {
        heap = counts-freed s.peers.heap _ freed refl refl up live;
        made = omega arith;
        tabled = (let count = rows-swept freed s.peers.issued s.table k.handles.places in omega (arith, count));
        names = names-swept s.peers.names s.table names freed s.peers.issued k.handles.places;
      })
      (here op.Sweep _ (record { makes = refl; gives = refl; takes = refl; none = refl }))

  none_to_end : (t : Thread) (freed : List ℕ) → SweepAllows s None t (sweep_of freed) → ⊥
  none_to_end (P u) freed a = a
  none_to_end (M u) freed a = a
  none_to_end C freed a = a

  sweeps : (x : Option Marking) (t : Thread) (freed : List ℕ) → SweepAllows s x t (sweep_of freed)
      → PeerCounts s (swept s x t freed).state.peers (swept s x t freed).state.table op.Sweep (swept s x t freed).reply
  sweeps None t freed a = absurd (none_to_end t freed a)
  sweeps (Some mk) t freed a = swept-counts (Some mk) t freed a.1.rise (λ p c. ((a.1.exact p).0 c).0)

  sweeps_none : (x : Option Marking) (t : Thread) → PeerCounts s (swept s x t []).state.peers (swept s x t []).state.table op.Sweep (swept s x t []).reply
  sweeps_none x t = swept-counts x t [] tt (λ p c. absurd (Contains-nil p c))

  -- a held handle has no name
  not-named : (h : ℕ) → IsHeld s h → (g : ℕ) → slot s.peers.names g ≡ Some h → ⊥
  not-named h w g e =
      let r = k.handles.named h (slot-Contains s.peers.names g h e) in
      held-raw r.0 (subst (λ (z : Issued). z.hold ≡ held) (issued-same s.peers.issued h h w.0 r.0 refl w.1 r.1) w.2) r.2

  removed-counts : (o : Op) (r : Reply) (h : ℕ) (row : TableRow) → makes_peer o r ≡ false → makes_handle o r ≡ false → removes_handle o r ≡ true
      → freed_peers r ≡ 0 → IsTabled s.table h row → IsHeld s h → PeerCounts s s.peers (numbered_set s.table h None) o r
  removed-counts o r h row a b c d e w =
      let count = rows-set s.table h row None e in
      counted s.peers _ o r false false true (record { makes = a; gives = b; takes = c; none = d }) (counts-stay s.peers.heap)
      (omega arith) (omega (arith, count)) (names-gone s.peers.names s.table names h (not-named h w))

  reset-counts : (o : Op) (r : Reply) (h : ℕ) (row now : TableRow) → Says o r false false false → IsTabled s.table h row → PeerCounts s s.peers (numbered_set s.table h (Some now)) o r
  reset-counts o r h row now w e =
      let count = rows-set s.table h row (Some now) e in
      counted s.peers _ o r false false false w (counts-stay s.peers.heap) (omega arith) (omega (arith, count)) (names-reset s.peers.names s.table names h row now e)

  -- the handle goes, and one comes on its peer
  renewed-counts : (n : HNum) (row : TableRow) → IsTabled s.table n.0 row → IsHeld s n.0 → (x : Option ℕ)
      → PeerCounts s (renewed_on s n.0 x).state.peers (renewed_on s n.0 x).state.table (op.Restore n) (renewed_on s n.0 x).reply
  renewed-counts n row e w None = removed-counts (op.Restore n) says.Cleared n.0 row refl refl refl refl e w
  renewed-counts n row e w (Some p) =
      let gone = rows-set s.table n.0 row None e in
      let put = rows-put (numbered_set s.table n.0 None) (record { strength = strong; cleared = false }) in
      counted (with_renewed s.peers p) _ (op.Restore n) _ false false false (record { makes = refl; gives = refl; takes = refl; none = refl })
      (counts-alike _ _ refl refl) (omega arith) (omega (arith, gone, put))
      (names-grown s.peers.names (numbered_set s.table n.0 None) (names-gone s.peers.names s.table names n.0 (not-named n.0 w)) _)

  restored-counts : (n : HNum) (x : Option TableRow) → row_of s n.0 ≡ x → IsHeld s n.0 → (row : TableRow) → row_of s n.0 ≡ Some row
      → PeerCounts s (restored_by s n.0 x).state.peers (restored_by s n.0 x).state.table (op.Restore n) (restored_by s n.0 x).reply
  restored-counts n None e w row q = absurd (none_some row (sym e ∙ q))
  restored-counts n (Some old) e w row q = test-cases (λ (a : Answered PeerReplay). PeerCounts s a.state.peers a.state.table (op.Restore n) a.reply) old.cleared _ _
      (removed-counts (op.Restore n) says.Cleared n.0 old refl refl refl refl (tabled_row s n.0 old e) w)
      (renewed-counts n old (tabled_row s n.0 old e) w (peer_of s.peers.issued n.0))

  mirrored-counts : (n : ℕ) (cites : Option ℕ) (refs : List (End × End)) (o : Op) (r : Reply)
      → Says o r false false false → PeerCounts s (mirrored s n cites refs).peers (mirrored s n cites refs).table o r
  mirrored-counts n None refs o r w = here o r w
  mirrored-counts n (Some snap) refs o r w = here o r w

  pub peer-counts : (t : Thread) (o : Op) (cites : Option ℕ) (told : Told) → PeerAllows s t o cites told
      → PeerCounts s (peer_answer s t o cites told).state.peers (peer_answer s t o cites told).state.table o (peer_answer s t o cites told).reply
  peer-counts t (op.Line (act.Slice n)) cites (slice_of closure) w = sliced-counts s.marking t n n closure
  peer-counts t (op.Line (act.Slice n)) cites _ w = sliced-counts s.marking t n n []
  peer-counts t (op.Line a) cites told w = line-counts (thread_number t) a
  peer-counts t (op.Make sort n) cites told w = pair-counts sort n
  peer-counts t (op.Land h x) cites told w = brought (on_table s (landed s.peers x.0 (table_target s h.0)))
      (landed s.peers x.0 (table_target s h.0)).reply (op.Land h x) (land-counts (op.Land h x) (λ r. refl) (λ r. refl) (λ r. refl) x.0 (table_target s h.0))
  peer-counts t (op.Grip x) cites told w = grip-counts (op.Grip x) (slot s.peers.heap.statics x.0) (λ r. refl) refl refl (λ r. refl) (λ p h sort n. refl)
  peer-counts t (op.Release h) cites nothing w = removed-counts (op.Release h) says.Ok h.0 w.row refl refl refl refl (tabled_row s h.0 w.row w.tabled) w.is_held
  peer-counts t (op.Mirror n) cites (references_of refs) w = mirrored-counts n.0 cites refs (op.Mirror n) _ (record { makes = refl; gives = refl; takes = refl; none = refl })
  peer-counts t (op.Weaken h) cites nothing w = reset-counts (op.Weaken h) says.Ok h.0 _ _ (record { makes = refl; gives = refl; takes = refl; none = refl }) (tabled_row s h.0 _ w.strong_now)
  peer-counts t op.Begin cites told w = begun-counts s.marking t
  peer-counts t op.Sweep cites (sweep_of freed) w = sweeps s.marking t freed w
  peer-counts t op.Sweep cites _ w = sweeps_none s.marking t
  peer-counts t (op.Restore h) cites nothing w = restored-counts h (row_of s h.0) refl (k.references.weakened w.mirror h.0 w.stands w.weakened) w.row w.tabled
  peer-counts t (op.Clear n) cites nothing w = here (op.Clear n) says.Ok (record { makes = refl; gives = refl; takes = refl; none = refl })
  peer-counts t _ cites told w = absurd w
