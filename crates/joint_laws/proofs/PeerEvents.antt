-- The peer side stays kept at the events of its threads' lines, and at those that make, grip and land: each is made up
-- of small changes.
use Rattle.std.proofs.Common.{◌≡◌, ℕ, ◌+◌, inl, inr, Bool, true, false, [], ◌∷◌, ◌++◌, map, Option, Some, None, set, refl, subst}
use Rattle.std.specs.Prelude.{if◌then◌else◌}
use Rattle.std.proofs.lemmas.Option.{same_Some}
use Rattle.joint_machine.specs.declared.names.Sort.{Sort}
use Rattle.joint_machine.specs.declared.names.Sort.TheVariants.{Framework}
use Rattle.joint_machine.specs.declared.lines.Act.{Act}
use Rattle.joint_machine.specs.declared.lines.Act.TheVariants as act
use Rattle.joint_machine.specs.declared.events.Reply.{Reply}
use Rattle.joint_machine.specs.declared.events.Reply.TheVariants as says
use Rattle.joint_machine.specs.Heaps.{Heap, IsLive, InSlot, Answered, answer, slot, place, is_full, next_number, numbered_at, numbered_set, with_var, with_static}
use Rattle.joint_machine.specs.Peers.{Peers, Issued, held, raw, Strength, strong, weak, peer_name, handle_name, next_handle, with_handle, with_peer, peer_gripped, landed, name_given, peer_read}
use Rattle.joint_machine.specs.Peers.{peer_of, issued_since, handles_full}
use Rattle.joint_machine.specs.PeerReplay.{PeerReplay, TableRow, fresh_row, row_of, table_target, on_table, brings, untabled, peer_thread_line, brought_to}
use Rattle.joint_laws.specs.PeerInvariants.{IsIssued, PeerInvariant}
use Rattle.joint_machine.proofs.Numbered.{slot-Contains, slot-named, numbered-push_new}
use Rattle.joint_machine.proofs.Deciding.{none_some}
use Rattle.joint_laws.proofs.HeapMoves.{HasMoved, heap_line-moved}
use Rattle.joint_laws.proofs.PeerMoves.{in_reach-safe, kept-heap, kept-peer, new-live, new-safe, kept-var, kept-static, kept-issue, kept-counted, kept-name, kept-gone, kept-brought, brought-safe}
use Rattle.joint_laws.proofs.PeerMoves.{on_table-still, on_table-issued}

-- an operation of the heap
heap-event : (s : PeerReplay) (g : Heap) → PeerInvariant s → HasMoved s.peers.heap g
    → PeerInvariant (record s { peers = record s.peers { heap = g }; table = s.table ++ map fresh_row (issued_since s.peers (record s.peers { heap = g })) })
heap-event s g k v = on_table-still s (record s.peers { heap = g }) refl (kept-heap s g k v)

stay-event : (s : PeerReplay) (r : Reply) → PeerInvariant s → PeerInvariant (on_table s (answer r s.peers)).state
stay-event s r k = on_table-still s s.peers refl k

-- a further peer that a variable names
made-event : (s : PeerReplay) (v n : ℕ) (b : Bool) → PeerInvariant s
    → PeerInvariant (on_table s (if b then answer says.Full s.peers else answer (peer_name (next_number s.peers.heap))
    (record (with_peer s.peers Framework n) { heap = with_var (with_peer s.peers Framework n).heap v (Some (next_number s.peers.heap)) }))).state
made-event s v n true k = stay-event s says.Full k
made-event s v n false k =
    let grown : PeerReplay = record s { peers = with_peer s.peers Framework n } in
    on_table-still s (record (with_peer s.peers Framework n) { heap = with_var (with_peer s.peers Framework n).heap v (Some (next_number s.peers.heap)) }) refl
    (kept-var grown v (next_number s.peers.heap) (kept-peer s Framework n k) (new-live s n k) (new-safe s k))

-- a further peer with a held strong handle on it
pub pair-event : (s : PeerReplay) (sort : Sort) (n : ℕ) (b : Bool) → PeerInvariant s
    → PeerInvariant (on_table s (if b then answer says.Full s.peers else answer (says.Made record { 0 = next_number s.peers.heap } record { 0 = next_handle s.peers })
    (with_handle (with_peer s.peers sort n) (next_number s.peers.heap) held strong))).state
pair-event s sort n true k = stay-event s says.Full k
pair-event s sort n false k =
    let grown : PeerReplay = record s { peers = with_peer s.peers sort n } in
    let new : Issued = record { peer = next_number s.peers.heap; hold = held; strength = strong } in
    on_table-issued s (with_handle (with_peer s.peers sort n) (next_number s.peers.heap) held strong) new refl
    (kept-counted (record s { peers = record (with_handle (with_peer s.peers sort n) (next_number s.peers.heap) held strong) { made = s.peers.made }; table = s.table ++ fresh_row new ∷ [] })
    (s.peers.made + 1) (kept-issue grown new (kept-peer s sort n k) (new-live s n k) (new-safe s k)))

-- a held strong handle on the peer in a static
grip-by : (s : PeerReplay) (p : ℕ) (b : Bool) (r : Reply) → PeerInvariant s → InSlot s.peers.heap p
    → PeerInvariant (on_table s (if b then answer says.Full s.peers else answer r (with_handle s.peers p held strong))).state
grip-by s p true r k i = stay-event s says.Full k
grip-by s p false r k i =
    let new : Issued = record { peer = p; hold = held; strength = strong } in
    on_table-issued s (with_handle s.peers p held strong) new refl
    (kept-counted (record s { peers = record (with_handle s.peers p held strong) { made = s.peers.made }; table = s.table ++ fresh_row new ∷ [] })
    (s.peers.made + 1) (kept-issue s new k (k.heap.slots p i) (in_reach-safe s p k (inl i))))

pub grip-event : (s : PeerReplay) (x : ℕ) (o : Option ℕ) → PeerInvariant s → slot s.peers.heap.statics x ≡ o → PeerInvariant (on_table s (peer_gripped s.peers o)).state
grip-event s x None k e = stay-event s says.Null k
grip-event s x (Some p) k e = grip-by s p (handles_full s.peers) _ k (inr (slot-Contains s.peers.heap.statics x p e))

-- a name gets a raw handle
name-by : (s : PeerReplay) (g p : ℕ) (strength : Strength) (b : Bool) → PeerInvariant s → InSlot s.peers.heap p
    → PeerInvariant (on_table s (if b then answer says.Full s.peers else answer (handle_name (next_handle s.peers))
    (record (with_handle s.peers p raw strength) { names = set s.peers.names g (Some (next_handle s.peers)) }))).state
name-by s g p strength true k i = stay-event s says.Full k
name-by s g p strength false k i =
    let new : Issued = record { peer = p; hold = raw; strength = strength } in
    let grown : PeerReplay = record s { peers = with_handle s.peers p raw strength; table = s.table ++ Some record { strength = strength; cleared = false } ∷ [] } in
    on_table-issued s (record (with_handle s.peers p raw strength) { names = set s.peers.names g (Some (next_handle s.peers)) }) new refl
    (kept-name grown g (Some (next_handle s.peers)) (kept-counted (record s { peers = record (with_handle s.peers p raw strength) { made = s.peers.made }; table = s.table ++ fresh_row new ∷ [] })
    (s.peers.made + 1) (kept-issue s new k (k.heap.slots p i) (in_reach-safe s p k (inl i))))
    (λ n e. (new, subst (λ z. IsIssued (s.peers.issued ++ new ∷ []) z new) (same_Some (next_handle s.peers) n e) (numbered-push_new s.peers.issued new), refl)))

given-by : (s : PeerReplay) (g p : ℕ) (strength : Strength) (o : Option ℕ) → PeerInvariant s → InSlot s.peers.heap p → PeerInvariant (on_table s (name_given s.peers g p strength o)).state
given-by s g p strength (Some h) k i = stay-event s says.Taken k
given-by s g p strength None k i = name-by s g p strength (handles_full s.peers) k i

abbrev pub globalised_by : Peers → ℕ → Strength → Option ℕ → Answered Peers
globalised_by s g strength o = elim o [ None ↦ answer says.Empty s | Some p ↦ name_given s g p strength (slot s.names g) ]

global-event : (s : PeerReplay) (g v : ℕ) (strength : Strength) (o : Option ℕ) → PeerInvariant s → slot s.peers.heap.vars v ≡ o → PeerInvariant (on_table s (globalised_by s.peers g strength o)).state
global-event s g v strength None k e = stay-event s says.Empty k
global-event s g v strength (Some p) k e = given-by s g p strength (slot s.peers.names g) k (inl (slot-Contains s.peers.heap.vars v p e))

-- a name loses its handle
abbrev pub freed_by : Peers → ℕ → Option ℕ → Answered Peers
freed_by s g o = elim o [ None ↦ answer says.Unset s | Some h ↦ answer says.Ok (record s { names = set s.names g None }) ]

unglobal-event : (s : PeerReplay) (g : ℕ) (o : Option ℕ) → PeerInvariant s → PeerInvariant (on_table (untabled s o) (freed_by s.peers g o)).state
unglobal-event s g None k = stay-event s says.Unset k
unglobal-event s g (Some h) k =
    let gone : PeerReplay = record s { table = numbered_set s.table h None } in
    on_table-still gone (record s.peers { names = set s.peers.names g None }) refl (kept-name gone g None (kept-gone s h k) (λ n e. absurd (none_some n e)))

-- where a handle leads is unfreed
target-by : (s : PeerReplay) (h p : ℕ) (o : Option TableRow) → PeerInvariant s → row_of s h ≡ o
    → elim o [ None ↦ None | Some row ↦ if row.cleared then None else peer_of s.peers.issued h ] ≡ Some p → IsLive s.peers.heap p
target-by s h p None k e q = absurd (none_some p q)
target-by s h p (Some row) k e q = by row.cleared refl q
  where
    issued-by : (j : Option Issued) → numbered_at s.peers.issued h ≡ j → row.cleared ≡ false → elim j [ None ↦ None | Some i ↦ Some i.peer ] ≡ Some p → IsLive s.peers.heap p
    issued-by None f c w = absurd (none_some p w)
    issued-by (Some i) f c w = subst (λ z. IsLive s.peers.heap z) (same_Some i.peer p w) (k.handles.uncleared h row i (slot-named (numbered_at s.table h) row e) f c)

    by : (b : Bool) → row.cleared ≡ b → (if b then None else peer_of s.peers.issued h) ≡ Some p → IsLive s.peers.heap p
    by true c w = absurd (none_some p w)
    by false c w = issued-by (numbered_at s.peers.issued h) refl c w

pub target-live : (s : PeerReplay) (h p : ℕ) → PeerInvariant s → table_target s h ≡ Some p → IsLive s.peers.heap p
target-live s h p k q = target-by s h p (row_of s h) k refl q

-- a slot comes to name where a handle leads, and that is brought back
read-event : (s : PeerReplay) (v h : ℕ) (o : Option ℕ) → PeerInvariant s → table_target s h ≡ o → PeerInvariant (brings (on_table s (peer_read s.peers v o))).state
read-event s v h None k e = stay-event s says.Gone k
read-event s v h (Some p) k e =
    let back : PeerReplay = record s { marking = brought_to s.marking p } in
    on_table-still back (record s.peers { heap = with_var s.peers.heap v (Some p) }) refl (kept-var back v p (kept-brought s p k) (target-live s h p k e) (brought-safe s p k))

pub land-event : (s : PeerReplay) (x h : ℕ) (o : Option ℕ) → PeerInvariant s → table_target s h ≡ o → PeerInvariant (brings (on_table s (landed s.peers x o))).state
land-event s x h None k e = stay-event s says.Gone k
land-event s x h (Some p) k e =
    let back : PeerReplay = record s { marking = brought_to s.marking p } in
    on_table-still back (record s.peers { heap = with_static s.peers.heap x (Some p) }) refl (kept-static back x p (kept-brought s p k) (target-live s h p k e) (brought-safe s p k))

abbrev pub read_by : (ℕ → Option ℕ) → Peers → ℕ → Option ℕ → Answered Peers
read_by target s v o = elim o [ None ↦ answer says.Unset s | Some h ↦ peer_read s v (target h) ]

wread-event : (s : PeerReplay) (v : ℕ) (o : Option ℕ) → PeerInvariant s → PeerInvariant (brings (on_table s (read_by (table_target s) s.peers v o))).state
wread-event s v None k = stay-event s says.Unset k
wread-event s v (Some h) k = read-event s v h (table_target s h) k refl

-- the events of a peer thread's lines that are one event
pub line-event : (s : PeerReplay) (t : ℕ) (a : Act) → PeerInvariant s → PeerInvariant (peer_thread_line s t a).state
line-event s t (act.NewPeer v n) k = made-event s (place t v.0) n (is_full s.peers.heap.fields) k
line-event s t (act.Global g v) k = global-event s g.0 (place t v.0) strong (slot s.peers.heap.vars (place t v.0)) k refl
line-event s t (act.WGlobal g v) k = global-event s g.0 (place t v.0) weak (slot s.peers.heap.vars (place t v.0)) k refl
line-event s t (act.UnGlobal g) k = unglobal-event s g.0 (slot s.peers.names g.0) k
line-event s t (act.WRead v g) k = wread-event s (place t v.0) (slot s.peers.names g.0) k
line-event s t a k = heap-event s _ k (heap_line-moved peer_name s.peers.heap t a)
