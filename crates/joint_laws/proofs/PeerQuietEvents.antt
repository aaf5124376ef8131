-- The events of a peer thread's lines are quiet, and so are a make, a grip, a land, a slice and a begin.
use Rattle.std.proofs.Common.{◌≡◌, ℕ, ◌+◌, ◌-◌, ◌⊎◌, inl, inr, Bool, true, false, List, ◌++◌, length, map, Option, Some, None, set, refl, sym, ap, ◌∙◌, arith}
use Rattle.std.specs.Prelude.{if◌then◌else◌, min, nat_lt}
use Rattle.std.proofs.lemmas.Option.{same_Some}
use Rattle.joint_machine.specs.declared.names.Thread.{Thread}
use Rattle.joint_machine.specs.declared.names.Sort.{Sort}
use Rattle.joint_machine.specs.declared.names.Sort.TheVariants.{Framework}
use Rattle.joint_machine.specs.declared.lines.Act.{Act}
use Rattle.joint_machine.specs.declared.lines.Act.TheVariants as act
use Rattle.joint_machine.specs.declared.events.Reply.{Reply}
use Rattle.joint_machine.specs.declared.events.Reply.TheVariants as says
use Rattle.joint_machine.specs.Heaps.{Heap, IsMade, InSlot, answer, slot, place, is_full, next_number, numbered_set, with_var, with_static, with_object}
use Rattle.joint_machine.specs.Peers.{Issued, held, raw, Strength, strong, weak, peer_name, handle_name, next_handle, with_handle, with_peer, peer_gripped, landed, name_given, peer_read, issued_since}
use Rattle.joint_machine.specs.Peers.{handles_full}
use Rattle.joint_machine.specs.PeerReplay.{PeerReplay, Marking, fresh_row, table_target, on_table, brings, untabled, peer_thread_line, is_thread, sliced, begun, brought_to}
use Rattle.joint_laws.specs.PeerInvariants.{IsIssued, PeerInvariant}
use Rattle.joint_machine.proofs.Numbered.{slot-Contains, Contains-set_cases}
use Rattle.joint_machine.proofs.Deciding.{none_some}
use Rattle.joint_laws.proofs.Fields.{with_object-length}
use Rattle.joint_laws.proofs.HeapMoves.{HasMoved, IsInReach, HasMoved-stay, heap_line-moved}
use Rattle.joint_laws.proofs.HeapKeeping.{object-field}
use Rattle.joint_laws.proofs.PeerEvents.{globalised_by, freed_by, read_by}
use Rattle.joint_laws.proofs.PeerQuiet.{IsQuiet, HandlesAlike-same, HandlesAlike-raw_gone, table-still, StillOpen, StillOpen-same, StillOpen-brought, SlotsFrom, FieldsFrom, IsQuiet-still}
use Rattle.joint_laws.proofs.PeerQuiet.{IsQuiet-issued}

-- the handle was issued as a raw one
abbrev pub IsRawOne : PeerReplay → ℕ → Type 0
IsRawOne s h = (i : Issued) × IsIssued s.peers.issued h i × (i.hold ≡ raw)

raw-held : raw ≡ held → ⊥
raw-held e = cc

fields-same : (s : PeerReplay) → FieldsFrom s s.peers.heap
fields-same s x p c = inl c

slots-same : (via : ℕ → Type 0) (s : PeerReplay) → SlotsFrom via s s.peers.heap
slots-same via s p i = inl (inl i)

fields-moved : (s : PeerReplay) (g : Heap) → HasMoved s.peers.heap g → FieldsFrom s g
fields-moved s g v x p c = elim (v.fields x p c) [ inl w ↦ inl w | inr w ↦ inr w.1 ]

module _ (via : ℕ → Type 0) (s : PeerReplay) where
  pub quiet-heap : (g : Heap) → HasMoved s.peers.heap g → IsQuiet via s
      (record s { peers = record s.peers { heap = g }; table = s.table ++ map fresh_row (issued_since s.peers (record s.peers { heap = g })) })
  quiet-heap g v = IsQuiet-still via s (record s.peers { heap = g }) s.marking refl v.freed (omega (arith, v.made)) (StillOpen-same s.marking) (λ p i. inl (v.slots p i)) (fields-moved s g v)

  pub quiet-stay : (r : Reply) → IsQuiet via s (on_table s (answer r s.peers)).state
  quiet-stay r = quiet-heap s.peers.heap (HasMoved-stay s.peers.heap)

  -- a further peer
  object-fields : (n : ℕ) → FieldsFrom s (with_object s.peers.heap n)
  object-fields n x p c = inl (object-field s.peers.heap n x p c).1

  new_slot : (n v p : ℕ) → InSlot (with_var (with_object s.peers.heap n) v (Some (next_number s.peers.heap))) p
      → IsInReach s.peers.heap p ⊎ (IsMade s.peers.heap p → ⊥) ⊎ ((h : ℕ) × via h × (table_target s h ≡ Some p))
  new_slot n v p i = elim i [
    | inl c ↦ elim (Contains-set_cases s.peers.heap.vars v (Some (next_number s.peers.heap)) (Some p) c) [
      | inl w ↦ inl (inl (inl w))
      | inr e ↦ inr (inl (λ m. omega (arith, m.1, same_Some (next_number s.peers.heap) p e)))
    ]
    | inr c ↦ inl (inl (inr c))
  ]

  pub quiet-made : (v n : ℕ) (b : Bool)
      → IsQuiet via s (on_table s (if b then answer says.Full s.peers else answer (peer_name (next_number s.peers.heap))
      (record (with_peer s.peers Framework n) { heap = with_var (with_peer s.peers Framework n).heap v (Some (next_number s.peers.heap)) }))).state
  quiet-made v n true = quiet-stay says.Full
  quiet-made v n false = IsQuiet-still via s (record (with_peer s.peers Framework n) { heap = with_var (with_object s.peers.heap n) v (Some (next_number s.peers.heap)) }) s.marking refl refl
      (omega (arith, with_object-length s.peers.heap n)) (StillOpen-same s.marking) (new_slot n v) (object-fields n)

  -- a further peer with a held handle on it
  pub quiet-pair : (sort : Sort) (n : ℕ) (b : Bool) → length s.table ≡ length s.peers.issued
      → IsQuiet via s (on_table s (if b then answer says.Full s.peers else answer (says.Made record { 0 = next_number s.peers.heap } record { 0 = next_handle s.peers })
      (with_handle (with_peer s.peers sort n) (next_number s.peers.heap) held strong))).state
  quiet-pair sort n true e = quiet-stay says.Full
  quiet-pair sort n false e = IsQuiet-issued via s (with_handle (with_peer s.peers sort n) (next_number s.peers.heap) held strong)
      (record { peer = next_number s.peers.heap; hold = held; strength = strong }) e refl refl (omega (arith, with_object-length s.peers.heap n)) (λ q. refl)
      (inr (λ m. omega (arith, m.1))) (slots-same via s) (object-fields n)

  -- a held handle on the peer in a static
  pub quiet-gripped : (p : ℕ) (b : Bool) (r : Reply) → length s.table ≡ length s.peers.issued → InSlot s.peers.heap p
      → IsQuiet via s (on_table s (if b then answer says.Full s.peers else answer r (with_handle s.peers p held strong))).state
  quiet-gripped p true r e i = quiet-stay says.Full
  quiet-gripped p false r e i = IsQuiet-issued via s (with_handle s.peers p held strong)
      (record { peer = p; hold = held; strength = strong }) e refl refl (omega arith) (λ q. refl) (inl i) (slots-same via s) (fields-same s)

  pub quiet-grip : (x : ℕ) (o : Option ℕ) → length s.table ≡ length s.peers.issued → slot s.peers.heap.statics x ≡ o → IsQuiet via s (on_table s (peer_gripped s.peers o)).state
  quiet-grip x None e q = quiet-stay says.Null
  quiet-grip x (Some p) e q = quiet-gripped p (handles_full s.peers) _ e (inr (slot-Contains s.peers.heap.statics x p q))

  -- a name gets a raw handle
  name-by : (g p : ℕ) (strength : Strength) (b : Bool) → length s.table ≡ length s.peers.issued → InSlot s.peers.heap p
      → IsQuiet via s (on_table s (if b then answer says.Full s.peers else answer (handle_name (next_handle s.peers))
      (record (with_handle s.peers p raw strength) { names = set s.peers.names g (Some (next_handle s.peers)) }))).state
  name-by g p strength true e i = quiet-stay says.Full
  name-by g p strength false e i = IsQuiet-issued via s (record (with_handle s.peers p raw strength) { names = set s.peers.names g (Some (next_handle s.peers)) })
      (record { peer = p; hold = raw; strength = strength }) e refl refl (omega arith) (λ q. absurd (raw-held q)) (inl i) (slots-same via s) (fields-same s)

  given-by : (g p : ℕ) (strength : Strength) (o : Option ℕ) → length s.table ≡ length s.peers.issued → InSlot s.peers.heap p → IsQuiet via s (on_table s (name_given s.peers g p strength o)).state
  given-by g p strength (Some h) e i = quiet-stay says.Taken
  given-by g p strength None e i = name-by g p strength (handles_full s.peers) e i

  quiet-global : (g v : ℕ) (strength : Strength) (o : Option ℕ) → length s.table ≡ length s.peers.issued
      → slot s.peers.heap.vars v ≡ o → IsQuiet via s (on_table s (globalised_by s.peers g strength o)).state
  quiet-global g v strength None e q = quiet-stay says.Empty
  quiet-global g v strength (Some p) e q = given-by g p strength (slot s.peers.names g) e (inl (slot-Contains s.peers.heap.vars v p q))

  -- a name loses its handle
  quiet-unglobal : (g : ℕ) (o : Option ℕ) → ((h : ℕ) → o ≡ Some h → IsRawOne s h) → IsQuiet via s (on_table (untabled s o) (freed_by s.peers g o)).state
  quiet-unglobal g None r = quiet-stay says.Unset
  quiet-unglobal g (Some h) r =
      let w = r h refl in
      let gone : PeerReplay = record s { table = numbered_set s.table h None } in
      record {
        handles = HandlesAlike-raw_gone s (on_table gone (answer says.Ok (record s.peers { names = set s.peers.names g None }))).state h w.0 w.1 w.2
            (table-still gone (record s.peers { names = set s.peers.names g None }) refl) refl refl;
        refs = refl;
        mirror = refl;
        freed = refl;
        made = omega arith;
        marking = StillOpen-same s.marking;
        slots = slots-same via s;
        fields = fields-same s;
        issues = λ k i q. inl q;
      }

  -- a slot comes to name where a handle leads
  var_slot : (v h p q : ℕ) → via h → table_target s h ≡ Some p → InSlot (with_var s.peers.heap v (Some p)) q
      → IsInReach s.peers.heap q ⊎ (IsMade s.peers.heap q → ⊥) ⊎ ((g : ℕ) × via g × (table_target s g ≡ Some q))
  var_slot v h p q w e i = elim i [
    | inl c ↦ elim (Contains-set_cases s.peers.heap.vars v (Some p) (Some q) c) [ inl d ↦ inl (inl (inl d)) | inr d ↦ inr (inr (h, w, e ∙ d)) ]
    | inr c ↦ inl (inl (inr c))
  ]

  static_slot : (x h p q : ℕ) → via h → table_target s h ≡ Some p → InSlot (with_static s.peers.heap x (Some p)) q
      → IsInReach s.peers.heap q ⊎ (IsMade s.peers.heap q → ⊥) ⊎ ((g : ℕ) × via g × (table_target s g ≡ Some q))
  static_slot x h p q w e i = elim i [
    | inl c ↦ inl (inl (inl c))
    | inr c ↦ elim (Contains-set_cases s.peers.heap.statics x (Some p) (Some q) c) [ inl d ↦ inl (inl (inr d)) | inr d ↦ inr (inr (h, w, e ∙ d)) ]
  ]

  quiet-read : (v h : ℕ) (o : Option ℕ) → via h → table_target s h ≡ o → IsQuiet via s (brings (on_table s (peer_read s.peers v o))).state
  quiet-read v h None w e = quiet-stay says.Gone
  quiet-read v h (Some p) w e = IsQuiet-still via s (record s.peers { heap = with_var s.peers.heap v (Some p) })
      (brought_to s.marking p) refl refl (omega arith) (StillOpen-brought s.marking p) (λ q i. var_slot v h p q w e i) (fields-same s)

  pub quiet-land : (x h : ℕ) (o : Option ℕ) → via h → table_target s h ≡ o → IsQuiet via s (brings (on_table s (landed s.peers x o))).state
  quiet-land x h None w e = quiet-stay says.Gone
  quiet-land x h (Some p) w e = IsQuiet-still via s (record s.peers { heap = with_static s.peers.heap x (Some p) })
      (brought_to s.marking p) refl refl (omega arith) (StillOpen-brought s.marking p) (λ q i. static_slot x h p q w e i) (fields-same s)

  quiet-wread : (v : ℕ) (o : Option ℕ) → ((h : ℕ) → o ≡ Some h → via h) → IsQuiet via s (brings (on_table s (read_by (table_target s) s.peers v o))).state
  quiet-wread v None w = quiet-stay says.Unset
  quiet-wread v (Some h) w = quiet-read v h (table_target s h) (w h refl) refl

  -- the marking alone changes
  quiet-marking : (m : Option Marking) (n : ℕ) → StillOpen s.marking m → IsQuiet via s (record s { marking = m; markings = n })
  quiet-marking m n o = record {
    handles = HandlesAlike-same s (record s { marking = m; markings = n }) refl refl refl;
    refs = refl;
    mirror = refl;
    freed = refl;
    made = omega arith;
    marking = o;
    slots = slots-same via s;
    fields = fields-same s;
    issues = λ h i q. inl q;
  }

  pub quiet-begun : (o : Option Marking) (t : Thread) → s.marking ≡ o → IsQuiet via s (begun s o t).state
  quiet-begun None t e = quiet-marking _ (s.markings + 1) (λ mk q. absurd (none_some mk (sym e ∙ q)))
  quiet-begun (Some mk) t e = quiet-marking s.marking s.markings (StillOpen-same s.marking)

  pub quiet-sliced : (o : Option Marking) (t : Thread) (n : ℕ) (closure : List ℕ) → s.marking ≡ o → IsQuiet via s (sliced s o t n closure).state
  quiet-sliced None t n closure e = quiet-marking s.marking s.markings (StillOpen-same s.marking)
  quiet-sliced (Some mk) t n closure e = by (is_thread t mk.by)
    where
      black : (b : ℕ) → IsQuiet via s (record s { marking = Some (record mk { blackened = b }) })
      black b = quiet-marking (Some (record mk { blackened = b })) s.markings (λ m q. (record mk { blackened = b }, refl, ap (λ (z : Marking). z.by) (same_Some mk m (sym e ∙ q))))

      by : (b : Bool) → IsQuiet via s (if b
          then (let black = mk.blackened + min n (length closure - mk.blackened) in
          answer (if nat_lt black (length closure) then says.More else says.Done) (record s { marking = Some (record mk { blackened = black }) }))
          else answer (says.MarkOpen record { 0 = mk.number }) s).state
      by true = black _
      by false = quiet-marking s.marking s.markings (StillOpen-same s.marking)

named-raw : (s : PeerReplay) (g : ℕ) → PeerInvariant s → (h : ℕ) → slot s.peers.names g ≡ Some h → IsRawOne s h
named-raw s g k h e = k.handles.named h (slot-Contains s.peers.names g h e)

pub quiet-line : (s : PeerReplay) (t : ℕ) (a : Act) → PeerInvariant s → IsQuiet (IsRawOne s) s (peer_thread_line s t a).state
quiet-line s t (act.NewPeer v n) k = quiet-made (IsRawOne s) s (place t v.0) n (is_full s.peers.heap.fields)
quiet-line s t (act.Global g v) k = quiet-global (IsRawOne s) s g.0 (place t v.0) strong (slot s.peers.heap.vars (place t v.0)) k.handles.places refl
quiet-line s t (act.WGlobal g v) k = quiet-global (IsRawOne s) s g.0 (place t v.0) weak (slot s.peers.heap.vars (place t v.0)) k.handles.places refl
quiet-line s t (act.UnGlobal g) k = quiet-unglobal (IsRawOne s) s g.0 (slot s.peers.names g.0) (named-raw s g.0 k)
quiet-line s t (act.WRead v g) k = quiet-wread (IsRawOne s) s (place t v.0) (slot s.peers.names g.0) (named-raw s g.0 k)
quiet-line s t a k = quiet-heap (IsRawOne s) s _ (heap_line-moved peer_name s.peers.heap t a)
