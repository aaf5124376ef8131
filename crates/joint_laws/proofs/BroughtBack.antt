-- What is brought back at an entry that is no restore is in a slot after it; and else an open marking stays as it is.
use Rattle.std.proofs.Common.{◌≡◌, ℕ, ◌+◌, ◌-◌, ◌<◌, ◌≤◌, ◌⊎◌, inl, inr, Bool, true, false, ◌||◌, List, [], ◌∷◌, ◌++◌, length, Option, Some, None, refl, sym, ap, subst, ◌∙◌, arith}
use Rattle.std.specs.Prelude.{Contains, if◌then◌else◌, min, nat_lt}
use Rattle.std.proofs.lemmas.Option.{same_Some}
use Rattle.std.proofs.lemmas.List.Elements.{Contains-push_cases}
use Rattle.joint_machine.specs.declared.names.Thread.{Thread}
use Rattle.joint_machine.specs.declared.names.Thread.TheVariants.{M, P, C}
use Rattle.joint_machine.specs.declared.names.HNum.{HNum}
use Rattle.joint_machine.specs.declared.lines.Act.{Act}
use Rattle.joint_machine.specs.declared.lines.Act.TheVariants as act
use Rattle.joint_machine.specs.declared.events.Op.{Op}
use Rattle.joint_machine.specs.declared.events.Op.TheVariants as op
use Rattle.joint_machine.specs.declared.events.Reply.TheVariants as says
use Rattle.joint_machine.specs.declared.events.Made.{Made}
use Rattle.joint_machine.specs.Heaps.{Heap, InSlot, answer, slot, place}
use Rattle.joint_machine.specs.Lines.{IsEvent, is_peer_event}
use Rattle.joint_machine.specs.Linked.{Linkage, MayCome, linkage_after, peer_after}
use Rattle.joint_machine.specs.Peers.{landed, peer_read}
use Rattle.joint_machine.specs.PeerReplay.{PeerReplay, Marking, on_table, brings, untabled, peer_thread_line, is_thread, sliced, begun, swept_of, swept, mirrored, brought_to, peer_answer}
use Rattle.joint_machine.specs.PeerReplay.{table_target}
use Rattle.joint_machine.specs.Told.{Told, Noted, references_of, slice_of, sweep_of}
use Rattle.joint_machine.proofs.Deciding.{none_some}
use Rattle.joint_laws.proofs.NewRows.{Contains-set_there}
use Rattle.joint_laws.proofs.PeerEvents.{read_by}
use Rattle.joint_laws.proofs.Sparing.{later}
use Rattle.joint_machine.specs.Components.{End}

-- the marking goes on with more peers brought back, each of them in a slot
pub record IsLater (h : Heap) (mk now : Marking) : Type 0 where
  pub brought : List ℕ
  pub black : ℕ
  pub same : now ≡ later mk brought black
  pub back : (p : ℕ) → Contains brought p → Contains mk.brought p ⊎ InSlot h p

abbrev pub MarksLater : Option Marking → Option Marking → Heap → Type 0
MarksLater x y h = (mk now : Marking) → x ≡ Some mk → y ≡ Some now → IsLater h mk now

same-later : (x : Option Marking) (h : Heap) → MarksLater x x h
same-later x h mk now e f = record { brought = mk.brought; black = mk.blackened; same = same_Some now mk (sym f ∙ e); back = λ p c. inl c }

ended-later : (x : Option Marking) (h : Heap) → MarksLater x None h
ended-later x h mk now e f = absurd (none_some now f)

black-later : (m : Marking) (b : ℕ) (h : Heap) → MarksLater (Some m) (Some (record m { blackened = b })) h
black-later m b h mk now e f =
    let g : m ≡ mk = same_Some m mk e in
    record { brought = mk.brought; black = b; same = same_Some now _ (sym f) ∙ ap (λ (z : Marking). record z { blackened = b }) g; back = λ p c. inl c }

brought-later : (x : Option Marking) (p : ℕ) (h : Heap) → InSlot h p → MarksLater x (brought_to x p) h
brought-later None p h i mk now e f = absurd (none_some mk e)
brought-later (Some m) p h i mk now e f =
    let g : m ≡ mk = same_Some m mk e in
    record {
      brought = mk.brought ++ p ∷ [];
      black = mk.blackened;
      same = same_Some now _ (sym f) ∙ ap (λ (z : Marking). record z { brought = z.brought ++ p ∷ [] }) g;
      back = λ q c. elim (Contains-push_cases mk.brought p q c) [ inl w ↦ inl w | inr w ↦ inr (subst (λ z. InSlot h z) w i) ];
    }

module _ (s : PeerReplay) (vars : length s.peers.heap.vars ≡ 72) (statics : length s.peers.heap.statics ≡ 16) where
  abbrev Later : PeerReplay → Type 0
  Later t = MarksLater s.marking t.marking t.peers.heap

  sliced-later : (x : Option Marking) (t : Thread) (n : ℕ) (closure : List ℕ) → s.marking ≡ x → Later (sliced s x t n closure).state
  sliced-later None t n closure e = same-later s.marking s.peers.heap
  sliced-later (Some mk) t n closure e = by (is_thread t mk.by)
    where
      black : (b : ℕ) → Later (record s { marking = Some (record mk { blackened = b }) })
      black b = subst (λ z. MarksLater z (Some (record mk { blackened = b })) s.peers.heap) (sym e) (black-later mk b s.peers.heap)

      by : (b : Bool) → Later (if b
          then (let black = mk.blackened + min n (length closure - mk.blackened) in
          answer (if nat_lt black (length closure) then says.More else says.Done) (record s { marking = Some (record mk { blackened = black }) }))
          else answer (says.MarkOpen record { 0 = mk.number }) s).state
      by true = black _
      by false = same-later s.marking s.peers.heap

  begun-later : (x : Option Marking) (t : Thread) → s.marking ≡ x → Later (begun s x t).state
  begun-later None t e = λ mk now f g. absurd (none_some mk (sym e ∙ f))
  begun-later (Some mk) t e = same-later s.marking s.peers.heap

  swept-later : (x : Option Marking) (t : Thread) (freed : List ℕ) → Later (swept s x t freed).state
  swept-later None t freed = same-later s.marking s.peers.heap
  swept-later (Some mk) t freed = by (is_thread t C || is_thread t mk.by)
    where
      by : (b : Bool) → Later (if b then swept_of s mk freed else answer (says.MarkOpen record { 0 = mk.number }) s).state
      by true = ended-later s.marking _
      by false = same-later s.marking s.peers.heap

  mirrored-later : (n : ℕ) (cites : Option ℕ) (refs : List (End × End)) → Later (mirrored s n cites refs)
  mirrored-later n None refs = same-later s.marking s.peers.heap
  mirrored-later n (Some snap) refs = same-later s.marking s.peers.heap

  unglobal-later : (o : Option ℕ) (h : Heap) → MarksLater s.marking (untabled s o).marking h
  unglobal-later None h = same-later s.marking h
  unglobal-later (Some x) h = same-later s.marking h

  read-later : (v : ℕ) (o : Option ℕ) → v < 72 → Later (brings (on_table s (peer_read s.peers v o))).state
  read-later v None l = same-later s.marking s.peers.heap
  read-later v (Some p) l = brought-later s.marking p _ (inl (Contains-set_there s.peers.heap.vars v (Some p) (omega (arith, l, vars))))

  wread-later : (v : ℕ) (o : Option ℕ) → v < 72 → Later (brings (on_table s (read_by (table_target s) s.peers v o))).state
  wread-later v None l = same-later s.marking s.peers.heap
  wread-later v (Some h) l = read-later v (table_target s h) l

  land-later : (x : ℕ) (o : Option ℕ) → x < 16 → Later (brings (on_table s (landed s.peers x o))).state
  land-later x None l = same-later s.marking s.peers.heap
  land-later x (Some p) l = brought-later s.marking p _ (inr (Contains-set_there s.peers.heap.statics x (Some p) (omega (arith, l, statics))))

  place-bound : (u v : ℕ) → u ≤ 8 → v < 8 → place u v < 72
  place-bound u v a b = omega arith

  line-later : (u : ℕ) (a : Act) → IsEvent (P u) (op.Line a) → Later (peer_thread_line s u a).state
  line-later u (act.UnGlobal g) e = unglobal-later (slot s.peers.names g.0) _
  line-later u (act.WRead v g) e = wread-later (place u v.0) (slot s.peers.names g.0) (place-bound u v.0 e.0.0.1 e.0.1.0)
  line-later u _ e = same-later s.marking _

  pub answer-later : (t : Thread) (o : Op) (cites : Option ℕ) (told : Told) → IsEvent t o → is_peer_event t o ≡ true → ((h : HNum) → o ≡ op.Restore h → ⊥) → Later (peer_answer s t o cites told).state
  answer-later t (op.Line (act.Slice n)) cites (slice_of closure) e p r = sliced-later s.marking t n closure refl
  answer-later t (op.Line (act.Slice n)) cites _ e p r = sliced-later s.marking t n [] refl
  answer-later (P u) (op.Line a) cites told e p r = line-later u a e
  answer-later (M u) (op.Line a) cites told e p r = absurd (let f : false ≡ true = p in cc)
  answer-later C (op.Line a) cites told e p r = absurd (let f : false ≡ true = p in cc)
  answer-later t (op.Make sort n) cites told e p r = same-later s.marking _
  answer-later (M u) (op.Land h x) cites told e p r = land-later x.0 (table_target s h.0) e.1
  answer-later (P u) (op.Land h x) cites told e p r = absurd e.0
  answer-later C (op.Land h x) cites told e p r = absurd e.0
  answer-later t (op.Grip x) cites told e p r = same-later s.marking _
  answer-later t (op.Mirror n) cites (references_of refs) e p r = mirrored-later n.0 cites refs
  answer-later t op.Begin cites told e p r = begun-later s.marking t refl
  answer-later t op.Sweep cites (sweep_of freed) e p r = swept-later s.marking t freed
  answer-later t op.Sweep cites _ e p r = swept-later s.marking t []
  answer-later t (op.Restore h) cites told e p r = absurd (r h refl)
  answer-later t _ cites told e p r = same-later s.marking _

later-by : (s : Linkage) (m : Made) (told : Told) (b : Bool) → length s.peer.peers.heap.vars ≡ 72 → length s.peer.peers.heap.statics ≡ 16
    → IsEvent m.caller m.op → is_peer_event m.caller m.op ≡ b → ((h : HNum) → m.op ≡ op.Restore h → ⊥)
    → MarksLater s.peer.marking (peer_after s.peer m told b).marking (peer_after s.peer m told b).peers.heap
later-by s m told true vars statics e p r = answer-later s.peer vars statics m.caller m.op m.cites told e p r
later-by s m told false vars statics e p r = same-later s.peer.marking s.peer.peers.heap

pub later-entry : (s : Linkage) (n : Noted) → length s.peer.peers.heap.vars ≡ 72 → length s.peer.peers.heap.statics ≡ 16 → MayCome s n
    → ((h : HNum) → n.entry.made.op ≡ op.Restore h → ⊥) → MarksLater s.peer.marking (linkage_after s n).peer.marking (linkage_after s n).peer.peers.heap
later-entry s n vars statics may r = later-by s n.entry.made n.told (is_peer_event n.entry.made.caller n.entry.made.op) vars statics may.event refl r
