-- What each peer event does to the handle table, and what its lines do to what stands behind the log.
use Rattle.std.proofs.Common.{◌≡◌, ℕ, ◌⊎◌, inl, inr, false, ◌||◌, List, [], ◌∷◌, ◌++◌, map, Option, Some, None, set, refl, sym, ap, subst, ◌∙◌, arith}
use Rattle.joint_machine.specs.declared.names.GName.{GName}
use Rattle.joint_machine.specs.declared.names.HNum.{HNum}
use Rattle.joint_machine.specs.declared.names.Sort.{Sort}
use Rattle.joint_machine.specs.declared.names.Thread.{Thread}
use Rattle.joint_machine.specs.declared.names.Thread.TheVariants.{C}
use Rattle.joint_machine.specs.declared.lines.Act.{Act}
use Rattle.joint_machine.specs.declared.lines.Act.TheVariants as act
use Rattle.joint_machine.specs.declared.events.Op.{Op}
use Rattle.joint_machine.specs.declared.events.Op.TheVariants as op
use Rattle.joint_machine.specs.declared.events.Reply.{Reply}
use Rattle.joint_machine.specs.declared.events.Reply.TheVariants as says
use Rattle.joint_machine.specs.Components.{End}
use Rattle.joint_machine.specs.Heaps.{Heap, Answered, answer, slot, place, is_full, numbered_at, numbered_set, heap_line}
use Rattle.joint_machine.specs.Peers.{Peers, Issued, Strength, strong, weak, held, raw, pair_made, peer_gripped, landed, name_given, peer_read, name_read, on_peer_heap, peer_line, issued_since}
use Rattle.joint_machine.specs.Peers.{handles_full, next_handle, peer_name}
use Rattle.joint_machine.specs.PeerReplay.{PeerReplay, TableRow, Marking, row_of, fresh_row, table_target, on_table, bring_by, untabled, peer_thread_line, is_thread, sliced, begun, swept, restored_by}
use Rattle.joint_machine.specs.PeerReplay.{mirrored, peer_answer, PeerAllows, IsHeld}
use Rattle.joint_machine.specs.Run.{thread_number}
use Rattle.joint_machine.specs.Told.{Told, nothing, references_of, slice_of, sweep_of}
use Rattle.joint_machine.proofs.Deciding.{none_some, option-cases, test-cases}
use Rattle.joint_machine.proofs.Numbered.{slot-named, slot-Contains}
use Rattle.joint_laws.specs.LinkedInvariants.{HasStrength}
use Rattle.joint_laws.specs.PeerInvariants.{PeerInvariant, IsTabled}
use Rattle.joint_laws.proofs.HandleKeeping.{held-raw, issued-same}
use Rattle.joint_laws.proofs.PeerEvents.{freed_by}
use Rattle.joint_laws.proofs.PeerQuiet.{table-still, table-issued}
use Rattle.joint_laws.proofs.Restores.{restored-cases}
use Rattle.summary_laws.proofs.Names.{NamesInvariant, names-grown, names-given, names-freed, names-gone, names-reset, names-swept}
use Rattle.gref_log.specs.Log.{Change, changes, unnamed, minus}
use Rattle.gref_log.proofs.TableSteps.{Follows, comes, leaves, plus, renews, stays as stays-so, sweeps, weakens}

-- the lines of an event lead from what the table says to what it says then, and each name still has a handle of the
-- table
pub record Goes (s : PeerReplay) (p : Peers) (table : List (Option TableRow)) (o : Op) (r : Reply) : Type 0 where
  pub follows : Follows s.peers.issued p.issued s.table table (changes s o r)
  pub names : NamesInvariant p.names table

module _ (s : PeerReplay) (k : PeerInvariant s) (names : NamesInvariant s.peers.names s.table) where
  abbrev OnTable : Op → Answered Peers → Type 0
  OnTable o a = Goes s a.state (s.table ++ map fresh_row (issued_since s.peers a.state)) o a.reply

  by-changes : (issued : List Issued) (table : List (Option TableRow)) (ds es : List Change) → ds ≡ es → Follows s.peers.issued issued s.table table es → Follows s.peers.issued issued s.table table ds
  by-changes issued table ds es e c = subst (λ z. Follows s.peers.issued issued s.table table z) (sym e) c

  -- no handle is issued
  still : (o : Op) (a : Answered Peers) → changes s o a.reply ≡ [] → a.state.issued ≡ s.peers.issued → a.state.names ≡ s.peers.names → OnTable o a
  still o a c e n =
      let same = table-still s a.state e in
      record {
        follows = by-changes a.state.issued (s.table ++ map fresh_row (issued_since s.peers a.state)) _ [] c (stays-so s.peers.issued a.state.issued s.table _ e same);
        names = subst (λ z. NamesInvariant z (s.table ++ map fresh_row (issued_since s.peers a.state))) (sym n) (subst (λ z. NamesInvariant s.peers.names z) (sym same) names);
      }

  stays : (o : Op) (r : Reply) → changes s o r ≡ [] → OnTable o (answer r s.peers)
  stays o r c = still o (answer r s.peers) c refl refl

  -- one is issued
  issues : (o : Op) (a : Answered Peers) (new : Issued) → changes s o a.reply ≡ record { mark = plus new.strength; handle = next_handle s.peers } ∷ []
      → a.state.issued ≡ s.peers.issued ++ new ∷ [] → NamesInvariant a.state.names (s.table ++ fresh_row new ∷ []) → OnTable o a
  issues o a new c e kept =
      let same = table-issued s a.state new e in
      let ds = record { mark = plus new.strength; handle = next_handle s.peers } ∷ [] in
      record {
        follows = by-changes a.state.issued (s.table ++ map fresh_row (issued_since s.peers a.state)) _ ds c
            (subst (λ z. Follows s.peers.issued a.state.issued s.table z ds) (sym same)
            (subst (λ z. Follows s.peers.issued z s.table (s.table ++ fresh_row new ∷ []) ds) (sym e) (comes s.peers.issued s.table k.handles.places new new.strength refl)));
        names = subst (λ z. NamesInvariant a.state.names z) (sym same) kept;
      }

  pair-goes : (sort : Sort) (n : ℕ) → OnTable (op.Make sort n) (pair_made s.peers sort n)
  pair-goes sort n = test-cases (OnTable (op.Make sort n)) (is_full s.peers.heap.fields || handles_full s.peers) _ _
      (stays (op.Make sort n) says.Full refl)
      (issues (op.Make sort n) _ _ refl refl (names-grown s.peers.names s.table names _))

  grip-goes : (x : ℕ) (o : Op) (q : Option ℕ) → changes s o says.Null ≡ [] → changes s o says.Full ≡ []
      → ((p : ℕ) (sort : Sort) (n : ℕ) → changes s o (says.Gripped record { 0 = p } record { 0 = next_handle s.peers } sort n) ≡ record { mark = plus strong; handle = next_handle s.peers } ∷ [])
      → OnTable o (peer_gripped s.peers q)
  grip-goes x o None n f g = stays o says.Null n
  grip-goes x o (Some q) n f g = test-cases (OnTable o) (handles_full s.peers) _ _
      (stays o says.Full f)
      (issues o _ _ (g _ _ _) refl (names-grown s.peers.names s.table names _))

  -- a global name
  module _ (x : Op) (strength : Strength) (p : (r : Reply) → (r ≡ says.Taken) ⊎ (r ≡ says.Full) ⊎ (r ≡ says.Empty) → changes s x r ≡ [])
      (g : (h : ℕ) → changes s x (says.H record { 0 = h }) ≡ record { mark = plus strength; handle = h } ∷ []) where
    given-goes : (name q : ℕ) (o : Option ℕ) → OnTable x (name_given s.peers name q strength o)
    given-goes name q (Some h) = stays x says.Taken (p says.Taken (inl refl))
    given-goes name q None = test-cases (OnTable x) (handles_full s.peers) _ _
        (stays x says.Full (p says.Full (inr (inl refl))))
        (issues x _ (record { peer = q; hold = raw; strength = strength }) (g (next_handle s.peers)) refl
        (names-given s.peers.names s.table names name _ _ (let l = k.handles.places in omega (arith, l))))

    global-goes : (name v : ℕ) → OnTable x (elim (slot s.peers.heap.vars v) [ None ↦ answer says.Empty s.peers | Some q ↦ name_given s.peers name q strength (slot s.peers.names name) ])
    global-goes name v = option-cases (OnTable x) _ _ (slot s.peers.heap.vars v) (stays x says.Empty (p says.Empty (inr (inr refl)))) (λ q. given-goes name q (slot s.peers.names name))

  -- a name is freed, and its handle leaves the table
  unglobal-goes : (u : GName) (o : Option ℕ) → slot s.peers.names u.0 ≡ o
      → Goes s (on_table (untabled s o) (freed_by s.peers u.0 o)).state.peers (on_table (untabled s o) (freed_by s.peers u.0 o)).state.table (op.Line (act.UnGlobal u)) (freed_by s.peers u.0 o).reply
  unglobal-goes u None e = stays (op.Line (act.UnGlobal u)) says.Unset refl
  unglobal-goes u (Some h) e =
      let gone : PeerReplay = record s { table = numbered_set s.table h None } in
      let t = names.tabled u.0 h e in
      let r = k.handles.named h (slot-Contains s.peers.names u.0 h e) in
      let of_one : t.0.strength ≡ r.0.strength = k.handles.raws h t.0 r.0 t.1 r.1 r.2 in
      let same = table-still gone (record s.peers { names = set s.peers.names u.0 None }) refl in
      let its : changes s (op.Line (act.UnGlobal u)) says.Ok ≡ record { mark = minus r.0.strength; handle = h } ∷ [] = ap (unnamed s) e
      ∙ ap (λ (z : Option Issued). elim z [ None ↦ [] | Some i ↦ record { mark = minus i.strength; handle = h } ∷ [] ]) r.1 in
      record {
        follows = by-changes s.peers.issued (on_table gone (answer says.Ok (record s.peers { names = set s.peers.names u.0 None }))).state.table _ _ its
            (subst (λ z. Follows s.peers.issued s.peers.issued s.table z (record { mark = minus r.0.strength; handle = h } ∷ []))
            (sym same) (leaves s.peers.issued s.table k.handles.places h t.0 t.1 r.0.strength of_one));
        names = subst (λ z. NamesInvariant (set s.peers.names u.0 None) z) (sym same) (names-freed s.peers.names s.table names u.0 h e);
      }

  brought : (a : Answered PeerReplay) (r : Reply) (o : Op) → Goes s a.state.peers a.state.table o a.reply → Goes s (bring_by a r).state.peers (bring_by a r).state.table o (bring_by a r).reply
  brought a (says.P p) o c = c
  brought a _ o c = c

  module _ (x : Op) (p : (r : Reply) → changes s x r ≡ []) where
    read-goes : (v : ℕ) (o : Option ℕ) → OnTable x (peer_read s.peers v o)
    read-goes v None = stays x says.Gone (p says.Gone)
    read-goes v (Some q) = still x _ (p _) refl refl

    wread-goes : (v name : ℕ) → OnTable x (name_read (table_target s) s.peers v name)
    wread-goes v name = option-cases (OnTable x) _ _ (slot s.peers.names name) (stays x says.Unset (p says.Unset)) (λ h. read-goes v (table_target s h))

    land-goes : (j : ℕ) (o : Option ℕ) → OnTable x (landed s.peers j o)
    land-goes j None = stays x says.Gone (p says.Gone)
    land-goes j (Some q) = still x _ (p _) refl refl

    moved-goes : (a : Answered Heap) → OnTable x (on_peer_heap s.peers a)
    moved-goes a = still x (on_peer_heap s.peers a) (p a.reply) refl refl

    -- neither the peers nor the table change
    here : (r : Reply) → Goes s s.peers s.table x r
    here r = record { follows = by-changes s.peers.issued s.table _ [] (p r) (stays-so s.peers.issued s.peers.issued s.table s.table refl refl); names = names }

  line-goes : (t : ℕ) (a : Act) → Goes s (peer_thread_line s t a).state.peers (peer_thread_line s t a).state.table (op.Line a) (peer_thread_line s t a).reply
  line-goes t (act.NewPeer v n) = test-cases (OnTable (op.Line (act.NewPeer v n))) (is_full s.peers.heap.fields) _ _
      (stays (op.Line (act.NewPeer v n)) says.Full refl)
      (still (op.Line (act.NewPeer v n)) _ refl refl refl)
  line-goes t (act.Global g v) = global-goes (op.Line (act.Global g v)) strong
      (λ r c. elim c [ inl e ↦ by-refusal r _ e refl | inr d ↦ elim d [ inl e ↦ by-refusal r _ e refl | inr e ↦ by-refusal r _ e refl ] ]) (λ h. refl) g.0 (place t v.0)
    where
      by-refusal : (r q : Reply) → r ≡ q → changes s (op.Line (act.Global g v)) q ≡ [] → changes s (op.Line (act.Global g v)) r ≡ []
      by-refusal r q e c = subst (λ z. changes s (op.Line (act.Global g v)) z ≡ []) (sym e) c
  line-goes t (act.WGlobal g v) = global-goes (op.Line (act.WGlobal g v)) weak
      (λ r c. elim c [ inl e ↦ by-refusal r _ e refl | inr d ↦ elim d [ inl e ↦ by-refusal r _ e refl | inr e ↦ by-refusal r _ e refl ] ]) (λ h. refl) g.0 (place t v.0)
    where
      by-refusal : (r q : Reply) → r ≡ q → changes s (op.Line (act.WGlobal g v)) q ≡ [] → changes s (op.Line (act.WGlobal g v)) r ≡ []
      by-refusal r q e c = subst (λ z. changes s (op.Line (act.WGlobal g v)) z ≡ []) (sym e) c
  line-goes t (act.UnGlobal g) = unglobal-goes g (slot s.peers.names g.0) refl
  line-goes t (act.WRead v g) = brought (on_table s (peer_line (table_target s) s.peers t (act.WRead v g)))
      (peer_line (table_target s) s.peers t (act.WRead v g)).reply (op.Line (act.WRead v g)) (wread-goes (op.Line (act.WRead v g)) (λ r. refl) (place t v.0) g.0)
  line-goes t a = moved-goes (op.Line a) (λ r. refl) (heap_line peer_name s.peers.heap t a)

  sliced-goes : (x : Option Marking) (t : Thread) (n m : ℕ) (closure : List ℕ)
      → Goes s (sliced s x t n closure).state.peers (sliced s x t n closure).state.table (op.Line (act.Slice m)) (sliced s x t n closure).reply
  sliced-goes None t n m closure = here (op.Line (act.Slice m)) (λ r. refl) says.NoMark
  sliced-goes (Some mk) t n m closure = test-cases (λ (a : Answered PeerReplay). Goes s a.state.peers a.state.table (op.Line (act.Slice m)) a.reply) (is_thread t mk.by) _ _
      (here (op.Line (act.Slice m)) (λ r. refl) _)
      (here (op.Line (act.Slice m)) (λ r. refl) _)

  begun-goes : (x : Option Marking) (t : Thread) → Goes s (begun s x t).state.peers (begun s x t).state.table op.Begin (begun s x t).reply
  begun-goes None t = here op.Begin (λ r. refl) _
  begun-goes (Some mk) t = here op.Begin (λ r. refl) _

  swept-goes : (x : Option Marking) (t : Thread) (freed : List ℕ) → Goes s (swept s x t freed).state.peers (swept s x t freed).state.table op.Sweep (swept s x t freed).reply
  swept-goes None t freed = here op.Sweep (λ r. refl) says.NoMark
  swept-goes (Some mk) t freed = test-cases (λ (a : Answered PeerReplay). Goes s a.state.peers a.state.table op.Sweep a.reply) (is_thread t C || is_thread t mk.by) _ _
      (record { follows = sweeps freed s.peers.issued s.table k.handles.places; names = names-swept s.peers.names s.table names freed s.peers.issued k.handles.places })
      (here op.Sweep (λ r. refl) _)

  -- a held handle has no name
  not-named : (h : ℕ) → IsHeld s h → (g : ℕ) → slot s.peers.names g ≡ Some h → ⊥
  not-named h w g e =
      let r = k.handles.named h (slot-Contains s.peers.names g h e) in
      held-raw r.0 (subst (λ (z : Issued). z.hold ≡ held) (issued-same s.peers.issued h h w.0 r.0 refl w.1 r.1) w.2) r.2

  gone : (o : Op) (r : Reply) (h : ℕ) (x : Strength) → changes s o r ≡ record { mark = minus x; handle = h } ∷ [] → HasStrength s h x → IsHeld s h → Goes s s.peers (numbered_set s.table h None) o r
  gone o r h x c w held_one = record {
    follows = by-changes s.peers.issued (numbered_set s.table h None) _ _ c (leaves s.peers.issued s.table k.handles.places h w.0 w.1 x w.2);
    names = names-gone s.peers.names s.table names h (not-named h held_one);
  }

  restored-goes : (n : HNum) (x : Option TableRow) → HasStrength s n.0 weak → IsHeld s n.0 → row_of s n.0 ≡ x → (row : TableRow)
      → row_of s n.0 ≡ Some row → Goes s (restored_by s n.0 x).state.peers (restored_by s n.0 x).state.table (op.Restore n) (restored_by s n.0 x).reply
  restored-goes n x w held_one e row q = restored-cases (λ a. Goes s a.state.peers a.state.table (op.Restore n) a.reply) s n.0 x
      (λ f. absurd (none_some row (sym f ∙ (sym e ∙ q))))
      (λ y f c. gone (op.Restore n) says.Cleared n.0 weak refl w held_one)
      (λ f. gone (op.Restore n) says.Cleared n.0 weak refl w held_one)
      (λ y p f c d. record {
        follows = renews s.peers.issued s.table k.handles.places n.0 w.0 w.1 w.2 (record { peer = p; hold = held; strength = strong }) refl;
        names = names-grown s.peers.names (numbered_set s.table n.0 None) (names-gone s.peers.names s.table names n.0 (not-named n.0 held_one)) _;
      })

  mirrored-goes : (n : ℕ) (cites : Option ℕ) (refs : List (End × End)) (o : Op) (r : Reply)
      → ((q : Reply) → changes s o q ≡ []) → Goes s (mirrored s n cites refs).peers (mirrored s n cites refs).table o r
  mirrored-goes n None refs o r c = here o c r
  mirrored-goes n (Some snap) refs o r c = here o c r

  pub peer-goes : (t : Thread) (o : Op) (cites : Option ℕ) (told : Told) → PeerAllows s t o cites told
      → ((h : HNum) → o ≡ op.Release h → HasStrength s h.0 strong) → ((h : HNum) → o ≡ op.Restore h → HasStrength s h.0 weak)
      → Goes s (peer_answer s t o cites told).state.peers (peer_answer s t o cites told).state.table o (peer_answer s t o cites told).reply
  peer-goes t (op.Line (act.Slice n)) cites (slice_of closure) w l m = sliced-goes s.marking t n n closure
  peer-goes t (op.Line (act.Slice n)) cites _ w l m = sliced-goes s.marking t n n []
  peer-goes t (op.Line a) cites told w l m = line-goes (thread_number t) a
  peer-goes t (op.Make sort n) cites told w l m = pair-goes sort n
  peer-goes t (op.Land h x) cites told w l m = brought (on_table s (landed s.peers x.0 (table_target s h.0)))
      (landed s.peers x.0 (table_target s h.0)).reply (op.Land h x) (land-goes (op.Land h x) (λ r. refl) x.0 (table_target s h.0))
  peer-goes t (op.Grip x) cites told w l m = grip-goes x.0 (op.Grip x) (slot s.peers.heap.statics x.0) refl refl (λ p sort n. refl)
  peer-goes t (op.Release h) cites nothing w l m = gone (op.Release h) says.Ok h.0 strong refl (l h refl) w.is_held
  peer-goes t (op.Mirror n) cites (references_of refs) w l m = mirrored-goes n.0 cites refs (op.Mirror n) _ (λ r. refl)
  peer-goes t (op.Weaken h) cites nothing w l m =
      let there : IsTabled s.table h.0 (record { strength = strong; cleared = false }) = slot-named (numbered_at s.table h.0) _ w.strong_now in
      record { follows = weakens s.peers.issued s.table k.handles.places h.0 _ there refl; names = names-reset s.peers.names s.table names h.0 _ _ there }
  peer-goes t op.Begin cites told w l m = begun-goes s.marking t
  peer-goes t op.Sweep cites (sweep_of freed) w l m = swept-goes s.marking t freed
  peer-goes t op.Sweep cites _ w l m = swept-goes s.marking t []
  peer-goes t (op.Restore h) cites nothing w l m = restored-goes h (row_of s h.0) (m h refl) (k.references.weakened w.mirror h.0 w.stands w.weakened) refl w.row w.tabled
  peer-goes t (op.Clear n) cites nothing w l m = here (op.Clear n) (λ r. refl) says.Ok
  peer-goes t _ cites told w l m = absurd w
