-- Each edge of the joint machine is drawn, and each root that isn't freed has its box; so what is reached has a path.
use Rattle.std.proofs.Common.{◌≡◌, ℕ, zero, suc, ◌⊎◌, inl, inr, Bool, true, false, ◌&&◌, not, if◌then◌else◌, List, [], ◌∷◌, ◌++◌, length, Option, Some, None, refl, sym, ap, subst, ◌∙◌}
use Rattle.std.proofs.Common.{arith}
use Rattle.std.specs.Prelude.{Contains}
use Rattle.std.specs.List.{range_with_len}
use Rattle.std.proofs.lemmas.Option.{slice_get_within}
use Rattle.joint_machine.specs.Heaps.{Heap, IsLive, HasField, fields_of, numbered_at, slot}
use Rattle.joint_machine.specs.Joint.{Graph, Row, object, peer, IsJoined, IsJointRoot, IsRawRoot, IsLooseRoot, IsReachedIn, JointEdge}
use Rattle.joint_machine.specs.Managed.{Holds, handle_of}
use Rattle.joint_machine.specs.Peers.{Hold, Strength, Issued, is_held, is_strong, peer_of}
use Rattle.joint_machine.specs.Walks.{Walks}
use Rattle.joint_machine.proofs.HeapLemmas.{Holds-handle_of}
use Rattle.joint_machine.proofs.Members.{Contains-nil, Contains-here, Contains-flat_map, Contains-flat_map_cases, at-Contains}
use Rattle.joint_machine.proofs.Numbered.{numbered-within}
use Rattle.joint_laws.proofs.DriverPeerSteps.{holds-handle_of}
use Rattle.joint_replay.specs.Plain.{is_live, kept_target}
use Rattle.joint_replay.proofs.Finding.{live-kept}
use Rattle.joint_replay.proofs.Flags.{is_live-exact}
use Rattle.std.proofs.lemmas.Map.Views.{Contains-from_any}
use Rattle.std.proofs.lemmas.Bool.{eqb-true}
use Rattle.heap_views.specs.Views.{View}
use Rattle.heap_pictures.specs.declared.pictures.Arrow.{Arrow}
use Rattle.heap_pictures.specs.declared.pictures.Arrow.TheVariants as arrow
use Rattle.heap_pictures.specs.declared.pictures.Side.{Side}
use Rattle.heap_pictures.specs.declared.pictures.Side.TheVariants.{Managed as Objects, Peers}
use Rattle.heap_pictures.specs.declared.pictures.Slots.{Slots}
use Rattle.heap_pictures.specs.declared.pictures.Slots.TheVariants as slots
use Rattle.heap_pictures.specs.declared.pictures.Spot.{Spot}
use Rattle.heap_pictures.specs.declared.pictures.Spot.TheVariants.{Object, Peer, Handle, Slot}
use Rattle.heap_pictures.specs.declared.pictures.Style.TheVariants.{Full}
use Rattle.heap_pictures.specs.Drawing.{all_slots, arrows_of, box_arrow, box_of, boxes, drawing_of, field_arrow, field_arrows, grip_style, handle_list, held_arrow, held_style, is_box, is_tabled}
use Rattle.heap_pictures.specs.Drawing.{is_there, numbers_to, object_arrows, owned, ref_arrows, slot_arrow, slot_arrows, spot_of, target_of, tie, ties}
use Rattle.heap_pictures.specs.Flags.{is_in}
use Rattle.picture_laws.specs.Laws.{IsLiveRow}
use Rattle.picture_laws.specs.Paths.{BeginsAt, IsPathTo, IsWay, Leads, spot_of_row}
use Rattle.picture_laws.proofs.Nodes.{in_range, one_in, end_walk, in1, in2, in3, in4, in5}

if_true : {A : Type 0} (b : Bool) (xs ys : A) → b ≡ true → (if b then xs else ys) ≡ xs
if_true true xs ys e = refl
if_true false xs ys e = cc

and_true : (a b : Bool) → a ≡ true → b ≡ true → a && b ≡ true
and_true true b e f = f
and_true false b e f = cc

-- a field that holds a row has an arrow
field_drawn : (side : Side) (h : Heap) (x y : ℕ) → HasField h x y → (i : ℕ) × Contains (field_arrows side h) (arrow.Field (spot_of side x) i (spot_of side y))
field_drawn side h x y f =
    let t = at-Contains (fields_of h x) (Some y) f.field in
    let i = t.0 in
    let a = arrow.Field (spot_of side x) i (spot_of side y) in
    let here : slot (fields_of h x) i ≡ Some y = ap (λ (o : Option (Option ℕ)). elim o [ None ↦ None | Some z ↦ z ]) t.1 in
    let kept : kept_target h (slot (fields_of h x) i) ≡ Some y = ap (kept_target h) here ∙ live-kept h y f.there in
    let one : Contains (field_arrow side h x i) a = subst (λ (o : Option ℕ). Contains (elim o [ None ↦ [] | Some z ↦ arrow.Field (spot_of side x) i (spot_of side z) ∷ [] ]) a)
    (sym kept) (Contains-here a []) in
    let row = Contains-flat_map (field_arrow side h x) (range_with_len 0 (length (fields_of h x))) i a
    (in_range 0 (length (fields_of h x)) i (omega arith) (let l = slice_get_within (fields_of h x) i (Some y) t.1 in omega (arith, l))) one in
    let live : Contains (object_arrows side h x) a = subst (λ (xs : List Arrow). Contains xs a) (sym (if_true (is_live h x) _ _ ((is_live-exact h x).1 f.live))) row in
    (i, Contains-flat_map (object_arrows side h) (numbers_to (length h.fields)) x a (in_range 1 (length h.fields) x f.live.made.0 (omega (arith, f.live.made.1))) live)

module _ (v : View) (len : length v.joint.graph.managed.held ≡ length v.joint.graph.managed.heap.fields) where
  abbrev g : Graph
  g = v.joint.graph

  -- where each kind of arrow stands among all
  in_objects : (a : Arrow) → Contains (field_arrows Objects g.managed.heap) a → Contains (arrows_of v) a
  in_objects a c = in1 (field_arrows Objects g.managed.heap) (field_arrows Peers g.peers.heap) (ties v) (all_slots v.joint) (boxes v.joint) (ref_arrows v) a c

  in_peers : (a : Arrow) → Contains (field_arrows Peers g.peers.heap) a → Contains (arrows_of v) a
  in_peers a c = in2 (field_arrows Objects g.managed.heap) (field_arrows Peers g.peers.heap) (ties v) (all_slots v.joint) (boxes v.joint) (ref_arrows v) a c

  in_ties : (a : Arrow) → Contains (ties v) a → Contains (arrows_of v) a
  in_ties a c = in3 (field_arrows Objects g.managed.heap) (field_arrows Peers g.peers.heap) (ties v) (all_slots v.joint) (boxes v.joint) (ref_arrows v) a c

  in_slots : (a : Arrow) → Contains (all_slots v.joint) a → Contains (arrows_of v) a
  in_slots a c = in4 (field_arrows Objects g.managed.heap) (field_arrows Peers g.peers.heap) (ties v) (all_slots v.joint) (boxes v.joint) (ref_arrows v) a c

  in_boxes : (a : Arrow) → Contains (boxes v.joint) a → Contains (arrows_of v) a
  in_boxes a c = in5 (field_arrows Objects g.managed.heap) (field_arrows Peers g.peers.heap) (ties v) (all_slots v.joint) (boxes v.joint) (ref_arrows v) a c

  -- a path of one arrow from its box
  one : (a : Arrow) (b y : Spot) → Contains (arrows_of v) a → BeginsAt a b → Leads a b y → IsPathTo (drawing_of v) y
  one a b y c s l = record { root = b; starts = (a, c, s); reaches = record { rows = y ∷ []; walk = ((a, c, l), refl) } }

  slot_drawn : (s : Slots) (xs : List (Option ℕ)) (x : ℕ) → Contains xs (Some x) → is_there v.joint (target_of s x) ≡ true
      → ((a : Arrow) → Contains (slot_arrows v.joint s xs) a → Contains (all_slots v.joint) a) → IsPathTo (drawing_of v) (target_of s x)
  slot_drawn s xs x c t into =
      let r = at-Contains xs (Some x) c in
      let i = r.0 in
      let a = arrow.Names (Slot s i) (target_of s x) in
      let here : slot xs i ≡ Some x = ap (λ (o : Option (Option ℕ)). elim o [ None ↦ None | Some z ↦ z ]) r.1 in
      let named : Contains (slot_arrow v.joint s i (slot xs i)) a = subst (λ (o : Option ℕ). Contains (slot_arrow v.joint s i o) a) (sym here) (one_in (is_there v.joint (target_of s x)) a t) in
      one a (Slot s i) (target_of s x)
      (in_slots a (into a (Contains-flat_map (λ i. slot_arrow v.joint s i (slot xs i)) (range_with_len 0 (length xs)) i a
      (in_range 0 (length xs) i (omega arith) (let l = slice_get_within xs i (Some x) r.1 in omega (arith, l))) named)))
      refl (refl, refl)

  -- a handle that is a box by itself leads to its peer
  box_drawn : (h : ℕ) (i : Issued) → numbered_at g.peers.issued h ≡ Some i → numbered_at g.removed h ≡ Some false
      → is_box (owned v.joint) h i ≡ true → grip_style i ≡ Full → IsLive g.peers.heap i.peer → IsPathTo (drawing_of v) (Peer i.peer)
  box_drawn h i e r b st live =
      let a = arrow.Grips h i.peer Full in
      let tabled : is_tabled v.joint h ≡ true = ap (λ (o : Option Bool). elim o [ None ↦ false | Some gone ↦ not gone ]) r in
      let grips : Contains (box_arrow v.joint h i) a =
      subst (λ (xs : List Arrow). Contains xs a) (sym (if_true (is_live g.peers.heap i.peer) _ _ ((is_live-exact g.peers.heap i.peer).1 live)))
      (subst (λ s. Contains (arrow.Grips h i.peer s ∷ []) a) (sym st) (Contains-here a [])) in
      let drawn : Contains (box_of v.joint (owned v.joint) h (Some i)) a = subst (λ (xs : List Arrow). Contains xs a)
      (sym (if_true (is_tabled v.joint h && is_box (owned v.joint) h i) _ _ (and_true _ _ tabled b))) grips in
      let w = numbered-within g.peers.issued h i e in
      one a (Handle h) (Peer i.peer)
      (in_boxes a (Contains-flat_map (λ h. box_of v.joint (owned v.joint) h (numbered_at g.peers.issued h))
      (numbers_to (length g.peers.issued)) h a (in_range 1 (length g.peers.issued) h w.0 (omega (arith, w.1)))
      (subst (λ (o : Option Issued). Contains (box_of v.joint (owned v.joint) h o) a) (sym e) drawn)))
      refl (refl, refl)

  -- a handle that no managed object holds isn't one of those that are held
  not-owned : (h : ℕ) → ((m : ℕ) → Holds g.managed m h → ⊥) → is_in (owned v.joint) h ≡ false
  not-owned h n = by (is_in (owned v.joint) h) refl
    where
      holds : (m : ℕ) (o : Option ℕ) → handle_of g.managed m ≡ o → Contains (elim o [ None ↦ [] | Some k ↦ k ∷ [] ]) h → Holds g.managed m h
      holds m None e c = absurd (Contains-nil h c)
      holds m (Some k) e (zero, l, f) = holds-handle_of g.managed m h len (e ∙ ap Some f)
      holds m (Some k) e (suc i, l, f) = absurd (omega (arith, l))

      by : (b : Bool) → is_in (owned v.joint) h ≡ b → is_in (owned v.joint) h ≡ false
      by false e = e
      by true e =
          let r = Contains-flat_map_cases (handle_list v.joint) (numbers_to (length g.managed.heap.fields)) h (Contains-from_any eqb-true h (owned v.joint) e) in
          absurd (n r.0 (holds r.0 (handle_of g.managed r.0) refl r.2))

  raw_drawn : (p : ℕ) → IsLive g.peers.heap p → IsRawRoot g p → IsPathTo (drawing_of v) (Peer p)
  raw_drawn p live w =
      let b : is_box (owned v.joint) w.handle w.row ≡ true = ap (λ (hd : Hold). if is_held hd then not (is_in (owned v.joint) w.handle) else true) w.raw_hold in
      let st : grip_style w.row ≡ Full = ap (λ (hd : Hold). if is_held hd then Full else if is_strong w.row.strength then Full else _) w.raw_hold
      ∙ ap (λ (s : Strength). if is_strong s then Full else _) w.strong_made in
      subst (λ q. IsPathTo (drawing_of v) (Peer q)) w.leads (box_drawn w.handle w.row w.is_handle.issued w.is_handle.kept b st (subst (IsLive g.peers.heap) (sym w.leads) live))

  loose_drawn : (p : ℕ) → IsLive g.peers.heap p → IsLooseRoot g p → IsPathTo (drawing_of v) (Peer p)
  loose_drawn p live w =
      let n = not-owned w.handle w.loose in
      let b : is_box (owned v.joint) w.handle w.row ≡ true = ap (λ (hd : Hold). if is_held hd then not (is_in (owned v.joint) w.handle) else true) w.held_hold ∙ ap not n in
      let st : grip_style w.row ≡ Full = ap (λ (hd : Hold). if is_held hd then Full else if is_strong w.row.strength then Full else _) w.held_hold in
      subst (λ q. IsPathTo (drawing_of v) (Peer q)) w.leads (box_drawn w.handle w.row w.is_handle.issued w.is_handle.kept b st (subst (IsLive g.peers.heap) (sym w.leads) live))

  -- a live root has a path
  root_drawn : (x : Row) → IsLiveRow v.joint x → IsJointRoot g x → IsPathTo (drawing_of v) (spot_of_row x)
  root_drawn (object m) l (inl (inl c)) = slot_drawn slots.ManagedVars g.managed.heap.vars m c ((is_live-exact g.managed.heap m).1 l)
      (λ a k. in1 (slot_arrows v.joint slots.ManagedVars g.managed.heap.vars) (slot_arrows v.joint slots.ManagedStatics g.managed.heap.statics) (slot_arrows v.joint slots.Pins g.managed.pins)
      (slot_arrows v.joint slots.PeerVars g.peers.heap.vars) (slot_arrows v.joint slots.PeerStatics g.peers.heap.statics) (slot_arrows v.joint slots.Names g.peers.names) a k)
  root_drawn (object m) l (inl (inr c)) = slot_drawn slots.ManagedStatics g.managed.heap.statics m c ((is_live-exact g.managed.heap m).1 l)
      (λ a k. in2 (slot_arrows v.joint slots.ManagedVars g.managed.heap.vars) (slot_arrows v.joint slots.ManagedStatics g.managed.heap.statics) (slot_arrows v.joint slots.Pins g.managed.pins)
      (slot_arrows v.joint slots.PeerVars g.peers.heap.vars) (slot_arrows v.joint slots.PeerStatics g.peers.heap.statics) (slot_arrows v.joint slots.Names g.peers.names) a k)
  root_drawn (object m) l (inr c) = slot_drawn slots.Pins g.managed.pins m c ((is_live-exact g.managed.heap m).1 l)
      (λ a k. in3 (slot_arrows v.joint slots.ManagedVars g.managed.heap.vars) (slot_arrows v.joint slots.ManagedStatics g.managed.heap.statics) (slot_arrows v.joint slots.Pins g.managed.pins)
      (slot_arrows v.joint slots.PeerVars g.peers.heap.vars) (slot_arrows v.joint slots.PeerStatics g.peers.heap.statics) (slot_arrows v.joint slots.Names g.peers.names) a k)
  root_drawn (peer p) l (inl (inl c)) = slot_drawn slots.PeerVars g.peers.heap.vars p c ((is_live-exact g.peers.heap p).1 l)
      (λ a k. in4 (slot_arrows v.joint slots.ManagedVars g.managed.heap.vars) (slot_arrows v.joint slots.ManagedStatics g.managed.heap.statics) (slot_arrows v.joint slots.Pins g.managed.pins)
      (slot_arrows v.joint slots.PeerVars g.peers.heap.vars) (slot_arrows v.joint slots.PeerStatics g.peers.heap.statics) (slot_arrows v.joint slots.Names g.peers.names) a k)
  root_drawn (peer p) l (inl (inr c)) = slot_drawn slots.PeerStatics g.peers.heap.statics p c ((is_live-exact g.peers.heap p).1 l)
      (λ a k. in5 (slot_arrows v.joint slots.ManagedVars g.managed.heap.vars) (slot_arrows v.joint slots.ManagedStatics g.managed.heap.statics) (slot_arrows v.joint slots.Pins g.managed.pins)
      (slot_arrows v.joint slots.PeerVars g.peers.heap.vars) (slot_arrows v.joint slots.PeerStatics g.peers.heap.statics) (slot_arrows v.joint slots.Names g.peers.names) a k)
  root_drawn (peer p) l (inr (inl w)) = raw_drawn p l w
  root_drawn (peer p) l (inr (inr w)) = loose_drawn p l w

  -- an edge is drawn
  tie_drawn : (m p : ℕ) → IsJoined g m p → (a : Arrow) × Contains (arrows_of v) a × ((x y : Spot) → ((x ≡ Object m) × (y ≡ Peer p)) ⊎ ((x ≡ Peer p) × (y ≡ Object m)) → Leads a x y)
  tie_drawn m p w =
      let h = w.handle in
      let a = arrow.Held m h p (held_style v h) in
      let e = Holds-handle_of g.managed m h w.holds in
      let live : Contains (held_arrow v m h (Some p)) a = subst (λ (xs : List Arrow). Contains xs a)
      (sym (if_true (is_live g.peers.heap p) _ _ ((is_live-exact g.peers.heap p).1 w.live))) (Contains-here a []) in
      let led : Contains (held_arrow v m h (peer_of g.peers.issued h)) a = subst (λ (o : Option ℕ). Contains (held_arrow v m h o) a) (sym w.leads) live in
      let tied : Contains (tie v m) a = subst (λ (o : Option ℕ). Contains (elim o [ None ↦ [] | Some k ↦ held_arrow v m k (peer_of g.peers.issued k) ]) a) (sym e) led in (
        a,
        in_ties a (Contains-flat_map (tie v) (numbers_to (length g.managed.heap.fields)) m a
            (in_range 1 (length g.managed.heap.fields) m w.holds.live.made.0 (omega (arith, w.holds.live.made.1))) tied),
        λ x y o. o,
      )

  edge_drawn : (x y : Row) → JointEdge g x y → IsWay (drawing_of v) (spot_of_row x) (spot_of_row y)
  edge_drawn (object x) (object y) e = (let r = field_drawn Objects g.managed.heap x y e in (arrow.Field (Object x) r.0 (Object y), in_objects _ r.1, (refl, refl)))
  edge_drawn (peer x) (peer y) e = (let r = field_drawn Peers g.peers.heap x y e in (arrow.Field (Peer x) r.0 (Peer y), in_peers _ r.1, (refl, refl)))
  edge_drawn (object m) (peer p) e = (let r = tie_drawn m p e in (r.0, r.1, r.2 (Object m) (Peer p) (inl (refl, refl))))
  edge_drawn (peer p) (object m) e = (let r = tie_drawn m p e in (r.0, r.1, r.2 (Peer p) (Object m) (inr (refl, refl))))

  -- what an edge leads from isn't freed
  live_from : (x y : Row) → JointEdge g x y → IsLiveRow v.joint x
  live_from (object x) (object y) e = e.live
  live_from (peer x) (peer y) e = e.live
  live_from (object m) (peer p) e = e.holds.live
  live_from (peer p) (object m) e = e.live

  walk_drawn : (x : Row) (rows : List Row) (y : Row) → Walks (JointEdge g) x rows y → IsPathTo (drawing_of v) (spot_of_row x) → IsPathTo (drawing_of v) (spot_of_row y)
  walk_drawn x [] y w p = subst (λ z. IsPathTo (drawing_of v) (spot_of_row z)) w p
  walk_drawn x (z ∷ rows) y (e, w) p = walk_drawn z rows y w record {
    root = p.root;
    starts = p.starts;
    reaches = record { rows = p.reaches.rows ++ spot_of_row z ∷ []; walk = end_walk (IsWay (drawing_of v)) p.root (spot_of_row x) (spot_of_row z) p.reaches.rows p.reaches.walk (edge_drawn x z e) };
  }

  from_root : (x : Row) (rows : List Row) (y : Row) → IsJointRoot g x → IsLiveRow v.joint y → Walks (JointEdge g) x rows y → IsPathTo (drawing_of v) (spot_of_row y)
  from_root x [] y s l w = root_drawn y l (subst (IsJointRoot g) w s)
  from_root x (z ∷ rows) y s l (e, w) = walk_drawn x (z ∷ rows) y (e, w) (root_drawn x (live_from x z e) s)

  -- what is reached, and isn't freed, has a path
  pub reached_path : (x : Row) → IsLiveRow v.joint x → IsReachedIn g x → IsPathTo (drawing_of v) (spot_of_row x)
  reached_path x l r = from_root r.root r.reaches.rows x r.starts l r.reaches.walk
