-- Each arrow over which a path goes is an edge of the joint machine, and each box holds one of its roots; so a path
-- leads to what is reached.
use Rattle.std.proofs.Common.{◌≡◌, ℕ, inl, inr, Bool, true, false, ◌&&◌, not, if◌then◌else◌, List, [], ◌∷◌, ◌++◌, length, Option, Some, None, refl, sym, ap, subst, ◌∙◌, arith}
use Rattle.std.specs.Prelude.{Contains, slice_get}
use Rattle.std.specs.List.{range_with_len}
use Rattle.joint_machine.specs.Heaps.{Heap, IsLive, HasField, fields_of, numbered_at, slot}
use Rattle.joint_machine.specs.Joint.{Joint, Graph, Row, object, peer, IsJoined, IsJointRoot, IsReachedIn, JointEdge}
use Rattle.joint_machine.specs.Managed.{Holds, handle_of}
use Rattle.joint_machine.specs.Peers.{Hold, held, raw, Strength, strong, weak, Issued, is_held, is_strong, peer_of}
use Rattle.joint_machine.specs.Walks.{Walks}
use Rattle.joint_machine.proofs.HeapLemmas.{Holds-handle_of}
use Rattle.joint_machine.proofs.Members.{Contains-nil, Contains-cons_cases, Contains-at, Contains-flat_map, Contains-flat_map_cases}
use Rattle.joint_laws.proofs.DriverPeerSteps.{holds-handle_of}
use Rattle.joint_replay.specs.Plain.{is_live, kept_target}
use Rattle.joint_replay.proofs.Finding.{kept-live}
use Rattle.joint_replay.proofs.Flags.{is_live-exact}
use Rattle.std.proofs.lemmas.Map.Views.{list_any-from_Contains}
use Rattle.std.proofs.lemmas.Cmp.{nat_eq_equiv}
use Rattle.heap_views.specs.Views.{View}
use Rattle.heap_pictures.specs.declared.pictures.Arrow.{Arrow}
use Rattle.heap_pictures.specs.declared.pictures.Arrow.TheVariants as arrow
use Rattle.heap_pictures.specs.declared.pictures.Side.{Side}
use Rattle.heap_pictures.specs.declared.pictures.Side.TheVariants.{Managed as Objects, Peers}
use Rattle.heap_pictures.specs.declared.pictures.Slots.{Slots}
use Rattle.heap_pictures.specs.declared.pictures.Slots.TheVariants as slots
use Rattle.heap_pictures.specs.declared.pictures.Spot.{Spot}
use Rattle.heap_pictures.specs.declared.pictures.Spot.TheVariants.{Object, Peer, Handle, Slot, Temporary}
use Rattle.heap_pictures.specs.declared.pictures.Style.{Style}
use Rattle.heap_pictures.specs.declared.pictures.Style.TheVariants.{Full, Weak, Cleared, Gone}
use Rattle.heap_pictures.specs.Drawing.{all_slots, arrows_of, box_of, boxes, drawing_of, field_arrow, field_arrows, grip_style, handle_list, held_arrow, is_box, is_tabled, is_there}
use Rattle.heap_pictures.specs.Drawing.{numbers_to, object_arrows, owned, ref_arrow, ref_arrows, slot_arrow, slot_arrows, spot_of, target_of, tie, ties}
use Rattle.heap_pictures.specs.Flags.{is_in}
use Rattle.picture_laws.specs.Paths.{BeginsAt, IsPathTo, IsWay, Leads, spot_of_row}
use Rattle.picture_laws.proofs.Nodes.{in_range, in_one, end_walk, six_cases}

-- a slot that is filled stands in the list
pub filled : (xs : List (Option ℕ)) (i x : ℕ) → slot xs i ≡ Some x → Contains xs (Some x)
filled xs i x e = by (slice_get xs i) refl e
  where
    by : (o : Option (Option ℕ)) → slice_get xs i ≡ o → (elim o [ None ↦ None | Some y ↦ y ]) ≡ Some x → Contains xs (Some x)
    by None r e = cc
    by (Some y) r e = Contains-at xs i (Some x) (r ∙ ap Some e)

-- what is in a list that stands where a test passes
in_if : {A : Type 0} (b : Bool) (xs : List A) (y : A) → Contains (if b then xs else []) y → (b ≡ true) × Contains xs y
in_if true xs y c = (refl, c)
in_if false xs y c = absurd (Contains-nil y c)

single : {A : Type 0} (x y : A) → Contains (x ∷ []) y → x ≡ y
single x y c = elim (Contains-cons_cases x [] y c) [ inl e ↦ e | inr d ↦ absurd (Contains-nil y d) ]

-- a field's arrow
record FieldShown (side : Side) (h : Heap) (a : Arrow) : Type 0 where
  from : ℕ
  i : ℕ
  to : ℕ
  is : arrow.Field (spot_of side from) i (spot_of side to) ≡ a
  edge : HasField h from to

field_shown : (side : Side) (h : Heap) (a : Arrow) → Contains (field_arrows side h) a → FieldShown side h a
field_shown side h a c =
    let r = Contains-flat_map_cases (object_arrows side h) (numbers_to (length h.fields)) a c in
    let x = r.0 in
    let s = in_if (is_live h x) _ a r.2 in
    let t = Contains-flat_map_cases (field_arrow side h x) (range_with_len 0 (length (fields_of h x))) a s.1 in
    by x t.0 ((is_live-exact h x).0 s.0) (kept_target h (slot (fields_of h x) t.0)) refl t.2
  where
    by : (x i : ℕ) → IsLive h x → (o : Option ℕ) → kept_target h (slot (fields_of h x) i) ≡ o
        → Contains (elim o [ None ↦ [] | Some y ↦ arrow.Field (spot_of side x) i (spot_of side y) ∷ [] ]) a → FieldShown side h a
    by x i l None e c = absurd (Contains-nil a c)
    by x i l (Some y) e c =
        let k = kept-live h (slot (fields_of h x) i) y e in
        record { from = x; i = i; to = y; is = single _ a c; edge = record { live = l; field = filled (fields_of h x) i y k.0; there = k.1 } }

-- what an arrow says of the joint machine
abbrev pub Target : Graph → Spot → Type 0
Target g (Object m) = IsJointRoot g (object m)
Target g (Peer p) = IsJointRoot g (peer p)
Target g _ = Unit {0}

abbrev pub IsFree : Spot → Type 0
IsFree (Object m) = ⊥
IsFree (Peer p) = ⊥
IsFree _ = Unit {0}

abbrev pub Sound : Graph → Arrow → Type 0
Sound g (arrow.Field from i to) = (x : Row) × (y : Row) × (from ≡ spot_of_row x) × (to ≡ spot_of_row y) × JointEdge g x y
Sound g (arrow.Held m h p s) = IsJoined g m p
Sound g (arrow.Names from to) = IsFree from × Target g to
Sound g (arrow.Grips h p Full) = IsJointRoot g (peer p)
Sound g _ = Unit {0}

tabled : (j : Joint) (h : ℕ) → is_tabled j h ≡ true → numbered_at j.graph.removed h ≡ Some false
tabled j h e = by (numbered_at j.graph.removed h) refl e
  where
    by : (o : Option Bool) → numbered_at j.graph.removed h ≡ o → (elim o [ None ↦ false | Some gone ↦ not gone ]) ≡ true → numbered_at j.graph.removed h ≡ Some false
    by None r e = cc
    by (Some true) r e = cc
    by (Some false) r e = r

both : (a b : Bool) → a && b ≡ true → (a ≡ true) × (b ≡ true)
both true b e = (refl, e)
both false b e = cc

-- a handle that a managed object holds is one of those that are held
pub owned-holds : (j : Joint) (m h : ℕ) → Holds j.graph.managed m h → is_in (owned j) h ≡ true
owned-holds j m h w =
    list_any-from_Contains nat_eq_equiv h (owned j)
    (Contains-flat_map (handle_list j) (numbers_to (length j.graph.managed.heap.fields)) m h (in_range 1 (length j.graph.managed.heap.fields) m w.live.made.0 (omega (arith, w.live.made.1)))
    (subst (λ (o : Option ℕ). Contains (elim o [ None ↦ [] | Some g ↦ g ∷ [] ]) h) (sym (Holds-handle_of j.graph.managed m h w)) (0, omega arith, refl)))

module _ (v : View) (len : length v.joint.graph.managed.held ≡ length v.joint.graph.managed.heap.fields) where
  abbrev g : Graph
  g = v.joint.graph

  objects_sound : (a : Arrow) → FieldShown Objects g.managed.heap a → Sound g a
  objects_sound a f = subst (Sound g) f.is (object f.from, object f.to, refl, refl, f.edge)

  peers_sound : (a : Arrow) → FieldShown Peers g.peers.heap a → Sound g a
  peers_sound a f = subst (Sound g) f.is (peer f.from, peer f.to, refl, refl, f.edge)

  ties_sound : (a : Arrow) → Contains (ties v) a → Sound g a
  ties_sound a c =
      let r = Contains-flat_map_cases (tie v) (numbers_to (length g.managed.heap.fields)) a c in
      by r.0 (handle_of g.managed r.0) refl r.2
    where
      shown : (m h p : ℕ) → handle_of g.managed m ≡ Some h → peer_of g.peers.issued h ≡ Some p → (b : Bool) → is_live g.peers.heap p ≡ b
          → (s t : Style) → Contains (if b then arrow.Held m h p s ∷ [] else arrow.Faded m h t ∷ []) a → Sound g a
      shown m h p e f true l s t c =
          subst (Sound g) (single _ a c) record { handle = h; holds = holds-handle_of g.managed m h len e; leads = f; live = (is_live-exact g.peers.heap p).0 l }
      shown m h p e f false l s t c = subst (Sound g) (single _ a c) tt

      to : (m h : ℕ) → handle_of g.managed m ≡ Some h → (o : Option ℕ) → peer_of g.peers.issued h ≡ o → Contains (held_arrow v m h o) a → Sound g a
      to m h e None f c = absurd (Contains-nil a c)
      to m h e (Some p) f c = shown m h p e f (is_live g.peers.heap p) refl _ _ c

      by : (m : ℕ) (o : Option ℕ) → handle_of g.managed m ≡ o → Contains (elim o [ None ↦ [] | Some h ↦ held_arrow v m h (peer_of g.peers.issued h) ]) a → Sound g a
      by m None e c = absurd (Contains-nil a c)
      by m (Some h) e c = to m h e (peer_of g.peers.issued h) refl c

  slots_sound : (s : Slots) (xs : List (Option ℕ)) → ((x : ℕ) → Contains xs (Some x) → Target g (target_of s x)) → (a : Arrow) → Contains (slot_arrows v.joint s xs) a → Sound g a
  slots_sound s xs root a c =
      let r = Contains-flat_map_cases (λ i. slot_arrow v.joint s i (slot xs i)) (range_with_len 0 (length xs)) a c in
      by r.0 (slot xs r.0) refl r.2
    where
      by : (i : ℕ) (o : Option ℕ) → slot xs i ≡ o → Contains (slot_arrow v.joint s i o) a → Sound g a
      by i None e c = absurd (Contains-nil a c)
      by i (Some x) e c = (let t = in_one (is_there v.joint (target_of s x)) (arrow.Names (Slot s i) (target_of s x)) a c in subst (Sound g) t.1 (tt, root x (filled xs i x e)))

  all_slots_sound : (a : Arrow) → Contains (all_slots v.joint) a → Sound g a
  all_slots_sound a c = six_cases (slot_arrows v.joint slots.ManagedVars g.managed.heap.vars)
      (slot_arrows v.joint slots.ManagedStatics g.managed.heap.statics) (slot_arrows v.joint slots.Pins g.managed.pins)
      (slot_arrows v.joint slots.PeerVars g.peers.heap.vars) (slot_arrows v.joint slots.PeerStatics g.peers.heap.statics) (slot_arrows v.joint slots.Names g.peers.names) a
      (slots_sound slots.ManagedVars g.managed.heap.vars (λ x k. inl (inl k)) a)
      (slots_sound slots.ManagedStatics g.managed.heap.statics (λ x k. inl (inr k)) a)
      (slots_sound slots.Pins g.managed.pins (λ x k. inr k) a)
      (slots_sound slots.PeerVars g.peers.heap.vars (λ x k. inl (inl k)) a)
      (slots_sound slots.PeerStatics g.peers.heap.statics (λ x k. inl (inr k)) a)
      (slots_sound slots.Names g.peers.names (λ x k. tt) a)
      c

  boxes_sound : (a : Arrow) → Contains (boxes v.joint) a → Sound g a
  boxes_sound a c =
      let r = Contains-flat_map_cases (λ h. box_of v.joint (owned v.joint) h (numbered_at g.peers.issued h)) (numbers_to (length g.peers.issued)) a c in
      by r.0 (numbered_at g.peers.issued r.0) refl r.2
    where
      root : (h : ℕ) (i : Issued) → numbered_at g.peers.issued h ≡ Some i → numbered_at g.removed h ≡ Some false
          → is_box (owned v.joint) h i ≡ true → (hd : Hold) → i.hold ≡ hd → (st : Strength) → i.strength ≡ st
          → Sound g (arrow.Grips h i.peer (if is_held hd then Full else if is_strong st then Full else Weak))
      root h i e r b held eh st es = inr (inr record {
        handle = h;
        row = i;
        is_handle = record { issued = e; kept = r };
        held_hold = eh;
        loose = λ m w. (let o = owned-holds v.joint m h w in let n : (if is_held i.hold then not (is_in (owned v.joint) h) else true) ≡ true = b in let k = rw (eh, o) at n in cc);
        leads = refl;
      })
      root h i e r b raw eh strong es = inr (inl record { handle = h; row = i; is_handle = record { issued = e; kept = r }; raw_hold = eh; strong_made = es; leads = refl })
      root h i e r b raw eh weak es = tt

      box : (h : ℕ) (i : Issued) → numbered_at g.peers.issued h ≡ Some i → numbered_at g.removed h ≡ Some false → is_box (owned v.joint) h i ≡ true
          → (b : Bool) → Contains (if b then arrow.Grips h i.peer (grip_style i) ∷ [] else arrow.Stub h ∷ []) a → Sound g a
      box h i e r b true c = subst (Sound g) (single _ a c) (root h i e r b i.hold refl i.strength refl)
      box h i e r b false c = subst (Sound g) (single _ a c) tt

      by : (h : ℕ) (o : Option Issued) → numbered_at g.peers.issued h ≡ o → Contains (box_of v.joint (owned v.joint) h o) a → Sound g a
      by h None e c = absurd (Contains-nil a c)
      by h (Some i) e c =
          let t = in_if (is_tabled v.joint h && is_box (owned v.joint) h i) _ a c in
          let p = both _ _ t.0 in
          box h i e (tabled v.joint h p.0) p.1 (is_live g.peers.heap i.peer) t.1

  refs_sound : (a : Arrow) → Contains (ref_arrows v) a → Sound g a
  refs_sound a c =
      let r = Contains-flat_map_cases (ref_arrow v.joint) v.refs a c in
      let t = in_one _ _ a r.2 in
      subst (Sound g) t.1 tt

  pub all_sound : (a : Arrow) → Contains (arrows_of v) a → Sound g a
  all_sound a c = six_cases (field_arrows Objects g.managed.heap) (field_arrows Peers g.peers.heap) (ties v) (all_slots v.joint) (boxes v.joint) (ref_arrows v) a
      (λ d. objects_sound a (field_shown Objects g.managed.heap a d)) (λ d. peers_sound a (field_shown Peers g.peers.heap a d)) (ties_sound a) (all_slots_sound a) (boxes_sound a) (refs_sound a) c

  -- what is reached where a path has come to
  abbrev Fine : Spot → Type 0
  Fine (Object m) = IsReachedIn g (object m)
  Fine (Peer p) = IsReachedIn g (peer p)
  Fine _ = Unit {0}

  fine_row : (x : Row) → Fine (spot_of_row x) → IsReachedIn g x
  fine_row (object m) f = f
  fine_row (peer p) f = f

  row_fine : (x : Row) → IsReachedIn g x → Fine (spot_of_row x)
  row_fine (object m) f = f
  row_fine (peer p) f = f

  further : (x y : Row) → IsReachedIn g x → JointEdge g x y → IsReachedIn g y
  further x y r e = record { root = r.root; starts = r.starts; reaches = record { rows = r.reaches.rows ++ y ∷ []; walk = end_walk (JointEdge g) r.root x y r.reaches.rows r.reaches.walk e } }

  at_root : (x : Row) → IsJointRoot g x → IsReachedIn g x
  at_root x s = record { root = x; starts = s; reaches = record { rows = []; walk = refl } }

  free_fine : (x : Spot) → IsFree x → Fine x
  free_fine (Object m) f = absurd f
  free_fine (Peer p) f = absurd f
  free_fine (Handle h) f = tt
  free_fine (Slot s i) f = tt
  free_fine (Temporary i) f = tt

  target_fine : (x : Spot) → Target g x → Fine x
  target_fine (Object m) t = at_root (object m) t
  target_fine (Peer p) t = at_root (peer p) t
  target_fine (Handle h) t = tt
  target_fine (Slot s i) t = tt
  target_fine (Temporary i) t = tt

  box_fine : (a : Arrow) (x : Spot) → Sound g a → BeginsAt a x → Fine x
  box_fine (arrow.Field from i to) x s b = absurd b
  box_fine (arrow.Held m h p st) x s b = absurd b
  box_fine (arrow.Faded m h st) x s b = absurd b
  box_fine (arrow.Names from to) x s b = subst Fine (sym b) (free_fine from s.0)
  box_fine (arrow.Grips h p st) x s b = subst Fine (sym b) tt
  box_fine (arrow.Stub h) x s b = absurd b
  box_fine (arrow.Refers from to) x s b = absurd b

  step_fine : (a : Arrow) (x y : Spot) → Sound g a → Leads a x y → Fine x → Fine y
  step_fine (arrow.Field from i to) x y (u, w, e, f, edge) l k =
      subst Fine (sym (l.1 ∙ f)) (row_fine w (further u w (fine_row u (subst Fine (l.0 ∙ e) k)) edge))
  step_fine (arrow.Held m h p st) x y s (inl l) k = subst Fine (sym l.1) (further (object m) (peer p) (subst Fine l.0 k) s)
  step_fine (arrow.Held m h p st) x y s (inr l) k = subst Fine (sym l.1) (further (peer p) (object m) (subst Fine l.0 k) s)
  step_fine (arrow.Faded m h st) x y s l k = absurd l
  step_fine (arrow.Names from to) x y s l k = subst Fine (sym l.1) (target_fine to s.1)
  step_fine (arrow.Grips h p Full) x y s l k = subst Fine (sym l.1) (at_root (peer p) s)
  step_fine (arrow.Grips h p Weak) x y s l k = absurd l
  step_fine (arrow.Grips h p Cleared) x y s l k = absurd l
  step_fine (arrow.Grips h p Gone) x y s l k = absurd l
  step_fine (arrow.Stub h) x y s l k = absurd l
  step_fine (arrow.Refers from to) x y s l k = absurd l

  walk_fine : (x : Spot) (rows : List Spot) (y : Spot) → Walks (IsWay (drawing_of v)) x rows y → Fine x → Fine y
  walk_fine x [] y w k = subst Fine w k
  walk_fine x (z ∷ rows) y (way, w) k = walk_fine z rows y w (step_fine way.0 x z (all_sound way.0 way.1) way.2 k)

  -- a path leads to what is reached
  pub path_reached : (x : Row) → IsPathTo (drawing_of v) (spot_of_row x) → IsReachedIn g x
  path_reached x p = fine_row x (walk_fine p.root p.reaches.rows (spot_of_row x) p.reaches.walk (box_fine p.starts.0 p.root (all_sound p.starts.0 p.starts.1) p.starts.2))
