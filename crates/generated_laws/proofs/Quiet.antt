-- The entries of peer threads and of the driver: what is shown of both sides stays.
use Rattle.std.proofs.Common.{◌≡◌, ◌≢◌, ℕ, zero, suc, ◌≤◌, ◌⊎◌, Bool, true, false, List, [], ◌∷◌, ◌++◌, length, Option, Some, None, nat_eq, refl, sym, ap, subst, ◌∙◌, arith, eq-eqb, inl, inr}
use Rattle.std.specs.Prelude.{if◌then◌else◌}
use Rattle.std.proofs.lemmas.Bool.{cases_eq}
use Rattle.joint_machine.specs.declared.names.Cycle.{Cycle}
use Rattle.joint_machine.specs.declared.names.HNum.{HNum}
use Rattle.joint_machine.specs.declared.names.Sort.TheVariants.{Framework}
use Rattle.joint_machine.specs.declared.names.Var.{Var}
use Rattle.joint_machine.specs.declared.names.Thread.TheVariants.{P, C}
use Rattle.joint_machine.specs.declared.lines.Act.TheVariants as act
use Rattle.joint_machine.specs.declared.events.Op.{Op}
use Rattle.joint_machine.specs.declared.events.Op.TheVariants as op
use Rattle.joint_machine.specs.declared.events.Reply.{Reply}
use Rattle.joint_machine.specs.declared.events.Reply.TheVariants as says
use Rattle.joint_machine.specs.Components.{End}
use Rattle.joint_machine.specs.Control.{answer_in}
use Rattle.joint_machine.specs.Heaps.{Answered, answer, numbered_at, numbered_set, place, is_full, next_number, with_var, field_set, place_or_none}
use Rattle.joint_machine.specs.Lines.{is_peer_event}
use Rattle.joint_machine.specs.Linked.{Linkage, SideLawful, managed_after, peer_after}
use Rattle.joint_machine.specs.Managed.{Managed}
use Rattle.joint_machine.specs.ManagedReplay.{ManagedReplay, managed_answer}
use Rattle.joint_machine.specs.Peers.{Peers, Issued, held, strong, weak, next_handle, peer_made, peer_name, peer_of, with_peer}
use Rattle.joint_machine.specs.PeerReplay.{PeerReplay, PeerAllows, TableRow, Marking, begun, fresh_row, swept, renewed_on, restored_by, row_of, mirrored, peer_answer, with_weakened, withdrawn}
use Rattle.joint_machine.specs.Told.{Told, nothing, said_alive, snap_of, contraction_of, references_of, sweep_of}
use Rattle.joint_machine.proofs.Deciding.{neq-eqb, none_some, test-cases}
use Rattle.joint_machine.proofs.Numbered.{numbered-push_cases, numbered_set-length, slot-named}
use Rattle.joint_laws.specs.PeerInvariants.{PeerInvariant, IsTabled}
use Rattle.joint_laws.proofs.HandleKeeping.{tabled-set_cases, tabled-swept}
use Rattle.joint_laws.proofs.HeapMoves.{field_set-moved}
use Rattle.joint_laws.proofs.LinkedEntries.{entry}
use Rattle.joint_laws.proofs.PeerQuiet.{table-still}
use Rattle.joint_laws.proofs.SparedWalks.{peer_of-row}
use Rattle.generated_laws.proofs.Own.{IsLater}
use Rattle.generated_laws.proofs.Showing.{Group}
use Rattle.generated_laws.proofs.PeerShowing.{ArePeersShown, IsIssuedOn, Filled, filled, fill, PeerStep, peer-shown, peer-dropped, set-shown}

-- with another thing known of a peer thread's variables
abbrev pub with_fill : (ℕ → Filled) → ℕ → Filled → ℕ → Filled
with_fill fills u f k = if nat_eq k u then f else fills k

pub fill-here : (fills : ℕ → Filled) (u : ℕ) (f : Filled) → with_fill fills u f u ≡ f
fill-here fills u f = ap (λ b. if b then f else fills u) (eq-eqb u u refl)

pub fill-other : (fills : ℕ → Filled) (u : ℕ) (f : Filled) (k : ℕ) → k ≢ u → with_fill fills u f k ≡ fills k
fill-other fills u f k n = ap (λ b. if b then f else fills k) (neq-eqb k u n)

-- a peer thread's entry changes its own variables, and no handle
pub record PeersMoved (p q : Peers) (u : ℕ) (fills : ℕ → Filled) (groups : List (Option Group)) (go : Filled → Type 0) : Type 0 where
  pub fill_now : Filled
  pub shown : ArePeersShown q (with_fill fills u fill_now) groups
  pub issued : q.issued ≡ p.issued
  pub freed : q.heap.freed ≡ p.heap.freed
  pub goes : go fill_now

module _ (p : Peers) (fills : ℕ → Filled) (groups : List (Option Group)) (w : ArePeersShown p fills groups) (u : ℕ) (few : u ≤ 8) (go : Filled → Type 0) where
  abbrev Moved : Peers → Type 0
  Moved q = PeersMoved p q u fills groups go

  same-fill : (k : ℕ) → with_fill fills u (fills u) k ≡ fills k
  same-fill k = elim (cases_eq k u) [ inl q ↦ ap (with_fill fills u (fills u)) q ∙ (fill-here fills u (fills u) ∙ ap fills (sym q)) | inr n ↦ fill-other fills u (fills u) k n ]

  refilled : (next : ℕ → Filled) (q : Peers) → ((k : ℕ) → next k ≡ fills k) → ArePeersShown q fills groups → ArePeersShown q next groups
  refilled next q e s = record {
    size = s.size;
    shelf = s.shelf;
    vars = λ t v l f. s.vars t v l (ap (λ (z : Filled). filled z v) (sym (e t)) ∙ f);
    unnamed = s.unnamed;
    bare = s.bare;
    made = s.made;
    holds = s.holds;
    statics = s.statics;
  }

  new-moved : (v : Var) (n : ℕ) → PeerStep (fills u) (op.Line (act.NewPeer v n)) go → Moved (peer_made p (place u v.0) n).state
  new-moved v n st = by (is_full p.heap.fields)
    where
      by : (b : Bool) → Moved (if b then answer says.Full p else (let grown = with_peer p Framework n in
          answer (peer_name (next_number p.heap)) (record grown { heap = with_var grown.heap (place u v.0) (Some (next_number p.heap)) }))).state
      by false = record {
        fill_now = fill (fills u) v.0 true;
        shown = peer-shown p fills (with_fill fills u (fill (fills u) v.0 true)) groups w u v.0 n few st.0 Framework
            (fill-other fills u (fill (fills u) v.0 true)) (fill-here fills u (fill (fills u) v.0 true));
        issued = refl;
        freed = refl;
        goes = st.1;
      }
      by true = record {
        fill_now = fill (fills u) v.0 true;
        shown = wider (with_fill fills u (fill (fills u) v.0 true)) (λ k x e. less k x e);
        issued = refl;
        freed = refl;
        goes = st.1;
      }
        where
          wider : (next : ℕ → Filled) → ((k x : ℕ) → filled (next k) x ≡ false → filled (fills k) x ≡ false) → ArePeersShown p next groups
          wider next f = record {
            size = w.size;
            shelf = w.shelf;
            vars = λ t x l e. w.vars t x l (f t x e);
            unnamed = w.unnamed;
            bare = w.bare;
            made = w.made;
            holds = w.holds;
            statics = w.statics;
          }

          less : (k x : ℕ) → filled (with_fill fills u (fill (fills u) v.0 true) k) x ≡ false → filled (fills k) x ≡ false
          less k x e = elim (cases_eq k u) [
            | inr n ↦ ap (λ (z : Filled). filled z x) (sym (fill-other fills u (fill (fills u) v.0 true) k n)) ∙ e
            | inl q ↦ ap (λ z. filled (fills z) x) q ∙ off v.0 x (ap (λ (z : Filled). filled z x) (sym (fill-here fills u (fill (fills u) v.0 true)))
                ∙ (ap (λ z. filled (with_fill fills u (fill (fills u) v.0 true) z) x) (sym q) ∙ e))
          ]
            where
              off : (y x : ℕ) → filled (fill (fills u) y true) x ≡ false → filled (fills u) x ≡ false
              off zero zero e = absurd (cc)
              off zero (suc x) e = e
              off (suc zero) zero e = e
              off (suc zero) (suc zero) e = absurd (cc)
              off (suc zero) (suc (suc x)) e = e
              off (suc (suc y)) x e = e

  drop-moved : (v : Var) → PeerStep (fills u) (op.Line (act.Drop v)) go → Moved (record p { heap = with_var p.heap (place u v.0) None })
  drop-moved v st = record {
    fill_now = fill (fills u) v.0 false;
    shown = peer-dropped p fills (with_fill fills u (fill (fills u) v.0 false)) groups w u v.0 few st.0 (fill-other fills u (fill (fills u) v.0 false)) (fill-here fills u (fill (fills u) v.0 false));
    issued = refl;
    freed = refl;
    goes = st.1;
  }

  set-moved : (v x : ℕ) (o : Option ℕ) → (field_set p.heap v x o).state.freed ≡ p.heap.freed → go (fills u) → Moved (record p { heap = (field_set p.heap v x o).state })
  set-moved v x o f g = record {
    fill_now = fills u;
    shown = refilled (with_fill fills u (fills u)) (record p { heap = (field_set p.heap v x o).state }) same-fill (set-shown p fills groups w v x o);
    issued = refl;
    freed = f;
    goes = g;
  }

-- any entry of a peer thread
module _ (s : Linkage) (fills : ℕ → Filled) (groups : List (Option Group)) (w : ArePeersShown s.peer.peers fills groups)
    (u : ℕ) (few : u ≤ 8) (go : Filled → Type 0) (line : ℕ) (r : Reply) (cites : Option ℕ) where
  abbrev after_it : Op → Told → PeerReplay
  after_it o told = peer_after s.peer (entry (P u) line o r cites) told true

  pub peer_moves : (o : Op) (told : Told) → PeerStep (fills u) o go → is_peer_event (P u) o ≡ true
      × PeersMoved s.peer.peers (after_it o told).peers u fills groups go × ((after_it o told).table ≡ s.peer.table)
  peer_moves (op.Line (act.NewPeer v n)) told st = (let m = new-moved s.peer.peers fills groups w u few go v n st in
      (refl, m, table-still s.peer (peer_made s.peer.peers (place u v.0) n).state m.issued))
  peer_moves (op.Line (act.Drop v)) told st = (let m = drop-moved s.peer.peers fills groups w u few go v st in
      (refl, m, table-still s.peer (record s.peer.peers { heap = with_var s.peer.peers.heap (place u v.0) None }) m.issued))
  peer_moves (op.Line (act.Set v i x)) told st =
      let m = set-moved s.peer.peers fills groups w u few go (place u v.0) i (place_or_none u x) (field_set-moved s.peer.peers.heap (place u v.0) i (place_or_none u x)).freed st in
      (refl, m, table-still s.peer (record s.peer.peers { heap = (field_set s.peer.peers.heap (place u v.0) i (place_or_none u x)).state }) m.issued)
  peer_moves _ told st = absurd st

-- what the driver leaves as it is, but at a resolution
pub record SameObjects (m k : Managed) : Type 0 where
  pub fields : k.heap.fields ≡ m.heap.fields
  pub vars : k.heap.vars ≡ m.heap.vars
  pub statics : k.heap.statics ≡ m.heap.statics
  pub held : k.held ≡ m.held
  pub pins : k.pins ≡ m.pins

-- a restore gives that handle
abbrev pub GivesHandle : Op → Reply → ℕ → Type 0
GivesHandle (op.Restore h) r n = answer_in r ≡ said_alive n
GivesHandle o r n = ⊥

-- what an event of a cycle leaves of the peers and of the table, but for the handle that a restore gives
pub record SameSide (s t : PeerReplay) (o : Op) (r : Reply) : Type 0 where
  pub fields : t.peers.heap.fields ≡ s.peers.heap.fields
  pub vars : t.peers.heap.vars ≡ s.peers.heap.vars
  pub statics : t.peers.heap.statics ≡ s.peers.heap.statics
  pub issued : IsIssuedOn s.peers.issued t.peers.issued
  pub tabled : (n : ℕ) (row : TableRow) → IsTabled t.table n row → ((old : TableRow) × IsTabled s.table n old) ⊎ GivesHandle o r n

-- an event of a cycle
abbrev pub IsOfCycle : Op → Type 0
IsOfCycle (op.Snap k) = Unit {0}
IsOfCycle o = IsLater o

-- an event of a cycle, but for its resolution
abbrev pub IsStill : Op → Type 0
IsStill (op.Resolve k) = ⊥
IsStill o = IsOfCycle o

module _ (m : ManagedReplay) where
  abbrev Same : ManagedReplay → Type 0
  Same k = SameObjects m.managed k.managed

  same : Same m
  same = record { fields = refl; vars = refl; statics = refl; held = refl; pins = refl }

  managed-same : (o : Op) (told : Told) → IsStill o → Same (managed_answer m C o told).state
  managed-same (op.Snap k) (snap_of a b c) w = record { fields = refl; vars = refl; statics = refl; held = refl; pins = refl }
  managed-same (op.Snap k) _ w = same
  managed-same (op.Contract k) (contraction_of a b c) w = record { fields = refl; vars = refl; statics = refl; held = refl; pins = refl }
  managed-same (op.Contract k) _ w = same
  managed-same (op.Mirror k) told w = same
  managed-same (op.Weaken h) told w = same
  managed-same op.Begin told w = same
  managed-same op.Sweep told w = same
  managed-same (op.Restore h) told w = same
  managed-same (op.Clear k) told w = same
  managed-same _ told w = absurd w

module _ (s : PeerReplay) (k : PeerInvariant s) where
  no-change : (o : Op) (r : Reply) → SameSide s s o r
  no-change o r = record { fields = refl; vars = refl; statics = refl; issued = inl refl; tabled = λ n row t. inl (row, t) }

  begun-same : (o : Option Marking) → SameSide s (begun s o C).state op.Begin (begun s o C).reply
  begun-same None = record { fields = refl; vars = refl; statics = refl; issued = inl refl; tabled = λ n row t. inl (row, t) }
  begun-same (Some mk) = no-change op.Begin (begun s (Some mk) C).reply

  swept-same : (o : Option Marking) (freed : List ℕ) → SameSide s (swept s o C freed).state op.Sweep (swept s o C freed).reply
  swept-same None freed = no-change op.Sweep says.NoMark
  swept-same (Some mk) freed = record {
    fields = refl;
    vars = refl;
    statics = refl;
    issued = inl refl;
    tabled = λ n row t. (let w = tabled-swept freed s.peers.issued s.table n row k.handles.places t in inl (w.1, w.3));
  }

  -- a restored handle leaves the table, and one on its peer may come
  gone-tabled : (h n : ℕ) (row : TableRow) → IsTabled (numbered_set s.table h None) n row → (old : TableRow) × IsTabled s.table n old
  gone-tabled h n row t = elim (tabled-set_cases s.table h None n row t) [ inl e ↦ absurd (none_some row e.1) | inr e ↦ (row, e.1) ]

  restored-same : (h : HNum) (o : Option TableRow) → SameSide s (restored_by s h.0 o).state (op.Restore h) (restored_by s h.0 o).reply
  restored-same h None = no-change (op.Restore h) says.Cleared
  restored-same h (Some row) = test-cases (λ (a : Answered PeerReplay). SameSide s a.state (op.Restore h) a.reply) row.cleared _ _ withdrawn-same (renewed-same (peer_of s.peers.issued h.0) refl)
    where
      withdrawn-same : SameSide s (withdrawn s h.0) (op.Restore h) says.Cleared
      withdrawn-same = record { fields = refl; vars = refl; statics = refl; issued = inl refl; tabled = λ n x t. inl (gone-tabled h.0 n x t) }

      renewed-same : (p : Option ℕ) → peer_of s.peers.issued h.0 ≡ p → SameSide s (renewed_on s h.0 p).state (op.Restore h) (renewed_on s h.0 p).reply
      renewed-same None e = withdrawn-same
      renewed-same (Some p) e =
          let i = peer_of-row s.peers.issued h.0 p e in
          let new : Issued = record { peer = p; hold = held; strength = strong } in
          record {
            fields = refl;
            vars = refl;
            statics = refl;
            issued = inr (record { place = h.0; was = i.0; is_issued = i.1; grown = ap (λ (z : ℕ). s.peers.issued ++ record { peer = z; hold = held; strength = strong } ∷ []) (sym i.2) });
            tabled = λ n x t. elim (numbered-push_cases (numbered_set s.table h.0 None) (fresh_row new) n (Some x) t) [
              | inl old ↦ inl (gone-tabled h.0 n x old)
              | inr last ↦ (
                  let l = numbered_set-length s.table h.0 None in
                  let q = k.handles.places in
                  let r = last.0 in
                  let is : next_handle s.peers ≡ n = omega (arith, r, l, q) in
                  inr (ap said_alive is))
            ];
          }

  mirrored-same : (c : Cycle) (cites : Option ℕ) (refs : List (End × End)) → SameSide s (mirrored s c.0 cites refs) (op.Mirror c) (says.Refs (length refs))
  mirrored-same c None refs = no-change (op.Mirror c) (says.Refs (length refs))
  mirrored-same c (Some n) refs = record { fields = refl; vars = refl; statics = refl; issued = inl refl; tabled = λ n row t. inl (row, t) }

  -- a handle that is weakened was in the table
  weakened-tabled : (h : HNum) (cites : Option ℕ) (told : Told) → PeerAllows s C (op.Weaken h) cites told → (old : TableRow) × IsTabled s.table h.0 old
  weakened-tabled h cites nothing a = (record { strength = strong; cleared = false }, slot-named (numbered_at s.table h.0) (record { strength = strong; cleared = false }) a.strong_now)
  weakened-tabled h cites _ a = absurd a

  weakened-same : (h : HNum) (cites : Option ℕ) (told : Told) → PeerAllows s C (op.Weaken h) cites told
      → SameSide s (record s { table = numbered_set s.table h.0 (Some record { strength = weak; cleared = false }); mirror = with_weakened s.mirror h.0 }) (op.Weaken h) says.Ok
  weakened-same h cites told a = record {
    fields = refl;
    vars = refl;
    statics = refl;
    issued = inl refl;
    tabled = λ n row t. elim (tabled-set_cases s.table h.0 (Some record { strength = weak; cleared = false }) n row t) [
      | inl e ↦ (let w = weakened-tabled h cites told a in inl (w.0, subst (λ z. IsTabled s.table z w.0) (sym e.0) w.1))
      | inr e ↦ inl (row, e.1)
    ];
  }

  peers-same : (o : Op) (cites : Option ℕ) (told : Told) → IsOfCycle o → PeerAllows s C o cites told → SameSide s (peer_answer s C o cites told).state o (peer_answer s C o cites told).reply
  peers-same (op.Mirror c) cites (references_of refs) w a = mirrored-same c cites refs
  peers-same (op.Mirror c) cites _ w a = no-change (op.Mirror c) says.NoMark
  peers-same op.Begin cites told w a = begun-same s.marking
  peers-same op.Sweep cites (sweep_of freed) w a = swept-same s.marking freed
  peers-same op.Sweep cites _ w a = swept-same s.marking []
  peers-same (op.Restore h) cites told w a = restored-same h (row_of s h.0)
  peers-same (op.Snap c) cites told w a = no-change (op.Snap c) says.NoMark
  peers-same (op.Contract c) cites told w a = no-change (op.Contract c) says.NoMark
  peers-same (op.Resolve c) cites told w a = no-change (op.Resolve c) says.NoMark
  peers-same (op.Weaken h) cites told w a = weakened-same h cites told a
  peers-same (op.Clear c) cites told w a = record { fields = refl; vars = refl; statics = refl; issued = inl refl; tabled = λ n row t. inl (row, t) }
  peers-same _ cites told w a = absurd w

module _ (s : Linkage) (line : ℕ) (r : Reply) (cites : Option ℕ) (o : Op) (told : Told) where
  pub objects-stay : IsStill o → SameObjects s.managed.managed (managed_after s.managed (entry C line o r cites) told (is_peer_event C o)).managed
  objects-stay w = by (is_peer_event C o)
    where
      by : (b : Bool) → SameObjects s.managed.managed (managed_after s.managed (entry C line o r cites) told b).managed
      by true = same s.managed
      by false = managed-same s.managed o told w

  pub peers-stay : PeerInvariant s.peer → IsOfCycle o → SideLawful (is_peer_event C o) s (entry C line o r cites) told
      → SameSide s.peer (peer_after s.peer (entry C line o r cites) told (is_peer_event C o)) o r
  peers-stay k w l = by (is_peer_event C o) l
    where
      by : (b : Bool) → SideLawful b s (entry C line o r cites) told → SameSide s.peer (peer_after s.peer (entry C line o r cites) told b) o r
      by true l = subst (SameSide s.peer (peer_answer s.peer C o cites told).state o) (sym l.replies) (peers-same s.peer k o cites told w l.allowed)
      by false l = no-change s.peer k o r
