-- The events of the managed threads of a generated script, one by one: what is shown of both sides is shown of them
-- afterwards, by what the thread has then.
use Rattle.std.proofs.Common.{◌≡◌, ◌≢◌, ℕ, ◌+◌, ◌<◌, ◌≤◌, ◌⊎◌, ◌||◌, inl, inr, Bool, true, false, List, [], ◌∷◌, ◌++◌, length, map, Option, Some, None, set, replicate, nat_le, nat_eq, refl, sym, ap}
use Rattle.std.proofs.Common.{subst, ◌∙◌, arith, eq-eqb}
use Rattle.std.specs.Prelude.{Contains, if◌then◌else◌, is_some}
use Rattle.std.proofs.Math.ListN.{length-set}
use Rattle.std.proofs.lemmas.Bool.{cases_eq}
use Rattle.joint_machine.specs.declared.names.Var.{Var}
use Rattle.joint_machine.specs.declared.names.StaticNo.{StaticNo}
use Rattle.joint_machine.specs.declared.names.Kind.{Kind}
use Rattle.joint_machine.specs.declared.names.Sort.{Sort}
use Rattle.joint_machine.specs.declared.names.MNum.{MNum}
use Rattle.joint_machine.specs.declared.names.PNum.{PNum}
use Rattle.joint_machine.specs.declared.names.HNum.{HNum}
use Rattle.joint_machine.specs.declared.names.Thread.TheVariants.{M}
use Rattle.joint_machine.specs.declared.lines.Act.TheVariants as act
use Rattle.joint_machine.specs.declared.events.Op.{Op}
use Rattle.joint_machine.specs.declared.events.Op.TheVariants as op
use Rattle.joint_machine.specs.declared.events.Reply.{Reply}
use Rattle.joint_machine.specs.declared.events.Reply.TheVariants as says
use Rattle.joint_machine.specs.declared.events.Entry.{Entry}
use Rattle.joint_machine.specs.Heaps.{Heap, IsLive, Answered, answer, slot, place, numbered_at, fields_of, field_set, field_stored, stored, with_field, with_var, with_static, is_full, next_number}
use Rattle.joint_machine.specs.Lines.{is_peer_event}
use Rattle.joint_machine.specs.Linked.{Linkage, SideLawful, managed_after, peer_after}
use Rattle.joint_machine.specs.Managed.{Managed, OpenCycle, IsManagedRoot, Holds, managed_name, with_row, made_new, adopted, handle_of, handle_reply, candidates_of}
use Rattle.joint_machine.specs.Peers.{Peers, Issued, held, strong, peer_of, with_peer, with_handle, next_handle, handles_full, issued_since, landed, pair_made}
use Rattle.joint_machine.specs.PeerReplay.{PeerReplay, TableRow, on_table, brings, brought_to, fresh_row, row_of, table_target}
use Rattle.joint_machine.specs.Told.{Answer, Told, handles_given}
use Rattle.joint_machine.proofs.Deciding.{none_some, neq-eqb, some-same}
use Rattle.joint_machine.proofs.HeapLemmas.{adopt_by-managed, adopt_by-reply, candidates_of-open, Holds-handle_of}
use Rattle.joint_machine.proofs.Members.{Contains-nil}
use Rattle.joint_machine.proofs.Numbered.{numbered-within, numbered-push_cases, numbered-push_old, numbered-push_new, slot-Contains}
use Rattle.joint_laws.specs.LinkedInvariants.{given_at}
use Rattle.joint_laws.specs.PeerInvariants.{IsTabled}
use Rattle.joint_laws.proofs.LinkedEntries.{Of, entry}
use Rattle.joint_laws.proofs.PeerQuiet.{table-issued, table-still}
use Rattle.run_summary.specs.Tallies.{is_h}
use Rattle.generated_laws.proofs.Pictures.{Seen, seen, at, put, Mind, Step, at-small}
use Rattle.generated_laws.proofs.Showing.{Group, IsGroup, IsShown, StaticIs, number_of, row-shown, drop-shown, write-shown, grouped, still-shown, slot-set_here, slot-set_other}
use Rattle.generated_laws.proofs.PeerShowing.{ArePeersShown, Filled, pair-shown, land-shown, regrouped, peer_of-grows}

-- with another thing in mind
abbrev pub with_mind : (ℕ → Mind) → ℕ → Mind → ℕ → Mind
with_mind minds u m k = if nat_eq k u then m else minds k

pub mind-here : (minds : ℕ → Mind) (u : ℕ) (m : Mind) → with_mind minds u m u ≡ m
mind-here minds u m = ap (λ b. if b then m else minds u) (eq-eqb u u refl)

pub mind-other : (minds : ℕ → Mind) (u : ℕ) (m : Mind) (k : ℕ) → k ≢ u → with_mind minds u m k ≡ minds k
mind-other minds u m k n = ap (λ b. if b then m else minds k) (neq-eqb k u n)

-- a part of the mind that stays
pub part-same : {X : Type 0} (f : Mind → X) (minds : ℕ → Mind) (u : ℕ) (m : Mind) → f m ≡ f (minds u) → (k : ℕ) → f (with_mind minds u m k) ≡ f (minds k)
part-same f minds u m e k = elim (cases_eq k u) [
  | inl q ↦ ap (λ z. f (with_mind minds u m z)) q ∙ (ap f (mind-here minds u m) ∙ (e ∙ ap (λ z. f (minds z)) (sym q)))
  | inr n ↦ ap f (mind-other minds u m k n)
]

-- each handle of the table is held by a row, or in some thread's hand, or a restore gave it and no row took it yet; a
-- freed row's peer is freed; and a group's bridge holds a handle on the group's peer
pub record AreHeld (m : Managed) (p : PeerReplay) (answers : List Answer) (minds : ℕ → Mind) (groups : List (Option Group)) : Type 0 where
  pub owned : (n : ℕ) (row : TableRow) → IsTabled p.table n row → ((x : ℕ) × (numbered_at m.held x ≡ Some (Some n))) ⊎ (((t : ℕ) × ((minds t).hand ≡ Some n)) ⊎ Contains (handles_given answers) n)
  pub freed : (x n : ℕ) → numbered_at m.held x ≡ Some (Some n) → Contains m.heap.freed x → (q : ℕ) × (peer_of p.peers.issued n ≡ Some q) × Contains p.peers.heap.freed q
  pub leads : (i : ℕ) (g : Group) (n : ℕ) → slot groups i ≡ Some g → numbered_at m.held g.bridge ≡ Some (Some n) → peer_of p.peers.issued n ≡ Some g.peer

-- the place whose static an event fills
abbrev pub Fills : ℕ → Op → Type 0
Fills i (op.Line (act.Store x (Some v))) = i ≡ x.0
Fills i (op.Land h x) = i ≡ 16 + x.0
Fills i o = ⊥

-- a lend says which handle was lent
abbrev pub SaysHandle : Op → Reply → Type 0
SaysHandle (op.Lend v x) r = is_h r ≡ true
SaysHandle o r = Unit {0}

-- what an entry of a managed thread leads to
pub record HasMoved (m : Managed) (p : PeerReplay) (answers : List Answer) (u : ℕ) (o : Op) (minds : ℕ → Mind) (fills : ℕ → Filled) (groups : List (Option Group)) (go : Mind → Type 0) : Type 0 where
  pub mind : Mind
  pub more : List (Option Group)
  pub shown : IsShown m (with_mind minds u mind) more
  pub peers : ArePeersShown p.peers fills more
  pub are_held : AreHeld m p answers (with_mind minds u mind) more
  pub goes : go mind
  pub from : (i : ℕ) → is_some (slot more i) ≡ true → (is_some (slot groups i) ≡ true) ⊎ Fills i o
  pub to : (i : ℕ) → i < 32 → (is_some (slot groups i) ≡ true) ⊎ Fills i o → is_some (slot more i) ≡ true

-- a reply that isn't a refusal tells which way a test went
row-case : (b : Bool) (m t : Managed) (z : MNum) (k : ℕ) → says.M z ≡ (if b then answer says.Full m else answer (managed_name k) t).reply
    → (z.0 ≡ k) × ((if b then answer says.Full m else answer (managed_name k) t).state ≡ t)
row-case true m t z k e = absurd (cc)
row-case false m t z k e = ((let f : z ≡ record { 0 = k } = cc in ap (λ (y : MNum). y.0) f), refl)

pair-case : (b : Bool) (p t : Peers) (q : PNum) (h : HNum) (k l : ℕ) → says.Made q h ≡ (if b then answer says.Full p else answer (says.Made record { 0 = k } record { 0 = l }) t).reply
    → (h.0 ≡ l) × ((if b then answer says.Full p else answer (says.Made record { 0 = k } record { 0 = l }) t).state ≡ t)
pair-case true p t q h k l e = absurd (cc)
pair-case false p t q h k l e = ((let f : h ≡ record { 0 = l } = cc in ap (λ (y : HNum). y.0) f), refl)

set-is : (h : Heap) (v w x y : ℕ) → slot h.vars v ≡ Some x → slot h.vars w ≡ Some y → fields_of h x ≡ None ∷ [] → (field_set h v 0 (Some w)).state ≡ with_field h x 0 (Some y)
set-is h v w x y a b c =
    ap (λ o. (elim o as (λ z. Answered Heap) [ None ↦ answer says.Empty h | Some z ↦ if nat_le (length (fields_of h z)) 0 then answer says.Range h else field_stored h z 0 (Some w) ]).state) a
    ∙ (ap (λ fs. (if nat_le (length fs) 0 then answer says.Range h else field_stored h x 0 (Some w)).state) c
    ∙ ap (λ o. (elim o as (λ z. Answered Heap) [ None ↦ answer says.Empty h | Some z ↦ answer says.Ok (with_field h x 0 (Some z)) ]).state) b)

stored-is : (h : Heap) (s v x : ℕ) → slot h.vars v ≡ Some x → (elim (slot h.vars v) as (λ z. Answered Heap) [ None ↦ answer says.Empty h | Some z ↦ answer says.Ok (with_static h s (Some z)) ]).state
    ≡ with_static h s (Some x)
stored-is h s v x e = ap (λ o. (elim o as (λ z. Answered Heap) [ None ↦ answer says.Empty h | Some z ↦ answer says.Ok (with_static h s (Some z)) ]).state) e

module _ (s : Linkage) (k : Of s) (minds : ℕ → Mind) (fills : ℕ → Filled) (groups : List (Option Group)) (w : IsShown s.managed.managed minds groups) (p : ArePeersShown s.peer.peers fills groups)
    (h : AreHeld s.managed.managed s.peer (given_at s.control.stand) minds groups) (u : ℕ) (few : u ≤ 8) (go : Mind → Type 0) where
  abbrev sm : Managed
  sm = s.managed.managed

  abbrev sp : Peers
  sp = s.peer.peers

  -- what the driver's restores have answered, which no thread's entry changes
  abbrev said : List Answer
  said = given_at s.control.stand

  -- what a variable names
  named : (v : ℕ) (x : Seen) → at (minds u).slots v ≡ Some x → slot sm.heap.vars (place u v) ≡ Some x.number
  named v x e = w.vars u v (let l = at-small (minds u).slots v x e in omega (arith, l)) ∙ ap number_of e

  named-live : (v : ℕ) (x : Seen) → at (minds u).slots v ≡ Some x → IsLive sm.heap x.number
  named-live v x e = k.managed.managed.roots x.number (inl (inl (slot-Contains sm.heap.vars (place u v) x.number (named v x e))))

  -- a further row, by its handle or none
  row-moved : (v : ℕ) (kind : Kind) (n : ℕ) (o : Option ℕ) (mind : Mind) (e : Op) → v < 3
      → mind.slots ≡ put (minds u).slots v (Some (seen (next_number sm.heap) (replicate n None) o)) → mind.stored ≡ (minds u).stored
      → ((z : ℕ) → (minds u).hand ≡ Some z → (o ≡ Some z) ⊎ (mind.hand ≡ Some z)) → ((i : ℕ) → Fills i e → ⊥) → go mind
      → HasMoved (with_row sm (place u v) kind n o) s.peer said u e minds fills groups go
  row-moved v kind n o mind e small slots stored hands none g =
      let next = with_mind minds u mind in
      record {
        mind = mind;
        more = groups;
        shown = row-shown sm minds next groups w u v kind n o few small (mind-other minds u mind)
            (ap (λ (z : Mind). z.slots) (mind-here minds u mind) ∙ slots) (ap (λ (z : Mind). z.stored) (mind-here minds u mind) ∙ stored);
        peers = p;
        are_held = record {
          owned = λ a row c. elim (h.owned a row c) [
            | inl x ↦ inl (x.0, numbered-push_old sm.held o x.0 (numbered-within sm.held x.0 (Some a) x.1).1 ∙ x.1)
            | inr (inr g) ↦ inr (inr g)
            | inr (inl t) ↦ elim (cases_eq t.0 u) [
              | inr q ↦ inr (inl (t.0, ap (λ (z : Mind). z.hand) (mind-other minds u mind t.0 q) ∙ t.1))
              | inl q ↦ elim (hands a (ap (λ z. (minds z).hand) (sym q) ∙ t.1)) [
                | inl y ↦ inl (length sm.held + 1, numbered-push_new sm.held o ∙ ap Some y)
                | inr y ↦ inr (inl (u, ap (λ (z : Mind). z.hand) (mind-here minds u mind) ∙ y))
              ]
            ]
          ];
          freed = λ x a d f. elim (numbered-push_cases sm.held o x (Some a) d) [
            | inl y ↦ h.freed x a y f
            | inr y ↦ (let l = k.managed.managed.freed x f in let q = w.places in let r = y.0 in absurd (omega (arith, l.1, q, r)))
          ];
          leads = λ i g a e d. elim (numbered-push_cases sm.held o g.bridge (Some a) d) [
            | inl y ↦ h.leads i g a e y
            | inr y ↦ (let b = (w.groups_are i g e).holds in let l = numbered-within sm.held g.bridge (Some b.0) b.1 in let r = y.0 in absurd (omega (arith, l.1, r)))
          ];
        };
        goes = g;
        from = λ i c. inl c;
        to = λ i l c. elim c [ inl d ↦ d | inr d ↦ absurd (none i d) ];
      }

  -- what is in hand, where the handles of the table and what rows hold stay
  hands-still : (m : Managed) (q : PeerReplay) (mind : Mind) (more : List (Option Group)) → m.held ≡ sm.held → m.heap.freed ≡ sm.heap.freed
      → q.peers.issued ≡ sp.issued → q.table ≡ s.peer.table → q.peers.heap.freed ≡ sp.heap.freed → mind.hand ≡ (minds u).hand
      → ((i : ℕ) (g : Group) (n : ℕ) → slot more i ≡ Some g → numbered_at sm.held g.bridge ≡ Some (Some n) → peer_of sp.issued n ≡ Some g.peer) → AreHeld m q said (with_mind minds u mind) more
  hands-still m q mind more holding freed issued table gone hand leads = record {
    owned = λ a row c. elim (h.owned a row (subst (λ l. IsTabled l a row) table c)) [
      | inl x ↦ inl (x.0, ap (λ l. numbered_at l x.0) holding ∙ x.1)
      | inr (inl t) ↦ inr (inl (t.0, part-same (λ (z : Mind). z.hand) minds u mind hand t.0 ∙ t.1))
      | inr (inr g) ↦ inr (inr g)
    ];
    freed = λ x a d f. (let o = h.freed x a (ap (λ l. numbered_at l x) (sym holding) ∙ d) (subst (λ l. Contains l x) freed f) in
        (o.0, ap (λ l. peer_of l a) issued ∙ o.1, subst (λ l. Contains l o.0) (sym gone) o.2));
    leads = λ i g n e d. ap (λ l. peer_of l n) issued ∙ leads i g n e (ap (λ l. numbered_at l g.bridge) (sym holding) ∙ d);
  }

  -- an event that changes neither heap's lists but what is shown
  kept-moved : (m : Managed) (mind : Mind) (e : Op) → IsShown m (with_mind minds u mind) groups → m.held ≡ sm.held
      → m.heap.freed ≡ sm.heap.freed → mind.hand ≡ (minds u).hand → ((i : ℕ) → Fills i e → ⊥) → go mind
      → HasMoved m s.peer said u e minds fills groups go
  kept-moved m mind e shown holding freed hand none g = record {
    mind = mind;
    more = groups;
    shown = shown;
    peers = p;
    are_held = hands-still m s.peer mind groups holding freed refl refl refl hand h.leads;
    goes = g;
    from = λ i c. inl c;
    to = λ i l c. elim c [ inl d ↦ d | inr d ↦ absurd (none i d) ];
  }

  new-moved : (v : Var) (kind : Kind) (n : ℕ) (z : MNum) → says.M z ≡ (made_new sm (place u v.0) kind n).reply → Step (minds u) (op.Line (act.New v kind n)) (says.M z) go
      → HasMoved (made_new sm (place u v.0) kind n).state s.peer said u (op.Line (act.New v kind n)) minds fills groups go
  new-moved v kind n z e st =
      let c = row-case (is_full sm.heap.fields) sm (with_row sm (place u v.0) kind n None) z (next_number sm.heap) e in
      subst (λ m. HasMoved m s.peer said u (op.Line (act.New v kind n)) minds fills groups go) (sym c.1)
      (row-moved v.0 kind n None (record (minds u) { slots = put (minds u).slots v.0 (Some (seen z.0 (replicate n None) None)) }) (op.Line (act.New v kind n)) st.0
      (ap (λ x. put (minds u).slots v.0 (Some (seen x (replicate n None) None))) c.0) refl (λ y d. inr d) (λ i f. f) st.1)

  adopt-moved : (v : Var) (kind : Kind) (n : ℕ) (q : PNum) (g : HNum) (z : MNum) → says.M z ≡ (adopted sm (place u v.0) kind n g.0).reply → Step (minds u) (op.Adopt v kind n q g) (says.M z) go
      → HasMoved (adopted sm (place u v.0) kind n g.0).state s.peer said u (op.Adopt v kind n q g) minds fills groups go
  adopt-moved v kind n q g z e st =
      let c = row-case (is_full sm.heap.fields) sm (with_row sm (place u v.0) kind n (Some g.0)) z (next_number sm.heap) e in
      subst (λ m. HasMoved m s.peer said u (op.Adopt v kind n q g) minds fills groups go) (sym c.1)
      (row-moved v.0 kind n (Some g.0) (record (minds u) { slots = put (minds u).slots v.0 (Some (seen z.0 (replicate n None) (Some g.0))); hand = None }) (op.Adopt v kind n q g) st.1
      (ap (λ x. put (minds u).slots v.0 (Some (seen x (replicate n None) (Some g.0)))) c.0) refl (λ y d. inl (sym st.0 ∙ d)) (λ i f. f) st.2)

  set-moved : (v x : Var) (i : ℕ) (r : Reply) → Step (minds u) (op.Line (act.Set v i (Some x))) r go
      → HasMoved (record sm { heap = (field_set sm.heap (place u v.0) i (Some (place u x.0))).state }) s.peer said u (op.Line (act.Set v i (Some x))) minds fills groups go
  set-moved v x i r st =
      let b = st.0 in
      let mind : Mind = record (minds u) { slots = put (minds u).slots v.0 (Some (seen b.target.number (Some b.value.number ∷ []) b.target.handle)) } in
      let next = with_mind minds u mind in
      let same : (field_set sm.heap (place u v.0) i (Some (place u x.0))).state ≡ with_field sm.heap b.target.number 0 (Some b.value.number) =
      ap (λ j. (field_set sm.heap (place u v.0) j (Some (place u x.0))).state) b.first
      ∙ set-is sm.heap (place u v.0) (place u x.0) b.target.number b.value.number (named v.0 b.target b.here) (named x.0 b.value b.there) ((w.objects u v.0 b.target b.here).0 ∙ b.bare) in
      subst (λ hp. HasMoved (record sm { heap = hp }) s.peer said u (op.Line (act.Set v i (Some x))) minds fills groups go) (sym same)
      (kept-moved (record sm { heap = with_field sm.heap b.target.number 0 (Some b.value.number) }) mind (op.Line (act.Set v i (Some x)))
      (write-shown sm minds next groups w u v.0 b.target b.value.number few b.v_small b.here b.bare (mind-other minds u mind)
      (ap (λ (z : Mind). z.slots) (mind-here minds u mind)) (ap (λ (z : Mind). z.stored) (mind-here minds u mind)))
      refl refl refl (λ j f. f) st.1)

  drop-moved : (v : Var) (r : Reply) → Step (minds u) (op.Line (act.Drop v)) r go
      → HasMoved (record sm { heap = with_var sm.heap (place u v.0) None }) s.peer said u (op.Line (act.Drop v)) minds fills groups go
  drop-moved v r st =
      let mind : Mind = record (minds u) { slots = put (minds u).slots v.0 None; stored = st.1 } in
      let next = with_mind minds u mind in
      let how : ((next u).stored ≡ (minds u).stored) ⊎ ((x : ℕ) → at (put (minds u).slots v.0 None) x ≡ None) = elim st.2
      [ inl a ↦ inl (ap (λ (z : Mind). z.stored) (mind-here minds u mind) ∙ a) | inr a ↦ inr a ] in
      kept-moved (record sm { heap = with_var sm.heap (place u v.0) None }) mind (op.Line (act.Drop v))
      (drop-shown sm minds next groups w u v.0 few st.0 (mind-other minds u mind) (ap (λ (z : Mind). z.slots) (mind-here minds u mind)) how)
      refl refl refl (λ j f. f) st.3

  lend-moved : (v : Var) (x : StaticNo) (r : Reply) → r ≡ handle_reply sm (place u v.0) → Step (minds u) (op.Lend v x) r go → HasMoved sm s.peer said u (op.Lend v x) minds fills groups go
  lend-moved v x r e st =
      let o = st.2 in
      let n = st.1 in
      let live = named-live v.0 o.outer o.here in
      let holds : Holds sm o.outer.number n = record { live = live; held = (w.objects u v.0 o.outer o.here).1 ∙ ap Some o.over_handle } in
      let says_it : handle_reply sm (place u v.0) ≡ says.H record { 0 = n } =
      ap (λ z. elim z as (λ y. Reply) [ None ↦ says.Empty | Some y ↦ elim (handle_of sm y) [ None ↦ says.Plain | Some g ↦ says.H record { 0 = g } ] ]) (named v.0 o.outer o.here)
      ∙ ap (λ z. elim z as (λ y. Reply) [ None ↦ says.Plain | Some g ↦ says.H record { 0 = g } ]) (Holds-handle_of sm o.outer.number n holds) in
      kept-moved sm (minds u) (op.Lend v x)
      (still-shown sm sm minds (with_mind minds u (minds u)) groups w refl refl refl refl refl
      (part-same (λ (z : Mind). z.slots) minds u (minds u) refl) (part-same (λ (z : Mind). z.stored) minds u (minds u) refl))
      refl refl refl (λ j f. f) (st.3 record { 0 = n } (e ∙ says_it) refl)

  -- and what a lend says
  lend-says : (v : Var) (x : StaticNo) (r : Reply) → r ≡ handle_reply sm (place u v.0) → Step (minds u) (op.Lend v x) r go → is_h r ≡ true
  lend-says v x r e st =
      let o = st.2 in
      let n = st.1 in
      let holds : Holds sm o.outer.number n = record { live = named-live v.0 o.outer o.here; held = (w.objects u v.0 o.outer o.here).1 ∙ ap Some o.over_handle } in
      ap is_h (e ∙ (ap (λ z. elim z as (λ y. Reply) [ None ↦ says.Empty | Some y ↦ elim (handle_of sm y) [ None ↦ says.Plain | Some g ↦ says.H record { 0 = g } ] ]) (named v.0 o.outer o.here)
      ∙ ap (λ z. elim z as (λ y. Reply) [ None ↦ says.Plain | Some g ↦ says.H record { 0 = g } ]) (Holds-handle_of sm o.outer.number n holds)))

  -- the side with a further peer and its handle
  abbrev paired : Sort → ℕ → PeerReplay
  paired sort n =
      let new : Issued = record { peer = next_number sp.heap; hold = held; strength = strong } in
      record s.peer { peers = with_handle (with_peer sp sort n) (next_number sp.heap) held strong; table = s.peer.table ++ fresh_row new ∷ [] }

  make-moved : (sort : Sort) (n : ℕ) (q : PNum) (g : HNum) → says.Made q g ≡ (pair_made sp sort n).reply → Step (minds u) (op.Make sort n) (says.Made q g) go
      → HasMoved sm (on_table s.peer (pair_made sp sort n)).state said u (op.Make sort n) minds fills groups go
  make-moved sort n q g e st =
      let c = pair-case (is_full sp.heap.fields || handles_full sp) sp (with_handle (with_peer sp sort n) (next_number sp.heap) held strong) q g (next_number sp.heap) (next_handle sp) e in
      let mind : Mind = record (minds u) { hand = Some g.0 } in
      let new : Issued = record { peer = next_number sp.heap; hold = held; strength = strong } in
      let grown : Peers = with_handle (with_peer sp sort n) (next_number sp.heap) held strong in
      let same : (on_table s.peer (pair_made sp sort n)).state ≡ paired sort n =
      ap (λ (z : Peers). record s.peer { peers = z; table = s.peer.table ++ map fresh_row (issued_since sp z) }) c.1
      ∙ ap (λ l. record s.peer { peers = grown; table = l }) (table-issued s.peer grown new refl) in
      subst (λ (z : PeerReplay). HasMoved sm z said u (op.Make sort n) minds fills groups go) (sym same)
      (record {
        mind = mind;
        more = groups;
        shown = still-shown sm sm minds (with_mind minds u mind) groups w refl refl refl refl refl
            (part-same (λ (z : Mind). z.slots) minds u mind refl) (part-same (λ (z : Mind). z.stored) minds u mind refl);
        peers = pair-shown sp fills groups p sort n (λ v z f. (k.peer.heap.slots z (inl (slot-Contains sp.heap.vars v z f))).made.1);
        are_held = record {
          owned = λ a row t. elim (numbered-push_cases s.peer.table (fresh_row new) a (Some row) t) [
            | inr r ↦ inr (inl (u, ap (λ (z : Mind). z.hand) (mind-here minds u mind) ∙ ap Some (c.0 ∙ sym (r.0 ∙ ap (λ n. n + 1) k.peer.handles.places))))
            | inl old ↦ elim (h.owned a row old) [
              | inl x ↦ inl x
              | inr (inl y) ↦ inr (inl (y.0, ap (λ (z : Mind). z.hand) (mind-other minds u mind y.0 (λ z. none_some a (sym st.0 ∙ (ap (λ i. (minds i).hand) (sym z) ∙ y.1)))) ∙ y.1))
              | inr (inr y) ↦ inr (inr y)
            ]
          ];
          freed = λ x a d f. (let o = h.freed x a d f in (o.0, peer_of-grows sp.issued new a o.0 o.1, o.2));
          leads = λ i l a d f. peer_of-grows sp.issued new a l.peer (h.leads i l a d f);
        };
        goes = st.1;
        from = λ i f. inl f;
        to = λ i l f. elim f [ inl d ↦ d | inr d ↦ absurd d ];
      })

  -- a handle that a row in a variable holds leads to its peer
  no-candidate : (x : ℕ) → IsManagedRoot sm x → Contains (candidates_of sm) x → ⊥
  no-candidate x root c = by sm.cycle refl
    where
      by : (o : Option OpenCycle) → sm.cycle ≡ o → ⊥
      by None e = Contains-nil x (subst (λ l. Contains l x) (ap (λ (z : Option OpenCycle). elim z as (λ y. List ℕ) [ None ↦ [] | Some y ↦ y.candidates ]) e) c)
      by (Some y) e =
          let cut = k.managed.managed.dead y e in
          cut.unnamed x root ((cut.candidates x).0 (subst (λ l. Contains l x) (candidates_of-open sm y e) c)).0

  leads-on : (v : ℕ) (x : Seen) (n : ℕ) → at (minds u).slots v ≡ Some x → x.handle ≡ Some n → (q : ℕ) × (table_target s.peer n ≡ Some q) × (peer_of sp.issued n ≡ Some q)
  leads-on v x n e f =
      let live = named-live v x e in
      let holds : Holds sm x.number n = record { live = live; held = (w.objects u v x e).1 ∙ ap Some f } in
      let strong_one = k.owners.strong_ones x.number n holds (no-candidate x.number (inl (inl (slot-Contains sm.heap.vars (place u v) x.number (named v x e))))) in
      let row = strong_one.0 in
      let uncleared : row.cleared ≡ false = k.peer.handles.sure n row strong_one.1 strong_one.2 in
      let i = k.owners.held_ones x.number n holds in
      let leads : peer_of sp.issued n ≡ Some i.0.peer = ap (λ (z : Option Issued). elim z as (λ y. Option ℕ) [ None ↦ None | Some y ↦ Some y.peer ]) i.1 in
      let tabled : row_of s.peer n ≡ Some row = ap (λ (z : Option (Option TableRow)). elim z as (λ y. Option TableRow) [ None ↦ None | Some y ↦ y ]) strong_one.1 in
      let target : table_target s.peer n ≡ peer_of sp.issued n =
      ap (λ (z : Option TableRow). elim z as (λ y. Option ℕ) [ None ↦ None | Some y ↦ if y.cleared then None else peer_of sp.issued n ]) tabled
      ∙ ap (λ b. if b then None else peer_of sp.issued n) uncleared in
      (i.0.peer, target ∙ leads, leads)

  -- so each group's bridge holds a handle on its peer, where one comes to stand at a place
  set-leads : (i : ℕ) (g : Group) (x : ℕ) → i < 32 → numbered_at sm.held g.bridge ≡ Some (Some x) → peer_of sp.issued x ≡ Some g.peer
      → (j : ℕ) (l : Group) (n : ℕ) → slot (set groups i (Some g)) j ≡ Some l → numbered_at sm.held l.bridge ≡ Some (Some n) → peer_of sp.issued n ≡ Some l.peer
  set-leads i g x small holds leads j l n e d = elim (cases_eq j i) [
    | inr ne ↦ h.leads j l n (sym (slot-set_other groups i j (Some g) ne) ∙ e) d
    | inl q ↦ (
        let same : g ≡ l = some-same g l (sym (slot-set_here groups i (Some g) (let a = w.spots in omega (arith, small, a))) ∙ (ap (λ z. slot (set groups i (Some g)) z) (sym q) ∙ e)) in
        let there : numbered_at sm.held g.bridge ≡ Some (Some n) = ap (λ (z : Group). numbered_at sm.held z.bridge) same ∙ d in
        let is : x ≡ n = some-same x n (some-same (Some x) (Some n) (sym holds ∙ there)) in
        ap (peer_of sp.issued) (sym is) ∙ (leads ∙ ap (λ (z : Group). Some z.peer) same))
  ]

  -- a group comes to stand at a place
  set-from : (i j : ℕ) (g : Group) (o : Op) → length groups ≡ 32 → ((l : ℕ) → l ≡ i → Fills l o) → is_some (slot (set groups i (Some g)) j) ≡ true → (is_some (slot groups j) ≡ true) ⊎ Fills j o
  set-from i j g o len f e = elim (cases_eq j i) [ inl q ↦ inr (f j q) | inr n ↦ inl (sym (ap is_some (slot-set_other groups i j (Some g) n)) ∙ e) ]

  set-to : (i j : ℕ) (g : Group) (o : Op) → i < 32 → length groups ≡ 32 → ((l : ℕ) → Fills l o → l ≡ i) → (is_some (slot groups j) ≡ true) ⊎ Fills j o → is_some (slot (set groups i (Some g)) j) ≡ true
  set-to i j g o small len f e = elim (cases_eq j i) [
    | inl q ↦ ap (λ z. is_some (slot (set groups i (Some g)) z)) q ∙ ap is_some (slot-set_here groups i (Some g) (omega (arith, small, len)))
    | inr n ↦ elim e [ inl d ↦ ap is_some (slot-set_other groups i j (Some g) n) ∙ d | inr d ↦ absurd (n (f j d)) ]
  ]

  store-moved : (x : StaticNo) (v : Var) (r : Reply) → Step (minds u) (op.Line (act.Store x (Some v))) r go
      → HasMoved (record sm { heap = (stored sm.heap x.0 (Some (place u v.0))).state }) s.peer said u (op.Line (act.Store x (Some v))) minds fills groups go
  store-moved x v r st =
      let o = st.3 in
      let mind : Mind = record (minds u) { stored = true } in
      let next = with_mind minds u mind in
      let target = leads-on o.other o.inner st.2 o.there o.under_handle in
      let g : Group = record { bridge = o.inner.number; plain = o.outer.number; peer = target.0; turned = false } in
      let outer = w.objects u v.0 o.outer o.here in
      let inner = w.objects u o.other o.inner o.there in
      let is : IsGroup sm g = record { holds = (st.2, inner.1 ∙ ap Some o.under_handle); none = outer.1 ∙ ap Some o.over_handle; joined = (outer.0 ∙ o.over_fields, inner.0 ∙ o.under_fields) } in
      let same = stored-is sm.heap x.0 (place u v.0) o.outer.number (named v.0 o.outer o.here) in
      let after : Managed = record sm { heap = with_static sm.heap x.0 (Some o.outer.number) } in
      let statics : (c : ℕ) → c < 16 → StaticIs (slot (set sm.heap.statics x.0 (Some o.outer.number)) c) (slot (set groups x.0 (Some g)) c) =
      λ c l. elim (cases_eq c x.0) [
        | inl q ↦ subst (λ z. StaticIs (slot (set sm.heap.statics x.0 (Some o.outer.number)) z) (slot (set groups x.0 (Some g)) z)) (sym q)
            (subst (λ z. StaticIs z (slot (set groups x.0 (Some g)) x.0)) (sym (slot-set_here sm.heap.statics x.0 (Some o.outer.number) (let a = w.shelf in let b = st.0 in omega (arith, a, b))))
            (subst (StaticIs (Some o.outer.number)) (sym (slot-set_here groups x.0 (Some g) (let a = w.spots in let b = st.0 in omega (arith, a, b)))) (refl, refl)))
        | inr n ↦ subst (λ z. StaticIs z (slot (set groups x.0 (Some g)) c)) (sym (slot-set_other sm.heap.statics x.0 c (Some o.outer.number) n))
            (subst (StaticIs (slot sm.heap.statics c)) (sym (slot-set_other groups x.0 c (Some g) n)) (w.statics c l))
      ] in
      subst (λ hp. HasMoved (record sm { heap = hp }) s.peer said u (op.Line (act.Store x (Some v))) minds fills groups go) (sym same)
      (record {
        mind = mind;
        more = set groups x.0 (Some g);
        shown = grouped sm minds next groups w u x.0 g (let b = st.0 in omega (arith, b)) is v.0 o.other o.outer o.inner o.here o.there (λ z n. elim n [ inl e ↦ inr e | inr e ↦ inl e ]) st.4
            (mind-other minds u mind) (part-same (λ (z : Mind). z.slots) minds u mind refl) (ap (λ (z : Mind). z.stored) (mind-here minds u mind))
            after refl refl refl refl (length-set sm.heap.statics x.0 (Some o.outer.number) ∙ w.shelf) statics;
        peers = regrouped sp fills groups p x.0 g st.0;
        are_held = hands-still after s.peer mind (set groups x.0 (Some g)) refl refl refl refl refl refl (set-leads x.0 g st.2 (let b = st.0 in omega (arith, b)) is.holds.1 target.2);
        goes = st.5;
        from = λ j e. set-from x.0 j g (op.Line (act.Store x (Some v))) w.spots (λ l q. q) e;
        to = λ j l e. set-to x.0 j g (op.Line (act.Store x (Some v))) (let b = st.0 in omega (arith, b)) w.spots (λ c q. q) e;
      })

  land-moved : (g : HNum) (x : StaticNo) (r : Reply) → Step (minds u) (op.Land g x) r go
      → HasMoved sm (brings (on_table s.peer (landed sp x.0 (table_target s.peer g.0)))).state said u (op.Land g x) minds fills groups go
  land-moved g x r st =
      let o = st.2 in
      let mind : Mind = record (minds u) { stored = true } in
      let next = with_mind minds u mind in
      let target = leads-on st.1 o.outer g.0 o.here o.over_handle in
      let y : Group = record { bridge = o.outer.number; plain = o.inner.number; peer = target.0; turned = true } in
      let outer = w.objects u st.1 o.outer o.here in
      let inner = w.objects u o.other o.inner o.there in
      let is : IsGroup sm y = record { holds = (g.0, outer.1 ∙ ap Some o.over_handle); none = inner.1 ∙ ap Some o.under_handle; joined = (outer.0 ∙ o.over_fields, inner.0 ∙ o.under_fields) } in
      let after : Peers = record sp { heap = with_static sp.heap x.0 (Some target.0) } in
      let landing : PeerReplay = record s.peer { peers = after; marking = brought_to s.peer.marking target.0 } in
      let same : (brings (on_table s.peer (landed sp x.0 (table_target s.peer g.0)))).state ≡ landing =
      ap (λ z. (brings (on_table s.peer (landed sp x.0 z))).state) target.1
      ∙ ap (λ l. record s.peer { peers = after; table = l; marking = brought_to s.peer.marking target.0 }) (table-still s.peer after refl) in
      let small = st.0 in
      subst (λ (z : PeerReplay). HasMoved sm z said u (op.Land g x) minds fills groups go) (sym same)
      (record {
        mind = mind;
        more = set groups (16 + x.0) (Some y);
        shown = grouped sm minds next groups w u (16 + x.0) y (omega (arith, small)) is st.1 o.other o.outer o.inner o.here o.there (λ z n. n) st.3
            (mind-other minds u mind) (part-same (λ (z : Mind). z.slots) minds u mind refl) (ap (λ (z : Mind). z.stored) (mind-here minds u mind))
            sm refl refl refl refl w.shelf
            (λ c l. subst (StaticIs (slot sm.heap.statics c)) (sym (slot-set_other groups (16 + x.0) c (Some y) (λ e. omega (arith, e, l)))) (w.statics c l));
        peers = land-shown sp fills groups p x.0 target.0 y small w.spots refl refl;
        are_held = hands-still sm landing mind (set groups (16 + x.0) (Some y)) refl refl refl refl refl refl (set-leads (16 + x.0) y g.0 (omega (arith, small)) is.holds.1 target.2);
        goes = st.4;
        from = λ j e. set-from (16 + x.0) j y (op.Land g x) w.spots (λ l q. q) e;
        to = λ j l e. set-to (16 + x.0) j y (op.Land g x) (omega (arith, small)) w.spots (λ c q. q) e;
      })

  -- any entry of a managed thread
  module _ (es : List Entry) (line : ℕ) (cites : Option ℕ) where
    abbrev Moves : Op → Reply → Told → Type 0
    Moves o r told = HasMoved (managed_after s.managed (entry (M u) line o r cites) told (is_peer_event (M u) o)).managed
        (peer_after s.peer (entry (M u) line o r cites) told (is_peer_event (M u) o)) said u o minds fills groups go

    pub moves : (o : Op) (r : Reply) (told : Told) → SideLawful (is_peer_event (M u) o) s (entry (M u) line o r cites) told → Step (minds u) o r go → Moves o r told
    moves (op.Line (act.New v kind n)) (says.M z) told l st = new-moved v kind n z l.replies st
    moves (op.Line (act.Set v i (Some x))) r told l st = set-moved v x i r st
    moves (op.Line (act.Drop v)) r told l st = drop-moved v r st
    moves (op.Line (act.Store x (Some v))) r told l st = store-moved x v r st
    moves (op.Make sort n) (says.Made q g) told l st = make-moved sort n q g l.replies st
    moves (op.Adopt v kind n q g) (says.M z) told l st =
        let a = adopted sm (place u v.0) kind n g.0 in
        subst (λ m. HasMoved m s.peer said u (op.Adopt v kind n q g) minds fills groups go) (sym (adopt_by-managed s.managed q.0 g.0 a.state a.reply))
        (adopt-moved v kind n q g z (l.replies ∙ adopt_by-reply s.managed q.0 g.0 a.state a.reply) st)
    moves (op.Lend v x) r told l st = lend-moved v x r l.replies st
    moves (op.Land g x) r told l st = land-moved g x r st
    moves _ _ told l st = absurd st

    pub lends : (o : Op) (r : Reply) (told : Told) → SideLawful (is_peer_event (M u) o) s (entry (M u) line o r cites) told → Step (minds u) o r go → SaysHandle o r
    lends (op.Lend v x) r told l st = lend-says v x r l.replies st
    lends _ r told l st = tt
