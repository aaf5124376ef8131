-- From the number on from which an object is held it isn't freed, and is in no open cycle's dead part: there no cycle
-- is open, and it isn't freed yet; each snap later on has it in a pin, so it is reached, not freed and left out of the
-- dead part; a resolve frees rows of the dead part alone; and no other entry frees or opens a cycle. As a cell's target
-- it was made.
use Rattle.known_laws.specs.Drawn.{open_after, open_in, CyclesAreDrawn}
use Rattle.std.proofs.Common.{◌≡◌, inl, inr, ⊎_elim, ℕ, ◌<◌, ◌≤◌, Bool, true, false, List, [], ◌∷◌, ◌++◌, Option, Some, None, refl, sym, ap, ◌∙◌, subst, arith, true≢false}
use Rattle.std.specs.Prelude.{Contains, if◌then◌else◌, nat_lt, slice_get, slice_set}
use Rattle.std.proofs.lemmas.Bool.{cases_Bool, ltb-true, ltb-false}
use Rattle.std.proofs.lemmas.Option.{same_Some}
use Rattle.std.proofs.lemmas.List.Elements.{Contains-append_cases}
use Rattle.joint_machine.specs.declared.names.Thread.{Thread}
use Rattle.joint_machine.specs.declared.names.Thread.TheVariants.{M, P, C}
use Rattle.joint_machine.specs.declared.names.Cycle.{Cycle}
use Rattle.joint_machine.specs.declared.events.Op.{Op}
use Rattle.joint_machine.specs.declared.events.Op.TheVariants as op
use Rattle.joint_machine.specs.declared.events.Reply.TheVariants as says
use Rattle.joint_machine.specs.declared.events.Made.{Made}
use Rattle.joint_machine.specs.Cycles.{IsSnapshot}
use Rattle.joint_machine.specs.Heaps.{Answered, answer, IsLive, slot, is_freed}
use Rattle.joint_machine.specs.Lines.{IsEvent, is_peer_event, is_read}
use Rattle.joint_machine.specs.Linked.{Linkage, SideLawful, linkage_after, managed_after}
use Rattle.joint_machine.specs.Managed.{Managed, OpenCycle, managed_name, cell_read, target_read}
use Rattle.joint_machine.specs.ManagedReplay.{ManagedReplay}
use Rattle.joint_machine.specs.Readers.{FreesObject}
use Rattle.joint_machine.specs.Told.{Told, Noted, snap_of, resolution_of}
use Rattle.joint_machine.specs.PinsTold.{bare_told, pins_told}
use Rattle.joint_machine.proofs.Deciding.{none_some}
use Rattle.joint_machine.proofs.Members.{Contains-nil, Contains-at, at-Contains}
use Rattle.joint_machine.proofs.WalkLemmas.{Reached-start}
use Rattle.joint_laws.specs.ManagedInvariants.{ReplayInvariant}
use Rattle.joint_laws.proofs.ManagedMoves.{GoesOn}
use Rattle.known_laws.specs.Known.{Comes, SideMayCome, given, without_pins}
use Rattle.known_laws.specs.Pasts.{Lawful, end_of}
use Rattle.known_laws.specs.PastEntries.{InPast}
use Rattle.known_laws.specs.Held.{those_below, IsHeld, HeldPinsStand, gone, object, answers_by, open_number, word_by, ReadsAreExact}
use Rattle.known_laws.proofs.FrozenPasts.{goes_by}
use Rattle.known_laws.proofs.Later.{IsSideAfter, side_after, reads_leave, kept_end}
use Rattle.known_laws.proofs.Pinned.{kept_pinned}
use Rattle.known_laws.proofs.PastsJoin.{below}
use Rattle.known_laws.proofs.SnapParts.{driver_goes}

-- what an entry does to what is freed, and to the open cycle
pub data Happens (s t : Managed) (x : Noted) (given_state : Managed) : Type 0 where
  stays : ((o : Option ℕ) → open_after x.entry.made.op o ≡ o) → t.heap.freed ≡ s.heap.freed → t.cycle ≡ s.cycle → Happens s t x given_state
  closes : ((o : Option ℕ) → open_after x.entry.made.op o ≡ None) → t.heap.freed ≡ s.heap.freed → t.cycle ≡ None → Happens s t x given_state
  snaps : (k : Cycle) (freed candidates dead : List ℕ) → x.entry.made.op ≡ op.Snap k → bare_told x.told ≡ snap_of freed candidates dead → IsSnapshot given_state k.0 freed candidates dead
      → t.heap.freed ≡ s.heap.freed ++ freed → t.cycle ≡ Some record { number = k.0; candidates = candidates; dead = dead } → Happens s t x given_state
  resolves : (c : OpenCycle) (freed : List ℕ) → s.cycle ≡ Some c → ((m : ℕ) → Contains freed m → FreesObject (bare_told x.told) m) → ((m : ℕ) → Contains freed m → Contains c.dead m)
      → ((o : Option ℕ) → open_after x.entry.made.op o ≡ None) → t.heap.freed ≡ s.heap.freed ++ freed → t.cycle ≡ None → Happens s t x given_state

-- only the driver opens and closes cycles, by three of its events
still_open : (t : Thread) (o : Op) → (t ≡ C → ⊥) → IsEvent t o → (z : Option ℕ) → open_after o z ≡ z
still_open C o n e z = absurd (n refl)
still_open (M u) (op.Snap k) n e z = absurd e
still_open (P u) (op.Snap k) n e z = absurd e
still_open (M u) (op.Resolve k) n e z = absurd e
still_open (P u) (op.Resolve k) n e z = absurd e
still_open (M u) (op.Abandon k) n e z = absurd e
still_open (P u) (op.Abandon k) n e z = absurd e
still_open t _ n e z = refl

read_open : (o : Op) → is_read o ≡ true → (z : Option ℕ) → open_after o z ≡ z
read_open (op.Snap k) e z = absurd (true≢false (sym e))
read_open (op.Resolve k) e z = absurd (true≢false (sym e))
read_open (op.Abandon k) e z = absurd (true≢false (sym e))
read_open _ e z = refl

pub happens : (x : Noted) (h : List Noted) → Lawful (x ∷ h) → Happens (end_of h).managed.managed (end_of (x ∷ h)).managed.managed x (given (end_of h) x.told).managed.managed
happens x h l = either (is_read x.entry.made.op) refl l.0.comes
  where
    s : Linkage
    s = end_of h

    s0 : Linkage
    s0 = given s x.told

    made : Thread → Op → Made
    made t o = record { caller = t; index = x.entry.made.index; op = o; reply = x.entry.made.reply; cites = x.entry.made.cites }

    R : Thread → Op → Told → ManagedReplay
    R t o told = managed_after s0.managed (made t o) told (is_peer_event t o)

    Goal : Managed → Type 0
    Goal t = Happens s.managed.managed t x s0.managed.managed

    side : is_read x.entry.made.op ≡ false → SideMayCome s x → Goal (end_of (x ∷ h)).managed.managed
    side r c = by x.entry.made.caller x.entry.made.op (bare_told x.told) refl refl refl c.comes.event c.comes.lawful
      where
        k0 : ReplayInvariant s0.managed
        k0 = (kept_pinned s _ c.stand (kept_end h l.1)).managed

        a : IsSideAfter s x
        a = side_after s x r

        ends : (t : Thread) (o : Op) (told : Told) → x.entry.made.caller ≡ t → x.entry.made.op ≡ o → bare_told x.told ≡ told → Goal (R t o told).managed → Goal (end_of (x ∷ h)).managed.managed
        ends t o told e f g w = subst (λ (z : Linkage). Goal z.managed.managed) (sym a.same) (again (subst (λ (z : ManagedReplay). Goal z.managed) (λ i. R (sym e i) (sym f i) (sym g i)) w))
          where
            again : Goal (linkage_after s0 (without_pins x)).managed.managed → Goal (record (linkage_after s0 (without_pins x)).managed.managed { pins = a.pins })
            again (stays d p q) = stays d p q
            again (closes d p q) = closes d p q
            again (snaps k freed candidates dead u v w p q) = snaps k freed candidates dead u v w p q
            again (resolves c freed u v w d p q) = resolves c freed u v w d p q

        goes : (t : Thread) (o : Op) (told : Told) → x.entry.made.caller ≡ t → x.entry.made.op ≡ o → bare_told x.told ≡ told
            → ((z : Option ℕ) → open_after o z ≡ z) → GoesOn s0.managed.managed (R t o told).managed → Goal (end_of (x ∷ h)).managed.managed
        goes t o told e f g d w = ends t o told e f g (stays (λ z. ap (λ y. open_after y z) f ∙ d z) w.freed w.cycle)

        by : (t : Thread) (o : Op) (told : Told) → x.entry.made.caller ≡ t → x.entry.made.op ≡ o → bare_told x.told ≡ told
            → IsEvent t o → SideLawful (is_peer_event t o) s0 (made t o) told → Goal (end_of (x ∷ h)).managed.managed
        by (M u) o told e f g v w = goes (M u) o told e f g (still_open (M u) o (λ z. cc) v) (goes_by s0.managed (made (M u) o) told (is_peer_event (M u) o) s0 refl (λ z. cc) v k0 w)
        by (P u) o told e f g v w = goes (P u) o told e f g (still_open (P u) o (λ z. cc) v) (goes_by s0.managed (made (P u) o) told (is_peer_event (P u) o) s0 refl (λ z. cc) v k0 w)
        by C (op.Snap k) (snap_of freed candidates dead) e f g v w = ends C (op.Snap k) (snap_of freed candidates dead) e f g
            (snaps k freed candidates dead f g w.allowed refl (λ i. Some record { number = sym w.allowed.next i; candidates = candidates; dead = dead }))
        by C (op.Snap k) told e f g v w = absurd w.allowed
        by C (op.Resolve k) (resolution_of alive freed) e f g v w = ends C (op.Resolve k) (resolution_of alive freed) e f g
            (resolves w.allowed.cycle freed w.allowed.open_cycle.0 (λ m d. subst (λ z. FreesObject z m) (sym g) d)
            (λ m d. ((w.allowed.resolution.frees m).0 d).0) (λ z. ap (λ y. open_after y z) f) refl refl)
        by C (op.Resolve k) told e f g v w = absurd w.allowed
        by C (op.Abandon k) told e f g v w = ends C (op.Abandon k) told e f g (closes (λ z. ap (λ y. open_after y z) f) refl refl)
        by C o told e f g v w = goes C o told e f g (λ z. refl) (driver_goes s0.managed x.entry.made.index x.entry.made.reply x.entry.made.cites o told k0 tt v)

    either : (r : Bool) → is_read x.entry.made.op ≡ r → Comes r s x → Goal (end_of (x ∷ h)).managed.managed
    either true e c = subst (λ (z : ManagedReplay). Goal z.managed) (sym (reads_leave s.managed x e)) (stays (read_open x.entry.made.op e) refl refl)
    either false e c = side e c

-- what is freed was freed by an entry
freed_by : (h : List Noted) → Lawful h → (m : ℕ) → Contains (end_of h).managed.managed.heap.freed m → (x : Noted) × InPast h x × FreesObject (bare_told x.told) m
freed_by [] l m c = absurd (Contains-nil m c)
freed_by (x ∷ h) l m c = by (freed_by h l.1 m) (happens x h l)
  where
    Found : Type 0
    Found = (y : Noted) × InPast (x ∷ h) y × FreesObject (bare_told y.told) m

    before : ((y : Noted) × InPast h y × FreesObject (bare_told y.told) m) → Found
    before w = (w.0, inr w.1, w.2)

    by : (Contains (end_of h).managed.managed.heap.freed m → (y : Noted) × InPast h y × FreesObject (bare_told y.told) m)
        → Happens (end_of h).managed.managed (end_of (x ∷ h)).managed.managed x (given (end_of h) x.told).managed.managed → Found
    by f (stays d p q) = before (f (subst (λ z. Contains z m) p c))
    by f (closes d p q) = before (f (subst (λ z. Contains z m) p c))
    by f (snaps k freed candidates dead u v w p q) = ⊎_elim (λ d. before (f d)) (λ d. (x, inl refl, subst (λ z. FreesObject z m) (sym v) d))
        (Contains-append_cases (end_of h).managed.managed.heap.freed freed m (subst (λ z. Contains z m) p c))
    by f (resolves o freed u v w d p q) = ⊎_elim (λ d. before (f d)) (λ d. (x, inl refl, v m d)) (Contains-append_cases (end_of h).managed.managed.heap.freed freed m (subst (λ z. Contains z m) p c))

-- unfreed, and outside of an open cycle's dead part
pub record IsSpared (s : Managed) (m : ℕ) : Type 0 where
  pub unfreed : Contains s.heap.freed m → ⊥
  pub outside : (c : OpenCycle) → s.cycle ≡ Some c → Contains c.dead m → ⊥

spared_step : (x : Noted) (h : List Noted) (r m : ℕ) → Lawful (x ∷ h) → ((k : Cycle) → x.entry.made.op ≡ op.Snap k → slot (pins_told x.told) r ≡ Some m)
    → IsSpared (end_of h).managed.managed m → IsSpared (end_of (x ∷ h)).managed.managed m
spared_step x h r m l kept o = by (happens x h l)
  where
    s : Managed
    s = (end_of h).managed.managed

    t : Managed
    t = (end_of (x ∷ h)).managed.managed

    closed : t.cycle ≡ None → (c : OpenCycle) → t.cycle ≡ Some c → Contains c.dead m → ⊥
    closed q c e d = none_some c (sym q ∙ e)

    by : Happens s t x (given (end_of h) x.told).managed.managed → IsSpared t m
    by (stays d p q) = record { unfreed = λ c. o.unfreed (subst (λ z. Contains z m) p c); outside = λ c e d. o.outside c (sym q ∙ e) d }
    by (closes d p q) = record { unfreed = λ c. o.unfreed (subst (λ z. Contains z m) p c); outside = closed q }
    by (snaps k freed candidates dead u v w p q) =
        let root = Reached-start _ _ m (inr (slot_in (pins_told x.told) r m (kept k u))) in
        record {
          unfreed = λ c. ⊎_elim o.unfreed (λ d. ((w.frees m).0 d).1 root) (Contains-append_cases s.heap.freed freed m (subst (λ z. Contains z m) p c));
          outside = λ c e d. ((w.leaves m).0 (subst (λ (z : OpenCycle). Contains z.dead m) (same_Some c _ (sym e ∙ q)) d)).1 root;
        }
      where
        slot_in : (pins : List (Option ℕ)) (r m : ℕ) → slot pins r ≡ Some m → Contains pins (Some m)
        slot_in pins r m e = by_get (slice_get pins r) refl e
          where
            by_get : (o : Option (Option ℕ)) → slice_get pins r ≡ o → (elim o [ None ↦ None | Some x ↦ x ]) ≡ Some m → Contains pins (Some m)
            by_get None q w = absurd (none_some m w)
            by_get (Some x) q w = Contains-at pins r (Some m) (q ∙ ap Some w)
    by (resolves c freed u v w y p q) = record {
      unfreed = λ d. ⊎_elim o.unfreed (λ d. o.outside c u (w m d)) (Contains-append_cases s.heap.freed freed m (subst (λ z. Contains z m) p d));
      outside = closed q;
    }

spared_end : (n r m : ℕ) (h : List Noted) → Lawful h → ((x : Noted) → InPast h x → n ≤ x.entry.number → (k : Cycle) → x.entry.made.op ≡ op.Snap k → slot (pins_told x.told) r ≡ Some m)
    → IsSpared (end_of (those_below n h)).managed.managed m → IsSpared (end_of h).managed.managed m
spared_end n r m [] l kept o = o
spared_end n r m (x ∷ h) l kept o = ⊎_elim
    (λ (e : nat_lt x.entry.number n ≡ true). subst (λ z. IsSpared (end_of z).managed.managed m) (ap (λ b. if b then x ∷ h else those_below n h) e) o)
    (λ (e : nat_lt x.entry.number n ≡ false). spared_step x h r m l (λ k q. kept x (inl refl) (ltb-false x.entry.number n e) k q)
    (spared_end n r m h l.1 (λ y p. kept y (inr p)) (subst (λ z. IsSpared (end_of z).managed.managed m) (ap (λ b. if b then x ∷ h else those_below n h) e) o)))
    (cases_Bool (nat_lt x.entry.number n))

-- the entries below a number
below_lawful : (n : ℕ) (h : List Noted) → Lawful h → Lawful (those_below n h)
below_lawful n [] l = l
below_lawful n (x ∷ h) l = by (nat_lt x.entry.number n) (below_lawful n h l.1)
  where
    by : (b : Bool) → Lawful (those_below n h) → Lawful (if b then x ∷ h else those_below n h)
    by true w = l
    by false w = w

below_in : (n : ℕ) (h : List Noted) → Lawful h → (y : Noted) → InPast (those_below n h) y → InPast h y × (y.entry.number < n)
below_in n [] l y p = absurd p
below_in n (x ∷ h) l y p = ⊎_elim
    (λ (e : nat_lt x.entry.number n ≡ true). let q : InPast (x ∷ h) y = subst (λ z. InPast z y) (ap (λ b. if b then x ∷ h else those_below n h) e) p in (q, less e q))
    (λ (e : nat_lt x.entry.number n ≡ false). let w = below_in n h l.1 y (subst (λ z. InPast z y) (ap (λ b. if b then x ∷ h else those_below n h) e) p) in (inr w.0, w.1))
    (cases_Bool (nat_lt x.entry.number n))
  where
    less : nat_lt x.entry.number n ≡ true → InPast (x ∷ h) y → y.entry.number < n
    less e q = let z = ltb-true x.entry.number n e in ⊎_elim (λ (s : x ≡ y). subst (λ (w : Noted). w.entry.number < n) s z) (λ s. let w = below x h y l.0 l.1 s in omega (arith, z, w)) q

-- a held object is live and outside
pub held_spared : (h : List Noted) (r m : ℕ) → Lawful h → IsHeld h r m → IsSpared (end_of h).managed.managed m
held_spared h r m l w =
    let b = those_below w.from h in
    let lb = below_lawful w.from h l in
    spared_end w.from r m h l w.kept (record {
      unfreed = λ c. (let f = freed_by b lb m c in let i = below_in w.from h l f.0 f.1 in w.alive f.0 i.0 i.1 f.2);
      outside = λ c e d. none_some c (sym w.closed ∙ e);
    })

cell_in : (cells : List (Option ℕ)) (c m : ℕ) → slot cells c ≡ Some m → Contains cells (Some m)
cell_in cells c m e = by (slice_get cells c) refl e
  where
    by : (o : Option (Option ℕ)) → slice_get cells c ≡ o → (elim o [ None ↦ None | Some x ↦ x ]) ≡ Some m → Contains cells (Some m)
    by None q w = absurd (none_some m w)
    by (Some x) q w = Contains-at cells c (Some m) (q ∙ ap Some w)

pub held_live : (h : List Noted) (r m : ℕ) → Lawful h → IsHeld h r m → IsLive (end_of h).managed.managed.heap m
held_live h r m l w = record { made = (kept_end h l).managed.managed.cells m (cell_in (end_of h).managed.managed.cells w.cell m w.aims); kept = (held_spared h r m l w).unfreed }

pub held_pins_stand : HeldPinsStand
held_pins_stand h pins l held = record {
  live = λ m c. (let w = found pins m c in held_live h w.0 m l (held w.0 m w.1));
  outside = λ c e m p d. (let w = found pins m p in (held_spared h w.0 m l (held w.0 m w.1)).outside c e d);
}
  where
    found : (pins : List (Option ℕ)) (m : ℕ) → Contains pins (Some m) → (r : ℕ) × (slot pins r ≡ Some m)
    found pins m c = let w = at-Contains pins (Some m) c in (w.0, ap (λ o. elim o [ None ↦ None | Some x ↦ x ]) w.1)

pub reads_are_exact : ReadsAreExact
reads_are_exact s t k = by (slot s.pins t) s.cycle (slot s.cells k) refl refl
  where
    by_freed : (m : ℕ) (b : Bool) → answers_by None None (if b then gone else object m)
        ≡ (let a : Answered Managed = (if b then answer says.Gone s else answer (managed_name m) (record s { pins = slice_set s.pins t (Some m) })) in a.reply)
    by_freed m true = refl
    by_freed m false = refl

    target : (o : Option ℕ) → answers_by None None (word_by s o) ≡ (target_read s t o).reply
    target None = refl
    target (Some m) = by_freed m (is_freed s.heap m)

    opened : (c : Option OpenCycle) (o : Option ℕ) → answers_by None (open_number c)
        (word_by s o) ≡ (let a : Answered Managed = elim c [ None ↦ target_read s t o | Some d ↦ answer (says.Pending record { 0 = d.number }) s ] in a.reply)
    opened None o = target o
    opened (Some d) o = refl

    cell : (c : Option OpenCycle) → answers_by None (open_number c) (word_by s (slot s.cells k)) ≡ (cell_read s t k c).reply
    cell None = target (slot s.cells k)
    cell (Some d) = refl

    by : (p : Option ℕ) (c : Option OpenCycle) (o : Option ℕ) → c ≡ s.cycle → o ≡ slot s.cells k
        → answers_by p (open_number c) (word_by s o) ≡ (let a : Answered Managed = elim p [ None ↦ cell_read s t k s.cycle | Some x ↦ answer (says.Pinned record { 0 = x }) s ] in a.reply)
    by (Some x) c o e f = refl
    by None c o e f = subst (λ z. answers_by None (open_number z) (word_by s o) ≡ (cell_read s t k s.cycle).reply) (sym e)
        (subst (λ z. answers_by None (open_number s.cycle) (word_by s z) ≡ (cell_read s t k s.cycle).reply) (sym f) (cell s.cycle))

-- the open cycle is as the events say
pub cycles_are_drawn : CyclesAreDrawn
cycles_are_drawn [] l = refl
cycles_are_drawn (x ∷ h) l = by (cycles_are_drawn h l.1) (happens x h l)
  where
    by : open_number (end_of h).managed.managed.cycle ≡ open_in h → Happens (end_of h).managed.managed (end_of (x ∷ h)).managed.managed x (given (end_of h) x.told).managed.managed
        → open_number (end_of (x ∷ h)).managed.managed.cycle ≡ open_after x.entry.made.op (open_in h)
    by e (stays d p q) = ap open_number q ∙ (e ∙ sym (d (open_in h)))
    by e (closes d p q) = ap open_number q ∙ sym (d (open_in h))
    by e (snaps k freed candidates dead u v w p q) = ap open_number q ∙ sym (ap (λ o. open_after o (open_in h)) u)
    by e (resolves c freed u v w d p q) = ap open_number q ∙ sym (d (open_in h))
