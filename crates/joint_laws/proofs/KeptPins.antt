-- Only a read that names an object and a take that names one change the pins. So the pins that these leave are those of
-- the managed state, and with them each entry of the managed side's own list is lawful: it is the entry of the whole
-- history.
use Rattle.std.proofs.Common.{◌≡◌, ℕ, Bool, true, false, not, ◌&&◌, List, [], ◌∷◌, Option, Some, None, refl, sym, ap, subst, ◌∙◌}
use Rattle.std.specs.Prelude.{if◌then◌else◌, slice_set}
use Rattle.joint_machine.specs.declared.names.Thread.{Thread}
use Rattle.joint_machine.specs.declared.names.Thread.TheVariants.{M, P, C}
use Rattle.joint_machine.specs.declared.names.Kind.{Kind}
use Rattle.joint_machine.specs.declared.names.Sort.{Sort}
use Rattle.joint_machine.specs.declared.lines.Act.{Act}
use Rattle.joint_machine.specs.declared.lines.Act.TheVariants as act
use Rattle.joint_machine.specs.declared.events.Op.{Op}
use Rattle.joint_machine.specs.declared.events.Op.TheVariants as op
use Rattle.joint_machine.specs.declared.events.Reply.{Reply}
use Rattle.joint_machine.specs.declared.events.Reply.TheVariants as says
use Rattle.joint_machine.specs.declared.events.Made.{Made}
use Rattle.joint_machine.specs.Heaps.{Answered, answer, slot, place, is_full, with_var}
use Rattle.joint_machine.specs.Lines.{IsEvent, is_peer_event, is_read}
use Rattle.joint_machine.specs.Linked.{Linkage, opening_linkage, linkage_after, SideLawful, ManagedLawful, managed_after}
use Rattle.joint_machine.specs.Managed.{Managed, OpenCycle, managed_name, managed_line, adopted, met, given_up, with_row, cell_set, weakened_to, pin_taken, without_handle, twin_met, twin_kind}
use Rattle.joint_machine.specs.Managed.{twin_fields}
use Rattle.joint_machine.specs.ManagedReplay.{ManagedReplay, opening_replay, registered}
use Rattle.joint_machine.specs.Readers.{is_managed_entry, pins_after, reader_after, EntryMayCome, entry_after, replayed_reading, AllMayComeReading}
use Rattle.joint_machine.specs.PinsTold.{AllKeptLawful, PinnedEntry, with_pins}
use Rattle.joint_machine.specs.Run.{thread_number}
use Rattle.joint_machine.specs.Told.{Told, snap_of, contraction_of, resolution_of, phase_of, Noted}
use Rattle.joint_machine.proofs.HeapLemmas.{adopt_by-managed}
use Rattle.joint_laws.specs.ReadingLaws.{pins_by, kept_from, kept_replayed, KeptPinsAreLawful, KeptPinsLeadToSame}
use Rattle.joint_laws.proofs.ManagedMoves.{met_by}
use Rattle.joint_laws.proofs.ManagedSteps.{meet_by-managed, give_by-managed}

abbrev Same : Managed → Managed → Type 0
Same s t = t.pins ≡ s.pins

-- by what a slot names, and by the open cycle
abbrev pub weak_by : Managed → ℕ → Option ℕ → Answered Managed
weak_by s k None = answer says.Empty s
weak_by s k (Some x) = cell_set s k x (slot s.cells k)

abbrev pub take_by : Managed → ℕ → ℕ → Option ℕ → Answered Managed
take_by s t v None = answer says.Empty s
take_by s t v (Some x) = answer (managed_name x) (record s { heap = with_var s.heap v (Some x); pins = slice_set s.pins t None })

module _ (s : Managed) where
  cell-pins : (k x : ℕ) (o : Option ℕ) → Same s (cell_set s k x o).state
  cell-pins k x None = refl
  cell-pins k x (Some y) = refl

  weak-pins : (k v : ℕ) → Same s (weakened_to s k v).state
  weak-pins k v = by (slot s.heap.vars v)
    where
      by : (o : Option ℕ) → Same s (weak_by s k o).state
      by None = refl
      by (Some x) = cell-pins k x (slot s.cells k)

  row-pins : (b : Bool) (r : Reply) (v : ℕ) (kind : Kind) (n : ℕ) (h : Option ℕ) → Same s (if b then answer says.Full s else answer r (with_row s v kind n h)).state
  row-pins true r v kind n h = refl
  row-pins false r v kind n h = refl

  twin-pins : (v h : ℕ) (sort : Sort) (n : ℕ) (o : Option ℕ) → Same s (twin_met s v h sort n o).state
  twin-pins v h sort n None = row-pins (is_full s.heap.fields) _ v (twin_kind sort) (twin_fields sort n) (Some h)
  twin-pins v h sort n (Some m) = refl

  met-pins : (v h : ℕ) (sort : Sort) (n : ℕ) (o : Option ℕ) → Same s (met s v h sort n o).state
  met-pins v h sort n o = by s.cycle
    where
      by : (c : Option OpenCycle) → Same s (met_by s v h sort n o c).state
      by None = twin-pins v h sort n o
      by (Some x) = refl

  give-pins : (o : Option ℕ) → Same s (without_handle s o)
  give-pins None = refl
  give-pins (Some x) = refl

  -- a take by its reply
  take-pins : (t v : ℕ) → (pin_taken s t v).state.pins ≡ pins_by s.pins (M t) (op.Line (act.Take record { 0 = v })) (pin_taken s t v).reply
  take-pins t v = by (slot s.pins t)
    where
      by : (o : Option ℕ) → (take_by s t v o).state.pins ≡ pins_by s.pins (M t) (op.Line (act.Take record { 0 = v })) (take_by s t v o).reply
      by None = refl
      by (Some x) = refl

-- an operation of one line that is no read
line-pins : (s : Managed) (t : Thread) (a : Act) → is_read (op.Line a) ≡ false
    → (managed_line s (thread_number t) a).state.pins ≡ pins_by s.pins t (op.Line a) (managed_line s (thread_number t) a).reply
line-pins s t (act.New v kind n) e = row-pins s (is_full s.heap.fields) _ (place (thread_number t) v.0) kind n None
line-pins s t (act.Weak k v) e = weak-pins s k.0 (place (thread_number t) v.0)
line-pins s t (act.Read k) e = absurd (let f : true ≡ false = e in cc)
line-pins s t (act.Await k) e = absurd (let f : true ≡ false = e in cc)
line-pins s t (act.Take v) e = take-pins s (thread_number t) (place (thread_number t) v.0)
line-pins s t _ e = refl

-- an entry that is no read
module _ (s : Linkage) (line : ℕ) (reply : Reply) (cites : Option ℕ) where
  abbrev pub is : Thread → Op → Made
  is t o = record { caller = t; index = line; op = o; reply = reply; cites = cites }

  abbrev pub Pinned : Thread → Op → Told → Bool → Type 0
  Pinned t o told b = (managed_after s.managed (is t o) told b).managed.pins ≡ pins_by s.managed.managed.pins t o reply

  own-line : (t : Thread) (a : Act) (told : Told) → is_read (op.Line a) ≡ false → reply ≡ (managed_line s.managed.managed (thread_number t) a).reply → Pinned t (op.Line a) told false
  own-line t a told e r = line-pins s.managed.managed t a e ∙ ap (λ z. pins_by s.managed.managed.pins t (op.Line a) z) (sym r)

  peer-line : (t : ℕ) (a : Act) (told : Told) → IsEvent (P t) (op.Line a) → is_read (op.Line a) ≡ false → Pinned (P t) (op.Line a) told true
  peer-line t (act.Read k) told e f = absurd e.0.1
  peer-line t (act.Await k) told e f = absurd e.0.1
  peer-line t (act.Take v) told e f = absurd e.0.1
  peer-line t _ told e f = refl

  pub entry-pins : (t : Thread) (o : Op) (told : Told) → IsEvent t o → SideLawful (is_peer_event t o) s (is t o) told → is_read o ≡ false → Pinned t o told (is_peer_event t o)
  entry-pins (M t) (op.Line a) told e w f = own-line (M t) a told f w.replies
  entry-pins C (op.Line a) told e w f = own-line C a told f w.replies
  entry-pins (P t) (op.Line a) told e w f = peer-line t a told e f
  entry-pins t (op.Adopt v kind n p h) told e w f =
      let a = adopted s.managed.managed (place (thread_number t) v.0) kind n h.0 in
      ap (λ (z : Managed). z.pins) (adopt_by-managed s.managed p.0 h.0 a.state a.reply)
      ∙ row-pins s.managed.managed (is_full s.managed.managed.heap.fields) _ (place (thread_number t) v.0) kind n (Some h.0)
  entry-pins t (op.Meet v sort n p h) told e w f =
      let a = met s.managed.managed (place (thread_number t) v.0) h.0 sort n (registered s.managed.registry p.0) in
      ap (λ (z : Managed). z.pins) (meet_by-managed s.managed p.0 h.0 a.state a.reply) ∙ met-pins s.managed.managed (place (thread_number t) v.0) h.0 sort n (registered s.managed.registry p.0)
  entry-pins t (op.Give v) told e w f =
      let u = place (thread_number t) v.0 in
      ap (λ (z : Managed). z.pins) (give_by-managed s.managed (slot s.managed.managed.heap.vars u) (given_up s.managed.managed u)) ∙ give-pins s.managed.managed (slot s.managed.managed.heap.vars u)
  entry-pins t (op.Snap k) (snap_of freed candidates dead) e w f = refl
  entry-pins t (op.Snap k) told e w f = refl
  entry-pins t (op.Contract k) (contraction_of comps heavy xrefs) e w f = refl
  entry-pins t (op.Contract k) told e w f = refl
  entry-pins t (op.Resolve k) (resolution_of alive freed) e w f = refl
  entry-pins t (op.Resolve k) told e w f = refl
  entry-pins t (op.Refused x) (phase_of phase) e w f = refl
  entry-pins t (op.Refused x) told e w f = refl
  entry-pins t o told e w f = refl

-- a read by its reply
pub read-pins : (pins : List (Option ℕ)) (t : Thread) (o : Op) (r : Reply) → is_read o ≡ true → pins_after pins (thread_number t) r ≡ pins_by pins t o r
read-pins pins t (op.Line (act.Read k)) (says.M m) e = refl
read-pins pins t (op.Line (act.Read k)) _ e = refl
read-pins pins t (op.Line (act.Await k)) (says.M m) e = refl
read-pins pins t (op.Line (act.Await k)) _ e = refl
read-pins pins t _ r e = absurd (let f : false ≡ true = e in cc)

abbrev pins_of : Linkage → List (Option ℕ)
pins_of s = s.managed.managed.pins

-- the list's own replay is the managed state, but for the pins
abbrev IsBut : ManagedReplay → Linkage → Type 0
IsBut r s = with_pins r (pins_of s) ≡ s.managed

-- an entry of the managed side's list, or another
data Turn (s : Linkage) (n : Noted) (r : ManagedReplay) : Type 0 where
  own : is_managed_entry n ≡ true → ManagedLawful (with_pins r (pins_of s)) n.entry.made n.told
      → IsBut (managed_after (with_pins r (pins_of s)) n.entry.made n.told false) (entry_after s n) → Turn s n r
  another : is_managed_entry n ≡ false → IsBut r (entry_after s n) → Turn s n r

module _ (whole : List Noted) (cells : List (Option ℕ)) (s : Linkage) (n : Noted) (r : ManagedReplay) (k : IsBut r s) where
  after-read : is_read n.entry.made.op ≡ true → entry_after s n ≡ reader_after s n
  after-read e = ap (λ b. if b then reader_after s n else linkage_after s n) e

  after-other : is_read n.entry.made.op ≡ false → entry_after s n ≡ linkage_after s n
  after-other e = ap (λ b. if b then reader_after s n else linkage_after s n) e

  managed-by : (p q : Bool) → is_peer_event n.entry.made.caller n.entry.made.op ≡ p → is_read n.entry.made.op ≡ q → is_managed_entry n ≡ (not p && not q)
  managed-by p q e f = ap (λ z. not z && not (is_read n.entry.made.op)) e ∙ ap (λ z. not p && not z) f

  turn-by : (p q : Bool) → is_peer_event n.entry.made.caller n.entry.made.op ≡ p → is_read n.entry.made.op ≡ q → EntryMayCome q whole cells s n → Turn s n r
  turn-by true true e f w = another (managed-by true true e f) (subst (λ z. IsBut r z) (sym (after-read f)) (ap (λ z. with_pins z (pins_of (reader_after s n))) k))
  turn-by false true e f w = another (managed-by false true e f) (subst (λ z. IsBut r z) (sym (after-read f)) (ap (λ z. with_pins z (pins_of (reader_after s n))) k))
  turn-by true false e f w = another (managed-by true false e f)
      (subst (λ z. IsBut r z) (sym (after-other f)) (subst (λ b. with_pins r (managed_after s.managed n.entry.made n.told b).managed.pins ≡ managed_after s.managed n.entry.made n.told b) (sym e) k))
  turn-by false false e f w = own (managed-by false false e f) (subst (λ z. ManagedLawful z n.entry.made n.told) (sym k) (subst (λ b. SideLawful b s n.entry.made n.told) e w.lawful))
      (subst (λ z. IsBut (managed_after (with_pins r (pins_of s)) n.entry.made n.told false) z) (sym (after-other f))
      (subst (λ b. with_pins (managed_after (with_pins r (pins_of s)) n.entry.made n.told false)
      (managed_after s.managed n.entry.made n.told b).managed.pins ≡ managed_after s.managed n.entry.made n.told b) (sym e)
      (ap (λ z. with_pins (managed_after z n.entry.made n.told false) (managed_after s.managed n.entry.made n.told false).managed.pins) k)))

  turn : EntryMayCome (is_read n.entry.made.op) whole cells s n → Turn s n r
  turn w = turn-by (is_peer_event n.entry.made.caller n.entry.made.op) (is_read n.entry.made.op) refl refl w

  -- the pins that reads and takes leave are those of the state
  pins-by : (q : Bool) → is_read n.entry.made.op ≡ q → EntryMayCome q whole cells s n → pins_of (entry_after s n) ≡ pins_by (pins_of s) n.entry.made.caller n.entry.made.op n.entry.made.reply
  pins-by true f w = ap pins_of (after-read f) ∙ read-pins (pins_of s) n.entry.made.caller n.entry.made.op n.entry.made.reply f
  pins-by false f w = ap pins_of (after-other f) ∙ entry-pins s n.entry.made.index n.entry.made.reply n.entry.made.cites n.entry.made.caller n.entry.made.op n.told w.event w.lawful f

  pins-on : EntryMayCome (is_read n.entry.made.op) whole cells s n → pins_of (entry_after s n) ≡ pins_by (pins_of s) n.entry.made.caller n.entry.made.op n.entry.made.reply
  pins-on w = pins-by (is_read n.entry.made.op) refl w

kept-cons : (pins : List (Option ℕ)) (n : Noted) (ns : List Noted) (b : Bool) → is_managed_entry n ≡ b
    → kept_from pins (n ∷ ns) ≡ (let rest = kept_from (pins_by pins n.entry.made.caller n.entry.made.op n.entry.made.reply) ns in if b then record { noted = n; pins = pins } ∷ rest else rest)
kept-cons pins n ns b e = ap (λ z. (let rest = kept_from (pins_by pins n.entry.made.caller n.entry.made.op n.entry.made.reply) ns in if z then record { noted = n; pins = pins } ∷ rest else rest)) e

-- what is known of the rest of the list
record IsKeptAlong (r : ManagedReplay) (s : Linkage) (ns : List Noted) (list : List PinnedEntry) : Type 0 where
  lawful : AllKeptLawful r list
  alike : IsBut (kept_replayed r list) (replayed_reading s ns)

kept-along : (whole : List Noted) (cells : List (Option ℕ)) (ns : List Noted) (s : Linkage) (r : ManagedReplay)
    → IsBut r s → AllMayComeReading whole cells s ns → IsKeptAlong r s ns (kept_from (pins_of s) ns)
kept-along whole cells [] s r k a = record { lawful = tt; alike = k }
kept-along whole cells (n ∷ ns) s r k a = by (turn whole cells s n r k a.0) (λ u v. kept-along whole cells ns (entry_after s n) u v a.1) (pins-on whole cells s n r k a.0)
  where
    by : Turn s n r → ((u : ManagedReplay) → IsBut u (entry_after s n) → IsKeptAlong u (entry_after s n) ns (kept_from (pins_of (entry_after s n)) ns))
        → pins_of (entry_after s n) ≡ pins_by (pins_of s) n.entry.made.caller n.entry.made.op n.entry.made.reply → IsKeptAlong r s (n ∷ ns) (kept_from (pins_of s) (n ∷ ns))
    by (own e l v) rest p =
        let u = managed_after (with_pins r (pins_of s)) n.entry.made n.told false in
        let w = subst (λ z. IsKeptAlong u (entry_after s n) ns (kept_from z ns)) p (rest u v) in
        subst (λ z. IsKeptAlong r s (n ∷ ns) z) (sym (kept-cons (pins_of s) n ns true e)) (record { lawful = (l, w.lawful); alike = w.alike })
    by (another e v) rest p =
        let w = subst (λ z. IsKeptAlong r (entry_after s n) ns (kept_from z ns)) p (rest r v) in
        subst (λ z. IsKeptAlong r s (n ∷ ns) z) (sym (kept-cons (pins_of s) n ns false e)) (record { lawful = w.lawful; alike = w.alike })

pub kept_pins_are_lawful : KeptPinsAreLawful
kept_pins_are_lawful noted w = (kept-along w.0 w.1 noted opening_linkage opening_replay refl w.2).lawful

pub kept_pins_lead_to_same : KeptPinsLeadToSame
kept_pins_lead_to_same noted w = (kept-along w.0 w.1 noted opening_linkage opening_replay refl w.2).alike
