-- From the read that gives an object up to its thread's next `take` the thread's pin holds the object. Of all entries
-- only a read that gives an object and a `take` change a pin, their own thread's; and a read with a filled pin gives
-- none. What a pin holds is live, since no slot names a freed object.
use Rattle.std.proofs.Common.{◌≡◌, ℕ, zero, suc, ◌+◌, ◌-◌, ◌<◌, inl, inr, ⊎_elim, Bool, true, false, List, [], ◌∷◌, length, take, Option, Some, None, refl, sym, ap, subst, ◌∙◌, arith}
use Rattle.std.specs.Prelude.{Contains, slice_get, slice_set}
use Rattle.std.proofs.lemmas.Bool.{cases_lt}
use Rattle.std.proofs.lemmas.List.{length-set, take_all}
use Rattle.std.proofs.lemmas.List.Elements.{Contains-append_right}
use Rattle.std.proofs.lemmas.Option.{same_Some, slice_get_cases}
use Rattle.joint_machine.specs.declared.names.MNum.{MNum}
use Rattle.joint_machine.specs.declared.names.Thread.{Thread}
use Rattle.joint_machine.specs.declared.names.Thread.TheVariants.{M, P, C}
use Rattle.joint_machine.specs.declared.names.Var.{Var}
use Rattle.joint_machine.specs.declared.lines.Act.TheVariants as act
use Rattle.joint_machine.specs.declared.events.Op.{Op}
use Rattle.joint_machine.specs.declared.events.Op.TheVariants as op
use Rattle.joint_machine.specs.declared.events.Reply.{Reply}
use Rattle.joint_machine.specs.declared.events.Reply.TheVariants as says
use Rattle.joint_machine.specs.Heaps.{Answered, IsLive, answer, slot}
use Rattle.joint_machine.specs.Lines.{IsEvent, is_peer_event, is_read}
use Rattle.joint_machine.specs.Linked.{Linkage, opening_linkage, managed_after}
use Rattle.joint_machine.specs.Replaying.{replayed}
use Rattle.joint_machine.specs.LinkedHistories.{managed_end}
use Rattle.joint_machine.specs.Managed.{Managed, cell_read, read_cell}
use Rattle.joint_machine.specs.ManagedReplay.{ManagedReplay}
use Rattle.joint_machine.specs.Readers.{ReadsCell, IsReadReply, EntryMayCome, AllMayComeReading, entry_after, pins_after, replayed_reading}
use Rattle.joint_machine.specs.Run.{thread_number}
use Rattle.joint_machine.specs.Told.{Told, Noted, snap_of, resolution_of}
use Rattle.joint_machine.proofs.Joining.{slice_get-set_other, slice_get-set_same}
use Rattle.joint_machine.proofs.Numbered.{slot-Contains}
use Rattle.joint_laws.specs.Afterwards.{reading_at}
use Rattle.joint_laws.specs.ManagedInvariants.{ManagedInvariant}
use Rattle.joint_laws.specs.ReadingLaws.{IsLawfulReading, pins_by, without_aside}
use Rattle.joint_laws.specs.States.{state_at}
use Rattle.joint_laws.proofs.Everywhere.{everywhere}
use Rattle.joint_laws.proofs.KeptPins.{entry-pins, read-pins}
use Rattle.joint_laws.proofs.LinkedEntries.{Of, BothInvariants-entry, BothInvariants-opening}
use Rattle.joint_laws.proofs.ReadingsGoneAfter.{entry-by, reading-after, reading-comes, reading-take}
use Rattle.joint_laws.proofs.ReadsAside.{reading_is_lawful, reading_leads_to_same}
use Rattle.pin_laws.specs.Pinned.{GivenObjectsLive, LinkedPinsHold, NoneFreesPinned, PinnedObjectsLive}
use Rattle.pin_laws.specs.Pins.{GivesAt, IsPinnedAt, NoTakeBetween}

abbrev pins_of : Linkage → List (Option ℕ)
pins_of s = s.managed.managed.pins

-- one place of the pins, after another or the same one was written
slot-other : (ps : List (Option ℕ)) (t u : ℕ) (o : Option ℕ) → (u ≡ t → ⊥) → slot (slice_set ps t o) u ≡ slot ps u
slot-other ps t u o d = ap (λ z. elim z [ None ↦ None | Some x ↦ x ]) (slice_get-set_other ps t u o d)

slot-here : (ps : List (Option ℕ)) (t : ℕ) (o : Option ℕ) → t < length ps → slot (slice_set ps t o) t ≡ o
slot-here ps t o l = ap (λ z. elim z [ None ↦ None | Some x ↦ x ]) (slice_get-set_same ps t o l)

-- there are as many pins after an event as before
count-by : (ps : List (Option ℕ)) (t : Thread) (o : Op) (r : Reply) → length (pins_by ps t o r) ≡ length ps
count-by ps t (op.Line (act.Read k)) (says.M m) = length-set ps (thread_number t) (Some m.0)
count-by ps t (op.Line (act.Read k)) _ = refl
count-by ps t (op.Line (act.Await k)) (says.M m) = length-set ps (thread_number t) (Some m.0)
count-by ps t (op.Line (act.Await k)) _ = refl
count-by ps t (op.Line (act.Take v)) (says.M m) = length-set ps (thread_number t) None
count-by ps t (op.Line (act.Take v)) _ = refl
count-by ps t _ r = refl

-- a pin stays as it is, unless its thread's read gives an object or its thread takes
stays-by : (ps : List (Option ℕ)) (u : ℕ) (t : Thread) (o : Op) (r : Reply)
    → ((x : MNum) → is_read o ≡ true → r ≡ says.M x → u ≡ thread_number t → ⊥) → ((v : Var) → o ≡ op.Line (act.Take v) → u ≡ thread_number t → ⊥)
    → slot (pins_by ps t o r) u ≡ slot ps u
stays-by ps u t (op.Line (act.Read k)) (says.M m) reads takes = slot-other ps (thread_number t) u (Some m.0) (reads m refl refl)
stays-by ps u t (op.Line (act.Read k)) _ reads takes = refl
stays-by ps u t (op.Line (act.Await k)) (says.M m) reads takes = slot-other ps (thread_number t) u (Some m.0) (reads m refl refl)
stays-by ps u t (op.Line (act.Await k)) _ reads takes = refl
stays-by ps u t (op.Line (act.Take v)) (says.M m) reads takes = slot-other ps (thread_number t) u None (takes v refl)
stays-by ps u t (op.Line (act.Take v)) _ reads takes = refl
stays-by ps u t _ r reads takes = refl

-- a read with a filled pin says what it holds
abbrev read_by : Managed → ℕ → ℕ → Option ℕ → Answered Managed
read_by s t k None = cell_read s t k s.cycle
read_by s t k (Some x) = answer (says.Pinned record { 0 = x }) s

filled : (s : Managed) (t k m : ℕ) → slot s.pins t ≡ Some m → (read_cell s t k).reply ≡ says.Pinned record { 0 = m }
filled s t k m e = ap (λ o. (read_by s t k o).reply) e

abbrev gives_object : Reply → Bool
gives_object (says.M m) = true
gives_object _ = false

reads-some : (o : Op) → is_read o ≡ true → (k : ℕ) × ReadsCell o k
reads-some (op.Line (act.Read k)) e = (k.0, refl)
reads-some (op.Line (act.Await k)) e = (k.0, refl)
reads-some _ e = absurd (let f : false ≡ true = e in cc)

is-read : (o : Op) (k : ℕ) → ReadsCell o k → is_read o ≡ true
is-read (op.Line (act.Read c)) k r = refl
is-read (op.Line (act.Await c)) k r = refl
is-read _ k r = absurd r

-- only managed threads take and read, m1 to m8
taker : (t : Thread) (v : Var) → IsEvent t (op.Line (act.Take v)) → t ≡ M (thread_number t)
taker (M n) v e = refl
taker (P n) v e = absurd e.0.1
taker C v e = absurd e.0

reader-few : (t : ℕ) (o : Op) → is_read o ≡ true → IsEvent (M t) o → t < 9
reader-few t (op.Line (act.Read k)) r e = let l = e.0.0.1 in omega (arith, l)
reader-few t (op.Line (act.Await k)) r e = let l = e.0.0.1 in omega (arith, l)
reader-few t _ r e = absurd (let f : false ≡ true = r in cc)

module _ (whole : List Noted) (cells : List (Option ℕ)) where
  abbrev Comes : Linkage → Noted → Type 0
  Comes s n = EntryMayCome (is_read n.entry.made.op) whole cells s n

  -- the pins after an entry are by its event and its reply
  pins-after : (s : Linkage) (n : Noted) → Comes s n → pins_of (entry_after s n) ≡ pins_by (pins_of s) n.entry.made.caller n.entry.made.op n.entry.made.reply
  pins-after s n may = by (is_read n.entry.made.op) refl may
    where
      by : (b : Bool) → is_read n.entry.made.op ≡ b → EntryMayCome b whole cells s n → pins_of (entry_after s n) ≡ pins_by (pins_of s) n.entry.made.caller n.entry.made.op n.entry.made.reply
      by true e w = ap pins_of (entry-by s n true e) ∙ read-pins (pins_of s) n.entry.made.caller n.entry.made.op n.entry.made.reply e
      by false e w = ap pins_of (entry-by s n false e) ∙ entry-pins s n.entry.made.index n.entry.made.reply n.entry.made.cites n.entry.made.caller n.entry.made.op n.told w.event w.lawful e

  event-of : (s : Linkage) (n : Noted) → Comes s n → IsEvent n.entry.made.caller n.entry.made.op
  event-of s n may = by (is_read n.entry.made.op) may
    where
      by : (b : Bool) → EntryMayCome b whole cells s n → IsEvent n.entry.made.caller n.entry.made.op
      by true w = w.0.event
      by false w = w.event

  -- a filled pin stays, unless its thread takes
  pin-stays : (s : Linkage) (n : Noted) (u m : ℕ) → Comes s n → slot (pins_of s) u ≡ Some m
      → ((v : Var) → n.entry.made.caller ≡ M u → n.entry.made.op ≡ op.Line (act.Take v) → ⊥) → slot (pins_of (entry_after s n)) u ≡ Some m
  pin-stays s n u m may h takes = ap (λ ps. slot ps u) (pins-after s n may) ∙ (stays-by (pins_of s) u n.entry.made.caller n.entry.made.op n.entry.made.reply gives
      (λ v e q. takes v (taker n.entry.made.caller v (subst (IsEvent n.entry.made.caller) e (event-of s n may)) ∙ ap (λ z. M z) (sym q)) e) ∙ h)
    where
      gives : (x : MNum) → is_read n.entry.made.op ≡ true → n.entry.made.reply ≡ says.M x → u ≡ thread_number n.entry.made.caller → ⊥
      gives x e r q =
          let k = reads-some n.entry.made.op e in
          let w = (subst (λ b. EntryMayCome b whole cells s n) e may).1 k.0 k.1 in
          let a : says.M x ≡ (read_cell s.managed.managed (thread_number n.entry.made.caller) k.0).reply = subst
          (λ z. IsReadReply whole cells s.managed.managed n.entry.number n.entry.made.caller k.0 z) r w in
          let b = filled s.managed.managed (thread_number n.entry.made.caller) k.0 m (ap (λ z. slot (pins_of s) z) (sym q) ∙ h) in
          let f : true ≡ false = ap gives_object (a ∙ b) in
          cc

  -- a read that gives an object fills its thread's pin
  pin-filled : (s : Linkage) (n : Noted) (u k m : ℕ) → Comes s n → length (pins_of s) ≡ 9 → n.entry.made.caller ≡ M u
      → ReadsCell n.entry.made.op k → n.entry.made.reply ≡ says.M record { 0 = m } → slot (pins_of (entry_after s n)) u ≡ Some m
  pin-filled s n u k m may nine t r e =
      let is = is-read n.entry.made.op k r in
      let few = reader-few u n.entry.made.op is (subst (λ z. IsEvent z n.entry.made.op) t (event-of s n may)) in
      let after : pins_of (entry_after s n) ≡ slice_set (pins_of s) u (Some m) = ap pins_of (entry-by s n true is) ∙ (λ i. pins_after (pins_of s) (thread_number (t i)) (e i)) in
      ap (λ ps. slot ps u) after ∙ slot-here (pins_of s) u (Some m) (omega (arith, few, nine))

  nine-pins : (ns : List Noted) (s : Linkage) → AllMayComeReading whole cells s ns → length (pins_of s) ≡ 9 → length (pins_of (replayed_reading s ns)) ≡ 9
  nine-pins [] s a e = e
  nine-pins (n ∷ ns) s a e = nine-pins ns (entry_after s n) a.1 (ap length (pins-after s n a.0) ∙ (count-by (pins_of s) n.entry.made.caller n.entry.made.op n.entry.made.reply ∙ e))

module _ (noted : List Noted) (w : IsLawfulReading noted) where
  nine : (j : ℕ) → length (pins_of (reading_at noted j)) ≡ 9
  nine j = nine-pins w.0 w.1 (take j noted) opening_linkage (reading-take w.0 w.1 noted opening_linkage j w.2) refl

  -- what every managed state keeps
  abbrev standing : ℕ → List Noted
  standing j = without_aside (take j noted)

  lawful : (j : ℕ) → IsLawfulReading (take j noted)
  lawful j = (w.0, w.1, reading-take w.0 w.1 noted opening_linkage j w.2)

  same : (j : ℕ) → (state_at (standing j) (length (standing j))).managed ≡ (reading_at noted j).managed
  same j = ap (λ ns. (replayed opening_linkage ns).managed) (take_all (length (standing j)) (standing j) (omega arith)) ∙ sym (reading_leads_to_same (take j noted) (lawful j)).managed

  kept : (j : ℕ) → ManagedInvariant (reading_at noted j).managed.managed
  kept j =
      let k = everywhere Of BothInvariants-opening BothInvariants-entry (standing j) (reading_is_lawful (take j noted) (lawful j)) (length (standing j)) in
      subst (λ (z : ManagedReplay). ManagedInvariant z.managed) (same j) k.managed.managed

  module _ (i t m : ℕ) (g : GivesAt noted i t m) where
    pin-since : (more : ℕ) → NoTakeBetween noted t i (suc i + more) → slot (pins_of (reading_at noted (suc i + more))) t ≡ Some m
    pin-since zero none =
        let e : suc i + 0 ≡ suc i = omega arith in
        ap (λ j. slot (pins_of (reading_at noted j)) t) e
        ∙ (ap (λ s. slot (pins_of s) t) (reading-after noted opening_linkage i g.element g.there)
        ∙ pin-filled w.0 w.1 (reading_at noted i) g.element t g.is.1.0 m (reading-comes w.0 w.1 noted opening_linkage i g.element w.2 g.there) (nine i) g.is.0 g.is.1.1 g.is.2)
    pin-since (suc more) none =
        let next : suc i + suc more ≡ suc (suc i + more) = omega arith in
        let before = pin-since more (λ x v l k. none x v l (omega (arith, k))) in
        ap (λ j. slot (pins_of (reading_at noted j)) t) next
        ∙ ⊎_elim
        (λ c. ap (λ s. slot (pins_of s) t) (reading-after noted opening_linkage (suc i + more) c.0 c.2)
        ∙ pin-stays w.0 w.1 (reading_at noted (suc i + more)) c.0 t m (reading-comes w.0 w.1 noted opening_linkage (suc i + more) c.0 w.2 c.2) before
        (λ v e f. none (suc i + more) v (omega arith) (omega arith) (record { element = c.0; there = c.2; is = (e, f) })))
        (λ c. ap (λ ns. slot (pins_of (replayed_reading opening_linkage ns)) t) (take_all (suc (suc i + more)) noted (let l = c.0 in omega (arith, l)) ∙ sym (take_all (suc i + more) noted c.0))
        ∙ before)
        (slice_get_cases noted (suc i + more)).1

    pinned-at : (j : ℕ) → i < j → NoTakeBetween noted t i j → IsPinnedAt noted j t m
    pinned-at j l none =
        let same : suc i + (j - suc i) ≡ j = omega (arith, l) in
        let p : slot (pins_of (reading_at noted j)) t ≡ Some m = subst (λ z. slot (pins_of (reading_at noted z)) t ≡ Some m) same
        (pin-since (j - suc i) (subst (NoTakeBetween noted t i) (sym same) none)) in
        (p, (kept j).roots m (inr (slot-Contains (pins_of (reading_at noted j)) t m p)))

    -- an entry that is no read and no take leaves the object in the pin: what it frees isn't that
    after-it : (j : ℕ) (n : Noted) (o : Op) (told : Told) → i < j → NoTakeBetween noted t i j → slice_get noted j ≡ Some n
        → n.entry.made.op ≡ o → n.told ≡ told → is_read o ≡ false → ((v : Var) → o ≡ op.Line (act.Take v) → ⊥)
        → Contains (managed_after (reading_at noted j).managed (record n.entry.made { op = o }) told (is_peer_event n.entry.made.caller o)).managed.heap.freed m → ⊥
    after-it j n o told l none there e f is_none no_take c =
        (pinned-at (suc j) (omega (arith, l)) still).1.kept (subst (λ (z : ManagedReplay). Contains z.managed.heap.freed m) (sym after) c)
      where
        after : (reading_at noted (suc j)).managed ≡ managed_after (reading_at noted j).managed (record n.entry.made { op = o }) told (is_peer_event n.entry.made.caller o)
        after = ap (λ (z : Linkage). z.managed) (reading-after noted opening_linkage j n there ∙ entry-by (reading_at noted j) n false (ap is_read e ∙ is_none))
            ∙ (λ z. managed_after (reading_at noted j).managed (record n.entry.made { op = e z }) (f z) (is_peer_event n.entry.made.caller (e z)))

        still : NoTakeBetween noted t i (suc j)
        still x v k below x_takes = elim (cases_lt x j) [
          | inl u ↦ none x v k u x_takes
          | inr u ↦ (
              let at : x ≡ j = omega (arith, u, below) in
              let one = same_Some x_takes.element n (sym x_takes.there ∙ (ap (λ z. slice_get noted z) at ∙ there)) in
              no_take v (sym e ∙ (ap (λ (z : Noted). z.entry.made.op) (sym one) ∙ x_takes.is.1)))
        ]

pub pinned_objects_live : PinnedObjectsLive
pinned_objects_live noted w i j t m g l none = pinned-at noted w i t m g j l none

pub given_objects_live : GivenObjectsLive
given_objects_live noted w i t m g =
    let p = pinned-at noted w i t m g (suc i) (omega arith) (λ x v l k takes. omega (arith, l, k)) in
    let same = ap (λ (s : Linkage). s.managed.managed.heap) (reading-after noted opening_linkage i g.element g.there
    ∙ entry-by (reading_at noted i) g.element true (is-read g.element.entry.made.op g.is.1.0 g.is.1.1)) in
    subst (λ h. IsLive h m) same p.1

abbrev frees_objects : Op → Bool
frees_objects (op.Snap k) = true
frees_objects (op.Resolve k) = true
frees_objects _ = false

pub none_frees_pinned : NoneFreesPinned
none_frees_pinned noted w i j t m k g l none (inl s) =
    after-it noted w i t m g j s.element (op.Snap record { 0 = k }) (snap_of s.is.1 s.is.2 s.is.3) l none s.there s.is.0 s.is.4 refl (λ v e. let f : true ≡ false = ap frees_objects e in cc)
    (Contains-append_right (reading_at noted j).managed.managed.heap.freed s.is.1 m s.is.5)
none_frees_pinned noted w i j t m k g l none (inr s) =
    after-it noted w i t m g j s.element (op.Resolve record { 0 = k }) (resolution_of s.is.1 s.is.2) l none s.there s.is.0 s.is.3 refl (λ v e. let f : true ≡ false = ap frees_objects e in cc)
    (Contains-append_right (reading_at noted j).managed.managed.heap.freed s.is.2 m s.is.4)

pub linked_pins_hold : LinkedPinsHold
linked_pins_hold h noted w i j t m g l none = pinned_objects_live noted (noted, (managed_end noted).cells, w.lawful) i j t m g l none
