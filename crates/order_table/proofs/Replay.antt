-- The pins of the replayed managed state are those that the lines leave.
use Rattle.std.proofs.Common.{map, ◌≡◌, ◌≢◌, ◌⊎◌, inl, inr, ⊎_elim, ℕ, zero, suc, ◌+◌, ◌-◌, ◌<◌, ◌≤◌, Bool, true, false, List, [], ◌∷◌, ◌++◌, length, refl, sym, ap, ◌∙◌, subst, arith, true≢false}
use Rattle.std.proofs.Common.{length-append, length-set}
use Rattle.std.specs.Prelude.{if◌then◌else◌, slice_set, replicate, Option, Some, None}
use Rattle.std.proofs.lemmas.Bool.{cases_Bool, both_ways}
use mathlib.Core.List.{append-nil, append_assoc}
use Rattle.joint_machine.specs.declared.names.Thread.{Thread}
use Rattle.joint_machine.specs.declared.names.Thread.TheVariants.{M, P, C}
use Rattle.joint_machine.specs.declared.names.Sort.{Sort}
use Rattle.joint_machine.specs.declared.lines.Act.{Act}
use Rattle.joint_machine.specs.declared.lines.Act.TheVariants as act
use Rattle.joint_machine.specs.declared.events.Op.{Op}
use Rattle.joint_machine.specs.declared.events.Op.TheVariants as op
use Rattle.joint_machine.specs.declared.events.Entry.{Entry}
use Rattle.joint_machine.specs.declared.events.Reply.{Reply}
use Rattle.joint_machine.specs.declared.events.Reply.TheVariants as says
use Rattle.joint_machine.specs.Lines.{is_peer_event, is_peer_thread, IsThread, is_read}
use Rattle.joint_machine.specs.Heaps.{slot, place, is_full, with_var, Answered, answer}
use Rattle.joint_machine.specs.Managed.{Managed, managed_line, adopted, cell_set, met, twin_met, given_up, without_handle, managed_name, OpenCycle}
use Rattle.joint_machine.specs.ManagedReplay.{ManagedReplay, managed_answer, adopt_by, meet_by, give_by, registered}
use Rattle.joint_machine.specs.Run.{thread_number}
use Rattle.joint_machine.specs.Told.{Told, snap_of, contraction_of, resolution_of, phase_of, Noted}
use Rattle.joint_machine.specs.Linked.{Linkage, opening_linkage, linkage_after, managed_after}
use Rattle.joint_machine.specs.Readers.{pins_after, reader_after, entry_after, replayed_reading}
use Rattle.joint_machine.specs.Control.{caller_place}
use Rattle.joint_machine.specs.HistoryLines.{caller_line}
use Rattle.order_table.specs.Owed.{PinDeed, fills, empties, stays, pin_deed, pin_after, pin}
use Rattle.order_table.specs.Rule.{Item, IsItem, is_in, of_line, RunsFrom}
use Rattle.order_table.specs.Facts.{entries_of}
use Rattle.order_table.specs.Replies.{first_of, object_of, PinsAreReplayed}
use Rattle.order_table.proofs.Gate.{if_true, if_false}
use Rattle.order_table.proofs.Pins.{pin_more}
use Rattle.order_table.proofs.Lines.{of_line_in, of_line_out, caller_in, in_cases}

-- a place of a list of slots
slot_here : (ps : List (Option ℕ)) (t : ℕ) (o : Option ℕ) → t < length ps → slot (slice_set ps t o) t ≡ o
slot_here [] t o l = absurd (omega arith)
slot_here (p ∷ ps) zero o l = refl
slot_here (p ∷ ps) (suc t) o l = slot_here ps t o (omega arith)

slot_else : (ps : List (Option ℕ)) (t r : ℕ) (o : Option ℕ) → r ≢ t → slot (slice_set ps t o) r ≡ slot ps r
slot_else [] t r o n = refl
slot_else (p ∷ ps) zero zero o n = absurd (n refl)
slot_else (p ∷ ps) zero (suc r) o n = refl
slot_else (p ∷ ps) (suc t) zero o n = refl
slot_else (p ∷ ps) (suc t) (suc r) o n = slot_else ps t r o (λ e. n (ap suc e))

-- the pins after an entry
abbrev taken : List (Option ℕ) → ℕ → Option ℕ → List (Option ℕ)
taken ps t None = ps
taken ps t (Some x) = slice_set ps t None

abbrev pub by_deed : List (Option ℕ) → ℕ → PinDeed → List (Option ℕ)
by_deed ps t (fills w) = slice_set ps t (object_of w)
by_deed ps t empties = taken ps t (slot ps t)
by_deed ps t stays = ps

-- what a managed event does to the pins
if_pins : (b : Bool) (x y : Answered Managed) (ps : List (Option ℕ)) → x.state.pins ≡ ps → y.state.pins ≡ ps → (if b then x else y).state.pins ≡ ps
if_pins true x y ps e f = e
if_pins false x y ps e f = f

abbrev take_by : Managed → ℕ → ℕ → Option ℕ → Answered Managed
take_by s t v o = elim o [ None ↦ answer says.Empty s | Some x ↦ answer (managed_name x) (record s { heap = with_var s.heap v (Some x); pins = slice_set s.pins t None }) ]

take_pins : (s : Managed) (t v : ℕ) (o : Option ℕ) → (take_by s t v o).state.pins ≡ taken s.pins t o
take_pins s t v None = refl
take_pins s t v (Some x) = refl

cell_pins : (s : Managed) (k x : ℕ) (o : Option ℕ) → (cell_set s k x o).state.pins ≡ s.pins
cell_pins s k x None = refl
cell_pins s k x (Some y) = refl

abbrev weak_by : Managed → ℕ → Option ℕ → Answered Managed
weak_by s k o = elim o [ None ↦ answer says.Empty s | Some x ↦ cell_set s k x (slot s.cells k) ]

weak_pins : (s : Managed) (k : ℕ) (o : Option ℕ) → (weak_by s k o).state.pins ≡ s.pins
weak_pins s k None = refl
weak_pins s k (Some x) = cell_pins s k x (slot s.cells k)

-- what an event with its reply does to the pin of its thread's number, whatever thread that is
abbrev pub any_deed : Op → Reply → PinDeed
any_deed (op.Line (act.Read c)) (says.M m) = fills (m.0 + 1)
any_deed (op.Line (act.Await c)) (says.M m) = fills (m.0 + 1)
any_deed (op.Line (act.Take v)) r = empties
any_deed _ _ = stays

same_deed : (n : ℕ) (o : Op) (y : Reply) → pin_deed (M n) o y ≡ any_deed o y
same_deed n (op.Line (act.Read c)) (says.M m) = refl
same_deed n (op.Line (act.Await c)) (says.M m) = refl
same_deed n (op.Line (act.Take v)) y = refl
same_deed n (op.Line (act.Read c)) _ = refl
same_deed n (op.Line (act.Await c)) _ = refl
same_deed n _ _ = refl

line_pins : (s : Managed) (t : ℕ) (a : Act) (y : Reply) → is_read (op.Line a) ≡ false → (managed_line s t a).state.pins ≡ by_deed s.pins t (any_deed (op.Line a) y)
line_pins s t (act.Read k) y e = absurd (true≢false e)
line_pins s t (act.Await k) y e = absurd (true≢false e)
line_pins s t (act.Take v) y e = take_pins s t (place t v.0) (slot s.pins t)
line_pins s t (act.New v kind n) y e = if_pins (is_full s.heap.fields) _ _ s.pins refl refl
line_pins s t (act.Weak k v) y e = weak_pins s k.0 (slot s.heap.vars (place t v.0))
line_pins s t _ y e = refl

adopt_state : (s : ManagedReplay) (p h : ℕ) (after : Managed) (r : Reply) → (adopt_by s p h after r).state.managed ≡ after
adopt_state s p h after (says.M m) = refl
adopt_state s p h after _ = refl

meet_state : (s : ManagedReplay) (p h : ℕ) (after : Managed) (r : Reply) → (meet_by s p h after r).state.managed ≡ after
meet_state s p h after (says.New m) = refl
meet_state s p h after _ = refl

give_state : (s : ManagedReplay) (o : Option ℕ) (a : Answered Managed) → (give_by s o a).state.managed ≡ a.state
give_state s None a = refl
give_state s (Some m) a = refl

handle_pins : (s : Managed) (o : Option ℕ) → (without_handle s o).pins ≡ s.pins
handle_pins s None = refl
handle_pins s (Some x) = refl

twin_pins : (s : Managed) (v h : ℕ) (sort : Sort) (n : ℕ) (twin : Option ℕ) → (twin_met s v h sort n twin).state.pins ≡ s.pins
twin_pins s v h sort n (Some m) = refl
twin_pins s v h sort n None = if_pins (is_full s.heap.fields) _ _ s.pins refl refl

abbrev met_by : Managed → ℕ → ℕ → Sort → ℕ → Option ℕ → Option OpenCycle → Answered Managed
met_by s v h sort n twin o = elim o [ None ↦ twin_met s v h sort n twin | Some c ↦ answer (says.Pending record { 0 = c.number }) s ]

met_pins : (s : Managed) (v h : ℕ) (sort : Sort) (n : ℕ) (twin : Option ℕ) (o : Option OpenCycle) → (met_by s v h sort n twin o).state.pins ≡ s.pins
met_pins s v h sort n twin None = twin_pins s v h sort n twin
met_pins s v h sort n twin (Some c) = refl

answer_pins : (s : ManagedReplay) (c : Thread) (o : Op) (told : Told) (y : Reply) → is_read o ≡ false
    → (managed_answer s c o told).state.managed.pins ≡ by_deed s.managed.pins (thread_number c) (any_deed o y)
answer_pins s c (op.Line a) told y e = line_pins s.managed (thread_number c) a y e
answer_pins s c (op.Adopt v kind n p h) told y e = let a = adopted s.managed (place (thread_number c) v.0) kind n h.0 in
    ap (λ (m : Managed). m.pins) (adopt_state s p.0 h.0 a.state a.reply) ∙ if_pins (is_full s.managed.heap.fields) _ _ s.managed.pins refl refl
answer_pins s c (op.Meet v sort n p h) told y e = let twin = registered s.registry p.0 in let a = met s.managed (place (thread_number c) v.0) h.0 sort n twin in
    ap (λ (m : Managed). m.pins) (meet_state s p.0 h.0 a.state a.reply) ∙ met_pins s.managed (place (thread_number c) v.0) h.0 sort n twin s.managed.cycle
answer_pins s c (op.Give v) told y e = let v' = place (thread_number c) v.0 in
    ap (λ (m : Managed). m.pins) (give_state s (slot s.managed.heap.vars v') (given_up s.managed v')) ∙ handle_pins s.managed (slot s.managed.heap.vars v')
answer_pins s c (op.Snap k) (snap_of freed candidates dead) y e = refl
answer_pins s c (op.Snap k) _ y e = refl
answer_pins s c (op.Contract k) (contraction_of comps heavy xrefs) y e = refl
answer_pins s c (op.Contract k) _ y e = refl
answer_pins s c (op.Resolve k) (resolution_of alive freed) y e = refl
answer_pins s c (op.Resolve k) _ y e = refl
answer_pins s c (op.Refused w) (phase_of phase) y e = refl
answer_pins s c (op.Refused w) _ y e = refl
answer_pins s c _ told y e = refl

-- what a read does to them
read_pins : (ps : List (Option ℕ)) (t : ℕ) (o : Op) (y : Reply) → is_read o ≡ true → pins_after ps t y ≡ by_deed ps t (any_deed o y)
read_pins ps t (op.Line (act.Read k)) (says.M m) e = ap (slice_set ps t) (ap object_of (let same : suc m.0 ≡ m.0 + 1 = omega arith in same))
read_pins ps t (op.Line (act.Await k)) (says.M m) e = ap (slice_set ps t) (ap object_of (let same : suc m.0 ≡ m.0 + 1 = omega arith in same))
read_pins ps t (op.Line (act.Read k)) _ e = refl
read_pins ps t (op.Line (act.Await k)) _ e = refl
read_pins ps t _ y e = absurd (true≢false (sym e))

-- who makes an entry that fills or empties a pin
thread_of : (c : Thread) → IsThread c → (r : ℕ) → r < 9 → caller_place c ≡ r → 0 < r → c ≡ M r
thread_of (M n) ok r small e pos = ap M e
thread_of (P n) ok r small e pos = absurd (let a = ok.0 in let z : 8 + n ≡ r = e in omega arith)
thread_of C ok r small e pos = absurd (let z : 0 ≡ r = e in omega arith)

-- a peer event of a managed thread, and of no thread a `take`
peer_stays : (c : Thread) (o : Op) (y : Reply) → is_peer_event c o ≡ true → is_peer_thread c ≡ false → is_read o ≡ false → any_deed o y ≡ stays
peer_stays c (op.Line a) y peer not_peer e = absurd (both_ways (is_peer_thread c) not_peer peer)
peer_stays c _ y peer not_peer e = refl

-- a managed entry of a peer thread leaves all pins
managed_stays : (n : ℕ) (o : Op) (y : Reply) → is_peer_event (P n) o ≡ false → is_read o ≡ false → any_deed o y ≡ stays
managed_stays n (op.Line a) y e f = absurd (true≢false e)
managed_stays n _ y e f = refl

-- the pins are those that the lines leave
abbrev pub Pins : List (Option ℕ) → List Item → Type 0
Pins ps before = (length ps ≡ 9) × ((r : ℕ) → 0 < r → r < 9 → slot ps r ≡ object_of (pin (of_line (r + 10) before)))

deed_length : (ps : List (Option ℕ)) (t : ℕ) (d : PinDeed) → length (by_deed ps t d) ≡ length ps
deed_length ps t (fills w) = length-set ps t (object_of w)
deed_length ps t empties = by_slot (slot ps t)
  where
    by_slot : (o : Option ℕ) → length (taken ps t o) ≡ length ps
    by_slot None = refl
    by_slot (Some x) = length-set ps t None
deed_length ps t stays = refl

deed_here : (ps : List (Option ℕ)) (t p : ℕ) (d : PinDeed) → t < length ps → slot ps t ≡ object_of p → slot (by_deed ps t d) t ≡ object_of (pin_after p d)
deed_here ps t p (fills w) l e = slot_here ps t (object_of w) l
deed_here ps t p empties l e = by_slot (slot ps t) refl
  where
    by_slot : (o : Option ℕ) → slot ps t ≡ o → slot (taken ps t o) t ≡ None
    by_slot None f = f
    by_slot (Some x) f = slot_here ps t None l
deed_here ps t p stays l e = e

deed_else : (ps : List (Option ℕ)) (t r : ℕ) (d : PinDeed) → r ≢ t → slot (by_deed ps t d) r ≡ slot ps r
deed_else ps t r (fills w) n = slot_else ps t r (object_of w) n
deed_else ps t r empties n = by_slot (slot ps t)
  where
    by_slot : (o : Option ℕ) → slot (taken ps t o) r ≡ slot ps r
    by_slot None = refl
    by_slot (Some x) = slot_else ps t r None n
deed_else ps t r stays n = refl

-- an entry that does to the pins what its deed says, but for an entry that does nothing
pub pins_step : (before : List Item) (x : Item) (ps : List (Option ℕ)) → x.role < 10 → IsThread x.kept.entry.made.caller
    → (any_deed x.kept.entry.made.op x.kept.entry.made.reply ≡ stays) ⊎ ((n : ℕ) × (x.kept.entry.made.caller ≡ M n)) ⊎ (x.kept.entry.made.caller ≡ C)
    → Pins ps before → Pins (by_deed ps (thread_number x.kept.entry.made.caller) (any_deed x.kept.entry.made.op x.kept.entry.made.reply)) (before ++ x ∷ [])
pins_step before x ps small ok who h = (
  deed_length ps t d ∙ h.0,
  λ r pos low. ⊎_elim
      (λ (e : is_in (r + 10) x ≡ true). let is = thread_of c ok r low (place_is r pos low e) pos in let t_is : t ≡ r = ap thread_number is in
      subst (λ k. slot (by_deed ps k d) r ≡ object_of (pin (of_line (r + 10) (before ++ x ∷ [])))) (sym t_is)
      (deed_here ps r (pin (of_line (r + 10) before)) d (let l = h.0 in omega arith) (h.1 r pos low)
      ∙ ap object_of (sym (ap pin (of_line_in (r + 10) before x e)
      ∙ (pin_more (of_line (r + 10) before) x.kept ∙ ap (pin_after (pin (of_line (r + 10) before))) (ap (λ k. pin_deed k o y) is ∙ same_deed r o y))))))
      (λ (e : is_in (r + 10) x ≡ false). ⊎_elim
      (λ (s : d ≡ stays). ap (λ z. slot (by_deed ps t z) r) s)
      (λ w. deed_else ps t r d (λ same. both_ways (is_in (r + 10) x) e (caller_in (r + 10) x (far r pos same w)))) who
      ∙ (h.1 r pos low ∙ ap object_of (sym (ap pin (of_line_out (r + 10) before x e)))))
      (cases_Bool (is_in (r + 10) x)),
)
  where
    c : Thread
    c = x.kept.entry.made.caller

    t : ℕ
    t = thread_number c

    o : Op
    o = x.kept.entry.made.op

    y : Reply
    y = x.kept.entry.made.reply

    d : PinDeed
    d = any_deed o y

    place_is : (r : ℕ) → 0 < r → r < 9 → is_in (r + 10) x ≡ true → caller_place c ≡ r
    place_is r pos low e = ⊎_elim (λ z. absurd (omega arith)) (λ z. let z' : r + 10 ≡ caller_place c + 10 = z in omega arith) (in_cases (r + 10) x e)

    far : (r : ℕ) → 0 < r → r ≡ t → ((n : ℕ) × (c ≡ M n)) ⊎ (c ≡ C) → r + 10 ≡ caller_line c
    far r pos same (inl w) = ap (λ (k : ℕ). k + 10) (same ∙ ap thread_number w.1) ∙ ap caller_line (sym w.1)
    far r pos same (inr w) = absurd (let z : t ≡ 0 = ap thread_number w in omega arith)

-- an entry of a peer thread
pub pins_apart : (before : List Item) (x : Item) (ps : List (Option ℕ)) → x.role < 10 → IsThread x.kept.entry.made.caller
    → (n : ℕ) → x.kept.entry.made.caller ≡ P n → Pins ps before → Pins ps (before ++ x ∷ [])
pins_apart before x ps small ok n is h = (
  h.0,
  λ r pos low. h.1 r pos low ∙ ap object_of (sym (ap pin (of_line_out (r + 10) before x (⊎_elim
      (λ e. absurd (let own : caller_place x.kept.entry.made.caller ≡ 8 + n = ap caller_place is in let some : (1 ≤ n) × (n ≤ 8) = subst IsThread is ok in let a = some.0 in
      ⊎_elim (λ z. omega arith) (λ z. let z' : r + 10 ≡ caller_place x.kept.entry.made.caller + 10 = z in omega arith) (in_cases (r + 10) x e)))
      (λ e. e) (cases_Bool (is_in (r + 10) x)))))),
)

whose : (c : Thread) → ((n : ℕ) × (c ≡ M n)) ⊎ ((n : ℕ) × (c ≡ P n)) ⊎ (c ≡ C)
whose (M n) = inl (n, refl)
whose (P n) = inr (inl (n, refl))
whose C = inr (inr refl)

entry_step : (before : List Item) (x : Item) (told : Told) (s : Linkage) (i : ℕ) → IsItem i x → Pins s.managed.managed.pins before
    → Pins (entry_after s record { entry = x.kept.entry; told = told }).managed.managed.pins (before ++ x ∷ [])
entry_step before x told s i item h = ⊎_elim
    (λ (e : is_read o ≡ true).
    let not_managed : x.role ≡ 0 → ⊥ = λ z. both_ways (is_read o) (item.stands.managed z).0 e in
    let not_peer : x.role ≡ 1 → ⊥ = λ z. both_ways (is_read o) (item.stands.peer z).0 e in
    subst (λ ps. Pins ps (before ++ x ∷ [])) (sym (ap (λ (l : Linkage). l.managed.managed.pins) (if_true (is_read o) (reader_after s n) (linkage_after s n) e) ∙ read_pins now (thread_number c) o y e))
    (pins_step before x now small ok (inr (inl (x.role - 1, (item.stands.reader (omega (arith, not_managed, not_peer))).1))) h))
    (λ (e : is_read o ≡ false). subst (λ ps. Pins ps (before ++ x ∷ []))
    (sym (ap (λ (l : Linkage). l.managed.managed.pins) (if_false (is_read o) (reader_after s n) (linkage_after s n) e))) (⊎_elim (peer e) (managed e) (cases_Bool (is_peer_event c o))))
    (cases_Bool (is_read o))
  where
    small : x.role < 10
    small = item.stands.one

    ok : IsThread x.kept.entry.made.caller
    ok = item.caller

    c : Thread
    c = x.kept.entry.made.caller

    o : Op
    o = x.kept.entry.made.op

    y : Reply
    y = x.kept.entry.made.reply

    n : Noted
    n = record { entry = x.kept.entry; told = told }

    now : List (Option ℕ)
    now = s.managed.managed.pins

    after : Bool → List (Option ℕ)
    after b = (managed_after s.managed x.kept.entry.made told b).managed.pins

    peer : is_read o ≡ false → is_peer_event c o ≡ true → Pins (after (is_peer_event c o)) (before ++ x ∷ [])
    peer e p = subst (λ b. Pins (after b) (before ++ x ∷ [])) (sym p) (⊎_elim
        (λ w. same (peer_stays c o y p (ap is_peer_thread w.1) e))
        (λ z. ⊎_elim (λ w. pins_apart before x now small ok w.0 w.1 h) (λ w. same (peer_stays c o y p (ap is_peer_thread w) e)) z)
        (whose c))
      where
        same : any_deed o y ≡ stays → Pins now (before ++ x ∷ [])
        same d = subst (λ ps. Pins ps (before ++ x ∷ [])) (ap (by_deed now (thread_number c)) d) (pins_step before x now small ok (inl d) h)

    managed : is_read o ≡ false → is_peer_event c o ≡ false → Pins (after (is_peer_event c o)) (before ++ x ∷ [])
    managed e p = subst (λ b. Pins (after b) (before ++ x ∷ [])) (sym p) (subst (λ ps. Pins ps (before ++ x ∷ [])) (sym (answer_pins s.managed c o told y e)) (pins_step before x now small ok (⊎_elim
        (λ w. inr (inl w))
        (λ z. ⊎_elim (λ w. inl (managed_stays w.0 o y (subst (λ t. is_peer_event t o ≡ false) w.1 p) e)) (λ w. inr (inr w)) z)
        (whose c)) h))

pins_replayed : (before xs : List Item) (ns : List Noted) (s : Linkage) → RunsFrom (length before) xs → map (λ n. n.entry) ns ≡ entries_of xs
    → Pins s.managed.managed.pins before → Pins (replayed_reading s ns).managed.managed.pins (before ++ xs)
pins_replayed before [] [] s runs same h = subst (Pins s.managed.managed.pins) (sym (append-nil before)) h
pins_replayed before [] (n ∷ ns) s runs same h = absurd (cc)
pins_replayed before (x ∷ xs) [] s runs same h = absurd (cc)
pins_replayed before (x ∷ xs) (n ∷ ns) s runs same h =
    let first : n.entry ≡ x.kept.entry = cc in
    let rest : map (λ n. n.entry) ns ≡ entries_of xs = cc in
    subst (Pins (replayed_reading (entry_after s n) ns).managed.managed.pins) (append_assoc before (x ∷ []) xs)
    (pins_replayed (before ++ x ∷ []) xs ns (entry_after s n) (subst (λ l. RunsFrom l xs) (sym (length-append before (x ∷ []))) runs.1) rest
    (subst (λ (e : Entry). Pins (entry_after s record { entry = e; told = n.told }).managed.managed.pins (before ++ x ∷ [])) (sym first) (entry_step before x n.told s (length before) runs.0 h)))

runs_first : (i n : ℕ) (xs : List Item) → RunsFrom n xs → RunsFrom n (first_of i xs)
runs_first zero n xs r = tt
runs_first (suc i) n [] r = tt
runs_first (suc i) n (x ∷ xs) r = (r.0, runs_first i (n + 1) xs r.1)

same_first : (i : ℕ) (xs : List Item) (ns : List Noted) → map (λ n. n.entry) ns ≡ entries_of xs → map (λ n. n.entry) (first_of i ns) ≡ entries_of (first_of i xs)
same_first zero xs ns e = refl
same_first (suc i) [] [] e = refl
same_first (suc i) [] (n ∷ ns) e = absurd (cc)
same_first (suc i) (x ∷ xs) [] e = absurd (cc)
same_first (suc i) (x ∷ xs) (n ∷ ns) e =
    let first : n.entry ≡ x.kept.entry = cc in
    let rest : map (λ n. n.entry) ns ≡ entries_of xs = cc in
    λ j. first j ∷ same_first i xs ns rest j

none_at : (n r : ℕ) → slot {A = ℕ} (replicate n None) r ≡ None
none_at zero r = refl
none_at (suc n) zero = refl
none_at (suc n) (suc r) = none_at n r

pub pins_are_replayed : (whole : List Item) → RunsFrom 0 whole → PinsAreReplayed whole
pins_are_replayed whole runs ns same i r pos small =
    (pins_replayed [] (first_of i whole) (first_of i ns) opening_linkage (runs_first i 0 whole runs) (same_first i whole ns same) (refl, λ k a b. none_at 9 k)).1 r pos small
