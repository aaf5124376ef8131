-- What a read may answer that is set aside is told by counts. A cycle has one end and a cell one setting, so each has
-- one count; each cycle that was counted has its snap; and what is freed at a state some entry before it freed.
use Rattle.std.proofs.Common.{◌≡◌, ◌⊎◌, inl, inr, ℕ, ◌+◌, ◌<◌, ◌≤◌, Bool, true, false, List, [], ◌∷◌, length, Option, Some, None, refl, sym, ap, ◌∙◌, subst, arith, eq-eqb, if◌then◌else◌}
use Rattle.std.specs.Prelude.{Contains}
use Rattle.std.proofs.lemmas.Bool.{eqb-true}
use Rattle.std.proofs.lemmas.List.Elements.{Contains-append_cases}
use Rattle.joint_machine.specs.declared.names.Thread.{Thread}
use Rattle.joint_machine.specs.declared.names.Thread.TheVariants.{M, P, C}
use Rattle.joint_machine.specs.declared.lines.Act.TheVariants as act
use Rattle.joint_machine.specs.declared.events.Made.{Made}
use Rattle.joint_machine.specs.declared.events.Op.{Op}
use Rattle.joint_machine.specs.declared.events.Op.TheVariants as op
use Rattle.joint_machine.specs.declared.events.Reply.{Reply}
use Rattle.joint_machine.specs.declared.events.Reply.TheVariants as says
use Rattle.joint_machine.specs.Heaps.{slot, place}
use Rattle.joint_machine.specs.Lines.{IsEvent, is_peer_event, is_read}
use Rattle.joint_machine.specs.Linked.{Linkage, MayCome, SideLawful, ManagedLawful, linkage_after, managed_after}
use Rattle.joint_machine.specs.Managed.{Managed, OpenCycle, cell_set, weakened_to, adopted, met, given_up}
use Rattle.joint_machine.specs.ManagedReplay.{ManagedReplay, ManagedAllows, managed_answer, registered}
use Rattle.joint_machine.specs.Readers.{IsManagedAt, EndsCycleAt, SetsCell, SetsCellAt, IsCallersAt, HasKnownFrom, FreesObject, MayBeUnset, entry_after}
use Rattle.joint_machine.specs.Run.{thread_number}
use Rattle.joint_machine.specs.Told.{Told, Noted, snap_of, contraction_of, resolution_of, phase_of}
use Rattle.joint_machine.proofs.Deciding.{none_some, true-false}
use Rattle.joint_machine.proofs.HeapLemmas.{adopt_by-managed}
use Rattle.joint_machine.proofs.Joining.{slice_get-set_same}
use Rattle.joint_machine.proofs.Members.{Contains-nil}
use Rattle.joint_laws.specs.ManagedInvariants.{ReplayInvariant}
use Rattle.joint_laws.proofs.KeptPins.{weak_by}
use Rattle.joint_laws.proofs.ManagedEntries.{ManagedStep-entry}
use Rattle.joint_laws.proofs.ManagedMoves.{managed_line-goes_on, adopted-goes_on, met-goes_on, given_up-goes_on}
use Rattle.joint_laws.proofs.ManagedSteps.{ManagedStep, going_on, snapping, resolving, abandoning, meet_by-managed, give_by-managed, twin-live}
use Rattle.known_laws.specs.PastEntries.{InPast}
use Rattle.check_laws.specs.Known.{PastAt, ManagedAt, KnownFrom, managed_count, count_below, seen}
use Rattle.check_laws.specs.Behind.{in_turn, state_of, MayBePendingBehind}
use Rattle.check_laws.specs.Counts.{ends_cycle, sets_cell, ended, Setting, setting, AtMost, IsPendingBy, IsUnknown, IsUnsetBy, ReadsAreCounted}
use Rattle.check_laws.specs.Reads.{ComesBehind, AllComeBehind, AreInPlace}
use Rattle.check_laws.proofs.Keeping.{AllStand, after-read, after-other, kept, since-on, all_come-back, all_stand-back, freed-in, opens-on, snap-counted, end-counted, Ends, resolve-open, abandon-open}
use Rattle.check_laws.proofs.Keeping.{comes-other}
use Rattle.check_laws.proofs.Knowing.{within, split, below-past, below-same, forth, back}
use Rattle.check_laws.proofs.Naming.{managed-none}
use Rattle.check_laws.proofs.Tested.{at-in, in-at, get-at, at-get, at-less, cut, one-at, stand_behind}

-- what a test of an event says
ends-so : (o : Op) (k : ℕ) → ends_cycle o k ≡ true → Ends o k
ends-so (op.Resolve c) k e = inl (ap (λ z. op.Resolve record { 0 = z }) (eqb-true c.0 k e))
ends-so (op.Abandon c) k e = inr (ap (λ z. op.Abandon record { 0 = z }) (eqb-true c.0 k e))
ends-so o k e = absurd (let f : false ≡ true = e in cc)

so-ends : (o : Op) (k : ℕ) → Ends o k → ends_cycle o k ≡ true
so-ends o k (inl e) = ap (λ z. ends_cycle z k) e ∙ eq-eqb k k refl
so-ends o k (inr e) = ap (λ z. ends_cycle z k) e ∙ eq-eqb k k refl

-- a cycle is over behind its end
closes : (s : Linkage) (m : Made) (told : Told) (o : Op) (k : ℕ) → m.op ≡ o → Ends o k
    → SideLawful (is_peer_event m.caller m.op) s m told → (managed_after s.managed m told (is_peer_event m.caller m.op)).managed.cycle ≡ None
closes s m told o k e (inl f) l =
    subst (λ z. (managed_after s.managed (record m { op = z }) told (is_peer_event m.caller z)).managed.cycle ≡ None) (sym (e ∙ f))
    (by told (subst (λ z. SideLawful (is_peer_event m.caller z) s (record m { op = z }) told) (e ∙ f) l))
  where
    by : (told : Told) → ManagedLawful s.managed (record m { op = op.Resolve record { 0 = k } }) told
        → (managed_after s.managed (record m { op = op.Resolve record { 0 = k } }) told false).managed.cycle ≡ None
    by (resolution_of alive freed) w = refl
    by _ w = absurd w.allowed
closes s m told o k e (inr f) l =
    subst (λ z. (managed_after s.managed (record m { op = z }) told (is_peer_event m.caller z)).managed.cycle ≡ None) (sym (e ∙ f)) refl

other-end : (o : Op) (k : ℕ) → Ends o k → is_read o ≡ false
other-end o k (inl e) = ap is_read e
other-end o k (inr e) = ap is_read e

closes-on : (s : Linkage) (n : Noted) (k : ℕ) → ComesBehind (is_read n.entry.made.op) s n → Ends n.entry.made.op k → (entry_after s n).managed.managed.cycle ≡ None
closes-on s n k w e =
    let other = other-end n.entry.made.op k e in
    ap (λ (z : Linkage). z.managed.managed.cycle) (after-other s n other) ∙ closes s n.entry.made n.told n.entry.made.op k refl e (subst (λ b. ComesBehind b s n) other w).lawful

-- an open cycle's number is greater than that of each cycle that has ended
step-open : (s t : Managed) (k : ℕ) → ManagedStep s t → k ≤ s.cycles → ((c : OpenCycle) → s.cycle ≡ Some c → k < c.number) → (c : OpenCycle) → t.cycle ≡ Some c → k < c.number
step-open s t k (going_on g) l h c e = h c (sym g.cycle ∙ e)
step-open s t k (snapping p) l h c e = (let q : s.cycles + 1 ≡ c.number = number c (sym (ap (λ (z : Managed). z.cycle) p.is) ∙ e) in omega (arith, l, q))
  where
    number : (c : OpenCycle) → Some record { number = s.cycles + 1; candidates = p.candidates; dead = p.dead } ≡ Some c → s.cycles + 1 ≡ c.number
    number c q = ap (λ (o : Option OpenCycle). elim o [ None ↦ 0 | Some x ↦ x.number ]) q
step-open s t k (resolving p) l h c e = absurd (none_some c (sym (ap (λ (z : Managed). z.cycle) p.is) ∙ e))
step-open s t k (abandoning p) l h c e = absurd (none_some c (sym (ap (λ (z : Managed). z.cycle) p.is) ∙ e))

later-open : (past : List Noted) → AllComeBehind past → AllStand past → (n : Noted) (k : ℕ) → InPast past n
    → Ends n.entry.made.op k → (c : OpenCycle) → (state_of past).managed.managed.cycle ≡ Some c → k < c.number
later-open [] w r n k i e c q = absurd i
later-open (m ∷ past) w r n k (inl same) e c q = absurd (none_some c (sym (closes-on (state_of past) m k w.0 (subst (λ z. Ends z k) (sym (ap (λ (z : Noted). z.entry.made.op) same)) e)) ∙ q))
later-open (m ∷ past) w r n k (inr i) e c q = by (later-open past w.1 r.1 n k i e) (is_read m.entry.made.op) refl w.0
  where
    by : ((c : OpenCycle) → (state_of past).managed.managed.cycle ≡ Some c → k < c.number) → (b : Bool) → is_read m.entry.made.op ≡ b → ComesBehind b (state_of past) m → k < c.number
    by h true f v = h c (ap (λ (z : Linkage). z.managed.managed.cycle) (sym (after-read (state_of past) m f)) ∙ q)
    by h false f v = step-open (state_of past).managed.managed (linkage_after (state_of past) m).managed.managed k
        (ManagedStep-entry (state_of past) m v (kept past w.1 r.1)) (end-counted past w.1 r.1 n k i e) h c
        (ap (λ (z : Linkage). z.managed.managed.cycle) (sym (after-other (state_of past) m f)) ∙ q)

pub end-open : (s : Linkage) (n : Noted) (k : ℕ) → ComesBehind (is_read n.entry.made.op) s n → Ends n.entry.made.op k → (c : OpenCycle) × (s.managed.managed.cycle ≡ Some c) × (c.number ≡ k)
end-open s n k w (inl e) = resolve-open s n.entry.made n.told n.entry.made.op k refl e (comes-other s n _ e refl w).lawful
end-open s n k w (inr e) = abandon-open s n.entry.made n.told n.entry.made.op k refl e (comes-other s n _ e refl w).lawful

-- a cycle that is open was counted
step-counted : (s t : Managed) → ManagedStep s t → ((c : OpenCycle) → s.cycle ≡ Some c → 1 ≤ s.cycles) → (c : OpenCycle) → t.cycle ≡ Some c → 1 ≤ t.cycles
step-counted s t (going_on g) h c e = (let l = h c (sym g.cycle ∙ e) in let f = g.cycles in omega (arith, l, f))
step-counted s t (snapping p) h c e = (let f = ap (λ (z : Managed). z.cycles) p.is in omega (arith, f))
step-counted s t (resolving p) h c e = absurd (none_some c (sym (ap (λ (z : Managed). z.cycle) p.is) ∙ e))
step-counted s t (abandoning p) h c e = absurd (none_some c (sym (ap (λ (z : Managed). z.cycle) p.is) ∙ e))

pub open-counted : (past : List Noted) → AllComeBehind past → AllStand past → (c : OpenCycle) → (state_of past).managed.managed.cycle ≡ Some c → 1 ≤ (state_of past).managed.managed.cycles
open-counted [] w r c q = absurd (none_some c q)
open-counted (m ∷ past) w r c q = by (open-counted past w.1 r.1) (is_read m.entry.made.op) refl w.0
  where
    by : ((c : OpenCycle) → (state_of past).managed.managed.cycle ≡ Some c → 1 ≤ (state_of past).managed.managed.cycles)
        → (b : Bool) → is_read m.entry.made.op ≡ b → ComesBehind b (state_of past) m → 1 ≤ (state_of (m ∷ past)).managed.managed.cycles
    by h true f v = (
        let l = h c (ap (λ (z : Linkage). z.managed.managed.cycle) (sym (after-read (state_of past) m f)) ∙ q) in
        let e = ap (λ (z : Linkage). z.managed.managed.cycles) (after-read (state_of past) m f) in
        omega (arith, l, e))
    by h false f v = (
        let l = step-counted (state_of past).managed.managed (linkage_after (state_of past) m).managed.managed
        (ManagedStep-entry (state_of past) m v (kept past w.1 r.1)) h c (ap (λ (z : Linkage). z.managed.managed.cycle) (sym (after-other (state_of past) m f)) ∙ q) in
        let e = ap (λ (z : Linkage). z.managed.managed.cycles) (after-other (state_of past) m f) in
        omega (arith, l, e))

-- an entry in a place, with what stands before it, and another in a lower place
record Pair (i j : ℕ) (n m : Noted) : Type 0 where
  back : List Noted
  comes : ComesBehind (is_read n.entry.made.op) (state_of back) n
  come : AllComeBehind back
  stand : AllStand back
  lower : PastAt back j m

pair : (h : List Noted) → AllComeBehind h → AllStand h → (i j : ℕ) (n m : Noted) → PastAt h i n → PastAt h j m → j < i → Pair i j n m
pair h w r i j n m a b l =
    let c = cut h i n a in
    let w' = all_come-back c.front (n ∷ c.back) (subst AllComeBehind c.all w) in
    let r' = all_stand-back c.front (n ∷ c.back) (subst AllStand c.all r) in
    let b' = at-less c.front (n ∷ c.back) j m (subst (λ z. PastAt z j m) c.all b) (let p = c.place in omega (arith, l, p)) in
    record { back = c.back; comes = w'.0; come = w'.1; stand = r'.1; lower = at-less (n ∷ []) c.back j m b' (let p = c.place in omega (arith, l, p)) }

end-apart : (h : List Noted) → AllComeBehind h → AllStand h → (i j k : ℕ) (n m : Noted) → PastAt h i n → PastAt h j m → j < i → Ends n.entry.made.op k → Ends m.entry.made.op k → ⊥
end-apart h w r i j k n m a b l e f =
    let p = pair h w r i j n m a b l in
    let c = end-open (state_of p.back) n k p.comes e in
    let less = later-open p.back p.come p.stand m k (at-in p.back j m p.lower) f c.0 c.1 in
    let same = c.2 in
    omega (arith, less, same)

end-once : (h : List Noted) → AllComeBehind h → AllStand h → (i j k : ℕ) (n m : Noted) → PastAt h i n → PastAt h j m → Ends n.entry.made.op k → Ends m.entry.made.op k → i ≡ j
end-once h w r i j k n m a b e f = elim (split j i) [
  | inl less ↦ absurd (end-apart h w r i j k n m a b less e f)
  | inr far ↦ elim (split i j) [ inl more ↦ absurd (end-apart h w r j i k m n b a more f e) | inr none ↦ omega (arith, far, none) ]
]

-- where a count is kept, of a kind of entry
record Counted (past : List Noted) (Is : Noted → Type 0) (m : ℕ) : Type 0 where
  at : ℕ
  entry : Noted
  there : PastAt past at entry
  is : Is entry
  count : m ≡ count_below past (at + 1)

counted-on : (past : List Noted) (x : Noted) (Is : Noted → Type 0) (m : ℕ) → Counted past Is m → Counted (x ∷ past) Is m
counted-on past x Is m c = (let l = within past c.at c.entry c.there in
    record { at = c.at; entry = c.entry; there = inr c.there; is = c.is; count = c.count ∙ sym (below-same x past (c.at + 1) (omega (arith, l))) })

counted-here : (past : List Noted) (x : Noted) (Is : Noted → Type 0) → Is x → Counted (x ∷ past) Is (managed_count (x ∷ past))
counted-here past x Is i = record { at = length past; entry = x; there = inl (refl, refl); is = i; count = sym (below-past x past (length past + 1) (omega arith)) }

ended-some : (past : List Noted) (k m : ℕ) → ended past k ≡ Some m → Counted past (λ n. Ends n.entry.made.op k) m
ended-some [] k m e = absurd (none_some m e)
ended-some (x ∷ past) k m e = by (ends_cycle x.entry.made.op k) refl e (ended-some past k m)
  where
    same : (a b : ℕ) → Some a ≡ Some b → a ≡ b
    same a b q = cc

    by : (b : Bool) → ends_cycle x.entry.made.op k ≡ b → (if b then Some (managed_count (x ∷ past)) else ended past k) ≡ Some m
        → (ended past k ≡ Some m → Counted past (λ n. Ends n.entry.made.op k) m) → Counted (x ∷ past) (λ n. Ends n.entry.made.op k) m
    by true t q rest = subst (Counted (x ∷ past) (λ n. Ends n.entry.made.op k)) (same _ m q) (counted-here past x (λ n. Ends n.entry.made.op k) (ends-so x.entry.made.op k t))
    by false t q rest = counted-on past x (λ n. Ends n.entry.made.op k) m (rest q)

ended-none : (past : List Noted) (k : ℕ) → ended past k ≡ None → (n : Noted) → InPast past n → Ends n.entry.made.op k → ⊥
ended-none [] k e n i f = i
ended-none (x ∷ past) k e n i f = by (ends_cycle x.entry.made.op k) refl e (ended-none past k)
  where
    by : (b : Bool) → ends_cycle x.entry.made.op k ≡ b → (if b then Some (managed_count (x ∷ past)) else ended past k) ≡ None
        → (ended past k ≡ None → (n : Noted) → InPast past n → Ends n.entry.made.op k → ⊥) → ⊥
    by true t q rest = none_some _ (sym q)
    by false t q rest = elim i [
      | inl same ↦ true-false (ends_cycle x.entry.made.op k) (so-ends x.entry.made.op k (subst (λ z. Ends z k) (sym (ap (λ (z : Noted). z.entry.made.op) same)) f)) t
      | inr j ↦ rest q n j f
    ]

-- each cycle that was counted has its snap
abbrev pub IsSnap : Op → Type 0
IsSnap (op.Snap k) = Unit {0}
IsSnap _ = ⊥

event-cycles : (s : ManagedReplay) (t : Thread) (o : Op) (told : Told) → (IsSnap o → ⊥) → ReplayInvariant s → (managed_answer s t o told).state.managed.cycles ≡ s.managed.cycles
event-cycles s t (op.Line a) told q k = (managed_line-goes_on s.managed (thread_number t) a k.managed.places k.managed.cells).cycles
event-cycles s t (op.Adopt v kind n p h) told q k =
    let a = adopted s.managed (place (thread_number t) v.0) kind n h.0 in
    ap (λ (z : Managed). z.cycles) (adopt_by-managed s p.0 h.0 a.state a.reply) ∙ (adopted-goes_on s.managed (place (thread_number t) v.0) kind n h.0 k.managed.places).cycles
event-cycles s t (op.Meet v sort n p h) told q k =
    let a = met s.managed (place (thread_number t) v.0) h.0 sort n (registered s.registry p.0) in
    ap (λ (z : Managed). z.cycles) (meet_by-managed s p.0 h.0 a.state a.reply)
    ∙ (met-goes_on s.managed (place (thread_number t) v.0) h.0 sort n (registered s.registry p.0) k.managed.places (λ m e. twin-live s p.0 m k e)).cycles
event-cycles s t (op.Give v) told q k =
    let u = place (thread_number t) v.0 in
    ap (λ (z : Managed). z.cycles) (give_by-managed s (slot s.managed.heap.vars u) (given_up s.managed u)) ∙ (given_up-goes_on s.managed u).cycles
event-cycles s t (op.Snap n) told q k = absurd (q tt)
event-cycles s t (op.Contract n) (contraction_of comps heavy xrefs) q k = refl
event-cycles s t (op.Contract n) told q k = refl
event-cycles s t (op.Resolve n) (resolution_of alive freed) q k = refl
event-cycles s t (op.Resolve n) told q k = refl
event-cycles s t (op.Refused r) (phase_of phase) q k = refl
event-cycles s t (op.Refused r) told q k = refl
event-cycles s t o told q k = refl

side-cycles : (s : ManagedReplay) (m : Made) (told : Told) (b : Bool) (o : Op) → m.op ≡ o → (IsSnap o → ⊥) → ReplayInvariant s → (managed_after s m told b).managed.cycles ≡ s.managed.cycles
side-cycles s m told true o e q k = refl
side-cycles s m told false o e q k = event-cycles s m.caller m.op told (λ z. q (subst IsSnap e z)) k

snap-here : (s : Linkage) (n : Noted) → ComesBehind (is_read n.entry.made.op) s n → ReplayInvariant s.managed → (k : ℕ)
    → k ≤ (entry_after s n).managed.managed.cycles → (k ≤ s.managed.managed.cycles) ⊎ (n.entry.made.op ≡ op.Snap record { 0 = k })
snap-here s n w p k l = by (is_read n.entry.made.op) refl
  where
    named : (o : Op) → n.entry.made.op ≡ o → is_read n.entry.made.op ≡ false → (k ≤ s.managed.managed.cycles) ⊎ (n.entry.made.op ≡ op.Snap record { 0 = k })
    named (op.Snap c) e f =
        let o = opens-on s n c.0 w e in
        let a = o.after in
        let b = o.next in
        elim (split k c.0) [
          | inl less ↦ inl (omega (arith, less, b))
          | inr far ↦ inr (e ∙ ap (λ z. op.Snap record { 0 = z }) (let u : c.0 ≡ k = omega (arith, far, l, a) in u))
        ]
    named o e f = inl (
        let same = ap (λ (z : Linkage). z.managed.managed.cycles) (after-other s n f) ∙ side-cycles s.managed n.entry.made n.told (is_peer_event n.entry.made.caller n.entry.made.op) o e (λ z. z) p in
        omega (arith, l, same))

    by : (b : Bool) → is_read n.entry.made.op ≡ b → (k ≤ s.managed.managed.cycles) ⊎ (n.entry.made.op ≡ op.Snap record { 0 = k })
    by true f = inl (let e = ap (λ (z : Linkage). z.managed.managed.cycles) (after-read s n f) in omega (arith, l, e))
    by false f = named n.entry.made.op refl f

pub cycles-on : (s : Linkage) (n : Noted) → ComesBehind (is_read n.entry.made.op) s n → ReplayInvariant s.managed
    → (IsSnap n.entry.made.op → ⊥) → (entry_after s n).managed.managed.cycles ≡ s.managed.managed.cycles
cycles-on s n w p q = by (is_read n.entry.made.op) refl
  where
    by : (b : Bool) → is_read n.entry.made.op ≡ b → (entry_after s n).managed.managed.cycles ≡ s.managed.managed.cycles
    by true f = ap (λ (z : Linkage). z.managed.managed.cycles) (after-read s n f)
    by false f = ap (λ (z : Linkage). z.managed.managed.cycles) (after-other s n f)
        ∙ side-cycles s.managed n.entry.made n.told (is_peer_event n.entry.made.caller n.entry.made.op) n.entry.made.op refl q p

-- a cycle that wasn't counted hasn't ended
pub unended : (past : List Noted) → AllComeBehind past → AllStand past → (k : ℕ) → (state_of past).managed.managed.cycles < k → ended past k ≡ None
unended past w r k l = by (ended past k) refl
  where
    by : (o : Option ℕ) → ended past k ≡ o → o ≡ None
    by None e = refl
    by (Some m) e = absurd (let c = ended-some past k m e in let few = end-counted past w r c.entry k (at-in past c.at c.entry c.there) c.is in omega (arith, few, l))

snap-of : (past : List Noted) → AllComeBehind past → AllStand past → (k : ℕ) → 1 ≤ k
    → k ≤ (state_of past).managed.managed.cycles → (n : Noted) × InPast past n × (n.entry.made.op ≡ op.Snap record { 0 = k })
snap-of [] w r k a l = absurd (omega (arith, a, l))
snap-of (x ∷ past) w r k a l = elim (snap-here (state_of past) x w.0 (kept past w.1 r.1) k l) [
  | inl less ↦ (let f = snap-of past w.1 r.1 k a less in (f.0, inr f.1, f.2))
  | inr here ↦ (x, inl refl, here)
]

-- what is freed at a state some entry before it freed
event-freed : (s : ManagedReplay) (t : Thread) (o : Op) (told : Told) (x : ℕ) → ManagedAllows s o told → ReplayInvariant s
    → Contains (managed_answer s t o told).state.managed.heap.freed x → Contains s.managed.heap.freed x ⊎ FreesObject told x
event-freed s t (op.Snap n) (snap_of freed c d) x a k i = Contains-append_cases s.managed.heap.freed freed x i
event-freed s t (op.Resolve n) (resolution_of y freed) x a k i = Contains-append_cases s.managed.heap.freed freed x i
event-freed s t o (snap_of freed c d) x a k i = absurd a
event-freed s t o (resolution_of y freed) x a k i = absurd a
event-freed s t o told x a k i = inl (subst (λ z. Contains z x) (managed-none s t o told tt k) i)

side-freed : (s : Linkage) (m : Made) (told : Told) (x : ℕ) (b : Bool) → SideLawful b s m told → ReplayInvariant s.managed
    → Contains (managed_after s.managed m told b).managed.heap.freed x → Contains s.managed.managed.heap.freed x ⊎ FreesObject told x
side-freed s m told x true l k i = inl i
side-freed s m told x false l k i = event-freed s.managed m.caller m.op told x l.allowed k i

freed-by : (past : List Noted) → AllComeBehind past → AllStand past → (x : ℕ) → Contains (state_of past).managed.managed.heap.freed x → (e : ℕ) × ((n : Noted) × PastAt past e n × FreesObject n.told x)
freed-by [] w r x i = absurd (Contains-nil x i)
freed-by (m ∷ past) w r x i = by (freed-by past w.1 r.1 x) (is_read m.entry.made.op) refl w.0
  where
    more : ((e : ℕ) × ((n : Noted) × PastAt past e n × FreesObject n.told x)) → (e : ℕ) × ((n : Noted) × PastAt (m ∷ past) e n × FreesObject n.told x)
    more f = (f.0, (f.1.0, inr f.1.1, f.1.2))

    by : (Contains (state_of past).managed.managed.heap.freed x → (e : ℕ) × ((n : Noted) × PastAt past e n × FreesObject n.told x)) → (b : Bool)
        → is_read m.entry.made.op ≡ b → ComesBehind b (state_of past) m → (e : ℕ) × ((n : Noted) × PastAt (m ∷ past) e n × FreesObject n.told x)
    by rest true f c = more (rest (subst (λ (z : Linkage). Contains z.managed.managed.heap.freed x) (after-read (state_of past) m f) i))
    by rest false f c = elim (side-freed (state_of past) m.entry.made m.told x (is_peer_event m.entry.made.caller m.entry.made.op) c.lawful
        (kept past w.1 r.1) (subst (λ (z : Linkage). Contains z.managed.managed.heap.freed x) (after-other (state_of past) m f) i)) [
          | inl old ↦ more (rest old)
          | inr new ↦ (length past, (m, inl (refl, refl), new))
        ]

-- a cell is set once: it was empty before, and is full behind
sets-so : (o : Op) (r : Reply) (k : ℕ) → sets_cell o r k ≡ true → SetsCell o k × (r ≡ says.Ok)
sets-so (op.Line (act.Weak c v)) says.Ok k e = (eqb-true c.0 k e, refl)
sets-so (op.Line (act.Weak c v)) r k e = absurd (let f : false ≡ true = e in cc)
sets-so o r k e = absurd (let f : false ≡ true = e in cc)

so-sets : (o : Op) (r : Reply) (k : ℕ) → SetsCell o k → r ≡ says.Ok → sets_cell o r k ≡ true
so-sets (op.Line (act.Weak c v)) r k e f = subst (λ z. sets_cell (op.Line (act.Weak c v)) z k ≡ true) (sym f) (eq-eqb c.0 k e)
so-sets o r k e f = absurd e

record Fills (s t : Managed) (k : ℕ) : Type 0 where
  was : slot s.cells k ≡ None
  now : (x : ℕ) × (slot t.cells k ≡ Some x)

put-fills : (s : Managed) (k x : ℕ) (o : Option ℕ) → slot s.cells k ≡ o → k < length s.cells → (cell_set s k x o).reply ≡ says.Ok → Fills s (cell_set s k x o).state k
put-fills s k x None e l r = record { was = e; now = (x, ap (λ (o : Option (Option ℕ)). elim o [ None ↦ None | Some y ↦ y ]) (slice_get-set_same s.cells k (Some x) l)) }
put-fills s k x (Some y) e l r = absurd (cc)

weak-fills : (s : Managed) (k v : ℕ) → k < length s.cells → (weakened_to s k v).reply ≡ says.Ok → Fills s (weakened_to s k v).state k
weak-fills s k v l r = by (slot s.heap.vars v) r
  where
    by : (o : Option ℕ) → (weak_by s k o).reply ≡ says.Ok → Fills s (weak_by s k o).state k
    by None q = absurd (cc)
    by (Some x) q = put-fills s k x (slot s.cells k) refl l q

event-fills : (s : Linkage) (t : Thread) (l : ℕ) (o : Op) (r : Reply) (cites : Option ℕ) (told : Told) (k : ℕ) → length s.managed.managed.cells ≡ 64
    → IsEvent t o → SideLawful (is_peer_event t o) s (record { caller = t; index = l; op = o; reply = r; cites = cites }) told → SetsCell o k → r ≡ says.Ok
    → Fills s.managed.managed (managed_after s.managed (record { caller = t; index = l; op = o; reply = r; cites = cites }) told (is_peer_event t o)).managed k
event-fills s (M u) l (op.Line (act.Weak c v)) r cites told k long e w q f =
    let low = e.0.1.0 in
    subst (λ z. Fills s.managed.managed (weakened_to s.managed.managed c.0 (place u v.0)).state z) q (weak-fills s.managed.managed c.0 (place u v.0) (omega (arith, low, long)) (sym w.replies ∙ f))
event-fills s (P u) l (op.Line (act.Weak c v)) r cites told k long e w q f = absurd e.0.1
event-fills s C l (op.Line (act.Weak c v)) r cites told k long e w q f = absurd e.0
event-fills s t l o r cites told k long e w q f = absurd q

sets-other : (o : Op) (k : ℕ) → SetsCell o k → is_read o ≡ false
sets-other (op.Line (act.Weak c v)) k q = refl
sets-other o k q = absurd q

fills-on : (s : Linkage) (n : Noted) (k : ℕ) → length s.managed.managed.cells ≡ 64 → ComesBehind (is_read n.entry.made.op) s n
    → SetsCell n.entry.made.op k → n.entry.made.reply ≡ says.Ok → Fills s.managed.managed (entry_after s n).managed.managed k
fills-on s n k long w q f =
    let other = sets-other n.entry.made.op k q in
    let v : MayCome s n = subst (λ b. ComesBehind b s n) other w in
    subst (λ (z : Linkage). Fills s.managed.managed z.managed.managed k) (sym (after-other s n other))
    (event-fills s n.entry.made.caller n.entry.made.index n.entry.made.op n.entry.made.reply n.entry.made.cites n.told k long v.event v.lawful q f)

cells-long : (past : List Noted) → AllComeBehind past → AllStand past → length (state_of past).managed.managed.cells ≡ 64
cells-long [] w r = refl
cells-long (m ∷ past) w r = (since-on (state_of past) m w.0 (kept past w.1 r.1)).long ∙ cells-long past w.1 r.1

filled : (past : List Noted) → AllComeBehind past → AllStand past → (n : Noted) (k : ℕ) → InPast past n
    → SetsCell n.entry.made.op k → n.entry.made.reply ≡ says.Ok → (x : ℕ) × (slot (state_of past).managed.managed.cells k ≡ Some x)
filled [] w r n k i q f = absurd i
filled (m ∷ past) w r n k (inl e) q f = (fills-on (state_of past) m k (cells-long past w.1 r.1) w.0
    (subst (λ z. SetsCell z k) (sym (ap (λ (z : Noted). z.entry.made.op) e)) q) (ap (λ (z : Noted). z.entry.made.reply) e ∙ f)).now
filled (m ∷ past) w r n k (inr i) q f = (let x = filled past w.1 r.1 n k i q f in (x.0, (since-on (state_of past) m w.0 (kept past w.1 r.1)).stay k x.0 x.1))

set-apart : (h : List Noted) → AllComeBehind h → AllStand h → (i j k : ℕ) (n m : Noted) → PastAt h i n → PastAt h j m → j < i
    → SetsCell n.entry.made.op k → n.entry.made.reply ≡ says.Ok → SetsCell m.entry.made.op k → m.entry.made.reply ≡ says.Ok → ⊥
set-apart h w r i j k n m a b l e f g d =
    let p = pair h w r i j n m a b l in
    let x = filled p.back p.come p.stand m k (at-in p.back j m p.lower) g d in
    let none = (fills-on (state_of p.back) n k (cells-long p.back p.come p.stand) p.comes e f).was in
    none_some x.0 (sym none ∙ x.1)

set-once : (h : List Noted) → AllComeBehind h → AllStand h → (i j k : ℕ) (n m : Noted) → PastAt h i n → PastAt h j m
    → SetsCell n.entry.made.op k → n.entry.made.reply ≡ says.Ok → SetsCell m.entry.made.op k → m.entry.made.reply ≡ says.Ok → i ≡ j
set-once h w r i j k n m a b e f g d = elim (split j i) [
  | inl less ↦ absurd (set-apart h w r i j k n m a b less e f g d)
  | inr far ↦ elim (split i j) [ inl more ↦ absurd (set-apart h w r j i k m n b a more g d e f) | inr none ↦ omega (arith, far, none) ]
]

abbrev SetsBy : ℕ → Thread → Noted → Type 0
SetsBy k t n = SetsCell n.entry.made.op k × (n.entry.made.reply ≡ says.Ok) × (n.entry.made.caller ≡ t)

setting-some : (past : List Noted) (k : ℕ) (v : Setting) → setting past k ≡ Some v → Counted past (SetsBy k v.caller) v.count
setting-some [] k v e = absurd (none_some v e)
setting-some (x ∷ past) k v e = by (sets_cell x.entry.made.op x.entry.made.reply k) refl e (setting-some past k v)
  where
    same : (a b : Setting) → Some a ≡ Some b → a ≡ b
    same a b q = ap (λ (o : Option Setting). elim o [ None ↦ a | Some z ↦ z ]) q

    by : (b : Bool) → sets_cell x.entry.made.op x.entry.made.reply k ≡ b → (if b then Some record { caller = x.entry.made.caller; count = managed_count (x ∷ past) } else setting past k) ≡ Some v
        → (setting past k ≡ Some v → Counted past (SetsBy k v.caller) v.count) → Counted (x ∷ past) (SetsBy k v.caller) v.count
    by true t q rest =
        let s = sets-so x.entry.made.op x.entry.made.reply k t in
        subst (λ (z : Setting). Counted (x ∷ past) (SetsBy k z.caller) z.count)
        (same (record { caller = x.entry.made.caller; count = managed_count (x ∷ past) }) v q) (counted-here past x (SetsBy k x.entry.made.caller) (s.0, s.1, refl))
    by false t q rest = counted-on past x (SetsBy k v.caller) v.count (rest q)

setting-none : (past : List Noted) (k : ℕ) → setting past k ≡ None → (n : Noted) → InPast past n → SetsCell n.entry.made.op k → n.entry.made.reply ≡ says.Ok → ⊥
setting-none [] k e n i f g = i
setting-none (x ∷ past) k e n i f g = by (sets_cell x.entry.made.op x.entry.made.reply k) refl e (setting-none past k)
  where
    by : (b : Bool) → sets_cell x.entry.made.op x.entry.made.reply k ≡ b → (if b then Some record { caller = x.entry.made.caller; count = managed_count (x ∷ past) } else setting past k) ≡ None
        → (setting past k ≡ None → (n : Noted) → InPast past n → SetsCell n.entry.made.op k → n.entry.made.reply ≡ says.Ok → ⊥) → ⊥
    by true t q rest = none_some _ (sym q)
    by false t q rest = elim i [
      | inl same ↦ true-false (sets_cell x.entry.made.op x.entry.made.reply k)
          (so-sets x.entry.made.op x.entry.made.reply k (subst (λ z. SetsCell z k) (sym (ap (λ (z : Noted). z.entry.made.op) same)) f) (ap (λ (z : Noted). z.entry.made.reply) same ∙ g)) t
      | inr j ↦ rest q n j f g
    ]

-- the tests
module _ (past : List Noted) (w : AllComeBehind past) (r : AllStand past) (p : AreInPlace past) (t : Thread) (k : ℕ) where
  abbrev s : Managed
  s = (state_of past).managed.managed

  known-at : (j : ℕ) → HasKnownFrom (in_turn past) t (length past) j → KnownFrom past t j
  known-at j (x, a, b, c) = (x, a, (c.element, get-at past x c.element c.there, c.is))

  at-known : (j : ℕ) → KnownFrom past t j → HasKnownFrom (in_turn past) t (length past) j
  at-known j (x, a, (n, i, c)) = (x, a, within past x n i, record { element = n; there = at-get past x n i; is = c })

  managed-at : (j : ℕ) → IsManagedAt (in_turn past) j → ManagedAt past j
  managed-at j m = (m.element, get-at past j m.element m.there, m.is)

  at-managed : (j : ℕ) → ManagedAt past j → IsManagedAt (in_turn past) j
  at-managed j (n, i, c) = record { element = n; there = at-get past j n i; is = c }

  -- more than that was seen: an entry behind is known
  beyond : (e : ℕ) → count_below past (e + 1) < seen past t → (j : ℕ) × (e < j) × IsManagedAt (in_turn past) j × HasKnownFrom (in_turn past) t (length past) j
  beyond e l = (let z = back past t e l in (z.0, z.1, at-managed z.0 z.2, at-known z.0 z.3))

  not-beyond : (e j : ℕ) → e < j → IsManagedAt (in_turn past) j → HasKnownFrom (in_turn past) t (length past) j → count_below past (e + 1) < seen past t
  not-beyond e j l m f = forth past t e j l (managed-at j m) (known-at j f)

  pending-so : IsPendingBy past s t k → MayBePendingBehind past s (length past) t k
  pending-so (inl next) = inr next
  pending-so (inr (low, high, most)) =
      let f = snap-of past w r k low high in
      let a = in-at past f.0 p f.1 in
      inl (record {
        snap = f.0.entry.number;
        snaps = record { element = f.0; there = at-get past f.0.entry.number f.0 a; is = f.2 };
        early = λ j l m. (let b = within past f.0.entry.number f.0 a in omega (arith, l, b));
        unknown = λ e j d l m g. by (ended past k) refl most e j d l m g;
      })
    where
      by : (o : Option ℕ) → ended past k ≡ o → AtMost (seen past t) o → (e j : ℕ) → EndsCycleAt (in_turn past) e k
          → e < j → IsManagedAt (in_turn past) j → HasKnownFrom (in_turn past) t (length past) j → ⊥
      by None q most e j d l m g = ended-none past k q d.element (at-in past e d.element (get-at past e d.element d.there)) d.is
      by (Some c) q most e j d l m g =
          let u = ended-some past k c q in
          let same = end-once past w r e u.at k d.element u.entry (get-at past e d.element d.there) u.there d.is u.is in
          let less = not-beyond e j l m g in
          let is = u.count ∙ ap (λ z. count_below past (z + 1)) (sym same) in
          omega (arith, most, less, is)

  so-pending : MayBePendingBehind past s (length past) t k → IsPendingBy past s t k
  so-pending (inr next) = inl next
  so-pending (inl m) =
      let a = get-at past m.snap m.snaps.element m.snaps.there in
      let c = cut past m.snap m.snaps.element a in
      let w' = all_come-back c.front (m.snaps.element ∷ c.back) (subst AllComeBehind c.all w) in
      let next = (opens-on (state_of c.back) m.snaps.element k w'.0 m.snaps.is).next in
      inr (omega (arith, next), snap-counted past w r m.snaps.element k (at-in past m.snap m.snaps.element a) m.snaps.is, by (ended past k) refl)
    where
      by : (o : Option ℕ) → ended past k ≡ o → AtMost (seen past t) o
      by None q = tt
      by (Some c) q =
          let u = ended-some past k c q in
          elim (split (count_below past (u.at + 1)) (seen past t)) [
            | inl less ↦ absurd (let z = beyond u.at less in m.unknown u.at z.0 (record { element = u.entry; there = at-get past u.at u.entry u.there; is = u.is }) z.1 z.2 z.3)
            | inr most ↦ (let is = u.count in omega (arith, most, is))
          ]

  unset-so : IsUnsetBy past s t k → MayBeUnset (in_turn past) s.cells (length past) t k
  unset-so u = record {
    unknown = λ e j d l m g. by (setting past k) refl u.unknown e j d l m g;
    not_own = λ e d l o. own (setting past k) refl u.unknown e d o;
    target_unfreed = λ m j q f l. u.unfreed m q (freed-in past w r f.element m (at-in past j f.element (get-at past j f.element f.there)) f.is);
  }
    where
      by : (o : Option Setting) → setting past k ≡ o → IsUnknown t (seen past t) o → (e j : ℕ) → SetsCellAt (in_turn past) e k
          → e < j → IsManagedAt (in_turn past) j → HasKnownFrom (in_turn past) t (length past) j → ⊥
      by None q most e j d l m g = setting-none past k q d.element (at-in past e d.element (get-at past e d.element d.there)) d.is.0 d.is.1
      by (Some v) q most e j d l m g =
          let u = setting-some past k v q in
          let same = set-once past w r e u.at k d.element u.entry (get-at past e d.element d.there) u.there d.is.0 d.is.1 u.is.0 u.is.1 in
          let less = not-beyond e j l m g in
          let is = u.count ∙ ap (λ z. count_below past (z + 1)) (sym same) in
          let few = most.1 in
          omega (arith, few, less, is)

      own : (o : Option Setting) → setting past k ≡ o → IsUnknown t (seen past t) o → (e : ℕ) → SetsCellAt (in_turn past) e k → IsCallersAt (in_turn past) e t → ⊥
      own None q most e d c = setting-none past k q d.element (at-in past e d.element (get-at past e d.element d.there)) d.is.0 d.is.1
      own (Some v) q most e d c =
          let u = setting-some past k v q in
          let a = get-at past e d.element d.there in
          let same = set-once past w r e u.at k d.element u.entry a u.there d.is.0 d.is.1 u.is.0 u.is.1 in
          let one = one-at past u.at u.entry c.element u.there (subst (λ z. PastAt past z c.element) same (get-at past e c.element c.there)) in
          most.0 (sym u.is.2 ∙ (ap (λ (z : Noted). z.entry.made.caller) one ∙ c.is))

  so-unset : MayBeUnset (in_turn past) s.cells (length past) t k → IsUnsetBy past s t k
  so-unset u = record {
    unknown = by (setting past k) refl;
    unfreed = λ m q f. (let z = freed-by past w r m f in u.target_unfreed m z.0 q (record { element = z.1.0; there = at-get past z.0 z.1.0 z.1.1; is = z.1.2 }) (within past z.0 z.1.0 z.1.1));
  }
    where
      by : (o : Option Setting) → setting past k ≡ o → IsUnknown t (seen past t) o
      by None q = tt
      by (Some v) q =
          let c = setting-some past k v q in
          let set : SetsCellAt (in_turn past) c.at k = record { element = c.entry; there = at-get past c.at c.entry c.there; is = (c.is.0, c.is.1) } in (
            λ e. u.not_own c.at set (within past c.at c.entry c.there) (record { element = c.entry; there = at-get past c.at c.entry c.there; is = c.is.2 ∙ e }),
            elim (split (count_below past (c.at + 1)) (seen past t)) [
              | inl less ↦ absurd (let z = beyond c.at less in u.unknown c.at z.0 set z.1 z.2 z.3)
              | inr most ↦ (let is = c.count in omega (arith, most, is))
            ],
          )

pub reads_counted : ReadsAreCounted
reads_counted past w b p t k =
    let r = stand_behind past b in
    record { pending = (pending-so past w r p t k, so-pending past w r p t k); unset = (unset-so past w r p t k, so-unset past w r p t k) }
