-- What a reader's entry may answer over a whole history is told by what stands before it. A read knows nothing of what
-- stands behind it: the rules of `pending` and `unset` ask of entries before the read alone, but for the snap that a
-- `pending` waits for, which is the next managed entry, and for the cell's target, which is live where it is set.
use Rattle.std.proofs.Common.{◌≡◌, ◌⊎◌, inl, inr, ℕ, ◌+◌, ◌-◌, ◌<◌, ◌≤◌, Bool, true, false, not, ◌&&◌, List, [], ◌∷◌, ◌++◌, length, Option, None, refl, sym, ap, ◌∙◌, subst, arith, append_assoc}
use Rattle.std.proofs.Common.{length-append}
use Rattle.std.proofs.lemmas.Bool.{cases_eq}
use Rattle.joint_machine.specs.declared.names.Thread.{Thread}
use Rattle.joint_machine.specs.declared.lines.Act.TheVariants as act
use Rattle.joint_machine.specs.declared.events.Op.{Op}
use Rattle.joint_machine.specs.declared.events.Op.TheVariants as op
use Rattle.joint_machine.specs.declared.events.Reply.{Reply}
use Rattle.joint_machine.specs.declared.events.Reply.TheVariants as says
use Rattle.joint_machine.specs.Lines.{is_peer_event, is_read}
use Rattle.joint_machine.specs.Linked.{Linkage, managed_after}
use Rattle.joint_machine.specs.Managed.{Managed, read_cell}
use Rattle.joint_machine.specs.Places.{At}
use Rattle.joint_machine.specs.Readers.{ReadsCell, IsReadReply, is_set_aside, is_managed_entry, HasEventAt, IsManagedAt, EndsCycleAt, SetsCellAt, IsCallersAt, HasKnownFrom, FreesObjectAt}
use Rattle.joint_machine.specs.Readers.{MayBePending, MayBeUnset, entry_after}
use Rattle.joint_machine.specs.Run.{thread_number}
use Rattle.joint_machine.specs.Told.{Noted}
use Rattle.joint_machine.proofs.Deciding.{none_some, true-false}
use Rattle.joint_laws.proofs.ReadsAside.{standing-reply}
use Rattle.known_laws.specs.PastEntries.{InPast}
use Rattle.check_laws.specs.Known.{PastAt, IsEntryAt}
use Rattle.check_laws.specs.Behind.{in_turn, state_of, WaitsForSnap, GivesSnap, IsReplyBehind}
use Rattle.check_laws.specs.Reads.{AllComeBehind, AreInPlace, AllReadBehind, AllReadOver, ReadersAreTested}
use Rattle.check_laws.proofs.Knowing.{within, split}
use Rattle.check_laws.proofs.Wholly.{behind, at-turned, turned-at}
use Rattle.check_laws.proofs.Keeping.{AllStand, after-read, after-other, Since, since, all_come-back, all_stand-back, freed-in, opens-on, snap-counted, end-counted}

-- places
pub at-in : (h : List Noted) (i : ℕ) (n : Noted) → PastAt h i n → InPast h n
at-in [] i n a = a
at-in (x ∷ h) i n (inl e) = inl e.1
at-in (x ∷ h) i n (inr a) = inr (at-in h i n a)

pub in-at : (h : List Noted) (n : Noted) → AreInPlace h → InPast h n → PastAt h n.entry.number n
in-at [] n p i = i
in-at (x ∷ h) n p (inl e) = inl (sym (ap (λ (z : Noted). z.entry.number) e) ∙ p.0, e)
in-at (x ∷ h) n p (inr i) = inr (in-at h n p.1 i)

pub get-at : (h : List Noted) (i : ℕ) (n : Noted) → IsEntryAt (in_turn h) i n → PastAt h i n
get-at h i n e = elim (split i (length h)) [
  | inl less ↦ turned-at h [] i n e less
  | inr more ↦ absurd (none_some n (sym (behind h [] i (i - length h) (omega (arith, more))) ∙ e))
]

pub at-get : (h : List Noted) (i : ℕ) (n : Noted) → PastAt h i n → IsEntryAt (in_turn h) i n
at-get h i n a = at-turned h [] i n a

pub at-more : (front h : List Noted) (i : ℕ) (n : Noted) → PastAt h i n → PastAt (front ++ h) i n
at-more [] h i n a = a
at-more (x ∷ front) h i n a = inr (at-more front h i n a)

pub at-less : (front h : List Noted) (i : ℕ) (n : Noted) → PastAt (front ++ h) i n → i < length h → PastAt h i n
at-less [] h i n a l = a
at-less (x ∷ front) h i n (inl e) l = absurd (let q = e.0 in let m = length-append front h in omega (arith, l, q, m))
at-less (x ∷ front) h i n (inr a) l = at-less front h i n a l

pub in-more : (front h : List Noted) (n : Noted) → InPast h n → InPast (front ++ h) n
in-more [] h n i = i
in-more (x ∷ front) h n i = inr (in-more front h n i)

-- a past at the place of an entry
pub record Cut (h : List Noted) (i : ℕ) (n : Noted) : Type 0 where
  pub front : List Noted
  pub back : List Noted
  pub all : h ≡ front ++ n ∷ back
  pub place : length back ≡ i

pub cut : (h : List Noted) (i : ℕ) (n : Noted) → PastAt h i n → Cut h i n
cut [] i n a = absurd a
cut (x ∷ h) i n (inl e) = record { front = []; back = h; all = ap (λ z. z ∷ h) e.1; place = sym e.0 }
cut (x ∷ h) i n (inr a) = (let c = cut h i n a in record { front = x ∷ c.front; back = c.back; all = ap (λ z. x ∷ z) c.all; place = c.place })

pub one-at : (h : List Noted) (i : ℕ) (n m : Noted) → PastAt h i n → PastAt h i m → n ≡ m
one-at [] i n m a b = absurd a
one-at (x ∷ h) i n m (inl e) (inl f) = sym e.1 ∙ f.1
one-at (x ∷ h) i n m (inl e) (inr b) = absurd (let q = e.0 in let l = within h i m b in omega (arith, q, l))
one-at (x ∷ h) i n m (inr a) (inl f) = absurd (let q = f.0 in let l = within h i n a in omega (arith, q, l))
one-at (x ∷ h) i n m (inr a) (inr b) = one-at h i n m a b

in_place-back : (front past : List Noted) → AreInPlace (front ++ past) → AreInPlace past
in_place-back [] past p = p
in_place-back (n ∷ front) past p = in_place-back front past p.1

-- a read has a cell, and is no managed entry
pub reads-some : (o : Op) → is_read o ≡ true → (k : ℕ) × ReadsCell o k
reads-some (op.Line (act.Read c)) e = (c.0, refl)
reads-some (op.Line (act.Await c)) e = (c.0, refl)
reads-some o e = absurd (let f : false ≡ true = e in cc)

pub cell-read : (o : Op) (k : ℕ) → ReadsCell o k → is_read o ≡ true
cell-read (op.Line (act.Read c)) k r = refl
cell-read (op.Line (act.Await c)) k r = refl
cell-read o k r = absurd r

and-false : (b : Bool) → (b && false) ≡ false
and-false true = refl
and-false false = refl

pub read-unmanaged : (n : Noted) → is_read n.entry.made.op ≡ true → is_managed_entry n ≡ false
read-unmanaged n e = ap (λ b. not (is_peer_event n.entry.made.caller n.entry.made.op) && not b) e ∙ and-false (not (is_peer_event n.entry.made.caller n.entry.made.op))

-- whether a cycle is snapped in a past
snap-or : (o : Op) (k : ℕ) → (o ≡ op.Snap record { 0 = k }) ⊎ (o ≡ op.Snap record { 0 = k } → ⊥)
snap-or (op.Snap c) k = elim (cases_eq c.0 k) [
  | inl e ↦ inl (ap (λ z. op.Snap record { 0 = z }) e)
  | inr n ↦ inr (λ e. n (ap number e))
]
  where
    number : Op → ℕ
    number (op.Snap d) = d.0
    number _ = 0
snap-or o k = inr (λ e. cc)

snapped-or : (h : List Noted) (k : ℕ) → ((n : Noted) × InPast h n × (n.entry.made.op ≡ op.Snap record { 0 = k })) ⊎ ((n : Noted) → InPast h n → n.entry.made.op ≡ op.Snap record { 0 = k } → ⊥)
snapped-or [] k = inr (λ n i e. i)
snapped-or (x ∷ h) k = elim (snap-or x.entry.made.op k) [
  | inl e ↦ inl (x, inl refl, e)
  | inr out ↦ elim (snapped-or h k) [
    | inl f ↦ inl (f.0, inr f.1, f.2)
    | inr none ↦ inr (λ n i e. elim i [ inl q ↦ out (ap (λ (z : Noted). z.entry.made.op) q ∙ e) | inr j ↦ none n j e ])
  ]
]

-- what stands before an entry of a longer past stands in it, and so the other way
module _ (front h : List Noted) where
  abbrev wider : List Noted
  wider = in_turn (front ++ h)

  up : (i : ℕ) (n : Noted) → IsEntryAt (in_turn h) i n → IsEntryAt wider i n
  up i n e = at-get (front ++ h) i n (at-more front h i n (get-at h i n e))

  down : (i : ℕ) (n : Noted) → IsEntryAt wider i n → i < length h → IsEntryAt (in_turn h) i n
  down i n e l = at-get h i n (at-less front h i n (get-at (front ++ h) i n e) l)

  at-up : {Is : Noted → Type 0} → (i : ℕ) → At (in_turn h) i Is → At wider i Is
  at-up i e = record { element = e.element; there = up i e.element e.there; is = e.is }

  at-down : {Is : Noted → Type 0} → (i : ℕ) → At wider i Is → i < length h → At (in_turn h) i Is
  at-down i e l = record { element = e.element; there = down i e.element e.there l; is = e.is }

  known-up : (t : Thread) (i j : ℕ) → HasKnownFrom (in_turn h) t i j → HasKnownFrom wider t i j
  known-up t i j (x, a, b, c) = (x, a, b, at-up x c)

  known-down : (t : Thread) (i j : ℕ) → i ≡ length h → HasKnownFrom wider t i j → HasKnownFrom (in_turn h) t i j
  known-down t i j e (x, a, b, c) = (x, a, b, at-down x c (omega (arith, b, e)))

  known-less : (t : Thread) (i j : ℕ) → i ≡ length h → HasKnownFrom wider t i j → j < length h
  known-less t i j e (x, a, b, c) = omega (arith, a, b, e)

-- no cycle is snapped twice
snap-once : (h : List Noted) → AllComeBehind h → AllStand h → (i j k : ℕ) (n m : Noted) → PastAt h i n → PastAt h j m
    → j < i → n.entry.made.op ≡ op.Snap record { 0 = k } → m.entry.made.op ≡ op.Snap record { 0 = k } → ⊥
snap-once h w r i j k n m a b l e f =
    let c = cut h i n a in
    let w' = all_come-back c.front (n ∷ c.back) (subst AllComeBehind c.all w) in
    let r' = all_stand-back c.front (n ∷ c.back) (subst AllStand c.all r) in
    let b' = at-less c.front (n ∷ c.back) j m (subst (λ z. PastAt z j m) c.all b) (let p = c.place in omega (arith, l, p)) in
    let b'' = at-less (n ∷ []) c.back j m b' (let p = c.place in omega (arith, l, p)) in
    let few = snap-counted c.back w'.1 r'.1 m k (at-in c.back j m b'') f in
    let next = (opens-on (state_of c.back) n k w'.0 e).next in
    omega (arith, few, next)

-- the states on either side of an entry that is no managed one have the same cycles
record SameCycles (s t : Managed) : Type 0 where
  cycle : t.cycle ≡ s.cycle
  cycles : t.cycles ≡ s.cycles

quiet-on : (s : Linkage) (n : Noted) → is_managed_entry n ≡ false → SameCycles s.managed.managed (entry_after s n).managed.managed
quiet-on s n e = by (is_read n.entry.made.op) refl
  where
    peer : (b c : Bool) → (not b && not c) ≡ false → c ≡ false → b ≡ true
    peer true c p q = refl
    peer false true p q = absurd (let f : true ≡ false = q in cc)
    peer false false p q = absurd (let f : true ≡ false = p in cc)

    by : (b : Bool) → is_read n.entry.made.op ≡ b → SameCycles s.managed.managed (entry_after s n).managed.managed
    by true f = subst (λ (z : Linkage). SameCycles s.managed.managed z.managed.managed) (sym (after-read s n f)) (record { cycle = refl; cycles = refl })
    by false f = subst (λ (z : Linkage). SameCycles s.managed.managed z.managed.managed) (sym (after-other s n f))
        (subst (λ b. SameCycles s.managed.managed (managed_after s.managed n.entry.made n.told b).managed)
        (sym (peer (is_peer_event n.entry.made.caller n.entry.made.op) (is_read n.entry.made.op) e f)) (record { cycle = refl; cycles = refl }))

quiet : (front h : List Noted) → ((j : ℕ) (n : Noted) → PastAt (front ++ h) j n → length h ≤ j → is_managed_entry n ≡ true → ⊥)
    → SameCycles (state_of h).managed.managed (state_of (front ++ h)).managed.managed
quiet [] h none = record { cycle = refl; cycles = refl }
quiet (n ∷ front) h none =
    let r = quiet front h (λ j m a l e. none j m (inr a) l e) in
    let o = quiet-on (state_of (front ++ h)) n (false-of (is_managed_entry n) (none (length (front ++ h)) n (inl (refl, refl)) (let m = length-append front h in omega (arith, m)))) in
    record { cycle = o.cycle ∙ r.cycle; cycles = o.cycles ∙ r.cycles }
  where
    false-of : (b : Bool) → (b ≡ true → ⊥) → b ≡ false
    false-of true n = absurd (n refl)
    false-of false n = refl

-- a read in a whole: entries behind it, the read, and what stands before it
module _ (front : List Noted) (x : Noted) (h : List Noted) (w : AllComeBehind (front ++ x ∷ h)) (r : AllStand (front ++ x ∷ h)) (p : AreInPlace (front ++ x ∷ h)) where
  abbrev all : List Noted
  all = front ++ x ∷ h

  abbrev end_cells : List (Option ℕ)
  end_cells = (state_of all).managed.managed.cells

  abbrev s : Managed
  s = (state_of h).managed.managed

  -- what stands behind, as entries before the rest
  same : (front ++ x ∷ []) ++ h ≡ front ++ x ∷ h
  same = append_assoc front (x ∷ []) h

  w-here : AllComeBehind (x ∷ h)
  w-here = all_come-back front (x ∷ h) w

  r-here : AllStand (x ∷ h)
  r-here = all_stand-back front (x ∷ h) r

  number : x.entry.number ≡ length h
  number = (in_place-back front (x ∷ h) p).0

  apart : Since s (state_of all).managed.managed
  apart = subst (λ z. Since s (state_of z).managed.managed) same (since (front ++ x ∷ []) h (subst AllComeBehind (sym same) w) (subst AllStand (sym same) r))

  x-at : PastAt all (length h) x
  x-at = at-more front (x ∷ h) (length h) x (inl (refl, refl))

  -- facts about a place, of the whole as written
  lift : (P : List Noted → Type 0) → P ((front ++ x ∷ []) ++ h) → P all
  lift P q = subst P same q

  drop : (P : List Noted → Type 0) → P all → P ((front ++ x ∷ []) ++ h)
  drop P q = subst P (sym same) q

  module _ (t : Thread) (k : ℕ) where
    -- what was known of a snapped cycle
    pending-over : MayBePending (in_turn h) x.entry.number t k → MayBePending (in_turn all) x.entry.number t k
    pending-over m =
        let low : m.snap < length h = within h m.snap m.snaps.element (get-at h m.snap m.snaps.element m.snaps.there) in
        record {
          snap = m.snap;
          snaps = lift (λ z. HasEventAt (in_turn z) m.snap (op.Snap record { 0 = k })) (at-up (front ++ x ∷ []) h m.snap m.snaps);
          early = λ j l g. (let e = number in omega (arith, l, low, e));
          unknown = λ end j e l g f.
              let f' = drop (λ z. HasKnownFrom (in_turn z) t x.entry.number j) f in
              let j-low = known-less (front ++ x ∷ []) h t x.entry.number j number f' in
              m.unknown end j (at-down (front ++ x ∷ []) h end (drop (λ z. EndsCycleAt (in_turn z) end k) e) (omega (arith, l, j-low))) l
              (at-down (front ++ x ∷ []) h j (drop (λ z. IsManagedAt (in_turn z) j) g) j-low) (known-down (front ++ x ∷ []) h t x.entry.number j number f');
        }

    pending-behind : (m : MayBePending (in_turn all) x.entry.number t k) → m.snap < length h → MayBePending (in_turn h) x.entry.number t k
    pending-behind m low = record {
      snap = m.snap;
      snaps = at-down (front ++ x ∷ []) h m.snap (drop (λ z. HasEventAt (in_turn z) m.snap (op.Snap record { 0 = k })) m.snaps) low;
      early = λ j l g. (let e = number in omega (arith, l, low, e));
      unknown = λ end j e l g f. m.unknown end j (lift (λ z. EndsCycleAt (in_turn z) end k) (at-up (front ++ x ∷ []) h end e)) l
          (lift (λ z. IsManagedAt (in_turn z) j) (at-up (front ++ x ∷ []) h j g)) (lift (λ z. HasKnownFrom (in_turn z) t x.entry.number j) (known-up (front ++ x ∷ []) h t x.entry.number j f));
    }

    unset-over : MayBeUnset (in_turn h) s.cells x.entry.number t k → MayBeUnset (in_turn all) end_cells x.entry.number t k
    unset-over u = record {
      unknown = λ set j e l g f.
          let f' = drop (λ z. HasKnownFrom (in_turn z) t x.entry.number j) f in
          let j-low = known-less (front ++ x ∷ []) h t x.entry.number j number f' in
          u.unknown set j (at-down (front ++ x ∷ []) h set (drop (λ z. SetsCellAt (in_turn z) set k) e) (omega (arith, l, j-low))) l
          (at-down (front ++ x ∷ []) h j (drop (λ z. IsManagedAt (in_turn z) j) g) j-low) (known-down (front ++ x ∷ []) h t x.entry.number j number f');
      not_own = λ set e l o.
          let low : set < length h = (let q = number in omega (arith, l, q)) in
          u.not_own set (at-down (front ++ x ∷ []) h set (drop (λ z. SetsCellAt (in_turn z) set k) e) low) l (at-down (front ++ x ∷ []) h set (drop (λ z. IsCallersAt (in_turn z) set t) o) low);
      target_unfreed = λ m j e f l.
          let f' = at-down (front ++ x ∷ []) h j (drop (λ z. FreesObjectAt (in_turn z) j m) f) (let q = number in omega (arith, l, q)) in
          elim (apart.was_live k m e) [
            | inl q ↦ u.target_unfreed m j q f' l
            | inr live ↦ live (freed-in h w-here.1 r-here.1 f'.element m (at-in h j f'.element (get-at h j f'.element f'.there)) f'.is)
          ];
    }

    unset-behind : MayBeUnset (in_turn all) end_cells x.entry.number t k → MayBeUnset (in_turn h) s.cells x.entry.number t k
    unset-behind u = record {
      unknown = λ set j e l g f. u.unknown set j (lift (λ z. SetsCellAt (in_turn z) set k) (at-up (front ++ x ∷ []) h set e)) l
          (lift (λ z. IsManagedAt (in_turn z) j) (at-up (front ++ x ∷ []) h j g)) (lift (λ z. HasKnownFrom (in_turn z) t x.entry.number j) (known-up (front ++ x ∷ []) h t x.entry.number j f));
      not_own = λ set e l o. u.not_own set (lift (λ z. SetsCellAt (in_turn z) set k) (at-up (front ++ x ∷ []) h set e)) l
          (lift (λ z. IsCallersAt (in_turn z) set t) (at-up (front ++ x ∷ []) h set o));
      target_unfreed = λ m j e f l. u.target_unfreed m j (apart.stay k m e) (lift (λ z. FreesObjectAt (in_turn z) j m) (at-up (front ++ x ∷ []) h j f)) l;
    }

  module _ (read : is_read x.entry.made.op ≡ true) (t : Thread) (k : ℕ) where
    -- the snap stands behind the read: it is the next managed entry, so no cycle is open here and it has the next
    -- number
    pending-next : (m : MayBePending (in_turn all) x.entry.number t k) → length h < m.snap → (s.cycle ≡ None) × (k ≡ s.cycles + 1)
    pending-next m far =
        let a = get-at all m.snap m.snaps.element m.snaps.there in
        let c = cut all m.snap m.snaps.element a in
        by c (shorter front c.front c.back m.snaps.element c.all (let q = c.place in omega (arith, far, q)))
      where
        -- the cut is in front of the read
        shorter : (f g b : List Noted) (n : Noted) → f ++ x ∷ h ≡ g ++ n ∷ b → length h < length b → (mid : List Noted) × (b ≡ mid ++ x ∷ h)
        shorter [] [] b n e l = absurd (let q = ap length e in omega (arith, l, q))
        shorter [] (y ∷ g) b n e l = absurd (let q = ap length e in let z = length-append g (n ∷ b) in omega (arith, l, q, z))
        shorter (y ∷ f) [] b n e l = (f, sym (tail-is y n (f ++ x ∷ h) b e))
          where
            tail-is : (u v : Noted) (us vs : List Noted) → u ∷ us ≡ v ∷ vs → us ≡ vs
            tail-is u v us vs e = ap rest e
              where
                rest : List Noted → List Noted
                rest [] = us
                rest (z ∷ zs) = zs
        shorter (y ∷ f) (z ∷ g) b n e l = shorter f g b n (tail-is y z (f ++ x ∷ h) (g ++ n ∷ b) e) l
          where
            tail-is : (u v : Noted) (us vs : List Noted) → u ∷ us ≡ v ∷ vs → us ≡ vs
            tail-is u v us vs e = ap rest e
              where
                rest : List Noted → List Noted
                rest [] = us
                rest (z ∷ zs) = zs

        by : (c : Cut all m.snap m.snaps.element) → (mid : List Noted) × (c.back ≡ mid ++ x ∷ h) → (s.cycle ≡ None) × (k ≡ s.cycles + 1)
        by c (mid, e) =
            let back-in : (j : ℕ) (n : Noted) → PastAt (mid ++ x ∷ h) j n
            → PastAt all j n = λ j n q. subst (λ z. PastAt z j n) (sym c.all) (at-more c.front (m.snaps.element ∷ c.back) j n (inr (subst (λ z. PastAt z j n) (sym e) q))) in
            let z = quiet mid (x ∷ h) (λ j n q l g.
            let low = m.early j (let v = within (mid ++ x ∷ h) j n q in let u = ap length e in let y = c.place in omega (arith, v, u, y))
            (record { element = n; there = at-get all j n (back-in j n q); is = g }) in
            let v = number in omega (arith, low, l, v)) in
            let o = quiet-on (state_of h) x (read-unmanaged x read) in
            let w' = all_come-back c.front (m.snaps.element ∷ c.back) (subst AllComeBehind c.all w) in
            let i = opens-on (state_of c.back) m.snaps.element k w'.0 m.snaps.is in
            let i' = subst (λ z. ((state_of z).managed.managed.cycle ≡ None) × (k ≡ (state_of z).managed.managed.cycles + 1)) e (i.closed, i.next) in
            (sym o.cycle ∙ sym z.cycle ∙ i'.0, (let a = i'.1 in let b = z.cycles in let d = o.cycles in omega (arith, a, b, d)))

    -- where the snap isn't there yet, it comes as the next managed entry
    next-over : AllReadBehind all → ((j : ℕ) → WaitsForSnap all j → ⊥) → x.entry.made.reply ≡ says.Pending record { 0 = k }
        → s.cycle ≡ None → k ≡ s.cycles + 1 → MayBePending (in_turn all) x.entry.number t k
    next-over b none says closed next = by (snapped-or all k)
      where
        x-in : InPast all x
        x-in = at-in all (length h) x x-at

        by : ((n : Noted) × InPast all n × (n.entry.made.op ≡ op.Snap record { 0 = k }))
            ⊎ ((n : Noted) → InPast all n → n.entry.made.op ≡ op.Snap record { 0 = k } → ⊥) → MayBePending (in_turn all) x.entry.number t k
        by (inr u) = absurd (none k (record { entry = x; there = x-in; read = read; reply = says; unsnapped = u }))
        by (inl f) =
            let n = f.0 in
            let a = in-at all n p f.1 in
            record {
              snap = n.entry.number;
              snaps = record { element = n; there = at-get all n.entry.number n a; is = f.2 };
              early = λ j l g. early n f.2 a j l g;
              unknown = λ end j e l g q.
                  let q' = drop (λ z. HasKnownFrom (in_turn z) t x.entry.number j) q in
                  let j-low = known-less (front ++ x ∷ []) h t x.entry.number j number q' in
                  let e' = at-down (front ++ x ∷ []) h end (drop (λ z. EndsCycleAt (in_turn z) end k) e) (omega (arith, l, j-low)) in
                  let few = end-counted h w-here.1 r-here.1 e'.element k (at-in h end e'.element (get-at h end e'.element e'.there)) e'.is in
                  omega (arith, few, next);
            }
          where
            gives : (u v : List Noted) (y : Noted) → AllReadBehind (u ++ y ∷ v) → GivesSnap v y
            gives [] v y b = b.0.1
            gives (z ∷ u) v y b = gives u v y b.1

            early : (n : Noted) → n.entry.made.op ≡ op.Snap record { 0 = k } → PastAt all n.entry.number n → (j : ℕ) → j < n.entry.number → IsManagedAt (in_turn all) j → j < x.entry.number
            early n e a j l g =
                let b' = get-at all j g.element g.there in
                elim (split j (length h)) [
                  | inl less ↦ (let q = number in omega (arith, less, q))
                  | inr far ↦ absurd (
                      let c = cut all j g.element b' in
                      let there : PastAt all j g.element = b' in
                      elim (split (length h) j) [
                        | inr less ↦ (let same : length h ≡ j = omega (arith, less, far) in let q = one-at all j g.element x b' (subst (λ z. PastAt all z x) same x-at) in
                            true-false (is_managed_entry x) (subst (λ z. is_managed_entry z ≡ true) q g.is) (read-unmanaged x read))
                        | inl less ↦ (
                            let gs = gives c.front c.back g.element (subst AllReadBehind c.all b) in
                            let x-back : PastAt c.back (length h) x = at-less (g.element ∷ []) c.back (length h) x
                            (at-less c.front (g.element ∷ c.back) (length h) x (subst (λ z. PastAt z (length h) x) c.all x-at) (let q = c.place in omega (arith, less, q)))
                            (let q = c.place in omega (arith, less, q)) in
                            let is = gs g.is k (record {
                              entry = x;
                              there = at-in c.back (length h) x x-back;
                              read = read;
                              reply = says;
                              unsnapped = λ m i f.
                                  let i' = in-at all m p (subst (λ z. InPast z m) (sym c.all) (in-more c.front (g.element ∷ c.back) m (inr i))) in
                                  let low : m.entry.number < n.entry.number = (let q = within
                                  c.back m.entry.number m (in-at c.back m (in_place-back c.front (g.element ∷ c.back) (subst AreInPlace c.all p)).1 i) in let v = c.place in omega (arith, q, v, l))
                                  in
                                  snap-once all w r n.entry.number m.entry.number k n m a i' low e f;
                            }) in
                            snap-once all w r n.entry.number j k n g.element a b' l e is)
                      ])
                ]

  -- a read's reply, both ways
  module _ (read : is_read x.entry.made.op ≡ true) (t : Thread) (c : ℕ) where
    reply-over : AllReadBehind all → ((j : ℕ) → WaitsForSnap all j → ⊥) → (reply : Reply) → x.entry.made.reply ≡ reply
        → IsReplyBehind h s x.entry.number t c reply → IsReadReply (in_turn all) end_cells s x.entry.number t c reply
    reply-over b none (says.Pending k) e (pin, q) = (pin, elim q [ inl m ↦ pending-over t k.0 m | inr m ↦ next-over read t k.0 b none e m.0 m.1 ])
    reply-over b none says.Unset e (pin, u) = (pin, unset-over t c u)
    reply-over b none reply e q = q

    not-here : (k : ℕ) → (m : MayBePending (in_turn all) x.entry.number t k) → m.snap ≡ length h → ⊥
    not-here k m e =
        let q = one-at all (length h) m.snaps.element x (subst (λ z. PastAt all z m.snaps.element) e (get-at all m.snap m.snaps.element m.snaps.there)) x-at in
        let f : true ≡ false = sym read ∙ (ap (λ (z : Noted). is_read z.entry.made.op) (sym q) ∙ ap is_read m.snaps.is) in
        true-false true refl f

    reply-behind : (reply : Reply) → IsReadReply (in_turn all) end_cells s x.entry.number t c reply → IsReplyBehind h s x.entry.number t c reply
    reply-behind (says.Pending k) (pin, m) = (
      pin,
      elim (split m.snap (length h)) [
        | inl low ↦ inl (pending-behind t k.0 m low)
        | inr far ↦ elim (split (length h) m.snap) [ inl more ↦ inr (pending-next read t k.0 m more) | inr less ↦ absurd (not-here k.0 m (omega (arith, far, less))) ]
      ],
    )
    reply-behind says.Unset (pin, u) = (pin, unset-behind t c u)
    reply-behind reply q = q

-- over all entries
behind-stands : (h : List Noted) (s : Managed) (i : ℕ) (t : Thread) (k : ℕ) (r : Reply) → is_set_aside r ≡ false → IsReplyBehind h s i t k r → r ≡ (read_cell s (thread_number t) k).reply
behind-stands h s i t k (says.Pending c) e w = absurd (let f : true ≡ false = e in cc)
behind-stands h s i t k says.Unset e w = absurd (let f : true ≡ false = e in cc)
behind-stands h s i t k r e w = w

pub stand_behind : (h : List Noted) → AllReadBehind h → AllStand h
stand_behind [] b = tt
stand_behind (x ∷ h) b = (λ e k q. behind-stands h (state_of h).managed.managed x.entry.number x.entry.made.caller k x.entry.made.reply e (b.0.0 k q), stand_behind h b.1)

pub stand_over : (whole : List Noted) (cells : List (Option ℕ)) (h : List Noted) → AllReadOver whole cells h → AllStand h
stand_over whole cells [] o = tt
stand_over whole cells (x ∷ h) o = (λ e k q. standing-reply whole cells (state_of h).managed.managed x.entry.number x.entry.made.caller k x.entry.made.reply e (o.0 k q), stand_over whole cells h o.1)

-- the read's `pending` over the whole
over-pending : (whole : List Noted) (cells : List (Option ℕ)) (h : List Noted) → AllReadOver whole cells h → (x : Noted) (k : ℕ) → InPast h x
    → is_read x.entry.made.op ≡ true → x.entry.made.reply ≡ says.Pending record { 0 = k } → MayBePending whole x.entry.number x.entry.made.caller k
over-pending whole cells [] o x k i e f = absurd i
over-pending whole cells (y ∷ h) o x k (inl q) e f =
    let e' : is_read y.entry.made.op ≡ true = ap (λ (z : Noted). is_read z.entry.made.op) q ∙ e in
    let c = reads-some y.entry.made.op e' in
    let m = subst (λ r. IsReadReply whole cells (state_of h).managed.managed y.entry.number y.entry.made.caller c.0 r) (ap (λ (z : Noted). z.entry.made.reply) q ∙ f) (o.0 c.0 c.1) in
    subst (λ (z : Noted). MayBePending whole z.entry.number z.entry.made.caller k) q m.1
over-pending whole cells (y ∷ h) o x k (inr i) e f = over-pending whole cells h o.1 x k i e f

module _ (all : List Noted) (w : AllComeBehind all) (p : AreInPlace all) where
  abbrev end : List (Option ℕ)
  end = (state_of all).managed.managed.cells

  all-over : AllStand all → AllReadBehind all → ((j : ℕ) → WaitsForSnap all j → ⊥) → (front past : List Noted) → all ≡ front ++ past → AllReadBehind past → AllReadOver (in_turn all) end past
  all-over r b none front [] e q = tt
  all-over r b none front (x ∷ h) e q = (
    λ k c. subst (λ z. IsReadReply (in_turn z) (state_of z).managed.managed.cells (state_of h).managed.managed x.entry.number x.entry.made.caller k x.entry.made.reply) (sym e)
        (reply-over front x h (subst AllComeBehind e w) (subst AllStand e r) (subst AreInPlace e p) (cell-read x.entry.made.op k c) x.entry.made.caller k
        (subst AllReadBehind e b) (subst (λ z. (j : ℕ) → WaitsForSnap z j → ⊥) e none) x.entry.made.reply refl (q.0.0 k c)),
    all-over r b none (front ++ x ∷ []) h (e ∙ sym (append_assoc front (x ∷ []) h)) q.1,
  )

  all-behind : AllStand all → AllReadOver (in_turn all) end all → (front past : List Noted) → all ≡ front ++ past → AllReadOver (in_turn all) end past → AllReadBehind past
  all-behind r o front [] e q = tt
  all-behind r o front (x ∷ h) e q = (
    (
      λ k c. reply-behind front x h (subst AllComeBehind e w) (subst AllStand e r) (subst AreInPlace e p) (cell-read x.entry.made.op k c) x.entry.made.caller k x.entry.made.reply
          (subst (λ z. IsReadReply (in_turn z) (state_of z).managed.managed.cells (state_of h).managed.managed x.entry.number x.entry.made.caller k x.entry.made.reply) e (q.0 k c)),
      gives,
    ),
    all-behind r o (front ++ x ∷ []) h (e ∙ sym (append_assoc front (x ∷ []) h)) q.1,
  )
    where
      x-at : PastAt all (length h) x
      x-at = subst (λ z. PastAt z (length h) x) (sym e) (at-more front (x ∷ h) (length h) x (inl (refl, refl)))

      gives : GivesSnap h x
      gives g k v =
          let m = over-pending (in_turn all) end h q.1 v.entry k v.there v.read v.reply in
          let a = get-at all m.snap m.snaps.element m.snaps.there in
          let a' = subst (λ z. PastAt z m.snap m.snaps.element) e a in
          let here = in-at h v.entry (in_place-back front (x ∷ h) (subst AreInPlace e p)).1 v.there in
          let low = within h v.entry.entry.number v.entry here in
          elim (split m.snap (length h)) [
            | inl less ↦ absurd (v.unsnapped m.snaps.element (at-in h m.snap m.snaps.element
                (at-less (x ∷ []) h m.snap m.snaps.element (at-less front (x ∷ h) m.snap m.snaps.element a' (omega (arith, less))) less)) m.snaps.is)
            | inr far ↦ elim (split (length h) m.snap) [
              | inl more ↦ absurd (let z = m.early (length h) more (record { element = x; there = at-get all (length h) x x-at; is = g }) in omega (arith, z, low))
              | inr same ↦ ap (λ (z : Noted). z.entry.made.op) (one-at all (length h) x m.snaps.element x-at
                  (subst (λ z. PastAt all z m.snaps.element) (let u : m.snap ≡ length h = omega (arith, far, same) in u) a)) ∙ m.snaps.is
            ]
          ]

  none-waits : AllReadOver (in_turn all) end all → (j : ℕ) → WaitsForSnap all j → ⊥
  none-waits o k v =
      let m = over-pending (in_turn all) end all o v.entry k v.there v.read v.reply in
      v.unsnapped m.snaps.element (at-in all m.snap m.snaps.element (get-at all m.snap m.snaps.element m.snaps.there)) m.snaps.is

pub readers_tested : ReadersAreTested
readers_tested all w p = (
  λ z. all-over all w p (stand_behind all z.0) z.0 z.1 [] all refl z.0,
  λ o. (all-behind all w p (stand_over (in_turn all) (state_of all).managed.managed.cells all o) o [] all refl o, none-waits all w p o),
)
