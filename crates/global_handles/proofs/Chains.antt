-- Just the slots with a row to clear are on a chain, that of their peer, the last made first. Which slots these are
-- is told slot by slot by `opens`, so each change is followed by what it does to single slots. A change that leaves
-- `opens` and both links of each slot leaves all chains. A clearing leaves none of its peer's slots open, and the
-- others as they were. A new slot goes in front of its peer's chain. A slot that is taken off lies, in its chain,
-- between what it leads back to and what it leads on to, which from then on lead to each other: nothing is open
-- between them but the slot itself. No other slot or head led to it, since two that lead to one slot are one.
-- The walk clears from the top down: before the slot of the number n, all slots from there up are as if cleared,
-- since those between two slots of a chain have nothing to clear for its peer.
use Rattle.std.proofs.Common.{◌≡◌, ◌≢◌, ℕ, ◌+◌, ◌<◌, ◌≤◌, zero, suc, cond, eqb, not, Bool, true, false, List, [], ◌∷◌, ◌++◌, length, map, set, get_or, slice_get, Option, None, Some, refl, sym, ap}
use Rattle.std.proofs.Common.{◌∙◌, subst, ◌⊎◌, inl, inr, eq-eqb, arith}
use Rattle.std.specs.Option.{option_map, option_and_then}
use Rattle.std.proofs.lemmas.Bool.{cases_eq, cases_lt}
use Rattle.std.proofs.lemmas.List.{get_or_past}
use Rattle.std.proofs.lemmas.Option.{none-some, same_Some, slice_get-get_or, slice_get_within, slice_get_read}
use Rattle.std.proofs.lemmas.Bool.Decides.{nat_tests}
use Rattle.joint_machine.specs.declared.names.PNum.{PNum}
use Rattle.joint_machine.proofs.Deciding.{neq-eqb, true-false}
use Rattle.global_handles.specs.declared.Kept.{Kept}
use Rattle.global_handles.specs.declared.Name.{Name}
use Rattle.global_handles.specs.declared.Slot.{Slot}
use Rattle.global_handles.specs.Slots.{with_row, with_next, with_previous, next_at, previous_at, numbered, row_at, row_of, rows_of, ArePlaced, cleared_kept, cleared_slot, is_open, opens, head_in}
use Rattle.global_handles.specs.Slots.{DiffersByStrength, IsLastOpen, AreLinkedSlots, LeadsBack, IsBacked, IsChained}
use Rattle.global_handles.proofs.Slots.{kept_at, rows_of-made}

-- the peer of a number
abbrev peer_of : ℕ → PNum
peer_of n = record { 0 = n }

-- a slot that is open for a peer names it
opens-peer : (p : PNum) (s : Slot) → opens p s ≡ true → p ≡ s.peer
opens-peer p s is = by (eqb p.0 s.peer.0) refl
  where
    by : (b : Bool) → eqb p.0 s.peer.0 ≡ b → p ≡ s.peer
    by true e =
        let n : p.0 ≡ s.peer.0 = grind (arith, nat_tests) in
        ap (λ (m : ℕ). peer_of m) n
    by false e =
        let no : false ≡ true = rw e at is in
        absurd (cc)

-- and no other
opens-one : (p q : PNum) (s : Slot) → opens p s ≡ true → opens q s ≡ true → q ≡ p
opens-one p q s a b = opens-peer q s b ∙ sym (opens-peer p s a)

-- a slot without a row is open for none
opens-none : (p : PNum) (s : Slot) → s.row ≡ None → opens p s ≡ false
opens-none p s none = by (eqb p.0 s.peer.0) refl
  where
    by : (b : Bool) → eqb p.0 s.peer.0 ≡ b → opens p s ≡ false
    by true e = rw (e, none) refl
    by false e = rw e refl

-- the slots open for a peer are the same, so its chain is
pub Leads-alike : (old new : List Slot) (p : PNum) (n high : ℕ)
    → ((j : ℕ) (t : Slot) → j < high → slice_get new j ≡ Some t → (s : Slot) × (slice_get old j ≡ Some s) × (opens p t ≡ opens p s)) → IsLastOpen old p n high → IsLastOpen new p n high
Leads-alike old new p n high came leads = record {
  within = leads.within;
  own = λ j t is at. let c = came j t (omega (arith, leads.within)) at in c.2 ∙ leads.own j c.0 is c.1;
  settled = λ j t low below at. let c = came j t below at in c.2 ∙ leads.settled j c.0 low below c.1;
}

-- a slot that took the place of another: it is open for the same peers, and has the same links
pub record Like (old new : Slot) : Type 0 where
  pub opens_same : (q : PNum) → opens q new ≡ opens q old
  pub next_same : new.next ≡ old.next
  pub previous_same : new.previous ≡ old.previous

-- each of the new slots took the place of an old one
pub record Follows (old new : List Slot) : Type 0 where
  pub length_same : length new ≡ length old
  pub came : (j : ℕ) (t : Slot) → slice_get new j ≡ Some t → (s : Slot) × (slice_get old j ≡ Some s) × Like s t
  pub goes : (j : ℕ) (s : Slot) → slice_get old j ≡ Some s → (t : Slot) × (slice_get new j ≡ Some t) × Like s t

pub IsChained-follows : (old new : List Slot) (head : PNum → ℕ) → Follows old new → IsChained old head → IsChained new head
IsChained-follows old new head follows chained = record {
  heads_lead = λ p. rw follows.length_same (leads p (head p) (length old) (chained.heads_lead p));
  linked = λ i t at p has.
      let c = follows.came i t at in
      rw c.2.next_same (leads p c.0.next i (chained.linked i c.0 c.1 p (sym (c.2.opens_same p) ∙ has)));
  backed = λ i t at p has.
      let c = follows.came i t at in
      let back = chained.backed i c.0 c.1 p (sym (c.2.opens_same p) ∙ has) in
      record {
        first = λ none. back.first (sym c.2.previous_same ∙ none);
        later = λ j some.
            let l = back.later j (sym c.2.previous_same ∙ some) in
            let g = follows.goes j l.0 l.1 in
            (g.0, g.1, g.2.opens_same p ∙ l.2, g.2.next_same ∙ l.3);
      };
}
  where
    leads : (p : PNum) (n high : ℕ) → IsLastOpen old p n high → IsLastOpen new p n high
    leads p n high = Leads-alike old new p n high (λ j t below at. let c = follows.came j t at in (c.0, c.1, c.2.opens_same p))

same_suc : {m n : ℕ} → suc m ≡ suc n → m ≡ n
same_suc e = omega arith

not_zero : (n : ℕ) → n ≢ 0 → ((m : ℕ) → n ≡ suc m → ⊥) → ⊥
not_zero zero some none = some refl
not_zero (suc m) some none = none m refl

not-false : (b : Bool) → not b ≡ false → b ≡ true
not-false true e = refl
not-false false e = absurd (cc)

-- slots that are changed by their numbers
pub length-numbered : (f : ℕ → Slot → Slot) (n : ℕ) (ss : List Slot) → length (numbered f n ss) ≡ length ss
length-numbered f n [] = refl
length-numbered f n (s ∷ ss) = ap suc (length-numbered f (n + 1) ss)

pub length-with_previous : (ss : List Slot) (m v : ℕ) → length (with_previous ss m v) ≡ length ss
length-with_previous ss m v = length-numbered (previous_at m v) 1 ss

pub length-with_next : (ss : List Slot) (m v : ℕ) → length (with_next ss m v) ≡ length ss
length-with_next ss m v = length-numbered (next_at m v) 1 ss

numbered-goes : (f : ℕ → Slot → Slot) (n : ℕ) (ss : List Slot) (j m : ℕ) (s : Slot) → m ≡ n + j → slice_get ss j ≡ Some s → slice_get (numbered f n ss) j ≡ Some (f m s)
numbered-goes f n [] j m s is at = absurd (none-some s at)
numbered-goes f n (u ∷ ss) zero m s is at =
    let e : m ≡ n = omega arith in
    rw (e, same_Some u s at) refl
numbered-goes f n (u ∷ ss) (suc j) m s is at = numbered-goes f (n + 1) ss j m s (omega arith) at

numbered-came : (f : ℕ → Slot → Slot) (n : ℕ) (ss : List Slot) (j m : ℕ) (t : Slot) → m ≡ n + j → slice_get (numbered f n ss) j ≡ Some t → (s : Slot) × (slice_get ss j ≡ Some s) × (t ≡ f m s)
numbered-came f n [] j m t is at = absurd (none-some t at)
numbered-came f n (u ∷ ss) zero m t is at =
    let e : m ≡ n = omega arith in
    (u, refl, rw e (sym (same_Some _ t at)))
numbered-came f n (u ∷ ss) (suc j) m t is at = numbered-came f (n + 1) ss j m t (omega arith) at

-- slots whose peers and rows stay lead each name to the same row
row_of-numbered : (f : ℕ → Slot → Slot) (n m i : ℕ) (ss : List Slot) → ((k : ℕ) (s : Slot) → (f k s).peer ≡ s.peer)
    → ((k : ℕ) (s : Slot) → (f k s).row ≡ s.row) → option_and_then (row_of n) (slice_get (numbered f m ss) i) ≡ option_and_then (row_of n) (slice_get ss i)
row_of-numbered f n m i [] peers rows = refl
row_of-numbered f n m zero (s ∷ ss) peers rows = rw (peers m s, rows m s) refl
row_of-numbered f n m (suc i) (s ∷ ss) peers rows = row_of-numbered f n (m + 1) i ss peers rows

rows_of-numbered : (f : ℕ → Slot → Slot) (m : ℕ) (ss : List Slot) (es : List Name) → ((k : ℕ) (s : Slot) → (f k s).peer ≡ s.peer)
    → ((k : ℕ) (s : Slot) → (f k s).row ≡ s.row) → rows_of (numbered f m ss) es ≡ rows_of ss es
rows_of-numbered f m ss [] peers rows = refl
rows_of-numbered f m ss (e ∷ es) peers rows = rw (row_of-numbered f e.number m e.place ss peers rows, rows_of-numbered f m ss es peers rows) refl

rows_of-links : (ss : List Slot) (es : List Name) (m n a b : ℕ) → rows_of (with_previous (with_next ss m n) a b) es ≡ rows_of ss es
rows_of-links ss es m n a b = rows_of-numbered (previous_at a b) 1 (with_next ss m n) es (λ k s. refl) (λ k s. refl) ∙ rows_of-numbered (next_at m n) 1 ss es (λ k s. refl) (λ k s. refl)

pub rows_of-with_previous : (ss : List Slot) (es : List Name) (a b : ℕ) → rows_of (with_previous ss a b) es ≡ rows_of ss es
rows_of-with_previous ss es a b = rows_of-numbered (previous_at a b) 1 ss es (λ k s. refl) (λ k s. refl)

numbered-none : (f : ℕ → Slot → Slot) (n : ℕ) (ss : List Slot) → ((k : ℕ) (s : Slot) → n ≤ k → f k s ≡ s) → numbered f n ss ≡ ss
numbered-none f n [] none = refl
numbered-none f n (s ∷ ss) none = rw (none n s (omega arith), numbered-none f (n + 1) ss (λ k t le. none k t (omega arith))) refl

-- a write at one place is a change at one number
numbered-set : (f : ℕ → Slot → Slot) (n : ℕ) (ss : List Slot) (i m : ℕ) (s : Slot) → m ≡ n + i → s ≡ get_or ss i s → ((k : ℕ) (t : Slot) → k ≢ m → f k t ≡ t) → set ss i (f m s) ≡ numbered f n ss
numbered-set f n [] i m s at is others = refl
numbered-set f n (t ∷ ss) zero m s at is others =
    let e : m ≡ n = omega arith in
    rw (numbered-none f (n + 1) ss (λ k u le. others k u (omega arith)), ← is, e) refl
numbered-set f n (t ∷ ss) (suc i) m s at is others =
    rw (others n t (omega arith), numbered-set f (n + 1) ss i m s (omega arith) is others) refl

next_at-other : (m v k : ℕ) (s : Slot) → k ≢ m → next_at m v k s ≡ s
next_at-other m v k s apart = rw (neq-eqb k m apart) refl

previous_at-other : (m v k : ℕ) (s : Slot) → k ≢ m → previous_at m v k s ≡ s
previous_at-other m v k s apart = rw (neq-eqb k m apart) refl

pub with_next-zero : (ss : List Slot) (m v : ℕ) → m ≡ 0 → ss ≡ with_next ss m v
with_next-zero ss m v is = sym (numbered-none (next_at m v) 1 ss (λ k s le. next_at-other m v k s (omega arith)))

pub with_previous-zero : (ss : List Slot) (m v : ℕ) → m ≡ 0 → ss ≡ with_previous ss m v
with_previous-zero ss m v is = sym (numbered-none (previous_at m v) 1 ss (λ k s le. previous_at-other m v k s (omega arith)))

pub with_next-set : (ss : List Slot) (i m v : ℕ) (s : Slot) → m ≡ suc i → s ≡ get_or ss i s → set ss i (record { peer = s.peer; next = v; previous = s.previous; row = s.row }) ≡ with_next ss m v
with_next-set ss i m v s top is =
    let here : eqb m m ≡ true = eq-eqb m m refl in
    let e = numbered-set (next_at m v) 1 ss i m s (omega arith) is (λ k t apart. next_at-other m v k t apart) in
    rw here at e

pub with_previous-set : (ss : List Slot) (i m v : ℕ) (s : Slot) → m ≡ suc i → s ≡ get_or ss i s → set ss i (record { peer = s.peer; next = s.next; previous = v; row = s.row }) ≡ with_previous ss m v
with_previous-set ss i m v s top is =
    let here : eqb m m ≡ true = eq-eqb m m refl in
    let e = numbered-set (previous_at m v) 1 ss i m s (omega arith) is (λ k t apart. previous_at-other m v k t apart) in
    rw here at e

-- the slot with another row
abbrev slot_with : Slot → Option Kept → Slot
slot_with s row = record { peer = s.peer; next = s.next; previous = s.previous; row = row }

eqb-suc : (i j : ℕ) → eqb (suc i) (suc j) ≡ eqb i j
eqb-suc i j = elim (cases_eq i j) [
  | inl e ↦ eq-eqb (suc i) (suc j) (ap suc e) ∙ sym (eq-eqb i j e)
  | inr ne ↦ neq-eqb (suc i) (suc j) (λ e. ne (same_suc e)) ∙ sym (neq-eqb i j ne)
]

-- slots where one has another row
with_row-goes : (ss : List Slot) (i : ℕ) (row : Option Kept) (j : ℕ) (s : Slot) → slice_get ss j ≡ Some s → slice_get (with_row ss i row) j ≡ Some (slot_with s (cond (eqb i j) row s.row))
with_row-goes [] i row j s at = absurd (none-some s at)
with_row-goes (u ∷ ss) zero row zero s at = rw (same_Some u s at) refl
with_row-goes (u ∷ ss) zero row (suc j) s at = rw (neq-eqb 0 (suc j) (omega arith)) at
with_row-goes (u ∷ ss) (suc i) row zero s at = rw (neq-eqb (suc i) 0 (omega arith)) at
with_row-goes (u ∷ ss) (suc i) row (suc j) s at = rw (eqb-suc i j) (with_row-goes ss i row j s at)

with_row-came : (ss : List Slot) (i : ℕ) (row : Option Kept) (j : ℕ) (t : Slot) → slice_get (with_row ss i row) j ≡ Some t
    → (s : Slot) × (slice_get ss j ≡ Some s) × (t ≡ slot_with s (cond (eqb i j) row s.row))
with_row-came [] i row j t at = absurd (none-some t at)
with_row-came (u ∷ ss) zero row zero t at = (u, refl, sym (same_Some _ t at))
with_row-came (u ∷ ss) zero row (suc j) t at = (t, at, rw (neq-eqb 0 (suc j) (omega arith)) refl)
with_row-came (u ∷ ss) (suc i) row zero t at = (t, at, rw (neq-eqb (suc i) 0 (omega arith)) refl)
with_row-came (u ∷ ss) (suc i) row (suc j) t at = rw (eqb-suc i j) (with_row-came ss i row j t at)

-- what is written at a place is the slot there with another row
pub set-with_row : (ss : List Slot) (i : ℕ) (s : Slot) (row : Option Kept) → s ≡ get_or ss i s
    → set ss i (record { peer = s.peer; next = s.next; previous = s.previous; row = row }) ≡ with_row ss i row
set-with_row [] i s row is = refl
set-with_row (t ∷ ss) zero s row is = ap (λ u. slot_with u row ∷ ss) is
set-with_row (t ∷ ss) (suc i) s row is = ap (λ u. t ∷ u) (set-with_row ss i s row is)

-- where a place's row differs by its strength alone, that is all there is to write
differing-slot : (ss : List Slot) (i : ℕ) (t : Slot) (k : Kept) → t ≡ get_or ss i t → (d : DiffersByStrength ss i k) → d.slot ≡ t
differing-slot ss i t k here d =
    same_Some d.slot t (sym d.there ∙ (slice_get-get_or ss i t (slice_get_within ss i d.slot d.there) ∙ ap (λ s. Some s) (sym here)))

pub differing-row : (ss : List Slot) (i : ℕ) (t : Slot) (k : Kept) → t ≡ get_or ss i t → (d : DiffersByStrength ss i k) → t.row ≡ Some d.before
differing-row ss i t k here d = ap (λ (s : Slot). s.row) (sym (differing-slot ss i t k here d)) ∙ d.row

pub set-strength : (ss : List Slot) (i : ℕ) (t : Slot) (row k : Kept) → t ≡ get_or ss i t → t.row ≡ Some row → DiffersByStrength ss i k
    → set ss i (record { peer = t.peer; next = t.next; previous = t.previous; row = Some (record row { strength = k.strength }) }) ≡ with_row ss i (Some k)
set-strength ss i t row k here is d =
    let same : row ≡ d.before = same_Some row d.before (sym is ∙ differing-row ss i t k here d) in
    set-with_row ss i t (Some (record row { strength = k.strength })) here
    ∙ ap (λ r. with_row ss i (Some r)) (ap (λ (o : Kept). record o { strength = k.strength }) same ∙ d.is)

pub length-with_row : (ss : List Slot) (i : ℕ) (row : Option Kept) → length (with_row ss i row) ≡ length ss
length-with_row [] i row = refl
length-with_row (s ∷ ss) zero row = refl
length-with_row (s ∷ ss) (suc i) row = ap suc (length-with_row ss i row)

-- a row that is as open as that before it leaves all chains
pub IsChained-with_row : (ss : List Slot) (i : ℕ) (row : Option Kept) (head : PNum → ℕ)
    → ((s : Slot) → slice_get ss i ≡ Some s → is_open row ≡ is_open s.row) → IsChained ss head → IsChained (with_row ss i row) head
IsChained-with_row ss i row head same chained = IsChained-follows ss (with_row ss i row) head follows chained
  where
    row_same : (j : ℕ) (s : Slot) (b : Bool) → slice_get ss j ≡ Some s → eqb i j ≡ b → is_open (cond b row s.row) ≡ is_open s.row
    row_same j s true at e =
        let here : i ≡ j = grind (arith, nat_tests) in
        same s (rw here at)
    row_same j s false at e = refl

    like : (j : ℕ) (s : Slot) → slice_get ss j ≡ Some s → Like s (slot_with s (cond (eqb i j) row s.row))
    like j s at = record {
      opens_same = λ q. ap (λ (b : Bool). cond (eqb q.0 s.peer.0) b false) (row_same j s (eqb i j) at refl);
      next_same = refl;
      previous_same = refl;
    }

    follows : Follows ss (with_row ss i row)
    follows = record {
      length_same = length-with_row ss i row;
      came = λ j t at. let c = with_row-came ss i row j t at in (c.0, c.1, subst (Like c.0) (sym c.2) (like j c.0 c.1));
      goes = λ j s at. (slot_with s (cond (eqb i j) row s.row), with_row-goes ss i row j s at, like j s at);
    }

-- a slot taken off: its row is gone, and what it lay between lead to each other
abbrev pub without_slot : ℕ → Slot → ℕ → Slot → Slot
without_slot i gone j s = previous_at gone.next gone.previous (suc j) (next_at gone.previous gone.next (suc j) (slot_with s (cond (eqb i j) None s.row)))

abbrev pub without_slots : List Slot → ℕ → Slot → List Slot
without_slots ss i gone = with_previous (with_next (with_row ss i None) gone.previous gone.next) gone.next gone.previous

without_slots-goes : (ss : List Slot) (i : ℕ) (gone : Slot) (j : ℕ) (s : Slot) → slice_get ss j ≡ Some s → slice_get (without_slots ss i gone) j ≡ Some (without_slot i gone j s)
without_slots-goes ss i gone j s at =
    let a = with_row-goes ss i None j s at in
    let b = numbered-goes (next_at gone.previous gone.next) 1 (with_row ss i None) j (suc j) _ (omega arith) a in
    numbered-goes (previous_at gone.next gone.previous) 1 (with_next (with_row ss i None) gone.previous gone.next) j (suc j) _ (omega arith) b

thrice : (f g : Slot → Slot) (t u v w : Slot) → t ≡ f u → u ≡ g v → v ≡ w → t ≡ f (g w)
thrice f g t u v w e e' e'' = e ∙ ap f (e' ∙ ap g e'')

without_slots-came : (ss : List Slot) (i : ℕ) (gone : Slot) (j : ℕ) (t : Slot) → slice_get (without_slots ss i gone) j ≡ Some t → (s : Slot) × (slice_get ss j ≡ Some s) × (t ≡ without_slot i gone j s)
without_slots-came ss i gone j t at =
    let c = numbered-came (previous_at gone.next gone.previous) 1 (with_next (with_row ss i None) gone.previous gone.next) j (suc j) t (omega arith) at in
    let b = numbered-came (next_at gone.previous gone.next) 1 (with_row ss i None) j (suc j) c.0 (omega arith) c.1 in
    let a = with_row-came ss i None j b.0 b.1 in
    (a.0, a.1, thrice (previous_at gone.next gone.previous (suc j)) (next_at gone.previous gone.next (suc j)) t c.0 b.0 (slot_with a.0 (cond (eqb i j) None a.0.row)) c.2 b.2 a.2)

pub length-without_slots : (ss : List Slot) (i : ℕ) (gone : Slot) → length (without_slots ss i gone) ≡ length ss
length-without_slots ss i gone = length-numbered _ 1 _ ∙ length-numbered _ 1 _ ∙ length-with_row ss i None

pub rows_of-without_slots : (ss : List Slot) (es : List Name) (i : ℕ) (gone : Slot) → rows_of (without_slots ss i gone) es ≡ rows_of (with_row ss i None) es
rows_of-without_slots ss es i gone = rows_of-links (with_row ss i None) es gone.previous gone.next gone.next gone.previous

-- what a slot is after that, by its place
gone-here : (q : PNum) (i : ℕ) (gone : Slot) (j : ℕ) (s : Slot) → j ≡ i → opens q (without_slot i gone j s) ≡ false
gone-here q i gone j s is =
    let same : eqb i j ≡ true = eq-eqb i j (sym is) in
    opens-none q (without_slot i gone j s) (rw same refl)

gone-apart : (q : PNum) (i : ℕ) (gone : Slot) (j : ℕ) (s : Slot) → j ≢ i → opens q (without_slot i gone j s) ≡ opens q s
gone-apart q i gone j s apart =
    let other : i ≢ j = λ e. apart (sym e) in
    rw (neq-eqb i j other) refl

gone-settled : (q : PNum) (i : ℕ) (gone : Slot) (j : ℕ) (s : Slot) → opens q s ≡ false → opens q (without_slot i gone j s) ≡ false
gone-settled q i gone j s settled = elim (cases_eq j i) [ inl e ↦ gone-here q i gone j s e | inr ne ↦ gone-apart q i gone j s ne ∙ settled ]

gone-open : (q : PNum) (i : ℕ) (gone : Slot) (j : ℕ) (s : Slot) → opens q (without_slot i gone j s) ≡ true → (j ≢ i) × (opens q s ≡ true)
gone-open q i gone j s has = elim (cases_eq j i) [
  | inl e ↦ absurd (true-false _ has (gone-here q i gone j s e))
  | inr ne ↦ (ne, sym (gone-apart q i gone j s ne) ∙ has)
]

pick-same : (m k a b : ℕ) → m ≡ k → cond (eqb m k) a b ≡ a
pick-same m k a b e = rw (eq-eqb m k e) refl

pick-apart : (m k a b : ℕ) → m ≢ k → cond (eqb m k) a b ≡ b
pick-apart m k a b apart = rw (neq-eqb m k apart) refl

-- what led to the slot taken off leads on to what that led to
Leads-skip : (ss : List Slot) (i : ℕ) (gone : Slot) (p : PNum) (n high : ℕ) → i < high → IsLastOpen ss p (suc i) high → IsLastOpen ss p n i → IsLastOpen (without_slots ss i gone) p n high
Leads-skip ss i gone p n high below outer inner = record {
  within = omega (arith, inner.within);
  own = λ j t is at.
      let c = without_slots-came ss i gone j t at in
      rw c.2 (gone-apart p i gone j c.0 (omega (arith, inner.within)) ∙ inner.own j c.0 is c.1);
  settled = λ j t low less at.
      let c = without_slots-came ss i gone j t at in
      rw c.2 (elim (cases_eq j i) [
        | inl e ↦ gone-here p i gone j c.0 e
        | inr ne ↦ gone-settled p i gone j c.0 (elim (cases_lt j i) [ inl lt ↦ inner.settled j c.0 low lt c.1 | inr ge ↦ outer.settled j c.0 (omega arith) less c.1 ])
      ]);
}

-- what led to another number still does
Leads-stay : (ss : List Slot) (i : ℕ) (gone : Slot) (p : PNum) (n high : ℕ) → n ≢ suc i → IsLastOpen ss p n high → IsLastOpen (without_slots ss i gone) p n high
Leads-stay ss i gone p n high other leads = record {
  within = leads.within;
  own = λ j t is at.
      let c = without_slots-came ss i gone j t at in
      rw c.2 (gone-apart p i gone j c.0 (omega arith) ∙ leads.own j c.0 is c.1);
  settled = λ j t low less at.
      let c = without_slots-came ss i gone j t at in
      rw c.2 (gone-settled p i gone j c.0 (leads.settled j c.0 low less c.1));
}

-- two places with one slot before both: none of them is open below the other
Leads-once : (ss : List Slot) (p : PNum) (n a b : ℕ) (s : Slot) → IsLastOpen ss p n a → IsLastOpen ss p n b → a < b → slice_get ss a ≡ Some s → opens p s ≡ true → ⊥
Leads-once ss p n a b s below above less at has = true-false _ has (above.settled a s below.within less at)

-- a row that is changed and not uncleared is as open as it was
pub open-kept : (ss : List Slot) (i : ℕ) (k k' : Kept) → kept_at ss i ≡ Some k → k'.cleared ≡ k.cleared → (s : Slot) → slice_get ss i ≡ Some s → is_open (Some k') ≡ is_open s.row
open-kept ss i k k' is same s at =
    let row : s.row ≡ Some k = rw at at is in
    rw row (ap not same)

-- the heads after a slot of the peer is taken off: where it was the first, the next one is
abbrev pub head_moved : PNum → Slot → (PNum → ℕ) → PNum → ℕ
head_moved p gone head q = cond (eqb gone.previous 0) (cond (eqb p.0 q.0) gone.next (head q)) (head q)

-- the chains after a slot was taken off
pub IsChained-without : (ss : List Slot) (i : ℕ) (gone : Slot) (p : PNum) (head new : PNum → ℕ) → slice_get ss i ≡ Some gone
    → opens p gone ≡ true → ((q : PNum) → new q ≡ head_moved p gone head q) → IsChained ss head → IsChained (without_slots ss i gone) new
IsChained-without ss i gone p head new at has moved chained = record {
  heads_lead = λ q. rw (length-without_slots ss i gone) (heads q);
  linked = links;
  backed = backs;
}
  where
    within : i < length ss
    within = slice_get_within ss i gone at

    inner : IsLastOpen ss p gone.next i
    inner = chained.linked i gone at p has

    back : LeadsBack ss head p gone.previous (suc i)
    back = chained.backed i gone at p has

    -- where a slot comes before it, no head leads to it
    not_first : (q : PNum) (m : ℕ) → gone.previous ≡ suc m → head q ≡ suc i → ⊥
    not_first q m later is =
        let b = back.later m later in
        let leads = rw b.3 at (chained.linked m b.0 b.1 p b.2) in
        let own = chained.heads_lead q in
        let same : q ≡ p = opens-one p q gone has (own.own i gone is at) in
        let top : IsLastOpen ss p (suc i) (length ss) = rw (← is, ← same) own in
        Leads-once ss p (suc i) m (length ss) b.0 leads top (slice_get_within ss m b.0 b.1) b.1 b.2

    -- a slot that leads to it is the one that it leads back to
    leads_one : (j : ℕ) (s : Slot) (q : PNum) → slice_get ss j ≡ Some s → opens q s ≡ true → s.next ≡ suc i → suc j ≡ gone.previous
    leads_one j s q there is to =
        let leads = chained.linked j s there q is in
        let same : q ≡ p = opens-one p q gone has (leads.own i gone to at) in
        let mine : IsLastOpen ss p (suc i) j = rw (← to, ← same) leads in
        let own : opens p s ≡ true = rw (← same) is in
        find j s there own mine gone.previous refl
      where
        find : (j : ℕ) (s : Slot) → slice_get ss j ≡ Some s → opens p s ≡ true → IsLastOpen ss p (suc i) j → (m : ℕ) → gone.previous ≡ m → suc j ≡ gone.previous
        find j s there own mine zero none =
            let top : IsLastOpen ss p (suc i) (length ss) = rw (← back.first none) (chained.heads_lead p) in
            absurd (Leads-once ss p (suc i) j (length ss) s mine top (slice_get_within ss j s there) there own)
        find j s there own mine (suc m) later =
            let b = back.later m later in
            let leads = rw b.3 at (chained.linked m b.0 b.1 p b.2) in
            elim (cases_eq j m) [
              | inl e ↦ ap suc e ∙ sym later
              | inr ne ↦ elim (cases_lt j m) [
                | inl lt ↦ absurd (Leads-once ss p (suc i) j m s mine leads lt there own)
                | inr ge ↦ absurd (Leads-once ss p (suc i) m j b.0 leads mine (omega arith) b.1 b.2)
              ]
            ]

    heads : (q : PNum) → IsLastOpen (without_slots ss i gone) q (new q) (length ss)
    heads q = by (eqb gone.previous 0) (eqb p.0 q.0) refl refl
      where
        by : (a b : Bool) → eqb gone.previous 0 ≡ a → eqb p.0 q.0 ≡ b → IsLastOpen (without_slots ss i gone) q (new q) (length ss)
        by true true e e' =
            let none : gone.previous ≡ 0 = grind (arith, nat_tests) in
            let n : p.0 ≡ q.0 = grind (arith, nat_tests) in
            let same : p ≡ q = ap (λ (m : ℕ). peer_of m) n in
            let top : IsLastOpen ss p (suc i) (length ss) = rw (← back.first none) (chained.heads_lead p) in
            let is : new q ≡ gone.next = rw (e, e') at (moved q) in
            rw (is, ← same) (Leads-skip ss i gone p gone.next (length ss) within top inner)
        by true false e e' =
            let none : gone.previous ≡ 0 = grind (arith, nat_tests) in
            let apart : p.0 ≢ q.0 = grind (arith, nat_tests) in
            let is : new q ≡ head q = rw (e, e') at (moved q) in
            let own = chained.heads_lead q in
            let other : head q ≢ suc i = λ w. apart (ap (λ (r : PNum). r.0) (sym (opens-one p q gone has (own.own i gone w at)))) in
            rw is (Leads-stay ss i gone q (head q) (length ss) other own)
        by false b e e' =
            let some : gone.previous ≢ 0 = grind (arith, nat_tests) in
            let is : new q ≡ head q = rw e at (moved q) in
            let other : head q ≢ suc i = λ w. not_zero gone.previous some (λ m later. not_first q m later w) in
            rw is (Leads-stay ss i gone q (head q) (length ss) other (chained.heads_lead q))

    links : AreLinkedSlots (without_slots ss i gone)
    links j t there q is =
        let c = without_slots-came ss i gone j t there in
        let o = gone-open q i gone j c.0 (rw c.2 at is) in
        let leads = chained.linked j c.0 c.1 q o.1 in
        rw c.2 (elim (cases_eq (suc j) gone.previous) [
          | inl e ↦
              let b = back.later j (sym e) in
              let one : c.0 ≡ b.0 = same_Some c.0 b.0 (sym c.1 ∙ b.1) in
              let same : p ≡ q = opens-one q p c.0 o.1 (rw one b.2) in
              let to : c.0.next ≡ suc i = ap (λ (s : Slot). s.next) one ∙ b.3 in
              let outer : IsLastOpen ss p (suc i) j = rw (← to, same) leads in
              rw (pick-same (suc j) gone.previous gone.next c.0.next e, ← same) (Leads-skip ss i gone p gone.next j outer.within outer inner)
          | inr ne ↦
              let other : c.0.next ≢ suc i = λ w. ne (leads_one j c.0 q c.1 o.1 w) in
              rw (pick-apart (suc j) gone.previous gone.next c.0.next ne) (Leads-stay ss i gone q c.0.next j other leads)
        ])

    backs : IsBacked (without_slots ss i gone) new
    backs j t there q is =
        let c = without_slots-came ss i gone j t there in
        let o = gone-open q i gone j c.0 (rw c.2 at is) in
        rw c.2 (elim (cases_eq (suc j) gone.next) [
          | inl e ↦
              let same : q ≡ p = opens-one p q c.0 (inner.own j c.0 (sym e) c.1) o.1 in
              rw (pick-same (suc j) gone.next gone.previous c.0.previous e, same, e) after
          | inr ne ↦ rw (pick-apart (suc j) gone.next gone.previous c.0.previous ne) (others j c.0 q c.1 o.1 o.0 ne)
        ])
      where
        after : LeadsBack (without_slots ss i gone) new p gone.previous gone.next
        after = record {
          first = λ none.
              let e : eqb gone.previous 0 ≡ true = eq-eqb gone.previous 0 none in
              let e' : eqb p.0 p.0 ≡ true = eq-eqb p.0 p.0 refl in
              rw (e, e') at (moved p);
          later = λ m later.
              let b = back.later m later in
              let above : suc i ≤ m = (rw b.3 at (chained.linked m b.0 b.1 p b.2)).within in
              (without_slot i gone m b.0, without_slots-goes ss i gone m b.0 b.1, gone-apart p i gone m b.0 (omega arith) ∙ b.2, pick-same (suc m) gone.previous gone.next b.0.next (sym later));
        }

        before : (m : ℕ) (s : Slot) → slice_get ss m ≡ Some s → suc m ≡ gone.previous → s.next ≡ suc i
        before m s there e =
            let b = back.later m (sym e) in
            ap (λ (u : Slot). u.next) (same_Some s b.0 (sym there ∙ b.1)) ∙ b.3

        moved_other : (q : PNum) (j : ℕ) → head q ≡ suc j → j ≢ i → new q ≡ suc j
        moved_other q j is apart = by (eqb gone.previous 0) (eqb p.0 q.0) refl refl
          where
            by : (a b : Bool) → eqb gone.previous 0 ≡ a → eqb p.0 q.0 ≡ b → new q ≡ suc j
            by true true e e' =
                let none : gone.previous ≡ 0 = grind (arith, nat_tests) in
                let n : p.0 ≡ q.0 = grind (arith, nat_tests) in
                let same : p ≡ q = ap (λ (m : ℕ). peer_of m) n in
                absurd (apart (same_suc (sym is ∙ rw (← same) (back.first none))))
            by true false e e' = (rw (e, e') at (moved q)) ∙ is
            by false b e e' = (rw e at (moved q)) ∙ is

        others : (j : ℕ) (s : Slot) (q : PNum) → slice_get ss j ≡ Some s → opens q s ≡ true → j ≢ i → suc j ≢ gone.next → LeadsBack (without_slots ss i gone) new q s.previous (suc j)
        others j s q there is apart ne =
            let old = chained.backed j s there q is in
            record {
              first = λ none. moved_other q j (old.first none) apart;
              later = λ m later.
                  let b = old.later m later in
                  let not_gone : m ≢ i = λ e. ne (sym b.3 ∙ ap (λ (u : Slot). u.next) (same_Some b.0 gone (sym b.1 ∙ rw e at))) in
                  let not_before : suc m ≢ gone.previous = λ e. apart (same_suc (sym b.3 ∙ before m b.0 b.1 e)) in
                  (without_slot i gone m b.0, without_slots-goes ss i gone m b.0 b.1, gone-apart q i gone m b.0 not_gone ∙ b.2, pick-apart (suc m) gone.previous gone.next b.0.next not_before ∙ b.3);
            }

-- the links of an open slot are numbers of slots, and its peer has a head
pub links-within : (ss : List Slot) (i : ℕ) (s : Slot) (p : PNum) (head : PNum → ℕ) → IsChained ss head
    → slice_get ss i ≡ Some s → opens p s ≡ true → (s.previous ≤ length ss) × (s.next ≤ length ss) × (s.previous ≡ 0 → head p ≢ 0)
links-within ss i s p head chained at has =
    let back = chained.backed i s at p has in
    let inner = chained.linked i s at p has in
    let low : i < length ss = slice_get_within ss i s at in
    (to s.previous refl back.later, omega (arith, inner.within), λ none e. omega (arith, back.first none))
  where
    to : (m : ℕ) → s.previous ≡ m → ((j : ℕ) → s.previous ≡ suc j → (t : Slot) × (slice_get ss j ≡ Some t) × (opens p t ≡ true) × (t.next ≡ suc i)) → s.previous ≤ length ss
    to zero is later = omega arith
    to (suc j) is later =
        let b = later j is in
        let below : j < length ss = slice_get_within ss j b.0 b.1 in
        omega arith

-- an open slot is open for its peer
pub opens-own : (s : Slot) → is_open s.row ≡ true → opens s.peer s ≡ true
opens-own s has = rw (eq-eqb s.peer.0 s.peer.0 refl) has

-- a row that is removed where it isn't open leaves all chains
pub IsChained-emptied : (ss : List Slot) (i : ℕ) (s : Slot) (head : PNum → ℕ) → slice_get ss i ≡ Some s → is_open s.row ≡ false → IsChained ss head → IsChained (with_row ss i None) head
IsChained-emptied ss i s head at shut chained = IsChained-with_row ss i None head (λ t there. sym (ap (λ (u : Slot). is_open u.row) (same_Some t s (sym there ∙ at)) ∙ shut)) chained

-- a cleared slot is settled for its peer, and like before for each other
opens-cleared : (p : PNum) (s : Slot) → opens p (cleared_slot p s) ≡ false
opens-cleared p s = by (eqb p.0 s.peer.0) s.row refl refl
  where
    by : (b : Bool) (o : Option Kept) → eqb p.0 s.peer.0 ≡ b → s.row ≡ o → opens p (cleared_slot p s) ≡ false
    by true None is row = rw (is, is, row) refl
    by true (Some k) is row = rw (is, is, row) refl
    by false o is row = rw (is, is) refl

opens-cleared_other : (p q : PNum) (s : Slot) → p.0 ≢ q.0 → opens q (cleared_slot p s) ≡ opens q s
opens-cleared_other p q s apart = by (eqb p.0 s.peer.0) refl
  where
    by : (b : Bool) → eqb p.0 s.peer.0 ≡ b → opens q (cleared_slot p s) ≡ opens q s
    by true is =
        let here : p.0 ≡ s.peer.0 = grind (arith, nat_tests) in
        let other : q.0 ≢ s.peer.0 = λ e. apart (here ∙ sym e) in
        rw (is, neq-eqb q.0 s.peer.0 other) refl
    by false is = rw is refl

links-cleared : (p : PNum) (s : Slot) → ((cleared_slot p s).next ≡ s.next) × ((cleared_slot p s).previous ≡ s.previous)
links-cleared p s = by (eqb p.0 s.peer.0) refl
  where
    by : (b : Bool) → eqb p.0 s.peer.0 ≡ b → ((cleared_slot p s).next ≡ s.next) × ((cleared_slot p s).previous ≡ s.previous)
    by true is = rw is (refl, refl)
    by false is = rw is (refl, refl)

cleared-goes : (p : PNum) (ss : List Slot) (j : ℕ) (s : Slot) → slice_get ss j ≡ Some s → slice_get (map (cleared_slot p) ss) j ≡ Some (cleared_slot p s)
cleared-goes p [] j s at = absurd (none-some s at)
cleared-goes p (u ∷ ss) zero s at = ap (λ (t : Slot). Some (cleared_slot p t)) (same_Some u s at)
cleared-goes p (u ∷ ss) (suc j) s at = cleared-goes p ss j s at

cleared-came : (p : PNum) (ss : List Slot) (j : ℕ) (t : Slot) → slice_get (map (cleared_slot p) ss) j ≡ Some t → (s : Slot) × (slice_get ss j ≡ Some s) × (t ≡ cleared_slot p s)
cleared-came p [] j t at = absurd (none-some t at)
cleared-came p (u ∷ ss) zero t at = (u, refl, sym (same_Some (cleared_slot p u) t at))
cleared-came p (u ∷ ss) (suc j) t at = cleared-came p ss j t at

-- the chains after a clearing: that of the peer is gone, the others stay
pub IsChained-cleared : (p : PNum) (ss : List Slot) (head new : PNum → ℕ) → length (map (cleared_slot p) ss) ≡ length ss
    → ((q : PNum) → new q ≡ cond (eqb p.0 q.0) 0 (head q)) → IsChained ss head → IsChained (map (cleared_slot p) ss) new
IsChained-cleared p ss head new len moved chained = record {
  heads_lead = λ q. rw len (heads q);
  linked = λ j t there q is.
      let c = cleared-came p ss j t there in
      let o = was j c.0 q (rw c.2 at is) in
      rw (c.2, (links-cleared p c.0).0) (stay q c.0.next j o.0 (chained.linked j c.0 c.1 q o.1));
  backed = λ j t there q is.
      let c = cleared-came p ss j t there in
      let o = was j c.0 q (rw c.2 at is) in
      let old = chained.backed j c.0 c.1 q o.1 in
      rw (c.2, (links-cleared p c.0).1) (record {
        first = λ none. (rw (neq-eqb p.0 q.0 o.0) at (moved q)) ∙ old.first none;
        later = λ m later.
            let b = old.later m later in
            (cleared_slot p b.0, cleared-goes p ss m b.0 b.1, opens-cleared_other p q b.0 o.0 ∙ b.2, (links-cleared p b.0).0 ∙ b.3);
      });
}
  where
    was : (j : ℕ) (s : Slot) (q : PNum) → opens q (cleared_slot p s) ≡ true → (p.0 ≢ q.0) × (opens q s ≡ true)
    was j s q is = elim (cases_eq p.0 q.0) [
      | inl n ↦
          let same : p ≡ q = ap (λ (m : ℕ). peer_of m) n in
          absurd (true-false _ is (rw (← same) (opens-cleared p s)))
      | inr apart ↦ (apart, sym (opens-cleared_other p q s apart) ∙ is)
    ]

    stay : (q : PNum) (n high : ℕ) → p.0 ≢ q.0 → IsLastOpen ss q n high → IsLastOpen (map (cleared_slot p) ss) q n high
    stay q n high apart = Leads-alike ss (map (cleared_slot p) ss) q n high
        (λ j t below at. let c = cleared-came p ss j t at in (c.0, c.1, ap (λ (u : Slot). opens q u) c.2 ∙ opens-cleared_other p q c.0 apart))

    none : IsLastOpen (map (cleared_slot p) ss) p 0 (length ss)
    none = record {
      within = omega arith;
      own = λ j t is at. absurd (omega arith);
      settled = λ j t low below at. let c = cleared-came p ss j t at in rw c.2 (opens-cleared p c.0);
    }

    heads : (q : PNum) → IsLastOpen (map (cleared_slot p) ss) q (new q) (length ss)
    heads q = elim (cases_eq p.0 q.0) [
      | inl n ↦
          let same : p ≡ q = ap (λ (m : ℕ). peer_of m) n in
          let is : new q ≡ 0 = rw (eq-eqb p.0 q.0 n) at (moved q) in
          rw (is, ← same) none
      | inr apart ↦
          let is : new q ≡ head q = rw (neq-eqb p.0 q.0 apart) at (moved q) in
          rw is (stay q (head q) (length ss) apart (chained.heads_lead q))
    ]

-- a peer that has a chain has a place among the heads
pub head-within : (heads : List ℕ) (p : PNum) → head_in heads p ≢ 0 → p.0 < length heads
head-within heads p some = elim (cases_lt p.0 (length heads)) [ inl lt ↦ lt | inr ge ↦ absurd (some (get_or_past heads p.0 0 ge)) ]

-- the chains are seen by their heads alone
pub IsChained-heads : (ss : List Slot) (head new : PNum → ℕ) → ((q : PNum) → new q ≡ head q) → IsChained ss head → IsChained ss new
IsChained-heads ss head new same chained = record {
  heads_lead = λ p. subst (λ n. IsLastOpen ss p n (length ss)) (sym (same p)) (chained.heads_lead p);
  linked = chained.linked;
  backed = λ i s at p open'. (let back = chained.backed i s at p open' in record { first = λ zero'. same p ∙ back.first zero'; later = back.later });
}

-- after a push a slot is an old one or the new one
pub push_cases : (ss : List Slot) (s : Slot) (j : ℕ) (t : Slot) → slice_get (ss ++ s ∷ []) j ≡ Some t → ((j < length ss) × (slice_get ss j ≡ Some t)) ⊎ ((j ≡ length ss) × (s ≡ t))
push_cases [] s zero t at = inr (refl, same_Some s t at)
push_cases [] s (suc j) t at = absurd (none-some t at)
push_cases (u ∷ ss) s zero t at = inl (omega arith, at)
push_cases (u ∷ ss) s (suc j) t at = elim (push_cases ss s j t at) [ inl w ↦ inl (omega arith, w.1) | inr w ↦ inr (ap suc w.0, w.1) ]

push_goes : (ss : List Slot) (s : Slot) (j : ℕ) (t : Slot) → slice_get ss j ≡ Some t → slice_get (ss ++ s ∷ []) j ≡ Some t
push_goes [] s j t at = absurd (none-some t at)
push_goes (u ∷ ss) s zero t at = at
push_goes (u ∷ ss) s (suc j) t at = push_goes ss s j t at

push_last : (ss : List Slot) (s : Slot) → slice_get (ss ++ s ∷ []) (length ss) ≡ Some s
push_last [] s = refl
push_last (u ∷ ss) s = push_last ss s

-- the chains after a new slot went in front of that of its peer
abbrev pub pushed_slots : List Slot → Slot → ℕ → List Slot
pushed_slots ss s number = with_previous ss s.next number ++ s ∷ []

pub rows_of-pushed : (ss : List Slot) (es : List Name) (s : Slot) (number : ℕ) (e : Name) (k : Kept) → ArePlaced (length ss) es → e.place ≡ length ss
    → s.row ≡ Some k → k.number ≡ e.number → rows_of (pushed_slots ss s number) (es ++ e ∷ []) ≡ rows_of ss es ++ row_at e.number s.peer k ∷ []
rows_of-pushed ss es s number e k placed place row same =
    let len = length-with_previous ss s.next number in
    rows_of-made (with_previous ss s.next number) es s e k (rw len placed) (rw len place) row same ∙ ap (λ rows. rows ++ row_at e.number s.peer k ∷ []) (rows_of-with_previous ss es s.next number)

pub IsChained-pushed : (ss : List Slot) (s : Slot) (number : ℕ) (head new : PNum → ℕ) → number ≡ length ss + 1 → s.previous ≡ 0 → is_open s.row ≡ true → s.next ≡ head s.peer
    → length (pushed_slots ss s number) ≡ number → ((q : PNum) → new q ≡ cond (eqb s.peer.0 q.0) number (head q)) → IsChained ss head → IsChained (pushed_slots ss s number) new
IsChained-pushed ss s number head new next first has leads len moved chained = record {
  heads_lead = λ q. rw len (heads q);
  linked = links;
  backed = backs;
}
  where
    low : List Slot
    low = with_previous ss s.next number

    came : (j : ℕ) (t : Slot) → slice_get (pushed_slots ss s number) j ≡ Some t
        → ((u : Slot) × (j < length ss) × (slice_get ss j ≡ Some u) × (t ≡ previous_at s.next number (suc j) u)) ⊎ ((j ≡ length ss) × (s ≡ t))
    came j t at = elim (push_cases (with_previous ss s.next number) s j t at) [
      | inl w ↦
          let c = numbered-came (previous_at s.next number) 1 ss j (suc j) t (omega arith) w.1 in
          inl (c.0, slice_get_within ss j c.0 c.1, c.1, c.2)
      | inr w ↦ inr (w.0 ∙ length-with_previous ss s.next number, w.1)
    ]

    goes : (j : ℕ) (u : Slot) → slice_get ss j ≡ Some u → slice_get (pushed_slots ss s number) j ≡ Some (previous_at s.next number (suc j) u)
    goes j u at = push_goes (with_previous ss s.next number) s j _ (numbered-goes (previous_at s.next number) 1 ss j (suc j) u (omega arith) at)

    opens_own : opens s.peer s ≡ true
    opens_own = rw (eq-eqb s.peer.0 s.peer.0 refl) has

    stay : (q : PNum) (n high : ℕ) → high ≤ length ss → IsLastOpen ss q n high → IsLastOpen (pushed_slots ss s number) q n high
    stay q n high le = Leads-alike ss (pushed_slots ss s number) q n high (λ j t below at. elim (came j t at) [
      | inl w ↦ (w.0, w.2, rw w.3 refl)
      | inr w ↦ absurd (omega arith)
    ])

    -- one place higher for a peer that the new slot doesn't name
    higher : (q : PNum) (n : ℕ) → q ≢ s.peer → IsLastOpen ss q n (length ss) → IsLastOpen (pushed_slots ss s number) q n number
    higher q n apart old =
        let below = stay q n (length ss) (omega arith) old in
        record {
          within = omega (arith, old.within);
          own = below.own;
          settled = λ j t low less at. elim (cases_lt j (length ss)) [
            | inl lt ↦ below.settled j t low lt at
            | inr ge ↦ elim (came j t at) [
              | inl w ↦ absurd (omega arith)
              | inr w ↦ rw (← w.1) (shut (opens q s) refl)
            ]
          ];
        }
      where
        shut : (b : Bool) → opens q s ≡ b → opens q s ≡ false
        shut true is = absurd (apart (opens-peer q s is))
        shut false is = is

    pushed : IsLastOpen (pushed_slots ss s number) s.peer number number
    pushed = record {
      within = omega arith;
      own = λ j t is at. elim (came j t at) [ inl w ↦ absurd (omega arith) | inr w ↦ rw (← w.1) opens_own ];
      settled = λ j t low below at. absurd (omega arith);
    }

    heads : (q : PNum) → IsLastOpen (pushed_slots ss s number) q (new q) number
    heads q = elim (cases_eq s.peer.0 q.0) [
      | inl n ↦
          let same : s.peer ≡ q = ap (λ (m : ℕ). peer_of m) n in
          let is : new q ≡ number = rw (eq-eqb s.peer.0 q.0 n) at (moved q) in
          rw (is, ← same) pushed
      | inr apart ↦
          let is : new q ≡ head q = rw (neq-eqb s.peer.0 q.0 apart) at (moved q) in
          rw is (higher q (head q) (λ e. apart (ap (λ (r : PNum). r.0) (sym e))) (chained.heads_lead q))
    ]

    links : AreLinkedSlots (pushed_slots ss s number)
    links j t there q is = elim (came j t there) [
      | inl w ↦
          let old : opens q w.0 ≡ true = rw w.3 at is in
          rw w.3 (stay q w.0.next j (omega arith) (chained.linked j w.0 w.2 q old))
      | inr w ↦
          let own : opens q s ≡ true = rw w.1 is in
          let same : q ≡ s.peer = opens-peer q s own in
          let front : IsLastOpen ss s.peer s.next (length ss) = rw leads (chained.heads_lead s.peer) in
          rw (← w.1, w.0, same) (stay s.peer s.next (length ss) (omega arith) front)
    ]

    backs : IsBacked (pushed_slots ss s number) new
    backs j t there q is = elim (came j t there) [
      | inl w ↦
          let old : opens q w.0 ≡ true = rw w.3 at is in
          rw w.3 (elim (cases_eq (suc j) s.next) [
            | inl e ↦
                let top = chained.heads_lead s.peer in
                let same : q ≡ s.peer = opens-one s.peer q w.0 (top.own j w.0 (sym leads ∙ sym e) w.2) old in
                rw (pick-same (suc j) s.next number w.0.previous e, same, e) front
            | inr ne ↦ rw (pick-apart (suc j) s.next number w.0.previous ne) (others j w.0 q w.2 old ne)
          ])
      | inr w ↦
          let own : opens q s ≡ true = rw w.1 is in
          let same : q ≡ s.peer = opens-peer q s own in
          rw (← w.1, same) (record {
            first = λ none. (rw (eq-eqb s.peer.0 s.peer.0 refl) at (moved s.peer)) ∙ omega arith;
            later = λ m later. absurd (omega arith);
          })
    ]
      where
        front : LeadsBack (pushed_slots ss s number) new s.peer number s.next
        front = record {
          first = λ none. absurd (omega arith);
          later = λ m later.
              let is : m ≡ length ss = omega arith in
              (s, rw (is, ← length-with_previous ss s.next number) (push_last (with_previous ss s.next number) s), opens_own, refl);
        }

        others : (j : ℕ) (u : Slot) (q : PNum) → slice_get ss j ≡ Some u → opens q u ≡ true → suc j ≢ s.next → LeadsBack (pushed_slots ss s number) new q u.previous (suc j)
        others j u q at old ne =
            let back = chained.backed j u at q old in
            record {
              first = λ none.
                  let is : head q ≡ suc j = back.first none in
                  let apart : s.peer.0 ≢ q.0 = λ n. ne (sym is ∙ ap head (ap (λ (m : ℕ). peer_of m) (sym n)) ∙ sym leads) in
                  (rw (neq-eqb s.peer.0 q.0 apart) at (moved q)) ∙ is;
              later = λ m later.
                  let b = back.later m later in
                  (previous_at s.next number (suc m) b.0, goes m b.0 b.1, b.2, b.3);
            }

-- the slots, with those from a place up cleared for a peer
abbrev pub cleared_above : PNum → ℕ → List Slot → List Slot
cleared_above p n [] = []
cleared_above p zero (s ∷ ss) = cleared_slot p s ∷ cleared_above p zero ss
cleared_above p (suc n) (s ∷ ss) = s ∷ cleared_above p n ss

pub cleared_above-all : (p : PNum) (ss : List Slot) → cleared_above p 0 ss ≡ map (cleared_slot p) ss
cleared_above-all p [] = refl
cleared_above-all p (s ∷ ss) = ap (λ t. cleared_slot p s ∷ t) (cleared_above-all p ss)

pub cleared_above-none : (p : PNum) (n : ℕ) (ss : List Slot) → length ss ≤ n → cleared_above p n ss ≡ ss
cleared_above-none p n [] le = refl
cleared_above-none p zero (s ∷ ss) le = absurd (omega arith)
cleared_above-none p (suc n) (s ∷ ss) le = ap (λ t. s ∷ t) (cleared_above-none p n ss (omega arith))

pub length-cleared_above : (p : PNum) (n : ℕ) (ss : List Slot) → length (cleared_above p n ss) ≡ length ss
length-cleared_above p n [] = refl
length-cleared_above p zero (s ∷ ss) = ap suc (length-cleared_above p zero ss)
length-cleared_above p (suc n) (s ∷ ss) = ap suc (length-cleared_above p n ss)

-- a slot below the place is as it was
pub get_or-cleared_above : (p : PNum) (n : ℕ) (ss : List Slot) (j : ℕ) (d : Slot) → j < n → get_or (cleared_above p n ss) j d ≡ get_or ss j d
get_or-cleared_above p n [] j d below = refl
get_or-cleared_above p zero (s ∷ ss) j d below = absurd (omega arith)
get_or-cleared_above p (suc n) (s ∷ ss) zero d below = refl
get_or-cleared_above p (suc n) (s ∷ ss) (suc j) d below = get_or-cleared_above p n ss j d (omega arith)

-- to clear a settled slot leaves it
cleared_slot-settled : (p : PNum) (s : Slot) → opens p s ≡ false → cleared_slot p s ≡ s
cleared_slot-settled p s settled = by (eqb p.0 s.peer.0) s.row refl refl
  where
    kept : option_map cleared_kept s.row ≡ s.row → slot_with s (option_map cleared_kept s.row) ≡ s
    kept e = ap (λ r. slot_with s r) e

    by : (b : Bool) (o : Option Kept) → eqb p.0 s.peer.0 ≡ b → s.row ≡ o → cleared_slot p s ≡ s
    by true None is row = rw is (kept (rw row refl))
    by true (Some k) is row =
        let shut : not k.cleared ≡ false = rw (is, row) at settled in
        rw is (kept (rw row (ap (λ b. Some (record { number = k.number; hold = k.hold; strength = k.strength; cleared = b })) (sym (not-false k.cleared shut)))))
    by false o is row = rw is refl

-- down over settled slots nothing changes
pub cleared_above-down : (p : PNum) (low high : ℕ) (ss : List Slot) → low ≤ high
    → ((j : ℕ) (s : Slot) → low ≤ j → j < high → slice_get ss j ≡ Some s → opens p s ≡ false) → cleared_above p high ss ≡ cleared_above p low ss
cleared_above-down p low high [] le settled = refl
cleared_above-down p zero zero (s ∷ ss) le settled = refl
cleared_above-down p (suc low) zero (s ∷ ss) le settled = absurd (omega arith)
cleared_above-down p zero (suc high) (s ∷ ss) le settled =
    rw (cleared_slot-settled p s (settled 0 s (omega arith) (omega arith) refl))
    (ap (λ t. s ∷ t) (cleared_above-down p zero high ss (omega arith) (λ j t a b at. settled (suc j) t (omega arith) (omega arith) at)))
cleared_above-down p (suc low) (suc high) (s ∷ ss) le settled =
    ap (λ t. s ∷ t) (cleared_above-down p low high ss (omega arith) (λ j t a b at. settled (suc j) t (omega arith) (omega arith) at))

-- to clear the slot just below the place goes down by one
pub cleared_above-step : (p : PNum) (ss : List Slot) (j : ℕ) (s : Slot) → slice_get ss j ≡ Some s → set (cleared_above p (suc j) ss) j (cleared_slot p s) ≡ cleared_above p j ss
cleared_above-step p [] j s at = refl
cleared_above-step p (t ∷ ss) zero s at = rw (same_Some t s at) refl
cleared_above-step p (t ∷ ss) (suc j) s at = ap (λ u. t ∷ u) (cleared_above-step p ss j s at)

-- one step of the walk: the slot below the place is cleared, and the walk goes on at the number that it leads to
pub walk-step : (p : PNum) (old now : List Slot) (at j : ℕ) (s : Slot) → AreLinkedSlots old → now ≡ cleared_above p at old
    → at ≡ suc j → at ≤ length old → ((i : ℕ) (t : Slot) → at ≡ suc i → slice_get old i ≡ Some t → opens p t ≡ true) → s ≡ get_or now j s
    → (set now j (slot_with s (option_map cleared_kept s.row)) ≡ cleared_above p s.next old) × (s.next ≤ j) × ((i : ℕ) (t : Slot) → s.next ≡ suc i → slice_get old i ≡ Some t → opens p t ≡ true)
walk-step p old now at j s linked now_is top within own is =
    let now_at : now ≡ cleared_above p (suc j) old = rw top at now_is in
    let below : j < length old = omega arith in
    let read : s ≡ get_or old j s = is ∙ ap (λ ss. get_or ss j s) now_at ∙ get_or-cleared_above p (suc j) old j s (omega arith) in
    let there : slice_get old j ≡ Some s = slice_get_read old (length old) j s refl below read in
    let has : opens p s ≡ true = own j s top there in
    let same : eqb p.0 s.peer.0 ≡ true = eq-eqb p.0 s.peer.0 (ap (λ (q : PNum). q.0) (opens-peer p s has)) in
    let clears : cleared_slot p s ≡ slot_with s (option_map cleared_kept s.row) = rw same refl in
    let leads = linked j s there p has in
    let down = cleared_above-down p s.next j old leads.within leads.settled in
    (rw (now_at, ← clears) (cleared_above-step p old j s there ∙ down), leads.within, leads.own)
