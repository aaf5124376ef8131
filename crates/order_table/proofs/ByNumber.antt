-- From the lines of a history to its entries by number.
use Rattle.std.proofs.Common.{◌≡◌, ◌⊎◌, inl, inr, ⊎_elim, ℕ, zero, suc, ◌+◌, ◌-◌, ◌<◌, ◌≤◌, Bool, true, false, not, ◌&&◌, List, [], ◌∷◌, ◌++◌, refl, sym, ap, ◌∙◌, subst, arith, true≢false}
use Rattle.std.specs.Prelude.{if◌then◌else◌, ◌==◌, slice_get, Option, Some, None}
use Rattle.std.proofs.lemmas.Bool.{cases_Bool, both_ways, and_parts, not-true, eqb-true, cases_eq, cases_lt}
use mathlib.Core.Option.{some, some-injective, some-ne-none}
use mathlib.Core.List.{append-nil, append_assoc}
use lib.ListN.{get_elem?}
use Rattle.joint_machine.specs.declared.names.Thread.{Thread}
use Rattle.joint_machine.specs.declared.names.Thread.TheVariants.{M}
use Rattle.joint_machine.specs.declared.lines.Act.TheVariants as act
use Rattle.joint_machine.specs.declared.events.Op.{Op}
use Rattle.joint_machine.specs.declared.events.Op.TheVariants as op
use Rattle.joint_machine.specs.declared.events.Made.{Made}
use Rattle.joint_machine.specs.declared.events.Entry.{Entry}
use Rattle.joint_machine.specs.declared.events.Reply.{Reply}
use Rattle.joint_machine.specs.declared.events.Reply.TheVariants as says
use Rattle.joint_machine.specs.Lines.{is_peer_event, is_read}
use Rattle.joint_machine.specs.Heaps.{slot, answer}
use Rattle.joint_machine.specs.Heaps as heap
use Rattle.joint_machine.specs.Managed.{Managed, read_cell, cell_read, target_read, managed_name}
use Rattle.joint_machine.specs.Run.{thread_number}
use Rattle.joint_machine.specs.Told.{Noted}
use Rattle.joint_machine.specs.Readers.{is_managed_entry, ReadsCell, HasKnownFrom, MayBePending, MayBeUnset, IsReadReply}
use Rattle.order_table.specs.declared.views.KeptEntry.{KeptEntry}
use Rattle.joint_machine.specs.HistoryLines.{caller_line}
use Rattle.order_table.specs.Stages.{opens, ends, neither, deed, IsClosed}
use Rattle.order_table.specs.Owed.{marked, aims_at, target_from, target, has, is_freed, read_of, word_of, pin}
use Rattle.order_table.specs.Views.{IsAnswer, IsInRole}
use Rattle.order_table.specs.Allowed.{SaysPending}
use Rattle.order_table.specs.Rule.{Item, IsItem, is_in, of_line, RunsFrom, IsBelow, Stands, IsSnappedBefore, Unknown, ReadsWord, Fits, EachFits}
use Rattle.order_table.specs.Replies.{KeptPinsAreRight, IsNoteOf, AreNotes, first_of, object_of, RepliesAreRight}
use Rattle.order_table.proofs.Gate.{if_true, if_false}
use Rattle.order_table.proofs.Says.{some_is, none_not, target_kept, target_aimed}
use Rattle.order_table.proofs.Waits.{stands_cases, stands_below}
use Rattle.order_table.proofs.Lines.{of_line_in, of_line_out, role_in, caller_in, in_cases}
use Rattle.order_table.proofs.Held.{not_freed}

-- the entry at a place has that number
pub runs_at : (n : ℕ) (xs : List Item) (i : ℕ) (x : Item) → RunsFrom n xs → get_elem? xs i ≡ some x → IsItem (n + i) x
runs_at n [] i x r e = absurd (some-ne-none x (sym e))
runs_at n (y ∷ xs) zero x r e = subst (IsItem (n + 0)) (some-injective y x e) record { number = r.0.number ∙ omega arith; caller = r.0.caller; stands = r.0.stands }
runs_at n (y ∷ xs) (suc i) x r e = let t = runs_at (n + 1) xs i x r.1 e in record { number = t.number ∙ omega arith; caller = t.caller; stands = t.stands }

at_front : (k : KeptEntry) (ks : List KeptEntry) (y : KeptEntry) → Stands (k ∷ ks) y → (k ≡ y) ⊎ Stands ks y
at_front k ks y s = by_place s.0 s.1
  where
    by_place : (j : ℕ) → get_elem? (k ∷ ks) j ≡ some y → (k ≡ y) ⊎ Stands ks y
    by_place zero e = inl (some-injective k y e)
    by_place (suc j) e = inr (j, e)

-- what stands in a line is an entry of the history, and the other way round
pub stands_item : (l : ℕ) (xs : List Item) (y : KeptEntry) → Stands (of_line l xs) y → (i : ℕ) × (x : Item) × (get_elem? xs i ≡ some x) × (is_in l x ≡ true) × (x.kept ≡ y)
stands_item l [] y s = absurd (some-ne-none y (sym s.1))
stands_item l (x ∷ xs) y s = ⊎_elim
    (λ (e : is_in l x ≡ true). ⊎_elim
    (λ (same : x.kept ≡ y). (0, x, refl, e, same))
    (λ t. later (stands_item l xs y t))
    (at_front x.kept (of_line l xs) y (subst (λ ks. Stands ks y) (if_true (is_in l x) (x.kept ∷ of_line l xs) (of_line l xs) e) s)))
    (λ (e : is_in l x ≡ false). later (stands_item l xs y (subst (λ ks. Stands ks y) (if_false (is_in l x) (x.kept ∷ of_line l xs) (of_line l xs) e) s)))
    (cases_Bool (is_in l x))
  where
    later : (i : ℕ) × (z : Item) × (get_elem? xs i ≡ some z) × (is_in l z ≡ true) × (z.kept ≡ y) → (i : ℕ) × (z : Item) × (get_elem? (x ∷ xs) i ≡ some z) × (is_in l z ≡ true) × (z.kept ≡ y)
    later t = (suc t.0, t.1, t.2, t.3, t.4)

pub item_stands : (l : ℕ) (xs : List Item) (i : ℕ) (x : Item) → get_elem? xs i ≡ some x → is_in l x ≡ true → Stands (of_line l xs) x.kept
item_stands l [] i x e b = absurd (some-ne-none x (sym e))
item_stands l (y ∷ xs) zero x e b = let same = some-injective y x e in
    subst (λ ks. Stands ks x.kept) (sym (if_true (is_in l y) (y.kept ∷ of_line l xs) (of_line l xs) (ap (is_in l) same ∙ b))) (0, ap (λ (z : Item). some z.kept) same)
item_stands l (y ∷ xs) (suc i) x e b = either_way (is_in l y) (item_stands l xs i x e b)
  where
    either_way : (c : Bool) → Stands (of_line l xs) x.kept → Stands (if c then y.kept ∷ of_line l xs else of_line l xs) x.kept
    either_way true s = (suc s.0, s.1)
    either_way false s = s

-- the first entries
pub in_first : (n : ℕ) (xs : List Item) (i : ℕ) (x : Item) → i < n → get_elem? xs i ≡ some x → get_elem? (first_of n xs) i ≡ some x
in_first zero xs i x l e = absurd (omega arith)
in_first (suc n) [] i x l e = e
in_first (suc n) (y ∷ xs) zero x l e = e
in_first (suc n) (y ∷ xs) (suc i) x l e = in_first n xs i x (omega arith) e

pub fits_at : (before xs : List Item) (i : ℕ) (x : Item) → EachFits before xs → get_elem? xs i ≡ some x → Fits (before ++ first_of i xs) x
fits_at before [] i x f e = absurd (some-ne-none x (sym e))
fits_at before (y ∷ xs) zero x f e = subst (λ (z : List Item × Item). Fits z.0 z.1) (λ i. (sym (append-nil before) i, some-injective y x e i)) f.0
fits_at before (y ∷ xs) (suc i) x f e = subst (λ b. Fits b x) (append_assoc before (y ∷ []) (first_of i xs)) (fits_at (before ++ y ∷ []) xs i x f.1 e)

pub fits_first : (n : ℕ) (before xs : List Item) → EachFits before xs → EachFits before (first_of n xs)
fits_first zero before xs f = tt
fits_first (suc n) before [] f = tt
fits_first (suc n) before (y ∷ xs) f = (f.0, fits_first n (before ++ y ∷ []) xs f.1)

-- notes and entries
note_item : (xs : List Item) (ns : List Noted) → AreNotes xs ns → (i : ℕ) (n : Noted) → slice_get ns i ≡ Some n → (x : Item) × (get_elem? xs i ≡ some x) × IsNoteOf x n
note_item [] [] a i n e = absurd (none_not n e)
note_item [] (m ∷ ns) a i n e = absurd a
note_item (x ∷ xs) [] a i n e = absurd a
note_item (x ∷ xs) (m ∷ ns) a zero n e = (x, refl, subst (IsNoteOf x) (some_is m m n e) a.0)
note_item (x ∷ xs) (m ∷ ns) a (suc i) n e = note_item xs ns a.1 i n e

pub item_note : (xs : List Item) (ns : List Noted) → AreNotes xs ns → (i : ℕ) (x : Item) → get_elem? xs i ≡ some x → (n : Noted) × (slice_get ns i ≡ Some n) × IsNoteOf x n
item_note [] ns a i x e = absurd (some-ne-none x (sym e))
item_note (y ∷ xs) [] a i x e = absurd a
item_note (y ∷ xs) (m ∷ ns) a zero x e = (m, refl, subst (λ z. IsNoteOf z m) (some-injective y x e) a.0)
item_note (y ∷ xs) (m ∷ ns) a (suc i) x e = item_note xs ns a.1 i x e

-- which entries are managed
pub managed_by : (r : ℕ) (m : Made) → IsInRole r m → is_read m.op ≡ false → is_peer_event m.caller m.op ≡ false → r ≡ 0
managed_by r m s unread not_peer = ⊎_elim (λ (e : r ≡ 0). e)
    (λ some. ⊎_elim (λ (e : r ≡ 1). absurd (both_ways (is_peer_event m.caller m.op) not_peer (s.peer e).1))
    (λ more. absurd (both_ways (is_read m.op) unread (s.reader (omega (arith, some, more))).0)) (cases_eq r 1)) (cases_eq r 0)

-- a cell is set once
abbrev SetOnce : List Item → Type 0
SetOnce before = (c m : ℕ) (a : KeptEntry) → Stands (of_line 0 before) a → marked a ≡ Some (c, m) → target (of_line 0 before) c ≡ Some m

set_once : (before xs : List Item) → EachFits before xs → SetOnce before → SetOnce (before ++ xs)
set_once before [] f old = subst SetOnce (sym (append-nil before)) old
set_once before (x ∷ xs) f old = subst SetOnce (append_assoc before (x ∷ []) xs) (set_once (before ++ x ∷ []) xs f.1 next)
  where
    ml : List KeptEntry
    ml = of_line 0 before

    first : is_in 0 x ≡ true → x.role ≡ 0
    first e = sym (⊎_elim (λ c. c) (λ c. absurd (let far : 0 ≡ caller_line x.kept.entry.made.caller = c in omega arith)) (in_cases 0 x e))

    next : SetOnce (before ++ x ∷ [])
    next c m a s e = ⊎_elim
        (λ (i : is_in 0 x ≡ true). subst (λ ks. target ks c ≡ Some m) (sym (of_line_in 0 before x i)) (⊎_elim
        (λ t. let was = old c m a t e in target_kept c ml x.kept (λ o z. none_not m (sym (f.0.sets (first i) c o z).1 ∙ was)) ∙ was)
        (λ (same : x.kept ≡ a). target_aimed c m ml x.kept (ap marked same ∙ e))
        (stands_cases ml x.kept a (subst (λ ks. Stands ks a) (of_line_in 0 before x i) s))))
        (λ (i : is_in 0 x ≡ false). subst (λ ks. target ks c ≡ Some m) (sym (of_line_out 0 before x i)) (old c m a (subst (λ ks. Stands ks a) (of_line_out 0 before x i) s) e))
        (cases_Bool (is_in 0 x))

-- a target was set
aims_cases : (c m : ℕ) (t : Option ℕ) (o : Option (ℕ × ℕ)) → aims_at c t o ≡ Some m → (t ≡ Some m) ⊎ (o ≡ Some (c, m))
aims_cases c m t None e = inl e
aims_cases c m t (Some p) e = ⊎_elim
    (λ (b : (p.0 == c) ≡ true). inr (ap (λ (z : ℕ × ℕ). Some z) (λ i. (eqb-true p.0 c b i, some_is 0 p.1 m (sym (if_true (p.0 == c) (Some p.1) t b) ∙ e) i))))
    (λ (b : (p.0 == c) ≡ false). inl (sym (if_false (p.0 == c) (Some p.1) t b) ∙ e))
    (cases_Bool (p.0 == c))

set_in : (c m : ℕ) (t : Option ℕ) (ks : List KeptEntry) → target_from c t ks ≡ Some m → (t ≡ Some m) ⊎ ((y : KeptEntry) × Stands ks y × (marked y ≡ Some (c, m)))
set_in c m t [] e = inl e
set_in c m t (k ∷ ks) e = ⊎_elim
    (λ z. ⊎_elim (λ a. inl a) (λ a. inr (k, (0, refl), a)) (aims_cases c m t (marked k) z))
    (λ z. inr (z.0, (suc z.1.0, z.1.1), z.2))
    (set_in c m (aims_at c t (marked k)) ks e)

pub deed_opens : (o : Op) (k : ℕ) → deed o ≡ opens k → o ≡ op.Snap record { 0 = k }
deed_opens (op.Snap c) k e = ap (λ (z : ℕ). op.Snap record { 0 = z }) (ap (λ d. elim d [ opens z ↦ z | ends z ↦ 0 | neither ↦ 0 ]) e)
deed_opens (op.Resolve c) k e = absurd (true≢false (ap (λ d. elim d [ opens z ↦ false | ends z ↦ true | neither ↦ true ]) e))
deed_opens (op.Abandon c) k e = absurd (true≢false (ap (λ d. elim d [ opens z ↦ false | ends z ↦ true | neither ↦ true ]) e))
deed_opens _ k e = absurd (true≢false (ap (λ d. elim d [ opens z ↦ false | ends z ↦ true | neither ↦ true ]) e))

pub reads_cell : (o : Op) (k : ℕ) → ReadsCell o k → read_of o ≡ Some k
reads_cell (op.Line (act.Read c)) k e = ap (λ (z : ℕ). Some z) e
reads_cell (op.Line (act.Await c)) k e = ap (λ (z : ℕ). Some z) e
reads_cell _ k e = absurd e

-- a whole history with its notes
pub record Noticed (whole : List Item) (ns : List Noted) : Type 0 where
  pub runs : RunsFrom 0 whole
  pub fits : EachFits [] whole
  pub notes : AreNotes whole ns

-- the entry with a number
pub record EntryAt (whole : List Item) (j : ℕ) (n : Noted) : Type 0 where
  pub item : Item
  pub there : get_elem? whole j ≡ some item
  pub note : IsNoteOf item n
  pub is : IsItem j item
  pub number : item.kept.entry.number ≡ j
  pub fits : Fits (first_of j whole) item

pub entry_at : (whole : List Item) (ns : List Noted) → Noticed whole ns → (j : ℕ) (n : Noted) → slice_get ns j ≡ Some n → EntryAt whole j n
entry_at whole ns g j n e = let t = note_item whole ns g.notes j n e in
    record {
      item = t.0;
      there = t.1;
      note = t.2;
      is = item_at (runs_at 0 whole j t.0 g.runs t.1);
      number = (runs_at 0 whole j t.0 g.runs t.1).number
          ∙ omega arith;
      fits = fits_at [] whole j t.0 g.fits t.1;
    }
  where
    item_at : {x : Item} → IsItem (0 + j) x → IsItem j x
    item_at is = record { number = is.number ∙ omega arith; caller = is.caller; stands = is.stands }

-- it stands in the managed line of the entries before number i
pub early : (whole : List Item) (n : Noted) (j i : ℕ) (x : EntryAt whole j n) → j < i → x.item.role ≡ 0 → Stands (of_line 0 (first_of i whole)) x.item.kept
early whole n j i x l first = item_stands 0 (first_of i whole) j x.item (in_first i whole j x.item l x.there) (role_in 0 x.item (sym first))

managed_role : (whole : List Item) (n : Noted) (j : ℕ) (x : EntryAt whole j n) → is_managed_entry n ≡ true → x.item.role ≡ 0
managed_role whole n j x e =
    let t = subst (λ (y : Entry). (not (is_peer_event y.made.caller y.made.op) && not (is_read y.made.op)) ≡ true) x.note.entry e in
    let m : Made = x.item.kept.entry.made in
    let parts = and_parts (not (is_peer_event m.caller m.op)) (not (is_read m.op)) t in
    managed_by x.item.role m x.is.stands (not-true (is_read m.op) parts.1) (not-true (is_peer_event m.caller m.op) parts.0)

pub end_deed : (o : Op) (k : ℕ) → (o ≡ op.Resolve record { 0 = k }) ⊎ (o ≡ op.Abandon record { 0 = k }) → (deed o ≡ ends k) × (is_read o ≡ false) × ((t : Thread) → is_peer_event t o ≡ false)
end_deed o k (inl e) = (ap deed e, ap is_read e, λ t. ap (is_peer_event t) e)
end_deed o k (inr e) = (ap deed e, ap is_read e, λ t. ap (is_peer_event t) e)

pub setter : (whole : List Item) (n : Noted) (j c : ℕ) (x : EntryAt whole j n) → (m : ℕ) × (marked x.item.kept ≡ Some (c, m)) → x.item.role ≡ 0
setter whole n j c x s = ⊎_elim (λ (e : x.item.role ≡ 0). e) (λ other. absurd (none_not (c, s.0) (sym (x.fits.others other).0 ∙ s.1))) (cases_eq x.item.role 0)

freer : (whole : List Item) (n : Noted) (j m : ℕ) (x : EntryAt whole j n) → has x.item.kept.freed m ≡ true → x.item.role ≡ 0
freer whole n j m x s = ⊎_elim (λ (e : x.item.role ≡ 0). e) (λ other. absurd (both_ways (has x.item.kept.freed m) (ap (λ ms. has ms m) (x.fits.others other).1) s)) (cases_eq x.item.role 0)

-- a caller's own entries before number i have numbers below j, where none of them stands from j on
pub none_from : (whole : List Item) (ns : List Noted) → Noticed whole ns → (t : Thread) (i j : ℕ) → IsBelow j (of_line (caller_line t) (first_of i whole)) → HasKnownFrom ns t i j → ⊥
none_from whole ns g t i j below h =
    let c = h.3 in
    let x = entry_at whole ns g h.0 c.element c.there in
    let mine : is_in (caller_line t) x.item ≡ true = caller_in (caller_line t) x.item (ap caller_line (sym c.is ∙ ap (λ (y : Entry). y.made.caller) x.note.entry)) in
    let less = stands_below j (of_line (caller_line t) (first_of i whole)) x.item.kept below
    (item_stands (caller_line t) (first_of i whole) h.0 x.item (in_first i whole h.0 x.item h.2 x.there) mine) in
    let number = x.number in let from = h.1 in omega arith

pending_right : (whole : List Item) (ns : List Noted) → Noticed whole ns → (i : ℕ) (t : Thread) (k : ℕ) → IsSnappedBefore (of_line 0 whole) i k
    → Unknown (of_line 0 (first_of i whole)) (of_line (caller_line t) (first_of i whole)) k → MayBePending ns i t k
pending_right whole ns g i t k snapped unknown =
    let s = stands_item 0 whole snapped.0 snapped.1 in
    let n = item_note whole ns g.notes s.0 s.1 s.2 in
    let number : snapped.0.entry.number ≡ s.0 = ap (λ (y : KeptEntry). y.entry.number) (sym s.4) ∙ ((runs_at 0 whole s.0 s.1 g.runs s.2).number ∙ omega arith) in
    record {
      snap = s.0;
      snaps = record {
        element = n.0;
        there = n.1;
        is = ap (λ (y : Entry). y.made.op) n.2.entry ∙ (ap (λ (y : KeptEntry). y.entry.made.op) s.4 ∙ deed_opens snapped.0.entry.made.op k snapped.2);
      };
      early = λ j l m. let x = entry_at whole ns g j m.element m.there in let at_j = x.number in
          let less = snapped.3 x.item.kept (item_stands 0 whole j x.item x.there (role_in 0 x.item (sym (managed_role whole m.element j x m.is)))) (omega arith) in omega arith;
      unknown = λ end j e l m h.
          let x = entry_at whole ns g j m.element m.there in
          let z = entry_at whole ns g end e.element e.there in
          let at_j = x.number in let at_end = z.number in let from = h.1 in let before = h.2 in
          let d = end_deed z.item.kept.entry.made.op k (subst (λ (y : Entry). (y.made.op ≡ op.Resolve record { 0 = k }) ⊎ (y.made.op ≡ op.Abandon record { 0 = k })) z.note.entry e.is) in
          let ended = managed_by z.item.role z.item.kept.entry.made z.is.stands d.1 (d.2 z.item.kept.entry.made.caller) in
          none_from whole ns g t i j (subst (λ q. IsBelow q (of_line (caller_line t) (first_of i whole))) at_j
          (unknown z.item.kept x.item.kept (early whole e.element end i z (omega arith) ended) d.0
          (early whole m.element j i x (omega arith) (managed_role whole m.element j x m.is)) (omega arith))) h;
    }

unset_right : (whole : List Item) (ns : List Noted) → Noticed whole ns → (cells : List (Option ℕ)) → ((c : ℕ) → slot cells c ≡ target (of_line 0 whole) c) → (i : ℕ) (t : Thread) (c : ℕ)
    → ReadsWord (of_line 0 (first_of i whole)) (of_line (caller_line t) (first_of i whole)) c 0 → MayBeUnset ns cells i t c
unset_right whole ns g cells same i t c reads = record {
  unknown = λ j k s l m h.
      let z = entry_at whole ns g j s.element s.there in
      let x = entry_at whole ns g k m.element m.there in
      let at_k = x.number in let at_j = z.number in let from = h.1 in let before = h.2 in
      let sets = z.note.set c s.is.0 s.is.1 in
      none_from whole ns g t i k (subst (λ q. IsBelow q (of_line (caller_line t) (first_of i whole))) at_k
      (reads.unknown refl z.item.kept x.item.kept (early whole s.element j i z (omega arith) (setter whole s.element j c z sets)) sets
      (early whole m.element k i x (omega arith) (managed_role whole m.element k x m.is)) (omega arith))) h;
  not_own = λ j s l mine.
      let z = entry_at whole ns g j s.element s.there in
      let y = entry_at whole ns g j mine.element mine.there in
      let one : y.item ≡ z.item = some-injective y.item z.item (sym y.there ∙ z.there) in
      let caller : z.item.kept.entry.made.caller ≡ t = ap (λ (q : Item). q.kept.entry.made.caller) (sym one) ∙ (ap (λ (q : Entry). q.made.caller) (sym y.note.entry) ∙ mine.is) in
      reads.not_own refl z.item.kept (item_stands (caller_line t) (first_of i whole) j z.item (in_first i whole j z.item l z.there) (caller_in (caller_line t) z.item (ap caller_line (sym caller))))
      (z.note.set c s.is.0 s.is.1);
  target_unfreed = λ m j is f l.
      let z = entry_at whole ns g j f.element f.there in
      let frees = z.note.freed m f.is in
      let first = freer whole f.element j m z frees in
      let set_it = ⊎_elim (λ e. absurd (none_not m e)) (λ q. q) (set_in c m None (of_line 0 whole) (sym (same c) ∙ is)) in
      let y = stands_item 0 whole set_it.0 set_it.1 in
      let sets : marked y.1.kept ≡ Some (c, m) = ap marked y.4 ∙ set_it.2 in
      let not_before : (q : ℕ) → j < q → is_freed (of_line 0 (first_of q whole)) m ≡ false → ⊥ = λ q less alive.
      both_ways (has z.item.kept.freed m) (not_freed (of_line 0 (first_of q whole)) z.item.kept m alive (early whole f.element j q z less first)) frees in
      ⊎_elim
      (λ (less : y.0 < i). not_before i l (reads.alive refl m
      (set_once [] (first_of i whole) (fits_first i [] whole g.fits) (λ _ _ a s. absurd (some-ne-none a (sym s.1))) c m y.1.kept
      (item_stands 0 (first_of i whole) y.0 y.1 (in_first i whole y.0 y.1 less y.2) y.3) sets)))
      (λ (more : i ≤ y.0). let role = sym (⊎_elim (λ q. q) (λ q. absurd (let far : 0 ≡ caller_line y.1.kept.entry.made.caller = q in omega arith)) (in_cases 0 y.1 y.3)) in
      not_before y.0 (omega arith) ((fits_at [] whole y.0 y.1 g.fits y.2).sets role c m sets).2)
      (cases_lt y.0 i);
}

-- what the managed state answers, by the caller's pin
abbrev read_by : Managed → ℕ → ℕ → Option ℕ → heap.Answered Managed
read_by s t k o = elim o [ None ↦ cell_read s t k s.cycle | Some x ↦ answer (says.Pinned record { 0 = x }) s ]

pinned_reply : (s : Managed) (t k m : ℕ) → slot s.pins t ≡ Some m → (read_cell s t k).reply ≡ says.Pinned record { 0 = m }
pinned_reply s t k m e = ap (λ o. (read_by s t k o).reply) e

target_reply : (s : Managed) (t k m : ℕ) → slot s.pins t ≡ None → s.cycle ≡ None → slot s.cells k ≡ Some m → (read_cell s t k).reply ≡ (if heap.is_freed s.heap m then says.Gone else managed_name m)
target_reply s t k m empty closed aims = ap (λ o. (read_by s t k o).reply) empty
    ∙ (ap (λ o. (cell_read s t k o).reply) closed ∙ (ap (λ o. (target_read s t o).reply) aims ∙ by_test (heap.is_freed s.heap m) _ _))
  where
    by_test : (b : Bool) (x y : heap.Answered Managed) → (if b then x else y).reply ≡ (if b then x.reply else y.reply)
    by_test true x y = refl
    by_test false x y = refl

pub replies_are_right : (whole : List Item) → RunsFrom 0 whole → EachFits [] whole
    → ((i : ℕ) (x : Item) → get_elem? whole i ≡ some x → 2 ≤ x.role → (k : ℕ) → SaysPending x.kept.entry.made.reply k → IsSnappedBefore (of_line 0 whole) x.kept.entry.number k) → RepliesAreRight whole
replies_are_right whole runs fits pending ns cells notes same i x at_i reader s state k reads_it = by_reply x.kept.entry.made.reply refl role.2
  where
    g : Noticed whole ns
    g = record { runs = runs; fits = fits; notes = notes }

    before : List Item
    before = first_of i whole

    t : Thread
    t = x.kept.entry.made.caller

    fit : Fits before x
    fit = fits_at [] whole i x fits at_i

    at_place : IsItem (0 + i) x
    at_place = runs_at 0 whole i x runs at_i

    number : x.kept.entry.number ≡ i
    number = let n = at_place.number in omega arith

    role : (is_read x.kept.entry.made.op ≡ true) × (x.kept.entry.made.caller ≡ M (x.role - 1)) × IsAnswer x.kept.entry.made.reply
    role = at_place.stands.reader reader

    pins : slot s.pins (thread_number t) ≡ object_of (pin (of_line (caller_line t) before))
    pins = subst (λ z. slot s.pins (thread_number z) ≡ object_of (pin (of_line (caller_line z) before)))
        (sym role.1) (state.pins (x.role - 1) (omega arith) (let small = at_place.stands.one in omega arith))

    empty : ((m : ℕ) → x.kept.entry.made.reply ≡ says.Pinned record { 0 = m } → ⊥) → slot s.pins (thread_number t) ≡ None
    empty other = pins ∙ ap object_of (fit.unfilled reader other)

    word : (w : ℕ) → word_of x.kept.entry.made.reply ≡ Some w → IsClosed (of_line 0 before) × ReadsWord (of_line 0 before) (of_line (caller_line t) before) k w
    word w e = fit.read reader k w (reads_cell x.kept.entry.made.op k reads_it) e

    not_pinned : (w : ℕ) → word_of x.kept.entry.made.reply ≡ Some w → (m : ℕ) → x.kept.entry.made.reply ≡ says.Pinned record { 0 = m } → ⊥
    not_pinned w e m f = none_not w (sym (ap word_of f) ∙ e)

    by_reply : (r : Reply) → x.kept.entry.made.reply ≡ r → IsAnswer r → IsReadReply ns cells s i t k r
    by_reply (says.Pending c) e a = (
      empty (λ m f. true≢false (ap (λ z. elim z [ says.Pending c ↦ true | _ ↦ false ]) (sym e ∙ f))),
      pending_right whole ns g i t c.0 (subst (λ n. IsSnappedBefore (of_line 0 whole) n c.0) number (pending i x at_i reader c.0 e)) (fit.pending reader c.0 e),
    )
    by_reply says.Unset e a = (empty (not_pinned 0 (ap word_of e)), unset_right whole ns g cells same i t k (word 0 (ap word_of e)).1)
    by_reply (says.Pinned m) e a = sym (pinned_reply s (thread_number t) k m.0
        (pins ∙ ap object_of (let p = fit.filled reader m.0 e in let q : pin (of_line (caller_line t) before) ≡ suc m.0 = omega arith in q)))
    by_reply says.Gone e a = let w = word 1 (ap word_of e) in let gone = w.1.gone refl in
        sym (target_reply s (thread_number t) k gone.0 (empty (not_pinned 1 (ap word_of e))) (state.open_cycle w.0) (state.cells k ∙ gone.1)
        ∙ if_true (heap.is_freed s.heap gone.0) says.Gone (managed_name gone.0) (state.freed gone.0 ∙ gone.2))
    by_reply (says.M m) e a = let w = word (m.0 + 1) (ap word_of e) in let object = w.1.object m.0 a.0 refl in
        sym (target_reply s (thread_number t) k m.0 (empty (not_pinned (m.0 + 1) (ap word_of e))) (state.open_cycle w.0) (state.cells k ∙ object.0)
        ∙ if_false (heap.is_freed s.heap m.0) says.Gone (managed_name m.0) (state.freed m.0 ∙ object.1))
    by_reply _ e a = absurd a

pub kept_pins_are_right : (whole : List Item) → EachFits [] whole → KeptPinsAreRight whole
kept_pins_are_right whole fits i x e = let f = fits_at [] whole i x fits e in record { snapped = f.snapped; taken = f.taken }
