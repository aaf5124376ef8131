-- The reads of a finished order are such as the gate lets in. A cycle is opened only where none is open, so where none is
-- open each cycle that has its snap has its end; the rest is what the rule says of each read, by the entries' numbers.
use Rattle.std.proofs.Common.{◌≡◌, ◌⊎◌, inl, inr, ⊎_elim, ℕ, zero, suc, ◌+◌, ◌*◌, ◌<◌, ◌≤◌, Bool, true, false, ◌&&◌, List, [], ◌∷◌, ◌++◌, refl, sym, ap, ◌∙◌, subst, arith, true≢false, length}
use Rattle.std.specs.Prelude.{Some}
use Rattle.std.proofs.lemmas.Bool.{cases_Bool, both_ways, and_parts, cases_eq}
use mathlib.Core.Option.{some, some-injective, some-ne-none}
use mathlib.Core.List.{append-nil, append_assoc}
use lib.ListN.{get_elem?}
use Rattle.joint_machine.specs.declared.names.Thread.{Thread}
use Rattle.joint_machine.specs.declared.lines.Act.TheVariants as act
use Rattle.joint_machine.specs.declared.events.Op.{Op}
use Rattle.joint_machine.specs.declared.events.Op.TheVariants as op
use Rattle.joint_machine.specs.declared.events.Made.{Made}
use Rattle.joint_machine.specs.declared.events.Entry.{Entry}
use Rattle.joint_machine.specs.declared.events.Reply.{Reply}
use Rattle.joint_machine.specs.declared.events.Reply.TheVariants as says
use Rattle.joint_machine.specs.Lines.{is_peer_event, is_read}
use Rattle.joint_machine.specs.Readers.{ReadsCell, HasEventAt, EndsCycleAt, SetsCellAt, IsCallersAt, HasKnownFrom}
use Rattle.joint_machine.specs.Told.{Noted}
use Rattle.order_table.specs.declared.views.KeptEntry.{KeptEntry}
use Rattle.joint_machine.specs.HistoryLines.{caller_line}
use Rattle.order_table.specs.Stages.{Deed, opens, ends, neither, deed, stage_after, stage, IsClosed}
use Rattle.order_table.specs.Owed.{word_of}
use Rattle.order_table.specs.Views.{IsAnswer, IsInRole}
use Rattle.order_table.specs.Rule.{Item, is_in, of_line, RunsFrom, IsBelow, Stands, IsLetIn, FindsHeld, Follows, Fits, EachFits}
use Rattle.order_table.specs.Replies.{AreNotes, first_of}
use Rattle.order_table.specs.Rule as rule
use Rattle.order_table.specs.Gated.{is_found, IsLetInAt, FindsHeldAt, FindsUnsetAt, ShowsCycle, ShowsOver, IsGated}
use Rattle.order_table.proofs.Gate.{stage_more}
use Rattle.order_table.proofs.Waits.{stands_cases, stands_more, stands_last, stands_below}
use Rattle.order_table.proofs.Lines.{of_line_in, of_line_out, runs_more, below_line, role_in, in_cases}
use Rattle.order_table.proofs.ByNumber.{Noticed, EntryAt, entry_at, early, managed_by, end_deed, setter, none_from, stands_item, item_note, in_first, fits_at, fits_first, deed_opens, runs_at, reads_cell}

-- what a cycle's snap is followed by: it is open, or has ended
abbrev IsOpenOrEnded : List KeptEntry → KeptEntry → ℕ → Type 0
IsOpenOrEnded ml a k = (stage ml ≡ 2 * k) ⊎ ((e : KeptEntry) × Stands ml e × (deed e.entry.made.op ≡ ends k) × (a.entry.number < e.entry.number))

abbrev Ends : List Item → Type 0
Ends before = (a : KeptEntry) (k : ℕ) → Stands (of_line 0 before) a → deed a.entry.made.op ≡ opens k → IsOpenOrEnded (of_line 0 before) a k

-- a managed entry more
ends_more : (ml : List KeptEntry) (x : KeptEntry) → IsBelow x.entry.number ml → Follows (stage ml) (deed x.entry.made.op)
    → ((a : KeptEntry) (k : ℕ) → Stands ml a → deed a.entry.made.op ≡ opens k → IsOpenOrEnded ml a k)
    → (a : KeptEntry) (k : ℕ) → Stands (ml ++ x ∷ []) a → deed a.entry.made.op ≡ opens k → IsOpenOrEnded (ml ++ x ∷ []) a k
ends_more ml x below follows old a k sa e = ⊎_elim
    (λ (t : Stands ml a). ⊎_elim
    (λ (z : stage ml ≡ 2 * k). by_deed t z (deed x.entry.made.op) refl follows)
    (λ (z : (b : KeptEntry) × Stands ml b × (deed b.entry.made.op ≡ ends k) × (a.entry.number < b.entry.number)). inr (z.0, stands_more ml x z.0 z.1, z.2, z.3))
    (old a k t e))
    (λ (same : x ≡ a). let d : deed x.entry.made.op ≡ opens k = ap (λ (y : KeptEntry). deed y.entry.made.op) same ∙ e in
    let next : stage ml + 1 ≡ 2 * k = subst (Follows (stage ml)) d follows in
    let now : stage (ml ++ x ∷ []) ≡ stage_after (stage ml) (opens k) = stage_more ml x ∙ ap (stage_after (stage ml)) d in inl (omega (arith, next, now)))
    (stands_cases ml x a sa)
  where
    by_deed : Stands ml a → stage ml ≡ 2 * k → (d : Deed) → deed x.entry.made.op ≡ d → Follows (stage ml) d → IsOpenOrEnded (ml ++ x ∷ []) a k
    by_deed t z (opens j) q f = let next : stage ml + 1 ≡ 2 * j = f in absurd (omega (arith, next, z))
    by_deed t z (ends j) q f = let at : stage ml ≡ 2 * j = f in let same : j ≡ k = omega (arith, at, z) in
        inr (x, stands_last ml x, q ∙ ap ends same, stands_below x.entry.number ml a below t)
    by_deed t z neither q f = inl (stage_more ml x ∙ (ap (stage_after (stage ml)) q ∙ z))

ends_along : (before xs : List Item) → RunsFrom 0 before → RunsFrom (length before) xs → EachFits before xs → Ends before → Ends (before ++ xs)
ends_along before [] runs more f old = subst Ends (sym (append-nil before)) old
ends_along before (x ∷ xs) runs more f old = subst Ends (append_assoc before (x ∷ []) xs)
    (ends_along (before ++ x ∷ []) xs (runs_more 0 before x runs is) (subst (λ n. RunsFrom n xs) (one-more before) more.1) f.1 next)
  where
    is : rule.IsItem (0 + length before) x
    is = record { number = more.0.number ∙ omega arith; caller = more.0.caller; stands = more.0.stands }

    one-more : (ys : List Item) → length ys + 1 ≡ length (ys ++ x ∷ [])
    one-more [] = omega arith
    one-more (z ∷ ys) = (let r = one-more ys in omega (arith, r))

    next : Ends (before ++ x ∷ [])
    next a k sa e = ⊎_elim
        (λ (i : is_in 0 x ≡ true). let first : x.role ≡ 0 = sym (⊎_elim (λ c. c) (λ c. absurd (let far : 0 ≡ caller_line x.kept.entry.made.caller = c in omega arith)) (in_cases 0 x i)) in
        subst (λ ks. IsOpenOrEnded ks a k) (sym (of_line_in 0 before x i))
        (ends_more (of_line 0 before) x.kept (below_line 0 0 x.kept.entry.number before runs (let n = more.0.number in omega arith)) (f.0.cycles first) old a k
        (subst (λ ks. Stands ks a) (of_line_in 0 before x i) sa) e))
        (λ (i : is_in 0 x ≡ false). subst (λ ks. IsOpenOrEnded ks a k) (sym (of_line_out 0 before x i)) (old a k (subst (λ ks. Stands ks a) (of_line_out 0 before x i) sa) e))
        (cases_Bool (is_in 0 x))

-- a read stands in a reader's list, and its reply is an answer
reader_by : (r : ℕ) (m : Made) → IsInRole r m → is_read m.op ≡ true → 2 ≤ r
reader_by r m s e = ⊎_elim (λ (z : r ≡ 0). absurd (both_ways (is_read m.op) (s.managed z).0 e))
    (λ some. ⊎_elim (λ (z : r ≡ 1). absurd (both_ways (is_read m.op) (s.peer z).0 e)) (λ more. omega (arith, some, more)) (cases_eq r 1)) (cases_eq r 0)

word_found : (r : Reply) → IsAnswer r → is_found r ≡ true → (w : ℕ) × (word_of r ≡ Some w)
word_found (says.Pending c) a e = absurd (true≢false (sym e))
word_found (says.Pinned m) a e = absurd (true≢false (sym e))
word_found says.Unset a e = (0, refl)
word_found says.Gone a e = (1, refl)
word_found (says.M m) a e = (m.0 + 1, refl)
word_found _ a e = absurd a

runs_first : (i n : ℕ) (xs : List Item) → RunsFrom n xs → RunsFrom n (first_of i xs)
runs_first zero n xs r = tt
runs_first (suc i) n [] r = tt
runs_first (suc i) n (x ∷ xs) r = (r.0, runs_first i (n + 1) xs r.1)

-- what stands among the first
of_first : (i : ℕ) (xs : List Item) (j : ℕ) (x : Item) → get_elem? (first_of i xs) j ≡ some x → (j < i) × (get_elem? xs j ≡ some x)
of_first zero xs j x e = absurd (some-ne-none x (sym e))
of_first (suc i) [] j x e = absurd (some-ne-none x (sym e))
of_first (suc i) (y ∷ xs) zero x e = (omega arith, e)
of_first (suc i) (y ∷ xs) (suc j) x e = let t = of_first i xs j x e in (let l = t.0 in omega arith, t.1)

deed_ends : (o : Op) (k : ℕ) → deed o ≡ ends k → (o ≡ op.Resolve record { 0 = k }) ⊎ (o ≡ op.Abandon record { 0 = k })
deed_ends (op.Snap c) k e = absurd (true≢false (ap (λ d. elim d [ opens z ↦ true | ends z ↦ false | neither ↦ true ]) e))
deed_ends (op.Resolve c) k e = inl (ap (λ (z : ℕ). op.Resolve record { 0 = z }) (ap (λ d. elim d [ opens z ↦ 0 | ends z ↦ z | neither ↦ 0 ]) e))
deed_ends (op.Abandon c) k e = inr (ap (λ (z : ℕ). op.Abandon record { 0 = z }) (ap (λ d. elim d [ opens z ↦ 0 | ends z ↦ z | neither ↦ 0 ]) e))
deed_ends _ k e = absurd (true≢false (ap (λ d. elim d [ opens z ↦ true | ends z ↦ false | neither ↦ true ]) e))

module _ (whole : List Item) (ns : List Noted) (g : Noticed whole ns) where
  -- a read that was let in, and one that found the gate held, as items
  let_in : (i : ℕ) (n : Noted) (x : EntryAt whole i n) → (is_read n.entry.made.op && is_found n.entry.made.reply) ≡ true → IsLetIn x.item
  let_in i n x e =
      let t = and_parts (is_read x.item.kept.entry.made.op) (is_found x.item.kept.entry.made.reply)
      (subst (λ (y : Entry). (is_read y.made.op && is_found y.made.reply) ≡ true) x.note.entry e) in
      let reader = reader_by x.item.role x.item.kept.entry.made x.is.stands t.0 in
      let w = word_found x.item.kept.entry.made.reply (x.is.stands.reader reader).2 t.1 in (reader, w.0, w.1)

  finds_held : (i k : ℕ) (n : Noted) (x : EntryAt whole i n) → is_read n.entry.made.op ≡ true → n.entry.made.reply ≡ says.Pending record { 0 = k } → FindsHeld x.item k
  finds_held i k n x e f = (
    reader_by x.item.role x.item.kept.entry.made x.is.stands (ap (λ (y : Entry). is_read y.made.op) (sym x.note.entry) ∙ e),
    ap (λ (y : Entry). y.made.reply) (sym x.note.entry) ∙ f,
  )

  -- the end of a cycle, in the managed line of the entries before number i
  ended_early : (end i k : ℕ) (e : EndsCycleAt ns end k) → end < i → (a : KeptEntry) × Stands (of_line 0 (first_of i whole)) a × (deed a.entry.made.op ≡ ends k) × (a.entry.number ≡ end)
  ended_early end i k e l =
      let z = entry_at whole ns g end e.element e.there in
      let d = end_deed z.item.kept.entry.made.op k (subst (λ (y : Entry). (y.made.op ≡ op.Resolve record { 0 = k }) ⊎ (y.made.op ≡ op.Abandon record { 0 = k })) z.note.entry e.is) in (
        z.item.kept,
        early whole e.element end i z l (managed_by z.item.role z.item.kept.entry.made z.is.stands d.1 (d.2 z.item.kept.entry.made.caller)),
        d.0,
        z.number,
      )

  -- a snap, likewise
  snapped_early : (j i k : ℕ) (e : HasEventAt ns j (op.Snap record { 0 = k })) → j < i → (a : KeptEntry) × Stands (of_line 0 (first_of i whole)) a × (deed a.entry.made.op ≡ opens k) × (a.entry.number ≡ j)
  snapped_early j i k e l =
      let z = entry_at whole ns g j e.element e.there in
      let is : z.item.kept.entry.made.op ≡ op.Snap record { 0 = k } = ap (λ (y : Entry). y.made.op) (sym z.note.entry) ∙ e.is in
      let first = managed_by z.item.role z.item.kept.entry.made z.is.stands (ap is_read is) (ap (is_peer_event z.item.kept.entry.made.caller) is) in
      (z.item.kept, early whole e.element j i z l first, ap deed is, z.number)

  -- the entries that a managed line's end and its number name
  ends_at : (i k : ℕ) (a : KeptEntry) → Stands (of_line 0 (first_of i whole)) a → deed a.entry.made.op ≡ ends k → (end : ℕ) × (end < i) × EndsCycleAt ns end k
  ends_at i k a s d =
      let t = stands_item 0 (first_of i whole) a s in
      let inside = of_first i whole t.0 t.1 t.2 in
      let n = item_note whole ns g.notes t.0 t.1 inside.1 in (
        t.0,
        inside.0,
        record {
          element = n.0;
          there = n.1;
          is = deed_ends n.0.entry.made.op k (ap (λ (y : Entry). deed y.made.op) n.2.entry ∙ (ap (λ (y : KeptEntry). deed y.entry.made.op) t.4 ∙ d));
        },
      )

  -- a cycle whose snap stands before a read that was let in has ended before it
  ended : (i j k : ℕ) (n : Noted) (x : EntryAt whole i n) → IsLetIn x.item → (k' : ℕ) (w : ℕ) → ReadsCell n.entry.made.op k' → word_of x.item.kept.entry.made.reply ≡ Some w
      → HasEventAt ns j (op.Snap record { 0 = k }) → j < i → (end : ℕ) × (end < i) × EndsCycleAt ns end k
  ended i j k n x inside k' w reads is e l =
      let a = snapped_early j i k e l in
      let closed = (x.fits.read inside.0 k' w (reads_cell x.item.kept.entry.made.op k' (subst (λ (y : Entry). ReadsCell y.made.op k') x.note.entry reads)) is).0 in
      ⊎_elim
      (λ (z : stage (of_line 0 (first_of i whole)) ≡ 2 * k). absurd (let q = closed.1 in omega (arith, q, z)))
      (λ (z : (b : KeptEntry) × Stands (of_line 0 (first_of i whole)) b × (deed b.entry.made.op ≡ ends k) × (a.0.entry.number < b.entry.number)). ends_at i k z.0 z.1 z.2)
      (ends_along [] (first_of i whole) tt (runs_first i 0 whole g.runs) (fits_first i [] whole g.fits) (λ b c s. absurd (some-ne-none b (sym s.1))) a.0 k a.1 a.2)

  -- the cell of a read
  cell_of : (o : Op) → is_read o ≡ true → (k : ℕ) × ReadsCell o k
  cell_of (op.Line (act.Read c)) e = (c.0, refl)
  cell_of (op.Line (act.Await c)) e = (c.0, refl)
  cell_of _ e = absurd (true≢false (sym e))

  closed : (i j k : ℕ) → IsLetInAt ns i → ShowsCycle ns j k → j < i → (end : ℕ) × (end < i) × EndsCycleAt ns end k
  closed i j k inside shows l =
      let x = entry_at whole ns g i inside.element inside.there in
      let item = let_in i inside.element x inside.is in
      let t = and_parts (is_read inside.element.entry.made.op) (is_found inside.element.entry.made.reply) inside.is in
      let c = cell_of inside.element.entry.made.op t.0 in
      ⊎_elim
      (λ (e : HasEventAt ns j (op.Snap record { 0 = k })). ended i j k inside.element x item c.0 item.1 c.1 item.2 e l)
      (λ (f : FindsHeldAt ns j k).
      let y = entry_at whole ns g j f.element f.there in
      let due = x.fits.due item j k y.item (in_first i whole j y.item l y.there) (finds_held j k f.element y f.is.0 f.is.1) in
      let s = stands_item 0 (first_of i whole) due.0 due.1 in
      let before = of_first i whole s.0 s.1 s.2 in
      let n = item_note whole ns g.notes s.0 s.1 before.1 in
      ended i s.0 k inside.element x item c.0 item.1 c.1 item.2 record {
        element = n.0;
        there = n.1;
        is = ap (λ (z : Entry). z.made.op) n.2.entry ∙ (ap (λ (z : KeptEntry). z.entry.made.op) s.4 ∙ deed_opens due.0.entry.made.op k due.2);
      } before.0)
      shows

  held : (i j k end : ℕ) (t : Thread) → FindsHeldAt ns i k → IsCallersAt ns i t → EndsCycleAt ns end k → end < j → ShowsOver ns j k → HasKnownFrom ns t i j → ⊥
  held i j k end t finds mine e l shows h =
      let x = entry_at whole ns g i finds.element finds.there in
      let f = finds_held i k finds.element x finds.is.0 finds.is.1 in
      let y' = entry_at whole ns g i mine.element mine.there in
      let one : y'.item ≡ x.item = some-injective y'.item x.item (sym y'.there ∙ x.there) in
      let caller : x.item.kept.entry.made.caller ≡ t = ap (λ (q : Item). q.kept.entry.made.caller) (sym one) ∙ (ap (λ (q : Entry). q.made.caller) (sym y'.note.entry) ∙ mine.is) in
      let far = h.1 in let near = h.2 in
      let over : (q : ℕ) (y : Item) → q ≡ j → get_elem? whole q ≡ some y → y.kept.entry.number ≡ j → rule.ShowsOver (of_line 0 (first_of i whole)) y k → ⊥ = λ q y same at_q number s.
      none_from whole ns g t i j (subst (λ z. IsBelow z (of_line (caller_line t) (first_of i whole))) number
      (subst (λ z. IsBelow y.kept.entry.number (of_line (caller_line z) (first_of i whole))) caller
      (x.fits.over f.0 k f.1 q y (in_first i whole q y (omega (arith, same, far, near)) at_q) s))) h in
      ⊎_elim
      (λ (inside : IsLetInAt ns j).
      let y = entry_at whole ns g j inside.element inside.there in
      let a = ended_early end i k e (omega (arith, l, far, near)) in
      over j y.item refl y.there y.number (inl (let_in j inside.element y inside.is, a.0, a.1, a.2, let p = a.3 in let q = y.number in omega (arith, l, p, q))))
      (λ (later : (m : ℕ) × (k < m) × FindsHeldAt ns j m).
      let y = entry_at whole ns g j later.2.element later.2.there in
      over j y.item refl y.there y.number (inr (later.0, later.1, finds_held j later.0 later.2.element y later.2.is.0 later.2.is.1)))
      shows

  unset : (i j s k c : ℕ) → FindsUnsetAt ns i c → SetsCellAt ns s c → HasEventAt ns j (op.Snap record { 0 = k }) → s < j → j < i → ⊥
  unset i j s k c finds sets snap l m =
      let x = entry_at whole ns g i finds.element finds.there in
      let reads : ReadsCell x.item.kept.entry.made.op c = subst (λ (y : Entry). ReadsCell y.made.op c) x.note.entry finds.is.0 in
      let reader = reader_by x.item.role x.item.kept.entry.made x.is.stands (read_by_cell x.item.kept.entry.made.op c reads) in
      let says : word_of x.item.kept.entry.made.reply ≡ Some 0 = ap word_of (ap (λ (y : Entry). y.made.reply) (sym x.note.entry) ∙ finds.is.1) in
      let word = (x.fits.read reader c 0 (reads_cell x.item.kept.entry.made.op c reads) says).1 in
      let z = entry_at whole ns g s sets.element sets.there in
      let marks = z.note.set c sets.is.0 sets.is.1 in
      let b = snapped_early j i k snap m in
      word.unsnapped refl z.item.kept b.0 k (early whole sets.element s i z (omega (arith, l, m)) (setter whole sets.element s c z marks)) marks b.1
      (let p = z.number in let q = b.3 in omega (arith, l, p, q)) b.2
    where
      read_by_cell : (o : Op) (k : ℕ) → ReadsCell o k → is_read o ≡ true
      read_by_cell (op.Line (act.Read c)) k e = refl
      read_by_cell (op.Line (act.Await c)) k e = refl
      read_by_cell _ k e = absurd e

  pub reads_are_gated : IsGated ns
  reads_are_gated = record { closed = closed; held = held; set = unset }
