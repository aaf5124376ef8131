-- What readers that found the gate held may say.
use Rattle.std.proofs.Common.{◌≡◌, ◌⊎◌, inl, inr, ⊎_elim, ℕ, zero, suc, ◌+◌, ◌*◌, ◌<◌, ◌≤◌, List, [], ◌∷◌, ◌++◌, length, refl, sym, ap, ◌∙◌, subst, arith}
use Rattle.std.specs.Prelude.{max}
use Rattle.std.proofs.lemmas.Bool.{cases_lt}
use mathlib.Core.Option.{some, some-injective, some-ne-none}
use mathlib.Core.List.{append-nil, append_assoc}
use lib.ListN.{get_elem?}
use Rattle.atomic_table.proofs.Lists.{at_snoc, at_longer, at_last}
use Rattle.order_table.specs.declared.views.KeptEntry.{KeptEntry}
use Rattle.order_table.specs.declared.views.View.{View}
use Rattle.order_table.specs.Stages.{Deed, opens, ends, neither, deed, stage_after, stage_from, stage}
use Rattle.order_table.specs.Views.{known}
use Rattle.order_table.specs.Allowed.{MayDo, SaysPending}
use Rattle.order_table.specs.Rule.{Item, of_line, IsBelow, IsHeldFor, Stands, IsSnapped, IsSnappedBefore, IsDue, Unknown, IsLetIn, FindsHeld, ShowsOver, NotOver, Fits, EachFits, Waits, IsPending, Waiting}
use Rattle.order_table.proofs.Gate.{stage_grows, stage_more}

pub stands_more : (ks : List KeptEntry) (x k : KeptEntry) → Stands ks k → Stands (ks ++ x ∷ []) k
stands_more ks x k s = (s.0, at_longer ks (x ∷ []) s.0 k s.1)

pub stands_last : (ks : List KeptEntry) (x : KeptEntry) → Stands (ks ++ x ∷ []) x
stands_last ks x = (length ks, at_last ks x (length ks) refl)

pub stands_cases : (ks : List KeptEntry) (x k : KeptEntry) → Stands (ks ++ x ∷ []) k → Stands ks k ⊎ (x ≡ k)
stands_cases ks x k s = ⊎_elim (λ e. inl (s.0, e)) (λ e. inr e) (at_snoc ks x k s.0 s.1)

-- who stands in a list of numbers below n has one
pub stands_below : (n : ℕ) (ks : List KeptEntry) (k : KeptEntry) → IsBelow n ks → Stands ks k → k.entry.number < n
stands_below n ks k b s = at_place ks s.0 b s.1
  where
    at_place : (l : List KeptEntry) (j : ℕ) → IsBelow n l → get_elem? l j ≡ some k → k.entry.number < n
    at_place [] j b e = absurd (some-ne-none k (sym e))
    at_place (x ∷ xs) zero b e = subst (λ y. y.entry.number < n) (some-injective x k e) b.0
    at_place (x ∷ xs) (suc j) b e = at_place xs j b.1 e

-- a cycle that has ended has come that far
pub ended_stage : (ks : List KeptEntry) (a : KeptEntry) (k : ℕ) → Stands ks a → deed a.entry.made.op ≡ ends k → 2 * k + 1 ≤ stage ks
ended_stage ks a k s e = at_place 1 ks s.0 s.1
  where
    at_place : (n : ℕ) (l : List KeptEntry) (j : ℕ) → get_elem? l j ≡ some a → 2 * k + 1 ≤ stage_from n l
    at_place n [] j h = absurd (some-ne-none a (sym h))
    at_place n (x ∷ xs) zero h = let d : deed x.entry.made.op ≡ ends k = ap (λ (y : KeptEntry). deed y.entry.made.op) (some-injective x a h) ∙ e in
        let now : stage_after n (deed x.entry.made.op) ≡ max n (2 * k + 1) = ap (stage_after n) d in
        let grows = stage_grows (stage_after n (deed x.entry.made.op)) xs in omega arith
    at_place n (x ∷ xs) (suc j) h = at_place (stage_after n (deed x.entry.made.op)) xs j h

-- a cycle that was opened has come as far as that
pub opened_stage : (ks : List KeptEntry) (a : KeptEntry) (k : ℕ) → Stands ks a → deed a.entry.made.op ≡ opens k → 2 * k ≤ stage ks
opened_stage ks a k s e = at_place 1 ks s.0 s.1
  where
    at_place : (n : ℕ) (l : List KeptEntry) (j : ℕ) → get_elem? l j ≡ some a → 2 * k ≤ stage_from n l
    at_place n [] j h = absurd (some-ne-none a (sym h))
    at_place n (x ∷ xs) zero h = let d : deed x.entry.made.op ≡ opens k = ap (λ (y : KeptEntry). deed y.entry.made.op) (some-injective x a h) ∙ e in
        let now : stage_after n (deed x.entry.made.op) ≡ max n (2 * k) = ap (stage_after n) d in
        let grows = stage_grows (stage_after n (deed x.entry.made.op)) xs in omega arith
    at_place n (x ∷ xs) (suc j) h = at_place (stage_after n (deed x.entry.made.op)) xs j h

pub fits_more : (before xs : List Item) (x : Item) → EachFits before xs → Fits (before ++ xs) x → EachFits before (xs ++ x ∷ [])
fits_more before [] x e f = (subst (λ b. Fits b x) (append-nil before) f, tt)
fits_more before (y ∷ xs) x e f = (e.0, fits_more (before ++ y ∷ []) xs x e.1 (subst (λ b. Fits b x) (sym (append_assoc before (y ∷ []) xs)) f))

-- a managed entry more leaves unknown what was
pub unknown_more : (n c : ℕ) (ml own : List KeptEntry) (k : KeptEntry) → k.entry.number ≡ n → IsBelow n ml → IsBelow n own → Unknown ml own c → Unknown (ml ++ k ∷ []) own c
unknown_more n c ml own k is below own_below u a b sa e sb lt = ⊎_elim
    (λ (tb : Stands ml b). ⊎_elim
    (λ (ta : Stands ml a). u a b ta e tb lt)
    (λ (same : k ≡ a). let l = stands_below n ml b below tb in let m : a.entry.number ≡ n = ap (λ (y : KeptEntry). y.entry.number) (sym same) ∙ is in absurd (omega arith))
    (stands_cases ml k a sa))
    (λ (same : k ≡ b). subst (λ m. IsBelow m own) (sym is ∙ ap (λ (y : KeptEntry). y.entry.number) same) own_below)
    (stands_cases ml k b sb)

-- while a snap is owed the owner can make no other entry
pub due_done : (v : View) (gate c : ℕ) (d : Deed) → v.holds ≡ gate → MayDo v d → IsDue gate (stage (known v 0)) c → d ≡ opens c
due_done v gate c (opens k) own may due = let a = may.1 in let b = due.0 in ap opens (sym may.1 ∙ (own ∙ due.0))
due_done v gate c (ends k) own may due = let a : stage (known v 0) ≡ 2 * k = may in let b = due.1 in absurd (omega arith)
due_done v gate c neither own may due = let b = due.1 in let e = due.0 in ⊎_elim (λ z. absurd (omega arith)) (λ (z : stage (known v 0) ≡ 2 * v.holds). absurd (omega arith)) may

pub snapped_more : (v : View) (gate : ℕ) (k : KeptEntry) → v.holds ≡ gate → MayDo v (deed k.entry.made.op)
    → IsHeldFor gate (stage (known v 0)) → (0 < gate → 2 * gate ≤ stage (known v 0) → IsSnapped (known v 0) gate)
    → 0 < gate → 2 * gate ≤ stage (known v 0 ++ k ∷ []) → IsSnapped (known v 0 ++ k ∷ []) gate
snapped_more v gate k own may held old pos far = by_deed (deed k.entry.made.op) refl may
  where
    more : IsSnapped (known v 0) gate → IsSnapped (known v 0 ++ k ∷ []) gate
    more t = (t.0, stands_more (known v 0) k t.0 t.1, t.2)

    by_deed : (d : Deed) → deed k.entry.made.op ≡ d → MayDo v d → IsSnapped (known v 0 ++ k ∷ []) gate
    by_deed (opens c) e m = (k, stands_last (known v 0) k, e ∙ ap opens (sym m.1 ∙ own))
    by_deed (ends c) e m = let a : stage (known v 0) ≡ 2 * c = m in let b = held.1 pos in let l = b.0 in more (old pos (omega arith))
    by_deed neither e m = let same : stage (known v 0 ++ k ∷ []) ≡ stage (known v 0) = stage_more (known v 0) k ∙ ap (stage_after (stage (known v 0))) e in more (old pos (omega arith))

pub quiet_more : (v : View) (gate n : ℕ) (k : KeptEntry) → k.entry.number ≡ n → IsBelow n (known v 0) → v.holds ≡ gate → MayDo v (deed k.entry.made.op) → IsHeldFor gate (stage (known v 0))
    → 0 < gate → (a b : KeptEntry) → Stands (known v 0 ++ k ∷ []) a → deed a.entry.made.op ≡ ends gate → Stands (known v 0 ++ k ∷ []) b → b.entry.number ≤ a.entry.number
quiet_more v gate n k is below own may held pos a b sa e sb = ⊎_elim
    (λ (ta : Stands (known v 0) a). let far = ended_stage (known v 0) a gate ta e in let bounds = held.1 pos in let high = bounds.1 in absurd (by_deed (deed k.entry.made.op) may far))
    (λ (same : k ≡ a). let m : a.entry.number ≡ n = ap (λ (y : KeptEntry). y.entry.number) (sym same) ∙ is in ⊎_elim
    (λ (tb : Stands (known v 0) b). let l = stands_below n (known v 0) b below tb in omega arith)
    (λ (same' : k ≡ b). let m' : b.entry.number ≡ n = ap (λ (y : KeptEntry). y.entry.number) (sym same') ∙ is in omega arith)
    (stands_cases (known v 0) k b sb))
    (stands_cases (known v 0) k a sa)
  where
    by_deed : (d : Deed) → MayDo v d → 2 * gate + 1 ≤ stage (known v 0) → ⊥
    by_deed (opens c) m far = let l = m.0 in let h = m.1 in omega arith
    by_deed (ends c) m far = let l : stage (known v 0) ≡ 2 * c = m in let h = (held.1 pos).1 in omega arith
    by_deed neither m far = ⊎_elim (λ z. omega arith) (λ (z : stage (known v 0) ≡ 2 * v.holds). omega arith) m

-- an entry that says a cycle is pending stays right when a managed entry comes
pub pending_more : (v : View) (gate n m c : ℕ) (k : KeptEntry) → k.entry.number ≡ n → IsBelow n (known v 0) → v.holds ≡ gate → MayDo v (deed k.entry.made.op)
    → IsPending (known v 0) gate m c → IsPending (known v 0 ++ k ∷ []) gate m c
pending_more v gate n m c k is below own may p = ⊎_elim
    (λ (t : IsSnappedBefore (known v 0) m c). inl (
      t.0,
      stands_more (known v 0) k t.0 t.1,
      t.2,
      λ b sb lt. ⊎_elim
          (λ (tb : Stands (known v 0) b). t.3 b tb lt)
          (λ (same : k ≡ b). let e : b.entry.number ≡ n = ap (λ (y : KeptEntry). y.entry.number) (sym same) ∙ is in let l = stands_below n (known v 0) t.0 below t.1 in absurd (omega arith))
          (stands_cases (known v 0) k b sb),
    ))
    (λ (t : IsDue gate (stage (known v 0)) c × IsBelow m (known v 0)). inl (
      k,
      stands_last (known v 0) k,
      due_done v gate c (deed k.entry.made.op) own may t.0,
      λ b sb lt. ⊎_elim
          (λ (tb : Stands (known v 0) b). stands_below m (known v 0) b t.1 tb)
          (λ (same : k ≡ b). let e : b.entry.number ≡ k.entry.number = ap (λ (y : KeptEntry). y.entry.number) (sym same) in absurd (omega arith))
          (stands_cases (known v 0) k b sb),
    ))
    p

-- a managed entry more shows of no cycle that it is over
not_over_more : (whole : List Item) (x : Item) (own : List KeptEntry) (k : ℕ) → of_line 0 (whole ++ x ∷ []) ≡ of_line 0 whole ++ x.kept ∷ [] → x.role ≡ 0
    → ((i : ℕ) (y : Item) → get_elem? whole i ≡ some y → y.kept.entry.number < x.kept.entry.number) → NotOver whole own k → NotOver (whole ++ x ∷ []) own k
not_over_more whole x own k line managed below o i y at_i shows = ⊎_elim
    (λ (t : get_elem? whole i ≡ some y). o i y t (⊎_elim
    (λ (z : IsLetIn y × (a : KeptEntry) × Stands (of_line 0 whole ++ x.kept ∷ []) a × (deed a.entry.made.op ≡ ends k) × (a.entry.number < y.kept.entry.number)). inl (
      z.0,
      z.1,
      ⊎_elim
          (λ (st : Stands (of_line 0 whole) z.1). st)
          (λ (same : x.kept ≡ z.1). let m : x.kept.entry.number ≡ z.1.entry.number = ap (λ (q : KeptEntry). q.entry.number) same in let l = below i y t in let h = z.4 in absurd (omega arith))
          (stands_cases (of_line 0 whole) x.kept z.1 z.2),
      z.3,
      z.4,
    ))
    (λ z. inr z)
    (subst (λ ks. ShowsOver ks y k) line shows)))
    (λ (same : x ≡ y). let role : y.role ≡ 0 = ap (λ (q : Item). q.role) (sym same) ∙ managed in absurd (⊎_elim (λ z. let r = z.0.0 in omega arith) (λ z. let r = z.2.0 in omega arith) shows))
    (at_snoc whole x y i at_i)

-- nor does any other to a caller whose entries stand before it
not_over_other : (whole : List Item) (x : Item) (own : List KeptEntry) (k : ℕ) → of_line 0 (whole ++ x ∷ []) ≡ of_line 0 whole
    → IsBelow x.kept.entry.number own → NotOver whole own k → NotOver (whole ++ x ∷ []) own k
not_over_other whole x own k line below o i y at_i shows = ⊎_elim
    (λ (t : get_elem? whole i ≡ some y). o i y t (subst (λ ks. ShowsOver ks y k) line shows))
    (λ (same : x ≡ y). subst (λ (q : Item). IsBelow q.kept.entry.number own) same below)
    (at_snoc whole x y i at_i)

-- a seat that waits goes on waiting
pub waits_more : (whole : List Item) (gate n : ℕ) (v u : View) (x : Item) → of_line 0 (whole ++ x ∷ []) ≡ of_line 0 whole ++ x.kept ∷ [] → known v 0 ≡ of_line 0 whole → x.kept.entry.number ≡ n
    → x.role ≡ 0 → ((i : ℕ) (y : Item) → get_elem? whole i ≡ some y → y.kept.entry.number < x.kept.entry.number) → IsBelow n (known v 0) → ((i : ℕ) → IsBelow n (known u i)) → v.holds ≡ gate → MayDo v (deed x.kept.entry.made.op) → Waits whole gate u → Waits (whole ++ x ∷ []) gate u
waits_more whole gate n v u x line all is managed items below u_below own may w = record {
  snap = λ l. subst (λ ks. IsSnapped ks u.found ⊎ IsDue gate (stage ks) u.found) (sym line) (inl (⊎_elim
      (λ (t : IsSnapped (of_line 0 whole) u.found). (t.0, stands_more (of_line 0 whole) x.kept t.0 t.1, t.2))
      (λ (t : IsDue gate (stage (of_line 0 whole)) u.found). (
        x.kept,
        stands_last (of_line 0 whole) x.kept,
        due_done v gate u.found (deed x.kept.entry.made.op) own may (subst (λ ks. IsDue gate (stage ks) u.found) (sym all) t),
      ))
      (w.snap l)));
  unknown = λ l t o. subst (λ ks. Unknown ks (known u (t + 10)) u.found) (sym line)
      (unknown_more n u.found (of_line 0 whole) (known u (t + 10)) x.kept is (subst (IsBelow n) all below) (u_below (t + 10)) (w.unknown l t o));
  over = λ l t o. not_over_more whole x (known u (t + 10)) u.found line managed items (w.over l t o);
}

pub waits_same : (whole : List Item) (gate : ℕ) (u : View) (x : Item) → of_line 0 (whole ++ x ∷ []) ≡ of_line 0 whole → ((i : ℕ) → IsBelow x.kept.entry.number (known u i))
    → Waits whole gate u → Waits (whole ++ x ∷ []) gate u
waits_same whole gate u x line below w = record {
  snap = λ l. subst (λ ks. IsSnapped ks u.found ⊎ IsDue gate (stage ks) u.found) (sym line) (w.snap l);
  unknown = λ l t o. subst (λ ks. Unknown ks (known u (t + 10)) u.found) (sym line) (w.unknown l t o);
  over = λ l t o. not_over_other whole x (known u (t + 10)) u.found line (below (t + 10)) (w.over l t o);
}

pub waits_not : (whole : List Item) (gate : ℕ) (u : View) → u.found ≡ 0 → Waits whole gate u
waits_not whole gate u e = record { snap = λ l. absurd (omega arith); unknown = λ l. absurd (omega arith); over = λ l. absurd (omega arith) }

-- only the views change
pub waiting_views : (whole : List Item) (gate : ℕ) (vs ws : List View) → Waiting whole gate vs → ((j : ℕ) (v : View) → get_elem? ws j ≡ some v → Waits whole gate v) → Waiting whole gate ws
waiting_views whole gate vs ws w each = record { snapped = w.snapped; quiet = w.quiet; shut = w.shut; fits = w.fits; pending = w.pending; each_wait = each }

-- an entry that stands in no managed list
pub waiting_other : (whole : List Item) (gate : ℕ) (vs ws : List View) (x : Item) → of_line 0 (whole ++ x ∷ []) ≡ of_line 0 whole → Waiting whole gate vs → Fits whole x
    → (2 ≤ x.role → (k : ℕ) → SaysPending x.kept.entry.made.reply k → IsPending (of_line 0 whole) gate x.kept.entry.number k)
    → (IsLetIn x → gate ≡ 0) → ((j : ℕ) (v : View) → get_elem? ws j ≡ some v → Waits (whole ++ x ∷ []) gate v) → Waiting (whole ++ x ∷ []) gate ws
waiting_other whole gate vs ws x line w fit says is_open each = record {
  snapped = subst (λ ks. 0 < gate → 2 * gate ≤ stage ks → IsSnapped ks gate) (sym line) w.snapped;
  quiet = subst (λ ks. 0 < gate → (a b : KeptEntry) → Stands ks a → deed a.entry.made.op ≡ ends gate → Stands ks b → b.entry.number ≤ a.entry.number) (sym line) w.quiet;
  shut = λ pos i y at_i inside a sa e. ⊎_elim
      (λ t. w.shut pos i y t inside a (subst (λ ks. Stands ks a) line sa) e)
      (λ (same : x ≡ y). absurd (let z = is_open (subst IsLetIn (sym same) inside) in omega arith))
      (at_snoc whole x y i at_i);
  fits = fits_more [] whole x w.fits fit;
  pending = λ i y at_i reader k e. subst (λ ks. IsPending ks gate y.kept.entry.number k) (sym line) (⊎_elim
      (λ t. w.pending i y t reader k e)
      (λ (same : x ≡ y). subst (λ (z : Item). IsPending (of_line 0 whole) gate z.kept.entry.number k) same
      (says (subst (λ (z : Item). 2 ≤ z.role) (sym same) reader) k (subst (λ (z : Item). SaysPending z.kept.entry.made.reply k) (sym same) e)))
      (at_snoc whole x y i at_i));
  each_wait = each;
}

-- a managed entry
pub waiting_managed : (whole : List Item) (gate n : ℕ) (vs ws : List View) (v : View) (x : Item) → Fits whole x
    → of_line 0 (whole ++ x ∷ []) ≡ known v 0 ++ x.kept ∷ [] → known v 0 ≡ of_line 0 whole → Waiting whole gate vs
    → x.role ≡ 0 → x.kept.entry.number ≡ n → ((i : ℕ) (y : Item) → get_elem? whole i ≡ some y → y.kept.entry.number < n) → IsBelow n (known v 0) → v.holds ≡ gate → MayDo v (deed x.kept.entry.made.op) → IsHeldFor gate (stage (known v 0))
    → ((j : ℕ) (v : View) → get_elem? ws j ≡ some v → Waits (whole ++ x ∷ []) gate v) → Waiting (whole ++ x ∷ []) gate ws
waiting_managed whole gate n vs ws v x fit line all w managed is items below own may held each = record {
  snapped = subst (λ ks. 0 < gate → 2 * gate ≤ stage ks → IsSnapped ks gate) (sym line)
      (snapped_more v gate x.kept own may held (subst (λ ks. 0 < gate → 2 * gate ≤ stage ks → IsSnapped ks gate) (sym all) w.snapped));
  quiet = subst (λ ks. 0 < gate → (a b : KeptEntry) → Stands ks a → deed a.entry.made.op ≡ ends gate → Stands ks b → b.entry.number ≤ a.entry.number)
      (sym line) (quiet_more v gate n x.kept is below own may held);
  shut = λ pos i y at_i inside a sa e. ⊎_elim
      (λ (t : get_elem? whole i ≡ some y). ⊎_elim
      (λ (st : Stands (known v 0) a). w.shut pos i y t inside a (subst (λ ks. Stands ks a) all st) e)
      (λ (same : x.kept ≡ a). let l = items i y t in let m : a.entry.number ≡ n = ap (λ (q : KeptEntry). q.entry.number) (sym same) ∙ is in omega arith)
      (stands_cases (known v 0) x.kept a (subst (λ ks. Stands ks a) line sa)))
      (λ (same : x ≡ y). let role : y.role ≡ 0 = ap (λ (q : Item). q.role) (sym same) ∙ managed in absurd (let r = inside.0 in omega arith))
      (at_snoc whole x y i at_i);
  fits = fits_more [] whole x w.fits fit;
  pending = λ i y at_i reader k e. subst (λ ks. IsPending ks gate y.kept.entry.number k) (sym line) (⊎_elim
      (λ t. pending_more v gate n y.kept.entry.number k x.kept is below own may (subst (λ ks. IsPending ks gate y.kept.entry.number k) (sym all) (w.pending i y t reader k e)))
      (λ (same : x ≡ y). let z : y.role ≡ 0 = ap (λ (t : Item). t.role) (sym same) ∙ managed in absurd (omega arith))
      (at_snoc whole x y i at_i));
  each_wait = each;
}

-- the gate is closed for the next cycle, or opened after the end of one
pub waiting_closed : (whole : List Item) (k : ℕ) (vs ws : List View) → stage (of_line 0 whole) + 1 ≡ 2 * k
    → Waiting whole 0 vs → ((j : ℕ) (v : View) → get_elem? ws j ≡ some v → Waits whole k v) → Waiting whole k ws
waiting_closed whole k vs ws next w each = record {
  snapped = λ pos far. absurd (omega arith);
  quiet = λ pos a b sa e sb. absurd (let l = ended_stage (of_line 0 whole) a k sa e in omega arith);
  shut = λ pos i y at_i inside a sa e. absurd (let l = ended_stage (of_line 0 whole) a k sa e in omega arith);
  fits = w.fits;
  pending = λ i y at_i reader c e. ⊎_elim (λ t. inl t) (λ t. let a = t.0.0 in let b = t.0.1 in absurd (omega arith)) (w.pending i y at_i reader c e);
  each_wait = each;
}

pub waiting_opened : (whole : List Item) (g : ℕ) (vs ws : List View) → stage (of_line 0 whole) ≡ 2 * g + 1
    → Waiting whole g vs → ((j : ℕ) (v : View) → get_elem? ws j ≡ some v → Waits whole 0 v) → Waiting whole 0 ws
waiting_opened whole g vs ws ended w each = record {
  snapped = λ pos far. absurd (omega arith);
  quiet = λ pos a b sa e sb. absurd (omega arith);
  shut = λ pos i y at_i inside a sa e. absurd (omega arith);
  fits = w.fits;
  pending = λ i y at_i reader c e. ⊎_elim (λ t. inl t) (λ t. let a = t.0.0 in let b = t.0.1 in absurd (omega arith)) (w.pending i y at_i reader c e);
  each_wait = each;
}

-- who waits when the gate is closed or opened waits for a snap that stands
pub waits_gate : (whole : List Item) (g k : ℕ) (u : View) → (0 < u.found → IsDue g (stage (of_line 0 whole)) u.found → ⊥) → Waits whole g u → Waits whole k u
waits_gate whole g k u none_due w = record { snap = λ l. ⊎_elim (λ t. inl t) (λ t. absurd (none_due l t)) (w.snap l); unknown = w.unknown; over = w.over }

-- who finds the gate held waits for its cycle
pub waits_found : (whole : List Item) (gate : ℕ) (vs : List View) (u : View) → Waiting whole gate vs → IsHeldFor gate (stage (of_line 0 whole)) → 0 < gate → u.found ≡ gate → Waits whole gate u
waits_found whole gate vs u w held pos is = record {
  snap = λ l. subst (λ k. IsSnapped (of_line 0 whole) k ⊎ IsDue gate (stage (of_line 0 whole)) k) (sym is) (⊎_elim
      (λ (far : 2 * gate ≤ stage (of_line 0 whole)). inl (w.snapped pos far))
      (λ (near : stage (of_line 0 whole) < 2 * gate). inr (refl, let low = (held.1 pos).0 in omega arith))
      (reached (cases_lt (stage (of_line 0 whole)) (2 * gate))));
  unknown = λ l t o. subst (Unknown (of_line 0 whole) (known u (t + 10))) (sym is) (λ a b sa e sb lt. absurd (let z = w.quiet pos a b sa e sb in omega arith));
  over = λ l t o. subst (NotOver whole (known u (t + 10))) (sym is) (λ i y at_i shows. absurd (⊎_elim
      (λ z. let less = w.shut pos i y at_i z.0 z.1 z.2 z.3 in let more = z.4 in omega arith)
      (λ (z : (l : ℕ) × (gate < l) × FindsHeld y l). let later = z.1 in ⊎_elim
      (λ (b : IsSnappedBefore (of_line 0 whole) y.kept.entry.number z.0). let far = opened_stage (of_line 0 whole) b.0 z.0 b.1 b.2 in let high = (held.1 pos).1 in omega arith)
      (λ (b : IsDue gate (stage (of_line 0 whole)) z.0 × IsBelow y.kept.entry.number (of_line 0 whole)). let same = b.0.0 in omega arith)
      (w.pending i y at_i z.2.0 z.0 z.2.1))
      shows));
}
  where
    reached : (stage (of_line 0 whole) < 2 * gate) ⊎ (2 * gate ≤ stage (of_line 0 whole)) → (2 * gate ≤ stage (of_line 0 whole)) ⊎ (stage (of_line 0 whole) < 2 * gate)
    reached (inl a) = inr a
    reached (inr a) = inl a
