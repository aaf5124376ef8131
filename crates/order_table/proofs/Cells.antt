-- The words of the cells, what is owed of them, and what was loaded.
use Rattle.std.proofs.Common.{◌≡◌, ◌⊎◌, inl, inr, ⊎_elim, ℕ, zero, suc, ◌+◌, ◌<◌, ◌≤◌, Bool, true, false, not, ◌||◌, List, [], ◌∷◌, ◌++◌, length, refl, sym, ap, ◌∙◌, subst, arith, true≢false}
use Rattle.std.proofs.Common.{length-append, Option, Some, None, eq-eqb, ne_eqb}
use Rattle.std.specs.Prelude.{if◌then◌else◌, ◌==◌, slice_index}
use Rattle.std.proofs.lemmas.Bool.{cases_Bool, cases_lt, both_ways, cases_eq, eqb-true, and_parts, or_cases, not-true}
use Rattle.joint_machine.specs.declared.names.MNum.{MNum}
use mathlib.Core.Option.{some}
use mathlib.Core.List.{IsPrefix}
use lib.ListN.{get_elem?}
use Rattle.atomic_table.proofs.Lists.{at_longer}
use Rattle.order_table.specs.declared.views.KeptEntry.{KeptEntry}
use Rattle.order_table.specs.declared.views.View.{View}
use Rattle.order_table.specs.Rows.{at, put}
use Rattle.order_table.specs.Owed.{IsNumber, word_by, marked, target, has, is_freed, says_word, sets_cell, frees_target, owes_after, by_place, IsLoaded}
use Rattle.order_table.specs.Views.{none_owed_in, storing, known, Owns, appended, spent_view, giving, given, hearing, learned}
use Rattle.order_table.specs.Allowed.{OwesOnly, NoDebt}
use Rattle.order_table.specs.Stages.{deed, opens}
use Rattle.order_table.specs.Rule.{IsBelow, Stands, SetsCell, ReadsWord, IsFresh, IsStale, CellIs, Debts, EachLoad, Celled}
use Rattle.order_table.proofs.Free.{Free}
use Rattle.order_table.proofs.Places.{at_put_here, at_put_else, length_begins, longer_cases, at_longest, at_joined, at_common, at_without}
use Rattle.order_table.proofs.Waits.{stands_cases, stands_below}
use Rattle.order_table.proofs.Gate.{if_true, if_false}
use Rattle.order_table.proofs.Says.{at_by_place, at_row_past, none_not, some_is, target_cases, target_kept, target_aimed, target_set, freed_more, says_none, says_gone, says_object}

or_right : (b c : Bool) → c ≡ true → (b || c) ≡ true
or_right true c e = refl
or_right false c e = e

both_false : (b c : Bool) → b ≡ false → c ≡ false → (b || c) ≡ false
both_false b c e f = ap (λ z. z || c) e ∙ f

-- what a word says to a caller stays right when a managed entry comes that frees nothing
pub reads_more : (ml own : List KeptEntry) (k : KeptEntry) (n c w : ℕ) → k.entry.number ≡ n → IsBelow n ml
    → IsBelow n own → ((d m : ℕ) → marked k ≡ Some (d, m) → (target ml d ≡ None) × (is_freed ml m ≡ false))
    → ((x : ℕ) → has k.freed x ≡ false) → ((j : ℕ) → deed k.entry.made.op ≡ opens j → ⊥) → ReadsWord ml own c w → ReadsWord (ml ++ k ∷ []) own c w
reads_more ml own k n c w is below own_below sets frees unopened r =
    let not_set : (m : ℕ) → target ml c ≡ Some m → (x : ℕ) → marked k ≡ Some (c, x) → ⊥ = λ m e x f. none_not m (sym (sets c x f).0 ∙ e) in
    let freed_is : (m : ℕ) → is_freed (ml ++ k ∷ []) m ≡ is_freed ml m = λ m. freed_more ml k m ∙ (ap (λ b. is_freed ml m || b) (frees m) ∙ or_false (is_freed ml m)) in
    record {
      unknown = λ z a b sa e sb lt. ⊎_elim
          (λ (tb : Stands ml b). ⊎_elim
          (λ (ta : Stands ml a). r.unknown z a b ta e tb lt)
          (λ (same : k ≡ a). let l = stands_below n ml b below tb in let m : a.entry.number ≡ n = ap (λ (y : KeptEntry). y.entry.number) (sym same) ∙ is in absurd (omega arith))
          (stands_cases ml k a sa))
          (λ (same : k ≡ b). subst (λ m. IsBelow m own) (sym is ∙ ap (λ (y : KeptEntry). y.entry.number) same) own_below)
          (stands_cases ml k b sb);
      unsnapped = λ z a b j sa e sb lt d. ⊎_elim
          (λ (tb : Stands ml b). ⊎_elim
          (λ (ta : Stands ml a). r.unsnapped z a b j ta e tb lt d)
          (λ (same : k ≡ a). let l = stands_below n ml b below tb in let m : a.entry.number ≡ n = ap (λ (y : KeptEntry). y.entry.number) (sym same) ∙ is in absurd (omega arith))
          (stands_cases ml k a sa))
          (λ (same : k ≡ b). unopened j (ap (λ (y : KeptEntry). deed y.entry.made.op) same ∙ d))
          (stands_cases ml k b sb);
      not_own = r.not_own;
      alive = λ z m e. ⊎_elim
          (λ t. freed_is m ∙ r.alive z m t)
          (λ t. freed_is m ∙ (sets c m t).1)
          (target_cases c m ml k e);
      gone = λ z. let t = r.gone z in (t.0, target_kept c ml k (not_set t.0 t.1) ∙ t.1, freed_is t.0 ∙ t.2);
      object = λ m pos z. let t = r.object m pos z in (target_kept c ml k (not_set m t.0) ∙ t.0, freed_is m ∙ t.1);
    }
  where
    or_false : (b : Bool) → (b || false) ≡ b
    or_false true = refl
    or_false false = refl

-- a cell's word after a managed entry of an owner that owed nothing
pub cell_after : (ml : List KeptEntry) (k : KeptEntry) (gate c w : ℕ) → IsBelow k.entry.number ml → w ≡ says_word ml c
    → ((d m : ℕ) → marked k ≡ Some (d, m) → (target ml d ≡ None) × (is_freed ml m ≡ false) × ((x : ℕ) → has k.freed x ≡ false)) → ((m : ℕ) → has k.freed m ≡ true → 0 < gate)
    → CellIs (ml ++ k ∷ []) gate (owes_after ml k c) c w
cell_after ml k gate c w below is sets frees = by_mark (marked k) refl
  where
    -- the entry doesn't set this cell
    unset_here : ((m : ℕ) → marked k ≡ Some (c, m) → ⊥) → CellIs (ml ++ k ∷ []) gate (owes_after ml k c) c w
    unset_here other = by_target (target ml c) refl
      where
        by_target : (o : Option ℕ) → target ml c ≡ o → CellIs (ml ++ k ∷ []) gate (owes_after ml k c) c w
        by_target None e = inl (is ∙ (says_none c ml e ∙ sym (says_none c (ml ++ k ∷ []) (target_kept c ml k other ∙ e))))
        by_target (Some m) e = let aims = target_kept c ml k other ∙ e in ⊎_elim
            (λ (f : is_freed ml m ≡ true). inl (is ∙ (says_gone c m ml e f ∙ sym (says_gone c m (ml ++ k ∷ []) aims (freed_more ml k m ∙ ap (λ b. b || has k.freed m) f)))))
            (λ (f : is_freed ml m ≡ false). ⊎_elim
            (λ (h : has k.freed m ≡ true). inr (
              or_right (sets_cell (marked k) c) (frees_target (target ml c) k.freed) (ap (λ o. frees_target o k.freed) e ∙ h),
              inr record { object = m; aims = aims; freed = freed_more ml k m ∙ or_right (is_freed ml m) (has k.freed m) h; held = frees m h; word = is ∙ says_object c m ml e f },
            ))
            (λ (h : has k.freed m ≡ false). inl (is ∙ (says_object c m ml e f ∙ sym (says_object c m (ml ++ k ∷ []) aims (freed_more ml k m ∙ both_false (is_freed ml m) (has k.freed m) f h)))))
            (cases_Bool (has k.freed m)))
            (cases_Bool (is_freed ml m))

    by_mark : (o : Option (ℕ × ℕ)) → marked k ≡ o → CellIs (ml ++ k ∷ []) gate (owes_after ml k c) c w
    by_mark None e = unset_here (λ m f. none_not (c, m) (sym e ∙ f))
    by_mark (Some p) e = ⊎_elim
        (λ (b : (p.0 == c) ≡ true). let here : marked k ≡ Some (c, p.1) = e ∙ ap (λ (z : ℕ). Some (z, p.1)) (eqb-true p.0 c b) in let t = sets c p.1 here in
        inr (
          ap (λ o. sets_cell o c || frees_target (target ml c) k.freed) e ∙ ap (λ z. z || frees_target (target ml c) k.freed) b,
          inl record {
            init = ml;
            last = k;
            object = p.1;
            whole = refl;
            sets = here;
            below = below;
            unset = t.0;
            alive = freed_more ml k p.1 ∙ both_false (is_freed ml p.1) (has k.freed p.1) t.1 (t.2 p.1);
            word = is ∙ says_none c ml t.0;
          },
        ))
        (λ (b : (p.0 == c) ≡ false). unset_here (λ m f. both_ways (p.0 == c) b (eq-eqb p.0 c (ap (λ (z : ℕ × ℕ). z.0) (some_is (0, 0) p (c, m) (sym e ∙ f))))))
        (cases_Bool (p.0 == c))

-- a beginning that is shorter begins what stands before the last
begins_init : {A : Type 0} (xs ys : List A) (z : A) → IsPrefix xs (ys ++ z ∷ []) → length xs < length (ys ++ z ∷ []) → IsPrefix xs ys
begins_init [] ys z p l = (ys, refl)
begins_init (x ∷ xs) [] z p l = absurd (omega arith)
begins_init (x ∷ xs) (y ∷ ys) z p l = let r = begins_init xs ys z (p.0, cc) (omega arith) in let same : x ≡ y = cc in (r.0, λ i. same i ∷ r.1 i)

pub stands_begins : (ks ls : List KeptEntry) (y : KeptEntry) → IsPrefix ks ls → Stands ks y → Stands ls y
stands_begins ks ls y p s = (s.0, subst (λ l. get_elem? l s.0 ≡ some y) p.1 (at_longer ks p.0 s.0 y s.1))

-- what is loaded by a seat that is inside and owes nothing
pub loaded_word : (ml own kn : List KeptEntry) (gate c w : ℕ) (owed : Bool) → gate ≡ 0 → CellIs ml gate owed c w
    → ((m : ℕ) → target ml c ≡ Some m → 0 < m) → IsPrefix kn ml → (owed ≡ true → length kn < length ml)
    → ((y : KeptEntry) → Stands own y → SetsCell y c → Stands kn y) → ReadsWord ml own c w
loaded_word ml own kn gate c w owed is_open cell real begins secret mine = ⊎_elim settled (λ t. ⊎_elim (fresh t.0) stale t.1) cell
  where
    stale : IsStale ml gate c w → ReadsWord ml own c w
    stale s = absurd (let h = s.held in omega arith)

    fresh : owed ≡ true → IsFresh ml c w → ReadsWord ml own c w
    fresh o f = let in_init : (y : KeptEntry) → Stands f.init y → SetsCell y c → ⊥ = λ y s e. let t = target_set c f.init y s e in none_not t.0 (sym f.unset ∙ t.1) in
        let shorter : length kn < length (f.init ++ f.last ∷ []) = subst (λ l. length kn < length l) f.whole (secret o) in
        let begins' = begins_init kn f.init f.last (subst (IsPrefix kn) f.whole begins) shorter in
        let zero_word = f.word in
        let none_later : (a b : KeptEntry) → Stands ml a → SetsCell a c → Stands ml b → a.entry.number < b.entry.number → ⊥ = λ a b sa e sb lt. ⊎_elim
        (λ (ta : Stands f.init a). in_init a ta e)
        (λ (same : f.last ≡ a). ⊎_elim
        (λ (tb : Stands f.init b). let l = stands_below f.last.entry.number f.init b f.below tb in
        let m : f.last.entry.number ≡ a.entry.number = ap (λ (y : KeptEntry). y.entry.number) same in omega arith)
        (λ (same' : f.last ≡ b). let m : a.entry.number ≡ b.entry.number = ap (λ (y : KeptEntry). y.entry.number) (sym same ∙ same') in omega arith)
        (stands_cases f.init f.last b (subst (λ l. Stands l b) f.whole sb)))
        (stands_cases f.init f.last a (subst (λ l. Stands l a) f.whole sa)) in
        record {
          unknown = λ z a b sa e sb lt. absurd (none_later a b sa e sb lt);
          unsnapped = λ z a b j sa e sb lt d. none_later a b sa e sb lt;
          not_own = λ z y s e. in_init y (stands_begins kn f.init y begins' (mine y s e)) e;
          alive = λ z m e. subst (λ x. is_freed ml x ≡ false) (some_is 0 f.object m (sym (ap (λ l. target l c) f.whole ∙ target_aimed c f.object f.init f.last f.sets) ∙ e)) f.alive;
          gone = λ z. absurd (omega arith);
          object = λ m pos z. absurd (omega arith);
        }

    settled : w ≡ says_word ml c → ReadsWord ml own c w
    settled is = by_target (target ml c) refl
      where
        by_target : (o : Option ℕ) → target ml c ≡ o → ReadsWord ml own c w
        by_target None e = let z' = says_none c ml e in record {
          unknown = λ z a b sa f sb lt. let t = target_set c ml a sa f in absurd (none_not t.0 (sym e ∙ t.1));
          unsnapped = λ z a b j sa f sb lt d. let t = target_set c ml a sa f in none_not t.0 (sym e ∙ t.1);
          not_own = λ z y s f. let t = target_set c ml y (stands_begins kn ml y begins (mine y s f)) f in none_not t.0 (sym e ∙ t.1);
          alive = λ z m f. absurd (none_not m (sym e ∙ f));
          gone = λ z. absurd (omega arith);
          object = λ m pos z. absurd (omega arith);
        }
        by_target (Some m) e = let pos = real m e in ⊎_elim
            (λ (f : is_freed ml m ≡ true). let one = says_gone c m ml e f in record {
              unknown = λ z. absurd (omega arith);
              unsnapped = λ z. absurd (omega arith);
              not_own = λ z. absurd (omega arith);
              alive = λ z. absurd (omega arith);
              gone = λ z. (m, e, f);
              object = λ x pos' z. absurd (omega arith);
            })
            (λ (f : is_freed ml m ≡ false). let more = says_object c m ml e f in record {
              unknown = λ z. absurd (omega arith);
              unsnapped = λ z. absurd (omega arith);
              not_own = λ z. absurd (omega arith);
              alive = λ z. absurd (omega arith);
              gone = λ z. absurd (omega arith);
              object = λ x pos' z. let same : m ≡ x = omega arith in (e ∙ ap (λ y. Some y) same, subst (λ y. is_freed ml y ≡ false) same f);
            })
            (cases_Bool (is_freed ml m))

-- loads of another seat stay right
pub loads_more : (ml : List KeptEntry) (k : KeptEntry) (n : ℕ) (u : View) (ls : List (ℕ × ℕ)) → k.entry.number ≡ n → IsBelow n ml
    → ((i : ℕ) → IsBelow n (known u i)) → ((d m : ℕ) → marked k ≡ Some (d, m) → (target ml d ≡ None) × (is_freed ml m ≡ false))
    → ((x : ℕ) → has k.freed x ≡ false) → ((j : ℕ) → deed k.entry.made.op ≡ opens j → ⊥) → EachLoad ml u ls → EachLoad (ml ++ k ∷ []) u ls
loads_more ml k n u [] is below own sets frees unopened e = tt
loads_more ml k n u (l ∷ ls) is below own sets frees unopened e = (
  (λ t o. reads_more ml (known u (t + 10)) k n l.0 l.1 is below (own (t + 10)) sets frees unopened (e.0 t o)),
  loads_more ml k n u ls is below own sets frees unopened e.1,
)

pub load_there : (ml : List KeptEntry) (v : View) (ls : List (ℕ × ℕ)) (c w : ℕ) → EachLoad ml v ls → IsLoaded ls c w → (t : ℕ) → Owns v (t + 10) → ReadsWord ml (known v (t + 10)) c w
load_there ml v [] c w e i t o = absurd i
load_there ml v (l ∷ ls) c w e i t o = ⊎_elim
    (λ (z : (l.0 ≡ c) × (l.1 ≡ w)). subst (λ (p : ℕ × ℕ). ReadsWord ml (known v (t + 10)) p.0 p.1) (λ j. (z.0 j, z.1 j)) (e.0 t o))
    (λ z. load_there ml v ls c w e.1 z t o) i

-- no word is owed where the owner owes none
pub none_owed : (ml : List KeptEntry) (debt : ℕ → Bool) (v : View) → Debts ml debt v → Owns v 0 → NoDebt v → (c : ℕ) → debt c ≡ false
none_owed ml debt v d o paid c = sym (d.owner o c) ∙ paid c

pub settled_cell : (ml : List KeptEntry) (gate : ℕ) (owed : Bool) (c w : ℕ) → owed ≡ false → CellIs ml gate owed c w → w ≡ says_word ml c
settled_cell ml gate owed c w no_debt cell = ⊎_elim (λ e. e) (λ t. absurd (both_ways owed no_debt t.0)) cell

-- who owns no managed list, in a longer one
pub debts_more : (ml : List KeptEntry) (k : KeptEntry) (debt debt' : ℕ → Bool) (u : View) → Debts ml debt u → (Owns u 0 → ⊥)
    → (at false u.heard_owns 0 ≡ true → ⊥) → IsPrefix (known u 0) ml → IsPrefix (at [] u.heard 0) ml → Debts (ml ++ k ∷ []) debt' u
debts_more ml k debt debt' u d stranger heard_stranger begins heard = record {
  owner = λ o. absurd (stranger o);
  heard_owner = λ o. absurd (heard_stranger o);
  secret = λ c o z. let a = length_begins (known u 0) ml begins in let b : length (ml ++ k ∷ []) ≡ length ml + 1 = length-append ml (k ∷ []) in omega arith;
  heard_secret = λ c o z. let a = length_begins (at [] u.heard 0) ml heard in let b : length (ml ++ k ∷ []) ≡ length ml + 1 = length-append ml (k ∷ []) in omega arith;
  mine = d.mine;
  heard_mine = d.heard_mine;
}

-- what splits and joins do
pub debts_giving : (ml : List KeptEntry) (debt : ℕ → Bool) (v : View) (lines : List Bool) → Debts ml debt v → Free v → Debts ml debt (giving lines v)
debts_giving ml debt v lines d s = record {
  owner = λ o. d.owner (and_parts (at false v.owns 0) (not (at false lines 0)) (sym (at_without v.owns lines 0) ∙ o)).0;
  heard_owner = d.heard_owner;
  secret = λ c o z. ⊎_elim (λ a. absurd (both_ways (debt c) (none_owed ml debt v d a s.paid c) o)) (λ a. d.secret c o a) (cases_Bool (at false v.owns 0));
  heard_secret = d.heard_secret;
  mine = λ t o. d.mine t (and_parts (at false v.owns (t + 10)) (not (at false lines (t + 10))) (sym (at_without v.owns lines (t + 10)) ∙ o)).0;
  heard_mine = d.heard_mine;
}

pub debts_given : (ml : List KeptEntry) (debt : ℕ → Bool) (v : View) (lines : List Bool) → Debts ml debt v → Free v → Debts ml debt (given lines v)
debts_given ml debt v lines d s = record {
  owner = λ o. d.owner (and_parts (at false v.owns 0) (at false lines 0) (sym (at_common v.owns lines 0) ∙ o)).0;
  heard_owner = d.heard_owner;
  secret = λ c o z. ⊎_elim (λ a. absurd (both_ways (debt c) (none_owed ml debt v d a s.paid c) o)) (λ a. d.secret c o a) (cases_Bool (at false v.owns 0));
  heard_secret = d.heard_secret;
  mine = λ t o. d.mine t (and_parts (at false v.owns (t + 10)) (at false lines (t + 10)) (sym (at_common v.owns lines (t + 10)) ∙ o)).0;
  heard_mine = d.heard_mine;
}

pub debts_spent : (ml : List KeptEntry) (debt : ℕ → Bool) → ((c : ℕ) → debt c ≡ true → 0 < length ml) → Debts ml debt spent_view
debts_spent ml debt some_there = record {
  owner = λ o. absurd (true≢false (sym o));
  heard_owner = λ o. absurd (true≢false (sym o));
  secret = λ c o z. some_there c o;
  heard_secret = λ c o z. some_there c o;
  mine = λ t o. absurd (true≢false (sym o));
  heard_mine = λ t o. absurd (true≢false (sym o));
}

pub debts_hearing : (ml : List KeptEntry) (debt : ℕ → Bool) (v w : View) → Debts ml debt v → Debts ml debt w → Free v → Free w → Debts ml debt (hearing v w)
debts_hearing ml debt v w d e s t = record {
  owner = d.owner;
  heard_owner = λ o c. s.paid c ∙ sym (none_owed ml debt w e o t.paid c);
  secret = d.secret;
  heard_secret = e.secret;
  mine = d.mine;
  heard_mine = e.mine;
}

pub debts_learned : (ml : List KeptEntry) (debt : ℕ → Bool) (v : View) → ((c : ℕ) → debt c ≡ true → 0 < length ml) → Debts ml debt v
    → ((i : ℕ) → Owns v i → known (learned v) i ≡ known v i) → ((i : ℕ) → at false v.heard_owns i ≡ true → known (learned v) i ≡ at [] v.heard i)
    → IsPrefix (known v 0) (known (learned v) 0) → IsPrefix (at [] v.heard 0) (known (learned v) 0) → Debts ml debt (learned v)
debts_learned ml debt v some_there d owned taken knew heard = record {
  owner = λ o. ⊎_elim d.owner d.heard_owner (or_cases (at false v.owns 0) (at false v.heard_owns 0) (sym (at_joined v.owns v.heard_owns 0) ∙ o));
  heard_owner = λ o. absurd (true≢false (sym o));
  secret = λ c o z. let parts = neither_one (at false v.owns 0) (at false v.heard_owns 0) (sym (at_joined v.owns v.heard_owns 0) ∙ z) in
      subst (λ ks. length ks < length ml) (sym (at_longest v.known v.heard 0))
      (⊎_elim (λ t. subst (λ ks. length ks < length ml) (sym t.0) (d.heard_secret c o parts.1))
      (λ t. subst (λ ks. length ks < length ml) (sym t.0) (d.secret c o parts.0)) (longer_cases (known v 0) (at [] v.heard 0)));
  heard_secret = λ c o z. some_there c o;
  mine = λ t o y s c e. ⊎_elim
      (λ a. stands_begins (known v 0) (known (learned v) 0) y knew (d.mine t a y (subst (λ ks. Stands ks y) (owned (t + 10) a) s) c e))
      (λ a. stands_begins (at [] v.heard 0) (known (learned v) 0) y heard (d.heard_mine t a y (subst (λ ks. Stands ks y) (taken (t + 10) a) s) c e))
      (or_cases (at false v.owns (t + 10)) (at false v.heard_owns (t + 10)) (sym (at_joined v.owns v.heard_owns (t + 10)) ∙ o));
  heard_mine = λ t o. absurd (true≢false (sym o));
}
  where
    neither_one : (b c : Bool) → (b || c) ≡ false → (b ≡ false) × (c ≡ false)
    neither_one true c e = absurd (true≢false e)
    neither_one false c e = (refl, e)

-- only the views change, and the words of the cells are the same
pub celled_bounded : (ml : List KeptEntry) (gate gate' : ℕ) (words words' : List ℕ) (vs ws : List View) (r : Celled ml gate words vs)
    → ((c : ℕ) → c < 64 → slice_index words' (2 + c) ≡ slice_index words (2 + c))
    → ((c : ℕ) → r.debt c ≡ true → 0 < gate → 0 < gate')
    → ((j : ℕ) (v : View) → get_elem? ws j ≡ some v → Debts ml r.debt v) → ((j : ℕ) (v : View) → get_elem? ws j ≡ some v → 0 < v.inside → EachLoad ml v v.loads) → Celled ml gate' words' ws
celled_bounded ml gate gate' words words' vs ws r same held debts loads = record {
  debt = r.debt;
  nonempty = r.nonempty;
  cells = λ c l. subst (CellIs ml gate' (r.debt c) c) (sym (same c l)) (⊎_elim (λ e. inl e)
      (λ (t : (r.debt c ≡ true) × (IsFresh ml c (slice_index words (2 + c)) ⊎ IsStale ml gate c (slice_index words (2 + c)))). inr (
        t.0,
        ⊎_elim (λ f. inl f)
            (λ (z : IsStale ml gate c (slice_index words (2 + c))). inr record { object = z.object; aims = z.aims; freed = z.freed; held = held c t.0 z.held; word = z.word }) t.1,
      )) (r.cells c l));
  real = r.real;
  each_debt = debts;
  each_load = loads;
}

pub celled_same : (ml : List KeptEntry) (gate gate' : ℕ) (words words' : List ℕ) (vs ws : List View) (r : Celled ml gate words vs) → ((c : ℕ) → slice_index words' (2 + c) ≡ slice_index words (2 + c))
    → ((c : ℕ) → r.debt c ≡ true → 0 < gate → 0 < gate')
    → ((j : ℕ) (v : View) → get_elem? ws j ≡ some v → Debts ml r.debt v) → ((j : ℕ) (v : View) → get_elem? ws j ≡ some v → 0 < v.inside → EachLoad ml v v.loads) → Celled ml gate' words' ws
celled_same ml gate gate' words words' vs ws r same held debts loads = celled_bounded ml gate gate' words words' vs ws r (λ c _. same c) held debts loads

pub no_debt_in : (ds : List Bool) → none_owed_in ds ≡ true → (c : ℕ) → at false ds c ≡ false
no_debt_in [] e c = refl
no_debt_in (d ∷ ds) e zero = not-true d (and_parts (not d) (none_owed_in ds) e).0
no_debt_in (d ∷ ds) e (suc c) = no_debt_in ds (and_parts (not d) (none_owed_in ds) e).1 c

-- a word 0 isn't found by who knows the cell as set, and owes nothing
pub known_unset : (ml kn : List KeptEntry) (gate c w : ℕ) (owed : Bool) → CellIs ml gate owed c w → ((m : ℕ) → target ml c ≡ Some m → 0 < m)
    → IsPrefix kn ml → (owed ≡ true → length kn < length ml) → w ≡ 0 → (y : KeptEntry) → Stands kn y → SetsCell y c → ⊥
known_unset ml kn gate c w owed cell real begins secret z y s e = ⊎_elim
    (λ is. let t = target_set c ml y (stands_begins kn ml y begins s) e in ⊎_elim
    (λ f. let one = says_gone c t.0 ml t.1 f in omega arith)
    (λ f. let more = says_object c t.0 ml t.1 f in omega arith) (cases_Bool (is_freed ml t.0)))
    (λ t. ⊎_elim
    (λ (f : IsFresh ml c w). let begins' = begins_init kn f.init f.last (subst (IsPrefix kn) f.whole begins) (subst (λ l. length kn < length l) f.whole (secret t.0)) in
    let u = target_set c f.init y (stands_begins kn f.init y begins' s) e in none_not u.0 (sym f.unset ∙ u.1))
    (λ (f : IsStale ml gate c w). let word = f.word in omega arith) t.1)
    cell

-- an entry that sets no cell and frees nothing leaves nothing owed
pub paid_more : (v : View) (r : ℕ) (k : KeptEntry) → marked k ≡ None → k.freed ≡ [] → NoDebt v → NoDebt (appended v r k)
paid_more v r k unmarked frees paid c = ⊎_elim
    (λ (e : (r == 0) ≡ true). ap (λ d. at false d c) (if_true (r == 0) (by_place 64 (owes_after (known v 0) k)) v.debts e) ∙ ⊎_elim
    (λ (l : c < 64). at_by_place 64 (owes_after (known v 0) k) c l
    ∙ (ap (λ o. sets_cell o c || frees_target (target (known v 0) c) k.freed) unmarked ∙ (ap (frees_target (target (known v 0) c)) frees ∙ no_target (target (known v 0) c))))
    (λ (l : 64 ≤ c). at_row_past 64 (owes_after (known v 0) k) c l) (cases_lt c 64))
    (λ (e : (r == 0) ≡ false). ap (λ d. at false d c) (if_false (r == 0) (by_place 64 (owes_after (known v 0) k)) v.debts e) ∙ paid c)
    (cases_Bool (r == 0))
  where
    no_target : (o : Option ℕ) → frees_target o [] ≡ false
    no_target None = refl
    no_target (Some m) = refl

-- an entry that sets a cell, and frees nothing, leaves that cell's word owed alone
pub owes_one : (v : View) (r : ℕ) (k : KeptEntry) (c m : ℕ) → r ≡ 0 → marked k ≡ Some (c, m) → k.freed ≡ [] → OwesOnly (appended v r k) c
owes_one v r k c m first marks frees i other = ap (λ d. at false d i) (if_true (r == 0) (by_place 64 (owes_after (known v 0) k)) v.debts (eq-eqb r 0 first)) ∙ ⊎_elim
    (λ (l : i < 64). at_by_place 64 (owes_after (known v 0) k) i l ∙ (ap (λ (z : Option (ℕ × ℕ) × List MNum). sets_cell z.0 i || frees_target (target (known v 0) i) z.1) (λ j. (marks j, frees j))
    ∙ (ap (λ b. b || frees_target (target (known v 0) i) []) (ne_eqb c i (λ e. other (sym e))) ∙ none_freed (target (known v 0) i))))
    (λ (l : 64 ≤ i). at_row_past 64 (owes_after (known v 0) k) i l)
    (cases_lt i 64)
  where
    none_freed : (o : Option ℕ) → frees_target o [] ≡ false
    none_freed None = refl
    none_freed (Some x) = refl

pub pays_last : (v : View) (c : ℕ) → OwesOnly v c → NoDebt (storing c v)
pays_last v c only i = ⊎_elim (λ (e : i ≡ c). subst (λ k. at false (put false v.debts c false) k ≡ false) (sym e) (at_put_here false v.debts c false))
    (λ other. at_put_else false v.debts c i false other ∙ only i other) (cases_eq i c)

-- the cells whose words are owed after a managed entry
pub owes_more : (v : View) (r : ℕ) (k : KeptEntry) (c : ℕ) → r ≡ 0 → at false (appended v r k).debts c ≡ true → (c < 64) × (owes_after (known v 0) k c ≡ true)
owes_more v r k c first o = let row : at false (by_place 64 (owes_after (known v 0) k)) c ≡ true = ap (λ d. at false d c)
    (sym (if_true (r == 0) (by_place 64 (owes_after (known v 0) k)) v.debts (eq-eqb r 0 first))) ∙ o in ⊎_elim
    (λ (l : c < 64). (l, sym (at_by_place 64 (owes_after (known v 0) k) c l) ∙ row))
    (λ (l : 64 ≤ c). absurd (both_ways (at false (by_place 64 (owes_after (known v 0) k)) c) (at_row_past 64 (owes_after (known v 0) k) c l) row)) (cases_lt c 64)

-- a cell's word has room for an object's number and 1
pub cell_small : (ml : List KeptEntry) (gate c w : ℕ) (owed : Bool) → CellIs ml gate owed c w → ((m : ℕ) → target ml c ≡ Some m → IsNumber m) → w ≤ 4294967296
cell_small ml gate c w owed cell real = ⊎_elim
    (λ (is : w ≡ says_word ml c). let small = said (target ml c) refl in omega arith)
    (λ t. ⊎_elim (λ f. let z = f.word in omega arith) (λ f. let z = f.word in let small = (real f.object f.aims).1 in omega arith) t.1) cell
  where
    either_way : (b : Bool) (m : ℕ) → m < 4294967296 → (if b then 1 else m + 1) ≤ 4294967296
    either_way true m l = omega arith
    either_way false m l = omega arith

    said : (o : Option ℕ) → target ml c ≡ o → says_word ml c ≤ 4294967296
    said None e = let z : says_word ml c ≡ 0 = ap (λ x. word_by x (is_freed ml)) e in omega arith
    said (Some m) e = subst (λ z. z ≤ 4294967296) (sym (ap (λ x. word_by x (is_freed ml)) e)) (either_way (is_freed ml m) m (real m e).1)
