-- Line after line. The driver's seat tells a caller all that it knows before the caller's line, and so the line's
-- entries have numbers above all that was made; and it hears of them afterwards. What one line makes is its thread's
-- own, so each caller keeps just its own entries of all that was made; and since a later line's numbers are all
-- greater, numbers rise over all lines where they rise within each caller's.
use Rattle.std.proofs.Common.{◌≡◌, ⊎_elim, ℕ, ◌+◌, ◌<◌, true, false, List, [], ◌∷◌, ◌++◌, length, map, Some, refl, sym, ◌∙◌, ap, subst, arith, append_assoc}
use Rattle.std.specs.Prelude.{Contains, slice_get, slice_set}
use Rattle.std.proofs.lemmas.Bool.{cases_Bool}
use Rattle.std.proofs.lemmas.List.{append-nil, map-append}
use Rattle.std.proofs.lemmas.Option.{slice_get_within}
use Rattle.std.proofs.lemmas.List.Elements.{Contains-append_cases, Contains-append_left, Contains-append_right, All-contains, filter-append}
use mathlib.Core.List.{IsPrefix}
use Rattle.joint_machine.specs.declared.names.Thread.{Thread}
use Rattle.joint_machine.specs.declared.names.Thread.TheVariants.{C}
use Rattle.joint_machine.specs.declared.events.Entry.{Entry}
use Rattle.joint_machine.specs.Components.{Rises}
use Rattle.joint_machine.specs.Control.{caller_place}
use Rattle.joint_machine.specs.HistoryLines.{caller_line}
use Rattle.joint_machine.specs.Lines.{IsManagedThread, IsThread, is_read}
use Rattle.joint_machine.specs.PeerReplay.{is_thread}
use Rattle.joint_machine.proofs.Joining.{same_or_not, slice_get-set_same, slice_get-set_other}
use Rattle.joint_machine.proofs.Members.{All-members, Contains-here, Contains-there, Contains-nil, Contains-cons_cases, Contains-map, Contains-map_cases}
use Rattle.order_table.specs.declared.views.KeptEntry.{KeptEntry}
use Rattle.order_table.specs.declared.views.View.{View}
use Rattle.order_table.specs.Facts.{line_entries}
use Rattle.order_table.specs.Rule.{IsBelow}
use Rattle.order_table.specs.Views.{known}
use Rattle.joint_history.specs.Callers.{Pass, own}
use Rattle.joint_history.specs.Desks.{thread_of}
use Rattle.joint_history.specs.Knowing.{line_known}
use Rattle.joint_history.specs.Operations.{AreAbove}
use Rattle.joint_history.proofs.Desking.{thread_is}
use Rattle.script_laws.specs.Growing.{numbers_of}
use Rattle.script_laws.specs.Holding.{opening_standing, AreOnLine, entries_by}
use Rattle.script_laws.proofs.Growing.{held_lines_grow}
use Rattle.script_laws.proofs.ThreadOrder.{all-by, none-by}
use Rattle.run_laws.proofs.ByThreads.{is-either}
use Rattle.run_laws.specs.Serial.{AllReadBy, CallerAdds, ToldCallersAdd, DriversAdd, AreOthers, NothingIsRun, OthersRunOn, DriverRunsOn}
use Rattle.joint_machine.proofs.HeapLemmas.{same_thread}
use Rattle.order_table.proofs.Lines.{below_front}

-- beginnings of lists
pub prefix-then : {A : Type 0} (xs ys zs : List A) → IsPrefix xs ys → IsPrefix ys zs → IsPrefix xs zs
prefix-then xs ys zs p q = (p.0 ++ q.0, sym (append_assoc xs p.0 q.0) ∙ (ap (λ l. l ++ q.0) p.1 ∙ q.1))

pub prefix-map : {A B : Type 0} (f : A → B) (xs ys : List A) → IsPrefix xs ys → IsPrefix (map f xs) (map f ys)
prefix-map f xs ys p = (map f p.0, sym (map-append f xs p.0) ∙ ap (map f) p.1)

pub prefix-in : {A : Type 0} (xs ys : List A) (x : A) → IsPrefix xs ys → Contains xs x → Contains ys x
prefix-in xs ys x p c = subst (λ l. Contains l x) p.1 (Contains-append_left xs p.0 x c)

-- what is above more is above less
above-less : (old new : View) (es : List Entry) → ((i : ℕ) → IsPrefix (known old i) (known new i)) → AreAbove new es → AreAbove old es
above-less old new [] p a = tt
above-less old new (e ∷ es) p a = (λ i. below_front e.number (known old i) (p i).0 (subst (IsBelow e.number) (sym (p i).1) (a.0 i)), above-less old new es p a.1)

pub told_callers_add : ToldCallersAdd
told_callers_add driver told heard before after ended left es tells hears same makes answered tells' hears' =
    let line = caller_line before.thread in
    let own_left : own left ≡ line_known ended.view (caller_line after.thread) = ap line_entries (tells'.same (caller_line left.thread))
    ∙ ap (λ t. line_known ended.view (caller_line t)) (tells'.thread ∙ same) in
    record {
      more = λ i. subst (λ l. IsPrefix l (known heard.view i)) (tells.same i) (hears'.knew i);
      above = above-less driver.view after.view es hears.heard makes.above;
      own_more = own_left ∙ (makes.own_more ∙ ap (λ l. l ++ es) hears.own_stay);
      heard = subst (λ l. IsPrefix l (line_known heard.view line)) (sym (own_left ∙ ap (λ t. line_known ended.view (caller_line t)) hears.thread))
          (prefix-map (λ (k : KeptEntry). k.entry) (known ended.view line) (known heard.view line) (hears'.heard line));
      reads = λ is e c r.
          let w = answered (subst IsManagedThread (sym hears.thread) is) e c r in
          record {
            alone = w.alone;
            list = w.list;
            begins = prefix-then w.list (line_known ended.view 0) (line_known heard.view 0) w.begins
                (prefix-map (λ (k : KeptEntry). k.entry) (known ended.view 0) (known heard.view 0) (hears'.heard 0));
            has = λ f d st. w.has f (told-in f (caller_line f.made.caller) d) st;
            exact = w.exact;
          };
    }
  where
    -- what the driver knew the caller knows
    told-in : (f : Entry) (i : ℕ) → Contains (line_known driver.view i) f → Contains (line_known after.view i) f
    told-in f i d = prefix-in (line_known driver.view i) (line_known after.view i) f (prefix-map (λ (k : KeptEntry). k.entry) (known driver.view i) (known after.view i) (hears.heard i)) d

pub drivers_add : DriversAdd
drivers_add driver after es is same makes =
    let own_is : own after ≡ line_known after.view (caller_line driver.thread) = ap (λ t. line_known after.view (caller_line t)) same in
    record {
      more = makes.more;
      above = makes.above;
      own_more = own_is ∙ makes.own_more;
      heard = ([], append-nil (own after) ∙ own_is);
      reads = λ m. absurd (subst IsManagedThread is m);
    }

-- an entry that was made is below those that come above all that is known
below-in : (n : ℕ) (ks : List KeptEntry) (e : Entry) → IsBelow n ks → Contains (line_entries ks) e → e.number < n
below-in n [] e b c = absurd (Contains-nil e c)
below-in n (k ∷ ks) e b c = ⊎_elim (λ (q : k.entry ≡ e). subst (λ z. z.number < n) q b.0) (λ d. below-in n ks e b.1 d) (Contains-cons_cases k.entry (line_entries ks) e c)

pub above-in : (v : View) (es : List Entry) (e f : Entry) (i : ℕ) → AreAbove v es → Contains (line_known v i) e → Contains es f → e.number < f.number
above-in v [] e f i a c d = absurd (Contains-nil f d)
above-in v (x ∷ es) e f i a c d = ⊎_elim (λ (q : x ≡ f). subst (λ z. e.number < z.number) q (below-in x.number (known v i) e (a.0 i) c))
    (λ d'. above-in v es e f i a.1 c d') (Contains-cons_cases x es f d)

-- lists that rise, and a list behind one with greater numbers
pub rises-first : (xs ys : List Entry) → Rises (numbers_of (xs ++ ys)) → Rises (numbers_of xs)
rises-first [] ys r = tt
rises-first (x ∷ xs) ys r = (All-members (λ m. x.number < m) (numbers_of xs) (λ m c. All-contains (λ y. x.number < y) (numbers_of (xs ++ ys)) m r.0 (number-left xs ys m c)), rises-first xs ys r.1)
  where
    number-left : (xs ys : List Entry) (m : ℕ) → Contains (numbers_of xs) m → Contains (numbers_of (xs ++ ys)) m
    number-left xs ys m c = let w = Contains-map_cases (λ (e : Entry). e.number) xs m c in
        subst (Contains (numbers_of (xs ++ ys))) w.2 (Contains-map (λ (e : Entry). e.number) (xs ++ ys) w.0 (Contains-append_left xs ys w.0 w.1))

pub rises-last : (xs ys : List Entry) → Rises (numbers_of (xs ++ ys)) → Rises (numbers_of ys)
rises-last [] ys r = r
rises-last (x ∷ xs) ys r = rises-last xs ys r.1

rises-both : (xs ys : List Entry) → Rises (numbers_of xs) → Rises (numbers_of ys) → ((e f : Entry) → Contains xs e → Contains ys f → e.number < f.number) → Rises (numbers_of (xs ++ ys))
rises-both [] ys r q f = q
rises-both (x ∷ xs) ys r q f = (
  All-members (λ m. x.number < m) (numbers_of (xs ++ ys)) (λ m c.
      let w = Contains-map_cases (λ (e : Entry). e.number) (xs ++ ys) m c in
      subst (λ n. x.number < n) w.2 (⊎_elim
      (λ d. All-contains (λ y. x.number < y) (numbers_of xs) w.0.number r.0 (Contains-map (λ (e : Entry). e.number) xs w.0 d))
      (λ d. f x w.0 (Contains-here x xs) d)
      (Contains-append_cases xs ys w.0 w.1))),
  rises-both xs ys r.1 q (λ e g c d. f e g (Contains-there e x xs c) d),
)

-- a list of one thread's entries on one line
by-one : (number : ℕ) (t : Thread) (es : List Entry) (e : Entry) → AreOnLine number t es → Contains es e → e.made.caller ≡ t
by-one number t [] e a c = absurd (Contains-nil e c)
by-one number t (x ∷ es) e a c = ⊎_elim (λ (q : x ≡ e). ap (λ (z : Entry). z.made.caller) (sym q) ∙ a.0.caller) (λ d. by-one number t es e a.1 d) (Contains-cons_cases x es e c)

-- what each thread has of what was made, with a line of one thread more
pub own-with : (number : ℕ) (t : Thread) (made es : List Entry) → AreOnLine number t es → entries_by t (made ++ es) ≡ entries_by t made ++ es
own-with number t made es a = filter-append (λ e. is_thread t e.made.caller) made es ∙ ap (λ l. entries_by t made ++ l) (all-by number t es a)

pub own-without : (number : ℕ) (t u : Thread) (made es : List Entry) → is_thread t u ≡ false → AreOnLine number u es → entries_by t (made ++ es) ≡ entries_by t made
own-without number t u made es other a = filter-append (λ e. is_thread t e.made.caller) made es ∙ (ap (λ l. entries_by t made ++ l) (none-by number t u es other a) ∙ append-nil (entries_by t made))

-- what was read before stays right: what is made now has numbers above all that was known
pub reads-on : (v w : View) (before ns es : List Entry) → IsPrefix (line_known v 0) (line_known w 0)
    → AreAbove v es → AllReadBy v before ns → AllReadBy w (before ++ ns) es → AllReadBy w before (ns ++ es)
reads-on v w before [] es p above q r = subst (λ l. AllReadBy w l es) (append-nil before) r
reads-on v w before (n ∷ ns) es p above q r = (
  λ is m.
      let k = q.0 is m in
      record {
        list = k.list;
        begins = prefix-then k.list (line_known v 0) (line_known w 0) k.begins p;
        has = k.has;
        later = λ f c d. ⊎_elim
            (λ c'. k.later f c' d)
            (λ c'. let l = above-in v es f f 0 above (prefix-in k.list (line_known v 0) f k.begins d) c' in omega (arith, l))
            (Contains-append_cases ns es f c);
        exact = k.exact;
      },
  reads-on v w (before ++ n ∷ []) ns es p above q.1 (subst (λ l. AllReadBy w l es) (sym (append_assoc before (n ∷ []) ns)) r),
)

-- entries among which there is no read of a managed thread
no-reads : (v : View) (before es : List Entry) → ((e : Entry) → Contains es e → is_read e.made.op ≡ true → IsManagedThread e.made.caller → ⊥) → AllReadBy v before es
no-reads v before [] n = tt
no-reads v before (e ∷ es) n = (λ r m. absurd (n e (Contains-here e es) r m), no-reads v (before ++ e ∷ []) es (λ f c. n f (Contains-there f e es c)))

-- one thread's entries more, which are known now
module _ (driver heard : View) (t : Thread) (mine mine' made es : List Entry) (number : ℕ) (a : CallerAdds driver heard t mine mine' es) (on : AreOnLine number t es) where
  pub heard-all : ((e : Entry) → Contains made e → Contains (line_known driver (caller_line e.made.caller)) e)
      → (e : Entry) → Contains (made ++ es) e → Contains (line_known heard (caller_line e.made.caller)) e
  heard-all known_so e c = ⊎_elim
      (λ d. prefix-in (line_known driver (caller_line e.made.caller)) (line_known heard (caller_line e.made.caller)) e
      (prefix-map (λ (k : KeptEntry). k.entry) (known driver (caller_line e.made.caller)) (known heard (caller_line e.made.caller)) (a.more (caller_line e.made.caller))) (known_so e d))
      (λ d. subst (λ u. Contains (line_known heard (caller_line u)) e) (sym (by-one number t es e on d))
      (prefix-in mine' (line_known heard (caller_line t)) e a.heard (subst (λ l. Contains l e) (sym a.own_more) (Contains-append_right mine es e d))))
      (Contains-append_cases made es e c)

  pub all-rise : ((e : Entry) → Contains made e → Contains (line_known driver (caller_line e.made.caller)) e)
      → (((u : Thread) → IsThread u → Rises (numbers_of (entries_by u made))) → Rises (numbers_of made))
      → IsThread t → ((u : Thread) → IsThread u → Rises (numbers_of (entries_by u (made ++ es)))) → Rises (numbers_of (made ++ es))
  all-rise known_so before is each =
      rises-both made es
      (before (λ u its. rises-first (entries_by u made) (entries_by u es) (subst (λ l. Rises (numbers_of l)) (filter-append (λ e. is_thread u e.made.caller) made es) (each u its))))
      (rises-last (entries_by t made) es (subst (λ l. Rises (numbers_of l)) (own-with number t made es on) (each t is)))
      (λ e f c d. above-in driver es e f (caller_line e.made.caller) a.above (known_so e c) d)

  -- a read was made alone
  reads-now : (ns : List Entry) → es ≡ ns → ((e : Entry) → Contains made e → Contains (line_known driver (caller_line e.made.caller)) e) → AllReadBy heard made ns
  reads-now [] e known_so = tt
  reads-now (x ∷ []) e known_so = (
    λ r m.
        let w = a.reads (subst IsManagedThread (by-one number t es x on (there x [] e)) m) x (there x [] e) r in
        record { list = w.list; begins = w.begins; has = λ f c st. w.has f (known_so f c) st; later = λ f c d. Contains-nil f c; exact = w.exact },
    tt,
  )
    where
      there : (y : Entry) (ys : List Entry) → es ≡ y ∷ ys → Contains es y
      there y ys q = subst (λ l. Contains l y) (sym q) (Contains-here y ys)
  reads-now (x ∷ y ∷ ns) e known_so = no-reads heard made (x ∷ y ∷ ns)
      (λ z c r m. let c' = subst (λ l. Contains l z) (sym e) c in let w = a.reads (subst IsManagedThread (by-one number t es z on c') m) z c' r in
      absurd (let n = ap length (sym e ∙ w.alone) in omega (arith, n)))

  pub all-reads : ((e : Entry) → Contains made e → Contains (line_known driver (caller_line e.made.caller)) e) → AllReadBy driver [] made → AllReadBy heard [] (made ++ es)
  all-reads known_so r =
      reads-on driver heard [] made es (prefix-map (λ (k : KeptEntry). k.entry) (known driver 0) (known heard 0) (a.more 0)) a.above r (reads-now es refl known_so)

  pub all-threads : IsThread t → ((e : Entry) → Contains made e → IsThread e.made.caller) → (e : Entry) → Contains (made ++ es) e → IsThread e.made.caller
  all-threads is before e c = ⊎_elim (λ d. before e d) (λ d. subst IsThread (sym (by-one number t es e on d)) is) (Contains-append_cases made es e c)

-- no two places have one thread, and none is the driver's
other-place : (others : List Pass) (i j : ℕ) (p q : Pass) → AreOthers others → slice_get others i ≡ Some p → slice_get others j ≡ Some q → (j ≡ i → ⊥) → is_thread q.thread p.thread ≡ false
other-place others i j p q k at_i at_j differ = ⊎_elim
    (λ (e : is_thread q.thread p.thread ≡ true).
    let l = slice_get_within others i p at_i in let m = slice_get_within others j q at_j in let n = k.count in
    let a = (thread_is (i + 1) (omega (arith, l, n))).1 in
    let b = (thread_is (j + 1) (omega (arith, m, n))).1 in
    let same : thread_of (j + 1) ≡ thread_of (i + 1) = sym (k.each j q at_j) ∙ (same_thread q.thread p.thread e ∙ k.each i p at_i) in
    absurd (differ (let c = sym b ∙ (ap caller_place same ∙ a) in omega (arith, c))))
    (λ e. e)
    (cases_Bool (is_thread q.thread p.thread))

pub not-driver : (others : List Pass) (i : ℕ) (p : Pass) → AreOthers others → slice_get others i ≡ Some p → is_thread C p.thread ≡ false
not-driver others i p k at = ⊎_elim
    (λ (e : is_thread C p.thread ≡ true).
    let l = slice_get_within others i p at in let n = k.count in
    let a = (thread_is (i + 1) (omega (arith, l, n))).1 in
    let same : C ≡ thread_of (i + 1) = same_thread C p.thread e ∙ k.each i p at in
    absurd (let c = ap caller_place same ∙ a in omega (arith, c)))
    (λ e. e)
    (cases_Bool (is_thread C p.thread))

pub is-other : (others : List Pass) (i : ℕ) (p : Pass) → AreOthers others → slice_get others i ≡ Some p → IsThread p.thread
is-other others i p k at = let l = slice_get_within others i p at in let n = k.count in subst IsThread (sym (k.each i p at)) (thread_is (i + 1) (omega (arith, l, n))).0

pub nothing_is_run : NothingIsRun
nothing_is_run driver others is none each = record {
  made = [];
  holds = (refl, refl);
  thread = is;
  driven = none;
  each = each;
  callers = λ e c. absurd (Contains-nil e c);
  heard = λ e c. absurd (Contains-nil e c);
  rises = λ w. tt;
  reads = tt;
}

pub others_run_on : OthersRunOn
others_run_on lines s driver heard others i p q number act es k at same still own_still adds line h = record {
  made = h.made ++ es;
  holds = held_lines_grow opening_standing s lines h.made h.holds (number, (p.thread, act)) es line;
  thread = still ∙ h.thread;
  driven = own_still ∙ (h.driven ∙ sym (own-without number C p.thread h.made es (not-driver others i p k at) line.places));
  each = λ j r there. ⊎_elim
      (λ (e : j ≡ i).
      let l = slice_get_within others i p at in
      let is : q ≡ r = some-same q r (sym (slice_get-set_same others i q l) ∙ subst (λ z. slice_get (slice_set others i q) z ≡ Some r) e there) in
      subst (λ z. own z ≡ entries_by z.thread (h.made ++ es)) is
      (adds.own_more ∙ (ap (λ l. l ++ es) (h.each i p at) ∙ (sym (own-with number p.thread h.made es line.places) ∙ ap (λ t. entries_by t (h.made ++ es)) (sym same)))))
      (λ ne.
      let old = sym (slice_get-set_other others i j q ne) ∙ there in
      h.each j r old ∙ sym (own-without number r.thread p.thread h.made es (other-place others i j p r k at old ne) line.places))
      (same_or_not j i);
  callers = all-threads driver.view heard.view p.thread (own p) (own q) h.made es number adds line.places (is-other others i p k at) h.callers;
  heard = heard-all driver.view heard.view p.thread (own p) (own q) h.made es number adds line.places h.heard;
  rises = all-rise driver.view heard.view p.thread (own p) (own q) h.made es number adds line.places h.heard h.rises (is-other others i p k at);
  reads = all-reads driver.view heard.view p.thread (own p) (own q) h.made es number adds line.places h.heard h.reads;
}
  where
    some-same : {A : Type 0} (x y : A) → Some x ≡ Some y → x ≡ y
    some-same x y e = cc

pub driver_runs_on : DriverRunsOn
driver_runs_on lines s driver after others number act es k same adds line h = record {
  made = h.made ++ es;
  holds = held_lines_grow opening_standing s lines h.made h.holds (number, (C, act)) es line;
  thread = same ∙ h.thread;
  driven = adds.own_more ∙ (ap (λ l. l ++ es) h.driven ∙ sym (own-with number C h.made es line.places));
  each = λ j r there. h.each j r there ∙ sym (own-without number r.thread C h.made es (is-either r.thread C ∙ not-driver others j r k there) line.places);
  callers = all-threads driver.view after.view C (own driver) (own after) h.made es number adds line.places tt h.callers;
  heard = heard-all driver.view after.view C (own driver) (own after) h.made es number adds line.places h.heard;
  rises = all-rise driver.view after.view C (own driver) (own after) h.made es number adds line.places h.heard h.rises tt;
  reads = all-reads driver.view after.view C (own driver) (own after) h.made es number adds line.places h.heard h.reads;
}
