-- Once all threads have ended the driver hears of what each of the others has made, and its cycle stands behind all
-- that; so what `finish` answers is the history of the script's run with one cycle more.
use Rattle.std.proofs.Common.{◌≡◌, ⊎_elim, ℕ, zero, suc, ◌+◌, ◌<◌, ◌^◌, ◌≤◌, List, [], ◌∷◌, ◌++◌, length, Some, Result, Ok, Err, refl, sym, ◌∙◌, ap, subst, arith, length-append}
use Rattle.std.specs.Prelude.{All, Contains, IfOk, drop, slice_get, slice_index_or, slice_set, take}
use Rattle.std.proofs.lemmas.List.{append-nil, length-set}
use Rattle.std.proofs.lemmas.List.Elements.{All-contains, All-push, Contains-append_cases}
use Rattle.std.proofs.lemmas.Option.{slice_get_within}
use mathlib.Core.List.{IsPrefix}
use Rattle.joint_machine.specs.declared.names.Phase.TheVariants.{Idle}
use Rattle.joint_machine.specs.declared.names.Thread.{Thread}
use Rattle.joint_machine.specs.declared.names.Thread.TheVariants.{C}
use Rattle.joint_machine.specs.declared.lines.Act.{Act}
use Rattle.joint_machine.specs.Histories.{Finished}
use Rattle.joint_machine.specs.HistoryLines.{caller_line}
use Rattle.joint_machine.specs.Lines.{IsDriver, IsThread}
use Rattle.joint_machine.proofs.Joining.{same_or_not, slice_get-set_same, slice_get-set_other}
use Rattle.joint_machine.proofs.Members.{All-members, Contains-at, Contains-here, Contains-there, Contains-nil, Contains-cons_cases, at-Contains}
use Rattle.known_laws.specs.Lists.{made_by}
use Rattle.order_table.specs.declared.views.View.{View}
use Rattle.order_table.specs.declared.views.KeptEntry.{KeptEntry}
use Rattle.order_table.specs.Facts.{line_entries}
use Rattle.order_table.specs.Views.{known}
use Rattle.joint_history.specs.declared.ends.RunEnd.{RunEnd}
use Rattle.joint_history.specs.Callers.{Hears, Pass, Tells, own}
use Rattle.joint_history.specs.Desks.{Waiting}
use Rattle.joint_history.specs.Ending.{HasAll, HasOwn, IsFinished, HasIdleDriver, StillWaits, threads_of}
use Rattle.joint_history.specs.Knowing.{line_known}
use Rattle.bridge_cycle.specs.Progress.{Progress, pass_of}
use Rattle.script_laws.specs.Holding.{Standing, HoldsLines, opening_standing}
use Rattle.run_laws.specs.Final.{IsRunInOrder}
use Rattle.run_laws.specs.LastCycle.{DrivesCycles, EndsWithCycle, HasHeardOf}
use Rattle.run_laws.specs.WithCycle.{IsRunThenCycle, cycle_line}
use Rattle.run_laws.specs.Threads.{HoldsItsLines, NoneIsLeft, thread_lines}
use Rattle.run_laws.proofs.InOrder.{prefix-map, prefix-then}
use Rattle.run_laws.proofs.LastCycle.{cycle_lines_end_runs, cycles_end_runs}
use Rattle.bridge_script.specs.Scripts.{IsScriptLine}
use Rattle.script_runs.specs.Running.{AreSame, CanRun, DriverIsFirst, DrivesLine, HasRunLines, HaveRun, HearsAll, IsSame, StandsAs}
use Rattle.joint_history.proofs.Giving.{has_all_last, has_all_same}
use Rattle.joint_machine.proofs.Deciding.{some-same}

prefix-itself : {A : Type 0} (xs : List A) → IsPrefix xs xs
prefix-itself xs = ([], append-nil xs)

prefix-known : (v w : View) (i : ℕ) → IsPrefix (known v i) (known w i) → IsPrefix (line_known v i) (line_known w i)
prefix-known v w i p = prefix-map (λ (k : KeptEntry). k.entry) (known v i) (known w i) p

-- the driver has heard of the first of the others
pub record HearsFirst (n : ℕ) (old new : Progress) (before after : List Pass) : Type 0 where
  pub same : AreSame before after
  pub heard : (i : ℕ) (p : Pass) → i < n → slice_get after i ≡ Some p → HasHeardOf new.view p
  pub knew : (i : ℕ) → IsPrefix (known old.view i) (known new.view i)
  pub own_stay : own (pass_of new) ≡ own (pass_of old)
  pub stands : new ≡ record old { view = new.view }

pub hears_none : (d : Progress) (others : List Pass) → HearsFirst 0 d d others others
hears_none d others = record {
  same = record { count = refl; each = λ i p e. (p, e, record { thread = refl; own_same = refl }) };
  heard = λ i p l e. absurd (omega (arith, l));
  knew = λ i. prefix-itself (known d.view i);
  own_stay = refl;
  stands = refl;
}

pub hears_next : (n : ℕ) (old mid new : Progress) (before others : List Pass) (p q : Pass) → slice_get others n ≡ Some p → Tells p q → Hears p (pass_of mid) (pass_of new)
    → new ≡ record mid { view = new.view } → HearsFirst n old mid before others → HearsFirst (n + 1) old new before (slice_set others n q)
hears_next n old mid new before others p q at tells hears stays h =
    let few = slice_get_within others n p at in
    let own_q : own q ≡ own p = ap line_entries (tells.same (caller_line q.thread)) ∙ ap (λ t. line_known p.view (caller_line t)) tells.thread in
    let knows : (i : ℕ) → IsPrefix (known old.view i) (known new.view i) = λ i. prefix-then (known old.view i) (known mid.view i) (known new.view i) (h.knew i) (hears.knew i) in
    let told : HasHeardOf new.view q =
    subst (λ t. IsPrefix (own q) (line_known new.view (caller_line t))) (sym tells.thread)
    (subst (λ es. IsPrefix es (line_known new.view (caller_line p.thread))) (sym own_q) (prefix-known p.view new.view (caller_line p.thread) (hears.heard (caller_line p.thread))))
    in
    record {
      same = record {
        count = length-set others n q ∙ h.same.count;
        each = λ i r there. ⊎_elim
            (λ (e : i ≡ n).
            let is : q ≡ r = some-same q r (sym (slice_get-set_same others n q few) ∙ subst (λ z. slice_get (slice_set others n q) z ≡ Some r) e there) in
            let w = h.same.each n p at in
            (w.0, subst (λ z. slice_get before z ≡ Some w.0) (sym e) w.1, subst (IsSame w.0) is (record { thread = tells.thread ∙ w.2.thread; own_same = own_q ∙ w.2.own_same })))
            (λ ne. h.same.each i r (sym (slice_get-set_other others n i q ne) ∙ there))
            (same_or_not i n);
      };
      heard = λ i r l there. ⊎_elim
          (λ (e : i ≡ n).
          let is : q ≡ r = some-same q r (sym (slice_get-set_same others n q few) ∙ subst (λ z. slice_get (slice_set others n q) z ≡ Some r) e there) in
          subst (HasHeardOf new.view) is told)
          (λ ne.
          prefix-then (own r) (line_known mid.view (caller_line r.thread)) (line_known new.view (caller_line r.thread))
          (h.heard i r (omega (arith, l, ne)) (sym (slice_get-set_other others n i q ne) ∙ there))
          (prefix-known mid.view new.view (caller_line r.thread) (hears.knew (caller_line r.thread))))
          (same_or_not i n);
      knew = knows;
      own_stay = hears.own_stay ∙ h.own_stay;
      stands = stays ∙ ap (λ (z : Progress). record z { view = new.view }) h.stands;
    }

pub hears_all : (n : ℕ) (old new : Progress) (before after : List Pass) → length after ≤ n → HearsFirst n old new before after → HearsAll old new before after
hears_all n old new before after all h = record {
  same = h.same;
  heard = All-members (HasHeardOf new.view) after (λ p c. let w = at-Contains after p c in let l = slice_get_within after w.0 p w.1 in h.heard w.0 p (omega (arith, l, all)) w.1);
  knew = h.knew;
  own_stay = h.own_stay;
  stands = h.stands;
}

-- the idle driver makes a whole cycle
abbrev opened : Standing
opened = record { phase = Idle; candidates = 0; line = 0 }

is-c : (p : Pass) → IsDriver p.thread → p.thread ≡ C
is-c p driver = by p.thread driver
  where
    by : (t : Thread) → IsDriver t → t ≡ C
    by C d = refl
    by t d = absurd d

-- it has made what its caller has made
pub own-first : (p : Pass) (first heard : Progress) (before others : List Pass) → first ≡ record { view = p.view; phase = Idle; cycle = record { 0 = 0 }; candidates = 0 }
    → IsDriver p.thread → HearsAll first heard before others → own (pass_of heard) ≡ own p
own-first p first heard before others new driver h = h.own_stay ∙ (ap (λ (z : Progress). line_known z.view (caller_line C)) new ∙ ap (λ t. line_known p.view (caller_line t)) (sym (is-c p driver)))

module _ (number : ℕ) (p : Pass) (first heard last : Progress) (before others : List Pass)
    (new : first ≡ record { view = p.view; phase = Idle; cycle = record { 0 = 0 }; candidates = 0 }) (driver : IsDriver p.thread)
    (h : HearsAll first heard before others) (k : DrivesLine heard last number cycle_line.1) where
  at-first : StandsAs opened heard
  at-first = record {
    phase = sym (ap (λ (z : Progress). z.phase) h.stands ∙ ap (λ (z : Progress). z.phase) new);
    candidates = sym (ap (λ (z : Progress). z.candidates) h.stands ∙ ap (λ (z : Progress). z.candidates) new);
  }

  its : own (pass_of heard) ≡ own p
  its = own-first p first heard before others new driver h

  pub ends_with_cycle : (after : Pass) → after ≡ pass_of last → EndsWithCycle number p after others
  ends_with_cycle after is = record {
    heard = heard.view;
    of_others = h.heard;
    of_own = subst (λ t. IsPrefix (own p) (line_known heard.view (caller_line t))) (sym (is-c p driver)) (subst (IsPrefix (own p)) (sym its) (prefix-itself (own p)));
    driver = is-c p driver;
    same = ap (λ (z : Pass). z.thread) is;
    cycle = k.entries;
    cycle_is = record { standing = opened; idle = refl; line = k.line opened at-first };
    own_more = ap own is ∙ (k.made.own_more ∙ ap (λ es. es ++ k.entries) its);
    above = k.made.above;
  }

  pub idle_again : last.phase ≡ Idle
  idle_again = sym (k.stands opened at-first).phase

-- the callers that have run a script, the driver's first
module _ (script : List (Thread × Act)) (callers rest : List Pass) (p : Pass) (ran : HaveRun script callers) (are : callers ≡ p ∷ rest) where
  first : DriverIsFirst (p ∷ rest)
  first = subst DriverIsFirst are ran.driver_first

  its_lines : (q : Pass) → Contains (p ∷ rest) q → HasRunLines script q.thread q
  its_lines q c = All-contains (λ (x : Pass). HasRunLines script x.thread x) (p ∷ rest) q (subst (All (λ x. HasRunLines script x.thread x)) are ran.each) c

  is_c : p.thread ≡ C
  is_c = let e = first.all in let w : p ≡ first.driver = cc in ap (λ (x : Pass). x.thread) w ∙ first.is_driver

  pub driver_ran : HasRunLines script C p
  driver_ran = subst (λ t. HasRunLines script t p) is_c (its_lines p (Contains-here p rest))

  pub is_driver : IsDriver p.thread
  is_driver = subst IsDriver (sym is_c) tt

  rest_are : (q : Pass) → Contains rest q → IsDriver q.thread → ⊥
  rest_are q c is = let e = first.all in let w : rest ≡ first.others = cc in first.others_are q (subst (λ qs. Contains qs q) w c) is

  module _ (others : List Pass) (after : Pass) (same : AreSame rest others) (driver : after.thread ≡ C) where
    -- who it was
    was : (q : Pass) → Contains others q → (r : Pass) × Contains rest r × IsSame r q
    was q c = let w = at-Contains others q c in let s = same.each w.0 q w.1 in (s.0, Contains-at rest w.0 s.0 s.1, s.2)

    holds-own : (q : Pass) → Contains others q → HoldsItsLines script q
    holds-own q c =
        let w = was q c in
        subst (λ t. HoldsLines opening_standing (thread_lines t script) (own q)) (sym w.2.thread)
        (subst (HoldsLines opening_standing (thread_lines w.0.thread script)) (sym w.2.own_same) (its_lines w.0 (Contains-there w.0 p rest w.1)).holds)

    pub all_hold : All (HoldsItsLines script) others
    all_hold = All-members (HoldsItsLines script) others holds-own

    pub all_idle_then : HasIdleDriver after → All HasIdleDriver (others ++ after ∷ [])
    all_idle_then idle = All-members HasIdleDriver (others ++ after ∷ []) (λ q c. ⊎_elim
        (λ o is. let w = was q o in absurd (rest_are w.0 w.1 (subst IsDriver w.2.thread is)))
        (λ o. ⊎_elim (λ (e : after ≡ q). subst HasIdleDriver e idle) (λ n. absurd (Contains-nil q n)) (Contains-cons_cases after [] q o))
        (Contains-append_cases others (after ∷ []) q c))

    same-threads : (xs ys : List Pass) → AreSame xs ys → threads_of xs ≡ threads_of ys
    same-threads [] [] s = refl
    same-threads [] (y ∷ ys) s = absurd (let n = s.count in omega (arith, n))
    same-threads (x ∷ xs) [] s = absurd (let n = s.count in omega (arith, n))
    same-threads (x ∷ xs) (y ∷ ys) s =
        let w = s.each zero y refl in
        let a : x.thread ≡ y.thread = ap (λ (z : Pass). z.thread) (some-same x w.0 w.1) ∙ sym w.2.thread in
        let b = same-threads xs ys (record { count = (let n = s.count in omega (arith, n)); each = λ i q e. s.each (suc i) q e }) in
        λ i. a i ∷ b i

    pub has_all_then : (d : Waiting) → HasAll d callers → HasAll d (others ++ after ∷ [])
    has_all_then d all =
        has_all_last d after others
        (has_all_same d (p ∷ rest) (after ∷ others) (let a : p.thread ≡ after.thread = is_c ∙ sym driver in let b = same-threads rest others same in λ i. a i ∷ b i)
        (subst (HasAll d) are all))

    pub runs_then_cycle : (h : Finished) (d : Waiting) → CanRun script → HasAll d callers → NoneIsLeft script d → EndsWithCycle (length script + 1) p after others
        → IsFinished h → length h.entries < 2 ^ 64 → All (HasOwn h.entries) (others ++ after ∷ []) → ((t : Thread) → IsThread t → StillWaits d t → made_by t h.entries ≡ []) → IsRunThenCycle script h
    runs_then_cycle h d can all left ends finished few owns none =
        cycles_end_runs script h d others p after finished few (λ line c. All-contains IsScriptLine script line can.each c) (has_all_then d all) owns none left all_hold driver_ran.holds ends

-- the first of a list, and the others
pub first_and_rest : (xs rest : List Pass) (p : Pass) → 0 < length xs → p ≡ slice_index_or xs 0 p → rest ≡ take 0 xs ++ drop 1 xs → xs ≡ p ∷ rest
first_and_rest [] rest p l e r = absurd (omega (arith, l))
first_and_rest (x ∷ xs) rest p l e r = let a : x ≡ p = sym e in let b : xs ≡ rest = sym r in λ i. a i ∷ b i

-- there is one at least
pub some_first : (callers : List Pass) → DriverIsFirst callers → 0 < length callers
some_first callers first = let n = ap length first.all in omega (arith, n)

-- a script with a cycle behind it can be run where the script can
pub can_run_cycle : (script lines : List (Thread × Act)) → lines ≡ script ++ cycle_line ∷ [] → CanRun script → length script < 4294967295 → CanRun lines
can_run_cycle script lines is can room = record {
  each = subst (All IsScriptLine) (sym is) (All-push IsScriptLine script cycle_line can.each tt);
  count = let n = ap length is ∙ length-append script (cycle_line ∷ []) in omega (arith, n, room);
}

-- and its run line after line is that of the script with one cycle more
pub serial_then_cycle : {E : Type 0} (r : Result RunEnd E) (script lines : List (Thread × Act)) → lines ≡ script ++ cycle_line ∷ []
    → DrivesCycles script → IfOk r (λ e. IsRunInOrder lines e.history) → IfOk r (λ e. IsRunThenCycle script e.history)
serial_then_cycle (Ok e) script lines is cycles run = cycle_lines_end_runs script e.history cycles (subst (λ l. IsRunInOrder l e.history) is run)
serial_then_cycle (Err x) script lines is cycles run = tt

pub serial_in_order : {E : Type 0} (r : Result RunEnd E) (script lines : List (Thread × Act)) → lines ≡ script ++ cycle_line ∷ []
    → IfOk r (λ e. IsRunInOrder lines e.history) → IfOk r (λ e. IsRunInOrder (script ++ cycle_line ∷ []) e.history)
serial_in_order r script lines is run = subst (λ l. IfOk r (λ e. IsRunInOrder l e.history)) is run
