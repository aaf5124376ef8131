-- The end of a run: every thread's seat is taken in, and the history has of each thread just the entries that its
-- caller made.
use Rattle.std.proofs.Common.{◌≡◌, inl, inr, ⊎_elim, ℕ, zero, suc, List, [], ◌∷◌, ◌++◌, length, map, Option, Some, None, true, false, refl, sym, ap, ◌∙◌, subst, arith}
use Rattle.std.specs.Prelude.{◌<◌, ◌^◌, All, Contains, IsSome, slice_get}
use mathlib.Core.List.{IsPrefix}
use base.Growing.{prefix_refl, prefix_trans}
use Rattle.std.proofs.lemmas.List.{length-map, map-append}
use Rattle.std.proofs.lemmas.List.Elements.{Contains-append_cases, Contains-append_left, Contains-append_right}
use Rattle.joint_machine.specs.declared.names.Thread.{Thread}
use Rattle.joint_machine.specs.declared.names.Thread.TheVariants.{M, P, C}
use Rattle.joint_machine.specs.declared.events.Entry.{Entry}
use Rattle.joint_machine.specs.Control.{caller_place}
use Rattle.joint_machine.specs.HistoryLines.{caller_line, entries_in}
use Rattle.joint_machine.specs.Lines.{IsThread}
use Rattle.joint_machine.specs.ManagedReplay.{ManagedReplay}
use Rattle.joint_machine.specs.PeerReplay.{PeerReplay}
use Rattle.joint_machine.specs.Sides.{Side}
use Rattle.joint_machine.proofs.Members.{All-members, Contains-here, Contains-there, Contains-map, Contains-cons_cases, Contains-nil}
use Rattle.known_laws.specs.Drawn.{KeptDrawn, of_drawn}
use Rattle.known_laws.specs.Lists.{made_by}
use Rattle.order_table.specs.declared.views.KeptEntry.{KeptEntry}
use Rattle.order_table.specs.declared.views.View.{View}
use Rattle.order_table.specs.Facts.{entries_of, line_entries}
use Rattle.order_table.proofs.Wholes.{tell_lines}
use Rattle.order_table.specs.Rule.{Item, AreLinesOfOneHistory as AllKnown}
use Rattle.order_table.specs.Tells.{TakesIn, BeginsOneHistory}
use Rattle.order_table.specs.Views.{Owns, known}
use Rattle.joint_history.specs.Callers.{HoldsPass, Pass, own}
use Rattle.joint_history.specs.Desks.{Waiting, WaitsAt, flat, present, thread_of}
use Rattle.joint_history.specs.Ending.{AllAreIn, BeginsHistory, BeginsPast, BeginsView, GathersAll, HasAll, HasOwn, StillWaits, TakesOwn, threads_of}
use Rattle.joint_history.specs.Knowing.{line_known}
use Rattle.view_laws.specs.Knowing.{IsDrawnView, drawn_lines, of_order}
use Rattle.view_laws.proofs.Finished.{own_lines_are_made_by_callers}
use Rattle.joint_history.specs.Locked.{ManagedKnows, PeerKnows}
use Rattle.joint_history.proofs.Desking.{thread_is}
use Rattle.joint_history.proofs.Gathering.{gathered_first}
use Rattle.joint_history.proofs.KnownCallers.{own_line}
use Rattle.joint_history.proofs.LastLines.{place_small}
use Rattle.joint_machine.proofs.Deciding.{none_some}

-- one seat more, and none
pub takes_one : (p : Pass) (v u : View) → IsThread p.thread → HoldsPass p.thread p.view → TakesIn v p.view u → TakesOwn v u (p ∷ [])
takes_one p v u is h k =
    let mine = own_line p.thread in
    record {
      kept = λ i o. ((k.owns i).0 (inl o), k.owned i o);
      knew = k.knew;
      each = λ q c. ⊎_elim
          (λ (e : p ≡ q). subst (λ (x : Pass). IsThread x.thread × Owns u (caller_line x.thread) × (line_known u (caller_line x.thread) ≡ own x) × BeginsView x.view u) e
          (is, (k.owns (caller_line p.thread)).0 (inr (h (caller_line p.thread) mine)), ap line_entries (k.taken (caller_line p.thread) (h (caller_line p.thread) mine)), k.heard))
          (λ n. absurd (Contains-nil q n))
          (Contains-cons_cases p [] q c);
    }

pub takes_none : (v : View) → TakesOwn v v []
takes_none v = record { kept = λ i o. (o, refl); knew = λ i. prefix_refl (known v i); each = λ q c. absurd (Contains-nil q c) }

-- a side's seat
pub takes_side : (v w u : View) → TakesIn v w u → TakesOwn v u []
takes_side v w u k = record { kept = λ i o. ((k.owns i).0 (inl o), k.owned i o); knew = k.knew; each = λ q c. absurd (Contains-nil q c) }

pub takes_then : (v w u : View) (ps qs : List Pass) → TakesOwn v w ps → TakesOwn w u qs → TakesOwn v u (ps ++ qs)
takes_then v w u ps qs a b = record {
  kept = λ i o. let x = a.kept i o in let y = b.kept i x.0 in (y.0, y.1 ∙ x.1);
  knew = λ i. prefix_trans (known v i) (known w i) (known u i) (a.knew i) (b.knew i);
  each = λ p c. ⊎_elim
      (λ h. let x = a.each p h in let y = b.kept (caller_line p.thread) x.1 in (x.0, y.0, ap line_entries y.1 ∙ x.2, λ i. prefix_trans (known p.view i) (known w i) (known u i) (x.3 i) (b.knew i)))
      (λ h. b.each p h)
      (Contains-append_cases ps qs p c);
}

present_has : (os : List (Option Pass)) (i : ℕ) (p : Pass) → slice_get os i ≡ Some (Some p) → Contains (present os) p
present_has [] i p e = absurd (none_some (Some p) e)
present_has (None ∷ os) zero p e = absurd (none_some p (inner e))
  where
    inner : Some None ≡ Some (Some p) → None ≡ Some p
    inner q = cc
present_has (None ∷ os) (suc i) p e = present_has os i p e
present_has (Some q ∷ os) zero p e = subst (Contains (q ∷ present os)) (inner e) (Contains-here q (present os))
  where
    inner : Some (Some q) ≡ Some (Some p) → q ≡ p
    inner w = cc
present_has (Some q ∷ os) (suc i) p e = Contains-there p q (present os) (present_has os i p e)

not_so : false ≡ true → ⊥
not_so e = cc

pub waiting_at : (os : List (Option Pass)) (i : ℕ) (o : Option (Option Pass)) → slice_get os i ≡ o → IsSome (flat o) → (p : Pass) × (slice_get os i ≡ Some (Some p))
waiting_at os i None e s = absurd (not_so s)
waiting_at os i (Some None) e s = absurd (not_so s)
waiting_at os i (Some (Some p)) e s = (p, e)

-- a place has one thread
pub one_at_place : (t u : Thread) → IsThread t → IsThread u → caller_place t ≡ caller_place u → t ≡ u
one_at_place (M n) (M m) a b e = ap M e
one_at_place (M n) (P m) a b e = let x = a.1 in let y = b.0 in absurd (omega (arith, e))
one_at_place (M n) C a b e = let x = a.0 in absurd (omega (arith, e))
one_at_place (P n) (M m) a b e = let x = b.1 in let y = a.0 in absurd (omega (arith, e))
one_at_place (P n) (P m) a b e = ap P (omega (arith, e))
one_at_place (P n) C a b e = absurd (omega (arith, e))
one_at_place C (M m) a b e = let x = b.0 in absurd (omega (arith, e))
one_at_place C (P m) a b e = absurd (omega (arith, e))
one_at_place C C a b e = refl

pub thread_at_place : (t : Thread) → IsThread t → thread_of (caller_place t) ≡ t
thread_at_place t is = let w = thread_is (caller_place t) (place_small t is) in one_at_place (thread_of (caller_place t)) t w.0 is w.1

-- who waits is there, and knows nothing
pub record Waiter (d : Waiting) (t : Thread) : Type 0 where
  pub pass : Pass
  pub there : Contains (present d.callers) pass
  pub thread : pass.thread ≡ t
  pub nothing : own pass ≡ []

pub waiter : (d : Waiting) (t : Thread) → IsThread t → ((i : ℕ) (o : Option Pass) → slice_get d.callers i ≡ Some o → WaitsAt i o) → StillWaits d t → Waiter d t
waiter d t is waits s =
    let w = waiting_at d.callers (caller_place t) (slice_get d.callers (caller_place t)) refl s in
    let at = waits (caller_place t) (Some w.0) w.1 in
    record {
      pass = w.0;
      there = present_has d.callers (caller_place t) w.0 w.1;
      thread = at.0 ∙ thread_at_place t is;
      nothing = ap line_entries (at.1 (caller_line w.0.thread));
    }

-- all threads' seats and reads are in
pub all_in : (v w u x y : View) (l : Side ManagedReplay) (r : Side PeerReplay) (old mid new : List (List Entry)) (callers : List Pass) (d : Waiting)
    → ManagedKnows v l → PeerKnows w r → Owns v 0 → Owns w 1 → TakesIn v w u → BeginsOneHistory u → length old ≡ 10
    → GathersAll u x old mid (threads_of callers) → GathersAll x y mid new (threads_of (present d.callers))
    → HasAll d callers → ((i : ℕ) (o : Option Pass) → slice_get d.callers i ≡ Some o → WaitsAt i o) → AllAreIn y l r new
all_in v w u x y l r old mid new callers d a b m p k o ten first then has waits =
    let given = threads_of callers in
    let left = threads_of (present d.callers) in
    record {
      threads = given ++ left;
      gathered = then l r given (first l r [] (gathered_first v w u l r old a b m p k o ten));
      all = λ t is. ⊎_elim
          (λ s. let q = waiter d t is waits s in Contains-append_right given left t (subst (Contains left) q.thread (Contains-map (λ (z : Pass). z.thread) (present d.callers) q.pass q.there)))
          (λ c. Contains-append_left given left t c)
          (has t is);
    }

-- the whole line of a thread has just the entries that it made
made_is_known : (v : View) → IsDrawnView v → (w : AllKnown v.known) (t : Thread) → IsThread t → made_by t (entries_of w.whole) ≡ line_known v (caller_line t)
made_is_known v a w t is = sym (own_lines_are_made_by_callers v a w t is)

-- so each caller that was taken in has just its own entries
pub has_own : (v : View) → IsDrawnView v → (w : AllKnown v.known) (entries : List Entry) → entries ≡ entries_of w.whole
    → (p : Pass) → IsThread p.thread → line_known v (caller_line p.thread) ≡ own p → HasOwn entries p
has_own v a w entries e p is known_so = ap (made_by p.thread) e ∙ (made_is_known v a w p.thread is ∙ known_so)

pub all_have_own : (v y : View) → IsDrawnView y → (w : AllKnown y.known) (entries : List Entry) → entries ≡ entries_of w.whole
    → (callers others : List Pass) → TakesOwn v y (callers ++ others) → All (HasOwn entries) callers
all_have_own v y a w entries e callers others k =
    All-members (HasOwn entries) callers (λ p c. let m = k.each p (Contains-append_left callers others p c) in has_own y a w entries e p m.0 m.2)

-- a beginning's images begin the whole's
pub prefix_map : {A B : Type 0} (f : A → B) (xs ys : List A) → IsPrefix xs ys → IsPrefix (map f xs) (map f ys)
prefix_map f xs ys p = (map f p.0, sym (map-append f xs p.0) ∙ ap (map f) p.1)

-- and what it knows of the managed list begins the history's
begins_history : (v : View) (w : AllKnown v.known) (entries : List Entry) → entries ≡ entries_of w.whole → (p : Pass) → BeginsView p.view v → BeginsHistory entries p
begins_history v w entries e p b =
    let whole : line_known v 0 ≡ entries_in 0 entries = ap line_entries (w.each 0 (omega arith)) ∙ ((tell_lines w.whole w.numbers).lines 0 ∙ ap (entries_in 0) (sym e)) in
    subst (IsPrefix (line_known p.view 0)) whole (prefix_map (λ (k : KeptEntry). k.entry) (known p.view 0) (known v 0) (b 0))

pub all_begin_history : (v y : View) (w : AllKnown y.known) (entries : List Entry) → entries ≡ entries_of w.whole
    → (callers others : List Pass) → TakesOwn v y (callers ++ others) → All (BeginsHistory entries) callers
all_begin_history v y w entries e callers others k =
    All-members (BeginsHistory entries) callers (λ p c. let m = k.each p (Contains-append_left callers others p c) in begins_history y w entries e p m.3)

-- what it knows of each line, with the pins that were told, begins the line of the past that all seats know together
begins_past : (v : View) (a : IsDrawnView v) (p : Pass) → BeginsView p.view v → BeginsPast a.known.past p
begins_past v a p b i =
    let lines : IsPrefix (drawn_lines p.view i) (drawn_lines v i) = prefix_map of_order (known p.view i) (known v i) (b i) in
    subst (IsPrefix (of_drawn (drawn_lines p.view i))) (a.known.same i) (prefix_map (λ (d : KeptDrawn). record { entry = d.drawn.entry; pins = d.pins }) (drawn_lines p.view i) (drawn_lines v i) lines)

pub all_begin_past : (v y : View) (a : IsDrawnView y) (callers others : List Pass) → TakesOwn v y (callers ++ others) → All (BeginsPast a.known.past) callers
all_begin_past v y a callers others k =
    All-members (BeginsPast a.known.past) callers (λ p c. let m = k.each p (Contains-append_left callers others p c) in begins_past y a p m.3)

-- the history has no more entries than the ten lists have room for
pub few_entries : (y : View) (w : AllKnown y.known) (entries : List Entry) → entries ≡ entries_of w.whole → length entries < 2 ^ 64
few_entries y w entries e = let same : length entries ≡ length w.whole = ap length e ∙ length-map w.whole (λ (x : Item). x.kept.entry) in let few = w.few in omega arith

-- and a thread whose caller nobody had made none
pub waiting_knows_none : (v y : View) (d : Waiting) (callers : List Pass) → TakesOwn v y (callers ++ present d.callers) → ((i : ℕ) (o : Option Pass) → slice_get d.callers i ≡ Some o → WaitsAt i o)
    → (t : Thread) → IsThread t → StillWaits d t → line_known y (caller_line t) ≡ []
waiting_knows_none v y d callers k waits t is s =
    let q = waiter d t is waits s in
    let m = k.each q.pass (Contains-append_right callers (present d.callers) q.pass q.there) in
    subst (λ u. line_known y (caller_line u) ≡ []) q.thread (m.2 ∙ q.nothing)

pub made_none : (y : View) → IsDrawnView y → (w : AllKnown y.known) (entries : List Entry)
    → entries ≡ entries_of w.whole → (t : Thread) → IsThread t → line_known y (caller_line t) ≡ [] → made_by t entries ≡ []
made_none y a w entries e t is n = ap (made_by t) e ∙ (made_is_known y a w t is ∙ n)
