-- Callers are given out place by place: whom the desk was asked for waits no more, and who wasn't asked for has no
-- line.
use Rattle.std.proofs.Common.{◌≡◌, ⊎_elim, ℕ, ◌+◌, ◌<◌, ◌≤◌, Bool, true, false, ◌&&◌, List, [], ◌∷◌, ◌++◌, length, Option, Some, None, refl, sym, ◌∙◌, ap, subst, arith}
use Rattle.std.specs.Prelude.{All, IsSome, if◌then◌else◌, nat_le, option_to_list, slice_get, slice_set}
use Rattle.std.proofs.lemmas.Bool.{cases_lt, le-leb}
use Rattle.std.proofs.lemmas.List.{length-set}
use Rattle.std.proofs.lemmas.List.Elements.{All-push, Contains-append_cases}
use Rattle.std.proofs.lemmas.Option.{slice_get_past}
use Rattle.joint_machine.specs.declared.names.Thread.{Thread}
use Rattle.joint_machine.specs.declared.names.Thread.TheVariants.{M, P, C}
use Rattle.joint_machine.specs.declared.lines.Act.{Act}
use Rattle.joint_machine.specs.Control.{caller_place}
use Rattle.joint_machine.specs.Lines.{IsDriver, IsThread}
use Rattle.joint_machine.proofs.Joining.{same_or_not, slice_get-set_same, slice_get-set_other}
use Rattle.joint_machine.proofs.Members.{Contains-nil, Contains-cons_cases}
use Rattle.joint_history.specs.Callers.{KnowsNothing, Pass}
use Rattle.joint_history.specs.Desks.{Waiting, flat, has_thread, thread_of, waits, without_caller}
use Rattle.joint_history.specs.Ending.{HasAll, StillWaits}
use Rattle.joint_history.proofs.Desking.{thread_is}
use Rattle.joint_history.proofs.Ended.{one_at_place}
use Rattle.joint_history.proofs.Giving.{none_given, one_given}
use Rattle.joint_history.proofs.LastLines.{place_small}
use Rattle.run_laws.specs.Threads.{NoneIsLeft, thread_lines}
use Rattle.script_runs.specs.Running.{DriverIsFirst}
use Rattle.joint_machine.proofs.Deciding.{and-both}

within : (m n : ℕ) → m ≡ 8 → 1 ≤ n → n ≤ 8 → (nat_le 1 n && nat_le n m) ≡ true
within m n e a b = and-both (nat_le 1 n) (nat_le n m) (le-leb 1 n a) (le-leb n m (omega (arith, b, e)))

pub has_every : (d : Waiting) (t : Thread) → d.managed ≡ 8 → d.peers ≡ 8 → IsThread t → has_thread d t ≡ true
has_every d (M n) m p is = within d.managed n m is.0 is.1
has_every d (P n) m p is = within d.peers n p is.0 is.1
has_every d C m p is = refl

-- a place that was emptied is empty
none_there : (xs : List (Option Pass)) (i : ℕ) → flat (slice_get (slice_set xs i None) i) ≡ None
none_there xs i = ⊎_elim
    (λ (l : i < length xs). ap flat (slice_get-set_same xs i None l))
    (λ (g : length xs ≤ i). ap flat (slice_get_past (slice_set xs i None) i (let n = length-set xs i None in omega (arith, g, n))))
    (cases_lt i (length xs))

-- who still waits waited before, and isn't the one that was asked for
pub record StillThere (d : Waiting) (t u : Thread) : Type 0 where
  pub waited : StillWaits d u
  pub another : caller_place u ≡ caller_place t → ⊥

pub still_there : (d : Waiting) (t u : Thread) → has_thread d t ≡ true → StillWaits (without_caller d t) u → StillThere d t u
still_there d t u has s =
    let s' : IsSome (flat (slice_get (slice_set d.callers (caller_place t) None) (caller_place u))) = subst
    (λ (w : Waiting). StillWaits w u) (ap (λ b. if b then record d { callers = slice_set d.callers (caller_place t) None } else d) has) s in
    ⊎_elim
    (λ (e : caller_place u ≡ caller_place t). absurd (nothing-there (flat (slice_get (slice_set d.callers (caller_place t) None) (caller_place u)))
    (ap (λ i. flat (slice_get (slice_set d.callers (caller_place t) None) i)) e ∙ none_there d.callers (caller_place t)) s'))
    (λ other. record { waited = subst (λ z. IsSome (flat z)) (slice_get-set_other d.callers (caller_place t) (caller_place u) None other) s'; another = other })
    (same_or_not (caller_place u) (caller_place t))
  where
    nothing-there : (o : Option Pass) → o ≡ None → IsSome o → ⊥
    nothing-there None e w = cc
    nothing-there (Some p) e w = cc

-- of the first places nobody who waits has a line
abbrev pub NoneIsLeftBelow : List (Thread × Act) → Waiting → ℕ → Type 0
NoneIsLeftBelow script d n = (t : Thread) → IsThread t → caller_place t < n → StillWaits d t → thread_lines t script ≡ []

pub nobody_asked : (script : List (Thread × Act)) (d : Waiting) → NoneIsLeftBelow script d 0
nobody_asked script d t is l = absurd (omega (arith, l))

pub one_asked : (script : List (Thread × Act)) (d : Waiting) (n : ℕ) → n < 17 → has_thread d (thread_of n) ≡ true
    → NoneIsLeftBelow script d n → NoneIsLeftBelow script (without_caller d (thread_of n)) (n + 1)
one_asked script d n few has below u is l s =
    let w = still_there d (thread_of n) u has s in
    let e = (thread_is n few).1 in
    below u is (⊎_elim (λ (lt : caller_place u < n). lt) (λ (ge : n ≤ caller_place u). absurd (w.another (omega (arith, ge, l, e)))) (cases_lt (caller_place u) n)) w.waited

pub one_passed : (script : List (Thread × Act)) (d : Waiting) (n : ℕ) → n < 17 → thread_lines (thread_of n) script ≡ [] → NoneIsLeftBelow script d n → NoneIsLeftBelow script d (n + 1)
one_passed script d n few lines below u is l s =
    let w = thread_is n few in
    ⊎_elim
    (λ (lt : caller_place u < n). below u is lt s)
    (λ (ge : n ≤ caller_place u). subst (λ t. thread_lines t script ≡ []) (let e = w.1 in one_at_place (thread_of n) u w.0 is (omega (arith, ge, l, e))) lines)
    (cases_lt (caller_place u) n)

pub all_asked : (script : List (Thread × Act)) (d : Waiting) → NoneIsLeftBelow script d 17 → NoneIsLeft script d
all_asked script d below t is s = below t is (place_small t is) s

-- the counts of threads stay
pub counts_stay : (d : Waiting) (t : Thread) → ((without_caller d t).managed ≡ d.managed) × ((without_caller d t).peers ≡ d.peers)
counts_stay d t = by (has_thread d t)
  where
    by : (b : Bool) → ((if b then record d { callers = slice_set d.callers (caller_place t) None } else d).managed ≡ d.managed)
        × ((if b then record d { callers = slice_set d.callers (caller_place t) None } else d).peers ≡ d.peers)
    by true = (refl, refl)
    by false = (refl, refl)

-- the callers that were given out so far
abbrev pub Working : List (Thread × Act) → Waiting → List Pass → ℕ → Type 0
Working script d callers n = HasAll d callers × (d.managed ≡ 8) × (d.peers ≡ 8) × NoneIsLeftBelow script d n × All (λ p. IsThread p.thread × KnowsNothing p.view) callers

module _ (script : List (Thread × Act)) (d d' : Waiting) (callers : List Pass) (n : ℕ) (few : n < 17) (w : Working script d callers n) where
  pub passed_over : thread_lines (thread_of n) script ≡ [] → Working script d callers (n + 1)
  passed_over none = (w.0, w.1, w.2, one_passed script d n few none w.3, w.4)

  asked_for : d' ≡ without_caller d (thread_of n) → (d'.managed ≡ 8) × (d'.peers ≡ 8) × NoneIsLeftBelow script d' (n + 1)
  asked_for is =
      let has = has_every d (thread_of n) w.1 w.2 (thread_is n few).0 in
      let k = counts_stay d (thread_of n) in
      (ap (λ (z : Waiting). z.managed) is ∙ (k.0 ∙ w.1), ap (λ (z : Waiting). z.peers) is ∙ (k.1 ∙ w.2), subst (λ z. NoneIsLeftBelow script z (n + 1)) (sym is) (one_asked script d n few has w.3))

  pub given_out : (r : Option Pass) (p : Pass) → d' ≡ without_caller d (thread_of n) → ((ps : List Pass) → HasAll d ps → HasAll d' (option_to_list r ++ ps))
      → r ≡ Some p → p.thread ≡ thread_of n → KnowsNothing p.view → Working script d' (callers ++ p ∷ []) (n + 1)
  given_out r p is all some thread new =
      let a = asked_for is in (
        one_given d d' r p callers some all w.0,
        a.0,
        a.1,
        a.2,
        All-push (λ q. IsThread q.thread × KnowsNothing q.view) callers p w.4 (subst IsThread (sym thread) (thread_is n few).0, new),
      )

  pub not_there : (r : Option Pass) → d' ≡ without_caller d (thread_of n) → ((ps : List Pass) → HasAll d ps → HasAll d' (option_to_list r ++ ps)) → r ≡ None → Working script d' callers (n + 1)
  not_there r is all none =
      let a = asked_for is in
      (none_given d d' r callers none all w.0, a.0, a.1, a.2, w.4)

-- before anybody was asked for the driver's caller waits
pub driver_waits : (d : Waiting) → HasAll d [] → waits d C ≡ None → ⊥
driver_waits d all none = ⊎_elim (λ (s : StillWaits d C). nothing-there (flat (slice_get d.callers (caller_place C))) none s) (λ c. absurd (Contains-nil C c)) (all C tt)
  where
    nothing-there : (o : Option Pass) → o ≡ None → IsSome o → ⊥
    nothing-there None e w = cc
    nothing-there (Some p) e w = cc

-- no other place has the driver
pub others_stay : (callers : List Pass) (p : Pass) (n : ℕ) → 1 ≤ n → n < 17 → p.thread ≡ thread_of n → DriverIsFirst callers → DriverIsFirst (callers ++ p ∷ [])
others_stay callers p n low few thread w = record {
  driver = w.driver;
  others = w.others ++ p ∷ [];
  all = ap (λ l. l ++ p ∷ []) w.all;
  is_driver = w.is_driver;
  others_are = λ q c. ⊎_elim
      (λ o. w.others_are q o)
      (λ o. ⊎_elim (λ (e : p ≡ q). λ is. no-driver (thread_of n) (thread_is n few).1 (subst IsDriver (ap (λ (z : Pass). z.thread) (sym e) ∙ thread) is))
      (λ z. absurd (Contains-nil q z)) (Contains-cons_cases p [] q o))
      (Contains-append_cases w.others (p ∷ []) q c);
}
  where
    no-driver : (t : Thread) → caller_place t ≡ n → IsDriver t → ⊥
    no-driver (M k) e is = is
    no-driver (P k) e is = is
    no-driver C e is = omega (arith, e, low)

pub driver_alone : (p : Pass) → p.thread ≡ C → DriverIsFirst (p ∷ [])
driver_alone p is = record { driver = p; others = []; all = refl; is_driver = is; others_are = λ q c. absurd (Contains-nil q c) }
