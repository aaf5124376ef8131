-- The run line after line from its first line to its last, and the desk from which its callers come.
use Rattle.std.proofs.Common.{◌≡◌, ◌⊎◌, ⊎_elim, ℕ, ◌+◌, ◌<◌, ◌≤◌, ◌^◌, true, List, [], ◌∷◌, ◌++◌, length, Some, None, refl, sym, ◌∙◌, ap, subst, arith, inl, inr, zero, suc, Bool, false}
use Rattle.std.specs.Prelude.{All, if◌then◌else◌, slice_get, slice_set, take}
use Rattle.std.proofs.lemmas.List.{take_all}
use Rattle.std.proofs.lemmas.List.Elements.{All-contains, Contains-append_cases, Contains-append_right}
use Rattle.std.proofs.lemmas.Option.{slice_get_within}
use Rattle.joint_machine.specs.declared.names.Thread.{Thread}
use Rattle.joint_machine.specs.declared.names.Thread.TheVariants.{M, P, C}
use Rattle.joint_machine.specs.declared.names.Phase.TheVariants.{Idle}
use Rattle.joint_machine.specs.declared.lines.Act.{Act}
use Rattle.joint_machine.specs.Control.{caller_place}
use Rattle.joint_machine.specs.Histories.{Finished}
use Rattle.joint_machine.specs.Lines.{IsDriver, IsThread}
use Rattle.joint_machine.specs.LinkedHistories.{IsLinked}
use Rattle.joint_machine.proofs.Joining.{slice_get-set_other}
use Rattle.joint_machine.proofs.Members.{All-members, at-Contains, Contains-cons_cases, Contains-here, Contains-nil}
use Rattle.joint_history.specs.Callers.{KnowsNothing, Pass, last_index, own}
use Rattle.joint_history.specs.Desks.{AreAll, Waiting, flat, has_thread, thread_of, waits, without_caller}
use Rattle.joint_history.specs.Ending.{BeginsHistory, HasOwn, IsFinished, HasIdleDriver}
use Rattle.joint_history.proofs.Desking.{thread_is}
use Rattle.bridge_cycle.specs.Progress.{Progress, line_of, pass_of}
use Rattle.script_laws.specs.Holding.{opening_standing, numbered_from}
use Rattle.run_laws.specs.Final.{IsRunInOrder}
use Rattle.run_laws.specs.Serial.{AreOthers}
use Rattle.run_laws.proofs.ByThreads.{numbered-next}
use Rattle.run_laws.proofs.Finals.{held_in_order_is_run}
use Rattle.run_laws.proofs.InOrder.{drivers_add, nothing_is_run}
use Rattle.run_laws.proofs.InOrderEnds.{runs_hold_script}
use Rattle.script_runs.specs.Running.{AreUpTo, DrivesLeft, HasCome, HasComeThrough, RunsOn, last_after}
use Rattle.script_runs.specs.Stations.{AreNewCallers, ComesTo}
use Rattle.script_runs.proofs.Desked.{has_every}
use Rattle.script_runs.proofs.Owned.{own_nothing}

-- before the first line
pub come_first : (d : Progress) (others : List Pass) → KnowsNothing d.view → Idle ≡ d.phase → 0 ≡ d.candidates
    → ((i : ℕ) (p : Pass) → slice_get others i ≡ Some p → KnowsNothing p.view) → HasCome [] 0 d others
come_first d others k idle none each = record {
  standing = opening_standing;
  run = nothing_is_run (pass_of d) others refl (own_nothing (pass_of d) k) (λ i p at. own_nothing p (each i p at));
  stands = record { phase = idle; candidates = none };
  line = refl;
}

-- a line more
pub come_on : (script : List (Thread × Act)) (n last : ℕ) (d f : Progress) (others others' : List Pass) (line : Thread × Act)
    → slice_get script n ≡ Some line → RunsOn (n + 1) line.0 line.1 d f others others'
    → HasCome (numbered_from 1 (take n script)) last d others → HasCome (numbered_from 1 (take (n + 1) script)) (last_after last (n + 1) line.0) f others'
come_on script n last d f others others' line e runs h = subst (λ l. HasCome l (last_after last (n + 1) line.0) f others')
    (sym (numbered-next script n line e)) (runs (numbered_from 1 (take n script)) last h)

pub later_up_to : (m n : ℕ) (others : List Pass) → m ≤ n → AreUpTo m others → AreUpTo n others
later_up_to m n others l up i p at = let a = up i p at in omega (arith, a, l)

pub first_up_to : (n : ℕ) (others : List Pass) → ((i : ℕ) (p : Pass) → slice_get others i ≡ Some p → KnowsNothing p.view) → AreUpTo n others
first_up_to n others each i p at = subst (λ es. last_index es ≤ n) (sym (own_nothing p (each i p at))) (omega arith)

-- all lines
pub come_through : (script : List (Thread × Act)) (last : ℕ) (d : Progress) (others : List Pass)
    → HasCome (numbered_from 1 (take (length script) script)) last d others → AreOthers others → last_index (own (pass_of d)) ≤ last → HasComeThrough script last d others
come_through script last d others h oth driven = record {
  come = subst (λ l. HasCome (numbered_from 1 l) last d others) (take_all (length script) script (omega arith)) h;
  others_are = oth;
  driven = driven;
}

-- what the run of all lines keeps
pub record ComeSoFar (script : List (Thread × Act)) (i number last : ℕ) (d : Progress) (others : List Pass) : Type 0 where
  pub counted : number ≡ i
  pub within : last ≤ number
  pub others_are : AreOthers others
  pub up_to : AreUpTo number others
  pub driven : line_of d ≤ last
  pub come : HasCome (numbered_from 1 (take i script)) last d others

pub first_of_new : (script : List (Thread × Act)) (d : Progress) (others : List Pass) → AreNewCallers d others → ComeSoFar script 0 0 0 d others
first_of_new script d others new = record {
  counted = refl;
  within = omega arith;
  others_are = new.others_are;
  up_to = first_up_to 0 others new.nothing;
  driven = subst (λ es. last_index es ≤ 0) (sym (own_nothing (pass_of d) new.driver.nothing)) (omega arith);
  come = come_first d others new.driver.nothing (sym new.driver.phase) (sym new.driver.candidates) new.nothing;
}

pub comes_further : (script : List (Thread × Act)) (i number last now : ℕ) (d f : Progress) (others others' : List Pass) (line : Thread × Act) → slice_get script i ≡ Some line
    → ComeSoFar script i number last d others → ComesTo (number + 1) last now line d f others others' → ComeSoFar script (i + 1) (number + 1) now f others'
comes_further script i number last now d f others others' line e k w =
    let same : number + 1 ≡ i + 1 = ap (λ n. n + 1) k.counted in
    let runs = subst (λ n. RunsOn n line.0 line.1 d f others others') same w.runs in
    record {
      counted = same;
      within = w.within;
      others_are = w.others_are;
      up_to = w.up_to;
      driven = w.driven;
      come = subst (λ m. HasCome (numbered_from 1 (take (i + 1) script)) m f others') (sym (w.last_is ∙ ap (λ n. last_after last n line.0) same))
          (come_on script i last d f others others' line e runs k.come);
    }

-- whoever isn't the driver's caller is idle, and so all are once the driver's is
pub all_idle : (others : List Pass) (p : Pass) → AreOthers others → HasIdleDriver p → All HasIdleDriver (others ++ p ∷ [])
all_idle others p oth idle = All-members HasIdleDriver (others ++ p ∷ []) (λ q c. ⊎_elim
    (λ d. let w = at-Contains others q d in λ is. absurd (other (thread_of (w.0 + 1)) w.0 (place w.0 q w.1) (subst IsDriver (oth.each w.0 q w.1) is)))
    (λ d. ⊎_elim (λ (e : p ≡ q). subst HasIdleDriver e idle) (λ n. absurd (Contains-nil q n)) (Contains-cons_cases p [] q d))
    (Contains-append_cases others (p ∷ []) q c))
  where
    place : (i : ℕ) (q : Pass) → slice_get others i ≡ Some q → caller_place (thread_of (i + 1)) ≡ i + 1
    place i q at = let l = slice_get_within others i q at in let n = oth.count in (thread_is (i + 1) (omega (arith, l, n))).1

    other : (t : Thread) (i : ℕ) → caller_place t ≡ i + 1 → IsDriver t → ⊥
    other (M n) i e is = is
    other (P n) i e is = is
    other C i e is = omega (arith, e)

-- the finished history is that of the script's run
pub run_ends : (script : List (Thread × Act)) (h : Finished) (last : ℕ) (d f : Progress) (others : List Pass) (p : Pass)
    → IsLinked h → IsFinished h → length h.entries < 2 ^ 64 → HasComeThrough script last d others → DrivesLeft d f last → p ≡ pass_of f
    → All (HasOwn h.entries) (others ++ p ∷ []) → All (BeginsHistory h.entries) (others ++ p ∷ []) → IsRunInOrder script h
run_ends script h last d f others p linked finished few come k is owns begins =
    let c = come.come in
    held_in_order_is_run script h finished few
    (runs_hold_script script h c.standing (pass_of d) (pass_of f) others k.entries linked come.others_are refl
    (drivers_add (pass_of d) (pass_of f) k.entries refl refl k.made) (k.left c.standing c.stands c.line) c.run
    (subst (λ q. All (HasOwn h.entries) (others ++ q ∷ [])) is owns)
    (subst (BeginsHistory h.entries) is (All-contains (BeginsHistory h.entries) (others ++ p ∷ []) p begins (Contains-append_right others (p ∷ []) p (Contains-here p [])))))

-- at the desk the callers from a place on are there
abbrev pub AreThereFrom : ℕ → Waiting → Type 0
AreThereFrom n d = (i : ℕ) → n ≤ i → i < 17 → (p : Pass) × (slice_get d.callers i ≡ Some (Some p))

pub all_there : (d : Waiting) (n : ℕ) → AreAll d.callers → AreThereFrom n d
all_there d n all i from few = let w = all.placed i few in (w.0, w.1)

pub rest_there : (d : Waiting) (n : ℕ) (t : Thread) → caller_place t ≡ n → AreThereFrom n d → AreThereFrom (n + 1) (without_caller d t)
rest_there d n t e there i from few = by (has_thread d t)
  where
    by : (b : Bool) → (p : Pass) × (slice_get (if b then record d { callers = slice_set d.callers (caller_place t) None } else d).callers i ≡ Some (Some p))
    by true = let w = there i (omega (arith, from)) few in (w.0, slice_get-set_other d.callers (caller_place t) i None (λ q. omega (arith, q, e, from)) ∙ w.1)
    by false = there i (omega (arith, from)) few

pub is_there : (d : Waiting) (n : ℕ) (t : Thread) → d.managed ≡ 8 → d.peers ≡ 8 → IsThread t → caller_place t ≡ n → n < 17 → AreThereFrom n d → waits d t ≡ None → ⊥
is_there d n t m p is e few there none =
    let w = there n (omega arith) few in
    let a : waits d t ≡ Some w.0 = ap (λ b. if b then flat (slice_get d.callers (caller_place t)) else None) (has_every d t m p is) ∙ (ap (λ i. flat (slice_get d.callers i)) e ∙ ap flat w.1) in
    none-some w.0 (sym none ∙ a)
  where
    none-some : {A : Type 0} (x : A) → None ≡ Some x → ⊥
    none-some x q = cc

-- the callers given out so far: the first has place 1
pub record AreFirstOthers (others : List Pass) : Type 0 where
  pub thread : (i : ℕ) (p : Pass) → slice_get others i ≡ Some p → p.thread ≡ thread_of (i + 1)
  pub new : (i : ℕ) (p : Pass) → slice_get others i ≡ Some p → KnowsNothing p.view

pub one_other : (others : List Pass) (p : Pass) (n : ℕ) → length others + 1 ≡ n → p.thread ≡ thread_of n → KnowsNothing p.view → AreFirstOthers others → AreFirstOthers (others ++ p ∷ [])
one_other others p n e thread new h = record {
  thread = λ i q at. ⊎_elim (λ w. h.thread i q w) (λ w. ap (λ (z : Pass). z.thread) (sym w.1) ∙ (thread ∙ ap thread_of (let same : n ≡ i + 1 = (let a = w.0 in omega (arith, a, e)) in same)))
      (push_cases others p i q at);
  new = λ i q at. ⊎_elim (λ w. h.new i q w) (λ w. subst (λ (z : Pass). KnowsNothing z.view) w.1 new) (push_cases others p i q at);
}
  where
    push_cases : (xs : List Pass) (x : Pass) (i : ℕ) (y : Pass) → slice_get (xs ++ x ∷ []) i ≡ Some y → (slice_get xs i ≡ Some y) ⊎ ((i ≡ length xs) × (x ≡ y))
    push_cases [] x zero y at = inr (refl, some-same at)
      where
        some-same : {A : Type 0} {a b : A} → Some a ≡ Some b → a ≡ b
        some-same q = cc
    push_cases [] x (suc i) y at = absurd (none-some at)
      where
        none-some : {A : Type 0} {b : A} → None ≡ Some b → ⊥
        none-some q = cc
    push_cases (z ∷ xs) x zero y at = inl at
    push_cases (z ∷ xs) x (suc i) y at = ⊎_elim (λ w. inl w) (λ w. inr (let e = w.0 in omega (arith, e), w.1)) (push_cases xs x i y at)
