-- What the jobs of a run ended with: each its thread's caller, who holds that thread's lines. So all callers together
-- are those that were given out, and the finished history holds the script thread by thread.
use Rattle.std.proofs.Common.{◌≡◌, ⊎_elim, ℕ, zero, suc, ◌<◌, ◌^◌, List, [], ◌∷◌, length, map, Result, Ok, Err, refl, sym, ◌∙◌, ap, subst, arith}
use Rattle.std.specs.Prelude.{All, Contains, IfOk, slice_index_or}
use Rattle.std.proofs.lemmas.List.Elements.{All-nil, All-cons, All-contains}
use Rattle.joint_machine.specs.declared.names.Thread.{Thread}
use Rattle.joint_machine.specs.declared.lines.Act.{Act}
use Rattle.joint_machine.specs.Histories.{Finished}
use Rattle.joint_machine.specs.Lines.{IsDriver, IsManagedThread, IsThread}
use Rattle.joint_machine.specs.LinkedHistories.{IsLinked}
use Rattle.joint_machine.proofs.Members.{All-members, Contains-cons_cases, Contains-here, Contains-nil, Contains-there}
use Rattle.known_laws.specs.Lists.{made_by}
use Rattle.joint_history.specs.Callers.{Pass, own}
use Rattle.joint_history.specs.Desks.{Waiting}
use Rattle.joint_history.specs.Ending.{HasAll, HasOwn, IsFinished, HasIdleDriver, StillWaits, threads_of}
use Rattle.joint_history.proofs.Giving.{has_all_same}
use Rattle.run_laws.specs.Final.{IsRunByThreads}
use Rattle.run_laws.specs.Threads.{HoldsItsLines, NoneIsLeft}
use Rattle.run_laws.specs.Waits.{WaitsEnd}
use Rattle.run_laws.proofs.ByThreads.{threads_hold_script}
use Rattle.run_laws.proofs.Finals.{held_by_threads_is_run}
use Rattle.run_laws.proofs.Waits.{callers_waits_end}
use Rattle.bridge_script.specs.Scripts.{IsScriptLine}
use Rattle.script_runs.specs.Running.{CanRun, DriverIsFirst, EndsSo, HasRunLines, HaveRun}

-- each caller has run the lines of its job's thread
abbrev AllRan : List (Thread × Act) → List Pass → List Pass → Type 0
AllRan script [] [] = Unit {0}
AllRan script [] (p ∷ ps) = ⊥
AllRan script (j ∷ js) [] = ⊥
AllRan script (j ∷ js) (p ∷ ps) = HasRunLines script j.thread p × AllRan script js ps

ran : (E : Type 0) (script : List (Thread × Act)) (jobs callers : List Pass) → length callers ≡ length jobs
    → ((i : ℕ) (d : Pass) (e : Result Pass E) → i < length jobs → EndsSo script (slice_index_or jobs i d) (slice_index_or (map (λ p. Ok p) callers) i e)) → AllRan script jobs callers
ran E script [] [] n each = tt
ran E script [] (p ∷ ps) n each = omega arith
ran E script (j ∷ js) [] n each = omega arith
ran E script (j ∷ js) (p ∷ ps) n each = (each zero j (Ok p) (omega arith), ran E script js ps (omega arith) (λ i d e l. each (suc i) d e (omega (arith, l))))

same-length : (E : Type 0) (ps : List Pass) → length ps ≡ length (map {B = Result Pass E} (λ p. Ok p) ps)
same-length E [] = refl
same-length E (p ∷ ps) = let r = same-length E ps in omega arith

all_ran : {E : Type 0} (script : List (Thread × Act)) (jobs callers : List Pass) (ended : List (Result Pass E)) → map (λ p. Ok p) callers ≡ ended → length ended ≡ length jobs
    → ((i : ℕ) (d : Pass) (e : Result Pass E) → i < length jobs → EndsSo script (slice_index_or jobs i d) (slice_index_or ended i e)) → AllRan script jobs callers
all_ran {E} script jobs callers ended is n each =
    ran E script jobs callers (same-length E callers ∙ (ap length is ∙ n))
    (λ i d e l. subst (λ (rs : List (Result Pass E)). EndsSo script (slice_index_or jobs i d) (slice_index_or rs i e)) (sym is) (each i d e l))

ran_threads : (script : List (Thread × Act)) (jobs callers : List Pass) → AllRan script jobs callers → threads_of jobs ≡ threads_of callers
ran_threads script [] [] r = refl
ran_threads script [] (p ∷ ps) r = absurd r
ran_threads script (j ∷ js) [] r = absurd r
ran_threads script (j ∷ js) (p ∷ ps) r = let a = sym r.0.thread in let b = ran_threads script js ps r.1 in λ i. a i ∷ b i

ran_each : (script : List (Thread × Act)) (jobs callers : List Pass) → AllRan script jobs callers → All (λ p. HasRunLines script p.thread p) callers
ran_each script jobs [] r = All-nil (λ (p : Pass). HasRunLines script p.thread p)
ran_each script [] (p ∷ ps) r = absurd r
ran_each script (j ∷ js) (p ∷ ps) r = All-cons (λ (q : Pass). HasRunLines script q.thread q) p ps (subst (λ t. HasRunLines script t p) (sym r.0.thread) r.0) (ran_each script js ps r.1)

-- of those who ended a job each is one of the jobs' threads
ran_job : (script : List (Thread × Act)) (js ps : List Pass) → AllRan script js ps → (q : Pass) → Contains ps q → (j : Pass) × Contains js j × (q.thread ≡ j.thread)
ran_job script [] [] r q c = absurd (Contains-nil q c)
ran_job script [] (p ∷ ps) r q c = absurd r
ran_job script (j ∷ js) [] r q c = absurd r
ran_job script (j ∷ js) (p ∷ ps) r q c = ⊎_elim
    (λ (e : p ≡ q). (j, Contains-here j js, subst (λ (x : Pass). x.thread ≡ j.thread) e r.0.thread))
    (λ o. let w = ran_job script js ps r.1 q o in (w.0, Contains-there w.0 j js w.1, w.2))
    (Contains-cons_cases p ps q c)

ran_first : (script : List (Thread × Act)) (jobs callers : List Pass) → AllRan script jobs callers → DriverIsFirst jobs → DriverIsFirst callers
ran_first script jobs callers r first = by callers (subst (λ js. AllRan script js callers) first.all r)
  where
    by : (ps : List Pass) → AllRan script (first.driver ∷ first.others) ps → DriverIsFirst ps
    by [] r = absurd r
    by (p ∷ ps) r = record {
      driver = p;
      others = ps;
      all = refl;
      is_driver = r.0.thread ∙ first.is_driver;
      others_are = λ q c is. (let w = ran_job script first.others ps r.1 q c in first.others_are w.0 w.1 (subst IsDriver w.2 is));
    }

-- so the callers have run the script, and whoever had a job is one of them
pub record JobsEnded (script : List (Thread × Act)) (jobs callers : List Pass) : Type 0 where
  pub ran : HaveRun script callers
  pub all : (d : Waiting) → HasAll d jobs → HasAll d callers

pub jobs_ended : {E : Type 0} (script : List (Thread × Act)) (jobs callers : List Pass) (ended : List (Result Pass E)) → map (λ p. Ok p) callers ≡ ended → length ended ≡ length jobs
    → ((i : ℕ) (d : Pass) (e : Result Pass E) → i < length jobs → EndsSo script (slice_index_or jobs i d) (slice_index_or ended i e)) → DriverIsFirst jobs → JobsEnded script jobs callers
jobs_ended script jobs callers ended is n each first =
    let r = all_ran script jobs callers ended is n each in
    record {
      ran = record { driver_first = ran_first script jobs callers r first; each = ran_each script jobs callers r };
      all = λ d. has_all_same d jobs callers (ran_threads script jobs callers r);
    }

-- what is so of each caller's lines is so of all of them
by_lines : (script : List (Thread × Act)) (P : Pass → Type 0) (callers : List Pass) → HaveRun script callers → ((p : Pass) → HasRunLines script p.thread p → P p) → All P callers
by_lines script P callers ran so = All-members P callers (λ p c. so p (All-contains (λ (q : Pass). HasRunLines script q.thread q) callers p ran.each c))

pub ran_idle : (script : List (Thread × Act)) (callers : List Pass) → HaveRun script callers → All HasIdleDriver callers
ran_idle script callers ran = by_lines script HasIdleDriver callers ran (λ p r. r.idle)

pub threads_end : (script : List (Thread × Act)) (h : Finished) (d : Waiting) (callers : List Pass) → CanRun script
    → IsLinked h → IsFinished h → length h.entries < 2 ^ 64 → HaveRun script callers → HasAll d callers → NoneIsLeft script d
    → All (HasOwn h.entries) callers → ((t : Thread) → IsThread t → StillWaits d t → made_by t h.entries ≡ []) → IsRunByThreads script h
threads_end script h d callers can linked finished few ran all left owns none =
    held_by_threads_is_run script h finished few
    (threads_hold_script script h d callers linked (λ line c. All-contains IsScriptLine script line can.each c) all owns none
    (by_lines script (HoldsItsLines script) callers ran (λ p r. r.holds)) left)
    (callers_waits_end h d callers linked all owns none (by_lines script (λ p. IsManagedThread p.thread → WaitsEnd (own p)) callers ran (λ p r. r.waits)))
