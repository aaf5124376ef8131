-- The callers come in the order of their places, and each but the driver's has a line: a caller whose place is past all
-- others goes behind them.
use Rattle.std.proofs.Common.{◌≡◌, ◌⊎◌, inl, inr, ℕ, zero, suc, ◌+◌, ◌<◌, true, List, [], ◌∷◌, ◌++◌, map, Some, sym, ◌∙◌, ap, subst, arith}
use Rattle.std.specs.Prelude.{All, Contains, slice_get}
use Rattle.std.proofs.lemmas.List.{map-append}
use Rattle.std.proofs.lemmas.List.Elements.{All-nil, All-push, All-weaker}
use Rattle.joint_machine.specs.declared.lines.Act.{Act}
use Rattle.joint_machine.specs.declared.names.Thread.{Thread}
use Rattle.joint_machine.specs.declared.names.Thread.TheVariants.{C}
use Rattle.joint_machine.specs.Components.{Rises}
use Rattle.joint_machine.specs.Control.{caller_place}
use Rattle.joint_machine.specs.Lines.{IsDriver}
use Rattle.joint_machine.specs.PeerReplay.{is_thread}
use Rattle.joint_machine.proofs.Members.{Contains-filter_to, Contains-here, Contains-nil, Contains-there, Rises-push}
use Rattle.joint_history.specs.Callers.{Pass}
use Rattle.joint_history.specs.Desks.{thread_of}
use Rattle.joint_history.proofs.Desking.{thread_is}
use Rattle.script_laws.specs.Holding.{numbered_from}
use Rattle.script_runs.specs.Running.{AreWorkers, HasLine}

-- a thread of which a line is seen has one
numbered-there : (script : List (Thread × Act)) (k i : ℕ) (line : Thread × Act) → slice_get script i ≡ Some line → (n : ℕ) × Contains (numbered_from k script) (n, line)
numbered-there [] k i line e = absurd cc
numbered-there (l ∷ ls) k zero line e = (k, let same : l ≡ line = cc in subst (λ z. Contains (numbered_from k (l ∷ ls)) (k, z)) same (Contains-here (k, l) (numbered_from (k + 1) ls)))
numbered-there (l ∷ ls) k (suc i) line e = let w = numbered-there ls (k + 1) i line e in (w.0, Contains-there (w.0, line) (k, l) (numbered_from (k + 1) ls) w.1)

pub line_seen : (script : List (Thread × Act)) (t : Thread) (i : ℕ) (line : Thread × Act) → slice_get script i ≡ Some line → is_thread t line.0 ≡ true → HasLine script t
line_seen script t i line e is none =
    let w = numbered-there script 1 i line e in
    Contains-nil (w.0, line) (subst (λ l. Contains l (w.0, line)) none (Contains-filter_to (λ z. is_thread t z.1.0) (numbered_from 1 script) (w.0, line) w.1 is))

-- the callers up to a place
pub record InOrder (script : List (Thread × Act)) (callers : List Pass) (n : ℕ) : Type 0 where
  pub are : AreWorkers script callers
  pub below : All (λ y. y < n) (map (λ p. caller_place p.thread) callers)

pub first_in_order : (script : List (Thread × Act)) (p : Pass) → p.thread ≡ C → InOrder script (p ∷ []) 1
first_in_order script p e =
    let at : caller_place p.thread ≡ 0 = ap caller_place e in
    record {
      are = record {
        rise = (All-nil (λ y. caller_place p.thread < y), tt);
        each = All-push (λ (q : Pass). IsDriver q.thread ⊎ HasLine script q.thread) [] p (All-nil (λ (q : Pass). IsDriver q.thread ⊎ HasLine script q.thread)) (inl (subst IsDriver (sym e) tt));
      };
      below = All-push (λ y. y < 1) [] (caller_place p.thread) (All-nil (λ y. y < 1)) (omega (arith, at));
    }

pub next_in_order : (script : List (Thread × Act)) (callers : List Pass) (p : Pass) (n : ℕ) → n < 17 → p.thread ≡ thread_of n
    → HasLine script (thread_of n) → InOrder script callers n → InOrder script (callers ++ p ∷ []) (n + 1)
next_in_order script callers p n few is has o =
    let at : caller_place p.thread ≡ n = ap caller_place is ∙ (thread_is n few).1 in
    let all = map-append (λ (q : Pass). caller_place q.thread) callers (p ∷ []) in
    record {
      are = record {
        rise = subst Rises (sym all) (Rises-push (map (λ (q : Pass). caller_place q.thread) callers) (caller_place p.thread) o.are.rise
            (subst (λ k. All (λ y. y < k) (map (λ (q : Pass). caller_place q.thread) callers)) (sym at) o.below));
        each = All-push (λ q. IsDriver q.thread ⊎ HasLine script q.thread) callers p o.are.each (inr (subst (HasLine script) (sym is) has));
      };
      below = subst (All (λ y. y < n + 1)) (sym all) (All-push (λ y. y < n + 1) (map (λ (q : Pass). caller_place q.thread) callers) (caller_place p.thread)
          (All-weaker (λ y. y < n) (λ y. y < n + 1) (λ y l. omega (arith, l)) (map (λ (q : Pass). caller_place q.thread) callers) o.below) (omega (arith, at)));
    }

pub passed_in_order : (script : List (Thread × Act)) (callers : List Pass) (n : ℕ) → InOrder script callers n → InOrder script callers (n + 1)
passed_in_order script callers n o = record { are = o.are; below = All-weaker (λ y. y < n) (λ y. y < n + 1) (λ y l. omega (arith, l)) (map (λ p. caller_place p.thread) callers) o.below }
