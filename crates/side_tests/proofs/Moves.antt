-- What steps, a weakening and a restore do to a mirrored cycle.
use Rattle.std.proofs.Common.{◌≡◌, ◌⊎◌, inl, inr, ℕ, Bool, true, false, if◌then◌else◌, ◌||◌, List, [], ◌∷◌, Option, Some, None, refl, sym, ap, ◌∙◌, subst, arith}
use Rattle.joint_machine.specs.Draws.{counting}
use Rattle.joint_machine.specs.declared.names.HNum.{HNum}
use Rattle.joint_machine.specs.declared.names.Thread.{Thread}
use Rattle.joint_machine.specs.declared.names.Thread.TheVariants.{P, C}
use Rattle.joint_machine.specs.declared.lines.Act.TheVariants as act
use Rattle.joint_machine.specs.declared.events.Op.{Op}
use Rattle.joint_machine.specs.declared.events.Op.TheVariants as op
use Rattle.joint_machine.specs.declared.events.Reply.{Reply}
use Rattle.joint_machine.specs.declared.events.Reply.TheVariants as says
use Rattle.joint_machine.specs.Heaps.{Answered, answer}
use Rattle.joint_machine.specs.Lines.{IsPeerThread}
use Rattle.joint_machine.specs.Peers.{landed, next_handle, peer_of}
use Rattle.joint_machine.specs.PeerReplay.{PeerReplay, Marking, TableRow, MayRestore, peer_answer, on_table, brings, begun, given_anew, renewed_on, swept, swept_of, is_thread, restored_by, row_of}
use Rattle.joint_machine.specs.PeerReplay.{table_target, withdrawn}
use Rattle.joint_machine.proofs.Deciding.{test-cases}
use Rattle.joint_machine.specs.declared.events.Made.{Made}
use Rattle.joint_machine.specs.Sides.{Side, Making, AddsInTurn, AddsLawful, peer_rules}
use Rattle.joint_machine.specs.Told.{Told, nothing, sweep_of}
use Rattle.peer_heap.specs.Makings.{IsSideStep, MayStep, step_makings, collect_makings}
use Rattle.peer_heap.specs.Sides.{Reserve, reserve_begun}
use Rattle.side_tests.specs.Circles.{IsPlainOp, IsStillOp}

-- the handles stay as they were issued, and the cycle as it is
pub record StaysAlike (s t : PeerReplay) : Type 0 where
  pub issued : t.peers.issued ≡ s.peers.issued
  pub mirror : t.mirror ≡ s.mirror
  pub mirrors : t.mirrors ≡ s.mirrors
  pub refs : t.refs ≡ s.refs

alike-same : (s : PeerReplay) → StaysAlike s s
alike-same s = record { issued = refl; mirror = refl; mirrors = refl; refs = refl }

alike-then : (s t u : PeerReplay) → StaysAlike s t → StaysAlike t u → StaysAlike s u
alike-then s t u a b = record { issued = b.issued ∙ a.issued; mirror = b.mirror ∙ a.mirror; mirrors = b.mirrors ∙ a.mirrors; refs = b.refs ∙ a.refs }

-- an event that leaves the cycle as it is
abbrev pub IsStill : Op → Type 0
IsStill (op.Line (act.Store x v)) = Unit {0}
IsStill (op.Land h x) = Unit {0}
IsStill (op.Release h) = Unit {0}
IsStill op.Begin = Unit {0}
IsStill op.Sweep = Unit {0}
IsStill _ = ⊥

land-alike : (s : PeerReplay) (x : ℕ) (o : Option ℕ) → StaysAlike s (brings (on_table s (landed s.peers x o))).state
land-alike s x None = record { issued = refl; mirror = refl; mirrors = refl; refs = refl }
land-alike s x (Some p) = record { issued = refl; mirror = refl; mirrors = refl; refs = refl }

begun-alike : (s : PeerReplay) (o : Option Marking) (t : Thread) → StaysAlike s (begun s o t).state
begun-alike s None t = record { issued = refl; mirror = refl; mirrors = refl; refs = refl }
begun-alike s (Some mk) t = alike-same s

swept-by : (s : PeerReplay) (mk : Marking) (freed : List ℕ) (b : Bool) → StaysAlike s (if b then swept_of s mk freed else answer (says.MarkOpen record { 0 = mk.number }) s).state
swept-by s mk freed true = record { issued = refl; mirror = refl; mirrors = refl; refs = refl }
swept-by s mk freed false = alike-same s

swept-alike : (s : PeerReplay) (o : Option Marking) (t : Thread) (freed : List ℕ) → StaysAlike s (swept s o t freed).state
swept-alike s None t freed = alike-same s
swept-alike s (Some mk) t freed = swept-by s mk freed (is_thread t C || is_thread t mk.by)

pub still : (s : PeerReplay) (t : Thread) (o : Op) (cites : Option ℕ) (told : Told) → IsStill o → StaysAlike s (peer_answer s t o cites told).state
still s t (op.Line (act.Store x v)) cites told k = record { issued = refl; mirror = refl; mirrors = refl; refs = refl }
still s t (op.Land h x) cites told k = land-alike s x.0 (table_target s h.0)
still s t (op.Release h) cites told k = record { issued = refl; mirror = refl; mirrors = refl; refs = refl }
still s t op.Begin cites told k = begun-alike s s.marking t
still s t op.Sweep cites (sweep_of freed) k = swept-alike s s.marking t freed
still s t op.Sweep cites _ k = swept-alike s s.marking t []
still s t _ cites told k = absurd k

-- so do several
abbrev pub AreStill : List Making → Type 0
AreStill [] = Unit {0}
AreStill (m ∷ ms) = IsStill m.made.op × AreStill ms

pub still-in-turn : (before after : ℕ) (old new : Side PeerReplay) (ms : List Making) → AddsInTurn peer_rules counting before after old new ms → AreStill ms → StaysAlike old.state new.state
still-in-turn before after old new [] a k = subst (λ (z : Side PeerReplay). StaysAlike old.state z.state) (sym a.1) (alike-same old.state)
still-in-turn before after old new (m ∷ ms) a k =
    alike-then old.state a.1.state new.state (subst (StaysAlike old.state) (sym a.2.goes.state) (still old.state m.made.caller m.made.op m.made.cites m.told k.0))
    (still-in-turn a.0 after a.1 new ms a.3 k.1)

pub still-once : (before after : ℕ) (old new : Side PeerReplay) (m : Made) (told : Told) → AddsLawful peer_rules counting before after old new m told → IsStill m.op → StaysAlike old.state new.state
still-once before after old new m told a k = subst (StaysAlike old.state) (sym a.goes.state) (still old.state m.caller m.op m.cites told k)

-- what a begin leaves reserved
pub begun-waiting : (b : Bool) (r : Reserve) → (reserve_begun b r).waiting ≡ r.waiting
begun-waiting true r = refl
begun-waiting false r = refl

pub begun-left : (b : Bool) (r : Reserve) → (reserve_begun b r).left ≡ r.left
begun-left true r = refl
begun-left false r = refl

collect-still : (t : Thread) (index : ℕ) (r : Reply) (gone : List ℕ) → AreStill (collect_makings t index r gone)
collect-still t index (says.MarkOpen j) gone = (tt, tt)
collect-still t index _ gone = (tt, (tt, tt))

-- and the steps of the tests
pub makings-still : (t : Thread) (index : ℕ) (o : Op) (cites : Option ℕ) (r : Reply) (gone : List ℕ) → IsStillOp t o → AreStill (step_makings t index o cites r gone)
makings-still t index (op.Line act.Collect) cites r gone k = collect-still t index r gone
makings-still t index (op.Line (act.Store x None)) cites r gone k = (tt, tt)
makings-still t index (op.Land h x) cites r gone k = (tt, tt)
makings-still t index _ cites r gone k = absurd k

pub release-still : (t : Thread) (index : ℕ) (h : HNum) (cites : Option ℕ) (r : Reply) (gone : List ℕ) → AreStill (step_makings t index (op.Release h) cites r gone)
release-still t index h cites r gone = (tt, tt)

first-peer : (t : Thread) → t ≡ P 1 → IsPeerThread t
first-peer t e = subst IsPeerThread (sym e) (omega arith, omega arith)

pub still-step : (t : Thread) (o : Op) → IsStillOp t o → IsSideStep t o
still-step t (op.Line act.Collect) k = first-peer t k
still-step t (op.Line (act.Store x None)) k = (first-peer t k.0, (k.1, tt), tt)
still-step t (op.Land h x) k = (subst (λ (z : Thread). IsSideStep z (op.Land h x)) (sym k.0) ((omega arith, omega arith), k.1))
still-step t _ k = absurd k

pub still-may : (s : PeerReplay) (t : Thread) (o : Op) → IsStillOp t o → MayStep s t o None
still-may s t (op.Line act.Collect) k = refl
still-may s t (op.Line (act.Store x None)) k = tt
still-may s t (op.Land h x) k = tt
still-may s t _ k = absurd k

-- an event that asks nothing of the state
pub plain-may : (s : PeerReplay) (t : Thread) (o : Op) → IsPlainOp o → MayStep s t o None
plain-may s t (op.Make sort n) k = tt
plain-may s t (op.Grip x) k = tt
plain-may s t (op.Line (act.NewPeer v n)) k = tt
plain-may s t (op.Line (act.Store x v)) k = tt
plain-may s t (op.Line (act.Drop v)) k = tt
plain-may s t _ k = absurd k

pub plain-state : (before after : ℕ) (old new : Side PeerReplay) (t : Thread) (index : ℕ) (o : Op) (r : Reply) (gone : List ℕ) → IsPlainOp o
    → AddsInTurn peer_rules counting before after old new (step_makings t index o None r gone) → new.state ≡ (peer_answer old.state t o None nothing).state
plain-state before after old new t index (op.Make sort n) r gone k a = ap (λ (z : Side PeerReplay). z.state) a.3.1 ∙ a.2.goes.state
plain-state before after old new t index (op.Grip x) r gone k a = ap (λ (z : Side PeerReplay). z.state) a.3.1 ∙ a.2.goes.state
plain-state before after old new t index (op.Line (act.NewPeer v n)) r gone k a = ap (λ (z : Side PeerReplay). z.state) a.3.1 ∙ a.2.goes.state
plain-state before after old new t index (op.Line (act.Store x v)) r gone k a = ap (λ (z : Side PeerReplay). z.state) a.3.1 ∙ a.2.goes.state
plain-state before after old new t index (op.Line (act.Drop v)) r gone k a = ap (λ (z : Side PeerReplay). z.state) a.3.1 ∙ a.2.goes.state
plain-state before after old new t index _ r gone k a = absurd k

-- a restore of a handle of the table: it is removed, and where that is all the answer says so; else its peer gets a
-- handle with the next number
abbrev pub RestoredTo : PeerReplay → Reply → PeerReplay → ℕ → Type 0
RestoredTo s r t h = ((r ≡ says.Cleared) × (t ≡ withdrawn s h))
    ⊎ ((p : ℕ) × (peer_of s.peers.issued h ≡ Some p) × (r ≡ says.Renewed record { 0 = next_handle s.peers }) × (t ≡ given_anew (withdrawn s h) p))

restored-by : (s : PeerReplay) (h : ℕ) (row : TableRow) → RestoredTo s (restored_by s h (Some row)).reply (restored_by s h (Some row)).state h
restored-by s h row = test-cases (λ (a : Answered PeerReplay). RestoredTo s a.reply a.state h) row.cleared _ _ (inl (refl, refl)) (by (peer_of s.peers.issued h) refl)
  where
    by : (o : Option ℕ) → peer_of s.peers.issued h ≡ o → RestoredTo s (renewed_on s h o).reply (renewed_on s h o).state h
    by None e = inl (refl, refl)
    by (Some p) e = inr (p, e, refl, refl)

pub restored : (s : PeerReplay) (h : ℕ) → MayRestore s h → RestoredTo s (restored_by s h (row_of s h)).reply (restored_by s h (row_of s h)).state h
restored s h may = subst (λ o. RestoredTo s (restored_by s h o).reply (restored_by s h o).state h) (sym may.tabled) (restored-by s h may.row)
