-- What a caller knows as its seat takes others in and gives lines away.
use Rattle.std.proofs.Common.{◌≡◌, inl, inr, ⊎_elim, ℕ, ◌+◌, List, refl, sym, ap, ◌∙◌, subst}
use mathlib.Core.List.{IsPrefix}
use Rattle.joint_machine.specs.declared.names.Thread.{Thread}
use Rattle.joint_machine.specs.declared.names.Thread.TheVariants.{M, P, C}
use Rattle.joint_machine.specs.Control.{IsDone}
use Rattle.joint_machine.specs.HistoryLines.{caller_line}
use Rattle.joint_machine.specs.Lines.{IsDriver}
use Rattle.joint_model.specs.Listed.{Stock}
use Rattle.joint_machine.specs.Told.{Noted}
use Rattle.known_laws.specs.Pasts.{end_of, line}
use Rattle.known_laws.proofs.Growing.{lines_give_parts}
use Rattle.order_table.specs.declared.views.View.{View}
use Rattle.order_table.specs.Facts.{line_entries}
use Rattle.order_table.specs.Tells.{Parts, IsOfCaller, IsOfNone, TakesIn, BeginsOneHistory}
use Rattle.order_table.specs.Views.{first_view, known}
use Rattle.view_laws.specs.Knowing.{IsDrawnView}
use Rattle.joint_history.specs.Callers.{CallerKnows, HasReleased, Hears, HoldsPass, KnowsNothing, Pass, ReadsStay}
use Rattle.joint_history.specs.Ending.{HasIdleDriver}
use Rattle.joint_history.specs.Operations.{IsOwnThread}
use Rattle.joint_history.proofs.KnownViews.{views_join, same_view}

-- the caller's own line is one of its lines
pub own_line : (t : Thread) → IsOfCaller t (caller_line t)
own_line (M n) = inl refl
own_line (P n) = refl
own_line C = refl

pub released_so : (t : Thread) (a b : List Noted) → line (caller_line t) a ≡ line (caller_line t) b → HasReleased t (end_of b) → HasReleased t (end_of a)
released_so (M n) a b e d = subst IsDone (sym ((lines_give_parts a b).doing n e)) d
released_so (P n) a b e d = tt
released_so C a b e d = tt

-- who knows the same keeps it
pub caller_same : (t : Thread) (v w : View) → CallerKnows t v → ((i : ℕ) → known w i ≡ known v i) → CallerKnows t w
caller_same t v w k same = record { known = same_view v w k.known same; released = k.released }

-- who takes another seat in keeps it
pub caller_joins : (t : Thread) (mine other new : View) → CallerKnows t mine → IsDrawnView other → TakesIn mine other new → BeginsOneHistory new → HoldsPass t mine → CallerKnows t new
caller_joins t mine other new k b takes one pass =
    let j = views_join mine other new k.known b takes one in
    record { known = j.joined; released = released_so t j.joined.known.past k.known.known.past (j.first (caller_line t) (takes.owned (caller_line t) (pass (caller_line t) (own_line t)))) k.released }

pub pass_kept : (t : Thread) (old left right : View) → Parts IsOfNone old left right → HoldsPass t old → HoldsPass t left
pass_kept t old left right p h i q = p.stayed i (λ none. none) (h i q)

pub pass_joined : (t : Thread) (mine other new : View) → TakesIn mine other new → HoldsPass t mine → HoldsPass t new
pass_joined t mine other new k h i q = (k.owns i).0 (inl (h i q))

pub hears : (t u : Thread) (es fs : Stock) (from left note mine new : View) → Parts IsOfNone from left note → TakesIn mine note new → HoldsPass t mine
    → Hears (record { thread = u; view = from; reads = es }) (record { thread = t; view = mine; reads = fs }) (record { thread = t; view = new; reads = fs })
hears t u es fs from left note mine new p k h = record {
  thread = refl;
  reads = refl;
  own_stay = ap line_entries (k.owned (caller_line t) (h (caller_line t) (own_line t)));
  either = λ i. ⊎_elim (λ e. inl e) (λ e. inr (e ∙ (p.know i).1)) (k.either i);
  knew = k.knew;
  heard = λ i. subst (λ l. IsPrefix l (known new i)) (p.know i).1 (k.heard i);
}

-- a thread that takes another seat in has made the same reads
pub reads_joined : (t : Thread) (mine other new : View) → TakesIn mine other new → HoldsPass t mine → ReadsStay t mine new
reads_joined (M n) mine other new k h = k.owned (1 + n) (h (1 + n) (inr refl))
reads_joined (P n) mine other new k h = tt
reads_joined C mine other new k h = tt

-- and so has one that gave nothing away
pub reads_parted : (t : Thread) (old left right : View) → Parts IsOfNone old left right → ReadsStay t old left
reads_parted (M n) old left right p = (p.know (1 + n)).0
reads_parted (P n) old left right p = tt
reads_parted C old left right p = tt

-- who knows what an order begins with knows nothing
pub first_knows_nothing : (v : View) → v ≡ first_view → KnowsNothing v
first_knows_nothing v e i = subst KnowsNothing (sym e) (λ j. refl) i

-- what is asked of an idle driver is nothing to a thread that is none
pub own_idle : (p : Pass) → IsOwnThread p.thread → HasIdleDriver p
own_idle p own is = absurd (by p.thread own is)
  where
    by : (t : Thread) → IsOwnThread t → IsDriver t → ⊥
    by (M n) a b = b
    by (P n) a b = b
    by C a b = a
