-- Once a caller's lines were lent, the managed seat owns them beside its own list, and knows the side as it is. Between
-- two entries that a seat makes meanwhile it might have given them back and been lent them again.
use Rattle.std.proofs.Common.{ℕ, [], inl, refl, sym, ap, ◌∙◌, true≢false}
use base.Growing.{prefix_refl}
use Rattle.joint_machine.specs.declared.names.Thread.{Thread}
use Rattle.joint_machine.specs.ManagedReplay.{ManagedReplay}
use Rattle.joint_machine.specs.Sides.{Side}
use Rattle.order_table.specs.declared.views.View.{View}
use Rattle.order_table.specs.Facts.{line_entries}
use Rattle.order_table.specs.Tells.{BeginsOneHistory}
use Rattle.order_table.specs.Views.{Owns, known}
use Rattle.seat_calls.specs.Passing.{Lends, Returns}
use Rattle.view_laws.specs.Knowing.{IsDrawnView}
use Rattle.joint_history.specs.Locked.{ManagedKnows}
use Rattle.joint_history.proofs.LockedSteps.{lent_joined}

pub knows_lent : (t : Thread) (locked mine lent mine1 : View) (side : Side ManagedReplay) → Owns locked 0
    → ManagedKnows locked side → IsDrawnView mine → Lends t locked mine lent mine1 → ManagedKnows lent side
knows_lent t locked mine lent mine1 side owns ks m l =
    let j = lent_joined t locked mine lent mine1 l ks.known m in
    record { known = j.joined; entries = ap line_entries (l.whole 0 owns) ∙ ks.entries; state = j.managed_first (l.whole 0 owns) ∙ ks.state }

-- a seat that knows the same and owns nothing
abbrev pub bare : View → View
bare v = record v { owns = [] }

owns_none : (A : Type 0) (v : View) (i : ℕ) → Owns (bare v) i → A
owns_none A v i o = absurd (true≢false (sym o))

-- the lines were lent by one that owns nothing else
pub lends_bare : (t : Thread) (locked mine lent mine1 : View) → Lends t locked mine lent mine1 → Lends t locked mine lent (bare mine)
lends_bare t locked mine lent mine1 l = record {
  kept = l.kept;
  lines = l.lines;
  either = l.either;
  knew = l.knew;
  heard = l.heard;
  whole = l.whole;
  own = l.own;
  same = λ i. refl;
  one_history = l.one_history;
}

pub returns_bare : (t : Thread) (lent2 mine1 locked2 mine2 v : View) → Returns t lent2 mine1 locked2 mine2 → Returns t lent2 (bare v) locked2 mine2
returns_bare t lent2 mine1 locked2 mine2 v b = record { kept = b.kept; lines = b.lines; more = λ i o. owns_none (Owns mine2 i) v i o; stays = b.stays; same = b.same }

-- given back to itself, and lent by itself
pub pauses : (t : Thread) (v mine : View) → Returns t v (bare mine) v v
pauses t v mine = record { kept = λ i n o. o; lines = λ i g o. o; more = λ i o. owns_none (Owns v i) mine i o; stays = λ i. refl; same = λ i. refl }

pub goes_on : (t : Thread) (v : View) → BeginsOneHistory v → Lends t v v v (bare v)
goes_on t v h = record {
  kept = λ i o. o;
  lines = λ i g o. o;
  either = λ i. inl refl;
  knew = λ i. prefix_refl (known v i);
  heard = λ i. prefix_refl (known v i);
  whole = λ i o. refl;
  own = λ i g o. refl;
  same = λ i. refl;
  one_history = h;
}
