-- A seat that only looked at words is settled as it was, and a side's seat knows what it knew; and an entry that it
-- makes then, it made from where it was.
use Rattle.std.proofs.Common.{◌≡◌, ◌⊎◌, ℕ, ◌*◌, ◌<◌, List, [], ◌∷◌, ◌++◌, sym, ap, ◌∙◌, subst}
use Rattle.std.specs.Prelude.{false}
use Rattle.joint_machine.specs.declared.events.Entry.{Entry}
use Rattle.joint_machine.specs.ManagedReplay.{ManagedReplay}
use Rattle.joint_machine.specs.Sides.{Side, SideRules}
use Rattle.joint_machine.specs.Told.{Told}
use Rattle.order_table.specs.declared.views.KeptEntry.{KeptEntry}
use Rattle.order_table.specs.declared.views.View.{View}
use Rattle.order_table.specs.Allowed.{Settled}
use Rattle.order_table.specs.Facts.{line_entries}
use Rattle.order_table.specs.Rows.{at}
use Rattle.order_table.specs.Rule.{IsBelow}
use Rattle.order_table.specs.Stages.{IsClosed, stage}
use Rattle.order_table.specs.Tells.{StaysAs}
use Rattle.order_table.specs.Views.{OrderId, Shown, known}
use Rattle.seat_calls.proofs.Words.{same_history}
use Rattle.joint_history.specs.Locked.{Drew, HasAppended, ManagedKnows, StaysSeated}
use Rattle.joint_history.proofs.KnownViews.{same_view}

pub settled_looked : (v w : View) → StaysAs v w → Settled v → Settled w
settled_looked v w s z = record {
  outside = s.inside ∙ z.outside;
  clear = s.owes ∙ z.clear;
  paid = λ c. ap (λ ds. at false ds c) s.debts ∙ z.paid c;
  stored = (s.fill ∙ z.stored.0, s.empty ∙ z.stored.1);
  gate = λ o. subst (λ (p : ℕ × List (List KeptEntry)). ((p.0 ≡ 0) × IsClosed (at [] p.1 0)) ⊎ ((0 < p.0) × (stage (at [] p.1 0) ≡ 2 * p.0)))
      (λ i. (sym s.holds i, sym s.known i)) (z.gate (sym (ap (λ os. at false os 0) s.owns) ∙ o));
}

pub knows_looked : (v w : View) (side : Side ManagedReplay) → StaysAs v w → ManagedKnows v side → ManagedKnows w side
knows_looked v w side s ks = record {
  known = same_view v w ks.known (λ i. ap (λ ls. at [] ls i) s.known);
  entries = ap (λ ls. line_entries (at [] ls 0)) s.known ∙ ks.entries;
  state = ks.state;
}

pub seated : (a b : Shown) → b.order ≡ a.order → StaysAs a.view b.view → StaysSeated a b
seated a b o s = record { order = o; owns = s.owns; known = s.known }

-- what a seat made between two moments at which it gave nothing away
pub appended_between : (order : OrderId) (a b c d : Shown) (r : ℕ) (k : KeptEntry) → StaysSeated a b → HasAppended order b c r k → StaysSeated c d → HasAppended order a d r k
appended_between order a b c d r k before h after = record {
  same = after.order ∙ (h.same ∙ before.order);
  grows = record {
    role = now r ∙ (h.grows.role ∙ ap (λ ks. ks ++ k ∷ []) (was r));
    caller = now _ ∙ (h.grows.caller ∙ ap (λ ks. ks ++ k ∷ []) (was _));
    others = λ i n m. now i ∙ (h.grows.others i n m ∙ was i);
    owns = after.owns ∙ (h.grows.owns ∙ before.owns);
  };
  number = λ i. subst (IsBelow k.entry.number) (was i) (h.number i);
  one_history = same_history c.view d.view after.known h.one_history;
}
  where
    was : (i : ℕ) → known b.view i ≡ known a.view i
    was i = ap (λ ls. at [] ls i) before.known

    now : (i : ℕ) → known d.view i ≡ known c.view i
    now i = ap (λ ls. at [] ls i) after.known

pub drew_between : {S : Type 0} (rules : SideRules S) (r : ℕ) (order : OrderId) (a b c d : Shown) (side side' : Side S) (e : Entry) (told : Told)
    → StaysSeated a b → Drew rules r order b c side side' e told → StaysSeated c d → Drew rules r order a d side side' e told
drew_between rules r order a b c d side side' e told before w after = record {
  kept = w.kept;
  entry = w.entry;
  target = w.target;
  freed = w.freed;
  pins = w.pins;
  appends = appended_between order a b c d r w.kept before w.appends after;
  added = w.added;
  goes = w.goes;
}
