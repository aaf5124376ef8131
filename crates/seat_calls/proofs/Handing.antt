-- A caller's lines are handed to a locked seat and back.
use Rattle.std.proofs.Common.{◌≡◌, inl, inr, ⊎_elim, ℕ, [], ◌∷◌, sym, ◌∙◌, subst}
use Rattle.std.proofs.lemmas.Bool.{cases_eq}
use mathlib.Core.List.{IsPrefix}
use base.Growing.{prefix_anti, prefix_refl}
use Rattle.joint_machine.specs.declared.names.Thread.{Thread}
use Rattle.joint_machine.specs.HistoryLines.{caller_line}
use Rattle.order_table.specs.declared.views.KeptEntry.{KeptEntry}
use Rattle.order_table.specs.declared.views.View.{View}
use Rattle.order_table.specs.Tells.{GrowsByEntry, Parts, IsOfCaller, TakesIn, BeginsOneHistory}
use Rattle.order_table.specs.Views.{known}
use Rattle.seat_calls.specs.Passing.{Lends, Returns}

pub lends : (t : Thread) (locked mine locked' mine' pass : View) → Parts (IsOfCaller t) mine mine' pass → TakesIn locked pass locked' → BeginsOneHistory locked' → Lends t locked mine locked' mine'
lends t locked mine locked' mine' pass p k o = record {
  kept = λ i q. (k.owns i).0 (inl q);
  lines = λ i g q. (k.owns i).0 (inr (p.went i g q));
  either = λ i. ⊎_elim (λ e. inl e) (λ e. inr (e ∙ (p.know i).1)) (k.either i);
  knew = k.knew;
  heard = λ i. subst (λ l. IsPrefix l (known locked' i)) (p.know i).1 (k.heard i);
  whole = k.owned;
  own = λ i g q. k.taken i (p.went i g q) ∙ (p.know i).1;
  same = λ i. (p.know i).0;
  one_history = o;
}

pub returns : (t : Thread) (locked mine locked' mine' pass : View) → Parts (IsOfCaller t) locked locked' pass
    → TakesIn mine pass mine' → ((i : ℕ) → IsPrefix (known mine i) (known locked i)) → Returns t locked mine locked' mine'
returns t locked mine locked' mine' pass p k more = record {
  kept = λ i n q. p.stayed i n q;
  lines = λ i g q. (k.owns i).0 (inr (p.went i g q));
  more = λ i q. (k.owns i).0 (inl q);
  stays = λ i. (p.know i).0;
  same = λ i. ⊎_elim
      (λ (e : known mine' i ≡ known mine i). e ∙ prefix_anti (known mine i) (known locked i) (more i)
      (subst (λ l. IsPrefix l (known mine i)) (p.know i).1 (subst (λ l. IsPrefix (known pass i) l) e (k.heard i))))
      (λ e. e ∙ (p.know i).1)
      (k.either i);
}

-- who makes an entry knows all that it knew
pub grows_begins : (v w : View) (r : ℕ) (k : KeptEntry) → GrowsByEntry v w r k → (i : ℕ) → IsPrefix (known v i) (known w i)
grows_begins v w r k g i = ⊎_elim
    (λ (e : i ≡ r). subst (λ j. IsPrefix (known v j) (known w j)) (sym e) (k ∷ [], sym g.role))
    (λ n. ⊎_elim
    (λ (e : i ≡ caller_line k.entry.made.caller). subst (λ j. IsPrefix (known v j) (known w j)) (sym e) (k ∷ [], sym g.caller))
    (λ n'. subst (IsPrefix (known v i)) (sym (g.others i n n')) (prefix_refl (known v i)))
    (cases_eq i (caller_line k.entry.made.caller)))
    (cases_eq i r)
