-- Desks that gave two callers out.
use Rattle.std.proofs.Common.{◌≡◌, [], ◌∷◌, ◌++◌, List, Option, Some, sym, ap, ◌∙◌, subst}
use Rattle.std.specs.Prelude.{option_to_list}
use Rattle.joint_machine.specs.declared.names.Thread.{Thread}
use Rattle.joint_history.specs.Callers.{Pass}
use Rattle.joint_history.specs.Desks.{Waiting}
use Rattle.joint_history.specs.Ending.{HasAll, threads_of}
use Rattle.joint_history.proofs.Giving.{has_all_same}

same_threads : (a b c d : Pass) (t u : Thread) → a.thread ≡ t → b.thread ≡ u → c.thread ≡ t → d.thread ≡ u → threads_of (b ∷ a ∷ []) ≡ threads_of (d ∷ c ∷ [])
same_threads a b c d t u at_a at_b at_c at_d = ap (λ x. x ∷ a.thread ∷ []) (at_b ∙ sym at_d) ∙ ap (λ y. d.thread ∷ y ∷ []) (at_a ∙ sym at_c)

-- once two callers were given out, each thread's caller waits or is one of them, as they stand later
pub both_given : (d0 d1 d2 : Waiting) (r1 r2 : Option Pass) (a b c d : Pass) (t u : Thread) (ps : List Pass) → HasAll d0 [] → ((qs : List Pass) → HasAll d0 qs → HasAll d1 (option_to_list r1 ++ qs))
    → ((qs : List Pass) → HasAll d1 qs → HasAll d2 (option_to_list r2 ++ qs)) → r1 ≡ Some a → r2 ≡ Some b → a.thread ≡ t → b.thread ≡ u → c.thread ≡ t → d.thread ≡ u → ps ≡ d ∷ c ∷ [] → HasAll d2 ps
both_given d0 d1 d2 r1 r2 a b c d t u ps all first second is_a is_b at_a at_b at_c at_d e =
    subst (HasAll d2) (sym e)
    (has_all_same d2 (b ∷ a ∷ []) (d ∷ c ∷ []) (same_threads a b c d t u at_a at_b at_c at_d)
    (subst (λ r. HasAll d2 (option_to_list r ++ (a ∷ []))) is_b (second (a ∷ []) (subst (λ r. HasAll d1 (option_to_list r ++ [])) is_a (first [] all)))))
