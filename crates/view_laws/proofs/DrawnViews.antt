-- What a seat knows, as it is drawn, stays a past.
use Rattle.std.proofs.Common.{◌≡◌, ◌⊎◌, inl, inr, ⊎_elim, ℕ, List, [], ◌∷◌, ◌++◌, map, refl, sym, ap, ◌∙◌, subst}
use Rattle.std.specs.Prelude.{Contains, if◌then◌else◌}
use mathlib.Core.List.{IsPrefix}
use base.Growing.{prefix_trans}
use Rattle.joint_machine.specs.HistoryLines.{stands_in}
use Rattle.joint_machine.specs.Told.{Noted}
use Rattle.known_laws.specs.Drawn.{of_drawn, drawn_on, kept_drawn, DrawnGrow, DrawnJoin}
use Rattle.known_laws.specs.Growing.{kept_in, grown, shown, AreBelow, Begin}
use Rattle.known_laws.specs.Pasts.{end_of}
use Rattle.known_laws.proofs.Drawing.{drawn_lines_grow, drawn_lines_join}
use Rattle.order_table.specs.declared.views.KeptEntry.{KeptEntry}
use Rattle.order_table.specs.declared.views.View.{View}
use Rattle.order_table.specs.Tells.{BeginsOneHistory}
use Rattle.order_table.specs.Views.{known}
use Rattle.view_laws.specs.Knowing.{of_kept, of_order, lines_of, note_of, drawn_lines, IsDrawnView, DrawnViewsGrow, DrawnViewsJoin}
use Rattle.view_laws.proofs.KnownViews.{grown_by, grown_view, kept_begin, kept_below, view_begins, whole_kept, whole_numbered}

kept-drawn : (ks : List KeptEntry) → of_drawn (map of_order ks) ≡ map of_kept ks
kept-drawn [] = refl
kept-drawn (k ∷ ks) = ap (λ l. of_kept k ∷ l) (kept-drawn ks)

snoc-order : (ks : List KeptEntry) (k : KeptEntry) → map of_order (ks ++ k ∷ []) ≡ map of_order ks ++ of_order k ∷ []
snoc-order [] k = refl
snoc-order (x ∷ ks) k = ap (λ l. of_order x ∷ l) (snoc-order ks k)

pub drawn_views_grow : DrawnViewsGrow
drawn_views_grow v w r k a told g s below pins draws may = record {
  known = record {
    known = record {
      past = record { entry = k.entry; told = h.grows.told } ∷ a.known.past;
      lawful = h.grows.lawful;
      same = λ i. kept-drawn (known w i) ∙ (grown_view v w r k g s i ∙ (again i ∙ h.grows.same i));
    };
    told = λ i d c. h.told i d (subst (λ l. Contains l d) (lines i) c);
  };
  told = h.grows.told;
  past_is = refl;
  alike = h.grows.alike;
  pins = h.grows.pins;
  managed = h.grows.managed;
  peer = h.grows.peer;
}
  where
    n : Noted
    n = note_of k told

    h : DrawnGrow (drawn_lines v) a.known.past n
    h = drawn_lines_grow (drawn_lines v) a n (λ i. subst (AreBelow k.entry.number) (sym (kept-drawn (known v i))) (kept_below k.entry.number (known v i) (below i))) may

    one : of_kept k ≡ shown n
    one = λ i. record { entry = k.entry; pins = pins i }

    d : kept_drawn (end_of a.known.past) n ≡ of_order k
    d = λ i. record { drawn = draws i; pins = sym pins i }

    again : (i : ℕ) → grown (lines_of v) (of_kept k) i ≡ grown (λ j. of_drawn (drawn_lines v j)) (shown n) i
    again i = ap (λ z. grown (lines_of v) z i) one ∙ sym (ap (λ l. if stands_in i k.entry then l ++ shown n ∷ [] else l) (kept-drawn (known v i)))

    lines : (i : ℕ) → drawn_lines w i ≡ drawn_on (drawn_lines v) (kept_drawn (end_of a.known.past) n) i
    lines i = grown_by v w r k g s i (drawn_lines v i ++ of_order k ∷ []) (drawn_lines v i) (λ z. map of_order (known w i) ≡ z)
        (λ q. ap (map of_order) q ∙ snoc-order (known v i) k) (λ q. ap (map of_order) q) ∙ sym (ap (λ z. drawn_on (drawn_lines v) z i) d)

-- what is known of one history begins its lines
pub drawn_begins : (u : View) (o : BeginsOneHistory u) (x : View) → ((i : ℕ) → IsPrefix (known x i) (known u i)) → Begin (whole_kept o.whole) (λ i. of_drawn (drawn_lines x i))
drawn_begins u o x more i = subst (λ l. IsPrefix l (kept_in i (whole_kept o.whole))) (sym (kept-drawn (known x i)))
    (prefix_trans (lines_of x i) (lines_of u i) (kept_in i (whole_kept o.whole)) (kept_begin (known x i) (known u i) (more i)) (view_begins u o i))

-- of each line the one or the other list, which both begin
pub drawn_join : (v w u : View) (a : IsDrawnView v) (b : IsDrawnView w) → ((i : ℕ) → (known u i ≡ known v i) ⊎ (known u i ≡ known w i))
    → ((i : ℕ) → IsPrefix (known v i) (known u i)) → ((i : ℕ) → IsPrefix (known w i) (known u i)) → BeginsOneHistory u
    → DrawnJoin a.known.past b.known.past (drawn_lines v) (drawn_lines w) (drawn_lines u)
drawn_join v w u a b either knew heard o = drawn_lines_join (whole_kept o.whole) (drawn_lines v) (drawn_lines w)
    (drawn_lines u) a b (whole_numbered 0 o.whole o.numbers) (drawn_begins u o v knew) (drawn_begins u o w heard) record {
      either = λ i. ⊎_elim (λ e. inl (ap (map of_order) e)) (λ e. inr (ap (map of_order) e)) (either i);
      longer = record {
        either = λ i. ⊎_elim (λ e. inl (ap (λ l. of_drawn (map of_order l)) e)) (λ e. inr (ap (λ l. of_drawn (map of_order l)) e)) (either i);
        first = λ i. longer (known v i) (known u i) (knew i);
        second = λ i. longer (known w i) (known u i) (heard i);
      };
    }
  where
    longer : (xs ys : List KeptEntry) → IsPrefix xs ys → IsPrefix (of_drawn (map of_order xs)) (of_drawn (map of_order ys))
    longer xs ys p = subst (λ l. IsPrefix l (of_drawn (map of_order ys))) (sym (kept-drawn xs)) (subst (IsPrefix (map of_kept xs)) (sym (kept-drawn ys)) (kept_begin xs ys p))

pub drawn_views_join : DrawnViewsJoin
drawn_views_join v w u a b t o = drawn_join v w u a b t.either t.knew t.heard o
