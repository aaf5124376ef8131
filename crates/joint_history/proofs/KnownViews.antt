-- What two seats know together is a past again, as the laws of views say; here line by line of what the seats know.
-- Where a seat knows the same as another, or nothing, its past is the same, or none.
use Rattle.std.proofs.Common.{◌≡◌, ◌⊎◌, ℕ, List, [], ◌∷◌, ◌++◌, map, refl, sym, ap, ◌∙◌, subst}
use Rattle.std.specs.Prelude.{Contains}
use mathlib.Core.List.{IsPrefix}
use Rattle.joint_machine.proofs.Members.{Contains-nil}
use Rattle.joint_machine.specs.Told.{Noted}
use Rattle.known_laws.specs.Drawn.{of_drawn}
use Rattle.known_laws.specs.Growing.{all_shown, entries_kept}
use Rattle.known_laws.specs.Pasts.{end_of, line}
use Rattle.known_laws.specs.PastEntries.{InPast, entries}
use Rattle.order_table.specs.declared.views.KeptEntry.{KeptEntry}
use Rattle.order_table.specs.declared.views.View.{View}
use Rattle.order_table.specs.Facts.{line_entries}
use Rattle.order_table.specs.Tells.{BeginsOneHistory, TakesIn}
use Rattle.order_table.specs.Views.{known}
use Rattle.view_laws.specs.Knowing.{IsDrawnView, of_order}
use Rattle.view_laws.proofs.DrawnViews.{drawn_join}
use Rattle.joint_history.specs.Knowing.{line_known}

-- the entries of lists
pub entries_snoc : (ks : List KeptEntry) (k : KeptEntry) → line_entries (ks ++ k ∷ []) ≡ line_entries ks ++ k.entry ∷ []
entries_snoc [] k = refl
entries_snoc (x ∷ ks) k = ap (λ l. x.entry ∷ l) (entries_snoc ks k)

entries_both : (ks ls : List KeptEntry) → line_entries (ks ++ ls) ≡ line_entries ks ++ line_entries ls
entries_both [] ls = refl
entries_both (x ∷ ks) ls = ap (λ l. x.entry ∷ l) (entries_both ks ls)

pub entries_begin : (xs ys : List KeptEntry) → IsPrefix xs ys → IsPrefix (line_entries xs) (line_entries ys)
entries_begin xs ys p = (line_entries p.0, sym (entries_both xs p.0) ∙ ap line_entries p.1)

-- a known line's entries are those of the past's line
entries_drawn : (ks : List KeptEntry) → entries_kept (of_drawn (map of_order ks)) ≡ line_entries ks
entries_drawn [] = refl
entries_drawn (k ∷ ks) = ap (λ l. k.entry ∷ l) (entries_drawn ks)

entries_shown : (ns : List Noted) → entries_kept (all_shown ns) ≡ entries ns
entries_shown [] = refl
entries_shown (n ∷ ns) = ap (λ l. n.entry ∷ l) (entries_shown ns)

pub line_of_past : (v : View) (a : IsDrawnView v) (i : ℕ) → line_known v i ≡ entries (line i a.known.past)
line_of_past v a i = sym (entries_drawn (known v i)) ∙ (ap entries_kept (a.known.same i) ∙ entries_shown (line i a.known.past))

-- who knows the same, as after lines were given away
abbrev pub same_view : (v w : View) (a : IsDrawnView v) → ((i : ℕ) → known w i ≡ known v i) → IsDrawnView w
same_view v w a same = record {
  known = record { past = a.known.past; lawful = a.known.lawful; same = λ i. ap (λ ks. of_drawn (map of_order ks)) (same i) ∙ a.known.same i };
  told = λ i d c. a.told i d (subst (λ ks. Contains (map of_order ks) d) (same i) c);
}

-- who knows nothing
abbrev pub no_view : (v : View) → ((i : ℕ) → known v i ≡ []) → IsDrawnView v
no_view v none = record {
  known = record { past = []; lawful = tt; same = λ i. ap (λ ks. of_drawn (map of_order ks)) (none i) };
  told = λ i d c. absurd (Contains-nil d (subst (λ ks. Contains (map of_order ks) d) (none i) c));
}

-- what two seats know together: a line that is the one's or the other's is so with what is told; each entry stays with
-- what is told of it; and each side's state is that of the longer line
pub record JoinedViews (v w u : View) (a : IsDrawnView v) (b : IsDrawnView w) : Type 0 where
  pub joined : IsDrawnView u
  pub first : (i : ℕ) → known u i ≡ known v i → line i joined.known.past ≡ line i a.known.past
  pub second : (i : ℕ) → known u i ≡ known w i → line i joined.known.past ≡ line i b.known.past
  pub first_stay : (x : Noted) → InPast a.known.past x → InPast joined.known.past x
  pub second_stay : (x : Noted) → InPast b.known.past x → InPast joined.known.past x
  pub managed_first : known u 0 ≡ known v 0 → (end_of joined.known.past).managed ≡ (end_of a.known.past).managed
  pub managed_second : known u 0 ≡ known w 0 → (end_of joined.known.past).managed ≡ (end_of b.known.past).managed
  pub peer_first : known u 1 ≡ known v 1 → (end_of joined.known.past).peer ≡ (end_of a.known.past).peer
  pub peer_second : known u 1 ≡ known w 1 → (end_of joined.known.past).peer ≡ (end_of b.known.past).peer

-- of each line the one or the other list, which both begin
pub lines_join : (v w u : View) (a : IsDrawnView v) (b : IsDrawnView w) → ((i : ℕ) → (known u i ≡ known v i) ⊎ (known u i ≡ known w i))
    → ((i : ℕ) → IsPrefix (known v i) (known u i)) → ((i : ℕ) → IsPrefix (known w i) (known u i)) → BeginsOneHistory u → JoinedViews v w u a b
lines_join v w u a b either knew heard o =
    let j = drawn_join v w u a b either knew heard o in
    record {
      joined = record { known = j.joins.joined; told = j.told };
      first = λ i e. j.joins.first i (ap (λ ks. of_drawn (map of_order ks)) e);
      second = λ i e. j.joins.second i (ap (λ ks. of_drawn (map of_order ks)) e);
      first_stay = j.joins.first_stay;
      second_stay = j.joins.second_stay;
      managed_first = λ e. j.joins.managed_first (ap (λ ks. of_drawn (map of_order ks)) e);
      managed_second = λ e. j.joins.managed_second (ap (λ ks. of_drawn (map of_order ks)) e);
      peer_first = λ e. j.joins.peer_first (ap (λ ks. of_drawn (map of_order ks)) e);
      peer_second = λ e. j.joins.peer_second (ap (λ ks. of_drawn (map of_order ks)) e);
    }

pub views_join : (v w u : View) (a : IsDrawnView v) (b : IsDrawnView w) → TakesIn v w u → BeginsOneHistory u → JoinedViews v w u a b
views_join v w u a b t o = lines_join v w u a b t.either t.knew t.heard o
