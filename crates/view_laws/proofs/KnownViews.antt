-- What a seat knows stays a past.
use Rattle.std.proofs.Common.{◌≡◌, inl, inr, ⊎_elim, ℕ, ◌+◌, Bool, true, false, List, [], ◌∷◌, ◌++◌, map, refl, sym, ap, ◌∙◌, subst}
use Rattle.std.specs.Prelude.{if◌then◌else◌, ◌==◌, ◌||◌}
use Rattle.std.proofs.lemmas.Bool.{cases_Bool, both_ways}
use mathlib.Core.List.{IsPrefix}
use base.Growing.{prefix_trans}
use Rattle.joint_machine.specs.Histories.{NumberedFrom}
use Rattle.joint_machine.specs.HistoryLines.{caller_line, side_line, stands_in}
use Rattle.known_laws.specs.Growing.{Kept, entries_kept, kept_in, AreBelow, Begin, grown, shown}
use Rattle.known_laws.proofs.Growing.{nothing_is_known, known_lines_grow, known_lines_join}
use Rattle.order_table.specs.declared.views.KeptEntry.{KeptEntry}
use Rattle.order_table.specs.declared.views.View.{View}
use Rattle.order_table.specs.Rule.{Item, RunsFrom, IsBelow, of_line, is_in}
use Rattle.order_table.specs.Tells.{GrowsByEntry, BeginsOneHistory}
use Rattle.order_table.specs.Views.{IsInRole, known}
use Rattle.order_table.proofs.Lines.{role_in, caller_in, in_cases}
use Rattle.order_table.proofs.Wholes.{role_told}
use Rattle.view_laws.specs.Knowing.{of_kept, lines_of, note_of, FirstIsKnown, ViewsGrow, ViewsJoin, SameIsKnown}

-- lists as lines keep them
kept_snoc : (ks : List KeptEntry) (k : KeptEntry) → map of_kept (ks ++ k ∷ []) ≡ map of_kept ks ++ of_kept k ∷ []
kept_snoc [] k = refl
kept_snoc (x ∷ ks) k = ap (λ l. of_kept x ∷ l) (kept_snoc ks k)

kept_both : (ks ls : List KeptEntry) → map of_kept (ks ++ ls) ≡ map of_kept ks ++ map of_kept ls
kept_both [] ls = refl
kept_both (x ∷ ks) ls = ap (λ l. of_kept x ∷ l) (kept_both ks ls)

pub kept_begin : (xs ys : List KeptEntry) → IsPrefix xs ys → IsPrefix (map of_kept xs) (map of_kept ys)
kept_begin xs ys p = (map of_kept p.0, sym (kept_both xs p.0) ∙ ap (map of_kept) p.1)

pub kept_below : (n : ℕ) (ks : List KeptEntry) → IsBelow n ks → AreBelow n (map of_kept ks)
kept_below n [] b = tt
kept_below n (k ∷ ks) b = (b.0, kept_below n ks b.1)

pub first_is_known : FirstIsKnown
first_is_known = nothing_is_known

-- a line after an entry: longer by it where it stands there, else as before
pub grown_by : (v w : View) (r : ℕ) (k : KeptEntry) → GrowsByEntry v w r k → IsInRole r k.entry.made → (i : ℕ) {X : Type 0} (xs ys : X) (P : X → Type 0)
    → (known w i ≡ known v i ++ k ∷ [] → P xs) → (known w i ≡ known v i → P ys) → P (if stands_in i k.entry then xs else ys)
grown_by v w r k g s i xs ys P here there =
    let x : Item = record { role = side_line k.entry; kept = k } in
    let e : r ≡ side_line k.entry = role_told r k.entry.made s in
    let role_line : known w (side_line k.entry) ≡ known v (side_line k.entry) ++ k ∷ [] = subst (λ j. known w j ≡ known v j ++ k ∷ []) e g.role in
    ⊎_elim
    (λ (t : stands_in i k.entry ≡ true). subst (λ b. P (if b then xs else ys)) (sym t) (here (⊎_elim
    (λ (q : i ≡ side_line k.entry). subst (λ j. known w j ≡ known v j ++ k ∷ []) (sym q) role_line)
    (λ (q : i ≡ caller_line k.entry.made.caller). subst (λ j. known w j ≡ known v j ++ k ∷ []) (sym q) g.caller)
    (in_cases i x t))))
    (λ (f : stands_in i k.entry ≡ false). subst (λ b. P (if b then xs else ys)) (sym f)
    (there (g.others i (λ q. both_ways (stands_in i k.entry) f (role_in i x (q ∙ e))) (λ q. both_ways (stands_in i k.entry) f (caller_in i x q)))))
    (cases_Bool (stands_in i k.entry))

pub grown_view : (v w : View) (r : ℕ) (k : KeptEntry) → GrowsByEntry v w r k → IsInRole r k.entry.made → (i : ℕ) → lines_of w i ≡ grown (lines_of v) (of_kept k) i
grown_view v w r k g s i = grown_by v w r k g s i (lines_of v i ++ of_kept k ∷ []) (lines_of v i) (λ z. lines_of w i ≡ z) (λ q. ap (map of_kept) q ∙ kept_snoc (known v i) k) (λ q. ap (map of_kept) q)

pub views_grow : ViewsGrow
views_grow v w r k a told g s below pins may =
    let h = known_lines_grow (lines_of v) a (note_of k told) (λ i. kept_below k.entry.number (known v i) (below i)) may in
    let one : of_kept k ≡ shown (note_of k told) = (λ i. record { entry = k.entry; pins = pins i }) in
    record {
      known = record { past = record { entry = k.entry; told = h.told } ∷ a.past; lawful = h.lawful; same = λ i. grown_view v w r k g s i ∙ (ap (λ z. grown (lines_of v) z i) one ∙ h.same i) };
      told = h.told;
      past_is = refl;
      alike = h.alike;
      pins = h.pins;
      managed = h.managed;
      peer = h.peer;
    }

-- a line of one history
abbrev pub whole_kept : List Item → List Kept
whole_kept xs = map (λ (x : Item). of_kept x.kept) xs

pub line_kept : (i n : ℕ) (xs : List Item) → RunsFrom n xs → map of_kept (of_line i xs) ≡ kept_in i (whole_kept xs)
line_kept i n [] r = refl
line_kept i n (x ∷ xs) r =
    either_way (is_in i x) (line_kept i (n + 1) xs r.1)
    ∙ ap (λ b. if b then of_kept x.kept ∷ kept_in i (whole_kept xs) else kept_in i (whole_kept xs))
    (ap (λ q. (i == q) || (i == caller_line x.kept.entry.made.caller)) (role_told x.role x.kept.entry.made r.0.stands))
  where
    either_way : (b : Bool) → map of_kept (of_line i xs) ≡ kept_in i (whole_kept xs)
        → map of_kept (if b then x.kept ∷ of_line i xs else of_line i xs) ≡ (if b then of_kept x.kept ∷ kept_in i (whole_kept xs) else kept_in i (whole_kept xs))
    either_way true e = ap (λ es. of_kept x.kept ∷ es) e
    either_way false e = e

pub whole_numbered : (n : ℕ) (xs : List Item) → RunsFrom n xs → NumberedFrom n (entries_kept (whole_kept xs))
whole_numbered n [] r = tt
whole_numbered n (x ∷ xs) r = (r.0.number, whole_numbered (n + 1) xs r.1)

pub view_begins : (u : View) (o : BeginsOneHistory u) → Begin (whole_kept o.whole) (lines_of u)
view_begins u o i = subst (IsPrefix (lines_of u i)) (line_kept i 0 o.whole o.numbers) (kept_begin (known u i) (of_line i o.whole) (o.begins i))

begins_before : (whole : List Kept) (v u : View) → ((i : ℕ) → IsPrefix (known v i) (known u i)) → Begin whole (lines_of u) → Begin whole (lines_of v)
begins_before whole v u more b i = prefix_trans (lines_of v i) (lines_of u i) (kept_in i whole) (kept_begin (known v i) (known u i) (more i)) (b i)

pub views_join : ViewsJoin
views_join v w u a b t o =
    let whole = whole_kept o.whole in
    let begins = view_begins u o in
    known_lines_join whole (lines_of v) (lines_of w) (lines_of u) a b (whole_numbered 0 o.whole o.numbers) (begins_before whole v u t.knew begins) (begins_before whole w u t.heard begins) record {
      either = λ i. ⊎_elim (λ e. inl (ap (map of_kept) e)) (λ e. inr (ap (map of_kept) e)) (t.either i);
      first = λ i. kept_begin (known v i) (known u i) (t.knew i);
      second = λ i. kept_begin (known w i) (known u i) (t.heard i);
    }

pub same_is_known : SameIsKnown
same_is_known v w a same = record { known = record { past = a.past; lawful = a.lawful; same = λ i. ap (map of_kept) (same i) ∙ a.same i }; past_is = refl }
