-- The steps on the sequencer keep the rule, and tell what they say: an append, a split, a join and the load after it.
--
-- The rule has one history, and a seat knows a beginning of each of its lines. An append makes the history one entry
-- longer: who makes it owns both lines in which the entry stands, so nobody else's lines are whole any more, and they
-- stay beginnings. A split and a join change owners alone. A join keeps both views side by side; the load after it
-- compares them, and takes of each line the longer list, since both are beginnings of one line; where one of the two
-- owned the line, it knew it whole, and so the longer list is that one's.
use Rattle.std.proofs.Common.{◌≡◌, ◌≢◌, ◌⊎◌, inl, inr, ⊎_elim, ℕ, zero, suc, ◌+◌, ◌*◌, ◌/◌, ◌%◌, ◌^◌, ◌<◌, ◌≤◌, Bool, true, false, not, ◌&&◌, List, [], ◌∷◌, ◌++◌, length, get_or, set, refl, sym, ap}
use Rattle.std.proofs.Common.{◌∙◌, subst, arith, length-append, length-set, get_or-set_same, get_or-set_other, eq-eqb, ne_eqb, true≢false}
use Rattle.std.specs.Prelude.{if◌then◌else◌, ◌==◌, Option, Some, None, replicate}
use Rattle.std.proofs.lemmas.Bool.{cases_Bool, cases_eq, and_parts, or_cases, not-true, both_ways}
use mathlib.Core.Option.{none, some, some-injective, some-ne-none}
use mathlib.Core.List.{IsPrefix}
use base.Growing.{prefix_refl}
use lib.ListN.{get_elem?}
use lib.Seq.{set-get_or}
use Rattle.atomic_table.specs.Table.{State, Me, step, keeps, Allows, Splits, Joins, opening}
use Rattle.atomic_table.proofs.Lists.{at_set, set_here, set_else, at_longer, at_last}
use Rattle.joint_machine.specs.declared.names.MNum.{MNum}
use Rattle.joint_machine.specs.declared.names.Var.{Var}
use Rattle.joint_machine.specs.declared.lines.Act.TheVariants as act
use Rattle.joint_machine.specs.declared.events.Op.{Op}
use Rattle.joint_machine.specs.declared.events.Op.TheVariants as op
use Rattle.joint_machine.specs.declared.events.Made.{Made}
use Rattle.joint_machine.specs.Control.{caller_place}
use Rattle.order_table.specs.declared.views.KeptEntry.{KeptEntry}
use Rattle.order_table.specs.declared.views.View.{View}
use Rattle.joint_machine.specs.HistoryLines.{caller_line}
use Rattle.order_table.specs.Rows.{at, longer}
use Rattle.order_table.specs.Stages.{IsClosed, Deed, opens, ends, neither, deed, stage_after, stage}
use Rattle.order_table.specs.Owed.{PinDeed, fills, empties, pin_deed, owing, pin, pin_after, marked, target, has, is_freed, by_place, owes_after, stays, fill_after, empty_after, read_of}
use Rattle.order_table.specs.Views.{IsNext, IsCompared, IsInRole, lines_of_none, pins_kept, pin_owed, OwnsAll, IsOpen, kept, known, Owns, first_view, spent_view, appended, giving, given, hearing}
use Rattle.order_table.specs.Views.{learned}
use Rattle.order_table.specs.Allowed.{Settled, NoDebt, MaySet, SaysPending, MayDo, MayMake, IsQuiet}
use Rattle.order_table.specs.Rule.{HasOwner, HasBit, Scans, Pinned, ReadsWord, CellIs, Debts, EachLoad, Celled, Unknown, IsLetIn, NotOver, Follows, IsSnapped, IsSnappedBefore, Waits, IsPending, IsDue, Stands, Item, is_in, of_line, RunsFrom}
use Rattle.order_table.specs.Rule.{IsBelow, Knows, Gates, IsHeldFor, Ordered, AreLinesOfOneHistory}
use Rattle.order_table.specs.Tells.{Appended, Compared, Compares}
use Rattle.joint_machine.specs.Lines.{IsThread, is_read}
use Rattle.order_table.proofs.Gate.{no_bit, if_true, if_false, stage_more, held_more, gates_giving, gates_given, gates_spent, gates_hearing, gates_learned, gates_appended}
use Rattle.std.proofs.Math.Nat.{one-le-pow}
use Rattle.order_table.proofs.Pins.{no_scans, scans_more, pin_at, scanned_at, pin_more, owing_after, pinned_keep, not_storing, not_clearing, pinned_entry, filling, filling_last}
use Rattle.order_table.proofs.Says.{at_by_place, none_not, target_cases}
use Rattle.order_table.proofs.Cells.{paid_more, cell_after, settled_cell, none_owed, loads_more, load_there, debts_more, debts_giving, debts_given, debts_spent, debts_hearing, debts_learned}
use Rattle.order_table.proofs.Cells.{celled_same}
use Rattle.order_table.proofs.Waits.{stands_cases, stands_more, stands_last, stands_below, waits_more, waits_same, waits_not, waiting_views, waiting_other, waiting_managed}
use Rattle.order_table.proofs.Free.{Free, peer_stays, may_pin, frees_held, sets_frees_none, others_mark, others_free}
use Rattle.order_table.proofs.Lines.{of_line_in, of_line_out, runs_more, below_line, below_item, below_begins, bounded, in_cases, role_in, caller_in, appended_in, appended_out}
use Rattle.order_table.proofs.Places.{at_put_here, begins_more, longer_begins, first_begins_longer, second_begins_longer, whole_longer, longer_whole, at_longest, at_joined, at_common, at_without}
use Rattle.order_table.proofs.Places.{or_true}

abbrev St : Type 0
St = State (Unit {0}) View

abbrev M : Type 0
M = Me (Unit {0}) View

-- what all views know stays true when a seat's view and the history change
pub seats : (K : ℕ → View → Type 0) (vs : List View) (me : ℕ) (w : View) → K me w → ((j : ℕ) (v : View) → j ≢ me → get_elem? vs j ≡ some v → K j v)
    → (j : ℕ) (v : View) → get_elem? (set vs me w) j ≡ some v → K j v
seats K vs me w mine others j v e = ⊎_elim (λ (t : (j ≡ me) × (w ≡ v)). subst (λ (z : ℕ × View). K z.0 z.1) (λ i. (sym t.0 i, t.1 i)) mine)
    (λ (t : (j ≢ me) × (get_elem? vs j ≡ some v)). others j v t.0 t.1) (at_set vs me j w v e)

-- nothing that was heard is owned
pub unheard : (v : View) → v.heard_owns ≡ [] → (i : ℕ) → at false v.heard_owns i ≡ true → ⊥
unheard v bare i o = both_ways (at false v.heard_owns i) (ap (λ l. at false l i) bare) o

within : (l : List View) (j : ℕ) (a : View) → get_elem? l j ≡ some a → j < length l
within [] j a e = absurd (some-ne-none a (sym e))
within (x ∷ xs) zero a e = omega arith
within (x ∷ xs) (suc j) a e = let r = within xs j a e in omega arith

-- a line keeps its owner when a seat's view changes that owns it as before
abbrev pub Holds : View → ℕ → Type 0
Holds v i = Owns v i ⊎ (at false v.heard_owns i ≡ true)

pub owner_set : (vs : List View) (i j me : ℕ) (v w : View) → get_elem? vs me ≡ some v → (Holds v i → Holds w i) → HasOwner vs i j → HasOwner (set vs me w) i j
owner_set vs i j me v w here still h = ⊎_elim
    (λ (e : j ≡ me). record {
      view = w;
      there = subst (λ k. get_elem? (set vs me w) k ≡ some w) (sym e) (set_here vs me w (within vs me v here));
      owns = still (subst (λ u. Holds u i) (some-injective h.view v (sym h.there ∙ (ap (get_elem? vs) e ∙ here))) h.owns);
    })
    (λ n. record { view = h.view; there = set_else vs me j w n ∙ h.there; owns = h.owns })
    (cases_eq j me)

-- who has made its entry knows its lines whole again
knows_appended : (whole : List Item) (owner : ℕ → ℕ) (j : ℕ) (v : View) (x : Item) → Knows whole owner j v → v.heard_owns ≡ [] → v.heard ≡ [] → x.role < 10
    → Owns v x.role → Owns v (caller_line x.kept.entry.made.caller) → Knows (whole ++ x ∷ []) owner j (appended v x.role x.kept)
knows_appended whole owner j v x k bare bare' small a b =
    let owns_in : (i : ℕ) → is_in i x ≡ true → Owns v i = λ i e. ⊎_elim (λ r. subst (Owns v) (sym r) a) (λ r. subst (Owns v) (sym r) b) (in_cases i x e) in
    let here : (i : ℕ) → is_in i x ≡ true → known (appended v x.role x.kept) i ≡ of_line i (whole ++ x ∷ []) = λ i e.
    appended_in v x i small e ∙ (ap (λ ks. ks ++ x.kept ∷ []) (k.owned i (owns_in i e)).1 ∙ sym (of_line_in i whole x e)) in
    record {
      begins = λ i. ⊎_elim
          (λ e. subst (λ ks. IsPrefix ks (of_line i (whole ++ x ∷ []))) (sym (here i e)) (prefix_refl (of_line i (whole ++ x ∷ []))))
          (λ e. subst (λ (z : List KeptEntry × List KeptEntry). IsPrefix z.0 z.1) (λ c. (sym (appended_out v x i e) c, sym (of_line_out i whole x e) c)) (k.begins i))
          (cases_Bool (is_in i x));
      heard = λ i. subst (λ h. IsPrefix (at [] h i) (of_line i (whole ++ x ∷ []))) (sym bare') (of_line i (whole ++ x ∷ []), refl);
      owned = λ i o. ((k.owned i o).0, ⊎_elim (λ e. here i e) (λ e. appended_out v x i e ∙ ((k.owned i o).1 ∙ sym (of_line_out i whole x e))) (cases_Bool (is_in i x)));
      heard_owned = λ i o. absurd (both_ways (at false v.heard_owns i) (ap (λ l. at false l i) bare) o);
    }

-- what another view knows stays true
knows_other : (whole : List Item) (owner : ℕ → ℕ) (j me : ℕ) (u v : View) (x : Item) → j ≢ me → Knows whole owner j u → Knows whole owner me v
    → Owns v x.role → Owns v (caller_line x.kept.entry.made.caller) → Knows (whole ++ x ∷ []) owner j u
knows_other whole owner j me u v x other k mine a b =
    let owns_in : (i : ℕ) → is_in i x ≡ true → Owns v i = λ i e. ⊎_elim (λ r. subst (Owns v) (sym r) a) (λ r. subst (Owns v) (sym r) b) (in_cases i x e) in
    let more : (i : ℕ) (ks : List KeptEntry) → IsPrefix ks (of_line i whole) → IsPrefix ks (of_line i (whole ++ x ∷ [])) = λ i ks p. ⊎_elim
    (λ e. subst (IsPrefix ks) (sym (of_line_in i whole x e)) (begins_more ks (of_line i whole) (x.kept ∷ []) p))
    (λ e. subst (IsPrefix ks) (sym (of_line_out i whole x e)) p)
    (cases_Bool (is_in i x)) in
    record {
      begins = λ i. more i (known u i) (k.begins i);
      heard = λ i. more i (at [] u.heard i) (k.heard i);
      owned = λ i o. (
        (k.owned i o).0,
        ⊎_elim
            (λ e. absurd (other (sym (k.owned i o).0 ∙ (mine.owned i (owns_in i e)).0)))
            (λ e. (k.owned i o).1 ∙ sym (of_line_out i whole x e))
            (cases_Bool (is_in i x)),
      );
      heard_owned = λ i o. (
        (k.heard_owned i o).0,
        ⊎_elim
            (λ e. absurd (other (sym (k.heard_owned i o).0 ∙ (mine.owned i (owns_in i e)).0)))
            (λ e. (k.heard_owned i o).1 ∙ sym (of_line_out i whole x e))
            (cases_Bool (is_in i x)),
      );
    }

-- what a seat that has made its entry knows of a line: what it knew, or the entry
appended_cases : (v : View) (x : Item) (i : ℕ) (y : KeptEntry) → x.role < 10 → Stands (known (appended v x.role x.kept) i) y → Stands (known v i) y ⊎ (x.kept ≡ y)
appended_cases v x i y small st = ⊎_elim
    (λ e. stands_cases (known v i) x.kept y (subst (λ ks. Stands ks y) (appended_in v x i small e) st))
    (λ e. inl (subst (λ ks. Stands ks y) (appended_out v x i e) st))
    (cases_Bool (is_in i x))

no_free : (freed : List MNum) → ((m : ℕ) → has freed m ≡ true → ⊥) → (x : ℕ) → has freed x ≡ false
no_free freed f x = ⊎_elim (λ e. absurd (f x e)) (λ e. e) (cases_Bool (has freed x))

celled_managed : (s : St) (r : Ordered s) (id : ℕ) (v : View) (x : Item) → x.role ≡ 0 → v.heard_owns ≡ []
    → v.heard ≡ [] → Owns v x.role → Owns v (caller_line x.kept.entry.made.caller) → get_elem? s.views id ≡ some v
    → IsBelow x.kept.entry.number (of_line 0 r.whole) → ((i : ℕ) → IsBelow x.kept.entry.number (of_line i r.whole)) → NoDebt v → MaySet v (marked x.kept)
    → ((c m : ℕ) → marked x.kept ≡ Some (c, m) → (y : ℕ) → has x.kept.freed y ≡ false) → ((m : ℕ) → has x.kept.freed m ≡ true → 0 < r.gate) → ((j : ℕ) → deed x.kept.entry.made.op ≡ opens j → 0 < r.gate)
    → (words' : List ℕ) → ((c : ℕ) → get_or words' (2 + c) 0 ≡ get_or s.words (2 + c) 0) → x.role < 10
    → Celled (of_line 0 r.whole ++ x.kept ∷ []) r.gate words' (set s.views id (appended v x.role x.kept))
celled_managed s r id v x first bare bare' a b here below all_below paid may clean frees opening_held words' same small =
    let w : View = appended v x.role x.kept in
    let ml : List KeptEntry = of_line 0 r.whole in
    let k : KeptEntry = x.kept in
    let mine = r.each_seat id v here in
    let owns = subst (Owns v) first a in
    let all : known v 0 ≡ ml = (mine.owned 0 owns).1 in
    let my_debts = r.celled.each_debt id v here in
    let row_is : (c : ℕ) → c < 64 → at false w.debts c ≡ owes_after ml k c = λ c l. ap (λ d. at false d c)
    (if_true (x.role == 0) (by_place 64 (owes_after (known v 0) k)) v.debts (eq-eqb x.role 0 first))
    ∙ (at_by_place 64 (owes_after (known v 0) k) c l ∙ ap (λ ks. owes_after ks k c) all) in
    let sets : (d m : ℕ) → marked k ≡ Some (d, m) → (target ml d ≡ None) × (is_freed ml m ≡ false) × ((y : ℕ) → has k.freed y ≡ false) = λ d m e. let t = may d m e in
    (subst (λ ks. target ks d ≡ None) all t.2, subst (λ ks. is_freed ks m ≡ false) all t.3, clean d m e) in
    let longer_by : length (ml ++ k ∷ []) ≡ length ml + 1 = length-append ml (k ∷ []) in
    let not_heard : (i : ℕ) → at false v.heard_owns i ≡ true → ⊥ = λ i o. both_ways (at false v.heard_owns i) (ap (λ l. at false l i) bare) o in
    record {
      debt = λ c. at false w.debts c;
      nonempty = λ c o. omega arith;
      cells = λ c l. subst (λ (z : Bool × ℕ). CellIs (ml ++ k ∷ []) r.gate z.0 c z.1) (λ i. (sym (row_is c l) i, sym (same c) i))
          (cell_after ml k r.gate c (get_or s.words (2 + c) 0) below
          (settled_cell ml r.gate (r.celled.debt c) c (get_or s.words (2 + c) 0) (none_owed ml r.celled.debt v my_debts owns paid c) (r.celled.cells c l))
          sets frees);
      real = λ c m e. ⊎_elim (λ t. r.celled.real c m t) (λ t. (may c m t).1) (target_cases c m ml k e);
      each_debt = seats (λ j. Debts (ml ++ k ∷ []) (λ c. at false w.debts c)) s.views id w
          record {
            owner = λ o c. refl;
            heard_owner = λ o. absurd (not_heard 0 o);
            secret = λ c o z. absurd (both_ways (at false v.owns 0) z owns);
            heard_secret = λ c o z. let e : length (at [] v.heard 0) ≡ 0 = ap (λ h. length (at [] h 0)) bare' in omega arith;
            mine = λ t o y st c e. subst (λ ks. Stands ks y) (sym (appended_in v x 0 small (role_in 0 x (sym first)))) (⊎_elim
                (λ z. stands_more (known v 0) k y (my_debts.mine t o y z c e))
                (λ (z : k ≡ y). subst (Stands (known v 0 ++ k ∷ [])) z (stands_last (known v 0) k))
                (appended_cases v x (t + 10) y small st));
            heard_mine = λ t o. absurd (not_heard (t + 10) o);
          }
          (λ j u other at_j. let theirs = r.each_seat j u at_j in debts_more ml k r.celled.debt (λ c. at false w.debts c) u (r.celled.each_debt j u at_j)
          (λ o. other (sym (theirs.owned 0 o).0 ∙ (mine.owned 0 owns).0)) (λ o. other (sym (theirs.heard_owned 0 o).0 ∙ (mine.owned 0 owns).0)) (theirs.begins 0) (theirs.heard 0));
      each_load = seats (λ j u. 0 < u.inside → EachLoad (ml ++ k ∷ []) u u.loads) s.views id w (λ l. tt)
          (λ j u other at_j l. let theirs = r.each_seat j u at_j in let is_open = ((r.each_gate j u at_j).inside l).1 in
          loads_more ml k k.entry.number u u.loads refl below (λ i. below_begins k.entry.number (known u i) (of_line i r.whole) (theirs.begins i) (all_below i))
          (λ d m e. let t = sets d m e in (t.0, t.1))
          (no_free k.freed (λ m h. let p = frees m h in omega arith)) (λ i d. let p = opening_held i d in omega arith) (r.celled.each_load j u at_j l));
    }

celled_other : (s : St) (r : Ordered s) (id : ℕ) (v : View) (x : Item) → is_in 0 x ≡ false → v.heard_owns ≡ []
    → v.heard ≡ [] → Owns v x.role → Owns v (caller_line x.kept.entry.made.caller) → get_elem? s.views id ≡ some v
    → marked x.kept ≡ None → (words' : List ℕ) → ((c : ℕ) → get_or words' (2 + c) 0 ≡ get_or s.words (2 + c) 0)
    → x.role < 10 → Celled (of_line 0 r.whole) r.gate words' (set s.views id (appended v x.role x.kept))
celled_other s r id v x out bare bare' a b here unmarked words' same small =
    let w : View = appended v x.role x.kept in
    let my_debts = r.celled.each_debt id v here in
    let not_heard : (i : ℕ) → at false v.heard_owns i ≡ true → ⊥ = λ i o. both_ways (at false v.heard_owns i) (ap (λ l. at false l i) bare) o in
    let debts_same : w.debts ≡ v.debts = if_false (x.role == 0) (by_place 64 (owes_after (known v 0) x.kept)) v.debts (ne_eqb x.role 0 (λ z. both_ways (is_in 0 x) out (role_in 0 x (sym z)))) in
    let known_same = appended_out v x 0 out in
    celled_same (of_line 0 r.whole) r.gate r.gate s.words words' s.views (set s.views id w) r.celled same (λ c o h. h)
    (seats (λ j. Debts (of_line 0 r.whole) r.celled.debt) s.views id w
    record {
      owner = λ o c. ap (λ d. at false d c) debts_same ∙ my_debts.owner o c;
      heard_owner = λ o. absurd (not_heard 0 o);
      secret = λ c o z. subst (λ ks. length ks < length (of_line 0 r.whole)) (sym known_same) (my_debts.secret c o z);
      heard_secret = my_debts.heard_secret;
      mine = λ t o y st c e. ⊎_elim
          (λ z. subst (λ ks. Stands ks y) (sym known_same) (my_debts.mine t o y z c e))
          (λ (z : x.kept ≡ y). absurd (none_not (c, e.0) (sym unmarked ∙ (ap marked z ∙ e.1))))
          (appended_cases v x (t + 10) y small st);
      heard_mine = λ t o. absurd (not_heard (t + 10) o);
    }
    (λ j u other at_j. r.celled.each_debt j u at_j))
    (seats (λ j u. 0 < u.inside → EachLoad (of_line 0 r.whole) u u.loads) s.views id w (λ l. tt) (λ j u other at_j. r.celled.each_load j u at_j))

-- a reader's event reads some cell
read_cell_of : (o : Op) → is_read o ≡ true → (c : ℕ) × (read_of o ≡ Some c)
read_cell_of (op.Line (act.Read c)) e = (c.0, refl)
read_cell_of (op.Line (act.Await c)) e = (c.0, refl)
read_cell_of _ e = absurd (true≢false (sym e))

-- what may be done to the cycles follows where they stand, and opening one asks for the gate
follows : (v : View) (d : Deed) → MayDo v d → Follows (stage (known v 0)) d
follows v (opens k) m = m.0
follows v (ends k) m = m
follows v neither m = tt

opening_holds : (v : View) (gate : ℕ) (d : Deed) (j : ℕ) → v.holds ≡ gate → MayDo v d → d ≡ opens j → 0 < gate
opening_holds v gate d j own may e = let m : MayDo v (opens j) = subst (MayDo v) e may in let next = m.0 in let same = m.1 in omega arith

-- an append: the word rises by one, and the seat's entry has the number found
pub appends : (slots id : ℕ) (me : M) (role : ℕ) (made : Made) (aim : Option MNum) (freed : List MNum)
    → IsCompared me.0 → IsThread made.caller → IsInRole role made → Owns me.0 role → Owns me.0 (caller_line made.caller)
    → length (known me.0 role) < 4294967295 → MayMake me.0 role made aim → Allows Ordered slots id me 0 (λ n. (n + 1) % 2 ^ 64) (Appended role made aim freed (step slots 0 1 0 none) me)
appends slots id me role made aim freed compared caller stands a b room may s r _ here _ =
    let bare : me.0.heard_owns ≡ [] = compared.owns in
    let bare' : me.0.heard ≡ [] = compared.heard in
    let small : role < 10 = stands.one in
    let may_pins = may_pin me.0 role made aim caller stands may in
    let n : ℕ = get_or s.words 0 0 in
    let x : Item = record { role = role; kept = kept me.0 made aim freed n } in
    let w : View = appended me.0 role x.kept in
    let mine = r.each_seat id me.0 here in
    let long = bounded r.whole 0 r.numbers r.limit in
    let is : n ≡ length r.whole = r.words.1 in
    let next : length (r.whole ++ x ∷ []) ≡ length r.whole + 1 = length-append r.whole (x ∷ []) in
    let numbers : RunsFrom 0 (r.whole ++ x ∷ []) = runs_more 0 r.whole x r.numbers record { number = omega arith; caller = caller; stands = stands } in
    let mine' = knows_appended r.whole r.owner id me.0 x mine bare bare' small a b in
    let whole_is = (mine.owned role a).1 in
    let gate_word : get_or (set s.words 0 ((n + 1) % 2 ^ 64)) 1 0 ≡ get_or s.words 1 0 = get_or-set_other s.words 0 1 ((n + 1) % 2 ^ 64) 0 (λ e. omega arith) in
    let my_gate = r.each_gate id me.0 here in
    let my_wait = r.waiting.each_wait id me.0 here in
    let place : ℕ = caller_place made.caller in
    let d : PinDeed = pin_owed me.0 made in
    let mine_own = mine.owned (caller_line made.caller) b in
    let held_bit : (y : ℕ) → d ≡ fills y → HasBit (get_or s.words 1 0) me.0.owns me.0.inside
    × (r.gate ≡ 0) = λ y e. my_gate.inside (let f = (may_pins.fills y e).3 in let l = one-le-pow place 2 (omega arith) in omega arith) in
    let apart : (k : ℕ) → k ≢ place → of_line (k + 10) (r.whole ++ x ∷ []) ≡ of_line (k + 10) r.whole = λ k other. of_line_out (k + 10) r.whole x
    (⊎_elim (λ e. absurd (⊎_elim (λ c. omega arith) (λ c. let c' : k + 10 ≡ place + 10 = c in other (omega arith)) (in_cases (k + 10) x e))) (λ e. e) (cases_Bool (is_in (k + 10) x))) in
    let now : pin (of_line (place + 10) (r.whole ++ x ∷ [])) ≡ pin_after (pin (of_line (place + 10) r.whole)) d = ap pin
    (of_line_in (caller_line made.caller) r.whole x (caller_in (caller_line made.caller) x refl))
    ∙ (pin_more (of_line (caller_line made.caller) r.whole) x.kept
    ∙ (sym (owing_after (pin (of_line (caller_line made.caller) r.whole)) (pin_deed made.caller made.op made.reply))
    ∙ ap (λ ks. pin_after (pin (of_line (caller_line made.caller) r.whole)) (owing (pin ks) (pin_deed made.caller made.op made.reply))) (sym mine_own.1))) in
    let taken : (y : Var) → made.op ≡ op.Line (act.Take y) → at 0 x.kept.pins place ≡ pin (of_line (caller_line made.caller) r.whole) = λ y f.
    ap (λ o. at 0 (pins_kept me.0 made.caller o) place) f ∙ (at_put_here 0 [] place (pin (known me.0 (caller_line made.caller))) ∙ ap pin mine_own.1) in
    let items_below : (i : ℕ) (y : Item) → get_elem? r.whole i ≡ some y → y.kept.entry.number < n = below_item 0 n r.whole r.numbers (omega arith) in
    let is_open : IsLetIn x → r.gate ≡ 0 = λ z. let c = read_cell_of made.op (stands.reader z.0).0 in let t = may.reads z.0 c.0 z.1 c.1 z.2 in (my_gate.inside t.0).1 in
    let all_below : (i : ℕ) → IsBelow n (of_line i r.whole) = λ i. below_line i 0 n r.whole r.numbers (omega arith) in (
      w,
      keeps,
      tt,
      record {
        whole = r.whole ++ x ∷ [];
        owner = r.owner;
        gate = r.gate;
        small = r.small;
        words = (
          length-set s.words 0 ((n + 1) % 2 ^ 64) ∙ r.words.0,
          get_or-set_same s.words 0 ((n + 1) % 2 ^ 64) 0 (let l = r.words.0 in omega arith)
              ∙ omega arith,
          ap (λ n. n / 512) gate_word ∙ r.words.2,
        );
        numbers = numbers;
        limit = λ i l. ⊎_elim
            (λ e. let longer_by : length (of_line i (r.whole ++ x ∷ [])) ≡ length (of_line i r.whole) + 1 = ap length (of_line_in i r.whole x e) ∙ length-append (of_line i r.whole) (x.kept ∷ []) in
            let at_role : i ≡ role = ⊎_elim (λ c. c) (λ c. absurd (let c' : i ≡ caller_place made.caller + 10 = c in omega arith)) (in_cases i x e) in
            let fits : length (of_line i r.whole) < 4294967295 = subst (λ j. length (of_line j r.whole) < 4294967295) (sym at_role) (subst (λ ks. length ks < 4294967295) whole_is room) in omega arith)
            (λ e. subst (λ ks. length ks ≤ 4294967295) (sym (of_line_out i r.whole x e)) (r.limit i l))
            (cases_Bool (is_in i x));
        each_seat = seats (Knows (r.whole ++ x ∷ []) r.owner) s.views id w mine'
            (λ j u other at. knows_other r.whole r.owner j id u me.0 x other (r.each_seat j u at) mine a b);
        each_line = λ i l. owner_set s.views i (r.owner i) id me.0 w here (λ o. o) (r.each_line i l);
        held = ⊎_elim
            (λ e. let first : role ≡ 0 = sym (⊎_elim (λ c. c) (λ c. absurd (let c' : 0 ≡ caller_place made.caller + 10 = c in omega arith)) (in_cases 0 x e)) in
            let all = mine.owned 0 (subst (Owns me.0) first a) in
            subst (IsHeldFor r.gate) (ap (λ ks. stage_after (stage ks) (deed made.op)) all.1 ∙ (sym (stage_more (of_line 0 r.whole) x.kept) ∙ ap stage (sym (of_line_in 0 r.whole x e))))
            (held_more me.0 r.gate (deed made.op) (subst (λ ks. IsHeldFor r.gate (stage ks)) (sym all.1) r.held) (my_gate.owner (subst (Owns me.0) first a)) (may.cycles first)))
            (λ e. subst (λ ks. IsHeldFor r.gate (stage ks)) (sym (of_line_out 0 r.whole x e)) r.held)
            (cases_Bool (is_in 0 x));
        each_gate = subst (λ b. (j : ℕ) (v : View) → get_elem? (set s.views id w) j ≡ some v → Gates r.gate b v) (sym gate_word)
            (seats (λ j. Gates r.gate (get_or s.words 1 0)) s.views id w
            (gates_appended r.gate (get_or s.words 1 0) me.0 w.known w.debts w.fill w.empty my_gate
            (λ not_mine. appended_out me.0 x 0 (⊎_elim
            (λ e. absurd (⊎_elim
            (λ c. both_ways (at false me.0.owns 0) not_mine (subst (Owns me.0) (sym c) a))
            (λ c. let c' : 0 ≡ caller_place made.caller + 10 = c in omega arith) (in_cases 0 x e)))
            (λ e. e) (cases_Bool (is_in 0 x)))))
            (λ j u other at. r.each_gate j u at));
        waiting = ⊎_elim
            (λ e. let first : role ≡ 0 = sym (⊎_elim (λ c. c) (λ c. absurd (let c' : 0 ≡ caller_place made.caller + 10 = c in omega arith)) (in_cases 0 x e)) in
            let mine_first = subst (Owns me.0) first a in
            let all = (mine.owned 0 mine_first).1 in
            waiting_managed r.whole r.gate n s.views (set s.views id w) me.0 x record {
              sets = λ _ c m f. let t = may.cells first c m f in (t.1, subst (λ ks. target ks c ≡ None) all t.2, subst (λ ks. is_freed ks m ≡ false) all t.3);
              others = λ other. absurd (other first);
              cycles = λ _. subst (λ ks. Follows (stage ks) (deed made.op)) all (follows me.0 (deed made.op) (may.cycles first));
              pending = λ reader. absurd (omega arith);
              over = λ reader. absurd (omega arith);
              due = λ inside. absurd (let reader = inside.0 in omega arith);
              read = λ reader. absurd (omega arith);
              filled = λ reader. absurd (omega arith);
              unfilled = λ reader. absurd (omega arith);
              snapped = λ _ c f k pos low. let next : MayDo me.0 (opens c.0) = subst (MayDo me.0) (ap deed f) (may.cycles first) in
                  let w' = scanned_at 8 me.0.scanned next.2 k pos (omega arith) in
                  ap (λ o. at 0 (pins_kept me.0 made.caller o) k) f ∙ (pin_at me.0.scanned k w'.0 pos w'.1
                  ∙ r.scanned id me.0 here mine_first (subst (IsNext me.0) (sym next.1) next.0) k w'.0 pos low w'.1);
              taken = taken;
            } (of_line_in 0 r.whole x e ∙ ap (λ ks. ks ++ x.kept ∷ []) (sym all)) all r.waiting first refl items_below
            (below_begins n (known me.0 0) (of_line 0 r.whole) (mine.begins 0) (all_below 0)) (my_gate.owner mine_first) (may.cycles first) (subst (λ ks. IsHeldFor r.gate (stage ks)) (sym all) r.held)
            (seats (λ j. Waits (r.whole ++ x ∷ []) r.gate) s.views id w (waits_not (r.whole ++ x ∷ []) r.gate w refl)
            (λ j u other at_j. waits_more r.whole r.gate n me.0 u x (of_line_in 0 r.whole x e) all refl first items_below (subst (IsBelow n) (sym all) (all_below 0))
            (λ i. below_begins n (known u i) (of_line i r.whole) ((r.each_seat j u at_j).begins i) (all_below i)) (my_gate.owner mine_first) (may.cycles first) (r.waiting.each_wait j u at_j))))
            (λ e. waiting_other r.whole r.gate s.views (set s.views id w) x (of_line_out 0 r.whole x e) r.waiting
            record {
              sets = λ first. absurd (both_ways (is_in 0 x) e (role_in 0 x (sym first)));
              others = λ other. (
                others_mark role made.caller made.op aim (λ z. (stands.peer z).1) (λ z. (stands.reader z).0) small other,
                others_free role made.caller made.op freed (λ z. (stands.peer z).1) (λ z. (stands.reader z).0) other,
              );
              cycles = λ first. absurd (both_ways (is_in 0 x) e (role_in 0 x (sym first)));
              pending = (λ reader k p. let t = may.pending reader k p in
                  subst (λ (z : List KeptEntry × ℕ). Unknown (of_line 0 r.whole) z.0 z.1) (λ i. ((mine.owned (caller_line made.caller) b).1 i, t.1 i))
                  (my_wait.unknown (let l = t.0 in let same = t.1 in omega arith) (caller_place made.caller) b));
              over = (λ reader k p. let t = may.pending reader k p in subst (λ (z : List KeptEntry × ℕ). NotOver r.whole z.0 z.1)
                  (λ i. ((mine.owned (caller_line made.caller) b).1 i, t.1 i)) (my_wait.over (let l = t.0 in let same = t.1 in omega arith) (caller_place made.caller) b));
              due = λ inside i k y at_i f. let none = is_open inside in ⊎_elim
                  (λ (z : IsSnappedBefore (of_line 0 r.whole) y.kept.entry.number k). (z.0, z.1, z.2))
                  (λ (z : IsDue r.gate (stage (of_line 0 r.whole)) k × IsBelow y.kept.entry.number (of_line 0 r.whole)). let same = z.0.0 in let next = z.0.1 in absurd (omega arith))
                  (r.waiting.pending i y at_i f.0 k f.1);
              read = λ reader c w e f. let t = may.reads reader c w e f in let gate_is = (my_gate.inside t.0).1 in (
                r.held.0 gate_is,
                subst (λ ks. ReadsWord (of_line 0 r.whole) ks c w) (mine.owned (caller_line made.caller) b).1
                    (load_there (of_line 0 r.whole) me.0 me.0.loads c w (r.celled.each_load id me.0 here t.0) t.1 (caller_place made.caller) b),
              );
              filled = λ reader m e. sym (ap pin (mine.owned (caller_line made.caller) b).1) ∙ (may.pinned reader).0 m e;
              unfilled = λ reader e. sym (ap pin (mine.owned (caller_line made.caller) b).1) ∙ (may.pinned reader).1 e;
              snapped = λ first. absurd (both_ways (is_in 0 x) e (role_in 0 x (sym first)));
              taken = taken;
            }
            (λ reader k p. let t = may.pending reader k p in subst (IsPending (of_line 0 r.whole) r.gate n) t.1 (⊎_elim
            (λ (z : IsSnapped (of_line 0 r.whole) me.0.found). inl (z.0, z.1, z.2, λ c sc lt. stands_below n (of_line 0 r.whole) c (all_below 0) sc))
            (λ (z : IsDue r.gate (stage (of_line 0 r.whole)) me.0.found). inr (z, all_below 0))
            (my_wait.snap (let l = t.0 in let same = t.1 in omega arith))))
            is_open
            (seats (λ j. Waits (r.whole ++ x ∷ []) r.gate) s.views id w (waits_not (r.whole ++ x ∷ []) r.gate w refl)
            (λ j u other at_j. waits_same r.whole r.gate u x (of_line_out 0 r.whole x e)
            (λ i. below_begins n (known u i) (of_line i r.whole) ((r.each_seat j u at_j).begins i) (all_below i)) (r.waiting.each_wait j u at_j))))
            (cases_Bool (is_in 0 x));
        scanned = seats (λ j. Scans (r.whole ++ x ∷ [])) s.views id w (no_scans (r.whole ++ x ∷ []) w refl)
            (λ j u other at_j. scans_more r.whole (r.whole ++ x ∷ []) place d u
            (λ o. ⊎_elim (λ e. inl e) (λ z. ⊎_elim (λ (e : d ≡ empties). absurd (other (sym ((r.each_seat j u at_j).owned 0 o).0 ∙ (ap r.owner (sym (may_pins.empties e).2) ∙ (mine.owned role a).0))))
            (λ z. inr ((r.each_gate j u at_j).owner o ∙ z)) z) (filling_last d (r.gate ≡ 0) (λ y e. (held_bit y e).1)))
            apart now (r.scanned j u at_j));
        pinned = subst (λ b. Pinned (r.whole ++ x ∷ []) r.owner r.gate b (set s.words 0 ((n + 1) % 2 ^ 64)) (set s.views id w)) (sym gate_word)
            (pinned_entry r.whole (r.whole ++ x ∷ []) r.owner r.gate (get_or s.words 1 0) s.words (set s.words 0 ((n + 1) % 2 ^ 64)) s.views
            (set s.views id w) r.pinned id role place me.0 w d here (within s.views id me.0 here)
            mine_own.0 (mine.owned role a).0 (λ reads. let t = may.paid reads in (t.1, t.2)) may_pins mine_own.1
            (filling d (HasBit (get_or s.words 1 0) me.0.owns me.0.inside) (λ y e. (held_bit y e).0)) (filling_last d (r.gate ≡ 0) (λ y e. (held_bit y e).1))
            apart
            now
            (λ k. get_or-set_other s.words 0 (65 + k) ((n + 1) % 2 ^ 64) 0 (λ z. omega arith)) (let l = length-set s.views id w in omega arith) refl refl
            (λ K mine' others. seats K s.views id w mine' others));
        celled = ⊎_elim
            (λ e. let first : role ≡ 0 = sym (⊎_elim (λ c. c) (λ c. absurd (let c' : 0 ≡ caller_place made.caller + 10 = c in omega arith)) (in_cases 0 x e)) in
            subst (λ ks. Celled ks r.gate (set s.words 0 ((n + 1) % 2 ^ 64)) (set s.views id w)) (sym (of_line_in 0 r.whole x e))
            (celled_managed s r id me.0 x first bare bare' a b here (all_below 0) all_below (may.paid (λ z. omega arith)).0
            (may.cells first) (λ c m e y. ap (λ ms. has ms y) (sets_frees_none made.op made.caller aim freed c m e))
            (frees_held me.0 r.gate made.op freed (my_gate.owner (subst (Owns me.0) first a)) (subst (λ ks. IsHeldFor r.gate (stage ks)) (sym (mine.owned 0 (subst (Owns me.0) first a)).1) r.held)
            (may.cycles first)) (λ j d. opening_holds me.0 r.gate (deed made.op) j (my_gate.owner (subst (Owns me.0) first a)) (may.cycles first) d)
            (set s.words 0 ((n + 1) % 2 ^ 64)) (λ c. get_or-set_other s.words 0 (2 + c) ((n + 1) % 2 ^ 64) 0 (λ z. omega arith)) small))
            (λ e. subst (λ ks. Celled ks r.gate (set s.words 0 ((n + 1) % 2 ^ 64)) (set s.views id w)) (sym (of_line_out 0 r.whole x e))
            (celled_other s r id me.0 x e bare bare' a b here (others_mark role made.caller made.op aim (λ z. (stands.peer z).1) (λ z. (stands.reader z).0) small
            (λ z. both_ways (is_in 0 x) e (role_in 0 x (sym z)))) (set s.words 0 ((n + 1) % 2 ^ 64)) (λ c. get_or-set_other s.words 0 (2 + c) ((n + 1) % 2 ^ 64) 0 (λ z. omega arith)) small))
            (cases_Bool (is_in 0 x));
      },
      (
        refl,
        refl,
        (λ i. below_begins n (known me.0 i) (of_line i r.whole) (mine.begins i) (all_below i)),
        record { whole = r.whole ++ x ∷ []; numbers = numbers; begins = mine'.begins },
      ),
    )

-- the first seat owns all lines
pub owns_first : OwnsAll first_view
owns_first i l = all_true 27 i l
  where
    all_true : (n i : ℕ) → i < n → at false (replicate n true) i ≡ true
    all_true zero i l = absurd (omega arith)
    all_true (suc n) zero l = refl
    all_true (suc n) (suc i) l = all_true n i (omega arith)

pub opens_order : Ordered (opening (replicate 74 0) [] first_view)
opens_order = record {
  whole = [];
  owner = λ i. 0;
  gate = 0;
  small = omega arith;
  words = (refl, refl, refl);
  numbers = tt;
  limit = λ i l. omega arith;
  each_seat = only;
  each_line = λ i l. record { view = first_view; there = refl; owns = inl (owns_first i l) };
  held = ((λ e. (0, refl)), λ l. absurd (omega arith));
  each_gate = only_gate;
  scanned = only_scan;
  waiting = record { snapped = λ l. absurd (omega arith); quiet = λ l. absurd (omega arith); shut = λ l. absurd (omega arith); fits = tt; pending = none_there; each_wait = only_wait };
  celled = record {
    debt = λ c. false;
    nonempty = λ c o. absurd (true≢false (sym o));
    cells = λ c l. inl (zeros 74 (2 + c));
    real = λ c m e. absurd (none_not m e);
    each_debt = only_debt;
    each_load = only_load;
  };
  pinned = record {
    stores = λ k. false;
    clears = λ k. false;
    pins = λ k a b. inl (zeros 74 (65 + k));
    storing = λ k o. absurd (true≢false (sym o));
    clearing = λ k o. absurd (true≢false (sym o));
    filler = λ j v e k o. absurd (true≢false (sym o));
    clearer = λ j v e k o. absurd (true≢false (sym o));
  };
}
  where
    fresh : Knows [] (λ i. 0) 0 first_view
    fresh = record { begins = λ i. ([], refl); heard = λ i. ([], refl); owned = λ i o. (refl, refl); heard_owned = λ i o. absurd (true≢false (sym o)) }

    none_there : (i : ℕ) (x : Item) → get_elem? [] i ≡ some x → 2 ≤ x.role → (k : ℕ) → SaysPending x.kept.entry.made.reply k → IsPending [] 0 x.kept.entry.number k
    none_there i x e = absurd (some-ne-none x (sym e))

    only_wait : (j : ℕ) (v : View) → get_elem? (first_view ∷ []) j ≡ some v → Waits [] 0 v
    only_wait zero v e = subst (Waits [] 0) (some-injective first_view v e) (waits_not [] 0 first_view refl)
    only_wait (suc j) v e = absurd (some-ne-none v (sym e))

    only_scan : (j : ℕ) (v : View) → get_elem? (first_view ∷ []) j ≡ some v → Scans [] v
    only_scan zero v e = subst (Scans []) (some-injective first_view v e) (no_scans [] first_view refl)
    only_scan (suc j) v e = absurd (some-ne-none v (sym e))

    zeros : (n i : ℕ) → ◌≡◌ {A = ℕ} (get_or (replicate n 0) i 0) 0
    zeros zero i = refl
    zeros (suc n) zero = refl
    zeros (suc n) (suc i) = zeros n i

    fresh_debt : Debts [] (λ c. false) first_view
    fresh_debt = record {
      owner = λ o c. refl;
      heard_owner = λ o. absurd (true≢false (sym o));
      secret = λ c o. absurd (true≢false (sym o));
      heard_secret = λ c o. absurd (true≢false (sym o));
      mine = λ t o y st. absurd (some-ne-none y (sym st.1));
      heard_mine = λ t o. absurd (true≢false (sym o));
    }

    only_debt : (j : ℕ) (v : View) → get_elem? (first_view ∷ []) j ≡ some v → Debts [] (λ c. false) v
    only_debt zero v e = subst (Debts [] (λ c. false)) (some-injective first_view v e) fresh_debt
    only_debt (suc j) v e = absurd (some-ne-none v (sym e))

    only_load : (j : ℕ) (v : View) → get_elem? (first_view ∷ []) j ≡ some v → 0 < v.inside → EachLoad [] v v.loads
    only_load zero v e = subst (λ (u : View). 0 < u.inside → EachLoad [] u u.loads) (some-injective first_view v e) (λ l. tt)
    only_load (suc j) v e = absurd (some-ne-none v (sym e))

    fresh_gate : Gates 0 0 first_view
    fresh_gate = record {
      owner = λ o. refl;
      other = λ o. (refl, λ l. absurd (omega arith));
      heard_owner = λ o. refl;
      heard_other = λ o. (refl, λ l. absurd (omega arith));
      inside = λ l. absurd (omega arith);
      owes = λ l. absurd (omega arith);
      one = λ l. refl;
    }

    only_gate : (j : ℕ) (v : View) → get_elem? (first_view ∷ []) j ≡ some v → Gates 0 0 v
    only_gate zero v e = subst (Gates 0 0) (some-injective first_view v e) fresh_gate
    only_gate (suc j) v e = absurd (some-ne-none v (sym e))

    only : (j : ℕ) (v : View) → get_elem? (first_view ∷ []) j ≡ some v → Knows [] (λ i. 0) j v
    only zero v e = subst (Knows [] (λ i. 0) 0) (some-injective first_view v e) fresh
    only (suc j) v e = absurd (some-ne-none v (sym e))

-- what stands in a list one longer: what stood in it, or the last
at_end : (l : List View) (a b : View) (j : ℕ) → get_elem? (l ++ a ∷ []) j ≡ some b → ((j < length l) × (get_elem? l j ≡ some b)) ⊎ ((j ≡ length l) × (a ≡ b))
at_end [] a b zero e = inr (refl, some-injective a b e)
at_end [] a b (suc j) e = absurd (some-ne-none b (sym e))
at_end (x ∷ xs) a b zero e = inl (omega arith, e)
at_end (x ∷ xs) a b (suc j) e = ⊎_elim (λ t. inl (let l = t.0 in omega arith, t.1)) (λ t. inr (ap suc t.0, t.1)) (at_end xs a b j e)

-- the owners after a seat took the lines for which the test says so
abbrev takes_over : (ℕ → Bool) → ℕ → (ℕ → ℕ) → ℕ → ℕ
takes_over test j owner i = if test i then j else owner i

took : (test : ℕ → Bool) (j : ℕ) (owner : ℕ → ℕ) (i : ℕ) → test i ≡ true → takes_over test j owner i ≡ j
took test j owner i e = ap (λ b. if b then j else owner i) e

left_alone : (test : ℕ → Bool) (j : ℕ) (owner : ℕ → ℕ) (i : ℕ) → test i ≡ false → takes_over test j owner i ≡ owner i
left_alone test j owner i e = ap (λ b. if b then j else owner i) e

-- a seat's view is cut in two
pub cuts : (id : ℕ) (v : View) (lines : List Bool) → Free v → Splits Ordered id v (giving lines v) (given lines v)
cuts id v lines settled s r here =
    let mine = r.each_seat id v here in
    let new : ℕ = length s.views in
    let test : ℕ → Bool = λ i. at false v.owns i && at false lines i in
    let owner : ℕ → ℕ = takes_over test new r.owner in
    let none_heard : (i : ℕ) → at false v.heard_owns i ≡ true → ⊥ = λ i o. absurd (both_ways (at false v.heard_owns i) (ap (λ l. at false l i) settled.compared.1) o) in
    let theirs_still : (k : ℕ) → k ≢ id → (i : ℕ) → r.owner i ≡ k → owner i ≡ k = λ k other i t. ⊎_elim
    (λ e. absurd (other (sym t ∙ (mine.owned i (and_parts (at false v.owns i) (at false lines i) e).0).0)))
    (λ e. left_alone test new r.owner i e ∙ t) (cases_Bool (test i)) in
    let given_owns : (i : ℕ) → Owns (given lines v) i → test i ≡ true = λ i o. sym (at_common v.owns lines i) ∙ o in
    record {
      whole = r.whole;
      owner = owner;
      gate = r.gate;
      small = r.small;
      words = r.words;
      numbers = r.numbers;
      limit = r.limit;
      held = r.held;
      each_seat = λ j u e. ⊎_elim
          (λ (t : (j < length (set s.views id (giving lines v))) × (get_elem? (set s.views id (giving lines v)) j ≡ some u)).
          seats (Knows r.whole owner) s.views id (giving lines v)
          record {
            begins = mine.begins;
            heard = mine.heard;
            owned = λ i o. let parts = and_parts (at false v.owns i) (not (at false lines i)) (sym (at_without v.owns lines i) ∙ o) in
                let keeps_line : test i ≡ false = ap (λ b. at false v.owns i && b) (not-true (at false lines i) parts.1) ∙ and_false (at false v.owns i) in
                let t = mine.owned i parts.0 in (left_alone test new r.owner i keeps_line ∙ t.0, t.1);
            heard_owned = λ i o. absurd (none_heard i o);
          }
          (λ k w other at_k. let theirs = r.each_seat k w at_k in record {
            begins = theirs.begins;
            heard = theirs.heard;
            owned = λ i o. let t = theirs.owned i o in (theirs_still k other i t.0, t.1);
            heard_owned = λ i o. let t = theirs.heard_owned i o in (theirs_still k other i t.0, t.1);
          })
          j u t.1)
          (λ (t : (j ≡ length (set s.views id (giving lines v))) × (given lines v ≡ u)).
          subst (λ (z : ℕ × View). Knows r.whole owner z.0 z.1) (λ c. (sym (t.0 ∙ length-set s.views id (giving lines v)) c, t.1 c)) record {
            begins = mine.begins;
            heard = mine.heard;
            owned = λ i o. let e = given_owns i o in (took test new r.owner i e, (mine.owned i (and_parts (at false v.owns i) (at false lines i) e).0).1);
            heard_owned = λ i o. absurd (none_heard i o);
          })
          (at_end (set s.views id (giving lines v)) (given lines v) u j e);
      each_line = λ i l. ⊎_elim
          (λ (e : test i ≡ true). record {
            view = given lines v;
            there = subst (λ k. get_elem? (set s.views id (giving lines v) ++ given lines v ∷ []) k ≡ some (given lines v))
                (sym (took test new r.owner i e)) (at_last (set s.views id (giving lines v)) (given lines v) new (length-set s.views id (giving lines v)));
            owns = inl (at_common v.owns lines i ∙ e);
          })
          (λ (e : test i ≡ false).
          let h = owner_set s.views i (r.owner i) id v (giving lines v) here
          (⊎_elim (λ o. inl (at_without v.owns lines i ∙ stays (at false v.owns i) (at false lines i) o e)) (λ o. absurd (unheard v settled.compared.1 i o)))
          (r.each_line i l) in
          subst (HasOwner (set s.views id (giving lines v) ++ given lines v ∷ []) i) (sym (left_alone test new r.owner i e)) record {
            view = h.view;
            there = at_longer (set s.views id (giving lines v)) (given lines v ∷ []) (r.owner i) h.view h.there;
            owns = h.owns;
          })
          (cases_Bool (test i));
      each_gate = λ j u e. ⊎_elim
          (λ (t : (j < length (set s.views id (giving lines v))) × (get_elem? (set s.views id (giving lines v)) j ≡ some u)).
          seats (λ k. Gates r.gate (get_or s.words 1 0)) s.views id (giving lines v)
          (gates_giving r.gate (get_or s.words 1 0) v lines (r.each_gate id v here) settled) (λ k w other at_k. r.each_gate k w at_k) j u t.1)
          (λ (t : (j ≡ length (set s.views id (giving lines v))) × (given lines v ≡ u)).
          subst (Gates r.gate (get_or s.words 1 0)) t.1 (gates_given r.gate (get_or s.words 1 0) v lines (r.each_gate id v here) settled))
          (at_end (set s.views id (giving lines v)) (given lines v) u j e);
      pinned = (let W : ℕ = get_or s.words 1 0 in
          let not_mine : (k : ℕ) → r.pinned.stores k ≡ true → r.owner (k + 10) ≡ id → ⊥ = not_storing r.whole r.owner r.gate W s.words s.views r.pinned id v here settled.stored.0 in
          let not_mine' : (k : ℕ) → r.pinned.clears k ≡ true → r.owner (k + 10) ≡ id → ⊥ = not_clearing r.whole r.owner r.gate W s.words s.views r.pinned id v here settled.stored.1 in
          let still : (i : ℕ) → (r.owner i ≡ id → ⊥) → owner i ≡ r.owner i = λ i z. ⊎_elim
          (λ e. absurd (z (mine.owned i (and_parts (at false v.owns i) (at false lines i) e).0).0)) (λ e. left_alone test new r.owner i e) (cases_Bool (test i)) in
          let long : length (set s.views id (giving lines v) ++ given lines v ∷ []) ≡ length s.views + 1 = length-append (set s.views id (giving lines v)) (given lines v ∷ [])
          ∙ ap (λ l. l + 1) (length-set s.views id (giving lines v)) in
          pinned_keep r.whole r.whole r.owner owner r.gate r.gate W W s.words s.words s.views (set s.views id (giving lines v) ++ given lines v ∷ []) r.pinned (λ k. refl) (λ k l. refl)
          (λ k o. let t = r.pinned.storing k o in (t.2, t.3, still (1 + k) (λ z. not_mine k o (sym t.4 ∙ z)), still (k + 10) (not_mine k o)))
          (λ k o. let t = r.pinned.clearing k o in (still 0 (λ z. not_mine' k o (sym t.1 ∙ z)), still (k + 10) (not_mine' k o))) (omega arith)
          (λ j u e. ⊎_elim
          (λ (t : (j < length (set s.views id (giving lines v))) × (get_elem? (set s.views id (giving lines v)) j ≡ some u)).
          seats (λ i x. (k : ℕ) → r.pinned.stores k ≡ true → r.owner (k + 10) ≡ i → x.fill ≡ k) s.views id
          (giving lines v) (λ k o z. absurd (not_mine k o z)) (λ i x other at_i. r.pinned.filler i x at_i) j u t.1)
          (λ (t : (j ≡ length (set s.views id (giving lines v))) × (given lines v ≡ u)). λ k o z. absurd
          (let l = (r.pinned.storing k o).5 in let e' = t.0 in let e'' = length-set s.views id (giving lines v) in omega arith))
          (at_end (set s.views id (giving lines v)) (given lines v) u j e))
          (λ j u e. ⊎_elim
          (λ (t : (j < length (set s.views id (giving lines v))) × (get_elem? (set s.views id (giving lines v)) j ≡ some u)).
          seats (λ i x. (k : ℕ) → r.pinned.clears k ≡ true → r.owner (k + 10) ≡ i → x.empty ≡ k) s.views id
          (giving lines v) (λ k o z. absurd (not_mine' k o z)) (λ i x other at_i. r.pinned.clearer i x at_i) j u t.1)
          (λ (t : (j ≡ length (set s.views id (giving lines v))) × (given lines v ≡ u)). λ k o z. absurd
          (let l = (r.pinned.clearing k o).2 in let e' = t.0 in let e'' = length-set s.views id (giving lines v) in omega arith))
          (at_end (set s.views id (giving lines v)) (given lines v) u j e)));
      celled = celled_same (of_line 0 r.whole) r.gate r.gate s.words s.words s.views (set s.views id (giving lines v) ++ given lines v ∷ []) r.celled (λ c. refl) (λ c o h. h)
          (λ j u e. ⊎_elim
          (λ (t : (j < length (set s.views id (giving lines v))) × (get_elem? (set s.views id (giving lines v)) j ≡ some u)).
          seats (λ k. Debts (of_line 0 r.whole) r.celled.debt) s.views id (giving lines v)
          (debts_giving (of_line 0 r.whole) r.celled.debt v lines (r.celled.each_debt id v here) settled) (λ k w other at_k. r.celled.each_debt k w at_k) j u t.1)
          (λ (t : (j ≡ length (set s.views id (giving lines v))) × (given lines v ≡ u)).
          subst (Debts (of_line 0 r.whole) r.celled.debt) t.1 (debts_given (of_line 0 r.whole) r.celled.debt v lines (r.celled.each_debt id v here) settled))
          (at_end (set s.views id (giving lines v)) (given lines v) u j e))
          (λ j u e. ⊎_elim
          (λ (t : (j < length (set s.views id (giving lines v))) × (get_elem? (set s.views id (giving lines v)) j ≡ some u)).
          seats (λ k x. 0 < x.inside → EachLoad (of_line 0 r.whole) x x.loads) s.views id (giving lines v) (no_bit v.inside settled.outside) (λ k w other at_k. r.celled.each_load k w at_k) j u t.1)
          (λ (t : (j ≡ length (set s.views id (giving lines v))) × (given lines v ≡ u)).
          subst (λ (x : View). 0 < x.inside → EachLoad (of_line 0 r.whole) x x.loads) t.1 (no_bit v.inside settled.outside))
          (at_end (set s.views id (giving lines v)) (given lines v) u j e));
      scanned = λ j u e. ⊎_elim
          (λ (t : (j < length (set s.views id (giving lines v))) × (get_elem? (set s.views id (giving lines v)) j ≡ some u)).
          seats (λ k. Scans r.whole) s.views id (giving lines v) (no_scans r.whole (giving lines v) refl) (λ k w other at_k. r.scanned k w at_k) j u t.1)
          (λ (t : (j ≡ length (set s.views id (giving lines v))) × (given lines v ≡ u)). subst (Scans r.whole) t.1 (no_scans r.whole (given lines v) refl))
          (at_end (set s.views id (giving lines v)) (given lines v) u j e);
      waiting = let waits = r.waiting.each_wait id v here in waiting_views r.whole r.gate s.views (set s.views id (giving lines v) ++ given lines v ∷ []) r.waiting (λ j u e. ⊎_elim
          (λ (t : (j < length (set s.views id (giving lines v))) × (get_elem? (set s.views id (giving lines v)) j ≡ some u)).
          seats (λ k. Waits r.whole r.gate) s.views id (giving lines v)
          record {
            snap = waits.snap;
            unknown = λ l t o. waits.unknown l t (and_parts (at false v.owns (t + 10)) (not (at false lines (t + 10))) (sym (at_without v.owns lines (t + 10)) ∙ o)).0;
            over = λ l t o. waits.over l t (and_parts (at false v.owns (t + 10)) (not (at false lines (t + 10))) (sym (at_without v.owns lines (t + 10)) ∙ o)).0;
          }
          (λ k w other at_k. r.waiting.each_wait k w at_k) j u t.1)
          (λ (t : (j ≡ length (set s.views id (giving lines v))) × (given lines v ≡ u)). subst (Waits r.whole r.gate) t.1 (waits_not r.whole r.gate (given lines v) refl))
          (at_end (set s.views id (giving lines v)) (given lines v) u j e));
    }
  where
    stays : (a b : Bool) → a ≡ true → (a && b) ≡ false → (a && not b) ≡ true
    stays true b o e = ap not e
    stays false b o e = o

    and_false : (b : Bool) → (b && false) ≡ false
    and_false true = refl
    and_false false = refl

-- a seat takes in another, which is spent
pub takes_in : (id : ℕ) (v : View) (other : ℕ) (w : View) → Free v → Free w → Joins Ordered id v other w (hearing v w) spent_view
takes_in id v other w settled settled' s r here apart there' =
    let theirs_at : get_elem? s.views other ≡ some w = ⊎_elim (λ t. absurd (apart t.0)) (λ t. t.1) (at_set s.views id other (hearing v w) w there') in
    let mine = r.each_seat id v here in
    let theirs = r.each_seat other w theirs_at in
    let test : ℕ → Bool = λ i. at false w.owns i in
    let owner : ℕ → ℕ = takes_over test id r.owner in
    record {
      whole = r.whole;
      owner = owner;
      gate = r.gate;
      small = r.small;
      words = r.words;
      numbers = r.numbers;
      limit = r.limit;
      held = r.held;
      each_seat = seats (Knows r.whole owner) (set s.views id (hearing v w)) other spent_view
          record { begins = λ i. (of_line i r.whole, refl); heard = λ i. (of_line i r.whole, refl); owned = λ i o. absurd (true≢false (sym o)); heard_owned = λ i o. absurd (true≢false (sym o)) }
          (λ j u not_other at_j. seats (λ k x. k ≢ other → Knows r.whole owner k x) s.views id (hearing v w)
          (λ _. record {
            begins = mine.begins;
            heard = theirs.begins;
            owned = λ i o. let t = mine.owned i o in (⊎_elim (λ e. took test id r.owner i e) (λ e. left_alone test id r.owner i e ∙ t.0) (cases_Bool (test i)), t.1);
            heard_owned = λ i o. (took test id r.owner i o, (theirs.owned i o).1);
          })
          (λ k x not_id at_k not_other'. let k_knows = r.each_seat k x at_k in
          let still : (i : ℕ) → r.owner i ≡ k → owner i ≡ k = λ i t. ⊎_elim (λ e. absurd (not_other' (sym t ∙ (theirs.owned i e).0))) (λ e. left_alone test id r.owner i e ∙ t) (cases_Bool (test i)) in
          record {
            begins = k_knows.begins;
            heard = k_knows.heard;
            owned = λ i o. let t = k_knows.owned i o in (still i t.0, t.1);
            heard_owned = λ i o. let t = k_knows.heard_owned i o in (still i t.0, t.1);
          })
          j u at_j not_other);
      each_line = λ i l. ⊎_elim
          (λ (e : test i ≡ true). record {
            view = hearing v w;
            there = subst (λ k. get_elem? (set (set s.views id (hearing v w)) other spent_view) k ≡ some (hearing v w)) (sym (took test id r.owner i e))
                (set_else (set s.views id (hearing v w)) other id spent_view (λ z. apart (sym z)) ∙ set_here s.views id (hearing v w) (within s.views id v here));
            owns = inr e;
          })
          (λ (e : test i ≡ false). subst (HasOwner (set (set s.views id (hearing v w)) other spent_view) i) (sym (left_alone test id r.owner i e))
          (owner_set (set s.views id (hearing v w)) i (r.owner i) other w spent_view there'
          (⊎_elim (λ o. absurd (both_ways (test i) e o)) (λ o. absurd (unheard w settled'.compared.1 i o)))
          (owner_set s.views i (r.owner i) id v (hearing v w) here (⊎_elim (λ o. inl o) (λ o. absurd (unheard v settled.compared.1 i o))) (r.each_line i l))))
          (cases_Bool (test i));
      each_gate = seats (λ j. Gates r.gate (get_or s.words 1 0)) (set s.views id (hearing v w)) other spent_view
          (gates_spent r.gate (get_or s.words 1 0))
          (λ j u _ at_j. seats (λ k. Gates r.gate (get_or s.words 1 0)) s.views id (hearing v w)
          (gates_hearing r.gate (get_or s.words 1 0) v w (r.each_gate id v here) (r.each_gate other w theirs_at))
          (λ k x _ at_k. r.each_gate k x at_k) j u at_j);
      pinned = (let W : ℕ = get_or s.words 1 0 in
          let not_mine : (k : ℕ) → r.pinned.stores k ≡ true → r.owner (k + 10) ≡ id → ⊥ = not_storing r.whole r.owner r.gate W s.words s.views r.pinned id v here settled.stored.0 in
          let not_mine' : (k : ℕ) → r.pinned.clears k ≡ true → r.owner (k + 10) ≡ id → ⊥ = not_clearing r.whole r.owner r.gate W s.words s.views r.pinned id v here settled.stored.1 in
          let not_theirs : (k : ℕ) → r.pinned.stores k ≡ true → r.owner (k + 10) ≡ other → ⊥ = not_storing r.whole r.owner r.gate W s.words s.views r.pinned other w theirs_at settled'.stored.0 in
          let not_theirs' : (k : ℕ) → r.pinned.clears k ≡ true → r.owner (k + 10) ≡ other → ⊥ = not_clearing r.whole r.owner r.gate W s.words s.views r.pinned other w theirs_at settled'.stored.1 in
          let still : (i : ℕ) → (r.owner i ≡ other → ⊥) → owner i ≡ r.owner i = λ i z. ⊎_elim (λ e. absurd (z (theirs.owned i e).0)) (λ e. left_alone test id r.owner i e) (cases_Bool (test i)) in
          pinned_keep r.whole r.whole r.owner owner r.gate r.gate W W s.words s.words s.views (set (set s.views id (hearing v w)) other spent_view) r.pinned (λ k. refl) (λ k l. refl)
          (λ k o. let t = r.pinned.storing k o in (t.2, t.3, still (1 + k) (λ z. not_theirs k o (sym t.4 ∙ z)), still (k + 10) (not_theirs k o)))
          (λ k o. let t = r.pinned.clearing k o in (still 0 (λ z. not_theirs' k o (sym t.1 ∙ z)), still (k + 10) (not_theirs' k o)))
          (let a = length-set (set s.views id (hearing v w)) other spent_view in let b = length-set s.views id (hearing v w) in omega arith)
          (seats (λ i x. (k : ℕ) → r.pinned.stores k ≡ true → r.owner (k + 10) ≡ i → x.fill ≡ k) (set s.views id (hearing v w)) other spent_view (λ k o z. absurd (not_theirs k o z))
          (λ j u _ at_j. seats (λ i x. (k : ℕ) → r.pinned.stores k ≡ true → r.owner (k + 10) ≡ i → x.fill ≡ k) s.views id
          (hearing v w) (λ k o z. absurd (not_mine k o z)) (λ i x _ at_i. r.pinned.filler i x at_i) j u at_j))
          (seats (λ i x. (k : ℕ) → r.pinned.clears k ≡ true → r.owner (k + 10) ≡ i → x.empty ≡ k) (set s.views id (hearing v w)) other spent_view (λ k o z. absurd (not_theirs' k o z))
          (λ j u _ at_j. seats (λ i x. (k : ℕ) → r.pinned.clears k ≡ true → r.owner (k + 10) ≡ i → x.empty ≡ k) s.views id
          (hearing v w) (λ k o z. absurd (not_mine' k o z)) (λ i x _ at_i. r.pinned.clearer i x at_i) j u at_j)));
      celled = celled_same (of_line 0 r.whole) r.gate r.gate s.words s.words s.views (set (set s.views id (hearing v w)) other spent_view) r.celled (λ c. refl) (λ c o h. h)
          (seats (λ j. Debts (of_line 0 r.whole) r.celled.debt) (set s.views id (hearing v w)) other spent_view (debts_spent (of_line 0 r.whole) r.celled.debt r.celled.nonempty)
          (λ j u _ at_j. seats (λ k. Debts (of_line 0 r.whole) r.celled.debt) s.views id (hearing v w)
          (debts_hearing (of_line 0 r.whole) r.celled.debt v w (r.celled.each_debt id v here) (r.celled.each_debt other w theirs_at) settled settled')
          (λ k x _ at_k. r.celled.each_debt k x at_k) j u at_j))
          (seats (λ j x. 0 < x.inside → EachLoad (of_line 0 r.whole) x x.loads) (set s.views id (hearing v w)) other spent_view (λ l. tt)
          (λ j u _ at_j. seats (λ k x. 0 < x.inside → EachLoad (of_line 0 r.whole) x x.loads) s.views id
          (hearing v w) (no_bit v.inside settled.outside) (λ k x _ at_k. r.celled.each_load k x at_k) j u at_j));
      scanned = seats (λ j. Scans r.whole) (set s.views id (hearing v w)) other spent_view (no_scans r.whole spent_view refl)
          (λ j u _ at_j. seats (λ k. Scans r.whole) s.views id (hearing v w) (no_scans r.whole (hearing v w) refl) (λ k x _ at_k. r.scanned k x at_k) j u at_j);
      waiting = waiting_views r.whole r.gate s.views (set (set s.views id (hearing v w)) other spent_view) r.waiting
          (seats (λ j. Waits r.whole r.gate) (set s.views id (hearing v w)) other spent_view (waits_not r.whole r.gate spent_view refl)
          (λ j u _ at_j. seats (λ k. Waits r.whole r.gate) s.views id (hearing v w) (waits_not r.whole r.gate (hearing v w) refl) (λ k x _ at_k. r.waiting.each_wait k x at_k) j u at_j));
    }

-- the seat compares what it knew with what it heard
pub compares : (slots id : ℕ) (me : M) → me.0.inside ≡ 0 → Allows Ordered slots id me 0 (λ n. n) (Compared (step slots 0 0 0 none) me)
compares slots id me out s r _ here _ =
    let mine = r.each_seat id me.0 here in
    let w : View = learned me.0 in
    let is : (i : ℕ) → known w i ≡ longer (known me.0 i) (at [] me.0.heard i) = λ i. at_longest me.0.known me.0.heard i in
    let owned_is : (i : ℕ) → Owns me.0 i → known w i ≡ known me.0 i = λ i o. let t = (mine.owned i o).1 in is i
    ∙ (ap (λ ks. longer ks (at [] me.0.heard i)) t ∙ (whole_longer (of_line i r.whole) (at [] me.0.heard i) (mine.heard i) ∙ sym t)) in
    let taken_is : (i : ℕ) → at false me.0.heard_owns i ≡ true → known w i ≡ at [] me.0.heard i = λ i o. let t = (mine.heard_owned i o).1 in is i
    ∙ (ap (longer (known me.0 i)) t ∙ (longer_whole (known me.0 i) (of_line i r.whole) (mine.begins i) ∙ sym t)) in (
      w,
      keeps,
      tt,
      subst (λ ws. Ordered record { words = ws; homes = s.homes; views = set s.views id w }) (sym (set-get_or s.words 0 0)) record {
        whole = r.whole;
        owner = r.owner;
        gate = r.gate;
        small = r.small;
        held = r.held;
        words = r.words;
        numbers = r.numbers;
        limit = r.limit;
        each_seat = seats (Knows r.whole r.owner) s.views id w
            record {
              begins = λ i. subst (λ ks. IsPrefix ks (of_line i r.whole)) (sym (is i)) (longer_begins (known me.0 i) (at [] me.0.heard i) (of_line i r.whole) (mine.begins i) (mine.heard i));
              heard = λ i. (of_line i r.whole, refl);
              owned = λ i o. ⊎_elim
                  (λ a. let t = mine.owned i a in (t.0, owned_is i a ∙ t.1))
                  (λ a. let t = mine.heard_owned i a in (t.0, taken_is i a ∙ t.1))
                  (or_cases (at false me.0.owns i) (at false me.0.heard_owns i) (sym (at_joined me.0.owns me.0.heard_owns i) ∙ o));
              heard_owned = λ i o. absurd (true≢false (sym o));
            }
            (λ j u other at_j. r.each_seat j u at_j);
        each_line = λ i l. owner_set s.views i (r.owner i) id me.0 w here
            (λ o. inl (at_joined me.0.owns me.0.heard_owns i ∙ or_true (at false me.0.owns i) (at false me.0.heard_owns i) o)) (r.each_line i l);
        each_gate = seats (λ j. Gates r.gate (get_or s.words 1 0)) s.views id w
            (gates_learned r.gate (get_or s.words 1 0) me.0 (r.each_gate id me.0 here)) (λ j u other at_j. r.each_gate j u at_j);
        pinned = pinned_keep r.whole r.whole r.owner r.owner r.gate r.gate (get_or s.words 1 0) (get_or s.words 1 0) s.words s.words s.views (set s.views id w) r.pinned (λ k. refl) (λ k l. refl)
            (λ k o. let t = r.pinned.storing k o in (t.2, t.3, refl, refl)) (λ k o. (refl, refl)) (let l = length-set s.views id w in omega arith)
            (seats (λ i x. (k : ℕ) → r.pinned.stores k ≡ true → r.owner (k + 10) ≡ i → x.fill ≡ k) s.views id w (r.pinned.filler id me.0 here) (λ i x _ at_i. r.pinned.filler i x at_i))
            (seats (λ i x. (k : ℕ) → r.pinned.clears k ≡ true → r.owner (k + 10) ≡ i → x.empty ≡ k) s.views id w (r.pinned.clearer id me.0 here) (λ i x _ at_i. r.pinned.clearer i x at_i));
        celled = celled_same (of_line 0 r.whole) r.gate r.gate s.words s.words s.views (set s.views id w) r.celled (λ c. refl) (λ c o h. h)
            (seats (λ j. Debts (of_line 0 r.whole) r.celled.debt) s.views id w
            (debts_learned (of_line 0 r.whole) r.celled.debt me.0 r.celled.nonempty (r.celled.each_debt id me.0 here) owned_is taken_is
            (subst (IsPrefix (known me.0 0)) (sym (is 0)) (first_begins_longer (known me.0 0) (at [] me.0.heard 0) (of_line 0 r.whole) (mine.begins 0) (mine.heard 0)))
            (subst (IsPrefix (at [] me.0.heard 0)) (sym (is 0)) (second_begins_longer (known me.0 0) (at [] me.0.heard 0) (of_line 0 r.whole) (mine.begins 0) (mine.heard 0))))
            (λ j u other at_j. r.celled.each_debt j u at_j))
            (seats (λ j x. 0 < x.inside → EachLoad (of_line 0 r.whole) x x.loads) s.views id w (no_bit me.0.inside out) (λ j u other at_j. r.celled.each_load j u at_j));
        scanned = seats (λ j. Scans r.whole) s.views id w (no_scans r.whole w refl) (λ j u other at_j. r.scanned j u at_j);
        waiting = waiting_views r.whole r.gate s.views (set s.views id w) r.waiting
            (seats (λ j. Waits r.whole r.gate) s.views id w (waits_not r.whole r.gate w refl) (λ j u other at_j. r.waiting.each_wait j u at_j));
      },
      (
        refl,
        record {
          is = refl;
          knew = λ i. subst (IsPrefix (known me.0 i)) (sym (is i)) (first_begins_longer (known me.0 i) (at [] me.0.heard i) (of_line i r.whole) (mine.begins i) (mine.heard i));
          heard = λ i. subst (IsPrefix (at [] me.0.heard i)) (sym (is i)) (second_begins_longer (known me.0 i) (at [] me.0.heard i) (of_line i r.whole) (mine.begins i) (mine.heard i));
          owned = owned_is;
          taken = taken_is;
        },
        record {
          whole = r.whole;
          numbers = r.numbers;
          begins = λ i. subst (λ ks. IsPrefix ks (of_line i r.whole)) (sym (is i)) (longer_begins (known me.0 i) (at [] me.0.heard i) (of_line i r.whole) (mine.begins i) (mine.heard i));
        },
      ),
    )

-- a settled seat that owns all lines knows the whole history, in which no snap is owed
pub tells_all : (id : ℕ) (v : View) (s : St) → Ordered s → get_elem? s.views id ≡ some v → Settled v → OwnsAll v → AreLinesOfOneHistory v.known
tells_all id v s r here settled all = record {
  whole = r.whole;
  few = bounded r.whole 0 r.numbers r.limit;
  numbers = r.numbers;
  each = λ i l. ((r.each_seat id v here).owned i (all i l)).1;
  fits = r.waiting.fits;
  pending = λ i x at_i reader k e. ⊎_elim (λ t. t)
      (λ (t : IsDue r.gate (stage (of_line 0 r.whole)) k × IsBelow x.kept.entry.number (of_line 0 r.whole)). absurd (
      let first = all 0 (omega arith) in let due = t.0.1 in let same = t.0.0 in let holds = (r.each_gate id v here).owner first in
      let known_is : stage (known v 0) ≡ stage (of_line 0 r.whole) = ap stage ((r.each_seat id v here).owned 0 first).1 in
      ⊎_elim (λ z. let none = z.0 in omega arith) (λ z. let opened : stage (known v 0) ≡ 2 * v.holds = z.1 in omega arith) (settled.gate first)))
      (r.waiting.pending i x at_i reader k e);
}

-- a seat that hands over nothing keeps what it owns
pub keeps_all : (v : View) → OwnsAll v → OwnsAll (giving lines_of_none v)
keeps_all v all i l = at_without v.owns [] i ∙ ap (λ b. b && true) (all i l)

-- who hands lines over, who gets them and who has compared is settled
pub settled_giving : (lines : List Bool) (v : View) → Settled v → Settled (giving lines v)
settled_giving lines v s = record {
  outside = s.outside;
  clear = s.clear;
  paid = s.paid;
  stored = s.stored;
  gate = λ o. let parts = and_parts (at false v.owns 0) (not (at false lines 0)) (sym (at_without v.owns lines 0) ∙ o) in
      subst (λ h. ((h ≡ 0) × IsClosed (known v 0)) ⊎ ((0 < h) × IsOpen v h)) (sym (if_false (at false lines 0) 0 v.holds (not-true (at false lines 0) parts.1))) (s.gate parts.0);
}

pub settled_given : (lines : List Bool) (v : View) → Settled v → Settled (given lines v)
settled_given lines v s = record {
  outside = s.outside;
  clear = s.clear;
  paid = s.paid;
  stored = s.stored;
  gate = λ o. let parts = and_parts (at false v.owns 0) (at false lines 0) (sym (at_common v.owns lines 0) ∙ o) in
      subst (λ h. ((h ≡ 0) × IsClosed (known v 0)) ⊎ ((0 < h) × IsOpen v h)) (sym (if_true (at false lines 0) v.holds 0 parts.1)) (s.gate parts.0);
}

pub settled_learned : (v w u : View) → Settled v → Settled w → Compares (hearing v w) u → Settled u
settled_learned v w u s t told = subst Settled (sym told.is) record {
  outside = s.outside;
  clear = s.clear;
  paid = s.paid;
  stored = s.stored;
  gate = λ o. ⊎_elim
      (λ (e : at false v.owns 0 ≡ true). subst (λ h. ((h ≡ 0) × IsClosed (known (learned (hearing v w)) 0)) ⊎ ((0 < h) × IsOpen (learned (hearing v w)) h))
      (sym (if_true (at false v.owns 0) v.holds w.holds e))
      (subst (λ ks. ((v.holds ≡ 0) × IsClosed ks) ⊎ ((0 < v.holds) × (stage ks ≡ 2 * v.holds))) (sym (told.owned 0 e) ∙ ap (λ x. known x 0) told.is) (s.gate e)))
      (λ (e : at false v.owns 0 ≡ false). let e' = ⊎_elim (λ a. absurd (both_ways (at false v.owns 0) e a))
      (λ a. a) (or_cases (at false v.owns 0) (at false w.owns 0) (sym (at_joined v.owns w.owns 0) ∙ o)) in
      subst (λ h. ((h ≡ 0) × IsClosed (known (learned (hearing v w)) 0)) ⊎ ((0 < h) × IsOpen (learned (hearing v w)) h)) (sym (if_false (at false v.owns 0) v.holds w.holds e))
      (subst (λ ks. ((w.holds ≡ 0) × IsClosed ks) ⊎ ((0 < w.holds) × (stage ks ≡ 2 * w.holds))) (sym (told.taken 0 e') ∙ ap (λ x. known x 0) told.is) (t.gate e')))
      (cases_Bool (at false v.owns 0));
}

-- so is who has made a peer's entry, or one that leaves nothing to be done
pub settled_appended : (v : View) (r : ℕ) (made : Made) (aim : Option MNum) (freed : List MNum) (n : ℕ) → IsInRole r made
    → (r ≡ 1) ⊎ IsQuiet (kept v made aim freed n) → Settled v → Settled (appended v r (kept v made aim freed n))
settled_appended v r made aim freed n stands quiet s = record {
  outside = s.outside;
  clear = s.clear;
  paid = ⊎_elim
      (λ (e : r ≡ 1). λ c. ap (λ d. at false d c) (if_false (r == 0) (by_place 64 (owes_after (known v 0) k)) v.debts (ne_eqb r 0 (λ z. omega arith))) ∙ s.paid c)
      (λ q. paid_more v r k q.marks q.frees s.paid) quiet;
  stored = (ap (λ d. fill_after d (caller_place made.caller) v.fill) still ∙ s.stored.0, ap (λ d. empty_after d (caller_place made.caller) v.empty) still ∙ s.stored.1);
  gate = λ o. ⊎_elim (λ z. inl (z.0, (z.1.0, same_stage ∙ z.1.1))) (λ z. inr (z.0, same_stage ∙ z.1)) (s.gate o);
}
  where
    k : KeptEntry
    k = kept v made aim freed n

    x : Item
    x = record { role = r; kept = k }

    deed_stays : pin_deed made.caller made.op made.reply ≡ stays
    deed_stays = ⊎_elim (λ (e : r ≡ 1). peer_stays made.caller made.op made.reply (stands.peer e).1) (λ q. q.pin) quiet

    still : pin_owed v made ≡ stays
    still = ap (owing (pin (known v (caller_line made.caller)))) deed_stays

    same_stage : stage (known (appended v r k) 0) ≡ stage (known v 0)
    same_stage = ⊎_elim
        (λ (e : is_in 0 x ≡ true). ⊎_elim
        (λ (one : r ≡ 1). absurd (⊎_elim (λ c. let c' : 0 ≡ r = c in omega arith) (λ c. let c' : 0 ≡ caller_place made.caller + 10 = c in omega arith) (in_cases 0 x e)))
        (λ q. ap stage (appended_in v x 0 stands.one e) ∙ (stage_more (known v 0) k ∙ ap (stage_after (stage (known v 0))) q.cycles)) quiet)
        (λ (e : is_in 0 x ≡ false). ap stage (appended_out v x 0 e))
        (cases_Bool (is_in 0 x))
