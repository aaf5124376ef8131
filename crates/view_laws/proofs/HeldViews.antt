-- What a pin's word tells the owner of the managed list says the same of its past: so pins that hold such objects
-- stand.
use Rattle.std.proofs.Common.{◌≡◌, inl, inr, ⊎_elim, ℕ, zero, suc, ◌+◌, ◌<◌, ◌≤◌, Bool, true, false, List, [], ◌∷◌, ◌++◌, length, map, Option, Some, None, refl, sym, ap, ◌∙◌, subst, arith, true≢false}
use Rattle.std.proofs.Common.{append_assoc}
use Rattle.std.specs.Prelude.{if◌then◌else◌, nat_eq, nat_lt, Contains}
use Rattle.std.specs.List.{list_any}
use Rattle.std.proofs.lemmas.Bool.{cases_Bool, cases_lt, ltb-true, ltb-false}
use mathlib.Core.Option.{some}
use Rattle.joint_machine.specs.declared.events.Entry.{Entry}
use Rattle.joint_machine.specs.declared.names.MNum.{MNum}
use Rattle.joint_machine.specs.declared.lines.Act.TheVariants as act
use Rattle.joint_machine.specs.declared.events.Op.{Op}
use Rattle.joint_machine.specs.declared.events.Op.TheVariants as op
use Rattle.joint_machine.specs.Sides.{objects_freed, managed_rules, peer_rules}
use Rattle.std.proofs.lemmas.Option.{same_Some}
use Rattle.std.proofs.lemmas.List.Elements.{Contains-append_left, Contains-append_right}
use Rattle.joint_machine.specs.Draws.{Drawn}
use Rattle.joint_machine.specs.HistoryLines.{caller_line, list_line, reader_line}
use Rattle.joint_machine.specs.Lines.{is_read, is_peer_event}
use Rattle.joint_machine.specs.Linked.{SideLawful}
use Rattle.joint_machine.specs.Managed.{OpenCycle}
use Rattle.joint_machine.specs.Heaps.{slot}
use Rattle.joint_machine.specs.Readers.{FreesObject}
use Rattle.joint_machine.specs.Told.{Noted}
use Rattle.joint_machine.specs.PinsTold.{bare_told}
use Rattle.joint_machine.proofs.Members.{Contains-nil, Contains-here, Contains-there, Contains-cons_cases, Contains-map, Contains-map_cases}
use Rattle.known_laws.specs.Drawn.{IsToldIn, drawn, drawn_by, of_drawn}
use Rattle.known_laws.specs.Growing.{Kept, all_shown, shown}
use Rattle.known_laws.specs.Known.{Comes, given}
use Rattle.known_laws.specs.Pasts.{Lawful, end_of, line, is_in, role_of}
use Rattle.known_laws.specs.PastEntries.{InPast}
use Rattle.known_laws.specs.Held as past
use Rattle.known_laws.specs.Held.{open_number}
use Rattle.known_laws.proofs.CellsDrawn.{targets_are_drawn}
use Rattle.known_laws.proofs.Drawing.{drawn-entry, freed_is_drawn}
use Rattle.known_laws.proofs.Held.{cycles_are_drawn, held_pins_stand}
use Rattle.known_laws.proofs.PastsJoin.{below}
use Rattle.known_laws.proofs.PastLines.{in-line, line-in as past-line}
use Rattle.order_table.specs.declared.views.KeptEntry.{KeptEntry}
use Rattle.order_table.specs.Owed.{marked, mark, has, is_freed}
use Rattle.order_table.specs.Rule.{Item, IsBelow, Stands, of_line}
use Rattle.order_table.specs.Rule as rule
use Rattle.order_table.proofs.Held.{those_more, those_all}
use Rattle.order_table.proofs.Lines.{role_in, in_cases}
use Rattle.view_laws.specs.Knowing.{row, pins_of, of_kept, of_order, PinsOfViewsStand, ViewsSayStates, TargetsAgree}
use Rattle.view_laws.specs.Knowing as knowing
use Rattle.joint_machine.proofs.Numbered.{slot-Contains}
use Rattle.known_laws.proofs.Later.{kept_end}
use Rattle.std.proofs.lemmas.Map.Views.{list_any-from_Contains, Contains-from_any}
use Rattle.std.proofs.lemmas.Cmp.{nat_eq_equiv}
use Rattle.order_table.specs.Views.{known as known_by}
use Rattle.view_laws.proofs.StateWords as words
use Rattle.view_laws.proofs.StateWords.{SaysState, says-first, says-more, line-in, line-out}
use Rattle.order_table.specs.Replies.{object_of}
use Rattle.order_table.specs.Rows.{at}
use Rattle.view_laws.proofs.PinWords.{row-slot, object-more, same-number}
use Rattle.view_laws.proofs.Finished.{place-one, frees-has, peer-none}

-- a list as lines keep it, without its last entry
record Last (ks : List KeptEntry) (us : List Kept) (u : Kept) : Type 0 where
  front : List KeptEntry
  last : KeptEntry
  all : ks ≡ front ++ last ∷ []
  same : us ≡ map of_kept front
  one : u ≡ of_kept last

kept-head : (a b : Kept) (us vs : List Kept) → a ∷ us ≡ b ∷ vs → a ≡ b
kept-head a b us vs e = ap (λ (l : List Kept). first l) e
  where
    first : List Kept → Kept
    first [] = a
    first (z ∷ l) = z

kept-tail : (a b : Kept) (us vs : List Kept) → a ∷ us ≡ b ∷ vs → us ≡ vs
kept-tail a b us vs e = ap (λ (l : List Kept). rest l) e
  where
    rest : List Kept → List Kept
    rest [] = us
    rest (z ∷ l) = l

no-kept : (u : Kept) (us : List Kept) → u ∷ us ≡ [] → ⊥
no-kept u us e = (let f : 1 ≤ 0 = subst (λ z. 1 ≤ length z) e (omega arith) in omega (arith, f))

unsnoc : (ks : List KeptEntry) (us : List Kept) (u : Kept) → us ++ u ∷ [] ≡ map of_kept ks → Last ks us u
unsnoc [] [] u e = absurd (no-kept u [] e)
unsnoc [] (v ∷ us) u e = absurd (no-kept v (us ++ u ∷ []) e)
unsnoc (k ∷ []) [] u e = record { front = []; last = k; all = refl; same = refl; one = kept-head u (of_kept k) [] [] e }
unsnoc (k ∷ l ∷ ks) [] u e = absurd (no-kept (of_kept l) (map of_kept ks) (sym (kept-tail u (of_kept k) [] (of_kept l ∷ map of_kept ks) e)))
unsnoc (k ∷ ks) (v ∷ us) u e =
    let r = unsnoc ks us u (kept-tail v (of_kept k) (us ++ u ∷ []) (map of_kept ks) e) in
    record { front = k ∷ r.front; last = r.last; all = ap (λ l. k ∷ l) r.all; same = (λ i. kept-head v (of_kept k) (us ++ u ∷ []) (map of_kept ks) e i ∷ r.same i); one = r.one }

shown-snoc : (ns : List Noted) (n : Noted) → all_shown (ns ++ n ∷ []) ≡ all_shown ns ++ shown n ∷ []
shown-snoc [] n = refl
shown-snoc (m ∷ ns) n = ap (λ l. shown m ∷ l) (shown-snoc ns n)

-- the entries of the managed list as items
abbrev as_items : List KeptEntry → List Item
as_items ks = map (λ k. record { role = 0; kept = k }) ks

items-line : (ks : List KeptEntry) → of_line 0 (as_items ks) ≡ ks
items-line [] = refl
items-line (k ∷ ks) = ap (λ b. if b then k ∷ of_line 0 (as_items ks) else of_line 0 (as_items ks)) (role_in 0 (record { role = 0; kept = k }) refl) ∙ ap (λ l. k ∷ l) (items-line ks)

-- an entry as an item of its list, as it is drawn
abbrev item_of : List Noted → Noted → Item
item_of h n = record { role = role_of n; kept = record { entry = n.entry; target = (drawn (end_of h) n).target; freed = (drawn (end_of h) n).freed; pins = [] } }

in-zero : (n : Noted) → is_in 0 n ≡ true → 0 ≡ role_of n
in-zero n e = ⊎_elim (λ (q : 0 ≡ role_of n). q) (λ (q : 0 ≡ caller_line n.entry.made.caller). absurd (omega (arith, q))) (in_cases 0 (item_of [] n) e)

zero-in : (n : Noted) → role_of n ≡ 0 → is_in 0 n ≡ true
zero-in n e = role_in 0 (item_of [] n) (sym e)

-- an entry of another list sets no cell and frees no object
other-draws : (h : List Noted) (n : Noted) → Lawful (n ∷ h) → (role_of n ≡ 0 → ⊥) → (marked (item_of h n).kept ≡ None) × ((drawn (end_of h) n).freed ≡ [])
other-draws h n l z = by (is_peer_event n.entry.made.caller n.entry.made.op) refl (is_read n.entry.made.op) refl l.0.comes
  where
    Goal : Type 0
    Goal = (marked (item_of h n).kept ≡ None) × ((drawn (end_of h) n).freed ≡ [])

    by : (p : Bool) → is_peer_event n.entry.made.caller n.entry.made.op ≡ p → (r : Bool) → is_read n.entry.made.op ≡ r → Comes r (end_of h) n → Goal
    by true p r e c = (
      ap (λ b. mark n.entry.made.op (side b).target) p ∙ unmarked n.entry.made.op,
      ap (λ b. (side b).freed) p,
    )
      where
        side : Bool → Drawn
        side b = if b then drawn_by peer_rules (end_of h).peer n else drawn_by managed_rules (end_of h).managed n

        unmarked : (o : Op) → mark o None ≡ None
        unmarked (op.Line (act.Weak c v)) = refl
        unmarked (op.Line a) = refl
        unmarked o = refl
    by false p true e c = (
      read-unmarked n.entry.made.op ((item_of h n).kept.target) e,
      ap (λ b. (side b).freed) p ∙ ap (λ t. objects_freed (bare_told t)) c.bare,
    )
      where
        side : Bool → Drawn
        side b = if b then drawn_by peer_rules (end_of h).peer n else drawn_by managed_rules (end_of h).managed n

        read-unmarked : (o : Op) (t : Option MNum) → is_read o ≡ true → mark o t ≡ None
        read-unmarked (op.Line (act.Read k)) t e = refl
        read-unmarked (op.Line (act.Await k)) t e = refl
        read-unmarked (op.Line a) t e = absurd (true≢false (sym e))
        read-unmarked o t e = absurd (true≢false (sym e))
    by false p false e c = absurd (z ((λ i. if p i then 1 else (if e i then reader_line n.entry.made.caller else 0))))

-- of a past whose managed list these entries are, the list says what its state has
module _ (known : List Noted) (lawful : Lawful known) where
  abbrev AreTold : List KeptEntry → Type 0
  AreTold ks = (k : KeptEntry) → Contains ks k → IsToldIn known (of_order k)

  says-line : (front h : List Noted) (ks : List KeptEntry) → known ≡ front ++ h → Lawful h → all_shown (line 0 h) ≡ map of_kept ks → AreTold ks → SaysState ks h
  says-line front [] [] e l s t = says-first
  says-line front [] (k ∷ ks) e l s t = absurd (no-kept (of_kept k) (map of_kept ks) (sym s))
  says-line front (n ∷ h) ks e l s t = by (is_in 0 n) refl (λ ks' s' t'. says-line (front ++ n ∷ []) h ks' (e ∙ sym (append_assoc front (n ∷ []) h)) l.1 s' t')
    where
      by : (b : Bool) → is_in 0 n ≡ b → ((ls : List KeptEntry) → all_shown (line 0 h) ≡ map of_kept ls → AreTold ls → SaysState ls h) → SaysState ks (n ∷ h)
      by true b again =
          let r = unsnoc ks (all_shown (line 0 h)) (shown n) (sym (shown-snoc (line 0 h) n) ∙ (sym (ap (λ b. all_shown (if b then line 0 h ++ n ∷ [] else line 0 h)) b) ∙ s)) in
          let in_front : (k : KeptEntry) → Contains r.front k → Contains ks k = λ k c. subst (λ z. Contains z k) (sym r.all) (Contains-append_left r.front (r.last ∷ []) k c) in
          let w = again r.front r.same (λ k c. t k (in_front k c)) in
          let told = t r.last (subst (λ z. Contains z r.last) (sym r.all) (Contains-append_right r.front (r.last ∷ []) r.last (Contains-here r.last []))) in
          let entry : n.entry ≡ r.last.entry = ap (λ (k : Kept). k.entry) r.one in
          let number : told.entry.entry.number ≡ n.entry.number = ap (λ (z : Entry). z.number) (sym (drawn-entry (end_of told.back) told.entry) ∙ (sym (ap (λ d. d.entry) told.same) ∙ sym entry)) in
          let place = place-one told.front front told.back h told.entry n (subst Lawful told.all lawful) (sym told.all ∙ e) number in
          let x : Item = record { role = 0; kept = r.last } in
          let m = says-more (as_items r.front) x h n l (subst (λ z. SaysState z h) (sym (items-line r.front)) w) (in-zero n b ∙ ap (λ (z : Entry). list_line z.made.caller z.made.op) entry) entry
          (sym (told.same ∙ (λ i. drawn (end_of (place.1 i)) (place.0 i)))) (λ z. absurd (z refl)) in
          subst (λ z. SaysState z (n ∷ h)) (line-in (as_items r.front) x refl ∙ (ap (λ z. z ++ r.last ∷ []) (items-line r.front) ∙ sym r.all)) m
      by false b again =
          let z : role_of n ≡ 0 → ⊥ = λ q. true≢false (sym (zero-in n q) ∙ b) in
          let w = again ks (sym (ap (λ b. all_shown (if b then line 0 h ++ n ∷ [] else line 0 h)) b) ∙ s) t in
          let x = item_of h n in
          let o = other-draws h n l z in
          let m = says-more (as_items ks) x h n l (subst (λ z. SaysState z h) (sym (items-line ks)) w) refl refl
          (λ i. record { entry = drawn-entry (end_of h) n i; target = (drawn (end_of h) n).target; freed = (drawn (end_of h) n).freed }) (λ q. o) in
          subst (λ z. SaysState z (n ∷ h)) (line-out (as_items ks) x z ∙ items-line ks) m

-- members of lists and of pasts
contains-past : (xs : List Noted) (x : Noted) → Contains xs x → InPast xs x
contains-past [] x c = absurd (Contains-nil x c)
contains-past (y ∷ xs) x c = ⊎_elim (λ e. inl e) (λ d. inr (contains-past xs x d)) (Contains-cons_cases y xs x c)

past-contains : (xs : List Noted) (x : Noted) → InPast xs x → Contains xs x
past-contains [] x p = absurd p
past-contains (y ∷ xs) x p = ⊎_elim (λ (e : y ≡ x). subst (λ z. Contains (y ∷ xs) z) e (Contains-here y xs)) (λ q. Contains-there x y xs (past-contains xs x q)) p

contains-stands : (ks : List KeptEntry) (k : KeptEntry) → Contains ks k → Stands ks k
contains-stands [] k c = absurd (Contains-nil k c)
contains-stands (l ∷ ks) k c = ⊎_elim (λ (e : l ≡ k). (0, ap some e)) (λ d. let r = contains-stands ks k d in (suc r.0, r.1)) (Contains-cons_cases l ks k c)

each-below : (m : ℕ) (ks : List KeptEntry) → ((k : KeptEntry) → Contains ks k → k.entry.number < m) → IsBelow m ks
each-below m [] f = tt
each-below m (k ∷ ks) f = (f k (Contains-here k ks), each-below m ks (λ l c. f l (Contains-there l k ks c)))

suffix-at : (h : List Noted) (x : Noted) → InPast h x → (front : List Noted) × (back : List Noted) × (h ≡ front ++ x ∷ back)
suffix-at [] x p = absurd p
suffix-at (y ∷ h) x p = ⊎_elim (λ (e : y ≡ x). ([], h, ap (λ z. z ∷ h) e)) (λ q. let r = suffix-at h x q in (y ∷ r.0, r.1, ap (λ z. y ∷ z) r.2)) p

lawful-back : (front h : List Noted) → Lawful (front ++ h) → Lawful h
lawful-back [] h l = l
lawful-back (x ∷ front) h l = lawful-back front h l.1

those-suffix : (n : ℕ) (h : List Noted) → (front : List Noted) × (h ≡ front ++ past.those_below n h)
those-suffix n [] = ([], refl)
those-suffix n (x ∷ h) = by (nat_lt x.entry.number n) (those-suffix n h)
  where
    by : (b : Bool) → (front : List Noted) × (h ≡ front ++ past.those_below n h) → (front : List Noted) × (x ∷ h ≡ front ++ (if b then x ∷ h else past.those_below n h))
    by true r = ([], refl)
    by false r = (x ∷ r.0, ap (λ z. x ∷ z) r.1)

those-in : (n : ℕ) (ks : List KeptEntry) (k : KeptEntry) → Contains (rule.those_below n ks) k → Contains ks k
those-in n [] k c = c
those-in n (l ∷ ks) k c = by (nat_lt l.entry.number n) (those-in n ks k) c
  where
    by : (b : Bool) → (Contains (rule.those_below n ks) k → Contains ks k) → Contains (if b then l ∷ rule.those_below n ks else rule.those_below n ks) k → Contains (l ∷ ks) k
    by true f d = ⊎_elim (λ (e : l ≡ k). subst (λ z. Contains (l ∷ ks) z) e (Contains-here l ks)) (λ q. Contains-there k l ks (f q)) (Contains-cons_cases l (rule.those_below n ks) k d)
    by false f d = Contains-there k l ks (f d)

-- the entries of a past's managed list
listed : (h : List Noted) (ks : List KeptEntry) → all_shown (line 0 h) ≡ map of_kept ks → (k : KeptEntry) → Contains ks k → (n : Noted) × InPast h n × (shown n ≡ of_kept k)
listed h ks s k c =
    let w = Contains-map_cases shown (line 0 h) (of_kept k) (subst (λ z. Contains z (of_kept k)) (sym s) (Contains-map of_kept ks k c)) in
    (w.0, in-line 0 h w.0 (contains-past (line 0 h) w.0 w.1), w.2)

in-list : (h : List Noted) (ks : List KeptEntry) → all_shown (line 0 h) ≡ map of_kept ks → (n : Noted) → InPast h n → role_of n ≡ 0 → (k : KeptEntry) × Contains ks k × (of_kept k ≡ shown n)
in-list h ks s n p z = Contains-map_cases of_kept ks (shown n) (subst (λ y. Contains y (shown n)) s (Contains-map shown (line 0 h) n (past-contains (line 0 h) n (past-line 0 h n p (zero-in n z)))))

those-same : (n : ℕ) (h : List Noted) (ks : List KeptEntry) → Lawful h → all_shown (line 0 h) ≡ map of_kept ks → all_shown (line 0 (past.those_below n h)) ≡ map of_kept (rule.those_below n ks)
those-same n [] [] l s = refl
those-same n [] (k ∷ ks) l s = absurd (no-kept (of_kept k) (map of_kept ks) (sym s))
those-same n (x ∷ h) ks l s = by (nat_lt x.entry.number n) refl (λ ls t. those-same n h ls l.1 t)
  where
    Same : List KeptEntry → Type 0
    Same ls = all_shown (line 0 (past.those_below n h)) ≡ map of_kept (rule.those_below n ls)

    less : nat_lt x.entry.number n ≡ true → (e : Noted) → InPast (x ∷ h) e → e.entry.number < n
    less t e p = ⊎_elim
        (λ (q : x ≡ e). subst (λ (z : Noted). z.entry.number < n) q (ltb-true x.entry.number n t))
        (λ q. let a = below x h e l.0 l.1 q in let b = ltb-true x.entry.number n t in omega (arith, a, b)) p

    skip : nat_lt x.entry.number n ≡ false → ((ls : List KeptEntry) → all_shown (line 0 h) ≡ map of_kept ls → Same ls) → (b : Bool) → is_in 0 x ≡ b → Same ks
    skip f again true b =
        let r = unsnoc ks (all_shown (line 0 h)) (shown x) (sym (shown-snoc (line 0 h) x) ∙ (sym (ap (λ b. all_shown (if b then line 0 h ++ x ∷ [] else line 0 h)) b) ∙ s)) in
        let entry : x.entry ≡ r.last.entry = ap (λ (k : Kept). k.entry) r.one in
        let high : n ≤ r.last.entry.number = subst (λ (e : Entry). n ≤ e.number) entry (ltb-false x.entry.number n f) in
        again r.front r.same ∙ sym (ap (λ z. map of_kept (rule.those_below n z)) r.all ∙ ap (map of_kept) (those_more n r.front r.last high))
    skip f again false b = again ks (sym (ap (λ b. all_shown (if b then line 0 h ++ x ∷ [] else line 0 h)) b) ∙ s)

    by : (b : Bool) → nat_lt x.entry.number n ≡ b → ((ls : List KeptEntry) → all_shown (line 0 h) ≡ map of_kept ls → Same ls)
        → all_shown (line 0 (if b then x ∷ h else past.those_below n h)) ≡ map of_kept (rule.those_below n ks)
    by true t again = s ∙ sym (ap (map of_kept) (those_all n ks
        (each-below n ks (λ k c. (let w = listed (x ∷ h) ks s k c in subst (λ (e : Entry). e.number < n) (ap (λ (z : Kept). z.entry) w.2) (less t w.0 w.1))))))
    by false f again = skip f again (is_in 0 x) refl

module _ (known : List Noted) (lawful : Lawful known) (ks : List KeptEntry) (s : all_shown (line 0 known) ≡ map of_kept ks)
    (t : (k : KeptEntry) → Contains ks k → IsToldIn known (of_order k)) (r m : ℕ) (pos : 0 < r) (low : r < 9) (held : rule.IsHeld ks r m) where
  w : SaysState ks known
  w = says-line known lawful [] known ks refl lawful s t

  -- who frees an object stands in the managed list
  freer-role : (x : Noted) → InPast known x → FreesObject (bare_told x.told) m → role_of x ≡ 0
  freer-role x p f = by (is_peer_event x.entry.made.caller x.entry.made.op) refl (is_read x.entry.made.op) refl here.0.comes
    where
      at_x : (front : List Noted) × (back : List Noted) × (known ≡ front ++ x ∷ back)
      at_x = suffix-at known x p

      here : Lawful (x ∷ at_x.1)
      here = lawful-back at_x.0 (x ∷ at_x.1) (subst Lawful at_x.2 lawful)

      by : (p : Bool) → is_peer_event x.entry.made.caller x.entry.made.op ≡ p → (b : Bool) → is_read x.entry.made.op ≡ b → Comes b (end_of at_x.1) x → role_of x ≡ 0
      by p q true e c = absurd (subst (λ z. FreesObject (bare_told z) m) c.bare f)
      by true q false e c = absurd (let v = subst (λ b. SideLawful b (given (end_of at_x.1) x.told) x.entry.made (bare_told x.told)) q c.comes.lawful in
          peer-none (end_of at_x.1).peer x.entry.made.caller x.entry.made.op x.entry.made.cites (bare_told x.told) m v.allowed f)
      by false q false e c = λ i. if q i then 1 else (if e i then reader_line x.entry.made.caller else 0)

  freer-has : (x : Noted) → InPast known x → FreesObject (bare_told x.told) m → (k : KeptEntry) → Contains ks k → of_kept k ≡ shown x → has k.freed m ≡ true
  freer-has x p f k c one =
      let at_x = suffix-at known x p in
      let told = t k c in
      let number : told.entry.entry.number ≡ x.entry.number = ap (λ (z : Entry). z.number)
      (sym (drawn-entry (end_of told.back) told.entry) ∙ (sym (ap (λ d. d.entry) told.same) ∙ ap (λ (z : Kept). z.entry) one)) in
      let place = place-one told.front at_x.0 told.back at_x.1 told.entry x (subst Lawful told.all lawful) (sym told.all ∙ at_x.2) number in
      let freed : k.freed ≡ (drawn (end_of at_x.1) x).freed = ap (λ (d : Drawn). d.freed) told.same ∙ (λ i. (drawn (end_of (place.1 i)) (place.0 i)).freed) in
      subst (λ z. has z m ≡ true) (sym freed) (own at_x.1 (is_peer_event x.entry.made.caller x.entry.made.op) refl)
    where
      own : (back : List Noted) (b : Bool) → is_peer_event x.entry.made.caller x.entry.made.op ≡ b → has (drawn (end_of back) x).freed m ≡ true
      own back true q = absurd (let z = freer-role x p f in omega (arith, sym z ∙ ap (λ b. if b then 1 else (if is_read x.entry.made.op then reader_line x.entry.made.caller else 0)) q))
      own back false q = subst (λ b. has (side b).freed m ≡ true) (sym q) (frees-has (bare_told x.told) m f)
        where
          side : Bool → Drawn
          side b = if b then drawn_by peer_rules (end_of back).peer x else drawn_by managed_rules (end_of back).managed x

  closed : (end_of (past.those_below held.from known)).managed.managed.cycle ≡ None
  closed = by (end_of h').managed.managed.cycle refl
    where
      h' : List Noted
      h' = past.those_below held.from known

      part : (front : List Noted) × (known ≡ front ++ h')
      part = those-suffix held.from known

      w' : SaysState (rule.those_below held.from ks) h'
      w' = says-line known lawful part.0 h' (rule.those_below held.from ks) part.1 (lawful-back part.0 h' (subst Lawful part.1 lawful))
          (those-same held.from known ks lawful s) (λ k c. t k (those-in held.from ks k c))

      by : (o : Option OpenCycle) → (end_of h').managed.managed.cycle ≡ o → (end_of h').managed.managed.cycle ≡ None
      by None e = e
      by (Some y) e = absurd (let q = w'.opened y.number (sym (cycles_are_drawn h' (lawful-back part.0 h' (subst Lawful part.1 lawful))) ∙ ap open_number e) in
          let z = held.closed.1 in omega (arith, q, z))

  pub held_view : past.IsHeld known r m
  held_view = record {
    cell = held.cell;
    aims = targets_are_drawn known lawful held.cell ∙ (sym (w.cells held.cell) ∙ held.aims);
    from = held.from;
    alive = λ x p l f. (
        let k = in-list known ks s x p (freer-role x p f) in
        let number = subst (λ (e : Entry). e.number < held.from) (sym (ap (λ (z : Kept). z.entry) k.2)) l in
        true≢false (sym (freer-has x p f k.0 k.1 k.2) ∙ held.alive k.0 (contains-stands ks k.0 k.1) number));
    closed = closed;
    kept = λ x p l c e. (
        let k = in-list known ks s x p (ap (list_line x.entry.made.caller) e) in
        let entry : k.0.entry ≡ x.entry = ap (λ (z : Kept). z.entry) k.2 in
        let high = subst (λ (z : Entry). held.from ≤ z.number) (sym entry) l in
        let word = held.kept k.0 (contains-stands ks k.0 k.1) high c (ap (λ (z : Entry). z.made.op) entry ∙ e) in
        ap (λ (z : Kept). slot z.pins r) (sym k.2) ∙ (row-slot (λ i. object_of (at 0 k.0.pins i)) r pos low ∙ (ap object_of word ∙ object-more m)));
  }

word-of : (w m : ℕ) → object_of w ≡ Some m → w ≡ m + 1
word-of zero m e = absurd (let f : None ≡ Some m = e in cc)
word-of (suc k) m e = (let q = same_Some k m e in omega (arith, q))

kept-drawn : (ks : List KeptEntry) → of_drawn (map of_order ks) ≡ map of_kept ks
kept-drawn [] = refl
kept-drawn (k ∷ ks) = ap (λ l. of_kept k ∷ l) (kept-drawn ks)

row-end : (f : ℕ → Option ℕ) (r : ℕ) → 9 ≤ r → slot (row f) r ≡ None
row-end f (suc (suc (suc (suc (suc (suc (suc (suc (suc n))))))))) l = refl
row-end f zero l = absurd (omega (arith, l))
row-end f (suc zero) l = absurd (omega (arith, l))
row-end f (suc (suc zero)) l = absurd (omega (arith, l))
row-end f (suc (suc (suc zero))) l = absurd (omega (arith, l))
row-end f (suc (suc (suc (suc zero)))) l = absurd (omega (arith, l))
row-end f (suc (suc (suc (suc (suc zero))))) l = absurd (omega (arith, l))
row-end f (suc (suc (suc (suc (suc (suc zero)))))) l = absurd (omega (arith, l))
row-end f (suc (suc (suc (suc (suc (suc (suc zero))))))) l = absurd (omega (arith, l))
row-end f (suc (suc (suc (suc (suc (suc (suc (suc zero)))))))) l = absurd (omega (arith, l))

pub pins_of_views_stand : PinsOfViewsStand
pins_of_views_stand v a ws words = held_pins_stand a.known.past (pins_of ws) a.known.lawful by_slot
  where
    s : all_shown (line 0 a.known.past) ≡ map of_kept (known_by v 0)
    s = sym (a.known.same 0) ∙ kept-drawn (known_by v 0)

    told : (k : KeptEntry) → Contains (known_by v 0) k → IsToldIn a.known.past (of_order k)
    told k c = a.told 0 (of_order k) (Contains-map of_order (known_by v 0) k c)

    by_slot : (r m : ℕ) → slot (pins_of ws) r ≡ Some m → past.IsHeld a.known.past r m
    by_slot zero m e = absurd (let f : None ≡ Some m = e in cc)
    by_slot (suc r) m e = ⊎_elim
        (λ (l : 8 < suc r). absurd (let f : None ≡ Some m = sym (row-end (λ i. object_of (at 0 ws i)) (suc r) (omega (arith, l))) ∙ e in cc))
        (λ (l : suc r ≤ 8).
        let word = word-of (at 0 ws (suc r)) m (sym (row-slot (λ i. object_of (at 0 ws i)) (suc r) (omega arith) (omega (arith, l))) ∙ e) in
        held_view a.known.past a.known.lawful (known_by v 0) s told (suc r) m (omega arith) (omega (arith, l)) (words (suc r) m (omega arith) (omega (arith, l)) word))
        (cases_lt 8 (suc r))

-- the state at the end of a view's past is what its managed list says
pub views_say_states : ViewsSayStates
views_say_states v a = record {
  cells = λ c. w.cells c ∙ sym (targets_are_drawn h a.known.lawful c);
  freed = λ m. w.freed m ∙ sym (ap (list_any (nat_eq m)) (freed_is_drawn h a.known.lawful));
  closed = λ e. (let z = w.closed (sym (cycles_are_drawn h a.known.lawful) ∙ ap open_number e) in ((((end_of h).managed.managed.cycles, z)), omega (arith, z)));
  opened = λ c e. w.opened c.number (sym (cycles_are_drawn h a.known.lawful) ∙ ap open_number e);
}
  where
    h : List Noted
    h = a.known.past

    w : words.SaysState (known_by v 0) h
    w = says-line h a.known.lawful [] h (known_by v 0) refl a.known.lawful (sym (a.known.same 0) ∙ kept-drawn (known_by v 0)) (λ k c. a.told 0 (of_order k) (Contains-map of_order (known_by v 0) k c))

pub targets_agree : TargetsAgree
targets_agree v a c m aims = (
  (λ l. ⊎_elim (λ (e : is_freed (known_by v 0) m ≡ true). absurd (l.kept (Contains-from_any (λ x y. same-number x y) m (end_of h).managed.managed.heap.freed (sym (st.freed m) ∙ e))))
      (λ (e : is_freed (known_by v 0) m ≡ false). e) (cases_Bool (is_freed (known_by v 0) m))),
  (λ e. record {
    made = (kept_end h a.known.lawful).managed.managed.cells m (slot-Contains (end_of h).managed.managed.cells c m (sym (st.cells c) ∙ aims));
    kept = λ d. true≢false (sym (list_any-from_Contains nat_eq_equiv m (end_of h).managed.managed.heap.freed d) ∙ (sym (st.freed m) ∙ e));
  }),
)
  where
    h : List Noted
    h = a.known.past

    st : knowing.SaysState v (end_of h).managed.managed
    st = views_say_states v a
