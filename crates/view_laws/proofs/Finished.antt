-- What a view knows of a finished order is a linked history.
use Rattle.std.proofs.Common.{◌≡◌, inl, inr, ⊎_elim, ℕ, ◌+◌, ◌<◌, ◌≤◌, Bool, true, false, ◌||◌, List, [], ◌∷◌, ◌++◌, length, map, Option, Some, None, refl, sym, ap, ◌∙◌, subst, arith, append_assoc}
use Rattle.std.specs.Prelude.{if◌then◌else◌, nat_eq, Contains}
use Rattle.std.proofs.lemmas.Bool.{cases_Bool, cases_lt}
use Rattle.std.proofs.lemmas.List.{append-nil}
use Rattle.std.proofs.lemmas.Bool.Decides.{nat_tests}
use Rattle.joint_machine.specs.declared.names.MNum.{MNum}
use Rattle.joint_machine.specs.declared.names.Thread.{Thread}
use Rattle.joint_machine.specs.declared.names.Thread.TheVariants.{M, P, C}
use Rattle.joint_machine.specs.declared.lines.Act.TheVariants as act
use Rattle.joint_machine.specs.declared.events.Op.{Op}
use Rattle.joint_machine.specs.declared.events.Op.TheVariants as op
use Rattle.joint_machine.specs.declared.events.Reply.{Reply}
use Rattle.joint_machine.specs.declared.events.Reply.TheVariants as says
use Rattle.joint_machine.specs.declared.events.Entry.{Entry}
use Rattle.joint_machine.specs.Histories.{NumberedFrom}
use Rattle.joint_machine.specs.Heaps.{Answered, answer, slot, place}
use Rattle.joint_machine.specs.HistoryLines.{caller_line}
use Rattle.joint_machine.specs.Lines.{IsEvent, IsThread, is_read, is_peer_event}
use Rattle.joint_machine.specs.Linked.{opening_linkage, SideLawful}
use Rattle.joint_machine.specs.Managed.{Managed, cell_set}
use Rattle.joint_machine.specs.PeerReplay.{PeerReplay, Marking, PeerAllows, SliceAllows, SweepAllows}
use Rattle.joint_machine.specs.Readers.{SetsCell, FreesObject}
use Rattle.joint_machine.specs.Sides.{objects_freed, managed_rules, peer_rules, cell_target, object_or_none}
use Rattle.joint_machine.specs.Told.{Told, Noted, snap_of, resolution_of}
use Rattle.joint_machine.specs.PinsTold.{bare_told, no_pins}
use Rattle.joint_machine.proofs.Members.{Contains-nil, Contains-here, Contains-there, Contains-cons_cases, Contains-map}
use Rattle.joint_machine.specs.Draws.{Drawn}
use Rattle.known_laws.specs.Drawn.{IsToldIn, drawn, drawn_by, of_drawn}
use Rattle.known_laws.specs.Growing.{Kept, entries_kept, AreWhole, all_shown, shown}
use Rattle.known_laws.specs.Known.{Comes, given, without_pins}
use Rattle.known_laws.specs.Lists.{made_by}
use Rattle.known_laws.specs.Pasts.{Lawful, end_of, line, is_in, own_of, role_of}
use Rattle.known_laws.specs.PastEntries.{InPast, turned}
use Rattle.known_laws.specs.Wholes.{history_of, AllOrdered}
use Rattle.known_laws.proofs.Drawing.{drawn-entry}
use Rattle.known_laws.proofs.Ending.{known_whole_is_history, lawful_small, turned_twice}
use Rattle.known_laws.proofs.Lists.{event-thread, own_line_is_made_by_caller}
use Rattle.known_laws.proofs.PastsJoin.{below}
use Rattle.known_laws.proofs.Reading.{known_whole_is_linked}
use Rattle.order_table.specs.declared.views.KeptEntry.{KeptEntry}
use Rattle.order_table.specs.declared.views.View.{View}
use Rattle.order_table.specs.Facts.{entries_of, line_entries}
use Rattle.order_table.specs.Owed.{mark, has}
use Rattle.order_table.specs.Replies.{IsNoteOf, AreNotes}
use Rattle.order_table.specs.Rule.{Item, RunsFrom, EachFits, AreLinesOfOneHistory, of_line}
use Rattle.order_table.specs.Rule as rule
use Rattle.order_table.specs.Views.{known}
use Rattle.order_table.proofs.ByNumber.{replies_are_right}
use Rattle.order_table.proofs.GatedReads.{reads_are_gated}
use Rattle.order_table.proofs.Lines.{role_in, in_cases}
use Rattle.order_table.proofs.Wholes.{role_told}
use Rattle.view_laws.specs.Knowing.{of_kept, of_order, drawn_lines, IsDrawnView, OwnLinesAreMadeByCallers, WholeViewIsGated, WholeViewIsLinked}
use Rattle.view_laws.proofs.KnownViews.{whole_kept, line_kept, whole_numbered}
use Rattle.view_laws.proofs.Ordered.{TellsItem, AllTold, lawful-front, all_ordered}
use Rattle.view_laws.proofs.StateWords.{SaysState, says-first, says-more}
use Rattle.known_laws.proofs.CellsDrawn.{targets_are_drawn}

-- two places of a past with one number are one
pub in-back : (front back : List Noted) (y : Noted) → InPast (front ++ y ∷ back) y
in-back [] back y = inl refl
in-back (z ∷ front) back y = inr (in-back front back y)

head-one : (x y : Noted) (a b : List Noted) → x ∷ a ≡ y ∷ b → x ≡ y
head-one x y a b e = ap (λ (l : List Noted). first l) e
  where
    first : List Noted → Noted
    first [] = x
    first (z ∷ l) = z

tail-one : (x y : Noted) (a b : List Noted) → x ∷ a ≡ y ∷ b → a ≡ b
tail-one x y a b e = ap (λ (l : List Noted). rest l) e
  where
    rest : List Noted → List Noted
    rest [] = a
    rest (z ∷ l) = l

pub place-one : (front front' back back' : List Noted) (y y' : Noted) → Lawful (front ++ y ∷ back)
    → front ++ y ∷ back ≡ front' ++ y' ∷ back' → y.entry.number ≡ y'.entry.number → (y ≡ y') × (back ≡ back')
place-one [] [] back back' y y' l e q = (head-one y y' back back' e, tail-one y y' back back' e)
place-one [] (z ∷ front') back back' y y' l e q =
    let t = tail-one y z back (front' ++ y' ∷ back') e in
    let less = below y back y' l.0 l.1 (subst (λ w. InPast w y') (sym t) (in-back front' back' y')) in
    absurd (omega (arith, less, q))
place-one (z ∷ front) [] back back' y y' l e q =
    let same = head-one z y' (front ++ y ∷ back) back' e in
    let less = below z (front ++ y ∷ back) y l.0 l.1 (in-back front back y) in
    let number = ap (λ (n : Noted). n.entry.number) same in
    absurd (omega (arith, less, q, number))
place-one (z ∷ front) (z' ∷ front') back back' y y' l e q = place-one front front' back back' y y' l.1 (tail-one z z' (front ++ y ∷ back) (front' ++ y' ∷ back') e) q

turned-front : (ns h : List Noted) (n : Noted) → (front : List Noted) × (turned (n ∷ h) ns ≡ front ++ n ∷ h)
turned-front [] h n = ([], refl)
turned-front (m ∷ ns) h n =
    let r = turned-front ns (n ∷ h) m in
    (r.0 ++ m ∷ [], r.1 ∙ sym (append_assoc r.0 (m ∷ []) (n ∷ h)))

all-told : (past : List Noted) (xs : List Item) (h ns : List Noted) → Lawful past → past ≡ turned h ns
    → all_shown ns ≡ whole_kept xs → ((x : Item) → Contains xs x → IsToldIn past (of_order x.kept)) → AllTold h xs ns
all-told past [] h [] l e s t = tt
all-told past [] h (n ∷ ns) l e s t = absurd (let f : 1 ≤ 0 = subst (λ z. 1 ≤ length z) s (omega arith) in omega (arith, f))
all-told past (x ∷ xs) h [] l e s t = absurd (let f : 1 ≤ 0 = subst (λ z. 1 ≤ length z) (sym s) (omega arith) in omega (arith, f))
all-told past (x ∷ xs) h (n ∷ ns) l e s t =
    let one : shown n ≡ of_kept x.kept = kept-head (shown n) (of_kept x.kept) (all_shown ns) (whole_kept xs) s in
    let entry : n.entry ≡ x.kept.entry = ap (λ (k : Kept). k.entry) one in
    let told = t x (Contains-here x xs) in
    let there = turned-front ns h n in
    let number : told.entry.entry.number ≡ n.entry.number = ap (λ (z : Entry). z.number) (sym (drawn-entry (end_of told.back) told.entry) ∙ (sym (ap (λ d. d.entry) told.same) ∙ sym entry)) in
    let place = place-one told.front there.0 told.back h told.entry n (subst Lawful told.all l) (sym told.all ∙ (e ∙ there.1)) number in (
      record { entry = entry; drawn_so = sym (told.same ∙ (λ i. drawn (end_of (place.1 i)) (place.0 i))); pins = sym (ap (λ (k : Kept). k.pins) one) },
      all-told past xs (n ∷ h) ns l e (kept-tail (shown n) (of_kept x.kept) (all_shown ns) (whole_kept xs) s) (λ y c. t y (Contains-there y x xs c)),
    )
  where
    kept-head : (a b : Kept) (us vs : List Kept) → a ∷ us ≡ b ∷ vs → a ≡ b
    kept-head a b us vs e = ap (λ (l : List Kept). first l) e
      where
        first : List Kept → Kept
        first [] = a
        first (z ∷ l) = z

    kept-tail : (a b : Kept) (us vs : List Kept) → a ∷ us ≡ b ∷ vs → us ≡ vs
    kept-tail a b us vs e = ap (λ (l : List Kept). rest l) e
      where
        rest : List Kept → List Kept
        rest [] = us
        rest (z ∷ l) = l

-- what is told as freed
contains-has : (xs : List ℕ) (m : ℕ) → Contains xs m → has (map (λ x. record { 0 = x }) xs) m ≡ true
contains-has [] m c = absurd (Contains-nil m c)
contains-has (x ∷ xs) m c = ⊎_elim
    (λ (e : x ≡ m). ap (λ b. b || has (map (λ x. record { 0 = x }) xs) m) (subst (λ z. nat_eq x z ≡ true) e (self x)))
    (λ d. or-true (nat_eq x m) (contains-has xs m d))
    (Contains-cons_cases x xs m c)
  where
    self : (n : ℕ) → nat_eq n n ≡ true
    self n = grind (arith, nat_tests)

    or-true : (b : Bool) → has (map (λ x. record { 0 = x }) xs) m ≡ true → (b || has (map (λ x. record { 0 = x }) xs) m) ≡ true
    or-true true e = refl
    or-true false e = e

pub frees-has : (told : Told) (m : ℕ) → FreesObject told m → has (objects_freed told) m ≡ true
frees-has (snap_of freed candidates dead) m f = contains-has freed m f
frees-has (resolution_of alive freed) m f = contains-has freed m f
frees-has _ m f = absurd f

-- a peer's entry frees no object
slice-none : (o : Option Marking) (t : Thread) (told : Told) (m : ℕ) → SliceAllows o t told → FreesObject told m → ⊥
slice-none None t (snap_of f c d) m a w = a
slice-none None t (resolution_of x f) m a w = a
slice-none (Some mk) t (snap_of f c d) m a w = a
slice-none (Some mk) t (resolution_of x f) m a w = a
slice-none o t _ m a w = w

sweep-none : (s : PeerReplay) (o : Option Marking) (t : Thread) (told : Told) (m : ℕ) → SweepAllows s o t told → FreesObject told m → ⊥
sweep-none s None (M n) (snap_of f c d) m a w = a
sweep-none s None (P n) (snap_of f c d) m a w = a
sweep-none s None C (snap_of f c d) m a w = a
sweep-none s None (M n) (resolution_of x f) m a w = a
sweep-none s None (P n) (resolution_of x f) m a w = a
sweep-none s None C (resolution_of x f) m a w = a
sweep-none s (Some mk) (M n) (snap_of f c d) m a w = a
sweep-none s (Some mk) (P n) (snap_of f c d) m a w = a
sweep-none s (Some mk) C (snap_of f c d) m a w = a
sweep-none s (Some mk) (M n) (resolution_of x f) m a w = a
sweep-none s (Some mk) (P n) (resolution_of x f) m a w = a
sweep-none s (Some mk) C (resolution_of x f) m a w = a
sweep-none s o t _ m a w = w

pub peer-none : (s : PeerReplay) (t : Thread) (o : Op) (cites : Option ℕ) (told : Told) (m : ℕ) → PeerAllows s t o cites told → FreesObject told m → ⊥
peer-none s t (op.Line (act.Slice n)) cites told m a w = slice-none s.marking t told m a w
peer-none s t op.Sweep cites told m a w = sweep-none s s.marking t told m a w
peer-none s t o cites (snap_of f c d) m a w = a
peer-none s t o cites (resolution_of x f) m a w = a
peer-none s t o cites _ m a w = w

module _ (h : List Noted) (x : Item) (n : Noted) (l : Lawful (n ∷ h)) (item : TellsItem h x n) where
  freed-note : (m : ℕ) → FreesObject (bare_told n.told) m → has x.kept.freed m ≡ true
  freed-note m f = subst (λ z. has z m ≡ true) (ap (λ d. d.freed) item.drawn_so) (by (is_peer_event n.entry.made.caller n.entry.made.op) refl)
    where
      none : is_peer_event n.entry.made.caller n.entry.made.op ≡ true → (b : Bool) → Comes b (end_of h) n → ⊥
      none p true c = subst (λ z. FreesObject (bare_told z) m) c.bare f
      none p false c = (let w = subst (λ b. SideLawful b (given (end_of h) n.told) n.entry.made (bare_told n.told)) p c.comes.lawful in
          peer-none (end_of h).peer n.entry.made.caller n.entry.made.op n.entry.made.cites (bare_told n.told) m w.allowed f)

      by : (b : Bool) → is_peer_event n.entry.made.caller n.entry.made.op ≡ b → has (drawn (end_of h) n).freed m ≡ true
      by true p = absurd (none p (is_read n.entry.made.op) l.0.comes)
      by false p = subst (λ b. has (by_side b).freed m ≡ true) (sym p) (frees-has (bare_told n.told) m f)
        where
          by_side : Bool → Drawn
          by_side b = if b then drawn_by peer_rules (end_of h).peer n else drawn_by managed_rules (end_of h).managed n

  abbrev Sets : Op → Reply → Option MNum → ℕ → Type 0
  Sets o r t c = (m : ℕ) × (mark o t ≡ Some (c, m))

  set-by : (t : Thread) (o : Op) (r : Reply) (told : Told) (c : ℕ) → SetsCell o c → r ≡ says.Ok → IsEvent t o
      → Comes (is_read o) (end_of h) (record {
        entry = record { number = n.entry.number; made = record { caller = t; index = n.entry.made.index; op = o; reply = r; cites = n.entry.made.cites } };
        told = told;
      })
      → Sets o r (drawn (end_of h) (record {
        entry = record { number = n.entry.number; made = record { caller = t; index = n.entry.made.index; op = o; reply = r; cites = n.entry.made.cites } };
        told = told;
      })).target c
  set-by (M u) (op.Line (act.Weak k v)) r told c s ok a w = by (slot (end_of h).managed.managed.heap.vars (place u v.0)) refl
    where
      answer_by : Option ℕ → Answered Managed
      answer_by o = elim o [
        | None ↦ answer says.Empty (given (end_of h) told).managed.managed
        | Some y ↦ cell_set (given (end_of h) told).managed.managed k.0 y (slot (end_of h).managed.managed.cells k.0)
      ]

      by : (o : Option ℕ) → slot (end_of h).managed.managed.heap.vars (place u v.0) ≡ o → Sets (op.Line (act.Weak k v)) r (cell_target (end_of h).managed (M u) (op.Line (act.Weak k v)) r) c
      by None e = absurd (let f : says.Ok ≡ says.Empty = sym ok ∙ (w.comes.lawful.replies ∙ ap (λ o. (answer_by o).reply) e) in cc)
      by (Some y) e = (
        y,
        ap (λ z. mark (op.Line (act.Weak k v)) (cell_target (end_of h).managed (M u) (op.Line (act.Weak k v)) z)) ok
            ∙ (ap (λ z. mark (op.Line (act.Weak k v)) (object_or_none z)) e ∙ ap (λ z. Some (z, y)) s),
      )
  set-by (P u) (op.Line (act.Weak k v)) r told c s ok a w = absurd a.0.1
  set-by C (op.Line (act.Weak k v)) r told c s ok a w = absurd a.0
  set-by t (op.Line z) r told c s ok a w = absurd s
  set-by t o r told c s ok a w = absurd s

  note-is : IsNoteOf x (without_pins n)
  note-is = record {
    entry = item.entry;
    freed = freed-note;
    set = λ c s ok. (
        let event : IsEvent n.entry.made.caller n.entry.made.op = event-of (is_read n.entry.made.op) l.0.comes in
        let w = set-by n.entry.made.caller n.entry.made.op n.entry.made.reply n.told c s ok event l.0.comes in
        (w.0, sym (λ i. mark (item.entry i).made.op (item.drawn_so i).target) ∙ w.1));
  }
    where
      event-of : (b : Bool) → Comes b (end_of h) n → IsEvent n.entry.made.caller n.entry.made.op
      event-of true c = c.event
      event-of false c = c.comes.event

notes-are : (xs : List Item) (h ns : List Noted) → Lawful (turned h ns) → AllTold h xs ns → AreNotes xs (map without_pins ns)
notes-are [] h [] l t = tt
notes-are [] h (n ∷ ns) l t = absurd t
notes-are (x ∷ xs) h [] l t = absurd t
notes-are (x ∷ xs) h (n ∷ ns) l t = (note-is h x n (lawful-front ns (n ∷ h) l) t.0, notes-are xs (n ∷ h) ns l t.1)

says-all : (before xs : List Item) (h ns : List Noted) (k : ℕ) → RunsFrom k xs → EachFits before xs → Lawful (turned h ns)
    → AllTold h xs ns → SaysState (of_line 0 before) h → SaysState (of_line 0 (before ++ xs)) (turned h ns)
says-all before [] h [] k runs fits l t w = subst (λ z. SaysState (of_line 0 z) h) (sym (append-nil before)) w
says-all before [] h (n ∷ ns) k runs fits l t w = absurd t
says-all before (x ∷ xs) h [] k runs fits l t w = absurd t
says-all before (x ∷ xs) h (n ∷ ns) k runs fits l t w =
    subst (λ z. SaysState (of_line 0 z) (turned (n ∷ h) ns)) (append_assoc before (x ∷ []) xs)
    (says-all (before ++ x ∷ []) xs (n ∷ h) ns (k + 1) runs.1 fits.1 l t.1
    (says-more before x h n (lawful-front ns (n ∷ h) l) w (role_told x.role x.kept.entry.made runs.0.stands) t.0.entry t.0.drawn_so fits.0.others))

-- each item stands in the line of its role
item-in : (xs : List Item) (x : Item) → Contains xs x → Contains (of_line x.role xs) x.kept
item-in [] x c = absurd (Contains-nil x c)
item-in (y ∷ xs) x c = ⊎_elim
    (λ (e : y ≡ x). subst (λ ks. Contains ks x.kept) (sym (ap (λ b. if b then y.kept ∷ of_line x.role xs else of_line x.role xs) (role_in x.role y (ap (λ (z : Item). z.role) (sym e)))))
    (subst (λ (z : Item). Contains (z.kept ∷ of_line x.role xs) x.kept) (sym e) (Contains-here x.kept (of_line x.role xs))))
    (λ (d : Contains xs x). more (rule.is_in x.role y) (item-in xs x d))
    (Contains-cons_cases y xs x c)
  where
    more : (b : Bool) → Contains (of_line x.role xs) x.kept → Contains (if b then y.kept ∷ of_line x.role xs else of_line x.role xs) x.kept
    more true d = Contains-there x.kept y.kept (of_line x.role xs) d
    more false d = d

-- there are 27 lines
runs-role : (k : ℕ) (xs : List Item) (x : Item) → RunsFrom k xs → Contains xs x → x.role < 10
runs-role k [] x r c = absurd (Contains-nil x c)
runs-role k (y ∷ xs) x r c = ⊎_elim (λ (e : y ≡ x). subst (λ (z : Item). z.role < 10) e r.0.stands.one) (λ d. runs-role (k + 1) xs x r.1 d) (Contains-cons_cases y xs x c)

caller-low : (t : Thread) → IsThread t → caller_line t < 27
caller-low (M n) w = omega (arith, w.1)
caller-low (P n) w = omega (arith, w.1)
caller-low C w = omega arith

far-items : (i k : ℕ) (xs : List Item) → RunsFrom k xs → 27 ≤ i → of_line i xs ≡ []
far-items i k [] r l = refl
far-items i k (x ∷ xs) r l = ap (λ b. if b then x.kept ∷ of_line i xs else of_line i xs) (⊎_elim
    (λ (e : rule.is_in i x ≡ true). absurd (⊎_elim
    (λ (q : i ≡ x.role). let a = r.0.stands.one in omega (arith, a, q, l))
    (λ (q : i ≡ caller_line x.kept.entry.made.caller). let a = caller-low x.kept.entry.made.caller r.0.caller in omega (arith, a, q, l))
    (in_cases i x e)))
    (λ (e : rule.is_in i x ≡ false). e)
    (cases_Bool (rule.is_in i x))) ∙ far-items i (k + 1) xs r.1 l

pub past-event : (h : List Noted) (n : Noted) → Lawful (n ∷ h) → IsEvent n.entry.made.caller n.entry.made.op
past-event h n l = by (is_read n.entry.made.op) l.0.comes
  where
    by : (b : Bool) → Comes b (end_of h) n → IsEvent n.entry.made.caller n.entry.made.op
    by true c = c.event
    by false c = c.comes.event

far-past : (i : ℕ) (h : List Noted) → Lawful h → 27 ≤ i → line i h ≡ []
far-past i [] l w = refl
far-past i (n ∷ h) l w = ap (λ b. if b then line i h ++ n ∷ [] else line i h) (⊎_elim
    (λ (e : is_in i n ≡ true). absurd (⊎_elim
    (λ (q : i ≡ role_of n). let a = lawful_small (n ∷ h) l n (inl refl) in omega (arith, a, q, w))
    (λ (q : i ≡ own_of n). let a = caller-low n.entry.made.caller (event-thread n.entry.made.caller n.entry.made.op (past-event h n l)) in omega (arith, a, q, w))
    (in_cases i (record { role = role_of n; kept = record { entry = n.entry; target = None; freed = []; pins = [] } }) e)))
    (λ (e : is_in i n ≡ false). e)
    (cases_Bool (is_in i n))) ∙ far-past i h l.1 w

kept-drawn : (ks : List KeptEntry) → of_drawn (map of_order ks) ≡ map of_kept ks
kept-drawn [] = refl
kept-drawn (k ∷ ks) = ap (λ l. of_kept k ∷ l) (kept-drawn ks)

entries-kept : (xs : List Item) → entries_kept (whole_kept xs) ≡ entries_of xs
entries-kept [] = refl
entries-kept (x ∷ xs) = ap (λ l. x.kept.entry ∷ l) (entries-kept xs)

-- so all lines of a view are whole
lines-whole : (v : View) (a : IsDrawnView v) (w : AreLinesOfOneHistory v.known) → AreWhole (whole_kept w.whole) (λ i. of_drawn (drawn_lines v i))
lines-whole v a w i = ⊎_elim
    (λ (l : 26 < i). a.known.same i ∙ (ap all_shown (far-past i a.known.past a.known.lawful (omega (arith, l)))
    ∙ (sym (ap (map of_kept) (far-items i 0 w.whole w.numbers (omega (arith, l)))) ∙ line_kept i 0 w.whole w.numbers)))
    (λ (l : i ≤ 26). kept-drawn (known v i) ∙ (ap (map of_kept) (w.each i (omega (arith, l))) ∙ line_kept i 0 w.whole w.numbers))
    (cases_lt 26 i)

-- and the line of a thread has just its entries
pub own_lines_are_made_by_callers : OwnLinesAreMadeByCallers
own_lines_are_made_by_callers v a w t is =
    let made = own_line_is_made_by_caller (whole_kept w.whole) (λ i. of_drawn (drawn_lines v i)) a.known
    (whole_numbered 0 w.whole w.numbers) (lines-whole v a w) t is (lines-whole v a w (caller_line t)) in
    sym (ap entries_kept (kept-drawn (known v (caller_line t))) ∙ entries-of (known v (caller_line t))) ∙ (made ∙ ap (made_by t) (entries-kept w.whole))
  where
    entries-of : (ks : List KeptEntry) → entries_kept (map of_kept ks) ≡ line_entries ks
    entries-of [] = refl
    entries-of (k ∷ ks) = ap (λ l. k.entry ∷ l) (entries-of ks)

-- what is told of a view that knows a whole history, as notes of the history's entries
module _ (v : View) (a : IsDrawnView v) (w : AreLinesOfOneHistory v.known) where
  abbrev lines : ℕ → List Kept
  lines i = of_drawn (drawn_lines v i)

  abbrev past : List Noted
  past = a.known.past

  abbrev ns : List Noted
  ns = turned [] past

  numbered : NumberedFrom 0 (entries_kept (whole_kept w.whole))
  numbered = whole_numbered 0 w.whole w.numbers

  all : AreWhole (whole_kept w.whole) lines
  all = lines-whole v a w

  back : past ≡ turned [] ns
  back = sym (turned_twice [] [] past ∙ append-nil past)

  item-told : (x : Item) → Contains w.whole x → IsToldIn past (of_order x.kept)
  item-told x c =
      let low = runs-role 0 w.whole x w.numbers c in
      a.told x.role (of_order x.kept) (Contains-map of_order (known v x.role) x.kept (subst (λ ks. Contains ks x.kept) (sym (w.each x.role (omega (arith, low)))) (item-in w.whole x c)))

  lawful : Lawful (turned [] ns)
  lawful = subst Lawful back a.known.lawful

  told : AllTold [] w.whole ns
  told = all-told past w.whole [] ns a.known.lawful back (known_whole_is_history (whole_kept w.whole) lines a.known numbered all).same item-told

  state-said : SaysState (of_line 0 w.whole) past
  state-said = subst (λ z. SaysState (of_line 0 w.whole) z) (sym back) (says-all [] w.whole [] ns 0 w.numbers w.fits lawful told says-first)

  ordered : AllOrdered (history_of past) (end_of past).managed.managed.cells opening_linkage no_pins ns
  ordered = all_ordered w.whole (replies_are_right w.whole w.numbers w.fits w.pending) w.numbers w.fits (history_of past) (notes-are w.whole [] ns lawful told) (end_of past).managed.managed.cells
      (λ c. targets_are_drawn past a.known.lawful c ∙ sym (state-said.cells c)) ns lawful told says-first

  notes : AreNotes w.whole (history_of past)
  notes = notes-are w.whole [] ns lawful told

pub whole_view_is_linked : WholeViewIsLinked
whole_view_is_linked h v a w same ended =
    known_whole_is_linked h (whole_kept w.whole) (lines v a w) a.known (entries-kept w.whole ∙ sym same) (subst (NumberedFrom 0) (entries-kept w.whole ∙ sym same) (numbered v a w))
    (all v a w) (ordered v a w) ended

pub whole_view_is_gated : WholeViewIsGated
whole_view_is_gated v a w = reads_are_gated w.whole (history_of a.known.past) record { runs = w.numbers; fits = w.fits; notes = notes v a w }
