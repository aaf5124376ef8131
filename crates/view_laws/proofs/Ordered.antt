-- A past whose lines are those of one whole history is as the order promises: its snaps and takes are told the pins
-- that reads and takes before them leave, and its reads answer what whole histories allow. By recursion along the
-- history, with the past of the entries before.
use Rattle.std.proofs.Common.{◌≡◌, ℕ, ◌+◌, ◌≤◌, Bool, true, false, List, [], ◌∷◌, ◌++◌, length, Option, Some, None, refl, sym, ap, ◌∙◌, subst, arith, true≢false, append_assoc}
use Rattle.std.specs.Prelude.{nat_eq, slice_set}
use Rattle.std.specs.List.{list_any}
use mathlib.Core.Option.{some}
use lib.ListN.{get_elem?}
use Rattle.joint_machine.specs.declared.names.Thread.{Thread}
use Rattle.joint_machine.specs.declared.names.Thread.TheVariants.{M, P, C}
use Rattle.joint_machine.specs.declared.lines.Act.TheVariants as act
use Rattle.joint_machine.specs.declared.events.Op.{Op}
use Rattle.joint_machine.specs.declared.events.Op.TheVariants as op
use Rattle.joint_machine.specs.declared.events.Reply.TheVariants as says
use Rattle.joint_machine.specs.declared.events.Entry.{Entry}
use Rattle.joint_machine.specs.Control.{caller_place}
use Rattle.joint_machine.specs.Heaps.{Answered, answer, slot, place, with_var}
use Rattle.joint_machine.specs.Lines.{IsEvent, is_read}
use Rattle.joint_machine.specs.HistoryLines.{list_line}
use Rattle.joint_machine.specs.Linked.{opening_linkage}
use Rattle.joint_machine.specs.Managed.{Managed, OpenCycle, managed_name}
use Rattle.joint_machine.specs.Readers.{ReadsCell, IsReadReply}
use Rattle.joint_machine.specs.Told.{Told, Noted}
use Rattle.joint_machine.specs.PinsTold.{pins_told}
use Rattle.joint_laws.specs.ReadingLaws.{pins_by}
use Rattle.known_laws.specs.Drawn.{drawn}
use Rattle.known_laws.specs.PastEntries.{turned}
use Rattle.known_laws.specs.Held.{open_number}
use Rattle.known_laws.specs.Known.{Comes, given, pinned}
use Rattle.known_laws.specs.Pasts.{Lawful, end_of}
use Rattle.known_laws.specs.Wholes.{ArePinsOf, AllOrdered}
use Rattle.known_laws.proofs.CellsDrawn.{targets_are_drawn}
use Rattle.known_laws.proofs.Drawing.{freed_is_drawn}
use Rattle.known_laws.proofs.Held.{cycles_are_drawn}
use Rattle.order_table.specs.Replies.{object_of, first_of, AreNotes, IsStateOf, RepliesAreRight}
use Rattle.order_table.specs.Rows.{at}
use Rattle.order_table.specs.Owed.{target}
use Rattle.order_table.specs.Rule.{Item, RunsFrom, EachFits, Fits, of_line}
use Rattle.order_table.specs.Stages.{IsClosed}
use Rattle.order_table.proofs.Wholes.{role_told}
use Rattle.view_laws.specs.Knowing.{pins_of, of_drawing}
use Rattle.view_laws.proofs.PinWords.{row-ext, row-slot, said, said-more, word_at, TakeAnswers}
use Rattle.view_laws.proofs.StateWords.{SaysState, says-more}

-- an entry of the past is the one that the order keeps, as it was drawn
pub record TellsItem (h : List Noted) (x : Item) (n : Noted) : Type 0 where
  pub entry : n.entry ≡ x.kept.entry
  pub drawn_so : drawn (end_of h) n ≡ of_drawing x.kept
  pub pins : pins_of x.kept.pins ≡ pins_told n.told

abbrev pub AllTold : List Noted → List Item → List Noted → Type 0
AllTold h [] [] = Unit {0}
AllTold h [] (n ∷ ns) = ⊥
AllTold h (x ∷ xs) [] = ⊥
AllTold h (x ∷ xs) (n ∷ ns) = TellsItem h x n × AllTold (n ∷ h) xs ns

pub lawful-front : (ns h : List Noted) → Lawful (turned h ns) → Lawful h
lawful-front [] h l = l
lawful-front (n ∷ ns) h l = (lawful-front ns (n ∷ h) l).1

-- a take by its pin
abbrev taken_by : Managed → ℕ → ℕ → Option ℕ → Answered Managed
taken_by s t v o = elim o [ None ↦ answer says.Empty s | Some x ↦ answer (managed_name x) (record s { heap = with_var s.heap v (Some x); pins = slice_set s.pins t None }) ]

-- places
get-at : (before xs : List Item) (x : Item) → get_elem? (before ++ x ∷ xs) (length before) ≡ some x
get-at [] xs x = refl
get-at (y ∷ before) xs x = get-at before xs x

first-at : (before xs : List Item) → first_of (length before) (before ++ xs) ≡ before
first-at [] xs = refl
first-at (y ∷ before) xs = ap (λ l. y ∷ l) (first-at before xs)

module _ (before : List Item) (x : Item) (h : List Noted) (n : Noted) (l : Lawful (n ∷ h)) (w : SaysState (of_line 0 before) h)
    (item : TellsItem h x n) (fits : Fits before x) (role : x.role ≡ list_line n.entry.made.caller n.entry.made.op) where
  -- what an entry's pins are
  kept-by : (t : Thread) (o : Op) → x.kept.entry.made.caller ≡ t → x.kept.entry.made.op ≡ o → IsEvent t o → x.role ≡ list_line t o → ArePinsOf (said before) t o n.told
  kept-by t (op.Snap k) e f v r = sym item.pins ∙ row-ext (λ i. object_of (at 0 x.kept.pins i)) (λ i. object_of (word_at before i)) (λ i p q. ap object_of (fits.snapped r k f i p q))
  kept-by (M m) (op.Line (act.Take v)) e f a r =
      ap (λ z. slot z m) (sym item.pins)
      ∙ (row-slot (λ i. object_of (at 0 x.kept.pins i)) m (omega (arith, a.0.0.0)) (omega (arith, a.0.0.1))
      ∙ (ap object_of (subst (λ (t : Thread). at 0 x.kept.pins (caller_place t) ≡ word_at before (caller_place t)) e (fits.taken v f))
      ∙ sym (row-slot (λ i. object_of (word_at before i)) m (omega (arith, a.0.0.0)) (omega (arith, a.0.0.1)))))
  kept-by (P m) (op.Line (act.Take v)) e f a r = absurd a.0.1
  kept-by C (op.Line (act.Take v)) e f a r = absurd a.0
  kept-by t o e f a r = tt

  caller-is : x.kept.entry.made.caller ≡ n.entry.made.caller
  caller-is = ap (λ (e : Entry). e.made.caller) (sym item.entry)

  op-is : x.kept.entry.made.op ≡ n.entry.made.op
  op-is = ap (λ (e : Entry). e.made.op) (sym item.entry)

  event-is : IsEvent n.entry.made.caller n.entry.made.op
  event-is = by (is_read n.entry.made.op) l.0.comes
    where
      by : (b : Bool) → Comes b (end_of h) n → IsEvent n.entry.made.caller n.entry.made.op
      by true c = c.event
      by false c = c.comes.event

  pub kept : ArePinsOf (said before) n.entry.made.caller n.entry.made.op n.told
  kept = kept-by n.entry.made.caller n.entry.made.op caller-is op-is event-is role

  -- what a take answers
  take-by : (t : Thread) (o : Op) (told : Told) → IsEvent t o → Comes (is_read o) (end_of h)
      (record { entry = record { number = n.entry.number; made = record { caller = t; index = n.entry.made.index; op = o; reply = n.entry.made.reply; cites = n.entry.made.cites } }; told = told })
      → ArePinsOf (said before) t o told → TakeAnswers (said before) t o n.entry.made.reply
  take-by (M m) (op.Line (act.Take v)) told a c k = (
    λ e. c.comes.lawful.replies ∙ ap (λ o. (taken_by (given (end_of h) told).managed.managed m (place m v.0) o).reply) (k ∙ e),
    λ y e. c.comes.lawful.replies ∙ ap (λ o. (taken_by (given (end_of h) told).managed.managed m (place m v.0) o).reply) (k ∙ e),
  )
  take-by (P m) (op.Line (act.Take v)) told a c k = absurd a.0.1
  take-by C (op.Line (act.Take v)) told a c k = absurd a.0
  take-by t o told a c k = tt

  pub takes : TakeAnswers (said before) n.entry.made.caller n.entry.made.op n.entry.made.reply
  takes = take-by n.entry.made.caller n.entry.made.op n.told event-is l.0.comes kept

  -- the state has what the lines say
  pub state-is : IsStateOf before (pinned (end_of h) (said before)).managed.managed
  state-is = record {
    pins = λ r p q. row-slot (λ i. object_of (word_at before i)) r p q;
    cells = λ c. targets_are_drawn h l.1 c ∙ sym (w.cells c);
    freed = λ m. ap (list_any (nat_eq m)) (freed_is_drawn h l.1) ∙ sym (w.freed m);
    open_cycle = λ c. closed c (end_of h).managed.managed.cycle refl;
  }
    where
      closed : IsClosed (of_line 0 before) → (o : Option OpenCycle) → (end_of h).managed.managed.cycle ≡ o → (end_of h).managed.managed.cycle ≡ None
      closed c None e = e
      closed c (Some y) e = absurd (let q = w.opened y.number (sym (cycles_are_drawn h l.1) ∙ ap open_number e) in let z = c.1 in omega (arith, q, z))

  reader-role : is_read n.entry.made.op ≡ true → 2 ≤ x.role
  reader-role e = by n.entry.made.caller n.entry.made.op e event-is role
    where
      by : (t : Thread) (o : Op) → is_read o ≡ true → IsEvent t o → x.role ≡ list_line t o → 2 ≤ x.role
      by (M m) (op.Line (act.Read k)) e a r = (let p = a.0.0.0 in omega (arith, r, p))
      by (M m) (op.Line (act.Await k)) e a r = (let p = a.0.0.0 in omega (arith, r, p))
      by (P m) (op.Line (act.Read k)) e a r = absurd a.0.1
      by (P m) (op.Line (act.Await k)) e a r = absurd a.0.1
      by C (op.Line (act.Read k)) e a r = absurd a.0
      by C (op.Line (act.Await k)) e a r = absurd a.0
      by t (op.Line z) e a r = absurd (true≢false (sym e))
      by t o e a r = absurd (true≢false (sym e))

module _ (whole : List Item) (right : RepliesAreRight whole) (notes : List Noted) (are : AreNotes whole notes)
    (cells : List (Option ℕ)) (ends : (c : ℕ) → slot cells c ≡ target (of_line 0 whole) c) where
  along : (before xs : List Item) (h ns : List Noted) → whole ≡ before ++ xs → RunsFrom (length before) xs → EachFits before xs
      → Lawful (turned h ns) → AllTold h xs ns → SaysState (of_line 0 before) h → AllOrdered notes cells (end_of h) (said before) ns
  along before [] h [] same runs fits l told w = tt
  along before [] h (n ∷ ns) same runs fits l told w = absurd told
  along before (x ∷ xs) h [] same runs fits l told w = absurd told
  along before (x ∷ xs) h (n ∷ ns) same runs fits l told w =
      let here : Lawful (n ∷ h) = lawful-front ns (n ∷ h) l in
      let item = told.0 in
      let stands = runs.0.stands in
      let role : x.role ≡ list_line n.entry.made.caller n.entry.made.op = role_told x.role x.kept.entry.made stands ∙ ap (λ (e : Entry). list_line e.made.caller e.made.op) (sym item.entry) in
      let event' : IsEvent x.kept.entry.made.caller x.kept.entry.made.op = subst (λ (e : Entry). IsEvent e.made.caller e.made.op) item.entry (event-is before x h n here w item fits.0 role) in
      let takes' : TakeAnswers (said before) x.kept.entry.made.caller x.kept.entry.made.op x.kept.entry.made.reply = subst
      (λ (e : Entry). TakeAnswers (said before) e.made.caller e.made.op e.made.reply) item.entry (takes before x h n here w item fits.0 role) in
      let next : pins_by (said before) n.entry.made.caller n.entry.made.op n.entry.made.reply ≡ said (before ++ x ∷ []) =
      ap (λ (e : Entry). pins_by (said before) e.made.caller e.made.op e.made.reply) item.entry ∙ said-more before x stands runs.0.caller event' takes' in
      let rest = along (before ++ x ∷ []) xs (n ∷ h) ns (same ∙ sym (append_assoc before (x ∷ []) xs)) (subst (λ k. RunsFrom k xs) (one-more before x) runs.1) fits.1 l told.1
      (says-more before x h n here w (role_told x.role x.kept.entry.made stands) item.entry item.drawn_so fits.0.others) in (
        record {
          kept = kept before x h n here w item fits.0 role;
          reply = λ r k reads. reply-of (reader-role before x h n here w item fits.0 role r) (state-is before x h n here w item fits.0 role) item k reads;
        },
        subst (λ z. AllOrdered notes cells (end_of (n ∷ h)) z ns) (sym next) rest,
      )
    where
      one-more : (ys : List Item) (y : Item) → length ys + 1 ≡ length (ys ++ y ∷ [])
      one-more [] y = omega arith
      one-more (z ∷ ys) y = (let r = one-more ys y in omega (arith, r))

      reply-of : 2 ≤ x.role → IsStateOf before (pinned (end_of h) (said before)).managed.managed → TellsItem h x n → (k : ℕ) → ReadsCell n.entry.made.op k
          → IsReadReply notes cells (pinned (end_of h) (said before)).managed.managed n.entry.number n.entry.made.caller k n.entry.made.reply
      reply-of two state item k reads =
          let there : get_elem? whole (length before) ≡ some x = ap (λ z. get_elem? z (length before)) same ∙ get-at before xs x in
          let front : first_of (length before) whole ≡ before = ap (first_of (length before)) same ∙ first-at before (x ∷ xs) in
          let answer = right notes cells are ends (length before) x there two (pinned (end_of h) (said before)).managed.managed
          (subst (λ z. IsStateOf z (pinned (end_of h) (said before)).managed.managed) (sym front) state) k
          (subst (λ (e : Entry). ReadsCell e.made.op k) item.entry reads) in
          subst (λ (e : Entry). IsReadReply notes cells (pinned (end_of h) (said before)).managed.managed e.number e.made.caller k e.made.reply) (sym item.entry)
          (subst (λ i. IsReadReply notes cells (pinned (end_of h) (said before)).managed.managed i x.kept.entry.made.caller k x.kept.entry.made.reply) (sym runs.0.number) answer)

-- the whole
pub all_ordered : (whole : List Item) → RepliesAreRight whole → RunsFrom 0 whole → EachFits [] whole → (notes : List Noted)
    → AreNotes whole notes → (cells : List (Option ℕ)) → ((c : ℕ) → slot cells c ≡ target (of_line 0 whole) c)
    → (ns : List Noted) → Lawful (turned [] ns) → AllTold [] whole ns → SaysState [] [] → AllOrdered notes cells opening_linkage (said []) ns
all_ordered whole right runs fits notes are cells ends ns l told first = along whole right notes are cells ends [] whole [] ns refl runs fits l told first
