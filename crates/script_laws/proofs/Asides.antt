-- A read that is set aside was right by the managed list before it, which says which cycle is open and which cells are
-- set as the state has them. So each read of the history answers as the one machine does: any other reply is the
-- machine's already.
use Rattle.std.proofs.Common.{◌≡◌, ℕ, zero, suc, ◌+◌, ◌==◌, ◌||◌, Bool, true, false, List, [], ◌∷◌, ◌++◌, Option, Some, None, refl, sym, ap, ◌∙◌, subst, arith, true≢false, ne_eqb}
use Rattle.std.specs.Prelude.{Contains, if◌then◌else◌, replicate}
use Rattle.std.proofs.lemmas.List.{append-nil}
use Rattle.std.proofs.lemmas.List.Elements.{Contains-append_left, Contains-append_right}
use Rattle.joint_machine.specs.declared.names.Thread.{Thread}
use Rattle.joint_machine.specs.declared.names.Thread.TheVariants.{M, P, C}
use Rattle.joint_machine.specs.declared.lines.Act.TheVariants as act
use Rattle.joint_machine.specs.declared.events.Op.{Op}
use Rattle.joint_machine.specs.declared.events.Op.TheVariants as op
use Rattle.joint_machine.specs.declared.events.Reply.{Reply}
use Rattle.joint_machine.specs.declared.events.Reply.TheVariants as says
use Rattle.joint_machine.specs.declared.events.Entry.{Entry}
use Rattle.joint_machine.specs.Control.{caller_place}
use Rattle.joint_machine.specs.Heaps.{slot}
use Rattle.joint_machine.specs.HistoryLines.{entries_in, side_line, stands_in, list_line, reader_line}
use Rattle.joint_machine.specs.Lines.{IsEvent, is_peer_event, is_read}
use Rattle.joint_machine.specs.Linked.{Linkage, SideLawful, linkage_after, managed_after, opening_linkage}
use Rattle.joint_machine.specs.LinkedHistories.{managed_end}
use Rattle.joint_machine.specs.Managed.{Managed, read_cell}
use Rattle.joint_machine.specs.ManagedReplay.{managed_answer}
use Rattle.joint_machine.specs.Readers.{AllMayComeReading, EntryMayCome, IsReadReply, ReadsCell, entry_after, reader_after}
use Rattle.joint_machine.specs.Run.{thread_number}
use Rattle.joint_machine.specs.Told.{Noted}
use Rattle.joint_machine.proofs.Members.{Contains-here}
use Rattle.joint_laws.specs.Readings.{AreExact}
use Rattle.known_laws.specs.Drawn.{open_after}
use Rattle.known_laws.specs.PastEntries.{entries}
use Rattle.known_laws.specs.Held.{answers_by, open_number, word_by}
use Rattle.known_laws.proofs.Held.{reads_are_exact}
use Rattle.script_laws.specs.Asides.{open_from, open_among, HasSet, IsAsideBy, AsidesAreExact, ExactAsidesAreReplies}
use Rattle.script_laws.proofs.ManagedCells.{HasGone, gone_after}

-- the cycle that is open after one entry more
pub open-more : (o : Option ℕ) (es : List Entry) (e : Entry) → open_from o (es ++ e ∷ []) ≡ open_after e.made.op (open_from o es)
open-more o [] e = refl
open-more o (x ∷ es) e = open-more (open_after x.made.op o) es e

-- no caller's line is the managed list, so an entry stands there by its event alone
pub stands-by : (e : Entry) → stands_in 0 e ≡ (0 == side_line e)
stands-by e = ap (λ b. (0 == side_line e) || b) (ne_eqb 0 (caller_place e.made.caller + 10) (omega arith)) ∙ or-false (0 == side_line e)
  where
    or-false : (b : Bool) → (b || false) ≡ b
    or-false true = refl
    or-false false = refl

-- the managed list is as the state has it
record IsListOf (ml : List Entry) (s : Managed) : Type 0 where
  cycle : open_number s.cycle ≡ open_among ml
  cells : (c : ℕ) → ((e : Entry) → Contains ml e → HasSet c e → ⊥) → slot s.cells c ≡ None

-- a read that is set aside answers as the machine does
aside-reply : (whole : List Noted) (cells : List (Option ℕ)) (s : Managed) (ml : List Entry) (i : ℕ) (t : Thread) (k : ℕ) (r : Reply)
    → IsListOf ml s → IsReadReply whole cells s i t k r → IsAsideBy ml k r → r ≡ (read_cell s (thread_number t) k).reply
aside-reply whole cells s ml i t k r l may by_list = by r may by_list
  where
    answers : (p o : Option ℕ) → slot s.pins (thread_number t) ≡ p → open_number s.cycle ≡ o → answers_by p o (word_by s (slot s.cells k)) ≡ (read_cell s (thread_number t) k).reply
    answers p o e f = subst (λ z. answers_by z o (word_by s (slot s.cells k)) ≡ (read_cell s (thread_number t) k).reply) e
        (subst (λ z. answers_by (slot s.pins (thread_number t)) z (word_by s (slot s.cells k)) ≡ (read_cell s (thread_number t) k).reply) f (reads_are_exact s (thread_number t) k))

    by : (r : Reply) → IsReadReply whole cells s i t k r → IsAsideBy ml k r → r ≡ (read_cell s (thread_number t) k).reply
    by (says.Pending c) m b = answers None (Some c.0) m.0 (l.cycle ∙ b)
    by says.Unset m b = ap (λ z. answers_by None None (word_by s z)) (sym (l.cells k b.1)) ∙ answers None None m.0 (l.cycle ∙ b.0)
    by r m b = m

-- a read of a managed thread stands in its reader's list, and what isn't a read is exact
no-cell : (o : Op) (k : ℕ) → is_read o ≡ false → ReadsCell o k → ⊥
no-cell (op.Line (act.Read c)) k e r = true≢false e
no-cell (op.Line (act.Await c)) k e r = true≢false e
no-cell (op.Line a) k e r = r
no-cell _ k e r = r

pub read-line : (t : Thread) (o : Op) → IsEvent t o → is_read o ≡ true → (0 == list_line t o) ≡ false
read-line (M n) (op.Line (act.Read c)) v e = ne_eqb 0 (1 + n) (omega arith)
read-line (M n) (op.Line (act.Await c)) v e = ne_eqb 0 (1 + n) (omega arith)
read-line (P n) (op.Line (act.Read c)) v e = absurd v.0.1
read-line (P n) (op.Line (act.Await c)) v e = absurd v.0.1
read-line C (op.Line (act.Read c)) v e = absurd v.0
read-line C (op.Line (act.Await c)) v e = absurd v.0
read-line t o v e = absurd (true≢false (sym e))

-- the managed list with an entry of another list, and with one of its own
module _ (ml : List Entry) (e : Entry) where
  other-list : (0 == side_line e) ≡ false → ml ++ entries_in 0 (e ∷ []) ≡ ml
  other-list f = ap (λ b. ml ++ (if b then e ∷ [] else [])) (stands-by e ∙ f) ∙ append-nil ml

  own-list : (0 == side_line e) ≡ true → ml ++ entries_in 0 (e ∷ []) ≡ ml ++ e ∷ []
  own-list f = ap (λ b. ml ++ (if b then e ∷ [] else [])) (stands-by e ∙ f)

list-more : (ml : List Entry) (e : Entry) (s t : Managed) → HasGone s t e.made.op e.made.reply → IsListOf ml s → IsListOf (ml ++ e ∷ []) t
list-more ml e s t g l = record {
  cycle = g.cycle ∙ (ap (open_after e.made.op) l.cycle ∙ sym (open-more None ml e));
  cells = λ c n. g.cells c (λ x y. n e (Contains-append_right ml (e ∷ []) e (Contains-here e [])) (x, y)) (l.cells c (λ f d. n f (Contains-append_left ml (e ∷ []) f d)));
}

-- after each entry it is so again
list-after : (whole : List Noted) (cells : List (Option ℕ)) (s : Linkage) (n : Noted) (ml : List Entry) (b : Bool)
    → is_read n.entry.made.op ≡ b → EntryMayCome b whole cells s n → IsListOf ml s.managed.managed
    → IsListOf (ml ++ entries_in 0 (n.entry ∷ [])) (entry_after s n).managed.managed
list-after whole cells s n ml true r w l =
    subst (λ z. IsListOf z (entry_after s n).managed.managed) (sym (other-list ml n.entry (read-line n.entry.made.caller n.entry.made.op w.0.event r)))
    (subst (λ (z : Linkage). IsListOf ml z.managed.managed) (ap (λ b. if b then reader_after s n else linkage_after s n) (sym r)) (record { cycle = l.cycle; cells = l.cells }))
list-after whole cells s n ml false r w l = subst (λ (z : Linkage). IsListOf (ml ++ entries_in 0 (n.entry ∷ [])) z.managed.managed)
    (ap (λ b. if b then reader_after s n else linkage_after s n) (sym r)) (by (is_peer_event n.entry.made.caller n.entry.made.op) refl w.lawful)
  where
    by : (b : Bool) → is_peer_event n.entry.made.caller n.entry.made.op ≡ b → SideLawful b s n.entry.made n.told
        → IsListOf (ml ++ entries_in 0 (n.entry ∷ [])) (managed_after s.managed n.entry.made n.told b).managed
    by true p v = subst (λ z. IsListOf z s.managed.managed) (sym (other-list ml n.entry (ap (λ b. 0 == (if b then 1 else if is_read n.entry.made.op then reader_line n.entry.made.caller else 0)) p))) l
    by false p v =
        let side : (0 == side_line n.entry) ≡ true = (λ i. 0 == (if p i then 1 else if r i then reader_line n.entry.made.caller else 0)) in
        let gone = gone_after s.managed n.entry.made.caller n.entry.made.op n.told v.allowed in
        subst (λ z. IsListOf z (managed_answer s.managed n.entry.made.caller n.entry.made.op n.told).state.managed) (sym (own-list ml n.entry side))
        (list-more ml n.entry s.managed.managed (managed_answer s.managed n.entry.made.caller n.entry.made.op n.told).state.managed
        (subst (HasGone s.managed.managed (managed_answer s.managed n.entry.made.caller n.entry.made.op n.told).state.managed n.entry.made.op) (sym v.replies) gone) l)

exact-from : (whole : List Noted) (cells : List (Option ℕ)) (s : Linkage) (ns : List Noted) (ml : List Entry)
    → AllMayComeReading whole cells s ns → IsListOf ml s.managed.managed → AsidesAreExact ml (entries ns) → AreExact s ns
exact-from whole cells s [] ml a l x = tt
exact-from whole cells s (n ∷ ns) ml a l x = (
  λ k c. by (is_read n.entry.made.op) refl a.0 k c,
  exact-from whole cells (entry_after s n) ns (ml ++ entries_in 0 (n.entry ∷ [])) a.1 (list-after whole cells s n ml (is_read n.entry.made.op) refl a.0 l) x.1,
)
  where
    by : (b : Bool) → is_read n.entry.made.op ≡ b → EntryMayCome b whole cells s n → (k : ℕ) → ReadsCell n.entry.made.op k
        → n.entry.made.reply ≡ (read_cell s.managed.managed (thread_number n.entry.made.caller) k).reply
    by true r w k c = aside-reply whole cells s.managed.managed ml n.entry.number n.entry.made.caller k n.entry.made.reply l (w.1 k c) (x.0 k c)
    by false r w k c = absurd (no-cell n.entry.made.op k r c)

pub exact_asides_are_replies : ExactAsidesAreReplies
exact_asides_are_replies h noted k x =
    exact-from noted (managed_end noted).cells opening_linkage noted [] k.lawful (record { cycle = refl; cells = λ c n. none-at 64 c })
    (subst (AsidesAreExact []) (sym k.same) x)
  where
    none-at : (n c : ℕ) → slot {A = ℕ} (replicate n None) c ≡ None
    none-at zero c = refl
    none-at (suc n) zero = refl
    none-at (suc n) (suc c) = none-at n c
