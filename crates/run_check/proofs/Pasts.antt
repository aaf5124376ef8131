-- Pasts in order as they are judged: they grow by the next entry, and are known.
use Rattle.std.proofs.Common.{◌≡◌, ℕ, ◌+◌, ◌<◌, ◌≤◌, ◌^◌, Bool, true, false, List, [], ◌∷◌, ◌++◌, length, refl, sym, ap, ◌∙◌, subst, arith}
use Rattle.joint_machine.specs.declared.events.Entry.{Entry}
use Rattle.joint_machine.specs.declared.events.Made.{Made}
use Rattle.joint_machine.specs.Histories.{Finished, NumberedFrom}
use Rattle.joint_machine.specs.Lines.{is_read}
use Rattle.joint_machine.specs.Readers.{is_managed_entry}
use Rattle.joint_machine.specs.Told.{Told, Noted}
use Rattle.known_laws.specs.PastEntries.{entries}
use Rattle.check_laws.specs.Behind.{in_turn, state_of, IsInOrderBehind, RepliesBehind, AllInOrder}
use Rattle.check_laws.specs.Known.{managed_count, one}
use Rattle.check_laws.specs.Knows.{AreKnown}
use Rattle.check_laws.proofs.Knows.{pasts_known}
use Rattle.check_laws.proofs.OneFinding.{entries-append, entries-length, turned-onto}
use Rattle.run_check.specs.Judging.{IsNext, IsSoFar, next_noted}

-- the entries of a longer past
pub turn-more : (past : List Noted) (n : Noted) → entries (in_turn (n ∷ past)) ≡ entries (in_turn past) ++ n.entry ∷ []
turn-more past n = ap entries (turned-onto (n ∷ []) past) ∙ entries-append (in_turn past) (n ∷ [])

-- are numbered where the next one has the next number
pub numbers-more : (past : List Noted) (n : Noted) → NumberedFrom 0 (entries (in_turn past)) → n.entry.number ≡ length past → NumberedFrom 0 (entries (in_turn (n ∷ past)))
numbers-more past n w e = subst (NumberedFrom 0) (sym (turn-more past n)) (snoc 0 (entries (in_turn past)) n.entry w (let a = entries-length past in omega (arith, a, e)))
  where
    snoc : (k : ℕ) (es : List Entry) (x : Entry) → NumberedFrom k es → x.number ≡ k + length es → NumberedFrom k (es ++ x ∷ [])
    snoc k [] x w e = ((omega (arith, e)), tt)
    snoc k (y ∷ es) x w e = (w.0, snoc (k + 1) es x w.1 (omega (arith, e)))

-- somebody knows such a past
pub known : (h : Finished) (past : List Noted) → IsSoFar h past → AreKnown past
known h past s = pasts_known h past s.numbers s.order

-- the entry is in order behind it
pub in-order : (h : Finished) (past : List Noted) (m : Made) (told : Told) → IsNext h past m
    → RepliesBehind (is_read m.op) h past (next_noted past m told) → IsInOrderBehind h past (next_noted past m told)
in-order h past m told w r = record { turn = w.turn; cites = w.cites; replies = r }

-- the longer past is in order, and known
pub order-more : (h : Finished) (past : List Noted) (m : Made) (told : Told) → IsNext h past m
    → RepliesBehind (is_read m.op) h past (next_noted past m told) → AllInOrder h (next_noted past m told ∷ past)
order-more h past m told w r = (in-order h past m told w r, w.so_far.order)

pub known-more : (h : Finished) (past : List Noted) (m : Made) (told : Told) → IsNext h past m → RepliesBehind (is_read m.op) h past (next_noted past m told) → AreKnown (next_noted past m told ∷ past)
known-more h past m told w r = pasts_known h (next_noted past m told ∷ past) (numbers-more past (next_noted past m told) w.so_far.numbers refl) (order-more h past m told w r)

-- there are no more managed entries than entries
pub managed-few : (past : List Noted) → managed_count past ≤ length past
managed-few [] = omega arith
managed-few (n ∷ past) = by (is_managed_entry n) (managed-few past)
  where
    by : (b : Bool) → managed_count past ≤ length past → managed_count past + one b ≤ length (n ∷ past)
    by true l = omega (arith, l)
    by false l = omega (arith, l)
