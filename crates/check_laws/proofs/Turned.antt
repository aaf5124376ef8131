-- A past in order, turned round, is a lawful list with reads, and leads to the same state.
use Rattle.std.proofs.Common.{◌≡◌, ℕ, ◌+◌, Bool, true, false, List, [], ◌∷◌, ◌++◌, length, Option, refl, sym, ap, ◌∙◌, subst, arith}
use Rattle.std.proofs.lemmas.List.{take_all}
use Rattle.joint_machine.specs.declared.events.Entry.{Entry}
use Rattle.joint_machine.specs.Histories.{Finished, NumberedFrom}
use Rattle.joint_machine.specs.Lines.{is_read}
use Rattle.joint_machine.specs.Linked.{Linkage, opening_linkage}
use Rattle.joint_machine.specs.Replaying.{replayed}
use Rattle.joint_machine.specs.Readers.{ReadsCell, IsReadReply, EntryMayCome, replayed_reading, AllMayComeReading}
use Rattle.joint_machine.specs.Told.{Noted}
use Rattle.joint_laws.specs.PeerInvariants.{PeerInvariant}
use Rattle.joint_laws.specs.ReadingLaws.{IsLawfulReading, without_aside}
use Rattle.joint_laws.specs.States.{state_at}
use Rattle.joint_laws.proofs.Everywhere.{everywhere}
use Rattle.joint_laws.proofs.LinkedEntries.{Of, BothInvariants-entry, BothInvariants-opening}
use Rattle.joint_laws.proofs.ReadsAside.{reading_is_lawful, reading_leads_to_same}
use Rattle.known_laws.specs.PastEntries.{entries, turned}
use Rattle.check_laws.specs.Behind.{in_turn, state_of, RepliesBehind, IsInOrderBehind, AllInOrder}
use Rattle.check_laws.specs.Reads.{ComesBehind, AllComeBehind, AreInPlace, AllReadOver}
use Rattle.check_laws.proofs.OneFinding.{turned-onto, entries-append, entries-length}
use Rattle.check_laws.proofs.Ordering.{order_tested}
use Rattle.check_laws.proofs.Readers.{reader_tested}

-- each entry of a past in order comes, and reads behind those before it
comes-by : (h : Finished) (past : List Noted) (n : Noted) → IsInOrderBehind h past n → ComesBehind (is_read n.entry.made.op) (state_of past) n
comes-by h past n o = by (is_read n.entry.made.op) refl o.replies
  where
    by : (b : Bool) → is_read n.entry.made.op ≡ b → RepliesBehind b h past n → ComesBehind b (state_of past) n
    by true e r = (reader_tested (state_of past) n e).0 (o.turn, o.cites, r.bare)
    by false e r = (order_tested (state_of past) n).0 (record { turn = o.turn; cites = o.cites; replies = r.replies })

pub all_come : (h : Finished) (past : List Noted) → AllInOrder h past → AllComeBehind past
all_come h [] o = tt
all_come h (n ∷ past) o = (comes-by h past n o.0, all_come h past o.1)

-- numbers
pub in_place : (past : List Noted) → NumberedFrom 0 (entries (in_turn past)) → AreInPlace past
in_place [] w = tt
in_place (n ∷ past) w =
    let e : entries (in_turn (n ∷ past)) ≡ entries (in_turn past) ++ n.entry ∷ [] = ap entries (turned-onto (n ∷ []) past) ∙ entries-append (in_turn past) (n ∷ []) in
    let r = last 0 (entries (in_turn past)) n.entry (subst (NumberedFrom 0) e w) in
    ((let a = r.0 in let b = entries-length past in omega (arith, a, b)), in_place past r.1)
  where
    last : (k : ℕ) (es : List Entry) (e : Entry) → NumberedFrom k (es ++ e ∷ []) → (e.number ≡ k + length es) × NumberedFrom k es
    last k [] e w = ((let a = w.0 in omega (arith, a)), tt)
    last k (x ∷ es) e w = (let r = last (k + 1) es e w.1 in ((let a = r.0 in omega (arith, a)), (w.0, r.1)))

module _ (whole : List Noted) (cells : List (Option ℕ)) where
  entry-comes : (past : List Noted) (n : Noted) → ComesBehind (is_read n.entry.made.op) (state_of past) n
      → ((k : ℕ) → ReadsCell n.entry.made.op k → IsReadReply whole cells (state_of past).managed.managed n.entry.number n.entry.made.caller k n.entry.made.reply)
      → EntryMayCome (is_read n.entry.made.op) whole cells (state_of past) n
  entry-comes past n w r = by (is_read n.entry.made.op) w
    where
      by : (b : Bool) → ComesBehind b (state_of past) n → EntryMayCome b whole cells (state_of past) n
      by true w = (w, r)
      by false w = w

  onto : (past acc : List Noted) → AllComeBehind past → AllReadOver whole cells past
      → AllMayComeReading whole cells (state_of past) acc → AllMayComeReading whole cells opening_linkage (turned acc past)
  onto [] acc w r a = a
  onto (n ∷ past) acc w r a = onto past (n ∷ acc) w.1 r.1 (entry-comes past n w.0 r.0, a)

  pub lawful-turned : (past : List Noted) → AllComeBehind past → AllReadOver whole cells past → AllMayComeReading whole cells opening_linkage (in_turn past)
  lawful-turned past w r = onto past [] w r tt

pub ends-onto : (past acc : List Noted) → replayed_reading opening_linkage (turned acc past) ≡ replayed_reading (state_of past) acc
ends-onto [] acc = refl
ends-onto (n ∷ past) acc = ends-onto past (n ∷ acc)

-- the peers are kept at the end of such a past
pub peers-kept : (whole : List Noted) (cells : List (Option ℕ)) (past : List Noted) → AllComeBehind past → AllReadOver whole cells past → PeerInvariant (state_of past).peer
peers-kept whole cells past w r =
    let l : IsLawfulReading (in_turn past) = (whole, cells, lawful-turned whole cells past w r) in
    let may = reading_is_lawful (in_turn past) l in
    let standing = without_aside (in_turn past) in
    let k = (everywhere Of BothInvariants-opening BothInvariants-entry standing may (length standing)).peer in
    let same : (state_at standing (length standing)).peer ≡ (state_of past).peer =
    ap (λ ns. (replayed opening_linkage ns).peer) (take_all (length standing) standing (omega arith))
    ∙ (sym (reading_leads_to_same (in_turn past) l).peer ∙ ap (λ (z : Linkage). z.peer) (ends-onto past [])) in
    subst PeerInvariant same k
