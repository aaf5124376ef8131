-- Two linked histories with the same entries and the same last states of both sides are one: the freed lists and
-- notices are those of the states. So two that hold one script's lines in line order are one, where each read answers
-- as the one machine does: told plainly, their notes are the same.
use Rattle.std.proofs.Common.{◌≡◌, ℕ, List, take, sym, ◌∙◌, ap, subst}
use Rattle.joint_machine.specs.Histories.{Finished, managed_numbers, NumberedFrom}
use Rattle.joint_machine.specs.Linked.{Linkage, opening_linkage}
use Rattle.joint_machine.specs.Replaying.{replayed}
use Rattle.joint_machine.specs.LinkedHistories.{IsLinked, linked_end, managed_end}
use Rattle.joint_machine.specs.ManagedReplay.{ManagedReplay}
use Rattle.joint_machine.specs.PeerReplay.{PeerReplay}
use Rattle.joint_machine.specs.Told.{Noted}
use Rattle.joint_machine.proofs.HistoryLists.{managed-one, peers-one, four-lists, numbers-take}
use Rattle.script_laws.specs.Holding.{opening_standing, numbered_from}
use Rattle.script_laws.specs.Laws.{HasOneHistory}
use Rattle.script_laws.specs.OneHistory.{IsOneHistory}
use Rattle.known_laws.specs.PastEntries.{entries}
use Rattle.joint_laws.proofs.ExactReads.{exact_readings_are_lawful}
use Rattle.known_laws.proofs.Retelling.{plain_list}
use Rattle.script_laws.proofs.Lining.{lines-one}

-- of the same entries and last states of both sides
pub ends-tell : (g h : Finished) (a : IsLinked g) (b : IsLinked h) → (linked_end a.noted).managed ≡ (linked_end b.noted).managed
    → (linked_end a.noted).peer ≡ (linked_end b.noted).peer → g.entries ≡ h.entries → IsOneHistory g h a b
ends-tell g h a b managed peer listed =
    let count : (managed_end a.noted).taken ≡ (managed_end b.noted).taken = ap (λ (m : ManagedReplay). m.managed.taken) managed in
    let queue : (managed_end a.noted).notices ≡ (managed_end b.noted).notices = ap (λ (m : ManagedReplay). m.managed.notices) managed in
    let rows : g.freed_managed ≡ h.freed_managed = managed-one g.freed_managed h.freed_managed
    (a.linked.freed_managed ∙ (ap (λ (m : ManagedReplay). m.managed.heap.freed) managed ∙ sym b.linked.freed_managed)) in
    let peers : g.freed_peers ≡ h.freed_peers = peers-one g.freed_peers h.freed_peers (a.linked.freed_peers ∙ (ap (λ (m : PeerReplay). m.peers.heap.freed) peer ∙ sym b.linked.freed_peers)) in
    let taken = (managed_end a.noted).taken in
    let numbers : take taken (managed_numbers g.notices) ≡ take taken (managed_numbers h.notices) =
    a.linked.notices ∙ ((λ i. take (count i) (queue i)) ∙ (sym b.linked.notices ∙ ap (λ (n : ℕ). take n (managed_numbers h.notices)) (sym count))) in
    let notices : take taken g.notices ≡ take taken h.notices = managed-one (take taken g.notices)
    (take taken h.notices) (numbers-take taken g.notices ∙ (numbers ∙ sym (numbers-take taken h.notices))) in
    record {
      shown = record { entries = listed; freed_managed = rows; freed_peers = peers; notices = notices };
      taken = count;
      whole = λ p q. four-lists g h listed rows peers (managed-one g.notices h.notices (p ∙ (queue ∙ sym q)));
    }

-- each history is a lawful list in which reads are events as all others are
pub one-history : HasOneHistory
one-history script g h a b x y p q =
    let u = exact_readings_are_lawful a.noted (a.noted, (managed_end a.noted).cells, a.linked.lawful) x in
    let v = exact_readings_are_lawful b.noted (b.noted, (managed_end b.noted).cells, b.linked.lawful) y in
    let k = plain_list opening_linkage a.noted u.lawful in
    let k' = plain_list opening_linkage b.noted v.lawful in
    let d = k.same ∙ a.linked.same in
    let d' = k'.same ∙ b.linked.same in
    let e : k.notes ≡ k'.notes = lines-one (numbered_from 1 script) opening_standing g.entries h.entries 0 opening_linkage k.notes k'.notes p q d d'
    (subst (NumberedFrom 0) (sym d) a.linked.numbers) (subst (NumberedFrom 0) (sym d') b.linked.numbers) k.plain k'.plain in
    ends-tell g h a b
    (ap (λ (l : Linkage). l.managed) u.ends ∙ (sym k.managed ∙ (ap (λ (l : List Noted). (replayed opening_linkage l).managed) e ∙ (k'.managed ∙ sym (ap (λ (l : Linkage). l.managed) v.ends)))))
    (ap (λ (l : Linkage). l.peer) u.ends ∙ (sym k.peer ∙ (ap (λ (l : List Noted). (replayed opening_linkage l).peer) e ∙ (k'.peer ∙ sym (ap (λ (l : Linkage). l.peer) v.ends)))))
    (sym d ∙ (ap entries e ∙ d'))
