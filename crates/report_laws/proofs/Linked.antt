-- A linked history, without the reads that are set aside, is a lawful list: so its replies are those that their events
-- have, and its spans stand one behind another. A read that is set aside has no span. So the history is read of its
-- report as itself, but for the notices that weren't taken.
use Rattle.std.proofs.Common.{◌≡◌, ℕ, zero, suc, Bool, true, false, not, cond, List, [], ◌∷◌, length, take, refl, sym, ap, subst, ◌∙◌, arith, true≢false}
use Rattle.std.proofs.lemmas.List.{take_all, take-map, length-map}
use Rattle.std.proofs.lemmas.List.Elements.{All-cons, All-head, All-tail}
use Rattle.joint_machine.specs.declared.names.MNum.{MNum}
use Rattle.joint_machine.specs.declared.names.PNum.{PNum}
use Rattle.joint_machine.specs.declared.lines.Act.TheVariants as act
use Rattle.joint_machine.specs.declared.events.Op.{Op}
use Rattle.joint_machine.specs.declared.events.Op.TheVariants as op
use Rattle.joint_machine.specs.declared.events.Reply.{Reply}
use Rattle.joint_machine.specs.declared.events.Reply.TheVariants as reply
use Rattle.joint_machine.specs.declared.events.Entry.{Entry}
use Rattle.joint_machine.specs.Histories.{Finished, managed_numbers, peer_numbers}
use Rattle.joint_machine.specs.Lines.{is_read}
use Rattle.joint_machine.specs.Linked.{opening_linkage}
use Rattle.joint_machine.specs.Replaying.{replayed}
use Rattle.joint_machine.specs.LinkedHistories.{IsLinkedBy, linked_end, managed_end}
use Rattle.joint_machine.specs.Readers.{is_aside, is_set_aside}
use Rattle.joint_machine.specs.Told.{Noted}
use Rattle.joint_machine.proofs.Deciding.{and-true}
use Rattle.entry_reader.specs.Meant.{IsMeant}
use Rattle.joint_laws.specs.ReadingLaws.{IsLawfulReading, without_aside}
use Rattle.joint_laws.proofs.LinkedEntries.{BothInvariants-opening}
use Rattle.joint_laws.proofs.PlainReplies.{IsPlain}
use Rattle.joint_laws.proofs.ReadsAside.{reading_is_lawful, reading_leads_to_same}
use Rattle.report_reader.specs.Reading.{Ends, SpansRun, ends_after, ends_of, no_ends}
use Rattle.report_reader.proofs.Back.{named_read}
use Rattle.report_laws.specs.Linked.{LinkedIsRead, NamedIsLinked}
use Rattle.report_laws.proofs.Steps.{Runs, ends_at, entries_of, plain-ends, plain-meant, plain-starts, runs}
use Rattle.report_laws.proofs.Taken.{IsTaking}

-- a read that is set aside has no span
aside-plain : (r : Reply) → is_set_aside r ≡ true → IsPlain r
aside-plain (reply.Pending c) e = tt
aside-plain reply.Unset e = tt
aside-plain r e = absurd (true≢false (sym e))

read-takes : (o : Op) → is_read o ≡ true → IsTaking o → ⊥
read-takes (op.Line (act.Finalise n)) e t = true≢false (sym e)
read-takes (op.Line a) e t = t
read-takes o e t = t

-- what stands among the others changes nothing
with_aside : (e last : Ends) (ns : List Noted) → Runs e last (entries_of (without_aside ns)) → Runs e last (entries_of ns)
with_aside e last [] r = r
with_aside e last (n ∷ ns) r = by (with_aside e last ns) (with_aside (ends_after e n.entry.made.reply) last ns) (is_aside n) refl r
  where
    by : (Runs e last (entries_of (without_aside ns)) → Runs e last (entries_of ns))
        → (Runs (ends_after e n.entry.made.reply) last (entries_of (without_aside ns)) → Runs (ends_after e n.entry.made.reply) last (entries_of ns))
        → (b : Bool) → is_aside n ≡ b → Runs e last (entries_of (cond (not b) (n ∷ without_aside ns) (without_aside ns))) → Runs e last (n.entry ∷ entries_of ns)
    by stays goes true q k =
        let both = and-true (is_read n.entry.made.op) (is_set_aside n.entry.made.reply) q in
        let p = aside-plain n.entry.made.reply both.1 in
        let same = plain-ends e n.entry.made.reply p in
        let rest = stays k in
        record {
          spans = (plain-starts e n.entry.made.reply p, subst (λ (z : Ends). SpansRun z (entries_of ns)) (sym same) rest.spans);
          ends = ap (λ (z : Ends). ends_of z (entries_of ns)) same ∙ rest.ends;
          meant = All-cons (λ (x : Entry). IsMeant x.made.op x.made.reply) n.entry (entries_of ns) (plain-meant n.entry.made.op n.entry.made.reply (read-takes n.entry.made.op both.0) p) rest.meant;
        }
    by stays goes false q k =
        let rest = goes record { spans = k.spans.1; ends = k.ends; meant = All-tail (λ (x : Entry). IsMeant x.made.op x.made.reply) n.entry (entries_of (without_aside ns)) k.meant } in
        record {
          spans = (k.spans.0, rest.spans);
          ends = rest.ends;
          meant = All-cons (λ (x : Entry). IsMeant x.made.op x.made.reply) n.entry (entries_of ns)
              (All-head (λ (x : Entry). IsMeant x.made.op x.made.reply) n.entry (entries_of (without_aside ns)) k.meant) rest.meant;
        }

-- the history's own entries
linked-runs : (h : Finished) (noted : List Noted) → IsLinkedBy h noted → Runs no_ends (ends_at (linked_end noted)) h.entries
linked-runs h noted l =
    let w : IsLawfulReading noted = (noted, (managed_end noted).cells, l.lawful) in
    let k = runs opening_linkage (without_aside noted) BothInvariants-opening (reading_is_lawful noted w) in
    let same = reading_leads_to_same noted w in
    let m = same.managed in
    let p = same.peer in
    let ends : ends_at (replayed opening_linkage (without_aside noted)) ≡ ends_at
    (linked_end noted) = (λ i. record { managed = length (sym m i).managed.heap.freed; peers = length (sym p i).peers.heap.freed; notices = (sym m i).managed.taken }) in
    let r = with_aside no_ends (ends_at (replayed opening_linkage (without_aside noted))) noted k in
    let r2 : Runs no_ends (ends_at (linked_end noted)) (entries_of noted) = subst (λ (z : Ends). Runs no_ends z (entries_of noted)) ends r in
    subst (λ (z : List Entry). Runs no_ends (ends_at (linked_end noted)) z) l.same r2

pub linked_is_read : LinkedIsRead
linked_is_read h l v few = (let r = linked-runs h l.noted l.linked in named_read h v r.meant r.spans few)

-- a list that is cut twice at one place
take_twice : (n : ℕ) (xs : List ℕ) → take n (take n xs) ≡ take n xs
take_twice zero xs = refl
take_twice (suc n) [] = refl
take_twice (suc n) (x ∷ xs) = ap (λ z. x ∷ z) (take_twice n xs)

-- what is read is linked by the same notes
pub named_is_linked : NamedIsLinked
named_is_linked h noted l =
    let r = linked-runs h noted l in
    let ends = r.ends in
    let T = (managed_end noted).taken in
    let managed : (ends_of no_ends h.entries).managed ≡ length (managed_end noted).heap.freed = ap (λ (z : Ends). z.managed) ends in
    let peers : (ends_of no_ends h.entries).peers ≡ length (linked_end noted).peer.peers.heap.freed = ap (λ (z : Ends). z.peers) ends in
    let notices : (ends_of no_ends h.entries).notices ≡ T = ap (λ (z : Ends). z.notices) ends in
    let sizes = length-map h.freed_managed (λ (m : MNum). m.0) in
    let sizep = length-map h.freed_peers (λ (p : PNum). p.0) in
    let lm = ap length l.freed_managed in
    let lp = ap length l.freed_peers in
    let all_managed : take (ends_of no_ends h.entries).managed h.freed_managed ≡ h.freed_managed = take_all (ends_of no_ends h.entries).managed h.freed_managed (omega (arith, managed, sizes, lm)) in
    let all_peers : take (ends_of no_ends h.entries).peers h.freed_peers ≡ h.freed_peers = take_all (ends_of no_ends h.entries).peers h.freed_peers (omega (arith, peers, sizep, lp)) in
    let cut : managed_numbers (take (ends_of no_ends h.entries).notices h.notices) ≡ take T (managed_numbers h.notices) = ap (λ k. managed_numbers (take k h.notices)) notices
    ∙ sym (take-map (λ (m : MNum). m.0) T h.notices) in
    record {
      same = l.same;
      numbers = l.numbers;
      lawful = l.lawful;
      whole = l.whole;
      freed_managed = ap managed_numbers all_managed ∙ l.freed_managed;
      freed_peers = ap peer_numbers all_peers ∙ l.freed_peers;
      notices = ap (λ z. take T z) cut ∙ (take_twice T (managed_numbers h.notices) ∙ l.notices);
    }
