-- Reads that are set aside count nothing, so the tally of a linked history is that of its last state too, in which both
-- heaps add up.
use Rattle.std.proofs.Common.{◌≡◌, Bool, true, false, List, [], ◌∷◌, cond, map, refl, sym, ap, subst, ◌∙◌, arith}
use Rattle.std.specs.Prelude.{not}
use Rattle.joint_machine.specs.declared.lines.Act.TheVariants as act
use Rattle.joint_machine.specs.declared.events.Op.{Op}
use Rattle.joint_machine.specs.declared.events.Op.TheVariants as op
use Rattle.joint_machine.specs.declared.events.Reply.{Reply}
use Rattle.joint_machine.specs.declared.events.Reply.TheVariants as says
use Rattle.joint_machine.specs.declared.events.Entry.{Entry}
use Rattle.joint_machine.specs.Linked.{opening_linkage}
use Rattle.joint_machine.specs.Replaying.{replayed}
use Rattle.joint_machine.specs.Lines.{is_read}
use Rattle.joint_machine.specs.ManagedReplay.{ManagedReplay}
use Rattle.joint_machine.specs.PeerReplay.{PeerReplay}
use Rattle.joint_machine.specs.Readers.{is_set_aside, is_aside, replayed_reading}
use Rattle.joint_machine.specs.Told.{Noted}
use Rattle.joint_laws.specs.ReadingLaws.{without_aside, IsLawfulReading}
use Rattle.joint_laws.proofs.ReadsAside.{reading_is_lawful, reading_leads_to_same, without-cons}
use Rattle.run_summary.specs.declared.tallies.Tally.{Tally}
use Rattle.run_summary.specs.Tallies.{tallied, tally_from, tally_of, nothing_yet}
use Rattle.summary_laws.specs.States.{tally_in}
use Rattle.summary_laws.specs.Laws.{AddsUp, HeapsOfLinked, TalliesOfLinked}
use Rattle.summary_laws.proofs.Counting.{same_tally, sides, heaps_add_up, tallies_are_of_states}
use Rattle.joint_machine.proofs.Deciding.{and-true}

-- nothing is added and nothing taken away
nothing_counted : (t : Tally) → tallied t (op.Line (act.Read record { 0 = 0 })) says.Unset ≡ t
nothing_counted t = same_tally _ _ (record {
  cycles = omega arith;
  managed = omega arith;
  peers = omega arith;
  handles = omega arith;
  managed_left = omega arith;
  peers_left = omega arith;
  handles_left = omega arith;
})

read_skips : (t : Tally) (o : Op) (r : Reply) → is_read o ≡ true → is_set_aside r ≡ true → tallied t o r ≡ t
read_skips t (op.Line (act.Read k)) (says.Pending c) e f = nothing_counted t
read_skips t (op.Line (act.Read k)) says.Unset e f = nothing_counted t
read_skips t (op.Line (act.Read k)) r e f = absurd (let g : ⊥ = cc in g)
read_skips t (op.Line (act.Await k)) (says.Pending c) e f = nothing_counted t
read_skips t (op.Line (act.Await k)) says.Unset e f = nothing_counted t
read_skips t (op.Line (act.Await k)) r e f = absurd (let g : ⊥ = cc in g)
read_skips t o r e f = absurd (let g : ⊥ = cc in g)

abbrev entries : List Noted → List Entry
entries ns = map (λ n. n.entry) ns

-- an entry that is set aside is skipped, and each other comes in and-true lists
skipped : (n : Noted) (ns : List Noted) (t : Tally) (b : Bool) → is_aside n ≡ b → ((u : Tally) → tally_from u (entries ns) ≡ tally_from u (entries (without_aside ns)))
    → tally_from t (entries (n ∷ ns)) ≡ tally_from t (entries (cond (not b) (n ∷ without_aside ns) (without_aside ns)))
skipped n ns t false e rest = rest (tallied t n.entry.made.op n.entry.made.reply)
skipped n ns t true e rest =
    let w = and-true (is_read n.entry.made.op) (is_set_aside n.entry.made.reply) e in
    ap (λ u. tally_from u (entries ns)) (read_skips t n.entry.made.op n.entry.made.reply w.0 w.1) ∙ rest t

aside-tally : (ns : List Noted) (t : Tally) → tally_from t (entries ns) ≡ tally_from t (entries (without_aside ns))
aside-tally [] t = refl
aside-tally (n ∷ ns) t = skipped n ns t (is_aside n) refl (λ u. aside-tally ns u) ∙ ap (λ z. tally_from t (entries z)) (sym (without-cons n ns (is_aside n) refl))

pub tallies_of_linked : TalliesOfLinked
tallies_of_linked h noted l =
    let w : IsLawfulReading noted = (noted, (replayed_reading opening_linkage noted).managed.managed.cells, l.lawful) in
    let k = reading_leads_to_same noted w in
    let end : tally_in (replayed_reading opening_linkage noted) ≡ tally_in (replayed opening_linkage (without_aside noted)) = ap (λ m. sides m (replayed_reading opening_linkage noted).peer) k.managed
    ∙ ap (λ p. sides (replayed opening_linkage (without_aside noted)).managed p) k.peer in
    ap tally_of (sym l.same) ∙ (aside-tally noted nothing_yet ∙ (tallies_are_of_states (without_aside noted) (reading_is_lawful noted w) ∙ sym end))

-- the entries but for the reads that are set aside lead to the same state of both sides
pub heaps_of_linked : HeapsOfLinked
heaps_of_linked h noted l =
    let w : IsLawfulReading noted = (noted, (replayed_reading opening_linkage noted).managed.managed.cells, l.lawful) in
    let k = reading_leads_to_same noted w in
    let up = heaps_add_up (without_aside noted) (reading_is_lawful noted w) in
    (subst (λ (m : ManagedReplay). AddsUp m.managed.heap) (sym k.managed) up.0, subst (λ (p : PeerReplay). AddsUp p.peers.heap) (sym k.peer) up.1)
