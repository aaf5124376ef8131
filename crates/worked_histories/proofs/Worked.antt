-- One computation for each history: the notes pass the test of linked histories, each entry that is a step leads from
-- the joint state of both sides' replays to the next one, every other entry leaves that state as it is, and the
-- unreached peers pass their test.
use Rattle.std.proofs.Common.{◌≡◌, ℕ, Bool, true, false, ◌&&◌, cond, List, [], ◌∷◌, map, refl, ap, subst, sym}
use Rattle.joint_machine.specs.Joint.{Joint, Graph, opening}
use Rattle.joint_machine.specs.Linked.{Linkage, opening_linkage}
use Rattle.joint_machine.specs.Replaying.{AllMayCome}
use Rattle.joint_machine.specs.LinkedHistories.{joint_projection}
use Rattle.joint_machine.specs.Readers.{entry_after}
use Rattle.joint_machine.specs.PeerReplay.{PeerReplay, Marking, IsMarked, IsSweep}
use Rattle.joint_machine.specs.Run.{JointStep, Moment, IsRunFrom}
use Rattle.joint_machine.specs.Told.{Noted}
use Rattle.computed_histories.specs.Graphs.{are_unreached}
use Rattle.computed_histories.specs.Histories.{all_may_come}
use Rattle.computed_histories.specs.Lists.{has}
use Rattle.computed_histories.specs.Markings.{marking_reach, is_sweep}
use Rattle.computed_histories.specs.Readings.{is_linked}
use Rattle.computed_histories.specs.Rows.{is_live}
use Rattle.computed_histories.specs.States.{same_joint}
use Rattle.computed_histories.specs.Steps.{joint_after, may_step}
use Rattle.computed_histories.proofs.Telling.{Tells, always, never, and2, and3, is_true}
use Rattle.computed_histories.proofs.GraphTests.{unreached}
use Rattle.computed_histories.proofs.HistoryTests.{all_come}
use Rattle.computed_histories.proofs.MarkingTests.{marked, sweep}
use Rattle.computed_histories.proofs.ReadingTests.{linked}
use Rattle.computed_histories.proofs.StateTests.{joints}
use Rattle.computed_histories.proofs.StepTests.{steps_tested}
use Rattle.worked_histories.specs.Moments.{linked_joint, linked_graph, begun_with, is_step, moment_if, moments_from, begins_from, AreUnreachedEach, IsWorked}

-- whether each list has exactly the unreached peers of the graph with its place
abbrev pub are_unreached_each : List Graph → List (List ℕ) → Bool
are_unreached_each [] [] = true
are_unreached_each [] (now ∷ later) = false
are_unreached_each (g ∷ gs) [] = false
are_unreached_each (g ∷ gs) (now ∷ later) = are_unreached g now && are_unreached_each gs later

unreached_each : (gs : List Graph) (lists : List (List ℕ)) → Tells (are_unreached_each gs lists) (AreUnreachedEach gs lists)
unreached_each [] [] = always tt
unreached_each [] (now ∷ later) = never (λ z. z)
unreached_each (g ∷ gs) [] = never (λ z. z)
unreached_each (g ∷ gs) (now ∷ later) = and2 (unreached g now) (unreached_each gs later)

-- whether an entry leads from one joint state to the next
abbrev pub leads_on : Bool → Joint → Noted → Joint → Bool
leads_on true j n next = may_step j n && same_joint (joint_after j n) next
leads_on false j n next = same_joint j next

-- whether each entry does, with the graph that stood at the last begin
abbrev pub is_run_from : Graph → Linkage → List Noted → Bool
is_run_from begun s [] = true
is_run_from begun s (n ∷ ns) =
    leads_on (is_step n) (linked_joint s begun) n (linked_joint (entry_after s n) (begun_with n.entry.made.reply (linked_graph s) begun))
    && is_run_from (begun_with n.entry.made.reply (linked_graph s) begun) (entry_after s n) ns

-- then the moments are a run: a step leads to the state that is the same, and what isn't a step leaves none
goes_on : (b : Bool) (j : Joint) (n : Noted) (next : Joint) (ms : List Moment) → leads_on b j n next ≡ true
    → IsRunFrom next ms → IsRunFrom j (moment_if b (record { before = j; noted = n; after = next }) ms)
goes_on true j n next ms e r =
    let p = (and2 (is_true (may_step j n)) (joints (joint_after j n) next)).holds e in
    (refl, subst (JointStep j n) p.1 (steps_tested j n p.0), r)
goes_on false j n next ms e r = subst (λ k. IsRunFrom k ms) (sym ((joints j next).holds e)) r

run_from : (begun : Graph) (s : Linkage) (ns : List Noted) → is_run_from begun s ns ≡ true → IsRunFrom (linked_joint s begun) (moments_from begun s ns)
run_from begun s [] e = tt
run_from begun s (n ∷ ns) e =
    let later = begun_with n.entry.made.reply (linked_graph s) begun in
    let p = (and2 (is_true (leads_on (is_step n) (linked_joint s begun) n (linked_joint (entry_after s n) later))) (is_true (is_run_from later (entry_after s n) ns))).holds e in
    goes_on (is_step n) (linked_joint s begun) n (linked_joint (entry_after s n) later) (moments_from later (entry_after s n) ns) p.0 (run_from later (entry_after s n) ns p.1)

-- and they are those of the projection's entries
noted_if : (b : Bool) (m : Moment) (ms : List Moment) (ns : List Noted) → map (λ k. k.noted) ms ≡ ns → map (λ k. k.noted) (moment_if b m ms) ≡ cond b (m.noted ∷ ns) ns
noted_if true m ms ns e = ap (λ l. m.noted ∷ l) e
noted_if false m ms ns e = e

same_noted : (begun : Graph) (s : Linkage) (ns : List Noted) → map (λ k. k.noted) (moments_from begun s ns) ≡ joint_projection ns
same_noted begun s [] = refl
same_noted begun s (n ∷ ns) =
    let later = begun_with n.entry.made.reply (linked_graph s) begun in
    noted_if (is_step n) (record { before = linked_joint s begun; noted = n; after = linked_joint (entry_after s n) later })
    (moments_from later (entry_after s n) ns) (joint_projection ns) (same_noted later (entry_after s n) ns)

-- the whole test
abbrev pub is_worked : List Noted → List (List ℕ) → Bool
is_worked noted lists = is_linked noted && is_run_from opening.graph opening_linkage noted && are_unreached_each (begins_from opening_linkage noted) lists

pub worked : (noted : List Noted) (lists : List (List ℕ)) → is_worked noted lists ≡ true → IsWorked noted lists
worked noted lists e =
    let p = (and3 (linked noted) (is_true (is_run_from opening.graph opening_linkage noted)) (unreached_each (begins_from opening_linkage noted) lists)).holds e in
    record { linked = p.0; run = record { run = record { same = same_noted opening.graph opening_linkage noted; steps = run_from opening.graph opening_linkage noted p.1 }; begins = p.2 } }

pub lawful : (noted : List Noted) → all_may_come opening_linkage noted ≡ true → AllMayCome opening_linkage noted
lawful noted e = (all_come opening_linkage noted).holds e

-- what a marking reaches, and what its sweep frees
pub is_reached_by : (mk : Marking) (p : ℕ) → (is_live mk.heap p && has (marking_reach mk) p) ≡ true → IsMarked mk p
is_reached_by mk p e = (marked mk p).holds e

pub is_swept_by : (s : PeerReplay) (mk : Marking) (freed : List ℕ) → is_sweep s mk freed ≡ true → IsSweep s mk freed
is_swept_by s mk freed e = (sweep s mk freed).holds e
