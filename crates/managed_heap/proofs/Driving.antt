-- The driver's entries. Each is answered as the replay answers it, so the list goes on by it.
use Rattle.std.proofs.Common.{◌≡◌, ℕ, true, List, [], ◌∷◌, ◌++◌, length, map, Option, Some, None, refl, sym, ap, ◌∙◌, append-nil}
use Rattle.std.proofs.lemmas.List.{length-map}
use Rattle.joint_machine.specs.declared.names.HNum.{HNum}
use Rattle.joint_machine.specs.declared.names.MNum.{MNum}
use Rattle.joint_machine.specs.declared.events.Entry.{Entry}
use Rattle.joint_machine.specs.declared.events.Made.{Made}
use Rattle.joint_machine.specs.declared.events.Reply.{Reply}
use Rattle.joint_machine.specs.declared.events.Reply.TheVariants as says
use Rattle.joint_machine.specs.Cycles.{resolve_reply}
use Rattle.joint_machine.specs.Heaps.{answer}
use Rattle.std.specs.Prelude.{IsSome}
use Rattle.joint_machine.specs.Histories.{managed_numbers}
use Rattle.joint_model.specs.Listed.{answer_of, answers_of}
use Rattle.joint_machine.specs.Managed.{OpenCycle, abandoned}
use Rattle.joint_machine.specs.ManagedReplay.{AreNew, ManagedReplay}
use Rattle.joint_machine.specs.Draws.{Drawing}
use Rattle.joint_machine.specs.Sides.{IsReplayed, managed_rules, GoesOn, AddsLawful, DrawsLast, objects_freed}
use Rattle.joint_machine.specs.Told.{Told, nothing, contraction_of, handles_given, resolution_of}
use Rattle.joint_machine.specs.PinsTold.{bare_told}
use Rattle.managed_heap.specs.Calls.{IsContractedBy, abandon_made, contract_made, resolve_made}
use Rattle.managed_heap.specs.Resolving.{TakesResolution}
use Rattle.managed_heap.specs.Rows.{with_adopted}
use Rattle.managed_heap.specs.Sides.{side_of, state_of}
use Rattle.managed_heap.proofs.Goes.{side-gives, side-goes}

-- objects by their numbers
pub objects-numbers : (ms : List MNum) → map (λ (x : ℕ). let m : MNum = record { 0 = x } in m) (managed_numbers ms) ≡ ms
objects-numbers [] = refl
objects-numbers (m ∷ ms) = ap (λ z. m ∷ z) (objects-numbers ms)

-- what was answered, from the state without the handles that rows took
pub answers-of : (rows after next : ManagedReplay) (r : Reply) (hs : List ℕ) → next ≡ after → answer r (with_adopted after hs) ≡ answer r (with_adopted next (hs ++ []))
answers-of rows after next r hs is = ap (λ z. answer r z) (ap (λ z. with_adopted z hs) (sym is) ∙ ap (λ z. with_adopted next z) (sym (append-nil hs)))

-- an entry that sets no cell
pub adds-lawful : {D : Type 0} (d : Drawing D) (before after : D) (threads : ℕ) (es es' : List Entry)
    (taken given : List (List ℕ)) (rows next : ManagedReplay) (m : Made) (told : Told) (objects : List MNum)
    → DrawsLast d before after es es' m None objects → managed_rules.target (state_of taken rows) m ≡ None
    → objects_freed (bare_told told) ≡ objects → GoesOn managed_rules (state_of taken rows) m told (state_of given next)
    → AddsLawful managed_rules d before after (side_of threads es taken rows) (side_of threads es' given next) m told
adds-lawful d before after threads es es' taken given rows next m told objects draws target freed goes = record { draws = rw (target, freed) draws; goes = goes; threads = refl }

-- an open cycle, by the test
pub cycle-there : (o : Option OpenCycle) → IsSome o → (c : OpenCycle) × (o ≡ Some c)
cycle-there None s = (let f : ⊥ = cc in absurd f)
cycle-there (Some c) s = (c, refl)

-- the cycle is closed
pub abandon-goes : (es : List Entry) (taken : List (List ℕ)) (rows next : ManagedReplay) (c : OpenCycle) (index : ℕ)
    → IsReplayed managed_rules es (state_of taken rows) → rows.managed.cycle ≡ Some c → next ≡ record rows { managed = abandoned rows.managed }
    → GoesOn managed_rules (state_of taken rows) (abandon_made c index) nothing (state_of taken next)
abandon-goes es taken rows next c index r opened is =
    side-goes es taken rows next (abandon_made c index) nothing r (refl, refl, refl) (record { event = tt; side = refl }) (c, (opened, refl))
    (λ hs. answers-of rows (record rows { managed = abandoned rows.managed }) next says.Ok hs is)

-- the cycle's contraction is made
pub contract-goes : (es : List Entry) (taken : List (List ℕ)) (rows next : ManagedReplay) (c : OpenCycle) (index sccs xrefs : ℕ) (comps : List (List ℕ)) (heavy : List ℕ) (pairs : List (ℕ × ℕ))
    → IsReplayed managed_rules es (state_of taken rows) → IsContractedBy (state_of taken rows) c sccs xrefs comps heavy pairs
    → next ≡ record rows { contracted = true } → GoesOn managed_rules (state_of taken rows) (contract_made c index sccs xrefs) (contraction_of comps heavy pairs) (state_of taken next)
contract-goes es taken rows next c index sccs xrefs comps heavy pairs r by is =
    side-goes es taken rows next (contract_made c index sccs xrefs) (contraction_of comps heavy pairs) r (refl, refl, refl) (record { event = tt; side = refl }) by.may
    (λ hs. ap (λ z. answer z (with_adopted (record rows { contracted = true }) hs)) (rw (by.components, by.references) refl)
    ∙ answers-of rows (record rows { contracted = true }) next (says.Sccs sccs xrefs) hs is)

-- the cycle is resolved
pub resolve-goes : (es : List Entry) (taken after : List (List ℕ)) (rows next : ManagedReplay) (index cites number first kept : ℕ) (alive : List (Option HNum)) (freed : List ℕ)
    → IsReplayed managed_rules es (state_of taken rows) → (t : TakesResolution rows next alive freed number first kept) → length alive ≡ length t.cycle.candidates
    → AreNew (state_of taken rows).adopted (handles_given (answers_of alive)) → after ≡ taken ++ handles_given (answers_of alive) ∷ []
    → GoesOn managed_rules (state_of taken rows) (resolve_made rows.managed t.cycle index freed cites) (resolution_of (answers_of alive) freed) (state_of after next)
resolve-goes es taken after rows next index cites number first kept alive freed r t one_each new added =
    side-gives es taken after rows next (handles_given (answers_of alive)) (resolve_made rows.managed t.cycle index freed cites)
    (resolution_of (answers_of alive) freed) r (refl, refl, refl) (record { event = tt; side = refl })
    (record { cycle = t.cycle; open_cycle = (t.opened, refl); answers = length-map alive answer_of ∙ one_each; new = new; resolution = t.resolution }) added
    (λ hs. ap (λ (z : ManagedReplay). answer (resolve_reply rows.managed freed) (with_adopted z (hs ++ handles_given (answers_of alive)))) (sym t.state))
