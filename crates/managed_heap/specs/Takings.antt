-- The handles that rows ever took, by what gave them. (This project's own; that a restore gives a handle with another
-- number is as in the bridge of Xamarin.Android, where a weak global reference becomes a new global one.)
use Rattle.std.specs.Prelude.{ℕ, List, flat_map}
use Rattle.joint_model.specs.Listed.{answers_of}
use Rattle.joint_machine.specs.Told.{handles_given}
use Rattle.managed_heap.specs.declared.takings.Taking.{Taking}
use Rattle.managed_heap.specs.declared.takings.Taking.TheVariants.{ByEvent, ByAnswers}
use Rattle.managed_heap.specs.Steps.{adopted_by}

-- the handles that an event by its reply, or a resolution by its candidates' answers, gave to rows
abbrev pub given_by : Taking → List ℕ
given_by (ByEvent o r) = adopted_by o r
given_by (ByAnswers alive) = handles_given (answers_of alive.value.values)

-- all handles that were given, in order
abbrev pub taken_in : List (List ℕ) → List ℕ
taken_in takings = flat_map (λ hs. hs) takings
