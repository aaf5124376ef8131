-- The line at a place of a script, as a loop over the script reads it, and what is known of it.
use Rattle.std.proofs.Common.{◌≡◌, ℕ, ◌+◌, ◌<◌, false, List, [], ◌∷◌, ◌++◌, length, get_or, Some, ◌∙◌, ap}
use Rattle.std.specs.Prelude.{if◌then◌else◌, slice_get, take}
use Rattle.std.proofs.lemmas.List.{append-nil}
use Rattle.std.proofs.lemmas.List.Elements.{All-contains}
use Rattle.std.proofs.lemmas.Option.{slice_get-get_or}
use Rattle.joint_machine.specs.declared.names.Kind.TheVariants.{Plain}
use Rattle.joint_machine.specs.declared.names.Thread.{Thread}
use Rattle.joint_machine.specs.declared.names.Thread.TheVariants.{M}
use Rattle.joint_machine.specs.declared.lines.Act.{Act}
use Rattle.joint_machine.specs.declared.lines.Act.TheVariants as act
use Rattle.joint_machine.specs.PeerReplay.{is_thread}
use Rattle.joint_machine.proofs.Members.{Contains-at}
use Rattle.run_laws.specs.Threads.{thread_lines}
use Rattle.run_laws.proofs.ByThreads.{lines-next}
use Rattle.bridge_script.specs.Scripts.{IsScriptLine}
use Rattle.script_runs.specs.Running.{CanRun}

-- what a loop reads past the end
abbrev pub no_line : Thread × Act
no_line = (M 0, act.New record { 0 = 0 } Plain 0)

abbrev pub line_of : List (Thread × Act) → ℕ → Thread × Act
line_of script i = get_or script i no_line

pub there : (script : List (Thread × Act)) (i : ℕ) → i < length script → slice_get script i ≡ Some (line_of script i)
there script i l = slice_get-get_or script i no_line l

pub runnable : (script : List (Thread × Act)) (i : ℕ) → i < length script → CanRun script → IsScriptLine (line_of script i)
runnable script i l can = All-contains IsScriptLine script (line_of script i) can.each (Contains-at script i (line_of script i) (there script i l))

pub none_so_far : (script : List (Thread × Act)) (i : ℕ) (t : Thread) → i < length script
    → is_thread t (line_of script i).0 ≡ false → thread_lines t (take i script) ≡ [] → thread_lines t (take (i + 1) script) ≡ []
none_so_far script i t l other none =
    lines-next t script i (line_of script i) (there script i l)
    ∙ (ap (λ b. thread_lines t (take i script) ++ (if b then (i + 1, line_of script i) ∷ [] else [])) other ∙ (append-nil (thread_lines t (take i script)) ∙ none))
