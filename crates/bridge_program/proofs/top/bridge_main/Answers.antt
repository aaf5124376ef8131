use Rattle.std.proofs.Common.{inl, inr, refl, sym, subst, ◌∙◌, map, string_bytes}
use Rattle.command_words.specs.Commands.{AreWordsOf}
use Rattle.command_words.specs.declared.commands.Command.TheVariants as command
use Rattle.bridge_program.proofs.Lacking.{lacks_all, lacks_lines}
use Rattle.bridge_program.proofs.Apart.{check_no_leaks, check_no_script, compare_no_check, compare_no_leaks, generate_no_check, generate_no_leaks, generate_no_script, leaks_no_check, leaks_no_script}
use Rattle.bridge_program.proofs.Apart.{references_no_check, references_no_leaks, run_no_check, run_no_leaks}
use Rattle.bridge_program.proofs.top.bridge_main.Goals as goal

-- words that are no command ask for no script, to be read or to be made
pub returns-in-None-clause-generated : goal.returns-in-None-clause-generated
returns-in-None-clause-generated g c = λ m. absurd (c.in-None.ensures (command.Generate m.seed m.size m.asked) m.command)

pub returns-in-None-clause-complete : goal.returns-in-None-clause-complete
returns-in-None-clause-complete g c = λ m. elim m [
  | inl r ↦ absurd (c.in-None.ensures r.command.asked r.command.command)
  | inr w ↦ elim w [ inl j ↦ absurd (c.in-None.ensures command.Leaks j.command) | inr k ↦ absurd (c.in-None.ensures command.Check k.command) ]
]

-- a summary of which a beginning was put
pub returns-in-Some-Generate-clause-part : goal.returns-in-Some-Generate-clause-part
returns-in-Some-Generate-clause-part g c = λ e. let p = c.print_generated.ensures.part e in inr (inr (inr (inl record {
  seed = c.in-Some-Generate.seed;
  size = c.in-Some-Generate.size;
  asked = c.in-Some-Generate.mode;
  command = subst (AreWordsOf (map string_bytes c.args.words.now.items)) c.in-Some-Generate.field-0-is c.in-Some-Generate.ensures;
  unread = refl;
  history = p.0;
  run = p.1;
  text = p.2;
})))

-- where memory was wanting nothing was put, but for a listing
pub returns-in-Some-Run-clause-memory : goal.returns-in-Some-Run-clause-memory
returns-in-Some-Run-clause-memory g c = λ e. lacks_all _ _ _ (c.print_script.ensures.memory e)

pub returns-in-Some-Generate-clause-memory : goal.returns-in-Some-Generate-clause-memory
returns-in-Some-Generate-clause-memory g c = λ e. lacks_all _ _ _ (c.print_generated.ensures.memory e)

pub returns-in-Some-Compare-clause-memory : goal.returns-in-Some-Compare-clause-memory
returns-in-Some-Compare-clause-memory g c = λ e. lacks_lines _ _ _
    (subst (AreWordsOf (map string_bytes c.args.words.now.items)) c.in-Some-Compare.field-0-is c.in-Some-Compare.ensures) (c.print_compared.ensures.memory e)

pub returns-in-Some-References-clause-memory : goal.returns-in-Some-References-clause-memory
returns-in-Some-References-clause-memory g c = λ e. lacks_all _ _ _ (c.print_logged.ensures.memory e)

pub returns-in-Some-Leaks-clause-memory : goal.returns-in-Some-Leaks-clause-memory
returns-in-Some-Leaks-clause-memory g c = λ e. lacks_all _ _ _ (c.print_leaks.ensures.memory e)

pub returns-in-Some-Check-clause-memory : goal.returns-in-Some-Check-clause-memory
returns-in-Some-Check-clause-memory g c = λ e. lacks_all _ _ _ (c.print_checked.ensures.memory e)

-- words that ask for a script, for a log or for a report ask for no other of these
pub returns-in-Some-Run-clause-complete : goal.returns-in-Some-Run-clause-complete
returns-in-Some-Run-clause-complete g c = λ m. elim m [
  | inl r ↦ c.print_script.ensures.complete r.script r.input r.gives r.text r.read r.written
  | inr w ↦ elim w [
    | inl j ↦ absurd (run_no_leaks c.in-Some-Run.mode (sym c.in-Some-Run.field-0-is ∙ c.words_tell_commands.ensures _ c.in-Some-Run.field-0 command.Leaks c.in-Some-Run.ensures j.command))
    | inr k ↦ absurd (run_no_check c.in-Some-Run.mode (sym c.in-Some-Run.field-0-is ∙ c.words_tell_commands.ensures _ c.in-Some-Run.field-0 command.Check c.in-Some-Run.ensures k.command))
  ]
]

pub returns-in-Some-Compare-clause-complete : goal.returns-in-Some-Compare-clause-complete
returns-in-Some-Compare-clause-complete g c = λ m. elim m [
  | inl r ↦ c.print_compared.ensures.complete r.script r.input r.gives r.text r.read r.written
  | inr w ↦ elim w [
    | inl j ↦ absurd (compare_no_leaks (sym c.in-Some-Compare.field-0-is ∙ c.words_tell_commands.ensures _ c.in-Some-Compare.field-0 command.Leaks c.in-Some-Compare.ensures j.command))
    | inr k ↦ absurd (compare_no_check (sym c.in-Some-Compare.field-0-is ∙ c.words_tell_commands.ensures _ c.in-Some-Compare.field-0 command.Check c.in-Some-Compare.ensures k.command))
  ]
]

pub returns-in-Some-References-clause-complete : goal.returns-in-Some-References-clause-complete
returns-in-Some-References-clause-complete g c = λ m. elim m [
  | inl r ↦ c.print_logged.ensures.complete r.script r.input r.gives r.text r.read r.written
  | inr w ↦ elim w [
    | inl j ↦ absurd (references_no_leaks (sym c.in-Some-References.field-0-is ∙ c.words_tell_commands.ensures _ c.in-Some-References.field-0 command.Leaks c.in-Some-References.ensures j.command))
    | inr k ↦ absurd (references_no_check (sym c.in-Some-References.field-0-is ∙ c.words_tell_commands.ensures _ c.in-Some-References.field-0 command.Check c.in-Some-References.ensures k.command))
  ]
]

pub returns-in-Some-Leaks-clause-complete : goal.returns-in-Some-Leaks-clause-complete
returns-in-Some-Leaks-clause-complete g c = λ m. elim m [
  | inl r ↦ absurd (leaks_no_script r.command.asked (sym c.in-Some-Leaks.field-0-is ∙ c.words_tell_commands.ensures _ c.in-Some-Leaks.field-0 r.command.asked c.in-Some-Leaks.ensures r.command.command)
      r.command.takes)
  | inr w ↦ elim w [
    | inl j ↦ c.print_leaks.ensures.complete j.lines j.input j.gives j.text j.short j.read j.written
    | inr k ↦ absurd (leaks_no_check (sym c.in-Some-Leaks.field-0-is ∙ c.words_tell_commands.ensures _ c.in-Some-Leaks.field-0 command.Check c.in-Some-Leaks.ensures k.command))
  ]
]

pub returns-in-Some-Check-clause-complete : goal.returns-in-Some-Check-clause-complete
returns-in-Some-Check-clause-complete g c = λ m. elim m [
  | inl r ↦ absurd (check_no_script r.command.asked (sym c.in-Some-Check.field-0-is ∙ c.words_tell_commands.ensures _ c.in-Some-Check.field-0 r.command.asked c.in-Some-Check.ensures r.command.command)
      r.command.takes)
  | inr w ↦ elim w [
    | inl j ↦ absurd (check_no_leaks (sym c.in-Some-Check.field-0-is ∙ c.words_tell_commands.ensures _ c.in-Some-Check.field-0 command.Leaks c.in-Some-Check.ensures j.command))
    | inr k ↦ c.print_checked.ensures.complete k.history k.input k.gives k.text k.short k.read k.written
  ]
]

pub returns-in-Some-Generate-clause-complete : goal.returns-in-Some-Generate-clause-complete
returns-in-Some-Generate-clause-complete g c = λ m. elim m [
  | inl r ↦ absurd (generate_no_script c.in-Some-Generate.seed c.in-Some-Generate.size c.in-Some-Generate.mode r.command.asked
      (sym c.in-Some-Generate.field-0-is ∙ c.words_tell_commands.ensures _ c.in-Some-Generate.field-0 r.command.asked c.in-Some-Generate.ensures r.command.command) r.command.takes)
  | inr w ↦ elim w [
    | inl j ↦ absurd (generate_no_leaks c.in-Some-Generate.seed c.in-Some-Generate.size c.in-Some-Generate.mode
        (sym c.in-Some-Generate.field-0-is ∙ c.words_tell_commands.ensures _ c.in-Some-Generate.field-0 command.Leaks c.in-Some-Generate.ensures j.command))
    | inr k ↦ absurd (generate_no_check c.in-Some-Generate.seed c.in-Some-Generate.size c.in-Some-Generate.mode
        (sym c.in-Some-Generate.field-0-is ∙ c.words_tell_commands.ensures _ c.in-Some-Generate.field-0 command.Check c.in-Some-Generate.ensures k.command))
  ]
]
