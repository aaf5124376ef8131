-- The text of a line is its thread and its words, each with a space before it. The texts of all lines are short
-- enough that a script within its limits has a text within the limit of bytes.
use Rattle.std.proofs.Common.{◌≡◌, ℕ, ◌*◌, ◌<◌, ◌≤◌, List, [], ◌∷◌, ◌++◌, length, sym, ap, refl, arith, inl, lit≤, append-nil, length-append}
use Rattle.std.specs.List.{All}
use Rattle.std.specs.Str.{IsUtf8}
use Rattle.std.proofs.lemmas.Str.{IsUtf8-from_ascii}
use Rattle.std.proofs.lemmas.Str.Ascii.{IsAscii-from_all}
use Rattle.std.proofs.lemmas.List.Elements.{All-append, All-cons, All-nil, All-head, All-tail}
use Rattle.joint_machine.specs.declared.names.PhaseWord.TheVariants as phase
use Rattle.joint_machine.specs.declared.names.Thread.{Thread}
use Rattle.joint_machine.specs.declared.names.Thread.TheVariants.{M, P, C}
use Rattle.joint_machine.specs.declared.lines.Act.{Act}
use Rattle.joint_machine.specs.Lines.{IsThread}
use Rattle.bridge_script.specs.declared.grammar.Operation.{Operation}
use Rattle.bridge_script.specs.declared.grammar.Operation.TheVariants as operation
use Rattle.text_words.specs.Words.{spaced}
use Rattle.bridge_script.specs.Words.{thread_text, act_words, line_text}
use Rattle.bridge_script.specs.Grammar.{operation_text}
use Rattle.bridge_script.specs.Answers.{operation_of}
use Rattle.byte_streams.specs.Spaced.{after_spaces}
use Rattle.bridge_script.specs.Scripts.{IsScriptLine, IsScript, IsText, script_text_of}
use Rattle.bridge_script.proofs.Standing.{sizes, short_small, all_short}
use Rattle.bridge_script.proofs.Table.{has_row}
use Rattle.bridge_script.proofs.Readings.{few_places}
use Rattle.bridge_script.proofs.Fitting.{lawful_thread}
use Rattle.bridge_script.proofs.LineWords.{line_ascii}

pub spaced_after : (w : List ℕ) (ws : List (List ℕ)) → spaced (w ∷ ws) ≡ w ++ after_spaces ws
spaced_after w [] = sym (append-nil w)
spaced_after w (x ∷ ws) = ap (λ t. w ++ (32 ∷ t)) (spaced_after x ws)

script_ascii : (script : List (Thread × Act)) → All IsScriptLine script → All (λ b. b < 128) (script_text_of script)
script_ascii [] h = All-nil (λ b. b < 128)
script_ascii (x ∷ script) h = All-append (λ b. b < 128) (line_text x) (10 ∷ script_text_of script) (line_ascii x (All-head IsScriptLine x script h))
    (All-cons (λ b. b < 128) 10 (script_text_of script) (omega arith) (script_ascii script (All-tail IsScriptLine x script h)))

-- the text of a script is text
pub script_utf8 : (script : List (Thread × Act)) → IsScript script → IsUtf8 (script_text_of script)
script_utf8 script s = IsUtf8-from_ascii (script_text_of script) (IsAscii-from_all (script_text_of script) (script_ascii script s.each))

length_after : (ws : List (List ℕ)) → length (after_spaces ws) ≡ sizes ws
length_after [] = refl
length_after (w ∷ ws) = omega (arith, length-append w (after_spaces ws), length_after ws)

short_operation : (o : Operation) → length (operation_text o) ≤ 8
short_operation (operation.Phase phase.Cycle) = lit≤ tt
short_operation o = lit≤ tt

short_thread : (t : Thread) → IsThread t → length (thread_text t) ≤ 3
short_thread (M n) l = omega (arith, short_small n (omega arith))
short_thread (P n) l = omega (arith, short_small n (omega arith))
short_thread C l = lit≤ tt

short_line : (line : Thread × Act) → IsScriptLine line → length (line_text line) ≤ 117
short_line line h =
    let r = has_row line.0 line.1 h in
    omega (
      arith,
      ap length (spaced_after (thread_text line.0) (act_words line.0 line.1)),
      length-append (thread_text line.0) (after_spaces (act_words line.0 line.1)),
      length_after (act_words line.0 line.1),
      ap sizes r.words,
      short_thread line.0 (lawful_thread line.0 line.1 h),
      short_operation (operation_of line.1),
      all_short r.places r.operands r.stand,
      few_places line.0 (operation_of line.1) r.places r.form,
    )

short_lines : (script : List (Thread × Act)) → All IsScriptLine script → length (script_text_of script) ≤ 118 * length script
short_lines [] h = lit≤ tt
short_lines (x ∷ script) h = omega (
  arith,
  short_line x (All-head IsScriptLine x script h),
  short_lines script (All-tail IsScriptLine x script h),
  length-append (line_text x) (10 ∷ script_text_of script),
)

-- a script has its text, each line with its newline
pub full_text : (script : List (Thread × Act)) → IsScript script → IsText (script_text_of script) script
full_text script s = record { lawful = s; text = inl refl; size = omega (arith, short_lines script s.each, s.lines) }
