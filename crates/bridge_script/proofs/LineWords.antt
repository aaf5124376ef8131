-- The words of a line have no space and no newline, so the line is cut into the same words again; and they tell the
-- line: the thread by the first word, the operation by the second, and what stands at each place by its own.
use Rattle.std.proofs.Common.{◌≡◌, ◌≢◌, ℕ, ◌<◌, List, [], ◌∷◌, codes, sym, ◌∙◌, ap, refl, arith, subst, lit<, inl, inr, IfSome, slice_get, get_or, length, length-append}
use Rattle.std.specs.List.{All, AllByRecursion, slice_split}
use Rattle.std.proofs.Math.Dec.{eqb}
use Rattle.std.proofs.lemmas.Option.{slice_get_cases}
use Rattle.std.proofs.lemmas.List.Elements.{All-from_recursion, All-append, All-cons, All-nil, All-weaker}
use Rattle.joint_machine.specs.declared.names.PhaseWord.TheVariants as phase
use Rattle.joint_machine.specs.declared.names.Thread.{Thread}
use Rattle.joint_machine.specs.declared.names.Thread.TheVariants.{M, P, C}
use Rattle.joint_machine.specs.declared.lines.Act.{Act}
use Rattle.joint_machine.specs.Lines.{IsLine, IsThread}
use Rattle.joint_machine.proofs.Deciding.{some-same}
use Rattle.bridge_script.specs.declared.grammar.Operation.{Operation}
use Rattle.bridge_script.specs.declared.grammar.Operation.TheVariants as operation
use Rattle.bridge_script.specs.declared.grammar.Place.{Place}
use Rattle.text_words.specs.Words.{spaced}
use Rattle.bridge_script.specs.Words.{thread_text, act_words, line_words, line_text}
use Rattle.bridge_script.specs.Grammar.{operation_text, form_of}
use Rattle.bridge_script.specs.Answers.{operation_of}
use Rattle.bridge_script.specs.Operands.{texts, StandAll, act_at}
use Rattle.bridge_script.specs.Scripts.{IsScriptLine}
use Rattle.text_words.proofs.Cuts.{split-join}
use Rattle.bridge_script.proofs.Standing.{IsPrinted, Printed, printed_code, printed_lettered, all_printed, same_operands}
use Rattle.bridge_script.proofs.Readings.{same_thread, same_operation}
use Rattle.bridge_script.proofs.Table.{has_row}
use Rattle.bridge_script.proofs.Fitting.{lawful_thread}

printed_thread : (t : Thread) → IsThread t → Printed (thread_text t)
printed_thread (M n) l = printed_lettered 109 n (lit< tt, lit< tt) (omega arith)
printed_thread (P n) l = printed_lettered 112 n (lit< tt, lit< tt) (omega arith)
printed_thread C l = printed_code (codes "c") refl

printed_operation : (o : Operation) → Printed (operation_text o)
printed_operation (operation.Phase phase.Cycle) = printed_code (codes "cycle") refl
printed_operation o = printed_code (operation_text o) refl

pub printed_line : (line : Thread × Act) → IsScriptLine line → AllByRecursion Printed (line_words line)
printed_line line h =
    let r = has_row line.0 line.1 h in
    let F : List (List ℕ) → Type 0 = λ ws. AllByRecursion Printed ws in
    (printed_thread line.0 (lawful_thread line.0 line.1 h), subst F (sym r.words) (printed_operation (operation_of line.1), all_printed r.places r.operands r.stand))

-- the words of a line's text are its words
pub words_of_line : (line : Thread × Act) → IsScriptLine line → slice_split (λ b. eqb b 32) (line_text line) ≡ line_words line
words_of_line line h = split-join 32 (line_words line) (omega arith)
    (All-weaker Printed (All (λ b. b ≢ 32)) (λ w a. All-weaker IsPrinted (λ b. b ≢ 32) (λ b l e. omega (arith, l.0)) w a)
    (line_words line) (All-from_recursion Printed (line_words line) (printed_line line h)))

same_act : (t : Thread) (a b : Act) → IsLine t a → IsLine t b → act_words t a ≡ act_words t b → a ≡ b
same_act t a b l m e =
    let r = has_row t a l in
    let s = has_row t b m in
    let words : operation_text (operation_of a) ∷ texts r.operands ≡ operation_text (operation_of b) ∷ texts s.operands = sym r.words ∙ (e ∙ s.words) in
    let o : operation_of a ≡ operation_of b = same_operation t (operation_of a) (operation_of b) r.places s.places r.form s.form (ap (λ w. get_or w 0 []) words) in
    let places : r.places ≡ s.places = some-same r.places s.places (sym r.form ∙ (ap (form_of t) o ∙ s.form)) in
    let F : List Place → Type 0 = λ p. StandAll p s.operands in
    let x = same_operands r.places r.operands s.operands r.stand (subst F (sym places) s.stand) (cc) in
    some-same a b (sym r.act ∙ (ap (λ p. act_at p r.operands) o ∙ (ap (act_at (operation_of b)) x ∙ s.act)))

-- two lines with the same words are the same
same_in_words : (s t : Thread) (a b : Act) → IsLine s a → IsLine t b → thread_text s ∷ act_words s a ≡ thread_text t ∷ act_words t b → (let x : Thread × Act = (s, a) in x) ≡ (t, b)
same_in_words s t a b l m e =
    let thread : s ≡ t = same_thread s t (lawful_thread s a l) (lawful_thread t b m) (ap (λ w. get_or w 0 []) e) in
    let F : Thread → Type 0 = λ x. IsLine x a in
    let tails : act_words s a ≡ act_words t b = cc in
    let act : a ≡ b = same_act t a b (subst F thread l) m (sym (ap (λ x. act_words x a) thread) ∙ tails) in
    cc

pub same_words : (a b : Thread × Act) → IsLine a.0 a.1 → IsLine b.0 b.1 → line_words a ≡ line_words b → a ≡ b
same_words a b l m e = same_in_words a.0 b.0 a.1 b.1 l m e

-- a text is the text of one line
pub same_line : (a b : Thread × Act) → IsScriptLine a → IsScriptLine b → line_text a ≡ line_text b → a ≡ b
same_line a b p q e = same_words a b p q (sym (words_of_line a p) ∙ (ap (slice_split (λ x. eqb x 32)) e ∙ words_of_line b q))

abbrev IsShown : ℕ → Type 0
IsShown b = (31 < b) × (b < 128)

shown : (word : List ℕ) → Printed word → All IsShown word
shown word h = All-weaker IsPrinted IsShown (λ b l. (omega (arith, l.0), l.1)) word h

-- printed words, joined by spaces: no newline, and characters by themselves
spaced_printed : (words : List (List ℕ)) → AllByRecursion Printed words → All IsShown (spaced words)
spaced_printed [] h = All-nil IsShown
spaced_printed (w ∷ []) h = shown w h.0
spaced_printed (w ∷ x ∷ ws) h = All-append IsShown w (32 ∷ spaced (x ∷ ws)) (shown w h.0) (All-cons IsShown 32 (spaced (x ∷ ws)) (lit< tt, lit< tt) (spaced_printed (x ∷ ws) h.1))

pub line_free : (line : Thread × Act) → IsScriptLine line → All (λ b. b ≢ 10) (line_text line)
line_free line h = All-weaker IsShown (λ b. b ≢ 10) (λ b l e. omega (arith, l.0)) (line_text line) (spaced_printed (line_words line) (printed_line line h))

pub line_ascii : (line : Thread × Act) → IsScriptLine line → All (λ b. b < 128) (line_text line)
line_ascii line h = All-weaker IsShown (λ b. b < 128) (λ b l. l.1) (line_text line) (spaced_printed (line_words line) (printed_line line h))

spaced_some : (w : List ℕ) (ws : List (List ℕ)) → 0 < length w → 0 < length (spaced (w ∷ ws))
spaced_some w [] h = h
spaced_some w (x ∷ ws) h = omega (arith, length-append w (32 ∷ spaced (x ∷ ws)))

thread_some : (t : Thread) → 0 < length (thread_text t)
thread_some (M n) = omega arith
thread_some (P n) = omega arith
thread_some C = lit< tt

-- the text of a line isn't empty
pub line_some : (line : Thread × Act) → IsScriptLine line → 0 < length (line_text line)
line_some line h = spaced_some (thread_text line.0) (act_words line.0 line.1) (thread_some line.0)

pub lawful_in_script : (lines : List (Thread × Act)) (i : ℕ) → All IsScriptLine lines → IfSome (slice_get lines i) (λ line. IsLine line.0 line.1)
lawful_in_script lines i h = elim (slice_get_cases lines i).1 [
  | inl p ↦ rw (p.2) (rw (p.3) at (h i p.0 p.1))
  | inr p ↦ rw (p.1) tt
]
