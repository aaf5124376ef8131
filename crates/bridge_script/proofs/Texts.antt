-- A text falls into lines in one way: no line has a newline, so the first newline ends the first line, and
-- what stands behind it is the text of the other lines. So two scripts with one text are the same, and a line
-- that no script goes on with, behind the lines of a script, excludes every script with that text.
use Rattle.std.proofs.Common.{Bool, true, subst, zero, suc, slice_get, ◌-◌, ◌≡◌, ◌≢◌, ℕ, ◌+◌, ◌<◌, ◌≤◌, cond, List, [], ◌∷◌, ◌++◌, length, sym, ◌∙◌, ap, refl, inl}
use Rattle.std.proofs.Common.{inr, ◌⊎◌, arith, append_assoc, append-nil, length-append}
use Rattle.std.specs.List.{All}
use Rattle.text_words.proofs.Cuts.{cut_once}
use Rattle.std.proofs.lemmas.List.Elements.{All-head, All-tail, All-take, All-get_or, All-push}
use Rattle.std.proofs.lemmas.List.Sums.{sum_by-append, sum_by_push}
use Rattle.std.proofs.Math.Seq.{take-append_seam, get_or-append_seam}
use Rattle.joint_machine.specs.declared.names.PhaseWord.TheVariants as phase
use Rattle.joint_machine.specs.declared.names.Thread.{Thread}
use Rattle.joint_machine.specs.declared.names.Thread.TheVariants.{C}
use Rattle.joint_machine.specs.declared.lines.Act.{Act}
use Rattle.joint_machine.specs.declared.lines.Act.TheVariants as act
use Rattle.bridge_script.specs.declared.faults.ScriptFault.{ScriptFault}
use Rattle.bridge_script.specs.declared.faults.Cause.{Cause}
use Rattle.bridge_script.specs.declared.faults.Cause.TheVariants as cause
use Rattle.bridge_script.specs.Words.{line_text, line_words}
use Rattle.bridge_script.specs.Faults.{AskCycle, WordsHave, Has}
use Rattle.bridge_script.specs.Scripts.{IsScriptLine, IsScript, IsText, IsFault, IsNoText, script_text_of, cycles_of, is_cycle, end_of}
use Rattle.bridge_script.specs.Answers.{line_at}
use Rattle.bridge_script.specs.Steps.{behind}
use Rattle.bridge_script.proofs.LineWords.{same_words, same_line, line_free, line_some, words_of_line}
use Rattle.bridge_script.proofs.Fitting.{none_of_line}

pub text_push : (script : List (Thread × Act)) (line : Thread × Act) → script_text_of (script ++ line ∷ []) ≡ script_text_of script ++ (line_text line ++ 10 ∷ [])
text_push [] line = refl
text_push (x ∷ script) line = ap (λ t. line_text x ++ (10 ∷ t)) (text_push script line) ∙ sym (append_assoc (line_text x) (10 ∷ script_text_of script) (line_text line ++ 10 ∷ []))

pub text_append : (a b : List (Thread × Act)) → script_text_of (a ++ b) ≡ script_text_of a ++ script_text_of b
text_append [] b = refl
text_append (x ∷ a) b = ap (λ t. line_text x ++ (10 ∷ t)) (text_append a b) ∙ sym (append_assoc (line_text x) (10 ∷ script_text_of a) (script_text_of b))

-- the first lines of a script are a script
pub script_part : (front more : List (Thread × Act)) → IsScript (front ++ more) → IsScript front
script_part front more s = record {
  each = rw take-append_seam at (All-take IsScriptLine (length front) (front ++ more) s.each);
  lines = omega (arith, length-append front more, s.lines);
  cycles = omega (arith, sum_by-append (λ l. cond (is_cycle l) 1 0) front more, s.cycles);
}

pub last_line : (front : List (Thread × Act)) (line : Thread × Act) → IsScript (front ++ line ∷ []) → IsScriptLine line
last_line front line s = rw get_or-append_seam at (All-get_or IsScriptLine (front ++ line ∷ []) (length front) line (omega (arith, length-append front (line ∷ []))) s.each)

-- a script grows by a line within the limits
pub script_grown : (old : List (Thread × Act)) (line : Thread × Act) → IsScript old → IsScriptLine line
    → length old < 20000 → cycles_of old + cond (is_cycle line) 1 0 ≤ 256 → IsScript (old ++ line ∷ [])
script_grown old line s b l c = record {
  each = All-push IsScriptLine old line s.each b;
  lines = omega (arith, length-append old (line ∷ []));
  cycles = omega (arith, sum_by_push (λ l. cond (is_cycle l) 1 0) old line);
}

-- a script whose text goes on, behind the lines `before`, with a line, goes on with that line
pub record GoesOn (script before : List (Thread × Act)) (text : List ℕ) : Type 0 where
  pub next : Thread × Act
  pub more : List (Thread × Act)
  pub whole : script ≡ (before ++ next ∷ []) ++ more
  pub read : line_text next ≡ text

pub goes_on : (script before : List (Thread × Act)) (extra line rest : List ℕ) → All IsScriptLine script → All IsScriptLine before → All (λ b. b ≢ 10) line
    → script_text_of script ++ extra ≡ script_text_of before ++ (line ++ (10 ∷ rest)) → length (script_text_of before) < length (script_text_of script) → GoesOn script before line
goes_on [] before extra line rest hs hb hl e l = absurd (omega arith)
goes_on (x ∷ script) [] extra line rest hs hb hl e l =
    let r = cut_once 10 (line_text x) line (script_text_of script ++ extra) rest (line_free x (All-head IsScriptLine x script hs)) hl
    (sym (append_assoc (line_text x) (10 ∷ script_text_of script) extra) ∙ e) in
    record { next = x; more = script; whole = refl; read = r.0 }
goes_on (x ∷ script) (y ∷ before) extra line rest hs hb hl e l =
    let r = cut_once 10 (line_text x) (line_text y) (script_text_of script ++ extra) (script_text_of before ++ (line ++ (10 ∷ rest)))
    (line_free x (All-head IsScriptLine x script hs)) (line_free y (All-head IsScriptLine y before hb))
    (sym (append_assoc (line_text x) (10 ∷ script_text_of script) extra) ∙ (e ∙ append_assoc (line_text y) (10 ∷ script_text_of before) (line ++ (10 ∷ rest)))) in
    let same = same_line x y (All-head IsScriptLine x script hs) (All-head IsScriptLine y before hb) r.0 in
    let shorter : length (script_text_of before) < length (script_text_of script) = omega
    (arith, l, ap length r.0, length-append (line_text x) (10 ∷ script_text_of script), length-append (line_text y) (10 ∷ script_text_of before)) in
    let g = goes_on script before extra line rest (All-tail IsScriptLine x script hs) (All-tail IsScriptLine y before hb) hl r.1 shorter in
    record { next = g.next; more = g.more; whole = let w = g.whole in cc; read = g.read }

-- what a line adds to a count
abbrev weight : Bool → ℕ
weight b = cond b 1 0

-- a line that asks for a cycle is one that is counted
counted : (line : Thread × Act) → IsScriptLine line → AskCycle (line_words line) → is_cycle line ≡ true
counted line b q = elim q [
  | inl x ↦ ap is_cycle (same_words line (C, act.PhaseLine phase.Cycle) b tt x)
  | inr x ↦ ap is_cycle (same_words line (C, act.PhaseLine phase.Snap) b tt x)
]

-- a line that a script goes on with has no cause where it stands
pub none_in_script : (before : List (Thread × Act)) (next : Thread × Act) (end : ℕ) → IsScript (before ++ next ∷ []) → end ≤ 8388608 → (c : Cause) → Has (behind before (line_text next) end) c → ⊥
none_in_script before next end s l cause.Bytes h = omega arith
none_in_script before next end s l cause.Lines h = omega (arith, h.1, s.lines, length-append before (next ∷ []))
none_in_script before next end s l cause.Cycles h =
    let b = last_line before next s in
    let q : AskCycle (line_words next) = rw (words_of_line next b) at h.1 in
    let e = counted next b q in
    omega (arith, h.2, s.cycles, sum_by_push (λ l. cond (is_cycle l) 1 0) before next, ap weight e)
none_in_script before next end s l c h =
    let b = last_line before next s in
    let w : WordsHave (line_words next) c = rw (words_of_line next b) at h.1 in
    none_of_line next b c w

-- a faulty line excludes every script
pub no_text : (bytes : List ℕ) (fault : ScriptFault) → IsFault bytes fault → IsNoText bytes
no_text bytes fault f script t =
    let finish : GoesOn script f.before f.line → ⊥ = λ g.
    let W : List ℕ → Type 0 = λ x. Has (behind f.before x (end_of bytes (script_text_of f.before) f.line)) fault.cause in
    none_in_script f.before g.next (end_of bytes (script_text_of f.before) f.line)
    (script_part (f.before ++ g.next ∷ []) g.more (rw (g.whole) at t.lawful)) (omega (arith, t.size)) fault.cause (subst W (sym g.read) f.cause.here) in
    elim t.text [
      | inl e ↦ finish (goes_on script f.before (10 ∷ []) f.line f.rest t.lawful.each f.lawful.each f.whole (ap (λ b. b ++ 10 ∷ []) (sym e) ∙ f.stands) (omega (arith, f.some, ap length e)))
      | inr h ↦ finish (goes_on script f.before [] f.line f.rest t.lawful.each f.lawful.each f.whole
          (append-nil (script_text_of script) ∙ (sym h.1 ∙ f.stands)) (omega (arith, f.some, ap length h.1, length-append bytes (10 ∷ []))))
    ]

-- a text and the same text with one more newline aren't both texts of scripts
not_both : (s t : List (Thread × Act)) → All IsScriptLine s → All IsScriptLine t → script_text_of t ≡ script_text_of s ++ 10 ∷ [] → ⊥
not_both s [] p q e = omega (arith, ap length e, length-append (script_text_of s) (10 ∷ []))
not_both [] (y ∷ t) p q e = omega (arith, ap length e, length-append (line_text y) (10 ∷ script_text_of t), line_some y (All-head IsScriptLine y t q))
not_both (x ∷ s) (y ∷ t) p q e =
    let r = cut_once 10 (line_text y) (line_text x) (script_text_of t) (script_text_of s ++ 10 ∷ []) (line_free y (All-head IsScriptLine y t q))
    (line_free x (All-head IsScriptLine x s p)) (e ∙ append_assoc (line_text x) (10 ∷ script_text_of s) (10 ∷ [])) in
    not_both s t (All-tail IsScriptLine x s p) (All-tail IsScriptLine y t q) r.1

pub same_lines : (s t : List (Thread × Act)) → All IsScriptLine s → All IsScriptLine t → script_text_of s ≡ script_text_of t → s ≡ t
same_lines [] [] p q e = refl
same_lines [] (y ∷ t) p q e = absurd (omega (arith, ap length e, length-append (line_text y) (10 ∷ script_text_of t)))
same_lines (x ∷ s) [] p q e = absurd (omega (arith, ap length e, length-append (line_text x) (10 ∷ script_text_of s)))
same_lines (x ∷ s) (y ∷ t) p q e =
    let r = cut_once 10 (line_text x) (line_text y) (script_text_of s) (script_text_of t) (line_free x (All-head IsScriptLine x s p)) (line_free y (All-head IsScriptLine y t q)) e in
    let first = same_line x y (All-head IsScriptLine x s p) (All-head IsScriptLine y t q) r.0 in
    let others = same_lines s t (All-tail IsScriptLine x s p) (All-tail IsScriptLine y t q) r.1 in
    cc

-- a text is a text of one script
pub one_script : (bytes : List ℕ) (s t : List (Thread × Act)) → IsText bytes s → IsText bytes t → s ≡ t
one_script bytes s t a b = elim a.text [
  | inl e ↦ elim b.text [
    | inl f ↦ same_lines s t a.lawful.each b.lawful.each (sym e ∙ f)
    | inr f ↦ absurd (not_both s t a.lawful.each b.lawful.each (sym f.1 ∙ ap (λ x. x ++ 10 ∷ []) e))
  ]
  | inr e ↦ elim b.text [
    | inl f ↦ absurd (not_both t s b.lawful.each a.lawful.each (sym e.1 ∙ ap (λ x. x ++ 10 ∷ []) f))
    | inr f ↦ same_lines s t a.lawful.each b.lawful.each (sym e.1 ∙ f.1)
  ]
]

-- lines count from 1
pub line_at_from : (script : List (Thread × Act)) (i : ℕ) → 0 < i → line_at script i ≡ slice_get script (i - 1)
line_at_from script zero l = absurd (omega arith)
line_at_from script (suc i) l = let e : suc i - 1 ≡ i = omega arith in rw e refl

pub one_more : (bytes : List ℕ) (script : List (Thread × Act)) → IsText bytes script → (bytes ≡ script_text_of script) ⊎ (bytes ++ 10 ∷ [] ≡ script_text_of script)
one_more bytes script t = elim t.text [ inl e ↦ inl e | inr h ↦ inr h.1 ]
