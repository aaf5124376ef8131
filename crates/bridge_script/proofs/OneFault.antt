-- Bytes have one first faulty line. If two faults named different lines, the lines before the later one would be
-- a script's and go on with the earlier faulty line, which no script does. So the lines before both are the same,
-- and so is the faulty line; and of its causes one is the first.
use Rattle.std.proofs.Common.{◌≡◌, ℕ, ◌<◌, ◌≤◌, List, [], ◌∷◌, ◌++◌, length, sym, ◌∙◌, ap, refl, arith, subst, inl, inr, length-append}
use Rattle.std.proofs.lemmas.Bool.{cases_lt}
use Rattle.joint_machine.specs.declared.names.Thread.{Thread}
use Rattle.joint_machine.specs.declared.lines.Act.{Act}
use Rattle.bridge_script.specs.declared.faults.Cause.{Cause}
use Rattle.bridge_script.specs.declared.faults.Cause.TheVariants as cause
use Rattle.bridge_script.specs.declared.faults.ScriptFault.{ScriptFault}
use Rattle.bridge_script.specs.Causes.{cause_number}
use Rattle.bridge_script.specs.Words.{line_text}
use Rattle.bridge_script.specs.Faults.{Has, IsFirst}
use Rattle.bridge_script.specs.Scripts.{IsFault, script_text_of, end_of, standing}
use Rattle.bridge_script.specs.Steps.{behind}
use Rattle.text_words.proofs.Cuts.{cut_once}
use Rattle.bridge_script.proofs.Texts.{goes_on, none_in_script, script_part, same_lines, text_append, text_push}

-- a cause is known by its number
same_cause : (c d : Cause) → cause_number c ≡ cause_number d → c ≡ d
same_cause cause.Unknown cause.Unknown e = refl
same_cause cause.Arity cause.Arity e = refl
same_cause cause.Name cause.Name e = refl
same_cause cause.Number cause.Number e = refl
same_cause cause.Limit cause.Limit e = refl
same_cause cause.Kind cause.Kind e = refl
same_cause cause.Cycles cause.Cycles e = refl
same_cause cause.Lines cause.Lines e = refl
same_cause cause.Bytes cause.Bytes e = refl
same_cause c d e = absurd (omega arith)

-- parts of one text that are as long as each other are the same
append_same : (x y u v : List ℕ) → x ++ u ≡ y ++ v → length x ≡ length y → (x ≡ y) × (u ≡ v)
append_same [] [] u v e l = (refl, e)
append_same [] (j ∷ y) u v e l = absurd (omega arith)
append_same (k ∷ x) [] u v e l = absurd (omega arith)
append_same (k ∷ x) (j ∷ y) u v e l =
    let h : k ≡ j = cc in
    let t : x ++ u ≡ y ++ v = cc in
    let r = append_same x y u v t (omega arith) in
    let s = r.0 in
    (cc, r.1)

-- the lines before one fault don't reach past the line of another
not_past : (bytes : List ℕ) (f g : ScriptFault) (a : IsFault bytes f) (b : IsFault bytes g) → length (script_text_of a.before) < length (script_text_of b.before) → ⊥
not_past bytes f g a b l =
    let n = goes_on b.before a.before (b.line ++ 10 ∷ b.rest) a.line a.rest b.lawful.each a.lawful.each a.whole (sym b.stands ∙ a.stands) l in
    let t = ap script_text_of n.whole ∙ (text_append (a.before ++ n.next ∷ []) n.more ∙ ap (λ x. x ++ script_text_of n.more) (text_push a.before n.next)) in
    let end : end_of bytes (script_text_of a.before) a.line ≤ 8388608 = omega (
      arith,
      ap length t,
      b.size,
      ap length n.read,
      length-append (script_text_of a.before ++ (line_text n.next ++ 10 ∷ [])) (script_text_of n.more),
      length-append (script_text_of a.before) (line_text n.next ++ 10 ∷ []),
      length-append (line_text n.next) (10 ∷ []),
    ) in
    let W : List ℕ → Type 0 = λ x. Has (behind a.before x (end_of bytes (script_text_of a.before) a.line)) f.cause in
    none_in_script a.before n.next (end_of bytes (script_text_of a.before) a.line)
    (script_part (a.before ++ n.next ∷ []) n.more (rw (n.whole) at b.lawful)) end f.cause (subst W (sym n.read) a.cause.here)

same_fault : (l m : ℕ) (c d : Cause) → l ≡ m → c ≡ d → (let x : ScriptFault = record { line = l; cause = c } in x) ≡ record { line = m; cause = d }
same_fault l m c d p q = cc

pub one_fault : (bytes : List ℕ) (f g : ScriptFault) → IsFault bytes f → IsFault bytes g → f ≡ g
one_fault bytes f g a b =
    let size : length (script_text_of a.before) ≡ length (script_text_of b.before) = elim (cases_lt (length (script_text_of a.before)) (length (script_text_of b.before))) [
      | inl h ↦ absurd (not_past bytes f g a b h)
      | inr h ↦ elim (cases_lt (length (script_text_of b.before)) (length (script_text_of a.before))) [
        | inl k ↦ absurd (not_past bytes g f b a k)
        | inr k ↦ omega arith
      ]
    ] in
    let parts = append_same (script_text_of a.before) (script_text_of b.before) (a.line ++ 10 ∷ a.rest) (b.line ++ 10 ∷ b.rest) (sym a.stands ∙ b.stands) size in
    let before = same_lines a.before b.before a.lawful.each b.lawful.each parts.0 in
    let line = (cut_once 10 a.line b.line a.rest b.rest a.whole b.whole parts.1).0 in
    let F : List (Thread × Act) → Type 0 = λ x. IsFirst (Has (standing bytes x a.line)) f.cause in
    let G : List ℕ → Type 0 = λ x. IsFirst (Has (standing bytes b.before x)) f.cause in
    let h = subst G line (subst F before a.cause) in
    let cause = same_cause f.cause g.cause (omega (arith, h.first g.cause b.cause.here, b.cause.first f.cause h.here)) in
    same_fault f.line g.line f.cause g.cause (omega (arith, a.number, b.number, ap length before)) cause
