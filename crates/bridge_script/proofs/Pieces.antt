-- A text that is taken piece by piece: why a script doesn't go on with a line that ends within what was taken is why
-- the whole text is none, whatever stands behind it.
use Rattle.std.proofs.Common.{◌≡◌, ◌≢◌, ℕ, ◌+◌, ◌-◌, ◌<◌, ◌≤◌, List, [], ◌∷◌, ◌++◌, length, sym, ◌∙◌, ap, subst, refl, arith, inl, inr, append_assoc, append-nil, length-append}
use Rattle.std.specs.List.{All}
use Rattle.std.proofs.KnownBytes.{Consumes-trans}
use Rattle.std.specs.Io.KnownBytes.{Consumes}
use Rattle.std.specs.Prelude.{Option, Result, Ok, Err, MatchResult, OnOk, IfErr, take}
use Rattle.std.proofs.lemmas.List.{take_all, take-append-le}
use Rattle.std.proofs.Math.Seq.{take-append_seam}
use Rattle.joint_machine.specs.declared.names.Thread.{Thread}
use Rattle.joint_machine.specs.declared.lines.Act.{Act}
use Rattle.bridge_script.specs.declared.faults.ScriptFault.{ScriptFault}
use Rattle.bridge_script.specs.declared.faults.ScriptError.{ScriptError}
use Rattle.bridge_script.specs.declared.faults.ScriptError.TheVariants.{OutOfMemory, ReadFault, Refused}
use Rattle.bridge_script.specs.Faults.{IsFirst, Has}
use Rattle.bridge_script.specs.Scripts.{IsScript, IsText, IsFault, script_text_of, end_of}
use Rattle.byte_streams.specs.Reading.{Took}
use Rattle.bridge_script.specs.Answers.{IsRefusal, IsNoScript}
use Rattle.bridge_script.specs.Steps.{GainsLine, Stops, StopsWithin, behind}
use Rattle.bridge_script.proofs.Texts.{no_text, text_push}

-- a line that no script goes on with, behind the lines of a script
faulty : (bytes : List ℕ) (before : List (Thread × Act)) (line rest : List ℕ) (fault : ScriptFault) (end : ℕ)
    → bytes ++ 10 ∷ [] ≡ script_text_of before ++ (line ++ 10 ∷ rest) → length (script_text_of before) < length bytes
    → All (λ b. b ≢ 10) line → IsScript before → length (script_text_of before) ≤ 8388608 → end ≡ end_of bytes (script_text_of before) line
    → Stops before line end (Refused fault) → IsRefusal bytes (Refused fault)
faulty bytes before line rest fault end e l f s z same h =
    let F : ℕ → Type 0 = λ n. IsFirst (Has (behind before line n)) fault.cause in
    let fault' : IsFault bytes fault = record {
      before = before;
      line = line;
      rest = rest;
      stands = e;
      some = l;
      whole = f;
      lawful = s;
      size = z;
      number = h.0;
      cause = subst F same h.1;
    } in
    (fault', no_text bytes fault fault')

-- how long a text is up to such a line and its newline, and what stands behind these
size_of : (a line rest : List ℕ) → length (a ++ (line ++ 10 ∷ rest)) ≡ length a + length line + 1 + length rest
size_of a line rest = omega (arith, length-append a (line ++ 10 ∷ rest), length-append line (10 ∷ rest))

-- what stands behind it is of no matter
pub stops_on : (text more : List ℕ) (error : ScriptError) → StopsWithin text error → StopsWithin (text ++ more) error
stops_on text more OutOfMemory h = tt
stops_on text more ReadFault h = absurd h
stops_on text more (Refused fault) h = record {
  before = h.before;
  line = h.line;
  rest = h.rest ++ more;
  stands = ap (λ t. t ++ more) h.stands ∙ (append_assoc (script_text_of h.before) (h.line ++ 10 ∷ h.rest) more
      ∙ ap (λ t. script_text_of h.before ++ t) (append_assoc h.line (10 ∷ h.rest) more));
  whole = h.whole;
  lawful = h.lawful;
  size = h.size;
  stops = h.stops;
}

-- a line that was read, up to its newline
pub text_gained : (old new : List (Thread × Act)) (line : List ℕ) (end : ℕ) → GainsLine old new line end → script_text_of new ≡ script_text_of old ++ (line ++ 10 ∷ [])
text_gained old new line end g = ap script_text_of g.grown ∙ (text_push old g.line ∙ ap (λ t. script_text_of old ++ (t ++ 10 ∷ [])) g.read)

-- a line that ends at its newline
pub stops_at : (before : List (Thread × Act)) (line : List ℕ) (end : ℕ) (error : ScriptError) → All (λ b. b ≢ 10) line → IsScript before
    → length (script_text_of before) ≤ 8388608 → end ≡ length (script_text_of before) + length line + 1 → Stops before line end error
    → (rest : List ℕ) → StopsWithin (script_text_of before ++ (line ++ 10 ∷ rest)) error
stops_at before line end OutOfMemory f s z e h rest = tt
stops_at before line end ReadFault f s z e h rest = absurd h
stops_at before line end (Refused fault) f s z e h rest = record {
  before = before;
  line = line;
  rest = rest;
  stands = refl;
  whole = f;
  lawful = s;
  size = z;
  stops = subst (λ n. Stops before line n (Refused fault)) e h;
}

-- what a call of `grow` says, by its answer
pub gained : (old new : List (Thread × Act)) (line : List ℕ) (end : ℕ) (result : Result (Unit {0}) ScriptError)
    → MatchResult result (λ _. GainsLine old new line end) (λ error. Stops old line end error) → OnOk result (script_text_of new ≡ script_text_of old ++ (line ++ 10 ∷ []))
gained old new line end (Ok u) g = text_gained old new line end g
gained old new line end (Err e) g = tt

pub stopped : (old new : List (Thread × Act)) (line : List ℕ) (end : ℕ) (result : Result (Unit {0}) ScriptError) → All (λ b. b ≢ 10) line → IsScript old
    → length (script_text_of old) ≤ 8388608 → end ≡ length (script_text_of old) + length line + 1
    → MatchResult result (λ _. GainsLine old new line end) (λ error. Stops old line end error)
    → IfErr result (λ error. (rest : List ℕ) → StopsWithin (script_text_of old ++ (line ++ 10 ∷ rest)) error)
stopped old new line end (Ok u) f s z e g = tt
stopped old new line end (Err error) f s z e g = stops_at old line end error f s z e g

-- a text in the front of some bytes
pub copied : (n : ℕ) (copy rest text : List ℕ) → copy ≡ take n text → n ≡ length text → take n (copy ++ rest) ≡ text
copied n copy rest text e l =
    let same : copy ≡ text = e ∙ take_all n text (omega (arith, l)) in
    let long : n ≡ length copy = l ∙ ap length (sym same) in
    rw (long) (take-append_seam copy rest) ∙ same

-- a piece that was taken from a source
pub took_piece : (l a b : Option (List ℕ)) (text buf rest : List ℕ) (n : ℕ) → n ≤ length buf → Consumes l a text → Consumes a b (take n buf)
    → Consumes l b (text ++ take n (buf ++ rest))
took_piece l a b text buf rest n f c d = rw (take-append-le n buf rest f) (Consumes-trans l a b text (take n buf) c d)

-- a piece that ends the line that is held
pub with_piece : (a held front rest piece : List ℕ) → piece ≡ front ++ 10 ∷ rest → (a ++ (held ++ front)) ++ 10 ∷ rest ≡ (a ++ held) ++ piece
with_piece a held front rest piece e = append_assoc a (held ++ front) (10 ∷ rest)
    ∙ (ap (λ t. a ++ t) (append_assoc held front (10 ∷ rest)) ∙ (sym (append_assoc a held (front ++ 10 ∷ rest)) ∙ ap (λ t. (a ++ held) ++ t) (sym e)))

pub behind_piece : (a held front rest piece now : List ℕ) → piece ≡ front ++ 10 ∷ rest → now ≡ (a ++ (held ++ front)) ++ 10 ∷ [] → (now ++ []) ++ rest ≡ (a ++ held) ++ piece
behind_piece a held front rest piece now e n = ap (λ t. t ++ rest) (append-nil now ∙ n) ∙ (append_assoc (a ++ (held ++ front)) (10 ∷ []) rest ∙ with_piece a held front rest piece e)

-- what was taken is the text of no script
pub refused_within : (text : List ℕ) (error : ScriptError) → StopsWithin text error → IsRefusal text error
refused_within text OutOfMemory h = tt
refused_within text ReadFault h = absurd h
refused_within text (Refused fault) h =
    let a = script_text_of h.before in
    let size : length text ≡ length a + length h.line + 1 + length h.rest = ap length h.stands ∙ size_of a h.line h.rest in
    let stands : text ++ 10 ∷ [] ≡ a ++ (h.line ++ 10 ∷ (h.rest ++ 10 ∷ [])) = ap (λ t. t ++ 10 ∷ []) h.stands
    ∙ (append_assoc a (h.line ++ 10 ∷ h.rest) (10 ∷ []) ∙ ap (λ t. a ++ t) (append_assoc h.line (10 ∷ h.rest) (10 ∷ []))) in
    let same : length a + length h.line + 1 ≡ end_of text a h.line = omega (arith, size) in
    faulty text h.before h.line (h.rest ++ 10 ∷ []) fault (length a + length h.line + 1) stands (omega (arith, size)) h.whole h.lawful h.size same h.stops

-- a last line without a newline
pub refused_last : (before : List (Thread × Act)) (line : List ℕ) (end : ℕ) (error : ScriptError) → All (λ b. b ≢ 10) line → 0 < length line → IsScript before
    → length (script_text_of before) ≤ 8388608 → end ≡ length (script_text_of before) + length line → Stops before line end error
    → IsRefusal (script_text_of before ++ line) error
refused_last before line end OutOfMemory f l s z e h = tt
refused_last before line end ReadFault f l s z e h = absurd h
refused_last before line end (Refused fault) f l s z e h =
    let a = script_text_of before in
    let size = length-append a line in
    faulty (a ++ line) before line [] fault end (append_assoc a line (10 ∷ [])) (omega (arith, size)) f s z (omega (arith, size, e)) h

pub text_last : (old new : List (Thread × Act)) (line : List ℕ) (end : ℕ) → end ≡ length (script_text_of old) + length line
    → GainsLine old new line end → IsText (script_text_of old ++ line) new
text_last old new line end e g =
    let a = script_text_of old in
    let whole : (a ++ line) ++ 10 ∷ [] ≡ script_text_of new = append_assoc a line (10 ∷ []) ∙ sym (text_gained old new line end g) in
    record {
      lawful = g.lawful;
      text = inr (omega (arith, ap length g.grown, length-append old (g.line ∷ [])), whole);
      size = omega (arith, g.size, e, length-append a line);
    }

pub text_whole : (script : List (Thread × Act)) → IsScript script → length (script_text_of script) ≤ 8388608 → IsText (script_text_of script ++ []) script
text_whole script s z = record {
  lawful = s;
  text = inl (append-nil (script_text_of script));
  size = omega (arith, z, ap length (append-nil (script_text_of script)));
}

-- all that was taken is the text of no script
pub none_taken : (left rest : Option (List ℕ)) (before now : ℕ) (input : List ℕ) (error : ScriptError) → Took 8388608 left rest input → IsRefusal input error
    → IsNoScript left rest before now error
none_taken left rest before now input OutOfMemory t h = tt
none_taken left rest before now input ReadFault t h = absurd h
none_taken left rest before now input (Refused fault) t h = record { input = input; took = t; faulty = h.0; none = h.1 }

-- and neither is it with what was taken behind that
pub none_further : (left mid rest : Option (List ℕ)) (before now count : ℕ) (input more : List ℕ) (error : ScriptError) → count ≤ 8388608
    → Consumes left mid input → length input ≡ count → Took (8388608 - count) mid rest more → StopsWithin input error → IsNoScript left rest before now error
none_further left mid rest before now count input more error few c e t h =
    let size : length (input ++ more) ≡ count + length more = omega (arith, length-append input more, e) in
    let small = t.size in
    let took : Took 8388608 left rest (input ++ more) = record {
      taken = Consumes-trans left mid rest input more c t.taken;
      stopped = elim t.stopped [ inl w ↦ inl w | inr w ↦ inr (omega (arith, size, w, few)) ];
      size = omega (arith, size, small, few);
    } in
    none_taken left rest before now (input ++ more) error took (refused_within (input ++ more) error (stops_on input more error h))

-- where one byte more than the limit was taken
pub none_beyond : (left rest : Option (List ℕ)) (before now count : ℕ) (input : List ℕ) (error : ScriptError) → 8388608 < count → count ≤ 8388609
    → Consumes left rest input → length input ≡ count → StopsWithin input error → IsNoScript left rest before now error
none_beyond left rest before now count input error many few c e h =
    none_taken left rest before now input error record { taken = c; stopped = inr (omega (arith, e)); size = omega (arith, e) } (refused_within input error h)
