-- What taking a list of numbers from the front of a line's words promises. Nothing outside of this crate rests on it.
use Rattle.std.specs.Prelude.{◌≡◌, ◌≢◌, ℕ, ◌≤◌, Bool, List, ◌∷◌, ◌++◌, length, Option, Some, None, MatchOption, decimal}
use Rattle.joint_machine.specs.declared.names.Span.{Span}
use Rattle.history_report.specs.Lists.{listed, lettered}
use Rattle.history_report.specs.Report.{cite_words}
use Rattle.entry_reader.specs.Fitting.{Short, ShortSpan, FitsCites}
use Rattle.entry_reader.specs.Meaning.{Spans}
use Rattle.entry_reader.specs.Saying.{IsList}
use Rattle.entry_reader.specs.Taking.{IsThere}

-- what it is, or that nothing was taken
abbrev pub Numbered : ℕ → ℕ → List (List ℕ) → List (List ℕ) → Option ℕ → Type 0
Numbered letter least old new None = new ≡ old
Numbered letter least old new (Some n) = Short n × (least ≤ n) × (old ≡ (letter ∷ decimal n) ∷ new)

-- the next word was taken where it is a number of the letter that isn't below the least; else nothing was
pub record TakesNumber (letter least : ℕ) (old new : List (List ℕ)) (result : Option ℕ) : Type 0 where
  pub sound : Numbered letter least old new result
  pub complete : (n : ℕ) (rest : List (List ℕ)) → Short n → least ≤ n
      → old ≡ (letter ∷ decimal n) ∷ rest → (result ≡ Some n) × (new ≡ rest)

-- numbers of the letter were taken, as many as stand there: whatever numbers with a citation the words are, the
-- citation is left
pub record TakesAll (rising : Bool) (letter : ℕ) (old new : List (List ℕ)) (ns : List ℕ) : Type 0 where
  pub list : IsList rising ns
  pub words : old ≡ lettered letter ns ++ new
  pub only : (ms : List ℕ) (c : Option ℕ) → IsList rising ms
      → old ≡ lettered letter ms ++ cite_words c → new ≡ cite_words c

-- numbers were put behind a list, which are those that stood at the front of the words
pub record Puts {A : Type 0} (of : List ℕ → List A) (rising : Bool)
    (letter : ℕ) (old new : List (List ℕ)) (before after : List A) : Type 0 where
  pub numbers : List ℕ
  pub takes : TakesAll rising letter old new numbers
  pub put : after ≡ before ++ of numbers

-- a list was taken and put behind those before it
pub record Names {A : Type 0} (of : List ℕ → List A) (rising : Bool) (letter : ℕ)
    (old new : List (List ℕ)) (before after : List A) (s : Span) : Type 0 where
  pub numbers : List ℕ
  pub list : IsList rising numbers
  pub words : old ≡ listed letter numbers ++ new
  pub span : Spans (length before) s numbers
  pub short : ShortSpan s
  pub put : after ≡ before ++ of numbers

-- or nothing was
abbrev pub NamesOrNone : {A : Type 0} → (List ℕ → List A) → Bool → ℕ
    → List (List ℕ) → List (List ℕ) → List A → List A → Option Span → Type 0
NamesOrNone of rising letter old new before after None = (new ≡ old) × (after ≡ before)
NamesOrNone of rising letter old new before after (Some s) = Names of rising letter old new before after s

-- a list was taken where one is next, exactly
pub record TakesList {A : Type 0} (of : List ℕ → List A) (rising : Bool) (letter : ℕ)
    (old new : List (List ℕ)) (before after : List A) (found : Option Span) : Type 0 where
  pub sound : NamesOrNone of rising letter old new before after found
  pub complete : (ns : List ℕ) (c : Option ℕ) → IsList rising ns
      → old ≡ listed letter ns ++ cite_words c → IsThere found × (new ≡ cite_words c)

-- a list that is put behind those before it, with what its line cites
pub record EndsWith {A : Type 0} (of : List ℕ → List A) (rising : Bool) (letter : ℕ)
    (old : List (List ℕ)) (before after : List A) (t : Span × Option ℕ) : Type 0 where
  pub cites : FitsCites t.1
  pub names : Names of rising letter old (cite_words t.1) before after t.0

-- the words that are left are read as such a list, exactly
abbrev pub EndsList : {A : Type 0} → (List ℕ → List A) → Bool → ℕ
    → List (List ℕ) → List A → List A → Option (Span × Option ℕ) → Type 0
EndsList of rising letter old before after found = MatchOption found
    ((after ≡ before) × ((ns : List ℕ) (c : Option ℕ) → IsList rising ns → FitsCites c
    → old ≢ listed letter ns ++ cite_words c)) (EndsWith of rising letter old before after)
