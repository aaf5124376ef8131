-- The text of a reference log.
-- Believed: the clauses of the program's top call rest on all that stands here.
use Rattle.std.specs.Prelude.{◌≡◌, ℕ, List, [], ◌∷◌, ◌++◌, length, codes, decimal}
use Rattle.text_words.specs.Words.{spaced}
use Rattle.log_text.specs.declared.lines.Mark.{Mark}
use Rattle.log_text.specs.declared.lines.Mark.TheVariants.{GPlus, GMinus, WPlus, WMinus}
use Rattle.log_text.specs.declared.lines.LogLine.{LogLine}
use Rattle.log_text.specs.Behind.{IsLog}

-- a mark
abbrev pub mark_text : Mark → List ℕ
mark_text GPlus = codes "+g+"
mark_text GMinus = codes "-g-"
mark_text WPlus = codes "+w+"
mark_text WMinus = codes "-w-"

-- the words behind a line's mark: the handle, the peer, both counts and the entry
abbrev pub number_words : LogLine → List (List ℕ)
number_words l = (codes "h" ++ decimal l.h.0) ∷ (codes "p" ++ decimal l.p.0) ∷ codes
    "grefc" ∷ decimal l.grefc ∷ codes "gwrefc" ∷ decimal l.gwrefc ∷ (codes "@" ++ decimal l.entry) ∷ []

-- a line, without its newline: MARK h p grefc N gwrefc N @ENTRY
abbrev pub line_words : LogLine → List (List ℕ)
line_words l = mark_text l.mark ∷ number_words l

abbrev pub line_text : LogLine → List ℕ
line_text l = spaced (line_words l)

-- the last line: end N
abbrev pub end_words : ℕ → List (List ℕ)
end_words n = codes "end" ∷ decimal n ∷ []

abbrev pub end_text : ℕ → List ℕ
end_text n = spaced (end_words n)

abbrev pub lines_text : List LogLine → List ℕ
lines_text [] = []
lines_text (l ∷ ls) = line_text l ++ (10 ∷ lines_text ls)

-- the text of a log: its lines, and the number of them
abbrev pub log_text : List LogLine → List ℕ
log_text ls = lines_text ls ++ (end_text (length ls) ++ 10 ∷ [])

-- the bytes are the text of a log
pub record IsLogText (bytes : List ℕ) (ls : List LogLine) : Type 0 where
  pub text : bytes ≡ log_text ls
  pub lawful : IsLog ls
