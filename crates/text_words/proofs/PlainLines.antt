-- Lines of plain words: such a line is cut into its words again, and has no newline in it.
use Rattle.std.proofs.Common.{◌≡◌, ◌≢◌, ℕ, ◌<◌, List, [], ◌∷◌, length, arith, All}
use Rattle.std.specs.List.{slice_split, join_with_byte}
use Rattle.std.proofs.Math.Dec.{eqb}
use Rattle.std.proofs.lemmas.List.Elements.{All-append, All-cons, All-from_recursion, All-nil}
use Rattle.text_words.proofs.Cuts.{split-join}
use Rattle.text_words.proofs.PlainWords.{AllPlain, no-byte}

all-lack : (ws : List (List ℕ)) → AllPlain ws → All (All (λ b. b ≢ 32)) ws
all-lack [] h = All-nil (All (λ b. b ≢ 32))
all-lack (w ∷ ws) h = All-cons (All (λ b. b ≢ 32)) w ws (All-from_recursion (λ b. b ≢ 32) w (no-byte 32 (omega arith) w h.0)) (all-lack ws h.1)

-- a line of words is cut into them
pub words-cut : (ws : List (List ℕ)) → 0 < length ws → AllPlain ws → slice_split (λ b. eqb b 32) (join_with_byte 32 ws) ≡ ws
words-cut ws l h = split-join 32 ws l (all-lack ws h)

-- it has no newline
pub words-whole : (ws : List (List ℕ)) → AllPlain ws → All (λ b. b ≢ 10) (join_with_byte 32 ws)
words-whole [] h = All-nil (λ b. b ≢ 10)
words-whole (w ∷ []) h = All-from_recursion (λ b. b ≢ 10) w (no-byte 10 (omega arith) w h.0)
words-whole (w ∷ v ∷ ws) h =
    let front = All-from_recursion (λ b. b ≢ 10) w (no-byte 10 (omega arith) w h.0) in
    let rest = words-whole (v ∷ ws) h.1 in
    All-append (λ b. b ≢ 10) w (32 ∷ join_with_byte 32 (v ∷ ws)) front (All-cons (λ b. b ≢ 10) 32 (join_with_byte 32 (v ∷ ws)) (λ e. omega (arith, e)) rest)
