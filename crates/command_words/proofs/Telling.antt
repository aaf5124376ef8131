-- Words give at most one command.
use Rattle.std.proofs.Common.{◌≡◌, ℕ, ◌<◌, ◌^◌, List, [], ◌∷◌, length, Option, Some, if◌then◌else◌, refl, sym, ap, ◌∙◌, arith, codes, decimal}
use Rattle.std.specs.Prelude.{Contains, bytes_eq}
use Rattle.std.specs.Cmp.Lexicographic.{other_text}
use Rattle.std.proofs.lemmas.Fmt.{decimal_injective}
use Rattle.command_words.specs.declared.commands.Mode.{Mode}
use Rattle.command_words.specs.declared.commands.Mode.TheVariants as mode
use Rattle.command_words.specs.declared.commands.Command.{Command}
use Rattle.command_words.specs.declared.commands.Command.TheVariants as command
use Rattle.command_words.specs.Commands.{mode_text, AreWordsOf}
use Rattle.command_words.specs.Values.{word_at}
use Rattle.command_words.proofs.Orders.{values, one}

same : (x y : List ℕ) (o : Option (List ℕ)) → o ≡ Some x → o ≡ Some y → x ≡ y
same x y o e f = cc

modes_differ : codes "serial" ≡ codes "threads" → ⊥
modes_differ e = other_text (codes "serial") (codes "threads") refl e

same_mode : (m n : Mode) → mode_text m ≡ mode_text n → m ≡ n
same_mode mode.Serial mode.Serial e = refl
same_mode mode.Serial mode.Threads e = absurd (modes_differ e)
same_mode mode.Threads mode.Serial e = absurd (modes_differ (sym e))
same_mode mode.Threads mode.Threads e = refl

-- the commands of one word, each with its word, and how each is told from the others
data OneWord : Command → List ℕ → Type 0 where
  run : (m : Mode) → OneWord (command.Run m) (mode_text m)
  compare : OneWord command.Compare (codes "compare")
  references : OneWord command.References (codes "grefs")
  leaks : OneWord command.Leaks (codes "leaks")
  check : OneWord command.Check (codes "check")

abbrev told : List ℕ → Option Command
told w = if bytes_eq w (codes "serial") then Some (command.Run mode.Serial) else if bytes_eq w
    (codes "threads") then Some (command.Run mode.Threads) else if bytes_eq w (codes "compare") then Some command.Compare
    else if bytes_eq w (codes "grefs") then Some command.References else if bytes_eq w (codes "leaks") then Some command.Leaks else Some command.Check

tells : (c : Command) (w : List ℕ) → OneWord c w → told w ≡ Some c
tells _ _ (run mode.Serial) = refl
tells _ _ (run mode.Threads) = refl
tells _ _ compare = refl
tells _ _ references = refl
tells _ _ leaks = refl
tells _ _ check = refl

first_word : (a b : List ℕ) (words : List (List ℕ)) → a ∷ [] ≡ words → b ∷ [] ≡ words → a ≡ b
first_word a b words e f = ap (λ w. word_at w 0) (e ∙ sym f)

generates : (s s' z z' : ℕ) (m m' : Mode) → s ≡ s' → z ≡ z' → m ≡ m' → command.Generate s z m ≡ command.Generate s' z' m'
generates s s' z z' m m' e f g = cc

apart : {A : Type 0} (words : List (List ℕ)) (text : List ℕ) → text ∷ [] ≡ words → length words ≡ 7 → A
apart words text e l = let short : 1 ≡ length words = ap length e in absurd (omega (arith, short, l))

one-word : (words : List (List ℕ)) (c d : Command) (v w : List ℕ) → OneWord c v → OneWord d w → Contains ((v ∷ []) ∷ []) words → Contains ((w ∷ []) ∷ []) words → c ≡ d
one-word words c d v w x y a b = some-is c d (sym (tells c v x) ∙ (ap told (first_word v w words (one v words a) (one w words b)) ∙ tells d w y))
  where
    some-is : (c d : Command) → Some c ≡ Some d → c ≡ d
    some-is c d e = cc

pub tell : (words : List (List ℕ)) (c d : Command) → AreWordsOf words c → AreWordsOf words d → c ≡ d
tell words (command.Run m) (command.Run n) a b = one-word words _ _ _ _ (run m) (run n) a.given b.given
tell words (command.Run m) command.Compare a b = one-word words _ _ _ _ (run m) compare a.given b.given
tell words (command.Run m) command.References a b = one-word words _ _ _ _ (run m) references a.given b.given
tell words (command.Run m) command.Leaks a b = one-word words _ _ _ _ (run m) leaks a.given b.given
tell words (command.Run m) command.Check a b = one-word words _ _ _ _ (run m) check a.given b.given
tell words (command.Run m) (command.Generate s z n) a b = apart words (mode_text m) (one (mode_text m) words a.given) (values (decimal s) (decimal z) (mode_text n) words b.given).seven
tell words command.Compare (command.Run n) a b = one-word words _ _ _ _ compare (run n) a.given b.given
tell words command.Compare command.Compare a b = one-word words _ _ _ _ compare compare a.given b.given
tell words command.Compare command.References a b = one-word words _ _ _ _ compare references a.given b.given
tell words command.Compare command.Leaks a b = one-word words _ _ _ _ compare leaks a.given b.given
tell words command.Compare command.Check a b = one-word words _ _ _ _ compare check a.given b.given
tell words command.Compare (command.Generate s z n) a b = apart words (codes "compare") (one (codes "compare") words a.given) (values (decimal s) (decimal z) (mode_text n) words b.given).seven
tell words command.References (command.Run n) a b = one-word words _ _ _ _ references (run n) a.given b.given
tell words command.References command.Compare a b = one-word words _ _ _ _ references compare a.given b.given
tell words command.References command.References a b = one-word words _ _ _ _ references references a.given b.given
tell words command.References command.Leaks a b = one-word words _ _ _ _ references leaks a.given b.given
tell words command.References command.Check a b = one-word words _ _ _ _ references check a.given b.given
tell words command.References (command.Generate s z n) a b = apart words (codes "grefs") (one (codes "grefs") words a.given) (values (decimal s) (decimal z) (mode_text n) words b.given).seven
tell words command.Leaks (command.Run n) a b = one-word words _ _ _ _ leaks (run n) a.given b.given
tell words command.Leaks command.Compare a b = one-word words _ _ _ _ leaks compare a.given b.given
tell words command.Leaks command.References a b = one-word words _ _ _ _ leaks references a.given b.given
tell words command.Leaks command.Leaks a b = one-word words _ _ _ _ leaks leaks a.given b.given
tell words command.Leaks command.Check a b = one-word words _ _ _ _ leaks check a.given b.given
tell words command.Leaks (command.Generate s z n) a b = apart words (codes "leaks") (one (codes "leaks") words a.given) (values (decimal s) (decimal z) (mode_text n) words b.given).seven
tell words command.Check (command.Run n) a b = one-word words _ _ _ _ check (run n) a.given b.given
tell words command.Check command.Compare a b = one-word words _ _ _ _ check compare a.given b.given
tell words command.Check command.References a b = one-word words _ _ _ _ check references a.given b.given
tell words command.Check command.Leaks a b = one-word words _ _ _ _ check leaks a.given b.given
tell words command.Check command.Check a b = one-word words _ _ _ _ check check a.given b.given
tell words command.Check (command.Generate s z n) a b = apart words (codes "check") (one (codes "check") words a.given) (values (decimal s) (decimal z) (mode_text n) words b.given).seven
tell words (command.Generate s z m) (command.Run n) a b = apart words (mode_text n) (one (mode_text n) words b.given) (values (decimal s) (decimal z) (mode_text m) words a.given).seven
tell words (command.Generate s z m) command.Compare a b = apart words (codes "compare") (one (codes "compare") words b.given) (values (decimal s) (decimal z) (mode_text m) words a.given).seven
tell words (command.Generate s z m) command.References a b = apart words (codes "grefs") (one (codes "grefs") words b.given) (values (decimal s) (decimal z) (mode_text m) words a.given).seven
tell words (command.Generate s z m) command.Leaks a b = apart words (codes "leaks") (one (codes "leaks") words b.given) (values (decimal s) (decimal z) (mode_text m) words a.given).seven
tell words (command.Generate s z m) command.Check a b = apart words (codes "check") (one (codes "check") words b.given) (values (decimal s) (decimal z) (mode_text m) words a.given).seven
tell words (command.Generate s z m) (command.Generate s' z' m') a b =
    let v = values (decimal s) (decimal z) (mode_text m) words a.given in
    let w = values (decimal s') (decimal z') (mode_text m') words b.given in
    let small : z < 2 ^ 64 = let l = a.allowed.1 in omega (arith, l) in
    let small' : z' < 2 ^ 64 = let l = b.allowed.1 in omega (arith, l) in
    generates s s' z z' m m'
    (decimal_injective s s' a.allowed.0 b.allowed.0 (same _ _ _ v.seed w.seed))
    (decimal_injective z z' small small' (same _ _ _ v.size w.size))
    (same_mode m m' (same _ _ _ v.mode w.mode))
