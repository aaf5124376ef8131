-- The seven words of a generator's command, in each order and by their places.
use Rattle.std.proofs.Common.{◌≡◌, ◌≢◌, ℕ, zero, suc, ◌≤◌, ◌<◌, ◌^◌, Bool, true, false, List, [], ◌∷◌, length, map, if◌then◌else◌, Some, None, refl, sym, ap, ◌∙◌, subst, arith}
use Rattle.std.specs.Prelude.{Contains, bytes_eq, codes, decimal}
use Rattle.std.specs.Cmp.Lexicographic.{same_text, other_text}
use Rattle.command_words.specs.declared.commands.Mode.{Mode}
use Rattle.command_words.specs.declared.commands.Command.{Command}
use Rattle.command_words.specs.declared.commands.Command.TheVariants as command
use Rattle.command_words.specs.Commands.{in_any_order, mode_text, AreWordsOf}
use Rattle.command_words.specs.Values.{word_at, value_of}

-- the words are `gen` and the three pairs with these values, in one of their orders
abbrev pub Given : List ℕ → List ℕ → List ℕ → List (List ℕ) → Type 0
Given a b c words = Contains (map (λ rest. codes "gen" ∷ rest) (in_any_order (codes "--seed" ∷ a ∷ []) (codes "--size" ∷ b ∷ []) (codes "--mode" ∷ c ∷ []))) words

-- the same by what stands behind each name
pub record Values (words : List (List ℕ)) (a b c : List ℕ) : Type 0 where
  pub seven : length words ≡ 7
  pub gen : word_at words 0 ≡ codes "gen"
  pub seed : value_of words (codes "--seed") ≡ Some a
  pub size : value_of words (codes "--size") ≡ Some b
  pub mode : value_of words (codes "--mode") ≡ Some c

along : (a b c : List ℕ) (made words : List (List ℕ)) → made ≡ words → Values made a b c → Values words a b c
along a b c made words e v = let P : List (List ℕ) → Type 0 = λ w. Values w a b c in subst P e v

pub values : (a b c : List ℕ) (words : List (List ℕ)) → Given a b c words → Values words a b c
values a b c words (zero, l, e) = along a b c _ words e record { seven = refl; gen = refl; seed = refl; size = refl; mode = refl }
values a b c words (suc zero, l, e) = along a b c _ words e record { seven = refl; gen = refl; seed = refl; size = refl; mode = refl }
values a b c words (suc (suc zero), l, e) = along a b c _ words e record { seven = refl; gen = refl; seed = refl; size = refl; mode = refl }
values a b c words (suc (suc (suc zero)), l, e) = along a b c _ words e record { seven = refl; gen = refl; seed = refl; size = refl; mode = refl }
values a b c words (suc (suc (suc (suc zero))), l, e) = along a b c _ words e record { seven = refl; gen = refl; seed = refl; size = refl; mode = refl }
values a b c words (suc (suc (suc (suc (suc zero)))), l, e) = along a b c _ words e record { seven = refl; gen = refl; seed = refl; size = refl; mode = refl }
values a b c words (suc (suc (suc (suc (suc (suc k))))), l, e) = let few : suc (suc (suc (suc (suc (suc k))))) < 6 = l in absurd (omega (arith, few))

-- the name stands in one of the three pairs, with this value behind it
data Found (words : List (List ℕ)) (name value : List ℕ) : Type 0 where
  first : word_at words 1 ≡ name → word_at words 2 ≡ value → Found words name value
  second : word_at words 3 ≡ name → word_at words 4 ≡ value → Found words name value
  third : word_at words 5 ≡ name → word_at words 6 ≡ value → Found words name value

some_same : (x y : List ℕ) → Some x ≡ Some y → x ≡ y
some_same x y e = cc

found_by : (words : List (List ℕ)) (name value : List ℕ) (p q r : Bool) → bytes_eq (word_at words 1) name ≡ p → bytes_eq (word_at words 3) name ≡ q → bytes_eq (word_at words 5) name ≡ r
    → (if p then Some (word_at words 2) else if q then Some (word_at words 4) else if r then Some (word_at words 6) else None) ≡ Some value → Found words name value
found_by words name value true q r e f g h = first (same_text _ _ (sym e)) (some_same _ _ h)
found_by words name value false true r e f g h = second (same_text _ _ (sym f)) (some_same _ _ h)
found_by words name value false false true e f g h = third (same_text _ _ (sym g)) (some_same _ _ h)
found_by words name value false false false e f g h = absurd (cc)

found : (words : List (List ℕ)) (name value : List ℕ) → value_of words name ≡ Some value → Found words name value
found words name value e = found_by words name value (bytes_eq (word_at words 1) name) (bytes_eq (word_at words 3) name) (bytes_eq (word_at words 5) name) refl refl refl e

-- a list of seven words has just these
seven_words : (words : List (List ℕ)) → length words ≡ 7 → word_at words 0 ∷ word_at words 1 ∷ word_at words 2 ∷ word_at words 3 ∷ word_at words 4 ∷ word_at words 5 ∷ word_at words 6 ∷ [] ≡ words
seven_words [] l = absurd (omega arith)
seven_words (a ∷ []) l = absurd (omega arith)
seven_words (a ∷ b ∷ []) l = absurd (omega arith)
seven_words (a ∷ b ∷ c ∷ []) l = absurd (omega arith)
seven_words (a ∷ b ∷ c ∷ d ∷ []) l = absurd (omega arith)
seven_words (a ∷ b ∷ c ∷ d ∷ e ∷ []) l = absurd (omega arith)
seven_words (a ∷ b ∷ c ∷ d ∷ e ∷ f ∷ []) l = absurd (omega arith)
seven_words (a ∷ b ∷ c ∷ d ∷ e ∷ f ∷ g ∷ []) l = refl
seven_words (a ∷ b ∷ c ∷ d ∷ e ∷ f ∷ g ∷ h ∷ more) l = absurd (omega arith)

listed : (words : List (List ℕ)) (s t u v w x y : List ℕ) → length words ≡ 7 → word_at words 0 ≡ s → word_at words 1 ≡ t
    → word_at words 2 ≡ u → word_at words 3 ≡ v → word_at words 4 ≡ w → word_at words 5 ≡ x → word_at words 6 ≡ y
    → s ∷ t ∷ u ∷ v ∷ w ∷ x ∷ y ∷ [] ≡ words
listed words s t u v w x y l e f g h i j k = rw (← e, ← f, ← g, ← h, ← i, ← j, ← k) (seven_words words l)

-- one word has no two names
clash : {A : Type 0} (x a b : List ℕ) → x ≡ a → x ≡ b → bytes_eq a b ≡ false → A
clash x a b e f d = absurd (other_text a b (sym d) (sym e ∙ f))

ordered : (words : List (List ℕ)) (a b c : List ℕ) → length words ≡ 7 → word_at words 0 ≡ codes "gen"
    → Found words (codes "--seed") a → Found words (codes "--size") b → Found words (codes "--mode") c → Given a b c words
ordered words a b c l g (first n v) (first n' v') m = clash _ _ _ n n' refl
ordered words a b c l g (first n v) (second n' v') (first n'' v'') = clash _ _ _ n n'' refl
ordered words a b c l g (first n v) (second n' v') (second n'' v'') = clash _ _ _ n' n'' refl
ordered words a b c l g (first n v) (second n' v') (third n'' v'') = let few : 0 < 6 = omega arith in (0, few, listed words _ _ _ _ _ _ _ l g n v n' v' n'' v'')
ordered words a b c l g (first n v) (third n' v') (first n'' v'') = clash _ _ _ n n'' refl
ordered words a b c l g (first n v) (third n' v') (second n'' v'') = let few : 1 < 6 = omega arith in (1, few, listed words _ _ _ _ _ _ _ l g n v n'' v'' n' v')
ordered words a b c l g (first n v) (third n' v') (third n'' v'') = clash _ _ _ n' n'' refl
ordered words a b c l g (second n v) (second n' v') m = clash _ _ _ n n' refl
ordered words a b c l g (second n v) (first n' v') (first n'' v'') = clash _ _ _ n' n'' refl
ordered words a b c l g (second n v) (first n' v') (second n'' v'') = clash _ _ _ n n'' refl
ordered words a b c l g (second n v) (first n' v') (third n'' v'') = let few : 2 < 6 = omega arith in (2, few, listed words _ _ _ _ _ _ _ l g n' v' n v n'' v'')
ordered words a b c l g (second n v) (third n' v') (first n'' v'') = let few : 4 < 6 = omega arith in (4, few, listed words _ _ _ _ _ _ _ l g n'' v'' n v n' v')
ordered words a b c l g (second n v) (third n' v') (second n'' v'') = clash _ _ _ n n'' refl
ordered words a b c l g (second n v) (third n' v') (third n'' v'') = clash _ _ _ n' n'' refl
ordered words a b c l g (third n v) (third n' v') m = clash _ _ _ n n' refl
ordered words a b c l g (third n v) (first n' v') (first n'' v'') = clash _ _ _ n' n'' refl
ordered words a b c l g (third n v) (first n' v') (second n'' v'') = let few : 3 < 6 = omega arith in (3, few, listed words _ _ _ _ _ _ _ l g n' v' n'' v'' n v)
ordered words a b c l g (third n v) (first n' v') (third n'' v'') = clash _ _ _ n n'' refl
ordered words a b c l g (third n v) (second n' v') (first n'' v'') = let few : 5 < 6 = omega arith in (5, few, listed words _ _ _ _ _ _ _ l g n'' v'' n' v' n v)
ordered words a b c l g (third n v) (second n' v') (second n'' v'') = clash _ _ _ n' n'' refl
ordered words a b c l g (third n v) (second n' v') (third n'' v'') = clash _ _ _ n n'' refl

pub given : (words : List (List ℕ)) (a b c : List ℕ) → Values words a b c → Given a b c words
given words a b c v = ordered words a b c v.seven v.gen (found words (codes "--seed") a v.seed) (found words (codes "--size") b v.size) (found words (codes "--mode") c v.mode)

-- a command of one word
pub one : (text : List ℕ) (words : List (List ℕ)) → Contains ((text ∷ []) ∷ []) words → text ∷ [] ≡ words
one text words (zero, l, e) = e
one text words (suc k, l, e) = let few : suc k < 1 = l in absurd (omega (arith, few))

-- a list of one word has just that word
pub of_one : (words : List (List ℕ)) (w : List ℕ) → length words ≡ 1 → word_at words 0 ≡ w → Contains ((w ∷ []) ∷ []) words
of_one [] w l e = absurd (omega arith)
of_one (v ∷ []) w l e = let few : 0 < 1 = omega arith in (0, few, ap (λ u. u ∷ []) (sym e))
of_one (v ∷ u ∷ words) w l e = absurd (omega arith)

-- of one word, none that is a mode's and none of the others
pub not_one : (words : List (List ℕ)) → length words ≡ 1 → (word_at words 0 ≢ codes "compare") → (word_at words 0 ≢ codes "grefs")
    → (word_at words 0 ≢ codes "leaks") → (word_at words 0 ≢ codes "check") → ((m : Mode) → mode_text m ≢ word_at words 0) → (c : Command) → AreWordsOf words c → ⊥
not_one words l listing log leaks check none (command.Run m) a = none m (ap (λ w. word_at w 0) (one (mode_text m) words a.given))
not_one words l listing log leaks check none command.Compare a = listing (sym (ap (λ w. word_at w 0) (one (codes "compare") words a.given)))
not_one words l listing log leaks check none command.References a = log (sym (ap (λ w. word_at w 0) (one (codes "grefs") words a.given)))
not_one words l listing log leaks check none command.Leaks a = leaks (sym (ap (λ w. word_at w 0) (one (codes "leaks") words a.given)))
not_one words l listing log leaks check none command.Check a = check (sym (ap (λ w. word_at w 0) (one (codes "check") words a.given)))
not_one words l listing log leaks check none (command.Generate seed size m) a = let seven = (values (decimal seed) (decimal size) (mode_text m) words a.given).seven in absurd (omega (arith, seven, l))

-- of seven words, none that are the generator's
pub not_seven : (words : List (List ℕ)) → length words ≡ 7 → ((seed size : ℕ) (m : Mode) → seed < 2 ^ 64 → size ≤ 2800 → Values words (decimal seed) (decimal size) (mode_text m) → ⊥)
    → (c : Command) → AreWordsOf words c → ⊥
not_seven words l none (command.Run m) a = let single = sym (ap length (one (mode_text m) words a.given)) in absurd (omega (arith, single, l))
not_seven words l none command.Compare a = let single = sym (ap length (one (codes "compare") words a.given)) in absurd (omega (arith, single, l))
not_seven words l none command.References a = let single = sym (ap length (one (codes "grefs") words a.given)) in absurd (omega (arith, single, l))
not_seven words l none command.Leaks a = let single = sym (ap length (one (codes "leaks") words a.given)) in absurd (omega (arith, single, l))
not_seven words l none command.Check a = let single = sym (ap length (one (codes "check") words a.given)) in absurd (omega (arith, single, l))
not_seven words l none (command.Generate seed size m) a = none seed size m a.allowed.0 a.allowed.1 (values (decimal seed) (decimal size) (mode_text m) words a.given)
