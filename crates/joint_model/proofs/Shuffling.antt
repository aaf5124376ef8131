-- The lists of a history's lines 0 to 9, one for each side and each reader, are a shuffle of it: each entry by a thread
-- of the script stands in exactly one of these lines, by its event. And lists are a shuffle of one whole.
use Rattle.std.proofs.Common.{◌≡◌, ◌⊎◌, inl, inr, ℕ, zero, suc, ◌+◌, ◌<◌, ◌≤◌, Bool, true, false, ◌||◌, List, [], ◌∷◌, length, map, sum_by, slice_index_or, refl, sym, ap, ◌∙◌, subst, arith}
use Rattle.std.specs.Prelude.{◌==◌, if◌then◌else◌, All, Contains}
use Rattle.std.proofs.lemmas.Bool.{cases_eq, eq-eqb, ne_eqb}
use Rattle.std.proofs.lemmas.List.Elements.{All-nil, All-cons}
use Rattle.std.proofs.lemmas.List.Sums.{sum_by-cons}
use Rattle.joint_machine.specs.declared.names.Thread.{Thread}
use Rattle.joint_machine.specs.declared.names.Thread.TheVariants.{M, P, C}
use Rattle.joint_machine.specs.declared.events.Entry.{Entry}
use Rattle.joint_machine.specs.Components.{Rises}
use Rattle.joint_machine.specs.Histories.{NumberedFrom}
use Rattle.joint_machine.specs.Shuffles.{IsPlaced, IsShuffle}
use Rattle.joint_machine.specs.HistoryLines.{caller_line, side_line, stands_in, entries_in, reader_line}
use Rattle.joint_machine.specs.Lines.{IsThread, is_peer_event, is_read}
use Rattle.joint_machine.proofs.Joining.{placed_all}
use Rattle.joint_machine.proofs.Members.{All-members, Contains-here, Contains-there, Contains-cons_cases, Contains-map_cases}
use Rattle.joint_model.proofs.Merging.{NumberedFrom-high, merged_all-whole}

-- what stands in a line of the whole is an entry of it, and the other way round
line_from : (i : ℕ) (whole : List Entry) (e : Entry) → Contains (entries_in i whole) e → Contains whole e
line_from i [] e c = c
line_from i (x ∷ xs) e c = by (line_from i xs e) (stands_in i x) c
  where
    by : (Contains (entries_in i xs) e → Contains xs e) → (b : Bool) → Contains (if b then x ∷ entries_in i xs else entries_in i xs) e → Contains (x ∷ xs) e
    by rest true d = elim (Contains-cons_cases x (entries_in i xs) e d) [
      | inl q ↦ subst (Contains (x ∷ xs)) q (Contains-here x xs)
      | inr q ↦ Contains-there e x xs (rest q)
    ]
    by rest false d = Contains-there e x xs (rest d)

line_to : (i : ℕ) (whole : List Entry) (e : Entry) → Contains whole e → stands_in i e ≡ true → Contains (entries_in i whole) e
line_to i [] e c s = c
line_to i (x ∷ xs) e c s = elim (Contains-cons_cases x xs e c) [
  | inl q ↦ subst (λ b. Contains (if b then x ∷ entries_in i xs else entries_in i xs) e) (sym (ap (stands_in i) q ∙ s)) (subst (Contains (x ∷ entries_in i xs)) q (Contains-here x (entries_in i xs)))
  | inr q ↦ by (stands_in i x) (line_to i xs e q s)
]
  where
    by : (b : Bool) → Contains (entries_in i xs) e → Contains (if b then x ∷ entries_in i xs else entries_in i xs) e
    by true d = Contains-there e x (entries_in i xs) d
    by false d = d

-- the numbers of a line rise
line-rises : (i n : ℕ) (whole : List Entry) → NumberedFrom n whole → Rises (map (λ (e : Entry). e.number) (entries_in i whole))
line-rises i n [] r = tt
line-rises i n (x ∷ xs) r = by (stands_in i x) (line-rises i (n + 1) xs r.1)
  where
    later : (k : ℕ) → Contains (map (λ (e : Entry). e.number) (entries_in i xs)) k → x.number < k
    later k c =
        let w = Contains-map_cases (λ (e : Entry). e.number) (entries_in i xs) k c in
        let high : n + 1 ≤ w.0.number = NumberedFrom-high (n + 1) xs r.1 w.0 (line_from i xs w.0 w.1) in
        omega (arith, high, w.2, r.0)

    by : (b : Bool) → Rises (map (λ (e : Entry). e.number) (entries_in i xs)) → Rises (map (λ (e : Entry). e.number) (if b then x ∷ entries_in i xs else entries_in i xs))
    by true rest = (All-members (λ k. x.number < k) (map (λ (e : Entry). e.number) (entries_in i xs)) later, rest)
    by false rest = rest

-- of the lines 0 to 9 an entry stands in the one of its event, where it is made by a thread of the script
in_side_line : (i : ℕ) (e : Entry) → i < 10 → stands_in i e ≡ (i == side_line e)
in_side_line i e l = ap (λ b. (i == side_line e) || b) (ne_eqb i (caller_line e.made.caller) (λ q. omega (arith, q))) ∙ or_false (i == side_line e)
  where
    or_false : (b : Bool) → (b || false) ≡ b
    or_false true = refl
    or_false false = refl

side_line_is_one : (e : Entry) → IsThread e.made.caller → side_line e < 10
side_line_is_one e t = by (is_peer_event e.made.caller e.made.op) (is_read e.made.op)
  where
    of_reader : (t : Thread) → IsThread t → reader_line t < 10
    of_reader (M n) w = let h : n ≤ 8 = w.1 in omega arith
    of_reader (P n) w = omega arith
    of_reader C w = omega arith

    by : (peer read : Bool) → (if peer then 1 else if read then reader_line e.made.caller else 0) < 10
    by true read = omega arith
    by false true = of_reader e.made.caller t
    by false false = omega arith

-- so many lines of a whole from one on
abbrev pub lines_from : ℕ → ℕ → List Entry → List (List Entry)
lines_from i zero whole = []
lines_from i (suc n) whole = entries_in i whole ∷ lines_from (i + 1) n whole

lines-by_place : (i n : ℕ) (whole : List Entry) (lists : List (List Entry)) → length lists ≡ n → ((k : ℕ) → k < n → slice_index_or lists k [] ≡ entries_in (i + k) whole)
    → lists ≡ lines_from i n whole
lines-by_place i zero whole [] l s = refl
lines-by_place i (suc n) whole [] l s = absurd (omega arith)
lines-by_place i zero whole (x ∷ xs) l s = absurd (omega arith)
lines-by_place i (suc n) whole (x ∷ xs) l s =
    let first : x ≡ entries_in i whole = s 0 (omega arith) ∙ ap (λ k. entries_in k whole) (omega arith) in
    let rest = lines-by_place (i + 1) n whole xs (omega arith) (λ k h. s (suc k) (omega arith) ∙ ap (λ j. entries_in j whole) (omega arith)) in
    cc

-- what holds of each line holds of all
All-lines : (Q : List Entry → Type 0) (i n : ℕ) (whole : List Entry) → ((k : ℕ) → Q (entries_in k whole)) → All Q (lines_from i n whole)
All-lines Q i zero whole h = All-nil Q
All-lines Q i (suc n) whole h = All-cons Q (entries_in i whole) (lines_from (i + 1) n whole) (h i) (All-lines Q (i + 1) n whole h)

has-line : (i n k : ℕ) (whole : List Entry) → i ≤ k → k < i + n → Contains (lines_from i n whole) (entries_in k whole)
has-line i zero k whole low high = absurd (omega arith)
has-line i (suc n) k whole low high = elim (cases_eq i k) [
  | inl e ↦ subst (λ j. Contains (lines_from i (suc n) whole) (entries_in j whole)) e (Contains-here (entries_in i whole) (lines_from (i + 1) n whole))
  | inr d ↦ Contains-there (entries_in k whole) (entries_in i whole) (lines_from (i + 1) n whole) (has-line (i + 1) n k whole (omega (arith, d)) (omega arith))
]

-- an entry more is one more in its line, and in no other one
length-more : (i : ℕ) (x : Entry) (xs : List Entry) (b : Bool) → stands_in i x ≡ b → length (entries_in i (x ∷ xs)) ≡ length (entries_in i xs) + (if b then 1 else 0)
length-more i x xs true s = ap (λ b. length (if b then x ∷ entries_in i xs else entries_in i xs)) s ∙ omega arith
length-more i x xs false s = ap (λ b. length (if b then x ∷ entries_in i xs else entries_in i xs)) s ∙ omega arith

size-same : (i n : ℕ) (x : Entry) (xs : List Entry) → i + n ≤ 10 → (side_line x < i) ⊎ (i + n ≤ side_line x) → sum_by length (lines_from i n (x ∷ xs)) ≡ sum_by length (lines_from i n xs)
size-same i zero x xs l o = refl
size-same i (suc n) x xs l o =
    let other = ne_eqb i (side_line x) (λ q. elim o [ inl a ↦ omega (arith, a, q) | inr b ↦ omega (arith, b, q) ]) in
    let here = length-more i x xs false (in_side_line i x (omega arith) ∙ other) in
    let rest = size-same (i + 1) n x xs (omega arith) (elim o [ inl a ↦ inl (omega arith) | inr b ↦ inr (omega arith) ]) in
    omega (arith, here, rest, sum_by-cons length (entries_in i (x ∷ xs)) (lines_from (i + 1) n (x ∷ xs)), sum_by-cons length (entries_in i xs) (lines_from (i + 1) n xs))

size-more : (i n : ℕ) (x : Entry) (xs : List Entry) → i + n ≤ 10 → i ≤ side_line x → side_line x < i + n → sum_by length (lines_from i n (x ∷ xs)) ≡ sum_by length (lines_from i n xs) + 1
size-more i zero x xs l low high = absurd (omega arith)
size-more i (suc n) x xs l low high =
    let all = sum_by-cons length (entries_in i (x ∷ xs)) (lines_from (i + 1) n (x ∷ xs)) in
    let before = sum_by-cons length (entries_in i xs) (lines_from (i + 1) n xs) in
    elim (cases_eq i (side_line x)) [
      | inl e ↦ let here = length-more i x xs true (in_side_line i x (omega arith) ∙ eq-eqb i (side_line x) e) in
          let rest = size-same (i + 1) n x xs (omega arith) (inl (omega arith)) in
          omega (arith, here, rest, all, before)
      | inr d ↦ let here = length-more i x xs false (in_side_line i x (omega arith) ∙ ne_eqb i (side_line x) d) in
          let rest = size-more (i + 1) n x xs (omega arith) (omega (arith, d)) (omega arith) in
          omega (arith, here, rest, all, before)
    ]

-- so the lines have as many entries as the whole
lines-size : (whole : List Entry) → ((e : Entry) → Contains whole e → side_line e < 10) → length whole ≡ sum_by length (lines_from 0 10 whole)
lines-size [] s = refl
lines-size (x ∷ xs) s =
    let rest = lines-size xs (λ e c. s e (Contains-there e x xs c)) in
    let more = size-more 0 10 x xs (omega arith) (omega arith) (s x (Contains-here x xs)) in
    omega (arith, rest, more)

-- the lines 0 to 9 are a shuffle of the whole
pub lines_are_shuffle : (whole : List Entry) → NumberedFrom 0 whole → ((e : Entry) → Contains whole e → IsThread e.made.caller) → IsShuffle (lines_from 0 10 whole) whole
lines_are_shuffle whole numbers threads = record {
  numbers = numbers;
  rise = All-lines (λ list. Rises (map (λ (e : Entry). e.number) list)) 0 10 whole (λ i. line-rises i 0 whole numbers);
  placed = All-lines (λ list. All (IsPlaced whole) list) 0 10 whole (λ i. All-members (IsPlaced whole) (entries_in i whole) (λ e c. placed_all whole numbers e (line_from i whole e c)));
  covered = All-members (λ e. (list : List Entry) × Contains (lines_from 0 10 whole) list × Contains list e) whole (λ e c. let few = side_line_is_one e (threads e c) in (
    entries_in (side_line e) whole,
    has-line 0 10 (side_line e) whole (omega arith) few,
    line_to (side_line e) whole e c (in_side_line (side_line e) e few ∙ eq-eqb (side_line e) (side_line e) refl),
  ));
  count = lines-size whole (λ e c. side_line_is_one e (threads e c));
}

-- and so are ten lists that are these lines, each at its place
pub lines_shuffle : (lists : List (List Entry)) (whole : List Entry) → NumberedFrom 0 whole → ((e : Entry) → Contains whole e → IsThread e.made.caller)
    → length lists ≡ 10 → ((i : ℕ) → i < 10 → slice_index_or lists i [] ≡ entries_in i whole) → IsShuffle lists whole
lines_shuffle lists whole numbers threads ten each =
    subst (λ ls. IsShuffle ls whole) (sym (lines-by_place 0 10 whole lists ten (λ k h. each k h ∙ ap (λ j. entries_in j whole) (omega arith)))) (lines_are_shuffle whole numbers threads)

-- a shuffle has one whole
pub shuffle_is_one : (lists : List (List Entry)) (a b : List Entry) → IsShuffle lists a → IsShuffle lists b → a ≡ b
shuffle_is_one lists a b s t = sym (merged_all-whole lists a s) ∙ merged_all-whole lists b t
