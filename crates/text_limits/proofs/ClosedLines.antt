-- How many newlines there are in bytes, and where lines end before a limit.
use Rattle.std.proofs.Common.{◌≡◌, ◌≢◌, ℕ, ◌+◌, ◌<◌, ◌≤◌, inl, inr, Bool, false, List, [], ◌∷◌, ◌++◌, length, refl, sym, ap, subst, ◌∙◌, arith, cond, length-append}
use Rattle.std.specs.Prelude.{All, count_by, drop, take, nat_eq}
use Rattle.std.proofs.lemmas.List.{length-take-le, take-append-drop, take-take}
use Rattle.std.proofs.lemmas.List.Elements.{All-head, All-tail}
use Rattle.std.proofs.lemmas.List.Sums.{sum_by-append, sum_by-cons}
use Rattle.std.proofs.lemmas.Bool.Decides.{nat_tests}
use Rattle.text_limits.specs.Limits.{AreClosed, IsFrontOf}

abbrev pub lines_in : List ℕ → ℕ
lines_in xs = count_by (λ b. nat_eq b 10) xs

abbrev weigh : ℕ → ℕ
weigh b = cond (nat_eq b 10) 1 0

pub appended : (xs ys : List ℕ) → lines_in (xs ++ ys) ≡ lines_in xs + lines_in ys
appended xs ys = sum_by-append weigh xs ys

put-first : (b : ℕ) (xs : List ℕ) → lines_in (b ∷ xs) ≡ weigh b + lines_in xs
put-first b xs = sum_by-cons weigh b xs

none : (xs : List ℕ) → All (λ b. b ≢ 10) xs → lines_in xs ≡ 0
none [] a = refl
none (b ∷ xs) a =
    let h = All-head (λ b. b ≢ 10) b xs a in
    let other : nat_eq b 10 ≡ false = grind (arith, nat_tests, h) in
    let w : weigh b ≡ 0 = ap {B = ℕ} (λ (z : Bool). cond z 1 0) other in
    omega (arith, put-first b xs, w, none xs (All-tail (λ b. b ≢ 10) b xs a))

-- a line with its newline
pub closed-one : (text rest : List ℕ) → All (λ b. b ≢ 10) text → lines_in (text ++ (10 ∷ rest)) ≡ 1 + lines_in rest
closed-one text rest a = omega (arith, appended text (10 ∷ rest), none text a, put-first 10 rest)

-- what stands last in bytes that end with a newline ends with it
last-closed : (text front behind : List ℕ) → text ++ 10 ∷ [] ≡ front ++ behind → behind ≢ [] → 1 ≤ lines_in behind
last-closed text [] behind e n = (let c = ap lines_in e in let d = appended text (10 ∷ []) in omega (arith, c, d))
last-closed [] (b ∷ front) [] e n = absurd (n refl)
last-closed [] (b ∷ front) (c ∷ behind) e n = (let l = ap length e in let m = length-append front (c ∷ behind) in absurd (omega (arith, l, m)))
last-closed (t ∷ text) (b ∷ front) behind e n = last-closed text front behind (let f : text ++ 10 ∷ [] ≡ front ++ behind = cc in f) n

pub closed-behind : (bytes front behind : List ℕ) → AreClosed bytes → bytes ≡ front ++ behind → behind ≢ [] → 1 ≤ lines_in behind
closed-behind bytes front behind (inr (text, c)) e n = last-closed text front behind (sym c ∙ e) n
closed-behind bytes front [] (inl c) e n = absurd (n refl)
closed-behind bytes front (b ∷ behind) (inl c) e n = (let l = ap length (sym c ∙ e) in let m = length-append front (b ∷ behind) in absurd (omega (arith, l, m)))

-- the lines before the limit, by where they end
pub front-of : (bytes : List ℕ) (most at : ℕ) → most < length bytes → at ≤ length (take most bytes)
    → AreClosed (take at (take most bytes)) → All (λ b. b ≢ 10) (drop at (take most bytes)) → IsFrontOf most bytes (take at bytes)
front-of bytes most at m f c a =
    let low : at ≤ most = (let n = length-take-le most bytes (omega (arith, m)) in omega (arith, n, f)) in
    let same : take at (take most bytes) ≡ take at bytes = take-take at most bytes low in
    let size : length (take at bytes) ≡ at = length-take-le at bytes (omega (arith, low, m)) in
    record {
      rest = drop at bytes;
      whole = sym (take-append-drop at bytes);
      closed = subst AreClosed same c;
      fits = omega (arith, size, low);
      line = subst (λ n. All (λ b. b ≢ 10) (drop n (take most bytes))) (sym size) a;
    }
