-- From a number to the next the last digit goes up by one, where it isn't 9. Where it is, it becomes 0, and the number
-- that stands before it goes on by one.
use Rattle.std.proofs.Common.{◌≡◌, ℕ, ◌+◌, ◌/◌, ◌%◌, ◌^◌, ◌<◌, ◌≤◌, List, [], ◌∷◌, ◌++◌, length, take, drop, set, get_or, decimal, refl, sym, ap, ◌∙◌, arith, append_assoc, inl, inr}
use Rattle.std.proofs.lemmas.Bool.{cases_lt}
use Rattle.std.proofs.lemmas.Fmt.{decimal_digit, decimal_step}
use Rattle.std.proofs.lemmas.List.{same_from_push, take-append-drop, take_more, take-set, drop-set, length-take-le}
use Rattle.byte_streams.specs.Counts.{CountsUp}

-- a number's last digit, what stands before it, and the number after it
record Ends (m : ℕ) : Type 0 where
  pub front : List ℕ
  pub is : decimal m ≡ front ++ (48 + m % 10) ∷ []
  pub next : m % 10 < 9 → decimal (m + 1) ≡ front ++ (48 + m % 10 + 1) ∷ []
  pub tens : 0 < length front → (10 ≤ m) × (front ≡ decimal (m / 10))

ends : (m : ℕ) → m + 1 < 2 ^ 64 → Ends m
ends m l = elim (cases_lt m 10) [
  | inl s ↦ (let same : m % 10 ≡ m = omega arith in record {
    front = [];
    is = rw same (decimal_digit m s);
    next = λ h. (let d : 48 + (m + 1) ≡ 48 + m + 1 = omega arith in rw same (decimal_digit (m + 1) (omega (arith, h, same)) ∙ ap (λ b. b ∷ []) d));
    tens = λ h. absurd (omega (arith, h));
  })
  | inr g ↦ record {
    front = decimal (m / 10);
    is = decimal_step m g (omega arith);
    next = λ h. (let t : (m + 1) / 10 ≡ m / 10 = omega (arith, h) in let o : 48 + (m + 1) % 10 ≡ 48 + m % 10 + 1 = omega (arith, h) in decimal_step (m + 1) (omega arith) l ∙ rw (t, o) refl);
    tens = λ h. (g, refl);
  }
]

carried : (m : ℕ) → 10 ≤ m → m + 1 < 2 ^ 64 → m % 10 ≡ 9 → decimal (m + 1) ≡ decimal (m / 10 + 1) ++ 48 ∷ []
carried m g l h = let t : (m + 1) / 10 ≡ m / 10 + 1 = omega (arith, h) in let o : (m + 1) % 10 ≡ 0 = omega (arith, h) in decimal_step (m + 1) (omega arith) l ∙ rw (t, o) refl

-- the digits from place i on are done: those before it are of a number, after which the number that comes next goes on
-- with those that are done
pub record Carry (n : ℕ) (digits : List ℕ) (i : ℕ) : Type 0 where
  pub m : ℕ
  pub small : m ≤ n
  pub front : take i digits ≡ decimal m
  pub whole : decimal (n + 1) ≡ decimal (m + 1) ++ drop i digits

-- the same of each number that the digits may be of
abbrev pub Carries : List ℕ → List ℕ → ℕ → Type 0
Carries old digits i = (n : ℕ) → n + 1 < 2 ^ 64 → old ≡ decimal n → 0 < i → Carry n digits i

-- the last digit before place j + 1 stands at place j
last_is : (n : ℕ) (digits : List ℕ) (j : ℕ) (c : Carry n digits (j + 1)) (e : Ends c.m) → j < length digits → (take j digits ≡ e.front) × (get_or digits j 0 ≡ 48 + c.m % 10)
last_is n digits j c e l = same_from_push (take j digits) e.front (get_or digits j 0) (48 + c.m % 10) (sym (take_more digits j 0 l) ∙ (c.front ∙ e.is))

-- a digit that isn't 9 goes up, and the text is the next number's
pub carry_ends : (old digits : List ℕ) (i j : ℕ) → i ≡ j + 1 → Carries old digits i → j < length digits → get_or digits j 0 < 57 → CountsUp old (set digits j (get_or digits j 0 + 1))
carry_ends old digits i j k h l b n s e =
    let c = rw k at (h n s e (omega (arith, k))) in
    let x = ends c.m (omega (arith, c.small)) in
    let last = last_is n digits j c x l in
    let d : List ℕ = drop (j + 1) digits in
    let up : 48 + c.m % 10 + 1 ≡ get_or digits j 0 + 1 = omega (arith, last.1) in
    rw (take-set digits j (get_or digits j 0 + 1), drop-set digits j (get_or digits j 0 + 1) l) at (sym (take-append-drop j (set digits j (get_or digits j 0 + 1))))
    ∙ (rw (last.0, ← up) (sym (append_assoc x.front ((48 + c.m % 10 + 1) ∷ []) d)) ∙ sym (c.whole ∙ ap (λ t. t ++ d) (x.next (omega (arith, b, last.1)))))

-- a digit that is 9 becomes 0, and the digits before it go on
pub carry_on : (old digits : List ℕ) (i j : ℕ) → i ≡ j + 1 → Carries old digits i → j < length digits → 57 ≤ get_or digits j 0 → Carries old (set digits j 48) j
carry_on old digits i j k h l b n s e p =
    let c = rw k at (h n s e (omega (arith, k))) in
    let x = ends c.m (omega (arith, c.small)) in
    let last = last_is n digits j c x l in
    let nine : c.m % 10 ≡ 9 = omega (arith, last.1, b) in
    let tens = x.tens (omega (arith, p, ap length last.0, length-take-le j digits (omega arith))) in
    record {
      m = c.m / 10;
      small = omega (arith, c.small);
      front = take-set digits j 48 ∙ (last.0 ∙ tens.1);
      whole = c.whole ∙ (ap (λ t. t ++ drop (j + 1) digits) (carried c.m tens.0 (omega (arith, c.small)) nine)
          ∙ (append_assoc (decimal (c.m / 10 + 1)) (48 ∷ []) (drop (j + 1) digits) ∙ ap (λ t. decimal (c.m / 10 + 1) ++ t) (sym (drop-set digits j 48 l))));
    }
