-- What a text begins with: a word, a number, digits, spaces.
use Rattle.std.specs.Prelude.{ℕ, ◌+◌, ◌-◌, ◌*◌, ◌^◌, ◌==◌, ◌&&◌, ◌||◌, Bool, false, if◌then◌else◌, nat_eq, nat_lt, nat_le, List, [], ◌∷◌, Option, Some, None, length, take, drop}
use Rattle.std.specs.List.{prefix_len, starts_with}

-- where something is read, what is read behind it
infixl 10 ◌>>=◌
abbrev pub ◌>>=◌ : {A B : Type 0} → Option A → (A → Option B) → Option B
None >>= f = None
Some x >>= f = f x

-- what stands behind a word, where the text begins with it
abbrev pub after : List ℕ → List ℕ → Option (List ℕ)
after word text = if starts_with nat_eq text word then Some (drop (length word) text) else None

-- a decimal digit, a hexadecimal one, a space
abbrev pub is_digit : ℕ → Bool
is_digit c = nat_le 48 c && nat_le c 57

abbrev pub is_hex : ℕ → Bool
is_hex c = is_digit c || (nat_le 65 c && nat_le c 70) || (nat_le 97 c && nat_le c 102)

abbrev pub is_space : ℕ → Bool
is_space c = c == 32

-- what a hexadecimal digit is worth
abbrev pub hex_value : ℕ → ℕ
hex_value c = if nat_le c 57 then c - 48 else (if nat_le c 70 then c - 55 else (if nat_le c 102 then c - 87 else 0))

-- the number that decimal digits make behind one that was read, where it stays below 2 ^ 32
abbrev pub decimal_behind : ℕ → List ℕ → Option ℕ
decimal_behind n [] = Some n
decimal_behind n (d ∷ ds) = if nat_lt (n * 10 + (d - 48)) (2 ^ 32) then decimal_behind (n * 10 + (d - 48)) ds else None

-- the number that hexadecimal digits make behind one that was read, where it stays below 2 ^ 64
abbrev pub hex_behind : ℕ → List ℕ → Option ℕ
hex_behind n [] = Some n
hex_behind n (d ∷ ds) = if nat_lt n (2 ^ 60) then hex_behind (n * 16 + hex_value d) ds else None

-- decimal digits are a number where there is one, and no needless zero
abbrev pub decimal_of : List ℕ → Option ℕ
decimal_of [] = None
decimal_of (d ∷ []) = decimal_behind 0 (d ∷ [])
decimal_of (d ∷ e ∷ ds) = if d == 48 then None else decimal_behind 0 (d ∷ e ∷ ds)

-- hexadecimal ones are where there are one to sixteen
abbrev pub hex_of : List ℕ → Option ℕ
hex_of ds = if nat_lt 16 (length ds) then None else (if nat_eq (length ds) 0 then None else hex_behind 0 ds)

-- a number that the text begins with, with all its digits, and what stands behind it
abbrev pub behind_number : Option ℕ → List ℕ → Option (ℕ × List ℕ)
behind_number None rest = None
behind_number (Some n) rest = Some (n, rest)

abbrev pub decimal_at : List ℕ → Option (ℕ × List ℕ)
decimal_at text = behind_number (decimal_of (take (prefix_len is_digit text) text)) (drop (prefix_len is_digit text) text)

abbrev pub hex_at : List ℕ → Option (ℕ × List ℕ)
hex_at text = behind_number (hex_of (take (prefix_len is_hex text) text)) (drop (prefix_len is_hex text) text)

-- one byte, and what stands behind it
abbrev pub byte_at : List ℕ → Option (ℕ × List ℕ)
byte_at [] = None
byte_at (b ∷ bs) = Some (b, bs)

-- whether the text begins with one of the words
abbrev pub begins_with_one : List (List ℕ) → List ℕ → Bool
begins_with_one [] text = false
begins_with_one (w ∷ ws) text = starts_with nat_eq text w || begins_with_one ws text

-- whether a word stands somewhere in the text
abbrev pub has_word : List ℕ → List ℕ → Bool
has_word word [] = starts_with nat_eq [] word
has_word word (b ∷ bs) = starts_with nat_eq (b ∷ bs) word || has_word word bs
