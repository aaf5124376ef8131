-- One step of reading what a text begins with.
use Rattle.std.proofs.Common.{◌≡◌, ℕ, zero, suc, ◌+◌, ◌-◌, ◌*◌, ◌^◌, ◌<◌, ◌≤◌, ◌==◌, ◌&&◌, ◌||◌, if◌then◌else◌, Bool, true, false, not, List, [], ◌∷◌, ◌++◌, length, take, drop, get_or, Some, None, refl, ap, sym, ◌∙◌, arith, length-drop, length-take}
use Rattle.std.specs.Prelude.{nat_eq}
use Rattle.std.specs.List.{prefix_len, starts_with}
use Rattle.std.proofs.lemmas.Bool.{eq-eqb, le-ltb, lt-ltb, ne_eqb}
use Rattle.std.proofs.lemmas.List.{at_drop_more, drop-drop, take_more}
use Rattle.std.proofs.lemmas.List.Sums.{prefix_len_is}
use Rattle.android_log.specs.Parts.{decimal_behind, has_word, hex_behind, hex_value, is_space}
use Rattle.android_log.specs.Frames.{before_end, is_end, trimmed_len}
use Rattle.android_log.specs.Placed.{tag_at, tag_from}

decimal_on : (n d : ℕ) (ds : List ℕ) → n * 10 + (d - 48) < 2 ^ 32 → decimal_behind n (d ∷ ds) ≡ decimal_behind (n * 10 + (d - 48)) ds
decimal_on n d ds l = rw (lt-ltb (n * 10 + (d - 48)) (2 ^ 32) l) refl

decimal_off : (n d : ℕ) (ds : List ℕ) → 2 ^ 32 ≤ n * 10 + (d - 48) → decimal_behind n (d ∷ ds) ≡ None
decimal_off n d ds l = rw (le-ltb (n * 10 + (d - 48)) (2 ^ 32) l) refl

-- one digit more
pub decimal_more : (n : ℕ) (ds : List ℕ) (i : ℕ) → i < length ds → n * 10 + (get_or ds i 0 - 48) < 2 ^ 32
    → decimal_behind n (drop i ds) ≡ decimal_behind (n * 10 + (get_or ds i 0 - 48)) (drop (i + 1) ds)
decimal_more n ds i l s = at_drop_more (decimal_behind n) ds i 0 l ∙ decimal_on n (get_or ds i 0) (drop (i + 1) ds) s

pub decimal_large : (n : ℕ) (ds : List ℕ) (i : ℕ) → i < length ds → 2 ^ 32 ≤ n * 10 + (get_or ds i 0 - 48) → decimal_behind n (drop i ds) ≡ None
decimal_large n ds i l s = at_drop_more (decimal_behind n) ds i 0 l ∙ decimal_off n (get_or ds i 0) (drop (i + 1) ds) s

hex_on : (n d : ℕ) (ds : List ℕ) → n < 2 ^ 60 → hex_behind n (d ∷ ds) ≡ hex_behind (n * 16 + hex_value d) ds
hex_on n d ds l = rw (lt-ltb n (2 ^ 60) l) refl

hex_off : (n d : ℕ) (ds : List ℕ) → 2 ^ 60 ≤ n → hex_behind n (d ∷ ds) ≡ None
hex_off n d ds l = rw (le-ltb n (2 ^ 60) l) refl

pub hex_more : (n : ℕ) (ds : List ℕ) (i : ℕ) → i < length ds → n < 2 ^ 60
    → hex_behind n (drop i ds) ≡ hex_behind (n * 16 + hex_value (get_or ds i 0)) (drop (i + 1) ds)
hex_more n ds i l s = at_drop_more (hex_behind n) ds i 0 l ∙ hex_on n (get_or ds i 0) (drop (i + 1) ds) s

pub hex_large : (n : ℕ) (ds : List ℕ) (i : ℕ) → i < length ds → 2 ^ 60 ≤ n → hex_behind n (drop i ds) ≡ None
hex_large n ds i l s = at_drop_more (hex_behind n) ds i 0 l ∙ hex_off n (get_or ds i 0) (drop (i + 1) ds) s

-- a word stands at a place, or it is looked for behind it
has_here : (word : List ℕ) (xs : List ℕ) → starts_with nat_eq xs word ≡ true → has_word word xs ≡ true
has_here word [] e = e
has_here word (b ∷ bs) e = ap (λ t. t || has_word word bs) e

pub word_here : (word text : List ℕ) (i : ℕ) → starts_with nat_eq (drop i text) word ≡ true → has_word word (drop i text) ≡ true
word_here word text i e = has_here word (drop i text) e

has_on : (word : List ℕ) (b : ℕ) (bs : List ℕ) → starts_with nat_eq (b ∷ bs) word ≡ false → has_word word (b ∷ bs) ≡ has_word word bs
has_on word b bs e = ap (λ t. t || has_word word bs) e

pub word_on : (word text : List ℕ) (i : ℕ) → i < length text → starts_with nat_eq (drop i text) word ≡ false → has_word word (drop i text) ≡ has_word word (drop (i + 1) text)
word_on word text i l e =
    at_drop_more (has_word word) text i 0 l
    ∙ has_on word (get_or text i 0) (drop (i + 1) text) (rw (at_drop_more (λ xs. starts_with nat_eq xs word) text i 0 l) at e)

-- a name's end
end_one : (xs : List ℕ) → is_end xs ≡ true → before_end xs ≡ 0
end_one [] e = refl
end_one (b ∷ bs) e = rw e refl

end_next : (b : ℕ) (bs : List ℕ) → is_end (b ∷ bs) ≡ false → before_end (b ∷ bs) ≡ before_end bs + 1
end_next b bs e = rw e refl

pub end_here : (text : List ℕ) (i : ℕ) → i < length text → is_end (drop i text) ≡ true → before_end (drop i text) ≡ 0
end_here text i l e = end_one (drop i text) e

pub end_on : (text : List ℕ) (i : ℕ) → i < length text → is_end (drop i text) ≡ false → before_end (drop i text) ≡ before_end (drop (i + 1) text) + 1
end_on text i l e = at_drop_more before_end text i 0 l ∙ end_next (get_or text i 0) (drop (i + 1) text) (sym (at_drop_more is_end text i 0 l) ∙ e)

-- the spaces at an end
push_space : (xs : List ℕ) → trimmed_len (xs ++ 32 ∷ []) ≡ trimmed_len xs
push_space [] = refl
push_space (b ∷ bs) = ap (λ n. if is_space b && n == 0 then 0 else n + 1) (push_space bs)

some_left : (t : Bool) (n m : ℕ) → n ≡ m + 1 → (if t && n == 0 then 0 else n + 1) ≡ m + 1 + 1
some_left true n m e = rw e (rw (ne_eqb (m + 1) 0 (λ z. omega arith)) refl)
some_left false n m e = rw e refl

push_byte : (xs : List ℕ) (b : ℕ) → (b ≡ 32 → ⊥) → trimmed_len (xs ++ b ∷ []) ≡ length xs + 1
push_byte [] b ne = rw (ne_eqb b 32 ne) refl
push_byte (x ∷ xs) b ne = some_left (is_space x) (trimmed_len (xs ++ b ∷ [])) (length xs) (push_byte xs b ne) ∙ omega arith

pub trimmed_space : (text : List ℕ) (i : ℕ) → i < length text → get_or text i 0 ≡ 32 → trimmed_len (take (i + 1) text) ≡ trimmed_len (take i text)
trimmed_space text i l e = ap trimmed_len (take_more text i 0 l ∙ ap (λ b. take i text ++ b ∷ []) e) ∙ push_space (take i text)

pub trimmed_byte : (text : List ℕ) (i : ℕ) → i < length text → (get_or text i 0 ≡ 32 → ⊥) → trimmed_len (take (i + 1) text) ≡ i + 1
trimmed_byte text i l ne = ap trimmed_len (take_more text i 0 l) ∙ (push_byte (take i text) (get_or text i 0) ne ∙ omega (arith, length-take i text))

-- the first place of a byte
pub place_is : (c : ℕ) (text : List ℕ) (n : ℕ) → n ≤ length text → ((k : ℕ) → k < n → get_or text k 0 ≡ c → ⊥) → (n < length text → get_or text n 0 ≡ c)
    → n ≡ prefix_len (λ b. not (b == c)) text
place_is c text n within before found = sym (prefix_len_is (λ b. not (b == c)) text n 0 within
    (λ k l. ap not (ne_eqb (get_or text k 0) c (before k l)))
    (λ l. ap not (eq-eqb (get_or text n 0) c (found l))))

-- the first tag of a line: a tag begins with its first letter
no_tag : (b : ℕ) (bs : List ℕ) → (b ≡ 109 → ⊥) → tag_at (b ∷ bs) ≡ None
no_tag b bs ne = rw (ne_eqb 109 b (λ e. ne (sym e))) refl

pub tag_skip : (n at : ℕ) (xs : List ℕ) → n ≤ length xs → ((k : ℕ) → k < n → get_or xs k 0 ≡ 109 → ⊥) → tag_from at xs ≡ tag_from (at + n) (drop n xs)
tag_skip zero at xs l f = ap (λ k. tag_from k xs) (let e : at ≡ at + 0 = omega arith in e)
tag_skip (suc n) at [] l f = absurd (omega arith)
tag_skip (suc n) at (b ∷ bs) l f =
    rw (no_tag b bs (f 0 (omega arith))) (tag_skip n (at + 1) bs (omega arith) (λ k h. f (suc k) (omega arith)) ∙ ap (λ k. tag_from k (drop n bs)) (let e : at + 1 + n ≡ at + suc n = omega arith in e))

tag_one : (at : ℕ) (xs p r : List ℕ) → 0 < length xs → tag_at xs ≡ Some (p, r) → tag_from at xs ≡ Some (at, p, r)
tag_one at [] p r l e = absurd (omega arith)
tag_one at (b ∷ bs) p r l e = rw e refl

pub tag_here : (line : List ℕ) (at : ℕ) (p r : List ℕ) → at < length line → tag_at (drop at line) ≡ Some (p, r) → tag_from at (drop at line) ≡ Some (at, p, r)
tag_here line at p r l e = tag_one at (drop at line) p r (omega (arith, length-drop at line)) e

tag_next : (at b : ℕ) (bs : List ℕ) → tag_at (b ∷ bs) ≡ None → tag_from at (b ∷ bs) ≡ tag_from (at + 1) bs
tag_next at b bs e = rw e refl

-- none here, and none before the letter comes again
pub tag_on : (line : List ℕ) (at n : ℕ) → at < length line → tag_at (drop at line) ≡ None → n ≤ length (drop (at + 1) line)
    → ((k : ℕ) → k < n → get_or (drop (at + 1) line) k 0 ≡ 109 → ⊥) → tag_from at (drop at line) ≡ tag_from (at + 1 + n) (drop (at + 1 + n) line)
tag_on line at n l e within before =
    at_drop_more (tag_from at) line at 0 l
    ∙ (tag_next at (get_or line at 0) (drop (at + 1) line) (sym (at_drop_more tag_at line at 0 l) ∙ e)
    ∙ (tag_skip n (at + 1) (drop (at + 1) line) within before ∙ ap (tag_from (at + 1 + n)) (drop-drop n (at + 1) line)))
