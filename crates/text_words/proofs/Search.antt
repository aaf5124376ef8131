-- The first place of a byte among the first 32, or 16, of a text. They are compared with it at once, and the answers
-- are the bits of a number, of which the lowest stands first: so the number is 0 where none of them is the byte, and
-- else the zeros at its end count those before the first that is.
use Rattle.std.proofs.Common.{◌≡◌, ◌≢◌, ℕ, ◌+◌, ◌-◌, ◌%◌, ◌^◌, ◌<◌, ◌≤◌, Bool, cond, eqb, not, List, length, get_or, take, drop, map, replicate, sym, ◌∙◌, ap, arith, w8, true≢false, inl, inr}
use lib.Lanes.{zip2, chunk, mask_l, top}
use lib.Count.{count_trailing_zeros}
use Rattle.std.specs.List.{prefix_len}
use Rattle.std.proofs.lemmas.Bool.{cases_lt, eq-eqb, eqb-true, ne_eqb}
use Rattle.std.proofs.lemmas.List.{get_or-drop}
use Rattle.std.proofs.lemmas.Simd.{length-chunk, bitmask_splat, first_set_mask_l, run_in_chunk_le, run_in_chunk_fails, run_in_chunk_stops}

-- the bits that the comparison of the first n gives
abbrev pub bits_of : ℕ → List ℕ → ℕ → ℕ
bits_of n bs byte = mask_l (map (top 7) (zip2 (λ a b. cond (eqb a b) 255 0) (take n bs) (replicate n byte))) % 2 ^ 64

-- r of the first n come before the first that is the byte
pub record Run (n : ℕ) (bs : List ℕ) (byte r : ℕ) : Type 0 where
  pub within : r ≤ n
  pub before : (k : ℕ) → k < r → get_or bs k 0 ≢ byte
  pub found : r < n → get_or bs r 0 ≡ byte

run_is : (n : ℕ) (bs : List ℕ) (byte r : ℕ) → n ≤ length bs → r ≡ prefix_len (λ x. not (eqb x byte)) (chunk 0 n bs) → Run n bs byte r
run_is n bs byte r h e =
    let p : ℕ → Bool = λ x. eqb x byte in
    let start : 0 + r ≡ r = omega arith in
    let long : 0 + n ≤ length bs = omega (arith, h) in
    record {
      within = run_in_chunk_le p bs 0 n r 0 long e;
      before = λ k l f. true≢false (sym (eq-eqb (get_or bs k 0) byte f) ∙ run_in_chunk_fails p bs 0 n r 0 long e k (omega arith) (omega arith));
      found = λ l. eqb-true (get_or bs r 0) byte (rw start at (run_in_chunk_stops p bs 0 n r 0 long e l));
    }

counted : (n : ℕ) (bs : List ℕ) (byte : ℕ) → n ≤ 64 → n ≤ length bs
    → cond (eqb (bits_of n bs byte) 0) n (count_trailing_zeros 64 (bits_of n bs byte)) ≡ prefix_len (λ x. not (eqb x byte)) (chunk 0 n bs)
counted n bs byte small h =
    let long = length-chunk 0 n bs (omega (arith, h)) in
    rw (bitmask_splat w8 eqb (chunk 0 n bs) n byte long small) (first_set_mask_l (λ x. eqb x byte) (chunk 0 n bs) n long small)

pub run_none : (n : ℕ) (bs : List ℕ) (byte : ℕ) → n ≤ 64 → n ≤ length bs → bits_of n bs byte ≡ 0 → Run n bs byte n
run_none n bs byte small h z = run_is n bs byte n h (rw z at (counted n bs byte small h))

pub run_some : (n : ℕ) (bs : List ℕ) (byte : ℕ) → n ≤ 64 → n ≤ length bs → bits_of n bs byte ≢ 0 → Run n bs byte (count_trailing_zeros 64 (bits_of n bs byte))
run_some n bs byte small h z = run_is n bs byte (count_trailing_zeros 64 (bits_of n bs byte)) h
    (ap (λ b. cond b n (count_trailing_zeros 64 (bits_of n bs byte))) (sym (ne_eqb (bits_of n bs byte) 0 z)) ∙ counted n bs byte small h)

-- behind the first n, none of which is the byte, the search goes on
pub further : (n r byte : ℕ) (bs : List ℕ) → ((k : ℕ) → k < n → get_or bs k 0 ≢ byte) → ((k : ℕ) → k < r → get_or (drop n bs) k 0 ≢ byte) → (k : ℕ) → k < n + r → get_or bs k 0 ≢ byte
further n r byte bs front back k l e =
    elim (cases_lt k n) [
      | inl s ↦ front k s e
      | inr g ↦
          let same : n + (k - n) ≡ k = omega arith in
          back (k - n) (omega arith) (get_or-drop n bs (k - n) 0 ∙ (ap (λ i. get_or bs i 0) same ∙ e))
    ]
