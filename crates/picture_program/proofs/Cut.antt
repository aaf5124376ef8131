-- Bytes that are cut at their first newline, and words of which one is a number.
use Rattle.std.proofs.Common.{◌≡◌, ℕ, zero, suc, ◌+◌, ◌<◌, ◌≤◌, Bool, true, false, ◌==◌, if◌then◌else◌, List, [], ◌∷◌, Option, Some, None, length, take, drop, refl, ap, ◌∙◌, arith}
use Rattle.std.specs.Prelude.{◌≢◌, slice_index}
use Rattle.std.specs.Io.KnownBytes.{Keeps}
use Rattle.std.proofs.lemmas.Bool.{eqb-true}
use Rattle.picture_program.specs.Lines.{after_line, first_line}

-- the first newline stands at place k, or there is none
pub record IsCutAt (bytes : List ℕ) (k : ℕ) : Type 0 where
  pub within : k ≤ length bytes
  pub before : (j : ℕ) → j < k → slice_index bytes j ≢ 10
  pub found : k < length bytes → slice_index bytes k ≡ 10

rest_cut : (b : ℕ) (bs : List ℕ) (k : ℕ) → IsCutAt (b ∷ bs) (suc k) → IsCutAt bs k
rest_cut b bs k c = record { within = omega (arith, c.within); before = λ j l. c.before (suc j) (omega (arith, l)); found = λ l. c.found (omega (arith, l)) }

pub first_cut : (bytes : List ℕ) (k : ℕ) → IsCutAt bytes k → take k bytes ≡ first_line bytes
first_cut [] k c = (let z : k ≡ 0 = omega (arith, c.within) in rw z refl)
first_cut (b ∷ bs) zero c = (let e : b ≡ 10 = c.found (omega arith) in rw e refl)
first_cut (b ∷ bs) (suc k) c = by (b == 10) refl (first_cut bs k (rest_cut b bs k c))
  where
    by : (t : Bool) → (b == 10) ≡ t → take k bs ≡ first_line bs → b ∷ take k bs ≡ (if t then [] else b ∷ first_line bs)
    by true e r = absurd (c.before 0 (omega arith) (eqb-true b 10 e))
    by false e r = ap (λ xs. b ∷ xs) r

pub after_cut : (bytes : List ℕ) (k : ℕ) → IsCutAt bytes k → k < length bytes → drop (k + 1) bytes ≡ after_line bytes
after_cut [] k c l = absurd (omega (arith, l))
after_cut (b ∷ bs) zero c l = (let e : b ≡ 10 = c.found l in rw e refl)
after_cut (b ∷ bs) (suc k) c l = by (b == 10) refl (after_cut bs k (rest_cut b bs k c) (omega (arith, l)))
  where
    by : (t : Bool) → (b == 10) ≡ t → drop (k + 1) bs ≡ after_line bs → drop (suc k + 1) (b ∷ bs) ≡ (if t then bs else after_line bs)
    by true e r = absurd (c.before 0 (omega arith) (eqb-true b 10 e))
    by false e r = (let s : suc k + 1 ≡ suc (k + 1) = omega arith in ap (λ n. drop n (b ∷ bs)) s ∙ r)

pub none_after : (bytes : List ℕ) (k : ℕ) → IsCutAt bytes k → k ≡ length bytes → [] ≡ after_line bytes
none_after [] k c l = refl
none_after (b ∷ bs) zero c l = absurd (omega (arith, l))
none_after (b ∷ bs) (suc k) c l = by (b == 10) refl (none_after bs k (rest_cut b bs k c) (omega (arith, l)))
  where
    by : (t : Bool) → (b == 10) ≡ t → [] ≡ after_line bs → [] ≡ (if t then bs else after_line bs)
    by true e r = absurd (c.before 0 (omega arith) (eqb-true b 10 e))
    by false e r = r

pub keeps_self : (a : Option (List ℕ)) → Keeps a a
keeps_self None = tt
keeps_self (Some s) = refl
