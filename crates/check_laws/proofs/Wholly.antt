-- What the rules ask of the whole is a matter of what stands before the read.
use Rattle.std.proofs.Common.{◌≡◌, ℕ, suc, ◌+◌, ◌<◌, ◌≤◌, inl, inr, Bool, List, [], ◌∷◌, ◌++◌, length, Some, sym, ap, ◌∙◌, arith, length-append}
use Rattle.std.specs.Prelude.{slice_get}
use Rattle.std.proofs.lemmas.Option.{same_Some}
use Rattle.joint_machine.specs.declared.names.Thread.{Thread}
use Rattle.joint_machine.specs.Readers.{IsManagedAt, HasKnownFrom}
use Rattle.joint_machine.specs.Told.{Noted}
use Rattle.known_laws.specs.PastEntries.{turned}
use Rattle.check_laws.specs.Known.{PastAt, count_below, seen, IsEntryAt, KindAt, KindIn, UnknownIsTested}
use Rattle.check_laws.proofs.Knowing.{within, split, forth, back}

-- a list turned round, behind what is put to it
pub behind : (h acc : List Noted) (i k : ℕ) → i ≡ length h + k → slice_get (turned acc h) i ≡ slice_get acc k
behind [] acc i k e = let q : i ≡ k = omega (arith, e) in ap (λ z. slice_get acc z) q
behind (x ∷ h) acc i k e = behind h (x ∷ acc) i (suc k) (omega (arith, e))

pub at-turned : (h acc : List Noted) (i : ℕ) (n : Noted) → PastAt h i n → slice_get (turned acc h) i ≡ Some n
at-turned [] acc i n a = absurd a
at-turned (x ∷ h) acc i n (inl e) = behind h (x ∷ acc) i 0 (let q = e.0 in omega (arith, q)) ∙ ap Some e.1
at-turned (x ∷ h) acc i n (inr a) = at-turned h (x ∷ acc) i n a

pub turned-at : (h acc : List Noted) (i : ℕ) (n : Noted) → slice_get (turned acc h) i ≡ Some n → i < length h → PastAt h i n
turned-at [] acc i n e l = absurd (omega (arith, l))
turned-at (x ∷ h) acc i n e l = elim (split i (length h)) [
  | inl less ↦ inr (turned-at h (x ∷ acc) i n e less)
  | inr more ↦ inl (let q : i ≡ length h = omega (arith, l, more) in (q, same_Some x n (sym (behind h (x ∷ acc) i 0 (omega (arith, l, more))) ∙ e)))
]

-- what stands before is in the whole
lifted : (later : List Noted) (x : Noted) (h : List Noted) (i : ℕ) (n : Noted) → PastAt h i n → PastAt (later ++ x ∷ h) i n
lifted [] x h i n a = inr a
lifted (y ∷ later) x h i n a = inr (lifted later x h i n a)

pub lowered : (later : List Noted) (x : Noted) (h : List Noted) (i : ℕ) (n : Noted) → PastAt (later ++ x ∷ h) i n → i < length h → PastAt h i n
lowered [] x h i n (inl e) l = absurd (let q = e.0 in omega (arith, l, q))
lowered [] x h i n (inr a) l = a
lowered (y ∷ later) x h i n (inl e) l = absurd (let q = e.0 in let m = length-append later (x ∷ h) in omega (arith, l, q, m))
lowered (y ∷ later) x h i n (inr a) l = lowered later x h i n a l

module _ (later : List Noted) (x : Noted) (h : List Noted) where
  abbrev whole : List Noted
  whole = turned [] (later ++ x ∷ h)

  -- an entry of the whole before the read
  up : (i : ℕ) (n : Noted) → PastAt h i n → IsEntryAt whole i n
  up i n a = at-turned (later ++ x ∷ h) [] i n (lifted later x h i n a)

  down : (i : ℕ) (n : Noted) → IsEntryAt whole i n → i < length h → PastAt h i n
  down i n e l = lowered later x h i n (turned-at (later ++ x ∷ h) [] i n e (let m = length-append later (x ∷ h) in omega (arith, l, m))) l

  module _ (t : Thread) (p : Noted → Bool) where
    abbrev Whole : Type 0
    Whole = (e j : ℕ) → KindIn whole p e → e < j → IsManagedAt whole j → HasKnownFrom whole t (length h) j → ⊥

    abbrev Here : Type 0
    Here = (e : ℕ) → KindAt h p e → seen h t ≤ count_below h (e + 1)

    tested : Whole → Here
    tested w e k = elim (split (count_below h (e + 1)) (seen h t)) [
      | inl less ↦ absurd (
          let r = back h t e less in
          let c = r.3 in
          w e r.0 (k.0, up e k.0 k.1, k.2) r.1 (record { element = r.2.0; there = up r.0 r.2.0 r.2.1; is = r.2.2 })
          (c.0, c.1, within h c.0 c.2.0 c.2.1, record { element = c.2.0; there = up c.0 c.2.0 c.2.1; is = c.2.2 }))
      | inr more ↦ more
    ]

    asked : Here → Whole
    asked w e j k l m c =
        let at = c.1 in
        let low = c.2 in
        let j_in : j < length h = omega (arith, at, low) in
        let e_in : e < length h = omega (arith, l, j_in) in
        let less = forth h t e j l (m.element, down j m.element m.there j_in, m.is) (c.0, at, (c.3.element, down c.0 c.3.element c.3.there low, c.3.is)) in
        let most = w e (k.0, down e k.0 k.1 e_in, k.2) in
        omega (arith, less, most)

pub unknown_tested : UnknownIsTested
unknown_tested later x h t p = (tested later x h t p, asked later x h t p)
