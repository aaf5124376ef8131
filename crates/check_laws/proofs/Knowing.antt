-- The counts tell what a caller knows.
use Rattle.std.proofs.Common.{◌≡◌, ℕ, ◌+◌, ◌<◌, ◌≤◌, ◌⊎◌, inl, inr, Bool, true, false, List, [], ◌∷◌, length, refl, sym, ap, subst, ◌∙◌, arith, if◌then◌else◌}
use Rattle.std.specs.Prelude.{nat_lt}
use Rattle.joint_machine.specs.declared.names.Thread.{Thread}
use Rattle.joint_machine.specs.PeerReplay.{is_thread}
use Rattle.joint_machine.specs.Readers.{is_managed_entry}
use Rattle.joint_machine.specs.Told.{Noted}
use Rattle.std.proofs.lemmas.Bool.Decides.{nat_tests}
use Rattle.joint_machine.proofs.HeapLemmas.{thread_itself, same_thread}
use Rattle.check_laws.specs.Known.{PastAt, ManagedAt, KnownFrom, one, managed_count, count_below, seen, KnownIsCounted}

-- places are below the length
pub within : (h : List Noted) (i : ℕ) (n : Noted) → PastAt h i n → i < length h
within [] i n a = absurd a
within (x ∷ h) i n (inl e) = let l = e.0 in omega (arith, l)
within (x ∷ h) i n (inr a) = let l = within h i n a in omega (arith, l)

below-all : (h : List Noted) (w : ℕ) → count_below h w ≤ managed_count h
below-all [] w = omega arith
below-all (n ∷ h) w = by (below-all h w) (nat_lt (length h) w)
  where
    by : count_below h w ≤ managed_count h → (b : Bool) → (if b then managed_count (n ∷ h) else count_below h w) ≤ managed_count (n ∷ h)
    by l true = omega arith
    by l false = omega (arith, l)

seen-all : (h : List Noted) (t : Thread) → seen h t ≤ managed_count h
seen-all [] t = omega arith
seen-all (n ∷ h) t = by (seen-all h t) (is_thread n.entry.made.caller t)
  where
    by : seen h t ≤ managed_count h → (b : Bool) → (if b then managed_count (n ∷ h) else seen h t) ≤ managed_count (n ∷ h)
    by l true = omega arith
    by l false = omega (arith, l)

-- one step of both counts
pub below-past : (n : Noted) (h : List Noted) (w : ℕ) → length h < w → count_below (n ∷ h) w ≡ managed_count (n ∷ h)
below-past n h w l = let e : nat_lt (length h) w ≡ true = grind (arith, nat_tests) in ap (λ b. if b then managed_count (n ∷ h) else count_below h w) e

pub below-same : (n : Noted) (h : List Noted) (w : ℕ) → w ≤ length h → count_below (n ∷ h) w ≡ count_below h w
below-same n h w l = let e : nat_lt (length h) w ≡ false = grind (arith, nat_tests) in ap (λ b. if b then managed_count (n ∷ h) else count_below h w) e

pub split : (a b : ℕ) → (a < b) ⊎ (b ≤ a)
split a b = by (nat_lt a b) refl
  where
    by : (t : Bool) → nat_lt a b ≡ t → (a < b) ⊎ (b ≤ a)
    by true e = inl (grind (arith, nat_tests))
    by false e = inr (grind (arith, nat_tests))

one-true : (b : Bool) → b ≡ true → one b ≡ 1
one-true b e = ap (λ z. one z) e

-- a managed entry later than the place is counted
counted-later : (h : List Noted) (w j : ℕ) → w < j → ManagedAt h j → count_below h (w + 1) < managed_count h
counted-later [] w j l m = absurd m.1
counted-later (n ∷ h) w j l (x, inl e, c) =
    let same = below-same n h (w + 1) (let q = e.0 in omega (arith, l, q)) in
    let all = below-all h (w + 1) in
    let is : one (is_managed_entry n) ≡ 1 = one-true (is_managed_entry n) (ap is_managed_entry e.1 ∙ c) in
    omega (arith, same, all, is)
counted-later (n ∷ h) w j l (x, inr a, c) =
    let in_h = within h j x a in
    let same = below-same n h (w + 1) (omega (arith, l, in_h)) in
    let rest = counted-later h w j l (x, a, c) in
    omega (arith, same, rest)

later-counted : (h : List Noted) (w : ℕ) → count_below h (w + 1) < managed_count h → (j : ℕ) × (w < j) × ManagedAt h j
later-counted [] w l = absurd (omega (arith, l))
later-counted (n ∷ h) w l = elim (split (length h) (w + 1)) [
  | inl past ↦ absurd (let e = below-past n h (w + 1) past in omega (arith, e, l))
  | inr far ↦ by (later-counted h w) (is_managed_entry n) refl far (let e = below-same n h (w + 1) far in omega (arith, e, l))
]
  where
    by : (count_below h (w + 1) < managed_count h → (j : ℕ) × (w < j) × ManagedAt h j) → (b : Bool) → is_managed_entry n ≡ b
        → w + 1 ≤ length h → count_below h (w + 1) < managed_count h + one (is_managed_entry n) → (j : ℕ) × (w < j) × ManagedAt (n ∷ h) j
    by again true e far less = (length h, omega (arith, far), (n, inl (refl, refl), e))
    by again false e far less =
        let none : one (is_managed_entry n) ≡ 0 = ap (λ z. one z) e in
        let w' = again (omega (arith, less, none)) in
        (w'.0, w'.1, (w'.2.0, inr w'.2.1, w'.2.2))

pub forth : (h : List Noted) (t : Thread) (w : ℕ) → (j : ℕ) → w < j → ManagedAt h j → KnownFrom h t j → count_below h (w + 1) < seen h t
forth [] t w j l m k = absurd m.1
forth (n ∷ h) t w j l m k = by (forth h t w j l) (is_thread n.entry.made.caller t) refl
  where
    earlier : is_thread n.entry.made.caller t ≡ false → KnownFrom h t j
    earlier e = at k.2.1
      where
        at : PastAt (n ∷ h) k.0 k.2.0 → KnownFrom h t j
        at (inl q) = absurd (let itself : is_thread n.entry.made.caller t ≡ true = subst (λ z. is_thread z t ≡ true) (sym (ap (λ (z : Noted). z.entry.made.caller) q.1 ∙ k.2.2)) (thread_itself t) in
            let f : ⊥ = cc in f)
        at (inr a) = (k.0, k.1, (k.2.0, a, k.2.2))

    by : (ManagedAt h j → KnownFrom h t j → count_below h (w + 1) < seen h t) → (b : Bool)
        → is_thread n.entry.made.caller t ≡ b → count_below (n ∷ h) (w + 1) < (if b then managed_count (n ∷ h) else seen h t)
    by again true e = counted-later (n ∷ h) w j l m
    by again false e =
        let k' = earlier e in
        let in_h = within h k'.0 k'.2.0 k'.2.1 in
        let far = k'.1 in
        let same = below-same n h (w + 1) (omega (arith, l, far, in_h)) in
        let rest = again (at m) k' in
        omega (arith, same, rest)
      where
        at : ManagedAt (n ∷ h) j → ManagedAt h j
        at (x, inl q, c) = absurd (let k' = earlier e in let in_h = within h k'.0 k'.2.0 k'.2.1 in let far = k'.1 in let p = q.0 in omega (arith, far, in_h, p))
        at (x, inr a, c) = (x, a, c)

pub back : (h : List Noted) (t : Thread) (w : ℕ) → count_below h (w + 1) < seen h t → (j : ℕ) × (w < j) × ManagedAt h j × KnownFrom h t j
back [] t w l = absurd (omega (arith, l))
back (n ∷ h) t w l = by (back h t w) (is_thread n.entry.made.caller t) refl l
  where
    by : (count_below h (w + 1) < seen h t → (j : ℕ) × (w < j) × ManagedAt h j × KnownFrom h t j) → (b : Bool) → is_thread n.entry.made.caller t ≡ b
        → count_below (n ∷ h) (w + 1) < (if b then managed_count (n ∷ h) else seen h t) → (j : ℕ) × (w < j) × ManagedAt (n ∷ h) j × KnownFrom (n ∷ h) t j
    by again true e less =
        let r = later-counted (n ∷ h) w less in
        let in_all = within (n ∷ h) r.0 r.2.0 r.2.1 in
        (r.0, r.1, r.2, (length h, omega (arith, in_all), (n, inl (refl, refl), same_thread n.entry.made.caller t e)))
    by again false e less = elim (split (length h) (w + 1)) [
      | inl past ↦ absurd (let q = below-past n h (w + 1) past in let s = seen-all h t in omega (arith, q, s, less))
      | inr far ↦ (
          let r = again (let q = below-same n h (w + 1) far in omega (arith, q, less)) in
          (r.0, r.1, (r.2.0, inr r.2.1, r.2.2), (r.3.0, r.3.1, (r.3.2.0, inr r.3.2.1, r.3.2.2))))
    ]

pub known_counted : KnownIsCounted
known_counted h t w = (λ z. forth h t w z.0 z.1 z.2 z.3, back h t w)
