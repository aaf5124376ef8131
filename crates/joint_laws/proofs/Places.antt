-- The entry in a place of a lawful list may come at the state before it, and leads to the state after it. And the
-- places of a list of which some elements are left out, in order.
use Rattle.std.proofs.Common.{◌≡◌, ℕ, zero, suc, ◌<◌, ◌≤◌, Bool, true, false, List, [], ◌∷◌, length, take, Some, refl, sym, ap, subst, ◌∙◌, cond, arith}
use Rattle.std.specs.Prelude.{filter, slice_get}
use Rattle.std.proofs.lemmas.Option.{same_Some, slice_get_within}
use Rattle.joint_machine.specs.Linked.{Linkage, MayCome, opening_linkage, linkage_after}
use Rattle.joint_machine.specs.Replaying.{AllMayCome, replayed}
use Rattle.joint_machine.specs.Told.{Noted}
use Rattle.joint_machine.proofs.Deciding.{none_some}
use Rattle.joint_machine.proofs.Numbered.{numbered-made}
use Rattle.joint_laws.specs.States.{state_at}

pub comes-in : (ns : List Noted) (s : Linkage) (i : ℕ) (n : Noted) → AllMayCome s ns → slice_get ns i ≡ Some n → MayCome (replayed s (take i ns)) n
comes-in [] s i n a e = absurd (none_some n e)
comes-in (m ∷ ns) s zero n a e = subst (λ z. MayCome s z) (same_Some m n e) a.0
comes-in (m ∷ ns) s (suc i) n a e = comes-in ns (linkage_after s m) i n a.1 e

pub after-in : (ns : List Noted) (s : Linkage) (i : ℕ) (n : Noted) → slice_get ns i ≡ Some n → replayed s (take (suc i) ns) ≡ linkage_after (replayed s (take i ns)) n
after-in [] s i n e = absurd (none_some n e)
after-in (m ∷ ns) s zero n e = ap (λ z. linkage_after s z) (same_Some m n e)
after-in (m ∷ ns) s (suc i) n e = after-in ns (linkage_after s m) i n e

-- at a place of the whole list
pub comes-at : (ns : List Noted) (i : ℕ) (n : Noted) → AllMayCome opening_linkage ns → slice_get ns i ≡ Some n → MayCome (state_at ns i) n
comes-at ns i n a e = comes-in ns opening_linkage i n a e

pub after-at : (ns : List Noted) (i : ℕ) (n : Noted) → slice_get ns i ≡ Some n → state_at ns (suc i) ≡ linkage_after (state_at ns i) n
after-at ns i n e = after-in ns opening_linkage i n e

-- there is an entry in each place before another
pub earlier-at : {A : Type 0} (xs : List A) (i j : ℕ) (y : A) → i < j → slice_get xs j ≡ Some y → (x : A) × (slice_get xs i ≡ Some x)
earlier-at xs i j y l e = (let w = slice_get_within xs j y e in numbered-made xs (suc i) (omega arith) (omega (arith, l, w)))

-- an element that is left stands in a place of the whole list, after as many as are left before it
pub record Origin {A : Type 0} (p : A → Bool) (xs : List A) (i : ℕ) (x : A) : Type 0 where
  pub place : ℕ
  pub there : slice_get xs place ≡ Some x
  pub before : length (filter p (take place xs)) ≡ i

module _ {A : Type 0} (p : A → Bool) where
  cons-count : (x : A) (xs : List A) (b : Bool) → p x ≡ b → length (filter p (x ∷ xs)) ≡ length (cond b (x ∷ filter p xs) (filter p xs))
  cons-count x xs b e = ap (λ z. length (cond z (x ∷ filter p xs) (filter p xs))) e

  pub origin : (xs : List A) (i : ℕ) (x : A) → slice_get (filter p xs) i ≡ Some x → Origin p xs i x
  origin [] i x e = absurd (none_some x e)
  origin (y ∷ xs) i x e = by (p y) refl i (ap (λ z. slice_get (cond z (y ∷ filter p xs) (filter p xs)) i) refl ∙ e) (λ k q. origin xs k x q)
    where
      by : (b : Bool) → p y ≡ b → (k : ℕ) → slice_get (cond b (y ∷ filter p xs) (filter p xs)) k ≡ Some x → ((j : ℕ) → slice_get (filter p xs) j ≡ Some x → Origin p xs j x) → Origin p (y ∷ xs) k x
      by false f k q rest = (let w = rest k q in record { place = suc w.place; there = w.there; before = cons-count y (take w.place xs) false f ∙ w.before })
      by true f zero q rest = record { place = 0; there = q; before = refl }
      by true f (suc k) q rest = (let w = rest k q in record { place = suc w.place; there = w.there; before = cons-count y (take w.place xs) true f ∙ ap suc w.before })

  pub count-mono : (xs : List A) (i j : ℕ) → i ≤ j → length (filter p (take i xs)) ≤ length (filter p (take j xs))
  count-mono xs zero j l = omega arith
  count-mono [] (suc i) j l = omega arith
  count-mono (x ∷ xs) (suc i) zero l = absurd (omega (arith, l))
  count-mono (x ∷ xs) (suc i) (suc j) l = by (p x) refl (count-mono xs i j (omega (arith, l)))
    where
      by : (b : Bool) → p x ≡ b → length (filter p (take i xs)) ≤ length (filter p (take j xs)) → length (filter p (x ∷ take i xs)) ≤ length (filter p (x ∷ take j xs))
      by true e r = (let f = cons-count x (take i xs) true e in let g = cons-count x (take j xs) true e in omega (arith, f, g, r))
      by false e r = (let f = cons-count x (take i xs) false e in let g = cons-count x (take j xs) false e in omega (arith, f, g, r))

-- and the other way round: an element that is left stands behind those that are left before it
module _ {A : Type 0} (p : A → Bool) where
  cons-filter : (x : A) (xs : List A) (b : Bool) → p x ≡ b → filter p (x ∷ xs) ≡ cond b (x ∷ filter p xs) (filter p xs)
  cons-filter x xs b e = ap (λ z. cond z (x ∷ filter p xs) (filter p xs)) e

  abbrev Stands : List A → List A → A → Type 0
  Stands left front x = (slice_get left (length front) ≡ Some x) × (take (length front) left ≡ front)

  pub destined : (xs : List A) (i : ℕ) (x : A) → slice_get xs i ≡ Some x → p x ≡ true → Stands (filter p xs) (filter p (take i xs)) x
  destined [] i x e t = absurd (none_some x e)
  destined (y ∷ xs) zero x e t =
      let same = same_Some y x e in
      subst (λ z. Stands z [] x) (sym (cons-filter y xs true (ap p same ∙ t))) (ap Some same, refl)
  destined (y ∷ xs) (suc i) x e t = by (p y) refl (destined xs i x e t)
    where
      by : (b : Bool) → p y ≡ b → Stands (filter p xs) (filter p (take i xs)) x → Stands (filter p (y ∷ xs)) (filter p (y ∷ take i xs)) x
      by true f w = subst (λ z. Stands z (filter p (y ∷ take i xs)) x) (sym (cons-filter y xs true f))
          (subst (λ z. Stands (y ∷ filter p xs) z x) (sym (cons-filter y (take i xs) true f)) (w.0, ap (λ z. y ∷ z) w.1))
      by false f w = subst (λ z. Stands z (filter p (y ∷ take i xs)) x) (sym (cons-filter y xs false f)) (subst (λ z. Stands (filter p xs) z x) (sym (cons-filter y (take i xs) false f)) w)
