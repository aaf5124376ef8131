-- Two ends of arrows, and two arrows, are the same just where their keys are.
use Rattle.std.proofs.Common.{◌≡◌, ℕ, ◌+◌, ◌<◌, Bool, true, false, ◌&&◌, ◌||◌, cond, nat_eq, List, [], ◌∷◌, length, map, take, get_or, refl, sym, ap, ◌∙◌}
use Rattle.std.specs.BTreeSet.{BTreeSet, Updates}
use Rattle.std.specs.Cmp.{IsTotalOrder, both_tied, eq_by_cmp_equiv, nat_cmp_total, on_total, then_total, unsigned_ties}
use Rattle.std.specs.List.{list_any}
use Rattle.std.proofs.lemmas.List.Folds.{list_any_more}
use Rattle.heap_pictures.specs.Flags.{is_in}
use Rattle.std.specs.Ordering.{eq_by_cmp}
use Rattle.heap_pictures.specs.declared.pictures.Arrow.{Arrow}
use Rattle.heap_pictures.specs.declared.pictures.Arrow.TheVariants as arrow
use Rattle.heap_pictures.specs.declared.pictures.Spot.{Spot}
use Rattle.heap_pictures.specs.declared.pictures.Spot.TheVariants as spot
use Rattle.picture_sheets.specs.Keys.{SpotKey, ArrowKey, Puts, spot_key, arrow_key, spot_cmp, arrow_cmp, has_key, has_spot}
use Rattle.picture_sheets.specs.Same.{same_arrow, same_spot, same_style}

-- what the orders don't tell apart has the same numbers
abbrev eq_spot : SpotKey → SpotKey → Bool
eq_spot x y = (nat_eq x.0 y.0 && nat_eq x.1 y.1) && nat_eq x.2 y.2

abbrev eq_arrow : ArrowKey → ArrowKey → Bool
eq_arrow a b = ((nat_eq a.0 b.0 && eq_spot a.1 b.1) && nat_eq a.2 b.2) && eq_spot a.3 b.3

spot-ties : (x y : SpotKey) → eq_spot x y ≡ eq_by_cmp spot_cmp x y
spot-ties x y = both_tied _ _ _ _ (both_tied _ _ _ _ (unsigned_ties x.0 y.0) (unsigned_ties x.1 y.1)) (unsigned_ties x.2 y.2)

arrow-ties : (a b : ArrowKey) → eq_arrow a b ≡ eq_by_cmp arrow_cmp a b
arrow-ties a b = both_tied _ _ _ _ (both_tied _ _ _ _ (both_tied _ _ _ _ (unsigned_ties a.0 b.0)
    (spot-ties a.1 b.1)) (unsigned_ties a.2 b.2)) (spot-ties a.3 b.3)

and_assoc : (a b c : Bool) → (a && (b && c)) ≡ ((a && b) && c)
and_assoc true b c = refl
and_assoc false b c = refl

spot-eq : (x y : Spot) → same_spot x y ≡ eq_spot (spot_key x) (spot_key y)
spot-eq (spot.Object m) (spot.Object n) = refl
spot-eq (spot.Object m) (spot.Peer q) = refl
spot-eq (spot.Object m) (spot.Handle g) = refl
spot-eq (spot.Object m) (spot.Slot t j) = refl
spot-eq (spot.Object m) (spot.Temporary j) = refl
spot-eq (spot.Peer p) (spot.Object n) = refl
spot-eq (spot.Peer p) (spot.Peer q) = refl
spot-eq (spot.Peer p) (spot.Handle g) = refl
spot-eq (spot.Peer p) (spot.Slot t j) = refl
spot-eq (spot.Peer p) (spot.Temporary j) = refl
spot-eq (spot.Handle h) (spot.Object n) = refl
spot-eq (spot.Handle h) (spot.Peer q) = refl
spot-eq (spot.Handle h) (spot.Handle g) = refl
spot-eq (spot.Handle h) (spot.Slot t j) = refl
spot-eq (spot.Handle h) (spot.Temporary j) = refl
spot-eq (spot.Slot s i) (spot.Object n) = refl
spot-eq (spot.Slot s i) (spot.Peer q) = refl
spot-eq (spot.Slot s i) (spot.Handle g) = refl
spot-eq (spot.Slot s i) (spot.Slot t j) = refl
spot-eq (spot.Slot s i) (spot.Temporary j) = refl
spot-eq (spot.Temporary i) (spot.Object n) = refl
spot-eq (spot.Temporary i) (spot.Peer q) = refl
spot-eq (spot.Temporary i) (spot.Handle g) = refl
spot-eq (spot.Temporary i) (spot.Slot t j) = refl
spot-eq (spot.Temporary i) (spot.Temporary j) = refl

arrow-eq : (a b : Arrow) → same_arrow a b ≡ eq_arrow (arrow_key a) (arrow_key b)
arrow-eq (arrow.Field x i y) (arrow.Field u j v) = (λ k. spot-eq x u k && (nat_eq i j && spot-eq y v k))
    ∙ and_assoc (eq_spot (spot_key x) (spot_key u)) (nat_eq i j) (eq_spot (spot_key y) (spot_key v))
arrow-eq (arrow.Field x i y) (arrow.Held n g q t) = refl
arrow-eq (arrow.Field x i y) (arrow.Faded n g t) = refl
arrow-eq (arrow.Field x i y) (arrow.Names u v) = refl
arrow-eq (arrow.Field x i y) (arrow.Grips g q t) = refl
arrow-eq (arrow.Field x i y) (arrow.Stub g) = refl
arrow-eq (arrow.Field x i y) (arrow.Refers u v) = refl
arrow-eq (arrow.Held m h p s) (arrow.Field u j v) = refl
arrow-eq (arrow.Held m h p s) (arrow.Held n g q t) = and_assoc (nat_eq m n) (nat_eq h g) (nat_eq p q && same_style s t)
arrow-eq (arrow.Held m h p s) (arrow.Faded n g t) = refl
arrow-eq (arrow.Held m h p s) (arrow.Names u v) = refl
arrow-eq (arrow.Held m h p s) (arrow.Grips g q t) = refl
arrow-eq (arrow.Held m h p s) (arrow.Stub g) = refl
arrow-eq (arrow.Held m h p s) (arrow.Refers u v) = refl
arrow-eq (arrow.Faded m h s) (arrow.Field u j v) = refl
arrow-eq (arrow.Faded m h s) (arrow.Held n g q t) = refl
arrow-eq (arrow.Faded m h s) (arrow.Faded n g t) = and_assoc (nat_eq m n) (nat_eq h g) (same_style s t)
arrow-eq (arrow.Faded m h s) (arrow.Names u v) = refl
arrow-eq (arrow.Faded m h s) (arrow.Grips g q t) = refl
arrow-eq (arrow.Faded m h s) (arrow.Stub g) = refl
arrow-eq (arrow.Faded m h s) (arrow.Refers u v) = refl
arrow-eq (arrow.Names x y) (arrow.Field u j v) = refl
arrow-eq (arrow.Names x y) (arrow.Held n g q t) = refl
arrow-eq (arrow.Names x y) (arrow.Faded n g t) = refl
arrow-eq (arrow.Names x y) (arrow.Names u v) = (λ k. spot-eq x u k && spot-eq y v k)
    ∙ and_assoc (eq_spot (spot_key x) (spot_key u)) true (eq_spot (spot_key y) (spot_key v))
arrow-eq (arrow.Names x y) (arrow.Grips g q t) = refl
arrow-eq (arrow.Names x y) (arrow.Stub g) = refl
arrow-eq (arrow.Names x y) (arrow.Refers u v) = refl
arrow-eq (arrow.Grips h p s) (arrow.Field u j v) = refl
arrow-eq (arrow.Grips h p s) (arrow.Held n g q t) = refl
arrow-eq (arrow.Grips h p s) (arrow.Faded n g t) = refl
arrow-eq (arrow.Grips h p s) (arrow.Names u v) = refl
arrow-eq (arrow.Grips h p s) (arrow.Grips g q t) = refl
arrow-eq (arrow.Grips h p s) (arrow.Stub g) = refl
arrow-eq (arrow.Grips h p s) (arrow.Refers u v) = refl
arrow-eq (arrow.Stub h) (arrow.Field u j v) = refl
arrow-eq (arrow.Stub h) (arrow.Held n g q t) = refl
arrow-eq (arrow.Stub h) (arrow.Faded n g t) = refl
arrow-eq (arrow.Stub h) (arrow.Names u v) = refl
arrow-eq (arrow.Stub h) (arrow.Grips g q t) = refl
arrow-eq (arrow.Stub h) (arrow.Stub g) = refl
arrow-eq (arrow.Stub h) (arrow.Refers u v) = refl
arrow-eq (arrow.Refers x y) (arrow.Field u j v) = refl
arrow-eq (arrow.Refers x y) (arrow.Held n g q t) = refl
arrow-eq (arrow.Refers x y) (arrow.Faded n g t) = refl
arrow-eq (arrow.Refers x y) (arrow.Names u v) = refl
arrow-eq (arrow.Refers x y) (arrow.Grips g q t) = refl
arrow-eq (arrow.Refers x y) (arrow.Stub g) = refl
arrow-eq (arrow.Refers x y) (arrow.Refers u v) = (λ k. spot-eq x u k && spot-eq y v k)
    ∙ and_assoc (eq_spot (spot_key x) (spot_key u)) true (eq_spot (spot_key y) (spot_key v))

pub spot-tied : (x y : Spot) → eq_by_cmp spot_cmp (spot_key x) (spot_key y) ≡ same_spot x y
spot-tied x y = sym (spot-eq x y ∙ spot-ties (spot_key x) (spot_key y))

pub arrow-tied : (a b : Arrow) → eq_by_cmp arrow_cmp (arrow_key a) (arrow_key b) ≡ same_arrow a b
arrow-tied a b = sym (arrow-eq a b ∙ arrow-ties (arrow_key a) (arrow_key b))

spot_total : IsTotalOrder spot_cmp
spot_total = then_total (then_total (on_total (λ t. t.0) nat_cmp_total) (on_total (λ t. t.1) nat_cmp_total)) (on_total (λ t. t.2) nat_cmp_total)

arrow_total : IsTotalOrder arrow_cmp
arrow_total = then_total (then_total (then_total (on_total (λ t. t.0) nat_cmp_total) (on_total (λ t. t.1) spot_total)) (on_total (λ t. t.2) nat_cmp_total)) (on_total (λ t. t.3) spot_total)

cond_or : (b c : Bool) → cond b true c ≡ (b || c)
cond_or true c = refl
cond_or false c = refl

or_flip : (b c : Bool) → (b || c) ≡ (c || b)
or_flip true true = refl
or_flip true false = refl
or_flip false true = refl
or_flip false false = refl

-- a key more
pub spot-put : (old new : BTreeSet SpotKey) (x : Spot) → Updates spot_cmp old new (spot_key x) true → Puts x old new
spot-put old new x u y = u.0 (spot_key y) ∙ (cond_or (eq_by_cmp spot_cmp (spot_key x) (spot_key y)) (has_spot old y)
    ∙ ap (λ b. b || has_spot old y) ((eq_by_cmp_equiv spot_total).symm (spot_key x) (spot_key y) ∙ spot-tied y x))

pub arrow-put : (old new : BTreeSet ArrowKey) (k : ArrowKey) (b : Arrow) → k ≡ arrow_key b → Updates arrow_cmp old new k true → (a : Arrow) → has_key new a ≡ (same_arrow a b || has_key old a)
arrow-put old new k b e u a = u.0 (arrow_key a) ∙ (cond_or (eq_by_cmp arrow_cmp k (arrow_key a)) (has_key old a)
    ∙ ap (λ t. t || has_key old a) ((eq_by_cmp_equiv arrow_total).symm k (arrow_key a) ∙ (ap (λ q. eq_by_cmp arrow_cmp (arrow_key a) q) e ∙ arrow-tied a b)))

-- one element more of a list
pub any-more : {A : Type 0} (p : A → Bool) (xs : List A) (i : ℕ) (d : A) (old new : Bool) → i < length xs
    → old ≡ list_any p (take i xs) → new ≡ (p (get_or xs i d) || old) → new ≡ list_any p (take (i + 1) xs)
any-more p xs i d old new l e f = f ∙ (ap (λ b. p (get_or xs i d) || b) e ∙ (or_flip (p (get_or xs i d)) (list_any p (take i xs)) ∙ sym (list_any_more p xs i d l)))

pub any-map : {A : Type 0} (f : A → ℕ) (m : ℕ) (xs : List A) → list_any (λ x. nat_eq m (f x)) xs ≡ is_in (map f xs) m
any-map f m [] = refl
any-map f m (x ∷ xs) = ap (λ b. nat_eq m (f x) || b) (any-map f m xs)

pub in-more : {A : Type 0} (f : A → ℕ) (m : ℕ) (xs : List A) (i : ℕ) (d : A) (old new : Bool) → i < length xs
    → old ≡ is_in (map f (take i xs)) m → new ≡ (nat_eq m (f (get_or xs i d)) || old) → new ≡ is_in (map f (take (i + 1) xs)) m
in-more f m xs i d old new l e g =
    any-more (λ x. nat_eq m (f x)) xs i d old new l (e ∙ sym (any-map f m (take i xs))) g ∙ any-map f m (take (i + 1) xs)
