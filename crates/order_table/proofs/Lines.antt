-- What an entry more does to the history's lines and to what a seat knows of them.
--
-- An entry stands in exactly two lines: in that of its role and in that of its caller. So a history one entry longer
-- has the entry at the end of these two and the same lines else; and a seat that made it knows just that. A line's
-- numbers lie below the length of the history. Each entry stands in a role's line and no role has more than
-- 4,294,967,295, so the history's length is far below 2 ^ 64 and the word never wraps.
use Rattle.std.proofs.Common.{◌≡◌, ◌≢◌, ◌⊎◌, inl, inr, ⊎_elim, ℕ, zero, suc, ◌+◌, ◌<◌, ◌≤◌, Bool, true, false, ◌||◌, List, [], ◌∷◌, ◌++◌, length, refl, sym, ap, ◌∙◌, subst, arith, eq-eqb}
use Rattle.std.specs.Prelude.{if◌then◌else◌, ◌==◌}
use Rattle.std.proofs.lemmas.Bool.{cases_Bool, cases_eq, eqb-true, or_cases, both_ways}
use mathlib.Core.Option.{some, some-injective, some-ne-none}
use mathlib.Core.List.{IsPrefix}
use lib.ListN.{get_elem?}
use Rattle.order_table.specs.declared.views.KeptEntry.{KeptEntry}
use Rattle.order_table.specs.declared.views.View.{View}
use Rattle.joint_machine.specs.HistoryLines.{caller_line}
use Rattle.order_table.specs.Rows.{at}
use Rattle.order_table.specs.Views.{known, grown, appended}
use Rattle.order_table.specs.Rule.{Item, IsItem, is_in, of_line, RunsFrom, IsBelow}
use Rattle.order_table.specs.Tells.{GrowsByEntry}
use Rattle.order_table.proofs.Places.{at_put_here, at_put_else}

-- one entry more: the lines in which it stands are longer by it, and the others are the same
pub of_line_in : (i : ℕ) (xs : List Item) (x : Item) → is_in i x ≡ true → of_line i (xs ++ x ∷ []) ≡ of_line i xs ++ x.kept ∷ []
of_line_in i [] x e = rw e refl
of_line_in i (y ∷ xs) x e = rw (of_line_in i xs x e) (either_way (is_in i y))
  where
    either_way : (b : Bool) → (if b then y.kept ∷ (of_line i xs ++ x.kept ∷ []) else of_line i xs ++ x.kept ∷ []) ≡ (if b then y.kept ∷ of_line i xs else of_line i xs) ++ x.kept ∷ []
    either_way true = refl
    either_way false = refl

pub of_line_out : (i : ℕ) (xs : List Item) (x : Item) → is_in i x ≡ false → of_line i (xs ++ x ∷ []) ≡ of_line i xs
of_line_out i [] x e = rw e refl
of_line_out i (y ∷ xs) x e = rw (of_line_out i xs x e) refl

-- the history one entry longer
pub runs_more : (n : ℕ) (xs : List Item) (x : Item) → RunsFrom n xs → IsItem (n + length xs) x → RunsFrom n (xs ++ x ∷ [])
runs_more n [] x r is = (record { number = is.number ∙ omega arith; caller = is.caller; stands = is.stands }, tt)
runs_more n (y ∷ xs) x r is = (r.0, runs_more (n + 1) xs x r.1 record { number = is.number ∙ omega arith; caller = is.caller; stands = is.stands })

-- all that stands in a line has a number below the length of the history
pub below_line : (i n k : ℕ) (xs : List Item) → RunsFrom n xs → n + length xs ≤ k → IsBelow k (of_line i xs)
below_line i n k [] r l = tt
below_line i n k (x ∷ xs) r l = let rest = below_line i (n + 1) k xs r.1 (omega arith) in let e = r.0.number in either_way (is_in i x) (omega arith) rest
  where
    either_way : (b : Bool) → x.kept.entry.number < k → IsBelow k (of_line i xs) → IsBelow k (if b then x.kept ∷ of_line i xs else of_line i xs)
    either_way true small rest = (small, rest)
    either_way false small rest = rest

-- and so has each of its entries
pub below_item : (n k : ℕ) (xs : List Item) → RunsFrom n xs → n + length xs ≤ k → (i : ℕ) (y : Item) → get_elem? xs i ≡ some y → y.kept.entry.number < k
below_item n k [] r l i y e = absurd (some-ne-none y (sym e))
below_item n k (x ∷ xs) r l zero y e = let number = r.0.number in subst (λ (z : Item). z.kept.entry.number < k) (some-injective x y e) (omega arith)
below_item n k (x ∷ xs) r l (suc i) y e = below_item (n + 1) k xs r.1 (omega arith) i y e

pub below_front : (k : ℕ) (xs ys : List KeptEntry) → IsBelow k (xs ++ ys) → IsBelow k xs
below_front k [] ys b = tt
below_front k (x ∷ xs) ys b = (b.0, below_front k xs ys b.1)

pub below_begins : (k : ℕ) (xs ys : List KeptEntry) → IsPrefix xs ys → IsBelow k ys → IsBelow k xs
below_begins k xs ys p b = below_front k xs p.0 (subst (IsBelow k) (sym p.1) b)

-- an entry stands in its role's line and in its caller's, and in no other
pub role_in : (i : ℕ) (x : Item) → i ≡ x.role → is_in i x ≡ true
role_in i x e = ap (λ b. b || (i == caller_line x.kept.entry.made.caller)) (eq-eqb i x.role e)

pub caller_in : (i : ℕ) (x : Item) → i ≡ caller_line x.kept.entry.made.caller → is_in i x ≡ true
caller_in i x e = ap (λ b. (i == x.role) || b) (eq-eqb i (caller_line x.kept.entry.made.caller) e) ∙ either_way (i == x.role)
  where
    either_way : (b : Bool) → (b || true) ≡ true
    either_way true = refl
    either_way false = refl

pub in_cases : (i : ℕ) (x : Item) → is_in i x ≡ true → (i ≡ x.role) ⊎ (i ≡ caller_line x.kept.entry.made.caller)
in_cases i x e = ⊎_elim (λ t. inl (eqb-true i x.role t)) (λ t. inr (eqb-true i (caller_line x.kept.entry.made.caller) t)) (or_cases (i == x.role) (i == caller_line x.kept.entry.made.caller) e)

-- the lengths of the lines below k, added up
abbrev lengths : ℕ → List Item → ℕ
lengths zero xs = 0
lengths (suc k) xs = length (of_line k xs) + lengths k xs

line_grows : (i : ℕ) (x : Item) (xs : List Item) → length (of_line i xs) ≤ length (of_line i (x ∷ xs))
line_grows i x xs = either_way (is_in i x)
  where
    either_way : (b : Bool) → length (of_line i xs) ≤ length (if b then x.kept ∷ of_line i xs else of_line i xs)
    either_way true = omega arith
    either_way false = omega arith

lengths_grow : (k : ℕ) (x : Item) (xs : List Item) → lengths k xs ≤ lengths k (x ∷ xs)
lengths_grow zero x xs = omega arith
lengths_grow (suc k) x xs = let a = line_grows k x xs in let b = lengths_grow k x xs in omega arith

lengths_more : (k : ℕ) (x : Item) (xs : List Item) → x.role < k → lengths k xs + 1 ≤ lengths k (x ∷ xs)
lengths_more zero x xs l = absurd (omega arith)
lengths_more (suc k) x xs l = ⊎_elim
    (λ (e : x.role ≡ k). let a : length (of_line k (x ∷ xs)) ≡ length (of_line k xs) + 1 = ap (λ b. length (if b then x.kept ∷ of_line k xs else of_line k xs)) (role_in k x (sym e)) ∙ omega arith in
    let b = lengths_grow k x xs in omega arith)
    (λ (n : x.role ≡ k → ⊥). let a = lengths_more k x xs (omega (arith, n)) in let b = line_grows k x xs in omega arith)
    (cases_eq x.role k)

few : (xs : List Item) (n : ℕ) → RunsFrom n xs → length xs ≤ lengths 10 xs
few [] n r = omega arith
few (x ∷ xs) n r = let rest = few xs (n + 1) r.1 in let small = r.0.stands.one in let more = lengths_more 10 x xs (omega arith) in omega arith

-- the word can't wrap
pub bounded : (xs : List Item) (n : ℕ) → RunsFrom n xs → ((i : ℕ) → i < 10 → length (of_line i xs) ≤ 4294967295) → length xs ≤ 42949672950
bounded xs n r limit = let f = few xs n r in
    let a = limit 0 (omega arith) in let b = limit 1 (omega arith) in let c = limit 2 (omega arith) in let d = limit 3 (omega arith) in let e = limit 4 (omega arith) in
    let g = limit 5 (omega arith) in let h = limit 6 (omega arith) in let j = limit 7 (omega arith) in let k = limit 8 (omega arith) in let l = limit 9 (omega arith) in omega arith

-- what a view knows of a line when an entry is added to two of them
at_grown_here : (ls : List (List KeptEntry)) (i : ℕ) (k : KeptEntry) → at [] (grown ls i k) i ≡ at [] ls i ++ k ∷ []
at_grown_here ls i k = at_put_here [] ls i (at [] ls i ++ k ∷ [])

at_grown_else : (ls : List (List KeptEntry)) (i j : ℕ) (k : KeptEntry) → j ≢ i → at [] (grown ls i k) j ≡ at [] ls j
at_grown_else ls i j k n = at_put_else [] ls i j (at [] ls i ++ k ∷ []) n

pub appended_in : (v : View) (x : Item) (i : ℕ) → x.role < 10 → is_in i x ≡ true → known (appended v x.role x.kept) i ≡ known v i ++ x.kept ∷ []
appended_in v x i small e =
    let c : ℕ = caller_line x.kept.entry.made.caller in let once : List (List KeptEntry) = grown v.known x.role x.kept in
    ⊎_elim
    (λ (r : i ≡ x.role). subst (λ j. at [] (grown once c x.kept) j ≡ at [] v.known j ++ x.kept ∷ []) (sym r)
    (at_grown_else once c x.role x.kept (λ e. omega arith) ∙ at_grown_here v.known x.role x.kept))
    (λ (r : i ≡ c). subst (λ j. at [] (grown once c x.kept) j ≡ at [] v.known j ++ x.kept ∷ []) (sym r)
    (at_grown_here once c x.kept ∙ ap (λ ks. ks ++ x.kept ∷ []) (at_grown_else v.known x.role c x.kept (λ e. omega arith))))
    (in_cases i x e)

pub appended_out : (v : View) (x : Item) (i : ℕ) → is_in i x ≡ false → known (appended v x.role x.kept) i ≡ known v i
appended_out v x i e =
    let c : ℕ = caller_line x.kept.entry.made.caller in let once : List (List KeptEntry) = grown v.known x.role x.kept in
    at_grown_else once c i x.kept (λ r. both_ways (is_in i x) e (caller_in i x r)) ∙ at_grown_else v.known x.role i x.kept (λ r. both_ways (is_in i x) e (role_in i x r))

pub grows : (v : View) (r : ℕ) (k : KeptEntry) → r < 10 → GrowsByEntry v (appended v r k) r k
grows v r k small = let x : Item = record { role = r; kept = k } in record {
  role = appended_in v x r small (role_in r x refl);
  caller = appended_in v x (caller_line k.entry.made.caller) small (caller_in (caller_line k.entry.made.caller) x refl);
  others = λ i not_role not_caller. appended_out v x i (⊎_elim (λ e. absurd (⊎_elim not_role not_caller (in_cases i x e))) (λ e. e) (cases_Bool (is_in i x)));
  owns = refl;
}
