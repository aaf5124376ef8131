-- What two seats know of one run is, together, a past of it. By recursion over both pasts, latest entries first. Where
-- the two latest are one entry, it is dropped from one. Else the one with the greater number, x, is put in front of
-- what is joined behind it: x isn't in the other past, whose numbers are smaller, so in the lines of x the other past
-- has no more than the first has behind x, and what is asked of x is as it was.
use Rattle.std.proofs.Common.{◌≡◌, ◌⊎◌, inl, inr, ⊎_elim, ℕ, zero, suc, ◌+◌, ◌<◌, ◌≤◌, Bool, true, false, List, [], ◌∷◌, ◌++◌, length, refl, sym, ap, ◌∙◌, subst, arith, length-append}
use Rattle.std.specs.Prelude.{if◌then◌else◌}
use Rattle.std.proofs.lemmas.Bool.{cases_Bool, cases_order, cases_lt}
use mathlib.Core.List.{IsPrefix}
use base.Growing.{prefix_refl, prefix_trans, prefix_anti}
use Rattle.joint_machine.specs.Told.{Noted}
use Rattle.known_laws.specs.Known.{MayComeLater}
use Rattle.known_laws.specs.Pasts.{role_of, own_of, is_in, line, of_line, PastRunsFrom, end_of, Lawful, Within, IsFrozenIn, Joined, PastsJoin, next_of}
use Rattle.known_laws.specs.PastEntries.{InPast}
use Rattle.known_laws.proofs.PastLines.{in_right, in_begins, in_role, in_own, line_in, line_out, line-in, in-line, in-of_line, one-number, length_begins, shorter_begins, snoc_begins}
use Rattle.known_laws.proofs.Moving.{may_move}

-- all that stands behind an entry has smaller numbers
pub below : (x : Noted) (h : List Noted) (e : Noted) → MayComeLater (next_of h) (end_of h) x → Lawful h → InPast h e → e.entry.number < x.entry.number
below x [] e m l p = absurd p
below x (y ∷ h) e m l p = let z = m.later in ⊎_elim
    (λ (q : y ≡ e). let w : y.entry.number ≡ e.entry.number = ap (λ (n : Noted). n.entry.number) q in omega arith)
    (λ q. let w = below y h e l.0 l.1 q in omega arith) p

-- and a number above all is the next or a later one
pub counted : (n : ℕ) (h : List Noted) → ((e : Noted) → InPast h e → e.entry.number < n) → next_of h ≤ n
counted n [] f = omega arith
counted n (y ∷ h) f = let w = f y (inl refl) in omega arith

module _ (whole : List Noted) where
  pub within_past : (x : Noted) (h : List Noted) → Within whole (x ∷ h) → Within whole h
  within_past x h w i = prefix_trans (line i h) (line i (x ∷ h)) (of_line i whole) (either_way (is_in i x)) (w i)
    where
      either_way : (b : Bool) → IsPrefix (line i h) (if b then line i h ++ x ∷ [] else line i h)
      either_way true = snoc_begins (line i h) x
      either_way false = prefix_refl (line i h)

  not_longer_past : (xs zs ys : List Noted) (x : Noted) → IsPrefix (xs ++ x ∷ []) zs → IsPrefix ys zs → (InPast ys x → ⊥) → length ys ≤ length xs
  not_longer_past xs zs ys x p q n = ⊎_elim
      (λ (l : length xs < length ys).
      let b : IsPrefix (xs ++ x ∷ []) ys = shorter_begins (xs ++ x ∷ []) ys zs p q (omega (arith, length-append xs (x ∷ []))) in
      absurd (n (in_begins (xs ++ x ∷ []) ys x b (in_right xs (x ∷ []) x (inl refl)))))
      (λ (l : length ys ≤ length xs). l)
      (cases_lt (length xs) (length ys))

  pub behind_past : (i : ℕ) (x : Noted) (a b : List Noted) → Within whole (x ∷ a) → Within whole b
      → ((e : Noted) → InPast b e → e.entry.number < x.entry.number) → is_in i x ≡ true → length (line i b) ≤ length (line i a)
  behind_past i x a b wa wb later t = not_longer_past (line i a) (of_line i whole) (line i b) x (subst (λ l. IsPrefix l (of_line i whole)) (line_in i x a t) (wa i)) (wb i)
      (λ p. let l = later x (in-line i b x p) in omega arith)

pub in_whole_past : (whole : List Noted) (x : Noted) (h : List Noted) → InPast h x → Within whole h → InPast whole x
in_whole_past whole x h p w = in-of_line (role_of x) whole x (in_begins (line (role_of x) h) (of_line (role_of x) whole) x (w (role_of x)) (line-in (role_of x) h x p (in_role x)))

module _ (whole : List Noted) (runs : PastRunsFrom 0 whole) (frozen : IsFrozenIn whole) where
  -- of two beginnings of one line, of which the longer isn't longer, both are one
  one_line : (i : ℕ) (xs ys : List Noted) → IsPrefix xs ys → IsPrefix xs (of_line i whole) → IsPrefix ys (of_line i whole) → length ys ≤ length xs → ys ≡ xs
  one_line i xs ys p q r l = prefix_anti ys xs (shorter_begins ys xs (of_line i whole) r q l) p

  -- the joined past with what is known of it while it grows
  record Both (a b : List Noted) : Type 0 where
    joined : Joined a b
    either : (e : Noted) → InPast joined.past e → InPast a e ⊎ InPast b e

  joined_within : (a b : List Noted) (j : Joined a b) → Within whole a → Within whole b → Within whole j.past
  joined_within a b j wa wb i = ⊎_elim (λ e. subst (λ l. IsPrefix l (of_line i whole)) (sym e) (wa i)) (λ e. subst (λ l. IsPrefix l (of_line i whole)) (sym e) (wb i)) (j.longer_one i)

  -- the first past's latest entry is put in front of what is joined behind it
  put_first : (x : Noted) (a b : List Noted) → Lawful (x ∷ a) → Lawful b → Within whole (x ∷ a)
      → Within whole b → ((e : Noted) → InPast b e → e.entry.number < x.entry.number) → Both a b → Both (x ∷ a) b
  put_first x a b la lb wa wb later k = record {
    joined = record {
      past = x ∷ j.past;
      lawful = (
        may_move a j.past x (λ e. frozen a j.past la.1 j.lawful (within_past whole x a wa)
            (joined_within a b j (within_past whole x a wa) wb) (sym (subst (λ i. line i j.past ≡ line i a) e (here (own_of x) (in_own x)))))
            (sym (here (role_of x) (in_role x))) (sym (here (own_of x) (in_own x))) (counted x.entry.number j.past (λ e p. ⊎_elim (λ q. below x a e la.0 la.1 q) (λ q. later e q) (k.either e p))) la.0,
        j.lawful,
      );
      longer_one = λ i. ⊎_elim
          (λ (t : is_in i x ≡ true). inl (line_in i x j.past t ∙ (ap (λ l. l ++ x ∷ []) (here i t) ∙ sym (line_in i x a t))))
          (λ (f : is_in i x ≡ false). ⊎_elim (λ e. inl (line_out i x j.past f ∙ (e ∙ sym (line_out i x a f)))) (λ e. inr (line_out i x j.past f ∙ e)) (j.longer_one i))
          (cases_Bool (is_in i x));
      first = λ i. ⊎_elim
          (λ (t : is_in i x ≡ true). subst (IsPrefix (line i (x ∷ a))) (line_in i x a t ∙ (ap (λ l. l ++ x ∷ []) (sym (here i t)) ∙ sym (line_in i x j.past t))) (prefix_refl (line i (x ∷ a))))
          (λ (f : is_in i x ≡ false). subst (λ l. IsPrefix l (line i (x ∷ j.past))) (sym (line_out i x a f)) (subst (IsPrefix (line i a)) (sym (line_out i x j.past f)) (j.first i)))
          (cases_Bool (is_in i x));
      second = λ i. ⊎_elim
          (λ (t : is_in i x ≡ true). subst (IsPrefix (line i b)) (sym (line_in i x j.past t))
          (prefix_trans (line i b) (line i j.past) (line i j.past ++ x ∷ []) (j.second i) (snoc_begins (line i j.past) x)))
          (λ (f : is_in i x ≡ false). subst (IsPrefix (line i b)) (sym (line_out i x j.past f)) (j.second i))
          (cases_Bool (is_in i x));
    };
    either = λ e p. ⊎_elim (λ q. inl (inl q)) (λ q. ⊎_elim (λ r. inl (inr r)) (λ r. inr r) (k.either e q)) p;
  }
    where
      j : Joined a b
      j = k.joined

      here : (i : ℕ) → is_in i x ≡ true → line i j.past ≡ line i a
      here i t = ⊎_elim (λ e. e) (λ (e : line i j.past ≡ line i b).
          e ∙ one_line i (line i a) (line i b) (subst (IsPrefix (line i a)) e (j.first i)) (within_past whole x a wa i) (wb i) (behind_past whole i x a b wa wb later t)) (j.longer_one i)

  flip : (a b : List Noted) → Both a b → Both b a
  flip a b k = record {
    joined = record { past = k.joined.past; lawful = k.joined.lawful; longer_one = λ i. ⊎_elim (λ e. inr e) (λ e. inl e) (k.joined.longer_one i); first = k.joined.second; second = k.joined.first };
    either = λ e p. ⊎_elim (λ q. inr q) (λ q. inl q) (k.either e p);
  }

  -- both have the same latest entry
  same_first : (x y : Noted) (a b : List Noted) → x ≡ y → Lawful (x ∷ a) → Lawful (y ∷ b) → Within whole (x ∷ a) → Within whole (y ∷ b) → Both a (y ∷ b) → Both (x ∷ a) (y ∷ b)
  same_first x y a b is la lb wa wb k = record {
    joined = record {
      past = j.past;
      lawful = j.lawful;
      longer_one = λ i. ⊎_elim
          (λ (t : is_in i x ≡ true). inr (there i t))
          (λ (f : is_in i x ≡ false). ⊎_elim (λ e. inl (e ∙ sym (line_out i x a f))) (λ e. inr e) (j.longer_one i))
          (cases_Bool (is_in i x));
      first = λ i. ⊎_elim
          (λ (t : is_in i x ≡ true). subst (IsPrefix (line i (x ∷ a))) (sym (there i t))
          (shorter_begins (line i (x ∷ a)) (line i (y ∷ b)) (of_line i whole) (wa i) (wb i) (let c = longs i t in omega (arith, c.0, c.1, c.2))))
          (λ (f : is_in i x ≡ false). subst (λ l. IsPrefix l (line i j.past)) (sym (line_out i x a f)) (j.first i))
          (cases_Bool (is_in i x));
      second = j.second;
    };
    either = λ e p. ⊎_elim (λ q. inl (inr q)) (λ q. inr q) (k.either e p);
  }
    where
      j : Joined a (y ∷ b)
      j = k.joined

      number : x.entry.number ≡ y.entry.number
      number = ap (λ (z : Noted). z.entry.number) is

      longs : (i : ℕ) → is_in i x ≡ true → (length (line i (x ∷ a)) ≡ length (line i a) + 1) × (length (line i (y ∷ b)) ≡ length (line i b) + 1) × (length (line i a) ≡ length (line i b))
      longs i t =
          let u : is_in i y ≡ true = ap (is_in i) (sym is) ∙ t in
          let m = behind_past whole i x a b wa (within_past whole y b wb) (λ e p. let z = below y b e lb.0 lb.1 p in omega (arith, number, z)) t in
          let n = behind_past whole i y b a wb (within_past whole x a wa) (λ e p. let z = below x a e la.0 la.1 p in omega (arith, number, z)) u in
          (ap length (line_in i x a t) ∙ length-append (line i a) (x ∷ []), ap length (line_in i y b u) ∙ length-append (line i b) (y ∷ []), omega (arith, m, n))

      there : (i : ℕ) → is_in i x ≡ true → line i j.past ≡ line i (y ∷ b)
      there i t = ⊎_elim
          (λ (e : line i j.past ≡ line i a). let c = longs i t in let s = length_begins (line i (y ∷ b)) (line i a) (subst (IsPrefix (line i (y ∷ b))) e (j.second i)) in
          absurd (omega (arith, c.1, c.2, s)))
          (λ e. e) (j.longer_one i)

  join : (k : ℕ) (a b : List Noted) → length a + length b ≤ k → Lawful a → Lawful b → Within whole a → Within whole b → Both a b
  join k [] b l la lb wa wb = record {
    joined = record { past = b; lawful = lb; longer_one = λ i. inr refl; first = λ i. (line i b, refl); second = λ i. prefix_refl (line i b) };
    either = λ e p. inr p;
  }
  join k (x ∷ a) [] l la lb wa wb = record {
    joined = record { past = x ∷ a; lawful = la; longer_one = λ i. inl refl; first = λ i. prefix_refl (line i (x ∷ a)); second = λ i. (line i (x ∷ a), refl) };
    either = λ e p. inl p;
  }
  join zero (x ∷ a) (y ∷ b) l la lb wa wb = absurd (omega arith)
  join (suc k) (x ∷ a) (y ∷ b) l la lb wa wb = ⊎_elim
      (λ (same : x.entry.number ≡ y.entry.number). same_first x y a b
      (one-number 0 whole x y runs (in_whole_past whole x (x ∷ a) (inl refl) wa) (in_whole_past whole y (y ∷ b) (inl refl) wb) same) la lb wa wb
      (join k a (y ∷ b) (omega arith) la.1 lb (within_past whole x a wa) wb))
      (λ differ. ⊎_elim
      (λ (less : x.entry.number < y.entry.number). flip (y ∷ b) (x ∷ a) (put_first y b (x ∷ a) lb la wb wa
      (λ e p. ⊎_elim (λ (q : x ≡ e). let z : x.entry.number ≡ e.entry.number = ap (λ (w : Noted). w.entry.number) q in omega (arith, z, less))
      (λ q. let z = below x a e la.0 la.1 q in omega (arith, z, less)) p)
      (flip (x ∷ a) b (join k (x ∷ a) b (omega arith) la lb.1 wa (within_past whole y b wb)))))
      (λ (more : y.entry.number < x.entry.number). put_first x a (y ∷ b) la lb wa wb
      (λ e p. ⊎_elim (λ (q : y ≡ e). let z : y.entry.number ≡ e.entry.number = ap (λ (w : Noted). w.entry.number) q in omega (arith, z, more))
      (λ q. let z = below y b e lb.0 lb.1 q in omega (arith, z, more)) p)
      (join k a (y ∷ b) (omega arith) la.1 lb (within_past whole x a wa) wb))
      differ)
      (cases_order x.entry.number y.entry.number)

pub pasts_join : PastsJoin
pasts_join whole a b runs frozen la lb wa wb = (join whole runs frozen (length a + length b) a b (omega arith) la lb wa wb).joined
