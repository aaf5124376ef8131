-- Two pasts of one run are told the same of each entry that both have. By induction: behind an entry that both have
-- latest, each line in which it stands is the same entries with the same notes. So the entry, with what the one past
-- tells, may come after the other past too, and what may be told plainly of an entry at a state is one. So there is one
-- whole run with notes of which both are pasts, and the join law of noted pasts holds of them.
use Rattle.std.proofs.Common.{◌≡◌, inl, inr, ⊎_elim, ℕ, zero, suc, ◌+◌, ◌<◌, ◌≤◌, Bool, true, false, List, [], ◌∷◌, ◌++◌, length, map, Option, Some, None, refl, sym, ap, ◌∙◌, subst, arith, eqb}
use Rattle.std.proofs.Common.{eq-eqb, ne_eqb, true≢false}
use Rattle.std.specs.Prelude.{if◌then◌else◌}
use Rattle.std.proofs.lemmas.Bool.{cases_Bool, eqb-true}
use Rattle.std.proofs.lemmas.Option.{same_Some}
use base.Growing.{prefix_anti}
use Rattle.joint_machine.specs.declared.events.Entry.{Entry}
use Rattle.joint_machine.specs.Lines.{is_read}
use Rattle.joint_machine.specs.PinsTold.{is_pinned, bare_told, pins_told}
use Rattle.joint_machine.specs.Linked.{Linkage}
use Rattle.joint_machine.specs.Told.{Noted, nothing}
use Rattle.known_laws.specs.Known.{MayComeLater, Comes, given, pinned}
use Rattle.known_laws.specs.PastEntries.{TellsPlainly, InPast}
use Rattle.known_laws.proofs.Bared.{same_told}
use Rattle.known_laws.specs.Telling.{MayBeTold}
use Rattle.known_laws.specs.Pasts.{role_of, own_of, is_in, line, of_line, PastRunsFrom, end_of, Lawful, Within, bare, AreWithin, AreAlike, PastsAgree, EntryPastsJoin, next_of}
use Rattle.known_laws.proofs.PastLines.{in_role, in_own, in-line, one-number, shorter_begins}
use Rattle.known_laws.proofs.PastsJoin.{below, within_past, behind_past, in_whole_past}
use Rattle.known_laws.proofs.Moving.{may_move}
use Rattle.known_laws.proofs.FrozenPasts.{frozen_in, known_pasts_join}
use Rattle.known_laws.proofs.Telling.{told_is_one}

abbrev pub find : ℕ → List Noted → Option Noted
find k [] = None
find k (x ∷ h) = if eqb x.entry.number k then Some x else find k h

abbrev pub or_else : Option Noted → Noted → Noted
or_else None y = y
or_else (Some x) y = x

-- what a and b tell of an entry
abbrev pub tell : List Noted → List Noted → Noted → Noted
tell a b w = or_else (find w.entry.number a) (or_else (find w.entry.number b) (bare w))

found : (k : ℕ) (h : List Noted) (x : Noted) → find k h ≡ Some x → InPast h x × (x.entry.number ≡ k)
found k [] x e = absurd (cc)
found k (y ∷ h) x e = ⊎_elim
    (λ (t : eqb y.entry.number k ≡ true). let q : y ≡ x = same_Some _ _ (sym (ap (λ c. if c then Some y else find k h) t) ∙ e) in
    (inl q, sym (ap (λ (z : Noted). z.entry.number) q) ∙ eqb-true y.entry.number k t))
    (λ (f : eqb y.entry.number k ≡ false). let w = found k h x (sym (ap (λ c. if c then Some y else find k h) f) ∙ e) in (inr w.0, w.1))
    (cases_Bool (eqb y.entry.number k))

find_here : (h : List Noted) (x : Noted) → Lawful h → InPast h x → find x.entry.number h ≡ Some x
find_here [] x l p = absurd p
find_here (y ∷ h) x l p = ⊎_elim
    (λ (q : y ≡ x). ap (λ c. if c then Some y else find x.entry.number h) (eq-eqb y.entry.number x.entry.number (ap (λ (z : Noted). z.entry.number) q)) ∙ ap Some q)
    (λ q. let n = below y h x l.0 l.1 q in ap (λ c. if c then Some y else find x.entry.number h) (ne_eqb y.entry.number x.entry.number (λ e. omega (arith, n, e))) ∙ find_here h x l.1 q)
    p

in_map : (f : Noted → Noted) (xs : List Noted) (e : Noted) → InPast xs e → InPast (map f xs) (f e)
in_map f [] e p = absurd p
in_map f (x ∷ xs) e p = ⊎_elim (λ q. inl (ap f q)) (λ q. inr (in_map f xs e q)) p

pub in_bare : (xs : List Noted) (e : Noted) → InPast (map bare xs) e → (z : Noted) × InPast xs z × (bare z ≡ e)
in_bare [] e p = absurd p
in_bare (x ∷ xs) e p = ⊎_elim (λ q. (x, inl refl, q)) (λ q. let w = in_bare xs e q in (w.0, inr w.1, w.2)) p

map_append : (f : Noted → Noted) (xs ys : List Noted) → map f (xs ++ ys) ≡ map f xs ++ map f ys
map_append f [] ys = refl
map_append f (x ∷ xs) ys = λ i. f x ∷ map_append f xs ys i

map_self : (f : Noted → Noted) (xs : List Noted) → ((x : Noted) → InPast xs x → f x ≡ x) → map f xs ≡ xs
map_self f [] h = refl
map_self f (x ∷ xs) h = λ i. h x (inl refl) i ∷ map_self f xs (λ y p. h y (inr p)) i

map_bare : (f : Noted → Noted) (xs : List Noted) → ((x : Noted) → f (bare x) ≡ f x) → map f (map bare xs) ≡ map f xs
map_bare f [] h = refl
map_bare f (x ∷ xs) h = λ i. h x i ∷ map_bare f xs h i

length_map : (f : Noted → Noted) (xs : List Noted) → length (map f xs) ≡ length xs
length_map f [] = refl
length_map f (x ∷ xs) = ap suc (length_map f xs)

of_line_map : (f : Noted → Noted) (i : ℕ) (ws : List Noted) → ((w : Noted) → InPast ws w → (f w).entry ≡ w.entry) → of_line i (map f ws) ≡ map f (of_line i ws)
of_line_map f i [] h = refl
of_line_map f i (w ∷ ws) h =
    ap (λ (e : Entry). if is_in i (record { entry = e; told = nothing }) then f w ∷ of_line i (map f ws) else of_line i (map f ws)) (h w (inl refl))
    ∙ either_way (is_in i w) (of_line_map f i ws (λ x p. h x (inr p)))
  where
    either_way : (b : Bool) → of_line i (map f ws) ≡ map f (of_line i ws) → (if b then f w ∷ of_line i (map f ws) else of_line i (map f ws)) ≡ map f (if b then w ∷ of_line i ws else of_line i ws)
    either_way true e = λ k. f w ∷ e k
    either_way false e = e

pub line_bare : (i : ℕ) (h : List Noted) → line i (map bare h) ≡ map bare (line i h)
line_bare i [] = refl
line_bare i (x ∷ h) = either_way (is_in i x) (line_bare i h)
  where
    either_way : (b : Bool) → line i (map bare h) ≡ map bare (line i h)
        → (if b then line i (map bare h) ++ bare x ∷ [] else line i (map bare h)) ≡ map bare (if b then line i h ++ x ∷ [] else line i h)
    either_way true e = ap (λ l. l ++ bare x ∷ []) e ∙ sym (map_append bare (line i h) (x ∷ []))
    either_way false e = e

runs_bare : (n : ℕ) (ws : List Noted) → PastRunsFrom n ws → PastRunsFrom n (map bare ws)
runs_bare n [] r = tt
runs_bare n (w ∷ ws) r = (r.0, runs_bare (n + 1) ws r.1)

runs_told : (f : Noted → Noted) (n : ℕ) (ws : List Noted) → ((w : Noted) → InPast ws w → (f w).entry ≡ w.entry) → PastRunsFrom n ws → PastRunsFrom n (map f ws)
runs_told f n [] h r = tt
runs_told f n (w ∷ ws) h r = (ap (λ (e : Entry). e.number) (h w (inl refl)) ∙ r.0, runs_told f (n + 1) ws (λ x p. h x (inr p)) r.1)

-- what is told of an entry at one state is one, with the same pins
one_told : (s : Linkage) (x y : Noted) → x.entry ≡ y.entry → pins_told x.told ≡ pins_told y.told → Comes (is_read x.entry.made.op) s x → TellsPlainly s.control.stand x.entry.made.op (bare_told x.told)
    → Comes (is_read y.entry.made.op) s y → TellsPlainly s.control.stand y.entry.made.op (bare_told y.told) → x.told ≡ y.told
one_told s x y entry pins a p b q = by (is_read x.entry.made.op) (is_read y.entry.made.op) (ap (λ (e : Entry). is_read e.made.op) entry) a b
  where
    by : (r u : Bool) → r ≡ u → Comes r s x → Comes u s y → x.told ≡ y.told
    by true true e a b = a.bare ∙ sym b.bare
    by true false e a b = absurd (true≢false e)
    by false true e a b = absurd (true≢false (sym e))
    by false false e a b =
        let w : MayBeTold (given s y.told) y.entry (bare_told y.told) = (b.comes, q) in
        let v : MayBeTold (given s x.told) x.entry (bare_told y.told) = subst (λ z. MayBeTold (pinned s z) x.entry (bare_told y.told))
        (sym pins) (subst (λ e. MayBeTold (given s y.told) e (bare_told y.told)) (sym entry) w) in
        same_told x.told y.told (a.tells ∙ (ap (λ (e : Entry). is_pinned e.made.op) entry ∙ sym b.tells)) pins
        (told_is_one (given s x.told) x.entry (bare_told x.told) (bare_told y.told) (a.comes, p) v)

module _ (whole : List Noted) (runs : PastRunsFrom 0 whole) where
  rest_within : (x : Noted) (h : List Noted) → AreWithin whole (x ∷ h) → AreWithin whole h
  rest_within x h w = within_past (map bare whole) (bare x) (map bare h) w

  bare_in : (x : Noted) (h : List Noted) → InPast h x → AreWithin whole h → InPast (map bare whole) (bare x)
  bare_in x h p w = in_whole_past (map bare whole) (bare x) (map bare h) (in_map bare h x p) w

  same_entry : (x w : Noted) (h : List Noted) → InPast h x → AreWithin whole h → InPast whole w → x.entry.number ≡ w.entry.number → x.entry ≡ w.entry
  same_entry x w h p a q e = ap (λ (z : Noted). z.entry) (one-number 0 (map bare whole) (bare x) (bare w) (runs_bare 0 whole runs) (bare_in x h p a) (in_map bare whole w q) e)

  both_bare : (x y : Noted) (a b : List Noted) → InPast a x → InPast b y → AreWithin whole a → AreWithin whole b → x.entry.number ≡ y.entry.number → bare x ≡ bare y
  both_bare x y a b p q wa wb e = (one-number 0 (map bare whole) (bare x) (bare y) (runs_bare 0 whole runs) (bare_in x a p wa) (bare_in y b q wb) e)

  tell_entry : (a b : List Noted) → AreWithin whole a → AreWithin whole b → (w : Noted) → InPast whole w → (tell a b w).entry ≡ w.entry
  tell_entry a b wa wb w p = by (find w.entry.number a) refl
    where
      by_b : (o : Option Noted) → find w.entry.number b ≡ o → (or_else o (bare w)).entry ≡ w.entry
      by_b None e = refl
      by_b (Some y) e = let f = found w.entry.number b y e in same_entry y w b f.0 wb p f.1

      by : (o : Option Noted) → find w.entry.number a ≡ o → (or_else o (or_else (find w.entry.number b) (bare w))).entry ≡ w.entry
      by None e = by_b (find w.entry.number b) refl
      by (Some x) e = let f = found w.entry.number a x e in same_entry x w a f.0 wa p f.1

  told : List Noted → List Noted → List Noted
  told a b = map (tell a b) whole

  pub within_told : (a b h : List Noted) → AreWithin whole a → AreWithin whole b → AreWithin whole h → ((x : Noted) → InPast h x → tell a b x ≡ x) → Within (map (tell a b) whole) h
  within_told a b h wa wb wh self i =
      let p = wh i in
      let t = tell a b in
      let e : of_line i (map t whole) ≡ map t (of_line i (map bare whole)) =
      of_line_map t i whole (tell_entry a b wa wb) ∙ (sym (map_bare t (of_line i whole) (λ x. refl)) ∙ ap (map t) (sym (of_line_map bare i whole (λ w q. refl)))) in
      let s : map t (line i (map bare h)) ≡ line i h = ap (map t) (line_bare i h) ∙ (map_bare t (line i h) (λ x. refl) ∙ map_self t (line i h) (λ x q. self x (in-line i h x q))) in
      (map t p.0, sym (e ∙ (ap (map t) (sym p.1) ∙ (map_append t (line i (map bare h)) p.0 ∙ ap (λ l. l ++ map t p.0) s))))

  pub self_a : (a b : List Noted) → Lawful a → (x : Noted) → InPast a x → tell a b x ≡ x
  self_a a b l x p = ap (λ o. or_else o (or_else (find x.entry.number b) (bare x))) (find_here a x l p)

  pub self_b : (a b : List Noted) → Lawful b → AreAlike a b → (y : Noted) → InPast b y → tell a b y ≡ y
  self_b a b l alike y p = by (find y.entry.number a) refl
    where
      by : (o : Option Noted) → find y.entry.number a ≡ o → or_else o (or_else (find y.entry.number b) (bare y)) ≡ y
      by None e = ap (λ o. or_else o (bare y)) (find_here b y l p)
      by (Some x) e = let f = found y.entry.number a x e in alike x y f.0 p f.1

  -- the two latest entries, where they have one number
  heads : (x y : Noted) (a b : List Noted) → Lawful (x ∷ a) → Lawful (y ∷ b) → AreWithin whole (x ∷ a) → AreWithin whole (y ∷ b) → AreAlike a b → x.entry.number ≡ y.entry.number → x ≡ y
  heads x y a b la lb wa wb alike number =
      let bares : bare x ≡ bare y = both_bare x y (x ∷ a) (y ∷ b) (inl refl) (inl refl) wa wb number in
      let entry : x.entry ≡ y.entry = ap (λ (z : Noted). z.entry) bares in
      let pins : pins_told x.told ≡ pins_told y.told = ap (λ (z : Noted). pins_told z.told) bares in
      let ra = rest_within x a wa in
      let rb = rest_within y b wb in
      let na = within_told a b a ra rb ra (self_a a b la.1) in
      let nb = within_told a b b ra rb rb (self_b a b lb.1 alike) in
      let lines : (i : ℕ) → is_in i x ≡ true → line i a ≡ line i b = λ i t.
      let u : is_in i y ≡ true = ap (λ (e : Entry). is_in i (record { entry = e; told = nothing })) (sym entry) ∙ t in
      let m = behind_past (map bare whole) i (bare x) (map bare a) (map bare b) wa rb (λ e p. below_bare y b x lb number e p) t in
      let n = behind_past (map bare whole) i (bare y) (map bare b) (map bare a) wb ra (λ e p. below_bare x a y la (sym number) e p) u in
      let ea = ap length (line_bare i a) ∙ length_map bare (line i a) in
      let eb = ap length (line_bare i b) ∙ length_map bare (line i b) in
      prefix_anti (line i a) (line i b)
      (shorter_begins (line i a) (line i b) (of_line i (map (tell a b) whole)) (na i) (nb i) (omega (arith, m, n, ea, eb)))
      (shorter_begins (line i b) (line i a) (of_line i (map (tell a b) whole)) (nb i) (na i) (omega (arith, m, n, ea, eb))) in
      let moved : MayComeLater (next_of b) (end_of b) x = may_move a b x (λ e. frozen_in (map (tell a b) whole) a b la.1 lb.1 na nb (subst (λ i. line i a ≡ line i b) e (lines (own_of x) (in_own x))))
      (lines (role_of x) (in_role x)) (lines (own_of x) (in_own x)) (let l = lb.0.later in omega (arith, l, number)) la.0 in
      let same : x.told ≡ y.told = one_told (end_of b) x y entry pins moved.comes moved.plain lb.0.comes lb.0.plain in
      λ i. record { entry = entry i; told = same i }
    where
      below_bare : (y : Noted) (b : List Noted) (x : Noted) → Lawful (y ∷ b) → x.entry.number ≡ y.entry.number → (e : Noted) → InPast (map bare b) e → e.entry.number < x.entry.number
      below_bare y b x l n e p = let z = in_bare b e p in let w = below y b z.0 l.0 l.1 z.1 in let q = ap (λ (u : Noted). u.entry.number) z.2 in omega (arith, w, q, n)

  agree : (k : ℕ) (a b : List Noted) → length a + length b ≤ k → Lawful a → Lawful b → AreWithin whole a → AreWithin whole b → AreAlike a b
  agree k [] b l la lb wa wb x y p q e = absurd p
  agree k (z ∷ a) [] l la lb wa wb x y p q e = absurd q
  agree zero (z ∷ a) (w ∷ b) l la lb wa wb x y p q e = absurd (omega arith)
  agree (suc k) (z ∷ a) (w ∷ b) l la lb wa wb x y p q e = ⊎_elim
      (λ (s : z ≡ x). ⊎_elim
      (λ (t : w ≡ y).
      let n : z.entry.number ≡ w.entry.number = ap (λ (u : Noted). u.entry.number) s ∙ (e ∙ sym (ap (λ (u : Noted). u.entry.number) t)) in
      let inner : AreAlike a b = agree k a b (omega arith) la.1 lb.1 (rest_within z a wa) (rest_within w b wb) in
      sym s ∙ (heads z w a b la lb wa wb inner n ∙ t))
      (λ t. agree k (z ∷ a) b (omega arith) la lb.1 wa (rest_within w b wb) x y p t e)
      q)
      (λ s. agree k a (w ∷ b) (omega arith) la.1 lb (rest_within z a wa) wb x y s q e)
      p

pub pasts_agree : PastsAgree
pasts_agree whole a b runs la lb wa wb = agree whole runs (length a + length b) a b (omega arith) la lb wa wb

pub entry_pasts_join : EntryPastsJoin
entry_pasts_join whole a b runs la lb wa wb =
    known_pasts_join (map (tell a b) whole) a b (runs_told (tell a b) 0 whole (tell_entry whole runs a b wa wb) runs) la lb
    (within_told whole runs a b a wa wb wa (self_a whole runs a b la)) (within_told whole runs a b b wa wb wb (self_b whole runs a b lb (pasts_agree whole a b runs la lb wa wb)))
