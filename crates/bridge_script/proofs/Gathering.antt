-- Words are read at places one after another: what is left of both has the causes that were not found yet, and where
-- none was found, operands that stand at the places that are left make the whole.
use Rattle.std.proofs.Common.{◌≡◌, ◌≢◌, ℕ, ◌+◌, ◌<◌, ◌≤◌, Bool, true, false, cond, List, [], ◌∷◌, ◌++◌, length, Option, Some, None, Result, Ok, Err, IfSome, sym, ap, refl, arith, subst, inl, inr, ◌⊎◌}
use Rattle.std.proofs.Common.{lit≤, append_assoc, append-nil, get_or, drop, drop-cons, add-one, length-append, length-drop}
use Rattle.std.proofs.Math.Dec.{leb}
use Rattle.std.proofs.lemmas.Bool.Decides.{leb_tells}
use Rattle.std.proofs.lemmas.List.{nil_from_length}
use Rattle.bridge_script.specs.declared.faults.Cause.{Cause}
use Rattle.bridge_script.specs.declared.faults.Cause.TheVariants as cause
use Rattle.bridge_script.specs.declared.grammar.Place.{Place}
use Rattle.bridge_script.specs.declared.operands.Operand.{Operand}
use Rattle.bridge_script.specs.Causes.{cause_number}
use Rattle.bridge_script.specs.Faults.{HasAt, HasAtSome, IsFirst}
use Rattle.bridge_script.specs.Operands.{operand_text, texts, StandsAt, StandAll, HasAtPlaces, ReadsAt, Notes, earlier}
use Rattle.bridge_script.proofs.Standing.{fits}
use Rattle.bridge_script.proofs.Fitting.{none_at}

-- a cause was found that comes no later
abbrev pub IsBehind : Option Cause → Cause → Type 0
IsBehind None c = ⊥
IsBehind (Some b) c = cause_number b ≤ cause_number c

-- what is known where these places and words are left, the first of the causes so far is `first`, and the operands so
-- far are `xs`
pub record Gathered (places : List Place) (words : List (List ℕ)) (ps : List Place) (ws : List (List ℕ)) (first : Option Cause) (xs : List Operand) : Type 0 where
  pub count : length words + length ps ≡ length places + length ws
  pub found : IfSome first (λ b. HasAtSome b places words)
  pub known : (c : Cause) → HasAtSome c places words → IsBehind first c ⊎ HasAtSome c ps ws
  pub left : (c : Cause) → HasAtSome c ps ws → HasAtSome c places words
  pub whole : first ≡ None → (ys : List Operand) → StandAll ps ys → texts ys ≡ ws → StandAll places (xs ++ ys) × (texts (xs ++ ys) ≡ words)

pick : (P : Cause → Type 0) (t : Bool) (b c : Cause) → P b → P c → P (cond t b c)
pick P true b c p q = p
pick P false b c p q = q

earlier_one : (P : Cause → Type 0) (first : Option Cause) (c : Cause) → IfSome first P → P c → P (earlier first c)
earlier_one P None c p q = q
earlier_one P (Some b) c p q = pick P (leb (cause_number b) (cause_number c)) b c p q

least : (b c d : Cause) → (t : Bool) → ((t ≡ true) × (cause_number b ≤ cause_number c)) ⊎ ((t ≡ false) × (cause_number c < cause_number b))
    → (cause_number b ≤ cause_number d) ⊎ (d ≡ c) → cause_number (cond t b c) ≤ cause_number d
least b c d true (inl l) (inl h) = h
least b c d true (inl l) (inr e) = omega (arith, ap cause_number e, l.1)
least b c d true (inr l) h = absurd (let e = l.0 in cc)
least b c d false (inl l) h = absurd (let e = l.0 in cc)
least b c d false (inr l) (inl h) = omega (arith, l.1)
least b c d false (inr l) (inr e) = omega (arith, ap cause_number e)

earlier_least : (first : Option Cause) (c d : Cause) → IsBehind first d ⊎ (d ≡ c) → cause_number (earlier first c) ≤ cause_number d
earlier_least None c d (inl h) = absurd h
earlier_least None c d (inr e) = omega (arith, ap cause_number e)
earlier_least (Some b) c d h = least b c d (leb (cause_number b) (cause_number c)) (leb_tells (cause_number b) (cause_number c)) h

put : (places : List Place) (words : List (List ℕ)) (p : Place) (w : List ℕ) (ps : List Place) (ws : List (List ℕ)) (first : Option Cause) (xs : List Operand) (x : Operand)
    → StandsAt p x → operand_text x ≡ w → Gathered places words (p ∷ ps) (w ∷ ws) first xs → Gathered places words ps ws first (xs ++ x ∷ [])
put places words p w ps ws first xs x s e g =
    let F : List ℕ → Type 0 = λ t. (c : Cause) → HasAt c p t → ⊥ in
    let none = subst F e (fits p x s) in
    record {
      count = omega (arith, g.count);
      found = g.found;
      known = λ c h. elim (g.known c h) [ inl a ↦ inl a | inr k ↦ elim k [ inl a ↦ absurd (none c a) | inr a ↦ inr a ] ];
      left = λ c h. g.left c (inr h);
      whole = λ n ys t u.
          let v = g.whole n (x ∷ ys) (s, t) (let a = u in let b = e in cc) in
          let W : List Operand → Type 0 = λ z. StandAll places z × (texts z ≡ words) in
          subst W (sym (append_assoc xs (x ∷ []) ys)) v;
    }

noted : (places : List Place) (words : List (List ℕ)) (p : Place) (w : List ℕ) (ps : List Place) (ws : List (List ℕ)) (first : Option Cause) (xs : List Operand) (c : Cause)
    → HasAt c p w → ((d : Cause) → HasAt d p w → d ≡ c) → Gathered places words (p ∷ ps) (w ∷ ws) first xs → Gathered places words ps ws (Some (earlier first c)) xs
noted places words p w ps ws first xs c h only g = record {
  count = omega (arith, g.count);
  found = earlier_one (λ b. HasAtSome b places words) first c g.found (g.left c (inl h));
  known = λ d k. elim (g.known d k) [ inl a ↦ inl (earlier_least first c d (inl a)) | inr a ↦ elim a [ inl b ↦ inl (earlier_least first c d (inr (only d b))) | inr b ↦ inr b ] ];
  left = λ d k. g.left d (inr k);
  whole = λ e ys s t. absurd (cc);
}

-- one more word
pub gathered_more : (places : List Place) (words : List (List ℕ)) (p : Place) (w : List ℕ) (ps : List Place) (ws : List (List ℕ)) (r : Result Operand Cause)
    (first now : Option Cause) (xs ys : List Operand) → ReadsAt p w r → Notes r xs ys first now → Gathered places words (p ∷ ps) (w ∷ ws) first xs → Gathered places words ps ws now ys
gathered_more places words p w ps ws (Ok x) first now xs ys r n g =
    let F : Option Cause → Type 0 = λ f. Gathered places words ps ws f ys in
    let G : List Operand → Type 0 = λ z. Gathered places words ps ws first z in
    subst F (sym n.1) (subst G (sym n.0) (put places words p w ps ws first xs x r.0 r.1 g))
gathered_more places words p w ps ws (Err c) first now xs ys r n g =
    let F : Option Cause → Type 0 = λ f. Gathered places words ps ws f ys in
    let G : List Operand → Type 0 = λ z. Gathered places words ps ws (Some (earlier first c)) z in
    subst F (sym n.1) (subst G (sym n.0) (noted places words p w ps ws first xs c r.0 r.1 g))

behind_arity : (ps : List Place) (ws : List (List ℕ)) (d : Cause) → HasAtPlaces ps ws d → 2 ≤ cause_number d
behind_arity ps ws cause.Unknown h = absurd (none_at cause.Unknown (λ p w x. x) ps ws h)
behind_arity ps ws d h = lit≤ tt

-- another number of words than of places is the first cause
pub arity_first : (ps : List Place) (ws : List (List ℕ)) → length ws ≢ length ps → IsFirst (HasAtPlaces ps ws) cause.Arity
arity_first ps ws n = record { here = n; first = behind_arity ps ws }

at_places : (ps : List Place) (ws : List (List ℕ)) (c : Cause) → HasAtSome c ps ws → HasAtPlaces ps ws c
at_places ps ws cause.Arity h = absurd (none_at cause.Arity (λ p w x. x) ps ws h)
at_places ps ws c h = h

all_behind : (places : List Place) (words : List (List ℕ)) (c : Cause) (xs : List Operand)
    → Gathered places words [] [] (Some c) xs → (d : Cause) → HasAtPlaces places words d → cause_number c ≤ cause_number d
all_behind places words c xs g cause.Arity h = absurd (h (omega (arith, g.count)))
all_behind places words c xs g d h = elim (g.known d h) [ inl a ↦ a | inr a ↦ absurd a ]

-- where nothing is left, the cause that was found is the first
pub found_first : (places : List Place) (words : List (List ℕ)) (c : Cause) (xs : List Operand) → Gathered places words [] [] (Some c) xs → IsFirst (HasAtPlaces places words) c
found_first places words c xs g = record { here = at_places places words c g.found; first = all_behind places words c xs g }

-- and where none was found, the operands are all
pub all_gathered : (places : List Place) (words : List (List ℕ)) (xs : List Operand) → Gathered places words [] [] None xs → StandAll places xs × (texts xs ≡ words)
all_gathered places words xs g = let W : List Operand → Type 0 = λ z. StandAll places z × (texts z ≡ words) in subst W (append-nil xs) (g.whole refl [] tt refl)

-- the next word
pub gathered_next : (places : List Place) (words : List (List ℕ)) (i : ℕ) (d : Place) (w : List ℕ) (us ws : List (List ℕ)) (r : Result Operand Cause) (first now : Option Cause) (xs ys : List Operand)
    → i < length places → us ≡ w ∷ ws → ReadsAt (get_or places i d) w r → Notes r xs ys first now
    → Gathered places words (drop i places) us first xs → Gathered places words (drop (i + 1) places) ws now ys
gathered_next places words i d w us ws r first now xs ys l e a n g =
    let F : List (List ℕ) → Type 0 = λ u. Gathered places words (drop i places) u first xs in
    let G : List Place → Type 0 = λ p. Gathered places words p (w ∷ ws) first xs in
    let here : drop i places ≡ get_or places i d ∷ drop (i + 1) places = rw add-one (drop-cons places i d l) in
    gathered_more places words (get_or places i d) w (drop (i + 1) places) ws r first now xs ys a n (subst G here (subst F e g))

pub few_more : (r : Result Operand Cause) (first now : Option Cause) (xs ys : List Operand) → Notes r xs ys first now → length ys ≤ length xs + 1
few_more (Ok x) first now xs ys n = omega (arith, ap length n.0, length-append xs (x ∷ []))
few_more (Err c) first now xs ys n = omega (arith, ap length n.0)

-- no place is left
pub gathered_all : (places : List Place) (words : List (List ℕ)) (i : ℕ) (ws : List (List ℕ)) (first : Option Cause) (xs : List Operand)
    → length places ≤ i → Gathered places words (drop i places) ws first xs → Gathered places words [] ws first xs
gathered_all places words i ws first xs l g =
    let none : drop i places ≡ [] = nil_from_length (drop i places) (omega (arith, length-drop i places)) in
    let F : List Place → Type 0 = λ p. Gathered places words p ws first xs in
    subst F none g

pub words_missing : (places : List Place) (words : List (List ℕ)) (i : ℕ) (ws : List (List ℕ)) (first : Option Cause) (xs : List Operand)
    → i < length places → ws ≡ [] → Gathered places words (drop i places) ws first xs → length words ≢ length places
words_missing places words i ws first xs l e g n = omega (arith, g.count, length-drop i places, ap length e)

pub words_left : (places : List Place) (words : List (List ℕ)) (ws : List (List ℕ)) (first : Option Cause) (xs : List Operand)
    → ws ≢ [] → Gathered places words [] ws first xs → length words ≢ length places
words_left places words [] first xs n g e = n refl
words_left places words (w ∷ ws) first xs n g e = omega (arith, g.count)
