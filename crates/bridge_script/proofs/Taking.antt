-- What stands at places is taken from the front of words in one way: so far the operands xs were taken, and whatever
-- operands with a rest the words are, they go on from xs. So the words of a line behind its thread are taken in one way
-- too, whatever follows: its first word tells the operation, that one its places, and these the operands.
use Rattle.std.proofs.Common.{◌≡◌, ℕ, ◌+◌, ◌<◌, ◌≤◌, List, [], ◌∷◌, ◌++◌, length, drop, get_or, Option, Some, None, IfSome, MatchOption, sym, ◌∙◌, ap, refl, arith, subst, append_assoc, append-nil}
use Rattle.std.proofs.Common.{add-one, drop-cons, length-drop}
use Rattle.std.proofs.lemmas.List.{nil_from_length}
use Rattle.joint_machine.specs.declared.names.Thread.{Thread}
use Rattle.joint_machine.specs.declared.names.Thread.TheVariants.{M, P, C}
use Rattle.joint_machine.specs.declared.lines.Act.{Act}
use Rattle.joint_machine.specs.declared.lines.Act.TheVariants as act
use Rattle.joint_machine.specs.Lines.{IsLine, IsThread}
use Rattle.joint_machine.proofs.Deciding.{some-same}
use Rattle.bridge_script.specs.declared.faults.Cause.{Cause}
use Rattle.bridge_script.specs.declared.grammar.Operation.{Operation}
use Rattle.bridge_script.specs.declared.grammar.Place.{Place}
use Rattle.bridge_script.specs.declared.operands.Operand.{Operand}
use Rattle.bridge_script.specs.Words.{act_words}
use Rattle.bridge_script.specs.Grammar.{operation_text, form_of}
use Rattle.bridge_script.specs.Answers.{operation_of}
use Rattle.bridge_script.specs.Faults.{HasAt}
use Rattle.bridge_script.specs.Operands.{operand_text, texts, StandsAt, StandAll, act_at, IsPossible}
use Rattle.bridge_script.proofs.Standing.{fits, same_operands}
use Rattle.bridge_script.proofs.Readings.{same_operation}
use Rattle.bridge_script.proofs.Table.{has_row}
use Rattle.bridge_script.proofs.Asking.{asked_of}

-- operands that stand at the places that are left make the whole, behind those that were taken
pub record Goes (ps : List Place) (ws : List (List ℕ)) (xs zs : List Operand) (rest : List (List ℕ)) : Type 0 where
  pub more : List Operand
  pub whole : zs ≡ xs ++ more
  pub stand : StandAll ps more
  pub left : ws ≡ texts more ++ rest

-- what is known where these places and words are left
pub record Took (places : List Place) (words : List (List ℕ)) (ps : List Place) (ws : List (List ℕ)) (xs : List Operand) : Type 0 where
  pub stand : (ys : List Operand) → StandAll ps ys → StandAll places (xs ++ ys)
  pub begins : words ≡ texts xs ++ ws
  pub only : (zs : List Operand) (rest : List (List ℕ)) → StandAll places zs → words ≡ texts zs ++ rest → Goes ps ws xs zs rest

pub took_none : (places : List Place) (words : List (List ℕ)) → Took places words places words []
took_none places words = record { stand = λ ys s. s; begins = refl; only = λ zs rest s e. record { more = zs; whole = refl; stand = s; left = e } }

texts_push : (xs : List Operand) (x : Operand) (ws : List (List ℕ)) → texts (xs ++ x ∷ []) ++ ws ≡ texts xs ++ (operand_text x ∷ ws)
texts_push [] x ws = refl
texts_push (y ∷ xs) x ws = ap (λ t. operand_text y ∷ t) (texts_push xs x ws)

-- the operand of the next word is the one that was taken
next_goes : (p : Place) (ps : List Place) (ws : List (List ℕ)) (xs zs : List Operand) (rest : List (List ℕ)) (x : Operand)
    → StandsAt p x → Goes (p ∷ ps) (operand_text x ∷ ws) xs zs rest → Goes ps ws (xs ++ x ∷ []) zs rest
next_goes p ps ws xs zs rest x s g = by g.more g.whole g.stand g.left
  where
    by : (more : List Operand) → zs ≡ xs ++ more → StandAll (p ∷ ps) more → operand_text x ∷ ws ≡ texts more ++ rest → Goes ps ws (xs ++ x ∷ []) zs rest
    by [] e t l = absurd t
    by (y ∷ more) e t l =
        let text : operand_text x ≡ operand_text y = cc in
        let word : texts (x ∷ []) ≡ texts (y ∷ []) = ap (λ w. w ∷ []) text in
        let same : x ∷ [] ≡ y ∷ [] = same_operands (p ∷ []) (x ∷ []) (y ∷ []) (s, tt) (t.0, tt) word in
        let one : xs ++ (y ∷ more) ≡ (xs ++ x ∷ []) ++ more = sym (append_assoc xs (y ∷ []) more) ∙ ap (λ z. (xs ++ z) ++ more) (sym same) in
        record { more = more; whole = e ∙ one; stand = t.1; left = cc }

pub took_more : (places : List Place) (words : List (List ℕ)) (p : Place) (ps : List Place) (ws : List (List ℕ)) (xs : List Operand) (x : Operand)
    → StandsAt p x → Took places words (p ∷ ps) (operand_text x ∷ ws) xs → Took places words ps ws (xs ++ x ∷ [])
took_more places words p ps ws xs x s k =
    let S : List Operand → Type 0 = λ z. StandAll places z in
    record {
      stand = λ ys t. subst S (sym (append_assoc xs (x ∷ []) ys)) (k.stand (x ∷ ys) (s, t));
      begins = k.begins ∙ sym (texts_push xs x ws);
      only = λ zs rest t e. next_goes p ps ws xs zs rest x s (k.only zs rest t e);
    }

-- no operands go on where no word is left, or where the next has a cause at its place
no_word : (p : Place) (ps : List Place) (xs zs : List Operand) (rest : List (List ℕ)) → Goes (p ∷ ps) [] xs zs rest → ⊥
no_word p ps xs zs rest g = by g.more g.stand g.left
  where
    by : (more : List Operand) → StandAll (p ∷ ps) more → [] ≡ texts more ++ rest → ⊥
    by [] t l = t
    by (y ∷ more) t l = cc

no_operand : (p : Place) (ps : List Place) (w : List ℕ) (ws : List (List ℕ)) (xs zs : List Operand) (rest : List (List ℕ)) (c : Cause) → HasAt c p w → Goes (p ∷ ps) (w ∷ ws) xs zs rest → ⊥
no_operand p ps w ws xs zs rest c h g = by g.more g.stand g.left
  where
    by : (more : List Operand) → StandAll (p ∷ ps) more → w ∷ ws ≡ texts more ++ rest → ⊥
    by [] t l = t
    by (y ∷ more) t l = (let e : w ≡ operand_text y = cc in let F : List ℕ → Type 0 = λ z. HasAt c p z in fits p y t.0 c (subst F e h))

-- the places from one on are that place and the others
place_of : (places : List Place) (i : ℕ) (d : Place) → i < length places → drop i places ≡ get_or places i d ∷ drop (i + 1) places
place_of places i d l = rw add-one (drop-cons places i d l)

pub took_next : (places : List Place) (words : List (List ℕ)) (i : ℕ) (d : Place) (w : List ℕ) (us ws : List (List ℕ)) (xs : List Operand) (x : Operand)
    → i < length places → us ≡ w ∷ ws → StandsAt (get_or places i d) x → operand_text x ≡ w → Took places words (drop i places) us xs
    → Took places words (drop (i + 1) places) ws (xs ++ x ∷ [])
took_next places words i d w us ws xs x l e s t k =
    let F : List Place → Type 0 = λ p. Took places words p us xs in
    let G : List (List ℕ) → Type 0 = λ u. Took places words (get_or places i d ∷ drop (i + 1) places) u xs in
    took_more places words (get_or places i d) (drop (i + 1) places) ws xs x s (subst G (e ∙ ap (λ z. z ∷ ws) (sym t)) (subst F (place_of places i d l) k))

pub none_left : (places : List Place) (words : List (List ℕ)) (i : ℕ) (d : Place) (us : List (List ℕ)) (xs zs : List Operand) (rest : List (List ℕ))
    → i < length places → us ≡ [] → Took places words (drop i places) us xs → StandAll places zs → words ≡ texts zs ++ rest → ⊥
none_left places words i d us xs zs rest l e k s t =
    let F : List Place → Type 0 = λ p. Took places words p us xs in
    let G : List (List ℕ) → Type 0 = λ u. Took places words (get_or places i d ∷ drop (i + 1) places) u xs in
    no_word (get_or places i d) (drop (i + 1) places) xs zs rest ((subst G e (subst F (place_of places i d l) k)).only zs rest s t)

pub none_here : (places : List Place) (words : List (List ℕ)) (i : ℕ) (d : Place) (w : List ℕ) (us ws : List (List ℕ)) (xs zs : List Operand) (rest : List (List ℕ)) (c : Cause)
    → i < length places → us ≡ w ∷ ws → HasAt c (get_or places i d) w → Took places words (drop i places) us xs → StandAll places zs → words ≡ texts zs ++ rest → ⊥
none_here places words i d w us ws xs zs rest c l e h k s t =
    let F : List Place → Type 0 = λ p. Took places words p us xs in
    let G : List (List ℕ) → Type 0 = λ u. Took places words (get_or places i d ∷ drop (i + 1) places) u xs in
    no_operand (get_or places i d) (drop (i + 1) places) w ws xs zs rest c h ((subst G e (subst F (place_of places i d l) k)).only zs rest s t)

-- no place is left
pub took_all : (places : List Place) (words : List (List ℕ)) (i : ℕ) (ws : List (List ℕ)) (xs : List Operand)
    → length places ≤ i → Took places words (drop i places) ws xs → StandAll places xs × (words ≡ texts xs ++ ws)
took_all places words i ws xs l k =
    let none : drop i places ≡ [] = nil_from_length (drop i places) (omega (arith, length-drop i places)) in
    let F : List Place → Type 0 = λ p. Took places words p ws xs in
    let S : List Operand → Type 0 = λ z. StandAll places z in
    (subst S (append-nil xs) ((subst F none k).stand [] tt), k.begins)

-- the kind of an act that a line can have allows what stands beside it
possible : (t : Thread) (a : Act) → IsLine t a → IsPossible a
possible (M m) (act.New v k n) l = l.1.1
possible (P m) (act.New v k n) l = absurd l.1
possible C (act.New v k n) l = absurd l
possible (M m) (act.Bridge v k n s f) l = l.1.1
possible (P m) (act.Bridge v k n s f) l = absurd l.1
possible C (act.Bridge v k n s f) l = absurd l
possible t a l = tt

-- the row by which a line's words were taken is its own
pub record IsRowOf (t : Thread) (a : Act) (o : Operation) (ps : List Place) (mid rest : List (List ℕ)) : Type 0 where
  pub operands : List Operand
  pub stand : StandAll ps operands
  pub act : act_at o operands ≡ Some a
  pub possible : IsPossible a
  pub words : mid ≡ texts operands ++ rest

pub row_of : (t : Thread) (a : Act) (o : Operation) (ps : List Place) (words mid rest : List (List ℕ)) → form_of t o ≡ Some ps
    → words ≡ operation_text o ∷ mid → IsLine t a → words ≡ act_words t a ++ rest → IsRowOf t a o ps mid rest
row_of t a o ps words mid rest f w l e =
    let r = has_row t a l in
    let both : operation_text o ∷ mid ≡ operation_text (operation_of a) ∷ (texts r.operands ++ rest) = sym w ∙ (e ∙ ap (λ z. z ++ rest) r.words) in
    let text : operation_text o ≡ operation_text (operation_of a) = cc in
    let same : o ≡ operation_of a = same_operation t o (operation_of a) ps r.places f r.form text in
    let here : ps ≡ r.places = some-same ps r.places (sym f ∙ (ap (form_of t) same ∙ r.form)) in
    let S : List Place → Type 0 = λ p. StandAll p r.operands in
    record { operands = r.operands; stand = subst S (sym here) r.stand; act = ap (λ z. act_at z r.operands) same ∙ r.act; possible = possible t a l; words = cc }

-- a thread's line has a row
pub no_row : (t : Thread) (a : Act) (words rest : List (List ℕ))
    → ((o : Operation) (ps : List Place) (more : List (List ℕ)) → form_of t o ≡ Some ps → words ≡ operation_text o ∷ more → ⊥) → IsLine t a → words ≡ act_words t a ++ rest → ⊥
no_row t a words rest n l e = let r = has_row t a l in n (operation_of a) r.places (texts r.operands ++ rest) r.form (e ∙ ap (λ z. z ++ rest) r.words)

-- the act of operands at the places of a row is a line, and has the words that were taken
pub taken_line : (t : Thread) (o : Operation) (ps : List Place) (xs : List Operand) (a : Act) (words mid rest : List (List ℕ)) → IsThread t
    → form_of t o ≡ Some ps → StandAll ps xs → act_at o xs ≡ Some a → IsPossible a → words ≡ operation_text o ∷ mid → mid ≡ texts xs ++ rest
    → IsLine t a × (words ≡ act_words t a ++ rest)
taken_line t o ps xs a words mid rest h f s m p w e =
    let k = asked_of t o ps xs f s in
    let same : k.act ≡ a = some-same k.act a (sym k.is ∙ m) in
    let L : Act → Type 0 = λ z. IsPossible z → IsLine t z × (words ≡ act_words t z ++ rest) in
    subst L same (λ q. (k.lawful h q, w ∙ (ap (λ z. operation_text o ∷ z) e ∙ ap (λ z. z ++ rest) (sym k.words)))) p

-- what is made of the operands of a row is a line, and there is no other line with these words
pub lines_only : (t : Thread) (o : Operation) (ps : List Place) (xs : List Operand) (words mid rest : List (List ℕ)) (r : Option Act)
    → IsThread t → form_of t o ≡ Some ps → StandAll ps xs → words ≡ operation_text o ∷ mid → mid ≡ texts xs ++ rest
    → MatchOption r ((a : Act) → act_at o xs ≡ Some a → IsPossible a → ⊥) (λ a. (act_at o xs ≡ Some a) × IsPossible a) → IfSome r (λ a. IsLine t a × (words ≡ act_words t a ++ rest))
lines_only t o ps xs words mid rest None h f s w e m = tt
lines_only t o ps xs words mid rest (Some a) h f s w e m = taken_line t o ps xs a words mid rest h f s m.0 m.1 w e

pub lines_all : (t : Thread) (o : Operation) (ps : List Place) (xs : List Operand) (mid rest : List (List ℕ)) (b : Act) (r : Option Act) (row : IsRowOf t b o ps mid rest) → xs ≡ row.operands
    → MatchOption r ((a : Act) → act_at o xs ≡ Some a → IsPossible a → ⊥) (λ a. (act_at o xs ≡ Some a) × IsPossible a) → r ≡ Some b
lines_all t o ps xs mid rest b None row e m = absurd (m b (ap (act_at o) e ∙ row.act) row.possible)
lines_all t o ps xs mid rest b (Some a) row e m = sym m.0 ∙ (ap (act_at o) e ∙ row.act)
