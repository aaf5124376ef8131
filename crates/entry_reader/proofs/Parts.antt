-- What a word is read as is taken as one word, exactly. And things that stand one behind another are taken as the
-- whole: so far, whatever whole the words begin with, what is left begins with the rest of it.
use Rattle.std.proofs.Common.{◌≡◌, ◌≢◌, ℕ, List, [], ◌∷◌, ◌++◌, Option, Some, None, MatchOption, sym, ◌∙◌, ap, append_assoc}
use Rattle.entry_reader.specs.Taking.{Reads, Takes}

-- no word is left
pub no_word : {A : Type 0} (good : A → Type 0) (text : A → List ℕ) (old new : List (List ℕ)) → old ≡ [] → Takes good (λ x. text x ∷ []) old new None
no_word good text old new e = record { sound = tt; complete = λ x rest g f. absurd (let a = e in let b = f in cc) }

-- a word was read
pub one_word : {A : Type 0} (good : A → Type 0) (text : A → List ℕ) (old new : List (List ℕ)) (word : List ℕ) (result : Option A)
    → old ≡ word ∷ new → Reads good text word result → Takes good (λ x. text x ∷ []) old new result
one_word good text old new word None e n = record { sound = tt; complete = λ x rest g f. absurd (n x g (let a = e in let b = f in cc)) }
one_word good text old new word (Some y) e h = record { sound = (h.0, e ∙ ap (λ w. w ∷ new) (sym h.1)); complete = λ x rest g f. (tt, (let a = e in let b = f in cc)) }

-- the same where every value has a text
pub no_plain_word : {A : Type 0} (text : A → List ℕ) (old new : List (List ℕ)) → old ≡ [] → Takes (λ (x : A). Unit {0}) (λ x. text x ∷ []) old new None
no_plain_word {A} text old new e = no_word (λ (x : A). Unit {0}) text old new e

pub one_plain_word : {A : Type 0} (text : A → List ℕ) (old new : List (List ℕ)) (word : List ℕ) (result : Option A) → old ≡ word ∷ new
    → MatchOption result ((x : A) → text x ≢ word) (λ x. text x ≡ word) → Takes (λ (x : A). Unit {0}) (λ x. text x ∷ []) old new result
one_plain_word {A} text old new word None e n = one_word (λ (x : A). Unit {0}) text old new word None e (λ x g. n x)
one_plain_word {A} text old new word (Some y) e h = one_word (λ (x : A). Unit {0}) text old new word (Some y) e (tt, h)

-- two words, of which the second is always the same
pub two_empty : {A : Type 0} (good : A → Type 0) (text : A → List ℕ) (last : List ℕ) (old new : List (List ℕ)) → old ≡ [] → Takes good (λ x. text x ∷ last ∷ []) old new None
two_empty good text last old new e = record { sound = tt; complete = λ x rest g f. absurd (let a = e in let b = f in cc) }

pub two_unread : {A : Type 0} (good : A → Type 0) (text : A → List ℕ) (last : List ℕ) (old mid new : List (List ℕ)) (w : List ℕ)
    → old ≡ w ∷ mid → ((x : A) → good x → text x ≢ w) → Takes good (λ x. text x ∷ last ∷ []) old new None
two_unread good text last old mid new w e n = record { sound = tt; complete = λ x rest g f. absurd (n x g (let a = e in let b = f in cc)) }

pub two_short : {A : Type 0} (good : A → Type 0) (text : A → List ℕ) (last : List ℕ) (old mid new : List (List ℕ)) (w : List ℕ)
    → old ≡ w ∷ mid → mid ≡ [] → Takes good (λ x. text x ∷ last ∷ []) old new None
two_short good text last old mid new w e m = record { sound = tt; complete = λ x rest g f. absurd (let a = e in let b = f in let d = m in cc) }

pub two_other : {A : Type 0} (good : A → Type 0) (text : A → List ℕ) (last : List ℕ) (old mid new : List (List ℕ)) (w v : List ℕ)
    → old ≡ w ∷ mid → mid ≡ v ∷ new → v ≢ last → Takes good (λ x. text x ∷ last ∷ []) old new None
two_other good text last old mid new w v e m d = record { sound = tt; complete = λ x rest g f. absurd (d (let a = e in let b = f in let k = m in cc)) }

pub two_words : {A : Type 0} (good : A → Type 0) (text : A → List ℕ) (last : List ℕ) (old mid new : List (List ℕ)) (w v : List ℕ) (x : A)
    → old ≡ w ∷ mid → mid ≡ v ∷ new → good x → text x ≡ w → v ≡ last → Takes good (λ x. text x ∷ last ∷ []) old new (Some x)
two_words good text last old mid new w v x e m g t d = record {
  sound = (g, e ∙ (ap (λ z. w ∷ z) m ∙ (ap (λ z. z ∷ v ∷ new) (sym t) ∙ ap (λ z. text x ∷ z ∷ new) d)));
  complete = λ y rest h f. (tt, (let a = e in let b = f in let k = m in cc));
}

-- what is left of the wholes
pub record Goes {C : Type 0} (good : C → Type 0) (text rests : C → List (List ℕ)) (old left : List (List ℕ)) : Type 0 where
  pub only : (o : C) (rest : List (List ℕ)) → good o → old ≡ text o ++ rest → left ≡ rests o ++ rest

-- each whole goes on with a part
abbrev pub Splits : {A C : Type 0} → (A → Type 0) → (A → List (List ℕ)) → (C → Type 0) → (C → List (List ℕ)) → (C → List (List ℕ)) → Type 0
Splits ga ta good rests behind = (o : _) → good o → (x : _) × ga x × (rests o ≡ ta x ++ behind o)

pub goes_all : {C : Type 0} (good : C → Type 0) (text : C → List (List ℕ)) (old : List (List ℕ)) → Goes good text text old old
goes_all good text old = record { only = λ o rest g e. e }

behind_part : {A C : Type 0} (ga : A → Type 0) (ta : A → List (List ℕ)) (good : C → Type 0) (text rests behind : C → List (List ℕ)) (old left : List (List ℕ))
    → Splits ga ta good rests behind → Goes good text rests old left → (o : C) (rest : List (List ℕ)) → good o → old ≡ text o ++ rest
    → (x : A) × ga x × (left ≡ ta x ++ (behind o ++ rest))
behind_part ga ta good text rests behind old left s g o rest q e =
    let p = s o q in
    (p.0, p.1, g.only o rest q e ∙ (ap (λ z. z ++ rest) p.2 ∙ append_assoc (ta p.0) (behind o) rest))

-- a part was taken
pub goes_on : {A C : Type 0} (ga : A → Type 0) (ta : A → List (List ℕ)) (good : C → Type 0) (text rests behind : C → List (List ℕ)) (old left new : List (List ℕ)) (r : Option A)
    → Splits ga ta good rests behind → Takes ga ta left new r → Goes good text rests old left → Goes good text behind old new
goes_on ga ta good text rests behind old left new r s t g = record {
  only = λ o rest q e.
      (let p = behind_part ga ta good text rests behind old left s g o rest q e in (t.complete p.0 (behind o ++ rest) p.1 p.2).1);
}

-- none was, so there is no whole
pub goes_wrong : {A C : Type 0} (ga : A → Type 0) (ta : A → List (List ℕ)) (good : C → Type 0) (text rests behind : C → List (List ℕ)) (old left new : List (List ℕ))
    → Splits ga ta good rests behind → Takes ga ta left new None → Goes good text rests old left → Takes good text old new None
goes_wrong ga ta good text rests behind old left new s t g = record {
  sound = tt;
  complete = λ o rest q e. absurd (let p = behind_part ga ta good text rests behind old left s g o rest q e in (t.complete p.0 (behind o ++ rest) p.1 p.2).0);
}

-- all parts were taken
pub goes_whole : {C : Type 0} (good : C → Type 0) (text rests : C → List (List ℕ)) (old new : List (List ℕ)) (o : C)
    → ((x : C) → good x → rests x ≡ []) → Goes good text rests old new → good o → old ≡ text o ++ new → Takes good text old new (Some o)
goes_whole good text rests old new o n g q e = record { sound = (q, e); complete = λ x rest h f. (tt, g.only x rest h f ∙ ap (λ z. z ++ rest) (n x h)) }
