-- What rows hold once each kept candidate holds the handle that its restore gave.
use Rattle.std.proofs.Common.{◌≡◌, ℕ, zero, suc, ◌<◌, ◌≤◌, ◌⊎◌, inl, inr, List, [], ◌∷◌, ◌++◌, length, Option, Some, refl, sym, ap, subst, ◌∙◌, arith}
use Rattle.std.specs.Prelude.{Contains, slice_get}
use Rattle.std.proofs.lemmas.Bool.{cases_eq}
use Rattle.std.proofs.lemmas.Option.{same_Some}
use Rattle.std.proofs.lemmas.List.Elements.{All-contains, Contains-append_left, Contains-push}
use Rattle.joint_machine.specs.Components.{Rises}
use Rattle.joint_machine.specs.Heaps.{numbered_at, numbered_set}
use Rattle.joint_machine.specs.Managed.{renewed}
use Rattle.joint_machine.specs.ManagedReplay.{AreNew}
use Rattle.joint_machine.specs.Told.{Answer, said_alive, said_cleared, handles_given}
use Rattle.joint_machine.proofs.Deciding.{none_some}
use Rattle.joint_machine.proofs.Members.{Contains-nil, Contains-here, Contains-there, Contains-cons_cases, Contains-at}
use Rattle.joint_machine.proofs.Numbered.{numbered_set-length, numbered_set-same, numbered_set-here, numbered_set-other}

-- the row is a candidate whose restore gave that handle
pub record IsGivenTo (cs : List ℕ) (answers : List Answer) (m g : ℕ) : Type 0 where
  pub place : ℕ
  pub candidate : slice_get cs place ≡ Some m
  pub answer : slice_get answers place ≡ Some (said_alive g)

given-later : (c : ℕ) (cs : List ℕ) (a : Answer) (answers : List Answer) (m g : ℕ) → IsGivenTo cs answers m g → IsGivenTo (c ∷ cs) (a ∷ answers) m g
given-later c cs a answers m g w = record { place = suc w.place; candidate = w.candidate; answer = w.answer }

-- as many as before
pub renewed-length : (held : List (Option ℕ)) (cs : List ℕ) (answers : List Answer) → length (renewed held cs answers) ≡ length held
renewed-length held [] answers = refl
renewed-length held (c ∷ cs) [] = refl
renewed-length held (c ∷ cs) (said_alive g ∷ answers) = renewed-length (numbered_set held c (Some g)) cs answers ∙ numbered_set-length held c (Some g)
renewed-length held (c ∷ cs) (said_cleared ∷ answers) = renewed-length held cs answers

-- what a row holds then it held before, or its restore gave it
pub renewed-cases : (held : List (Option ℕ)) (cs : List ℕ) (answers : List Answer) (m h : ℕ)
    → numbered_at (renewed held cs answers) m ≡ Some (Some h) → (numbered_at held m ≡ Some (Some h)) ⊎ IsGivenTo cs answers m h
renewed-cases held [] answers m h e = inl e
renewed-cases held (c ∷ cs) [] m h e = inl e
renewed-cases held (c ∷ cs) (said_cleared ∷ answers) m h e = elim (renewed-cases held cs answers m h e) [
  | inl f ↦ inl f
  | inr w ↦ inr (given-later c cs said_cleared answers m h w)
]
renewed-cases held (c ∷ cs) (said_alive g ∷ answers) m h e = elim (renewed-cases (numbered_set held c (Some g)) cs answers m h e) [
  | inr w ↦ inr (given-later c cs (said_alive g) answers m h w)
  | inl f ↦ elim (cases_eq m c) [
    | inr ne ↦ inl (sym (numbered_set-other held c m (Some g) ne) ∙ f)
    | inl same ↦ (
        let own : Some g ≡ Some h = numbered_set-same held c (Some g) (Some h) (subst (λ z. numbered_at (numbered_set held c (Some g)) z ≡ Some (Some h)) same f) in
        inr (record { place = 0; candidate = ap Some (sym same); answer = ap (λ z. Some (said_alive z)) (same_Some g h own) }))
  ]
]

-- a row to which no restore gave a handle holds what it held
pub renewed-other : (held : List (Option ℕ)) (cs : List ℕ) (answers : List Answer) (m : ℕ) → ((g : ℕ) → IsGivenTo cs answers m g → ⊥) → numbered_at (renewed held cs answers) m ≡ numbered_at held m
renewed-other held [] answers m n = refl
renewed-other held (c ∷ cs) [] m n = refl
renewed-other held (c ∷ cs) (said_cleared ∷ answers) m n = renewed-other held cs answers m (λ g w. n g (given-later c cs said_cleared answers m g w))
renewed-other held (c ∷ cs) (said_alive g ∷ answers) m n =
    renewed-other (numbered_set held c (Some g)) cs answers m (λ k w. n k (given-later c cs (said_alive g) answers m k w))
    ∙ numbered_set-other held c m (Some g) (λ same. n g (record { place = 0; candidate = ap Some (sym same); answer = refl }))

-- one to which a restore gave a handle holds that
cleared-alive : (g : ℕ) → said_cleared ≡ said_alive g → ⊥
cleared-alive g e = cc

same-alive : (k g : ℕ) → said_alive k ≡ said_alive g → k ≡ g
same-alive k g e = cc

given-place : (held : List (Option ℕ)) (cs : List ℕ) (answers : List Answer) (m g : ℕ) → Rises cs → 1 ≤ m → m ≤ length held → (i : ℕ)
    → slice_get cs i ≡ Some m → slice_get answers i ≡ Some (said_alive g) → numbered_at (renewed held cs answers) m ≡ Some (Some g)
given-place held [] answers m g r one within i e f = absurd (none_some m e)
given-place held (c ∷ cs) [] m g r one within i e f = absurd (none_some (said_alive g) f)
given-place held (c ∷ cs) (said_cleared ∷ answers) m g r one within zero e f = absurd (cleared-alive g (same_Some said_cleared (said_alive g) f))
given-place held (c ∷ cs) (said_cleared ∷ answers) m g r one within (suc i) e f = given-place held cs answers m g r.1 one within i e f
given-place held (c ∷ cs) (said_alive k ∷ answers) m g r one within zero e f =
    let same : k ≡ g = same-alive k g (same_Some (said_alive k) (said_alive g) f) in
    let own : c ≡ m = same_Some c m e in
    renewed-other (numbered_set held c (Some k)) cs answers m (λ j v. (let lt : c < m = All-contains (λ y. c < y) cs m r.0 (Contains-at cs v.place m v.candidate) in omega (arith, lt, own)))
    ∙ (subst (λ z. numbered_at (numbered_set held z (Some k)) m ≡ Some (Some k)) (sym own) (numbered_set-here held m (Some k) one within) ∙ ap (λ z. Some (Some z)) same)
given-place held (c ∷ cs) (said_alive k ∷ answers) m g r one within (suc i) e f =
    given-place (numbered_set held c (Some k)) cs answers m g r.1 one (subst (λ n. m ≤ n) (sym (numbered_set-length held c (Some k))) within) i e f

pub renewed-given : (held : List (Option ℕ)) (cs : List ℕ) (answers : List Answer) (m g : ℕ) → Rises cs
    → 1 ≤ m → m ≤ length held → IsGivenTo cs answers m g → numbered_at (renewed held cs answers) m ≡ Some (Some g)
renewed-given held cs answers m g r one within w = given-place held cs answers m g r one within w.place w.candidate w.answer

-- the handles that the answers gave
pub given-at : (answers : List Answer) (g : ℕ) → Contains (handles_given answers) g → (i : ℕ) × (slice_get answers i ≡ Some (said_alive g))
given-at [] g c = absurd (Contains-nil g c)
given-at (said_alive h ∷ answers) g c = elim (Contains-cons_cases h (handles_given answers) g c) [
  | inl e ↦ (0, ap (λ z. Some (said_alive z)) e)
  | inr d ↦ let w = given-at answers g d in (suc w.0, w.1)
]
given-at (said_cleared ∷ answers) g c = let w = given-at answers g c in (suc w.0, w.1)

pub at-given : (answers : List Answer) (i g : ℕ) → slice_get answers i ≡ Some (said_alive g) → Contains (handles_given answers) g
at-given [] i g e = absurd (none_some (said_alive g) e)
at-given (a ∷ answers) zero g e = subst (λ z. Contains (handles_given (z ∷ answers)) g) (sym (same_Some a (said_alive g) e)) (Contains-here g (handles_given answers))
at-given (said_alive h ∷ answers) (suc i) g e = Contains-there g h (handles_given answers) (at-given answers i g e)
at-given (said_cleared ∷ answers) (suc i) g e = at-given answers i g e

-- handles that no row ever took, all different
pub new-untaken : (taken hs : List ℕ) (h : ℕ) → AreNew taken hs → Contains hs h → Contains taken h → ⊥
new-untaken taken [] h n c d = Contains-nil h c
new-untaken taken (x ∷ hs) h n c d = elim (Contains-cons_cases x hs h c) [
  | inl e ↦ n.0 (subst (Contains taken) (sym e) d)
  | inr w ↦ new-untaken (taken ++ x ∷ []) hs h n.1 w (Contains-append_left taken (x ∷ []) h d)
]

pub new-once : (taken : List ℕ) (answers : List Answer) (i j h : ℕ) → AreNew taken (handles_given answers)
    → slice_get answers i ≡ Some (said_alive h) → slice_get answers j ≡ Some (said_alive h) → i ≡ j
new-once taken [] i j h n e f = absurd (none_some (said_alive h) e)
new-once taken (a ∷ answers) zero zero h n e f = refl
new-once taken (a ∷ answers) zero (suc j) h n e f = absurd (apart a (same_Some a (said_alive h) e) n)
  where
    apart : (b : Answer) → b ≡ said_alive h → AreNew taken (handles_given (b ∷ answers)) → ⊥
    apart (said_alive k) q m = (let same : k ≡ h = (let p : said_alive k ≡ said_alive h = q in cc) in
        new-untaken (taken ++ k ∷ []) (handles_given answers) h m.1 (at-given answers j h f) (subst (Contains (taken ++ k ∷ [])) same (Contains-push taken k)))
    apart said_cleared q m = (let p : said_cleared ≡ said_alive h = q in cc)
new-once taken (a ∷ answers) (suc i) zero h n e f = absurd (apart a (same_Some a (said_alive h) f) n)
  where
    apart : (b : Answer) → b ≡ said_alive h → AreNew taken (handles_given (b ∷ answers)) → ⊥
    apart (said_alive k) q m = (let same : k ≡ h = (let p : said_alive k ≡ said_alive h = q in cc) in
        new-untaken (taken ++ k ∷ []) (handles_given answers) h m.1 (at-given answers i h e) (subst (Contains (taken ++ k ∷ [])) same (Contains-push taken k)))
    apart said_cleared q m = (let p : said_cleared ≡ said_alive h = q in cc)
new-once taken (said_alive k ∷ answers) (suc i) (suc j) h n e f = ap suc (new-once (taken ++ k ∷ []) answers i j h n.1 e f)
new-once taken (said_cleared ∷ answers) (suc i) (suc j) h n e f = ap suc (new-once taken answers i j h n e f)

-- whether a restore gave the row a handle
given-first : (c : ℕ) (cs : List ℕ) (a : Answer) (answers : List Answer) (m : ℕ) → ((g : ℕ) → IsGivenTo cs answers m g → ⊥)
    → ((g : ℕ) → c ≡ m → a ≡ said_alive g → ⊥) → (g : ℕ) → IsGivenTo (c ∷ cs) (a ∷ answers) m g → ⊥
given-first c cs a answers m n no_first g w = at w.place w.candidate w.answer
  where
    at : (i : ℕ) → slice_get (c ∷ cs) i ≡ Some m → slice_get (a ∷ answers) i ≡ Some (said_alive g) → ⊥
    at zero e f = no_first g (same_Some c m e) (same_Some a (said_alive g) f)
    at (suc i) e f = n g (record { place = i; candidate = e; answer = f })

pub given-or : (cs : List ℕ) (answers : List Answer) (m : ℕ) → ((g : ℕ) × IsGivenTo cs answers m g) ⊎ ((g : ℕ) → IsGivenTo cs answers m g → ⊥)
given-or [] answers m = inr (λ g w. none_some m w.candidate)
given-or (c ∷ cs) [] m = inr (λ g w. none_some (said_alive g) w.answer)
given-or (c ∷ cs) (said_cleared ∷ answers) m = elim (given-or cs answers m) [
  | inl w ↦ inl (w.0, given-later c cs said_cleared answers m w.0 w.1)
  | inr n ↦ inr (given-first c cs said_cleared answers m n (λ g e f. cleared-alive g f))
]
given-or (c ∷ cs) (said_alive h ∷ answers) m = elim (given-or cs answers m) [
  | inl w ↦ inl (w.0, given-later c cs (said_alive h) answers m w.0 w.1)
  | inr n ↦ elim (cases_eq c m) [
    | inr ne ↦ inr (given-first c cs (said_alive h) answers m n (λ g e f. ne e))
    | inl e ↦ inl (h, record { place = 0; candidate = ap Some e; answer = refl })
  ]
]
