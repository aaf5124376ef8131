-- What threads have in hand when one of them goes on to its next event.
use Rattle.std.proofs.Common.{◌≡◌, ℕ, zero, suc, ◌+◌, ◌<◌, ◌⊎◌, inl, inr, List, [], ◌∷◌, ◌++◌, Some, set, replicate, refl, sym, ap, subst, ◌∙◌, arith}
use Rattle.std.specs.Prelude.{Contains, slice_get}
use Rattle.std.proofs.lemmas.Option.{same_Some}
use Rattle.joint_machine.specs.Control.{Doing, free, given}
use Rattle.joint_machine.specs.ManagedReplay.{ManagedReplay}
use Rattle.joint_machine.specs.Peers.{Issued}
use Rattle.joint_machine.specs.PeerReplay.{PeerReplay}
use Rattle.joint_laws.specs.PeerInvariants.{IsIssued}
use Rattle.joint_laws.specs.LinkedInvariants.{doing_in, HasInHand, HasPeer, HasMadePair, HasLent, IsLoose, IsVirgin, CallersInvariant, put_hands}
use Rattle.joint_machine.specs.Told.{Answer, said_alive, said_cleared}
use Rattle.joint_machine.proofs.Deciding.{none_some}

-- a thread's entry is the written one, or as before; and as before for the thread itself only past the end
pub doing-set_cases : (ds : List Doing) (t : ℕ) (d : Doing) (u : ℕ) → ((u ≡ t) × (doing_in (set ds t d) u ≡ d)) ⊎ ((doing_in (set ds t d) u ≡ doing_in ds u) × (u ≡ t → doing_in ds u ≡ free))
doing-set_cases [] t d u = inr (refl, λ e. refl)
doing-set_cases (x ∷ ds) zero d zero = inl (refl, refl)
doing-set_cases (x ∷ ds) zero d (suc u) = inr (refl, λ e. absurd (let f : ⊥ = cc in f))
doing-set_cases (x ∷ ds) (suc t) d zero = inr (refl, λ e. absurd (let f : ⊥ = cc in f))
doing-set_cases (x ∷ ds) (suc t) d (suc u) = elim (doing-set_cases ds t d u) [
  | inl w ↦ inl (ap suc w.0, w.1)
  | inr w ↦ inr (w.0, λ e. w.1 (let f : u ≡ t = cc in f))
]

pub in_hand-free : (h : ℕ) → HasInHand free h → ⊥
in_hand-free h w = w

pub opening-free : (n t : ℕ) → doing_in (replicate n free) t ≡ free
opening-free zero t = refl
opening-free (suc n) zero = refl
opening-free (suc n) (suc t) = opening-free n t

pub CallersInvariant-opening : (r : ManagedReplay) (s : PeerReplay) (n : ℕ) → CallersInvariant r s (replicate n free)
CallersInvariant-opening r s n = record {
  loose = λ t h w. absurd (subst (λ z. HasInHand z h) (opening-free n t) w);
  apart = λ t u h w v. absurd (subst (λ z. HasInHand z h) (opening-free n t) w);
  peers = λ t h p w. absurd (subst (λ z. HasPeer z h p) (opening-free n t) w);
  virgins = λ t h p w. absurd (subst (λ z. HasMadePair z h p) (opening-free n t) w);
  lent_ones = λ t h w. absurd (subst (λ z. HasLent z h) (opening-free n t) w);
}

-- the thread comes to be in the midst of something else
pub record MayHave (r : ManagedReplay) (s : PeerReplay) (ds : List Doing) (t : ℕ) (d : Doing) : Type 0 where
  pub loose : (h : ℕ) → HasInHand d h → IsLoose r s h
  pub apart : (h u : ℕ) → HasInHand d h → HasInHand (doing_in ds u) h → u ≡ t
  pub peers : (h p : ℕ) → HasPeer d h p → (i : Issued) × IsIssued s.peers.issued h i × (i.peer ≡ p)
  pub virgins : (h p : ℕ) → HasMadePair d h p → IsVirgin r s p h
  pub lent_ones : (h : ℕ) → HasLent d h → Contains r.adopted h

pub MayHave-free : (r : ManagedReplay) (s : PeerReplay) (ds : List Doing) (t : ℕ) → MayHave r s ds t free
MayHave-free r s ds t = record { loose = λ h w. absurd w; apart = λ h u w v. absurd w; peers = λ h p w. absurd w; virgins = λ h p w. absurd w; lent_ones = λ h w. absurd w }

module _ (r : ManagedReplay) (s : PeerReplay) (ds : List Doing) (t : ℕ) (d : Doing) (k : CallersInvariant r s ds) (m : MayHave r s ds t d) where
  by : (Q : Doing → Type 0) (R : Type 0) (u : ℕ) → (u ≡ t → Q d → R) → (Q (doing_in ds u) → R) → Q (doing_in (set ds t d) u) → R
  by Q R u new old w = elim (doing-set_cases ds t d u) [
    | inl c ↦ new c.0 (subst Q c.1 w)
    | inr c ↦ old (subst Q c.0 w)
  ]

  -- of two threads with the same in hand
  apart_set : (u v h : ℕ) → HasInHand (doing_in (set ds t d) u) h → HasInHand (doing_in (set ds t d) v) h → u ≡ v
  apart_set u v h w x = elim (doing-set_cases ds t d u) [
    | inl c ↦ elim (doing-set_cases ds t d v) [
      | inl e ↦ c.0 ∙ sym e.0
      | inr e ↦ c.0 ∙ sym (m.apart h v (subst (λ z. HasInHand z h) c.1 w) (subst (λ z. HasInHand z h) e.0 x))
    ]
    | inr c ↦ elim (doing-set_cases ds t d v) [
      | inl e ↦ m.apart h u (subst (λ z. HasInHand z h) e.1 x) (subst (λ z. HasInHand z h) c.0 w) ∙ sym e.0
      | inr e ↦ k.apart u v h (subst (λ z. HasInHand z h) c.0 w) (subst (λ z. HasInHand z h) e.0 x)
    ]
  ]

  pub CallersInvariant-set : CallersInvariant r s (set ds t d)
  CallersInvariant-set = record {
    loose = λ u h. by (λ z. HasInHand z h) (IsLoose r s h) u (λ e. m.loose h) (k.loose u h);
    apart = apart_set;
    peers = λ u h p. by (λ z. HasPeer z h p) ((i : Issued) × IsIssued s.peers.issued h i × (i.peer ≡ p)) u (λ e. m.peers h p) (k.peers u h p);
    virgins = λ u h p. by (λ z. HasMadePair z h p) (IsVirgin r s p h) u (λ e. m.virgins h p) (k.virgins u h p);
    lent_ones = λ u h. by (λ z. HasLent z h) (Contains r.adopted h) u (λ e. m.lent_ones h) (k.lent_ones u h);
  }

-- the thread puts down what it has, and then nobody has it
pub CallersInvariant-free : (r : ManagedReplay) (s : PeerReplay) (ds : List Doing) (t : ℕ) → CallersInvariant r s ds → CallersInvariant r s (set ds t free)
CallersInvariant-free r s ds t k = CallersInvariant-set r s ds t free k (MayHave-free r s ds t)

pub put_down : (r : ManagedReplay) (s : PeerReplay) (ds : List Doing) (t h : ℕ) → CallersInvariant r s ds → HasInHand (doing_in ds t) h → (u : ℕ) → HasInHand (doing_in (set ds t free) u) h → ⊥
put_down r s ds t h k w u x = elim (doing-set_cases ds t free u) [
  | inl c ↦ in_hand-free h (subst (λ z. HasInHand z h) c.1 x)
  | inr c ↦ (
      let had : HasInHand (doing_in ds u) h = subst (λ z. HasInHand z h) c.0 x in
      in_hand-free h (subst (λ z. HasInHand z h) (c.1 (k.apart u t h had w)) had))
]

-- the driver's hand before what threads have: where a thread's place is then
abbrev pub shift : List Answer → ℕ → ℕ
shift [] t = t
shift (said_alive h ∷ answers) t = shift answers (suc t)
shift (said_cleared ∷ answers) t = shift answers t

pub shift-more : (answers : List Answer) (t : ℕ) → shift answers t ≡ shift answers 0 + t
shift-more [] t = omega arith
shift-more (said_alive h ∷ answers) t = shift-more answers (suc t) ∙ (let e = shift-more answers 1 in omega (arith, e))
shift-more (said_cleared ∷ answers) t = shift-more answers t

pub put-doing : (answers : List Answer) (ds : List Doing) (t : ℕ) → doing_in (put_hands answers ds) (shift answers t) ≡ doing_in ds t
put-doing [] ds t = refl
put-doing (said_alive h ∷ answers) ds t = put-doing answers (given 0 0 h ∷ ds) (suc t)
put-doing (said_cleared ∷ answers) ds t = put-doing answers ds t

pub put-set : (answers : List Answer) (ds : List Doing) (t : ℕ) (d : Doing) → put_hands answers (set ds t d) ≡ set (put_hands answers ds) (shift answers t) d
put-set [] ds t d = refl
put-set (said_alive h ∷ answers) ds t d = put-set answers (given 0 0 h ∷ ds) (suc t) d
put-set (said_cleared ∷ answers) ds t d = put-set answers ds t d

pub put-alive : (answers : List Answer) (h : ℕ) (ds : List Doing) → put_hands (answers ++ said_alive h ∷ []) ds ≡ given 0 0 h ∷ put_hands answers ds
put-alive [] h ds = refl
put-alive (said_alive g ∷ answers) h ds = put-alive answers h (given 0 0 g ∷ ds)
put-alive (said_cleared ∷ answers) h ds = put-alive answers h ds

pub put-cleared : (answers : List Answer) (ds : List Doing) → put_hands (answers ++ said_cleared ∷ []) ds ≡ put_hands answers ds
put-cleared [] ds = refl
put-cleared (said_alive g ∷ answers) ds = put-cleared answers (given 0 0 g ∷ ds)
put-cleared (said_cleared ∷ answers) ds = put-cleared answers ds

-- a handle that a restore gave is in the driver's hand
pub given-hand : (answers : List Answer) (ds : List Doing) (i g : ℕ) → slice_get answers i ≡ Some (said_alive g) → (v : ℕ) × (v < shift answers 0) × HasInHand (doing_in (put_hands answers ds) v) g
given-hand [] ds i g e = absurd (none_some (said_alive g) e)
given-hand (said_alive h ∷ answers) ds zero g e =
    let same : h ≡ g = (let q : said_alive h ≡ said_alive g = same_Some (said_alive h) (said_alive g) e in cc) in
    let more = shift-more answers 1 in
    (shift answers 0, omega (arith, more), subst (λ z. HasInHand z g) (sym (put-doing answers (given 0 0 h ∷ ds) 0)) same)
given-hand (said_alive h ∷ answers) ds (suc i) g e =
    let w = given-hand answers (given 0 0 h ∷ ds) i g e in
    let more = shift-more answers 1 in
    (w.0, omega (arith, w.1, more), w.2)
given-hand (said_cleared ∷ answers) ds zero g e = absurd (let q : said_cleared ≡ said_alive g = same_Some said_cleared (said_alive g) e in cc)
given-hand (said_cleared ∷ answers) ds (suc i) g e = given-hand answers ds i g e

-- what threads have in hand, without the driver's
pub CallersInvariant-threads : (r : ManagedReplay) (s : PeerReplay) (answers : List Answer) (ds : List Doing) → CallersInvariant r s (put_hands answers ds) → CallersInvariant r s ds
CallersInvariant-threads r s answers ds k = record {
  loose = λ t h w. k.loose (shift answers t) h (subst (λ z. HasInHand z h) (sym (put-doing answers ds t)) w);
  apart = λ t u h w x. (
      let e = k.apart (shift answers t) (shift answers u) h (subst (λ z. HasInHand z h) (sym (put-doing answers ds t)) w) (subst (λ z. HasInHand z h) (sym (put-doing answers ds u)) x) in
      let a = shift-more answers t in
      let b = shift-more answers u in
      omega (arith, e, a, b));
  peers = λ t h p w. k.peers (shift answers t) h p (subst (λ z. HasPeer z h p) (sym (put-doing answers ds t)) w);
  virgins = λ t h p w. k.virgins (shift answers t) h p (subst (λ z. HasMadePair z h p) (sym (put-doing answers ds t)) w);
  lent_ones = λ t h w. k.lent_ones (shift answers t) h (subst (λ z. HasLent z h) (sym (put-doing answers ds t)) w);
}

-- no thread has in hand what a restore gave
pub given-apart : (r : ManagedReplay) (s : PeerReplay) (answers : List Answer) (ds : List Doing)
    → CallersInvariant r s (put_hands answers ds) → (i g t : ℕ) → slice_get answers i ≡ Some (said_alive g) → HasInHand (doing_in ds t) g → ⊥
given-apart r s answers ds k i g t e w =
    let v = given-hand answers ds i g e in
    let same = k.apart v.0 (shift answers t) g v.2 (subst (λ z. HasInHand z g) (sym (put-doing answers ds t)) w) in
    let more = shift-more answers t in
    omega (arith, v.1, same, more)

-- one handle more comes into a hand
pub CallersInvariant-cons : (r : ManagedReplay) (s : PeerReplay) (ds : List Doing) (h : ℕ) → CallersInvariant r s ds
    → IsLoose r s h → ((t : ℕ) → HasInHand (doing_in ds t) h → ⊥) → CallersInvariant r s (given 0 0 h ∷ ds)
CallersInvariant-cons r s ds h k l n = record { loose = loose; apart = apart; peers = peers; virgins = virgins; lent_ones = lent }
  where
    loose : (t g : ℕ) → HasInHand (doing_in (given 0 0 h ∷ ds) t) g → IsLoose r s g
    loose zero g w = subst (IsLoose r s) w l
    loose (suc t) g w = k.loose t g w

    apart : (t u g : ℕ) → HasInHand (doing_in (given 0 0 h ∷ ds) t) g → HasInHand (doing_in (given 0 0 h ∷ ds) u) g → t ≡ u
    apart zero zero g w x = refl
    apart zero (suc u) g w x = absurd (n u (subst (λ z. HasInHand (doing_in ds u) z) (sym w) x))
    apart (suc t) zero g w x = absurd (n t (subst (λ z. HasInHand (doing_in ds t) z) (sym x) w))
    apart (suc t) (suc u) g w x = ap suc (k.apart t u g w x)

    peers : (t g p : ℕ) → HasPeer (doing_in (given 0 0 h ∷ ds) t) g p → (i : Issued) × IsIssued s.peers.issued g i × (i.peer ≡ p)
    peers zero g p w = absurd w
    peers (suc t) g p w = k.peers t g p w

    virgins : (t g p : ℕ) → HasMadePair (doing_in (given 0 0 h ∷ ds) t) g p → IsVirgin r s p g
    virgins zero g p w = absurd w
    virgins (suc t) g p w = k.virgins t g p w

    lent : (t g : ℕ) → HasLent (doing_in (given 0 0 h ∷ ds) t) g → Contains r.adopted g
    lent zero g w = absurd w
    lent (suc t) g w = k.lent_ones t g w
