-- A candidate's handle is weakened or restored: the other handles keep their rows, and owners and what threads have in
-- hand stay kept. And what an entry that leaves the peers' heap and the issued handles alone does to what threads have
-- in hand.
use Rattle.std.proofs.Common.{◌≡◌, ◌≢◌, ℕ, zero, suc, ◌+◌, ◌≤◌, ◌⊎◌, inl, inr, List, [], ◌∷◌, ◌++◌, length, Option, Some, None, refl, sym, ap, subst, ◌∙◌, arith, length-append}
use Rattle.std.specs.Prelude.{Contains, slice_get}
use Rattle.std.proofs.lemmas.Bool.{cases_eq}
use Rattle.std.proofs.lemmas.Option.{same_Some, slice_get_within, get_or_from_slice_get}
use Rattle.joint_machine.specs.Control.{Doing}
use Rattle.joint_machine.specs.Heaps.{InSlot, IsLive, fields_of, numbered_at, numbered_set}
use Rattle.joint_machine.specs.Managed.{OpenCycle, Holds, candidates_of}
use Rattle.joint_machine.specs.ManagedReplay.{ManagedReplay}
use Rattle.joint_machine.specs.Peers.{strong, weak}
use Rattle.joint_machine.specs.PeerReplay.{PeerReplay, TableRow, Mirror, with_weakened, with_restored, with_given, Refers}
use Rattle.joint_laws.specs.ManagedInvariants.{ReplayInvariant}
use Rattle.joint_laws.specs.PeerInvariants.{IsTabled, IsIssued}
use Rattle.joint_laws.specs.LinkedInvariants.{HasStrength, OwnersInvariant, doing_in, HasInHand, CallersInvariant, ForCandidates, IsGone, IsReplaced, IsMirrored, IsWeakenedBy, IsRestoredBy}
use Rattle.joint_machine.proofs.Numbered.{numbered-within, numbered_set-here, numbered_set-same}
use Rattle.joint_machine.proofs.Deciding.{none_some}
use Rattle.joint_machine.proofs.HeapLemmas.{candidates_of-open}
use Rattle.joint_laws.proofs.HandlesAlike.{HandlesAlike, held-on, row_of-on, row_of-back, IsLoose-peer, IsGone-peer, IsReplaced-peer}
use Rattle.joint_laws.proofs.DriverPeerSteps.{Only}
use Rattle.joint_machine.specs.Told.{said_alive, said_cleared, Answer}
use Rattle.joint_machine.proofs.Members.{Rises-once}

-- what threads have in hand, where slots, fields and the issued handles stay
pub callers_same : (touched : ℕ → Type 0) (r : ManagedReplay) (s t : PeerReplay) → HandlesAlike touched s t → t.peers.issued ≡ s.peers.issued
    → ((p : ℕ) → InSlot t.peers.heap p → InSlot s.peers.heap p) → ((x : ℕ) → IsLive t.peers.heap x → IsLive s.peers.heap x)
    → ((x p : ℕ) → Contains (fields_of t.peers.heap x) (Some p) → Contains (fields_of s.peers.heap x) (Some p)) → (ds : List Doing)
    → CallersInvariant r s ds → ((u h : ℕ) → HasInHand (doing_in ds u) h → touched h → ⊥) → CallersInvariant r t ds
callers_same touched r s t a e slots live fields ds k n = record {
  loose = λ u h w. IsLoose-peer touched r s t a h (n u h w) (k.loose u h w);
  apart = k.apart;
  peers = λ u h p w. (let i = k.peers u h p w in (i.0, a.issued_on h i.0 i.1, i.2));
  virgins = λ u h p w. (
      let v = k.virgins u h p w in
      record {
        slots = λ i. v.slots (slots p i);
        fields = λ x l c. v.fields x (live x l) (fields x p c);
        handles = λ g i q l. v.handles g i (subst (λ z. IsIssued z g i) e q) l;
        pairs = v.pairs;
        unadopted = v.unadopted;
      });
  lent_ones = k.lent_ones;
}

-- the mirror stays, with its references
pub mirrored_changed : (touched : ℕ → Type 0) (r : ManagedReplay) (s t : PeerReplay) (c : OpenCycle) → HandlesAlike touched s t
    → OwnersInvariant r s → t.refs ≡ s.refs → (t.mirror ≡ None → s.mirror ≡ None) → IsMirrored r s c → IsMirrored r t c
mirrored_changed touched r s t c a o refs stands m = record {
  comps = m.comps;
  heavy = m.heavy;
  xrefs = m.xrefs;
  contraction = m.contraction;
  stands = λ e. m.stands (stands e);
  exact = λ p q. (
    λ d. (let w = (m.exact p q).0 (subst (λ z. Refers z p q) refs d) in (w.0, w.1, w.2, row_of-on touched r s t a w.0 p w.3, row_of-on touched r s t a w.1 q w.4)),
    λ w. subst (λ z. Refers z p q) (sym refs) ((m.exact p q).1 (w.0, w.1, w.2, row_of-back touched r s t a o w.0 p w.3, row_of-back touched r s t a o w.1 q w.4)),
  );
}

pub weakened-stands : (m : Option Mirror) (h : ℕ) → with_weakened m h ≡ None → m ≡ None
weakened-stands None h e = refl
weakened-stands (Some m) h e = absurd (none_some _ (sym e))

pub restored-stands : (m : Option Mirror) (h : ℕ) → with_restored m h ≡ None → m ≡ None
restored-stands None h e = refl
restored-stands (Some m) h e = absurd (none_some _ (sym e))

pub given-stands : (m : Option Mirror) (h : ℕ) → with_given m h ≡ None → m ≡ None
given-stands None h e = refl
given-stands (Some m) h e = absurd (none_some _ (sym e))

-- the handle h of the candidate at one place is touched
module _ (r : ManagedReplay) (s t : PeerReplay) (c : OpenCycle) (place m h : ℕ) (k : ReplayInvariant r) (o : OwnersInvariant r s)
    (e : r.managed.cycle ≡ Some c) (at : slice_get c.candidates place ≡ Some m) (q : Holds r.managed m h) (a : HandlesAlike (Only h) s t) where
  is_candidate : Contains (candidates_of r.managed) m
  is_candidate = subst (λ z. Contains z m) (sym (candidates_of-open r.managed c e)) (place, slice_get_within c.candidates place m at, get_or_from_slice_get c.candidates place m m at)

  -- who holds it is that candidate, at that place
  holder : (x g : ℕ) → Holds r.managed x g → g ≡ h → x ≡ m
  holder x g w same = k.alone x m h (subst (λ z. Holds r.managed x z) same w) q

  in_place : (l x g : ℕ) → slice_get c.candidates l ≡ Some x → Holds r.managed x g → g ≡ h → l ≡ place
  in_place l x g f w same = Rises-once c.candidates l place m (k.managed.dead c e).rise (f ∙ ap Some (holder x g w same)) at

  its_handle : (l x g : ℕ) → slice_get c.candidates l ≡ Some x → Holds r.managed x g → l ≡ place → g ≡ h
  its_handle l x g f w same =
      let rows : x ≡ m = same_Some x m (sym f ∙ (ap (λ z. slice_get c.candidates z) same ∙ at)) in
      same_Some g h (same_Some (Some g) (Some h) (sym w.held ∙ (ap (λ z. numbered_at r.managed.held z) rows ∙ q.held)))

  pub owners_touched : OwnersInvariant r t
  owners_touched = record {
    held_ones = λ x g w. held-on (Only h) r s t a g (o.held_ones x g w);
    strong_ones = λ x g w out. a.on g strong (o.held_ones x g w) (λ same. out (subst (λ z. Contains (candidates_of r.managed) z) (sym (holder x g w same)) is_candidate)) (o.strong_ones x g w out);
    weak_ones = λ g w u. elim (a.fresh g weak u w) [
      | inr f ↦ absurd (let bad : weak ≡ strong = f in cc)
      | inl old ↦ elim (cases_eq g h) [
        | inl same ↦ (m, subst (λ z. Holds r.managed m z) (sym same) q, is_candidate)
        | inr ne ↦ o.weak_ones g (a.back g weak old ne w) old
      ]
    ];
    registered = λ x p w. o.registered x p (row_of-back (Only h) r s t a o x p w);
    pairs = λ p x w. row_of-on (Only h) r s t a x p (o.pairs p x w);
    adopted = λ g w. (let l = o.adopted g w in omega (arith, l, a.count));
  }

  pub not_in_hand : (ds : List Doing) → CallersInvariant r s ds → (u g : ℕ) → HasInHand (doing_in ds u) g → Only h g → ⊥
  not_in_hand ds w u g x same = (w.loose u g x).unowned m (subst (λ z. Holds r.managed m z) (sym same) q)

  -- it was weakened
  pub handles_weakened : ForCandidates r.managed c (IsWeakenedBy s place) → HasStrength t h weak → ForCandidates r.managed c (IsWeakenedBy t (place + 1))
  handles_weakened all now l x g f w = elim (cases_eq g h) [
    | inl same ↦ (let p = in_place l x g f w same in inl (omega (arith, p), subst (λ z. HasStrength t z weak) (sym same) now))
    | inr ne ↦ elim (all l x g f w) [
      | inl b ↦ inl (omega (arith, b.0), a.on g weak (o.held_ones x g w) ne b.1)
      | inr b ↦ inr (later l x g f w ne b.0, a.on g strong (o.held_ones x g w) ne b.1)
    ]
  ]
    where
      later : (l x g : ℕ) → slice_get c.candidates l ≡ Some x → Holds r.managed x g → g ≢ h → place ≤ l → place + 1 ≤ l
      later l x g f w ne b = elim (cases_eq l place) [
        | inl p ↦ absurd (ne (its_handle l x g f w p))
        | inr p ↦ omega (arith, b, p)
      ]

-- it was restored, and this was the answer
pushed-old : (answers : List Answer) (b : Answer) (l : ℕ) (x : Answer) → slice_get answers l ≡ Some x → slice_get (answers ++ b ∷ []) l ≡ Some x
pushed-old [] b l x e = absurd (none_some x e)
pushed-old (y ∷ ys) b zero x e = e
pushed-old (y ∷ ys) b (suc l) x e = pushed-old ys b l x e

pushed-new : (answers : List Answer) (b : Answer) → slice_get (answers ++ b ∷ []) (length answers) ≡ Some b
pushed-new [] b = refl
pushed-new (y ∷ ys) b = pushed-new ys b

module _ (r : ManagedReplay) (s t : PeerReplay) (c : OpenCycle) (answers : List Answer) (m h : ℕ) (k : ReplayInvariant r) (o : OwnersInvariant r s)
    (e : r.managed.cycle ≡ Some c) (at : slice_get c.candidates (length answers) ≡ Some m) (q : Holds r.managed m h) (a : HandlesAlike (Only h) s t) where
  pub handles_restored : (b : Answer) → ((i g : ℕ) → slice_get answers i ≡ Some (said_alive g) → g ≡ h → ⊥) → ForCandidates r.managed c (IsRestoredBy s answers)
      → (((n : ℕ) × (b ≡ said_alive n) × IsReplaced t h n) ⊎ ((b ≡ said_cleared) × IsGone t h)) → ForCandidates r.managed c (IsRestoredBy t (answers ++ b ∷ []))
  handles_restored b avoids all now l x g f w = elim (cases_eq g h) [
    | inl same ↦ here same
    | inr ne ↦ elim (all l x g f w) [
      | inl u ↦ inl (u.0, pushed-old answers b l (said_alive u.0) u.1, IsReplaced-peer (Only h) r s t a g u.0 ne (avoids l u.0 u.1) (o.held_ones x g w) u.2)
      | inr u ↦ elim u [
        | inl v ↦ inr (inl (pushed-old answers b l said_cleared v.0, IsGone-peer (Only h) r s t a g ne (o.held_ones x g w) v.1))
        | inr v ↦ inr (inr (later ne v.0, a.on g weak (o.held_ones x g w) ne v.1))
      ]
    ]
  ]
    where
      here : g ≡ h → IsRestoredBy t (answers ++ b ∷ []) l g
      here same =
          let p = in_place r s t c (length answers) m h k o e at q a l x g f w same in
          let at_end : slice_get (answers ++ b ∷ []) l ≡ Some b = ap (λ z. slice_get (answers ++ b ∷ []) z) p ∙ pushed-new answers b in
          elim now [
            | inl u ↦ inl (u.0, at_end ∙ ap Some u.1, subst (λ z. IsReplaced t z u.0) (sym same) u.2)
            | inr u ↦ inr (inl (at_end ∙ ap Some u.0, subst (IsGone t) (sym same) u.1))
          ]

      later : g ≢ h → length answers ≤ l → length (answers ++ b ∷ []) ≤ l
      later ne v = elim (cases_eq l (length answers)) [
        | inl p ↦ absurd (ne (its_handle r s t c (length answers) m h k o e at q a l x g f w p))
        | inr p ↦ omega (arith, v, p, length-append answers (b ∷ []))
      ]

-- a row that was written stands, and an emptied one doesn't
pub written-strength : (s t : PeerReplay) (h : ℕ) (old new : TableRow) → IsTabled s.table h old → t.table ≡ numbered_set s.table h (Some new) → HasStrength t h new.strength
written-strength s t h old new u e = (let w = numbered-within s.table h (Some old) u in (new, subst (λ z. IsTabled z h new) (sym e) (numbered_set-here s.table h (Some new) w.0 w.1), refl))

pub emptied-untabled : (s t : PeerReplay) (h : ℕ) (row : TableRow) → t.table ≡ numbered_set s.table h None → IsTabled t.table h row → ⊥
emptied-untabled s t h row e u = none_some row (numbered_set-same s.table h None (Some row) (subst (λ z. IsTabled z h row) e u))
