-- What an entry of the peer side does to held handles. All but the touched ones keep their rows' strength, a fresh one
-- is strong, none is forgotten, and no freed peer comes back. So what both sides keep of owners and of what threads
-- have in hand stays, as far as no touched handle is concerned.
use Rattle.std.proofs.Common.{◌≡◌, ℕ, ◌≤◌, ◌⊎◌, inl, inr, List, length, Some, refl, sym, ap, subst, ◌∙◌, arith}
use Rattle.std.specs.Prelude.{Contains, slice_get}
use Rattle.std.proofs.lemmas.Option.{same_Some}
use Rattle.joint_machine.specs.Managed.{Holds}
use Rattle.joint_machine.specs.ManagedReplay.{ManagedReplay}
use Rattle.joint_machine.specs.Peers.{Issued, Strength, strong, weak}
use Rattle.joint_machine.specs.PeerReplay.{PeerReplay}
use Rattle.joint_laws.specs.PeerInvariants.{IsIssued}
use Rattle.joint_laws.specs.LinkedInvariants.{HasStrength, IsHeldOne, IsRowOf, OwnersInvariant, IsLoose, IsGone, IsReplaced, IsWeakenedBy, IsRestoredBy}
use Rattle.joint_machine.specs.Told.{Answer, said_alive}

pub record HandlesAlike (touched : ℕ → Type 0) (s t : PeerReplay) : Type 0 where
  pub issued_on : (h : ℕ) (i : Issued) → IsIssued s.peers.issued h i → IsIssued t.peers.issued h i
  pub count : length s.peers.issued ≤ length t.peers.issued
  pub on : (h : ℕ) (x : Strength) → IsHeldOne s h → (touched h → ⊥) → HasStrength s h x → HasStrength t h x
  pub back : (h : ℕ) (x : Strength) → IsHeldOne s h → (touched h → ⊥) → HasStrength t h x → HasStrength s h x
  pub fresh : (h : ℕ) (x : Strength) → IsHeldOne t h → HasStrength t h x → IsHeldOne s h ⊎ (x ≡ strong)
  pub freed_on : (p : ℕ) → Contains s.peers.heap.freed p → Contains t.peers.heap.freed p

abbrev pub nothing_touched : ℕ → Type 0
nothing_touched h = ⊥

strong-weak : weak ≡ strong → ⊥
strong-weak e = cc

-- one change after another
pub HandlesAlike-then : (touched : ℕ → Type 0) (s u t : PeerReplay) → HandlesAlike touched s u → HandlesAlike nothing_touched u t → HandlesAlike touched s t
HandlesAlike-then touched s u t a b = record {
  issued_on = λ h i q. b.issued_on h i (a.issued_on h i q);
  count = omega (arith, a.count, b.count);
  on = λ h x w n q. b.on h x (w.0, a.issued_on h w.0 w.1, w.2) (λ e. e) (a.on h x w n q);
  back = λ h x w n q. a.back h x w n (b.back h x (w.0, a.issued_on h w.0 w.1, w.2) (λ e. e) q);
  fresh = λ h x w q. elim (b.fresh h x w q) [ inl old ↦ a.fresh h x old (b.back h x old (λ e. e) q) | inr e ↦ inr e ];
  freed_on = λ p c. b.freed_on p (a.freed_on p c);
}

-- a new handle is on the peer of the old one
pub replaced-peer : (s : PeerReplay) (h g : ℕ) (i : Issued) (x : IsReplaced s h g) → IsIssued s.peers.issued h i → x.new.peer ≡ i.peer
replaced-peer s h g i x e = x.same ∙ ap (λ (z : Issued). z.peer) (same_Some x.old i (sym x.was ∙ e))

module _ (touched : ℕ → Type 0) (r : ManagedReplay) (s t : PeerReplay) (a : HandlesAlike touched s t) where
  pub held-on : (h : ℕ) → IsHeldOne s h → IsHeldOne t h
  held-on h w = (w.0, a.issued_on h w.0 w.1, w.2)

  pub row_of-on : (m p : ℕ) → IsRowOf r.managed s.peers.issued m p → IsRowOf r.managed t.peers.issued m p
  row_of-on m p w = record { handle = w.handle; holds = w.holds; row = w.row; is_issued = a.issued_on w.handle w.row w.is_issued; leads = w.leads }

  pub row_of-back : OwnersInvariant r s → (m p : ℕ) → IsRowOf r.managed t.peers.issued m p → IsRowOf r.managed s.peers.issued m p
  row_of-back k m p w =
      let was = k.held_ones m w.handle w.holds in
      let same : was.0 ≡ w.row = same_Some was.0 w.row (sym (a.issued_on w.handle was.0 was.1) ∙ w.is_issued) in
      record { handle = w.handle; holds = w.holds; row = was.0; is_issued = was.1; leads = ap (λ (z : Issued). z.peer) same ∙ w.leads }

  -- owners stay kept, where no touched handle is held by a row, and none that was touched is weak
  pub OwnersInvariant-peer : OwnersInvariant r s → ((m h : ℕ) → touched h → Holds r.managed m h → ⊥) → ((h : ℕ) → HasStrength t h weak → touched h → ⊥) → OwnersInvariant r t
  OwnersInvariant-peer k unowned settled = record {
    held_ones = λ m h q. held-on h (k.held_ones m h q);
    strong_ones = λ m h q n. a.on h strong (k.held_ones m h q) (λ w. unowned m h w q) (k.strong_ones m h q n);
    weak_ones = λ h w q. elim (a.fresh h weak q w) [
      | inl old ↦ k.weak_ones h (a.back h weak old (settled h w) w) old
      | inr e ↦ absurd (strong-weak e)
    ];
    registered = λ m p w. k.registered m p (row_of-back k m p w);
    pairs = λ p m c. row_of-on m p (k.pairs p m c);
    adopted = λ h c. (let l = k.adopted h c in omega (arith, l, a.count));
  }

  pub IsLoose-peer : (h : ℕ) → (touched h → ⊥) → IsLoose r s h → IsLoose r t h
  IsLoose-peer h n l = record { strong_one = a.on h strong l.held_one n l.strong_one; held_one = held-on h l.held_one; unowned = l.unowned }

  pub IsGone-peer : (h : ℕ) → (touched h → ⊥) → IsHeldOne s h → IsGone s h → IsGone t h
  IsGone-peer h n w g = record {
    untabled = λ row u. (let b = a.back h row.strength w n (row, u, refl) in g.untabled b.0 b.1);
    freed = λ i e. (
        let same : w.0 ≡ i = same_Some w.0 i (sym (a.issued_on h w.0 w.1) ∙ e) in
        subst (λ (z : Issued). Contains t.peers.heap.freed z.peer) same (a.freed_on w.0.peer (g.freed w.0 w.1)));
  }

  pub weakened-peer : (count l h : ℕ) → (touched h → ⊥) → IsHeldOne s h → IsWeakenedBy s count l h → IsWeakenedBy t count l h
  weakened-peer count l h n w q = elim q [ inl b ↦ inl (b.0, a.on h weak w n b.1) | inr b ↦ inr (b.0, a.on h strong w n b.1) ]

  pub IsReplaced-peer : (h g : ℕ) → (touched h → ⊥) → (touched g → ⊥) → IsHeldOne s h → IsReplaced s h g → IsReplaced t h g
  IsReplaced-peer h g n ng w x = record {
    untabled = λ row u. (let b = a.back h row.strength w n (row, u, refl) in x.untabled b.0 b.1);
    strong_one = a.on g strong x.held_one ng x.strong_one;
    held_one = held-on g x.held_one;
    old = x.old;
    was = a.issued_on h x.old x.was;
    new = x.new;
    is = a.issued_on g x.new x.is;
    same = x.same;
  }

  pub restored-peer : (answers : List Answer) (l h : ℕ) → ((i g : ℕ) → slice_get answers i ≡ Some (said_alive g) → touched g → ⊥)
      → (touched h → ⊥) → IsHeldOne s h → IsRestoredBy s answers l h → IsRestoredBy t answers l h
  restored-peer answers l h given n w q = elim q [
    | inl b ↦ inl (b.0, b.1, IsReplaced-peer h b.0 n (given l b.0 b.1) w b.2)
    | inr b ↦ elim b [
      | inl d ↦ inr (inl (d.0, IsGone-peer h n w d.1))
      | inr d ↦ inr (inr (d.0, a.on h weak w n d.1))
    ]
  ]
