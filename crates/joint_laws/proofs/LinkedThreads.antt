-- All stays kept at the entries of the managed threads.
use Rattle.std.proofs.Common.{◌≡◌, ℕ, ◌+◌, inl, inr, false, List, [], ◌∷◌, ◌++◌, length, map, Option, Some, refl, sym, subst, arith}
use Rattle.joint_machine.specs.declared.names.Kind.{Kind}
use Rattle.joint_machine.specs.declared.names.Sort.{Sort}
use Rattle.joint_machine.specs.declared.names.Thread.{Thread}
use Rattle.joint_machine.specs.declared.names.Var.{Var}
use Rattle.joint_machine.specs.declared.names.StaticNo.{StaticNo}
use Rattle.joint_machine.specs.declared.names.PNum.{PNum}
use Rattle.joint_machine.specs.declared.names.HNum.{HNum}
use Rattle.joint_machine.specs.declared.lines.Act.{Act}
use Rattle.joint_machine.specs.declared.events.Op.TheVariants as op
use Rattle.joint_machine.specs.declared.events.Reply.TheVariants as says
use Rattle.joint_machine.specs.Control.{Doing, free, made, lent, gripped, given, met, Stand, ThreadAllows}
use Rattle.joint_machine.specs.Heaps.{answer, next_number, numbered_at}
use Rattle.joint_machine.specs.Managed.{Managed, managed_line}
use Rattle.joint_machine.specs.ManagedReplay.{ManagedReplay}
use Rattle.joint_machine.specs.Peers.{Peers, Issued, held, strong, with_handle, with_peer, next_handle, issued_since}
use Rattle.joint_machine.specs.PeerReplay.{PeerReplay, TableRow, fresh_row, on_table}
use Rattle.joint_laws.specs.ManagedInvariants.{ReplayInvariant}
use Rattle.joint_laws.specs.PeerInvariants.{IsIssued}
use Rattle.joint_laws.specs.LinkedInvariants.{HasStrength, doing_in, HasInHand, HasPeer, HasMadePair, HasLent, IsLoose, IsVirgin, hands}
use Rattle.joint_machine.proofs.Numbered.{numbered-within, numbered-push_new, numbered-push_cases}
use Rattle.joint_laws.proofs.ManagedMoves.{GoesOn, managed_line-goes_on}
use Rattle.joint_laws.proofs.Adopting.{HoldsSame, managed_line-same, was-held, stays-live}
use Rattle.joint_laws.proofs.HeapKeeping.{object-field, object-was_live}
use Rattle.joint_laws.proofs.OwnersManaged.{OwnersAlike}
use Rattle.joint_laws.proofs.PeerQuiet.{table-issued}
use Rattle.joint_laws.proofs.LinkedQuiet.{BothInvariants, kept-alike}

-- what a thread has by what it may do next
pub adopt-hand : (d : Doing) (t : Thread) (l : ℕ) (v : Var) (kind : Kind) (n : ℕ) (p : PNum) (h : HNum) (cites : Option ℕ) → ThreadAllows d t l (op.Adopt v kind n p h) cites → HasMadePair d h.0 p.0
adopt-hand (made n line p' h' sort f) t l v kind k p h cites w = (sym w.3, sym w.2)
adopt-hand free t l v kind k p h cites w = absurd w
adopt-hand (lent n line h' x) t l v kind k p h cites w = absurd w
adopt-hand (gripped n line p' h' sort f) t l v kind k p h cites w = absurd w
adopt-hand (given n line h') t l v kind k p h cites w = absurd w
adopt-hand (met n line h') t l v kind k p h cites w = absurd w

pub land-hand : (d : Doing) (t : Thread) (l : ℕ) (h : HNum) (x : StaticNo) (cites : Option ℕ) → ThreadAllows d t l (op.Land h x) cites → HasLent d h.0
land-hand (lent n line h' x') t l h x cites w = sym w.2
land-hand free t l h x cites w = absurd w
land-hand (made n line p' h' sort f) t l h x cites w = absurd w
land-hand (gripped n line p' h' sort f) t l h x cites w = absurd w
land-hand (given n line h') t l h x cites w = absurd w
land-hand (met n line h') t l h x cites w = absurd w

pub meet-hand : (d : Doing) (t : Thread) (l : ℕ) (v : Var) (p : PNum) (h : HNum) (sort : Sort) (f : ℕ) (cites : Option ℕ)
    → ThreadAllows d t l (op.Meet v sort f p h) cites → HasInHand d h.0 × HasPeer d h.0 p.0
meet-hand (gripped n line p' h' sort' f') t l v p h sort f cites w = (sym w.3, (sym w.3, sym w.2))
meet-hand free t l v p h sort f cites w = absurd w
meet-hand (made n line p' h' sort' f') t l v p h sort f cites w = absurd w
meet-hand (lent n line h' x') t l v p h sort f cites w = absurd w
meet-hand (given n line h') t l v p h sort f cites w = absurd w
meet-hand (met n line h') t l v p h sort f cites w = absurd w

pub release-hand : (d : Doing) (t : Thread) (l : ℕ) (h : HNum) (cites : Option ℕ) → ThreadAllows d t l (op.Release h) cites → HasInHand d h.0
release-hand (given n line h') t l h cites w = sym w.2
release-hand (met n line h') t l h cites w = sym w.2
release-hand free t l h cites w = absurd w
release-hand (made n line p' h' sort' f') t l h cites w = absurd w
release-hand (lent n line h' x') t l h cites w = absurd w
release-hand (gripped n line p' h' sort f) t l h cites w = absurd w

-- a managed line leaves rows with the same handles
pub OwnersAlike-line : (r : ManagedReplay) (u : Managed) → ReplayInvariant r → GoesOn r.managed u → HoldsSame r.managed u → OwnersAlike r (record r { managed = u })
OwnersAlike-line r u k g same = record {
  on = λ m h q. record { live = stays-live r u k g m q.live; held = same.still m h q.held };
  back = λ m h q. was-held r u k g m h (same.before m h q.held) q.live;
  registry = refl;
  adopted = refl;
  cycle = g.cycle;
}

pub kept-managed_line : (r : ManagedReplay) (s : PeerReplay) (ds : List Doing) (d : Stand) (u : ℕ) (a : Act) → BothInvariants r s ds d
    → ReplayInvariant (record r { managed = (managed_line r.managed u a).state }) → BothInvariants (record r { managed = (managed_line r.managed u a).state }) s ds d
kept-managed_line r s ds d u a k m =
    let g = managed_line-goes_on r.managed u a k.managed.managed.places k.managed.managed.cells in
    kept-alike r (record r { managed = (managed_line r.managed u a).state }) s ds d k
    (OwnersAlike-line r (managed_line r.managed u a).state k.managed g (managed_line-same r.managed k.managed.managed u a)) g m

-- a held handle was issued: it is loose
module _ (r : ManagedReplay) (s : PeerReplay) (ds : List Doing) (d : Stand) (k : BothInvariants r s ds d) (p : ℕ)
    (g : Peers) (e : g.issued ≡ s.peers.issued ++ record { peer = p; hold = held; strength = strong } ∷ []) where
  abbrev new : Issued
  new = record { peer = p; hold = held; strength = strong }

  abbrev grown : PeerReplay
  grown = record s { peers = g; table = s.table ++ map fresh_row (issued_since s.peers g) }

  pub unissued : (h : ℕ) (i : Issued) → IsIssued s.peers.issued h i → h ≡ next_handle s.peers → ⊥
  unissued h i f q = omega (arith, (numbered-within s.peers.issued h i f).1, q)

  pub new-issued : IsIssued g.issued (next_handle s.peers) new
  new-issued = subst (λ z. IsIssued z (next_handle s.peers) new) (sym e) (numbered-push_new s.peers.issued new)

  in_table : HasStrength grown (next_handle s.peers) strong
  in_table =
      let row : TableRow = record { strength = strong; cleared = false } in
      let same : grown.table ≡ s.table ++ Some row ∷ [] = table-issued s g new e in
      let places : next_handle s.peers ≡ length s.table + 1 = omega (arith, k.peer.handles.places) in (
        row,
        subst (λ z. numbered_at z (next_handle s.peers) ≡ Some (Some row)) (sym same)
            (subst (λ z. numbered_at (s.table ++ Some row ∷ []) z ≡ Some (Some row)) (sym places) (numbered-push_new s.table (Some row))),
        refl,
      )

  pub new-loose : IsLoose r grown (next_handle s.peers)
  new-loose = record {
    strong_one = in_table;
    held_one = (new, new-issued, refl);
    unowned = λ m q. (let w = k.owners.held_ones m (next_handle s.peers) q in unissued (next_handle s.peers) w.0 w.1 refl);
  }

  -- no thread has it in hand yet
  pub new-apart : (h u : ℕ) → next_handle s.peers ≡ h → HasInHand (doing_in (hands d ds) u) h → ⊥
  new-apart h u q w = let l = k.callers.loose u h w in unissued h l.held_one.0 l.held_one.1 (sym q)

  pub new-peer : (h q : ℕ) → next_handle s.peers ≡ h → p ≡ q → (i : Issued) × IsIssued g.issued h i × (i.peer ≡ q)
  new-peer h q e f = (new, subst (λ z. IsIssued g.issued z new) e new-issued, f)

-- a pair was made: its peer is named nowhere yet
module _ (r : ManagedReplay) (s : PeerReplay) (ds : List Doing) (d : Stand) (sort : Sort) (n : ℕ) (k : BothInvariants r s ds d) where
  abbrev paired : PeerReplay
  paired = (on_table s (answer (says.Made record { 0 = next_number s.peers.heap } record { 0 = next_handle s.peers })
      (with_handle (with_peer s.peers sort n) (next_number s.peers.heap) held strong))).state

  unmade : (i : Issued) (h : ℕ) → IsIssued s.peers.issued h i → i.peer ≡ next_number s.peers.heap → ⊥
  unmade i h e q = omega (arith, (k.peer.handles.peers h i e).1, q)

  pub made-virgin : IsVirgin r paired (next_number s.peers.heap) (next_handle s.peers)
  made-virgin = record {
    slots = λ i. (let l = k.peer.heap.slots (next_number s.peers.heap) i in omega (arith, l.made.1));
    fields = λ x l c. (
        let f = object-field s.peers.heap n x (next_number s.peers.heap) c in
        let m = k.peer.heap.fields x (next_number s.peers.heap) (object-was_live s.peers.heap n x f.0 l) f.1 in
        omega (arith, m.made.1));
    handles = λ g i e q. elim (numbered-push_cases s.peers.issued (record { peer = next_number s.peers.heap; hold = held; strength = strong }) g i e) [
      | inl old ↦ absurd (unmade i g old q)
      | inr w ↦ w.0
    ];
    pairs = λ m c. (let w = k.owners.pairs (next_number s.peers.heap) m c in unmade w.row w.handle w.is_issued w.leads);
    unadopted = λ c. (let l = k.owners.adopted (next_handle s.peers) c in omega (arith, l));
  }
