-- The quiet events of the peer side: all but a release, a mirror, a weakening, a sweep, a restore and a clear. They
-- free nothing and touch no held handle of the table; a slot comes to name only what a slot or a field of a peer in a
-- slot named, a new peer, or where a handle leads; a field only what was in a slot; and a handle is issued only on a
-- peer in a slot or on a new one.
use Rattle.std.proofs.Common.{◌≡◌, ℕ, ◌+◌, ◌≤◌, ◌⊎◌, inl, inr, false, [], ◌∷◌, ◌++◌, length, map, drop, Option, Some, None, refl, sym, ap, subst, ◌∙◌, arith, length-append}
use Rattle.std.specs.Prelude.{Contains}
use Rattle.std.proofs.Math.Seq.{drop-append_seam, drop-length}
use Rattle.std.proofs.lemmas.List.{append-nil}
use Rattle.std.proofs.lemmas.Option.{same_Some}
use Rattle.joint_machine.specs.Heaps.{Heap, IsMade, InSlot, fields_of, numbered_at, numbered_set}
use Rattle.joint_machine.specs.Peers.{Peers, Issued, held, raw, Strength, strong, issued_since}
use Rattle.joint_machine.specs.PeerReplay.{PeerReplay, TableRow, Marking, fresh_row, brought_to, table_target}
use Rattle.joint_laws.specs.PeerInvariants.{IsTabled, IsIssued}
use Rattle.joint_laws.specs.LinkedInvariants.{HasStrength, IsHeldOne}
use Rattle.joint_machine.proofs.Numbered.{numbered-within, numbered-push_cases, numbered-push_old, numbered_set-other}
use Rattle.joint_machine.proofs.Deciding.{none_some}
use Rattle.joint_laws.proofs.HeapMoves.{IsInReach}
use Rattle.joint_laws.proofs.HandleKeeping.{held-raw, tabled-set_cases}
use Rattle.joint_laws.proofs.HandlesAlike.{HandlesAlike, nothing_touched}

pub record IsQuiet (via : ℕ → Type 0) (s t : PeerReplay) : Type 0 where
  pub handles : HandlesAlike nothing_touched s t
  pub refs : t.refs ≡ s.refs
  pub mirror : t.mirror ≡ s.mirror
  pub freed : t.peers.heap.freed ≡ s.peers.heap.freed
  pub made : length s.peers.heap.fields ≤ length t.peers.heap.fields
  pub marking : (mk : Marking) → s.marking ≡ Some mk → (now : Marking) × (t.marking ≡ Some now) × (now.by ≡ mk.by)
  pub slots : (p : ℕ) → InSlot t.peers.heap p → IsInReach s.peers.heap p ⊎ (IsMade s.peers.heap p → ⊥) ⊎ ((h : ℕ) × via h × (table_target s h ≡ Some p))
  pub fields : (x p : ℕ) → Contains (fields_of t.peers.heap x) (Some p) → Contains (fields_of s.peers.heap x) (Some p) ⊎ InSlot s.peers.heap p
  pub issues : (h : ℕ) (i : Issued) → IsIssued t.peers.issued h i → IsIssued s.peers.issued h i ⊎ InSlot s.peers.heap i.peer ⊎ (IsMade s.peers.heap i.peer → ⊥)

-- the table and the issued handles stay
pub HandlesAlike-same : (s t : PeerReplay) → t.table ≡ s.table → t.peers.issued ≡ s.peers.issued → t.peers.heap.freed ≡ s.peers.heap.freed → HandlesAlike nothing_touched s t
HandlesAlike-same s t e f g = record {
  issued_on = λ h i q. subst (λ z. IsIssued z h i) (sym f) q;
  count = omega (arith, ap length f);
  on = λ h x w n q. (q.0, subst (λ z. IsTabled z h q.0) (sym e) q.1, q.2);
  back = λ h x w n q. (q.0, subst (λ z. IsTabled z h q.0) e q.1, q.2);
  fresh = λ h x w q. inl (w.0, subst (λ z. IsIssued z h w.0) f w.1, w.2);
  freed_on = λ p c. subst (λ z. Contains z p) (sym g) c;
}

-- a handle is issued, and stands in the table; a held one is strong
pub HandlesAlike-issued : (s t : PeerReplay) (new : Issued) → length s.table ≡ length s.peers.issued
    → t.table ≡ s.table ++ fresh_row new ∷ [] → t.peers.issued ≡ s.peers.issued ++ new ∷ [] → t.peers.heap.freed ≡ s.peers.heap.freed
    → (new.hold ≡ held → new.strength ≡ strong) → HandlesAlike nothing_touched s t
HandlesAlike-issued s t new places e f g strong_new = record {
  issued_on = λ h i q. subst (λ z. IsIssued z h i) (sym f) (numbered-push_old s.peers.issued new h (numbered-within s.peers.issued h i q).1 ∙ q);
  count = omega (arith, ap length f, length-append s.peers.issued (new ∷ []));
  on = λ h x w n q. (q.0, subst (λ z. IsTabled z h q.0) (sym e) (numbered-push_old s.table (fresh_row new) h (numbered-within s.table h (Some q.0) q.1).1 ∙ q.1), q.2);
  back = λ h x w n q. elim (numbered-push_cases s.table (fresh_row new) h (Some q.0) (subst (λ z. IsTabled z h q.0) e q.1)) [
    | inl u ↦ (q.0, u, q.2)
    | inr u ↦ absurd (omega (arith, (numbered-within s.peers.issued h w.0 w.1).1, u.0, places))
  ];
  fresh = λ h x w q. elim (numbered-push_cases s.peers.issued new h w.0 (subst (λ z. IsIssued z h w.0) f w.1)) [
    | inl u ↦ inl (w.0, u, w.2)
    | inr u ↦ inr (fresh_one h x q u.0 (strong_new (ap (λ (z : Issued). z.hold) u.1 ∙ w.2)))
  ];
  freed_on = λ p c. subst (λ z. Contains z p) (sym g) c;
}
  where
    fresh_one : (h : ℕ) (x : Strength) → HasStrength t h x → h ≡ length s.peers.issued + 1 → new.strength ≡ strong → x ≡ strong
    fresh_one h x q l st = elim (numbered-push_cases s.table (fresh_row new) h (Some q.0) (subst (λ z. IsTabled z h q.0) e q.1)) [
      | inl u ↦ absurd (omega (arith, (numbered-within s.table h (Some q.0) u).1, l, places))
      | inr u ↦ sym q.2 ∙ (sym (ap (λ (z : TableRow). z.strength) (same_Some (record { strength = new.strength; cleared = false }) q.0 u.1)) ∙ st)
    ]

-- a raw handle leaves the table
pub HandlesAlike-raw_gone : (s t : PeerReplay) (n : ℕ) (j : Issued) → IsIssued s.peers.issued n j → j.hold ≡ raw
    → t.table ≡ numbered_set s.table n None → t.peers.issued ≡ s.peers.issued → t.peers.heap.freed ≡ s.peers.heap.freed → HandlesAlike nothing_touched s t
HandlesAlike-raw_gone s t n j p r e f g = record {
  issued_on = λ h i q. subst (λ z. IsIssued z h i) (sym f) q;
  count = omega (arith, ap length f);
  on = λ h x w m q. (q.0, subst (λ z. IsTabled z h q.0) (sym e) (numbered_set-other s.table n h None (other h w) ∙ q.1), q.2);
  back = λ h x w m q. elim (tabled-set_cases s.table n None h q.0 (subst (λ z. IsTabled z h q.0) e q.1)) [
    | inl u ↦ absurd (none_some q.0 u.1)
    | inr u ↦ (q.0, u.1, q.2)
  ];
  fresh = λ h x w q. inl (w.0, subst (λ z. IsIssued z h w.0) f w.1, w.2);
  freed_on = λ p c. subst (λ z. Contains z p) (sym g) c;
}
  where
    other : (h : ℕ) → IsHeldOne s h → h ≡ n → ⊥
    other h w q = held-raw w.0 w.2 (ap (λ (z : Issued). z.hold) (same_Some w.0 j (sym w.1 ∙ (ap (λ z. numbered_at s.peers.issued z) q ∙ p))) ∙ r)

-- where no handle is issued the table stays, and where one is it stands last
pub table-still : (s : PeerReplay) (k : Peers) → k.issued ≡ s.peers.issued → s.table ++ map fresh_row (issued_since s.peers k) ≡ s.table
table-still s k e =
    let none : issued_since s.peers k ≡ [] = ap (λ l. drop (length s.peers.issued) l) e ∙ drop-length s.peers.issued in
    ap (λ l. s.table ++ map fresh_row l) none ∙ append-nil s.table

pub table-issued : (s : PeerReplay) (k : Peers) (new : Issued) → k.issued ≡ s.peers.issued ++ new ∷ [] → s.table ++ map fresh_row (issued_since s.peers k) ≡ s.table ++ fresh_row new ∷ []
table-issued s k new e =
    let one : issued_since s.peers k ≡ new ∷ [] = ap (λ l. drop (length s.peers.issued) l) e ∙ drop-append_seam s.peers.issued (new ∷ []) in
    ap (λ l. s.table ++ map fresh_row l) one

-- the open marking goes on
abbrev pub StillOpen : Option Marking → Option Marking → Type 0
StillOpen m n = (mk : Marking) → m ≡ Some mk → (now : Marking) × (n ≡ Some now) × (now.by ≡ mk.by)

pub StillOpen-same : (m : Option Marking) → StillOpen m m
StillOpen-same m mk e = (mk, e, refl)

pub StillOpen-brought : (m : Option Marking) (p : ℕ) → StillOpen m (brought_to m p)
StillOpen-brought None p mk e = absurd (none_some mk e)
StillOpen-brought (Some m) p mk e = (record m { brought = m.brought ++ p ∷ [] }, refl, ap (λ (z : Marking). z.by) (same_Some m mk e))

-- what slots, fields and handles come to name
abbrev pub SlotsFrom : (ℕ → Type 0) → PeerReplay → Heap → Type 0
SlotsFrom via s g = (p : ℕ) → InSlot g p → IsInReach s.peers.heap p ⊎ (IsMade s.peers.heap p → ⊥) ⊎ ((h : ℕ) × via h × (table_target s h ≡ Some p))

abbrev pub FieldsFrom : PeerReplay → Heap → Type 0
FieldsFrom s g = (x p : ℕ) → Contains (fields_of g x) (Some p) → Contains (fields_of s.peers.heap x) (Some p) ⊎ InSlot s.peers.heap p

-- an event that issues no handle
pub IsQuiet-still : (via : ℕ → Type 0) (s : PeerReplay) (k : Peers) (m : Option Marking) → k.issued ≡ s.peers.issued
    → k.heap.freed ≡ s.peers.heap.freed → length s.peers.heap.fields ≤ length k.heap.fields → StillOpen s.marking m
    → SlotsFrom via s k.heap → FieldsFrom s k.heap → IsQuiet via s (record s { peers = k; table = s.table ++ map fresh_row (issued_since s.peers k); marking = m })
IsQuiet-still via s k m e f l o slots fields = record {
  handles = HandlesAlike-same s (record s { peers = k; table = s.table ++ map fresh_row (issued_since s.peers k); marking = m }) (table-still s k e) e f;
  refs = refl;
  mirror = refl;
  freed = f;
  made = l;
  marking = o;
  slots = slots;
  fields = fields;
  issues = λ h i q. inl (subst (λ z. IsIssued z h i) e q);
}

-- an event that issues one
pub IsQuiet-issued : (via : ℕ → Type 0) (s : PeerReplay) (k : Peers) (new : Issued) → length s.table ≡ length s.peers.issued
    → k.issued ≡ s.peers.issued ++ new ∷ [] → k.heap.freed ≡ s.peers.heap.freed → length s.peers.heap.fields ≤ length k.heap.fields
    → (new.hold ≡ held → new.strength ≡ strong) → (InSlot s.peers.heap new.peer ⊎ (IsMade s.peers.heap new.peer → ⊥)) → SlotsFrom via s k.heap → FieldsFrom s k.heap
    → IsQuiet via s (record s { peers = k; table = s.table ++ map fresh_row (issued_since s.peers k) })
IsQuiet-issued via s k new places e f l st on slots fields = record {
  handles = HandlesAlike-issued s (record s { peers = k; table = s.table ++ map fresh_row (issued_since s.peers k) }) new places (table-issued s k new e) e f st;
  refs = refl;
  mirror = refl;
  freed = f;
  made = l;
  marking = StillOpen-same s.marking;
  slots = slots;
  fields = fields;
  issues = λ h i q. elim (numbered-push_cases s.peers.issued new h i (subst (λ z. IsIssued z h i) e q)) [
    | inl u ↦ inl u
    | inr u ↦ inr (subst (λ (z : Issued). InSlot s.peers.heap z.peer ⊎ (IsMade s.peers.heap z.peer → ⊥)) u.1 on)
  ];
}
