-- The flags of removed handles, as handles are issued and leave the table.
use Rattle.std.proofs.Common.{◌≡◌, ℕ, zero, suc, Bool, true, false, List, [], ◌∷◌, ◌++◌, map, Option, Some, None, refl, sym, ap, ◌∙◌}
use Rattle.std.specs.Prelude.{Contains, slice_get, slice_set}
use Rattle.std.proofs.lemmas.List.Elements.{Contains-append_left}
use Rattle.std.proofs.lemmas.Option.{same_Some}
use Rattle.joint_machine.specs.Heaps.{numbered_at, numbered_set}
use Rattle.joint_machine.specs.Joined.{is_untabled, removed_in}
use Rattle.joint_machine.specs.Joint.{JointMarking}
use Rattle.joint_machine.specs.Peers.{Peers, Issued, issued_since}
use Rattle.joint_machine.specs.PeerReplay.{PeerReplay, TableRow, Marking, fresh_row, brought_to, cleared_rows}
use Rattle.joint_machine.proofs.Deciding.{none_some}
use Rattle.joint_laws.specs.JointAgreement.{Flags, AreFlags, issued_flags, gone_flags, IsSameMarking, AreSameMarkings}
use Rattle.joint_laws.specs.PeerInvariants.{IsTabled}
use Rattle.joint_laws.proofs.Sparing.{spared-later, later}

-- handles are issued: they stand in the table
pub removed-issued : (rows : List (Option TableRow)) (news : List Issued) → removed_in (rows ++ map fresh_row news) ≡ removed_in rows ++ map (λ i. false) news
removed-issued [] [] = refl
removed-issued [] (i ∷ news) = ap (λ z. false ∷ z) (removed-issued [] news)
removed-issued (row ∷ rows) news = ap (λ z. is_untabled row ∷ z) (removed-issued rows news)

pub AreFlags-issued : (s : PeerReplay) (k : Peers) (flags : Flags) → AreFlags s flags
    → AreFlags (record s { peers = k; table = s.table ++ map fresh_row (issued_since s.peers k) }) (issued_flags flags (issued_since s.peers k))
AreFlags-issued s k flags f = ap (λ z. z ++ map (λ (i : Issued). false) (issued_since s.peers k)) f ∙ sym (removed-issued s.table (issued_since s.peers k))

-- a place of the table is written
removed-set_at : (rows : List (Option TableRow)) (i : ℕ) (row : Option TableRow) → removed_in (slice_set rows i row) ≡ slice_set (removed_in rows) i (is_untabled row)
removed-set_at [] i row = refl
removed-set_at (x ∷ rows) zero row = refl
removed-set_at (x ∷ rows) (suc i) row = ap (λ z. is_untabled x ∷ z) (removed-set_at rows i row)

pub removed-set : (rows : List (Option TableRow)) (h : ℕ) (row : Option TableRow) → removed_in (numbered_set rows h row) ≡ numbered_set (removed_in rows) h (is_untabled row)
removed-set rows zero row = refl
removed-set rows (suc i) row = removed-set_at rows i row

pub AreFlags-gone : (s : PeerReplay) (h : ℕ) (flags : Flags) → AreFlags s flags → AreFlags (record s { table = numbered_set s.table h None }) (gone_flags flags h)
AreFlags-gone s h flags f = ap (λ z. numbered_set z h true) f ∙ sym (removed-set s.table h None)

-- whether a handle is removed
removed-get : (rows : List (Option TableRow)) (i : ℕ) (row : Option TableRow) → slice_get rows i ≡ Some row → slice_get (removed_in rows) i ≡ Some (is_untabled row)
removed-get [] i row e = absurd (none_some row e)
removed-get (x ∷ rows) zero row e = ap (λ z. Some (is_untabled z)) (same_Some x row e)
removed-get (x ∷ rows) (suc i) row e = removed-get rows i row e

pub removed-at : (rows : List (Option TableRow)) (h : ℕ) (row : Option TableRow) → numbered_at rows h ≡ Some row → numbered_at (removed_in rows) h ≡ Some (is_untabled row)
removed-at rows zero row e = absurd (none_some row e)
removed-at rows (suc i) row e = removed-get rows i row e

-- a row that isn't removed is in the table
kept-get : (rows : List (Option TableRow)) (i : ℕ) → slice_get (removed_in rows) i ≡ Some false → (row : TableRow) × (slice_get rows i ≡ Some (Some row))
kept-get [] i e = absurd (none_some false e)
kept-get (None ∷ rows) zero e = absurd (let f : true ≡ false = same_Some true false e in cc)
kept-get (Some row ∷ rows) zero e = (row, refl)
kept-get (x ∷ rows) (suc i) e = kept-get rows i e

pub kept-at : (rows : List (Option TableRow)) (h : ℕ) → numbered_at (removed_in rows) h ≡ Some false → (row : TableRow) × IsTabled rows h row
kept-at rows zero e = absurd (none_some false e)
kept-at rows (suc i) e = kept-get rows i e

-- a row of the table is written
set-same_at : (bs : List Bool) (i : ℕ) (b : Bool) → slice_get bs i ≡ Some b → slice_set bs i b ≡ bs
set-same_at [] i b e = refl
set-same_at (x ∷ bs) zero b e = ap (λ z. z ∷ bs) (sym (same_Some x b e))
set-same_at (x ∷ bs) (suc i) b e = ap (λ z. x ∷ z) (set-same_at bs i b e)

pub removed-written : (rows : List (Option TableRow)) (h : ℕ) (old new : TableRow) → IsTabled rows h old → removed_in (numbered_set rows h (Some new)) ≡ removed_in rows
removed-written rows zero old new e = refl
removed-written rows (suc i) old new e = removed-set_at rows i (Some new) ∙ set-same_at (removed_in rows) i false (removed-get rows i (Some old) e)

-- a sweep clears handles, and removes none
pub removed-swept : (freed : List ℕ) (issued : List Issued) (rows : List (Option TableRow)) → removed_in (cleared_rows freed issued rows) ≡ removed_in rows
removed-swept freed [] rows = refl
removed-swept freed (i ∷ issued) [] = refl
removed-swept freed (i ∷ issued) (None ∷ rows) = ap (λ z. true ∷ z) (removed-swept freed issued rows)
removed-swept freed (i ∷ issued) (Some row ∷ rows) = ap (λ z. false ∷ z) (removed-swept freed issued rows)

-- the marking goes on as peers are brought back, or objects blackened
pub IsSameMarking-later : (mk : Marking) (j : JointMarking) (brought : List ℕ) (black : ℕ)
    → ((x : ℕ) → Contains mk.brought x → Contains brought x) → IsSameMarking mk j → IsSameMarking (later mk brought black) j
IsSameMarking-later mk j brought black more w = record { number = w.number; by = w.by; heap = w.heap; reached = λ p r. spared-later mk brought black p more (w.reached p r) }

pub AreSameMarkings-brought : (x : Option Marking) (j : Option JointMarking) (p : ℕ) → AreSameMarkings x j → AreSameMarkings (brought_to x p) j
AreSameMarkings-brought None None p w = w
AreSameMarkings-brought None (Some j) p w = w
AreSameMarkings-brought (Some mk) None p w = w
AreSameMarkings-brought (Some mk) (Some j) p w = IsSameMarking-later mk j (mk.brought ++ p ∷ []) mk.blackened (λ x c. Contains-append_left mk.brought (p ∷ []) x c) w
