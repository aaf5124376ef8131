-- Restoring handles one after another: what may still be restored stays so.
use Rattle.std.proofs.Common.{◌≡◌, ◌≢◌, ℕ, ◌+◌, ◌≤◌, inl, inr, Bool, true, false, List, [], ◌∷◌, ◌++◌, length, Option, Some, None, refl, sym, ap, subst, ◌∙◌, arith, append_assoc, length-append}
use Rattle.std.proofs.Common.{if◌then◌else◌, take, drop, get_or}
use Rattle.std.specs.Prelude.{All, AllPairs, Contains}
use Rattle.std.specs.Option.{option_to_list}
use Rattle.std.proofs.lemmas.Option.{get_or_from_slice_get, slice_get_within}
use Rattle.std.proofs.lemmas.List.Folds.{length-flat_map-take}
use Rattle.std.proofs.lemmas.List.Elements.{All-contains, All-head, Contains-push_cases}
use Rattle.joint_machine.specs.declared.names.HNum.{HNum}
use Rattle.joint_machine.specs.declared.names.Thread.TheVariants.{C}
use Rattle.joint_machine.specs.declared.events.Op.TheVariants as op
use Rattle.joint_machine.specs.declared.events.Reply.TheVariants as says
use Rattle.joint_machine.specs.Heaps.{Answered, answer, numbered_at, numbered_set}
use Rattle.joint_machine.specs.Peers.{Peers, held, next_handle, peer_of, strong}
use Rattle.joint_machine.specs.PeerReplay.{Mirror, PeerReplay, TableRow, MayRestore, fresh_row, given_anew, renewed_on, restored_by, row_of, with_given, with_restored, withdrawn}
use Rattle.joint_machine.specs.Draws.{Drawing}
use Rattle.joint_machine.specs.Sides.{AddsInTurn, AddsLawful, MayDraw, peer_rules}
use Rattle.joint_machine.specs.Told.{nothing}
use Rattle.joint_machine.proofs.Members.{All-members, Contains-there}
use Rattle.joint_machine.proofs.Numbered.{numbered-push_old, numbered-within, numbered_set-length, numbered_set-other}
use Rattle.global_handles.specs.declared.Back.{Back}
use Rattle.global_handles.specs.Rows.{back_of}
use Rattle.peer_heap.specs.Cycles.{restores}
use Rattle.peer_heap.specs.Sides.{PeerModel, seen}
use Rattle.peer_heap.proofs.Makings.{draws-on}
use Rattle.peer_heap.proofs.Steps.{row-tabled}
use Rattle.handle_weaken.specs.Entries.{RestoresInTurn, restorings}
use Rattle.handle_weaken.proofs.Turns.{apart-first, apart-rest, done-none, done-some, left-none, left-some, turn-more}
use Rattle.bridge_graph.specs.declared.graph.Node.{Node}
use Rattle.bridge_graph.specs.Handles.{handles_of}
use Rattle.bridge_graph.specs.Parts.{HasNode}

-- these handles are restored since a start, and these others may be
pub record IsRestoring {D : Type 0} (d : Drawing D) (start now : D) (old new : PeerModel) (index : ℕ) (done rest : List HNum) (values later : List (Option HNum)) : Type 0 where
  pub turns : RestoresInTurn d start now (seen old) (seen new) index done values later
  pub reserve : new.reserve ≡ old.reserve
  pub peers : new.state.peers ≡ record old.state.peers { issued = new.state.peers.issued }
  pub apart : AllPairs (λ h k. h.0 ≢ k.0) rest
  pub restores : All (λ h. MayRestore new.state h.0) rest
  pub may : All (λ h. MayDraw peer_rules d now (seen new) C (op.Restore h)) rest

-- what a restore leaves: the handle is restored in the mirrored cycle, and each other handle of the table has its row
record IsRestoredAt (s t : PeerReplay) (h : ℕ) : Type 0 where
  mirror : (m : Mirror) → s.mirror ≡ Some m → (n : Mirror) × (t.mirror ≡ Some n) × (n.weakened ≡ m.weakened) × (n.restored ≡ m.restored ++ h ∷ [])
  tabled : (k : ℕ) (row : TableRow) → k ≢ h → row_of s k ≡ Some row → row_of t k ≡ Some row

-- the row in a place of the table
abbrev row-in : Option (Option TableRow) → Option TableRow
row-in o = elim o [ None ↦ None | Some row ↦ row ]

restored-at : (s : PeerReplay) (h : ℕ) (row : TableRow) → row_of s h ≡ Some row → IsRestoredAt s (restored_by s h (row_of s h)).state h
restored-at s h row tabled = subst (λ o. IsRestoredAt s (restored_by s h o).state h) (sym tabled) (by row.cleared)
  where
    gone : IsRestoredAt s (withdrawn s h) h
    gone = record {
      mirror = λ m e. (record m { restored = m.restored ++ h ∷ [] }, ap (λ o. with_restored o h) e, refl, refl);
      tabled = λ k other n e. ap row-in (numbered_set-other s.table h k None n) ∙ e;
    }

    given : (p : ℕ) → IsRestoredAt s (given_anew (withdrawn s h) p) h
    given p =
        let new : Option TableRow = fresh_row record { peer = p; hold = held; strength = strong } in
        record {
          mirror = λ m e. (record m { restored = m.restored ++ h ∷ []; renewed = m.renewed ++ next_handle s.peers ∷ [] }, ap (λ o. with_given (with_restored o h) (next_handle s.peers)) e, refl, refl);
          tabled = λ k other n e.
              let here = row-tabled (numbered_at s.table k) other e in
              let within = numbered-within s.table k (Some other) here in
              ap row-in (numbered-push_old (numbered_set s.table h None) new k (omega (arith, within.1, numbered_set-length s.table h None)) ∙ (numbered_set-other s.table h k None n ∙ here));
        }

    anew : (o : Option ℕ) → IsRestoredAt s (renewed_on s h o).state h
    anew None = gone
    anew (Some p) = given p

    by : (b : Bool) → IsRestoredAt s (if b then answer says.Cleared (withdrawn s h) else renewed_on s h (peer_of s.peers.issued h)).state h
    by true = gone
    by false = anew (peer_of s.peers.issued h)

-- a restore of a handle of the table, by whether it is cleared
abbrev restored-if : PeerReplay → ℕ → Bool → Answered PeerReplay
restored-if s h b = if b then answer says.Cleared (withdrawn s h) else renewed_on s h (peer_of s.peers.issued h)

-- of the peers nothing but the handles that were issued is another after it
pub restored-peers : (s t : PeerReplay) (h : ℕ) → t ≡ (restored_by s h (row_of s h)).state → t.peers ≡ record s.peers { issued = t.peers.issued }
restored-peers s t h is = subst (λ (z : PeerReplay). z.peers ≡ record s.peers { issued = z.peers.issued }) (sym is) (by (row_of s h))
  where
    anew : (o : Option ℕ) → (renewed_on s h o).state.peers ≡ record s.peers { issued = (renewed_on s h o).state.peers.issued }
    anew None = refl
    anew (Some p) = refl

    cleared : (b : Bool) → (restored-if s h b).state.peers ≡ record s.peers { issued = (restored-if s h b).state.peers.issued }
    cleared true = refl
    cleared false = anew (peer_of s.peers.issued h)

    by : (o : Option TableRow) → (restored_by s h o).state.peers ≡ record s.peers { issued = (restored_by s h o).state.peers.issued }
    by None = refl
    by (Some row) = cleared row.cleared

-- a handle that may be restored may be so after another one was
restores-on : (s t : PeerReplay) (h k : ℕ) → t ≡ (restored_by s h (row_of s h)).state → MayRestore s h → k ≢ h → MayRestore s k → MayRestore t k
restores-on s t h k is first apart may =
    let at : IsRestoredAt s t h = subst (λ z. IsRestoredAt s z h) (sym is) (restored-at s h first.row first.tabled) in
    let now = at.mirror may.mirror may.stands in
    record {
      mirror = now.0;
      stands = now.1;
      weakened = subst (λ hs. Contains hs k) (sym now.2) may.weakened;
      waiting = λ there. elim (Contains-push_cases may.mirror.restored h k (subst (λ hs. Contains hs k) now.3 there)) [ inl old ↦ may.waiting old | inr new ↦ apart (sym new) ];
      row = may.row;
      tabled = at.tabled k may.row apart may.tabled;
    }

-- the entries that restore one more handle
restorings-more : (index : ℕ) (hs : List HNum) (h : HNum) (bs : List (Option HNum)) (b : Option HNum) → length bs ≡ length hs
    → restorings index (hs ++ h ∷ []) (bs ++ b ∷ []) ≡ restorings index hs bs ++ record { made = restores index h (back_of b); told = nothing } ∷ []
restorings-more index [] h [] b e = refl
restorings-more index [] h (c ∷ bs) b e = absurd (omega (arith, e))
restorings-more index (k ∷ hs) h [] b e = absurd (omega (arith, e))
restorings-more index (k ∷ hs) h (c ∷ bs) b e = ap (λ ms. record { made = restores index k (back_of c); told = nothing } ∷ ms) (restorings-more index hs h bs b (omega (arith, e)))

-- one more handle is restored
pub IsRestoring-next : {D : Type 0} (d : Drawing D) (start now next : D) (old new later : PeerModel) (index : ℕ) (h : HNum) (b : Option HNum)
    (done rest : List HNum) (values mid after : List (Option HNum)) → IsRestoring d start now old new index done (h ∷ rest) values mid
    → AddsLawful peer_rules d now next (seen new) (seen later) (restores index h (back_of b)) nothing → later.reserve ≡ new.reserve
    → later.state.peers ≡ record new.state.peers { issued = later.state.peers.issued } → after ≡ mid ++ b ∷ [] → IsRestoring d start next old later index (done ++ h ∷ []) rest values after
IsRestoring-next d start now next old new later index h b done rest values mid after r adds reserve peers pushed =
    let t = r.turns in
    let first : MayRestore new.state h.0 = All-head (λ (k : HNum). MayRestore new.state k.0) h rest r.restores in
    record {
      turns = record {
        answers = t.answers ++ b ∷ [];
        each = omega (arith, t.each, length-append t.answers (b ∷ []), length-append done (h ∷ []));
        put = pushed ∙ (ap (λ l. l ++ b ∷ []) t.put ∙ append_assoc values t.answers (b ∷ []));
        adds = subst (AddsInTurn peer_rules d start next (seen old) (seen later)) (sym (restorings-more index done h t.answers b t.each))
            (turn-more peer_rules d start now next (seen old) (seen new) (seen later) (restorings index done t.answers) (record { made = restores index h (back_of b); told = nothing }) t.adds adds);
      };
      reserve = reserve ∙ r.reserve;
      peers = peers ∙ ap (λ (z : Peers). record z { issued = later.state.peers.issued }) r.peers;
      apart = apart-rest h rest r.apart;
      restores = All-members (λ k. MayRestore later.state k.0) rest (λ k there. restores-on new.state later.state h.0 k.0 adds.goes.state first (apart-first h rest k r.apart there)
          (All-contains (λ k. MayRestore new.state k.0) (h ∷ rest) k r.restores (Contains-there k h rest there)));
      may = All-members (λ k. MayDraw peer_rules d next (seen later) C (op.Restore k)) rest
          (λ k there. draws-on d now next (seen new) (seen later) (restores index h (back_of b)) nothing C (op.Restore k) adds refl
          (All-contains (λ k. MayDraw peer_rules d now (seen new) C (op.Restore k)) (h ∷ rest) k r.may (Contains-there k h rest there)));
    }

-- the nodes of a part, one after another
module _ {D : Type 0} (d : Drawing D) (start now : D) (old new : PeerModel) (index : ℕ) (nodes : List Node) (i : ℕ) (values mid : List (Option HNum))
    (r : IsRestoring d start now old new index (handles_of (take i nodes)) (handles_of (drop i nodes)) values mid) where
  module _ (h : HNum) (at : HasNode nodes i (λ n. n.handle ≡ Some h)) where
    -- the handle of the next bridge node may be restored
    first : IsRestoring d start now old new index (handles_of (take i nodes)) (h ∷ handles_of (drop (i + 1) nodes)) values mid
    first = subst (λ hs. IsRestoring d start now old new index (handles_of (take i nodes)) hs values mid) (left-some nodes i h at) r

    pub next-restores : MayRestore new.state h.0
    next-restores = All-head (λ (k : HNum). MayRestore new.state k.0) h (handles_of (drop (i + 1) nodes)) first.restores

    pub next-may : MayDraw peer_rules d now (seen new) C (op.Restore h)
    next-may = All-head (λ (k : HNum). MayDraw peer_rules d now (seen new) C (op.Restore k)) h (handles_of (drop (i + 1) nodes)) first.may

    -- and is restored
    pub IsRestoring-node : (next : D) (later : PeerModel) (back : Back) (b : Option HNum) (after : List (Option HNum))
        → AddsLawful peer_rules d now next (seen new) (seen later) (restores index h back) nothing → back_of b ≡ back
        → later.reserve ≡ new.reserve → later.state.peers ≡ record new.state.peers { issued = later.state.peers.issued } → after ≡ mid ++ b ∷ []
        → IsRestoring d start next old later index (handles_of (take (i + 1) nodes)) (handles_of (drop (i + 1) nodes)) values after
    IsRestoring-node next later back b after adds is reserve peers pushed = subst
        (λ hs. IsRestoring d start next old later index hs (handles_of (drop (i + 1) nodes)) values after) (sym (done-some nodes i h at))
        (IsRestoring-next d start now next old new later index h b (handles_of (take i nodes)) (handles_of (drop (i + 1) nodes)) values mid after first
        (subst (λ k. AddsLawful peer_rules d now next (seen new) (seen later) (restores index h k) nothing) (sym is) adds) reserve peers pushed)

  -- another node is passed
  pub IsRestoring-passed : HasNode nodes i (λ n. n.handle ≡ None) → IsRestoring d start now old new index (handles_of (take (i + 1) nodes)) (handles_of (drop (i + 1) nodes)) values mid
  IsRestoring-passed at =
      subst (λ hs. IsRestoring d start now old new index hs (handles_of (drop (i + 1) nodes)) values mid) (sym (done-none nodes i at))
      (subst (λ hs. IsRestoring d start now old new index (handles_of (take i nodes)) hs values mid) (left-none nodes i at) r)

-- and there is room for one more answer
pub answers-room : (nodes : List Node) (i : ℕ) (h : HNum) → HasNode nodes i (λ n. n.handle ≡ Some h) → length (handles_of (take i nodes)) + 1 ≤ length (handles_of nodes)
answers-room nodes i h at =
    let here = get_or_from_slice_get nodes i at.0 at.0 at.1 in
    let one : length (option_to_list (get_or nodes i at.0).handle) ≡ 1 = ap (λ (n : Node). length (option_to_list n.handle)) here ∙ ap (λ o. length (option_to_list o)) at.2 in
    omega (arith, one, length-flat_map-take (λ (n : Node). option_to_list n.handle) nodes i at.0 (slice_get_within nodes i at.0 at.1))
