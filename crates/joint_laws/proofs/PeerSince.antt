-- What each entry of the peer side keeps of the handles and the open marking: a handle stays issued as it was, and what
-- the marking spares it goes on sparing.
use Rattle.std.proofs.Common.{◌≡◌, ℕ, ◌+◌, ◌-◌, Bool, true, false, ◌||◌, List, [], ◌∷◌, ◌++◌, length, Option, Some, None, refl, sym, subst, ◌∙◌}
use Rattle.std.specs.Prelude.{Contains, if◌then◌else◌, min, nat_lt}
use Rattle.std.proofs.lemmas.Option.{same_Some}
use Rattle.std.proofs.lemmas.List.Elements.{Contains-append_left}
use Rattle.joint_machine.specs.declared.names.Thread.{Thread}
use Rattle.joint_machine.specs.declared.names.Thread.TheVariants.{C}
use Rattle.joint_machine.specs.declared.lines.Act.{Act}
use Rattle.joint_machine.specs.declared.lines.Act.TheVariants as act
use Rattle.joint_machine.specs.declared.events.Op.{Op}
use Rattle.joint_machine.specs.declared.events.Op.TheVariants as op
use Rattle.joint_machine.specs.declared.events.Reply.{Reply}
use Rattle.joint_machine.specs.declared.events.Reply.TheVariants as says
use Rattle.joint_machine.specs.Heaps.{Answered, answer, slot, is_full}
use Rattle.joint_machine.specs.Peers.{Issued, handles_full}
use Rattle.joint_machine.specs.PeerReplay.{PeerReplay, TableRow, Marking, row_of, bring_by, untabled, peer_thread_line, is_thread, sliced, begun, swept_of, swept, restored_by, mirrored, brought_to}
use Rattle.joint_machine.specs.PeerReplay.{peer_answer, table_target}
use Rattle.joint_machine.specs.Run.{thread_number}
use Rattle.joint_machine.specs.Told.{Told, references_of, slice_of, sweep_of}
use Rattle.joint_machine.proofs.Deciding.{none_some}
use Rattle.joint_laws.specs.PeerInvariants.{IsIssued, IsSpared, PeerInvariant}
use Rattle.joint_laws.proofs.PeerQuietEvents.{quiet-line, quiet-pair, quiet-grip, quiet-land}
use Rattle.joint_laws.proofs.Sparing.{spared-later, later}
use Rattle.joint_machine.specs.Components.{End}
use Rattle.joint_laws.proofs.Restores.{restored-any}
use Rattle.joint_machine.proofs.Numbered.{numbered-push_old, numbered-within}

abbrev pub StillSpares : Option Marking → Option Marking → Type 0
StillSpares x y = (mk now : Marking) → x ≡ Some mk → y ≡ Some now → (p : ℕ) → IsSpared mk p → IsSpared now p

pub spares-same : (x : Option Marking) → StillSpares x x
spares-same x mk now e f p s = subst (λ z. IsSpared z p) (same_Some mk now (sym e ∙ f)) s

pub spares-ended : (x : Option Marking) → StillSpares x None
spares-ended x mk now e f p s = absurd (none_some now f)

pub spares-begun : (y : Option Marking) → StillSpares None y
spares-begun y mk now e f p s = absurd (none_some mk e)

spares-later : (m : Marking) (brought : List ℕ) (black : ℕ) → ((x : ℕ) → Contains m.brought x → Contains brought x) → StillSpares (Some m) (Some (later m brought black))
spares-later m brought black more mk now e f p s = subst (λ z. IsSpared z p) (same_Some (later m brought black) now f)
    (spared-later m brought black p more (subst (λ z. IsSpared z p) (sym (same_Some m mk e)) s))

pub spares-brought : (x : Option Marking) (p : ℕ) → StillSpares x (brought_to x p)
spares-brought None p = spares-begun None
spares-brought (Some m) p = spares-later m (m.brought ++ p ∷ []) m.blackened (λ x c. Contains-append_left m.brought (p ∷ []) x c)

bring-spares : (a : Answered PeerReplay) (r : Reply) → StillSpares a.state.marking (bring_by a r).state.marking
bring-spares a (says.P p) = spares-brought a.state.marking p.0
bring-spares a _ = spares-same a.state.marking

-- handles stay issued, and what is spared stays spared
pub record GoesOnSparing (s t : PeerReplay) : Type 0 where
  pub issued_on : (h : ℕ) (i : Issued) → IsIssued s.peers.issued h i → IsIssued t.peers.issued h i
  pub spares : StillSpares s.marking t.marking

pub stays-sparing : (s : PeerReplay) → GoesOnSparing s s
stays-sparing s = record { issued_on = λ h i e. e; spares = spares-same s.marking }

module _ (s : PeerReplay) (k : PeerInvariant s) where
  sliced-on : (x : Option Marking) (t : Thread) (n : ℕ) (closure : List ℕ) → s.marking ≡ x → GoesOnSparing s (sliced s x t n closure).state
  sliced-on None t n closure e = stays-sparing s
  sliced-on (Some mk) t n closure e = by (is_thread t mk.by)
    where
      black : (b : ℕ) → GoesOnSparing s (record s { marking = Some (record mk { blackened = b }) })
      black b = record { issued_on = λ h i f. f; spares = subst (λ z. StillSpares z (Some (record mk { blackened = b }))) (sym e) (spares-later mk mk.brought b (λ x c. c)) }

      by : (b : Bool) → GoesOnSparing s (if b
          then (let black = mk.blackened + min n (length closure - mk.blackened) in
          answer (if nat_lt black (length closure) then says.More else says.Done) (record s { marking = Some (record mk { blackened = black }) }))
          else answer (says.MarkOpen record { 0 = mk.number }) s).state
      by true = black _
      by false = stays-sparing s

  begun-on : (x : Option Marking) (t : Thread) → s.marking ≡ x → GoesOnSparing s (begun s x t).state
  begun-on None t e = record { issued_on = λ h i f. f; spares = subst (λ z. StillSpares z (begun s None t).state.marking) (sym e) (spares-begun (begun s None t).state.marking) }
  begun-on (Some mk) t e = stays-sparing s

  swept-on : (x : Option Marking) (t : Thread) (freed : List ℕ) → GoesOnSparing s (swept s x t freed).state
  swept-on None t freed = stays-sparing s
  swept-on (Some mk) t freed = by (is_thread t C || is_thread t mk.by)
    where
      by : (b : Bool) → GoesOnSparing s (if b then swept_of s mk freed else answer (says.MarkOpen record { 0 = mk.number }) s).state
      by true = record { issued_on = λ h i f. f; spares = spares-ended s.marking }
      by false = stays-sparing s

  restored-on : (h : ℕ) (x : Option TableRow) → GoesOnSparing s (restored_by s h x).state
  restored-on h x = restored-any (λ a. GoesOnSparing s a.state) s h x (stays-sparing s) (record { issued_on = λ g i f. f; spares = spares-same s.marking })
      (λ p. record { issued_on = λ g i f. numbered-push_old s.peers.issued _ g (numbered-within s.peers.issued g i f).1 ∙ f; spares = spares-brought s.marking p })

  mirrored-on : (n : ℕ) (cites : Option ℕ) (refs : List (End × End)) → GoesOnSparing s (mirrored s n cites refs)
  mirrored-on n None refs = stays-sparing s
  mirrored-on n (Some snap) refs = record { issued_on = λ h i f. f; spares = spares-same s.marking }

  unglobal-on : (o : Option ℕ) → StillSpares s.marking (untabled s o).marking
  unglobal-on None = spares-same s.marking
  unglobal-on (Some h) = spares-same s.marking

  line-spares : (u : ℕ) (a : Act) → StillSpares s.marking (peer_thread_line s u a).state.marking
  line-spares u (act.UnGlobal g) = unglobal-on (slot s.peers.names g.0)
  line-spares u (act.WRead v g) = bring-spares _ _
  line-spares u _ = spares-same s.marking

  line-on : (u : ℕ) (a : Act) → GoesOnSparing s (peer_thread_line s u a).state
  line-on u a = record { issued_on = (quiet-line s u a k).handles.issued_on; spares = line-spares u a }

  pub peer-goes_on : (t : Thread) (o : Op) (cites : Option ℕ) (told : Told) → GoesOnSparing s (peer_answer s t o cites told).state
  peer-goes_on t (op.Line (act.Slice n)) cites (slice_of closure) = sliced-on s.marking t n closure refl
  peer-goes_on t (op.Line (act.Slice n)) cites _ = sliced-on s.marking t n [] refl
  peer-goes_on t (op.Line a) cites told = line-on (thread_number t) a
  peer-goes_on t (op.Make sort n) cites told = record {
    issued_on = (quiet-pair (λ h. ⊥) s sort n (is_full s.peers.heap.fields || handles_full s.peers) k.handles.places).handles.issued_on;
    spares = spares-same s.marking;
  }
  peer-goes_on t (op.Land h x) cites told = record { issued_on = (quiet-land (λ g. g ≡ h.0) s x.0 h.0 (table_target s h.0) refl refl).handles.issued_on; spares = bring-spares _ _ }
  peer-goes_on t (op.Grip x) cites told = record { issued_on = (quiet-grip (λ h. ⊥) s x.0 (slot s.peers.heap.statics x.0) k.handles.places refl).handles.issued_on; spares = spares-same s.marking }
  peer-goes_on t (op.Release h) cites told = record { issued_on = λ g i f. f; spares = spares-same s.marking }
  peer-goes_on t (op.Mirror n) cites (references_of refs) = mirrored-on n.0 cites refs
  peer-goes_on t (op.Weaken h) cites told = record { issued_on = λ g i f. f; spares = spares-same s.marking }
  peer-goes_on t op.Begin cites told = begun-on s.marking t refl
  peer-goes_on t op.Sweep cites (sweep_of freed) = swept-on s.marking t freed
  peer-goes_on t op.Sweep cites _ = swept-on s.marking t []
  peer-goes_on t (op.Restore h) cites told = restored-on h.0 (row_of s h.0)
  peer-goes_on t (op.Clear n) cites told = record { issued_on = λ g i f. f; spares = spares-same s.marking }
  peer-goes_on t _ cites told = stays-sparing s
