-- What is seen of the peers' part of a side: the rows of the heap, the sorts, the names, and the handles as they were
-- issued and as the table has them now. (The global references of the Xamarin.Android documentation; the rest is this
-- project's own.)
use Rattle.std.specs.Prelude.{◌≡◌, ℕ, ◌+◌, ◌≤◌, zero, suc, ◌++◌, List, [], ◌∷◌, All, Option, Some, None, length, map}
use Rattle.std.specs.Prelude.{replicate}
use Rattle.std.specs.Option.{option_map}
use Rattle.joint_machine.specs.declared.names.HNum.{HNum}
use Rattle.joint_machine.specs.declared.names.PNum.{PNum}
use Rattle.joint_machine.specs.declared.names.Sort.{Sort}
use Rattle.joint_machine.specs.declared.names.Thread.{Thread}
use Rattle.joint_machine.specs.declared.lines.Act.TheVariants as act
use Rattle.joint_machine.specs.declared.events.Op.{Op}
use Rattle.joint_machine.specs.declared.events.Op.TheVariants as op
use Rattle.joint_machine.specs.declared.events.Reply.{Reply}
use Rattle.joint_machine.specs.declared.events.Reply.TheVariants as says
use Rattle.joint_machine.specs.Heaps.{Heap, IsLive, Answered, answer, numbered_at}
use Rattle.joint_machine.specs.Peers.{Peers, Issued, issued_since, Hold as JointHold, held, raw}
use Rattle.joint_machine.specs.Peers.{Strength as JointStrength, strong, weak}
use Rattle.joint_machine.specs.PeerReplay.{PeerReplay, TableRow, Marking, opening_peer_replay, fresh_row, peer_answer}
use Rattle.joint_machine.specs.PeerReplay.{brought_to, table_target}
use Rattle.joint_machine.specs.Told.{nothing}
use Rattle.global_handles.specs.Rows.{Table, row_in, IsRising}
use Rattle.global_handles.specs.declared.HandleRow.{HandleRow}
use Rattle.global_handles.specs.declared.Hold.{Hold}
use Rattle.global_handles.specs.declared.Hold.TheVariants.{Held, Raw}
use Rattle.global_handles.specs.declared.Strength.{Strength}
use Rattle.global_handles.specs.declared.Strength.TheVariants.{Strong, Weak}
use Rattle.row_heap.specs.Rows.{HeapRows, opening_rows}
use Rattle.peer_heap.specs.declared.issues.Issue.{Issue}

-- `made` counts the handles that were issued otherwise than by a restore, and `tabled` those that the table has
pub record Rows : Type 0 where
  pub rows : HeapRows
  pub sorts : List Sort
  pub names : List (Option ℕ)
  pub issued : List Issued
  pub made : ℕ
  pub table : List (Option TableRow)
  pub tabled : ℕ

-- no peer, no name and no handle
abbrev pub no_rows : Rows
no_rows = record {
  rows = opening_rows;
  sorts = [];
  names = replicate 64 None;
  issued = [];
  made = 0;
  table = [];
  tabled = 0;
}

-- the peers, as the definition has them
abbrev pub peers_in : Rows → Peers
peers_in v = record { heap = v.rows.heap; sorts = v.sorts; names = v.names; issued = v.issued; made = v.made }

-- no peer has more than 255 fields
abbrev pub IsShort : List (Option ℕ) → Type 0
IsShort fields = length fields ≤ 255

abbrev pub AreShort : Heap → Type 0
AreShort h = All IsShort h.fields

-- a state of the replay with these peers and handles
abbrev pub with_rows : PeerReplay → Rows → PeerReplay
with_rows s v = record s { peers = peers_in v; table = v.table }

-- whether a handle is held, as the definition has it
abbrev pub hold_as : Hold → JointHold
hold_as Held = held
hold_as Raw = raw

-- whether a handle is strong, as the definition has it
abbrev pub strength_as : Strength → JointStrength
strength_as Strong = strong
strength_as Weak = weak

-- a handle as it was issued
abbrev pub issued_as : Issue → Issued
issued_as i = record { peer = i.peer.0; hold = hold_as i.hold; strength = strength_as i.strength }

-- a row of the table, as the definition has it
abbrev pub row_as : HandleRow → TableRow
row_as r = record { strength = strength_as r.strength; cleared = r.cleared }

-- the rows of the handles from 1 to n; None for each that isn't in the table
abbrev pub table_to : List HandleRow → ℕ → List (Option TableRow)
table_to rows zero = []
table_to rows (suc n) = table_to rows n ++ option_map row_as (row_in rows record { 0 = suc n }) ∷ []

-- the parts as they are seen together
abbrev pub rows_with : HeapRows → List Sort → List (Option ℕ) → List Issue → Table → Rows
rows_with rows sorts names issued table = record {
  rows = rows;
  sorts = sorts;
  names = names;
  issued = map issued_as issued;
  made = table.made;
  table = table_to table.rows table.last;
  tabled = length table.rows;
}

-- the peer of an answer, as a number
abbrev pub number_of : Option PNum → Option ℕ
number_of p = option_map (λ q. q.0) p

-- a row of the table has the peer on which its handle was issued
abbrev pub AreRowsIssued : List HandleRow → List Issue → Type 0
AreRowsIssued rows issued = (h : HNum) (r : HandleRow) → row_in rows h ≡ Some r
    → (i : Issue) × (numbered_at issued h.0 ≡ Some i) × (i.peer ≡ r.peer)

-- what holds of the parts together: the table's rows rise, each of a handle that was issued, and on its peer; each peer
-- has a sort; and no peer has more fields than a reply can say
pub record ArePeerRows (rows : HeapRows) (sorts : List Sort) (issued : List Issue) (table : Table) : Type 0 where
  pub rising : IsRising table
  pub places : table.last ≡ length issued
  pub rows_issued : AreRowsIssued table.rows issued
  pub sorted : length sorts ≡ length rows.heap.fields
  pub short : AreShort rows.heap

-- what a handle of the table leads to is live
abbrev pub AreTargetsLive : Rows → Type 0
AreTargetsLive v = (h p : ℕ) → table_target (with_rows opening_peer_replay v) h ≡ Some p → IsLive v.rows.heap p

-- the rows with a further handle
abbrev pub issued_to : Rows → Issue → Rows
issued_to v i = record v {
  issued = v.issued ++ issued_as i ∷ [];
  made = v.made + 1;
  table = v.table ++ fresh_row (issued_as i) ∷ [];
  tabled = v.tabled + 1;
}

-- an event of the peers has this reply and leads to these rows, and the handles that it issues come into the table
pub record PeersAnswer (old : Rows) (a : Answered Peers) (r : Reply) (new : Rows) : Type 0 where
  pub peers : a ≡ answer r (peers_in new)
  pub table : new.table ≡ old.table ++ map fresh_row (issued_since (peers_in old) (peers_in new))

-- the open marking after a reply that may name a peer: the peer is brought back
abbrev pub marking_by : Option Marking → Reply → Option Marking
marking_by mk (says.P p) = brought_to mk p.0
marking_by mk r = mk

-- the open marking after an event
abbrev pub marking_after : Option Marking → Op → Reply → Option Marking
marking_after mk (op.Line (act.WRead v g)) r = marking_by mk r
marking_after mk (op.Land h x) r = marking_by mk r
marking_after mk o r = mk

-- the event has this reply in the replay and leads to these rows, whatever else the state has; what it gave is brought
-- back
abbrev pub GoesBy : Rows → Thread → Op → Reply → Rows → Type 0
GoesBy old t o r new = (s : PeerReplay) (cites : Option ℕ)
    → peer_answer (with_rows s old) t o cites nothing ≡ answer r
    (record (with_rows s new) { marking = marking_after s.marking o r })
