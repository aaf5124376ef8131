-- What a run lists of a cycle is what the driver knows of it at its snapshot: the graph is that of the dead part at the
-- end of the driver's past, whose lines are those that the driver knows. And a snapshot is one more of the driver's own
-- entries.
use Rattle.std.proofs.Common.{◌≡◌, ℕ, ◌<◌, ◌≤◌, cond, List, [], ◌∷◌, ◌++◌, length, map, Option, Some, refl, sym, ap, ◌∙◌, subst, append-nil, arith}
use Rattle.std.specs.Prelude.{All}
use mathlib.Core.List.{IsPrefix}
use base.Growing.{prefix_refl, prefix_trans}
use Rattle.std.proofs.lemmas.List.{length-map}
use Rattle.std.proofs.lemmas.Option.{slice_get_within}
use Rattle.joint_machine.specs.declared.names.Cycle.{Cycle}
use Rattle.joint_machine.specs.declared.names.Phase.{Phase}
use Rattle.joint_machine.specs.declared.names.Phase.TheVariants as at
use Rattle.joint_machine.specs.declared.names.PhaseWord.{PhaseWord}
use Rattle.joint_machine.specs.declared.names.PhaseWord.TheVariants as word
use Rattle.joint_machine.specs.declared.names.Thread.TheVariants.{C}
use Rattle.joint_machine.specs.declared.lines.Act.{Act}
use Rattle.joint_machine.specs.declared.lines.Act.TheVariants as act
use Rattle.joint_machine.specs.declared.events.Entry.{Entry}
use Rattle.joint_machine.specs.declared.events.Op.{Op}
use Rattle.joint_machine.specs.declared.events.Op.TheVariants as op
use Rattle.joint_machine.specs.Components.{IsContraction}
use Rattle.joint_machine.specs.Phases.{AreEach, IsEventOf, next_phase, phases_left, phases_of}
use Rattle.joint_machine.specs.Histories.{Finished}
use Rattle.joint_machine.specs.LinkedHistories.{IsLinked}
use Rattle.joint_machine.specs.Managed.{OpenCycle}
use Rattle.joint_machine.proofs.Members.{All-members, at-Contains}
use Rattle.known_laws.specs.Drawn.{KeptDrawn, of_drawn}
use Rattle.known_laws.specs.Facts.{opened_of}
use Rattle.known_laws.specs.Growing.{Kept, all_shown, entries_kept}
use Rattle.known_laws.specs.PastEntries.{entries}
use Rattle.known_laws.specs.Lists.{made_by}
use Rattle.known_laws.specs.Pasts.{driver_line, end_of, line}
use Rattle.known_laws.proofs.Growing.{entries_shown}
use Rattle.bridge_graph.specs.declared.graph.Node.{Node}
use Rattle.bridge_graph.specs.Parts.{IsBridgeNode, NodeLeads, Part}
use Rattle.xref_list.specs.Listing.{Listing as Components}
use Rattle.graph_listing.specs.Listing.{Listed}
use Rattle.graph_listing.specs.Numbers.{AreOfNodes, listed_of}
use Rattle.order_table.specs.declared.views.KeptEntry.{KeptEntry}
use Rattle.order_table.specs.declared.views.View.{View}
use Rattle.order_table.specs.Facts.{line_entries}
use Rattle.order_table.specs.Views.{known}
use Rattle.view_laws.specs.Knowing.{IsDrawnView, drawn_lines, of_order}
use Rattle.joint_history.specs.Callers.{Pass, own}
use Rattle.joint_history.specs.Ending.{BeginsPast, BeginsView, HasOwn, IsKnownHistory}
use Rattle.dead_parts.specs.Graphs.{number_at}
use Rattle.joint_history.specs.Knowing.{line_known}
use Rattle.joint_history.specs.Operations.{MakesAll}
use Rattle.joint_history.proofs.Ended.{prefix_map}
use Rattle.bridge_cycle.specs.OpenParts.{IsOpenPart}
use Rattle.bridge_cycle.specs.Progress.{Progress, RunsWord, RunsWords, cycle_after, last_reply, pass_of}
use Rattle.bridge_cycle.proofs.Composed.{leads_one}
use Rattle.dead_parts.proofs.DeadContraction.{a_graphs_contraction}
use Rattle.listing_laws.specs.Listings.{IsListedIn, ListsDeadPart, is_snap}
use Rattle.listing_laws.specs.Snapshots.{AreSeen, IsSeenAt, OpensNone, snaps_of}
use Rattle.listing_laws.proofs.Growing.{seen_behind, seen_stays}
use Rattle.listing_laws.proofs.LastSnap.{last_snap_is_open}
use Rattle.listing_laws.proofs.Seen.{seen_is_listed}
use Rattle.listing_laws.proofs.Snapshots.{left_open_none, lines_open_none, snaps-append, snaps_are_the_drivers}
use Rattle.script_runs.specs.declared.compared.Opening.TheVariants as opens
use Rattle.script_laws.specs.Holding.{Standing}
use Rattle.script_runs.specs.Listed.{AreAllListed, ListsLine, ListsOne, lines_seen, opening_of}
use Rattle.script_runs.specs.Running.{DrivesLeft, DrivesLine, StandsAs}
use Rattle.script_runs.proofs.Driving.{drives_line}

-- the members of a contraction's components are nodes
pub members_are_nodes : (nodes : List Node) (edges : List (List ℕ)) (comps : List (List ℕ)) (heavy : List ℕ) (pairs : List (ℕ × ℕ))
    → IsContraction (IsBridgeNode nodes) (NodeLeads edges) comps heavy pairs → AreOfNodes nodes comps
members_are_nodes nodes edges comps heavy pairs k =
    All-members (All (λ x. x < length nodes)) comps (λ ms c.
    All-members (λ x. x < length nodes) ms (λ x d.
    let w = at-Contains comps ms c in
    let b = (k.members x).0 (w.0, (ms, w.1, d)) in
    slice_get_within nodes x b.node b.there))

-- the managed entries that a view knows are those of its past
entries_drawn : (ks : List KeptEntry) → entries_kept (of_drawn (map of_order ks)) ≡ line_entries ks
entries_drawn [] = refl
entries_drawn (k ∷ ks) = ap (λ l. k.entry ∷ l) (entries_drawn ks)

-- what the contraction of the open part's graph lists
pub record OpenListed (v : View) (c : Listed) : Type 0 where
  pub known : IsDrawnView v
  pub cycle : OpenCycle
  pub open_cycle : (end_of known.known.past).managed.managed.cycle ≡ Some cycle
  pub lists : ListsDeadPart (end_of known.known.past).managed.managed cycle.dead c

pub open_is_listed : (v : View) (k : Cycle) (g : Part) (l : Components) → IsOpenPart v k g
    → (heavy : List ℕ) × (length heavy ≡ l.heavy) × IsContraction (IsBridgeNode g.nodes) (NodeLeads g.edges) l.comps heavy l.pairs → OpenListed v (listed_of k.0 g l)
open_is_listed v k g l o c =
    let seen = a_graphs_contraction o.seen o.cycle.dead g l.comps c.0 l.pairs o.kept o.part o.graph c.2 in
    record {
      known = o.known;
      cycle = o.cycle;
      open_cycle = sym o.same.cycle ∙ o.open_cycle;
      lists = record { heavy = map (number_at g) c.0; heavy_count = length-map c.0 (number_at g) ∙ c.1; contraction = o.same.contraction o.cycle o.open_cycle _ _ _ seen };
    }

-- whose last own entry is a snapshot has its cycle open
pub open_by_last : (v : View) (a : IsDrawnView v) (before : List Entry) (e : Entry) (k : Cycle) → line_known v driver_line ≡ before ++ e ∷ [] → e.made.op ≡ op.Snap k
    → opened_of (end_of a.known.past).control.stand ≡ Some record { cycle = k.0; snap = e.number }
open_by_last v a before e k same is =
    let past = a.known.past in
    let mine : entries (line driver_line past) ≡ line_known v driver_line = sym (entries_shown (line driver_line past))
    ∙ (ap entries_kept (sym (a.known.same driver_line)) ∙ entries_drawn (known v driver_line)) in
    last_snap_is_open past before e k a.known.lawful (mine ∙ same) is

-- the first of entries that are all snapshots
abbrev first_is_snap : List Entry → Type 0
first_is_snap [] = Unit {0}
first_is_snap (e ∷ es) = IsEventOf word.Snap e.made.op

each_first : (es : List Entry) → AreEach word.Snap es → first_is_snap es
each_first [] a = tt
each_first (e ∷ es) a = a.0

-- a snapshot of the driver's: its entry, and the cycle that it names
pub record OpensOne (old new : Progress) : Type 0 where
  pub entry : Entry
  pub more : own (pass_of new) ≡ own (pass_of old) ++ entry ∷ []
  pub event : entry.made.op ≡ op.Snap record { 0 = new.cycle.0 }

one_entry : (es : List Entry) → length es ≡ 1 → (e : Entry) × (es ≡ e ∷ [])
one_entry [] l = absurd (omega (arith, l))
one_entry (e ∷ []) l = (e, refl)
one_entry (e ∷ f ∷ es) l = absurd (omega (arith, l))

snap_names : (o : Op) → IsEventOf word.Snap o → (k : Cycle) × (o ≡ op.Snap k)
snap_names (op.Snap k) a = (k, refl)
snap_names o a = absurd a

named_after : (k : Cycle) (e : Entry) (j : Cycle) → e.made.op ≡ op.Snap j → cycle_after k (e ∷ []) ≡ j
named_after k e j is = subst (λ (o : Op). cycle_after k (record e { made = record e.made { op = o } } ∷ []) ≡ j) (sym is) refl

pub opens_one : (old new : Progress) (index : ℕ) → RunsWords old new index (word.Snap ∷ []) → OpensOne old new
opens_one old new index k =
    let p = k.1.events in
    let one = one_entry p.0 p.3.count in
    let only : k.0 ≡ one.0 ∷ [] = p.2 ∙ (ap (λ es. p.0 ++ es) p.4 ∙ (append-nil p.0 ∙ one.1)) in
    let named = snap_names one.0.made.op (subst (λ es. first_is_snap es) one.1 (each_first p.0 p.3.each)) in
    let cycle : new.cycle ≡ named.0 = k.1.enters.cycle ∙ (ap (cycle_after old.cycle) only ∙ named_after old.cycle one.0 named.0 named.1) in
    record {
      entry = one.0;
      more = k.1.enters.made.own_more ∙ ap (λ es. own (pass_of old) ++ es) only;
      event = named.1 ∙ ap (λ (j : Cycle). op.Snap j) (sym cycle);
    }

-- the phase after a snapshot
pub opened_phase : (old new : Progress) (index : ℕ) → old.phase ≡ at.Idle → RunsWords old new index (word.Snap ∷ []) → new.phase ≡ at.Snapped
opened_phase old new index idle k = leads_one old.phase new.phase word.Snap at.Snapped (ap (λ p. next_phase p word.Snap) idle) k.1.leads

-- what a view knows of each line begins what a later one knows of it
pub knew_lines : (old new : View) → BeginsView old new → (i : ℕ) → IsPrefix (lines_seen old i) (lines_seen new i)
knew_lines old new p i = prefix_map (λ (d : KeptDrawn). record { entry = d.drawn.entry; pins = d.pins }) (drawn_lines old i) (drawn_lines new i) (prefix_map of_order (known old i) (known new i) (p i))

pub knew_on : (old mid new : View) → BeginsView old mid → BeginsView mid new → BeginsView old new
knew_on old mid new a b i = prefix_trans (known old i) (known mid i) (known new i) (a i) (b i)

-- the cycle that a snapshot opened is listed
pub lists_opened : (old new : Progress) (index : ℕ) (cycles : List Listed) → RunsWords old new index (word.Snap ∷ []) → ListsOne new cycles → ListsLine old new cycles
lists_opened old new index cycles k l =
    let o = opens_one old new index k in
    let snap : snaps_of (o.entry ∷ []) ≡ o.entry ∷ [] = subst (λ (p : Op). cond (is_snap p) (o.entry ∷ []) [] ≡ o.entry ∷ []) (sym o.event) refl in
    let event : o.entry.made.op ≡ op.Snap record { 0 = l.one.cycle } = o.event ∙ ap (λ n. op.Snap record { 0 = n }) l.number in
    let seen : IsSeenAt (lines_seen new.view) o.entry l.one = record {
      event = event;
      seen = lines_seen new.view;
      begin = λ i. prefix_refl (lines_seen new.view i);
      known = l.known.known;
      driven = open_by_last new.view l.known (own (pass_of old)) o.entry (record { 0 = l.one.cycle }) o.more event;
      cycle = l.cycle;
      open_cycle = l.open_cycle;
      lists = l.lists;
    } in
    record {
      snaps = o.entry ∷ [];
      all = ap snaps_of o.more ∙ (snaps-append (own (pass_of old)) (o.entry ∷ []) ∙ ap (λ es. snaps_of (own (pass_of old)) ++ es) snap);
      listed = subst (AreSeen (lines_seen new.view) (o.entry ∷ [])) (sym l.only) (seen, tt);
      few = subst (λ (cs : List Listed). length cs ≤ 1) (sym l.only) (omega arith);
      knew = k.1.enters.made.more;
    }

-- entries behind that are no snapshots add nothing
pub lists_on : (old mid new : Progress) (es : List Entry) (cycles : List Listed) → ListsLine old mid cycles → MakesAll C mid.view new.view es → snaps_of es ≡ [] → ListsLine old new cycles
lists_on old mid new es cycles l m none = record {
  snaps = l.snaps;
  all = ap snaps_of m.own_more ∙ (snaps-append (own (pass_of mid)) es ∙ (ap (λ fs. snaps_of (own (pass_of mid)) ++ fs) none ∙ (append-nil (snaps_of (own (pass_of mid))) ∙ l.all)));
  listed = seen_stays (lines_seen mid.view) (lines_seen new.view) l.snaps cycles (knew_lines mid.view new.view m.more) l.listed;
  few = l.few;
  knew = knew_on old.view mid.view new.view l.knew m.more;
}

-- nothing was listed where nothing was made
pub lists_nothing : (d : Progress) → ListsLine d d []
lists_nothing d = record { snaps = []; all = sym (append-nil (snaps_of (own (pass_of d)))); listed = tt; few = omega arith; knew = λ i. prefix_refl (known d.view i) }

-- a line of the driver that opens no cycle
pub lists_none : (old new : Progress) (index : ℕ) (a : Act) → OpensNone a old.phase → DrivesLine old new index a → ListsLine old new []
lists_none old new index a none k =
    lists_on old old new k.entries [] (lists_nothing old) k.made
    (lines_open_none (record { phase = old.phase; candidates = old.candidates; line = index }) index a k.entries none
    (k.line (record { phase = old.phase; candidates = old.candidates; line = index }) (record { phase = refl; candidates = refl })))

-- the phases that are left
pub lists_left : (old mid new : Progress) (index : ℕ) (cycles : List Listed) → ListsLine old mid cycles → RunsWords mid new index (phases_left mid.phase) → ListsLine old new cycles
lists_left old mid new index cycles l k = lists_on old mid new k.0 cycles l k.1.enters.made (left_open_none mid.candidates mid.phase k.0 k.1.events)

-- a line of another thread
pub lists_told : (old new : Progress) → own (pass_of new) ≡ own (pass_of old) → BeginsView old.view new.view → ListsLine old new []
lists_told old new stay more = record {
  snaps = [];
  all = ap snaps_of stay ∙ sym (append-nil (snaps_of (own (pass_of old))));
  listed = tt;
  few = omega arith;
  knew = more;
}

-- a line more, behind those that are listed
pub lists_more : (old new : Progress) (cs ds : List Listed) → AreAllListed old cs → ListsLine old new ds → AreAllListed new (cs ++ ds)
lists_more old new cs ds a l =
    subst (λ es. AreSeen (lines_seen new.view) es (cs ++ ds)) (sym l.all)
    (seen_behind (lines_seen new.view) (snaps_of (own (pass_of old))) l.snaps cs ds
    (seen_stays (lines_seen old.view) (lines_seen new.view) (snaps_of (own (pass_of old))) cs (knew_lines old.view new.view l.knew) a) l.listed)

-- which line opens a cycle
pub opens_nothing : (a : Act) (p : Phase) → opening_of a p ≡ opens.Other → OpensNone a p
opens_nothing (act.PhaseLine word.Snap) at.Idle e = absurd (cc)
opens_nothing (act.PhaseLine word.Cycle) at.Idle e = absurd (cc)
opens_nothing a p e = tt

pub opens_by_snap : (a : Act) (p : Phase) → opening_of a p ≡ opens.Snap → (a ≡ act.PhaseLine word.Snap) × (p ≡ at.Idle)
opens_by_snap (act.PhaseLine word.Snap) at.Idle e = (refl, refl)
opens_by_snap (act.PhaseLine word.Cycle) at.Idle e = absurd (cc)
opens_by_snap a p e = absurd (cc)

pub opens_by_cycle : (a : Act) (p : Phase) → opening_of a p ≡ opens.Cycle → (a ≡ act.PhaseLine word.Cycle) × (p ≡ at.Idle)
opens_by_cycle (act.PhaseLine word.Snap) at.Idle e = absurd (cc)
opens_by_cycle (act.PhaseLine word.Cycle) at.Idle e = (refl, refl)
opens_by_cycle a p e = absurd (cc)

-- phases of a word that is due are the line of that word
pub drives_word : (old new : Progress) (index : ℕ) (w : PhaseWord) (next : Phase) → next_phase old.phase w ≡ Some next → RunsWords old new index (phases_of w)
    → DrivesLine old new index (act.PhaseLine w)
drives_word old new index w next due k =
    drives_line old new index (act.PhaseLine w) (last_reply k.0) tt (record { entries = k.0; runs = subst (λ (o : Option Phase). RunsWord old new index w o k.0) (sym due) k.1; last = refl })

-- the cycles that the driver's snapshots opened are those of the finished history
pub listed_in_history : (h : Finished) (d f : Progress) (p : Pass) (ps : List Pass) (last : ℕ) (cycles : List Listed) → IsLinked h → AreAllListed d cycles → (s : Standing) → StandsAs s d
    → s.line ≡ last → DrivesLeft d f last → p ≡ pass_of f → HasOwn h.entries p
    → (a : IsKnownHistory ps h) → BeginsPast a.past p → IsListedIn h cycles
listed_in_history h d f p ps last cycles linked all s stands at_line k is owns a begins =
    let left = k.left s stands at_line in
    let none = left_open_none s.candidates s.phase k.entries left.events in
    let mine : made_by C h.entries ≡ own (pass_of f) = subst (λ (q : Pass). HasOwn h.entries q) is owns in
    let more : snaps_of (own (pass_of f)) ≡ snaps_of (own (pass_of d)) = ap snaps_of k.made.own_more
    ∙ (snaps-append (own (pass_of d)) k.entries ∙ (ap (λ es. snaps_of (own (pass_of d)) ++ es) none ∙ append-nil (snaps_of (own (pass_of d))))) in
    let same : snaps_of (own (pass_of d)) ≡ snaps_of h.entries = sym more ∙ (ap snaps_of (sym mine) ∙ snaps_are_the_drivers h linked) in
    let whole : ℕ → List Kept = λ i. all_shown (line i a.past) in
    let knew : (i : ℕ) → IsPrefix (lines_seen d.view i) (whole i) = λ i.
    prefix_trans (lines_seen d.view i) (lines_seen f.view i) (whole i) (knew_lines d.view f.view k.made.more i) (subst (BeginsPast a.past) is begins i) in
    seen_is_listed h a.past cycles a.lawful a.linked (subst (λ es. AreSeen whole es cycles) same (seen_stays (lines_seen d.view) whole (snaps_of (own (pass_of d))) cycles knew all))
