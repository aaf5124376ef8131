-- At the end of a run all seats are taken into one, which knows all lists whole and that each thread has come to rest.
-- So the lists are joined to a linked history, which ends in both sides' states, but for the pins.
use Rattle.std.proofs.Common.{◌≡◌, ◌⊎◌, inl, inr, ⊎_elim, ℕ, ◌-◌, ◌<◌, ◌≤◌, List, [], ◌∷◌, ◌++◌, length, take, Option, Some, None, refl, sym, ap, ◌∙◌, subst, arith}
use Rattle.std.specs.Prelude.{Contains}
use Rattle.std.proofs.lemmas.List.Elements.{Contains-push_cases}
use Rattle.joint_history.specs.Ending.{all_lists, with_reads, HasGatheredSeats, GathersAll, IsFinishedBy, HasIdleDriver, Rests}
use Rattle.std.proofs.lemmas.List.{append-nil, append_assoc}
use Rattle.joint_machine.proofs.Members.{Contains-nil}
use Rattle.joint_history.specs.Callers.{CallerKnows, KeepsReads, HoldsPass}
use Rattle.joint_history.specs.Locked.{ManagedKnows, PeerKnows}
use Rattle.std.proofs.lemmas.Bool.{cases_eq, cases_lt}
use Rattle.std.proofs.lemmas.Option.{slice_get_past}
use Rattle.joint_machine.specs.declared.names.MNum.{MNum}
use Rattle.joint_machine.specs.declared.names.PNum.{PNum}
use Rattle.joint_machine.specs.declared.names.Thread.{Thread}
use Rattle.joint_machine.specs.declared.names.Thread.TheVariants.{M, P, C}
use Rattle.joint_machine.specs.declared.events.Entry.{Entry}
use Rattle.joint_machine.specs.declared.events.Op.{Op}
use Rattle.joint_machine.specs.declared.events.Op.TheVariants as op
use Rattle.joint_machine.specs.declared.events.Reply.{Reply}
use Rattle.joint_machine.specs.Control.{Control, Doing, free, doing_at, doing_after, control_after, IsDone, IsAtRest}
use Rattle.joint_machine.specs.Managed.{candidates_of}
use Rattle.joint_machine.specs.Histories.{Finished, managed_numbers, peer_numbers}
use Rattle.joint_machine.specs.Shuffles.{IsJoinable, IsShuffle}
use Rattle.joint_machine.specs.HistoryLines.{caller_line}
use Rattle.joint_machine.specs.Lines.{IsThread, IsEvent, IsManagedThread}
use Rattle.joint_machine.specs.Linked.{IsWhole, Linkage}
use Rattle.joint_machine.specs.LinkedHistories.{linked_end}
use Rattle.joint_model.specs.Listed.{Stock}
use Rattle.joint_machine.specs.ManagedReplay.{ManagedReplay}
use Rattle.joint_machine.specs.PeerReplay.{PeerReplay}
use Rattle.joint_machine.specs.Sides.{Side}
use Rattle.joint_machine.specs.Told.{Told, Noted}
use Rattle.joint_machine.specs.PinsTold.{bare_told, with_pins}
use Rattle.joint_machine.proofs.Joining.{slice_get-set_other}
use Rattle.known_laws.specs.Pasts.{Lawful, end_of, line}
use Rattle.known_laws.specs.Wholes.{history_of, HasEnded, IsLinkedPast}
use Rattle.known_laws.proofs.Coming.{event_of}
use Rattle.known_laws.proofs.Growing.{lines_give_parts}
use Rattle.order_table.specs.declared.views.View.{View}
use Rattle.order_table.specs.Facts.{entries_of, line_entries}
use Rattle.order_table.specs.Rule.{AreLinesOfOneHistory as AllKnown}
use Rattle.order_table.specs.Tells.{TakesIn, BeginsOneHistory}
use Rattle.order_table.specs.Views.{Owns, OwnsAll}
use Rattle.view_laws.specs.Knowing.{IsDrawnView}
use Rattle.order_table.specs.Gated.{IsGated}
use Rattle.pin_laws.proofs.Pinning.{linked_pins_hold}
use Rattle.view_laws.proofs.Finished.{whole_view_is_gated}
use Rattle.view_laws.proofs.Joined.{whole_lists_are_joined}
use Rattle.joint_history.proofs.GatheredReads.{all_lists_known, gather_reads}
use Rattle.joint_history.proofs.KnownCallers.{own_line}
use Rattle.joint_history.proofs.KnownViews.{views_join}
use Rattle.joint_history.proofs.Standing.{widths}

-- a thread's seat, with its reads, when the thread has come to rest
pub record AtRest (t : Thread) (v : View) (reads : List Entry) : Type 0 where
  pub known : IsDrawnView v
  pub pass : HoldsPass t v
  pub keeps : KeepsReads t v reads
  pub rests : Rests t (end_of known.known.past)

-- a history is finished by some notes, after which both sides' states are these, but for the pins
pub record IsFinishedWith (h : Finished) (l : ManagedReplay) (r : PeerReplay) : Type 0 where
  pub noted : List Noted
  pub finished : IsFinishedBy h noted
  pub pins : List (Option ℕ)
  pub managed : (linked_end noted).managed ≡ with_pins l pins
  pub peer : (linked_end noted).peer ≡ r

rests_so : (t : Thread) (a b : List Noted) → line (caller_line t) a ≡ line (caller_line t) b → Rests t (end_of b) → Rests t (end_of a)
rests_so (M n) a b e d = subst IsDone (sym ((lines_give_parts a b).doing n e)) d
rests_so (P n) a b e d = tt
rests_so C a b e d = (lines_give_parts a b).stand e ∙ d

-- one thread's seat and reads more
pub gather : (t : Thread) (es : List Entry) (v w u : View) (l : Side ManagedReplay) (r : Side PeerReplay) (lists : List (List Entry)) (ts : List Thread)
    → IsThread t → HasGatheredSeats v l r lists ts → AtRest t w es → TakesIn v w u → BeginsOneHistory u
    → HasGatheredSeats u l r (with_reads t es lists) (ts ++ t ∷ [])
gather t es v w u l r lists ts is g x k o =
    let j = views_join v w u g.known x.known k o in
    record {
      known = j.joined;
      managed_role = (k.owns 0).0 (inl g.managed_role);
      peer_role = (k.owns 1).0 (inl g.peer_role);
      managed_entries = ap line_entries (k.owned 0 g.managed_role) ∙ g.managed_entries;
      managed = j.managed_first (k.owned 0 g.managed_role) ∙ g.managed;
      peer_entries = ap line_entries (k.owned 1 g.peer_role) ∙ g.peer_entries;
      peer = j.peer_first (k.owned 1 g.peer_role) ∙ g.peer;
      reads = gather_reads t es v w u lists ts is x.pass x.keeps g.passes k g.reads;
      passes = λ s c. ⊎_elim (λ h i q. (k.owns i).0 (inl (g.passes s h i q))) (λ e i q. (k.owns i).0 (inr (subst (λ z. HoldsPass z w) e x.pass i q))) (Contains-push_cases ts t s c);
      rests = λ s c. ⊎_elim
          (λ h. rests_so s j.joined.known.past g.known.known.past (j.first (caller_line s) (k.owned (caller_line s) (g.passes s h (caller_line s) (own_line s)))) (g.rests s h))
          (λ e. subst (λ z. Rests z (end_of j.joined.known.past)) e (rests_so t j.joined.known.past x.known.known.past
          (j.second (caller_line t) (k.taken (caller_line t) (x.pass (caller_line t) (own_line t)))) x.rests))
          (Contains-push_cases ts t s c);
    }

-- nobody is thread 0
low : IsManagedThread (M 0) → ⊥
low w = let a = w.0 in omega arith

none_is_zero : (o : Op) → IsEvent (M 0) o → ⊥
none_is_zero (op.Line a) e = low e.0.0
none_is_zero (op.Make s n) e = low e.0
none_is_zero (op.Adopt v k n p h) e = low e.0
none_is_zero (op.Lend v x) e = low e.0
none_is_zero (op.Land h x) e = low e.0
none_is_zero (op.Grip x) e = low e.0
none_is_zero (op.Meet v s n p h) e = low e.0
none_is_zero (op.Give v) e = low e.0
none_is_zero (op.Release h) e = low e
none_is_zero op.Begin e = ⊎_elim (λ x. x) (λ x. x) e
none_is_zero op.Sweep e = ⊎_elim (λ x. x) (λ x. x) e
none_is_zero o e = e

zero_after : (c : Control) (u : Thread) (n line : ℕ) (o : Op) (reply : Reply) (told : Told) → IsEvent u o → doing_at c 0 ≡ free → doing_at (control_after c u n line o reply told) 0 ≡ free
zero_after c (M u) n line o reply told e f = ⊎_elim
    (λ (z : u ≡ 0). absurd (none_is_zero o (subst (λ k. IsEvent (M k) o) z e)))
    (λ (ne : u ≡ 0 → ⊥). ap (λ w. elim w as (λ x. Doing) [ None ↦ free | Some d ↦ d ]) (slice_get-set_other c.doing u 0 (doing_after n line o reply) (λ q. ne (sym q))) ∙ f)
    (cases_eq u 0)
zero_after c (P u) n line o reply told e f = f
zero_after c C n line o reply told e f = f

zero_free : (h : List Noted) → Lawful h → doing_at (end_of h).control 0 ≡ free
zero_free [] w = refl
zero_free (x ∷ h) w = zero_after (end_of h).control x.entry.made.caller x.entry.number x.entry.made.index x.entry.made.op x.entry.made.reply (bare_told x.told) (event_of x h w) (zero_free h w.1)

late_free : (h : List Noted) (t : ℕ) → 9 ≤ t → doing_at (end_of h).control t ≡ free
late_free h t l = ap (λ w. elim w as (λ x. Doing) [ None ↦ free | Some d ↦ d ]) (slice_get_past (end_of h).control.doing t (let w = (widths h).doings in omega arith))

-- once all threads' seats are in, nothing has to follow
all_rest : (v : View) (l : Side ManagedReplay) (r : Side PeerReplay) (lists : List (List Entry)) (ts : List Thread) (g : HasGatheredSeats v l r lists ts)
    → ((t : Thread) → IsThread t → Contains ts t) → IsWhole (end_of g.known.known.past)
all_rest v l r lists ts g all = record {
  threads = λ t. ⊎_elim
      (λ (z : t ≡ 0). subst (λ k. IsDone (doing_at (end_of g.known.known.past).control k)) (sym z) (subst IsDone (sym (zero_free g.known.known.past g.known.known.lawful)) tt))
      (λ (ne : t ≡ 0 → ⊥). ⊎_elim
      (λ (s : t < 9). g.rests (M t) (all (M t) (omega (arith, ne), omega arith)))
      (λ b. subst IsDone (sym (late_free g.known.known.past t (omega (arith, b)))) tt)
      (cases_lt t 9))
      (cases_eq t 0);
  driver = subst (λ s. IsAtRest s (length (candidates_of (end_of g.known.known.past).managed.managed))) (sym (g.rests C (all C tt))) tt;
}

-- a history that is linked by a past which ends in both sides' states is finished with these, but for the pins
finished_with : (h : Finished) (past : List Noted) (l : ManagedReplay) (r : PeerReplay) → IsLinkedPast h past → IsGated (history_of past) → (end_of past).managed ≡ l
    → (end_of past).peer ≡ r → managed_numbers h.notices ≡ (end_of past).managed.managed.notices → IsFinishedWith h l r
finished_with h past l r is gated managed peer queued = record {
  noted = history_of past;
  finished = record {
    linked = is.linked;
    queued = queued ∙ ap (λ (x : Linkage). x.managed.managed.notices) (sym is.ends);
    gated = gated;
    pinned = linked_pins_hold h (history_of past) is.linked;
  };
  pins = is.pins;
  managed = ap (λ (x : Linkage). x.managed) is.ends ∙ ap (λ m. with_pins m is.pins) managed;
  peer = ap (λ (x : Linkage). x.peer) is.ends ∙ peer;
}

-- and the history of all lists is linked
pub record Ends (past : List Noted) (l : Side ManagedReplay) (r : Side PeerReplay) (freed_managed : List MNum)
    (freed_peers : List PNum) (notices : List MNum) (w : List (List Entry)) (whole : List Entry) : Type 0 where
  pub joinable : IsJoinable w freed_managed freed_peers notices
  pub finished : (h : Finished) → IsShuffle w h.entries → h.freed_managed ≡ freed_managed → h.freed_peers ≡ freed_peers → h.notices ≡ notices → IsFinishedWith h l.state r.state × (h.entries ≡ whole)
  pub linked : (h : Finished) → IsShuffle w h.entries → h.freed_managed ≡ freed_managed → h.freed_peers ≡ freed_peers → h.notices ≡ notices → IsLinkedPast h past

pub all_gathered : (v : View) (l : Side ManagedReplay) (r : Side PeerReplay) (lists : List (List Entry)) (ts : List Thread) (g : HasGatheredSeats v l r lists ts)
    → ((t : Thread) → IsThread t → Contains ts t) → (w : AllKnown v.known) → (freed_managed : List MNum) (freed_peers : List PNum) (notices : List MNum)
    → managed_numbers freed_managed ≡ l.state.managed.heap.freed → peer_numbers freed_peers ≡ r.state.peers.heap.freed → managed_numbers notices ≡ l.state.managed.notices
    → Ends g.known.known.past l r freed_managed freed_peers notices (all_lists l.entries r.entries lists) (entries_of w.whole)
all_gathered v l r lists ts g all w freed_managed freed_peers notices fm fp ns =
    let s = end_of g.known.known.past in
    let queued : managed_numbers notices ≡ s.managed.managed.notices = ns ∙ ap (λ (m : ManagedReplay). m.managed.notices) (sym g.managed) in
    let ended : HasEnded (record { entries = entries_of w.whole; freed_managed = freed_managed; freed_peers = freed_peers; notices = notices }) s = record {
      whole = all_rest v l r lists ts g all;
      freed_managed = fm ∙ ap (λ (m : ManagedReplay). m.managed.heap.freed) (sym g.managed);
      freed_peers = fp ∙ ap (λ (p : PeerReplay). p.peers.heap.freed) (sym g.peer);
      notices = ap (λ ms. take s.managed.managed.taken ms) queued;
    } in
    let j = whole_lists_are_joined v g.known w (all_lists l.entries r.entries lists) freed_managed freed_peers notices
    (all_lists_known v l.entries r.entries lists ts all g.managed_entries g.peer_entries g.reads) ended in
    record {
      joinable = j.joinable;
      finished = λ h sh a b c. let is = j.linked h sh a b c in
          (finished_with h g.known.known.past l.state r.state is.0 (whole_view_is_gated v g.known w) g.managed g.peer (ap managed_numbers c ∙ queued), is.1);
      linked = λ h sh a b c. (j.linked h sh a b c).0;
    }

-- who has gathered all threads' seats owns every line
pub owns_all : (v : View) (l : Side ManagedReplay) (r : Side PeerReplay) (lists : List (List Entry)) (ts : List Thread)
    → HasGatheredSeats v l r lists ts → ((t : Thread) → IsThread t → Contains ts t) → OwnsAll v
owns_all v l r lists ts g all i few = ⊎_elim
    (λ (z : i ≡ 0). subst (Owns v) (sym z) g.managed_role)
    (λ (n0 : i ≡ 0 → ⊥). ⊎_elim
    (λ (z : i ≡ 1). subst (Owns v) (sym z) g.peer_role)
    (λ (n1 : i ≡ 1 → ⊥). ⊎_elim
    (λ (s : i < 10). g.passes (M (i - 1)) (all (M (i - 1)) (omega (arith, n0, n1), omega arith)) i (inr (omega (arith, n0))))
    (λ (b : 10 ≤ i). ⊎_elim
    (λ (z : i ≡ 10). g.passes C (all C tt) i (z ∙ omega arith))
    (λ (n10 : i ≡ 10 → ⊥). ⊎_elim
    (λ (s : i < 19). g.passes (M (i - 10)) (all (M (i - 10)) (omega (arith, n10, b), omega arith)) i (inl (omega (arith, b))))
    (λ (c : 19 ≤ i). g.passes (P (i - 18)) (all (P (i - 18)) (omega (arith, c), omega (arith, few))) i (omega (arith, c)))
    (cases_lt' i 19))
    (cases_eq i 10))
    (cases_lt' i 10))
    (cases_eq i 1))
    (cases_eq i 0)
  where
    cases_lt' : (a b : ℕ) → (a < b) ⊎ (b ≤ a)
    cases_lt' a b = ⊎_elim (λ s. inl s) (λ g'. inr (omega (arith, g'))) (cases_lt a b)

-- a caller that has nothing to release, and is idle if it is the driver's, has come to rest
pub caller_at_rest : (t : Thread) (v : View) (reads : Stock) → CallerKnows t v → HoldsPass t v
    → KeepsReads t v reads.entries → HasIdleDriver (record { thread = t; view = v; reads = reads }) → AtRest t v reads.entries
caller_at_rest (M n) v reads k h m i = record { known = k.known; pass = h; keeps = m; rests = k.released }
caller_at_rest (P n) v reads k h m i = record { known = k.known; pass = h; keeps = m; rests = tt }
caller_at_rest C v reads k h m i = let w = i tt in record { known = w.0; pass = h; keeps = m; rests = w.1 }

pub gathers_one : (t : Thread) (es : List Entry) (v w u : View) (lists : List (List Entry)) → IsThread t
    → AtRest t w es → TakesIn v w u → BeginsOneHistory u → GathersAll v u lists (with_reads t es lists) (t ∷ [])
gathers_one t es v w u lists is x k o l r ts g = gather t es v w u l r lists ts is g x k o

pub gathers_none : (v : View) (lists : List (List Entry)) → GathersAll v v lists lists []
gathers_none v lists l r ts g = subst (HasGatheredSeats v l r lists) (sym (append-nil ts)) g

pub gathers_then : (v w u : View) (old mid new : List (List Entry)) (xs ys : List Thread) → GathersAll v w old mid xs → GathersAll w u mid new ys → GathersAll v u old new (xs ++ ys)
gathers_then v w u old mid new xs ys a b l r ts g = subst (HasGatheredSeats u l r new) (append_assoc ts xs ys) (b l r (ts ++ xs) (a l r ts g))

-- both sides' seats together
pub gathered_first : (v w u : View) (l : Side ManagedReplay) (r : Side PeerReplay) (lists : List (List Entry)) → ManagedKnows v l
    → PeerKnows w r → Owns v 0 → Owns w 1 → TakesIn v w u → BeginsOneHistory u → length lists ≡ 10 → HasGatheredSeats u l r lists []
gathered_first v w u l r lists a b m p k o ten =
    let j = views_join v w u a.known b.known k o in
    record {
      known = j.joined;
      managed_role = (k.owns 0).0 (inl m);
      peer_role = (k.owns 1).0 (inr p);
      managed_entries = ap line_entries (k.owned 0 m) ∙ a.entries;
      managed = j.managed_first (k.owned 0 m) ∙ a.state;
      peer_entries = ap line_entries (k.taken 1 p) ∙ b.entries;
      peer = j.peer_second (k.taken 1 p) ∙ b.state;
      reads = record { ten = ten; reads = λ n c. absurd (Contains-nil (M n) c) };
      passes = λ t c. absurd (Contains-nil t c);
      rests = λ t c. absurd (Contains-nil t c);
    }
