-- A held handle leaves the table by a release, or by a restore, alone: each other entry keeps the rows of the
-- handles that were there, and each handle that is issued comes into the table.
use Rattle.std.proofs.Common.{◌≡◌, ◌⊎◌, inl, inr, ⊎_elim, ℕ, zero, suc, ◌+◌, ◌-◌, ◌<◌, ◌≤◌, Bool, true, false, ◌||◌, List, [], ◌∷◌, ◌++◌, length, map, drop, Option, Some, None, refl, sym, ap, ◌∙◌}
use Rattle.std.proofs.Common.{subst, arith, length-append}
use Rattle.known_laws.proofs.Coming.{peer_of as peer_lawful}
use Rattle.joint_machine.specs.Linked.{PeerLawful, Linkage, SideLawful, peer_after}
use Rattle.joint_machine.specs.PinsTold.{bare_told}
use Rattle.std.specs.Prelude.{if◌then◌else◌, min, nat_lt, slice_get}
use Rattle.std.proofs.lemmas.Bool.{cases_eq, cases_lt}
use Rattle.std.proofs.lemmas.Option.{same_Some}
use Rattle.joint_machine.specs.declared.names.Thread.{Thread}
use Rattle.joint_machine.specs.declared.names.Thread.TheVariants.{C}
use Rattle.joint_machine.specs.declared.lines.Act.{Act}
use Rattle.joint_machine.specs.declared.lines.Act.TheVariants as act
use Rattle.joint_machine.specs.declared.events.Op.{Op}
use Rattle.joint_machine.specs.declared.events.Op.TheVariants as op
use Rattle.joint_machine.specs.declared.events.Reply.{Reply}
use Rattle.joint_machine.specs.declared.events.Reply.TheVariants as says
use Rattle.joint_machine.specs.declared.events.Made.{Made}
use Rattle.joint_machine.specs.Heaps.{Answered, answer, slot, numbered_set, is_full}
use Rattle.joint_machine.specs.Lines.{is_peer_event}
use Rattle.joint_machine.specs.Peers.{Peers, Issued, strong, weak, peer_of, peer_line, pair_made, landed, gripped as grip_static, handles_full, held}
use Rattle.joint_machine.specs.PeerReplay.{PeerReplay, TableRow, Marking, fresh_row, row_of, table_target, on_table, bring_by, brings, untabled, peer_thread_line, is_thread, sliced, begun, swept_of}
use Rattle.joint_machine.specs.PeerReplay.{swept, restored_by, peer_answer, withdrawn, given_anew, with_restored, mirrored}
use Rattle.joint_machine.specs.Run.{thread_number}
use Rattle.joint_machine.specs.Told.{Told, Noted, references_of, slice_of, sweep_of}
use Rattle.joint_machine.proofs.Numbered.{numbered-within, numbered-made, numbered_set-length, numbered-push_new}
use Rattle.joint_laws.specs.LinkedInvariants.{IsHeldOne}
use Rattle.joint_laws.specs.PeerInvariants.{IsTabled, IsIssued, PeerInvariant}
use Rattle.joint_laws.proofs.DriverHandles.{written-strength}
use Rattle.joint_laws.proofs.DriverPeerSteps.{Only, HandlesAlike-only, HandlesAlike-swept}
use Rattle.joint_laws.proofs.HandlesAlike.{HandlesAlike, nothing_touched, HandlesAlike-then}
use Rattle.joint_laws.proofs.PeerQuietEvents.{quiet-line, quiet-pair, quiet-grip, quiet-land}
use Rattle.known_laws.specs.Pasts.{Lawful, end_of}
use Rattle.known_laws.specs.PastEntries.{InPast}
use Rattle.known_laws.specs.Facts.{TakesHandle, HandlesLeaveSo}
use Rattle.known_laws.proofs.Later.{kept_end}
use Rattle.joint_machine.specs.Components.{End}
use Rattle.joint_laws.proofs.Restores.{restored-any}
use Rattle.joint_laws.proofs.PeerQuiet.{HandlesAlike-issued}

abbrev HasRow : PeerReplay → ℕ → Type 0
HasRow s g = (row : TableRow) × IsTabled s.table g row

-- a handle that is held afterwards was held, and keeps its row or is taken; or it is new, and in the table
abbrev Follows : PeerReplay → PeerReplay → Made → ℕ → Type 0
Follows s t m g = IsHeldOne t g → (IsHeldOne s g × (HasRow s g → HasRow t g ⊎ TakesHandle m g)) ⊎ HasRow t g

-- the table and the issued handles stay
still : (s t : PeerReplay) (m : Made) (g : ℕ) → t.peers.issued ≡ s.peers.issued → t.table ≡ s.table → Follows s t m g
still s t m g e f w = inl ((w.0, subst (λ z. IsIssued z g w.0) e w.1, w.2), λ r. inl (r.0, subst (λ z. IsTabled z g r.0) (sym f) r.1))

-- the rows of other handles stay
alike : (touched : ℕ → Type 0) (s t : PeerReplay) (m : Made) (g : ℕ) → HandlesAlike touched s t → (touched g → HasRow s g → HasRow t g ⊎ TakesHandle m g) → touched g ⊎ (touched g → ⊥)
    → (length s.peers.issued < g → g ≤ length t.peers.issued → HasRow t g) → Follows s t m g
alike touched s t m g a f c new w = ⊎_elim
    (λ (l : length s.peers.issued < g). inr (new l (numbered-within t.peers.issued g w.0 w.1).1))
    (λ (l : g ≤ length s.peers.issued).
    let j = numbered-made s.peers.issued g (numbered-within t.peers.issued g w.0 w.1).0 l in
    let same : j.0 ≡ w.0 = same_Some j.0 w.0 (sym (a.issued_on g j.0 j.1) ∙ w.1) in
    let was : IsHeldOne s g = (j.0, j.1, ap (λ (z : Issued). z.hold) same ∙ w.2) in
    inl (was, λ r. ⊎_elim (λ d. f d r) (λ n. let z = a.on g r.0.strength was n (r.0, r.1, refl) in inl (z.0, z.1)) c))
    (cases_lt (length s.peers.issued) g)

-- no handle is issued
none_new : (s t : PeerReplay) (g : ℕ) → t.peers.issued ≡ s.peers.issued → length s.peers.issued < g → g ≤ length t.peers.issued → HasRow t g
none_new s t g e l m = let n = ap length e in absurd (omega (arith, l, m, n))

-- each handle that is issued comes into the table
map_row : (is : List Issued) (k : ℕ) → k < length is → (row : TableRow) × (slice_get (map fresh_row is) k ≡ Some (Some row))
map_row [] k l = absurd (omega (arith, l))
map_row (i ∷ is) zero l = (record { strength = i.strength; cleared = false }, refl)
map_row (i ∷ is) (suc k) l = map_row is k (omega (arith, l))

tail_row : (table : List (Option TableRow)) (is : List Issued) (k : ℕ) → length table ≤ k → k < length is
    → (row : TableRow) × (slice_get (table ++ map fresh_row (drop (length table) is)) k ≡ Some (Some row))
tail_row [] is k l m = map_row is k m
tail_row (x ∷ table) [] k l m = absurd (omega (arith, m))
tail_row (x ∷ table) (i ∷ is) zero l m = absurd (omega (arith, l))
tail_row (x ∷ table) (i ∷ is) (suc k) l m = tail_row table is k (omega (arith, l)) (omega (arith, m))

new_row : (table : List (Option TableRow)) (old : List Issued) (now : List Issued) (g : ℕ) → length table ≡ length old
    → length old < g → g ≤ length now → (row : TableRow) × IsTabled (table ++ map fresh_row (drop (length old) now)) g row
new_row table old now zero e l m = absurd (omega (arith, l))
new_row table old now (suc k) e l m = let w = tail_row table now k (omega (arith, e, l)) (omega (arith, m)) in (w.0, ap (λ n. slice_get (table ++ map fresh_row (drop n now)) k) (sym e) ∙ w.1)

untabled-length : (s : PeerReplay) (o : Option ℕ) → length (untabled s o).table ≡ length s.table
untabled-length s None = refl
untabled-length s (Some h) = numbered_set-length s.table h None

untabled-peers : (s : PeerReplay) (o : Option ℕ) → (untabled s o).peers ≡ s.peers
untabled-peers s None = refl
untabled-peers s (Some h) = refl

-- a peer brought back changes no row
brought-row : (a : Answered PeerReplay) (r : Reply) (g : ℕ) → HasRow a.state g → HasRow (bring_by a r).state g
brought-row a (says.P p) g w = w
brought-row a _ g w = w

brought-issued : (a : Answered PeerReplay) (r : Reply) → (bring_by a r).state.peers.issued ≡ a.state.peers.issued
brought-issued a (says.P p) = refl
brought-issued a _ = refl

module _ (s : PeerReplay) (k : PeerInvariant s) (m : Made) (g : ℕ) where
  new_on : (x : PeerReplay) (a : Answered Peers) → x.peers ≡ s.peers → length x.table ≡ length s.table → length s.peers.issued < g → g ≤ length a.state.issued → HasRow (on_table x a).state g
  new_on x a e f l n = new_row x.table x.peers.issued a.state.issued g (f ∙ (k.handles.places ∙ ap (λ (z : Peers). length z.issued) (sym e)))
      (let q = ap (λ (z : Peers). length z.issued) e in omega (arith, q, l)) n

  new_brought : (a : Answered Peers) → length s.peers.issued < g → g ≤ length (brings (on_table s a)).state.peers.issued → HasRow (brings (on_table s a)).state g
  new_brought a l n = brought-row (on_table s a) a.reply g (new_on s a refl refl l (let q = ap length (brought-issued (on_table s a) a.reply) in omega (arith, q, n)))

  line_new : (u : ℕ) (a : Act) → length s.peers.issued < g → g ≤ length (peer_thread_line s u a).state.peers.issued → HasRow (peer_thread_line s u a).state g
  line_new u (act.UnGlobal x) l n = new_on (untabled s (slot s.peers.names x.0)) (peer_line (table_target s) s.peers u (act.UnGlobal x))
      (untabled-peers s (slot s.peers.names x.0)) (untabled-length s (slot s.peers.names x.0)) l n
  line_new u (act.WRead v x) l n = new_brought (peer_line (table_target s) s.peers u (act.WRead v x)) l n
  line_new u a l n = new_on s (peer_line (table_target s) s.peers u a) refl refl l n

  quietly : (t : PeerReplay) → HandlesAlike nothing_touched s t → (length s.peers.issued < g → g ≤ length t.peers.issued → HasRow t g) → Follows s t m g
  quietly t a new = alike nothing_touched s t m g a (λ d. absurd d) (inr (λ d. d)) new

  still_marking : (mk : Option Marking) (n : ℕ) → Follows s (record s { marking = mk; markings = n }) m g
  still_marking mk n = still s (record s { marking = mk; markings = n }) m g refl refl

  slice_follows : (x : Option Marking) (t : Thread) (n : ℕ) (closure : List ℕ) → Follows s (sliced s x t n closure).state m g
  slice_follows None t n closure = still s s m g refl refl
  slice_follows (Some mk) t n closure = by (is_thread t mk.by)
    where
      by : (b : Bool) → Follows s (if b
          then (let black = mk.blackened + min n (length closure - mk.blackened) in
          answer (if nat_lt black (length closure) then says.More else says.Done) (record s { marking = Some (record mk { blackened = black }) }))
          else answer (says.MarkOpen record { 0 = mk.number }) s).state m g
      by true = still_marking (Some (record mk { blackened = mk.blackened + min n (length closure - mk.blackened) })) s.markings
      by false = still s s m g refl refl

  begin_follows : (x : Option Marking) (t : Thread) → Follows s (begun s x t).state m g
  begin_follows None t = still_marking (begun s None t).state.marking (s.markings + 1)
  begin_follows (Some mk) t = still s s m g refl refl

  sweep_follows : (x : Option Marking) (t : Thread) (freed : List ℕ) → Follows s (swept s x t freed).state m g
  sweep_follows None t freed = still s s m g refl refl
  sweep_follows (Some mk) t freed = by (is_thread t C || is_thread t mk.by)
    where
      by : (b : Bool) → Follows s (if b then swept_of s mk freed else answer (says.MarkOpen record { 0 = mk.number }) s).state m g
      by true = let t : PeerReplay = (swept_of s mk freed).state in quietly t (HandlesAlike-swept s t freed k.handles.places refl refl refl) (none_new s t g refl)
      by false = still s s m g refl refl

  -- one handle's row is written, or emptied
  only_follows : (t : PeerReplay) (h : ℕ) (x : Option TableRow) → t.table ≡ numbered_set s.table h x → t.peers ≡ s.peers → (g ≡ h → HasRow s g → HasRow t g ⊎ TakesHandle m g) → Follows s t m g
  only_follows t h x e f c = alike (Only h) s t m g (HandlesAlike-only s t h x e (ap (λ z. z.issued) f) (ap (λ z. z.heap.freed) f)) c (cases_eq g h) (none_new s t g (ap (λ z. z.issued) f))

  written : (t : PeerReplay) (h : ℕ) (new : TableRow) → t.table ≡ numbered_set s.table h (Some new) → g ≡ h → HasRow s g → HasRow t g ⊎ TakesHandle m g
  written t h new e same r = let w = written-strength s t h r.0 new (subst (λ z. IsTabled s.table z r.0) same r.1) e in inl (w.0, subst (λ z. IsTabled t.table z w.0) (sym same) w.1)

  mirror_follows : (c : ℕ) (cites : Option ℕ) (refs : List (End × End)) → Follows s (mirrored s c cites refs) m g
  mirror_follows c None refs = still s s m g refl refl
  mirror_follows c (Some snap) refs = still s (mirrored s c (Some snap) refs) m g refl refl

  restore_follows : (h : ℕ) (x : Option TableRow) → m.op ≡ op.Restore record { 0 = h } → Follows s (restored_by s h x).state m g
  restore_follows h x e = restored-any (λ a. Follows s a.state m g) s h x (still s s m g refl refl) (only_follows (withdrawn s h) h None refl refl gone)
      (λ p. alike (Only h) s (given_anew (withdrawn s h) p) m g
      (HandlesAlike-then (Only h) s (withdrawn s h) (given_anew (withdrawn s h) p) (HandlesAlike-only s (withdrawn s h) h None refl refl refl)
      (HandlesAlike-issued (withdrawn s h) (given_anew (withdrawn s h) p) (new p) (numbered_set-length s.table h None ∙ k.handles.places) refl refl refl (λ z. refl)))
      (λ same w. inr (inr (e ∙ (λ i. op.Restore record { 0 = sym same i }))))
      (cases_eq g h)
      (λ l n. let at : g ≡ length (withdrawn s h).table + 1 = omega (arith, l, n, length-append s.peers.issued (new p ∷ []), numbered_set-length s.table h None, k.handles.places) in (
        record { strength = strong; cleared = false },
        subst (λ z. IsTabled ((withdrawn s h).table ++ fresh_row (new p) ∷ []) z (record { strength = strong; cleared = false }))
            (sym at) (numbered-push_new (withdrawn s h).table (fresh_row (new p))),
      )))
    where
      new : ℕ → Issued
      new p = record { peer = p; hold = held; strength = strong }

      gone : g ≡ h → HasRow s g → HasRow (withdrawn s h) g ⊎ TakesHandle m g
      gone same w = inr (inr (e ∙ (λ i. op.Restore record { 0 = sym same i })))

  answer_follows : (t : Thread) (o : Op) (told : Told) → m.op ≡ o → m.reply ≡ (peer_answer s t o m.cites told).reply → Follows s (peer_answer s t o m.cites told).state m g
  answer_follows t (op.Line (act.Slice n)) (slice_of closure) e r = slice_follows s.marking t n closure
  answer_follows t (op.Line (act.Slice n)) _ e r = slice_follows s.marking t n []
  answer_follows t (op.Line a) told e r = quietly _ (quiet-line s (thread_number t) a k).handles (line_new (thread_number t) a)
  answer_follows t (op.Make sort n) told e r = quietly _ (quiet-pair (λ h. ⊥) s sort n (is_full s.peers.heap.fields || handles_full s.peers) k.handles.places).handles
      (new_on s (pair_made s.peers sort n) refl refl)
  answer_follows t (op.Land h x) told e r = quietly _ (quiet-land (Only h.0) s x.0 h.0 (table_target s h.0) refl refl).handles (new_brought (landed s.peers x.0 (table_target s h.0)))
  answer_follows t (op.Grip x) told e r = quietly _ (quiet-grip (λ h. ⊥) s x.0 (slot s.peers.heap.statics x.0) k.handles.places refl).handles (new_on s (grip_static s.peers x.0) refl refl)
  answer_follows t (op.Release h) told e r = only_follows (peer_answer s t (op.Release h) m.cites told).state h.0 None refl refl (λ same w. inr (inl (e ∙ (λ i. op.Release record { 0 = sym same i }))))
  answer_follows t (op.Mirror c) (references_of refs) e r = mirror_follows c.0 m.cites refs
  answer_follows t (op.Mirror c) _ e r = still s s m g refl refl
  answer_follows t (op.Weaken h) told e r = only_follows (peer_answer s t (op.Weaken h) m.cites told).state h.0 (Some (record { strength = weak; cleared = false })) refl refl
      (written (peer_answer s t (op.Weaken h) m.cites told).state h.0 (record { strength = weak; cleared = false }) refl)
  answer_follows t op.Begin told e r = begin_follows s.marking t
  answer_follows t op.Sweep (sweep_of freed) e r = sweep_follows s.marking t freed
  answer_follows t op.Sweep _ e r = sweep_follows s.marking t []
  answer_follows t (op.Restore h) told e r = restore_follows h.0 (row_of s h.0) e
  answer_follows t (op.Clear c) told e r = still s (peer_answer s t (op.Clear c) m.cites told).state m g refl refl
  answer_follows t _ told e r = still s s m g refl refl

after_follows : (full : Linkage) (m : Made) (told : Told) (b : Bool) (g : ℕ) → PeerInvariant full.peer
    → (b ≡ true → PeerLawful full.peer m told) → Follows full.peer (peer_after full.peer m told b) m g
after_follows full m told true g k l = answer_follows full.peer k m g m.caller m.op told refl (l refl).replies
after_follows full m told false g k l = still full.peer full.peer m g refl refl

-- in the table, or taken from it
left : (h : List Noted) → Lawful h → (g : ℕ) → IsHeldOne (end_of h).peer g → HasRow (end_of h).peer g ⊎ ((x : Noted) × InPast h x × TakesHandle x.entry.made g)
left [] l g w = let z = numbered-within [] g w.0 w.1 in absurd (omega (arith, z.0, z.1))
left (x ∷ h) l g w = ⊎_elim
    (λ z. ⊎_elim
    (λ r. ⊎_elim (λ q. inl q) (λ q. inr (x, inl refl, q)) (z.1 r))
    (λ q. inr (q.0, inr q.1, q.2))
    (left h l.1 g z.0))
    (λ r. inl r)
    (after_follows (end_of h) x.entry.made (bare_told x.told) (is_peer_event x.entry.made.caller x.entry.made.op) g (kept_end h l.1).peer (peer_lawful x h l) w)

pub handles_leave_so : HandlesLeaveSo
handles_leave_so h l g w n = ⊎_elim (λ r. absurd (n r.0 r.1)) (λ q. q) (left h l g w)
