-- What is told of freeing beside an entry stands last in the freed list after it, behind what was freed before; the
-- list only grows, so at the end it still stands there, where the reply's span says. Every other entry's reply has no
-- such span, and nothing freed is told beside it.
use Rattle.std.proofs.Common.{◌≡◌, ℕ, suc, ◌+◌, ◌-◌, Bool, true, false, ◌||◌, List, [], ◌++◌, length, take, drop, Option, Some, None, refl, sym, ap, subst, ◌∙◌, arith, append_assoc, length-append}
use Rattle.std.specs.Prelude.{if◌then◌else◌, slice_get}
use Rattle.std.proofs.lemmas.List.{take_all}
use Rattle.std.proofs.lemmas.Option.{slice_get_within}
use Rattle.std.proofs.Math.Seq.{drop-append_seam, take-append_seam}
use Rattle.joint_machine.specs.declared.names.Thread.{Thread}
use Rattle.joint_machine.specs.declared.names.Thread.TheVariants.{M, P, C}
use Rattle.joint_machine.specs.declared.lines.Act.{Act}
use Rattle.joint_machine.specs.declared.lines.Act.TheVariants as act
use Rattle.joint_machine.specs.declared.events.Op.{Op}
use Rattle.joint_machine.specs.declared.events.Op.TheVariants as op
use Rattle.joint_machine.specs.declared.events.Reply.{Reply}
use Rattle.joint_machine.specs.declared.events.Reply.TheVariants as says
use Rattle.joint_machine.specs.Components.{Rises}
use Rattle.joint_machine.specs.Heaps.{answer, slot, place}
use Rattle.joint_machine.specs.Lines.{IsEvent, is_peer_event}
use Rattle.joint_machine.specs.Linked.{Linkage, SideLawful, PeerLawful, opening_linkage, linkage_after, managed_after, peer_after}
use Rattle.joint_machine.specs.Replaying.{AllMayCome, replayed}
use Rattle.joint_machine.specs.Managed.{adopted, met, given_up, managed_line}
use Rattle.joint_machine.specs.ManagedReplay.{registered}
use Rattle.joint_machine.specs.Peers.{landed, peer_line}
use Rattle.joint_machine.specs.PeerReplay.{Marking, row_of, table_target, on_table, peer_thread_line, is_thread, swept, swept_of, SliceAllows, SweepAllows}
use Rattle.joint_machine.specs.Run.{thread_number}
use Rattle.joint_machine.specs.Told.{Told, nothing, snap_of, contraction_of, references_of, slice_of, sweep_of, resolution_of, phase_of, Noted}
use Rattle.joint_machine.proofs.HeapLemmas.{adopt_by-reply}
use Rattle.joint_laws.specs.States.{state_at}
use Rattle.joint_laws.specs.Spans.{IsStretch, TellsNamed, TellsNoneFreed}
use Rattle.joint_laws.proofs.FreedLists.{Grows, managed-grown, peers-grown}
use Rattle.joint_laws.proofs.JointSteps.{may-end, bring-reply}
use Rattle.joint_laws.proofs.LinkedEntries.{entry}
use Rattle.joint_laws.proofs.ManagedSteps.{meet_by-reply, give_by-reply}
use Rattle.joint_laws.proofs.PeerEntries.{refused-by}
use Rattle.joint_laws.proofs.Places.{comes-at, after-at}
use Rattle.joint_laws.proofs.PlainReplies.{IsPlain, SaysPlain, line-plain, handle-plain, met-plain, adopted-plain, refusal-plain, pair-plain, grip-plain, land-plain, peer_line-plain, sliced-plain}
use Rattle.joint_laws.proofs.PlainReplies.{begun-plain, restored-plain}

-- what was put behind a list stands in each longer list where its span says
pub stretch-put : (xs ys list : List ℕ) → Grows (xs ++ ys) list → IsStretch list (record { first = length xs; count = length ys }) ys
stretch-put xs ys list g = record {
  within = (let e = ap length is in let f = length-append xs (ys ++ g.0) in let h = length-append ys g.0 in omega (arith, e, f, h));
  named = sym (ap (λ z. take (length ys) (drop (length xs) z)) is ∙ (ap (λ z. take (length ys) z) (drop-append_seam xs (ys ++ g.0)) ∙ take-append_seam ys g.0));
}
  where
    is : list ≡ xs ++ (ys ++ g.0)
    is = g.1 ∙ append_assoc xs ys g.0

-- the events whose reply may have a span
abbrev pub HasSpan : Op → Type 0
HasSpan (op.Line (act.Finalise n)) = Unit {0}
HasSpan (op.Snap k) = Unit {0}
HasSpan op.Sweep = Unit {0}
HasSpan (op.Resolve k) = Unit {0}
HasSpan _ = ⊥

-- the reply has no span, and nothing freed is told
pub record IsPlainEntry (reply : Reply) (told : Told) : Type 0 where
  pub plain : IsPlain reply
  pub none : TellsNoneFreed told

-- so it is of each other event
module _ (s : Linkage) (line : ℕ) (reply : Reply) (cites : Option ℕ) where
  by_plain : (r : Reply) (told : Told) → reply ≡ r → IsPlain r → TellsNoneFreed told → IsPlainEntry reply told
  by_plain r told q e f = record { plain = subst IsPlain (sym q) e; none = f }

  own_line : (t : ℕ) (a : Act) → (HasSpan (op.Line a) → ⊥) → reply ≡ (managed_line s.managed.managed t a).reply → IsPlainEntry reply nothing
  own_line t (act.Finalise n) out r = absurd (out tt)
  own_line t a out r = by_plain (managed_line s.managed.managed t a).reply nothing r (line-plain s.managed.managed t a tt) tt

  -- a peer thread's line
  thread_line-plain : (t : ℕ) (a : Act) → SaysPlain (peer_thread_line s.peer t a)
  thread_line-plain t (act.UnGlobal g) = peer_line-plain s.peer.peers (table_target s.peer) t (act.UnGlobal g)
  thread_line-plain t (act.WRead v g) =
      let a = on_table s.peer (peer_line (table_target s.peer) s.peer.peers t (act.WRead v g)) in
      subst IsPlain (sym (bring-reply a a.reply)) (peer_line-plain s.peer.peers (table_target s.peer) t (act.WRead v g))
  thread_line-plain t a = peer_line-plain s.peer.peers (table_target s.peer) t a

  slice-told : (x : Option Marking) (t : Thread) (told : Told) → SliceAllows x t told → TellsNoneFreed told
  slice-told None t nothing w = tt
  slice-told (Some mk) t (slice_of closure) w = tt
  slice-told (Some mk) t nothing w = tt
  slice-told _ t _ w = absurd w

  thread_line : (t : ℕ) (a : Act) (told : Told) → PeerLawful s.peer (entry (P t) line (op.Line a) reply cites) told → IsPlainEntry reply told
  thread_line t (act.Slice n) (slice_of closure) w = by_plain _ (slice_of closure) w.replies (sliced-plain s.peer s.peer.marking (P t) n closure) tt
  thread_line t (act.Slice n) told w = by_plain _ told w.replies (sliced-plain s.peer s.peer.marking (P t) n []) (slice-told s.peer.marking (P t) told w.allowed)
  thread_line t a nothing w = by_plain _ nothing w.replies (thread_line-plain t a) tt
  thread_line t a told w = absurd w.allowed

  pub plain-entry : (t : Thread) (o : Op) (told : Told) → (HasSpan o → ⊥) → SideLawful (is_peer_event t o) s (entry t line o reply cites) told → IsPlainEntry reply told
  plain-entry (M u) (op.Line a) nothing out w = own_line u a out w.replies
  plain-entry (M u) (op.Line a) told out w = absurd w.allowed
  plain-entry C (op.Line a) nothing out w = own_line 0 a out w.replies
  plain-entry C (op.Line a) told out w = absurd w.allowed
  plain-entry (P u) (op.Line a) told out w = thread_line u a told w
  plain-entry t (op.Make sort n) nothing out w = by_plain _ nothing w.replies (pair-plain s.peer.peers sort n) tt
  plain-entry t (op.Make sort n) told out w = absurd w.allowed
  plain-entry t (op.Adopt v kind n p h) nothing out w =
      let a = adopted s.managed.managed (place (thread_number t) v.0) kind n h.0 in
      by_plain a.reply nothing (w.replies ∙ adopt_by-reply s.managed p.0 h.0 a.state a.reply) (adopted-plain s.managed.managed (place (thread_number t) v.0) kind n h.0) tt
  plain-entry t (op.Adopt v kind n p h) told out w = absurd w.allowed
  plain-entry t (op.Lend v x) nothing out w = by_plain _ nothing w.replies (handle-plain s.managed.managed (place (thread_number t) v.0)) tt
  plain-entry t (op.Lend v x) told out w = absurd w.allowed
  plain-entry t (op.Land h x) nothing out w =
      let a = on_table s.peer (landed s.peer.peers x.0 (table_target s.peer h.0)) in
      by_plain a.reply nothing (w.replies ∙ bring-reply a a.reply) (land-plain s.peer.peers x.0 (table_target s.peer h.0)) tt
  plain-entry t (op.Land h x) told out w = absurd w.allowed
  plain-entry t (op.Grip x) nothing out w = by_plain _ nothing w.replies (grip-plain s.peer.peers x.0) tt
  plain-entry t (op.Grip x) told out w = absurd w.allowed
  plain-entry t (op.Meet v sort n p h) nothing out w =
      let a = met s.managed.managed (place (thread_number t) v.0) h.0 sort n (registered s.managed.registry p.0) in
      by_plain a.reply nothing (w.replies ∙ meet_by-reply s.managed p.0 h.0 a.state a.reply)
      (met-plain s.managed.managed (place (thread_number t) v.0) h.0 sort n (registered s.managed.registry p.0)) tt
  plain-entry t (op.Meet v sort n p h) told out w = absurd w.allowed
  plain-entry t (op.Give v) nothing out w =
      let u = place (thread_number t) v.0 in
      by_plain _ nothing (w.replies ∙ give_by-reply s.managed (slot s.managed.managed.heap.vars u) (given_up s.managed.managed u)) (handle-plain s.managed.managed u) tt
  plain-entry t (op.Give v) told out w = absurd w.allowed
  plain-entry t (op.Release h) nothing out w = by_plain _ nothing w.replies tt tt
  plain-entry t (op.Release h) told out w = absurd w.allowed
  plain-entry t (op.Snap k) told out w = absurd (out tt)
  plain-entry t (op.Contract k) (contraction_of comps heavy xrefs) out w = by_plain _ (contraction_of comps heavy xrefs) w.replies tt tt
  plain-entry t (op.Contract k) told out w = absurd w.allowed
  plain-entry t (op.Mirror k) (references_of refs) out w = by_plain _ (references_of refs) w.replies tt tt
  plain-entry t (op.Mirror k) told out w = absurd w.allowed
  plain-entry t (op.Weaken h) nothing out w = by_plain _ nothing w.replies tt tt
  plain-entry t (op.Weaken h) told out w = absurd w.allowed
  plain-entry t op.Begin nothing out w = by_plain _ nothing w.replies (begun-plain s.peer s.peer.marking t) tt
  plain-entry t op.Begin told out w = absurd w.allowed
  plain-entry t op.Sweep told out w = absurd (out tt)
  plain-entry t (op.Restore h) nothing out w = by_plain _ nothing w.replies (restored-plain s.peer h.0 (row_of s.peer h.0)) tt
  plain-entry t (op.Restore h) told out w = absurd w.allowed
  plain-entry t (op.Clear k) nothing out w = by_plain _ nothing w.replies tt tt
  plain-entry t (op.Clear k) told out w = absurd w.allowed
  plain-entry t (op.Resolve k) told out w = absurd (out tt)
  plain-entry t (op.Abandon k) nothing out w = by_plain _ nothing w.replies tt tt
  plain-entry t (op.Abandon k) told out w = absurd w.allowed
  plain-entry t (op.Refused x) (phase_of phase) out w = by_plain _ (phase_of phase) w.replies (refusal-plain s.managed.managed phase x) tt
  plain-entry t (op.Refused x) told out w = absurd w.allowed

module _ (ms ps : List ℕ) (s : Linkage) (line : ℕ) (reply : Reply) (cites : Option ℕ) where
  plainly : (r : Reply) (told : Told) → IsPlainEntry r told → TellsNamed ms ps r told
  plainly (says.Snapped n x) told e = absurd e.plain
  plainly (says.Swept j x) told e = absurd e.plain
  plainly (says.Freed x) told e = absurd e.plain
  plainly _ told e = e.none

  -- a sweep
  none_to_end : (t : Thread) (freed : List ℕ) → SweepAllows s.peer None t (sweep_of freed) → ⊥
  none_to_end (P u) freed a = a
  none_to_end (M u) freed a = a
  none_to_end C freed a = a

  swept-by : (mk : Marking) (t : Thread) (freed : List ℕ) (b : Bool) → Rises freed → b ≡ true
      → reply ≡ (if b then swept_of s.peer mk freed else answer (says.MarkOpen record { 0 = mk.number }) s.peer).reply
      → Grows (if b then swept_of s.peer mk freed else answer (says.MarkOpen record { 0 = mk.number }) s.peer).state.peers.heap.freed ps → TellsNamed ms ps reply (sweep_of freed)
  swept-by mk t freed true up e r g = subst (λ z. TellsNamed ms ps z (sweep_of freed)) (sym r)
      (record { freed = freed; is = refl; rises = up; stands = stretch-put s.peer.peers.heap.freed freed ps g })
  swept-by mk t freed false up e r g = absurd (let f : ⊥ = cc in f)

  sweep-named : (x : Option Marking) (t : Thread) (freed : List ℕ) → SweepAllows s.peer x t (sweep_of freed)
      → reply ≡ (swept s.peer x t freed).reply → Grows (swept s.peer x t freed).state.peers.heap.freed ps → TellsNamed ms ps reply (sweep_of freed)
  sweep-named None t freed a r g = absurd (none_to_end t freed a)
  sweep-named (Some mk) t freed a r g = swept-by mk t freed (is_thread t C || is_thread t mk.by) a.1.rise (may-end t mk.by a.0) r g

  refused : (mk : Marking) (n : ℕ) (b : Bool) → (b ≡ true → ⊥) → IsPlain (if b then swept_of s.peer mk [] else answer (says.MarkOpen record { 0 = mk.number }) s.peer).reply
  refused mk n true f = absurd (f refl)
  refused mk n false f = tt

  unswept-plain : (x : Option Marking) (t : Thread) → SweepAllows s.peer x t nothing → SaysPlain (swept s.peer x t [])
  unswept-plain None (P n) a = tt
  unswept-plain None (M n) a = absurd a
  unswept-plain None C a = absurd a
  unswept-plain (Some mk) (P n) a = refused mk n (is_thread (P n) C || is_thread (P n) mk.by) (λ e. refused-by n mk.by a e)
  unswept-plain (Some mk) (M n) a = absurd a
  unswept-plain (Some mk) C a = absurd a

  abbrev IsOther : Told → Type 0
  IsOther nothing = ⊥
  IsOther (sweep_of freed) = ⊥
  IsOther _ = Unit {0}

  none_other : (x : Option Marking) (t : Thread) (told : Told) → IsOther told → SweepAllows s.peer x t told → ⊥
  none_other x t nothing o a = o
  none_other x t (sweep_of freed) o a = o
  none_other None (P n) told o a = a
  none_other None (M n) told o a = a
  none_other None C told o a = a
  none_other (Some mk) (P n) told o a = a
  none_other (Some mk) (M n) told o a = a
  none_other (Some mk) C told o a = a

  -- the taking of notices frees nothing
  took-named : (t : Thread) (n : ℕ) (told : Told) → IsEvent t (op.Line (act.Finalise n))
      → SideLawful (is_peer_event t (op.Line (act.Finalise n))) s (entry t line (op.Line (act.Finalise n)) reply cites) told → TellsNamed ms ps reply told
  took-named C n nothing e w = subst (λ z. TellsNamed ms ps z nothing) (sym w.replies) tt
  took-named C n told e w = absurd w.allowed
  took-named (M u) n told e w = absurd e.0.1
  took-named (P u) n told e w = absurd e.0.1

  named : (t : Thread) (o : Op) (told : Told) → IsEvent t o → SideLawful (is_peer_event t o) s (entry t line o reply cites) told
      → Grows (managed_after s.managed (entry t line o reply cites) told (is_peer_event t o)).managed.heap.freed ms
      → Grows (peer_after s.peer (entry t line o reply cites) told (is_peer_event t o)).peers.heap.freed ps → TellsNamed ms ps reply told
  named t (op.Line (act.Finalise n)) told e w f g = took-named t n told e w
  named t (op.Snap k) (snap_of freed candidates dead) e w f g =
      subst (λ z. TellsNamed ms ps z (snap_of freed candidates dead)) (sym w.replies)
      (record { freed = freed; candidates = candidates; dead = dead; is = refl; counted = refl; rises = w.allowed.freed_rise; stands = stretch-put s.managed.managed.heap.freed freed ms f })
  named t (op.Snap k) told e w f g = absurd w.allowed
  named t op.Sweep (sweep_of freed) e w f g = sweep-named s.peer.marking t freed w.allowed w.replies g
  named t op.Sweep nothing e w f g = plainly reply nothing (record { plain = subst IsPlain (sym w.replies) (unswept-plain s.peer.marking t w.allowed); none = tt })
  named t op.Sweep told e w f g = absurd (none_other s.peer.marking t told tt w.allowed)
  named t (op.Resolve k) (resolution_of alive freed) e w f g =
      subst (λ z. TellsNamed ms ps z (resolution_of alive freed)) (sym w.replies)
      (record { alive = alive; freed = freed; is = refl; rises = w.allowed.resolution.rise; stands = stretch-put s.managed.managed.heap.freed freed ms f })
  named t (op.Resolve k) told e w f g = absurd w.allowed
  named t o told e w f g = plainly reply told (plain-entry s line reply cites t o told (λ z. z) w)

-- in a place of a lawful list
pub told-named : (noted : List Noted) → AllMayCome opening_linkage noted → (i : ℕ) (n : Noted) → slice_get noted i ≡ Some n
    → TellsNamed (replayed opening_linkage noted).managed.managed.heap.freed (replayed opening_linkage noted).peer.peers.heap.freed n.entry.made.reply n.told
told-named noted may i n there =
    let s = state_at noted i in
    let comes = comes-at noted i n may there in
    let l = slice_get_within noted i n there in
    let more = length noted - suc i in
    let same : suc i + more ≡ length noted = omega (arith, l) in
    let end : state_at noted (suc i + more) ≡ replayed opening_linkage noted = ap (λ k. state_at noted k) same ∙ ap (λ ns. replayed opening_linkage ns) (take_all (length noted) noted (omega arith)) in
    let next = after-at noted i n there in
    named (replayed opening_linkage noted).managed.managed.heap.freed (replayed opening_linkage noted).peer.peers.heap.freed s
    n.entry.made.index n.entry.made.reply n.entry.made.cites n.entry.made.caller n.entry.made.op n.told comes.event comes.lawful
    (subst (λ (z : Linkage). Grows (linkage_after s n).managed.managed.heap.freed z.managed.managed.heap.freed) end
    (subst (λ (z : Linkage). Grows z.managed.managed.heap.freed (state_at noted (suc i + more)).managed.managed.heap.freed) next (managed-grown noted may (suc i) more)))
    (subst (λ (z : Linkage). Grows (linkage_after s n).peer.peers.heap.freed z.peer.peers.heap.freed) end
    (subst (λ (z : Linkage). Grows z.peer.peers.heap.freed (state_at noted (suc i + more)).peer.peers.heap.freed) next (peers-grown noted may (suc i) more)))
