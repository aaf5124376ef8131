-- The entries of a history that are steps of the joint machine are its steps, from the joint state before to the joint
-- state after; the others leave the joint state as it is.
use Rattle.std.proofs.Common.{◌≡◌, ℕ, ◌+◌, ◌≤◌, ◌⊎◌, inl, inr, Bool, true, false, ◌||◌, List, [], length, Option, Some, None, get_or, refl, sym, ap, subst, ◌∙◌}
use Rattle.std.specs.Prelude.{Contains, All, if◌then◌else◌}
use Rattle.std.proofs.lemmas.List.Elements.{Contains-get_or}
use Rattle.joint_machine.specs.declared.names.Thread.{Thread}
use Rattle.joint_machine.specs.declared.names.Thread.TheVariants.{M, P, C}
use Rattle.joint_machine.specs.declared.events.Op.{Op}
use Rattle.joint_machine.specs.declared.events.Op.TheVariants as op
use Rattle.joint_machine.specs.declared.events.Reply.{Reply}
use Rattle.joint_machine.specs.declared.events.Reply.TheVariants as says
use Rattle.joint_machine.specs.Control.{Doing, Stand}
use Rattle.joint_machine.specs.Heaps.{IsLive, Answered, answer}
use Rattle.joint_machine.specs.Joint.{Joint, JointMarking, peer, IsReached, IsReachedIn}
use Rattle.joint_machine.specs.Lines.{IsEvent, IsPeerThread}
use Rattle.joint_machine.specs.Managed.{Managed}
use Rattle.joint_machine.specs.ManagedReplay.{ManagedReplay}
use Rattle.joint_machine.specs.Peers.{Peers, issued_since}
use Rattle.joint_machine.specs.PeerReplay.{PeerReplay, Marking, strong_peers, on_table, brings, bring_by, untabled, begun, swept, swept_of, is_thread, IsSweep, SweepAllows}
use Rattle.joint_machine.specs.Run.{JointEvent, JointBegin, JointSweep, IsStored}
use Rattle.joint_machine.specs.Told.{Told, nothing, sweep_of, Answer}
use Rattle.joint_laws.specs.JointAgreement.{AreFlags, IsSameMarking, AreSameMarkings, Agrees, issued_flags, gone_flags, Flags, joint_as}
use Rattle.joint_laws.specs.PeerInvariants.{IsSpared}
use Rattle.joint_laws.proofs.PeerEntries.{swept_told, begun-kept}
use Rattle.joint_laws.proofs.PeerQuietEvents.{quiet-begun}
use Rattle.joint_laws.proofs.Sparing.{spared-stays}
use Rattle.joint_laws.proofs.JointFlags.{AreFlags-gone, AreFlags-issued, removed-swept, AreSameMarkings-brought}
use Rattle.joint_machine.specs.Joined.{removed_in}
use Rattle.joint_laws.proofs.SparedWalks.{reached-spared}
use Rattle.joint_laws.proofs.LinkedQuiet.{BothInvariants, kept-quiet}
use Rattle.joint_machine.proofs.HeapLemmas.{same_thread, thread_itself}

-- the step of an event, with the flags and the marking after it
pub record Steps (m : Managed) (s : PeerReplay) (flags : Flags) (answers : List (Option Answer)) (jm : Option JointMarking)
    (t : Thread) (o : Op) (reply : Reply) (told : Told) (n : Managed) (u : PeerReplay) : Type 0 where
  pub flags_after : Flags
  pub told_after : flags_after.answers ≡ answers
  pub marking_after : Option JointMarking
  pub event : JointEvent (joint_as m s flags jm) t o reply told (joint_as n u flags_after marking_after)
  pub agrees : Agrees u flags_after marking_after

-- the same with what was told alike
pub retold : (m : Managed) (s : PeerReplay) (flags : Flags) (a b : List (Option Answer)) (jm : Option JointMarking) (t : Thread) (o : Op) (reply : Reply) (told : Told) (n : Managed) (u : PeerReplay)
    → a ≡ b → Steps m s flags a jm t o reply told n u → Steps m s flags b jm t o reply told n u
retold m s flags a b jm t o reply told n u e w = record { flags_after = w.flags_after; told_after = w.told_after ∙ e; marking_after = w.marking_after; event = w.event; agrees = w.agrees }

-- brought back, a state has the same peers, table and count of markings
pub bring-peers : (a : Answered PeerReplay) (r : Reply) → (bring_by a r).state.peers ≡ a.state.peers
bring-peers a (says.P p) = refl
bring-peers a _ = refl

bring-table : (a : Answered PeerReplay) (r : Reply) → (bring_by a r).state.table ≡ a.state.table
bring-table a (says.P p) = refl
bring-table a _ = refl

bring-markings : (a : Answered PeerReplay) (r : Reply) → (bring_by a r).state.markings ≡ a.state.markings
bring-markings a (says.P p) = refl
bring-markings a _ = refl

pub bring-reply : (a : Answered PeerReplay) (r : Reply) → (bring_by a r).reply ≡ a.reply
bring-reply a (says.P p) = refl
bring-reply a _ = refl

bring-same : (a : Answered PeerReplay) (r : Reply) (jm : Option JointMarking) → AreSameMarkings a.state.marking jm → AreSameMarkings (bring_by a r).state.marking jm
bring-same a (says.P p) jm w = AreSameMarkings-brought a.state.marking jm p.0 w
bring-same a says.Ok jm w = w
bring-same a says.Gone jm w = w
bring-same a _ jm w = w

-- a thread that may end a marking is found to be one
or-right : (a : Bool) → (a || true) ≡ true
or-right true = refl
or-right false = refl

pub may-end : (t u : Thread) → (t ≡ C) ⊎ (t ≡ u) → (is_thread t C || is_thread t u) ≡ true
may-end t u w = elim w [
  | inl e ↦ subst (λ z. (is_thread z C || is_thread z u) ≡ true) (sym e) refl
  | inr e ↦ subst (λ z. (is_thread t C || is_thread t z) ≡ true) e (subst (λ z. (is_thread t C || z) ≡ true) (sym (thread_itself t)) (or-right (is_thread t C)))
]

module _ (r : ManagedReplay) (s : PeerReplay) (ds : List Doing) (d : Stand) (k : BothInvariants r s ds d) (flags : Flags) (jm : Option JointMarking) (ag : Agrees s flags jm) where
  abbrev j : Joint
  j = joint_as r.managed s flags jm

  -- an event of the peers: the handles that it issues aren't removed
  abbrev more : Peers → Flags
  more g = issued_flags flags (issued_since s.peers g)

  pub agrees-peers : (g : Peers) → length s.peers.issued ≤ length g.issued → Agrees (on_table s (answer says.Ok g)).state (more g) jm
  agrees-peers g l = record { removed = AreFlags-issued s g flags ag.removed; markings = ag.markings }

  -- the same with a peer brought back
  pub agrees-brought : (g : Peers) (reply : Reply) → length s.peers.issued ≤ length g.issued → Agrees (brings (on_table s (answer reply g))).state (more g) jm
  agrees-brought g reply l =
      let a : Answered PeerReplay = on_table s (answer reply g) in
      record {
        removed = (agrees-peers g l).removed ∙ ap removed_in (sym (bring-table a reply));
        markings = bring-same a reply jm ag.markings;
      }

  pub joint-brought : (g : Peers) (reply : Reply) → joint_as r.managed (brings (on_table s (answer reply g))).state
      (more g) jm ≡ record j { graph = record j.graph { peers = g; removed = (more g).removed } }
  joint-brought g reply =
      let a : Answered PeerReplay = on_table s (answer reply g) in
      λ i. record { graph = record { managed = r.managed; peers = bring-peers a reply i; removed = (more g).removed }; answers = flags.answers; marking = jm; markings = bring-markings a reply i }

  -- a handle leaves the table
  pub flags-gone : (h : ℕ) → AreFlags (untabled s (Some h)) (gone_flags flags h)
  flags-gone h = AreFlags-gone s h flags ag.removed

  -- a marking begins: what is reached then is spared
  begin-spared : (t : Thread) → s.marking ≡ None → (p : ℕ) → IsReachedIn j.graph (peer p)
      → IsSpared (record { number = s.markings + 1; by = t; heap = s.peers.heap; refs = s.refs; strong_peers = strong_peers s.peers.issued s.table; brought = []; blackened = 0 }) p
  begin-spared t e p w =
      let u : PeerReplay = (begun s None t).state in
      let now = kept-quiet (λ h. ⊥) r s u ds d k (quiet-begun (λ h. ⊥) s None t e) (begun-kept s None t k.peer e) (λ v h q g x y z. y) in
      reached-spared r u ds d now (record { number = s.markings + 1; by = t; heap = s.peers.heap; refs = s.refs; strong_peers = strong_peers s.peers.issued s.table; brought = []; blackened = 0 })
      refl flags jm ag.removed p w

  begin-by : (x : Option Marking) (y : Option JointMarking) (t : Thread) (reply : Reply) → s.marking ≡ x → jm ≡ y → AreSameMarkings x y → reply ≡ (begun s x t).reply
      → (after : Option JointMarking) × JointBegin j y t reply (joint_as r.managed (begun s x t).state flags after) × Agrees (begun s x t).state flags after
  begin-by None None t reply e f w q = (
    Some record { number = s.markings + 1; by = t; begun = j.graph },
    record { replies = q; state = refl },
    record {
      removed = ag.removed;
      markings = record { number = refl; by = refl; heap = refl; reached = begin-spared t e };
    },
  )
  begin-by (Some mk) (Some y) t reply e f w q = (
    Some y,
    (q ∙ ap (λ n. says.MarkOpen record { 0 = n }) (sym w.number), ap (λ z. joint_as r.managed s flags z) (sym f)),
    record { removed = ag.removed; markings = subst (λ z. AreSameMarkings z (Some y)) (sym e) w },
  )
  begin-by None (Some y) t reply e f w q = absurd w
  begin-by (Some mk) None t reply e f w q = absurd w

  pub step-begin : (t : Thread) (reply : Reply) (told : Told) → reply ≡ (begun s s.marking t).reply
      → Steps r.managed s flags flags.answers jm t op.Begin reply told r.managed (begun s s.marking t).state
  step-begin t reply told q = let w = begin-by s.marking jm t reply refl refl ag.markings q in record { flags_after = flags; told_after = refl; marking_after = w.0; event = w.1; agrees = w.2 }

  -- a sweep ends a marking that the thread may end, or leaves all as it is
  may-not : (n : ℕ) (u : Thread) (b : Bool) → is_thread (P n) u ≡ b → (P n ≡ u → ⊥) → b ≡ false
  may-not n u true e w = absurd (w (same_thread (P n) u e))
  may-not n u false e w = refl

  all-of : (Q : ℕ → Type 0) (xs : List ℕ) → ((x : ℕ) → Contains xs x → Q x) → All Q xs
  all-of Q xs f i x l = f (get_or xs i x) (Contains-get_or xs i x l)

  abbrev swept_by : Marking → List ℕ → Bool → Answered PeerReplay
  swept_by mk freed b = if b then swept_of s mk freed else answer (says.MarkOpen record { 0 = mk.number }) s

  ends : (mk : Marking) (y : JointMarking) (t : Thread) (reply : Reply) (freed : List ℕ) (b : Bool) → s.marking ≡ Some mk
      → IsSameMarking mk y → ((t ≡ C) ⊎ (t ≡ mk.by)) × IsSweep s mk freed → b ≡ true → reply ≡ (swept_by mk freed b).reply
      → (after : Option JointMarking) × JointSweep j (Some y) t reply (sweep_of freed) (joint_as r.managed (swept_by mk freed b).state flags after) × Agrees (swept_by mk freed b).state flags after
  ends mk y t reply freed false e w a q f = absurd (let g : ⊥ = cc in g)
  ends mk y t reply freed true e w a q f = (
    None,
    inl (record {
      allowed = elim a.0 [ inl c ↦ inl c | inr c ↦ inr (c ∙ sym w.by) ];
      rise = a.1.rise;
      stored = all-of (IsStored y) freed (λ p c. record {
        existed = subst (λ z. IsLive z p) (sym w.heap) ((a.1.exact p).0 c).1;
        unreached = λ v. spared-stays s mk freed p a.1 (w.reached p v) c;
      });
      unreached = all-of (λ p. IsReached j (peer p) → ⊥) freed (λ p c v. spared-stays s mk freed p a.1 (reached-spared r s ds d k mk e flags jm ag.removed p v) c);
      replies = f ∙ ap (λ n. says.Swept record { 0 = n } record { first = length s.peers.heap.freed; count = length freed }) (sym w.number);
      state = refl;
    }),
    record {
      removed = ag.removed ∙ sym (removed-swept freed s.peers.issued s.table);
      markings = tt;
    },
  )

  refuses : (mk : Marking) (y : JointMarking) (n : ℕ) (reply : Reply) (b : Bool) → IsSameMarking mk y → IsPeerThread (P n) → (P n ≡ mk.by → ⊥) → b ≡ false → reply ≡ (swept_by mk [] b).reply
      → (after : Option JointMarking) × JointSweep j (Some y) (P n) reply nothing (joint_as r.managed (swept_by mk [] b).state flags after) × Agrees (swept_by mk [] b).state flags after
  refuses mk y n reply true w t a q f = absurd (let g : ⊥ = cc in g)
  refuses mk y n reply false w t a q f = (jm, record { thread = t; other = λ c. a (c ∙ w.by); replies = f ∙ ap (λ z. says.MarkOpen record { 0 = z }) (sym w.number); state = refl }, ag)

  sweep-by : (x : Option Marking) (y : Option JointMarking) (t : Thread) (told : Told) (reply : Reply) → s.marking ≡ x
      → jm ≡ y → AreSameMarkings x y → IsEvent t op.Sweep → SweepAllows s x t told → reply ≡ (swept s x t (swept_told told)).reply
      → (after : Option JointMarking) × JointSweep j y t reply told (joint_as r.managed (swept s x t (swept_told told)).state flags after) × Agrees (swept s x t (swept_told told)).state flags after
  sweep-by None None (P n) nothing reply e f w ev a q = (jm, (elim ev [ inl x ↦ x | inr x ↦ absurd x ], q, refl), ag)
  sweep-by None None (P n) _ reply e f w ev a q = absurd a
  sweep-by None None (M n) told reply e f w ev a q = absurd (elim ev [ inl x ↦ x | inr x ↦ x ])
  sweep-by None None C told reply e f w ev a q = absurd a
  sweep-by (Some mk) (Some y) t (sweep_of freed) reply e f w ev a q = ends mk y t reply freed (is_thread t C || is_thread t mk.by) e w a (may-end t mk.by a.0) q
  sweep-by (Some mk) (Some y) (P n) nothing reply e f w ev a q = refuses mk y n reply (is_thread (P n) mk.by) w
      (elim ev [ inl x ↦ x | inr x ↦ absurd x ]) a (may-not n mk.by (is_thread (P n) mk.by) refl a) q
  sweep-by (Some mk) (Some y) t told reply e f w ev a q = absurd a
  sweep-by None (Some y) t told reply e f w ev a q = absurd w
  sweep-by (Some mk) None t told reply e f w ev a q = absurd w

  pub step-sweep : (t : Thread) (reply : Reply) (told : Told) → IsEvent t op.Sweep → SweepAllows s s.marking t told → reply ≡ (swept s s.marking t (swept_told told)).reply
      → Steps r.managed s flags flags.answers jm t op.Sweep reply told r.managed (swept s s.marking t (swept_told told)).state
  step-sweep t reply told ev a q = let w = sweep-by s.marking jm t told reply refl refl ag.markings ev a q in
      record { flags_after = flags; told_after = refl; marking_after = w.0; event = w.1; agrees = w.2 }
