-- A restore of a history is a step of the joint machine: its handle is removed in both, its peer is freed in both or
-- gets the handle with the same next number, and the candidate's place has the answer.
use Rattle.std.proofs.Common.{◌≡◌, ℕ, zero, suc, ◌+◌, ◌-◌, Bool, true, false, List, [], ◌∷◌, ◌++◌, length, map, replicate, Option, Some, None, refl, sym, ap, subst, ◌∙◌, arith, length-append}
use Rattle.std.specs.Prelude.{slice_get, if◌then◌else◌}
use Rattle.std.proofs.lemmas.Bool.{eqb-true, eq-eqb}
use Rattle.std.proofs.lemmas.Option.{same_Some, slice_get_within}
use Rattle.joint_machine.specs.declared.names.Thread.TheVariants.{C}
use Rattle.joint_machine.specs.declared.events.Op.TheVariants as op
use Rattle.joint_machine.specs.declared.events.Reply.{Reply}
use Rattle.joint_machine.specs.declared.events.Reply.TheVariants as says
use Rattle.joint_machine.specs.Control.{Doing, OpenSnap, restoring, IsCandidateHandle, answer_in}
use Rattle.joint_machine.specs.Heaps.{Answered, IsLive, answer, numbered_at, is_freed}
use Rattle.joint_machine.specs.Joined.{answers_so_far}
use Rattle.joint_machine.specs.Joint.{Joint, JointMarking}
use Rattle.joint_machine.specs.Managed.{Managed, Holds, handle_of, candidates_of}
use Rattle.joint_machine.specs.ManagedReplay.{ManagedReplay}
use Rattle.joint_machine.specs.Peers.{Issued, held, strong, peer_of, next_handle}
use Rattle.joint_machine.specs.PeerReplay.{PeerReplay, TableRow, row_of, restored_by, withdrawn, given_anew as given_to}
use Rattle.joint_machine.specs.Run.{JointRestore, joint_restored, answered, answered_for, is_that_handle, without, given_anew}
use Rattle.joint_machine.specs.Told.{nothing, Answer, said_alive, said_cleared}
use Rattle.joint_machine.proofs.Deciding.{none_some}
use Rattle.joint_machine.proofs.HeapLemmas.{Contains-is_freed, is_freed-live, Holds-handle_of, candidates_of-open}
use Rattle.joint_machine.proofs.Members.{Contains-at, Rises-once}
use Rattle.joint_machine.proofs.Numbered.{slot-named}
use Rattle.joint_laws.specs.JointAgreement.{Flags, Agrees, joint_as, gone_flags}
use Rattle.joint_laws.specs.LinkedInvariants.{IsRestoring}
use Rattle.joint_laws.specs.PeerInvariants.{IsTabled, IsIssued}
use Rattle.joint_laws.proofs.DriverPeerSteps.{holds-handle_of}
use Rattle.joint_laws.proofs.JointFlags.{AreFlags-gone, removed-at, removed-issued, AreSameMarkings-brought}
use Rattle.joint_laws.proofs.JointSteps.{Steps}
use Rattle.joint_laws.proofs.LinkedDriver.{turn}
use Rattle.joint_laws.proofs.LinkedQuiet.{BothInvariants}
use Rattle.joint_laws.proofs.PeerEntries.{peer_of-issued, peer_of-live}
use Rattle.joint_laws.proofs.Restores.{restored-cases, renewal}

-- an answer at a candidate, by whether it holds the handle
answer-to : (b : Bool) (x : Option Answer) (a : Answer) → b ≡ true → (if b then Some a else x) ≡ Some a
answer-to true x a e = refl
answer-to false x a e = absurd (let z : false ≡ true = e in cc)

answer-past : (b : Bool) (x : Option Answer) (a : Answer) → (b ≡ true → ⊥) → (if b then Some a else x) ≡ x
answer-past true x a n = absurd (n refl)
answer-past false x a n = refl

-- the candidates behind the place keep what was answered: nothing
answered-none : (s : Managed) (h : ℕ) (a : Answer) (cs : List ℕ) (n : ℕ) → n ≡ length cs
    → ((l m : ℕ) → slice_get cs l ≡ Some m → is_that_handle (handle_of s m) h ≡ true → ⊥) → answered_for s h a cs (replicate n None) ≡ replicate n None
answered-none s h a [] n e none = refl
answered-none s h a (c ∷ cs) zero e none = refl
answered-none s h a (c ∷ cs) (suc n) e none =
    let first = answer-past (is_that_handle (handle_of s c) h) None a (none 0 c refl) in
    let rest = answered-none s h a cs n (omega (arith, e)) (λ l m f. none (suc l) m f) in
    λ k. first k ∷ rest k

-- the candidate at the next place has the answer
answered-at : (s : Managed) (h : ℕ) (a : Answer) (cs : List ℕ) (answers : List Answer) (n m : ℕ)
    → suc n + length answers ≡ length cs → slice_get cs (length answers) ≡ Some m → is_that_handle (handle_of s m) h ≡ true
    → ((l x : ℕ) → slice_get cs l ≡ Some x → is_that_handle (handle_of s x) h ≡ true → l ≡ length answers)
    → answered_for s h a cs (map Some answers ++ replicate (suc n) None) ≡ map Some (answers ++ a ∷ []) ++ replicate n None
answered-at s h a [] answers n m len e t one = absurd (none_some m e)
answered-at s h a (c ∷ cs) [] n m len e t one =
    let here : is_that_handle (handle_of s c) h ≡ true = subst (λ z. is_that_handle (handle_of s z) h ≡ true) (sym (same_Some c m e)) t in
    let first = answer-to (is_that_handle (handle_of s c) h) None a here in
    let rest = answered-none s h a cs n (omega (arith, len)) (λ l x f g. (let z : suc l ≡ 0 = one (suc l) x f g in omega (arith, z))) in
    λ k. first k ∷ rest k
answered-at s h a (c ∷ cs) (b ∷ answers) n m len e t one =
    let first = answer-past (is_that_handle (handle_of s c) h) (Some b) a (λ g. (let z : 0 ≡ suc (length answers) = one 0 c refl g in omega (arith, z))) in
    let rest = answered-at s h a cs answers n m (omega (arith, len)) e t (λ l x f g. (let z : suc l ≡ suc (length answers) = one (suc l) x f g in omega (arith, z))) in
    λ k. first k ∷ rest k

answered-next : (s : Managed) (h : ℕ) (a : Answer) (cs : List ℕ) (answers : List Answer) (m : ℕ) → slice_get cs (length answers) ≡ Some m
    → is_that_handle (handle_of s m) h ≡ true → ((l x : ℕ) → slice_get cs l ≡ Some x → is_that_handle (handle_of s x) h ≡ true → l ≡ length answers)
    → answered_for s h a cs (answers_so_far answers (length cs)) ≡ answers_so_far (answers ++ a ∷ []) (length cs)
answered-next s h a cs answers m e t one =
    let within = slice_get_within cs (length answers) m e in
    let left : ℕ = length cs - suc (length answers) in
    let more : length cs - length answers ≡ suc left = omega (arith, within) in
    let fewer : left ≡ length cs - length (answers ++ a ∷ []) = omega (arith, length-append answers (a ∷ [])) in
    ap (λ n. answered_for s h a cs (map Some answers ++ replicate n None)) more
    ∙ (answered-at s h a cs answers left m (omega (arith, within)) e t one ∙ ap (λ n. map Some (answers ++ a ∷ []) ++ replicate n None) fewer)

module _ (r : ManagedReplay) (s : PeerReplay) (ds : List Doing) (o : OpenSnap) (answers : List Answer) (k : BothInvariants r s ds (restoring o answers))
    (flags : Flags) (jm : Option JointMarking) (ag : Agrees s flags jm) (h : ℕ) (w : IsCandidateHandle r.managed (length answers) h)
    (told : flags.answers ≡ answers_so_far answers (length (candidates_of r.managed))) where
  v : IsRestoring r s o answers
  v = k.driver

  c : (m : ℕ) × (slice_get v.cycle.candidates (length answers) ≡ Some m) × Holds r.managed m h
  c = turn r v.cycle (length answers) h k.managed v.opened.cycle w

  abbrev cs : List ℕ
  cs = candidates_of r.managed

  cs-are : candidates_of r.managed ≡ v.cycle.candidates
  cs-are = candidates_of-open r.managed v.cycle v.opened.cycle

  holds-it : (m : ℕ) → Holds r.managed m h → is_that_handle (handle_of r.managed m) h ≡ true
  holds-it m q = ap (λ z. is_that_handle z h) (Holds-handle_of r.managed m h q) ∙ eq-eqb h h refl

  it-holds : (m : ℕ) (x : Option ℕ) → handle_of r.managed m ≡ x → is_that_handle x h ≡ true → Holds r.managed m h
  it-holds m None e t = absurd (let z : false ≡ true = t in cc)
  it-holds m (Some g) e t = holds-handle_of r.managed m h k.managed.managed.places (e ∙ ap Some (eqb-true g h t))

  -- no other candidate holds the handle
  one-place : (l x : ℕ) → slice_get (candidates_of r.managed) l ≡ Some x → is_that_handle (handle_of r.managed x) h ≡ true → l ≡ length answers
  one-place l x e t =
      let same : x ≡ c.0 = k.managed.alone x c.0 h (it-holds x (handle_of r.managed x) refl t) c.2 in
      Rises-once v.cycle.candidates l (length answers) c.0 (k.managed.managed.dead v.cycle v.opened.cycle).rise (subst (λ z. slice_get z l ≡ Some c.0) cs-are (e ∙ ap Some same)) c.1

  abbrev with_answer : Answer → List (Option Answer)
  with_answer a = answered_for r.managed h a (candidates_of r.managed) flags.answers

  told-next : (a : Answer) → answered_for r.managed h a (candidates_of r.managed) flags.answers ≡ answers_so_far (answers ++ a ∷ []) (length (candidates_of r.managed))
  told-next a =
      ap (answered_for r.managed h a (candidates_of r.managed)) told
      ∙ answered-next r.managed h a (candidates_of r.managed) answers c.0 (subst (λ z. slice_get z (length answers) ≡ Some c.0) (sym cs-are) c.1) (holds-it c.0 c.2) one-place

  abbrev j : Joint
  j = joint_as r.managed s flags jm

  module _ (row : TableRow) (t : IsTabled s.table h row) where
    not_removed : numbered_at flags.removed h ≡ Some false
    not_removed = ap (λ z. numbered_at z h) ag.removed ∙ removed-at s.table h (Some row) t

    i : (i : Issued) × IsIssued s.peers.issued h i
    i = (let q = k.owners.held_ones c.0 h c.2 in (q.0, q.1))

    leads : peer_of s.peers.issued h ≡ Some i.0.peer
    leads = peer_of-issued s.peers.issued h i.0 i.1

    restores : (reply : Reply) (next : Joint) → reply ≡ (joint_restored j h i.0.peer).reply → next ≡ (joint_restored j h i.0.peer).state → JointRestore j h reply next
    restores reply next e f = record {
      cycle = v.cycle;
      open_cycle = v.opened.cycle;
      row = c.0;
      candidate = Contains-at v.cycle.candidates (length answers) c.0 c.1;
      holds = c.2;
      kept = not_removed;
      peer = i.0.peer;
      leads = leads;
      replies = e;
      state = f;
    }

    abbrev by_test : Bool → Answered Joint
    by_test b = if b then answer says.Cleared (answered (without j (Some h)) h said_cleared) else answer
        (says.Renewed record { 0 = next_handle s.peers }) (answered (given_anew (without j (Some h)) i.0.peer) h (said_alive (next_handle s.peers)))

    Gives : Answered PeerReplay → Type 0
    Gives a = (reply : Reply) → reply ≡ a.reply → Steps r.managed s flags
        (answers_so_far (answers ++ answer_in reply ∷ []) (length (candidates_of r.managed))) jm C (op.Restore record { 0 = h }) reply nothing r.managed a.state

    cleared : row.cleared ≡ true → Gives (answer says.Cleared (withdrawn s h))
    unfolding Gives
    cleared e reply q =
        let test : is_freed s.peers.heap i.0.peer ≡ true = Contains-is_freed s.peers.heap i.0.peer (k.peer.handles.cleared h row i.0 t i.1 e) in
        let after : Flags = record { removed = (gone_flags flags h).removed; answers = with_answer said_cleared } in
        record {
          flags_after = after;
          told_after = told-next said_cleared ∙ ap (λ z. answers_so_far (answers ++ answer_in z ∷ []) (length (candidates_of r.managed))) (sym q);
          marking_after = jm;
          event = restores reply (joint_as r.managed (withdrawn s h) after jm) (q ∙ sym (ap (λ b. (by_test b).reply) test)) (sym (ap (λ b. (by_test b).state) test));
          agrees = record { removed = AreFlags-gone s h flags ag.removed; markings = ag.markings };
        }

    renewed : (p : ℕ) → row.cleared ≡ false → peer_of s.peers.issued h ≡ Some p → Gives (renewal s h p)
    unfolding Gives
    renewed p e f reply q =
        let same : i.0.peer ≡ p = same_Some i.0.peer p (sym leads ∙ f) in
        let test : is_freed s.peers.heap i.0.peer ≡ false = is_freed-live s.peers.heap i.0.peer (subst (λ z. IsLive s.peers.heap z) (sym same) (peer_of-live s h p row k.peer t e f)) in
        let after : Flags = record { removed = (gone_flags flags h).removed ++ false ∷ []; answers = with_answer (said_alive (next_handle s.peers)) } in
        record {
          flags_after = after;
          told_after = told-next (said_alive (next_handle s.peers)) ∙ ap (λ z. answers_so_far (answers ++ answer_in z ∷ []) (length (candidates_of r.managed))) (sym q);
          marking_after = jm;
          event = restores reply (joint_as r.managed (given_to (withdrawn s h) p) after jm) (q ∙ sym (ap (λ b. (by_test b).reply) test))
              (ap (λ z. joint_as r.managed (given_to (withdrawn s h) z) after jm) (sym same) ∙ sym (ap (λ b. (by_test b).state) test));
          agrees = record {
            removed = ap (λ z. z ++ false ∷ []) (AreFlags-gone s h flags ag.removed) ∙ sym (removed-issued (withdrawn s h).table (record { peer = p; hold = held; strength = strong } ∷ []));
            markings = AreSameMarkings-brought s.marking jm p ag.markings;
          };
        }

  pub step-restore : (x : Option TableRow) (row : TableRow) (reply : Reply) → row_of s h ≡ x → x ≡ Some row → reply ≡ (restored_by s h x).reply
      → Steps r.managed s flags (answers_so_far (answers ++ answer_in reply ∷ []) (length (candidates_of r.managed))) jm C
      (op.Restore record { 0 = h }) reply nothing r.managed (restored_by s h x).state
  unfolding Gives
  step-restore x row reply e f q = restored-cases (λ a. (z : Reply) → z ≡ a.reply
      → Steps r.managed s flags (answers_so_far (answers ++ answer_in z ∷ []) (length (candidates_of r.managed))) jm C (op.Restore record { 0 = h }) z nothing r.managed a.state) s h x
      (λ g. absurd (none_some row (sym g ∙ f)))
      (λ y g b. cleared y (slot-named (numbered_at s.table h) y (e ∙ g)) b)
      (λ g. absurd (none_some _ (sym g ∙ leads row (slot-named (numbered_at s.table h) row (e ∙ f)))))
      (λ y p g b l. renewed y (slot-named (numbered_at s.table h) y (e ∙ g)) p b l)
      reply q
