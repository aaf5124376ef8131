-- An event of the peers, as one of the joint state: no peer is freed, and the handles that it issues get their flags.
use Rattle.std.proofs.Common.{◌≡◌, ◌≤◌, ℕ, Bool, true, false, List, [], ◌∷◌, ◌++◌, map, length, Option, Some, None, Result, Ok, Err, refl, sym, ap, subst, ◌∙◌, drop, replicate, arith, length-append}
use Rattle.std.proofs.Common.{if◌then◌else◌}
use Rattle.std.specs.Prelude.{IfOk, OnErr, ◌||◌, slice_set}
use Rattle.std.proofs.Math.Seq.{drop-length}
use Rattle.std.proofs.lemmas.List.{append-nil}
use Rattle.joint_machine.specs.declared.names.Sort.{Sort}
use Rattle.joint_machine.specs.declared.names.Sort.TheVariants.{Framework}
use Rattle.joint_machine.specs.declared.events.Reply.{Reply}
use Rattle.joint_machine.specs.declared.events.Reply.TheVariants as says
use Rattle.joint_machine.specs.Heaps.{Answered, answer, slot, is_full, fields_of, with_var, next_number}
use Rattle.joint_machine.specs.Joint.{Joint, JointMarking}
use Rattle.joint_machine.specs.Peers.{Peers, Strength, held, raw, strong, sort_of, next_handle, handle_name, peer_name, with_handle, with_peer, handles_full, issued_since, peer_made, peer_read}
use Rattle.joint_machine.specs.Peers.{landed, pair_made, peer_gripped, gripped, name_given, globalised}
use Rattle.joint_machine.specs.Run.{on_peers}
use Rattle.joint_replay.specs.declared.state.Verdict.{Verdict}
use Rattle.joint_replay.specs.declared.state.Verdict.TheVariants.{Lawful, Unlawful}
use Rattle.joint_replay.specs.Graphs.{KeepsStored}
use Rattle.joint_replay.specs.Judging.{Decides, Flags, Gives}

-- no peer is freed, and none is gone
pub record Grows (p q : Peers) : Type 0 where
  pub made : length p.heap.fields ≤ length q.heap.fields
  pub freed : q.heap.freed ≡ p.heap.freed

pub Grows-refl : (p : Peers) → Grows p p
Grows-refl p = record { made = omega arith; freed = refl }

-- so what the open marking may free is live still
pub stored-kept : (p q : Peers) (m : Option JointMarking) → Grows p q → KeepsStored p m → KeepsStored q m
stored-kept p q None g k = k
stored-kept p q (Some m) g k = λ x s. (let l = k x s in record { made = (l.made.0, omega (arith, l.made.1, g.made)); kept = rw g.freed l.kept })

-- after a verdict on such an event, or without memory
pub stored-then : (p q : Peers) (m : Option JointMarking) (a : Answered Peers) (reply : Reply) (d : Verdict) → Grows p a.state → Decides (Gives a reply) d p q → KeepsStored p m → KeepsStored q m
stored-then p q m a reply Lawful g d k = subst (λ z. KeepsStored z m) (sym d.state) (stored-kept p a.state m g k)
stored-then p q m a reply Unlawful g d k = subst (λ z. KeepsStored z m) (sym d.1) k

pub stored-after : {E : Type 0} (p q : Peers) (m : Option JointMarking) (a : Answered Peers) (reply : Reply) (r : Result Verdict E)
    → Grows p a.state → IfOk r (λ d. Decides (Gives a reply) d p q) → OnErr r (q ≡ p) → KeepsStored p m → KeepsStored q m
stored-after p q m a reply (Ok v) g d e k = stored-then p q m a reply v g d k
stored-after p q m a reply (Err x) g d e k = subst (λ z. KeepsStored z m) (sym e) k

-- the state with other peers and flags
abbrev pub with_peers : Joint → Peers → List Bool → Joint
with_peers j q flags = record j { graph = record j.graph { peers = q; removed = flags } }

-- a list of flags that gets none
same-flags : (p : Peers) (flags next : List Bool) → Flags p p flags next → next ≡ flags
same-flags p flags next f = (let n = drop-length p.issued in rw n at f) ∙ append-nil flags

-- the verdict on an event of the peers is one on the joint state
pub on-peers : (i : Joint) (a : Answered Peers) (reply : Reply) (q : Peers) (next : List Bool) (d : Verdict) → Flags i.graph.peers q i.graph.removed next
    → Decides (Gives a reply) d i.graph.peers q → Decides (Gives (on_peers i a) reply) d i (with_peers i q next)
on-peers i a reply q next Lawful f d = record {
  replies = d.replies;
  state = ap (with_peers i q) f
      ∙ ap (λ (z : Peers). with_peers i z (i.graph.removed ++ map (λ x. false) (issued_since i.graph.peers z))) d.state;
}
on-peers i a reply q next Unlawful f d = (
  λ n s. d.0 a.state (record { replies = s.replies; state = refl }),
  (let g : Flags i.graph.peers i.graph.peers i.graph.removed next = rw d.1 at f in ap (λ (z : Peers). with_peers i z next) d.1
      ∙ ap (with_peers i i.graph.peers) (same-flags i.graph.peers i.graph.removed next g)),
)

-- without memory nothing moves
pub err-peers : {E : Type 0} (i : Joint) (q : Peers) (next : List Bool) (r : Result Verdict E)
    → Flags i.graph.peers q i.graph.removed next → OnErr r (q ≡ i.graph.peers) → OnErr r (with_peers i q next ≡ i)
err-peers i q next (Ok d) f e = e
err-peers i q next (Err x) f e = (let g : Flags i.graph.peers i.graph.peers i.graph.removed next = rw e at f in ap (λ (z : Peers). with_peers i z next) e
    ∙ ap (with_peers i i.graph.peers) (same-flags i.graph.peers i.graph.removed next g))

pub err-peers-same : {E : Type 0} (i : Joint) (q : Peers) (r : Result Verdict E) → OnErr r (q ≡ i.graph.peers) → OnErr r (with_peers i q i.graph.removed ≡ i)
err-peers-same i q (Ok d) e = e
err-peers-same i q (Err x) e = ap (λ (z : Peers). with_peers i z i.graph.removed) e

-- the events that issue handles
pub Grows-pair_made : (s : Peers) (sort : Sort) (n : ℕ) → Grows s (pair_made s sort n).state
Grows-pair_made s sort n = by (is_full s.heap.fields || handles_full s)
  where
    by : (b : Bool) → Grows s (if b then answer says.Full s else answer (says.Made record { 0 = next_number s.heap } record { 0 = next_handle s })
        (with_handle (with_peer s sort n) (next_number s.heap) held strong)).state
    by true = Grows-refl s
    by false = record { made = omega (arith, length-append s.heap.fields (replicate n None ∷ [])); freed = refl }

pub Grows-gripped : (s : Peers) (x : ℕ) → Grows s (gripped s x).state
Grows-gripped s x = by (slot s.heap.statics x)
  where
    got : (p : ℕ) (b : Bool) → Grows s (if b then answer says.Full s else answer
        (says.Gripped record { 0 = p } record { 0 = next_handle s } (sort_of s p) (length (fields_of s.heap p))) (with_handle s p held strong)).state
    got p true = Grows-refl s
    got p false = record { made = omega arith; freed = refl }

    by : (o : Option ℕ) → Grows s (peer_gripped s o).state
    by None = Grows-refl s
    by (Some p) = got p (handles_full s)

pub Grows-globalised : (s : Peers) (g v : ℕ) (strength : Strength) → Grows s (globalised s g v strength).state
Grows-globalised s g v strength = by (slot s.heap.vars v)
  where
    got : (p : ℕ) (b : Bool) → Grows s (if b then answer says.Full s else let grown = with_handle s p raw strength in
        answer (handle_name (next_handle s)) (record grown { names = slice_set s.names g (Some (next_handle s)) })).state
    got p true = Grows-refl s
    got p false = record { made = omega arith; freed = refl }

    named : (p : ℕ) (o : Option ℕ) → Grows s (name_given s g p strength o).state
    named p (Some h) = Grows-refl s
    named p None = got p (handles_full s)

    by : (o : Option ℕ) → let a : Answered Peers = elim o [ None ↦ answer says.Empty s | Some p ↦ name_given s g p strength (slot s.names g) ] in Grows s a.state
    by None = Grows-refl s
    by (Some p) = named p (slot s.names g)

-- the events that issue none
pub Issues-none : (p q : Peers) (flags : List Bool) → q.issued ≡ p.issued → Flags p q flags flags
Issues-none p q flags e = sym (append-nil flags) ∙ ap (λ l. flags ++ map (λ i. false) l) (sym (drop-length p.issued) ∙ ap (drop (length p.issued)) (sym e))

pub Grows-peer_made : (s : Peers) (v n : ℕ) → Grows s (peer_made s v n).state
Grows-peer_made s v n = by (is_full s.heap.fields)
  where
    by : (b : Bool) → Grows s (if b then answer says.Full s else let grown = with_peer s Framework n in
        answer (peer_name (next_number s.heap)) (record grown { heap = with_var grown.heap v (Some (next_number s.heap)) })).state
    by true = Grows-refl s
    by false = record { made = omega (arith, length-append s.heap.fields (replicate n None ∷ [])); freed = refl }

pub issued-peer_made : (s : Peers) (v n : ℕ) → (peer_made s v n).state.issued ≡ s.issued
issued-peer_made s v n = by (is_full s.heap.fields)
  where
    by : (b : Bool) → (if b then answer says.Full s else let grown = with_peer s Framework n in
        answer (peer_name (next_number s.heap)) (record grown { heap = with_var grown.heap v (Some (next_number s.heap)) })).state.issued ≡ s.issued
    by true = refl
    by false = refl

pub Grows-landed : (s : Peers) (x : ℕ) (o : Option ℕ) → Grows s (landed s x o).state
Grows-landed s x None = Grows-refl s
Grows-landed s x (Some p) = record { made = omega arith; freed = refl }

pub issued-landed : (s : Peers) (x : ℕ) (o : Option ℕ) → (landed s x o).state.issued ≡ s.issued
issued-landed s x None = refl
issued-landed s x (Some p) = refl

pub Grows-peer_read : (s : Peers) (v : ℕ) (o : Option ℕ) → Grows s (peer_read s v o).state
Grows-peer_read s v None = Grows-refl s
Grows-peer_read s v (Some p) = record { made = omega arith; freed = refl }

pub issued-peer_read : (s : Peers) (v : ℕ) (o : Option ℕ) → (peer_read s v o).state.issued ≡ s.issued
issued-peer_read s v None = refl
issued-peer_read s v (Some p) = refl

-- a verdict on an event that issues none
pub on-peers-same : (i : Joint) (a : Answered Peers) (reply : Reply) (q : Peers) (d : Verdict) → a.state.issued ≡ i.graph.peers.issued
    → Decides (Gives a reply) d i.graph.peers q → Decides (Gives (on_peers i a) reply) d i (with_peers i q i.graph.removed)
on-peers-same i a reply q d e x = on-peers i a reply q i.graph.removed d (Issues-none i.graph.peers q i.graph.removed (by d x)) x
  where
    by : (d : Verdict) → Decides (Gives a reply) d i.graph.peers q → q.issued ≡ i.graph.peers.issued
    by Lawful x = ap (λ (z : Peers). z.issued) x.state ∙ e
    by Unlawful x = ap (λ (z : Peers). z.issued) x.1
