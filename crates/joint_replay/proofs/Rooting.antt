-- The live joint roots of a joint state: the live rows that a variable, a static or a pin names, and the live peers of
-- the handles that aren't removed and are raw and strong, or held and loose.
use Rattle.std.proofs.Common.{◌≡◌, ℕ, ◌+◌, ◌↔◌, ◌⊎◌, inl, inr, Bool, true, List, [], ◌∷◌, ◌++◌, ◌<◌, ◌≤◌, length, set, take, Some, sym, ap, subst, ◌∙◌, arith}
use Rattle.std.specs.Prelude.{Contains, All, slice_get}
use Rattle.std.proofs.lemmas.List.{map-append}
use Rattle.std.proofs.lemmas.List.Elements.{Contains-push, Contains-push_cases, Contains-append_left}
use Rattle.joint_machine.specs.declared.names.PNum.{PNum}
use Rattle.joint_machine.specs.Heaps.{IsLive, InSlot}
use Rattle.joint_machine.specs.Histories.{peer_numbers}
use Rattle.joint_machine.specs.Joint.{Graph, IsHandle, IsRawRoot, IsLooseRoot, IsReachedIn, object, peer}
use Rattle.joint_machine.specs.Replaying.{AreUnreached}
use Rattle.joint_machine.specs.Managed.{Managed, IsManagedRoot}
use Rattle.joint_machine.specs.Peers.{Peers}
use Rattle.joint_machine.proofs.Members.{Contains-map, All-members, take-next}
use Rattle.joint_machine.proofs.Numbered.{numbered-within}
use Rattle.reachability.specs.Marks.{HasMark}
use Rattle.reachability.proofs.Marking.{set-marked, set-keeps, set-fresh}
use Rattle.joint_marking.specs.Gathered.{Gains}
use Rattle.joint_marking.specs.Nodes.{IsLiveRoot}
use Rattle.joint_marking.specs.Owned.{IsOwned}
use Rattle.joint_replay.specs.Graphs.{clean_graph, parts_graph, IsRootedIn}
use Rattle.joint_replay.specs.Roots.{IsNamedOrPinned}
use Rattle.joint_replay.proofs.Cleaning.{live_root-clean, reached-clean}
use Rattle.joint_replay.proofs.Finding.{live-cleaned, cleaned-live}

-- the managed roots, in another list of the same numbers
pub numbered-roots : (s : Managed) (xs ys : List ℕ) → ys ≡ xs → ((x : ℕ) → Contains xs x ↔ (IsLive s.heap x × IsNamedOrPinned s.heap s.pins x))
    → (x : ℕ) → Contains ys x ↔ (IsLive s.heap x × IsManagedRoot s x)
numbered-roots s xs ys same named x = rw same (named x)

-- the objects among them
pub object-roots : (g : Graph) (xs : List ℕ) → ((x : ℕ) → Contains xs x ↔ (IsLive g.managed.heap x × IsManagedRoot g.managed x)) → (x : ℕ) → Contains xs x ↔ IsLiveRoot (clean_graph g) (object x)
object-roots g xs named x = (
  λ c. (live_root-clean g (object x)).1 ((named x).0 c),
  λ r. (named x).1 ((live_root-clean g (object x)).0 r),
)

-- the peers of the handles that are roots by themselves are exactly the live peers of raw strong and of loose handles
handle-root : (s : Managed) (p : Peers) (removed owned : List Bool)
    → ((h : ℕ) → HasMark owned h ↔ IsOwned s (length p.issued + 1) h)
    → (k : ℕ) → IsRootedIn p removed owned k ↔ (IsLive p.heap k × (IsRawRoot (parts_graph s p removed) k ⊎ IsLooseRoot (parts_graph s p removed) k))
handle-root s p removed owned exact k = (
  λ w.
      let l = w.1 in
      let same : IsHandle (parts_graph s p removed) w.0 l.row = record { issued = l.issued; kept = l.kept } in (
        l.live,
        elim l.root [
          | inl r ↦ inl (record { handle = w.0; row = l.row; is_handle = same; raw_hold = r.0; strong_made = r.1; leads = l.leads })
          | inr r ↦ inr (record {
            handle = w.0;
            row = l.row;
            is_handle = same;
            held_hold = r.0;
            loose = λ m o. r.1 ((exact w.0).1 (record { owner = m; holds = o; marked = omega (arith, (numbered-within p.issued w.0 l.row l.issued).1) }));
            leads = l.leads;
          })
        ],
      ),
  λ w. elim w.1 [
    | inl r ↦ (r.handle, record { row = r.row; issued = r.is_handle.issued; kept = r.is_handle.kept; root = inl (r.raw_hold, r.strong_made); leads = r.leads; live = w.0 })
    | inr r ↦ (
      r.handle,
      record {
        row = r.row;
        issued = r.is_handle.issued;
        kept = r.is_handle.kept;
        root = inr (r.held_hold, λ m. (let o = (exact r.handle).0 m in r.loose o.owner o.holds));
        leads = r.leads;
        live = w.0;
      },
    )
  ],
)

-- the peers among them
pub peer-roots : (s : Managed) (p : Peers) (removed owned : List Bool) (named roots : List ℕ)
    → ((h : ℕ) → HasMark owned h ↔ IsOwned s (length p.issued + 1) h)
    → ((x : ℕ) → Contains named x ↔ (IsLive p.heap x × InSlot p.heap x))
    → Gains (IsRootedIn p removed owned) named roots
    → (k : ℕ) → Contains roots k ↔ IsLiveRoot (clean_graph (parts_graph s p removed)) (peer k)
peer-roots s p removed owned named roots exact slots gains k =
    let g = parts_graph s p removed in
    let loose = handle-root s p removed owned exact k in (
      λ c. (live_root-clean g (peer k)).1 (elim ((gains k).0 c) [
        | inl n ↦ (let w = (slots k).0 n in (w.0, inl w.1))
        | inr l ↦ (let w = loose.0 l in (w.0, inr w.1))
      ]),
      λ r. (let w = (live_root-clean g (peer k)).0 r in elim w.1 [
        | inl n ↦ (gains k).1 (inl ((slots k).1 (w.0, n)))
        | inr h ↦ (gains k).1 (inr (loose.1 (w.0, h)))
      ]),
    )

-- a peer is dead exactly where it is among the unreached ones of the clean graph
pub dead-clean : (g : Graph) (dead : List ℕ) → AreUnreached (clean_graph g) dead → (p : ℕ) → Contains dead p ↔ (IsLive g.peers.heap p × (IsReachedIn g (peer p) → ⊥))
dead-clean g dead u p = (
  λ c. (let w = (u.exact p).0 c in (cleaned-live g.peers.heap p w.0, λ r. w.1 ((reached-clean g (peer p)).1 r))),
  λ w. (u.exact p).1 (live-cleaned g.peers.heap p w.0, λ r. w.1 ((reached-clean g (peer p)).0 r)),
)

-- such a peer was made
pub dead-within : (g : Graph) (dead : List PNum) (made : ℕ) → made ≡ length g.peers.heap.fields → AreUnreached (clean_graph g) (peer_numbers dead) → All (λ p. p.0 ≤ made) dead
dead-within g dead made same u = All-members (λ (p : PNum). p.0 ≤ made) dead
    (λ p c. (let w = (dead-clean g (peer_numbers dead) u p.0).0 (Contains-map (λ (q : PNum). q.0) dead p c) in omega (arith, same, w.0.made.1)))

-- one peer more is marked
pub mark-more : (marks : List Bool) (dead : List PNum) (i : ℕ) (p : PNum) → slice_get dead i ≡ Some p → p.0 < length marks
    → ((k : ℕ) → HasMark marks k ↔ Contains (peer_numbers (take i dead)) k) → (k : ℕ) → HasMark (set marks p.0 true) k ↔ Contains (peer_numbers (take (i + 1) dead)) k
mark-more marks dead i p at l before k =
    let more : peer_numbers (take (i + 1) dead) ≡ peer_numbers (take i dead) ++ p.0 ∷ [] = ap peer_numbers (take-next dead i p at) ∙ map-append (λ (q : PNum). q.0) (take i dead) (p ∷ []) in
    rw more (
      λ m. elim (set-fresh marks p.0 k m) [
        | inl o ↦ Contains-append_left (peer_numbers (take i dead)) (p.0 ∷ []) k ((before k).0 o)
        | inr e ↦ subst (Contains (peer_numbers (take i dead) ++ p.0 ∷ [])) (sym e) (Contains-push (peer_numbers (take i dead)) p.0)
      ],
      λ c. elim (Contains-push_cases (peer_numbers (take i dead)) p.0 k c) [
        | inl o ↦ set-keeps marks p.0 k ((before k).1 o)
        | inr e ↦ subst (HasMark (set marks p.0 true)) e (set-marked marks p.0 l)
      ],
    )
