-- In a run of a generated script nothing is refused for want of numbers: what was made is never more than the events
-- that ask for it, and each line has two of these at most.
use Rattle.std.proofs.Common.{◌≡◌, ℕ, ◌+◌, ◌≤◌, ◌<◌, nat_le, Bool, true, false, ◌||◌, List, [], ◌∷◌, ◌++◌, length, refl, sym, ap, subst, ◌∙◌, arith, append_assoc, if◌then◌else◌, Option, Some, None}
use Rattle.std.proofs.lemmas.Bool.Decides.{nat_tests}
use Rattle.joint_machine.specs.declared.names.Var.{Var}
use Rattle.joint_machine.specs.declared.names.StaticNo.{StaticNo}
use Rattle.joint_machine.specs.declared.names.Kind.{Kind}
use Rattle.joint_machine.specs.declared.names.Sort.{Sort}
use Rattle.joint_machine.specs.declared.names.Sort.TheVariants.{Framework}
use Rattle.joint_machine.specs.declared.names.Thread.{Thread}
use Rattle.joint_machine.specs.declared.names.Thread.TheVariants.{M, P, C}
use Rattle.joint_machine.specs.declared.names.Phase.TheVariants as at
use Rattle.joint_machine.specs.declared.names.PhaseWord.TheVariants as word
use Rattle.joint_machine.specs.declared.lines.Act.{Act}
use Rattle.joint_machine.specs.declared.lines.Act.TheVariants as act
use Rattle.joint_machine.specs.declared.events.Op.{Op}
use Rattle.joint_machine.specs.declared.events.Op.TheVariants as op
use Rattle.joint_machine.specs.declared.events.Reply.{Reply}
use Rattle.joint_machine.specs.declared.events.Reply.TheVariants as says
use Rattle.joint_machine.specs.declared.events.Entry.{Entry}
use Rattle.joint_machine.specs.Heaps.{is_full, place, answer, next_number, with_var}
use Rattle.joint_machine.specs.Lines.{IsEvent, is_peer_event}
use Rattle.joint_machine.specs.Linked.{Linkage, MayCome, SideLawful, opening_linkage, linkage_after}
use Rattle.joint_machine.specs.Replaying.{AllMayCome, replayed}
use Rattle.joint_machine.specs.Managed.{managed_name, with_row, adopted}
use Rattle.joint_machine.specs.Peers.{peer_name, with_peer, with_handle, next_handle, handles_full, held, strong}
use Rattle.joint_machine.specs.Run.{thread_number}
use Rattle.joint_machine.specs.Told.{Told, Noted}
use Rattle.joint_machine.proofs.Deciding.{none_some}
use Rattle.joint_machine.proofs.HeapLemmas.{adopt_by-reply}
use Rattle.joint_laws.proofs.LinkedEntries.{entry}
use Rattle.known_laws.specs.PastEntries.{entries}
use Rattle.known_laws.proofs.Growing.{entries_append}
use Rattle.run_summary.specs.declared.tallies.Tally.{Tally}
use Rattle.run_summary.specs.Tallies.{is_m, is_p, is_made, makes_managed, makes_peer, makes_handle, opens_cycle, tallied, tally_from, nothing_yet}
use Rattle.run_summary.specs.Lines.{one}
use Rattle.script_laws.specs.Holding.{Standing, next_event, AreEventsAfter, AreEvents}
use Rattle.summary_laws.proofs.Counting.{tallies_are_of_states}
use Rattle.generated_laws.proofs.Totals.{Each, total, total-append, total-le}
use Rattle.generated_laws.proofs.Own.{IsSimple, Answers, HasAnswer, IsLater, IsLaterEntry, IsCycleOf, whole_cycle}

-- what a tally counts, as sums over the entries
abbrev pub managed_more : Entry → ℕ
managed_more e = one (makes_managed e.made.op e.made.reply)

abbrev pub peers_more : Entry → ℕ
peers_more e = one (makes_peer e.made.op e.made.reply)

abbrev pub handles_more : Entry → ℕ
handles_more e = one (makes_handle e.made.op e.made.reply)

abbrev pub cycles_more : Entry → ℕ
cycles_more e = one (opens_cycle e.made.op)

pub record HasTotals (t u : Tally) (es : List Entry) : Type 0 where
  pub cycles : u.cycles ≡ t.cycles + total cycles_more es
  pub managed : u.made.managed ≡ t.made.managed + total managed_more es
  pub peers : u.made.peers ≡ t.made.peers + total peers_more es
  pub handles : u.made.handles ≡ t.made.handles + total handles_more es

pub tally-totals : (t : Tally) (es : List Entry) → HasTotals t (tally_from t es) es
tally-totals t [] = record { cycles = omega arith; managed = omega arith; peers = omega arith; handles = omega arith }
tally-totals t (e ∷ es) =
    let r = tally-totals (tallied t e.made.op e.made.reply) es in
    record { cycles = omega (arith, r.cycles); managed = omega (arith, r.managed); peers = omega (arith, r.peers); handles = omega (arith, r.handles) }

-- whether an event asks for an object or a handle
abbrev pub asks : Op → Bool
asks (op.Line (act.New v k n)) = true
asks (op.Line (act.NewPeer v n)) = true
asks (op.Line (act.Global g v)) = true
asks (op.Line (act.WGlobal g v)) = true
asks (op.Make sort n) = true
asks (op.Adopt v k n p h) = true
asks (op.Meet v sort n p h) = true
asks (op.Grip x) = true
asks _ = false

abbrev pub asking : Entry → ℕ
asking e = one (asks e.made.op)

one_small : (b : Bool) → one b ≤ 1
one_small true = omega arith
one_small false = omega arith

managed-asks : (o : Op) (r : Reply) → one (makes_managed o r) ≤ one (asks o)
managed-asks (op.Line (act.New v k n)) r = one_small _
managed-asks (op.Adopt v k n p h) r = one_small _
managed-asks (op.Meet v sort n p h) r = one_small _
managed-asks _ r = omega arith

peers-ask : (o : Op) (r : Reply) → one (makes_peer o r) ≤ one (asks o)
peers-ask (op.Line (act.NewPeer v n)) r = one_small _
peers-ask (op.Make sort n) r = one_small _
peers-ask _ r = omega arith

handles-ask : (o : Op) (r : Reply) → one (makes_handle o r) ≤ one (asks o)
handles-ask (op.Make sort n) r = one_small _
handles-ask (op.Grip x) r = one_small _
handles-ask (op.Line (act.Global g v)) r = one_small _
handles-ask (op.Line (act.WGlobal g v)) r = one_small _
handles-ask _ r = omega arith

-- the entries of a line ask twice at most
two-at-most : (a : Act) (own : List Entry) → ((r q : Reply) → next_event a (r ∷ q ∷ []) ≡ None) → AreEventsAfter a [] own → total asking own ≤ 2
two-at-most a [] n w = omega arith
two-at-most a (x ∷ []) n w = (let p = one_small (asks x.made.op) in omega (arith, p))
two-at-most a (x ∷ y ∷ []) n w = (let p = one_small (asks x.made.op) in let q = one_small (asks y.made.op) in omega (arith, p, q))
two-at-most a (x ∷ y ∷ z ∷ own) n w = absurd (none_some z.made.op (sym (n x.made.reply y.made.reply) ∙ w.1.1.0))

pass-two : (v : Var) (x : StaticNo) (r q : Reply) → next_event (act.Pass v x) (r ∷ q ∷ []) ≡ None
pass-two v x (says.H h) q = refl
pass-two v x _ q = refl

bridge-two : (v : Var) (k : Kind) (n : ℕ) (sort : Sort) (f : ℕ) (r q : Reply) → next_event (act.Bridge v k n sort f) (r ∷ q ∷ []) ≡ None
bridge-two v k n sort f (says.Made p h) q = refl
bridge-two v k n sort f _ q = refl

later-asks : (o : Op) → IsLater o → one (asks o) ≡ 0
later-asks (op.Contract k) l = refl
later-asks (op.Mirror k) l = refl
later-asks (op.Weaken h) l = refl
later-asks op.Begin l = refl
later-asks op.Sweep l = refl
later-asks (op.Restore h) l = refl
later-asks (op.Clear k) l = refl
later-asks (op.Resolve k) l = refl
later-asks _ l = absurd l

laters-ask : (es : List Entry) → Each IsLaterEntry es → total asking es ≡ 0
laters-ask [] l = refl
laters-ask (e ∷ es) l = (let a = later-asks e.made.op l.0 in let r = laters-ask es l.1 in omega (arith, a, r))

pub cycle-asks : (es : List Entry) → IsCycleOf es → total asking es ≡ 0
cycle-asks es c = (let s = ap (λ o. one (asks o)) c.snaps in let l = laters-ask c.later c.are_later in ap (total asking) c.all ∙ omega (arith, s, l))

pub own-asks : (s : Standing) (a : Act) (own : List Entry) → s.phase ≡ at.Idle → IsSimple a → Each (λ (e : Entry). Unit {0}) own → AreEvents s a own → total asking own ≤ 2
own-asks s (act.New v k n) own i w q e = two-at-most (act.New v k n) own (λ r y. refl) e
own-asks s (act.NewPeer v n) own i w q e = two-at-most (act.NewPeer v n) own (λ r y. refl) e
own-asks s (act.Set v j x) own i w q e = two-at-most (act.Set v j x) own (λ r y. refl) e
own-asks s (act.Drop v) own i w q e = two-at-most (act.Drop v) own (λ r y. refl) e
own-asks s (act.Store x v) own i w q e = two-at-most (act.Store x v) own (λ r y. refl) e
own-asks s (act.Bridge v k n sort l) own i w q e = two-at-most (act.Bridge v k n sort l) own (bridge-two v k n sort l) e
own-asks s (act.Pass v x) own i w q e = two-at-most (act.Pass v x) own (pass-two v x) e
own-asks s (act.PhaseLine word.Cycle) own i w q e = (let c = cycle-asks own (whole_cycle s own i e) in omega (arith, c))
own-asks s _ own i w q e = absurd w

-- an event that may come isn't refused for want of numbers while there are some
room : {A : Type 0} (xs : List A) → length xs < 65535 → is_full xs ≡ false
room xs l = grind (arith, nat_tests)

few_made : (n : ℕ) → n < 65535 → nat_le 65535 n ≡ false
few_made n l = grind (arith, nat_tests)

module _ (s : Linkage) (managed : length s.managed.managed.heap.fields < 65535) (peers : length s.peer.peers.heap.fields < 65535) (handles : s.peer.peers.made < 65535) where
  no-managed : is_full s.managed.managed.heap.fields ≡ false
  no-managed = room s.managed.managed.heap.fields managed

  no-peers : is_full s.peer.peers.heap.fields ≡ false
  no-peers = room s.peer.peers.heap.fields peers

  neither : (is_full s.peer.peers.heap.fields || handles_full s.peer.peers) ≡ false
  neither = ap (λ b. b || handles_full s.peer.peers) no-peers ∙ few_made s.peer.peers.made handles

  now : (t : Thread) (o : Op) (told : Told) (line : ℕ) (r : Reply) (cites : Option ℕ) → IsEvent t o → SideLawful (is_peer_event t o) s (entry t line o r cites) told → Answers o r
  now (M u) (op.Line (act.New v k n)) told line r cites e w =
      ap is_m (w.replies ∙ ap (λ b. (if b then answer says.Full s.managed.managed else answer
      (managed_name (next_number s.managed.managed.heap)) (with_row s.managed.managed (place u v.0) k n None)).reply) no-managed)
  now (P u) (op.Line (act.New v k n)) told line r cites e w = absurd e.0.1
  now C (op.Line (act.New v k n)) told line r cites e w = absurd e.0
  now (P u) (op.Line (act.NewPeer v n)) told line r cites e w =
      ap is_p (w.replies ∙ ap (λ b. (if b then answer says.Full s.peer.peers else
      (let grown = with_peer s.peer.peers Framework n in answer (peer_name (next_number s.peer.peers.heap))
      (record grown { heap = with_var grown.heap (place u v.0) (Some (next_number s.peer.peers.heap)) }))).reply) no-peers)
  now (M u) (op.Line (act.NewPeer v n)) told line r cites e w = absurd e.0.1
  now C (op.Line (act.NewPeer v n)) told line r cites e w = absurd e.0
  now t (op.Make sort n) told line r cites e w =
      ap is_made (w.replies ∙ ap (λ b. (if b then answer says.Full s.peer.peers else answer (says.Made record { 0 = next_number s.peer.peers.heap } record { 0 = next_handle s.peer.peers })
      (with_handle (with_peer s.peer.peers sort n) (next_number s.peer.peers.heap) held strong)).reply) neither)
  now t (op.Adopt v k n p h) told line r cites e w =
      let a = adopted s.managed.managed (place (thread_number t) v.0) k n h.0 in
      ap is_m (w.replies ∙ (adopt_by-reply s.managed p.0 h.0 a.state a.reply
      ∙ ap (λ b. (if b then answer says.Full s.managed.managed else answer (managed_name (next_number s.managed.managed.heap))
      (with_row s.managed.managed (place (thread_number t) v.0) k n (Some h.0))).reply) no-managed))
  now t o told line r cites e w = tt

pub all-split : (xs ys : List Noted) (s : Linkage) → AllMayCome s (xs ++ ys) → AllMayCome s xs × AllMayCome (replayed s xs) ys
all-split [] ys s a = (tt, a)
all-split (x ∷ xs) ys s a = (let r = all-split xs ys (linkage_after s x) a.1 in ((a.0, r.0), r.1))

-- so it is of each entry, as long as no more than so many ask
answers-from : (pre ns : List Noted) → AllMayCome opening_linkage (pre ++ ns) → total asking (entries pre) + total asking (entries ns) ≤ 65534 → Each HasAnswer (entries ns)
answers-from pre [] a b = tt
answers-from pre (n ∷ ns) a b =
    let parts = all-split pre (n ∷ ns) opening_linkage a in
    let s = replayed opening_linkage pre in
    let may : MayCome s n = parts.1.0 in
    let same = tallies_are_of_states pre parts.0 in
    let made = tally-totals nothing_yet (entries pre) in
    let m1 = ap (λ (t : Tally). t.made.managed) same in
    let m2 = ap (λ (t : Tally). t.made.peers) same in
    let m3 = ap (λ (t : Tally). t.made.handles) same in
    let l1 = total-le managed_more asking (entries pre) (λ (e : Entry). managed-asks e.made.op e.made.reply) in
    let l2 = total-le peers_more asking (entries pre) (λ (e : Entry). peers-ask e.made.op e.made.reply) in
    let l3 = total-le handles_more asking (entries pre) (λ (e : Entry). handles-ask e.made.op e.made.reply) in
    let here : HasAnswer n.entry =
    now s (omega (arith, m1, made.managed, l1, b)) (omega (arith, m2, made.peers, l2, b)) (omega (arith, m3, made.handles, l3, b))
    n.entry.made.caller n.entry.made.op n.told n.entry.made.index n.entry.made.reply n.entry.made.cites may.event may.lawful in
    let next : AllMayCome opening_linkage ((pre ++ n ∷ []) ++ ns) = subst (AllMayCome opening_linkage) (sym (append_assoc pre (n ∷ []) ns)) a in
    let e = ap (total asking) (entries_append pre (n ∷ [])) ∙ total-append asking (entries pre) (n.entry ∷ []) in
    (here, answers-from (pre ++ n ∷ []) ns next (omega (arith, e, b)))

pub answers-all : (ns : List Noted) → AllMayCome opening_linkage ns → total asking (entries ns) ≤ 65534 → Each HasAnswer (entries ns)
answers-all ns a b = answers-from [] ns a (omega (arith, b))
