-- Two lists of entries that hold the same lines, each entry one that may come and is told plainly, are the same: the
-- next event of an operation is decided by the replies so far, and that of a phase by the state.
use Rattle.std.proofs.Common.{◌≡◌, ℕ, ◌+◌, List, [], ◌∷◌, ◌++◌, length, Option, Some, refl, sym, ◌∙◌, ap, subst, append_assoc}
use Rattle.std.proofs.lemmas.Option.{same_Some}
use Rattle.joint_machine.specs.declared.names.Thread.{Thread}
use Rattle.joint_machine.specs.declared.names.Thread.TheVariants.{M, P, C}
use Rattle.joint_machine.specs.declared.names.PhaseWord.{PhaseWord}
use Rattle.joint_machine.specs.declared.names.PhaseWord.TheVariants as word
use Rattle.joint_machine.specs.declared.names.Cycle.{Cycle}
use Rattle.joint_machine.specs.declared.names.HNum.{HNum}
use Rattle.joint_machine.specs.declared.lines.Act.{Act}
use Rattle.joint_machine.specs.declared.lines.Act.TheVariants as act
use Rattle.joint_machine.specs.declared.events.Op.{Op}
use Rattle.joint_machine.specs.declared.events.Op.TheVariants as op
use Rattle.joint_machine.specs.declared.events.Reply.{Reply}
use Rattle.joint_machine.specs.declared.events.Reply.TheVariants as says
use Rattle.joint_machine.specs.declared.events.Entry.{Entry}
use Rattle.joint_machine.specs.Control.{Stand, snapped, contracted, weakening, restoring, restored, DriverAllows, IsCandidateHandle}
use Rattle.joint_machine.specs.Histories.{NumberedFrom}
use Rattle.joint_machine.specs.Lines.{is_peer_event}
use Rattle.joint_machine.specs.Linked.{Linkage, linkage_after, SideLawful}
use Rattle.joint_machine.specs.Replaying.{replayed}
use Rattle.joint_machine.specs.Managed.{Managed, handle_of}
use Rattle.joint_machine.specs.ManagedReplay.{ManagedReplay, ManagedAllows}
use Rattle.joint_machine.specs.PeerReplay.{swept}
use Rattle.joint_machine.specs.Peers.{Issued}
use Rattle.joint_machine.specs.Told.{Told, Noted, snap_of, references_of, resolution_of}
use Rattle.joint_machine.specs.Phases.{IsEventOf, IsClear, AreEach, AreTimes}
use Rattle.script_laws.specs.Holding.{next_event, IsOnLine, AreOnLine}
use Rattle.script_laws.proofs.OneNote.{Agree, Allowed, one-note}
use Rattle.known_laws.specs.PastEntries.{entries}
use Rattle.known_laws.proofs.Retelling.{AllPlain, PlainComes, making}

-- two events of one phase that may come in one state are the same
pub same-cycle : (k k' : Cycle) → k.0 ≡ k'.0 → k ≡ k'
same-cycle k k' e = (λ i. record { 0 = e i })

same-handle : (h h' : HNum) → h.0 ≡ h'.0 → h ≡ h'
same-handle h h' e = (λ i. record { 0 = e i })

snap-one : (s : ManagedReplay) (k k' : Cycle) (x y : Told) → ManagedAllows s (op.Snap k) x → ManagedAllows s (op.Snap k') y → k.0 ≡ k'.0
snap-one s k k' (snap_of f c d) (snap_of f' c' d') a b = a.next ∙ sym b.next
snap-one s k k' (snap_of f c d) y a b = absurd b
snap-one s k k' x y a b = absurd a

handle-one : (m : Managed) (i h h' : ℕ) → IsCandidateHandle m i h → IsCandidateHandle m i h' → h ≡ h'
handle-one m i h h' a b =
    let e : a.0 ≡ b.0 = same_Some _ _ (sym a.1 ∙ b.1) in
    same_Some _ _ (sym a.2 ∙ (ap (λ (z : ℕ). handle_of m z) e ∙ b.2))

module _ (m : Managed) (i : List Issued) (r r' : Reply) (c c' : Option ℕ) where
  contract-one : (stand : Stand) (k k' : Cycle) (x y : Told) → DriverAllows stand m i (op.Contract k) r c x → DriverAllows stand m i (op.Contract k') r' c' y → k.0 ≡ k'.0
  contract-one (snapped o) k k' x y a b = sym a.0 ∙ b.0
  contract-one stand k k' x y a b = absurd a

  mirror-one : (stand : Stand) (k k' : Cycle) (x y : Told) → DriverAllows stand m i (op.Mirror k) r c x → DriverAllows stand m i (op.Mirror k') r' c' y → k.0 ≡ k'.0
  mirror-one (contracted o comps heavy xrefs) k k' (references_of x) (references_of y) a b = sym a.0 ∙ b.0
  mirror-one (contracted o comps heavy xrefs) k k' (references_of x) y a b = absurd b
  mirror-one stand k k' x y a b = absurd a

  weaken-one : (stand : Stand) (h h' : HNum) (x y : Told) → DriverAllows stand m i (op.Weaken h) r c x → DriverAllows stand m i (op.Weaken h') r' c' y → h.0 ≡ h'.0
  weaken-one (weakening o count weakened swept) h h' x y a b = handle-one m count h.0 h'.0 a.2 b.2
  weaken-one stand h h' x y a b = absurd a

  restore-one : (stand : Stand) (h h' : HNum) (x y : Told) → DriverAllows stand m i (op.Restore h) r c x → DriverAllows stand m i (op.Restore h') r' c' y → h.0 ≡ h'.0
  restore-one (restoring o answers) h h' x y a b = handle-one m (length answers) h.0 h'.0 a.1 b.1
  restore-one stand h h' x y a b = absurd a

  clear-one : (stand : Stand) (k k' : Cycle) (x y : Told) → DriverAllows stand m i (op.Clear k) r c x → DriverAllows stand m i (op.Clear k') r' c' y → k.0 ≡ k'.0
  clear-one (restoring o answers) k k' x y a b = sym a.2 ∙ b.2
  clear-one stand k k' x y a b = absurd a

  resolve-one : (stand : Stand) (k k' : Cycle) (x y : Told) → DriverAllows stand m i (op.Resolve k) r c x → DriverAllows stand m i (op.Resolve k') r' c' y → k.0 ≡ k'.0
  resolve-one (restored o answers clear) k k' (resolution_of x f) (resolution_of y g) a b = sym a.0 ∙ b.0
  resolve-one (restored o answers clear) k k' (resolution_of x f) y a b = absurd b
  resolve-one stand k k' x y a b = absurd a

-- what may come of the driver
pub record Comes (s : Linkage) (l : ℕ) (o : Op) (r : Reply) (c : Option ℕ) (x : Told) : Type 0 where
  pub order : Allowed s C l o r c x
  pub lawful : SideLawful (is_peer_event C o) s (making C l o r c) x

pub phase-op : (w : PhaseWord) (s : Linkage) (l l' : ℕ) (o o' : Op) (r r' : Reply) (c c' : Option ℕ) (x y : Told) → IsEventOf w o → IsEventOf w o' → Comes s l o r c x → Comes s l' o' r' c' y → o ≡ o'
phase-op word.Snap s l l' (op.Snap k) (op.Snap k') r r' c c' x y p q a b = ap op.Snap (same-cycle k k' (snap-one s.managed k k' x y a.lawful.allowed b.lawful.allowed))
phase-op word.Contract s l l' (op.Contract k) (op.Contract k') r r' c c' x y p q a b =
    ap op.Contract (same-cycle k k' (contract-one s.managed.managed s.peer.peers.issued r r' c c' s.control.stand k k' x y a.order b.order))
phase-op word.Mirror s l l' (op.Mirror k) (op.Mirror k') r r' c c' x y p q a b =
    ap op.Mirror (same-cycle k k' (mirror-one s.managed.managed s.peer.peers.issued r r' c c' s.control.stand k k' x y a.order b.order))
phase-op word.Weaken s l l' (op.Weaken h) (op.Weaken h') r r' c c' x y p q a b =
    ap op.Weaken (same-handle h h' (weaken-one s.managed.managed s.peer.peers.issued r r' c c' s.control.stand h h' x y a.order b.order))
phase-op word.Mark s l l' op.Begin op.Begin r r' c c' x y p q a b = refl
phase-op word.Sweep s l l' op.Sweep op.Sweep r r' c c' x y p q a b = refl
phase-op word.Restore s l l' (op.Restore h) (op.Restore h') r r' c c' x y p q a b =
    ap op.Restore (same-handle h h' (restore-one s.managed.managed s.peer.peers.issued r r' c c' s.control.stand h h' x y a.order b.order))
phase-op word.Resolve s l l' (op.Resolve k) (op.Resolve k') r r' c c' x y p q a b =
    ap op.Resolve (same-cycle k k' (resolve-one s.managed.managed s.peer.peers.issued r r' c c' s.control.stand k k' x y a.order b.order))
phase-op word.Snap s l l' (op.Snap k) o' r r' c c' x y p q a b = absurd q
phase-op word.Contract s l l' (op.Contract k) o' r r' c c' x y p q a b = absurd q
phase-op word.Mirror s l l' (op.Mirror k) o' r r' c c' x y p q a b = absurd q
phase-op word.Weaken s l l' (op.Weaken h) o' r r' c c' x y p q a b = absurd q
phase-op word.Mark s l l' op.Begin o' r r' c c' x y p q a b = absurd q
phase-op word.Sweep s l l' op.Sweep o' r r' c c' x y p q a b = absurd q
phase-op word.Restore s l l' (op.Restore h) o' r r' c c' x y p q a b = absurd q
phase-op word.Resolve s l l' (op.Resolve k) o' r r' c c' x y p q a b = absurd q
phase-op w s l l' o o' r r' c c' x y p q a b = absurd p

pub clear-op : (s : Linkage) (l l' : ℕ) (o o' : Op) (r r' : Reply) (c c' : Option ℕ) (x y : Told) → IsClear o → IsClear o' → Comes s l o r c x → Comes s l' o' r' c' y → o ≡ o'
clear-op s l l' (op.Clear k) (op.Clear k') r r' c c' x y p q a b = ap op.Clear (same-cycle k k' (clear-one s.managed.managed s.peer.peers.issued r r' c c' s.control.stand k k' x y a.order b.order))
clear-op s l l' (op.Clear k) o' r r' c c' x y p q a b = absurd q
clear-op s l l' o o' r r' c c' x y p q a b = absurd p

-- an event that is no refusal
abbrev pub NoRefusal : Op → Type 0
NoRefusal (op.Refused w) = ⊥
NoRefusal o = Unit {0}

pub agree : (o : Op) (r r' : Reply) → NoRefusal o → Agree o r r'
agree (op.Refused w) r r' n = absurd n
agree o r r' n = tt

phase-no : (w : PhaseWord) (o : Op) → IsEventOf w o → NoRefusal o
phase-no word.Snap (op.Refused v) p = p
phase-no word.Contract (op.Refused v) p = p
phase-no word.Mirror (op.Refused v) p = p
phase-no word.Weaken (op.Refused v) p = p
phase-no word.Mark (op.Refused v) p = p
phase-no word.Sweep (op.Refused v) p = p
phase-no word.Restore (op.Refused v) p = p
phase-no word.Resolve (op.Refused v) p = p
phase-no word.Cycle (op.Refused v) p = p
phase-no w o p = tt

clear-no : (o : Op) → IsClear o → NoRefusal o
clear-no (op.Clear k) p = tt
clear-no o p = absurd p

pub next-no : (a : Act) (rs : List Reply) (o : Op) → next_event a rs ≡ Some o → NoRefusal o
next-no a rs (op.Refused w) e = absurd (never a rs w e)
  where
    never : (a : Act) (rs : List Reply) (w : PhaseWord) → next_event a rs ≡ Some (op.Refused w) → ⊥
    never (act.Bridge v kind n sort f) (says.Made p h ∷ []) w e = cc
    never (act.Pass v x) (says.H h ∷ []) w e = cc
    never (act.Surface v x) (says.Gripped p h sort f ∷ []) w e = cc
    never (act.Surface v x) (says.Gripped p h sort f ∷ says.New m ∷ []) w e = cc
    never (act.Surface v x) (says.Gripped p h sort f ∷ reply ∷ []) w e = cc
    never (act.Dispose v) (says.H h ∷ []) w e = cc
    never act.Collect (says.Mark j ∷ []) w e = cc
    never a [] w e = cc
    never a rs w e = cc
next-no a rs o e = tt

-- one note for two entries on one line
abbrev pub OneOn : ℕ → Thread → Entry → Entry → Type 0
OneOn number t e e' = (s : Linkage) (n n' : Noted) → n.entry.number ≡ n'.entry.number → n.entry ≡ e
    → n'.entry ≡ e' → IsOnLine number t e → IsOnLine number t e' → PlainComes s n → PlainComes s n' → n ≡ n'

pub one-op : (number : ℕ) (t : Thread) (e e' : Entry) → e.made.op ≡ e'.made.op → Agree e.made.op e.made.reply e'.made.reply → OneOn number t e e'
one-op number t e e' o g s n n' d i i' p p' a b =
    one-note s n n' d
    (ap (λ (x : Entry). x.made.caller) i ∙ (p.caller ∙ (sym p'.caller ∙ sym (ap (λ (x : Entry). x.made.caller) i'))))
    (ap (λ (x : Entry). x.made.index) i ∙ (p.line ∙ (sym p'.line ∙ sym (ap (λ (x : Entry). x.made.index) i'))))
    (ap (λ (x : Entry). x.made.op) i ∙ (o ∙ sym (ap (λ (x : Entry). x.made.op) i')))
    (subst (λ (x : Entry). Agree x.made.op x.made.reply n'.entry.made.reply) (sym i) (subst (λ (x : Entry). Agree e.made.op e.made.reply x.made.reply) (sym i') g))
    a b

pub comes-of : (s : Linkage) (n : Noted) (e : Entry) → n.entry ≡ e → e.made.caller ≡ C → PlainComes s n → Comes s e.made.index e.made.op e.made.reply e.made.cites n.told
comes-of s n e i c a = by e.made.caller c (subst (λ (x : Entry). PlainComes s (record { entry = x; told = n.told })) i a)
  where
    by : (t : Thread) → t ≡ C → PlainComes s (record { entry = record { number = e.number; made = making t e.made.index e.made.op e.made.reply e.made.cites }; told = n.told })
        → Comes s e.made.index e.made.op e.made.reply e.made.cites n.told
    by C c a = record { order = a.0.order; lawful = a.0.lawful }
    by (M k) c a = absurd (cc)
    by (P k) c a = absurd (cc)

pub one-phase : (number : ℕ) (w : PhaseWord) (e e' : Entry) → IsEventOf w e.made.op → IsEventOf w e'.made.op → OneOn number C e e'
one-phase number w e e' p p' s n n' d i i' q q' a b =
    let o = phase-op w s e.made.index e'.made.index e.made.op e'.made.op e.made.reply e'.made.reply e.made.cites e'.made.cites n.told n'.told p p'
    (comes-of s n e i q.caller a) (comes-of s n' e' i' q'.caller b) in
    one-op number C e e' o (agree e.made.op e.made.reply e'.made.reply (phase-no w e.made.op p)) s n n' d i i' q q' a b

pub one-clear : (number : ℕ) (e e' : Entry) → IsClear e.made.op → IsClear e'.made.op → OneOn number C e e'
one-clear number e e' p p' s n n' d i i' q q' a b =
    let o = clear-op s e.made.index e'.made.index e.made.op e'.made.op e.made.reply e'.made.reply e.made.cites e'.made.cites n.told n'.told p p'
    (comes-of s n e i q.caller a) (comes-of s n' e' i' q'.caller b) in
    one-op number C e e' o (agree e.made.op e.made.reply e'.made.reply (clear-no e.made.op p)) s n n' d i i' q q' a b

-- both lists begin with the same notes, whose entries are the given ones, and go on with the same number
pub record Share (s : Linkage) (ns ns' : List Noted) (own own' rest rest' : List Entry) : Type 0 where
  pub front : List Noted
  pub back : List Noted
  pub back' : List Noted
  pub here : ns ≡ front ++ back
  pub there : ns' ≡ front ++ back'
  pub one : own ≡ own'
  pub left : entries back ≡ rest
  pub left' : entries back' ≡ rest'
  pub next : ℕ
  pub counts : NumberedFrom next (entries back)
  pub counts' : NumberedFrom next (entries back')
  pub come : AllPlain (replayed s front) back
  pub come' : AllPlain (replayed s front) back'

abbrev pub Shares : ℕ → Thread → List Entry → List Entry → Type 0
Shares number t own own' = (k : ℕ) (s : Linkage) (ns ns' : List Noted) (rest rest' : List Entry) → NumberedFrom k (entries ns) → NumberedFrom k (entries ns')
    → AreOnLine number t own → AreOnLine number t own' → entries ns ≡ own ++ rest → entries ns' ≡ own' ++ rest' → AllPlain s ns → AllPlain s ns' → Share s ns ns' own own' rest rest'

pub shares-none : (number : ℕ) (t : Thread) → Shares number t [] []
shares-none number t k s ns ns' rest rest' d d' p p' i i' a b =
    record { front = []; back = ns; back' = ns'; here = refl; there = refl; one = refl; left = i; left' = i'; next = k; counts = d; counts' = d'; come = a; come' = b }

pub shares-cons : (number : ℕ) (t : Thread) (e e' : Entry) (es es' : List Entry) → OneOn number t e e' → (e ≡ e' → Shares number t es es') → Shares number t (e ∷ es) (e' ∷ es')
shares-cons number t e e' es es' one next k s [] ns' rest rest' d d' p p' i i' a b = absurd (cc)
shares-cons number t e e' es es' one next k s (n ∷ ns) [] rest rest' d d' p p' i i' a b = absurd (cc)
shares-cons number t e e' es es' one next k s (n ∷ ns) (n' ∷ ns') rest rest' d d' p p' i i' a b =
    let h : n.entry ≡ e = cc in
    let h' : n'.entry ≡ e' = cc in
    let j : entries ns ≡ es ++ rest = cc in
    let j' : entries ns' ≡ es' ++ rest' = cc in
    let same : n ≡ n' = one s n n' (d.0 ∙ sym d'.0) h h' p.0 p'.0 a.0 b.0 in
    let entry : e ≡ e' = sym h ∙ ((λ i. (same i).entry) ∙ h') in
    let b' = subst (λ (x : Noted). AllPlain (linkage_after s x) ns') (sym same) b.1 in
    let f = next entry (k + 1) (linkage_after s n) ns ns' rest rest' d.1 d'.1 p.1 p'.1 j j' a.1 b' in
    record {
      front = n ∷ f.front;
      back = f.back;
      back' = f.back';
      here = (λ i. n ∷ f.here i);
      there = (λ i. sym same i ∷ f.there i);
      one = (λ i. entry i ∷ f.one i);
      left = f.left;
      left' = f.left';
      next = f.next;
      counts = f.counts;
      counts' = f.counts';
      come = f.come;
      come' = f.come';
    }

on-left : (number : ℕ) (t : Thread) (xs ys : List Entry) → AreOnLine number t (xs ++ ys) → AreOnLine number t xs
on-left number t [] ys a = tt
on-left number t (x ∷ xs) ys a = (a.0, on-left number t xs ys a.1)

on-right : (number : ℕ) (t : Thread) (xs ys : List Entry) → AreOnLine number t (xs ++ ys) → AreOnLine number t ys
on-right number t [] ys a = a
on-right number t (x ∷ xs) ys a = on-right number t xs ys a.1

replayed-append : (s : Linkage) (xs ys : List Noted) → replayed s (xs ++ ys) ≡ replayed (replayed s xs) ys
replayed-append s [] ys = refl
replayed-append s (x ∷ xs) ys = replayed-append (linkage_after s x) xs ys

pub shares-then : (number : ℕ) (t : Thread) (xs xs' ys ys' : List Entry) → Shares number t xs xs' → (xs ≡ xs' → Shares number t ys ys') → Shares number t (xs ++ ys) (xs' ++ ys')
shares-then number t xs xs' ys ys' first next k s ns ns' rest rest' d d' p p' i i' a b =
    let f = first k s ns ns' (ys ++ rest) (ys' ++ rest') d d' (on-left number t xs ys p) (on-left number t xs' ys' p') (i ∙ append_assoc xs ys rest) (i' ∙ append_assoc xs' ys' rest') a b in
    let g = next f.one f.next (replayed s f.front) f.back f.back' rest rest' f.counts f.counts' (on-right number t xs ys p) (on-right number t xs' ys' p') f.left f.left' f.come f.come' in
    let e = replayed-append s f.front g.front in
    record {
      front = f.front ++ g.front;
      back = g.back;
      back' = g.back';
      here = f.here ∙ (ap (λ (l : List Noted). f.front ++ l) g.here ∙ sym (append_assoc f.front g.front g.back));
      there = f.there ∙ (ap (λ (l : List Noted). f.front ++ l) g.there ∙ sym (append_assoc f.front g.front g.back'));
      one = (λ i. f.one i ++ g.one i);
      left = g.left;
      left' = g.left';
      next = g.next;
      counts = g.counts;
      counts' = g.counts';
      come = subst (λ (z : Linkage). AllPlain z g.back) (sym e) g.come;
      come' = subst (λ (z : Linkage). AllPlain z g.back') (sym e) g.come';
    }

pub shares-by : (number : ℕ) (t : Thread) (xs xs' ys ys' : List Entry) → xs ≡ ys → xs' ≡ ys' → Shares number t ys ys' → Shares number t xs xs'
shares-by number t xs xs' ys ys' e e' h = subst (λ (l : List Entry). Shares number t l xs') (sym e) (subst (λ (l : List Entry). Shares number t ys l) (sym e') h)

-- so many events of a phase
each-shares : (number : ℕ) (w : PhaseWord) (es es' : List Entry) → AreEach w es → AreEach w es' → length es ≡ length es' → Shares number C es es'
each-shares number w [] [] a b c = shares-none number C
each-shares number w [] (e' ∷ es') a b c = absurd (cc)
each-shares number w (e ∷ es) [] a b c = absurd (cc)
each-shares number w (e ∷ es) (e' ∷ es') a b c = shares-cons number C e e' es es' (one-phase number w e e' a.0 b.0) (λ same. each-shares number w es es' a.1 b.1 (cc))

pub times-share : (number : ℕ) (w : PhaseWord) (n : ℕ) (es es' : List Entry) → AreTimes w n es → AreTimes w n es' → Shares number C es es'
times-share number w n es es' a b = each-shares number w es es' a.each b.each (a.count ∙ sym b.count)
