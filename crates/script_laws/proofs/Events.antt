-- The events of one state with the same words are the same: those of a phase since the state has one, those of a thread
-- by what its words and the state tell, and a refusal and a `finalise` by their words.
use Rattle.std.proofs.Common.{◌≡◌, ℕ, zero, suc, ◌≤◌, ◌⊎◌, inl, inr, List, [], get_or, codes, decimal, Option, refl, sym, ◌∙◌, ap, arith}
use Rattle.std.specs.Prelude.{if◌then◌else◌}
use Rattle.joint_machine.specs.declared.names.Cycle.{Cycle}
use Rattle.joint_machine.specs.declared.names.HNum.{HNum}
use Rattle.joint_machine.specs.declared.names.Kind.{Kind}
use Rattle.joint_machine.specs.declared.names.Kind.TheVariants as kind
use Rattle.joint_machine.specs.declared.names.PNum.{PNum}
use Rattle.joint_machine.specs.declared.names.Sort.{Sort}
use Rattle.joint_machine.specs.declared.names.StaticNo.{StaticNo}
use Rattle.joint_machine.specs.declared.names.Var.{Var}
use Rattle.joint_machine.specs.declared.names.PhaseWord.{PhaseWord}
use Rattle.joint_machine.specs.declared.names.PhaseWord.TheVariants as word
use Rattle.joint_machine.specs.declared.names.Thread.{Thread}
use Rattle.joint_machine.specs.declared.names.Thread.TheVariants.{M, P, C}
use Rattle.joint_machine.specs.declared.lines.Act.{Act}
use Rattle.joint_machine.specs.declared.lines.Act.TheVariants as act
use Rattle.joint_machine.specs.declared.events.Op.{Op}
use Rattle.joint_machine.specs.declared.events.Op.TheVariants as op
use Rattle.joint_machine.specs.declared.events.Reply.{Reply}
use Rattle.joint_machine.specs.Control.{Doing, free, made, lent, gripped, given, met, doing_at, Stand, snapped, contracted, ThreadAllows, DriverAllows}
use Rattle.joint_machine.specs.Lines.{IsPlainObject, IsBridgeObject, IsManagedAct, IsPeerAct, IsOneEvent, IsEvent, IsThread, IsPeerThread, IsDriver}
use Rattle.joint_machine.specs.Linked.{Linkage}
use Rattle.joint_machine.specs.Managed.{Managed}
use Rattle.joint_machine.specs.Peers.{Issued}
use Rattle.joint_machine.specs.Told.{Told}
use Rattle.bridge_script.specs.Words.{phase_word_text}
use Rattle.history_report.specs.Report.{event_words}
use Rattle.text_words.proofs.Decimals.{decimal-one}
use Rattle.script_laws.proofs.Reading.{Names, is_word, code}
use Rattle.script_laws.proofs.Known.{IsBounded, IsKnown, same-event}
use Rattle.script_laws.proofs.OneNote.{Allowed}
use Rattle.script_laws.proofs.Sharing.{Comes, phase-op, clear-op, same-cycle}

-- the peer and the handle that a managed thread is in the midst of
abbrev peer_in : Doing → ℕ
peer_in (made n line p h sort f) = p
peer_in (gripped n line p h sort f) = p
peer_in d = 0

abbrev handle_in : Doing → ℕ
handle_in free = 0
handle_in (made n line p h sort f) = h
handle_in (lent n line h x) = h
handle_in (gripped n line p h sort f) = h
handle_in (given n line h) = h
handle_in (met n line h) = h

abbrev doing_of : Linkage → Thread → Doing
doing_of s (M t) = doing_at s.control t
doing_of s (P t) = free
doing_of s C = free

-- what the state says of a thread's next event
abbrev names_of : Linkage → Thread → Names
names_of s t = record { peer = peer_in (doing_of s t); handle = handle_in (doing_of s t) }

plain-fields : (k : Kind) (n : ℕ) → IsPlainObject k n → n ≤ 16
plain-fields kind.Plain n h = h
plain-fields kind.Leaf n h = omega (arith, h)
plain-fields k n h = absurd h

bridge-fields : (k : Kind) (n : ℕ) (s : Sort) → IsBridgeObject k n s → n ≤ 16
bridge-fields kind.Bridge n s h = h.0
bridge-fields kind.LeafBridge n s h = omega (arith, h)
bridge-fields k n s h = absurd h

managed-bounded : (a : Act) → IsManagedAct a → IsOneEvent a → IsBounded a
managed-bounded (act.New v k n) h o = (h.0, plain-fields k n h.1)
managed-bounded (act.Copy v w) h o = h
managed-bounded (act.Set v i w) h o = h
managed-bounded (act.Get v w i) h o = h
managed-bounded (act.Drop v) h o = h
managed-bounded (act.Load v x) h o = h
managed-bounded (act.Store x v) h o = h
managed-bounded (act.Weak k v) h o = h
managed-bounded (act.Read k) h o = h
managed-bounded (act.Await k) h o = h
managed-bounded (act.Take v) h o = h
managed-bounded (act.Handle v) h o = h
managed-bounded (act.Bridge v k n s f) h o = o
managed-bounded (act.Pass v x) h o = o
managed-bounded (act.Surface v x) h o = o
managed-bounded (act.Dispose v) h o = o
managed-bounded a h o = absurd h

peer-bounded : (a : Act) → IsPeerAct a → IsOneEvent a → IsBounded a
peer-bounded (act.Copy v w) h o = h
peer-bounded (act.Set v i w) h o = h
peer-bounded (act.Get v w i) h o = h
peer-bounded (act.Drop v) h o = h
peer-bounded (act.Load v x) h o = h
peer-bounded (act.Store x v) h o = h
peer-bounded (act.NewPeer v n) h o = h
peer-bounded (act.Global g v) h o = h
peer-bounded (act.WGlobal g v) h o = h
peer-bounded (act.UnGlobal g) h o = h
peer-bounded (act.WRead v g) h o = h
peer-bounded (act.Slice n) h o = h.1
peer-bounded act.Collect h o = o
peer-bounded act.BeginMark h o = o
peer-bounded act.SweepMark h o = o
peer-bounded a h o = absurd h

-- the names of the later event of an operation
record HasNames (d : Doing) (p h : ℕ) : Type 0 where
  pub peer : peer_in d ≡ p
  pub handle : handle_in d ≡ h

adopt-names : (d : Doing) (t : Thread) (l : ℕ) (v : Var) (kind : Kind) (k : ℕ) (p : PNum) (h : HNum) (c : Option ℕ) → ThreadAllows d t l (op.Adopt v kind k p h) c → HasNames d p.0 h.0
adopt-names (made n line p' h' sort f) t l v kind k p h c a = record { peer = sym a.2; handle = sym a.3 }
adopt-names d t l v kind k p h c a = absurd a

meet-names : (d : Doing) (t : Thread) (l : ℕ) (v : Var) (p : PNum) (h : HNum) (sort : Sort) (f : ℕ) (c : Option ℕ) → ThreadAllows d t l (op.Meet v sort f p h) c → HasNames d p.0 h.0
meet-names (gripped n line p' h' sort' f') t l v p h sort f c a = record { peer = sym a.2; handle = sym a.3 }
meet-names d t l v p h sort f c a = absurd a

land-handle : (d : Doing) (t : Thread) (l : ℕ) (h : HNum) (x : StaticNo) (c : Option ℕ) → ThreadAllows d t l (op.Land h x) c → handle_in d ≡ h.0
land-handle (lent n line h' x') t l h x c a = sym a.2
land-handle d t l h x c a = absurd a

release-handle : (d : Doing) (t : Thread) (l : ℕ) (h : HNum) (c : Option ℕ) → ThreadAllows d t l (op.Release h) c → handle_in d ≡ h.0
release-handle (given n line h') t l h c a = sym a.2
release-handle (met n line h') t l h c a = sym a.2
release-handle d t l h c a = absurd a

-- an event of a managed thread, of a peer thread and of the driver
managed-known : (s : Linkage) (n l : ℕ) (o : Op) (r : Reply) (c : Option ℕ) (x : Told) → IsEvent (M n) o → Allowed s (M n) l o r c x → IsKnown (names_of s (M n)) o
managed-known s n l (op.Line a) r c x e w = managed-bounded a e.0.1 e.1
managed-known s n l (op.Make k f) r c x e w = e.1
managed-known s n l (op.Adopt v k f p h) r c x e w =
    let m = adopt-names (doing_at s.control n) (M n) l v k f p h c w in
    (e.1, bridge-fields k f e.2.0 e.2.1, m.peer, m.handle)
managed-known s n l (op.Lend v y) r c x e w = (e.1, e.2)
managed-known s n l (op.Land h y) r c x e w = (land-handle (doing_at s.control n) (M n) l h y c w, e.1)
managed-known s n l (op.Grip y) r c x e w = e.1
managed-known s n l (op.Meet v k f p h) r c x e w =
    let m = meet-names (doing_at s.control n) (M n) l v p h k f c w in
    (e.1, e.2, m.peer, m.handle)
managed-known s n l (op.Give v) r c x e w = e.1
managed-known s n l (op.Release h) r c x e w = release-handle (doing_at s.control n) (M n) l h c w
managed-known s n l op.Begin r c x e w = tt
managed-known s n l op.Sweep r c x e w = tt
managed-known s n l o r c x e w = absurd e

peer-known : (s : Linkage) (n : ℕ) (o : Op) → IsEvent (P n) o → IsKnown (names_of s (P n)) o
peer-known s n (op.Line a) e = peer-bounded a e.0.1 e.1
peer-known s n (op.Make k f) e = absurd e.0
peer-known s n (op.Adopt v k f p h) e = absurd e.0
peer-known s n (op.Lend v y) e = absurd e.0
peer-known s n (op.Land h y) e = absurd e.0
peer-known s n (op.Grip y) e = absurd e.0
peer-known s n (op.Meet v k f p h) e = absurd e.0
peer-known s n (op.Give v) e = absurd e.0
peer-known s n op.Begin e = tt
peer-known s n op.Sweep e = tt
peer-known s n o e = absurd e

-- the driver's own events by the first word
abbrev tag_of : Op → ℕ
tag_of (op.Snap k) = 1
tag_of (op.Contract k) = 2
tag_of (op.Mirror k) = 3
tag_of (op.Weaken h) = 4
tag_of (op.Restore h) = 5
tag_of (op.Clear k) = 6
tag_of (op.Resolve k) = 7
tag_of (op.Abandon k) = 8
tag_of (op.Refused w) = 9
tag_of o = 0

abbrev tag_word : List ℕ → ℕ
tag_word w = if is_word w (codes "snap") then 1
    else (if is_word w (codes "contract") then 2
    else (if is_word w (codes "mirror") then 3
    else (if is_word w (codes "weaken") then 4
    else (if is_word w (codes "restore") then 5
    else (if is_word w (codes "clear") then 6
    else (if is_word w (codes "resolve") then 7
    else (if is_word w (codes "abandon") then 8
    else (if is_word w (codes "refused") then 9 else 0))))))))

abbrev tag_words : List (List ℕ) → ℕ
tag_words ws = tag_word (get_or ws 0 [])

tag-words : (t : Thread) (o : Op) → IsEvent t o → tag_words (event_words t o) ≡ tag_of o
tag-words t (op.Line (act.PhaseLine w)) e = absurd e.1
tag-words t (op.Line a) e = refl
tag-words t o e = refl

same-tag : (t : Thread) (o o' : Op) → IsEvent t o → IsEvent t o' → event_words t o ≡ event_words t o' → tag_of o ≡ tag_of o'
same-tag t o o' a b e = sym (tag-words t o a) ∙ (ap tag_words e ∙ tag-words t o' b)

-- the word of a refusal
abbrev word_of : List ℕ → PhaseWord
word_of w = if is_word w (codes "cycle") then word.Cycle
    else (if is_word w (codes "snap") then word.Snap
    else (if is_word w (codes "contract") then word.Contract
    else (if is_word w (codes "mirror") then word.Mirror
    else (if is_word w (codes "weaken") then word.Weaken
    else (if is_word w (codes "mark") then word.Mark
    else (if is_word w (codes "sweep") then word.Sweep
    else (if is_word w (codes "restore") then word.Restore else word.Resolve)))))))

word-read : (w : PhaseWord) → word_of (phase_word_text w) ≡ w
word-read word.Cycle = refl
word-read word.Snap = refl
word-read word.Contract = refl
word-read word.Mirror = refl
word-read word.Weaken = refl
word-read word.Mark = refl
word-read word.Sweep = refl
word-read word.Restore = refl
word-read word.Resolve = refl

word-one : (w v : PhaseWord) → phase_word_text w ≡ phase_word_text v → w ≡ v
word-one w v e = sym (word-read w) ∙ (ap word_of e ∙ word-read v)

abandon-one : (stand : Stand) (m : Managed) (i : List Issued) (k k' : Cycle) (r r' : Reply) (c c' : Option ℕ) (x y : Told)
    → DriverAllows stand m i (op.Abandon k) r c x → DriverAllows stand m i (op.Abandon k') r' c' y → k.0 ≡ k'.0
abandon-one (snapped o) m i k k' r r' c c' x y a b = sym a.0 ∙ b.0
abandon-one (contracted o comps heavy xrefs) m i k k' r r' c c' x y a b = sym a.0 ∙ b.0
abandon-one stand m i k k' r r' c c' x y a b = absurd a

-- the driver's own events
driver-one : (s : Linkage) (l l' : ℕ) (o o' : Op) (r r' : Reply) (c c' : Option ℕ) (x y : Told) → tag_of o ≡ tag_of o'
    → event_words C o ≡ event_words C o' → Comes s l o r c x → Comes s l' o' r' c' y → (tag_of o ≡ 0 → ⊥) → o ≡ o'
driver-one s l l' (op.Snap k) (op.Snap k') r r' c c' x y t e a b z = phase-op word.Snap s l l' (op.Snap k) (op.Snap k') r r' c c' x y tt tt a b
driver-one s l l' (op.Contract k) (op.Contract k') r r' c c' x y t e a b z = phase-op word.Contract s l l' (op.Contract k) (op.Contract k') r r' c c' x y tt tt a b
driver-one s l l' (op.Mirror k) (op.Mirror k') r r' c c' x y t e a b z = phase-op word.Mirror s l l' (op.Mirror k) (op.Mirror k') r r' c c' x y tt tt a b
driver-one s l l' (op.Weaken h) (op.Weaken h') r r' c c' x y t e a b z = phase-op word.Weaken s l l' (op.Weaken h) (op.Weaken h') r r' c c' x y tt tt a b
driver-one s l l' (op.Restore h) (op.Restore h') r r' c c' x y t e a b z = phase-op word.Restore s l l' (op.Restore h) (op.Restore h') r r' c c' x y tt tt a b
driver-one s l l' (op.Clear k) (op.Clear k') r r' c c' x y t e a b z = clear-op s l l' (op.Clear k) (op.Clear k') r r' c c' x y tt tt a b
driver-one s l l' (op.Resolve k) (op.Resolve k') r r' c c' x y t e a b z = phase-op word.Resolve s l l' (op.Resolve k) (op.Resolve k') r r' c c' x y tt tt a b
driver-one s l l' (op.Abandon k) (op.Abandon k') r r' c c' x y t e a b z =
    ap op.Abandon (same-cycle k k' (abandon-one s.control.stand s.managed.managed s.peer.peers.issued k k' r r' c c' x y a.order b.order))
driver-one s l l' (op.Refused w) (op.Refused v) r r' c c' x y t e a b z = ap op.Refused (word-one w v (ap (λ (ws : List (List ℕ)). get_or ws 1 []) e))
driver-one s l l' (op.Snap k) o' r r' c c' x y t e a b z = absurd (omega (arith, t))
driver-one s l l' (op.Contract k) o' r r' c c' x y t e a b z = absurd (omega (arith, t))
driver-one s l l' (op.Mirror k) o' r r' c c' x y t e a b z = absurd (omega (arith, t))
driver-one s l l' (op.Weaken h) o' r r' c c' x y t e a b z = absurd (omega (arith, t))
driver-one s l l' (op.Restore h) o' r r' c c' x y t e a b z = absurd (omega (arith, t))
driver-one s l l' (op.Clear k) o' r r' c c' x y t e a b z = absurd (omega (arith, t))
driver-one s l l' (op.Resolve k) o' r r' c c' x y t e a b z = absurd (omega (arith, t))
driver-one s l l' (op.Abandon k) o' r r' c c' x y t e a b z = absurd (omega (arith, t))
driver-one s l l' (op.Refused w) o' r r' c c' x y t e a b z = absurd (omega (arith, t))
driver-one s l l' o o' r r' c c' x y t e a b z = absurd (z refl)

-- the driver's other events: a begin, a sweep, and a `finalise`
data View (o : Op) : Type 0 where
  begins : o ≡ op.Begin → View o
  sweeps : o ≡ op.Sweep → View o
  takes : (n : ℕ) → n ≤ 65535 → o ≡ op.Line (act.Finalise n) → View o

view : (s : Linkage) (l : ℕ) (o : Op) (r : Reply) (c : Option ℕ) (x : Told) → tag_of o ≡ 0 → IsEvent C o → Comes s l o r c x → View o
view s l op.Begin r c x z v a = begins refl
view s l op.Sweep r c x z v a = sweeps refl
view s l (op.Line (act.Finalise n)) r c x z v a = takes n v.0.1 refl
view s l (op.Line (act.PhaseLine w)) r c x z v a = absurd v.1
view s l (op.Line q) r c x z v a = absurd v.0
view s l (op.Snap k) r c x z v a = absurd (omega (arith, z))
view s l (op.Contract k) r c x z v a = absurd (omega (arith, z))
view s l (op.Mirror k) r c x z v a = absurd (omega (arith, z))
view s l (op.Weaken h) r c x z v a = absurd (omega (arith, z))
view s l (op.Restore h) r c x z v a = absurd (omega (arith, z))
view s l (op.Clear k) r c x z v a = absurd (omega (arith, z))
view s l (op.Resolve k) r c x z v a = absurd (omega (arith, z))
view s l (op.Abandon k) r c x z v a = absurd (omega (arith, z))
view s l (op.Refused w) r c x z v a = absurd (omega (arith, z))
view s l o r c x z v a = absurd a.order

abbrev first_code : Op → ℕ
first_code o = code (get_or (event_words C o) 0 [])

first-same : (o o' u v : Op) → event_words C o ≡ event_words C o' → o ≡ u → o' ≡ v → first_code u ≡ first_code v
first-same o o' u v e p q = sym (ap first_code p) ∙ (ap (λ (ws : List (List ℕ)). code (get_or ws 0 [])) e ∙ ap first_code q)

views : (o o' : Op) → event_words C o ≡ event_words C o' → View o → View o' → o ≡ o'
views o o' e (begins p) (begins q) = p ∙ sym q
views o o' e (sweeps p) (sweeps q) = p ∙ sym q
views o o' e (takes n h p) (takes m k q) =
    let w : decimal n ≡ decimal m = sym (ap (λ (z : Op). get_or (event_words C z) 1 []) p) ∙ (ap (λ (ws : List (List ℕ)). get_or ws 1 []) e ∙ ap (λ (z : Op). get_or (event_words C z) 1 []) q) in
    p ∙ (ap (λ (z : ℕ). op.Line (act.Finalise z)) (decimal-one n m (omega (arith, h)) w) ∙ sym q)
views o o' e (begins p) (sweeps q) = absurd (let z = first-same o o' op.Begin op.Sweep e p q in omega (arith, z))
views o o' e (sweeps p) (begins q) = absurd (let z = first-same o o' op.Sweep op.Begin e p q in omega (arith, z))
views o o' e (begins p) (takes m k q) = absurd (let z = first-same o o' op.Begin (op.Line (act.Finalise m)) e p q in omega (arith, z))
views o o' e (takes m k p) (begins q) = absurd (let z = first-same o o' (op.Line (act.Finalise m)) op.Begin e p q in omega (arith, z))
views o o' e (sweeps p) (takes m k q) = absurd (let z = first-same o o' op.Sweep (op.Line (act.Finalise m)) e p q in omega (arith, z))
views o o' e (takes m k p) (sweeps q) = absurd (let z = first-same o o' (op.Line (act.Finalise m)) op.Sweep e p q in omega (arith, z))

-- two events of one state and caller with the same words
driver-same : (s : Linkage) (l l' : ℕ) (o o' : Op) (r r' : Reply) (c c' : Option ℕ) (x y : Told) → IsEvent C o
    → IsEvent C o' → event_words C o ≡ event_words C o' → Comes s l o r c x → Comes s l' o' r' c' y → o ≡ o'
driver-same s l l' o o' r r' c c' x y v v' e a b = by (tag_of o) refl
  where
    by : (n : ℕ) → tag_of o ≡ n → o ≡ o'
    by zero z = views o o' e (view s l o r c x z v a) (view s l' o' r' c' y (sym (same-tag C o o' v v' e) ∙ z) v' b)
    by (suc n) z = driver-one s l l' o o' r r' c c' x y (same-tag C o o' v v' e) e a b (λ q. omega (arith, q, z))

pub words-same : (t : Thread) (s : Linkage) (l l' : ℕ) (o o' : Op) (r r' : Reply) (c c' : Option ℕ) (x y : Told)
    → IsEvent t o → IsEvent t o' → event_words t o ≡ event_words t o' → Allowed s t l o r c x → Allowed s t l' o' r' c' y
    → (t ≡ C → Comes s l o r c x × Comes s l' o' r' c' y) → o ≡ o'
words-same C s l l' o o' r r' c c' x y v v' e a b d = driver-same s l l' o o' r r' c c' x y v v' e (d refl).0 (d refl).1
words-same (M n) s l l' o o' r r' c c' x y v v' e a b d = same-event (names_of s (M n)) (M n) o o' (managed-known s n l o r c x v a) (managed-known s n l' o' r' c' y v' b) e
words-same (P n) s l l' o o' r r' c c' x y v v' e a b d = same-event (names_of s (P n)) (P n) o o' (peer-known s n o v) (peer-known s n o' v') e

of-peer : (t : Thread) → IsPeerThread t ⊎ IsDriver t → IsThread t
of-peer (M n) (inl h) = absurd h
of-peer (M n) (inr h) = absurd h
of-peer (P n) (inl h) = h
of-peer (P n) (inr h) = absurd h
of-peer C h = tt
