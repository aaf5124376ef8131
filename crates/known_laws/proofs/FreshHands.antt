-- A handle that a thread has made or gripped was adopted by nobody. A new handle's number is above all that were
-- issued, and so above all that were adopted; and what another thread adopts is in that thread's hand, where no two
-- threads have the same.
use Rattle.std.proofs.Common.{◌≡◌, ◌⊎◌, inl, inr, ⊎_elim, ℕ, zero, suc, Bool, true, false, ◌||◌, List, [], ◌∷◌, ◌++◌, length, Option, Some, None, refl, subst, arith}
use Rattle.std.specs.Prelude.{Contains, if◌then◌else◌, slice_get}
use Rattle.std.proofs.lemmas.List.Elements.{Contains-append_cases}
use Rattle.joint_machine.specs.declared.names.Thread.{Thread}
use Rattle.joint_machine.specs.declared.names.Thread.TheVariants.{M, P, C}
use Rattle.joint_machine.specs.declared.names.Sort.{Sort}
use Rattle.joint_machine.specs.declared.names.StaticNo.{StaticNo}
use Rattle.joint_machine.specs.declared.events.Op.{Op}
use Rattle.joint_machine.specs.declared.events.Op.TheVariants as op
use Rattle.joint_machine.specs.declared.events.Made.{Made}
use Rattle.joint_machine.specs.declared.events.Reply.{Reply}
use Rattle.joint_machine.specs.declared.events.Reply.TheVariants as says
use Rattle.joint_machine.specs.Control.{Stand, restored, restoring, idle, snapped, contracted, weakening, marked, DriverAllows, CallerAllows, stand_after, answer_in}
use Rattle.joint_machine.specs.Control.{Doing, free, made, lent, gripped, given, met, doing_after, control_after, doing_at}
use Rattle.joint_machine.specs.Heaps.{Answered, answer, is_full, next_number, slot, fields_of}
use Rattle.joint_machine.specs.Lines.{IsEvent, is_peer_event}
use Rattle.joint_machine.specs.Linked.{Linkage, MayCome, SideLawful, opening_linkage, managed_after, linkage_after}
use Rattle.joint_machine.specs.Managed.{Managed}
use Rattle.joint_machine.specs.ManagedReplay.{ManagedReplay, managed_answer, adopt_by, meet_by, give_by}
use Rattle.joint_machine.specs.Peers.{Peers, next_handle, pair_made, peer_gripped, with_handle, with_peer, held, strong, sort_of, handles_full}
use Rattle.joint_machine.specs.Told.{Told, Noted, snap_of, contraction_of, resolution_of, phase_of, handles_given, Answer, said_alive, said_cleared}
use Rattle.joint_machine.proofs.Members.{Contains-nil, Contains-cons_cases}
use Rattle.joint_laws.specs.LinkedInvariants.{doing_in, HasInHand, HasPeer, CallersInvariant, hands, given_at}
use Rattle.joint_laws.proofs.DriverPeers.{made-in_hand}
use Rattle.joint_laws.proofs.Hands.{doing-set_cases, given-apart}
use Rattle.joint_laws.proofs.LinkedEntries.{Of}
use Rattle.joint_laws.proofs.LinkedThreads.{adopt-hand, meet-hand}
use Rattle.known_laws.specs.Driving.{AreFreshHands, AreFreshGiven}
use Rattle.joint_laws.proofs.Renewing.{given-at}
use Rattle.joint_laws.proofs.Restores.{restored-any}
use Rattle.joint_machine.specs.PeerReplay.{PeerReplay, restored_by, row_of}
use Rattle.joint_machine.specs.declared.names.HNum.{HNum}
use Rattle.joint_machine.proofs.Deciding.{none_some}
use Rattle.std.proofs.lemmas.Option.{same_Some}
use Rattle.joint_laws.proofs.LinkedQuiet.{threads-callers}

in_hand : (d : Doing) (h p : ℕ) → HasPeer d h p → HasInHand d h
in_hand (made n line p' h' sort f) h p w = w.0
in_hand (gripped n line p' h' sort f) h p w = w.0
in_hand free h p w = absurd w
in_hand (lent n line h' x) h p w = absurd w
in_hand (given n line h') h p w = absurd w
in_hand (met n line h') h p w = absurd w

-- the handle that an entry may adopt
abbrev IsTaking : Op → Told → ℕ → Type 0
IsTaking (op.Adopt v kind n p h) told g = h.0 ≡ g
IsTaking (op.Meet v sort n p h) told g = h.0 ≡ g
IsTaking (op.Resolve k) (resolution_of answers freed) g = Contains (handles_given answers) g
IsTaking _ told g = ⊥

abbrev Took : List ℕ → List ℕ → Op → Told → Type 0
Took old new o told = (g : ℕ) → Contains new g → Contains old g ⊎ IsTaking o told g

pushed : (xs : List ℕ) (h g : ℕ) → Contains (xs ++ h ∷ []) g → Contains xs g ⊎ (h ≡ g)
pushed xs h g c = ⊎_elim (λ p. inl p) (λ p. ⊎_elim (λ (e : h ≡ g). inr e) (λ q. absurd (Contains-nil g q)) (Contains-cons_cases h [] g p)) (Contains-append_cases xs (h ∷ []) g c)

adopt-took : (r : ManagedReplay) (p h : ℕ) (after : Managed) (reply : Reply) (g : ℕ) → Contains (adopt_by r p h after reply).state.adopted g → Contains r.adopted g ⊎ (h ≡ g)
adopt-took r p h after (says.M m) g c = pushed r.adopted h g c
adopt-took r p h after _ g c = inl c

meet-took : (r : ManagedReplay) (p h : ℕ) (after : Managed) (reply : Reply) (g : ℕ) → Contains (meet_by r p h after reply).state.adopted g → Contains r.adopted g ⊎ (h ≡ g)
meet-took r p h after (says.New m) g c = pushed r.adopted h g c
meet-took r p h after _ g c = inl c

give-took : (r : ManagedReplay) (v : Option ℕ) (a : Answered Managed) → (give_by r v a).state.adopted ≡ r.adopted
give-took r None a = refl
give-took r (Some x) a = refl

took : (r : ManagedReplay) (t : Thread) (o : Op) (told : Told) → Took r.adopted (managed_answer r t o told).state.adopted o told
took r t (op.Line a) told g c = inl c
took r t (op.Adopt v kind n p h) told g c = adopt-took r p.0 h.0 _ _ g c
took r t (op.Meet v sort n p h) told g c = meet-took r p.0 h.0 _ _ g c
took r t (op.Give v) told g c = inl (subst (λ xs. Contains xs g) (give-took r _ _) c)
took r t (op.Snap k) (snap_of freed candidates dead) g c = inl c
took r t (op.Snap k) _ g c = inl c
took r t (op.Contract k) (contraction_of comps heavy xrefs) g c = inl c
took r t (op.Contract k) _ g c = inl c
took r t (op.Resolve k) (resolution_of alive freed) g c = ⊎_elim (λ d. inl d) (λ d. inr d) (Contains-append_cases r.adopted (handles_given alive) g c)
took r t (op.Resolve k) _ g c = inl c
took r t (op.Refused w) (phase_of p) g c = inl c
took r t (op.Refused w) _ g c = inl c
took r t _ told g c = inl c

took_after : (r : ManagedReplay) (m : Made) (told : Told) (b : Bool) → Took r.adopted (managed_after r m told b).adopted m.op told
took_after r m told true g c = inl c
took_after r m told false g c = took r m.caller m.op told g c

-- only a make and a grip give a thread a handle
abbrev IsGiving : Op → Type 0
IsGiving (op.Make sort n) = Unit {0}
IsGiving (op.Grip x) = Unit {0}
IsGiving _ = ⊥

has_none : (num line : ℕ) (o : Op) (reply : Reply) (h p : ℕ) → (IsGiving o → ⊥) → HasPeer (doing_after num line o reply) h p → ⊥
has_none num line (op.Make sort n) reply h p x w = x tt
has_none num line (op.Grip y) reply h p x w = x tt
has_none num line (op.Lend v y) (says.H g) h p x w = w
has_none num line (op.Lend v y) _ h p x w = w
has_none num line (op.Give v) (says.H g) h p x w = w
has_none num line (op.Give v) _ h p x w = w
has_none num line (op.Meet v sort f q g) (says.New m) h p x w = w
has_none num line (op.Meet v sort f q g) _ h p x w = w
has_none num line _ reply h p x w = w

-- and that handle is a new one
made_new : (num line : ℕ) (s : Peers) (sort : Sort) (n : ℕ) (reply : Reply) (h p : ℕ)
    → reply ≡ (pair_made s sort n).reply → HasPeer (doing_after num line (op.Make sort n) reply) h p → next_handle s ≡ h
made_new num line s sort n reply h p e w = by (is_full s.heap.fields || handles_full s) e
  where
    by : (b : Bool) → reply ≡ (if b then answer says.Full s else answer (says.Made record { 0 = next_number s.heap } record { 0 = next_handle s })
        (with_handle (with_peer s sort n) (next_number s.heap) held strong)).reply → next_handle s ≡ h
    by true f = absurd (subst (λ z. HasPeer (doing_after num line (op.Make sort n) z) h p) f w)
    by false f = (subst (λ z. HasPeer (doing_after num line (op.Make sort n) z) h p) f w).0

grip_new : (num line : ℕ) (s : Peers) (x : StaticNo) (o : Option ℕ) (reply : Reply) (h p : ℕ)
    → reply ≡ (peer_gripped s o).reply → HasPeer (doing_after num line (op.Grip x) reply) h p → next_handle s ≡ h
grip_new num line s x None reply h p e w = absurd (subst (λ z. HasPeer (doing_after num line (op.Grip x) z) h p) e w)
grip_new num line s x (Some q) reply h p e w = by (handles_full s) e
  where
    by : (b : Bool) → reply ≡ (if b then answer says.Full s else answer
        (says.Gripped record { 0 = q } record { 0 = next_handle s } (sort_of s q) (length (fields_of s.heap q))) (with_handle s q held strong)).reply → next_handle s ≡ h
    by true f = absurd (subst (λ z. HasPeer (doing_after num line (op.Grip x) z) h p) f w)
    by false f = (subst (λ z. HasPeer (doing_after num line (op.Grip x) z) h p) f w).0

-- a peer thread takes none
peer_takes_none : (u : ℕ) (o : Op) (told : Told) (h : ℕ) → IsEvent (P u) o → IsTaking o told h → ⊥
peer_takes_none u (op.Adopt v kind m p g) told h e d = absurd e.0
peer_takes_none u (op.Meet v sort m p g) told h e d = absurd e.0
peer_takes_none u (op.Resolve c) told h e d = absurd e
peer_takes_none u _ told h e d = d

-- the driver's resolve takes what the restores gave, which no thread has in hand
resolve-takes : (r : ManagedReplay) (s : PeerReplay) (ds : List Doing) (st : Stand) (c : ℕ) (reply : Reply) (cites : Option ℕ) (told : Told) → CallersInvariant r s (hands st ds)
    → DriverAllows st r.managed s.peers.issued (op.Resolve record { 0 = c }) reply cites told → (t h : ℕ) → HasInHand (doing_in ds t) h → IsTaking (op.Resolve record { 0 = c }) told h → ⊥
resolve-takes r s ds (restored o answers clear) c reply cites (resolution_of said freed) k a t h w x = (
    let at = given-at said h x in
    given-apart r s answers ds k at.0 h t (subst (λ z. slice_get z at.0 ≡ Some (said_alive h)) a.2 at.1) w)
resolve-takes r s ds (restored o answers clear) c reply cites told k a t h w x = absurd a
resolve-takes r s ds st c reply cites told k a t h w x = absurd a

driver_takes : (s : Linkage) (reply : Reply) (cites : Option ℕ) → Of s → (o : Op) (told : Told) → IsEvent C o
    → DriverAllows s.control.stand s.managed.managed s.peer.peers.issued o reply cites told → (t h : ℕ) → HasInHand (doing_in s.control.doing t) h → IsTaking o told h → ⊥
driver_takes s reply cites k (op.Adopt v kind m p g) told e a t h w d = absurd e.0
driver_takes s reply cites k (op.Meet v sort m p g) told e a t h w d = absurd e.0
driver_takes s reply cites k (op.Resolve c) told e a t h w d = resolve-takes s.managed s.peer s.control.doing s.control.stand c.0 reply cites told k.callers a t h w d
driver_takes s reply cites k _ told e a t h w d = d

pub fresh-step : (s : Linkage) (n : Noted) → Of s → MayCome s n → AreFreshHands s → AreFreshHands (linkage_after s n)
fresh-step s n k may w = by n.entry.made.caller n.entry.made.op n.told may.event may.lawful may.order
  where
    num : ℕ
    num = n.entry.number

    line : ℕ
    line = n.entry.made.index

    made_of : Thread → Op → Made
    made_of t o = record { caller = t; index = line; op = o; reply = n.entry.made.reply; cites = n.entry.made.cites }

    R : Thread → Op → Told → ManagedReplay
    R t o told = managed_after s.managed (made_of t o) told (is_peer_event t o)

    Allows : Thread → Op → Told → Type 0
    Allows t o told = CallerAllows s.control s.managed.managed s.peer.peers.issued t line o n.entry.made.reply n.entry.made.cites told

    Goal : Thread → Op → Told → Type 0
    Goal t o told = (u h p : ℕ) → HasPeer (doing_at (control_after s.control t num line o n.entry.made.reply told) u) h p → Contains (R t o told).adopted h → ⊥

    took_now : (t : Thread) (o : Op) (told : Told) → Took s.managed.adopted (R t o told).adopted o told
    took_now t o told = took_after s.managed (made_of t o) told (is_peer_event t o)

    -- what a thread takes it has in hand
    hand : (u : ℕ) (o : Op) (told : Told) (h : ℕ) → IsEvent (M u) o → Allows (M u) o told → IsTaking o told h → HasInHand (doing_in s.control.doing u) h
    hand u (op.Adopt v kind f p g) told h e a x = subst (HasInHand (doing_in s.control.doing u)) x
        (made-in_hand (doing_in s.control.doing u) g.0 p.0 (adopt-hand (doing_in s.control.doing u) (M u) line v kind f p g n.entry.made.cites a))
    hand u (op.Meet v sort f p g) told h e a x = subst (HasInHand (doing_in s.control.doing u)) x (meet-hand (doing_in s.control.doing u) (M u) line v p g sort f n.entry.made.cites a).0
    hand u (op.Resolve c) told h e a x = absurd e
    hand u _ told h e a x = absurd x

    -- what a thread is given is new
    new : (u : ℕ) (o : Op) (told : Told) (h p : ℕ) → SideLawful (is_peer_event (M u) o) s (made_of (M u) o) told
        → HasPeer (doing_after num line o n.entry.made.reply) h p → Contains (R (M u) o told).adopted h → ⊥
    new u (op.Make sort f) told h p l x c = let a = k.owners.adopted h c in let e = made_new num line s.peer.peers sort f n.entry.made.reply h p l.replies x in omega (arith, a, e)
    new u (op.Grip y) told h p l x c = let a = k.owners.adopted h c in
        let e = grip_new num line s.peer.peers y (slot s.peer.peers.heap.statics y.0) n.entry.made.reply h p l.replies x in omega (arith, a, e)
    new u o told h p l x c = has_none num line o n.entry.made.reply h p (λ z. z) x

    aside : (t : Thread) (o : Op) (told : Told) → ((v h : ℕ) → HasInHand (doing_in s.control.doing v) h → IsTaking o told h → ⊥)
        → (u h p : ℕ) → HasPeer (doing_at s.control u) h p → Contains (R t o told).adopted h → ⊥
    aside t o told x u h p q c = ⊎_elim (λ d. w u h p q d) (λ d. x u h (in_hand (doing_in s.control.doing u) h p q) d) (took_now t o told h c)

    own : CallersInvariant s.managed s.peer s.control.doing
    own = threads-callers s.managed s.peer s.control.doing s.control.stand k

    by : (t : Thread) (o : Op) (told : Told) → IsEvent t o → SideLawful (is_peer_event t o) s (made_of t o) told → Allows t o told → Goal t o told
    by (M u) o told e l a v h p q c = ⊎_elim
        (λ z. new u o told h p l (subst (λ d. HasPeer d h p) z.1 q) c)
        (λ z.
        let had : HasPeer (doing_in s.control.doing v) h p = subst (λ d. HasPeer d h p) z.0 q in
        ⊎_elim
        (λ d. w v h p had d)
        (λ d. let same = own.apart v u h (in_hand (doing_in s.control.doing v) h p had) (hand u o told h e a d) in subst (λ d. HasPeer d h p) (z.1 same) had)
        (took_now (M u) o told h c))
        (doing-set_cases s.control.doing u (doing_after num line o n.entry.made.reply) v)
    by (P u) o told e l a v h p q c = aside (P u) o told (λ x g r. peer_takes_none u o told g e) v h p q c
    by C o told e l a v h p q c = aside C o told (driver_takes s n.entry.made.reply n.entry.made.cites k o told e a) v h p q c

pub fresh-first : AreFreshHands opening_linkage
fresh-first t h p w c = absurd (Contains-nil h c)

-- a handle that a restore gave is one that an earlier one gave, or this entry's reply
nothing : (i : ℕ) (a : Answer) → slice_get [] i ≡ Some a → ⊥
nothing i a e = none_some a e

after-given : (st : Stand) (num : ℕ) (o : Op) (reply : Reply) (told : Told) → ((h : HNum) → o ≡ op.Restore h → ⊥)
    → (i : ℕ) (a : Answer) → slice_get (given_at (stand_after st num o reply told)) i ≡ Some a → slice_get (given_at st) i ≡ Some a
after-given st num (op.Restore h) reply told x i a e = absurd (x h refl)
after-given st num (op.Snap c) reply told x i a e = absurd (nothing i a e)
after-given st num (op.Resolve c) reply told x i a e = absurd (nothing i a e)
after-given st num (op.Abandon c) reply told x i a e = absurd (nothing i a e)
after-given idle num o reply told x i a e = e
after-given (snapped c) num (op.Contract k) reply (contraction_of comps heavy xrefs) x i a e = e
after-given (snapped c) num o reply told x i a e = e
after-given (contracted c comps heavy xrefs) num o reply told x i a e = e
after-given (weakening c count b d) num o reply told x i a e = e
after-given (marked c) num o reply told x i a e = e
after-given (restoring c answers) num o reply told x i a e = e
after-given (restored c answers clear) num o reply told x i a e = e

pushed-answer : (answers : List Answer) (b : Answer) (i : ℕ) (a : Answer) → slice_get (answers ++ b ∷ []) i ≡ Some a → (slice_get answers i ≡ Some a) ⊎ (b ≡ a)
pushed-answer [] b zero a e = inr (same_Some b a e)
pushed-answer [] b (suc i) a e = absurd (nothing i a e)
pushed-answer (x ∷ answers) b zero a e = inl e
pushed-answer (x ∷ answers) b (suc i) a e = pushed-answer answers b i a e

restore-given : (st : Stand) (num : ℕ) (h : HNum) (reply : Reply) (told : Told) (i : ℕ) (a : Answer)
    → slice_get (given_at (stand_after st num (op.Restore h) reply told)) i ≡ Some a → (slice_get (given_at st) i ≡ Some a) ⊎ (answer_in reply ≡ a)
restore-given (restoring c answers) num h reply told i a e = pushed-answer answers (answer_in reply) i a e
restore-given st num h reply told i a e = inl e

-- a restore gives no handle but a new one
restore-new : (s : PeerReplay) (h g : ℕ) (reply : Reply) → reply ≡ (restored_by s h (row_of s h)).reply → answer_in reply ≡ said_alive g → next_handle s.peers ≡ g
restore-new s h g reply e f = restored-any (λ a. (z : Reply) → z ≡ a.reply → answer_in z ≡ said_alive g → next_handle s.peers ≡ g) s h (row_of s h)
    cleared cleared (λ p z q r. let w : said_alive (next_handle s.peers) ≡ said_alive g = subst (λ x. answer_in x ≡ said_alive g) q r in cc) reply e f
  where
    cleared : (z : Reply) → z ≡ says.Cleared → answer_in z ≡ said_alive g → next_handle s.peers ≡ g
    cleared z q r = absurd (let w : said_cleared ≡ said_alive g = subst (λ x. answer_in x ≡ said_alive g) q r in cc)

pub given-step : (s : Linkage) (n : Noted) → Of s → MayCome s n → AreFreshGiven s → AreFreshGiven (linkage_after s n)
given-step s n k may w = by n.entry.made.caller n.entry.made.op n.told may.event may.lawful may.order
  where
    num : ℕ
    num = n.entry.number

    line : ℕ
    line = n.entry.made.index

    made_of : Thread → Op → Made
    made_of t o = record { caller = t; index = line; op = o; reply = n.entry.made.reply; cites = n.entry.made.cites }

    R : Thread → Op → Told → ManagedReplay
    R t o told = managed_after s.managed (made_of t o) told (is_peer_event t o)

    Allows : Thread → Op → Told → Type 0
    Allows t o told = CallerAllows s.control s.managed.managed s.peer.peers.issued t line o n.entry.made.reply n.entry.made.cites told

    Goal : Thread → Op → Told → Type 0
    Goal t o told = (i g : ℕ) → slice_get (given_at (control_after s.control t num line o n.entry.made.reply told).stand) i ≡ Some (said_alive g) → Contains (R t o told).adopted g → ⊥

    took_now : (t : Thread) (o : Op) (told : Told) → Took s.managed.adopted (R t o told).adopted o told
    took_now t o told = took_after s.managed (made_of t o) told (is_peer_event t o)

    apart : (i g t : ℕ) → slice_get (given_at s.control.stand) i ≡ Some (said_alive g) → HasInHand (doing_in s.control.doing t) g → ⊥
    apart i g t e x = given-apart s.managed s.peer (given_at s.control.stand) s.control.doing k.callers i g t e x

    new : (h : HNum) (told : Told) (g : ℕ) → SideLawful (is_peer_event C (op.Restore h)) s (made_of C (op.Restore h)) told
        → answer_in n.entry.made.reply ≡ said_alive g → Contains s.managed.adopted g → ⊥
    new h told g l f c = let a = k.owners.adopted g c in let e = restore-new s.peer h.0 g n.entry.made.reply l.replies f in omega (arith, a, e)

    driven : (o : Op) (told : Told) → IsEvent C o → SideLawful (is_peer_event C o) s (made_of C o) told → Allows C o told → Goal C o told
    driven (op.Restore h) told e l a i g f c = ⊎_elim (λ q. w i g q c) (λ q. new h told g l q c) (restore-given s.control.stand num h n.entry.made.reply told i (said_alive g) f)
    driven (op.Resolve h) told e l a i g f c = nothing i (said_alive g) f
    driven (op.Adopt v kind m p h) told e l a i g f c = absurd e.0
    driven (op.Meet v sort m p h) told e l a i g f c = absurd e.0
    driven o told e l a i g f c = ⊎_elim (λ q. w i g (after-given s.control.stand num o n.entry.made.reply told (λ h x. absurd (cc)) i (said_alive g) f) q) (λ q. q) (took_now C o told g c)

    by : (t : Thread) (o : Op) (told : Told) → IsEvent t o → SideLawful (is_peer_event t o) s (made_of t o) told → Allows t o told → Goal t o told
    by (M u) o told e l a i g f c = ⊎_elim (λ q. w i g f q) (λ q. apart i g u f (hand u o told e a q)) (took_now (M u) o told g c)
      where
        hand : (u : ℕ) (o : Op) (told : Told) → IsEvent (M u) o → Allows (M u) o told → IsTaking o told g → HasInHand (doing_in s.control.doing u) g
        hand u (op.Adopt v kind f p h) told e a x = subst (HasInHand (doing_in s.control.doing u)) x
            (made-in_hand (doing_in s.control.doing u) h.0 p.0 (adopt-hand (doing_in s.control.doing u) (M u) line v kind f p h n.entry.made.cites a))
        hand u (op.Meet v sort f p h) told e a x = subst (HasInHand (doing_in s.control.doing u)) x (meet-hand (doing_in s.control.doing u) (M u) line v p h sort f n.entry.made.cites a).0
        hand u (op.Resolve c) told e a x = absurd e
        hand u _ told e a x = absurd x
    by (P u) o told e l a i g f c = ⊎_elim (λ q. w i g f q) (λ q. peer_takes_none u o told g e q) (took_now (P u) o told g c)
    by C o told e l a i g f c = driven o told e l a i g f c
