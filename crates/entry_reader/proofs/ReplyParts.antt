-- Which replies without a list the words that are left are. Each reading looks at the words one behind another, and
-- where it gives up no reply of its kind has them: shown kind by kind, over the words that were taken.
use Rattle.std.proofs.Common.{◌≡◌, ◌≢◌, ℕ, ◌<◌, ◌^◌, ◌⊎◌, inl, inr, List, [], ◌∷◌, ◌++◌, Option, Some, None, codes, decimal, refl, sym, ap, ◌∙◌, subst, arith}
use Rattle.std.specs.Cmp.Lexicographic.{other_text}
use Rattle.std.proofs.lemmas.Fmt.{decimal_injective}
use Rattle.joint_machine.specs.declared.names.MNum.{MNum}
use Rattle.joint_machine.specs.declared.names.PNum.{PNum}
use Rattle.joint_machine.specs.declared.names.HNum.{HNum}
use Rattle.joint_machine.specs.declared.names.Sort.{Sort}
use Rattle.joint_machine.specs.declared.names.Phase.{Phase}
use Rattle.joint_machine.specs.declared.events.Reply.{Reply}
use Rattle.joint_machine.specs.declared.events.Reply.TheVariants as reply
use Rattle.bridge_script.specs.Words.{sort_text}
use Rattle.history_report.specs.Report.{managed_text, peer_text, handle_text, phase_text, reply_words, cite_words}
use Rattle.entry_reader.specs.Fitting.{Short, FitsReply, FitsCites}
use Rattle.entry_reader.specs.Replies.{IsPlain, IsManaged, IsPeer, IsHandle, IsKeyed, IsCount, IsNew, IsHeld, IsComponents, IsCounted, IsEnd, Ends, EndsAs}

-- the words aren't what a line may cite
abbrev pub NoCites : List (List ℕ) → Type 0
NoCites words = (c : Option ℕ) → FitsCites c → words ≢ cite_words c

-- words that aren't a citation alone
pub no_citation : (words rest : List (List ℕ)) (w : List ℕ) → words ≡ w ∷ rest → ((n : ℕ) → n < 2 ^ 64 → 64 ∷ decimal n ≢ w) → NoCites words
no_citation words rest w e n None f q = (let a = e in let b = q in cc)
no_citation words rest w e n (Some m) f q = n m f (let a = e in let b = q in cc)

pub more_behind : (words rest : List (List ℕ)) (w : List ℕ) → words ≡ w ∷ rest → rest ≢ [] → NoCites words
more_behind words rest w e n None f q = (let a = e in let b = q in cc)
more_behind words rest w e n (Some m) f q = n (let a = e in let b = q in cc)

-- no reply of a kind has the words
abbrev pub NoEnd : (Reply → Type 0) → List (List ℕ) → Type 0
NoEnd kind words = (r : Reply) (c : Option ℕ) → kind r → IsEnd words r c → ⊥

-- a reply was read to the end of the line
pub ended : (kind : Reply → Type 0) (words rest : List (List ℕ)) (r : Reply) (t : Reply × Option ℕ) → kind r → FitsReply r
    → words ≡ reply_words r ++ rest → (t.0 ≡ r) × FitsCites t.1 × (rest ≡ cite_words t.1) → kind t.0 × IsEnd words t.0 t.1
ended kind words rest r t k f e h =
    let same : r ≡ t.0 = sym h.0 in
    let F : Reply → Type 0 = λ z. FitsReply z in
    let W : Reply → Type 0 = λ z. words ≡ reply_words z ++ rest in
    (subst kind same k, record { fits = subst F same f; cites = h.1; same = subst W same e ∙ ap (λ z. reply_words t.0 ++ z) h.2 })

-- or what stands behind it isn't what a line may cite
pub ends_by : (kind : Reply → Type 0) (words rest : List (List ℕ)) (r : Reply) (result : Option (Reply × Option ℕ)) → kind r
    → FitsReply r → words ≡ reply_words r ++ rest → (NoCites rest → NoEnd kind words) → EndsAs r rest result → Ends kind words result
ends_by kind words rest r None k f e n h = n h
ends_by kind words rest r (Some t) k f e n h = ended kind words rest r t k f e h

-- a word that is none of the plain ones
pub record NotPlain (w : List ℕ) : Type 0 where
  pub ok : w ≢ codes "ok"
  pub empty : w ≢ codes "empty"
  pub range : w ≢ codes "range"
  pub null : w ≢ codes "null"
  pub taken : w ≢ codes "taken"
  pub gone : w ≢ codes "gone"
  pub unset : w ≢ codes "unset"
  pub full : w ≢ codes "full"
  pub plain : w ≢ codes "plain"
  pub nomark : w ≢ codes "nomark"
  pub more : w ≢ codes "more"
  pub done : w ≢ codes "done"
  pub cleared : w ≢ codes "cleared"

-- is no plain reply
pub no_plain : (w : List ℕ) → NotPlain w → (r : Reply) → IsPlain r → reply_words r ≢ w ∷ []
no_plain w n reply.Ok k e = n.ok (cc)
no_plain w n reply.Empty k e = n.empty (cc)
no_plain w n reply.Range k e = n.range (cc)
no_plain w n reply.Null k e = n.null (cc)
no_plain w n reply.Taken k e = n.taken (cc)
no_plain w n reply.Gone k e = n.gone (cc)
no_plain w n reply.Unset k e = n.unset (cc)
no_plain w n reply.Full k e = n.full (cc)
no_plain w n reply.Plain k e = n.plain (cc)
no_plain w n reply.NoMark k e = n.nomark (cc)
no_plain w n reply.More k e = n.more (cc)
no_plain w n reply.Done k e = n.done (cc)
no_plain w n reply.Cleared k e = n.cleared (cc)
no_plain w n r k e = absurd k

-- what isn't a citation, as other words
pub same_cites : (words others : List (List ℕ)) → words ≡ others → NoCites words → NoCites others
same_cites words others e n = subst NoCites e n

-- the same words
pub as_words : (kind : Reply → Type 0) (words others : List (List ℕ)) → words ≡ others → NoEnd kind others → NoEnd kind words
as_words kind words others e n = subst (NoEnd kind) (sym e) n

pub ends_as : (kind : Reply → Type 0) (words others : List (List ℕ)) (found : Option (Reply × Option ℕ)) → words ≡ others → Ends kind others found → Ends kind words found
ends_as kind words others None e n = as_words kind words others e n
ends_as kind words others (Some t) e h = (h.0, record { fits = h.1.fits; cites = h.1.cites; same = e ∙ h.1.same })

-- one word that is always the same
pub plain_fits : (r : Reply) → IsPlain r → FitsReply r
plain_fits reply.Ok k = tt
plain_fits reply.Empty k = tt
plain_fits reply.Range k = tt
plain_fits reply.Null k = tt
plain_fits reply.Taken k = tt
plain_fits reply.Gone k = tt
plain_fits reply.Unset k = tt
plain_fits reply.Full k = tt
plain_fits reply.Plain k = tt
plain_fits reply.NoMark k = tt
plain_fits reply.More k = tt
plain_fits reply.Done k = tt
plain_fits reply.Cleared k = tt
plain_fits r k = absurd k

pub plain_empty : NoEnd IsPlain []
plain_empty reply.Ok c k e = (let q = e.same in cc)
plain_empty reply.Empty c k e = (let q = e.same in cc)
plain_empty reply.Range c k e = (let q = e.same in cc)
plain_empty reply.Null c k e = (let q = e.same in cc)
plain_empty reply.Taken c k e = (let q = e.same in cc)
plain_empty reply.Gone c k e = (let q = e.same in cc)
plain_empty reply.Unset c k e = (let q = e.same in cc)
plain_empty reply.Full c k e = (let q = e.same in cc)
plain_empty reply.Plain c k e = (let q = e.same in cc)
plain_empty reply.NoMark c k e = (let q = e.same in cc)
plain_empty reply.More c k e = (let q = e.same in cc)
plain_empty reply.Done c k e = (let q = e.same in cc)
plain_empty reply.Cleared c k e = (let q = e.same in cc)
plain_empty r c k e = absurd k

-- a plain reply is one word
pub plain_one : (r : Reply) → IsPlain r → (w : List ℕ) × (reply_words r ≡ w ∷ [])
plain_one reply.Ok k = (codes "ok", refl)
plain_one reply.Empty k = (codes "empty", refl)
plain_one reply.Range k = (codes "range", refl)
plain_one reply.Null k = (codes "null", refl)
plain_one reply.Taken k = (codes "taken", refl)
plain_one reply.Gone k = (codes "gone", refl)
plain_one reply.Unset k = (codes "unset", refl)
plain_one reply.Full k = (codes "full", refl)
plain_one reply.Plain k = (codes "plain", refl)
plain_one reply.NoMark k = (codes "nomark", refl)
plain_one reply.More k = (codes "more", refl)
plain_one reply.Done k = (codes "done", refl)
plain_one reply.Cleared k = (codes "cleared", refl)
plain_one r k = absurd k

pub plain_unread : (w : List ℕ) (rest : List (List ℕ)) → ((r : Reply) → IsPlain r → reply_words r ≢ w ∷ []) → NoEnd IsPlain (w ∷ rest)
plain_unread w rest n r c k e =
    let p = plain_one r k in
    let q : w ∷ rest ≡ p.0 ∷ cite_words c = e.same ∙ ap (λ z. z ++ cite_words c) p.1 in
    let u : w ≡ p.0 = cc in
    n r k (p.1 ∙ ap (λ z. z ∷ []) (sym u))

pub plain_behind : (w : List ℕ) (rest : List (List ℕ)) → NoCites rest → NoEnd IsPlain (w ∷ rest)
plain_behind w rest n r c k e =
    let p = plain_one r k in
    let q : w ∷ rest ≡ p.0 ∷ cite_words c = e.same ∙ ap (λ z. z ++ cite_words c) p.1 in
    n c e.cites (cc)

-- a managed object first
pub managed_empty : NoEnd IsManaged []
managed_empty (reply.M m) c k e = (let q = e.same in cc)
managed_empty (reply.New m) c k e = (let q = e.same in cc)
managed_empty (reply.Twin m) c k e = (let q = e.same in cc)
managed_empty r c k e = absurd k

pub managed_unread : (w : List ℕ) (rest : List (List ℕ)) → ((m : MNum) → Short m.0 → managed_text m ≢ w) → NoEnd IsManaged (w ∷ rest)
managed_unread w rest n (reply.M m) c k e = n m e.fits (let q = e.same in cc)
managed_unread w rest n (reply.New m) c k e = n m e.fits (let q = e.same in cc)
managed_unread w rest n (reply.Twin m) c k e = n m e.fits (let q = e.same in cc)
managed_unread w rest n r c k e = absurd k

-- an object is known by its text
same_managed : (m n : MNum) → Short m.0 → Short n.0 → managed_text m ≡ managed_text n → m ≡ n
same_managed m n k l e = (let f : decimal m.0 ≡ decimal n.0 = cc in let g = decimal_injective m.0 n.0 (omega (arith, k)) (omega (arith, l)) f in ap (λ (x : ℕ). let y : MNum = record { 0 = x } in y) g)

-- behind an object that isn't all
pub managed_else : (words rest : List (List ℕ)) (m : MNum) (found : Option (Reply × Option ℕ)) → words ≡ managed_text m ∷ rest
    → Short m.0 → NoCites rest → Ends (IsNew m) (managed_text m ∷ rest) found → Ends IsManaged words found
managed_else words rest m None w f n h = as_words IsManaged words (managed_text m ∷ rest) w by
  where
    by : NoEnd IsManaged (managed_text m ∷ rest)
    by (reply.M a) c k e = n c e.cites (let q = e.same in cc)
    by (reply.New a) c k e = (let q = e.same in let t : managed_text a ≡ managed_text m = cc in h (reply.New a) c (same_managed a m e.fits f t) e)
    by (reply.Twin a) c k e = (let q = e.same in let t : managed_text a ≡ managed_text m = cc in h (reply.Twin a) c (same_managed a m e.fits f t) e)
    by r c k e = absurd k
managed_else words rest m (Some t) w f n h = (new_managed t.0 h.0, record { fits = h.1.fits; cites = h.1.cites; same = w ∙ h.1.same })
  where
    new_managed : (r : Reply) → IsNew m r → IsManaged r
    new_managed (reply.New a) k = tt
    new_managed (reply.Twin a) k = tt
    new_managed r k = absurd k

pub new_empty : (m : MNum) (w : List ℕ) → NoEnd (IsNew m) (w ∷ [])
new_empty m w (reply.New a) c k e = (let q = e.same in cc)
new_empty m w (reply.Twin a) c k e = (let q = e.same in cc)
new_empty m w r c k e = absurd k

pub new_behind : (m : MNum) (w v : List ℕ) (rest : List (List ℕ)) → v ≡ codes "new" → NoCites rest → NoEnd (IsNew m) (w ∷ v ∷ rest)
new_behind m w v rest s n (reply.New a) c k e = n c e.cites (let q = e.same in cc)
new_behind m w v rest s n (reply.Twin a) c k e = (let p = s in let q = e.same in cc)
new_behind m w v rest s n r c k e = absurd k

pub twin_behind : (m : MNum) (w v : List ℕ) (rest : List (List ℕ)) → v ≡ codes "twin" → NoCites rest → NoEnd (IsNew m) (w ∷ v ∷ rest)
twin_behind m w v rest s n (reply.New a) c k e = (let p = s in let q = e.same in cc)
twin_behind m w v rest s n (reply.Twin a) c k e = n c e.cites (let q = e.same in cc)
twin_behind m w v rest s n r c k e = absurd k

pub new_other : (m : MNum) (w v : List ℕ) (rest : List (List ℕ)) → v ≢ codes "new" → v ≢ codes "twin" → NoEnd (IsNew m) (w ∷ v ∷ rest)
new_other m w v rest a b (reply.New x) c k e = a (let q = e.same in cc)
new_other m w v rest a b (reply.Twin x) c k e = b (let q = e.same in cc)
new_other m w v rest a b r c k e = absurd k

-- a peer first
pub peer_empty : NoEnd IsPeer []
peer_empty (reply.P p) c k e = (let q = e.same in cc)
peer_empty (reply.Made p h) c k e = (let q = e.same in cc)
peer_empty (reply.Gripped p h s n) c k e = (let q = e.same in cc)
peer_empty r c k e = absurd k

pub peer_unread : (w : List ℕ) (rest : List (List ℕ)) → ((p : PNum) → Short p.0 → peer_text p ≢ w) → NoEnd IsPeer (w ∷ rest)
peer_unread w rest n (reply.P p) c k e = n p e.fits (let q = e.same in cc)
peer_unread w rest n (reply.Made p h) c k e = n p e.fits.0 (let q = e.same in cc)
peer_unread w rest n (reply.Gripped p h s m) c k e = n p e.fits.0 (let q = e.same in cc)
peer_unread w rest n r c k e = absurd k

-- a peer is known by its text
same_peer : (p q : PNum) → Short p.0 → Short q.0 → peer_text p ≡ peer_text q → p ≡ q
same_peer p q k l e = (let f : decimal p.0 ≡ decimal q.0 = cc in let g = decimal_injective p.0 q.0 (omega (arith, k)) (omega (arith, l)) f in ap (λ (x : ℕ). let y : PNum = record { 0 = x } in y) g)

-- behind a peer that isn't all
pub peer_else : (words rest : List (List ℕ)) (p : PNum) (found : Option (Reply × Option ℕ)) → words ≡ peer_text p ∷ rest
    → Short p.0 → NoCites rest → Ends (IsHeld p) (peer_text p ∷ rest) found → Ends IsPeer words found
peer_else words rest p None w f n h = as_words IsPeer words (peer_text p ∷ rest) w by
  where
    by : NoEnd IsPeer (peer_text p ∷ rest)
    by (reply.P a) c k e = n c e.cites (let q = e.same in cc)
    by (reply.Made a b) c k e = (let q = e.same in let t : peer_text a ≡ peer_text p = cc in h (reply.Made a b) c (same_peer a p e.fits.0 f t) e)
    by (reply.Gripped a b s m) c k e = (let q = e.same in let t : peer_text a ≡ peer_text p = cc in h (reply.Gripped a b s m) c (same_peer a p e.fits.0 f t) e)
    by r c k e = absurd k
peer_else words rest p (Some t) w f n h = (held_peer t.0 h.0, record { fits = h.1.fits; cites = h.1.cites; same = w ∙ h.1.same })
  where
    held_peer : (r : Reply) → IsHeld p r → IsPeer r
    held_peer (reply.Made a b) k = tt
    held_peer (reply.Gripped a b s m) k = tt
    held_peer r k = absurd k

pub held_empty : (p : PNum) (w : List ℕ) → NoEnd (IsHeld p) (w ∷ [])
held_empty p w (reply.Made a b) c k e = (let q = e.same in cc)
held_empty p w (reply.Gripped a b s m) c k e = (let q = e.same in cc)
held_empty p w r c k e = absurd k

pub held_no_handle : (p : PNum) (w v : List ℕ) (rest : List (List ℕ)) → ((h : HNum) → Short h.0 → handle_text h ≢ v) → NoEnd (IsHeld p) (w ∷ v ∷ rest)
held_no_handle p w v rest n (reply.Made a b) c k e = n b e.fits.1 (let q = e.same in cc)
held_no_handle p w v rest n (reply.Gripped a b s m) c k e = n b e.fits.1 (let q = e.same in cc)
held_no_handle p w v rest n r c k e = absurd k

pub held_no_sort : (p : PNum) (w v u : List ℕ) (rest : List (List ℕ)) → NoCites (u ∷ rest) → ((s : Sort) → sort_text s ≢ u) → NoEnd (IsHeld p) (w ∷ v ∷ u ∷ rest)
held_no_sort p w v u rest a n (reply.Made x b) c k e = a c e.cites (let q = e.same in cc)
held_no_sort p w v u rest a n (reply.Gripped x b s m) c k e = n s (let q = e.same in cc)
held_no_sort p w v u rest a n r c k e = absurd k

pub held_no_byte : (p : PNum) (w v u t : List ℕ) (rest : List (List ℕ)) → NoCites (u ∷ t ∷ rest) → ((n : ℕ) → n < 2 ^ 8 → decimal n ≢ t) → NoEnd (IsHeld p) (w ∷ v ∷ u ∷ t ∷ rest)
held_no_byte p w v u t rest a n (reply.Made x b) c k e = a c e.cites (let q = e.same in cc)
held_no_byte p w v u t rest a n (reply.Gripped x b s m) c k e = n m e.fits.2 (let q = e.same in cc)
held_no_byte p w v u t rest a n r c k e = absurd k

-- no word behind the handle, or behind the sort
pub held_last : (p : PNum) (w v : List ℕ) → NoCites [] → NoEnd (IsHeld p) (w ∷ v ∷ [])
held_last p w v n r c k e = absurd (n None tt refl)

pub held_no_word : (p : PNum) (w v u : List ℕ) → NoCites (u ∷ []) → NoEnd (IsHeld p) (w ∷ v ∷ u ∷ [])
held_no_word p w v u a (reply.Made x b) c k e = a c e.cites (let q = e.same in cc)
held_no_word p w v u a (reply.Gripped x b s m) c k e = (let q = e.same in cc)
held_no_word p w v u a r c k e = absurd k

pub held_no_end : (p : PNum) (w v u t : List ℕ) (rest : List (List ℕ)) → NoCites (u ∷ t ∷ rest) → NoCites rest → NoEnd (IsHeld p) (w ∷ v ∷ u ∷ t ∷ rest)
held_no_end p w v u t rest a n (reply.Made x b) c k e = a c e.cites (let q = e.same in cc)
held_no_end p w v u t rest a n (reply.Gripped x b s m) c k e = n c e.cites (let q = e.same in cc)
held_no_end p w v u t rest a n r c k e = absurd k

-- a handle
pub handle_empty : NoEnd IsHandle []
handle_empty (reply.H h) c k e = (let q = e.same in cc)
handle_empty r c k e = absurd k

pub handle_unread : (w : List ℕ) (rest : List (List ℕ)) → ((h : HNum) → Short h.0 → handle_text h ≢ w) → NoEnd IsHandle (w ∷ rest)
handle_unread w rest n (reply.H h) c k e = n h e.fits (let q = e.same in cc)
handle_unread w rest n r c k e = absurd k

pub handle_behind : (w : List ℕ) (rest : List (List ℕ)) → NoCites rest → NoEnd IsHandle (w ∷ rest)
handle_behind w rest n (reply.H h) c k e = n c e.cites (let q = e.same in cc)
handle_behind w rest n r c k e = absurd k

-- a word that tells what the next one is
pub keyed_short : (words : List (List ℕ)) → (words ≡ []) ⊎ ((w : List ℕ) × (words ≡ w ∷ [])) → NoEnd IsKeyed words
keyed_short words (inl s) (reply.Pending j) c k e = (let q = e.same in let p = s in cc)
keyed_short words (inl s) (reply.Pinned m) c k e = (let q = e.same in let p = s in cc)
keyed_short words (inl s) (reply.MarkOpen j) c k e = (let q = e.same in let p = s in cc)
keyed_short words (inl s) (reply.CycleOpen j) c k e = (let q = e.same in let p = s in cc)
keyed_short words (inl s) (reply.At p) c k e = (let q = e.same in let z = s in cc)
keyed_short words (inl s) (reply.Renewed h) c k e = (let q = e.same in let z = s in cc)
keyed_short words (inr s) (reply.Pending j) c k e = (let q = e.same in let p = s.1 in cc)
keyed_short words (inr s) (reply.Pinned m) c k e = (let q = e.same in let p = s.1 in cc)
keyed_short words (inr s) (reply.MarkOpen j) c k e = (let q = e.same in let p = s.1 in cc)
keyed_short words (inr s) (reply.CycleOpen j) c k e = (let q = e.same in let p = s.1 in cc)
keyed_short words (inr s) (reply.At p) c k e = (let q = e.same in let z = s.1 in cc)
keyed_short words (inr s) (reply.Renewed h) c k e = (let q = e.same in let z = s.1 in cc)
keyed_short words s r c k e = absurd k

-- no reply has this key and this word
abbrev pub NoKeyed : List ℕ → List ℕ → Type 0
NoKeyed key word = (r : Reply) → IsKeyed r → FitsReply r → reply_words r ≢ key ∷ word ∷ []

pub no_pending : (key word : List ℕ) → key ≡ codes "pending" → ((n : ℕ) → Short n → decimal n ≢ word) → NoKeyed key word
no_pending key word q n (reply.Pending j) k f e = n j.0 f (cc)
no_pending key word q n (reply.Pinned m) k f e = (let a = q in cc)
no_pending key word q n (reply.MarkOpen j) k f e = (let t : codes "marking" ≡ key = cc in other_text (codes "marking") (codes "pending") refl (t ∙ q))
no_pending key word q n (reply.CycleOpen j) k f e = (let a = q in cc)
no_pending key word q n (reply.At p) k f e = (let a = q in cc)
no_pending key word q n (reply.Renewed h) k f e = (let a = q in cc)
no_pending key word q n r k f e = absurd k

pub no_pinned : (key word : List ℕ) → key ≡ codes "pinned" → ((m : MNum) → Short m.0 → managed_text m ≢ word) → NoKeyed key word
no_pinned key word q n (reply.Pending j) k f e = (let a = q in cc)
no_pinned key word q n (reply.Pinned m) k f e = n m f (cc)
no_pinned key word q n (reply.MarkOpen j) k f e = (let a = q in cc)
no_pinned key word q n (reply.CycleOpen j) k f e = (let a = q in cc)
no_pinned key word q n (reply.At p) k f e = (let a = q in cc)
no_pinned key word q n (reply.Renewed h) k f e = (let a = q in cc)
no_pinned key word q n r k f e = absurd k

pub no_marking : (key word : List ℕ) → key ≡ codes "marking" → ((n : ℕ) → Short n → decimal n ≢ word) → NoKeyed key word
no_marking key word q n (reply.Pending j) k f e = (let t : codes "pending" ≡ key = cc in other_text (codes "pending") (codes "marking") refl (t ∙ q))
no_marking key word q n (reply.Pinned m) k f e = (let a = q in cc)
no_marking key word q n (reply.MarkOpen j) k f e = n j.0 f (cc)
no_marking key word q n (reply.CycleOpen j) k f e = (let a = q in cc)
no_marking key word q n (reply.At p) k f e = (let a = q in cc)
no_marking key word q n (reply.Renewed h) k f e = (let a = q in cc)
no_marking key word q n r k f e = absurd k

pub no_open : (key word : List ℕ) → key ≡ codes "open" → ((n : ℕ) → Short n → decimal n ≢ word) → NoKeyed key word
no_open key word q n (reply.Pending j) k f e = (let a = q in cc)
no_open key word q n (reply.Pinned m) k f e = (let a = q in cc)
no_open key word q n (reply.MarkOpen j) k f e = (let a = q in cc)
no_open key word q n (reply.CycleOpen j) k f e = n j.0 f (cc)
no_open key word q n (reply.At p) k f e = (let a = q in cc)
no_open key word q n (reply.Renewed h) k f e = (let a = q in cc)
no_open key word q n r k f e = absurd k

pub no_at : (key word : List ℕ) → key ≡ codes "at" → ((p : Phase) → phase_text p ≢ word) → NoKeyed key word
no_at key word q n (reply.Pending j) k f e = (let a = q in cc)
no_at key word q n (reply.Pinned m) k f e = (let a = q in cc)
no_at key word q n (reply.MarkOpen j) k f e = (let a = q in cc)
no_at key word q n (reply.CycleOpen j) k f e = (let a = q in cc)
no_at key word q n (reply.At p) k f e = n p (cc)
no_at key word q n (reply.Renewed h) k f e = (let a = q in cc)
no_at key word q n r k f e = absurd k

pub no_alive : (key word : List ℕ) → key ≡ codes "alive" → ((h : HNum) → Short h.0 → handle_text h ≢ word) → NoKeyed key word
no_alive key word q n (reply.Pending j) k f e = (let a = q in cc)
no_alive key word q n (reply.Pinned m) k f e = (let a = q in cc)
no_alive key word q n (reply.MarkOpen j) k f e = (let a = q in cc)
no_alive key word q n (reply.CycleOpen j) k f e = (let a = q in cc)
no_alive key word q n (reply.At p) k f e = (let a = q in cc)
no_alive key word q n (reply.Renewed h) k f e = n h f (cc)
no_alive key word q n r k f e = absurd k

-- a key that is none of these
pub record NotKey (key : List ℕ) : Type 0 where
  pub pending_ : key ≢ codes "pending"
  pub pinned_ : key ≢ codes "pinned"
  pub marking_ : key ≢ codes "marking"
  pub open_ : key ≢ codes "open"
  pub at_ : key ≢ codes "at"
  pub alive_ : key ≢ codes "alive"

pub no_key : (key word : List ℕ) → NotKey key → NoKeyed key word
no_key key word n (reply.Pending j) k f e = n.pending_ (cc)
no_key key word n (reply.Pinned m) k f e = n.pinned_ (cc)
no_key key word n (reply.MarkOpen j) k f e = n.marking_ (cc)
no_key key word n (reply.CycleOpen j) k f e = n.open_ (cc)
no_key key word n (reply.At p) k f e = n.at_ (cc)
no_key key word n (reply.Renewed h) k f e = n.alive_ (cc)
no_key key word n r k f e = absurd k

-- a keyed reply is two words
pub keyed_two : (r : Reply) → IsKeyed r → (a : List ℕ) × (b : List ℕ) × (reply_words r ≡ a ∷ b ∷ [])
keyed_two (reply.Pending j) k = (codes "pending", decimal j.0, refl)
keyed_two (reply.Pinned m) k = (codes "pinned", managed_text m, refl)
keyed_two (reply.MarkOpen j) k = (codes "marking", decimal j.0, refl)
keyed_two (reply.CycleOpen j) k = (codes "open", decimal j.0, refl)
keyed_two (reply.At p) k = (codes "at", phase_text p, refl)
keyed_two (reply.Renewed h) k = (codes "alive", handle_text h, refl)
keyed_two r k = absurd k

pub keyed_unread : (key word : List ℕ) (rest : List (List ℕ)) → NoKeyed key word → NoEnd IsKeyed (key ∷ word ∷ rest)
keyed_unread key word rest n r c k e =
    let p = keyed_two r k in
    let q : key ∷ word ∷ rest ≡ p.0 ∷ p.1 ∷ cite_words c = e.same ∙ ap (λ z. z ++ cite_words c) p.2 in
    let a : key ≡ p.0 = cc in
    let b : word ≡ p.1 = cc in
    n r k e.fits (p.2 ∙ (ap (λ z. z ∷ p.1 ∷ []) (sym a) ∙ ap (λ z. key ∷ z ∷ []) (sym b)))

pub keyed_behind : (key word : List ℕ) (rest : List (List ℕ)) → NoCites rest → NoEnd IsKeyed (key ∷ word ∷ rest)
keyed_behind key word rest n r c k e =
    let p = keyed_two r k in
    let q : key ∷ word ∷ rest ≡ p.0 ∷ p.1 ∷ cite_words c = e.same ∙ ap (λ z. z ++ cite_words c) p.2 in
    n c e.cites (cc)

-- a number first
pub count_empty : NoEnd IsCount []
count_empty (reply.Mark j) c k e = (let q = e.same in cc)
count_empty (reply.Sccs n m) c k e = (let q = e.same in cc)
count_empty (reply.Refs n) c k e = (let q = e.same in cc)
count_empty r c k e = absurd k

pub count_unread : (w : List ℕ) (rest : List (List ℕ)) → ((n : ℕ) → Short n → decimal n ≢ w) → NoEnd IsCount (w ∷ rest)
count_unread w rest n (reply.Mark j) c k e = n j.0 e.fits (let q = e.same in cc)
count_unread w rest n (reply.Sccs a b) c k e = n a e.fits.0 (let q = e.same in cc)
count_unread w rest n (reply.Refs a) c k e = n a e.fits (let q = e.same in cc)
count_unread w rest n r c k e = absurd k

-- behind a number that isn't all
pub count_else : (words rest : List (List ℕ)) (n : ℕ) (found : Option (Reply × Option ℕ)) → words ≡ decimal n ∷ rest
    → Short n → NoCites rest → Ends (IsCounted n) (decimal n ∷ rest) found → Ends IsCount words found
count_else words rest n None w f m h = as_words IsCount words (decimal n ∷ rest) w by
  where
    by : NoEnd IsCount (decimal n ∷ rest)
    by (reply.Mark a) c k e = m c e.cites (let q = e.same in cc)
    by (reply.Refs a) c k e = (let q = e.same in let t : decimal a ≡ decimal n = cc in h (reply.Refs a) c (decimal_injective a n (let b = e.fits in omega (arith, b)) (omega (arith, f)) t) e)
    by (reply.Sccs a b) c k e = (let q = e.same in let t : decimal a ≡ decimal n = cc in h (reply.Sccs a b) c (decimal_injective a n (let d = e.fits.0 in omega (arith, d)) (omega (arith, f)) t) e)
    by r c k e = absurd k
count_else words rest n (Some t) w f m h = (counted t.0 h.0, record { fits = h.1.fits; cites = h.1.cites; same = w ∙ h.1.same })
  where
    counted : (r : Reply) → IsCounted n r → IsCount r
    counted (reply.Refs a) k = tt
    counted (reply.Sccs a b) k = tt
    counted r k = absurd k

pub counted_empty : (n : ℕ) (w : List ℕ) → NoEnd (IsCounted n) (w ∷ [])
counted_empty n w (reply.Refs a) c k e = (let q = e.same in cc)
counted_empty n w (reply.Sccs a b) c k e = (let q = e.same in cc)
counted_empty n w r c k e = absurd k

pub counted_refs : (n : ℕ) (w v : List ℕ) (rest : List (List ℕ)) → v ≡ codes "refs" → NoCites rest → NoEnd (IsCounted n) (w ∷ v ∷ rest)
counted_refs n w v rest s m (reply.Refs a) c k e = m c e.cites (let q = e.same in cc)
counted_refs n w v rest s m (reply.Sccs a b) c k e = (let q = e.same in let t : v ≡ codes "sccs" = cc in other_text (codes "refs") (codes "sccs") refl (sym s ∙ t))
counted_refs n w v rest s m r c k e = absurd k

pub counted_other : (n : ℕ) (w v : List ℕ) (rest : List (List ℕ)) → v ≢ codes "refs" → v ≢ codes "sccs" → NoEnd (IsCounted n) (w ∷ v ∷ rest)
counted_other n w v rest a b (reply.Refs x) c k e = a (let q = e.same in cc)
counted_other n w v rest a b (reply.Sccs x y) c k e = b (let q = e.same in cc)
counted_other n w v rest a b r c k e = absurd k

-- behind a number of components
pub counted_else : (n : ℕ) (w v : List ℕ) (rest : List (List ℕ)) (found : Option (Reply × Option ℕ))
    → v ≡ codes "sccs" → Ends (IsComponents n) (w ∷ codes "sccs" ∷ rest) found → Ends (IsCounted n) (w ∷ v ∷ rest) found
counted_else n w v rest None s h = as_words (IsCounted n) (w ∷ v ∷ rest) (w ∷ codes "sccs" ∷ rest) (ap (λ z. w ∷ z ∷ rest) s) by
  where
    by : NoEnd (IsCounted n) (w ∷ codes "sccs" ∷ rest)
    by (reply.Refs a) c k e = (let q = e.same in let t : codes "sccs" ≡ codes "refs" = cc in other_text (codes "sccs") (codes "refs") refl t)
    by (reply.Sccs a b) c k e = h (reply.Sccs a b) c k e
    by r c k e = absurd k
counted_else n w v rest (Some t) s h = (components t.0 h.0, record { fits = h.1.fits; cites = h.1.cites; same = ap (λ z. w ∷ z ∷ rest) s ∙ h.1.same })
  where
    components : (r : Reply) → IsComponents n r → IsCounted n r
    components (reply.Sccs a b) k = k
    components r k = absurd k

pub components_empty : (n : ℕ) (w v : List ℕ) → NoEnd (IsComponents n) (w ∷ v ∷ [])
components_empty n w v (reply.Sccs a b) c k e = (let q = e.same in cc)
components_empty n w v r c k e = absurd k

pub components_unread : (n : ℕ) (w v u : List ℕ) (rest : List (List ℕ)) → ((m : ℕ) → Short m → decimal m ≢ u) → NoEnd (IsComponents n) (w ∷ v ∷ u ∷ rest)
components_unread n w v u rest m (reply.Sccs a b) c k e = m b e.fits.1 (let q = e.same in cc)
components_unread n w v u rest m r c k e = absurd k

pub components_short : (n : ℕ) (w v u : List ℕ) → NoEnd (IsComponents n) (w ∷ v ∷ u ∷ [])
components_short n w v u (reply.Sccs a b) c k e = (let q = e.same in cc)
components_short n w v u r c k e = absurd k

pub components_other : (n : ℕ) (w v u t : List ℕ) (rest : List (List ℕ)) → t ≢ codes "xrefs" → NoEnd (IsComponents n) (w ∷ v ∷ u ∷ t ∷ rest)
components_other n w v u t rest d (reply.Sccs a b) c k e = d (let q = e.same in cc)
components_other n w v u t rest d r c k e = absurd k

pub components_behind : (n : ℕ) (w v u t : List ℕ) (rest : List (List ℕ)) → NoCites rest → NoEnd (IsComponents n) (w ∷ v ∷ u ∷ t ∷ rest)
components_behind n w v u t rest m (reply.Sccs a b) c k e = m c e.cites (let q = e.same in cc)
components_behind n w v u t rest m r c k e = absurd k
