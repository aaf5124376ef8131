-- The words behind the equals sign: a reply without a list, or one with a list, each kind by itself. Where two kinds
-- have the same words, the one that is meant by the event is tried first, and what is read after it isn't what the
-- first one has.
use Rattle.std.proofs.Common.{◌≡◌, ◌≢◌, ℕ, ◌⊎◌, inl, inr, true, false, List, [], ◌∷◌, ◌++◌, Option, Some, None, Result, Ok, Err, IfOk, All, length, codes, decimal, refl, sym, ap, ◌∙◌, subst, arith}
use Rattle.std.proofs.Common.{append-nil}
use Rattle.std.proofs.lemmas.List.{nil_from_length}
use Rattle.std.proofs.lemmas.List.Elements.{All-cons, All-head, All-nil}
use Rattle.joint_machine.specs.declared.names.Marking.{Marking}
use Rattle.joint_machine.specs.declared.names.MNum.{MNum}
use Rattle.joint_machine.specs.declared.names.PNum.{PNum}
use Rattle.joint_machine.specs.declared.names.Span.{Span}
use Rattle.joint_machine.specs.declared.lines.Act.TheVariants as act
use Rattle.joint_machine.specs.declared.events.Op.{Op}
use Rattle.joint_machine.specs.declared.events.Op.TheVariants as op
use Rattle.joint_machine.specs.declared.events.Reply.{Reply}
use Rattle.joint_machine.specs.declared.events.Reply.TheVariants as reply
use Rattle.history_report.specs.Lists.{listed}
use Rattle.history_report.specs.Report.{reply_words, cite_words}
use Rattle.entry_reader.specs.Fitting.{Short}
use Rattle.entry_reader.specs.Meaning.{BeginsAt, Lists, as_managed, as_peers, grown}
use Rattle.entry_reader.specs.Meant.{IsMeant, IsNot}
use Rattle.entry_reader.specs.Taking.{Takes}
use Rattle.entry_reader.specs.Saying.{IsList, IsShown, said}
use Rattle.entry_reader.specs.Tailing.{IsTail, ReadsTail, Tails}
use Rattle.entry_reader.specs.Listing.{EndsList}
use Rattle.entry_reader.specs.Replies.{IsPlain, IsManaged, IsPeer, IsHandle, IsKeyed, IsCount, IsEnd, Ends, IsUnlisted, IsSnapped, IsSwept, IsFreed, IsTook, IsUnnoticed, IsMeantListed}
use Rattle.entry_reader.specs.Replies.{IsMeantNumbered, IsMeantUnnoticed, IsFinalise, IsSweep, TailsListed, TailsMeant, TailsNumbered, TailsUnnoticed}
use Rattle.entry_reader.proofs.ReplyParts.{NoEnd}

-- lists are the same that have the same parts
pub same_lists : (a b : Lists) → a.managed ≡ b.managed → a.peers ≡ b.peers → a.notices ≡ b.notices → a ≡ b
same_lists a b e f g =
    let one : record { managed = a.managed; peers = a.peers; notices = a.notices } ≡ record { managed = b.managed; peers = a.peers; notices = a.notices } = ap
    (λ (x : List MNum). let l : Lists = record { managed = x; peers = a.peers; notices = a.notices } in l) e in
    let two : record { managed = b.managed; peers = a.peers; notices = a.notices } ≡ record { managed = b.managed; peers = b.peers; notices = a.notices } = ap
    (λ (x : List PNum). let l : Lists = record { managed = b.managed; peers = x; notices = a.notices } in l) f in
    let three : record { managed = b.managed; peers = b.peers; notices = a.notices } ≡ record { managed = b.managed; peers = b.peers; notices = b.notices } = ap
    (λ (x : List MNum). let l : Lists = record { managed = b.managed; peers = b.peers; notices = x } in l) g in
    one ∙ (two ∙ three)

-- no reply of a kind has the words, whatever its list
abbrev pub NoTail : (Reply → Type 0) → List (List ℕ) → Type 0
NoTail kind words = (r : Reply) (ns : List ℕ) (c : Option ℕ) → kind r → IsTail words r ns c → ⊥

-- notices
pub took_none : (words : List (List ℕ)) (before : List MNum) (after : List MNum) → EndsList as_managed false 109 words before after None → NoTail IsTook words
took_none words before after e (reply.Took s) ns c k t = e.1 ns c t.shown t.cites t.same
took_none words before after e r ns c k t = absurd k

pub took_some : (words : List (List ℕ)) (a b : Lists) (s : Span) (c : Option ℕ) → EndsList as_managed false 109 words a.notices b.notices (Some (s, c))
    → b.managed ≡ a.managed → b.peers ≡ a.peers → ReadsTail IsTook words a b (reply.Took s, c)
took_some words a b s c e f g =
    let n = e.names in
    record {
      numbers = n.numbers;
      of_kind = tt;
      tail = record { fits = n.short; shown = n.list; cites = e.cites; same = n.words };
      begins = n.span;
      grows = same_lists b (grown a (reply.Took s) n.numbers) f g n.put;
    }

-- what a snapshot freed, behind its number
pub snapped_unread : (words new : List (List ℕ)) → Takes Short (λ n. decimal n ∷ codes "freed" ∷ []) words new None → NoTail IsSnapped words
snapped_unread words new k (reply.Snapped n s) ns c h t = (k.complete n (listed 109 ns ++ cite_words c) t.fits.0 t.same).0
snapped_unread words new k r ns c h t = absurd h

pub snapped_none : (words new : List (List ℕ)) (m : ℕ) (before after : List MNum)
    → Takes Short (λ n. decimal n ∷ codes "freed" ∷ []) words new (Some m) → EndsList as_managed true 109 new before after None → NoTail IsSnapped words
snapped_none words new m before after k e (reply.Snapped n s) ns c h t = e.1 ns c t.shown t.cites (k.complete n (listed 109 ns ++ cite_words c) t.fits.0 t.same).1
snapped_none words new m before after k e r ns c h t = absurd h

pub snapped_some : (words new : List (List ℕ)) (m : ℕ) (a b : Lists) (s : Span) (c : Option ℕ) → Takes Short (λ n. decimal n ∷ codes "freed" ∷ []) words new (Some m)
    → EndsList as_managed true 109 new a.managed b.managed (Some (s, c)) → b.peers ≡ a.peers → b.notices ≡ a.notices → ReadsTail IsSnapped words a b (reply.Snapped m s, c)
snapped_some words new m a b s c k e f g =
    let n = e.names in
    record {
      numbers = n.numbers;
      of_kind = tt;
      tail = record { fits = (k.sound.0, n.short); shown = n.list; cites = e.cites; same = k.sound.1 ∙ ap (λ z. decimal m ∷ codes "freed" ∷ z) n.words };
      begins = n.span;
      grows = same_lists b (grown a (reply.Snapped m s) n.numbers) n.put f g;
    }

-- what a marking freed, behind its number
pub swept_unread : (words new : List (List ℕ)) → Takes Short (λ n. decimal n ∷ codes "freed" ∷ []) words new None → NoTail IsSwept words
swept_unread words new k (reply.Swept j s) ns c h t = (k.complete j.0 (listed 112 ns ++ cite_words c) t.fits.0 t.same).0
swept_unread words new k r ns c h t = absurd h

pub swept_none : (words new : List (List ℕ)) (m : ℕ) (before after : List PNum)
    → Takes Short (λ n. decimal n ∷ codes "freed" ∷ []) words new (Some m) → EndsList as_peers true 112 new before after None → NoTail IsSwept words
swept_none words new m before after k e (reply.Swept j s) ns c h t = e.1 ns c t.shown t.cites (k.complete j.0 (listed 112 ns ++ cite_words c) t.fits.0 t.same).1
swept_none words new m before after k e r ns c h t = absurd h

pub swept_some : (words new : List (List ℕ)) (m : ℕ) (a b : Lists) (s : Span) (c : Option ℕ) → Takes Short (λ n. decimal n ∷ codes "freed" ∷ []) words new (Some m)
    → EndsList as_peers true 112 new a.peers b.peers (Some (s, c)) → b.managed ≡ a.managed → b.notices ≡ a.notices → ReadsTail IsSwept words a b (reply.Swept record { 0 = m } s, c)
swept_some words new m a b s c k e f g =
    let n = e.names in
    record {
      numbers = n.numbers;
      of_kind = tt;
      tail = record { fits = (k.sound.0, n.short); shown = n.list; cites = e.cites; same = k.sound.1 ∙ ap (λ z. decimal m ∷ codes "freed" ∷ z) n.words };
      begins = n.span;
      grows = same_lists b (grown a (reply.Swept record { 0 = m } s) n.numbers) f n.put g;
    }

-- what a resolution freed
pub freed_empty : (words : List (List ℕ)) → words ≡ [] → NoTail IsFreed words
freed_empty words e (reply.Freed s) ns c h t = (let p = e in let q = t.same in cc)
freed_empty words e r ns c h t = absurd h

pub freed_other : (words rest : List (List ℕ)) (w : List ℕ) → words ≡ w ∷ rest → w ≢ codes "freed" → NoTail IsFreed words
freed_other words rest w e n (reply.Freed s) ns c h t = n (let p = e in let q = t.same in cc)
freed_other words rest w e n r ns c h t = absurd h

pub freed_none : (words rest : List (List ℕ)) (w : List ℕ) (before after : List MNum) → words ≡ w ∷ rest → EndsList as_managed true 109 rest before after None → NoTail IsFreed words
freed_none words rest w before after e k (reply.Freed s) ns c h t = k.1 ns c t.shown t.cites (let p = e in let q = t.same in cc)
freed_none words rest w before after e k r ns c h t = absurd h

pub freed_some : (words rest : List (List ℕ)) (w : List ℕ) (a b : Lists) (s : Span) (c : Option ℕ) → words ≡ w ∷ rest → w ≡ codes "freed"
    → EndsList as_managed true 109 rest a.managed b.managed (Some (s, c)) → b.peers ≡ a.peers → b.notices ≡ a.notices → ReadsTail IsFreed words a b (reply.Freed s, c)
freed_some words rest w a b s c e u k f g =
    let n = k.names in
    record {
      numbers = n.numbers;
      of_kind = tt;
      tail = record { fits = n.short; shown = n.list; cites = k.cites; same = e ∙ (ap (λ z. z ∷ rest) u ∙ ap (λ z. codes "freed" ∷ z) n.words) };
      begins = n.span;
      grows = same_lists b (grown a (reply.Freed s) n.numbers) n.put f g;
    }

-- a reply without a list is of one of six kinds
pub unlisted_none : (words : List (List ℕ)) → NoEnd IsPlain words → NoEnd IsManaged words → NoEnd IsPeer words
    → NoEnd IsHandle words → NoEnd IsCount words → NoEnd IsKeyed words → NoEnd IsUnlisted words
unlisted_none words a b d e f g (reply.M m) c k t = b (reply.M m) c tt t
unlisted_none words a b d e f g (reply.New m) c k t = b (reply.New m) c tt t
unlisted_none words a b d e f g (reply.Twin m) c k t = b (reply.Twin m) c tt t
unlisted_none words a b d e f g (reply.P p) c k t = d (reply.P p) c tt t
unlisted_none words a b d e f g (reply.Made p h) c k t = d (reply.Made p h) c tt t
unlisted_none words a b d e f g (reply.Gripped p h s n) c k t = d (reply.Gripped p h s n) c tt t
unlisted_none words a b d e f g (reply.H h) c k t = e (reply.H h) c tt t
unlisted_none words a b d e f g (reply.Mark j) c k t = f (reply.Mark j) c tt t
unlisted_none words a b d e f g (reply.Sccs n m) c k t = f (reply.Sccs n m) c tt t
unlisted_none words a b d e f g (reply.Refs n) c k t = f (reply.Refs n) c tt t
unlisted_none words a b d e f g (reply.Pending j) c k t = g (reply.Pending j) c tt t
unlisted_none words a b d e f g (reply.Pinned m) c k t = g (reply.Pinned m) c tt t
unlisted_none words a b d e f g (reply.MarkOpen j) c k t = g (reply.MarkOpen j) c tt t
unlisted_none words a b d e f g (reply.CycleOpen j) c k t = g (reply.CycleOpen j) c tt t
unlisted_none words a b d e f g (reply.At p) c k t = g (reply.At p) c tt t
unlisted_none words a b d e f g (reply.Renewed h) c k t = g (reply.Renewed h) c tt t
unlisted_none words a b d e f g (reply.Snapped n s) c k t = absurd k
unlisted_none words a b d e f g (reply.Swept j s) c k t = absurd k
unlisted_none words a b d e f g (reply.Freed s) c k t = absurd k
unlisted_none words a b d e f g (reply.Took s) c k t = absurd k
unlisted_none words a b d e f g r c k t = a r c tt t

pub plain_unlisted : (r : Reply) → IsPlain r → IsUnlisted r
plain_unlisted (reply.Snapped n s) k = k
plain_unlisted (reply.Swept j s) k = k
plain_unlisted (reply.Freed s) k = k
plain_unlisted (reply.Took s) k = k
plain_unlisted r k = tt

pub managed_unlisted : (r : Reply) → IsManaged r → IsUnlisted r
managed_unlisted (reply.Snapped n s) k = k
managed_unlisted (reply.Swept j s) k = k
managed_unlisted (reply.Freed s) k = k
managed_unlisted (reply.Took s) k = k
managed_unlisted r k = tt

pub peer_unlisted : (r : Reply) → IsPeer r → IsUnlisted r
peer_unlisted (reply.Snapped n s) k = k
peer_unlisted (reply.Swept j s) k = k
peer_unlisted (reply.Freed s) k = k
peer_unlisted (reply.Took s) k = k
peer_unlisted r k = tt

pub handle_unlisted : (r : Reply) → IsHandle r → IsUnlisted r
handle_unlisted (reply.Snapped n s) k = k
handle_unlisted (reply.Swept j s) k = k
handle_unlisted (reply.Freed s) k = k
handle_unlisted (reply.Took s) k = k
handle_unlisted r k = tt

pub count_unlisted : (r : Reply) → IsCount r → IsUnlisted r
count_unlisted (reply.Snapped n s) k = k
count_unlisted (reply.Swept j s) k = k
count_unlisted (reply.Freed s) k = k
count_unlisted (reply.Took s) k = k
count_unlisted r k = tt

pub keyed_unlisted : (r : Reply) → IsKeyed r → IsUnlisted r
keyed_unlisted (reply.Snapped n s) k = k
keyed_unlisted (reply.Swept j s) k = k
keyed_unlisted (reply.Freed s) k = k
keyed_unlisted (reply.Took s) k = k
keyed_unlisted r k = tt

-- or it was read as the last of these kinds
pub unlisted_rest : (words : List (List ℕ)) (found : Option (Reply × Option ℕ)) → NoEnd IsPlain words → NoEnd IsManaged words
    → NoEnd IsPeer words → NoEnd IsHandle words → NoEnd IsCount words → Ends IsKeyed words found → Ends IsUnlisted words found
unlisted_rest words None a b d e f g = unlisted_none words a b d e f g
unlisted_rest words (Some t) a b d e f g = (keyed_unlisted t.0 g.0, g.1)

-- a reply without a list was read to the end of the line
abbrev Said : Reply → List (List ℕ) → List ℕ → Option ℕ → Type 0
Said r words ns c = words ≡ said r ns ++ cite_words c

plainly : (r : Reply) (ns : List ℕ) → IsUnlisted r → said r ns ≡ reply_words r
plainly (reply.Snapped n s) ns k = absurd k
plainly (reply.Swept j s) ns k = absurd k
plainly (reply.Freed s) ns k = absurd k
plainly (reply.Took s) ns k = absurd k
plainly r ns k = append-nil (reply_words r)

shows_any : (r : Reply) (ns : List ℕ) → IsUnlisted r → IsShown r ns
shows_any (reply.Snapped n s) ns k = absurd k
shows_any (reply.Swept j s) ns k = absurd k
shows_any (reply.Freed s) ns k = absurd k
shows_any (reply.Took s) ns k = absurd k
shows_any r ns k = tt

begins_any : (l : Lists) (r : Reply) (ns : List ℕ) → IsUnlisted r → BeginsAt l r ns
begins_any l (reply.Snapped n s) ns k = absurd k
begins_any l (reply.Swept j s) ns k = absurd k
begins_any l (reply.Freed s) ns k = absurd k
begins_any l (reply.Took s) ns k = absurd k
begins_any l r ns k = tt

grows_none : (l : Lists) (r : Reply) (ns : List ℕ) → IsUnlisted r → l ≡ grown l r ns
grows_none l (reply.Snapped n s) ns k = absurd k
grows_none l (reply.Swept j s) ns k = absurd k
grows_none l (reply.Freed s) ns k = absurd k
grows_none l (reply.Took s) ns k = absurd k
grows_none l r ns k = refl

pub unlisted_reads : (o : Op) (words : List (List ℕ)) (l : Lists) (t : Reply × Option ℕ) → IsUnlisted t.0 → IsEnd words t.0 t.1 → ReadsTail (IsMeantUnnoticed o) words l l t
unlisted_reads o words l t k e = record {
  numbers = [];
  of_kind = inl k;
  tail = record { fits = e.fits; shown = shows_any t.0 [] k; cites = e.cites; same = e.same ∙ ap (λ z. z ++ cite_words t.1) (sym (plainly t.0 [] k)) };
  begins = begins_any l t.0 [] k;
  grows = grows_none l t.0 [] k;
}

no_unlisted : (words : List (List ℕ)) → NoEnd IsUnlisted words → NoTail IsUnlisted words
no_unlisted words n r ns c k t = n r c k record { fits = t.fits; cites = t.cites; same = t.same ∙ ap (λ z. z ++ cite_words c) (plainly r ns k) }

-- what was read of lists that stayed so far, as of another kind
pub rekind : (K L : Reply → Type 0) (words : List (List ℕ)) (before mid after : Lists) (t : Reply × Option ℕ)
    → mid ≡ before → (ReadsTail K words mid after t → L t.0) → ReadsTail K words mid after t → ReadsTail L words before after t
rekind K L words before mid after t e f w =
    let B : Lists → Type 0 = λ l. BeginsAt l t.0 w.numbers in
    let G : Lists → Type 0 = λ l. after ≡ grown l t.0 w.numbers in
    record { numbers = w.numbers; of_kind = f w; tail = w.tail; begins = subst B e w.begins; grows = subst G e w.grows }

-- numbers that are as many as none, or as one
no_count : (ns : List ℕ) (n : ℕ) → n ≡ length ns → n ≡ 0 → ns ≡ []
no_count ns n e f = nil_from_length ns (omega (arith, e, f))

one_count : (ns : List ℕ) (n : ℕ) → n ≡ length ns → n ≡ 1 → (m : ℕ) × (ns ≡ m ∷ [])
one_count [] n e f = absurd (omega (arith, e, f))
one_count (m ∷ ns) n e f = (m, ap (λ t. m ∷ t) (nil_from_length ns (omega (arith, e, f))))

empty_list : IsList true []
empty_list = record { short = All-nil Short; rises = λ e. tt }

-- an empty list of objects is one of peers too, and the other way
not_empty_snapped : (words : List (List ℕ)) (a b : Lists) (n : ℕ) (s : Span) (c : Option ℕ) → NoTail IsSwept words → ReadsTail IsSnapped words a b (reply.Snapped n s, c) → IsNot 0 s
not_empty_snapped words a b n s c k w e =
    let none = no_count w.numbers s.count w.begins.1 e in
    let S : List ℕ → Type 0 = λ ns. Said (reply.Snapped n s) words ns c in
    k (reply.Swept record { 0 = n } s) [] c tt record { fits = w.tail.fits; shown = empty_list; cites = w.tail.cites; same = subst S none w.tail.same }

not_empty_swept : (words : List (List ℕ)) (a b : Lists) (j : Marking) (s : Span) (c : Option ℕ) → NoTail IsSnapped words → ReadsTail IsSwept words a b (reply.Swept j s, c) → IsNot 0 s
not_empty_swept words a b j s c k w e =
    let none = no_count w.numbers s.count w.begins.1 e in
    let S : List ℕ → Type 0 = λ ns. Said (reply.Swept j s) words ns c in
    k (reply.Snapped j.0 s) [] c tt record { fits = w.tail.fits; shown = empty_list; cites = w.tail.cites; same = subst S none w.tail.same }

meant_after_swept : (o : Op) (words : List (List ℕ)) (a b : Lists) (t : Reply × Option ℕ) → IsSweep o → NoTail IsSwept words → ReadsTail IsSnapped words a b t → IsMeantNumbered o t.0
meant_after_swept op.Sweep words a b (reply.Snapped n s, c) i k w = (inl tt, not_empty_snapped words a b n s c k w)
meant_after_swept op.Sweep words a b (r, c) i k w = absurd w.of_kind
meant_after_swept o words a b t i k w = absurd i

meant_after_snapped : (o : Op) (words : List (List ℕ)) (a b : Lists) (t : Reply × Option ℕ) → (IsSweep o → ⊥) → NoTail IsSnapped words → ReadsTail IsSwept words a b t → IsMeantNumbered o t.0
meant_after_snapped op.Sweep words a b t i k w = absurd (i tt)
meant_after_snapped (op.Line (act.Finalise f)) words a b (reply.Swept j s, c) i k w = (inr tt, not_empty_swept words a b j s c k w)
meant_after_snapped o words a b (reply.Swept j s, c) i k w = (inr tt, not_empty_swept words a b j s c k w)
meant_after_snapped o words a b (r, c) i k w = absurd w.of_kind

swept_of_sweep : (o : Op) (r : Reply) → IsSweep o → IsSwept r → IsMeantNumbered o r
swept_of_sweep op.Sweep (reply.Swept j s) i k = (inr tt, tt)
swept_of_sweep op.Sweep r i k = absurd k
swept_of_sweep o r i k = absurd i

snapped_of_other : (o : Op) (r : Reply) → (IsSweep o → ⊥) → IsSnapped r → IsMeantNumbered o r
snapped_of_other op.Sweep r i k = absurd (i tt)
snapped_of_other (op.Line (act.Finalise f)) (reply.Snapped n s) i k = (inl tt, tt)
snapped_of_other o (reply.Snapped n s) i k = (inl tt, tt)
snapped_of_other o r i k = absurd k

-- what a sweep freed, or else what a snapshot did
pub sweep_first : (o : Op) (words : List (List ℕ)) (a b : Lists) (t : Reply × Option ℕ) → IsSweep o → ReadsTail IsSwept words a b t → ReadsTail (IsMeantNumbered o) words a b t
sweep_first o words a b t i w = rekind IsSwept (IsMeantNumbered o) words a a b t refl (λ v. swept_of_sweep o t.0 i v.of_kind) w

pub sweep_then : (o : Op) (words : List (List ℕ)) (a m b : Lists) (found : Option (Reply × Option ℕ))
    → IsSweep o → (m ≡ a) × NoTail IsSwept words → Tails IsSnapped words m b found → TailsNumbered o words a b found
sweep_then o words a m b None i n h = (h.0 ∙ n.0, λ r ns c k t. elim k [ inl x ↦ h.1 r ns c x t | inr x ↦ n.1 r ns c x t ])
sweep_then o words a m b (Some t) i n h = rekind IsSnapped (IsMeantNumbered o) words a m b t n.0 (meant_after_swept o words m b t i n.1) h

-- what a snapshot freed, or else what a sweep did
pub snap_first : (o : Op) (words : List (List ℕ)) (a b : Lists) (t : Reply × Option ℕ) → (IsSweep o → ⊥) → ReadsTail IsSnapped words a b t → ReadsTail (IsMeantNumbered o) words a b t
snap_first o words a b t i w = rekind IsSnapped (IsMeantNumbered o) words a a b t refl (λ v. snapped_of_other o t.0 i v.of_kind) w

pub snap_then : (o : Op) (words : List (List ℕ)) (a m b : Lists) (found : Option (Reply × Option ℕ)) → (IsSweep o → ⊥)
    → (m ≡ a) × NoTail IsSnapped words → Tails IsSwept words m b found → TailsNumbered o words a b found
snap_then o words a m b None i n h = (h.0 ∙ n.0, λ r ns c k t. elim k [ inl x ↦ n.1 r ns c x t | inr x ↦ h.1 r ns c x t ])
snap_then o words a m b (Some t) i n h = rekind IsSwept (IsMeantNumbered o) words a m b t n.0 (meant_after_snapped o words m b t i n.1) h

-- what a resolution freed, or else one of these
freed_meant : (o : Op) (r : Reply) → IsFreed r → IsMeantListed o r
freed_meant (op.Line (act.Finalise f)) (reply.Freed s) k = (inl tt, tt)
freed_meant op.Sweep (reply.Freed s) k = (inl tt, tt)
freed_meant o (reply.Freed s) k = (inl tt, tt)
freed_meant o r k = absurd k

pub freed_first : (o : Op) (words : List (List ℕ)) (a b : Lists) (t : Reply × Option ℕ) → ReadsTail IsFreed words a b t → ReadsTail (IsMeantListed o) words a b t
freed_first o words a b t w = rekind IsFreed (IsMeantListed o) words a a b t refl (λ v. freed_meant o t.0 v.of_kind) w

pub freed_then : (o : Op) (words : List (List ℕ)) (a m b : Lists) (found : Option (Reply × Option ℕ)) → (m ≡ a) × NoTail IsFreed words → TailsNumbered o words m b found → TailsListed o words a b found
freed_then o words a m b None n h = (h.0 ∙ n.0, λ r ns c k t. elim k [ inl x ↦ n.1 r ns c x t | inr x ↦ h.1 r ns c x t ])
freed_then o words a m b (Some t) n h = rekind (IsMeantNumbered o) (IsMeantListed o) words a m b t n.0 (λ v. (inr v.of_kind.0, v.of_kind.1)) h

-- a reply without a list, or else one with a list that isn't one of notices
pub unlisted_then : (o : Op) (words : List (List ℕ)) (a b : Lists) (found : Option (Reply × Option ℕ)) → NoEnd IsUnlisted words → TailsListed o words a b found → TailsUnnoticed o words a b found
unlisted_then o words a b None n h = (h.0, λ r ns c k t. elim k [ inl x ↦ no_unlisted words n r ns c x t | inr x ↦ h.1 r ns c x t ])
unlisted_then o words a b (Some t) n h = rekind (IsMeantListed o) (IsMeantUnnoticed o) words a a b t refl (λ v. inr v.of_kind) h

-- each reply has a list of notices or none
all_kinds : (r : Reply) → IsUnnoticed r ⊎ IsTook r
all_kinds (reply.Snapped n s) = inl (inr (inr (inl tt)))
all_kinds (reply.Swept j s) = inl (inr (inr (inr tt)))
all_kinds (reply.Freed s) = inl (inr (inl tt))
all_kinds (reply.Took s) = inr tt
all_kinds r = inl (inl tt)

no_tail : (words : List (List ℕ)) → NoTail IsUnnoticed words → NoTail IsTook words → (r : Reply) (ns : List ℕ) (c : Option ℕ) → IsTail words r ns c → ⊥
no_tail words n k r ns c t = elim (all_kinds r) [ inl x ↦ n r ns c x t | inr x ↦ k r ns c x t ]

-- an object is a list of one
one_object : (words : List (List ℕ)) (m : MNum) (ns : List ℕ) (c : Option ℕ) → NoTail IsTook words → IsTail words (reply.M m) ns c → ⊥
one_object words m ns c n t =
    n (reply.Took record { first = 0; count = 1 }) (m.0 ∷ []) c tt
    record { fits = (omega arith, omega arith); shown = record { short = All-cons Short m.0 [] t.fits (All-nil Short); rises = λ e. (All-nil _, tt) }; cites = t.cites; same = t.same }

meant_of_finalise : (o : Op) (r : Reply) (c : Option ℕ) (words : List (List ℕ)) (a b : Lists) → IsFinalise o → NoTail IsTook words → ReadsTail (IsMeantUnnoticed o) words a b (r, c) → IsMeant o r
meant_of_finalise (op.Line (act.Finalise k)) (reply.M m) c words a b i n w = one_object words m w.numbers c n w.tail
meant_of_finalise (op.Line (act.Finalise k)) (reply.Took s) c words a b i n w = tt
meant_of_finalise (op.Line (act.Finalise k)) (reply.Swept j s) c words a b i n w = elim w.of_kind [ inl x ↦ absurd x | inr x ↦ x.1 ]
meant_of_finalise (op.Line (act.Finalise k)) r c words a b i n w = tt
meant_of_finalise o r c words a b i n w = absurd i

meant_of_other : (o : Op) (r : Reply) (c : Option ℕ) (words : List (List ℕ)) (a b : Lists) → (IsFinalise o → ⊥) → ReadsTail (IsMeantUnnoticed o) words a b (r, c) → IsMeant o r
meant_of_other o r c words a b i w = by o r i w.of_kind
  where
    by : (o : Op) (r : Reply) → (IsFinalise o → ⊥) → IsMeantUnnoticed o r → IsMeant o r
    by o r i (inr x) = x.1
    by (op.Line (act.Finalise k)) r i (inl x) = absurd (i tt)
    by o (reply.Snapped n s) i (inl x) = absurd x
    by o (reply.Swept j s) i (inl x) = absurd x
    by o (reply.Freed s) i (inl x) = absurd x
    by o (reply.Took s) i (inl x) = absurd x
    by o r i (inl x) = tt

-- the whole: of a finalise a list of notices first, of all else last
took_of_finalise : (o : Op) (r : Reply) → IsFinalise o → IsTook r → IsMeant o r
took_of_finalise (op.Line (act.Finalise k)) (reply.Took s) i x = tt
took_of_finalise (op.Line (act.Finalise k)) r i x = absurd x
took_of_finalise o r i x = absurd i

pub notices_first : (o : Op) (words : List (List ℕ)) (a b : Lists) (t : Reply × Option ℕ) → IsFinalise o → ReadsTail IsTook words a b t → ReadsTail (IsMeant o) words a b t
notices_first o words a b t i w = rekind IsTook (IsMeant o) words a a b t refl (λ v. took_of_finalise o t.0 i v.of_kind) w

pub notices_else : (o : Op) (words : List (List ℕ)) (a m b : Lists) (found : Option (Reply × Option ℕ))
    → IsFinalise o → (m ≡ a) × NoTail IsTook words → TailsUnnoticed o words m b found → TailsMeant o words a b found
notices_else o words a m b None i n h = (h.0 ∙ n.0, no_tail words h.1 n.1)
notices_else o words a m b (Some t) i n h = rekind (IsMeantUnnoticed o) (IsMeant o) words a m b t n.0 (meant_of_finalise o t.0 t.1 words m b i n.1) h

pub unnoticed_first : (o : Op) (words : List (List ℕ)) (a b : Lists) (t : Reply × Option ℕ) → (IsFinalise o → ⊥) → ReadsTail (IsMeantUnnoticed o) words a b t → ReadsTail (IsMeant o) words a b t
unnoticed_first o words a b t i w = rekind (IsMeantUnnoticed o) (IsMeant o) words a a b t refl (meant_of_other o t.0 t.1 words a b i) w

-- a list of one notice is an object
took_after : (o : Op) (words : List (List ℕ)) (a b : Lists) (t : Reply × Option ℕ) → (IsFinalise o → ⊥) → NoTail IsUnnoticed words → ReadsTail IsTook words a b t → IsMeant o t.0
took_after (op.Line (act.Finalise k)) words a b t i n w = absurd (i tt)
took_after o words a b (reply.Took s, c) i n w = λ e. (let one = one_count w.numbers s.count w.begins.1 e in
    let S : List ℕ → Type 0 = λ ns. Said (reply.Took s) words ns c in
    let L : List ℕ → Type 0 = λ ns. All Short ns in
    n (reply.M record { 0 = one.0 }) [] c (inl tt) record { fits = All-head Short one.0 [] (subst L one.1 w.tail.shown.short); shown = tt; cites = w.tail.cites; same = subst S one.1 w.tail.same })
took_after o words a b (r, c) i n w = absurd w.of_kind

pub notices_last : (o : Op) (words : List (List ℕ)) (a m b : Lists) (found : Option (Reply × Option ℕ))
    → (IsFinalise o → ⊥) → (m ≡ a) × NoTail IsUnnoticed words → Tails IsTook words m b found → TailsMeant o words a b found
notices_last o words a m b None i n h = (h.0 ∙ n.0, no_tail words n.1 h.1)
notices_last o words a m b (Some t) i n h = rekind IsTook (IsMeant o) words a m b t n.0 (took_after o words m b t i n.1) h

-- what holds of a result, where it is one
pub if_ok : {A E : Type 0} (P Q : A → Type 0) (r : Result A E) → IfOk r P → ((x : A) → P x → Q x) → IfOk r Q
if_ok P Q (Ok x) h f = f x h
if_ok P Q (Err e) h f = tt
