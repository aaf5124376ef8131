-- A past in order, turned round, is lawful with reads, whether or not a `pending` still waits for its snap; and of each
-- entry the freed rows that are told are those that its reply names.
use Rattle.std.proofs.Common.{◌≡◌, ◌⊎◌, inl, inr, ℕ, zero, suc, ◌≤◌, Bool, true, false, List, [], ◌∷◌, ◌++◌, length, map, take, Some, None, refl, sym, ap, subst, ◌∙◌, arith}
use Rattle.std.proofs.lemmas.List.{take-map, drop-map}
use Rattle.std.proofs.lemmas.Option.{same_Some}
use Rattle.std.proofs.Math.Seq.{take-append_seam}
use Rattle.joint_machine.specs.declared.names.Span.{Span}
use Rattle.joint_machine.specs.declared.names.Thread.{Thread}
use Rattle.joint_machine.specs.declared.names.Thread.TheVariants.{C}
use Rattle.joint_machine.specs.declared.events.Op.TheVariants as op
use Rattle.joint_machine.specs.declared.events.Reply.{Reply}
use Rattle.joint_machine.specs.declared.events.Reply.TheVariants as says
use Rattle.joint_machine.specs.Histories.{Finished, managed_numbers, peer_numbers, NumberedFrom, stretch}
use Rattle.joint_machine.specs.Lines.{is_read}
use Rattle.joint_machine.specs.Managed.{Managed}
use Rattle.joint_machine.specs.Readers.{IsReadReply, SetsCell, FreesObject}
use Rattle.joint_machine.specs.Told.{Told, nothing, snap_of, sweep_of, resolution_of, Noted}
use Rattle.joint_laws.specs.ReadingLaws.{IsLawfulReading}
use Rattle.joint_laws.specs.Spans.{TellsNamed, TellsNoneFreed}
use Rattle.known_laws.specs.PastEntries.{entries, turned}
use Rattle.check_laws.specs.Behind.{in_turn, state_of, IsReplyBehind, RepliesBehind, IsInOrderBehind, AllInOrder}
use Rattle.check_laws.specs.Known.{PastAt, IsEntryAt}
use Rattle.check_laws.specs.Reads.{AreInPlace, AllReadBehind, AllReadOver}
use Rattle.check_laws.proofs.Knowing.{split}
use Rattle.check_laws.proofs.Naming.{all_read}
use Rattle.check_laws.proofs.OneFinding.{turned-append, entries-append, entries-length}
use Rattle.check_laws.proofs.Tested.{at-get}
use Rattle.check_laws.proofs.Turned.{all_come, in_place, lawful-turned}
use Rattle.joint_replay.specs.Judging.{IsTold}
use Rattle.picture_laws.proofs.Going.{AllNamed}

-- A lawful list with reads is one whatever whole history its reads are judged by. Here each `pending` has its snap in
-- its own place, and nothing else happens.
abbrev waited_for : Reply → ℕ
waited_for (says.Pending c) = c.0
waited_for _ = 0

abbrev snap_note : ℕ → Noted
snap_note k = record {
  entry = record { number = 0; made = record { caller = C; index = 0; op = op.Snap record { 0 = k }; reply = says.Ok; cites = None } };
  told = nothing;
}

abbrev snap_for : Noted → Noted
snap_for n = snap_note (waited_for n.entry.made.reply)

snaps_at : (ns : List Noted) (i : ℕ) (n : Noted) → IsEntryAt ns i n → IsEntryAt (map snap_for ns) i (snap_for n)
snaps_at [] i n e = absurd (let f : None ≡ Some n = e in cc)
snaps_at (x ∷ ns) zero n e = ap (λ z. Some (snap_for z)) (same_Some x n e)
snaps_at (x ∷ ns) (suc i) n e = snaps_at ns i n e

only_snaps : (ns : List Noted) (i : ℕ) (x : Noted) → IsEntryAt (map snap_for ns) i x → (k : ℕ) × (snap_note k ≡ x)
only_snaps [] i x e = absurd (let f : None ≡ Some x = e in cc)
only_snaps (n ∷ ns) zero x e = (waited_for n.entry.made.reply, same_Some (snap_for n) x e)
only_snaps (n ∷ ns) (suc i) x e = only_snaps ns i x e

module _ (ns : List Noted) where
  abbrev whole : List Noted
  whole = map snap_for ns

  -- the kinds of entries that there aren't
  not-set : (i k : ℕ) (x : Noted) → IsEntryAt whole i x → SetsCell x.entry.made.op k → ⊥
  not-set i k x e s = (let q = only_snaps ns i x e in subst (λ (z : Noted). SetsCell z.entry.made.op k) (sym q.1) s)

  not-freed : (i m : ℕ) (x : Noted) → IsEntryAt whole i x → FreesObject x.told m → ⊥
  not-freed i m x e f = (let q = only_snaps ns i x e in subst (λ (z : Noted). FreesObject z.told m) (sym q.1) f)

  not-ended : (i k : ℕ) (x : Noted) → IsEntryAt whole i x → (x.entry.made.op ≡ op.Resolve record { 0 = k }) ⊎ (x.entry.made.op ≡ op.Abandon record { 0 = k }) → ⊥
  not-ended i k x e w =
      let q = only_snaps ns i x e in
      let o : op.Snap record { 0 = q.0 } ≡ x.entry.made.op = ap (λ (z : Noted). z.entry.made.op) q.1 in
      elim w [
        | inl r ↦ (let f : op.Snap record { 0 = q.0 } ≡ op.Resolve record { 0 = k } = o ∙ r in cc)
        | inr r ↦ (let f : op.Snap record { 0 = q.0 } ≡ op.Abandon record { 0 = k } = o ∙ r in cc)
      ]

  reply-over : (past : List Noted) (s : Managed) (i : ℕ) (t : Thread) (k : ℕ) (r : Reply) → IsEntryAt whole i (snap_note (waited_for r))
      → IsReplyBehind past s i t k r → IsReadReply whole [] s i t k r
  reply-over past s i t k (says.Pending c) at w = (
    w.0,
    record {
      snap = i;
      snaps = record { element = snap_note c.0; there = at; is = refl };
      early = λ j l m. l;
      unknown = λ j l e b m x. not-ended j c.0 e.element e.there e.is;
    },
  )
  reply-over past s i t k says.Unset at w = (
    w.0,
    record {
      unknown = λ j l e b m x. not-set j k e.element e.there e.is.0;
      not_own = λ j e b m. not-set j k e.element e.there e.is.0;
      target_unfreed = λ m j e f b. not-freed j m f.element f.there f.is;
    },
  )
  reply-over past s i t k _ at w = w

  all-over : (past : List Noted) → AreInPlace past → AllReadBehind past → ((i : ℕ) (n : Noted) → PastAt past i n → IsEntryAt ns i n) → AllReadOver whole [] past
  all-over [] p r at = tt
  all-over (n ∷ past) p r at = (
    λ k c. reply-over past (state_of past).managed.managed n.entry.number n.entry.made.caller k n.entry.made.reply
        (snaps_at ns n.entry.number n (at n.entry.number n (inl (p.0, refl)))) (r.0.0 k c),
    all-over past p.1 r.1 (λ i m a. at i m (inr a)),
  )

pub order_is_lawful : (h : Finished) (past : List Noted) → NumberedFrom 0 (entries (in_turn past)) → AllInOrder h past → IsLawfulReading (in_turn past)
order_is_lawful h past m o = (
  whole (in_turn past),
  [],
  lawful-turned (whole (in_turn past)) [] past (all_come h past o) (all-over (in_turn past) past (in_place past m) (all_read h past o) (at-get past)),
)

-- what an entry in order tells of freed rows its reply names
named-so : {A : Type 0} (f : A → ℕ) (xs : List A) (s : Span) (numbers : List ℕ) → numbers ≡ stretch (map f xs) s → numbers ≡ map f (stretch xs s)
named-so f xs s numbers e = e ∙ (ap (λ z. take s.count z) (drop-map f s.first xs) ∙ take-map f s.count _)

none-told : (h : Finished) (r : Reply) (t : Told) → TellsNoneFreed t → IsTold h r t
none-told h r (snap_of f c d) w = absurd w
none-told h r (sweep_of f) w = absurd w
none-told h r (resolution_of l f) w = absurd w
none-told h r _ w = tt

told-so : (h : Finished) (r : Reply) (t : Told) → TellsNamed (managed_numbers h.freed_managed) (peer_numbers h.freed_peers) r t → IsTold h r t
told-so h (says.Snapped n s) t w = subst (λ z. IsTold h (says.Snapped n s) z) (sym w.is) (named-so (λ m. m.0) h.freed_managed s w.freed w.stands.named)
told-so h (says.Swept j s) t w = subst (λ z. IsTold h (says.Swept j s) z) (sym w.is) (named-so (λ p. p.0) h.freed_peers s w.freed w.stands.named)
told-so h (says.Freed s) t w = subst (λ z. IsTold h (says.Freed s) z) (sym w.is) (named-so (λ m. m.0) h.freed_managed s w.freed w.stands.named)
told-so h r t w = none-told h r t w

named-one : (h : Finished) (past : List Noted) (n : Noted) → IsInOrderBehind h past n → IsTold h n.entry.made.reply n.told
named-one h past n o = by (is_read n.entry.made.op) o.replies
  where
    by : (b : Bool) → RepliesBehind b h past n → IsTold h n.entry.made.reply n.told
    by true r = subst (λ t. IsTold h n.entry.made.reply t) (sym r.bare) tt
    by false r = told-so h n.entry.made.reply n.told r.names.freed

named-onto : (h : Finished) (past acc : List Noted) → AllInOrder h past → AllNamed h acc → AllNamed h (turned acc past)
named-onto h [] acc o m = m
named-onto h (n ∷ past) acc o m = named-onto h past (n ∷ acc) o.1 (named-one h past n o.0, m)

pub order_is_named : (h : Finished) (past : List Noted) → AllInOrder h past → AllNamed h (in_turn past)
order_is_named h past o = named-onto h past [] o tt

-- the first entries of a past, so many of them, are in order too
pub record Cut (h : Finished) (past : List Noted) (k : ℕ) : Type 0 where
  pub front : List Noted
  pub back : List Noted
  pub whole : past ≡ front ++ back
  pub many : length back ≡ k
  pub order : AllInOrder h back

pub cut : (h : Finished) (past : List Noted) (k : ℕ) → k ≤ length past → AllInOrder h past → Cut h past k
cut h [] k l o = record { front = []; back = []; whole = refl; many = omega (arith, l); order = tt }
cut h (n ∷ past) k l o = elim (split k (length (n ∷ past))) [
  | inl less ↦ (let r = cut h past k (omega (arith, less)) o.1 in
      record { front = n ∷ r.front; back = r.back; whole = ap (λ z. n ∷ z) r.whole; many = r.many; order = r.order })
  | inr more ↦ record { front = []; back = n ∷ past; whole = refl; many = omega (arith, l, more); order = o }
]

-- their entries are as many of the whole's
pub cut-entries : (front back : List Noted) → entries (in_turn back) ≡ take (length back) (entries (in_turn (front ++ back)))
cut-entries front back =
    let es = entries (in_turn back) in
    let rest = entries (turned [] front) in
    let whole : entries (in_turn (front ++ back)) ≡ es ++ rest = ap entries (turned-append front back) ∙ entries-append (in_turn back) (turned [] front) in
    sym (ap (λ z. take (length back) z) whole ∙ (ap (λ k. take k (es ++ rest)) (sym (entries-length back)) ∙ take-append_seam es rest))
