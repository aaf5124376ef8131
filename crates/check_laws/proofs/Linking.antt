-- A history is legal exactly where it is linked. The past of a legal one, turned round, is the list of notes that links
-- it; and the notes that link one, told plainly, are a past in order.
use Rattle.std.proofs.Common.{◌≡◌, inl, ℕ, zero, suc, ◌+◌, ◌≤◌, Bool, true, false, List, [], ◌∷◌, ◌++◌, length, take, drop, Option, Some, refl, sym, ap, ◌∙◌, subst, arith, append_assoc, length-take}
use Rattle.std.specs.Prelude.{slice_get, sum_by}
use Rattle.std.proofs.lemmas.List.{append-nil, take-map}
use Rattle.std.proofs.Math.Seq.{take-append_seam}
use Rattle.joint_machine.specs.declared.names.MNum.{MNum}
use Rattle.joint_machine.specs.declared.names.PNum.{PNum}
use Rattle.joint_machine.specs.declared.names.Span.{Span}
use Rattle.joint_machine.specs.declared.events.Reply.{Reply}
use Rattle.joint_machine.specs.declared.events.Reply.TheVariants as says
use Rattle.joint_machine.specs.Histories.{Finished, managed_numbers, peer_numbers, NumberedFrom}
use Rattle.joint_machine.specs.Lines.{is_read}
use Rattle.joint_machine.specs.Linked.{Linkage, IsWhole, opening_linkage}
use Rattle.joint_machine.specs.LinkedHistories.{IsLinkedBy, managed_end, linked_end}
use Rattle.joint_machine.specs.Readers.{EntryMayCome, replayed_reading, AllMayComeReading}
use Rattle.joint_machine.specs.Told.{Told, Noted}
use Rattle.joint_laws.specs.Afterwards.{reading_at}
use Rattle.joint_laws.specs.Spans.{IsStretch, TakesNamed, TellsNamed}
use Rattle.joint_laws.proofs.ReadingsTold.{told_is_named, notices_are_named}
use Rattle.joint_laws.proofs.ReadsAside.{linked_is_complete}
use Rattle.known_laws.specs.PastEntries.{TellsPlainly, entries, turned}
use Rattle.known_laws.proofs.Ending.{turned_twice}
use Rattle.check_laws.specs.declared.findings.Finding.TheVariants as finding
use Rattle.check_laws.specs.Behind.{in_turn, state_of, NamesSo, GivesSnap, ReadsBehind, RepliesBehind, IsInOrderBehind, AllInOrder}
use Rattle.check_laws.specs.Found.{objects_in, peers_in, as_named, LegalIsLinked, LinkedRuns}
use Rattle.check_laws.specs.Findings.{IsAllInOrder, IsFinding, NothingFollows}
use Rattle.check_laws.specs.Reads.{ComesBehind, AllComeBehind, AllReadBehind, AllReadOver}
use Rattle.check_laws.proofs.Naming.{all_over, names_lists}
use Rattle.check_laws.proofs.OneFinding.{turned-append, turned-onto, length-turned}
use Rattle.check_laws.proofs.Ordering.{order_tested}
use Rattle.check_laws.proofs.Readers.{reader_tested}
use Rattle.check_laws.proofs.Retold.{AllPlainly, plainly_linked}
use Rattle.check_laws.proofs.Tested.{cell-read, at-get, at-more, readers_tested}
use Rattle.check_laws.proofs.Turned.{all_come, in_place, lawful-turned, ends-onto}

-- a legal history is linked
linked-by : (h : Finished) → NumberedFrom 0 h.entries → (past : List Noted) → IsAllInOrder h past → NothingFollows past → IsLinkedBy (as_named h) (in_turn past)
linked-by h m past o f =
    let ends : linked_end (in_turn past) ≡ state_of past = ends-onto past [] in
    let lists = names_lists h past m o f in
    record {
      same = o.same;
      numbers = m;
      lawful = subst (λ (z : Linkage). AllMayComeReading (in_turn past) z.managed.managed.cells opening_linkage (in_turn past)) (sym ends)
          (lawful-turned (in_turn past) (state_of past).managed.managed.cells past (all_come h past o.order) (all_over h past m o f));
      whole = subst IsWhole (sym ends) f.whole;
      freed_managed = lists.objects ∙ ap (λ (z : Linkage). z.managed.managed.heap.freed) (sym ends);
      freed_peers = lists.peers ∙ ap (λ (z : Linkage). z.peer.peers.heap.freed) (sym ends);
      notices = subst (λ (z : Linkage). take z.managed.managed.taken (managed_numbers h.notices) ≡ take z.managed.managed.taken z.managed.managed.notices) (sym ends) lists.notices;
    }

-- what a reply names in a beginning of a list it names in the list
take-less : {A : Type 0} (n m : ℕ) (xs : List A) → n ≤ m → take n (take m xs) ≡ take n xs
take-less zero m xs l = refl
take-less (suc n) zero xs l = absurd (omega (arith, l))
take-less (suc n) (suc m) [] l = refl
take-less (suc n) (suc m) (x ∷ xs) l = ap (λ z. x ∷ z) (take-less n m xs (omega (arith, l)))

drop-take-less : {A : Type 0} (f c n : ℕ) (xs : List A) → f + c ≤ n → take c (drop f (take n xs)) ≡ take c (drop f xs)
drop-take-less zero c n xs l = take-less c n xs (omega (arith, l))
drop-take-less (suc f) c zero xs l = absurd (omega (arith, l))
drop-take-less (suc f) c (suc n) [] l = refl
drop-take-less (suc f) c (suc n) (x ∷ xs) l = drop-take-less f c n xs (omega (arith, l))

longer : (n : ℕ) (list : List ℕ) (span : Span) (numbers : List ℕ) → IsStretch (take n list) span numbers → IsStretch list span numbers
longer n list span numbers s =
    let low = s.within in
    let many = length-take n list in
    record { within = omega (arith, low, many); named = s.named ∙ drop-take-less span.first span.count n list (omega (arith, low, many)) }

tells-longer : (n m : ℕ) (ms ps : List ℕ) (r : Reply) (told : Told) → TellsNamed (take n ms) (take m ps) r told → TellsNamed ms ps r told
tells-longer n m ms ps (says.Snapped count span) told w = record {
  freed = w.freed;
  candidates = w.candidates;
  dead = w.dead;
  is = w.is;
  counted = w.counted;
  rises = w.rises;
  stands = longer n ms span w.freed w.stands;
}
tells-longer n m ms ps (says.Swept j span) told w = record { freed = w.freed; is = w.is; rises = w.rises; stands = longer m ps span w.freed w.stands }
tells-longer n m ms ps (says.Freed span) told w = record { alive = w.alive; freed = w.freed; is = w.is; rises = w.rises; stands = longer n ms span w.freed w.stands }
tells-longer n m ms ps r told w = w

named-so : (h : Finished) (r : Reply) (told : Told) → TellsNamed (managed_numbers (as_named h).freed_managed) (peer_numbers (as_named h).freed_peers) r told
    → TellsNamed (managed_numbers h.freed_managed) (peer_numbers h.freed_peers) r told
named-so h r told w =
    let n = sum_by (λ e. objects_in e.made.reply) h.entries in
    let m = sum_by (λ e. peers_in e.made.reply) h.entries in
    tells-longer n m (managed_numbers h.freed_managed) (peer_numbers h.freed_peers) r told
    (subst (λ z. TellsNamed z (take m (peer_numbers h.freed_peers)) r told) (sym (take-map (λ (x : MNum). x.0) n h.freed_managed))
    (subst (λ z. TellsNamed (managed_numbers (as_named h).freed_managed) z r told) (sym (take-map (λ (x : PNum). x.0) m h.freed_peers)) w))

-- notes turned round are a past
module _ (whole : List Noted) (cells : List (Option ℕ)) where
  record Turned (past : List Noted) : Type 0 where
    come : AllComeBehind past
    over : AllReadOver whole cells past

  entry-turned : (past : List Noted) (n : Noted) → EntryMayCome (is_read n.entry.made.op) whole cells (state_of past) n → Turned past → Turned (n ∷ past)
  entry-turned past n w t = by (is_read n.entry.made.op) refl w
    where
      by : (b : Bool) → is_read n.entry.made.op ≡ b → EntryMayCome b whole cells (state_of past) n → Turned (n ∷ past)
      by true e w = record { come = (subst (λ b. ComesBehind b (state_of past) n) (sym e) w.0, t.come); over = (w.1, t.over) }
      by false e w = record { come = (subst (λ b. ComesBehind b (state_of past) n) (sym e) w, t.come); over = ((λ k c. absurd (false-true (cell-read n.entry.made.op k c) e)), t.over) }
        where
          false-true : {b : Bool} → b ≡ true → b ≡ false → ⊥
          false-true p q = cc

  all-turned : (ns past : List Noted) → AllMayComeReading whole cells (state_of past) ns → Turned past → Turned (turned past ns)
  all-turned [] past w t = t
  all-turned (n ∷ ns) past w t = all-turned ns (n ∷ past) w.1 (entry-turned past n w.0 t)

-- told plainly
abbrev PlainPast : List Noted → Type 0
PlainPast [] = Unit {0}
PlainPast (n ∷ past) = (is_read n.entry.made.op ≡ false → TellsPlainly (state_of past).control.stand n.entry.made.op n.told) × PlainPast past

plain-turned : (ns past : List Noted) → AllPlainly (state_of past) ns → PlainPast past → PlainPast (turned past ns)
plain-turned [] past a p = p
plain-turned (n ∷ ns) past a p = plain-turned ns (n ∷ past) a.1 (a.0, p)

-- the entries before one
first-of : (front : List Noted) (n : Noted) (back : List Noted) → take (length back) (in_turn (front ++ n ∷ back)) ≡ in_turn back
first-of front n back =
    let whole : in_turn (front ++ n ∷ back) ≡ in_turn back ++ (n ∷ turned [] front) =
    turned-append front (n ∷ back) ∙ (ap (λ z. z ++ turned [] front) (turned-onto (n ∷ []) back) ∙ append_assoc (turned [] back) (n ∷ []) (turned [] front)) in
    let many : length (in_turn back) ≡ length back = (let a = length-turned [] back in omega (arith, a)) in
    ap (λ z. take (length back) z) whole ∙ (ap (λ k. take k (in_turn back ++ (n ∷ turned [] front))) (sym many) ∙ take-append_seam (in_turn back) (n ∷ turned [] front))

module _ (h : Finished) (notes : List Noted) (l : IsLinkedBy (as_named h) notes) where
  names-in : (front : List Noted) (n : Noted) (back : List Noted) → notes ≡ in_turn (front ++ n ∷ back) → NamesSo h (state_of back).managed.managed n
  names-in front n back e =
      let there : slice_get notes (length back) ≡ Some n = subst (λ z. slice_get z (length back) ≡ Some n) (sym e)
      (at-get (front ++ n ∷ back) (length back) n (at-more front (n ∷ back) (length back) n (inl (refl, refl)))) in
      let state : reading_at notes (length back) ≡ state_of back = ap (λ z. reading_at z (length back)) e
      ∙ (ap (λ z. replayed_reading opening_linkage z) (first-of front n back) ∙ ends-onto back []) in
      record {
        freed = named-so h n.entry.made.reply n.told (told_is_named (as_named h) notes l (length back) n there);
        taken = λ span took. subst (λ (z : Linkage). TakesNamed (managed_numbers h.notices) z.managed.managed span) state (notices_are_named (as_named h) notes l (length back) n span there took);
      }

  entry-order : (front : List Noted) (n : Noted) (back : List Noted) → notes ≡ in_turn (front ++ n ∷ back) → ComesBehind (is_read n.entry.made.op) (state_of back) n
      → (is_read n.entry.made.op ≡ false → TellsPlainly (state_of back).control.stand n.entry.made.op n.told) → ReadsBehind back n → GivesSnap back n → IsInOrderBehind h back n
  entry-order front n back e w plain reads gives = by (is_read n.entry.made.op) refl w
    where
      by : (b : Bool) → is_read n.entry.made.op ≡ b → ComesBehind b (state_of back) n → IsInOrderBehind h back n
      by true q w =
          let o = (reader_tested (state_of back) n q).1 w in
          record { turn = o.0; cites = o.1; replies = subst (λ b. RepliesBehind b h back n) (sym q) (record { bare = o.2; reply = reads }) }
      by false q w =
          let o = (order_tested (state_of back) n).1 w in
          record {
            turn = o.turn;
            cites = o.cites;
            replies = subst (λ b. RepliesBehind b h back n) (sym q)
                (record { replies = o.replies; plain = plain q; names = names-in front n back e; snap = gives });
          }

  all-order : (front past : List Noted) → notes ≡ in_turn (front ++ past) → AllComeBehind past → PlainPast past → AllReadBehind past → AllInOrder h past
  all-order front [] e w p r = tt
  all-order front (n ∷ past) e w p r = (
    entry-order front n past e w.0 p.0 r.0.0 r.0.1,
    all-order (front ++ n ∷ []) past (e ∙ ap in_turn (sym (append_assoc front (n ∷ []) past))) w.1 p.1 r.1,
  )

-- a linked history is legal
legal-by : (h : Finished) → NumberedFrom 0 h.entries → (notes : List Noted) → IsLinkedBy (as_named h) notes → AllPlainly opening_linkage notes → IsFinding h finding.Legal
legal-by h m notes l plain =
    let past = turned [] notes in
    let same : in_turn past ≡ notes = turned_twice [] [] notes ∙ append-nil notes in
    let t = all-turned notes (managed_end notes).cells notes [] l.lawful (record { come = tt; over = tt }) in
    let ends : linked_end notes ≡ state_of past = ap linked_end (sym same) ∙ ends-onto past [] in
    let p = plain-turned notes [] plain tt in
    let place = in_place past (subst (NumberedFrom 0) (sym (ap entries same ∙ l.same)) m) in
    let over : AllReadOver (in_turn past) (state_of past).managed.managed.cells past =
    subst (λ z. AllReadOver z (state_of past).managed.managed.cells past) (sym same) (subst (λ (z : Linkage). AllReadOver notes z.managed.managed.cells past) ends t.over) in
    let r = (readers_tested past t.come place).1 over in (
      past,
      record { same = ap entries same ∙ l.same; order = all-order h notes l [] past (sym same) t.come p r.0 },
      record { whole = subst IsWhole ends l.whole; snapped = r.1 },
    )

pub legal_linked : LegalIsLinked
legal_linked h m = (
  λ f. record { noted = in_turn f.0; linked = linked-by h m f.0 f.1 f.2 },
  λ l. let p = plainly_linked (as_named h) l.noted l.linked in legal-by h m p.notes p.linked p.plain,
)

pub linked_runs : LinkedRuns
linked_runs h l = record { noted = l.noted; linked = l.linked; runs = linked_is_complete h l.noted l.linked }
