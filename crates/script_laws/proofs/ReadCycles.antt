-- A read opens and ends no cycle. So cycles end in a linked history where they do without the reads that are set aside,
-- which is a lawful list.
use Rattle.std.proofs.Common.{◌≡◌, Bool, true, false, List, [], ◌∷◌, refl, sym, subst}
use Rattle.joint_machine.specs.declared.names.Cycle.{Cycle}
use Rattle.joint_machine.specs.declared.events.Op.{Op}
use Rattle.joint_machine.specs.declared.events.Op.TheVariants as op
use Rattle.joint_machine.specs.declared.events.Entry.{Entry}
use Rattle.joint_machine.specs.Histories.{Finished}
use Rattle.joint_machine.specs.Lines.{is_read}
use Rattle.joint_machine.specs.Linked.{opening_linkage}
use Rattle.joint_machine.specs.LinkedHistories.{IsLinkedBy, managed_end}
use Rattle.joint_machine.specs.Readers.{is_aside, is_set_aside}
use Rattle.joint_machine.specs.Told.{Noted}
use Rattle.joint_machine.proofs.Deciding.{and-true}
use Rattle.joint_laws.specs.ReadingLaws.{without_aside}
use Rattle.joint_laws.proofs.ReadsAside.{reading_is_lawful, without-cons}
use Rattle.known_laws.specs.PastEntries.{entries}
use Rattle.script_laws.specs.Closing.{ResolvesLater, ResolveComes, AllCyclesClose}
use Rattle.script_laws.specs.Ending.{ResolvesAs, ResolveOf, IsEnded, AllCyclesEnd}
use Rattle.script_laws.proofs.OwnCycles.{own-ends}
use Rattle.script_laws.proofs.ThreadEnding.{resolves-more, ended-more}

aside-read : (n : Noted) → is_aside n ≡ true → is_read n.entry.made.op ≡ true
aside-read n e = (and-true (is_read n.entry.made.op) (is_set_aside n.entry.made.reply) e).0

-- what a read is asked for
read-later : (o : Op) (L : Type 0) → is_read o ≡ true → ResolvesLater o L → L
read-later (op.Resolve k) L e r = absurd (let g : false ≡ true = e in cc)
read-later (op.Snap k) L e r = absurd r
read-later o L e r = r

read-as : (k : Cycle) (o : Op) (L : Type 0) → is_read o ≡ true → L → ResolvesAs k o L
read-as k (op.Resolve j) L e l = absurd (let g : false ≡ true = e in cc)
read-as k (op.Snap j) L e l = absurd (let g : false ≡ true = e in cc)
read-as k o L e l = l

read-own : (o : Op) (es : List Entry) → is_read o ≡ true → IsEnded o es
read-own (op.Snap k) es e = absurd (let g : false ≡ true = e in cc)
read-own (op.Abandon k) es e = absurd (let g : false ≡ true = e in cc)
read-own o es e = tt

as-more : (k : Cycle) (o : Op) (A B : Type 0) → (A → B) → ResolvesAs k o A → ResolvesAs k o B
as-more k (op.Resolve j) A B f r = r
as-more k (op.Snap j) A B f r = absurd r
as-more k o A B f r = f r

own-more : (o : Op) (es fs : List Entry) → ((k : Cycle) → ResolveOf k es → ResolveOf k fs) → IsEnded o es → IsEnded o fs
own-more (op.Snap k) es fs f r = f k r
own-more (op.Abandon k) es fs f r = absurd r
own-more o es fs f r = tt

-- without the reads that are set aside, and back
comes-without : (ns : List Noted) → ResolveComes (entries ns) → ResolveComes (entries (without_aside ns))
comes-without [] r = r
comes-without (n ∷ ns) r = by (is_aside n) refl (comes-without ns)
  where
    by : (b : Bool) → is_aside n ≡ b → (ResolveComes (entries ns) → ResolveComes (entries (without_aside ns))) → ResolveComes (entries (without_aside (n ∷ ns)))
    by true e f = subst (λ z. ResolveComes (entries z)) (sym (without-cons n ns true e)) (f (read-later n.entry.made.op (ResolveComes (entries ns)) (aside-read n e) r))
    by false e f = subst (λ z. ResolveComes (entries z)) (sym (without-cons n ns false e)) (resolves-more n.entry.made.op (ResolveComes (entries ns)) (ResolveComes (entries (without_aside ns))) f r)

ended-without : (ns : List Noted) → AllCyclesClose (entries ns) → AllCyclesClose (entries (without_aside ns))
ended-without [] d = d
ended-without (n ∷ ns) d = by (is_aside n) refl (ended-without ns d.1)
  where
    by : (b : Bool) → is_aside n ≡ b → AllCyclesClose (entries (without_aside ns)) → AllCyclesClose (entries (without_aside (n ∷ ns)))
    by true e f = subst (λ z. AllCyclesClose (entries z)) (sym (without-cons n ns true e)) f
    by false e f = subst (λ z. AllCyclesClose (entries z)) (sym (without-cons n ns false e)) (ended-more n.entry.made.op (entries ns) (entries (without_aside ns)) (comes-without ns) d.0, f)

resolve-with : (k : Cycle) (ns : List Noted) → ResolveOf k (entries (without_aside ns)) → ResolveOf k (entries ns)
resolve-with k [] r = r
resolve-with k (n ∷ ns) r = by (is_aside n) refl (resolve-with k ns)
  where
    by : (b : Bool) → is_aside n ≡ b → (ResolveOf k (entries (without_aside ns)) → ResolveOf k (entries ns)) → ResolveOf k (entries (n ∷ ns))
    by true e f = read-as k n.entry.made.op (ResolveOf k (entries ns)) (aside-read n e) (f (subst (λ z. ResolveOf k (entries z)) (without-cons n ns true e) r))
    by false e f = as-more k n.entry.made.op (ResolveOf k (entries (without_aside ns))) (ResolveOf k (entries ns)) f (subst (λ z. ResolveOf k (entries z)) (without-cons n ns false e) r)

own-with : (ns : List Noted) → AllCyclesEnd (entries (without_aside ns)) → AllCyclesEnd (entries ns)
own-with [] r = r
own-with (n ∷ ns) r = by (is_aside n) refl (own-with ns)
  where
    by : (b : Bool) → is_aside n ≡ b → (AllCyclesEnd (entries (without_aside ns)) → AllCyclesEnd (entries ns)) → AllCyclesEnd (entries (n ∷ ns))
    by true e f = (read-own n.entry.made.op (entries ns) (aside-read n e), f (subst (λ z. AllCyclesEnd (entries z)) (without-cons n ns true e) r))
    by false e f = (let w = subst (λ z. AllCyclesEnd (entries z)) (without-cons n ns false e) r in
        (own-more n.entry.made.op (entries (without_aside ns)) (entries ns) (λ k. resolve-with k ns) w.0, f w.1))

pub linked-end : (h : Finished) (noted : List Noted) → IsLinkedBy h noted → AllCyclesClose h.entries → AllCyclesEnd h.entries
linked-end h noted l a =
    let lawful = reading_is_lawful noted (noted, (managed_end noted).cells, l.lawful) in
    subst AllCyclesEnd l.same (own-with noted (own-ends opening_linkage (without_aside noted) lawful (ended-without noted (subst AllCyclesClose (sym l.same) a))))
