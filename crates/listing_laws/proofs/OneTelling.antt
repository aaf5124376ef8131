-- The managed states of a linked history are one, whatever notes link it: told plainly, the notes of its entries are
-- one, and they lead to the same sides.
use Rattle.std.proofs.Common.{◌≡◌, ℕ, suc, Bool, true, false, List, [], ◌∷◌, ◌++◌, length, Option, refl, sym, ap, ◌∙◌, subst, arith, append_assoc}
use Rattle.std.specs.Prelude.{if◌then◌else◌}
use Rattle.joint_machine.specs.declared.names.Phase.{Phase}
use Rattle.joint_machine.specs.declared.names.Phase.TheVariants as at
use Rattle.joint_machine.specs.declared.names.PhaseWord.TheVariants as word
use Rattle.joint_machine.specs.declared.events.Entry.{Entry}
use Rattle.joint_machine.specs.declared.events.Op.{Op}
use Rattle.joint_machine.specs.declared.events.Op.TheVariants as op
use Rattle.joint_machine.specs.declared.events.Reply.{Reply}
use Rattle.joint_machine.specs.declared.events.Reply.TheVariants as says
use Rattle.joint_machine.specs.Histories.{Finished}
use Rattle.joint_machine.specs.Lines.{is_read}
use Rattle.joint_machine.specs.Linked.{Linkage, opening_linkage}
use Rattle.joint_machine.specs.LinkedHistories.{IsLinkedBy, managed_end}
use Rattle.joint_machine.specs.ManagedReplay.{ManagedReplay}
use Rattle.joint_machine.specs.Readers.{AllMayComeReading, entry_after, replayed_reading}
use Rattle.joint_machine.specs.Told.{Noted, Told}
use Rattle.joint_laws.proofs.CycleNumbers.{snap-few}
use Rattle.known_laws.specs.PastEntries.{entries}
use Rattle.known_laws.proofs.Growing.{entries_append}
use Rattle.script_laws.proofs.OneNote.{Agree, one-note}
use Rattle.script_laws.proofs.ReadTelling.{AllPlainEntries, PlainEntry, ToldPlainly, told_plainly}
use Rattle.listing_laws.specs.Laws.{StatesAreOne}
use Rattle.listing_laws.specs.Listings.{is_snap, states_after_snaps}

-- a reply names one phase
abbrev phase_in : Reply → Phase
phase_in (says.At p) = p
phase_in r = at.Idle

names_one : (r : Reply) (p q : Phase) → r ≡ says.At p → r ≡ says.At q → p ≡ q
names_one r p q a b = sym (ap phase_in a) ∙ ap phase_in b

agrees : (o : Op) (r : Reply) → Agree o r r
agrees (op.Refused word.Contract) r = names_one r
agrees (op.Refused word.Mirror) r = names_one r
agrees (op.Refused word.Weaken) r = names_one r
agrees (op.Refused word.Mark) r = names_one r
agrees (op.Refused word.Sweep) r = names_one r
agrees (op.Refused word.Restore) r = names_one r
agrees (op.Refused word.Resolve) r = names_one r
agrees (op.Refused word.Cycle) r = tt
agrees (op.Refused word.Snap) r = tt
agrees o r = tt

-- an entry with what is told beside it
abbrev telling : Entry → Told → Noted
telling e x = record { entry = e; told = x }

-- what is told plainly of an entry is one
one_told : (b c : ℕ) (s : Linkage) (e : Entry) (x y : Told) → PlainEntry b (is_read e.made.op) s (telling e x) → PlainEntry c (is_read e.made.op) s (telling e y) → telling e x ≡ telling e y
one_told b c s e x y p q = by (is_read e.made.op) p q
  where
    by : (r : Bool) → PlainEntry b r s (telling e x) → PlainEntry c r s (telling e y) → telling e x ≡ telling e y
    by true p q = ap (telling e) (p.may.bare ∙ sym q.may.bare)
    by false p q = one-note s (telling e x) (telling e y) refl refl refl refl (agrees e.made.op e.made.reply) p q

abbrev first_of : Entry → List Entry → Entry
first_of d [] = d
first_of d (e ∷ es) = e

abbrev rest_of : List Entry → List Entry
rest_of [] = []
rest_of (e ∷ es) = es

-- so are the notes of entries
plain_one : (b c : ℕ) (s : Linkage) (ns ms : List Noted) → AllPlainEntries b s ns → AllPlainEntries c s ms → entries ns ≡ entries ms → ns ≡ ms
plain_one b c s [] [] p q e = refl
plain_one b c s [] (m ∷ ms) p q e = absurd (let l = ap length e in omega (arith, l))
plain_one b c s (n ∷ ns) [] p q e = absurd (let l = ap length e in omega (arith, l))
plain_one b c s (n ∷ ns) (m ∷ ms) p q e =
    let same : n.entry ≡ m.entry = ap (first_of n.entry) e in
    let one : n ≡ m = one_told b c s n.entry n.told m.told p.0 (subst (λ (x : Entry). PlainEntry c (is_read x.made.op) s (telling x m.told)) (sym same) q.0)
    ∙ ap (λ (x : Entry). telling x m.told) same in
    let rest = plain_one b c (entry_after s n) ns ms p.1 (subst (λ (z : Noted). AllPlainEntries c (entry_after s z) ms) (sym one) q.1) (ap rest_of e) in
    λ i. one i ∷ rest i

-- a beginning of a list
comes_first : (whole : List Noted) (cells : List (Option ℕ)) (s : Linkage) (ns ms : List Noted) → AllMayComeReading whole cells s (ns ++ ms) → AllMayComeReading whole cells s ns
comes_first whole cells s [] ms a = tt
comes_first whole cells s (n ∷ ns) ms a = (a.0, comes_first whole cells (entry_after s n) ns ms a.1)

after_last : (s : Linkage) (ns : List Noted) (n : Noted) → replayed_reading s (ns ++ n ∷ []) ≡ entry_after (replayed_reading s ns) n
after_last s [] n = refl
after_last s (m ∷ ns) n = after_last (entry_after s m) ns n

-- a linked history's notes up to some entry, told plainly
module _ (h : Finished) (noted : List Noted) (linked : IsLinkedBy h noted) where
  abbrev cells : List (Option ℕ)
  cells = (managed_end noted).cells

  told_first : (front back : List Noted) → noted ≡ front ++ back → ToldPlainly (suc (length noted)) opening_linkage opening_linkage front
  told_first front back is = told_plainly (suc (length noted)) noted cells
      (λ i t k p. (let l = snap-few noted (noted, cells, linked.lawful) p.snap k p.snaps in omega (arith, l)))
      opening_linkage front (comes_first noted cells opening_linkage front back (subst (AllMayComeReading noted cells opening_linkage) is linked.lawful))

module _ (h : Finished) (a b : List Noted) (first : IsLinkedBy h a) (second : IsLinkedBy h b) where
  managed_one : (xs ys xs' ys' : List Noted) → a ≡ xs ++ ys → b ≡ xs' ++ ys' → entries xs ≡ entries xs'
      → (replayed_reading opening_linkage xs).managed ≡ (replayed_reading opening_linkage xs').managed
  managed_one xs ys xs' ys' i j e =
      let k = told_first h a first xs ys i in
      let l = told_first h b second xs' ys' j in
      let one = plain_one (suc (length a)) (suc (length b)) opening_linkage k.notes l.notes k.plain l.plain (k.same ∙ (e ∙ sym l.same)) in
      sym k.managed ∙ (ap (λ (z : List Noted). (replayed_reading opening_linkage z).managed) one ∙ l.managed)

  states_one : (xs ys xs' ys' : List Noted) → a ≡ xs ++ ys → b ≡ xs' ++ ys' → entries xs ≡ entries xs' → entries ys ≡ entries ys'
      → states_after_snaps (replayed_reading opening_linkage xs) ys ≡ states_after_snaps (replayed_reading opening_linkage xs') ys'
  states_one xs [] xs' [] i j e f = refl
  states_one xs [] xs' (m ∷ ms) i j e f = absurd (let l = ap length f in omega (arith, l))
  states_one xs (n ∷ ns) xs' [] i j e f = absurd (let l = ap length f in omega (arith, l))
  states_one xs (n ∷ ns) xs' (m ∷ ms) i j e f =
      let same : n.entry ≡ m.entry = ap (first_of n.entry) f in
      let i' : a ≡ (xs ++ n ∷ []) ++ ns = i ∙ sym (append_assoc xs (n ∷ []) ns) in
      let j' : b ≡ (xs' ++ m ∷ []) ++ ms = j ∙ sym (append_assoc xs' (m ∷ []) ms) in
      let e' : entries (xs ++ n ∷ []) ≡ entries (xs' ++ m ∷ []) = entries_append xs (n ∷ []) ∙ ((λ z. e z ++ same z ∷ []) ∙ sym (entries_append xs' (m ∷ []))) in
      let after : (entry_after (replayed_reading opening_linkage xs) n).managed.managed ≡ (entry_after (replayed_reading opening_linkage xs') m).managed.managed =
      ap (λ (z : Linkage). z.managed.managed) (sym (after_last opening_linkage xs n))
      ∙ (ap (λ (z : ManagedReplay). z.managed) (managed_one (xs ++ n ∷ []) ns (xs' ++ m ∷ []) ms i' j' e') ∙ ap (λ (z : Linkage). z.managed.managed) (after_last opening_linkage xs' m)) in
      let rest : states_after_snaps (entry_after (replayed_reading opening_linkage xs) n) ns ≡ states_after_snaps (entry_after (replayed_reading opening_linkage xs') m) ms =
      ap (λ (z : Linkage). states_after_snaps z ns) (sym (after_last opening_linkage xs n))
      ∙ (states_one (xs ++ n ∷ []) ns (xs' ++ m ∷ []) ms i' j' e' (ap rest_of f) ∙ ap (λ (z : Linkage). states_after_snaps z ms) (after_last opening_linkage xs' m)) in
      λ z. if is_snap (same z).made.op then after z ∷ rest z else rest z

pub states_are_one : StatesAreOne
states_are_one h a b first second = states_one h a b first second [] a [] b refl refl refl (first.same ∙ sym second.same)
