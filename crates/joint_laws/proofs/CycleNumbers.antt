-- A cycle's number is at most the number of entries: each entry counts one cycle at most. So a read that is pending
-- names a number that isn't greater than the history is long.
use Rattle.std.proofs.Common.{◌≡◌, ℕ, zero, suc, ◌+◌, ◌≤◌, Bool, true, false, not, List, [], ◌∷◌, length, take, refl, ap, arith}
use Rattle.std.proofs.lemmas.Option.{slice_get_within}
use Rattle.joint_machine.specs.declared.events.Op.TheVariants as op
use Rattle.joint_machine.specs.Linked.{Linkage, MayCome, opening_linkage, linkage_after}
use Rattle.joint_machine.specs.Replaying.{AllMayCome, replayed}
use Rattle.joint_machine.specs.Lines.{is_read}
use Rattle.joint_machine.specs.Managed.{Managed}
use Rattle.joint_machine.specs.Readers.{HasEventAt, is_aside, is_set_aside}
use Rattle.joint_machine.specs.Told.{Noted}
use Rattle.joint_laws.specs.ReadingLaws.{IsLawfulReading, without_aside}
use Rattle.joint_laws.specs.States.{state_at}
use Rattle.joint_laws.proofs.LinkedEntries.{Of, BothInvariants-entry, BothInvariants-opening}
use Rattle.joint_laws.proofs.ManagedEntries.{ManagedStep-entry}
use Rattle.joint_laws.proofs.ManagedSteps.{ManagedStep, going_on, snapping, resolving, abandoning}
use Rattle.joint_laws.proofs.MarkedOnce.{cycles_of, snap-number}
use Rattle.joint_laws.proofs.Places.{comes-at, destined}
use Rattle.joint_laws.proofs.ReadsAside.{reading_is_lawful, without-cons}

-- an entry counts one at most
one-more : (s : Linkage) (n : Noted) → MayCome s n → Of s → cycles_of (linkage_after s n) ≤ cycles_of s + 1
one-more s n may k = by (ManagedStep-entry s n may k.managed)
  where
    by : ManagedStep s.managed.managed (linkage_after s n).managed.managed → cycles_of (linkage_after s n) ≤ cycles_of s + 1
    by (going_on g) = (let e = g.cycles in omega arith)
    by (snapping p) = (let e = ap (λ (z : Managed). z.cycles) p.is in omega arith)
    by (resolving p) = (let e = ap (λ (z : Managed). z.cycles) p.is in omega arith)
    by (abandoning p) = (let e = ap (λ (z : Managed). z.cycles) p.is in omega arith)

few : (ns : List Noted) (s : Linkage) (i : ℕ) → AllMayCome s ns → Of s → cycles_of (replayed s (take i ns)) ≤ cycles_of s + i
few [] s zero a k = omega arith
few [] s (suc i) a k = omega arith
few (n ∷ ns) s zero a k = omega arith
few (n ∷ ns) s (suc i) a k = (let b = one-more s n a.0 k in let r = few ns (linkage_after s n) i a.1 (BothInvariants-entry s n a.0 k) in omega (arith, b, r))

no-more : (ns : List Noted) → length (without_aside ns) ≤ length ns
no-more [] = omega arith
no-more (n ∷ ns) = by (is_aside n) refl (no-more ns)
  where
    by : (b : Bool) → is_aside n ≡ b → length (without_aside ns) ≤ length ns → length (without_aside (n ∷ ns)) ≤ suc (length ns)
    by true e r = (let q = ap length (without-cons n ns true e) in omega (arith, q, r))
    by false e r = (let q = ap length (without-cons n ns false e) in omega (arith, q, r))

pub snap-few : (noted : List Noted) → IsLawfulReading noted → (i k : ℕ) → HasEventAt noted i (op.Snap record { 0 = k }) → k ≤ length noted
snap-few noted w i k x =
    let n = x.element in
    let stands : is_aside n ≡ false = ap (λ o. and (is_read o) (is_set_aside n.entry.made.reply)) x.is in
    let place = destined (λ (z : Noted). not (is_aside z)) noted i n x.there (ap not stands) in
    let front = length (without_aside (take i noted)) in
    let may = reading_is_lawful noted w in
    let number = snap-number (state_at (without_aside noted) front) n k (comes-at (without_aside noted) front n may place.0) x.is in
    let count = few (without_aside noted) opening_linkage front may BothInvariants-opening in
    let within = slice_get_within (without_aside noted) front n place.0 in
    let less = no-more noted in
    omega (arith, number, count, within, less)
  where
    and : Bool → Bool → Bool
    and true b = b
    and false b = false
