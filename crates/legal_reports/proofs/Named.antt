-- A history that was read has in its lists what its replies name, and no more. So cutting its lists behind the last
-- number that is named leaves it as it is.
use Rattle.std.proofs.Common.{◌≡◌, ◌+◌, List, [], ◌∷◌, take, refl, arith}
use Rattle.std.specs.Prelude.{sum_by}
use Rattle.std.proofs.lemmas.List.{take_all}
use Rattle.std.proofs.lemmas.List.Sums.{sum_by-cons}
use Rattle.joint_machine.specs.declared.events.Reply.{Reply}
use Rattle.joint_machine.specs.declared.events.Reply.TheVariants as reply
use Rattle.joint_machine.specs.declared.events.Entry.{Entry}
use Rattle.joint_machine.specs.Histories.{Finished}
use Rattle.report_reader.specs.Reading.{Ends, HasJust, ends_after, ends_of, no_ends}
use Rattle.check_laws.specs.Found.{as_named, objects_in, peers_in}

-- how far a reply goes in each freed list
goes-objects : (e : Ends) (r : Reply) → (ends_after e r).managed ≡ e.managed + objects_in r
goes-objects e (reply.Snapped n s) = refl
goes-objects e (reply.Freed s) = refl
goes-objects e (reply.Swept j s) = omega arith
goes-objects e (reply.Took s) = omega arith
goes-objects e r = omega arith

goes-peers : (e : Ends) (r : Reply) → (ends_after e r).peers ≡ e.peers + peers_in r
goes-peers e (reply.Snapped n s) = omega arith
goes-peers e (reply.Freed s) = omega arith
goes-peers e (reply.Swept j s) = refl
goes-peers e (reply.Took s) = omega arith
goes-peers e r = omega arith

all-objects : (e : Ends) (es : List Entry) → (ends_of e es).managed ≡ e.managed + sum_by (λ x. objects_in x.made.reply) es
all-objects e [] = omega arith
all-objects e (x ∷ xs) =
    let first = goes-objects e x.made.reply in
    let rest : (ends_of e (x ∷ xs)).managed ≡ (ends_after e x.made.reply).managed + sum_by (λ y. objects_in y.made.reply) xs = all-objects (ends_after e x.made.reply) xs in
    let sum : sum_by (λ (y : Entry). objects_in y.made.reply) (x ∷ xs) ≡ objects_in
    x.made.reply + sum_by (λ y. objects_in y.made.reply) xs = sum_by-cons (λ (y : Entry). objects_in y.made.reply) x xs in
    omega (arith, first, rest, sum)

all-peers : (e : Ends) (es : List Entry) → (ends_of e es).peers ≡ e.peers + sum_by (λ x. peers_in x.made.reply) es
all-peers e [] = omega arith
all-peers e (x ∷ xs) =
    let first = goes-peers e x.made.reply in
    let rest : (ends_of e (x ∷ xs)).peers ≡ (ends_after e x.made.reply).peers + sum_by (λ y. peers_in y.made.reply) xs = all-peers (ends_after e x.made.reply) xs in
    let sum : sum_by (λ (y : Entry). peers_in y.made.reply) (x ∷ xs) ≡ peers_in x.made.reply + sum_by (λ y. peers_in y.made.reply) xs = sum_by-cons (λ (y : Entry). peers_in y.made.reply) x xs in
    omega (arith, first, rest, sum)

pub named_is_same : (h : Finished) → HasJust h (ends_of no_ends h.entries) → as_named h ≡ h
named_is_same h j =
    let objects = all-objects no_ends h.entries in
    let peers = all-peers no_ends h.entries in
    let lm = j.managed in
    let lp = j.peers in
    let managed_all : take (sum_by (λ x. objects_in x.made.reply) h.entries) h.freed_managed ≡ h.freed_managed = take_all _ h.freed_managed (omega (arith, objects, lm)) in
    let peers_all : take (sum_by (λ x. peers_in x.made.reply) h.entries) h.freed_peers ≡ h.freed_peers = take_all _ h.freed_peers (omega (arith, peers, lp)) in
    λ i. record h { freed_managed = managed_all i; freed_peers = peers_all i }
