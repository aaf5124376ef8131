-- The pairs of a registry have distinct peers, because they are the entries of a map, whose keys are distinct.
-- A key that differs from each key of a list isn't found there, so the first pair's peer has no twin among the
-- other pairs, and so on for the rest.
use Rattle.std.proofs.Common.{◌≡◌, ℕ, ◌-◌, Bool, true, false, cond, eqb, nat_eq, List, [], ◌∷◌, ◌++◌, length, slice_get, Option, None, Some, refl, sym, ap, ◌∙◌, eq-eqb, arith}
use Rattle.std.proofs.lemmas.Bool.Decides.{nat_tests}
use Rattle.std.proofs.lemmas.List.{length_push}
use Rattle.std.proofs.lemmas.Option.{same_Some}
use Rattle.std.specs.List.{IsDistinct, AllByRecursion}
use Rattle.std.specs.Map.{keys_of}
use Rattle.joint_machine.specs.declared.names.MNum.{MNum}
use Rattle.joint_machine.specs.declared.names.PNum.{PNum}
use Rattle.joint_machine.proofs.Numbered.{push-at_new}
use Rattle.instance_registry.specs.Pairs.{twin_in, without, PeersDistinct}

-- the peer of a number
abbrev peer_of : ℕ → PNum
peer_of n = record { 0 = n }

-- a peer that differs from each peer of the pairs has no twin there
twin_in-apart : (es : List (PNum × MNum)) (p : PNum) → AllByRecursion (λ q. eqb p.0 q.0 ≡ false) (keys_of es) → twin_in es p ≡ None
twin_in-apart [] p apart = refl
twin_in-apart (e ∷ es) p apart = rw apart.0 (twin_in-apart es p apart.1)

-- distinct keys of a map are distinct peers
pub PeersDistinct-keys : (es : List (PNum × MNum)) → IsDistinct (λ p q. eqb p.0 q.0) (keys_of es) → PeersDistinct es
unfolding IsDistinct
PeersDistinct-keys [] distinct = tt
PeersDistinct-keys (e ∷ es) distinct = (twin_in-apart es e.0 distinct.0, PeersDistinct-keys es distinct.1)

-- a pair that was put last for a peer without a twin is the one that is taken out again, and the rest is as before
pub without-push : (ps : List (PNum × MNum)) (p : PNum) (m : MNum) → twin_in ps p ≡ None → without (ps ++ (p, m) ∷ []) p ≡ ps
without-push [] p m e = ap (λ b. cond b [] ((p, m) ∷ [])) (eq-eqb p.0 p.0 refl)
without-push (q ∷ ps) p m e = by (nat_eq p.0 q.0.0) e (without-push ps p m)
  where
    by : (b : Bool) → cond b (Some q.1) (twin_in ps p) ≡ None → (twin_in ps p ≡ None → without (ps ++ (p, m) ∷ []) p ≡ ps) → cond b (ps ++ (p, m) ∷ []) (q ∷ without (ps ++ (p, m) ∷ []) p) ≡ q ∷ ps
    by true e rest = (let f : ⊥ = cc in absurd f)
    by false e rest = ap (λ z. q ∷ z) (rest e)

-- and it is found
found-last : (ps : List (PNum × MNum)) (p : PNum) (m : MNum) → twin_in ps p ≡ None → twin_in (ps ++ (p, m) ∷ []) p ≡ Some m
found-last [] p m e = ap (λ b. cond b (Some m) None) (eq-eqb p.0 p.0 refl)
found-last (q ∷ ps) p m e = by (nat_eq p.0 q.0.0) e (found-last ps p m)
  where
    by : (b : Bool) → cond b (Some q.1) (twin_in ps p) ≡ None → (twin_in ps p ≡ None → twin_in (ps ++ (p, m) ∷ []) p ≡ Some m) → cond b (Some q.1) (twin_in (ps ++ (p, m) ∷ []) p) ≡ Some m
    by true e rest = (let f : ⊥ = cc in absurd f)
    by false e rest = rest e

-- the peer of the pair that was put last has no twin before it
alone-last : (ps : List (PNum × MNum)) (p : PNum) (m : MNum) → PeersDistinct (ps ++ (p, m) ∷ []) → twin_in ps p ≡ None
alone-last [] p m distinct = refl
alone-last (q ∷ ps) p m distinct = by (eqb p.0 q.0.0) refl (alone-last ps p m distinct.1)
  where
    by : (b : Bool) → eqb p.0 q.0.0 ≡ b → twin_in ps p ≡ None → cond b (Some q.1) (twin_in ps p) ≡ None
    by true e rest =
        let same : q.0.0 ≡ p.0 = grind (arith, nat_tests) in
        let found = rw same at distinct.0 in
        let f : ⊥ = (let there = found-last ps p m rest in cc) in
        absurd f
    by false e rest = rest

-- the last pair, whose peer was found equal to this one
pub named-last : (o : Option (PNum × MNum)) (q p : PNum) (m : MNum) → Some (q, m) ≡ o → eqb q.0 p.0 ≡ true → o ≡ Some (p, m)
named-last o q p m is same =
    let n : q.0 ≡ p.0 = grind (arith, nat_tests) in
    sym is ∙ ap (λ (x : PNum). Some (x, m)) (ap (λ (k : ℕ). peer_of k) n)

-- so the pair that was put last is the one of its peer, and without it the others are left
pub taken-last : (ps : List (PNum × MNum)) (e : PNum × MNum) (p : PNum) (m : MNum) → PeersDistinct (ps ++ e ∷ []) → slice_get (ps ++ e ∷ []) (length (ps ++ e ∷ []) - 1) ≡ Some (p, m)
    → (twin_in (ps ++ e ∷ []) p ≡ Some e.1) × (without (ps ++ e ∷ []) p ≡ ps)
taken-last ps e p m distinct last =
    let place : length (ps ++ e ∷ []) - 1 ≡ length ps = omega (arith, length_push ps e) in
    let is : e ≡ (p, m) = same_Some e (p, m) (sym (push-at_new ps e) ∙ rw place at last) in
    let alone = alone-last ps p m (rw is at distinct) in
    rw is (found-last ps p m alone, without-push ps p m alone)
