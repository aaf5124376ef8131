-- What is drawn in turn is one chain of draws: two chains that meet make one, and the chain of a plain
-- count numbers its entries one after another. Each is an induction on the list, from its front.
use Rattle.std.proofs.Common.{◌≡◌, ℕ, ◌+◌, List, [], ◌∷◌, ◌++◌, map, length, Option, subst, arith}
use Rattle.joint_machine.specs.declared.names.MNum.{MNum}
use Rattle.joint_machine.specs.declared.events.Entry.{Entry}
use Rattle.joint_machine.specs.Draws.{Drawn, DrewInTurn, CountDrew}
use Rattle.joint_machine.specs.Histories.{NumberedFrom}

pub DrewInTurn-append : {D : Type 0} (drew : D → Entry → Option MNum → List MNum → D → Type 0)
    → (a b c : D) (xs ys : List Drawn) → DrewInTurn drew a xs b → DrewInTurn drew b ys c → DrewInTurn drew a (xs ++ ys) c
DrewInTurn-append drew a b c [] ys p q = subst (λ t. DrewInTurn drew t ys c) p q
DrewInTurn-append drew a b c (x ∷ xs) ys p q = (p.0, p.1, DrewInTurn-append drew p.0 b c xs ys p.2 q)

pub DrewInTurn-counts : (a b : ℕ) (ns : List Drawn) → DrewInTurn CountDrew a ns b → NumberedFrom a (map (λ n. n.entry) ns) × (b ≡ a + length ns)
DrewInTurn-counts a b [] d = (tt, omega arith)
DrewInTurn-counts a b (n ∷ ns) d =
    let rest = DrewInTurn-counts d.0 b ns d.2 in
    ((d.1.0, subst (λ m. NumberedFrom m (map (λ x. x.entry) ns)) d.1.1 rest.0), omega (arith, rest.1, d.1.1))
