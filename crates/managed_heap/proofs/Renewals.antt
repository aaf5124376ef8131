-- The candidates take the handles of their restores one after another: what is held after some more of them is what is
-- held after those before, with these taken too.
use Rattle.std.proofs.Common.{◌≡◌, ℕ, ◌+◌, ◌<◌, List, [], ◌∷◌, ◌++◌, length, take, get_or, Option, Some, None, refl, sym, ◌∙◌, arith}
use Rattle.std.proofs.lemmas.List.{length-map, length-take-le, map-append, take_more}
use Rattle.joint_machine.specs.declared.names.HNum.{HNum}
use Rattle.joint_machine.specs.Heaps.{numbered_set}
use Rattle.joint_model.specs.Listed.{answer_of, answers_of}
use Rattle.joint_machine.specs.Managed.{renewed}
use Rattle.joint_machine.specs.Told.{Answer, said_alive, said_cleared}

renewed-append : (held : List (Option ℕ)) (cs ds : List ℕ) (us bs : List Answer) → length cs ≡ length us → renewed held (cs ++ ds) (us ++ bs) ≡ renewed (renewed held cs us) ds bs
renewed-append held [] ds [] bs e = refl
renewed-append held [] ds (a ∷ us) bs e = absurd (omega (arith, e))
renewed-append held (c ∷ cs) ds [] bs e = absurd (omega (arith, e))
renewed-append held (c ∷ cs) ds (said_alive h ∷ us) bs e = renewed-append (numbered_set held c (Some h)) cs ds us bs (omega (arith, e))
renewed-append held (c ∷ cs) ds (said_cleared ∷ us) bs e = renewed-append held cs ds us bs (omega (arith, e))

pub renewed-more : (held : List (Option ℕ)) (cs : List ℕ) (alive : List (Option HNum)) (i : ℕ) → i < length cs → i < length alive
    → renewed held (take (i + 1) cs) (answers_of (take (i + 1) alive)) ≡ renewed (renewed held (take i cs) (answers_of (take i alive))) (get_or cs i 0 ∷ []) (answer_of (get_or alive i None) ∷ [])
renewed-more held cs alive i a b =
    let same : length (take i cs) ≡ length (answers_of (take i alive)) = length-take-le i cs (omega (arith, a))
    ∙ sym (length-map (take i alive) answer_of ∙ length-take-le i alive (omega (arith, b))) in
    rw (take_more cs i 0 a, take_more alive i None b, map-append answer_of (take i alive) (get_or alive i None ∷ []))
    (renewed-append held (take i cs) (get_or cs i 0 ∷ []) (answers_of (take i alive)) (answer_of (get_or alive i None) ∷ []) same)
