-- Where no row was grey, the rows that become grey are a list.
use Rattle.std.proofs.Common.{ℕ, List, Bool, [], refl}
use Rattle.joint_machine.proofs.Members.{Contains-nil}
use Rattle.row_marking.specs.Traces.{Chained, Greyed, IsGreyList}

pub grey-begun : (row : ℕ → Type 0) (m : List Bool) (l : List ℕ) (m' : List Bool) (l' : List ℕ) (h' : ℕ) → Greyed row m l 0 m' l' h' → IsGreyList m' l' h'
grey-begun row m l m' l' h' y =
    let none : Chained m l 0 [] = record { chain = refl; marked = λ k c. absurd (Contains-nil k c) } in
    let w = y [] none in
    (w.waits, w.chained)
