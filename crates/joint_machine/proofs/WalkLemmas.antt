-- Walks compose, and what each edge keeps holds at the end of a walk if it holds at the start. Each is an
-- induction on the rows of the walk, from its front; the node type and the edges are any.
use Rattle.std.proofs.Common.{List, [], ◌∷◌, ◌++◌, subst, sym, refl}
use Rattle.joint_machine.specs.Walks.{Walks, Reaches, Reached, Mutual}

-- an invariant: a fact of the first row that each edge keeps holds of the last row
pub Walks-keep : {A : Type 0} (edge : A → A → Type 0) (Q : A → Type 0) → ((x y : A) → edge x y → Q x → Q y) → (x : A) (rows : List A) (y : A) → Walks edge x rows y → Q x → Q y
Walks-keep edge Q step x [] y w q = subst Q w q
Walks-keep edge Q step x (z ∷ rows) y w q = Walks-keep edge Q step z rows y w.1 (step x z w.0 q)

pub Reaches-keeps : {A : Type 0} (edge : A → A → Type 0) (Q : A → Type 0) → ((x y : A) → edge x y → Q x → Q y) → (x y : A) → Reaches edge x y → Q x → Q y
Reaches-keeps edge Q step x y r q = Walks-keep edge Q step x r.rows y r.walk q

pub Reached-keeps : {A : Type 0} (start : A → Type 0) (edge : A → A → Type 0) (Q : A → Type 0) → ((x : A) → start x → Q x) → ((x y : A) → edge x y → Q x → Q y) → (y : A) → Reached start edge y → Q y
Reached-keeps start edge Q first step y r = Reaches-keeps edge Q step r.root y r.reaches (first r.root r.starts)

-- two walks that meet make one
pub Walks-join : {A : Type 0} (edge : A → A → Type 0) → (x : A) (rows : List A) (y : A) (more : List A) (z : A) → Walks edge x rows y → Walks edge y more z → Walks edge x (rows ++ more) z
Walks-join edge x [] y more z v w = subst (λ t. Walks edge t more z) (sym v) w
Walks-join edge x (a ∷ rows) y more z v w = (v.0, Walks-join edge a rows y more z v.1 w)

-- each row reaches itself, and one edge makes a walk longer
pub Reaches-self : {A : Type 0} (edge : A → A → Type 0) (x : A) → Reaches edge x x
Reaches-self edge x = record { rows = []; walk = refl }

pub Reaches-edge : {A : Type 0} (edge : A → A → Type 0) (x y : A) → edge x y → Reaches edge x y
Reaches-edge edge x y e = record { rows = y ∷ []; walk = (e, refl) }

pub Reaches-trans : {A : Type 0} (edge : A → A → Type 0) (x y z : A) → Reaches edge x y → Reaches edge y z → Reaches edge x z
Reaches-trans edge x y z r s = record { rows = r.rows ++ s.rows; walk = Walks-join edge x r.rows y s.rows z r.walk s.walk }

pub Reaches-then : {A : Type 0} (edge : A → A → Type 0) (x y z : A) → Reaches edge x y → edge y z → Reaches edge x z
Reaches-then edge x y z r e = Reaches-trans edge x y z r (Reaches-edge edge y z e)

-- a row of the start is reached, and so is what a reached row leads to
pub Reached-start : {A : Type 0} (start : A → Type 0) (edge : A → A → Type 0) (x : A) → start x → Reached start edge x
Reached-start start edge x s = record { root = x; starts = s; reaches = Reaches-self edge x }

pub Reached-further : {A : Type 0} (start : A → Type 0) (edge : A → A → Type 0) (x y : A) → Reached start edge x → Reaches edge x y → Reached start edge y
Reached-further start edge x y r s = record { root = r.root; starts = r.starts; reaches = Reaches-trans edge r.root x y r.reaches s }

pub Reached-then : {A : Type 0} (start : A → Type 0) (edge : A → A → Type 0) (x y : A) → Reached start edge x → edge x y → Reached start edge y
Reached-then start edge x y r e = Reached-further start edge x y r (Reaches-edge edge x y e)

-- fewer edges and a smaller start reach no more
pub Walks-mono : {A : Type 0} (edge more : A → A → Type 0) → ((x y : A) → edge x y → more x y) → (x : A) (rows : List A) (y : A) → Walks edge x rows y → Walks more x rows y
Walks-mono edge more m x [] y w = w
Walks-mono edge more m x (z ∷ rows) y w = (m x z w.0, Walks-mono edge more m z rows y w.1)

pub Reaches-mono : {A : Type 0} (edge more : A → A → Type 0) → ((x y : A) → edge x y → more x y) → (x y : A) → Reaches edge x y → Reaches more x y
Reaches-mono edge more m x y r = record { rows = r.rows; walk = Walks-mono edge more m x r.rows y r.walk }

pub Reached-mono : {A : Type 0} (start begin : A → Type 0) (edge more : A → A → Type 0) → ((x : A) → start x → begin x)
    → ((x y : A) → edge x y → more x y) → (y : A) → Reached start edge y → Reached begin more y
Reached-mono start begin edge more s m y r = record { root = r.root; starts = s r.root r.starts; reaches = Reaches-mono edge more m r.root y r.reaches }

-- mutual reach is an equivalence
pub Mutual-self : {A : Type 0} (edge : A → A → Type 0) (x : A) → Mutual edge x x
Mutual-self edge x = record { there = Reaches-self edge x; back = Reaches-self edge x }

pub Mutual-sym : {A : Type 0} (edge : A → A → Type 0) (x y : A) → Mutual edge x y → Mutual edge y x
Mutual-sym edge x y m = record { there = m.back; back = m.there }

pub Mutual-trans : {A : Type 0} (edge : A → A → Type 0) (x y z : A) → Mutual edge x y → Mutual edge y z → Mutual edge x z
Mutual-trans edge x y z m n = record { there = Reaches-trans edge x y z m.there n.there; back = Reaches-trans edge z y x n.back m.back }
