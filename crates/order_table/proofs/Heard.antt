-- What a seat keeps of itself at each step: it has no slot, and nothing is left of a seat that it took in.
use Rattle.std.proofs.Common.{◌≡◌, inl, ⊎_elim, ℕ, suc, ◌<◌, Bool, true, false, not, List, [], ◌∷◌, ◌&&◌, refl, sym, ap, ◌∙◌, subst, arith, eq-eqb}
use Rattle.std.proofs.lemmas.Bool.{cases_Bool, ltb-false}
use Rattle.std.specs.Prelude.{if◌then◌else◌, nat_lt, None, Some}
use Rattle.atomic_table.specs.Table.{Me}
use Rattle.order_table.specs.declared.views.View.{View}
use Rattle.order_table.specs.Rows.{at, put}
use Rattle.order_table.specs.Owed.{IsLoaded}
use Rattle.order_table.specs.Views.{IsCompared, loading, scanning, none_owed_in, owes_none}
use Rattle.order_table.specs.Allowed.{OwesNone}
use Rattle.order_table.specs.Tells.{StaysAs}

-- what a seat keeps
abbrev pub Keeps : Me (Unit {0}) View → Type 0
Keeps m = (m.1 ≡ []) × IsCompared m.0

-- the view has heard what the other has
abbrev pub Alike : View → View → Type 0
Alike w v = (w.heard ≡ v.heard) × (w.heard_owns ≡ v.heard_owns) × (w.heard_holds ≡ v.heard_holds)

pub keeps_alike : (m m' : Me (Unit {0}) View) (w : View) → m'.1 ≡ m.1 → m'.0 ≡ w → Alike w m.0 → Keeps m → Keeps m'
keeps_alike m m' w slots is same t = (slots ∙ t.0, subst IsCompared (sym is) record { heard = same.0 ∙ t.1.heard; owns = same.1 ∙ t.1.owns; holds = same.2 ∙ t.1.holds })

-- a view that changes by a test
alike_if : (b : Bool) (v w : View) → Alike w v → Alike (if b then w else v) v
alike_if true v w e = e
alike_if false v w e = (refl, refl, refl)

pub alike_loading : (c n : ℕ) (v : View) → Alike (loading c n v) v
alike_loading c n v = alike_if (nat_lt 0 v.inside && owes_none v) v (record v { loads = (c, n) ∷ v.loads }) (refl, refl, refl)

pub alike_scanning : (r n : ℕ) (v : View) → Alike (scanning r n v) v
alike_scanning r n v = alike_if (nat_lt 0 v.holds && owes_none v) v (record v { scanned = put None v.scanned r (Some n) }) (refl, refl, refl)

pub alike_closing : (b : Bool) (cycle : ℕ) (v : View) → Alike (if b then record v { holds = cycle; scanned = [] } else v) v
alike_closing b cycle v = alike_if b v (record v { holds = cycle; scanned = [] }) (refl, refl, refl)

-- a view that only looked
stays_if : (b : Bool) (v w : View) → StaysAs v w → StaysAs v (if b then w else v)
stays_if true v w e = e
stays_if false v w e = record { owns = refl; known = refl; inside = refl; owes = refl; found = refl; holds = refl; debts = refl; fill = refl; empty = refl }

pub stays_loading : (c n : ℕ) (v : View) → StaysAs v (loading c n v)
stays_loading c n v = stays_if (nat_lt 0 v.inside && owes_none v) v (record v { loads = (c, n) ∷ v.loads })
    record { owns = refl; known = refl; inside = refl; owes = refl; found = refl; holds = refl; debts = refl; fill = refl; empty = refl }

pub stays_scanning : (r n : ℕ) (v : View) → StaysAs v (scanning r n v)
stays_scanning r n v = stays_if (nat_lt 0 v.holds && owes_none v) v (record v { scanned = put None v.scanned r (Some n) })
    record { owns = refl; known = refl; inside = refl; owes = refl; found = refl; holds = refl; debts = refl; fill = refl; empty = refl }

-- who is inside and owes nothing keeps what it loads
none_owed : (bs : List Bool) → ((c : ℕ) → at false bs c ≡ false) → none_owed_in bs ≡ true
none_owed [] paid = refl
none_owed (b ∷ bs) paid = ap (λ x. not x && none_owed_in bs) (paid 0) ∙ none_owed bs (λ c. paid (suc c))

is_lt : (a b : ℕ) → a < b → nat_lt a b ≡ true
is_lt a b l = ⊎_elim (λ e. e) (λ e. absurd (let z = ltb-false a b e in omega arith)) (cases_Bool (nat_lt a b))

pub loads_kept : (c n : ℕ) (v : View) → 0 < v.inside → OwesNone v → IsLoaded (loading c n v).loads c n
loads_kept c n v within paid = subst (λ (u : View). IsLoaded u.loads c n) (sym (ap (λ b. if b then record v { loads = (c, n) ∷ v.loads } else v) test)) (inl (refl, refl))
  where
    test : (nat_lt 0 v.inside && owes_none v) ≡ true
    test = ap (λ (z : Bool × Bool × Bool × Bool). z.0 && (z.1 && (z.2 && z.3))) (λ i. (is_lt 0 v.inside within i, none_owed v.debts paid.0 i, eq-eqb v.fill 0 paid.1 i, eq-eqb v.empty 0 paid.2 i))

pub scans_kept : (r n : ℕ) (v : View) → 0 < v.holds → OwesNone v → (scanning r n v).scanned ≡ put None v.scanned r (Some n)
scans_kept r n v holding paid = ap (λ (u : View). u.scanned) (ap (λ b. if b then record v { scanned = put None v.scanned r (Some n) } else v) test)
  where
    test : (nat_lt 0 v.holds && owes_none v) ≡ true
    test = ap (λ (z : Bool × Bool × Bool × Bool). z.0 && (z.1 && (z.2 && z.3))) (λ i. (is_lt 0 v.holds holding i, none_owed v.debts paid.0 i, eq-eqb v.fill 0 paid.1 i, eq-eqb v.empty 0 paid.2 i))
