-- How many rows of a kind a handle table has, and that rows of the table stay there at a sweep.
use Rattle.std.proofs.Common.{◌≡◌, ℕ, zero, suc, ◌+◌, ◌||◌, nat_eq, Bool, List, [], ◌∷◌, ◌++◌, length, Option, Some, None, cond, set, refl, ap, subst, arith}
use Rattle.std.specs.Prelude.{count_by, is_some, slice_get, get_or}
use Rattle.std.specs.List.{list_any}
use Rattle.std.proofs.lemmas.List.Sums.{sum_by-cons, sum_by_push, sum_by-set}
use Rattle.std.proofs.lemmas.Option.{slice_get_within, get_or_from_slice_get}
use Rattle.joint_machine.specs.Heaps.{numbered_set}
use Rattle.joint_machine.specs.Peers.{Issued}
use Rattle.joint_machine.specs.PeerReplay.{TableRow, cleared_rows}
use Rattle.joint_machine.proofs.Deciding.{none_some}
use Rattle.joint_laws.specs.PeerInvariants.{IsTabled}
use Rattle.run_summary.specs.Lines.{one}

-- rows of any kind
module _ (f : Option TableRow → Bool) where
  abbrev weight : Option TableRow → ℕ
  weight o = cond (f o) 1 0

  pub kinds-put : (table : List (Option TableRow)) (o : Option TableRow) → count_by f (table ++ o ∷ []) ≡ count_by f table + weight o
  kinds-put table o = sum_by_push weight table o

  -- the row of a handle in the table becomes another, or none
  pub kinds-set : (table : List (Option TableRow)) (n : ℕ) (old : TableRow) (o : Option TableRow)
      → IsTabled table n old → count_by f (numbered_set table n o) + weight (Some old) ≡ count_by f table + weight o
  kinds-set table zero old o e = absurd (none_some (Some old) e)
  kinds-set table (suc i) old o e =
      let was : get_or table i (Some old) ≡ Some old = get_or_from_slice_get table i (Some old) (Some old) e in
      subst (λ z. count_by f (set table i o) + weight z ≡ count_by f table + weight o) was (sum_by-set weight table i o (Some old) (slice_get_within table i (Some old) e))

  -- clearing changes no row's kind
  pub kinds-swept : ((row : TableRow) (b : Bool) → f (Some (record row { cleared = b })) ≡ f (Some row))
      → (freed : List ℕ) (issued : List Issued) (table : List (Option TableRow)) → length table ≡ length issued
      → count_by f (cleared_rows freed issued table) ≡ count_by f table
  kinds-swept alike freed [] table l = refl
  kinds-swept alike freed (i ∷ issued) [] l = refl
  kinds-swept alike freed (i ∷ issued) (None ∷ table) l =
      let rest = kinds-swept alike freed issued table (omega (arith, l)) in
      let now = sum_by-cons weight None (cleared_rows freed issued table) in
      let was = sum_by-cons weight None table in
      omega (arith, rest, now, was)
  kinds-swept alike freed (i ∷ issued) (Some row ∷ table) l =
      let rest = kinds-swept alike freed issued table (omega (arith, l)) in
      let now = sum_by-cons weight (Some (record row { cleared = row.cleared || list_any (nat_eq i.peer) freed })) (cleared_rows freed issued table) in
      let was = sum_by-cons weight (Some row) table in
      let same : weight (Some (record row { cleared = row.cleared || list_any (nat_eq i.peer) freed })) ≡ weight
      (Some row) = ap {B = ℕ} (λ b. cond b 1 0) (alike row (row.cleared || list_any (nat_eq i.peer) freed)) in
      omega (arith, rest, now, was, same)

-- rows that are there
abbrev pub rows : List (Option TableRow) → ℕ
rows table = count_by is_some table

pub rows-put : (table : List (Option TableRow)) (row : TableRow) → rows (table ++ Some row ∷ []) ≡ rows table + 1
rows-put table row = kinds-put is_some table (Some row)

pub rows-set : (table : List (Option TableRow)) (n : ℕ) (old : TableRow) (o : Option TableRow) → IsTabled table n old → rows (numbered_set table n o) + 1 ≡ rows table + one (is_some o)
rows-set table n old o e = kinds-set is_some table n old o e

pub rows-swept : (freed : List ℕ) (issued : List Issued) (table : List (Option TableRow)) → length table ≡ length issued → rows (cleared_rows freed issued table) ≡ rows table
rows-swept freed issued table l = kinds-swept is_some (λ row b. refl) freed issued table l

stays_at : (freed : List ℕ) (issued : List Issued) (table : List (Option TableRow)) (k : ℕ) (row : TableRow) → length table ≡ length issued
    → slice_get table k ≡ Some (Some row) → (now : TableRow) × (slice_get (cleared_rows freed issued table) k ≡ Some (Some now))
stays_at freed [] table k row l e = (row, e)
stays_at freed (i ∷ issued) [] k row l e = absurd (omega (arith, l))
stays_at freed (i ∷ issued) (None ∷ table) zero row l e = (let f : ⊥ = cc in absurd f)
stays_at freed (i ∷ issued) (Some old ∷ table) zero row l e = (_, refl)
stays_at freed (i ∷ issued) (None ∷ table) (suc k) row l e = stays_at freed issued table k row (omega (arith, l)) e
stays_at freed (i ∷ issued) (Some old ∷ table) (suc k) row l e = stays_at freed issued table k row (omega (arith, l)) e

pub tabled-stays : (freed : List ℕ) (issued : List Issued) (table : List (Option TableRow)) (n : ℕ) (row : TableRow)
    → length table ≡ length issued → IsTabled table n row → (now : TableRow) × IsTabled (cleared_rows freed issued table) n now
tabled-stays freed issued table zero row l e = absurd (none_some (Some row) e)
tabled-stays freed issued table (suc k) row l e = stays_at freed issued table k row l e
