-- Flags that are raised one by one say which numbers stand in the list.
use Rattle.std.proofs.Common.{◌≡◌, Bool, true, false, ◌||◌, refl}

or-true : (b : Bool) → b || true ≡ true
or-true true = refl
or-true false = refl

or-false : (b : Bool) → b || false ≡ b
or-false true = refl
or-false false = refl
