-- Each pin is that of its word.
use Rattle.std.proofs.Common.{◌≡◌, ℕ, zero, suc, List, [], ◌∷◌, get_or, refl}
use Rattle.order_table.specs.Rows.{at}
use Rattle.joint_history.proofs.snaps.pins_of.Goals as goal

at-read : (xs : List ℕ) (i : ℕ) → get_or xs i 0 ≡ at 0 xs i
at-read [] i = refl
at-read (x ∷ xs) zero = refl
at-read (x ∷ xs) (suc i) = at-read xs i

pub returns : goal.returns
returns c =
    rw (
      c.object_of.ensures,
      c.object_of-2.ensures,
      c.object_of-3.ensures,
      c.object_of-4.ensures,
      c.object_of-5.ensures,
      c.object_of-6.ensures,
      c.object_of-7.ensures,
      c.object_of-8.ensures,
      at-read c.args.words 0,
      at-read c.args.words 1,
      at-read c.args.words 2,
      at-read c.args.words 3,
      at-read c.args.words 4,
      at-read c.args.words 5,
      at-read c.args.words 6,
      at-read c.args.words 7,
    ) refl
