-- Whether a sheet has a node of a name, by the test of each of its pictures.
use Rattle.std.proofs.Common.{◌≡◌, inl, inr, ℕ, Bool, true, false, ◌||◌, refl}
use Rattle.heap_pictures.specs.declared.pictures.Side.{Side}
use Rattle.heap_pictures.specs.Flags.{is_in}
use Rattle.picture_sheets.specs.Around.{HasNamed, nodes_of}
use Rattle.picture_sheets.specs.Sheets.{Sheet}
use Rattle.picture_sheets.proofs.Sameness.{in-number}

module _ (s : Sheet) (side : Side) (x : ℕ) where
  pub named : is_in (nodes_of side s.stay) x || (is_in (nodes_of side s.came) x || is_in (nodes_of side s.went) x) ≡ true → HasNamed s side x
  named e = by (is_in (nodes_of side s.stay) x) (is_in (nodes_of side s.came) x) refl refl e
    where
      by : (a b : Bool) → is_in (nodes_of side s.stay) x ≡ a → is_in (nodes_of side s.came) x ≡ b → (a || (b || is_in (nodes_of side s.went) x)) ≡ true → HasNamed s side x
      by true b p q f = inl (in-number x (nodes_of side s.stay) p)
      by false true p q f = inr (inl (in-number x (nodes_of side s.came) q))
      by false false p q f = inr (inr (in-number x (nodes_of side s.went) f))
