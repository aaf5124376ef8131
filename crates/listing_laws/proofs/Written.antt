-- The lines of cycles are written one cycle after another: each text is those before it and one cycle's more.
use Rattle.std.proofs.Common.{◌≡◌, ℕ, List, [], ◌∷◌, ◌++◌, length, Option, Some, None, Result, Ok, Err, refl, sym, ap, ◌∙◌, subst, append_assoc, append-nil, arith}
use Rattle.std.proofs.lemmas.List.{length-append}
use Rattle.byte_streams.specs.declared.streams.Failed.{Failed}
use Rattle.byte_streams.specs.Streams.{Writes}
use Rattle.byte_streams.specs.Faults.{AppendsPart}
use Rattle.byte_streams.proofs.Written.{Writes-after}
use Rattle.graph_listing.specs.Listing.{Listed, cycle_lines, cycles_text, listing_text}
use Rattle.history_report.specs.Report.{end_text}
use Rattle.listing_laws.specs.Laws.{WritingGoesOn}
use Rattle.listing_laws.specs.Writing.{GoesOn, Wrote}

-- the lines of cycles, and those of others behind them
pub cycles-append : (cs ds : List Listed) → cycles_text (cs ++ ds) ≡ cycles_text cs ++ cycles_text ds
cycles-append [] ds = refl
cycles-append (c ∷ cs) ds = ap (λ t. cycle_lines c ++ t) (cycles-append cs ds) ∙ sym (append_assoc (cycle_lines c) (cycles_text cs) (cycles_text ds))

-- what failed in a text failed in each longer one
pub Writes-short : {E : Type 0} (a b : Option (List ℕ)) (f g : ℕ) (e : E) (x y : List ℕ) → Writes {E = E} a b f g (Err e) x → Writes {E = E} a b f g (Err e) (x ++ y)
Writes-short a b f g e x y w = record {
  whole = tt;
  part = record { part = w.part.part; rest = w.part.rest ++ y; whole = ap (λ t. t ++ y) w.part.whole ∙ append_assoc w.part.part w.part.rest y; appends = w.part.appends };
  cause = w.cause;
}

-- nothing more was written
pub goes_nowhere : {E : Type 0} (held : Option (List ℕ)) (f : ℕ) (r : Result (Unit {0}) E) → GoesOn {E = E} held held f f r r []
goes_nowhere {E} held f r start first ls w = let F : List Listed → Type 0 = λ l. Writes {E = E} start held first f r (cycles_text l) in subst F (sym (append-nil ls)) w

-- the lines of one cycle more were, or the sink failed in them
pub goes_one : {E : Type 0} (held now : Option (List ℕ)) (f g : ℕ) (u : Unit {0}) (r : Result (Unit {0}) E) (c : Listed)
    → Writes {E = E} held now f g r (cycle_lines c) → GoesOn {E = E} held now f g (Ok u) r (c ∷ [])
goes_one {E} held now f g u r c v start first ls w =
    let F : List ℕ → Type 0 = λ t. Writes {E = E} start now first g r t in
    subst F (sym (cycles-append ls (c ∷ []) ∙ ap (λ t. cycles_text ls ++ t) (append-nil (cycle_lines c))))
    (Writes-after start held now first f g r (cycles_text ls) (cycle_lines c) w.whole w.cause.later v)

-- after a failure nothing more is
pub goes_failed : {E : Type 0} (held : Option (List ℕ)) (f : ℕ) (e : E) (cs : List Listed) → GoesOn {E = E} held held f f (Err e) (Err e) cs
goes_failed {E} held f e cs start first ls w =
    let F : List ℕ → Type 0 = λ t. Writes {E = E} start held first f (Err e) t in
    subst F (sym (cycles-append ls cs)) (Writes-short start held first f e (cycles_text ls) (cycles_text cs) w)

pub wrote_none : {E : Type 0} (n : ℕ) (r : Result (Unit {0}) E) (held : Option (List ℕ)) (f : ℕ) → Wrote {E = E} n n r r held held f f []
wrote_none n r held f = record { goes_on = goes_nowhere held f r; counted = omega arith }

pub wrote_then : WritingGoesOn
wrote_then a b c r s t held mid now f g h cs ds p q = record {
  goes_on = λ start first ls w. let F : List Listed → Type 0 = λ l. Writes {E = Failed} start now first h t (cycles_text l) in
      subst F (append_assoc ls cs ds) (q.goes_on start first (ls ++ cs) (p.goes_on start first ls w));
  counted = (let x = p.counted in let y = q.counted in omega (arith, x, y, length-append cs ds));
}

-- what was written from nothing
pub Writes-nothing : {E : Type 0} (held : Option (List ℕ)) (f : ℕ) (u : Unit {0}) → Writes {E = E} held held f f (Ok u) []
Writes-nothing None f u = record { whole = tt; part = tt; cause = record { later = omega arith; failed = tt } }
Writes-nothing (Some s) f u = record { whole = sym (append-nil s); part = tt; cause = record { later = omega arith; failed = tt } }

-- what is at a sink is a beginning of a text in any case
pub part_of : {E : Type 0} (a b : Option (List ℕ)) (f g : ℕ) (r : Result (Unit {0}) E) (x : List ℕ) → Writes {E = E} a b f g r x → AppendsPart a b x
part_of a b f g (Ok u) x w = record { part = x; rest = []; whole = sym (append-nil x); appends = w.whole }
part_of a b f g (Err e) x w = w.part

-- the last line behind all cycles, or nothing behind a failure
pub ends_listing : {E : Type 0} (held now : Option (List ℕ)) (f g k : ℕ) (u : Unit {0}) (r : Result (Unit {0}) E) (start : Option (List ℕ)) (cs : List Listed) (n : ℕ)
    → n ≡ length cs → Writes {E = E} start held f g (Ok u) (cycles_text cs) → Writes {E = E} held now g k r (end_text n) → Writes {E = E} start now f k r (listing_text cs)
ends_listing {E} held now f g k u r start cs n e w v =
    let F : ℕ → Type 0 = λ m. Writes {E = E} start now f k r (cycles_text cs ++ end_text m) in
    subst F e (Writes-after start held now f g k r (cycles_text cs) (end_text n) w.whole w.cause.later v)

pub ends_failed : {E : Type 0} (held : Option (List ℕ)) (f g : ℕ) (e : E) (start : Option (List ℕ)) (cs : List Listed)
    → Writes {E = E} start held f g (Err e) (cycles_text cs) → Writes {E = E} start held f g (Err e) (listing_text cs)
ends_failed held f g e start cs w = Writes-short start held f g e (cycles_text cs) (end_text (length cs)) w
