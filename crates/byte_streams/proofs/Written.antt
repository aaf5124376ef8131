-- A text is written piece by piece: each text is those before it and one piece more.
use Rattle.std.proofs.Common.{◌≡◌, ℕ, ◌≤◌, List, [], ◌∷◌, ◌++◌, Option, Some, None, Result, Ok, Err, sym, ◌∙◌, ap, refl, arith, subst, append_assoc, append-nil}
use Rattle.std.specs.Io.KnownBytes.{Appends, Keeps}
use Rattle.byte_streams.specs.Streams.{Writes}
use Rattle.byte_streams.specs.Sending.{BuffersText, Sends}
use Rattle.byte_streams.specs.Spaced.{after_spaces}

pub Appends-then : (a b c : Option (List ℕ)) (x y : List ℕ) → Appends a b x → Appends b c y → Appends a c (x ++ y)
Appends-then None b c x y p q = tt
Appends-then (Some s) None c x y p q = absurd p
Appends-then (Some s) (Some t) None x y p q = absurd q
Appends-then (Some s) (Some t) (Some u) x y p q = q ∙ (ap (λ k. k ++ y) p ∙ append_assoc s x y)

pub Appends-kept : (a b c : Option (List ℕ)) (x : List ℕ) → Appends a b x → Keeps b c → Appends a c x
Appends-kept None b c x p q = tt
Appends-kept (Some s) None c x p q = absurd p
Appends-kept (Some s) (Some t) None x p q = absurd q
Appends-kept (Some s) (Some t) (Some u) x p q = q ∙ p

-- what was written after a text that was written
pub Writes-after : {E : Type 0} (a b c : Option (List ℕ)) (f g k : ℕ) (r : Result (Unit {0}) E) (x y : List ℕ) → Appends a b x → f ≤ g → Writes b c g k r y → Writes a c f k r (x ++ y)
Writes-after a b c f g k (Ok u) x y p l w = record { whole = Appends-then a b c x y p w.whole; part = tt; cause = record { later = omega (arith, w.cause.later); failed = tt } }
Writes-after a b c f g k (Err e) x y p l w = record {
  whole = tt;
  part = record {
    part = x ++ w.part.part;
    rest = w.part.rest;
    whole = ap (λ t. x ++ t) w.part.whole
        ∙ sym (append_assoc x w.part.part w.part.rest);
    appends = Appends-then a b c x w.part.part p w.part.appends;
  };
  cause = record { later = omega (arith, w.cause.later); failed = omega (arith, w.cause.failed) };
}

pub Appends-none : (a : Option (List ℕ)) → Appends a a []
Appends-none None = tt
Appends-none (Some s) = sym (append-nil s)

-- nothing was written
pub BuffersText-none : (a : Option (List ℕ)) (p : List ℕ) → BuffersText a a p p []
BuffersText-none a p = record { sent = []; appends = Appends-none a; whole = append-nil p }

-- one text after another
pub BuffersText-then : (a b c : Option (List ℕ)) (p q r x y : List ℕ) → BuffersText a b p q x → BuffersText b c q r y → BuffersText a c p r (x ++ y)
BuffersText-then a b c p q r x y v w = record {
  sent = v.sent ++ w.sent;
  appends = Appends-then a b c v.sent w.sent v.appends w.appends;
  whole = sym (append_assoc p x y) ∙ (ap (λ t. t ++ y) v.whole ∙ (append_assoc v.sent q y ∙ (ap (λ t. v.sent ++ t) w.whole ∙ sym (append_assoc v.sent w.sent r))));
}

-- what was put behind what is pending
pub BuffersText-put : (a b : Option (List ℕ)) (p q r x y : List ℕ) → BuffersText a b p q x → r ≡ q ++ y → BuffersText a b p r (x ++ y)
BuffersText-put a b p q r x y v e = record {
  sent = v.sent;
  appends = v.appends;
  whole = sym (append_assoc p x y) ∙ (ap (λ t. t ++ y) v.whole ∙ (append_assoc v.sent q y ∙ ap (λ t. v.sent ++ t) (sym e)));
}

pub Sends-put : {E : Type 0} (a b : Option (List ℕ)) (p q r : List ℕ) (f g : ℕ) (u : Unit {0}) (x y : List ℕ) → BuffersText a b p q x → f ≤ g → r ≡ q ++ y → Sends {E = E} a b p r f g (Ok u) (x ++ y)
Sends-put a b p q r f g u x y v l e = record { whole = BuffersText-put a b p q r x y v e; part = tt; cause = record { later = l; failed = tt } }

-- what was written after a text that was written
pub Sends-after : {E : Type 0} (a b c : Option (List ℕ)) (p q r : List ℕ) (f g k : ℕ) (z : Result (Unit {0}) E) (x y : List ℕ)
    → BuffersText a b p q x → f ≤ g → Sends b c q r g k z y → Sends a c p r f k z (x ++ y)
Sends-after a b c p q r f g k (Ok u) x y v l w = record { whole = BuffersText-then a b c p q r x y v w.whole; part = tt; cause = record { later = omega (arith, w.cause.later); failed = tt } }
Sends-after a b c p q r f g k (Err e) x y v l w = record {
  whole = tt;
  part = record {
    part = v.sent ++ w.part.part;
    rest = w.part.rest;
    whole = sym (append_assoc p x y) ∙ (ap (λ t. t ++ y) v.whole ∙ (append_assoc v.sent q y ∙ (ap (λ t. v.sent ++ t) w.part.whole ∙ sym (append_assoc v.sent w.part.part w.part.rest))));
    appends = Appends-then a b c v.sent w.part.part v.appends w.part.appends;
  };
  cause = record { later = omega (arith, w.cause.later); failed = omega (arith, w.cause.failed) };
}

-- what failed in a text failed in each longer text
pub Sends-short : {E : Type 0} (a b : Option (List ℕ)) (p q : List ℕ) (f g : ℕ) (e : E) (x y : List ℕ) → Sends {E = E} a b p q f g (Err e) x → Sends {E = E} a b p q f g (Err e) (x ++ y)
Sends-short a b p q f g e x y w = record {
  whole = tt;
  part = record { part = w.part.part; rest = w.part.rest ++ y; whole = sym (append_assoc p x y) ∙ (ap (λ t. t ++ y) w.part.whole ∙ append_assoc w.part.part w.part.rest y); appends = w.part.appends };
  cause = w.cause;
}

-- a text that begins with what was written before, and goes on with a piece that failed
pub Sends-into : {E : Type 0} (a b c : Option (List ℕ)) (p q r : List ℕ) (f g k : ℕ) (z : E) (before piece rest whole : List ℕ)
    → whole ≡ (before ++ piece) ++ rest → BuffersText a b p q before → f ≤ g → Sends {E = E} b c q r g k (Err z) piece → Sends {E = E} a c p r f k (Err z) whole
Sends-into a b c p q r f g k z before piece rest whole e v l w = rw e (Sends-short a c p r f k z (before ++ piece) rest (Sends-after a b c p q r f g k (Err z) before piece v l w))

-- room was made behind what was written
pub BuffersText-room : (a b c : Option (List ℕ)) (p q r x : List ℕ) → BuffersText a b p q x → BuffersText b c q r [] → BuffersText a c p r x
BuffersText-room a b c p q r x v w = let F : List ℕ → Type 0 = λ t. BuffersText a c p r t in subst F (append-nil x) (BuffersText-then a b c p q r x [] v w)

-- room couldn't be made behind the beginning of a text
pub Sends-no_room : {E : Type 0} (a b c : Option (List ℕ)) (p q r : List ℕ) (f g k : ℕ) (z : E) (x rest whole : List ℕ)
    → whole ≡ x ++ rest → BuffersText a b p q x → f ≤ g → Sends {E = E} b c q r g k (Err z) [] → Sends {E = E} a c p r f k (Err z) whole
Sends-no_room a b c p q r f g k z x rest whole e v l w = Sends-into a b c p q r f g k z x [] rest whole (e ∙ ap (λ t. t ++ rest) (sym (append-nil x))) v l w

-- a text of which the rest was pending, and was written
pub Writes-flushed : {E : Type 0} (a b c : Option (List ℕ)) (q : List ℕ) (f g k : ℕ) (z : Result (Unit {0}) E) (x : List ℕ) → BuffersText a b [] q x → f ≤ g → Writes b c g k z q → Writes a c f k z x
Writes-flushed {E} a b c q f g k z x v l w = let F : List ℕ → Type 0 = λ t. Writes {E = E} a c f k z t in subst F (sym v.whole) (Writes-after a b c f g k z v.sent q v.appends l w)

-- where nothing was pending before
pub Writes-open : {E : Type 0} (a b : Option (List ℕ)) (q : List ℕ) (f g : ℕ) (e : E) (x : List ℕ) → Sends {E = E} a b [] q f g (Err e) x → Writes {E = E} a b f g (Err e) x
Writes-open a b q f g e x w = record { whole = tt; part = w.part; cause = w.cause }

pub after_spaces-append : (a b : List (List ℕ)) → after_spaces (a ++ b) ≡ after_spaces a ++ after_spaces b
after_spaces-append [] b = refl
after_spaces-append (w ∷ a) b = ap (λ t. 32 ∷ (w ++ t)) (after_spaces-append a b) ∙ ap (λ t. 32 ∷ t) (sym (append_assoc w (after_spaces a) (after_spaces b)))
