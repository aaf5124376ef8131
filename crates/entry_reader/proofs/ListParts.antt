-- A list is the word `-`, or the numbers that stand there where there is one. With what the line cites behind it, it is
-- read exactly: the numbers that were taken are all of it, and a citation can't be mistaken for one of them.
use Rattle.std.proofs.Common.{◌≡◌, ◌≢◌, ℕ, ◌+◌, ◌<◌, ◌≤◌, ◌^◌, Bool, List, [], ◌∷◌, ◌++◌, length, take, Option, Some, None, codes, refl, sym, ap, ◌∙◌, subst, arith, append-nil, length-append}
use Rattle.std.proofs.Math.Seq.{take-append_seam}
use Rattle.std.proofs.lemmas.List.{length-map}
use Rattle.std.proofs.lemmas.List.Elements.{All-nil}
use Rattle.joint_machine.specs.declared.names.Span.{Span}
use Rattle.history_report.specs.Lists.{listed, lettered}
use Rattle.history_report.specs.Report.{cite_words}
use Rattle.entry_reader.specs.Fitting.{Short, FitsCites}
use Rattle.entry_reader.specs.Meaning.{as_managed, as_peers}
use Rattle.entry_reader.specs.Saying.{IsList}
use Rattle.entry_reader.specs.Listing.{Puts, TakesAll, TakesList, EndsList}
use Rattle.entry_reader.proofs.NumberParts.{no_cite}

-- a list of objects is as long as that of their numbers
abbrev pub KeepsLength : {A : Type 0} → (List ℕ → List A) → Type 0
KeepsLength of = (ns : List ℕ) → length (of ns) ≡ length ns

pub length_managed : KeepsLength as_managed
length_managed ns = length-map ns _

pub length_peers : KeepsLength as_peers
length_peers ns = length-map ns _

pub no_numbers : (rising : Bool) → IsList rising []
no_numbers rising = record { short = All-nil Short; rises = λ e. tt }

-- the word `-` was taken
only_dash : (rising : Bool) (letter : ℕ) (new : List (List ℕ)) (ns : List ℕ) (c : Option ℕ) → letter ≢ 45 → codes "-" ∷ new ≡ listed letter ns ++ cite_words c → new ≡ cite_words c
only_dash rising letter new [] c l e = cc
only_dash rising letter new (n ∷ ns) c l e = absurd (l (cc))

pub dash_taken : {A : Type 0} (of : List ℕ → List A) (rising : Bool) (letter : ℕ) (old new : List (List ℕ)) (before : List A) (s : Span) → of [] ≡ []
    → letter ≢ 45 → length before < 2 ^ 32 → s.first ≡ length before → s.count ≡ 0 → old ≡ codes "-" ∷ new → TakesList of rising letter old new before before (Some s)
dash_taken of rising letter old new before s z l b f n e = record {
  sound = record { numbers = []; list = no_numbers rising; words = e; span = (f, n); short = (omega (arith, f), omega (arith, n)); put = sym (append-nil before) ∙ ap (λ t. before ++ t) (sym z) };
  complete = λ ns c h q. (tt, only_dash rising letter new ns c l (sym e ∙ q));
}

-- numbers were taken, and there is one: no list with a citation is anything else
nothing_put : {A : Type 0} (of : List ℕ → List A) (before after : List A) (ns : List ℕ) → KeepsLength of → after ≡ before ++ of ns → length after ≡ length before → ns ≡ []
nothing_put of before after [] k e n = refl
nothing_put of before after (m ∷ ns) k e n = absurd (omega (arith, ap length e, length-append before (of (m ∷ ns)), k (m ∷ ns)))

-- a list only grows
pub puts_grow : {A : Type 0} (of : List ℕ → List A) (rising : Bool) (letter : ℕ) (old new : List (List ℕ)) (before after : List A)
    → Puts of rising letter old new before after → length before ≤ length after
puts_grow of rising letter old new before after p = omega (arith, ap length p.put, length-append before (of p.numbers))

no_list : (rising : Bool) (letter : ℕ) (old new : List (List ℕ)) (ms : List ℕ) (c : Option ℕ) → letter ≢ 64
    → ((rest : List (List ℕ)) → old ≢ codes "-" ∷ rest) → TakesAll rising letter old new [] → IsList rising ms → old ≡ listed letter ms ++ cite_words c → ⊥
no_list rising letter old new [] c l d t h e = d (cite_words c) e
no_list rising letter old new (m ∷ ms) c l d t h e = no_cite letter m (lettered letter ms ++ cite_words c) c l (sym e ∙ (t.words ∙ t.only (m ∷ ms) c h e))

pub none_taken : {A : Type 0} (of : List ℕ → List A) (rising : Bool) (letter : ℕ) (old new : List (List ℕ)) (before after : List A) → KeepsLength of → of [] ≡ [] → letter ≢ 64
    → ((rest : List (List ℕ)) → old ≢ codes "-" ∷ rest) → Puts of rising letter old new before after → length after ≡ length before → TakesList of rising letter old new before after None
none_taken of rising letter old new before after k z l d p n =
    let none = nothing_put of before after p.numbers k p.put n in
    let T : List ℕ → Type 0 = λ ns. TakesAll rising letter old new ns in
    let t = subst T none p.takes in
    record {
      sound = (sym t.words, p.put ∙ (ap (λ ns. before ++ of ns) none ∙ (ap (λ y. before ++ y) z ∙ append-nil before)));
      complete = λ ms c h e. absurd (no_list rising letter old new ms c l d t h e);
    }

some_listed : (letter : ℕ) (ns : List ℕ) → (ns ≡ [] → ⊥) → listed letter ns ≡ lettered letter ns
some_listed letter [] n = absurd (n refl)
some_listed letter (m ∷ ns) n = refl

only_numbers : (rising : Bool) (letter : ℕ) (old new : List (List ℕ)) (ns ms : List ℕ) (c : Option ℕ) → ((rest : List (List ℕ)) → old ≢ codes "-" ∷ rest)
    → TakesAll rising letter old new ns → IsList rising ms → old ≡ listed letter ms ++ cite_words c → new ≡ cite_words c
only_numbers rising letter old new ns [] c d t h e = absurd (d (cite_words c) e)
only_numbers rising letter old new ns (m ∷ ms) c d t h e = t.only (m ∷ ms) c h e

pub list_taken : {A : Type 0} (of : List ℕ → List A) (rising : Bool) (letter : ℕ) (old new : List (List ℕ)) (before after : List A) (s : Span) → KeepsLength of → of [] ≡ []
    → ((rest : List (List ℕ)) → old ≢ codes "-" ∷ rest) → Puts of rising letter old new before after
    → length after < 2 ^ 32 → s.first ≡ length before → length before + s.count ≡ length after → 0 < s.count
    → TakesList of rising letter old new before after (Some s)
list_taken of rising letter old new before after s k z d p b f n g =
    let ns = p.numbers in
    let long : length after ≡ length before + length ns = omega (arith, ap length p.put, length-append before (of ns), k ns) in
    let some : ns ≡ [] → ⊥ = λ e. omega (arith, long, ap length e, n, g) in
    let count : s.count ≡ length ns = omega (arith, long, n) in
    record {
      sound = record {
        numbers = ns;
        list = p.takes.list;
        words = p.takes.words
            ∙ ap (λ t. t ++ new) (sym (some_listed letter ns some));
        span = (f, count);
        short = (omega (arith, f, b, n), omega (arith, b, n));
        put = p.put;
      };
      complete = λ ms c h e. (tt, only_numbers rising letter old new ns ms c d p.takes h e);
    }

-- no list stands there
pub ends_without : {A : Type 0} (of : List ℕ → List A) (rising : Bool) (letter : ℕ) (old new : List (List ℕ)) (before after : List A)
    → TakesList of rising letter old new before after None → EndsList of rising letter old before after None
ends_without of rising letter old new before after t = (t.sound.1, λ ns c l f e. (t.complete ns c l e).0)

-- or something else than a citation stands behind it
pub ends_otherwise : {A : Type 0} (of : List ℕ → List A) (rising : Bool) (letter : ℕ) (old new : List (List ℕ)) (before after : List A) (s : Span)
    → TakesList of rising letter old new before after (Some s) → ((c : Option ℕ) → FitsCites c → new ≢ cite_words c) → EndsList of rising letter old before before None
ends_otherwise of rising letter old new before after s t n = (refl, λ ns c l f e. n c f (t.complete ns c l e).1)

-- a list, and what the line cites
pub ends_with : {A : Type 0} (of : List ℕ → List A) (rising : Bool) (letter : ℕ) (old new : List (List ℕ)) (before after : List A) (s : Span) (c : Option ℕ)
    → TakesList of rising letter old new before after (Some s) → FitsCites c → new ≡ cite_words c → EndsList of rising letter old before after (Some (s, c))
ends_with of rising letter old new before after s c t f e =
    let n = t.sound in
    record { cites = f; names = record { numbers = n.numbers; list = n.list; words = n.words ∙ ap (λ z. listed letter n.numbers ++ z) e; span = n.span; short = n.short; put = n.put } }

-- the list without what was put behind it
pub cut_back : {A : Type 0} (of : List ℕ → List A) (rising : Bool) (letter : ℕ) (old new : List (List ℕ)) (before after : List A) (s : Span) (n : ℕ)
    → n ≡ length before → TakesList of rising letter old new before after (Some s) → take n after ≡ before
cut_back of rising letter old new before after s n e t = rw (e, t.sound.put, take-append_seam before (of t.sound.numbers)) refl
