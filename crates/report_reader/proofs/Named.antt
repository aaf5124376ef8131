-- A list that was put behind those before it is what its span names in every longer list, which shows these numbers.
use Rattle.std.proofs.Common.{◌≡◌, ℕ, ◌≤◌, List, [], ◌∷◌, ◌++◌, length, take, drop, map, refl, sym, ap, ◌∙◌, arith, append_assoc, length-append}
use Rattle.std.proofs.lemmas.List.{take_all, length-map, map-append}
use Rattle.std.proofs.Math.Seq.{drop-append_seam, take-append_seam}
use Rattle.joint_machine.specs.declared.names.Span.{Span}
use Rattle.joint_machine.specs.Histories.{managed_numbers, peer_numbers, stretch, IsWithin}
use Rattle.entry_reader.specs.Meaning.{Spans, as_managed, as_peers}

-- what was put behind a list stands in each longer list where its span says
pub stretch_put : {A : Type 0} (xs ys more list : List A) (s : Span) → list ≡ (xs ++ ys) ++ more → s.first ≡ length xs → s.count ≡ length ys → stretch list s ≡ ys
stretch_put xs ys more list s e f c =
    ap (λ z. take s.count (drop s.first z)) (e ∙ append_assoc xs ys more)
    ∙ (ap (λ k. take s.count (drop k (xs ++ (ys ++ more)))) f ∙ (ap (λ z. take s.count z) (drop-append_seam xs (ys ++ more)) ∙ (ap (λ k. take k (ys ++ more)) c ∙ take-append_seam ys more)))

-- numbers become objects, and objects numbers again
pub back_managed : (ns : List ℕ) → managed_numbers (as_managed ns) ≡ ns
back_managed [] = refl
back_managed (n ∷ ns) = ap (λ z. n ∷ z) (back_managed ns)

pub back_peers : (ns : List ℕ) → peer_numbers (as_peers ns) ≡ ns
back_peers [] = refl
back_peers (n ∷ ns) = ap (λ z. n ∷ z) (back_peers ns)

-- so the span of a list shows its numbers
pub record InList {A : Type 0} (number : A → ℕ) (list : List A) (ns : List ℕ) (s : Span) : Type 0 where
  pub named : stretch (take 4294967296 (map number list)) s ≡ ns
  pub within : IsWithin s (length list)
  pub same : map number (stretch list s) ≡ ns

pub in_list : {A : Type 0} (number : A → ℕ) (put : List ℕ → List A) (ns : List ℕ) → map number (put ns) ≡ ns → (list xs more : List A) (s : Span)
    → list ≡ (xs ++ put ns) ++ more → length list ≤ 4294967295 → Spans (length xs) s ns → InList number list ns s
in_list number put ns back list xs more s e few w =
    let size : length (put ns) ≡ length ns = sym (length-map (put ns) number) ∙ ap length back in
    let numbers : map number list ≡ (map number xs ++ ns) ++ map number more = ap (λ z. map number z) e
    ∙ (map-append number (xs ++ put ns) more ∙ ap (λ z. z ++ map number more) (map-append number xs (put ns) ∙ ap (λ z. map number xs ++ z) back)) in
    let all : take 4294967296 (map number list) ≡ map number list = take_all 4294967296 (map number list) (let l = length-map list number in omega (arith, l, few)) in
    let first : s.first ≡ length (map number xs) = w.0 ∙ sym (length-map xs number) in
    record {
      named = ap (λ z. stretch z s) all ∙ stretch_put (map number xs) ns (map number more) (map number list) s numbers first w.1;
      within = (let l = ap length e in let a = length-append (xs ++ put ns) more in let b = length-append xs (put ns) in omega (arith, l, a, b, size, w.0, w.1));
      same = ap (λ z. map number z) (stretch_put xs (put ns) more list s e w.0 (w.1 ∙ sym size)) ∙ back;
    }
