-- Pieces that are put one behind another are one piece.
use Rattle.std.proofs.Common.{◌≡◌, ℕ, List, ◌++◌, ap, ◌∙◌, append_assoc}
use Rattle.std.specs.List.{flat_map}
use Rattle.picture_text.specs.declared.changes.Change.{Change}
use Rattle.picture_text.specs.declared.changes.Change.TheVariants as change
use Rattle.picture_text.specs.Texts.{by_change}

pub c2 : (o a b n m : List ℕ) → n ≡ o ++ a → m ≡ n ++ b → m ≡ o ++ (a ++ b)
c2 o a b n m p q = q ∙ (ap (λ xs. xs ++ b) p ∙ append_assoc o a b)

pub c3 : (o a b c n1 n2 n3 : List ℕ) → n1 ≡ o ++ a → n2 ≡ n1 ++ b → n3 ≡ n2 ++ c → n3 ≡ o ++ (a ++ (b ++ c))
c3 o a b c n1 n2 n3 p1 p2 p3 = c2 o a (b ++ c) n1 n3 p1 (c2 n1 b c n2 n3 p2 p3)

pub c4 : (o a b c d n1 n2 n3 n4 : List ℕ) → n1 ≡ o ++ a → n2 ≡ n1 ++ b → n3 ≡ n2 ++ c → n4 ≡ n3 ++ d → n4 ≡ o ++ (a ++ (b ++ (c ++ d)))
c4 o a b c d n1 n2 n3 n4 p1 p2 p3 p4 = c2 o a (b ++ (c ++ d)) n1 n4 p1 (c3 n1 b c d n2 n3 n4 p2 p3 p4)

pub c5 : (o a b c d e n1 n2 n3 n4 n5 : List ℕ) → n1 ≡ o ++ a → n2 ≡ n1 ++ b → n3 ≡ n2 ++ c → n4 ≡ n3 ++ d → n5 ≡ n4 ++ e → n5 ≡ o ++ (a ++ (b ++ (c ++ (d ++ e))))
c5 o a b c d e n1 n2 n3 n4 n5 p1 p2 p3 p4 p5 = c2 o a (b ++ (c ++ (d ++ e))) n1 n5 p1 (c4 n1 b c d e n2 n3 n4 n5 p2 p3 p4 p5)

-- what stands before the looks of an arrow, the looks, and what stands behind them
pub drawn : (o a b l d e n1 n2 n3 : List ℕ) → n1 ≡ o ++ (a ++ b) → n2 ≡ n1 ++ l → n3 ≡ n2 ++ (d ++ e) → n3 ≡ o ++ (a ++ (b ++ (l ++ (d ++ e))))
drawn o a b l d e n1 n2 n3 p q r = c3 o (a ++ b) l (d ++ e) n1 n2 n3 p q r ∙ ap (λ xs. o ++ xs) (append_assoc a b (l ++ (d ++ e)))

-- a spot's shape, and what stands behind it
pub shaped : (o a s b e n1 n2 : List ℕ) → n1 ≡ o ++ (a ++ (s ++ b)) → n2 ≡ n1 ++ e → n2 ≡ o ++ (a ++ (s ++ (b ++ e)))
shaped o a s b e n1 n2 p q = c2 o (a ++ (s ++ b)) e n1 n2 p q ∙ ap (λ xs. o ++ xs) (append_assoc a (s ++ b) e ∙ ap (λ xs. a ++ xs) (append_assoc s b e))

-- what stays, what came and what went, as they were lent
pub changed : {A : Type 0} (text : Change → A → List ℕ) (o n1 n2 n3 : List ℕ) (x y z stay came went : List A) → x ≡ stay → y ≡ came → z ≡ went
    → n1 ≡ o ++ flat_map (text change.Stays) x → n2 ≡ n1 ++ flat_map (text change.Came) y → n3 ≡ n2 ++ flat_map (text change.Went) z → n3 ≡ o ++ by_change text stay came went
changed text o n1 n2 n3 x y z stay came went e f g p q r =
    c3 o (flat_map (text change.Stays) stay) (flat_map (text change.Came) came) (flat_map (text change.Went) went) n1 n2 n3
    (p ∙ ap (λ xs. o ++ flat_map (text change.Stays) xs) e)
    (q ∙ ap (λ xs. n1 ++ flat_map (text change.Came) xs) f)
    (r ∙ ap (λ xs. n2 ++ flat_map (text change.Went) xs) g)
