-- What global names keep: the handle of each is in the table, and no two names have the same.
use Rattle.std.proofs.Common.{◌≡◌, ℕ, ◌+◌, ◌⊎◌, inl, inr, List, [], ◌∷◌, ◌++◌, length, Option, Some, None, set, replicate, sym, subst, ◌∙◌, arith}
use Rattle.std.specs.Prelude.{slice_get}
use Rattle.std.proofs.lemmas.Bool.{cases_eq}
use Rattle.std.proofs.lemmas.Option.{same_Some}
use Rattle.joint_machine.specs.Heaps.{slot, numbered_set}
use Rattle.joint_machine.specs.Peers.{Issued}
use Rattle.joint_machine.specs.PeerReplay.{TableRow, cleared_rows}
use Rattle.joint_machine.proofs.Deciding.{none_some}
use Rattle.joint_machine.proofs.Numbered.{set-at_same, set-at_other, numbered-within, numbered-push_old, numbered-push_new, numbered_set-here, numbered_set-other, slot-named, slot-Contains}
use Rattle.joint_machine.proofs.Numbered.{replicate-none}
use Rattle.joint_laws.specs.PeerInvariants.{IsTabled}
use Rattle.summary_laws.proofs.TableRows.{tabled-stays}

pub record NamesInvariant (names : List (Option ℕ)) (table : List (Option TableRow)) : Type 0 where
  pub tabled : (g h : ℕ) → slot names g ≡ Some h → (row : TableRow) × IsTabled table h row
  pub apart : (g f h : ℕ) → slot names g ≡ Some h → slot names f ≡ Some h → g ≡ f

pub names-opening : NamesInvariant (replicate 64 None) []
names-opening = record {
  tabled = λ g h e. absurd (replicate-none 64 h (slot-Contains (replicate 64 None) g h e));
  apart = λ g f h e q. absurd (replicate-none 64 h (slot-Contains (replicate 64 None) g h e));
}

-- where another value was put, or where the old one is
slot-set_cases : (names : List (Option ℕ)) (g : ℕ) (o : Option ℕ) (f h : ℕ) → slot (set names g o) f ≡ Some h → ((f ≡ g) × (o ≡ Some h)) ⊎ ((f ≡ g → ⊥) × (slot names f ≡ Some h))
slot-set_cases names g o f h e = elim (cases_eq f g) [
  | inl q ↦ inl (q, set-at_same names g o (Some h) (subst (λ z. slice_get (set names g o) z ≡ Some (Some h)) q (slot-named (slice_get (set names g o) f) h e)))
  | inr n ↦ inr (n, subst (λ (z : Option (Option ℕ)). elim z [ None ↦ None | Some y ↦ y ] ≡ Some h) (set-at_other names g f o n) e)
]

module _ (names : List (Option ℕ)) (table : List (Option TableRow)) (k : NamesInvariant names table) where
  -- a further handle stands last
  pub names-grown : (o : Option TableRow) → NamesInvariant names (table ++ o ∷ [])
  names-grown o = record {
    tabled = λ g h e. (let w = k.tabled g h e in (w.0, numbered-push_old table o h (numbered-within table h (Some w.0) w.1).1 ∙ w.1));
    apart = k.apart;
  }

  -- a name gets it
  module _ (g n : ℕ) (row : TableRow) (l : n ≡ length table + 1) where
    new-apart : (f h : ℕ) → Some n ≡ Some h → slot names f ≡ Some h → ⊥
    new-apart f h e q =
        let w = k.tabled f h q in
        let within = (numbered-within table h (Some w.0) w.1).1 in
        omega (arith, within, same_Some n h e, l)

    new-tabled : (h : ℕ) → Some n ≡ Some h → IsTabled (table ++ Some row ∷ []) h row
    new-tabled h e = subst (λ z. IsTabled (table ++ Some row ∷ []) z row) (sym l ∙ same_Some n h e) (numbered-push_new table (Some row))

    pub names-given : NamesInvariant (set names g (Some n)) (table ++ Some row ∷ [])
    names-given = record {
      tabled = λ f h e. elim (slot-set_cases names g (Some n) f h e) [
        | inl w ↦ (row, new-tabled h w.1)
        | inr w ↦ (names-grown (Some row)).tabled f h w.1
      ];
      apart = λ f m h e q. elim (slot-set_cases names g (Some n) f h e) [
        | inl w ↦ elim (slot-set_cases names g (Some n) m h q) [ inl v ↦ w.0 ∙ sym v.0 | inr v ↦ absurd (new-apart m h w.1 v.1) ]
        | inr w ↦ elim (slot-set_cases names g (Some n) m h q) [ inl v ↦ absurd (new-apart f h v.1 w.1) | inr v ↦ k.apart f m h w.1 v.1 ]
      ];
    }

  -- a name is free again, and its handle leaves the table
  pub names-freed : (g n : ℕ) → slot names g ≡ Some n → NamesInvariant (set names g None) (numbered_set table n None)
  names-freed g n e = record {
    tabled = λ f h q. elim (slot-set_cases names g None f h q) [
      | inl w ↦ absurd (none_some h w.1)
      | inr w ↦ (let t = k.tabled f h w.1 in (t.0, numbered_set-other table n h None (λ same. w.0 (k.apart f g n (subst (λ z. slot names f ≡ Some z) same w.1) e)) ∙ t.1))
    ];
    apart = λ f m h q r. elim (slot-set_cases names g None f h q) [
      | inl w ↦ absurd (none_some h w.1)
      | inr w ↦ elim (slot-set_cases names g None m h r) [ inl v ↦ absurd (none_some h v.1) | inr v ↦ k.apart f m h w.1 v.1 ]
    ];
  }

  -- a handle that no name has leaves the table
  pub names-gone : (n : ℕ) → ((g : ℕ) → slot names g ≡ Some n → ⊥) → NamesInvariant names (numbered_set table n None)
  names-gone n out = record {
    tabled = λ g h e. (let t = k.tabled g h e in (t.0, numbered_set-other table n h None (λ same. out g (subst (λ z. slot names g ≡ Some z) same e)) ∙ t.1));
    apart = k.apart;
  }

  -- a handle of the table has another row
  pub names-reset : (n : ℕ) (old row : TableRow) → IsTabled table n old → NamesInvariant names (numbered_set table n (Some row))
  names-reset n old row there = record {
    tabled = λ g h e. elim (cases_eq h n) [
      | inl q ↦ (let w = numbered-within table n (Some old) there in (row, subst (λ z. IsTabled (numbered_set table n (Some row)) z row) (sym q) (numbered_set-here table n (Some row) w.0 w.1)))
      | inr q ↦ (let t = k.tabled g h e in (t.0, numbered_set-other table n h (Some row) q ∙ t.1))
    ];
    apart = k.apart;
  }

  -- handles are cleared
  pub names-swept : (freed : List ℕ) (issued : List Issued) → length table ≡ length issued → NamesInvariant names (cleared_rows freed issued table)
  names-swept freed issued l = record {
    tabled = λ g h e. (let t = k.tabled g h e in tabled-stays freed issued table h t.0 l t.1);
    apart = k.apart;
  }
