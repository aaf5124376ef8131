-- The lists of both sides and of the readers, of a view that knows a whole history, are a shuffle of it: each is the
-- list of its line, and each entry stands in one of these lines. So they can be joined, and what they are joined to is
-- the linked history of the view's past.
use Rattle.std.proofs.Common.{inl, inr, ℕ, ◌+◌, List, [], ◌∷◌, sym, ap, ◌∙◌, subst, arith, refl}
use Rattle.std.specs.Prelude.{Contains}
use Rattle.joint_machine.specs.declared.events.Entry.{Entry}
use Rattle.joint_machine.specs.Histories.{Finished}
use Rattle.joint_machine.specs.Lines.{IsThread}
use Rattle.joint_machine.proofs.Members.{Contains-nil, Contains-cons_cases}
use Rattle.joint_model.proofs.Shuffling.{lines_shuffle, shuffle_is_one}
use Rattle.joint_laws.proofs.FittingLists.{linked_is_history}
use Rattle.known_laws.specs.Wholes.{history_of, IsLinkedPast}
use Rattle.order_table.specs.Facts.{entries_of, line_entries}
use Rattle.order_table.specs.Rule.{Item, RunsFrom}
use Rattle.order_table.proofs.Wholes.{tell_lines}
use Rattle.view_laws.specs.Knowing.{WholeListsAreShuffle, WholeListsAreJoined}
use Rattle.view_laws.proofs.Finished.{whole_view_is_linked}

-- each entry is made by a thread of the script
whole-threads : (n : ℕ) (xs : List Item) → RunsFrom n xs → (e : Entry) → Contains (entries_of xs) e → IsThread e.made.caller
whole-threads n [] r e c = absurd (Contains-nil e c)
whole-threads n (x ∷ xs) r e c = elim (Contains-cons_cases x.kept.entry (entries_of xs) e c) [
  | inl q ↦ subst (λ (z : Entry). IsThread z.made.caller) q r.0.caller
  | inr d ↦ whole-threads (n + 1) xs r.1 e d
]

pub whole_lists_are_shuffle : WholeListsAreShuffle
whole_lists_are_shuffle v w lists l =
    let told = tell_lines w.whole w.numbers in
    lines_shuffle lists (entries_of w.whole) told.numbered (whole-threads 0 w.whole w.numbers) l.ten
    (λ i few. l.each i few ∙ (ap line_entries (w.each i (omega (arith, few))) ∙ told.lines i))

pub whole_lists_are_joined : WholeListsAreJoined
whole_lists_are_joined v a w lists ms ps ns l ended =
    let whole = entries_of w.whole in
    let h : Finished = record { entries = whole; freed_managed = ms; freed_peers = ps; notices = ns } in
    let linked = whole_view_is_linked h v a w refl ended in
    let shuffle = whole_lists_are_shuffle v w lists l in
    record {
      joinable = record { whole = whole; shuffle = shuffle; fits = (linked_is_history h (history_of a.known.past) linked.linked).fits };
      linked = λ k s b c d. let same = shuffle_is_one lists k.entries whole s shuffle in
          (subst (λ z. IsLinkedPast z a.known.past) (λ i. record { entries = sym same i; freed_managed = sym b i; freed_peers = sym c i; notices = sym d i }) linked, same);
    }
