use Rattle.std.proofs.Common.{◌≡◌, ◌+◌, [], ◌∷◌, ◌++◌, Some, false, length, refl, ap, ◌∙◌, arith}
use Rattle.std.proofs.lemmas.List.{length_push}
use Rattle.global_handles.specs.declared.Kept.{Kept}
use Rattle.global_handles.specs.declared.Name.{Name}
use Rattle.global_handles.specs.declared.Slot.{Slot}
use Rattle.global_handles.specs.Slots.{with_previous, head_in, rows_of, row_at}
use Rattle.global_handles.proofs.Slots.{ArePlaced-more, ArePlaced-push, NamesRise-push, RisesBetween-named}
use Rattle.global_handles.proofs.Chains.{IsChained-heads, IsChained-pushed, pushed_slots, length-with_previous, rows_of-pushed}
use Rattle.global_handles.proofs.HandleTable.make.Goals as goal

pub returns-then-len-eq-MOST_HANDLES-clause-rising : goal.returns-then-len-eq-MOST_HANDLES-clause-rising
returns-then-len-eq-MOST_HANDLES-clause-rising c = rw (← c.self.view_is) (RisesBetween-named 0 _ c.self.inside.slots.items _ c.self.invariant.rise)

pub returns-in_err-reserve-clause-rising : goal.returns-in_err-reserve-clause-rising
returns-in_err-reserve-clause-rising c = RisesBetween-named 0 _ c.reserve.new.self.items _ c.self.invariant.rise

pub returns-in_err-reserve_names-clause-rising : goal.returns-in_err-reserve_names-clause-rising
returns-in_err-reserve_names-clause-rising c = rw c.reserve_names.ensures.items (RisesBetween-named 0 _ c.reserve.new.self.items _ c.self.invariant.rise)

pub returns-in_err-make_head-clause-rising : goal.returns-in_err-make_head-clause-rising
returns-in_err-make_head-clause-rising c = rw c.reserve_names.ensures.items (RisesBetween-named 0 _ c.reserve.new.self.items _ c.self.invariant.rise)

pub set_previous-requires : goal.set_previous-requires
set_previous-requires c =
    let leads = c.self.invariant.chained.heads_lead c.args.p in
    rw (c.set_head-next.ensures.before, c.make_head.ensures.heads c.args.p, c.reserve.ensures.items) leads.within

pub returns-clause-rising : goal.returns-clause-rising
returns-clause-rising c =
    let names = c.push_reserved-2.ensures.items ∙ ap (λ es. es ++ record { number = c.self.inside.last + 1; place = c.len-place.result } ∷ []) c.reserve_names.ensures.items in
    rw names (RisesBetween-named 0 _ c.push_reserved.new.self.items _ (NamesRise-push 0 c.self.inside.last _ c.self.inside.names.items _ (omega arith) (omega arith) c.self.invariant.rise))

pub invariant_of-self-2 : goal.invariant_of-self-2
invariant_of-self-2 c =
    let all = c.self.inside.slots.items in
    let es = c.self.inside.names.items in
    let number = c.len-place.result + 1 in
    let heads = head_in c.make_head.new.heads.items in
    let k : Kept = record { number = c.self.inside.last + 1; hold = c.args.hold; strength = c.args.strength; cleared = false } in
    let s : Slot = record { peer = c.args.p; next = c.set_head-next.result; previous = 0; row = Some k } in
    let e : Name = record { number = c.self.inside.last + 1; place = c.len-place.result } in
    let i = c.self.invariant in
    let items : c.push_reserved.new.self.items ≡ pushed_slots all s number = c.push_reserved.ensures.items
    ∙ ap (λ ss. ss ++ s ∷ []) (c.set_previous.ensures.items ∙ ap (λ ss. with_previous ss s.next number) c.reserve.ensures.items) in
    let names : c.push_reserved-2.new.self.items ≡ es ++ e ∷ [] = c.push_reserved-2.ensures.items ∙ ap (λ es. es ++ e ∷ []) c.reserve_names.ensures.items in
    let place : c.len-place.result ≡ length all = omega (arith, c.len-place.ensures, ap length c.reserve.ensures.items) in
    let len : length (pushed_slots all s number) ≡ number = omega (arith, length_push (with_previous all s.next number) s, length-with_previous all s.next number) in
    let rows = rows_of-pushed all es s number e k i.placed place refl refl in
    record {
      most = rw items (omega (arith, len));
      counted = rw (items, names, rows) (omega (arith, i.counted, length_push (rows_of all es) (row_at e.number s.peer k)));
      few = rw items (omega (arith, len, i.few));
      rise = rw names (NamesRise-push 0 c.self.inside.last _ es e (omega arith) (omega arith) i.rise);
      placed = rw (items, names, len) (ArePlaced-push number es e (omega arith) (ArePlaced-more (length all) number es (omega arith) i.placed));
      twice = rw (items, names) (omega (arith, len, length_push es e, i.twice));
      chained = rw items (IsChained-pushed all s number heads _ (omega arith) refl refl c.set_head-next.ensures.before len c.set_head-next.ensures.head
          (IsChained-heads all (head_in c.self.inside.heads.items) heads c.make_head.ensures.heads i.chained));
      slots_room = omega (
        arith,
        i.slots_room,
        ap length items,
        len,
        c.reserve.ensures.capacity,
        c.in_ok-reserve.ensures.ok,
        c.set_previous.ensures.capacity,
        c.push_reserved.ensures.capacity,
        c.saturating_sub-self-inside.ensures,
      );
      names_room = omega (
        arith,
        i.names_room,
        ap length items,
        len,
        c.reserve_names.ensures.capacity,
        c.in_ok-reserve_names.ensures.room,
        c.push_reserved-2.ensures.capacity,
        c.saturating_sub-self-inside.ensures,
      );
      heads_most = omega (arith, i.heads_most, c.in_ok-make_head.ensures.place, c.set_head-next.ensures.len);
      heads_room = omega (arith, i.heads_room, c.make_head.ensures.capacity, c.set_head-next.ensures.capacity, c.saturating_sub-self-inside.ensures);
    }

pub returns-clause-rows : goal.returns-clause-rows
returns-clause-rows c =
    let all = c.self.inside.slots.items in
    let es = c.self.inside.names.items in
    let number = c.len-place.result + 1 in
    let k : Kept = record { number = c.self.inside.last + 1; hold = c.args.hold; strength = c.args.strength; cleared = false } in
    let s : Slot = record { peer = c.args.p; next = c.set_head-next.result; previous = 0; row = Some k } in
    let e : Name = record { number = c.self.inside.last + 1; place = c.len-place.result } in
    let items : c.push_reserved.new.self.items ≡ pushed_slots all s number = c.push_reserved.ensures.items
    ∙ ap (λ ss. ss ++ s ∷ []) (c.set_previous.ensures.items ∙ ap (λ ss. with_previous ss s.next number) c.reserve.ensures.items) in
    let names : c.push_reserved-2.new.self.items ≡ es ++ e ∷ [] = c.push_reserved-2.ensures.items ∙ ap (λ es. es ++ e ∷ []) c.reserve_names.ensures.items in
    let place : c.len-place.result ≡ length all = omega (arith, c.len-place.ensures, ap length c.reserve.ensures.items) in
    rw (items, names, ← c.self.view_is) (rows_of-pushed all es s number e k c.self.invariant.placed place refl refl)
