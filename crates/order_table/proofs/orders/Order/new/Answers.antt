use Rattle.std.proofs.Common.{rules, ◌≡◌, [], ap, sym, subst}
use Rattle.order_table.specs.Views.{OwnsAll, first_view}
use Rattle.order_table.proofs.Steps.{opens_order, owns_first}
use Rattle.order_table.proofs.orders.Order.new.Goals as goal

pub of_words-requires : goal.of_words-requires
of_words-requires c = opens_order

pub returns-clause-all : goal.returns-clause-all
returns-clause-all c = let e : c.in_ok-table.inner.me ≡ (first_view, []) = search rules in subst OwnsAll (sym (ap (λ m. m.0) e)) owns_first
