use Rattle.view_laws.proofs.KnownViews.{first_is_known, views_grow, views_join, same_is_known}
use Rattle.view_laws.proofs.DrawnViews.{drawn_views_grow, drawn_views_join}
use Rattle.view_laws.proofs.Finished.{whole_view_is_gated, whole_view_is_linked}
use Rattle.view_laws.proofs.views_are_pasts.Goals as goal

pub returns-clause-first : goal.returns-clause-first
returns-clause-first c = first_is_known

pub returns-clause-grow : goal.returns-clause-grow
returns-clause-grow c = views_grow

pub returns-clause-join : goal.returns-clause-join
returns-clause-join c = views_join

pub returns-clause-same : goal.returns-clause-same
returns-clause-same c = same_is_known

pub returns-clause-whole : goal.returns-clause-whole
returns-clause-whole c = whole_view_is_linked

pub returns-clause-gated : goal.returns-clause-gated
returns-clause-gated c = whole_view_is_gated

pub returns-clause-grow_drawn : goal.returns-clause-grow_drawn
returns-clause-grow_drawn c = drawn_views_grow

pub returns-clause-join_drawn : goal.returns-clause-join_drawn
returns-clause-join_drawn c = drawn_views_join
