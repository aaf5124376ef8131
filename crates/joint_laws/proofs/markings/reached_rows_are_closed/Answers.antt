use Rattle.joint_laws.proofs.RunUnions.{run_union_is_closed, run_union_follows_marking}
use Rattle.joint_laws.proofs.Unions.{union_is_closed, union_follows_marking}
use Rattle.joint_laws.proofs.markings.reached_rows_are_closed.Goals as goal

pub returns : goal.returns
returns c = record { edges = union_is_closed; marking = union_follows_marking; run_edges = run_union_is_closed; run_marking = run_union_follows_marking }
