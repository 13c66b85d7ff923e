use Rattle.std.proofs.Common.{rules}
use Rattle.std.proofs.lemmas.List.Sorted.{IsNonDecreasingBy-from_sort_by_key}
use Rattle.raft_world.proofs.report.make_table.Goals as goal

pub returns : goal.returns
returns c = record {
  same = rw (← c.in_ok-table.ensures) c.sort_by_key.ensures.permutation;
  rising = IsNonDecreasingBy-from_sort_by_key (λ e. e.log_id.index) _ c.in_ok-sort_by_key.ensures.sorted (λ a r q k. search rules);
}
