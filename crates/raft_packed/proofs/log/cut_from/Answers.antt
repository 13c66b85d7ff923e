use Rattle.std.proofs.Common.{rules, nat_lt}
use Rattle.std.proofs.lemmas.Map.Made.{filter_same_pairs}
use Rattle.raft_packed.proofs.log.cut_from.Goals as goal

pub returns : goal.returns
returns c =
    filter_same_pairs _ (λ p. nat_lt p.0 c.args.since) _ (λ k v b w f' t. search rules) _ _ c.retain.ensures.filtered
