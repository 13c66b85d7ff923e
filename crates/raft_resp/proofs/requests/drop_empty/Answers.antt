use Rattle.std.specs.Prelude.{length, nat_lt}
use Rattle.std.proofs.Common.{ap, rules, ◌∙◌}
use Rattle.std.proofs.lemmas.Fn.{filter_same}
use Rattle.raft_resp.specs.Reading.{texts}
use Rattle.raft_resp.proofs.Loops.{texts_filter}
use Rattle.raft_resp.proofs.requests.drop_empty.Goals as goal

pub returns : goal.returns
returns c = ap texts (filter_same _ (λ part. nat_lt 0 (length part.now)) _ (λ x b f k. search rules) _ _ c.retain.ensures.filtered) ∙ texts_filter c.args.parts.now.items
