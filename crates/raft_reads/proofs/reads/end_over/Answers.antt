use Rattle.std.specs.Prelude.{not}
use Rattle.std.proofs.Common.{rules}
use Rattle.std.proofs.lemmas.Fn.{filter_same}
use Rattle.raft_reads.specs.Reads.{is_over}
use Rattle.raft_reads.proofs.reads.end_over.Goals as goal

pub returns : goal.returns
returns c = filter_same _ (λ o. not (is_over c.args.index o)) _ (λ x b f k. search rules) _ _ c.retain.ensures.filtered
