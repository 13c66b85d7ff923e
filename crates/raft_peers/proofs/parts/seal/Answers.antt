use Rattle.std.proofs.Common.{subst}
use Rattle.std.specs.List.{AllByRecursion}
use Rattle.raft_frames.specs.Laws.{IsByte}
use Rattle.raft_peers.proofs.parts.seal.Goals as goal

pub returns-clause-bytes : goal.returns-clause-bytes
returns-clause-bytes c = subst (AllByRecursion IsByte) c.deref.ensures.value c.are_bytes.ensures
