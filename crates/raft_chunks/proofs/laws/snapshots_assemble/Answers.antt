use Rattle.raft_chunks.proofs.Runs.{assembles_by_title, assembles_what_was_sent}
use Rattle.raft_chunks.proofs.laws.snapshots_assemble.Goals as goal

pub returns-clause-titled : goal.returns-clause-titled
returns-clause-titled c = assembles_by_title

pub returns-clause-sent : goal.returns-clause-sent
returns-clause-sent c = assembles_what_was_sent
