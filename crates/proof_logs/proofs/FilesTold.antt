-- What has left servers with files agrees.
use Rattle.std.proofs.Common.{subst}
use Rattle.raft_store.specs.declared.entry.Entry.{Entry}
use Rattle.raft_node.specs.Net.{Records}
use Rattle.raft_node.specs.Safety.{AllAgree, entries_of}
use Rattle.proof_servers.proofs.Told.{released_agree}
use Rattle.proof_logs.specs.FileLaws.{FilesAgree}
use Rattle.proof_logs.proofs.Runs.{files_follow}
use Rattle.std.specs.Prelude.{List}

pub files_agree : FilesAgree
files_agree cluster given wf actions may =
    let g = files_follow cluster given actions may in
    subst (λ (r : Records (List Entry)). AllAgree (entries_of r.executed r.installed)) g.2.released (released_agree given wf g.0 g.1)
