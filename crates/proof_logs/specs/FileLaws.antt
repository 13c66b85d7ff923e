-- What holds of servers with files, whatever they do and wherever crashes cut their files.
use Rattle.std.specs.Prelude.{ℕ, ◌≡◌, List, Some}
use Rattle.raft_node.specs.declared.given.Given.{Given}
use Rattle.raft_node.specs.Safety.{AllAgree, entries_of}
use Rattle.raft_node.specs.WellFormed.{IsWellFormed}
use Rattle.proof_servers.specs.Servers.{Action, AllMayAct, Cluster, after_actions, new_cluster}
use Rattle.proof_logs.specs.Files.{AllMayActOnFiles, Crashes, FileAction, FileCluster, MayActOnFile, Opened, after_file_actions, left_file, log_of, new_file_cluster, opened}

-- they are servers as those without files, and the same has left them
pub record AreServers (c : Cluster) (f : FileCluster) : Type 0 where
  pub each : (id : ℕ) → c.servers id ≡ (f.servers id).server
  pub released : c.released ≡ f.released

-- Whatever servers with files do, servers do without them: what a crash leaves of a file is that some of the oldest waiting records
-- are on disk.
abbrev pub FilesFollow : Type 0
FilesFollow =
    (cluster : ℕ) (given : Given) (actions : List FileAction) → AllMayActOnFiles cluster given actions (new_file_cluster cluster given)
    → (same : List Action) × AllMayAct given same (new_cluster given) × AreServers (after_actions given same (new_cluster given)) (after_file_actions cluster given actions (new_file_cluster cluster given))

-- after each crash the server can read its file
abbrev pub FilesOpen : Type 0
FilesOpen =
    (cluster : ℕ) (given : Given) (actions : List FileAction) (id k n zeros at : ℕ) → AllMayActOnFiles cluster given actions (new_file_cluster cluster given)
    → let f = after_file_actions cluster given actions (new_file_cluster cluster given) in
    MayActOnFile cluster given (Crashes id k n zeros at) f → (o : Opened) × (opened (log_of cluster id) (left_file (log_of cluster id) k n zeros (f.servers id)) ≡ Some o)

-- so what has left them as executed or installed agrees
abbrev pub FilesAgree : Type 0
FilesAgree =
    (cluster : ℕ) (given : Given) → IsWellFormed given → (actions : List FileAction) → AllMayActOnFiles cluster given actions (new_file_cluster cluster given)
    → let f = after_file_actions cluster given actions (new_file_cluster cluster given) in
    AllAgree (entries_of f.released.executed f.released.installed)
