-- Settings, with times in milliseconds (openraft's `EngineConfig` and `time_state::Config`).
use Rattle.std.specs.Prelude.{ℕ, ◌*◌, ◌-◌, ◌^◌, min}
use Rattle.raft_progress_entry.specs.raft_state.declared.policy.SnapshotPolicy.{SnapshotPolicy}
use Rattle.raft_progress_entry.specs.raft_state.declared.policy.SnapshotPolicy.TheVariants.{LogsSinceLast}
use Rattle.raft_command.specs.declared.config.EngineConfig.{EngineConfig}
use Rattle.raft_command.specs.declared.config.time_state.Config.{Config}

-- the default times
abbrev pub default_times : Config
default_times = record { election_timeout = 150; smaller_log_timeout = 200; leader_lease = 150 }

-- a node's default settings
abbrev pub default_config : {NID : Type 0} → NID → EngineConfig NID
default_config id = record {
  id = id;
  snapshot_policy = LogsSinceLast 5000;
  max_in_snapshot_log_to_keep = 1000;
  purge_batch_size = 256;
  max_payload_entries = 300;
  timer_config = default_times;
}

-- twice a time, at most the greatest u64
abbrev pub doubled : ℕ → ℕ
doubled time = min (time * 2) (2 ^ 64 - 1)

-- the settings with these values
abbrev pub new_config : {NID : Type 0} → NID → SnapshotPolicy → ℕ → ℕ → ℕ → ℕ → ℕ → EngineConfig NID
new_config id policy keep batch payload timeout timeout_max = record {
  id = id;
  snapshot_policy = policy;
  max_in_snapshot_log_to_keep = keep;
  purge_batch_size = batch;
  max_payload_entries = payload;
  timer_config = record { election_timeout = timeout; smaller_log_timeout = doubled timeout_max; leader_lease = timeout_max };
}
