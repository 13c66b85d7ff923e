-- What servers have in common, of the settings' bytes.
use Rattle.std.specs.Prelude.{ℕ, zero, suc, ◌+◌, ◌*◌, ◌==◌, List, [], ◌∷◌, drop, take, if◌then◌else◌}
use Rattle.std.specs.Int.{from_le_bytes, w64}
use Rattle.std.specs.Ordering.{nat_cmp}
use Rattle.raft_command.specs.Config.{new_config}
use Rattle.raft_command.specs.declared.config.EngineConfig.{EngineConfig}
use Rattle.raft_node.specs.declared.given.Given.{Given}
use Rattle.raft_state.specs.Members.{group_of, members_of}
use Rattle.raft_state.specs.declared.policy.SnapshotPolicy.{SnapshotPolicy}
use Rattle.raft_state.specs.declared.policy.SnapshotPolicy.TheVariants.{LogsSinceLast, Never}

-- the number at the front: eight bytes, the lowest first
abbrev pub number_at : List ℕ → ℕ
number_at front = from_le_bytes w64 (take 8 front)

-- what follows so many numbers
abbrev pub behind_numbers : ℕ → List ℕ → List ℕ
behind_numbers n front = drop (8 * n) front

-- the number behind so many others
abbrev pub nth_number : ℕ → List ℕ → ℕ
nth_number zero front = number_at front
nth_number (suc n) front = nth_number n (behind_numbers 1 front)

-- so many numbers, one behind another
abbrev pub numbers_at : ℕ → List ℕ → List ℕ
numbers_at zero front = []
numbers_at (suc n) front = number_at front ∷ numbers_at n (behind_numbers 1 front)

-- what follows bytes that stand behind their number
abbrev pub behind_bytes : List ℕ → List ℕ
behind_bytes front = drop (number_at front) (behind_numbers 1 front)

-- a server: its id, its host, its port
abbrev pub behind_server : List ℕ → List ℕ
behind_server front = behind_numbers 1 (behind_bytes (behind_numbers 1 front))

abbrev pub behind_servers : ℕ → List ℕ → List ℕ
behind_servers zero front = front
behind_servers (suc n) front = behind_servers n (behind_server front)

abbrev pub ids_at : ℕ → List ℕ → List ℕ
ids_at zero front = []
ids_at (suc n) front = number_at front ∷ ids_at n (behind_server front)

-- after how many entries a snapshot is built: never, if 0
abbrev pub policy_of : ℕ → SnapshotPolicy
policy_of entries = if entries == 0 then Never else LogsSinceLast entries

-- the election timeout, the lease, the most entries of a message, the snapshot policy, the entries that are kept
abbrev pub engine_at : List ℕ → EngineConfig ℕ
engine_at front = new_config 0 (policy_of (nth_number 3 front)) (nth_number 4 front) 1 (nth_number 2 front) (nth_number 0 front) (nth_number 1 front)

-- how many voters, their ids, and the engine's settings
abbrev pub given_behind : List ℕ → List ℕ → Given
given_behind ids front = record {
  ids = group_of nat_cmp ids;
  membership = members_of nat_cmp (record {}) (numbers_at (number_at front) (behind_numbers 1 front) ∷ []) [];
  settings = engine_at (behind_numbers (number_at front + 1) front);
}

-- how many servers, each, and what is behind them
abbrev pub given_at : List ℕ → Given
given_at front = given_behind (ids_at (number_at front) (behind_numbers 1 front)) (behind_servers (number_at front) (behind_numbers 1 front))

-- What servers have in common. In front of it stand the version, the cluster's number and the server's id: bytes that differ in these alone
-- give the same.
abbrev pub given_of : List ℕ → Given
given_of bytes = given_at (behind_numbers 1 (behind_numbers 1 (behind_numbers 1 bytes)))
