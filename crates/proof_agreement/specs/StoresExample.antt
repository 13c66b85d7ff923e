-- Two runs over stores that may be done, so that the conditions can be met.
use Rattle.std.specs.Prelude.{ℕ, Bool, true, false, cond, eqb, List, [], ◌∷◌}
use Rattle.proof_agreement.specs.Machine.{Entry, Setup, Includes}
use Rattle.proof_agreement.specs.Example.{moving, only, both}
use Rattle.proof_agreement.specs.Stores.{Append, Session, empty}
use Rattle.proof_agreement.specs.Deeds.{Deed, AcceptAppend, AcceptSnapshot, AnswerVote, Apply, BuildSnapshot, BuildStreams, CommitByQuorum, EndStreams, FollowByAppend, FollowBySnapshot, FollowerAppend, Initialize, InstallSnapshot, LeaderAppend, LeaderCommit, Note, Purge, RecordEstablished, RequestVotes, Restart, SaveVote, SendAppend, SendSnapshot, TruncateForSnapshot, Win, AllMayDo, run_all}

abbrev pub entry : ℕ → ℕ → Entry ℕ
entry d x = record { leader = d; payload = x }

-- a heartbeat of leader d in a session for the membership at place m, which says c entries are committed
abbrev pub tells : ℕ → ℕ → ℕ → Append ℕ
tells d m c = record { session = record { leader = d; membership = m }; from = 0; previous = 0; entries = []; committed = c; committed_leader = d }

-- The first run replaces its only node, as the machine's run does: node 1 leads, adds a second group with node 2, then
-- leaves, deciding a last entry that it has no part in itself, and node 2 leads alone.
abbrev pub three : List (Entry ℕ)
three = entry 0 0 ∷ entry 1 7 ∷ entry 1 1 ∷ []

-- what node 1 sends
abbrev pub first_sent : Append ℕ
first_sent = record { session = record { leader = 1; membership = 2 }; from = 0; previous = 0; entries = three; committed = 2; committed_leader = 1 }

abbrev pub then_sent : Append ℕ
then_sent = record { session = record { leader = 1; membership = 3 }; from = 3; previous = 1; entries = entry 1 2 ∷ []; committed = 3; committed_leader = 1 }

abbrev pub moving_deeds : List (Deed ℕ)
moving_deeds = Initialize 1 ∷ SaveVote 1 1 ∷ RequestVotes 1 ∷ Win 1 (only 1) ∷ BuildStreams 1 ∷ RecordEstablished 1 ∷ LeaderAppend 1 7 ∷ CommitByQuorum 1 1 (only 1) ∷ LeaderCommit 1 (tells 1 0 2) 2 ∷ LeaderAppend 1 1 ∷ BuildStreams 1 ∷ SendAppend 1 0 3 ∷ FollowByAppend 2 first_sent ∷ FollowerAppend 2 first_sent 0 ∷ AcceptAppend 2 first_sent 2 1 ∷ CommitByQuorum 1 2 both ∷ LeaderCommit 1 (tells 1 2 3) 3 ∷ LeaderAppend 1 2 ∷ BuildStreams 1 ∷ SendAppend 1 3 1 ∷ FollowerAppend 2 then_sent 0 ∷ AcceptAppend 2 then_sent 3 1 ∷ CommitByQuorum 1 3 (only 2) ∷ EndStreams 1 ∷ SaveVote 2 2 ∷ Win 2 (only 2) ∷ BuildStreams 2 ∷ RecordEstablished 2 ∷ LeaderAppend 2 8 ∷ CommitByQuorum 2 4 (only 2) ∷ LeaderCommit 2 (tells 2 3 5) 5 ∷ Apply 2 4 ∷ []

-- The second run has three fixed nodes. Node 3 leads first and keeps two entries to itself. Node 1 leads next, commits
-- two with node 2, builds a snapshot and purges. Node 3 gets the snapshot, which contradicts its log: it truncates the
-- log, stops before the install, restarts, installs, and has its part in the next entry.
abbrev pub trio : Setup ℕ
trio =
    record {
      is_membership = λ x. false;
      first_group = λ x. 1 ∷ 2 ∷ 3 ∷ [];
      other_groups = λ x. [];
      groups_kept = true;
      owner = λ d. cond (eqb d 4) 1 d;
      first_payload = 0;
    }

abbrev pub pair : ℕ → ℕ → ℕ → Bool
pair a b n = cond (eqb n a) true (eqb n b)

abbrev pub of_four : Session
of_four = record { leader = 4; membership = 0 }

abbrev pub leaders_three : List (Entry ℕ)
leaders_three = entry 0 0 ∷ entry 4 7 ∷ entry 4 9 ∷ []

abbrev pub all_sent : Append ℕ
all_sent = record { session = of_four; from = 0; previous = 0; entries = leaders_three; committed = 0; committed_leader = 0 }

abbrev pub last_sent : Append ℕ
last_sent = record { session = of_four; from = 3; previous = 4; entries = entry 4 5 ∷ []; committed = 3; committed_leader = 4 }

abbrev pub snapshot_deeds : List (Deed ℕ)
snapshot_deeds = Initialize 1 ∷ Initialize 2 ∷ Initialize 3 ∷ SaveVote 3 3 ∷ RequestVotes 3 ∷ SaveVote 2 3 ∷ AnswerVote 2 0 1 ∷ Win 3 (pair 2 3) ∷ BuildStreams 3 ∷ RecordEstablished 3 ∷ LeaderAppend 3 8 ∷ LeaderAppend 3 8 ∷ SaveVote 1 4 ∷ RequestVotes 1 ∷ SaveVote 2 4 ∷ AnswerVote 2 0 1 ∷ Win 1 (pair 1 2) ∷ BuildStreams 1 ∷ RecordEstablished 1 ∷ LeaderAppend 1 7 ∷ LeaderAppend 1 9 ∷ SendAppend 1 0 3 ∷ FollowByAppend 2 all_sent ∷ FollowerAppend 2 all_sent 1 ∷ AcceptAppend 2 all_sent 2 4 ∷ CommitByQuorum 1 2 (pair 1 2) ∷ LeaderCommit 1 (tells 4 0 3) 3 ∷ Apply 1 2 ∷ Note 1 ∷ BuildSnapshot 1 ∷ Purge 1 2 ∷ SendSnapshot 1 ∷ FollowBySnapshot 3 of_four leaders_three ∷ TruncateForSnapshot 3 0 2 of_four leaders_three ∷ Restart 3 0 ∷ InstallSnapshot 3 2 of_four leaders_three ∷ AcceptSnapshot 3 of_four leaders_three ∷ Purge 3 3 ∷ LeaderAppend 1 5 ∷ SendAppend 1 3 1 ∷ FollowerAppend 3 last_sent 0 ∷ AcceptAppend 3 last_sent 3 4 ∷ CommitByQuorum 1 3 (pair 1 3) ∷ LeaderCommit 1 (tells 4 0 4) 4 ∷ Apply 1 3 ∷ []

abbrev pub GroupsMove : Type 0
GroupsMove = AllMayDo moving moving_deeds (empty moving) × Includes (run_all moving moving_deeds (empty moving)).executed (record { node = 2; index = 4; entry = entry 2 8 })

abbrev pub SnapshotInstalled : Type 0
SnapshotInstalled =
    AllMayDo trio snapshot_deeds (empty trio)
    × Includes (run_all trio snapshot_deeds (empty trio)).installed (record { node = 3; entries = leaders_three })
    × Includes (run_all trio snapshot_deeds (empty trio)).executed (record { node = 1; index = 3; entry = entry 4 5 })
