-- What holds of each run of allowed events.
use Rattle.std.specs.Prelude.{ℕ, suc, ◌<◌, ◌≤◌, ◌≡◌, ◌≢◌, Bool, true, false}
use Rattle.proof_agreement.specs.Machine.{Log, Executed, World, Setup, Includes, Agree, Chosen, last_membership, leader_log, log_of, vote_of}

-- a log of a node, or of a leader
abbrev pub some_log : {A : Type 0} → World A → Bool → ℕ → Log A
some_log w true n = log_of w n
some_log w false d = leader_log w d

-- Log Matching (Raft paper, section 5.3): two logs with the same leader id at an index are the same up to it
abbrev pub LogMatching : {A : Type 0} → World A → Type 0
LogMatching w =
    (a b : Bool) (n m i : ℕ) →
    i < (some_log w a n).len →
    i < (some_log w b m).len →
    ((some_log w a n).at i).leader ≡ ((some_log w b m).at i).leader →
    Agree (suc i) (some_log w a n) (some_log w b m)

-- Leader Completeness (Raft paper, section 5.4) for chosen entries: the entry of d's own that is chosen is in the log
-- with which each later leader e was established, whichever came first in time
abbrev pub LeaderCompleteness : {A : Type 0} → Setup A → World A → Type 0
LeaderCompleteness s w =
    (d e k : ℕ) →
    d < e →
    (w.leader e).established ≡ true →
    ((leader_log w d).at k).leader ≡ d →
    Chosen s w d k →
    (k < (w.leader e).base) × Agree (suc k) (leader_log w d) (leader_log w e)

-- Leader Completeness for decided entries
abbrev pub DecidedCompleteness : {A : Type 0} → World A → Type 0
DecidedCompleteness w =
    (d e : ℕ) → d < e → (w.leader e).established ≡ true → ((w.leader d).decided ≤ (w.leader e).base) × Agree (w.leader d).decided (leader_log w d) (leader_log w e)

-- what a leader decides is chosen by it
abbrev pub DecidedChosen : {A : Type 0} → Setup A → World A → Type 0
DecidedChosen s w = (d k : ℕ) → (w.leader d).decided ≡ suc k → Chosen s w d k

-- State Machine Safety (Raft paper, section 5): no two different entries are executed at one index
abbrev pub Agreed : {A : Type 0} → World A → Type 0
Agreed w = (x y : Executed _) → Includes w.executed x → Includes w.executed y → x.index ≡ y.index → x.entry ≡ y.entry

-- of what two nodes know as committed, one is the beginning of the other
abbrev pub CommittedBeginnings : {A : Type 0} → World A → Type 0
CommittedBeginnings w = (n m : ℕ) → (w.node n).committed ≤ (w.node m).committed → Agree (w.node n).committed (log_of w n) (log_of w m)

-- a leader has acknowledged all that its log holds
abbrev pub OwnAcknowledged : {A : Type 0} → Setup A → World A → Type 0
OwnAcknowledged s w = (n : ℕ) → (w.node n).vote_committed ≡ true → s.owner (vote_of w n) ≡ n → (log_of w n).len ≤ w.acknowledged n (vote_of w n)

-- A follower's log differs from its leader's only above the membership before its last one: so a truncation leaves that
-- one (openraft: a truncated effective membership falls back to the committed one).
abbrev pub MembershipKept : {A : Type 0} → Setup A → World A → Type 0
MembershipKept s w =
    (n i : ℕ) →
    (w.node n).vote_committed ≡ true →
    i < (log_of w n).len →
    i < (leader_log w (vote_of w n)).len →
    (log_of w n).at i ≢ (leader_log w (vote_of w n)).at i →
    last_membership s (log_of w n).at (last_membership s (log_of w n).at (log_of w n).len) < i
