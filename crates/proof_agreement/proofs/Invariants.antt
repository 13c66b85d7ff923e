-- What holds of each world that the machine reaches. No quorum occurs in what is said of acknowledgements and votes, so
-- the rules that say who counts don't touch the proofs of the events; completeness is no invariant, but follows from
-- these in one world.
use Rattle.std.proofs.Common.{ℕ, suc, ◌<◌, ◌≤◌, ◌≡◌, ◌≢◌, ◌⊎◌, Bool, true, false, cond}
use Rattle.proof_agreement.specs.Machine.{Log, Node, Leader, World, Setup, Grant, Executed, Includes, Agree, AtOrBelow, IsQuorum, ShareGroup, Chosen, last_leader, last_membership, effective_membership, leader_log, vote_of}
use Rattle.proof_agreement.proofs.Memberships.{IsMembership}

module _ {A : Type 0} (w : World A) where
  -- the entry at i is its leader's, and stands there after what its leader had
  pub record FollowsAt (X : Log A) (i : ℕ) : Type 0 where
    pub established : (w.leader (X.at i).leader).established ≡ true
    pub base : (w.leader (X.at i).leader).base ≤ i
    pub agree : Agree (suc i) X (leader_log w (X.at i).leader)

  -- the base of d holds the first k + 1 entries of e
  pub record SafeAt (d e k : ℕ) : Type 0 where
    pub inside : k < (w.leader d).base
    pub agree : Agree (suc k) (leader_log w d) (leader_log w e)

  -- the later leader d contradicts the first k + 1 entries of e
  pub record Contradicts (d e k : ℕ) : Type 0 where
    pub above : e < d
    pub established : (w.leader d).established ≡ true
    pub place : ℕ
    pub low : place ≤ k
    pub in_old : place < (leader_log w e).len
    pub in_new : place < (leader_log w d).len
    pub apart : (leader_log w d).at place ≢ (leader_log w e).at place

  -- the first c entries of X are decided by a leader up to v
  pub record Covered (v : ℕ) (X : Log A) (c : ℕ) : Type 0 where
    pub leader : ℕ
    pub low : leader ≤ v
    pub within : c ≤ (w.leader leader).decided
    pub agree : Agree c X (leader_log w leader)

  -- an acknowledged entry is of an established leader, and no later than the vote
  pub record AcknowledgedAt (n d k : ℕ) : Type 0 where
    pub low : d ≤ vote_of w n
    pub established : (w.leader d).established ≡ true
    pub inside : k < (leader_log w d).len

  -- an executed entry is one that a leader decided
  pub record ExecutedAt (x : Executed A) : Type 0 where
    pub leader : ℕ
    pub within : x.index < (w.leader leader).decided
    pub inside : x.index < (leader_log w leader).len
    pub is : (leader_log w leader).at x.index ≡ x.entry

-- the stored vote is d's committed vote, or a later one
abbrev pub IsPast : {A : Type 0} → Node A → ℕ → Type 0
IsPast N d = (d < N.vote) ⊎ ((N.vote ≡ d) × (N.vote_committed ≡ true))

-- the leaders that can have changed a node's log are below it
abbrev pub limit_of : Bool → ℕ → ℕ
limit_of b v = cond b (suc v) v

abbrev pub limit : {A : Type 0} → Node A → ℕ
limit N = limit_of N.vote_committed N.vote

module _ {A : Type 0} (s : Setup A) (w : World A) where
  -- a leader has decided past k, and the groups are kept
  abbrev pub DecidedPast : ℕ → ℕ → Type 0
  DecidedPast d k = (s.groups_kept ≡ true) × (suc k < (w.leader d).decided)

  -- why a node may lack the entry k of e that it acknowledged
  pub record MayLack (v e k : ℕ) : Type 0 where
    pub leader : ℕ
    pub low : leader < v
    pub why : Contradicts w leader e k ⊎ DecidedPast leader k

  -- what d decided last
  pub record DecidedAt (d k : ℕ) (D : Leader A) : Type 0 where
    pub established : D.established ≡ true
    pub base : D.base ≤ k
    pub inside : k < D.log.len
    pub chosen : Chosen s w d k

  -- the votes that made d a leader
  pub record Elected (d : ℕ) (D : Leader A) : Type 0 where
    pub some : 0 < D.base
    pub by : ℕ → Bool
    pub quorum : IsQuorum s (effective_membership s D.log D.base) by
    pub each : (n : ℕ) → by n ≡ true → (g : Grant) × Includes w.grants g × (g.node ≡ n) × (g.leader ≡ d) × AtOrBelow g.last g.len (last_leader D.log.at D.base) D.base

  -- when d wrote the membership at m, an entry of its own at or above the last membership was acknowledged by a quorum
  -- of that one
  pub record MembershipMadeAt (d m : ℕ) (D : Leader A) : Type 0 where
    pub upto : ℕ
    pub base : D.base ≤ upto
    pub past : upto < m
    pub last : last_membership s D.log.at m ≤ upto
    pub by : ℕ → Bool
    pub quorum : IsQuorum s (effective_membership s D.log m) by
    pub each : (n : ℕ) → by n ≡ true → upto < w.acknowledged n d
    pub share : ShareGroup s (effective_membership s D.log m) (D.log.at m).payload

  -- what the leader that wrote the membership at m had to know of the one before
  pub record MembershipMade (d m : ℕ) (D : Leader A) : Type 0 where
    pub same : s.groups_kept ≡ true → s.first_group (D.log.at m).payload ≡ s.first_group s.first_payload
    pub change : s.groups_kept ≡ false → MembershipMadeAt d m D

  pub record NodeInvariant (n : ℕ) (N : Node A) : Type 0 where
    -- a committed vote is an established leader's: so there is a history that a follower's log can be compared with
    pub established : N.vote_committed ≡ true → (w.leader N.vote).established ≡ true
    -- a leader's log is its history: so what it decides and proposes can be said of the history alone
    pub own : N.vote_committed ≡ true → s.owner N.vote ≡ n → (N.log.len ≡ (leader_log w N.vote).len) × Agree N.log.len N.log (leader_log w N.vote)
    -- and it has acknowledged all of it: so its own place in a quorum needs no message
    pub acknowledges : N.vote_committed ≡ true → s.owner N.vote ≡ n → N.log.len ≤ w.acknowledged n N.vote
    -- each entry stands as in its leader's history: this is log matching
    pub follows : (i : ℕ) → i < N.log.len → FollowsAt w N.log i
    -- no entry is of a later leader than the vote: so a grant's end bounds what the voter held
    pub low : (i : ℕ) → i < N.log.len → (N.log.at i).leader ≤ N.vote
    -- what was acknowledged is still held, but for what a later leader, below the limit, contradicts: this carries
    -- acknowledgements through truncations
    pub kept : (e k : ℕ) → k < w.acknowledged n e → Agree (suc k) N.log (leader_log w e) ⊎ MayLack (limit N) e k
    -- what is known as committed was decided: so what is executed agrees
    pub cover : Covered w N.vote N.log N.committed

  pub record LeaderInvariant (d : ℕ) (D : Leader A) : Type 0 where
    -- only established leaders have a history: so an id in a log names one
    pub established : 0 < D.log.len → D.established ≡ true
    -- a history is no shorter than what its leader began with: so the base can be compared with other histories
    pub base : D.base ≤ D.log.len
    -- each entry stands as in its own leader's history: log matching, for leaders
    pub follows : (i : ℕ) → i < D.log.len → FollowsAt w D.log i
    -- no entry is of a later leader: so ids rise along logs
    pub low : (i : ℕ) → i < D.log.len → (D.log.at i).leader ≤ d
    -- past the base all is its own: so an own entry that is decided stands past all that lower leaders decided
    pub mine : (i : ℕ) → D.base ≤ i → i < D.log.len → (D.log.at i).leader ≡ d
    -- it was elected by a quorum whose logs ended at or below its base: this is where two quorums meet
    pub elected : D.established ≡ true → 0 < d → Elected d D
    -- what it decided last is chosen: so decisions are covered by completeness
    pub decided : (k : ℕ) → D.decided ≡ suc k → DecidedAt d k D
    -- each membership that it wrote came after an entry of its own was chosen by the one before, and shares a group
    -- with that: this is what bounds how far two logs' groups can be apart
    pub memberships : (m : ℕ) → 0 < m → D.base ≤ m → m < D.log.len → IsMembership s D.log.at m → MembershipMade d m D
    -- and the membership before was decided: so no truncation reaches it
    pub settled : (m : ℕ) → 0 < m → D.base ≤ m → m < D.log.len → IsMembership s D.log.at m → Covered w d D.log (suc (last_membership s D.log.at m))

  pub record GrantInvariant (g : Grant) : Type 0 where
    -- the voter's vote is at or past the one that it gave: so it acknowledges lower leaders no more
    pub low : g.leader ≤ vote_of w g.node
    -- what the voter had acknowledged is below the end that it told, or a leader in between contradicts it: so a
    -- candidate whose log ends no lower has it
    pub kept : (e k : ℕ) → e < g.leader → (w.leader e).base ≤ k → k < w.acknowledged g.node e → AtOrBelow e (suc k) g.last g.len ⊎ MayLack g.leader e k

  pub record Invariants : Type 0 where
    pub node : (n : ℕ) → NodeInvariant n (w.node n)
    pub leader : (d : ℕ) → LeaderInvariant d (w.leader d)
    pub acknowledged : (n d k : ℕ) → k < w.acknowledged n d → AcknowledgedAt w n d k
    pub grants : (g : Grant) → Includes w.grants g → GrantInvariant g
    -- logs are bounded: for the descending induction where groups are kept
    pub bound : (M : ℕ) × ((d : ℕ) → (leader_log w d).len ≤ M)
    pub executed : (x : Executed A) → Includes w.executed x → ExecutedAt w x
    -- all logs begin with one entry: so two histories have a membership in common
    pub first : 0 < (leader_log w 0).len
    pub first_is : (leader_log w 0).at 0 ≡ record { leader = 0; payload = s.first_payload }
    -- a leader's node has its vote, or a later one: so no leader id is established twice
    pub owned : (d : ℕ) → 0 < d → (w.leader d).established ≡ true → IsPast (w.node (s.owner d)) d
