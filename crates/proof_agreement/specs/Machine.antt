-- The machine: what nodes may store, to whom they may give votes, and what leaders may decide. It has no queues, no
-- messages and no time, and whoever acts may stop after each event. (Raft paper, sections 4 to 7.)
--
-- A leader id is a number, and a later leader has a greater one: openraft's leader id (term, node id) counts as
-- term * 2^64 + node id, in the place of the paper's terms. An entry's index is its place in a log.
use Rattle.std.specs.Prelude.{ℕ, zero, suc, ◌+◌, ◌<◌, ◌≤◌, ◌≡◌, ◌≢◌, ◌⊎◌, Bool, true, false, cond, eqb, max, List, [], ◌∷◌, length}

-- a log entry: the leader id under which it was proposed, and what it carries (Raft paper, section 5.3; openraft:
-- Entry)
pub record Entry (A : Type 0) : Type 0 where
  pub leader : ℕ
  pub payload : A

-- A log: the entries at 0 up to `len`; what `at` gives from there on means nothing. It is the whole log: what a
-- snapshot covers, followed by the stored entries above it (Raft paper, section 7).
pub record Log (A : Type 0) : Type 0 where
  pub len : ℕ
  pub at : ℕ → Entry A

-- what a node has: its vote, a leader id, with openraft's mark that it is committed (a quorum gave it, so the leader is
-- established); its whole log; and how many of its entries it knows as committed (Raft paper, section 5.2 and figure 2)
pub record Node (A : Type 0) : Type 0 where
  pub vote : ℕ
  pub vote_committed : Bool
  pub log : Log A
  pub committed : ℕ

-- The history of a leader id, which no node stores: whether its leader was ever established, with how many entries
-- (`base`), all that it ever held, and how many of these it decided, found acknowledged by a quorum.
pub record Leader (A : Type 0) : Type 0 where
  pub established : Bool
  pub base : ℕ
  pub log : Log A
  pub decided : ℕ

-- a vote that was given: by whom, to whom, and the end of the giver's log, its last leader id and its length (Raft
-- paper, 5.2)
pub record Grant : Type 0 where
  pub node : ℕ
  pub leader : ℕ
  pub last : ℕ
  pub len : ℕ

-- an entry that some node applied to its state machine, with its index (Raft paper, section 5.3)
pub record Executed (A : Type 0) : Type 0 where
  pub index : ℕ
  pub entry : Entry A

-- All nodes and all leader ids; how many entries of leader d's log the node n ever acknowledged (`acknowledged n d`);
-- all votes that were given; all that was executed.
pub record World (A : Type 0) : Type 0 where
  pub node : ℕ → Node A
  pub leader : ℕ → Leader A
  pub acknowledged : ℕ → ℕ → ℕ
  pub grants : List Grant
  pub executed : List (Executed A)

-- What doesn't change in a run: which payloads are memberships, and the voter groups of one (a first group, so that
-- there is one, and the others); which node a leader id names; the payload of the first entry, with which every log
-- begins. If `groups_kept` holds, each membership keeps the first group of the first entry; else groups may change step
-- by step (Raft paper, section 6; openraft: joint memberships).
pub record Setup (A : Type 0) : Type 0 where
  pub is_membership : A → Bool
  pub first_group : A → List ℕ
  pub other_groups : A → List (List ℕ)
  pub groups_kept : Bool
  pub owner : ℕ → ℕ
  pub first_payload : A

-- the function with another value at one place
abbrev pub updated : {X : Type 0} → (ℕ → X) → ℕ → X → ℕ → X
updated f n x m = cond (eqb m n) x (f m)

-- a list includes an item
abbrev pub Includes : {X : Type 0} → List X → X → Type 0
Includes [] x = ⊥
Includes (y ∷ ys) x = (y ≡ x) ⊎ Includes ys x

-- how many members of a group q has, each place counted
abbrev pub count : (ℕ → Bool) → List ℕ → ℕ
count q [] = 0
count q (x ∷ xs) = cond (q x) (suc (count q xs)) (count q xs)

-- q has more than half of a group
abbrev pub IsMajority : (ℕ → Bool) → List ℕ → Type 0
IsMajority q g = length g < count q g + count q g

abbrev pub IsMajorityOfEach : (ℕ → Bool) → List (List ℕ) → Type 0
IsMajorityOfEach q [] = Unit {0}
IsMajorityOfEach q (g ∷ gs) = IsMajority q g × IsMajorityOfEach q gs

-- q is a quorum of the membership x: it has a majority of each voter group (openraft: joint quorum)
pub record IsQuorum {A : Type 0} (s : Setup A) (x : A) (q : ℕ → Bool) : Type 0 where
  pub first : IsMajority q (s.first_group x)
  pub rest : IsMajorityOfEach q (s.other_groups x)

-- g is one of the groups of x
abbrev pub IncludesGroup : {A : Type 0} → Setup A → A → List ℕ → Type 0
IncludesGroup s x g = (s.first_group x ≡ g) ⊎ Includes (s.other_groups x) g

-- two memberships have a voter group in common
pub record ShareGroup {A : Type 0} (s : Setup A) (x y : A) : Type 0 where
  pub group : List ℕ
  pub left : IncludesGroup s x group
  pub right : IncludesGroup s y group

-- the place of the last membership of the first m entries: the first entry counts as one (Raft paper, section 6: a
-- server uses the latest configuration in its log; openraft: effective membership)
abbrev pub last_membership : {A : Type 0} → Setup A → (ℕ → Entry A) → ℕ → ℕ
last_membership s f zero = 0
last_membership s f (suc i) = cond (s.is_membership (f i).payload) i (last_membership s f i)

-- the membership that is effective in the first m entries of a log
abbrev pub effective_membership : {A : Type 0} → Setup A → Log A → ℕ → A
effective_membership s X m = (X.at (last_membership s X.at m)).payload

-- two logs have the same first m entries
pub record Agree {A : Type 0} (m : ℕ) (X Y : Log A) : Type 0 where
  pub left : m ≤ X.len
  pub right : m ≤ Y.len
  pub same : (i : ℕ) → i < m → X.at i ≡ Y.at i

-- the leader id of a log's last entry
abbrev pub last_leader : {A : Type 0} → (ℕ → Entry A) → ℕ → ℕ
last_leader f zero = 0
last_leader f (suc n) = (f n).leader

-- the end of one log (last leader id a, length n) is at or below that of another: the other log is at least as up to
-- date (Raft paper, section 5.4.1)
abbrev pub AtOrBelow : ℕ → ℕ → ℕ → ℕ → Type 0
AtOrBelow a n b m = (a < b) ⊎ ((a ≡ b) × (n ≤ m))

-- all that leader d ever held
abbrev pub leader_log : {A : Type 0} → World A → ℕ → Log A
leader_log w d = (w.leader d).log

-- Leader d's entry at k is chosen: a quorum of the groups that were effective when d's log had some length past k
-- (`span`) acknowledged more than the first k entries of d (Raft paper, sections 5.3 and 5.4.2).
pub record Chosen {A : Type 0} (s : Setup A) (w : World A) (d k : ℕ) : Type 0 where
  pub span : ℕ
  pub past : k < span
  pub inside : span ≤ (leader_log w d).len
  pub by : ℕ → Bool
  pub quorum : IsQuorum s (effective_membership s (leader_log w d) span) by
  pub each : (n : ℕ) → by n ≡ true → k < w.acknowledged n d

-- What may happen next

pub data Event (A : Type 0) : Type 0 where
  -- n stores the vote d, not committed
  RaiseVote : (n d : ℕ) → Event A
  -- n gives its vote to the leader id that it stores
  GrantVote : (n : ℕ) → Event A
  -- n stores the committed vote of the leader d
  Follow : (n d : ℕ) → Event A
  -- the votes of q make d's node a leader
  Establish : (d : ℕ) (q : ℕ → Bool) → Event A
  -- leader d appends an entry of its own
  Propose : (d : ℕ) (payload : A) → Event A
  -- a follower truncates its log at i, where its leader's log differs
  Truncate : (n i : ℕ) → Event A
  -- a follower's log, a beginning of its leader's, grows to m entries
  Extend : (n m : ℕ) → Event A
  -- a follower truncates its log at j, before it installs a snapshot of what leader d decided, which differs at p; it
  -- may stop before the install
  Clear : (n j d p : ℕ) → Event A
  -- a follower installs a snapshot of the first k entries of leader d, which are decided
  Install : (n d k : ℕ) → Event A
  -- n acknowledges the first y entries of its leader's log
  Acknowledge : (n y : ℕ) → Event A
  -- leader d finds its first c entries acknowledged by q
  Decide : (d c : ℕ) (q : ℕ → Bool) → Event A
  -- n learns that its first c entries are committed, from what leader d decided
  LearnCommitted : (n d c : ℕ) → Event A
  -- n knows only c entries as committed, after a restart
  ForgetCommitted : (n c : ℕ) → Event A
  -- n applies its entry at i
  Execute : (n i : ℕ) → Event A
  -- the first entry is appended to n's empty log
  Begin : (n : ℕ) → Event A

-- What each may happen under

abbrev pub log_of : {A : Type 0} → World A → ℕ → Log A
log_of w n = (w.node n).log

abbrev pub vote_of : {A : Type 0} → World A → ℕ → ℕ
vote_of w n = (w.node n).vote

-- n is led: its vote is the committed vote of a leader that isn't n
pub record IsLed {A : Type 0} (s : Setup A) (w : World A) (n : ℕ) : Type 0 where
  pub vote_committed : (w.node n).vote_committed ≡ true
  pub other : n ≢ s.owner (vote_of w n)

-- n hears of an established leader of no lower id (Raft paper, section 5.2)
pub record MayFollow {A : Type 0} (s : Setup A) (w : World A) (n d : ℕ) : Type 0 where
  pub established : (w.leader d).established ≡ true
  pub from : vote_of w n ≤ d
  pub other : n ≢ s.owner d

-- A candidate whose log isn't empty, and which still stores the vote that it asked for, has a grant from each node of a
-- quorum of its effective groups, for logs that ended at or below its own (Raft paper, sections 5.2 and 5.4.1).
pub record MayEstablish {A : Type 0} (s : Setup A) (w : World A) (d : ℕ) (q : ℕ → Bool) : Type 0 where
  pub positive : 0 < d
  pub vote : vote_of w (s.owner d) ≡ d
  pub not_committed : (w.node (s.owner d)).vote_committed ≡ false
  pub some : 0 < (log_of w (s.owner d)).len
  pub quorum : IsQuorum s (effective_membership s (log_of w (s.owner d)) (log_of w (s.owner d)).len) q
  pub each : (n : ℕ) → q n ≡ true → (g : Grant) × Includes w.grants g × (g.node ≡ n) × (g.leader ≡ d) × AtOrBelow g.last g.len (last_leader (log_of w (s.owner d)).at (log_of w (s.owner d)).len) (log_of w (s.owner d)).len

-- When groups change, d may propose the membership x: the last one is among what d itself has decided, and so is an
-- entry of its own, since a leader decides no less; and a voter group is shared (Raft paper, section 6).
pub record MayChangeGroups {A : Type 0} (s : Setup A) (w : World A) (d : ℕ) (x : A) : Type 0 where
  pub last : last_membership s (leader_log w d).at (leader_log w d).len < (w.leader d).decided
  pub share : ShareGroup s (effective_membership s (leader_log w d) (leader_log w d).len) x

-- A leader appends (Raft paper, section 5.3). A membership waits until the one before it is committed, and keeps the
-- groups, or shares one.
pub record MayPropose {A : Type 0} (s : Setup A) (w : World A) (d : ℕ) (x : A) : Type 0 where
  pub vote : vote_of w (s.owner d) ≡ d
  pub vote_committed : (w.node (s.owner d)).vote_committed ≡ true
  pub same : s.is_membership x ≡ true → s.groups_kept ≡ true → s.first_group x ≡ s.first_group s.first_payload
  pub settled : s.is_membership x ≡ true → s.groups_kept ≡ true → last_membership s (leader_log w d).at (leader_log w d).len < (w.node (s.owner d)).committed
  pub change : s.is_membership x ≡ true → s.groups_kept ≡ false → MayChangeGroups s w d x

-- a follower's entry above what is committed differs from its leader's (Raft paper, section 5.3)
pub record MayTruncate {A : Type 0} (s : Setup A) (w : World A) (n i : ℕ) : Type 0 where
  pub led : IsLed s w n
  pub past : (w.node n).committed ≤ i
  pub in_own : i < (log_of w n).len
  pub in_leader : i < (leader_log w (vote_of w n)).len
  pub apart : (log_of w n).at i ≢ (leader_log w (vote_of w n)).at i

-- a follower's log begins its leader's, and a longer part of that is appended (Raft paper, section 5.3)
pub record MayExtend {A : Type 0} (s : Setup A) (w : World A) (n m : ℕ) : Type 0 where
  pub led : IsLed s w n
  pub agree : Agree (log_of w n).len (log_of w n) (leader_log w (vote_of w n))
  pub longer : (log_of w n).len ≤ m
  pub in_leader : m ≤ (leader_log w (vote_of w n)).len

-- What some leader up to the vote decided contradicts the log at p. Entries above what is committed go, those below p
-- only when the groups are kept (Raft paper, section 7; openraft: the truncation before an install). That p is a place
-- of the log isn't needed: beyond its end there is nothing to lose.
pub record MayClear {A : Type 0} (s : Setup A) (w : World A) (n j d p : ℕ) : Type 0 where
  pub led : IsLed s w n
  pub past : (w.node n).committed ≤ j
  pub shorter : j ≤ (log_of w n).len
  pub low : d ≤ vote_of w n
  pub decided : p < (w.leader d).decided
  pub apart : (log_of w n).at p ≢ (leader_log w d).at p
  pub deep : (s.groups_kept ≡ true) ⊎ (p ≤ j)

-- what some leader up to the vote decided replaces a shorter log (Raft paper, section 7)
pub record MayInstall {A : Type 0} (s : Setup A) (w : World A) (n d k : ℕ) : Type 0 where
  pub led : IsLed s w n
  pub low : d ≤ vote_of w n
  pub decided : k ≤ (w.leader d).decided
  pub longer : (log_of w n).len < k

-- n's log and that of the leader whose vote it stores agree so far (Raft paper, section 5.3)
pub record MayAcknowledge {A : Type 0} (w : World A) (n y : ℕ) : Type 0 where
  pub vote_committed : (w.node n).vote_committed ≡ true
  pub agree : Agree y (log_of w n) (leader_log w (vote_of w n))

-- Leader d finds that a quorum acknowledged its first c entries, the last of them its own: a quorum of the groups that
-- were effective when its log had the length `span`, at least c (Raft paper, section 5.4.2).
pub record MayDecide {A : Type 0} (s : Setup A) (w : World A) (d c : ℕ) (q : ℕ → Bool) : Type 0 where
  pub established : (w.leader d).established ≡ true
  pub own : (w.leader d).base < c
  pub span : ℕ
  pub holds : c ≤ span
  pub in_log : span ≤ (leader_log w d).len
  pub quorum : IsQuorum s (effective_membership s (leader_log w d) span) q
  pub each : (n : ℕ) → q n ≡ true → c ≤ w.acknowledged n d

-- n's log agrees with what some leader up to the vote decided (Raft paper, section 5.3)
pub record MayLearnCommitted {A : Type 0} (w : World A) (n d c : ℕ) : Type 0 where
  pub low : d ≤ vote_of w n
  pub decided : c ≤ (w.leader d).decided
  pub agree : Agree c (log_of w n) (leader_log w d)

-- n stores nothing (openraft: initialize)
pub record MayBegin {A : Type 0} (w : World A) (n : ℕ) : Type 0 where
  pub none : (log_of w n).len ≡ 0
  pub not_committed : (w.node n).vote_committed ≡ false
  pub fresh : vote_of w n ≡ 0

-- the condition of each event
abbrev pub Allowed : {A : Type 0} → Setup A → World A → Event A → Type 0
Allowed s w (RaiseVote n d) = vote_of w n < d
Allowed s w (GrantVote n) = (w.node n).vote_committed ≡ false
Allowed s w (Follow n d) = MayFollow s w n d
Allowed s w (Establish d q) = MayEstablish s w d q
Allowed s w (Propose d payload) = MayPropose s w d payload
Allowed s w (Truncate n i) = MayTruncate s w n i
Allowed s w (Extend n m) = MayExtend s w n m
Allowed s w (Clear n j d p) = MayClear s w n j d p
Allowed s w (Install n d k) = MayInstall s w n d k
Allowed s w (Acknowledge n y) = MayAcknowledge w n y
Allowed s w (Decide d c q) = MayDecide s w d c q
Allowed s w (LearnCommitted n d c) = MayLearnCommitted w n d c
Allowed s w (ForgetCommitted n c) = c ≤ (w.node n).committed
Allowed s w (Execute n i) = i < (w.node n).committed
Allowed s w (Begin n) = MayBegin w n

abbrev pub set_node : {A : Type 0} → World A → ℕ → Node A → World A
set_node w n x = record w { node = updated w.node n x }

abbrev pub set_leader : {A : Type 0} → World A → ℕ → Leader A → World A
set_leader w d x = record w { leader = updated w.leader d x }

abbrev pub set_log : {A : Type 0} → World A → ℕ → Log A → World A
set_log w n x = set_node w n (record (w.node n) { log = x })

-- a log with one more entry
abbrev pub push : {A : Type 0} → Log A → Entry A → Log A
push X e = record { len = suc X.len; at = updated X.at X.len e }

abbrev pub acknowledge : (ℕ → ℕ → ℕ) → ℕ → ℕ → ℕ → ℕ → ℕ → ℕ
acknowledge f n d y = updated f n (updated (f n) d y)

-- what each event does
abbrev pub happens : {A : Type 0} → Setup A → World A → Event A → World A
happens s w (RaiseVote n d) = set_node w n (record (w.node n) { vote = d; vote_committed = false })
happens s w (GrantVote n) = record w { grants = record { node = n; leader = vote_of w n; last = last_leader (log_of w n).at (log_of w n).len; len = (log_of w n).len } ∷ w.grants }
happens s w (Follow n d) = set_node w n (record (w.node n) { vote = d; vote_committed = true })
happens s w (Establish d q) =
    record (set_leader (set_node w (s.owner d) (record (w.node (s.owner d)) { vote_committed = true }))
    d (record { established = true; base = (log_of w (s.owner d)).len; log = log_of w (s.owner d); decided = 0 })) { acknowledged = acknowledge w.acknowledged (s.owner d) d (log_of w (s.owner d)).len }
happens s w (Propose d payload) =
    record (set_leader (set_log w (s.owner d) (push (log_of w (s.owner d)) (record { leader = d; payload = payload })))
    d (record (w.leader d) { log = push (leader_log w d) (record { leader = d; payload = payload }) })) { acknowledged = acknowledge w.acknowledged (s.owner d) d (suc (log_of w (s.owner d)).len) }
happens s w (Truncate n i) = set_log w n (record (log_of w n) { len = i })
happens s w (Extend n m) = set_log w n (record (leader_log w (vote_of w n)) { len = m })
happens s w (Clear n j d p) = set_log w n (record (log_of w n) { len = j })
happens s w (Install n d k) = set_node w n (record (w.node n) { log = record (leader_log w d) { len = k }; committed = k })
happens s w (Acknowledge n y) = record w { acknowledged = acknowledge w.acknowledged n (vote_of w n) (max y (w.acknowledged n (vote_of w n))) }
happens s w (Decide d c q) = set_leader w d (record (w.leader d) { decided = max c (w.leader d).decided })
happens s w (LearnCommitted n d c) = set_node w n (record (w.node n) { committed = c })
happens s w (ForgetCommitted n c) = set_node w n (record (w.node n) { committed = c })
happens s w (Execute n i) = record w { executed = record { index = i; entry = (log_of w n).at i } ∷ w.executed }
happens s w (Begin n) = set_log w n (record (leader_log w 0) { len = 1 })

-- The start: every node is empty under the vote 0, and the first entry is the whole log of leader 0, so that `Begin`
-- needs no exception.
abbrev pub start : {A : Type 0} → Setup A → World A
start s =
    record {
      node = λ n. record { vote = 0; vote_committed = false; log = record { len = 0; at = λ i. record { leader = 0; payload = s.first_payload } }; committed = 0 };
      leader = λ d. record { established = eqb d 0; base = 0; log = record { len = cond (eqb d 0) 1 0; at = λ i. record { leader = 0; payload = s.first_payload } }; decided = 0 };
      acknowledged = λ n d. 0;
      grants = [];
      executed = [];
    }

-- a run is a list of events, from the start or any world
abbrev pub run : {A : Type 0} → Setup A → List (Event A) → World A → World A
run s [] w = w
run s (e ∷ es) w = run s es (happens s w e)

-- each event of a run is allowed in its turn
abbrev pub AllAllowed : {A : Type 0} → Setup A → List (Event A) → World A → Type 0
AllAllowed s [] w = Unit {0}
AllAllowed s (e ∷ es) w = Allowed s w e × AllAllowed s es (happens s w e)
