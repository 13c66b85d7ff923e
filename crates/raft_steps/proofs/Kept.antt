-- The steps keep the log's order, the watermarks and the accepted record.
use Rattle.std.specs.Prelude.{◌≡◌, ℕ, ◌+◌, ◌-◌, ◌<◌, ◌^◌, ◌==◌, nat_lt, Bool, true, false, List, [], ◌∷◌, Option, None, Some, IfSome, refl, length, map, fold, drop, if◌then◌else◌}
use Rattle.std.specs.List.{AllByRecursion}
use Rattle.std.proofs.Common.{arith, suc}
use Rattle.std.specs.declared.cmp.Ordering.TheVariants.{Less, Equal, Greater}
use Rattle.std.specs.Ordering.{is_lt, is_le}
use Rattle.std.specs.Cmp.{IsTotalOrder}
use Rattle.raft_state.specs.declared.config.RaftEntry
use Rattle.raft_state.specs.State.{append_membership, extend, commits, settle}
use Rattle.raft_state.specs.Policy.{should_snapshot}
use Rattle.raft_state.specs.Consecutive.{follows_on}
use Rattle.raft_steps.specs.ServerStateHandler.{update_role}
use Rattle.raft_steps.specs.Commit.{commit_by}
use Rattle.raft_steps.specs.SnapshotHandler.{snapshot_where_due, trigger_snapshot}
use Rattle.raft_steps.specs.FollowingHandler.{do_append_entries, with_entries, memberships_in}
use Rattle.raft_proposer.specs.Leader.{numbered}
use Rattle.raft_steps.specs.VoteHandler.{rejects_vote}
use Rattle.raft_state.specs.Invariants.{IsUnder, IsBelowEnd, StateFits, IsSoundState}
use Rattle.std.specs.Ordering.{nat_cmp, ordering_then}
use Rattle.std.proofs.lemmas.Bool.Decides.{nat_tests}
use Rattle.raft_state.proofs.Orders.{both_and, nat_lt_of, le_refl, le_of_not_lt, leader_total, vote_total, vote_le_leader}
use Rattle.raft_state.proofs.StateLaws.{raised, grown}
use Rattle.std.specs.declared.cmp.Ordering.{Ordering}
use Rattle.raft_state.specs.declared.ids.LogId.{LogId}
use Rattle.raft_state.specs.declared.ids.LeaderId.{LeaderId}
use Rattle.raft_state.specs.declared.ids.Vote.{Vote}
use Rattle.raft_state.specs.declared.membership.StoredMembership.{StoredMembership}
use Rattle.raft_state.specs.declared.state.RaftState.{RaftState}
use Rattle.raft_state.specs.Order.{last_id_cmp, leader_id_cmp, next}
use Rattle.raft_state.specs.Log.{last}
use Rattle.raft_command.specs.declared.config.EngineConfig.{EngineConfig}
use Rattle.raft_command.specs.declared.command.Command.{Command}
use Rattle.raft_command.specs.Queue.{Queue, queued}
use Rattle.raft_command.specs.Push.{committed_upto}
use Rattle.raft_steps.specs.Parts.{Core, under}
use Rattle.raft_proposer.specs.Joint.{JointLeader}

-- what holds of each branch
pub either_option : {A X : Type 0} (P : X → Type 0) (o : Option A) (x : X) (f : A → X) → P x → ((a : A) → P (f a)) → P (elim o [ None ↦ x | Some a ↦ f a ])
either_option P None x f p q = p
either_option P (Some a) x f p q = q a

pub either : {X : Type 0} (P : X → Type 0) (b : Bool) (x y : X) → P x → P y → P (if b then x else y)
either P true x y p q = p
either P false x y p q = q

-- an entry takes the id that it is given, and keeps its membership
abbrev pub TakesIds : {NID N E : Type 0} → RaftEntry.Ghosts E NID N → Type 0
TakesIds entry = (e : _) (id : _) → (entry.id_of (entry.with_id e id) ≡ id) × (entry.membership_of (entry.with_id e id) ≡ entry.membership_of e)

module _ {NID N : Type 0} (cmp : NID → NID → Ordering) (total : IsTotalOrder cmp) (same : (a b : NID) → cmp a b ≡ Equal → a ≡ b) where
  -- memberships that take effect change nothing of it
  pub joined_sound : (ms : List (StoredMembership NID N)) (s : RaftState NID N) → IsSoundState cmp s → IsSoundState cmp (fold append_membership s ms)
  joined_sound [] s h = h
  joined_sound (m ∷ ms) s h = joined_sound ms (append_membership s m) h

  -- a vote that isn't below the node's own
  pub vote_sound : (v : Vote NID) (s : RaftState NID N) → rejects_vote cmp s v ≡ false → IsSoundState cmp s
      → StateFits cmp v.leader_id s.ids s.purged s.purge_to s.snap.last_log_id s.committed s.accepted_by
  vote_sound v s r h = raised cmp total same _ _ _ _ _ _ _ h v.leader_id (vote_le_leader cmp s.vote v (le_of_not_lt (vote_total cmp total) v s.vote r))

module _ {C NID N E D R S : Type 0} (cmp : NID → NID → Ordering) (total : IsTotalOrder cmp) (same : (a b : NID) → cmp a b ≡ Equal → a ≡ b) (config : EngineConfig NID) where
  -- what holds of a core's state
  abbrev pub IsSoundCore : Core C NID N E D R S → Type 0
  IsSoundCore c = IsSoundState cmp c.state

  pub role_kept : (c : Core C NID N E D R S) → IsSoundCore c → IsSoundCore (update_role cmp config c)
  unfolding update_role
  role_kept c h = h

  -- a commit changes the committed id, the committed membership, whether a snapshot is being built, and the queue
  pub commit_by_case : (P : Core C NID N E D R S → Type 0) (first : List (Command C NID N E D R S)) (x : LogId NID) (c : Core C NID N E D R S) → (commits cmp c.state (Some x) ≡ false → P c)
      → (commits cmp c.state (Some x) ≡ true → (cm : StoredMembership NID N) (building : Bool) (q : Queue (Command C NID N E D R S))
      → P (record { state = record c.state { committed = Some x; cm = cm; building = building }; output = q }))
      → P (commit_by cmp config first (Some x) c)
  unfolding commit_by snapshot_where_due trigger_snapshot
  commit_by_case P first x c p after = go (commits cmp c.state (Some x)) refl where
    go : (b : Bool) → commits cmp c.state (Some x) ≡ b
        → P (if b then snapshot_where_due config (record { state = (if b then record (settle cmp c.state (Some x)) { committed = Some x } else c.state); output = committed_upto (queued c.output first) c.state.committed x }) else c)
    go false e = p e
    go true e = by (is_le (last_id_cmp cmp c.state.em.log_id (Some x))) where
      by : (joined : Bool) → P (snapshot_where_due config (record { state = record (if joined then record c.state { cm = c.state.em } else c.state) { committed = Some x }; output = committed_upto (queued c.output first) c.state.committed x }))
      by true =
          either P (should_snapshot config.snapshot_policy (record c.state { cm = c.state.em; committed = Some x })) _ _
          (either P c.state.building _ _ (after e _ _ _) (after e _ _ _)) (after e _ _ _)
      by false =
          either P (should_snapshot config.snapshot_policy (record c.state { committed = Some x })) _ _
          (either P c.state.building _ _ (after e _ _ _) (after e _ _ _)) (after e _ _ _)

module _ {NID N E : Type 0} (cmp : NID → NID → Ordering) (total : IsTotalOrder cmp) (same : (a b : NID) → cmp a b ≡ Equal → a ≡ b) (entry : RaftEntry.Ghosts E NID N) where
  pub entries_sound : (es : List E) (s : RaftState NID N) → follows_on cmp (last s.ids) (map entry.id_of es) ≡ true
      → AllByRecursion (IsUnder cmp s.vote.leader_id) (map entry.id_of es) → AllByRecursion IsBelowEnd (map entry.id_of es)
      → IsSoundState cmp s → IsSoundState cmp (with_entries entry s es)
  entries_sound es s follow under end h =
      joined_sound cmp total same (drop (length (memberships_in entry es) - 2) (memberships_in entry es)) (extend s (map entry.id_of es))
      (grown cmp total same _ _ _ _ _ _ _ h (map entry.id_of es) follow under end)

module _ {NID N E : Type 0} (cmp : NID → NID → Ordering) (total : IsTotalOrder cmp) (entry : RaftEntry.Ghosts E NID N) (named : TakesIds entry) where
  -- an id behind another, under a leader that isn't below
  next_lt : (leader : LeaderId NID) (prev : Option (LogId NID)) (n : ℕ) → next prev ≡ n → IfSome prev (IsUnder cmp leader) → is_lt (last_id_cmp cmp prev (Some (record { leader_id = leader; index = n }))) ≡ true
  next_lt leader None n e u = refl
  next_lt leader (Some p) n e u = then_lt (leader_id_cmp cmp p.leader_id leader) p.index n e u where
    then_lt : (r : Ordering) (i n : ℕ) → i + 1 ≡ n → is_le r ≡ true → is_lt (ordering_then r (nat_cmp i n)) ≡ true
    then_lt Less i n e u = refl
    then_lt Equal i n e u = let t : nat_lt i n ≡ true = nat_lt_of i n (omega (arith, e)) in rw t refl
    then_lt Greater i n e u = cc

  -- the ids that a leader assigns follow on, are its own, and are below the end
  pub numbered_follow : (leader : LeaderId NID) (prev : Option (LogId NID)) (n : ℕ) (es : List E) → next prev ≡ n → IfSome prev (IsUnder cmp leader) → follows_on cmp prev (map entry.id_of (numbered entry leader n es)) ≡ true
  numbered_follow leader prev n [] e u = refl
  numbered_follow leader prev n (x ∷ es) e u =
      let id : LogId NID = record { leader_id = leader; index = n } in
      let rest : follows_on cmp (Some id) (map entry.id_of (numbered entry leader (n + 1) es)) ≡ true =
      numbered_follow leader (Some id) (n + 1) es refl (le_refl (leader_total cmp total) leader) in
      let i : (n == next prev) ≡ true = same_number n (next prev) e in
      rw ((named x id).0) (both_and _ _ (both_and _ _ i (next_lt leader prev n e u)) rest) where
        same_number : (a b : ℕ) → b ≡ a → (a == b) ≡ true
        same_number a b e = grind (arith, nat_tests)

  pub numbered_under : (leader bound : LeaderId NID) (n : ℕ) (es : List E) → is_le (leader_id_cmp cmp leader bound) ≡ true → AllByRecursion (IsUnder cmp bound) (map entry.id_of (numbered entry leader n es))
  numbered_under leader bound n [] u = tt
  numbered_under leader bound n (x ∷ es) u = (rw ((named x (record { leader_id = leader; index = n })).0) u, numbered_under leader bound (n + 1) es u)

  pub numbered_below : (leader : LeaderId NID) (n : ℕ) (es : List E) → n + length es < 2 ^ 64 → AllByRecursion IsBelowEnd (map entry.id_of (numbered entry leader n es))
  numbered_below leader n [] l = tt
  numbered_below leader n (x ∷ es) l =
      (rw ((named x (record { leader_id = leader; index = n })).0) (below_one n (length es) l), numbered_below leader (n + 1) es (below_more n (length es) l)) where
        below_one : (n k : ℕ) → n + suc k < 2 ^ 64 → n + 1 < 2 ^ 64
        below_one n k l = omega (arith, l)

        below_more : (n k : ℕ) → n + suc k < 2 ^ 64 → (n + 1) + k < 2 ^ 64
        below_more n k l = omega (arith, l)

module _ {C NID N E D R S : Type 0} (cmp : NID → NID → Ordering) (total : IsTotalOrder cmp) (same : (a b : NID) → cmp a b ≡ Equal → a ≡ b) (entry : RaftEntry.Ghosts E NID N) (config : EngineConfig NID) where
  pub do_append_kept : (es : List E) (c : Core C NID N E D R S) → follows_on cmp (last c.state.ids) (map entry.id_of es) ≡ true
      → AllByRecursion (IsUnder cmp c.state.vote.leader_id) (map entry.id_of es) → AllByRecursion IsBelowEnd (map entry.id_of es)
      → IsSoundState cmp c.state → IsSoundState cmp (do_append_entries cmp entry config es c).state
  unfolding do_append_entries update_role
  do_append_kept es c follow under end h =
      let t : IsSoundState cmp (with_entries entry c.state es) = entries_sound cmp total same entry es c.state follow under end h in
      either (λ (d : Core C NID N E D R S). IsSoundState cmp d.state) (length es == 0) _ _ h
      (either (λ (d : Core C NID N E D R S). IsSoundState cmp d.state) (length (memberships_in entry es) == 0) _ _ t t)

-- a leader's log may grow: its last id is the log's, its vote isn't above the state's but not below what is there, and
-- there is room
pub record MayGrow {C NID N E D R S : Type 0} (cmp : NID → NID → Ordering) (l : JointLeader C NID N E D R S) (s : RaftState NID N) (count : ℕ) : Type 0 where
  pub last_id : l.last_log_id ≡ last s.ids
  pub own : is_le (leader_id_cmp cmp l.vote.leader_id s.vote.leader_id) ≡ true
  pub under : IfSome (last s.ids) (IsUnder cmp l.vote.leader_id)
  pub room : next (last s.ids) + count < 2 ^ 64
