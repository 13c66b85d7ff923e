-- The node to elect, by what the nodes have stored, whatever runs, leases or is on its way (Raft paper, section 5.4.1).
use Rattle.std.specs.Prelude.{ℕ, ◌<◌, ◌≡◌, ◌≢◌, ◌⊎◌, Bool, false, true, List, [], ◌∷◌, ◌++◌, None, map}
use Rattle.std.specs.List.{AllByRecursion, list_any}
use Rattle.std.specs.Ordering.{is_gt, is_lt, nat_cmp}
use Rattle.proof_deeds.specs.raft_state.declared.ids.LeaderId.{LeaderId}
use Rattle.proof_deeds.specs.raft_state.Log.{last}
use Rattle.proof_deeds.specs.raft_state.Members.{voter_ids}
use Rattle.proof_deeds.specs.raft_state.Order.{last_id_cmp, leader_id_cmp, next}
use Rattle.proof_deeds.specs.raft_state.Sorted.{IsSound, has_id}
use Rattle.proof_deeds.specs.raft_state.State.{is_leader}
use Rattle.proof_deeds.specs.raft_progress.Quorum.{is_quorum}
use Rattle.proof_deeds.specs.raft_command.declared.command.Command.TheVariants.{Replicate}
use Rattle.proof_deeds.specs.raft_command.declared.config.EngineConfig.{EngineConfig}
use Rattle.proof_deeds.specs.raft_proposer.Joint.{u64_max}
use Rattle.proof_deeds.specs.raft_store.declared.entry.Entry.{Entry}
use Rattle.proof_deeds.specs.raft_store.Entries.{entry_meaning}
use Rattle.proof_deeds.specs.raft_store.Restart.{started}
use Rattle.proof_deeds.specs.raft_store.Types.{EngineView, WorldCommand}
use Rattle.proof_deeds.specs.raft_schedule.declared.event.Event.{Event}
use Rattle.proof_deeds.specs.raft_node.declared.given.Given.{Given}
use Rattle.proof_deeds.specs.raft_node.Net.{Net, NodeView}
use Rattle.proof_deeds.specs.raft_node.Runs.{world_after}
use Rattle.proof_deeds.specs.raft_node.Starts.{engine_on}
use Rattle.proof_deeds.specs.raft_calls.Starts.{resumed}
use Rattle.proof_deeds.specs.raft_node.WellFormed.{IsWellFormed}
use Rattle.proof_progress.specs.Continuations.{At, Leads}
use Rattle.proof_progress.specs.Elections.{Apart, Listed, log_end, members}
use Rattle.proof_progress.specs.Groups.{HasVoters, LeavesVoters}

-- the engine of a node that starts on its store: if it leads by its stored vote, its log has a no-op entry of its own
abbrev pub engine_at_start : EngineConfig ℕ → Bool → NodeView → EngineView
engine_at_start settings saved N = (resumed (engine_on settings saved N)).1

-- it leads by its stored vote: one of its own, which was committed
abbrev pub leads_by_store : Bool → NodeView → Bool
leads_by_store saved N = is_leader nat_cmp (started nat_cmp entry_meaning saved N.store) N.id

-- its stored vote isn't later than that of a leader id
abbrev pub VotesUpTo : LeaderId ℕ → NodeView → Type 0
VotesUpTo d N = is_gt (leader_id_cmp nat_cmp N.store.vote.leader_id d) ≡ false

module _ (given : Given) (saved : Bool) (net : Net (List Entry)) where
  -- a voter of the candidate's effective membership, whose log the candidate's isn't behind: as both start
  pub record MayFollow (candidate : EngineView) (t : ℕ) : Type 0 where
    pub voter : Listed (voter_ids nat_cmp (members candidate)) t
    pub node : NodeView
    pub at : At net.nodes t node
    pub ahead : is_lt (last_id_cmp nat_cmp (log_end candidate) (log_end (engine_at_start given.settings saved node))) ≡ false

  -- a voter of its own effective membership, and other voters behind it, with it a quorum of each group
  pub record IsChoice (n : ℕ) : Type 0 where
    pub node : NodeView
    pub at : At net.nodes n node
    pub voter : Listed (voter_ids nat_cmp (members (engine_at_start given.settings saved node))) n
    pub voters : List ℕ
    pub apart : Apart n voters
    pub follow : AllByRecursion (MayFollow (engine_at_start given.settings saved node)) voters
    pub quorum : is_quorum nat_cmp (members (engine_at_start given.settings saved node)).groups (n ∷ voters) ≡ true

  -- if it leads by its stored vote, none of these voters has stored a later one
  abbrev pub IsUndisputed : {n : ℕ} → IsChoice n → Type 0
  IsUndisputed c = (leads_by_store saved c.node ≡ false) ⊎ AllByRecursion (λ t. (N : NodeView) → At net.nodes t N → VotesUpTo c.node.store.vote.leader_id N) c.voters

-- a request to a node is among some commands
abbrev pub IsRequestTo : ℕ → WorldCommand → Type 0
IsRequestTo h (Replicate target f) = target ≡ h
IsRequestTo h _ = ⊥

abbrev pub AsksFirst : ℕ → List WorldCommand → Type 0
AsksFirst h [] = ⊥
AsksFirst h (c ∷ cs) = IsRequestTo h c ⊎ AsksFirst h cs

-- A choice that leads by its stored vote may hear that it was deposed: one of its voters has stored a later vote, and is sent a
-- request as the leader starts. There is an index for its next no-op entry.
pub record MayHear (given : Given) (saved : Bool) (net : Net (List Entry)) (n : ℕ) (c : IsChoice given saved net n) : Type 0 where
  pub from : ℕ
  pub one : Listed c.voters from
  pub node : NodeView
  pub at : At net.nodes from node
  pub later : is_gt (leader_id_cmp nat_cmp node.store.vote.leader_id c.node.store.vote.leader_id) ≡ true
  pub asked : AsksFirst from (engine_at_start given.settings saved c.node).machine.core.output.items
  pub room : next (log_end (engine_at_start given.settings saved c.node)) < u64_max

-- there is a term after a node's stored one, and an index after its log for a no-op entry
pub record HasRoom (saved : Bool) (N : NodeView) : Type 0 where
  pub term : N.store.vote.leader_id.term < u64_max
  pub index : next (last (started nat_cmp entry_meaning saved N.store).ids) < u64_max

-- after more events a node leads, under a leader id that isn't below any vote that a quorum of these groups had stored before
pub record IsElected (given : Given) (past : List Event) (groups : List (List ℕ)) (n : ℕ) : Type 0 where
  pub events : List Event
  pub leader_id : LeaderId ℕ
  pub leads : Leads given (past ++ events) leader_id n
  pub by : List ℕ
  pub quorum : is_quorum nat_cmp groups by ≡ true
  pub latest : AllByRecursion (λ t. (N : NodeView) → At (world_after given past).nodes t N → VotesUpTo leader_id N) by

-- from every reached world, whatever its votes, leases, messages and stopped nodes, the choice is elected: nodes restart, and
-- then there are timeouts and deliveries of requests for votes and of their replies
abbrev pub WorldsElect : Type 0
WorldsElect =
    (given : Given) → IsWellFormed given → (past : List Event) (saved : Bool) (n : ℕ) (c : IsChoice given saved (world_after given past) n)
    → IsUndisputed given saved (world_after given past) c ⊎ MayHear given saved (world_after given past) n c → AllByRecursion (HasRoom saved) (world_after given past).nodes → IsElected given past (members (engine_at_start given.settings saved c.node)).groups n

-- When there is a choice

-- the id is in some group
abbrev pub is_among : List (List ℕ) → ℕ → Bool
is_among groups t = list_any (λ group. has_id nat_cmp group t) groups

-- a node that has a log starts with these voter groups in its effective membership
abbrev pub StartsWithGroups : Given → Bool → List (List ℕ) → NodeView → Type 0
StartsWithGroups given saved groups N = (log_end (engine_at_start given.settings saved N) ≡ None) ⊎ HasVoters groups (members (engine_at_start given.settings saved N))

-- a voter of these groups has a log
pub record SomeLog (given : Given) (saved : Bool) (groups : List (List ℕ)) (net : Net (List Entry)) : Type 0 where
  pub voter : ℕ
  pub among : is_among groups voter ≡ true
  pub node : NodeView
  pub at : At net.nodes voter node
  pub some : log_end (engine_at_start given.settings saved node) ≢ None

-- where all nodes that have a log have the same voter groups, of each of which a majority are nodes, and a voter has a log,
-- there is a choice: a voter with the greatest last id
abbrev pub ChoicesExist : Type 0
ChoicesExist =
    (given : Given) (saved : Bool) (groups : List (List ℕ)) (net : Net (List Entry)) → AllByRecursion (StartsWithGroups given saved groups) net.nodes
    → is_quorum nat_cmp groups (map (λ N. N.id) net.nodes) ≡ true → SomeLog given saved groups net → (n : ℕ) × IsChoice given saved net n

-- in each reached world in which no event proposed other voter groups, if a majority of each group are nodes, and a voter has a
-- log, there is a choice
abbrev pub WorldsChoose : Type 0
WorldsChoose =
    (given : Given) → IsWellFormed given → IsSound nat_cmp given.membership.groups given.membership.nodes → (past : List Event) → AllByRecursion (λ (e : Event). LeavesVoters e.kind) past → (saved : Bool)
    → is_quorum nat_cmp given.membership.groups (map (λ N. N.id) (world_after given past).nodes) ≡ true → SomeLog given saved given.membership.groups (world_after given past)
    → (n : ℕ) × IsChoice given saved (world_after given past) n

-- a node that leads by its stored vote sends a request, as it starts, to each of its voters that has stored a later vote, and has
-- an index for another no-op entry
pub record HearsOf (given : Given) (saved : Bool) (N : NodeView) (t : ℕ) : Type 0 where
  pub asked : AsksFirst t (engine_at_start given.settings saved N).machine.core.output.items
  pub room : next (log_end (engine_at_start given.settings saved N)) < u64_max

abbrev pub DeposedHear : Given → Bool → Net (List Entry) → Type 0
DeposedHear given saved net =
    (n t : ℕ) (N T : NodeView) → At net.nodes n N → At net.nodes t T → Listed (voter_ids nat_cmp (members (engine_at_start given.settings saved N))) t → leads_by_store saved N ≡ true
    → is_gt (leader_id_cmp nat_cmp T.store.vote.leader_id N.store.vote.leader_id) ≡ true → HearsOf given saved N t

-- so a node is elected from each such world, if whoever was deposed hears of it, and there is room
abbrev pub KeptWorldsLead : Type 0
KeptWorldsLead =
    (given : Given) → IsWellFormed given → IsSound nat_cmp given.membership.groups given.membership.nodes → (past : List Event) → AllByRecursion (λ (e : Event). LeavesVoters e.kind) past → (saved : Bool)
    → is_quorum nat_cmp given.membership.groups (map (λ N. N.id) (world_after given past).nodes) ≡ true → SomeLog given saved given.membership.groups (world_after given past)
    → DeposedHear given saved (world_after given past) → AllByRecursion (HasRoom saved) (world_after given past).nodes
    → (n : ℕ) × (groups : List (List ℕ)) × IsElected given past groups n
