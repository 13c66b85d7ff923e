-- What is fed back to a node's engine after one of its commands.
use Rattle.std.specs.Prelude.{ℕ, Bool, true, false, ◌&&◌, List, Option, None, Some, if◌then◌else◌, length, slice_get, ◌-◌}
use Rattle.std.specs.Ordering.{is_eq, nat_cmp}
use Rattle.raft_state.specs.declared.ids.LogId.{LogId}
use Rattle.raft_state.specs.declared.ids.Vote.{Vote}
use Rattle.raft_state.specs.Order.{vote_cmp}
use Rattle.raft_progress.specs.Table.{is_in}
use Rattle.raft_command.specs.declared.command.Command.TheVariants.{SaveVote, AppendInputEntries}
use Rattle.raft_command.specs.declared.config.EngineConfig.{EngineConfig}
use Rattle.raft_command.specs.declared.message.VoteResponse.{VoteResponse}
use Rattle.raft_steps.specs.Refusals.{refusals_of_vote_resp, refusals_of_local_progress}
use Rattle.raft_steps.specs.Engine.{handle_vote_resp}
use Rattle.raft_steps.specs.Parts.{Led, leading, led_of, on_leader}
use Rattle.raft_steps.specs.ReplicationHandler.{update_local_progress}
use Rattle.raft_store.specs.declared.config.WorldConfig.{WorldConfig}
use Rattle.raft_store.specs.declared.entry.Entry.{Entry}
use Rattle.raft_store.specs.Entries.{entry_meaning}
use Rattle.raft_store.specs.Types.{WorldCommand, WorldMachine, WorldLeader, WorldCandidate, EngineView}
use Rattle.raft_calls.specs.declared.feed.Feed.{Feed}
use Rattle.raft_calls.specs.declared.feed.Feed.TheVariants.{Saved, Stored, Nothing}
use Rattle.std.specs.Option.{option_map, option_or}

abbrev pub WorldLed : Type 0
WorldLed = Led WorldConfig ℕ (Unit {0}) Entry ℕ ℕ (List Entry)

-- the last of some entries' ids, or else a previous id
abbrev pub last_sent : Option (LogId ℕ) → List Entry → Option (LogId ℕ)
last_sent prev es = option_or (option_map (λ e. e.log_id) (slice_get es (length es - 1))) prev

-- what a command feeds back: a saved vote; the vote and the last id of stored entries
abbrev pub feed_of : WorldCommand → Feed
feed_of (SaveVote v) = Saved v
feed_of (AppendInputEntries v es) = Stored v (last_sent None es)
feed_of _ = Nothing

-- an engine after a call: a refused one changes nothing
abbrev pub called : {E : Type 0} → Option E → EngineView → WorldMachine → EngineView
called None e m = record e { machine = m }
called (Some _) e m = e

-- a granted reply from the node itself
abbrev pub own_grant : Vote ℕ → VoteResponse ℕ
own_grant v = record { vote = v; vote_granted = true; last_log_id = None }

-- the candidate's vote is this one, and its voters have the node
abbrev pub asks_itself : Vote ℕ → WorldCandidate → EngineView → Bool
asks_itself v c e = is_eq (vote_cmp nat_cmp c.vote v) && is_in nat_cmp c.progress e.config.id

-- the node's own grant of its candidate's vote (Raft paper, section 5.2: a candidate votes for itself)
abbrev pub grant_own : ℕ → Vote ℕ → EngineView → EngineView
grant_own now v e =
    called (refusals_of_vote_resp nat_cmp e.config e.config.id (own_grant v) e.machine) e
    (handle_vote_resp nat_cmp entry_meaning e.config e.config.id (own_grant v) now e.machine)

-- a leader acknowledges its own log
abbrev pub hold_own : Option (LogId ℕ) → WorldLeader → EngineView → EngineView
hold_own x l e =
    let led = led_of l e.machine.core.state e.machine.core.output in
    called (refusals_of_local_progress nat_cmp e.config x led) e (leading e.machine (update_local_progress nat_cmp e.config x led))

-- the node leads by this vote
abbrev pub leads_by : Vote ℕ → EngineView → Bool
leads_by v e = elim e.machine.leader [ None ↦ false | Some l ↦ is_eq (vote_cmp nat_cmp l.vote v) ]

-- a leader after acknowledging its own log; a refused call changes nothing
abbrev pub own_log_acknowledged : EngineConfig ℕ → Option (LogId ℕ) → WorldLed → WorldLed
own_log_acknowledged config x l = elim (refusals_of_local_progress nat_cmp config x l) [ None ↦ update_local_progress nat_cmp config x l | Some _ ↦ l ]

-- the same for an engine, if it has a leader
abbrev pub held_where_led : Option (LogId ℕ) → EngineView → EngineView
held_where_led x e = record e { machine = on_leader (own_log_acknowledged e.config x) e.machine }

-- after a vote is saved, a candidate's own grant; after entries are stored under the leader's vote, their last id
abbrev pub fed : ℕ → Feed → EngineView → EngineView
fed now (Saved v) e = elim e.machine.candidate [ None ↦ e | Some c ↦ (if asks_itself v c e then grant_own now v e else e) ]
fed now (Stored v x) e = elim e.machine.leader [ None ↦ e | Some l ↦ (if is_eq (vote_cmp nat_cmp l.vote v) then hold_own x l e else e) ]
fed now Nothing e = e

-- what a command feeds back to the engine
abbrev pub feed : ℕ → WorldCommand → EngineView → EngineView
feed now c e = fed now (feed_of c) e
