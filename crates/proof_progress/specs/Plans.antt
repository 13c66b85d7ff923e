-- The events of a way on, computed from a world: starts, timeouts and votes; then a proposal, which the others are brought and told
-- (Raft paper, sections 5.2 and 5.3).
use Rattle.std.specs.Prelude.{ℕ, zero, suc, ◌+◌, ◌*◌, ◌-◌, ◌&&◌, ◌++◌, Bool, false, if◌then◌else◌, is_none, is_some, List, [], ◌∷◌, length, map, nat_eq, Option, None, Some}
use Rattle.std.specs.Option.{option_and_then}
use Rattle.std.specs.Ordering.{is_eq, nat_cmp}
use Rattle.proof_deeds.specs.raft_state.declared.ids.LogId.{LogId}
use Rattle.proof_deeds.specs.raft_state.declared.ids.Vote.{Vote}
use Rattle.proof_deeds.specs.raft_state.Order.{last_id_cmp, next, vote_cmp}
use Rattle.proof_deeds.specs.raft_progress_entry.declared.entry.Inflight.{Inflight}
use Rattle.proof_deeds.specs.raft_progress_entry.declared.entry.Inflight.TheVariants as inflight
use Rattle.proof_deeds.specs.raft_command.declared.replication.ReplicationSessionId.{ReplicationSessionId}
use Rattle.proof_deeds.specs.raft_command.declared.replication.RequestId.{RequestId}
use Rattle.proof_deeds.specs.raft_command.declared.replication.RequestId.TheVariants as request
use Rattle.proof_deeds.specs.raft_store.declared.entry.Entry.{Entry}
use Rattle.proof_deeds.specs.raft_store.declared.entry.Value.{Value}
use Rattle.proof_deeds.specs.raft_store.Types.{EngineView}
use Rattle.proof_deeds.specs.raft_schedule.declared.event.Event.{Event}
use Rattle.proof_deeds.specs.raft_schedule.declared.event.EventKind.TheVariants as kinds
use Rattle.proof_deeds.specs.raft_schedule.declared.event.Start.TheVariants.{Bare}
use Rattle.proof_deeds.specs.raft_calls.declared.message.Body.{Body}
use Rattle.proof_deeds.specs.raft_calls.declared.message.Body.TheVariants as body
use Rattle.proof_deeds.specs.raft_calls.declared.message.Message.{Message}
use Rattle.proof_deeds.specs.raft_calls.Deliveries.{same_session, session_of}
use Rattle.proof_deeds.specs.raft_calls.Feeds.{last_sent}
use Rattle.proof_deeds.specs.raft_calls.LeaderCalls.{inflight_to}
use Rattle.proof_deeds.specs.raft_node.declared.given.Given.{Given}
use Rattle.proof_deeds.specs.raft_node.Events.{happens}
use Rattle.proof_deeds.specs.raft_node.Net.{Net, NodeView, node_at}
use Rattle.proof_deeds.specs.raft_node.Runs.{whole_logs}
use Rattle.proof_deeds.specs.raft_node.Work.{weight}
use Rattle.proof_progress.specs.Continuations.{deliver, fail, goes_on, propose, timeout}
use Rattle.proof_progress.specs.Elections.{log_end}

-- Messages

-- the number of the first message that is so: they are counted from 1
abbrev pub first_from : ℕ → (Message → Bool) → List Message → Option ℕ
first_from k p [] = None
first_from k p (m ∷ bag) = if p m then Some k else first_from (k + 1) p bag

abbrev pub number_of : (Message → Bool) → List Message → Option ℕ
number_of p bag = first_from 1 p bag

-- a body asks for a vote, with the last id of the candidate's log
abbrev pub asks_vote : Vote ℕ → Option (LogId ℕ) → Body → Bool
asks_vote v x (body.VoteRequest r) = is_eq (vote_cmp nat_cmp r.vote v) && is_eq (last_id_cmp nat_cmp r.last_log_id x)
asks_vote v x _ = false

-- a request has this number
abbrev pub is_append : ℕ → RequestId → Bool
is_append number (request.AppendEntries k) = nat_eq k number
is_append number _ = false

abbrev pub is_install : ℕ → RequestId → Bool
is_install number (request.Snapshot k) = nat_eq k number
is_install number _ = false

-- a body carries what is in flight in a session: entries, or a snapshot
abbrev pub carries : ReplicationSessionId ℕ → Inflight ℕ → Body → Bool
carries s (inflight.Logs number range) (body.AppendRequest o prev es told) =
    (same_session o.session_id s && is_append number o.request_id) && (is_eq (last_id_cmp nat_cmp prev range.prev) && is_eq (last_id_cmp nat_cmp (last_sent prev es) range.last))
carries s (inflight.Snapshot number last) (body.SnapshotRequest o snapshot) = same_session o.session_id s && is_install number o.request_id
carries s _ _ = false

-- a body tells under a vote, without entries, what is committed
abbrev pub tells : Vote ℕ → Option (LogId ℕ) → Body → Bool
tells v x (body.AppendRequest o prev es told) = (is_eq (vote_cmp nat_cmp o.session_id.vote v) && is_none prev) && (nat_eq (length es) 0 && is_eq (last_id_cmp nat_cmp told x))
tells v x _ = false

-- a message from a node to another, with such a body
abbrev pub sends : ℕ → ℕ → (Body → Bool) → Message → Bool
sends n t p m = (nat_eq m.from n && nat_eq m.to t) && p m.body

-- The engine that a node runs
abbrev pub running : Net (List Entry) → ℕ → Option EngineView
running net n = option_and_then (λ (N : NodeView). N.engine) (node_at net.nodes n)

-- a node leads
abbrev pub is_leading : Net (List Entry) → ℕ → Bool
is_leading net n = is_some (option_and_then (λ (e : EngineView). e.machine.leader) (running net n))

-- the number of the request by which something is in flight from a leader to a node
abbrev pub request_to : Net (List Entry) → ℕ → ℕ → Option ℕ
request_to net n t =
    option_and_then (λ (e : EngineView). option_and_then (λ (s : ReplicationSessionId ℕ). number_of (sends n t (carries s (inflight_to t e))) net.records.bag) (session_of e)) (running net n)

-- the same event, so many times
abbrev pub times : ℕ → Event → List Event
times zero e = []
times (suc k) e = e ∷ times k e

-- a bare start, at the node's last moment: in a schedule a start has no moment of its own
abbrev pub start_bare : ℕ → Event
start_bare n = record { kind = kinds.Restart n Bare; at = None; stop = None }

-- nodes make bare starts
abbrev pub starts : List ℕ → List Event
starts ts = map start_bare ts

module _ (given : Given) (now : ℕ) where
  -- the world after an event
  abbrev pub world_then : Event → Net (List Entry) → Net (List Entry)
  world_then e net = (happens whole_logs weight given e net).1

  -- a request is delivered, and then the last message by then: the answer to it
  abbrev pub exchange : ℕ → Net (List Entry) → List Event
  exchange k net = deliver k now ∷ deliver (length (world_then (deliver k now) net).records.bag) now ∷ []

  -- voter after voter is asked for its vote, until the candidate leads
  abbrev pub collect : ℕ → Vote ℕ → Option (LogId ℕ) → List ℕ → Net (List Entry) → List Event
  collect n v x [] net = []
  collect n v x (t ∷ ts) net =
      if is_leading net n then []
      else elim (number_of (sends n t (asks_vote v x)) net.records.bag) [ None ↦ [] | Some k ↦ exchange k net ++ collect n v x ts (goes_on given (exchange k net) net) ]

  -- a candidate asks these voters
  abbrev pub votes_from : ℕ → List ℕ → Net (List Entry) → List Event
  votes_from n ts net = elim (running net n) [ None ↦ [] | Some e ↦ collect n e.machine.core.state.vote (log_end e) ts net ]

  -- a node's timeouts, until its term is one above this one
  abbrev pub timeouts : ℕ → ℕ → Net (List Entry) → List Event
  timeouts n top net = elim (running net n) [ None ↦ [] | Some e ↦ times (suc (top - e.machine.core.state.vote.leader_id.term)) (timeout n now) ]

  -- it stands for election so often, and then asks these voters
  abbrev pub elect : ℕ → ℕ → List ℕ → Net (List Entry) → List Event
  elect n top ts net = timeouts n top net ++ votes_from n ts (goes_on given (timeouts n top net) net)

  -- at most so many exchanges, until nothing is in flight from a leader to a node
  abbrev pub exchanges : ℕ → ℕ → ℕ → Net (List Entry) → List Event
  exchanges zero n t net = []
  exchanges (suc fuel) n t net = elim (request_to net n t) [ None ↦ [] | Some k ↦ exchange k net ++ exchanges fuel n t (goes_on given (exchange k net) net) ]

  -- the length of a running node's log
  abbrev pub len_of : Net (List Entry) → ℕ → ℕ
  len_of net n = elim (running net n) [ None ↦ 0 | Some e ↦ next (log_end e) ]

  -- what is in flight to a node fails, and then exchanges bring its log to match the leader's
  abbrev pub bring : ℕ → ℕ → Net (List Entry) → List Event
  bring n t net = fail n t now ∷ exchanges (2 * len_of net n) n t (world_then (fail n t now) net)

  -- one node after another
  abbrev pub bring_all : ℕ → List ℕ → Net (List Entry) → List Event
  bring_all n [] net = []
  bring_all n (t ∷ ts) net = bring n t net ++ bring_all n ts (goes_on given (bring n t net) net)

  -- nodes are told what is committed, under a vote
  abbrev pub tell_all : ℕ → Vote ℕ → Option (LogId ℕ) → List ℕ → Net (List Entry) → List Event
  tell_all n v x [] net = []
  tell_all n v x (t ∷ ts) net = elim (number_of (sends n t (tells v x)) net.records.bag) [ None ↦ [] | Some k ↦ deliver k now ∷ tell_all n v x ts (world_then (deliver k now) net) ]

  -- a leader tells nodes what it has committed
  abbrev pub tell : ℕ → List ℕ → Net (List Entry) → List Event
  tell n ts net = elim (running net n) [ None ↦ [] | Some e ↦ tell_all n e.machine.core.state.vote e.machine.core.state.committed ts net ]

  -- a leader proposes values, which other nodes are brought, and told as committed
  abbrev pub replicate : ℕ → List Value → List ℕ → Net (List Entry) → List Event
  replicate n values ts net =
      let brought = propose n values now ∷ bring_all n ts (world_then (propose n values now) net) in
      brought ++ tell n ts (goes_on given brought net)

  -- a node and others start; it is elected by some voters of them, above a term; it proposes values
  abbrev pub way_on : ℕ → ℕ → List ℕ → List ℕ → List Value → Net (List Entry) → List Event
  way_on n top voters others values net =
      let started = starts (n ∷ voters ++ others) in
      let elected = started ++ elect n top voters (goes_on given started net) in
      elected ++ replicate n values (voters ++ others) (goes_on given elected net)
