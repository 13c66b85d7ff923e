-- Histories of clients of servers: updates and queries of an object that the servers replicate. A query goes through the log: its
-- server proposes a marker, a value like any other, for one query or several, and asks its state machine once it has taken the
-- marker's entry. Or it is answered by the rule, without an entry (Raft paper, section 8).
use Rattle.std.specs.Prelude.{ℕ, ◌+◌, ◌≤◌, ◌≡◌, ◌⊎◌, Contains, IfSome, List, length, take}
use Rattle.std.specs.List.{AllByRecursion}
use Rattle.proof_deeds.specs.raft_state.Order.{next}
use Rattle.proof_deeds.specs.raft_store.declared.entry.Entry.{Entry}
use Rattle.proof_deeds.specs.raft_store.declared.entry.Value.{Value}
use Rattle.proof_deeds.specs.raft_calls.declared.lead.Answer.{Answer}
use Rattle.proof_deeds.specs.raft_node.declared.given.Given.{Given}
use Rattle.proof_clients.specs.Objects.{IsDistinct, IsOnce, Object, Operation, Query, Return, Update, state_after}
use Rattle.proof_servers.specs.Servers.{Action}
use Rattle.proof_answers.specs.Answers.{Executes, Fails, Proposed, Told}
use Rattle.proof_answers.specs.Reads.{IsRead}

module _ {S R : Type 0} (m : Object S R) (given : Given) (actions : List Action) where
  -- an update returned, by a flush, with the object's answer after all entries below its own
  pub record UpdateReturns (call : ℕ) (v : Value) (x : Entry) (r : Return R) : Type 0 where
    pub executes : Executes given actions call x r.events r.commands
    pub result : r.result ≡ (m.update (state_after m m.first (take x.log_id.index executes.taken)) v).1

  -- a query returned with its marker, which was proposed when the query had come: with what the object answers after it
  pub record MarkerReturns (call q : ℕ) (r : Return R) : Type 0 where
    pub proposal : ℕ
    pub later : call ≤ proposal
    pub value : Value
    pub marker : Entry
    pub proposed : Proposed given actions proposal value marker
    pub executes : Executes given actions proposal marker r.events r.commands
    pub taken : r.taken ≡ marker.log_id.index + 1
    pub result : r.result ≡ m.query (state_after m m.first (take (marker.log_id.index + 1) executes.taken)) q

  -- A query returned by the rule: its server asked its node when the query had come, and has heard from a quorum. Its state machine has
  -- taken, by that step or a later one, all up to the answer's log id, and told of it by then: with what the object answers after that.
  pub record RuleReturns (call q : ℕ) (r : Return R) : Type 0 where
    pub id : ℕ
    pub read : ℕ
    pub later : call ≤ read
    pub answer : Answer
    pub is : IsRead given actions id read r.events answer
    pub entries : List Entry
    pub flush : ℕ
    pub early : flush ≤ r.events
    pub told : Told given actions id flush r.commands entries
    pub since : read ≤ told.by
    pub reaches : next answer.log_id ≤ length entries
    pub taken : r.taken ≡ length entries
    pub result : r.result ≡ m.query (state_after m m.first entries) q

  abbrev pub QueryReturns : ℕ → ℕ → Return R → Type 0
  QueryReturns call q r = MarkerReturns call q r ⊎ RuleReturns call q r

  -- an operation's call is the number of the action that proposes its value, or before which the query came; its return, that
  -- of the flush, or of the action by which its server had all that the rule asks for
  pub record IsUpdate (o : Operation R) : Type 0 where
    pub value : Value
    pub entry : Entry
    pub ask : o.ask ≡ Update value entry
    pub proposed : Proposed given actions o.call value entry
    pub returned : IfSome o.returned (UpdateReturns o.call value entry)

  -- of a query that hasn't returned nothing is known
  pub record IsQuery (o : Operation R) : Type 0 where
    pub query : ℕ
    pub ask : o.ask ≡ Query query
    pub returned : IfSome o.returned (QueryReturns o.call query)

  -- updates and queries of clients, each once, among them all updates but those that failed
  pub record IsHistory (updates queries : List (Operation R)) : Type 0 where
    pub are_updates : AllByRecursion IsUpdate updates
    pub are_queries : AllByRecursion IsQuery queries
    pub once : IsOnce updates
    pub distinct : IsDistinct queries
    pub all : (call : ℕ) (v : Value) (x : Entry) → Proposed given actions call v x
        → ((o : Operation R) × Contains updates o × (o.call ≡ call) × (o.ask ≡ Update v x)) ⊎ Fails given actions x
