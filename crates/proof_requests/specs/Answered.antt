-- When an answer to a request is true.
use Rattle.std.specs.Prelude.{ℕ, ◌≤◌, ◌≡◌, Contains, List, ◌++◌, Some, map}
use Rattle.raft_store.specs.declared.entry.Entry.{Entry}
use Rattle.raft_node.specs.declared.given.Given.{Given}
use Rattle.raft_answers.specs.declared.answer.Answer.{Answer}
use Rattle.raft_answers.specs.declared.answer.Answer.TheVariants.{Failed, NotLeader, Ok, Unknown}
use Rattle.raft_answers.specs.declared.answer.Reply.{Reply}
use Rattle.proof_servers.specs.Servers.{Action, after_actions, new_cluster}
use Rattle.proof_answers.specs.Answers.{Executes, Fails}
use Rattle.proof_requests.specs.Requests.{AllPairs, Asked, IsOwn, Placed}

-- the entries that servers have told of as executed
abbrev pub entries_left : Given → List Action → List Entry
entries_left given actions = map (λ x. x.entry) (after_actions given actions (new_cluster given)).released.executed

module _ (given : Given) (actions : List Action) (placed : List Placed) (id : ℕ) where
  -- the server executed the entry of a value that it proposed once the request had come, a write's own, and told of it: by a
  -- step of the same start, which a flush put on disk
  pub record IsDone (a : Asked) (index : ℕ) : Type 0 where
    pub awaits : Placed
    pub there : Contains placed awaits
    pub own : IsOwn id a.number a.operation awaits
    pub only : (w : Placed) → Contains placed w → w.by ≡ Some (id, a.number) → w ≡ awaits
    pub here : awaits.entry.log_id.leader_id.node_id ≡ id
    pub later : a.came ≤ awaits.call
    pub index_is : awaits.entry.log_id.index ≡ index
    pub flush : ℕ
    pub commands : ℕ
    pub executes : Executes given actions awaits.call awaits.entry flush commands
    pub left : Contains (entries_left given actions) awaits.entry

  -- a value that was proposed for it, if there is one, has failed
  abbrev pub HasFailed : Asked → Type 0
  HasFailed a = (w : Placed) → Contains placed w → w.by ≡ Some (id, a.number) → Fails given actions w.entry

  abbrev pub IsTrue : Asked → Answer → Type 0
  IsTrue a (Ok index) = IsDone a index
  IsTrue a Failed = HasFailed a
  IsTrue a (NotLeader leader) = HasFailed a
  IsTrue a Unknown = Unit {0}

  -- a request has this reply, and it is true
  abbrev pub IsAnswered : Asked → Reply → Type 0
  IsAnswered a r = (r.token ≡ a.token) × IsTrue a r.answer

  -- the first of the requests got these replies, in their order, and the others are left
  pub record AreAnswered (asked : List Asked) (replies : List Reply) (left : List Asked) : Type 0 where
    pub closed : List Asked
    pub all : asked ≡ closed ++ left
    pub each : AllPairs IsAnswered closed replies
