-- Packed servers do what the model's servers do, packed: they take steps, flush, and start after a crash. So a server that stands for the model's,
-- packed, stands for it after each call.
use Rattle.std.proofs.Common.{ℕ, zero, suc, ◌≡◌, ◌∙◌, inl, inr, List, [], ◌∷◌, ◌++◌, take, map, refl, sym, ap, subst, append_assoc}
use Rattle.std.specs.Prelude.{◌&&◌, Bool, Contains, IfSome, None, Option, Some, if◌then◌else◌, not}
use Rattle.std.specs.Option.{option_map}
use Rattle.std.specs.Ordering.{nat_cmp}
use Rattle.std.specs.List.{AllByRecursion}
use Rattle.raft_state.specs.Sorted.{has_id}
use Rattle.raft_store.specs.declared.entry.Entry.{Entry}
use Rattle.raft_store.specs.declared.entry.Value.TheVariants.{Bytes}
use Rattle.raft_store.specs.Types.{EngineView, WorldCommand}
use Rattle.raft_calls.specs.declared.message.Body.{Body}
use Rattle.raft_calls.specs.declared.message.Body.TheVariants.{AppendReply, AppendRequest, SnapshotReply, SnapshotRequest, VoteReply, VoteRequest}
use Rattle.raft_calls.specs.declared.message.Message.{Message}
use Rattle.raft_node.specs.declared.act.Act.{Act}
use Rattle.raft_node.specs.declared.act.Act.TheVariants.{ChangeLearners, ChangeMembership, Elect, Fail, FinishSnapshot, Initialize, Propose, Read}
use Rattle.raft_node.specs.declared.act.Act.TheVariants.{Restart, SendHeartbeat, StepDown, Stop, Take, TriggerPurge, TriggerSnapshot}
use Rattle.raft_node.specs.declared.given.Given.{Given}
use Rattle.raft_node.specs.Net.{Records, no_records}
use Rattle.raft_node.specs.WellFormed.{IsWellFormed}
use Rattle.raft_answers.specs.declared.answer.Reply.{Reply}
use Rattle.raft_answers.specs.Requests.{Open}
use Rattle.proof_servers.specs.Recorded.{joined}
use Rattle.proof_servers.specs.Servers.{Action, AllMayAct, Server, Step, Takes, WaitingStep, crashed, flushed_first, new_cluster, played_alone}
use Rattle.proof_servers.specs.Servers.{with_step}
use Rattle.proof_packed.specs.Nodes.{PackedMessage, bare_act, bare_body, bare_command, bare_engine, bare_message, brought_by_act, packed_message}
use Rattle.proof_packed.specs.Nodes.{packed_node, packed_records}
use Rattle.proof_packed.specs.Stores.{Application}
use Rattle.raft_core.specs.proof_packed_servers.Checkpoints.{AreSameDisks}
use Rattle.raft_core.specs.proof_packed_servers.Servers.{PackedDisk, PackedServer, PackedStep, packed_crashed, packed_flushed_first, packed_joined}
use Rattle.raft_core.specs.proof_packed_servers.Servers.{packed_played_alone}
use Rattle.raft_core.specs.proof_packed_servers.Servers.{server_packed, step_packed, waiting_packed}
use Rattle.raft_core.proofs.proof_packed_servers_proofs.Checkpoints.{crashed_alike, first_alike}
use Rattle.raft_core.proofs.raft_packed_server_proofs.Waiting.{stands_alike}
use Rattle.raft_core.specs.raft_packed_wire.Records.{packed_on_disk}
use Rattle.raft_core.proofs.proof_packed_servers_proofs.Clusters.{joined_kept}
use Rattle.raft_core.proofs.proof_packed_servers_proofs.Disks.{first_kept}
use Rattle.raft_core.proofs.proof_packed_servers_proofs.Serving.{servers_kept}
use Rattle.raft_core.specs.raft_packed_server.declared.serving.Serving.{Serving}
use Rattle.raft_core.specs.raft_packed_server.Represents.{Represents, StandsFor, said_by}
use Rattle.raft_core.specs.raft_packed_server.Views.{ServerView}
use Rattle.raft_core.specs.declared.moves.Move.{Move}
use Rattle.raft_core.specs.declared.moves.Move.TheVariants as moves
use Rattle.raft_core.specs.Calls.{Asks, Proposes}
use Rattle.raft_core.specs.raft_reads.Reads.{ReadsView, RoundView, heard_in, is_late, with_heard}
use Rattle.raft_core.specs.Steps.{act_of, step_at, step_taking, steps_at, with_steps}
use Rattle.proof_requests.specs.Actions.{AreSteps, after_steps, asking, proposed}
use Rattle.proof_requests.specs.ReadLaws.{answers_waiting}
use Rattle.proof_requests.specs.Requests.{server_after}
use Rattle.proof_requests.proofs.Kept.{server_steps}
use Rattle.proof_requests.proofs.More.{may_first}

-- what steps of the model that wait say, in their order
abbrev pub said_all : List WaitingStep → Records (List Entry)
said_all [] = no_records
said_all (w ∷ ws) = joined w.outputs (said_all ws)

pub said_answers : (ws : List WaitingStep) → (said_all ws).answers ≡ answers_waiting ws
said_answers [] = refl
said_answers (w ∷ ws) = ap (λ xs. w.outputs.answers ++ xs) (said_answers ws)

-- acts of the model at one moment
abbrev pub acts_at : ℕ → List Act → List Step
acts_at at todo = map (λ act. record { act = act; at = at }) todo

-- an act that takes no message
abbrev pub TakesNone : Act → Type 0
TakesNone (Take m) = ⊥
TakesNone _ = Unit {0}

-- it is the same without a snapshot's data
bare_is : (a b : Act) → TakesNone b → bare_act a ≡ b → a ≡ b
bare_is Initialize b h e = e
bare_is (Elect candidates) b h e = e
bare_is (Take m) b h e = absurd (subst TakesNone (sym e) h)
bare_is (Propose values) b h e = e
bare_is SendHeartbeat b h e = e
bare_is (Fail target) b h e = e
bare_is TriggerSnapshot b h e = e
bare_is FinishSnapshot b h e = e
bare_is (TriggerPurge i) b h e = e
bare_is (Restart start) b h e = e
bare_is (ChangeLearners learners) b h e = e
bare_is (ChangeMembership groups learners) b h e = e
bare_is Read b h e = e
bare_is StepDown b h e = e
bare_is Stop b h e = e

-- what moves do
pub moves_plain : (ms : List Move) → AllByRecursion TakesNone (map act_of ms)
moves_plain [] = tt
moves_plain (moves.Stand ∷ ms) = (tt, moves_plain ms)
moves_plain (moves.Beat ∷ ms) = (tt, moves_plain ms)
moves_plain (moves.Fail target ∷ ms) = (tt, moves_plain ms)
moves_plain (moves.StepDown ∷ ms) = (tt, moves_plain ms)
moves_plain (moves.FinishSnapshot ∷ ms) = (tt, moves_plain ms)
moves_plain (moves.ChangeLearners learners ∷ ms) = (tt, moves_plain ms)
moves_plain (moves.ChangeVoters groups learners ∷ ms) = (tt, moves_plain ms)

-- an engine between two steps has no command, and so no data of a snapshot
bare_resting : (e : EngineView) → e.machine.core.output.items ≡ [] → bare_engine e ≡ e
bare_resting e q =
    ap (λ (xs : List WorldCommand). record e {
      machine = record e.machine
          { core = record e.machine.core { output = record e.machine.core.output { items = xs } } };
    })
    (ap (map bare_command) q ∙ sym q)

pub engine_bare : (o : Option EngineView) → IfSome o (λ e. e.machine.core.output.items ≡ []) → option_map bare_engine o ≡ o
engine_bare None h = refl
engine_bare (Some e) h = ap (λ (x : EngineView). Some x) (bare_resting e h)

-- a reply is heard alike without a snapshot's data
late_bare : (b : Body) (o : RoundView) → is_late (bare_body b) o ≡ is_late b o
late_bare (VoteRequest req) o = refl
late_bare (VoteReply resp) o = refl
late_bare (AppendRequest origin prev entries committed) o = refl
late_bare (AppendReply origin reply prev upto) o = refl
late_bare (SnapshotRequest origin snapshot) o = refl
late_bare (SnapshotReply origin reply upto) o = refl

heard_bare : (m : Message) (o : RoundView) → heard_in (bare_message m) o ≡ heard_in m o
heard_bare m o =
    ap (λ (b : Bool). if b && not (has_id nat_cmp o.heard m.from) then record o { heard = o.heard ++ m.from ∷ [] } else o) (late_bare m.body o)

pub with_heard_bare : (m : Message) (r : ReadsView) → with_heard (bare_message m) r ≡ with_heard m r
with_heard_bare m r = ap (λ (os : List RoundView). let v : ReadsView = record r { rounds = os } in v) (go r.rounds)
  where
    go : (os : List RoundView) → map (heard_in (bare_message m)) os ≡ map (heard_in m) os
    go [] = refl
    go (o ∷ os) = λ i. heard_bare m o i ∷ go os i

head_same : {A : Type 0} (x y : A) (xs ys : List A) → x ∷ xs ≡ y ∷ ys → x ≡ y
head_same x y xs ys e = cc

tail_same : {A : Type 0} (x y : A) (xs ys : List A) → x ∷ xs ≡ y ∷ ys → xs ≡ ys
tail_same x y xs ys e = cc

-- what a server stands for doesn't depend on what no start reads on disk
pub stands_on : {S : Type 0} (app : Application S) (s : PackedServer S) (disk : PackedDisk S) (o : Option (Serving S))
    → packed_on_disk app s.disk.store ≡ packed_on_disk app disk.store → StandsFor app (record s { disk = disk }) o → StandsFor app s o
stands_on app s disk None same h = h
stands_on app s disk (Some v) same h =
    stands_alike app (record s { disk = disk }) s.disk v (sym same) h

module _ {S : Type 0} (app : Application S) where
  -- What waits

  pub said_packed : (ws : List WaitingStep) → said_by (map (waiting_packed app) ws) ≡ packed_records app (said_all ws)
  said_packed [] = refl
  said_packed (w ∷ ws) = ap (packed_joined (packed_records app w.outputs)) (said_packed ws) ∙ sym (joined_kept app w.outputs (said_all ws))

  take_packed : (k : ℕ) (ws : List WaitingStep) → take k (map (waiting_packed app) ws) ≡ map (waiting_packed app) (take k ws)
  take_packed zero [] = refl
  take_packed zero (w ∷ ws) = refl
  take_packed (suc k) [] = refl
  take_packed (suc k) (w ∷ ws) = ap (λ xs. waiting_packed app w ∷ xs) (take_packed k ws)

  -- what the first steps that wait say
  pub said_first : (k : ℕ) (s : Server) → said_by (take k (server_packed app s).waiting) ≡ packed_records app (said_all (take k s.waiting))
  said_first k s = ap said_by (take_packed k s.waiting) ∙ said_packed (take k s.waiting)

  -- Steps of a call

  -- of acts that take no message
  step_plain : (at : ℕ) (act : Act) → TakesNone act → step_packed app (record { act = act; at = at }) ≡ step_at app at act
  step_plain at Initialize h = refl
  step_plain at (Elect candidates) h = refl
  step_plain at (Take m) h = absurd h
  step_plain at (Propose values) h = refl
  step_plain at SendHeartbeat h = refl
  step_plain at (Fail target) h = refl
  step_plain at TriggerSnapshot h = refl
  step_plain at FinishSnapshot h = refl
  step_plain at (TriggerPurge i) h = refl
  step_plain at (Restart start) h = refl
  step_plain at (ChangeLearners learners) h = refl
  step_plain at (ChangeMembership groups learners) h = refl
  step_plain at Read h = refl
  step_plain at StepDown h = refl
  step_plain at Stop h = refl

  pub acts_packed : (at : ℕ) (todo : List Act) → AllByRecursion TakesNone todo → AreSteps app (acts_at at todo) (steps_at app at todo)
  acts_packed at [] h = refl
  acts_packed at (act ∷ todo) h = λ i. step_plain at act h.0 i ∷ acts_packed at todo h.1 i

  -- no other steps are these, packed
  pub acts_only : (at : ℕ) (todo : List Act) → AllByRecursion TakesNone todo → (steps : List Step) → AreSteps app steps (steps_at app at todo)
      → steps ≡ acts_at at todo
  acts_only at [] h [] e = refl
  acts_only at [] h (s ∷ steps) e = cc
  acts_only at (act ∷ todo) h [] e = cc
  acts_only at (act ∷ todo) h (s ∷ steps) e =
      let one : step_packed app s ≡ step_at app at act = head_same _ _ _ _ e in
      let act_is : s.act ≡ act = bare_is s.act act h.0 (ap (λ (x : PackedStep S). x.act) one) in
      let at_is : s.at ≡ at = ap (λ (x : PackedStep S). x.at) one in
      let rest : steps ≡ acts_at at todo = acts_only at todo h.1 steps (tail_same _ _ _ _ e) in
      λ i. record { act = act_is i; at = at_is i } ∷ rest i

  -- of a message: it is one of the model's, packed
  pub record IsTaking (at : ℕ) (m : PackedMessage S) (steps : List Step) : Type 0 where
    pub message : Message
    pub brings : packed_message app message ≡ m
    pub steps_are : steps ≡ acts_at at (Take message ∷ [])

  taken_by : (at : ℕ) (m : PackedMessage S) (moment : ℕ) (act : Act) → bare_act act ≡ Take m.message → brought_by_act app act ≡ m.brought
      → moment ≡ at
      → IsTaking at m (record { act = act; at = moment } ∷ [])
  taken_by at m moment Initialize e q t = cc
  taken_by at m moment (Elect candidates) e q t = cc
  taken_by at m moment (Take x) e q t = record {
    message = x;
    brings = (let z : (packed_message app x).message ≡ m.message = message_same _ _ e in λ i. record { message = z i; brought = q i });
    steps_are = ap (λ n. record { act = Take x; at = n } ∷ []) t;
  }
    where
      message_same : (a b : Message) → ◌≡◌ {A = Act} (Take a) (Take b) → a ≡ b
      message_same a b e = cc
  taken_by at m moment (Propose values) e q t = cc
  taken_by at m moment SendHeartbeat e q t = cc
  taken_by at m moment (Fail target) e q t = cc
  taken_by at m moment TriggerSnapshot e q t = cc
  taken_by at m moment FinishSnapshot e q t = cc
  taken_by at m moment (TriggerPurge i) e q t = cc
  taken_by at m moment (Restart start) e q t = cc
  taken_by at m moment (ChangeLearners learners) e q t = cc
  taken_by at m moment (ChangeMembership groups learners) e q t = cc
  taken_by at m moment Read e q t = cc
  taken_by at m moment StepDown e q t = cc
  taken_by at m moment Stop e q t = cc

  pub is_taking : (at : ℕ) (m : PackedMessage S) (steps : List Step) → AreSteps app steps (step_taking at m ∷ []) → IsTaking at m steps
  is_taking at m [] e = cc
  is_taking at m (s ∷ []) e =
      let one : step_packed app s ≡ step_taking at m = head_same _ _ _ _ e in
      taken_by at m s.at s.act (ap (λ (x : PackedStep S). x.act) one) (ap (λ (x : PackedStep S). x.brought) one) (ap (λ (x : PackedStep S). x.at) one)
  is_taking at m (s ∷ t ∷ steps) e = let z : map (step_packed app) (t ∷ steps) ≡ [] = tail_same _ _ _ _ e in cc

  -- what reads that are asked for do, and a proposal
  abbrev pub asked_acts : (at id : ℕ) (server : ServerView S) (old : ReadsView) (server' : ServerView S) (new : ReadsView)
      → Asks app at id server old server' new → List Act
  asked_acts at id server old server' new (inl none) = []
  asked_acts at id server old server' new (inr asks) = Read ∷ []

  pub asked_are : (at id : ℕ) (server : ServerView S) (old : ReadsView) (server' : ServerView S) (new : ReadsView)
      → (a : Asks app at id server old server' new)
      → (asking app at id server old server' new a ≡ steps_at app at (asked_acts at id server old server' new a))
      × AllByRecursion TakesNone (asked_acts at id server old server' new a)
  asked_are at id server old server' new (inl none) = (refl, tt)
  asked_are at id server old server' new (inr asks) = (refl, (tt, tt))

  abbrev pub proposed_acts : (at : ℕ) (server : ServerView S) (old : Open) (told : List Reply) (server' : ServerView S) (new : Open)
      (replies : List Reply)
      → Proposes app at server old told server' new replies → List Act
  proposed_acts at server old told server' new replies (inl none) = []
  proposed_acts at server old told server' new replies (inr (inl all)) = []
  proposed_acts at server old told server' new replies (inr (inr (first, next, b))) = Propose (map Bytes b.batch.values) ∷ []

  pub proposed_are : (at : ℕ) (server : ServerView S) (old : Open) (told : List Reply) (server' : ServerView S) (new : Open) (replies : List Reply)
      → (p : Proposes app at server old told server' new replies)
      → (proposed app at server old told server' new replies p ≡ steps_at app at (proposed_acts at server old told server' new replies p))
      × AllByRecursion TakesNone (proposed_acts at server old told server' new replies p)
  proposed_are at server old told server' new replies (inl none) = (refl, tt)
  proposed_are at server old told server' new replies (inr (inl all)) = (refl, tt)
  proposed_are at server old told server' new replies (inr (inr (first, next, b))) = (refl, (tt, tt))

  -- The server after a call

  -- after flushes
  pub flushes_packed : (k : ℕ) (s : Server) → server_packed app (flushed_first k s) ≡ packed_flushed_first app k (server_packed app s)
  flushes_packed k s = first_kept app k s

  -- after a crash what a server stands for doesn't depend on what no start reads on disk
  pub crash_stands : (given : Given) (id k at : ℕ) (s : PackedServer S) (disk : PackedDisk S) → AreSameDisks app s.disk disk → (v : ServerView S)
      → Represents app (packed_crashed app given id k at (record s { disk = disk })) v → Represents app (packed_crashed app given id k at s) v
  crash_stands given id k at s disk same v h =
      stands_on app (packed_crashed app given id k at s) (packed_flushed_first app k (record s { disk = disk })).disk v.serving
      (first_alike app k s disk same).store
      (subst (λ (t : PackedServer S). Represents app t v) (crashed_alike app given id k at s disk same) h)

  module _ (given : Given) (wf : IsWellFormed given) (id : ℕ) (member : Contains given.ids id) where
    -- after a crash
    pub crash_packed : (actions : List Action) → AllMayAct given actions (new_cluster given) → (k at : ℕ)
        → server_packed app (crashed given id k at (server_after given actions id))
        ≡ packed_crashed app given id k at (server_packed app (server_after given actions id))
    crash_packed actions may k at = (servers_kept app given wf actions may id member).crashes k at

    -- the outcome of a step
    pub outcome_packed : (actions : List Action) → AllMayAct given actions (new_cluster given) → (step : Step)
        → (played_alone given (server_after given actions id).node step).0
        ≡ (packed_played_alone app given (packed_node app (server_after given actions id).node) (step_packed app step)).0
    outcome_packed actions may step = (servers_kept app given wf actions may id member).outcomes step

    -- after steps
    pub steps_packed : (steps : List Step) (actions : List Action) → AllMayAct given (actions ++ map (Takes id) steps) (new_cluster given)
        → server_packed app (after_steps given steps (server_after given actions id))
        ≡ with_steps app given (map (step_packed app) steps) (server_packed app (server_after given actions id))
    steps_packed [] actions may = refl
    steps_packed (s ∷ steps) actions may =
        let next : List Action = actions ++ Takes id s ∷ [] in
        let is : server_after given next id ≡ with_step given s (server_after given actions id) = server_steps given id (s ∷ []) actions in
        let may_now : AllMayAct given actions (new_cluster given) = may_first given actions (map (Takes id) (s ∷ steps)) (new_cluster given) may in
        let may_next : AllMayAct given (next ++ map (Takes id) steps) (new_cluster given) =
        subst (λ xs. AllMayAct given xs (new_cluster given)) (sym (append_assoc actions (Takes id s ∷ []) (map (Takes id) steps))) may in
        ap (λ (t : Server). server_packed app (after_steps given steps t)) (sym is)
        ∙ (steps_packed steps next may_next
        ∙ ap (with_steps app given (map (step_packed app) steps))
        (ap (server_packed app) is ∙ (servers_kept app given wf actions may_now id member).steps s))

    -- so a server that took them stands for the model's server then
    pub stands_after : (steps : List Step) (taken : List (PackedStep S)) → AreSteps app steps taken → (actions : List Action)
        → AllMayAct given (actions ++ map (Takes id) steps) (new_cluster given) → (v : ServerView S)
        → Represents app (with_steps app given taken (server_packed app (server_after given actions id))) v
        → Represents app (server_packed app (server_after given (actions ++ map (Takes id) steps) id)) v
    stands_after steps taken same actions may v h =
        subst (λ (s : PackedServer S). Represents app s v)
        (ap (λ ts. with_steps app given ts (server_packed app (server_after given actions id))) (sym same)
        ∙ (sym (steps_packed steps actions may) ∙ ap (server_packed app) (sym (server_steps given id steps actions)))) h
