-- What each call of a server does: which steps it takes, what it makes of the requests of clients, and what leaves.
use Rattle.std.specs.Prelude.{ℕ, ◌≡◌, ◌≢◌, ◌⊎◌, Bool, true, Contains, List, [], ◌∷◌, ◌++◌, Option, None, Some, Ok, IfSome, map}
use Rattle.std.specs.Option.{option_map, option_to_list}
use Rattle.raft_frames.specs.declared.header.LogId.{LogId as LogName}
use Rattle.raft_state.specs.declared.ids.LeaderId.{LeaderId}
use Rattle.raft_state.specs.declared.ids.LogId.{LogId}
use Rattle.raft_state.specs.Log.{last}
use Rattle.raft_state.specs.Order.{next}
use Rattle.raft_store.specs.declared.entry.Value.TheVariants.{Bytes}
use Rattle.raft_calls.specs.declared.lead.Answer.{Answer}
use Rattle.raft_calls.specs.LeaderCalls.{read_answer}
use Rattle.raft_schedule.specs.declared.event.Outcome.{Outcome}
use Rattle.raft_schedule.specs.declared.event.Outcome.TheVariants.{Done}
use Rattle.raft_node.specs.declared.act.Act.{Act}
use Rattle.raft_node.specs.declared.act.Act.TheVariants as acts
use Rattle.raft_node.specs.declared.given.Given.{Given}
use Rattle.raft_store.specs.Types.{EngineView}
use Rattle.raft_codec.specs.Codec.{Codec}
use Rattle.raft_chunks.specs.Assembly.{cursor_of, nothing}
use Rattle.raft_peers.specs.proof_packed.Nodes.{PackedMessage, PackedRecords}
use Rattle.raft_peers.specs.proof_packed.Stores.{Application, Packed}
use Rattle.raft_peers.specs.proof_packed_servers.Servers.{PackedServer}
use Rattle.raft_peers.specs.raft_packed_wire.declared.packet.PackedContent.{PackedContent}
use Rattle.raft_peers.specs.raft_packed_wire.declared.packet.PackedContent.TheVariants as content
use Rattle.raft_peers.specs.raft_packed_wire.declared.packet.SentPart.{SentPart}
use Rattle.raft_peers.specs.raft_packed_wire.Messages.{received}
use Rattle.raft_peers.specs.raft_packed_wire.Values.{kept}
use Rattle.raft_peers.specs.raft_packed_server.declared.error.ServerError.{ServerError}
use Rattle.raft_peers.specs.raft_packed_server.declared.batch.NewLog.{NewLog}
use Rattle.raft_peers.specs.raft_packed_server.declared.batch.Written.{Written}
use Rattle.raft_peers.specs.raft_packed_server.declared.serving.Serving.{Serving}
use Rattle.raft_peers.specs.raft_packed_server.Checkpoints.{IsNewLog, TakesOver, with_next_log, without_next_log}
use Rattle.raft_peers.specs.raft_packed_server.Recovery.{OpensOn}
use Rattle.raft_peers.specs.raft_packed_server.Represents.{Flushes, HandsOut, Represents}
use Rattle.raft_peers.specs.raft_packed_server.Views.{ServerView, released}
use Rattle.raft_answers.specs.declared.answer.Answer.TheVariants.{NotLeader}
use Rattle.raft_answers.specs.declared.answer.Reply.{Reply}
use Rattle.raft_answers.specs.declared.request.Operation.{Operation}
use Rattle.raft_answers.specs.declared.request.Token.{Token}
use Rattle.raft_answers.specs.Answers.{ended, failed, refused}
use Rattle.raft_answers.specs.declared.batch.Place.{Place}
use Rattle.raft_answers.specs.Laws.{with_places}
use Rattle.raft_answers.specs.Requests.{Batched, IsBatched, Open, no_requests}
use Rattle.raft_core.specs.declared.driver.OpenedCore.{OpenedCore}
use Rattle.raft_core.specs.declared.error.FrameError.{FrameError}
use Rattle.raft_core.specs.declared.error.FrameError.TheVariants.{Core}
use Rattle.raft_peers.specs.declared.frame.Frame.{Frame}
use Rattle.raft_peers.specs.declared.frame.Frame.TheVariants as frames
use Rattle.raft_peers.specs.declared.frame.PartReply.{PartReply}
use Rattle.raft_peers.specs.declared.frame.PreVote.{PreVote}
use Rattle.raft_peers.specs.declared.frame.PreVoteReply.{PreVoteReply}
use Rattle.raft_core.specs.declared.moves.Move.{Move}
use Rattle.raft_peers.specs.declared.output.Output.{Output}
use Rattle.raft_peers.specs.declared.output.Output.TheVariants as outputs
use Rattle.raft_core.specs.Views.{CoreView}
use Rattle.raft_peers.specs.Frames.{IsFrame, answered, asked, granted}
use Rattle.raft_core.specs.Outputs.{lost_left, lost_replies, overdue_left, overdue_replies, reads_out, replies_out, said_outputs}
use Rattle.raft_peers.specs.Sends.{Sends}
use Rattle.raft_core.specs.Outputs.{settled_all}
use Rattle.raft_peers.specs.Parts.{AreParts, Comes, IsWhole, Outgoing, assembled, handed_out}
use Rattle.raft_reads.specs.Reads.{ReadsView, failed_left, failed_replies, is_free, no_reads, read_left, read_replies, refused_left}
use Rattle.raft_core.specs.Outputs.{handed_after}
use Rattle.raft_reads.specs.Reads.{refused_replies, with_heard, with_left, with_round}
use Rattle.raft_core.specs.Steps.{TakesAct, TakesActs, TakesSteps, act_of, step_taking}

-- One that was opened goes on at the end of its log, with no requests. Beside it stands what its log's snapshot has: what its start hands out goes
-- on from there.
pub record Begins {S : Type 0} (app : Application S) (c : Codec S) (given : Given) (id : LogName) (log : List ℕ) (o : OpenedCore S) : Type 0 where
  pub opens : OpensOn app c given id log 0 (record { server = o.core.server; end = o.end })
  pub is_given : o.core.server.given ≡ given
  pub node : o.core.id ≡ id.node
  pub applied : option_map (λ v. v.node.store.snap) o.core.server.serving ≡ Some o.applied
  pub requests : o.core.requests ≡ no_requests
  pub executed : o.core.executed ≡ None
  pub reads : o.core.reads ≡ no_reads
  pub preparing : o.core.preparing ≡ []
  pub outgoing : o.core.outgoing ≡ []
  pub incoming : o.core.incoming ≡ nothing 0

-- acts are taken as steps now, and nothing else is done
pub record Moves {S : Type 0} (app : Application S) (todo : List Act) (old new : CoreView S) : Type 0 where
  pub takes : TakesActs app old.clock todo old.server new.server
  pub rest : new ≡ record old { server = new.server }

-- Requests

-- a request waits behind the others
abbrev pub Admits : {S : Type 0} → Token → Operation → CoreView S → CoreView S → Type 0
Admits token operation old new =
    new ≡ record old {
      requests = record old.requests
          { waiting = old.requests.waiting ++ record { token = token; since = old.clock; operation = operation } ∷ [] };
    }

-- a read waits behind the others, for the next round
abbrev pub AdmitsRead : {S : Type 0} → Token → CoreView S → CoreView S → Type 0
AdmitsRead token old new =
    new ≡ record old { reads = record old.reads { readers = old.reads.readers ++ record { token = token; since = old.clock } ∷ [] } }

-- those whose lead is over are answered
pub record Loses (old : Open) (told : List Reply) (new : Open) (replies : List Reply) : Type 0 where
  pub lost : Bool
  pub left : new ≡ lost_left lost old
  pub tells : replies ≡ told ++ lost_replies lost old

-- reads are refused if the lead is over
pub record RefusesReads (old : ReadsView) (told : List Reply) (new : ReadsView) (replies : List Reply) : Type 0 where
  pub gone : Option (Option ℕ)
  pub left : new ≡ refused_left gone old
  pub tells : replies ≡ told ++ refused_replies gone old

-- those are answered whose lead is over, and then those that came before a moment
pub record AnswersOverdue {S : Type 0} (upto : ℕ) (old : Open) (reads : ReadsView) (before : List (Output S)) (new : Open) (reads' : ReadsView)
    (after : List (Output S)) : Type 0 where
  pub lost : Bool
  pub gone : Option (Option ℕ)
  pub requests_left : new ≡ overdue_left lost upto old
  pub reads_left : reads' ≡ failed_left upto (refused_left gone reads)
  pub leaves : after ≡ before ++ (replies_out (overdue_replies lost upto old)
      ++ reads_out (refused_replies gone reads ++ failed_replies upto (refused_left gone reads)))

-- Time goes by: moves are taken at the new moment; questions leave, and answers to requests and reads whose lead is over, or which wait for too
-- long.
pub record Ticks {S : Type 0} (app : Application S) (old : CoreView S) (out : List (Output S)) (new : CoreView S) : Type 0 where
  pub moves : List Move
  pub asks : List PreVote
  pub upto : ℕ
  pub takes : TakesActs app new.clock (map act_of moves) old.server new.server
  pub answers : AnswersOverdue upto old.requests old.reads (map asked asks) new.requests new.reads out
  pub rest : new ≡ record old { clock = new.clock; server = new.server; requests = new.requests; reads = new.reads }

-- Frames

-- a refusal is every error but those that end the server
abbrev pub IsRefusal : FrameError → Type 0
IsRefusal (Core e) = ⊥
IsRefusal _ = Unit {0}

-- those are answered whose lead is over, and the reads of each round that is over
pub record AnswersAfter {S : Type 0} (executed : Option ℕ) (old : Open) (reads : ReadsView) (out : List (Output S)) (new : Open)
    (reads' : ReadsView) : Type 0 where
  pub lost : Bool
  pub gone : Option (Option ℕ)
  pub requests_left : new ≡ lost_left lost old
  pub reads_left : reads' ≡ read_left executed (refused_left gone reads)
  pub leaves : out ≡ replies_out (lost_replies lost old)
      ++ reads_out (refused_replies gone reads ++ read_replies executed (refused_left gone reads))

-- A message is taken as one step, with the snapshot that it brings, and its sender is heard; requests and reads whose lead is over by then are
-- answered, and the reads of a round that is over.
pub record TakesMessage {S : Type 0} (app : Application S) (m : PackedMessage S) (old : CoreView S) (out : List (Output S))
    (new : CoreView S) : Type 0 where
  pub to : m.message.to ≡ old.id
  pub takes : TakesSteps app (step_taking old.clock m ∷ []) old.server new.server
  pub answers : AnswersAfter old.executed old.requests (with_heard m.message old.reads) out new.requests new.reads
  pub rest : new ≡ record old { server = new.server; requests = new.requests; reads = new.reads }

-- A question is answered, or not: no step is taken.
pub record Answers {S : Type 0} (ask : PreVote) (old : CoreView S) (out : List (Output S)) (new : CoreView S) : Type 0 where
  pub to : ask.to ≡ old.id
  pub replies : Option PreVoteReply
  pub rest : new ≡ old
  pub leaves : out ≡ option_to_list (option_map granted replies)

-- An answer may lead to an election.
pub record Hears {S : Type 0} (app : Application S) (reply : PreVoteReply) (old : CoreView S) (out : List (Output S))
    (new : CoreView S) : Type 0 where
  pub to : reply.to ≡ old.id
  pub moves : List Move
  pub moved : Moves app (map act_of moves) old new
  pub leaves : out ≡ []

-- The answer to a part: where its sender goes on.
abbrev pub reply_to : {S : Type 0} → (x : SentPart) (old : CoreView S) → Comes x old.incoming → PartReply
reply_to x old k = record { from = old.id; to = x.message.from; cursor = cursor_of (assembled k) k.piece.at.title }

-- A part is kept, and no step is taken.
pub record KeepsPart {S : Type 0} (c : Codec S) (x : SentPart) (old : CoreView S) (out : List (Output S)) (new : CoreView S) : Type 0 where
  pub to : x.message.to ≡ old.id
  pub comes : Comes x old.incoming
  pub waits : IsWhole c (handed_out comes) None
  pub rest : new ≡ record old { incoming = assembled comes }
  pub leaves : out ≡ answered (reply_to x old comes) ∷ []

-- With it the snapshot is whole: the message is taken, which brings it.
pub record CompletesSnapshot {S : Type 0} (app : Application S) (c : Codec S) (x : SentPart) (old : CoreView S) (out : List (Output S))
    (new : CoreView S) : Type 0 where
  pub comes : Comes x old.incoming
  pub snapshot : Packed S
  pub whole : IsWhole c (handed_out comes) (Some snapshot)
  pub others : List (Output S)
  pub takes : TakesMessage app (record { message = x.message; brought = snapshot }) (record old { incoming = assembled comes }) others new
  pub leaves : out ≡ answered (reply_to x old comes) ∷ others

-- A server has answered a part: more of the snapshot leaves, or nothing. What is outgoing by then was before.
pub record GoesOn {S : Type 0} (c : Codec S) (reply : PartReply) (old : CoreView S) (out : List (Output S)) (new : CoreView S) : Type 0 where
  pub to : reply.to ≡ old.id
  pub rest : new ≡ record old { outgoing = new.outgoing }
  pub outgoing : (o : Outgoing) → Contains new.outgoing o → Contains old.outgoing o
  pub leaves : (out ≡ []) ⊎ ((o : Outgoing) × Contains old.outgoing o × AreParts c old.start o out)

module _ {S : Type 0} (app : Application S) (c : Codec S) where
  abbrev pub TakesContent : PackedContent (Packed S) → CoreView S → List (Output S) → CoreView S → Type 0
  TakesContent (content.Message m) old out new = TakesMessage app (received app m) old out new
  TakesContent (content.Part x) old out new = KeepsPart c x old out new ⊎ CompletesSnapshot app c x old out new

  abbrev pub TakesFrame : Frame S → CoreView S → List (Output S) → CoreView S → Type 0
  TakesFrame (frames.Packet p) old out new = TakesContent p.content old out new
  TakesFrame (frames.PreVote ask) old out new = Answers ask old out new
  TakesFrame (frames.PreVoteReply reply) old out new = Hears app reply old out new
  TakesFrame (frames.PartReply reply) old out new = GoesOn c reply old out new

  -- the bytes are a frame for this server, which is taken
  abbrev pub Receives : List ℕ → CoreView S → List (Output S) → CoreView S → Type 0
  Receives bytes old out new = (frame : Frame S) × IsFrame c bytes frame × TakesFrame frame old out new

-- Proposals

-- the id of a leader
abbrev pub leader_id_of : EngineView → Option (LeaderId ℕ)
leader_id_of e = option_map (λ l. l.vote.leader_id) e.machine.leader

-- the id behind the last entry of a leader's log
pub record IsNext (e : EngineView) (first : LogId ℕ) : Type 0 where
  pub leads : leader_id_of e ≡ Some first.leader_id
  pub index : first.index ≡ next (last e.machine.core.state.ids)

-- the engine of a server, while it runs
abbrev pub engine_in : {S : Type 0} → Option (Serving S) → Option EngineView
engine_in None = None
engine_in (Some v) = v.node.engine

abbrev pub IsNextId : {S : Type 0} → Option (Serving S) → LogId ℕ → Type 0
IsNextId serving first = IfSome (engine_in serving) (λ e. IsNext e first)

-- What becomes of a batch, by the outcome of its proposal: its requests wait for the entries of their values, or have failed. Then
-- nothing more is known of those that were proposed before.
abbrev pub Becomes : Outcome → LogId ℕ → List Place → Open → List Reply → Open → List Reply → Type 0
Becomes Done first places old told new replies = (new ≡ with_places first places old) × (replies ≡ told)
Becomes _ first places old told new replies = (new ≡ record old { proposed = [] }) × (replies ≡ told ++ (ended old.proposed ++ failed places))

-- The oldest requests that wait are proposed by one step: their entries get the ids from the first one on.
pub record ProposesBatch {S : Type 0} (app : Application S) (at : ℕ) (first : LogId ℕ) (server : ServerView S) (old : Open) (told : List Reply)
    (server' : ServerView S) (new : Open) (replies : List Reply) : Type 0 where
  pub batch : Batched
  pub taken : Open
  pub outcome : Outcome
  pub batched : IsBatched old taken batch
  pub takes : TakesAct app at (acts.Propose (map Bytes batch.values)) server outcome server'
  pub becomes : Becomes outcome first batch.places taken told new replies

-- all are answered: this server doesn't lead
pub record RefusesAll (leader : Option ℕ) (old : Open) (told : List Reply) (new : Open) (replies : List Reply) : Type 0 where
  pub left : new ≡ no_requests
  pub tells : replies ≡ told ++ (ended old.proposed ++ refused (NotLeader leader) old.waiting)

-- nothing is done if no request waits; those that wait are proposed, or all are answered
abbrev pub Proposes : {S : Type 0} → Application S → ℕ → ServerView S → Open → List Reply → ServerView S → Open → List Reply → Type 0
Proposes app at server old told server' new replies =
    ((old.waiting ≡ []) × (server' ≡ server) × (new ≡ old) × (replies ≡ told))
    ⊎ (((leader : Option ℕ) × (server' ≡ server) × RefusesAll leader old told new replies)
    ⊎ ((first : LogId ℕ) × IsNextId server.serving first × ProposesBatch app at first server old told server' new replies))

-- Rounds of reads

-- the moment of a server's last step, while it runs
abbrev pub moment_in : {S : Type 0} → Option (Serving S) → ℕ
moment_in None = 0
moment_in (Some v) = v.node.moment

-- one step asks the node, which leads, for all reads that wait: a round begins, at the step's moment
pub record AsksNode {S : Type 0} (app : Application S) (at id : ℕ) (server : ServerView S) (old : ReadsView) (server' : ServerView S)
    (new : ReadsView) : Type 0 where
  pub free : is_free old ≡ true
  pub engine : EngineView
  pub runs : engine_in server.serving ≡ Some engine
  pub answer : Answer
  pub answers : read_answer id engine ≡ Some answer
  pub takes : TakesActs app at (acts.Read ∷ []) server server'
  pub begins : new ≡ with_round answer (moment_in server'.serving) engine.machine.core.state.em.membership.groups old

-- or none does
abbrev pub Asks : {S : Type 0} → Application S → ℕ → ℕ → ServerView S → ReadsView → ServerView S → ReadsView → Type 0
Asks app at id server old server' new = ((server' ≡ server) × (new ≡ old)) ⊎ AsksNode app at id server old server' new

-- Writes

abbrev pub append : {S : Type 0} → Written → Output S
append w = outputs.Append w.bytes.items w.end (option_map (λ b. b.items) w.next)

abbrev pub appended : {S : Type 0} → Option Written → List (Output S)
appended written = map append (option_to_list written)

module _ {S : Type 0} (app : Application S) (c : Codec S) where
  -- Nothing is done while bytes are on their way. Else requests and reads whose lead is over are answered, reads that wait are asked for,
  -- requests that wait are proposed, and the records that wait leave as bytes for the log's end.
  pub record WritesNow (old : CoreView S) (out : List (Output S)) (new : CoreView S) : Type 0 where
    pub kept : Open
    pub lost : List Reply
    pub reads : ReadsView
    pub refused : List Reply
    pub asked : ServerView S
    pub server : ServerView S
    pub replies : List Reply
    pub written : Option Written
    pub loses : Loses old.requests [] kept lost
    pub refuses : RefusesReads old.reads [] reads refused
    pub asks : Asks app old.clock old.id old.server reads asked new.reads
    pub proposes : Proposes app old.clock asked kept lost server new.requests replies
    pub hands_out : HandsOut c server.serving written new.server.serving
    pub given : new.server.given ≡ server.given
    pub stays : (s : PackedServer S) → Represents app s server → Represents app s new.server
    pub rest : new ≡ record old { server = new.server; requests = new.requests; reads = new.reads }
    pub leaves : out ≡ replies_out replies ++ (reads_out refused ++ appended written)

  abbrev pub Writes : CoreView S → List (Output S) → CoreView S → Type 0
  Writes old out new = ((out ≡ []) × (new ≡ old)) ⊎ WritesNow old out new

  -- Releases

  -- What leaves is what the steps say whose records came on disk, behind its frames a part of a snapshot that is encoded by then, if one is; and
  -- behind all that is to be executed the answers to the reads of a round that is over then.
  pub record Releases (position : ℕ) (old : CoreView S) (out : List (Output S)) (new : CoreView S) : Type 0 where
    pub said : PackedRecords S
    pub frames : List (Output S)
    pub flushes : Flushes app {E = ServerError} position old.server (Ok said) new.server
    pub serves : old.server.serving ≢ None
    pub released : new.server.serving ≡ option_map (λ v. (released position v).1) old.server.serving
    pub given : new.server.given ≡ old.server.given
    pub sends : Sends app c old.start said.bag old.preparing old.outgoing frames new.preparing new.outgoing
    pub rest : new ≡ record old {
      server = new.server;
      preparing = new.preparing;
      outgoing = new.outgoing;
      requests = settled_all (map (λ x. x.entry) said.executed) old.requests;
      executed = handed_after said old.executed;
      reads = read_left (handed_after said old.executed) (with_left said.answers old.reads);
    }
    pub leaves : out ≡ said_outputs frames said old.requests.proposed
        ++ reads_out (read_replies (handed_after said old.executed) (with_left said.answers old.reads))

-- New logs

module _ {S : Type 0} (c : Codec S) where
  -- a new log is handed out whole, and is on its way from then on: nothing else is done
  pub record BeginsNewLog (log : LogName) (old : CoreView S) (w : NewLog) (new : CoreView S) : Type 0 where
    pub serving : Serving S
    pub serves : old.server.serving ≡ Some serving
    pub is_new : IsNewLog c log serving w
    pub rest : new ≡ record old { server = record old.server { serving = Some (with_next_log c log serving) } }

  -- or none is
  abbrev pub MayBeginLog : LogName → CoreView S → Option NewLog → CoreView S → Type 0
  MayBeginLog log old None new = new ≡ old
  MayBeginLog log old (Some w) new = BeginsNewLog log old w new

module _ {S : Type 0} where
  -- it takes the old one's place, and its end is answered, or nothing is done
  pub record TakesOverLog (old : CoreView S) (end : Option ℕ) (new : CoreView S) : Type 0 where
    pub takes_over : TakesOver old.server.serving end new.server.serving
    pub rest : new ≡ record old { server = record old.server { serving = new.server.serving } }

  -- it is given up
  abbrev pub GivesUpLog : CoreView S → CoreView S → Type 0
  GivesUpLog old new = new ≡ record old { server = record old.server { serving = option_map without_next_log old.server.serving } }
