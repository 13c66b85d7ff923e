-- Which steps of its server a call takes, and which actions of the model's server those are.
use Rattle.std.specs.Prelude.{ℕ, ◌≡◌, List, [], ◌∷◌, ◌++◌, map, replicate}
use Rattle.std.proofs.Common.{inl, inr}
use Rattle.raft_store.specs.declared.entry.Value.TheVariants.{Bytes}
use Rattle.raft_codec.specs.Codec.{Codec}
use Rattle.raft_node.specs.declared.act.Act.TheVariants.{Initialize, Propose, Read}
use Rattle.raft_node.specs.declared.given.Given.{Given}
use Rattle.raft_answers.specs.declared.answer.Reply.{Reply}
use Rattle.raft_answers.specs.Requests.{Open}
use Rattle.proof_servers.specs.Servers.{Action, Flushes, Server, Step, Takes, with_step}
use Rattle.proof_packed.specs.Stores.{Application, Packed}
use Rattle.raft_core.specs.proof_packed_servers.Servers.{PackedStep, step_packed}
use Rattle.raft_core.specs.raft_packed_wire.declared.packet.PackedContent.{PackedContent}
use Rattle.raft_core.specs.raft_packed_wire.declared.packet.PackedContent.TheVariants as content
use Rattle.raft_core.specs.raft_packed_wire.Messages.{received as message_of}
use Rattle.raft_core.specs.raft_packed_server.Views.{ServerView, steps_released}
use Rattle.raft_core.specs.raft_peers.declared.frame.Frame.{Frame}
use Rattle.raft_core.specs.raft_peers.declared.frame.Frame.TheVariants as frames
use Rattle.raft_core.specs.raft_peers.declared.output.Output.{Output}
use Rattle.raft_core.specs.Calls.{Asks, Moves, Proposes, Receives, TakesContent, TakesFrame, Ticks, Writes}
use Rattle.raft_core.specs.raft_reads.Reads.{ReadsView}
use Rattle.raft_core.specs.Steps.{act_of, step_taking, steps_at}
use Rattle.raft_core.specs.Views.{CoreView}

-- Actions of the model's server: these steps, in order
abbrev pub taking : ℕ → List Step → List Action
taking id steps = map (Takes id) steps

-- so many flushes
abbrev pub flushes : ℕ → ℕ → List Action
flushes id k = replicate k (Flushes id)

-- the model's server after steps, in order
abbrev pub after_steps : Given → List Step → Server → Server
after_steps given [] s = s
after_steps given (step ∷ steps) s = after_steps given steps (with_step given step s)

module _ {S : Type 0} (app : Application S) where
  -- packed, the model's steps are those that a call takes
  abbrev pub AreSteps : List Step → List (PackedStep S) → Type 0
  AreSteps steps taken = map (step_packed app) steps ≡ taken

  -- Steps that a call takes

  -- a server is given the first entry of a new cluster: nothing leaves
  abbrev pub Initializes : CoreView S → List (Output S) → CoreView S → Type 0
  Initializes old out new = (out ≡ []) × Moves app (Initialize ∷ []) old new

  abbrev pub initialized : CoreView S → List (PackedStep S)
  initialized old = steps_at app old.clock (Initialize ∷ [])

  module _ (old : CoreView S) (out : List (Output S)) (new : CoreView S) where
    -- of a tick: its moves
    abbrev pub ticked : Ticks app old out new → List (PackedStep S)
    ticked t = steps_at app new.clock (map act_of t.moves)

    -- of a packet: its message; or, of a part, the message whose snapshot is whole with it, or none
    abbrev pub carried : (c : Codec S) (x : PackedContent (Packed S)) → TakesContent app c x old out new → List (PackedStep S)
    carried c (content.Message m) t = step_taking old.clock (message_of app m) ∷ []
    carried c (content.Part x) (inl kept) = []
    carried c (content.Part x) (inr t) = step_taking old.clock (record { message = x.message; brought = t.snapshot }) ∷ []

    -- of a frame: its packet's, or none, or moves
    abbrev pub framed : (c : Codec S) (frame : Frame S) → TakesFrame app c frame old out new → List (PackedStep S)
    framed c (frames.Packet p) t = carried c p.content t
    framed c (frames.PreVote ask) t = []
    framed c (frames.PreVoteReply reply) t = steps_at app old.clock (map act_of t.moves)
    framed c (frames.PartReply reply) t = []

    abbrev pub received : (c : Codec S) (bytes : List ℕ) → Receives app c bytes old out new → List (PackedStep S)
    received c bytes (frame, is, t) = framed c frame t

  -- of a proposal: that of a batch, or none
  abbrev pub proposed : (at : ℕ) (server : ServerView S) (old : Open) (told : List Reply) (server' : ServerView S) (new : Open) (replies : List Reply)
      → Proposes app at server old told server' new replies → List (PackedStep S)
  proposed at server old told server' new replies (inl none) = []
  proposed at server old told server' new replies (inr (inl all)) = []
  proposed at server old told server' new replies (inr (inr (first, next, b))) = steps_at app at (Propose (map Bytes b.batch.values) ∷ [])

  -- of reads that are asked for: one, or none
  abbrev pub asking : (at id : ℕ) (server : ServerView S) (old : ReadsView) (server' : ServerView S) (new : ReadsView)
      → Asks app at id server old server' new → List (PackedStep S)
  asking at id server old server' new (inl none) = []
  asking at id server old server' new (inr asks) = steps_at app at (Read ∷ [])

  -- of a write: reads are asked for, and then requests are proposed; none while bytes are on their way
  abbrev pub written : (c : Codec S) (old : CoreView S) (out : List (Output S)) (new : CoreView S) → Writes app c old out new → List (PackedStep S)
  written c old out new (inl none) = []
  written c old out new (inr w) =
      asking old.clock old.id old.server w.reads w.asked new.reads w.asks
      ++ proposed old.clock w.asked w.kept w.lost w.server new.requests w.replies w.proposes

-- how many steps leave when the server hears that its log is on disk, up to a position
abbrev pub released : {S : Type 0} → ℕ → CoreView S → ℕ
released position old = steps_released position old.server.serving
