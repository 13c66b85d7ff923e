-- The laws.
use Rattle.std.proofs.Common.{ℕ, inr, ⊎_elim, List, ◌++◌}
use Rattle.raft_calls.specs.declared.message.Message.{Message}
use Rattle.raft_codec.specs.Codec.{Codec, IsCodec}
use Rattle.raft_node.specs.declared.given.Given.{Given}
use Rattle.proof_clients.specs.Objects.{Object}
use Rattle.proof_clients.proofs.Sequences.{element}
use Rattle.proof_servers.specs.Servers.{Action, Step, after_actions, new_cluster}
use Rattle.proof_answers.proofs.Linear.{see_one}
use Rattle.proof_packed.specs.Stores.{Application}
use Rattle.raft_core.specs.proof_packed_servers.Servers.{PackedStep}
use Rattle.raft_core.specs.raft_peers.declared.output.Output.{Output}
use Rattle.raft_core.specs.Calls.{Ticks, Writes}
use Rattle.raft_core.specs.Views.{CoreView}
use Rattle.proof_requests.specs.Actions.{AreSteps, Initializes, flushes, initialized, received, released, taking, ticked, written}
use Rattle.proof_requests.specs.Clients.{AreBeside, Cores, CoresSeeOne, StayBeside, StayBy, StayBySteps, StaysBy, StaysByFrame, StaysByRelease}
use Rattle.proof_requests.specs.Frames.{IsSent}
use Rattle.proof_requests.specs.Moving.{IsMoving}
use Rattle.proof_requests.specs.Laws.{Keeps, OfCalls, RequestsAreKept}
use Rattle.proof_requests.specs.ReadLaws.{KeepsReads, OfReadCalls}
use Rattle.proof_requests.specs.Requests.{Placed}
use Rattle.proof_requests.proofs.MovedCalls.{StayMoving, initialized_same, moving_later, moving_same, received_moving, released_moving, ticked_same}
use Rattle.proof_requests.proofs.MovedCalls.{written_same}
use Rattle.proof_requests.proofs.Beside.{beside_call, beside_first, beside_read, beside_reading, beside_request, beside_start, beside_stop}
use Rattle.proof_requests.proofs.Beside.{first_answered}
use Rattle.proof_requests.proofs.Beside.{first_read}
use Rattle.proof_requests.proofs.Calls.{admits, initializes, opens, receives, releases, said_left, ticks}
use Rattle.proof_requests.proofs.Histories.{ops_told}
use Rattle.proof_requests.proofs.NewLogs.{beside_giving_up, beside_new_log, beside_take_over}
use Rattle.proof_requests.proofs.ReadsKept.{reads_are_kept}
use Rattle.proof_requests.proofs.Writes.{writes}

module _ {S : Type 0} (app : Application S) (c : Codec S) where
  pub requests_are_kept : IsCodec c → RequestsAreKept app c
  requests_are_kept inverse = record {
    initializes = λ given wf actions may placed placed_are id asked old new out core d.
        initializes app c given wf actions may placed placed_are id asked old new out core d;
    ticks = λ given wf actions may placed placed_are id asked old new out core d.
        ticks app c given wf actions may placed placed_are id asked old new out core d;
    receives = λ bytes given wf actions may placed placed_are id asked old new out core d.
        receives app c given wf actions may placed placed_are id asked old new out core inverse bytes d;
    writes = writes app c;
    releases = λ position given wf actions may placed placed_are id asked old new out core moving d.
        releases app c given wf actions may placed placed_are id asked old new out core position d moving;
    admits = admits app;
    opens = opens app;
  }

  -- a call that keeps requests and reads beside the model
  stay : (given : Given) (actions : List Action) (placed : List Placed) (s : Cores S) → AreBeside app c given actions placed s
      → (id : ℕ) (new : CoreView S) (out : List (Output S)) (took : List Action) → Keeps app c given actions placed id (s.open_at id) out new took
      → KeepsReads given actions id (s.reads_at id) out new took
      → IsMoving app c (after_actions given (actions ++ took) (new_cluster given)).released.bag new
      → StayBy app c given actions placed s id out new took
  stay given actions placed s h id new out took k r moved = record {
    more = k.more;
    beside = beside_call app c given actions placed s h id new out took k r moved;
    first = first_answered app c given actions placed s h id new out took k r moved;
    first_reads = first_read app c given actions placed s h id new out took k r moved;
  }

  -- by steps
  stay_steps : (given : Given) (actions : List Action) (placed : List Placed) (s : Cores S) → AreBeside app c given actions placed s
      → (id : ℕ) (new : CoreView S) (out : List (Output S)) (taken : List (PackedStep S))
      → (k : (steps : List Step) × AreSteps app steps taken × Keeps app c given actions placed id (s.open_at id) out new (taking id steps))
      → KeepsReads given actions id (s.reads_at id) out new (taking id k.0)
      → IsMoving app c (after_actions given actions (new_cluster given)).released.bag new → StayBySteps app c given actions placed s id out new taken
  stay_steps given actions placed s h id new out taken k r moved =
      (k.0, k.1, stay given actions placed s h id new out (taking id k.0) k.2 r (moving_later app c given actions (taking id k.0) new moved))

  stays_by : (Does : CoreView S → List (Output S) → CoreView S → Type 0)
      (taken : (old : CoreView S) (out : List (Output S)) (new : CoreView S) → Does old out new → List (PackedStep S))
      → OfCalls app c (λ given actions old out new. Does old out new) (λ given actions old out new d. taken old out new d)
      → OfReadCalls app Does taken → ((old : CoreView S) (out : List (Output S)) (new : CoreView S) → Does old out new → StayMoving old new)
      → StaysBy app c Does taken
  stays_by Does taken keeps reads stays given wf actions placed s h id old new out runs d =
      let k : (steps : List Step) × AreSteps app steps (taken old out new d)
      × Keeps app c given actions placed id (s.open_at id) out new (taking id steps) =
      keeps given wf actions h.may placed h.placed_are id (s.open_at id) old new out (h.running id old runs) d in
      stay_steps given actions placed s h id new out (taken old out new d) k
      (reads given wf actions h.may placed id (s.open_at id) (s.reads_at id) old new out (h.running id old runs) (h.reading id old runs) d k.0 k.1
      k.2.may)
      (moving_same app c (after_actions given actions (new_cluster given)).released.bag old new (stays old out new d) (h.moving id old runs))

  stays_by_frame : IsCodec c → StaysByFrame app c
  stays_by_frame inverse given wf actions placed s h id old new out bytes runs from r =
      let bag : List Message = (after_actions given actions (new_cluster given)).released.bag in
      let sent : IsSent app c bag bytes = ⊎_elim (λ k. element (IsSent app c bag) s.sent bytes h.frames k) (λ d. inr (inr d)) from in
      let k : (steps : List Step) × AreSteps app steps (received app old out new c bytes r)
      × Keeps app c given actions placed id (s.open_at id) out new (taking id steps) =
      (requests_are_kept inverse).receives bytes given wf actions h.may placed h.placed_are id (s.open_at id) old new out (h.running id old runs)
      ((sent, h.moving id old runs), r) in
      stay_steps given actions placed s h id new out (received app old out new c bytes r) k
      ((reads_are_kept app c).receives bytes given wf actions h.may placed id (s.open_at id) (s.reads_at id) old new out (h.running id old runs)
      (h.reading id old runs) r k.0 k.1 k.2.may)
      (received_moving app c inverse given wf actions h.may old new out bytes sent r (h.moving id old runs))

  stays_by_release : StaysByRelease app c
  stays_by_release position given wf actions placed s h id old new out runs r =
      stay given actions placed s h id new out (flushes id (released position old))
      (releases app c given wf actions h.may placed h.placed_are id (s.open_at id) old new out (h.running id old runs) position r
      (h.moving id old runs))
      ((reads_are_kept app c).releases position given wf actions h.may placed id (s.open_at id) (s.reads_at id) old new out (h.running id old runs)
      (h.reading id old runs) r)
      (released_moving app c (after_actions given (actions ++ flushes id (released position old)) (new_cluster given)).released.bag position old new out r
      (λ p there. said_left app c given wf actions h.may placed h.placed_are id (s.open_at id) old new out (h.running id old runs) position r p there)
      (moving_later app c given actions (flushes id (released position old)) old (h.moving id old runs)))

  pub stay_beside : IsCodec c → StayBeside app c
  stay_beside inverse = record {
    first = beside_first app c;
    starts = beside_start app c inverse;
    reads = beside_reading app c;
    stops = beside_stop app c;
    requests = λ given actions placed s h id old new token operation runs a.
        beside_request app c given actions placed s h id old new token operation runs a;
    rule_reads = λ given actions placed s h id old new token runs a. beside_read app c given actions placed s h id old new token runs a;
    initializes = stays_by (Initializes app) (λ old out new d. initialized app old) (requests_are_kept inverse).initializes
        (reads_are_kept app c).initializes (initialized_same app c);
    ticks = stays_by (Ticks app) (λ old out new d. ticked app old out new d) (requests_are_kept inverse).ticks (reads_are_kept app c).ticks
        (ticked_same app c);
    receives = stays_by_frame inverse;
    writes = stays_by (Writes app c) (λ old out new d. written app c old out new d) (requests_are_kept inverse).writes (reads_are_kept app c).writes
        (written_same app c);
    releases = stays_by_release;
    new_logs = λ log w given actions placed s h id old new runs b. beside_new_log app c given actions placed s h id old new runs log w b;
    take_overs = λ end given actions placed s h id old new runs t. beside_take_over app c given actions placed s h id old new runs end t;
    given_up = λ given actions placed s h id old new runs g. beside_giving_up app c given actions placed s h id old new runs g;
  }

  pub cores_see_one : {T R : Type 0} (m : Object T R) → CoresSeeOne app c m
  cores_see_one m given wf actions placed s h name named =
      let z = ops_told m app c given actions placed s h name named in
      (z.0, z.1, z.2, see_one m given wf actions h.may z.0 z.1 z.2.history)
