-- Each call of a server keeps its requests beside the model, and answers truly.
use Rattle.std.proofs.Common.{ℕ, zero, suc, ◌≡◌, inl, inr, List, [], ◌∷◌, ◌++◌, length, take, map, arith, refl, sym, ap, ◌∙◌, subst, append_assoc}
use Rattle.std.specs.Prelude.{Contains}
use Rattle.std.specs.List.{AllByRecursion}
use Rattle.std.proofs.lemmas.List.{append-nil}
use Rattle.raft_store.specs.declared.entry.Entry.{Entry}
use Rattle.raft_store.specs.declared.entry.Value.{Value}
use Rattle.raft_calls.specs.declared.message.Message.{Message}
use Rattle.raft_codec.specs.Codec.{Codec, IsCodec}
use Rattle.raft_node.specs.declared.act.Act.{Act}
use Rattle.raft_node.specs.declared.act.Act.TheVariants as acts
use Rattle.raft_node.specs.declared.given.Given.{Given}
use Rattle.raft_node.specs.declared.record.Executed.{Executed}
use Rattle.raft_node.specs.Net.{Records}
use Rattle.raft_node.specs.WellFormed.{IsWellFormed}
use Rattle.raft_answers.specs.declared.answer.Reply.{Reply}
use Rattle.raft_answers.specs.Requests.{Open}
use Rattle.proof_packed.specs.Nodes.{PackedInstalled, PackedMessage, PackedRecords, packed_message, packed_records}
use Rattle.proof_packed.specs.Stores.{Application, Packed}
use Rattle.raft_core.specs.proof_packed_servers.Servers.{PackedServer, PackedStep, packed_flushed_first, server_packed}
use Rattle.raft_core.specs.raft_packed_wire.declared.packet.PackedContent.{PackedContent}
use Rattle.raft_core.specs.raft_packed_wire.declared.packet.PackedContent.TheVariants as content
use Rattle.raft_core.specs.raft_packed_wire.declared.packet.PackedPacket.{PackedPacket}
use Rattle.raft_core.specs.raft_packed_wire.Messages.{packed_packet, received as message_of}
use Rattle.raft_core.specs.raft_packed_wire.Values.{kept}
use Rattle.raft_core.specs.raft_packed_server.Represents.{Represents, said_by}
use Rattle.raft_core.specs.raft_packed_server.Views.{ServerView}
use Rattle.raft_core.specs.raft_peers.declared.frame.Frame.TheVariants as frames
use Rattle.raft_core.specs.declared.moves.Move.{Move}
use Rattle.raft_core.specs.declared.moves.Move.TheVariants.{Beat, ChangeLearners, ChangeVoters, Fail, FinishSnapshot, Stand, StepDown}
use Rattle.raft_core.specs.raft_peers.declared.output.Output.{Output}
use Rattle.raft_core.specs.Calls.{AnswersAfter, Releases, TakesContent, Ticks, reply_to}
use Rattle.raft_core.specs.raft_peers.Frames.{asked as ask_out}
use Rattle.raft_core.specs.Laws.{replies_of}
use Rattle.raft_core.specs.Outputs.{executed_outputs, install, lost_left, lost_replies, overdue_left, overdue_replies, reads_out, replies_out}
use Rattle.raft_core.specs.raft_peers.Sends.{Sends}
use Rattle.raft_core.specs.Outputs.{said_outputs, settled_all}
use Rattle.raft_core.specs.raft_peers.Parts.{IsPartOf, Outgoing}
use Rattle.raft_core.specs.raft_reads.Reads.{ReadsView, failed_replies, read_replies, refused_left, refused_replies, with_heard, with_left}
use Rattle.raft_core.specs.Outputs.{handed_after}
use Rattle.raft_core.specs.Steps.{TakesSteps, act_of, step_taking, with_steps}
use Rattle.raft_core.specs.Views.{CoreView}
use Rattle.raft_core.proofs.raft_peers_proofs.Sending.{messages_send}
use Rattle.raft_core.proofs.Told.{before, behind_read, none_asked, none_granted, none_read, none_sent as none_replied, none_went, replies_more}
use Rattle.proof_servers.specs.Servers.{Action, AllMayAct, Cluster, Crashes, Flushes, MayTake, Step, Takes, after_action, after_actions, crashed}
use Rattle.proof_servers.specs.Servers.{new_cluster}
use Rattle.proof_servers.proofs.Follow.{changes}
use Rattle.raft_core.proofs.proof_packed_servers_proofs.Unpacking.{unmapped}
use Rattle.proof_snapshots.proofs.Agreed.{agreed as snapshots_agree}
use Rattle.proof_requests.specs.Actions.{AreSteps, Initializes, carried, flushes, initialized, received, released, taking, ticked}
use Rattle.proof_requests.specs.Answered.{AreAnswered}
use Rattle.proof_requests.specs.Frames.{IsSent, frames_of}
use Rattle.proof_requests.specs.Moving.{HasLeft, IsGoing, IsMoving}
use Rattle.proof_requests.specs.Laws.{AdmitsOne, IsOwnAction, Keeps, OpensWithNone, ReceivesSent}
use Rattle.proof_requests.specs.Requests.{AreOpen, ArePlaced, Asked, IsCore, IsWaiting, Placed, server_after}
use Rattle.proof_requests.proofs.Closing.{Closed, closes_executed, closes_lost, closes_none, closes_overdue}
use Rattle.proof_requests.proofs.Kept.{NoProposal, flushes_no_proposal, flushes_own, open_kept, own_no_crash, placed_kept, steps_may}
use Rattle.proof_requests.proofs.Kept.{steps_no_proposal, steps_own}
use Rattle.proof_requests.proofs.Lists.{none_in, pairs_append, rises_more}
use Rattle.proof_requests.proofs.More.{after_both, may_both}
use Rattle.proof_requests.proofs.Left.{bag_more}
use Rattle.proof_requests.proofs.Moved.{BringAlike, all_left_on, part_completes}
use Rattle.proof_requests.proofs.Packs.{acts_at, acts_packed, crash_packed, crash_stands, flushes_packed, moves_plain, said_all, said_first, stands_after}
use Rattle.proof_requests.proofs.Sent.{AreSent, asks_sent, bag_said, granted_sent, no_read_frames, no_told_frames, none_sent}
use Rattle.proof_requests.proofs.Sent.{part_answered, part_sent, said_sent, sent_before, still_sent, taken_sent, went_sent}
use Rattle.proof_requests.proofs.Told.{IsTold, all_flushed, all_told, may_flush}

-- what moves do: none takes a message, or proposes
module _ (bag : List Message) (id at : ℕ) where
  move_may : (m : Move) → MayTake bag id (act_of m)
  move_may Stand = tt
  move_may Beat = tt
  move_may (Fail target) = tt
  move_may StepDown = tt
  move_may FinishSnapshot = tt
  move_may (ChangeLearners learners) = tt
  move_may (ChangeVoters groups learners) = tt

  moves_may : (ms : List Move) → AllByRecursion (λ (s : Step). MayTake bag id s.act) (acts_at at (map act_of ms))
  moves_may [] = tt
  moves_may (m ∷ ms) = (move_may m, moves_may ms)

abbrev NoPropose : Act → Type 0
NoPropose act = (values : List Value) → act ≡ acts.Propose values → ⊥

move_no : (m : Move) → NoPropose (act_of m)
move_no Stand values e = cc
move_no Beat values e = cc
move_no (Fail target) values e = cc
move_no StepDown values e = cc
move_no FinishSnapshot values e = cc
move_no (ChangeLearners learners) values e = cc
move_no (ChangeVoters groups learners) values e = cc

moves_no : (at : ℕ) (ms : List Move) → AllByRecursion (λ (s : Step). NoPropose s.act) (acts_at at (map act_of ms))
moves_no at [] = tt
moves_no at (m ∷ ms) = (move_no m, moves_no at ms)

-- messages and snapshots are no replies
module _ {S : Type 0} where
  none_framed : (app : Application S) (c : Codec S) (start : ℕ) (old new : List (PackedMessage S)) (going going' : List Outgoing)
      (ms : List (PackedMessage S)) (out : List (Output S)) → Sends app c start ms old going out new going' → replies_of out ≡ []
  none_framed app c start old new going going' ms out h = none_replied out (messages_send app c start old new going going' ms out h)

  none_installed : (xs : List (PackedInstalled S)) → replies_of (map install xs) ≡ []
  none_installed [] = refl
  none_installed (x ∷ xs) = none_installed xs

initialize_no : NoPropose acts.Initialize
initialize_no values e = cc

take_no : (m : Message) → NoPropose (acts.Take m)
take_no m values e = cc

module _ {S : Type 0} (app : Application S) (c : Codec S) (given : Given) (wf : IsWellFormed given) (actions : List Action)
    (may : AllMayAct given actions (new_cluster given)) (placed : List Placed) (placed_are : ArePlaced given actions placed)
    (id : ℕ) (asked : List Asked) (old new : CoreView S) (out : List (Output S)) (core : IsCore app given actions placed id old asked) where
  abbrev pub Kept : List Action → Type 0
  Kept took = Keeps app c given actions placed id asked out new took

  -- by steps of the model's server that are these, packed
  abbrev pub KeptBy : List (PackedStep S) → Type 0
  KeptBy taken = (steps : List Step) × AreSteps app steps taken × Kept (taking id steps)

  abbrev bag : List Message
  bag = (after_actions given actions (new_cluster given)).released.bag

  -- the same values
  pub keeps_same : (took : List Action) → AllByRecursion (IsOwnAction id) took
      → AllMayAct given took (after_actions given actions (new_cluster given)) → ArePlaced given (actions ++ took) placed
      → Closed given (actions ++ took) placed id asked (replies_of out) new.requests → new.id ≡ old.id → new.server.given ≡ given
      → Represents app (server_packed app (server_after given (actions ++ took) id)) new.server
      → AreSent app c (after_actions given (actions ++ took) (new_cluster given)).released.bag (frames_of out) → Kept took
  keeps_same took own m ps k is g r sent_are = record {
    own = own;
    may = may_both given actions took (new_cluster given) may m;
    more = [];
    of_asked = λ w by l e. absurd (none_in w l);
    placed_are = subst (ArePlaced given (actions ++ took)) (sym (append-nil placed)) ps;
    left = k.left;
    answered = subst (λ ps. AreAnswered given (actions ++ took) ps id asked (replies_of out) k.left) (sym (append-nil placed)) k.answered;
    core = subst (λ ps. IsCore app given (actions ++ took) ps id new k.left) (sym (append-nil placed))
        (record { member = core.member; own = is ∙ core.own; given_is = g; stands = r; open_are = k.open_are });
    frames = sent_are;
  }

  closed_as : (upto : List Action) (rs : List Reply) (o : Open) → replies_of out ≡ rs → new.requests ≡ o → Closed given upto placed id asked rs o
      → Closed given upto placed id asked (replies_of out) new.requests
  closed_as upto rs o e q k =
      subst (λ rs. Closed given upto placed id asked rs new.requests) (sym e) (subst (Closed given upto placed id asked rs) (sym q) k)

  -- steps that propose nothing, by which frames leave that have left a server by then
  pub stepped_by : (steps : List Step) (taken : List (PackedStep S)) → AreSteps app steps taken → new.server.given ≡ old.server.given
      → ((s : PackedServer S) → Represents app s old.server → Represents app (with_steps app old.server.given taken s) new.server) → new.id ≡ old.id
      → AllByRecursion (λ (s : Step). MayTake bag id s.act) steps
      → AllByRecursion (λ (s : Step). NoPropose s.act) steps → (rs : List Reply) (o : Open) → replies_of out ≡ rs → new.requests ≡ o
      → (AreOpen given (actions ++ map (Takes id) steps) placed id old.requests asked
      → Closed given (actions ++ map (Takes id) steps) placed id asked rs o)
      → AreSent app c bag (frames_of out) → Kept (taking id steps)
  stepped_by steps taken same given_same takes is m n rs o e q close sent_are =
      let took : List Action = map (Takes id) steps in
      let own : AllByRecursion (IsOwnAction id) took = steps_own given id steps in
      let open_now : AreOpen given (actions ++ took) placed id old.requests asked =
      open_kept given actions took placed id (own_no_crash id took own) old.requests asked core.open_are in
      let may_took : AllMayAct given took (after_actions given actions (new_cluster given)) =
      steps_may given id steps (after_actions given actions (new_cluster given)) core.member m in
      keeps_same took own may_took
      (placed_kept given actions took placed (steps_no_proposal given id steps n) placed_are)
      (closed_as (actions ++ took) rs o e q (close open_now)) is (given_same ∙ core.given_is)
      (stands_after app given wf id core.member steps taken same actions (may_both given actions took (new_cluster given) may may_took) new.server
      (subst (λ g. Represents app (with_steps app g taken (server_packed app (server_after given actions id))) new.server) core.given_is
      (takes (server_packed app (server_after given actions id)) core.stands)))
      (still_sent app c given actions took (frames_of out) sent_are)

  -- and none that needs any
  pub stepped : (steps : List Step) (taken : List (PackedStep S)) → AreSteps app steps taken → new.server.given ≡ old.server.given
      → ((s : PackedServer S) → Represents app s old.server → Represents app (with_steps app old.server.given taken s) new.server) → new.id ≡ old.id
      → AllByRecursion (λ (s : Step). MayTake bag id s.act) steps
      → AllByRecursion (λ (s : Step). NoPropose s.act) steps → (rs : List Reply) (o : Open) → replies_of out ≡ rs → new.requests ≡ o
      → (AreOpen given (actions ++ map (Takes id) steps) placed id old.requests asked
      → Closed given (actions ++ map (Takes id) steps) placed id asked rs o)
      → ((bag : List Message) → AreSent app c bag (frames_of out)) → Kept (taking id steps)
  stepped steps taken same given_same takes is m n rs o e q close sent_are =
      stepped_by steps taken same given_same takes is m n rs o e q close (sent_are bag)

  pub initializes : Initializes app old out new → KeptBy (initialized app old)
  initializes m = (
    acts_at old.clock (acts.Initialize ∷ []),
    refl,
    stepped (acts_at old.clock (acts.Initialize ∷ [])) (initialized app old) refl m.1.takes.given m.1.takes.steps
        (ap (λ (v : CoreView S). v.id) m.1.rest)
        (tt, tt) (initialize_no, tt) [] old.requests (ap replies_of m.0) (ap (λ (v : CoreView S). v.requests) m.1.rest)
        (λ k. closes_none given _ placed id asked old.requests k) (λ bag. none_sent app c bag out (ap frames_of m.0)),
  )

  pub ticks : (t : Ticks app old out new) → KeptBy (ticked app old out new t)
  ticks t =
      let rs : List Reply = overdue_replies t.answers.lost t.upto old.requests in
      let ys : List Reply = refused_replies t.answers.gone old.reads ++ failed_replies t.upto (refused_left t.answers.gone old.reads) in
      let steps : List Step = acts_at new.clock (map act_of t.moves) in
      let same : AreSteps app steps (ticked app old out new t) = acts_packed app new.clock (map act_of t.moves) (moves_plain t.moves) in (
        steps,
        same,
        stepped steps (ticked app old out new t) same t.takes.given t.takes.steps (ap (λ (v : CoreView S). v.id) t.rest)
            (moves_may bag id new.clock t.moves) (moves_no new.clock t.moves) rs (overdue_left t.answers.lost t.upto old.requests)
            (ap replies_of t.answers.leaves ∙ behind_read (map ask_out t.asks) rs ys (none_asked S t.asks)) t.answers.requests_left
            (λ k. closes_overdue given _ placed id t.answers.lost t.upto asked old.requests k)
            (λ bag. subst (λ (o : List (Output S)). AreSent app c bag (frames_of o)) (sym t.answers.leaves)
            (asks_sent app c bag t.asks (replies_out rs ++ reads_out ys) (no_told_frames S rs ys))),
      )

  -- a message is taken that has left a server
  took_message : (m : PackedMessage S) (others : List (Output S)) → m.message.to ≡ old.id
      → TakesSteps app (step_taking old.clock m ∷ []) old.server new.server
      → AnswersAfter old.executed old.requests (with_heard m.message old.reads) others new.requests new.reads → new.id ≡ old.id
      → (x : Message) → Contains bag x → packed_message app x ≡ m → replies_of out ≡ replies_of others
      → (AreSent app c bag (frames_of others) → AreSent app c bag (frames_of out)) → KeptBy (step_taking old.clock m ∷ [])
  took_message m others to takes a same_id x left is said sent_are =
      let heard : ReadsView = with_heard m.message old.reads in
      let rs : List Reply = lost_replies a.lost old.requests in
      let ys : List Reply = refused_replies a.gone heard ++ read_replies old.executed (refused_left a.gone heard) in
      let steps : List Step = acts_at old.clock (acts.Take x ∷ []) in
      let taken : List (PackedStep S) = step_taking old.clock m ∷ [] in
      let same : AreSteps app steps taken = ap (λ (y : PackedMessage S). step_taking old.clock y ∷ []) is in
      let own : x.to ≡ id = ap (λ (y : PackedMessage S). y.message.to) is ∙ (to ∙ core.own) in (
        steps,
        same,
        stepped_by steps taken same takes.given takes.steps same_id ((left, own), tt) (take_no x, tt)
            rs (lost_left a.lost old.requests) (said ∙ (ap replies_of a.leaves ∙ before rs (reads_out ys) (none_read S ys)))
            a.requests_left
            (λ k. closes_lost given _ placed id a.lost asked old.requests k)
            (sent_are (none_sent app c bag others (ap frames_of a.leaves ∙ no_told_frames S rs ys))),
      )

  -- no step is taken
  idle : new.server ≡ old.server → new.id ≡ old.id → new.requests ≡ old.requests → replies_of out ≡ [] → AreSent app c bag (frames_of out) → KeptBy []
  idle server same_id requests said sent_are = (
    [],
    refl,
    stepped_by [] [] refl (ap (λ (v : ServerView S). v.given) server) (λ s is. subst (Represents app s) (sym server) is)
        same_id tt tt [] old.requests said requests (λ k. closes_none given _ placed id asked old.requests k) sent_are,
  )

  receives_content : IsCodec c → BringAlike app c bag → IsMoving app c bag old → (bytes : List ℕ) (p : PackedPacket (Packed S))
      → IsSent app c bag bytes → (packed_packet (kept c)).fits p → bytes ≡ 0 ∷ (packed_packet (kept c)).bytes p
      → (x : PackedContent (Packed S)) → p.content ≡ x → (t : TakesContent app c x old out new) → KeptBy (carried app old out new c x t)
  receives_content inverse alike moving bytes p from fits is (content.Message m) e t =
      let x : (x : Message) × Contains bag x × (packed_message app x ≡ message_of app m) = taken_sent app c inverse bag bytes p m from fits is e in
      took_message (message_of app m) out t.to t.takes t.answers (ap (λ (v : CoreView S). v.id) t.rest) x.0 x.1 x.2 refl (λ h. h)
  receives_content inverse alike moving bytes p from fits is (content.Part x) e (inl k) =
      idle (ap (λ (v : CoreView S). v.server) k.rest) (ap (λ (v : CoreView S). v.id) k.rest) (ap (λ (v : CoreView S). v.requests) k.rest)
      (ap replies_of k.leaves)
      (subst (λ (o : List (Output S)). AreSent app c bag (frames_of o)) (sym k.leaves) (part_answered app c bag (reply_to x old k.comes) [] tt))
  receives_content inverse alike moving bytes p from fits is (content.Part x) e (inr t) =
      let o : (o : Outgoing) × IsGoing app c bag o × IsPartOf o x = part_sent app c inverse bag bytes p x from fits is e in
      let m : PackedMessage S = record { message = x.message; brought = t.snapshot } in
      let brings : packed_message app o.1.message ≡ m =
      part_completes app c bag alike inverse x old.incoming t.comes moving.coming o.0 o.1 o.2 t.snapshot t.whole.0 t.whole.1 in
      took_message m t.others t.takes.to t.takes.takes t.takes.answers (ap (λ (v : CoreView S). v.id) t.takes.rest) o.1.message o.1.left brings
      (ap replies_of t.leaves)
      (λ h. subst (λ (o : List (Output S)). AreSent app c bag (frames_of o)) (sym t.leaves) (part_answered app c bag (reply_to x old t.comes) t.others h))

  pub receives : IsCodec c → (bytes : List ℕ) (r : ReceivesSent app c given actions bytes old out new) → KeptBy (received app old out new c bytes r.1)
  receives inverse bytes ((from, moving), (frames.Packet p, is, t)) =
      receives_content inverse (snapshots_agree given wf actions may) moving bytes p from is.0 is.1 p.content refl t
  receives inverse bytes ((from, moving), (frames.PartReply reply, is, t)) =
      idle (ap (λ (v : CoreView S). v.server) t.rest) (ap (λ (v : CoreView S). v.id) t.rest) (ap (λ (v : CoreView S). v.requests) t.rest)
      (none_went c old.start old.outgoing out t.leaves) (went_sent app c bag old.start old.outgoing moving.going out t.leaves)
  receives inverse bytes ((from, moving), (frames.PreVote ask, is, t)) = (
    [],
    refl,
    stepped [] [] refl (ap (λ (v : CoreView S). v.server.given) t.rest) (λ s is. subst (λ (v : CoreView S). Represents app s v.server) (sym t.rest) is)
        (ap (λ (v : CoreView S). v.id) t.rest) tt tt [] old.requests
        (ap replies_of t.leaves ∙ none_granted S t.replies) (ap (λ (v : CoreView S). v.requests) t.rest)
        (λ k. closes_none given _ placed id asked old.requests k)
        (λ bag. subst (λ (o : List (Output S)). AreSent app c bag (frames_of o)) (sym t.leaves) (granted_sent app c bag t.replies)),
  )
  receives inverse bytes ((from, moving), (frames.PreVoteReply reply, is, t)) =
      let steps : List Step = acts_at old.clock (map act_of t.moves) in
      let taken : List (PackedStep S) = received app old out new c bytes (frames.PreVoteReply reply, is, t) in
      let same : AreSteps app steps taken = acts_packed app old.clock (map act_of t.moves) (moves_plain t.moves) in (
        steps,
        same,
        stepped steps taken same t.moved.takes.given t.moved.takes.steps (ap (λ (v : CoreView S). v.id) t.moved.rest)
            (moves_may bag id old.clock t.moves) (moves_no old.clock t.moves) [] old.requests
            (ap replies_of t.leaves) (ap (λ (v : CoreView S). v.requests) t.moved.rest)
            (λ k. closes_none given _ placed id asked old.requests k) (λ bag. none_sent app c bag out (ap frames_of t.leaves)),
      )

  -- Records came on disk

  module _ (position : ℕ) (r : Releases app c position old out new) where
    abbrev count : ℕ
    count = released position old

    abbrev flushed : List Action
    flushed = flushes id count

    abbrev es : List Entry
    es = map (λ (x : Executed). x.entry) r.said.executed

    -- what the model's steps said that leave
    abbrev theirs : Records (List Entry)
    theirs = said_all (take count (server_after given actions id).waiting)

    flush : (r.said ≡ said_by (take count (server_packed app (server_after given actions id)).waiting))
        × Represents app (packed_flushed_first app count (server_packed app (server_after given actions id))) new.server
    flush = r.flushes (server_packed app (server_after given actions id)) core.stands

    said_is : r.said ≡ packed_records app theirs
    said_is = flush.0 ∙ said_first app count (server_after given actions id)

    may_flushed : (k : ℕ) (c : Cluster) → AllMayAct given (flushes id k) c
    may_flushed zero c = tt
    may_flushed (suc k) c = (core.member, may_flushed k (after_action given (Flushes id) c))

    placed_now : ArePlaced given (actions ++ flushed) placed
    placed_now = placed_kept given actions flushed placed (flushes_no_proposal id count) placed_are

    open_now : AreOpen given (actions ++ flushed) placed id old.requests asked
    open_now = open_kept given actions flushed placed id (own_no_crash id flushed (flushes_own id count)) old.requests asked core.open_are

    told : AllByRecursion (IsTold given (actions ++ flushed) id) es
    told =
        subst (λ (s : PackedRecords S). AllByRecursion (IsTold given (actions ++ flushed) id) (map (λ (x : Executed). x.entry) s.executed))
        (sym said_is)
        (all_told given wf id core.member count actions may)

    said : replies_of (said_outputs r.frames r.said old.requests.proposed) ≡ replies_of {S = S} (executed_outputs es old.requests.proposed)
    said =
        replies_more r.frames (map install r.said.installed ++ executed_outputs es old.requests.proposed)
        ∙ (ap (λ rs. rs ++ replies_of (map install r.said.installed ++ executed_outputs es old.requests.proposed))
        (none_framed app c old.start old.preparing new.preparing old.outgoing new.outgoing r.said.bag r.frames r.sends)
        ∙ (replies_more (map install r.said.installed) (executed_outputs es old.requests.proposed)
        ∙ ap (λ rs. rs ++ replies_of {S = S} (executed_outputs es old.requests.proposed)) (none_installed r.said.installed)))

    abbrev told_reads : List Reply
    told_reads = read_replies (handed_after r.said old.executed) (with_left r.said.answers old.reads)

    leave : replies_of out ≡ replies_of {S = S} (executed_outputs es old.requests.proposed)
    leave =
        ap replies_of r.leaves
        ∙ (replies_more (said_outputs r.frames r.said old.requests.proposed) (reads_out told_reads)
        ∙ (ap (λ rs. replies_of (said_outputs r.frames r.said old.requests.proposed) ++ rs) (none_read S told_reads)
        ∙ (append-nil (replies_of (said_outputs r.frames r.said old.requests.proposed)) ∙ said)))

    abbrev bag_now : List Message
    bag_now = (after_actions given (actions ++ flushed) (new_cluster given)).released.bag

    -- what is encoded from now on has left a server
    pub said_left : (p : PackedMessage S) → Contains r.said.bag p → HasLeft app c bag_now p
    said_left p there =
        let among : Contains (map (packed_message app) theirs.bag) p =
        subst (λ (s : PackedRecords S). Contains s.bag p) said_is there in
        let m : (m : Message) × Contains theirs.bag m × (packed_message app m ≡ p) =
        unmapped (packed_message app) theirs.bag p among in
        record { message = m.0; left = bag_said given count actions id m.0 m.1; is = sym m.2 }

    pub releases : IsMoving app c bag old → Kept (flushes id (released position old))
    releases moving =
        keeps_same flushed (flushes_own id count) (may_flushed count (after_actions given actions (new_cluster given))) placed_now
        (closed_as (actions ++ flushed) (replies_of {S = S} (executed_outputs es old.requests.proposed)) (settled_all es old.requests) leave
        (ap (λ (v : CoreView S). v.requests) r.rest)
        (closes_executed given wf (actions ++ flushed) (may_flush given actions id count core.member may) placed placed_now id core.member S es told
        asked
        old.requests open_now))
        (ap (λ (v : CoreView S). v.id) r.rest) (r.given ∙ core.given_is)
        (subst (λ (s : PackedServer S). Represents app s new.server)
        (sym (ap (server_packed app) (all_flushed given count actions id) ∙ flushes_packed app count (server_after given actions id))) flush.1)
        (subst (λ (o : List (Output S)). AreSent app c bag_now (frames_of o)) (sym r.leaves)
        (sent_before app c bag_now (said_outputs r.frames r.said old.requests.proposed) (reads_out told_reads)
        (said_sent app c bag_now old.start theirs.bag old.preparing new.preparing old.outgoing new.outgoing r.frames r.said.installed es old.requests.proposed
        (subst (λ (s : PackedRecords S). Sends app c old.start s.bag old.preparing old.outgoing r.frames new.preparing new.outgoing) said_is r.sends)
        (all_left_on app c bag bag_now (λ m k. bag_more given actions flushed m k) old.preparing moving.preparing)
        (λ m k. bag_said given count actions id m k))
        (no_read_frames S told_reads)))

-- a request that is taken
pub admits : {S : Type 0} (app : Application S) → AdmitsOne app
admits {S} app given actions placed id asked old new token operation number core a above fresh =
    let h = core.open_are in
    let one : Asked = record { number = number; token = token; operation = operation; came = length actions } in
    let same : new.server ≡ old.server = ap (λ (v : CoreView S). v.server) a in
    record {
      member = core.member;
      own = ap (λ (v : CoreView S). v.id) a ∙ core.own;
      given_is = ap (λ (v : ServerView S). v.given) same ∙ core.given_is;
      stands = subst (Represents app (server_packed app (server_after given actions id))) (sym same) core.stands;
      open_are = subst (λ (o : Open). AreOpen given actions placed id o (asked ++ one ∷ [])) (sym (ap (λ (v : CoreView S). v.requests) a)) (record {
        proposed = h.proposed;
        waiting = h.waiting ++ one ∷ [];
        all = ap (λ xs. xs ++ one ∷ []) h.all ∙ append_assoc h.proposed h.waiting (one ∷ []);
        awaited = h.awaited;
        waits = pairs_append (IsWaiting given actions placed id) old.requests.waiting h.waiting _ (one ∷ []) h.waits
            (record { token = refl; operation = refl; came = omega arith; fresh = fresh }, tt);
        rises = rises_more asked one h.rises above;
      });
    }

-- one that starts
pub opens : {S : Type 0} (app : Application S) → OpensWithNone app
opens {S} app given wf actions may placed placed_are id k at member new own given_is none disk same stands = (
  may_both given actions (Crashes id k at ∷ []) (new_cluster given) may (member, tt),
  placed_kept given actions (Crashes id k at ∷ []) placed no_proposal placed_are,
  record {
    member = member;
    own = own;
    given_is = given_is;
    stands = subst (λ (s : PackedServer S). Represents app s new.server)
        (sym (ap (λ (c : Cluster). server_packed app (c.servers id)) (after_both given actions (Crashes id k at ∷ []) (new_cluster given))
        ∙ (ap (server_packed app) (changes id (crashed given id k at (server_after given actions id))
        (after_actions given actions (new_cluster given))).own
        ∙ crash_packed app given wf id member actions may k at)))
        (crash_stands app given id k at (server_packed app (server_after given actions id)) disk same new.server stands);
    open_are = subst (λ (o : Open). AreOpen given (actions ++ Crashes id k at ∷ []) placed id o []) (sym none)
        (record { proposed = []; waiting = []; all = refl; awaited = tt; waits = tt; rises = tt });
  },
)
  where
    no_proposal : NoProposal (Crashes id k at ∷ [])
    no_proposal zero other step values e q = cc
    no_proposal (suc j) other step values e q = cc
