-- The laws of reads: each call.
use Rattle.std.proofs.Common.{ℕ, zero, suc, ◌+◌, ◌<◌, ◌≤◌, ◌≡◌, ◌≢◌, inl, inr, ⊎_elim, Bool, true, false, List, [], ◌∷◌, ◌++◌, length, take, map, arith, refl, sym, ap, ◌∙◌, subst, Option, None, Some, append-nil, append_assoc}
use Rattle.std.specs.Prelude.{◌&&◌, ◌||◌, Contains, IfSome, is_some, nat_eq, nat_lt, slice_get, if◌then◌else◌}
use Rattle.std.specs.List.{AllByRecursion, list_all}
use Rattle.std.specs.Option.{option_map, option_to_list}
use Rattle.std.proofs.lemmas.Bool.{and_parts}
use Rattle.std.proofs.lemmas.List.{length-append, map-append}
use Rattle.raft_state.specs.declared.membership.Members.{Members}
use Rattle.raft_store.specs.declared.entry.Entry.{Entry}
use Rattle.raft_store.specs.Types.{EngineView, WorldLeader}
use Rattle.raft_schedule.specs.declared.event.Event.{Event}
use Rattle.raft_schedule.specs.declared.event.Start.{Start}
use Rattle.raft_calls.specs.declared.lead.Answer as node_answer
use Rattle.raft_calls.specs.declared.message.Message.{Message}
use Rattle.raft_codec.specs.Codec.{Codec}
use Rattle.raft_calls.specs.Held.{IsResting, IsRestingWhereRunning}
use Rattle.raft_calls.specs.LeaderCalls.{answer_by, read_answer, read_refusal}
use Rattle.raft_node.specs.declared.act.Act.{Act}
use Rattle.raft_node.specs.declared.act.Act.TheVariants as acts
use Rattle.raft_node.specs.declared.given.Given.{Given}
use Rattle.raft_node.specs.declared.record.Executed.{Executed}
use Rattle.raft_node.specs.declared.record.Installed.{Installed}
use Rattle.raft_node.specs.Chosen.{effective_in}
use Rattle.raft_node.specs.Net.{NodeView, Records, new_node, node_at}
use Rattle.raft_node.specs.Runs.{world_after}
use Rattle.raft_node.specs.WellFormed.{IsWellFormed}
use Rattle.raft_answers.specs.declared.answer.Reply.{Reply}
use Rattle.raft_answers.specs.declared.request.Operation.TheVariants.{Read}
use Rattle.proof_packed.specs.Nodes.{PackedInstalled, PackedMessage, PackedNode, PackedRecords, bare_engine, packed_records}
use Rattle.proof_packed.specs.Stores.{Application, Packed, packed}
use Rattle.raft_core.specs.proof_packed_servers.Servers.{packed_flushed_first, server_packed}
use Rattle.raft_core.specs.raft_packed_wire.declared.packet.PackedContent.{PackedContent}
use Rattle.raft_core.specs.raft_packed_wire.declared.packet.PackedContent.TheVariants as content
use Rattle.raft_core.specs.raft_packed_wire.Messages.{received as message_of}
use Rattle.raft_core.specs.raft_packed_server.declared.serving.Serving.{Serving}
use Rattle.raft_core.specs.raft_packed_server.Represents.{Represents, StandsFor, said_by}
use Rattle.raft_core.specs.raft_packed_server.Views.{ServerView}
use Rattle.raft_core.specs.raft_peers.declared.frame.Frame.TheVariants as frames
use Rattle.raft_core.specs.declared.moves.Move.{Move}
use Rattle.raft_core.specs.declared.moves.Move.TheVariants.{Beat, ChangeLearners, ChangeVoters, Fail, FinishSnapshot, Stand, StepDown}
use Rattle.raft_core.specs.raft_peers.declared.output.Output.{Output}
use Rattle.raft_core.specs.raft_reads.declared.reads.Reader.{Reader}
use Rattle.raft_core.specs.Calls.{AnswersAfter, Asks, AsksNode, Proposes, Receives, Releases, TakesContent, Ticks, Writes, WritesNow, engine_in}
use Rattle.raft_core.specs.Calls.{moment_in}
use Rattle.raft_core.specs.Laws.{read_replies_of}
use Rattle.raft_core.specs.raft_reads.Reads.{ReadsView, RoundView, asked_for, count_over, count_overdue, failed_left, failed_replies, is_free}
use Rattle.raft_core.specs.raft_reads.Reads.{most_rounds, not_over, read_left, read_replies, refused_left, refused_replies, round_of, under_way}
use Rattle.raft_core.specs.raft_reads.Reads.{with_heard, with_left}
use Rattle.raft_core.specs.Outputs.{handed_after}
use Rattle.raft_core.specs.raft_peers.Parts.{assembled}
use Rattle.raft_core.specs.Steps.{act_of, step_at, step_taking, steps_at, with_steps}
use Rattle.raft_core.specs.Views.{CoreView}
use Rattle.raft_core.proofs.ReadsTold.{none_granted, none_went, told_by_message, told_by_release, ticked as told_by_tick, wrote as told_by_write}
use Rattle.proof_clients.proofs.Sequences.{element}
use Rattle.proof_clients.proofs.Slots.{slot_below}
use Rattle.proof_servers.specs.Follows.{Follows}
use Rattle.proof_servers.specs.Servers.{Action, AllMayAct, Crashes, Flushes, Server, Step, Takes, WaitingStep, after_actions, new_cluster, node_after}
use Rattle.proof_servers.specs.Servers.{outputs_of, with_step}
use Rattle.proof_servers.proofs.AtNode.{node_id}
use Rattle.proof_servers.proofs.Follow.{ahead, servers_follow}
use Rattle.proof_servers.proofs.Told.{nodes_rest}
use Rattle.proof_answers.specs.Answers.{node_then}
use Rattle.proof_answers.proofs.Prefixes.{slot_cases, slot_last, take_more}
use Rattle.proof_requests.specs.Actions.{AreSteps, Initializes, carried, flushes, initialized, received, released, taking, ticked, written}
use Rattle.proof_requests.specs.OnDisk.{flushed_node}
use Rattle.proof_requests.specs.Reading.{IsAskedFor, IsHanded, StartsBare}
use Rattle.proof_requests.specs.ReadLaws.{AdmitsOneRead, AreReadAnswered, AreReads, IsOpenRead, IsReader, IsRound, KeepsReads, ReadsAreKept}
use Rattle.proof_requests.specs.ReadLaws.{answers_waiting, pending}
use Rattle.proof_requests.specs.Requests.{AllPairs, Asked, IsCore, Placed, server_after}
use Rattle.proof_requests.proofs.Handed.{flushed_still, from_both, handed_flush, last_index}
use Rattle.proof_requests.proofs.Kept.{NoCrash, flushes_own, own_no_crash, server_steps, steps_own}
use Rattle.proof_requests.proofs.Lists.{all_append, all_in, contains_take, pairs_append}
use Rattle.proof_requests.proofs.More.{may_both, server_there}
use Rattle.proof_requests.proofs.Packs.{IsTaking, TakesNone, acts_at, acts_only, asked_acts, asked_are, engine_bare, is_taking, moves_plain}
use Rattle.proof_requests.proofs.Packs.{proposed_acts, proposed_are}
use Rattle.proof_requests.proofs.Packs.{said_all, said_answers, said_first, stands_after, with_heard_bare}
use Rattle.proof_requests.proofs.ReadCalls.{ReadsClosed, bare_more, none_left, pairs_long, pending_answered, pending_heard, pending_not_over, read_both, read_failed, read_none, read_over, left_of, read_refused, reads_heard, reads_left_by, reads_more, refused_answered, refused_reads}
use Rattle.proof_requests.proofs.ReadSteps.{groups_are, read_says}
use Rattle.proof_requests.proofs.Silent.{ArePlain, IsPlain, answers_flushed, answers_step, answers_steps, flushed_taking}
use Rattle.proof_requests.proofs.Told.{all_flushed, may_flush, none_flushed, server_flushed}

-- what moves do is plain
move_plain : (m : Move) → IsPlain (act_of m)
move_plain Stand = ((λ e. cc), (λ s e. cc))
move_plain Beat = ((λ e. cc), (λ s e. cc))
move_plain (Fail target) = ((λ e. cc), (λ s e. cc))
move_plain StepDown = ((λ e. cc), (λ s e. cc))
move_plain FinishSnapshot = ((λ e. cc), (λ s e. cc))
move_plain (ChangeLearners learners) = ((λ e. cc), (λ s e. cc))
move_plain (ChangeVoters groups learners) = ((λ e. cc), (λ s e. cc))

all_plain : (at : ℕ) (ms : List Move) → ArePlain (acts_at at (map act_of ms))
all_plain at [] = tt
all_plain at (m ∷ ms) = (move_plain m, all_plain at ms)

-- Rounds stay as they are for what the node has answered

pending_refused : (gone : Option (Option ℕ)) (r : ReadsView) → pending (refused_left gone r).rounds ≡ pending r.rounds
pending_refused None r = refl
pending_refused (Some leader) r = pending_answered (length r.readers) r.rounds

pending_read : (executed : Option ℕ) (r : ReadsView) → pending (read_left executed r).rounds ≡ pending r.rounds
pending_read None r = refl
pending_read (Some index) r = pending_answered (count_over index r.rounds) (not_over index r.rounds) ∙ pending_not_over index r.rounds

-- what a server's reads rest on, at these actions
record Facts (given : Given) (actions : List Action) (id : ℕ) (executed : Option ℕ) (r : ReadsView) (reading : List Asked) : Type 0 where
  bare : StartsBare actions id
  handed : IsHanded (flushed_node given actions id).store.applied executed
  pend : answers_waiting (server_after given actions id).waiting ≡ pending r.rounds
  reads : AreReads given actions id r reading

module _ (given : Given) (actions : List Action) (id : ℕ) where
  -- steps put nothing on disk
  flushed_steps : (steps : List Step) → flushed_node given (actions ++ map (Takes id) steps) id ≡ flushed_node given actions id
  flushed_steps steps = from_both given id actions (map (Takes id) steps) (new_cluster given) (new_node given.settings id) ∙ flushed_taking given id steps (after_actions given actions (new_cluster given)) (flushed_node given actions id)

  no_start : (ss : List Step) → ArePlain ss → (j at : ℕ) (start : Start) → slice_get (map (Takes id) ss) j ≢ Some (Takes id (record { act = acts.Restart start; at = at }))
  no_start [] h j at start e = cc
  no_start (s ∷ ss) h zero at start e = let z : s ≡ record { act = acts.Restart start; at = at } = cc in h.0.1 start (ap (λ (x : Step). x.act) z)
  no_start (s ∷ ss) h (suc j) at start e = no_start ss h.1 j at start e

  -- after plain steps
  plain_facts : (executed : Option ℕ) (r : ReadsView) (reading : List Asked) → Facts given actions id executed r reading → (steps : List Step) → ArePlain steps → Facts given (actions ++ map (Takes id) steps) id executed r reading
  plain_facts executed r reading h steps plain = record {
    bare = bare_more given actions (map (Takes id) steps) id h.bare (no_start steps plain);
    handed = subst (λ (n : NodeView). IsHanded n.store.applied executed) (sym (flushed_steps steps)) h.handed;
    pend = ap (λ (s : Server). answers_waiting s.waiting) (server_steps given id steps actions) ∙ (answers_steps given steps (server_after given actions id) plain ∙ h.pend);
    reads = reads_more given actions (map (Takes id) steps) id (own_no_crash id (map (Takes id) steps) (steps_own given id steps)) r reading h.reads;
  }

module _ {S : Type 0} (app : Application S) (given : Given) (wf : IsWellFormed given) (actions : List Action) (placed : List Placed) (id : ℕ)
    (asked reading : List Asked) (old new : CoreView S) (out : List (Output S)) (core : IsCore app given actions placed id old asked)
    (reader : IsReader given actions id old reading) where
  abbrev Kept : List Action → Type 0
  Kept took = KeepsReads given actions id reading out new took

  keeps : (took : List Action) → StartsBare (actions ++ took) id → IsHanded (flushed_node given (actions ++ took) id).store.applied new.executed
      → answers_waiting (server_after given (actions ++ took) id).waiting ≡ pending new.reads.rounds → (rs : List Reply) (r : ReadsView)
      → read_replies_of out ≡ rs → new.reads ≡ r → ReadsClosed given (actions ++ took) id reading rs r → Kept took
  keeps took bare handed p rs r e q k = record {
    left = k.left;
    answered = subst (λ (xs : List Reply). AreReadAnswered given (actions ++ took) id reading xs k.left) (sym e) k.answered;
    reader = record {
      bare = bare;
      handed = handed;
      pending_is = p;
      reads = subst (λ (v : ReadsView). AreReads given (actions ++ took) id v k.left) (sym q) k.reads;
    };
  }

  first : Facts given actions id old.executed old.reads reading
  first = record { bare = reader.bare; handed = reader.handed; pend = reader.pending_is; reads = reader.reads }

  -- Plain steps

  module _ (steps : List Step) (plain : ArePlain steps) where
    abbrev took : List Action
    took = map (Takes id) steps

    now : Facts given (actions ++ took) id old.executed old.reads reading
    now = plain_facts given actions id old.executed old.reads reading first steps plain

    keeps_plain : new.executed ≡ old.executed → (rs : List Reply) (r : ReadsView) → read_replies_of out ≡ rs → new.reads ≡ r
        → pending r.rounds ≡ pending old.reads.rounds → ReadsClosed given (actions ++ took) id reading rs r → Kept took
    keeps_plain x rs r e q p k =
        keeps took now.bare (subst (IsHanded (flushed_node given (actions ++ took) id).store.applied) (sym x) now.handed)
        (now.pend ∙ (sym p ∙ ap (λ (v : ReadsView). pending v.rounds) (sym q))) rs r e q k

    keeps_same : new.executed ≡ old.executed → read_replies_of out ≡ [] → new.reads ≡ old.reads → Kept took
    keeps_same x e q = keeps_plain x [] old.reads e q refl (read_none given (actions ++ took) id reading old.reads now.reads)

  pub initializes : Initializes app old out new → (steps : List Step) → AreSteps app steps (initialized app old) → Kept (taking id steps)
  initializes m steps same =
      subst (λ xs. Kept (taking id xs)) (sym (acts_only app old.clock (acts.Initialize ∷ []) (tt, tt) steps same))
      (keeps_same (acts_at old.clock (acts.Initialize ∷ [])) (((λ e. cc), (λ s e. cc)), tt) (ap (λ (v : CoreView S). v.executed) m.1.rest)
      (ap read_replies_of m.0) (ap (λ (v : CoreView S). v.reads) m.1.rest))

  pub ticks : (c : Codec S) (t : Ticks app old out new) (steps : List Step) → AreSteps app steps (ticked app old out new t) → Kept (taking id steps)
  ticks c t steps same =
      let moved : List Step = acts_at new.clock (map act_of t.moves) in
      let plain : ArePlain moved = all_plain new.clock t.moves in
      let refused : ReadsView = refused_left t.answers.gone old.reads in
      subst (λ xs. Kept (taking id xs)) (sym (acts_only app new.clock (map act_of t.moves) (moves_plain t.moves) steps same))
      (keeps_plain moved plain (ap (λ (v : CoreView S). v.executed) t.rest)
      (refused_replies t.answers.gone old.reads ++ failed_replies t.upto refused) (failed_left t.upto refused) (told_by_tick app c old new out t)
      t.answers.reads_left (pending_answered (count_overdue t.upto refused) refused.rounds ∙ pending_refused t.answers.gone old.reads)
      (read_both given _ id reading (refused_replies t.answers.gone old.reads) (failed_replies t.upto refused) refused (failed_left t.upto refused)
      (read_refused given _ id t.answers.gone old.reads reading (now moved plain).reads)
      (λ left h. read_failed given _ id t.upto refused left h)))

  -- a message is taken
  took_message : (m : PackedMessage S) (others : List (Output S)) → new.executed ≡ old.executed
      → (a : AnswersAfter old.executed old.requests (with_heard m.message old.reads) others new.requests new.reads)
      → read_replies_of out ≡ refused_replies a.gone (with_heard m.message old.reads)
      ++ read_replies old.executed (refused_left a.gone (with_heard m.message old.reads))
      → (steps : List Step) → AreSteps app steps (step_taking old.clock m ∷ []) → AllMayAct given (actions ++ taking id steps) (new_cluster given)
      → Kept (taking id steps)
  took_message m others executed_is a said steps same may_now =
      let x : IsTaking app old.clock m steps = is_taking app old.clock m steps same in
      let heard_as : with_heard m.message old.reads ≡ with_heard x.message old.reads =
      ap (λ (y : PackedMessage S). with_heard y.message old.reads) (sym x.brings) ∙ with_heard_bare x.message old.reads in
      taken x.message heard_as (subst (λ xs. AllMayAct given (actions ++ taking id xs) (new_cluster given)) x.steps_are may_now) x.steps_are
    where
      -- by the model's message
      taken : (x : Message) → with_heard m.message old.reads ≡ with_heard x old.reads
          → AllMayAct given (actions ++ taking id (acts_at old.clock (acts.Take x ∷ []))) (new_cluster given)
          → steps ≡ acts_at old.clock (acts.Take x ∷ []) → Kept (taking id steps)
      taken x heard_as may steps_are =
          let taking_it : List Step = acts_at old.clock (acts.Take x ∷ []) in
          let plain : ArePlain taking_it = (((λ e. cc), (λ s e. cc)), tt) in
          let heard : ReadsView = with_heard x old.reads in
          let mid : ReadsView = refused_left a.gone heard in
          let reads : AreReads given (actions ++ map (Takes id) taking_it) id heard reading =
          reads_heard given actions id old.clock x old.reads reading (now taking_it plain).reads in
          let pend : pending mid.rounds ≡ pending old.reads.rounds = pending_refused a.gone heard ∙ pending_heard x old.reads.rounds in
          let told : read_replies_of out ≡ refused_replies a.gone heard ++ read_replies old.executed mid =
          said ∙ ap (λ (v : ReadsView). refused_replies a.gone v ++ read_replies old.executed (refused_left a.gone v)) heard_as in
          let left_is : new.reads ≡ read_left old.executed mid =
          a.reads_left ∙ ap (λ (v : ReadsView). read_left old.executed (refused_left a.gone v)) heard_as in
          subst (λ xs. Kept (taking id xs)) (sym steps_are)
          (keeps_plain taking_it plain executed_is
          (refused_replies a.gone heard ++ read_replies old.executed mid) (read_left old.executed mid) told left_is
          (pending_read old.executed mid ∙ pend)
          (read_both given _ id reading (refused_replies a.gone heard) (read_replies old.executed mid) mid (read_left old.executed mid)
          (read_refused given _ id a.gone heard reading reads)
          (λ left h. read_over given wf (actions ++ map (Takes id) taking_it) may id old.executed mid left h (now taking_it plain).bare
          (now taking_it plain).handed)))

  -- no step is taken, and no read answered
  idle : new.executed ≡ old.executed → read_replies_of out ≡ [] → new.reads ≡ old.reads → (steps : List Step) → AreSteps app steps []
      → Kept (taking id steps)
  idle executed_is said reads_are steps same =
      subst (λ xs. Kept (taking id xs)) (sym (acts_only app old.clock [] tt steps same)) (keeps_same [] tt executed_is said reads_are)

  receives_content : (c : Codec S) (x : PackedContent (Packed S)) (t : TakesContent app c x old out new) (steps : List Step)
      → AreSteps app steps (carried app old out new c x t) → AllMayAct given (actions ++ taking id steps) (new_cluster given) → Kept (taking id steps)
  receives_content c (content.Message m) t steps same may_now =
      took_message (message_of app m) out (ap (λ (v : CoreView S). v.executed) t.rest) t.answers (told_by_message app c (message_of app m) old new out t)
      steps same may_now
  receives_content c (content.Part x) (inl k) steps same may_now =
      idle (ap (λ (v : CoreView S). v.executed) k.rest) (ap read_replies_of k.leaves) (ap (λ (v : CoreView S). v.reads) k.rest) steps same
  receives_content c (content.Part x) (inr t) steps same may_now =
      let m : PackedMessage S = record { message = x.message; brought = t.snapshot } in
      let mid : CoreView S = record old { incoming = assembled t.comes } in
      took_message m t.others (ap (λ (v : CoreView S). v.executed) t.takes.rest) t.takes.answers
      (ap read_replies_of t.leaves ∙ told_by_message app c m mid new t.others t.takes) steps same may_now

  pub receives : (c : Codec S) (bytes : List ℕ) (r : Receives app c bytes old out new) (steps : List Step)
      → AreSteps app steps (received app old out new c bytes r) → AllMayAct given (actions ++ taking id steps) (new_cluster given)
      → Kept (taking id steps)
  receives c bytes (frames.Packet p, is, t) steps same may_now = receives_content c p.content t steps same may_now
  receives c bytes (frames.PartReply reply, is, t) steps same may_now =
      idle (ap (λ (v : CoreView S). v.executed) t.rest) (none_went c old.start old.outgoing out t.leaves) (ap (λ (v : CoreView S). v.reads) t.rest)
      steps same
  receives c bytes (frames.PreVote ask, is, t) steps same may_now =
      subst (λ xs. Kept (taking id xs)) (sym (acts_only app old.clock [] tt steps same))
      (keeps_same [] tt (ap (λ (v : CoreView S). v.executed) t.rest) (ap read_replies_of t.leaves ∙ none_granted S t.replies)
      (ap (λ (v : CoreView S). v.reads) t.rest))
  receives c bytes (frames.PreVoteReply reply, is, t) steps same may_now =
      subst (λ xs. Kept (taking id xs)) (sym (acts_only app old.clock (map act_of t.moves) (moves_plain t.moves) steps same))
      (keeps_same (acts_at old.clock (map act_of t.moves)) (all_plain old.clock t.moves) (ap (λ (v : CoreView S). v.executed) t.moved.rest)
      (ap read_replies_of t.leaves) (ap (λ (v : CoreView S). v.reads) t.moved.rest))

-- Writes

read_by : (id : ℕ) (e : EngineView) (a : node_answer.Answer) → read_answer id e ≡ Some a → a.node ≡ id
read_by id e a q = go (is_some (read_refusal e)) e.machine.leader q
  where
    go : (b : Bool) (o : Option WorldLeader) → (if b then None else option_map (λ l. answer_by id l e) o) ≡ Some a → a.node ≡ id
    go true o q = cc
    go false None q = cc
    go false (Some l) q = let z : answer_by id l e ≡ a = cc in ap (λ (x : node_answer.Answer). x.node) (sym z)

-- a free server's steps that wait say no answer
none_pending : (os : List RoundView) → list_all (λ o. o.left) os ≡ true → pending os ≡ []
none_pending [] e = refl
none_pending (o ∷ os) e =
    let p = and_parts o.left (list_all (λ x. x.left) os) e in
    ap (λ (b : Bool). if b then pending os else o.answer ∷ pending os) p.0 ∙ none_pending os p.1

-- those under way, and behind them one that begins: its answer alone waits
pending_begun : (r : ReadsView) → is_free r ≡ true → (o : RoundView) → o.left ≡ false → pending (under_way r.rounds ++ o ∷ []) ≡ o.answer ∷ []
pending_begun r e o l = by (nat_eq (asked_for r.rounds) 0)
  where
    waits : pending (o ∷ []) ≡ o.answer ∷ []
    waits = ap (λ (b : Bool). if b then [] else o.answer ∷ []) l

    behind : (os : List RoundView) → list_all (λ x. x.left) os ≡ true → pending (os ++ o ∷ []) ≡ o.answer ∷ []
    behind [] q = waits
    behind (x ∷ os) q =
        let p = and_parts x.left (list_all (λ y. y.left) os) q in
        ap (λ (b : Bool). if b then pending (os ++ o ∷ []) else x.answer ∷ pending (os ++ o ∷ [])) p.0 ∙ behind os p.1

    all_left : list_all (λ x. x.left) r.rounds ≡ true
    all_left =
        (and_parts (list_all (λ x. x.left) r.rounds) (nat_lt (asked_for r.rounds) (length r.readers) && (nat_eq (asked_for r.rounds) 0 || nat_lt (length r.rounds) most_rounds)) e).0

    by : (b : Bool) → pending ((if b then [] else r.rounds) ++ o ∷ []) ≡ o.answer ∷ []
    by true = waits
    by false = behind r.rounds all_left

-- those that are under way are among the rounds
all_under_way : (P : RoundView → Type 0) (os : List RoundView) → AllByRecursion P os → AllByRecursion P (under_way os)
all_under_way P os h = by (nat_eq (asked_for os) 0)
  where
    by : (b : Bool) → AllByRecursion P (if b then [] else os)
    by true = tt
    by false = h

module _ {S : Type 0} (app : Application S) (given : Given) (wf : IsWellFormed given) (actions : List Action)
    (may : AllMayAct given actions (new_cluster given)) (id : ℕ) (member : Contains given.ids id) where
  abbrev server : Server
  server = server_after given actions id

  moment_is : (v : Option (Serving S)) (s : Server) → StandsFor app (server_packed app s) v → moment_in v ≡ s.node.moment
  moment_is None s h = absurd h
  moment_is (Some v) s h = ap (λ (n : PackedNode S). n.moment) h.node

  own_node : server.node.id ≡ id
  own_node =
      let follows : (es : List Event) × Follows given es (after_actions given actions (new_cluster given)) = servers_follow given actions may in
      let a : (more : List Event) × (node_at (world_after given (follows.0 ++ more)).nodes id ≡ Some server.node) = ahead given follows.0 (after_actions given actions (new_cluster given)) id member follows.1 in
      node_id (world_after given (follows.0 ++ a.0)).nodes id server.node a.1

  rests : (e : EngineView) → server.node.engine ≡ Some e → e.machine.core.output.items ≡ []
  rests e q = let r : IsResting e = subst IsRestingWhereRunning q (nodes_rest given wf actions may id member).resting in r.queue

  -- the server's node, which runs
  bare_engine_is : option_map bare_engine server.node.engine ≡ server.node.engine
  bare_engine_is = engine_bare server.node.engine (go server.node.engine rests)
    where
      go : (o : Option EngineView) → ((e : EngineView) → o ≡ Some e → e.machine.core.output.items ≡ [])
          → IfSome o (λ e. e.machine.core.output.items ≡ [])
      go None f = tt
      go (Some e) f = f e refl

  engine_is : (v : Option (Serving S)) → StandsFor app (server_packed app server) v → (e : EngineView) → engine_in v ≡ Some e
      → server.node.engine ≡ Some e
  engine_is None s e q = absurd s
  engine_is (Some v) s e q = sym bare_engine_is ∙ (ap (λ (n : PackedNode S). n.engine) (sym s.node) ∙ q)

  -- the step that asks
  module _ (at own : ℕ) (own_is : own ≡ id) (view : ServerView S) (same : view.given ≡ given) (stands : Represents app (server_packed app server) view)
      (old : ReadsView)
      (view' : ServerView S) (new : ReadsView) (asks : AsksNode app at own view old view' new) where
    abbrev step : Step
    step = record { act = acts.Read; at = at }

    abbrev after : List Action
    after = actions ++ Takes id step ∷ []

    runs : server.node.engine ≡ Some asks.engine
    runs = engine_is view.serving stands asks.engine asks.runs

    server_now : server_after given after id ≡ with_step given step server
    server_now = server_steps given id (step ∷ []) actions

    may_after : AllMayAct given after (new_cluster given)
    may_after = may_both given actions (Takes id step ∷ []) (new_cluster given) may ((member, tt), tt)

    stands_now : Represents app (server_packed app (server_after given after id)) view'
    stands_now =
        stands_after app given wf id member (step ∷ []) (steps_at app at (acts.Read ∷ [])) refl actions may_after view'
        (subst (λ g. Represents app (with_steps app g (steps_at app at (acts.Read ∷ [])) (server_packed app server)) view') same
        (asks.takes.steps (server_packed app server) stands))

    says : read_answer server.node.id asks.engine ≡ Some asks.answer
    says = subst (λ n. read_answer n asks.engine ≡ Some asks.answer) (own_is ∙ sym own_node) asks.answers

    answered : (outputs_of given server.node step).answers ≡ asks.answer ∷ []
    answered = ap (λ (r : Records (List Entry)). r.answers) (read_says given server.node at asks.engine runs (rests asks.engine runs)) ∙ ap option_to_list says

    then_is : node_then given after (length actions) id ≡ server.node
    then_is = ap (λ (s : Server). s.node) (server_there given actions (Takes id step ∷ []) id)

    moment_now : moment_in view'.serving ≡ (node_after given server.node step).moment
    moment_now = moment_is view'.serving (server_after given after id) stands_now ∙ ap (λ (s : Server). s.node.moment) server_now

    no_crash : NoCrash id (Takes id step ∷ [])
    no_crash = own_no_crash id (Takes id step ∷ []) (refl, tt)

    is_asked_for : IsAskedFor given after id (length actions) asks.answer (moment_in view'.serving) asks.engine.machine.core.state.em.membership.groups (asks.answer.node ∷ [])
    is_asked_for = record {
      step = step;
      takes = slot_last actions (Takes id step);
      is = refl;
      answered = ap (λ (n : NodeView). (outputs_of given n step).answers) then_is ∙ answered;
      moment_is = moment_now ∙ ap (λ (n : NodeView). (node_after given n step).moment) (sym then_is);
      groups_are = ap (λ (m : Members ℕ (Unit {0})). m.groups) (groups_are given wf actions may id member asks.engine runs) ∙ ap (λ (n : NodeView). (effective_in n.store).groups) (sym then_is);
      hears = (inl (read_by server.node.id asks.engine asks.answer says ∙ own_node), tt);
      runs = λ number k c l e.
          ⊎_elim
          (λ q. let m : number < length actions = slot_below actions number (Crashes id k c) q in absurd (omega (arith, l, m)))
          (λ q. let m : number ≡ length actions = q.0 in absurd (omega (arith, l, m)))
          (slot_cases actions (Takes id step) number (Crashes id k c) e);
    }

    all_came : (xs : List Reader) (asked : List Asked) → AllPairs (IsOpenRead given actions id) xs asked → AllByRecursion (λ a. a.came ≤ length actions) asked
    all_came [] [] h = tt
    all_came [] (a ∷ asked) h = absurd h
    all_came (x ∷ xs) [] h = absurd h
    all_came (x ∷ xs) (a ∷ asked) h = (h.0.came, all_came xs asked h.1)

    all_first : {A : Type 0} (P : A → Type 0) (k : ℕ) (xs : List A) → AllByRecursion P xs → AllByRecursion P (take k xs)
    all_first P k xs h = all_in P (take k xs) (λ x c. element P xs x h (contains_take k xs x c))

    -- a round of all that wait begins
    pub asked_reads : (reading : List Asked) → AreReads given actions id old reading → AreReads given after id new reading
    asked_reads reading h =
        let b : AreReads given after id old reading = reads_more given actions (Takes id step ∷ []) id no_crash old reading h in
        let n : length old.readers ≡ length reading = pairs_long (IsOpenRead given actions id) old.readers reading h.open_are in
        subst (λ (r : ReadsView). AreReads given after id r reading) (sym asks.begins) (record {
          open_are = b.open_are;
          rounds = all_append (IsRound given after id reading) (under_way old.rounds) (round_of asks.answer (moment_in view'.serving) asks.engine.machine.core.state.em.membership.groups (length old.readers) ∷ [])
              (all_under_way (IsRound given after id reading) old.rounds b.rounds) (
                record {
                  read = length actions;
                  is_asked_for = is_asked_for;
                  count = omega (arith, n);
                  came = all_first (λ (a : Asked). a.came ≤ length actions) (length old.readers) reading (all_came old.readers reading h.open_are);
                  on_disk = λ l. cc;
                },
                tt,
              );
          one = subst (λ (xs : List node_answer.Answer). length xs ≤ 1) (sym (pending_begun old asks.free (round_of asks.answer (moment_in view'.serving) asks.engine.machine.core.state.em.membership.groups (length old.readers)) refl))
              (omega arith);
        })

    -- and its answer is the only one that waits
    pub asked_pending : answers_waiting server.waiting ≡ pending old.rounds → answers_waiting (server_after given after id).waiting ≡ pending new.rounds
    asked_pending h =
        ap (λ (s : Server). answers_waiting s.waiting) server_now
        ∙ (answers_step given server step
        ∙ (ap (λ xs. xs ++ (outputs_of given server.node step).answers) (h ∙ none_pending old.rounds all_left)
        ∙ (answered
        ∙ (sym (pending_begun old asks.free (round_of asks.answer (moment_in view'.serving) asks.engine.machine.core.state.em.membership.groups (length old.readers)) refl)
        ∙ ap (λ (r : ReadsView). pending r.rounds) (sym asks.begins)))))
      where
        all_left : list_all (λ o. o.left) old.rounds ≡ true
        all_left =
            (and_parts (list_all (λ o. o.left) old.rounds) (nat_lt (asked_for old.rounds) (length old.readers) && (nat_eq (asked_for old.rounds) 0 || nat_lt (length old.rounds) most_rounds)) asks.free).0

    pub asked_bare : StartsBare actions id → StartsBare after id
    asked_bare h = bare_more given actions (Takes id step ∷ []) id h no_start
      where
        no_start : (j when : ℕ) (start : Start) → slice_get (Takes id step ∷ []) j ≢ Some (Takes id (record { act = acts.Restart start; at = when }))
        no_start zero when start e = let z : step ≡ record { act = acts.Restart start; at = when } = cc in let y : acts.Read ≡ acts.Restart start = ap (λ (x : Step). x.act) z in cc
        no_start (suc j) when start e = cc

module _ {S : Type 0} (app : Application S) (given : Given) (wf : IsWellFormed given) (actions : List Action)
    (may : AllMayAct given actions (new_cluster given))
    (placed : List Placed) (id : ℕ) (asked reading : List Asked) (old new : CoreView S) (out : List (Output S))
    (core : IsCore app given actions placed id old asked) (reader : IsReader given actions id old reading) (c : Codec S) where
  module _ (w : WritesNow app c old out new) where
    abbrev left : List Asked
    left = left_of w.refuses.gone reading

    abbrev asks_of : Asks app old.clock old.id old.server w.reads w.asked new.reads → List Step
    asks_of a = acts_at old.clock (asked_acts app old.clock old.id old.server w.reads w.asked new.reads a)

    abbrev proposes_of : Proposes app old.clock w.asked w.kept w.lost w.server new.requests w.replies → List Step
    proposes_of p = acts_at old.clock (proposed_acts app old.clock w.asked w.kept w.lost w.server new.requests w.replies p)

    abbrev first_steps : List Step
    first_steps = asks_of w.asks

    abbrev next_steps : List Step
    next_steps = proposes_of w.proposes

    abbrev taken : List Action
    taken = map (Takes id) (first_steps ++ next_steps)

    proposed_plain : (p : Proposes app old.clock w.asked w.kept w.lost w.server new.requests w.replies) → ArePlain (proposes_of p)
    proposed_plain (inl none) = tt
    proposed_plain (inr (inl all)) = tt
    proposed_plain (inr (inr (first, next, b))) = (((λ e. cc), (λ s e. cc)), tt)

    -- the call's steps are these, packed, and no others are
    steps_are : (steps : List Step) → AreSteps app steps (written app c old out new (inr w)) → steps ≡ first_steps ++ next_steps
    steps_are steps same =
        let first : List Act = asked_acts app old.clock old.id old.server w.reads w.asked new.reads w.asks in
        let next : List Act = proposed_acts app old.clock w.asked w.kept w.lost w.server new.requests w.replies w.proposes in
        let a = asked_are app old.clock old.id old.server w.reads w.asked new.reads w.asks in
        let p = proposed_are app old.clock w.asked w.kept w.lost w.server new.requests w.replies w.proposes in
        let both : written app c old out new (inr w) ≡ steps_at app old.clock (first ++ next) =
        (λ i. a.0 i ++ p.0 i) ∙ sym (map-append (step_at app old.clock) first next) in
        acts_only app old.clock (first ++ next) (all_append TakesNone first next a.1 p.1) steps (same ∙ both)
        ∙ map-append (λ (act : Act). let s : Step = record { act = act; at = old.clock } in s) first next

    refused : Facts given actions id old.executed w.reads left
    refused = record {
      bare = reader.bare;
      handed = reader.handed;
      pend = reader.pending_is ∙ (sym (pending_refused w.refuses.gone old.reads) ∙ ap (λ (r : ReadsView). pending r.rounds) (sym w.refuses.left));
      reads = subst (λ (r : ReadsView). AreReads given actions id r left) (sym w.refuses.left)
          (refused_reads given actions id w.refuses.gone old.reads reading reader.reads);
    }

    after_asking : (a : Asks app old.clock old.id old.server w.reads w.asked new.reads)
        → Facts given (actions ++ map (Takes id) (asks_of a)) id old.executed new.reads left
    after_asking (inl none) =
        subst (λ (r : ReadsView). Facts given (actions ++ []) id old.executed r left) (sym none.1)
        (plain_facts given actions id old.executed w.reads left refused [] tt)
    after_asking (inr asks) =
        let step : Step = record { act = acts.Read; at = old.clock } in
        record {
          bare = asked_bare app given wf actions may id core.member old.clock old.id core.own old.server core.given_is core.stands w.reads w.asked
              new.reads asks
              reader.bare;
          handed = subst (λ (n : NodeView). IsHanded n.store.applied old.executed) (sym (flushed_steps given actions id (step ∷ []))) reader.handed;
          pend = asked_pending app given wf actions may id core.member old.clock old.id core.own old.server core.given_is core.stands w.reads w.asked
              new.reads
              asks refused.pend;
          reads = asked_reads app given wf actions may id core.member old.clock old.id core.own old.server core.given_is core.stands w.reads w.asked
              new.reads
              asks left refused.reads;
        }

    same : (actions ++ map (Takes id) first_steps) ++ map (Takes id) next_steps ≡ actions ++ taken
    same =
        append_assoc actions (map (Takes id) first_steps) (map (Takes id) next_steps)
        ∙ ap (λ xs. actions ++ xs) (sym (map-append (Takes id) first_steps next_steps))

    facts : Facts given (actions ++ taken) id old.executed new.reads left
    facts =
        subst (λ xs. Facts given xs id old.executed new.reads left) same
        (plain_facts given (actions ++ map (Takes id) first_steps) id old.executed new.reads left (after_asking w.asks) next_steps
        (proposed_plain w.proposes))

    executed_is : new.executed ≡ old.executed
    executed_is = ap (λ (v : CoreView S). v.executed) w.rest

    writes_now : KeepsReads given actions id reading out new taken
    writes_now = record {
      left = left;
      answered = subst (λ (rs : List Reply). AreReadAnswered given (actions ++ taken) id reading rs left) (sym (told_by_write app c old new out w))
          (refused_answered given (actions ++ taken) id w.refuses.gone old.reads reading
          (reads_more given actions taken id (own_no_crash id taken (steps_own given id (first_steps ++ next_steps))) old.reads reading
          reader.reads));
      reader = record {
        bare = facts.bare;
        handed = subst (IsHanded (flushed_node given (actions ++ taken) id).store.applied) (sym executed_is) facts.handed;
        pending_is = facts.pend;
        reads = facts.reads;
      };
    }

  pub writes : (w : Writes app c old out new) (steps : List Step) → AreSteps app steps (written app c old out new w)
      → KeepsReads given actions id reading out new (taking id steps)
  writes (inl none) steps same =
      subst (λ xs. KeepsReads given actions id reading out new (taking id xs)) (sym (acts_only app old.clock [] tt steps same))
      (keeps_same app given wf actions placed id asked reading old new out core reader [] tt (ap (λ (v : CoreView S). v.executed) none.1)
      (ap read_replies_of none.0) (ap (λ (v : CoreView S). v.reads) none.1))
  writes (inr w) steps same =
      subst (λ xs. KeepsReads given actions id reading out new (taking id xs)) (sym (steps_are w steps same)) (writes_now w)

-- Releases

last_both : (last : Option ℕ) (xs ys : List Executed) → last_index last (xs ++ ys) ≡ last_index (last_index last xs) ys
last_both last [] ys = refl
last_both last (x ∷ xs) ys = last_both (Some x.entry.log_id.index) xs ys

-- what so many steps execute is handed out
handed_all : (given : Given) → IsWellFormed given → (id : ℕ) → Contains given.ids id → (k : ℕ) (actions : List Action) → AllMayAct given actions (new_cluster given) → StartsBare actions id → (last : Option ℕ)
    → IsHanded (flushed_node given actions id).store.applied last → (said_all (take k (server_after given actions id).waiting)).installed ≡ []
    → IsHanded (flushed_node given (actions ++ flushes id k) id).store.applied
    (last_index last (said_all (take k (server_after given actions id).waiting)).executed)
handed_all given wf id member zero actions may bare last h none = go (server_after given actions id).waiting
  where
    go : (ws : List WaitingStep) → IsHanded (flushed_node given (actions ++ []) id).store.applied (last_index last (said_all (take 0 ws)).executed)
    go [] = subst (λ xs. IsHanded (flushed_node given xs id).store.applied last) (sym (append-nil actions)) h
    go (w ∷ ws) = subst (λ xs. IsHanded (flushed_node given xs id).store.applied last) (sym (append-nil actions)) h
handed_all given wf id member (suc k) actions may bare last h none =
    subst (λ xs. IsHanded (flushed_node given xs id).store.applied
    (last_index last (said_all (take (suc k) (server_after given actions id).waiting)).executed)) split
    (go (server_after given actions id).waiting refl none (λ l. handed_all given wf id member k (actions ++ Flushes id ∷ []) (may_flush given actions id 1 member may) bare_after l))
  where
    split : (actions ++ Flushes id ∷ []) ++ flushes id k ≡ actions ++ flushes id (suc k)
    split = append_assoc actions (Flushes id ∷ []) (flushes id k)

    bare_after : StartsBare (actions ++ Flushes id ∷ []) id
    bare_after = bare_more given actions (Flushes id ∷ []) id bare no_one
      where
        no_one : (j at : ℕ) (start : Start) → slice_get (Flushes id ∷ []) j ≢ Some (Takes id (record { act = acts.Restart start; at = at }))
        no_one zero at start e = cc
        no_one (suc j) at start e = cc

    front : {A : Type 0} (xs ys : List A) → xs ++ ys ≡ [] → xs ≡ []
    front [] ys e = refl
    front (x ∷ xs) ys e = cc

    behind : {A : Type 0} (xs ys : List A) → xs ++ ys ≡ [] → ys ≡ []
    behind [] ys e = e
    behind (x ∷ xs) ys e = cc

    go : (xs : List WaitingStep) → (server_after given actions id).waiting ≡ xs → (said_all (take (suc k) xs)).installed ≡ []
        → ((l : Option ℕ) → IsHanded (flushed_node given (actions ++ Flushes id ∷ []) id).store.applied l
        → (said_all (take k (server_after given (actions ++ Flushes id ∷ []) id).waiting)).installed ≡ []
        → IsHanded (flushed_node given ((actions ++ Flushes id ∷ []) ++ flushes id k) id).store.applied
        (last_index l (said_all (take k (server_after given (actions ++ Flushes id ∷ []) id).waiting)).executed))
        → IsHanded (flushed_node given ((actions ++ Flushes id ∷ []) ++ flushes id k) id).store.applied
        (last_index last (said_all (take (suc k) xs)).executed)
    go [] q n rest =
        let still : (server_after given (actions ++ Flushes id ∷ []) id).waiting ≡ [] = ap (λ (s : Server). s.waiting) (none_flushed given actions id q) ∙ q in
        let empty : said_all (take k (server_after given (actions ++ Flushes id ∷ []) id).waiting) ≡ said_all [] =
        ap (λ ws. said_all (take k ws)) still ∙ ap said_all (none_taken k) in
        subst (λ (o : Records (List Entry)). IsHanded (flushed_node given ((actions ++ Flushes id ∷ []) ++ flushes id k) id).store.applied
        (last_index last o.executed)) empty
        (rest last (subst (λ (m : NodeView). IsHanded m.store.applied last) (sym (flushed_still given actions id q)) h)
        (ap (λ (o : Records (List Entry)). o.installed) empty))
      where
        none_taken : (m : ℕ) → ◌≡◌ {A = List WaitingStep} (take m []) []
        none_taken zero = refl
        none_taken (suc m) = refl
    go (w ∷ ws) q n rest =
        let now : (server_after given (actions ++ Flushes id ∷ []) id).waiting ≡ ws = ap (λ (s : Server). s.waiting) (server_flushed given actions id w ws q) in
        let first : IsHanded (flushed_node given (actions ++ Flushes id ∷ []) id).store.applied (last_index last w.outputs.executed) =
        handed_flush given wf id member actions may bare w ws q last (front w.outputs.installed (said_all (take k ws)).installed n) h in
        let same : said_all (take k (server_after given (actions ++ Flushes id ∷ []) id).waiting) ≡ said_all (take k ws) =
        ap (λ vs. said_all (take k vs)) now in
        subst (IsHanded (flushed_node given ((actions ++ Flushes id ∷ []) ++ flushes id k) id).store.applied)
        (sym (last_both last w.outputs.executed (said_all (take k ws)).executed))
        (subst (λ (o : Records (List Entry)). IsHanded (flushed_node given ((actions ++ Flushes id ∷ []) ++ flushes id k) id).store.applied
        (last_index (last_index last w.outputs.executed) o.executed)) same
        (rest (last_index last w.outputs.executed) first
        (ap (λ (o : Records (List Entry)). o.installed) same ∙ behind w.outputs.installed (said_all (take k ws)).installed n)))

-- the answer of the last round leaves
pending_left : (said rest : List node_answer.Answer) (r : ReadsView) → length (pending r.rounds) ≤ 1 → said ++ rest ≡ pending r.rounds → rest ≡ pending (with_left said r).rounds
pending_left [] rest r l e = e
pending_left (a ∷ said) rest r l e = behind said rest (length_none (said ++ rest) (let n : length (a ∷ (said ++ rest)) ≡ length (pending r.rounds) = ap (λ (xs : List node_answer.Answer). length xs) e in omega (arith, n, l))) ∙ sym (none_left r.rounds)
  where
    behind : (xs ys : List node_answer.Answer) → xs ++ ys ≡ [] → ys ≡ []
    behind [] ys q = q
    behind (x ∷ xs) ys q = cc

    length_none : (xs : List node_answer.Answer) → length xs ≤ 0 → xs ≡ []
    length_none [] q = refl
    length_none (x ∷ xs) q = absurd (omega (arith, q))

flushes_start_none : (id k j at : ℕ) (start : Start) → slice_get (flushes id k) j ≢ Some (Takes id (record { act = acts.Restart start; at = at }))
flushes_start_none id zero j at start e = cc
flushes_start_none id (suc k) zero at start e = cc
flushes_start_none id (suc k) (suc j) at start e = flushes_start_none id k j at start e

module _ {S : Type 0} (app : Application S) (c : Codec S) (given : Given) (wf : IsWellFormed given) (actions : List Action)
    (may : AllMayAct given actions (new_cluster given)) (placed : List Placed) (id : ℕ) (asked reading : List Asked) (old new : CoreView S)
    (out : List (Output S)) (core : IsCore app given actions placed id old asked) (reader : IsReader given actions id old reading) (position : ℕ)
    (r : Releases app c position old out new) where
  abbrev count : ℕ
  count = released position old

  abbrev flushed : List Action
  flushed = flushes id count

  abbrev upto : List Action
  upto = actions ++ flushed

  abbrev executed : Option ℕ
  executed = handed_after r.said old.executed

  abbrev mid : ReadsView
  mid = with_left r.said.answers old.reads

  -- what the model's steps said that leave
  abbrev theirs : Records (List Entry)
  theirs = said_all (take count (server_after given actions id).waiting)

  said_is : r.said ≡ packed_records app theirs
  said_is =
      let z : (r.said ≡ said_by (take count (server_packed app (server_after given actions id)).waiting))
      × Represents app (packed_flushed_first app count (server_packed app (server_after given actions id))) new.server =
      r.flushes (server_packed app (server_after given actions id)) core.stands in
      z.0 ∙ said_first app count (server_after given actions id)

  -- a snapshot that the model installed, packed
  abbrev installing : Installed → PackedInstalled S
  installing x = record { node = x.node; snapshot = packed app x.entries }

  none_installed : (xs : List Installed) → map installing xs ≡ [] → xs ≡ []
  none_installed [] q = refl
  none_installed (x ∷ xs) q = cc

  handed : IsHanded (flushed_node given upto id).store.applied executed
  handed = go r.said.installed refl
    where
      go : (xs : List (PackedInstalled S)) → r.said.installed ≡ xs
          → IsHanded (flushed_node given upto id).store.applied
          (elim xs as (λ _. Option ℕ) [ [] ↦ last_index old.executed r.said.executed | y ∷ ys ↦ None ])
      go [] q =
          subst (λ (o : PackedRecords S). IsHanded (flushed_node given upto id).store.applied (last_index old.executed o.executed)) (sym said_is)
          (handed_all given wf id core.member count actions may reader.bare old.executed reader.handed
          (none_installed theirs.installed (ap (λ (o : PackedRecords S). o.installed) (sym said_is) ∙ q)))
      go (y ∷ ys) q = tt

  pend : answers_waiting (server_after given upto id).waiting ≡ pending mid.rounds
  pend =
      pending_left r.said.answers (answers_waiting (server_after given upto id).waiting) old.reads reader.reads.one
      (ap (λ (xs : List node_answer.Answer). xs ++ answers_waiting (server_after given upto id).waiting)
      (ap (λ (o : PackedRecords S). o.answers) said_is ∙ said_answers (take count (server_after given actions id).waiting))
      ∙ (ap (λ (s : Server). answers_waiting (take count (server_after given actions id).waiting) ++ answers_waiting s.waiting)
      (all_flushed given count actions id)
      ∙ (sym (answers_flushed count (server_after given actions id)) ∙ reader.pending_is)))

  reads : AreReads given upto id mid reading
  reads =
      reads_left_by given upto id r.said.answers old.reads reading
      (reads_more given actions flushed id (own_no_crash id flushed (flushes_own id count)) old.reads reading reader.reads) pend

  bare : StartsBare upto id
  bare = bare_more given actions flushed id reader.bare (flushes_start_none id count)

  pub releases : KeepsReads given actions id reading out new (flushes id (released position old))
  releases =
      let k : ReadsClosed given upto id reading (read_replies executed mid) (read_left executed mid) =
      read_over given wf upto (may_flush given actions id count core.member may) id executed mid reading reads bare handed in
      keeps app given wf actions placed id asked reading old new out core reader flushed bare
      (subst (IsHanded (flushed_node given upto id).store.applied) (sym (ap (λ (v : CoreView S). v.executed) r.rest)) handed)
      (pend ∙ (sym (pending_read executed mid) ∙ ap (λ (v : CoreView S). pending v.reads.rounds) (sym r.rest))) (read_replies executed mid)
      (read_left executed mid) (told_by_release app c position old new out r) (ap (λ (v : CoreView S). v.reads) r.rest) k

-- a read that is taken
pub admits_read : {S : Type 0} → AdmitsOneRead S
admits_read {S} given actions id reading old new token number h a =
    let one : Asked = record { number = number; token = token; operation = Read; came = length actions } in
    let x : Reader = record { token = token; since = old.clock } in
    record {
      bare = h.bare;
      handed = subst (IsHanded (flushed_node given actions id).store.applied) (sym (ap (λ (v : CoreView S). v.executed) a)) h.handed;
      pending_is = h.pending_is ∙ ap (λ (v : CoreView S). pending v.reads.rounds) (sym a);
      reads = subst (λ (r : ReadsView). AreReads given actions id r (reading ++ one ∷ [])) (sym (ap (λ (v : CoreView S). v.reads) a)) (record {
        open_are = pairs_append (IsOpenRead given actions id) old.reads.readers reading (x ∷ []) (one ∷ []) h.reads.open_are (record { token = refl; came = omega arith }, tt);
        rounds = all_in (IsRound given actions id (reading ++ one ∷ [])) old.reads.rounds (λ o c.
            let k : IsRound given actions id reading o = element (IsRound given actions id reading) old.reads.rounds o h.reads.rounds c in
            record {
              read = k.read;
              is_asked_for = k.is_asked_for;
              count = (let l = k.count in let n : length (reading ++ one ∷ []) ≡ length reading + 1 = length-append reading (one ∷ []) in omega (arith, l, n));
              came = subst (AllByRecursion (λ (a : Asked). a.came ≤ k.read)) (sym (take_more reading (one ∷ []) o.asked k.count)) k.came;
              on_disk = k.on_disk;
            });
        one = h.reads.one;
      });
    }

pub reads_are_kept : {S : Type 0} (app : Application S) (c : Codec S) → ReadsAreKept app c
reads_are_kept app c = record {
  initializes = λ given wf actions may placed id asked reading old new out core reader d steps same may_now.
      initializes app given wf actions placed id asked reading old new out core reader d steps same;
  ticks = λ given wf actions may placed id asked reading old new out core reader d steps same may_now.
      ticks app given wf actions placed id asked reading old new out core reader c d steps same;
  receives = λ bytes given wf actions may placed id asked reading old new out core reader d steps same may_now.
      receives app given wf actions placed id asked reading old new out core reader c bytes d steps same may_now;
  writes = λ given wf actions may placed id asked reading old new out core reader d steps same may_now.
      writes app given wf actions may placed id asked reading old new out core reader c d steps same;
  releases = λ position given wf actions may placed id asked reading old new out core reader d.
      releases app c given wf actions may placed id asked reading old new out core reader position d;
  admits_read = admits_read;
}
