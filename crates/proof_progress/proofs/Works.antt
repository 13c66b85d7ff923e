-- What a node at work makes of the queue of an election, of a grant, and of a leader's.
use Rattle.std.proofs.Common.{ℕ, ◌≡◌, Bool, true, false, ◌&&◌, List, [], ◌∷◌, ◌++◌, refl, sym, ap, ◌∙◌, Option, None, Some}
use Rattle.std.specs.Prelude.{◌==◌, if◌then◌else◌, is_none, is_some}
use Rattle.std.specs.declared.cmp.Ordering.TheVariants.{Equal}
use Rattle.std.specs.Ordering.{bool_cmp, is_eq, nat_cmp}
use Rattle.proof_deeds.specs.raft_state.declared.ids.LeaderId.{LeaderId}
use Rattle.proof_deeds.specs.raft_state.declared.ids.Vote.{Vote}
use Rattle.proof_deeds.specs.raft_state.declared.state.ServerState.{ServerState}
use Rattle.proof_deeds.specs.raft_state.declared.state.ServerState.TheVariants.{Candidate, Follower, Leader, Learner}
use Rattle.proof_deeds.specs.raft_state.Order.{next, vote_cmp}
use Rattle.proof_deeds.specs.raft_progress.Quorum.{is_quorum}
use Rattle.proof_deeds.specs.raft_progress.Table.{get, is_in}
use Rattle.proof_deeds.specs.raft_error.declared.error.EngineError.{EngineError}
use Rattle.proof_deeds.specs.raft_error.Number.{first_refusal}
use Rattle.proof_deeds.specs.raft_command.Message.{is_granted_to}
use Rattle.proof_deeds.specs.raft_command.declared.command.Command.TheVariants.{SaveVote, SendVote}
use Rattle.proof_deeds.specs.raft_command.declared.config.EngineConfig.{EngineConfig}
use Rattle.proof_deeds.specs.raft_command.declared.message.VoteRequest.{VoteRequest}
use Rattle.proof_deeds.specs.raft_command.declared.message.VoteResponse.{VoteResponse}
use Rattle.proof_deeds.specs.raft_proposer.Candidate.{grant_by, is_granted}
use Rattle.proof_deeds.specs.raft_proposer.Joint.{u64_max}
use Rattle.proof_deeds.specs.raft_steps.Engine.{handle_vote_resp, may_establish}
use Rattle.proof_deeds.specs.raft_steps.Refusals.{refusals_of_vote_resp}
use Rattle.proof_deeds.specs.raft_store.declared.entry.Entry.{Entry}
use Rattle.proof_deeds.specs.raft_store.Entries.{entry_meaning}
use Rattle.proof_deeds.specs.raft_store.Types.{EngineView, WorldCandidate, WorldCommand, WorldMachine}
use Rattle.proof_deeds.specs.raft_calls.declared.message.Body.TheVariants as body
use Rattle.proof_deeds.specs.raft_node.declared.node.Turn.{Turn}
use Rattle.proof_deeds.specs.raft_calls.Deliveries.{vote_reply}
use Rattle.proof_deeds.specs.raft_node.Execute.{Effects, others, sending, to_each}
use Rattle.proof_deeds.specs.raft_calls.Feeds.{asks_itself, called, feed, grant_own, own_grant}
use Rattle.proof_deeds.specs.raft_node.Runs.{whole_logs}
use Rattle.proof_deeds.specs.raft_node.Work.{Work, weight, worked}
use Rattle.proof_deeds.specs.raft_calls.Engines.{with_queue}
use Rattle.proof_deeds.proofs.raft_node_proofs.Worked.{worked-idle, worked-step}
use Rattle.proof_progress.specs.Elections.{pending}
use Rattle.proof_progress.proofs.Images.{asking, grant_reply, granted_with, quits, standing, streams_after, stood, stood_request, stood_vote}
use Rattle.proof_progress.proofs.Elects.{and_yes, if_true, itself}
use Rattle.proof_progress.proofs.Wins.{counts, waits_on}

abbrev pub Effected : Type 0
Effected = Effects (List Entry)

-- a node at work that doesn't stop
abbrev pub at_work : EngineView → Effected → Work (List Entry)
at_work e E = record { engine = Some e; effects = E; left = None }

-- an engine with other items queued
abbrev pub queueing : EngineView → List WorldCommand → EngineView
queueing e cs = with_queue e (record e.machine.core.output { items = cs })

-- with another vote stored
abbrev pub voted : Vote ℕ → Effected → Effected
voted v E = record E { store = record E.store { vote = v } }

-- A grant

-- a node whose vote is asked for by this message
abbrev pub asked_by : ℕ → ℕ → ℕ → VoteRequest ℕ → Turn
asked_by id now from r = record { id = id; moment = now; request = Some (record { from = from; to = id; body = body.VoteRequest r }) }

-- what is left of its streams
abbrev pub quit : ServerState → Effected → Effected
quit r E = record E { streams = streams_after r E.streams }

grant_works_at : (r : ServerState) (id from turn_now d_now : ℕ) (q : VoteRequest ℕ) (d : LeaderId ℕ) (e : EngineView) (E : Effected)
    → worked whole_logs (weight (at_work (granted_with d d_now (SaveVote (pending d) ∷ (quits r ++ vote_reply (grant_reply d e) ∷ [])) e) E)) (asked_by id turn_now from q) (at_work (granted_with d d_now (SaveVote (pending d) ∷ (quits r ++ vote_reply (grant_reply d e) ∷ [])) e) E)
    ≡ at_work (granted_with d d_now [] e) (sending (record { from = id; to = from; body = body.VoteReply (grant_reply d e) } ∷ []) (quit r (voted (pending d) E)))
grant_works_at Leader id from turn_now d_now q d e E =
    sym (worked-step whole_logs (asked_by id turn_now from q) (at_work (granted_with d d_now (SaveVote (pending d) ∷ (quits Leader ++ vote_reply (grant_reply d e) ∷ [])) e) E) refl)
    ∙ (sym (worked-step whole_logs (asked_by id turn_now from q) (at_work (granted_with d d_now (quits Leader ++ vote_reply (grant_reply d e) ∷ []) e) (voted (pending d) E)) refl) ∙ (sym (worked-step whole_logs (asked_by id turn_now from q) (at_work (granted_with d d_now (vote_reply (grant_reply d e) ∷ []) e) (quit Leader (voted (pending d) E))) refl)
    ∙ worked-idle whole_logs (asked_by id turn_now from q) (at_work (granted_with d d_now [] e) (sending (record { from = id; to = from; body = body.VoteReply (grant_reply d e) } ∷ []) (quit Leader (voted (pending d) E)))) refl))
grant_works_at Learner id from turn_now d_now q d e E =
    sym (worked-step whole_logs (asked_by id turn_now from q) (at_work (granted_with d d_now (SaveVote (pending d) ∷ (quits Learner ++ vote_reply (grant_reply d e) ∷ [])) e) E) refl)
    ∙ (sym (worked-step whole_logs (asked_by id turn_now from q) (at_work (granted_with d d_now (vote_reply (grant_reply d e) ∷ []) e) (quit Learner (voted (pending d) E))) refl)
    ∙ worked-idle whole_logs (asked_by id turn_now from q) (at_work (granted_with d d_now [] e) (sending (record { from = id; to = from; body = body.VoteReply (grant_reply d e) } ∷ []) (quit Learner (voted (pending d) E)))) refl)
grant_works_at Follower id from turn_now d_now q d e E =
    sym (worked-step whole_logs (asked_by id turn_now from q) (at_work (granted_with d d_now (SaveVote (pending d) ∷ (quits Follower ++ vote_reply (grant_reply d e) ∷ [])) e) E) refl)
    ∙ (sym (worked-step whole_logs (asked_by id turn_now from q) (at_work (granted_with d d_now (vote_reply (grant_reply d e) ∷ []) e) (quit Follower (voted (pending d) E))) refl)
    ∙ worked-idle whole_logs (asked_by id turn_now from q) (at_work (granted_with d d_now [] e) (sending (record { from = id; to = from; body = body.VoteReply (grant_reply d e) } ∷ []) (quit Follower (voted (pending d) E)))) refl)
grant_works_at Candidate id from turn_now d_now q d e E =
    sym (worked-step whole_logs (asked_by id turn_now from q) (at_work (granted_with d d_now (SaveVote (pending d) ∷ (quits Candidate ++ vote_reply (grant_reply d e) ∷ [])) e) E) refl)
    ∙ (sym (worked-step whole_logs (asked_by id turn_now from q) (at_work (granted_with d d_now (vote_reply (grant_reply d e) ∷ []) e) (quit Candidate (voted (pending d) E))) refl)
    ∙ worked-idle whole_logs (asked_by id turn_now from q) (at_work (granted_with d d_now [] e) (sending (record { from = id; to = from; body = body.VoteReply (grant_reply d e) } ∷ []) (quit Candidate (voted (pending d) E)))) refl)

pub grant_works : (id from turn_now d_now : ℕ) (q : VoteRequest ℕ) (d : LeaderId ℕ) (e : EngineView) (E : Effected)
    → worked whole_logs (weight (at_work (granted_with d d_now (SaveVote (pending d) ∷ (quits e.machine.core.state.role ++ vote_reply (grant_reply d e) ∷ [])) e) E)) (asked_by id turn_now from q) (at_work (granted_with d d_now (SaveVote (pending d) ∷ (quits e.machine.core.state.role ++ vote_reply (grant_reply d e) ∷ [])) e) E)
    ≡ at_work (granted_with d d_now [] e) (sending (record { from = id; to = from; body = body.VoteReply (grant_reply d e) } ∷ []) (quit e.machine.core.state.role (voted (pending d) E)))
grant_works id from turn_now d_now q d e E = grant_works_at e.machine.core.state.role id from turn_now d_now q d e E

-- An election

some_there : {X : Type 0} (o : Option X) → is_some o ≡ true → is_none o ≡ false
some_there None e = cc
some_there (Some x) e = refl

and_last : (a b c : Bool) → c ≡ false → (a && b && c) ≡ false
and_last true true c e = e
and_last true false c e = refl
and_last false b c e = refl

-- a grant of a voter isn't refused while there is an index left
pub grant_unrefused : (config : EngineConfig ℕ) (target : ℕ) (resp : VoteResponse ℕ) (c : WorldCandidate) (m : WorldMachine) → m.core.output.spent ≡ false → m.candidate ≡ Some c → is_in nat_cmp c.progress target ≡ true
    → (next c.last_log_id == u64_max) ≡ false → refusals_of_vote_resp nat_cmp config target resp m ≡ None
grant_unrefused config target resp c m s h i room =
    rw s (rw h (go (is_granted_to nat_cmp resp c.vote) (is_none (get nat_cmp c.progress target)) (is_granted (is_quorum nat_cmp) (grant_by nat_cmp c target) && may_establish nat_cmp m.core.state m.leader c && (next c.last_log_id == u64_max)) (some_there (get nat_cmp c.progress target) i) (and_last (is_granted (is_quorum nat_cmp) (grant_by nat_cmp c target)) (may_establish nat_cmp m.core.state m.leader c) (next c.last_log_id == u64_max) room)))
  where
    go : (b x y : Bool) → x ≡ false → y ≡ false
        → ◌≡◌ {A = Option (EngineError ℕ (Unit {0}))} (if b then first_refusal ((x, Rattle.proof_deeds.specs.raft_error.declared.error.EngineError.TheVariants.UnknownTarget) ∷ (y, Rattle.proof_deeds.specs.raft_error.declared.error.EngineError.TheVariants.IndexEnd) ∷ []) else None) None
    go true x y e f = rw (e, f) refl
    go false x y e f = refl

pub vote_itself : (v : Vote ℕ) → vote_cmp nat_cmp v v ≡ Equal
vote_itself v = rw (itself v.leader_id.term, itself v.leader_id.node_id) (twice v.committed)
  where
    twice : (b : Bool) → bool_cmp b b ≡ Equal
    twice true = refl
    twice false = refl

-- a voter that isn't a quorum by itself, and has an index left
pub record NeedsOthers (now : ℕ) (e : EngineView) : Type 0 where
  pub unspent : e.machine.core.output.spent ≡ false
  pub voter : is_in nat_cmp (standing now e).progress e.config.id ≡ true
  pub room : (next (standing now e).last_log_id == u64_max) ≡ false
  pub few : is_granted (is_quorum nat_cmp) (grant_by nat_cmp (standing now e) e.config.id) ≡ false

module _ (now : ℕ) (e : EngineView) (h : NeedsOthers now e) where
  saved : EngineView
  saved = with_queue (stood now e) (record e.machine.core.output { items = SendVote (stood_request e) ∷ [] })

  own_fed : feed now (SaveVote (stood_vote e)) (with_queue (stood now e) (record e.machine.core.output { items = SendVote (stood_request e) ∷ [] })) ≡ asking now (SendVote (stood_request e) ∷ []) e
  own_fed =
      if_true (asks_itself (stood_vote e) (standing now e) (with_queue (stood now e) (record e.machine.core.output { items = SendVote (stood_request e) ∷ [] })))
      (grant_own now (stood_vote e) (with_queue (stood now e) (record e.machine.core.output { items = SendVote (stood_request e) ∷ [] }))) (with_queue (stood now e) (record e.machine.core.output { items = SendVote (stood_request e) ∷ [] }))
      (and_yes (is_eq (vote_cmp nat_cmp (stood_vote e) (stood_vote e))) (is_in nat_cmp (standing now e).progress e.config.id) (ap is_eq (vote_itself (stood_vote e))) h.voter)
      ∙ (ap (λ (r : Option (EngineError ℕ (Unit {0}))). called r (with_queue (stood now e) (record e.machine.core.output { items = SendVote (stood_request e) ∷ [] })) (handle_vote_resp nat_cmp entry_meaning e.config e.config.id (own_grant (stood_vote e)) now q))
      (grant_unrefused e.config e.config.id (own_grant (stood_vote e)) (standing now e) q h.unspent refl h.voter h.room)
      ∙ ap (λ (m : WorldMachine). let z : EngineView = record e { machine = m } in z)
      (counts e.config e.config.id now (own_grant (stood_vote e)) (standing now e) q refl (ap is_eq (vote_itself (stood_vote e)))
      ∙ waits_on e.config e.config.id now (standing now e) q h.few))
    where
      q : WorldMachine
      q = (with_queue (stood now e) (record e.machine.core.output { items = SendVote (stood_request e) ∷ [] })).machine

  pub stand_works : (t : Turn) (E : Effected) → t.moment ≡ now
      → worked whole_logs (weight (at_work (stood now e) E)) t (at_work (stood now e) E)
      ≡ at_work (asking now [] e) (sending (to_each t.id (others t.id e.machine.core.state.em.membership) (body.VoteRequest (stood_request e))) (voted (stood_vote e) E))
  stand_works t E s =
      sym (worked-step whole_logs t (at_work (stood now e) E) refl)
      ∙ (ap (λ (f : EngineView). worked whole_logs (weight (at_work f (voted (stood_vote e) E))) t (at_work f (voted (stood_vote e) E)))
      (ap (λ k. feed k (SaveVote (stood_vote e)) (with_queue (stood now e) (record e.machine.core.output { items = SendVote (stood_request e) ∷ [] }))) s ∙ own_fed)
      ∙ (sym (worked-step whole_logs t (at_work (asking now (SendVote (stood_request e) ∷ []) e) (voted (stood_vote e) E)) refl)
      ∙ worked-idle whole_logs t (at_work (asking now [] e) (sending (to_each t.id (others t.id e.machine.core.state.em.membership) (body.VoteRequest (stood_request e))) (voted (stood_vote e) E))) refl))
