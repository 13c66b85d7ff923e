-- An event's calls of an engine: at rest it is at work after them.
use Rattle.std.proofs.Common.{ℕ, ◌<◌, ◌≡◌, Bool, true, false, List, [], ◌∷◌, map, refl, sym, ap, ◌∙◌, subst, Option, None, Some}
use Rattle.std.specs.Prelude.{Result, Err, if◌then◌else◌}
use Rattle.std.specs.Ordering.{nat_cmp}
use Rattle.std.specs.Result.{is_ok}
use Rattle.std.proofs.lemmas.Cmp.{nat_cmp_total}
use Rattle.raft_node.specs.raft_state.declared.ids.LogId.{LogId}
use Rattle.raft_node.specs.raft_state.declared.ids.Vote.{Vote}
use Rattle.raft_node.specs.raft_state.declared.membership.Members.{Members}
use Rattle.raft_node.specs.raft_state.declared.policy.RejectAppendEntries.{RejectAppendEntries}
use Rattle.raft_node.specs.raft_state.declared.policy.RejectAppendEntries.TheVariants.{ByVote}
use Rattle.raft_node.specs.raft_state.Same.{nat_same}
use Rattle.raft_node.specs.raft_error.declared.error.EngineError.{EngineError}
use Rattle.raft_node.specs.raft_error.declared.error.EngineError.TheVariants.{CommittedNotHeld}
use Rattle.raft_node.specs.raft_error.Number.{number_of}
use Rattle.raft_node.specs.raft_command.declared.config.EngineConfig.{EngineConfig}
use Rattle.raft_node.specs.raft_command.declared.message.VoteRequest.{VoteRequest}
use Rattle.raft_node.specs.raft_command.declared.message.VoteResponse.{VoteResponse}
use Rattle.raft_node.specs.raft_command.Message.{append_response}
use Rattle.raft_node.specs.raft_steps.Refusals.{refusals_of_elect, refusals_of_initialize, refusals_of_vote_resp}
use Rattle.raft_node.specs.raft_steps.Conditions.{IsFollowing}
use Rattle.raft_node.specs.raft_steps.Engine.{elect, initialize, handle_vote_resp}
use Rattle.raft_node.specs.raft_steps.FollowingHandler.{commit_target, consecutive_answer, holds_previous}
use Rattle.raft_node.specs.raft_steps.Parts.{Core, on_core}
use Rattle.raft_node.specs.raft_steps.RequestRefusals.{refusals_of_append, refusals_of_commit, refusals_of_follow, refusals_of_vote_req, is_missing}
use Rattle.raft_node.specs.raft_steps.Requests.{append_answer, append_entries, follow, handle_append_entries, handle_commit_entries, handle_vote_req, replied, vote_req_answer}
use Rattle.raft_node.specs.raft_steps.VoteHandler.{rejects_vote, update_vote}
use Rattle.raft_node.proofs.raft_steps_proofs.KeptEngine.{handle_vote_resp_is_sound}
use Rattle.raft_node.proofs.raft_steps_proofs.KeptFollow.{heard_case, not_own}
use Rattle.raft_node.proofs.raft_steps_proofs.Marks.{append_marks, consecutive_marks}
use Rattle.raft_node.proofs.raft_steps_proofs.Unrefused.{neither, test_fails}
use Rattle.raft_node.specs.raft_store.declared.config.WorldConfig.{WorldConfig}
use Rattle.raft_node.specs.raft_store.declared.entry.Entry.{Entry}
use Rattle.raft_node.specs.raft_store.Entries.{entry_meaning}
use Rattle.raft_node.specs.raft_store.Types.{WorldCommand, WorldMachine, WorldStore, EngineView}
use Rattle.proof_mirror.specs.Ready.{Awaits, InStep, Ordered, PendingIn, Shaped}
use Rattle.proof_mirror.proofs.Elections.{pending_elect, pending_vote_resp}
use Rattle.proof_mirror.proofs.Following.{pending_handle_append, pending_handle_commit}
use Rattle.proof_mirror.proofs.Proposes.{takes_id}
use Rattle.proof_mirror.proofs.Queued.{awaits_idle}
use Rattle.proof_mirror.proofs.Sound.{held_commit, machine_asks, machine_knows}
use Rattle.proof_mirror.proofs.Starting.{pending_initialize, pending_vote_req_passed, sound_order}
use Rattle.raft_node.specs.declared.act.Act.{Act}
use Rattle.raft_node.specs.declared.act.Act.TheVariants.{ChangeLearners, ChangeMembership, Elect, Fail, FinishSnapshot, Initialize, Propose, Read, Restart, SendHeartbeat, StepDown, Stop, Take, TriggerPurge, TriggerSnapshot}
use Rattle.raft_node.specs.raft_calls.declared.message.Body.{Body}
use Rattle.raft_node.specs.raft_calls.declared.message.Body.TheVariants as body
use Rattle.raft_node.specs.raft_calls.declared.message.Message.{Message}
use Rattle.raft_node.specs.raft_calls.declared.message.Origin.{Origin}
use Rattle.raft_node.specs.declared.node.Turn.{Turn}
use Rattle.raft_node.specs.raft_calls.Deliveries.{answered, appended, deliver, reply_token, take_append, take_commit, take_vote_reply, take_vote_request, vote_replied, vote_reply, vote_requested, with_machine, skip_delivery}
use Rattle.raft_node.specs.raft_calls.Elections.{elected, first_entry, initialized}
use Rattle.raft_node.specs.raft_calls.Held.{AllHeld, IsReady, IsResting}
use Rattle.raft_node.specs.Net.{NodeView}
use Rattle.raft_node.proofs.raft_calls_proofs.Ready.{appended_follows, appended_ready, engine_after}
use Rattle.proof_deeds.specs.Chains.{Carried, Reached}
use Rattle.proof_deeds.specs.Follows.{MessageIs, StoreIs}
use Rattle.proof_deeds.specs.Images.{Ideal, setup_of}
use Rattle.proof_deeds.specs.Knows.{CarriedIn, Delivered, Knows}
use Rattle.proof_deeds.specs.Nets.{EngineFollows}
use Rattle.proof_deeds.proofs.Calls.{CallLaws, WorldState}
use Rattle.proof_deeds.proofs.Drains.{EngineWorks, stands, takes}
use Rattle.proof_deeds.proofs.LeaderWorks.{append_reply_works, snapshot_reply_works}
use Rattle.proof_deeds.proofs.SnapshotWorks.{installed_works}
use Rattle.raft_node.proofs.raft_steps_proofs.Kept.{either}

abbrev pub WorldCore : Type 0
WorldCore = Core WorldConfig ℕ (Unit {0}) Entry ℕ ℕ (List Entry)

-- The vote after an append

follow_vote : (config : EngineConfig ℕ) (prev : Option (LogId ℕ)) (es : List Entry) (c : WorldCore) → (follow nat_cmp entry_meaning config prev es c).state.vote ≡ c.state.vote
unfolding follow
follow_vote config prev es c =
    either (λ (d : WorldCore). d.state.vote ≡ c.state.vote) (holds_previous nat_cmp c.state prev) _ _ (append_marks nat_cmp entry_meaning config prev es c).vote (consecutive_marks nat_cmp config prev c).vote

-- once an append was taken, the node's vote is the leader's
pub appended_vote : (v : Vote ℕ) (prev : Option (LogId ℕ)) (es : List Entry) (now : ℕ) (e : EngineView) → refusals_of_append nat_cmp e.config v prev (map entry_meaning.id_of es) e.machine ≡ None
    → is_ok (append_answer nat_cmp entry_meaning e.config v prev now e.machine) ≡ true → (appended v prev es now e).machine.core.state.vote ≡ v
unfolding handle_append_entries append_entries append_answer
appended_vote v prev es now e asks ok = go (rejects_vote nat_cmp e.machine.core.state v) refl ok where
  after : Bool → WorldMachine
  after b = if b then e.machine else on_core (follow nat_cmp entry_meaning e.config prev es) (update_vote nat_cmp entry_meaning e.config v now e.machine)

  answer : Bool → Result (Unit {0}) (RejectAppendEntries ℕ)
  answer b = if b then Err (ByVote e.machine.core.state.vote) else consecutive_answer nat_cmp (update_vote nat_cmp entry_meaning e.config v now e.machine).core.state prev

  go : (b : Bool) → rejects_vote nat_cmp e.machine.core.state v ≡ b → is_ok (answer b) ≡ true
      → (on_core (λ c. record c { output = replied (Some reply_token) (append_response (answer b)) c.output }) (after b)).core.state.vote ≡ v
  go true is k = cc
  go false is k =
      heard_case nat_cmp nat_cmp_total nat_same entry_meaning e.config (λ n. (on_core (follow nat_cmp entry_meaning e.config prev es) n).core.state.vote ≡ v) v now e.machine is
      (not_own nat_cmp nat_cmp_total nat_same entry_meaning e.config v (refusals_of_follow nat_cmp e.machine.core.state v prev (map entry_meaning.id_of es)) e.machine asks)
      (λ role q. follow_vote e.config prev es (record { state = record e.machine.core.state { vote = v; time = Some now; role = role }; output = q }))

-- An event that isn't skipped

-- what is told of an act: a message that is taken is for this node, and what it says was said
abbrev pub ActFits : Members ℕ (Unit {0}) → Ideal → ℕ → Act → Type 0
ActFits first W id (Take m) = (m.to ≡ id) × MessageIs (setup_of first) W m
ActFits first W id Initialize = Unit {0}
ActFits first W id (Propose values) = Unit {0}
ActFits first W id SendHeartbeat = Unit {0}
ActFits first W id (Fail target) = Unit {0}
ActFits first W id (Elect candidates) = Unit {0}
ActFits first W id TriggerSnapshot = Unit {0}
ActFits first W id FinishSnapshot = Unit {0}
ActFits first W id (TriggerPurge i) = Unit {0}
ActFits first W id (Restart start) = Unit {0}
ActFits first W id (ChangeLearners learners) = Unit {0}
ActFits first W id (ChangeMembership groups learners) = Unit {0}
ActFits first W id Read = Unit {0}
ActFits first W id StepDown = Unit {0}
ActFits first W id Stop = Unit {0}

module _ (first : Members ℕ (Unit {0})) (Extra : Ideal → WorldState → Type 0) (laws : CallLaws first Extra) (t : Turn) (node : t.id < 18446744073709551616)
    (u : WorldStore) (W : Ideal) (r : Reached (setup_of first) W) (o : Ordered nat_cmp entry_meaning u) where
  -- a node at rest is at work, with nothing to do
  pub rests_works : (n : NodeView) (e : EngineView) → n.id ≡ t.id → n.store ≡ u → Shaped entry_meaning u → StoreIs (setup_of first) u (W.store t.id) → EngineFollows (setup_of first) n W e → Extra W e.machine.core.state → EngineWorks first Extra t u W e
  rests_works n e i q z h f x = record {
    extra = x;
    id = f.id ∙ i;
    ready = record { sound = f.sound; held = subst (AllHeld e.machine.core.state.ids) (sym f.queue) tt };
    pending = record { core = subst (λ cs. Awaits nat_cmp entry_meaning (λ es. es) u cs e.machine.core.state) (sym f.queue) (record { ready = z; in_step = subst (λ w. InStep entry_meaning w e.machine.core.state) q f.in_step }); knows = machine_knows nat_cmp e.config e.machine f.sound };
    carried = subst (λ cs. Carried (setup_of first) t e.machine.core.state.vote.leader_id u W cs (Knows (setup_of first) t.id e.machine)) (sym f.queue) (record { end = W; chain = refl; store = h; knows = subst (λ d. Knows (setup_of first) d e.machine W) i f.knows });
  }

  module _ (e : EngineView) (h : EngineWorks first Extra t u W e) (queue : e.machine.core.output.items ≡ []) where
    resting : IsResting e
    resting = record { ready = h.ready; queue = queue }

    -- a call that isn't refused
    answered_works : (asks : Option (EngineError ℕ (Unit {0}))) (after : EngineView) → after.config ≡ e.config → (asks ≡ None → PendingIn nat_cmp entry_meaning (λ es. es) u after.machine × (CarriedIn (setup_of first) t u W after.machine × Extra W after.machine.core.state))
        → IsReady (answered asks e after).1 → EngineWorks first Extra t u W (answered asks e after).1
    answered_works None after c f k = let p : PendingIn nat_cmp entry_meaning (λ es. es) u after.machine × (CarriedIn (setup_of first) t u W after.machine × Extra W after.machine.core.state) = f refl in record { id = ap (λ (x : EngineConfig ℕ). x.id) c ∙ h.id; ready = k; pending = p.0; carried = p.1.0; extra = p.1.1 }
    answered_works (Some x) after c f k = h

    pub initialized_works : e.machine.leader ≡ None → IsReady (initialized first t.moment e).1 → EngineWorks first Extra t u W (initialized first t.moment e).1
    initialized_works unled k =
        answered_works (refusals_of_initialize nat_cmp entry_meaning e.config 0 (first_entry first) e.machine) (with_machine e (initialize nat_cmp entry_meaning e.config 0 (first_entry first) t.moment e.machine)) refl
        (λ asks. (
          pending_initialize nat_cmp nat_cmp_total nat_same entry_meaning takes (λ es. es) e.config u 0 (first_entry first) t.moment e.machine h.pending unled asks,
          laws.by_initialize t e.config u W e.machine (stands first Extra t laws node u W e r o h) queue unled asks h.extra,
        ))
        k

    pub elected_works : e.machine.leader ≡ None → IsReady (elected t.moment e).1 → EngineWorks first Extra t u W (elected t.moment e).1
    elected_works unled k =
        answered_works (refusals_of_elect nat_cmp e.config e.machine) (with_machine e (elect nat_cmp entry_meaning e.config t.moment e.machine)) refl
        (λ asks. (
          pending_elect nat_cmp entry_meaning (takes_id entry_meaning takes) (λ es. es) e.config u t.moment e.machine h.pending,
          laws.by_elect t e.config u W e.machine (stands first Extra t laws node u W e r o h) queue unled asks h.extra,
        ))
        k

    module _ (msg : Message) (d : Delivered (setup_of first) t W msg) where
      requested_works : (req : VoteRequest ℕ) → msg.body ≡ body.VoteRequest req → IsReady (take_vote_request req t.moment e).1 → EngineWorks first Extra t u W (take_vote_request req t.moment e).1
      requested_works req is k =
          answered_works (refusals_of_vote_req nat_cmp e.config req t.moment e.machine) (vote_requested req t.moment e) refl
          (λ asks.
          let m : WorldMachine = handle_vote_req nat_cmp entry_meaning e.config req t.moment e.machine in
          let p : PendingIn nat_cmp entry_meaning (λ es. es) u m = pending_vote_req_passed nat_cmp nat_cmp_total nat_same entry_meaning takes (λ es. es) e.config u req t.moment e.machine h.pending h.ready.sound asks in
          let reply : WorldCommand = vote_reply (vote_req_answer nat_cmp entry_meaning e.config req t.moment e.machine) in (
            record { core = awaits_idle nat_cmp entry_meaning (λ es. es) u m.core.output.items (reply ∷ []) m.core.state m.core.state p.core (refl, tt, tt) p.core.in_step; knows = p.knows },
            laws.by_vote_request t e.config u W e.machine (stands first Extra t laws node u W e r o h) queue msg req d is asks h.extra,
          ))
          k

      replied_works : (resp : VoteResponse ℕ) → msg.body ≡ body.VoteReply resp → IsReady (take_vote_reply msg.from resp t.moment e).1 → EngineWorks first Extra t u W (take_vote_reply msg.from resp t.moment e).1
      replied_works resp is k =
          answered_works (refusals_of_vote_resp nat_cmp e.config msg.from resp e.machine) (vote_replied msg.from resp t.moment e) refl
          (λ asks. (
            pending_vote_resp nat_cmp entry_meaning (takes_id entry_meaning takes) (λ es. es) e.config u msg.from resp t.moment e.machine h.pending (machine_asks nat_cmp e.config e.machine h.ready.sound)
                (sound_order nat_cmp e.config (handle_vote_resp nat_cmp entry_meaning e.config msg.from resp t.moment e.machine)
                (handle_vote_resp_is_sound nat_cmp nat_cmp_total nat_same entry_meaning takes e.config msg.from resp t.moment e.machine asks h.ready.sound)),
            laws.by_vote_reply t e.config u W e.machine (stands first Extra t laws node u W e r o h) queue msg resp d is asks h.extra,
          ))
          k

      module _ (origin : Origin) (prev : Option (LogId ℕ)) (es : List Entry) (told : Option (LogId ℕ)) (is : msg.body ≡ body.AppendRequest origin prev es told) where
        -- the entries
        pub entries_works : refusals_of_append nat_cmp e.config origin.session_id.vote prev (map entry_meaning.id_of es) e.machine ≡ None → EngineWorks first Extra t u W (appended origin.session_id.vote prev es t.moment e)
        entries_works asks = record {
          id = h.id;
          ready = appended_ready origin.session_id.vote prev es t.moment e asks resting;
          pending = pending_handle_append nat_cmp nat_cmp_total nat_same entry_meaning (takes_id entry_meaning takes) (λ es. es) e.config u origin.session_id.vote prev es (Some reply_token) t.moment e.machine h.pending h.ready.sound asks
              (λ low. laws.fits_append t e.config u W e.machine (stands first Extra t laws node u W e r o h) queue msg origin prev es told d is asks low h.extra);
          carried = (laws.by_append t e.config u W e.machine (stands first Extra t laws node u W e r o h) queue msg origin prev es told d is asks h.extra).0;
          extra = (laws.by_append t e.config u W e.machine (stands first Extra t laws node u W e r o h) queue msg origin prev es told d is asks h.extra).1;
        }

        -- the committed id behind them
        commit_works : (f : EngineView) → f.config ≡ e.config → EngineWorks first Extra t u W f → IsFollowing nat_cmp f.machine → f.machine.core.state.vote ≡ origin.session_id.vote → (asks : Option (EngineError ℕ (Unit {0}))) → refusals_of_commit nat_cmp told f.machine ≡ asks
            → IsReady (answered asks f (with_machine f (handle_commit_entries nat_cmp entry_meaning f.config told f.machine))).1
            → EngineWorks first Extra t u W (answered asks f (with_machine f (handle_commit_entries nat_cmp entry_meaning f.config told f.machine))).1
        commit_works f c w follows vote (Some x) asks k = w
        commit_works f c w follows vote None asks k =
            let missing : is_missing nat_cmp f.machine.core.state (commit_target nat_cmp f.machine.core.state told) ≡ false = (test_fails (is_missing nat_cmp f.machine.core.state (commit_target nat_cmp f.machine.core.state told)) CommittedNotHeld None (neither _ _ asks).1).0 in
            record {
              id = w.id;
              ready = k;
              pending = pending_handle_commit nat_cmp nat_cmp_total nat_same entry_meaning (takes_id entry_meaning takes) (λ es. es) f.config u told f.machine w.pending
                  (held_commit nat_cmp nat_cmp_total nat_same f.machine.core.state w.ready.sound.sound (commit_target nat_cmp f.machine.core.state told) missing);
              carried = (laws.by_commit t f.config u W f.machine (stands first Extra t laws node u W f r o w) follows msg origin prev es told d is vote asks w.extra).0;
              extra = (laws.by_commit t f.config u W f.machine (stands first Extra t laws node u W f r o w) follows msg origin prev es told d is vote asks w.extra).1;
            }

        append_works : IsReady (take_append origin.session_id.vote prev es told t.moment e).1 → EngineWorks first Extra t u W (take_append origin.session_id.vote prev es told t.moment e).1
        append_works ready = go (refusals_of_append nat_cmp e.config origin.session_id.vote prev (map entry_meaning.id_of es) e.machine) refl ready where
          pick : refusals_of_append nat_cmp e.config origin.session_id.vote prev (map entry_meaning.id_of es) e.machine ≡ None
              → (b : Bool) → is_ok (append_answer nat_cmp entry_meaning e.config origin.session_id.vote prev t.moment e.machine) ≡ b
              → IsReady (engine_after (if b then take_commit told (appended origin.session_id.vote prev es t.moment e) else (None, appended origin.session_id.vote prev es t.moment e)))
              → EngineWorks first Extra t u W (engine_after (if b then take_commit told (appended origin.session_id.vote prev es t.moment e) else (None, appended origin.session_id.vote prev es t.moment e)))
          pick asks true ok k =
              commit_works (appended origin.session_id.vote prev es t.moment e) refl (entries_works asks) (appended_follows origin.session_id.vote prev es t.moment e asks ok) (appended_vote origin.session_id.vote prev es t.moment e asks ok)
              (refusals_of_commit nat_cmp told (appended origin.session_id.vote prev es t.moment e).machine) refl k
          pick asks false ok k = entries_works asks

          go : (x : Option (EngineError ℕ (Unit {0}))) → refusals_of_append nat_cmp e.config origin.session_id.vote prev (map entry_meaning.id_of es) e.machine ≡ x
              → IsReady (engine_after (elim x [
                | Some r ↦ (Some (number_of r), e)
                | None ↦
                    (if is_ok (append_answer nat_cmp entry_meaning e.config origin.session_id.vote prev t.moment e.machine) then take_commit told (appended origin.session_id.vote prev es t.moment e)
                    else (None, appended origin.session_id.vote prev es t.moment e))
              ]))
              → EngineWorks first Extra t u W (engine_after (elim x [
                | Some r ↦ (Some (number_of r), e)
                | None ↦
                    (if is_ok (append_answer nat_cmp entry_meaning e.config origin.session_id.vote prev t.moment e.machine) then take_commit told (appended origin.session_id.vote prev es t.moment e)
                    else (None, appended origin.session_id.vote prev es t.moment e))
              ]))
          go (Some x) asks k = h
          go None asks k = pick asks (is_ok (append_answer nat_cmp entry_meaning e.config origin.session_id.vote prev t.moment e.machine)) refl k

      -- a message
      pub delivered_works : (b : Body) → msg.body ≡ b → skip_delivery b e ≡ None → IsReady (deliver msg.from b t.moment e).1 → EngineWorks first Extra t u W (deliver msg.from b t.moment e).1
      delivered_works (body.VoteRequest req) is none k = requested_works req is k
      delivered_works (body.VoteReply resp) is none k = replied_works resp is k
      delivered_works (body.AppendRequest origin prev es told) is none k = append_works origin prev es told is k
      delivered_works (body.AppendReply origin reply prev upto) is none k = append_reply_works first Extra laws t node u W r o e h queue msg d origin reply prev upto is none k
      delivered_works (body.SnapshotRequest origin snapshot) is none k = installed_works first Extra laws t node u W r o e h queue msg d origin snapshot is k
      delivered_works (body.SnapshotReply origin reply upto) is none k = snapshot_reply_works first Extra laws t node u W r o e h queue msg d origin reply upto is none k
