-- Where no request is taken, the entries that calls queue are the first one, or the node's own under the vote that it has then, and nothing
-- cuts the log.
use Rattle.std.specs.Prelude.{◌≤◌, Bool, IfSome, List, None, Option, Result, Some, [], false, true, ◌&&◌, ◌⊎◌, if◌then◌else◌, length, min, nat_lt, refl, ℕ, ◌+◌, ◌==◌, ◌∷◌, ◌≡◌}
use Rattle.std.specs.Ordering.{is_eq, is_gt, is_lt, nat_cmp}
use Rattle.std.proofs.Common.{arith, inl, inr, subst, sym, ◌∙◌}
use Rattle.proof_deeds.proofs.raft_state_proofs.Orders.{and_both}
use Rattle.proof_deeds.specs.raft_state.Members.{contains}
use Rattle.proof_deeds.specs.raft_state.declared.ids.LeaderId.{LeaderId}
use Rattle.proof_deeds.specs.raft_state.declared.ids.LogId.{LogId}
use Rattle.proof_deeds.specs.raft_state.declared.ids.Vote.{Vote}
use Rattle.proof_deeds.specs.raft_state.declared.membership.SnapshotMeta.{SnapshotMeta}
use Rattle.proof_deeds.specs.raft_state.Log.{at, last}
use Rattle.proof_deeds.specs.raft_state.Order.{last_id_cmp, leader_id_cmp, next, vote_cmp}
use Rattle.proof_deeds.specs.raft_state.State.{by_last_leader, is_leader, is_leading, purge}
use Rattle.proof_deeds.specs.raft_progress_entry.declared.entry.ProgressEntry.{ProgressEntry}
use Rattle.proof_deeds.specs.raft_progress.Quorum.{is_quorum}
use Rattle.proof_deeds.specs.raft_command.declared.command.Command.TheVariants.{AppendInputEntries, DeleteConflictLog, PurgeLog, Respond, SaveVote, SendVote, StateMachine}
use Rattle.proof_deeds.specs.raft_command.declared.config.EngineConfig.{EngineConfig}
use Rattle.proof_deeds.specs.raft_command.declared.message.Token.{Token}
use Rattle.proof_deeds.specs.raft_command.declared.message.VoteRequest.{VoteRequest}
use Rattle.proof_deeds.specs.raft_command.declared.message.VoteResponse.{VoteResponse}
use Rattle.proof_deeds.specs.raft_command.declared.replication.ReplicationResult.{ReplicationResult}
use Rattle.proof_deeds.specs.raft_command.declared.replication.RequestId.{RequestId}
use Rattle.proof_deeds.specs.raft_command.Message.{append_response}
use Rattle.proof_deeds.specs.raft_command.Push.{with_command}
use Rattle.proof_deeds.specs.raft_proposer.Candidate.{candidate_of, grant_by, into_leader, is_granted}
use Rattle.proof_deeds.specs.raft_steps.Engine.{as_uncommitted, default_log_id, elect, handle_vote_resp, initialize, is_granted_to, lead_by_votes, may_establish, take_grant, take_rejection}
use Rattle.proof_deeds.specs.raft_steps.FollowingHandler.{commit_entries, commit_target, do_append_entries, memberships_in, with_entries}
use Rattle.proof_deeds.specs.raft_steps.Laws.{QueuesOnly}
use Rattle.proof_deeds.specs.raft_steps.LogHandler.{is_target_inflight, purge_log, schedule_policy_based_purge, try_purge_log, update_purge_upto}
use Rattle.proof_deeds.specs.raft_steps.Parts.{leading, on_core, on_leader, then_command, under, with_state}
use Rattle.proof_deeds.specs.raft_steps.Refusals.{rows_in}
use Rattle.proof_deeds.specs.raft_steps.Replies.{purge_unless_inflight, take_reply, update_progress}
use Rattle.proof_deeds.specs.raft_steps.ReplicationHandler.{append_membership_led, initiate_replication, rebuild_progresses, rebuild_replication_streams, update_local_progress}
use Rattle.proof_deeds.specs.raft_steps.Requests.{append_answer, append_entries, follow, handle_append_entries, handle_commit_entries, handle_vote_req, refuses_vote_req}
use Rattle.proof_deeds.specs.raft_steps.ServerStateHandler.{update_role}
use Rattle.proof_deeds.specs.raft_steps.SnapshotCalls.{built, finish_building_snapshot, trigger_purge_log}
use Rattle.proof_deeds.specs.raft_steps.SnapshotHandler.{is_newer_snapshot, trigger_snapshot, update_snapshot}
use Rattle.proof_deeds.specs.raft_steps.Starts.{is_settled, lead_on, leader_step_down, startup}
use Rattle.proof_deeds.specs.raft_steps.VoteHandler.{become_following, become_leader, begin_lead, lead_anew, rejects_vote, take_vote, update_internal_server_state, update_vote}
use Rattle.proof_deeds.proofs.raft_steps_proofs.Allowed.{AllowsLeading, commit_by_only, following_only, initiate_only, leader_append_only, local_only, only_here, only_of, only_then, rebuild_only, role_only, trigger_only}
use Rattle.proof_deeds.proofs.raft_steps_proofs.Kept.{either, either_option}
use Rattle.proof_deeds.proofs.raft_steps_proofs.Marks.{internal_marks}
use Rattle.proof_deeds.proofs.raft_steps_proofs.LawsPurge.{reply_only, sends_only}
use Rattle.proof_deeds.specs.raft_store.declared.entry.Entry.{Entry}
use Rattle.proof_deeds.specs.raft_store.Entries.{entry_meaning}
use Rattle.proof_deeds.specs.raft_store.Types.{WorldCandidate, WorldCommand, WorldLeader, WorldMachine, WorldPayload, WorldSnapshot}
use Rattle.proof_deeds.specs.raft_calls.Engines.{WorldRespond}
use Rattle.proof_deeds.specs.raft_calls.Feeds.{WorldLed}
use Rattle.proof_deeds.proofs.raft_calls_proofs.Falls.{WorldCore}
use Rattle.std.specs.List.{AllByRecursion}
use Rattle.proof_deeds.specs.raft_command.declared.command.Condition.{Condition}
use Rattle.proof_deeds.specs.raft_command.declared.sm.CommandPayload.TheVariants.{InstallFullSnapshot}
use Rattle.proof_deeds.specs.raft_steps.Installs.{handle_install_full_snapshot, install_and_reply, installs, reply_install}
use Rattle.proof_deeds.specs.raft_proposer.Leader.{leader_in}
use Rattle.proof_deeds.specs.raft_steps.LeaderHandler.{last_proposed, leader_append_entries, proposed}
use Rattle.proof_deeds.specs.Images.{number}
use Rattle.proof_progress.proofs.Tables.{eq_of}
use Rattle.proof_progress.proofs.SameVotes.{lead_on_vote, on_leader_vote, won_vote}
use Rattle.proof_progress.proofs.Top.{IsFirst}
use Rattle.proof_deeds.specs.raft_command.declared.respond.Respond.TheVariants as respond

-- a leader id of the node, not below a number
abbrev pub Own : ℕ → ℕ → LeaderId ℕ → Type 0
Own n low d = (d.node_id ≡ n) × (low ≤ number d)

-- the first entry, or one that the node wrote as a leader
abbrev pub Brought : ℕ → ℕ → Entry → Type 0
Brought n low e = IsFirst e ⊎ Own n low e.log_id.leader_id

-- a command brings such entries, or none; it cuts and installs nothing
abbrev pub BringsIn : WorldPayload → Type 0
BringsIn (InstallFullSnapshot s) = ⊥
BringsIn _ = Unit {0}

abbrev pub Brings : ℕ → ℕ → WorldCommand → Type 0
Brings n low (AppendInputEntries v es) = AllByRecursion (Brought n low) es
Brings n low (DeleteConflictLog since) = ⊥
Brings n low (StateMachine c) = BringsIn c.payload
Brings n low _ = Unit {0}

module _ (n low : ℕ) where
  -- a machine's vote isn't below the number
  abbrev pub High : WorldMachine → Type 0
  High m = low ≤ number m.core.state.vote.leader_id

  pub brings_leading : AllowsLeading (Brings n low)
  brings_leading = record {
    becomes = tt;
    quits = tt;
    saves = λ v. tt;
    rebuilds = λ targets. tt;
    replicates = λ target f. tt;
    tells = λ x. tt;
    commits = λ seq a b. tt;
    builds = λ seq. tt;
  }

  -- a step queues such commands alone
  abbrev pub Only : WorldCore → WorldCore → Type 0
  Only old new = QueuesOnly (Brings n low) old new

  abbrev pub here : (old new : WorldCore) → new.output.items ≡ old.output.items → Only old new
  here old new e = only_here (Brings n low) old new e

  -- a reply
  pub respond_only : (when : Option (Condition ℕ)) (reply : WorldRespond) (c : WorldCore) → Only c (then_command c (Respond when reply))
  respond_only when reply c = only_of (Brings n low) (Respond when reply ∷ []) c _ refl (tt, tt)

  module _ (config : EngineConfig ℕ) (named : config.id ≡ n) where
    abbrev OnlyIn : WorldMachine → WorldMachine → Type 0
    OnlyIn m q = Only m.core q.core

    -- votes and elections
    lead_anew-only : (m : WorldMachine) → Own n low m.core.state.vote.leader_id → OnlyIn m (lead_anew nat_cmp entry_meaning config m)
    unfolding lead_anew begin_lead rebuild_replication_streams
    lead_anew-only m own =
        let begun : WorldLed = record { leader = leader_in nat_cmp m.core.state.vote m.core.state.em.membership (by_last_leader nat_cmp m.core.state.ids); core = update_role nat_cmp config m.core } in
        let led : WorldLed = rebuild_replication_streams nat_cmp config begun in
        let t : Only m.core led.core = only_then (Brings n low) m.core begun.core led.core (role_only (Brings n low) nat_cmp config brings_leading m.core) (rebuild_only (Brings n low) nat_cmp config brings_leading begun) in
        either (λ (q : WorldLed). Only m.core q.core) (is_lt (last_id_cmp nat_cmp begun.leader.last_log_id (Some begun.leader.noop_log_id))) _ _
        (only_then (Brings n low) m.core led.core _ t (leader_append_only (Brings n low) nat_cmp config brings_leading entry_meaning (entry_meaning.blank begun.leader.noop_log_id ∷ []) led (inr own, tt))) t

    -- a node that leads by its vote has one of its own
    own_vote : (m : WorldMachine) → High m → is_leader nat_cmp m.core.state config.id ≡ true → Own n low m.core.state.vote.leader_id
    own_vote m high e =
        let p = and_both (is_eq (nat_cmp m.core.state.vote.leader_id.node_id config.id) && contains nat_cmp m.core.state.em.membership config.id) m.core.state.vote.committed e in
        let q = (and_both (is_eq (nat_cmp m.core.state.vote.leader_id.node_id config.id)) (contains nat_cmp m.core.state.em.membership config.id) p.0).0 in
        (eq_of m.core.state.vote.leader_id.node_id config.id q ∙ named, high)

    become-only : (m : WorldMachine) → Own n low m.core.state.vote.leader_id → OnlyIn m (become_leader nat_cmp entry_meaning config m)
    unfolding become_leader
    become-only m own =
        either_option (OnlyIn m) m.leader _ _ (lead_anew-only m own)
        (λ l. either (OnlyIn m) (is_eq (leader_id_cmp nat_cmp l.vote.leader_id m.core.state.vote.leader_id)) _ _ (role_only (Brings n low) nat_cmp config brings_leading m.core) (lead_anew-only m own))

    internal-only : (m : WorldMachine) → High m → OnlyIn m (update_internal_server_state nat_cmp entry_meaning config m)
    unfolding update_internal_server_state
    internal-only m high = go (is_leader nat_cmp m.core.state config.id) refl
      where
        go : (b : Bool) → is_leader nat_cmp m.core.state config.id ≡ b → OnlyIn m (if b then become_leader nat_cmp entry_meaning config m else if is_leading nat_cmp m.core.state config.id then m else become_following nat_cmp config m)
        go true e = become-only m (own_vote m high e)
        go false e = either (OnlyIn m) (is_leading nat_cmp m.core.state config.id) _ _ (here m.core m.core refl) (following_only (Brings n low) nat_cmp config brings_leading m)

    -- the role that follows from a vote leaves it
    internal_high : (m : WorldMachine) → High (update_internal_server_state nat_cmp entry_meaning config m) → High m
    internal_high m high = subst (λ (v : Vote ℕ). low ≤ number v.leader_id) (internal_marks nat_cmp entry_meaning config m).vote high

    appended_vote : (es : List Entry) (l : WorldLed) → (leader_append_entries nat_cmp entry_meaning config es l).leader.vote ≡ l.leader.vote
    unfolding leader_append_entries proposed initiate_replication append_membership_led rebuild_progresses rebuild_replication_streams
    appended_vote es l =
        either (λ (k : WorldLed). k.leader.vote ≡ l.leader.vote) (length es == 0) _ _ refl
        (either_option (λ (k : WorldLed). (initiate_replication nat_cmp config false k).leader.vote ≡ l.leader.vote) (last_proposed entry_meaning l.leader es) (proposed entry_meaning es l) (λ m. append_membership_led nat_cmp config m (proposed entry_meaning es l)) refl (λ m. refl))

    begun_vote : (l : WorldLed) → (begin_lead nat_cmp entry_meaning config l).leader.vote ≡ l.leader.vote
    unfolding begin_lead rebuild_replication_streams
    begun_vote l =
        either (λ (k : WorldLed). k.leader.vote ≡ l.leader.vote) (is_lt (last_id_cmp nat_cmp l.leader.last_log_id (Some l.leader.noop_log_id))) _ _
        (appended_vote (entry_meaning.blank l.leader.noop_log_id ∷ []) (rebuild_replication_streams nat_cmp config (under (update_role nat_cmp config) l))) refl

    -- leaders are the node's own, and stay so
    abbrev OwnLed : WorldMachine → Type 0
    OwnLed m = IfSome m.leader (λ l. Own n low l.vote.leader_id)

    anew_led : (m : WorldMachine) → Own n low m.core.state.vote.leader_id → OwnLed (lead_anew nat_cmp entry_meaning config m)
    unfolding lead_anew
    anew_led m k =
        subst (λ (v : Vote ℕ). Own n low v.leader_id)
        (sym (begun_vote (record { leader = leader_in nat_cmp m.core.state.vote m.core.state.em.membership (by_last_leader nat_cmp m.core.state.ids); core = m.core }))) k

    become_led : (m : WorldMachine) → Own n low m.core.state.vote.leader_id → OwnLed (become_leader nat_cmp entry_meaning config m)
    unfolding become_leader
    become_led m k = either_option OwnLed m.leader _ _ (anew_led m k) (λ l. either OwnLed (is_eq (leader_id_cmp nat_cmp l.vote.leader_id m.core.state.vote.leader_id)) _ _ k (anew_led m k))

    internal_led : (m : WorldMachine) → High m → OwnLed m → OwnLed (update_internal_server_state nat_cmp entry_meaning config m)
    unfolding update_internal_server_state become_following
    internal_led m high own = go (is_leader nat_cmp m.core.state config.id) refl
      where
        go : (b : Bool) → is_leader nat_cmp m.core.state config.id ≡ b → OwnLed (if b then become_leader nat_cmp entry_meaning config m else if is_leading nat_cmp m.core.state config.id then m else become_following nat_cmp config m)
        go true e = become_led m (own_vote m high e)
        go false e = either OwnLed (is_leading nat_cmp m.core.state config.id) _ _ own tt

    vote_led : (v : Vote ℕ) (now : ℕ) (m : WorldMachine) → OwnLed m → High (update_vote nat_cmp entry_meaning config v now m) → OwnLed (update_vote nat_cmp entry_meaning config v now m)
    unfolding update_vote
    vote_led v now m own =
        let taken : WorldMachine = on_core (take_vote nat_cmp config v now) m in
        either (λ (q : WorldMachine). High q → OwnLed q) (rejects_vote nat_cmp m.core.state v) _ _ (λ _. own) (λ high. internal_led taken (internal_high taken high) own)

    pub update_vote-only : (v : Vote ℕ) (now : ℕ) (m : WorldMachine) → High (update_vote nat_cmp entry_meaning config v now m) → OnlyIn m (update_vote nat_cmp entry_meaning config v now m)
    unfolding update_vote
    update_vote-only v now m =
        let taken : WorldMachine = on_core (take_vote nat_cmp config v now) m in
        let t : Only m.core taken.core = either (Only m.core) (is_gt (vote_cmp nat_cmp v m.core.state.vote)) _ _ (only_of (Brings n low) (SaveVote v ∷ []) m.core _ refl (tt, tt)) (here m.core _ refl) in
        either (λ (q : WorldMachine). High q → OnlyIn m q) (rejects_vote nat_cmp m.core.state v) _ _ (λ _. here m.core m.core refl)
        (λ high. only_then (Brings n low) m.core taken.core _ t (internal-only taken (internal_high taken high)))

    pub elect-only : (now : ℕ) (m : WorldMachine) → High (elect nat_cmp entry_meaning config now m) → OnlyIn m (elect nat_cmp entry_meaning config now m)
    unfolding elect update_role
    elect-only now m high =
        let s = m.core.state in
        let v : Vote ℕ = record { leader_id = record { term = s.vote.leader_id.term + 1; node_id = config.id }; committed = false } in
        let standing : WorldMachine = record m { candidate = Some (candidate_of nat_cmp now v (last s.ids) s.em.membership) } in
        let voted = update_vote nat_cmp entry_meaning config v now standing in
        let asked = then_command voted.core (SendVote (record { vote = v; last_log_id = last s.ids })) in
        only_then (Brings n low) m.core voted.core _ (update_vote-only v now standing high)
        (only_then (Brings n low) voted.core asked _ (only_of (Brings n low) (SendVote (record { vote = v; last_log_id = last s.ids }) ∷ []) voted.core asked refl (tt, tt)) (role_only (Brings n low) nat_cmp config brings_leading asked))

    rebuilt_own : (l : WorldLed) → Own n low l.leader.vote.leader_id → Own n low (rebuild_replication_streams nat_cmp config l).leader.vote.leader_id
    unfolding rebuild_replication_streams
    rebuilt_own l k = k

    lead_by_votes-only : (c : WorldCandidate) (now : ℕ) (m : WorldMachine) → (is_eq (vote_cmp nat_cmp c.vote m.core.state.vote) ≡ true → c.vote.leader_id.node_id ≡ n)
        → High (lead_by_votes nat_cmp entry_meaning config c now m) → OnlyIn m (lead_by_votes nat_cmp entry_meaning config c now m)
    unfolding lead_by_votes
    lead_by_votes-only c now m own = go (may_establish nat_cmp m.core.state m.leader c) refl
      where
        l : WorldLeader
        l = into_leader nat_cmp c

        begun : WorldLed
        begun = record { leader = into_leader nat_cmp c; core = m.core }

        led : WorldMachine
        led = leading (record m { candidate = None }) (rebuild_replication_streams nat_cmp config begun)

        voted : WorldMachine
        voted = update_vote nat_cmp entry_meaning config l.vote now led

        appends : OwnLed voted → OnlyIn voted (on_leader (leader_append_entries nat_cmp entry_meaning config (entry_meaning.blank l.noop_log_id ∷ [])) voted)
        appends k = of voted.leader k
          where
            of : (o : Option WorldLeader) → IfSome o (λ (x : WorldLeader). Own n low x.vote.leader_id)
                → OnlyIn voted (elim o as (λ _. WorldMachine) [ None ↦ voted | Some x ↦ leading voted (leader_append_entries nat_cmp entry_meaning config (entry_meaning.blank l.noop_log_id ∷ []) (record { leader = x; core = voted.core })) ])
            of None k = here voted.core voted.core refl
            of (Some x) k = leader_append_only (Brings n low) nat_cmp config brings_leading entry_meaning (entry_meaning.blank l.noop_log_id ∷ []) (record { leader = x; core = voted.core }) (inr k, tt)

        established : is_eq (vote_cmp nat_cmp c.vote m.core.state.vote) ≡ true → High (on_leader (leader_append_entries nat_cmp entry_meaning config (entry_meaning.blank l.noop_log_id ∷ [])) voted)
            → OnlyIn m (on_leader (leader_append_entries nat_cmp entry_meaning config (entry_meaning.blank l.noop_log_id ∷ [])) voted)
        established e high =
            let h : High voted = subst (λ (v : Vote ℕ). low ≤ number v.leader_id) (on_leader_vote config (entry_meaning.blank l.noop_log_id ∷ []) voted) high in
            let k : low ≤ number c.vote.leader_id = subst (λ d. low ≤ number d) (won_vote config c now m e) h in
            only_then (Brings n low) m.core led.core _ (rebuild_only (Brings n low) nat_cmp config brings_leading begun)
            (only_then (Brings n low) led.core voted.core _ (update_vote-only l.vote now led h) (appends (vote_led l.vote now led (rebuilt_own begun (own e, k)) h)))

        go : (b : Bool) → may_establish nat_cmp m.core.state m.leader c ≡ b
            → High (if b then on_leader (leader_append_entries nat_cmp entry_meaning config (entry_meaning.blank l.noop_log_id ∷ [])) voted else record m { candidate = None })
            → OnlyIn m (if b then on_leader (leader_append_entries nat_cmp entry_meaning config (entry_meaning.blank l.noop_log_id ∷ [])) voted else record m { candidate = None })
        go true e = established (and_both (is_eq (vote_cmp nat_cmp c.vote m.core.state.vote)) _ e).0
        go false e = λ _. here m.core m.core refl

    pub vote_resp-only : (target : ℕ) (resp : VoteResponse ℕ) (now : ℕ) (m : WorldMachine) → IfSome m.candidate (λ c. is_eq (vote_cmp nat_cmp c.vote m.core.state.vote) ≡ true → c.vote.leader_id.node_id ≡ n)
        → High (handle_vote_resp nat_cmp entry_meaning config target resp now m) → OnlyIn m (handle_vote_resp nat_cmp entry_meaning config target resp now m)
    unfolding handle_vote_resp take_grant take_rejection
    vote_resp-only target resp now m own = go m.candidate own
      where
        responded : Option WorldCandidate → WorldMachine
        responded o =
            elim o as (λ _. WorldMachine) [
              | None ↦ m
              | Some c ↦
                  (if is_granted_to nat_cmp resp c.vote then (let granted = grant_by nat_cmp c target in if is_granted (is_quorum nat_cmp) granted then lead_by_votes nat_cmp entry_meaning config granted now m else record m { candidate = Some granted })
                  else update_vote nat_cmp entry_meaning config (as_uncommitted resp.vote) now m)
            ]

        go : (o : Option WorldCandidate) → IfSome o (λ (c : WorldCandidate). is_eq (vote_cmp nat_cmp c.vote m.core.state.vote) ≡ true → c.vote.leader_id.node_id ≡ n)
            → High (responded o) → OnlyIn m (responded o)
        go None k = λ _. here m.core m.core refl
        go (Some c) k =
            either (λ (q : WorldMachine). High q → OnlyIn m q) (is_granted_to nat_cmp resp c.vote) _ _
            (either (λ (q : WorldMachine). High q → OnlyIn m q) (is_granted (is_quorum nat_cmp) (grant_by nat_cmp c target)) _ _ (lead_by_votes-only (grant_by nat_cmp c target) now m k) (λ _. here m.core m.core refl))
            (update_vote-only (as_uncommitted resp.vote) now m)

    pub vote_req-only : (req : VoteRequest ℕ) (now : ℕ) (m : WorldMachine) → High (handle_vote_req nat_cmp entry_meaning config req now m) → OnlyIn m (handle_vote_req nat_cmp entry_meaning config req now m)
    unfolding handle_vote_req
    vote_req-only req now m = either (λ (q : WorldMachine). High q → OnlyIn m q) (refuses_vote_req nat_cmp config m.core.state req now) _ _ (λ _. here m.core m.core refl) (update_vote-only req.vote now m)

    -- entries
    do_append-only : (es : List Entry) → AllByRecursion (Brought n low) es → (c : WorldCore) → Only c (do_append_entries nat_cmp entry_meaning config es c)
    unfolding do_append_entries
    do_append-only es k c =
        let taken : WorldCore = with_state c (with_entries entry_meaning c.state es) in
        let t : Only c taken = here c taken refl in
        let settled : WorldCore = if length (memberships_in entry_meaning es) == 0 then taken else update_role nat_cmp config taken in
        let s : Only c settled = either (Only c) (length (memberships_in entry_meaning es) == 0) _ _ t (only_then (Brings n low) c taken (update_role nat_cmp config taken) t (role_only (Brings n low) nat_cmp config brings_leading taken)) in
        either (Only c) (length es == 0) _ _ (here c c refl)
        (only_then (Brings n low) c settled (then_command settled (AppendInputEntries c.state.vote es)) s (only_of (Brings n low) (AppendInputEntries c.state.vote es ∷ []) settled _ refl (k, tt)))

    pub initialize-only : (first : ℕ) (e : Entry) → first ≡ 0 → (now : ℕ) (m : WorldMachine) → High (initialize nat_cmp entry_meaning config first e now m) → OnlyIn m (initialize nat_cmp entry_meaning config first e now m)
    unfolding initialize
    initialize-only first e k now m high =
        let taken = on_core (do_append_entries nat_cmp entry_meaning config (entry_meaning.with_id e (default_log_id first) ∷ [])) m in
        only_then (Brings n low) m.core taken.core _ (do_append-only (entry_meaning.with_id e (default_log_id first) ∷ []) (inl (omega (arith, k)), tt) m.core) (elect-only now taken high)

    -- a request that is rejected
    append_entries-only : (v : Vote ℕ) (prev : Option (LogId ℕ)) (es : List Entry) (now : ℕ) (m : WorldMachine) → (rejects_vote nat_cmp m.core.state v ≡ false → ⊥) → OnlyIn m (append_entries nat_cmp entry_meaning config v prev es now m)
    unfolding append_entries
    append_entries-only v prev es now m k = go (rejects_vote nat_cmp m.core.state v) refl
      where
        go : (b : Bool) → rejects_vote nat_cmp m.core.state v ≡ b → OnlyIn m (if b then m else on_core (follow nat_cmp entry_meaning config prev es) (update_vote nat_cmp entry_meaning config v now m))
        go true e = here m.core m.core refl
        go false e = absurd (k e)

    pub handle_append-only : (v : Vote ℕ) (prev : Option (LogId ℕ)) (es : List Entry) (token : Token) (now : ℕ) (m : WorldMachine) → (rejects_vote nat_cmp m.core.state v ≡ false → ⊥)
        → OnlyIn m (handle_append_entries nat_cmp entry_meaning config v prev es (Some token) now m)
    unfolding handle_append_entries
    handle_append-only v prev es token now m k =
        let done = append_entries nat_cmp entry_meaning config v prev es now m in
        only_then (Brings n low) m.core done.core _ (append_entries-only v prev es now m k)
        (respond_only None (respond.AppendEntries (record { value = append_response (append_answer nat_cmp entry_meaning config v prev now m); token = token })) done.core)

    pub commit-only : (x : Option (LogId ℕ)) (m : WorldMachine) → OnlyIn m (handle_commit_entries nat_cmp entry_meaning config x m)
    unfolding handle_commit_entries commit_entries
    commit-only x m = commit_by_only (Brings n low) nat_cmp config brings_leading [] (commit_target nat_cmp m.core.state x) m.core tt

    -- purges and snapshots
    pub purge-only : (c : WorldCore) → Only c (purge_log nat_cmp c)
    unfolding purge_log
    purge-only c =
        either_option (Only c) c.state.purge_to c _ (here c c refl)
        (λ x. either (Only c) (is_gt (last_id_cmp nat_cmp (Some x) c.state.purged)) _ _
        (only_of (Brings n low) (PurgeLog x ∷ []) c (record { state = purge nat_cmp c.state x; output = with_command c.output (PurgeLog x) }) refl (tt, tt)) (here c c refl))

    try_purge-only : (rows : List (ℕ × ProgressEntry ℕ)) (c : WorldCore) → Only c (try_purge_log nat_cmp rows c)
    unfolding try_purge_log
    try_purge-only rows c = either (Only c) (is_target_inflight nat_cmp rows c.state) c (purge_log nat_cmp c) (here c c refl) (purge-only c)

    unless-only : (l : WorldLed) → Only l.core (purge_unless_inflight nat_cmp l).core
    unfolding purge_unless_inflight
    unless-only l = try_purge-only l.leader.progress.rows l.core

    pub trigger_purge-only : (i : ℕ) (m : WorldMachine) → OnlyIn m (trigger_purge_log nat_cmp i m)
    unfolding trigger_purge_log
    trigger_purge-only i m =
        either_option (Only m.core) m.core.state.snap.last_log_id m.core _ (here m.core m.core refl)
        (λ x. either (Only m.core) (nat_lt i (next m.core.state.purge_to)) _ _ (here m.core m.core refl)
        (let targeted = update_purge_upto (at m.core.state.ids (min i x.index)) m.core in
        only_then (Brings n low) m.core targeted _ (here m.core targeted refl) (try_purge-only (rows_in m) targeted)))

    recorded-only : (meta : SnapshotMeta ℕ (Unit {0})) (c : WorldCore) → Only c (update_snapshot nat_cmp meta c)
    unfolding update_snapshot
    recorded-only meta c = either (Only c) (is_newer_snapshot nat_cmp c.state meta) _ _ (here c _ refl) (here c c refl)

    schedule-only : (c : WorldCore) → Only c (schedule_policy_based_purge nat_cmp config c)
    unfolding schedule_policy_based_purge
    schedule-only c = here c _ refl

    pub finish-only : (meta : SnapshotMeta ℕ (Unit {0})) (m : WorldMachine) → OnlyIn m (finish_building_snapshot nat_cmp config meta m)
    unfolding finish_building_snapshot
    finish-only meta m =
        let b = built m.core in
        let recorded = update_snapshot nat_cmp meta b in
        let scheduled = schedule_policy_based_purge nat_cmp config recorded in
        either (Only m.core) (is_newer_snapshot nat_cmp b.state meta) _ _
        (only_then (Brings n low) m.core b _ (here m.core b refl)
        (only_then (Brings n low) b recorded _ (recorded-only meta b) (only_then (Brings n low) recorded scheduled _ (schedule-only recorded) (try_purge-only (rows_in m) scheduled))))
        (here m.core b refl)

    pub trigger_snapshot-only : (c : WorldCore) → Only c (trigger_snapshot c)
    trigger_snapshot-only c = trigger_only (Brings n low) brings_leading c

    -- a leader's calls
    leads_on-only : (l : WorldLed) → Only l.core (lead_on nat_cmp config l).core
    leads_on-only l =
        let told : WorldLed = update_local_progress nat_cmp config (last l.core.state.ids) l in
        only_then (Brings n low) l.core told.core _ (local_only (Brings n low) nat_cmp config brings_leading (last l.core.state.ids) l) (initiate_only (Brings n low) nat_cmp config brings_leading false told)

    pub progress-only : {T : Type 0} (target : ℕ) (id : RequestId) (reply : Result (ReplicationResult ℕ) T) (l : WorldLed) → Only l.core (update_progress nat_cmp config target id reply l).core
    unfolding update_progress
    progress-only target id reply l =
        let taken = take_reply nat_cmp config target id reply l in
        let freed = purge_unless_inflight nat_cmp taken in
        only_then (Brings n low) l.core freed.core _
        (only_then (Brings n low) l.core taken.core freed.core (reply_only (Brings n low) nat_cmp config brings_leading target id reply l) (unless-only taken))
        (sends_only (Brings n low) nat_cmp config brings_leading target freed).0

    pub startup-only : (m : WorldMachine) → High (startup nat_cmp entry_meaning config m) → OnlyIn m (startup nat_cmp entry_meaning config m)
    unfolding startup
    startup-only m =
        let led : WorldMachine = update_internal_server_state nat_cmp entry_meaning config m in
        either (λ (q : WorldMachine). High q → OnlyIn m q) (is_leader nat_cmp m.core.state config.id) _ _
        (λ high.
        let h : High led = subst (λ (v : Vote ℕ). low ≤ number v.leader_id) (lead_on_vote config led) high in
        only_then (Brings n low) m.core led.core _ (internal-only m (internal_high m h)) (either_option (OnlyIn led) led.leader _ _ (here led.core led.core refl) (λ l. leads_on-only (record { leader = l; core = led.core }))))
        (λ _. here m.core _ refl)

    pub step_down-only : (m : WorldMachine) → High (leader_step_down nat_cmp entry_meaning config m) → OnlyIn m (leader_step_down nat_cmp entry_meaning config m)
    unfolding leader_step_down
    step_down-only m = either (λ (q : WorldMachine). High q → OnlyIn m q) (is_settled nat_cmp m.core.state) _ _ (λ high. internal-only m (internal_high m high)) (λ _. here m.core m.core refl)

    -- a snapshot that is rejected
    pub handle_install-only : (snapshot : WorldSnapshot) (v : Vote ℕ) (token : Token) (now : ℕ) (m : WorldMachine) → (rejects_vote nat_cmp m.core.state v ≡ false → ⊥) → OnlyIn m (handle_install_full_snapshot nat_cmp entry_meaning config v snapshot token now m)
    unfolding handle_install_full_snapshot
    handle_install-only snapshot v token now m k = go (rejects_vote nat_cmp m.core.state v) refl
      where
        go : (b : Bool) → rejects_vote nat_cmp m.core.state v ≡ b
            → OnlyIn m (if b then on_core (reply_install None token) m else on_core (install_and_reply nat_cmp entry_meaning config snapshot token) (update_vote nat_cmp entry_meaning config v now m))
        go true e = respond_only _ _ m.core
        go false e = absurd (k e)
