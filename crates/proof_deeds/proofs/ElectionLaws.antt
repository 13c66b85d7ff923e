-- The laws of elections, of a node that stands.
use Rattle.std.proofs.Common.{ℕ, ◌≡◌, ◌∙◌, inl, Bool, true, Option, None, Some, ap, refl, subst, sym, if◌then◌else◌}
use Rattle.std.specs.Prelude.{IfSome}
use Rattle.std.specs.Ordering.{is_eq, nat_cmp}
use Rattle.std.proofs.lemmas.Cmp.{nat_cmp_total}
use Rattle.raft_node.specs.raft_state.declared.ids.Vote.{Vote}
use Rattle.raft_node.specs.raft_state.declared.membership.Members.{Members}
use Rattle.raft_node.specs.raft_state.Order.{vote_cmp}
use Rattle.raft_node.specs.raft_state.Same.{nat_same}
use Rattle.raft_node.proofs.raft_state_proofs.Orders.{is_equal}
use Rattle.raft_node.specs.raft_command.declared.config.EngineConfig.{EngineConfig}
use Rattle.raft_node.specs.raft_command.Message.{is_granted_to}
use Rattle.raft_node.specs.raft_steps.Engine.{handle_vote_resp, take_grant, take_rejection}
use Rattle.raft_node.specs.raft_steps.Invariants.{CandidateFits, CandidateIsCurrent, IsSound}
use Rattle.raft_node.specs.raft_steps.Refusals.{refusals_of_vote_resp}
use Rattle.raft_node.proofs.raft_steps_proofs.KeptEngine.{handle_vote_resp_is_sound}
use Rattle.raft_node.proofs.raft_steps_proofs.Leads.{vote_same}
use Rattle.raft_node.specs.raft_store.Entries.{entry_meaning}
use Rattle.raft_node.specs.raft_store.Types.{WorldCandidate, WorldMachine, WorldStore}
use Rattle.proof_mirror.proofs.Starting.{sound_order}
use Rattle.raft_node.specs.raft_calls.declared.message.Body.{Body}
use Rattle.raft_node.specs.raft_calls.declared.message.Body.TheVariants as body
use Rattle.raft_node.specs.raft_calls.declared.message.Message.{Message}
use Rattle.raft_node.specs.declared.node.Turn.{Turn}
use Rattle.raft_node.specs.raft_calls.Feeds.{own_grant}
use Rattle.proof_deeds.specs.ElectionDeeds.{ElectionsDone}
use Rattle.proof_deeds.specs.Follows.{BodyIs}
use Rattle.proof_deeds.specs.Images.{Ideal, setup_of}
use Rattle.proof_deeds.specs.Knows.{AllJoined, CarriedIn, Delivered, Knows, KnowsGrants, Stands}
use Rattle.proof_deeds.proofs.Asking.{carried_elect, carried_vote_requested}
use Rattle.proof_deeds.proofs.Beginning.{carried_initialize}
use Rattle.proof_deeds.proofs.HigherVotes.{higher_carried}
use Rattle.proof_deeds.proofs.Overlap.{all_joined}
use Rattle.proof_deeds.proofs.Pushes.{carry}
use Rattle.proof_deeds.proofs.Replies.{Asks, alone_leader, carried_grant, carried_vote_resp}
use Rattle.proof_deeds.proofs.Voting.{carried_heard}
use Rattle.proof_deeds.proofs.Worlds.{if_some}

module _ (first : Members ℕ (Unit {0})) where
  joined : AllJoined (setup_of first)
  joined = all_joined (setup_of first)

  -- what a delivered message says
  pub delivered_body : (t : Turn) (W : Ideal) (msg : Message) (b : Body) → Delivered (setup_of first) t W msg → msg.body ≡ b → BodyIs (setup_of first) msg.from t.id b W
  delivered_body t W msg b d e = subst (λ to. BodyIs (setup_of first) msg.from to b W) d.here (subst (λ c. BodyIs (setup_of first) msg.from msg.to c W) e d.is)

  -- a candidate that fits asks by the log's end
  asking : (t : Turn) (config : EngineConfig ℕ) (u : WorldStore) (W : Ideal) (m : WorldMachine) (h : Stands (setup_of first) t config u W m) (c : WorldCandidate)
      → CandidateFits nat_cmp config.id m.core.state.vote m.core.state.ids m.core.state.em.membership c → Asks first t config h.id u W h.reached joined m c
  asking t config u W m h c f = record {
    pending = f.pending;
    current = λ e. let k : CandidateIsCurrent nat_cmp config.id m.core.state.ids m.core.state.em.membership c = f.current e in record { own = k.own; member = k.member; groups = k.groups };
    end = λ e. (f.current e).last_id;
  }

  -- the node's own grant is counted
  counted : (config : EngineConfig ℕ) (v : Vote ℕ) (c : WorldCandidate) (now : ℕ) (m : WorldMachine) → m.candidate ≡ Some c → is_eq (vote_cmp nat_cmp c.vote v) ≡ true
      → handle_vote_resp nat_cmp entry_meaning config config.id (own_grant v) now m ≡ take_grant nat_cmp entry_meaning config c config.id now m
  unfolding handle_vote_resp
  counted config v c now m e q =
      ap (λ o. reply o) e ∙ ap (λ b. pick b) granted
    where
      pick : Bool → WorldMachine
      pick b = if b then take_grant nat_cmp entry_meaning config c config.id now m else take_rejection nat_cmp entry_meaning config (own_grant v) now m

      reply : Option WorldCandidate → WorldMachine
      reply o = elim o [ None ↦ m | Some c ↦ (if is_granted_to nat_cmp (own_grant v) c.vote then take_grant nat_cmp entry_meaning config c config.id now m else take_rejection nat_cmp entry_meaning config (own_grant v) now m) ]

      same : c.vote ≡ v
      same = vote_same nat_cmp nat_same c.vote v (is_equal _ q)

      granted : is_granted_to nat_cmp (own_grant v) c.vote ≡ true
      granted = subst (λ (w : Vote ℕ). is_eq (vote_cmp nat_cmp w c.vote) ≡ true) same (subst (λ (w : Vote ℕ). is_eq (vote_cmp nat_cmp c.vote w) ≡ true) (sym same) q)

  own_grant_done : (config : EngineConfig ℕ) (t : Turn) (u : WorldStore) (W : Ideal) (v : Vote ℕ) (c : WorldCandidate) (now : ℕ) (m : WorldMachine) → Stands (setup_of first) t config u W m → m.candidate ≡ Some c → is_eq (vote_cmp nat_cmp c.vote v) ≡ true
      → refusals_of_vote_resp nat_cmp config config.id (own_grant v) m ≡ None → CarriedIn (setup_of first) t u W (handle_vote_resp nat_cmp entry_meaning config config.id (own_grant v) now m)
  own_grant_done config t u W v c now m h some_c own asks =
      let f : CandidateFits nat_cmp config.id m.core.state.vote m.core.state.ids m.core.state.em.membership c = subst (λ o. IfSome o (CandidateFits nat_cmp config.id m.core.state.vote m.core.state.ids m.core.state.em.membership)) some_c h.sound.lead.candidate_fits in
      let e : handle_vote_resp nat_cmp entry_meaning config config.id (own_grant v) now m ≡ take_grant nat_cmp entry_meaning config c config.id now m = counted config v c now m some_c own in
      let sound : IsSound nat_cmp config (handle_vote_resp nat_cmp entry_meaning config config.id (own_grant v) now m) = handle_vote_resp_is_sound nat_cmp nat_cmp_total nat_same entry_meaning (λ e id. (refl, refl)) config config.id (own_grant v) now m asks h.sound in
      subst (CarriedIn (setup_of first) t u W) (sym e)
      (carried_grant first t config h.id u W h.reached joined c config.id now m h.pending h.sound.sound h.ordered (alone_leader first t config h.id u W h.reached joined m c some_c h.carried) (asking t config u W m h c f) (inl h.id)
      (carry (setup_of first) t m.core.state.vote.leader_id u W m.core.output.items (Knows (setup_of first) t.id m) (λ V. Knows (setup_of first) t.id m V × KnowsGrants t.id c V) h.carried (λ V _ y. (y, subst (λ o. IfSome o (λ c. KnowsGrants t.id c V)) some_c y.candidate)))
      (sound_order nat_cmp config (take_grant nat_cmp entry_meaning config c config.id now m) (subst (IsSound nat_cmp config) e sound)))

  pub elections_done : ElectionsDone first
  elections_done = record {
    by_elect = λ config t u W now m h r none. carried_elect first t config h.id u W now m h.pending.core h.sound.sound r none h.node h.carried;
    by_initialize = λ config t u W now m h r none asks. carried_initialize first t config h.id u W now m h.pending.core h.sound.sound r none h.node asks h.carried;
    by_vote_request = λ config t u W req now msg m h r d e. carried_vote_requested first t config h.id u W h.reached req now m msg h.pending.core h.sound.sound r d e (delivered_body t W msg (body.VoteRequest req) d e) h.carried;
    by_vote_resp = λ config t u W target resp now m h r asks n c heard.
        carried_vote_resp first t config h.id u W h.reached joined target resp now m h.pending h.sound.sound h.ordered
        (if_some (CandidateFits nat_cmp config.id m.core.state.vote m.core.state.ids m.core.state.em.membership) (Asks first t config h.id u W h.reached joined m) (λ c f. asking t config u W m h c f) m.candidate h.sound.lead.candidate_fits)
        r n c heard h.carried
        (sound_order nat_cmp config (handle_vote_resp nat_cmp entry_meaning config target resp now m) (handle_vote_resp_is_sound nat_cmp nat_cmp_total nat_same entry_meaning (λ e id. (refl, refl)) config target resp now m asks h.sound));
    by_heard_vote = λ config t u W v now m h r n c other heard. carried_heard first t config h.id u W v now m h.pending.core h.sound.sound r n c other heard h.carried;
    by_own_grant = own_grant_done;
    by_higher_vote = λ config t u W v now m h r told. higher_carried first t config u W m h now r v told;
  }
