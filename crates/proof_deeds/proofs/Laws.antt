-- The laws of calls about votes, from what is proved of each.
use Rattle.std.proofs.Common.{ℕ, ◌≤◌, ◌≡◌, inr, List, [], ◌++◌, length, sym, ap, ap₂, ◌∙◌, subst, None}
use Rattle.std.specs.List.{AllByRecursion}
use Rattle.std.specs.Ordering.{nat_cmp}
use Rattle.std.proofs.lemmas.Cmp.{nat_cmp_total}
use Rattle.raft_node.specs.raft_state.declared.membership.Members.{Members}
use Rattle.raft_node.specs.raft_state.Same.{nat_same}
use Rattle.raft_node.specs.raft_command.declared.config.EngineConfig.{EngineConfig}
use Rattle.raft_node.specs.raft_command.declared.message.VoteResponse.{VoteResponse}
use Rattle.raft_node.specs.raft_steps.Refusals.{refusals_of_vote_resp}
use Rattle.raft_node.specs.raft_steps.Engine.{elect, handle_vote_resp, initialize}
use Rattle.raft_node.specs.raft_steps.FollowingHandler.{memberships_in}
use Rattle.raft_node.specs.raft_steps.Laws.{Queues}
use Rattle.raft_node.specs.raft_steps.Requests.{handle_vote_req}
use Rattle.raft_node.proofs.raft_steps_proofs.KeptEngine.{handle_vote_resp_is_sound}
use Rattle.raft_node.proofs.raft_steps_proofs.LawsFollow.{handle_vote_req_queues}
use Rattle.raft_node.proofs.raft_steps_proofs.LawsQueue.{elect_queues, handle_vote_resp_queues}
use Rattle.raft_node.specs.raft_store.Entries.{entry_meaning}
use Rattle.raft_node.specs.raft_store.Mirror.{last_two}
use Rattle.raft_node.specs.raft_store.Store as store
use Rattle.raft_node.specs.raft_store.Types.{WorldCommand, WorldMachine, WorldStore}
use Rattle.proof_mirror.specs.Ready.{PendingIn}
use Rattle.proof_mirror.proofs.Elections.{pending_elect, pending_vote_resp}
use Rattle.proof_mirror.proofs.Proposes.{takes_id}
use Rattle.proof_mirror.proofs.Sound.{machine_asks}
use Rattle.proof_mirror.proofs.Starting.{pending_vote_req_passed, sound_order}
use Rattle.raft_node.specs.raft_calls.declared.message.Body.{Body}
use Rattle.raft_node.specs.raft_calls.declared.message.Message.{Message}
use Rattle.raft_node.specs.raft_calls.declared.message.Body.TheVariants as body
use Rattle.raft_node.specs.declared.node.Turn.{Turn}
use Rattle.raft_node.specs.raft_calls.Feeds.{own_grant}
use Rattle.raft_node.specs.raft_calls.Elections.{first_entry}
use Rattle.proof_deeds.specs.Chains.{Unread, left_by}
use Rattle.proof_deeds.specs.Follows.{BodyIs, VoteAnswered, VoteAsked}
use Rattle.proof_deeds.specs.Images.{Ideal, IsNamed, number, setup_of}
use Rattle.proof_deeds.specs.Knows.{CarriedIn, Delivered, Stands}
use Rattle.proof_deeds.proofs.Asking.{carried_elect, carried_vote_req, carried_vote_requested}
use Rattle.proof_deeds.proofs.Beginning.{IsEmpty, IsFresh, carried_initialize, empty_of, fresh_of}
use Rattle.proof_deeds.proofs.Calls.{ByElect, ByInitialize, ByOwnGrant, ByVoteReply, ByVoteRequest, WorldState}
use Rattle.proof_deeds.proofs.Drains.{takes}
use Rattle.proof_deeds.proofs.ElectionLaws.{elections_done}
use Rattle.proof_deeds.proofs.Kept.{Both, cm_of, elect_cm, initialize_cm, queues_rise, vote_at_least, vote_req_cm, vote_resp_cm}
use Rattle.proof_deeds.proofs.Tails.{tail_named}

pub unread : (cs : List WorldCommand) → cs ≡ [] → AllByRecursion Unread cs
unread cs e = subst (AllByRecursion Unread) (sym e) tt

-- what is told of a message, by what it says
pub said : (first : Members ℕ (Unit {0})) (t : Turn) (W : Ideal) (msg : Message) (b : Body) → Delivered (setup_of first) t W msg → msg.body ≡ b → BodyIs (setup_of first) msg.from t.id b W
said first t W msg b d e = subst (λ to. BodyIs (setup_of first) msg.from to b W) d.here (subst (λ c. BodyIs (setup_of first) msg.from msg.to c W) e d.is)

-- `Extra` is of the committed membership alone, and of how high the vote is; of none there is nothing to know
module _ (first : Members ℕ (Unit {0})) (Extra : Ideal → WorldState → Type 0) (alike : (W : Ideal) (st st2 : WorldState) → st2.cm ≡ st.cm → number st.vote.leader_id ≤ number st2.vote.leader_id → st2.committed ≡ st.committed → Extra W st → Extra W st2)
    (unset : (W : Ideal) (st : WorldState) → st.cm.log_id ≡ None → Extra W st) where
  -- the vote of an engine whose queue is carried names a u64
  named : (t : Turn) (u : WorldStore) (W : Ideal) (m : WorldMachine) → PendingIn nat_cmp entry_meaning (λ es. es) u m → CarriedIn (setup_of first) t u W m → IsNamed m.core.state.vote.leader_id
  named t u W m p k = tail_named (setup_of first) (left_by u m.core.output.items) (k.end.store t.id) m.core.state k.store p.core.in_step

  -- a call that leaves the committed membership
  pub voted : (t : Turn) (config : EngineConfig ℕ) (u : WorldStore) (W : Ideal) (m n : WorldMachine) → Stands (setup_of first) t config u W m → PendingIn nat_cmp entry_meaning (λ es. es) u n → CarriedIn (setup_of first) t u W n → cm_of n ≡ cm_of m → Queues nat_cmp m.core n.core
      → Extra W m.core.state → Extra W n.core.state
  voted t config u W m n h p k e q x = alike W m.core.state n.core.state (ap (λ (p : Both). p.0) e) (vote_at_least m.core.state.vote n.core.state.vote (named t u W m h.pending h.carried) (named t u W n p k) (queues_rise m.core n.core q)) (ap (λ (p : Both). p.1) e) x

  pub elect_law : ByElect first Extra
  elect_law t config u W m h empty unled asks x =
      let n : WorldMachine = elect nat_cmp entry_meaning config t.moment m in
      let k : CarriedIn (setup_of first) t u W n = carried_elect first t config h.id u W t.moment m h.pending.core h.sound.sound (unread m.core.output.items empty) unled h.node h.carried in
      let p : PendingIn nat_cmp entry_meaning (λ es. es) u n = pending_elect nat_cmp entry_meaning (takes_id entry_meaning takes) (λ es. es) config u t.moment m h.pending in
      (k, voted t config u W m n h p k (elect_cm config t.moment m) (elect_queues nat_cmp nat_cmp_total entry_meaning config t.moment m) x)

  pub initialize_law : ByInitialize first Extra
  initialize_law t config u W m h empty unled asks x = (
    carried_initialize first t config h.id u W t.moment m h.pending.core h.sound.sound (unread m.core.output.items empty) unled h.node asks h.carried,
    unset W (initialize nat_cmp entry_meaning config 0 (first_entry first) t.moment m).core.state (ap (λ (y : Both). y.0.log_id) (initialize_cm config first t.moment m) ∙ (ap (λ y. y.log_id) h.pending.core.in_step.mirrors.em ∙ none)),
  )
    where
      f : IsFresh m.core.state
      f = fresh_of config (first_entry first) m asks

      e : IsEmpty (left_by u m.core.output.items)
      e = empty_of (left_by u m.core.output.items) m.core.state h.pending.core.in_step f.ids

      none : (last_two (memberships_in entry_meaning (store.whole (left_by u m.core.output.items)))).1.log_id ≡ None
      none = ap₂ (λ es log. (last_two (memberships_in entry_meaning (es ++ store.past (length es) log))).1.log_id) e.snap e.log

  pub vote_request_law : ByVoteRequest first Extra
  vote_request_law t config u W m h empty msg req d is asks x =
      let a : VoteAsked t.id req W = said first t W msg (body.VoteRequest req) d is in
      let n : WorldMachine = handle_vote_req nat_cmp entry_meaning config req t.moment m in
      let k : CarriedIn (setup_of first) t u W n = carried_vote_req first t config h.id u W req t.moment m h.pending.core h.sound.sound (unread m.core.output.items empty) h.reached a h.carried in
      let p : PendingIn nat_cmp entry_meaning (λ es. es) u n = pending_vote_req_passed nat_cmp nat_cmp_total nat_same entry_meaning takes (λ es. es) config u req t.moment m h.pending h.sound asks in (
        carried_vote_requested first t config h.id u W h.reached req t.moment m msg h.pending.core h.sound.sound (unread m.core.output.items empty) d is a h.carried,
        voted t config u W m n h p k (vote_req_cm config req t.moment m) (handle_vote_req_queues nat_cmp nat_cmp_total entry_meaning config req t.moment m) x,
      )

  -- what the mirror and the steps say of a reply
  replied_pending : (t : Turn) (config : EngineConfig ℕ) (u : WorldStore) (W : Ideal) (m : WorldMachine) → Stands (setup_of first) t config u W m → (target : ℕ) (resp : VoteResponse ℕ) → refusals_of_vote_resp nat_cmp config target resp m ≡ None
      → PendingIn nat_cmp entry_meaning (λ es. es) u (handle_vote_resp nat_cmp entry_meaning config target resp t.moment m)
  replied_pending t config u W m h target resp asks =
      pending_vote_resp nat_cmp entry_meaning (takes_id entry_meaning takes) (λ es. es) config u target resp t.moment m h.pending (machine_asks nat_cmp config m h.sound)
      (sound_order nat_cmp config (handle_vote_resp nat_cmp entry_meaning config target resp t.moment m) (handle_vote_resp_is_sound nat_cmp nat_cmp_total nat_same entry_meaning takes config target resp t.moment m asks h.sound))

  replied_keeps : (t : Turn) (config : EngineConfig ℕ) (u : WorldStore) (W : Ideal) (m : WorldMachine) → Stands (setup_of first) t config u W m → (target : ℕ) (resp : VoteResponse ℕ) → refusals_of_vote_resp nat_cmp config target resp m ≡ None
      → Extra W m.core.state → (let n : WorldMachine = handle_vote_resp nat_cmp entry_meaning config target resp t.moment m in CarriedIn (setup_of first) t u W n → CarriedIn (setup_of first) t u W n × Extra W n.core.state)
  replied_keeps t config u W m h target resp asks x k =
      let n : WorldMachine = handle_vote_resp nat_cmp entry_meaning config target resp t.moment m in
      (k, voted t config u W m n h (replied_pending t config u W m h target resp asks) k (vote_resp_cm config target resp t.moment m) (handle_vote_resp_queues nat_cmp nat_cmp_total entry_meaning config target resp t.moment m) x)

  pub vote_reply_law : ByVoteReply first Extra
  vote_reply_law t config u W m h empty msg resp d is asks x =
      let a : VoteAnswered msg.from resp W = said first t W msg (body.VoteReply resp) d is in
      replied_keeps t config u W m h msg.from resp asks x
      ((elections_done first).by_vote_resp config t u W msg.from resp t.moment m h (unread m.core.output.items empty) asks a.told.named (inr a.told.claimed) (λ g. inr (a.granted g)))

  pub own_grant_law : ByOwnGrant first Extra
  own_grant_law t config u W m h v c some_c own asks x = replied_keeps t config u W m h config.id (own_grant v) asks x ((elections_done first).by_own_grant config t u W v c t.moment m h some_c own asks)
