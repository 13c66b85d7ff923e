-- An election: what it makes of an engine.
use Rattle.std.proofs.Common.{ℕ, ◌+◌, ◌≡◌, ◌≢◌, Bool, true, false, ◌&&◌, List, [], ◌∷◌, ◌++◌, arith, refl, sym, ap, ◌∙◌, Option, None, Some}
use Rattle.std.specs.Prelude.{◌==◌, if◌then◌else◌}
use Rattle.std.specs.declared.cmp.Ordering.TheVariants.{Equal, Greater}
use Rattle.std.specs.Ordering.{is_eq, is_gt, is_lt, nat_cmp}
use Rattle.std.proofs.lemmas.Bool.Decides.{nat_tests}
use Rattle.proof_deeds.specs.raft_state.declared.ids.LeaderId.{LeaderId}
use Rattle.proof_deeds.specs.raft_state.declared.state.RaftState.{RaftState}
use Rattle.proof_deeds.specs.raft_state.declared.state.ServerState.{ServerState}
use Rattle.proof_deeds.specs.raft_state.declared.state.ServerState.TheVariants.{Learner, Follower, Candidate, Leader}
use Rattle.proof_deeds.specs.raft_state.Log.{last}
use Rattle.proof_deeds.specs.raft_state.Members.{contains, is_voter}
use Rattle.proof_deeds.specs.raft_state.Order.{vote_cmp}
use Rattle.proof_deeds.specs.raft_state.State.{is_leader, is_leading, server_state}
use Rattle.proof_deeds.specs.raft_error.declared.error.EngineError.{EngineError}
use Rattle.proof_deeds.specs.raft_error.Number.{first_refusal}
use Rattle.proof_deeds.specs.raft_command.declared.command.Command.TheVariants.{SaveVote, SendVote}
use Rattle.proof_deeds.specs.raft_command.declared.config.EngineConfig.{EngineConfig}
use Rattle.proof_deeds.specs.raft_proposer.Candidate.{candidate_of}
use Rattle.proof_deeds.specs.raft_proposer.Joint.{u64_max}
use Rattle.proof_deeds.specs.raft_steps.Engine.{elect}
use Rattle.proof_deeds.specs.raft_steps.Parts.{on_core, then_command, with_state}
use Rattle.proof_deeds.specs.raft_steps.Refusals.{refusals_of_elect}
use Rattle.proof_deeds.specs.raft_steps.ServerStateHandler.{role_commands, update_role}
use Rattle.proof_deeds.specs.raft_steps.VoteHandler.{become_following, become_leader, rejects_vote, take_vote, update_internal_server_state, update_vote}
use Rattle.proof_deeds.specs.raft_store.Entries.{entry_meaning}
use Rattle.proof_deeds.specs.raft_store.Types.{EngineView, WorldCommand, WorldLeader, WorldMachine}
use Rattle.proof_deeds.specs.raft_calls.Deliveries.{answered, with_machine}
use Rattle.proof_deeds.specs.raft_calls.Elections.{elected}
use Rattle.proof_deeds.proofs.Numbers.{later_vote}
use Rattle.proof_progress.specs.Elections.{pending}
use Rattle.proof_progress.proofs.Conditions.{EngineStands}
use Rattle.proof_progress.proofs.Images.{stood, stood_request, stood_vote}

pub term_above : (t : ℕ) → nat_cmp (t + 1) t ≡ Greater
term_above t = grind (arith, nat_tests)

pub itself : (t : ℕ) → nat_cmp t t ≡ Equal
itself t = grind (arith, nat_tests)

pub quiet : (r s : ServerState) → r ≢ Leader → s ≢ Leader → ◌≡◌ {A = List WorldCommand} (role_commands r s) []
quiet Leader s h k = absurd (h refl)
quiet Learner Leader h k = absurd (k refl)
quiet Learner Learner h k = refl
quiet Learner Follower h k = refl
quiet Learner Candidate h k = refl
quiet Follower Leader h k = absurd (k refl)
quiet Follower Learner h k = refl
quiet Follower Follower h k = refl
quiet Follower Candidate h k = refl
quiet Candidate Leader h k = absurd (k refl)
quiet Candidate Learner h k = refl
quiet Candidate Follower h k = refl
quiet Candidate Candidate h k = refl

pub if_true : {X : Type 0} (b : Bool) (x y : X) → b ≡ true → (if b then x else y) ≡ x
if_true true x y e = refl
if_true false x y e = cc

pub if_false : {X : Type 0} (b : Bool) (x y : X) → b ≡ false → (if b then x else y) ≡ y
if_false true x y e = cc
if_false false x y e = refl

pub and_no : (b : Bool) → (b && false) ≡ false
and_no true = refl
and_no false = refl

pub and_yes : (a b : Bool) → a ≡ true → b ≡ true → (a && b) ≡ true
and_yes true b e h = h
and_yes false b e h = cc

pub no_and : (a b : Bool) → a ≡ false → (a && b) ≡ false
no_and true b e = cc
no_and false b e = refl

-- it is saved, and the state's
abbrev pub raised : LeaderId ℕ → ℕ → WorldMachine → WorldMachine
raised d now m = record m { core = record { state = record m.core.state { vote = pending d; time = Some now }; output = record m.core.output { items = m.core.output.items ++ SaveVote (pending d) ∷ [] } } }

module _ (config : EngineConfig ℕ) (d : LeaderId ℕ) (now : ℕ) (m : WorldMachine) (g : vote_cmp nat_cmp (pending d) m.core.state.vote ≡ Greater) where
  pub raises : update_vote nat_cmp entry_meaning config (pending d) now m ≡ update_internal_server_state nat_cmp entry_meaning config (raised d now m)
  unfolding update_vote
  raises =
      if_false (rejects_vote nat_cmp m.core.state (pending d)) m (update_internal_server_state nat_cmp entry_meaning config (on_core (take_vote nat_cmp config (pending d) now) m)) (ap is_lt g)
      ∙ ap (λ c. update_internal_server_state nat_cmp entry_meaning config (record m { core = c }))
      (if_true (is_gt (vote_cmp nat_cmp (pending d) m.core.state.vote)) (raised d now m).core (with_state m.core (record m.core.state { time = Some now })) (ap is_gt g))

  -- a vote of one's own waits
  pub own_taken : is_eq (nat_cmp d.node_id config.id) ≡ true → contains nat_cmp m.core.state.em.membership config.id ≡ true → update_vote nat_cmp entry_meaning config (pending d) now m ≡ raised d now m
  unfolding update_internal_server_state
  own_taken own member =
      raises
      ∙ (if_false (is_leader nat_cmp (raised d now m).core.state config.id) (become_leader nat_cmp entry_meaning config (raised d now m)) (if is_leading nat_cmp (raised d now m).core.state config.id then raised d now m else become_following nat_cmp config (raised d now m)) (and_no (is_leading nat_cmp (raised d now m).core.state config.id))
      ∙ if_true (is_leading nat_cmp (raised d now m).core.state config.id) (raised d now m) (become_following nat_cmp config (raised d now m)) (and_yes (is_eq (nat_cmp d.node_id config.id)) (contains nat_cmp m.core.state.em.membership config.id) own member))

  -- another's is followed
  pub other_taken : is_eq (nat_cmp d.node_id config.id) ≡ false → update_vote nat_cmp entry_meaning config (pending d) now m ≡ become_following nat_cmp config (raised d now m)
  unfolding update_internal_server_state
  other_taken other =
      raises
      ∙ (if_false (is_leader nat_cmp (raised d now m).core.state config.id) (become_leader nat_cmp entry_meaning config (raised d now m)) (if is_leading nat_cmp (raised d now m).core.state config.id then raised d now m else become_following nat_cmp config (raised d now m)) (and_no (is_leading nat_cmp (raised d now m).core.state config.id))
      ∙ if_false (is_leading nat_cmp (raised d now m).core.state config.id) (raised d now m) (become_following nat_cmp config (raised d now m)) (no_and (is_eq (nat_cmp d.node_id config.id)) (contains nat_cmp m.core.state.em.membership config.id) other))

-- the role of a node under its own vote
role_waits : (s : RaftState ℕ (Unit {0})) (id : ℕ) → s.vote.committed ≡ false → is_leading nat_cmp s id ≡ true → server_state nat_cmp s id ≡ Candidate
role_waits s id p l =
    if_false (is_leader nat_cmp s id) Leader (if is_leading nat_cmp s id then Candidate else if is_voter nat_cmp s.em.membership id then Follower else Learner) (ap (λ b. is_leading nat_cmp s id && b) p ∙ and_no (is_leading nat_cmp s id))
    ∙ if_true (is_leading nat_cmp s id) Candidate (if is_voter nat_cmp s.em.membership id then Follower else Learner) l

-- and under another's
pub role_follows : (s : RaftState ℕ (Unit {0})) (id : ℕ) → s.vote.committed ≡ false → is_leading nat_cmp s id ≡ false → server_state nat_cmp s id ≢ Leader
role_follows s id p l z = go (is_voter nat_cmp s.em.membership id) (sym (if_false (is_leader nat_cmp s id) Leader (if is_leading nat_cmp s id then Candidate else if is_voter nat_cmp s.em.membership id then Follower else Learner) (ap (λ b. is_leading nat_cmp s id && b) p ∙ and_no (is_leading nat_cmp s id))
    ∙ if_false (is_leading nat_cmp s id) Candidate (if is_voter nat_cmp s.em.membership id then Follower else Learner) l) ∙ z)
  where
    go : (b : Bool) → (if b then Follower else Learner) ≡ Leader → ⊥
    go true e = cc
    go false e = cc

-- an event's answer where nothing is refused
pub unrefused_is : (r : Option (EngineError ℕ (Unit {0}))) (a b : EngineView) → r ≡ None → ◌≡◌ {A = Option ℕ × EngineView} (answered r a b) (None, b)
unrefused_is None a b e = refl
unrefused_is (Some r) a b e = cc

two_pass : {E : Type 0} (a b : Bool) (x y : E) → a ≡ false → b ≡ false → first_refusal ((a, x) ∷ (b, y) ∷ []) ≡ None
two_pass a b x y e f = rw (e, f) refl

pub elected_is : (now : ℕ) (e : EngineView) → EngineStands e → ◌≡◌ {A = Option ℕ × EngineView} (elected now e) (None, stood now e)
unfolding elect update_role
elected_is now e h =
    unrefused_is (refusals_of_elect nat_cmp e.config e.machine) e (with_machine e (elect nat_cmp entry_meaning e.config now e.machine)) (two_pass e.machine.core.output.spent (e.machine.core.state.vote.leader_id.term == u64_max) _ _ h.unspent h.term)
    ∙ ap (λ (m : WorldMachine). let x : Option ℕ × EngineView = (None, with_machine e m) in x) is
  where
    asked : WorldMachine
    asked = record e.machine { candidate = Some (candidate_of nat_cmp now (stood_vote e) (last e.machine.core.state.ids) e.machine.core.state.em.membership) }

    is : elect nat_cmp entry_meaning e.config now e.machine ≡ (stood now e).machine
    is =
        ap (λ (m : WorldMachine). on_core (λ c. update_role nat_cmp e.config (then_command c (SendVote (stood_request e)))) m) (own_taken e.config (stood_vote e).leader_id now asked (later_vote e.machine.core.state.vote e.config.id) (ap is_eq (itself e.config.id)) h.member)
        ∙ roles (server_state nat_cmp (record e.machine.core.state { vote = stood_vote e; time = Some now }) e.config.id) (role_waits (record e.machine.core.state { vote = stood_vote e; time = Some now }) e.config.id refl (and_yes (is_eq (nat_cmp e.config.id e.config.id)) (contains nat_cmp e.machine.core.state.em.membership e.config.id) (ap is_eq (itself e.config.id)) h.member))
      where
        made : List WorldCommand → Option WorldLeader → ServerState → List WorldCommand → WorldMachine
        made xs l r cs = record {
          core = record {
            state = record e.machine.core.state { vote = stood_vote e; time = Some now; role = r };
            output = record e.machine.core.output { items = ((xs ++ SaveVote (stood_vote e) ∷ []) ++ SendVote (stood_request e) ∷ []) ++ cs };
          };
          leader = l;
          candidate = Some (candidate_of nat_cmp now (stood_vote e) (last e.machine.core.state.ids) e.machine.core.state.em.membership);
        }

        roles : (r : ServerState) → r ≡ Candidate → made e.machine.core.output.items e.machine.leader r (role_commands e.machine.core.state.role r) ≡ (stood now e).machine
        roles r z =
            ap (λ r. made e.machine.core.output.items e.machine.leader r (role_commands e.machine.core.state.role r)) z
            ∙ (ap (λ cs. made e.machine.core.output.items e.machine.leader Candidate cs) (quiet e.machine.core.state.role Candidate h.role (λ z. cc))
            ∙ (ap (λ xs. made xs e.machine.leader Candidate []) h.rest ∙ ap (λ l. made [] l Candidate []) h.unled))
