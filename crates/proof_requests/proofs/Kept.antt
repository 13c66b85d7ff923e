-- What was so of requests is so after more actions of the model.
use Rattle.std.proofs.Common.{ℕ, zero, suc, ◌+◌, ◌-◌, ◌<◌, ◌≤◌, ◌≡◌, ◌⊎◌, inl, ⊎_elim, List, [], ◌∷◌, ◌++◌, length, map, arith, refl, sym, ap, ◌∙◌, subst, Some, append_assoc}
use Rattle.std.specs.Prelude.{Contains, slice_get}
use Rattle.std.specs.List.{AllByRecursion}
use Rattle.std.proofs.lemmas.Bool.{cases_lt}
use Rattle.std.proofs.lemmas.List.{append-nil, length-append}
use Rattle.raft_store.specs.declared.entry.Value.{Value}
use Rattle.raft_node.specs.declared.act.Act.TheVariants.{Propose}
use Rattle.raft_node.specs.declared.given.Given.{Given}
use Rattle.raft_answers.specs.declared.request.Proposal.{Proposal}
use Rattle.raft_answers.specs.declared.request.Request.{Request}
use Rattle.raft_answers.specs.Requests.{Open}
use Rattle.proof_clients.proofs.Sequences.{each_of}
use Rattle.proof_clients.proofs.Slots.{here, there}
use Rattle.proof_servers.specs.Servers.{Action, AllMayAct, Cluster, Crashes, MayTake, Step, Takes, after_action, after_actions, new_cluster, with_step}
use Rattle.proof_servers.proofs.Follow.{changes}
use Rattle.proof_answers.specs.Answers.{Proposed}
use Rattle.proof_requests.specs.Actions.{after_steps, flushes}
use Rattle.proof_requests.specs.Laws.{IsOwnAction}
use Rattle.proof_requests.specs.Requests.{AllPairs, AreOpen, ArePlaced, Asked, IsAwaited, IsWaiting, Placed, server_after}
use Rattle.proof_requests.proofs.Lists.{slot_behind, slot_less}
use Rattle.proof_requests.proofs.More.{after_both, proposed_less, proposed_more}

-- no crash of this server, and no proposal
abbrev pub NoCrash : ℕ → List Action → Type 0
NoCrash id took = (j k at : ℕ) → slice_get took j ≡ Some (Crashes id k at) → ⊥

abbrev pub NoProposal : List Action → Type 0
NoProposal took = (j id : ℕ) (step : Step) (values : List Value) → slice_get took j ≡ Some (Takes id step) → step.act ≡ Propose values → ⊥

pub own_no_crash : (id : ℕ) (took : List Action) → AllByRecursion (IsOwnAction id) took → NoCrash id took
own_no_crash id [] h j k at e = cc
own_no_crash id (a ∷ took) h zero k at e = let z : a ≡ Crashes id k at = cc in subst (IsOwnAction id) z h.0
own_no_crash id (a ∷ took) h (suc j) k at e = own_no_crash id took h.1 j k at e

module _ (given : Given) (actions took : List Action) where
  pub placed_kept : (placed : List Placed) → NoProposal took → ArePlaced given actions placed → ArePlaced given (actions ++ took) placed
  placed_kept placed none h = record {
    each = each_of (λ (w : Placed). Proposed given actions w.call w.value w.entry) (λ (w : Placed). Proposed given (actions ++ took) w.call w.value w.entry)
        (λ w p. proposed_more given actions took w.call w.value w.entry p) placed h.each;
    all = λ call v x p.
        ⊎_elim
        (λ (l : call < length actions). h.all call v x (proposed_less given actions took call v x l p))
        (λ (l : length actions ≤ call). absurd (none (call - length actions) x.log_id.leader_id.node_id p.step p.values (sym (slot_behind actions took (call - length actions) call (omega (arith, l))) ∙ p.takes) p.proposes))
        (cases_lt call (length actions));
    once = h.once;
    single = h.single;
    markers = h.markers;
  }

  module _ (placed placed' : List Placed) (id : ℕ) (quiet : NoCrash id took) (grows : (w : Placed) → Contains placed w → Contains placed' w) where
    awaited_on : (p : Proposal) (a : Asked) → ((w : Placed) → Contains placed' w → w.by ≡ Some (id, a.number) → Contains placed w) → IsAwaited given actions placed id p a → IsAwaited given (actions ++ took) placed' id p a
    awaited_on p a back h = record {
      token = h.token;
      awaits = h.awaits;
      there = grows h.awaits h.there;
      own = h.own;
      only = λ w c e. h.only w (back w c e) e;
      same = h.same;
      here = h.here;
      later = h.later;
      runs = λ number k at l e.
          ⊎_elim
          (λ (m : number < length actions). h.runs number k at l (sym (slot_less actions took number m) ∙ e))
          (λ (m : length actions ≤ number). quiet (number - length actions) k at (sym (slot_behind actions took (number - length actions) number (omega (arith, m))) ∙ e))
          (cases_lt number (length actions));
    }

    pub all_awaited_on : (ps : List Proposal) (askers : List Asked) → ((a : Asked) → Contains askers a → (w : Placed) → Contains placed' w → w.by ≡ Some (id, a.number) → Contains placed w)
        → AllPairs (IsAwaited given actions placed id) ps askers → AllPairs (IsAwaited given (actions ++ took) placed' id) ps askers
    all_awaited_on [] [] f h = tt
    all_awaited_on [] (a ∷ askers) f h = absurd h
    all_awaited_on (p ∷ ps) [] f h = absurd h
    all_awaited_on (p ∷ ps) (a ∷ askers) f h = (awaited_on p a (f a (here a askers)) h.0, all_awaited_on ps askers (λ b c. f b (there a askers b c)) h.1)

    waiting_on : (r : Request) (a : Asked) → ((w : Placed) (n : ℕ) → Contains placed' w → w.by ≡ Some (id, n) → Contains placed w ⊎ (n < a.number)) → IsWaiting given actions placed id r a → IsWaiting given (actions ++ took) placed' id r a
    waiting_on r a back h = record {
      token = h.token;
      operation = h.operation;
      came = (let l = h.came in let m : length (actions ++ took) ≡ length actions + length took = length-append actions took in omega (arith, l, m));
      fresh = λ w n c e. ⊎_elim (λ d. h.fresh w n d e) (λ l. l) (back w n c e);
    }

    pub all_waiting_on : (rs : List Request) (askers : List Asked) → ((a : Asked) → Contains askers a → (w : Placed) (n : ℕ) → Contains placed' w → w.by ≡ Some (id, n) → Contains placed w ⊎ (n < a.number))
        → AllPairs (IsWaiting given actions placed id) rs askers → AllPairs (IsWaiting given (actions ++ took) placed' id) rs askers
    all_waiting_on [] [] f h = tt
    all_waiting_on [] (a ∷ askers) f h = absurd h
    all_waiting_on (r ∷ rs) [] f h = absurd h
    all_waiting_on (r ∷ rs) (a ∷ askers) f h = (waiting_on r a (f a (here a askers)) h.0, all_waiting_on rs askers (λ b c. f b (there a askers b c)) h.1)

  -- requests, if nothing is proposed
  pub open_kept : (placed : List Placed) (id : ℕ) → NoCrash id took → (o : Open) (asked : List Asked) → AreOpen given actions placed id o asked → AreOpen given (actions ++ took) placed id o asked
  open_kept placed id quiet o asked h = record {
    proposed = h.proposed;
    waiting = h.waiting;
    all = h.all;
    awaited = all_awaited_on placed placed id quiet (λ w c. c) o.proposed h.proposed (λ a k w c e. c) h.awaited;
    waits = all_waiting_on placed placed id quiet (λ w c. c) o.waiting h.waiting (λ a k w n c e. inl c) h.waits;
    rises = h.rises;
  }

-- Steps of a server
module _ (given : Given) (id : ℕ) where
  pub server_steps : (steps : List Step) (actions : List Action)
      → server_after given (actions ++ map (Takes id) steps) id ≡ after_steps given steps (server_after given actions id)
  server_steps [] actions = ap (λ xs. server_after given xs id) (append-nil actions)
  server_steps (s ∷ steps) actions =
      ap (λ xs. server_after given xs id) (sym (append_assoc actions (Takes id s ∷ []) (map (Takes id) steps)))
      ∙ (server_steps steps (actions ++ Takes id s ∷ [])
      ∙ ap (after_steps given steps) (ap (λ (c : Cluster). c.servers id) (after_both given actions (Takes id s ∷ []) (new_cluster given))
      ∙ (changes id (with_step given s (server_after given actions id)) (after_actions given actions (new_cluster given))).own))

  pub steps_own : (steps : List Step) → AllByRecursion (IsOwnAction id) (map (Takes id) steps)
  steps_own [] = tt
  steps_own (s ∷ steps) = (refl, steps_own steps)

  pub steps_may : (steps : List Step) (c : Cluster) → Contains given.ids id → AllByRecursion (λ (s : Step). MayTake c.released.bag id s.act) steps → AllMayAct given (map (Takes id) steps) c
  steps_may [] c member h = tt
  steps_may (s ∷ steps) c member h = ((member, h.0), steps_may steps (after_action given (Takes id s) c) member h.1)

  pub steps_no_proposal : (steps : List Step) → AllByRecursion (λ (s : Step). (values : List Value) → s.act ≡ Propose values → ⊥) steps → NoProposal (map (Takes id) steps)
  steps_no_proposal [] h j other step values e q = cc
  steps_no_proposal (s ∷ steps) h zero other step values e q = let z : s ≡ step = cc in h.0 values (ap (λ (y : Step). y.act) z ∙ q)
  steps_no_proposal (s ∷ steps) h (suc j) other step values e q = steps_no_proposal steps h.1 j other step values e q

-- flushes
pub flushes_own : (id k : ℕ) → AllByRecursion (IsOwnAction id) (flushes id k)
flushes_own id zero = tt
flushes_own id (suc k) = (refl, flushes_own id k)

pub flushes_no_proposal : (id k : ℕ) → NoProposal (flushes id k)
flushes_no_proposal id zero j other step values e q = cc
flushes_no_proposal id (suc k) zero other step values e q = cc
flushes_no_proposal id (suc k) (suc j) other step values e q = flushes_no_proposal id k j other step values e q
