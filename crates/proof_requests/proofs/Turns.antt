-- The steps that wait at a server were taken one after the other, from the node of those that are on disk on; and which of these is the last.
use Rattle.std.proofs.Common.{ℕ, zero, suc, ◌≤◌, ◌≡◌, ◌≢◌, inl, inr, ⊎_elim, List, [], ◌∷◌, ◌++◌, length, take, arith, refl, sym, ap, ◌∙◌, subst, Some}
use Rattle.std.specs.Prelude.{slice_get}
use Rattle.std.proofs.lemmas.Bool.{cases_eq}
use Rattle.raft_node.specs.declared.given.Given.{Given}
use Rattle.raft_node.specs.Net.{NodeView, new_node}
use Rattle.proof_clients.proofs.Slots.{slot_at}
use Rattle.proof_servers.specs.Recorded.{joined}
use Rattle.proof_servers.specs.Servers.{Action, Cluster, Crashes, Flushes, Server, Step, Takes, WaitingStep, after_action, after_actions, crashed, flushed, flushed_first, new_cluster, node_after, outputs_of, stopped_node, with_server, with_step}
use Rattle.proof_servers.proofs.Follow.{changes}
use Rattle.proof_answers.specs.Answers.{TakesAt, server_then}
use Rattle.proof_answers.specs.Waiting.{but_oldest, waiting, waiting_on}
use Rattle.proof_answers.proofs.Prefixes.{after_next, take_all, take_none, waiting_next}
use Rattle.proof_requests.specs.OnDisk.{flushed_from, flushed_node, flushed_on, with_oldest}
use Rattle.proof_requests.specs.Requests.{server_after}
use Rattle.proof_requests.proofs.Waits.{other_id, same_id}

module _ (given : Given) (id : ℕ) where
  -- the node after one more action
  pub flushed_more : (actions : List Action) (i : ℕ) (a : Action) (c : Cluster) (n : NodeView) → slice_get actions i ≡ Some a
      → flushed_from given id (take (suc i) actions) c n ≡ flushed_on given id a ((after_actions given (take i actions) c).servers id) (flushed_from given id (take i actions) c n)
  flushed_more [] i a c n e = cc
  flushed_more (b ∷ rest) zero a c n e =
      let z : b ≡ a = cc in
      ap (λ xs. flushed_from given id xs (after_action given b c) (flushed_on given id b (c.servers id) n)) (take_none rest) ∙ ap (λ x. flushed_on given id x (c.servers id) n) z
  flushed_more (b ∷ rest) (suc i) a c n e = flushed_more rest i a (after_action given b c) (flushed_on given id b (c.servers id) n) e

module _ (given : Given) (actions : List Action) (id : ℕ) where
  -- steps wait, which were taken by these actions, from a node to another
  abbrev pub Turns : NodeView → List WaitingStep → List ℕ → NodeView → Type 0
  Turns n [] [] last = n ≡ last
  Turns n [] (t ∷ ts) last = ⊥
  Turns n (w ∷ ws) [] last = ⊥
  Turns n (w ∷ ws) (t ∷ ts) last = TakesAt given actions t id w.step n × (w.outputs ≡ outputs_of given n w.step) × Turns (node_after given n w.step) ws ts last

  turns_last : (n : NodeView) (ws : List WaitingStep) (ts : List ℕ) (last : NodeView) (w : WaitingStep) (t : ℕ) → TakesAt given actions t id w.step last → w.outputs ≡ outputs_of given last w.step
      → Turns n ws ts last → Turns n (ws ++ w ∷ []) (ts ++ t ∷ []) (node_after given last w.step)
  turns_last n [] [] last w t k o h = (
    subst (λ m. TakesAt given actions t id w.step m) (sym h) k,
    o ∙ ap (λ m. outputs_of given m w.step) (sym h),
    ap (λ m. node_after given m w.step) h,
  )
  turns_last n [] (u ∷ ts) last w t k o h = absurd h
  turns_last n (v ∷ ws) [] last w t k o h = absurd h
  turns_last n (v ∷ ws) (u ∷ ts) last w t k o h = (h.0, h.1, turns_last (node_after given n v.step) ws ts last w t k o h.2)

  abbrev cluster_then : ℕ → Cluster
  cluster_then i = after_actions given (take i actions) (new_cluster given)

  abbrev own_in : Cluster → Server
  own_in c = c.servers id

  abbrev pub flushed_then : ℕ → NodeView
  flushed_then i = flushed_node given (take i actions) id

  abbrev Now : NodeView → Server → List ℕ → Type 0
  Now n s ts = Turns n s.waiting ts s.node

  abbrev Then : ℕ → Action → List ℕ → Type 0
  Then i a ts = Now (flushed_on given id a (server_then given actions i id) (flushed_then i)) (own_in (after_action given a (cluster_then i))) (waiting_on id i a ts)

  -- its own action
  own_takes : (i : ℕ) (step : Step) (ts : List ℕ) → slice_get actions i ≡ Some (Takes id step) → Now (flushed_then i) (server_then given actions i id) ts → Then i (Takes id step) ts
  own_takes i step ts e h =
      subst (λ xs. Now (flushed_then i) (own_in (after_action given (Takes id step) (cluster_then i))) xs) (sym (same_id id (ts ++ i ∷ []) ts))
      (subst (λ (s : Server). Now (flushed_then i) s (ts ++ i ∷ [])) (sym (changes id (with_step given step (server_then given actions i id)) (cluster_then i)).own)
      (turns_last (flushed_then i) (server_then given actions i id).waiting ts (server_then given actions i id).node _ i (inl (e, refl)) refl h))

  none_left : (n last : NodeView) (ws : List WaitingStep) (ts : List ℕ) → ws ≡ [] → Turns n ws ts last → Turns n ws (but_oldest ts) last
  none_left n last [] [] q k = k
  none_left n last [] (t ∷ ts) q k = absurd k
  none_left n last (w ∷ ws) ts q k = cc

  one_left : (n last : NodeView) (w : WaitingStep) (ws : List WaitingStep) (ts : List ℕ) → Turns n (w ∷ ws) ts last → Turns (node_after given n w.step) ws (but_oldest ts) last
  one_left n last w ws [] k = absurd k
  one_left n last w ws (t ∷ ts) k = k.2

  own_flushes : (i : ℕ) (ts : List ℕ) → Now (flushed_then i) (server_then given actions i id) ts → Then i (Flushes id) ts
  own_flushes i ts h =
      subst (λ n. Now n (own_in (after_action given (Flushes id) (cluster_then i))) (waiting_on id i (Flushes id) ts)) (sym (same_id id (with_oldest given id (server_then given actions i id) (flushed_then i)) (flushed_then i)))
      (subst (λ xs. Now (with_oldest given id (server_then given actions i id) (flushed_then i)) (own_in (after_action given (Flushes id) (cluster_then i))) xs) (sym (same_id id (but_oldest ts) ts))
      (go (server_then given actions i id).waiting refl))
    where
      go : (xs : List WaitingStep) → (server_then given actions i id).waiting ≡ xs
          → Now (elim xs as (λ _. NodeView) [ [] ↦ flushed_then i | w ∷ ws ↦ node_after given (flushed_then i) w.step ])
          (own_in (elim xs as (λ _. Cluster) [
            | [] ↦ cluster_then i
            | w ∷ ws ↦ record (with_server id (flushed w ws ((cluster_then i).servers id)) (cluster_then i)) { released = joined (cluster_then i).released w.outputs }
          ])) (but_oldest ts)
      go [] q = none_left (flushed_then i) (server_then given actions i id).node (server_then given actions i id).waiting ts q h
      go (w ∷ ws) q =
          subst (λ (s : Server). Now (node_after given (flushed_then i) w.step) s (but_oldest ts)) (sym (changes id (flushed w ws ((cluster_then i).servers id)) (cluster_then i)).own)
          (one_left (flushed_then i) (server_then given actions i id).node w ws ts (subst (λ xs. Turns (flushed_then i) xs ts (server_then given actions i id).node) q h))

  own_crashes : (i k at : ℕ) (ts : List ℕ) → slice_get actions i ≡ Some (Crashes id k at) → Then i (Crashes id k at) ts
  own_crashes i k at ts e =
      subst (λ n. Now n (own_in (after_action given (Crashes id k at) (cluster_then i))) (waiting_on id i (Crashes id k at) ts))
      (sym (same_id id (stopped_node id (flushed_first k (server_then given actions i id)).disk) (flushed_then i)))
      (subst (λ xs. Now (stopped_node id (flushed_first k (server_then given actions i id)).disk) (own_in (after_action given (Crashes id k at) (cluster_then i))) xs) (sym (same_id id (i ∷ []) ts))
      (subst (λ (s : Server). Now (stopped_node id (flushed_first k (server_then given actions i id)).disk) s (i ∷ [])) (sym (changes id (crashed given id k at (server_then given actions i id)) (cluster_then i)).own)
      (inr (k, at, e, refl, refl), refl, refl)))

  -- another server's
  other_takes : (i other : ℕ) (step : Step) (ts : List ℕ) → other ≢ id → Now (flushed_then i) (server_then given actions i id) ts → Then i (Takes other step) ts
  other_takes i other step ts d h =
      subst (λ xs. Now (flushed_then i) (own_in (after_action given (Takes other step) (cluster_then i))) xs) (sym (other_id other id (ts ++ i ∷ []) ts d))
      (subst (λ (s : Server). Now (flushed_then i) s ts) (sym ((changes other (with_step given step ((cluster_then i).servers other)) (cluster_then i)).others id d)) h)

  other_flushes : (i other : ℕ) (ts : List ℕ) → other ≢ id → Now (flushed_then i) (server_then given actions i id) ts → Then i (Flushes other) ts
  other_flushes i other ts d h =
      subst (λ n. Now n (own_in (after_action given (Flushes other) (cluster_then i))) (waiting_on id i (Flushes other) ts))
      (sym (other_id other id (with_oldest given id (server_then given actions i id) (flushed_then i)) (flushed_then i) d))
      (subst (λ xs. Now (flushed_then i) (own_in (after_action given (Flushes other) (cluster_then i))) xs) (sym (other_id other id (but_oldest ts) ts d)) (go ((cluster_then i).servers other).waiting))
    where
      go : (xs : List WaitingStep)
          → Now (flushed_then i) (own_in (elim xs as (λ _. Cluster) [
            | [] ↦ cluster_then i
            | w ∷ ws ↦ record (with_server other (flushed w ws ((cluster_then i).servers other)) (cluster_then i)) { released = joined (cluster_then i).released w.outputs }
          ])) ts
      go [] = h
      go (w ∷ ws) = subst (λ (s : Server). Now (flushed_then i) s ts) (sym ((changes other (flushed w ws ((cluster_then i).servers other)) (cluster_then i)).others id d)) h

  other_crashes : (i other k at : ℕ) (ts : List ℕ) → other ≢ id → Now (flushed_then i) (server_then given actions i id) ts → Then i (Crashes other k at) ts
  other_crashes i other k at ts d h =
      subst (λ n. Now n (own_in (after_action given (Crashes other k at) (cluster_then i))) (waiting_on id i (Crashes other k at) ts))
      (sym (other_id other id (stopped_node id (flushed_first k (server_then given actions i id)).disk) (flushed_then i) d))
      (subst (λ xs. Now (flushed_then i) (own_in (after_action given (Crashes other k at) (cluster_then i))) xs) (sym (other_id other id (i ∷ []) ts d))
      (subst (λ (s : Server). Now (flushed_then i) s ts) (sym ((changes other (crashed given other k at ((cluster_then i).servers other)) (cluster_then i)).others id d)) h))

  one : (i : ℕ) (a : Action) → slice_get actions i ≡ Some a → (ts : List ℕ) → Now (flushed_then i) (server_then given actions i id) ts → Then i a ts
  one i (Takes other step) e ts h =
      ⊎_elim
      (λ (q : other ≡ id). subst (λ o. slice_get actions i ≡ Some (Takes o step) → Then i (Takes o step) ts) (sym q) (λ f. own_takes i step ts f h) e)
      (λ d. other_takes i other step ts d h)
      (cases_eq other id)
  one i (Flushes other) e ts h =
      ⊎_elim
      (λ (q : other ≡ id). subst (λ o. Then i (Flushes o) ts) (sym q) (own_flushes i ts h))
      (λ d. other_flushes i other ts d h)
      (cases_eq other id)
  one i (Crashes other k at) e ts h =
      ⊎_elim
      (λ (q : other ≡ id). subst (λ o. slice_get actions i ≡ Some (Crashes o k at) → Then i (Crashes o k at) ts) (sym q) (λ f. own_crashes i k at ts f) e)
      (λ d. other_crashes i other k at ts d h)
      (cases_eq other id)

  pub turns_then : (i : ℕ) → i ≤ length actions → Now (flushed_then i) (server_then given actions i id) (waiting id (take i actions))
  turns_then zero l =
      subst (λ xs. Now (flushed_node given xs id) ((after_actions given xs (new_cluster given)).servers id) (waiting id xs)) (sym (take_none actions)) refl
  turns_then (suc i) l =
      let a = slot_at actions i (omega (arith, l)) in
      subst (λ n. Now n (server_then given actions (suc i) id) (waiting id (take (suc i) actions))) (sym (flushed_more given id actions i a.0 (new_cluster given) (new_node given.settings id) a.1))
      (subst (λ (c : Cluster). Now (flushed_on given id a.0 (server_then given actions i id) (flushed_then i)) (c.servers id) (waiting id (take (suc i) actions))) (sym (after_next given actions i a.0 (new_cluster given) a.1))
      (subst (λ xs. Now (flushed_on given id a.0 (server_then given actions i id) (flushed_then i)) (own_in (after_action given a.0 (cluster_then i))) xs) (sym (waiting_next id actions i a.0 a.1))
      (one i a.0 a.1 (waiting id (take i actions)) (turns_then i (omega (arith, l))))))

  -- the steps that wait go on from the node of those that are on disk
  pub turns : Turns (flushed_node given actions id) (server_after given actions id).waiting (waiting id actions) (server_after given actions id).node
  turns =
      subst (λ xs. Now (flushed_node given xs id) ((after_actions given xs (new_cluster given)).servers id) (waiting id xs)) (take_all actions)
      (turns_then (length actions) (omega arith))
