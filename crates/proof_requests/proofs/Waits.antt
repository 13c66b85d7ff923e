-- Which action took each step that waits at a server, and that they come on disk in their order.
use Rattle.std.proofs.Common.{ℕ, zero, suc, ◌+◌, ◌-◌, ◌<◌, ◌≤◌, ◌≡◌, ◌≢◌, inl, inr, ⊎_elim, Bool, true, false, List, [], ◌∷◌, ◌++◌, length, take, arith, refl, sym, ap, ◌∙◌, subst, Some, append_assoc}
use Rattle.std.specs.Prelude.{Contains, nat_eq, slice_get, replicate, if◌then◌else◌}
use Rattle.std.specs.List.{AllByRecursion}
use Rattle.std.proofs.lemmas.Bool.{cases_eq, eq-eqb, ne_eqb}
use Rattle.std.proofs.lemmas.List.{append-nil, length-append}
use Rattle.raft_node.specs.declared.given.Given.{Given}
use Rattle.raft_node.specs.Net.{NodeView}
use Rattle.proof_clients.proofs.Slots.{here, slot_at, there}
use Rattle.proof_servers.specs.Recorded.{joined}
use Rattle.proof_servers.specs.Servers.{Action, Cluster, Crashes, Flushes, Server, Step, Takes, WaitingStep, after_action, after_actions, crashed, flushed, flushed_first, new_cluster, outputs_of, stopped_node, with_server, with_step}
use Rattle.proof_servers.proofs.Follow.{changes}
use Rattle.proof_answers.specs.Answers.{TakesAt, server_then}
use Rattle.proof_answers.specs.Waiting.{but_oldest, waiting, waiting_on}
use Rattle.proof_answers.proofs.Prefixes.{after_next, behind_later, slot_last, take_all, take_more, take_none, waiting_next}
use Rattle.proof_requests.specs.Requests.{AllPairs, server_after}
use Rattle.proof_requests.proofs.Lists.{pairs_append}

pub same_id : {A : Type 0} (a : ℕ) (x y : A) → (if nat_eq a a then x else y) ≡ x
same_id a x y = (let e : nat_eq a a ≡ true = eq-eqb a a refl in rw e refl)

pub other_id : {A : Type 0} (a b : ℕ) (x y : A) → a ≢ b → (if nat_eq a b then x else y) ≡ y
other_id a b x y d = (let e : nat_eq a b ≡ false = ne_eqb a b d in rw e refl)

module _ (given : Given) (actions : List Action) (id : ℕ) where
  -- the action with this number took the step
  pub record TakenBy (w : WaitingStep) (number : ℕ) : Type 0 where
    pub node : NodeView
    pub takes : TakesAt given actions number id w.step node
    pub outputs : w.outputs ≡ outputs_of given node w.step

  abbrev pub AreTaken : List WaitingStep → List ℕ → Type 0
  AreTaken ws ts = AllPairs TakenBy ws ts

  abbrev cluster_then : ℕ → Cluster
  cluster_then i = after_actions given (take i actions) (new_cluster given)

  abbrev own_in : Cluster → Server
  own_in c = c.servers id

  abbrev Then : ℕ → Action → List ℕ → Type 0
  Then i a ts = AreTaken (own_in (after_action given a (cluster_then i))).waiting (waiting_on id i a ts)

  none_left : (ws : List WaitingStep) (ts : List ℕ) → ws ≡ [] → AreTaken ws ts → AreTaken ws (but_oldest ts)
  none_left [] [] q k = tt
  none_left [] (t ∷ ts) q k = absurd k
  none_left (w ∷ ws) ts q k = cc

  one_left : (w : WaitingStep) (ws : List WaitingStep) (ts : List ℕ) → AreTaken (w ∷ ws) ts → AreTaken ws (but_oldest ts)
  one_left w ws [] k = absurd k
  one_left w ws (t ∷ ts) k = k.1

  -- its own action
  own_takes : (i : ℕ) (step : Step) (ts : List ℕ) → slice_get actions i ≡ Some (Takes id step) → AreTaken (server_then given actions i id).waiting ts → Then i (Takes id step) ts
  own_takes i step ts e h =
      subst (λ xs. AreTaken (own_in (after_action given (Takes id step) (cluster_then i))).waiting xs) (sym (same_id id (ts ++ i ∷ []) ts))
      (subst (λ (s : Server). AreTaken s.waiting (ts ++ i ∷ [])) (sym (changes id (with_step given step (server_then given actions i id)) (cluster_then i)).own)
      (pairs_append TakenBy (server_then given actions i id).waiting ts _ (i ∷ []) h (record { node = (server_then given actions i id).node; takes = inl (e, refl); outputs = refl }, tt)))

  own_flushes : (i : ℕ) (ts : List ℕ) → AreTaken (server_then given actions i id).waiting ts → Then i (Flushes id) ts
  own_flushes i ts h =
      subst (λ xs. AreTaken (own_in (after_action given (Flushes id) (cluster_then i))).waiting xs) (sym (same_id id (but_oldest ts) ts)) (go (server_then given actions i id).waiting refl)
    where
      go : (xs : List WaitingStep) → (server_then given actions i id).waiting ≡ xs
          → AreTaken (own_in (elim xs as (λ _. Cluster) [
            | [] ↦ cluster_then i
            | w ∷ ws ↦ record (with_server id (flushed w ws ((cluster_then i).servers id)) (cluster_then i)) { released = joined (cluster_then i).released w.outputs }
          ])).waiting (but_oldest ts)
      go [] q = none_left (server_then given actions i id).waiting ts q h
      go (w ∷ ws) q =
          subst (λ (s : Server). AreTaken s.waiting (but_oldest ts)) (sym (changes id (flushed w ws ((cluster_then i).servers id)) (cluster_then i)).own)
          (one_left w ws ts (subst (λ xs. AreTaken xs ts) q h))

  own_crashes : (i k at : ℕ) (ts : List ℕ) → slice_get actions i ≡ Some (Crashes id k at) → Then i (Crashes id k at) ts
  own_crashes i k at ts e =
      subst (λ xs. AreTaken (own_in (after_action given (Crashes id k at) (cluster_then i))).waiting xs) (sym (same_id id (i ∷ []) ts))
      (subst (λ (s : Server). AreTaken s.waiting (i ∷ [])) (sym (changes id (crashed given id k at (server_then given actions i id)) (cluster_then i)).own)
      (record { node = stopped_node id (flushed_first k (server_then given actions i id)).disk; takes = inr (k, at, e, refl, refl); outputs = refl }, tt))

  -- another server's
  other_takes : (i other : ℕ) (step : Step) (ts : List ℕ) → other ≢ id → AreTaken (server_then given actions i id).waiting ts → Then i (Takes other step) ts
  other_takes i other step ts d h =
      subst (λ xs. AreTaken (own_in (after_action given (Takes other step) (cluster_then i))).waiting xs) (sym (other_id other id (ts ++ i ∷ []) ts d))
      (subst (λ (s : Server). AreTaken s.waiting ts) (sym ((changes other (with_step given step ((cluster_then i).servers other)) (cluster_then i)).others id d)) h)

  other_flushes : (i other : ℕ) (ts : List ℕ) → other ≢ id → AreTaken (server_then given actions i id).waiting ts → Then i (Flushes other) ts
  other_flushes i other ts d h =
      subst (λ xs. AreTaken (own_in (after_action given (Flushes other) (cluster_then i))).waiting xs) (sym (other_id other id (but_oldest ts) ts d)) (go ((cluster_then i).servers other).waiting)
    where
      go : (xs : List WaitingStep)
          → AreTaken (own_in (elim xs as (λ _. Cluster) [
            | [] ↦ cluster_then i
            | w ∷ ws ↦ record (with_server other (flushed w ws ((cluster_then i).servers other)) (cluster_then i)) { released = joined (cluster_then i).released w.outputs }
          ])).waiting ts
      go [] = h
      go (w ∷ ws) = subst (λ (s : Server). AreTaken s.waiting ts) (sym ((changes other (flushed w ws ((cluster_then i).servers other)) (cluster_then i)).others id d)) h

  other_crashes : (i other k at : ℕ) (ts : List ℕ) → other ≢ id → AreTaken (server_then given actions i id).waiting ts → Then i (Crashes other k at) ts
  other_crashes i other k at ts d h =
      subst (λ xs. AreTaken (own_in (after_action given (Crashes other k at) (cluster_then i))).waiting xs) (sym (other_id other id (i ∷ []) ts d))
      (subst (λ (s : Server). AreTaken s.waiting ts) (sym ((changes other (crashed given other k at ((cluster_then i).servers other)) (cluster_then i)).others id d)) h)

  one : (i : ℕ) (a : Action) → slice_get actions i ≡ Some a → (ts : List ℕ) → AreTaken (server_then given actions i id).waiting ts → Then i a ts
  one i (Takes other step) e ts h =
      ⊎_elim
      (λ (q : other ≡ id). subst (λ o. slice_get actions i ≡ Some (Takes o step) → Then i (Takes o step) ts) (sym q) (λ f. own_takes i step ts f h) e)
      (λ d. other_takes i other step ts d h)
      (cases_eq other id)
  one i (Flushes other) e ts h =
      ⊎_elim
      (λ (q : other ≡ id). subst (λ o. Then i (Flushes o) ts) (sym q) (own_flushes i ts h))
      (λ d. other_flushes i other ts d h)
      (cases_eq other id)
  one i (Crashes other k at) e ts h =
      ⊎_elim
      (λ (q : other ≡ id). subst (λ o. slice_get actions i ≡ Some (Crashes o k at) → Then i (Crashes o k at) ts) (sym q) (λ f. own_crashes i k at ts f) e)
      (λ d. other_crashes i other k at ts d h)
      (cases_eq other id)

  taken_then : (i : ℕ) → i ≤ length actions → AreTaken (server_then given actions i id).waiting (waiting id (take i actions))
  taken_then zero l = subst (λ xs. AreTaken ((after_actions given xs (new_cluster given)).servers id).waiting (waiting id xs)) (sym (take_none actions)) tt
  taken_then (suc i) l =
      let a = slot_at actions i (omega (arith, l)) in
      subst (λ (c : Cluster). AreTaken (c.servers id).waiting (waiting id (take (suc i) actions))) (sym (after_next given actions i a.0 (new_cluster given) a.1))
      (subst (λ xs. AreTaken (own_in (after_action given a.0 (cluster_then i))).waiting xs) (sym (waiting_next id actions i a.0 a.1))
      (one i a.0 a.1 (waiting id (take i actions)) (taken_then i (omega (arith, l)))))

  -- the steps that wait, and the numbers of their actions
  pub are_taken : AreTaken (server_after given actions id).waiting (waiting id actions)
  are_taken =
      subst (λ xs. AreTaken ((after_actions given xs (new_cluster given)).servers id).waiting (waiting id xs)) (take_all actions)
      (taken_then (length actions) (omega arith))

-- the numbers of waiting steps, after one action more and after flushes
module _ (id : ℕ) where
  pub waiting_last : (actions : List Action) (a : Action) → waiting id (actions ++ a ∷ []) ≡ waiting_on id (length actions) a (waiting id actions)
  waiting_last actions a =
      ap (waiting id) (sym (take_all (actions ++ a ∷ [])) ∙ ap (λ n. take n (actions ++ a ∷ [])) (let q : length (actions ++ a ∷ []) ≡ suc (length actions) = omega (arith, length-append actions (a ∷ [])) in q))
      ∙ (waiting_next id (actions ++ a ∷ []) (length actions) a (slot_last actions a)
      ∙ ap (λ xs. waiting_on id (length actions) a (waiting id xs)) (take_more actions (a ∷ []) (length actions) (omega arith) ∙ take_all actions))

  pub flush_last : (actions : List Action) → waiting id (actions ++ Flushes id ∷ []) ≡ but_oldest (waiting id actions)
  flush_last actions = waiting_last actions (Flushes id) ∙ same_id id (but_oldest (waiting id actions)) (waiting id actions)

  pub flushes_empty : (n : ℕ) (actions : List Action) → length (waiting id actions) ≤ n → waiting id (actions ++ replicate n (Flushes id)) ≡ []
  flushes_empty zero actions l = ap (waiting id) (append-nil actions) ∙ empty (waiting id actions) l
    where
      empty : (ts : List ℕ) → length ts ≤ 0 → ts ≡ []
      empty [] l = refl
      empty (t ∷ ts) l = absurd (omega (arith, l))
  flushes_empty (suc n) actions l =
      ap (waiting id) (sym (append_assoc actions (Flushes id ∷ []) (replicate n (Flushes id))))
      ∙ flushes_empty n (actions ++ Flushes id ∷ []) (subst (λ (ts : List ℕ). length ts ≤ n) (sym (flush_last actions)) (fewer (waiting id actions) n l))
    where
      fewer : (ts : List ℕ) (n : ℕ) → length ts ≤ suc n → length (but_oldest ts) ≤ n
      fewer [] n l = omega arith
      fewer (t ∷ ts) n l = omega (arith, l)

  -- once all that wait were taken past a number, so were all that wait later
  abbrev Past : ℕ → List ℕ → Type 0
  Past low ts = AllByRecursion (λ t. low < t) ts

  past_more : (low : ℕ) (ts : List ℕ) (t : ℕ) → Past low ts → low < t → Past low (ts ++ t ∷ [])
  past_more low [] t h l = (l, tt)
  past_more low (u ∷ ts) t h l = (h.0, past_more low ts t h.1 l)

  past_on : (low number : ℕ) (a : Action) (ts : List ℕ) → low < number → Past low ts → Past low (waiting_on id number a ts)
  past_on low number (Takes other step) ts l h = go (nat_eq other id)
    where
      go : (b : Bool) → Past low (if b then ts ++ number ∷ [] else ts)
      go true = past_more low ts number h l
      go false = h
  past_on low number (Flushes other) ts l h = go (nat_eq other id) ts h
    where
      go : (b : Bool) (ts : List ℕ) → Past low ts → Past low (if b then but_oldest ts else ts)
      go true [] h = tt
      go true (t ∷ ts) h = h.1
      go false ts h = h
  past_on low number (Crashes other k at) ts l h = go (nat_eq other id)
    where
      go : (b : Bool) → Past low (if b then number ∷ [] else ts)
      go true = (l, tt)
      go false = h

  past_later : (actions : List Action) (low i d : ℕ) → low < i → i + d ≤ length actions → Past low (waiting id (take i actions)) → Past low (waiting id (take (i + d) actions))
  past_later actions low i zero l m h = let q : i ≡ i + 0 = omega arith in subst (λ j. Past low (waiting id (take j actions))) q h
  past_later actions low i (suc d) l m h =
      let a = slot_at actions (i + d) (omega (arith, m)) in
      let q : suc (i + d) ≡ i + suc d = omega arith in
      subst (λ j. Past low (waiting id (take j actions))) q
      (subst (Past low) (sym (waiting_next id actions (i + d) a.0 a.1)) (past_on low (i + d) a.0 (waiting id (take (i + d) actions)) (omega (arith, l)) (past_later actions low i d l (omega (arith, m)) h)))

  -- a step that came on disk by an earlier flush was taken earlier
  pub first_taken : (actions : List Action) (f g t u : ℕ) (rest more : List ℕ) → f < g → g ≤ length actions → slice_get actions f ≡ Some (Flushes id)
      → waiting id (take f actions) ≡ t ∷ rest → waiting id (take g actions) ≡ u ∷ more → t < f → t < u
  first_taken actions f g t u rest more l m e o p k =
      let behind : Past t rest = each rest (λ p c. behind_later id (take f actions) t p rest o c) in
      let next : waiting id (take (suc f) actions) ≡ rest =
      waiting_next id actions f (Flushes id) e ∙ (same_id id (but_oldest (waiting id (take f actions))) (waiting id (take f actions)) ∙ ap but_oldest o) in
      let q : suc f + (g - suc f) ≡ g = omega (arith, l) in
      let all : Past t (waiting id (take g actions)) = subst (λ j. Past t (waiting id (take j actions))) q (past_later actions t (suc f) (g - suc f) (omega (arith, k)) (omega (arith, q, m)) (subst (Past t) (sym next) behind)) in
      (subst (Past t) p all).0
    where
      each : (ts : List ℕ) → ((p : ℕ) → Contains ts p → t < p) → Past t ts
      each [] h = tt
      each (x ∷ ts) h = (h x (here x ts), each ts (λ p c. h p (there x ts p c)))
