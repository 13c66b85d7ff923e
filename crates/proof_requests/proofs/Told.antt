-- What leaves a server by flushes, it has told of; and by a step no earlier than the proposal of an entry that is told.
use Rattle.std.proofs.Common.{ℕ, zero, suc, ◌+◌, ◌-◌, ◌<◌, ◌≤◌, ◌≡◌, ◌≢◌, ⊎_elim, List, [], ◌∷◌, ◌++◌, length, take, map, arith, refl, sym, ap, ◌∙◌, subst, Some, append_assoc}
use Rattle.std.specs.Prelude.{Contains, slice_get}
use Rattle.std.specs.List.{AllByRecursion}
use Rattle.std.proofs.lemmas.Bool.{cases_lt, cases_order}
use Rattle.std.proofs.lemmas.List.{append-nil, length-append}
use Rattle.raft_store.specs.declared.entry.Entry.{Entry}
use Rattle.raft_store.specs.declared.entry.Value.{Value}
use Rattle.raft_schedule.specs.declared.event.Event.{Event}
use Rattle.raft_node.specs.declared.given.Given.{Given}
use Rattle.raft_node.specs.declared.record.Executed.{Executed}
use Rattle.raft_node.specs.Net.{Records}
use Rattle.raft_node.specs.WellFormed.{IsWellFormed}
use Rattle.proof_clients.proofs.OneLogs.{InEnd}
use Rattle.proof_clients.proofs.Order.{before_it, one_entry}
use Rattle.proof_clients.proofs.Slots.{here, slot_below, there}
use Rattle.proof_servers.specs.Recorded.{joined}
use Rattle.proof_servers.specs.Servers.{Action, AllMayAct, Cluster, Crashes, Flushes, Server, Takes, WaitingStep, after_action, after_actions, flushed, flushed_first, new_cluster, with_server}
use Rattle.proof_servers.proofs.Follow.{changes}
use Rattle.proof_servers.proofs.Included.{contains_map}
use Rattle.proof_answers.specs.Answers.{Proposed, Told}
use Rattle.proof_answers.specs.Waiting.{waiting}
use Rattle.proof_answers.proofs.Came.{AtMoment, Came, T, es, proposal_appended, tell_executed, told_in_end, told_then}
use Rattle.proof_answers.proofs.Prefixes.{CameByFlush, slot_last, take_all, take_more, waits_or_came}
use Rattle.proof_requests.specs.Actions.{flushes}
use Rattle.proof_requests.specs.Answered.{entries_left}
use Rattle.proof_requests.specs.Requests.{server_after}
use Rattle.proof_requests.proofs.Left.{entries_more, entries_oldest}
use Rattle.proof_requests.proofs.Lists.{none_in, slot_behind, slot_less}
use Rattle.proof_requests.proofs.More.{after_both, may_both, proposed_more, takes_more, told_more}
use Rattle.proof_requests.proofs.Packs.{said_all}
use Rattle.proof_requests.proofs.Waits.{AreTaken, are_taken, first_taken, flushes_empty}

module _ (given : Given) where
  -- the server has told of this entry
  pub record IsTold (actions : List Action) (id : ℕ) (e : Entry) : Type 0 where
    pub flush : ℕ
    pub commands : ℕ
    pub taken : List Entry
    pub told : Told given actions id flush commands taken
    pub there : slice_get taken e.log_id.index ≡ Some e
    pub left : Contains (entries_left given actions) e

  told_on : (actions more : List Action) (id : ℕ) (e : Entry) → IsTold actions id e → IsTold (actions ++ more) id e
  told_on actions more id e t = record { flush = t.flush; commands = t.commands; taken = t.taken; told = told_more given actions more id t.flush t.commands t.taken t.told; there = t.there; left = entries_more given actions more e t.left }

  pub may_flush : (actions : List Action) (id k : ℕ) → Contains given.ids id → AllMayAct given actions (new_cluster given) → AllMayAct given (actions ++ flushes id k) (new_cluster given)
  may_flush actions id k member may = may_both given actions (flushes id k) (new_cluster given) may (go k (after_actions given actions (new_cluster given)))
    where
      go : (k : ℕ) (c : Cluster) → AllMayAct given (flushes id k) c
      go zero c = tt
      go (suc k) c = (member, go k (after_action given (Flushes id) c))

  -- the server after a flush
  pub server_flushed : (actions : List Action) (id : ℕ) (w : WaitingStep) (ws : List WaitingStep) → (server_after given actions id).waiting ≡ w ∷ ws
      → server_after given (actions ++ Flushes id ∷ []) id ≡ flushed w ws (server_after given actions id)
  server_flushed actions id w ws q =
      ap (λ (c : Cluster). c.servers id) (after_both given actions (Flushes id ∷ []) (new_cluster given)) ∙ go (server_after given actions id).waiting q
    where
      c : Cluster
      c = after_actions given actions (new_cluster given)

      go : (xs : List WaitingStep) → xs ≡ w ∷ ws
          → ◌≡◌ {A = Server} ((elim xs as (λ _. Cluster) [
            | [] ↦ after_actions given actions (new_cluster given)
            | w ∷ ws ↦ record (with_server id (flushed w ws (server_after given actions id)) (after_actions given actions (new_cluster given))) { released = joined (after_actions given actions (new_cluster given)).released w.outputs }
          ]).servers id) (flushed w ws (server_after given actions id))
      go [] r = cc
      go (x ∷ xs) r =
          let a : x ≡ w = cc in
          let b : xs ≡ ws = cc in
          (changes id (flushed x xs (server_after given actions id)) (after_actions given actions (new_cluster given))).own
          ∙ (ap (λ y. flushed y xs (server_after given actions id)) a ∙ ap (λ ys. flushed w ys (server_after given actions id)) b)

  pub none_flushed : (actions : List Action) (id : ℕ) → (server_after given actions id).waiting ≡ [] → server_after given (actions ++ Flushes id ∷ []) id ≡ server_after given actions id
  none_flushed actions id q =
      ap (λ (c : Cluster). c.servers id) (after_both given actions (Flushes id ∷ []) (new_cluster given)) ∙ go (server_after given actions id).waiting q
    where
      go : (xs : List WaitingStep) → xs ≡ []
          → ◌≡◌ {A = Server} ((elim xs as (λ _. Cluster) [
            | [] ↦ after_actions given actions (new_cluster given)
            | w ∷ ws ↦ record (with_server id (flushed w ws (server_after given actions id)) (after_actions given actions (new_cluster given))) { released = joined (after_actions given actions (new_cluster given)).released w.outputs }
          ]).servers id) (server_after given actions id)
      go [] r = refl
      go (x ∷ xs) r = cc

  -- and after so many
  pub all_flushed : (k : ℕ) (actions : List Action) (id : ℕ) → server_after given (actions ++ flushes id k) id ≡ flushed_first k (server_after given actions id)
  all_flushed zero actions id = ap (λ xs. server_after given xs id) (append-nil actions)
  all_flushed (suc k) actions id =
      ap (λ xs. server_after given xs id) (sym (append_assoc actions (Flushes id ∷ []) (flushes id k)))
      ∙ (all_flushed k (actions ++ Flushes id ∷ []) id ∙ go (server_after given actions id).waiting refl)
    where
      still : (j : ℕ) (s : Server) → s.waiting ≡ [] → flushed_first j s ≡ s
      still zero s q = refl
      still (suc j) s q = ap (λ (xs : List WaitingStep). elim xs as (λ _. Server) [ [] ↦ s | w ∷ ws ↦ flushed_first j (flushed w ws s) ]) q

      go : (xs : List WaitingStep) → (server_after given actions id).waiting ≡ xs
          → ◌≡◌ {A = Server} (flushed_first k (server_after given (actions ++ Flushes id ∷ []) id)) (elim xs as (λ _. Server) [ [] ↦ server_after given actions id | w ∷ ws ↦ flushed_first k (flushed w ws (server_after given actions id)) ])
      go [] q = ap (flushed_first k) (none_flushed actions id q) ∙ still k (server_after given actions id) q
      go (w ∷ ws) q = ap (flushed_first k) (server_flushed actions id w ws q)

-- entries of what waiting steps say
abbrev pub entries_said : List WaitingStep → List Entry
entries_said ws = map (λ (x : Executed). x.entry) (said_all ws).executed

module _ (given : Given) (wf : IsWellFormed given) (id : ℕ) (member : Contains given.ids id) where
  -- what the oldest step executed
  oldest_told : (actions : List Action) → AllMayAct given actions (new_cluster given) → (w : WaitingStep) (ws : List WaitingStep) → (server_after given actions id).waiting ≡ w ∷ ws
      → (y : Executed) → Contains w.outputs.executed y → IsTold given (actions ++ Flushes id ∷ []) id y.entry
  oldest_told actions may w ws q y c = go (waiting id actions) refl (subst (λ xs. AreTaken given actions id xs (waiting id actions)) q (are_taken given actions id))
    where
      go : (ts : List ℕ) → waiting id actions ≡ ts → AreTaken given actions id (w ∷ ws) ts → IsTold given (actions ++ Flushes id ∷ []) id y.entry
      go [] r h = absurd h
      go (t ∷ ts) r h =
          let x = tell_executed given wf (actions ++ Flushes id ∷ []) (may_flush given actions id 1 member may) id t (length actions) w.step h.0.node ts
          (takes_more given actions (Flushes id ∷ []) t id w.step h.0.node h.0.takes) (slot_last actions (Flushes id))
          (ap (waiting id) (take_more actions (Flushes id ∷ []) (length actions) (omega arith) ∙ take_all actions) ∙ r)
          y (subst (λ (o : Records (List Entry)). Contains o.executed y) h.0.outputs c) in
          record {
            flush = length actions;
            commands = x.0;
            taken = x.1;
            told = x.2;
            there = x.3;
            left = entries_oldest given actions id w ws q y.entry (contains_map (λ (x : Executed). x.entry) w.outputs.executed y c);
          }

  -- what so many of them did
  pub all_told : (k : ℕ) (actions : List Action) → AllMayAct given actions (new_cluster given) → AllByRecursion (IsTold given (actions ++ flushes id k) id) (entries_said (take k (server_after given actions id).waiting))
  all_told zero actions may = go (server_after given actions id).waiting
    where
      go : (xs : List WaitingStep) → AllByRecursion (IsTold given (actions ++ flushes id 0) id) (entries_said (take 0 xs))
      go [] = tt
      go (x ∷ xs) = tt
  all_told (suc k) actions may = go (server_after given actions id).waiting refl (λ a m. all_told k a m)
    where
      both : (P : Entry → Type 0) (xs ys : List Executed) → ((y : Executed) → Contains xs y → P y.entry) → AllByRecursion P (map (λ (x : Executed). x.entry) ys) → AllByRecursion P (map (λ (x : Executed). x.entry) (xs ++ ys))
      both P [] ys f h = h
      both P (x ∷ xs) ys f h = (f x (here x xs), both P xs ys (λ y c. f y (there x xs y c)) h)

      split : actions ++ flushes id (suc k) ≡ (actions ++ Flushes id ∷ []) ++ flushes id k
      split = sym (append_assoc actions (Flushes id ∷ []) (flushes id k))

      go : (xs : List WaitingStep) → (server_after given actions id).waiting ≡ xs
          → ((a : List Action) → AllMayAct given a (new_cluster given) → AllByRecursion (IsTold given (a ++ flushes id k) id) (entries_said (take k (server_after given a id).waiting)))
          → AllByRecursion (IsTold given (actions ++ flushes id (suc k)) id) (entries_said (take (suc k) xs))
      go [] q rest = tt
      go (w ∷ ws) q rest =
          both (IsTold given (actions ++ flushes id (suc k)) id) w.outputs.executed (said_all (take k ws)).executed
          (λ y c. subst (λ xs. IsTold given xs id y.entry) (sym split) (told_on given (actions ++ Flushes id ∷ []) (flushes id k) id y.entry (oldest_told actions may w ws q y c)))
          (subst (λ xs. AllByRecursion (IsTold given xs id) (entries_said (take k ws))) (sym split)
          (subst (λ (s : Server). AllByRecursion (IsTold given ((actions ++ Flushes id ∷ []) ++ flushes id k) id) (entries_said (take k s.waiting))) (server_flushed given actions id w ws q)
          (rest (actions ++ Flushes id ∷ []) (may_flush given actions id 1 member may))))

-- A server told of an entry with the id of one that it has proposed in the same start: by a step no earlier than that.
module _ (given : Given) (wf : IsWellFormed given) (actions : List Action) (may : AllMayAct given actions (new_cluster given)) (id : ℕ) (member : Contains given.ids id)
    (call : ℕ) (v : Value) (x : Entry) (own : x.log_id.leader_id.node_id ≡ id) (p : Proposed given actions call v x)
    (runs : (number k at : ℕ) → call < number → slice_get actions number ≢ Some (Crashes id k at))
    (flush commands : ℕ) (taken : List Entry) (t : Told given actions id flush commands taken) (y : Entry) (slot : slice_get taken x.log_id.index ≡ Some y) (same : y.log_id ≡ x.log_id) where
  -- after more flushes its own step is on disk
  abbrev count : ℕ
  count = length (waiting id actions)

  abbrev run : List Action
  run = actions ++ flushes id count

  may_run : AllMayAct given run (new_cluster given)
  may_run = may_flush given actions id count member may

  p_run : Proposed given run call v x
  p_run = proposed_more given actions (flushes id count) call v x p

  abbrev t_run : Told given run id flush commands taken
  t_run = told_more given actions (flushes id count) id flush commands taken t

  takes : slice_get run call ≡ Some (Takes id p_run.step)
  takes = p_run.takes ∙ ap (λ d. Some (Takes d p_run.step)) own

  early : call < length actions
  early = slot_below actions call (Takes x.log_id.leader_id.node_id p.step) p.takes

  stays : (number k at : ℕ) → call < number → number < length run → slice_get run number ≢ Some (Crashes id k at)
  stays number k at a b e =
      ⊎_elim
      (λ (l : number < length actions). runs number k at a (sym (slot_less actions (flushes id count) number l) ∙ e))
      (λ (l : length actions ≤ number). no_crash count (number - length actions) k at (sym (slot_behind actions (flushes id count) (number - length actions) number (omega (arith, l))) ∙ e))
      (cases_lt number (length actions))
    where
      no_crash : (n j k at : ℕ) → slice_get (flushes id n) j ≡ Some (Crashes id k at) → ⊥
      no_crash zero j k at e = cc
      no_crash (suc n) zero k at e = cc
      no_crash (suc n) (suc j) k at e = no_crash n j k at e

  came : CameByFlush run id call p_run.step takes (length run)
  came =
      ⊎_elim
      (λ c. absurd (none_in call (subst (λ ts. Contains ts call) (ap (waiting id) (take_all run) ∙ flushes_empty id count actions (omega arith)) c)))
      (λ c. c)
      (waits_or_came run id call p_run.step takes (length run) (let l = early in let m : length run ≡ length actions + length (flushes id count) = length-append actions (flushes id count) in omega (arith, l, m)) (omega arith) stays)

  own_came : (c : Came given wf run may_run call) × (c.stamp.told ≡ came.flush)
  own_came =
      let z = (T given wf run may_run).flushed came.flush id call came.behind came.is came.oldest in
      (record { event = z.0; stamp = z.1; is = z.2; taken = z.3 }, z.4)

  m : (m : AtMoment given wf run may_run flush commands taken) × (m.stamp.taken ≡ t_run.by)
  m = told_then given wf run may_run id flush commands taken t_run

  end : InEnd given wf (es given wf run may_run) x.log_id.index y
  end = told_in_end given wf run may_run flush commands taken m.0 x.log_id.index y slot

  -- it is that entry
  pub told_is : x ≡ y
  told_is = one_entry given wf (es given wf run may_run) own_came.0.event p_run.place x (proposal_appended given wf run may_run call v x p_run own_came.0) x.log_id.index y end (sym same)

  -- if the step that tells is on disk first, the entry can't be there
  later_told : flush < came.flush → ⊥
  later_told l =
      let run_es : List Event = es given wf run may_run in
      let a = proposal_appended given wf run may_run call v x p_run own_came.0 in
      let order : m.0.event < own_came.0.event =
      ⊎_elim (λ (g : m.0.event < own_came.0.event). g)
      (λ (g : own_came.0.event ≤ m.0.event).
      let z : own_came.0.stamp.told ≤ m.0.stamp.told = (T given wf run may_run).sorted own_came.0.event m.0.event own_came.0.stamp m.0.stamp own_came.0.is m.0.is g in
      let b : own_came.0.stamp.told ≡ came.flush = own_came.1 in
      let d : m.0.stamp.told ≡ flush = m.0.told in
      absurd (omega (arith, z, b, d, l)))
      (cases_lt m.0.event own_came.0.event) in
      let k : x.log_id.index < x.log_id.index =
      before_it given wf run_es own_came.0.event p_run.place x a m.0.event commands m.0.node x.log_id.index y m.0.there (ap (λ xs. slice_get xs x.log_id.index) m.0.applied ∙ slot) order x.log_id.index
      (subst (InEnd given wf run_es x.log_id.index) (sym told_is) end) in
      omega (arith, k)

  pub told_since : call ≤ t.by
  told_since = ⊎_elim (λ (l : t.by < call). absurd (no l)) (λ l. l) (cases_lt t.by call)
    where
      first_is : (a b : ℕ) (xs ys : List ℕ) → ◌≡◌ {A = List ℕ} (a ∷ xs) (b ∷ ys) → a ≡ b
      first_is a b xs ys e = cc

      taken_first : call < came.flush
      taken_first =
          let o : own_came.0.stamp.taken < own_came.0.stamp.told = ((T given wf run may_run).each own_came.0.event own_came.0.stamp own_came.0.is).order in
          let a : own_came.0.stamp.taken ≡ call = own_came.0.taken in
          let b : own_came.0.stamp.told ≡ came.flush = own_came.1 in
          omega (arith, o, a, b)

      no : t.by < call → ⊥
      no l =
          ⊎_elim
          (λ (q : flush ≡ came.flush). let z : t.by ≡ call = first_is t.by call t.behind came.behind (sym t_run.oldest ∙ (ap (λ n. waiting id (take n run)) q ∙ came.oldest)) in omega (arith, z, l))
          (λ o. ⊎_elim later_told
          (λ (q : came.flush < flush).
          let z : call < t.by = first_taken id run came.flush flush call t.by came.behind t.behind q (let b : flush < length run = slot_below run flush (Flushes id) t_run.flushes in omega (arith, b)) came.is came.oldest t_run.oldest taken_first in
          omega (arith, z, l)) o)
          (cases_order flush came.flush)
