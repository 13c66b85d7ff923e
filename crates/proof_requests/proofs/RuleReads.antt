-- A read by the rule: once the step that asked is on disk, the server has told of all that the node of its last step on disk has taken, by a
-- step that was taken no earlier.
use Rattle.std.proofs.Common.{ℕ, zero, suc, ◌+◌, ◌-◌, ◌<◌, ◌≤◌, ◌≡◌, ◌≢◌, ⊎_elim, List, [], ◌∷◌, length, take, arith, refl, sym, ap, ◌∙◌, subst, Some}
use Rattle.std.specs.Prelude.{Contains, slice_get}
use Rattle.std.proofs.lemmas.Bool.{cases_eq}
use Rattle.raft_store.specs.declared.entry.Entry.{Entry}
use Rattle.raft_node.specs.declared.given.Given.{Given}
use Rattle.raft_node.specs.Net.{NodeView, new_node}
use Rattle.raft_node.specs.WellFormed.{IsWellFormed}
use Rattle.raft_node.specs.Work.{weight}
use Rattle.proof_clients.proofs.Slots.{slot_at, slot_below}
use Rattle.proof_servers.specs.Servers.{Action, AllMayAct, Crashes, Flushes, Step, Takes, WaitingStep, flushed_first, new_cluster, node_after, step_work, stopped_node}
use Rattle.proof_answers.specs.Answers.{Told, server_then}
use Rattle.proof_answers.specs.Waiting.{waiting}
use Rattle.proof_answers.proofs.Came.{h, told_then}
use Rattle.proof_answers.proofs.Prefixes.{CameByFlush, take_all, waits_or_came}
use Rattle.proof_requests.specs.OnDisk.{flushed_node, with_oldest}
use Rattle.proof_requests.proofs.ReadSteps.{all_within}
use Rattle.proof_requests.proofs.Turns.{Turns, flushed_more, flushed_then, turns_then}
use Rattle.proof_requests.proofs.Waits.{first_taken, other_id, same_id}

module _ (given : Given) (actions : List Action) (id : ℕ) where
  abbrev at_turn : ℕ → List ℕ → Type 0
  at_turn i ts = Turns given actions id (flushed_then given actions id i) (server_then given actions i id).waiting ts (server_then given actions i id).node

  -- the node of the steps on disk, after the oldest one that waits, and if none does
  flushed_oldest : (i : ℕ) (w : WaitingStep) (ws : List WaitingStep) → slice_get actions i ≡ Some (Flushes id) → (server_then given actions i id).waiting ≡ w ∷ ws
      → flushed_then given actions id (suc i) ≡ node_after given (flushed_then given actions id i) w.step
  flushed_oldest i w ws e q =
      flushed_more given id actions i (Flushes id) (new_cluster given) (new_node given.settings id) e
      ∙ (same_id id (with_oldest given id (server_then given actions i id) (flushed_then given actions id i)) (flushed_then given actions id i)
      ∙ ap (λ xs. elim xs as (λ _. NodeView) [ [] ↦ flushed_then given actions id i | v ∷ vs ↦ node_after given (flushed_then given actions id i) v.step ]) q)

  flushed_empty : (i : ℕ) → slice_get actions i ≡ Some (Flushes id) → (server_then given actions i id).waiting ≡ [] → flushed_then given actions id (suc i) ≡ flushed_then given actions id i
  flushed_empty i e q =
      flushed_more given id actions i (Flushes id) (new_cluster given) (new_node given.settings id) e
      ∙ (same_id id (with_oldest given id (server_then given actions i id) (flushed_then given actions id i)) (flushed_then given actions id i)
      ∙ ap (λ xs. elim xs as (λ _. NodeView) [ [] ↦ flushed_then given actions id i | v ∷ vs ↦ node_after given (flushed_then given actions id i) v.step ]) q)

  -- a flush tells of what the oldest step has taken
  record IsOldest (i t : ℕ) : Type 0 where
    commands : ℕ
    told : Told given actions id i commands (flushed_then given actions id (suc i)).store.applied
    by_is : told.by ≡ t

  oldest_told : (i : ℕ) → i ≤ length actions → slice_get actions i ≡ Some (Flushes id) → (t : ℕ) (ts : List ℕ) → waiting id (take i actions) ≡ t ∷ ts → IsOldest i t
  oldest_told i l e t ts q = go (server_then given actions i id).waiting refl (subst (at_turn i) q (turns_then given actions id i l))
    where
      go : (xs : List WaitingStep) → (server_then given actions i id).waiting ≡ xs → at_turn i (t ∷ ts) → IsOldest i t
      go [] r k = absurd (subst (λ xs. Turns given actions id (flushed_then given actions id i) xs (t ∷ ts) (server_then given actions i id).node) r k)
      go (w ∷ ws) r k =
          let z = subst (λ xs. Turns given actions id (flushed_then given actions id i) xs (t ∷ ts) (server_then given actions i id).node) r k in
          let n : NodeView = flushed_then given actions id i in
          record {
            commands = weight (step_work given n w.step);
            told = record {
              by = t;
              step = w.step;
              node = n;
              takes = z.0;
              applied = ap (λ (m : NodeView). m.store.applied) (all_within given n w.step ∙ sym (flushed_oldest i w ws e r));
              flushes = e;
              behind = ts;
              oldest = q;
            };
            by_is = refl;
          }

module _ (given : Given) (wf : IsWellFormed given) (actions : List Action) (may : AllMayAct given actions (new_cluster given)) (id read : ℕ) (step : Step) (takes : slice_get actions read ≡ Some (Takes id step))
    (runs : (number k at : ℕ) → read < number → slice_get actions number ≢ Some (Crashes id k at)) where
  -- of the steps on disk after the first actions the last was taken no earlier than this one: by then the server has told of what a
  -- node has taken
  pub record HasToldSince (i : ℕ) (n : NodeView) : Type 0 where
    pub flush : ℕ
    pub early : flush < i
    pub commands : ℕ
    pub told : Told given actions id flush commands n.store.applied
    pub since : read ≤ told.by

  later : (i : ℕ) (n : NodeView) → HasToldSince i n → HasToldSince (suc i) n
  later i n f = record { flush = f.flush; early = (let l = f.early in omega (arith, l)); commands = f.commands; told = f.told; since = f.since }

  told_order : (flush commands : ℕ) (taken : List Entry) → (t : Told given actions id flush commands taken) → t.by < flush
  told_order flush commands taken t =
      let m = told_then given wf actions may id flush commands taken t in
      let l : m.0.stamp.taken < m.0.stamp.told = (h given wf actions may m.0.event m.0.stamp m.0.is).order in
      let a : m.0.stamp.taken ≡ t.by = m.1 in
      let b : m.0.stamp.told ≡ flush = m.0.told in
      omega (arith, l, a, b)

  abbrev Then : ℕ → Type 0
  Then i = HasToldSince i (flushed_then given actions id i)

  one_more : (i : ℕ) → i < length actions → Then i → Then (suc i)
  one_more i l f = by (slot_at actions i l).0 (slot_at actions i l).1
    where
      first : read < i
      first = let a = told_order f.flush f.commands _ f.told in let b = f.since in let c = f.early in omega (arith, a, b, c)

      same : flushed_then given actions id (suc i) ≡ flushed_then given actions id i → Then (suc i)
      same q = subst (HasToldSince (suc i)) (sym q) (later i (flushed_then given actions id i) f)

      since : (t u : ℕ) (rest more : List ℕ) → f.told.by ≡ t → waiting id (take f.flush actions) ≡ t ∷ rest → waiting id (take i actions) ≡ u ∷ more → read ≤ u
      since t u rest more q o p =
          let e = f.early in
          let a : f.told.by < f.flush = told_order f.flush f.commands _ f.told in
          let b : read ≤ f.told.by = f.since in
          let k : t < u = first_taken id actions f.flush i t u rest more e (omega (arith, l)) f.told.flushes o p (omega (arith, a, q)) in
          omega (arith, k, b, q)

      own : slice_get actions i ≡ Some (Flushes id) → Then (suc i)
      own e = go (waiting id (take i actions)) refl
        where
          nothing : (xs : List WaitingStep) → (server_then given actions i id).waiting ≡ xs → Turns given actions id (flushed_then given actions id i) xs [] (server_then given actions i id).node → Then (suc i)
          nothing [] r k = same (flushed_empty given actions id i e r)
          nothing (w ∷ ws) r k = absurd k

          go : (ts : List ℕ) → waiting id (take i actions) ≡ ts → Then (suc i)
          go [] r =
              nothing (server_then given actions i id).waiting refl
              (subst (λ ts. Turns given actions id (flushed_then given actions id i) (server_then given actions i id).waiting ts (server_then given actions i id).node) r (turns_then given actions id i (omega (arith, l))))
          go (u ∷ more) r =
              let z : IsOldest given actions id i u = oldest_told given actions id i (omega (arith, l)) e u more r in
              let s : read ≤ u = since f.told.by u f.told.behind more refl f.told.oldest r in
              let b : z.told.by ≡ u = z.by_is in
              record { flush = i; early = omega arith; commands = z.commands; told = z.told; since = omega (arith, s, b) }

      by : (a : Action) → slice_get actions i ≡ Some a → Then (suc i)
      by (Takes other s) e = same (flushed_more given id actions i (Takes other s) (new_cluster given) (new_node given.settings id) e)
      by (Flushes other) e =
          ⊎_elim
          (λ (q : other ≡ id). own (subst (λ o. slice_get actions i ≡ Some (Flushes o)) q e))
          (λ d. same
          (flushed_more given id actions i (Flushes other) (new_cluster given) (new_node given.settings id) e
          ∙ other_id other id (with_oldest given id (server_then given actions i id) (flushed_then given actions id i)) (flushed_then given actions id i) d))
          (cases_eq other id)
      by (Crashes other k at) e =
          ⊎_elim
          (λ (q : other ≡ id). absurd (runs i k at first (subst (λ o. slice_get actions i ≡ Some (Crashes o k at)) q e)))
          (λ d. same
          (flushed_more given id actions i (Crashes other k at) (new_cluster given) (new_node given.settings id) e
          ∙ other_id other id (stopped_node id (flushed_first k (server_then given actions i id)).disk) (flushed_then given actions id i) d))
          (cases_eq other id)

  from_then : (i d : ℕ) → i + d ≤ length actions → Then i → Then (i + d)
  from_then i zero l f = let q : i ≡ i + 0 = omega arith in subst Then q f
  from_then i (suc d) l f = let q : suc (i + d) ≡ i + suc d = omega arith in subst Then q (one_more (i + d) (omega (arith, l)) (from_then i d (omega (arith, l)) f))

  -- once the step itself is on disk
  pub told_since : (Contains (waiting id actions) read → ⊥) → HasToldSince (length actions) (flushed_node given actions id)
  told_since gone =
      let below : read < length actions = slot_below actions read (Takes id step) takes in
      subst (λ xs. HasToldSince (length actions) (flushed_node given xs id)) (take_all actions)
      (⊎_elim
      (λ c. absurd (gone (subst (λ xs. Contains (waiting id xs) read) (take_all actions) c)))
      (λ (c : CameByFlush actions id read step takes (length actions)).
      let l = c.early in
      let z : IsOldest given actions id c.flush read = oldest_told given actions id c.flush (omega (arith, l)) c.is read c.behind c.oldest in
      let b : z.told.by ≡ read = z.by_is in
      let q : suc c.flush + (length actions - suc c.flush) ≡ length actions = omega (arith, l) in
      subst Then q
      (from_then (suc c.flush) (length actions - suc c.flush) (omega (arith, q)) (record { flush = c.flush; early = omega arith; commands = z.commands; told = z.told; since = omega (arith, b) })))
      (waits_or_came actions id read step takes (length actions) below (omega arith) (λ number k at a l. runs number k at a)))
