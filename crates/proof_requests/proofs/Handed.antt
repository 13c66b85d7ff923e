-- How many entries a server has handed out: as many as its state machine had taken by the step that came on disk last, unless a snapshot was put
-- in place of what was there.
use Rattle.std.proofs.Common.{ℕ, ◌+◌, ◌≡◌, ◌≢◌, ◌⊎◌, inl, inr, ⊎_elim, List, [], ◌∷◌, ◌++◌, length, arith, refl, sym, ap, ◌∙◌, subst, append-nil, append_assoc, Option, None, Some}
use Rattle.std.specs.Prelude.{Contains, fold, slice_get}
use Rattle.std.proofs.lemmas.List.{length-append}
use Rattle.raft_store.specs.declared.entry.Entry.{Entry}
use Rattle.raft_schedule.specs.declared.event.Start.{Start}
use Rattle.raft_node.specs.declared.act.Act.{Act}
use Rattle.raft_node.specs.declared.act.Act.TheVariants.{Restart}
use Rattle.raft_node.specs.declared.given.Given.{Given}
use Rattle.raft_node.specs.declared.record.Executed.{Executed}
use Rattle.raft_node.specs.Net.{NodeView, Records, new_node}
use Rattle.raft_node.specs.WellFormed.{IsWellFormed}
use Rattle.raft_node.specs.Work.{weight}
use Rattle.proof_clients.proofs.OneLogs.{index_in_end}
use Rattle.proof_servers.specs.Servers.{Action, AllMayAct, Cluster, Flushes, Step, Takes, WaitingStep, after_actions, new_cluster, node_after, outputs_of, step_work}
use Rattle.proof_answers.specs.Answers.{TakesAt, Told}
use Rattle.proof_answers.specs.Waiting.{waiting}
use Rattle.proof_answers.proofs.Came.{es, told_in_end, told_then}
use Rattle.proof_answers.proofs.Prefixes.{slot_last, take_all, take_more}
use Rattle.proof_requests.specs.OnDisk.{flushed_from, flushed_node, flushed_on, with_oldest}
use Rattle.proof_requests.specs.Reading.{IsHanded, StartsBare}
use Rattle.proof_requests.specs.Requests.{server_after}
use Rattle.proof_requests.proofs.HandedOut.{HasGrown, entries_in, has_grown}
use Rattle.proof_requests.proofs.More.{takes_more}
use Rattle.proof_requests.proofs.ReadSteps.{all_within}
use Rattle.proof_requests.proofs.Told.{may_flush}
use Rattle.proof_requests.proofs.Turns.{Turns, turns}
use Rattle.proof_requests.proofs.Waits.{same_id}

-- the index of the last entry that was executed, after these more
abbrev pub last_index : Option ℕ → List Executed → Option ℕ
last_index last xs = fold (λ before x. Some x.entry.log_id.index) last xs

-- an act is a start, or none
pub start_or : (act : Act) → ((start : Start) × (act ≡ Restart start)) ⊎ ((start : Start) → act ≢ Restart start)
start_or (Restart start) = inl (start, refl)
start_or _ = inr (λ start q. cc)

slot_at_end : {A : Type 0} (xs : List A) (y : A) (ys : List A) → slice_get (xs ++ y ∷ ys) (length xs) ≡ Some y
slot_at_end [] y ys = refl
slot_at_end (x ∷ xs) y ys = slot_at_end xs y ys

-- each entry stands at its index
abbrev AreAtIndex : List Entry → Type 0
AreAtIndex es = (i : ℕ) (x : Entry) → slice_get es i ≡ Some x → x.log_id.index ≡ i

-- entries behind others, each at its index
more_handed : (xs : List Executed) (base : List Entry) (last : Option ℕ) → AreAtIndex (base ++ entries_in xs) → (xs ≡ [] → IsHanded base last) → IsHanded (base ++ entries_in xs) (last_index last xs)
more_handed [] base last h k = subst (λ (es : List Entry). IsHanded es last) (sym (append-nil base)) (k refl)
more_handed (x ∷ xs) base last h k =
    let same : (base ++ x.entry ∷ []) ++ entries_in xs ≡ base ++ (x.entry ∷ entries_in xs) = append_assoc base (x.entry ∷ []) (entries_in xs) in
    let n : length (base ++ x.entry ∷ []) ≡ length base + 1 = length-append base (x.entry ∷ []) in
    let i : x.entry.log_id.index ≡ length base = h (length base) x.entry (slot_at_end base x.entry (entries_in xs)) in
    subst (λ (es : List Entry). IsHanded es (last_index (Some x.entry.log_id.index) xs)) same
    (more_handed xs (base ++ x.entry ∷ []) (Some x.entry.log_id.index) (subst AreAtIndex (sym same) h) (λ _. let q : length (base ++ x.entry ∷ []) ≡ x.entry.log_id.index + 1 = omega (arith, n, i) in q))

module _ (given : Given) where
  pub from_both : (id : ℕ) (actions more : List Action) (c : Cluster) (n : NodeView)
      → flushed_from given id (actions ++ more) c n ≡ flushed_from given id more (after_actions given actions c) (flushed_from given id actions c n)
  from_both id [] more c n = refl
  from_both id (a ∷ rest) more c n = from_both id rest more _ (flushed_on given id a (c.servers id) n)

  -- once the oldest step is on disk
  pub flushed_last : (actions : List Action) (id : ℕ) (w : WaitingStep) (ws : List WaitingStep) → (server_after given actions id).waiting ≡ w ∷ ws
      → flushed_node given (actions ++ Flushes id ∷ []) id ≡ node_after given (flushed_node given actions id) w.step
  flushed_last actions id w ws q =
      from_both id actions (Flushes id ∷ []) (new_cluster given) (new_node given.settings id)
      ∙ (same_id id (with_oldest given id (server_after given actions id) (flushed_node given actions id)) (flushed_node given actions id)
      ∙ ap (λ xs. elim xs as (λ _. NodeView) [ [] ↦ flushed_node given actions id | v ∷ vs ↦ node_after given (flushed_node given actions id) v.step ]) q)

  -- and if none waits
  pub flushed_still : (actions : List Action) (id : ℕ) → (server_after given actions id).waiting ≡ [] → flushed_node given (actions ++ Flushes id ∷ []) id ≡ flushed_node given actions id
  flushed_still actions id q =
      from_both id actions (Flushes id ∷ []) (new_cluster given) (new_node given.settings id)
      ∙ (same_id id (with_oldest given id (server_after given actions id) (flushed_node given actions id)) (flushed_node given actions id)
      ∙ ap (λ xs. elim xs as (λ _. NodeView) [ [] ↦ flushed_node given actions id | v ∷ vs ↦ node_after given (flushed_node given actions id) v.step ]) q)

module _ (given : Given) (wf : IsWellFormed given) (id : ℕ) (member : Contains given.ids id) (actions : List Action) (may : AllMayAct given actions (new_cluster given)) where
  abbrev base : NodeView
  base = flushed_node given actions id

  abbrev after : List Action
  after = actions ++ Flushes id ∷ []

  -- a start begins on a disk, where nothing is applied: nothing was handed out then
  start_first : StartsBare actions id → (t : ℕ) (step : Step) → TakesAt given actions t id step base → (start : Start) → step.act ≡ Restart start → (last : Option ℕ) → IsHanded base.store.applied last → last ≡ None
  start_first bare t step (inl (e, n)) start a last h =
      absurd (bare t step.at start (e ∙ ap (λ (act : Act). Some (Takes id (record { act = act; at = step.at }))) a))
  start_first bare t step (inr (k, at, e, s, n)) start a None h = refl
  start_first bare t step (inr (k, at, e, s, n)) start a (Some index) h =
      let z : length base.store.applied ≡ 0 = ap (λ (m : NodeView). length m.store.applied) n in
      absurd (omega (arith, z, h))

  -- what the oldest step executes is handed out
  pub handed_flush : StartsBare actions id → (w : WaitingStep) (ws : List WaitingStep) → (server_after given actions id).waiting ≡ w ∷ ws → (last : Option ℕ) → w.outputs.installed ≡ [] → IsHanded base.store.applied last
      → IsHanded (flushed_node given after id).store.applied (last_index last w.outputs.executed)
  handed_flush bare w ws q last none h = go (waiting id actions) refl (subst (λ xs. Turns given actions id base xs (waiting id actions) (server_after given actions id).node) q (turns given actions id))
    where
      go : (ts : List ℕ) → waiting id actions ≡ ts → Turns given actions id base (w ∷ ws) ts (server_after given actions id).node
          → IsHanded (flushed_node given after id).store.applied (last_index last w.outputs.executed)
      go [] r k = absurd k
      go (t ∷ ts) r k =
          let applied : List Entry = (node_after given base w.step).store.applied in
          let commands : ℕ = weight (step_work given base w.step) in
          let told : Told given after id (length actions) commands applied = record {
            by = t;
            step = w.step;
            node = base;
            takes = takes_more given actions (Flushes id ∷ []) t id w.step base k.0;
            applied = ap (λ (n : NodeView). n.store.applied) (all_within given base w.step);
            flushes = slot_last actions (Flushes id);
            behind = ts;
            oldest = ap (waiting id) (take_more actions (Flushes id ∷ []) (length actions) (omega arith) ∙ take_all actions) ∙ r;
          } in
          let may_after : AllMayAct given after (new_cluster given) = may_flush given actions id 1 member may in
          let at_index : AreAtIndex applied = λ i x e.
          index_in_end given wf (es given wf after may_after) i x (told_in_end given wf after may_after (length actions) commands applied (told_then given wf after may_after id (length actions) commands applied told).0 i x e) in
          let g : HasGrown given base w.step = has_grown given base w.step in
          let grown : applied ≡ g.base ++ entries_in (outputs_of given base w.step).executed = g.grown (ap (λ (o : Records (List Entry)). o.installed) (sym k.1) ∙ none) in
          let first : IsHanded g.base last =
          ⊎_elim
          (λ (s : (start : Start) × (w.step.act ≡ Restart start)). subst (IsHanded g.base) (sym (start_first bare t w.step k.0 s.0 s.1 last h)) tt)
          (λ (d : (start : Start) → w.step.act ≢ Restart start). subst (λ (xs : List Entry). IsHanded xs last) (sym (g.same d)) h)
          (start_or w.step.act) in
          subst (λ (n : NodeView). IsHanded n.store.applied (last_index last w.outputs.executed)) (sym (flushed_last given actions id w ws q))
          (subst (λ (o : Records (List Entry)). IsHanded applied (last_index last o.executed)) (sym k.1)
          (subst (λ (xs : List Entry). IsHanded xs (last_index last (outputs_of given base w.step).executed)) (sym grown)
          (more_handed (outputs_of given base w.step).executed g.base last (subst AreAtIndex grown at_index) (λ _. first))))
