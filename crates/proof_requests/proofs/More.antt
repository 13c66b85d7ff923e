-- What was so after some actions is so after more.
use Rattle.std.proofs.Common.{ℕ, ◌<◌, ◌≤◌, ◌≡◌, inl, inr, List, [], ◌∷◌, ◌++◌, length, arith, refl, sym, ap, ◌∙◌, subst}
use Rattle.std.specs.Prelude.{max}
use Rattle.raft_store.specs.declared.entry.Entry.{Entry}
use Rattle.raft_store.specs.declared.entry.Value.{Value}
use Rattle.raft_schedule.specs.declared.event.Start.TheVariants.{Bare}
use Rattle.raft_node.specs.declared.act.Act.TheVariants.{Restart}
use Rattle.raft_node.specs.declared.given.Given.{Given}
use Rattle.raft_node.specs.Net.{NodeView}
use Rattle.proof_clients.proofs.Slots.{slot_below}
use Rattle.proof_servers.specs.Servers.{Action, AllMayAct, Cluster, Crashes, Flushes, Server, Step, Takes, after_action, after_actions, flushed_first, new_cluster, stopped_node}
use Rattle.proof_answers.specs.Answers.{Executes, Fails, Proposed, StepAppends, TakesAt, Told, node_then, server_then}
use Rattle.proof_answers.specs.Waiting.{waiting}
use Rattle.proof_answers.proofs.Prefixes.{slot_more, take_all, take_more}
use Rattle.proof_requests.specs.Requests.{server_after}
use Rattle.proof_requests.proofs.Lists.{slot_less}

module _ (given : Given) where
  pub after_both : (actions more : List Action) (c : Cluster) → after_actions given (actions ++ more) c ≡ after_actions given more (after_actions given actions c)
  after_both [] more c = refl
  after_both (a ∷ rest) more c = after_both rest more (after_action given a c)

  pub may_both : (actions more : List Action) (c : Cluster) → AllMayAct given actions c → AllMayAct given more (after_actions given actions c) → AllMayAct given (actions ++ more) c
  may_both [] more c h k = k
  may_both (a ∷ rest) more c h k = (h.0, may_both rest more (after_action given a c) h.1 k)

  pub may_first : (actions more : List Action) (c : Cluster) → AllMayAct given (actions ++ more) c → AllMayAct given actions c
  may_first [] more c h = tt
  may_first (a ∷ rest) more c h = (h.0, may_first rest more (after_action given a c) h.1)

  pub server_now : (actions : List Action) (id : ℕ) → server_then given actions (length actions) id ≡ server_after given actions id
  server_now actions id = ap (λ xs. (after_actions given xs (new_cluster given)).servers id) (take_all actions)

  module _ (actions more : List Action) where
    pub server_same : (number id : ℕ) → number ≤ length actions → server_then given (actions ++ more) number id ≡ server_then given actions number id
    server_same number id l = ap (λ xs. (after_actions given xs (new_cluster given)).servers id) (take_more actions more number l)

    pub node_same : (number id : ℕ) → number ≤ length actions → node_then given (actions ++ more) number id ≡ node_then given actions number id
    node_same number id l = ap (λ (s : Server). s.node) (server_same number id l)

    pub server_there : (id : ℕ) → server_then given (actions ++ more) (length actions) id ≡ server_after given actions id
    server_there id = server_same (length actions) id (omega arith) ∙ server_now actions id

    pub proposed_more : (call : ℕ) (v : Value) (x : Entry) → Proposed given actions call v x → Proposed given (actions ++ more) call v x
    proposed_more call v x p =
        let l : call < length actions = slot_below actions call (Takes x.log_id.leader_id.node_id p.step) p.takes in
        record {
          step = p.step;
          takes = slot_more actions more call (Takes x.log_id.leader_id.node_id p.step) p.takes;
          values = p.values;
          proposes = p.proposes;
          place = p.place;
          value = p.value;
          appended = subst (λ (n : NodeView). StepAppends given n p.step p.place x) (sym (node_same call x.log_id.leader_id.node_id (omega (arith, l)))) p.appended;
          payload = p.payload;
        }

    pub proposed_less : (call : ℕ) (v : Value) (x : Entry) → call < length actions → Proposed given (actions ++ more) call v x → Proposed given actions call v x
    proposed_less call v x l p = record {
      step = p.step;
      takes = sym (slot_less actions more call l) ∙ p.takes;
      values = p.values;
      proposes = p.proposes;
      place = p.place;
      value = p.value;
      appended = subst (λ (n : NodeView). StepAppends given n p.step p.place x) (node_same call x.log_id.leader_id.node_id (omega (arith, l))) p.appended;
      payload = p.payload;
    }

    pub takes_more : (number id : ℕ) (step : Step) (node : NodeView) → TakesAt given actions number id step node → TakesAt given (actions ++ more) number id step node
    takes_more number id step node (inl (e, n)) =
        let l : number < length actions = slot_below actions number (Takes id step) e in
        inl (slot_more actions more number (Takes id step) e, n ∙ sym (node_same number id (omega (arith, l))))
    takes_more number id step node (inr (k, at, e, s, n)) =
        let l : number < length actions = slot_below actions number (Crashes id k at) e in
        let same = sym (server_same number id (omega (arith, l))) in
        inr (
          k,
          at,
          slot_more actions more number (Crashes id k at) e,
          s ∙ ap (λ (y : Server). record { act = Restart Bare; at = max at (flushed_first k y).disk.moment }) same,
          n ∙ ap (λ (y : Server). stopped_node id (flushed_first k y).disk) same,
        )

    abbrev pub told_more : (id flush commands : ℕ) (taken : List Entry) → Told given actions id flush commands taken → Told given (actions ++ more) id flush commands taken
    told_more id flush commands taken t =
        let l : flush < length actions = slot_below actions flush (Flushes id) t.flushes in
        record {
          by = t.by;
          step = t.step;
          node = t.node;
          takes = takes_more t.by id t.step t.node t.takes;
          applied = t.applied;
          flushes = slot_more actions more flush (Flushes id) t.flushes;
          behind = t.behind;
          oldest = ap (waiting id) (take_more actions more flush (omega (arith, l))) ∙ t.oldest;
        }

    pub executes_more : (call : ℕ) (x : Entry) (flush commands : ℕ) → Executes given actions call x flush commands → Executes given (actions ++ more) call x flush commands
    executes_more call x flush commands e =
        let l : flush < length actions = slot_below actions flush (Flushes x.log_id.leader_id.node_id) e.told.flushes in
        record {
          taken = e.taken;
          told = told_more x.log_id.leader_id.node_id flush commands e.taken e.told;
          since = e.since;
          runs = λ number k at a b q. e.runs number k at a b (sym (slot_less actions more number (omega (arith, l, b))) ∙ q);
          entry = e.entry;
          there = e.there;
          same = e.same;
        }

    pub fails_more : (x : Entry) → Fails given actions x → Fails given (actions ++ more) x
    fails_more x f = record {
      id = f.id;
      flush = f.flush;
      commands = f.commands;
      taken = f.taken;
      told = told_more f.id f.flush f.commands f.taken f.told;
      entry = f.entry;
      there = f.there;
      other = f.other;
    }
