-- Reads by the rule, after more actions; when they are done; and that they return then.
use Rattle.std.proofs.Common.{ℕ, ◌+◌, ◌-◌, ◌<◌, ◌≤◌, ◌≡◌, ◌≢◌, ◌⊎◌, inl, inr, ⊎_elim, true, List, ◌++◌, length, arith, refl, sym, ap, ◌∙◌, subst, Some}
use Rattle.std.specs.Prelude.{Contains, slice_get}
use Rattle.std.specs.List.{AllByRecursion}
use Rattle.std.specs.Ordering.{nat_cmp}
use Rattle.std.proofs.lemmas.Bool.{cases_lt}
use Rattle.std.proofs.lemmas.List.{length-append}
use Rattle.std.proofs.lemmas.List.Elements.{All-from_recursion, recursion_from_All}
use Rattle.raft_state.specs.declared.ids.LeaderId.{LeaderId}
use Rattle.raft_state.specs.Order.{next}
use Rattle.raft_progress.specs.Quorum.{is_quorum}
use Rattle.raft_calls.specs.declared.lead.Answer.{Answer}
use Rattle.raft_node.specs.declared.given.Given.{Given}
use Rattle.raft_node.specs.Chosen.{effective_in}
use Rattle.raft_node.specs.Net.{NodeView}
use Rattle.raft_node.specs.WellFormed.{IsWellFormed}
use Rattle.proof_clients.specs.Objects.{Object, state_after}
use Rattle.proof_clients.proofs.Sequences.{each_of}
use Rattle.proof_clients.proofs.Slots.{slot_below}
use Rattle.proof_servers.specs.Servers.{Action, AllMayAct, Crashes, Takes, new_cluster, node_after, outputs_of}
use Rattle.proof_answers.specs.Answers.{node_then}
use Rattle.proof_answers.specs.Histories.{RuleReturns}
use Rattle.proof_answers.specs.Reads.{Hears, IsRead}
use Rattle.proof_answers.specs.Waiting.{waiting}
use Rattle.proof_answers.proofs.Prefixes.{slot_more}
use Rattle.proof_requests.specs.OnDisk.{flushed_node}
use Rattle.proof_requests.specs.Reading.{IsAskedFor, IsReadDone, StartsBare}
use Rattle.proof_requests.specs.Requests.{Asked}
use Rattle.proof_requests.proofs.Lists.{slot_behind, slot_less}
use Rattle.proof_requests.proofs.More.{node_same, told_more}
use Rattle.proof_requests.proofs.RuleReads.{HasToldSince, told_since}

-- it is heard up to a later action too
hears_later : (actions : List Action) (id i j moment : ℕ) (d : LeaderId ℕ) (n : ℕ) → i ≤ j → Hears actions id i moment d n → Hears actions id j moment d n
hears_later actions id i j moment d n l h = record {
  number = h.number;
  early = (let k = h.early in omega (arith, k, l));
  step = h.step;
  takes = h.takes;
  message = h.message;
  is = h.is;
  from = h.from;
  origin = h.origin;
  tells = h.tells;
  session = h.session;
  later = h.later;
}

hears_more : (actions more : List Action) (id i moment : ℕ) (d : LeaderId ℕ) (n : ℕ) → Hears actions id i moment d n → Hears (actions ++ more) id i moment d n
hears_more actions more id i moment d n h = record {
  number = h.number;
  early = h.early;
  step = h.step;
  takes = slot_more actions more h.number (Takes id h.step) h.takes;
  message = h.message;
  is = h.is;
  from = h.from;
  origin = h.origin;
  tells = h.tells;
  session = h.session;
  later = h.later;
}

-- no later than by the last action
hears_last : (actions : List Action) (id i moment : ℕ) (d : LeaderId ℕ) (n : ℕ) → Hears actions id i moment d n → Hears actions id (length actions - 1) moment d n
hears_last actions id i moment d n h = record {
  number = h.number;
  early = (let l : h.number < length actions = slot_below actions h.number (Takes id h.step) h.takes in omega (arith, l));
  step = h.step;
  takes = h.takes;
  message = h.message;
  is = h.is;
  from = h.from;
  origin = h.origin;
  tells = h.tells;
  session = h.session;
  later = h.later;
}

module _ (given : Given) (actions more : List Action) (id : ℕ) where
  -- it was asked for, after more actions, none of which is a crash
  pub asked_more : (read : ℕ) (answer : Answer) (moment : ℕ) (groups : List (List ℕ)) (heard : List ℕ) → ((j k at : ℕ) → slice_get more j ≢ Some (Crashes id k at))
      → IsAskedFor given actions id read answer moment groups heard → IsAskedFor given (actions ++ more) id read answer moment groups heard
  asked_more read answer moment groups heard quiet h =
      let below : read < length actions = slot_below actions read (Takes id h.step) h.takes in
      let same : node_then given (actions ++ more) read id ≡ node_then given actions read id = node_same given actions more read id (omega (arith, below)) in
      let longer : length (actions ++ more) ≡ length actions + length more = length-append actions more in
      record {
        step = h.step;
        takes = slot_more actions more read (Takes id h.step) h.takes;
        is = h.is;
        answered = ap (λ (n : NodeView). (outputs_of given n h.step).answers) same ∙ h.answered;
        moment_is = h.moment_is ∙ ap (λ (n : NodeView). (node_after given n h.step).moment) (sym same);
        groups_are = h.groups_are ∙ ap (λ (n : NodeView). (effective_in n.store).groups) (sym same);
        hears = each_of (λ n. (n ≡ id) ⊎ Hears actions id (length actions) moment answer.leader_id n) (λ n. (n ≡ id) ⊎ Hears (actions ++ more) id (length (actions ++ more)) moment answer.leader_id n)
            (λ n. ⊎_elim inl (λ k. inr (hears_later (actions ++ more) id (length actions) (length (actions ++ more)) moment answer.leader_id n (omega (arith, longer)) (hears_more actions more id (length actions) moment answer.leader_id n k))))
            heard h.hears;
        runs = λ number k at a e.
            ⊎_elim
            (λ (l : number < length actions). h.runs number k at a (sym (slot_less actions more number l) ∙ e))
            (λ (l : length actions ≤ number). quiet (number - length actions) k at (sym (slot_behind actions more (number - length actions) number (omega (arith, l))) ∙ e))
            (cases_lt number (length actions));
      }

  read_more : (read upto : ℕ) (answer : Answer) → upto < length actions → IsRead given actions id read upto answer → IsRead given (actions ++ more) id read upto answer
  read_more read upto answer l h =
      let below : read < length actions = slot_below actions read (Takes id h.step) h.takes in
      let same : node_then given (actions ++ more) read id ≡ node_then given actions read id = node_same given actions more read id (omega (arith, below)) in
      record {
        step = h.step;
        takes = slot_more actions more read (Takes id h.step) h.takes;
        is = h.is;
        answered = ap (λ (n : NodeView). (outputs_of given n h.step).answers) same ∙ h.answered;
        nodes = h.nodes;
        quorum = ap (λ (n : NodeView). is_quorum nat_cmp (effective_in n.store).groups h.nodes) same ∙ h.quorum;
        each = All-from_recursion (λ n. (n ≡ id) ⊎ Hears (actions ++ more) id upto (node_after given (node_then given (actions ++ more) read id) h.step).moment answer.leader_id n) h.nodes
            (subst (λ (m : NodeView). AllByRecursion (λ n. (n ≡ id) ⊎ Hears (actions ++ more) id upto (node_after given m h.step).moment answer.leader_id n) h.nodes) (sym same)
            (each_of (λ n. (n ≡ id) ⊎ Hears actions id upto (node_after given (node_then given actions read id) h.step).moment answer.leader_id n)
            (λ n. (n ≡ id) ⊎ Hears (actions ++ more) id upto (node_after given (node_then given actions read id) h.step).moment answer.leader_id n)
            (λ n. ⊎_elim inl (λ k. inr (hears_more actions more id upto (node_after given (node_then given actions read id) h.step).moment answer.leader_id n k)))
            h.nodes (recursion_from_All (λ n. (n ≡ id) ⊎ Hears actions id upto (node_after given (node_then given actions read id) h.step).moment answer.leader_id n) h.nodes h.each)));
        runs = λ number k at a b e. h.runs number k at a b (sym (slot_less actions more number (omega (arith, l, b))) ∙ e);
        bare = λ number at start b e. h.bare number at start b (sym (slot_less actions more number (omega (arith, l, b))) ∙ e);
      }

  -- what is done stays so
  pub done_more : (a : Asked) (index before : ℕ) → before ≤ length actions → (d : IsReadDone given actions id a index) × (d.upto < before)
      → (d : IsReadDone given (actions ++ more) id a index) × (d.upto < before)
  done_more a index before early (d, l) = (
    record {
      read = d.read;
      later = d.later;
      upto = d.upto;
      answer = d.answer;
      is = read_more d.read d.upto d.answer (omega (arith, l, early)) d.is;
      entries = d.entries;
      flush = d.flush;
      early = d.early;
      commands = d.commands;
      told = told_more given actions more id d.flush d.commands d.entries d.told;
      since = d.since;
      reaches = d.reaches;
      index_is = d.index_is;
    },
    l,
  )

-- a read is done once its step is on disk, a quorum was heard, and all up to its log id was handed out
pub read_done : (given : Given) → IsWellFormed given → (actions : List Action) → AllMayAct given actions (new_cluster given) → (id read : ℕ) (answer : Answer) (moment : ℕ) (groups : List (List ℕ)) (heard : List ℕ)
    → IsAskedFor given actions id read answer moment groups heard → StartsBare actions id → (Contains (waiting id actions) read → ⊥) → is_quorum nat_cmp groups heard ≡ true
    → (index : ℕ) → length (flushed_node given actions id).store.applied ≡ index + 1 → next answer.log_id ≤ index + 1 → (a : Asked) → a.came ≤ read
    → (d : IsReadDone given actions id a index) × (d.upto < length actions)
read_done given wf actions may id read answer moment groups heard h bare gone quorum index handed reaches a came =
    let below : read < length actions = slot_below actions read (Takes id h.step) h.takes in
    let t : HasToldSince given wf actions may id read h.step h.takes h.runs (length actions) (flushed_node given actions id) = told_since given wf actions may id read h.step h.takes h.runs gone in
    let upto : ℕ = length actions - 1 in
    let early : t.flush < length actions = t.early in (
      record {
        read = read;
        later = came;
        upto = length actions - 1;
        answer = answer;
        is = record {
          step = h.step;
          takes = h.takes;
          is = h.is;
          answered = h.answered;
          nodes = heard;
          quorum = ap (λ (gs : List (List ℕ)). is_quorum nat_cmp gs heard) (sym h.groups_are) ∙ quorum;
          each = All-from_recursion (λ n. (n ≡ id) ⊎ Hears actions id (length actions - 1) (node_after given (node_then given actions read id) h.step).moment answer.leader_id n) heard
              (subst (λ (at : ℕ). AllByRecursion (λ n. (n ≡ id) ⊎ Hears actions id (length actions - 1) at answer.leader_id n) heard) h.moment_is
              (each_of (λ n. (n ≡ id) ⊎ Hears actions id (length actions) moment answer.leader_id n) (λ n. (n ≡ id) ⊎ Hears actions id (length actions - 1) moment answer.leader_id n)
              (λ n. ⊎_elim inl (λ k. inr (hears_last actions id (length actions) moment answer.leader_id n k))) heard h.hears));
          runs = λ number k at a b e. h.runs number k at a e;
          bare = λ number at start b e. absurd (bare number at start e);
        };
        entries = (flushed_node given actions id).store.applied;
        flush = t.flush;
        early = omega (arith, early);
        commands = t.commands;
        told = t.told;
        since = t.since;
        reaches = subst (λ n. next answer.log_id ≤ n) (sym handed) reaches;
        index_is = sym handed;
      },
      omega (arith, below),
    )

-- it returns then, with what the object answers after all entries that the server has told of
pub done_returns : {S R : Type 0} (m : Object S R) (given : Given) (actions : List Action) (id : ℕ) (a : Asked) (index q : ℕ) → (d : IsReadDone given actions id a index)
    → RuleReturns m given actions a.came q (record { events = d.upto; commands = d.commands; taken = index + 1; result = m.query (state_after m m.first d.entries) q })
done_returns m given actions id a index q d = record {
  id = id;
  read = d.read;
  later = d.later;
  answer = d.answer;
  is = d.is;
  entries = d.entries;
  flush = d.flush;
  early = d.early;
  told = d.told;
  since = d.since;
  reaches = d.reaches;
  taken = d.index_is;
  result = refl;
}
