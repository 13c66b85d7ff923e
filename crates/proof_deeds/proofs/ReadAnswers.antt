-- What a leader answers to a read is an id of its own, above all that leaders of smaller ids ever decide.
use Rattle.std.proofs.Common.{ℕ, ◌≤◌, ◌≡◌, Bool, true, false, List, refl, sym, subst, Option, None, Some, arith}
use Rattle.std.specs.Prelude.{IfSome, is_some, if◌then◌else◌}
use Rattle.std.specs.List.{AllByRecursion}
use Rattle.std.specs.Option.{option_map, option_to_list}
use Rattle.std.specs.Ordering.{nat_cmp}
use Rattle.raft_node.specs.raft_state.declared.ids.Vote.{Vote}
use Rattle.raft_node.specs.raft_steps.Invariants.{LeaderFits}
use Rattle.raft_node.specs.raft_steps.Laws.{later}
use Rattle.proof_agreement.specs.Machine.{Setup}
use Rattle.raft_node.specs.raft_store.declared.entry.Entry.{Entry}
use Rattle.raft_node.specs.raft_store.Types.{EngineView, WorldLeader}
use Rattle.raft_node.specs.declared.act.Act.{Act}
use Rattle.raft_node.specs.declared.act.Act.TheVariants.{ChangeLearners, ChangeMembership, Elect, Fail, FinishSnapshot, Initialize, Propose, Read, Restart, SendHeartbeat, StepDown, Stop, Take, TriggerPurge, TriggerSnapshot}
use Rattle.raft_node.specs.declared.given.Given.{Given}
use Rattle.raft_node.specs.raft_calls.declared.lead.Answer.{Answer}
use Rattle.raft_node.specs.Events.{answer_at, calls_at, with_answer}
use Rattle.raft_node.specs.Execute.{effects}
use Rattle.raft_node.specs.raft_calls.LeaderCalls.{answer_by, read_answer, read_refusal}
use Rattle.raft_node.specs.Net.{NodeView, Records}
use Rattle.proof_deeds.specs.Follows.{RecordsAre, RestIs, StoreIs}
use Rattle.proof_deeds.specs.Images.{Ideal, IsNamed, setup_of}
use Rattle.proof_deeds.specs.Knows.{KnowsLed}
use Rattle.proof_deeds.specs.Nets.{EngineFollows, NodeFollows}
use Rattle.proof_deeds.proofs.ReadIds.{AtNoop, answers_at_noop}
use Rattle.proof_deeds.proofs.Roles.{WorldState}
use Rattle.proof_deeds.proofs.Runs.{AnswerFits, RecordsFit}
use Rattle.proof_deeds.proofs.Tails.{tail_named}
use Rattle.proof_deeds.proofs.Worlds.{each_more}

module _ (s : Setup Entry) (W : Ideal) (n : NodeView) (e : EngineView) (h : StoreIs s n.store (W.store n.id)) (f : EngineFollows s n W e) (l : WorldLeader) (is : e.machine.leader ≡ Some l) where
  abbrev st : WorldState
  st = e.machine.core.state

  known : KnowsLed s n.id st l W
  known = subst (λ o. IfSome o (λ l. KnowsLed s n.id st l W)) is f.knows.leader

  led : LeaderFits nat_cmp e.config.id st.ids st.purged st.em.membership l
  led = subst (λ o. IfSome o (LeaderFits nat_cmp e.config.id st.ids st.purged st.em.membership)) is f.sound.lead.leader_fits

  named : IsNamed l.vote.leader_id
  named = subst (λ (v : Vote ℕ). IsNamed v.leader_id) (sym known.vote) (tail_named s n.store (W.store n.id) st h f.in_step)

  read_fits : AnswerFits s W (answer_by n.id l e)
  read_fits =
      let z : AtNoop st f.sound.sound l led.noop known.vote (later nat_cmp (Some l.noop_log_id) st.committed) = answers_at_noop st f.sound.sound l led.noop known.vote in
      record { named = named; id = z.0; is = z.1; own = z.2; above = λ V came c hc lower. let low : l.noop_log_id.index ≤ z.0.index = z.3 in omega (arith, known.above V came c hc lower, low) }

-- what a read at a node answers
module _ (s : Setup Entry) (W : Ideal) (n : NodeView) (h : StoreIs s n.store (W.store n.id)) where
  running_read : (e : EngineView) → EngineFollows s n W e → IfSome (read_answer n.id e) (AnswerFits s W)
  running_read e f = pick (is_some (read_refusal e)) where
    asked : (o : Option WorldLeader) → e.machine.leader ≡ o → IfSome (option_map (λ l. answer_by n.id l e) o) (AnswerFits s W)
    asked None is = tt
    asked (Some l) is = read_fits s W n e h f l is

    pick : (b : Bool) → IfSome (let z : Option Answer = if b then None else option_map (λ l. answer_by n.id l e) e.machine.leader in z) (AnswerFits s W)
    pick true = tt
    pick false = asked e.machine.leader refl

-- what an act at a node answers: only a read does
module _ (given : Given) (W : Ideal) (r : Records (List Entry)) where
  pub answer_known : (act : Act) (n : NodeView) → NodeFollows (setup_of given.membership) W r n → IfSome (answer_at act (calls_at given act n).1) (AnswerFits (setup_of given.membership) W)
  answer_known Read n h = go n.engine h.engine where
    go : (o : Option EngineView) → IfSome o (EngineFollows (setup_of given.membership) n W) → IfSome (answer_at Read (calls_at given Read (record n { engine = o })).1) (AnswerFits (setup_of given.membership) W)
    go None f = tt
    go (Some e) f = running_read (setup_of given.membership) W n h.store e f
  answer_known Initialize n h = tt
  answer_known (Elect candidates) n h = tt
  answer_known (Take m) n h = tt
  answer_known (Propose values) n h = tt
  answer_known SendHeartbeat n h = tt
  answer_known (Fail target) n h = tt
  answer_known TriggerSnapshot n h = tt
  answer_known FinishSnapshot n h = tt
  answer_known (TriggerPurge i) n h = tt
  answer_known (Restart start) n h = tt
  answer_known (ChangeLearners learners) n h = tt
  answer_known (ChangeMembership groups learners) n h = tt
  answer_known StepDown n h = tt
  answer_known Stop n h = tt

-- an answer that is recorded changes nothing else
module _ (s : Setup Entry) (W : Ideal) (r : Records (List Entry)) where
  pub answered_fits : RecordsFit s W r → (o : Option Answer) → IfSome o (AnswerFits s W) → RecordsFit s W (with_answer o r)
  answered_fits h o f = record { installed = h.installed; decided = h.decided; established = h.established; answers = each_more (AnswerFits s W) r.answers (option_to_list o) h.answers (one o f); accepted = h.accepted; recorded = h.recorded } where
    one : (o : Option Answer) → IfSome o (AnswerFits s W) → AllByRecursion (AnswerFits s W) (option_to_list o)
    one None f = tt
    one (Some a) f = (f, tt)

  pub answered_follows : (n : NodeView) (o : Option Answer) → NodeFollows s W r n → NodeFollows s W (with_answer o r) n
  answered_follows n o h =
      let x : RestIs s n.id (effects n.store n.streams n.noted r) W = h.rest in
      let k : RecordsAre s r W = x.records in
      record {
        node = h.node;
        store = h.store;
        shaped = h.shaped;
        ordered = h.ordered;
        rest = record { session = x.session; targets = x.targets; noted = x.noted; records = record { bag = k.bag; executed = k.executed; installed = k.installed; decided = k.decided; established = k.established } };
        engine = h.engine;
      }
