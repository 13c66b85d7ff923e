use Rattle.std.proofs.Common.{rules, ◌≡◌, ◌∙◌, sym, ap, subst, ℕ, true, [], ◌∷◌, ◌+◌, ◌^◌, ◌<◌, None, lit<}
use Rattle.std.specs.Prelude.{OnOk, Result, Ok, Err}
use Rattle.std.specs.declared.cmp.Ordering.{Ordering}
use Rattle.raft_state.specs.declared.config.RaftEntry
use Rattle.raft_state.specs.declared.ids.Vote.{Vote}
use Rattle.raft_state.specs.Order.{next}
use Rattle.raft_command.specs.declared.config.EngineConfig.{EngineConfig}
use Rattle.raft_proposer.specs.Candidate.{into_leader}
use Rattle.raft_proposer.specs.Joint.{JointCandidate, JointLeader}
use Rattle.raft_steps.specs.Engine.{lead_by_votes, may_establish}
use Rattle.raft_steps.specs.LeaderHandler.{leader_append_entries}
use Rattle.raft_steps.specs.Parts.{Led, Machine, leading, led_of, machine_of, on_leader, unboxed}
use Rattle.raft_steps.specs.ReplicationHandler.{rebuild_replication_streams}
use Rattle.raft_steps.specs.VoteHandler.{update_vote}
use Rattle.raft_steps.proofs.Leads.{into_may, one_id}
use Rattle.raft_steps.proofs.Led.{by_votes_is}
use Rattle.raft_steps.proofs.Sending.{rebuilt_may}
use Rattle.raft_engine.proofs.engine.lead_by_votes.Goals as goal

on_ok : {A B : Type 0} (r : Result A B) (P Q : Type 0) → (P → Q) → OnOk r P → OnOk r Q
on_ok (Ok a) P Q f h = f h
on_ok (Err e) P Q f h = h

module _ {C NID N E D R S : Type 0} (cmp : NID → NID → Ordering) (entry : RaftEntry.Ghosts E NID N) (config : EngineConfig NID) where
  -- its streams don't change its vote
  leads : (c : JointCandidate NID) (now : ℕ) (m n : Machine C NID N E D R S) (made : JointLeader C NID N E D R S) (x : Led C NID N E D R S)
      → may_establish cmp m.core.state m.leader c ≡ true → made ≡ into_leader cmp c → x ≡ rebuild_replication_streams cmp config (record { leader = made; core = m.core })
      → x.leader.vote ≡ made.vote
      → n ≡ on_leader (leader_append_entries cmp entry config (entry.blank made.noop_log_id ∷ [])) (update_vote cmp entry config x.leader.vote now (leading (record m { candidate = None }) x))
      → n ≡ lead_by_votes cmp entry config c now m
  leads c now m n made x may e f v h =
      by_votes_is cmp entry config c now m n made x may e f
      (subst (λ (w : Vote NID). n ≡ on_leader (leader_append_entries cmp entry config (entry.blank made.noop_log_id ∷ [])) (update_vote cmp entry config w now (leading (record m { candidate = None }) x))) v h)

pub start_leading-requires-clause-send : goal.start_leading-requires-clause-send
start_leading-requires-clause-send g c =
    rebuilt_may g.C.NodeId.Ord.cmp c.args.config.now 2 _ _ c.in_ok-rebuild_replication_streams.ensures.step
    (into_may g.C.NodeId.Ord.cmp g.met.C.NodeId.Ord.total c.args.config.now 2 c.args.asking c.in_ok-led.led c.args.state.now c.args.output.now c.in_ok-led.ensures c.requires.log (lit< tt))

pub start_leading-requires-clause-room : goal.start_leading-requires-clause-room
start_leading-requires-clause-room g c =
    let kept : c.rebuild_replication_streams.new.leader.last_log_id ≡ c.args.asking.last_log_id =
    ap (λ l. l.last_log_id) c.in_ok-rebuild_replication_streams.ensures.others ∙ ap (λ l. l.last_log_id) c.in_ok-led.ensures ∙ one_id c.args.asking.last_log_id in
    subst (λ d. next d + 1 < 2 ^ 64) (sym kept) (c.requires.room (search rules))

pub returns : goal.returns
returns g c =
    let may : may_establish g.C.NodeId.Ord.cmp c.args.state.now (unboxed c.args.leader.now) c.args.asking ≡ true = search rules in
    on_ok c.start_leading.result _ _
    (leads g.C.NodeId.Ord.cmp g.C.Entry.RaftEntry c.args.config.now c.args.asking c.args.now
    (machine_of c.args.state.now c.args.output.now c.args.leader.now c.args.candidate.now) _ c.in_ok-led.led
    (led_of c.rebuild_replication_streams.new.leader c.args.state.now c.rebuild_replication_streams.new.output) may c.in_ok-led.ensures
    c.in_ok-rebuild_replication_streams.ensures.step (ap (λ l. l.vote) c.in_ok-rebuild_replication_streams.ensures.others))
    c.start_leading.ensures
