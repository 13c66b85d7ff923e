use Rattle.std.proofs.Common.{◌+◌, ◌<◌, ◌^◌, ap, None, Option, Some}
use Rattle.std.specs.Prelude.{IfSome}
use Rattle.std.specs.Cmp.{tied_itself}
use Rattle.std.specs.Ordering.{is_eq}
use Rattle.raft_state.proofs.Orders.{leader_total}
use Rattle.raft_state.specs.Order.{next}
use Rattle.raft_steps.specs.Parts.{led_of, machine_of}
use Rattle.raft_steps.specs.Sending.{MaySend}
use Rattle.raft_steps.proofs.Leads.{own_vote_may}
use Rattle.raft_steps.proofs.Votes.{may_propose}
use Rattle.raft_engine.proofs.engine.start_leading.Goals as goal

pub update_vote-requires-clause-room : goal.update_vote-requires-clause-room
update_vote-requires-clause-room g c =
    λ low. rw c.in_ok-new.ensures.ok (own_vote_may g.C.NodeId.Ord.cmp g.met.C.NodeId.Ord.total c.args.config.now c.args.led c.args.state.now.em.membership c.args.state.now.ids)

-- a part of what holds of what is there
part_of : {A : Type 0} (o : Option A) (P Q : A → Type 0) → ((a : A) → P a → Q a) → IfSome o P → IfSome o Q
part_of None P Q f h = h
part_of (Some a) P Q f h = f a h

pub propose_where_leading-requires-clause-send : goal.propose_where_leading-requires-clause-send
propose_where_leading-requires-clause-send g c =
    let n = machine_of c.update_vote.new.state c.update_vote.new.output c.update_vote.new.leader c.update_vote.new.candidate in
    part_of n.leader (λ l. MaySend 2 (led_of l n.core.state n.core.output) × (next l.last_log_id + 1 < 2 ^ 64)) (λ l. MaySend 2 (led_of l n.core.state n.core.output)) (λ l h. h.0)
    (may_propose g.C.NodeId.Ord.cmp g.met.C.NodeId.NodeId.equal_is_same g.C.Entry.RaftEntry c.args.config.now 2 c.args.led
    (machine_of c.args.state.now c.args.output.now (Some c.in_ok-new.field-0) c.args.candidate.now) n c.args.led.vote c.args.now (ap Some c.in_ok-new.ensures.ok)
    c.in_ok-_taken.ensures.step (ap is_eq (tied_itself (leader_total g.C.NodeId.Ord.cmp g.met.C.NodeId.Ord.total) c.args.led.vote.leader_id)) c.requires.send c.requires.room)

pub propose_where_leading-requires-clause-room : goal.propose_where_leading-requires-clause-room
propose_where_leading-requires-clause-room g c =
    let n = machine_of c.update_vote.new.state c.update_vote.new.output c.update_vote.new.leader c.update_vote.new.candidate in
    part_of n.leader (λ l. MaySend 2 (led_of l n.core.state n.core.output) × (next l.last_log_id + 1 < 2 ^ 64)) (λ l. next l.last_log_id + 1 < 2 ^ 64) (λ l h. h.1)
    (may_propose g.C.NodeId.Ord.cmp g.met.C.NodeId.NodeId.equal_is_same g.C.Entry.RaftEntry c.args.config.now 2 c.args.led
    (machine_of c.args.state.now c.args.output.now (Some c.in_ok-new.field-0) c.args.candidate.now) n c.args.led.vote c.args.now (ap Some c.in_ok-new.ensures.ok)
    c.in_ok-_taken.ensures.step (ap is_eq (tied_itself (leader_total g.C.NodeId.Ord.cmp g.met.C.NodeId.Ord.total) c.args.led.vote.leader_id)) c.requires.send c.requires.room)
