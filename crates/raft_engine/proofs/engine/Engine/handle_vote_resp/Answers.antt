use Rattle.std.proofs.Common.{rules, ◌≡◌, refl, sym, subst, ℕ, ◌<◌, ◌^◌, true, false, None}
use Rattle.raft_steps.specs.Refusals.{refusals_of_vote_resp}
use Rattle.raft_steps.specs.Engine.{handle_vote_resp, may_establish}
use Rattle.raft_state.specs.Log.{last}
use Rattle.raft_state.specs.Order.{next}
use Rattle.raft_steps.proofs.Led.{candidate_ends}
use Rattle.raft_steps.proofs.Room.{log_end}
use Rattle.raft_steps.specs.Parts.{Machine, machine_of}
use Rattle.raft_engine.specs.Whole.{parts}
use Rattle.raft_engine.proofs.Ended.{ended}
use Rattle.std.specs.Prelude.{OnOk, IfSome, Result}
use Rattle.std.specs.declared.alloc.AllocError.{AllocError}
use Rattle.std.specs.declared.cmp.Ordering.{Ordering}
use Rattle.raft_state.specs.declared.config.RaftEntry
use Rattle.raft_command.specs.declared.config.EngineConfig.{EngineConfig}
use Rattle.raft_command.specs.declared.message.VoteResponse.{VoteResponse}
use Rattle.raft_steps.proofs.KeptEngine.{handle_vote_resp_along}
use Rattle.raft_steps.proofs.Settled.{settled_sound}
use Rattle.raft_engine.proofs.engine.Engine.handle_vote_resp.Goals.{then-sees_greater_log, else-sees_greater_log}
use Rattle.raft_engine.proofs.engine.Engine.handle_vote_resp.Goals as goal

module _ {A C NID N E D R S : Type 0} (cmp : NID → NID → Ordering) (entry : RaftEntry.Ghosts E NID N) (config : EngineConfig NID) (target : NID) (resp : VoteResponse NID) (now : ℕ)
    (done : Result A AllocError) (k : Machine C NID N E D R S) where
  -- the same of settings and an engine that are equal
  along : (settings : EngineConfig NID) (m n : Machine C NID N E D R S) → settings ≡ config → n ≡ m
      → OnOk done (k ≡ handle_vote_resp cmp entry settings target resp now n) → OnOk done (k ≡ handle_vote_resp cmp entry config target resp now m)
  along settings m n e f h =
      subst (λ (q : Machine C NID N E D R S). OnOk done (k ≡ handle_vote_resp cmp entry config target resp now q)) f
      (subst (λ (s : EngineConfig NID). OnOk done (k ≡ handle_vote_resp cmp entry s target resp now n)) e h)

pub returns-clause-sound : goal.returns-clause-sound
returns-clause-sound g c =
    let old = c.args.self.now in
    let e = c.if-sees_greater_log.self in
    let unspent : old.output.spent ≡ false = search rules in
    let unrefused : refusals_of_vote_resp g.C.NodeId.Ord.cmp old.config c.args.target c.args.resp (parts old) ≡ None = search rules in
    let settings : e.config ≡ old.config = elim c.if-sees_greater_log.branch [ then-sees_greater_log w ↦ rw w.self-is refl | else-sees_greater_log w ↦ rw w.self-is refl ] in
    let same : parts e ≡ parts old =
    elim c.if-sees_greater_log.branch [
      | then-sees_greater_log w ↦ rw (w.self-is, c.check_reply.ensures.same) refl
      | else-sees_greater_log w ↦ rw (w.self-is, c.check_reply.ensures.same) refl
    ] in
    settled_sound g.C.NodeId.Ord.cmp e.config _ _ _ _ _ _ _ _ c.settle.ensures c.take_reply-done.ensures.step
    (handle_vote_resp_along g.C.NodeId.Ord.cmp g.met.C.NodeId.Ord.total g.met.C.NodeId.NodeId.equal_is_same g.C.Entry.RaftEntry g.met.C.Entry.RaftEntry.with_id_has old.config
    c.args.target c.args.resp c.args.now e.config (parts old) (parts e) settings same unrefused (c.requires unspent))

pub returns-clause-step : goal.returns-clause-step
returns-clause-step g c =
    let old = c.args.self.now in
    let e = c.if-sees_greater_log.self in
    let new = c.take_reply-done.new in
    let unrefused : refusals_of_vote_resp g.C.NodeId.Ord.cmp old.config c.args.target c.args.resp (parts old) ≡ None = search rules in
    let settings : e.config ≡ old.config = elim c.if-sees_greater_log.branch [ then-sees_greater_log w ↦ rw w.self-is refl | else-sees_greater_log w ↦ rw w.self-is refl ] in
    let same : parts e ≡ parts old =
    elim c.if-sees_greater_log.branch [
      | then-sees_greater_log w ↦ rw (w.self-is, c.check_reply.ensures.same) refl
      | else-sees_greater_log w ↦ rw (w.self-is, c.check_reply.ensures.same) refl
    ] in
    ended (λ q. machine_of new.state q new.leader new.candidate) _ _ _ _ _ _ _ _ c.settle.ensures unrefused
    (along g.C.NodeId.Ord.cmp g.C.Entry.RaftEntry old.config c.args.target c.args.resp c.args.now c.take_reply-done.result (machine_of new.state new.output new.leader new.candidate)
    e.config (parts old) (parts e) settings same c.take_reply-done.ensures.step)

pub returns-clause-flag : goal.returns-clause-flag
returns-clause-flag g c = search rules

pub returns-clause-refused : goal.returns-clause-refused
returns-clause-refused g c = search rules

pub returns-clause-free : goal.returns-clause-free
returns-clause-free g c = search rules

pub take_reply-done-requires-clause-log : goal.take_reply-done-requires-clause-log
take_reply-done-requires-clause-log g c =
    let old = c.args.self.now in
    let e = c.if-sees_greater_log.self in
    let unspent : old.output.spent ≡ false = search rules in
    let same : parts e ≡ parts old =
    elim c.if-sees_greater_log.branch [
      | then-sees_greater_log w ↦ rw (w.self-is, c.check_reply.ensures.same) refl
      | else-sees_greater_log w ↦ rw (w.self-is, c.check_reply.ensures.same) refl
    ] in
    subst (λ q. next (last q.core.state.ids) < 2 ^ 64) (sym same) (log_end g.C.NodeId.Ord.cmp old.state (c.requires unspent).sound)

pub take_reply-done-requires-clause-end : goal.take_reply-done-requires-clause-end
take_reply-done-requires-clause-end g c =
    let old = c.args.self.now in
    let e = c.if-sees_greater_log.self in
    let unspent : old.output.spent ≡ false = search rules in
    let same : parts e ≡ parts old =
    elim c.if-sees_greater_log.branch [
      | then-sees_greater_log w ↦ rw (w.self-is, c.check_reply.ensures.same) refl
      | else-sees_greater_log w ↦ rw (w.self-is, c.check_reply.ensures.same) refl
    ] in
    subst (λ q. IfSome q.candidate (λ k. may_establish g.C.NodeId.Ord.cmp q.core.state q.leader k ≡ true → next k.last_log_id < 2 ^ 64)) (sym same)
    (candidate_ends g.C.NodeId.Ord.cmp old.config (parts old) (c.requires unspent))
