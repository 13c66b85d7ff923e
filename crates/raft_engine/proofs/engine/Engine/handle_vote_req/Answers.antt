use Rattle.std.proofs.Common.{rules, ◌≡◌, ◌∙◌, sym, ap, ℕ, true, false, None}
use Rattle.std.specs.Prelude.{not, OnOk, IfOk, Result, Ok, Err}
use Rattle.std.specs.declared.alloc.AllocError.{AllocError}
use Rattle.std.specs.declared.cmp.Ordering.{Ordering}
use Rattle.raft_state.specs.declared.config.RaftEntry
use Rattle.raft_command.specs.declared.config.EngineConfig.{EngineConfig}
use Rattle.raft_command.specs.declared.message.VoteRequest.{VoteRequest}
use Rattle.raft_command.specs.declared.message.VoteResponse.{VoteResponse}
use Rattle.raft_steps.specs.Parts.{Machine, machine_of, unboxed}
use Rattle.raft_engine.specs.Whole.{parts}
use Rattle.raft_engine.proofs.Ended.{ended_with}
use Rattle.raft_steps.specs.RequestRefusals.{refusals_of_vote_req}
use Rattle.raft_steps.specs.Requests.{handle_vote_req, refuses_vote_req, vote_req_answer, vote_response}
use Rattle.raft_steps.specs.VoteHandler.{rejects_vote, update_vote}
use Rattle.raft_steps.proofs.KeptFollow.{taken_vote_req_is_sound}
use Rattle.raft_steps.proofs.Room.{may_take}
use Rattle.raft_steps.proofs.Settled.{settled_sound}
use Rattle.raft_engine.proofs.engine.Engine.handle_vote_req.Goals as goal

module _ {C NID N E D R S : Type 0} (cmp : NID → NID → Ordering) (entry : RaftEntry.Ghosts E NID N) (config : EngineConfig NID) (req : VoteRequest NID) (now : ℕ) (m : Machine C NID N E D R S) where
  -- a request that neither the lease nor the log denies is what its vote does
  stepped : (done : Result (VoteResponse NID) AllocError) (n : Machine C NID N E D R S) → refuses_vote_req cmp config m.core.state req now ≡ false
      → OnOk done (n ≡ update_vote cmp entry config req.vote now m) → OnOk done (n ≡ handle_vote_req cmp entry config req now m)
  unfolding handle_vote_req
  stepped (Ok a) n taken h = rw taken h
  stepped (Err e) n taken h = tt

  -- and is answered after it
  answered : (done : Result (VoteResponse NID) AllocError) (n : Machine C NID N E D R S) → refuses_vote_req cmp config m.core.state req now ≡ false
      → OnOk done (n ≡ update_vote cmp entry config req.vote now m) → IfOk done (λ a. a ≡ vote_response n.core.state (not (rejects_vote cmp m.core.state req.vote)))
      → IfOk done (λ a. a ≡ vote_req_answer cmp entry config req now m)
  unfolding handle_vote_req vote_req_answer
  answered (Ok a) n taken h k = rw taken (k ∙ ap (λ (q : Machine C NID N E D R S). vote_response q.core.state (not (rejects_vote cmp m.core.state req.vote))) h)
  answered (Err e) n taken h k = tt

pub take_vote_req-done-requires-clause-room : goal.take_vote_req-done-requires-clause-room
take_vote_req-done-requires-clause-room g c =
    let e = c.args.self.now in
    let unspent : e.output.spent ≡ false = search rules in
    may_take g.C.NodeId.Ord.cmp g.met.C.NodeId.Ord.total g.met.C.NodeId.NodeId.equal_is_same e.config c.args.req.vote e.state (unboxed e.leader) (c.requires unspent).sound (search rules)

pub returns-clause-sound : goal.returns-clause-sound
returns-clause-sound g c =
    let e = c.args.self.now in
    let unspent : e.output.spent ≡ false = search rules in
    let taken : refuses_vote_req g.C.NodeId.Ord.cmp e.config e.state c.args.req c.args.now ≡ false = search rules in
    let unrefused : refusals_of_vote_req g.C.NodeId.Ord.cmp e.config c.args.req c.args.now (parts e) ≡ None = search rules in
    settled_sound g.C.NodeId.Ord.cmp e.config _ _ _ _ _ _ _ _ c.settle.ensures c.take_vote_req-done.ensures.step
    (taken_vote_req_is_sound g.C.NodeId.Ord.cmp g.met.C.NodeId.Ord.total g.met.C.NodeId.NodeId.equal_is_same g.C.Entry.RaftEntry g.met.C.Entry.RaftEntry.with_id_has e.config c.args.req c.args.now (parts e) taken unrefused (c.requires unspent))

pub returns-clause-step : goal.returns-clause-step
returns-clause-step g c =
    let e = c.args.self.now in
    let new = c.take_vote_req-done.new in
    let taken : refuses_vote_req g.C.NodeId.Ord.cmp e.config e.state c.args.req c.args.now ≡ false = search rules in
    let unrefused : refusals_of_vote_req g.C.NodeId.Ord.cmp e.config c.args.req c.args.now (parts e) ≡ None = search rules in
    ended_with (λ q. machine_of new.state q new.leader new.candidate) _ _ _ _ _ _ _ _ _ c.settle.ensures unrefused
    (answered g.C.NodeId.Ord.cmp g.C.Entry.RaftEntry e.config c.args.req c.args.now (parts e) c.take_vote_req-done.result
    (machine_of new.state new.output new.leader new.candidate) taken c.take_vote_req-done.ensures.step c.take_vote_req-done.ensures.answer)
    (stepped g.C.NodeId.Ord.cmp g.C.Entry.RaftEntry e.config c.args.req c.args.now (parts e) c.take_vote_req-done.result
    (machine_of new.state new.output new.leader new.candidate) taken c.take_vote_req-done.ensures.step)

pub returns-clause-free : goal.returns-clause-free
returns-clause-free g c =
    let e = c.args.self.now in
    let taken : refuses_vote_req g.C.NodeId.Ord.cmp e.config e.state c.args.req c.args.now ≡ false = search rules in
    λ denied. let no : true ≡ false = sym denied ∙ taken in cc
