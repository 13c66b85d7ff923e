use Rattle.std.proofs.Common.{rules, ◌≡◌, ◌∙◌, refl, ap, ℕ, Bool, true, false, None}
use Rattle.std.specs.Prelude.{OnOk, Result, Ok, Err, if◌then◌else◌}
use Rattle.std.specs.declared.cmp.Ordering.{Ordering}
use Rattle.raft_state.specs.declared.config.RaftEntry
use Rattle.raft_state.specs.declared.ids.Vote.{Vote}
use Rattle.raft_command.specs.declared.config.EngineConfig.{EngineConfig}
use Rattle.raft_command.specs.declared.message.Snapshot.{Snapshot}
use Rattle.raft_command.specs.declared.message.Token.{Token}
use Rattle.raft_steps.specs.Installs.{handle_install_full_snapshot, install_and_reply, reply_install}
use Rattle.raft_steps.specs.Parts.{Core, Machine, machine_of, on_core}
use Rattle.raft_steps.specs.VoteHandler.{rejects_vote, update_vote}
use Rattle.raft_engine.proofs.installs.handle_install_full_snapshot.Goals as goal

on_ok : {A B : Type 0} (r : Result A B) (P Q : Type 0) → (P → Q) → OnOk r P → OnOk r Q
on_ok (Ok a) P Q f h = f h
on_ok (Err e) P Q f h = h

then_is : {A : Type 0} (b : Bool) (x y : A) → b ≡ true → x ≡ (if b then x else y)
then_is true x y e = refl
then_is false x y e = cc

else_is : {A : Type 0} (b : Bool) (x y : A) → b ≡ false → y ≡ (if b then x else y)
else_is true x y e = cc
else_is false x y e = refl

module _ {C NID N E D R S : Type 0} (cmp : NID → NID → Ordering) (entry : RaftEntry.Ghosts E NID N) (config : EngineConfig NID) (v : Vote NID) (snapshot : Snapshot C NID N E D R S) (token : Token) (now : ℕ) where
  -- a vote below the own one is only replied to
  rejected_is : (m : Machine C NID N E D R S) (q : Core C NID N E D R S) → rejects_vote cmp m.core.state v ≡ true → q ≡ reply_install None token m.core
      → record m { core = q } ≡ handle_install_full_snapshot cmp entry config v snapshot token now m
  unfolding handle_install_full_snapshot
  rejected_is m q low h =
      ap (λ (k : Core C NID N E D R S). record m { core = k }) h
      ∙ then_is (rejects_vote cmp m.core.state v) (on_core (reply_install None token) m) (on_core (install_and_reply cmp entry config snapshot token) (update_vote cmp entry config v now m)) low

  -- another is taken, and the snapshot behind it
  installed_is : (m n : Machine C NID N E D R S) (q : Core C NID N E D R S) → rejects_vote cmp m.core.state v ≡ false → n ≡ update_vote cmp entry config v now m
      → q ≡ install_and_reply cmp entry config snapshot token n.core → record n { core = q } ≡ handle_install_full_snapshot cmp entry config v snapshot token now m
  unfolding handle_install_full_snapshot
  installed_is m n q low e h =
      ap (λ (k : Core C NID N E D R S). record n { core = k }) h ∙ ap (on_core (install_and_reply cmp entry config snapshot token)) e
      ∙ else_is (rejects_vote cmp m.core.state v) (on_core (reply_install None token) m) (on_core (install_and_reply cmp entry config snapshot token) (update_vote cmp entry config v now m)) low

pub returns-then-rejects_vote : goal.returns-then-rejects_vote
returns-then-rejects_vote g c =
    let low : rejects_vote g.C.NodeId.Ord.cmp c.args.state.now c.args.vote.now ≡ true = search rules in
    on_ok c.reply_install.result _ _
    (rejected_is g.C.NodeId.Ord.cmp g.C.Entry.RaftEntry c.args.config.now c.args.vote.now c.args.snapshot c.args.token c.args.now
    (machine_of c.args.state.now c.args.output.now c.args.leader.now c.args.candidate.now) _ low)
    c.reply_install.ensures

pub returns : goal.returns
returns g c =
    let low : rejects_vote g.C.NodeId.Ord.cmp c.args.state.now c.args.vote.now ≡ false = search rules in
    on_ok c.install_and_reply.result _ _
    (installed_is g.C.NodeId.Ord.cmp g.C.Entry.RaftEntry c.args.config.now c.args.vote.now c.args.snapshot c.args.token c.args.now
    (machine_of c.args.state.now c.args.output.now c.args.leader.now c.args.candidate.now)
    (machine_of c.update_vote.new.state c.update_vote.new.output c.update_vote.new.leader c.update_vote.new.candidate) _ low c.in_ok-_taken.ensures.step)
    c.install_and_reply.ensures

pub update_vote-requires-clause-log : goal.update_vote-requires-clause-log
update_vote-requires-clause-log g c = search rules
