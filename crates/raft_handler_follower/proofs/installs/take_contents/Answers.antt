use Rattle.std.proofs.Common.{rules, ◌≡◌, ◌∙◌, ap, refl, subst, ℕ, Bool}
use Rattle.std.specs.Prelude.{not, Result, Ok, Err, OnOk}
use Rattle.std.specs.declared.cmp.Ordering.{Ordering}
use Rattle.raft_state.specs.declared.ids.LogId.{LogId}
use Rattle.raft_state.specs.declared.membership.SnapshotMeta.{SnapshotMeta}
use Rattle.raft_state.specs.declared.state.RaftState.{RaftState}
use Rattle.raft_command.specs.declared.command.Command.{Command}
use Rattle.raft_command.specs.Queue.{Queue}
use Rattle.raft_state.specs.Log.{at}
use Rattle.raft_state.specs.State.{undoes_membership}
use Rattle.raft_command.specs.declared.config.EngineConfig.{EngineConfig}
use Rattle.raft_steps.specs.FollowingHandler.{truncate_logs}
use Rattle.raft_steps.specs.Installs.{has_other_at, replaces_log, held_upto, with_memberships_of, truncate_contradicted}
use Rattle.raft_steps.specs.Parts.{Core, core_of, with_state}
use Rattle.raft_steps.specs.ServerStateHandler.{update_role}
use Rattle.raft_steps.proofs.Kept.{either, either_option}
use Rattle.raft_handler_follower.proofs.installs.take_contents.Goals as goal

module _ {C NID N E D R S : Type 0} (cmp : NID → NID → Ordering) (config : EngineConfig NID) where
  -- no number is drawn before the install
  role_seq : (c : Core C NID N E D R S) → (update_role cmp config c).output.seq ≡ c.output.seq
  unfolding update_role
  role_seq c = refl

  cut_seq : (x : LogId NID) (c : Core C NID N E D R S) → (truncate_contradicted cmp config x c).output.seq ≡ c.output.seq
  unfolding truncate_logs update_role
  cut_seq x c =
      let P = λ (d : Core C NID N E D R S). d.output.seq ≡ c.output.seq in
      either P (has_other_at cmp c.state x) _ _
      (either_option P (at c.state.ids x.index) _ _ refl (λ first. either P (not (undoes_membership c.state x.index)) _ _ refl refl)) refl

  number_kept : {A B : Type 0} (r : Result A B) (mid new : Core C NID N E D R S) (n : ℕ) → OnOk r (new ≡ update_role cmp config mid) → mid.output.seq ≡ n → OnOk r (new.output.seq ≡ n)
  number_kept (Ok a) mid new n e h = ap (λ d. d.output.seq) e ∙ role_seq mid ∙ h
  number_kept (Err a) mid new n e h = tt

  -- its parts, one after another
  contents : {A B : Type 0} (r : Result A B) (meta : SnapshotMeta NID N) (x : LogId NID) (first noted cut held taken : RaftState NID N) (before after : Queue (Command C NID N E D R S)) (gone : Bool) (new : Core C NID N E D R S)
      → gone ≡ replaces_log cmp first x → noted ≡ record first { snap = meta } → core_of cut after ≡ truncate_contradicted cmp config x (core_of noted before)
      → held ≡ held_upto cmp x cut → taken ≡ with_memberships_of meta.last_membership x gone held → OnOk r (new ≡ update_role cmp config (core_of taken after))
      → OnOk r (new ≡ update_role cmp config (
      let done = truncate_contradicted cmp config x (core_of (record first { snap = meta }) before) in
      with_state done (with_memberships_of meta.last_membership x (replaces_log cmp first x) (held_upto cmp x done.state))))
  contents r meta x first noted cut held taken before after gone new is_gone is_noted is_cut is_held is_taken =
      let P = λ (c : Core C NID N E D R S). OnOk r (new ≡ update_role cmp config c) in
      let with = λ (b : Bool) (c : Core C NID N E D R S). with_state c (with_memberships_of meta.last_membership x b (held_upto cmp x c.state)) in
      let a : core_of taken after ≡ core_of (with_memberships_of meta.last_membership x gone held) after = ap (λ s. core_of s after) is_taken in
      let b : core_of (with_memberships_of meta.last_membership x gone held) after ≡ with gone (core_of cut after) = ap (λ s. core_of (with_memberships_of meta.last_membership x gone s) after) is_held in
      subst P (a ∙ b ∙ ap (λ k. with k (core_of cut after)) is_gone ∙ ap (with (replaces_log cmp first x)) (is_cut ∙ ap (λ s. truncate_contradicted cmp config x (core_of s before)) is_noted))

pub returns-clause-number : goal.returns-clause-number
returns-clause-number g c =
    number_kept g.C.NodeId.Ord.cmp c.args.config.now c.update_role.result _ (core_of c.update_role.new.state c.update_role.new.output) _ c.update_role.ensures.step
    (ap (λ d. d.output.seq) c.in_ok-truncate_contradicted.ensures ∙ cut_seq g.C.NodeId.Ord.cmp c.args.config.now c.args.last.now (core_of c.take_record.new.state c.args.output.now))

pub returns-clause-step : goal.returns-clause-step
returns-clause-step g c =
    contents g.C.NodeId.Ord.cmp c.args.config.now c.update_role.result c.args.meta.now c.args.last.now c.args.state.now c.take_record.new.state c.truncate_contradicted.new.state c.hold_upto.new.state c.take_memberships.new.state
    c.args.output.now c.truncate_contradicted.new.output _ _
    (search rules) c.in_ok-take_record.ensures c.in_ok-truncate_contradicted.ensures c.hold_upto.ensures c.in_ok-take_memberships.ensures c.update_role.ensures.step
