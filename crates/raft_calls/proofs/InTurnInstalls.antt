-- The reply to an install that is queued stands behind the install that it waits for.
use Rattle.std.specs.Prelude.{◌≡◌, ℕ, ◌+◌, Bool, true, false, List, [], ◌∷◌, ◌++◌, Option, None, Some, refl, if◌then◌else◌}
use Rattle.std.specs.List.{AllByRecursion}
use Rattle.std.specs.Ordering.{nat_cmp}
use Rattle.std.proofs.Common.{◌∙◌, ◌⊎◌, inl, inr, sym, ap, subst, ⊎_elim}
use Rattle.raft_state.specs.declared.ids.LogId.{LogId}
use Rattle.raft_state.specs.declared.ids.Vote.{Vote}
use Rattle.raft_state.proofs.LogLists.{each_append}
use Rattle.raft_command.specs.declared.command.Command.TheVariants.{Respond, StateMachine}
use Rattle.raft_command.specs.declared.command.Condition.{Condition}
use Rattle.raft_command.specs.declared.command.Condition.TheVariants.{StateMachineCommand}
use Rattle.raft_command.specs.declared.config.EngineConfig.{EngineConfig}
use Rattle.raft_command.specs.declared.message.Token.{Token}
use Rattle.raft_command.specs.declared.respond.Respond.TheVariants as respond
use Rattle.raft_command.specs.declared.sm.Command as sm
use Rattle.raft_command.specs.declared.sm.CommandPayload.TheVariants.{InstallFullSnapshot}
use Rattle.raft_command.specs.Kind.{condition_of}
use Rattle.raft_command.specs.Push.{ordered}
use Rattle.raft_steps.specs.InstallLaws.{InstallsFirst, installing}
use Rattle.raft_steps.specs.Installs.{handle_install_full_snapshot, has_other_at, held_upto, install_full_snapshot, install_upto, installs, replaces_log, truncate_contradicted, with_memberships_of}
use Rattle.raft_steps.specs.LogHandler.{update_purge_upto}
use Rattle.raft_steps.specs.Parts.{with_state}
use Rattle.raft_steps.specs.ServerStateHandler.{update_role}
use Rattle.raft_steps.specs.VoteHandler.{rejects_vote, update_vote}
use Rattle.raft_steps.proofs.Allowed.{only_here, only_of, only_then, role_only, truncate_only}
use Rattle.raft_steps.proofs.Kept.{either, either_option}
use Rattle.raft_steps.proofs.LawsInstall.{install_first}
use Rattle.raft_store.specs.declared.config.WorldConfig.{WorldConfig}
use Rattle.raft_store.specs.declared.entry.Entry.{Entry}
use Rattle.raft_store.specs.Entries.{entry_meaning}
use Rattle.raft_store.specs.Types.{WorldCommand, WorldMachine, WorldSnapshot}
use Rattle.raft_calls.specs.Engines.{WorldRespond}
use Rattle.raft_calls.proofs.Falls.{WorldCore}
use Rattle.raft_calls.proofs.InTurnCalls.{Only, Unwaiting, unwaiting}
use Rattle.raft_calls.proofs.Queues.{purge-only, update_vote-only}

abbrev pub WorldSmCommand : Type 0
WorldSmCommand = sm.Command WorldConfig ℕ (Unit {0}) Entry ℕ ℕ (List Entry)

-- a command is one of these
abbrev pub Among : WorldCommand → List WorldCommand → Type 0
Among c [] = ⊥
Among c (x ∷ xs) = (x ≡ c) ⊎ Among c xs

-- what is waited for is one of the commands that are done
pub record Awaited (done : List WorldCommand) (condition : Condition ℕ) : Type 0 where
  pub command : WorldSmCommand
  pub is : Among (StateMachine command) done
  pub number : condition ≡ StateMachineCommand command.seq

abbrev pub IsAwaited : List WorldCommand → Option (Condition ℕ) → Type 0
IsAwaited done None = Unit {0}
IsAwaited done (Some condition) = Awaited done condition

-- what each of some commands waits for is done, or stands before it
abbrev pub AllAwaited : List WorldCommand → List WorldCommand → Type 0
AllAwaited done [] = Unit {0}
AllAwaited done (c ∷ cs) = IsAwaited done (condition_of c) × AllAwaited (c ∷ done) cs

unwaiting_awaited : (done : List WorldCommand) (c : WorldCommand) → Unwaiting c → IsAwaited done (condition_of c)
unwaiting_awaited done c h = subst (IsAwaited done) (sym h) tt

pub all_unwaiting : (done cs : List WorldCommand) → AllByRecursion Unwaiting cs → AllAwaited done cs
all_unwaiting done [] h = tt
all_unwaiting done (c ∷ cs) h = (unwaiting_awaited done c h.0, all_unwaiting (c ∷ done) cs h.1)

pub then_unwaiting : (done cs more : List WorldCommand) → AllAwaited done cs → AllByRecursion Unwaiting more → AllAwaited done (cs ++ more)
then_unwaiting done [] more h k = all_unwaiting done more k
then_unwaiting done (c ∷ cs) more h k = (h.0, then_unwaiting (c ∷ done) cs more h.1 k)

-- a reply at the end that waits for one of them
reply_after : (done cs : List WorldCommand) (s : WorldSmCommand) (reply : WorldRespond) → AllByRecursion Unwaiting cs → Among (StateMachine s) done ⊎ Among (StateMachine s) cs
    → AllAwaited done (cs ++ Respond (Some (StateMachineCommand s.seq)) reply ∷ [])
reply_after done [] s reply h p = (record { command = s; is = ⊎_elim (λ a. a) (λ (a : ⊥). absurd a) p; number = refl }, tt)
reply_after done (c ∷ cs) s reply h p = (unwaiting_awaited done c h.0, reply_after (c ∷ done) cs s reply h.1 (moved p))
  where
    moved : Among (StateMachine s) done ⊎ ((c ≡ StateMachine s) ⊎ Among (StateMachine s) cs) → ((c ≡ StateMachine s) ⊎ Among (StateMachine s) done) ⊎ Among (StateMachine s) cs
    moved (inl a) = inl (inr a)
    moved (inr (inl e)) = inl (inl e)
    moved (inr (inr a)) = inr a

among_here : (c : WorldCommand) (xs ys : List WorldCommand) → Among c (xs ++ (c ∷ ys))
among_here c [] ys = inl refl
among_here c (x ∷ xs) ys = inr (among_here c xs ys)

among_behind : (c : WorldCommand) (xs ys : List WorldCommand) → Among c ys → Among c (xs ++ ys)
among_behind c [] ys h = h
among_behind c (x ∷ xs) ys h = inr (among_behind c xs ys h)

-- what a step queues where nothing was queued
pub all_only : (old new : WorldCore) → Only old new → old.output.items ≡ [] → AllByRecursion Unwaiting new.output.items
all_only old new h e = subst (AllByRecursion Unwaiting) (sym (h.behind ∙ ap (λ cs. cs ++ h.added) e)) h.each

module _ (config : EngineConfig ℕ) (snapshot : WorldSnapshot) where
  -- an install
  upto-only : (x : LogId ℕ) (c : WorldCore) → Only c (install_upto nat_cmp config x snapshot c)
  unfolding install_upto
  upto-only x c =
      let begun : WorldCore = with_state c (record c.state { snap = snapshot.meta }) in
      let cut : WorldCore = truncate_contradicted nat_cmp config x begun in
      let held : WorldCore = with_state cut (with_memberships_of snapshot.meta.last_membership x (replaces_log nat_cmp c.state x) (held_upto nat_cmp x cut.state)) in
      let settled : WorldCore = update_role nat_cmp config held in
      let queuing : WorldCore = record settled { output = ordered settled.output (InstallFullSnapshot snapshot) } in
      let targeted : WorldCore = update_purge_upto (Some x) queuing in
      only_then Unwaiting c begun _ (only_here Unwaiting c begun refl)
      (only_then Unwaiting begun cut _ (either (Only begun) (has_other_at nat_cmp begun.state x) _ _ (truncate_only Unwaiting nat_cmp config unwaiting.leading x.index begun (λ y e. refl)) (only_here Unwaiting begun begun refl))
      (only_then Unwaiting cut held _ (only_here Unwaiting cut held refl)
      (only_then Unwaiting held settled _ (role_only Unwaiting nat_cmp config unwaiting.leading held)
      (only_then Unwaiting settled queuing _ (only_of Unwaiting (installing snapshot (settled.output.seq + 1) ∷ []) settled queuing refl (refl, tt))
      (only_then Unwaiting queuing targeted _ (only_here Unwaiting queuing targeted refl) (purge-only Unwaiting unwaiting config targeted))))))

  install-only : (c : WorldCore) → Only c (install_full_snapshot nat_cmp config snapshot c)
  unfolding install_full_snapshot
  install-only c =
      either_option (Only c) snapshot.meta.last_log_id _ _ (only_here Unwaiting c c refl)
      (λ x. either (Only c) (installs nat_cmp c.state snapshot.meta) _ _ (upto-only x c) (only_here Unwaiting c c refl))

  -- a leader's snapshot
  pub handle_install_awaited : (v : Vote ℕ) (token : Token) (now : ℕ) (m : WorldMachine) → m.core.output.items ≡ []
      → AllAwaited [] (handle_install_full_snapshot nat_cmp entry_meaning config v snapshot token now m).core.output.items
  unfolding handle_install_full_snapshot
  handle_install_awaited v token now m none =
      either (λ (n : WorldMachine). AllAwaited [] n.core.output.items) (rejects_vote nat_cmp m.core.state v) _ _
      (subst (λ cs. AllAwaited [] (cs ++ Respond None (reply_of m.core) ∷ [])) (sym none) (tt, tt)) (replied (installs nat_cmp voted.core.state snapshot.meta) refl)
    where
      reply_of : WorldCore → WorldRespond
      reply_of c = respond.InstallFullSnapshot (record { value = record { vote = c.state.vote }; token = token })

      voted : WorldMachine
      voted = update_vote nat_cmp entry_meaning config v now m

      installed : WorldCore
      installed = install_full_snapshot nat_cmp config snapshot voted.core

      plain : AllByRecursion Unwaiting installed.output.items
      plain = all_only m.core installed (only_then Unwaiting m.core voted.core installed (update_vote-only Unwaiting unwaiting config v now m) (install-only voted.core)) none

      replied : (b : Bool) → installs nat_cmp voted.core.state snapshot.meta ≡ b
          → AllAwaited [] (installed.output.items ++ Respond (if b then Some (StateMachineCommand (voted.core.output.seq + 1)) else None) (reply_of installed) ∷ [])
      replied true i =
          let f : InstallsFirst snapshot (voted.core.output.seq + 1) [] voted.core installed = install_first nat_cmp config snapshot voted.core i in
          let s : WorldSmCommand = record { seq = voted.core.output.seq + 1; payload = InstallFullSnapshot snapshot } in
          reply_after [] installed.output.items s (reply_of installed) plain
          (inr (subst (Among (StateMachine s)) (sym f.behind) (among_behind (StateMachine s) voted.core.output.items _ (among_here (StateMachine s) f.before (f.after ++ [])))))
      replied false i = all_unwaiting [] _ (each_append Unwaiting installed.output.items (Respond None (reply_of installed) ∷ []) plain (refl, tt))
