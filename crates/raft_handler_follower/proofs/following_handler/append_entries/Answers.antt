use Rattle.std.proofs.Common.{◌≡◌, ◌∙◌, ap, subst, ℕ, ◌-◌, List, length, drop, take, map}
use Rattle.std.proofs.lemmas.List.{take_rest}
use Rattle.std.specs.Prelude.{Option, Result, OnOk}
use Rattle.std.specs.List.{prefix_len}
use Rattle.std.specs.declared.cmp.Ordering.{Ordering}
use Rattle.raft_state.specs.declared.config.RaftEntry
use Rattle.raft_state.specs.declared.ids.LogId.{LogId}
use Rattle.raft_state.specs.declared.state.RaftState.{RaftState}
use Rattle.raft_state.specs.Log.{last}
use Rattle.raft_state.specs.State.{accept}
use Rattle.raft_command.specs.declared.config.EngineConfig.{EngineConfig}
use Rattle.raft_steps.specs.FollowingHandler.{append_entries, do_append_entries, is_held, truncate_for}
use Rattle.raft_steps.specs.Laws.{later}
use Rattle.raft_steps.specs.Parts.{Core, core_of, with_state}
use Rattle.raft_handler_follower.proofs.following_handler.append_entries.Goals as goal

-- its parts, one after another: the ids are noted, what differs is deleted, and what is new appended
module _ {A B C NID N E D R S : Type 0} (cmp : NID → NID → Ordering) (entry : RaftEntry.Ghosts E NID N) (config : EngineConfig NID) (prev : Option (LogId NID)) (es : List E) where
  appended : (r : Result A B) (c cut new : Core C NID N E D R S) (given rest : List E) (since : ℕ) (noted : RaftState NID N) → given ≡ es → rest ≡ es
      → since ≡ prefix_len (is_held cmp entry c.state) given → noted ≡ accept cmp c.state (later cmp prev (last (map entry.id_of given)))
      → cut ≡ truncate_for cmp entry config (take (length rest - since) (drop since rest)) (with_state c noted)
      → OnOk r (new ≡ do_append_entries cmp entry config (drop since es) cut) → OnOk r (new ≡ append_entries cmp entry config prev es c)
  unfolding append_entries
  appended r c cut new given rest since noted same_given same_rest place is deleted step =
      subst (λ x. OnOk r (new ≡ x))
      (ap (do_append_entries cmp entry config (drop since es)) (deleted
      ∙ ap (λ l. truncate_for cmp entry config l (with_state c noted)) (take_rest rest since)
      ∙ ap (λ l. truncate_for cmp entry config (drop since l) (with_state c noted)) same_rest
      ∙ ap (λ s. truncate_for cmp entry config (drop since es) (with_state c s)) (is ∙ ap (λ l. accept cmp c.state (later cmp prev (last (map entry.id_of l)))) same_given))
      ∙ ap (λ k. do_append_entries cmp entry config (drop k es) (truncate_for cmp entry config (drop k es) (with_state c (accept cmp c.state (later cmp prev (last (map entry.id_of es)))))))
      (place ∙ ap (prefix_len (is_held cmp entry c.state)) same_given))
      step

pub returns : goal.returns
returns g c =
    appended g.C.NodeId.Ord.cmp g.C.Entry.RaftEntry c.args.config.now c.args.prev_log_id.now c.args.entries.items c.append_from.result (core_of c.args.state.now c.args.output.now)
    (core_of c.truncate_for.new.state c.truncate_for.new.output) _ c.deref.result.now c.deref-2.result.now c.accept_entries-since.result c.accept_entries-since.new.state
    c.deref.ensures.value c.deref-2.ensures.value c.accept_entries-since.ensures.place c.accept_entries-since.ensures.step c.in_ok-truncate_for.ensures c.append_from.ensures
