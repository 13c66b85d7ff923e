-- Where an engine's queue is empty, a call leaves a queue in which each reply stands behind what it waits for.
use Rattle.std.specs.Prelude.{◌≡◌, ℕ, [], ◌∷◌, Option, None, Some, if◌then◌else◌}
use Rattle.std.specs.Ordering.{nat_cmp}
use Rattle.std.proofs.Common.{sym, subst}
use Rattle.raft_state.specs.declared.ids.Vote.{Vote}
use Rattle.raft_error.specs.declared.error.EngineError.{EngineError}
use Rattle.raft_command.specs.declared.message.VoteRequest.{VoteRequest}
use Rattle.raft_command.specs.declared.respond.Respond.TheVariants as respond
use Rattle.raft_steps.specs.Installs.{handle_install_full_snapshot}
use Rattle.raft_steps.specs.InstallRefusals.{refusals_of_install}
use Rattle.raft_store.specs.Entries.{entry_meaning}
use Rattle.raft_store.specs.Types.{EngineView, WorldSnapshot}
use Rattle.raft_calls.specs.declared.message.Body.{Body}
use Rattle.raft_calls.specs.declared.message.Body.TheVariants as body
use Rattle.raft_calls.specs.Deliveries.{answered, deliver, reply_token, with_machine}
use Rattle.raft_calls.proofs.InTurnCalls.{Unwaiting, unwaiting}
use Rattle.raft_calls.proofs.InTurnInstalls.{AllAwaited, all_only, all_unwaiting, handle_install_awaited}
use Rattle.raft_calls.proofs.Queues.{Answer, Plain, core_in, deliver_plain}

-- what a call leaves queued where nothing was queued
abbrev pub Leaves : Answer → Type 0
Leaves r = AllAwaited [] (core_in r).output.items

pub plain_leaves : (e : EngineView) (r : Answer) → e.machine.core.output.items ≡ [] → Plain Unwaiting unwaiting e r → Leaves r
plain_leaves e r none h = all_unwaiting [] (core_in r).output.items (all_only e.machine.core (core_in r) h none)

install_leaves : (o : Option (EngineError ℕ (Unit {0}))) (v : Vote ℕ) (snapshot : WorldSnapshot) (now : ℕ) (e : EngineView) → e.machine.core.output.items ≡ []
    → Leaves (answered o e (with_machine e (handle_install_full_snapshot nat_cmp entry_meaning e.config v snapshot reply_token now e.machine)))
install_leaves None v snapshot now e none = handle_install_awaited e.config snapshot v reply_token now e.machine none
install_leaves (Some r) v snapshot now e none = subst (AllAwaited []) (sym none) tt

pub deliver_leaves : (from : ℕ) (b : Body) (now : ℕ) (e : EngineView) → e.machine.core.output.items ≡ [] → Leaves (deliver from b now e)
deliver_leaves from (body.SnapshotRequest o snapshot) now e none = install_leaves (refusals_of_install nat_cmp e.config o.session_id.vote snapshot.meta e.machine) o.session_id.vote snapshot now e none
deliver_leaves from (body.VoteRequest req) now e none = plain_leaves e (deliver from (body.VoteRequest req) now e) none (deliver_plain Unwaiting unwaiting from (body.VoteRequest req) now e (λ origin s x. cc))
deliver_leaves from (body.VoteReply resp) now e none = plain_leaves e (deliver from (body.VoteReply resp) now e) none (deliver_plain Unwaiting unwaiting from (body.VoteReply resp) now e (λ origin s x. cc))
deliver_leaves from (body.AppendRequest o prev es committed) now e none = plain_leaves e (deliver from (body.AppendRequest o prev es committed) now e) none (deliver_plain Unwaiting unwaiting from (body.AppendRequest o prev es committed) now e (λ origin s x. cc))
deliver_leaves from (body.AppendReply o reply prev upto) now e none = plain_leaves e (deliver from (body.AppendReply o reply prev upto) now e) none (deliver_plain Unwaiting unwaiting from (body.AppendReply o reply prev upto) now e (λ origin s x. cc))
deliver_leaves from (body.SnapshotReply o reply upto) now e none = plain_leaves e (deliver from (body.SnapshotReply o reply upto) now e) none (deliver_plain Unwaiting unwaiting from (body.SnapshotReply o reply upto) now e (λ origin s x. cc))
