-- An install is the same whatever the snapshot's data, but for the command that hands them on.
use Rattle.std.specs.Prelude.{◌≡◌, ◌+◌, ℕ, Bool, true, false, List, [], ◌∷◌, ◌++◌, map, Option, None, Some, refl, if◌then◌else◌}
use Rattle.std.specs.List.{AllByRecursion}
use Rattle.std.specs.Ordering.{nat_cmp, is_gt}
use Rattle.std.proofs.Common.{◌∙◌, sym, ap}
use Rattle.std.proofs.lemmas.List.{map-append}
use Rattle.raft_node.specs.raft_state.declared.ids.LogId.{LogId}
use Rattle.raft_node.specs.raft_state.declared.ids.Vote.{Vote}
use Rattle.raft_node.specs.raft_state.declared.membership.SnapshotMeta.{SnapshotMeta}
use Rattle.raft_node.specs.raft_state.Order.{last_id_cmp}
use Rattle.raft_node.specs.raft_state.State.{purge}
use Rattle.raft_node.specs.raft_command.declared.command.Command.TheVariants.{AppendInputEntries, BecomeLeader, Commit, DeleteConflictLog, PurgeLog, QuitLeader, RebuildReplicationStreams, Replicate, ReplicateCommitted, Respond, SaveVote, SendVote, StateMachine}
use Rattle.raft_node.specs.raft_command.declared.command.Condition.{Condition}
use Rattle.raft_node.specs.raft_command.declared.config.EngineConfig.{EngineConfig}
use Rattle.raft_node.specs.raft_command.declared.message.Token.{Token}
use Rattle.raft_node.specs.raft_command.declared.respond.Respond.TheVariants as respond
use Rattle.raft_node.specs.raft_command.declared.sm.CommandPayload.TheVariants.{Apply, BeginReceivingSnapshot, BuildSnapshot, GetSnapshot, InstallFullSnapshot}
use Rattle.raft_node.specs.raft_command.Push.{ordered, with_command}
use Rattle.raft_node.specs.raft_steps.Installs.{handle_install_full_snapshot, held_upto, install_and_reply, install_condition, install_full_snapshot, install_upto, installs, replaces_log, reply_install, truncate_contradicted, with_memberships_of, has_other_at}
use Rattle.raft_node.specs.raft_steps.FollowingHandler.{truncate_logs}
use Rattle.raft_node.specs.raft_steps.Laws.{QueuesOnly}
use Rattle.raft_node.specs.raft_steps.LogHandler.{purge_log, update_purge_upto}
use Rattle.raft_node.specs.raft_steps.Parts.{on_core, with_state}
use Rattle.raft_node.specs.raft_steps.ServerStateHandler.{update_role}
use Rattle.raft_node.specs.raft_steps.VoteHandler.{rejects_vote, update_vote}
use Rattle.raft_node.proofs.raft_steps_proofs.Allowed.{only_here, only_then, role_only, truncate_only, update_vote_only}
use Rattle.raft_node.proofs.raft_steps_proofs.Kept.{either}
use Rattle.raft_node.specs.raft_store.declared.entry.Entry.{Entry}
use Rattle.raft_node.specs.raft_store.Entries.{entry_meaning}
use Rattle.raft_node.specs.raft_store.Types.{WorldCommand, WorldMachine, WorldPayload, WorldSnapshot}
use Rattle.raft_node.proofs.raft_calls_proofs.Falls.{WorldCore}
use Rattle.proof_packed.specs.Data.{command_with, is_install, machine_with, payload_with}
use Rattle.proof_packed.proofs.Calls.{IsNoInstall, none_installs}

-- a command that installs nothing is the same with other data
no_install_payload : (d : List Entry) (p : WorldPayload) → is_install p ≡ false → payload_with d p ≡ p
no_install_payload d BuildSnapshot h = refl
no_install_payload d (GetSnapshot tx) h = refl
no_install_payload d (BeginReceivingSnapshot tx) h = refl
no_install_payload d (InstallFullSnapshot s) h = cc
no_install_payload d (Apply es) h = refl

pub no_install_same : (d : List Entry) (c : WorldCommand) → IsNoInstall c → command_with d c ≡ c
no_install_same d (SaveVote v) h = refl
no_install_same d (AppendInputEntries v es) h = refl
no_install_same d (DeleteConflictLog since) h = refl
no_install_same d (PurgeLog upto) h = refl
no_install_same d (Commit seq already upto) h = refl
no_install_same d (StateMachine c) h = ap (λ p. StateMachine (record c { payload = p })) (no_install_payload d c.payload h)
no_install_same d BecomeLeader h = refl
no_install_same d QuitLeader h = refl
no_install_same d (ReplicateCommitted x) h = refl
no_install_same d (Replicate target f) h = refl
no_install_same d (RebuildReplicationStreams targets) h = refl
no_install_same d (SendVote req) h = refl
no_install_same d (Respond when reply) h = refl

pub all_same : (d : List Entry) (cs : List WorldCommand) → AllByRecursion IsNoInstall cs → map (command_with d) cs ≡ cs
all_same d [] h = refl
all_same d (c ∷ cs) h = ap (λ x. x ∷ map (command_with d) cs) (no_install_same d c h.0) ∙ ap (λ xs. c ∷ xs) (all_same d cs h.1)

module _ (d : List Entry) where
  abbrev Plain : WorldCore → Type 0
  Plain c = map (command_with d) c.output.items ≡ c.output.items

  plain_more : (xs ys : List WorldCommand) → map (command_with d) xs ≡ xs → map (command_with d) ys ≡ ys → map (command_with d) (xs ++ ys) ≡ xs ++ ys
  plain_more xs ys h k = map-append (command_with d) xs ys ∙ (ap (λ zs. zs ++ map (command_with d) ys) h ∙ ap (λ zs. xs ++ zs) k)

  plain_after : (old new : WorldCore) → QueuesOnly IsNoInstall old new → Plain old → Plain new
  plain_after old new q h =
      ap (map (command_with d)) q.behind ∙ (plain_more old.output.items q.added h (all_same d q.added q.each) ∙ sym q.behind)

  abbrev core_with : WorldCore → WorldCore
  core_with c = record c { output = record c.output { items = map (command_with d) c.output.items } }

  -- a reply behind the queue
  reply_with : (when : Option (Condition ℕ)) (token : Token) (a b : WorldCore) → a ≡ core_with b → reply_install when token a ≡ core_with (reply_install when token b)
  reply_with when token a b h =
      ap (reply_install when token) h
      ∙ ap (λ xs. record b { output = record b.output { items = xs } })
      (sym (map-append (command_with d) b.output.items (Respond when (respond.InstallFullSnapshot (record { value = record { vote = b.state.vote }; token = token })) ∷ [])))

  module _ (config : EngineConfig ℕ) (meta : SnapshotMeta ℕ (Unit {0})) (e : List Entry) where
    abbrev mine : WorldSnapshot
    mine = record { meta = meta; snapshot = d }

    abbrev theirs : WorldSnapshot
    theirs = record { meta = meta; snapshot = e }

    -- what stands in the queue before the install
    abbrev settled_for : LogId ℕ → WorldCore → WorldCore
    settled_for x c =
        let cut = truncate_contradicted nat_cmp config x (with_state c (record c.state { snap = meta })) in
        update_role nat_cmp config (with_state cut (with_memberships_of meta.last_membership x (replaces_log nat_cmp c.state x) (held_upto nat_cmp x cut.state)))

    settled_plain : (x : LogId ℕ) (c : WorldCore) → Plain c → Plain (settled_for x c)
    settled_plain x c h =
        let noted : WorldCore = with_state c (record c.state { snap = meta }) in
        let cut : WorldCore = truncate_contradicted nat_cmp config x noted in
        let held : WorldCore = with_state cut (with_memberships_of meta.last_membership x (replaces_log nat_cmp c.state x) (held_upto nat_cmp x cut.state)) in
        let one : QueuesOnly IsNoInstall noted cut =
        either (QueuesOnly IsNoInstall noted) (has_other_at nat_cmp noted.state x) (truncate_logs nat_cmp config x.index noted) noted
        (truncate_only IsNoInstall nat_cmp config none_installs.leading x.index noted (λ y q. refl)) (only_here IsNoInstall noted noted refl) in
        let two : QueuesOnly IsNoInstall noted held = only_then IsNoInstall noted cut held one (only_here IsNoInstall cut held refl) in
        plain_after noted (update_role nat_cmp config held)
        (only_then IsNoInstall noted held (update_role nat_cmp config held) two (role_only IsNoInstall nat_cmp config none_installs.leading held)) h

    -- the install behind it, and the purge
    abbrev with_install : WorldSnapshot → WorldCore → WorldCore
    with_install s c = record c { output = ordered c.output (InstallFullSnapshot s) }

    installed_with : (c : WorldCore) → Plain c → with_install mine c ≡ core_with (with_install theirs c)
    installed_with c h =
        ap (λ xs. record c { output = record c.output { items = xs; seq = c.output.seq + 1 } })
        (sym (map-append (command_with d) c.output.items (StateMachine (record { seq = c.output.seq + 1; payload = InstallFullSnapshot theirs }) ∷ [])
        ∙ ap (λ xs. xs ++ StateMachine (record { seq = c.output.seq + 1; payload = InstallFullSnapshot mine }) ∷ []) h))

    purged_with : (c : WorldCore) → purge_log nat_cmp (core_with c) ≡ core_with (purge_log nat_cmp c)
    unfolding purge_log
    purged_with c = go c.state.purge_to
      where
        by_order : (x : LogId ℕ) (b : Bool)
            → (if b then record { state = purge nat_cmp c.state x; output = with_command (core_with c).output (PurgeLog x) } else core_with c)
            ≡ core_with (if b then record { state = purge nat_cmp c.state x; output = with_command c.output (PurgeLog x) } else c)
        by_order x true = ap (λ xs. record { state = purge nat_cmp c.state x; output = record c.output { items = xs } }) (sym (map-append (command_with d) c.output.items (PurgeLog x ∷ [])))
        by_order x false = refl

        go : (o : Option (LogId ℕ))
            → (elim o as (λ _. WorldCore) [
              | None ↦ core_with c
              | Some x ↦ (if is_gt (last_id_cmp nat_cmp (Some x) c.state.purged) then record { state = purge nat_cmp c.state x; output = with_command (core_with c).output (PurgeLog x) } else core_with c)
            ])
            ≡ core_with (elim o as (λ _. WorldCore) [
              | None ↦ c
              | Some x ↦ (if is_gt (last_id_cmp nat_cmp (Some x) c.state.purged) then record { state = purge nat_cmp c.state x; output = with_command c.output (PurgeLog x) } else c)
            ])
        go None = refl
        go (Some x) = by_order x (is_gt (last_id_cmp nat_cmp (Some x) c.state.purged))

    upto_with : (x : LogId ℕ) (c : WorldCore) → Plain c → install_upto nat_cmp config x mine c ≡ core_with (install_upto nat_cmp config x theirs c)
    unfolding install_upto
    upto_with x c h =
        ap (λ y. purge_log nat_cmp (update_purge_upto (Some x) y)) (installed_with (settled_for x c) (settled_plain x c h))
        ∙ purged_with (update_purge_upto (Some x) (with_install theirs (settled_for x c)))

    full_with : (c : WorldCore) → Plain c → install_full_snapshot nat_cmp config mine c ≡ core_with (install_full_snapshot nat_cmp config theirs c)
    unfolding install_full_snapshot
    full_with c h = go meta.last_log_id
      where
        same : c ≡ core_with c
        same = ap (λ xs. record c { output = record c.output { items = xs } }) (sym h)

        by_test : (x : LogId ℕ) (b : Bool) → (if b then install_upto nat_cmp config x mine c else c) ≡ core_with (if b then install_upto nat_cmp config x theirs c else c)
        by_test x true = upto_with x c h
        by_test x false = same

        go : (o : Option (LogId ℕ))
            → (elim o as (λ _. WorldCore) [ None ↦ c | Some x ↦ (if installs nat_cmp c.state meta then install_upto nat_cmp config x mine c else c) ])
            ≡ core_with (elim o as (λ _. WorldCore) [ None ↦ c | Some x ↦ (if installs nat_cmp c.state meta then install_upto nat_cmp config x theirs c else c) ])
        go None = same
        go (Some x) = by_test x (installs nat_cmp c.state meta)

-- an engine with an empty queue takes a snapshot by its meta alone
pub installs_by_meta : (config : EngineConfig ℕ) (v : Vote ℕ) (meta : SnapshotMeta ℕ (Unit {0})) (d e : List Entry) (token : Token) (now : ℕ) (m : WorldMachine) → m.core.output.items ≡ []
    → handle_install_full_snapshot nat_cmp entry_meaning config v (record { meta = meta; snapshot = d }) token now m
    ≡ machine_with d (handle_install_full_snapshot nat_cmp entry_meaning config v (record { meta = meta; snapshot = e }) token now m)
unfolding handle_install_full_snapshot
installs_by_meta config v meta d e token now m empty = go (rejects_vote nat_cmp m.core.state v)
  where
    rest : Plain d m.core
    rest = ap (map (command_with d)) empty ∙ sym empty

    same : m.core ≡ core_with d m.core
    same = ap (λ xs. record m.core { output = record m.core.output { items = xs } }) (sym rest)

    voted : Plain d (update_vote nat_cmp entry_meaning config v now m).core
    voted = plain_after d m.core (update_vote nat_cmp entry_meaning config v now m).core
        (update_vote_only IsNoInstall nat_cmp config none_installs.leading entry_meaning _ (λ vote leader x. refl) v now m refl) rest

    go : (b : Bool)
        → (if b then on_core (reply_install None token) m else on_core (install_and_reply nat_cmp entry_meaning config (record { meta = meta; snapshot = d }) token) (update_vote nat_cmp entry_meaning config v now m))
        ≡ machine_with d (if b then on_core (reply_install None token) m else on_core (install_and_reply nat_cmp entry_meaning config (record { meta = meta; snapshot = e }) token) (update_vote nat_cmp entry_meaning config v now m))
    go true = ap (λ (c : WorldCore). record m { core = c }) (reply_with d None token m.core m.core same)
    go false =
        let u : WorldMachine = update_vote nat_cmp entry_meaning config v now m in
        ap (λ (c : WorldCore). record u { core = c })
        (reply_with d (install_condition nat_cmp meta u.core) token (install_full_snapshot nat_cmp config (record { meta = meta; snapshot = d }) u.core)
        (install_full_snapshot nat_cmp config (record { meta = meta; snapshot = e }) u.core) (full_with d config meta e u.core voted))
