-- What a packed step makes of a store on disk, its record's changes make.
use Rattle.std.proofs.Common.{ℕ, ◌≡◌, ◌∙◌, sym, refl, ap, true, false, cond, List, [], ◌∷◌, ◌++◌, Option, None, Some}
use Rattle.std.specs.Prelude.{fold, map, nat_lt}
use Rattle.std.specs.List.{AllByRecursion}
use Rattle.std.specs.Option.{option_map, option_to_list}
use Rattle.std.proofs.lemmas.List.{map-append}
use Rattle.std.proofs.lemmas.List.Sums.{fold-append}
use Rattle.raft_state.specs.declared.ids.LogId.{LogId}
use Rattle.raft_command.specs.declared.command.Command.TheVariants as command
use Rattle.raft_command.specs.declared.sm.CommandPayload.TheVariants as machine
use Rattle.raft_store.specs.Types.{WorldCommand, WorldPayload, WorldStore}
use Rattle.raft_wire.specs.declared.record.Began.{Began}
use Rattle.raft_wire.specs.declared.record.Began.TheVariants as began
use Rattle.raft_wire.specs.declared.record.Change.{Change}
use Rattle.raft_wire.specs.declared.record.Change.TheVariants as change
use Rattle.raft_wire.specs.Records.{begun, change_of, changed, changes_of, payload_change}
use Rattle.raft_packed_node.specs.proof_packed_stores.Laws.{Brings, BringsPayload}
use Rattle.raft_packed_node.specs.proof_packed.Nodes.{bare_command}
use Rattle.raft_packed_node.specs.proof_packed.Data.{payload_with}
use Rattle.raft_packed_node.specs.proof_packed.Records.{packed_exec_all}
use Rattle.raft_packed_node.specs.proof_packed.Stores.{Application, Packed, PackedStore, packed_exec, packed_exec_payload, packed_meta, packed_outrun, packed_settled_by, packed_store}
use Rattle.raft_packed_node.proofs.proof_packed_stores_proofs.Stores.{packs_stores}
use Rattle.raft_packed_wire.specs.declared.record.PackedBegan.{PackedBegan}
use Rattle.raft_packed_wire.specs.declared.record.PackedBegan.TheVariants.{Unchanged, Settled, Built}
use Rattle.raft_packed_wire.specs.declared.record.PackedChange.{PackedChange}
use Rattle.raft_packed_wire.specs.declared.record.PackedRecord.{PackedRecord}
use Rattle.raft_packed_wire.specs.Laws.{PacksReplaysOf}
use Rattle.raft_packed_wire.specs.Records.{PackedReplays, began_packed, change_packed, packed_begun, packed_change_of, packed_changed, packed_changes_of, packed_command_of, packed_on_disk, packed_replayed, with_snapshot}

module _ {S : Type 0} (app : Application S) where
  -- ---- on disk

  payload_alike : (brought : Packed S) (p : WorldPayload) (t : PackedStore S)
      → packed_on_disk app (packed_exec_payload app brought p t) ≡ packed_on_disk app (packed_exec_payload app brought p (packed_on_disk app t))
  payload_alike brought machine.BuildSnapshot t = refl
  payload_alike brought (machine.GetSnapshot _) t = refl
  payload_alike brought (machine.BeginReceivingSnapshot _) t = refl
  payload_alike brought (machine.InstallFullSnapshot s) t = refl
  payload_alike brought (machine.Apply _) t = refl

  alike : (brought : Packed S) (c : WorldCommand) (t : PackedStore S)
      → packed_on_disk app (packed_exec app brought c t) ≡ packed_on_disk app (packed_exec app brought c (packed_on_disk app t))
  alike brought (command.SaveVote v) t = refl
  alike brought (command.AppendInputEntries v es) t = refl
  alike brought (command.DeleteConflictLog since) t = refl
  alike brought (command.PurgeLog upto) t = refl
  alike brought (command.Commit seq already upto) t = refl
  alike brought (command.StateMachine c) t = payload_alike brought c.payload t
  alike brought command.BecomeLeader t = refl
  alike brought command.QuitLeader t = refl
  alike brought (command.ReplicateCommitted _) t = refl
  alike brought (command.Replicate _ _) t = refl
  alike brought (command.RebuildReplicationStreams _) t = refl
  alike brought (command.SendVote _) t = refl
  alike brought (command.Respond _ _) t = refl

  -- stores that are the same on disk stay so
  pub same_done : (brought : Packed S) (c : WorldCommand) (t u : PackedStore S) → packed_on_disk app t ≡ packed_on_disk app u
      → packed_on_disk app (packed_exec app brought c t) ≡ packed_on_disk app (packed_exec app brought c u)
  same_done brought c t u h = alike brought c t ∙ ap (λ x. packed_on_disk app (packed_exec app brought c x)) h ∙ sym (alike brought c u)

  change_alike : (c : PackedChange (Packed S)) (t : PackedStore S)
      → packed_on_disk app (packed_changed app t c) ≡ packed_on_disk app (packed_changed app (packed_on_disk app t) c)
  change_alike c t = alike _ (packed_command_of c) t

  pub all_same : (cs : List (PackedChange (Packed S))) (t u : PackedStore S) → packed_on_disk app t ≡ packed_on_disk app u
      → packed_on_disk app (fold (packed_changed app) t cs) ≡ packed_on_disk app (fold (packed_changed app) u cs)
  all_same [] t u h = h
  all_same (c ∷ cs) t u h =
      all_same cs (packed_changed app t c) (packed_changed app u c)
      (change_alike c t ∙ ap (λ x. packed_on_disk app (packed_changed app x c)) h ∙ sym (change_alike c u))

  module _ (brought : Packed S) where
    payload_by_change : (p : WorldPayload) (t : PackedStore S)
        → packed_on_disk app (packed_exec_payload app brought p t)
        ≡ packed_on_disk app (fold (packed_changed app) t (option_to_list (option_map (with_snapshot brought) (payload_change p))))
    payload_by_change machine.BuildSnapshot t = refl
    payload_by_change (machine.GetSnapshot _) t = refl
    payload_by_change (machine.BeginReceivingSnapshot _) t = refl
    payload_by_change (machine.InstallFullSnapshot s) t = refl
    payload_by_change (machine.Apply _) t = refl

    -- on disk a command does what its change does
    by_change : (c : WorldCommand) (t : PackedStore S)
        → packed_on_disk app (packed_exec app brought c t) ≡ packed_on_disk app (fold (packed_changed app) t (option_to_list (packed_change_of brought c)))
    by_change (command.SaveVote v) t = refl
    by_change (command.AppendInputEntries v es) t = refl
    by_change (command.DeleteConflictLog since) t = refl
    by_change (command.PurgeLog upto) t = refl
    by_change (command.Commit seq already upto) t = refl
    by_change (command.StateMachine c) t = payload_by_change c.payload t
    by_change command.BecomeLeader t = refl
    by_change command.QuitLeader t = refl
    by_change (command.ReplicateCommitted _) t = refl
    by_change (command.Replicate _ _) t = refl
    by_change (command.RebuildReplicationStreams _) t = refl
    by_change (command.SendVote _) t = refl
    by_change (command.Respond _ _) t = refl

    one_more : (o : Option Change) (cs : List Change)
        → map (with_snapshot brought) (option_to_list o ++ cs) ≡ option_to_list (option_map (with_snapshot brought) o) ++ map (with_snapshot brought) cs
    one_more None cs = refl
    one_more (Some c) cs = refl

    all_by_change : (commands : List WorldCommand) (t u : PackedStore S) → packed_on_disk app t ≡ packed_on_disk app u
        → packed_on_disk app (fold (packed_changed app) u (packed_changes_of brought commands)) ≡ packed_on_disk app (packed_exec_all app brought t commands)
    all_by_change [] t u h = sym h
    all_by_change (c ∷ cs) t u h =
        let first = option_to_list (packed_change_of brought c) in
        ap (λ xs. packed_on_disk app (fold (packed_changed app) u xs)) (one_more (change_of c) (changes_of cs))
        ∙ ap (packed_on_disk app) (fold-append (packed_changed app) u first (packed_changes_of brought cs))
        ∙ all_by_change cs (packed_exec app brought c t) (fold (packed_changed app) u first) (by_change c t ∙ all_same first t u h)

  settled_alike : (o : Option (LogId ℕ)) (t : PackedStore S)
      → packed_on_disk app (packed_settled_by app t o) ≡ packed_on_disk app (packed_settled_by app (packed_on_disk app t) o)
  settled_alike None t = refl
  settled_alike (Some x) t =
      elim (packed_outrun app t x) as (λ b.
      packed_on_disk app (cond b (record t { log = []; front = Some x }) t)
      ≡ packed_on_disk app (cond b (record (packed_on_disk app t) { log = []; front = Some x }) (packed_on_disk app t))) [ true ↦ refl | false ↦ refl ]

  begun_alike : (b : PackedBegan (Packed S)) (t : PackedStore S)
      → packed_on_disk app (packed_begun app b t) ≡ packed_on_disk app (packed_begun app b (packed_on_disk app t))
  begun_alike Unchanged t = refl
  begun_alike Settled t = settled_alike t.meta.last_log_id t
  begun_alike (Built p) t =
      elim (nat_lt t.snap.end p.end) as (λ b.
      packed_on_disk app (cond b (record t { meta = packed_meta p; snap = p }) t)
      ≡ packed_on_disk app (cond b (record (packed_on_disk app t) { meta = packed_meta p; snap = p }) (packed_on_disk app t))) [ true ↦ refl | false ↦ refl ]

  pub begun_same : (b : PackedBegan (Packed S)) (t u : PackedStore S)
      → packed_on_disk app t ≡ packed_on_disk app u → packed_on_disk app (packed_begun app b t) ≡ packed_on_disk app (packed_begun app b u)
  begun_same b t u h = begun_alike b t ∙ ap (λ x. packed_on_disk app (packed_begun app b x)) h ∙ sym (begun_alike b u)

  -- a record does the same to stores that are the same on disk
  pub replayed_same : (r : PackedRecord (Packed S)) (t u : PackedStore S)
      → packed_on_disk app t ≡ packed_on_disk app u → packed_on_disk app (packed_replayed app r t) ≡ packed_on_disk app (packed_replayed app r u)
  replayed_same r t u h = all_same r.changes (packed_begun app r.began t) (packed_begun app r.began u) (begun_same r.began t u h)

  pub all_replayed : (r : PackedRecord (Packed S)) (old : PackedStore S) → PackedReplays app r old (packed_replayed app r old)
  all_replayed r old t brought commands same e =
      ap (λ cs. packed_on_disk app (fold (packed_changed app) (packed_begun app r.began old) cs)) e
      ∙ all_by_change brought commands (packed_begun app r.began t) (packed_begun app r.began old) (begun_same r.began t old same)

  -- ---- packed

  begun_kept : (b : Began) (t : WorldStore) → packed_store app (begun b t) ≡ packed_begun app (began_packed app b) (packed_store app t)
  begun_kept began.Unchanged t = refl
  begun_kept began.Settled t = (packs_stores app).settles t
  begun_kept (began.Built es) t = (packs_stores app).keeps es t

  changed_kept : (c : Change) (t : WorldStore) → packed_store app (changed t c) ≡ packed_changed app (packed_store app t) (change_packed app c)
  changed_kept (change.Vote v) t = refl
  changed_kept (change.Append es) t = refl
  changed_kept (change.Delete since) t = refl
  changed_kept (change.Purge upto) t = refl
  changed_kept (change.Install s) t = refl

  all_kept : (cs : List Change) (t : WorldStore) (u : PackedStore S)
      → packed_store app t ≡ u → packed_store app (fold changed t cs) ≡ fold (packed_changed app) u (map (change_packed app) cs)
  all_kept [] t u h = h
  all_kept (c ∷ cs) t u h =
      all_kept cs (changed t c) (packed_changed app u (change_packed app c)) (changed_kept c t ∙ ap (λ x. packed_changed app x (change_packed app c)) h)

  module _ (brought : Packed S) where
    payload_bare : (p : WorldPayload) → BringsPayload app brought p
        → map (change_packed app) (option_to_list (payload_change p)) ≡ map (with_snapshot brought) (option_to_list (payload_change (payload_with [] p)))
    payload_bare machine.BuildSnapshot h = refl
    payload_bare (machine.GetSnapshot _) h = refl
    payload_bare (machine.BeginReceivingSnapshot _) h = refl
    payload_bare (machine.InstallFullSnapshot s) h = ap (λ p. with_snapshot p (change.Install s) ∷ []) h
    payload_bare (machine.Apply _) h = refl

    change_bare : (c : WorldCommand) → Brings app brought c
        → map (change_packed app) (option_to_list (change_of c)) ≡ map (with_snapshot brought) (option_to_list (change_of (bare_command c)))
    change_bare (command.SaveVote v) h = refl
    change_bare (command.AppendInputEntries v es) h = refl
    change_bare (command.DeleteConflictLog since) h = refl
    change_bare (command.PurgeLog upto) h = refl
    change_bare (command.Commit seq already upto) h = refl
    change_bare (command.StateMachine c) h = payload_bare c.payload h
    change_bare command.BecomeLeader h = refl
    change_bare command.QuitLeader h = refl
    change_bare (command.ReplicateCommitted _) h = refl
    change_bare (command.Replicate _ _) h = refl
    change_bare (command.RebuildReplicationStreams _) h = refl
    change_bare (command.SendVote _) h = refl
    change_bare (command.Respond _ _) h = refl

    changes_bare : (commands : List WorldCommand) → AllByRecursion (Brings app brought) commands
        → map (change_packed app) (changes_of commands) ≡ packed_changes_of brought (map bare_command commands)
    changes_bare [] h = refl
    changes_bare (c ∷ cs) h =
        map-append (change_packed app) (option_to_list (change_of c)) (changes_of cs)
        ∙ (ap (λ xs. xs ++ map (change_packed app) (changes_of cs)) (change_bare c h.0)
        ∙ (ap (λ ys. map (with_snapshot brought) (option_to_list (change_of (bare_command c))) ++ ys) (changes_bare cs h.1)
        ∙ sym (map-append (with_snapshot brought) (option_to_list (change_of (bare_command c))) (changes_of (map bare_command cs)))))

  pub packs_replays : PacksReplaysOf app
  packs_replays = record {
    steps = λ moment b brought commands h.
        ap (λ (cs : List (PackedChange (Packed S))). record { moment = moment; began = began_packed app b; changes = cs }) (changes_bare brought commands h);
    records = λ r t. all_kept r.changes (begun r.began t) (packed_begun app (began_packed app r.began) (packed_store app t)) (begun_kept r.began t);
    replays = all_replayed;
  }
