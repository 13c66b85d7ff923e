-- What queued commands store.
use Rattle.std.specs.Prelude.{ℕ, ◌≡◌, ◌++◌, List, [], ◌∷◌, map, refl}
use Rattle.std.specs.List.{AllByRecursion}
use Rattle.std.proofs.Common.{◌∙◌, sym, ap, append_assoc}
use Rattle.raft_state.specs.declared.ids.LogId.{LogId}
use Rattle.raft_command.specs.declared.command.Command.TheVariants.{AppendInputEntries, DeleteConflictLog, PurgeLog, StateMachine}
use Rattle.raft_command.specs.declared.sm.CommandPayload.TheVariants.{InstallFullSnapshot}
use Rattle.raft_store.specs.declared.entry.Entry.{Entry}
use Rattle.raft_store.specs.Types.{WorldCommand, WorldPayload}

abbrev pub ids_in : List Entry → List (LogId ℕ)
ids_in es = map (λ e. e.log_id) es

-- the ids that a command stores, and those of commands in their order
abbrev pub stored_by : WorldCommand → List (LogId ℕ)
stored_by (AppendInputEntries v es) = ids_in es
stored_by _ = []

abbrev pub stored_ids : List WorldCommand → List (LogId ℕ)
stored_ids [] = []
stored_ids (c ∷ cs) = stored_by c ++ stored_ids cs

-- commands that neither cut nor replace what is stored
abbrev pub IsPlainPayload : WorldPayload → Type 0
IsPlainPayload (InstallFullSnapshot s) = ⊥
IsPlainPayload _ = Unit {0}

abbrev pub IsPlain : WorldCommand → Type 0
IsPlain (DeleteConflictLog _) = ⊥
IsPlain (PurgeLog _) = ⊥
IsPlain (StateMachine c) = IsPlainPayload c.payload
IsPlain _ = Unit {0}

abbrev pub AllPlain : List WorldCommand → Type 0
AllPlain cs = AllByRecursion IsPlain cs

pub plain-append : (xs ys : List WorldCommand) → AllPlain xs → AllPlain ys → AllPlain (xs ++ ys)
plain-append [] ys hx hy = hy
plain-append (x ∷ xs) ys hx hy = (hx.0, plain-append xs ys hx.1 hy)

pub stored-append : (xs ys : List WorldCommand) → stored_ids (xs ++ ys) ≡ stored_ids xs ++ stored_ids ys
stored-append [] ys = refl
stored-append (x ∷ xs) ys = ap (λ ids. stored_by x ++ ids) (stored-append xs ys) ∙ sym (append_assoc (stored_by x) (stored_ids xs) (stored_ids ys))
