-- A store can take the next of the commands that are ready.
use Rattle.std.proofs.Common.{ℕ, ◌≡◌, ◌+◌, ◌++◌, ◌∷◌, List, [], Option, None, Some, append_assoc, arith, length, map, refl, subst, suc, sym}
use Rattle.std.specs.Prelude.{IfSome}
use Rattle.std.specs.Map.{values_of}
use Rattle.std.specs.Option.{option_to_list}
use Rattle.std.specs.Ordering.{nat_cmp}
use Rattle.raft_node.specs.raft_state.declared.ids.LogId.{LogId}
use Rattle.raft_node.specs.raft_state.Invariants.{first_index}
use Rattle.raft_node.specs.raft_state.LogLaws.{IsRun}
use Rattle.raft_node.specs.raft_command.declared.command.Command.TheVariants.{SaveVote, AppendInputEntries, DeleteConflictLog, PurgeLog, Commit, StateMachine, BecomeLeader, QuitLeader, ReplicateCommitted, Replicate, RebuildReplicationStreams, SendVote, Respond}
use Rattle.raft_node.specs.raft_store.declared.entry.Entry.{Entry}
use Rattle.raft_node.specs.raft_store.Entries.{entry_meaning}
use Rattle.raft_node.specs.raft_store.Mirror.{ids_of, keyed}
use Rattle.raft_node.specs.raft_store.Ring.{CanStore, Continues}
use Rattle.raft_node.specs.raft_store.Types.{WorldCommand, WorldStore}
use Rattle.raft_node.specs.MayKeep.{CanStoreFirst}
use Rattle.proof_mirror.specs.Ready.{FitsBefore, MayPut, Ready, Shaped}

-- behind some ids a run goes on
run_on : (k : ℕ) (xs ys : List (LogId ℕ)) → IsRun k (xs ++ ys) → IsRun (k + length xs) ys
run_on k [] ys r = let here : k ≡ k + 0 = omega arith in subst (λ n. IsRun n ys) here r
run_on k (x ∷ xs) ys r = let there : (k + 1) + length xs ≡ k + length (x ∷ xs) = omega arith in subst (λ n. IsRun n ys) there (run_on (k + 1) xs ys r.1)

abbrev ids : List Entry → List (LogId ℕ)
ids es = map entry_meaning.id_of es

length-ids : (es : List Entry) → length (ids es) ≡ length es
length-ids [] = refl
length-ids (e ∷ es) = let rest : length (ids es) ≡ length es = length-ids es in omega (arith, rest)

length-keyed : (es : List Entry) → length (keyed entry_meaning es) ≡ length es
length-keyed [] = refl
length-keyed (e ∷ es) = let rest : length (keyed entry_meaning es) ≡ length es = length-keyed es in omega (arith, rest)

-- entries whose ids go on from a map's continue it
continued : (k : ℕ) (xs es : List Entry) → IsRun k (ids xs ++ ids es) → Continues entry_meaning (keyed entry_meaning xs) es
continued k [] [] r = tt
continued k [] (e ∷ es) r = (refl, subst (λ n. IsRun (n + 1) (ids es)) (sym r.0) r.1)
continued k (x ∷ xs) es r =
    let rest : IsRun ((k + 1) + length (ids xs)) (ids es) = run_on (k + 1) (ids xs) (ids es) r.1 in
    let there : (k + 1) + length (ids xs) ≡ x.log_id.index + length (keyed entry_meaning (x ∷ xs)) = omega (arith, r.0, length-ids xs, length-keyed xs) in
    subst (λ n. IsRun n (ids es)) there rest

put_continues : (t : WorldStore) (es : List Entry) → Shaped entry_meaning t → MayPut nat_cmp entry_meaning t es → Continues entry_meaning t.log es
put_continues t es h put =
    let xs : List Entry = values_of t.log in
    let run : IsRun (first_index t.front) (option_to_list t.front ++ (ids xs ++ ids es)) =
    subst (IsRun (first_index t.front)) (append_assoc (option_to_list t.front) (ids xs) (ids es)) put.run in
    subst (λ log. Continues entry_meaning log es) (sym h.keys)
    (continued (first_index t.front + length (option_to_list t.front)) xs es (run_on (first_index t.front) (option_to_list t.front) (ids xs ++ ids es) run))

fits_store : (t : WorldStore) (cs : List WorldCommand) (c : WorldCommand) → Shaped entry_meaning t → FitsBefore nat_cmp entry_meaning (λ es. es) t cs c → CanStore c t
fits_store t cs (AppendInputEntries v es) h fit = put_continues t es h fit
fits_store t cs (SaveVote v) h fit = tt
fits_store t cs (DeleteConflictLog since) h fit = tt
fits_store t cs (PurgeLog upto) h fit = tt
fits_store t cs (Commit seq already upto) h fit = tt
fits_store t cs (StateMachine c) h fit = tt
fits_store t cs BecomeLeader h fit = tt
fits_store t cs QuitLeader h fit = tt
fits_store t cs (ReplicateCommitted x) h fit = tt
fits_store t cs (Replicate target f) h fit = tt
fits_store t cs (RebuildReplicationStreams targets) h fit = tt
fits_store t cs (SendVote req) h fit = tt
fits_store t cs (Respond when reply) h fit = tt

pub ready_store : (t : WorldStore) (cs : List WorldCommand) → Ready nat_cmp entry_meaning (λ es. es) t cs → CanStoreFirst t cs
ready_store t [] h = tt
ready_store t (c ∷ cs) h = fits_store t cs c h.0 h.1
