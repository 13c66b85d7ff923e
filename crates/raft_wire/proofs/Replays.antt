-- What a step makes of a store on disk, its record's changes make.
use Rattle.std.proofs.Common.{ℕ, ◌≡◌, ◌∙◌, sym, refl, ap, subst, true, false, cond, List, [], ◌∷◌, ◌++◌, Option, None, Some, length, append_assoc, arith, ◌+◌}
use Rattle.std.specs.Prelude.{fold, is_some, count_by, nat_lt, Result}
use Rattle.std.specs.List.{AllByRecursion, flat_map}
use Rattle.std.specs.Option.{option_to_list}
use Rattle.std.specs.Ordering.{nat_cmp}
use Rattle.std.proofs.lemmas.List.Recursion.{is_count_by}
use Rattle.std.proofs.lemmas.List.Sums.{fold-append}
use Rattle.std.proofs.lemmas.Result.{on_ok_weaker}
use Rattle.raft_state.specs.declared.ids.LogId.{LogId}
use Rattle.raft_command.specs.declared.command.Command.TheVariants as command
use Rattle.raft_command.specs.declared.sm.CommandPayload.TheVariants as machine
use Rattle.raft_store.specs.Built.{meta_of}
use Rattle.raft_store.specs.Entries.{entry_meaning}
use Rattle.raft_store.specs.Restart.{settled_by, is_outrun}
use Rattle.raft_store.specs.Store.{exec, exec_all, exec_payload}
use Rattle.raft_store.specs.Types.{WorldCommand, WorldPayload, WorldStore}
use Rattle.raft_wire.specs.declared.record.Began.{Began}
use Rattle.raft_wire.specs.declared.record.Began.TheVariants.{Unchanged, Settled, Built}
use Rattle.raft_wire.specs.declared.record.Change.{Change}
use Rattle.raft_codec.specs.Codec.{Writes, number, list}
use Rattle.raft_wire.specs.Records.{began, change, logged, payload_change, change_of, changes_of, record_of, command_of, changed, begun, on_disk, WritesChanges}

abbrev does : WorldCommand → WorldStore → WorldStore
does c t = exec entry_meaning (λ es. es) c t

abbrev does_payload : WorldPayload → WorldStore → WorldStore
does_payload p t = exec_payload entry_meaning (λ es. es) p t

payload_alike : (p : WorldPayload) (t : WorldStore) → on_disk (does_payload p t) ≡ on_disk (does_payload p (on_disk t))
payload_alike machine.BuildSnapshot t = refl
payload_alike (machine.GetSnapshot _) t = refl
payload_alike (machine.BeginReceivingSnapshot _) t = refl
payload_alike (machine.InstallFullSnapshot s) t = refl
payload_alike (machine.Apply _) t = refl

alike : (c : WorldCommand) (t : WorldStore) → on_disk (does c t) ≡ on_disk (does c (on_disk t))
alike (command.SaveVote v) t = refl
alike (command.AppendInputEntries v es) t = refl
alike (command.DeleteConflictLog since) t = refl
alike (command.PurgeLog upto) t = refl
alike (command.Commit seq already upto) t = refl
alike (command.StateMachine c) t = payload_alike c.payload t
alike command.BecomeLeader t = refl
alike command.QuitLeader t = refl
alike (command.ReplicateCommitted _) t = refl
alike (command.Replicate _ _) t = refl
alike (command.RebuildReplicationStreams _) t = refl
alike (command.SendVote _) t = refl
alike (command.Respond _ _) t = refl

-- stores that are the same on disk stay so
same_done : (c : WorldCommand) (t u : WorldStore) → on_disk t ≡ on_disk u → on_disk (does c t) ≡ on_disk (does c u)
same_done c t u h = alike c t ∙ ap (λ x. on_disk (does c x)) h ∙ sym (alike c u)

all_same : (cs : List Change) (t u : WorldStore) → on_disk t ≡ on_disk u → on_disk (fold changed t cs) ≡ on_disk (fold changed u cs)
all_same [] t u h = h
all_same (c ∷ cs) t u h = all_same cs (changed t c) (changed u c) (same_done (command_of c) t u h)

payload_by_change : (p : WorldPayload) (t : WorldStore) → on_disk (does_payload p t) ≡ on_disk (fold changed t (option_to_list (payload_change p)))
payload_by_change machine.BuildSnapshot t = refl
payload_by_change (machine.GetSnapshot _) t = refl
payload_by_change (machine.BeginReceivingSnapshot _) t = refl
payload_by_change (machine.InstallFullSnapshot s) t = refl
payload_by_change (machine.Apply _) t = refl

-- on disk a command does what its change does
by_change : (c : WorldCommand) (t : WorldStore) → on_disk (does c t) ≡ on_disk (fold changed t (option_to_list (change_of c)))
by_change (command.SaveVote v) t = refl
by_change (command.AppendInputEntries v es) t = refl
by_change (command.DeleteConflictLog since) t = refl
by_change (command.PurgeLog upto) t = refl
by_change (command.Commit seq already upto) t = refl
by_change (command.StateMachine c) t = payload_by_change c.payload t
by_change command.BecomeLeader t = refl
by_change command.QuitLeader t = refl
by_change (command.ReplicateCommitted _) t = refl
by_change (command.Replicate _ _) t = refl
by_change (command.RebuildReplicationStreams _) t = refl
by_change (command.SendVote _) t = refl
by_change (command.Respond _ _) t = refl

all_by_change : (commands : List WorldCommand) (t u : WorldStore) → on_disk t ≡ on_disk u → on_disk (fold changed u (changes_of commands)) ≡ on_disk (exec_all entry_meaning (λ es. es) t commands)
all_by_change [] t u h = sym h
all_by_change (c ∷ cs) t u h =
    let first = option_to_list (change_of c) in
    ap on_disk (fold-append changed u first (changes_of cs))
    ∙ all_by_change cs (does c t) (fold changed u first) (by_change c t ∙ all_same first t u h)

settled_alike : (o : Option (LogId ℕ)) (t : WorldStore) → on_disk (settled_by nat_cmp entry_meaning t o) ≡ on_disk (settled_by nat_cmp entry_meaning (on_disk t) o)
settled_alike None t = refl
settled_alike (Some x) t =
    elim (is_outrun nat_cmp entry_meaning t x) as (λ b. on_disk (cond b (record t { log = []; front = Some x }) t) ≡ on_disk (cond b (record (on_disk t) { log = []; front = Some x }) (on_disk t))) [ true ↦ refl | false ↦ refl ]

begun_alike : (b : Began) (t : WorldStore) → on_disk (begun b t) ≡ on_disk (begun b (on_disk t))
begun_alike Unchanged t = refl
begun_alike Settled t = settled_alike t.meta.last_log_id t
begun_alike (Built es) t =
    elim (nat_lt (length t.snap) (length es)) as (λ b.
    on_disk (cond b (record t { meta = meta_of entry_meaning es; snap = es }) t)
    ≡ on_disk (cond b (record (on_disk t) { meta = meta_of entry_meaning es; snap = es }) (on_disk t))) [ true ↦ refl | false ↦ refl ]

begun_same : (b : Began) (t u : WorldStore) → on_disk t ≡ on_disk u → on_disk (begun b t) ≡ on_disk (begun b u)
begun_same b t u h = begun_alike b t ∙ ap (λ x. on_disk (begun b x)) h ∙ sym (begun_alike b u)

-- a store that the changes were made to is as the step leaves it
pub all_replayed : (b : Began) (changes made : List Change) (old middle new : WorldStore)
    → on_disk middle ≡ on_disk (begun b old) → made ≡ changes → new ≡ fold changed middle made
    → (t : WorldStore) (commands : List WorldCommand) → on_disk t ≡ on_disk old → changes ≡ changes_of commands → on_disk new ≡ on_disk (exec_all entry_meaning (λ es. es) (begun b t) commands)
all_replayed b changes made old middle new first is all t commands same e =
    ap on_disk all
    ∙ ap (λ cs. on_disk (fold changed middle cs)) (is ∙ e)
    ∙ all_by_change commands (begun b t) middle (begun_same b t old same ∙ sym first)

-- ---- the changes of a step, written in turn

both_fit : (xs ys : List Change) → AllByRecursion change.fits xs → AllByRecursion change.fits ys → AllByRecursion change.fits (xs ++ ys)
both_fit [] ys a b = b
both_fit (x ∷ xs) ys a b = (a.0, both_fit xs ys a.1 b)

changes_both : (xs ys : List WorldCommand) → changes_of (xs ++ ys) ≡ changes_of xs ++ changes_of ys
changes_both [] ys = refl
changes_both (x ∷ xs) ys = ap (λ cs. option_to_list (change_of x) ++ cs) (changes_both xs ys) ∙ sym (append_assoc (option_to_list (change_of x)) (changes_of xs) (changes_of ys))

bytes_both : (xs ys : List Change) → flat_map change.bytes (xs ++ ys) ≡ flat_map change.bytes xs ++ flat_map change.bytes ys
bytes_both [] ys = refl
bytes_both (x ∷ xs) ys = ap (λ bs. change.bytes x ++ bs) (bytes_both xs ys) ∙ sym (append_assoc (change.bytes x) (flat_map change.bytes xs) (flat_map change.bytes ys))

nil_after : (cs : List Change) → cs ++ [] ≡ cs
nil_after [] = refl
nil_after (c ∷ cs) = ap (λ x. c ∷ x) (nil_after cs)

pub record WrittenSo (commands : List WorldCommand) (old new : List ℕ) : Type 0 where
  pub fit : AllByRecursion change.fits (changes_of commands)
  pub written : new ≡ old ++ flat_map change.bytes (changes_of commands)

pub then_written : (commands : List WorldCommand) (c : WorldCommand) (old middle new : List ℕ) → WrittenSo commands old middle
    → AllByRecursion change.fits (option_to_list (change_of c)) × (new ≡ middle ++ flat_map change.bytes (option_to_list (change_of c))) → WrittenSo (commands ++ c ∷ []) old new
then_written commands c old middle new s one =
    let last = option_to_list (change_of c) in
    let whole : changes_of (commands ++ c ∷ []) ≡ changes_of commands ++ last = changes_both commands (c ∷ []) ∙ ap (λ cs. changes_of commands ++ cs) (nil_after last) in
    record {
      fit = subst (AllByRecursion change.fits) (sym whole) (both_fit (changes_of commands) last s.fit one.0);
      written =
          one.1 ∙ ap (λ bs. bs ++ flat_map change.bytes last) s.written
          ∙ append_assoc old (flat_map change.bytes (changes_of commands)) (flat_map change.bytes last)
          ∙ ap (λ bs. old ++ bs) (sym (bytes_both (changes_of commands) last))
          ∙ ap (λ cs. old ++ flat_map change.bytes cs) (sym whole);
    }

count_step : (o : Option Change) (cs : List Change) → length (option_to_list o ++ cs) ≡ cond (is_some o) (1 + length cs) (length cs)
count_step None cs = refl
count_step (Some c) cs = omega arith

counted : (commands : List WorldCommand) → length (changes_of commands) ≡ count_by (λ c. is_some (change_of c)) commands
counted commands = is_count_by (λ cs. length (changes_of cs)) (λ c. is_some (change_of c)) refl (λ c cs. count_step (change_of c) (changes_of cs)) commands

-- the moment, what began, the number of changes, and each of them
pub step_written : {E : Type 0} (moment : ℕ) (b : Began) (commands : List WorldCommand) (old first second third new : List ℕ) (count : ℕ) (r : Result (Unit {0}) E)
    → number.fits moment × (first ≡ old ++ number.bytes moment) → began.fits b × (second ≡ first ++ began.bytes b) → number.fits count × (third ≡ second ++ number.bytes count)
    → count ≡ count_by (λ c. is_some (change_of c)) commands → WritesChanges (changes_of commands) r third new → Writes logged (record_of moment b commands) r old new
unfolding logged list
step_written moment b commands old first second third new count r m g n e w =
    let same : count ≡ length (changes_of commands) = e ∙ sym (counted commands) in
    let body = flat_map change.bytes (changes_of commands) in
    on_ok_weaker r (λ h. (
      (m.0, (g.0, (subst number.fits same n.0, h.0))),
      h.1
          ∙ ap (λ bs. bs ++ body) (n.1 ∙ ap (λ bs. bs ++ number.bytes count) (g.1 ∙ ap (λ bs. bs ++ began.bytes b) m.1))
          ∙ ap (λ k. (((old ++ number.bytes moment) ++ began.bytes b) ++ number.bytes k) ++ body) same
          ∙ simp append_assoc,
    )) w
