-- What queued commands leave of a node's vote and membership: a node whose stored vote is its own, and committed, stays a voter.
use Rattle.std.proofs.Common.{ℕ, ◌-◌, ◌<◌, ◌≡◌, ◌⊎◌, ◌++◌, ◌∙◌, inl, inr, Bool, true, false, cond, not, List, [], ◌∷◌, append_assoc, length, arith, refl, sym, ap, subst, Option, None, Some}
use Rattle.std.specs.Prelude.{◌==◌, Result, if◌then◌else◌, filter, filter_map, nat_eq, nat_lt, slice_get}
use Rattle.std.specs.List.{AllByRecursion, cons_option}
use Rattle.std.specs.Map.{values_of}
use Rattle.std.specs.declared.cmp.Ordering.{Ordering}
use Rattle.std.specs.declared.cmp.Ordering.TheVariants.{Equal, Greater, Less}
use Rattle.std.specs.Ordering.{is_eq, is_gt, is_lt, nat_cmp, ordering_then}
use Rattle.std.proofs.lemmas.Bool.Decides.{nat_tests}
use Rattle.std.proofs.lemmas.Bool.{and_parts}
use Rattle.std.proofs.lemmas.Cmp.{nat_cmp_total}
use Rattle.proof_deeds.specs.raft_state.declared.ids.LeaderId.{LeaderId}
use Rattle.proof_deeds.specs.raft_state.declared.ids.Vote.{Vote}
use Rattle.proof_deeds.specs.raft_state.declared.membership.StoredMembership.{StoredMembership}
use Rattle.proof_deeds.specs.raft_state.Log.{last}
use Rattle.proof_deeds.specs.raft_state.Members.{voter_ids}
use Rattle.proof_deeds.specs.raft_state.Order.{last_id_cmp, leader_id_cmp, vote_cmp}
use Rattle.proof_deeds.specs.raft_state.Same.{nat_same}
use Rattle.proof_deeds.specs.raft_state.State.{by_last_leader, is_leader, is_leading}
use Rattle.proof_deeds.proofs.raft_state_proofs.LogLists.{each_append}
use Rattle.proof_deeds.proofs.raft_state_proofs.Orders.{is_equal, le_refl, lt_not_ge, vote_total}
use Rattle.proof_deeds.specs.raft_command.declared.command.Command.TheVariants as command
use Rattle.proof_deeds.specs.raft_command.declared.config.EngineConfig.{EngineConfig}
use Rattle.proof_deeds.specs.raft_command.declared.replication.ReplicationResult.{ReplicationResult}
use Rattle.proof_deeds.specs.raft_command.declared.replication.RequestId.{RequestId}
use Rattle.proof_deeds.specs.raft_command.declared.sm.CommandPayload.TheVariants as payload
use Rattle.proof_deeds.specs.raft_proposer.Candidate.{into_leader}
use Rattle.proof_deeds.specs.raft_proposer.Leader.{assigned, leader_in}
use Rattle.proof_deeds.specs.raft_steps.Engine.{lead_by_votes, may_establish}
use Rattle.proof_deeds.specs.raft_steps.FollowingHandler.{memberships_in}
use Rattle.proof_deeds.specs.raft_steps.Laws.{Queues, QueuesOnly, RiseTo, saved_vote}
use Rattle.proof_deeds.specs.raft_steps.LeaderHandler.{joined, last_proposed, leader_append_entries, proposed}
use Rattle.proof_deeds.specs.raft_steps.Parts.{leading, on_core, on_leader, then_command, with_state}
use Rattle.proof_deeds.specs.raft_steps.ReplicationHandler.{append_membership_led, initiate_replication, rebuild_replication_streams, update_local_progress}
use Rattle.proof_deeds.specs.raft_steps.Replies.{purge_unless_inflight, take_reply, update_progress}
use Rattle.proof_deeds.specs.raft_steps.ServerStateHandler.{update_role}
use Rattle.proof_deeds.specs.raft_steps.Starts.{is_settled, lead_on, leader_step_down, startup}
use Rattle.proof_deeds.specs.raft_steps.VoteHandler.{become_following, become_leader, begin_lead, lead_anew, rejects_vote, take_vote, update_internal_server_state, update_vote}
use Rattle.proof_deeds.proofs.raft_steps_proofs.Allowed.{AllowsLeading, both_behind, initiate_only, join_only, local_only, only_here, only_of, only_then, rebuild_only, role_only}
use Rattle.proof_deeds.proofs.raft_steps_proofs.Kept.{either, either_option}
use Rattle.proof_deeds.proofs.raft_steps_proofs.LawsPurge.{reply_only, sends_only}
use Rattle.proof_deeds.proofs.raft_steps_proofs.LawsQueue.{append_none, internal_queues, queues_then, saved_where_grown}
use Rattle.proof_deeds.proofs.raft_steps_proofs.Leads.{vote_same}
use Rattle.proof_deeds.proofs.raft_steps_proofs.Marks.{internal_marks}
use Rattle.proof_deeds.specs.raft_store.declared.entry.Entry.{Entry}
use Rattle.proof_deeds.specs.raft_store.Built.{last_membership}
use Rattle.proof_deeds.specs.raft_store.Entries.{entry_meaning}
use Rattle.proof_deeds.specs.raft_store.Store.{past, whole}
use Rattle.proof_deeds.specs.raft_store.Store as store
use Rattle.proof_deeds.specs.raft_store.Types.{WorldCandidate, WorldCommand, WorldLeader, WorldMachine, WorldPayload, WorldStore}
use Rattle.proof_deeds.specs.raft_calls.Feeds.{WorldLed}
use Rattle.proof_deeds.proofs.raft_calls_proofs.Falls.{WorldCore}
use Rattle.proof_deeds.proofs.raft_calls_proofs.Stored.{IsPlainPayload}
use Rattle.proof_deeds.specs.proof_mirror.Ready.{FitsBefore, Ready}
use Rattle.proof_deeds.specs.Chains.{left_by, stored}
use Rattle.proof_progress.specs.Changes.{OwnsVote, stored_members}
use Rattle.proof_progress.specs.Elections.{Listed}
use Rattle.proof_progress.proofs.Elects.{itself}
use Rattle.proof_progress.proofs.EntriesQueued.{unless-only}
use Rattle.proof_progress.proofs.KeptVotes.{KeepsCore, local_keeps}
use Rattle.proof_progress.proofs.Places.{same_ids}

-- Commands

-- the vote of a store changes as a vote is saved
payload_vote : (p : WorldPayload) (u : WorldStore) → (store.exec_payload entry_meaning (λ es. es) p u).vote ≡ u.vote
payload_vote payload.BuildSnapshot u = refl
payload_vote (payload.GetSnapshot x) u = refl
payload_vote (payload.BeginReceivingSnapshot x) u = refl
payload_vote (payload.InstallFullSnapshot s) u = refl
payload_vote (payload.Apply x) u = refl

vote_stays : (c : WorldCommand) (u : WorldStore) → saved_vote c ≡ None → (stored c u).vote ≡ u.vote
vote_stays (command.SaveVote v) u e = cc
vote_stays (command.AppendInputEntries v es) u e = refl
vote_stays (command.DeleteConflictLog since) u e = refl
vote_stays (command.PurgeLog upto) u e = refl
vote_stays (command.Commit seq already upto) u e = refl
vote_stays (command.StateMachine c) u e = payload_vote c.payload u
vote_stays (command.SendVote req) u e = refl
vote_stays (command.RebuildReplicationStreams targets) u e = refl
vote_stays (command.Replicate target req) u e = refl
vote_stays (command.ReplicateCommitted committed) u e = refl
vote_stays (command.Respond when reply) u e = refl
vote_stays command.BecomeLeader u e = refl
vote_stays command.QuitLeader u e = refl

pub left_vote : (u : WorldStore) (cs : List WorldCommand) → filter_map saved_vote cs ≡ [] → (left_by u cs).vote ≡ u.vote
left_vote u [] e = refl
left_vote u (c ∷ cs) e = go (saved_vote c) refl e (left_vote (stored c u) cs)
  where
    go : (o : Option (Vote ℕ)) → saved_vote c ≡ o → cons_option o (filter_map saved_vote cs) ≡ []
        → (filter_map saved_vote cs ≡ [] → (left_by (stored c u) cs).vote ≡ (stored c u).vote) → (left_by u (c ∷ cs)).vote ≡ u.vote
    go None q k f = f k ∙ vote_stays c u q
    go (Some v) q k f = cc

-- a purge within the snapshot leaves the whole log
purged_past : (i n : ℕ) (log : List (ℕ × Entry)) → i < n → past n (filter (λ p. nat_lt i p.0) log) ≡ past n log
purged_past i n [] l = refl
purged_past i n (x ∷ xs) l = go (nat_lt i x.0) (nat_lt x.0 n) refl refl (purged_past i n xs l)
  where
    low : (a : ℕ) → nat_lt i a ≡ false → nat_lt a n ≡ false → i < n → ⊥
    low a e f l = grind (arith, nat_tests)

    go : (a b : Bool) → nat_lt i x.0 ≡ a → nat_lt x.0 n ≡ b → past n (filter (λ p. nat_lt i p.0) xs) ≡ past n xs
        → past n (cond a (x ∷ filter (λ p. nat_lt i p.0) xs) (filter (λ p. nat_lt i p.0) xs)) ≡ values_of (cond (not b) (x ∷ filter (λ p. not (nat_lt p.0 n)) xs) (filter (λ p. not (nat_lt p.0 n)) xs))
    go true true e f k = rw f k
    go true false e f k = rw f (ap (λ (es : List Entry). x.1 ∷ es) k)
    go false true e f k = k
    go false false e f k = absurd (low x.0 e f l)

-- commands that leave the whole log: they append nothing, cut nothing, and install no snapshot
abbrev pub Mild : WorldCommand → Type 0
Mild (command.AppendInputEntries v es) = ⊥
Mild (command.DeleteConflictLog since) = ⊥
Mild (command.StateMachine c) = IsPlainPayload c.payload
Mild _ = Unit {0}

payload_whole : (p : WorldPayload) (u : WorldStore) → IsPlainPayload p → whole (store.exec_payload entry_meaning (λ es. es) p u) ≡ whole u
payload_whole payload.BuildSnapshot u m = refl
payload_whole (payload.GetSnapshot x) u m = refl
payload_whole (payload.BeginReceivingSnapshot x) u m = refl
payload_whole (payload.InstallFullSnapshot s) u m = absurd m
payload_whole (payload.Apply x) u m = refl

whole_stays : (c : WorldCommand) (cs : List WorldCommand) (u : WorldStore) → FitsBefore nat_cmp entry_meaning (λ es. es) u cs c → Mild c
    → whole (stored c u) ≡ whole u
whole_stays (command.SaveVote v) cs u f m = refl
whole_stays (command.AppendInputEntries v es) cs u f m = absurd m
whole_stays (command.DeleteConflictLog since) cs u f m = absurd m
whole_stays (command.PurgeLog upto) cs u f m = ap (λ (es : List Entry). u.snap ++ es) (purged_past upto.index (length u.snap) u.log f.within)
whole_stays (command.Commit seq already upto) cs u f m = refl
whole_stays (command.StateMachine c) cs u f m = payload_whole c.payload u m
whole_stays (command.SendVote req) cs u f m = refl
whole_stays (command.RebuildReplicationStreams targets) cs u f m = refl
whole_stays (command.Replicate target req) cs u f m = refl
whole_stays (command.ReplicateCommitted committed) cs u f m = refl
whole_stays (command.Respond when reply) cs u f m = refl
whole_stays command.BecomeLeader cs u f m = refl
whole_stays command.QuitLeader cs u f m = refl

abbrev machine_in : WorldMachine → WorldMachine
machine_in m = m

-- Queues

abbrev pub AllReady : WorldStore → List WorldCommand → Type 0
AllReady u cs = Ready nat_cmp entry_meaning (λ es. es) u cs

abbrev pub AllMild : List WorldCommand → Type 0
AllMild cs = AllByRecursion Mild cs

-- mild commands that save no vote
abbrev pub Plain : WorldCommand → Type 0
Plain c = Mild c × (saved_vote c ≡ None)

pub mild_end : (u : WorldStore) (cs : List WorldCommand) → AllReady u cs → AllMild cs → whole (left_by u cs) ≡ whole u
mild_end u [] r m = refl
mild_end u (c ∷ cs) r m = mild_end (stored c u) cs r.2 m.1 ∙ whole_stays c cs u r.1 m.0

module _ (id : ℕ) where
  -- by its stored log the node is a voter
  abbrev VotesBy : List Entry → Type 0
  VotesBy es = Listed (voter_ids nat_cmp (last_membership entry_meaning es).membership) id

  abbrev pub Votes : WorldStore → Type 0
  Votes u = Listed (voter_ids nat_cmp (stored_members u)) id

  pub votes_along : (u w : WorldStore) → whole w ≡ whole u → Votes u → Votes w
  votes_along u w e v = subst VotesBy (sym e) v

  -- it is one if its stored vote is its own, and committed
  abbrev pub Fine : WorldStore → Type 0
  Fine u = OwnsVote id u.vote → Votes u

  -- so it is before, between and after commands
  abbrev pub Safely : WorldStore → List WorldCommand → Type 0
  Safely u [] = Fine u
  Safely u (c ∷ cs) = Fine u × Safely (stored c u) cs

  pub safely_here : (u : WorldStore) (cs : List WorldCommand) → Safely u cs → Fine u
  safely_here u [] h = h
  safely_here u (c ∷ cs) h = h.0

  pub safely_end : (u : WorldStore) (cs : List WorldCommand) → Safely u cs → Fine (left_by u cs)
  safely_end u [] h = h
  safely_end u (c ∷ cs) h = safely_end (stored c u) cs h.1

  pub safely_then : (u : WorldStore) (xs ys : List WorldCommand) → Safely u xs → Safely (left_by u xs) ys → Safely u (xs ++ ys)
  safely_then u [] ys h k = k
  safely_then u (c ∷ xs) ys h k = (h.0, safely_then (stored c u) xs ys h.1 k)

  pub owned_or_not : (v : Vote ℕ) → OwnsVote id v ⊎ (OwnsVote id v → ⊥)
  owned_or_not v = go v.committed (nat_eq v.leader_id.node_id id) refl refl
    where
      named : (a b : ℕ) → nat_eq a b ≡ true → a ≡ b
      named a b e = grind (arith, nat_tests)

      go : (a b : Bool) → v.committed ≡ a → nat_eq v.leader_id.node_id id ≡ b → OwnsVote id v ⊎ (OwnsVote id v → ⊥)
      go true true e f = inl (e, named v.leader_id.node_id id f)
      go true false e f = inr (λ o. let z : nat_eq v.leader_id.node_id id ≡ true = same_ids v.leader_id.node_id id o.1 in cc)
      go false b e f = inr (λ o. let z : v.committed ≡ true = o.0 in cc)

  -- plain commands change nothing of it
  pub plain_safely : (u : WorldStore) (cs : List WorldCommand) → AllReady u cs → AllByRecursion Plain cs → Fine u → Safely u cs
  plain_safely u [] r p f = f
  plain_safely u (c ∷ cs) r p f = (f, plain_safely (stored c u) cs r.2 p.1 (λ o. votes_along u (stored c u) (whole_stays c cs u r.1 p.0.0) (f (subst (OwnsVote id) (vote_stays c u p.0.1) o))))

  -- mild commands leave a voter one, whatever votes they save
  pub mild_safely : (u : WorldStore) (cs : List WorldCommand) → AllReady u cs → AllMild cs → Votes u → Safely u cs
  mild_safely u [] r m v = λ o. v
  mild_safely u (c ∷ cs) r m v = (λ o. v, mild_safely (stored c u) cs r.2 m.1 (votes_along u (stored c u) (whole_stays c cs u r.1 m.0) v))

  -- commands that save no vote leave it another's, or not committed, whatever becomes of the log
  pub unsaved_safely : (u : WorldStore) (cs : List WorldCommand) → filter_map saved_vote cs ≡ [] → (OwnsVote id u.vote → ⊥) → Safely u cs
  unsaved_safely u [] e f = λ o. absurd (f o)
  unsaved_safely u (c ∷ cs) e f = go (saved_vote c) refl e (unsaved_safely (stored c u) cs)
    where
      go : (o : Option (Vote ℕ)) → saved_vote c ≡ o → cons_option o (filter_map saved_vote cs) ≡ []
          → (filter_map saved_vote cs ≡ [] → (OwnsVote id (stored c u).vote → ⊥) → Safely (stored c u) cs) → Safely u (c ∷ cs)
      go None q k g = (λ o. absurd (f o), g k (λ o. f (subst (OwnsVote id) (vote_stays c u q) o)))
      go (Some v) q k g = cc

  -- one command among mild ones may change the membership: if the node is a voter before and after, it is throughout
  split_safely : (u : WorldStore) (xs : List WorldCommand) (c : WorldCommand) (ys : List WorldCommand) → AllReady u (xs ++ c ∷ ys) → AllMild xs
      → AllMild ys → Votes u → Votes (left_by u (xs ++ c ∷ ys)) → Safely u (xs ++ c ∷ ys)
  split_safely u [] c ys r m n v w = (λ o. v, mild_safely (stored c u) ys r.2 n (votes_along (left_by (stored c u) ys) (stored c u) (sym (mild_end (stored c u) ys r.2 n)) w))
  split_safely u (x ∷ xs) c ys r m n v w = (λ o. v, split_safely (stored x u) xs c ys r.2 m.1 n (votes_along u (stored x u) (whole_stays x (xs ++ c ∷ ys) u r.1 m.0) v) w)

-- a queue with at most one command that isn't mild
pub record Split (cs : List WorldCommand) : Type 0 where
  pub before : List WorldCommand
  pub one : WorldCommand
  pub behind : List WorldCommand
  pub is : cs ≡ before ++ one ∷ behind
  pub mild : AllMild before
  pub rest : AllMild behind

pub record Once (old new : WorldCore) : Type 0 where
  pub added : List WorldCommand
  pub items : new.output.items ≡ old.output.items ++ added
  pub parts : AllMild added ⊎ Split added

pub once_safely : (id : ℕ) (u : WorldStore) (old new : WorldCore) → (h : Once old new) → AllReady u h.added → Votes id u
    → Votes id (left_by u h.added) → Safely id u h.added
once_safely id u old new h r v w = go h.added h.parts r w
  where
    go : (cs : List WorldCommand) → AllMild cs ⊎ Split cs → AllReady u cs → Votes id (left_by u cs) → Safely id u cs
    go cs (inl m) r w = mild_safely id u cs r m v
    go cs (inr s) r w =
        subst (Safely id u) (sym s.is)
        (split_safely id u s.before s.one s.behind (subst (AllReady u) s.is r) s.mild s.rest v (subst (λ (ds : List WorldCommand). Votes id (left_by u ds)) s.is w))

abbrev MildOnly : WorldCore → WorldCore → Type 0
MildOnly old new = QueuesOnly Mild old new

pub mild_leading : AllowsLeading Mild
mild_leading = record {
  becomes = tt;
  quits = tt;
  saves = λ v. tt;
  rebuilds = λ targets. tt;
  replicates = λ target f. tt;
  tells = λ x. tt;
  commits = λ seq a b. tt;
  builds = λ seq. tt;
}

pub once_of : (a b : WorldCore) → QueuesOnly Mild a b → Once a b
once_of a b h = record { added = h.added; items = h.behind; parts = inl h.each }

once_after : (a b c : WorldCore) → QueuesOnly Mild a b → Once b c → Once a c
once_after a b c h k = record { added = h.added ++ k.added; items = both_behind a.output.items b.output.items c.output.items h.added k.added h.behind k.items; parts = go k.added k.parts }
  where
    go : (ys : List WorldCommand) → AllMild ys ⊎ Split ys → AllMild (h.added ++ ys) ⊎ Split (h.added ++ ys)
    go ys (inl m) = inl (each_append Mild h.added ys h.each m)
    go ys (inr s) = inr (record {
      before = h.added ++ s.before;
      one = s.one;
      behind = s.behind;
      is = ap (λ zs. h.added ++ zs) s.is ∙ sym (append_assoc h.added s.before (s.one ∷ s.behind));
      mild = each_append Mild h.added s.before h.each s.mild;
      rest = s.rest;
    })

pub once_before : (a b c : WorldCore) → Once a b → QueuesOnly Mild b c → Once a c
once_before a b c h k = record { added = h.added ++ k.added; items = both_behind a.output.items b.output.items c.output.items h.added k.added h.items k.behind; parts = go h.added h.parts }
  where
    go : (xs : List WorldCommand) → AllMild xs ⊎ Split xs → AllMild (xs ++ k.added) ⊎ Split (xs ++ k.added)
    go xs (inl m) = inl (each_append Mild xs k.added m k.each)
    go xs (inr s) = inr (record {
      before = s.before;
      one = s.one;
      behind = s.behind ++ k.added;
      is = ap (λ zs. zs ++ k.added) s.is ∙ append_assoc s.before (s.one ∷ s.behind) k.added;
      mild = s.mild;
      rest = each_append Mild s.behind k.added s.rest k.each;
    })

once_one : (c : WorldCommand) (a b : WorldCore) → b.output.items ≡ a.output.items ++ c ∷ [] → Once a b
once_one c a b e = record { added = c ∷ []; items = e; parts = inr (record { before = []; one = c; behind = []; is = refl; mild = tt; rest = tt }) }

-- A leader's steps

-- a step that appends at most once, and leaves the effective membership
pub record Leads (old new : WorldCore) : Type 0 where
  pub once : Once old new
  pub em : new.state.em ≡ old.state.em

module _ (config : EngineConfig ℕ) where
  pub append_once : (es : List Entry) (l : WorldLed) → Once l.core (leader_append_entries nat_cmp entry_meaning config es l).core
  unfolding leader_append_entries proposed
  append_once es l =
      let taken : WorldLed = proposed entry_meaning es l in
      let t : Once l.core taken.core =
      once_one (command.AppendInputEntries l.leader.vote (assigned entry_meaning l.leader es)) l.core taken.core refl in
      let after : WorldLed = joined nat_cmp config (last_proposed entry_meaning l.leader es) taken in
      let k : Once l.core after.core = either_option (λ (q : WorldLed). Once l.core q.core) (last_proposed entry_meaning l.leader es) _ _ t
      (λ m. once_before l.core taken.core (append_membership_led nat_cmp config m taken).core t (join_only Mild nat_cmp config mild_leading m taken)) in
      either (λ (q : WorldLed). Once l.core q.core) (length es == 0) _ _ (once_of l.core l.core (only_here Mild l.core l.core refl))
      (once_before l.core after.core _ k (initiate_only Mild nat_cmp config mild_leading false after))

  -- without a membership among the entries it stays
  append_stays : (es : List Entry) (l : WorldLed) → memberships_in entry_meaning (assigned entry_meaning l.leader es) ≡ []
      → (leader_append_entries nat_cmp entry_meaning config es l).core.state.em ≡ l.core.state.em
  unfolding leader_append_entries proposed initiate_replication
  append_stays es l none =
      either (λ (q : WorldLed). q.core.state.em ≡ l.core.state.em) (length es == 0) _ _ refl
      (go (last_proposed entry_meaning l.leader es) (ap (λ (ms : List (StoredMembership ℕ (Unit {0}))). slice_get ms (length ms - 1)) none))
    where
      go : (o : Option (StoredMembership ℕ (Unit {0}))) → o ≡ None
          → (initiate_replication nat_cmp config false (joined nat_cmp config o (proposed entry_meaning es l))).core.state.em ≡ l.core.state.em
      go None e = refl
      go (Some m) e = cc

  pub appends_leads : (es : List Entry) (l : WorldLed) → memberships_in entry_meaning (assigned entry_meaning l.leader es) ≡ []
      → Leads l.core (leader_append_entries nat_cmp entry_meaning config es l).core
  appends_leads es l none = record { once = append_once es l; em = append_stays es l none }

  none_leads : (a b : WorldCore) → b.output.items ≡ a.output.items → b.state.em ≡ a.state.em → Leads a b
  none_leads a b e q = record { once = once_of a b (only_here Mild a b e); em = q }

  leads_after : (a b c : WorldCore) → QueuesOnly Mild a b → b.state.em ≡ a.state.em → Leads b c → Leads a c
  leads_after a b c h e k = record { once = once_after a b c h k.once; em = k.em ∙ e }

  -- a leader that begins proposes its no-op entry
  anew_leads : (m : WorldMachine) → Leads m.core (lead_anew nat_cmp entry_meaning config m).core
  unfolding lead_anew begin_lead update_role rebuild_replication_streams
  anew_leads m =
      let begun : WorldLed =
      record { leader = leader_in nat_cmp m.core.state.vote m.core.state.em.membership (by_last_leader nat_cmp m.core.state.ids); core = update_role nat_cmp config m.core } in
      let led : WorldLed = rebuild_replication_streams nat_cmp config begun in
      let t : QueuesOnly Mild m.core led.core =
      only_then Mild m.core begun.core led.core (role_only Mild nat_cmp config mild_leading m.core) (rebuild_only Mild nat_cmp config mild_leading begun) in
      either (λ (q : WorldLed). Leads m.core q.core) (is_lt (last_id_cmp nat_cmp begun.leader.last_log_id (Some begun.leader.noop_log_id))) _ _
      (leads_after m.core led.core _ t refl (appends_leads (entry_meaning.blank begun.leader.noop_log_id ∷ []) led refl))
      (record { once = once_of m.core led.core t; em = refl })

  -- a leader of the state's vote only changes its role
  pub record Stays (old new : WorldCore) : Type 0 where
    pub only : QueuesOnly Mild old new
    pub em : new.state.em ≡ old.state.em

  role_stays : (c : WorldCore) → Stays c (update_role nat_cmp config c)
  unfolding update_role
  role_stays c = record { only = role_only Mild nat_cmp config mild_leading c; em = refl }

  same_leader : (d : LeaderId ℕ) → is_eq (leader_id_cmp nat_cmp d d) ≡ true
  same_leader d = ap (λ r. is_eq (ordering_then r (nat_cmp d.node_id d.node_id))) (itself d.term) ∙ ap is_eq (itself d.node_id)

  led_stays : (m : WorldMachine) (l : WorldLeader) → m.leader ≡ Some l → l.vote.leader_id ≡ m.core.state.vote.leader_id
      → Stays m.core (update_internal_server_state nat_cmp entry_meaning config m).core
  unfolding update_internal_server_state become_leader become_following
  led_stays m l led own =
      either (λ (q : WorldMachine). Stays m.core q.core) (is_leader nat_cmp m.core.state config.id) _ _ (leads m.leader led)
      (either (λ (q : WorldMachine). Stays m.core q.core) (is_leading nat_cmp m.core.state config.id) _ _ (record { only = only_here Mild m.core m.core refl; em = refl }) (role_stays m.core))
    where
      by : (k : WorldLeader) (b : Bool) → b ≡ true → Stays m.core (machine_in (if b then on_core (update_role nat_cmp config) (record m { leader = Some (record k { vote = m.core.state.vote }) }) else lead_anew nat_cmp entry_meaning config m)).core
      by k true e = role_stays m.core
      by k false e = cc

      leads : (o : Option WorldLeader) → o ≡ Some l
          → Stays m.core (machine_in (elim o as (λ _. WorldMachine) [
            | None ↦ lead_anew nat_cmp entry_meaning config m
            | Some k ↦
                (if is_eq (leader_id_cmp nat_cmp k.vote.leader_id m.core.state.vote.leader_id)
                then on_core (update_role nat_cmp config) (record m { leader = Some (record k { vote = m.core.state.vote }) })
                else lead_anew nat_cmp entry_meaning config m)
          ])).core
      leads None e = cc
      leads (Some k) e =
          let z : k ≡ l = cc in
          by k (is_eq (leader_id_cmp nat_cmp k.vote.leader_id m.core.state.vote.leader_id))
          (ap (λ (x : WorldLeader). is_eq (leader_id_cmp nat_cmp x.vote.leader_id m.core.state.vote.leader_id)) z ∙ (ap (λ d. is_eq (leader_id_cmp nat_cmp d m.core.state.vote.leader_id)) own ∙ same_leader m.core.state.vote.leader_id))

  stays_then : (a b c : WorldCore) → Stays a b → Stays b c → Stays a c
  stays_then a b c h k = record { only = only_then Mild a b c h.only k.only; em = k.em ∙ h.em }

  -- nor does its own vote, saved, change more
  voted_stays : (v : Vote ℕ) (now : ℕ) (m : WorldMachine) (l : WorldLeader) → m.leader ≡ Some l → l.vote.leader_id ≡ v.leader_id
      → v.leader_id ≡ m.core.state.vote.leader_id → Stays m.core (update_vote nat_cmp entry_meaning config v now m).core
  unfolding update_vote
  voted_stays v now m l led own same =
      either (λ (q : WorldMachine). Stays m.core q.core) (rejects_vote nat_cmp m.core.state v) _ _ (record { only = only_here Mild m.core m.core refl; em = refl }) (go (is_gt (vote_cmp nat_cmp v m.core.state.vote)))
    where
      go : (b : Bool) → Stays m.core (update_internal_server_state nat_cmp entry_meaning config
          (on_core (λ (c : WorldCore). if b then then_command (with_state c (record c.state { vote = v; time = Some now })) (command.SaveVote v) else with_state c (record c.state { time = Some now })) m)).core
      go true =
          let taken : WorldMachine =
          record m { core = then_command (with_state m.core (record m.core.state { vote = v; time = Some now })) (command.SaveVote v) } in
          stays_then m.core taken.core _ (record { only = only_of Mild (command.SaveVote v ∷ []) m.core taken.core refl (tt, tt); em = refl }) (led_stays taken l led own)
      go false =
          let taken : WorldMachine = record m { core = with_state m.core (record m.core.state { time = Some now }) } in
          stays_then m.core taken.core _ (record { only = only_here Mild m.core taken.core refl; em = refl }) (led_stays taken l led (own ∙ same))

  -- a candidate of the state's vote leads
  pub won_leads : (c : WorldCandidate) (now : ℕ) (m : WorldMachine) → Leads m.core (lead_by_votes nat_cmp entry_meaning config c now m).core
  unfolding lead_by_votes rebuild_replication_streams
  won_leads c now m = go (may_establish nat_cmp m.core.state m.leader c) refl
    where
      l : WorldLeader
      l = into_leader nat_cmp c

      led : WorldMachine
      led = leading (record m { candidate = None }) (rebuild_replication_streams nat_cmp config (record { leader = l; core = m.core }))

      voted : WorldMachine
      voted = update_vote nat_cmp entry_meaning config l.vote now led

      same : is_eq (vote_cmp nat_cmp c.vote m.core.state.vote) ≡ true → c.vote.leader_id ≡ m.core.state.vote.leader_id
      same e = ap (λ (v : Vote ℕ). v.leader_id) (vote_same nat_cmp nat_same c.vote m.core.state.vote (is_equal (vote_cmp nat_cmp c.vote m.core.state.vote) e))

      go : (b : Bool) → may_establish nat_cmp m.core.state m.leader c ≡ b
          → Leads m.core (machine_in (if b then on_leader (leader_append_entries nat_cmp entry_meaning config (entry_meaning.blank l.noop_log_id ∷ [])) voted else record m { candidate = None })).core
      go false e = record { once = once_of m.core m.core (only_here Mild m.core m.core refl); em = refl }
      go true e =
          let k : Stays led.core voted.core =
          voted_stays l.vote now led _ refl refl (same (and_parts (is_eq (vote_cmp nat_cmp c.vote m.core.state.vote)) _ e).0) in
          let t : QueuesOnly Mild m.core voted.core =
          only_then Mild m.core led.core voted.core (rebuild_only Mild nat_cmp config mild_leading (record { leader = l; core = m.core })) k.only in
          either_option (λ (q : WorldMachine). Leads m.core q.core) voted.leader _ _ (record { once = once_of m.core voted.core t; em = k.em })
          (λ x. leads_after m.core voted.core _ t k.em (appends_leads (entry_meaning.blank l.noop_log_id ∷ []) (record { leader = x; core = voted.core }) refl))

  -- a leader's other calls
  pub progress_mild : {T : Type 0} (target : ℕ) (id : RequestId) (reply : Result (ReplicationResult ℕ) T) (l : WorldLed)
      → QueuesOnly Mild l.core (update_progress nat_cmp config target id reply l).core
  unfolding update_progress
  progress_mild target id reply l =
      let taken = take_reply nat_cmp config target id reply l in
      let freed = purge_unless_inflight nat_cmp taken in
      only_then Mild l.core freed.core _
      (only_then Mild l.core taken.core freed.core (reply_only Mild nat_cmp config mild_leading target id reply l) (unless-only Mild config (λ x. tt) taken))
      (sends_only Mild nat_cmp config mild_leading target freed).0

  -- the role follows from the vote
  internal_leads : (m : WorldMachine) → Leads m.core (update_internal_server_state nat_cmp entry_meaning config m).core
  unfolding update_internal_server_state become_leader become_following
  internal_leads m =
      either (λ (q : WorldMachine). Leads m.core q.core) (is_leader nat_cmp m.core.state config.id) _ _
      (either_option (λ (q : WorldMachine). Leads m.core q.core) m.leader _ _ (anew_leads m)
      (λ l. either (λ (q : WorldMachine). Leads m.core q.core) (is_eq (leader_id_cmp nat_cmp l.vote.leader_id m.core.state.vote.leader_id)) _ _ role (anew_leads m)))
      (either (λ (q : WorldMachine). Leads m.core q.core) (is_leading nat_cmp m.core.state config.id) _ _ (none_leads m.core m.core refl refl) role)
    where
      role : Leads m.core (update_role nat_cmp config m.core)
      role = let k : Stays m.core (update_role nat_cmp config m.core) = role_stays m.core in record { once = once_of m.core (update_role nat_cmp config m.core) k.only; em = k.em }

  pub step_down_leads : (m : WorldMachine) → Leads m.core (leader_step_down nat_cmp entry_meaning config m).core
  unfolding leader_step_down
  step_down_leads m = either (λ (q : WorldMachine). Leads m.core q.core) (is_settled nat_cmp m.core.state) _ _ (internal_leads m) (none_leads m.core m.core refl refl)

  -- a node that starts leads at once, or queues nothing
  pub startup_leads : (m : WorldMachine) → Leads m.core (startup nat_cmp entry_meaning config m).core
  unfolding startup initiate_replication
  startup_leads m =
      let led : WorldMachine = update_internal_server_state nat_cmp entry_meaning config m in
      let h : Leads m.core led.core = internal_leads m in
      either (λ (q : WorldMachine). Leads m.core q.core) (is_leader nat_cmp m.core.state config.id) _ _
      (either_option (λ (q : WorldMachine). Leads m.core q.core) led.leader _ _ h
      (λ l.
      let k : WorldLed = record { leader = l; core = led.core } in
      let told : KeepsCore led.core (update_local_progress nat_cmp config (last led.core.state.ids) k).core =
      local_keeps config (last led.core.state.ids) k in
      let noted : WorldLed = update_local_progress nat_cmp config (last led.core.state.ids) k in
      let t : QueuesOnly Mild led.core (lead_on nat_cmp config k).core =
      only_then Mild led.core noted.core _ (local_only Mild nat_cmp config mild_leading (last led.core.state.ids) k) (initiate_only Mild nat_cmp config mild_leading false noted) in
      record { once = once_before m.core led.core _ h.once t; em = told.state.em ∙ h.em }))
      (none_leads m.core _ refl refl)

-- Votes

-- a step that saves no vote
pub record Unsaved (old new : WorldCore) : Type 0 where
  pub vote : new.state.vote ≡ old.state.vote
  pub queues : Queues nat_cmp old new

pub unsaved_then : (a b c : WorldCore) → Unsaved a b → Unsaved b c → Unsaved a c
unsaved_then a b c h k = record { vote = k.vote ∙ h.vote; queues = queues_then nat_cmp a b c h.queues k.queues }

saves_none : (v w : Vote ℕ) (vs : List (Vote ℕ)) → w ≡ v → RiseTo nat_cmp v vs w → vs ≡ []
saves_none v w [] e r = refl
saves_none v w (x ∷ xs) e r =
    let z : is_lt (vote_cmp nat_cmp v v) ≡ true =
    subst (λ (y : Vote ℕ). is_lt (vote_cmp nat_cmp v y) ≡ true) e (saved_where_grown nat_cmp nat_cmp_total v (x ∷ xs) w r) in
    let y : false ≡ true = sym (lt_not_ge (vote_total nat_cmp nat_cmp_total) v v z) ∙ le_refl (vote_total nat_cmp nat_cmp_total) v in
    cc

pub none_saved : (old new : WorldCore) → (h : Unsaved old new) → filter_map saved_vote h.queues.added ≡ []
none_saved old new h = saves_none old.state.vote new.state.vote (filter_map saved_vote h.queues.added) h.vote h.queues.votes

pub internal_unsaved : (config : EngineConfig ℕ) (m : WorldMachine)
    → Unsaved m.core (update_internal_server_state nat_cmp entry_meaning config m).core
internal_unsaved config m = record { vote = (internal_marks nat_cmp entry_meaning config m).vote; queues = internal_queues nat_cmp nat_cmp_total entry_meaning config m }

module _ (id : ℕ) (u : WorldStore) where
  -- what a step adds to the queue leaves the node fine, on the store that the queue before it leaves
  pub record Adds (old new : WorldCore) : Type 0 where
    pub added : List WorldCommand
    pub items : new.output.items ≡ old.output.items ++ added
    pub safe : Safely id u added

  pub adds_none : (old new : WorldCore) → new.output.items ≡ old.output.items → Fine id u → Adds old new
  adds_none old new e f = record { added = []; items = e ∙ append_none old.output.items; safe = f }

  -- and a command that changes nothing of it
  pub adds_more : (c : WorldCommand) (a b d : WorldCore) → Adds a b → d.output.items ≡ b.output.items ++ c ∷ [] → (saved_vote c ≡ None)
      → ((w : WorldStore) → whole (stored c w) ≡ whole w) → Adds a d
  adds_more c a b d h e s same =
      let f : Fine id (left_by u h.added) = safely_end id u h.added h.safe in
      record {
        added = h.added ++ c ∷ [];
        items = both_behind a.output.items b.output.items d.output.items h.added (c ∷ []) h.items e;
        safe = safely_then id u h.added (c ∷ []) h.safe (f, λ o. votes_along id (left_by u h.added) (stored c (left_by u h.added)) (same (left_by u h.added)) (f (subst (OwnsVote id) (vote_stays c (left_by u h.added) s) o)));
      }

  -- another's vote, or one that isn't committed, is adopted
  module _ (config : EngineConfig ℕ) (v : Vote ℕ) (now : ℕ) (c : WorldCore) (vote : u.vote ≡ c.state.vote) (fine : Fine id u) (other : OwnsVote id v → ⊥) where
    pub adopted_adds : (new : WorldCore) → rejects_vote nat_cmp c.state v ≡ false → Unsaved (take_vote nat_cmp config v now c) new → Adds c new
    adopted_adds new r h = go (is_gt (vote_cmp nat_cmp v c.state.vote)) refl h
      where
        same : (r : Ordering) → is_lt r ≡ false → is_gt r ≡ false → r ≡ Equal
        same Less e f = cc
        same Equal e f = refl
        same Greater e f = cc

        go : (b : Bool) → is_gt (vote_cmp nat_cmp v c.state.vote) ≡ b
            → Unsaved (if b then then_command (with_state c (record c.state { vote = v; time = Some now })) (command.SaveVote v) else with_state c (record c.state { time = Some now })) new
            → Adds c new
        go true e k =
            let taken : WorldCore = then_command (with_state c (record c.state { vote = v; time = Some now })) (command.SaveVote v) in
            record {
              added = command.SaveVote v ∷ k.queues.added;
              items = k.queues.behind ∙ append_assoc c.output.items (command.SaveVote v ∷ []) k.queues.added;
              safe = (fine, unsaved_safely id (stored (command.SaveVote v) u) k.queues.added (none_saved taken new k) other);
            }
        go false e k =
            let is : v ≡ c.state.vote = vote_same nat_cmp nat_same v c.state.vote (same (vote_cmp nat_cmp v c.state.vote) r e) in
            let taken : WorldCore = with_state c (record c.state { time = Some now }) in
            record {
              added = k.queues.added;
              items = k.queues.behind;
              safe = unsaved_safely id u k.queues.added (none_saved taken new k) (λ o. other (subst (OwnsVote id) (vote ∙ sym is) o));
            }

  -- it is heard of
  pub voted_adds : (config : EngineConfig ℕ) (v : Vote ℕ) (now : ℕ) (m : WorldMachine) → u.vote ≡ m.core.state.vote → Fine id u → (OwnsVote id v → ⊥)
      → Adds m.core (update_vote nat_cmp entry_meaning config v now m).core
  unfolding update_vote
  voted_adds config v now m vote fine other = go (rejects_vote nat_cmp m.core.state v) refl
    where
      go : (b : Bool) → rejects_vote nat_cmp m.core.state v ≡ b
          → Adds m.core (machine_in (if b then m else update_internal_server_state nat_cmp entry_meaning config (on_core (take_vote nat_cmp config v now) m))).core
      go true e = adds_none m.core m.core refl fine
      go false e = adopted_adds config v now m.core vote fine other _ e (internal_unsaved config (on_core (take_vote nat_cmp config v now) m))
