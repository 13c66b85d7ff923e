-- A leader sends requests only behind an entry of its own: after each event, who sent a new request has a log that ends with an entry of
-- the request's leader id, or of a later one.
use Rattle.std.proofs.Common.{ℕ, zero, suc, ◌+◌, ◌<◌, ◌≤◌, ◌≡◌, ◌⊎◌, inl, inr, ⊎_elim, Bool, true, false, List, [], ◌∷◌, ◌++◌, length, map, filter, arith, refl, sym, ap, ◌∙◌, subst, Option, None, Some}
use Rattle.std.specs.Prelude.{Contains, IfSome, if◌then◌else◌, nat_lt}
use Rattle.std.proofs.lemmas.Bool.Decides.{nat_tests}
use Rattle.std.proofs.lemmas.List.Elements.{All-contains_itself, recursion_from_All}
use Rattle.std.specs.List.{AllByRecursion}
use Rattle.std.specs.Option.{option_to_list}
use Rattle.std.specs.Ordering.{is_le, nat_cmp}
use Rattle.proof_deeds.specs.raft_state.declared.ids.LeaderId.{LeaderId}
use Rattle.proof_deeds.specs.raft_state.declared.ids.LogId.{LogId}
use Rattle.proof_deeds.specs.raft_state.declared.ids.Vote.{Vote}
use Rattle.proof_deeds.specs.raft_state.declared.membership.Members.{Members}
use Rattle.proof_deeds.specs.raft_state.Log.{last}
use Rattle.proof_deeds.specs.raft_state.Order.{leader_id_cmp}
use Rattle.proof_deeds.specs.raft_state.Same.{leader_id_same, nat_same}
use Rattle.proof_deeds.proofs.raft_state_proofs.LogLists.{each_append}
use Rattle.proof_deeds.proofs.raft_state_proofs.Orders.{le_cases}
use Rattle.proof_deeds.specs.raft_progress_entry.declared.entry.Inflight.{Inflight}
use Rattle.proof_deeds.specs.raft_progress_entry.declared.entry.Inflight.TheVariants as inflight
use Rattle.proof_deeds.specs.raft_command.declared.command.Command.TheVariants as command
use Rattle.proof_deeds.specs.raft_command.declared.replication.ReplicationSessionId.{ReplicationSessionId}
use Rattle.proof_deeds.specs.raft_command.declared.respond.Respond.TheVariants as respond
use Rattle.proof_deeds.specs.raft_command.declared.sm.CommandPayload.TheVariants as payload
use Rattle.proof_deeds.specs.raft_command.Queue.{popped}
use Rattle.proof_deeds.specs.raft_steps.Invariants.{LeaderFits}
use Rattle.proof_deeds.specs.raft_store.declared.entry.Entry.{Entry}
use Rattle.proof_deeds.specs.raft_store.Entries.{entry_meaning}
use Rattle.proof_deeds.specs.raft_store.Store as store
use Rattle.proof_deeds.specs.raft_store.Store.{past, whole}
use Rattle.proof_deeds.specs.raft_store.Types.{EngineView, WorldCommand, WorldLeader, WorldPayload, WorldStore}
use Rattle.proof_deeds.specs.raft_schedule.declared.event.Event.{Event}
use Rattle.proof_deeds.specs.raft_schedule.declared.event.Outcome.{Outcome}
use Rattle.proof_deeds.specs.raft_schedule.declared.event.Outcome.TheVariants.{Skipped}
use Rattle.proof_deeds.specs.raft_schedule.declared.event.SkipReason.{SkipReason}
use Rattle.proof_deeds.specs.raft_calls.declared.lead.Answer.{Answer}
use Rattle.proof_deeds.specs.raft_calls.declared.message.Body.{Body}
use Rattle.proof_deeds.specs.raft_calls.declared.message.Body.TheVariants as body
use Rattle.proof_deeds.specs.raft_calls.declared.message.Message.{Message}
use Rattle.proof_deeds.specs.raft_calls.Engines.{WorldRespond, with_queue}
use Rattle.proof_deeds.specs.raft_calls.Feeds.{feed, feed_of}
use Rattle.proof_deeds.specs.raft_node.declared.act.Act.{Act}
use Rattle.proof_deeds.specs.raft_node.declared.given.Given.{Given}
use Rattle.proof_deeds.specs.raft_node.declared.node.Turn.{Turn}
use Rattle.proof_deeds.specs.raft_node.Events.{Scene, answer_at, called_at, calls, calls_at, finish, moment_of, played, skip_reason, turn_of, with_answer, work_of}
use Rattle.proof_deeds.specs.raft_node.Execute.{Effects, exec, exec_payload, heartbeat, others, replicate_committed, replication, replies, reply_to, sending, to_each}
use Rattle.proof_deeds.specs.raft_node.Net.{NodeView}
use Rattle.proof_deeds.specs.raft_node.Runs.{whole_logs, world_after}
use Rattle.proof_deeds.specs.raft_node.WellFormed.{IsWellFormed}
use Rattle.proof_deeds.specs.raft_node.Work.{Work, one_less, step_of, stopped, stops, weight, work_step, worked}
use Rattle.proof_deeds.proofs.raft_node_proofs.Ready.{scene_after, skip_moved}
use Rattle.proof_deeds.proofs.raft_node_proofs.Worked.{worked-keeps}
use Rattle.proof_deeds.specs.proof_agreement.LeaderNumbers.{leader_node}
use Rattle.proof_deeds.specs.proof_agreement.Machine.{Setup, last_leader, start}
use Rattle.proof_deeds.specs.proof_agreement.Stores.{entry_at, last_leader_of}
use Rattle.proof_deeds.specs.proof_agreement.Stores as stores
use Rattle.proof_deeds.proofs.proof_agreement_proofs.Invariants.{IsPast}
use Rattle.proof_deeds.proofs.proof_agreement_proofs.LeaderNumbers.{leader_node-number}
use Rattle.proof_deeds.proofs.proof_agreement_proofs.StoresFollow.{StoresFollow}
use Rattle.proof_deeds.specs.proof_mirror.Ready.{FitsBefore, Ready}
use Rattle.proof_deeds.specs.Chains.{Reached, left_by, stored}
use Rattle.proof_deeds.specs.Follows.{MessageIs, StoreIs, StreamsAre}
use Rattle.proof_deeds.specs.Images.{Ideal, IdealStore, IsNamed, IdNamed, images, last_number, number, setup_of}
use Rattle.proof_deeds.specs.Knows.{KnowsLed}
use Rattle.proof_deeds.specs.Nets.{EngineFollows, NodeFollows}
use Rattle.proof_deeds.proofs.AllLaws.{all_laws}
use Rattle.proof_deeds.proofs.AppendFitting.{Settled}
use Rattle.proof_deeds.proofs.Called.{calls_work}
use Rattle.proof_deeds.proofs.Calls.{CallLaws, WorldState}
use Rattle.proof_deeds.proofs.Drains.{EngineWorks, Works, carried_named, step_works}
use Rattle.proof_deeds.proofs.Events.{ActFits}
use Rattle.proof_deeds.proofs.Executed.{exec_stores}
use Rattle.proof_deeds.proofs.Joined.{ExtraAt, aimed}
use Rattle.proof_deeds.proofs.Nodes.{moved_follows}
use Rattle.proof_deeds.proofs.Numbers.{number_below}
use Rattle.proof_deeds.proofs.Proved.{followed}
use Rattle.proof_deeds.proofs.Promised.{one_of}
use Rattle.proof_deeds.proofs.ReadAnswers.{answer_known, answered_fits, answered_follows}
use Rattle.proof_deeds.proofs.Runs.{RecordsFit}
use Rattle.proof_deeds.proofs.Tails.{tail_end, tail_last_named, tail_whole}
use Rattle.proof_deeds.proofs.Worlds.{each_on, stores_follow}
use Rattle.proof_progress.proofs.EntriesCalled.{Rested}
use Rattle.proof_progress.proofs.OwnQueued.{EndsBy, HasOwn, InOrder, NoInstall, NoSend, NoStore, OwnFirst, SendsOwn}
use Rattle.proof_progress.proofs.OwnCalled.{NodeInOrder, calls_own, fed_own}
use Rattle.proof_progress.proofs.Throughout.{AllHold, AtWork, run_holds}

-- The end of a log

-- the leader id of a log's last entry, as a number
abbrev pub end_leader : List Entry → ℕ
end_leader [] = 0
end_leader (e ∷ []) = number e.log_id.leader_id
end_leader (e ∷ f ∷ es) = end_leader (f ∷ es)

-- it is the ideal one
pub ends_alike : (s : Setup Entry) (es : List Entry) → last_leader_of s (images es) ≡ end_leader es
ends_alike s [] = refl
ends_alike s (e ∷ []) = refl
ends_alike s (e ∷ f ∷ es) =
    let k : ℕ = length (images es) in
    let m : length (images (e ∷ f ∷ es)) ≡ suc (suc (length (images es))) = omega arith in
    let n : length (images (f ∷ es)) ≡ suc (length (images es)) = omega arith in
    ap (last_leader (entry_at s (images (e ∷ f ∷ es)))) m ∙ (sym (ap (last_leader (entry_at s (images (f ∷ es)))) n) ∙ ends_alike s (f ∷ es))

pub number_le : (a b : LeaderId ℕ) → IsNamed a → IsNamed b → is_le (leader_id_cmp nat_cmp a b) ≡ true → number a ≤ number b
number_le a b h k e =
    ⊎_elim (λ l. let z : number a < number b = number_below a b h k l in omega (arith, z))
    (λ q. let z : number a ≡ number b = ap number (leader_id_same nat_cmp nat_same a b q) in omega (arith, z)) (le_cases (leader_id_cmp nat_cmp a b) e)

-- Commands that leave the stored vote and the whole log

-- what is purged is covered by the snapshot
purged_past : (i n : ℕ) (log : List (ℕ × Entry)) → i < n → past n (filter (λ p. nat_lt i p.0) log) ≡ past n log
purged_past i n [] l = refl
purged_past i n (x ∷ xs) l = go (nat_lt i x.0) (nat_lt x.0 n) refl refl (purged_past i n xs l)
  where
    beyond : (a : ℕ) → nat_lt i a ≡ false → nat_lt a n ≡ true
    beyond a e = grind (arith, nat_tests)

    kept : (b : Bool) → nat_lt x.0 n ≡ b → past n (filter (λ p. nat_lt i p.0) xs) ≡ past n xs → past n (x ∷ filter (λ p. nat_lt i p.0) xs) ≡ past n (x ∷ xs)
    kept true e f = rw e f
    kept false e f = rw e (ap (λ ys. x.1 ∷ ys) f)

    go : (a b : Bool) → nat_lt i x.0 ≡ a → nat_lt x.0 n ≡ b → past n (filter (λ p. nat_lt i p.0) xs) ≡ past n xs → past n (filter (λ p. nat_lt i p.0) (x ∷ xs)) ≡ past n (x ∷ xs)
    go true b e g f = rw e (kept b g f)
    go false b e g f = let z : nat_lt x.0 n ≡ true = beyond x.0 e in rw (e, z) f

-- a command leaves them
pub record Leaves (u v : WorldStore) : Type 0 where
  pub vote : v.vote ≡ u.vote
  pub log : whole v ≡ whole u

pub leaves : (u : WorldStore) (cs : List WorldCommand) (c : WorldCommand) → NoStore c → FitsBefore nat_cmp entry_meaning (λ es. es) u cs c → Leaves u (stored c u)
leaves u cs (command.SaveVote v) k f = absurd k
leaves u cs (command.AppendInputEntries v es) k f = absurd k
leaves u cs (command.DeleteConflictLog since) k f = absurd k
leaves u cs (command.PurgeLog upto) k f = record { vote = refl; log = ap (λ es. u.snap ++ es) (purged_past upto.index (length u.snap) u.log f.within) }
leaves u cs (command.Commit seq already upto) k f = record { vote = refl; log = refl }
leaves u cs (command.StateMachine c) k f = go c.payload k
  where
    go : (p : WorldPayload) → NoInstall p → Leaves u (store.exec_payload entry_meaning (λ es. es) p u)
    go payload.BuildSnapshot k = record { vote = refl; log = refl }
    go (payload.GetSnapshot _) k = record { vote = refl; log = refl }
    go (payload.BeginReceivingSnapshot _) k = record { vote = refl; log = refl }
    go (payload.InstallFullSnapshot s) k = absurd k
    go (payload.Apply _) k = record { vote = refl; log = refl }
leaves u cs (command.SendVote req) k f = record { vote = refl; log = refl }
leaves u cs (command.RebuildReplicationStreams targets) k f = record { vote = refl; log = refl }
leaves u cs (command.Replicate target req) k f = record { vote = refl; log = refl }
leaves u cs (command.ReplicateCommitted committed) k f = record { vote = refl; log = refl }
leaves u cs (command.Respond when reply) k f = record { vote = refl; log = refl }
leaves u cs command.BecomeLeader k f = record { vote = refl; log = refl }
leaves u cs command.QuitLeader k f = record { vote = refl; log = refl }

-- so do all of a queue
pub all_leave : (u : WorldStore) (cs : List WorldCommand) → Ready nat_cmp entry_meaning (λ es. es) u cs → AllByRecursion NoStore cs → Leaves u (left_by u cs)
all_leave u [] r h = record { vote = refl; log = refl }
all_leave u (c ∷ cs) r h =
    let a : Leaves u (stored c u) = leaves u cs c h.0 r.1 in
    let b : Leaves (stored c u) (left_by (stored c u) cs) = all_leave (stored c u) cs r.2 h.1 in
    record { vote = b.vote ∙ a.vote; log = b.log ∙ a.log }

-- they feed nothing back
unfed : (now : ℕ) (c : WorldCommand) (e : EngineView) → NoStore c → feed now c e ≡ e
unfed now (command.SaveVote v) e k = absurd k
unfed now (command.AppendInputEntries v es) e k = absurd k
unfed now (command.DeleteConflictLog since) e k = refl
unfed now (command.PurgeLog upto) e k = refl
unfed now (command.Commit seq already upto) e k = refl
unfed now (command.StateMachine c) e k = refl
unfed now (command.SendVote req) e k = refl
unfed now (command.RebuildReplicationStreams targets) e k = refl
unfed now (command.Replicate target req) e k = refl
unfed now (command.ReplicateCommitted committed) e k = refl
unfed now (command.Respond when reply) e k = refl
unfed now command.BecomeLeader e k = refl
unfed now command.QuitLeader e k = refl

-- Queues in order

-- the first command is popped
pub first_popped : (c : WorldCommand) (cs : List WorldCommand) → OwnFirst (c ∷ cs) → OwnFirst cs
first_popped c cs h = go h.before h.is h.unsent
  where
    go : (before : List WorldCommand) → c ∷ cs ≡ before ++ h.after → AllByRecursion NoSend before → OwnFirst cs
    go [] q k = record { before = []; after = cs; is = refl; unsent = tt; unstored = (subst (AllByRecursion NoStore) (sym q) h.unstored).1 }
    go (b ∷ bs) q k = let z : cs ≡ bs ++ h.after = cc in record { before = bs; after = h.after; is = z; unsent = k.1; unstored = h.unstored }

pub own_popped : (o : Option WorldLeader) (c : WorldCommand) (cs : List WorldCommand) → SendsOwn o (c ∷ cs) → SendsOwn o cs
own_popped None c cs h = h.1
own_popped (Some l) c cs h = (h.0, first_popped c cs h.1)

-- where the first one sends, none stores
all_unstored : (c : WorldCommand) (cs : List WorldCommand) → (NoSend c → ⊥) → OwnFirst (c ∷ cs) → AllByRecursion NoStore (c ∷ cs)
all_unstored c cs s h = go h.before h.is h.unsent
  where
    go : (before : List WorldCommand) → c ∷ cs ≡ before ++ h.after → AllByRecursion NoSend before → AllByRecursion NoStore (c ∷ cs)
    go [] q k = subst (AllByRecursion NoStore) (sym q) h.unstored
    go (b ∷ bs) q k = let z : b ≡ c = cc in absurd (s (subst NoSend z k.0))

-- Messages

-- a request's leader id isn't above this number
abbrev pub UpTo : ℕ → Body → Type 0
UpTo n (body.AppendRequest o prev es committed) = number o.session_id.vote.leader_id ≤ n
UpTo n (body.SnapshotRequest o s) = number o.session_id.vote.leader_id ≤ n
UpTo n _ = Unit {0}

-- it is no request of a leader
abbrev pub NoRequest : Body → Type 0
NoRequest (body.AppendRequest o prev es committed) = ⊥
NoRequest (body.SnapshotRequest o s) = ⊥
NoRequest _ = Unit {0}

-- a request of this node's own leader id
abbrev OfNode : ℕ → Body → Type 0
OfNode n (body.AppendRequest o prev es committed) = o.session_id.vote.leader_id.node_id ≡ n
OfNode n (body.SnapshotRequest o s) = o.session_id.vote.leader_id.node_id ≡ n
OfNode n _ = Unit {0}

pub no_request : (n : ℕ) (b : Body) → NoRequest b → UpTo n b
no_request n (body.VoteRequest q) h = tt
no_request n (body.VoteReply r) h = tt
no_request n (body.AppendRequest o prev es committed) h = absurd h
no_request n (body.AppendReply o r prev upto) h = tt
no_request n (body.SnapshotRequest o s) h = absurd h
no_request n (body.SnapshotReply o r upto) h = tt

pub more_upto : (m n : ℕ) → m ≤ n → (b : Body) → UpTo m b → UpTo n b
more_upto m n l (body.VoteRequest q) h = tt
more_upto m n l (body.VoteReply r) h = tt
more_upto m n l (body.AppendRequest o prev es committed) h = omega (arith, l, h)
more_upto m n l (body.AppendReply o r prev upto) h = tt
more_upto m n l (body.SnapshotRequest o s) h = omega (arith, l, h)
more_upto m n l (body.SnapshotReply o r upto) h = tt

-- no later leader id of a node is established than its vote
module _ (first : Members ℕ (Unit {0})) (X : Ideal) (r : Reached (setup_of first) X) where
  abbrev K : StoresFollow (setup_of first) (start (setup_of first)) X
  K = stores_follow (setup_of first) X r

  past_vote : (n : ℕ) (d : LeaderId ℕ) → IsNamed d → d.node_id ≡ n → (K.world.leader (number d)).established ≡ true → number d ≤ (X.store n).vote
  past_vote n d named own e = go (number d) refl
    where
      owner : leader_node (number d) ≡ n
      owner = leader_node-number d.term d.node_id named ∙ own

      of : (m : ℕ) → m ≡ number d → IsPast (K.world.node n) m → m ≤ (X.store n).vote
      of m q (inl l) = let v : (K.world.node n).vote ≡ (X.store n).vote = (K.store n).vote in omega (arith, l, v)
      of m q (inr p) = let v : (K.world.node n).vote ≡ (X.store n).vote = (K.store n).vote in omega (arith, p.0, v)

      go : (m : ℕ) → number d ≡ m → number d ≤ (X.store n).vote
      go zero q = omega (arith, q)
      go (suc m) q = of (number d) refl (subst (λ i. IsPast (K.world.node i) (number d)) owner (K.inv.owned (number d) (omega (arith, q)) e))

  sent_upto : (n : ℕ) (m : Message) → MessageIs (setup_of first) X m → OfNode n m.body → UpTo ((X.store n).vote) m.body
  sent_upto n m h o = go m.body h o
    where
      go : (b : Body) → Rattle.proof_deeds.specs.Follows.BodyIs (setup_of first) m.from m.to b X → OfNode n b → UpTo ((X.store n).vote) b
      go (body.VoteRequest q) h o = tt
      go (body.VoteReply q) h o = tt
      go (body.AppendRequest origin prev es committed) h o =
          past_vote n origin.session_id.vote.leader_id h.leaders.named o
          (subst (λ d. (K.world.leader d).established ≡ true) h.is.session (K.told.message (stores.AppendRequest h.request) h.sent).established)
      go (body.AppendReply origin q prev upto) h o = tt
      go (body.SnapshotRequest origin s) h o =
          past_vote n origin.session_id.vote.leader_id h.leaders.named o
          (subst (λ d. (K.world.leader d).established ≡ true) h.leader (K.told.message (stores.SnapshotRequest h.session (images s.snapshot)) h.sent).established)
      go (body.SnapshotReply origin q upto) h o = tt

-- Work

abbrev effects_in : Effects (List Entry) → Effects (List Entry)
effects_in w = w

module _ {X : Type 0} where
  behind_each : (P : X → Type 0) (xs ys : List X) → AllByRecursion P (xs ++ ys) → AllByRecursion P ys
  behind_each P [] ys h = h
  behind_each P (x ∷ xs) ys h = behind_each P xs ys h.1

-- the command sends requests
IsSend : WorldCommand → Type 0
IsSend (command.Replicate target req) = Unit {0}
IsSend (command.ReplicateCommitted x) = Unit {0}
IsSend _ = ⊥

sends_or_not : (c : WorldCommand) → NoSend c ⊎ IsSend c
unfolding IsSend
sends_or_not (command.SaveVote v) = inl tt
sends_or_not (command.AppendInputEntries v es) = inl tt
sends_or_not (command.DeleteConflictLog since) = inl tt
sends_or_not (command.PurgeLog upto) = inl tt
sends_or_not (command.Commit seq already upto) = inl tt
sends_or_not (command.StateMachine c) = inl tt
sends_or_not (command.SendVote req) = inl tt
sends_or_not (command.RebuildReplicationStreams targets) = inl tt
sends_or_not (command.Replicate target req) = inr tt
sends_or_not (command.ReplicateCommitted committed) = inr tt
sends_or_not (command.Respond when reply) = inl tt
sends_or_not command.BecomeLeader = inl tt
sends_or_not command.QuitLeader = inl tt

send_sends : (c : WorldCommand) → IsSend c → NoSend c → ⊥
unfolding IsSend
send_sends (command.SaveVote v) i = absurd i
send_sends (command.AppendInputEntries v es) i = absurd i
send_sends (command.DeleteConflictLog since) i = absurd i
send_sends (command.PurgeLog upto) i = absurd i
send_sends (command.Commit seq already upto) i = absurd i
send_sends (command.StateMachine c) i = absurd i
send_sends (command.SendVote req) i = absurd i
send_sends (command.RebuildReplicationStreams targets) i = absurd i
send_sends (command.Replicate target req) i = λ h. h
send_sends (command.ReplicateCommitted committed) i = λ h. h
send_sends (command.Respond when reply) i = absurd i
send_sends command.BecomeLeader i = absurd i
send_sends command.QuitLeader i = absurd i

module _ (t : Turn) (e : EngineView) (E : Effects (List Entry)) where
  -- no other command sends a request
  module _ (P : Message → Type 0) (plain : (m : Message) → NoRequest m.body → P m) (h : AllByRecursion P E.records.bag) where
    asks : (ids : List ℕ) (b : Body) → NoRequest b → AllByRecursion P (to_each t.id ids b)
    asks [] b n = tt
    asks (x ∷ xs) b n = (plain _ n, asks xs b n)

    answer : (b : Body) (r : WorldRespond) (to : ℕ) → AllByRecursion P (map (λ c. record { from = t.id; to = to; body = c }) (option_to_list (reply_to b r)))
    answer (body.VoteRequest q) (respond.Vote r) to = (plain _ tt, tt)
    answer (body.AppendRequest o prev es committed) (respond.AppendEntries r) to = (plain _ tt, tt)
    answer (body.SnapshotRequest o s) (respond.InstallFullSnapshot r) to = (plain _ tt, tt)
    answer _ _ to = tt

    answers : (r : WorldRespond) → AllByRecursion P (replies t r)
    answers r = go t.request
      where
        go : (o : Option Message) → AllByRecursion P (elim o as (λ _. List Message) [ None ↦ [] | Some m ↦ map (λ b. record { from = t.id; to = m.from; body = b }) (option_to_list (reply_to m.body r)) ])
        go None = tt
        go (Some m) = answer m.body r m.from

    quiet : (c : WorldCommand) → NoSend c → AllByRecursion P (exec whole_logs t e c E).records.bag
    quiet (command.SaveVote v) n = h
    quiet (command.AppendInputEntries v es) n = h
    quiet (command.DeleteConflictLog since) n = h
    quiet (command.PurgeLog upto) n = h
    quiet (command.Commit seq already upto) n = h
    quiet (command.StateMachine c) n = go c.payload
      where
        go : (p : WorldPayload) → AllByRecursion P (exec_payload whole_logs t (command.StateMachine c) p E).records.bag
        go payload.BuildSnapshot = h
        go (payload.GetSnapshot _) = h
        go (payload.BeginReceivingSnapshot _) = h
        go (payload.InstallFullSnapshot s) = h
        go (payload.Apply _) = h
    quiet (command.SendVote req) n = each_append P E.records.bag _ h (asks (others t.id e.machine.core.state.em.membership) (body.VoteRequest req) tt)
    quiet (command.RebuildReplicationStreams targets) n = h
    quiet (command.Replicate target req) n = absurd n
    quiet (command.ReplicateCommitted committed) n = absurd n
    quiet (command.Respond when reply) n = each_append P E.records.bag _ h (answers reply)
    quiet command.BecomeLeader n = h
    quiet command.QuitLeader n = h

  -- what is sent under the node's own session
  module _ (first : Members ℕ (Unit {0})) (X : Ideal) (S : IdealStore) (reached : Reached (setup_of first) X) (session : StreamsAre t.id E.streams.session_id S) (n : ℕ) (low : (X.store t.id).vote ≤ n)
      (P : Message → Type 0) (told : (m : Message) → UpTo n m.body → P m) (h : AllByRecursion P E.records.bag) where
    of_node : (q : ReplicationSessionId ℕ) → q.vote.leader_id.node_id ≡ t.id → (u : WorldStore) (f : Inflight ℕ) → OfNode t.id (replication t q u f)
    of_node q o u inflight.None = o
    of_node q o u (inflight.Logs id range) = o
    of_node q o u (inflight.Snapshot id last) = o

    each_told : (ids : List ℕ) (b : Body) → OfNode t.id b → AllByRecursion (MessageIs (setup_of first) X) (to_each t.id ids b) → AllByRecursion P (to_each t.id ids b)
    each_told [] b o i = tt
    each_told (x ∷ xs) b o i = (told _ (more_upto (X.store t.id).vote n low b (sent_upto first X reached t.id (record { from = t.id; to = x; body = b }) i.0 o)), each_told xs b o i.1)

    sent_told : (c : WorldCommand) → IsSend c → AllByRecursion (MessageIs (setup_of first) X) (exec whole_logs t e c E).records.bag → AllByRecursion P (exec whole_logs t e c E).records.bag
    unfolding IsSend
    sent_told (command.Replicate target req) i k = go E.streams.session_id session k
      where
        go : (o : Option (ReplicationSessionId ℕ)) → StreamsAre t.id o S
            → AllByRecursion (MessageIs (setup_of first) X) (effects_in (elim o as (λ _. Effects (List Entry)) [ None ↦ E | Some s ↦ sending (to_each t.id (target ∷ []) (replication t s E.store req)) E ])).records.bag
            → AllByRecursion P (effects_in (elim o as (λ _. Effects (List Entry)) [ None ↦ E | Some s ↦ sending (to_each t.id (target ∷ []) (replication t s E.store req)) E ])).records.bag
        go None q k = h
        go (Some s) q k =
            each_append P E.records.bag (to_each t.id (target ∷ []) (replication t s E.store req)) h
            (each_told (target ∷ []) (replication t s E.store req) (of_node s q.own E.store req) (behind_each (MessageIs (setup_of first) X) E.records.bag (to_each t.id (target ∷ []) (replication t s E.store req)) k))
    sent_told (command.ReplicateCommitted x) i k = go E.streams.session_id session k
      where
        go : (o : Option (ReplicationSessionId ℕ)) → StreamsAre t.id o S
            → AllByRecursion (MessageIs (setup_of first) X) (effects_in (elim o as (λ _. Effects (List Entry)) [ None ↦ E | Some s ↦ replicate_committed whole_logs t x s E ])).records.bag
            → AllByRecursion P (effects_in (elim o as (λ _. Effects (List Entry)) [ None ↦ E | Some s ↦ replicate_committed whole_logs t x s E ])).records.bag
        go None q k = h
        go (Some s) q k =
            each_append P E.records.bag (to_each t.id E.streams.targets (heartbeat t s x)) h
            (each_told E.streams.targets (heartbeat t s x) q.own (behind_each (MessageIs (setup_of first) X) E.records.bag (to_each t.id E.streams.targets (heartbeat t s x)) k))
    sent_told (command.SaveVote v) i k = absurd i
    sent_told (command.AppendInputEntries v es) i k = absurd i
    sent_told (command.DeleteConflictLog since) i k = absurd i
    sent_told (command.PurgeLog upto) i k = absurd i
    sent_told (command.Commit seq already upto) i k = absurd i
    sent_told (command.StateMachine c) i k = absurd i
    sent_told (command.SendVote req) i k = absurd i
    sent_told (command.RebuildReplicationStreams targets) i k = absurd i
    sent_told (command.Respond when reply) i k = absurd i
    sent_told command.BecomeLeader i k = absurd i
    sent_told command.QuitLeader i k = absurd i

  -- a command that sends leaves the store
  send_leaves : (c : WorldCommand) → IsSend c → (exec whole_logs t e c E).store ≡ E.store
  unfolding IsSend
  send_leaves (command.Replicate target req) i = exec_stores t e E (command.Replicate target req)
  send_leaves (command.ReplicateCommitted x) i = exec_stores t e E (command.ReplicateCommitted x)
  send_leaves (command.SaveVote v) i = absurd i
  send_leaves (command.AppendInputEntries v es) i = absurd i
  send_leaves (command.DeleteConflictLog since) i = absurd i
  send_leaves (command.PurgeLog upto) i = absurd i
  send_leaves (command.Commit seq already upto) i = absurd i
  send_leaves (command.StateMachine c) i = absurd i
  send_leaves (command.SendVote req) i = absurd i
  send_leaves (command.RebuildReplicationStreams targets) i = absurd i
  send_leaves (command.Respond when reply) i = absurd i
  send_leaves command.BecomeLeader i = absurd i
  send_leaves command.QuitLeader i = absurd i

module _ (given : Given) (t : Turn) where
  abbrev Extra : Ideal → WorldState → Type 0
  Extra = Settled (setup_of given.membership)

  abbrev laws : CallLaws given.membership (Settled (setup_of given.membership))
  laws = all_laws given.membership

  -- where all that is queued leaves vote and log, a leader's log ends with an entry of its node's vote, or of a later one
  ends_own : (u : WorldStore) (X : Ideal) (e : EngineView) (l : WorldLeader) → EngineWorks given.membership (Settled (setup_of given.membership)) t u X e → e.machine.leader ≡ Some l → HasOwn l → AllByRecursion NoStore e.machine.core.output.items
      → number u.vote.leader_id ≤ end_leader (whole u)
  ends_own u X e l k led own still =
      let s : Setup Entry = setup_of given.membership in
      let T : WorldStore = left_by u e.machine.core.output.items in
      let S : IdealStore = k.carried.end.store t.id in
      let left : Leaves u (left_by u e.machine.core.output.items) = all_leave u e.machine.core.output.items k.pending.core.ready still in
      let fits : LeaderFits nat_cmp e.config.id e.machine.core.state.ids e.machine.core.state.purged e.machine.core.state.em.membership l = subst (λ o. IfSome o (LeaderFits nat_cmp e.config.id e.machine.core.state.ids e.machine.core.state.purged e.machine.core.state.em.membership)) led k.ready.sound.lead.leader_fits in
      let knows : KnowsLed (setup_of given.membership) t.id e.machine.core.state l k.carried.end = subst (λ o. IfSome o (λ l. KnowsLed (setup_of given.membership) t.id e.machine.core.state l k.carried.end)) led k.carried.knows.leader in
      let named : IsNamed e.machine.core.state.vote.leader_id = carried_named given.membership (Settled (setup_of given.membership)) t u X e k in
      let last_named : IdNamed (last e.machine.core.state.ids) = tail_last_named s T S e.machine.core.state k.carried.store k.pending.core.in_step k.ready.sound.sound in
      let a : end_leader (whole (left_by u e.machine.core.output.items)) ≡ last_number (last e.machine.core.state.ids) =
      sym (ends_alike s (whole T)) ∙ (ap (last_leader_of s) (sym (tail_whole s T S e.machine.core.state k.carried.store k.pending.core.in_step)) ∙ tail_end s T S e.machine.core.state k.carried.store k.pending.core.in_step k.ready.sound.sound) in
      let b : end_leader (whole (left_by u e.machine.core.output.items)) ≡ end_leader (whole u) = ap end_leader left.log in
      let c : number e.machine.core.state.vote.leader_id ≡ number u.vote.leader_id = ap (λ (v : Vote ℕ). number v.leader_id) (k.pending.core.in_step.mirrors.log.vote_is ∙ left.vote) in
      let d : number e.machine.core.state.vote.leader_id ≤ last_number (last e.machine.core.state.ids) =
      low (last e.machine.core.state.ids) last_named named (subst (λ (v : Vote ℕ). EndsBy v.leader_id (last e.machine.core.state.ids)) knows.vote (subst (EndsBy l.vote.leader_id) fits.last_id own)) in
      omega (arith, a, b, c, d)
    where
      low : (o : Option (LogId ℕ)) → IdNamed o → IsNamed e.machine.core.state.vote.leader_id → EndsBy e.machine.core.state.vote.leader_id o → number e.machine.core.state.vote.leader_id ≤ last_number o
      low None n m h = absurd h
      low (Some x) n m h = number_le e.machine.core.state.vote.leader_id x.leader_id m n h

  module _ (old : List Message) where
    -- a message that was there, or whose sender's log ends so
    abbrev pub Fresh : WorldStore → Message → Type 0
    Fresh u m = Contains old m ⊎ UpTo (end_leader (whole u)) m.body

    -- or that is no request
    abbrev pub Still : Message → Type 0
    Still m = Contains old m ⊎ NoRequest m.body

    -- a node at work: it has sent no request yet, or only behind an entry of its own, and then it stores no more
    abbrev pub Told : Effects (List Entry) → Option EngineView → Type 0
    Told E o = AllByRecursion Still E.records.bag ⊎ (AllByRecursion (Fresh E.store) E.records.bag × IfSome o (λ e. AllByRecursion NoStore e.machine.core.output.items))

    still_fresh : (u : WorldStore) (ms : List Message) → AllByRecursion Still ms → AllByRecursion (Fresh u) ms
    still_fresh u ms h = each_on Still (Fresh u) (λ m k. ⊎_elim (λ c. inl c) (λ n. inr (no_request (end_leader (whole u)) m.body n)) k) ms h

    pub told_fresh : (E : Effects (List Entry)) (o : Option EngineView) → Told E o → AllByRecursion (Fresh E.store) E.records.bag
    told_fresh E o (inl h) = still_fresh E.store E.records.bag h
    told_fresh E o (inr p) = p.0

    module _ (since : Ideal) (w : Work (List Entry)) (e : EngineView) (c : WorldCommand) (cs : List WorldCommand) where
      abbrev behind : EngineView
      behind = with_queue e (record e.machine.core.output { items = cs })

      abbrev A : Effects (List Entry)
      A = exec whole_logs t (with_queue e (record e.machine.core.output { items = cs })) c w.effects

      -- what is known once the command is executed
      abbrev Then : Type 0
      Then = AllByRecursion Still A.records.bag ⊎ (AllByRecursion (Fresh A.store) A.records.bag × AllByRecursion NoStore (c ∷ cs))

      module _ (is : e.machine.core.output.items ≡ c ∷ cs) (h : Works given.membership (Settled (setup_of given.membership)) t since (record w { engine = Some e })) (order : InOrder e.machine)
          (X : Ideal) (reached : Reached (setup_of given.membership) X) (store : StoreIs (setup_of given.membership) A.store (X.store t.id)) (bag : AllByRecursion (MessageIs (setup_of given.membership) X) A.records.bag) where
        u : WorldStore
        u = w.effects.store

        -- requests are sent
        sends : IsSend c → AllByRecursion (Fresh w.effects.store) w.effects.records.bag → AllByRecursion (Fresh A.store) A.records.bag × AllByRecursion NoStore (c ∷ cs)
        sends i fresh = go e.machine.leader refl (subst (SendsOwn e.machine.leader) is order)
          where
            go : (o : Option WorldLeader) → e.machine.leader ≡ o → SendsOwn o (c ∷ cs) → AllByRecursion (Fresh A.store) A.records.bag × AllByRecursion NoStore (c ∷ cs)
            go None q k = absurd (send_sends c i k.0)
            go (Some l) q k =
                let still : AllByRecursion NoStore (c ∷ cs) = all_unstored c cs (send_sends c i) k.1 in
                let same : A.store ≡ w.effects.store = send_leaves t behind w.effects c i in
                let a : number w.effects.store.vote.leader_id ≤ end_leader (whole w.effects.store) = ends_own w.effects.store h.world e l h.engine q k.0 (subst (AllByRecursion NoStore) (sym is) still) in
                let b : (X.store t.id).vote ≡ number w.effects.store.vote.leader_id = store.vote ∙ ap (λ (v : WorldStore). number v.vote.leader_id) same in (
                  subst (λ v. AllByRecursion (Fresh v) A.records.bag) (sym same)
                      (sent_told t behind w.effects given.membership X (h.world.store t.id) reached h.effects.rest.session (end_leader (whole w.effects.store)) (omega (arith, a, b)) (Fresh w.effects.store) (λ m k. inr k) fresh c i bag),
                  still,
                )

        then_told : Told w.effects (Some e) → Then
        then_told (inl still) = ⊎_elim (λ n. inl (quiet t behind w.effects Still (λ m k. inr k) still c n)) (λ i. inr (sends i (still_fresh w.effects.store w.effects.records.bag still))) (sends_or_not c)
        then_told (inr p) = ⊎_elim plain (λ i. inr (sends i p.0)) (sends_or_not c)
          where
            unstored : AllByRecursion NoStore (c ∷ cs)
            unstored = subst (AllByRecursion NoStore) is p.1

            same : whole A.store ≡ whole w.effects.store
            same =
                ap whole (exec_stores t behind w.effects c)
                ∙ (leaves w.effects.store cs c unstored.0 (subst (λ xs. Ready nat_cmp entry_meaning (λ es. es) w.effects.store xs) is h.engine.pending.core.ready).1).log

            plain : NoSend c → Then
            plain n =
                inr (
                  quiet t behind w.effects (Fresh A.store) (λ m k. inr (no_request (end_leader (whole A.store)) m.body k))
                      (each_on (Fresh w.effects.store) (Fresh A.store) (λ m k. ⊎_elim (λ z. inl z) (λ z. inr (subst (λ es. UpTo (end_leader es) m.body) (sym same) z)) k) w.effects.records.bag p.0) c n,
                  unstored,
                )

      done_told : e.machine.core.output.items ≡ c ∷ cs → Works given.membership (Settled (setup_of given.membership)) t since (record w { engine = Some e }) → InOrder e.machine → Told w.effects (Some e) → (b : Bool)
          → Works given.membership (Settled (setup_of given.membership)) t since (if b then stopped A else record { engine = Some (feed t.moment c behind); effects = A; left = one_less w.left })
          → (let x : Work (List Entry) = (if b then stopped A else record { engine = Some (feed t.moment c behind); effects = A; left = one_less w.left }) in Told x.effects x.engine)
      done_told is h order k true v = ⊎_elim (λ z. inl z) (λ z. inr (z.0, tt)) (then_told is h order v.world v.effects.reached v.effects.store v.effects.rest.records.bag k)
      done_told is h order k false v =
          ⊎_elim (λ z. inl z) (λ z. inr (z.0, subst (λ (f : EngineView). AllByRecursion NoStore f.machine.core.output.items) (sym (unfed t.moment c behind z.1.0)) z.1.1))
          (then_told is h order v.world v.effects.reached v.effects.store v.effects.rest.records.bag k)

    -- what holds of a node at work
    record Going (since : Ideal) (w : Work (List Entry)) : Type 0 where
      works : AtWork given t since w
      order : NodeInOrder w.engine
      told : Told w.effects w.engine

    module _ (node : t.id < 18446744073709551616) (since : Ideal) where
      items_go : (w : Work (List Entry)) (e : EngineView) (cs : List WorldCommand) → e.machine.core.output.items ≡ cs → AtWork given t since (record w { engine = Some e }) → InOrder e.machine → Told w.effects (Some e)
          → AtWork given t since (step_of whole_logs t (record w { engine = Some e }) e (popped (record e.machine.core.output { items = cs })))
          → Going since (step_of whole_logs t (record w { engine = Some e }) e (popped (record e.machine.core.output { items = cs })))
      items_go w e [] is h order k v = record { works = v; order = order; told = k }
      items_go w e (c ∷ cs) is h order k v = go (stops w.left) v
        where
          f : EngineView
          f = with_queue e (record e.machine.core.output { items = cs })

          after : Effects (List Entry)
          after = exec whole_logs t f c w.effects

          popped_order : InOrder f.machine
          popped_order = own_popped e.machine.leader c cs (subst (SendsOwn e.machine.leader) is order)

          go : (b : Bool) → AtWork given t since (if b then stopped after else record { engine = Some (feed t.moment c f); effects = after; left = one_less w.left })
              → Going since (if b then stopped after else record { engine = Some (feed t.moment c f); effects = after; left = one_less w.left })
          go true v = record { works = v; order = tt; told = done_told since w e c cs is h order k true v }
          go false v = record { works = v; order = fed_own t.moment (feed_of c) f h.engine.carried.knows.alone popped_order; told = done_told since w e c cs is h order k false v }

      step_go : (w : Work (List Entry)) → Going since w → Going since (work_step whole_logs t w)
      step_go w g = go w.engine g.works g.order g.told (step_works given.membership (Settled (setup_of given.membership)) t (all_laws given.membership) node since w g.works)
        where
          go : (o : Option EngineView) → AtWork given t since (record w { engine = o }) → NodeInOrder o → Told w.effects o
              → AtWork given t since (elim o as (λ x. Work (List Entry)) [ None ↦ record w { engine = o } | Some e ↦ step_of whole_logs t (record w { engine = o }) e (popped e.machine.core.output) ])
              → Going since (elim o as (λ x. Work (List Entry)) [ None ↦ record w { engine = o } | Some e ↦ step_of whole_logs t (record w { engine = o }) e (popped e.machine.core.output) ])
          go None h i k v = record { works = v; order = i; told = k }
          go (Some e) h i k v = items_go w e e.machine.core.output.items refl h i k v

      pub worked_told : (fuel : ℕ) (w : Work (List Entry)) → AtWork given t since w → NodeInOrder w.engine → Told w.effects w.engine → AllByRecursion (Fresh (worked whole_logs fuel t w).effects.store) (worked whole_logs fuel t w).effects.records.bag
      worked_told fuel w h i k =
          let g : Going since (worked whole_logs fuel t w) = worked-keeps whole_logs t (Going since) fuel (λ x busy p. step_go x p) w (record { works = h; order = i; told = k }) in
          told_fresh (worked whole_logs fuel t w).effects (worked whole_logs fuel t w).engine g.told

-- An event

each_there : {X : Type 0} (xs : List X) → AllByRecursion (Contains xs) xs
each_there xs = recursion_from_All (Contains xs) xs (All-contains_itself xs)

module _ (given : Given) where
  -- each message of a bag was there before, or its sender's log ends as it says
  abbrev pub FreshAt : List Message → Scene (List Entry) → Type 0
  FreshAt old s = AllByRecursion (λ (m : Message). Contains old m ⊎ UpTo (end_leader (whole s.node.store)) m.body) s.records.bag

  finish_told : (t : Turn) (stop refusal : Option ℕ) (W : Ideal) (s : Scene (List Entry)) → t.id < 18446744073709551616 → AtWork given t W (work_of stop s) → NodeInOrder s.node.engine → FreshAt s.records.bag (finish whole_logs weight t stop refusal s).1
  unfolding finish
  finish_told t stop refusal W s node h i =
      worked_told given t s.records.bag node W (weight (work_of stop s)) (work_of stop s) h i (inl (each_on (Contains s.records.bag) (Still given t s.records.bag) (λ m c. inl c) s.records.bag (each_there s.records.bag)))

  module _ (W : Ideal) (r : Reached (setup_of given.membership) W) where
    -- at a node
    pub played_told : (act : Act) (event : Event) (s : Scene (List Entry)) → ActFits given.membership W s.node.id act → NodeFollows (setup_of given.membership) W s.records s.node → RecordsFit (setup_of given.membership) W s.records
        → ExtraAt given (Settled (setup_of given.membership)) W s.node → Rested s.node → NodeInOrder s.node.engine → FreshAt s.records.bag (played whole_logs weight given act event s).1
    unfolding played
    played_told act event s told h f a rest order = go (skip_reason act s.node) refl
      where
        now : Scene (List Entry)
        now = called_at (moment_of event s.node) s

        go : (o : Option SkipReason) → skip_reason act s.node ≡ o → FreshAt s.records.bag
            (scene_after {L = List Entry} (elim o as (λ _. Outcome × Scene (List Entry)) [
              | Some reason ↦ (Skipped reason, s)
              | None ↦ finish whole_logs weight (turn_of act now.node) event.stop (calls given act now).0 (calls given act now).1
            ]))
        go (Some reason) is = each_on (Contains s.records.bag) _ (λ m c. inl c) s.records.bag (each_there s.records.bag)
        go None is =
            let moved : NodeFollows (setup_of given.membership) W s.records now.node = moved_follows (setup_of given.membership) W s.records s.node (moment_of event s.node) h in
            let answer : Option Answer = answer_at act (calls_at given act now.node).1 in
            let fits : RecordsFit (setup_of given.membership) W (with_answer answer s.records) = answered_fits (setup_of given.membership) W s.records f answer (answer_known given W s.records act now.node moved) in
            let w : AtWork given (turn_of act now.node) W (work_of event.stop (calls given act now).1) =
            calls_work given (Settled (setup_of given.membership)) (all_laws given.membership) W r (with_answer answer s.records) fits act event.stop now.node (skip_moved act s.node (moment_of event s.node) ∙ is) told (answered_follows (setup_of given.membership) W s.records now.node answer moved) a in
            finish_told (turn_of act now.node) event.stop (calls given act now).0 W (calls given act now).1 h.node w
            (calls_own given act now.node rest (skip_moved act s.node (moment_of event s.node) ∙ is) order)

-- In a world

-- each running engine's queue is in order: so it is after each event
abbrev pub Ordered : ℕ → WorldStore → Option EngineView → Type 0
Ordered id u o = NodeInOrder o

module _ (given : Given) (wf : IsWellFormed given) where
  pub rested : (past : List Event) (n : NodeView) → Contains (world_after given past).nodes n → Rested n
  rested past n there e is =
      let f : NodeFollows (setup_of given.membership) (followed given wf past).world (world_after given past).records n =
      one_of (NodeFollows (setup_of given.membership) (followed given wf past).world (world_after given past).records) (world_after given past).nodes n (followed given wf past).follows.nodes there in
      (subst (λ o. IfSome o (EngineFollows (setup_of given.membership) n (followed given wf past).world)) is f.engine).queue

  -- a leader's log ends with an entry of its own
  pub all_ordered : (past : List Event) → AllHold given Ordered (world_after given past)
  all_ordered past =
      run_holds given Ordered commands wf (λ _. Unit {0})
      (λ done event d v n aim there aimed own skip h now since rs w. calls_own given aim.act (record n { moment = now }) (λ e is. rested done n there e is) (skip_moved aim.act n now ∙ skip) h)
      (λ id. tt) past (each past)
    where
      each : (es : List Event) → AllByRecursion (λ _. Unit {0}) es
      each [] = tt
      each (e ∷ es) = (tt, each es)

      commands : Rattle.proof_progress.proofs.Throughout.CommandsKeep given Ordered
      commands t since w h after k = go w.engine h k
        where
          by : (e : EngineView) (cs : List WorldCommand) → e.machine.core.output.items ≡ cs → AtWork given t since (record w { engine = Some e }) → InOrder e.machine
              → NodeInOrder (step_of whole_logs t (record w { engine = Some e }) e (popped (record e.machine.core.output { items = cs }))).engine
          by e [] is h k = k
          by e (c ∷ cs) is h k = of (stops w.left)
            where
              f : EngineView
              f = with_queue e (record e.machine.core.output { items = cs })

              of : (b : Bool) → NodeInOrder (let x : Work (List Entry) = (if b then stopped (exec whole_logs t f c w.effects) else record { engine = Some (feed t.moment c f); effects = exec whole_logs t f c w.effects; left = one_less w.left }) in x.engine)
              of true = tt
              of false = fed_own t.moment (feed_of c) f h.engine.carried.knows.alone (own_popped e.machine.leader c cs (subst (SendsOwn e.machine.leader) is k))

          go : (o : Option EngineView) → AtWork given t since (record w { engine = o }) → NodeInOrder o
              → NodeInOrder (let x : Work (List Entry) = (elim o as (λ x. Work (List Entry)) [ None ↦ record w { engine = o } | Some e ↦ step_of whole_logs t (record w { engine = o }) e (popped e.machine.core.output) ]) in x.engine)
          go None h k = tt
          go (Some e) h k = by e e.machine.core.output.items refl h k
