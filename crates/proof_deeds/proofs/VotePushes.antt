-- The commands of votes and roles, done by deeds.
use Rattle.std.proofs.Common.{ℕ, ◌<◌, ◌≤◌, ◌≡◌, ◌≢◌, ◌⊎◌, inl, arith, Bool, true, false, not, cond, List, [], ◌∷◌, ◌++◌, length, map, refl, sym, ap, ap₂, ◌∙◌, subst, true≢false, Option, None, Some}
use Rattle.std.specs.Prelude.{IfSome, nat_eq, filter}
use Rattle.std.specs.List.{AllByRecursion}
use Rattle.std.specs.Option.{option_map, option_to_list}
use Rattle.std.specs.Ordering.{nat_cmp}
use Rattle.std.proofs.lemmas.Bool.{eq-eqb}
use Rattle.raft_node.specs.raft_state.declared.ids.LeaderId.{LeaderId}
use Rattle.raft_node.specs.raft_state.declared.ids.Vote.{Vote}
use Rattle.raft_node.specs.raft_state.Members.{voter_ids, learner_ids}
use Rattle.raft_node.specs.raft_state.Order.{next}
use Rattle.raft_node.specs.raft_progress_entry.declared.entry.ProgressEntry.{ProgressEntry}
use Rattle.raft_node.specs.raft_command.declared.command.Command.TheVariants as command
use Rattle.raft_node.specs.raft_command.declared.command.Condition.{Condition}
use Rattle.raft_node.specs.raft_command.declared.message.VoteRequest.{VoteRequest}
use Rattle.raft_node.specs.raft_command.declared.message.VoteResponse.{VoteResponse}
use Rattle.raft_node.specs.raft_command.declared.replication.ReplicationSessionId.{ReplicationSessionId}
use Rattle.raft_node.specs.raft_command.declared.respond.Respond.TheVariants as respond
use Rattle.raft_node.specs.raft_command.Sender.{Sender}
use Rattle.proof_agreement.specs.Machine.{Setup}
use Rattle.proof_agreement.specs.Stores.{Append, Session, VoteRequest as AskVote, VoteGranted, AppendRequest, SnapshotRequest, EstablishedLeader, no_session, whole, last_leader_of}
use Rattle.proof_agreement.specs.Deeds.{SaveVote, Win, FollowByAppend, FollowBySnapshot, RequestVotes, AnswerVote, BuildStreams, EndStreams, RecordEstablished, Leads, IsCandidate, MayWin, MayTakeVote, MayAnswerVote, MayDo, last_membership_of, put, does}
use Rattle.raft_node.specs.raft_store.declared.entry.Entry.{Entry}
use Rattle.raft_node.specs.raft_store.Store as store
use Rattle.raft_node.specs.raft_store.Types.{WorldStore, WorldCommand, WorldLeader, EngineView}
use Rattle.raft_node.specs.declared.node.Streams.{Streams}
use Rattle.raft_node.specs.declared.node.Turn.{Turn}
use Rattle.raft_node.specs.raft_calls.declared.message.Body.{Body}
use Rattle.raft_node.specs.raft_calls.declared.message.Body.TheVariants as body
use Rattle.raft_node.specs.raft_calls.declared.message.Message.{Message}
use Rattle.raft_node.specs.raft_calls.Engines.{WorldRespond}
use Rattle.raft_node.specs.Execute.{Effects, exec, others, to_each, sending, replies, reply_to}
use Rattle.raft_node.specs.raft_calls.Deliveries.{session_of}
use Rattle.raft_node.specs.Net.{no_streams}
use Rattle.raft_node.specs.Runs.{whole_logs}
use Rattle.proof_deeds.specs.Chains.{AcceptsAcknowledged, Commits, IsClaimed, LeaderFor, SavesClaimed, doer, Reads, replies_by, stored, Done}
use Rattle.proof_deeds.specs.Follows.{VoteTold, StoreIs, BodyIs, MessageIs, EstablishedIs, RestIs, StreamsAre}
use Rattle.proof_deeds.specs.Images.{Ideal, IdealStore, IdealEntry, IdealDeed, IsNamed, IdNamed, number, last_number, images}
use Rattle.proof_deeds.proofs.Worlds.{Within, ended_store, told_on, within_self, within_put, within_does, at_put, each_more, if_some, records_on, rest_on, same_store}

-- who is not the node itself
others_are : (n : ℕ) (ids : List ℕ) → AllByRecursion (λ to. to ≢ n) (filter (λ to. not (nat_eq to n)) ids)
others_are n [] = tt
others_are n (x ∷ xs) = go (nat_eq x n) refl (others_are n xs) where
  go : (b : Bool) → nat_eq x n ≡ b → AllByRecursion (λ to. to ≢ n) (filter (λ to. not (nat_eq to n)) xs) → AllByRecursion (λ to. to ≢ n) (cond (not b) (x ∷ filter (λ to. not (nat_eq to n)) xs) (filter (λ to. not (nat_eq to n)) xs))
  go true e a = a
  go false e a = ((λ q. true≢false (sym (eq-eqb x n q) ∙ e)), a)

module _ (s : Setup Entry) (t : Turn) (v : LeaderId ℕ) where
  -- a command that leaves the store, and all else
  pub done_nothing : (u : WorldStore) (c : WorldCommand) (W : Ideal) → StoreIs s u (W.store t.id) → stored c u ≡ u → Commits s W W t.id c
      → ((w : Effects (List Entry)) (e : EngineView) → w.store ≡ u → RestIs s t.id w W → Reads v e → RestIs s t.id (exec whole_logs t e c w) W) → Done s t v u c W W
  done_nothing u c W h e g f = record { deeds = []; by = tt; allowed = tt; claimed = tt; answered = tt; commits = g; result = refl; store = subst (λ w. StoreIs s w (W.store t.id)) (sym e) h; rest = λ w g q k r _. f w g q k r }

  pub rest_put : (u : Effects (List Entry)) (W : Ideal) (S : IdealStore) → S.session ≡ (W.store t.id).session → S.noted ≡ (W.store t.id).noted → (W.store t.id).vote ≤ S.vote → RestIs s t.id u W → RestIs s t.id u (put W t.id S)
  rest_put u W S e f l h = rest_on s W (put W t.id S) (within_put W t.id S l) t.id u (ap (λ x. x.session) (at_put W t.id S) ∙ e) (ap (λ x. x.noted) (at_put W t.id S) ∙ f) h

  pub store_voted : (u : WorldStore) (w : Vote ℕ) (S : IdealStore) → IsNamed w.leader_id → StoreIs s u S → StoreIs s (record u { vote = w }) (record S { vote = number w.leader_id; vote_committed = w.committed })
  store_voted u w S n h = record {
    vote = refl;
    vote_committed = refl;
    front = h.front;
    entries = h.entries;
    snapshot = h.snapshot;
    saved = h.saved;
    saved_leader = h.saved_leader;
    applied = h.applied;
    front_is = h.front_is;
    vote_named = n;
    saved_named = h.saved_named;
    entries_fit = h.entries_fit;
    snapshot_fit = h.snapshot_fit;
  }

  -- a vote that isn't committed
  pub done_save : (u : WorldStore) (w : Vote ℕ) (W : Ideal) → StoreIs s u (W.store t.id) → IsNamed w.leader_id → w.committed ≡ false → (W.store t.id).vote < number w.leader_id → (s.owner (number w.leader_id) ≡ t.id) ⊎ IsClaimed s W (number w.leader_id)
      → Done s t v u (command.SaveVote w) W (put W t.id (record (W.store t.id) { vote = number w.leader_id; vote_committed = false }))
  done_save u w W h n c l o =
      let S : IdealStore = record (W.store t.id) { vote = number w.leader_id; vote_committed = false } in
      record {
        deeds = SaveVote t.id (number w.leader_id) ∷ [];
        by = (refl, tt);
        allowed = (l, tt);
        claimed = (o, tt);
        answered = (tt, tt);
        commits = refl;
        result = refl;
        store = subst (StoreIs s (record u { vote = w })) (sym (at_put W t.id S)) (subst (λ b. StoreIs s (record u { vote = w }) (record (W.store t.id) { vote = number w.leader_id; vote_committed = b })) c (store_voted u w (W.store t.id) n h));
        rest = λ x e q k r _. let z : RestIs s t.id x (put W t.id S) = rest_put x W S refl refl (omega (arith, l)) k in record { session = z.session; targets = z.targets; noted = z.noted; records = z.records };
      }

  -- the store that is put is the ideal one, and session and note stay
  pub put_done : (u : WorldStore) (c : WorldCommand) (W : Ideal) (S : IdealStore) (d : IdealDeed) → doer d ≡ t.id → MayDo s W d → SavesClaimed s W d → AcceptsAcknowledged s (replies_by t c) d → Commits s W (put W t.id S) t.id c → does s W d ≡ put W t.id S → StoreIs s (stored c u) S
      → S.session ≡ (W.store t.id).session → S.noted ≡ (W.store t.id).noted → (W.store t.id).vote ≤ S.vote
      → ((w : Effects (List Entry)) (e : EngineView) → w.store ≡ u → RestIs s t.id w (put W t.id S) → RestIs s t.id (exec whole_logs t e c w) (put W t.id S)) → Done s t v u c W (put W t.id S)
  put_done u c W S d b m o z g q h e f l k = record {
    deeds = d ∷ [];
    by = (b, tt);
    allowed = (m, tt);
    claimed = (o, tt);
    answered = (z, tt);
    commits = g;
    result = q;
    store = subst (StoreIs s (stored c u)) (sym (at_put W t.id S)) h;
    rest = λ w g p r _ _. k w g p (rest_put w W S e f l r);
  }

  pub same_rest : (w : Effects (List Entry)) (x : WorldStore) (W : Ideal) → RestIs s t.id w W → RestIs s t.id (record w { store = x }) W
  same_rest w x W z = record { session = z.session; targets = z.targets; noted = z.noted; records = z.records }

  -- a candidate's own committed vote
  pub done_win : (u : WorldStore) (w : Vote ℕ) (q : ℕ → Bool) (W : Ideal) → StoreIs s u (W.store t.id) → IsNamed w.leader_id → w.committed ≡ true → (W.store t.id).vote ≡ number w.leader_id → MayWin s W t.id q → Done s t v u (command.SaveVote w) W (put W t.id (record (W.store t.id) { vote_committed = true }))
  done_win u w q W h n c e m =
      let S : IdealStore = record (W.store t.id) { vote_committed = true } in
      let k : StoreIs s (record u { vote = w }) (record (W.store t.id) { vote = number w.leader_id; vote_committed = w.committed }) = store_voted u w (W.store t.id) n h in
      put_done u (command.SaveVote w) W S (Win t.id q) refl m tt tt refl refl
      (record { vote = e; vote_committed = sym c; front = k.front; entries = k.entries; snapshot = k.snapshot; saved = k.saved; saved_leader = k.saved_leader; applied = k.applied; front_is = k.front_is; vote_named = n; saved_named = k.saved_named; entries_fit = k.entries_fit; snapshot_fit = k.snapshot_fit })
      refl refl (omega arith) (λ x g o z. same_rest x (stored (command.SaveVote w) x.store) (put W t.id S) z)

  -- another leader's committed vote, with an append request of it, and with a snapshot
  pub done_follow : (u : WorldStore) (w : Vote ℕ) (r : Append Entry) (W : Ideal) → StoreIs s u (W.store t.id) → IsNamed w.leader_id → w.committed ≡ true → r.session.leader ≡ number w.leader_id → MayTakeVote s W t.id r.session.leader (AppendRequest r) → Done s t v u (command.SaveVote w) W (put W t.id (record (W.store t.id) { vote = r.session.leader; vote_committed = true }))
  done_follow u w r W h n c e m =
      let S : IdealStore = record (W.store t.id) { vote = r.session.leader; vote_committed = true } in
      let k : StoreIs s (record u { vote = w }) (record (W.store t.id) { vote = number w.leader_id; vote_committed = w.committed }) = store_voted u w (W.store t.id) n h in
      put_done u (command.SaveVote w) W S (FollowByAppend t.id r) refl m tt tt refl refl
      (record { vote = e; vote_committed = sym c; front = k.front; entries = k.entries; snapshot = k.snapshot; saved = k.saved; saved_leader = k.saved_leader; applied = k.applied; front_is = k.front_is; vote_named = n; saved_named = k.saved_named; entries_fit = k.entries_fit; snapshot_fit = k.snapshot_fit })
      refl refl m.not_lower (λ x g o z. same_rest x (stored (command.SaveVote w) x.store) (put W t.id S) z)

  pub done_follow_snapshot : (u : WorldStore) (w : Vote ℕ) (q : Session) (es : List IdealEntry) (W : Ideal) → StoreIs s u (W.store t.id) → IsNamed w.leader_id → w.committed ≡ true → q.leader ≡ number w.leader_id → MayTakeVote s W t.id q.leader (SnapshotRequest q es)
      → Done s t v u (command.SaveVote w) W (put W t.id (record (W.store t.id) { vote = q.leader; vote_committed = true }))
  done_follow_snapshot u w q es W h n c e m =
      let S : IdealStore = record (W.store t.id) { vote = q.leader; vote_committed = true } in
      let k : StoreIs s (record u { vote = w }) (record (W.store t.id) { vote = number w.leader_id; vote_committed = w.committed }) = store_voted u w (W.store t.id) n h in
      put_done u (command.SaveVote w) W S (FollowBySnapshot t.id q es) refl m tt tt refl refl
      (record { vote = e; vote_committed = sym c; front = k.front; entries = k.entries; snapshot = k.snapshot; saved = k.saved; saved_leader = k.saved_leader; applied = k.applied; front_is = k.front_is; vote_named = n; saved_named = k.saved_named; entries_fit = k.entries_fit; snapshot_fit = k.snapshot_fit })
      refl refl m.not_lower (λ x g o z. same_rest x (stored (command.SaveVote w) x.store) (put W t.id S) z)

  -- a message more in the ideal world, and some in the bag
  pub said_rest : (W V : Ideal) (ms : List Message) (w : Effects (List Entry)) → Within W V → V.store t.id ≡ W.store t.id → RestIs s t.id w W → AllByRecursion (MessageIs s V) ms → RestIs s t.id (sending ms w) V
  said_rest W V ms w a e h k =
      let z : RestIs s t.id w V = rest_on s W V a t.id w (ap (λ x. x.session) e) (ap (λ x. x.noted) e) h in
      record {
        session = z.session;
        targets = z.targets;
        noted = z.noted;
        records = record { bag = each_more (MessageIs s V) w.records.bag ms z.records.bag k; executed = z.records.executed; installed = z.records.installed; decided = z.records.decided; established = z.records.established };
      }

  -- one message to each of some others
  pub to_each_is : (ids : List ℕ) (b : Body) (P : ℕ → Type 0) (V : Ideal) → AllByRecursion P ids → ((to : ℕ) → P to → BodyIs s t.id to b V) → AllByRecursion (MessageIs s V) (to_each t.id ids b)
  to_each_is [] b P V a f = tt
  to_each_is (x ∷ xs) b P V a f = (f x a.0, to_each_is xs b P V a.1 f)

  pub replies_is : (r : WorldRespond) (m : Message) (b : Body) → t.request ≡ Some m → m.body ≡ b → replies t r ≡ map (λ c. let z : Message = record { from = t.id; to = m.from; body = c } in z) (option_to_list (reply_to b r))
  replies_is r m b q e = ap (λ o. elim o as (λ _. List Message) [ None ↦ [] | Some m ↦ map (λ c. let z : Message = record { from = t.id; to = m.from; body = c } in z) (option_to_list (reply_to m.body r)) ]) q ∙ ap (λ c. map (λ c. let z : Message = record { from = t.id; to = m.from; body = c } in z) (option_to_list (reply_to c r))) e

  -- a candidate asks for votes
  pub done_ask : (u : WorldStore) (req : VoteRequest ℕ) (W : Ideal) → StoreIs s u (W.store t.id) → IsCandidate s (W.store t.id) t.id → req.vote.committed ≡ false → IsNamed req.vote.leader_id → IdNamed req.last_log_id
      → req.vote.leader_id.node_id ≡ t.id → (W.store t.id).vote ≡ number req.vote.leader_id → last_leader_of s (whole (W.store t.id)) ≡ last_number req.last_log_id → length (whole (W.store t.id)) ≡ next req.last_log_id → Done s t v u (command.SendVote req) W (does s W (RequestVotes t.id))
  done_ask u req W h m c n l own e a b =
      let V : Ideal = does s W (RequestVotes t.id) in
      record {
        deeds = RequestVotes t.id ∷ [];
        by = (refl, tt);
        allowed = (m, tt);
        claimed = (tt, tt);
        answered = (tt, tt);
        commits = refl;
        result = refl;
        store = h;
        rest = λ w g o r _ _.
            said_rest W V (to_each t.id (others t.id g.machine.core.state.em.membership) (body.VoteRequest req)) w (within_does s W (RequestVotes t.id) tt) refl r
            (to_each_is (others t.id g.machine.core.state.em.membership) (body.VoteRequest req) (λ to. to ≢ t.id) V (others_are t.id (voter_ids nat_cmp g.machine.core.state.em.membership ++ learner_ids nat_cmp g.machine.core.state.em.membership))
            (λ to k. record {
              pending = c;
              named = n;
              last_named = l;
              away = λ q. k (sym q ∙ own);
              sent = inl (ap (λ d. AskVote d (last_leader_of s (whole (W.store t.id))) (length (whole (W.store t.id)))) e ∙ (ap (λ x. AskVote (number req.vote.leader_id) x (length (whole (W.store t.id)))) a ∙ ap (AskVote (number req.vote.leader_id) (last_number req.last_log_id)) b));
            }));
      }

  -- a granted vote is answered, and a refused one
  pub done_answer : (u : WorldStore) (when : Option (Condition ℕ)) (sender : Sender (VoteResponse ℕ)) (m : Message) (req : VoteRequest ℕ) (last len : ℕ) (W : Ideal) → StoreIs s u (W.store t.id) → t.request ≡ Some m → m.body ≡ body.VoteRequest req
      → VoteTold sender.value.vote W → (W.store t.id).vote ≡ number sender.value.vote.leader_id → MayAnswerVote s W t.id last len → Done s t v u (command.Respond when (respond.Vote sender)) W (does s W (AnswerVote t.id last len))
  done_answer u when sender m req last len W h q b n e k =
      let V : Ideal = does s W (AnswerVote t.id last len) in
      record {
        deeds = AnswerVote t.id last len ∷ [];
        by = (refl, tt);
        allowed = (k, tt);
        claimed = (tt, tt);
        answered = (tt, tt);
        commits = refl;
        result = refl;
        store = h;
        rest = λ w g o r _ _.
            subst (λ ms. RestIs s t.id (sending ms w) V) (sym (replies_is (respond.Vote sender) m (body.VoteRequest req) q b))
            (said_rest W V (record { from = t.id; to = m.from; body = body.VoteReply sender.value } ∷ []) w (within_does s W (AnswerVote t.id last len) tt) refl r
            (record { told = told_on s W V (within_does s W (AnswerVote t.id last len) tt) sender.value.vote n; granted = λ _. inl (ap (VoteGranted t.id) e) }, tt));
      }

  pub done_refuse : (u : WorldStore) (when : Option (Condition ℕ)) (sender : Sender (VoteResponse ℕ)) (m : Message) (req : VoteRequest ℕ) (W : Ideal) → StoreIs s u (W.store t.id) → t.request ≡ Some m → m.body ≡ body.VoteRequest req
      → VoteTold sender.value.vote W → sender.value.vote_granted ≡ false → Done s t v u (command.Respond when (respond.Vote sender)) W W
  done_refuse u when sender m req W h q b n e =
      done_nothing u (command.Respond when (respond.Vote sender)) W h refl refl
      (λ w g o r _.
      subst (λ ms. RestIs s t.id (sending ms w) W) (sym (replies_is (respond.Vote sender) m (body.VoteRequest req) q b))
      (said_rest W W (record { from = t.id; to = m.from; body = body.VoteReply sender.value } ∷ []) w (within_self W) refl r (record { told = n; granted = λ p. absurd (true≢false (sym p ∙ e)) }, tt)))

  -- streams change with the ideal session, and nothing else does
  pub restreamed : (w : Effects (List Entry)) (x : Streams) (q : Session) (W : Ideal) → RestIs s t.id w W → StreamsAre t.id x.session_id (record (W.store t.id) { session = q }) → AllByRecursion (λ i. i ≢ t.id) x.targets
      → RestIs s t.id (record w { streams = x }) (put W t.id (record (W.store t.id) { session = q }))
  restreamed w x q W r a b =
      let S : IdealStore = record (W.store t.id) { session = q } in
      record {
        session = subst (StreamsAre t.id x.session_id) (sym (at_put W t.id S)) a;
        targets = b;
        noted = if_some (λ es. (W.store t.id).noted ≡ images es) (λ es. ((put W t.id S).store t.id).noted ≡ images es) (λ es p. ap (λ z. z.noted) (at_put W t.id S) ∙ p) w.noted r.noted;
        records = records_on s W (put W t.id S) (within_put W t.id S (omega arith)) w.records r.records;
      }

  -- a leader quits: its streams end
  pub done_quit : (u : WorldStore) (W : Ideal) → StoreIs s u (W.store t.id) → Done s t v u command.QuitLeader W (does s W (EndStreams t.id))
  done_quit u W h =
      record {
        deeds = EndStreams t.id ∷ [];
        by = (refl, tt);
        allowed = (tt, tt);
        claimed = (tt, tt);
        answered = (tt, tt);
        commits = refl;
        result = refl;
        store = ended_store s u W t.id h;
        rest = λ w g o r _ _. restreamed w no_streams no_session W r refl tt;
      }

  -- streams are built, by a leader of this leader id
  pub done_rebuild : (u : WorldStore) (targets : List (ℕ × ProgressEntry ℕ)) (W : Ideal) → StoreIs s u (W.store t.id) → (W.store t.id).vote ≡ number v → v.node_id ≡ t.id → IsNamed v → AllByRecursion (λ x. x.0 ≢ t.id) targets
      → Done s t v u (command.RebuildReplicationStreams targets) W (does s W (BuildStreams t.id))
  done_rebuild u targets W h e own n a =
      let S : IdealStore = record (W.store t.id) { session = record { leader = (W.store t.id).vote; membership = last_membership_of s (whole (W.store t.id)) } } in
      record {
        deeds = BuildStreams t.id ∷ [];
        by = (refl, tt);
        allowed = (tt, tt);
        claimed = (tt, tt);
        answered = (tt, tt);
        commits = refl;
        result = refl;
        store = subst (StoreIs s u) (sym (at_put W t.id S)) (same_store s u (W.store t.id) S h refl refl refl refl refl refl refl refl);
        rest = λ w g o r k l. restreamed w (record { targets = map (λ x. x.0) targets; session_id = session_of g }) S.session W r (streams g k l) (all_first targets a);
      }
    where
      streams : (g : EngineView) → Reads v g → LeaderFor (command.RebuildReplicationStreams targets) g → StreamsAre t.id (session_of g) (record (W.store t.id) { session = record { leader = (W.store t.id).vote; membership = last_membership_of s (whole (W.store t.id)) } })
      streams g k l = of g.machine.leader k.leader l.1 where
        of : (o : Option WorldLeader) → IfSome o (λ l. (l.vote.leader_id ≡ v) × (l.vote.committed ≡ true)) → o ≡ Some l.0
            → StreamsAre t.id (option_map (λ l. let q : ReplicationSessionId ℕ = record { vote = l.vote; membership_log_id = g.machine.core.state.em.log_id } in q) o) (record (W.store t.id) { session = record { leader = (W.store t.id).vote; membership = last_membership_of s (whole (W.store t.id)) } })
        of None k q = cc
        of (Some l) k q = record { leader = e ∙ ap number (sym k.0); committed = k.1; own = ap (λ x. x.node_id) k.0 ∙ own; named = subst IsNamed (sym k.0) n }

      all_first : (xs : List (ℕ × ProgressEntry ℕ)) → AllByRecursion (λ x. x.0 ≢ t.id) xs → AllByRecursion (λ x. x ≢ t.id) (map (λ x. x.0) xs)
      all_first [] a = tt
      all_first (x ∷ xs) a = (a.0, all_first xs a.1)

  -- a leader is established
  pub done_lead : (u : WorldStore) (W : Ideal) → StoreIs s u (W.store t.id) → (W.store t.id).vote ≡ number v → Leads s (W.store t.id) t.id → whole (W.store t.id) ≡ images (store.whole u) → Done s t v u command.BecomeLeader W (does s W (RecordEstablished t.id))
  done_lead u W h e m a =
      let V : Ideal = does s W (RecordEstablished t.id) in
      record {
        deeds = RecordEstablished t.id ∷ [];
        by = (refl, tt);
        allowed = (m, tt);
        claimed = (tt, tt);
        answered = (tt, tt);
        commits = refl;
        result = refl;
        store = h;
        rest = λ w g o r k _.
            let z : RestIs s t.id w V = rest_on s W V (within_does s W (RecordEstablished t.id) tt) t.id w refl refl r in
            record {
              session = z.session;
              targets = z.targets;
              noted = z.noted;
              records = record {
                bag = z.records.bag;
                executed = z.records.executed;
                installed = z.records.installed;
                decided = z.records.decided;
                established = each_more (EstablishedIs V) w.records.established _ z.records.established
                    (inl (ap₂ (λ d es. let x : EstablishedLeader Entry = record { leader = d; entries = es } in x) (e ∙ ap number (sym k.vote)) (a ∙ ap (λ (x : WorldStore). images (store.whole x)) (sym o))), tt);
              };
            };
      }
