-- Ideal worlds that grow by deeds: what stays, and what follows the world stays followed.
use Rattle.std.proofs.Common.{ℕ, ◌≤◌, ◌≡◌, ◌≢◌, arith, inr, suc, List, [], ◌∷◌, ◌++◌, map, refl, sym, ap, ◌∙◌, subst, Option, None, Some}
use Rattle.std.specs.Prelude.{IfSome}
use Rattle.std.specs.List.{AllByRecursion}
use Rattle.proof_agreement.specs.Machine.{Includes, Setup, start}
use Rattle.proof_agreement.specs.Stores.{Message, Store, Stores, no_session, ExecutedCommit, InstalledSnapshot, DecidedCommit, EstablishedLeader}
use Rattle.proof_agreement.specs.Deeds.{Deed, SaveVote, Win, FollowByAppend, FollowBySnapshot, RequestVotes, AnswerVote, Initialize, LeaderAppend, FollowerAppend, TruncateConflict, TruncateForSnapshot, Purge, BuildStreams, EndStreams, RecordEstablished, SendAppend, SendSnapshot, AcceptAppend, AcceptSnapshot, CommitByQuorum, FollowerCommit, LeaderCommit, Apply, InstallSnapshot, Note, BuildSnapshot, DropNote, ForgetSaved, Restart, RestartSaved, HasAccepted, MayDo, AllMayDo, put, does, run_all}
use Rattle.proof_agreement.proofs.Logs.{updated_all, updated_same, updated_other}
use Rattle.proof_agreement.proofs.StoresTheorems.{run_all-append, all_join}
use Rattle.raft_node.specs.raft_state.declared.ids.LeaderId.{LeaderId}
use Rattle.raft_node.specs.raft_state.declared.ids.LogId.{LogId}
use Rattle.raft_node.specs.raft_state.declared.ids.Vote.{Vote}
use Rattle.raft_node.specs.raft_command.declared.replication.ReplicationSessionId.{ReplicationSessionId}
use Rattle.raft_node.specs.raft_store.declared.entry.Entry.{Entry}
use Rattle.raft_node.specs.raft_store.Types.{WorldCommand, WorldStore}
use Rattle.raft_node.specs.raft_calls.declared.message.Body.{Body}
use Rattle.raft_node.specs.declared.node.Turn.{Turn}
use Rattle.raft_node.specs.raft_calls.declared.message.Body.TheVariants as body
use Rattle.raft_node.specs.Net.{Records, no_streams}
use Rattle.raft_node.specs.Execute.{Effects, effects}
use Rattle.proof_agreement.proofs.StoresFollow.{StoresFollow}
use Rattle.proof_agreement.proofs.StoresTheorems as theorems
use Rattle.proof_deeds.specs.Chains.{doer, AllClaimed, Does, Done, Reached, SavesClaimed}
use Rattle.proof_deeds.specs.Follows.{AcceptedId, AcceptedUpTo, VoteTold, BodyIs, MessageIs, ExecutedIs, InstalledIs, DecidedIs, EstablishedIs, FrontIs, RecordsAre, RestIs, StoreIs, StreamsAre}
use Rattle.proof_deeds.specs.Images.{Ideal, IdealStore, number}

module _ {A : Type 0} where
  -- all that was said and recorded in one world was so in another, and no vote is lower there
  pub record Within (W V : Stores A) : Type 0 where
    pub messages : (m : Message A) → Includes W.messages m → Includes V.messages m
    pub executed : (x : ExecutedCommit A) → Includes W.executed x → Includes V.executed x
    pub installed : (x : InstalledSnapshot A) → Includes W.installed x → Includes V.installed x
    pub decided : (x : DecidedCommit A) → Includes W.decided x → Includes V.decided x
    pub established : (x : EstablishedLeader A) → Includes W.established x → Includes V.established x
    pub votes : (n : ℕ) → (W.store n).vote ≤ (V.store n).vote

  pub within_self : (W : Stores A) → Within W W
  within_self W = record { messages = λ m h. h; executed = λ x h. h; installed = λ x h. h; decided = λ x h. h; established = λ x h. h; votes = λ n. omega arith }

  pub within_then : (U V W : Stores A) → Within U V → Within V W → Within U W
  within_then U V W a b = record {
    messages = λ m h. b.messages m (a.messages m h);
    executed = λ x h. b.executed x (a.executed x h);
    installed = λ x h. b.installed x (a.installed x h);
    decided = λ x h. b.decided x (a.decided x h);
    established = λ x h. b.established x (a.established x h);
    votes = λ n. omega (arith, a.votes n, b.votes n);
  }

  votes_put : (W : Stores A) (n : ℕ) (S : Store A) → (W.store n).vote ≤ S.vote → (m : ℕ) → (W.store m).vote ≤ ((put W n S).store m).vote
  votes_put W n S h = updated_all (λ m T. (W.store m).vote ≤ T.vote) W.store n S h (λ m _. omega arith)

  -- only a store changes
  pub within_put : (W : Stores A) (n : ℕ) (S : Store A) → (W.store n).vote ≤ S.vote → Within W (put W n S)
  within_put W n S l = record { messages = λ m h. h; executed = λ x h. h; installed = λ x h. h; decided = λ x h. h; established = λ x h. h; votes = votes_put W n S l }

  -- the store that was put
  pub at_put : (W : Stores A) (n : ℕ) (S : Store A) → (put W n S).store n ≡ S
  at_put W n S = updated_same W.store n S

module _ {A : Type 0} (s : Setup A) where
  message_on : (W : Stores A) (e : Deed A) (m : Message A) → Includes W.messages m → Includes (does s W e).messages m
  message_on W (RequestVotes n) m h = inr h
  message_on W (AnswerVote n a l) m h = inr h
  message_on W (SendAppend n i k) m h = inr h
  message_on W (SendSnapshot n) m h = inr h
  message_on W (AcceptAppend n r k x) m h = inr h
  message_on W (AcceptSnapshot n q es) m h = inr h
  message_on W (CommitByQuorum n c q) m h = inr h
  message_on W _ m h = h

  executed_on : (W : Stores A) (e : Deed A) (x : ExecutedCommit A) → Includes W.executed x → Includes (does s W e).executed x
  executed_on W (Apply n i) x h = inr h
  executed_on W _ x h = h

  installed_on : (W : Stores A) (e : Deed A) (x : InstalledSnapshot A) → Includes W.installed x → Includes (does s W e).installed x
  installed_on W (InstallSnapshot n k q es) x h = inr h
  installed_on W _ x h = h

  decided_on : (W : Stores A) (e : Deed A) (x : DecidedCommit A) → Includes W.decided x → Includes (does s W e).decided x
  decided_on W (CommitByQuorum n c q) x h = inr h
  decided_on W _ x h = h

  established_on : (W : Stores A) (e : Deed A) (x : EstablishedLeader A) → Includes W.established x → Includes (does s W e).established x
  established_on W (RecordEstablished n) x h = inr h
  established_on W _ x h = h

  -- a deed lowers no vote
  abbrev pub Rises : Stores A → Deed A → Type 0
  Rises W (SaveVote n d) = (W.store n).vote ≤ d
  Rises W (FollowByAppend n r) = (W.store n).vote ≤ r.session.leader
  Rises W (FollowBySnapshot n q es) = (W.store n).vote ≤ q.leader
  Rises W _ = Unit {0}

  votes_on : (W : Stores A) (e : Deed A) → Rises W e → (m : ℕ) → (W.store m).vote ≤ ((does s W e).store m).vote
  votes_on W (SaveVote n d) h = votes_put W n _ h
  votes_on W (Win n q) h = votes_put W n _ (omega arith)
  votes_on W (FollowByAppend n r) h = votes_put W n _ h
  votes_on W (FollowBySnapshot n q es) h = votes_put W n _ h
  votes_on W (RequestVotes n) h = λ m. omega arith
  votes_on W (AnswerVote n last len) h = λ m. omega arith
  votes_on W (Initialize n) h = votes_put W n _ (omega arith)
  votes_on W (LeaderAppend n payload) h = votes_put W n _ (omega arith)
  votes_on W (FollowerAppend n r skip) h = votes_put W n _ (omega arith)
  votes_on W (TruncateConflict n r k x) h = votes_put W n _ (omega arith)
  votes_on W (TruncateForSnapshot n j k q es) h = votes_put W n _ (omega arith)
  votes_on W (Purge n k) h = votes_put W n _ (omega arith)
  votes_on W (BuildStreams n) h = votes_put W n _ (omega arith)
  votes_on W (EndStreams n) h = votes_put W n _ (omega arith)
  votes_on W (RecordEstablished n) h = λ m. omega arith
  votes_on W (SendAppend n i k) h = λ m. omega arith
  votes_on W (SendSnapshot n) h = λ m. omega arith
  votes_on W (AcceptAppend n r k x) h = λ m. omega arith
  votes_on W (AcceptSnapshot n q es) h = λ m. omega arith
  votes_on W (CommitByQuorum n c q) h = λ m. omega arith
  votes_on W (FollowerCommit n r k x told i) h = votes_put W n _ (omega arith)
  votes_on W (LeaderCommit n told i) h = votes_put W n _ (omega arith)
  votes_on W (Apply n i) h = λ m. omega arith
  votes_on W (InstallSnapshot n k q es) h = votes_put W n _ (omega arith)
  votes_on W (Note n) h = votes_put W n _ (omega arith)
  votes_on W (BuildSnapshot n) h = votes_put W n _ (omega arith)
  votes_on W (DropNote n) h = votes_put W n _ (omega arith)
  votes_on W (ForgetSaved n) h = votes_put W n _ (omega arith)
  votes_on W (Restart n c) h = votes_put W n _ (omega arith)
  votes_on W (RestartSaved n k) h = votes_put W n _ (omega arith)

  pub may_rise : (W : Stores A) (e : Deed A) → MayDo s W e → Rises W e
  may_rise W (SaveVote n d) h = omega (arith, h)
  may_rise W (FollowByAppend n r) h = h.not_lower
  may_rise W (FollowBySnapshot n q es) h = h.not_lower
  may_rise W _ h = tt

  pub within_does : (W : Stores A) (e : Deed A) → Rises W e → Within W (does s W e)
  within_does W e h = record { messages = message_on W e; executed = executed_on W e; installed = installed_on W e; decided = decided_on W e; established = established_on W e; votes = votes_on W e h }

  pub within_run : (es : List (Deed A)) (W : Stores A) → AllMayDo s es W → Within W (run_all s es W)
  within_run [] W h = within_self W
  within_run (e ∷ es) W h = within_then W (does s W e) (run_all s es (does s W e)) (within_does W e (may_rise W e h.0)) (within_run es (does s W e) h.1)

  -- what others store stays
  pub other_does : (W : Stores A) (e : Deed A) (m : ℕ) → m ≢ doer e → (does s W e).store m ≡ W.store m
  other_does W (SaveVote n d) m h = updated_other W.store n _ m h
  other_does W (Win n q) m h = updated_other W.store n _ m h
  other_does W (FollowByAppend n r) m h = updated_other W.store n _ m h
  other_does W (FollowBySnapshot n q es) m h = updated_other W.store n _ m h
  other_does W (RequestVotes n) m h = refl
  other_does W (AnswerVote n last len) m h = refl
  other_does W (Initialize n) m h = updated_other W.store n _ m h
  other_does W (LeaderAppend n payload) m h = updated_other W.store n _ m h
  other_does W (FollowerAppend n r skip) m h = updated_other W.store n _ m h
  other_does W (TruncateConflict n r k x) m h = updated_other W.store n _ m h
  other_does W (TruncateForSnapshot n j k q es) m h = updated_other W.store n _ m h
  other_does W (Purge n k) m h = updated_other W.store n _ m h
  other_does W (BuildStreams n) m h = updated_other W.store n _ m h
  other_does W (EndStreams n) m h = updated_other W.store n _ m h
  other_does W (RecordEstablished n) m h = refl
  other_does W (SendAppend n i k) m h = refl
  other_does W (SendSnapshot n) m h = refl
  other_does W (AcceptAppend n r k x) m h = refl
  other_does W (AcceptSnapshot n q es) m h = refl
  other_does W (CommitByQuorum n c q) m h = refl
  other_does W (FollowerCommit n r k x told i) m h = updated_other W.store n _ m h
  other_does W (LeaderCommit n told i) m h = updated_other W.store n _ m h
  other_does W (Apply n i) m h = refl
  other_does W (InstallSnapshot n k q es) m h = updated_other W.store n _ m h
  other_does W (Note n) m h = updated_other W.store n _ m h
  other_does W (BuildSnapshot n) m h = updated_other W.store n _ m h
  other_does W (DropNote n) m h = updated_other W.store n _ m h
  other_does W (ForgetSaved n) m h = updated_other W.store n _ m h
  other_does W (Restart n c) m h = updated_other W.store n _ m h
  other_does W (RestartSaved n k) m h = updated_other W.store n _ m h

  pub other_run : (n : ℕ) (es : List (Deed A)) (W : Stores A) (m : ℕ) → AllByRecursion (λ e. doer e ≡ n) es → m ≢ n → (run_all s es W).store m ≡ W.store m
  other_run n [] W m by h = refl
  other_run n (e ∷ es) W m by h = other_run n es (does s W e) m by.1 h ∙ other_does W e m (λ q. h (q ∙ by.0))

  -- worlds that come of one another
  pub does_self : (W : Stores A) → Does s W W
  does_self W = record { deeds = []; allowed = tt; claimed = tt; result = refl }

  pub does_run : (W : Stores A) (es : List (Deed A)) → AllMayDo s es W → AllClaimed s es W → Does s W (run_all s es W)
  does_run W es h c = record { deeds = es; allowed = h; claimed = c; result = refl }

  pub claims_join : (es fs : List (Deed A)) (W : Stores A) → AllClaimed s es W → AllClaimed s fs (run_all s es W) → AllClaimed s (es ++ fs) W
  claims_join [] fs W h k = k
  claims_join (e ∷ es) fs W h k = (h.0, claims_join es fs (does s W e) h.1 k)

  pub does_then : (U V W : Stores A) → Does s U V → Does s V W → Does s U W
  does_then U V W a b = record {
    deeds = a.deeds ++ b.deeds;
    allowed = all_join s a.deeds b.deeds U a.allowed (subst (AllMayDo s b.deeds) (sym a.result) b.allowed);
    claimed = claims_join a.deeds b.deeds U a.claimed (subst (AllClaimed s b.deeds) (sym a.result) b.claimed);
    result = run_all-append s a.deeds b.deeds U ∙ (ap (run_all s b.deeds) a.result ∙ b.result);
  }

  pub does_one : (W : Stores A) (e : Deed A) → MayDo s W e → SavesClaimed s W e → Does s W (does s W e)
  does_one W e h c = record { deeds = e ∷ []; allowed = (h, tt); claimed = (c, tt); result = refl }

  pub within_of : (W V : Stores A) → Does s W V → Within W V
  within_of W V d = subst (Within W) d.result (within_run d.deeds W d.allowed)

-- so do the deeds of a command
pub done_does : (s : Setup Entry) (t : Turn) (v : LeaderId ℕ) (u : WorldStore) (c : WorldCommand) (W V : Ideal) → Done s t v u c W V → Does s W V
done_does s t v u c W V d = record { deeds = d.deeds; allowed = d.allowed; claimed = d.claimed; result = d.result }

-- a world of the machine that a reached world follows
pub stores_follow : {A : Type 0} (s : Setup A) (W : Stores A) → Reached s W → StoresFollow s (start s) W
stores_follow s W r = subst (StoresFollow s (start s)) r.result (theorems.reached s r.deeds r.allowed)

-- an acceptance stays
pub accepted_on : {A : Type 0} (W V : Stores A) (m d k : ℕ) → Within W V → HasAccepted W m d k → HasAccepted V m d k
accepted_on W V m d k w h = record { session = h.session; last = h.last; upto = h.upto; past = h.past; leader = h.leader; sent = w.messages _ h.sent }

module _ {X : Type 0} where
  pub each_on : (P Q : X → Type 0) → ((x : X) → P x → Q x) → (xs : List X) → AllByRecursion P xs → AllByRecursion Q xs
  each_on P Q f [] h = tt
  each_on P Q f (x ∷ xs) h = (f x h.0, each_on P Q f xs h.1)

  pub each_more : (P : X → Type 0) (xs ys : List X) → AllByRecursion P xs → AllByRecursion P ys → AllByRecursion P (xs ++ ys)
  each_more P [] ys h k = k
  each_more P (x ∷ xs) ys h k = (h.0, each_more P xs ys h.1 k)

  pub each_mapped : {Y : Type 0} (P : X → Type 0) (f : Y → X) → ((y : Y) → P (f y)) → (ys : List Y) → AllByRecursion P (map f ys)
  each_mapped P f h [] = tt
  each_mapped P f h (y ∷ ys) = (h y, each_mapped P f h ys)

pub if_some : {X : Type 0} (P Q : X → Type 0) → ((x : X) → P x → Q x) → (o : Option X) → IfSome o P → IfSome o Q
if_some P Q f None h = tt
if_some P Q f (Some x) h = f x h

-- so it is of an id, by which more entries than its index are accepted
accepted_id_on : (W V : Ideal) (n : ℕ) (d : LeaderId ℕ) (x : LogId ℕ) → Within W V → AcceptedId n d x W → AcceptedId n d x V
accepted_id_on W V n d x w h = record { named = h.named; session = h.session; leader = h.leader; sent = w.messages _ h.sent }

pub has_accepted : (W : Ideal) (n : ℕ) (v : Vote ℕ) (upto : Option (LogId ℕ)) → AcceptedUpTo n v upto W → IfSome upto (λ x. HasAccepted W n (number v.leader_id) x.index)
has_accepted W n v =
    if_some (λ x. AcceptedId n v.leader_id x W) (λ x. HasAccepted W n (number v.leader_id) x.index)
    (λ x h. record { session = h.session; last = number x.leader_id; upto = suc x.index; past = omega arith; leader = h.leader; sent = h.sent })

module _ (s : Setup Entry) where
  -- a store whose parts that the ideal one tells of stay
  pub same_store : (u : WorldStore) (S T : IdealStore) → StoreIs s u S → T.vote ≡ S.vote → T.vote_committed ≡ S.vote_committed → T.front ≡ S.front → T.entries ≡ S.entries → T.snapshot ≡ S.snapshot → T.saved ≡ S.saved → T.saved_leader ≡ S.saved_leader → T.committed ≡ S.committed → StoreIs s u T
  same_store u S T h a b c d e f g i = record {
    vote = a ∙ h.vote;
    vote_committed = b ∙ h.vote_committed;
    front = c ∙ h.front;
    entries = d ∙ h.entries;
    snapshot = e ∙ h.snapshot;
    saved = f ∙ h.saved;
    saved_leader = g ∙ h.saved_leader;
    applied = i ∙ h.applied;
    front_is = subst (FrontIs s u.front) (sym e) h.front_is;
    vote_named = h.vote_named;
    saved_named = h.saved_named;
    entries_fit = h.entries_fit;
    snapshot_fit = h.snapshot_fit;
  }

  -- so it is with a store whose ideal streams end
  pub ended_store : (u : WorldStore) (W : Ideal) (n : ℕ) → StoreIs s u (W.store n) → StoreIs s u ((does s W (EndStreams n)).store n)
  ended_store u W n h =
      let S : IdealStore = record (W.store n) { session = no_session } in
      subst (StoreIs s u) (sym (at_put W n S)) (same_store u (W.store n) S h refl refl refl refl refl refl refl refl)

-- after a stop nothing is left beside store and records
pub stopped_rest : (s : Setup Entry) (n : ℕ) (u : WorldStore) (r : Records (List Entry)) (W : Ideal) → (W.store n).session.leader ≡ 0 → RecordsAre s r W → RestIs s n (effects u no_streams None r) W
stopped_rest s n u r W e h = record { session = e; targets = tt; noted = tt; records = h }

-- streams stay the ideal ones as long as the session stays
pub streams_on : (n : ℕ) (o : Option (ReplicationSessionId ℕ)) (S T : IdealStore) → T.session ≡ S.session → StreamsAre n o S → StreamsAre n o T
streams_on n None S T e h = ap (λ x. x.leader) e ∙ h
streams_on n (Some q) S T e h = record { leader = ap (λ x. x.leader) e ∙ h.leader; committed = h.committed; own = h.own; named = h.named }

-- what follows the world follows it on
module _ (s : Setup Entry) (W V : Ideal) (w : Within W V) where
  pub told_on : (v : Vote ℕ) → VoteTold v W → VoteTold v V
  told_on v h = record { named = h.named; claimed = omega (arith, h.claimed, w.votes v.leader_id.node_id) }

  pub body_on : (from to : ℕ) (b : Body) → BodyIs s from to b W → BodyIs s from to b V
  body_on from to (body.VoteRequest req) h = record { pending = h.pending; named = h.named; last_named = h.last_named; away = h.away; sent = w.messages _ h.sent }
  body_on from to (body.VoteReply resp) h = record { told = told_on resp.vote h.told; granted = λ e. w.messages _ (h.granted e) }
  body_on from to (body.AppendRequest o prev es told) h = record { leaders = h.leaders; prev_named = h.prev_named; run = h.run; entries_fit = h.entries_fit; told_named = h.told_named; request = h.request; is = h.is; sent = w.messages _ h.sent }
  body_on from to (body.AppendReply o reply prev upto) h = record { success = λ e. if_some _ _ (λ x. accepted_id_on W V from _ x w) upto (h.success e); whole = h.whole; rejected = λ v e. told_on v (h.rejected v e) }
  body_on from to (body.SnapshotRequest o snapshot) h = record { leaders = h.leaders; entries_fit = h.entries_fit; tells = h.tells; session = h.session; leader = h.leader; sent = w.messages _ h.sent }
  body_on from to (body.SnapshotReply o reply upto) h = record { told = told_on reply.vote h.told; success = λ e. if_some _ _ (λ x. accepted_id_on W V from _ x w) upto (h.success e) }

  pub records_on : (r : Records (List Entry)) → RecordsAre s r W → RecordsAre s r V
  records_on r h = record {
    bag = each_on (MessageIs s W) (MessageIs s V) (λ m. body_on m.from m.to m.body) r.bag h.bag;
    executed = each_on (ExecutedIs W) (ExecutedIs V) (λ x. w.executed _) r.executed h.executed;
    installed = each_on (InstalledIs W) (InstalledIs V) (λ x. w.installed _) r.installed h.installed;
    decided = each_on (DecidedIs W) (DecidedIs V) (λ x d. record { own = d.own; there = w.decided _ d.there }) r.decided h.decided;
    established = each_on (EstablishedIs W) (EstablishedIs V) (λ x. w.established _) r.established h.established;
  }

  -- beside the records, as long as session and note stay
  pub rest_on : (n : ℕ) (u : Effects (List Entry)) → (V.store n).session ≡ (W.store n).session → (V.store n).noted ≡ (W.store n).noted → RestIs s n u W → RestIs s n u V
  rest_on n u e f h = record {
    session = streams_on n u.streams.session_id (W.store n) (V.store n) e h.session;
    targets = h.targets;
    noted = if_some _ _ (λ es k. f ∙ k) u.noted h.noted;
    records = records_on u.records h.records;
  }
