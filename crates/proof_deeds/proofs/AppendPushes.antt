-- The commands of a follower, done by deeds.
use Rattle.std.proofs.Common.{ℕ, ◌-◌, ◌≡◌, ◌≢◌, ◌⊎◌, inl, ⊎_elim, false, List, [], ◌∷◌, ◌++◌, take, drop, arith, refl, sym, ap, ap₂, ◌∙◌, subst, true≢false, Option, None, Some}
use Rattle.std.specs.Prelude.{Contains, nat_lt, filter, fold}
use Rattle.std.specs.Map.{values_of}
use Rattle.std.proofs.lemmas.List.{map-append, take-map}
use Rattle.raft_node.specs.raft_state.declared.ids.LeaderId.{LeaderId}
use Rattle.raft_node.specs.raft_state.declared.ids.LogId.{LogId}
use Rattle.raft_node.specs.raft_state.declared.ids.Vote.{Vote}
use Rattle.raft_node.specs.raft_state.Order.{next}
use Rattle.raft_node.specs.raft_command.Message.{is_success}
use Rattle.raft_node.specs.raft_command.declared.command.Command.TheVariants as command
use Rattle.raft_node.specs.raft_command.declared.command.Condition.{Condition}
use Rattle.raft_node.specs.raft_command.declared.message.AppendEntriesResponse.{AppendEntriesResponse}
use Rattle.raft_node.specs.raft_command.declared.message.AppendEntriesResponse.TheVariants.{HigherVote, PartialSuccess, Success}
use Rattle.raft_node.specs.raft_command.declared.respond.Respond.TheVariants as respond
use Rattle.raft_node.specs.raft_command.Sender.{Sender}
use Rattle.proof_agreement.specs.Machine.{Setup}
use Rattle.proof_agreement.specs.Stores.{Append}
use Rattle.proof_agreement.specs.Deeds.{FollowerAppend, TruncateConflict, AcceptAppend, MayAppendEntries, MayTruncateConflict, MayAccept, put, does}
use Rattle.raft_node.specs.raft_store.declared.entry.Entry.{Entry}
use Rattle.raft_node.specs.raft_store.Entries.{entry_meaning}
use Rattle.raft_node.specs.raft_store.Store as store
use Rattle.raft_node.specs.raft_store.Types.{WorldStore}
use Rattle.raft_node.specs.declared.node.Turn.{Turn}
use Rattle.raft_node.specs.raft_calls.declared.message.Body.TheVariants as body
use Rattle.raft_node.specs.raft_calls.declared.message.Message.{Message}
use Rattle.raft_node.specs.raft_calls.declared.message.Origin.{Origin}
use Rattle.raft_node.specs.Execute.{sending}
use Rattle.raft_node.specs.raft_calls.Feeds.{last_sent}
use Rattle.proof_deeds.specs.Chains.{stored, Done}
use Rattle.proof_deeds.specs.Follows.{AcceptedId, AcceptedUpTo, StoreIs, RestIs, VoteTold}
use Rattle.proof_deeds.specs.Images.{Ideal, IdealStore, IdealEntry, IsWellFormedEntry, EntriesFit, IsNamed, number, image, images}
use Rattle.proof_deeds.proofs.Stored.{each_take}
use Rattle.proof_deeds.proofs.VotePushes.{put_done, same_rest, said_rest, replies_is}
use Rattle.proof_deeds.proofs.Worlds.{told_on, within_self, within_does, each_more}

-- what a reply says beside what it acknowledges
pub record Replies (a : AppendEntriesResponse ℕ) (W : Ideal) : Type 0 where
  pub whole : (x : Option (LogId ℕ)) → a ≢ PartialSuccess x
  pub rejected : (w : Vote ℕ) → a ≡ HigherVote w → VoteTold w W

module _ (s : Setup Entry) (t : Turn) (v : LeaderId ℕ) where
  -- a follower's entries
  pub done_append : (u : WorldStore) (w : Vote ℕ) (es : List Entry) (r : Append Entry) (skip : ℕ) (W : Ideal) → StoreIs s u (W.store t.id) → MayAppendEntries s W t.id r skip → drop skip r.entries ≡ images es → EntriesFit s es
      → values_of (fold (store.put entry_meaning) u.log es) ≡ values_of u.log ++ es → Done s t v u (command.AppendInputEntries w es) W (does s W (FollowerAppend t.id r skip))
  done_append u w es r skip W h m a f g =
      let S : IdealStore = record (W.store t.id) { entries = (W.store t.id).entries ++ drop skip r.entries } in
      put_done s t v u (command.AppendInputEntries w es) W S (FollowerAppend t.id r skip) refl m tt tt refl refl
      (record {
        vote = h.vote;
        vote_committed = h.vote_committed;
        front = h.front;
        entries = ap₂ ◌++◌ h.entries a ∙ (sym (map-append image (values_of u.log) es) ∙ ap images (sym g));
        snapshot = h.snapshot;
        saved = h.saved;
        saved_leader = h.saved_leader;
        applied = h.applied;
        front_is = h.front_is;
        vote_named = h.vote_named;
        saved_named = h.saved_named;
        entries_fit = subst (EntriesFit s) (sym g) (each_more (IsWellFormedEntry s) (values_of u.log) es h.entries_fit f);
        snapshot_fit = h.snapshot_fit;
      })
      refl refl (omega arith) (λ x g o z. same_rest s t v x (stored (command.AppendInputEntries w es) x.store) (put W t.id S) z)

  -- a cut before what a request names
  pub done_cut : (u : WorldStore) (since : LogId ℕ) (r : Append Entry) (x : ℕ) (W : Ideal) → StoreIs s u (W.store t.id) → MayTruncateConflict s W t.id r since.index x
      → values_of (filter (λ p. nat_lt p.0 since.index) u.log) ≡ take (since.index - next u.front) (values_of u.log) → Done s t v u (command.DeleteConflictLog since) W (does s W (TruncateConflict t.id r since.index x))
  done_cut u since r x W h m g =
      let S : IdealStore = record (W.store t.id) { entries = take (since.index - (W.store t.id).front) (W.store t.id).entries } in
      put_done s t v u (command.DeleteConflictLog since) W S (TruncateConflict t.id r since.index x) refl m tt tt refl refl
      (record {
        vote = h.vote;
        vote_committed = h.vote_committed;
        front = h.front;
        entries = ap₂ (λ n (xs : List IdealEntry). take (since.index - n) xs) h.front h.entries ∙ (take-map image (since.index - next u.front) (values_of u.log) ∙ ap images (sym g));
        snapshot = h.snapshot;
        saved = h.saved;
        saved_leader = h.saved_leader;
        applied = h.applied;
        front_is = h.front_is;
        vote_named = h.vote_named;
        saved_named = h.saved_named;
        entries_fit = subst (EntriesFit s) (sym g) (each_take (IsWellFormedEntry s) (since.index - next u.front) (values_of u.log) h.entries_fit);
        snapshot_fit = h.snapshot_fit;
      })
      refl refl (omega arith) (λ x g o z. same_rest s t v x (stored (command.DeleteConflictLog since) x.store) (put W t.id S) z)

  -- a reply to an append request: a success behind an id is an acceptance
  pub done_accept : (u : WorldStore) (when : Option (Condition ℕ)) (sender : Sender (AppendEntriesResponse ℕ)) (m : Message) (o : Origin) (prev : Option (LogId ℕ)) (es : List Entry) (told : Option (LogId ℕ)) (r : Append Entry) (x : LogId ℕ) (W : Ideal)
      → StoreIs s u (W.store t.id) → t.request ≡ Some m → m.body ≡ body.AppendRequest o prev es told → last_sent prev es ≡ Some x → r.session.leader ≡ number o.session_id.vote.leader_id
      → MayAccept s W t.id r x.index (number x.leader_id) → sender.value ≡ Success → IsNamed o.session_id.vote.leader_id → IsNamed x.leader_id → Replies sender.value W → Done s t v u (command.Respond when (respond.AppendEntries sender)) W (does s W (AcceptAppend t.id r x.index (number x.leader_id)))
  done_accept u when sender m o prev es told r x W h q b l e k ok named upto_named y =
      let V : Ideal = does s W (AcceptAppend t.id r x.index (number x.leader_id)) in
      let a : AcceptedId t.id o.session_id.vote.leader_id x V = record { named = upto_named; session = r.session; leader = e; sent = inl refl } in
      record {
        deeds = AcceptAppend t.id r x.index (number x.leader_id) ∷ [];
        claimed = (tt, tt);
        answered = (
          (
            record { from = t.id; to = m.from; body = body.AppendReply o sender.value prev (last_sent prev es) },
            subst (λ ms. Contains ms (record { from = t.id; to = m.from; body = body.AppendReply o sender.value prev (last_sent prev es) })) (sym (replies_is s t v (respond.AppendEntries sender) m (body.AppendRequest o prev es told) q b)) (0, omega arith, refl),
            record { from = refl; leader = o.session_id.vote.leader_id; named = named; is = sym e; upto = x; upto_named = upto_named; last_is = refl; ends = refl; acknowledges = (refl, ok, l) },
          ),
          tt,
        );
        commits = refl;
        by = (refl, tt);
        allowed = (k, tt);
        result = refl;
        store = h;
        rest = λ w g p z _ _.
            subst (λ ms. RestIs s t.id (sending ms w) V) (sym (replies_is s t v (respond.AppendEntries sender) m (body.AppendRequest o prev es told) q b))
            (said_rest s t v W V (record { from = t.id; to = m.from; body = body.AppendReply o sender.value prev (last_sent prev es) } ∷ []) w (within_does s W (AcceptAppend t.id r x.index (number x.leader_id)) tt) refl z (
              record {
                success = λ _. subst (λ y. AcceptedUpTo t.id o.session_id.vote y V) (sym l) a;
                whole = y.whole;
                rejected = λ c i. told_on s W V (within_does s W (AcceptAppend t.id r x.index (number x.leader_id)) tt) c (y.rejected c i);
              },
              tt,
            ));
      }

  -- one behind no id, or no success, says nothing
  pub done_unaccepted : (u : WorldStore) (when : Option (Condition ℕ)) (sender : Sender (AppendEntriesResponse ℕ)) (m : Message) (o : Origin) (prev : Option (LogId ℕ)) (es : List Entry) (told : Option (LogId ℕ)) (W : Ideal)
      → StoreIs s u (W.store t.id) → t.request ≡ Some m → m.body ≡ body.AppendRequest o prev es told → (is_success sender.value ≡ false) ⊎ (last_sent prev es ≡ None) → Replies sender.value W → Done s t v u (command.Respond when (respond.AppendEntries sender)) W W
  done_unaccepted u when sender m o prev es told W h q b n z = record {
    deeds = [];
    claimed = tt;
    answered = tt;
    commits = refl;
    by = tt;
    allowed = tt;
    result = refl;
    store = h;
    rest = λ w g p i _ _.
        subst (λ ms. RestIs s t.id (sending ms w) W) (sym (replies_is s t v (respond.AppendEntries sender) m (body.AppendRequest o prev es told) q b))
        (said_rest s t v W W (record { from = t.id; to = m.from; body = body.AppendReply o sender.value prev (last_sent prev es) } ∷ []) w (within_self W) refl i (
          record {
            success = λ y. ⊎_elim (λ f. absurd (true≢false (sym y ∙ f))) (λ f. subst (λ y. AcceptedUpTo t.id o.session_id.vote y W) (sym f) tt) n;
            whole = z.whole;
            rejected = z.rejected;
          },
          tt,
        ));
  }
