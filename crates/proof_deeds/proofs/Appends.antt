-- What a follower takes of an append request: the cut, and the entries.
use Rattle.std.proofs.Common.{ℕ, suc, ◌+◌, ◌-◌, ◌<◌, ◌≤◌, ◌≡◌, ◌≢◌, ◌⊎◌, inl, inr, ⊎_elim, true, false, not, List, [], ◌∷◌, ◌++◌, length, drop, arith, refl, sym, ap, ◌∙◌, subst, Option, None, Some}
use Rattle.std.specs.Prelude.{◌==◌, if◌then◌else◌}
use Rattle.std.specs.Ordering.{is_eq, nat_cmp}
use Rattle.std.proofs.lemmas.Bool.{cases_lt, eqb-true, cond_both}
use Rattle.std.proofs.lemmas.List.{length-map, drop-map}
use Rattle.raft_node.specs.raft_state.declared.ids.LeaderId.{LeaderId}
use Rattle.raft_node.specs.raft_state.declared.ids.LogId.{LogId}
use Rattle.raft_node.specs.raft_state.declared.state.ServerState.{ServerState}
use Rattle.raft_node.specs.raft_state.Log.{last, at}
use Rattle.raft_node.specs.raft_state.Order.{next}
use Rattle.raft_node.specs.raft_state.State.{accepted, has_log_id, server_state, truncate, undoes_membership}
use Rattle.raft_node.specs.raft_command.Push.{with_command}
use Rattle.raft_node.specs.raft_command.declared.command.Command.TheVariants as command
use Rattle.raft_node.specs.raft_command.declared.config.EngineConfig.{EngineConfig}
use Rattle.raft_node.specs.raft_steps.FollowingHandler.{memberships_in, with_entries, do_append_entries, truncate_logs}
use Rattle.raft_node.specs.raft_steps.Parts.{then_command, with_state}
use Rattle.raft_node.specs.raft_steps.ServerStateHandler.{role_commands, update_role}
use Rattle.raft_node.proofs.raft_steps_proofs.KeptAppend.{past_committed}
use Rattle.proof_agreement.specs.Machine.{Setup, Includes, start}
use Rattle.proof_agreement.specs.Stores.{Append, AppendRequest, empty, whole, entry_at}
use Rattle.proof_agreement.specs.Deeds.{TruncateConflict, FollowerAppend, FromLeader, IsFollower, Names, Holds, Reaches, MayAccept, MayTruncateConflict, MayAppendEntries, below, does}
use Rattle.proof_agreement.proofs.StoresBridge.{conflict_past_accepted}
use Rattle.proof_agreement.proofs.StoresFollow.{StoresFollow}
use Rattle.raft_node.specs.raft_store.declared.config.WorldConfig.{WorldConfig}
use Rattle.raft_node.specs.raft_store.declared.entry.Entry.{Entry}
use Rattle.raft_node.specs.raft_store.Entries.{entry_meaning}
use Rattle.raft_node.specs.raft_store.Types.{WorldStore, WorldCommand}
use Rattle.raft_node.proofs.raft_store_proofs.Lists.{Run}
use Rattle.proof_mirror.specs.Ready.{InStep}
use Rattle.proof_mirror.proofs.Cuts.{cut_parts}
use Rattle.proof_mirror.proofs.Shape.{shape_of}
use Rattle.proof_mirror.proofs.Places.{at_index}
use Rattle.proof_mirror.proofs.Puts.{with_is}
use Rattle.proof_mirror.proofs.Queued.{role_idle, idle_same}
use Rattle.raft_node.specs.declared.node.Turn.{Turn}
use Rattle.proof_deeds.specs.Chains.{Does, Reached, left_by, Carried}
use Rattle.proof_deeds.specs.Follows.{StoreIs}
use Rattle.proof_deeds.specs.Images.{Ideal, IdealStore, IsNamed, EntriesFit, number, image, images}
use Rattle.proof_deeds.specs.Knows.{KnowsAccepted}
use Rattle.proof_deeds.proofs.AppendPushes.{done_append, done_cut}
use Rattle.proof_deeds.proofs.AppendTails.{at_whole, holds_below, holds_more, holds_new, lacks_is, cut_stored, more_stored, front_low, snap_low}
use Rattle.proof_deeds.proofs.Away.{carried_away}
use Rattle.proof_deeds.proofs.Keeps.{Ends, Keeps, ends_keeps, known_accepted}
use Rattle.proof_deeds.proofs.Pushes.{push, carry, left_more}
use Rattle.proof_deeds.proofs.Roles.{WorldCore, WorldState}
use Rattle.proof_deeds.proofs.Tails.{index, tail_vote, tail_vote_committed, tail_length, tail_reaches}
use Rattle.proof_deeds.proofs.Worlds.{Within, at_put, within_does, does_then, if_some, stores_follow}

-- what the machine says of a world that comes of a reached one
pub follows_on_from : (s : Setup Entry) (W V : Ideal) → Reached s W → Does s W V → StoresFollow s (start s) V
follows_on_from s W V a b = stores_follow s V (does_then s (empty s) W V a b)

module _ (s : Setup Entry) (t : Turn) (config : EngineConfig ℕ) (u : WorldStore) (W : Ideal) (v : LeaderId ℕ) (reached : Reached s W) (r : Append Entry) (sent : Includes W.messages (AppendRequest r)) (leads : r.session.leader ≡ number v) (away : t.id ≢ s.owner (number v)) (other : is_eq (nat_cmp v.node_id config.id) ≡ false) where
  -- the state has the request's vote
  pub record Under (st : WorldState) : Type 0 where
    pub leader : st.vote.leader_id ≡ v
    pub committed : st.vote.committed ≡ true

  pub from_leader : (T : WorldStore) (V : Ideal) (st : WorldState) → Under st → InStep entry_meaning T st → Within W V → StoreIs s T (V.store t.id) → FromLeader V (V.store t.id) r
  from_leader T V st o j w h = record { sent = w.messages _ sent; session = leads ∙ sym (tail_vote s T (V.store t.id) st h j ∙ ap number o.leader) }

  pub is_follower : (T : WorldStore) (V : Ideal) (st : WorldState) → Under st → InStep entry_meaning T st → StoreIs s T (V.store t.id) → IsFollower s (V.store t.id) t.id
  is_follower T V st o j h = record {
    vote_committed = tail_vote_committed s T (V.store t.id) st h j ∙ o.committed;
    other = λ e. away (e ∙ ap s.owner (tail_vote s T (V.store t.id) st h j ∙ ap number o.leader));
  }

  -- all that the request names below an index is held, and all of it
  abbrev pub HeldBelow : ℕ → Ideal → Type 0
  HeldBelow i V = (k d : ℕ) → Names s r k d → k < i → Holds s (V.store t.id) k d

  abbrev pub AllHeld : Ideal → Type 0
  AllHeld V = (k d : ℕ) → Names s r k d → Holds s (V.store t.id) k d

  -- streams play no part in it
  pub below_ends : (i : ℕ) → Ends s t.id (HeldBelow i)
  below_ends i V h k d nm l = (ends_keeps s t.id V).holds k d (h k d nm l)

  -- what was accepted stays held through a cut, since that is past it
  pub accepted_cut : (st : WorldState) (V : Ideal) (i d : ℕ) → Does s W V → MayTruncateConflict s V t.id r i d → (V.store t.id).front ≤ length (V.store t.id).snapshot → length (V.store t.id).snapshot ≤ i
      → KnowsAccepted s t.id st V → KnowsAccepted s t.id st (does s V (TruncateConflict t.id r i d))
  accepted_cut st V i d came c low b h =
      let S : IdealStore = record (V.store t.id) { entries = below (V.store t.id) i } in
      let X : Ideal = does s V (TruncateConflict t.id r i d) in
      let e : X.store t.id ≡ S = at_put V t.id S in
      if_some (λ x. ((q : Append Entry) × MayAccept s V t.id q x.index (number x.leader_id)) ⊎ (x.index < (V.store t.id).committed)) (λ x. ((q : Append Entry) × MayAccept s X t.id q x.index (number x.leader_id)) ⊎ (x.index < (X.store t.id).committed))
      (λ x p. ⊎_elim
      (λ (a : (q : Append Entry) × MayAccept s V t.id q x.index (number x.leader_id)).
      let m : MayAccept s V t.id a.0 x.index (number x.leader_id) = a.1 in
      let past : x.index < i = conflict_past_accepted s (start s) V (follows_on_from s W V reached came) t.id a.0 x.index (number x.leader_id) m r i d c in
      inl (
        a.0,
        record {
          request = record { sent = m.request.sent; session = m.request.session ∙ sym (ap (λ (Z : IdealStore). Z.vote) e) };
          vote_committed = ap (λ (Z : IdealStore). Z.vote_committed) e ∙ m.vote_committed;
          names = m.names;
          holds = holds_below s (V.store t.id) (X.store t.id) i x.index (number x.leader_id) low e b (omega (arith, c.inside)) past m.holds;
        },
      ))
      (λ l. let z : (X.store t.id).committed ≡ (V.store t.id).committed = ap (λ (Z : IdealStore). Z.committed) e in inr (omega (arith, l, z)))
      p)
      (accepted nat_cmp st) h

  pub below_cut : (V : Ideal) (i d : ℕ) → MayTruncateConflict s V t.id r i d → (V.store t.id).front ≤ length (V.store t.id).snapshot → length (V.store t.id).snapshot ≤ i → HeldBelow i V → HeldBelow i (does s V (TruncateConflict t.id r i d))
  below_cut V i d c low b h = λ k y n l.
      holds_below s (V.store t.id) ((does s V (TruncateConflict t.id r i d)).store t.id) i k y low (at_put V t.id (record (V.store t.id) { entries = below (V.store t.id) i })) b (omega (arith, c.inside)) l (h k y n l)

  -- and through an append
  pub kept_put : (V : Ideal) (skip : ℕ) → (V.store t.id).front ≤ length (V.store t.id).snapshot → Reaches (V.store t.id) → Keeps s (V.store t.id) ((does s V (FollowerAppend t.id r skip)).store t.id)
  kept_put V skip low re =
      let S : IdealStore = record (V.store t.id) { entries = (V.store t.id).entries ++ drop skip r.entries } in
      let X : Ideal = does s V (FollowerAppend t.id r skip) in
      let e : X.store t.id ≡ S = at_put V t.id S in
      let z : (X.store t.id).committed ≡ (V.store t.id).committed = ap (λ (Z : IdealStore). Z.committed) e in
      record {
        vote = ap (λ (Z : IdealStore). Z.vote) e;
        vote_committed = ap (λ (Z : IdealStore). Z.vote_committed) e;
        committed = omega (arith, z);
        holds = λ k x h. holds_more s (V.store t.id) (X.store t.id) (drop skip r.entries) k x low e re h;
      }

  pub accepted_put : (st : WorldState) (V : Ideal) (skip : ℕ) → (V.store t.id).front ≤ length (V.store t.id).snapshot → Reaches (V.store t.id) → KnowsAccepted s t.id st V → KnowsAccepted s t.id st (does s V (FollowerAppend t.id r skip))
  accepted_put st V skip low re h = known_accepted s t.id V (does s V (FollowerAppend t.id r skip)) (within_does s V (FollowerAppend t.id r skip) tt) st (kept_put V skip low re) h

  -- all is held then
  pub all_put : (V : Ideal) (skip : ℕ) → (V.store t.id).front ≤ length (V.store t.id).snapshot → Reaches (V.store t.id) → length (whole (V.store t.id)) ≡ r.from + skip → HeldBelow (r.from + skip) V → AllHeld (does s V (FollowerAppend t.id r skip))
  all_put V skip low re n h = λ k d nm.
      let S : IdealStore = record (V.store t.id) { entries = (V.store t.id).entries ++ drop skip r.entries } in
      let X : Ideal = does s V (FollowerAppend t.id r skip) in
      let e : X.store t.id ≡ S = at_put V t.id S in
      let old : k < r.from + skip → Holds s (X.store t.id) k d = λ l. holds_more s (V.store t.id) (X.store t.id) (drop skip r.entries) k d low e re (h k d nm l) in
      ⊎_elim
      (λ (q : (suc k ≡ r.from) × (d ≡ r.previous)). let z : suc k ≡ r.from = q.0 in old (omega (arith, z)))
      (λ (q : (j : ℕ) × (k ≡ r.from + j) × (j < length r.entries) × (d ≡ (entry_at s r.entries j).leader)).
      let j : ℕ = q.0 in
      let a : k ≡ r.from + j = q.1 in
      ⊎_elim
      (λ l. old (omega (arith, a, l)))
      (λ l.
      let i : length (whole (V.store t.id)) + (j - skip) ≡ k = omega (arith, n, a, l) in
      subst (λ m. Holds s (X.store t.id) m d) i (subst (Holds s (X.store t.id) (length (whole (V.store t.id)) + (j - skip))) (sym q.3) (holds_new s (V.store t.id) (X.store t.id) r.entries skip j low e re l q.2)))
      (cases_lt j skip))
      nm

  pub may_cut : (T : WorldStore) (V : Ideal) (st : WorldState) (x first : LogId ℕ) → Under st → InStep entry_meaning T st → Within W V → StoreIs s T (V.store t.id) → IsNamed x.leader_id → Names s r x.index (number x.leader_id) → has_log_id nat_cmp st x ≡ false → at st.ids x.index ≡ Some first
      → MayTruncateConflict s V t.id r x.index (number x.leader_id)
  may_cut T V st x first o j w h n nm lack e =
      let past : next st.committed ≤ x.index = past_committed nat_cmp st x lack in
      let z : length T.snap ≤ next st.committed = (shape_of entry_meaning T st j.mirrors j.marks).settled in
      record {
        request = from_leader T V st o j w h;
        follower = is_follower T V st o j h;
        names = nm;
        inside = (at_whole s T (V.store t.id) st h j x.index first (omega (arith, z, past)) e).0;
        lacks = lacks_is s T (V.store t.id) st h j x n lack;
      }

  -- a cut at an id that the request names
  pub carried_cut : (x : LogId ℕ) (c : WorldCore) (K : Ideal → Type 0) → Ends s t.id K → InStep entry_meaning (left_by u c.output.items) c.state → Under c.state → IsNamed x.leader_id → Names s r x.index (number x.leader_id) → has_log_id nat_cmp c.state x ≡ false
      → ((V : Ideal) (i : ℕ) → Does s W V → i ≡ x.index → MayTruncateConflict s V t.id r i (number x.leader_id) → (V.store t.id).front ≤ length (V.store t.id).snapshot → length (V.store t.id).snapshot ≤ i → K V → K (does s V (TruncateConflict t.id r i (number x.leader_id))))
      → Carried s t v u W c.output.items K → Carried s t v u W (truncate_logs nat_cmp config x.index c).output.items K
  unfolding truncate_logs
  carried_cut x c K ends j o n nm lack f h = go (at c.state.ids x.index) refl where
    T : WorldStore
    T = left_by u c.output.items

    past : next c.state.committed ≤ x.index
    past = past_committed nat_cmp c.state x lack

    one : (first : LogId ℕ) → at c.state.ids x.index ≡ Some first → Carried s t v u W (c.output.items ++ command.DeleteConflictLog first ∷ []) K
    one first e =
        let i : first.index ≡ x.index = at_index x.index c.state.ids first e in
        push s t v u W c.output.items (command.DeleteConflictLog first) K K h
        (λ V y k.
        let m : MayTruncateConflict s V t.id r first.index (number x.leader_id) = subst (λ a. MayTruncateConflict s V t.id r a (number x.leader_id)) (sym i) (may_cut T V c.state x first o j y.within y.store n nm lack e) in
        let b : length (V.store t.id).snapshot ≤ next c.state.committed = snap_low s T (V.store t.id) c.state y.store j in (
          does s V (TruncateConflict t.id r first.index (number x.leader_id)),
          done_cut s t v T first r (number x.leader_id) V y.store m (cut_stored s T (V.store t.id) c.state y.store j first.index (omega (arith, past, i))),
          f V first.index y.came i m (front_low s T (V.store t.id) c.state y.store j) (omega (arith, b, past, i)) k,
        ))

    go : (q : Option (LogId ℕ)) → at c.state.ids x.index ≡ q → Carried s t v u W (elim q as (λ _. WorldCore) [
      | None ↦ c
      | Some first ↦
          let cut : WorldCore = record { state = truncate c.state x.index; output = with_command c.output (command.DeleteConflictLog first) } in
          if not (undoes_membership c.state x.index) then cut else update_role nat_cmp config cut
    ]).output.items K
    go None e = h
    go (Some first) e =
        let cut : WorldCore = record { state = truncate c.state x.index; output = with_command c.output (command.DeleteConflictLog first) } in
        cond_both (not (undoes_membership c.state x.index)) cut (update_role nat_cmp config cut) (λ (z : WorldCore). Carried s t v u W z.output.items K)
        (λ _. one first e)
        (λ _. carried_away s t u W v config cut K (cut_parts entry_meaning (λ (z : WorldState). is_eq (nat_cmp z.vote.leader_id.node_id config.id) ≡ false) c.state x.index (λ em. ap (λ (d : LeaderId ℕ). is_eq (nat_cmp d.node_id config.id)) o.leader ∙ other)) ends (one first e))

  -- entries of the request behind the last id, which it names and which is held
  pub carried_put : (skip : ℕ) (es new : List Entry) (c : WorldCore) (K L : Ideal → Type 0) → Ends s t.id K → InStep entry_meaning (left_by u c.output.items) c.state → Under c.state → Run index (next (last c.state.ids)) new → EntriesFit s new
      → r.entries ≡ images es → drop skip es ≡ new → skip ≤ length es → next (last c.state.ids) ≡ r.from + skip
      → ((V : Ideal) → K V → (k : ℕ) → r.from + skip ≡ suc k → (x : ℕ) × Names s r k x × Holds s (V.store t.id) k x)
      → ((V : Ideal) → (V.store t.id).front ≤ length (V.store t.id).snapshot → Reaches (V.store t.id) → length (whole (V.store t.id)) ≡ r.from + skip → K V → L (does s V (FollowerAppend t.id r skip)))
      → (new ≡ [] → (V : Ideal) → K V → L V)
      → Carried s t v u W c.output.items K → Carried s t v u W (do_append_entries nat_cmp entry_meaning config new c).output.items L
  unfolding do_append_entries update_role
  carried_put skip es new c K L ends j o run fit re di si en hold f none h =
      let taken : WorldCore = with_state c (with_entries entry_meaning c.state new) in
      let b : ServerState = server_state nat_cmp (with_entries entry_meaning c.state new) config.id in
      let rc : List WorldCommand = role_commands (with_entries entry_meaning c.state new).role b in
      let add : WorldCommand = command.AppendInputEntries c.state.vote new in
      let settled : WorldCore = if length (memberships_in entry_meaning new) == 0 then taken else update_role nat_cmp config taken in
      cond_both (length new == 0) c (then_command settled add) (λ (z : WorldCore). Carried s t v u W z.output.items L)
      (λ e. carry s t v u W c.output.items K L h (λ V _ k. none (empty_of new e) V k))
      (λ _. cond_both (length (memberships_in entry_meaning new) == 0) taken (update_role nat_cmp config taken) (λ (z : WorldCore). Carried s t v u W (then_command z add).output.items L)
      (λ _. put_at c.output.items refl h)
      (λ _. put_at (c.output.items ++ rc) (left_more u c.output.items rc ∙ idle_same nat_cmp entry_meaning (λ es. es) T rc (role_idle WorldConfig ℕ ℕ nat_cmp entry_meaning (λ es. es) T (with_entries entry_meaning c.state new).role b))
      (carried_away s t u W v config taken K (ap (λ (z : WorldState). is_eq (nat_cmp z.vote.leader_id.node_id config.id)) (with_is entry_meaning c.state new) ∙ (ap (λ (d : LeaderId ℕ). is_eq (nat_cmp d.node_id config.id)) o.leader ∙ other)) ends h)))
    where
      T : WorldStore
      T = left_by u c.output.items

      empty_of : (xs : List Entry) → (length xs == 0) ≡ true → xs ≡ []
      empty_of [] e = refl
      empty_of (x ∷ xs) e = let q : length (x ∷ xs) ≡ 0 = eqb-true (length (x ∷ xs)) 0 e in absurd (omega (arith, q))

      put_at : (cs : List WorldCommand) → left_by u cs ≡ left_by u c.output.items → Carried s t v u W cs K → Carried s t v u W (cs ++ command.AppendInputEntries c.state.vote new ∷ []) L
      put_at cs e g =
          push s t v u W cs (command.AppendInputEntries c.state.vote new) K L g
          (λ V y k.
          let i : InStep entry_meaning (left_by u cs) c.state = subst (λ w. InStep entry_meaning w c.state) (sym e) j in
          let n : length (whole (V.store t.id)) ≡ r.from + skip = tail_length s (left_by u cs) (V.store t.id) c.state y.store i ∙ en in
          let lens : length r.entries ≡ length es = ap (λ ys. length ys) re ∙ length-map es image in
          let re2 : Reaches (V.store t.id) = tail_reaches s (left_by u cs) (V.store t.id) c.state y.store i in
          let m : MayAppendEntries s V t.id r skip = record {
            request = from_leader (left_by u cs) V c.state o i y.within y.store;
            follower = is_follower (left_by u cs) V c.state o i y.store;
            reaches = re2;
            next = n;
            within = omega (arith, lens, si);
            holds = λ a q. hold V k a (sym n ∙ q);
          } in (
            does s V (FollowerAppend t.id r skip),
            done_append s t v (left_by u cs) c.state.vote new r skip V y.store m (ap (drop skip) re ∙ (drop-map image skip es ∙ ap images di)) fit (more_stored s (left_by u cs) (V.store t.id) c.state y.store i new run),
            f V (front_low s (left_by u cs) (V.store t.id) c.state y.store i) re2 n k,
          ))
