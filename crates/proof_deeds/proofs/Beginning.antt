-- The first entry of a cluster.
use Rattle.std.proofs.Common.{ℕ, suc, ◌<◌, ◌≡◌, inl, ⊎_elim, true, false, not, List, [], ◌∷◌, ◌++◌, length, map, fold, arith, lit<, refl, sym, ap, ◌∙◌, subst, None}
use Rattle.std.specs.Prelude.{◌||◌, ◌==◌, Some, if◌then◌else◌}
use Rattle.std.specs.List.{AllByRecursion, list_any}
use Rattle.std.specs.Map.{values_of}
use Rattle.std.specs.declared.cmp.Ordering.{Ordering}
use Rattle.std.specs.declared.cmp.Ordering.TheVariants.{Less, Equal, Greater}
use Rattle.std.specs.Ordering.{is_ne, nat_cmp}
use Rattle.std.proofs.lemmas.Bool.{and_parts, both_ways}
use Rattle.std.proofs.lemmas.Bool.Decides.{nat_tests}
use Rattle.std.proofs.lemmas.Cmp.{nat_cmp_total}
use Rattle.raft_node.specs.raft_state.declared.ids.LeaderId.{LeaderId}
use Rattle.raft_node.specs.raft_state.declared.ids.LogId.{LogId}
use Rattle.raft_node.specs.raft_state.declared.ids.Vote.{Vote}
use Rattle.raft_node.specs.raft_state.declared.membership.Members.{Members}
use Rattle.raft_node.specs.raft_state.declared.state.ServerState.{ServerState}
use Rattle.raft_node.specs.raft_state.declared.state.ServerState.TheVariants as role
use Rattle.raft_node.specs.raft_state.Invariants.{IsSoundState, IsUnder}
use Rattle.raft_node.specs.raft_state.Consecutive.{follows_on}
use Rattle.raft_node.specs.raft_state.Log.{last}
use Rattle.raft_node.specs.raft_state.Order.{next, vote_cmp}
use Rattle.raft_node.specs.raft_state.Same.{nat_same}
use Rattle.raft_node.specs.raft_state.State.{is_leading, server_state}
use Rattle.raft_node.specs.raft_command.declared.command.Command.TheVariants as command
use Rattle.raft_node.specs.raft_state.Sorted.{has_id}
use Rattle.raft_node.specs.raft_command.declared.config.EngineConfig.{EngineConfig}
use Rattle.raft_node.specs.raft_steps.Refusals.{refusals_of_initialize}
use Rattle.raft_node.specs.raft_steps.Engine.{default_log_id, initialize}
use Rattle.raft_node.specs.raft_steps.FollowingHandler.{do_append_entries, with_entries}
use Rattle.raft_node.specs.raft_steps.Parts.{with_state, on_core}
use Rattle.raft_node.specs.raft_steps.ServerStateHandler.{role_commands, update_role}
use Rattle.raft_node.proofs.raft_steps_proofs.Kept.{do_append_kept}
use Rattle.raft_node.proofs.raft_steps_proofs.Leads.{vote_same}
use Rattle.raft_node.proofs.raft_steps_proofs.Unrefused.{neither, or_fails, second_fails}
use Rattle.proof_agreement.specs.Stores as stores
use Rattle.proof_agreement.specs.Deeds.{Initialize, put}
use Rattle.raft_node.specs.raft_store.declared.config.WorldConfig.{WorldConfig}
use Rattle.raft_node.specs.raft_store.declared.entry.Entry.{Entry}
use Rattle.raft_node.specs.raft_store.Entries.{entry_meaning}
use Rattle.raft_node.specs.raft_store.Store as store
use Rattle.raft_node.specs.raft_store.Types.{WorldStore, WorldCommand, WorldMachine}
use Rattle.proof_mirror.specs.Ready.{InStep, Pending}
use Rattle.proof_mirror.proofs.Following.{pending_append}
use Rattle.proof_mirror.proofs.Queued.{idle_same, role_idle}
use Rattle.proof_mirror.proofs.Shape.{Shape, shape_of}
use Rattle.proof_mirror.proofs.Starting.{core_order}
use Rattle.raft_node.specs.declared.node.Turn.{Turn}
use Rattle.raft_node.specs.raft_calls.Elections.{first_entry}
use Rattle.proof_deeds.specs.Chains.{Unread, stored, left_by, Done}
use Rattle.proof_deeds.specs.Follows.{StoreIs}
use Rattle.proof_deeds.specs.Images.{Ideal, EntriesFit, images, number, setup_of}
use Rattle.proof_deeds.specs.Knows.{Knows, CarriedIn}
use Rattle.proof_deeds.proofs.Asking.{carried_elect}
use Rattle.proof_deeds.proofs.Keeps.{Keeps, ends_unled, known_in}
use Rattle.proof_deeds.proofs.Pushes.{left_more, push}
use Rattle.proof_deeds.proofs.Roles.{WorldCore, WorldState, leads_by_role, carried_role_waiting}
use Rattle.proof_deeds.proofs.Tails.{tail_length, tail_vote, tail_vote_committed}
use Rattle.proof_deeds.proofs.VotePushes.{put_done, same_rest}
use Rattle.proof_deeds.proofs.Worlds.{at_put, each_more, if_some, done_does}

-- a change of role leaves the store
pub left_role : (u : WorldStore) (cs : List WorldCommand) (a b : ServerState) → left_by u (cs ++ role_commands a b) ≡ left_by u cs
left_role u cs a b = left_more u cs (role_commands a b) ∙ idle_same nat_cmp entry_meaning (λ (es : List Entry). es) (left_by u cs) (role_commands a b) (role_idle WorldConfig ℕ ℕ nat_cmp entry_meaning (λ es. es) (left_by u cs) a b)

unread_role : (a b : ServerState) → (b ≡ role.Leader → ⊥) → AllByRecursion Unread (role_commands {C = WorldConfig} {NID = ℕ} {N = Unit {0}} {E = Entry} {D = ℕ} {R = ℕ} {S = List Entry} a b)
unread_role role.Learner role.Learner f = tt
unread_role role.Learner role.Follower f = tt
unread_role role.Learner role.Candidate f = tt
unread_role role.Learner role.Leader f = absurd (f refl)
unread_role role.Follower role.Learner f = tt
unread_role role.Follower role.Follower f = tt
unread_role role.Follower role.Candidate f = tt
unread_role role.Follower role.Leader f = absurd (f refl)
unread_role role.Candidate role.Learner f = tt
unread_role role.Candidate role.Follower f = tt
unread_role role.Candidate role.Candidate f = tt
unread_role role.Candidate role.Leader f = absurd (f refl)
unread_role role.Leader role.Learner f = (tt, tt)
unread_role role.Leader role.Follower f = (tt, tt)
unread_role role.Leader role.Candidate f = (tt, tt)
unread_role role.Leader role.Leader f = tt

module _ (first : Members ℕ (Unit {0})) (t : Turn) (v : LeaderId ℕ) where
  -- the first entry is put into an empty store
  done_first : 0 < length first.groups → (u : WorldStore) (w : Vote ℕ) (W : Ideal) → StoreIs (setup_of first) u (W.store t.id) → u.log ≡ [] → u.snap ≡ [] → (W.store t.id).vote ≡ 0 → (W.store t.id).vote_committed ≡ false
      → Done (setup_of first) t v u (command.AppendInputEntries w (first_entry first ∷ [])) W (put W t.id (record (W.store t.id) { entries = stores.first_entry (setup_of first) ∷ [] }))
  done_first some u w W h l z e c =
      let x : values_of (stored (command.AppendInputEntries w (first_entry first ∷ [])) u).log ≡ first_entry first ∷ [] = ap (λ log. values_of (fold (store.put entry_meaning) log (first_entry first ∷ []))) l in
      put_done (setup_of first) t v u (command.AppendInputEntries w (first_entry first ∷ [])) W (record (W.store t.id) { entries = stores.first_entry (setup_of first) ∷ [] }) (Initialize t.id) refl
      (record { no_entries = h.entries ∙ ap (λ log. images (values_of log)) l; no_snapshot = h.snapshot ∙ ap images z; first_vote = e; not_committed = c })
      tt tt refl refl
      (record {
        vote = h.vote;
        vote_committed = h.vote_committed;
        front = h.front;
        entries = ap images (sym x);
        snapshot = h.snapshot;
        saved = h.saved;
        saved_leader = h.saved_leader;
        applied = h.applied;
        front_is = h.front_is;
        vote_named = h.vote_named;
        saved_named = h.saved_named;
        entries_fit = subst (EntriesFit (setup_of first)) (sym x) (record { named = lit< tt; groups = λ _. some }, tt);
        snapshot_fit = h.snapshot_fit;
      })
      refl refl (omega arith) (λ y g o r. same_rest (setup_of first) t v y (stored (command.AppendInputEntries w (first_entry first ∷ [])) y.store) (put W t.id (record (W.store t.id) { entries = stores.first_entry (setup_of first) ∷ [] })) r)

-- what an initialize that isn't refused says of the state
pub record IsFresh (st : WorldState) : Type 0 where
  pub ids : st.ids ≡ []
  pub vote : st.vote ≡ record { leader_id = record { term = 0; node_id = 0 }; committed = false }

no_ids : (ids : List (LogId ℕ)) → not (length ids == 0) ≡ false → ids ≡ []
no_ids [] e = refl
no_ids (y ∷ ys) e = let z : (suc (length ys) == 0) ≡ false = grind (arith, nat_tests) in let q : true ≡ false = sym (ap not z) ∙ e in cc

not_ne : (r : Ordering) → is_ne r ≡ false → r ≡ Equal
not_ne Less e = cc
not_ne Equal e = refl
not_ne Greater e = cc

pub fresh_of : (config : EngineConfig ℕ) (e : Entry) (m : WorldMachine) → refusals_of_initialize nat_cmp entry_meaning config 0 e m ≡ None → IsFresh m.core.state
fresh_of config e m asks =
    let st : WorldState = m.core.state in
    let fresh : (not (length st.ids == 0) || is_ne (vote_cmp nat_cmp st.vote (record { leader_id = record { term = 0; node_id = 0 }; committed = false }))) ≡ false = second_fails _ _ _ _ _ (neither _ _ asks).0 in
    let tests = or_fails (not (length st.ids == 0)) (is_ne (vote_cmp nat_cmp st.vote (record { leader_id = record { term = 0; node_id = 0 }; committed = false }))) fresh in
    record { ids = no_ids st.ids tests.0; vote = vote_same nat_cmp nat_same st.vote (record { leader_id = record { term = 0; node_id = 0 }; committed = false }) (not_ne _ tests.1) }

-- the store is empty
none_stored : (xs : List Entry) → length xs ≡ 0 → xs ≡ []
none_stored [] e = refl
none_stored (x ∷ xs) e = absurd (omega (arith, e))

pub record IsEmpty (u : WorldStore) : Type 0 where
  pub log : u.log ≡ []
  pub snap : u.snap ≡ []

pub empty_of : (u : WorldStore) (st : WorldState) → InStep entry_meaning u st → st.ids ≡ [] → IsEmpty u
empty_of u st j e =
    let h : Shape entry_meaning u st = shape_of entry_meaning u st j.mirrors j.marks in
    let z : next (last st.ids) ≡ 0 = ap (λ ids. next (last ids)) e in
    let x : values_of u.log ≡ [] = none_stored (values_of u.log) (omega (arith, h.end, z)) in
    record { log = j.mirrors.log.keys ∙ ap (λ es. map (λ (e : Entry). (e.log_id.index, e)) es) x; snap = none_stored u.snap (omega (arith, h.settled, h.top, z)) }

-- a membership that has a voter has a group
has_groups : {X : Type 0} (groups : List (List ℕ)) (id : ℕ) (refusal : X) → (if list_any (λ group. has_id nat_cmp group id) groups then None else Some refusal) ≡ None → 0 < length groups
has_groups [] id refusal e = cc
has_groups (g ∷ gs) id refusal e = omega arith

module _ (first : Members ℕ (Unit {0})) (t : Turn) (config : EngineConfig ℕ) (own : config.id ≡ t.id) (u : WorldStore) (W : Ideal) where
  -- the first entry is taken
  carried_begun : 0 < length first.groups → (m : WorldMachine) → m.leader ≡ None → Pending nat_cmp entry_meaning (λ es. es) u m.core → IsFresh m.core.state → CarriedIn (setup_of first) t u W m
      → CarriedIn (setup_of first) t u W (on_core (do_append_entries nat_cmp entry_meaning config (first_entry first ∷ [])) m)
  unfolding do_append_entries update_role
  carried_begun some m none p f k =
      push (setup_of first) t m.core.state.vote.leader_id u W (update_role nat_cmp config taken).output.items (command.AppendInputEntries m.core.state.vote (first_entry first ∷ [])) (Knows (setup_of first) t.id m) (Knows (setup_of first) t.id (on_core (do_append_entries nat_cmp entry_meaning config (first_entry first ∷ [])) m))
      (carried_role_waiting first t config u W taken (Knows (setup_of first) t.id m) (ap (λ (v : Vote ℕ). v.committed) f.vote) (ends_unled (setup_of first) t.id m none) k)
      (λ V x y.
      let T : WorldStore = left_by u m.core.output.items in
      let e : left_by u (update_role nat_cmp config taken).output.items ≡ T = left_role u m.core.output.items m.core.state.role (server_state nat_cmp taken.state config.id) in
      let h : StoreIs (setup_of first) T (V.store t.id) = subst (λ w. StoreIs (setup_of first) w (V.store t.id)) e x.store in
      let z : IsEmpty T = empty_of T m.core.state p.in_step f.ids in
      let X : Ideal = put V t.id (record (V.store t.id) { entries = stores.first_entry (setup_of first) ∷ [] }) in
      let d : Done (setup_of first) t m.core.state.vote.leader_id T (command.AppendInputEntries m.core.state.vote (first_entry first ∷ [])) V X =
      done_first first t m.core.state.vote.leader_id some T m.core.state.vote V h z.log z.snap (tail_vote (setup_of first) T (V.store t.id) m.core.state h p.in_step ∙ ap (λ (v : Vote ℕ). number v.leader_id) f.vote) (tail_vote_committed (setup_of first) T (V.store t.id) m.core.state h p.in_step ∙ ap (λ (v : Vote ℕ). v.committed) f.vote) in
      let o : Knows (setup_of first) t.id m X = known_in (setup_of first) t.id V X (done_does (setup_of first) t m.core.state.vote.leader_id T (command.AppendInputEntries m.core.state.vote (first_entry first ∷ [])) V X d) m (keeps V T h p.in_step f.ids) (ap (λ S. S.session) (at_put V t.id (record (V.store t.id) { entries = stores.first_entry (setup_of first) ∷ [] }))) y in (
        X,
        subst (λ w. Done (setup_of first) t m.core.state.vote.leader_id w (command.AppendInputEntries m.core.state.vote (first_entry first ∷ [])) V X) (sym e) d,
        record { state = o.state; leader = if_some _ _ (λ l q. record { vote = q.vote; session = q.session; rows = q.rows; above = q.above }) m.leader o.leader; candidate = o.candidate; alone = o.alone },
      ))
    where
      keeps : (V : Ideal) (T : WorldStore) → StoreIs (setup_of first) T (V.store t.id) → InStep entry_meaning T m.core.state → m.core.state.ids ≡ [] → Keeps (setup_of first) (V.store t.id) ((put V t.id (record (V.store t.id) { entries = stores.first_entry (setup_of first) ∷ [] })).store t.id)
      keeps V T h j e =
          subst (Keeps (setup_of first) (V.store t.id)) (sym (at_put V t.id (record (V.store t.id) { entries = stores.first_entry (setup_of first) ∷ [] })))
          (record {
            vote = refl;
            vote_committed = refl;
            committed = omega arith;
            holds = λ k x g. ⊎_elim (λ l. inl l) (λ l. let n : length (stores.whole (V.store t.id)) ≡ 0 = tail_length (setup_of first) T (V.store t.id) m.core.state h j ∙ ap (λ ids. next (last ids)) e in absurd (omega (arith, n, l.0))) g;
          })

      taken : WorldCore
      taken = with_state m.core (with_entries entry_meaning m.core.state (first_entry first ∷ []))

  unread_begun : (m : WorldMachine) → AllByRecursion Unread m.core.output.items → IsFresh m.core.state → AllByRecursion Unread (do_append_entries nat_cmp entry_meaning config (first_entry first ∷ []) m.core).output.items
  unfolding do_append_entries update_role
  unread_begun m r f =
      let st : WorldState = with_entries entry_meaning m.core.state (first_entry first ∷ []) in
      each_more Unread (m.core.output.items ++ role_commands m.core.state.role (server_state nat_cmp st config.id)) (command.AppendInputEntries m.core.state.vote (first_entry first ∷ []) ∷ [])
      (each_more Unread m.core.output.items (role_commands m.core.state.role (server_state nat_cmp st config.id)) r
      (unread_role m.core.state.role (server_state nat_cmp st config.id) (λ q. both_ways m.core.state.vote.committed (ap (λ (v : Vote ℕ). v.committed) f.vote) (and_parts (is_leading nat_cmp st config.id) st.vote.committed (leads_by_role st config.id q)).1)))
      (tt, tt)

  -- the first entry is taken, and the node is a candidate
  pub carried_initialize : (now : ℕ) (m : WorldMachine) → Pending nat_cmp entry_meaning (λ es. es) u m.core → IsSoundState nat_cmp m.core.state → AllByRecursion Unread m.core.output.items → m.leader ≡ None → t.id < 18446744073709551616
      → refusals_of_initialize nat_cmp entry_meaning config 0 (first_entry first) m ≡ None → CarriedIn (setup_of first) t u W m → CarriedIn (setup_of first) t u W (initialize nat_cmp entry_meaning config 0 (first_entry first) now m)
  unfolding initialize
  carried_initialize now m p h r none small asks k =
      carried_elect first t config own u W now begun pending sound (unread_begun m r f) none small (carried_begun (has_groups first.groups config.id _ (neither _ _ asks).1) m none p f k)
    where
      f : IsFresh m.core.state
      f = fresh_of config (first_entry first) m asks

      begun : WorldMachine
      begun = on_core (do_append_entries nat_cmp entry_meaning config (first_entry first ∷ [])) m

      sound : IsSoundState nat_cmp (do_append_entries nat_cmp entry_meaning config (first_entry first ∷ []) m.core).state
      sound =
          do_append_kept nat_cmp nat_cmp_total nat_same entry_meaning config (first_entry first ∷ []) m.core
          (subst (λ ids. follows_on nat_cmp (last ids) (default_log_id 0 ∷ []) ≡ true) (sym f.ids) refl)
          (subst (λ (v : Vote ℕ). IsUnder nat_cmp v.leader_id (default_log_id 0)) (sym f.vote) refl, tt)
          (lit< tt, tt) h

      pending : Pending nat_cmp entry_meaning (λ es. es) u (do_append_entries nat_cmp entry_meaning config (first_entry first ∷ []) m.core)
      pending = pending_append nat_cmp entry_meaning (λ es. es) config u (first_entry first ∷ []) m.core p (sym (ap (λ ids. next (last ids)) f.ids), tt) (core_order nat_cmp (do_append_entries nat_cmp entry_meaning config (first_entry first ∷ []) m.core) sound)
