-- What a leader proposes.
use Rattle.std.proofs.Common.{ℕ, ◌+◌, ◌-◌, ◌≤◌, ◌≡◌, false, List, [], ◌∷◌, ◌++◌, length, map, arith, refl, sym, ap, ◌∙◌, subst, true≢false, None}
use Rattle.std.specs.Prelude.{is_some, slice_get, ◌==◌}
use Rattle.std.specs.List.{AllByRecursion}
use Rattle.std.specs.Ordering.{nat_cmp}
use Rattle.std.proofs.lemmas.Bool.{cond_both}
use Rattle.std.proofs.lemmas.List.{length-map}
use Rattle.raft_node.specs.raft_state.declared.ids.LeaderId.{LeaderId}
use Rattle.raft_node.specs.raft_state.declared.ids.LogId.{LogId}
use Rattle.raft_node.specs.raft_state.declared.membership.StoredMembership.{StoredMembership}
use Rattle.raft_node.specs.raft_state.Log.{last}
use Rattle.raft_node.specs.raft_state.Order.{next}
use Rattle.raft_node.specs.raft_state.State.{extend}
use Rattle.raft_node.specs.raft_command.declared.command.Command.TheVariants as command
use Rattle.raft_node.specs.raft_command.declared.config.EngineConfig.{EngineConfig}
use Rattle.raft_node.specs.raft_steps.FollowingHandler.{memberships_in}
use Rattle.raft_node.specs.raft_proposer.Leader.{numbered, assigned, last_assigned}
use Rattle.raft_node.specs.raft_steps.LeaderHandler.{proposed, last_proposed, joined, leader_append_entries}
use Rattle.raft_node.specs.raft_steps.ReplicationHandler.{initiate_replication}
use Rattle.proof_agreement.specs.Machine.{Setup}
use Rattle.proof_agreement.specs.Deeds.{AllMayDo}
use Rattle.raft_node.specs.raft_store.declared.entry.Entry.{Entry}
use Rattle.raft_node.specs.raft_store.Entries.{entry_meaning, members_of}
use Rattle.raft_node.specs.raft_store.Mirror.{ends}
use Rattle.raft_node.specs.raft_store.Types.{WorldStore, WorldCommand, WorldLeader}
use Rattle.raft_node.proofs.raft_store_proofs.Lists.{Run}
use Rattle.proof_mirror.specs.Ready.{Ordered, InStep, KnowsLog, PendingLed}
use Rattle.proof_mirror.proofs.Orders.{Orderly, may_put}
use Rattle.proof_mirror.proofs.Proposes.{run_numbered, rows_more, joined_ids}
use Rattle.proof_mirror.proofs.Puts.{grown_end, step_grown}
use Rattle.proof_mirror.proofs.Queued.{awaits_one}
use Rattle.proof_mirror.proofs.Shape.{Shape, shape_of, shaped_of}
use Rattle.raft_node.specs.declared.node.Turn.{Turn}
use Rattle.raft_node.specs.raft_calls.Feeds.{WorldLed}
use Rattle.proof_deeds.specs.Chains.{Reached, Does, stored, left_by, Done}
use Rattle.proof_deeds.specs.Follows.{StoreIs}
use Rattle.proof_deeds.specs.Images.{Ideal, IdealStore, IsNamed, EntriesFit, number}
use Rattle.proof_deeds.specs.Knows.{KnowsLed}
use Rattle.proof_deeds.proofs.Keeps.{Keeps, known_accepted, known_led}
use Rattle.proof_deeds.proofs.LeaderSends.{KnowsIn, CarriedLed, Owns, tail_streams, carried_initiate}
use Rattle.proof_deeds.proofs.ProposePushes.{appended, appends, plain_allowed, appended_keeps, done_appends}
use Rattle.proof_deeds.proofs.Pushes.{push}
use Rattle.proof_deeds.proofs.Quorums.{Means}
use Rattle.proof_deeds.proofs.Roles.{WorldState}
use Rattle.proof_deeds.proofs.Tails.{index, tail_vote, tail_named, tail_reaches}
use Rattle.proof_deeds.proofs.Worlds.{Within, done_does}

-- the entries that are given are of the leader id
numbered_own : (leader : LeaderId ℕ) (n : ℕ) (es : List Entry) → AllByRecursion (λ (e : Entry). e.log_id.leader_id ≡ leader) (numbered entry_meaning leader n es)
numbered_own leader n [] = tt
numbered_own leader n (e ∷ es) = (refl, numbered_own leader (n + 1) es)

-- and hold what they held
numbered_each : (P : Entry → Type 0) → ((e : Entry) (x : LogId ℕ) → P e → P (record e { log_id = x })) → (leader : LeaderId ℕ) (n : ℕ) (es : List Entry) → AllByRecursion P es → AllByRecursion P (numbered entry_meaning leader n es)
numbered_each P f leader n [] a = tt
numbered_each P f leader n (e ∷ es) a = (f e (record { leader_id = leader; index = n }) a.0, numbered_each P f leader (n + 1) es a.1)

length_given : (leader : LeaderId ℕ) (n : ℕ) (es : List Entry) → length (numbered entry_meaning leader n es) ≡ length es
length_given leader n [] = refl
length_given leader n (e ∷ es) = let q : length (numbered entry_meaning leader (n + 1) es) ≡ length es = length_given leader (n + 1) es in omega (arith, q)

next_given : (l : WorldLeader) (es : List Entry) → next (last_assigned l es) ≡ next l.last_log_id + length es
next_given l [] = omega arith
next_given l (e ∷ es) = omega arith

-- without memberships
none_in : (es : List Entry) → AllByRecursion (λ (e : Entry). members_of e.payload ≡ None) es → memberships_in entry_meaning es ≡ []
none_in [] a = refl
none_in (e ∷ es) a = rw a.0 (none_in es a.1)

-- a state that took entries with these memberships
abbrev pub with_ends : WorldState → List Entry → List (StoredMembership ℕ (Unit {0})) → WorldState
with_ends st given ms = record st { ids = st.ids ++ map (λ (e : Entry). e.log_id) given; cm = (ends st.cm st.em ms).0; em = (ends st.cm st.em ms).1 }

module _ (s : Setup Entry) (means : Means s) (t : Turn) (config : EngineConfig ℕ) (own : config.id ≡ t.id) (u : WorldStore) (W : Ideal) where
  -- entries of the leader's vote that are no memberships fit
  plain_fit : (leader : LeaderId ℕ) → IsNamed leader → (es : List Entry) → AllByRecursion (λ (e : Entry). e.log_id.leader_id ≡ leader) es → AllByRecursion (λ e. s.is_membership e ≡ false) es → EntriesFit s es
  plain_fit leader n [] a g = tt
  plain_fit leader n (e ∷ es) a g = (record { named = subst IsNamed (sym a.0) n; groups = λ m. absurd (true≢false (sym m ∙ g.0)) }, plain_fit leader n es a.1 g.1)

  module _ (es : List Entry) (l : WorldLed) (p : PendingLed nat_cmp entry_meaning (λ es. es) u l) where
    abbrev pub given : List Entry
    given = assigned entry_meaning l.leader es

    abbrev add : WorldCommand
    add = command.AppendInputEntries l.leader.vote given

    abbrev T : WorldStore
    T = left_by u l.core.output.items

    pub given_run : Run index (next (last l.core.state.ids)) given
    given_run = subst (λ n. Run index n given) p.knows.end (run_numbered entry_meaning (λ e x. refl) l.leader.vote.leader_id (next l.leader.last_log_id) es)

    -- the store that they leave
    pub given_step : InStep entry_meaning (stored add T) (with_ends l.core.state given (memberships_in entry_meaning given))
    given_step = step_grown entry_meaning T l.core.state given p.core.in_step given_run

    -- a leader at its log's end
    pub given_knows : KnowsLog (l.core.state.ids ++ map (λ (e : Entry). e.log_id) given) (record l.leader { last_log_id = last_assigned l.leader es })
    given_knows =
        let e : next (last (l.core.state.ids ++ map (λ (e : Entry). e.log_id) given)) ≡ next (last l.core.state.ids) + length given = grown_end entry_meaning T l.core.state given p.core.in_step given_run in
        let n : length given ≡ length es = length_given l.leader.vote.leader_id (next l.leader.last_log_id) es in
        let q : next (last_assigned l.leader es) ≡ next l.leader.last_log_id + length es = next_given l.leader es in
        record {
          end = omega (arith, e, n, q, p.knows.end);
          rows = rows_more l.core.state.ids (l.core.state.ids ++ map (λ (e : Entry). e.log_id) given) l.leader.progress.rows (omega (arith, e)) p.knows.rows;
        }

    -- the entries are appended, each as it may be
    pub carried_proposed : Owns s t l → (IsNamed l.leader.vote.leader_id → EntriesFit s given)
        → ((V : Ideal) → Does s W V → StoreIs s T (V.store t.id) → KnowsIn s t l V → AllByRecursion (λ e. number e.log_id.leader_id ≡ (V.store t.id).vote) given → AllMayDo s (appends s t.id given) V)
        → CarriedLed s t u W l → CarriedLed s t u W (proposed entry_meaning es l)
    unfolding proposed
    carried_proposed o fit may h =
        push s t l.core.state.vote.leader_id u W l.core.output.items add (KnowsIn s t l) (KnowsIn s t (proposed entry_meaning es l)) h
        (λ V x k.
        let st : WorldState = l.core.state in
        let z : Shape entry_meaning T l.core.state = shape_of entry_meaning T l.core.state p.core.in_step.mirrors p.core.in_step.marks in
        let vote : l.leader.vote.leader_id ≡ l.core.state.vote.leader_id = ap (λ v. v.leader_id) k.1.vote in
        let named : IsNamed l.leader.vote.leader_id = subst IsNamed (sym vote) (tail_named s T (V.store t.id) l.core.state x.store p.core.in_step) in
        let a : AllByRecursion (λ e. number e.log_id.leader_id ≡ (V.store t.id).vote) given = mine V (ap number vote ∙ sym (tail_vote s T (V.store t.id) l.core.state x.store p.core.in_step)) given (numbered_own l.leader.vote.leader_id (next l.leader.last_log_id) es) in
        let y : (X : Ideal) × Done s t l.core.state.vote.leader_id T add V X × Within V X × (X.store t.id ≡ appended s t.id (V.store t.id) given) =
        done_appends s t l.core.state.vote.leader_id T l.leader.vote given V x.store (shaped_of entry_meaning T l.core.state p.core.in_step) (subst (λ n. Run index n given) z.end given_run)
        (fit named) a (may V x.came x.store k a) in
        let low : (V.store t.id).front ≤ length (V.store t.id).snapshot = low_of V x.store z in (
          y.0,
          y.1,
          (
            known_accepted s t.id V y.0 y.2 l.core.state (subst (λ Z. Keeps s (V.store t.id) Z) (sym y.3) (appended_keeps s t.id (V.store t.id) given low (tail_reaches s T (V.store t.id) l.core.state x.store p.core.in_step))) k.0,
            led_given y.0 (known_led s t.id V y.0 (done_does s t l.core.state.vote.leader_id T add V y.0 y.1) l.core.state l.leader (ap (λ (S : IdealStore). S.vote) y.3) (ap (λ (S : IdealStore). S.session) y.3) k.1),
          ),
        ))
      where
        mine : (V : Ideal) → number l.leader.vote.leader_id ≡ (V.store t.id).vote → (xs : List Entry) → AllByRecursion (λ (e : Entry). e.log_id.leader_id ≡ l.leader.vote.leader_id) xs → AllByRecursion (λ e. number e.log_id.leader_id ≡ (V.store t.id).vote) xs
        mine V e [] a = tt
        mine V e (x ∷ xs) a = (ap number a.0 ∙ e, mine V e xs a.1)

        low_of : (V : Ideal) → StoreIs s T (V.store t.id) → Shape entry_meaning T l.core.state → (V.store t.id).front ≤ length (V.store t.id).snapshot
        low_of V h z = let c : length (V.store t.id).snapshot ≡ length T.snap = ap (λ xs. length xs) h.snapshot ∙ length-map T.snap _ in omega (arith, c, h.front, z.front)

        led_given : (X : Ideal) → KnowsLed s t.id l.core.state l.leader X → KnowsLed s t.id (proposed entry_meaning es l).core.state (proposed entry_meaning es l).leader X
        led_given X k = record { vote = k.vote; session = k.session; rows = k.rows; above = k.above }

    -- where there is no membership among them
    pub pending_plain : memberships_in entry_meaning given ≡ [] → Orderly nat_cmp (proposed entry_meaning es l).core.state → PendingLed nat_cmp entry_meaning (λ es. es) u (proposed entry_meaning es l)
    unfolding proposed
    pending_plain none ord = record {
      core = awaits_one nat_cmp entry_meaning (λ es. es) u l.core.output.items add l.core.state (extend l.core.state (map (λ (e : Entry). e.log_id) given)) p.core (may_put nat_cmp entry_meaning T l.core.state given p.core.in_step given_run ord)
          (subst (λ ms. InStep entry_meaning (stored add T) (with_ends l.core.state given ms)) none given_step);
      knows = given_knows;
    }

  pub proposed_owns : (es : List Entry) (l : WorldLed) → Owns s t l → Owns s t (proposed entry_meaning es l)
  unfolding proposed
  proposed_owns es l o = record { committed = o.committed; own = o.own }

  module _ (reached : Reached s W) (ordered : Ordered nat_cmp entry_meaning u) where
    -- entries without memberships are appended and sent
    pub carried_append : (es : List Entry) (l : WorldLed) → PendingLed nat_cmp entry_meaning (λ es. es) u l → Owns s t l → AllByRecursion (λ (e : Entry). members_of e.payload ≡ None) es
        → Orderly nat_cmp (leader_append_entries nat_cmp entry_meaning config es l).core.state → CarriedLed s t u W l → CarriedLed s t u W (leader_append_entries nat_cmp entry_meaning config es l)
    unfolding leader_append_entries
    carried_append es l p o plain ord h =
        cond_both (length es == 0) l (initiate_replication nat_cmp config false (joined nat_cmp config (last_proposed entry_meaning l.leader es) (proposed entry_meaning es l))) (λ (z : WorldLed). Orderly nat_cmp z.core.state → CarriedLed s t u W z)
        (λ _ _. h)
        (λ _ r.
        subst (λ x. CarriedLed s t u W (initiate_replication nat_cmp config false (joined nat_cmp config x (proposed entry_meaning es l)))) (sym last)
        (carried_initiate s means.owner t config own u W reached ordered false (proposed entry_meaning es l)
        (pending_plain es l p none (joined_ids nat_cmp entry_meaning (λ es. es) config (last_proposed entry_meaning l.leader es) (proposed entry_meaning es l) r)) (proposed_owns es l o) (carried_proposed es l p o fit may h)))
        ord
      where
        bare : AllByRecursion (λ (e : Entry). members_of e.payload ≡ None) (given es l p)
        bare = numbered_each (λ (e : Entry). members_of e.payload ≡ None) (λ e x k. k) l.leader.vote.leader_id (next l.leader.last_log_id) es plain

        none : memberships_in entry_meaning (given es l p) ≡ []
        none = none_in (given es l p) bare

        last : last_proposed entry_meaning l.leader es ≡ None
        last = ap (λ ms. slice_get ms (length ms - 1)) none

        unmarked : (xs : List Entry) → AllByRecursion (λ (e : Entry). members_of e.payload ≡ None) xs → AllByRecursion (λ e. s.is_membership e ≡ false) xs
        unmarked [] a = tt
        unmarked (x ∷ xs) a = (means.is_membership x ∙ ap is_some a.0, unmarked xs a.1)

        fit : IsNamed l.leader.vote.leader_id → EntriesFit s (given es l p)
        fit n = plain_fit l.leader.vote.leader_id n (given es l p) (numbered_own l.leader.vote.leader_id (next l.leader.last_log_id) es) (unmarked (given es l p) bare)

        may : (V : Ideal) → Does s W V → StoreIs s (left_by u l.core.output.items) (V.store t.id) → KnowsIn s t l V → AllByRecursion (λ e. number e.log_id.leader_id ≡ (V.store t.id).vote) (given es l p) → AllMayDo s (appends s t.id (given es l p)) V
        may V d x k a = plain_allowed s t.id (given es l p) V (tail_streams s means.owner t (left_by u l.core.output.items) V l x p.core.in_step k.1 o).leads (tail_reaches s (left_by u l.core.output.items) (V.store t.id) l.core.state x p.core.in_step) a (unmarked (given es l p) bare)
