-- What a leader's table grants may be committed by a quorum in the ideal world.
use Rattle.std.proofs.Common.{ℕ, ◌+◌, ◌<◌, ◌≤◌, ◌≡◌, ◌⊎◌, inl, inr, ⊎_elim, Bool, true, false, cond, List, [], ◌∷◌, length, map, take, arith, refl, sym, ap, ◌∙◌, subst, true≢false, Option, None, Some}
use Rattle.std.specs.Prelude.{IfSome, Contains, unwrap_or, filter, slice_get}
use Rattle.std.specs.List.{AllByRecursion, list_any}
use Rattle.std.specs.declared.cmp.Ordering.{Ordering}
use Rattle.std.specs.declared.cmp.Ordering.TheVariants.{Less, Equal, Greater}
use Rattle.std.specs.Ordering.{is_eq, is_ge, is_gt, is_le, is_lt, nat_cmp, ordering_reverse}
use Rattle.std.proofs.lemmas.Cmp.{nat_cmp_total}
use Rattle.raft_node.specs.raft_state.declared.ids.LogId.{LogId}
use Rattle.raft_node.specs.raft_state.declared.membership.Members.{Members}
use Rattle.raft_node.specs.raft_state.Fits.{fits}
use Rattle.raft_node.specs.raft_state.Invariants.{first_index}
use Rattle.raft_node.specs.raft_state.Log.{at}
use Rattle.raft_node.specs.raft_state.LogLaws.{IsRun, at-run}
use Rattle.raft_node.specs.raft_state.Members.{voter_ids, is_voter}
use Rattle.raft_node.specs.raft_state.Order.{next, last_id_cmp}
use Rattle.raft_node.specs.raft_state.Same.{nat_same}
use Rattle.raft_node.specs.raft_state.Sorted.{has_id}
use Rattle.raft_node.specs.raft_state.State.{commits}
use Rattle.raft_node.proofs.raft_state_proofs.LogLists.{at_has, has_le_index}
use Rattle.raft_node.proofs.raft_state_proofs.Orders.{or_cases, last_total, le_of_not_lt, lt_of_gt, lt_le, is_equal}
use Rattle.raft_node.specs.raft_progress_entry.declared.entry.ProgressEntry.{ProgressEntry}
use Rattle.raft_node.specs.raft_progress.Quorum.{is_quorum}
use Rattle.raft_node.specs.raft_progress.Table.{holders, voter_rows}
use Rattle.raft_node.proofs.raft_progress_proofs.GrantedLaws.{is_reached, voter_values, granted_of, granted_is_reached}
use Rattle.raft_node.specs.raft_command.declared.config.EngineConfig.{EngineConfig}
use Rattle.raft_node.specs.raft_steps.Invariants.{EntryFits, IsSoundLed}
use Rattle.raft_node.specs.raft_proposer.Leader.{granted_id}
use Rattle.raft_node.proofs.raft_steps_proofs.KeptCommit.{each_taken, granted_fits}
use Rattle.proof_mirror.proofs.Sound.{commit_fits}
use Rattle.proof_agreement.specs.Machine.{Setup, Includes, IsQuorum}
use Rattle.proof_agreement.specs.Stores.{Accepted, whole, entry_at, effective_membership_of}
use Rattle.proof_agreement.specs.Deeds.{HasAccepted, MayCommitByQuorum}
use Rattle.raft_node.specs.raft_store.declared.entry.Entry.{Entry}
use Rattle.raft_node.specs.raft_store.Entries.{entry_meaning}
use Rattle.raft_node.specs.raft_store.Store as store
use Rattle.raft_node.specs.raft_store.Types.{WorldStore}
use Rattle.proof_mirror.specs.Ready.{InStep}
use Rattle.proof_mirror.proofs.Commits.{whole_at}
use Rattle.proof_mirror.proofs.Places.{at_reaches}
use Rattle.proof_mirror.proofs.Shape.{Shape, shape_of, whole_run, ids_of_run, shaped_of}
use Rattle.raft_node.specs.declared.node.Turn.{Turn}
use Rattle.raft_node.specs.raft_calls.Feeds.{WorldLed}
use Rattle.proof_deeds.specs.Follows.{StoreIs}
use Rattle.proof_deeds.specs.Images.{Ideal, IdealStore, IsNamed, number, groups_in}
use Rattle.proof_deeds.specs.Knows.{KnowsMatch, KnowsLed}
use Rattle.proof_deeds.proofs.LeaderSends.{Owns, tail_streams}
use Rattle.proof_deeds.proofs.Quorums.{Means, last_among, quorum_is, effective_is, effective_groups}
use Rattle.proof_deeds.proofs.Roles.{WorldState}
use Rattle.proof_deeds.proofs.Stored.{filter_none}
use Rattle.proof_deeds.proofs.Tails.{tail_whole, tail_vote, tail_length, whole_fit, named_of_id, entry_of_id}

ge_not_lt : (r : Ordering) → is_ge r ≡ true → is_lt r ≡ false
ge_not_lt Less e = cc
ge_not_lt Equal e = refl
ge_not_lt Greater e = refl

lt_gt : (r : Ordering) → is_lt r ≡ true → is_gt (ordering_reverse r) ≡ true
lt_gt Less e = refl
lt_gt Equal e = cc
lt_gt Greater e = cc

-- An id of the log at or past the snapshot's end
module _ (s : Setup Entry) (u : WorldStore) (S : IdealStore) (st : WorldState) (h : StoreIs s u S) (j : InStep entry_meaning u st) where
  tail_slot : (x : LogId ℕ) → at st.ids x.index ≡ Some x → next st.committed ≤ x.index → slice_get (map (λ (e : Entry). e.log_id) (store.whole u)) x.index ≡ Some x
  tail_slot x e l =
      let p : Shape entry_meaning u st = shape_of entry_meaning u st j.mirrors j.marks in
      let r : IsRun 0 (map (λ (e : Entry). e.log_id) (store.whole u)) = ids_of_run entry_meaning 0 (store.whole u) (whole_run entry_meaning u st p) in
      sym (at-run 0 x.index (map (λ (e : Entry). e.log_id) (store.whole u)) r)
      ∙ (ap (at (map (λ (e : Entry). e.log_id) (store.whole u))) (let q : 0 + x.index ≡ x.index = omega arith in q)
      ∙ (whole_at entry_meaning u st x.index j.mirrors p (omega (arith, p.settled, l)) ∙ e))

  -- past what is committed it stands in the ideal whole log
  pub tail_at : (x : LogId ℕ) → at st.ids x.index ≡ Some x → next st.committed ≤ x.index → ((entry_at s (whole S) x.index).leader ≡ number x.leader_id) × IsNamed x.leader_id
  tail_at x e l = (
    ap (λ ys. (entry_at s ys x.index).leader) (tail_whole s u S st h j) ∙ entry_of_id s (store.whole u) x.index x (tail_slot x e l),
    named_of_id s (store.whole u) x.index x (whole_fit s u S h (shaped_of entry_meaning u st j)) (tail_slot x e l),
  )

  pub tail_inside : (x : LogId ℕ) → at st.ids x.index ≡ Some x → x.index < length (whole S)
  tail_inside x e = omega (arith, at_reaches (first_index st.purged) x.index st.ids x j.marks.run e, tail_length s u S st h j)

-- who is among the holders of an id
holder_is : (R : Type 0) (m : ℕ) (p : Option (LogId ℕ)) (rows : List (ℕ × ProgressEntry ℕ)) → AllByRecursion (λ row. is_ge (last_id_cmp nat_cmp row.1.matching p) ≡ true → row.0 ≡ m → R) rows
    → has_id nat_cmp (holders (last_id_cmp nat_cmp) (λ (e : ProgressEntry ℕ). e.matching) rows p) m ≡ true → R
holder_is R m p [] a e = absurd (true≢false (sym e))
holder_is R m p (row ∷ rows) a e = go (is_ge (last_id_cmp nat_cmp row.1.matching p)) refl (holder_is R m p rows a.1) e where
  go : (b : Bool) → is_ge (last_id_cmp nat_cmp row.1.matching p) ≡ b → (has_id nat_cmp (holders (last_id_cmp nat_cmp) (λ (e : ProgressEntry ℕ). e.matching) rows p) m ≡ true → R)
      → has_id nat_cmp (map (λ row. row.0) (cond b (row ∷ filter (λ row. is_ge (last_id_cmp nat_cmp row.1.matching p)) rows) (filter (λ row. is_ge (last_id_cmp nat_cmp row.1.matching p)) rows))) m ≡ true → R
  go true f rest g =
      ⊎_elim (λ q. a.0 f (sym (nat_same m row.0 (is_equal _ q)))) rest
      (or_cases (is_eq (nat_cmp m row.0)) (has_id nat_cmp (holders (last_id_cmp nat_cmp) (λ (e : ProgressEntry ℕ). e.matching) rows p) m) g)
  go false f rest g = rest g

-- without groups nobody votes
no_voters : (m : Members ℕ (Unit {0})) → m.groups ≡ [] → voter_ids nat_cmp m ≡ []
no_voters m e = filter_none (is_voter nat_cmp m) (map (λ entry. entry.0) m.nodes) (λ id. ap (λ gs. list_any (λ group. has_id nat_cmp group id) gs) e)

module _ (s : Setup Entry) (means : Means s) (t : Turn) (config : EngineConfig ℕ) (l : WorldLed) (sound : IsSoundLed nat_cmp config l) (x : LogId ℕ) (granted_x : granted_id nat_cmp (is_quorum nat_cmp) l.leader ≡ Some x) where
  -- who holds it
  abbrev pub by : List ℕ
  by = holders (last_id_cmp nat_cmp) (λ (e : ProgressEntry ℕ). e.matching) (voter_rows l.leader.progress) (Some x)

  -- a quorum has reached it, and it is a voter's
  pub reached_x : (is_quorum nat_cmp l.leader.progress.set by ≡ true) × Contains (voter_values (is_quorum nat_cmp) (last_id_cmp nat_cmp) (λ (e : ProgressEntry ℕ). e.matching) l.leader.progress) (Some x)
  reached_x = go (granted_of (is_quorum nat_cmp) (last_id_cmp nat_cmp) (λ (e : ProgressEntry ℕ). e.matching) l.leader.progress) granted_x (granted_is_reached (is_quorum nat_cmp) (last_id_cmp nat_cmp) (λ (e : ProgressEntry ℕ). e.matching) l.leader.progress) where
    go : (o : Option (Option (LogId ℕ))) → unwrap_or o l.leader.progress.default ≡ Some x
        → IfSome o (λ p. (is_reached (is_quorum nat_cmp) (last_id_cmp nat_cmp) (λ (e : ProgressEntry ℕ). e.matching) l.leader.progress p ≡ true) × Contains (voter_values (is_quorum nat_cmp) (last_id_cmp nat_cmp) (λ (e : ProgressEntry ℕ). e.matching) l.leader.progress) p)
        → (is_quorum nat_cmp l.leader.progress.set by ≡ true) × Contains (voter_values (is_quorum nat_cmp) (last_id_cmp nat_cmp) (λ (e : ProgressEntry ℕ). e.matching) l.leader.progress) (Some x)
    go None e k = let z : None ≡ Some x = sym sound.leader_fits.ungranted ∙ e in absurd cc
    go (Some p) e k = subst (λ p. (is_reached (is_quorum nat_cmp) (last_id_cmp nat_cmp) (λ (e : ProgressEntry ℕ). e.matching) l.leader.progress p ≡ true) × Contains (voter_values (is_quorum nat_cmp) (last_id_cmp nat_cmp) (λ (e : ProgressEntry ℕ). e.matching) l.leader.progress) p) e k

  -- so there are groups
  grouped : l.core.state.em.membership.groups ≡ [] → ⊥
  grouped e =
      let n : l.leader.progress.voters ≡ 0 = sound.leader_fits.progress.voters ∙ ap (λ ids. length ids) (no_voters l.core.state.em.membership e) in
      let c : Contains (map (λ (row : ℕ × ProgressEntry ℕ). row.1.matching) (take 0 l.leader.progress.rows)) (Some x) = subst (λ k. Contains (map (λ (row : ℕ × ProgressEntry ℕ). row.1.matching) (take k l.leader.progress.rows)) (Some x)) n reached_x.1 in
      absurd (omega (arith, c.1))

  -- a quorum of the effective membership of the ideal store
  quorum_x : (u : WorldStore) (S : IdealStore) → StoreIs s u S → InStep entry_meaning u l.core.state → IsQuorum s (effective_membership_of s (whole S)) (has_id nat_cmp by)
  quorum_x u S h j = go l.core.state.em.membership.groups refl where
    em : l.core.state.em ≡ last_among s means (store.whole u)
    em = j.mirrors.em

    groups : (g : List ℕ) (gs : List (List ℕ)) → l.core.state.em.membership.groups ≡ g ∷ gs → groups_in (effective_membership_of s (whole S)).payload ≡ g ∷ gs
    groups g gs e =
        ap (λ ys. groups_in (effective_membership_of s ys).payload) (tail_whole s u S l.core.state h j)
        ∙ ⊎_elim
        (λ p. let z : g ∷ gs ≡ [] = sym e ∙ ap (λ m. m.membership.groups) (em ∙ p.0) in absurd cc)
        (λ p. effective_groups s means (store.whole u) p ∙ (ap (λ m. m.membership.groups) (sym em) ∙ e))
        (effective_is s means (store.whole u))

    go : (gs : List (List ℕ)) → l.core.state.em.membership.groups ≡ gs → IsQuorum s (effective_membership_of s (whole S)) (has_id nat_cmp by)
    go [] e = absurd (grouped e)
    go (g ∷ gs) e = quorum_is s means (effective_membership_of s (whole S)) g gs by (groups g gs e) (subst (λ ys. is_quorum nat_cmp ys by ≡ true) (sound.leader_fits.progress.set ∙ e) reached_x.0)

  -- it fits the log, and where it is to be committed it stands past what is
  pub fits_x : commits nat_cmp l.core.state (Some x) ≡ true → (at l.core.state.ids x.index ≡ Some x) × (next l.core.state.committed ≤ x.index)
  fits_x g = commit_fits nat_cmp nat_cmp_total nat_same l.core.state sound.sound x (subst (λ o. fits nat_cmp l.core.state.ids l.core.state.purged o ≡ true) granted_x (granted_fits nat_cmp nat_cmp_total nat_same config l sound)) g

  -- who holds an id at or above it holds its index
  held_past : commits nat_cmp l.core.state (Some x) ≡ true → (y : LogId ℕ) → fits nat_cmp l.core.state.ids l.core.state.purged (Some y) ≡ true → is_ge (last_id_cmp nat_cmp (Some y) (Some x)) ≡ true → x.index ≤ y.index
  held_past g y f e =
      let le : is_le (last_id_cmp nat_cmp (Some x) (Some y)) ≡ true = le_of_not_lt (last_total nat_cmp nat_cmp_total) (Some y) (Some x) (ge_not_lt _ e) in
      let lt : is_lt (last_id_cmp nat_cmp l.core.state.committed (Some y)) ≡ true = lt_le (last_total nat_cmp nat_cmp_total) l.core.state.committed (Some x) (Some y) (lt_of_gt (last_total nat_cmp nat_cmp_total) (Some x) l.core.state.committed g) le in
      let b : at l.core.state.ids y.index ≡ Some y = (commit_fits nat_cmp nat_cmp_total nat_same l.core.state sound.sound y f (ap is_gt ((last_total nat_cmp nat_cmp_total).antisymm (Some y) l.core.state.committed) ∙ lt_gt _ lt)).0 in
      has_le_index nat_cmp nat_cmp_total x y None (first_index l.core.state.purged) l.core.state.ids sound.sound.log.run sound.sound.log.rising (at_has x.index x l.core.state.ids (fits_x g).0) (at_has y.index y l.core.state.ids b) le

  -- the ideal condition
  pub may_decide : (u : WorldStore) (V : Ideal) → StoreIs s u (V.store t.id) → InStep entry_meaning u l.core.state → KnowsLed s t.id l.core.state l.leader V → Owns s t l → commits nat_cmp l.core.state (Some x) ≡ true → x.leader_id ≡ l.core.state.vote.leader_id
      → MayCommitByQuorum s V t.id x.index (has_id nat_cmp by)
  may_decide u V h j k o g own =
      let q : (at l.core.state.ids x.index ≡ Some x) × (next l.core.state.committed ≤ x.index) = fits_x g in
      record {
        streams = tail_streams s means.owner t u V l h j k o;
        quorum = quorum_x u (V.store t.id) h j;
        inside = tail_inside s u (V.store t.id) l.core.state h j x q.0;
        own = (tail_at s u (V.store t.id) l.core.state h j x q.0 q.1).0 ∙ (ap number own ∙ sym (tail_vote s u (V.store t.id) l.core.state h j));
        each = λ m e. holder_is ((m ≡ t.id) ⊎ HasAccepted V m (V.store t.id).vote x.index) m (Some x) (voter_rows l.leader.progress)
            (each_taken (λ row. is_ge (last_id_cmp nat_cmp row.1.matching (Some x)) ≡ true → row.0 ≡ m → (m ≡ t.id) ⊎ HasAccepted V m (V.store t.id).vote x.index) l.leader.progress.voters l.leader.progress.rows
            (known m l.leader.progress.rows k.rows sound.leader_fits.entries)) e;
      }
    where
      vote : number l.leader.vote.leader_id ≡ (V.store t.id).vote
      vote = ap (λ v. number v.leader_id) k.vote ∙ sym (tail_vote s u (V.store t.id) l.core.state h j)

      row_known : (m : ℕ) (row : ℕ × ProgressEntry ℕ) (y : Option (LogId ℕ)) → IfSome y (λ x. (row.0 ≡ t.id) ⊎ HasAccepted V row.0 (number l.leader.vote.leader_id) x.index) → fits nat_cmp l.core.state.ids l.core.state.purged y ≡ true
          → is_ge (last_id_cmp nat_cmp y (Some x)) ≡ true → row.0 ≡ m → (m ≡ t.id) ⊎ HasAccepted V m (V.store t.id).vote x.index
      row_known m row None a f e n = cc
      row_known m row (Some y) a f e n =
          ⊎_elim (λ p. inl (sym n ∙ p))
          (λ p. inr (record { session = p.session; last = p.last; upto = p.upto; past = omega (arith, p.past, held_past g y f e); leader = p.leader ∙ vote; sent = subst (λ i. Includes V.messages (Accepted i p.session p.last p.upto)) n p.sent })) a

      known : (m : ℕ) (rows : List (ℕ × ProgressEntry ℕ)) → AllByRecursion (KnowsMatch t.id (number l.leader.vote.leader_id) V) rows → AllByRecursion (λ row. EntryFits nat_cmp l.core.state.ids l.core.state.purged row.1) rows
          → AllByRecursion (λ row. is_ge (last_id_cmp nat_cmp row.1.matching (Some x)) ≡ true → row.0 ≡ m → (m ≡ t.id) ⊎ HasAccepted V m (V.store t.id).vote x.index) rows
      known m [] a f = tt
      known m (row ∷ rows) a f = (row_known m row row.1.matching a.0 f.0.matching, known m rows a.1 f.1)
