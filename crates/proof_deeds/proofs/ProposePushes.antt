-- A leader's entries, done by deeds.
use Rattle.std.proofs.Common.{ℕ, ◌+◌, ◌≤◌, ◌≡◌, inl, inr, ⊎_elim, false, List, [], ◌∷◌, ◌++◌, length, map, arith, refl, sym, ap, ◌∙◌, subst, true≢false, length-append, append_assoc, append-nil}
use Rattle.std.specs.List.{AllByRecursion}
use Rattle.std.specs.Map.{values_of}
use Rattle.std.proofs.lemmas.List.{map-append}
use Rattle.raft_node.specs.raft_state.declared.ids.LeaderId.{LeaderId}
use Rattle.raft_node.specs.raft_state.declared.ids.Vote.{Vote}
use Rattle.raft_node.specs.raft_state.Order.{next}
use Rattle.raft_node.specs.raft_command.declared.command.Command.TheVariants as command
use Rattle.proof_agreement.specs.Machine.{Setup}
use Rattle.proof_agreement.specs.Stores.{whole, entry_at}
use Rattle.proof_agreement.specs.Deeds.{LeaderAppend, Leads, Reaches, AllMayDo, does, run_all}
use Rattle.proof_agreement.proofs.WholeLogs.{get_left, whole_append}
use Rattle.raft_node.specs.raft_store.declared.entry.Entry.{Entry}
use Rattle.raft_node.specs.raft_store.Entries.{entry_meaning}
use Rattle.raft_node.specs.raft_store.Types.{WorldStore}
use Rattle.raft_node.proofs.raft_store_proofs.Lists.{Run, values_with}
use Rattle.proof_mirror.specs.Ready.{Shaped}
use Rattle.proof_mirror.proofs.Puts.{put_stored}
use Rattle.proof_mirror.proofs.Shape.{run_of_ids}
use Rattle.raft_node.specs.declared.node.Turn.{Turn}
use Rattle.proof_deeds.specs.Chains.{AllClaimed, AcceptsAcknowledged, doer, stored, Done}
use Rattle.proof_deeds.specs.Follows.{StoreIs, RestIs}
use Rattle.proof_deeds.specs.Images.{Ideal, IdealStore, IdealEntry, IdealDeed, IsWellFormedEntry, EntriesFit, number, image, images}
use Rattle.proof_deeds.proofs.Keeps.{Keeps}
use Rattle.proof_deeds.proofs.Tails.{index}
use Rattle.proof_deeds.proofs.Worlds.{Within, within_run, at_put, each_more, each_mapped, rest_on}

module _ (s : Setup Entry) (n : ℕ) where
  -- the ideal store with these entries behind
  abbrev pub appended : IdealStore → List Entry → IdealStore
  appended S es = record S { entries = S.entries ++ images es }

  -- one deed for each
  abbrev pub appends : List Entry → List IdealDeed
  appends es = map (λ (e : Entry). LeaderAppend n e) es

  -- the entry that a deed puts behind is the world's
  own_image : (S : IdealStore) (e : Entry) → number e.log_id.leader_id ≡ S.vote → record S { entries = S.entries ++ (let x : IdealEntry = record { leader = S.vote; payload = e } in x) ∷ [] } ≡ appended S (e ∷ [])
  own_image S e o = ap (λ d. record S { entries = S.entries ++ (let x : IdealEntry = record { leader = d; payload = e } in x) ∷ [] }) (sym o)

  next_store : (W : Ideal) (e : Entry) → number e.log_id.leader_id ≡ (W.store n).vote → (does s W (LeaderAppend n e)).store n ≡ appended (W.store n) (e ∷ [])
  next_store W e o = at_put W n (record (W.store n) { entries = (W.store n).entries ++ (let x : IdealEntry = record { leader = (W.store n).vote; payload = e } in x) ∷ [] }) ∙ own_image (W.store n) e o

  pub appends_store : (es : List Entry) (W : Ideal) → AllByRecursion (λ e. number e.log_id.leader_id ≡ (W.store n).vote) es → (run_all s (appends es) W).store n ≡ appended (W.store n) es
  appends_store [] W a = ap (λ ys. record (W.store n) { entries = ys }) (sym (append-nil (W.store n).entries))
  appends_store (e ∷ es) W a =
      let N : Ideal = does s W (LeaderAppend n e) in
      let q : (does s W (LeaderAppend n e)).store n ≡ appended (W.store n) (e ∷ []) = next_store W e a.0 in
      appends_store es (does s W (LeaderAppend n e)) (subst (λ (S : IdealStore). AllByRecursion (λ e. number e.log_id.leader_id ≡ S.vote) es) (sym q) a.1)
      ∙ (ap (λ S. appended S es) q ∙ ap (λ ys. record (W.store n) { entries = ys }) (append_assoc (W.store n).entries (image e ∷ []) (images es)))

  pub appends_claimed : (es : List Entry) (W : Ideal) → AllClaimed s (appends es) W
  appends_claimed [] W = tt
  appends_claimed (e ∷ es) W = (tt, appends_claimed es (does s W (LeaderAppend n e)))

  pub appends_decided : (es : List Entry) (W : Ideal) → (run_all s (appends es) W).decided ≡ W.decided
  appends_decided [] W = refl
  appends_decided (e ∷ es) W = appends_decided es (does s W (LeaderAppend n e))

  -- entries that are no memberships
  pub plain_allowed : (es : List Entry) (W : Ideal) → Leads s (W.store n) n → Reaches (W.store n) → AllByRecursion (λ e. number e.log_id.leader_id ≡ (W.store n).vote) es → AllByRecursion (λ e. s.is_membership e ≡ false) es → AllMayDo s (appends es) W
  plain_allowed [] W l r a p = tt
  plain_allowed (e ∷ es) W l r a p =
      let q : (does s W (LeaderAppend n e)).store n ≡ appended (W.store n) (e ∷ []) = next_store W e a.0 in (
        record { leads = l; reaches = r; same = λ m. absurd (true≢false (sym m ∙ p.0)); settled = λ m. absurd (true≢false (sym m ∙ p.0)); change = λ m. absurd (true≢false (sym m ∙ p.0)) },
        plain_allowed es (does s W (LeaderAppend n e))
            (subst (λ S. Leads s S n) (sym q) (record { own = l.own; vote_committed = l.vote_committed }))
            (subst Reaches (sym q) (let k : length ((W.store n).entries ++ image e ∷ []) ≡ length (W.store n).entries + length (image e ∷ []) = length-append (W.store n).entries (image e ∷ []) in omega (arith, r, k)))
            (subst (λ (S : IdealStore). AllByRecursion (λ e. number e.log_id.leader_id ≡ S.vote) es) (sym q) a.1) p.1,
      )

  -- a store with entries behind holds what it held
  pub appended_keeps : (S : IdealStore) (es : List Entry) → S.front ≤ length S.snapshot → Reaches S → Keeps s S (appended S es)
  appended_keeps S es low r = record {
    vote = refl;
    vote_committed = refl;
    committed = omega arith;
    holds = λ k x h. ⊎_elim (λ l. inl l)
        (λ p. let q : whole (appended S es) ≡ whole S ++ images es = whole_append S low (images es) r in
        inr (
          let e : length (whole (appended S es)) ≡ length (whole S) + length (images es) = ap (λ ys. length ys) q ∙ length-append (whole S) (images es) in omega (arith, e, p.0),
          ap (λ ys. (entry_at s ys k).leader) q ∙ (ap (λ y. y.leader) (get_left s (whole S) (images es) k p.0) ∙ p.1),
        )) h;
  }

module _ (s : Setup Entry) (t : Turn) (v : LeaderId ℕ) where
  -- entries of a leader, each under its own leader id
  pub done_appends : (u : WorldStore) (w : Vote ℕ) (es : List Entry) (W : Ideal) → StoreIs s u (W.store t.id) → Shaped entry_meaning u → Run index (next u.front + length (values_of u.log)) es → EntriesFit s es
      → AllByRecursion (λ e. number e.log_id.leader_id ≡ (W.store t.id).vote) es → AllMayDo s (appends s t.id es) W
      → (V : Ideal) × Done s t v u (command.AppendInputEntries w es) W V × Within W V × (V.store t.id ≡ appended s t.id (W.store t.id) es)
  done_appends u w es W h z r fit a m =
      let xs : List Entry = values_of u.log in
      let V : Ideal = run_all s (appends s t.id es) W in
      let q : (run_all s (appends s t.id es) W).store t.id ≡ appended s t.id (W.store t.id) es = appends_store s t.id es W a in
      let x : values_of (stored (command.AppendInputEntries w es) u).log ≡ values_of u.log ++ es =
      ap values_of (put_stored entry_meaning u (next u.front + length (values_of u.log)) es z.keys (run_of_ids entry_meaning (next u.front) (values_of u.log) z.run) refl r) ∙ values_with index (values_of u.log ++ es) in (
        V,
        record {
          deeds = appends s t.id es;
          claimed = appends_claimed s t.id es W;
          answered = each_mapped (AcceptsAcknowledged s []) (λ (e : Entry). LeaderAppend t.id e) (λ e. tt) es;
          commits = appends_decided s t.id es W;
          by = each_mapped (λ d. doer d ≡ t.id) (λ (e : Entry). LeaderAppend t.id e) (λ e. refl) es;
          allowed = m;
          result = refl;
          store = subst (StoreIs s (stored (command.AppendInputEntries w es) u)) (sym q) (record {
            vote = h.vote;
            vote_committed = h.vote_committed;
            front = h.front;
            entries = ap (λ ys. ys ++ images es) h.entries ∙ (sym (map-append image (values_of u.log) es) ∙ ap images (sym x));
            snapshot = h.snapshot;
            saved = h.saved;
            saved_leader = h.saved_leader;
            applied = h.applied;
            front_is = h.front_is;
            vote_named = h.vote_named;
            saved_named = h.saved_named;
            entries_fit = subst (EntriesFit s) (sym x) (each_more (IsWellFormedEntry s) (values_of u.log) es h.entries_fit fit);
            snapshot_fit = h.snapshot_fit;
          });
          rest = λ y g o k _ _.
              let b : RestIs s t.id y (run_all s (appends s t.id es) W) = rest_on s W (run_all s (appends s t.id es) W) (within_run s (appends s t.id es) W m) t.id y (ap (λ (S : IdealStore). S.session) q) (ap (λ (S : IdealStore). S.noted) q) k in
              record { session = b.session; targets = b.targets; noted = b.noted; records = b.records };
        },
        within_run s (appends s t.id es) W m,
        q,
      )
