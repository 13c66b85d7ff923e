-- What commands, builds and starts make of a packed store.
use Rattle.std.proofs.Common.{ℕ, ◌+◌, ◌-◌, ◌<◌, ◌≤◌, ◌≡◌, ⊎_elim, Bool, true, false, List, [], length, take, arith, refl, sym, ap, ◌∙◌, subst, Option, Some, None}
use Rattle.std.specs.Prelude.{nat_lt, nat_le, ◌&&◌, map, if◌then◌else◌}
use Rattle.std.specs.Option.{option_or}
use Rattle.std.specs.Ordering.{nat_cmp, is_le, is_lt}
use Rattle.std.proofs.lemmas.Bool.{and_parts, both_ways, cases_lt, cond_both, le-leb}
use Rattle.std.proofs.lemmas.Bool.Decides.{nat_tests}
use Rattle.std.proofs.lemmas.Cmp.{nat_cmp_total}
use Rattle.std.proofs.lemmas.List.{map-append}
use Rattle.raft_state.specs.declared.ids.LogId.{LogId}
use Rattle.raft_state.specs.Fits.{is_within}
use Rattle.raft_state.specs.Log.{at, last}
use Rattle.raft_state.specs.LogLaws.{IsRun, at-append}
use Rattle.raft_state.specs.Order.{next, last_id_cmp}
use Rattle.raft_state.specs.Same.{found_is, nat_same}
use Rattle.raft_state.specs.State.{is_found}
use Rattle.raft_state.proofs.Orders.{last_total, lt_not_ge, within_le}
use Rattle.raft_command.specs.declared.command.Command.TheVariants.{SaveVote, AppendInputEntries, DeleteConflictLog, PurgeLog, Commit, StateMachine, BecomeLeader, QuitLeader, ReplicateCommitted, Replicate, RebuildReplicationStreams, SendVote, Respond}
use Rattle.raft_command.specs.declared.sm.CommandPayload.TheVariants.{BuildSnapshot, GetSnapshot, BeginReceivingSnapshot, InstallFullSnapshot, Apply}
use Rattle.raft_store.specs.declared.entry.Entry.{Entry}
use Rattle.raft_store.specs.Built.{keep_snapshot, meta_of}
use Rattle.raft_store.specs.Entries.{entry_meaning}
use Rattle.raft_store.specs.Restart.{greater_id, holds_some, is_outrun, memberships_of, rebuilt, restarted, settled, settled_by, start_committed, started}
use Rattle.raft_store.specs.Store.{due, exec, exec_payload, past, whole}
use Rattle.raft_store.specs.Types.{WorldCommand, WorldPayload, WorldStore}
use Rattle.raft_store.proofs.Lists.{next_last_0}
use Rattle.proof_mirror.specs.Ready.{Shaped, Ordered}
use Rattle.proof_mirror.proofs.Orders.{stands_last}
use Rattle.proof_mirror.proofs.Places.{end_at_none, none_past_end}
use Rattle.proof_mirror.proofs.Restarting.{restart_in_step}
use Rattle.proof_mirror.proofs.Shape.{length_ids}
use Rattle.proof_packed_stores.specs.Laws.{Brings, BringsPayload, PacksStoresOf}
use Rattle.proof_packed_stores.specs.Stores.{Application, Packed, PackedStore, WorldMembership, packed_keep_snapshot, packed, packed_committed, packed_exec, packed_exec_payload, packed_holds, packed_memberships, packed_outrun, packed_rebuilt, packed_restarted, packed_settled, packed_settled_by, packed_started, packed_store, packed_upto, packed_whole}
use Rattle.proof_packed_stores.proofs.Lists.{memberships_kept, packed_more, take_past}

module _ {S : Type 0} (app : Application S) where
  -- a choice between stores
  kept_if : (b : Bool) (t u : WorldStore) → packed_store app (if b then t else u) ≡ (if b then packed_store app t else packed_store app u)
  kept_if true t u = refl
  kept_if false t u = refl

  payload_kept : (brought : Packed S) (p : WorldPayload) (t : WorldStore) → BringsPayload app brought p → packed_store app (exec_payload entry_meaning (λ es. es) p t) ≡ packed_exec_payload app brought p (packed_store app t)
  payload_kept brought BuildSnapshot t h = refl
  payload_kept brought (GetSnapshot tx) t h = refl
  payload_kept brought (BeginReceivingSnapshot tx) t h = refl
  payload_kept brought (InstallFullSnapshot s) t h = ap (λ (p : Packed S). record (packed_store app t) { meta = s.meta; snap = p; applied = p }) h
  payload_kept brought (Apply es) t h = refl

  -- each command, on every store
  pub command_kept : (brought : Packed S) (c : WorldCommand) (t : WorldStore) → Brings app brought c → packed_store app (exec entry_meaning (λ es. es) c t) ≡ packed_exec app brought c (packed_store app t)
  command_kept brought (SaveVote v) t h = refl
  command_kept brought (AppendInputEntries v es) t h = refl
  command_kept brought (DeleteConflictLog since) t h = refl
  command_kept brought (PurgeLog upto) t h = refl
  command_kept brought (Commit seq already upto) t h = ap (λ (p : Packed S). record (packed_store app t) { saved = Some upto; applied = p }) (packed_more app t.applied (due t upto))
  command_kept brought (StateMachine c) t h = payload_kept brought c.payload t h
  command_kept brought BecomeLeader t h = refl
  command_kept brought QuitLeader t h = refl
  command_kept brought (ReplicateCommitted x) t h = refl
  command_kept brought (Replicate target f) t h = refl
  command_kept brought (RebuildReplicationStreams targets) t h = refl
  command_kept brought (SendVote req) t h = refl
  command_kept brought (Respond when reply) t h = refl

  -- the end of a build
  pub built_kept : (es : List Entry) (t : WorldStore) → packed_store app (keep_snapshot entry_meaning es t) ≡ packed_keep_snapshot (packed app es) (packed_store app t)
  built_kept es t = kept_if (nat_lt (length t.snap) (length es)) (record t { meta = meta_of entry_meaning es; snap = es }) t

  -- entries are made to fit the snapshot
  settled_kept : (t : WorldStore) → packed_store app (settled nat_cmp entry_meaning t) ≡ packed_settled app (packed_store app t)
  settled_kept t = go t.meta.last_log_id
    where
      go : (o : Option (LogId ℕ)) → packed_store app (settled_by nat_cmp entry_meaning t o) ≡ packed_settled_by app (packed_store app t) o
      go None = refl
      go (Some x) = kept_if (is_outrun nat_cmp entry_meaning t x) (record t { log = []; front = Some x }) t

  -- a start
  module _ (t : WorldStore) (ids_run : IsRun 0 (map entry_meaning.id_of t.snap)) (end : next t.meta.last_log_id ≡ length t.snap) (within : (x : LogId ℕ) → at (map entry_meaning.id_of t.snap) x.index ≡ Some x → is_within nat_cmp (Some x) t.meta.last_log_id ≡ true) where
    abbrev rest : List Entry
    rest = past (length t.snap) t.log

    ids_length : 0 + length (map entry_meaning.id_of t.snap) ≡ length t.snap
    ids_length = let e : length (map entry_meaning.id_of t.snap) ≡ length t.snap = length_ids entry_meaning t.snap in omega (arith, e)

    -- the ids on both sides of the snapshot's end
    whole_ids : (i : ℕ) → at (map entry_meaning.id_of (whole t)) i ≡ option_or (at (map entry_meaning.id_of t.snap) i) (at (map entry_meaning.id_of rest) i)
    whole_ids i =
        ap (λ ids. at ids i) (map-append entry_meaning.id_of t.snap rest) ∙ at-append (map entry_meaning.id_of t.snap) (map entry_meaning.id_of rest) i

    above : (i : ℕ) → length t.snap ≤ i → at (map entry_meaning.id_of (whole t)) i ≡ at (map entry_meaning.id_of rest) i
    above i l =
        whole_ids i ∙ ap (λ o. option_or o (at (map entry_meaning.id_of rest) i))
        (none_past_end 0 i (map entry_meaning.id_of t.snap) ids_run (omega (arith, l, ids_length)))

    below : (x : LogId ℕ) → x.index < length t.snap → is_found nat_cmp (at (map entry_meaning.id_of (whole t)) x.index) x ≡ true → is_within nat_cmp (Some x) t.meta.last_log_id ≡ true
    below x l q = go (at (map entry_meaning.id_of t.snap) x.index) refl
      where
        held : at (map entry_meaning.id_of (whole t)) x.index ≡ Some x
        held = found_is nat_cmp nat_same (at (map entry_meaning.id_of (whole t)) x.index) x q

        go : (o : Option (LogId ℕ)) → at (map entry_meaning.id_of t.snap) x.index ≡ o → is_within nat_cmp (Some x) t.meta.last_log_id ≡ true
        go None e = let k : 0 + length (map entry_meaning.id_of t.snap) ≤ x.index = end_at_none 0 x.index (map entry_meaning.id_of t.snap) ids_run (omega arith) e in let z : ⊥ = omega (arith, k, ids_length, l) in absurd z
        go (Some y) e = within x (e ∙ (ap (λ o. option_or o (at (map entry_meaning.id_of rest) x.index)) (sym e) ∙ (sym (whole_ids x.index) ∙ held)))

    -- a saved id that the log holds is above the snapshot's last only from the snapshot's end on
    module _ (saved : Bool) where
      abbrev chosen : Option (LogId ℕ) → Bool → Option (LogId ℕ)
      chosen o b = if saved && b then greater_id nat_cmp t.meta.last_log_id o else t.meta.last_log_id

      none_chosen : (b : Bool) (x : Option (LogId ℕ)) → (if b && false then x else t.meta.last_log_id) ≡ t.meta.last_log_id
      none_chosen true x = refl
      none_chosen false x = refl

      greater : (x : LogId ℕ) → x.index < length t.snap → (saved && holds_some nat_cmp entry_meaning t (Some x)) ≡ true → greater_id nat_cmp t.meta.last_log_id (Some x) ≡ t.meta.last_log_id
      greater x l q =
          cond_both (is_lt (last_id_cmp nat_cmp t.meta.last_log_id (Some x))) (Some x) t.meta.last_log_id (λ o. o ≡ t.meta.last_log_id)
          (λ e. absurd (both_ways (is_le (last_id_cmp nat_cmp (Some x) t.meta.last_log_id)) (lt_not_ge (last_total nat_cmp nat_cmp_total) t.meta.last_log_id (Some x) e)
          (within_le nat_cmp nat_cmp_total (Some x) t.meta.last_log_id (below x l (and_parts saved (holds_some nat_cmp entry_meaning t (Some x)) q).1))))
          (λ e. refl)

      below_end : (i : ℕ) → i < length t.snap → nat_le (length t.snap) i ≡ false
      below_end i l = grind (arith, nat_tests)

      chosen_kept : (o : Option (LogId ℕ)) → chosen o (holds_some nat_cmp entry_meaning t o) ≡ chosen o (packed_holds app (packed_store app t) o)
      chosen_kept None = refl
      chosen_kept (Some x) =
          ⊎_elim
          (λ l. cond_both (saved && holds_some nat_cmp entry_meaning t (Some x)) (greater_id nat_cmp t.meta.last_log_id (Some x)) t.meta.last_log_id (λ o. o ≡ t.meta.last_log_id) (greater x l) (λ _. refl)
          ∙ sym (ap (λ b. chosen (Some x) (b && is_found nat_cmp (at (map entry_meaning.id_of rest) x.index) x)) (below_end x.index l) ∙ none_chosen saved (greater_id nat_cmp t.meta.last_log_id (Some x))))
          (λ l. ap (λ o. chosen (Some x) (is_found nat_cmp o x)) (above x.index l)
          ∙ sym (ap (λ b. chosen (Some x) (b && is_found nat_cmp (at (map entry_meaning.id_of rest) x.index) x)) (le-leb (length t.snap) x.index l)))
          (cases_lt x.index (length t.snap))

      committed_kept : start_committed nat_cmp entry_meaning saved t ≡ packed_committed app saved (packed_store app t)
      committed_kept = chosen_kept t.saved

    -- what is applied up to an index at or past the snapshot's end
    upto_kept : (n : ℕ) → length t.snap ≤ n → packed app (take n (whole t)) ≡ packed_upto app (packed_store app t) n
    upto_kept n l = ap (packed app) (take_past n t.snap rest l) ∙ packed_more app t.snap (take (n - length t.snap) rest)

    memberships_whole : memberships_of entry_meaning (whole t) ≡ packed_memberships (packed_whole app (packed_store app t))
    memberships_whole = memberships_kept app (whole t) ∙ ap packed_memberships (packed_more app t.snap rest)

  -- a start on a store that is shaped and in order
  pub start_kept : (saved : Bool) (t : WorldStore) → Shaped entry_meaning t → Ordered nat_cmp entry_meaning t
      → (packed_store app (restarted nat_cmp entry_meaning saved t) ≡ packed_restarted app saved (packed_store app t)) × (started nat_cmp entry_meaning saved t ≡ packed_started app saved (packed_store app t))
  start_kept saved t h o =
      let fit : WorldStore = settled nat_cmp entry_meaning t in
      let r = restart_in_step nat_cmp nat_cmp_total nat_same entry_meaning saved t h o in
      let m = r.0.mirrors in
      let ids : IsRun 0 (map entry_meaning.id_of fit.snap) = m.snap_run in
      let last_is : fit.meta.last_log_id ≡ last (map entry_meaning.id_of fit.snap) = m.tells.last_id in
      let end : next fit.meta.last_log_id ≡ length fit.snap = ap next last_is ∙ (next_last_0 (map entry_meaning.id_of fit.snap) ids ∙ length_ids entry_meaning fit.snap) in
      let within : (x : LogId ℕ) → at (map entry_meaning.id_of fit.snap) x.index ≡ Some x → is_within nat_cmp (Some x) fit.meta.last_log_id ≡ true =
      λ x q. subst (λ p. is_within nat_cmp (Some x) p ≡ true) (sym last_is) (stands_last nat_cmp nat_cmp_total nat_same fit.vote.leader_id (map entry_meaning.id_of fit.snap) None r.1.snapshot (Some x) q) in
      let c : start_committed nat_cmp entry_meaning saved fit ≡ packed_committed app saved (packed_store app fit) = committed_kept fit ids end within saved in
      let marks : next fit.meta.last_log_id ≤ next (start_committed nat_cmp entry_meaning saved fit) = r.0.marks.snapshot in
      let reaches : length fit.snap ≤ next (start_committed nat_cmp entry_meaning saved fit) = omega (arith, marks, end) in
      let settles : packed_store app fit ≡ packed_settled app (packed_store app t) = settled_kept t in (
        ap (λ (p : Packed S). record (packed_store app fit) { applied = p }) (upto_kept fit ids end within (next (start_committed nat_cmp entry_meaning saved fit)) reaches ∙ ap (λ x. packed_upto app (packed_store app fit) (next x)) c)
            ∙ ap (λ (u : PackedStore S). record u { applied = packed_upto app u (next (packed_committed app saved u)) }) settles,
        ap (λ (m : WorldMembership × WorldMembership). record (rebuilt nat_cmp entry_meaning fit (start_committed nat_cmp entry_meaning saved fit)) { cm = m.0; em = m.1 }) (memberships_whole fit ids end within)
            ∙ ap (packed_rebuilt app (packed_store app fit)) c
            ∙ ap (λ (u : PackedStore S). packed_rebuilt app u (packed_committed app saved u)) settles,
      )

module _ {S : Type 0} (app : Application S) (p : Packed S) where
  abbrev with_applied : PackedStore S → PackedStore S
  with_applied t = record t { applied = p }

  settled_alone : (t : PackedStore S) (o : Option (LogId ℕ)) → packed_settled_by app (with_applied t) o ≡ with_applied (packed_settled_by app t o)
  settled_alone t None = refl
  settled_alone t (Some x) = go (packed_outrun app t x)
    where
      go : (b : Bool) → (if b then record (with_applied t) { log = []; front = Some x } else with_applied t) ≡ with_applied (if b then record t { log = []; front = Some x } else t)
      go true = refl
      go false = refl

  -- a start doesn't read what was applied
  start_alone : (saved : Bool) (t : PackedStore S) → (packed_restarted app saved (with_applied t) ≡ packed_restarted app saved t) × (packed_started app saved (with_applied t) ≡ packed_started app saved t)
  start_alone saved t = (
    ap (λ (u : PackedStore S). record u { applied = packed_upto app u (next (packed_committed app saved u)) }) (settled_alone t t.meta.last_log_id),
    ap (λ (u : PackedStore S). packed_rebuilt app u (packed_committed app saved u)) (settled_alone t t.meta.last_log_id),
  )

pub packs_stores : {S : Type 0} (app : Application S) → PacksStoresOf app
packs_stores app = record {
  more = packed_more app;
  commands = command_kept app;
  metas = λ es. refl;
  keeps = built_kept app;
  told = λ t h. (
    sym h.tells.last_id,
    sym h.tells.membership,
    sym (length_ids entry_meaning t.snap) ∙ (sym (next_last_0 (map entry_meaning.id_of t.snap) h.snap_run) ∙ ap next (sym h.tells.last_id)),
  );
  starts = start_kept app;
  settles = settled_kept app;
  forgets = λ saved t p. start_alone app p saved t;
}
