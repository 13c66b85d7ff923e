-- What a bare start finds of a store, by its entries as they are or outrun by the snapshot.
use Rattle.std.proofs.Common.{ℕ, ◌≡◌, ◌∙◌, false, true, List, [], ◌++◌, append-nil, map, refl, ap, sym, Option, None, Some}
use Rattle.std.specs.Map.{values_of}
use Rattle.std.specs.Option.{option_to_list}
use Rattle.std.specs.Ordering.{nat_cmp}
use Rattle.raft_state.specs.declared.ids.LogId.{LogId}
use Rattle.raft_state.specs.declared.membership.Members.{Members}
use Rattle.raft_state.specs.Log.{last}
use Rattle.raft_store.specs.Built.{last_membership}
use Rattle.raft_store.specs.Entries.{entry_meaning}
use Rattle.raft_store.specs.Restart.{is_outrun, rebuilt, settled, settled_by, start_committed}
use Rattle.raft_store.specs.Store.{whole}
use Rattle.raft_store.specs.Types.{WorldStore}
use Rattle.raft_recovery.specs.declared.starting.Found.{Found}
use Rattle.raft_recovery.specs.Starting.{found_in}

-- what is found of a store whose entries fit the snapshot
abbrev found_of : WorldStore → Found
found_of fit =
    let s = rebuilt nat_cmp entry_meaning fit (start_committed nat_cmp entry_meaning false fit) in
    record { last = last s.ids; membership = s.em.membership; purged = s.purge_to; committed = s.committed }

-- its parts
pub found_by : (t fit : WorldStore) (l : Option (LogId ℕ)) (m : Members ℕ (Unit {0})) (p c : Option (LogId ℕ))
    → settled nat_cmp entry_meaning t ≡ fit → l ≡ last (option_to_list fit.front ++ map entry_meaning.id_of (values_of fit.log))
    → m ≡ (last_membership entry_meaning (whole fit)).membership → p ≡ fit.front → c ≡ fit.meta.last_log_id
    → record { last = l; membership = m; purged = p; committed = c } ≡ found_in t
found_by t fit l m p c e a b d f = made ∙ sym (ap found_of e)
  where
    made : record { last = l; membership = m; purged = p; committed = c } ≡ found_of fit
    made = λ i. record { last = a i; membership = b i; purged = d i; committed = f i }

-- once the snapshot has outrun the entries it is all that is left
pub found_snapshot : (t : WorldStore) (x : LogId ℕ) (m : Members ℕ (Unit {0})) → t.meta.last_log_id ≡ Some x
    → settled nat_cmp entry_meaning t ≡ record t { log = []; front = Some x } → m ≡ (last_membership entry_meaning t.snap).membership
    → record { last = Some x; membership = m; purged = Some x; committed = Some x } ≡ found_in t
found_snapshot t x m h e b =
    found_by t (record t { log = []; front = Some x }) (Some x) m (Some x) (Some x) e refl
    (b ∙ ap (λ es. (last_membership entry_meaning es).membership) (sym (append-nil t.snap))) refl (sym h)

-- when entries fit the snapshot
pub fits_none : (t : WorldStore) → t.meta.last_log_id ≡ None → settled nat_cmp entry_meaning t ≡ t
fits_none t h = ap (settled_by nat_cmp entry_meaning t) h

pub fits_some : (t : WorldStore) (x : LogId ℕ) → t.meta.last_log_id ≡ Some x → is_outrun nat_cmp entry_meaning t x ≡ false
    → settled nat_cmp entry_meaning t ≡ t
fits_some t x h e = ap (settled_by nat_cmp entry_meaning t) h ∙ rw e refl

pub fits_outrun : (t : WorldStore) (x : LogId ℕ) → t.meta.last_log_id ≡ Some x → is_outrun nat_cmp entry_meaning t x ≡ true
    → settled nat_cmp entry_meaning t ≡ record t { log = []; front = Some x }
fits_outrun t x h e = ap (settled_by nat_cmp entry_meaning t) h ∙ rw e refl
