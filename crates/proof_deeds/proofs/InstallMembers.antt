-- A snapshot's membership is one of its entries'.
use Rattle.std.proofs.Common.{ℕ, ◌≡◌, inl, inr, true, List, [], ◌∷◌, map, refl, sym, subst, Option, None, Some}
use Rattle.std.specs.Prelude.{IfSome}
use Rattle.std.specs.List.{AllByRecursion}
use Rattle.std.specs.Ordering.{nat_cmp}
use Rattle.std.proofs.lemmas.Cmp.{nat_cmp_total}
use Rattle.raft_node.specs.raft_state.declared.ids.LogId.{LogId}
use Rattle.raft_node.specs.raft_state.declared.membership.Members.{Members}
use Rattle.raft_node.specs.raft_state.declared.membership.StoredMembership.{StoredMembership}
use Rattle.raft_node.specs.raft_state.Fits.{is_within}
use Rattle.raft_node.specs.raft_state.Log.{last}
use Rattle.raft_node.proofs.raft_state_proofs.LogLists.{Has, last_is, follow_run, follow_rise, has_within}
use Rattle.raft_node.proofs.raft_state_proofs.StateLaws.{within_none}
use Rattle.raft_node.specs.raft_state.Same.{nat_same}
use Rattle.raft_node.specs.raft_steps.FollowingHandler.{memberships_in}
use Rattle.raft_node.specs.raft_store.declared.entry.Entry.{Entry}
use Rattle.raft_node.specs.raft_store.Entries.{entry_meaning, members_of}
use Rattle.raft_node.specs.raft_store.Mirror.{ends, last_two, none}
use Rattle.raft_node.specs.raft_store.Types.{WorldSnapshot}
use Rattle.proof_mirror.specs.Ready.{SnapshotTells}

abbrev Known : List (LogId ℕ) → StoredMembership ℕ (Unit {0}) → Type 0
Known ids m = IfSome m.log_id (λ y. Has y ids)

ends_in : {X : Type 0} (P : X → Type 0) (c e : X) (ms : List X) → P e → AllByRecursion P ms → P (ends c e ms).1
ends_in P c e [] k a = k
ends_in P c e (m ∷ ms) k a = ends_in P e m ms a.0 a.1

all_known : (ids : List (LogId ℕ)) (es : List Entry) → ((y : LogId ℕ) → Has y (map (λ (e : Entry). e.log_id) es) → Has y ids) → AllByRecursion (Known ids) (memberships_in entry_meaning es)
all_known ids [] f = tt
all_known ids (e ∷ es) f = go (members_of e.payload) refl (all_known ids es (λ y h. f y (inr h))) where
  go : (o : Option (Members ℕ (Unit {0}))) → members_of e.payload ≡ o → AllByRecursion (Known ids) (memberships_in entry_meaning es) → AllByRecursion (Known ids) (memberships_in entry_meaning (e ∷ es))
  go None q a = rw q a
  go (Some m) q a = rw q (f e.log_id (inl refl), a)

-- it stands at or below the last id
pub membership_within : (snapshot : WorldSnapshot) → SnapshotTells nat_cmp entry_meaning snapshot.meta snapshot.snapshot → is_within nat_cmp snapshot.meta.last_membership.log_id snapshot.meta.last_log_id ≡ true
membership_within snapshot h =
    subst (λ (m : StoredMembership ℕ (Unit {0})). is_within nat_cmp m.log_id snapshot.meta.last_log_id ≡ true) (sym h.tells.membership)
    (subst (λ p. is_within nat_cmp (last_two (memberships_in entry_meaning snapshot.snapshot)).1.log_id p ≡ true) (sym h.tells.last_id)
    (go (last_two (memberships_in entry_meaning snapshot.snapshot)).1.log_id (ends_in (Known (map (λ (e : Entry). e.log_id) snapshot.snapshot)) none none (memberships_in entry_meaning snapshot.snapshot) tt (all_known (map (λ (e : Entry). e.log_id) snapshot.snapshot) snapshot.snapshot (λ y k. k)))))
  where
    go : (o : Option (LogId ℕ)) → IfSome o (λ y. Has y (map (λ (e : Entry). e.log_id) snapshot.snapshot)) → is_within nat_cmp o (last (map (λ (e : Entry). e.log_id) snapshot.snapshot)) ≡ true
    go None k = within_none nat_cmp nat_cmp_total nat_same (last (map (λ (e : Entry). e.log_id) snapshot.snapshot))
    go (Some y) k = subst (λ p. is_within nat_cmp (Some y) p ≡ true) (sym (last_is (map (λ (e : Entry). e.log_id) snapshot.snapshot))) (has_within nat_cmp nat_cmp_total y None 0 (map (λ (e : Entry). e.log_id) snapshot.snapshot) (follow_run nat_cmp None 0 (map (λ (e : Entry). e.log_id) snapshot.snapshot) refl h.follow) (follow_rise nat_cmp None (map (λ (e : Entry). e.log_id) snapshot.snapshot) h.follow) k)
