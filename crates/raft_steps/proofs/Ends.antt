-- The ids that a log's last leader wrote.
use Rattle.std.specs.Prelude.{◌≡◌, ◌==◌, List, Option, None, Some, refl}
use Rattle.std.proofs.Common.{cond, Bool, true, false, [], ◌∷◌}
use Rattle.std.specs.declared.cmp.Ordering.{Ordering}
use Rattle.raft_state.specs.declared.ids.LogId.{LogId}
use Rattle.raft_state.specs.Log.{last}
use Rattle.raft_state.specs.State.{by_last_leader, ends_of_leader, first_of}

module _ {NID : Type 0} (cmp : NID → NID → Ordering) where
  one_or_two : (x y : LogId NID) (b : Bool) → last (cond b (x ∷ []) (y ∷ x ∷ [])) ≡ Some x
  one_or_two x y true = refl
  one_or_two x y false = refl

  ends_last : (f : Option (LogId NID)) (x : LogId NID) → last (ends_of_leader cmp f x) ≡ Some x
  ends_last None x = refl
  ends_last (Some y) x = one_or_two x y (y.index == x.index)

  -- they end with the log's last
  pub by_last_leader_ends : (ids : List (LogId NID)) → last (by_last_leader cmp ids) ≡ last ids
  by_last_leader_ends ids = go (last ids) refl where
    go : (o : Option (LogId NID)) → last ids ≡ o → last (by_last_leader cmp ids) ≡ last ids
    go None e = rw e refl
    go (Some x) e = rw e (ends_last (first_of cmp x.leader_id ids) x)
