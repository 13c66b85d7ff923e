-- What a change of a map leaves of the logs by leader.
use Rattle.std.proofs.Common.{ℕ, ◌≡◌, Bool, true, false, cond, List, [], ◌++◌, Some, Result, Ok, Err, refl, sym, ap, ◌∙◌}
use Rattle.std.specs.Prelude.{OnErr, OnOk, if◌then◌else◌, is_ok, unwrap_or}
use Rattle.std.specs.Map.{lookup}
use Rattle.std.proofs.lemmas.List.{append-nil}
use Rattle.std.specs.Ordering.{nat_cmp}
use Rattle.raft_state.specs.declared.ids.LeaderId.{LeaderId}
use Rattle.raft_state.specs.Order.{leader_id_cmp}
use Rattle.raft_state.specs.Same.{equal_of_is_eq, leader_id_same, nat_same}
use Rattle.raft_store.specs.declared.entry.Entry.{Entry}
use Rattle.raft_store.specs.LeaderLogs.{Adds, is_leader, log_of}

-- leader ids that compare as equal are the same
pub leader-is : (d e : LeaderId ℕ) → is_leader d e ≡ true → d ≡ e
leader-is d e h = leader_id_same nat_cmp nat_same d e (equal_of_is_eq (leader_id_cmp nat_cmp d e) h)

-- a look-up that finds this at one leader, and all else as before, adds to the log of that leader
pub adds_by : (d : LeaderId ℕ) (more : List Entry) (old new : List (LeaderId ℕ × List Entry)) (w : List Entry) → w ≡ log_of old d ++ more
    → ((e : LeaderId ℕ) → lookup (is_leader e) new ≡ cond (is_leader d e) (Some w) (lookup (is_leader e) old)) → Adds d more old new
adds_by d more old new w is h e = go (is_leader d e) refl (h e)
  where
    go : (b : Bool) → is_leader d e ≡ b → lookup (is_leader e) new ≡ cond b (Some w) (lookup (is_leader e) old)
        → log_of new e ≡ (if b then log_of old e ++ more else log_of old e)
    go true same k = ap (λ o. unwrap_or o []) k ∙ (is ∙ ap (λ f. log_of old f ++ more) (leader-is d e same))
    go false same k = ap (λ o. unwrap_or o []) k

-- where the entries go onto the log if there is room, and it stays otherwise
module _ (d : LeaderId ℕ) (more : List Entry) (old new : List (LeaderId ℕ × List Entry)) (was w : List Entry) (found : lookup (is_leader d) old ≡ Some was)
    (after : (e : LeaderId ℕ) → lookup (is_leader e) new ≡ cond (is_leader d e) (Some w) (lookup (is_leader e) old)) where
  was_is : was ≡ log_of old d
  was_is = sym (ap (λ o. unwrap_or o []) found)

  pub adds_ok : {X : Type 0} (r : Result (Unit {0}) X) → w ≡ (if is_ok r then was ++ more else was) → OnOk r (Adds d more old new)
  adds_ok (Ok u) is = adds_by d more old new w (is ∙ ap (λ es. es ++ more) was_is) after
  adds_ok (Err x) is = tt

  pub adds_err : {X : Type 0} (r : Result (Unit {0}) X) → w ≡ (if is_ok r then was ++ more else was) → OnErr r (Adds d [] old new)
  adds_err (Ok u) is = tt
  adds_err (Err x) is = adds_by d [] old new w (is ∙ (was_is ∙ sym (append-nil (log_of old d)))) after
