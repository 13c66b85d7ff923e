-- What references to entries show.
use Rattle.std.specs.Iterator.{Yields}
use Rattle.std.specs.VecDeque.Iter.{deque_iter_rest, deque_iter_steps}
use Rattle.std.specs.declared.collections.vec_deque.Iter.{Iter}
use Rattle.std.proofs.lemmas.Iterator.Consumers.{YieldsList-end, YieldsList-from_deque}
use Rattle.std.proofs.Common.{◌≡◌, ⊎_elim, ap, arith, None, Option, refl, sym, min, map, ℕ, List, [], ◌∷◌, length, take, Bor}
use Rattle.std.proofs.lemmas.Bool.{cases_lt}
use Rattle.std.proofs.lemmas.List.{take_all, take-map, length-map}
use Rattle.std.specs.Map.Iter.{deref}
use Rattle.raft_store.specs.declared.entry.Entry.{Entry}
use Rattle.raft_store.specs.Entries.{entry_meaning}
use Rattle.raft_store.specs.Starting.{entries_of}

-- the ids of the entries that an iterator shows
pub ids_shown : (xs : List (Bor Entry)) → map (λ e. e.now.log_id) xs ≡ map entry_meaning.id_of (map deref xs)
ids_shown [] = refl
ids_shown (x ∷ xs) = ap (λ ids. x.now.log_id ∷ ids) (ids_shown xs)

-- the first n entries, or all
pub first_shown : (n : ℕ) (log : List (Bor Entry)) → entries_of (take (min n (length log)) log) ≡ take n (entries_of log)
first_shown n log = ⊎_elim
    (λ less. let all : min n (length log) ≡ n = omega arith in rw all (sym (take-map (λ (e : Bor Entry). e.now) n log)))
    (λ more. let all : min n (length log) ≡ length log = omega arith in rw (all, take_all (length log) log (omega arith), take_all n (entries_of log) (omega (arith, length-map log (λ e. e.now)))) refl)
    (cases_lt n (length log))

-- a loop over a queue's references has seen all of them at its end
pub all_seen : (s t u : Iter Entry) (xs : List (Bor Entry)) (r : Option (Bor Entry)) (all : List Entry) → deque_iter_rest s ≡ all → Yields deque_iter_steps s xs t → r ≡ None → deque_iter_steps t r u → map (λ e. e.now) xs ≡ all
all_seen s t u xs r all start y none step = (YieldsList-end (YieldsList-from_deque all start) xs t y r u none step).0
