-- Which nodes can be elected: the test of the program finds each of them.
use Rattle.std.proofs.Common.{ℕ, zero, suc, ◌+◌, ◌-◌, ◌<◌, ◌≤◌, ◌≡◌, ◌≢◌, ◌⊎◌, inl, inr, Bool, true, false, not, ◌&&◌, ◌||◌}
use Rattle.std.proofs.Common.{List, [], ◌∷◌, ◌++◌, length, take, drop, get_or, arith, refl, ap, sym, subst, Option, None, Some}
use Rattle.std.proofs.lemmas.List.{take_all, take_more}
use Rattle.std.specs.Prelude.{is_some, nat_eq}
use Rattle.std.specs.List.{AllByRecursion, list_any}
use Rattle.std.specs.Cmp.{tied_itself}
use Rattle.std.specs.Option.{option_map}
use Rattle.std.proofs.lemmas.Cmp.{nat_cmp_total}
use Rattle.std.specs.Ordering.{is_lt, nat_cmp}
use Rattle.raft_state.specs.declared.ids.LogId.{LogId}
use Rattle.raft_state.specs.Members.{is_voter, voter_ids}
use Rattle.raft_state.specs.Order.{last_id_cmp}
use Rattle.raft_state.specs.Sorted.{has_id}
use Rattle.raft_state.proofs.Orders.{last_total, or_left, or_right}
use Rattle.raft_progress.specs.Quorum.{is_quorum}
use Rattle.raft_store.specs.declared.entry.Entry.{Entry}
use Rattle.raft_node.specs.declared.given.Given.{Given}
use Rattle.raft_node.specs.Net.{Net, NodeView}
use Rattle.proof_progress.specs.Continuations.{At}
use Rattle.proof_progress.specs.Elections.{Listed}
use Rattle.proof_progress.specs.GoesOn.{MayVote, found}
use Rattle.proof_progress.specs.Proposals.{EachOnce}
use Rattle.proof_progress.proofs.Choosing.{has_of_listed, listed_of_has}
use Rattle.proof_progress.proofs.Heard.{each_listed}
use Rattle.proof_progress.proofs.Tables.{quorum_more}
use Rattle.proof_progress.proofs.Voters.{to_filter, voter_votes}
use Rattle.raft_recovery.specs.declared.starting.Found.{Found}
use Rattle.raft_recovery.specs.Choosing.{can_be_elected, follows, followers, found_at, is_elected, is_not_ahead}
use Rattle.raft_recovery.specs.Recoveries.{IsElectable, LacksLog}
use Rattle.raft_recovery.specs.Starting.{found_in}
use Rattle.raft_recovery.proofs.Nodes.{is_same, of_at, same}

pub both : (a b : Bool) → a ≡ true → b ≡ true → (a && b) ≡ true
both true b h k = k
both false b h k = cc

not_below : (x : Option (LogId ℕ)) → is_lt (last_id_cmp nat_cmp x x) ≡ false
not_below x = ap is_lt (tied_itself (last_total nat_cmp nat_cmp_total) x)

-- a node that is there is found as it starts
pub finds_at : (nodes : List NodeView) (id : ℕ) (N : NodeView) → At nodes id N → found_at nodes id ≡ Some (found_in N.store)
finds_at nodes id N at = ap (option_map (λ n. found_in n.store)) (of_at nodes id N at)

-- whether a node can be elected, by what it finds
pub elected_by : (nodes : List NodeView) (up : List ℕ) (n : ℕ) (f : Found) (b : Bool) → found_at nodes n ≡ Some f → is_elected nodes up n f ≡ b
    → can_be_elected nodes up n ≡ b
elected_by nodes up n f b h e = subst (λ o. elim o as (λ _. Bool) [ None ↦ false | Some g ↦ is_elected nodes up n g ] ≡ b) (sym h) e

module _ (given : Given) (net : Net (List Entry)) (up : List ℕ) (n : ℕ) (e : IsElectable given net up n) where
  abbrev f : Found
  f = found_in e.node.store

  votes : (t : ℕ) → Listed (voter_ids nat_cmp f.membership) t → is_voter nat_cmp f.membership t ≡ true
  votes t h = voter_votes f.membership t h

  behind : (t : ℕ) (T : NodeView) → At net.nodes t T → is_lt (last_id_cmp nat_cmp f.last (found_in T.store).last) ≡ false
      → is_not_ahead f.last (found_at net.nodes t) ≡ true
  behind t T at a = subst (λ o. is_not_ahead f.last o ≡ true) (sym (finds_at net.nodes t T at)) (ap not a)

  itself_follows : follows net.nodes f n ≡ true
  itself_follows = both (is_voter nat_cmp f.membership n) (is_not_ahead f.last (found_at net.nodes n)) (votes n e.votes)
      (behind n e.node e.at (not_below f.last))

  one_follows : (t : ℕ) → MayVote given net (found given e.node) t → follows net.nodes f t ≡ true
  one_follows t m = both (is_voter nat_cmp f.membership t) (is_not_ahead f.last (found_at net.nodes t)) (votes t m.voter)
      (behind t m.node m.at m.ahead)

  listed : (t : ℕ) → Listed up t → follows net.nodes f t ≡ true → has_id nat_cmp (followers net.nodes up f) t ≡ true
  listed t l h = has_of_listed (followers net.nodes up f) t (to_filter (follows net.nodes f) up t l h)

  others : (ts : List ℕ) → AllByRecursion (Listed up) ts → AllByRecursion (MayVote given net (found given e.node)) ts
      → AllByRecursion (λ t. has_id nat_cmp (followers net.nodes up f) t ≡ true) ts
  others [] a m = tt
  others (t ∷ ts) a m = (listed t a.0 (one_follows t m.0), others ts a.1 m.1)

  pub is_found : can_be_elected net.nodes up n ≡ true
  is_found =
      elected_by net.nodes up n f true (finds_at net.nodes n e.node e.at)
      (both (is_voter nat_cmp f.membership n) (is_quorum nat_cmp f.membership.groups (followers net.nodes up f)) (votes n e.votes) quorum)
    where
      all : (t : ℕ) → has_id nat_cmp (n ∷ e.voters) t ≡ true → has_id nat_cmp (followers net.nodes up f) t ≡ true
      all t h = by (listed_of_has (n ∷ e.voters) t h)
        where
          by : Listed (n ∷ e.voters) t → has_id nat_cmp (followers net.nodes up f) t ≡ true
          by (inl q) = subst (λ i. has_id nat_cmp (followers net.nodes up f) i ≡ true) q (listed n e.one itself_follows)
          by (inr l) = each_listed (λ i. has_id nat_cmp (followers net.nodes up f) i ≡ true) e.voters t l (others e.voters e.among e.follow)

      quorum : is_quorum nat_cmp f.membership.groups (followers net.nodes up f) ≡ true
      quorum = quorum_more (n ∷ e.voters) (followers net.nodes up f) all f.membership.groups e.quorum

-- a node at which the test fails can't be elected
pub not_electable : (given : Given) (net : Net (List Entry)) (up : List ℕ) (n : ℕ) → can_be_elected net.nodes up n ≡ false
    → IsElectable given net up n → ⊥
not_electable given net up n h e = let k : can_be_elected net.nodes up n ≡ true = is_found given net up n e in cc

-- Nodes without a log

pub lacks_unfound : (given : Given) (net : Net (List Entry)) (id : ℕ) → found_at net.nodes id ≡ None → LacksLog given net id
lacks_unfound given net id h T at = let k : found_at net.nodes id ≡ Some (found_in T.store) = finds_at net.nodes id T at in cc

pub lacks_found : (given : Given) (net : Net (List Entry)) (id : ℕ) (g : Found) → found_at net.nodes id ≡ Some g → is_some g.last ≡ false
    → LacksLog given net id
lacks_found given net id g h l T at =
    let k : found_at net.nodes id ≡ Some (found_in T.store) = finds_at net.nodes id T at in
    let same : g ≡ found_in T.store = cc in
    none (found_in T.store).last (subst (λ (x : Found). is_some x.last ≡ false) same l)
  where
    none : (o : Option (LogId ℕ)) → is_some o ≡ false → o ≡ None
    none None e = refl
    none (Some x) e = cc

-- The ids of a list, one after another

-- an id that a list has
pub listed_any : (xs : List ℕ) (t : ℕ) → list_any (λ y. nat_eq y t) xs ≡ true → Listed xs t
listed_any [] t h = cc
listed_any (x ∷ xs) t h = go (nat_eq x t) refl (listed_any xs t) h
  where
    go : (b : Bool) → nat_eq x t ≡ b → (list_any (λ y. nat_eq y t) xs ≡ true → Listed xs t) → (b || list_any (λ y. nat_eq y t) xs) ≡ true
        → Listed (x ∷ xs) t
    go true e f k = inl (same x t e)
    go false e f k = inr (f k)

pub any_listed : (xs : List ℕ) (t : ℕ) → Listed xs t → list_any (λ y. nat_eq y t) xs ≡ true
any_listed [] t h = absurd h
any_listed (x ∷ xs) t (inl q) = or_left (nat_eq x t) _ (is_same x t q)
any_listed (x ∷ xs) t (inr q) = or_right (nat_eq x t) _ (any_listed xs t q)

-- the id at a place is one of them
pub listed_here : (xs : List ℕ) (i : ℕ) → i < length xs → Listed xs (get_or xs i 0)
listed_here [] i l = absurd (omega (arith, l))
listed_here (y ∷ ys) zero l = inl refl
listed_here (y ∷ ys) (suc i) l = inr (listed_here ys i (omega (arith, l)))

pub listed_both : (xs ys : List ℕ) (t : ℕ) → Listed (xs ++ ys) t → Listed xs t ⊎ Listed ys t
listed_both [] ys t h = inr h
listed_both (x ∷ xs) ys t (inl q) = inl (inl q)
listed_both (x ∷ xs) ys t (inr h) = go (listed_both xs ys t h)
  where
    go : Listed xs t ⊎ Listed ys t → Listed (x ∷ xs) t ⊎ Listed ys t
    go (inl k) = inl (inr k)
    go (inr k) = inr k

-- what holds of the ids before a place, and of the id there, holds of those up to it
pub each_more : (P : ℕ → Type 0) (xs : List ℕ) (i : ℕ) → i < length xs → ((t : ℕ) → Listed (take i xs) t → P t) → P (get_or xs i 0)
    → (t : ℕ) → Listed (take (i + 1) xs) t → P t
each_more P xs i l before here t h = go (listed_both (take i xs) (get_or xs i 0 ∷ []) t (subst (λ ys. Listed ys t) (take_more xs i 0 l) h))
  where
    go : Listed (take i xs) t ⊎ Listed (get_or xs i 0 ∷ []) t → P t
    go (inl k) = before t k
    go (inr (inl q)) = subst P q here
    go (inr (inr q)) = absurd q

-- what holds of all of them up to the end holds of each
pub each_all : (P : ℕ → Type 0) (xs : List ℕ) (i : ℕ) → length xs ≤ i → ((t : ℕ) → Listed (take i xs) t → P t) → (t : ℕ) → Listed xs t → P t
each_all P xs i end h t l = h t (subst (λ ys. Listed ys t) (sym (take_all i xs end)) l)

-- Lists by their first element

-- a list is its first element and the rest, as a slice's pattern reads them
pub by_first : (xs : List ℕ) → 1 ≤ length xs → get_or xs 0 0 ∷ take (length xs - 1) (drop 1 xs) ≡ xs
by_first [] l = absurd (omega (arith, l))
by_first (x ∷ xs) l = ap (λ ys. x ∷ ys) (take_all (length (x ∷ xs) - 1) xs (omega arith))

-- an id that stands again behind itself stands twice
pub twice : (xs : List ℕ) → 1 ≤ length xs → list_any (λ y. nat_eq y (get_or xs 0 0)) (take (length xs - 1) (drop 1 xs)) ≡ true → EachOnce xs → ⊥
twice xs l again once =
    let there : Listed (take (length xs - 1) (drop 1 xs)) (get_or xs 0 0) = listed_any (take (length xs - 1) (drop 1 xs)) (get_or xs 0 0) again in
    apart (take (length xs - 1) (drop 1 xs)) there (subst EachOnce (sym (by_first xs l)) once).0
  where
    apart : (ys : List ℕ) → Listed ys (get_or xs 0 0) → AllByRecursion (λ y. y ≢ get_or xs 0 0) ys → ⊥
    apart [] h a = h
    apart (y ∷ ys) (inl q) a = a.0 q
    apart (y ∷ ys) (inr k) a = apart ys k a.1
