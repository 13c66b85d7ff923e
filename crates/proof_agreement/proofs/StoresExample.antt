-- The example runs over stores may be done.
use Rattle.std.proofs.Common.{ℕ, suc, ◌+◌, ◌<◌, ◌≡◌, Bool, true, false, cond, eqb, inl, inr, arith, refl, sym, subst, [], ◌∷◌}
use Rattle.std.proofs.lemmas.Bool.{eqb-true, true≢false}
use Rattle.proof_agreement.specs.Example.{moving, only, both}
use Rattle.proof_agreement.specs.Machine.{IsQuorum}
use Rattle.proof_agreement.specs.Stores.{entry_at, first_entry}
use Rattle.proof_agreement.specs.StoresExample.{trio, pair, three, GroupsMove, SnapshotInstalled}

at_pair : (a b : ℕ) (P : ℕ → Type 0) → P a → P b → (n : ℕ) → pair a b n ≡ true → P n
at_pair a b P h k n = go (eqb n a) refl
  where
    go : (c : Bool) → eqb n a ≡ c → cond c true (eqb n b) ≡ true → P n
    go true e t = subst P (sym (eqb-true n a e)) h
    go false e t = subst P (sym (eqb-true n b t)) k

at_both : (P : ℕ → Type 0) → P 1 → P 2 → (n : ℕ) → both n ≡ true → P n
at_both P h k n = at_pair 1 2 P h k n

at_one : (m : ℕ) (P : ℕ → Type 0) → P m → (n : ℕ) → only m n ≡ true → P n
at_one m P h n t = subst P (sym (eqb-true n m t)) h

first_alone : IsQuorum moving 0 (only 1)
first_alone = record { first = omega arith; rest = tt }

two : IsQuorum moving 1 both
two = record { first = omega arith; rest = (omega arith, tt) }

last_alone : IsQuorum moving 2 (only 2)
last_alone = record { first = omega arith; rest = tt }

one_two : IsQuorum trio 0 (pair 1 2)
one_two = record { first = omega arith; rest = tt }

one_three : IsQuorum trio 0 (pair 1 3)
one_three = record { first = omega arith; rest = tt }

two_three : IsQuorum trio 0 (pair 2 3)
two_three = record { first = omega arith; rest = tt }

not_so : {X : Type 0} → false ≡ true → X
not_so t = absurd (true≢false (sym t))

third : (k : ℕ) → 3 ≡ suc k → (k < 3) × ((entry_at moving three k).leader ≡ 1)
third k e = let q : 2 ≡ k = omega arith in subst (λ j. (j < 3) × ((entry_at moving three j).leader ≡ 1)) q (omega arith, refl)

first : (k : ℕ) → 1 ≡ suc k → k ≡ 0 + 0
first k e = omega arith

held_first : (k : ℕ) → 1 ≡ suc k → (k < 1) × ((entry_at trio (first_entry trio ∷ []) k).leader ≡ 0)
held_first k e = let q : 0 ≡ k = omega arith in subst (λ j. (j < 1) × ((entry_at trio (first_entry trio ∷ []) j).leader ≡ 0)) q (omega arith, refl)

pub groups_move : GroupsMove
groups_move = ((record { no_entries = refl; no_snapshot = refl; first_vote = refl; not_committed = refl }, (omega arith, (record { own = refl; not_committed = refl; positive = omega arith }, (record { candidate = record { own = refl; not_committed = refl; positive = omega arith }; some = omega arith; quorum = first_alone; each = λ m t. inl (eqb-true m 1 t) }, (tt, (record { own = refl; vote_committed = refl }, (record { leads = record { own = refl; vote_committed = refl }; reaches = omega arith; same = λ t _. not_so t; settled = λ t _. not_so t; change = λ t _. not_so t }, (record { streams = record { leads = record { own = refl; vote_committed = refl }; session = refl }; quorum = first_alone; inside = omega arith; own = refl; each = λ m t. inl (eqb-true m 1 t) }, (record { leads = record { own = refl; vote_committed = refl }; told_by_leader = record { sent = inl refl; session = refl }; held = omega arith; told_so = omega arith; higher = omega arith }, (record { leads = record { own = refl; vote_committed = refl }; reaches = omega arith; same = λ _ t. not_so t; settled = λ _ t. not_so t; change = λ _ _. record { mine = 1; own = omega arith; own_is = refl; last = omega arith; share = record { group = _; left = inl refl; right = inl refl } } }, (tt, (record { streams = record { leads = record { own = refl; vote_committed = refl }; session = refl }; fits = omega arith }, (record { sent = inl refl; not_lower = omega arith; other = omega arith }, (record { request = record { sent = inl refl; session = refl }; follower = record { vote_committed = refl; other = omega arith }; reaches = omega arith; next = refl; within = omega arith; holds = λ k e. absurd (omega arith) }, (record { request = record { sent = inl refl; session = refl }; vote_committed = refl; names = inr (2, refl, omega arith, refl); holds = inr (omega arith, refl) }, (record { streams = record { leads = record { own = refl; vote_committed = refl }; session = refl }; quorum = two; inside = omega arith; own = refl; each = at_both _ (inl refl) (inr (record { session = _; last = _; upto = 3; past = omega arith; leader = refl; sent = inl refl })) }, (record { leads = record { own = refl; vote_committed = refl }; told_by_leader = record { sent = inl refl; session = refl }; held = omega arith; told_so = omega arith; higher = omega arith }, (record { leads = record { own = refl; vote_committed = refl }; reaches = omega arith; same = λ _ t. not_so t; settled = λ _ t. not_so t; change = λ _ _. record { mine = 1; own = omega arith; own_is = refl; last = omega arith; share = record { group = _; left = inr (inl refl); right = inl refl } } }, (tt, (record { streams = record { leads = record { own = refl; vote_committed = refl }; session = refl }; fits = omega arith }, (record { request = record { sent = inl refl; session = refl }; follower = record { vote_committed = refl; other = omega arith }; reaches = omega arith; next = refl; within = omega arith; holds = λ k e. (1, inl (sym e, refl), inr (third k e)) }, (record { request = record { sent = inl refl; session = refl }; vote_committed = refl; names = inr (0, refl, omega arith, refl); holds = inr (omega arith, refl) }, (record { streams = record { leads = record { own = refl; vote_committed = refl }; session = refl }; quorum = last_alone; inside = omega arith; own = refl; each = at_one 2 _ (inr (record { session = _; last = _; upto = 4; past = omega arith; leader = refl; sent = inl refl })) }, (tt, (omega arith, (record { candidate = record { own = refl; not_committed = refl; positive = omega arith }; some = omega arith; quorum = last_alone; each = λ m t. inl (eqb-true m 2 t) }, (tt, (record { own = refl; vote_committed = refl }, (record { leads = record { own = refl; vote_committed = refl }; reaches = omega arith; same = λ t _. not_so t; settled = λ t _. not_so t; change = λ t _. not_so t }, (record { streams = record { leads = record { own = refl; vote_committed = refl }; session = refl }; quorum = last_alone; inside = omega arith; own = refl; each = λ m t. inl (eqb-true m 2 t) }, (record { leads = record { own = refl; vote_committed = refl }; told_by_leader = record { sent = inl refl; session = refl }; held = omega arith; told_so = omega arith; higher = omega arith }, (omega arith, tt)))))))))))))))))))))))))))))))), inl refl)

pub snapshot_installed : SnapshotInstalled
snapshot_installed = ((record { no_entries = refl; no_snapshot = refl; first_vote = refl; not_committed = refl }, (record { no_entries = refl; no_snapshot = refl; first_vote = refl; not_committed = refl }, (record { no_entries = refl; no_snapshot = refl; first_vote = refl; not_committed = refl }, (omega arith, (record { own = refl; not_committed = refl; positive = omega arith }, (omega arith, (record { sent = inl refl; up_to_date = inr (refl, omega arith); not_committed = refl }, (record { candidate = record { own = refl; not_committed = refl; positive = omega arith }; some = omega arith; quorum = two_three; each = at_pair 2 3 _ (inr (inl refl)) (inl refl) }, (tt, (record { own = refl; vote_committed = refl }, (record { leads = record { own = refl; vote_committed = refl }; reaches = omega arith; same = λ t _. not_so t; settled = λ t _. not_so t; change = λ t _. not_so t }, (record { leads = record { own = refl; vote_committed = refl }; reaches = omega arith; same = λ t _. not_so t; settled = λ t _. not_so t; change = λ t _. not_so t }, (omega arith, (record { own = refl; not_committed = refl; positive = omega arith }, (omega arith, (record { sent = inl refl; up_to_date = inr (refl, omega arith); not_committed = refl }, (record { candidate = record { own = refl; not_committed = refl; positive = omega arith }; some = omega arith; quorum = one_two; each = at_pair 1 2 _ (inl refl) (inr (inl refl)) }, (tt, (record { own = refl; vote_committed = refl }, (record { leads = record { own = refl; vote_committed = refl }; reaches = omega arith; same = λ t _. not_so t; settled = λ t _. not_so t; change = λ t _. not_so t }, (record { leads = record { own = refl; vote_committed = refl }; reaches = omega arith; same = λ t _. not_so t; settled = λ t _. not_so t; change = λ t _. not_so t }, (record { streams = record { leads = record { own = refl; vote_committed = refl }; session = refl }; fits = omega arith }, (record { sent = inl refl; not_lower = omega arith; other = omega arith }, (record { request = record { sent = inl refl; session = refl }; follower = record { vote_committed = refl; other = omega arith }; reaches = omega arith; next = refl; within = omega arith; holds = λ k e. (0, inr (0, first k e, omega arith, refl), inr (held_first k e)) }, (record { request = record { sent = inl refl; session = refl }; vote_committed = refl; names = inr (2, refl, omega arith, refl); holds = inr (omega arith, refl) }, (record { streams = record { leads = record { own = refl; vote_committed = refl }; session = refl }; quorum = one_two; inside = omega arith; own = refl; each = at_pair 1 2 _ (inl refl) (inr (record { session = _; last = _; upto = 3; past = omega arith; leader = refl; sent = inl refl })) }, (record { leads = record { own = refl; vote_committed = refl }; told_by_leader = record { sent = inl refl; session = refl }; held = omega arith; told_so = omega arith; higher = omega arith }, (omega arith, (tt, (omega arith, (record { past = omega arith; covered = omega arith }, (record { leads = record { own = refl; vote_committed = refl }; session = refl }, (record { sent = inl refl; not_lower = omega arith; other = omega arith }, (record { request = record { sent = inl refl; session = refl }; follower = record { vote_committed = refl; other = omega arith }; ends = refl; inside = omega arith; apart = λ e. absurd (omega arith); past = omega arith; shorter = omega arith; deep = inl refl }, (record { snapshot = omega arith; lower = omega arith }, (record { request = record { sent = inl refl; session = refl }; follower = record { vote_committed = refl; other = omega arith }; ends = refl; past = omega arith; fits = inl (omega arith) }, (record { request = record { sent = inl refl; session = refl }; vote_committed = refl; committed = omega arith }, (record { past = omega arith; covered = omega arith }, (record { leads = record { own = refl; vote_committed = refl }; reaches = omega arith; same = λ t _. not_so t; settled = λ t _. not_so t; change = λ t _. not_so t }, (record { streams = record { leads = record { own = refl; vote_committed = refl }; session = refl }; fits = omega arith }, (record { request = record { sent = inl refl; session = refl }; follower = record { vote_committed = refl; other = omega arith }; reaches = omega arith; next = refl; within = omega arith; holds = λ k e. (4, inl (sym e, refl), inl (omega arith)) }, (record { request = record { sent = inl refl; session = refl }; vote_committed = refl; names = inr (0, refl, omega arith, refl); holds = inr (omega arith, refl) }, (record { streams = record { leads = record { own = refl; vote_committed = refl }; session = refl }; quorum = one_three; inside = omega arith; own = refl; each = at_pair 1 3 _ (inl refl) (inr (record { session = _; last = _; upto = 4; past = omega arith; leader = refl; sent = inl refl })) }, (record { leads = record { own = refl; vote_committed = refl }; told_by_leader = record { sent = inl refl; session = refl }; held = omega arith; told_so = omega arith; higher = omega arith }, (omega arith, tt))))))))))))))))))))))))))))))))))))))))))))), inl refl, inl refl)
