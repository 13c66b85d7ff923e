-- The run with a low truncation meets every condition of the machine but one, and executes two different entries; with
-- the truncation that is allowed it goes on.
use Rattle.std.proofs.Common.{ℕ, ◌≡◌, Bool, true, false, cond, eqb, inl, inr, arith, refl, sym, ap, subst}
use Rattle.std.proofs.lemmas.Bool.{eqb-true, true≢false}
use Rattle.proof_agreement.specs.Machine.{IsQuorum}
use Rattle.proof_agreement.specs.LowTruncation.{low_truncation, three, LowTruncationDiffers, HighTruncationInstalls}
use Rattle.proof_agreement.proofs.Logs.{push-grows}

pub at_three : (a b c : ℕ) (P : ℕ → Type 0) → P a → P b → P c → (n : ℕ) → three a b c n ≡ true → P n
at_three a b c P x y z n = go (eqb n a) (eqb n b) refl refl
  where
    go : (u v : Bool) → eqb n a ≡ u → eqb n b ≡ v → cond u true (cond v true (eqb n c)) ≡ true → P n
    go true v e f t = subst P (sym (eqb-true n a e)) x
    go false true e f t = subst P (sym (eqb-true n b f)) y
    go false false e f t = subst P (sym (eqb-true n c t)) z

first_156 : IsQuorum low_truncation 0 (three 1 5 6)
first_156 = record { first = omega arith; rest = (omega arith, tt) }

first_145 : IsQuorum low_truncation 0 (three 1 4 5)
first_145 = record { first = omega arith; rest = (omega arith, tt) }

alone_1 : IsQuorum low_truncation 2 (three 1 1 1)
alone_1 = record { first = omega arith; rest = tt }

last_46 : IsQuorum low_truncation 1 (three 4 6 6)
last_46 = record { first = omega arith; rest = tt }

pub not_so : {X : Type 0} → false ≡ true → X
not_so t = absurd (true≢false (sym t))

pub low_truncation_differs : LowTruncationDiffers
low_truncation_differs = ((record { none = refl; not_committed = refl; fresh = refl }, (omega arith, (refl, (omega arith, (refl, (omega arith, (refl, (record { positive = omega arith; vote = refl; not_committed = refl; some = omega arith; quorum = first_156; each = at_three 1 5 6 _ (record { node = 1; leader = 1; last = 0; len = 0 }, inr (inl refl), refl, refl, inr (refl, omega arith)) (record { node = 5; leader = 1; last = 0; len = 0 }, inl refl, refl, refl, inr (refl, omega arith)) (record { node = 6; leader = 1; last = 0; len = 1 }, inr (inr (inl refl)), refl, refl, inr (refl, omega arith)) }, (record { vote = refl; vote_committed = refl; same = λ t _. not_so t; settled = λ t _. not_so t; change = λ t _. not_so t }, (record { established = refl; from = omega arith; other = omega arith }, (record { led = record { vote_committed = refl; other = omega arith }; agree = record { left = omega arith; right = omega arith; same = λ i h. absurd (omega arith) }; longer = omega arith; in_leader = omega arith }, (record { vote_committed = refl; agree = record { left = omega arith; right = omega arith; same = λ i h. refl } }, (record { established = refl; from = omega arith; other = omega arith }, (record { led = record { vote_committed = refl; other = omega arith }; agree = record { left = omega arith; right = omega arith; same = λ i h. absurd (omega arith) }; longer = omega arith; in_leader = omega arith }, (record { vote_committed = refl; agree = record { left = omega arith; right = omega arith; same = λ i h. refl } }, (record { established = refl; own = omega arith; span = 2; holds = omega arith; in_log = omega arith; quorum = first_156; each = at_three 1 5 6 _ (omega arith) (omega arith) (omega arith) }, (record { vote = refl; vote_committed = refl; same = λ _ t. not_so t; settled = λ _ t. not_so t; change = λ _ _. record { last = omega arith; share = record { group = _; left = inr (inl refl); right = inl refl } } }, (omega arith, (refl, (omega arith, (refl, (omega arith, (refl, (record { positive = omega arith; vote = refl; not_committed = refl; some = omega arith; quorum = first_145; each = at_three 1 4 5 _ (record { node = 1; leader = 2; last = 1; len = 2 }, inr (inl refl), refl, refl, inr (refl, omega arith)) (record { node = 4; leader = 2; last = 0; len = 0 }, inl refl, refl, refl, inl (omega arith)) (record { node = 5; leader = 2; last = 1; len = 2 }, inr (inr (inl refl)), refl, refl, inr (refl, omega arith)) }, (record { vote = refl; vote_committed = refl; same = λ t _. not_so t; settled = λ t _. not_so t; change = λ t _. not_so t }, (record { established = refl; from = omega arith; other = omega arith }, (record { led = record { vote_committed = refl; other = omega arith }; agree = push-grows _ _; longer = omega arith; in_leader = omega arith }, (record { vote_committed = refl; agree = record { left = omega arith; right = omega arith; same = λ i h. refl } }, (record { established = refl; from = omega arith; other = omega arith }, (record { led = record { vote_committed = refl; other = omega arith }; agree = record { left = omega arith; right = omega arith; same = λ i h. absurd (omega arith) }; longer = omega arith; in_leader = omega arith }, (record { vote_committed = refl; agree = record { left = omega arith; right = omega arith; same = λ i h. refl } }, (record { established = refl; own = omega arith; span = 3; holds = omega arith; in_log = omega arith; quorum = first_145; each = at_three 1 4 5 _ (omega arith) (omega arith) (omega arith) }, (record { vote = refl; vote_committed = refl; same = λ _ t. not_so t; settled = λ _ t. not_so t; change = λ _ _. record { last = omega arith; share = record { group = _; left = inl refl; right = inl refl } } }, (record { led = record { vote_committed = refl; other = omega arith }; agree = push-grows _ _; longer = omega arith; in_leader = omega arith }, (record { led = record { vote_committed = refl; other = omega arith }; agree = push-grows _ _; longer = omega arith; in_leader = omega arith }, (record { vote = refl; vote_committed = refl; same = λ t _. not_so t; settled = λ t _. not_so t; change = λ t _. not_so t }, (record { led = record { vote_committed = refl; other = omega arith }; agree = push-grows _ _; longer = omega arith; in_leader = omega arith }, (omega arith, (refl, (record { positive = omega arith; vote = refl; not_committed = refl; some = omega arith; quorum = alone_1; each = at_three 1 1 1 _ (record { node = 1; leader = 3; last = 2; len = 4 }, inl refl, refl, refl, inr (refl, omega arith)) (record { node = 1; leader = 3; last = 2; len = 4 }, inl refl, refl, refl, inr (refl, omega arith)) (record { node = 1; leader = 3; last = 2; len = 4 }, inl refl, refl, refl, inr (refl, omega arith)) }, (record { vote = refl; vote_committed = refl; same = λ t _. not_so t; settled = λ t _. not_so t; change = λ t _. not_so t }, (record { established = refl; own = omega arith; span = 5; holds = omega arith; in_log = omega arith; quorum = alone_1; each = at_three 1 1 1 _ (omega arith) (omega arith) (omega arith) }, (record { low = omega arith; decided = omega arith; agree = record { left = omega arith; right = omega arith; same = λ i h. refl } }, (omega arith, (record { established = refl; from = omega arith; other = omega arith }, (record { led = record { vote_committed = refl; other = omega arith }; past = omega arith; shorter = omega arith; low = omega arith; decided = omega arith; in_own = omega arith; apart = λ e. let l : 2 ≡ 3 = ap (λ x. x.leader) e in omega arith }, (omega arith, (refl, (omega arith, (refl, (record { positive = omega arith; vote = refl; not_committed = refl; some = omega arith; quorum = last_46; each = at_three 4 6 6 _ (record { node = 4; leader = 4; last = 0; len = 0 }, inl refl, refl, refl, inl (omega arith)) (record { node = 6; leader = 4; last = 1; len = 3 }, inr (inl refl), refl, refl, inr (refl, omega arith)) (record { node = 6; leader = 4; last = 1; len = 3 }, inr (inl refl), refl, refl, inr (refl, omega arith)) }, (record { vote = refl; vote_committed = refl; same = λ t _. not_so t; settled = λ t _. not_so t; change = λ t _. not_so t }, (record { established = refl; from = omega arith; other = omega arith }, (record { led = record { vote_committed = refl; other = omega arith }; agree = record { left = omega arith; right = omega arith; same = λ i h. absurd (omega arith) }; longer = omega arith; in_leader = omega arith }, (record { vote_committed = refl; agree = record { left = omega arith; right = omega arith; same = λ i h. refl } }, (record { established = refl; own = omega arith; span = 4; holds = omega arith; in_log = omega arith; quorum = last_46; each = at_three 4 6 6 _ (omega arith) (omega arith) (omega arith) }, (record { low = omega arith; decided = omega arith; agree = record { left = omega arith; right = omega arith; same = λ i h. refl } }, (omega arith, tt)))))))))))))))))))))))))))))))))))))))))))))))))))))))))), inr (inl refl), inl refl)

pub high_truncation_installs : HighTruncationInstalls
high_truncation_installs = ((record { none = refl; not_committed = refl; fresh = refl }, (omega arith, (refl, (omega arith, (refl, (omega arith, (refl, (record { positive = omega arith; vote = refl; not_committed = refl; some = omega arith; quorum = first_156; each = at_three 1 5 6 _ (record { node = 1; leader = 1; last = 0; len = 0 }, inr (inl refl), refl, refl, inr (refl, omega arith)) (record { node = 5; leader = 1; last = 0; len = 0 }, inl refl, refl, refl, inr (refl, omega arith)) (record { node = 6; leader = 1; last = 0; len = 1 }, inr (inr (inl refl)), refl, refl, inr (refl, omega arith)) }, (record { vote = refl; vote_committed = refl; same = λ t _. not_so t; settled = λ t _. not_so t; change = λ t _. not_so t }, (record { established = refl; from = omega arith; other = omega arith }, (record { led = record { vote_committed = refl; other = omega arith }; agree = record { left = omega arith; right = omega arith; same = λ i h. absurd (omega arith) }; longer = omega arith; in_leader = omega arith }, (record { vote_committed = refl; agree = record { left = omega arith; right = omega arith; same = λ i h. refl } }, (record { established = refl; from = omega arith; other = omega arith }, (record { led = record { vote_committed = refl; other = omega arith }; agree = record { left = omega arith; right = omega arith; same = λ i h. absurd (omega arith) }; longer = omega arith; in_leader = omega arith }, (record { vote_committed = refl; agree = record { left = omega arith; right = omega arith; same = λ i h. refl } }, (record { established = refl; own = omega arith; span = 2; holds = omega arith; in_log = omega arith; quorum = first_156; each = at_three 1 5 6 _ (omega arith) (omega arith) (omega arith) }, (record { vote = refl; vote_committed = refl; same = λ _ t. not_so t; settled = λ _ t. not_so t; change = λ _ _. record { last = omega arith; share = record { group = _; left = inr (inl refl); right = inl refl } } }, (omega arith, (refl, (omega arith, (refl, (omega arith, (refl, (record { positive = omega arith; vote = refl; not_committed = refl; some = omega arith; quorum = first_145; each = at_three 1 4 5 _ (record { node = 1; leader = 2; last = 1; len = 2 }, inr (inl refl), refl, refl, inr (refl, omega arith)) (record { node = 4; leader = 2; last = 0; len = 0 }, inl refl, refl, refl, inl (omega arith)) (record { node = 5; leader = 2; last = 1; len = 2 }, inr (inr (inl refl)), refl, refl, inr (refl, omega arith)) }, (record { vote = refl; vote_committed = refl; same = λ t _. not_so t; settled = λ t _. not_so t; change = λ t _. not_so t }, (record { established = refl; from = omega arith; other = omega arith }, (record { led = record { vote_committed = refl; other = omega arith }; agree = push-grows _ _; longer = omega arith; in_leader = omega arith }, (record { vote_committed = refl; agree = record { left = omega arith; right = omega arith; same = λ i h. refl } }, (record { established = refl; from = omega arith; other = omega arith }, (record { led = record { vote_committed = refl; other = omega arith }; agree = record { left = omega arith; right = omega arith; same = λ i h. absurd (omega arith) }; longer = omega arith; in_leader = omega arith }, (record { vote_committed = refl; agree = record { left = omega arith; right = omega arith; same = λ i h. refl } }, (record { established = refl; own = omega arith; span = 3; holds = omega arith; in_log = omega arith; quorum = first_145; each = at_three 1 4 5 _ (omega arith) (omega arith) (omega arith) }, (record { vote = refl; vote_committed = refl; same = λ _ t. not_so t; settled = λ _ t. not_so t; change = λ _ _. record { last = omega arith; share = record { group = _; left = inl refl; right = inl refl } } }, (record { led = record { vote_committed = refl; other = omega arith }; agree = push-grows _ _; longer = omega arith; in_leader = omega arith }, (record { led = record { vote_committed = refl; other = omega arith }; agree = push-grows _ _; longer = omega arith; in_leader = omega arith }, (record { vote = refl; vote_committed = refl; same = λ t _. not_so t; settled = λ t _. not_so t; change = λ t _. not_so t }, (record { led = record { vote_committed = refl; other = omega arith }; agree = push-grows _ _; longer = omega arith; in_leader = omega arith }, (omega arith, (refl, (record { positive = omega arith; vote = refl; not_committed = refl; some = omega arith; quorum = alone_1; each = at_three 1 1 1 _ (record { node = 1; leader = 3; last = 2; len = 4 }, inl refl, refl, refl, inr (refl, omega arith)) (record { node = 1; leader = 3; last = 2; len = 4 }, inl refl, refl, refl, inr (refl, omega arith)) (record { node = 1; leader = 3; last = 2; len = 4 }, inl refl, refl, refl, inr (refl, omega arith)) }, (record { vote = refl; vote_committed = refl; same = λ t _. not_so t; settled = λ t _. not_so t; change = λ t _. not_so t }, (record { established = refl; own = omega arith; span = 5; holds = omega arith; in_log = omega arith; quorum = alone_1; each = at_three 1 1 1 _ (omega arith) (omega arith) (omega arith) }, (record { low = omega arith; decided = omega arith; agree = record { left = omega arith; right = omega arith; same = λ i h. refl } }, (omega arith, (record { established = refl; from = omega arith; other = omega arith }, (record { led = record { vote_committed = refl; other = omega arith }; past = omega arith; shorter = omega arith; low = omega arith; decided = omega arith; apart = λ e. let l : 2 ≡ 3 = ap (λ x. x.leader) e in omega arith; deep = inr (omega arith) }, (record { led = record { vote_committed = refl; other = omega arith }; low = omega arith; decided = omega arith; longer = omega arith }, (omega arith, tt)))))))))))))))))))))))))))))))))))))))))))))))), inl refl)
