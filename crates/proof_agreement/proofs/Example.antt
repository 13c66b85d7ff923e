-- The run of the example is allowed, so the machine's conditions can be met.
use Rattle.std.proofs.Common.{ℕ, ◌≡◌, Bool, true, false, cond, eqb, inl, inr, arith, refl, sym, subst}
use Rattle.std.proofs.lemmas.Bool.{eqb-true, true≢false}
use Rattle.proof_agreement.specs.Machine.{IsQuorum}
use Rattle.proof_agreement.specs.Example.{moving, only, both, GroupsMove}
use Rattle.proof_agreement.proofs.Logs.{push-grows}

at_one : (m : ℕ) (P : ℕ → Type 0) → P m → (n : ℕ) → only m n ≡ true → P n
at_one m P h n t = subst P (sym (eqb-true n m t)) h

at_both : (P : ℕ → Type 0) → P 1 → P 2 → (n : ℕ) → both n ≡ true → P n
at_both P h k n = go (eqb n 1) refl
  where
    go : (b : Bool) → eqb n 1 ≡ b → cond b true (eqb n 2) ≡ true → P n
    go true e t = subst P (sym (eqb-true n 1 e)) h
    go false e t = subst P (sym (eqb-true n 2 t)) k

first_alone : IsQuorum moving 0 (only 1)
first_alone = record { first = omega arith; rest = tt }

two : IsQuorum moving 1 both
two = record { first = omega arith; rest = (omega arith, tt) }

last_alone : IsQuorum moving 2 (only 2)
last_alone = record { first = omega arith; rest = tt }

not_so : {X : Type 0} → false ≡ true → X
not_so t = absurd (true≢false (sym t))

pub groups_move : GroupsMove
groups_move = (
  (
    record { none = refl; not_committed = refl; fresh = refl },
    (
      omega arith,
      (
        refl,
        (
          record { positive = omega arith; vote = refl; not_committed = refl; some = omega arith; quorum = first_alone; each = λ n t. (record { node = 1; leader = 1; last = 0; len = 1 }, inl refl, sym (eqb-true n 1 t), refl, inr (refl, omega arith)) },
          (
            record { vote = refl; vote_committed = refl; same = λ t _. not_so t; settled = λ t _. not_so t; change = λ t _. not_so t },
            (
              record { established = refl; own = omega arith; span = 2; holds = omega arith; in_log = omega arith; quorum = first_alone; each = at_one 1 _ (omega arith) },
              (
                record { vote = refl; vote_committed = refl; same = λ _ t. not_so t; settled = λ _ t. not_so t; change = λ _ _. record { last = omega arith; share = record { group = _; left = inl refl; right = inl refl } } },
                (
                  record { established = refl; from = omega arith; other = omega arith },
                  (
                    record { led = record { vote_committed = refl; other = omega arith }; agree = record { left = omega arith; right = omega arith; same = λ i h. absurd (omega arith) }; longer = omega arith; in_leader = omega arith },
                    (
                      record { vote_committed = refl; agree = record { left = omega arith; right = omega arith; same = λ i h. refl } },
                      (
                        record { established = refl; own = omega arith; span = 3; holds = omega arith; in_log = omega arith; quorum = two; each = at_both _ (omega arith) (omega arith) },
                        (
                          record { vote = refl; vote_committed = refl; same = λ _ t. not_so t; settled = λ _ t. not_so t; change = λ _ _. record { last = omega arith; share = record { group = _; left = inr (inl refl); right = inl refl } } },
                          (
                            record { led = record { vote_committed = refl; other = omega arith }; agree = push-grows _ _; longer = omega arith; in_leader = omega arith },
                            (
                              record { vote_committed = refl; agree = record { left = omega arith; right = omega arith; same = λ i h. refl } },
                              (
                                record { established = refl; own = omega arith; span = 4; holds = omega arith; in_log = omega arith; quorum = last_alone; each = at_one 2 _ (omega arith) },
                                (
                                  record { low = omega arith; decided = omega arith; agree = record { left = omega arith; right = omega arith; same = λ i h. refl } },
                                  (
                                    omega arith,
                                    (
                                      omega arith,
                                      (
                                        refl,
                                        (
                                          record { positive = omega arith; vote = refl; not_committed = refl; some = omega arith; quorum = last_alone; each = λ n t. (record { node = 2; leader = 2; last = 1; len = 4 }, inl refl, sym (eqb-true n 2 t), refl, inr (refl, omega arith)) },
                                          (
                                            record { vote = refl; vote_committed = refl; same = λ t _. not_so t; settled = λ t _. not_so t; change = λ t _. not_so t },
                                            (
                                              record { established = refl; own = omega arith; span = 5; holds = omega arith; in_log = omega arith; quorum = last_alone; each = at_one 2 _ (omega arith) },
                                              (
                                                record { low = omega arith; decided = omega arith; agree = record { left = omega arith; right = omega arith; same = λ i h. refl } },
                                                (
                                                  omega arith,
                                                  tt,
                                                ),
                                              ),
                                            ),
                                          ),
                                        ),
                                      ),
                                    ),
                                  ),
                                ),
                              ),
                            ),
                          ),
                        ),
                      ),
                    ),
                  ),
                ),
              ),
            ),
          ),
        ),
      ),
    ),
  ),
  inl refl,
)
