-- The run with hasty memberships meets every condition of the machine but one, and executes two different entries.
use Rattle.std.proofs.Common.{inl, inr, arith, refl}
use Rattle.proof_agreement.specs.Machine.{IsQuorum}
use Rattle.proof_agreement.specs.LowTruncation.{three}
use Rattle.proof_agreement.specs.HastyMembership.{hasty_membership, HastyMembershipDiffers}
use Rattle.proof_agreement.proofs.Logs.{Agree-trans, Agree-less, push-grows}
use Rattle.proof_agreement.proofs.LowTruncation.{at_three, not_so}

first_123 : IsQuorum hasty_membership 0 (three 1 2 3)
first_123 = record { first = omega arith; rest = (omega arith, tt) }

first_134 : IsQuorum hasty_membership 0 (three 1 3 4)
first_134 = record { first = omega arith; rest = (omega arith, tt) }

alone_1 : IsQuorum hasty_membership 2 (three 1 1 1)
alone_1 = record { first = omega arith; rest = tt }

last_23 : IsQuorum hasty_membership 1 (three 2 2 3)
last_23 = record { first = omega arith; rest = tt }

pub hasty_membership_differs : HastyMembershipDiffers
hasty_membership_differs = ((record { none = refl; not_committed = refl; fresh = refl }, (omega arith, (refl, (omega arith, (refl, (omega arith, (refl, (record { positive = omega arith; vote = refl; not_committed = refl; some = omega arith; quorum = first_123; each = at_three 1 2 3 _ (record { node = 1; leader = 1; last = 0; len = 0 }, inr (inl refl), refl, refl, inr (refl, omega arith)) (record { node = 2; leader = 1; last = 0; len = 1 }, inr (inr (inl refl)), refl, refl, inr (refl, omega arith)) (record { node = 3; leader = 1; last = 0; len = 0 }, inl refl, refl, refl, inr (refl, omega arith)) }, (record { vote = refl; vote_committed = refl; last = λ t. not_so t; share = λ t. not_so t }, (record { established = refl; from = omega arith; other = omega arith }, (record { led = record { vote_committed = refl; other = omega arith }; agree = record { left = omega arith; right = omega arith; same = λ i h. absurd (omega arith) }; longer = omega arith; in_leader = omega arith }, (record { vote_committed = refl; agree = record { left = omega arith; right = omega arith; same = λ i h. refl } }, (record { established = refl; from = omega arith; other = omega arith }, (record { led = record { vote_committed = refl; other = omega arith }; agree = record { left = omega arith; right = omega arith; same = λ i h. absurd (omega arith) }; longer = omega arith; in_leader = omega arith }, (record { vote_committed = refl; agree = record { left = omega arith; right = omega arith; same = λ i h. refl } }, (record { established = refl; own = omega arith; span = 2; holds = omega arith; in_log = omega arith; quorum = first_123; each = at_three 1 2 3 _ (omega arith) (omega arith) (omega arith) }, (record { low = omega arith; decided = omega arith; agree = record { left = omega arith; right = omega arith; same = λ i h. refl } }, (record { low = omega arith; decided = omega arith; agree = record { left = omega arith; right = omega arith; same = λ i h. refl } }, (omega arith, (refl, (omega arith, (refl, (omega arith, (refl, (record { positive = omega arith; vote = refl; not_committed = refl; some = omega arith; quorum = first_123; each = at_three 1 2 3 _ (record { node = 1; leader = 2; last = 1; len = 2 }, inr (inl refl), refl, refl, inr (refl, omega arith)) (record { node = 2; leader = 2; last = 1; len = 2 }, inr (inr (inl refl)), refl, refl, inr (refl, omega arith)) (record { node = 3; leader = 2; last = 1; len = 2 }, inl refl, refl, refl, inr (refl, omega arith)) }, (record { vote = refl; vote_committed = refl; last = λ _. omega arith; share = λ _. record { group = _; left = inr (inl refl); right = inl refl } }, (omega arith, (refl, (omega arith, (refl, (omega arith, (refl, (record { positive = omega arith; vote = refl; not_committed = refl; some = omega arith; quorum = first_134; each = at_three 1 3 4 _ (record { node = 1; leader = 3; last = 1; len = 2 }, inr (inr (inl refl)), refl, refl, inr (refl, omega arith)) (record { node = 3; leader = 3; last = 1; len = 2 }, inr (inl refl), refl, refl, inr (refl, omega arith)) (record { node = 4; leader = 3; last = 0; len = 0 }, inl refl, refl, refl, inl (omega arith)) }, (record { vote = refl; vote_committed = refl; last = λ _. omega arith; share = λ _. record { group = _; left = inl refl; right = inl refl } }, (record { established = refl; own = omega arith; span = 3; holds = omega arith; in_log = omega arith; quorum = alone_1; each = at_three 1 1 1 _ (omega arith) (omega arith) (omega arith) }, (record { low = omega arith; decided = omega arith; agree = record { left = omega arith; right = omega arith; same = λ i h. refl } }, (omega arith, (omega arith, (refl, (omega arith, (refl, (record { positive = omega arith; vote = refl; not_committed = refl; some = omega arith; quorum = last_23; each = at_three 2 2 3 _ (record { node = 2; leader = 4; last = 2; len = 3 }, inr (inl refl), refl, refl, inr (refl, omega arith)) (record { node = 2; leader = 4; last = 2; len = 3 }, inr (inl refl), refl, refl, inr (refl, omega arith)) (record { node = 3; leader = 4; last = 1; len = 2 }, inl refl, refl, refl, inl (omega arith)) }, (record { vote = refl; vote_committed = refl; last = λ t. not_so t; share = λ t. not_so t }, (record { established = refl; from = omega arith; other = omega arith }, (record { led = record { vote_committed = refl; other = omega arith }; agree = Agree-trans (push-grows _ _) (Agree-less 2 (omega arith) (push-grows _ _)); longer = omega arith; in_leader = omega arith }, (record { vote_committed = refl; agree = record { left = omega arith; right = omega arith; same = λ i h. refl } }, (record { established = refl; own = omega arith; span = 4; holds = omega arith; in_log = omega arith; quorum = last_23; each = at_three 2 2 3 _ (omega arith) (omega arith) (omega arith) }, (record { low = omega arith; decided = omega arith; agree = record { left = omega arith; right = omega arith; same = λ i h. refl } }, (omega arith, tt))))))))))))))))))))))))))))))))))))))))))))))))), inr (inl refl), inl refl)
