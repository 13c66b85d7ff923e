use Rattle.std.proofs.Common.{ℕ, List}
use Rattle.proof_agreement.specs.FixedGroups.{fixed}
use Rattle.proof_agreement.specs.Machine.{Setup, Event, AllAllowed, run, start}
use Rattle.proof_agreement.proofs.Bridge.{membership_kept}
use Rattle.proof_agreement.proofs.FixedGroups.{all_allowed}
use Rattle.proof_agreement.proofs.Invariants.{Invariants}
use Rattle.proof_agreement.proofs.Theorems.{all_kept, start_inv, agreed, matches, complete, decided_complete, decided_chosen, committed_beginnings, own_acknowledged}
use Rattle.proof_agreement.proofs.machine.runs_agree.Goals as goal

reached : (s : Setup ℕ) (events : List (Event ℕ)) → AllAllowed s events (start s) → Invariants s (run s events (start s))
reached s events h = all_kept s events (start s) (start_inv s) h

pub returns-clause-agreed : goal.returns-clause-agreed
returns-clause-agreed c = λ s events h. agreed s (run s events (start s)) (reached s events h)

pub returns-clause-log_matching : goal.returns-clause-log_matching
returns-clause-log_matching c = λ s events h. matches s (run s events (start s)) (reached s events h)

pub returns-clause-leader_completeness : goal.returns-clause-leader_completeness
returns-clause-leader_completeness c = λ s events h. complete s (run s events (start s)) (reached s events h)

pub returns-clause-decided_completeness : goal.returns-clause-decided_completeness
returns-clause-decided_completeness c = λ s events h. decided_complete s (run s events (start s)) (reached s events h)

pub returns-clause-decided_chosen : goal.returns-clause-decided_chosen
returns-clause-decided_chosen c = λ s events h. decided_chosen s (run s events (start s)) (reached s events h)

pub returns-clause-committed_beginnings : goal.returns-clause-committed_beginnings
returns-clause-committed_beginnings c = λ s events h. committed_beginnings s (run s events (start s)) (reached s events h)

pub returns-clause-own_acknowledged : goal.returns-clause-own_acknowledged
returns-clause-own_acknowledged c = λ s events h. own_acknowledged s (run s events (start s)) (reached s events h)

pub returns-clause-membership_kept : goal.returns-clause-membership_kept
returns-clause-membership_kept c = λ s events h. membership_kept s (run s events (start s)) (reached s events h)

pub returns-clause-fixed_groups : goal.returns-clause-fixed_groups
returns-clause-fixed_groups c = λ g gs owner first events h. all_allowed g gs owner first events (start (fixed g gs owner first)) h

pub returns-clause-fixed_groups_agreed : goal.returns-clause-fixed_groups_agreed
returns-clause-fixed_groups_agreed c = λ g gs owner first events h. agreed (fixed g gs owner first) (run (fixed g gs owner first) events (start (fixed g gs owner first))) (reached (fixed g gs owner first) events (all_allowed g gs owner first events (start (fixed g gs owner first)) h))
