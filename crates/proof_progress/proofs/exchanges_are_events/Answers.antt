use Rattle.proof_progress.proofs.Exchanged.{worlds_exchange, worlds_send_again}
use Rattle.proof_progress.proofs.exchanges_are_events.Goals as goal

pub returns-clause-exchange : goal.returns-clause-exchange
returns-clause-exchange c = worlds_exchange

pub returns-clause-again : goal.returns-clause-again
returns-clause-again c = worlds_send_again
