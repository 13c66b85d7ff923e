-- the specifications of proof_answers, passed on
pub use Rattle.proof_answers.specs.Waiting
pub use Rattle.proof_answers.specs.Answers
pub use Rattle.proof_answers.specs.Reads
pub use Rattle.proof_answers.specs.Histories
pub use Rattle.proof_answers.specs.Laws
