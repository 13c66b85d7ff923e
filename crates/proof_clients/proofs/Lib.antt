-- In reading order. One log
pub use Rattle.proof_deeds.proofs as proof_deeds_proofs
pub mod Slots  -- places of lists
pub mod Ideals  -- in the ideal world: what is decided is one log, and a leader's own entries are in its log
pub mod Later  -- two moments of a run, and what the later one has of the earlier
pub mod Stands  -- what is decided is one log, and leaders have their own entries, at a moment
pub mod OneLogs  -- and at any moments
pub mod Order  -- what is appended is new, and stands above what was applied before
-- Reads
pub mod IdealReads  -- in the machine: while a quorum stores no later vote, no later leader is established
pub mod Answering  -- a leader that answers a read leads by its store
pub mod Replies  -- what an event's replies to append requests tell
pub mod Taking  -- which an engine that rejects the vote doesn't send
pub mod RepliesTell  -- so a reply that was sent after a read came tells that its node took a request since
pub mod ReadsSee  -- a read that is answered while its leader leads on has what was applied before
-- Proposals
pub mod Proposals  -- a proposal that runs is appended
pub mod Sources  -- what an engine's calls queue
pub mod CallSources  -- and an event's calls
pub mod Provenance  -- what a node stores and sends
pub mod Brought  -- and a world, of what its events bring
pub mod OnlyProposed  -- so in a run only what was proposed is decided and applied
pub mod LearnersKeep  -- and a membership has one to four groups, so learners are changed without a refusal for these
-- Histories
pub mod Sequences  -- the operations of a list of entries, in its order, with queries between them
pub mod Linear  -- histories are linearizable
pub mod Rows  -- a worked run
mod BatchRows  -- one with two operations of one proposal
pub mod StaleRows  -- and reads that miss something
