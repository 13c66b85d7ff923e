pub use Rattle.raft_node.proofs.raft_state_proofs as raft_state_proofs
pub use Rattle.raft_node.proofs.raft_error_proofs as raft_error_proofs
pub use Rattle.raft_node.proofs.raft_progress_entry_proofs as raft_progress_entry_proofs
pub use Rattle.raft_node.proofs.raft_progress_proofs as raft_progress_proofs
pub use Rattle.raft_node.proofs.raft_command_proofs as raft_command_proofs
pub use Rattle.raft_node.proofs.raft_proposer_proofs as raft_proposer_proofs
pub use Rattle.raft_node.proofs.raft_steps_proofs as raft_steps_proofs
pub use Rattle.raft_node.proofs.raft_store_proofs as raft_store_proofs
pub use Rattle.raft_node.proofs.raft_schedule_proofs as raft_schedule_proofs
pub use Rattle.raft_node.proofs.raft_calls_proofs as raft_calls_proofs
pub use Rattle.raft_node.proofs as raft_node_proofs
pub use Rattle.proof_mirror.proofs as proof_mirror_proofs
pub use Rattle.proof_agreement.proofs as proof_agreement_proofs
-- In reading order. What an ideal world is, and how it grows
pub mod Worlds  -- what deeds leave as it is, and what follows the world stays followed
pub mod Numbers  -- leader ids as numbers, in their order
pub mod Tails  -- what a store that is in step with an engine tells of the ideal store
pub mod Pushes  -- a command is put behind a queue, or taken from its front
pub mod Keeps  -- what an engine knows stays known
pub mod Claims  -- a node's vote is its own, or was stored by the node that it names
pub mod Leading  -- leaders have votes above 0, and streams where they have ideal ones
pub mod Overlap  -- below a snapshot's end the stored entries are the snapshot's
pub mod Stored  -- the stored ids and entries, in the ideal whole log
pub mod Storing  -- that a store can take the next of the commands that are ready
pub mod Quorums  -- the engine's quorums are ideal ones
-- Commands by deeds
pub mod VotePushes  -- votes: saved, asked for, answered; streams; an established leader
pub mod CommitPushes  -- what is decided, committed and applied; a note for a snapshot
pub mod SendPushes  -- what a target is sent
pub mod ProposePushes  -- entries of a leader
pub mod AppendPushes  -- entries of a follower: cut, appended, accepted
pub mod SnapshotPushes  -- purges
pub mod InstallPushes  -- snapshots: the cut before the install, the install, its reply
pub mod Roles  -- a change of role
pub mod Away  -- a leader that leads no more
pub mod Noting  -- a snapshot's build that is due
pub mod Rebuilding  -- streams built anew
pub mod Noops  -- a new leader's no-op entry stands above all that was decided before it
-- Elections
pub mod Voting  -- a vote is adopted
pub mod Asking  -- votes are asked for, and answered
pub mod Beginning  -- the first entry
pub mod Winning  -- a candidate with a quorum becomes leader
pub mod Replies  -- replies to the candidate, and its own grant
pub mod HigherVotes  -- a higher vote in a reply
pub mod ElectionLaws  -- the law of elections
-- Leaders
pub mod LeaderSends  -- what a leader sends to all
pub mod Proposing  -- entries without memberships
pub mod Joining  -- a membership takes effect
pub mod Changing  -- when a membership may be proposed
pub mod Decides  -- what a leader's table grants may be committed
pub mod Granting  -- it is committed
pub mod Acknowledging  -- an acknowledgement is counted
pub mod Answering  -- replies of a target
pub mod ReadIds  -- what is answered to a read
pub mod LeaderLaws  -- the law of leaders
-- Followers
pub mod AppendTails  -- a request, and the log that it meets
pub mod Appends  -- when entries may be cut, appended and accepted
pub mod AppendCalls  -- cut, appended, accepted
pub mod AppendLaws  -- the request and its reply
pub mod AppendCommits  -- the committed id that a leader tells
pub mod AppendSettled  -- what is decided is cut by no one
pub mod AppendMembers  -- memberships in a log and in its ideal log
pub mod AppendFitting  -- so no cut reaches the committed membership
pub mod AppendKept  -- which stays settled when a request is taken
pub mod AppendRefusals  -- refusals that no request meets
pub mod AppendHeld  -- nor does what a leader tells as committed
pub mod FollowerLaws  -- the law of followers
-- Snapshots and starts
pub mod SnapshotCalls  -- what a purge needs
pub mod SnapshotLaws  -- purges, triggers, finished snapshots
pub mod Built  -- a built snapshot becomes the store's
pub mod Noted  -- what is noted for a snapshot fits the engine
pub mod Finishing  -- a build that ends
pub mod Installs  -- an install, command by command
pub mod InstallCalls  -- the calls of an install
pub mod InstallLaws  -- an install and its reply
pub mod InstallMembers  -- the memberships that an install leaves
pub mod InstallFitting  -- a snapshot fits the log that it meets
pub mod InstallAccepted  -- and what was accepted before
pub mod InstallUnrefused  -- so it is refused for few reasons
pub mod LeaderStarts  -- an engine starts, or steps down
pub mod Restarts  -- a store is taken up anew, by deeds
pub mod Starts  -- both
pub mod SnapshotsDone  -- the law of snapshots, purges and starts
-- The run of a world
pub mod Calls  -- the laws that a run rests on, as one record
pub mod Kept  -- calls about votes leave the committed membership
pub mod Laws  -- their laws, in that form
pub mod OwnSettles  -- the committed membership stays settled
pub mod LeaderSettles  -- so it does when a leader takes replies
pub mod LeaderEvents  -- the laws of a leader's calls at events: values, heartbeats, replies and failures, higher votes
pub mod SnapshotSettles  -- so it does when a snapshot is built or installed, and at a purge
pub mod SnapshotEvents  -- the laws of calls for snapshots and purges at events
pub mod StartSettles  -- so it is when an engine starts
pub mod AllLaws  -- the record, whole
pub mod Executed  -- what a command makes of the store and the records
pub mod LedBuilds  -- without a leader no streams to build are queued
pub mod BuildsCalled  -- nor are they after an event's calls, or what is fed back
pub mod Runs  -- the records of whole logs run from index 0
pub mod Acceptances  -- what is accepted is acknowledged in the bag
pub mod Recording  -- what a leader decides is recorded
pub mod Drains  -- a node works off its queue, and may stop after any command
pub mod Told  -- what a node decides is applied once its queue is worked off
pub mod Nodes  -- the other nodes stay
pub mod LeaderWorks  -- the calls of a leader's events
pub mod ReadAnswers  -- what a leader answers to a read
pub mod MembershipWorks  -- those of changes of membership, and of a leader that steps down
pub mod SnapshotWorks  -- those for snapshots and purges
pub mod Events  -- the calls of an engine at an event
pub mod Resting  -- between two events each node is at rest
pub mod BuildEnds  -- a build that ends, at a node
pub mod StartWorks  -- a start, at a node
pub mod Called  -- the calls of a node at an event
pub mod Joined  -- a run is followed, event by event
pub mod OwnReads  -- a read has what its leader decided before
pub mod Promised  -- what a followed world promises
pub mod Moments  -- the same between any two commands
pub mod Worldly  -- from the empty world on
pub mod Chosen  -- what a quorum has acknowledged is never lost
pub mod Proved  -- all of it, with nothing assumed
pub mod ReadRecords  -- an event's answer is its node's
pub mod ChosenBy  -- what a leader decides, a quorum has acknowledged to it
pub mod Deciding  -- while it works off its queue
pub mod DecidedRuns  -- and in a run
pub mod OwnAnswers  -- a read's answer has what its leader decided before
-- No message is refused because it doesn't fit
pub mod PlainRefusals  -- refusals by number
pub mod PlainReplies  -- of a leader's calls
pub mod AppendUnrefused  -- of append requests
pub mod InstallDecided  -- an install leaves what is decided
pub mod InstallPlain  -- of snapshot requests
pub mod InstallsFit  -- of those that were sent; and what is cut for an append request leaves the committed membership
pub mod NeverRefused  -- of each call of an event
pub mod Outcomes  -- of each event of a run
pub mod Unled  -- an engine that neither leads nor stands leads only in a later term
pub mod BareStarts  -- so after a bare start a node leads only in a later term
pub mod LeadsAnew  -- until it is started again
-- Worked rows
pub mod ChosenRows  -- which replies acknowledge
pub mod RunRows  -- an entry that is chosen, and two elections
pub mod LeaderRows  -- a value that is replicated and executed, a failure, a higher vote
pub mod SnapshotRows  -- a snapshot that is built, and one that is installed
pub mod StartRows  -- nodes that restart
pub mod ChangeRows  -- voter groups that change, a leader that steps down, and a read
