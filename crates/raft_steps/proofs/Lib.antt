-- What is known of a call that isn't refused
pub use Rattle.raft_proposer.proofs as raft_proposer_proofs
pub mod Unrefused  -- what is known of a call that is not refused
pub mod Room  -- if a no-op entry would be proposed, the refusals leave an index for it
pub mod Counted  -- the values of numbers that aren't near their end
pub mod FitsEnd  -- an id that fits a log is below the end
pub mod Named  -- tests over entries and their ids
pub mod Followed  -- what the refusals of a request leave
pub mod Installed  -- what is known of a leader's snapshot that isn't refused
pub mod Answered  -- what replies that aren't refused allow, and leave of their targets' inflight numbers
pub mod Accepted  -- a rejected vote changes nothing but for the reply
pub mod Committed  -- what holds of a step over a leader holds after its call, if that succeeds
pub mod Settled  -- what holds at the end of a call that its queue has settled, if it wasn't spent by out of memory
-- What single steps leave
pub mod Marks  -- what steps leave of the vote, its time and the committed id
pub mod Sights  -- steps that leave what a candidate has of the state
pub mod Votes  -- what a leader is after a vote of its own was adopted
pub mod Led  -- a leader made by votes
pub mod Leads  -- what a new leader has left, and when there is one
pub mod Own  -- this node's own acknowledgement
pub mod Replied  -- what a reply does to a target's entry
pub mod Sending  -- what a leader's sends and upgrades leave of its numbers
pub mod Proposing  -- what a leader's numbers are after it has proposed
pub mod Started  -- what a leader has left when it leads again after a start, and what holds of an engine that starts
pub mod Purged  -- what a purge up to an id of the log leaves of it
pub mod Memberships  -- the memberships of entries, put into effect one by one, and the last two of them
pub mod Ends  -- the ids that a log's last leader wrote
pub mod Walks  -- iterations over rows: what one step adds
-- What holds between calls is kept: sound states, leaders and engines
pub mod Kept  -- the steps keep the log's order, the watermarks and the accepted record
pub mod KeptAppend  -- a state is sound after a leader's entries have been appended
pub mod KeptInstall  -- what a snapshot's refusals leave, and what holds of a state after its install
pub mod EntryLaws  -- what a leader knows of a target fits its log after each change of the log or the entry
pub mod Established  -- the leader that is made of a sound candidate is sound
pub mod KeptLead  -- a leader fits its log after each of its steps
pub mod KeptCommit  -- a leader and its log are sound after proposals, changes of membership and commits
pub mod KeptReplies  -- a leader and its log are sound after the replies to what it sent
pub mod KeptFollow  -- an engine is sound after requests from candidates and leaders
pub mod KeptPurge  -- an engine is sound after purges, and after its snapshots are recorded
pub mod KeptEngine  -- an engine is sound after each of these steps
-- The laws of calls
pub mod Allowed  -- what all commands that a step queues have in common
pub mod AllowedCalls  -- what all commands that an election or a request queues have in common
pub mod LawsQueue  -- what each call queues: the votes that it saves, and its sequence numbers
pub mod LawsRenew  -- an equal vote renews its time, in the other calls too
pub mod LawsDelete  -- replies and purges delete nothing from the log
pub mod LawsFollow  -- what requests from candidates and leaders queue, and what they leave as it is
pub mod LawsInstall  -- what installs queue, and what they leave
pub mod LawsLead  -- what starts queue, and what reads see
pub mod LawsPurge  -- what the calls that purge have queued by then, and what replies queue besides
pub mod LawsReply  -- what replies and purges queue, and what a leader commits by replies
pub mod LawsCommit  -- what a leader commits after an acknowledgement
pub mod Matchings  -- what a leader may commit depends on its rows' ids and matching ids alone, so a purge and a send leave it
pub mod HeldNodes  -- a leader's tables are the effective membership's
-- Computed examples
pub mod Example  -- a plain application, and values
pub mod SoundExample  -- engines that are sound: a new one, one with a log, and one that leads and commits
pub mod LeaderRows  -- leaders, their no-op entries, ids and clocks
pub mod ElectionRows  -- one voter is given the first entry, is elected, and commits its no-op entry
pub mod VoteRows  -- votes, roles and elections
pub mod FollowRows  -- vote requests, appends and commits
pub mod ReplyRows  -- replies, purges and snapshots
pub mod InstallRows  -- a leader's snapshot
