pub mod Images  -- what an election makes of the engines that take part in it
pub mod Conditions  -- when a node stands and others grant it their votes, in the forms that the steps read
-- An election, step by step
pub mod Elects  -- what an election makes of an engine
pub mod Messages  -- messages by number
pub mod Wins  -- a grant is counted; with a quorum of them a candidate leads
pub mod Grants  -- a request whose vote is greater, past the lease, with a log that isn't behind, is granted
pub mod Works  -- what nodes at work make of these queues
pub mod Afresh  -- a new leader's engine
pub mod Leading  -- a node that leads goes on as it works, and is recorded as established
pub mod Beside  -- what an election leaves of the other nodes
pub mod Places  -- one node of a world changes at an event
pub mod Numbered  -- what the events of a way on are computed from: the first message that a test finds, and the engine that a node runs
pub mod Plays  -- an event at a running node, by its call and its work
pub mod Tables  -- who has granted a candidate
pub mod Voters  -- the voters of a membership
pub mod Campaigns  -- a candidate asks voter after voter, until it leads
pub mod CanElect  -- a node stands, and its voters grant
pub mod Alone  -- a voter that is a quorum alone leads at its timeout
pub mod Electable  -- from where a node can be elected, events elect it
pub mod Rises  -- whatever the votes: its term rises with each timeout
-- Starts
pub mod KeptVotes  -- what a leader's acknowledgement of its own log leaves as it is
pub mod LeaderStarts  -- a node that leads by its stored vote leads at once as it starts
pub mod Restarts  -- a node that doesn't lead by its stored vote starts
pub mod StartWorks  -- a node starts, and works off its queue
pub mod BareStarts  -- a bare start, as a server makes it: a node never leads at once
pub mod Chosen  -- a choice is elected, whatever runs
pub mod Choosing  -- where the logs have the same voter groups there is a choice
-- Kept voter groups
pub mod EntriesQueued  -- what the commands that calls queue have in common, and those that bring entries of a kind
pub mod EntriesCalled  -- the commands that an event queues at a node bring entries of a kind
pub mod EntriesStored  -- what nodes store and send stays of the kind, as commands are executed
pub mod EntriesKept  -- and in each run, if what leaders propose is
pub mod GroupsKept  -- so it is of the voter groups, if no event proposes other ones
pub mod KeptChoices  -- so there is a choice, if a voter has a log
pub mod Finding  -- what a node finds as it makes a bare start
-- Deposed leaders
pub mod Deposed  -- a leader that was deposed hears of a later vote, and follows
pub mod DeposedStarts  -- as it starts, it sends its requests
pub mod Heard  -- so a choice that was deposed is elected
-- Replication
pub mod Nearing  -- what a leader knows of another node's log after each answer: the gap narrows
pub mod Rounds  -- a leader handles a node's answers, until its log matches
pub mod Matches  -- with the answer by which a quorum's logs match, the leader's last entry is committed
pub mod Proposed  -- a leader's proposal is committed, whatever the other nodes answer
pub mod Answering  -- a node answers a leader's requests, and commits what it has accepted
-- Exchanges of a leader with a node, as events
pub mod LedQueue  -- what a leader queues as it handles an answer
pub mod WorksOff  -- a queue that feeds nothing back is worked off
pub mod Carried  -- what a leader's request carries
pub mod Accepted  -- no answer to what was sent from the log as it is is refused
pub mod LeaderActs  -- a leader handles an answer or a failure at an event
pub mod Taking  -- a node takes a request: it follows, and its answer is queued
pub mod FollowerActs  -- so it does at an event
pub mod Numbers  -- the numbers that are left
pub mod Exchanging  -- nodes of a reached world, and requests that were sent to them
pub mod HeldMatches  -- in a world of stores, a node whose vote isn't above a leader's holds what it has accepted of it
pub mod LeadersKnow  -- so what a leader knows to match of a node's log is held
pub mod FollowerEvents  -- a node takes a request: its answer is on its way
pub mod InFlight  -- what is in flight to a node, and the first request that carries it
pub mod Exchanged  -- two deliveries are an exchange
pub mod Planned  -- plans one after another
pub mod CatchesUp  -- exchange after exchange, until a node's log matches
pub mod AllCatchUp  -- and one node after another
-- Proposals, as events
pub mod Rising  -- what a leader has committed only rises
pub mod Appending  -- what a leader's proposal makes of its engine
pub mod AppliedEnds  -- the last entry that is committed is the last that is applied
pub mod Values  -- what a leader proposes is what is executed
pub mod ProposalEvents  -- a leader proposes values at an event
pub mod ProposalCommits  -- and commits them, as the logs of voters come to match
pub mod AloneCommits  -- a leader that is a quorum alone commits at once
pub mod Applies  -- what a node has committed it has applied
pub mod Executes  -- nodes are told what their leader has committed, and commit it
-- The cluster goes on
pub mod Starting  -- nodes make bare starts, one after another
pub mod WaysOn  -- one of them is elected, and commits new entries
pub mod AloneGoes  -- a voter that is a quorum alone goes on alone
pub mod SomeGroups  -- what a node finds has a voter group, so a quorum alone is a voter
pub mod ChangesGo  -- the voters of the greatest log's membership go on, whatever groups events proposed
pub mod MajoritiesGo  -- a majority of each group goes on by itself, where no event proposed other groups
-- Candidates and leaders are voters
pub mod Throughout  -- what holds of each node holds after each event, if calls and commands keep it
pub mod VotersStand  -- where no learner stands, a candidate is a voter
pub mod FoundWhole  -- a start leaves a node's whole log
pub mod FoundEnd  -- so a bare start finds the membership and the last id that are stored
pub mod VoteQueues  -- what queued commands leave of a node's vote and membership
pub mod LeadersVote  -- calls leave a node whose stored vote is its own, and committed, a voter
pub mod LeadersStay  -- so it is in each reached world
pub mod MembershipsLed  -- so each membership that a leader proposed has it as a voter
-- Leaders of the greatest log
pub mod OwnQueued  -- a leader sends nothing before it has stored an entry of its own
pub mod OwnCalled  -- so it is in each reached world
pub mod OwnFirst  -- after each event, who sent a request has a log that ends with such an entry
pub mod Top  -- the node that the greatest last id names keeps it, and is a voter
pub mod Greatest  -- so a node has the greatest log
pub mod SameVotes  -- a leader's calls, and what is fed back, leave the leader id of the engine's vote
pub mod Bringing  -- where no request is taken, the entries that calls queue are own ones, under the vote that the node has then
pub mod BringingCalled  -- so are those that an event queues at a node
pub mod Growing  -- where no request is taken, a log grows by such entries
pub mod CallsKept  -- an event's calls leave a node's whole log
pub mod Taken  -- who takes a request stores its entries, and neither leads nor stands
pub mod Grown  -- where an event takes no request, its node's log grows by such entries
pub mod TopEvents  -- an event changes one node, and who sends a request has an entry of its own
pub mod TakenRuns  -- so events that take a request leave such a node
pub mod FirstLogs  -- where no log has an entry of an elected leader, a voter of the first membership has the greatest log
pub mod TopGrown  -- events that take no request leave such a node
pub mod TopRuns  -- so in each reached world a node has the greatest log
pub mod ProposersGo  -- so a majority of each of its groups goes on with it
-- Worked rows
mod Rows  -- worlds in which nodes are elected
mod ReplicationRows  -- a node's answer commits its leader's no-op entry
