pub mod Continuations  -- events that go on from a world, and who leads after them
pub mod Elections  -- when a node can be elected
pub mod Choices  -- the node to elect, by what the nodes have stored
pub mod Groups  -- voter groups that no event changes
pub mod Replication  -- how a leader's replication to another node ends
pub mod Proposals  -- how a leader's proposal is committed
pub mod Followers  -- how a node answers its leader's requests
pub mod Exchanges  -- an exchange of a leader with a node
pub mod CatchUps  -- a leader brings a node's log to match its own
pub mod Commits  -- a leader's proposal is committed, by events
pub mod GoesOn  -- from every reached world the cluster can go on
pub mod Majorities  -- a majority of each group goes on, where no event proposed other groups
pub mod Changes  -- so do the voters of the greatest log's membership, whatever groups events proposed
pub mod Plans  -- the events of a way on, computed from a world
pub mod GoneByPlan  -- the plan of the nodes with the greatest log, and what it does
