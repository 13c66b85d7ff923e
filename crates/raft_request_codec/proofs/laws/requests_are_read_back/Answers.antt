use Rattle.raft_request_codec.proofs.RequestLaws.{request_is}
use Rattle.raft_request_codec.proofs.laws.requests_are_read_back.Goals as goal

pub returns : goal.returns
returns c = request_is
