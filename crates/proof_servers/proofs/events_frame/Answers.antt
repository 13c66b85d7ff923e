use Rattle.proof_servers.proofs.Frame.{played_behind}
use Rattle.proof_servers.proofs.events_frame.Goals as goal

pub returns : goal.returns
returns c s = λ f keep given event act r scene. played_behind f r keep given event act scene
