use Rattle.std.proofs.Common.{◌∙◌}
use Rattle.raft_wire.proofs.Texts.{text_written}
use Rattle.raft_wire.proofs.state.TextWire.write.Goals as goal

pub returns : goal.returns
returns c = text_written c.as_bytes.result.now c.args.self.now _ _ c.write_raw.result (c.as_bytes.ensures.value ∙ c.as_str.ensures) c.as_bytes.ensures.utf8 c.write_raw.ensures
