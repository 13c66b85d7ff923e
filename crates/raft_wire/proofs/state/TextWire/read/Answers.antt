use Rattle.std.proofs.Common.{◌∙◌}
use Rattle.raft_wire.proofs.Texts.{text_found, text_refused}
use Rattle.raft_wire.proofs.state.TextWire.read.Goals as goal

pub returns-in_ok-text-in-Ok : goal.returns-in_ok-text-in-Ok
returns-in_ok-text-in-Ok c =
    text_found c.args.reader.now c.in_ok-raw.field-0.now c.raw.new.self c.from_string.result c.in_ok-raw.ensures c.in-Ok.ensures.cases.1
    (c.from_string.ensures ∙ c.in_ok-text-in-Ok.ensures.ok ∙ c.in-Ok.ensures.cases.0)

pub returns-in-Err : goal.returns-in-Err
returns-in-Err c = rw (c.left-left.ensures) (text_refused c.args.reader.now c.in_ok-raw.field-0.now c.raw.new.self c.in_ok-raw.ensures c.in-Err.ensures.cases.0)
