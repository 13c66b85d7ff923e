use Rattle.std.proofs.Common.{true, false, ap, ◌∙◌}
use Rattle.std.proofs.lemmas.Result.{err_from_is_err_and}
use Rattle.hex.specs.Hex.{encode_lower}
use Rattle.raft_schedule.proofs.Values.{hex_fail, hex_by_encode}
use Rattle.raft_schedule.proofs.schedule.parse_hex.Goals as goal

pub returns-in_err-bytes : goal.returns-in_err-bytes
returns-in_err-bytes c =
    let p = err_from_is_err_and c.from_residual.result c.from_residual.ensures.1 in
    rw (p.1, p.2) (hex_fail c.args.text.now c.in_err-bytes.field-0.0 c.in_err-bytes.ensures.err)

pub returns-then-ne : goal.returns-then-ne
returns-then-ne c =
    hex_by_encode c.args.text.now c.in_ok-bytes.bytes.items c.as_str.result.now true c.in_ok-bytes.ensures.ok (c.as_str.ensures.value ∙ c.in_ok-encode.ensures ∙ ap encode_lower c.as_slice.ensures.value) c.if-ne.ensures

pub returns : goal.returns
returns c =
    rw c.from_vec.ensures
    (hex_by_encode c.args.text.now c.in_ok-bytes.bytes.items c.as_str.result.now false c.in_ok-bytes.ensures.ok (c.as_str.ensures.value ∙ c.in_ok-encode.ensures ∙ ap encode_lower c.as_slice.ensures.value) c.if-ne.ensures)
