use Rattle.std.proofs.Common.{◌≡◌, lit<, sym, ap, ◌∙◌, false}
use Rattle.std.proofs.lemmas.Result.{err_from_is_err_and}
use Rattle.std.proofs.lemmas.Str.Pattern.{strip_prefix_char}
use Rattle.std.specs.Option.{option_map}
use Rattle.raft_schedule.specs.declared.schedule.Language.TheVariants.{Second}
use Rattle.raft_store.specs.declared.entry.Value.TheVariants.{Number, Bytes}
use Rattle.raft_schedule.specs.Line.{begins}
use Rattle.raft_schedule.proofs.Values.{stripped, unstripped, bytes_value, bytes_fail, number_value}
use Rattle.raft_schedule.proofs.schedule.parse_value.Goals as goal
use Rattle.raft_schedule.proofs.schedule.parse_value.Goals.{in_default-via-in-Second+in_default, in_default-via-in_default}

pub returns-in_err-parse_hex-in-Second-Some : goal.returns-in_err-parse_hex-in-Second-Some
returns-in_err-parse_hex-in-Second-Some c =
    let p = err_from_is_err_and c.from_residual.result c.from_residual.ensures.1 in
    let begun = stripped 120 c.args.word.now c.strip_prefix.result c.in-Second-Some.text (strip_prefix_char 120 c.args.word.now c.strip_prefix.result c.strip_prefix.ensures.cases (lit< tt)) c.in-Second-Some.is-1 in
    rw (p.1, p.2)
    (bytes_fail c.in_err-parse_hex-in-Second-Some.field-0.0 c.args.language c.args.word.now c.in-Second-Some.text.now c.in-Second-Some.is-0 begun c.in_err-parse_hex-in-Second-Some.ensures)

pub returns-in_ok-parse_hex-in-Second-Some : goal.returns-in_ok-parse_hex-in-Second-Some
returns-in_ok-parse_hex-in-Second-Some c =
    let begun = stripped 120 c.args.word.now c.strip_prefix.result c.in-Second-Some.text (strip_prefix_char 120 c.args.word.now c.strip_prefix.result c.strip_prefix.ensures.cases (lit< tt)) c.in-Second-Some.is-1 in
    bytes_value c.args.language c.args.word.now c.in-Second-Some.text.now c.in-Second-Some.is-0 begun ∙ ap (option_map Bytes) c.in_ok-parse_hex-in-Second-Some.ensures

pub returns-in-None : goal.returns-in-None
returns-in-None c =
    let plain : c.args.language ≡ Second → begins 120 c.args.word.now ≡ false = elim c.in_default.branch [
      | in_default-via-in-Second+in_default w ↦ λ e. unstripped 120 c.args.word.now c.strip_prefix.result (strip_prefix_char 120 c.args.word.now c.strip_prefix.result c.strip_prefix.ensures.cases (lit< tt)) w.in_default.is-1
      | in_default-via-in_default w ↦ λ e. cc (sym e ∙ w.in_default.is-0)
    ] in
    number_value c.args.language c.args.word.now plain ∙ ap (option_map Number) (sym c.in-None.ensures)

pub returns-in-Some : goal.returns-in-Some
returns-in-Some c =
    let plain : c.args.language ≡ Second → begins 120 c.args.word.now ≡ false = elim c.in_default.branch [
      | in_default-via-in-Second+in_default w ↦ λ e. unstripped 120 c.args.word.now c.strip_prefix.result (strip_prefix_char 120 c.args.word.now c.strip_prefix.result c.strip_prefix.ensures.cases (lit< tt)) w.in_default.is-1
      | in_default-via-in_default w ↦ λ e. cc (sym e ∙ w.in_default.is-0)
    ] in
    number_value c.args.language c.args.word.now plain ∙ ap (option_map Number) (sym c.in-Some.ensures)
