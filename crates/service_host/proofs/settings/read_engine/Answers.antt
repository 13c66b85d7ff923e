use Rattle.std.proofs.Common.{refl}
use Rattle.service_host.proofs.settings.read_engine.Goals as goal

pub returns : goal.returns
returns c =
    rw (
      c.new.ensures,
      c.in_ok-election_timeout.ensures.number,
      c.in_ok-lease.ensures.number,
      c.in_ok-max_payload_entries.ensures.number,
      c.in_ok-snapshot_policy.ensures.policy,
      c.in_ok-kept_entries.ensures.number,
      c.in_ok-snapshot_policy.ensures.rest,
      c.in_ok-max_payload_entries.ensures.rest,
      c.in_ok-lease.ensures.rest,
      c.in_ok-election_timeout.ensures.rest,
    )
    refl
