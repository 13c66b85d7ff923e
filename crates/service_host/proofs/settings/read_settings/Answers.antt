use Rattle.std.proofs.Common.{◌∙◌, ap}
use Rattle.service_host.specs.Settings.{given_of}
use Rattle.service_host.proofs.settings.read_settings.Goals as goal

pub returns-in-Ok : goal.returns-in-Ok
returns-in-Ok c = c.in-Ok.ensures ∙ ap given_of c.new-cursor.ensures
