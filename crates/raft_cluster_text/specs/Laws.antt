-- What holds of texts that were played.
use Rattle.std.specs.Prelude.{◌≡◌, false}
use Rattle.raft_world.specs.declared.agreement.Agreement.TheVariants.{Agree}
use Rattle.raft_cluster_text.specs.declared.run.Played.{Played}

-- clients were told of nothing that differs, unless a byte on a disk was changed by hand or a packet of a stranger was taken
abbrev pub AgreesUndamaged : Played → Type 0
AgreesUndamaged played = played.damaged ≡ false → played.agreement ≡ Agree
