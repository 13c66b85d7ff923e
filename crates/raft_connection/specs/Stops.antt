-- What functions answer that may stop.
use Rattle.std.specs.Prelude.{◌≡◌, Result, Ok, Err}
use Rattle.raft_connection.specs.declared.refusal.Refusal.{Refusal}
use Rattle.raft_connection.specs.declared.refusal.Stop.{Stop}
use Rattle.raft_connection.specs.declared.refusal.Stop.TheVariants.{OutOfMemory, Refused}

infixl 10 ◌>>=◌
abbrev pub ◌>>=◌ : {A B : Type 0} → Result A Refusal → (A → Result B Refusal) → Result B Refusal
(Ok x) >>= f = f x
(Err e) >>= f = Err e

-- what a function answered, seen by view, is what words mean, unless memory runs out
abbrev pub Refuses : {Y : Type 0} → Stop → Result Y Refusal → Type 0
Refuses OutOfMemory meant = Unit {0}
Refuses (Refused refusal) meant = meant ≡ Err refusal

abbrev pub Gives : {X Y : Type 0} → (X → Y) → Result X Stop → Result Y Refusal → Type 0
Gives view (Ok x) meant = meant ≡ Ok (view x)
Gives view (Err e) meant = Refuses e meant
