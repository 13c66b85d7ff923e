-- Steps one behind the other.
use Rattle.std.proofs.Common.{◌≡◌, ◌∙◌, List, [], ◌∷◌, ◌++◌, Option, refl, sym, subst}
use Rattle.raft_schedule.specs.declared.event.Outcome.{Outcome}
use Rattle.raft_node.specs.declared.given.Given.{Given}
use Rattle.raft_peers.specs.proof_packed.Stores.{Application}
use Rattle.raft_peers.specs.proof_packed_servers.Servers.{PackedServer, PackedStep, packed_with_step}
use Rattle.raft_peers.specs.raft_packed_server.Represents.{Represents}
use Rattle.raft_peers.specs.raft_packed_server.declared.serving.Serving.{Serving}
use Rattle.raft_peers.specs.raft_packed_server.Views.{IsWithTaken, ServerView}
use Rattle.raft_core.specs.Steps.{IsWithAllTaken, TakesStep, TakesSteps, with_steps}

module _ {S : Type 0} (app : Application S) where
  -- one more step
  with_more : (given : Given) (todo : List (PackedStep S)) (step : PackedStep S) (s : PackedServer S)
      → with_steps app given (todo ++ step ∷ []) s ≡ packed_with_step app given step (with_steps app given todo s)
  with_more given [] step s = refl
  with_more given (x ∷ todo) step s = with_more given todo step (packed_with_step app given x s)

  taken_more : (given : Given) (todo : List (PackedStep S)) (step : PackedStep S) (old mid new : Option (Serving S))
      → IsWithAllTaken app given todo old mid → IsWithTaken app given step mid new → IsWithAllTaken app given (todo ++ step ∷ []) old new
  taken_more given [] step old mid new all one = (new, (subst (λ v. IsWithTaken app given step v new) all one, refl))
  taken_more given (x ∷ todo) step old mid new all one = (all.0, (all.1.0, taken_more given todo step all.0 mid new all.1.1 one))

  pub no_steps : (v : ServerView S) → TakesSteps app [] v v
  no_steps v = record { given = refl; taken = refl; steps = λ s is. is }

  pub one_more : (todo : List (PackedStep S)) (step : PackedStep S) (old mid new : ServerView S) (outcome : Outcome) → TakesSteps app todo old mid
      → TakesStep app step mid outcome new → TakesSteps app (todo ++ step ∷ []) old new
  one_more todo step old mid new outcome a b = record {
    given = b.given ∙ a.given;
    taken =
        taken_more old.given todo step old.serving mid.serving new.serving a.taken
        (subst (λ given. IsWithTaken app given step mid.serving new.serving) a.given b.taken);
    steps = λ s is.
        (let taken : Represents app (packed_with_step app mid.given step (with_steps app old.given todo s)) new =
        (b.step (with_steps app old.given todo s) (a.steps s is)).1 in
        subst (λ t. Represents app t new) (sym (with_more old.given todo step s))
        (subst (λ given. Represents app (packed_with_step app given step (with_steps app old.given todo s)) new) a.given taken));
  }

  -- one alone
  pub one_step : (step : PackedStep S) (old new : ServerView S) (outcome : Outcome) → TakesStep app step old outcome new
      → TakesSteps app (step ∷ []) old new
  one_step step old new outcome b = record { given = b.given; taken = (new.serving, (b.taken, refl)); steps = λ s is. (b.step s is).1 }
