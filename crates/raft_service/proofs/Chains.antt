-- What is done one after another, by its last one.
use Rattle.std.proofs.Common.{ℕ, List, [], ◌∷◌, ◌++◌, refl, subst}
use Rattle.raft_clients.specs.declared.clients.Clients.{Clients}
use Rattle.raft_service.specs.Core.{CoreOutput}
use Rattle.raft_service.specs.Delivering.{Delivers, DeliversAll}
use Rattle.raft_service.specs.Serving.{Serves, ServesAll}
use Rattle.raft_service.specs.declared.intake.Intake.{Intake}
use Rattle.raft_service.specs.declared.output.Output.{Output}
use Rattle.raft_service.specs.declared.service.Service.{Service}

-- one more output
pub delivers_more : (os : List CoreOutput) (o : CoreOutput) (old s new : Service) (before out after : List Output)
    → DeliversAll os old before s out → Delivers o s out new after → DeliversAll (os ++ o ∷ []) old before new after
delivers_more [] o old s new before out after h d =
    (new, after, subst (λ (b : List Output). Delivers o old b new after) h.1 (subst (λ (t : Service). Delivers o t out new after) h.0 d), (refl, refl))
delivers_more (p ∷ os) o old s new before out after h d = (h.0, h.1, h.2, delivers_more os o h.0 s new h.1 out after h.3 d)

-- one more client
pub serves_more : (cs : List ℕ) (c : ℕ) (old s new : Clients) (i j k : Intake) (before out after : List Output)
    → ServesAll cs old i before s j out → Serves c s j out new k after → ServesAll (cs ++ c ∷ []) old i before new k after
serves_more [] c old s new i j k before out after h d =
    let there = subst (λ (t : Clients). Serves c t j out new k after) h.0 d in
    let at = subst (λ (x : Intake). Serves c old x out new k after) h.1 there in
    (new, k, after, subst (λ (b : List Output). Serves c old i b new k after) h.2 at, (refl, refl, refl))
serves_more (p ∷ cs) c old s new i j k before out after h d = (h.0, h.1, h.2, h.3, serves_more cs c h.0 s new h.1 j k h.2 out after h.4 d)
