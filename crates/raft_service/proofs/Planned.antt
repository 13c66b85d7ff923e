-- A request that the server took on the way that was planned.
use Rattle.std.proofs.Common.{ℕ, ◌≡◌, Bool, refl, sym, ap, subst, ◌∙◌}
use Rattle.raft_connection.specs.declared.connection.Asked.{Asked}
use Rattle.raft_service.specs.Intake.{Admitted, AdmitsBy, goes_by_round, plan_for}
use Rattle.raft_service.specs.Plans.{planned}
use Rattle.raft_service.specs.declared.intake.Intake.{Intake}
use Rattle.raft_service.specs.declared.plan.Plan.{Plan}
use Rattle.raft_service.specs.declared.question.Question.{Question}

abbrev pub asked_by : Intake → ℕ → Asked → Plan → Question
asked_by s client asked plan = record { token = record { 0 = s.next }; client = client; number = asked.number; wanted = plan.wanted }

pub admitted_as : (s m : Intake) (client : ℕ) (asked : Asked) (is_alone by_round : Bool) (plan : Plan) (next : ℕ) → by_round ≡ goes_by_round s is_alone
    → plan ≡ planned s.time s.told by_round asked.work → AdmitsBy plan.way (asked_by s client asked plan) s m
    → Admitted client asked is_alone s (record m { next = next; told = plan.told })
admitted_as s m client asked is_alone by_round plan next e plan_is h =
    let same : plan ≡ plan_for s asked is_alone = plan_is ∙ ap (λ (b : Bool). planned s.time s.told b asked.work) e in
    subst (λ (p : Plan). AdmitsBy p.way (asked_by s client asked p) s m → Admitted client asked is_alone s (record m { next = next; told = p.told })) (sym same)
    (λ taken. record { middle = m; goes = taken; rest = refl }) h
