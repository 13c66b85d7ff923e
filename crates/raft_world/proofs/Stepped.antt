-- A run of steps is the run of their events.
use Rattle.std.proofs.Common.{◌≡◌, ◌≢◌, ℕ, zero, suc, ◌+◌, ◌<◌, ◌≤◌, false, List, [], ◌∷◌, ◌++◌, length, drop, get_or, Option, Some, None, Result, Ok, Err, refl, ap, sym, subst, ◌∙◌, arith}
use Rattle.std.proofs.lemmas.List.{drop_more, take-append-le}
use Rattle.raft_schedule.specs.declared.event.Event.{Event}
use Rattle.raft_schedule.specs.declared.event.Outcome.{Outcome}
use Rattle.raft_schedule.specs.declared.step.Numbered.{Numbered}
use Rattle.raft_node.specs.declared.given.Given.{Given}
use Rattle.raft_node.specs.Runs.{History, run, whole_logs, with_event}
use Rattle.raft_store.specs.declared.entry.Entry.{Entry}
use Rattle.raft_world.specs.declared.error.WorldError.{WorldError}
use Rattle.raft_world.specs.declared.error.WorldError.TheVariants.{DuplicateId, LimitReached, NoVoters, OutOfMemory, TooManyNodes}
use Rattle.raft_world.specs.declared.expected.Unmet.{Unmet}
use Rattle.raft_world.specs.Steps.{HasRun, RunsTo, TakesSteps, UnmetIs, deliveries, delivery, events_of_step, events_of_steps, first_unmet, unmet_by}
use Rattle.raft_world.specs.Undelivered.{oldest}
use Rattle.raft_world.specs.Worlds.{Applies, RunsAll, Unhindered, WorldView, refusals_of_apply}

-- a world after events
abbrev pub after : WorldView → List Event → WorldView
after w es = record w { history = run whole_logs w.given es w.history }

none_before : (w : WorldView) (es : List Event) → Unhindered w es 0
none_before w es j lt = absurd (omega arith)

-- one event that no limit refuses, and then others
unhindered_more : (w : WorldView) (e : Event) (es : List Event) (k : ℕ) → refusals_of_apply w ≡ None → Unhindered (after w (e ∷ [])) es k → Unhindered w (e ∷ es) (suc k)
unhindered_more w e es k none h zero lt = none
unhindered_more w e es k none h (suc j) lt = h j (omega (arith, lt))

has_run_more : (w new : WorldView) (e : Event) (es : List Event) → refusals_of_apply w ≡ None → HasRun (after w (e ∷ [])) es new → HasRun w (e ∷ es) new
has_run_more w new e es none h = (h.0, unhindered_more w e es (length es) none h.1, h.2)

runs_all_more : (w new : WorldView) (e : Event) (es : List Event) (x : WorldError) → refusals_of_apply w ≡ None → RunsAll (after w (e ∷ [])) es (Err x) new → RunsAll w (e ∷ es) (Err x) new
runs_all_more w new e es LimitReached none h = (suc h.0, omega (arith, h.1), unhindered_more w e es h.0 none h.2, h.3, h.4)
runs_all_more w new e es OutOfMemory none h = (suc h.0, omega (arith, h.1), unhindered_more w e es h.0 none h.2, λ lt. h.3 (omega (arith, lt)), h.4)
runs_all_more w new e es DuplicateId none h = absurd h
runs_all_more w new e es TooManyNodes none h = absurd h
runs_all_more w new e es NoVoters none h = absurd h

-- the rest of events that were run
rest_of : (w mid : WorldView) (e : Event) (es : List Event) → HasRun w (e ∷ es) mid → HasRun (after w (e ∷ [])) es mid
rest_of w mid e es h = (h.0, λ j lt. h.1 (suc j) (omega (arith, lt)), h.2)

-- events that were run, and then others
has_run_then : (w mid new : WorldView) (es fs : List Event) → HasRun w es mid → HasRun mid fs new → HasRun w (es ++ fs) new
has_run_then w mid new [] fs h g = subst (λ (v : WorldView). HasRun v fs new) h.2 g
has_run_then w mid new (e ∷ es) fs h g = has_run_more w new e (es ++ fs) (h.1 0 (omega arith)) (has_run_then (after w (e ∷ [])) mid new es fs (rest_of w mid e es h) g)

runs_all_then : (w mid new : WorldView) (es fs : List Event) (x : WorldError) → HasRun w es mid → RunsAll mid fs (Err x) new → RunsAll w (es ++ fs) (Err x) new
runs_all_then w mid new [] fs x h g = subst (λ (v : WorldView). RunsAll v fs (Err x) new) h.2 g
runs_all_then w mid new (e ∷ es) fs x h g = runs_all_more w new e (es ++ fs) x (h.1 0 (omega arith)) (runs_all_then (after w (e ∷ [])) mid new es fs x (rest_of w mid e es h) g)

-- what stopped some events stops them where others are to follow
front_same : (w : WorldView) (es fs : List Event) (k : ℕ) → k < length es → Unhindered w es k → Unhindered w (es ++ fs) k
front_same w es fs k lt h j less = subst (λ xs. refusals_of_apply (after w xs) ≡ None) (sym (take-append-le j es fs (omega (arith, lt, less)))) (h j less)

longer : (es fs : List Event) (k : ℕ) → k < length es → k < length (es ++ fs)
longer [] fs k lt = absurd (omega (arith, lt))
longer (e ∷ es) fs zero lt = omega arith
longer (e ∷ es) fs (suc k) lt = omega (arith, longer es fs k (omega (arith, lt)))

stops_then : (w new : WorldView) (es fs : List Event) (x : WorldError) → RunsTo w es (Err x) new → RunsAll w (es ++ fs) (Err x) new
stops_then w new es fs LimitReached h =
    let same = take-append-le h.0 es fs (omega (arith, h.1)) in
    (h.0, longer es fs h.0 h.1, front_same w es fs h.0 h.1 h.2, h.3 ∙ ap (after w) (sym same), h.4)
stops_then w new es fs OutOfMemory h =
    let same = take-append-le h.0 es fs (omega (arith, h.1)) in
    (h.0, omega (arith, longer es fs h.0 h.1), front_same w es fs h.0 h.1 h.2, λ lt. subst (λ xs. refusals_of_apply (after w xs) ≢ Some LimitReached) (sym same) h.3, h.4)
stops_then w new es fs DuplicateId h = absurd h
stops_then w new es fs TooManyNodes h = absurd h
stops_then w new es fs NoVoters h = absurd h

-- ---- one event

refuses_one : (w new : WorldView) (e : Event) (es : List Event) (x : WorldError) → Applies w e (Err x) new → RunsTo w (e ∷ es) (Err x) new
refuses_one w new e es LimitReached h = (0, omega arith, none_before w (e ∷ es), h.1, subst (λ (v : WorldView). refusals_of_apply v ≡ Some LimitReached) (sym h.1) h.0)
refuses_one w new e es OutOfMemory h = (0, omega arith, none_before w (e ∷ es), h.0, h.1)
refuses_one w new e es DuplicateId h = absurd h
refuses_one w new e es TooManyNodes h = absurd h
refuses_one w new e es NoVoters h = absurd h

runs_none : (w : WorldView) → w.spent ≡ false → HasRun w [] w
runs_none w here = (here, none_before w [], refl)

-- ---- all deliveries

-- what comes of the deliveries that are left is what comes of all
abbrev pub Left : WorldView → ℕ → WorldView → ℕ → Type 0
Left old n w m = (r : Result (Unit {0}) WorldError) (new : WorldView) → RunsTo w (deliveries w.given m w.history) r new → RunsTo old (deliveries old.given n old.history) r new

runs_to_more : (w new : WorldView) (e : Event) (es : List Event) (r : Result (Unit {0}) WorldError) → refusals_of_apply w ≡ None → RunsTo (after w (e ∷ [])) es r new → RunsTo w (e ∷ es) r new
runs_to_more w new e es (Ok u) none h = has_run_more w new e es none h
runs_to_more w new e es (Err LimitReached) none h = runs_all_more w new e es LimitReached none h
runs_to_more w new e es (Err OutOfMemory) none h = (suc h.0, omega (arith, h.1), unhindered_more w e es h.0 none h.2, h.3, h.4)
runs_to_more w new e es (Err DuplicateId) none h = absurd h
runs_to_more w new e es (Err TooManyNodes) none h = absurd h
runs_to_more w new e es (Err NoVoters) none h = absurd h

-- the events of deliveries, by what the oldest message is
abbrev events_by : Given → ℕ → History (List Entry) → Option ℕ → List Event
events_by given m t None = []
events_by given m t (Some k) = delivery k ∷ deliveries given m (with_event whole_logs given t (delivery k))

deliveries_by : (given : Given) (m : ℕ) (t : History (List Entry)) (o : Option ℕ) → oldest None t ≡ o → deliveries given (suc m) t ≡ events_by given m t o
unfolding deliveries
deliveries_by given m t None is = ap (λ o. elim o as (λ _. List Event) [ None ↦ [] | Some k ↦ delivery k ∷ deliveries given m (with_event whole_logs given t (delivery k)) ]) is
deliveries_by given m t (Some k) is = ap (λ o. elim o as (λ _. List Event) [ None ↦ [] | Some k ↦ delivery k ∷ deliveries given m (with_event whole_logs given t (delivery k)) ]) is

no_deliveries : (given : Given) (t : History (List Entry)) → deliveries given 0 t ≡ []
unfolding deliveries
no_deliveries given t = refl

pub left_more : (old w mid : WorldView) (n left next k : ℕ) (o : Outcome) → left ≡ suc next → oldest None w.history ≡ Some k → Applies w (delivery k) (Ok o) mid → Left old n w left → Left old n mid next
left_more old w mid n left next k o is there does f r new h =
    let same : deliveries w.given left w.history ≡ delivery k ∷ deliveries w.given next (with_event whole_logs w.given w.history (delivery k)) =
    ap (λ m. deliveries w.given m w.history) is ∙ deliveries_by w.given next w.history (Some k) there in
    let there2 : RunsTo (after w (delivery k ∷ [])) (deliveries w.given next (with_event whole_logs w.given w.history (delivery k))) r new =
    subst (λ (v : WorldView). RunsTo v (deliveries v.given next v.history) r new) does.2 h in
    f r new (subst (λ es. RunsTo w es r new) (sym same) (runs_to_more w new (delivery k) _ r does.0 there2))

pub left_refused : (old w new : WorldView) (n left next k : ℕ) (x : WorldError) → left ≡ suc next → oldest None w.history ≡ Some k → Applies w (delivery k) (Err x) new → Left old n w left
    → RunsTo old (deliveries old.given n old.history) (Err x) new
left_refused old w new n left next k x is there does f =
    let same : deliveries w.given left w.history ≡ delivery k ∷ deliveries w.given next (with_event whole_logs w.given w.history (delivery k)) =
    ap (λ m. deliveries w.given m w.history) is ∙ deliveries_by w.given next w.history (Some k) there in
    f (Err x) new (subst (λ es. RunsTo w es (Err x) new) (sym same) (refuses_one w new (delivery k) _ x does))

pub left_done : (old w : WorldView) (n left : ℕ) → left ≡ 0 → w.spent ≡ false → Left old n w left → HasRun old (deliveries old.given n old.history) w
left_done old w n left is here f =
    f (Ok tt) w (subst (λ es. HasRun w es w) (sym (ap (λ m. deliveries w.given m w.history) is ∙ no_deliveries w.given w.history)) (runs_none w here))

pub left_none : (old w : WorldView) (n left next : ℕ) → left ≡ suc next → oldest None w.history ≡ None → w.spent ≡ false → Left old n w left → HasRun old (deliveries old.given n old.history) w
left_none old w n left next is none here f =
    f (Ok tt) w
    (subst (λ es. HasRun w es w) (sym (ap (λ m. deliveries w.given m w.history) is ∙ deliveries_by w.given next w.history None none)) (runs_none w here))

-- ---- steps

-- what comes of the steps that are left is what comes of all
abbrev pub StepsLeft : WorldView → List Numbered → WorldView → List Numbered → Type 0
StepsLeft old ss w rest = (r : Result (Option Unmet) WorldError) (new : WorldView) → TakesSteps w rest r new → TakesSteps old ss r new

-- the events of steps, and their first expectation that isn't met, by whether that is the first step's
abbrev steps_by : Given → Numbered → List Numbered → History (List Entry) → Option Unmet → List Event
steps_by given s rest t (Some u) = []
steps_by given s rest t None = events_of_step given s.step t ++ events_of_steps given rest (run whole_logs given (events_of_step given s.step t) t)

abbrev unmet_of : Given → Numbered → List Numbered → History (List Entry) → Option Unmet → Option Unmet
unmet_of given s rest t (Some u) = Some u
unmet_of given s rest t None = first_unmet given rest (run whole_logs given (events_of_step given s.step t) t)

step_events : (given : Given) (s : Numbered) (rest : List Numbered) (t : History (List Entry)) (o : Option Unmet) → unmet_by s.line s.step t ≡ o → events_of_steps given (s ∷ rest) t ≡ steps_by given s rest t o
unfolding events_of_steps
step_events given s rest t o is = by (unmet_by s.line s.step t) ∙ ap (steps_by given s rest t) is
  where
    by : (o : Option Unmet)
        → (elim o as (λ _. List Event) [ Some u ↦ [] | None ↦ (let es = events_of_step given s.step t in es ++ events_of_steps given rest (run whole_logs given es t)) ]) ≡ steps_by given s rest t o
    by None = refl
    by (Some u) = refl

step_unmet : (given : Given) (s : Numbered) (rest : List Numbered) (t : History (List Entry)) (o : Option Unmet) → unmet_by s.line s.step t ≡ o → first_unmet given (s ∷ rest) t ≡ unmet_of given s rest t o
unfolding first_unmet
step_unmet given s rest t o is = by (unmet_by s.line s.step t) ∙ ap (unmet_of given s rest t) is
  where
    by : (o : Option Unmet)
        → (elim o as (λ _. Option Unmet) [ Some u ↦ Some u | None ↦ first_unmet given rest (run whole_logs given (events_of_step given s.step t) t) ]) ≡ unmet_of given s rest t o
    by None = refl
    by (Some u) = refl

-- a step is taken, and then the others
step_then : (w mid : WorldView) (s : Numbered) (rest : List Numbered) (r : Result (Option Unmet) WorldError) (new : WorldView) → unmet_by s.line s.step w.history ≡ None → HasRun w (events_of_step w.given s.step w.history) mid
    → TakesSteps mid rest r new → TakesSteps w (s ∷ rest) r new
step_then w mid s rest r new met ran h = go r (subst (λ (v : WorldView). TakesSteps v rest r new) ran.2 h)
  where
    es : List Event
    es = events_of_step w.given s.step w.history

    at : WorldView
    at = after w es

    here : HasRun w es at
    here = (ran.0, ran.1, refl)

    go : (r : Result (Option Unmet) WorldError) → TakesSteps at rest r new → TakesSteps w (s ∷ rest) r new
    go (Ok u) g = (
      subst (λ xs. HasRun w xs new) (sym (step_events w.given s rest w.history None met)) (has_run_then w at new es (events_of_steps w.given rest at.history) here g.0),
      g.1 ∙ sym (step_unmet w.given s rest w.history None met),
    )
    go (Err x) g =
        subst (λ xs. RunsAll w xs (Err x) new) (sym (step_events w.given s rest w.history None met)) (runs_all_then w at new es (events_of_steps w.given rest at.history) x here g)

-- the step at place i is taken
pub steps_more : (old w mid : WorldView) (ss : List Numbered) (i : ℕ) (s : Numbered) → i < length ss → s ≡ get_or ss i s → unmet_by s.line s.step w.history ≡ None → HasRun w (events_of_step w.given s.step w.history) mid
    → StepsLeft old ss w (drop i ss) → StepsLeft old ss mid (drop (i + 1) ss)
steps_more old w mid ss i s lt is met ran f r new h =
    f r new (subst (λ xs. TakesSteps w xs r new) (sym (drop_more ss i s lt)) (subst (λ (x : Numbered). TakesSteps w (x ∷ drop (i + 1) ss) r new) is (step_then w mid s (drop (i + 1) ss) r new met ran h)))

-- a limit or the memory stops it
pub steps_stopped : (old w new : WorldView) (ss : List Numbered) (i : ℕ) (s : Numbered) (x : WorldError) → i < length ss → s ≡ get_or ss i s → unmet_by s.line s.step w.history ≡ None
    → RunsTo w (events_of_step w.given s.step w.history) (Err x) new → StepsLeft old ss w (drop i ss) → TakesSteps old ss (Err x) new
steps_stopped old w new ss i s x lt is met stops f =
    let here : TakesSteps w (s ∷ drop (i + 1) ss) (Err x) new =
    subst (λ xs. RunsAll w xs (Err x) new) (sym (step_events w.given s (drop (i + 1) ss) w.history None met)) (stops_then w new (events_of_step w.given s.step w.history) _ x stops) in
    f (Err x) new (subst (λ xs. TakesSteps w xs (Err x) new) (sym (drop_more ss i s lt)) (subst (λ (x2 : Numbered). TakesSteps w (x2 ∷ drop (i + 1) ss) (Err x) new) is here))

-- what it expects isn't there
pub steps_unmet : (old w mid : WorldView) (ss : List Numbered) (i : ℕ) (s : Numbered) (u : Unmet) → i < length ss → s ≡ get_or ss i s → w.spent ≡ false → UnmetIs w s (Ok (Some u)) mid
    → StepsLeft old ss w (drop i ss) → TakesSteps old ss (Ok (Some u)) mid
steps_unmet old w mid ss i s u lt is running unmet f =
    let here : TakesSteps w (s ∷ drop (i + 1) ss) (Ok (Some u)) w = (
      subst (λ xs. HasRun w xs w) (sym (step_events w.given s (drop (i + 1) ss) w.history (Some u) (sym unmet.0))) (runs_none w running),
      sym (step_unmet w.given s (drop (i + 1) ss) w.history (Some u) (sym unmet.0)),
    ) in
    subst (TakesSteps old ss (Ok (Some u))) (sym unmet.1)
    (f (Ok (Some u)) w (subst (λ xs. TakesSteps w xs (Ok (Some u)) w) (sym (drop_more ss i s lt)) (subst (λ (x : Numbered). TakesSteps w (x ∷ drop (i + 1) ss) (Ok (Some u)) w) is here)))

-- there is no memory to tell it
pub steps_untold : (old w new : WorldView) (ss : List Numbered) (i : ℕ) (s : Numbered) (x : WorldError) → i < length ss → s ≡ get_or ss i s → UnmetIs w s (Err x) new
    → StepsLeft old ss w (drop i ss) → TakesSteps old ss (Err x) new
steps_untold old w new ss i s x lt is untold f = go (unmet_by s.line s.step w.history) refl
  where
    spent : RunsAll w [] (Err OutOfMemory) new
    spent = (0, omega arith, none_before w [], λ none. absurd (omega (arith, none)), untold.2)

    go : (o : Option Unmet) → unmet_by s.line s.step w.history ≡ o → TakesSteps old ss (Err x) new
    go None none = absurd (untold.1 none)
    go (Some u) some =
        let here : TakesSteps w (s ∷ drop (i + 1) ss) (Err x) new =
        subst (λ (y : WorldError). TakesSteps w (s ∷ drop (i + 1) ss) (Err y) new) (sym untold.0) (subst (λ xs. RunsAll w xs (Err OutOfMemory) new) (sym (step_events w.given s (drop (i + 1) ss) w.history (Some u) some)) spent) in
        f (Err x) new (subst (λ xs. TakesSteps w xs (Err x) new) (sym (drop_more ss i s lt)) (subst (λ (x2 : Numbered). TakesSteps w (x2 ∷ drop (i + 1) ss) (Err x) new) is here))

-- all are taken
pub steps_done : (old w : WorldView) (ss : List Numbered) (i : ℕ) → length ss ≤ i → w.spent ≡ false → StepsLeft old ss w (drop i ss) → TakesSteps old ss (Ok None) w
unfolding events_of_steps first_unmet
steps_done old w ss i ge here f = f (Ok None) w (subst (λ xs. TakesSteps w xs (Ok None) w) (sym (no_more ss i ge)) (runs_none w here, refl))
  where
    no_more : (ss : List Numbered) (i : ℕ) → length ss ≤ i → drop i ss ≡ []
    no_more [] zero ge = refl
    no_more [] (suc i) ge = refl
    no_more (s ∷ ss) zero ge = absurd (omega (arith, ge))
    no_more (s ∷ ss) (suc i) ge = no_more ss i (omega (arith, ge))
