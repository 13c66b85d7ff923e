-- What is played one step after another is the plan: at each step the rest of the plan, played from there, is the whole played from the start.
use Rattle.std.proofs.Common.{ℕ, zero, suc, ◌+◌, ◌*◌, ◌-◌, ◌<◌, ◌≤◌, ◌≡◌, ◌∙◌, Bool, true, false, List, []}
use Rattle.std.proofs.Common.{◌∷◌, ◌++◌, append-nil, append_assoc, length, drop, get_or, arith, refl, ap, sym, Option, None, Some}
use Rattle.std.specs.Prelude.{if◌then◌else◌}
use Rattle.std.proofs.Math.Seq.{drop-cons}
use Rattle.std.proofs.lemmas.List.{drop_all}
use Rattle.std.specs.Option.{option_and_then, option_map}
use Rattle.raft_state.specs.declared.ids.LogId.{LogId}
use Rattle.raft_state.specs.declared.ids.Vote.{Vote}
use Rattle.raft_state.specs.Order.{next}
use Rattle.raft_store.specs.declared.entry.Entry.{Entry}
use Rattle.raft_store.specs.declared.entry.Value.{Value}
use Rattle.raft_store.specs.Types.{EngineView}
use Rattle.raft_schedule.specs.declared.event.Event.{Event}
use Rattle.raft_calls.specs.declared.message.Message.{Message}
use Rattle.raft_node.specs.declared.given.Given.{Given}
use Rattle.raft_node.specs.Net.{Net}
use Rattle.raft_world.specs.Worlds.{WorldView}
use Rattle.proof_progress.specs.Continuations.{deliver, fail, goes_on, propose, timeout}
use Rattle.proof_progress.specs.Elections.{log_end}
use Rattle.proof_progress.specs.Plans.{asks_vote, bring, bring_all, collect, elect, exchange, exchanges, first_from, is_leading, len_of, number_of}
use Rattle.proof_progress.specs.Plans.{replicate, request_to, running, sends, start_bare, starts, tell, tell_all, tells, timeouts}
use Rattle.proof_progress.specs.Plans.{times, votes_from, way_on}
use Rattle.proof_progress.proofs.Chosen.{both_run}
use Rattle.raft_recovery.specs.declared.search.Ballot.{Ballot}
use Rattle.raft_recovery.specs.declared.search.Commit.{Commit}
use Rattle.raft_recovery.specs.Ways.{last_id_at, played}
use Rattle.raft_recovery.proofs.Played.{Plan, after, played_none, plays_then, then_after}

-- The rest of a list from a place on

rest_of : {A : Type 0} → (xs : List A) (i : ℕ) (x : A) → i < length xs → x ≡ get_or xs i x → drop i xs ≡ x ∷ drop (i + 1) xs
rest_of xs i x l is =
    let more : i + 1 ≡ suc i = omega arith in
    drop-cons xs i x l ∙ (ap (λ y. y ∷ drop (suc i) xs) (sym is) ∙ ap (λ n. x ∷ drop n xs) (sym more))

-- The number of a message

module _ (p : Message → Bool) (bag : List Message) (i n : ℕ) where
  -- what the rest of the messages gives is what all give
  abbrev pub IsLeft : Type 0
  IsLeft = first_from (n + 1) p (drop i bag) ≡ number_of p bag

  passes : (m : Message) → i < length bag → m ≡ get_or bag i m → first_from (n + 1) p (m ∷ drop (i + 1) bag) ≡ first_from (n + 1) p (drop i bag)
  passes m l is = ap (first_from (n + 1) p) (sym (rest_of bag i m l is))

  pub sought_none : (m : Message) (b : Bool) → i < length bag → m ≡ get_or bag i m → b ≡ p m → b ≡ false → IsLeft
      → first_from (n + 1 + 1) p (drop (i + 1) bag) ≡ number_of p bag
  sought_none m b l is e q rest =
      sym (ap (λ c. if c then Some (n + 1) else first_from (n + 1 + 1) p (drop (i + 1) bag)) (sym e ∙ q)) ∙ (passes m l is ∙ rest)

  pub sought_here : (m : Message) (b : Bool) → i < length bag → m ≡ get_or bag i m → b ≡ p m → b ≡ true → IsLeft → Some (n + 1) ≡ number_of p bag
  sought_here m b l is e q rest =
      sym (ap (λ c. if c then Some (n + 1) else first_from (n + 1 + 1) p (drop (i + 1) bag)) (sym e ∙ q)) ∙ (passes m l is ∙ rest)

  pub sought_nowhere : length bag ≤ i → IsLeft → None ≡ number_of p bag
  sought_nowhere end rest = ap (first_from (n + 1) p) (sym (drop_all i bag end)) ∙ rest

-- Choices on the way

taken : (o : Option ℕ) (k : ℕ) (f : ℕ → List Event) → o ≡ Some k → elim o as (λ _. List Event) [ None ↦ [] | Some j ↦ f j ] ≡ f k
taken None k f e = cc
taken (Some j) k f e = let s : j ≡ k = cc in ap f s

left : (o : Option ℕ) (f : ℕ → List Event) → o ≡ None → elim o as (λ _. List Event) [ None ↦ [] | Some j ↦ f j ] ≡ []
left None f e = refl
left (Some j) f e = cc

module _ (now : ℕ) where
  -- Elections

  module _ (n : ℕ) (v : Vote ℕ) (x : Option (LogId ℕ)) where
    abbrev pub collecting : List ℕ → Plan
    collecting ts given net = collect given now n v x ts net

    abbrev pub asked : ℕ → WorldView → Option ℕ
    asked t w = number_of (sends n t (asks_vote v x)) w.history.net.records.bag

    abbrev asked_then : WorldView → List ℕ → ℕ → List Event
    asked_then a ts j =
        exchange a.given now j a.history.net ++ collect a.given now n v x ts (goes_on a.given (exchange a.given now j a.history.net) a.history.net)

    pub collect_more : (a b : WorldView) (t : ℕ) (ts : List ℕ) (k : ℕ) → is_leading a.history.net n ≡ false → asked t a ≡ Some k
        → b ≡ played (exchange a.given now k a.history.net) a → after (collecting ts) b ≡ after (collecting (t ∷ ts)) a
    collect_more a b t ts k unled there is =
        then_after a b (exchange a.given now k a.history.net) (collecting ts) is
        ∙ ap (λ es. played es a) (sym (opens (is_leading a.history.net n) unled))
      where
        opens : (b : Bool) → b ≡ false
            → (if b then [] else elim (asked t a) as (λ _. List Event) [ None ↦ [] | Some j ↦ asked_then a ts j ]) ≡ asked_then a ts k
        opens true e = cc
        opens false e = taken (asked t a) k (asked_then a ts) there

    pub collect_led : (a : WorldView) (t : ℕ) (ts : List ℕ) → is_leading a.history.net n ≡ true → a ≡ after (collecting (t ∷ ts)) a
    collect_led a t ts led = played_none a ∙ ap (λ es. played es a) (sym (opens (is_leading a.history.net n) led))
      where
        opens : (b : Bool) → b ≡ true → (if b then [] else elim (asked t a) as (λ _. List Event) [ None ↦ [] | Some j ↦ asked_then a ts j ]) ≡ []
        opens true e = refl
        opens false e = cc

    pub collect_stuck : (a : WorldView) (t : ℕ) (ts : List ℕ) → is_leading a.history.net n ≡ false → asked t a ≡ None
        → a ≡ after (collecting (t ∷ ts)) a
    collect_stuck a t ts unled there = played_none a ∙ ap (λ es. played es a) (sym (opens (is_leading a.history.net n) unled))
      where
        opens : (b : Bool) → b ≡ false → (if b then [] else elim (asked t a) as (λ _. List Event) [ None ↦ [] | Some j ↦ asked_then a ts j ]) ≡ []
        opens true e = cc
        opens false e = left (asked t a) (asked_then a ts) there

  -- Exchanges

  module _ (n t : ℕ) where
    abbrev pub exchanging : ℕ → Plan
    exchanging fuel given net = exchanges given now fuel n t net

    pub exchange_none : (a : WorldView) → request_to a.history.net n t ≡ None → a ≡ after (exchanging 1) a
    exchange_none a there =
        played_none a ∙ ap (λ es. played es a) (sym (left (request_to a.history.net n t) (λ k. exchange a.given now k a.history.net ++ []) there))

    pub exchange_one : (a b : WorldView) (k : ℕ) → request_to a.history.net n t ≡ Some k → b ≡ played (exchange a.given now k a.history.net) a
        → b ≡ after (exchanging 1) a
    exchange_one a b k there is =
        is ∙ (ap (λ es. played es a) (sym (append-nil (exchange a.given now k a.history.net)))
        ∙ ap (λ es. played es a) (sym (taken (request_to a.history.net n t) k (λ j. exchange a.given now j a.history.net ++ []) there)))

    abbrev exchanged_then : Given → Net (List Entry) → ℕ → ℕ → List Event
    exchanged_then given net fuel k = exchange given now k net ++ exchanges given now fuel n t (goes_on given (exchange given now k net) net)

    abbrev and_more : Given → Net (List Entry) → ℕ → List Event → List Event
    and_more given net j es = es ++ exchanges given now j n t (goes_on given es net)

    -- some, and then some more
    more_of : (i j m : ℕ) → m ≡ i + j → (given : Given) (net : Net (List Entry)) → exchanges given now m n t net
        ≡ exchanges given now i n t net ++ exchanges given now j n t (goes_on given (exchanges given now i n t net) net)
    more_of zero j m e given net = let s : m ≡ j = omega (arith, e) in ap (λ k. exchanges given now k n t net) s
    more_of (suc i) j zero e given net = absurd (omega (arith, e))
    more_of (suc i) j (suc m) e given net = go (let less : m ≡ i + j = omega (arith, e) in more_of i j m less given) (request_to net n t) refl
      where
        none : (fuel : ℕ) → request_to net n t ≡ None → exchanges given now fuel n t net ≡ []
        none zero q = refl
        none (suc fuel) q = left (request_to net n t) (exchanged_then given net fuel) q

        go : ((w : Net (List Entry)) → exchanges given now m n t w ≡ and_more given w j (exchanges given now i n t w)) → (o : Option ℕ)
            → request_to net n t ≡ o
            → exchanges given now (suc m) n t net ≡ and_more given net j (exchanges given now (suc i) n t net)
        go less None q = none (suc m) q ∙ (sym (none j q) ∙ sym (ap (and_more given net j) (none (suc i) q)))
        go less (Some k) q =
            let one : List Event = exchange given now k net in
            let two : List Event = exchanges given now i n t (goes_on given one net) in
            let rest : List Event = exchanges given now j n t (goes_on given two (goes_on given one net)) in
            taken (request_to net n t) k (exchanged_then given net m) q
            ∙ (ap (λ es. one ++ es) (less (goes_on given one net))
            ∙ (sym (append_assoc one two rest)
            ∙ (ap (λ w. (one ++ two) ++ exchanges given now j n t w) (sym (both_run given one two net))
            ∙ sym (ap (and_more given net j) (taken (request_to net n t) k (exchanged_then given net i) q)))))

    pub exchange_more : (a b : WorldView) (i j m : ℕ) → b ≡ after (exchanging i) a → m ≡ i + j → after (exchanging j) b ≡ after (exchanging m) a
    exchange_more a b i j m is e =
        then_after a b (exchanging i a.given a.history.net) (exchanging j) is ∙ ap (λ es. played es a) (sym (more_of i j m e a.given a.history.net))

    len_is : (given : Given) (net : Net (List Entry)) → next (last_id_at net n) ≡ len_of given now net n
    len_is given net = go (running net n)
      where
        go : (o : Option EngineView) → next (option_and_then log_end o) ≡ elim o as (λ _. ℕ) [ None ↦ 0 | Some e ↦ next (log_end e) ]
        go None = refl
        go (Some e) = refl

    pub exchanged_none : (a : WorldView) (k : ℕ) → k ≡ 0 → a ≡ after (exchanging k) a
    exchanged_none a k e = played_none a ∙ ap (λ j. after (exchanging j) a) (sym e)

    pub brings : (a b c : WorldView) (last : Option (LogId ℕ)) → last ≡ last_id_at a.history.net n → b ≡ played (fail n t now ∷ []) a
        → c ≡ after (exchanging (2 * next last)) b → c ≡ played (bring a.given now n t a.history.net) a
    brings a b c last at is rest =
        plays_then a b c (fail n t now ∷ []) (exchanging (2 * len_of a.given now a.history.net n)) is
        (rest ∙ ap (λ k. after (exchanging (2 * k)) b) (ap next at ∙ len_is a.given a.history.net))

  module _ (n : ℕ) where
    abbrev pub bringing : List ℕ → Plan
    bringing ts given net = bring_all given now n ts net

    pub bring_more : (a b : WorldView) (t : ℕ) (ts : List ℕ) → b ≡ played (bring a.given now n t a.history.net) a
        → after (bringing ts) b ≡ after (bringing (t ∷ ts)) a
    bring_more a b t ts is = then_after a b (bring a.given now n t a.history.net) (bringing ts) is

  -- What is told

  module _ (n : ℕ) (v : Vote ℕ) (x : Option (LogId ℕ)) where
    abbrev pub telling : List ℕ → Plan
    telling ts given net = tell_all given now n v x ts net

    abbrev pub told : ℕ → WorldView → Option ℕ
    told t w = number_of (sends n t (tells v x)) w.history.net.records.bag

    abbrev told_then : WorldView → List ℕ → ℕ → List Event
    told_then a ts j = deliver j now ∷ tell_all a.given now n v x ts (goes_on a.given (deliver j now ∷ []) a.history.net)

    pub tell_more : (a b : WorldView) (t : ℕ) (ts : List ℕ) (k : ℕ) → told t a ≡ Some k → b ≡ played (deliver k now ∷ []) a
        → after (telling ts) b ≡ after (telling (t ∷ ts)) a
    tell_more a b t ts k there is =
        then_after a b (deliver k now ∷ []) (telling ts) is
        ∙ ap (λ es. played es a) (sym (taken (told t a) k (told_then a ts) there))

    pub tell_stuck : (a : WorldView) (t : ℕ) (ts : List ℕ) → told t a ≡ None → a ≡ after (telling (t ∷ ts)) a
    tell_stuck a t ts there =
        played_none a
        ∙ ap (λ es. played es a) (sym (left (told t a) (told_then a ts) there))

  -- What a running node has

  module _ (n : ℕ) where
    abbrev ballot : EngineView → Ballot
    ballot e = record { id = n; vote = e.machine.core.state.vote; last = log_end e }

    abbrev commit : EngineView → Commit
    commit e = record { id = n; vote = e.machine.core.state.vote; committed = e.machine.core.state.committed }

    pub stopped_votes : (a : WorldView) (ts : List ℕ) → option_map ballot (running a.history.net n) ≡ None
        → a ≡ played (votes_from a.given now n ts a.history.net) a
    stopped_votes a ts h = played_none a ∙ ap (λ es. played es a) (go (running a.history.net n) h)
      where
        go : (o : Option EngineView) → option_map ballot o ≡ None
            → [] ≡ elim o as (λ _. List Event) [ None ↦ [] | Some e ↦ collect a.given now n e.machine.core.state.vote (log_end e) ts a.history.net ]
        go None q = refl
        go (Some e) q = cc

    pub running_votes : (a c : WorldView) (ts : List ℕ) (b : Ballot) → option_map ballot (running a.history.net n) ≡ Some b
        → c ≡ played (collect a.given now b.id b.vote b.last ts a.history.net) a → c ≡ played (votes_from a.given now n ts a.history.net) a
    running_votes a c ts b h is = is ∙ ap (λ es. played es a) (go (running a.history.net n) h)
      where
        go : (o : Option EngineView) → option_map ballot o ≡ Some b → collect a.given now b.id b.vote b.last ts a.history.net
            ≡ elim o as (λ _. List Event) [ None ↦ [] | Some e ↦ collect a.given now n e.machine.core.state.vote (log_end e) ts a.history.net ]
        go None q = cc
        go (Some e) q = let s : b ≡ ballot e = cc in ap (λ (y : Ballot). collect a.given now y.id y.vote y.last ts a.history.net) s

    abbrev telling_by : WorldView → List ℕ → Commit → List Event
    telling_by a ts y = tell_all a.given now y.id y.vote y.committed ts a.history.net

    pub stopped_tells : (a : WorldView) (ts : List ℕ) → option_map commit (running a.history.net n) ≡ None
        → a ≡ played (tell a.given now n ts a.history.net) a
    stopped_tells a ts h = played_none a ∙ ap (λ es. played es a) (go (running a.history.net n) h)
      where
        go : (o : Option EngineView) → option_map commit o ≡ None
            → [] ≡ elim o as (λ _. List Event) [ None ↦ [] | Some e ↦ telling_by a ts (commit e) ]
        go None q = refl
        go (Some e) q = cc

    pub running_tells : (a c : WorldView) (ts : List ℕ) (b : Commit) → option_map commit (running a.history.net n) ≡ Some b
        → c ≡ played (tell_all a.given now b.id b.vote b.committed ts a.history.net) a → c ≡ played (tell a.given now n ts a.history.net) a
    running_tells a c ts b h is = is ∙ ap (λ es. played es a) (go (running a.history.net n) h)
      where
        go : (o : Option EngineView) → option_map commit o ≡ Some b
            → telling_by a ts b ≡ elim o as (λ _. List Event) [ None ↦ [] | Some e ↦ telling_by a ts (commit e) ]
        go None q = cc
        go (Some e) q = let s : b ≡ commit e = cc in ap (telling_by a ts) s

    -- timeouts
    pub times_more : (a b : WorldView) (k m : ℕ) → b ≡ played (timeout n now ∷ []) a → m ≡ suc k
        → played (times k (timeout n now)) b ≡ played (times m (timeout n now)) a
    times_more a b k m is e =
        then_after a b (timeout n now ∷ []) (λ _ _. times k (timeout n now)) is ∙ ap (λ j. played (times j (timeout n now)) a) (sym e)

    pub times_none : (a : WorldView) (k : ℕ) → k ≡ 0 → a ≡ played (times k (timeout n now)) a
    times_none a k e = played_none a ∙ ap (λ j. played (times j (timeout n now)) a) (sym e)

    pub stopped_stands : (a : WorldView) (top : ℕ) → option_map ballot (running a.history.net n) ≡ None
        → a ≡ played (timeouts a.given now n top a.history.net) a
    stopped_stands a top h = played_none a ∙ ap (λ es. played es a) (go (running a.history.net n) h)
      where
        go : (o : Option EngineView) → option_map ballot o ≡ None
            → [] ≡ elim o as (λ _. List Event) [ None ↦ [] | Some e ↦ times (suc (top - e.machine.core.state.vote.leader_id.term)) (timeout n now) ]
        go None q = refl
        go (Some e) q = cc

    pub running_stands : (a b c : WorldView) (top : ℕ) (y : Ballot) → option_map ballot (running a.history.net n) ≡ Some y
        → b ≡ played (timeout n now ∷ []) a
        → c ≡ played (times (top - y.vote.leader_id.term) (timeout n now)) b → c ≡ played (timeouts a.given now n top a.history.net) a
    running_stands a b c top y h is rest =
        (rest ∙ times_more a b (top - y.vote.leader_id.term) (suc (top - y.vote.leader_id.term)) is refl)
        ∙ ap (λ es. played es a) (go (running a.history.net n) h)
      where
        go : (o : Option EngineView) → option_map ballot o ≡ Some y → times (suc (top - y.vote.leader_id.term)) (timeout n now)
            ≡ elim o as (λ _. List Event) [ None ↦ [] | Some e ↦ times (suc (top - e.machine.core.state.vote.leader_id.term)) (timeout n now) ]
        go None q = cc
        go (Some e) q = let s : y ≡ ballot e = cc in ap (λ (z : Ballot). times (suc (top - z.vote.leader_id.term)) (timeout n now)) s

    pub elects : (a b c : WorldView) (top : ℕ) (ts : List ℕ) → b ≡ played (timeouts a.given now n top a.history.net) a
        → c ≡ played (votes_from b.given now n ts b.history.net) b → c ≡ played (elect a.given now n top ts a.history.net) a
    elects a b c top ts is rest = plays_then a b c (timeouts a.given now n top a.history.net) (λ given net. votes_from given now n ts net) is rest

    pub replicates : (a b c d : WorldView) (vs : List Value) (ts : List ℕ) → b ≡ played (propose n vs now ∷ []) a
        → c ≡ played (bring_all b.given now n ts b.history.net) b → d ≡ played (tell c.given now n ts c.history.net) c
        → d ≡ played (replicate a.given now n vs ts a.history.net) a
    replicates a b c d vs ts is brought told =
        plays_then a c d (propose n vs now ∷ bring_all a.given now n ts (goes_on a.given (propose n vs now ∷ []) a.history.net))
        (λ given net. tell given now n ts net)
        (plays_then a b c (propose n vs now ∷ []) (λ given net. bring_all given now n ts net) is brought) told

    pub goes_all_the_way : (a b c d : WorldView) (top : ℕ) (voters learners all : List ℕ) (vs : List Value) → all ≡ voters ++ learners
        → b ≡ played (starts (n ∷ all)) a → c ≡ played (elect b.given now n top voters b.history.net) b
        → d ≡ played (replicate c.given now n vs all c.history.net) c → d ≡ played (way_on a.given now n top voters learners vs a.history.net) a
    goes_all_the_way a b c d top voters learners all vs both is elected done =
        plays_then a c d
        (starts (n ∷ (voters ++ learners)) ++ elect a.given now n top voters (goes_on a.given (starts (n ∷ (voters ++ learners))) a.history.net))
        (λ given net. replicate given now n vs (voters ++ learners) net)
        (plays_then a b c (starts (n ∷ (voters ++ learners))) (λ given net. elect given now n top voters net)
        (is ∙ ap (λ ts. played (starts (n ∷ ts)) a) both) elected)
        (done ∙ ap (λ ts. played (replicate c.given now n vs ts c.history.net) c) both)

  -- a request, and then the last message by then
  pub exchanges_both : (a b c : WorldView) (k j : ℕ) → b ≡ played (deliver k now ∷ []) a → j ≡ length b.history.net.records.bag
      → c ≡ played (deliver j now ∷ []) b
      → c ≡ played (exchange a.given now k a.history.net) a
  exchanges_both a b c k j is last rest =
      plays_then a b c (deliver k now ∷ []) (λ _ net. deliver (length net.records.bag) now ∷ []) is
      (rest ∙ ap (λ m. played (deliver m now ∷ []) b) last)

-- Starts

abbrev pub starting : List ℕ → Plan
starting ts given net = starts ts

pub start_more : (a b : WorldView) (t : ℕ) (ts : List ℕ) → b ≡ played (start_bare t ∷ []) a → played (starts ts) b ≡ played (starts (t ∷ ts)) a
start_more a b t ts is = then_after a b (start_bare t ∷ []) (λ _ _. starts ts) is

pub starts_first : (a b c : WorldView) (t : ℕ) (ts : List ℕ) → b ≡ played (start_bare t ∷ []) a → c ≡ played (starts ts) b
    → c ≡ played (starts (t ∷ ts)) a
starts_first a b c t ts is rest = rest ∙ start_more a b t ts is

-- Along a list of ids: before each, the rest of the plan

rest_here : (ts : List ℕ) (i : ℕ) → i < length ts → drop i ts ≡ get_or ts i 0 ∷ drop (i + 1) ts
rest_here ts i l =
    let more : i + 1 ≡ suc i = omega arith in
    drop-cons ts i 0 l ∙ ap (λ k. get_or ts i 0 ∷ drop k ts) (sym more)

pub goes_along : (a b c : WorldView) (p : List ℕ → Plan) (ts : List ℕ) (i : ℕ) → i < length ts
    → after (p (drop (i + 1) ts)) b ≡ after (p (get_or ts i 0 ∷ drop (i + 1) ts)) a → after (p (drop i ts)) a ≡ after (p ts) c
    → after (p (drop (i + 1) ts)) b ≡ after (p ts) c
goes_along a b c p ts i l step rest = step ∙ (ap (λ xs. after (p xs) a) (sym (rest_here ts i l)) ∙ rest)

pub stops_along : (a c : WorldView) (p : List ℕ → Plan) (ts : List ℕ) (i : ℕ) → i < length ts
    → a ≡ after (p (get_or ts i 0 ∷ drop (i + 1) ts)) a → after (p (drop i ts)) a ≡ after (p ts) c → a ≡ after (p ts) c
stops_along a c p ts i l step rest = step ∙ (ap (λ xs. after (p xs) a) (sym (rest_here ts i l)) ∙ rest)

-- at its end nothing is left
pub ended : (a b : WorldView) (p : List ℕ → Plan) (ts : List ℕ) (i : ℕ) → ((given : Given) (net : Net (List Entry)) → p [] given net ≡ [])
    → length ts ≤ i
    → after (p (drop i ts)) a ≡ after (p ts) b → a ≡ after (p ts) b
ended a b p ts i none end rest =
    played_none a
    ∙ (ap (λ es. played es a) (sym (ap (λ xs. p xs a.given a.history.net) (drop_all i ts end) ∙ none a.given a.history.net))
    ∙ rest)
