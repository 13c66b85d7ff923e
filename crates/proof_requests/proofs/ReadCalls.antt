-- Each call keeps the reads of a server's clients beside the model, and what they are told is true.
use Rattle.std.proofs.Common.{ℕ, zero, suc, ◌+◌, ◌-◌, ◌<◌, ◌≤◌, ◌≡◌, ◌≢◌, ◌⊎◌, inl, inr, ⊎_elim, Bool, true, false, List, [], ◌∷◌, ◌++◌, length, take, drop, arith, refl, sym, ap, ◌∙◌, subst, Option, None, Some, append-nil, append_assoc}
use Rattle.std.specs.Prelude.{Contains, map, nat_eq, nat_le, nat_lt, not, slice_get, ◌&&◌, if◌then◌else◌}
use Rattle.std.specs.List.{AllByRecursion, fold}
use Rattle.std.specs.Ordering.{nat_cmp}
use Rattle.std.proofs.lemmas.Bool.{and_parts, cases_lt}
use Rattle.std.proofs.lemmas.Bool.Decides.{nat_tests}
use Rattle.std.proofs.lemmas.List.{length-append}
use Rattle.std.proofs.lemmas.List.Elements.{Contains-append_cases}
use Rattle.raft_state.specs.declared.ids.LeaderId.{LeaderId}
use Rattle.raft_state.specs.declared.ids.LogId.{LogId}
use Rattle.raft_state.specs.IdEquality.{leader_id_eq}
use Rattle.raft_state.specs.Order.{next}
use Rattle.raft_state.specs.Sorted.{has_id}
use Rattle.raft_progress.specs.Quorum.{is_quorum}
use Rattle.raft_command.specs.declared.message.AppendEntriesResponse.TheVariants.{Conflict, HigherVote, PartialSuccess, Success}
use Rattle.raft_store.specs.declared.entry.Entry.{Entry}
use Rattle.raft_schedule.specs.declared.event.Start.{Start}
use Rattle.raft_calls.specs.declared.lead.Answer as node_answer
use Rattle.raft_calls.specs.declared.message.Body.{Body}
use Rattle.raft_calls.specs.declared.message.Body.TheVariants.{AppendReply, AppendRequest, SnapshotReply, SnapshotRequest, VoteReply, VoteRequest}
use Rattle.raft_calls.specs.declared.message.Message.{Message}
use Rattle.raft_calls.specs.declared.message.Origin.{Origin}
use Rattle.raft_node.specs.declared.act.Act.TheVariants.{Restart, Take}
use Rattle.raft_node.specs.declared.given.Given.{Given}
use Rattle.raft_node.specs.Net.{NodeView, Records}
use Rattle.raft_node.specs.WellFormed.{IsWellFormed}
use Rattle.raft_answers.specs.declared.answer.Answer.{Answer}
use Rattle.raft_answers.specs.declared.answer.Answer.TheVariants.{Failed, NotLeader, Ok}
use Rattle.raft_answers.specs.declared.answer.Reply.{Reply}
use Rattle.raft_core.specs.raft_reads.declared.reads.Reader.{Reader}
use Rattle.raft_core.specs.raft_reads.Reads.{ReadsView, RoundView, answer_left, answered_in, count_over, count_overdue, failed_left, failed_replies}
use Rattle.raft_core.specs.raft_reads.Reads.{heard_in, is_late, is_news, is_over, not_over, over_more, reaches, read_left, read_replies, refused_left}
use Rattle.raft_core.specs.raft_reads.Reads.{refused_replies, told, with_heard, with_left, without_first}
use Rattle.proof_clients.specs.Reads.{IsTaking}
use Rattle.proof_clients.proofs.Sequences.{element, first_or}
use Rattle.proof_clients.proofs.Slots.{slot_below, there}
use Rattle.proof_servers.specs.Servers.{Action, AllMayAct, Crashes, Flushes, Step, Takes, WaitingStep, new_cluster, node_after, outputs_of}
use Rattle.proof_answers.specs.Answers.{TakesAt, node_then}
use Rattle.proof_answers.specs.Reads.{Hears}
use Rattle.proof_answers.specs.Waiting.{but_oldest, waiting, waiting_from, waiting_on}
use Rattle.proof_answers.proofs.Prefixes.{slot_last}
use Rattle.proof_requests.specs.OnDisk.{flushed_node}
use Rattle.proof_requests.specs.Reading.{IsHanded, StartsBare}
use Rattle.proof_requests.specs.ReadLaws.{AreReadAnswered, AreReads, IsOpenRead, IsReadAnswered, IsReadTrue, IsRound, answers_waiting, pending}
use Rattle.proof_requests.specs.Requests.{AllPairs, Asked, server_after}
use Rattle.proof_requests.proofs.Kept.{NoCrash}
use Rattle.proof_requests.proofs.Lists.{all_append, all_filter, all_in, all_map, none_in, pairs_append, pairs_drop, pairs_on, pairs_take, slot_behind, slot_less, split_at}
use Rattle.proof_requests.proofs.Reading.{asked_more, read_done}
use Rattle.proof_requests.proofs.Turns.{Turns, turns}

-- Lists

take_none : {A : Type 0} (k : ℕ) → ◌≡◌ {A = List A} (take k []) []
take_none zero = refl
take_none (suc k) = refl

all_none : {A : Type 0} (P : A → Type 0) (xs : List A) → AllByRecursion P (take 0 xs)
all_none P [] = tt
all_none P (x ∷ xs) = tt

drop_none : {A : Type 0} (xs : List A) → drop 0 xs ≡ xs
drop_none [] = refl
drop_none (x ∷ xs) = refl

-- what holds of the first n, holds of those of them that are behind the first c
all_mid : {A : Type 0} (P : A → Type 0) (c n : ℕ) (xs : List A) → AllByRecursion P (take n xs) → AllByRecursion P (take (n - c) (drop c xs))
all_mid P zero n xs h = let q : n ≡ n - 0 = omega arith in subst (λ ys. AllByRecursion P (take (n - 0) ys)) (sym (drop_none xs)) (subst (λ m. AllByRecursion P (take m xs)) q h)
all_mid P (suc c) n [] h = subst (AllByRecursion P) (sym (take_none (n - suc c))) tt
all_mid P (suc c) zero (x ∷ xs) h = let q : 0 ≡ 0 - suc c = omega arith in subst (λ m. AllByRecursion P (take m (drop c xs))) q (all_none P (drop c xs))
all_mid P (suc c) (suc n) (x ∷ xs) h = let q : n - c ≡ suc n - suc c = omega arith in subst (λ m. AllByRecursion P (take m (drop c xs))) q (all_mid P c n xs h.1)

-- those that are left if all are refused, or none
abbrev pub left_of : Option (Option ℕ) → List Asked → List Asked
left_of gone reading = elim gone [ None ↦ reading | Some leader ↦ [] ]

-- so many are left behind the first c
drop_long : {A : Type 0} (c n : ℕ) (xs : List A) → n ≤ length xs → n - c ≤ length (drop c xs)
drop_long {A} zero n xs l = let q : length (drop 0 xs) ≡ length xs = ap (λ (ys : List A). length ys) (drop_none xs) in omega (arith, l, q)
drop_long (suc c) n [] l = omega (arith, l)
drop_long (suc c) n (x ∷ xs) l = let r : (n - 1) - c ≤ length (drop c xs) = drop_long c (n - 1) xs (omega (arith, l)) in omega (arith, r)

-- behind all of them there is none
pub drop_all : {A : Type 0} (xs : List A) → ◌≡◌ {A = List A} (drop (length xs) xs) []
drop_all [] = refl
drop_all (x ∷ xs) = drop_all xs

pub pairs_long : {A B : Type 0} (P : A → B → Type 0) (xs : List A) (ys : List B) → AllPairs P xs ys → length xs ≡ length ys
pairs_long P [] [] h = refl
pairs_long P [] (y ∷ ys) h = absurd h
pairs_long P (x ∷ xs) [] h = absurd h
pairs_long P (x ∷ xs) (y ∷ ys) h = ap suc (pairs_long P xs ys h.1)

-- What the node has answered, and what hasn't left

-- the same of rounds that differ in other things
pending_alike : (f : RoundView → RoundView) → ((o : RoundView) → ((f o).left ≡ o.left) × ((f o).answer ≡ o.answer)) → (os : List RoundView) → pending (map f os) ≡ pending os
pending_alike f same [] = refl
pending_alike f same (o ∷ os) =
    ap (λ (b : Bool). if b then pending (map f os) else (f o).answer ∷ pending (map f os)) (same o).0
    ∙ (ap (λ a. if o.left then pending (map f os) else a ∷ pending (map f os)) (same o).1
    ∙ ap (λ xs. if o.left then xs else o.answer ∷ xs) (pending_alike f same os))

pub pending_answered : (c : ℕ) (os : List RoundView) → pending (map (answered_in c) os) ≡ pending os
pending_answered c os = pending_alike (answered_in c) (λ o. (refl, refl)) os

pub pending_heard : (m : Message) (os : List RoundView) → pending (map (heard_in m) os) ≡ pending os
pending_heard m os = pending_alike (heard_in m) (λ o. by o (is_news m o)) os
  where
    by : (o : RoundView) (b : Bool) → ((if b then record o { heard = o.heard ++ m.from ∷ [] } else o).left ≡ o.left) × ((if b then record o { heard = o.heard ++ m.from ∷ [] } else o).answer ≡ o.answer)
    by o true = (refl, refl)
    by o false = (refl, refl)

-- rounds that are over wait for no answer
pending_kept : (index : ℕ) (b : Bool) (o : RoundView) (os : List RoundView) → is_over index o ≡ b → pending (if not b then o ∷ os else os) ≡ pending (o ∷ os)
pending_kept index true o os q =
    ap (λ (b : Bool). if b then pending os else o.answer ∷ pending os) (sym (and_parts o.left (reaches o.answer.log_id index && is_quorum nat_cmp o.groups o.heard) q).0)
pending_kept index false o os q = refl

pub pending_not_over : (index : ℕ) (os : List RoundView) → pending (not_over index os) ≡ pending os
pending_not_over index [] = refl
pending_not_over index (o ∷ os) =
    pending_kept index (is_over index o) o (not_over index os) refl ∙ ap (λ xs. if o.left then xs else o.answer ∷ xs) (pending_not_over index os)

-- none waits once all have left
pub none_left : (os : List RoundView) → pending (map answer_left os) ≡ []
none_left [] = refl
none_left (o ∷ os) = none_left os

module _ (given : Given) (actions : List Action) (id : ℕ) where
  -- the first of some reads got these replies, and these are left
  pub record ReadsClosed (reading : List Asked) (replies : List Reply) (r : ReadsView) : Type 0 where
    pub left : List Asked
    pub answered : AreReadAnswered given actions id reading replies left
    pub reads : AreReads given actions id r left

  pub read_none : (reading : List Asked) (r : ReadsView) → AreReads given actions id r reading → ReadsClosed reading [] r
  read_none reading r h = record { left = reading; answered = record { closed = []; all = refl; each = tt }; reads = h }

  -- two answer one after the other
  pub read_both : (reading : List Asked) (rs qs : List Reply) (mid r : ReadsView) → (a : ReadsClosed reading rs mid) → ((left : List Asked) → AreReads given actions id mid left → ReadsClosed left qs r)
      → ReadsClosed reading (rs ++ qs) r
  read_both reading rs qs mid r a f =
      let b = f a.left a.reads in
      record {
        left = b.left;
        answered = record {
          closed = a.answered.closed ++ b.answered.closed;
          all = a.answered.all ∙ (ap (λ xs. a.answered.closed ++ xs) b.answered.all ∙ sym (append_assoc a.answered.closed b.answered.closed b.left));
          each = pairs_append (IsReadAnswered given actions id) a.answered.closed rs b.answered.closed qs a.answered.each b.answered.each;
        };
        reads = b.reads;
      }

  -- these get one answer, which is true of each
  told_pairs : (answer : Answer) (xs : List Reader) (asks : List Asked) → AllPairs (IsOpenRead given actions id) xs asks → AllByRecursion (λ a. IsReadTrue given actions id a answer) asks
      → AllPairs (IsReadAnswered given actions id) asks (told answer xs)
  told_pairs answer [] [] h t = tt
  told_pairs answer [] (a ∷ asks) h t = absurd h
  told_pairs answer (x ∷ xs) [] h t = absurd h
  told_pairs answer (x ∷ xs) (a ∷ asks) h t = (record { token = h.0.token; true = t.0 }, told_pairs answer xs asks h.1 t.1)

  -- so many of the first have an answer
  pub fewer_reads : (c : ℕ) (r : ReadsView) (reading : List Asked) → AreReads given actions id r reading → AreReads given actions id (without_first c r) (drop c reading)
  fewer_reads c r reading h = record {
    open_are = pairs_drop (IsOpenRead given actions id) c r.readers reading h.open_are;
    rounds = all_map (IsRound given actions id reading) (IsRound given actions id (drop c reading)) (answered_in c)
        (λ o k. record {
          read = k.read;
          is_asked_for = k.is_asked_for;
          count = drop_long c o.asked reading k.count;
          came = all_mid (λ a. a.came ≤ k.read) c o.asked reading k.came;
          on_disk = k.on_disk;
        }) r.rounds h.rounds;
    one = subst (λ (xs : List node_answer.Answer). length xs ≤ 1) (sym (pending_answered c r.rounds)) h.one;
  }

  -- all are refused, or none
  pub refused_answered : (gone : Option (Option ℕ)) (r : ReadsView) (reading : List Asked) → AreReads given actions id r reading → AreReadAnswered given actions id reading (refused_replies gone r) (left_of gone reading)
  refused_answered None r reading h = record { closed = []; all = refl; each = tt }
  refused_answered (Some leader) r reading h = record {
    closed = reading;
    all = sym (append-nil reading);
    each = told_pairs (NotLeader leader) r.readers reading h.open_are (all_in (λ a. IsReadTrue given actions id a (NotLeader leader)) reading (λ a c. tt));
  }

  pub refused_reads : (gone : Option (Option ℕ)) (r : ReadsView) (reading : List Asked) → AreReads given actions id r reading → AreReads given actions id (refused_left gone r) (left_of gone reading)
  refused_reads None r reading h = h
  refused_reads (Some leader) r reading h =
      let q : drop (length r.readers) reading ≡ [] = ap (λ n. drop n reading) (pairs_long (IsOpenRead given actions id) r.readers reading h.open_are) ∙ drop_all reading in
      subst (AreReads given actions id (without_first (length r.readers) r)) q (fewer_reads (length r.readers) r reading h)

  pub read_refused : (gone : Option (Option ℕ)) (r : ReadsView) (reading : List Asked) → AreReads given actions id r reading → ReadsClosed reading (refused_replies gone r) (refused_left gone r)
  read_refused gone r reading h = record { left = left_of gone reading; answered = refused_answered gone r reading h; reads = refused_reads gone r reading h }

  -- the first have failed
  pub read_failed : (upto : ℕ) (r : ReadsView) (reading : List Asked) → AreReads given actions id r reading → ReadsClosed reading (failed_replies upto r) (failed_left upto r)
  read_failed upto r reading h =
      record {
        left = drop (count_overdue upto r) reading;
        answered = record {
          closed = take (count_overdue upto r) reading;
          all = split_at (count_overdue upto r) reading;
          each = told_pairs Failed (take (count_overdue upto r) r.readers) (take (count_overdue upto r) reading) (pairs_take (IsOpenRead given actions id) (count_overdue upto r) r.readers reading h.open_are)
              (all_in (λ a. IsReadTrue given actions id a Failed) (take (count_overdue upto r) reading) (λ a k. tt));
        };
        reads = fewer_reads (count_overdue upto r) r reading h;
      }

-- The reads of rounds that are over

waits_read : (given : Given) (actions : List Action) (id read : ℕ) (step : Step) (a : node_answer.Answer) → slice_get actions read ≡ Some (Takes id step) → (outputs_of given (node_then given actions read id) step).answers ≡ a ∷ []
    → (n last : NodeView) (ws : List WaitingStep) (ts : List ℕ) → Turns given actions id n ws ts last → Contains ts read → answers_waiting ws ≡ [] → ⊥
waits_read given actions id read step a takes answered n last [] [] h c q = absurd (let l : c.0 < 0 = c.1 in omega (arith, l))
waits_read given actions id read step a takes answered n last [] (t ∷ ts) h c q = absurd h
waits_read given actions id read step a takes answered n last (w ∷ ws) [] h c q = absurd h
waits_read given actions id read step a takes answered n last (w ∷ ws) (t ∷ ts) h c q =
    ⊎_elim
    (λ (e : t ≡ read). own (subst (λ j. TakesAt given actions j id w.step n) e h.0))
    (λ d. waits_read given actions id read step a takes answered (node_after given n w.step) last ws ts h.2 d (behind w.outputs.answers (answers_waiting ws) q))
    (first_or t ts read c)
  where
    behind : {A : Type 0} (xs ys : List A) → xs ++ ys ≡ [] → ys ≡ []
    behind [] ys e = e
    behind (x ∷ xs) ys e = cc

    front : {A : Type 0} (xs ys : List A) → xs ++ ys ≡ [] → xs ≡ []
    front [] ys e = refl
    front (x ∷ xs) ys e = cc

    own : TakesAt given actions read id w.step n → ⊥
    own (inl (e, m)) =
        let s : w.step ≡ step = (let z : ◌≡◌ {A = Option Action} (Some (Takes id w.step)) (Some (Takes id step)) = sym e ∙ takes in cc) in
        let z : w.outputs.answers ≡ a ∷ [] =
        ap (λ (o : Records (List Entry)). o.answers) h.1 ∙ (ap (λ (x : Step). (outputs_of given n x).answers) s ∙ (ap (λ (x : NodeView). (outputs_of given x step).answers) m ∙ answered)) in
        let y : w.outputs.answers ≡ [] = front w.outputs.answers (answers_waiting ws) q in
        let x : a ∷ [] ≡ [] = sym z ∙ y in
        cc
    own (inr (k, at, e, s, m)) = let z : ◌≡◌ {A = Option Action} (Some (Crashes id k at)) (Some (Takes id step)) = sym e ∙ takes in cc

is_at_most : (a b : ℕ) → nat_le a b ≡ true → a ≤ b
is_at_most a b e = grind (arith, nat_tests)

is_less : (a b : ℕ) → nat_lt a b ≡ true → a < b
is_less a b e = grind (arith, nat_tests)

reached : (o : Option (LogId ℕ)) (index : ℕ) → reaches o index ≡ true → next o ≤ index + 1
reached None index e = omega arith
reached (Some id) index e = let l : id.index ≤ index = is_at_most id.index index e in omega (arith, l)

module _ (given : Given) (wf : IsWellFormed given) (actions : List Action) (may : AllMayAct given actions (new_cluster given)) (id : ℕ) where
  -- a read that is told this index is done
  abbrev Done : ℕ → Asked → Type 0
  Done index a = IsReadTrue given actions id a (Ok index)

  -- those of each round that is over are done
  pub read_over : (executed : Option ℕ) (r : ReadsView) (reading : List Asked) → AreReads given actions id r reading → StartsBare actions id → IsHanded (flushed_node given actions id).store.applied executed
      → ReadsClosed given actions id reading (read_replies executed r) (read_left executed r)
  read_over None r reading h bare handed = read_none given actions id reading r h
  read_over (Some index) r reading h bare handed = record {
    left = drop (count_over index r.rounds) reading;
    answered = record {
      closed = take (count_over index r.rounds) reading;
      all = split_at (count_over index r.rounds) reading;
      each = told_pairs given actions id (Ok index) (take (count_over index r.rounds) r.readers) (take (count_over index r.rounds) reading) (pairs_take (IsOpenRead given actions id) (count_over index r.rounds) r.readers reading h.open_are) (all_done 0 r.rounds h.rounds (all_none (Done index) reading));
    };
    reads = fewer_reads given actions id (count_over index r.rounds) (record r { rounds = not_over index r.rounds }) reading (record {
      open_are = h.open_are;
      rounds = all_filter (IsRound given actions id reading) (λ o. not (is_over index o)) r.rounds h.rounds;
      one = subst (λ (xs : List node_answer.Answer). length xs ≤ 1) (sym (pending_not_over index r.rounds)) h.one;
    });
  }
    where
      each_done : (o : RoundView) (i : IsRound given actions id reading o) → is_over index o ≡ true → (asks : List Asked) → AllByRecursion (λ a. a.came ≤ i.read) asks → AllByRecursion (Done index) asks
      each_done o i b [] k = tt
      each_done o i b (a ∷ asks) k =
          let parts = and_parts o.left (reaches o.answer.log_id index && is_quorum nat_cmp o.groups o.heard) b in
          let more = and_parts (reaches o.answer.log_id index) (is_quorum nat_cmp o.groups o.heard) parts.1 in (
            read_done given wf actions may id i.read o.answer o.moment o.groups o.heard i.is_asked_for bare (i.on_disk parts.0) more.1 index handed (reached o.answer.log_id index more.0) a k.0,
            each_done o i b asks k.1,
          )

      all_done : (most : ℕ) (os : List RoundView) → AllByRecursion (IsRound given actions id reading) os → AllByRecursion (Done index) (take most reading) → AllByRecursion (Done index) (take (fold (over_more index) most os) reading)
      all_done most [] k done = done
      all_done most (o ∷ os) k done = all_done (over_more index most o) os k.1 (one (is_over index o && nat_lt most o.asked) refl)
        where
          one : (b : Bool) → (is_over index o && nat_lt most o.asked) ≡ b → AllByRecursion (Done index) (take (if b then o.asked else most) reading)
          one true q = each_done o k.0 (and_parts (is_over index o) (nat_lt most o.asked) q).0 (take o.asked reading) k.0.came
          one false q = done

-- the answers of rounds leave: no step that waits says one
pub reads_left_by : (given : Given) (actions : List Action) (id : ℕ) (said : List node_answer.Answer) (r : ReadsView) (reading : List Asked) → AreReads given actions id r reading
    → answers_waiting (server_after given actions id).waiting ≡ pending (with_left said r).rounds → AreReads given actions id (with_left said r) reading
reads_left_by given actions id [] r reading h p = h
reads_left_by given actions id (a ∷ said) r reading h p = record {
  open_are = h.open_are;
  rounds = all_map (IsRound given actions id reading) (IsRound given actions id reading) answer_left
      (λ o k. record {
        read = k.read;
        is_asked_for = k.is_asked_for;
        count = k.count;
        came = k.came;
        on_disk = λ l c.
            waits_read given actions id k.read k.is_asked_for.step o.answer k.is_asked_for.takes k.is_asked_for.answered (flushed_node given actions id) (server_after given actions id).node (server_after given actions id).waiting
            (waiting id actions) (turns given actions id) c (p ∙ none_left r.rounds);
      }) r.rounds h.rounds;
  one = subst (λ (xs : List node_answer.Answer). length xs ≤ 1) (sym (none_left r.rounds)) (omega arith);
}

-- what waits for the disk after more actions, waited or came by them
waits_on : (id number read : ℕ) (a : Action) (ts : List ℕ) → Contains (waiting_on id number a ts) read → Contains ts read ⊎ (number ≡ read)
waits_on id number read (Takes other step) ts c = go (nat_eq other id) c
  where
    go : (b : Bool) → Contains (if b then ts ++ number ∷ [] else ts) read → Contains ts read ⊎ (number ≡ read)
    go true d = ⊎_elim (λ e. inl e) (λ e. inr (⊎_elim (λ q. q) (λ n. absurd (none_in read n)) (first_or number [] read e))) (Contains-append_cases ts (number ∷ []) read d)
    go false d = inl d
waits_on id number read (Flushes other) ts c = go (nat_eq other id) ts c
  where
    go : (b : Bool) (xs : List ℕ) → Contains (if b then but_oldest xs else xs) read → Contains xs read ⊎ (number ≡ read)
    go true [] d = inl d
    go true (x ∷ xs) d = inl (there x xs read d)
    go false xs d = inl d
waits_on id number read (Crashes other k at) ts c = go (nat_eq other id) c
  where
    go : (b : Bool) → Contains (if b then number ∷ [] else ts) read → Contains ts read ⊎ (number ≡ read)
    go true d = inr (⊎_elim (λ q. q) (λ n. absurd (none_in read n)) (first_or number [] read d))
    go false d = inl d

waits_from : (id number read : ℕ) (more : List Action) (ts : List ℕ) → read < number → Contains (waiting_from id number more ts) read → Contains ts read
waits_from id number read [] ts l c = c
waits_from id number read (a ∷ more) ts l c =
    ⊎_elim (λ d. d) (λ (e : number ≡ read). absurd (omega (arith, l, e))) (waits_on id number read a ts (waits_from id (suc number) read more (waiting_on id number a ts) (omega (arith, l)) c))

waiting_split : (id number : ℕ) (actions more : List Action) (ts : List ℕ) → waiting_from id number (actions ++ more) ts ≡ waiting_from id (number + length actions) more (waiting_from id number actions ts)
waiting_split id number [] more ts = let q : number ≡ number + 0 = omega arith in ap (λ n. waiting_from id n more ts) q
waiting_split id number (a ∷ actions) more ts =
    let q : suc number + length actions ≡ number + suc (length actions) = omega arith in
    waiting_split id (suc number) actions more (waiting_on id number a ts) ∙ ap (λ n. waiting_from id n more (waiting_from id (suc number) actions (waiting_on id number a ts))) q

waited : (id : ℕ) (actions more : List Action) (read : ℕ) → read < length actions → Contains (waiting id (actions ++ more)) read → Contains (waiting id actions) read
waited id actions more read l c =
    let q : 0 + length actions ≡ length actions = omega arith in
    waits_from id (length actions) read more (waiting id actions) l
    (subst (λ (ts : List ℕ). Contains ts read) (waiting_split id 0 actions more [] ∙ ap (λ n. waiting_from id n more (waiting id actions)) q) c)

-- What was so of reads is so after more actions

module _ (given : Given) (actions more : List Action) (id : ℕ) where
  pub bare_more : StartsBare actions id → ((j at : ℕ) (start : Start) → slice_get more j ≢ Some (Takes id (record { act = Restart start; at = at }))) → StartsBare (actions ++ more) id
  bare_more h k number at start e =
      ⊎_elim
      (λ (l : number < length actions). h number at start (sym (slot_less actions more number l) ∙ e))
      (λ (l : length actions ≤ number). k (number - length actions) at start (sym (slot_behind actions more (number - length actions) number (omega (arith, l))) ∙ e))
      (cases_lt number (length actions))

  pub reads_more : NoCrash id more → (r : ReadsView) (reading : List Asked) → AreReads given actions id r reading → AreReads given (actions ++ more) id r reading
  reads_more quiet r reading h = record {
    open_are = pairs_on (IsOpenRead given actions id) (IsOpenRead given (actions ++ more) id)
        (λ x a k. record { token = k.token; came = (let l = k.came in let m : length (actions ++ more) ≡ length actions + length more = length-append actions more in omega (arith, l, m)) }) r.readers reading h.open_are;
    rounds = all_in (IsRound given (actions ++ more) id reading) r.rounds (λ o c.
        let k : IsRound given actions id reading o = element (IsRound given actions id reading) r.rounds o h.rounds c in
        record {
          read = k.read;
          is_asked_for = asked_more given actions more id k.read o.answer o.moment o.groups o.heard quiet k.is_asked_for;
          count = k.count;
          came = k.came;
          on_disk = λ l c. k.on_disk l (waited id actions more k.read (slot_below actions k.read (Takes id k.is_asked_for.step) k.is_asked_for.takes) c);
        });
    one = h.one;
  }

-- A reply is heard that the server takes

alike : (a b : ℕ) → nat_eq a b ≡ true → a ≡ b
alike a b e = grind (arith, nat_tests)

same_leader : (a b : LeaderId ℕ) → leader_id_eq nat_eq a b ≡ true → a ≡ b
same_leader a b e =
    let p = and_parts (nat_eq a.term b.term) (nat_eq a.node_id b.node_id) e in
    ap (λ (t : ℕ). let d : LeaderId ℕ = record { term = t; node_id = a.node_id } in d) (alike a.term b.term p.0)
    ∙ ap (λ (n : ℕ). let d : LeaderId ℕ = record { term = b.term; node_id = n } in d) (alike a.node_id b.node_id p.1)

-- what a late reply tells
record IsLate (b : Body) (o : RoundView) : Type 0 where
  origin : Origin
  tells : IsTaking b origin
  session : origin.session_id.vote.leader_id ≡ o.answer.leader_id
  later : o.moment < origin.sent_at

late : (b : Body) (o : RoundView) → is_late b o ≡ true → IsLate b o
late (VoteRequest req) o e = cc
late (VoteReply resp) o e = cc
late (AppendRequest origin prev entries committed) o e = cc
late (AppendReply origin (HigherVote v) prev upto) o e = cc
late (AppendReply origin Success prev upto) o e =
    let p = and_parts (leader_id_eq nat_eq origin.session_id.vote.leader_id o.answer.leader_id) (nat_lt o.moment origin.sent_at) e in
    record { origin = origin; tells = (refl, tt); session = same_leader origin.session_id.vote.leader_id o.answer.leader_id p.0; later = is_less o.moment origin.sent_at p.1 }
late (AppendReply origin (PartialSuccess held) prev upto) o e =
    let p = and_parts (leader_id_eq nat_eq origin.session_id.vote.leader_id o.answer.leader_id) (nat_lt o.moment origin.sent_at) e in
    record { origin = origin; tells = (refl, tt); session = same_leader origin.session_id.vote.leader_id o.answer.leader_id p.0; later = is_less o.moment origin.sent_at p.1 }
late (AppendReply origin Conflict prev upto) o e =
    let p = and_parts (leader_id_eq nat_eq origin.session_id.vote.leader_id o.answer.leader_id) (nat_lt o.moment origin.sent_at) e in
    record { origin = origin; tells = (refl, tt); session = same_leader origin.session_id.vote.leader_id o.answer.leader_id p.0; later = is_less o.moment origin.sent_at p.1 }
late (SnapshotRequest origin snapshot) o e = cc
late (SnapshotReply origin reply upto) o e = cc

module _ (given : Given) (actions : List Action) (id at : ℕ) (m : Message) where
  abbrev taking_it : Step
  taking_it = record { act = Take m; at = at }

  abbrev after_it : List Action
  after_it = actions ++ Takes id taking_it ∷ []

  -- after it was taken
  pub reads_heard : (r : ReadsView) (reading : List Asked) → AreReads given after_it id r reading → AreReads given after_it id (with_heard m r) reading
  reads_heard r reading h = record {
    open_are = h.open_are;
    rounds = all_map (IsRound given after_it id reading) (IsRound given after_it id reading) (heard_in m) (λ o k. by o (is_late m.body o && not (has_id nat_cmp o.heard m.from)) refl k) r.rounds h.rounds;
    one = subst (λ (xs : List node_answer.Answer). length xs ≤ 1) (sym (pending_heard m r.rounds)) h.one;
  }
    where
      hears : (o : RoundView) → is_late m.body o ≡ true → Hears after_it id (length after_it) o.moment o.answer.leader_id m.from
      hears o e =
          let l : IsLate m.body o = late m.body o e in
          record {
            number = length actions;
            early = (let q : length after_it ≡ length actions + 1 = length-append actions (Takes id taking_it ∷ []) in omega (arith, q));
            step = taking_it;
            takes = slot_last actions (Takes id taking_it);
            message = m;
            is = refl;
            from = refl;
            origin = l.origin;
            tells = l.tells;
            session = l.session;
            later = l.later;
          }

      by : (o : RoundView) (b : Bool) → (is_late m.body o && not (has_id nat_cmp o.heard m.from)) ≡ b → IsRound given after_it id reading o
          → IsRound given after_it id reading (if b then record o { heard = o.heard ++ m.from ∷ [] } else o)
      by o false q k = k
      by o true q k =
          let a = k.is_asked_for in
          record {
            read = k.read;
            is_asked_for = record {
              step = a.step;
              takes = a.takes;
              is = a.is;
              answered = a.answered;
              moment_is = a.moment_is;
              groups_are = a.groups_are;
              hears = all_append (λ n. (n ≡ id) ⊎ Hears after_it id (length after_it) o.moment o.answer.leader_id n) o.heard (m.from ∷ []) a.hears
                  (inr (hears o (and_parts (is_late m.body o) (not (has_id nat_cmp o.heard m.from)) q).0), tt);
              runs = a.runs;
            };
            count = k.count;
            came = k.came;
            on_disk = k.on_disk;
          }
