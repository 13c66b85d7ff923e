-- Words that are joined are printed one behind the other.
use Rattle.std.proofs.Common.{◌≡◌, ◌≤◌, ◌-◌, ℕ, arith, drop, get_or, length, take, List, [], ◌∷◌, ◌++◌, Option, Some, None, refl, sym, ap, ◌∙◌, append_assoc, append-nil, codes, flat_map, map}
use Rattle.std.proofs.lemmas.List.{take_all}
use Rattle.std.specs.Fmt.{decimal}
use Rattle.std.specs.List.{join_with_byte}
use Rattle.raft_state.specs.Texts.{optional_text}
use Rattle.raft_store.specs.declared.entry.Value.{Value}
use Rattle.raft_schedule.specs.declared.event.Event.{Event}
use Rattle.raft_schedule.specs.declared.event.EventKind.{EventKind}
use Rattle.raft_schedule.specs.declared.event.EventKind.TheVariants.{Init, Timeout, Stand, Deliver, Propose, Heartbeat, Fail, Snapshot, Built, Purge, Restart, Member, Change, Read, Down, Stop}
use Rattle.raft_schedule.specs.declared.event.Start.TheVariants.{Plain, Saved, Bare}
use Rattle.raft_schedule.specs.declared.step.Fact.{Fact}
use Rattle.raft_schedule.specs.declared.step.Fact.TheVariants.{Stopped, Role, Vote, Last, Committed, Applied}
use Rattle.raft_schedule.specs.Written.{event_text, fact_text, fact_words, group_word, id_word, kind_text, kind_words, learner_words, optional_word, role_word, spaced, stop_words, time_words, value_word, vote_word}

-- the words behind the first stand each behind the byte that joins them
pub joined : (c : ℕ) (w : List ℕ) (ws : List (List ℕ)) → join_with_byte c (w ∷ ws) ≡ w ++ flat_map (λ v. c ∷ v) ws
joined c w [] = sym (append-nil w)
joined c w (v ∷ vs) = ap (λ l. w ++ c ∷ l) (joined c v vs)

-- a group: its first id, and each other one behind a comma
group_said : (n : ℕ) (ids : List ℕ) → group_word (n ∷ ids) ≡ decimal n ++ flat_map (λ id. 44 ∷ decimal id) ids
group_said n [] = sym (append-nil (decimal n))
group_said n (m ∷ ids) = ap (λ l. decimal n ++ 44 ∷ l) (group_said m ids)

-- all of them are printed
pub group_whole : (ids : List ℕ) (i : ℕ) → 1 ≤ length ids → length (take (length ids - 1) (drop 1 ids)) ≤ i
    → decimal (get_or ids 0 0) ++ flat_map (λ id. 44 ∷ decimal id) (take i (take (length ids - 1) (drop 1 ids))) ≡ group_word ids
group_whole [] i some all = absurd (omega (arith, some))
group_whole (n ∷ ids) i some all =
    let rest : take (length (n ∷ ids) - 1) ids ≡ ids = take_all _ ids (omega arith) in
    ap (λ l. decimal n ++ flat_map (λ id. 44 ∷ decimal id) l) (take_all i _ all ∙ rest) ∙ sym (group_said n ids)

pub spaced_more : (vs ws : List (List ℕ)) → spaced (vs ++ ws) ≡ spaced vs ++ spaced ws
spaced_more [] ws = refl
spaced_more (v ∷ vs) ws = ap (λ l. 32 ∷ (v ++ l)) (spaced_more vs ws) ∙ ap (λ l. 32 ∷ l) (sym (append_assoc v (spaced vs) (spaced ws)))

pub joined_more : (w : List ℕ) (ws rest : List (List ℕ)) → join_with_byte 32 ((w ∷ ws) ++ rest) ≡ join_with_byte 32 (w ∷ ws) ++ spaced rest
joined_more w ws rest =
    joined 32 w (ws ++ rest) ∙ ap (λ l. w ++ l) (spaced_more ws rest) ∙ sym (append_assoc w (spaced ws) (spaced rest)) ∙ ap (λ l. l ++ spaced rest) (sym (joined 32 w ws))

kind_more : (k : EventKind) (rest : List (List ℕ)) → join_with_byte 32 (kind_words k ++ rest) ≡ kind_text k ++ spaced rest
kind_more (Init n) rest = joined_more (codes "init") (decimal n ∷ []) rest
kind_more (Timeout n) rest = joined_more (codes "timeout") (decimal n ∷ []) rest
kind_more (Stand n) rest = joined_more (codes "stand") (decimal n ∷ []) rest
kind_more (Deliver n) rest = joined_more (codes "deliver") (decimal n ∷ []) rest
kind_more (Propose n vs) rest = joined_more (codes "propose") (decimal n ∷ map value_word vs) rest
kind_more (Heartbeat n) rest = joined_more (codes "heartbeat") (decimal n ∷ []) rest
kind_more (Fail n t) rest = joined_more (codes "fail") (decimal n ∷ decimal t ∷ []) rest
kind_more (Snapshot n) rest = joined_more (codes "snapshot") (decimal n ∷ []) rest
kind_more (Built n) rest = joined_more (codes "built") (decimal n ∷ []) rest
kind_more (Purge n i) rest = joined_more (codes "purge") (decimal n ∷ decimal i ∷ []) rest
kind_more (Restart n Plain) rest = joined_more (codes "restart") (decimal n ∷ []) rest
kind_more (Restart n Saved) rest = joined_more (codes "restart") (decimal n ∷ codes "saved" ∷ []) rest
kind_more (Restart n Bare) rest = joined_more (codes "restart") (decimal n ∷ codes "bare" ∷ []) rest
kind_more (Member n ids) rest = joined_more (codes "member") (decimal n ∷ map decimal ids) rest
kind_more (Change n groups ids) rest = joined_more (codes "change") (decimal n ∷ (map group_word groups ++ learner_words ids)) rest
kind_more (Read n) rest = joined_more (codes "read") (decimal n ∷ []) rest
kind_more (Down n) rest = joined_more (codes "down") (decimal n ∷ []) rest
kind_more (Stop n) rest = joined_more (codes "stop") (decimal n ∷ []) rest

-- an event: its kind, its time and its stop
pub event_said : (e : Event) → event_text e ≡ kind_text e.kind ++ (spaced (time_words e.at) ++ spaced (stop_words e.stop))
event_said e =
    ap (join_with_byte 32) (append_assoc (kind_words e.kind) (time_words e.at) (stop_words e.stop)) ∙ kind_more e.kind (time_words e.at ++ stop_words e.stop)
    ∙ ap (λ l. kind_text e.kind ++ l) (spaced_more (time_words e.at) (stop_words e.stop))

pub time_said : (t : ℕ) → spaced (time_words (Some t)) ≡ codes " at " ++ decimal t
time_said t = ap (λ l. codes " at " ++ l) (append-nil (decimal t))

pub stop_said : (j : ℕ) → spaced (stop_words (Some j)) ≡ codes " stop " ++ decimal j
stop_said j = ap (λ l. codes " stop " ++ l) (append-nil (decimal j))

first_spaced : (w : List ℕ) (ws : List (List ℕ)) → spaced (w ∷ ws) ≡ 32 ∷ join_with_byte 32 (w ∷ ws)
first_spaced w ws = ap (λ l. 32 ∷ l) (sym (joined 32 w ws))

fact_spaced : (f : Fact) → spaced (fact_words f) ≡ 32 ∷ fact_text f
fact_spaced Stopped = first_spaced (codes "stopped") []
fact_spaced (Role r) = first_spaced (role_word r) []
fact_spaced (Vote v) = first_spaced (codes "vote") (vote_word v ∷ [])
fact_spaced (Last id) = first_spaced (codes "last") (optional_word id_word id ∷ [])
fact_spaced (Committed id) = first_spaced (codes "committed") (optional_word id_word id ∷ [])
fact_spaced (Applied i) = first_spaced (codes "applied") (optional_word decimal i ∷ [])

facts_spaced : (fs : List Fact) → spaced (flat_map fact_words fs) ≡ flat_map (λ f. 32 ∷ fact_text f) fs
facts_spaced [] = refl
facts_spaced (f ∷ fs) = spaced_more (fact_words f) (flat_map fact_words fs) ∙ ap (λ l. l ++ spaced (flat_map fact_words fs)) (fact_spaced f) ∙ ap (λ l. (32 ∷ fact_text f) ++ l) (facts_spaced fs)

-- what is expected of a node: its id, and each fact
pub facts_said : (n : ℕ) (fs : List Fact) → join_with_byte 32 (decimal n ∷ flat_map fact_words fs) ≡ decimal n ++ flat_map (λ f. 32 ∷ fact_text f) fs
facts_said n fs = joined 32 (decimal n) (flat_map fact_words fs) ∙ ap (λ l. decimal n ++ l) (facts_spaced fs)

-- events of several words
pub propose_said : (n : ℕ) (vs : List Value) → kind_text (Propose n vs) ≡ codes "propose " ++ decimal n ++ spaced (map value_word vs)
propose_said n vs = ap (λ l. codes "propose " ++ l) (joined 32 (decimal n) (map value_word vs))

pub member_said : (n : ℕ) (ids : List ℕ) → kind_text (Member n ids) ≡ codes "member " ++ decimal n ++ spaced (map decimal ids)
member_said n ids = ap (λ l. codes "member " ++ l) (joined 32 (decimal n) (map decimal ids))

pub change_said : (n : ℕ) (groups : List (List ℕ)) (ids : List ℕ) → kind_text (Change n groups ids) ≡ codes "change " ++ (decimal n ++ (spaced (map group_word groups) ++ spaced (learner_words ids)))
change_said n groups ids =
    ap (λ l. codes "change " ++ l) (joined 32 (decimal n) (map group_word groups ++ learner_words ids) ∙ ap (λ l. decimal n ++ l) (spaced_more (map group_word groups) (learner_words ids)))
