-- Worlds after events, and plans that go on from what the world is by then.
use Rattle.std.proofs.Common.{ℕ, ◌+◌, ◌<◌, ◌≡◌, ◌∙◌, false, List, [], ◌∷◌, ◌++◌, append-nil, append_assoc, length, take, get_or, refl, ap, sym}
use Rattle.std.proofs.lemmas.List.{map-append, take_more}
use Rattle.std.proofs.lemmas.List.Elements.{filter-append}
use Rattle.std.proofs.lemmas.List.Sums.{fold-append}
use Rattle.std.specs.Prelude.{filter}
use Rattle.raft_state.specs.declared.membership.Members.{Members}
use Rattle.raft_command.specs.declared.config.EngineConfig.{EngineConfig}
use Rattle.raft_store.specs.declared.entry.Entry.{Entry}
use Rattle.raft_schedule.specs.declared.event.AppliedEvent.{AppliedEvent}
use Rattle.raft_schedule.specs.declared.event.Event.{Event}
use Rattle.raft_node.proofs.Runs.{events_of-with_event}
use Rattle.raft_node.specs.declared.given.Given.{Given}
use Rattle.raft_node.specs.Net.{Net}
use Rattle.raft_node.specs.Runs.{History, events_of, run, whole_logs, with_event}
use Rattle.raft_world.specs.Worlds.{WorldView, events_in, new_world, run_in}
use Rattle.proof_progress.specs.Continuations.{goes_on}
use Rattle.proof_progress.proofs.CanElect.{goes_run}
use Rattle.raft_recovery.specs.Recoveries.{GoesBy, happened}
use Rattle.raft_recovery.specs.Ways.{played}

-- What a world is after events

pub played_given : (es : List Event) (w : WorldView) → (played es w).given ≡ w.given
unfolding played
played_given es w = refl

pub played_unspent : (es : List Event) (w : WorldView) → (played es w).spent ≡ w.spent
unfolding played
played_unspent es w = refl

pub played_net : (es : List Event) (w : WorldView) → (played es w).history.net ≡ goes_on w.given es w.history.net
unfolding played
played_net es w = goes_run w.given es w.history

-- no event, one, and some after others
pub played_none : (w : WorldView) → w ≡ played [] w
unfolding played
played_none w = refl

pub played_one : (old new : WorldView) (e : Event) → new ≡ record old { history = with_event whole_logs old.given old.history e }
    → new ≡ played (e ∷ []) old
unfolding played
played_one old new e is = is

pub played_then : (es fs : List Event) (w : WorldView) → played (es ++ fs) w ≡ played fs (played es w)
unfolding played
played_then es fs w =
    ap (λ (t : History (List Entry)). let u : WorldView = record w { history = t } in u) (fold-append (with_event whole_logs w.given) w.history es fs)

-- its events
pub events_after : (given : Given) (es : List Event) (t : History (List Entry)) → events_of (run whole_logs given es t).past ≡ events_of t.past ++ es
events_after given [] t = sym (append-nil (events_of t.past))
events_after given (e ∷ es) t =
    events_after given es (with_event whole_logs given t e)
    ∙ (ap (λ xs. xs ++ es) (events_of-with_event given t e) ∙ append_assoc (events_of t.past) (e ∷ []) es)

pub played_events : (es : List Event) (w : WorldView) → events_in (played es w) ≡ events_in w ++ es
unfolding played
played_events es w = events_after w.given es w.history

pub played_goes : (es : List Event) (old new : WorldView) → old.spent ≡ false → new ≡ played es old → GoesBy old es new
played_goes es old new u is = record {
  given = ap (λ (w : WorldView). w.given) is ∙ played_given es old;
  unspent = ap (λ (w : WorldView). w.spent) is ∙ (played_unspent es old ∙ u);
  events = ap events_in is ∙ played_events es old;
}

-- Plans

abbrev pub Plan : Type 0
Plan = Given → Net (List Entry) → List Event

-- a world after a plan
abbrev pub after : Plan → WorldView → WorldView
after p w = played (p w.given w.history.net) w

-- events, and then a plan for the world by then
pub then_after : (a b : WorldView) (es : List Event) (q : Plan) → b ≡ played es a
    → after q b ≡ played (es ++ q a.given (goes_on a.given es a.history.net)) a
then_after a b es q g =
    (λ i. played (q (given_is i) (net_is i)) (g i)) ∙ sym (played_then es (q a.given (goes_on a.given es a.history.net)) a)
  where
    given_is : b.given ≡ a.given
    given_is = ap (λ (w : WorldView). w.given) g ∙ played_given es a

    net_is : b.history.net ≡ goes_on a.given es a.history.net
    net_is = ap (λ (w : WorldView). w.history.net) g ∙ played_net es a

pub plays_then : (a b c : WorldView) (es : List Event) (q : Plan) → b ≡ played es a → c ≡ after q b
    → c ≡ played (es ++ q a.given (goes_on a.given es a.history.net)) a
plays_then a b c es q g h = h ∙ then_after a b es q g

-- one more of a list
pub one_more : (a b c : WorldView) (es : List Event) (e : Event) → b ≡ played es a → c ≡ played (e ∷ []) b → c ≡ played (es ++ e ∷ []) a
one_more a b c es e g h = h ∙ (ap (played (e ∷ [])) g ∙ sym (played_then es (e ∷ []) a))

-- A world played anew

pub events_more : (ps : List AppliedEvent) (i : ℕ) (p : AppliedEvent) → i < length ps → p ≡ get_or ps i p
    → events_of (take (i + 1) ps) ≡ events_of (take i ps) ++ p.event ∷ []
events_more ps i p l is =
    ap events_of (take_more ps i p l ∙ ap (λ x. take i ps ++ x ∷ []) (sym is)) ∙ map-append (λ (x : AppliedEvent). x.event) (take i ps) (p ∷ [])

pub past_more : (a b c : WorldView) (ps : List AppliedEvent) (i : ℕ) (p : AppliedEvent) → i < length ps → p ≡ get_or ps i p
    → b ≡ played (events_of (take i ps)) a → c ≡ played (p.event ∷ []) b → c ≡ played (events_of (take (i + 1) ps)) a
past_more a b c ps i p l is g h =
    one_more a b c (events_of (take i ps)) p.event g h ∙ ap (λ xs. played xs a) (sym (events_more ps i p l is))

-- of a past those that weren't skipped
pub happened_more : (a b c : WorldView) (ps : List AppliedEvent) (i : ℕ) (p : AppliedEvent) → i < length ps → p ≡ get_or ps i p
    → b ≡ played (events_of (filter happened (take i ps))) a → c ≡ played (events_of (filter happened (p ∷ []))) b
    → c ≡ played (events_of (filter happened (take (i + 1) ps))) a
happened_more a b c ps i p l is g h =
    h
    ∙ (ap (played (events_of (filter happened (p ∷ [])))) g
    ∙ (sym (played_then (events_of (filter happened (take i ps))) (events_of (filter happened (p ∷ []))) a)
    ∙ ap (λ xs. played xs a) (sym more)))
  where
    more : events_of (filter happened (take (i + 1) ps)) ≡ events_of (filter happened (take i ps)) ++ events_of (filter happened (p ∷ []))
    more =
        ap (λ xs. events_of (filter happened xs)) (take_more ps i p l ∙ ap (λ x. take i ps ++ x ∷ []) (sym is))
        ∙ (ap events_of (filter-append happened (take i ps) (p ∷ []))
        ∙ map-append (λ (x : AppliedEvent). x.event) (filter happened (take i ps)) (filter happened (p ∷ [])))

-- it is what its events make of the empty one
pub anew_history : (w : WorldView) → (played (events_in w) (new_world w.given)).history ≡ run_in w
unfolding played
anew_history w = refl

-- a world made of equal parts
pub made_same : (g : Given) (ids : List ℕ) (m : Members ℕ (Unit {0})) (s : EngineConfig ℕ) (w : WorldView) → ids ≡ g.ids
    → m ≡ g.membership → s ≡ g.settings → w ≡ new_world (record { ids = ids; membership = m; settings = s }) → w ≡ new_world g
made_same g ids m s w p q r is = is ∙ (λ i. new_world (record { ids = p i; membership = q i; settings = r i }))
