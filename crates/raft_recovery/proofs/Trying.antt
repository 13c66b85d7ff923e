-- Ways on that are tried: what is played behind a copy of a world, and when nothing is found.
use Rattle.std.proofs.Common.{ℕ, ◌+◌, ◌≡◌, ◌∙◌, true, false, List}
use Rattle.std.proofs.Common.{◌++◌, append_assoc, length, drop, ap, sym, subst, Some}
use Rattle.std.proofs.lemmas.List.{drop-map, drop_at, length-map}
use Rattle.raft_state.specs.declared.ids.LogId.{LogId}
use Rattle.raft_store.specs.declared.entry.Entry.{Entry}
use Rattle.raft_store.specs.declared.entry.Value.{Value}
use Rattle.raft_schedule.specs.declared.event.AppliedEvent.{AppliedEvent}
use Rattle.raft_schedule.specs.declared.event.Event.{Event}
use Rattle.raft_node.specs.declared.given.Given.{Given}
use Rattle.raft_node.specs.Net.{Net}
use Rattle.raft_node.specs.Runs.{History, events_of}
use Rattle.raft_world.specs.Worlds.{IsWorldOfRun, WorldView, events_in, new_world, run_in}
use Rattle.proof_progress.specs.Continuations.{goes_on}
use Rattle.raft_recovery.specs.declared.recovery.Recovery.{Recovery}
use Rattle.raft_recovery.specs.declared.starting.Found.{Found}
use Rattle.raft_recovery.specs.Choosing.{can_be_elected, found_at}
use Rattle.raft_recovery.specs.Recoveries.{GoesBy, GoesOn, RecoversBehind, Recovers}
use Rattle.raft_recovery.specs.Ways.{RecoversBy, last_id_at, played, way_of}
use Rattle.raft_recovery.proofs.Electing.{elected_by}
use Rattle.raft_recovery.proofs.Played.{Plan, after, anew_history, played_events, played_given, played_goes, played_net, played_unspent}

-- A plan that is played behind a world, in a world played anew

module _ (w b c : WorldView) (p : Plan) (anew : b ≡ played (events_in w) (new_world w.given)) (is : c ≡ after p b) where
  abbrev way : List Event
  way = p w.given (run_in w).net

  given_is : b.given ≡ w.given
  given_is = ap (λ (v : WorldView). v.given) anew ∙ played_given (events_in w) (new_world w.given)

  history_is : b.history ≡ run_in w
  history_is = ap (λ (v : WorldView). v.history) anew ∙ anew_history w

  by_way : c ≡ played way b
  by_way = is ∙ (λ i. played (p (given_is i) (history_is i).net) b)

  pub anew_goes : GoesBy w way c
  anew_goes = record {
    given = g.given ∙ given_is;
    unspent = g.unspent;
    events = g.events ∙ ap (λ es. es ++ way) (ap events_in anew ∙ played_events (events_in w) (new_world w.given));
  }
    where
      g : GoesBy b way c
      g = played_goes way b c (ap (λ (v : WorldView). v.spent) anew ∙ played_unspent (events_in w) (new_world w.given)) by_way

  pub anew_net : c.history.net ≡ goes_on w.given way (run_in w).net
  anew_net =
      ap (λ (v : WorldView). v.history.net) by_way
      ∙ (played_net way b ∙ (λ i. goes_on (given_is i) way (history_is i).net))

-- the events from a world's end on are those that came behind it
pub behind : (w new : WorldView) (es : List Event) → GoesBy w es new → events_of (drop (length w.history.past) new.history.past) ≡ es
behind w new es g =
    from (length w.history.past) new.history.past
    ∙ (ap (drop (length w.history.past)) g.events
    ∙ drop_at (events_in w) es (length w.history.past) (length-map w.history.past (λ (p : AppliedEvent). p.event)))
  where
    from : (n : ℕ) (ps : List AppliedEvent) → events_of (drop n ps) ≡ drop n (events_of ps)
    from n ps = sym (drop-map (λ (p : AppliedEvent). p.event) n ps)

-- nodes recover by events that came behind a world
pub goes_on_by : (w new : WorldView) (up : List ℕ) (value : Value) (r : Recovery) (es : List Event) → GoesBy w es new
    → r.events ≡ events_of (drop (length w.history.past) new.history.past)
    → Recovers w.given w.history.net new.history.net up r.log_id value (length r.events) → RecoversBehind w up value r new
goes_on_by w new up value r es g is rec = record {
  goes = subst (λ xs. GoesBy w xs new) (sym (is ∙ behind w new es g)) g;
  recovers = rec;
}

-- events behind those that came behind a world
pub goes_again : (w b c : WorldView) (way : List Event) → (g : GoesOn w b) → c ≡ played way b → GoesBy w (g.0 ++ way) c
goes_again w b c way g is =
    let h : GoesBy b way c = played_goes way b c g.1.unspent is in
    record {
      given = h.given ∙ g.1.given;
      unspent = h.unspent;
      events = h.events ∙ (ap (λ xs. xs ++ way) g.1.events ∙ append_assoc (events_in w) g.0 way);
    }

-- if nodes haven't recovered by the way on of a node, they don't
pub no_way : (w new : WorldView) (up : List ℕ) (value : Value) (n : ℕ) (f : Found) → IsWorldOfRun w
    → GoesBy w (way_of w.given (run_in w).net up value n f) new
    → new.history.net ≡ goes_on w.given (way_of w.given (run_in w).net up value n f) (run_in w).net
    → ((id : LogId ℕ) → last_id_at new.history.net n ≡ Some id → Recovers w.given w.history.net new.history.net up id value
    (length (events_of (drop (length w.history.past) new.history.past))) → ⊥)
    → found_at w.history.net.nodes n ≡ Some f → w.spent ≡ false → RecoversBy w.given w.history.net up value n → ⊥
no_way w new up value n f run goes net_is never at unspent r =
    never r.id (ap (λ (m : Net (List Entry)). last_id_at m n) same ∙ r.last)
    (subst
    (λ (m : Net (List Entry)). Recovers w.given w.history.net m up r.id value (length (events_of (drop (length w.history.past) new.history.past))))
    (sym same)
    (subst
    (λ (k : ℕ). Recovers w.given w.history.net
    (goes_on w.given (way_of w.given w.history.net up value n r.found) w.history.net) up r.id value k)
    (sym count) r.recovers))
  where
    found_is : f ≡ r.found
    found_is = let z : found_at w.history.net.nodes n ≡ Some r.found = r.at in cc

    here : (run_in w).net ≡ w.history.net
    here = ap (λ (t : History (List Entry)). t.net) (sym (run.is unspent))

    way_is : way_of w.given (run_in w).net up value n f ≡ way_of w.given w.history.net up value n r.found
    way_is = λ i. way_of w.given (here i) up value n (found_is i)

    same : new.history.net ≡ goes_on w.given (way_of w.given w.history.net up value n r.found) w.history.net
    same = net_is ∙ (λ i. goes_on w.given (way_is i) (here i))

    count : length (events_of (drop (length w.history.past) new.history.past)) ≡ length (way_of w.given w.history.net up value n r.found)
    count = ap length (behind w new (way_of w.given (run_in w).net up value n f) goes ∙ way_is)

-- a node that can't be elected has no way on
pub not_elected : (given : Given) (net : Net (List Entry)) (up : List ℕ) (value : Value) (n : ℕ) → false ≡ can_be_elected net.nodes up n
    → RecoversBy given net up value n → ⊥
not_elected given net up value n h r =
    let k : can_be_elected net.nodes up n ≡ true = elected_by net.nodes up n r.found true r.at r.elected in
    let z : false ≡ true = h ∙ k in cc
