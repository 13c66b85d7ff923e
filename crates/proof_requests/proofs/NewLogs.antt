-- A server begins a new log, has it take the old one's place, or gives it up, and servers with their clients stay beside the model: where the next
-- frame goes no client sees.
use Rattle.std.proofs.Common.{ℕ, ◌≡◌, List, refl, sym, subst}
use Rattle.std.specs.Prelude.{None, Option, Some}
use Rattle.std.specs.Option.{option_map}
use Rattle.raft_frames.specs.declared.header.LogId.{LogId as LogName}
use Rattle.raft_codec.specs.Codec.{Codec}
use Rattle.raft_node.specs.declared.given.Given.{Given}
use Rattle.proof_clients.proofs.Sequences.{each_of}
use Rattle.proof_packed.specs.Stores.{Application}
use Rattle.raft_core.specs.proof_packed_servers.Servers.{PackedServer, server_packed}
use Rattle.proof_servers.specs.Servers.{Action, after_actions, new_cluster}
use Rattle.raft_core.specs.raft_packed_server.declared.batch.NewLog.{NewLog}
use Rattle.raft_core.specs.raft_packed_server.declared.serving.Serving.{Serving}
use Rattle.raft_core.specs.raft_packed_server.Checkpoints.{TakesOver, with_next_log, without_next_log}
use Rattle.raft_core.specs.raft_packed_server.Represents.{StandsFor}
use Rattle.raft_core.proofs.raft_packed_server_proofs.Renewed.{new_logs_are_given_up, new_logs_go_on}
use Rattle.raft_core.proofs.raft_packed_server_proofs.Waiting.{stands_placed}
use Rattle.raft_core.specs.Calls.{BeginsNewLog, GivesUpLog, TakesOverLog}
use Rattle.raft_core.specs.Views.{CoreView}
use Rattle.proof_requests.specs.Clients.{AreBeside, Cores, IsOver, with_one}
use Rattle.proof_requests.specs.Moving.{IsMoving}
use Rattle.proof_requests.specs.ReadLaws.{IsReader}
use Rattle.proof_requests.specs.Requests.{IsCore, Placed, server_after}
use Rattle.proof_requests.proofs.MovedCalls.{moving_same, stays, with_core}

-- The server

module _ {S : Type 0} (app : Application S) (s : PackedServer S) where
  taken_over : (old : Option (Serving S)) (end : Option ℕ) (new : Option (Serving S)) → TakesOver old end new → StandsFor app s old
      → StandsFor app s new
  taken_over None None new t stands = subst (StandsFor app s) (sym t) stands
  taken_over None (Some end) new t stands = absurd t
  taken_over (Some v) None new t stands = subst (StandsFor app s) (sym t.1) stands
  taken_over (Some v) (Some end) new t stands =
      subst (StandsFor app s) (sym t.rest) (stands_placed app None t.place None s v stands)

  given_up : (c : Codec S) (old : Option (Serving S)) → StandsFor app s old → StandsFor app s (option_map without_next_log old)
  given_up c None stands = stands
  given_up c (Some v) stands = new_logs_are_given_up app c s v stands

module _ {S : Type 0} (app : Application S) (codec : Codec S) (given : Given) (actions : List Action) (placed : List Placed)
    (s : Cores S) (h : AreBeside app codec given actions placed s) (id : ℕ) (old new : CoreView S)
    (runs : s.cores id ≡ Some old) where
  abbrev with_new : Cores S
  with_new = record s { cores = with_one id (Some new) s.cores }

  abbrev server : PackedServer S
  server = server_packed app (server_after given actions id)

  core : IsCore app given actions placed id old (s.open_at id)
  core = h.running id old runs

  reader : IsReader given actions id old (s.reads_at id)
  reader = h.reading id old runs

  -- it serves as before, but for its log
  module _ (serving : Option (Serving S)) (rest : new ≡ record old { server = record old.server { serving = serving } })
      (stands : StandsFor app server serving) where
    core_now : IsCore app given actions placed id new (s.open_at id)
    core_now =
        subst (λ (v : CoreView S). IsCore app given actions placed id v (s.open_at id)) (sym rest)
        (record { member = core.member; own = core.own; given_is = core.given_is; stands = stands; open_are = core.open_are })

    reader_now : IsReader given actions id new (s.reads_at id)
    reader_now =
        subst (λ (v : CoreView S). IsReader given actions id v (s.reads_at id)) (sym rest)
        (record { bare = reader.bare; handed = reader.handed; pending_is = reader.pending_is; reads = reader.reads })

    beside_log : AreBeside app codec given actions placed with_new
    beside_log = record {
      may = h.may;
      placed_are = h.placed_are;
      running = with_core (λ i v. IsCore app given actions placed i v (s.open_at i)) s.cores id new core_now h.running;
      reading = with_core (λ i v. IsReader given actions i v (s.reads_at i)) s.cores id new reader_now h.reading;
      bare = h.bare;
      numbers = h.numbers;
      rises = h.rises;
      reads_rise = h.reads_rise;
      are_reads = h.are_reads;
      apart = h.apart;
      values = λ x i n c e.
          let z = h.values x i n c e in
          record { asked = z.asked; number_is = z.number_is; wrote = z.wrote; came = z.came; there = z.there };
      over = each_of (IsOver given actions placed s) (IsOver given actions placed with_new)
          (λ e o. record { below = o.below; apart = o.apart; early = o.early; was_told = o.was_told }) s.done h.over;
      once = h.once;
      frames = h.frames;
      moving = with_core (λ i v. IsMoving app codec (after_actions given actions (new_cluster given)).released.bag v) s.cores id new
          (moving_same app codec (after_actions given actions (new_cluster given)).released.bag old new
          (stays old new _ rest refl refl refl)
          (h.moving id old runs))
          h.moving;
    }

  pub beside_new_log : (log : LogName) (w : NewLog) → BeginsNewLog codec log old w new → AreBeside app codec given actions placed with_new
  beside_new_log log w b =
      beside_log (Some (with_next_log codec log b.serving)) b.rest
      (new_logs_go_on app codec log server b.serving w (subst (StandsFor app server) b.serves core.stands) b.is_new).old

  pub beside_take_over : (end : Option ℕ) → TakesOverLog old end new → AreBeside app codec given actions placed with_new
  beside_take_over end t =
      beside_log new.server.serving t.rest (taken_over app server old.server.serving end new.server.serving t.takes_over core.stands)

  pub beside_giving_up : GivesUpLog old new → AreBeside app codec given actions placed with_new
  beside_giving_up g =
      beside_log (option_map without_next_log old.server.serving) g (given_up app server codec old.server.serving core.stands)
