-- The calls of a server's outer layer, at its machine.
use Rattle.std.proofs.Common.{ℕ, ◌≡◌, ◌∙◌, ⊎_elim, List, [], ◌∷◌, ◌++◌, None, Some, refl, sym, ap, subst, inl, inr}
use Rattle.std.specs.Prelude.{Err, IfOk, Ok, OnOk, Option, Result, length, map, take}
use Rattle.std.specs.declared.alloc.AllocError.{AllocError}
use Rattle.std.specs.List.{AllByRecursion}
use Rattle.std.specs.Option.{option_map}
use Rattle.std.proofs.lemmas.List.{append-nil, take_at}
use Rattle.raft_answers.specs.declared.answer.Reply.{Reply}
use Rattle.raft_node.specs.declared.given.Given.{Given}
use Rattle.raft_codec.specs.Codec.{Codec}
use Rattle.proof_packed.specs.Nodes.{PackedMessage}
use Rattle.proof_packed.specs.Stores.{Application, Packed}
use Rattle.proof_requests.specs.proof_packed_servers.Servers.{PackedServer, PackedStep, packed_with_step}
use Rattle.raft_packed_wire.specs.declared.packet.PackedContent.{PackedContent}
use Rattle.raft_packed_wire.specs.declared.packet.PackedContent.TheVariants as content
use Rattle.raft_packed_wire.specs.Messages.{received as received_message}
use Rattle.proof_requests.specs.raft_packed_server.declared.batch.Written.{Written}
use Rattle.proof_requests.specs.raft_packed_server.declared.serving.Serving.{Serving}
use Rattle.proof_requests.specs.raft_packed_server.Represents.{HandsOut}
use Rattle.proof_requests.specs.raft_packed_server.Views.{ServerView}
use Rattle.proof_requests.specs.raft_core.declared.error.FrameError.{FrameError}
use Rattle.proof_requests.specs.raft_core.declared.error.FrameError.TheVariants as errors
use Rattle.proof_requests.specs.raft_core.raft_peers.declared.frame.Frame.{Frame}
use Rattle.proof_requests.specs.raft_core.raft_peers.declared.frame.Frame.TheVariants as frames
use Rattle.proof_requests.specs.raft_core.raft_peers.declared.output.Output.{Output}
use Rattle.proof_requests.specs.raft_core.Calls.{AnswersAfter, Asks, IsRefusal, Proposes, Receives, TakesContent, TakesFrame, Ticks, Writes, WritesNow, appended}
use Rattle.proof_requests.specs.raft_core.Calls.{reply_to}
use Rattle.proof_requests.specs.raft_core.Laws.{IsNotOk, replies_of}
use Rattle.proof_requests.specs.raft_core.Outputs.{lost_replies, overdue_replies, reads_out, replies_out}
use Rattle.proof_requests.specs.raft_core.raft_reads.Reads.{ReadsView, failed_replies, read_replies, refused_left, refused_replies, with_heard}
use Rattle.proof_requests.specs.raft_core.Steps.{IsWithAllTaken, with_steps}
use Rattle.proof_requests.specs.raft_core.Views.{CoreView}
use Rattle.proof_requests.proofs.raft_core_proofs.Told.{before, before_read, behind_read, none_appended, none_asked, none_read}
use Rattle.proof_requests.proofs.raft_core_proofs.Unsaid.{only_releases_tell_ok}
use Rattle.proof_requests.specs.Actions.{Initializes, asking, carried, framed, initialized, proposed, received, released, ticked, written}
use Rattle.raft_cluster.specs.declared.machine.Done.{Done}
use Rattle.raft_cluster.specs.declared.machine.Handed.{Handed}
use Rattle.raft_cluster.specs.declared.machine.Machine.{Machine}
use Rattle.raft_cluster.specs.Calls.{ByFlush, ByWrite, Calls, Refuses, Rests, Stops, with_handed}
use Rattle.raft_cluster.specs.Disks.{bytes_of, flushed}
use Rattle.raft_cluster.specs.Outputs.{AreQuiet, handed_in, others_in}
use Rattle.raft_cluster.specs.Servers.{IsServer}
use Rattle.raft_cluster.proofs.Leaving.{handed_written, others_written, quiet_answers, quiet_granted, quiet_part_reply, quiet_parts, quiet_ticks}
use Rattle.raft_cluster.proofs.Machines.{handed, told}
use Rattle.raft_cluster.proofs.Servers.{Flushed, flushed_too, left, recored, steps_taken, wrote}

module _ {S : Type 0} (app : Application S) (codec : Codec S) where
  -- ---- what leaves before a record is on disk

  module _ (core new : CoreView S) (out : List (Output S)) where
    pub quiet_ticked : Ticks app core out new → AreQuiet codec out
    quiet_ticked t =
        subst (AreQuiet codec) (sym t.answers.leaves) (quiet_ticks codec t.asks replies reads
        (subst (AllByRecursion IsNotOk) (ap replies_of t.answers.leaves ∙ behind_read (map _ t.asks) replies reads (none_asked S t.asks)) ((only_releases_tell_ok app codec).ticks core new out t)))
      where
        replies : List Reply
        replies = overdue_replies t.answers.lost t.upto core.requests

        reads : List Reply
        reads = refused_replies t.answers.gone core.reads ++ failed_replies t.upto (refused_left t.answers.gone core.reads)

    quiet_both : (others : List (Output S)) (rs qs : List Reply) → others ≡ replies_out rs ++ reads_out qs
        → AllByRecursion IsNotOk (replies_of others) → AreQuiet codec others
    quiet_both others rs qs same unsaid =
        subst (AreQuiet codec) (sym same) (quiet_answers codec rs qs (subst (AllByRecursion IsNotOk) (ap replies_of same ∙ before rs (reads_out qs) (none_read S qs)) unsaid))

    pub quiet_received : (bytes : List ℕ) → Receives app codec bytes core out new → AreQuiet codec out
    quiet_received bytes r = go r.0 r.2
      where
        unsaid : AllByRecursion IsNotOk (replies_of out)
        unsaid = (only_releases_tell_ok app codec).receives bytes core new out r

        message : (m : PackedMessage S) (others : List (Output S)) → AllByRecursion IsNotOk (replies_of others)
            → AnswersAfter core.executed core.requests (with_heard m.message core.reads) others new.requests new.reads → AreQuiet codec others
        message m others told a =
            let heard : ReadsView = with_heard m.message core.reads in
            quiet_both others (lost_replies a.lost core.requests)
            (refused_replies a.gone heard ++ read_replies core.executed (refused_left a.gone heard)) a.leaves told

        part : (x : PackedContent (Packed S)) → TakesContent app codec x core out new → AreQuiet codec out
        part (content.Message m) t = message (received_message app m) out unsaid t.answers
        part (content.Part x) (inl k) = subst (AreQuiet codec) (sym k.leaves) (quiet_part_reply codec (reply_to x core k.comes) [] tt)
        part (content.Part x) (inr t) =
            subst (AreQuiet codec) (sym t.leaves)
            (quiet_part_reply codec (reply_to x core t.comes) t.others
            (message (record { message = x.message; brought = t.snapshot }) t.others
            (subst (AllByRecursion IsNotOk) (ap replies_of t.leaves) unsaid) t.takes.answers))

        go : (frame : Frame S) → TakesFrame app codec frame core out new → AreQuiet codec out
        go (frames.Packet p) t = part p.content t
        go (frames.PreVote ask) t = subst (AreQuiet codec) (sym t.leaves) (quiet_granted codec t.replies)
        go (frames.PreVoteReply reply) t = subst (AreQuiet codec) (sym t.leaves) tt
        go (frames.PartReply reply) t =
            ⊎_elim (λ none. subst (AreQuiet codec) (sym none) tt) (λ q. quiet_parts codec core.start q.0 out q.2) t.leaves

    others_now : (w : WritesNow app codec core out new) → others_in out ≡ replies_out w.replies ++ reads_out w.refused
    others_now w = ap others_in w.leaves ∙ others_written S w.replies w.refused w.written

    pub quiet_written : Writes app codec core out new → AreQuiet codec (others_in out)
    quiet_written (inl none) = subst (λ (o : List (Output S)). AreQuiet codec (others_in o)) (sym none.0) tt
    quiet_written (inr w) =
        subst (AreQuiet codec) (sym (others_now w)) (quiet_answers codec w.replies w.refused
        (subst (AllByRecursion IsNotOk) (ap replies_of w.leaves ∙ before_read w.replies w.refused (appended w.written) (none_appended S w.written)) ((only_releases_tell_ok app codec).writes core new out (inr w))))

    -- ---- up to which index entries were handed out

    pub same_initialized : Initializes app core out new → new.executed ≡ core.executed
    same_initialized i = ap (λ (v : CoreView S). v.executed) i.1.rest

    pub same_ticked : Ticks app core out new → new.executed ≡ core.executed
    same_ticked t = ap (λ (v : CoreView S). v.executed) t.rest

    pub same_received : (bytes : List ℕ) → Receives app codec bytes core out new → new.executed ≡ core.executed
    same_received bytes r = go r.0 r.2
      where
        part : (x : PackedContent (Packed S)) → TakesContent app codec x core out new → new.executed ≡ core.executed
        part (content.Message m) t = ap (λ (v : CoreView S). v.executed) t.rest
        part (content.Part x) (inl k) = ap (λ (v : CoreView S). v.executed) k.rest
        part (content.Part x) (inr t) = ap (λ (v : CoreView S). v.executed) t.takes.rest

        go : (frame : Frame S) → TakesFrame app codec frame core out new → new.executed ≡ core.executed
        go (frames.Packet p) t = part p.content t
        go (frames.PartReply reply) t = ap (λ (v : CoreView S). v.executed) t.rest
        go (frames.PreVote ask) t = ap (λ (v : CoreView S). v.executed) t.rest
        go (frames.PreVoteReply reply) t = ap (λ (v : CoreView S). v.executed) t.moved.rest

    pub same_written : Writes app codec core out new → new.executed ≡ core.executed
    same_written (inl none) = ap (λ (v : CoreView S). v.executed) none.1
    same_written (inr w) = ap (λ (v : CoreView S). v.executed) w.rest

  -- ---- the machine still stands for its server, which took the same steps

  same_view : (one other : ServerView S) → other.given ≡ one.given → other.serving ≡ one.serving → other ≡ one
  same_view one other given_same same = λ i. record { given = given_same i; serving = same i }

  module _ (given : Given) (s : PackedServer S) (m : Machine S) (is : IsServer app codec given s m) (core new : CoreView S) (is_open : m.core ≡ Some core) where
    abbrev next : Machine S
    next = record m { core = Some new }

    -- nothing is done at the server
    pub idle : new.server ≡ core.server → new.id ≡ core.id → IsServer app codec given s next
    idle same same_id = recored app codec given s m is core new is_open same same_id

    at_once : (steps : List (PackedStep S)) → IsWithAllTaken app core.server.given steps core.server.serving new.server.serving → new.server.given ≡ core.server.given → new.id ≡ core.id → IsServer app codec given (with_steps app given steps s) next
    at_once steps taken given_same same_id = steps_taken app codec given steps s m core new is is_open taken given_same same_id

    pub is_initialized : (out : List (Output S)) → Initializes app core out new → IsServer app codec given (with_steps app given (initialized app core) s) next
    is_initialized out i = at_once (initialized app core) i.1.takes.taken i.1.takes.given (ap (λ (v : CoreView S). v.id) i.1.rest)

    pub is_ticked : (out : List (Output S)) (t : Ticks app core out new) → IsServer app codec given (with_steps app given (ticked app core out new t) s) next
    is_ticked out t = at_once (ticked app core out new t) t.takes.taken t.takes.given (ap (λ (v : CoreView S). v.id) t.rest)

    is_carried : (out : List (Output S)) (x : PackedContent (Packed S)) (t : TakesContent app codec x core out new)
        → IsServer app codec given (with_steps app given (carried app core out new codec x t) s) next
    is_carried out (content.Message m) t = at_once (carried app core out new codec (content.Message m) t) t.takes.taken t.takes.given (ap (λ (v : CoreView S). v.id) t.rest)
    is_carried out (content.Part x) (inl k) = idle (ap (λ (v : CoreView S). v.server) k.rest) (ap (λ (v : CoreView S). v.id) k.rest)
    is_carried out (content.Part x) (inr t) =
        at_once (carried app core out new codec (content.Part x) (inr t)) t.takes.takes.taken t.takes.takes.given (ap (λ (v : CoreView S). v.id) t.takes.rest)

    is_framed : (out : List (Output S)) (frame : Frame S) (t : TakesFrame app codec frame core out new)
        → IsServer app codec given (with_steps app given (framed app core out new codec frame t) s) next
    is_framed out (frames.Packet p) t = is_carried out p.content t
    is_framed out (frames.PartReply reply) t = idle (ap (λ (v : CoreView S). v.server) t.rest) (ap (λ (v : CoreView S). v.id) t.rest)
    is_framed out (frames.PreVote ask) t = idle (ap (λ (v : CoreView S). v.server) t.rest) (ap (λ (v : CoreView S). v.id) t.rest)
    is_framed out (frames.PreVoteReply reply) t =
        at_once (framed app core out new codec (frames.PreVoteReply reply) t) t.moved.takes.taken t.moved.takes.given (ap (λ (v : CoreView S). v.id) t.moved.rest)

    pub is_received : (bytes : List ℕ) (out : List (Output S)) (r : Receives app codec bytes core out new) → IsServer app codec given (with_steps app given (received app core out new codec bytes r) s) next
    is_received bytes out (frame, has, t) = is_framed out frame t

  -- the records that wait are handed out, if some are
  handing : (given : Given) (s : PackedServer S) (m : Machine S) (core new : CoreView S) (w : Option Written) → IsServer app codec given s m → m.core ≡ Some core
      → HandsOut codec core.server.serving w new.server.serving → new.server.given ≡ core.server.given → new.id ≡ core.id
      → IsServer app codec given s (with_handed (option_map handed w) (record m { core = Some new }))
  handing given s m core new w is is_open out given_same same_id = go w core.server.serving refl out
    where
      go : (w : Option Written) (o : Option (Serving S)) → core.server.serving ≡ o → HandsOut codec o w new.server.serving
          → IsServer app codec given s (with_handed (option_map handed w) (record m { core = Some new }))
      go w None e hands = absurd hands
      go None (Some v) e hands = recored app codec given s m is core new is_open (same_view core.server new.server given_same (hands.1 ∙ sym e)) same_id
      go (Some x) (Some v) e hands =
          wrote app codec given s m is core new x is_open (subst (λ o. HandsOut codec o (Some x) new.server.serving) (sym e) hands) given_same same_id

  module _ (given : Given) (s : PackedServer S) (m : Machine S) (is : IsServer app codec given s m) (core new : CoreView S) (out : List (Output S)) (is_open : m.core ≡ Some core) where
    abbrev after : Machine S
    after = with_handed (handed_in out) (record m { core = Some new })

    steps_both : (xs ys : List (PackedStep S)) (t : PackedServer S) → with_steps app given (xs ++ ys) t ≡ with_steps app given ys (with_steps app given xs t)
    steps_both [] ys t = refl
    steps_both (x ∷ xs) ys t = steps_both xs ys (packed_with_step app given x t)

    -- reads are asked for by a step, and what is proposed is a step of its own
    is_written_now : (w : WritesNow app codec core out new)
        → IsServer app codec given (with_steps app given (asking app core.clock core.id core.server w.reads w.asked new.reads w.asks ++ proposed app core.clock w.asked w.kept w.lost w.server new.requests w.replies w.proposes) s) after
    is_written_now w =
        subst (λ t. IsServer app codec given t after) (sym (steps_both first next s))
        (last (with_steps app given next (with_steps app given first s)) (propose_now (with_steps app given first s) (ask_now w.asks) w.proposes))
      where
        first : List (PackedStep S)
        first = asking app core.clock core.id core.server w.reads w.asked new.reads w.asks

        next : List (PackedStep S)
        next = proposed app core.clock w.asked w.kept w.lost w.server new.requests w.replies w.proposes

        asked_core : CoreView S
        asked_core = record core { server = w.asked }

        proposed_core : CoreView S
        proposed_core = record core { server = w.server }

        given_out : handed_in out ≡ option_map handed w.written
        given_out = ap handed_in w.leaves ∙ handed_written S w.replies w.refused w.written

        last : (t : PackedServer S) → IsServer app codec given t (record m { core = Some (record core { server = w.server }) }) → IsServer app codec given t after
        last t is =
            subst (λ h. IsServer app codec given t (with_handed h (record m { core = Some new }))) (sym given_out)
            (handing given t (record m { core = Some (record core { server = w.server }) }) (record core { server = w.server }) new w.written is refl w.hands_out w.given (ap (λ (v : CoreView S). v.id) w.rest))

        ask_now : (a : Asks app core.clock core.id core.server w.reads w.asked new.reads)
            → IsServer app codec given (with_steps app given (asking app core.clock core.id core.server w.reads w.asked new.reads a) s) (record m { core = Some (record core { server = w.asked }) })
        ask_now (inl none) = recored app codec given s m is core (record core { server = w.asked }) is_open none.0 refl
        ask_now (inr a) =
            steps_taken app codec given (asking app core.clock core.id core.server w.reads w.asked new.reads (inr a)) s m core (record core { server = w.asked }) is is_open a.takes.taken a.takes.given refl

        propose_now : (t : PackedServer S) → IsServer app codec given t (record m { core = Some (record core { server = w.asked }) }) → (p : Proposes app core.clock w.asked w.kept w.lost w.server new.requests w.replies)
            → IsServer app codec given (with_steps app given (proposed app core.clock w.asked w.kept w.lost w.server new.requests w.replies p) t) (record m { core = Some (record core { server = w.server }) })
        propose_now t is (inl nothing_waits) =
            recored app codec given t (record m { core = Some (record core { server = w.asked }) }) is (record core { server = w.asked }) (record core { server = w.server }) refl nothing_waits.1 refl
        propose_now t is (inr (inl all)) =
            recored app codec given t (record m { core = Some (record core { server = w.asked }) }) is (record core { server = w.asked }) (record core { server = w.server }) refl all.1 refl
        propose_now t is (inr (inr (first, is_next, b))) =
            steps_taken app codec given (proposed app core.clock w.asked w.kept w.lost w.server new.requests w.replies (inr (inr (first, is_next, b)))) t (record m { core = Some (record core { server = w.asked }) })
            (record core { server = w.asked }) (record core { server = w.server }) is refl (w.server.serving, (b.takes.taken, refl)) b.takes.given refl

    pub is_written : (w : Writes app codec core out new) → IsServer app codec given (with_steps app given (written app codec core out new w) s) after
    is_written (inl none_now) =
        subst (λ o. IsServer app codec given s (with_handed (handed_in o) (record m { core = Some new }))) (sym none_now.0)
        (recored app codec given s m is core new is_open (ap (λ (v : CoreView S). v.server) none_now.1) (ap (λ (v : CoreView S). v.id) none_now.1))
    is_written (inr now) = is_written_now now

  -- records came on disk
  pub is_released : (given : Given) (s : PackedServer S) (m : Machine S) (is : IsServer app codec given s m) (out : List (Output S)) (n : Machine S) (b : ByFlush app codec m out n) → Flushed app codec given s m is (released b.position b.core) b.does.said n
  is_released given s m is out n b =
      flushed_too app codec given s m is (released b.position b.core) b.does.said n
      (told app codec given (record s { disk = is.disk }) m is.has b.core b.next b.position b.does.said n b.is_open b.end b.does.serves b.does.flushes b.does.released b.does.given (ap (λ (v : CoreView S). v.id) b.does.rest) b.id b.now b.written b.disk b.beside)

  -- the server stops
  pub is_stopped : (given : Given) (s : PackedServer S) (m : Machine S) → IsServer app codec given s m → (out : List (Output S)) (n : Machine S) → Stops m out n → IsServer app codec given s n
  is_stopped given s m is out n stops = left app codec given s m is stops.bytes n stops.id stops.closed stops.written stops.disk

module _ {S : Type 0} where
  -- ---- what a machine's functions do

  pub stops : (m n : Machine S) (out : List (Output S)) → n ≡ record m { core = None; written = None } → out ≡ [] → Stops m out n
  stops m n out becomes none = record {
    none = none;
    id = ap (λ (x : Machine S). x.id) becomes;
    closed = ap (λ (x : Machine S). x.core) becomes;
    written = ap (λ (x : Machine S). x.written) becomes;
    bytes = 0;
    disk = ap (λ (x : Machine S). x.disk.items) becomes ∙ sym (torn_none (bytes_of m.written));
  }
    where
      torn_none : (way : List ℕ) → m.disk.items ++ take 0 way ≡ m.disk.items
      torn_none [] = append-nil m.disk.items
      torn_none (b ∷ way) = append-nil m.disk.items

  pub stops_by : (Does : Machine S → List (Output S) → Machine S → Type 0) (m n : Machine S) (out : List (Output S)) → n ≡ record m { core = None; written = None } → out ≡ [] → Calls Does m out n
  stops_by Does m n out becomes none = inr (inl (stops m n out becomes none))

  pub disk_flushed : (m : Machine S) (items : List ℕ) (w : Handed) → m.written ≡ Some w → items ≡ m.disk.items ++ w.bytes → items ≡ flushed m
  disk_flushed m items w there is = is ∙ ap (λ (o : Option Handed). m.disk.items ++ bytes_of o) (sym there)

  -- once what was handed out is on disk
  pub stops_flushed : (Does : Machine S → List (Output S) → Machine S → Type 0) (m n : Machine S) (w : Handed) (out : List (Output S)) → out ≡ [] → m.written ≡ Some w → n.id ≡ m.id → n.core ≡ None → n.written ≡ None
      → n.disk.items ≡ m.disk.items ++ w.bytes → Calls Does m out n
  stops_flushed Does m n w out none there same_id is_closed none_left items =
      inr (inl (record { none = none; id = same_id; closed = is_closed; written = none_left; bytes = length w.bytes; disk = items ∙ ap (λ bytes. m.disk.items ++ bytes) (sym all) }))
    where
      all : take (length w.bytes) (bytes_of m.written) ≡ w.bytes
      all =
          ap (λ (o : Option Handed). take (length w.bytes) (bytes_of o)) there
          ∙ (ap (take (length w.bytes)) (sym (append-nil w.bytes)) ∙ take_at w.bytes [] (length w.bytes) refl)

  -- the same core is the same machine
  pub unchanged : (m : Machine S) (core new : CoreView S) → m.core ≡ Some core → new ≡ core → ◌≡◌ {A = Machine S} (record m { core = Some new }) m
  unchanged m core new is_open same = ap (λ (o : Option (CoreView S)). let x : Machine S = record m { core = o } in x) (ap (λ (v : CoreView S). Some v) same ∙ sym is_open)

  -- a frame isn't taken, or the server has stopped on it
  module _ (m n : Machine S) (core new : CoreView S) (done : Done S) (is_open : m.core ≡ Some core) where
    still : new ≡ core → n ≡ record m { core = Some new } → done.outputs.items ≡ [] → Rests m done.outputs.items n
    still same becomes empty = (empty, becomes ∙ unchanged m core new is_open same)

    pub refusing : (Does : Machine S → List (Output S) → Machine S → Type 0) (e : FrameError) → (IsRefusal e → new ≡ core) → Refuses e (record m { core = Some new }) done n → Calls Does m done.outputs.items n
    refusing Does (errors.Core e) same r = stops_by Does m n done.outputs.items r.0 r.1
    refusing Does errors.TooLarge same r = inl (still (same tt) r.0 r.1)
    refusing Does (errors.Decode e) same r = inl (still (same tt) r.0 r.1)
    refusing Does (errors.Misdirected to) same r = inl (still (same tt) r.0 r.1)
    refusing Does (errors.Stale term) same r = inl (still (same tt) r.0 r.1)
    refusing Does (errors.TermJump term own) same r = inl (still (same tt) r.0 r.1)
    refusing Does errors.Busy same r = inl (still (same tt) r.0 r.1)

module _ {S : Type 0} (app : Application S) (codec : Codec S) where
  -- what is handed out goes to the machine
  pub handed_out : (m n : Machine S) (core new : CoreView S) (out : List (Output S)) (r : Result (Done S) AllocError) → m.core ≡ Some core → Writes app codec core out new
      → IfOk r (λ done. done.outputs.items ≡ others_in out) → OnOk r (n ≡ with_handed (handed_in out) (record m { core = Some new }))
      → IfOk r (λ done. Calls (ByWrite app codec) m done.outputs.items n)
  handed_out m n core new out (Ok done) is_open w others becomes =
      inr (inr (record { core = core; is_open = is_open; next = new; said = out; does = w; leaves = others; becomes = becomes }))
  handed_out m n core new out (Err e) is_open w others becomes = tt
