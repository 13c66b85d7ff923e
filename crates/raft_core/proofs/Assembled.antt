-- Calls of a server, from those of its parts.
use Rattle.std.proofs.Common.{ℕ, ◌≡◌, ⊎_elim, inl, inr, Bool, true, false, List, [], ◌∷◌, ◌++◌, ◌∙◌, refl, sym, ap, subst, append_assoc, map, Ok}
use Rattle.std.specs.Prelude.{◌≢◌, ◌⊎◌, ◌↔◌, Contains, IsTrue, None, Option, Some}
use Rattle.std.specs.Option.{option_map}
use Rattle.raft_answers.specs.declared.answer.Reply.{Reply}
use Rattle.raft_answers.specs.declared.request.Request.{Request}
use Rattle.raft_answers.specs.Answers.{expired, expired_replies}
use Rattle.raft_answers.specs.Requests.{Open}
use Rattle.raft_calls.specs.declared.message.Message.{Message}
use Rattle.raft_codec.specs.Codec.{Codec}
use Rattle.raft_chunks.specs.Assembled.{Assembled}
use Rattle.raft_chunks.specs.Assembly.{cursor_of, taken}
use Rattle.raft_chunks.specs.Chunks.{Piece}
use Rattle.raft_chunks.specs.declared.cursor.Cursor.{Cursor}
use Rattle.raft_chunks.specs.Form.{opened, piece as chunk}
use Rattle.raft_peers.specs.proof_packed.Nodes.{PackedMessage, PackedRecords}
use Rattle.raft_peers.specs.proof_packed.Stores.{Application, Packed}
use Rattle.raft_peers.specs.proof_packed_servers.Servers.{PackedServer}
use Rattle.raft_peers.specs.raft_packed_wire.declared.packet.SentPart.{SentPart}
use Rattle.raft_peers.specs.raft_packed_server.declared.batch.Written.{Written}
use Rattle.raft_peers.specs.raft_packed_server.declared.error.ServerError.{ServerError}
use Rattle.raft_peers.specs.raft_packed_server.Represents.{Flushes, HandsOut, Represents}
use Rattle.raft_peers.specs.raft_packed_server.Views.{ServerView, released}
use Rattle.raft_peers.specs.declared.output.Output.{Output}
use Rattle.raft_peers.specs.declared.frame.PartReply.{PartReply}
use Rattle.raft_core.specs.Calls.{AnswersAfter, AnswersOverdue, Asks, CompletesSnapshot, GoesOn, KeepsPart, Loses, Proposes, RefusesReads, Releases}
use Rattle.raft_core.specs.Calls.{TakesMessage, WritesNow, appended}
use Rattle.raft_peers.specs.Frames.{answered}
use Rattle.raft_core.specs.Outputs.{reads_out, replies_out, said_outputs, settled_all}
use Rattle.raft_peers.specs.Sends.{Sends}
use Rattle.raft_peers.specs.Parts.{AreParts, IsBefore, IsWhole, Outgoing}
use Rattle.raft_reads.specs.Reads.{ReadsView, failed_left, failed_replies, read_left, read_replies, with_heard, with_left}
use Rattle.raft_core.specs.Outputs.{handed_after}
use Rattle.raft_core.specs.Steps.{TakesSteps, step_taking}
use Rattle.raft_core.specs.Views.{CoreView}

pub untrue : IsTrue false → ⊥
untrue h = cc

-- a test that tells whether requests wait
pub none_waits : (b : Bool) (ws : List Request) → (IsTrue b ↔ (ws ≢ [])) → b ≡ false → ws ≡ []
none_waits b [] tells is = refl
none_waits true (w ∷ ws) tells is = cc
none_waits false (w ∷ ws) tells is = absurd (untrue (tells.1 (λ e. cc)))

module _ {S : Type 0} (app : Application S) (c : Codec S) where
  -- requests and reads are answered, asked for and proposed, and then the records leave
  pub writes_now : (old mid j new : CoreView S) (out : List (Output S)) (s asked : ServerView S) (kept : Open) (reads : ReadsView)
      (lost refused replies : List Reply) (written : Option Written)
      → j ≡ mid → new ≡ record j { server = s } → mid ≡ record old { server = mid.server; requests = mid.requests; reads = mid.reads }
      → Loses old.requests [] kept lost → RefusesReads old.reads [] reads refused → Asks app old.clock old.id old.server reads asked mid.reads
      → Proposes app old.clock asked kept lost mid.server mid.requests replies
      → HandsOut c j.server.serving written s.serving → s.given ≡ j.server.given → ((m : PackedServer S) → Represents app m j.server → Represents app m s)
      → out ≡ replies_out replies ++ (reads_out refused ++ appended written) → WritesNow app c old out new
  writes_now old mid j new out s asked kept reads lost refused replies written same becomes made loses refuses asks proposes hands given
      stays leaves =
      subst (λ (v : CoreView S). WritesNow app c old out v) (sym becomes)
      (subst (λ (v : CoreView S). HandsOut c v.server.serving written s.serving → s.given ≡ v.server.given
      → ((m : PackedServer S) → Represents app m v.server → Represents app m s)
      → WritesNow app c old out (record v { server = s })) (sym same)
      (λ h g t. record {
        kept = kept;
        lost = lost;
        reads = reads;
        refused = refused;
        asked = asked;
        server = mid.server;
        replies = replies;
        written = written;
        loses = loses;
        refuses = refuses;
        asks = asks;
        proposes = proposes;
        hands_out = h;
        given = g;
        stays = t;
        rest = ap (λ (v : CoreView S). record v { server = s }) made;
        leaves = leaves;
      })
      hands given stays)

  -- some of what is prepared, and of what is outgoing, is let go before
  sends_of : (start : ℕ) (messages held mid new : List (PackedMessage S)) (out : List (Output S)) (were was going : List Outgoing)
      → ((m : PackedMessage S) → Contains mid m → Contains held m) → ((o : Outgoing) → Contains was o → Contains were o)
      → Sends app c start messages mid was out new going → Sends app c start messages held were out new going
  sends_of start messages held mid new out were was going waited kept h = record {
    frames = h.frames;
    parts = h.parts;
    waiting = h.waiting;
    sends = record {
      leave = h.sends.leave;
      preparing = λ m there. ⊎_elim (λ before. inl (waited m before)) (λ y. inr y) (h.sends.preparing m there);
    };
    prepares = record {
      preparing = h.prepares.preparing;
      outgoing = λ o there. ⊎_elim (λ before. inl (kept o before)) (λ y. inr y) (h.prepares.outgoing o there);
      leaves = h.prepares.leaves;
    };
    leaves = h.leaves;
  }

  -- records came on disk
  pub releases : (position : ℕ) (old j : CoreView S) (out : List (Output S)) (s : ServerView S) (said : PackedRecords S)
      (frames : List (Output S)) (left : Open)
      (executed : Option ℕ) (reads : ReadsView) (mid new : List (PackedMessage S)) (was going : List Outgoing)
      → j ≡ record old { server = s } → Flushes app {E = ServerError} position old.server (Ok said) s
      → old.server.serving ≢ None → s.serving ≡ option_map (λ v. (released position v).1) old.server.serving → s.given ≡ old.server.given
      → ((m : PackedMessage S) → Contains mid m → Contains j.preparing m) → ((o : Outgoing) → Contains was o → Contains j.outgoing o)
      → Sends app c j.start said.bag mid was frames new going
      → left ≡ settled_all (map (λ x. x.entry) said.executed) j.requests → executed ≡ handed_after said j.executed
      → reads ≡ read_left (handed_after said j.executed) (with_left said.answers j.reads)
      → out ≡ said_outputs frames said j.requests.proposed ++ reads_out (read_replies (handed_after said j.executed) (with_left said.answers j.reads))
      → Releases app c position old out (record j { requests = left; executed = executed; reads = reads; preparing = new; outgoing = going })
  releases position old j out s said frames left executed reads mid new was going same flushes serves done given waited kept sends settles executes
      answers leaves =
      subst (λ (v : CoreView S). ((m : PackedMessage S) → Contains mid m → Contains v.preparing m)
      → ((o : Outgoing) → Contains was o → Contains v.outgoing o)
      → Sends app c v.start said.bag mid was frames new going → left ≡ settled_all (map (λ x. x.entry) said.executed) v.requests
      → executed ≡ handed_after said v.executed
      → reads ≡ read_left (handed_after said v.executed) (with_left said.answers v.reads)
      → out ≡ said_outputs frames said v.requests.proposed ++ reads_out (read_replies (handed_after said v.executed) (with_left said.answers v.reads))
      → Releases app c position old out (record v { requests = left; executed = executed; reads = reads; preparing = new; outgoing = going }))
      (sym same)
      (λ w k b e x a l. record {
        said = said;
        frames = frames;
        flushes = flushes;
        serves = serves;
        released = done;
        given = given;
        sends = sends_of old.start said.bag old.preparing mid new frames old.outgoing was going w k b;
        rest = λ i. record old { server = s; preparing = new; outgoing = going; requests = e i; executed = x i; reads = a i };
        leaves = l;
      })
      waited kept sends settles executes answers leaves

module _ {S : Type 0} where
  -- ---- what is answered, from its parts

  -- after a message
  pub answers_after : (executed : Option ℕ) (old new : Open) (reads mid reads' : ReadsView) (replies refused told : List Reply)
      (out : List (Output S))
      → Loses old [] new replies → RefusesReads reads [] mid refused → reads' ≡ read_left executed mid → told ≡ refused ++ read_replies executed mid
      → out ≡ replies_out replies ++ reads_out told → AnswersAfter executed old reads out new reads'
  answers_after executed old new reads mid reads' replies refused told out loses refuses left tells leaves = record {
    lost = loses.lost;
    gone = refuses.gone;
    requests_left = loses.left;
    reads_left = left ∙ ap (read_left executed) refuses.left;
    leaves = leaves ∙ (λ i. replies_out (loses.tells i) ++ reads_out ((tells ∙ (λ j. refuses.tells j ++ read_replies executed (refuses.left j))) i));
  }

  -- as time goes by
  pub answers_overdue : (upto : ℕ) (old mid new : Open) (reads kept reads' : ReadsView) (lost replies refused told : List Reply)
      (before after : List (Output S))
      → Loses old [] mid lost → new ≡ expired upto mid → replies ≡ lost ++ expired_replies upto mid
      → RefusesReads reads [] kept refused → reads' ≡ failed_left upto kept → told ≡ refused ++ failed_replies upto kept
      → after ≡ (before ++ replies_out replies) ++ reads_out told → AnswersOverdue upto old reads before new reads' after
  answers_overdue upto old mid new reads kept reads' lost replies refused told before after loses expires fails refuses left tells leaves = record {
    lost = loses.lost;
    gone = refuses.gone;
    requests_left = expires ∙ ap (expired upto) loses.left;
    reads_left = left ∙ ap (failed_left upto) refuses.left;
    leaves =
        leaves
        ∙ (append_assoc before (replies_out replies) (reads_out told)
        ∙ (λ i. before ++ (replies_out ((fails ∙ (λ j. loses.tells j ++ expired_replies upto (loses.left j))) i)
        ++ reads_out ((tells ∙ (λ j. refuses.tells j ++ failed_replies upto (refuses.left j))) i))));
  }

-- a message was taken, once its sender was heard
pub takes_message : {S : Type 0} (app : Application S) (m : PackedMessage S) (old j : CoreView S) (out : List (Output S)) (server : ServerView S)
    (requests : Open) (reads : ReadsView)
    → m.message.to ≡ old.id → j ≡ record old { reads = with_heard m.message old.reads }
    → TakesSteps app (step_taking j.clock m ∷ []) j.server server → AnswersAfter j.executed j.requests j.reads out requests reads
    → TakesMessage app m old out (record j { server = server; requests = requests; reads = reads })
takes_message app m old j out server requests reads to same takes answers =
    subst (λ (v : CoreView _). TakesSteps app (step_taking v.clock m ∷ []) v.server server
    → AnswersAfter v.executed v.requests v.reads out requests reads
    → TakesMessage app m old out (record v { server = server; requests = requests; reads = reads })) (sym same)
    (λ t a. record { to = to; takes = t; answers = a; rest = refl }) takes answers

-- ---- parts of snapshots

module _ {S : Type 0} (app : Application S) (c : Codec S) where
  -- a server has answered a part
  pub goes_on : (reply : PartReply) (old j : CoreView S) (front out : List (Output S)) (going : List Outgoing)
      → reply.to ≡ old.id → j ≡ old → front ≡ [] → ((o : Outgoing) → Contains going o → Contains j.outgoing o)
      → (out ≡ front) ⊎ ((o : Outgoing) × (sent : List (Output S)) × Contains j.outgoing o × AreParts c j.start o sent × (out ≡ front ++ sent))
      → GoesOn c reply old out (record j { outgoing = going })
  goes_on reply old j front out going to same none kept leaves =
      subst (λ (v : CoreView S). ((o : Outgoing) → Contains going o → Contains v.outgoing o)
      → (out ≡ front) ⊎ ((o : Outgoing) × (sent : List (Output S)) × Contains v.outgoing o × AreParts c v.start o sent × (out ≡ front ++ sent))
      → GoesOn c reply old out (record v { outgoing = going })) (sym same)
      (λ k l. record {
        to = to;
        rest = refl;
        outgoing = k;
        leaves = ⊎_elim (λ e. inl (e ∙ none))
            (λ p. inr (p.0, p.2, subst (AreParts c old.start p.0) (sym (p.4 ∙ ap (λ (xs : List (Output S)). xs ++ p.1) none)) p.3)) l;
      })
      kept leaves

  module _ (x : SentPart) (old j : CoreView S) (before : Assembled) (p : Piece) (reply : PartReply) (begun : IsBefore p.at.title old.incoming before)
      (reads : opened chunk x.chunk ≡ Ok p) (becomes : j ≡ record old { incoming = (taken before p).1 })
      (tells : reply ≡ record { from = old.id; to = x.message.from; cursor = cursor_of (taken before p).1 p.at.title }) where
    -- a part has come
    pub keeps_part : (out : List (Output S)) → x.message.to ≡ old.id → IsWhole c (taken before p).0 None → out ≡ answered reply ∷ []
        → KeepsPart c x old out j
    keeps_part out to waits leaves = record {
      to = to;
      comes = record { before = before; begun = begun; piece = p; reads = reads };
      waits = waits;
      rest = becomes;
      leaves = leaves ∙ ap (λ (r : PartReply). answered r ∷ []) tells;
    }

    -- and the snapshot is whole with it
    pub completes : (out others : List (Output S)) (new : CoreView S) (snapshot : Packed S) → IsWhole c (taken before p).0 (Some snapshot)
        → TakesMessage app (record { message = x.message; brought = snapshot }) j others new → out ≡ answered reply ∷ others
        → CompletesSnapshot app c x old out new
    completes out others new snapshot is_whole takes leaves = record {
      comes = record { before = before; begun = begun; piece = p; reads = reads };
      snapshot = snapshot;
      whole = is_whole;
      others = others;
      takes = subst (λ (v : CoreView S). TakesMessage app (record { message = x.message; brought = snapshot }) v others new) becomes takes;
      leaves = leaves ∙ ap (λ (r : PartReply). answered r ∷ others) tells;
    }

  -- a chunk was put behind what had come
  module _ (x : SentPart) (m : Message) (old v : CoreView S) (before after : Assembled) (p : Piece) (cur : Cursor) (is : x.message ≡ m)
      (reads : opened chunk x.chunk ≡ Ok p) (same : v ≡ old) (begun : IsBefore p.at.title v.incoming before)
      (puts : after ≡ (taken before p).1) (points : cur ≡ cursor_of after p.at.title) where
    begun_before : IsBefore p.at.title old.incoming before
    begun_before = subst (λ (u : CoreView S). IsBefore p.at.title u.incoming before) same begun

    becomes : record v { incoming = after } ≡ record old { incoming = (taken before p).1 }
    becomes = ap (λ (u : CoreView S). record u { incoming = after }) same ∙ ap (λ (a : Assembled). record old { incoming = a }) puts

    abbrev reply : PartReply
    reply = record { from = v.id; to = m.from; cursor = cur }

    abbrev next : PartReply
    next = record { from = old.id; to = x.message.from; cursor = cursor_of (taken before p).1 p.at.title }

    tells : reply ≡ next
    tells =
        ap (λ (u : CoreView S). record { from = u.id; to = m.from; cursor = cur }) same
        ∙ (ap (λ (y : Message). record { from = old.id; to = y.from; cursor = cur }) (sym is)
        ∙ ap (λ (a : Cursor). record { from = old.id; to = x.message.from; cursor = a })
        (points ∙ ap (λ (a : Assembled). cursor_of a p.at.title) puts))

    pub keeps_chunk : (out : List (Output S)) → m.to ≡ old.id → IsWhole c (taken before p).0 None → out ≡ answered reply ∷ []
        → KeepsPart c x old out (record v { incoming = after })
    keeps_chunk out to waits leaves =
        keeps_part x old (record v { incoming = after }) before p reply begun_before reads becomes tells out
        (ap (λ (y : Message). y.to) is ∙ to) waits
        leaves

    pub completes_chunk : (out others : List (Output S)) (new : CoreView S) (there : Assembled) (snapshot : Packed S)
        → IsWhole c (taken before p).0 (Some snapshot) → there ≡ after
        → TakesMessage app (record { message = m; brought = snapshot }) (record v { incoming = there }) others new
        → out ≡ answered reply ∷ others → CompletesSnapshot app c x old out new
    completes_chunk out others new there snapshot is_whole stays takes leaves =
        completes x old (record v { incoming = after }) before p reply begun_before reads becomes tells out others new snapshot is_whole
        (subst (λ (y : Message). TakesMessage app (record { message = y; brought = snapshot }) (record v { incoming = after }) others new) (sym is)
        (subst (λ (a : Assembled). TakesMessage app (record { message = m; brought = snapshot }) (record v { incoming = a }) others new) stays takes))
        leaves
