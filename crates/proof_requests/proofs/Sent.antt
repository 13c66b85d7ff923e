-- Frames that leave servers, and what has left the model's.
use Rattle.std.proofs.Common.{ℕ, zero, suc, ◌≡◌, inl, inr, ⊎_elim, List, [], ◌∷◌, ◌++◌, take, map, refl, sym, ap, ◌∙◌, subst, Option, None, Some, append_assoc}
use Rattle.std.specs.Prelude.{◌⊎◌, Contains, Result, Ok, slice_get}
use Rattle.std.specs.List.{AllByRecursion}
use Rattle.std.specs.Option.{option_map, option_to_list}
use Rattle.std.proofs.lemmas.List.Elements.{Contains-append_cases}
use Rattle.raft_calls.specs.declared.message.Message.{Message}
use Rattle.raft_codec.specs.declared.error.DecodeError.{DecodeError}
use Rattle.raft_codec.specs.Codec.{Codec, IsCodec}
use Rattle.raft_node.specs.declared.given.Given.{Given}
use Rattle.raft_store.specs.declared.entry.Entry.{Entry}
use Rattle.raft_answers.specs.declared.answer.Reply.{Reply}
use Rattle.raft_answers.specs.declared.request.Proposal.{Proposal}
use Rattle.raft_answers.specs.Answers.{settled_left, settled_replies}
use Rattle.proof_packed.specs.Nodes.{PackedInstalled, PackedMessage, packed_message}
use Rattle.proof_packed.specs.Stores.{Application, Packed}
use Rattle.raft_core.specs.raft_packed_wire.declared.packet.PackedContent.{PackedContent}
use Rattle.raft_core.specs.raft_packed_wire.declared.packet.PackedContent.TheVariants as content
use Rattle.raft_core.specs.raft_packed_wire.declared.packet.PackedPacket.{PackedPacket}
use Rattle.raft_core.specs.raft_packed_wire.declared.packet.SentMessage.{SentMessage}
use Rattle.raft_core.specs.raft_packed_wire.declared.packet.SentPart.{SentPart}
use Rattle.raft_core.specs.raft_packed_wire.Messages.{packed_packet, received}
use Rattle.raft_core.specs.raft_packed_wire.Values.{kept}
use Rattle.raft_core.proofs.raft_packed_wire_proofs.MessageLaws.{are_read_back}
use Rattle.raft_core.specs.raft_packed_server.declared.batch.Written.{Written}
use Rattle.raft_core.specs.raft_peers.declared.frame.PreVote.{PreVote}
use Rattle.raft_core.specs.raft_peers.declared.frame.PreVoteReply.{PreVoteReply}
use Rattle.raft_core.specs.raft_peers.declared.output.Output.{Output}
use Rattle.raft_core.specs.raft_peers.declared.output.Output.TheVariants as outputs
use Rattle.raft_core.specs.Calls.{appended}
use Rattle.raft_core.specs.raft_peers.declared.frame.PartReply.{PartReply}
use Rattle.raft_core.specs.raft_peers.Frames.{answered as part_answer, asked, granted}
use Rattle.raft_core.specs.Outputs.{executed_outputs, install, reads_out, replies_out}
use Rattle.raft_core.specs.raft_peers.Sends.{IsPreparing, LeaveAll, LeavesWhole, Prepares, Sends, packet_frame, packet_of}
use Rattle.raft_core.specs.raft_peers.Parts.{AreParts, IsPartOf, Outgoing, outgoing_of, part_frame, part_packet}
use Rattle.raft_core.proofs.proof_packed_servers_proofs.Unpacking.{unmapped}
use Rattle.proof_clients.proofs.Sequences.{each_of}
use Rattle.proof_clients.proofs.Slots.{here, there}
use Rattle.proof_deeds.proofs.Promised.{one_of}
use Rattle.proof_servers.specs.Servers.{Action, Flushes, Server, WaitingStep, after_actions, new_cluster}
use Rattle.proof_requests.specs.Actions.{flushes}
use Rattle.proof_requests.specs.Frames.{IsPacket, IsPartPacket, IsSent, frames_of}
use Rattle.proof_requests.specs.Moving.{HasLeft, IsGoing}
use Rattle.proof_requests.specs.Requests.{server_after}
use Rattle.proof_requests.proofs.Left.{bag_more, bag_oldest}
use Rattle.proof_requests.proofs.Lists.{all_append, none_in}
use Rattle.proof_requests.proofs.Moved.{going_of, going_on}
use Rattle.proof_requests.proofs.Packs.{said_all}
use Rattle.proof_requests.proofs.Told.{server_flushed}

module _ {S : Type 0} where
  -- frames among outputs
  pub frames_more : (a b : List (Output S)) → frames_of (a ++ b) ≡ frames_of a ++ frames_of b
  frames_more [] b = refl
  frames_more (outputs.Reply r ∷ a) b = frames_more a b
  frames_more (outputs.Read r ∷ a) b = frames_more a b
  frames_more (outputs.Send to bytes ∷ a) b = ap (λ fs. bytes ∷ fs) (frames_more a b)
  frames_more (outputs.Append bytes end next ∷ a) b = frames_more a b
  frames_more (outputs.Install snapshot ∷ a) b = frames_more a b
  frames_more (outputs.Execute entry ∷ a) b = frames_more a b

  none_installed : (xs : List (PackedInstalled S)) → frames_of (map install xs) ≡ []
  none_installed [] = refl
  none_installed (x ∷ xs) = none_installed xs

  -- two without frames
  none_both : (a b : List (Output S)) → frames_of a ≡ [] → frames_of b ≡ [] → frames_of (a ++ b) ≡ []
  none_both a b front back = frames_more a b ∙ (ap (λ fs. fs ++ frames_of b) front ∙ back)

-- outputs that have no state of the machine
module _ (S : Type 0) where
  pub no_frames : (rs : List Reply) → frames_of {S = S} (replies_out rs) ≡ []
  no_frames [] = refl
  no_frames (r ∷ rs) = no_frames rs

  pub no_read_frames : (rs : List Reply) → frames_of {S = S} (reads_out rs) ≡ []
  no_read_frames [] = refl
  no_read_frames (r ∷ rs) = no_read_frames rs

  -- nor replies with answers to reads behind them
  pub no_told_frames : (rs ys : List Reply) → frames_of {S = S} (replies_out rs ++ reads_out ys) ≡ []
  no_told_frames rs ys = none_both {S = S} (replies_out rs) (reads_out ys) (no_frames rs) (no_read_frames ys)

  none_written : (w : Option Written) → frames_of {S = S} (appended w) ≡ []
  none_written None = refl
  none_written (Some w) = refl

  -- nor what a write lets go
  pub no_written_frames : (rs ys : List Reply) (w : Option Written) → frames_of {S = S} (replies_out rs ++ (reads_out ys ++ appended w)) ≡ []
  no_written_frames rs ys w =
      none_both {S = S} (replies_out rs) (reads_out ys ++ appended w) (no_frames rs)
      (none_both {S = S} (reads_out ys) (appended w) (no_read_frames ys) (none_written w))

  none_executed : (es : List Entry) (ps : List Proposal) → frames_of {S = S} (executed_outputs es ps) ≡ []
  none_executed [] ps = refl
  none_executed (e ∷ es) ps =
      none_both {S = S} (replies_out (settled_replies e.log_id ps)) (executed_outputs es (settled_left e.log_id.index ps))
      (no_frames (settled_replies e.log_id ps)) (none_executed es (settled_left e.log_id.index ps))

module _ {S : Type 0} (app : Application S) (c : Codec S) where
  module _ (bag : List Message) where
    abbrev pub AreSent : List (List ℕ) → Type 0
    AreSent fs = AllByRecursion (IsSent app c bag) fs

    pub none_sent : (out : List (Output S)) → frames_of out ≡ [] → AreSent (frames_of out)
    none_sent out e = subst AreSent (sym e) tt

    -- questions and answers before votes, and replies
    asked_sent : (asks : List PreVote) → AreSent (frames_of {S = S} (map asked asks))
    asked_sent [] = tt
    asked_sent (a ∷ asks) = (inr (inr (λ e. cc)), asked_sent asks)

    pub asks_sent : (asks : List PreVote) (rest : List (Output S)) → frames_of rest ≡ [] → AreSent (frames_of (map asked asks ++ rest))
    asks_sent asks rest e =
        subst AreSent (sym (frames_more (map asked asks) rest))
        (all_append (IsSent app c bag) (frames_of {S = S} (map asked asks)) (frames_of rest) (asked_sent asks) (none_sent rest e))

    -- and in front of what is no frame
    pub sent_before : (a b : List (Output S)) → AreSent (frames_of a) → frames_of b ≡ [] → AreSent (frames_of (a ++ b))
    sent_before a b h e =
        subst AreSent (sym (frames_more a b)) (all_append (IsSent app c bag) (frames_of a) (frames_of b) h (none_sent b e))

    pub granted_sent : (r : Option PreVoteReply) → AreSent (frames_of {S = S} (option_to_list (option_map granted r)))
    granted_sent None = tt
    granted_sent (Some r) = (inr (inr (λ e. cc)), tt)

    -- parts of a snapshot
    parts_sent : (start : ℕ) (o : Outgoing) → IsGoing app c bag o → (out : List (Output S)) → AreParts c start o out → AreSent (frames_of out)
    parts_sent start o g [] h = tt
    parts_sent start o g (x ∷ out) h =
        let one : IsPartPacket app c bag (part_frame c start h.0.part) =
        record { start = start; outgoing = o; going = g; part = h.0.part; is_part = h.0.is_part; fits = h.0.fits; frame = refl } in
        subst (λ (y : Output S). AreSent (frames_of (y ∷ out))) (sym h.0.leaves) (inr (inl one), parts_sent start o g out h.1)

    -- of one that is outgoing, if any leave
    pub went_sent : (start : ℕ) (old : List Outgoing) → AllByRecursion (IsGoing app c bag) old → (out : List (Output S))
        → (out ≡ []) ⊎ ((o : Outgoing) × Contains old o × AreParts c start o out) → AreSent (frames_of out)
    went_sent start old g out (inl none) = none_sent out (ap frames_of none)
    went_sent start old g out (inr (o, there, parts)) = parts_sent start o (one_of (IsGoing app c bag) old o g there) out parts

    pub part_answered : (r : PartReply) (out : List (Output S)) → AreSent (frames_of out) → AreSent (frames_of (part_answer r ∷ out))
    part_answered r out h = (inr (inr (λ e. cc)), h)

    -- a message that the model's steps say, whole or not yet
    one_sent : (start : ℕ) (m : Message) (out : List (Output S)) → Contains bag m
        → LeavesWhole app c start (packed_message app m) out ⊎ IsPreparing app c start (packed_message app m) out → AreSent (frames_of out)
    one_sent start m out left (inl w) =
        let one : IsPacket app c bag (packet_frame c start w.packet) =
        record { start = start; packet = w.packet; message = m; left = left; brings = w.of_message; fits = w.fits; frame = refl } in
        subst (λ (o : List (Output S)). AreSent (frames_of o)) (sym w.leaves) (inl one, tt)
    one_sent start m out left (inr p) = none_sent out (ap frames_of p.leaves)

    messages_sent : (start : ℕ) (ms : List Message) (out : List (Output S)) → LeaveAll app c start (map (packed_message app) ms) out
        → ((m : Message) → Contains ms m → Contains bag m) → AreSent (frames_of out)
    messages_sent start [] out h f = none_sent out (ap frames_of h)
    messages_sent start (m ∷ ms) out (front, rest, is, one, others) f =
        subst (λ (o : List (Output S)). AreSent (frames_of o)) (sym is)
        (subst AreSent (sym (frames_more front rest))
        (all_append (IsSent app c bag) (frames_of front) (frames_of rest) (one_sent start m front (f m (here m ms)) one)
        (messages_sent start ms rest others (λ x k. f x (there m ms x k)))))

    -- parts of a message whose snapshot is encoded, if any leave
    prepared_sent : (start : ℕ) (old new : List (PackedMessage S)) (going going' : List Outgoing) (out : List (Output S))
        → Prepares app c start old going out new going' → ((p : PackedMessage S) → Contains old p → HasLeft app c bag p) → AreSent (frames_of out)
    prepared_sent start old new going going' out p h =
        ⊎_elim (λ none. none_sent out (ap frames_of none))
        (λ one. parts_sent start (outgoing_of c one.0) (going_of app c bag one.0 (h one.0 one.1) one.2.fits) out one.2.parts) p.leaves

    said_left : (ms : List Message) → ((m : Message) → Contains ms m → Contains bag m) → (p : PackedMessage S)
        → Contains (map (packed_message app) ms) p → HasLeft app c bag p
    said_left ms f p there =
        let m : (m : Message) × Contains ms m × (packed_message app m ≡ p) = unmapped (packed_message app) ms p there in
        record { message = m.0; left = f m.0 m.1; is = sym m.2 }

    -- messages, and behind them such parts
    all_sent : (start : ℕ) (ms : List Message) (old new : List (PackedMessage S)) (going going' : List Outgoing) (out : List (Output S))
        → Sends app c start (map (packed_message app) ms) old going out new going' → AllByRecursion (HasLeft app c bag) old
        → ((m : Message) → Contains ms m → Contains bag m) → AreSent (frames_of out)
    all_sent start ms old new going going' out s h f =
        subst (λ (o : List (Output S)). AreSent (frames_of o)) (sym s.leaves)
        (subst AreSent (sym (frames_more s.frames s.parts))
        (all_append (IsSent app c bag) (frames_of s.frames) (frames_of s.parts) (messages_sent start ms s.frames s.sends.leave f)
        (prepared_sent start s.waiting new going going' s.parts s.prepares
        (λ p there. ⊎_elim (λ k. one_of (HasLeft app c bag) old p h k) (λ k. said_left ms f p k) (s.sends.preparing p there)))))

    pub said_sent : (start : ℕ) (ms : List Message) (old new : List (PackedMessage S)) (going going' : List Outgoing) (frames : List (Output S))
        (xs : List (PackedInstalled S)) (es : List Entry) (ps : List Proposal)
        → Sends app c start (map (packed_message app) ms) old going frames new going' → AllByRecursion (HasLeft app c bag) old
        → ((m : Message) → Contains ms m → Contains bag m) → AreSent (frames_of (frames ++ (map install xs ++ executed_outputs es ps)))
    said_sent start ms old new going going' frames xs es ps s h f =
        let rest : frames_of (map install xs ++ executed_outputs es ps) ≡ [] =
        none_both (map install xs) (executed_outputs es ps) (none_installed xs) (none_executed S es ps) in
        sent_before frames (map install xs ++ executed_outputs es ps) (all_sent start ms old new going going' frames s h f) rest

  -- what was sent stays so
  pub sent_on : (bag more : List Message) → ((m : Message) → Contains bag m → Contains more m) → (bytes : List ℕ) → IsSent app c bag bytes
      → IsSent app c more bytes
  sent_on bag more f bytes (inl p) = inl (record {
    start = p.start;
    packet = p.packet;
    message = p.message;
    left = f p.message p.left;
    brings = p.brings;
    fits = p.fits;
    frame = p.frame;
  })
  sent_on bag more f bytes (inr (inl p)) = inr (inl (record {
    start = p.start;
    outgoing = p.outgoing;
    going = going_on app c bag more f p.outgoing p.going;
    part = p.part;
    is_part = p.is_part;
    fits = p.fits;
    frame = p.frame;
  }))
  sent_on bag more f bytes (inr (inr d)) = inr (inr d)

  -- the message of a packet that was sent has left a server
  module _ (inverse : IsCodec c) where
    abbrev packet : Codec (PackedPacket (Packed S))
    packet = packed_packet (kept c)

    back : IsCodec packet
    back = (are_read_back c inverse).packets

    ok_same : (x y : PackedPacket (Packed S)) (a b : List ℕ)
        → ◌≡◌ {A = Result (PackedPacket (Packed S) × List ℕ) DecodeError} (Ok (x, a)) (Ok (y, b)) → x ≡ y
    ok_same x y a b e =
        let z : ◌≡◌ {A = PackedPacket (Packed S) × List ℕ} (x, a) (y, b) = cc in ap (λ (p : PackedPacket (Packed S) × List ℕ). p.0) z

    packet_same : (x y : PackedPacket (Packed S)) → packet.fits x → packet.fits y → packet.bytes x ≡ packet.bytes y → x ≡ y
    packet_same x y f g e =
        ok_same x y [] [] (sym (back.read_back x [] f) ∙ (ap (λ bytes. packet.read (bytes ++ [])) e ∙ back.read_back y [] g))

    tail_same : (a b : List ℕ) → ◌≡◌ {A = List ℕ} (0 ∷ a) (0 ∷ b) → a ≡ b
    tail_same a b e = cc

    frame_same : (x y : PackedPacket (Packed S)) → packet.fits x → packet.fits y → ◌≡◌ {A = List ℕ} (0 ∷ packet.bytes x) (0 ∷ packet.bytes y) → x ≡ y
    frame_same x y f g e = packet_same x y f g (tail_same (packet.bytes x) (packet.bytes y) e)

    pub taken_sent : (bag : List Message) (bytes : List ℕ) (p : PackedPacket (Packed S)) (m : SentMessage (Packed S)) → IsSent app c bag bytes
        → packet.fits p → bytes ≡ 0 ∷ packet.bytes p → p.content ≡ content.Message m
        → (x : Message) × Contains bag x × (packed_message app x ≡ received app m)
    taken_sent bag bytes p m (inl s) f q r =
        let is : packet_of s.start s.packet ≡ p = frame_same (packet_of s.start s.packet) p s.fits f (sym s.frame ∙ q) in
        let message_is : s.packet ≡ m = message_same s.packet m (ap (λ (x : PackedPacket (Packed S)). x.content) is ∙ r) in
        (s.message, s.left, sym s.brings ∙ ap (received app) message_is)
      where
        message_same : (a b : SentMessage (Packed S)) → ◌≡◌ {A = PackedContent (Packed S)} (content.Message a) (content.Message b) → a ≡ b
        message_same a b e = cc
    taken_sent bag bytes p m (inr (inl s)) f q r =
        let is : part_packet c s.start s.part ≡ p = frame_same (part_packet c s.start s.part) p s.fits f (sym s.frame ∙ q) in
        absurd (no_message s.part m (ap (λ (x : PackedPacket (Packed S)). x.content) is ∙ r))
      where
        no_message : (a : SentPart) (b : SentMessage (Packed S)) → ◌≡◌ {A = PackedContent (Packed S)} (content.Part a) (content.Message b) → ⊥
        no_message a b e = cc
    taken_sent bag bytes p m (inr (inr d)) f q r = absurd (d (ap (λ (xs : List ℕ). slice_get xs 0) q))

    -- a part that was sent is one of the snapshot of a message that has left a server
    pub part_sent : (bag : List Message) (bytes : List ℕ) (p : PackedPacket (Packed S)) (x : SentPart) → IsSent app c bag bytes
        → packet.fits p → bytes ≡ 0 ∷ packet.bytes p → p.content ≡ content.Part x → (o : Outgoing) × IsGoing app c bag o × IsPartOf o x
    part_sent bag bytes p x (inl s) f q r =
        let is : packet_of s.start s.packet ≡ p = frame_same (packet_of s.start s.packet) p s.fits f (sym s.frame ∙ q) in
        absurd (no_part s.packet x (ap (λ (y : PackedPacket (Packed S)). y.content) is ∙ r))
      where
        no_part : (a : SentMessage (Packed S)) (b : SentPart) → ◌≡◌ {A = PackedContent (Packed S)} (content.Message a) (content.Part b) → ⊥
        no_part a b e = cc
    part_sent bag bytes p x (inr (inl s)) f q r =
        let is : part_packet c s.start s.part ≡ p = frame_same (part_packet c s.start s.part) p s.fits f (sym s.frame ∙ q) in
        (s.outgoing, s.going, subst (IsPartOf s.outgoing) (part_same s.part x (ap (λ (y : PackedPacket (Packed S)). y.content) is ∙ r)) s.is_part)
      where
        part_same : (a b : SentPart) → ◌≡◌ {A = PackedContent (Packed S)} (content.Part a) (content.Part b) → a ≡ b
        part_same a b e = cc
    part_sent bag bytes p x (inr (inr d)) f q r = absurd (d (ap (λ (xs : List ℕ). slice_get xs 0) q))

-- what was sent stays so after more actions
pub still_sent : {S : Type 0} (app : Application S) (codec : Codec S) (given : Given) (actions took : List Action) (fs : List (List ℕ))
    → AllByRecursion (IsSent app codec (after_actions given actions (new_cluster given)).released.bag) fs
    → AllByRecursion (IsSent app codec (after_actions given (actions ++ took) (new_cluster given)).released.bag) fs
still_sent app codec given actions took fs a =
    each_of (IsSent app codec (after_actions given actions (new_cluster given)).released.bag)
    (IsSent app codec (after_actions given (actions ++ took) (new_cluster given)).released.bag)
    (λ bytes z. sent_on app codec (after_actions given actions (new_cluster given)).released.bag
    (after_actions given (actions ++ took) (new_cluster given)).released.bag (λ m c. bag_more given actions took m c) bytes z) fs a

-- What so many flushes say has left then
module _ (given : Given) where
  pub bag_said : (k : ℕ) (actions : List Action) (id : ℕ) (m : Message) → Contains (said_all (take k (server_after given actions id).waiting)).bag m
      → Contains (after_actions given (actions ++ flushes id k) (new_cluster given)).released.bag m
  bag_said zero actions id m c = go (server_after given actions id).waiting c
    where
      go : (xs : List WaitingStep) → Contains (said_all (take 0 xs)).bag m
          → Contains (after_actions given (actions ++ flushes id 0) (new_cluster given)).released.bag m
      go [] d = absurd (none_in m d)
      go (x ∷ xs) d = absurd (none_in m d)
  bag_said (suc k) actions id m c = go (server_after given actions id).waiting refl c (λ a d. bag_said k a id m d)
    where
      split : actions ++ flushes id (suc k) ≡ (actions ++ Flushes id ∷ []) ++ flushes id k
      split = sym (append_assoc actions (Flushes id ∷ []) (flushes id k))

      waits_now : (w : WaitingStep) (ws : List WaitingStep) → (server_after given actions id).waiting ≡ w ∷ ws → (server_after given (actions ++ Flushes id ∷ []) id).waiting ≡ ws
      waits_now w ws q = ap (λ (s : Server). s.waiting) (server_flushed given actions id w ws q)

      go : (xs : List WaitingStep) → (server_after given actions id).waiting ≡ xs → Contains (said_all (take (suc k) xs)).bag m
          → ((a : List Action) → Contains (said_all (take k (server_after given a id).waiting)).bag m
          → Contains (after_actions given (a ++ flushes id k) (new_cluster given)).released.bag m)
          → Contains (after_actions given (actions ++ flushes id (suc k)) (new_cluster given)).released.bag m
      go [] q d rest = absurd (none_in m d)
      go (w ∷ ws) q d rest =
          subst (λ xs. Contains (after_actions given xs (new_cluster given)).released.bag m) (sym split)
          (⊎_elim
          (λ e. bag_more given (actions ++ Flushes id ∷ []) (flushes id k) m (bag_oldest given actions id w ws q m e))
          (λ e. rest (actions ++ Flushes id ∷ []) (subst (λ xs. Contains (said_all (take k xs)).bag m) (sym (waits_now w ws q)) e))
          (Contains-append_cases w.outputs.bag (said_all (take k ws)).bag m d))
