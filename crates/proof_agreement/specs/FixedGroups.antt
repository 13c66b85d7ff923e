-- Fixed voter groups: no payload is a membership, so the conditions of the machine don't mention memberships, and a log
-- may be cleared down to what is known as committed.
use Rattle.std.specs.Prelude.{ℕ, ◌<◌, ◌≤◌, ◌≡◌, ◌≢◌, Bool, true, false, List, [], ◌∷◌}
use Rattle.proof_agreement.specs.Machine.{World, Setup, Event, Establish, Propose, Clear, Decide, Includes, Grant, AtOrBelow, IsLed, IsMajority, IsMajorityOfEach, Allowed, happens, log_of, leader_log, vote_of, last_leader}

-- one list of groups for all payloads
abbrev pub fixed : {A : Type 0} → List ℕ → List (List ℕ) → (ℕ → ℕ) → A → Setup A
fixed g gs owner first = record { is_membership = λ x. false; first_group = λ x. g; other_groups = λ x. gs; groups_kept = true; owner = owner; first_payload = first }

-- the conditions about groups or `groups_kept`, with the groups put in; the other events keep theirs
pub record MayEstablishFixed {A : Type 0} (g : List ℕ) (gs : List (List ℕ)) (s : Setup A) (w : World A) (d : ℕ) (q : ℕ → Bool) : Type 0 where
  pub positive : 0 < d
  pub vote : vote_of w (s.owner d) ≡ d
  pub not_committed : (w.node (s.owner d)).vote_committed ≡ false
  pub some : 0 < (log_of w (s.owner d)).len
  pub quorum : IsMajority q g × IsMajorityOfEach q gs
  pub each : (n : ℕ) → q n ≡ true → (x : Grant) × Includes w.grants x × (x.node ≡ n) × (x.leader ≡ d) × AtOrBelow x.last x.len (last_leader (log_of w (s.owner d)).at (log_of w (s.owner d)).len) (log_of w (s.owner d)).len

pub record MayClearFixed {A : Type 0} (s : Setup A) (w : World A) (n j d p : ℕ) : Type 0 where
  pub led : IsLed s w n
  pub past : (w.node n).committed ≤ j
  pub shorter : j ≤ (log_of w n).len
  pub low : d ≤ vote_of w n
  pub decided : p < (w.leader d).decided
  pub apart : (log_of w n).at p ≢ (leader_log w d).at p

pub record MayDecideFixed {A : Type 0} (g : List ℕ) (gs : List (List ℕ)) (w : World A) (d c : ℕ) (q : ℕ → Bool) : Type 0 where
  pub established : (w.leader d).established ≡ true
  pub own : (w.leader d).base < c
  pub in_log : c ≤ (leader_log w d).len
  pub quorum : IsMajority q g × IsMajorityOfEach q gs
  pub each : (n : ℕ) → q n ≡ true → c ≤ w.acknowledged n d

abbrev pub FixedAllowed : {A : Type 0} → List ℕ → List (List ℕ) → Setup A → World A → Event A → Type 0
FixedAllowed g gs s w (Establish d q) = MayEstablishFixed g gs s w d q
FixedAllowed g gs s w (Propose d x) = (vote_of w (s.owner d) ≡ d) × ((w.node (s.owner d)).vote_committed ≡ true)
FixedAllowed g gs s w (Clear n j d p) = MayClearFixed s w n j d p
FixedAllowed g gs s w (Decide d c q) = MayDecideFixed g gs w d c q
FixedAllowed g gs s w e = Allowed s w e

abbrev pub AllFixed : {A : Type 0} → List ℕ → List (List ℕ) → Setup A → List (Event A) → World A → Type 0
AllFixed g gs s [] w = Unit {0}
AllFixed g gs s (e ∷ es) w = FixedAllowed g gs s w e × AllFixed g gs s es (happens s w e)
