-- The codecs of options are inverse to their writers.
use Rattle.std.proofs.Common.{ℕ, ◌≡◌, ◌<◌, eqb, List, ◌++◌, length, Ok, refl, inl, inr, arith}
use Rattle.raft_codec.specs.Codec.{IsCodec, number, pair, tag_at}
use Rattle.raft_codec.specs.CodecLaws.{Stands, bind_ok, chosen, number_is, pair_is, by_parts_is}
use Rattle.raft_codec.specs.VariantLaws.{bare_stands, variant_stands}
use Rattle.raft_machine.specs.declared.command.Condition.{Condition}
use Rattle.raft_machine.specs.declared.command.Condition.TheVariants as conditions
use Rattle.raft_machine.specs.declared.command.ExpireCondition.{ExpireCondition}
use Rattle.raft_machine.specs.declared.command.ExpireCondition.TheVariants as expires
use Rattle.raft_machine.specs.declared.command.Expiry.{Expiry}
use Rattle.raft_machine.specs.declared.command.Expiry.TheVariants.{Never, Keep, At}
use Rattle.raft_machine.specs.declared.command.SetReply.{SetReply}
use Rattle.raft_machine.specs.declared.command.SetReply.TheVariants.{Status, Old, Flag}
use Rattle.raft_request_codec.specs.Options.{condition, expiry, set_reply, set_options, expire_condition}

condition_some : (x : Condition) → 0 < length (condition.bytes x)
unfolding condition
condition_some conditions.Always = omega arith
condition_some conditions.IfAbsent = omega arith
condition_some conditions.IfPresent = omega arith

condition_back : (x : Condition) (rest : List ℕ) → condition.fits x → condition.read (condition.bytes x ++ rest) ≡ Ok (x, rest)
unfolding condition tag_at
condition_back conditions.Always rest h = refl
condition_back conditions.IfAbsent rest h = refl
condition_back conditions.IfPresent rest h = refl

condition_written : (front : List ℕ) (found : Condition × List ℕ) → condition.read front ≡ Ok found → Stands condition front found
unfolding condition
condition_written front found e =
    let t = bind_ok (tag_at front) _ found e in
    elim (chosen (eqb t.0.0 0) _ _ _ t.2) [
      | inl k0 ↦ bare_stands condition front found t.0 0 conditions.Always t.1 k0.0 k0.1 tt refl
      | inr k0 ↦ elim (chosen (eqb t.0.0 1) _ _ _ k0.1) [
        | inl k1 ↦ bare_stands condition front found t.0 1 conditions.IfAbsent t.1 k1.0 k1.1 tt refl
        | inr k1 ↦ elim (chosen (eqb t.0.0 2) _ _ _ k1.1) [
          | inl k2 ↦ bare_stands condition front found t.0 2 conditions.IfPresent t.1 k2.0 k2.1 tt refl
          | inr k2 ↦ absurd cc
        ]
      ]
    ]

pub condition_is : IsCodec condition
condition_is = record { written = condition_written; some = condition_some; read_back = condition_back }

expiry_some : (x : Expiry) → 0 < length (expiry.bytes x)
unfolding expiry
expiry_some Never = omega arith
expiry_some Keep = omega arith
expiry_some (At n) = omega arith

expiry_back : (x : Expiry) (rest : List ℕ) → expiry.fits x → expiry.read (expiry.bytes x ++ rest) ≡ Ok (x, rest)
unfolding expiry tag_at
expiry_back Never rest h = refl
expiry_back Keep rest h = refl
expiry_back (At n) rest h = rw (number_is.read_back n rest h) refl

expiry_written : (front : List ℕ) (found : Expiry × List ℕ) → expiry.read front ≡ Ok found → Stands expiry front found
unfolding expiry
expiry_written front found e =
    let t = bind_ok (tag_at front) _ found e in
    elim (chosen (eqb t.0.0 0) _ _ _ t.2) [
      | inl k0 ↦ bare_stands expiry front found t.0 0 Never t.1 k0.0 k0.1 tt refl
      | inr k0 ↦ elim (chosen (eqb t.0.0 1) _ _ _ k0.1) [
        | inl k1 ↦ bare_stands expiry front found t.0 1 Keep t.1 k1.0 k1.1 tt refl
        | inr k1 ↦ elim (chosen (eqb t.0.0 2) _ _ _ k1.1) [
          | inl k2 ↦ variant_stands expiry front found t.0 2 number number_is At t.1 k2.0 k2.1 (λ x f. f) (λ x. refl)
          | inr k2 ↦ absurd cc
        ]
      ]
    ]

pub expiry_is : IsCodec expiry
expiry_is = record { written = expiry_written; some = expiry_some; read_back = expiry_back }

set_reply_some : (x : SetReply) → 0 < length (set_reply.bytes x)
unfolding set_reply
set_reply_some Status = omega arith
set_reply_some Old = omega arith
set_reply_some Flag = omega arith

set_reply_back : (x : SetReply) (rest : List ℕ) → set_reply.fits x → set_reply.read (set_reply.bytes x ++ rest) ≡ Ok (x, rest)
unfolding set_reply tag_at
set_reply_back Status rest h = refl
set_reply_back Old rest h = refl
set_reply_back Flag rest h = refl

set_reply_written : (front : List ℕ) (found : SetReply × List ℕ) → set_reply.read front ≡ Ok found → Stands set_reply front found
unfolding set_reply
set_reply_written front found e =
    let t = bind_ok (tag_at front) _ found e in
    elim (chosen (eqb t.0.0 0) _ _ _ t.2) [
      | inl k0 ↦ bare_stands set_reply front found t.0 0 Status t.1 k0.0 k0.1 tt refl
      | inr k0 ↦ elim (chosen (eqb t.0.0 1) _ _ _ k0.1) [
        | inl k1 ↦ bare_stands set_reply front found t.0 1 Old t.1 k1.0 k1.1 tt refl
        | inr k1 ↦ elim (chosen (eqb t.0.0 2) _ _ _ k1.1) [
          | inl k2 ↦ bare_stands set_reply front found t.0 2 Flag t.1 k2.0 k2.1 tt refl
          | inr k2 ↦ absurd cc
        ]
      ]
    ]

pub set_reply_is : IsCodec set_reply
set_reply_is = record { written = set_reply_written; some = set_reply_some; read_back = set_reply_back }

pub set_options_is : IsCodec set_options
unfolding set_options
set_options_is = by_parts_is _ _ _ (λ o. refl) (λ p. refl) (pair_is condition (pair expiry set_reply) condition_is (pair_is expiry set_reply expiry_is set_reply_is))

expire_condition_some : (x : ExpireCondition) → 0 < length (expire_condition.bytes x)
unfolding expire_condition
expire_condition_some expires.Always = omega arith
expire_condition_some expires.IfPersistent = omega arith
expire_condition_some expires.IfVolatile = omega arith
expire_condition_some expires.IfLater = omega arith
expire_condition_some expires.IfEarlier = omega arith
expire_condition_some expires.IfVolatileAndEarlier = omega arith

expire_condition_back : (x : ExpireCondition) (rest : List ℕ) → expire_condition.fits x → expire_condition.read (expire_condition.bytes x ++ rest) ≡ Ok (x, rest)
unfolding expire_condition tag_at
expire_condition_back expires.Always rest h = refl
expire_condition_back expires.IfPersistent rest h = refl
expire_condition_back expires.IfVolatile rest h = refl
expire_condition_back expires.IfLater rest h = refl
expire_condition_back expires.IfEarlier rest h = refl
expire_condition_back expires.IfVolatileAndEarlier rest h = refl

expire_condition_written : (front : List ℕ) (found : ExpireCondition × List ℕ) → expire_condition.read front ≡ Ok found → Stands expire_condition front found
unfolding expire_condition
expire_condition_written front found e =
    let t = bind_ok (tag_at front) _ found e in
    elim (chosen (eqb t.0.0 0) _ _ _ t.2) [
      | inl k0 ↦ bare_stands expire_condition front found t.0 0 expires.Always t.1 k0.0 k0.1 tt refl
      | inr k0 ↦ elim (chosen (eqb t.0.0 1) _ _ _ k0.1) [
        | inl k1 ↦ bare_stands expire_condition front found t.0 1 expires.IfPersistent t.1 k1.0 k1.1 tt refl
        | inr k1 ↦ elim (chosen (eqb t.0.0 2) _ _ _ k1.1) [
          | inl k2 ↦ bare_stands expire_condition front found t.0 2 expires.IfVolatile t.1 k2.0 k2.1 tt refl
          | inr k2 ↦ elim (chosen (eqb t.0.0 3) _ _ _ k2.1) [
            | inl k3 ↦ bare_stands expire_condition front found t.0 3 expires.IfLater t.1 k3.0 k3.1 tt refl
            | inr k3 ↦ elim (chosen (eqb t.0.0 4) _ _ _ k3.1) [
              | inl k4 ↦ bare_stands expire_condition front found t.0 4 expires.IfEarlier t.1 k4.0 k4.1 tt refl
              | inr k4 ↦ elim (chosen (eqb t.0.0 5) _ _ _ k4.1) [
                | inl k5 ↦ bare_stands expire_condition front found t.0 5 expires.IfVolatileAndEarlier t.1 k5.0 k5.1 tt refl
                | inr k5 ↦ absurd cc
              ]
            ]
          ]
        ]
      ]
    ]

pub expire_condition_is : IsCodec expire_condition
expire_condition_is = record { written = expire_condition_written; some = expire_condition_some; read_back = expire_condition_back }
