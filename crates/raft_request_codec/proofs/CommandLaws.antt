-- The codec of commands is inverse to its writer.
use Rattle.std.proofs.Common.{ℕ, ◌≡◌, ◌<◌, eqb, List, ◌++◌, length, Ok, refl, inl, inr, arith}
use Rattle.raft_codec.specs.Codec.{IsCodec, number, raw, optional, list, pair, tag_at}
use Rattle.raft_codec.specs.CodecLaws.{Stands, bind_ok, chosen, number_is, raw_is, optional_is, list_is, pair_is}
use Rattle.raft_codec.specs.VariantLaws.{variant_stands}
use Rattle.raft_machine.specs.declared.command.Command.{Command}
use Rattle.raft_machine.specs.declared.command.Command.TheVariants.{Read, Set, SetMany, CompareAndSet, Append, Increment, Delete, Take, Expire, Persist}
use Rattle.raft_machine.specs.Bytes.{signed}
use Rattle.raft_machine.specs.BytesLaws.{signed_is}
use Rattle.raft_request_codec.specs.Options.{set_options, expire_condition}
use Rattle.raft_request_codec.specs.Queries.{query, keys}
use Rattle.raft_request_codec.specs.Commands.{key_value, set_fields, compare_fields, increment_fields, expire_fields, command}
use Rattle.raft_request_codec.proofs.OptionLaws.{set_options_is, expire_condition_is}
use Rattle.raft_request_codec.proofs.QueryLaws.{query_is, keys_is}

key_value_is : IsCodec key_value
unfolding key_value
key_value_is = pair_is raw raw raw_is raw_is

pairs_is : IsCodec (list key_value)
pairs_is = list_is key_value key_value_is

set_fields_is : IsCodec set_fields
unfolding set_fields
set_fields_is = pair_is raw (pair raw set_options) raw_is (pair_is raw set_options raw_is set_options_is)

compare_fields_is : IsCodec compare_fields
unfolding compare_fields
compare_fields_is = pair_is raw (pair (optional raw) raw) raw_is (pair_is (optional raw) raw (optional_is raw raw_is) raw_is)

increment_fields_is : IsCodec increment_fields
unfolding increment_fields
increment_fields_is = pair_is raw signed raw_is signed_is

expire_fields_is : IsCodec expire_fields
unfolding expire_fields
expire_fields_is = pair_is raw (pair number expire_condition) raw_is (pair_is number expire_condition number_is expire_condition_is)

command_some : (x : Command) → 0 < length (command.bytes x)
unfolding command
command_some (Read q) = omega arith
command_some (Set k v o) = omega arith
command_some (SetMany ps) = omega arith
command_some (CompareAndSet k e v) = omega arith
command_some (Append k v) = omega arith
command_some (Increment k n) = omega arith
command_some (Delete ks) = omega arith
command_some (Take k) = omega arith
command_some (Expire k t c) = omega arith
command_some (Persist k) = omega arith

command_back : (x : Command) (rest : List ℕ) → command.fits x → command.read (command.bytes x ++ rest) ≡ Ok (x, rest)
unfolding command tag_at
command_back (Read q) rest h = rw (query_is.read_back q rest h) refl
command_back (Set k v o) rest h = rw (set_fields_is.read_back (k, (v, o)) rest h) refl
command_back (SetMany ps) rest h = rw (pairs_is.read_back ps rest h) refl
command_back (CompareAndSet k e v) rest h = rw (compare_fields_is.read_back (k, (e, v)) rest h) refl
command_back (Append k v) rest h = rw (key_value_is.read_back (k, v) rest h) refl
command_back (Increment k n) rest h = rw (increment_fields_is.read_back (k, n) rest h) refl
command_back (Delete ks) rest h = rw (keys_is.read_back ks rest h) refl
command_back (Take k) rest h = rw (raw_is.read_back k rest h) refl
command_back (Expire k t c) rest h = rw (expire_fields_is.read_back (k, (t, c)) rest h) refl
command_back (Persist k) rest h = rw (raw_is.read_back k rest h) refl

command_written : (front : List ℕ) (found : Command × List ℕ) → command.read front ≡ Ok found → Stands command front found
unfolding command
command_written front found e =
    let t = bind_ok (tag_at front) _ found e in
    elim (chosen (eqb t.0.0 0) _ _ _ t.2) [
      | inl k0 ↦ variant_stands command front found t.0 0 query query_is Read t.1 k0.0 k0.1 (λ x f. f) (λ x. refl)
      | inr k0 ↦ elim (chosen (eqb t.0.0 1) _ _ _ k0.1) [
        | inl k1 ↦ variant_stands command front found t.0 1 set_fields set_fields_is (λ x. Set x.0 x.1.0 x.1.1) t.1 k1.0 k1.1 (λ x f. f) (λ x. refl)
        | inr k1 ↦ elim (chosen (eqb t.0.0 2) _ _ _ k1.1) [
          | inl k2 ↦ variant_stands command front found t.0 2 (list key_value) pairs_is SetMany t.1 k2.0 k2.1 (λ x f. f) (λ x. refl)
          | inr k2 ↦ elim (chosen (eqb t.0.0 3) _ _ _ k2.1) [
            | inl k3 ↦ variant_stands command front found t.0 3 compare_fields compare_fields_is (λ x. CompareAndSet x.0 x.1.0 x.1.1) t.1 k3.0 k3.1 (λ x f. f) (λ x. refl)
            | inr k3 ↦ elim (chosen (eqb t.0.0 4) _ _ _ k3.1) [
              | inl k4 ↦ variant_stands command front found t.0 4 key_value key_value_is (λ x. Append x.0 x.1) t.1 k4.0 k4.1 (λ x f. f) (λ x. refl)
              | inr k4 ↦ elim (chosen (eqb t.0.0 5) _ _ _ k4.1) [
                | inl k5 ↦ variant_stands command front found t.0 5 increment_fields increment_fields_is (λ x. Increment x.0 x.1) t.1 k5.0 k5.1 (λ x f. f) (λ x. refl)
                | inr k5 ↦ elim (chosen (eqb t.0.0 6) _ _ _ k5.1) [
                  | inl k6 ↦ variant_stands command front found t.0 6 keys keys_is Delete t.1 k6.0 k6.1 (λ x f. f) (λ x. refl)
                  | inr k6 ↦ elim (chosen (eqb t.0.0 7) _ _ _ k6.1) [
                    | inl k7 ↦ variant_stands command front found t.0 7 raw raw_is Take t.1 k7.0 k7.1 (λ x f. f) (λ x. refl)
                    | inr k7 ↦ elim (chosen (eqb t.0.0 8) _ _ _ k7.1) [
                      | inl k8 ↦ variant_stands command front found t.0 8 expire_fields expire_fields_is (λ x. Expire x.0 x.1.0 x.1.1) t.1 k8.0 k8.1 (λ x f. f) (λ x. refl)
                      | inr k8 ↦ elim (chosen (eqb t.0.0 9) _ _ _ k8.1) [
                        | inl k9 ↦ variant_stands command front found t.0 9 raw raw_is Persist t.1 k9.0 k9.1 (λ x f. f) (λ x. refl)
                        | inr k9 ↦ absurd cc
                      ]
                    ]
                  ]
                ]
              ]
            ]
          ]
        ]
      ]
    ]

pub command_is : IsCodec command
command_is = record { written = command_written; some = command_some; read_back = command_back }
