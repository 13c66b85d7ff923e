-- The slot of a key (Redis Cluster's specification, "Key distribution model", "Hash tags", and appendix A: CRC16/XMODEM).
use Rattle.std.specs.Prelude.{ℕ, zero, suc, ◌+◌, ◌-◌, ◌*◌, ◌%◌, ◌==◌, nat_le, List, fold, take, drop, position, Option, Some, None, if◌then◌else◌}
use Rattle.std.specs.Int.Bits.{bit_xor}

-- a checksum of 16 bits, shifted by one: modulo x^16 + x^12 + x^5 + 1
abbrev pub shifted : ℕ → ℕ
shifted crc = if nat_le 32768 crc then bit_xor ((crc - 32768) * 2) 4129 else crc * 2

abbrev pub shifted_4 : ℕ → ℕ
shifted_4 crc = shifted (shifted (shifted (shifted crc)))

-- with one more byte
unfoldable pub crc_next : ℕ → ℕ → ℕ
crc_next crc byte = shifted_4 (shifted_4 (bit_xor crc (byte * 256)))

unfoldable pub crc16 : List ℕ → ℕ
crc16 bytes = fold crc_next 0 bytes

-- what stands before the first `}`, if it is something, or else the key
abbrev pub tag_before : List ℕ → List ℕ → Option ℕ → List ℕ
tag_before key behind None = key
tag_before key behind (Some zero) = key
tag_before key behind (Some (suc n)) = take (suc n) behind

abbrev pub tag_end : List ℕ → List ℕ → List ℕ
tag_end key behind = tag_before key behind (position (λ b. b == 125) behind)

-- what is hashed: what stands behind the first `{`
abbrev pub tag_behind : List ℕ → Option ℕ → List ℕ
tag_behind key None = key
tag_behind key (Some start) = tag_end key (drop (start + 1) key)

abbrev pub tagged : List ℕ → List ℕ
tagged key = tag_behind key (position (λ b. b == 123) key)

abbrev pub hash_slot : List ℕ → ℕ
hash_slot key = crc16 (tagged key) % 16384
