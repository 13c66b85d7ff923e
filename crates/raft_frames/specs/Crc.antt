-- CRC-32C, bit by bit (RFC 3720, 12.1 and B.4: the polynomial 0x1EDC6F41, reflected, begun with all ones and complemented).
use Rattle.std.specs.Prelude.{ℕ, ◌/◌, ◌%◌, List, bit_xor, nat_eq, if◌then◌else◌}
use Rattle.std.specs.List.{fold}

-- one bit: 0x82F63B78 is the polynomial, its bits in reverse
unfoldable pub bit_step : ℕ → ℕ
bit_step c = if nat_eq (c % 2) 1 then bit_xor (c / 2) 0x82F63B78 else c / 2

-- the eight bits of a zero byte
unfoldable pub shift : ℕ → ℕ
shift c = bit_step (bit_step (bit_step (bit_step (bit_step (bit_step (bit_step (bit_step c)))))))

-- a running sum after bytes
abbrev pub more : ℕ → List ℕ → ℕ
more c bytes = fold (λ sum byte. shift (bit_xor sum byte)) c bytes

-- the sum of bytes behind others that have the sum crc
abbrev pub append : ℕ → List ℕ → ℕ
append crc bytes = bit_xor (more (bit_xor crc 0xFFFFFFFF) bytes) 0xFFFFFFFF

abbrev pub crc32c : List ℕ → ℕ
crc32c bytes = append 0 bytes
