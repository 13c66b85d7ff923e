-- Outputs as bytes.
use Rattle.std.specs.Prelude.{ℕ, length, List, [], ◌∷◌, ◌++◌, Option, None, Some}
use Rattle.std.specs.Int.{to_le_bytes, w32, w64}
use Rattle.std.specs.List.{flat_map}
use Rattle.raft_service.specs.declared.output.Output.{Output}
use Rattle.raft_service.specs.declared.output.Output.TheVariants as outputs
use Rattle.service_host.specs.declared.frames.OutputKind.{OutputKind}
use Rattle.service_host.specs.declared.frames.OutputKind.TheVariants.{Send, Append, ToClient, Close, Taken, Status, Error, Opened, NewLog, More}
use Rattle.service_host.specs.declared.frames.OutputKind.TheVariants.{AppendNext, LogPiece, TakenOver}

abbrev pub code_of : OutputKind → ℕ
code_of Send = 1
code_of Append = 2
code_of ToClient = 3
code_of Close = 4
code_of Taken = 5
code_of Status = 6
code_of Error = 7
code_of Opened = 8
code_of NewLog = 9
code_of More = 10
code_of AppendNext = 11
code_of TakenOver = 12
code_of LogPiece = 13

-- its kind, how many bytes its body has, and a number; the lowest byte of a number first
abbrev pub head_of : OutputKind → ℕ → ℕ → List ℕ
head_of kind number count = to_le_bytes w32 (code_of kind) ++ (to_le_bytes w32 count ++ to_le_bytes w64 number)

-- that, and the body
abbrev pub framed : OutputKind → ℕ → List ℕ → List ℕ
framed kind number body = head_of kind number (length body) ++ body

-- bytes for the end of a new log, if one is on its way
abbrev pub next_frame : Option (List ℕ) → List ℕ
next_frame None = []
next_frame (Some bytes) = framed AppendNext 0 bytes

-- a piece of a new log, and where it begins there; nothing if it has no bytes
abbrev pub piece_of : ℕ → List ℕ → List ℕ
piece_of at [] = []
piece_of at (b ∷ bytes) = framed LogPiece at (b ∷ bytes)

abbrev pub frame_of : Output → List ℕ
frame_of (outputs.Send to bytes) = framed Send to bytes
frame_of (outputs.Append bytes end next) = framed Append end bytes ++ next_frame next
frame_of (outputs.ToClient client bytes) = framed ToClient client bytes
frame_of (outputs.Close client) = framed Close client []

-- one behind another
abbrev pub frames : List Output → List ℕ
frames out = flat_map frame_of out
