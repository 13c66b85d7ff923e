-- What a receiver has.
use Rattle.std.specs.Prelude.{ℕ, List}
use Rattle.raft_chunks.specs.declared.cursor.Title.{Title}

-- how many entries the last snapshot stands for that was handed out, or was there before; the snapshot that has begun, and its bytes so far
pub record Assembled : Type 0 where
  pub held : ℕ
  pub title : Title
  pub bytes : List ℕ
