-- Places as contracts see them: a file object, a page of a stream, a range of bytes.
use Rattle.std.specs.Prelude.{ℕ}

-- a file object: its stream and its number among the stream's objects
pub record File : Type 0 where
  pub stream : ℕ
  pub object : ℕ

-- a page: its stream and its number there
pub record Page : Type 0 where
  pub stream : ℕ
  pub page : ℕ

-- the bytes from `from` up to, and without, `to`
pub record Range : Type 0 where
  pub from : ℕ
  pub to : ℕ
