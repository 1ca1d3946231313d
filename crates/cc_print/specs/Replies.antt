-- Where the first reply of each line stands.
use Rattle.std.specs.Prelude.{ℕ, ◌≡◌, ◌==◌, List, Option, Some, None, slice_get}
use Rattle.std.specs.List.{find}
use Rattle.std.specs.Ordering.{nat_cmp}
use Rattle.std.specs.BTreeMap.{BTreeMap, get}
use Rattle.cc_entry.specs.declared.answer.LineReply.{LineReply}

-- the reply at a place, where there is one
abbrev pub reply_at : List LineReply → Option ℕ → Option LineReply
reply_at replies (Some place) = slice_get replies place
reply_at replies None = None

-- the places lead from each line to its first reply
abbrev pub IsReplyIndex : List LineReply → BTreeMap ℕ ℕ → Type 0
IsReplyIndex replies places = (line : ℕ) → reply_at replies (get nat_cmp places line) ≡ find (λ reply. reply.line == line) replies
