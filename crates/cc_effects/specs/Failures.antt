-- The failures of a stream's disk that a journal shows.
use Rattle.std.specs.Prelude.{ℕ, suc, Bool, false, ◌&&◌, ◌==◌, List, [], ◌∷◌, if◌then◌else◌}
use Rattle.cc_entry.specs.declared.entry.Entry.{Entry}
use Rattle.cc_entry.specs.declared.entry.Entry.TheVariants as entry
use Rattle.cc_model.specs.Faults.{is_failed}

-- whether an entry shows that the disk of the stream failed
abbrev pub is_failure : ℕ → Entry → Bool
is_failure s (entry.FillFailed pass page) = page.stream == s
is_failure s (entry.WriteEnd pass page how) = page.stream == s && is_failed how
is_failure s (entry.Sync pass stream how) = stream == s && is_failed how
is_failure s (entry.Record pass stream size valid how) = stream == s && is_failed how
is_failure s (entry.RecordFailed pass stream) = stream == s
is_failure s other = false

-- how many entries show it
unfoldable pub failures : ℕ → List Entry → ℕ
failures s [] = 0
failures s (e ∷ past) = if is_failure s e then suc (failures s past) else failures s past
