-- What is kept of the calls of each pass: how many have ended, and whether the last owes the end of a noncached write.
use Rattle.std.specs.Prelude.{◌≡◌, ℕ, nat_eq, Bool, false, List, [], ◌∷◌, Option, None, Some, if◌then◌else◌}
use Rattle.std.specs.Map.{lookup}
use Rattle.cc_entry.specs.declared.entry.Entry.{Entry}
use Rattle.cc_entry.specs.declared.entry.Entry.TheVariants as entry
use Rattle.cc_model.specs.Passes.{calls_of, is_store, up_to_call}
use Rattle.cc_journal.specs.declared.calls.PassCalls.{PassCalls}

-- whether the last call of a pass, given the past up to it, is a done noncached store: the end of that write is owed
abbrev pub ends_in_store : List Entry → Bool
ends_in_store [] = false
ends_in_store (entry.Call pass nth stream it ended ∷ past) = is_store it ended
ends_in_store (other ∷ past) = false

abbrev pub owes_store : List Entry → ℕ → Bool
owes_store past me = ends_in_store (up_to_call past me)

-- how many places are reserved for the end of a noncached write of the pass
abbrev pub owed_end : List Entry → ℕ → ℕ
owed_end past me = if owes_store past me then 1 else 0

-- a count, 0 where there is none, and whether an end is owed, which is not so where there is none
abbrev pub call_count : Option PassCalls → ℕ
call_count None = 0
call_count (Some calls) = calls.count

abbrev pub owing : Option PassCalls → Bool
owing None = false
owing (Some calls) = calls.owes

-- the count of a pass, and whether it owes an end
abbrev pub call_count_in : List (ℕ × PassCalls) → ℕ → ℕ
call_count_in counts pass = call_count (lookup (nat_eq pass) counts)

abbrev pub owes_in : List (ℕ × PassCalls) → ℕ → Bool
owes_in counts pass = owing (lookup (nat_eq pass) counts)

-- they are those of a past
pub record CountsCalls (past : List Entry) (counts : List (ℕ × PassCalls)) : Type 0 where
  pub count : (pass : ℕ) → call_count_in counts pass ≡ calls_of past pass
  pub owes : (pass : ℕ) → owes_in counts pass ≡ owes_store past pass
