-- Which calls on a memory device are to fail.
use Rattle.std.specs.Prelude.{ℕ, ◌+◌, ◌-◌, ◌^◌, ◌==◌, min, nat_lt, Bool, false, ◌||◌, List, Option, Some, None}
use Rattle.std.specs.List.{list_any}

-- the calls of one kind: the numbers, from 1, of those that are to fail, and how many were made
pub record CallPlan : Type 0 where
  pub fails : List ℕ
  pub made : ℕ

-- the calls of every kind: after how many of them every call fails, if a stop was asked for, and how
-- many were made
pub record StopPlan : Type 0 where
  pub after : Option ℕ
  pub made : ℕ

-- a count of calls after one more call; it stands still at its end
abbrev pub one_more : ℕ → ℕ
one_more made = min (made + 1) (2 ^ 64 - 1)

-- whether the next call is one of those that are to fail
abbrev pub is_listed : CallPlan → Bool
is_listed plan = list_any (λ n. n == one_more plan.made) plan.fails

abbrev pub plan_after_call : CallPlan → CallPlan
plan_after_call plan = record { fails = plan.fails; made = one_more plan.made }

-- whether the next call comes after the stop
abbrev pub is_past_stop : Option ℕ → ℕ → Bool
is_past_stop None made = false
is_past_stop (Some k) made = nat_lt k made

abbrev pub is_stopped : StopPlan → Bool
is_stopped plan = is_past_stop plan.after (one_more plan.made)

abbrev pub after_any_call : StopPlan → StopPlan
after_any_call plan = record { after = plan.after; made = one_more plan.made }

-- whether the next call of a kind fails: it is listed, or it comes after the stop
abbrev pub fails_next : CallPlan → StopPlan → Bool
fails_next calls stop = is_listed calls || is_stopped stop
