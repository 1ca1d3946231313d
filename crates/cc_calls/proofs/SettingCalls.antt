-- What a call leaves that sets something of its stream.
use Rattle.std.specs.Prelude.{◌≡◌, ℕ, true, List, Ok}
use Rattle.cc_entry.specs.declared.call.Call.{Call}
use Rattle.cc_entry.specs.declared.call.Call.TheVariants as call
use Rattle.cc_turns.specs.Standing.{Standing}
use Rattle.cc_writes.specs.declared.tell.Returned.{Returned}
use Rattle.cc_calls.specs.Answers.{CallSets, is_setting}
use Rattle.cc_calls.specs.Paged.{CalledAtOnce}
use Rattle.cc_calls.proofs.Replies.{answers_nothing, told-nothing}

nothing-answered : (it : Call) → is_setting it ≡ true → answers_nothing it ≡ true
nothing-answered (call.CopyWrite file at bytes) sets = absurd (cc)
nothing-answered (call.Zero file span) sets = absurd (cc)
nothing-answered other sets = sets

pub set-done : (w v : Standing) (it : Call) (told : Returned) (was now : List ℕ) → is_setting it ≡ true → CalledAtOnce w v it (Ok told) was now → CallSets w v it (Ok tt)
set-done w v it told was now sets c = record {
  left = told-nothing w.setup w.number it c.left.0 w.seen v.seen (nothing-answered it sets) c.good c.left.1;
  full = tt;
  goes_on = c.goes_on;
  good = λ was_good. c.good;
}
