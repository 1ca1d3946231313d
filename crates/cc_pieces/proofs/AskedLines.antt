-- The lines of a script that pass a test.
use Rattle.std.specs.Prelude.{◌≡◌, false, Bool, List, [], ◌∷◌, refl}
use Rattle.std.specs.List.{AllByRecursion}
use Rattle.cc_entry.specs.declared.answer.LineReply.{LineReply}
use Rattle.cc_script.specs.declared.script.ActionLine.{ActionLine}
use Rattle.cc_pieces.specs.Runs.{asked_of}

-- no line passes a test
pub asked-none : (test : ActionLine → Bool) (lines : List ActionLine) (replies : List LineReply) → AllByRecursion (λ line. test line ≡ false) lines → asked_of test lines replies ≡ []
asked-none test [] replies none = refl
asked-none test (line ∷ lines) [] none = refl
asked-none test (line ∷ lines) (reply ∷ replies) none = rw none.0 (asked-none test lines replies none.1)
