-- A caller's words that were taken out are put back behind its line.
use Rattle.std.proofs.Common.{◌≡◌, ℕ, Bool, refl}
use Rattle.std.proofs.lemmas.List.{set-set}
use Rattle.std.specs.Prelude.{slice_set}
use Rattle.cc_script.specs.declared.script.Action.{Action}
use Rattle.cc_script.specs.declared.reading.Reading.{Reading}
use Rattle.cc_script.specs.declared.caller_words.CallerWords.{CallerWords}
use Rattle.cc_script.specs.Grammar.{words_after, with_action}

pub action_taken : (n caller : ℕ) (fails : Bool) (own left : CallerWords) (a : Action) (r : Reading) → with_action n caller fails own a (record r { words = slice_set r.words caller left }) ≡ with_action n caller fails own a r
unfolding with_action
action_taken n caller fails own left a r = rw (set-set r.words caller left (words_after a own)) refl
