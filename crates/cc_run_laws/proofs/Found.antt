-- The script that is sure to be found is the one of which a run was made.
use Rattle.std.specs.Prelude.{◌≡◌, ℕ, true, List, Result, Ok, ◌⊎◌}
use Rattle.std.specs.declared.option.Option.{Option}
use Rattle.std.specs.declared.option.Option.TheVariants.{Some, None}
use Rattle.std.proofs.Common.{ap, sym, subst, ◌∙◌, inl, inr, true≢false}
use Rattle.std.proofs.lemmas.List.{append_cancel_left}
use Rattle.cc_entry.specs.declared.answer.LineReply.{LineReply}
use Rattle.cc_entry.specs.declared.entry.Entry.{Entry}
use Rattle.cc_traits.specs.Told.{IfTold}
use Rattle.cc_script.specs.Generator.{generated}
use Rattle.cc_script.specs.Grammar.{script_of}
use Rattle.cc_script.specs.declared.script.Script.{Script}
use Rattle.cc_program.specs.Complete.{Comes, IsFound}
use Rattle.cc_program.specs.Ends.{Input, ProgramOutput, GaveAll, IsAsked, ProgramIsEnded, IsTextPut, SpellsScript, printed_by}
use Rattle.cc_command.specs.NoRun.{status_of}
use Rattle.cc_command.specs.Words.{command_of, is_reading, mode_in, reads_source}
use Rattle.cc_command.specs.declared.no_run.NoRun.{NoRun}
use Rattle.cc_command.specs.declared.no_run.NoRun.TheVariants as no_run
use Rattle.cc_command.specs.declared.words.Command.TheVariants as command

told-same : (left : Option (List ℕ)) (told bytes : List ℕ) → left ≡ Some told → IfTold left (λ l. bytes ≡ l) → bytes ≡ told
told-same None told bytes is all = absurd (cc is)
told-same (Some l) told bytes is all = all ∙ (cc is)

-- all bytes that the source gave are those that come
same-bytes : (i : Input) (bytes given : List ℕ) → (i.left ≡ Some bytes) ⊎ GaveAll i bytes → GaveAll i given → given ≡ bytes
same-bytes i bytes given (inl told) all = told-same i.left bytes given told all.all
same-bytes i bytes given (inr come) all = append_cancel_left i.given given bytes (sym all.gave ∙ come.gave)

spells-is : (i : Input) (bytes : List ℕ) (script : Script) → Comes i bytes → SpellsScript i script → script_of (mode_in i.words) bytes ≡ Ok script
spells-is i bytes script comes w = rw (same-bytes i bytes w.bytes comes.come w.given) at w.spelled

one-script : (r : Result Script ℕ) (a b : Script) → r ≡ Ok a → r ≡ Ok b → a ≡ b
one-script r a b first second = cc (first, second)

reads-no-number : (words : List (List ℕ)) (number : ℕ) → reads_source words ≡ true → command_of words ≡ Some (command.Generate number) → ⊥
reads-no-number words number reads asks = true≢false (sym reads ∙ ap is_reading asks)

one-found : (i : Input) (a b : Script) → IsAsked i a → IsFound i b → a ≡ b
one-found i a b (inl it) (inl found) = one-script _ a b (spells-is i found.bytes a found.comes it.1) found.spelled
one-found i a b (inl it) (inr made) = absurd (reads-no-number i.words made.number it.0.words made.words)
one-found i a b (inr made) (inl found) = absurd (reads-no-number i.words made.number found.comes.words made.words)
one-found i a b (inr first) (inr second) =
    let same : first.number ≡ second.number = cc (first.words, second.words) in
    first.is ∙ ap generated same ∙ sym second.is

no-refusal : (why : NoRun) (status : ℕ) → status ≡ status_of why → status ≡ 0 → ⊥
no-refusal no_run.Usage status is zero = absurd (cc (is, zero))
no-refusal (no_run.Syntax line) status is zero = absurd (cc (is, zero))
no-refusal no_run.ReadFault status is zero = absurd (cc (is, zero))
no-refusal no_run.TooLong status is zero = absurd (cc (is, zero))
no-refusal no_run.NoMemory status is zero = absurd (cc (is, zero))
no-refusal no_run.TooFewDevices status is zero = absurd (cc (is, zero))

-- at status 0 a run was made of it
pub run-of : (i : Input) (o : ProgramOutput) (script : Script) (made : Option Script) (replies : List LineReply) (journal : List Entry) (status : ℕ) → IsFound i script → ProgramIsEnded i o made replies journal status → status ≡ 0 → made ≡ Some script
run-of i o script None replies journal status found ended zero = absurd (no-refusal ended.2.why status ended.2.status_is zero)
run-of i o script (Some one) replies journal status found ended zero = ap (λ (it : Script). Some it) (one-found i one script ended.asked found)

-- and its text was put whole
pub put-of : (i : Input) (o : ProgramOutput) (script : Script) (made : Option Script) (replies : List LineReply) (journal : List Entry) (status : ℕ) → IsFound i script → ProgramIsEnded i o made replies journal status → status ≡ 0 → IsTextPut o (printed_by (command_of i.words) script replies journal)
put-of i o script None replies journal status found ended zero = absurd (no-refusal ended.2.why status ended.2.status_is zero)
put-of i o script (Some one) replies journal status found ended zero =
    let same : one ≡ script = one-found i one script ended.asked found in
    subst (λ (it : Script). IsTextPut o (printed_by (command_of i.words) it replies journal)) same (ended.printed.whole zero)
