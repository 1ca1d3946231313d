-- The script of a call is one that the words ask for, so it keeps within what the grammar gives: its streams and its logs are few, and no log is
-- restarted by two lines.
use Rattle.std.specs.Prelude.{◌≡◌, ℕ, zero, suc, ◌==◌, ◌||◌, ◌<◌, Bool, true, false, IfSome, List, [], ◌∷◌, slice_get, refl}
use Rattle.std.specs.List.{AllByRecursion, list_any}
use Rattle.std.specs.declared.option.Option.{Option}
use Rattle.std.specs.declared.option.Option.TheVariants.{Some, None}
use Rattle.std.proofs.Common.{ap, sym, subst, ◌∙◌, arith, inl, inr}
use Rattle.std.proofs.lemmas.Bool.{eq-eqb}
use Rattle.std.proofs.lemmas.Option.{same_Some, slice_get_within}
use Rattle.cc_command.specs.Words.{command_of, mode_in, mode_or_run}
use Rattle.cc_program.specs.Ends.{Input, IsAsked}
use Rattle.cc_program.specs.Calls.{HasClauses, ProgramCall}
use Rattle.cc_script.proofs.Generated.{generated_of_steps, generated_within}
use Rattle.cc_script.proofs.Within.{script-of_mode, script-within}
use Rattle.cc_script.specs.Generator.{generated}
use Rattle.cc_script.specs.Grammar.{has_restart}
use Rattle.cc_script.specs.Modes.{HasRestarts, IsOfMode}
use Rattle.cc_script.specs.Within.{AreRestartsWithin, IsStreamWithin, ScriptIsWithin}
use Rattle.cc_script.specs.declared.script.Mode.{Mode}
use Rattle.cc_script.specs.declared.script.Mode.TheVariants as mode
use Rattle.cc_script.specs.declared.script.RestartLine.{RestartLine}
use Rattle.cc_script.specs.declared.script.Script.{Script}
use Rattle.cc_script.specs.declared.script.StreamLine.{StreamLine}
use Rattle.cc_stop_laws.specs.Redoable.{RestartsOnce}
use Rattle.cc_traits.specs.Disk.{Disk}
use Rattle.cc_traits.specs.Log.{Log}
use Rattle.cc_run_laws.specs.Calls.{IsScriptOf}

-- each item of a row is as all are
item-of : {A : Type 0} (P : A → Type 0) (xs : List A) (n : ℕ) (x : A) → AllByRecursion P xs → slice_get xs n ≡ Some x → P x
item-of P [] n x all at = absurd (cc at)
item-of P (y ∷ ys) zero x all at = subst P (same_Some y x at) all.0
item-of P (y ∷ ys) (suc n) x all at = item-of P ys n x all.1 at

-- ---- a script that the words ask for

pub asked-within : (i : Input) (script : Script) → IsAsked i script → ScriptIsWithin script
asked-within i script (inl read) = script-within (mode_in i.words) read.1.bytes script read.1.spelled
asked-within i script (inr made) = subst ScriptIsWithin (sym made.is) (generated_within made.number)

asked-mode : (i : Input) (script : Script) → IsAsked i script → IsOfMode (mode_in i.words) script
asked-mode i script (inl read) = script-of_mode (mode_in i.words) read.1.bytes script read.1.spelled
asked-mode i script (inr made) =
    subst (λ (m : Mode). IsOfMode m script) (sym (ap mode_or_run made.words)) (subst (IsOfMode mode.Steps) (sym made.is) (generated_of_steps made.number))

-- one that restarts a log is of a run
pub restarts-run : (i : Input) (script : Script) → IsAsked i script → (n : ℕ) (restart : RestartLine) → slice_get script.restarts n ≡ Some restart → mode_in i.words ≡ mode.Run
restarts-run i script asked n restart at = go (mode_in i.words) (asked-mode i script asked).restarts
  where
    go : (m : Mode) → HasRestarts m script.restarts → m ≡ mode.Run
    go mode.Run has = refl
    go mode.Steps has = absurd (let same = ap (λ (l : List RestartLine). slice_get l n) has in cc (same, at))

-- a stream of it is one of the first sixteen, and its log one of the first four
pub stream-below : (script : Script) → ScriptIsWithin script → (s : ℕ) (line : StreamLine) → slice_get script.streams s ≡ Some line → s < 16
stream-below script within s line named = let inside = slice_get_within script.streams s line named in let few = within.few_streams in omega (arith, inside, few)

pub log-below : (script : Script) → ScriptIsWithin script → (s log : ℕ) (line : StreamLine) → slice_get script.streams s ≡ Some line → line.log ≡ Some log → log < 4
log-below script within s log line named logged =
    subst (λ (o : Option ℕ). IfSome o (λ handle. handle < 4)) logged (item-of IsStreamWithin script.streams s line within.streams named).log

-- no other line restarts a log that one does
has-one : (restarts : List RestartLine) (handle n : ℕ) (restart : RestartLine) → slice_get restarts n ≡ Some restart → restart.handle ≡ handle → has_restart handle restarts ≡ true
has-one [] handle n restart at of_it = absurd (cc at)
has-one (first ∷ restarts) handle zero restart at of_it =
    let same : first.handle ≡ handle = ap (λ (r : RestartLine). r.handle) (same_Some first restart at) ∙ of_it in
    ap (λ (b : Bool). b || has_restart handle restarts) (eq-eqb first.handle handle same)
has-one (first ∷ restarts) handle (suc n) restart at of_it = behind (first.handle == handle) (has-one restarts handle n restart at of_it)
  where
    behind : (b : Bool) → has_restart handle restarts ≡ true → (b || has_restart handle restarts) ≡ true
    behind true has = refl
    behind false has = has

clash : {b : Bool} → b ≡ true → b ≡ false → ⊥
clash one other = cc

pub restarts-once : (restarts : List RestartLine) → AreRestartsWithin restarts → (log n : ℕ) (restart : RestartLine) → slice_get restarts n ≡ Some restart → restart.handle ≡ log → RestartsOnce log restarts n
restarts-once [] within log n restart at of_log = absurd (cc at)
restarts-once (first ∷ restarts) within log zero restart at of_log = go
  where
    its : first.handle ≡ log
    its = ap (λ (r : RestartLine). r.handle) (same_Some first restart at) ∙ of_log

    go : RestartsOnce log (first ∷ restarts) zero
    go zero other is same = refl
    go (suc k) other is same = absurd (clash (has-one restarts first.handle k other is (same ∙ sym its)) within.1)
restarts-once (first ∷ restarts) within log (suc n) restart at of_log = go (restarts-once restarts within.2 log n restart at of_log)
  where
    go : RestartsOnce log restarts n → RestartsOnce log (first ∷ restarts) (suc n)
    go once zero other is same =
        let its : first.handle ≡ log = ap (λ (r : RestartLine). r.handle) (same_Some first other is) ∙ same in
        absurd (clash (has-one restarts first.handle n restart at (of_log ∙ sym its)) within.1)
    go once (suc k) other is same = ap suc (once k other is same)

-- ---- that of a call

module _ {D L : Type 0} (told : D → Option Disk) (faults : D → ℕ) (log_told : L → Option Log) (log_faults : L → ℕ) (call : ProgramCall D L) (clauses : HasClauses told faults log_told log_faults call) where
  pub asked-by : (script : Script) → IsScriptOf call.input call.script script → IsAsked call.input script
  asked-by script is = go call.script clauses.asked is
    where
      go : (o : Option Script) → IfSome o (IsAsked call.input) → IsScriptOf call.input o script → IsAsked call.input script
      go (Some ran) asked same = subst (IsAsked call.input) (sym same) asked
      go None asked is = is

  pub asked-run : (script : Script) → call.script ≡ Some script → IsAsked call.input script
  asked-run script ran = subst (λ (o : Option Script). IfSome o (IsAsked call.input)) ran clauses.asked

  pub within-run : (script : Script) → call.script ≡ Some script → ScriptIsWithin script
  within-run script ran = asked-within call.input script (asked-run script ran)
