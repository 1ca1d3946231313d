-- The refusal of a restart does not tell that the journal is full, and it leaves nothing, nor does the line of a stream of its log.
use Rattle.std.specs.Prelude.{◌≡◌, ℕ, List, Result, Err}
use Rattle.std.specs.declared.option.Option.{Option}
use Rattle.std.specs.declared.option.Option.TheVariants.{Some}
use Rattle.std.proofs.Common.{refl, subst, sym}
use Rattle.cc_entry.specs.declared.answer.Answer.TheVariants as answer
use Rattle.cc_entry.specs.declared.error.CcError.{CcError}
use Rattle.cc_entry.specs.declared.error.CcError.TheVariants as error
use Rattle.cc_entry.specs.declared.entry.Entry.{Entry}
use Rattle.cc_model.specs.Setup.{Setup}
use Rattle.cc_script.specs.declared.script.StreamLine.{StreamLine}
use Rattle.cc_effects.proofs.Stretches.{idle-none}
use Rattle.cc_turns.specs.Standing.{Standing}
use Rattle.cc_pieces.specs.Openings.{OpeningBehind}
use Rattle.cc_lines.specs.Line.{IsFullTold}
use Rattle.cc_restarts.specs.Restarting.{IsOwnRefusal}
use Rattle.cc_restarts.specs.declared.ended.Numbers.{Numbers}
use Rattle.cc_program.specs.Restarting.{TellsEnd}

pub own-not-full : (w : Standing) (e : CcError) → IsOwnRefusal (Err e) → IsFullTold w (answer.Refused e)
own-not-full w (error.TooLong limit) own = tt
own-not-full w (error.ReadFault page) own = tt
own-not-full w (error.WriteFault page) own = tt
own-not-full w (error.LogFault handle) own = tt
own-not-full w error.NoMemory own = tt
own-not-full w other own = absurd own

pub refused-ends : (u : Setup) (handle : ℕ) (ended : Result Numbers CcError) (e : CcError) (past : List Entry) → ended ≡ Err e → TellsEnd u handle ended (answer.Refused e) past past
refused-ends u handle ended e past is =
    let told : TellsEnd u handle (Err e) (answer.Refused e) past past = (refl, idle-none 0 past) in
    subst (λ r. TellsEnd u handle r (answer.Refused e) past past) (sym is) told

pub refused-opens : (u : Setup) (s : ℕ) (stream : StreamLine) (refused : Option CcError) (e : CcError) (past : List Entry) → refused ≡ Some e → OpeningBehind u s stream refused (answer.Refused e) past past
refused-opens u s stream refused e past is =
    let told : OpeningBehind u s stream (Some e) (answer.Refused e) past past = (refl, idle-none 0 past) in
    subst (λ r. OpeningBehind u s stream r (answer.Refused e) past past) (sym is) told
