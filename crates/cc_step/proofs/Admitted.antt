-- A call that nothing refuses is admitted to its page steps.
use Rattle.std.specs.Prelude.{◌≡◌, ℕ, true, List, refl}
use Rattle.std.specs.declared.option.Option.TheVariants.{None}
use Rattle.cc_entry.specs.declared.call.Call.{Call}
use Rattle.cc_entry.specs.declared.entry.Entry.{Entry}
use Rattle.cc_effects.specs.Asked.{is_admitted}
use Rattle.cc_laws.proofs.UnrefusedCalls.{step-unrefused}
use Rattle.cc_model.specs.History.{history}
use Rattle.cc_model.specs.Refusals.{refusal}
use Rattle.cc_model.specs.Setup.{Setup}

pub admitted : (u : Setup) (past : List Entry) (s : ℕ) (it : Call) → refusal u past (history past s) it ≡ None → is_admitted it s past ≡ true
admitted u past s it is = rw (step-unrefused u past (history past s) it is) refl
