-- A call that is stepped is answered here.
use Rattle.std.specs.Prelude.{◌≡◌, true, refl}
use Rattle.cc_entry.specs.declared.call.Call.{Call}
use Rattle.cc_entry.specs.declared.call.Call.TheVariants as call
use Rattle.cc_step.specs.Step.{is_answered, is_stepped}

pub stepped-answered : (it : Call) → is_stepped it ≡ true → is_answered it ≡ true
stepped-answered (call.Flush file span) stepped = refl
stepped-answered (call.Purge file span) stepped = refl
stepped-answered (call.NcRead file page) stepped = refl
stepped-answered (call.NcWrite file page) stepped = refl
stepped-answered other stepped = stepped
