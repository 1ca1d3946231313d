-- What a call names: a file, or a hold, or nothing.
use Rattle.std.specs.Prelude.{◌≡◌, true, false, List}
use Rattle.std.specs.declared.option.Option.TheVariants.{Some, None}
use Rattle.cc_entry.specs.declared.call.Call.{Call}
use Rattle.cc_entry.specs.declared.entry.Entry.{Entry}
use Rattle.cc_model.specs.Acts.{file_of}
use Rattle.cc_world.specs.Filing.{is_unfiled}
use Rattle.cc_effects.specs.Events.{filed_under, holder_of}
use Rattle.cc_world.specs.declared.filing.Named.{Named}
use Rattle.cc_world.specs.declared.filing.Named.TheVariants as named

-- A call that names a file is filed under its stream, and one that names a hold where it is open. One that names nothing is
-- filed under none.
abbrev pub CallIsNamed : Call → Named → Type 0
CallIsNamed it (named.File file) = (file_of it ≡ Some file) × ((past : List Entry) → filed_under past it ≡ Some file.stream)
CallIsNamed it (named.Hold hold) =
    (is_unfiled it ≡ false) × (file_of it ≡ None) × ((past : List Entry) → filed_under past it ≡ holder_of past hold)
CallIsNamed it named.Nothing = (is_unfiled it ≡ true) × ((past : List Entry) → filed_under past it ≡ None)
