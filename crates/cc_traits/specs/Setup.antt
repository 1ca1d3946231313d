-- How much room a journal has.
use Rattle.std.specs.Prelude.{ℕ, ◌^◌}
use Rattle.cc_traits.specs.declared.setup.JournalKind.{JournalKind}
use Rattle.cc_traits.specs.declared.setup.JournalKind.TheVariants as kind

-- how many entries a journal has room for: fewer than 2 ^ 32 where it keeps all of them
abbrev pub capacity_of : JournalKind → ℕ
capacity_of (kind.Recorded entries) = entries
capacity_of kind.Unrecorded = 2 ^ 63
