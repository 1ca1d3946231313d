-- What each kind of hold is used for.
use Rattle.std.specs.Prelude.{Bool, true, false}
use Rattle.cc_entry.specs.declared.hold.HoldKind.{HoldKind}
use Rattle.cc_entry.specs.declared.hold.HoldKind.TheVariants as kind

abbrev pub is_map : HoldKind → Bool
is_map kind.Map = true
is_map kind.Pin = false
is_map kind.Repin = false
is_map kind.ReadChain = false
is_map kind.WriteChain = false

abbrev pub is_pin : HoldKind → Bool
is_pin kind.Map = false
is_pin kind.Pin = true
is_pin kind.Repin = false
is_pin kind.ReadChain = false
is_pin kind.WriteChain = false

abbrev pub is_repin : HoldKind → Bool
is_repin kind.Map = false
is_repin kind.Pin = false
is_repin kind.Repin = true
is_repin kind.ReadChain = false
is_repin kind.WriteChain = false

abbrev pub is_read_chain : HoldKind → Bool
is_read_chain kind.Map = false
is_read_chain kind.Pin = false
is_read_chain kind.Repin = false
is_read_chain kind.ReadChain = true
is_read_chain kind.WriteChain = false

abbrev pub is_write_chain : HoldKind → Bool
is_write_chain kind.Map = false
is_write_chain kind.Pin = false
is_write_chain kind.Repin = false
is_write_chain kind.ReadChain = false
is_write_chain kind.WriteChain = true
