-- The first name is none of the rest, or is one of them.
use Rattle.std.specs.Prelude.{◌-◌, drop, length, string_bytes, take}
use Rattle.std.proofs.Common.{sym, ◌∙◌}
use Rattle.cc_shim.proofs.Naming.{apart-first, first-split, twice-first}
use Rattle.cc_shim.proofs.volume.+all_differ.Goals as goal

pub returns-in-Some : goal.returns-in-Some
returns-in-Some t c =
    let names = first-split c.args.names.now c.first-item.result c.in-len1-up.len_at_least c.first-item.is in
    twice-first string_bytes c.first-item.result c.args.names.now (take (length c.args.names.now - 1) (drop 1 c.args.names.now)) names c.in-Some.field-0
    (rw c.as_str.ensures.value at (sym c.place_of.ensures ∙ c.in-Some.is))

pub returns-in-None : goal.returns-in-None
returns-in-None t c =
    let names = first-split c.args.names.now c.first-item.result c.in-len1-up.len_at_least c.first-item.is in
    apart-first string_bytes c.first-item.result c.args.names.now (take (length c.args.names.now - 1) (drop 1 c.args.names.now)) names c.all_differ.result
    (rw c.as_str.ensures.value at (sym c.place_of.ensures ∙ c.in-None.is)) c.all_differ.ensures
