use Rattle.std.proofs.Common.{◌≡◌, ◌++◌, take, string_bytes}
use Rattle.cc_print.specs.Entries.{pages_text}
use Rattle.cc_print.proofs.entry.push_pages.Given as goal

abbrev pub invariant-loop-page : goal.invariant-loop-page
invariant-loop-page l = string_bytes l.text ≡ string_bytes l.initial.text ++ pages_text l.streams (take l.page-index l.pages)
