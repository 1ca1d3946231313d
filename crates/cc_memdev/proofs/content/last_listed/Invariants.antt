use Rattle.std.proofs.Common.{◌≡◌, drop}
use Rattle.cc_traits.specs.Disk.{blank_page, last_content}
use Rattle.cc_memdev.proofs.content.last_listed.Given as goal

abbrev pub invariant-loop-listed : goal.invariant-loop-listed
invariant-loop-listed l =
    last_content (drop l.listed-index l.pages) l.page l.found ≡ last_content l.pages l.page (blank_page l.fill)
