use Rattle.std.specs.Prelude.{◌≡◌, ◌-◌, List, Option, length, slice_get}
use Rattle.std.specs.Option.{option_or, option_copied}
use Rattle.std.proofs.Common.{ap, ◌∙◌}
use Rattle.cc_entry.specs.Place.{Page}
use Rattle.cc_journal.proofs.ScanSteps.{scans_scan}
use Rattle.cc_journal.proofs.scans.Scans.scanned.Goals as goal

pub returns : goal.returns
returns c past pass all stood =
    let now = c.args.self.now in
    let last : option_copied c.last.result ≡ slice_get c.args.picked.now (length c.args.picked.now - 1) =
    c.last.ensures.value ∙ ap (λ (l : List Page). slice_get l (length l - 1)) c.as_slice.ensures in
    scans_scan past pass c.args.picked.now now.total c.args.total now.cursor c.or-self.result all
    (c.or-self.ensures ∙ ap (λ (o : Option Page). option_or o now.cursor) (c.copied.ensures ∙ last)) stood
