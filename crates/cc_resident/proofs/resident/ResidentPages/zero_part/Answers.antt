use Rattle.std.proofs.Common.{◌≡◌, None, is_some, ap, sym, ◌∙◌}
use Rattle.cc_resident.proofs.Frames.{some_map, none_from}
use Rattle.cc_resident.proofs.Spans.{Zeroes-written, Zeroes-absent}
use Rattle.cc_resident.specs.Residents.{page_bytes_at}
use Rattle.cc_resident.proofs.resident.ResidentPages.zero_part.Goals as goal

pub write_in_page-requires-clause-resident : goal.write_in_page-requires-clause-resident
write_in_page-requires-clause-resident c = ap is_some (sym c.get.ensures.page) ∙ some_map (λ x. x.now) c.get.result ∙ sym c.is_some.ensures ∙ c.if-is_some.true

pub returns-then-is_some-clause-bytes : goal.returns-then-is_some-clause-bytes
returns-then-is_some-clause-bytes c = Zeroes-written c.args.self.now c.write_in_page.new.self 4096 c.args.page c.args.from c.args.to c.requires.order c.requires.within c.write_in_page.ensures.bytes

pub returns-else-is_some-clause-bytes : goal.returns-else-is_some-clause-bytes
returns-else-is_some-clause-bytes c =
    let none : page_bytes_at c.args.self.now c.args.page ≡ None = none_from (page_bytes_at c.args.self.now c.args.page) (ap is_some (sym c.get.ensures.page) ∙ some_map (λ x. x.now) c.get.result ∙ sym c.is_some.ensures ∙ c.if-is_some.false) in
    Zeroes-absent c.args.self.now c.args.page c.args.from c.args.to none c.requires.within
