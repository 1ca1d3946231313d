use Rattle.std.proofs.Common.{◌∙◌, sym, ap, Some, None}
use Rattle.cc_traits.specs.Disk.{blank_page, last_content}
use Rattle.cc_memdev.proofs.ContentLemmas.{page_of-found}
use Rattle.cc_memdev.proofs.content.Content.page.Goals as goal

pub returns-in-Some : goal.returns-in-Some
returns-in-Some c =
    let i = c.self.inside in
    c.held.ensures ∙ sym (page_of-found c.args.self.now i.fill i.opening.items i.written.entries c.args.page (Some c.in-Some.written.now) c.self.view_is c.self.invariant c.in-Some.ensures.value)

pub returns-in-None : goal.returns-in-None
returns-in-None c =
    let i = c.self.inside in
    c.last_listed.ensures ∙ ap (λ pages. last_content pages c.args.page (blank_page i.fill)) c.deref.ensures.value ∙ sym (page_of-found c.args.self.now i.fill i.opening.items i.written.entries c.args.page None c.self.view_is c.self.invariant c.in-None.ensures.value)
