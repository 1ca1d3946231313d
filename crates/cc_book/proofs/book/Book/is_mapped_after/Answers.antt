-- By kinds of call: an initialise makes a map, an uninitialise lets it go as the journal says, no other changes it.
use Rattle.std.specs.Prelude.{ℕ, ◌≡◌, ◌∷◌, true, refl}
use Rattle.std.proofs.Common.{ap, sym, subst, ◌∙◌}
use Rattle.cc_entry.specs.declared.call.Call.{Call}
use Rattle.cc_entry.specs.declared.call.Call.TheVariants as call
use Rattle.cc_model.specs.History.{Did, history}
use Rattle.cc_model.specs.Touches.{is_mapped}
use Rattle.cc_laws.proofs.MapSteps.{is_mapped-opens}
use Rattle.cc_book.specs.Book.{BookState, book_of, MayDoOnBook}
use Rattle.cc_book.proofs.DoneSteps.{closes-here, done-may, mapped-kept}
use Rattle.cc_book.proofs.book.Book.is_mapped_after.Goals as goal

pub returns-in-Initialise : goal.returns-in-Initialise
returns-in-Initialise g c u pass reply given =
    let h = history c.args.journal.now.entries c.args.self.now.stream in
    let it = call.Initialise c.in-Initialise.file c.in-Initialise.sizes c.in-Initialise.quota c.in-Initialise.temporary in
    subst (λ (k : Call). true ≡ is_mapped (Did pass k reply ∷ h)) (sym c.in-Initialise.is) (sym (is_mapped-opens pass it reply h refl))

pub returns-in-Uninitialise : goal.returns-in-Uninitialise
returns-in-Uninitialise g c u pass reply given =
    let it = call.Uninitialise c.in-Uninitialise.file c.in-Uninitialise.truncate in
    let may : MayDoOnBook u c.args.journal.now.entries pass it reply c.args.self.now = subst (λ (k : Call). MayDoOnBook u c.args.journal.now.entries pass k reply c.args.self.now) c.in-Uninitialise.is given in
    let told : c.stays_mapped.result ≡ is_mapped (Did pass it reply ∷ history c.args.journal.now.entries c.args.self.now.stream) =
    c.stays_mapped.ensures pass reply ∙ ap (λ (s : ℕ). is_mapped (Did pass it reply ∷ history c.args.journal.now.entries s)) (closes-here may) in
    subst (λ (k : Call). c.stays_mapped.result ≡ is_mapped (Did pass k reply ∷ history c.args.journal.now.entries c.args.self.now.stream)) (sym c.in-Uninitialise.is) told

pub returns-in_default : goal.returns-in_default
returns-in_default g c u pass reply given =
    let b : BookState = book_of c.self.inside.stream c.deref.result.now in
    let view : b ≡ c.args.self.now = ap (book_of c.self.inside.stream) c.deref.ensures ∙ c.self.view_is in
    let may : MayDoOnBook u c.args.journal.now.entries pass c.args.call.now reply b = subst (λ (x : BookState). MayDoOnBook u c.args.journal.now.entries pass c.args.call.now reply x) (sym view) given in
    let h = history c.args.journal.now.entries b.stream in
    let was = c.has_map.ensures.stands (u.opening b.stream) h may.stands.contents_are in
    let kept = mapped-kept c.args.journal.now.entries h pass reply c.args.call.now (done-may may) c.in_default.not-Initialise c.in_default.not-Uninitialise in
    subst (λ (s : ℕ). c.has_map.result ≡ is_mapped (Did pass c.args.call.now reply ∷ history c.args.journal.now.entries s)) (ap (λ x. x.stream) view) (was ∙ kept)
