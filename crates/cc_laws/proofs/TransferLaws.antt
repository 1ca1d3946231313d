-- What a transfer leaves of its page.
use Rattle.std.specs.Prelude.{◌≡◌, ℕ, true, false, List, [], ◌∷◌, refl}
use Rattle.std.specs.declared.option.Option.TheVariants.{Some}
use Rattle.std.proofs.Common.{◌∙◌}
use Rattle.std.proofs.lemmas.Bool.{eq-eqb}
use Rattle.cc_entry.specs.declared.entry.End.{End}
use Rattle.cc_model.specs.History.{Effect, Began, Ended}
use Rattle.cc_model.specs.Sizes.{ended_ok}
use Rattle.cc_model.specs.Touches.{unwritten}
use Rattle.cc_model.specs.Bytes.{page_bytes}
use Rattle.cc_model.specs.Images.{image}
use Rattle.cc_laws.proofs.TouchSteps.{touches-began_written, touches-ended_good}
use Rattle.cc_laws.proofs.ImageSteps.{begun-began_page, image-ended_good}

pub unwritten-transferred : (pass : ℕ) (how : End) (h : List Effect) (p : ℕ) → ended_ok how ≡ true → unwritten (Ended pass p how ∷ Began pass p ∷ h) p ≡ []
unwritten-transferred pass how h p good =
    touches-ended_good false pass p how (Began pass p ∷ h) p (eq-eqb p p refl) good ∙ touches-began_written pass p h p (eq-eqb p p refl)

pub image-transferred : (pages : ℕ → List ℕ) (pass : ℕ) (how : End) (h : List Effect) (p : ℕ) → ended_ok how ≡ true → image pages (Ended pass p how ∷ Began pass p ∷ h) p ≡ Some (page_bytes pages h p)
image-transferred pages pass how h p good =
    image-ended_good pages pass p how (Began pass p ∷ h) h p (eq-eqb p p refl) good (begun-began_page pass p h p (eq-eqb p p refl))
