-- The place of a page that is to be written.
use Rattle.std.specs.Prelude.{◌≡◌, ℕ, ◌*◌, ◌^◌, ◌<◌, true, List}
use Rattle.std.specs.declared.option.Option.{Option}
use Rattle.std.specs.declared.option.Option.TheVariants.{Some}
use Rattle.std.specs.Option.{IfSome}
use Rattle.std.proofs.Common.{ap, ◌∙◌, subst, arith}
use Rattle.cc_entry.specs.Place.{Page}
use Rattle.cc_entry.specs.declared.entry.Entry.{Entry}
use Rattle.cc_journal.proofs.DirtyBelow.{dirty-below}
use Rattle.cc_laws.proofs.SafeJournals.{good-safe}
use Rattle.cc_laws.proofs.SoundFacts.{size_of-good}
use Rattle.cc_model.specs.Good.{IsGood}
use Rattle.cc_model.specs.History.{history}
use Rattle.cc_model.specs.Setup.{Setup}
use Rattle.cc_model.specs.Touches.{size_of, is_dirty}
use Rattle.cc_step.proofs.Placed.{so-far}

-- a dirty page has a number
pub numbered : (u : Setup) (past : List Entry) (s p : ℕ) → IsGood u past → is_dirty (history past s) p ≡ true → p < 2 ^ 51
numbered u past s p good dirty =
    let so_far = so-far u past good in
    number (size_of (history past s)) (dirty-below (history past s) p (good-safe u past s so_far) dirty) (size_of-good u past s so_far)
  where
    number : (size : ℕ) → 4096 * p < size → size < 2 ^ 63 → p < 2 ^ 51
    number size below most = omega (arith, below, most)

abbrev page_at : ℕ → ℕ → Page
page_at s p = record { stream = s; page = p }

-- the page at a place
pub same-place : (place : Option Page) (page : Page) (n s p : ℕ) → place ≡ Some page → IfSome place (λ q. q.stream ≡ n) → IfSome place (λ q. q.page ≡ p) → n ≡ s → page ≡ record { stream = s; page = p }
same-place place page n s p is stream number same =
    let at : page.stream ≡ n = subst (λ (o : Option Page). IfSome o (λ q. q.stream ≡ n)) is stream in
    let numbered : page.page ≡ p = subst (λ (o : Option Page). IfSome o (λ q. q.page ≡ p)) is number in
    ap (λ (m : ℕ). page_at m page.page) (at ∙ same) ∙ ap (λ (m : ℕ). page_at s m) numbered
