-- Which pages can be resident: those of mapped blocks.
use Rattle.std.specs.Prelude.{◌≡◌, ℕ, ◌==◌, Bool, true, false, List, [], refl}
use Rattle.std.specs.declared.option.Option.{Option}
use Rattle.std.specs.List.{list_any}
use Rattle.std.proofs.Common.{sym, ◌∙◌, true≢false}
use Rattle.std.proofs.lemmas.Bool.{eq-eqb}
use Rattle.cc_content.proofs.Found.{Found-any}
use Rattle.cc_entry.specs.Pages.{block_of}
use Rattle.cc_entry.specs.Place.{Range}
use Rattle.cc_laws.proofs.Lists1.{among-any}
use Rattle.cc_model.specs.History.{Effect}
use Rattle.cc_model.specs.Ranges.{span_has}
use Rattle.cc_model.specs.Residency.{residents, is_resident, block_is_mapped}

pub unmapped-out : (h : List Effect) (block p : ℕ) → block_is_mapped h block ≡ false → block_of p ≡ block → is_resident h p ≡ false
unmapped-out h block p unmapped here = go (is_resident h p) refl
  where
    go : (b : Bool) → is_resident h p ≡ b → is_resident h p ≡ false
    go true is = absurd (cc (among-any (λ q. block_of q == block) p (residents h) is (eq-eqb (block_of p) block here), unmapped))
    go false out = out

-- where no page of the span is resident, none of the resident pages is of the span
pub none-resident : (h : List Effect) (span : Option Range) → ((p : ℕ) → span_has span p ≡ true → is_resident h p ≡ false) → list_any (span_has span) (residents h) ≡ false
none-resident h span none = by (list_any (span_has span) (residents h)) refl
  where
    by : (b : Bool) → list_any (span_has span) (residents h) ≡ b → list_any (span_has span) (residents h) ≡ false
    by true some =
        let found = Found-any (span_has span) (residents h) some in
        absurd (true≢false (sym found.among ∙ none found.at found.passes))
    by false is = is

-- no block is mapped of which nothing happened
pub unmapped-first : (block : ℕ) → block_is_mapped [] block ≡ false
unfolding residents
unmapped-first block = refl
