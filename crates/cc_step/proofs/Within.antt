-- The range of a call that nothing refuses lies below the size.
use Rattle.std.specs.Prelude.{◌≡◌, ℕ, ◌+◌, Bool, true, false, nat_lt, min, None, refl}
use Rattle.std.proofs.Common.{ap, arith}
use Rattle.std.proofs.lemmas.Bool.{ltb-false}
use Rattle.cc_entry.specs.Pages.{whole_range}
use Rattle.cc_entry.specs.declared.error.CcError.TheVariants as error
use Rattle.cc_model.specs.Ranges.{cut_range}
use Rattle.cc_model.specs.Reasons.{refuse_if, past_size}

unbarred : (b : Bool) (size : ℕ) → refuse_if b (error.BeyondSize size) ≡ None → b ≡ false
unbarred true size none = absurd (cc)
unbarred false size none = refl

pub whole-cut : (size at n : ℕ) → past_size size (at + n) ≡ None → cut_range size at n ≡ whole_range at n
whole-cut size at n none = ap (λ (to : ℕ). record { from = at; to = to }) (least (unbarred (nat_lt size (at + n)) size none))
  where
    least : nat_lt size (at + n) ≡ false → min (at + n) size ≡ at + n
    least not_past = omega (arith, ltb-false size (at + n) not_past)
