-- Whether a hold is found by its id.
use Rattle.std.specs.Prelude.{◌≡◌, true, false, is_some, IsSome, refl}
use Rattle.std.specs.declared.option.Option.{Option}
use Rattle.std.specs.declared.option.Option.TheVariants.{Some, None}
use Rattle.std.specs.Option.{option_copied, option_map}
use Rattle.std.proofs.Common.{Bor}
use Rattle.cc_entry.specs.declared.hold.HoldRow.{HoldRow}
use Rattle.cc_holds.specs.declared.holds.KeptHold.{KeptHold}

module _ (found : Option (Bor HoldRow)) (kept : Option KeptHold) (is : option_copied found ≡ option_map (λ (h : KeptHold). h.row) kept) where
  pub is-there : is_some found ≡ true → IsSome kept
  is-there there = go found kept is there
    where
      go : (o : Option (Bor HoldRow)) (k : Option KeptHold) → option_copied o ≡ option_map (λ (h : KeptHold). h.row) k → is_some o ≡ true → IsSome k
      go None k is there = absurd (cc)
      go (Some r) None is there = absurd (cc)
      go (Some r) (Some h) is there = refl

  pub is-absent : is_some found ≡ false → kept ≡ None
  is-absent absent = go found kept is absent
    where
      go : (o : Option (Bor HoldRow)) (k : Option KeptHold) → option_copied o ≡ option_map (λ (h : KeptHold). h.row) k → is_some o ≡ false → k ≡ None
      go (Some r) k is absent = absurd (cc)
      go None (Some h) is absent = absurd (cc)
      go None None is absent = refl
