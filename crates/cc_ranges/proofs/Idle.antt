-- A page that is there.
use Rattle.std.specs.Prelude.{◌≡◌, true, false, is_some, refl}
use Rattle.std.specs.declared.option.Option.{Option}
use Rattle.std.specs.declared.option.Option.TheVariants.{Some, None}

pub some-there : {A : Type 0} (o : Option A) (a : A) → o ≡ Some a → is_some o ≡ true
some-there o a is = rw is refl

pub none-there : {A : Type 0} (o : Option A) → o ≡ None → is_some o ≡ false
none-there o is = rw is refl
