-- Texts behind one another, grouped from the right, as they are printed; `++` groups from the left.
use Rattle.std.specs.Prelude.{ℕ, List, ◌++◌}

infixr 65 ◌&◌
abbrev pub ◌&◌ : List ℕ → List ℕ → List ℕ
text & behind = text ++ behind
