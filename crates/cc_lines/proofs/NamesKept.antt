-- What is kept of the words of a caller stands on while only others place entries.
use Rattle.std.specs.Prelude.{◌≡◌, ℕ, List, [], refl}
use Rattle.std.specs.declared.option.Option.{Option}
use Rattle.cc_entry.specs.declared.entry.Entry.{Entry}
use Rattle.cc_script.specs.declared.bound.Bound.{Bound}
use Rattle.cc_model.specs.Good.{IsGood}
use Rattle.cc_model.specs.Setup.{Setup}
use Rattle.cc_effects.specs.Moments.{IsIdle}
use Rattle.cc_own.proofs.Unchanged.{unchanged-idle}
use Rattle.cc_pieces.specs.Bindings.{Binding}
use Rattle.cc_lines.specs.Holds.{NamesStand, named_held}
use Rattle.cc_lines.specs.declared.holds.Named.{Named}
use Rattle.cc_lines.proofs.KeptWords.{stand-kept}
use Rattle.cc_lines.proofs.WordLines.{so_far}

pub names-keep : (u : Setup) (streams me : ℕ) (old new : List Entry) (bounds : List Bound) (bindings : List Binding) (names : List (Option Named)) → IsGood u new → IsIdle me old new → NamesStand streams me old bounds bindings names → NamesStand streams me new bounds bindings names
names-keep u streams me old new bounds bindings names good idle stand =
    stand-kept u streams me old new (so_far u new good) bounds bindings names stand
    (λ word it named. unchanged-idle me (named_held it).id old new idle)

-- nothing is kept of any word yet
pub names-none : (streams me : ℕ) (past : List Entry) (names : List (Option Named)) → names ≡ [] → NamesStand streams me past [] [] names
names-none streams me past names none =
    let empty : NamesStand streams me past [] [] [] = record {
      counted = refl;
      unbound = λ word beyond. refl;
      each = λ word bound at unended. absurd (cc at);
      ended = λ word bound at ended. refl;
      apart = λ word other it another differ is also. absurd (cc is);
    } in
    rw none empty
