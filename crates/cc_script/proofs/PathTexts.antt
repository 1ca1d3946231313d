-- The words of the paths of a read, each found and each once.
use Rattle.std.proofs.Common.{◌≡◌, Some, refl, ap, sym, ◌∙◌}
use Rattle.cc_script.specs.declared.script.ReadPath.{ReadPath}
use Rattle.cc_script.specs.declared.script.ReadPath.TheVariants as path
use Rattle.cc_script.specs.ShimActions.{path_text, parsed_path}

pub paths_found : (p : ReadPath) → parsed_path (path_text p) ≡ Some p
unfolding parsed_path
paths_found path.Cached = refl
paths_found path.Mapped = refl
paths_found path.Pinned = refl
paths_found path.Descriptor = refl
paths_found path.Noncached = refl

pub paths_differ : (p q : ReadPath) → path_text p ≡ path_text q → p ≡ q
paths_differ p q e =
    let same : Some p ≡ Some q = sym (paths_found p) ∙ (ap parsed_path e ∙ paths_found q) in cc
