-- What one pass acted is nothing of another, over a desk where nobody else goes on.
use Rattle.std.specs.Prelude.{◌≡◌, ◌≢◌, ℕ, true, false, List, [], ◌∷◌, refl}
use Rattle.std.specs.declared.option.Option.{Option}
use Rattle.std.specs.declared.option.Option.TheVariants.{Some, None}
use Rattle.std.specs.List.{AllByRecursion}
use Rattle.std.proofs.Common.{sym, ◌∙◌}
use Rattle.std.proofs.lemmas.Bool.{eqb-true, ne_eqb}
use Rattle.cc_entry.specs.declared.entry.Entry.{Entry}
use Rattle.cc_entry.specs.declared.entry.Entry.TheVariants as entry
use Rattle.cc_model.specs.Passes.{is_mine, is_pass, pass_of}
use Rattle.cc_effects.specs.Moments.{Others, IsIdle}
use Rattle.cc_turns.specs.Takes.{HasActed, may_be_of}

not_mine : (me pass : ℕ) (o : Option ℕ) → me ≢ pass → is_pass pass o ≡ true → is_pass me o ≡ false
not_mine me pass None apart is = absurd (cc)
not_mine me pass (Some p) apart is = ne_eqb p me (λ e. apart (sym e ∙ eqb-true p pass is))

not_mine-entry : (me pass : ℕ) (e : Entry) → me ≢ pass → may_be_of pass e ≡ true → is_mine me e ≡ false
not_mine-entry me pass (entry.Posted id) apart is = refl
not_mine-entry me pass other apart is = not_mine me pass (pass_of other) apart is

others-own : (me pass : ℕ) (added : List Entry) → me ≢ pass → AllByRecursion (λ e. may_be_of pass e ≡ true) added → Others me added
others-own me pass [] apart own = tt
others-own me pass (e ∷ added) apart own = (not_mine-entry me pass e apart own.0, others-own me pass added apart own.1)

-- another pass was idle
pub idle-acted : (me pass : ℕ) (since seen : List Entry) → me ≢ pass → HasActed pass since seen → IsIdle me since seen
idle-acted me pass since seen apart acted = record {
  during = acted.added;
  grew = acted.grew;
  others = others-own me pass acted.added apart acted.own;
}
