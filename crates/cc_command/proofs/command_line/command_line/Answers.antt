-- The command line is the one that the definition says, setting by setting.
use Rattle.std.proofs.Common.{rules, ◌≡◌, ◌∙◌, ap, ap₂, true, ℕ, Option, Some, None, codes}
use Rattle.std.specs.Prelude.{max, IsSomeAnd}
use Rattle.std.proofs.lemmas.Result.{IfOk-weaker}
use Rattle.clap.specs.Simple.{app_of_fields, on_top}
use Rattle.clap.specs.Words.{App, Rule, app_of, new_app, new_rule, rule_of, with_rule}
use Rattle.clap.specs.declared.builder.command.Command.{Command}
use Rattle.clap.specs.declared.builder.command.Command.TheOpen.{Command-F}
use Rattle.clap.specs.declared.builder.command.Command.TheViews.{out-Command}
use Rattle.clap.specs.declared.builder.range.ValueRange.{ValueRange}
use Rattle.cc_command.specs.CommandLine.{mode_rule, argument_rule}
use Rattle.cc_command.proofs.command_line.command_line.Goals as goal

some-is : (o : Option ValueRange) (r : ValueRange) → IsSomeAnd o (λ x. x ≡ r) → o ≡ Some r
some-is None r is = absurd is
some-is (Some x) r is = ap Some is

-- from `a` to `b` values
abbrev between : ℕ → ℕ → ValueRange
between a b = record { start_inclusive = a; end_inclusive = max b a }

-- the settings of the command line
abbrev set : App → App
set = on_top (λ s. record s {
  no_binary_name = true;
  disable_help_flag = true;
  disable_help_subcommand = true;
  disable_version_flag = true;
})

pub returns : goal.returns
returns c =
    let mode_is : rule_of c.required-mode.result ≡ mode_rule = search rules in
    let few : c.num_args-argument.result.num_vals ≡ Some (between 1 2) =
    some-is _ _ c.num_args-argument.ensures.1 ∙ ap Some (ap₂ between c.new-3.ensures.start c.new-3.ensures.end) in
    let required_is : rule_of c.required.result ≡ record (new_rule (codes "ARG")) { required = true } = search rules in
    let argument_is : rule_of c.num_args-argument.result ≡ argument_rule =
    ap rule_of c.num_args-argument.ensures.0
    ∙ (ap (λ (n : Option ValueRange). record (rule_of c.required.result) { range = n }) few
    ∙ ap (λ (r : Rule). record r { range = Some (between 1 2) }) required_is) in
    let fields : out-Command c.disable_version_flag.result ≡ record (out-Command c.new-4.result) {
      no_binary_name = true;
      disable_help_flag = true;
      disable_help_subcommand = true;
      disable_version_flag = true;
    } =
    c.disable_version_flag.ensures
    ∙ (ap (λ (f : Command-F Command). record f { disable_version_flag = true }) c.disable_help_subcommand.ensures
    ∙ (ap (λ (f : Command-F Command). record f { disable_help_subcommand = true; disable_version_flag = true }) c.disable_help_flag.ensures
    ∙ ap (λ (f : Command-F Command). record f { disable_help_flag = true; disable_help_subcommand = true; disable_version_flag = true }) c.no_binary_name.ensures)) in
    let set_is : app_of c.disable_version_flag.result ≡ set (new_app _) = ap app_of_fields fields ∙ ap set c.new-4.ensures.app in
    let mode_line : app_of c.in_ok-arg.field-0 ≡ with_rule (set (new_app _)) mode_rule =
    c.in_ok-arg.ensures.shape (search rules) ∙ ap₂ with_rule set_is mode_is in
    IfOk-weaker c.arg-2.result _ _ (λ line h. h.shape (search rules) ∙ ap₂ with_rule mode_line argument_is) c.arg-2.ensures
