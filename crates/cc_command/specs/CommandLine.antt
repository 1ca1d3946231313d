-- The command line that clap reads: the word of a mode, and one argument or two behind it.
use Rattle.std.specs.Prelude.{true, [], ◌∷◌, Some, codes}
use Rattle.clap.specs.Words.{App, Rule, new_app, new_rule}
use Rattle.clap.specs.declared.error.kind.ErrorKind.{ErrorKind}
use Rattle.clap.specs.declared.error.kind.ErrorKind.TheVariants as kind
use Rattle.cc_command.specs.declared.no_run.NoRun.{NoRun}
use Rattle.cc_command.specs.declared.no_run.NoRun.TheVariants as no_run

-- the word of a mode, which is required
abbrev pub mode_rule : Rule
mode_rule = record (new_rule (codes "MODE")) { required = true }

-- one argument or two, which are required
abbrev pub argument_rule : Rule
argument_rule = record (new_rule (codes "ARG")) {
  required = true;
  range = Some (record { start_inclusive = 1; end_inclusive = 2 });
}

-- the command line, whose first word is no program's name, without a flag or a subcommand of clap's own
abbrev pub command_line : App
command_line = record (new_app (codes "ntcache")) {
  top = record (new_app (codes "ntcache")).top {
    rules = mode_rule ∷ argument_rule ∷ [];
    no_binary_name = true;
    disable_help_flag = true;
    disable_help_subcommand = true;
    disable_version_flag = true;
  };
}

-- why no run is made where clap has an error of a kind
abbrev pub no_run_by : ErrorKind → NoRun
no_run_by kind.OutOfMemory = no_run.NoMemory
no_run_by other = no_run.Usage
