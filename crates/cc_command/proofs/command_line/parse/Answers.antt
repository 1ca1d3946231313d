-- What clap finds is what the words say, and it has no error but want of memory.
use Rattle.std.proofs.Common.{rules, ◌≡◌, ◌∙◌, sym, ap, subst, List, ℕ, true, Option, Some, None, map, string_bytes, option_map, is_some, Bor}
use Rattle.clap.specs.Words.{App, HasMatchesOf, takes}
use Rattle.cc_command.specs.CommandLine.{no_run_by}
use Rattle.cc_command.proofs.CommandLine.{line-taken, found-mode, found-argument}
use Rattle.cc_command.proofs.command_line.parse.Goals as goal

-- a text is there where its bytes are
is-there : (found : Option (Bor (List ℕ))) (text : Option (List ℕ)) → option_map (λ s. s.now) found ≡ text → is_some text ≡ true → is_some found ≡ true
is-there None text is there = ap is_some is ∙ there
is-there (Some one) text is there = ap is_some is ∙ there

pub returns-in-Err-try_get_matches_from-clause-err : goal.returns-in-Err-try_get_matches_from-clause-err
returns-in-Err-try_get_matches_from-clause-err c =
    let words = map string_bytes c.args.words.now in
    let taken = (line-taken words c.requires).takes in
    let kind = c.in-Err-try_get_matches_from.ensures.passes (ap (λ (a : App). takes a words) c.in-Ok.ensures ∙ taken) in
    c.no_run_of.ensures ∙ ap no_run_by kind

pub returns-in_err-mode-clause-err : goal.returns-in_err-mode-clause-err
returns-in_err-mode-clause-err c =
    let words = map string_bytes c.args.words.now in
    let matches = c.in-Ok-try_get_matches_from.matches in
    let has = subst (λ (a : App). HasMatchesOf a words matches) c.in-Ok.ensures c.in-Ok-try_get_matches_from.ensures.matches in
    let there : is_some c.get_str.result ≡ true =
    is-there c.get_str.result _ (c.get_str.ensures ∙ found-mode words c.requires matches has) (line-taken words c.requires).has_mode in
    search rules

pub returns-in_err-argument-clause-err : goal.returns-in_err-argument-clause-err
returns-in_err-argument-clause-err c =
    let words = map string_bytes c.args.words.now in
    let matches = c.in-Ok-try_get_matches_from.matches in
    let has = subst (λ (a : App). HasMatchesOf a words matches) c.in-Ok.ensures c.in-Ok-try_get_matches_from.ensures.matches in
    let there : is_some c.get_str-2.result ≡ true =
    is-there c.get_str-2.result _ (c.get_str-2.ensures ∙ found-argument words c.requires matches has) (line-taken words c.requires).has_argument in
    search rules

pub returns-clause-first : goal.returns-clause-first
returns-clause-first c =
    let words = map string_bytes c.args.words.now in
    let matches = c.in-Ok-try_get_matches_from.matches in
    let has = subst (λ (a : App). HasMatchesOf a words matches) c.in-Ok.ensures c.in-Ok-try_get_matches_from.ensures.matches in
    let is = sym (found-mode words c.requires matches has) ∙ sym c.get_str.ensures in
    let got : c.get_str.result ≡ Some c.in_ok-mode.mode = search rules in
    is ∙ ap (option_map (λ s. s.now)) got

pub returns-clause-second : goal.returns-clause-second
returns-clause-second c =
    let words = map string_bytes c.args.words.now in
    let matches = c.in-Ok-try_get_matches_from.matches in
    let has = subst (λ (a : App). HasMatchesOf a words matches) c.in-Ok.ensures c.in-Ok-try_get_matches_from.ensures.matches in
    let is = sym (found-argument words c.requires matches has) ∙ sym c.get_str-2.ensures in
    let got : c.get_str-2.result ≡ Some c.in_ok-argument.argument = search rules in
    is ∙ ap (option_map (λ s. s.now)) got
