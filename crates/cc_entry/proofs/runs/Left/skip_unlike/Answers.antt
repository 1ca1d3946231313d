use Rattle.std.proofs.Common.{◌++◌, replicate, map, drop, ap, sym, ◌∙◌, append_assoc}
use Rattle.cc_entry.specs.Parts.{bytes_in}
use Rattle.cc_entry.specs.Runs.{byte_alone, runs_of}
use Rattle.cc_entry.proofs.runs.Left.skip_unlike.Goals as goal

pub returns-clause-split : goal.returns-clause-split
returns-clause-split c =
    let l = c.self.inside in let behind = replicate l.count l.byte ++ bytes_in l.parts.now l.plain.now in
    let read = c.split_at.result.0.now in let rest = c.split_at.result.1.now in
    sym c.self.view_is ∙ ap (λ bs. bs ++ behind) c.split_at.ensures.by_index.0 ∙ append_assoc read rest behind

pub returns-clause-alone : goal.returns-clause-alone
returns-clause-alone c =
    let l = c.self.inside in let behind = replicate l.count l.byte ++ bytes_in l.parts.now l.plain.now in
    let read = c.split_at.result.0.now in
    ap runs_of (sym c.self.view_is) ∙ c.unlike.ensures.alone behind
    ∙ ap (λ bs. map byte_alone bs ++ runs_of (drop c.unlike.result l.front.now ++ behind)) (sym c.split_at.ensures.front)
    ∙ ap (λ bs. map byte_alone read ++ runs_of (bs ++ behind)) (sym c.split_at.ensures.back)
