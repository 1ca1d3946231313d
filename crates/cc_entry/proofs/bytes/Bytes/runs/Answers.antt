use Rattle.std.proofs.Common.{◌≡◌, length, ap, sym, ◌∙◌, arith}
use Rattle.cc_entry.specs.Parts.{bytes_in, plain_in}
use Rattle.cc_entry.specs.Runs.{spelled}
use Rattle.cc_entry.proofs.Longest.{runs_of-longest, spelled-runs_of}
use Rattle.cc_entry.proofs.bytes.Bytes.runs.Goals as goal

pub new-requires : goal.new-requires
new-requires c = record {
  whole = ap plain_in c.deref.ensures.value ∙ c.self.invariant.0 ∙ sym (ap length c.deref-2.ensures.value);
  fits = omega (arith, c.self.invariant.1, c.self.invariant.2, ap (λ parts. length (bytes_in parts c.deref-2.result.now)) c.deref.ensures.value, ap (λ plain. length (bytes_in c.self.inside.parts.items plain)) c.deref-2.ensures.value);
}

pub returns-clause-spell : goal.returns-clause-spell
returns-clause-spell c =
    let all = bytes_in c.deref.result.now c.deref-2.result.now in
    let whole : all ≡ c.args.self.now = ap (λ parts. bytes_in parts c.deref-2.result.now) c.deref.ensures.value ∙ ap (bytes_in c.self.inside.parts.items) c.deref-2.ensures.value ∙ c.self.view_is in
    ap spelled c.new.ensures ∙ spelled-runs_of all ∙ whole

pub returns-clause-longest : goal.returns-clause-longest
returns-clause-longest c = rw c.new.ensures (runs_of-longest (bytes_in c.deref.result.now c.deref-2.result.now))
