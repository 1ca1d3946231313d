use Rattle.std.proofs.Common.{◌≡◌, ◌+◌, ◌<◌, ℕ, List, [], ◌∷◌, ◌++◌, length, ap, sym, subst, ◌∙◌, arith, refl}
use Rattle.std.specs.declared.option.Option.{Option}
use Rattle.std.specs.declared.option.Option.TheVariants.{Some, None}
use Rattle.cc_traits.specs.Told.{IfTold}
use Rattle.cc_traits.specs.Log.{HoldsEntry, Log}
use Rattle.cc_redo.specs.Reading.{said_by}
use Rattle.cc_redo.specs.declared.record.LogRecord.{LogRecord}
use Rattle.cc_redo.specs.declared.scan.ReadEntry.{ReadEntry}
use Rattle.cc_redo.proofs.EntriesRead.{HasRead, read-all, read-more, read-too_many}
use Rattle.cc_redo.proofs.scan.read_log.Goals as goal

pub loop-n-preserved : goal.loop-n-preserved
loop-n-preserved g c =
    let told = g.L.LogFile.told c.args.log.now in
    let n = c.loop-n.n in
    let lsn = c.in-Ok-Some.lsn in
    let bytes = c.entry.new.out.items in
    let items = c.loop-n.entries.items in
    let held : IfTold (g.L.LogFile.told c.loop-n.log) (HoldsEntry n (Some lsn) bytes) = rw (c.in-Ok-Some.is, c.in-Ok-Some.field-0-is) at c.entry.ensures.held in
    let says : c.in_ok-says-in-Ok-Some.says ≡ said_by bytes = c.in_ok-says-in-Ok-Some.ensures ∙ ap said_by c.deref.ensures.value in
    let made : Option LogRecord → ReadEntry = λ s. record { lsn = lsn; says = s } in
    let pushed : c.push.new.self.items ≡ items ++ made (said_by bytes) ∷ [] =
    c.in_ok-push-in-Ok-Some.ensures.items ∙ ap (λ (s : Option LogRecord). items ++ made s ∷ []) says in
    record {
      stays = c.entry.ensures.stays ∙ c.loop-n.invariant.stays;
      counted = let e : g.L.LogFile.faults c.entry.new.self ≡ g.L.LogFile.faults c.loop-n.log + 0 = c.in-Ok-Some.ensures.counted in let f = c.loop-n.invariant.counted in omega arith;
      read =
          subst (λ (l : List ReadEntry). IfTold told (HasRead (n + 1) l)) (sym pushed)
          (read-more told n lsn bytes items c.loop-n.invariant.read
          (subst (λ (t : Option Log). IfTold t (HoldsEntry n (Some lsn) bytes)) c.loop-n.invariant.stays held));
    }

pub returns-in-Ok-Some-entry-clause-refused : goal.returns-in-Ok-Some-entry-clause-refused
returns-in-Ok-Some-entry-clause-refused g c =
    let held = rw (c.in-Ok-Some-entry.is, c.in-Ok-Some-entry.field-0-is) at c.entry-2.ensures.held in (
      refl,
      subst (λ (t : Option Log). IfTold t (λ log. 4194304 < length log.entries)) c.loop-n.invariant.stays
          (read-too_many (g.L.LogFile.told c.loop-n.log) 4194304 _ _ held),
    )

pub returns-in-Ok-None-entry-clause-read : goal.returns-in-Ok-None-entry-clause-read
returns-in-Ok-None-entry-clause-read g c =
    let told = g.L.LogFile.told c.args.log.now in
    let n = c.loop-n.n in
    let last : n ≡ 4194304 = omega arith in
    let bytes = c.entry-2.new.out.items in
    let held : IfTold (g.L.LogFile.told c.loop-n.log) (HoldsEntry 4194304 None bytes) = rw (c.in-Ok-None-entry.is, c.in-Ok-None-entry.field-0-is) at c.entry-2.ensures.held in
    read-all told 4194304 bytes c.loop-n.entries.items (omega arith)
    (subst (λ (m : ℕ). IfTold told (HasRead m c.loop-n.entries.items)) last c.loop-n.invariant.read)
    (subst (λ (t : Option Log). IfTold t (HoldsEntry 4194304 None bytes)) c.loop-n.invariant.stays held)
