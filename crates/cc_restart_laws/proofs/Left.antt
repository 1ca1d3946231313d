-- What a run leaves of a log, and what a stop keeps of it.
use Rattle.std.specs.Prelude.{◌≡◌, ℕ, ◌<◌, ◌≤◌, List, [], ◌∷◌, ◌++◌, refl}
use Rattle.std.specs.List.{AllByRecursion}
use Rattle.std.proofs.Common.{ap, sym, ◌∙◌, arith}
use Rattle.cc_entry.specs.declared.entry.Entry.{Entry}
use Rattle.cc_log.specs.Turn.{HoldsLogEntries, appended}
use Rattle.cc_model.specs.Logs.{flushed_to}
use Rattle.cc_traits.specs.Log.{Log, LogEntry}
use Rattle.cc_restart_laws.specs.Stops.{LogKeeps, LogKeepsBehind}

head-of : (x y : LogEntry) (xs ys : List LogEntry) → x ∷ xs ≡ y ∷ ys → x ≡ y
head-of x y xs ys is = cc

tail-of : (x y : LogEntry) (xs ys : List LogEntry) → x ∷ xs ≡ y ∷ ys → xs ≡ ys
tail-of x y xs ys is = cc

behind : (durable : ℕ) (begun appends all rest : List LogEntry) → begun ++ appends ≡ all ++ rest → AllByRecursion (λ entry. entry.lsn ≤ durable) begun → AllByRecursion (λ entry. durable < entry.lsn) rest →
    LogKeepsBehind durable begun appends all
behind durable [] appends all rest splits durables beyond = record { kept = all; is = refl; keeps = record { rest = rest; splits = splits; beyond = beyond } }
behind durable (x ∷ begun) appends [] [] splits durables beyond = absurd (cc)
behind durable (x ∷ begun) appends [] (y ∷ rest) splits durables beyond =
    let same : x.lsn ≡ y.lsn = ap (λ (e : LogEntry). e.lsn) (head-of x y (begun ++ appends) rest splits) in
    let least : x.lsn ≤ durable = durables.0 in
    let above : durable < y.lsn = beyond.0 in
    absurd (omega (arith, same, least, above))
behind durable (x ∷ begun) appends (y ∷ all) rest splits durables beyond =
    let k = behind durable begun appends all rest (tail-of x y (begun ++ appends) (all ++ rest) splits) durables.1 beyond in
    record {
      kept = k.kept;
      is = ap (λ (e : LogEntry). e ∷ all) (sym (head-of x y (begun ++ appends) (all ++ rest) splits)) ∙ ap (λ (l : List LogEntry). x ∷ l) k.is;
      keeps = k.keeps;
    }

pub log-left : (past : List Entry) (log : ℕ) (begun now : Log) (all : List LogEntry) → HoldsLogEntries (appended past log) (flushed_to past log) begun now → AllByRecursion (λ entry. entry.lsn ≤ now.durable) begun.entries →
    LogKeeps now.durable now.entries all → LogKeepsBehind now.durable begun.entries (appended past log) all
log-left past log begun now all holds durables keeps = behind now.durable begun.entries (appended past log) all keeps.rest (sym holds.entries_are ∙ keeps.splits) durables keeps.beyond
