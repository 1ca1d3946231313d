use Rattle.std.proofs.Common.{◌≡◌, ◌∙◌, drop, rules}
use Rattle.byteorder.specs.Endian.{little_number}
use Rattle.cc_filedev.proofs.EntryLemmas.{head_reads_back}
use Rattle.cc_filedev.proofs.entries.Head.read.Goals as goal

pub returns-clause-reads_back : goal.returns-clause-reads_back
returns-clause-reads_back c = λ lsn size fits_lsn fits_size is.
    let read = head_reads_back _ lsn size fits_lsn fits_size is in
    let size_read : c.read_u32.result ≡ little_number 4 (drop 8 c.args.bytes.now) = search rules in
    (c.read_u64.ensures ∙ read.0, size_read ∙ read.1)
