-- What stands in the head of an entry is read back.
use Rattle.std.proofs.Common.{◌≡◌, ◌<◌, ◌^◌, ℕ, List, [], drop}
use Rattle.byteorder.specs.Endian.{little_bytes, little_number}
use Rattle.byteorder.specs.Numbers.{little_number-reads_back}
use Rattle.cc_filedev.specs.Entry.{head_bytes}

pub head_reads_back : (bytes : List ℕ) (lsn size : ℕ) → lsn < 2 ^ 64 → size < 2 ^ 32 → bytes ≡ head_bytes lsn size →
    (little_number 8 bytes ≡ lsn) × (little_number 4 (drop 8 bytes) ≡ size)
head_reads_back bytes lsn size fits_lsn fits_size is =
    let first : little_number 8 (head_bytes lsn size) ≡ lsn = little_number-reads_back 8 lsn (little_bytes 4 size) fits_lsn in
    let second : little_number 4 (drop 8 (head_bytes lsn size)) ≡ size = little_number-reads_back 4 size [] fits_size in
    rw is (first, second)
