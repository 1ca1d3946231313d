use Rattle.cc_records.proofs.CrashRecords.{recorded-bytes}
use Rattle.cc_records.proofs.laws.recorded_bytes_were_there.Goals as goal

pub returns : goal.returns
returns c = λ u past s pages good. recorded-bytes u past s pages good
