-- The definitions that the worked journal is computed by.

use Rattle.cc_model.specs.History.{history}
use Rattle.cc_model.specs.Objects.{objects, had_map}
use Rattle.cc_model.specs.Holds.{holds_of}
use Rattle.cc_model.specs.Touches.{touched, sizes, touches}
use Rattle.cc_model.specs.Bytes.{content, on_disk, byte_of, answer, page_size, page_bytes}
use Rattle.cc_model.specs.Settings.{quota_of, is_temporary, allocation_of, log_of, has_no_read_ahead, has_no_write_behind, threshold_of, granularity_of}
use Rattle.cc_model.specs.Residency.{residents}
use Rattle.cc_model.specs.Logs.{flushed_to, floor_of}
use Rattle.cc_model.specs.Stamps.{dirty_table}
use Rattle.cc_model.specs.Images.{open_of, begun, image, crash_pages}
use Rattle.cc_model.specs.Discards.{low_since}
use Rattle.cc_model.specs.ReadAhead.{reads_of, ahead_of}
use Rattle.cc_model.specs.Passes.{calls_of, up_to_call, is_written_since}
use Rattle.cc_model.specs.Faults.{faults_since}
use Rattle.cc_model.specs.Flushed.{synced_after, is_flushed}
use Rattle.cc_model.specs.Cache.{holds_made, views_taken, dirty_total, is_any_dirty, lazy_pages}
use Rattle.cc_model.specs.Pick.{last_total, cursor, pick}
use Rattle.cc_model.specs.Throttle.{may_go, queue, deferred}
use Rattle.cc_model.specs.Room.{stores_unfinished, reserved_in, room_in, asked_by}
use Rattle.cc_model.specs.Refusals.{refusal, step_refusal}
use Rattle.cc_model.specs.Legal.{IsLegal, IsLegalEntry}
use Rattle.cc_model.specs.Covered.{IsCovered, IsCoveredEntry}
use Rattle.cc_model.specs.Records.{first_valid, is_stored, is_settled, record_page, is_record_stored, crash_records}
use Rattle.cc_model.specs.Locks.{lock_calls}
use Rattle.cc_model.specs.Allowed.{IsAllowed, IsAllowedSoFar}
use Rattle.cc_log.specs.Turn.{appended}

unfoldable pub computed : Unit {0}
unfolding history objects had_map holds_of touched sizes touches content on_disk byte_of answer page_size page_bytes quota_of is_temporary allocation_of log_of has_no_read_ahead has_no_write_behind threshold_of granularity_of residents flushed_to floor_of dirty_table open_of begun image crash_pages low_since reads_of ahead_of calls_of up_to_call is_written_since faults_since synced_after is_flushed holds_made views_taken dirty_total is_any_dirty lazy_pages last_total cursor pick may_go queue deferred stores_unfinished reserved_in room_in asked_by refusal step_refusal first_valid is_stored is_settled record_page is_record_stored crash_records lock_calls IsLegal IsLegalEntry IsCovered IsCoveredEntry IsAllowed IsAllowedSoFar appended
computed = tt
