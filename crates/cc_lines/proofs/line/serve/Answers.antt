-- Verb by verb: the action may make its call, and what the call left ends the line.
use Rattle.std.proofs.Common.{ap, arith}
use Rattle.cc_entry.specs.declared.call.Call.TheVariants as call
use Rattle.cc_lines.proofs.PlainLines.{append-line, nc_read-line, nc_write-line, plain-line, plain_call}
use Rattle.cc_lines.proofs.ServeLines.{asked-as, can-as, change-line, discard-line, flag-line, flush-line, flushed-line, may-free, may-on, next-chain, next-map, next-pin, next-prepare, next-repin, next-write_chain, purge-line, query-line, set-line}
use Rattle.cc_lines.proofs.ThrottleLines.{defer-line, post-line}
use Rattle.cc_lines.proofs.TickLines.{tick-line}
use Rattle.cc_lines.proofs.ShimServed.{levels-line, read-line, update-line, write-line, lock-line, unlock-line}
use Rattle.cc_lines.proofs.SettleServed.{settle-line}
use Rattle.cc_lines.proofs.CheckpointServed.{checkpoint-line}
use Rattle.cc_lines.proofs.line.serve.Goals as goal

pub initialize-requires : goal.initialize-requires
initialize-requires g c = may-on (g.T.Turns.standing c.args.turns.now) _ c.args.names.now c.in-Initialise.file.stream c.requires.can (can-as (g.T.Turns.standing c.args.turns.now) _ _ c.args.names.now c.in-Initialise.is c.requires.can).servable

pub returns-in-Initialise : goal.returns-in-Initialise
returns-in-Initialise g c =
    set-line _ _ c.args.names.now _ _ c.requires.can.good (call.Initialise c.in-Initialise.file c.in-Initialise.sizes c.in-Initialise.quota c.in-Initialise.temporary) c.initialize.result (ap plain_call c.in-Initialise.is) (omega arith) c.answered.ensures c.initialize.ensures

pub uninitialize-requires : goal.uninitialize-requires
uninitialize-requires g c = record { can = may-on (g.T.Turns.standing c.args.turns.now) _ c.args.names.now c.in-Uninitialise.file.stream c.requires.can (can-as (g.T.Turns.standing c.args.turns.now) _ _ c.args.names.now c.in-Uninitialise.is c.requires.can).servable }

pub returns-in-Uninitialise : goal.returns-in-Uninitialise
returns-in-Uninitialise g c =
    flag-line _ _ c.args.names.now _ _ c.requires.can.good (call.Uninitialise c.in-Uninitialise.file c.in-Uninitialise.truncate) c.uninitialize.result (ap plain_call c.in-Uninitialise.is) (omega arith) c.flag.ensures c.uninitialize.ensures.ends.ends

pub purge-requires : goal.purge-requires
purge-requires g c = record { can = may-on (g.T.Turns.standing c.args.turns.now) _ c.args.names.now c.in-Purge.file.stream c.requires.can (can-as (g.T.Turns.standing c.args.turns.now) _ _ c.args.names.now c.in-Purge.is c.requires.can).servable }

pub returns-in-Purge : goal.returns-in-Purge
returns-in-Purge g c =
    purge-line _ _ c.args.names.now _ _ c.requires.can.good c.in-Purge.file c.in-Purge.span c.purge.result (ap plain_call c.in-Purge.is) c.answered-in-Purge.ensures c.purge.ensures.ends

pub discard-requires : goal.discard-requires
discard-requires g c = record { can = may-on (g.T.Turns.standing c.args.turns.now) _ c.args.names.now c.in-Discard.file.stream c.requires.can (can-as (g.T.Turns.standing c.args.turns.now) _ _ c.args.names.now c.in-Discard.is c.requires.can).servable }

pub returns-in-Discard : goal.returns-in-Discard
returns-in-Discard g c =
    discard-line _ _ c.args.names.now _ _ c.requires.can.good c.in-Discard.file c.in-Discard.span c.discard.result (ap plain_call c.in-Discard.is) c.answered-in-Discard.ensures c.discard.ensures.ends

pub read_noncached-requires : goal.read_noncached-requires
read_noncached-requires g c = may-on (g.T.Turns.standing c.args.turns.now) _ c.args.names.now c.in-NcRead.file.stream c.requires.can (can-as (g.T.Turns.standing c.args.turns.now) _ _ c.args.names.now c.in-NcRead.is c.requires.can).servable

pub returns-in-NcRead : goal.returns-in-NcRead
returns-in-NcRead g c =
    asked-as _ _ _ _ _ _ _ c.in-NcRead.is
    (nc_read-line _ _ _ c.args.names.now c.read_noncached.ensures.full c.read_noncached.ensures.goes_on (c.read_noncached.ensures.good c.requires.can.good) c.in-NcRead.file c.in-NcRead.at c.in-NcRead.len c.read_noncached.ensures.answered)

pub write_noncached-requires : goal.write_noncached-requires
write_noncached-requires g c = may-on (g.T.Turns.standing c.args.turns.now) _ c.args.names.now c.in-NcWrite.file.stream c.requires.can (can-as (g.T.Turns.standing c.args.turns.now) _ _ c.args.names.now c.in-NcWrite.is c.requires.can).servable

pub returns-in-NcWrite : goal.returns-in-NcWrite
returns-in-NcWrite g c =
    asked-as _ _ _ _ _ _ _ c.in-NcWrite.is
    (nc_write-line _ _ _ c.args.names.now c.write_noncached.ensures.full c.write_noncached.ensures.goes_on (c.write_noncached.ensures.good c.requires.can.good) c.in-NcWrite.file c.in-NcWrite.at c.in-NcWrite.bytes c.write_noncached.ensures.answered)

pub read-requires : goal.read-requires
read-requires g c = may-on (g.T.Turns.standing c.args.turns.now) _ c.args.names.now c.in-CopyRead.file.stream c.requires.can (can-as (g.T.Turns.standing c.args.turns.now) _ _ c.args.names.now c.in-CopyRead.is c.requires.can).servable

pub returns-in-CopyRead : goal.returns-in-CopyRead
returns-in-CopyRead g c =
    plain-line _ _ _ _ c.read.ensures.full c.read.ensures.goes_on (c.read.ensures.good c.requires.can.good) _ (call.CopyRead c.in-CopyRead.file c.in-CopyRead.at c.in-CopyRead.len c.in-CopyRead.wait) (ap plain_call c.in-CopyRead.is) c.read.ensures.answered

pub write-requires : goal.write-requires
write-requires g c = may-on (g.T.Turns.standing c.args.turns.now) _ c.args.names.now c.in-CopyWrite.file.stream c.requires.can (can-as (g.T.Turns.standing c.args.turns.now) _ _ c.args.names.now c.in-CopyWrite.is c.requires.can).servable

pub returns-in-CopyWrite : goal.returns-in-CopyWrite
returns-in-CopyWrite g c =
    plain-line _ _ _ _ c.write.ensures.full c.write.ensures.goes_on (c.write.ensures.good c.requires.can.good) _ (call.CopyWrite c.in-CopyWrite.file c.in-CopyWrite.at c.in-CopyWrite.bytes) (ap plain_call c.in-CopyWrite.is) c.write.ensures.answered

pub zero_data-requires : goal.zero_data-requires
zero_data-requires g c = record { can = may-on (g.T.Turns.standing c.args.turns.now) _ c.args.names.now c.in-Zero.file.stream c.requires.can (can-as (g.T.Turns.standing c.args.turns.now) _ _ c.args.names.now c.in-Zero.is c.requires.can).servable }

pub returns-in-Zero : goal.returns-in-Zero
returns-in-Zero g c =
    change-line _ _ c.args.names.now _ _ c.requires.can.good (call.Zero c.in-Zero.file c.in-Zero.span) c.zero_data.result (ap plain_call c.in-Zero.is) (omega arith) c.answered-in-Zero.ensures c.zero_data.ensures.ends

pub map-requires : goal.map-requires
map-requires g c = can-as _ _ _ _ (next-map (g.T.Turns.standing c.args.turns.now) _ c.args.names.now c.requires.can _ _ _ _ c.in-Map.is) c.requires.can

pub returns-in-Map : goal.returns-in-Map
returns-in-Map g c = asked-as _ _ _ _ _ _ _ (next-map (g.T.Turns.standing c.args.turns.now) _ c.args.names.now c.requires.can _ _ _ _ c.in-Map.is) c.map.ensures

pub pin-requires : goal.pin-requires
pin-requires g c = can-as _ _ _ _ (next-pin (g.T.Turns.standing c.args.turns.now) _ c.args.names.now c.requires.can _ _ _ _ _ c.in-PinRead.is) c.requires.can

pub returns-in-PinRead : goal.returns-in-PinRead
returns-in-PinRead g c = asked-as _ _ _ _ _ _ _ (next-pin (g.T.Turns.standing c.args.turns.now) _ c.args.names.now c.requires.can _ _ _ _ _ c.in-PinRead.is) c.pin.ensures

pub prepare-requires : goal.prepare-requires
prepare-requires g c = can-as _ _ _ _ (next-prepare (g.T.Turns.standing c.args.turns.now) _ c.args.names.now c.requires.can _ _ _ _ _ _ c.in-PreparePin.is) c.requires.can

pub returns-in-PreparePin : goal.returns-in-PreparePin
returns-in-PreparePin g c = asked-as _ _ _ _ _ _ _ (next-prepare (g.T.Turns.standing c.args.turns.now) _ c.args.names.now c.requires.can _ _ _ _ _ _ c.in-PreparePin.is) c.prepare.ensures

pub hold_again-requires : goal.hold_again-requires
hold_again-requires g c = can-as _ _ _ _ (next-repin (g.T.Turns.standing c.args.turns.now) _ c.args.names.now c.requires.can _ _ c.in-Repin.is) c.requires.can

pub returns-in-Repin : goal.returns-in-Repin
returns-in-Repin g c = asked-as _ _ _ _ _ _ _ (next-repin (g.T.Turns.standing c.args.turns.now) _ c.args.names.now c.requires.can _ _ c.in-Repin.is) c.hold_again.ensures

pub chain-requires : goal.chain-requires
chain-requires g c = can-as _ _ _ _ (next-chain (g.T.Turns.standing c.args.turns.now) _ c.args.names.now c.requires.can _ _ _ _ c.in-MdlRead.is) c.requires.can

pub returns-in-MdlRead : goal.returns-in-MdlRead
returns-in-MdlRead g c = asked-as _ _ _ _ _ _ _ (next-chain (g.T.Turns.standing c.args.turns.now) _ c.args.names.now c.requires.can _ _ _ _ c.in-MdlRead.is) c.chain.ensures

pub write_chain-requires : goal.write_chain-requires
write_chain-requires g c = can-as _ _ _ _ (next-write_chain (g.T.Turns.standing c.args.turns.now) _ c.args.names.now c.requires.can _ _ _ _ c.in-MdlWrite.is) c.requires.can

pub returns-in-MdlWrite : goal.returns-in-MdlWrite
returns-in-MdlWrite g c = asked-as _ _ _ _ _ _ _ (next-write_chain (g.T.Turns.standing c.args.turns.now) _ c.args.names.now c.requires.can _ _ _ _ c.in-MdlWrite.is) c.write_chain.ensures

pub pin_map-requires : goal.pin_map-requires
pin_map-requires g c = can-as _ _ _ _ c.in-PinMapped.is c.requires.can

pub returns-in-PinMapped : goal.returns-in-PinMapped
returns-in-PinMapped g c = asked-as _ _ _ _ _ _ _ c.in-PinMapped.is c.pin_map.ensures

pub held_read-requires : goal.held_read-requires
held_read-requires g c = can-as _ _ _ _ c.in-HeldRead.is c.requires.can

pub returns-in-HeldRead : goal.returns-in-HeldRead
returns-in-HeldRead g c = asked-as _ _ _ _ _ _ _ c.in-HeldRead.is c.held_read.ensures

pub held_write-requires : goal.held_write-requires
held_write-requires g c = can-as _ _ _ _ c.in-PinnedWrite.is c.requires.can

pub returns-in-PinnedWrite : goal.returns-in-PinnedWrite
returns-in-PinnedWrite g c = asked-as _ _ _ _ _ _ _ c.in-PinnedWrite.is c.held_write.ensures

pub stamp-requires : goal.stamp-requires
stamp-requires g c = can-as _ _ _ _ c.in-SetDirty.is c.requires.can

pub returns-in-SetDirty : goal.returns-in-SetDirty
returns-in-SetDirty g c = asked-as _ _ _ _ _ _ _ c.in-SetDirty.is c.stamp.ensures

pub release-requires : goal.release-requires
release-requires g c = can-as _ _ _ _ c.in-Unpin.is c.requires.can

pub returns-in-Unpin : goal.returns-in-Unpin
returns-in-Unpin g c = asked-as _ _ _ _ _ _ _ c.in-Unpin.is c.release.ensures

pub release_repinned-requires : goal.release_repinned-requires
release_repinned-requires g c = can-as _ _ _ _ c.in-UnpinRepinned.is c.requires.can

pub returns-in-UnpinRepinned : goal.returns-in-UnpinRepinned
returns-in-UnpinRepinned g c = asked-as _ _ _ _ _ _ _ c.in-UnpinRepinned.is c.release_repinned.ensures

pub chain_read-requires : goal.chain_read-requires
chain_read-requires g c = can-as _ _ _ _ c.in-MdlBytes.is c.requires.can

pub returns-in-MdlBytes : goal.returns-in-MdlBytes
returns-in-MdlBytes g c = asked-as _ _ _ _ _ _ _ c.in-MdlBytes.is c.chain_read.ensures

pub chain_store-requires : goal.chain_store-requires
chain_store-requires g c = can-as _ _ _ _ c.in-MdlStore.is c.requires.can

pub returns-in-MdlStore : goal.returns-in-MdlStore
returns-in-MdlStore g c = asked-as _ _ _ _ _ _ _ c.in-MdlStore.is c.chain_store.ensures

pub chain_done-requires : goal.chain_done-requires
chain_done-requires g c = can-as _ _ _ _ c.in-MdlDone.is c.requires.can

pub returns-in-MdlDone : goal.returns-in-MdlDone
returns-in-MdlDone g c = asked-as _ _ _ _ _ _ _ c.in-MdlDone.is c.chain_done.ensures

pub chain_abort-requires : goal.chain_abort-requires
chain_abort-requires g c = can-as _ _ _ _ c.in-MdlAbort.is c.requires.can

pub returns-in-MdlAbort : goal.returns-in-MdlAbort
returns-in-MdlAbort g c = asked-as _ _ _ _ _ _ _ c.in-MdlAbort.is c.chain_abort.ensures

pub set_file_sizes-requires : goal.set_file_sizes-requires
set_file_sizes-requires g c = may-on (g.T.Turns.standing c.args.turns.now) _ c.args.names.now c.in-SetSizes.file.stream c.requires.can (can-as (g.T.Turns.standing c.args.turns.now) _ _ c.args.names.now c.in-SetSizes.is c.requires.can).servable

pub returns-in-SetSizes : goal.returns-in-SetSizes
returns-in-SetSizes g c =
    set-line _ _ c.args.names.now _ _ c.requires.can.good (call.SetSizes c.in-SetSizes.file c.in-SetSizes.allocation c.in-SetSizes.size) c.set_file_sizes.result (ap plain_call c.in-SetSizes.is) (omega arith) c.answered-in-SetSizes.ensures c.set_file_sizes.ensures

pub ask-requires : goal.ask-requires
ask-requires g c = record {
  can = record {
    known = (can-as (g.T.Turns.standing c.args.turns.now) _ _ c.args.names.now c.in-Query.is c.requires.can).servable;
    free = c.requires.can.free;
    none = c.requires.can.none;
  };
}

pub returns-in-Query : goal.returns-in-Query
returns-in-Query g c =
    query-line _ _ c.args.names.now _ _ c.requires.can.good c.in-Query.query c.ask.result (ap plain_call c.in-Query.is) c.replied.ensures c.ask.ensures.ends

pub flush-requires : goal.flush-requires
flush-requires g c = record { can = may-on (g.T.Turns.standing c.args.turns.now) _ c.args.names.now c.in-Flush.file.stream c.requires.can (can-as (g.T.Turns.standing c.args.turns.now) _ _ c.args.names.now c.in-Flush.is c.requires.can).servable }

pub returns-in-Flush : goal.returns-in-Flush
returns-in-Flush g c =
    flush-line _ _ c.args.names.now _ _ c.requires.can.good c.in-Flush.file c.in-Flush.span c.flush.result c.in-Flush.is c.answered-in-Flush.ensures c.flush.ensures.ends

pub set_log_handle-requires : goal.set_log_handle-requires
set_log_handle-requires g c = may-on (g.T.Turns.standing c.args.turns.now) _ c.args.names.now c.in-SetLog.file.stream c.requires.can (can-as (g.T.Turns.standing c.args.turns.now) _ _ c.args.names.now c.in-SetLog.is c.requires.can).servable

pub returns-in-SetLog : goal.returns-in-SetLog
returns-in-SetLog g c =
    set-line _ _ c.args.names.now _ _ c.requires.can.good (call.SetLog c.in-SetLog.file c.in-SetLog.handle) c.set_log_handle.result (ap plain_call c.in-SetLog.is) (omega arith) c.answered-in-SetLog.ensures c.set_log_handle.ensures

pub append-requires : goal.append-requires
append-requires g c = may-free _ _ c.args.names.now c.requires.can

pub returns-in-Append : goal.returns-in-Append
returns-in-Append g c =
    asked-as _ _ _ _ _ _ _ c.in-Append.is
    (append-line _ _ _ c.args.names.now c.append.ensures.full c.append.ensures.goes_on (c.append.ensures.good c.requires.can.good) c.in-Append.handle c.in-Append.bytes c.append.ensures.answered)

pub log_flush-requires : goal.log_flush-requires
log_flush-requires g c = record { can = may-free _ _ c.args.names.now c.requires.can }

pub returns-in-LogFlush : goal.returns-in-LogFlush
returns-in-LogFlush g c =
    asked-as _ _ _ _ _ _ _ c.in-LogFlush.is
    (flushed-line _ _ c.args.names.now c.args.action.now _ c.requires.can.good c.in-LogFlush.handle c.in-LogFlush.lsn c.log_flush.result c.answered-in-LogFlush.ensures c.log_flush.ensures.ends)

pub set_granularity-requires : goal.set_granularity-requires
set_granularity-requires g c = may-on (g.T.Turns.standing c.args.turns.now) _ c.args.names.now c.in-SetGranularity.file.stream c.requires.can (can-as (g.T.Turns.standing c.args.turns.now) _ _ c.args.names.now c.in-SetGranularity.is c.requires.can).servable

pub returns-in-SetGranularity : goal.returns-in-SetGranularity
returns-in-SetGranularity g c =
    set-line _ _ c.args.names.now _ _ c.requires.can.good (call.SetGranularity c.in-SetGranularity.file c.in-SetGranularity.bytes) c.set_granularity.result (ap plain_call c.in-SetGranularity.is) (omega arith) c.answered-in-SetGranularity.ensures c.set_granularity.ensures

pub set_attributes-requires : goal.set_attributes-requires
set_attributes-requires g c = may-on (g.T.Turns.standing c.args.turns.now) _ c.args.names.now c.in-SetAttributes.file.stream c.requires.can (can-as (g.T.Turns.standing c.args.turns.now) _ _ c.args.names.now c.in-SetAttributes.is c.requires.can).servable

pub returns-in-SetAttributes : goal.returns-in-SetAttributes
returns-in-SetAttributes g c =
    set-line _ _ c.args.names.now _ _ c.requires.can.good (call.SetAttributes c.in-SetAttributes.file c.in-SetAttributes.no_read_ahead c.in-SetAttributes.no_write_behind) c.set_attributes.result (ap plain_call c.in-SetAttributes.is) (omega arith) c.answered-in-SetAttributes.ensures c.set_attributes.ensures

pub set_threshold-requires : goal.set_threshold-requires
set_threshold-requires g c = may-on (g.T.Turns.standing c.args.turns.now) _ c.args.names.now c.in-SetThreshold.file.stream c.requires.can (can-as (g.T.Turns.standing c.args.turns.now) _ _ c.args.names.now c.in-SetThreshold.is c.requires.can).servable

pub returns-in-SetThreshold : goal.returns-in-SetThreshold
returns-in-SetThreshold g c =
    set-line _ _ c.args.names.now _ _ c.requires.can.good (call.SetThreshold c.in-SetThreshold.file c.in-SetThreshold.pages) c.set_threshold.result (ap plain_call c.in-SetThreshold.is) (omega arith) c.answered-in-SetThreshold.ensures c.set_threshold.ensures

pub read_along-requires : goal.read_along-requires
read_along-requires g c = may-on (g.T.Turns.standing c.args.turns.now) _ c.args.names.now c.in-Read.file.stream c.requires.can (can-as (g.T.Turns.standing c.args.turns.now) _ _ c.args.names.now c.in-Read.is c.requires.can).servable

pub returns-in-Read : goal.returns-in-Read
returns-in-Read g c =
    asked-as _ _ _ _ _ _ _ c.in-Read.is
    (read-line _ _ _ c.args.names.now c.read_along.ensures.full c.read_along.ensures.goes_on (c.read_along.ensures.good c.requires.can.good) c.in-Read.file c.in-Read.path c.in-Read.at c.in-Read.len c.read_along.ensures.answered)

pub write_extending-requires : goal.write_extending-requires
write_extending-requires g c = may-on (g.T.Turns.standing c.args.turns.now) _ c.args.names.now c.in-Write.file.stream c.requires.can (can-as (g.T.Turns.standing c.args.turns.now) _ _ c.args.names.now c.in-Write.is c.requires.can).servable

pub returns-in-Write : goal.returns-in-Write
returns-in-Write g c =
    asked-as _ _ _ _ _ _ _ c.in-Write.is
    (write-line _ _ _ c.args.names.now c.write_extending.ensures.full c.write_extending.ensures.goes_on (c.write_extending.ensures.good c.requires.can.good) c.in-Write.file c.in-Write.at c.in-Write.bytes c.write_extending.ensures.answered)

pub update_logged-requires : goal.update_logged-requires
update_logged-requires g c = may-on (g.T.Turns.standing c.args.turns.now) _ c.args.names.now c.in-Update.file.stream c.requires.can (can-as (g.T.Turns.standing c.args.turns.now) _ _ c.args.names.now c.in-Update.is c.requires.can).servable

pub returns-in-Update : goal.returns-in-Update
returns-in-Update g c =
    asked-as _ _ _ _ _ _ _ c.in-Update.is
    (update-line _ _ _ c.args.names.now c.update_logged.ensures.full c.update_logged.ensures.goes_on (c.update_logged.ensures.good c.requires.can.good) c.in-Update.file c.in-Update.at c.in-Update.bytes c.update_logged.ensures.answered)

pub lock-requires : goal.lock-requires
lock-requires g c = may-free (g.T.Turns.standing c.args.turns.now) _ c.args.names.now c.requires.can

pub returns-in-Lock : goal.returns-in-Lock
returns-in-Lock g c =
    asked-as _ _ _ _ _ _ _ c.in-Lock.is
    (lock-line _ _ _ c.args.names.now c.lock.ensures.full c.lock.ensures.goes_on (c.lock.ensures.good c.requires.can.good) c.in-Lock.file c.in-Lock.span c.in-Lock.exclusive c.lock.ensures.answered)

pub unlock-requires : goal.unlock-requires
unlock-requires g c = may-free (g.T.Turns.standing c.args.turns.now) _ c.args.names.now c.requires.can

pub returns-in-Unlock : goal.returns-in-Unlock
returns-in-Unlock g c =
    asked-as _ _ _ _ _ _ _ c.in-Unlock.is
    (unlock-line _ _ _ c.args.names.now c.unlock.ensures.full c.unlock.ensures.goes_on (c.unlock.ensures.good c.requires.can.good) c.in-Unlock.file c.in-Unlock.id c.unlock.ensures.answered)

pub levels-requires : goal.levels-requires
levels-requires g c = may-on (g.T.Turns.standing c.args.turns.now) _ c.args.names.now c.in-Levels.file.stream c.requires.can (can-as (g.T.Turns.standing c.args.turns.now) _ _ c.args.names.now c.in-Levels.is c.requires.can).servable

pub returns-in-Levels : goal.returns-in-Levels
returns-in-Levels g c =
    asked-as _ _ _ _ _ _ _ c.in-Levels.is
    (levels-line _ _ _ c.args.names.now c.levels.ensures.full c.levels.ensures.goes_on (c.levels.ensures.good c.requires.can.good) c.in-Levels.file c.levels.ensures.answered)

pub settle_stream-requires : goal.settle_stream-requires
settle_stream-requires g c = may-on (g.T.Turns.standing c.args.turns.now) _ c.args.names.now c.in-Settle.file.stream c.requires.can (can-as (g.T.Turns.standing c.args.turns.now) _ _ c.args.names.now c.in-Settle.is c.requires.can).servable

pub make_checkpoint-requires : goal.make_checkpoint-requires
make_checkpoint-requires g c =
    let servable = can-as (g.T.Turns.standing c.args.turns.now) _ _ c.args.names.now c.in-Checkpoint.is c.requires.can in
    record { can = may-free (g.T.Turns.standing c.args.turns.now) _ c.args.names.now c.requires.can; known = servable.servable.0; few = servable.servable.1 }

pub returns-in-Checkpoint : goal.returns-in-Checkpoint
returns-in-Checkpoint g c =
    asked-as _ _ _ _ _ _ _ c.in-Checkpoint.is
    (checkpoint-line _ _ _ c.args.names.now c.make_checkpoint.ensures.full c.make_checkpoint.ensures.goes_on (c.make_checkpoint.ensures.good c.requires.can.good) c.in-Checkpoint.streams c.in-Checkpoint.handle c.make_checkpoint.ensures.answered)

pub returns-in-Settle : goal.returns-in-Settle
returns-in-Settle g c =
    asked-as _ _ _ _ _ _ _ c.in-Settle.is
    (settle-line _ _ _ c.args.names.now c.settle_stream.ensures.full c.settle_stream.ensures.goes_on (c.settle_stream.ensures.good c.requires.can.good) c.in-Settle.file c.settle_stream.ensures.answered)

pub defer_write-requires : goal.defer_write-requires
defer_write-requires g c = may-on (g.T.Turns.standing c.args.turns.now) _ c.args.names.now c.in-Defer.file.stream c.requires.can (can-as (g.T.Turns.standing c.args.turns.now) _ _ c.args.names.now c.in-Defer.is c.requires.can).servable

pub returns-in-Defer : goal.returns-in-Defer
returns-in-Defer g c =
    asked-as _ _ _ _ _ _ _ c.in-Defer.is
    (defer-line _ _ _ c.args.names.now c.defer_write.ensures.full c.defer_write.ensures.goes_on (c.defer_write.ensures.good c.requires.can.good) c.in-Defer.file c.in-Defer.bytes c.in-Defer.retrying c.defer_write.ensures.answered)

pub post_all-requires : goal.post_all-requires
post_all-requires g c = may-free (g.T.Turns.standing c.args.turns.now) _ c.args.names.now c.requires.can

pub returns-in-Post : goal.returns-in-Post
returns-in-Post g c =
    asked-as _ _ _ _ _ _ _ c.in-Post.is
    (post-line _ _ _ c.args.names.now c.post_all.ensures.full c.post_all.ensures.goes_on (c.post_all.ensures.good c.requires.can.good) c.post_all.ensures.answered)

pub serve_tick-requires : goal.serve_tick-requires
serve_tick-requires g c = may-free (g.T.Turns.standing c.args.turns.now) _ c.args.names.now c.requires.can

pub returns-in-Tick : goal.returns-in-Tick
returns-in-Tick g c =
    asked-as _ _ _ _ _ _ _ c.in-Tick.is
    (tick-line _ _ _ c.args.names.now c.serve_tick.ensures.full c.serve_tick.ensures.goes_on (c.serve_tick.ensures.good c.requires.can.good) c.serve_tick.ensures.answered)
