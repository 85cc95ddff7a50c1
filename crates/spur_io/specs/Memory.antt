-- What contracts see of files and of a sink in memory.
use Rattle.std.specs.Prelude.{ℕ, ◌+◌, ◌-◌, ◌^◌, min, List, ◌++◌, Result, Ok, Err}
use Rattle.spur_io.specs.Store.{FileMap}
use Rattle.spur_io.specs.Stored.{stored}
use Rattle.spur_io.specs.Listed.{after_call}
use Rattle.spur_io.specs.declared.files.FileFault.{FileFault}
use Rattle.spur_io.specs.declared.files.FileFault.TheVariants as file
use Rattle.spur_io.specs.declared.sink.SinkFault.{SinkFault}
use Rattle.spur_io.specs.declared.sink.SinkFault.TheVariants as sink
use Rattle.spur_io.specs.declared.memory_files.CallKind.{CallKind}
use Rattle.spur_io.specs.declared.memory_files.CallKind.TheVariants.{Read, Begin, Append}
use Rattle.spur_io.specs.declared.memory_files.MemoryFiles.{MemoryFiles}
use Rattle.spur_io.specs.declared.memory_sink.MemorySink.{MemorySink}

-- a store of files: its bytes, the numbers of the calls that are to fail, the most that a read gives, and the faults so far
pub record FileStore : Type 0 where
  pub files : FileMap
  pub listed_reads : List ℕ
  pub listed_begins : List ℕ
  pub listed_appends : List ℕ
  pub read_limit : ℕ
  pub read_faults : ℕ
  pub write_faults : ℕ

-- what contracts see of files in memory
abbrev pub file_store : MemoryFiles → FileStore
file_store s =
    record {
      files = stored s.files.list.items;
      listed_reads = s.listed_reads.ahead.items;
      listed_begins = s.listed_begins.ahead.items;
      listed_appends = s.listed_appends.ahead.items;
      read_limit = s.read_limit;
      read_faults = s.read_faults;
      write_faults = s.write_faults;
    }

-- the numbers that are listed for calls of a kind
abbrev pub listed : CallKind → FileStore → List ℕ
listed Read store = store.listed_reads
listed Begin store = store.listed_begins
listed Append store = store.listed_appends

-- the store with these numbers for calls of a kind, and all else as it was
abbrev pub with_listed : CallKind → List ℕ → FileStore → FileStore
with_listed Read numbers store = record store { listed_reads = numbers }
with_listed Begin numbers store = record store { listed_begins = numbers }
with_listed Append numbers store = record store { listed_appends = numbers }

-- the store after a call of a kind was counted
abbrev pub counted : CallKind → FileStore → FileStore
counted kind store = with_listed kind (after_call (listed kind store)) store

-- a count of faults after one more; it stands still at the last value of a u64
abbrev pub one_more : ℕ → ℕ
one_more count = min (count + 1) (2 ^ 64 - 1)

-- after a read no file has changed, and a refusal was counted
abbrev pub after_read : FileStore → Result ℕ FileFault → FileStore
after_read store (Ok n) = counted Read store
after_read store (Err e) = record (counted Read store) { read_faults = one_more store.read_faults }

-- after a change of the files to `new`; a refusal that was listed was counted and changed none
abbrev pub after_change : CallKind → FileStore → FileMap → Result (Unit {0}) FileFault → FileStore
after_change kind store new (Ok x) = record (counted kind store) { files = new }
after_change kind store new (Err file.Failed) = record (counted kind store) { write_faults = one_more store.write_faults }
after_change kind store new (Err file.Memory) = record (counted kind store) { files = new }

-- a sink: its bytes, the numbers of the puts that are to fail, and the faults so far
pub record ByteSink : Type 0 where
  pub bytes : List ℕ
  pub listed : List ℕ
  pub faults : ℕ

-- what contracts see of a sink in memory
abbrev pub byte_sink : MemorySink → ByteSink
byte_sink s = record { bytes = s.bytes.items; listed = s.listed_puts.ahead.items; faults = s.faults }

-- after a put: with the bytes, or at a refusal without any of them
abbrev pub after_put : List ℕ → ByteSink → Result (Unit {0}) SinkFault → ByteSink
after_put bytes s (Ok x) = record { bytes = s.bytes ++ bytes; listed = after_call s.listed; faults = s.faults }
after_put bytes s (Err sink.Failed) = record { bytes = s.bytes; listed = after_call s.listed; faults = one_more s.faults }
after_put bytes s (Err sink.Memory) = record { bytes = s.bytes; listed = after_call s.listed; faults = s.faults }
