-- What the objects in memory hold, and the calls that they have had.
use Rattle.std.specs.Prelude.{ℕ, Bool, List, drop}
use Rattle.std.specs.List.{list_any}
use Rattle.std.specs.Str.{bytes_eq}
use Rattle.outside.specs.declared.store.File.{File}
use Rattle.outside.specs.declared.memory.MemSource.{MemSource}
use Rattle.outside.specs.declared.memory.MemStore.{MemStore}
use Rattle.outside.specs.declared.memory.MemSink.{MemSink}
use Rattle.outside.specs.Calls.{Calls}

-- the calls that a source has had
abbrev pub source_calls : MemSource → Calls
source_calls source = source.calls

-- the calls that a store has had
abbrev pub store_calls : MemStore → Calls
store_calls store = store.calls

-- the calls that a sink has had
abbrev pub sink_calls : MemSink → Calls
sink_calls sink = sink.calls

-- the bytes that a source has left
abbrev pub bytes_left : MemSource → List ℕ
bytes_left source = drop source.at source.bytes.items

-- the files that a store holds
abbrev pub held_files : MemStore → List File
held_files store = store.files.items

-- the bytes that a sink has got
abbrev pub bytes_got : MemSink → List ℕ
bytes_got sink = sink.bytes.items

-- whether a file of this name is held
abbrev pub holds_name : List ℕ → List File → Bool
holds_name name files = list_any (λ file. bytes_eq file.name name) files
