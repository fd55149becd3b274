-- What a receiver's answer tells the application.
use Rattle.std.specs.Prelude.{if◌then◌else◌, List, [], ◌∷◌, ◌++◌}
use Rattle.tcp_stream.specs.History.{Told, delivery}
use Rattle.tcp_stream.specs.History.Told.{End}
use Rattle.tcp_stream.specs.declared.receiver.Received.{Received}

abbrev pub told_of : Received → List Told
told_of r = delivery r.bytes.items ++ (if r.end then End ∷ [] else [])
