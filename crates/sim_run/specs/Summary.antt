-- The summary of a run.
use Rattle.std.specs.Prelude.{ℕ, ◌+◌, ◌==◌, if◌then◌else◌, List, [], ◌∷◌, ◌++◌, fold, codes}
use Rattle.std.specs.Fmt.{decimal}
use Rattle.node_step.specs.declared.local_app.AppCount.{AppCount}
use Rattle.scenario_form.specs.declared.scenario.App.{App}
use Rattle.scenario_form.specs.declared.scenario.Kind.{Kind}
use Rattle.scenario_form.specs.declared.scenario.Kind.TheVariants.{UdpSend, UdpEchoClient, UdpSink, UdpEchoServer, TcpSink, OnOff, Ping, TcpBulk}

-- the name of a kind of application, as scenarios write it
abbrev pub kind_name : Kind → List ℕ
kind_name UdpSend = codes "udp-send"
kind_name UdpEchoClient = codes "udp-echo-client"
kind_name UdpSink = codes "udp-sink"
kind_name UdpEchoServer = codes "udp-echo-server"
kind_name TcpSink = codes "tcp-sink"
kind_name OnOff = codes "on-off"
kind_name Ping = codes "ping"
kind_name TcpBulk = codes "tcp-bulk"

-- an application that has sent and received nothing
abbrev pub no_count : ℕ → AppCount
no_count app = record { app = app; sent = 0; sent_bytes = 0; got = 0; got_bytes = 0 }

-- the count, where it is that of an application
abbrev pub of_app : ℕ → AppCount → AppCount → AppCount
of_app app found c = if c.app == app then c else found

-- what an application has sent and received, from the counts of all
abbrev pub count_of : ℕ → List AppCount → AppCount
count_of app counts = fold (of_app app) (no_count app) counts

-- an application's line: its number and kind, packets and bytes sent, packets and bytes received
unfoldable pub app_line : ℕ → Kind → AppCount → List ℕ
app_line number kind c =
    codes "app " ++ decimal number ++ codes " " ++ kind_name kind
    ++ codes " sent " ++ decimal c.sent ++ codes " " ++ decimal c.sent_bytes
    ++ codes " received " ++ decimal c.got ++ codes " " ++ decimal c.got_bytes ++ codes "\n"

-- a line for each application, in the order of the scenario; the first has this number
abbrev pub app_lines : ℕ → List App → (ℕ → AppCount) → List ℕ
app_lines number [] count = []
app_lines number (a ∷ apps) count = app_line number a.kind (count number) ++ app_lines (number + 1) apps count

-- how many events fired and packets were dropped
unfoldable pub totals : ℕ → ℕ → List ℕ
totals events drops = codes "events " ++ decimal events ++ codes "\ndrops " ++ decimal drops ++ codes "\n"

-- the totals, and what each application has sent and received
abbrev pub summary : ℕ → ℕ → List App → List AppCount → List ℕ
summary events drops apps counts = totals events drops ++ app_lines 0 apps (λ app. count_of app counts)
